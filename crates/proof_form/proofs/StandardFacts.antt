-- Worked cases, computed by the definitions.
use Rattle.std.proofs.Common.{◌≡◌, ◌+◌, ℕ, true, false, List, [], ◌∷◌, map, None, Some, Ok, Err, refl}
use Rattle.std.specs.List.{range_with_len}
use Rattle.flat_tree.specs.Covers.{largest_up_to, cover_in as cover_steps, cover_of}
use Rattle.compact_enc.specs.Spelling.{uint_spelling}
use Rattle.compact_enc.specs.Reading.{bytes_at, wide_at, uint_at, buffer_at}
use Rattle.compact_enc.specs.Input.{Input}
use Rattle.proof_form.specs.declared.request.Request.{Request}
use Rattle.proof_form.specs.declared.form.Bad.TheVariants.{Short, NotShortest, TooLarge, Flags, Count}
use Rattle.proof_form.specs.Flags.{are_request_flags, are_proof_flags}
use Rattle.proof_form.specs.Form.{start_of, span_of}
use Rattle.proof_form.specs.Requests.{request_spelling, want_of, reach_of, request_of}
use Rattle.proof_form.specs.Twigs.{twig_in, twigs_in, trail_in, cover_in}
use Rattle.proof_form.specs.Proofs.{Proof, proof_spelling, block_of, hash_of, upgrade_of, proof_of}
use Rattle.proof_form.specs.declared.fields.TheConstants.{MAX_NUMBER}
use Rattle.flat_tree.specs.declared.limits.TheConstants.{MAX_SIBLINGS}

-- an input of which nothing is read yet
abbrev pub input : List ℕ → Input
input bytes = record { place = 0; rest = bytes }

-- the flags of 0 to 17 that a request may have: 1 to 15 without 5, 7, 13, 15
pub request_flags_up_to_17 : map are_request_flags (range_with_len 0 18) ≡
    (false ∷ true ∷ true ∷ true ∷ true ∷ false ∷ true ∷ false ∷ true ∷ true ∷ true ∷ true ∷ true ∷ false ∷ true ∷ false ∷ false ∷ false ∷ [])
request_flags_up_to_17 = refl

-- and a proof: 1, 2, 3, 5, 7, 8, 9, 10, 11, 13, 15
pub proof_flags_up_to_17 : map are_proof_flags (range_with_len 0 18) ≡
    (false ∷ true ∷ true ∷ true ∷ false ∷ true ∷ false ∷ true ∷ true ∷ true ∷ true ∷ true ∷ false ∷ true ∷ false ∷ true ∷ false ∷ false ∷ [])
proof_flags_up_to_17 = refl

-- ---- requests

-- an upgrade from nothing to 300 blocks
abbrev pub to_300 : Request
to_300 = record { fork = 0; block = None; hash = None; seek = None; upgrade = Some (record { start = 0; length = 300 }) }

pub to_300_spelled : request_spelling to_300 ≡ 0 ∷ 8 ∷ 0 ∷ 0xfd ∷ 0x2c ∷ 1 ∷ []
unfolding request_spelling uint_spelling
to_300_spelled = refl

pub to_300_read : request_of (input (0 ∷ 8 ∷ 0 ∷ 0xfd ∷ 0x2c ∷ 1 ∷ 7 ∷ [])) ≡ Ok (to_300, record { place = 6; rest = 7 ∷ [] })
unfolding request_of start_of want_of reach_of span_of uint_at wide_at bytes_at
to_300_read = refl

-- block 116 with 4 siblings
abbrev pub block_116 : Request
block_116 = record { fork = 0; block = Some (record { index = 116; nodes = 4 }); hash = None; seek = None; upgrade = None }

pub block_116_spelled : request_spelling block_116 ≡ 0 ∷ 1 ∷ 116 ∷ 4 ∷ []
unfolding request_spelling uint_spelling
block_116_spelled = refl

pub block_116_read : request_of (input (0 ∷ 1 ∷ 116 ∷ 4 ∷ [])) ≡ Ok (block_116, record { place = 4; rest = [] })
unfolding request_of start_of want_of reach_of span_of uint_at wide_at bytes_at
block_116_read = refl

-- the largest fork, and one above it
pub largest_fork : request_of (input (0xfe ∷ 0xff ∷ 0xff ∷ 0xff ∷ 0xff ∷ 1 ∷ 116 ∷ 4 ∷ []))
    ≡ Ok (record { fork = 4294967295; block = block_116.block; hash = None; seek = None; upgrade = None }, record { place = 8; rest = [] })
unfolding request_of start_of want_of reach_of span_of uint_at wide_at bytes_at
largest_fork = refl

pub fork_too_large : request_of (input (0xff ∷ 0 ∷ 0 ∷ 0 ∷ 0 ∷ 1 ∷ 0 ∷ 0 ∷ 0 ∷ 1 ∷ [])) ≡ Err (record { at = 0; why = TooLarge })
unfolding request_of start_of want_of reach_of span_of uint_at wide_at bytes_at
fork_too_large = refl

-- more siblings than any block has
pub siblings_too_many : request_of (input (0 ∷ 1 ∷ 0 ∷ (MAX_SIBLINGS + 1) ∷ [])) ≡ Err (record { at = 3; why = TooLarge })
unfolding request_of start_of want_of reach_of span_of uint_at wide_at bytes_at
siblings_too_many = refl

-- a block and a seek
pub block_and_seek_asked : request_of (input (0 ∷ 5 ∷ 0 ∷ 0 ∷ [])) ≡ Err (record { at = 1; why = Flags })
unfolding request_of start_of want_of reach_of span_of uint_at wide_at bytes_at
block_and_seek_asked = refl

-- no part at all, a part that there isn't, however large the number
pub no_part_asked : request_of (input (0 ∷ 0 ∷ [])) ≡ Err (record { at = 1; why = Flags })
unfolding request_of start_of want_of reach_of span_of uint_at wide_at bytes_at
no_part_asked = refl

pub flags_of_eight_bytes : request_of (input (0 ∷ 0xff ∷ 8 ∷ 0 ∷ 0 ∷ 0 ∷ 0 ∷ 0 ∷ 0 ∷ 1 ∷ [])) ≡ Err (record { at = 1; why = Flags })
unfolding request_of start_of want_of reach_of span_of uint_at wide_at bytes_at
flags_of_eight_bytes = refl

pub flags_not_shortest : request_of (input (0 ∷ 0xfd ∷ 8 ∷ 0 ∷ [])) ≡ Err (record { at = 1; why = NotShortest })
unfolding request_of start_of want_of reach_of span_of uint_at wide_at bytes_at
flags_not_shortest = refl

-- a length that isn't above its start, and one that is also above its range
pub upgrade_to_its_start : request_of (input (0 ∷ 8 ∷ 8 ∷ 8 ∷ [])) ≡ Err (record { at = 3; why = Count })
unfolding request_of start_of want_of reach_of span_of uint_at wide_at bytes_at
upgrade_to_its_start = refl

pub upgrade_too_large : request_of (input (0 ∷ 8 ∷ 8 ∷ 0xff ∷ 0 ∷ 0 ∷ 0 ∷ 0 ∷ 1 ∷ 0 ∷ 0 ∷ 0 ∷ [])) ≡ Err (record { at = 3; why = TooLarge })
unfolding request_of start_of want_of reach_of span_of uint_at wide_at bytes_at
upgrade_too_large = refl

-- ---- proofs

-- the empty block 2 with no sibling, which has a byte that was sought
abbrev pub sought : Proof
sought = record { fork = 1; block = Some (record { index = 2; bytes = []; trail = [] }); hash = None; seek = Some 9; upgrade = None }

pub sought_spelled : proof_spelling sought ≡ 1 ∷ 5 ∷ 2 ∷ 0 ∷ 0 ∷ 9 ∷ []
unfolding proof_spelling uint_spelling
sought_spelled = refl

pub sought_read : proof_of (input (1 ∷ 5 ∷ 2 ∷ 0 ∷ 0 ∷ 9 ∷ 7 ∷ [])) ≡ Ok (sought, record { place = 6; rest = 7 ∷ [] })
unfolding proof_of start_of block_of hash_of upgrade_of trail_in twigs_in twig_in cover_in span_of uint_at wide_at bytes_at buffer_at
sought_read = refl

-- a seek with no block
pub seek_alone : proof_of (input (0 ∷ 4 ∷ 0 ∷ [])) ≡ Err (record { at = 1; why = Flags })
unfolding proof_of start_of block_of hash_of upgrade_of trail_in twigs_in twig_in cover_in span_of uint_at wide_at bytes_at buffer_at
seek_alone = refl

-- the blocks 5 to 8 have two subtrees, and no other number will do; a number above the most is told as such
pub one_twig_of_two : proof_of (input (0 ∷ 8 ∷ 5 ∷ 8 ∷ 1 ∷ [])) ≡ Err (record { at = 4; why = Count })
unfolding proof_of start_of block_of hash_of upgrade_of trail_in twigs_in twig_in cover_in span_of uint_at wide_at bytes_at buffer_at largest_up_to cover_steps cover_of
one_twig_of_two = refl

pub three_twigs_of_two : proof_of (input (0 ∷ 8 ∷ 5 ∷ 8 ∷ 3 ∷ [])) ≡ Err (record { at = 4; why = Count })
unfolding proof_of start_of block_of hash_of upgrade_of trail_in twigs_in twig_in cover_in span_of uint_at wide_at bytes_at buffer_at largest_up_to cover_steps cover_of
three_twigs_of_two = refl

pub two_twigs_cut_off : proof_of (input (0 ∷ 8 ∷ 5 ∷ 8 ∷ 2 ∷ 1 ∷ 7 ∷ [])) ≡ Err (record { at = 6; why = Short })
unfolding proof_of start_of block_of hash_of upgrade_of trail_in twigs_in twig_in cover_in span_of uint_at wide_at bytes_at buffer_at largest_up_to cover_steps cover_of
two_twigs_cut_off = refl

pub twigs_too_many : proof_of (input (0 ∷ 8 ∷ 5 ∷ 8 ∷ 252 ∷ [])) ≡ Err (record { at = 4; why = TooLarge })
unfolding proof_of start_of block_of hash_of upgrade_of trail_in twigs_in twig_in cover_in span_of uint_at wide_at bytes_at buffer_at largest_up_to cover_steps cover_of
twigs_too_many = refl

pub proof_to_its_start : proof_of (input (0 ∷ 8 ∷ 8 ∷ 8 ∷ [])) ≡ Err (record { at = 3; why = Count })
unfolding proof_of start_of block_of hash_of upgrade_of trail_in twigs_in twig_in cover_in span_of uint_at wide_at bytes_at buffer_at
proof_to_its_start = refl

-- ---- limits

max_number_is : MAX_NUMBER ≡ 4294967295
max_number_is = refl
