-- Worked cases, computed by the definitions.
use Rattle.std.proofs.Common.{◌≡◌, ◌+◌, ◌*◌, ℕ, true, false, List, [], ◌∷◌, None, Some, Ok, Err, refl}
use Rattle.flat_tree.specs.Covers.{largest_up_to, cover_in as cover_steps, cover_of}
use Rattle.flat_tree.specs.declared.limits.TheConstants.{MAX_BLOCK_BYTES, MAX_SIBLINGS, MAX_UPGRADE_NODES}
use Rattle.compact_enc.specs.Spelling.{uint_spelling}
use Rattle.compact_enc.specs.Reading.{bytes_at, wide_at, uint_at, buffer_at}
use Rattle.proof_form.specs.declared.request.Request.{Request}
use Rattle.proof_form.specs.declared.form.Bad.{Bad}
use Rattle.proof_form.specs.declared.form.Bad.TheVariants.{Short, NotShortest, TooLarge, Unknown, Flags, Count, Page, Trailing}
use Rattle.proof_form.specs.Form.{start_of, span_of}
use Rattle.proof_form.specs.Requests.{request_spelling, want_of, reach_of, request_of}
use Rattle.proof_form.specs.Twigs.{cover_in}
use Rattle.proof_form.specs.Proofs.{proof_of, upgrade_of}
use Rattle.wire_frames.specs.Frames.{frame_spelling}
use Rattle.wire_messages.specs.declared.message.TheConstants.{OPEN_CORE, ANSWER, UNWANT, PAGE_BLOCKS, PAGE_BYTES, MAX_ANSWER_BYTES}
use Rattle.wire_messages.specs.Messages.{Message, sync, ask, cancel, no_data, want, bitfield, range, extension, message_spelling}
use Rattle.wire_messages.specs.Reading.{both_of, page_of, drop_of, kind_of, fields_of, message_of}

-- the frame of a message, and the message of its body
abbrev BothWays : Message → List ℕ → List ℕ → Type 0
BothWays message body frame = (message_of body ≡ Ok message) × (frame_spelling (message_spelling message) ≡ frame)

-- a body has its first bad place here
abbrev IsBad : List ℕ → ℕ → Bad → Type 0
IsBad body place why = message_of body ≡ Err (record { at = place; why = why })

-- ---- both ways

pub sync_of_nothing : BothWays (sync 0 0) (1 ∷ 0 ∷ 0 ∷ []) (3 ∷ 0 ∷ 0 ∷ 1 ∷ 0 ∷ 0 ∷ [])
unfolding message_of kind_of fields_of both_of uint_at uint_spelling
sync_of_nothing = (refl, refl)

pub sync_of_300 : BothWays (sync 0 300) (1 ∷ 0 ∷ 0xfd ∷ 0x2c ∷ 1 ∷ []) (5 ∷ 0 ∷ 0 ∷ 1 ∷ 0 ∷ 0xfd ∷ 0x2c ∷ 1 ∷ [])
unfolding message_of kind_of fields_of both_of uint_at wide_at bytes_at uint_spelling
sync_of_300 = (refl, refl)

pub cancel_of_5 : BothWays (cancel 5) (3 ∷ 5 ∷ []) (2 ∷ 0 ∷ 0 ∷ 3 ∷ 5 ∷ [])
unfolding message_of kind_of fields_of uint_at uint_spelling
cancel_of_5 = (refl, refl)

pub cancel_of_the_largest : BothWays (cancel 4294967295) (3 ∷ 0xfe ∷ 0xff ∷ 0xff ∷ 0xff ∷ 0xff ∷ []) (6 ∷ 0 ∷ 0 ∷ 3 ∷ 0xfe ∷ 0xff ∷ 0xff ∷ 0xff ∷ 0xff ∷ [])
unfolding message_of kind_of fields_of uint_at wide_at bytes_at uint_spelling
cancel_of_the_largest = (refl, refl)

pub no_data_of_1 : BothWays (no_data 1) (5 ∷ 1 ∷ []) (2 ∷ 0 ∷ 0 ∷ 5 ∷ 1 ∷ [])
unfolding message_of kind_of fields_of uint_at uint_spelling
no_data_of_1 = (refl, refl)

-- under fork 0 an upgrade from 0 to 300 blocks
abbrev to_300 : Request
to_300 = record { fork = 0; block = None; hash = None; seek = None; upgrade = Some (record { start = 0; length = 300 }) }

-- under fork 0 a block with so many siblings
abbrev block_with : ℕ → ℕ → Request
block_with index nodes = record { fork = 0; block = Some (record { index = index; nodes = nodes }); hash = None; seek = None; upgrade = None }

pub upgrade_to_300 : BothWays (ask 0 to_300) (2 ∷ 0 ∷ 0 ∷ 8 ∷ 0 ∷ 0xfd ∷ 0x2c ∷ 1 ∷ []) (8 ∷ 0 ∷ 0 ∷ 2 ∷ 0 ∷ 0 ∷ 8 ∷ 0 ∷ 0xfd ∷ 0x2c ∷ 1 ∷ [])
unfolding message_of kind_of fields_of both_of request_of start_of want_of reach_of span_of uint_at wide_at bytes_at request_spelling uint_spelling
upgrade_to_300 = (refl, refl)

pub block_100 : BothWays (ask 1 (block_with 100 8)) (2 ∷ 1 ∷ 0 ∷ 1 ∷ 100 ∷ 8 ∷ []) (6 ∷ 0 ∷ 0 ∷ 2 ∷ 1 ∷ 0 ∷ 1 ∷ 100 ∷ 8 ∷ [])
unfolding message_of kind_of fields_of both_of request_of start_of want_of reach_of span_of uint_at request_spelling uint_spelling
block_100 = (refl, refl)

pub block_116 : BothWays (ask 17 (block_with 116 4)) (2 ∷ 17 ∷ 0 ∷ 1 ∷ 116 ∷ 4 ∷ []) (6 ∷ 0 ∷ 0 ∷ 2 ∷ 17 ∷ 0 ∷ 1 ∷ 116 ∷ 4 ∷ [])
unfolding message_of kind_of fields_of both_of request_of start_of want_of reach_of span_of uint_at request_spelling uint_spelling
block_116 = (refl, refl)

pub want_of_40 : BothWays (want 100 40) (6 ∷ 100 ∷ 40 ∷ []) (3 ∷ 0 ∷ 0 ∷ 6 ∷ 100 ∷ 40 ∷ [])
unfolding message_of kind_of fields_of both_of uint_at uint_spelling
want_of_40 = (refl, refl)

-- the second page, with its first two blocks and its tenth
pub second_page : BothWays (bitfield 32768 (3 ∷ 2 ∷ [])) (8 ∷ 0xfd ∷ 0 ∷ 0x80 ∷ 2 ∷ 3 ∷ 2 ∷ []) (7 ∷ 0 ∷ 0 ∷ 8 ∷ 0xfd ∷ 0 ∷ 0x80 ∷ 2 ∷ 3 ∷ 2 ∷ [])
unfolding message_of kind_of fields_of both_of page_of uint_at wide_at bytes_at buffer_at uint_spelling
second_page = (refl, refl)

pub no_bits : BothWays (bitfield 0 []) (8 ∷ 0 ∷ 0 ∷ []) (3 ∷ 0 ∷ 0 ∷ 8 ∷ 0 ∷ 0 ∷ [])
unfolding message_of kind_of fields_of both_of page_of uint_at bytes_at buffer_at uint_spelling
no_bits = (refl, refl)

pub range_held : BothWays (range false 100 40) (9 ∷ 0 ∷ 100 ∷ 40 ∷ []) (4 ∷ 0 ∷ 0 ∷ 9 ∷ 0 ∷ 100 ∷ 40 ∷ [])
unfolding message_of kind_of fields_of both_of drop_of uint_at uint_spelling
range_held = (refl, refl)

pub range_dropped : BothWays (range true 100 40) (9 ∷ 1 ∷ 100 ∷ 40 ∷ []) (4 ∷ 0 ∷ 0 ∷ 9 ∷ 1 ∷ 100 ∷ 40 ∷ [])
unfolding message_of kind_of fields_of both_of drop_of uint_at uint_spelling
range_dropped = (refl, refl)

pub extension_of_two : BothWays (extension 7 (0x68 ∷ 0x69 ∷ [])) (10 ∷ 7 ∷ 2 ∷ 0x68 ∷ 0x69 ∷ []) (5 ∷ 0 ∷ 0 ∷ 10 ∷ 7 ∷ 2 ∷ 0x68 ∷ 0x69 ∷ [])
unfolding message_of kind_of fields_of both_of uint_at bytes_at buffer_at uint_spelling
extension_of_two = (refl, refl)

-- ---- bodies that are no message

pub nothing_at_all : IsBad [] 0 Short
unfolding message_of kind_of
nothing_at_all = refl

-- a type is one byte, and not a number of more
pub types_above : IsBad (11 ∷ []) 0 Unknown × IsBad (0xfd ∷ []) 0 Unknown
unfolding message_of kind_of
types_above = (refl, refl)

pub a_byte_too_many : IsBad (3 ∷ 5 ∷ 0xff ∷ []) 2 Trailing
unfolding message_of kind_of fields_of uint_at
a_byte_too_many = refl

pub siblings_too_many : IsBad (2 ∷ 1 ∷ 0 ∷ 1 ∷ 0 ∷ (MAX_SIBLINGS + 1) ∷ []) 5 TooLarge
unfolding message_of kind_of fields_of both_of request_of start_of want_of uint_at
siblings_too_many = refl

pub block_and_seek : IsBad (2 ∷ 1 ∷ 0 ∷ 5 ∷ 0 ∷ 0 ∷ []) 3 Flags
unfolding message_of kind_of fields_of both_of request_of start_of want_of uint_at
block_and_seek = refl

pub half_a_page : IsBad (8 ∷ 0xfd ∷ 0 ∷ 0x40 ∷ 0 ∷ []) 1 Page
unfolding message_of kind_of fields_of both_of page_of uint_at wide_at bytes_at
half_a_page = refl

-- a start above its range is told as such, and not as no page's first block
pub no_first_block : IsBad (8 ∷ 1 ∷ 0 ∷ []) 1 Page
unfolding message_of kind_of fields_of both_of page_of uint_at
no_first_block = refl

pub page_too_large : IsBad (8 ∷ 0xff ∷ 1 ∷ 0 ∷ 0 ∷ 0 ∷ 1 ∷ 0 ∷ 0 ∷ 0 ∷ 0 ∷ []) 1 TooLarge
unfolding message_of kind_of fields_of both_of page_of uint_at wide_at bytes_at
page_too_large = refl

pub neither_held_nor_dropped : IsBad (9 ∷ 2 ∷ []) 1 TooLarge
unfolding message_of kind_of fields_of both_of drop_of uint_at
neither_held_nor_dropped = refl

pub one_twig_of_two : IsBad (4 ∷ 1 ∷ 0 ∷ 8 ∷ 5 ∷ 8 ∷ 1 ∷ []) 6 Count
unfolding message_of kind_of fields_of both_of proof_of start_of upgrade_of span_of cover_in uint_at largest_up_to cover_steps cover_of
one_twig_of_two = refl

pub upgrade_to_its_start : IsBad (4 ∷ 1 ∷ 0 ∷ 8 ∷ 8 ∷ 8 ∷ []) 5 Count
unfolding message_of kind_of fields_of both_of proof_of start_of upgrade_of span_of uint_at
upgrade_to_its_start = refl

pub id_not_shortest : IsBad (3 ∷ 0xfd ∷ 5 ∷ 0 ∷ []) 1 NotShortest
unfolding message_of kind_of fields_of uint_at wide_at bytes_at
id_not_shortest = refl

pub id_too_large : IsBad (3 ∷ 0xff ∷ 0 ∷ 0 ∷ 0 ∷ 0 ∷ 1 ∷ 0 ∷ 0 ∷ 0 ∷ []) 1 TooLarge
unfolding message_of kind_of fields_of uint_at wide_at bytes_at
id_too_large = refl

-- ---- sizes

-- type, id, fork and flags; then the parts: a block, a node, a sought byte and an upgrade
abbrev most_trail : ℕ
most_trail = 1 + 41 * MAX_SIBLINGS

abbrev most_parts : ℕ
most_parts = (5 + (5 + MAX_BLOCK_BYTES) + most_trail) + (5 + 41 + most_trail) + 9 + (5 + 5 + (1 + 41 * MAX_UPGRADE_NODES) + 64)

pub largest_answer : 1 + 5 + 5 + 1 + most_parts ≡ MAX_ANSWER_BYTES
largest_answer = refl

-- ---- limits, and the types of which no row above speaks

page_blocks_is : PAGE_BLOCKS ≡ 32768
page_blocks_is = refl

page_bytes_is : PAGE_BYTES ≡ 4096
page_bytes_is = refl

other_types : (OPEN_CORE ≡ 0) × (ANSWER ≡ 4) × (UNWANT ≡ 7)
other_types = (refl, refl, refl)
