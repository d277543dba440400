-- Worked command lines, limits and lines: a wrong row is refused by the check.
use Rattle.std.proofs.Common.{◌≡◌, ◌++◌, true, false, List, ℕ, [], ◌∷◌, codes, replicate, None, Some, refl}
use Rattle.std.specs.Fmt.{decimal}
use Rattle.disk_trait.specs.declared.disk.Area.TheVariants.{Oplog as OplogArea, Tree, BitsA, BitsB, Blocks as BlocksArea}
use Rattle.node_set.specs.declared.fault.Place.TheVariants.{Node as NodePlace, BitsCopy, Leaf}
use Rattle.merkle_nodes.specs.declared.limit.What.TheVariants.{Block, Blocks, Bytes, Batch, BatchBytes, Fork, Oplog, Commits}
use Rattle.merkle_batch.specs.Limits.{limit_of}
use Rattle.hypercore_cli.specs.Words.{is_well_formed, is_number, number_of}
use Rattle.hypercore_cli.specs.LineLimits.{limit_at, limit_in}
use Rattle.hypercore_cli.specs.Batches.{is_full_for, batches_within, batches_of, closed_of}
use Rattle.hypercore_cli.specs.Outcomes.{status_of, place_text, line_of}
use Rattle.hypercore_cli.specs.declared.outcome.Outcome.TheVariants.{StoreFault, NoCore, CoreExists, OutOfRange, Unavailable, Limit, BadStore, Damaged}

-- ---- command lines

abbrev key : List ℕ
key = replicate 64 97

prove_6 : is_well_formed (codes "prove" ∷ key ∷ codes "6" ∷ []) ≡ true
prove_6 = refl

prove_without_index : is_well_formed (codes "prove" ∷ key ∷ []) ≡ false
prove_without_index = refl

prove_two_indices : is_well_formed (codes "prove" ∷ key ∷ codes "6" ∷ codes "7" ∷ []) ≡ false
prove_two_indices = refl

check_with_index : is_well_formed (codes "check" ∷ key ∷ codes "6" ∷ []) ≡ false
check_with_index = refl

check_key : is_well_formed (codes "check" ∷ key ∷ []) ≡ true
check_key = refl

-- no command yet
info_of_a_name : is_well_formed (codes "info" ∷ key ∷ codes "log" ∷ []) ≡ false
info_of_a_name = refl

cores_of_names : (is_well_formed (codes "init" ∷ key ∷ codes "log" ∷ []) ≡ true) × (is_well_formed (codes "append" ∷ key ∷ codes "log" ∷ []) ≡ true)
    × (is_well_formed (codes "get" ∷ key ∷ codes "log" ∷ codes "0" ∷ []) ≡ true)
cores_of_names = (refl, refl, refl)

get_without_index : is_well_formed (codes "get" ∷ key ∷ codes "log" ∷ []) ≡ false
get_without_index = refl

longest_name : (is_well_formed (codes "init" ∷ key ∷ replicate 255 97 ∷ []) ≡ true) × (is_well_formed (codes "init" ∷ key ∷ replicate 256 97 ∷ []) ≡ false)
longest_name = (refl, refl)

no_name : (is_well_formed (codes "init" ∷ key ∷ [] ∷ []) ≡ false) × (is_well_formed (codes "init" ∷ key ∷ codes "-log" ∷ []) ≡ false)
no_name = (refl, refl)

zero_is_a_number : is_number (codes "0") ≡ true
zero_is_a_number = refl

no_zero_in_front : is_number (codes "06") ≡ false
no_zero_in_front = refl

no_sign : (is_number (codes "-1") ≡ false) × (is_number (codes "+1") ≡ false)
no_sign = (refl, refl)

eighteen_digits : (is_number (replicate 18 57) ≡ true) × (is_number (replicate 19 57) ≡ false)
eighteen_digits = (refl, refl)

number_640 : number_of (codes "640") ≡ 640
number_640 = refl

-- ---- limits of lines

longest_line : (limit_at 0 0 1048576 ≡ None) × (limit_at 0 0 1048577 ≡ Some (limit_of Block 1048576))
longest_line = (refl, refl)

most_lines : (limit_at 1023 0 0 ≡ None) × (limit_at 1024 0 0 ≡ Some (limit_of Batch 1024))
most_lines = (refl, refl)

most_bytes : (limit_at 1023 8388600 8 ≡ None) × (limit_at 0 8388600 9 ≡ Some (limit_of BatchBytes 8388608))
most_bytes = (refl, refl)

-- where two limits are passed: a line too long, then a line too many, then too many bytes
long_line_first : limit_at 1024 8388608 1048577 ≡ Some (limit_of Block 1048576)
long_line_first = refl

too_many_lines_next : limit_at 1024 8388608 1 ≡ Some (limit_of Batch 1024)
too_many_lines_next = refl

no_line : limit_in 0 0 [] ≡ None
no_line = refl

second_line_passes : limit_in 1023 0 ([] ∷ [] ∷ []) ≡ Some (limit_of Batch 1024)
second_line_passes = refl

-- the bytes of each line count for the next
bytes_add_up : (limit_in 0 8388600 (codes "abcd" ∷ codes "efgh" ∷ []) ≡ None)
    × (limit_in 0 8388600 (codes "abcd" ∷ codes "efghi" ∷ []) ≡ Some (limit_of BatchBytes 8388608))
bytes_add_up = (refl, refl)

-- ---- batches

no_line_no_batch : (batches_of [] ≡ []) × (closed_of [] ≡ [])
no_line_no_batch = (refl, refl)

-- one of as many blocks as it may have, and one more
most_blocks_of_a_batch : (batches_within 2 9 ([] ∷ [] ∷ []) ≡ ([] ∷ [] ∷ []) ∷ []) × (batches_within 2 9 ([] ∷ [] ∷ [] ∷ []) ≡ ([] ∷ [] ∷ []) ∷ ([] ∷ []) ∷ [])
most_blocks_of_a_batch = (refl, refl)

-- one of as many bytes as it may have, and one more
most_bytes_of_a_batch : (batches_within 9 5 (codes "ab" ∷ codes "cde" ∷ []) ≡ (codes "ab" ∷ codes "cde" ∷ []) ∷ [])
    × (batches_within 9 5 (codes "ab" ∷ codes "cdef" ∷ []) ≡ (codes "ab" ∷ []) ∷ (codes "cdef" ∷ []) ∷ [])
most_bytes_of_a_batch = (refl, refl)

-- an empty line still has room where no byte more has
empty_line_in_a_full_batch : batches_within 9 2 (codes "ab" ∷ [] ∷ codes "c" ∷ codes "d" ∷ [])
    ≡ (codes "ab" ∷ [] ∷ []) ∷ (codes "c" ∷ codes "d" ∷ []) ∷ []
empty_line_in_a_full_batch = refl

-- the bytes of each batch are counted anew
bytes_of_the_next_batch : batches_within 9 3 (codes "ab" ∷ codes "cd" ∷ codes "e" ∷ codes "f" ∷ [])
    ≡ (codes "ab" ∷ []) ∷ (codes "cd" ∷ codes "e" ∷ []) ∷ (codes "f" ∷ []) ∷ []
bytes_of_the_next_batch = refl

-- with the limits of an append
full_at_a_limit : (is_full_for 1024 8388608 (replicate 1023 []) [] ≡ false) × (is_full_for 1024 8388608 (replicate 1024 []) [] ≡ true)
full_at_a_limit = (refl, refl)

last_goes_on : closed_of (codes "a" ∷ codes "b" ∷ []) ≡ []
last_goes_on = refl

-- ---- statuses and lines

statuses : (end max : ℕ) → (status_of (OutOfRange end) ≡ 12) × (status_of (Limit Block max) ≡ 14)
statuses end max = (refl, refl)

out_of_range : (end : ℕ) → line_of (OutOfRange end) ≡ codes "out of range: " ++ decimal end ++ 10 ∷ []
out_of_range end = refl

limit_block : (max : ℕ) → line_of (Limit Block max) ≡ codes "limit block: " ++ decimal max ++ 10 ∷ []
limit_block max = refl

limit_blocks : (max : ℕ) → line_of (Limit Blocks max) ≡ codes "limit blocks: " ++ decimal max ++ 10 ∷ []
limit_blocks max = refl

limit_bytes : (max : ℕ) → line_of (Limit Bytes max) ≡ codes "limit bytes: " ++ decimal max ++ 10 ∷ []
limit_bytes max = refl

limit_batch : (max : ℕ) → line_of (Limit Batch max) ≡ codes "limit batch: " ++ decimal max ++ 10 ∷ []
limit_batch max = refl

limit_batch_bytes : (max : ℕ) → line_of (Limit BatchBytes max) ≡ codes "limit batch-bytes: " ++ decimal max ++ 10 ∷ []
limit_batch_bytes max = refl

limit_fork : (max : ℕ) → line_of (Limit Fork max) ≡ codes "limit fork: " ++ decimal max ++ 10 ∷ []
limit_fork max = refl

limit_oplog : (max : ℕ) → line_of (Limit Oplog max) ≡ codes "limit oplog: " ++ decimal max ++ 10 ∷ []
limit_oplog max = refl

limit_commits : (max : ℕ) → line_of (Limit Commits max) ≡ codes "limit commits: " ++ decimal max ++ 10 ∷ []
limit_commits max = refl

statuses_of_cores : (index at : ℕ) (want have : List ℕ) → (status_of StoreFault ≡ 5) × (status_of NoCore ≡ 10) × (status_of CoreExists ≡ 11)
    × (status_of (Unavailable index) ≡ 13) × (status_of (BadStore Tree at) ≡ 15) × (status_of (Damaged (Leaf index) want have) ≡ 16)
statuses_of_cores index at want have = (refl, refl, refl, refl, refl, refl)

unavailable : (index : ℕ) → line_of (Unavailable index) ≡ codes "unavailable block " ++ decimal index ++ 10 ∷ []
unavailable index = refl

bad_store : (at : ℕ) → (line_of (BadStore OplogArea at) ≡ codes "bad store oplog at " ++ decimal at ++ 10 ∷ [])
    × (line_of (BadStore Tree at) ≡ codes "bad store tree at " ++ decimal at ++ 10 ∷ [])
    × (line_of (BadStore BitsA at) ≡ codes "bad store bits-a at " ++ decimal at ++ 10 ∷ [])
    × (line_of (BadStore BitsB at) ≡ codes "bad store bits-b at " ++ decimal at ++ 10 ∷ [])
    × (line_of (BadStore BlocksArea at) ≡ codes "bad store blocks at " ++ decimal at ++ 10 ∷ [])
bad_store at = (refl, refl, refl, refl, refl)

places : (index : ℕ) → (place_text (NodePlace index) ≡ codes "node " ++ decimal index) × (place_text (Leaf index) ≡ codes "block " ++ decimal index)
    × (place_text (BitsCopy BitsA) ≡ codes "bits-a") × (place_text (BitsCopy BitsB) ≡ codes "bits-b")
places index = (refl, refl, refl, refl)
