-- Worked cases, computed by the definitions.
use Rattle.std.proofs.Common.{◌≡◌, ℕ, List, [], ◌∷◌, ◌++◌, ◌+◌, ◌*◌, length, replicate, Ok, Err, refl}
use Rattle.commit_book.specs.declared.commit.Commit.TheVariants.{Append, Truncate, Clear, Fetch, Upgrade, UpgradeFetch, Reorg, ReorgFetch}
use Rattle.flat_tree.specs.Subtrees.{number}
use Rattle.flat_tree.specs.Roots.{full_roots_of, roots_below}
use Rattle.merkle_nodes.specs.declared.roots.Head.{Head}
use Rattle.compact_enc.specs.Spelling.{uint_spelling}
use Rattle.compact_enc.specs.Reading.{bytes_at, wide_at, uint_at}
use Rattle.compact_enc.specs.Input.{Input}
use Rattle.oplog_form.specs.declared.header.Header.{Header}
use Rattle.oplog_form.specs.declared.entry.Entry.{Entry}
use Rattle.oplog_form.specs.Form.{just_of, both_of}
use Rattle.oplog_form.specs.Heads.{head_in}
use Rattle.oplog_form.specs.Nodes.{twig_in, nodes_in, roots_in, index_in, record_in, rising_in, records_in}
use Rattle.oplog_form.specs.Commits.{commit_spelling, numbers_in, commit_in}
use Rattle.oplog_form.specs.Headers.{header_spelling, header_in, header_of}
use Rattle.oplog_form.specs.Entries.{entry_spelling, entry_in, entry_of}
use Rattle.flat_tree.specs.declared.limits.TheConstants.{MAX_BLOCKS, MAX_BATCH_BLOCKS, MAX_ROOTS}
use Rattle.oplog_form.specs.declared.header.TheConstants.{MAX_HEADER_BYTES}
use Rattle.oplog_form.specs.declared.commit.TheConstants.{MAX_NUMBER}
use Rattle.oplog_form.specs.declared.entry.TheConstants.{MAX_ENTRY_BYTES, MAX_ENTRY_NODES}

-- ---- headers

-- the state of a new store
abbrev new_store : Header
new_store = record { id = replicate 32 0x11; head = record { fork = 0; length = 0; signature = replicate 64 0 }; roots = []; bits = replicate 32 0x22 }

pub new_store_spelled : header_spelling new_store ≡ 1 ∷ replicate 32 0x11 ++ (0 ∷ 0 ∷ replicate 64 0 ++ (0 ∷ replicate 32 0x22))
unfolding header_spelling uint_spelling
new_store_spelled = refl

-- behind the 32 bytes of a frame's head it makes a frame of 164
pub new_store_bytes : length (header_spelling new_store) ≡ 132
unfolding header_spelling uint_spelling
new_store_bytes = refl

pub new_store_read : header_of (1 ∷ replicate 32 0x11 ++ (0 ∷ 0 ∷ replicate 64 0 ++ (0 ∷ replicate 32 0x22))) ≡ Ok new_store
unfolding header_in just_of head_in roots_in nodes_in twig_in uint_at wide_at bytes_at full_roots_of roots_below
new_store_read = refl

-- 5 blocks under fork 300: the roots are nodes 3 and 8
abbrev of_5 : Header
of_5 = record {
  id = replicate 32 0x11;
  head = record { fork = 300; length = 5; signature = replicate 64 0x55 };
  roots = record { index = 3; size = 40; hash = replicate 32 0x33 } ∷ record { index = 8; size = 0; hash = replicate 32 0x44 } ∷ [];
  bits = replicate 32 0x22;
}

abbrev of_5_bytes : List ℕ
of_5_bytes = 1 ∷ replicate 32 0x11 ++ (0xfd ∷ 0x2c ∷ 1 ∷ 5 ∷ replicate 64 0x55 ++ (2 ∷ 40 ∷ replicate 32 0x33 ++ (0 ∷ replicate 32 0x44 ++ replicate 32 0x22)))

pub of_5_spelled : header_spelling of_5 ≡ of_5_bytes
unfolding header_spelling uint_spelling
of_5_spelled = refl

pub of_5_read : header_of of_5_bytes ≡ Ok of_5
unfolding header_in just_of head_in roots_in nodes_in twig_in uint_at wide_at bytes_at full_roots_of roots_below number
of_5_read = refl

-- what is behind the version and an id
abbrev behind_id : List ℕ → List ℕ
behind_id bytes = 1 ∷ replicate 32 0x11 ++ bytes

-- another version, also where more is bad, and one that isn't in its shortest spelling
pub version_0 : header_of (0 ∷ replicate 32 0x11 ++ (0 ∷ 0 ∷ replicate 64 0 ++ (0 ∷ replicate 32 0x22))) ≡ Err (record { at = 0 })
unfolding header_in just_of uint_at wide_at bytes_at
version_0 = refl

pub version_2_alone : header_of (2 ∷ []) ≡ Err (record { at = 0 })
unfolding header_in just_of uint_at wide_at bytes_at
version_2_alone = refl

pub version_too_long : header_of (0xfd ∷ 1 ∷ 0 ∷ replicate 32 0x11) ≡ Err (record { at = 0 })
unfolding header_in just_of uint_at wide_at bytes_at
version_too_long = refl

pub id_cut_off : header_of (1 ∷ replicate 31 0x11) ≡ Err (record { at = 1 })
unfolding header_in just_of uint_at wide_at bytes_at
id_cut_off = refl

-- fork 2 ^ 32, and a length one above the most
pub fork_too_large : header_of (behind_id (0xff ∷ 0 ∷ 0 ∷ 0 ∷ 0 ∷ 1 ∷ 0 ∷ 0 ∷ 0 ∷ [])) ≡ Err (record { at = 33 })
unfolding header_in just_of head_in uint_at wide_at bytes_at
fork_too_large = refl

pub length_too_large : header_of (behind_id (0 ∷ uint_spelling (MAX_BLOCKS + 1) ++ replicate 64 0)) ≡ Err (record { at = 34 })
unfolding header_in just_of head_in uint_spelling uint_at wide_at bytes_at
length_too_large = refl

-- one root fewer and one more than the length has
pub no_root_of_one : header_of (behind_id (0 ∷ 1 ∷ replicate 64 0 ++ (0 ∷ replicate 32 0x22))) ≡ Err (record { at = 99 })
unfolding header_in just_of head_in roots_in nodes_in twig_in uint_at wide_at bytes_at full_roots_of roots_below
no_root_of_one = refl

pub two_roots_of_one : header_of (behind_id (0 ∷ 1 ∷ replicate 64 0 ++ (2 ∷ []))) ≡ Err (record { at = 99 })
unfolding header_in just_of head_in roots_in nodes_in twig_in uint_at wide_at bytes_at full_roots_of roots_below
two_roots_of_one = refl

-- size 2 ^ 40 + 1
pub root_too_large : header_of (behind_id (0 ∷ 1 ∷ replicate 64 0 ++ (1 ∷ 0xff ∷ 1 ∷ 0 ∷ 0 ∷ 0 ∷ 0 ∷ 1 ∷ 0 ∷ 0 ∷ replicate 64 0))) ≡ Err (record { at = 100 })
unfolding header_in just_of head_in roots_in nodes_in twig_in uint_at wide_at bytes_at full_roots_of roots_below
root_too_large = refl

pub byte_behind_a_header : header_of (behind_id (0 ∷ 0 ∷ replicate 64 0 ++ (0 ∷ replicate 33 0x22))) ≡ Err (record { at = 132 })
unfolding header_in just_of head_in roots_in nodes_in twig_in uint_at wide_at bytes_at full_roots_of roots_below
byte_behind_a_header = refl

-- ---- commits

-- the kinds in order, each with its numbers in the order of its fields
pub commits_spelled : (commit_spelling (Append 9) ≡ 0 ∷ 9 ∷ []) × (commit_spelling (Truncate 7 8) ≡ 1 ∷ 7 ∷ 8 ∷ []) × (commit_spelling (Clear 2 5) ≡ 2 ∷ 2 ∷ 5 ∷ [])
    × (commit_spelling (Fetch 4) ≡ 3 ∷ 4 ∷ []) × (commit_spelling (Upgrade 6) ≡ 4 ∷ 6 ∷ []) × (commit_spelling (UpgradeFetch 6 1) ≡ 5 ∷ 6 ∷ 1 ∷ [])
    × (commit_spelling (Reorg 8 7 3) ≡ 6 ∷ 8 ∷ 7 ∷ 3 ∷ []) × (commit_spelling (ReorgFetch 8 7 3 5) ≡ 7 ∷ 8 ∷ 7 ∷ 3 ∷ 5 ∷ [])
unfolding uint_spelling
commits_spelled = (refl, refl, refl, refl, refl, refl, refl, refl)

-- so many bytes, and no byte more is read
abbrev ahead : ℕ → Input
ahead place = record { place = place; rest = 0xaa ∷ [] }

abbrev front : List ℕ → Input
front bytes = record { place = 0; rest = bytes ++ 0xaa ∷ [] }

pub commits_read : (commit_in (front (0 ∷ 9 ∷ [])) ≡ Ok (Append 9, ahead 2)) × (commit_in (front (1 ∷ 7 ∷ 8 ∷ [])) ≡ Ok (Truncate 7 8, ahead 3)) × (commit_in (front (2 ∷ 2 ∷ 5 ∷ [])) ≡ Ok (Clear 2 5, ahead 3))
    × (commit_in (front (3 ∷ 4 ∷ [])) ≡ Ok (Fetch 4, ahead 2)) × (commit_in (front (4 ∷ 6 ∷ [])) ≡ Ok (Upgrade 6, ahead 2)) × (commit_in (front (5 ∷ 6 ∷ 1 ∷ [])) ≡ Ok (UpgradeFetch 6 1, ahead 3))
    × (commit_in (front (6 ∷ 8 ∷ 7 ∷ 3 ∷ [])) ≡ Ok (Reorg 8 7 3, ahead 4)) × (commit_in (front (7 ∷ 8 ∷ 7 ∷ 3 ∷ 5 ∷ [])) ≡ Ok (ReorgFetch 8 7 3 5, ahead 5))
unfolding commit_in numbers_in both_of uint_at wide_at bytes_at
commits_read = (refl, refl, refl, refl, refl, refl, refl, refl)

-- a kind that there isn't, and one that isn't in its shortest spelling
pub kind_8 : entry_of (8 ∷ 0 ∷ []) ≡ Err (record { at = 0 })
unfolding entry_in commit_in uint_at wide_at bytes_at
kind_8 = refl

pub kind_too_long : entry_of (0xfd ∷ 0 ∷ 0 ∷ 0 ∷ []) ≡ Err (record { at = 0 })
unfolding entry_in commit_in uint_at wide_at bytes_at
kind_too_long = refl

-- number 2 ^ 32
pub number_too_large : entry_of (1 ∷ 0 ∷ 0xff ∷ 0 ∷ 0 ∷ 0 ∷ 0 ∷ 1 ∷ 0 ∷ 0 ∷ 0 ∷ []) ≡ Err (record { at = 2 })
unfolding entry_in commit_in numbers_in both_of uint_at wide_at bytes_at
number_too_large = refl

-- ---- entries

abbrev head_of : ℕ → Head
head_of blocks = record { fork = 0; length = blocks; signature = replicate 64 0x55 }

-- the first block, of 5 bytes
abbrev first_block : Entry
first_block = record { commit = Append 1; head = head_of 1; records = record { index = 0; size = 5; hash = replicate 32 0x33 } ∷ [] }

abbrev first_block_bytes : List ℕ
first_block_bytes = 0 ∷ 1 ∷ 0 ∷ 1 ∷ replicate 64 0x55 ++ (1 ∷ 0 ∷ 5 ∷ replicate 32 0x33)

pub first_block_spelled : entry_spelling first_block ≡ first_block_bytes
unfolding entry_spelling uint_spelling
first_block_spelled = refl

pub first_block_length : length (entry_spelling first_block) ≡ 103
unfolding entry_spelling uint_spelling
first_block_length = refl

pub first_block_read : entry_of first_block_bytes ≡ Ok first_block
unfolding entry_in commit_in numbers_in head_in records_in rising_in record_in index_in twig_in uint_at wide_at bytes_at
first_block_read = refl

-- the blocks 0 to 2 are given up, which makes no node
pub clear_read : entry_of (2 ∷ 0 ∷ 3 ∷ 0 ∷ 4 ∷ replicate 64 0x55 ++ (0 ∷ [])) ≡ Ok (record { commit = Clear 0 3; head = head_of 4; records = [] })
unfolding entry_in commit_in numbers_in both_of head_in records_in rising_in uint_at wide_at bytes_at
clear_read = refl

-- the second block of 2: nodes 1 and 2
abbrev two_records : ℕ → ℕ → List ℕ
two_records one other = 0 ∷ 1 ∷ 0 ∷ 2 ∷ replicate 64 0x55 ++ (2 ∷ one ∷ 9 ∷ replicate 32 0x33 ++ (other ∷ 4 ∷ replicate 32 0x44))

pub rising_read : entry_of (two_records 1 2)
    ≡ Ok (record { commit = Append 1; head = head_of 2; records = record { index = 1; size = 9; hash = replicate 32 0x33 } ∷ record { index = 2; size = 4; hash = replicate 32 0x44 } ∷ [] })
unfolding entry_in commit_in numbers_in head_in records_in rising_in record_in index_in twig_in uint_at wide_at bytes_at
rising_read = refl

-- the same number again, and one below the one before
pub number_again : entry_of (two_records 2 2) ≡ Err (record { at = 103 })
unfolding entry_in commit_in numbers_in head_in records_in rising_in record_in index_in twig_in uint_at wide_at bytes_at
number_again = refl

pub number_falls : entry_of (two_records 2 1) ≡ Err (record { at = 103 })
unfolding entry_in commit_in numbers_in head_in records_in rising_in record_in index_in twig_in uint_at wide_at bytes_at
number_falls = refl

-- more records than there are, also the most that can be told
pub record_missing : entry_of (0 ∷ 1 ∷ 0 ∷ 1 ∷ replicate 64 0x55 ++ (2 ∷ 0 ∷ 5 ∷ replicate 32 0x33)) ≡ Err (record { at = 103 })
unfolding entry_in commit_in numbers_in head_in records_in rising_in record_in index_in twig_in uint_at wide_at bytes_at
record_missing = refl

pub records_missing : entry_of (0 ∷ 1 ∷ 0 ∷ 1 ∷ replicate 64 0x55 ++ (0xff ∷ replicate 8 0xff ++ (0 ∷ 5 ∷ replicate 32 0x33))) ≡ Err (record { at = 111 })
unfolding entry_in commit_in numbers_in head_in records_in rising_in record_in index_in twig_in uint_at wide_at bytes_at
records_missing = refl

-- one fewer
pub record_behind : entry_of (0 ∷ 1 ∷ 0 ∷ 1 ∷ replicate 64 0x55 ++ (0 ∷ 0 ∷ 5 ∷ replicate 32 0x33)) ≡ Err (record { at = 69 })
unfolding entry_in commit_in numbers_in head_in records_in rising_in uint_at wide_at bytes_at
record_behind = refl

pub hash_cut_off : entry_of (0 ∷ 1 ∷ 0 ∷ 1 ∷ replicate 64 0x55 ++ (1 ∷ 0 ∷ 5 ∷ replicate 31 0x33)) ≡ Err (record { at = 71 })
unfolding entry_in commit_in numbers_in head_in records_in rising_in record_in index_in twig_in uint_at wide_at bytes_at
hash_cut_off = refl

pub nothing_at_all : entry_of [] ≡ Err (record { at = 0 })
unfolding entry_in commit_in uint_at
nothing_at_all = refl

-- ---- limits

max_header_bytes_is : MAX_HEADER_BYTES ≡ 4064
max_header_bytes_is = refl

max_number_is : MAX_NUMBER ≡ 4294967295
max_number_is = refl

max_entry_bytes_is : MAX_ENTRY_BYTES ≡ 131072
max_entry_bytes_is = refl

max_entry_nodes_is : MAX_ENTRY_NODES ≡ 2 * MAX_BATCH_BLOCKS + MAX_ROOTS
max_entry_nodes_is = refl
