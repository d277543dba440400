-- Worked cases, computed by the definitions. The hash of no bytes is that of Python's hashlib.
use Rattle.std.proofs.Common.{◌≡◌, ℕ, true, false, List, [], ◌∷◌, map, codes, replicate, Ok, Err, if◌then◌else◌, refl}
use Rattle.std.specs.List.{flat_map}
use Rattle.blake2b_hash.specs.Blake2b.{G, round, rounds, F, words, state_after, last_state, blake2b, hash_of}
use Rattle.bit_field.specs.Pages.{number_from, bytes_from}
use Rattle.flat_tree.specs.Subtrees.{number, end_block_of, first_block_of}
use Rattle.flat_tree.specs.Roots.{full_roots_of, roots_below}
use Rattle.flat_tree.specs.Covers.{cover_of, cover_in, largest_up_to}
use Rattle.disk_trait.specs.declared.disk.Area.TheVariants.{Oplog, BitsA}
use Rattle.commit_book.specs.declared.commit.Commit.{Commit}
use Rattle.commit_book.specs.declared.commit.Commit.TheVariants.{Append, Truncate, Clear}
use Rattle.merkle_nodes.specs.declared.node.Node.{Node}
use Rattle.merkle_nodes.specs.declared.roots.Head.{Head}
use Rattle.merkle_nodes.specs.Sound.{below}
use Rattle.merkle_nodes.specs.Joined.{joined, value_in}
use Rattle.compact_enc.specs.Spelling.{uint_spelling}
use Rattle.compact_enc.specs.Reading.{bytes_at, wide_at, uint_at}
use Rattle.oplog_form.specs.declared.entry.Entry.{Entry}
use Rattle.oplog_form.specs.declared.header.Header.{Header}
use Rattle.oplog_form.specs.Form.{just_of}
use Rattle.oplog_form.specs.Heads.{head_in}
use Rattle.oplog_form.specs.Nodes.{twig_in, nodes_in, roots_in, index_in, record_in, rising_in, records_in}
use Rattle.oplog_form.specs.Commits.{numbers_in, commit_in}
use Rattle.oplog_form.specs.Headers.{header_spelling, header_in}
use Rattle.oplog_form.specs.Entries.{entry_spelling, entry_in}
use Rattle.oplog_file.specs.Frames.{Frame, front_of}
use Rattle.oplog_file.specs.Files.{File}
use Rattle.node_set.specs.declared.fault.CoreFault.TheVariants.{BadStore, Damaged}
use Rattle.node_set.specs.declared.fault.Place.TheVariants.{BitsCopy}
use Rattle.node_set.specs.Closure.{any_under}
use Rattle.node_set.specs.Contents.{Content, start, roots, node_at, no_twig}
use Rattle.node_set.specs.Nodes.{with_nodes}
use Rattle.node_set.specs.Changes.{append_content, truncate_content, clear_content, upgrade_content}
use Rattle.core_disk.specs.Opened.{Opened, start_of, entry_after}
use Rattle.core_disk.specs.Following.{follows, any_from}
use Rattle.core_disk.specs.Areas.{Areas, held_in, tree_values, entries_give, file_gives, areas_give}
use Rattle.core_disk.specs.Areas.{head_of}
use Rattle.core_disk.specs.Written.{is_new}
use Rattle.core_disk.specs.declared.layout.TheConstants.{NODE_BYTES, ID_AT}

-- ---- a new store

abbrev id : List ℕ
id = replicate 32 0x11

abbrev hash_of_nothing : List ℕ
hash_of_nothing = 14 ∷ 87 ∷ 81 ∷ 192 ∷ 38 ∷ 229 ∷ 67 ∷ 178 ∷ 232 ∷ 171 ∷ 46 ∷ 176 ∷ 96 ∷ 153 ∷ 218 ∷ 161 ∷ 209 ∷ 229 ∷ 223 ∷ 71 ∷ 119 ∷ 143 ∷ 119 ∷ 135 ∷ 250 ∷ 171 ∷ 69 ∷ 205 ∷ 241 ∷ 47 ∷ 227 ∷ 168 ∷ []

abbrev header_with : List ℕ → Header
header_with bits = record { id = id; head = record { fork = 0; length = 0; signature = replicate 64 0 }; roots = []; bits = bits }

abbrev file_with : List ℕ → List Frame → File
file_with bits frames = record { header = record { epoch = 0; number = 0; payload = header_spelling (header_with bits) }; frames = frames }

abbrev no_bytes : Areas
no_bytes area = []

abbrev nothing : Opened
nothing = start_of (header_with hash_of_nothing) (held_in [] 0) (tree_values [])

pub new_store_gives : file_gives id no_bytes (file_with hash_of_nothing []) ≡ Ok nothing
unfolding entries_give header_spelling uint_spelling header_in just_of head_in roots_in nodes_in twig_in uint_at wide_at bytes_at full_roots_of roots_below bytes_from number_from G round rounds F words state_after last_state blake2b hash_of
new_store_gives = refl

-- a store of another id, and one with another hash of its bits
pub another_core : file_gives (replicate 32 0x12) no_bytes (file_with hash_of_nothing []) ≡ Err (BadStore Oplog 33)
unfolding header_spelling uint_spelling header_in just_of head_in roots_in nodes_in twig_in uint_at wide_at bytes_at full_roots_of roots_below
another_core = refl

pub another_hash : file_gives id no_bytes (file_with (replicate 32 0x22) []) ≡ Err (Damaged (BitsCopy BitsA) (replicate 32 0x22) hash_of_nothing)
unfolding header_spelling uint_spelling header_in just_of head_in roots_in nodes_in twig_in uint_at wide_at bytes_at full_roots_of roots_below bytes_from number_from G round rounds F words state_after last_state blake2b hash_of
another_hash = refl

pub no_store : areas_give id no_bytes ≡ Err (BadStore Oplog 0)
unfolding front_of G round rounds F words state_after last_state blake2b hash_of
no_store = refl

-- ---- two blocks behind it

abbrev two_blocks : Content
two_blocks = append_content (map (λ byte. byte ∷ []) (codes "ab")) (replicate 64 1) start

abbrev two_head : Head
two_head = head_of two_blocks

abbrev two_nodes : List Node
two_nodes = node_at two_blocks.node 0 0 ∷ node_at two_blocks.node 1 0 ∷ node_at two_blocks.node 0 1 ∷ []

abbrev entry_with : Commit → Head → List Node → Entry
entry_with commit head records = record { commit = commit; head = head; records = records }

abbrev two_appended : Entry
two_appended = entry_with (Append 2) two_head two_nodes

abbrev frame_with : ℕ → Entry → Frame
frame_with number e = record { epoch = 0; number = number; payload = entry_spelling e }

abbrev two : Opened
two = entry_after nothing two_appended

pub two_follow : follows nothing two_appended ≡ true
unfolding with_nodes joined any_under end_block_of first_block_of number full_roots_of roots_below any_from G round rounds F words state_after last_state blake2b hash_of
two_follow = refl

pub two_give : file_gives id no_bytes (file_with hash_of_nothing (frame_with 1 two_appended ∷ [])) ≡ Ok two
unfolding with_nodes joined any_under end_block_of first_block_of number any_from entries_give entry_spelling entry_in commit_in numbers_in records_in rising_in record_in index_in header_spelling uint_spelling header_in just_of head_in roots_in nodes_in twig_in uint_at wide_at bytes_at full_roots_of roots_below bytes_from number_from G round rounds F words state_after last_state blake2b hash_of
two_give = refl

pub two_is : (two.head.length ≡ 2) × (two.roots ≡ roots two_blocks) × (two.held 0 ≡ true) × (two.held 1 ≡ true) × (two.held 2 ≡ false)
    × (two.nodes 0 0 ≡ two_blocks.node 0 0) × (two.nodes 0 1 ≡ two_blocks.node 0 1) × (two.nodes 1 0 ≡ two_blocks.node 1 0)
unfolding with_nodes joined any_under end_block_of first_block_of number full_roots_of roots_below G round rounds F words state_after last_state blake2b hash_of
two_is = (refl, refl, refl, refl, refl, refl, refl, refl)

-- ---- entries that don't follow

-- another length than the commit's, another fork, no root among the records, nothing to clear, more blocks than there are
pub none_follows : (follows nothing (entry_with (Append 1) two_head two_nodes) ≡ false)
    × (follows nothing (entry_with (Append 2) (record two_head { fork = 1 }) two_nodes) ≡ false)
    × (follows nothing (entry_with (Append 2) two_head (node_at two_blocks.node 0 0 ∷ node_at two_blocks.node 0 1 ∷ [])) ≡ false)
    × (follows nothing (entry_with (Clear 0 0) nothing.head []) ≡ false)
    × (follows nothing (entry_with (Truncate 1 1) (record two_head { fork = 1; length = 1 }) two_nodes) ≡ false)
unfolding with_nodes joined any_under end_block_of first_block_of number full_roots_of roots_below any_from G round rounds F words state_after last_state blake2b hash_of
none_follows = (refl, refl, refl, refl, refl)

-- where it is the second one, its frame's place is told: the first has 203 bytes
pub second_doesn't_follow : file_gives id no_bytes (file_with hash_of_nothing (frame_with 1 two_appended ∷ frame_with 2 two_appended ∷ [])) ≡ Err (BadStore Oplog 8395)
unfolding with_nodes joined any_under end_block_of first_block_of number any_from entries_give entry_spelling entry_in commit_in numbers_in records_in rising_in record_in index_in header_spelling uint_spelling header_in just_of head_in roots_in nodes_in twig_in uint_at wide_at bytes_at full_roots_of roots_below bytes_from number_from G round rounds F words state_after last_state blake2b hash_of
second_doesn't_follow = refl

-- a kind that there isn't: the place of the field
pub another_kind : file_gives id no_bytes (file_with hash_of_nothing (record { epoch = 0; number = 1; payload = 8 ∷ [] } ∷ [])) ≡ Err (BadStore Oplog 8224)
unfolding entries_give entry_in commit_in header_spelling uint_spelling header_in just_of head_in roots_in nodes_in twig_in uint_at wide_at bytes_at full_roots_of roots_below bytes_from number_from G round rounds F words state_after last_state blake2b hash_of
another_kind = refl

-- ---- which nodes have to be written

-- their numbers, by depth
abbrev written : Content → Content → List ℕ
written m after = flat_map (λ depth. flat_map (λ offset. if is_new m after depth offset then number depth offset ∷ [] else []) (below 8)) (below 4)

abbrev signature : List ℕ
signature = replicate 64 1

abbrev three_blocks : Content
three_blocks = append_content (map (λ byte. byte ∷ []) (codes "c")) signature two_blocks

abbrev seven_blocks : Content
seven_blocks = append_content (map (λ byte. byte ∷ []) (codes "defg")) signature three_blocks

-- an append writes all nodes that become full
pub appended_are_written : (written start two_blocks ≡ 0 ∷ 2 ∷ 1 ∷ []) × (written two_blocks three_blocks ≡ 4 ∷ [])
unfolding joined any_under end_block_of first_block_of number G round rounds F words state_after last_state blake2b hash_of
appended_are_written = (refl, refl)

-- a truncation writes the roots that weren't roots, a clearing nothing
pub cut_writes_roots : (written seven_blocks (truncate_content 5 1 signature seven_blocks) ≡ 8 ∷ []) × (written seven_blocks (truncate_content 4 1 signature seven_blocks) ≡ [])
    × (written seven_blocks (truncate_content 3 1 signature seven_blocks) ≡ 4 ∷ 1 ∷ [])
unfolding joined any_under end_block_of first_block_of number G round rounds F words state_after last_state blake2b hash_of
cut_writes_roots = (refl, refl, refl)

pub clear_writes_nothing : written seven_blocks (clear_content 2 6 seven_blocks) ≡ []
unfolding joined any_under end_block_of first_block_of number G round rounds F words state_after last_state blake2b hash_of
clear_writes_nothing = refl

-- an upgrade writes the nodes that weren't stored
pub upgrade_writes_roots : written two_blocks (upgrade_content 4 (no_twig ∷ []) signature two_blocks) ≡ 5 ∷ 3 ∷ []
unfolding joined value_in any_under end_block_of first_block_of number cover_of cover_in largest_up_to G round rounds F words state_after last_state blake2b hash_of
upgrade_writes_roots = refl

-- ---- sizes

node_bytes_is : NODE_BYTES ≡ 40
node_bytes_is = refl

id_at_is : ID_AT ≡ 1
id_at_is = refl
