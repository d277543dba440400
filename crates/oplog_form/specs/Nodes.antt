-- Nodes one behind the other: roots, whose numbers follow from the length, and records, which have theirs
-- (docs/FORMATS.md, "Headers and entries").
use Rattle.std.specs.Prelude.{ℕ, zero, suc, ◌^◌, ◌-◌, ◌≤◌, List, [], ◌∷◌, ◌++◌, length, Ok, Err, nat_le, if◌then◌else◌, ⊤}
use Rattle.std.specs.List.{flat_map}
use Rattle.flat_tree.specs.Subtrees.{numbers_of}
use Rattle.flat_tree.specs.Roots.{full_roots_of}
use Rattle.flat_tree.specs.declared.limits.TheConstants.{MAX_CORE_BYTES}
use Rattle.merkle_nodes.specs.declared.node.Node.{Node}
use Rattle.merkle_nodes.specs.declared.node.Twig.{Twig}
use Rattle.merkle_nodes.specs.Bundle.{NodeFits}
use Rattle.compact_enc.specs.Spelling.{uint_spelling}
use Rattle.compact_enc.specs.Reading.{◌>>=◌}
use Rattle.compact_enc.specs.Input.{Input}
use Rattle.oplog_form.specs.declared.commit.TheConstants.{MAX_NUMBER}
use Rattle.oplog_form.specs.Form.{Read, number_of, fixed_in, just_of}

-- ---- the spelling

-- a size and a hash
abbrev pub root_spelling : Node → List ℕ
root_spelling node = uint_spelling node.size ++ node.hash

-- a number, a size and a hash
abbrev pub record_spelling : Node → List ℕ
record_spelling node = uint_spelling node.index ++ root_spelling node

-- how many roots, and each in order
abbrev pub roots_spelling : List Node → List ℕ
roots_spelling nodes = uint_spelling (length nodes) ++ flat_map root_spelling nodes

-- how many records, and each in order
abbrev pub records_spelling : List Node → List ℕ
records_spelling nodes = uint_spelling (length nodes) ++ flat_map record_spelling nodes

-- ---- what has a spelling

-- a record's number, size and hash are in their ranges
pub record RecordFits (node : Node) : Type 0 where
  pub index : node.index ≤ MAX_NUMBER
  pub twig : NodeFits node

-- the numbers rise, from this one on
abbrev pub Rise : ℕ → List Node → Type 0
Rise least [] = ⊤
Rise least (node ∷ nodes) = (least ≤ node.index) × Rise (suc node.index) nodes

-- ---- reading

-- a size and a hash
unfoldable pub twig_in : Input → Read Twig
twig_in input = do
  size ← number_of MAX_CORE_BYTES input
  hash ← fixed_in 32 size.1
  Ok (record { size = size.0; hash = hash.0 }, hash.1)

-- a node for each number, in order
unfoldable pub nodes_in : List ℕ → Input → Read (List Node)
nodes_in [] input = Ok ([], input)
nodes_in (index ∷ numbers) input = do
  twig ← twig_in input
  others ← nodes_in numbers twig.1
  Ok (record { index = index; size = twig.0.size; hash = twig.0.hash } ∷ others.0, others.1)

-- the full roots of so many blocks behind their number, which can be no other
unfoldable pub roots_in : ℕ → Input → Read (List Node)
roots_in blocks input = do
  count ← just_of (length (full_roots_of blocks)) input
  nodes_in (numbers_of (full_roots_of blocks)) count.1

-- a number of at least this
unfoldable pub index_in : ℕ → Input → Read ℕ
index_in least input = do
  index ← number_of MAX_NUMBER input
  if nat_le least index.0 then Ok index else Err (record { at = input.place })

-- a number of at least this, a size and a hash
unfoldable pub record_in : ℕ → Input → Read Node
record_in least input = do
  index ← index_in least input
  twig ← twig_in index.1
  Ok (record { index = index.0; size = twig.0.size; hash = twig.0.hash }, twig.1)

-- so many records, whose numbers rise from this one on
unfoldable pub rising_in : ℕ → ℕ → Input → Read (List Node)
rising_in zero least input = Ok ([], input)
rising_in (suc count) least input = do
  node ← record_in least input
  others ← rising_in count (suc node.0.index) node.1
  Ok (node.0 ∷ others.0, others.1)

-- records behind their number
unfoldable pub records_in : Input → Read (List Node)
records_in input = do
  count ← number_of (2 ^ 64 - 1) input
  rising_in count.0 0 count.1
