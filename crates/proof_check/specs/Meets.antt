-- Where a block's path meets the nodes that are stored.
use Rattle.std.specs.Prelude.{◌≡◌, ℕ, Bool, true, false, ◌<◌, ◌/◌, ◌^◌, List, Option, Some, None, is_some, slice_get, if◌then◌else◌}
use Rattle.flat_tree.specs.Subtrees.{number, end_block_of}
use Rattle.merkle_nodes.specs.Roots.{twig_of}
use Rattle.merkle_nodes.specs.Joined.{Values, or_value}
use Rattle.merkle_nodes.specs.Tree.{leaf_of}
use Rattle.merkle_nodes.specs.declared.node.Node.{Node}
use Rattle.merkle_nodes.specs.declared.node.Twig.{Twig}
use Rattle.proof_form.specs.declared.proof.BlockPart.{BlockPart}
use Rattle.proof_form.specs.Proofs.{Block}
use Rattle.node_set.specs.declared.fault.Refusal.{Refusal}
use Rattle.node_set.specs.Contents.{Content}
use Rattle.node_set.specs.Nodes.{with_node, with_nodes}
use Rattle.node_set.specs.Paths.{path_values}
use Rattle.node_set.specs.Refuses.{or_else}
use Rattle.node_set.specs.Closure.{in_closure, is_within, closed_on}
use Rattle.proof_check.specs.declared.path.Met.{Met}
use Rattle.flat_tree.specs.Roots.{depth_over}
use Rattle.proof_check.specs.Growth.{IsBeside}
use Rattle.proof_check.specs.Parts.{part_of_block, levels_up, differs_refusal, uncovered_refusal}

-- no node of the path is to be stored below a level
abbrev pub NoneBelow : ℕ → (ℕ → Bool) → ℕ → ℕ → Type 0
NoneBelow n held index end = (level : ℕ) → level < end → in_closure n held level (index / 2 ^ level) ≡ false

-- the path's first stored node below a level, if there is one
abbrev pub FoundBelow : ℕ → (ℕ → Bool) → ℕ → ℕ → Option Met → Type 0
FoundBelow n held index end None = NoneBelow n held index end
FoundBelow n held index end (Some met) =
    (met.level < end) × (in_closure n held met.level (index / 2 ^ met.level) ≡ true) × NoneBelow n held index met.level

-- the node is the one with this value
abbrev pub IsValue : Values → ℕ → Met → Type 0
IsValue value index met = value met.level (index / 2 ^ met.level) ≡ Some (twig_of met.node)

-- a block in memory as a value
abbrev pub seen : BlockPart → Block
seen b = record { index = b.index; bytes = b.bytes.now; trail = b.trail }

-- the first stored node of an offered block's path, which its fold is compared with
pub record IsTop (m : Content) (b : Block) (met : Met) : Type 0 where
  pub levels : levels_up m (part_of_block b) ≡ met.level
  pub value : IsValue m.node b.index met

-- what a block is refused by where its path meets the stored nodes
abbrev pub block_refusal : Content → Block → Option Refusal
block_refusal m b = or_else (differs_refusal m (part_of_block b)) (uncovered_refusal m (part_of_block b))

-- the path of a block below a level was put in
abbrev pub PutsPath : Block → ℕ → List Node → List Node → Type 0
PutsPath b level old new = (value : Values) (depth offset : ℕ) → with_nodes value new depth offset
    ≡ or_value (path_values b.index (leaf_of b.bytes) b.trail level depth offset) (with_nodes value old depth offset)

-- each node that a list puts in is a value's
abbrev pub IsPart : Values → List Node → Type 0
IsPart value nodes = (depth offset : ℕ) (twig : Twig) → with_nodes (λ d o. None) nodes depth offset ≡ Some twig → value depth offset ≡ Some twig

-- a list puts a node in
abbrev pub HasNode : List Node → ℕ → ℕ → Type 0
HasNode nodes depth offset = is_some (with_nodes (λ d o. None) nodes depth offset) ≡ true

-- those of the nodes that end behind a log have these values
abbrev pub AllIn : Values → ℕ → List Node → Type 0
AllIn value base nodes = (place depth offset : ℕ) (node : Node) → slice_get nodes place ≡ Some node → node.index ≡ number depth offset
    → base < end_block_of depth offset → value depth offset ≡ Some (twig_of node)

-- one node more is put in
abbrev pub IsPutNode : Node → List Node → List Node → Type 0
IsPutNode node old new = (value : Values) (depth offset : ℕ) → with_nodes value new depth offset ≡ with_node (with_nodes value old) node depth offset

-- from the level on, below the root, the path of a block goes beside that of a shorter log's last block
abbrev pub IsFrom : ℕ → ℕ → ℕ → ℕ → ℕ → Type 0
IsFrom base to low index from = from < depth_over to index → IsBeside base low index from

-- what a log that grew has of its nodes behind the old end
abbrev pub behind_end : ℕ → ℕ → (ℕ → Bool) → Values → Values
behind_end base to held value depth offset = if is_within base depth offset then None else closed_on to held value depth offset
