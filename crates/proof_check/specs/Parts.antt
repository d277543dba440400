-- A part of a proof as a path: a node, the siblings above it, and how it meets the nodes that are stored.
use Rattle.std.specs.Prelude.{ℕ, ◌+◌, ◌/◌, ◌^◌, ◌-◌, List, length, Option, Some, None, not, nat_le, nat_lt, if◌then◌else◌}
use Rattle.flat_tree.specs.Subtrees.{number, first_block_of, end_block_of}
use Rattle.flat_tree.specs.Roots.{depth_over}
use Rattle.merkle_nodes.specs.declared.node.Twig.{Twig}
use Rattle.merkle_nodes.specs.Tree.{leaf_of}
use Rattle.merkle_nodes.specs.Roots.{twig_of}
use Rattle.proof_form.specs.declared.proof.HashPart.{HashPart}
use Rattle.proof_form.specs.Proofs.{Block}
use Rattle.node_set.specs.declared.fault.Refusal.{Refusal}
use Rattle.node_set.specs.declared.fault.Refusal.TheVariants.{OutOfRange, HashDiffers, Uncovered}
use Rattle.node_set.specs.Contents.{Content}
use Rattle.node_set.specs.Paths.{depth_of, offset_of_node, folded_at}
use Rattle.node_set.specs.Offsets.{levels_to}
use Rattle.node_set.specs.Same.{is_same}
use Rattle.node_set.specs.Refuses.{refuse_if}

-- a node by its place, its size and hash, and siblings of its path, lowest first
pub record Part : Type 0 where
  pub depth : ℕ
  pub offset : ℕ
  pub twig : Twig
  pub trail : List Twig

-- a block as the path of its leaf
abbrev pub part_of_block : Block → Part
part_of_block b = record { depth = 0; offset = b.index; twig = leaf_of b.bytes; trail = b.trail }

-- a node as the path from it
abbrev pub part_of_hash : HashPart → Part
part_of_hash h = record { depth = depth_of h.node.index; offset = offset_of_node h.node.index; twig = twig_of h.node; trail = h.trail }

-- a part that is there gives a refusal, if any
abbrev pub of_part : {A : Type 0} → Option A → (A → Option Refusal) → Option Refusal
of_part None refusal = None
of_part (Some part) refusal = refusal part

-- the part isn't wholly below an end
abbrev pub range_refusal : ℕ → Part → Option Refusal
range_refusal end part = refuse_if (nat_lt end (end_block_of part.depth part.offset)) (OutOfRange end)

-- the levels from the part's node up to the first one that the content stores
abbrev pub levels_up : Content → Part → ℕ
levels_up m part = levels_to (depth_over m.length (first_block_of part.depth part.offset) - part.depth) m.node part.depth part.offset

-- the first stored node on the part's path
abbrev pub stored_top : Content → Part → Option Twig
stored_top m part = m.node (part.depth + levels_up m part) (part.offset / 2 ^ levels_up m part)

-- the number of the node so many levels above the part's
abbrev pub number_above : Part → ℕ → ℕ
number_above part level = number (part.depth + level) (part.offset / 2 ^ level)

-- the fold differs from the stored node where they meet
abbrev pub differs_at : ℕ → Twig → Option Twig → Option Refusal
differs_at index have None = None
differs_at index have (Some want) = refuse_if (not (is_same want have)) (HashDiffers index want have)

-- the part's siblings reach a stored node, which the fold differs from
abbrev pub differs_refusal : Content → Part → Option Refusal
differs_refusal m part =
    let top = levels_up m part in
    if nat_le top (length part.trail)
    then differs_at (number_above part top) (folded_at part.offset part.twig part.trail top) (stored_top m part) else None

-- the part's siblings end below the first stored node
abbrev pub uncovered_refusal : Content → Part → Option Refusal
uncovered_refusal m part =
    refuse_if (nat_lt (length part.trail) (levels_up m part)) (Uncovered (number_above part (length part.trail)))
