-- How a part of a proof, a node with siblings of its path, meets the nodes that a view stores.
use Rattle.std.specs.Prelude.{◌≡◌, ℕ, zero, suc, Bool, true, false, ◌+◌, ◌/◌, ◌^◌, ◌<◌, ◌≤◌, List, [], ◌∷◌, ◌++◌, length, Option, None, IfSome, IsSome, nat_le, nat_lt, slice_index_or, if◌then◌else◌}
use Rattle.flat_tree.specs.Subtrees.{first_block_of, end_block_of}
use Rattle.flat_tree.specs.Roots.{depth_over}
use Rattle.flat_tree.specs.declared.limits.TheConstants.{MAX_BLOCKS}
use Rattle.merkle_nodes.specs.declared.node.Node.{Node}
use Rattle.merkle_nodes.specs.declared.node.Twig.{Twig}
use Rattle.merkle_nodes.specs.Bundle.{TwigFits}
use Rattle.merkle_nodes.specs.Roots.{node_of}
use Rattle.proof_form.specs.Twigs.{TrailFits}
use Rattle.node_set.specs.declared.fault.Refusal.TheVariants.{Uncovered}
use Rattle.node_set.specs.Contents.{Content, held, no_twig}
use Rattle.node_set.specs.Closure.{in_closure}
use Rattle.node_set.specs.Paths.{folded_at, sibling_of}
use Rattle.node_set.specs.Refuses.{refuse_if}
use Rattle.log_view.specs.Views.{Source}
use Rattle.proof_check.specs.Parts.{Part, levels_up, number_above, differs_at, differs_refusal, uncovered_refusal}
use Rattle.proof_judge.specs.declared.part.PartPath.{PartPath}
use Rattle.proof_judge.specs.declared.part.Meeting.{Meeting}

-- a part in memory as a value
abbrev pub part_of : PartPath → Part
part_of path = record { depth = path.depth; offset = path.offset; twig = path.twig; trail = path.trail.now }

-- the part is wholly below a length, and its sizes and hashes are in their ranges
pub record IsPartOf (n : ℕ) (part : Part) : Type 0 where
  pub blocks : n ≤ MAX_BLOCKS
  pub within : end_block_of part.depth part.offset ≤ n
  pub twig : TwigFits part.twig
  pub trail : TrailFits part.trail

-- so many levels above the part's node is the first node of its path that is to be stored; the root over it is, at the latest
pub record IsFirstAbove (n : ℕ) (held : ℕ → Bool) (part : Part) (levels : ℕ) : Type 0 where
  pub within : part.depth + levels ≤ depth_over n (first_block_of part.depth part.offset)
  pub stored : in_closure n held (part.depth + levels) (part.offset / 2 ^ levels) ≡ true
  pub first : (level : ℕ) → level < levels → in_closure n held (part.depth + level) (part.offset / 2 ^ level) ≡ false

-- the node of a part's path at a level, folded with the siblings below it
abbrev pub own_node : Part → ℕ → Node
own_node part level = node_of (part.depth + level) (part.offset / 2 ^ level) (folded_at part.offset part.twig part.trail level)

-- the sibling of that node
abbrev pub beside_node : Part → ℕ → Node
beside_node part level = node_of (part.depth + level) (sibling_of (part.offset / 2 ^ level)) (slice_index_or part.trail level no_twig)

-- the nodes of a part's path below a level, each with its sibling, lowest first
unfoldable pub way_of : Part → ℕ → List Node
way_of part zero = []
way_of part (suc level) = way_of part level ++ (own_node part level ∷ beside_node part level ∷ [])

-- what a part is refused by, if at all, where the first stored node of its path has this size and hash; and its way up to there
pub record Compares (part : Part) (want : Option Twig) (meeting : Meeting) (way : List Node) : Type 0 where
  pub differs : meeting.differs ≡ (if nat_le meeting.levels (length part.trail)
      then differs_at (number_above part meeting.levels) (folded_at part.offset part.twig part.trail meeting.levels) want else None)
  pub uncovered : meeting.uncovered ≡ refuse_if (nat_lt (length part.trail) meeting.levels) (Uncovered (number_above part (length part.trail)))
  pub nodes : meeting.levels ≤ length part.trail → way ≡ way_of part meeting.levels

-- over every view: the part was compared with the node that the view gave for the first one that is to be stored
pub record MeetsGiven (s : Source) (part : Part) (meeting : Meeting) (way : List Node) : Type 0 where
  pub first : IsFirstAbove s.content.length (held s.content) part meeting.levels
  pub want : Option Twig
  pub given : IfSome want (λ twig. s.gives (number_above part meeting.levels) twig ≡ true)
  pub reached : meeting.levels ≤ length part.trail → IsSome want
  pub compares : Compares part want meeting way

-- over a content: so many levels up, and these refusals
pub record Meets (m : Content) (part : Part) (meeting : Meeting) : Type 0 where
  pub levels : meeting.levels ≡ levels_up m part
  pub differs : meeting.differs ≡ differs_refusal m part
  pub uncovered : meeting.uncovered ≡ uncovered_refusal m part
