-- An upgrade laid over a log: where it begins, which nodes it makes, and the log after it.
use Rattle.std.specs.Prelude.{◌≡◌, ◌↔◌, ℕ, true, ◌+◌, ◌<◌, ◌≤◌, List, [], Some, IsTrue, nat_lt, drop, map, if◌then◌else◌}
use Rattle.std.specs.List.{Contains}
use Rattle.flat_tree.specs.Subtrees.{number, Tile}
use Rattle.flat_tree.specs.Roots.{full_roots_of}
use Rattle.flat_tree.specs.Covers.{cover_of}
use Rattle.flat_tree.specs.declared.limits.TheConstants.{MAX_BLOCKS, MAX_FORK, MAX_CORE_BYTES}
use Rattle.merkle_nodes.specs.declared.node.Node.{Node}
use Rattle.merkle_nodes.specs.declared.roots.Head.{Head}
use Rattle.merkle_nodes.specs.Joined.{Values, joined, with_parts}
use Rattle.merkle_nodes.specs.Nodes.{AreNodes}
use Rattle.merkle_nodes.specs.Roots.{twig_of}
use Rattle.root_stack.specs.Made.{IsMade}
use Rattle.root_stack.specs.Stack.{twig_bytes}
use Rattle.proof_form.specs.declared.proof.UpgradePart.{UpgradePart}
use Rattle.proof_form.specs.Proofs.{UpgradeFits}
use Rattle.node_set.specs.Contents.{Content, roots, bytes_under}
use Rattle.node_set.specs.Whole.{IsSound}
use Rattle.core_forks.specs.Reorganise.{kept_of}
use Rattle.log_view.specs.Views.{Source}
use Rattle.log_view.specs.Overlays.{has_number, laid_over, IsLaid}
use Rattle.log_change.specs.LogChange.{Ascend}
use Rattle.log_change.specs.Calls.{GivesBelow}
use Rattle.proof_check.specs.Upgraded.{new_roots, upgraded_by}
use Rattle.proof_judge.specs.declared.upgrade.LogAfter.{LogAfter}

-- the blocks that an upgrade is joined behind: all under the log's own fork, none under a greater one
abbrev pub length_before : ℕ → Content → ℕ
length_before fork m = if nat_lt m.fork fork then 0 else m.length

-- the full roots of the blocks that an upgrade is joined behind
abbrev pub roots_before : ℕ → Content → List Node
roots_before fork m = if nat_lt m.fork fork then [] else roots m

-- an upgrade under a fork that neither its form nor its numbers are refused for
pub record IsDue (fork : ℕ) (u : UpgradePart) (m : Content) : Type 0 where
  pub no_older : m.fork ≤ fork
  pub limit : fork ≤ MAX_FORK
  pub start : u.start ≡ length_before fork m
  pub fits : UpgradeFits u
  pub blocks : u.length ≤ MAX_BLOCKS
  pub bytes : bytes_under (roots_before fork m) + twig_bytes u.nodes ≤ MAX_CORE_BYTES

-- the head that an upgrade leads to
abbrev pub upgrade_head : ℕ → UpgradePart → Head
upgrade_head fork u = record { fork = fork; length = u.length; signature = u.signature }

-- the values of a log's subtrees once an upgrade is joined behind its known ones
abbrev pub joined_with : UpgradePart → Values → Values
joined_with u known = joined (with_parts u.start known (cover_of u.start u.length) u.nodes)

-- the nodes are those that become full with an upgrade's twigs behind these roots, in the order of their numbers, each with the value
-- that is joined from whatever values the roots are of
pub record AreLaid (before : List Node) (u : UpgradePart) (nodes : List Node) : Type 0 where
  pub order : Ascend nodes
  pub which : (depth offset : ℕ) → (has_number nodes (number depth offset) ≡ true) ↔ IsMade u.start u.length depth offset
  pub values : (known : Values) → AreNodes known (full_roots_of u.start) before → (depth offset : ℕ) (node : Node)
      → Contains nodes node → node.index ≡ number depth offset → joined_with u known depth offset ≡ Some (twig_of node)

-- so many of a log's blocks stay under a fork with these roots: all under the log's own, and under a greater one those under the first
-- of the roots that the view gives
pub record KeepsBlocks (s : Source) (fork blocks : ℕ) (after : List Node) (kept : ℕ) : Type 0 where
  pub before : kept ≤ s.content.length
  pub same_fork : fork ≤ s.content.fork → kept ≡ s.content.length
  pub whole_roots : s.content.fork < fork → (at : ℕ) × Tile (drop at (full_roots_of blocks)) kept blocks
  pub given : s.content.fork < fork → GivesBelow s kept after
  pub stored : s.content.fork < fork → IsTrue s.shows → IsSound s.content → kept ≡ kept_of s.content blocks (map twig_of after)

-- what is laid over a view for an upgrade: the log after it, with the nodes that it makes
pub record LaysUpgrade (s : Source) (fork : ℕ) (u : UpgradePart) (after : LogAfter) (nodes : List Node) : Type 0 where
  pub head_is : after.head ≡ upgrade_head fork u
  pub nodes_are : AreLaid (roots_before fork s.content) u nodes
  pub is_laid : IsLaid s.content after.head after.roots after.kept nodes
  pub kept_are : KeepsBlocks s fork u.length after.roots after.kept
  pub roots_came : s.content.fork < fork → map twig_of after.roots ≡ new_roots u
  -- where the view shows a sound content, what is laid over it is the content with the upgrade in
  pub content : IsTrue s.shows → IsSound s.content → laid_over s.content after.head after.kept nodes ≡ upgraded_by fork u s.content
