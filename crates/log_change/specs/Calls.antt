-- What the calls over a view give: the changes that a truncation, a clearing, another log and an append come to.
use Rattle.std.specs.Prelude.{◌≡◌, ℕ, ◌+◌, ◌≤◌, ◌⊎◌, true, List, Option, Some, Result, Err, IfErr, IsTrue, map, replicate}
use Rattle.std.specs.List.{AllByRecursion}
use Rattle.flat_tree.specs.Subtrees.{Subtree, number, numbers_of, end_block_of}
use Rattle.flat_tree.specs.Roots.{full_roots_of}
use Rattle.flat_tree.specs.declared.limits.TheConstants.{MAX_CORE_BYTES}
use Rattle.commit_book.specs.declared.commit.Commit.{Commit}
use Rattle.commit_book.specs.declared.commit.Commit.TheVariants.{Append, Truncate, Reorg}
use Rattle.merkle_nodes.specs.declared.node.Node.{Node}
use Rattle.merkle_nodes.specs.declared.roots.Head.{Head}
use Rattle.merkle_nodes.specs.Roots.{twig_of}
use Rattle.merkle_nodes.specs.Nodes.{AreNodes}
use Rattle.merkle_batch.specs.Batch.{BatchView}
use Rattle.node_set.specs.declared.fault.CoreFault.{CoreFault}
use Rattle.node_set.specs.Contents.{Content, roots}
use Rattle.log_view.specs.Views.{ViewState, Source, Reports, Keeps}
use Rattle.log_change.specs.declared.change.Indices.{Indices}
use Rattle.log_change.specs.declared.change.LogChange.{LogChange}
use Rattle.log_change.specs.LogChange.{head_of}

-- a call over a view answers its refusal where there is one, and no other Err but a fault that the view reported
pub record Answers {T : Type 0} (old new : ViewState) (refusal : Option CoreFault) (answer : Result T CoreFault) : Type 0 where
  pub refused : (fault : CoreFault) → refusal ≡ Some fault → answer ≡ Err fault
  pub failed : IfErr answer (λ fault. (refusal ≡ Some fault) ⊎ Reports old new fault)
  pub keeps : Keeps old new

-- the nodes are those that a view gives for some subtrees, which are the content's where the view shows it
pub record AreGiven (s : Source) (trees : List Subtree) (nodes : List Node) : Type 0 where
  pub numbered : map (λ (node : Node). node.index) nodes ≡ numbers_of trees
  pub given : AllByRecursion (λ (node : Node). s.gives node.index (twig_of node) ≡ true) nodes
  pub sizes : AllByRecursion (λ (node : Node). node.size ≤ MAX_CORE_BYTES) nodes
  pub shown : IsTrue s.shows → AreNodes s.content.node trees nodes

-- so they are for the full roots of a length
abbrev pub AreRoots : Source → ℕ → List Node → Type 0
AreRoots s n = AreGiven s (full_roots_of n)

-- the view gives each of these nodes whose subtree ends by an index
abbrev pub GivesBelow : Source → ℕ → List Node → Type 0
GivesBelow s end = AllByRecursion (λ (node : Node). (depth offset : ℕ) → number depth offset ≡ node.index → end_block_of depth offset ≤ end
    → s.gives node.index (twig_of node) ≡ true)

-- the indices from..to
abbrev pub indices : ℕ → ℕ → Indices
indices from to = record { from = from; to = to }

-- a head that isn't signed yet
abbrev pub unsigned : ℕ → ℕ → Head
unsigned fork length = record { fork = fork; length = length; signature = replicate 64 0 }

-- the log is cut to a length with these roots, under another fork, and not signed yet
abbrev pub truncation : Content → ℕ → ℕ → List Node → LogChange
truncation m to fork nodes =
    record { head = unsigned fork to; roots = nodes; gone = indices to m.length; come = indices 0 0; commit = Some (Truncate to fork) }

-- the blocks from..to are cleared
abbrev pub clearing : Content → ℕ → ℕ → Option Commit → LogChange
clearing m from to commit = record { head = head_of m; roots = roots m; gone = indices from to; come = indices 0 0; commit = commit }

-- another log, with this head and these roots, of which so many blocks were there before
abbrev pub reorganisation : Content → Head → ℕ → List Node → LogChange
reorganisation m head kept nodes =
    record { head = head; roots = nodes; gone = indices kept m.length; come = indices 0 0; commit = Some (Reorg head.fork head.length kept) }

-- the blocks of a batch come in at the end, and nothing is signed yet
abbrev pub growth : Content → BatchView → LogChange
growth m batch = record {
  head = unsigned m.fork (m.length + batch.blocks);
  roots = batch.roots;
  gone = indices 0 0;
  come = indices m.length (m.length + batch.blocks);
  commit = Some (Append batch.blocks);
}
