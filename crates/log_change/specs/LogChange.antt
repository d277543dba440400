-- One change of a log: the content that it leads to, and which nodes have to be written for it.
use Rattle.std.specs.Prelude.{◌≡◌, ℕ, Bool, ◌-◌, ◌<◌, ◌&&◌, ◌||◌, not, List, Option, None, Some, IfSome, slice_get, if◌then◌else◌}
use Rattle.std.specs.List.{AllPairs}
use Rattle.commit_book.specs.declared.commit.Commit.{Commit}
use Rattle.commit_book.specs.History.{is_between, entry_of, MayFollow}
use Rattle.merkle_nodes.specs.declared.node.Node.{Node}
use Rattle.merkle_nodes.specs.declared.roots.Head.{Head}
use Rattle.merkle_nodes.specs.Roots.{root_hash_of}
use Rattle.node_set.specs.Contents.{Content, Blocks, Values, roots, summary_of, twig_at}
use Rattle.node_set.specs.Closure.{is_root}
use Rattle.node_set.specs.Same.{is_stored_as}
use Rattle.node_set.specs.Nodes.{with_nodes}
use Rattle.node_set.specs.Changes.{content_on, blocks_without}
use Rattle.node_set.specs.Legal.{core_limits}
use Rattle.log_change.specs.declared.change.Indices.{Indices}
use Rattle.log_change.specs.declared.change.LogChange.{LogChange}

-- a node stays as it is written: it was stored with the size and hash that it has after the change, and if it is a root
-- then, it was one before
abbrev pub stays : Content → Content → ℕ → ℕ → Bool
stays m after depth offset =
    is_stored_as (m.node depth offset) (twig_at after.node depth offset) && (not (is_root after.length depth offset) || is_root m.length depth offset)

-- the nodes are those of the content after the change that don't stay, in whatever order
abbrev pub AreFresh : Content → Content → List Node → Type 0
AreFresh m after nodes = (depth offset : ℕ) → with_nodes (λ d o. None) nodes depth offset ≡ (if stays m after depth offset then None else after.node depth offset)

-- each node's number is below those of the later ones
abbrev pub Ascend : List Node → Type 0
Ascend = AllPairs (λ (one other : Node). one.index < other.index)

-- the blocks of a range go, and these come in from an index on
abbrev pub blocks_after : LogChange → List (List ℕ) → Blocks → Blocks
blocks_after change come block index =
    if is_between change.come.from change.come.to index then slice_get come (index - change.come.from)
    else blocks_without change.gone.from change.gone.to block index

-- the content that a change leads to, with the blocks and the nodes that come in
abbrev pub content_after : LogChange → List (List ℕ) → List Node → Content → Content
content_after change come fresh m =
    content_on change.head.fork change.head.length change.head.signature (blocks_after change come m.block) (with_nodes m.node fresh)

-- a content's head
abbrev pub head_of : Content → Head
head_of m = record { fork = m.fork; length = m.length; signature = m.signature }

-- the change leads from one content to another under a commit, with these blocks and nodes that come in
pub record IsChange (m after : Content) (commit : Option Commit) (come : List (List ℕ)) (fresh : List Node) (change : LogChange) : Type 0 where
  pub head_is : change.head ≡ head_of after
  pub roots_are : change.roots ≡ roots after
  pub commit_is : change.commit ≡ commit
  pub blocks : (index : ℕ) → after.block index ≡ blocks_after change come m.block index
  pub nodes : AreFresh m after fresh

-- the change under another signature
abbrev pub signed : List ℕ → LogChange → LogChange
signed signature change = record change { head = record { fork = change.head.fork; length = change.head.length; signature = signature } }

-- the commit of a change may come next in the history
abbrev pub MayCommit : Content → LogChange → Type 0
MayCommit m change = IfSome change.commit (λ commit. MayFollow core_limits (summary_of m) (entry_of commit (root_hash_of change.roots)))
