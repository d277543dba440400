-- What a truncation and a clearing are about to change.
use Rattle.std.specs.Prelude.{◌≡◌, ℕ, Bool, false, not, ◌&&◌, ◌<◌, ◌≤◌, ◌⊎◌, List, [], Option, Some, None, IfSome, IsTrue, replicate, nat_eq}
use Rattle.std.specs.List.{AllByRecursion, list_any, filter}
use Rattle.flat_tree.specs.declared.limits.TheConstants.{MAX_BLOCKS, MAX_FORK, MAX_CORE_BYTES}
use Rattle.commit_book.specs.declared.commit.Commit.{Commit}
use Rattle.commit_book.specs.declared.commit.Commit.TheVariants.{Truncate, Clear}
use Rattle.commit_book.specs.History.{Limits, HoldsSome, MayFollow}
use Rattle.merkle_nodes.specs.declared.node.Node.{Node}
use Rattle.merkle_nodes.specs.Roots.{twig_of, root_hash_of, HasShape}
use Rattle.node_set.specs.declared.change.Change.{Change}
use Rattle.node_set.specs.Contents.{Content, held, roots, roots_at, summary_of}
use Rattle.node_set.specs.Same.{is_same}
use Rattle.node_set.specs.Views.{ViewState}

-- two nodes have one number, one size and one hash
abbrev pub is_same_node : Node → Node → Bool
is_same_node one other = nat_eq one.index other.index && is_same (twig_of one) (twig_of other)

-- the roots that weren't roots before, as an entry has to name them, also where their nodes were stored
abbrev pub fresh_roots : List Node → List Node → List Node
fresh_roots before = filter (λ root. not (list_any (λ old. is_same_node old root) before))

-- the limits of a core
abbrev pub limits : Limits
limits = record { blocks = MAX_BLOCKS; fork = MAX_FORK }

-- the commit of a change may come next in the history
abbrev pub MayCommit : Content → Change → Type 0
MayCommit m change = IfSome change.commit (λ commit. MayFollow limits (summary_of m) (record { commit = commit; root = root_hash_of change.roots }))

-- the nodes are those at the full roots of a length, which a view that stands has there
pub record AreRoots (v : ViewState) (n : ℕ) (nodes : List Node) : Type 0 where
  pub shape : HasShape nodes n
  pub sizes : AllByRecursion (λ (node : Node). node.size ≤ MAX_CORE_BYTES) nodes
  pub stored : IsTrue v.stands → nodes ≡ roots_at v.content.node n

-- the log is cut to a length under a greater fork, and not signed yet
pub record IsTruncation (v : ViewState) (to fork : ℕ) (change : Change) : Type 0 where
  pub head : change.head ≡ record { fork = fork; length = to; signature = replicate 64 0 }
  pub commit : change.commit ≡ Some (Truncate to fork)
  pub roots_are : AreRoots v to change.roots
  pub fresh : change.fresh ≡ fresh_roots (roots v.content) change.roots

-- no index of from..to is held
abbrev pub HoldsNone : ℕ → ℕ → Content → Type 0
HoldsNone from to m = (index : ℕ) → from ≤ index → index < to → held m index ≡ false

-- there is a commit exactly where some index of from..to is held
abbrev pub ClearsWhere : ℕ → ℕ → Content → Option Commit → Type 0
ClearsWhere from to m commit =
    (HoldsSome from to (summary_of m) × (commit ≡ Some (Clear from to))) ⊎ (HoldsNone from to m × (commit ≡ None))

-- the blocks from..to are given up, and the head and the roots stay
pub record IsClearing (m : Content) (from to : ℕ) (change : Change) : Type 0 where
  pub head : change.head ≡ record { fork = m.fork; length = m.length; signature = m.signature }
  pub commit : ClearsWhere from to m change.commit
  pub roots_stay : change.roots ≡ roots m
  pub fresh : change.fresh ≡ []
