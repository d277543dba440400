-- What comes in with a proof: the nodes that may have to be written for the log after it, and those of them that don't stay.
use Rattle.std.specs.Prelude.{◌≡◌, ℕ, Bool, true, false, not, List, [], ◌∷◌, Some, IsTrue, if◌then◌else◌}
use Rattle.std.specs.List.{AllByRecursion}
use Rattle.flat_tree.specs.Subtrees.{number}
use Rattle.merkle_nodes.specs.declared.node.Node.{Node}
use Rattle.merkle_nodes.specs.declared.node.Twig.{Twig}
use Rattle.merkle_nodes.specs.Joined.{Values}
use Rattle.merkle_nodes.specs.Roots.{twig_of}
use Rattle.node_set.specs.Contents.{Content, held}
use Rattle.node_set.specs.Closure.{in_closure, closed_on, is_root}
use Rattle.node_set.specs.Nodes.{with_nodes}
use Rattle.node_set.specs.Whole.{IsClosed}
use Rattle.log_view.specs.Views.{Source}
use Rattle.log_view.specs.Overlays.{has_number}
use Rattle.log_change.specs.LogChange.{stays}

-- a log's nodes are those of its closure, with some laid over another log's, and each root that isn't laid was one of that
pub record IsOver (m after : Content) (laid : List Node) : Type 0 where
  pub nodes : (depth offset : ℕ) → after.node depth offset ≡ closed_on after.length (held after) (with_nodes m.node laid) depth offset
  pub roots : (depth offset : ℕ) → is_root after.length depth offset ≡ true → has_number laid (number depth offset) ≡ false → is_root m.length depth offset ≡ true

-- a node is stored with its size and hash
abbrev pub IsOf : Values → Node → Type 0
IsOf value node = (depth offset : ℕ) → node.index ≡ number depth offset → value depth offset ≡ Some (twig_of node)

-- the nodes are the log's after a change, and each other node of it stays as it was written
pub record MayCome (m after : Content) (nodes : List Node) : Type 0 where
  pub own : AllByRecursion (IsOf after.node) nodes
  pub others : (depth offset : ℕ) (twig : Twig) → has_number nodes (number depth offset) ≡ false → after.node depth offset ≡ Some twig
      → stays m after depth offset ≡ true

-- for each node in turn there is an answer, and those are taken whose answer is yes
unfoldable pub Takes : (Node → Bool → Type 0) → List Node → List Node → Type 0
Takes P [] some = some ≡ []
Takes P (node ∷ nodes) some =
    (answer : Bool) × (rest : List Node) × P node answer × Takes P nodes rest × (some ≡ (if answer then node ∷ rest else rest))

-- over every view: what doesn't come in was given by the view; where it shows a closed content, a node of the log after a change, of
-- so many blocks, comes in exactly where it doesn't stay
pub record ComesIn (s : Source) (n : ℕ) (node : Node) (answer : Bool) : Type 0 where
  pub given : answer ≡ false → s.gives node.index (twig_of node) ≡ true
  pub shown : IsTrue s.shows → IsClosed s.content.length s.content.block s.content.node → (after : Content) (depth offset : ℕ)
      → after.length ≡ n → number depth offset ≡ node.index → after.node depth offset ≡ Some (twig_of node)
      → answer ≡ not (stays s.content after depth offset)

-- the answer is whether the node is to be stored for a length and held indices
abbrev pub IsToStore : ℕ → (ℕ → Bool) → Node → Bool → Type 0
IsToStore n held node answer = (depth offset : ℕ) → number depth offset ≡ node.index → answer ≡ in_closure n held depth offset
