-- A view laid over another: under another head with its roots, with some nodes over those below, and the blocks below an index.
use Rattle.std.specs.Prelude.{◌≡◌, ℕ, Bool, true, ◌<◌, ◌≤◌, ◌&&◌, ◌||◌, List, ◌∷◌, nat_eq}
use Rattle.std.specs.List.{All, AllPairs, list_any}
use Rattle.flat_tree.specs.Subtrees.{number}
use Rattle.flat_tree.specs.declared.limits.TheConstants.{MAX_BLOCKS, MAX_FORK, MAX_CORE_BYTES}
use Rattle.merkle_nodes.specs.declared.node.Node.{Node}
use Rattle.merkle_nodes.specs.declared.node.Twig.{Twig}
use Rattle.merkle_nodes.specs.declared.roots.Head.{Head}
use Rattle.merkle_nodes.specs.Roots.{twig_of}
use Rattle.node_set.specs.Contents.{Content, held, holds, roots_at}
use Rattle.node_set.specs.Closure.{in_closure}
use Rattle.node_set.specs.Same.{is_same}
use Rattle.node_set.specs.Nodes.{with_nodes}
use Rattle.node_set.specs.Changes.{content_on, blocks_below}
use Rattle.log_view.specs.Views.{Layer, Source, ViewState}

-- one of the nodes has the number
abbrev pub has_number : List Node → ℕ → Bool
has_number nodes number = list_any (λ (node : Node). nat_eq node.index number) nodes

-- one of the nodes has the number, and this size and hash
abbrev pub has_node : List Node → ℕ → Twig → Bool
has_node nodes number twig = list_any (λ (node : Node). nat_eq node.index number && is_same (twig_of node) twig) nodes

-- the content under another head, with the blocks below an index and with the nodes over its own
abbrev pub laid_over : Content → Head → ℕ → List Node → Content
laid_over m head kept laid = content_on head.fork head.length head.signature (blocks_below kept m.block) (with_nodes m.node laid)

-- the source as what another one is laid over, by the name of the reference that leads to it
abbrev pub layer_of : ℕ → Source → Layer
layer_of name s = record { name = name; content = s.content; shows = s.shows; gives = s.gives; gives_block = s.gives_block }

-- the source under another head, with the blocks below an index; of a number it gives a laid node or one of its own
abbrev pub source_over : ℕ → Source → Head → ℕ → List Node → Source
source_over name s head kept laid = record {
  content = laid_over s.content head kept laid;
  shows = s.shows;
  gives = λ number twig. has_node laid number twig || s.gives number twig;
  gives_block = s.gives_block;
  beneath = layer_of name s ∷ s.beneath;
  past = s.past;
  reports = s.reports;
}

-- what is seen of a view that is laid over another
abbrev pub view_over : ℕ → ViewState → Head → ℕ → List Node → ViewState
view_over name v head kept laid = record v { source = source_over name v.source head kept laid }

-- what can be laid over a content
pub record IsLaid (m : Content) (head : Head) (roots : List Node) (kept : ℕ) (laid : List Node) : Type 0 where
  pub blocks : head.length ≤ MAX_BLOCKS
  pub fork : head.fork ≤ MAX_FORK
  -- kept blocks are below both lengths
  pub kept_below : kept ≤ m.length
  pub kept_within : kept ≤ head.length
  -- the roots are the head's, of laid nodes and the content's
  pub roots_are : roots ≡ roots_at (with_nodes m.node laid) head.length
  pub roots_fit : All (λ (node : Node). node.size ≤ MAX_CORE_BYTES) roots
  pub laid_fit : All (λ (node : Node). node.size ≤ MAX_CORE_BYTES) laid
  pub ascend : AllPairs (λ (one other : Node). one.index < other.index) laid
  -- what is to be stored under the head is laid or is stored below
  pub stored : (depth offset : ℕ) → in_closure head.length (holds (blocks_below kept m.block)) depth offset ≡ true
      → (has_number laid (number depth offset) || in_closure m.length (held m) depth offset) ≡ true
