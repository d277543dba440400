-- What a holder has of a log.
use Rattle.std.specs.Prelude.{ℕ, Bool, List, Option, Some, None, is_some, replicate, map, sum_by}
use Rattle.flat_tree.specs.Subtrees.{Subtree}
use Rattle.flat_tree.specs.Roots.{full_roots_of}
use Rattle.commit_book.specs.History.{Summary}
use Rattle.merkle_nodes.specs.declared.node.Node.{Node}
use Rattle.merkle_nodes.specs.declared.node.Twig.{Twig}
use Rattle.merkle_nodes.specs.Roots.{node_of, root_hash_of}
pub use Rattle.merkle_nodes.specs.Joined.{Values}

-- blocks by index, where they are held
abbrev pub Blocks : Type 0
Blocks = ℕ → Option (List ℕ)

-- a head (its fork, its length in blocks and its signature), the blocks held, and the sizes and hashes of the nodes stored
pub record Content : Type 0 where
  pub fork : ℕ
  pub length : ℕ
  pub signature : List ℕ
  pub block : Blocks
  pub node : Values

-- the block of the index is held
abbrev pub holds : Blocks → ℕ → Bool
holds block index = is_some (block index)

-- the content's held indices
abbrev pub held : Content → ℕ → Bool
held m = holds m.block

-- what stands for a node that isn't stored
abbrev pub no_twig : Twig
no_twig = record { size = 0; hash = replicate 32 0 }

-- a stored node's size and hash
abbrev pub twig_at : Values → ℕ → ℕ → Twig
twig_at value depth offset = TwigOr (value depth offset)
  where
    TwigOr : Option Twig → Twig
    TwigOr (Some twig) = twig
    TwigOr None = no_twig

-- a stored node with its number
abbrev pub node_at : Values → ℕ → ℕ → Node
node_at value depth offset = node_of depth offset (twig_at value depth offset)

-- the nodes at the full roots of a length
abbrev pub roots_at : Values → ℕ → List Node
roots_at value n = map (λ (tree : Subtree). node_at value tree.depth tree.offset) (full_roots_of n)

-- the content's roots
abbrev pub roots : Content → List Node
roots m = roots_at m.node m.length

-- the bytes under some nodes
abbrev pub bytes_under : List Node → ℕ
bytes_under = sum_by (λ (node : Node). node.size)

-- what a content stands for in short
abbrev pub summary_of : Content → Summary
summary_of m = record { fork = m.fork; length = m.length; root = root_hash_of (roots m); held = held m }

-- the content that was never changed
abbrev pub start : Content
start = record { fork = 0; length = 0; signature = replicate 64 0; block = λ index. None; node = λ depth offset. None }
