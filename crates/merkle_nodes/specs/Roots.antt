-- The full roots of a log, their hash, and the text that is signed.
use Rattle.std.specs.Prelude.{◌≡◌, ℕ, Bool, List, [], ◌∷◌, ◌++◌, length, map, codes, IsTrue}
use Rattle.std.specs.List.{flat_map}
use Rattle.blake2b_hash.specs.Blake2b.{hash_of}
use Rattle.flat_tree.specs.Subtrees.{Subtree, number, numbers_of}
use Rattle.flat_tree.specs.Roots.{full_roots_of}
use Rattle.merkle_nodes.specs.declared.node.Node.{Node}
use Rattle.merkle_nodes.specs.declared.node.Twig.{Twig}
use Rattle.merkle_nodes.specs.Tree.{u64_bytes, tree_of}

-- a node's size and hash
abbrev pub twig_of : Node → Twig
twig_of node = record { size = node.size; hash = node.hash }

-- the node of a subtree with this size and hash
abbrev pub node_of : ℕ → ℕ → Twig → Node
node_of depth offset twig = record { index = number depth offset; size = twig.size; hash = twig.hash }

-- the trees over the perfect subtrees of the length's binary digits, largest first, left to right
abbrev pub roots_of : List (List ℕ) → List Node
roots_of log = map (λ (tree : Subtree). node_of tree.depth tree.offset (tree_of log tree.depth tree.offset)) (full_roots_of (length log))

-- the nodes stand at the full roots of so many blocks
abbrev pub HasShape : List Node → ℕ → Type 0
HasShape roots blocks = map (λ (node : Node). node.index) roots ≡ numbers_of (full_roots_of blocks)

-- one root in what is hashed for all
abbrev pub root_part : Node → List ℕ
root_part root = root.hash ++ u64_bytes root.index ++ u64_bytes root.size

-- what is hashed for the roots
abbrev pub root_input : List Node → List ℕ
root_input roots = (2 ∷ []) ++ flat_map root_part roots

-- the hash over all roots
abbrev pub root_hash_of : List Node → List ℕ
root_hash_of roots = hash_of (root_input roots)

-- the name that signed texts begin with, hashed
abbrev pub signed_name : List ℕ
signed_name = codes "hypercore-store/tree/1"

-- the text of a head that is signed
abbrev pub signed_text : List ℕ → ℕ → ℕ → List ℕ
signed_text root length fork = hash_of signed_name ++ root ++ u64_bytes length ++ u64_bytes fork

-- the verifier accepts this head over these roots
pub record Accepts (accepts : List ℕ → List ℕ → Bool) (fork length : ℕ) (roots : List Node) (signature : List ℕ) : Type 0 where
  pub shape : HasShape roots length
  pub accepted : IsTrue (accepts (signed_text (root_hash_of roots) length fork) signature)
