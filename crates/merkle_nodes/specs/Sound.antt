-- When a block is that of each log whose roots have a hash: the inputs that a log's tree hashes, those that an answer
-- hashes, and two different ones of equal hash.
use Rattle.std.specs.Prelude.{◌≡◌, ◌≢◌, ℕ, ◌+◌, ◌*◌, ◌/◌, ◌%◌, ◌^◌, ◌==◌, ◌≤◌, ◌⊎◌, List, [], ◌∷◌, ◌++◌, length, take, map, if◌then◌else◌, slice_get, Some}
use Rattle.std.specs.List.{flat_map, range_with_len, Contains, AllByRecursion}
use Rattle.blake2b_hash.specs.Blake2b.{hash_of}
use Rattle.merkle_nodes.specs.declared.node.Node.{Node}
use Rattle.merkle_nodes.specs.declared.node.Twig.{Twig}
use Rattle.merkle_nodes.specs.Tree.{leaf_input, leaf_of, parent_input, tree_of}
use Rattle.merkle_nodes.specs.Roots.{roots_of, root_input, root_hash_of}
use Rattle.merkle_nodes.specs.Fold.{join, Proves}

-- the numbers below n
abbrev pub below : ℕ → List ℕ
below = range_with_len 0

-- what is hashed for the parents of the subtrees of a depth, where both halves are in the log
abbrev pub parent_inputs_of : List (List ℕ) → ℕ → List (List ℕ)
parent_inputs_of log depth =
    map (λ offset. parent_input (tree_of log depth (2 * offset)) (tree_of log depth (2 * offset + 1))) (below (length log / 2 ^ (depth + 1)))

-- every input of a log: of its blocks, of each perfect subtree in it, and of the roots of each number of first blocks
unfoldable pub inputs_of : List (List ℕ) → List (List ℕ)
inputs_of log =
    map leaf_input log
    ++ flat_map (parent_inputs_of log) (below (length log))
    ++ map (λ blocks. root_input (roots_of (take blocks log))) (below (length log + 1))

-- what is hashed for the parent of the node at this offset and its sibling
abbrev pub join_input : ℕ → Twig → Twig → List ℕ
join_input offset node sibling = if offset % 2 == 1 then parent_input sibling node else parent_input node sibling

-- what is hashed on the way up from a node
unfoldable pub fold_inputs : ℕ → Twig → List Twig → List (List ℕ)
fold_inputs offset node [] = []
fold_inputs offset node (sibling ∷ trail) = join_input offset node sibling ∷ fold_inputs (offset / 2) (join offset node sibling) trail

-- every input of an answer: of its roots, of its block, and of the way up
abbrev pub path_inputs : List Node → ℕ → List ℕ → List Twig → List (List ℕ)
path_inputs roots index block trail = root_input roots ∷ leaf_input block ∷ fold_inputs index (leaf_of block) trail

-- two different inputs of equal hash are in hand, one of each list
pub record Clash (xs ys : List (List ℕ)) : Type 0 where
  pub one : List ℕ
  pub other : List ℕ
  pub in_xs : Contains xs one
  pub in_ys : Contains ys other
  pub differ : one ≢ other
  pub equal : hash_of one ≡ hash_of other

-- a log has at least so many blocks, and the roots of its first ones have the hash of these
pub record IsLogUnder (roots : List Node) (blocks : ℕ) (log : List (List ℕ)) : Type 0 where
  pub long : blocks ≤ length log
  pub root_hash : root_hash_of (roots_of (take blocks log)) ≡ root_hash_of roots

-- the block is the log's at the index, or two different inputs of equal hash are in hand
abbrev pub IsBlockOrClash : List (List ℕ) → List Node → ℕ → List ℕ → List Twig → Type 0
IsBlockOrClash log roots index block trail = (slice_get log index ≡ Some block) ⊎ Clash (inputs_of log) (path_inputs roots index block trail)

-- so it is of each log under the roots
abbrev pub IsBlockUnder : List Node → ℕ → ℕ → List ℕ → List Twig → Type 0
IsBlockUnder roots blocks index block trail = (log : List (List ℕ)) → IsLogUnder roots blocks log → IsBlockOrClash log roots index block trail

-- hashes have 32 bytes
abbrev pub HasHash : Twig → Type 0
HasHash twig = length twig.hash ≡ 32

-- the same of a root
abbrev pub HasRootHash : Node → Type 0
HasRootHash root = length root.hash ≡ 32

-- what the trail of an answer proves is so, whoever made the answer
abbrev pub IsSound : List Node → ℕ → ℕ → List ℕ → List Twig → Type 0
IsSound roots blocks index block trail = AllByRecursion HasRootHash roots → AllByRecursion HasHash trail
    → Proves blocks roots index block trail → IsBlockUnder roots blocks index block trail
