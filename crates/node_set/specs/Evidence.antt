-- What a content shows of a log: the inputs that its hashes were made of, and when it is a content of a log.
use Rattle.std.specs.Prelude.{◌≡◌, ℕ, ◌+◌, ◌*◌, ◌/◌, ◌^◌, ◌<◌, ◌≤◌, ◌⊎◌, List, [], ◌∷◌, ◌++◌, length, take, sum_by, Option, Some, None, slice_get}
use Rattle.std.specs.List.{flat_map}
use Rattle.merkle_nodes.specs.declared.node.Twig.{Twig}
use Rattle.merkle_nodes.specs.Tree.{leaf_input, parent_input, tree_of}
use Rattle.merkle_nodes.specs.Roots.{roots_of, root_input, root_hash_of}
use Rattle.merkle_nodes.specs.Sound.{below, inputs_of, Clash}
use Rattle.node_set.specs.Contents.{Content, Blocks, Values, roots}
use Rattle.node_set.specs.Offsets.{offset_of}

-- what is hashed for a held block's leaf
abbrev pub leaf_evidence : Blocks → ℕ → List (List ℕ)
leaf_evidence block index = OfBlock (block index)
  where
    OfBlock : Option (List ℕ) → List (List ℕ)
    OfBlock (Some bytes) = leaf_input bytes ∷ []
    OfBlock None = []

-- what is hashed for the parent of two stored halves
abbrev pub parent_evidence : Values → ℕ → ℕ → List (List ℕ)
parent_evidence node depth offset = OfHalves (node depth (2 * offset)) (node depth (2 * offset + 1))
  where
    OfHalves : Option Twig → Option Twig → List (List ℕ)
    OfHalves (Some left) (Some right) = parent_input left right ∷ []
    OfHalves _ _ = []

-- the same of each pair of a depth, in a log of n blocks
abbrev pub pairs_evidence : ℕ → Values → ℕ → List (List ℕ)
pairs_evidence n node depth = flat_map (parent_evidence node depth) (below (n / 2 ^ (depth + 1)))

-- what is hashed for the roots, for each stored pair, and for each held block
unfoldable pub evidence : Content → List (List ℕ)
evidence m = root_input (roots m) ∷ flat_map (pairs_evidence m.length m.node) (below m.length) ++ flat_map (leaf_evidence m.block) (below m.length)

-- the bytes of a log
abbrev pub bytes_of : List (List ℕ) → ℕ
bytes_of = sum_by length

-- the content is one of the log: its roots have the hash of the log's first blocks, which are fewer than 2^64 bytes
pub record IsOf (m : Content) (log : List (List ℕ)) : Type 0 where
  pub long : m.length ≤ length log
  pub bytes : bytes_of (take m.length log) < 2 ^ 64
  pub root_hash : root_hash_of (roots m) ≡ root_hash_of (roots_of (take m.length log))

-- it is so, or two different inputs of equal hash are in hand, one of the log and one of the content
abbrev pub OrClash : Type 0 → Content → List (List ℕ) → Type 0
OrClash P m log = P ⊎ Clash (inputs_of log) (evidence m)

-- each stored node has the log's size and hash
abbrev pub NodesAreOf : Content → List (List ℕ) → Type 0
NodesAreOf m log = (depth offset : ℕ) (twig : Twig) → m.node depth offset ≡ Some twig → twig ≡ tree_of log depth offset

-- each held block is the log's
abbrev pub BlocksAreOf : Content → List (List ℕ) → Type 0
BlocksAreOf m log = (index : ℕ) (bytes : List ℕ) → m.block index ≡ Some bytes → slice_get log index ≡ Some bytes

-- each held block stands at the sum of the sizes of the blocks before it
abbrev pub OffsetsAreOf : Content → List (List ℕ) → Type 0
OffsetsAreOf m log = (index : ℕ) (bytes : List ℕ) → m.block index ≡ Some bytes → offset_of m index ≡ bytes_of (take index log)
