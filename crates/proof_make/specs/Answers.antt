-- What a content can answer to a request: the honest proof, part by part, or nothing.
use Rattle.std.specs.Prelude.{ℕ, ◌&&◌, List, map, length, Option, Some, None, is_some, nat_le, nat_lt, nat_eq, slice_get, if◌then◌else◌}
use Rattle.std.specs.List.{list_all}
use Rattle.flat_tree.specs.Subtrees.{Subtree}
use Rattle.flat_tree.specs.Roots.{depth_over}
use Rattle.flat_tree.specs.Covers.{cover_of}
use Rattle.merkle_nodes.specs.declared.node.Twig.{Twig}
use Rattle.merkle_nodes.specs.Tree.{tree_of}
use Rattle.merkle_nodes.specs.Roots.{node_of}
use Rattle.proof_form.specs.declared.request.Want.{Want}
use Rattle.proof_form.specs.declared.request.Reach.{Reach}
use Rattle.proof_form.specs.declared.request.Request.{Request}
use Rattle.proof_form.specs.declared.proof.HashPart.{HashPart}
use Rattle.proof_form.specs.declared.proof.UpgradePart.{UpgradePart}
use Rattle.proof_form.specs.Proofs.{Proof, Block}
use Rattle.node_set.specs.Contents.{Content, Values, twig_at}
use Rattle.node_set.specs.Closure.{is_within}
use Rattle.node_set.specs.Paths.{depth_of, offset_of_node, trail_at, has_trail}
use Rattle.node_set.specs.Changes.{content_on}
use Rattle.node_set.specs.Offsets.{seek_at}

-- an answer to a part, where it is asked for: none that has none makes the whole have none
abbrev pub part_for : {A B : Type 0} → Option A → (A → Option B) → Option (Option B)
part_for None answer = Some None
part_for (Some asked) answer = Given (answer asked)
  where
    Given : {B : Type 0} → Option B → Option (Option B)
    Given (Some part) = Some (Some part)
    Given None = None

-- the block of an index with the lowest siblings of its path
abbrev pub block_with : Content → ℕ → ℕ → Option (List ℕ) → Option Block
block_with m index count None = None
block_with m index count (Some bytes) = Some (record { index = index; bytes = bytes; trail = trail_at m.node 0 index count })

-- a held block, where no more siblings are asked for than its path has
abbrev pub block_for : Content → Want → Option Block
block_for m want =
    if nat_lt want.index m.length && nat_le want.nodes (depth_over m.length want.index)
    then block_with m want.index want.nodes (m.block want.index) else None

-- the node of a subtree with the lowest siblings of its path
abbrev pub hash_with : Content → ℕ → ℕ → ℕ → Option Twig → Option HashPart
hash_with m depth offset count None = None
hash_with m depth offset count (Some twig) = Some (record { node = node_of depth offset twig; trail = trail_at m.node depth offset count })

-- a stored node, where each sibling that is asked for is stored
abbrev pub hash_for : Content → Want → Option HashPart
hash_for m want =
    let depth = depth_of want.index in
    let offset = offset_of_node want.index in
    if has_trail m.node depth offset want.nodes then hash_with m depth offset want.nodes (m.node depth offset) else None

-- the held block that has a byte, with its whole trail
abbrev pub sought_block : Content → Option ℕ → Option Block
sought_block m None = None
sought_block m (Some index) = block_with m index (depth_over m.length index) (m.block index)

-- the subtrees of the cover behind a start, and the head's signature
abbrev pub upgrade_for : Content → Reach → Option UpgradePart
upgrade_for m reach =
    let trees = cover_of reach.start reach.length in
    if nat_eq reach.length m.length && nat_lt reach.start reach.length
    && list_all (λ (tree : Subtree). is_some (m.node tree.depth tree.offset)) trees
    then Some (record { start = reach.start; length = reach.length; nodes = map (λ (tree : Subtree). twig_at m.node tree.depth tree.offset) trees; signature = m.signature })
    else None

-- the block that is asked for by its index, or by a byte
abbrev pub any_block_for : Content → Request → Option (Option Block)
any_block_for m request = ByIndex request.block
  where
    ByIndex : Option Want → Option (Option Block)
    ByIndex None = part_for request.seek (λ byte. sought_block m (seek_at m byte))
    ByIndex (Some want) = part_for (Some want) (block_for m)

-- the proof of the parts, where each that is asked for has its answer
abbrev pub proof_with : ℕ → Option ℕ → Option (Option Block) → Option (Option HashPart) → Option (Option UpgradePart) → Option Proof
proof_with fork seek (Some block) (Some hash) (Some upgrade) = Some (record { fork = fork; block = block; hash = hash; seek = seek; upgrade = upgrade })
proof_with fork seek _ _ _ = None

-- what a content answers to a request under its own fork
abbrev pub made_from : Content → Request → Option Proof
made_from m request =
    if nat_eq request.fork m.fork
    then proof_with m.fork request.seek (any_block_for m request) (part_for request.hash (hash_for m)) (part_for request.upgrade (upgrade_for m))
    else None

-- the values of a log's own tree
abbrev pub tree_values : List (List ℕ) → Values
tree_values log depth offset = if is_within (length log) depth offset then Some (tree_of log depth offset) else None

-- the content that holds the whole log
abbrev pub full_content : List (List ℕ) → ℕ → List ℕ → Content
full_content log fork signature = content_on fork (length log) signature (slice_get log) (tree_values log)

-- the honest proof: what the holder of the whole log answers
abbrev pub made : List (List ℕ) → ℕ → List ℕ → Request → Option Proof
made log fork signature request = made_from (full_content log fork signature) request
