-- The way up a block's path, sibling by sibling.
use Rattle.std.proofs.Common.{◌≡◌, ℕ, ◌+◌, ◌/◌, ◌^◌, ◌<◌, ◌≤◌, List, [], ◌∷◌, ◌++◌, length, map, sym, ◌∙◌, ap, subst, arith}
use Rattle.std.specs.List.{range_with_len, Contains}
use Rattle.std.proofs.lemmas.List.{length-map}
use Rattle.std.proofs.lemmas.List.FromFn.{length-range_with_len, map-range_with_len_more}
use Rattle.flat_tree.specs.Subtrees.{number}
use Rattle.flat_tree.specs.Roots.{depth_over}
use Rattle.flat_tree.specs.declared.limits.TheConstants.{MAX_BATCH_BLOCKS, MAX_NODE}
use Rattle.flat_tree.proofs.NumberLemmas.{number_below}
use Rattle.merkle_nodes.specs.declared.node.Node.{Node}
use Rattle.merkle_nodes.specs.declared.node.Twig.{Twig}
use Rattle.merkle_nodes.specs.Roots.{node_of, twig_of}
use Rattle.merkle_batch.specs.Batch.{nodes_of}
use Rattle.merkle_batch.specs.Honest.{sibling_of, sibling_at}
use Rattle.merkle_batch.proofs.HonestLemmas.{half, path_within, sibling_within}
use Rattle.merkle_batch.proofs.LogNodes.{nodes_of-has, nodes_of-only}

-- so many levels up: the path's node, and the siblings below it
pub record HasWalked (log : List (List ℕ)) (index depth node : ℕ) (trail : List Twig) : Type 0 where
  pub at_node : node ≡ number depth (index / 2 ^ depth)
  pub so_far : trail ≡ map (sibling_at log index) (range_with_len 0 depth)

-- a level that the code goes is one below the root over the block
pub below_root : (log : List (List ℕ)) (index : ℕ) {depth count top : ℕ} → count ≡ length log → top ≡ depth_over count index → depth < top
    → depth < depth_over (length log) index
below_root log index all is below = omega (arith, below, is ∙ ap (λ (n : ℕ). depth_over n index) all)

-- the node is one whose parent and sibling may be asked for
pub walked_within : {log : List (List ℕ)} {index depth node : ℕ} {trail : List Twig} → HasWalked log index depth node trail → length log ≤ MAX_BATCH_BLOCKS
    → index < length log → depth < depth_over (length log) index → node ≤ MAX_NODE
walked_within {log} {index} {depth} walked few less below =
    omega (arith, walked.at_node, number_below depth (index / 2 ^ depth), path_within log index depth less (omega (arith, below)), few)

pub walked_length : {log : List (List ℕ)} {index depth node : ℕ} {trail : List Twig} → HasWalked log index depth node trail → length trail ≡ depth
walked_length {log} {index} {depth} walked =
    ap length walked.so_far ∙ length-map (range_with_len 0 depth) (sibling_at log index) ∙ length-range_with_len 0 depth

-- the sibling's node
abbrev pub sibling_node : List (List ℕ) → ℕ → ℕ → Node
sibling_node log index depth = node_of depth (sibling_of (index / 2 ^ depth)) (sibling_at log index depth)

-- it is there
pub sibling_there : (log : List (List ℕ)) (index depth : ℕ) (nodes : List Node) → length log ≤ MAX_BATCH_BLOCKS → nodes ≡ nodes_of log → index < length log
    → depth < depth_over (length log) index → Contains nodes (sibling_node log index depth)
sibling_there log index depth nodes few are less below =
    let within = sibling_within log index depth less below in
    subst (λ (ns : List Node). Contains ns (sibling_node log index depth)) (sym are)
    (nodes_of-has log depth (sibling_of (index / 2 ^ depth)) (omega (arith, few)) within)

-- one level up
pub HasWalked-step : {log : List (List ℕ)} {index depth node above sibling : ℕ} {nodes : List Node} {trail more : List Twig} {found : Node} {twig : Twig}
    → HasWalked log index depth node trail → nodes ≡ nodes_of log → Contains nodes found → found.index ≡ sibling
    → sibling ≡ number depth (sibling_of (index / 2 ^ depth)) → twig ≡ twig_of found → above ≡ number (depth + 1) (index / 2 ^ depth / 2)
    → more ≡ trail ++ twig ∷ [] → HasWalked log index (depth + 1) above more
HasWalked-step {log} {index} {depth} {found = found} {twig = twig} walked are there index_is is twig_is up pushed =
    let here : Contains (nodes_of log) found = subst (λ (ns : List Node). Contains ns found) are there in
    let value : twig ≡ sibling_at log index depth = twig_is ∙ nodes_of-only log found depth (sibling_of (index / 2 ^ depth)) here (index_is ∙ is) in
    let so_far = map (sibling_at log index) (range_with_len 0 depth) in
    let one_more = map-range_with_len_more (sibling_at log index) 0 depth depth (omega arith) in
    record {
      at_node = up ∙ ap (number (depth + 1)) (half index depth);
      so_far = pushed ∙ ap (λ (ts : List Twig). ts ++ twig ∷ []) walked.so_far ∙ ap (λ (t : Twig). so_far ++ t ∷ []) value ∙ sym one_more;
    }
