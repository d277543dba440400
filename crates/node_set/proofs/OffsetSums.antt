-- The sums that a block's byte offset is made of: its roots' and its left siblings' sizes.
use Rattle.std.proofs.Common.{◌≡◌, ◌≢◌, ℕ, suc, Bool, true, ◌+◌, ◌-◌, ◌*◌, ◌/◌, ◌%◌, ◌^◌, ◌<◌, ◌≤◌, List, length, take, sym, ap, ◌∙◌, arith, add-one}
use Rattle.std.specs.List.{AllByRecursion}
use Rattle.std.proofs.lemmas.List.Elements.{All-from_recursion}
use Rattle.std.proofs.lemmas.List.Sums.{sum_by-le, sum_by-take-le}
use Rattle.flat_tree.specs.Subtrees.{subtree, end_block_of}
use Rattle.flat_tree.specs.Roots.{full_roots_of, place_over, depth_over}
use Rattle.flat_tree.specs.declared.limits.TheConstants.{MAX_ROOTS, MAX_CORE_BYTES}
use Rattle.flat_tree.proofs.OverLemmas.{root-over}
use Rattle.flat_tree.proofs.RootLemmas.{tile-full, tile-get}
use Rattle.merkle_nodes.specs.declared.node.Node.{Node}
use Rattle.node_set.specs.Contents.{Values, bytes_under}
use Rattle.node_set.specs.Closure.{in_closure}
use Rattle.node_set.specs.Offsets.{left_step, left_bytes}
use Rattle.node_set.proofs.ClosureLemmas.{halves_in_closure}
use Rattle.node_set.proofs.OffsetTruth.{path_within}
use Rattle.node_set.proofs.Stored.{over-suc, any_under-held}

-- few roots of no more than a core's bytes each
pub roots_most : (nodes : List Node) (place : ℕ) → AllByRecursion (λ (node : Node). node.size ≤ MAX_CORE_BYTES) nodes → length nodes ≤ MAX_ROOTS
    → bytes_under (take place nodes) ≤ MAX_ROOTS * MAX_CORE_BYTES
roots_most nodes place sizes few =
    let size = λ (node : Node). node.size in
    let all = sum_by-le size MAX_CORE_BYTES nodes (All-from_recursion (λ (node : Node). node.size ≤ MAX_CORE_BYTES) nodes sizes) in
    omega (arith, all, sum_by-take-le size nodes place, few)

-- the left sibling on a held block's path is in the closure
pub left_in_closure : (n : ℕ) (held : ℕ → Bool) (index level : ℕ) → held index ≡ true → index < n → level < depth_over n index
    → index / 2 ^ level % 2 ≢ 0 → in_closure n held level (index / 2 ^ level - 1) ≡ true
left_in_closure n held index level there within below right =
    let offset = index / 2 ^ level in
    let top = depth_over n index in
    let over = root-over n index within in
    let root_within : end_block_of top (index / 2 ^ top) ≤ n =
    (tile-get (full_roots_of n) 0 n (tile-full n) (place_over n index) (subtree top (index / 2 ^ top)) over).1 in
    let inside = path_within n index top (top - suc level) (suc level) (omega (arith, below)) root_within in
    let half : (offset - 1) / 2 ≡ index / 2 ^ suc level = omega (arith, over-suc index level, right) in
    halves_in_closure n held level (index / 2 ^ suc level) (offset - 1) half (any_under-held held index (suc level) there) inside

-- nothing is left of the root
pub left_all : (node : Values) (index levels level bytes : ℕ) → levels ≤ level
    → bytes + left_bytes (levels - level) node level (index / 2 ^ level) ≡ left_bytes levels node 0 index → bytes ≡ left_bytes levels node 0 index
unfolding left_bytes
left_all node index levels level bytes past is =
    let none : levels - level ≡ 0 = omega (arith, past) in
    let left = ap (λ (steps : ℕ). left_bytes steps node level (index / 2 ^ level)) none in
    omega (arith, is, left)

-- one level more
pub left_next : (node : Values) (index levels level bytes left : ℕ) → level < levels
    → bytes + left_bytes (levels - level) node level (index / 2 ^ level) ≡ left_bytes levels node 0 index → left ≡ left_step node level (index / 2 ^ level)
    → bytes + left + left_bytes (levels - (level + 1)) node (level + 1) (index / 2 ^ (level + 1)) ≡ left_bytes levels node 0 index
unfolding left_bytes
left_next node index levels level bytes left below is here =
    let steps = levels - (level + 1) in
    let more : levels - level ≡ suc steps = omega (arith, below) in
    let split = ap (λ (n : ℕ). left_bytes n node level (index / 2 ^ level)) more in
    let above : left_bytes steps node (suc level) (index / 2 ^ level / 2) ≡ left_bytes steps node (level + 1) (index / 2 ^ (level + 1)) =
    ap (left_bytes steps node (suc level)) (over-suc index level) ∙ ap (λ (d : ℕ). left_bytes steps node d (index / 2 ^ d)) (sym (add-one level)) in
    omega (arith, is, here, split, above)

-- none yet
pub left_none : (node : Values) (index levels : ℕ) → 0 + left_bytes (levels - 0) node 0 (index / 2 ^ 0) ≡ left_bytes levels node 0 index
left_none node index levels =
    let leaf : index / 2 ^ 0 ≡ index = omega arith in
    let all : levels - 0 ≡ levels = omega arith in
    let same = ap (λ (o : ℕ). left_bytes levels node 0 o) leaf in
    let whole = ap (λ (n : ℕ). left_bytes n node 0 (index / 2 ^ 0)) all in
    omega (arith, same, whole)
