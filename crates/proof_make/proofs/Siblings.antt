-- The siblings of a held block's path: they are to be stored, and one more is one more of the trail.
use Rattle.std.proofs.Common.{◌≡◌, ℕ, suc, Bool, true, IsTrue, ◌+◌, ◌-◌, ◌*◌, ◌/◌, ◌^◌, ◌<◌, ◌≤◌, List, [], ◌∷◌, ◌++◌, sym, ap, ◌∙◌, zero-add, arith}
use Rattle.std.proofs.lemmas.Nat.{pow-add, pow_pos}
use Rattle.std.proofs.lemmas.List.FromFn.{map-range_with_len_more}
use Rattle.std.proofs.Math.Nat.{div-lt_iff_lt-mul}
use Rattle.flat_tree.specs.Subtrees.{subtree, end_block_of}
use Rattle.flat_tree.specs.Roots.{full_roots_of, place_over, depth_over}
use Rattle.flat_tree.specs.declared.limits.TheConstants.{MAX_DEPTH}
use Rattle.flat_tree.proofs.OverLemmas.{root-over}
use Rattle.flat_tree.proofs.RootLemmas.{tile-full, tile-get}
use Rattle.merkle_nodes.specs.declared.node.Twig.{Twig}
use Rattle.node_set.specs.Contents.{Content, Values, twig_at}
use Rattle.node_set.specs.Closure.{in_closure}
use Rattle.node_set.specs.Paths.{sibling_of, trail_at}
use Rattle.node_set.specs.Views.{ViewState, KeepsContent}
use Rattle.node_set.proofs.ClosureLemmas.{halves_in_closure}
use Rattle.node_set.proofs.OffsetTruth.{path_within}
use Rattle.node_set.proofs.Stored.{over-suc, any_under-held}
use Rattle.proof_make.proofs.Kept.{still}

-- each is in the closure
pub sibling_in_closure : (n : ℕ) (held : ℕ → Bool) (index level : ℕ) → held index ≡ true → index < n → level < depth_over n index
    → in_closure n held level (sibling_of (index / 2 ^ level)) ≡ true
sibling_in_closure n held index level there within below =
    let top = depth_over n index in
    let over = root-over n index within in
    let root_within : end_block_of top (index / 2 ^ top) ≤ n =
    (tile-get (full_roots_of n) 0 n (tile-full n) (place_over n index) (subtree top (index / 2 ^ top)) over).1 in
    let inside = path_within n index top (top - suc level) (suc level) (omega (arith, below)) root_within in
    let half : sibling_of (index / 2 ^ level) / 2 ≡ index / 2 ^ suc level = omega (arith, over-suc index level) in
    halves_in_closure n held level (index / 2 ^ suc level) (sibling_of (index / 2 ^ level)) half (any_under-held held index (suc level) there) inside

-- in a row above few blocks
pub sibling_fits : (index level : ℕ) → index < 2 ^ MAX_DEPTH → level ≤ MAX_DEPTH → sibling_of (index / 2 ^ level) ≤ 2 ^ (MAX_DEPTH - level)
sibling_fits index level few low =
    let meet : MAX_DEPTH - level + level ≡ MAX_DEPTH = omega (arith, low) in
    let whole : 2 ^ (MAX_DEPTH - level) * 2 ^ level ≡ 2 ^ MAX_DEPTH = sym (pow-add 2 (MAX_DEPTH - level) level) ∙ ap (λ (k : ℕ). 2 ^ k) meet in
    let place : index / 2 ^ level < 2 ^ (MAX_DEPTH - level) = (div-lt_iff_lt-mul (pow_pos level)).1 (omega (arith, few, whole)) in
    omega (arith, place)

-- one level more
pub trail_more : (node : Values) (index level : ℕ)
    → trail_at node 0 index (level + 1) ≡ trail_at node 0 index level ++ twig_at node level (sibling_of (index / 2 ^ level)) ∷ []
trail_more node index level =
    let twig = λ (l : ℕ). twig_at node (0 + l) (sibling_of (index / 2 ^ l)) in
    map-range_with_len_more twig 0 level level (zero-add level)
    ∙ ap (λ (l : ℕ). trail_at node 0 index level ++ twig_at node l (sibling_of (index / 2 ^ level)) ∷ []) (zero-add level)

-- read over a view that stays
pub trail_next : (old now : ViewState) (index level : ℕ) (trail more : List Twig) (twig : Twig) → KeepsContent old now
    → (IsTrue old.stands → trail ≡ trail_at old.content.node 0 index level) → more ≡ trail ++ twig ∷ []
    → (IsTrue now.stands → twig ≡ twig_at now.content.node level (sibling_of (index / 2 ^ level)))
    → IsTrue old.stands → more ≡ trail_at old.content.node 0 index (level + 1)
trail_next old now index level trail more twig keeps so_far pushed here stands =
    let offset = sibling_of (index / 2 ^ level) in
    let is = still old now keeps (λ (m : Content). twig ≡ twig_at m.node level offset) here stands in
    pushed
    ∙ ap (λ (twigs : List Twig). twigs ++ twig ∷ []) (so_far stands)
    ∙ ap (λ (t : Twig). trail_at old.content.node 0 index level ++ t ∷ []) is
    ∙ sym (trail_more old.content.node index level)
