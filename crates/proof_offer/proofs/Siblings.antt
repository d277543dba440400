-- The siblings of a node's path: their numbers, their twigs, and that those of a held block are to be stored.
use Rattle.std.proofs.Common.{◌≡◌, ℕ, zero, suc, true, ◌+◌, ◌*◌, ◌/◌, ◌^◌, ◌<◌, ◌≤◌, List, [], ◌∷◌, ◌++◌, length, refl, sym, ap, subst, ◌∙◌, zero-add, add-one, arith}
use Rattle.std.specs.Prelude.{is_some}
use Rattle.std.specs.List.{list_all}
use Rattle.std.proofs.Math.Nat.{pow-succ'}
use Rattle.std.proofs.Math.Pow.{pow_mono}
use Rattle.std.proofs.lemmas.Bool.{and_from}
use Rattle.std.proofs.lemmas.Nat.{shr-shr}
use Rattle.std.proofs.lemmas.List.{map_push, length-map}
use Rattle.std.proofs.lemmas.List.Folds.{list_all-append, list_all-map}
use Rattle.std.proofs.lemmas.List.FromFn.{map-range_with_len_more, length-map-range_with_len}
use Rattle.std.proofs.lemmas.Simd.{map-map}
use Rattle.flat_tree.specs.Subtrees.{Subtree, subtree, number, numbers_of}
use Rattle.flat_tree.specs.Roots.{depth_over}
use Rattle.flat_tree.specs.declared.limits.TheConstants.{MAX_NODE, MAX_SIBLINGS}
use Rattle.flat_tree.proofs.NumberLemmas.{some_number, trailing_ones-number, shifted}
use Rattle.node_set.specs.Contents.{Content, Values, held, twig_at}
use Rattle.node_set.specs.Closure.{in_closure}
use Rattle.node_set.specs.Paths.{depth_of, offset_of_node, sibling_of, levels, trail_at, has_trail}
use Rattle.proof_make.specs.Offers.{has_nodes}
use Rattle.proof_make.proofs.Covers.{twigs_at}
use Rattle.proof_make.proofs.Siblings.{sibling_in_closure}
use Rattle.proof_offer.specs.Parts.{siblings_of}

-- ---- the node of a number

pub number_of_node : (node : ℕ) → node + 1 < 2 ^ 64 → number (depth_of node) (offset_of_node node) ≡ node
number_of_node node small =
    let (depth, rest) = some_number node in
    let (offset, is) = rest in
    let deep : depth_of node ≡ depth = trailing_ones-number node depth offset small is in
    let far : offset_of_node node ≡ offset =
    ap (λ (d : ℕ). node / 2 ^ (d + 1)) deep
    ∙ sym (shr-shr node depth 1)
    ∙ ap (λ (n : ℕ). n / 2 ^ depth / 2) is
    ∙ shifted depth offset in
    ap (λ (d : ℕ). number d (offset_of_node node)) deep ∙ ap (number depth) far ∙ sym is

-- ---- one after the other

-- the sibling so many levels up
abbrev pub sibling_at : ℕ → ℕ → ℕ → Subtree
sibling_at depth offset level = subtree (depth + level) (sibling_of (offset / 2 ^ level))

pub siblings-more : (depth offset level : ℕ) → siblings_of depth offset (level + 1) ≡ siblings_of depth offset level ++ sibling_at depth offset level ∷ []
siblings-more depth offset level = map-range_with_len_more (sibling_at depth offset) 0 level level (zero-add level)

pub length-siblings : (depth offset count : ℕ) → length (numbers_of (siblings_of depth offset count)) ≡ count
length-siblings depth offset count = length-map (siblings_of depth offset count) _ ∙ length-map-range_with_len (sibling_at depth offset) 0 count

-- so many levels above a node, with the siblings' numbers on the way
pub record IsClimbed (node over level : ℕ) (numbers : List ℕ) : Type 0 where
  pub count : length numbers ≡ level
  pub small : over + 1 ≤ 4294967296 * 2 ^ level
  pub climbs : (depth offset : ℕ) → node ≡ number depth offset → over ≡ number (depth + level) (offset / 2 ^ level)
  pub passed : (depth offset : ℕ) → node ≡ number depth offset → numbers ≡ numbers_of (siblings_of depth offset level)

pub climbed-start : (node : ℕ) (numbers : List ℕ) → node < 4294967296 → numbers ≡ [] → IsClimbed node node 0 numbers
climbed-start node numbers few none = record {
  count = ap length none;
  small = omega (arith, few);
  climbs = λ depth offset is.
      let low : depth ≡ depth + 0 = omega arith in
      let same : offset ≡ offset / 2 ^ 0 = omega arith in
      is ∙ ap (λ (d : ℕ). number d offset) low ∙ ap (number (depth + 0)) same;
  passed = λ depth offset is. none;
}

-- its parent and its sibling can be asked for
pub climbed-fits : (node over level : ℕ) (numbers : List ℕ) → IsClimbed node over level numbers → level ≤ MAX_SIBLINGS → over ≤ MAX_NODE
climbed-fits node over level numbers climbed low =
    let few : level ≤ 20 = omega (arith, low) in
    let power : 2 ^ level ≤ 2 ^ 20 = pow_mono few in
    omega (arith, climbed.small, power)

pub climbed-up : (node over level up sibling : ℕ) (numbers more : List ℕ) → IsClimbed node over level numbers
    → ((depth offset : ℕ) → over ≡ number depth offset → sibling ≡ number depth (sibling_of offset))
    → ((depth offset : ℕ) → over ≡ number depth offset → up ≡ number (depth + 1) (offset / 2)) → up ≤ 2 * over + 1 → more ≡ numbers ++ sibling ∷ []
    → IsClimbed node up (level + 1) more
climbed-up node over level up sibling numbers more climbed is_sibling is_up small pushed = record {
  count = ap length pushed ∙ length-push numbers sibling ∙ ap (λ (n : ℕ). n + 1) climbed.count;
  small =
      let power : 2 ^ (level + 1) ≡ 2 * 2 ^ level = ap (λ (k : ℕ). 2 ^ k) (add-one level) ∙ pow-succ' 2 level in
      omega (arith, climbed.small, small, power);
  climbs = λ depth offset is.
      let there = is_up (depth + level) (offset / 2 ^ level) (climbed.climbs depth offset is) in
      let deep : depth + level + 1 ≡ depth + (level + 1) = omega arith in
      there
      ∙ ap (λ (d : ℕ). number d (offset / 2 ^ level / 2)) deep
      ∙ ap (number (depth + (level + 1))) (shr-shr offset level 1);
  passed = λ depth offset is.
      let of_tree = λ (tree : Subtree). number tree.depth tree.offset in
      pushed
      ∙ ap (λ (ns : List ℕ). ns ++ sibling ∷ []) (climbed.passed depth offset is)
      ∙ ap (λ (n : ℕ). numbers_of (siblings_of depth offset level) ++ n ∷ []) (is_sibling (depth + level) (offset / 2 ^ level) (climbed.climbs depth offset is))
      ∙ sym (map_push of_tree (siblings_of depth offset level) (sibling_at depth offset level))
      ∙ ap numbers_of (sym (siblings-more depth offset level));
}
  where
    length-push : (xs : List ℕ) (x : ℕ) → length (xs ++ x ∷ []) ≡ length xs + 1
    length-push [] x = refl
    length-push (y ∷ xs) x = omega (arith, length-push xs x)

-- ---- a trail is its siblings' twigs

pub trail-siblings : (node : Values) (depth offset count : ℕ) → twigs_at node (siblings_of depth offset count) ≡ trail_at node depth offset count
trail-siblings node depth offset count = map-map (λ (tree : Subtree). twig_at node tree.depth tree.offset) (sibling_at depth offset) (levels count)

pub has_trail-siblings : (node : Values) (depth offset count : ℕ)
    → list_all (λ (tree : Subtree). is_some (node tree.depth tree.offset)) (siblings_of depth offset count) ≡ has_trail node depth offset count
has_trail-siblings node depth offset count = list_all-map (λ (tree : Subtree). is_some (node tree.depth tree.offset)) (sibling_at depth offset) (levels count)

-- ---- the siblings of a held block's path are to be stored

pub siblings_stored : (m : Content) (index count : ℕ) → held m index ≡ true → index < m.length → count ≤ depth_over m.length index
    → has_nodes m (siblings_of 0 index count) ≡ true
siblings_stored m index zero there within few = refl
siblings_stored m index (suc count) there within few =
    let closed = λ (tree : Subtree). in_closure m.length (held m) tree.depth tree.offset in
    let top = sibling_at 0 index count in
    let here : closed top ≡ true =
    ap (λ (d : ℕ). in_closure m.length (held m) d (sibling_of (index / 2 ^ count))) (zero-add count)
    ∙ sibling_in_closure m.length (held m) index count there within (omega (arith, few)) in
    let before = siblings_stored m index count there within (omega (arith, few)) in
    let all : has_nodes m (siblings_of 0 index (count + 1)) ≡ true =
    ap (has_nodes m) (siblings-more 0 index count)
    ∙ list_all-append closed (siblings_of 0 index count) (top ∷ [])
    ∙ and_from (has_nodes m (siblings_of 0 index count)) (has_nodes m (top ∷ [])) before (and_from (closed top) true here refl) in
    subst (λ (k : ℕ). has_nodes m (siblings_of 0 index k) ≡ true) (add-one count) all
