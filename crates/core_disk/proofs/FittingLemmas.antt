-- The tests of sizes say what they test.
use Rattle.std.proofs.Common.{◌≡◌, inl, inr, ℕ, zero, suc, Bool, true, false, ◌*◌, ◌<◌, ◌≤◌, ◌==◌, ◌||◌, Option, Some, None, refl, sym, subst, ◌∙◌, arith}
use Rattle.std.specs.Prelude.{not, nat_eq}
use Rattle.std.specs.Bool.{Decides}
use Rattle.std.proofs.lemmas.Bool.{cases_Bool, and_parts, eq-eqb, eqb-true, lt-leb}
use Rattle.std.proofs.lemmas.Bool.Decides.{Decides-like}
use Rattle.flat_tree.specs.declared.limits.TheConstants.{MAX_BLOCK_BYTES, MAX_CORE_BYTES}
use Rattle.flat_tree.specs.Subtrees.{number}
use Rattle.merkle_nodes.specs.declared.node.Twig.{Twig}
use Rattle.node_set.specs.Contents.{Content, Values, held, twig_at}
use Rattle.node_set.specs.Closure.{in_closure}
use Rattle.node_set.proofs.ClosureLemmas.{true_closure}
use Rattle.node_set.proofs.Stored.{some_same}
use Rattle.core_disk.specs.declared.layout.TheConstants.{NODE_BYTES}
use Rattle.core_disk.specs.Laid.{SizesFit}
use Rattle.core_disk.specs.Testing.{IsBounded, each_below, each_node}
use Rattle.core_disk.specs.Fitting.{size_fits, sizes_fit, is_in_range, is_record_of, is_unfit, IsUnfitRecord}
use Rattle.core_disk.proofs.Testing.{place_below, nodes_Decides, Decides-le}

-- ---- no node is too large

abbrev SizeFits : Option Twig → Type 0
SizeFits found = (twig : Twig) → found ≡ Some twig → twig.size ≤ MAX_CORE_BYTES

size_Decides : (found : Option Twig) → Decides (size_fits found) (SizeFits found)
size_Decides None = (λ test twig is. cc, λ all. refl)
size_Decides (Some own) =
    Decides-like (size_fits (Some own)) (λ le twig is. subst (λ (t : Twig). t.size ≤ MAX_CORE_BYTES) (some_same own twig is) le) (λ all. all own refl)
    (Decides-le own.size MAX_CORE_BYTES)

sizes_Decides : (m : Content) → Decides (sizes_fit m) ((depth : ℕ) → depth < m.length → (offset : ℕ) → offset < m.length → SizeFits (m.node depth offset))
sizes_Decides m =
    nodes_Decides (λ depth offset. size_fits (m.node depth offset)) (λ depth offset. SizeFits (m.node depth offset))
    (λ depth offset. size_Decides (m.node depth offset)) m.length

pub sizes_told : (m : Content) → IsBounded m → sizes_fit m ≡ true → SizesFit m.node
sizes_told m bounded test depth offset twig there =
    let below = place_below m.length depth offset (bounded.nodes depth offset twig there) in
    (sizes_Decides m).0 test depth below.0 offset below.1 twig there

pub told_sizes : (m : Content) → SizesFit m.node → sizes_fit m ≡ true
told_sizes m fit = (sizes_Decides m).1 (λ depth deep offset wide. fit depth offset)

-- nor is a place without one
pub sized : (node : Values) → SizesFit node → (depth offset : ℕ) → (twig_at node depth offset).size ≤ MAX_CORE_BYTES
sized node fit depth offset = of (node depth offset) refl
  where
    of : (found : Option Twig) → node depth offset ≡ found → (twig_at node depth offset).size ≤ MAX_CORE_BYTES
    of None is = rw is (omega arith)
    of (Some twig) is = rw is (fit depth offset twig is)

-- ---- records that aren't in their range

-- where not all pass, one doesn't
one_fails : (n : ℕ) (passes : ℕ → Bool) → each_below n passes ≡ false → (k : ℕ) × (passes k ≡ false)
unfolding each_below
one_fails zero passes test = cc
one_fails (suc n) passes test = elim (cases_Bool (passes n)) [
  | inl here ↦ one_fails n passes (sym (rw here refl) ∙ test)
  | inr fails ↦ (n, fails)
]

not_true : (b : Bool) → not b ≡ true → b ≡ false
not_true true is = cc
not_true false is = refl

neither : (a b : Bool) → (not a || b) ≡ false → (a ≡ true) × (b ≡ false)
neither true b is = (refl, is)
neither false b is = cc

pub unfit_record : (m : Content) (at : ℕ) → is_unfit m at ≡ true → IsUnfitRecord m at
unfit_record m at test =
    let passes = λ (depth offset : ℕ). not (is_record_of m at depth offset) || is_in_range depth (m.node depth offset) in
    let deep = one_fails m.length (λ depth. each_below m.length (passes depth)) (not_true (each_node m.length passes) test) in
    let wide = one_fails m.length (passes deep.0) deep.1 in
    let both = neither (is_record_of m at deep.0 wide.0) (is_in_range deep.0 (m.node deep.0 wide.0)) wide.1 in
    let parts = and_parts (nat_eq at (NODE_BYTES * number deep.0 wide.0)) (in_closure m.length (held m) deep.0 wide.0) both.0 in
    record {
      depth = deep.0;
      offset = wide.0;
      place = eqb-true at (NODE_BYTES * number deep.0 wide.0) parts.0;
      stored = parts.1;
      unfit = both.1;
    }

pub record_unfit : (m : Content) (at : ℕ) → IsUnfitRecord m at → is_unfit m at ≡ true
record_unfit m at is = elim (cases_Bool (each_node m.length passes)) [
  | inl all ↦
      let below = place_below m.length is.depth is.offset (true_closure m.length (held m) is.depth is.offset is.stored).within in
      let here = (nodes_Decides passes (λ depth offset. passes depth offset ≡ true) (λ depth offset. (λ p. p, λ p. p)) m.length).0
      all is.depth below.0 is.offset below.1 in
      let fails : passes is.depth is.offset ≡ false = rw (eq-eqb at (NODE_BYTES * number is.depth is.offset) is.place, is.stored, is.unfit) refl in
      let clash : true ≡ false = sym here ∙ fails in cc
  | inr some ↦ rw some refl
]
  where
    passes : ℕ → ℕ → Bool
    passes depth offset = not (is_record_of m at depth offset) || is_in_range depth (m.node depth offset)

-- a node that is too large, or not there, isn't in its range
pub large_unfit : (depth : ℕ) (found : Option Twig) → ((twig : Twig) → found ≡ Some twig → MAX_CORE_BYTES < twig.size) → is_in_range depth found ≡ false
large_unfit depth None large = refl
large_unfit depth (Some twig) large =
    let more = large twig refl in
    elim (cases_Bool (depth == 0)) [
      | inl leaf ↦ rw leaf (lt-leb twig.size MAX_BLOCK_BYTES (omega (arith, more)))
      | inr above ↦ rw above (lt-leb twig.size MAX_CORE_BYTES (omega (arith, more)))
    ]

-- nor is a leaf that is larger than a block
pub leaf_unfit : (node : Values) (index : ℕ) → MAX_BLOCK_BYTES < (twig_at node 0 index).size → is_in_range 0 (node 0 index) ≡ false
leaf_unfit node index large = of (node 0 index) refl
  where
    of : (found : Option Twig) → node 0 index ≡ found → is_in_range 0 (node 0 index) ≡ false
    of None is = rw is refl
    of (Some twig) is =
        let here : twig_at node 0 index ≡ twig = rw is refl in
        let more : MAX_BLOCK_BYTES < twig.size = subst (λ (t : Twig). MAX_BLOCK_BYTES < t.size) here large in
        rw is (lt-leb twig.size MAX_BLOCK_BYTES more)
