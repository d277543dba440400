-- What it tells that none of some refusals holds, and where the first stored node of a path is.
use Rattle.std.proofs.Common.{◌≡◌, ℕ, zero, suc, Bool, true, false, ◌+◌, ◌/◌, ◌^◌, ◌<◌, ◌≤◌, inl, inr, Option, Some, None, refl, sym, ap, subst, ◌∙◌, arith, nat_eq}
use Rattle.std.specs.Prelude.{is_some}
use Rattle.std.specs.Str.{bytes_eq}
use Rattle.std.proofs.lemmas.Bool.{cases_Bool, cases_eq, eqb-true, and_parts}
use Rattle.std.proofs.lemmas.Slice.Eq.{bytes_eq-Decides}
use Rattle.flat_tree.specs.Roots.{depth_over}
use Rattle.merkle_nodes.specs.declared.node.Twig.{Twig}
use Rattle.node_set.specs.Contents.{Content, Values, held}
use Rattle.node_set.specs.Offsets.{levels_to}
use Rattle.node_set.specs.Refuses.{or_else, refuse_if}
use Rattle.node_set.specs.Same.{is_same}
use Rattle.node_set.specs.Walks.{IsFirstStored}
use Rattle.node_set.specs.Whole.{IsSound}
use Rattle.node_set.proofs.PathLemmas.{root_over_stored}
use Rattle.node_set.proofs.Stored.{over-suc}
use Rattle.node_set.proofs.RootTruth.{twig_same}

pub first_none : {A : Type 0} (first second : Option A) → or_else first second ≡ None → first ≡ None
first_none None second none = refl
first_none (Some x) second none = cc

pub second_none : {A : Type 0} (first second : Option A) → or_else first second ≡ None → second ≡ None
second_none None second none = none
second_none (Some x) second none = cc

pub not_refused : {A : Type 0} (test : Bool) (refusal : A) → refuse_if test refusal ≡ None → test ≡ false
not_refused true refusal none = cc
not_refused false refusal none = refl

-- twigs that compare as equal are equal
pub same_twig : (one other : Twig) → is_same one other ≡ true → one ≡ other
same_twig one other same =
    let parts = and_parts (nat_eq one.size other.size) (bytes_eq one.hash other.hash) same in
    twig_same one other (eqb-true one.size other.size parts.0) ((bytes_eq-Decides one.hash other.hash).0 parts.1)

-- ---- the first stored node of a path

-- so many levels above a depth is the first node that has a value
record IsFound (node : Values) (index depth steps levels : ℕ) : Type 0 where
  within : levels ≤ steps
  stored : is_some (node (depth + levels) (index / 2 ^ (depth + levels))) ≡ true
  first : (level : ℕ) → depth ≤ level → level < depth + levels → is_some (node level (index / 2 ^ level)) ≡ false

found_up : (steps : ℕ) (node : Values) (index depth : ℕ) → is_some (node (depth + steps) (index / 2 ^ (depth + steps))) ≡ true
    → IsFound node index depth steps (levels_to steps node depth (index / 2 ^ depth))
unfolding levels_to
found_up zero node index depth root = record { within = omega arith; stored = root; first = λ level low below. absurd (omega (arith, low, below)) }
found_up (suc steps) node index depth root = elim (cases_Bool (is_some (node depth (index / 2 ^ depth)))) [
  | inl here ↦
      let same : depth ≡ depth + 0 = omega arith in
      rw here (record {
        within = omega arith;
        stored = subst (λ (d : ℕ). is_some (node d (index / 2 ^ d)) ≡ true) same here;
        first = λ level low below. absurd (omega (arith, low, below));
      })
  | inr none ↦
      let top : depth + suc steps ≡ suc depth + steps = omega arith in
      let above : IsFound node index (suc depth) steps (levels_to steps node (suc depth) (index / 2 ^ suc depth)) =
      found_up steps node index (suc depth) (subst (λ (d : ℕ). is_some (node d (index / 2 ^ d)) ≡ true) top root) in
      let same : levels_to steps node (suc depth) (index / 2 ^ depth / 2) ≡ levels_to steps node (suc depth) (index / 2 ^ suc depth) =
      ap (levels_to steps node (suc depth)) (over-suc index depth) in
      rw none (one_more none above same)
]
  where
    one_more : is_some (node depth (index / 2 ^ depth)) ≡ false → IsFound node index (suc depth) steps (levels_to steps node (suc depth) (index / 2 ^ suc depth))
        → levels_to steps node (suc depth) (index / 2 ^ depth / 2) ≡ levels_to steps node (suc depth) (index / 2 ^ suc depth)
        → IsFound node index depth (suc steps) (suc (levels_to steps node (suc depth) (index / 2 ^ depth / 2)))
    one_more none above same =
        let levels = levels_to steps node (suc depth) (index / 2 ^ suc depth) in
        let next : suc depth + levels ≡ depth + suc (levels_to steps node (suc depth) (index / 2 ^ depth / 2)) = omega (arith, same) in
        record {
          within = omega (arith, above.within, same);
          stored = subst (λ (d : ℕ). is_some (node d (index / 2 ^ d)) ≡ true) next above.stored;
          first = λ level low below. elim (cases_eq level depth) [
            | inl here ↦ subst (λ (d : ℕ). is_some (node d (index / 2 ^ d)) ≡ false) (sym here) none
            | inr other ↦ above.first level (omega (arith, low, other)) (omega (arith, below, next))
          ];
        }

-- of a sound content, from a block's leaf
pub first_stored : (m : Content) (index : ℕ) → IsSound m → index < m.length
    → IsFirstStored m.length (held m) index (levels_to (depth_over m.length index) m.node 0 index)
first_stored m index sound within =
    let top = depth_over m.length index in
    let levels = levels_to top m.node 0 index in
    let root : is_some (m.node top (index / 2 ^ top)) ≡ true = sound.closed top (index / 2 ^ top) ∙ root_over_stored m.length (held m) index within in
    let from_leaf : 0 + top ≡ top = omega arith in
    let found = found_up top m.node index 0 (subst (λ (d : ℕ). is_some (m.node d (index / 2 ^ d)) ≡ true) (sym from_leaf) root) in
    let leaf : index / 2 ^ 0 ≡ index = omega arith in
    let found_leaf : IsFound m.node index 0 top levels = subst (λ (o : ℕ). IsFound m.node index 0 top (levels_to top m.node 0 o)) leaf found in
    let no_more : 0 + levels ≡ levels = omega arith in
    record {
      within = found_leaf.within;
      stored = sym (sound.closed levels (index / 2 ^ levels)) ∙ subst (λ (d : ℕ). is_some (m.node d (index / 2 ^ d)) ≡ true) no_more found_leaf.stored;
      first = λ level low. sym (sound.closed level (index / 2 ^ level)) ∙ found_leaf.first level (omega arith) (omega (arith, low));
    }
