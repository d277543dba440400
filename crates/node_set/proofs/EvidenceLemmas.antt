-- What a content's evidence has in it, and how laws that may clash are put together.
use Rattle.std.proofs.Common.{◌≡◌, ℕ, zero, suc, ◌+◌, ◌*◌, ◌/◌, ◌^◌, ◌<◌, ◌≤◌, ◌⊎◌, inl, inr, List, [], ◌∷◌, ◌++◌, length, get_or, Some, refl, sym, ap, subst, ◌∙◌, arith, add-one}
use Rattle.std.specs.List.{flat_map, Contains}
use Rattle.std.proofs.lemmas.Bool.{cases_eq}
use Rattle.std.proofs.lemmas.Nat.{pow_pos, le-div, mul-le}
use Rattle.std.proofs.lemmas.List.Concat.{flat_map-cons}
use Rattle.std.proofs.lemmas.List.Elements.{Contains-append_left, Contains-append_right}
use Rattle.std.proofs.lemmas.List.FromFn.{get_or-range_with_len, length-range_with_len}
use Rattle.flat_tree.specs.Subtrees.{end_block_of}
use Rattle.flat_tree.proofs.RootLemmas.{below_pow}
use Rattle.blake2b_hash.specs.Blake2b.{hash_of}
use Rattle.merkle_nodes.specs.Tree.{leaf_input, parent_input}
use Rattle.merkle_nodes.specs.Roots.{root_input}
use Rattle.merkle_nodes.specs.Sound.{below, inputs_of}
use Rattle.merkle_nodes.proofs.Inputs.{Contains-first, Contains-later, same_or_clash}
use Rattle.node_set.proofs.Stored.{StoredPair}
use Rattle.node_set.specs.Contents.{Content, roots}
use Rattle.node_set.specs.Evidence.{OrClash, leaf_evidence, parent_evidence, pairs_evidence, evidence}

-- ---- laws that may clash

-- what holds or clashes goes on to the next law
pub or_clash_then : {P Q C : Type 0} → P ⊎ C → (P → Q ⊎ C) → Q ⊎ C
or_clash_then (inl p) next = next p
or_clash_then (inr clash) next = inr clash

-- an input of the log and one of the content with one hash are one, or they clash
pub same_input : (m : Content) (log : List (List ℕ)) (x y : List ℕ) → Contains (inputs_of log) x → Contains (evidence m) y → hash_of y ≡ hash_of x
    → OrClash (x ≡ y) m log
same_input m log x y in_log in_own equal = same_or_clash (inputs_of log) (evidence m) x y in_log in_own (sym equal)

-- what holds or clashes at each number, and holds from a bound on, holds at all numbers or clashes
pub all_or_clash : {C : Type 0} (P : ℕ → Type 0) (bound : ℕ) → ((i : ℕ) → P i ⊎ C) → ((i : ℕ) → bound ≤ i → P i) → ((i : ℕ) → P i) ⊎ C
all_or_clash P zero each past = inl (λ i. past i (omega arith))
all_or_clash P (suc bound) each past = elim (each bound) [
  | inr clash ↦ inr clash
  | inl here ↦ all_or_clash P bound each (λ i more. elim (cases_eq bound i) [
    | inl same ↦ subst P same here
    | inr other ↦ past i (omega (arith, more, other))
  ])
]

-- ---- what is in the evidence

-- what is in the part of a number below a bound is in all parts
Contains-parts : (f : ℕ → List (List ℕ)) (xs : List ℕ) (i : ℕ) (y : List ℕ) → i < length xs → Contains (f (get_or xs i 0)) y
    → Contains (flat_map f xs) y
Contains-parts f [] i y less there = absurd (omega (arith, less))
Contains-parts f (x ∷ xs) zero y less there = rw flat_map-cons (Contains-append_left (f x) (flat_map f xs) y there)
Contains-parts f (x ∷ xs) (suc i) y less there =
    rw flat_map-cons (Contains-append_right (f x) (flat_map f xs) y (Contains-parts f xs i y (omega (arith, less)) there))

Contains-below : (f : ℕ → List (List ℕ)) (n i : ℕ) (y : List ℕ) → i < n → Contains (f i) y → Contains (flat_map f (below n)) y
Contains-below f n i y less there =
    let is : get_or (below n) i 0 ≡ i = get_or-range_with_len 0 n i 0 less ∙ omega arith in
    Contains-parts f (below n) i y (omega (arith, less, length-range_with_len 0 n)) (subst (λ (j : ℕ). Contains (f j) y) (sym is) there)

-- the roots' input
pub root_evident : (m : Content) → Contains (evidence m) (root_input (roots m))
unfolding evidence
root_evident m = Contains-first (root_input (roots m)) _

-- a held block's
pub leaf_evident : (m : Content) (index : ℕ) (bytes : List ℕ) → index < m.length → m.block index ≡ Some bytes
    → Contains (evidence m) (leaf_input bytes)
unfolding evidence
leaf_evident m index bytes less there =
    let here : leaf_evidence m.block index ≡ leaf_input bytes ∷ [] = rw there refl in
    let input = leaf_input bytes in
    let in_leaf : Contains (leaf_evidence m.block index) input = subst (λ (ys : List (List ℕ)). Contains ys input) (sym here) (Contains-first input []) in
    let pairs = flat_map (pairs_evidence m.length m.node) (below m.length) in
    let leaves = flat_map (leaf_evidence m.block) (below m.length) in
    let in_leaves = Contains-below (leaf_evidence m.block) m.length index input less in_leaf in
    Contains-later (root_input (roots m)) input (pairs ++ leaves) (Contains-append_right pairs leaves input in_leaves)

-- a stored pair's
pub parent_evident : (m : Content) (depth offset : ℕ) (pair : StoredPair m.node depth offset) → end_block_of (suc depth) offset ≤ m.length
    → Contains (evidence m) (parent_input pair.left pair.right)
unfolding evidence end_block_of
parent_evident m depth offset pair inside =
    let input = parent_input pair.left pair.right in
    let here : parent_evidence m.node depth offset ≡ input ∷ [] = rw (pair.at_left, pair.at_right) refl in
    let in_pair : Contains (parent_evidence m.node depth offset) input =
    subst (λ (ys : List (List ℕ)). Contains ys input) (sym here) (Contains-first input []) in
    let width : 2 ^ (depth + 1) ≡ 2 ^ suc depth = ap (λ (k : ℕ). 2 ^ k) (add-one depth) in
    let ends : (offset + 1) * 2 ^ (depth + 1) ≤ m.length = subst (λ (w : ℕ). (offset + 1) * w ≤ m.length) (sym width) inside in
    let few : offset + 1 ≤ m.length / 2 ^ (depth + 1) = le-div (offset + 1) m.length (2 ^ (depth + 1)) (pow_pos (depth + 1)) ends in
    let one = mul-le 1 (2 ^ suc depth) (offset + 1) (2 ^ suc depth) (omega arith) (omega arith) in
    let shallow : depth < m.length = omega (arith, one, inside, below_pow (suc depth)) in
    let row = parent_evidence m.node depth in
    let in_row = Contains-below row (m.length / 2 ^ (depth + 1)) offset input (omega (arith, few)) in_pair in
    let pairs = flat_map (pairs_evidence m.length m.node) (below m.length) in
    let leaves = flat_map (leaf_evidence m.block) (below m.length) in
    let in_pairs = Contains-below (pairs_evidence m.length m.node) m.length depth input shallow in_row in
    Contains-later (root_input (roots m)) input (pairs ++ leaves) (Contains-append_left pairs leaves input in_pairs)
