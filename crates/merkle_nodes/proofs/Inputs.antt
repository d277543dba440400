-- The inputs of a log are what they are called, and equal hashes of two inputs give equal inputs or a clash.
use Rattle.std.proofs.Common.{◌≡◌, ℕ, zero, suc, ◌+◌, ◌*◌, ◌/◌, ◌^◌, ◌<◌, ◌≤◌, ◌⊎◌, inl, inr, List, [], ◌∷◌, ◌++◌, length, get_or, take, drop, map, refl, sym, ap, subst, ◌∙◌, arith, add-one}
use Rattle.std.specs.List.{flat_map, Contains}
use Rattle.std.specs.Str.{bytes_eq}
use Rattle.std.proofs.lemmas.Bool.{cases_Bool}
use Rattle.std.proofs.lemmas.Nat.{pow_pos, le-div, mul-le}
use Rattle.std.proofs.lemmas.List.{take_at, drop_at, get_or-map, length-map}
use Rattle.std.proofs.lemmas.List.Concat.{flat_map-cons}
use Rattle.std.proofs.lemmas.List.Elements.{Contains-append_left, Contains-append_right}
use Rattle.std.proofs.lemmas.List.FromFn.{get_or-range_with_len, length-range_with_len, get_or-map-range_with_len}
use Rattle.std.proofs.lemmas.Slice.Eq.{bytes_eq-Decides}
use Rattle.flat_tree.specs.Subtrees.{end_block_of}
use Rattle.flat_tree.proofs.RootLemmas.{below_pow}
use Rattle.blake2b_hash.specs.Blake2b.{hash_of}
use Rattle.merkle_nodes.specs.Tree.{leaf_input, parent_input, tree_of}
use Rattle.merkle_nodes.specs.Roots.{roots_of, root_input}
use Rattle.merkle_nodes.specs.Sound.{below, parent_inputs_of, inputs_of, Clash}

-- ---- membership

pub Contains-first : {X : Type 0} (x : X) (xs : List X) → Contains (x ∷ xs) x
Contains-first x xs = (zero, omega arith, refl)

pub Contains-later : {X : Type 0} (x y : X) (xs : List X) → Contains xs y → Contains (x ∷ xs) y
Contains-later x y xs there = (suc there.0, omega (arith, there.1), there.2)

-- each number's value is among those of the numbers below n
Contains-below : (f : ℕ → List ℕ) (n i : ℕ) → i < n → Contains (map f (below n)) (f i)
Contains-below f n i less = (
  i,
  omega (arith, less, length-map (below n) f, length-range_with_len 0 n),
  get_or-map-range_with_len f 0 n i i (f i) less (omega arith),
)

Contains-flat_map : (f : ℕ → List (List ℕ)) (xs : List ℕ) (i : ℕ) (y : List ℕ) → i < length xs → Contains (f (get_or xs i 0)) y → Contains (flat_map f xs) y
Contains-flat_map f [] i y less there = absurd (omega (arith, less))
Contains-flat_map f (x ∷ xs) zero y less there = rw flat_map-cons (Contains-append_left (f x) (flat_map f xs) y there)
Contains-flat_map f (x ∷ xs) (suc i) y less there = rw flat_map-cons (Contains-append_right (f x) (flat_map f xs) y (Contains-flat_map f xs i y (omega (arith, less)) there))

-- ---- the inputs of a log

pub leaf_in : (log : List (List ℕ)) (index : ℕ) → index < length log → Contains (inputs_of log) (leaf_input (get_or log index []))
unfolding inputs_of
leaf_in log index less =
    let there : Contains (map leaf_input log) (leaf_input (get_or log index [])) = (
      index,
      omega (arith, less, length-map log leaf_input),
      get_or-map leaf_input log index [] _ less,
    ) in
    Contains-append_left _ _ _ (Contains-append_left _ _ _ there)

pub parent_in : (log : List (List ℕ)) (depth offset : ℕ) → end_block_of (suc depth) offset ≤ length log
    → Contains (inputs_of log) (parent_input (tree_of log depth (2 * offset)) (tree_of log depth (2 * offset + 1)))
unfolding inputs_of end_block_of
parent_in log depth offset inside =
    let width : 2 ^ (depth + 1) ≡ 2 ^ suc depth = ap (λ (k : ℕ). 2 ^ k) (add-one depth) in
    let few : offset + 1 ≤ length log / 2 ^ (depth + 1) = le-div (offset + 1) (length log) (2 ^ (depth + 1)) (pow_pos (depth + 1)) (subst (λ (w : ℕ). (offset + 1) * w ≤ length log) (sym width) inside) in
    let one : 1 * 2 ^ suc depth ≤ (offset + 1) * 2 ^ suc depth = mul-le 1 (2 ^ suc depth) (offset + 1) (2 ^ suc depth) (omega arith) (omega arith) in
    let shallow : depth < length log = omega (arith, one, inside, below_pow (suc depth)) in
    let at_depth : Contains (parent_inputs_of log depth) (parent_input (tree_of log depth (2 * offset)) (tree_of log depth (2 * offset + 1))) =
    Contains-below (λ o. parent_input (tree_of log depth (2 * o)) (tree_of log depth (2 * o + 1))) _ offset (omega (arith, few)) in
    let is : get_or (below (length log)) depth 0 ≡ depth = get_or-range_with_len 0 (length log) depth 0 shallow ∙ omega arith in
    let of_all = Contains-flat_map (parent_inputs_of log) (below (length log)) depth _ (omega (arith, shallow, length-range_with_len 0 (length log)))
    (subst (λ (d : ℕ). Contains (parent_inputs_of log d) (parent_input (tree_of log depth (2 * offset)) (tree_of log depth (2 * offset + 1)))) (sym is) at_depth) in
    let leaves = map leaf_input log in
    let parents = flat_map (parent_inputs_of log) (below (length log)) in
    Contains-append_left (leaves ++ parents) (map (λ blocks. root_input (roots_of (take blocks log))) (below (length log + 1))) _ (Contains-append_right leaves parents _ of_all)

pub roots_in : (log : List (List ℕ)) (blocks : ℕ) → blocks ≤ length log → Contains (inputs_of log) (root_input (roots_of (take blocks log)))
unfolding inputs_of
roots_in log blocks within =
    Contains-append_right _ _ _ (Contains-below (λ n. root_input (roots_of (take n log))) (length log + 1) blocks (omega (arith, within)))

-- ---- clashes

pub same_or_clash : (xs ys : List (List ℕ)) (x y : List ℕ) → Contains xs x → Contains ys y → hash_of x ≡ hash_of y → (x ≡ y) ⊎ Clash xs ys
same_or_clash xs ys x y in_xs in_ys equal =
    let same = bytes_eq-Decides x y in
    elim (cases_Bool (bytes_eq x y)) [
      | inl is ↦ inl (same.0 is)
      | inr other ↦ inr (record { one = x; other = y; in_xs = in_xs; in_ys = in_ys; differ = λ e. let is = same.1 e in cc; equal = equal })
    ]

-- a clash with one more input of the answer
pub clash_later : (xs ys : List (List ℕ)) (y : List ℕ) → Clash xs ys → Clash xs (y ∷ ys)
clash_later xs ys y c = record { one = c.one; other = c.other; in_xs = c.in_xs; in_ys = Contains-later y c.other ys c.in_ys; differ = c.differ; equal = c.equal }

-- ---- equal texts of equal widths

pub split_same : (xs ys us vs : List ℕ) → length xs ≡ length ys → xs ++ us ≡ ys ++ vs → (xs ≡ ys) × (us ≡ vs)
split_same xs ys us vs width same = (
  sym (take_at xs us (length xs) refl) ∙ ap (take (length xs)) same ∙ take_at ys vs (length xs) (sym width),
  sym (drop_at xs us (length xs) refl) ∙ ap (drop (length xs)) same ∙ drop_at ys vs (length xs) (sym width),
)
