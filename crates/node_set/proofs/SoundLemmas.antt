-- When a content of the closure alone is sound: where the values agree on the closure, and all of it has a value.
use Rattle.std.proofs.Common.{◌≡◌, ℕ, suc, Bool, true, false, ◌+◌, ◌*◌, ◌/◌, ◌<◌, ◌≤◌, inl, inr, List, [], ◌∷◌, length, map, Option, Some, None, refl, sym, ap, subst, ◌∙◌, arith, add-one}
use Rattle.std.specs.Prelude.{is_some}
use Rattle.std.specs.List.{AllByRecursion}
use Rattle.std.proofs.lemmas.Bool.{cases_lt, cases_Bool}
use Rattle.std.proofs.lemmas.List.Sums.{sum_by-cons}
use Rattle.flat_tree.specs.Subtrees.{Subtree, end_block_of, number, numbers_of}
use Rattle.flat_tree.specs.Roots.{full_roots_of}
use Rattle.flat_tree.specs.Covers.{cover_of}
use Rattle.flat_tree.specs.declared.limits.TheConstants.{MAX_BLOCKS, MAX_FORK, MAX_CORE_BYTES}
use Rattle.flat_tree.proofs.CoverLemmas.{cover-full}
use Rattle.flat_tree.proofs.NumberLemmas.{leaf}
use Rattle.merkle_nodes.specs.declared.node.Twig.{Twig}
use Rattle.merkle_nodes.specs.declared.node.Node.{Node}
use Rattle.merkle_nodes.specs.Tree.{parent_of}
use Rattle.merkle_nodes.specs.Bundle.{TwigFits}
use Rattle.merkle_nodes.specs.Roots.{HasShape, Accepts}
use Rattle.node_set.specs.Contents.{Content, Blocks, Values, holds, twig_at, node_at, roots_at, roots, bytes_under}
use Rattle.node_set.specs.Closure.{any_under, in_closure, IsFullRoot}
use Rattle.node_set.specs.Whole.{BlocksFit, IsClosed, PairsAgree, LeavesAgree, IsSound, IsWhole}
use Rattle.node_set.specs.Changes.{closed, content_on, IsSigned}
use Rattle.node_set.proofs.ClosureLemmas.{half_cases, half_left, half_right, true_closure, held-any_under, closure_under, halves_in_closure, held_in_closure, root_in_closure, right_within}
use Rattle.node_set.proofs.CoverLemmas.{AllCover, IsBetween, false_between, IsCover, true_between, all_cover_of}
use Rattle.node_set.proofs.CoverSums.{sum_over, sum_cover-above}

-- ---- values

-- what has a value has one
pub stored_value : {T : Type 0} (value : Option T) → is_some value ≡ true → (x : T) × (value ≡ Some x)
stored_value (Some x) stored = (x, refl)
stored_value None stored = cc

-- the bytes under a stored node
abbrev pub size_of : Values → ℕ → ℕ → ℕ
size_of value d o = (twig_at value d o).size

pub size_stored : (value : Values) (d o : ℕ) (twig : Twig) → value d o ≡ Some twig → size_of value d o ≡ twig.size
size_stored value d o twig is = rw (is, size_of) refl

-- ---- the closure's values

pub closed_in : (n : ℕ) (block : Blocks) (value : Values) (d o : ℕ) → in_closure n (holds block) d o ≡ true → closed n block value d o ≡ value d o
closed_in n block value d o test = rw test refl

pub closed_out : (n : ℕ) (block : Blocks) (value : Values) (d o : ℕ) → in_closure n (holds block) d o ≡ false → closed n block value d o ≡ None
closed_out n block value d o test = rw test refl

pub closed_some : (n : ℕ) (block : Blocks) (value : Values) (d o : ℕ) (twig : Twig) → closed n block value d o ≡ Some twig
    → (in_closure n (holds block) d o ≡ true) × (value d o ≡ Some twig)
closed_some n block value d o twig is = elim (cases_Bool (in_closure n (holds block) d o)) [
  | inl here ↦ (here, sym (closed_in n block value d o here) ∙ is)
  | inr apart ↦ let clash : None ≡ Some twig = sym (closed_out n block value d o apart) ∙ is in cc
]

-- ---- sound on a closure

-- all of the closure has a value, and over a held block the halves' values make the parent's
pub record IsComplete (n : ℕ) (block : Blocks) (value : Values) : Type 0 where
  pub full : (d o : ℕ) → in_closure n (holds block) d o ≡ true → is_some (value d o) ≡ true
  pub pairs : (d o : ℕ) (left right : Twig) → end_block_of (suc d) o ≤ n → any_under (holds block) (suc d) o ≡ true
      → value d (2 * o) ≡ Some left → value d (2 * o + 1) ≡ Some right → value (suc d) o ≡ Some (parent_of left right)

-- the values and the blocks agree on the closure, and fit
pub record IsSoundOn (n : ℕ) (block : Blocks) (value : Values) : Type 0 where
  pub blocks : BlocksFit n block
  pub complete : IsComplete n block value
  pub leaves : LeavesAgree block value
  pub fit : (d o : ℕ) (twig : Twig) → in_closure n (holds block) d o ≡ true → value d o ≡ Some twig → TwigFits twig

module _ (n : ℕ) (block : Blocks) (value : Values) where
  on_closed : IsComplete n block value → IsClosed n block (closed n block value)
  on_closed complete d o = elim (cases_Bool (in_closure n (holds block) d o)) [
    | inl here ↦ ap is_some (closed_in n block value d o here) ∙ complete.full d o here ∙ sym here
    | inr apart ↦ ap is_some (closed_out n block value d o apart) ∙ sym apart
  ]

  on_pairs : IsComplete n block value → PairsAgree (closed n block value)
  on_pairs complete d o left right left_is right_is =
      let l = closed_some n block value d (2 * o) left left_is in
      let r = closed_some n block value d (2 * o + 1) right right_is in
      let within = right_within n (holds block) d o r.0 in
      let any = closure_under n (holds block) d o (2 * o + 1) (half_right o) r.0 within in
      let here = held_in_closure n (holds block) (suc d) o any within in
      ap (λ (k : ℕ). closed n block value k o) (add-one d)
      ∙ closed_in n block value (suc d) o here
      ∙ complete.pairs d o left right within any l.1 r.1

  on_leaves : IsSoundOn n block value → LeavesAgree block (closed n block value)
  on_leaves sound index bytes is =
      let within : end_block_of 0 index ≤ n = omega (arith, sound.blocks.below index bytes is, leaf index) in
      let held : any_under (holds block) 0 index ≡ true =
      held-any_under (holds block) 0 index index (ap is_some is) (omega (arith, leaf index), omega (arith, leaf index)) in
      closed_in n block value 0 index (held_in_closure n (holds block) 0 index held within) ∙ sound.leaves index bytes is

  pub sound_on : (fork : ℕ) (signature : List ℕ) → IsSoundOn n block value → IsSound (content_on fork n signature block value)
  sound_on fork signature sound = record {
    blocks = sound.blocks;
    closed = on_closed sound.complete;
    pairs = on_pairs sound.complete;
    leaves = on_leaves sound;
    fit = λ d o twig is. let there = closed_some n block value d o twig is in sound.fit d o twig there.0 there.1;
  }

-- so it is of a sound content itself
pub complete_of : (m : Content) → IsSound m → IsComplete m.length m.block m.node
complete_of m sound = record {
  full = λ d o here. sound.closed d o ∙ here;
  pairs = λ d o left right within any left_is right_is.
      ap (λ (k : ℕ). m.node k o) (sym (add-one d)) ∙ sound.pairs d o left right left_is right_is;
}

-- ---- roots

-- every full root is one by the test's words
abbrev pub AllRoots : ℕ → List Subtree → Type 0
AllRoots n = AllByRecursion (λ (tree : Subtree). IsFullRoot n tree.depth tree.offset)

pub all_roots : (n : ℕ) → AllRoots n (full_roots_of n)
all_roots n = subst (λ (trees : List Subtree). AllRoots n trees) (cover-full n) (each (cover_of 0 n) (all_cover_of 0 n (omega arith)))
  where
    root : (d o : ℕ) → IsCover 0 n d o → IsFullRoot n d o
    root d o cover =
        let between = true_between 0 n d o cover.within in
        let past : n < end_block_of (suc d) (o / 2) = elim (cases_lt n (end_block_of (suc d) (o / 2))) [
          | inl less ↦ less
          | inr within ↦ absurd (false_between 0 n (suc d) (o / 2) cover.largest (record { first = omega arith; last = within }))
        ] in
        record { within = between.last; largest = past }

    each : (trees : List Subtree) → AllCover 0 n trees
        → AllRoots n trees
    each [] all = tt
    each (tree ∷ trees) all = (root tree.depth tree.offset all.0, each trees all.1)

-- roots of equal values
map_same : {X Y : Type 0} (P : X → Type 0) (f g : X → Y) (xs : List X) → ((x : X) → P x → f x ≡ g x) → AllByRecursion P xs → map f xs ≡ map g xs
map_same P f g [] same all = refl
map_same P f g (x ∷ xs) same all = ap (λ y. y ∷ map f xs) (same x all.0) ∙ ap (λ ys. g x ∷ ys) (map_same P f g xs same all.1)

pub roots_same : (n : ℕ) (one other : Values) → ((d o : ℕ) → IsFullRoot n d o → one d o ≡ other d o) → roots_at one n ≡ roots_at other n
roots_same n one other same =
    let node = λ (value : Values) (tree : Subtree). node_at value tree.depth tree.offset in
    map_same (λ (tree : Subtree). IsFullRoot n tree.depth tree.offset) (node one) (node other) (full_roots_of n)
    (λ tree root. rw (same tree.depth tree.offset root) refl) (all_roots n)

-- those of a content of the closure are those of its values
pub roots_on : (n : ℕ) (block : Blocks) (value : Values) → roots_at (closed n block value) n ≡ roots_at value n
roots_on n block value =
    roots_same n (closed n block value) value (λ d o root. closed_in n block value d o (root_in_closure n (holds block) d o root))

-- the bytes under them
pub bytes_of_roots : (value : Values) (n : ℕ) → bytes_under (roots_at value n) ≡ sum_over (size_of value) (cover_of 0 n)
bytes_of_roots value n = each (full_roots_of n) ∙ ap (sum_over (size_of value)) (sym (cover-full n))
  where
    each : (trees : List Subtree) → bytes_under (map (λ (tree : Subtree). node_at value tree.depth tree.offset) trees) ≡ sum_over (size_of value) trees
    each [] = refl
    each (tree ∷ trees) =
        sum_by-cons (λ (node : Node). node.size) (node_at value tree.depth tree.offset) (map (λ (t : Subtree). node_at value t.depth t.offset) trees)
        ∙ ap (λ (k : ℕ). size_of value tree.depth tree.offset + k) (each trees)
        ∙ sym (sum_by-cons (λ (t : Subtree). size_of value t.depth t.offset) tree trees)

-- they stand at the full roots
pub roots_shape : (value : Values) (n : ℕ) → HasShape (roots_at value n) n
roots_shape value n = each (full_roots_of n)
  where
    each : (trees : List Subtree) → map (λ (node : Node). node.index) (map (λ (tree : Subtree). node_at value tree.depth tree.offset) trees) ≡ numbers_of trees
    each [] = refl
    each (tree ∷ trees) = ap (λ (ns : List ℕ). number tree.depth tree.offset ∷ ns) (each trees)

-- ---- sizes

-- over a held block a node has the bytes of its halves
pub size_halves : (n : ℕ) (block : Blocks) (value : Values) → IsComplete n block value → (d o : ℕ) → end_block_of (suc d) o ≤ n
    → any_under (holds block) (suc d) o ≡ true → size_of value (suc d) o ≡ size_of value d (2 * o) + size_of value d (2 * o + 1)
size_halves n block value complete d o within any =
    let left = stored_value (value d (2 * o)) (complete.full d (2 * o) (halves_in_closure n (holds block) d o (2 * o) (half_left o) any within)) in
    let right =
    stored_value (value d (2 * o + 1)) (complete.full d (2 * o + 1) (halves_in_closure n (holds block) d o (2 * o + 1) (half_right o) any within)) in
    let parent = size_stored value (suc d) o _ (complete.pairs d o left.0 right.0 within any left.1 right.1) in
    omega (arith, parent, size_stored value d (2 * o) left.0 left.1, size_stored value d (2 * o + 1) right.0 right.1)

-- a number of a half is no more than that of both
pub half_least : (f : ℕ → ℕ) (p : ℕ) → f p ≤ f (2 * (p / 2)) + f (2 * (p / 2) + 1)
half_least f p = elim (half_cases p) [
  | inl is ↦ let same : f p ≡ f (2 * (p / 2)) = ap f is in omega (arith, same)
  | inr is ↦ let same : f p ≡ f (2 * (p / 2) + 1) = ap f is in omega (arith, same)
]

-- a node of the closure has no more bytes than the roots
pub size_below : (n : ℕ) (block : Blocks) (value : Values) → IsComplete n block value → (d o : ℕ) → in_closure n (holds block) d o ≡ true
    → size_of value d o ≤ bytes_under (roots_at value n)
size_below n block value complete d o test =
    let between : IsBetween 0 n d o = record { first = omega arith; last = (true_closure n (holds block) d o test).within } in
    subst (λ (k : ℕ). size_of value d o ≤ k) (sym (bytes_of_roots value n))
    (sum_cover-above (size_of value) 0 n (omega arith) (λ (e p : ℕ). in_closure n (holds block) e p ≡ true) up d o test between)
  where
    up : (e p : ℕ) → in_closure n (holds block) e p ≡ true → IsBetween 0 n (suc e) (p / 2)
        → (in_closure n (holds block) (suc e) (p / 2) ≡ true) × (size_of value e p ≤ size_of value (suc e) (p / 2))
    up e p here above =
        let any = closure_under n (holds block) e (p / 2) p refl here above.last in
        let halves = size_halves n block value complete e (p / 2) above.last any in
        (held_in_closure n (holds block) (suc e) (p / 2) any above.last, omega (arith, halves, half_least (size_of value e) p))

-- so they fit where the roots' bytes are within a core's
pub fit_below : (n : ℕ) (block : Blocks) (value : Values) → IsComplete n block value → bytes_under (roots_at value n) ≤ MAX_CORE_BYTES
    → ((d o : ℕ) (twig : Twig) → value d o ≡ Some twig → length twig.hash ≡ 32)
    → (d o : ℕ) (twig : Twig) → in_closure n (holds block) d o ≡ true → value d o ≡ Some twig → TwigFits twig
fit_below n block value complete bytes hashes d o twig here is = record {
  size = omega (arith, size_stored value d o twig is, size_below n block value complete d o here, bytes);
  hash = hashes d o twig is;
}

-- ---- the head

-- a signed head is accepted
pub signed_head : (accepts : List ℕ → List ℕ → Bool) (m : Content) → IsSigned accepts m → Accepts accepts m.fork m.length (roots m) m.signature
signed_head accepts m signed = record { shape = roots_shape m.node m.length; accepted = signed.accepted }

-- a sound content with a signed head, within the limits, is whole
pub whole_signed : (accepts : List ℕ → List ℕ → Bool) (m : Content) → IsSound m → m.length ≤ MAX_BLOCKS → m.fork ≤ MAX_FORK
    → bytes_under (roots m) ≤ MAX_CORE_BYTES → IsSigned accepts m → IsWhole accepts m
whole_signed accepts m sound few fork bytes signed = record {
  sound = sound;
  limits = record { blocks = few; fork = fork; bytes = bytes; signature = signed.signature };
  head = inl (signed_head accepts m signed);
}
