-- A whole content stays whole under an upgrade: the subtrees of the new part's cover have the values that came.
use Rattle.std.proofs.Common.{◌≡◌, ℕ, zero, suc, Bool, true, false, ◌+◌, ◌<◌, ◌≤◌, inl, inr, List, [], ◌∷◌, length, Option, Some, None, refl, sym, ap, subst, ◌∙◌, arith, nat_eq}
use Rattle.std.specs.Prelude.{is_some, ◌&&◌, sum_by}
use Rattle.std.specs.List.{AllByRecursion, Contains}
use Rattle.std.proofs.lemmas.Bool.{cases_lt, cases_Bool, le-leb, lt-leb, eq-eqb, eqb-true, and_parts, and_from}
use Rattle.std.proofs.lemmas.List.Sums.{sum_by-cons}
use Rattle.flat_tree.specs.Subtrees.{Subtree, subtree, first_block_of, end_block_of, Tile}
use Rattle.flat_tree.specs.Covers.{cover_of}
use Rattle.flat_tree.specs.declared.limits.TheConstants.{MAX_FORK, MAX_CORE_BYTES}
use Rattle.flat_tree.proofs.NumberLemmas.{leaf, end_first}
use Rattle.flat_tree.proofs.CoverLemmas.{tile-cover}
use Rattle.merkle_nodes.specs.declared.node.Twig.{Twig}
use Rattle.merkle_nodes.specs.Bundle.{TwigFits}
use Rattle.merkle_nodes.specs.Joined.{joined, value_in, with_parts}
use Rattle.node_set.specs.Contents.{Content, Values, holds, roots, bytes_under}
use Rattle.node_set.specs.Closure.{any_under}
use Rattle.node_set.specs.Whole.{IsSound, IsWhole}
use Rattle.node_set.specs.Changes.{upgrade_content, UpgradeFits, IsSigned}
use Rattle.node_set.proofs.ClosureLemmas.{span_some, any_under-held}
use Rattle.node_set.proofs.CoverLemmas.{true_between, IsCover, cover_has, in_cover_of, all_cover_of}
use Rattle.node_set.proofs.CoverSums.{sum_over}
use Rattle.node_set.proofs.SoundLemmas.{stored_value, size_of, size_stored, sound_on, roots_on}
use Rattle.node_set.proofs.JoinedLemmas.{joined-known, IsPaired, IsLonger, joined_bytes, IsExtended, extended_sound, extended_whole}

-- ---- values beside a list of subtrees

-- the test that a subtree is this one
true_tree : (tree : Subtree) (d o : ℕ) → (nat_eq tree.depth d && nat_eq tree.offset o) ≡ true → tree ≡ subtree d o
true_tree tree d o test =
    let parts = and_parts (nat_eq tree.depth d) (nat_eq tree.offset o) test in
    ap (λ (k : ℕ). subtree k tree.offset) (eqb-true tree.depth d parts.0) ∙ ap (λ (k : ℕ). subtree d k) (eqb-true tree.offset o parts.1)

tree_true : (tree : Subtree) (d o : ℕ) → tree ≡ subtree d o → (nat_eq tree.depth d && nat_eq tree.offset o) ≡ true
tree_true tree d o same =
    let depth : tree.depth ≡ d = ap (λ (t : Subtree). t.depth) same in
    let offset : tree.offset ≡ o = ap (λ (t : Subtree). t.offset) same in
    and_from (nat_eq tree.depth d) (nat_eq tree.offset o) (eq-eqb tree.depth d depth) (eq-eqb tree.offset o offset)

-- a subtree's own value, and else that of the rest
value_here : (tree : Subtree) (trees : List Subtree) (twig : Twig) (twigs : List Twig) (d o : ℕ) → (nat_eq tree.depth d && nat_eq tree.offset o) ≡ true
    → value_in (tree ∷ trees) (twig ∷ twigs) d o ≡ Some twig
unfolding value_in
value_here tree trees twig twigs d o test = rw test refl

value_further : (tree : Subtree) (trees : List Subtree) (twig : Twig) (twigs : List Twig) (d o : ℕ) → (nat_eq tree.depth d && nat_eq tree.offset o) ≡ false
    → value_in (tree ∷ trees) (twig ∷ twigs) d o ≡ value_in trees twigs d o
unfolding value_in
value_further tree trees twig twigs d o test = rw test refl

-- what has a value is in the list, and its value in the other
pub value_in-some : (P : Twig → Type 0) (trees : List Subtree) (twigs : List Twig) (d o : ℕ) (twig : Twig) → AllByRecursion P twigs
    → value_in trees twigs d o ≡ Some twig
    → Contains trees (subtree d o) × P twig
unfolding value_in
value_in-some P [] twigs d o twig all is = cc
value_in-some P (tree ∷ trees) [] d o twig all is = cc
value_in-some P (tree ∷ trees) (own ∷ twigs) d o twig all is = elim (cases_Bool (nat_eq tree.depth d && nat_eq tree.offset o)) [
  | inl test ↦
      let same : own ≡ twig = let e = sym (value_here tree trees own twigs d o test) ∙ is in cc in
      ((0, omega arith, true_tree tree d o test), subst P same all.0)
  | inr test ↦
      let rest = value_in-some P trees twigs d o twig all.1 (sym (value_further tree trees own twigs d o test) ∙ is) in
      ((suc rest.0.0, omega (arith, rest.0.1), rest.0.2), rest.1)
]

-- and what is in the list has one
pub value_in-has : (trees : List Subtree) (twigs : List Twig) (d o : ℕ) → length twigs ≡ length trees → Contains trees (subtree d o)
    → is_some (value_in trees twigs d o) ≡ true
value_in-has [] twigs d o count (k, less, is) = absurd (omega (arith, less))
value_in-has (tree ∷ trees) [] d o count there = absurd (omega (arith, count))
value_in-has (tree ∷ trees) (own ∷ twigs) d o count (zero, less, is) = ap is_some (value_here tree trees own twigs d o (tree_true tree d o is))
value_in-has (tree ∷ trees) (own ∷ twigs) d o count (suc k, less, is) = elim (cases_Bool (nat_eq tree.depth d && nat_eq tree.offset o)) [
  | inl test ↦ ap is_some (value_here tree trees own twigs d o test)
  | inr test ↦
      ap is_some (value_further tree trees own twigs d o test) ∙ value_in-has trees twigs d o (omega (arith, count)) (k, omega (arith, less), is)
]

-- ---- sums

sum_same : (P : Subtree → Type 0) (f g : ℕ → ℕ → ℕ) (trees : List Subtree) → ((tree : Subtree) → P tree → f tree.depth tree.offset ≡ g tree.depth tree.offset)
    → AllByRecursion P trees → sum_over f trees ≡ sum_over g trees
sum_same P f g [] same all = refl
sum_same P f g (tree ∷ trees) same all =
    omega (
      arith,
      sum_by-cons (λ (t : Subtree). f t.depth t.offset) tree trees,
      sum_by-cons (λ (t : Subtree). g t.depth t.offset) tree trees,
      same tree all.0,
      sum_same P f g trees same all.1,
    )

-- the subtrees of a tiling begin no earlier than it
all_behind : (trees : List Subtree) (from to least : ℕ) → least ≤ from → Tile trees from to
    → AllByRecursion (λ (tree : Subtree). least ≤ first_block_of tree.depth tree.offset) trees
all_behind [] from to least low tile = tt
all_behind (tree ∷ trees) from to least low tile =
    (omega (arith, tile.0, low), all_behind trees _ to least (omega (arith, tile.0, low, end_first tree.depth tree.offset)) tile.1)

-- the values beside a tiling sum up to their own sum
value_in-sum : (trees : List Subtree) (twigs : List Twig) (from to : ℕ) → length twigs ≡ length trees → Tile trees from to
    → sum_over (size_of (value_in trees twigs)) trees ≡ sum_by (λ (twig : Twig). twig.size) twigs
value_in-sum [] [] from to count tile = refl
value_in-sum [] (twig ∷ twigs) from to count tile = absurd (omega (arith, count))
value_in-sum (tree ∷ trees) [] from to count tile = absurd (omega (arith, count))
value_in-sum (tree ∷ trees) (twig ∷ twigs) from to count tile =
    let all = value_in (tree ∷ trees) (twig ∷ twigs) in
    let here : size_of all tree.depth tree.offset ≡ twig.size =
    size_stored all tree.depth tree.offset twig (value_here tree trees twig twigs tree.depth tree.offset (tree_true tree tree.depth tree.offset refl)) in
    let others : sum_over (size_of all) trees ≡ sum_over (size_of (value_in trees twigs)) trees =
    sum_same (λ (t : Subtree). end_block_of tree.depth tree.offset ≤ first_block_of t.depth t.offset) (size_of all) (size_of (value_in trees twigs)) trees
    further (all_behind trees _ to (end_block_of tree.depth tree.offset) (omega arith) tile.1) in
    omega (
      arith,
      sum_by-cons (λ (t : Subtree). size_of all t.depth t.offset) tree trees,
      sum_by-cons (λ (t : Twig). t.size) twig twigs,
      here,
      others,
      value_in-sum trees twigs _ to (omega (arith, count)) tile.1,
    )
  where
    further : (t : Subtree) → end_block_of tree.depth tree.offset ≤ first_block_of t.depth t.offset
        → size_of (value_in (tree ∷ trees) (twig ∷ twigs)) t.depth t.offset ≡ size_of (value_in trees twigs) t.depth t.offset
    further t behind = elim (cases_Bool (nat_eq tree.depth t.depth && nat_eq tree.offset t.offset)) [
      | inl test ↦
          let same = true_tree tree t.depth t.offset test in
          let first : first_block_of tree.depth tree.offset ≡ first_block_of t.depth t.offset = ap (λ (x : Subtree). first_block_of x.depth x.offset) same in
          absurd (omega (arith, first, behind, span_some tree.depth tree.offset))
      | inr test ↦ rw (value_further tree trees twig twigs t.depth t.offset test, size_of) refl
    ]

-- ---- an upgrade

-- a longer log has a value for each subtree of the new part's cover
pub record HasParts (to : ℕ) (parts : List Twig) (m : Content) : Type 0 where
  pub longer : m.length < to
  pub count : length parts ≡ length (cover_of m.length to)
  pub parts_fit : AllByRecursion TwigFits parts

module _ (m : Content) (to : ℕ) (parts : List Twig) (sound : IsSound m) (fits : HasParts to parts m) where
  abbrev trees : List Subtree
  trees = cover_of m.length to

  abbrev known : Values
  known = with_parts m.length m.node trees parts

  low : m.length ≤ to
  low = omega (arith, fits.longer)

  known_below : (d o : ℕ) → end_block_of d o ≤ m.length → known d o ≡ m.node d o
  known_below d o within = rw (le-leb (end_block_of d o) m.length within) refl

  known_behind : (d o : ℕ) → m.length < end_block_of d o → known d o ≡ value_in trees parts d o
  known_behind d o past = rw (lt-leb (end_block_of d o) m.length past) refl

  -- a value behind the old end is that of a subtree of the cover, and fits
  known_part : (d o : ℕ) (twig : Twig) → m.length < end_block_of d o → known d o ≡ Some twig → IsCover m.length to d o × TwigFits twig
  known_part d o twig past is =
      let there = value_in-some TwigFits trees parts d o twig fits.parts_fit (sym (known_behind d o past) ∙ is) in
      (in_cover_of m.length to d o low there.0, there.1)

  known_over : (d o : ℕ) → first_block_of (suc d) o < m.length → m.length < end_block_of (suc d) o → known (suc d) o ≡ None
  known_over d o before past = either (known (suc d) o) refl
    where
      either : (own : Option Twig) → known (suc d) o ≡ own → known (suc d) o ≡ None
      either None is = is
      either (Some twig) is =
          let between = true_between m.length to (suc d) o (known_part (suc d) o twig past is).0.within in
          absurd (omega (arith, between.first, before))

  cover_known : (d o : ℕ) → IsCover m.length to d o → (twig : Twig) × ((value_in trees parts d o ≡ Some twig) × (joined known d o ≡ Some twig))
  cover_known d o cover =
      let between = true_between m.length to d o cover.within in
      let value = stored_value (value_in trees parts d o) (value_in-has trees parts d o fits.count (cover_has m.length to d o low cover)) in
      let past : m.length < end_block_of d o = omega (arith, between, span_some d o) in
      (value.0, (value.1, joined-known known d o value.0 (known_behind d o past ∙ value.1)))

  upgrade_longer : IsLonger m.length to m.block m.node known
  upgrade_longer = record {
    longer = low;
    before = known_below;
    over = λ d o before past within. known_over d o before past;
    cover = λ d o cover. ap is_some (cover_known d o cover).1.1;
    behind = λ d o behind within any. none_behind d o behind any;
  }
    where
      none_behind : (d o : ℕ) → m.length ≤ first_block_of (suc d) o → any_under (holds m.block) (suc d) o ≡ true → IsPaired known d o
      none_behind d o behind any =
          let there = any_under-held (holds m.block) (suc d) o any in
          let bytes = stored_value (m.block there.index) there.is_held in
          absurd (omega (arith, sound.blocks.below there.index bytes.0 bytes.1, there.under.0, behind))

  upgrade_hash : (d o : ℕ) (twig : Twig) → known d o ≡ Some twig → length twig.hash ≡ 32
  upgrade_hash d o twig is = elim (cases_lt m.length (end_block_of d o)) [
    | inr within ↦ (sound.fit d o twig (sym (known_below d o within) ∙ is)).hash
    | inl past ↦ (known_part d o twig past is).1.hash
  ]

  upgrade_bytes : sum_over (size_of (joined known)) trees ≡ sum_by (λ (twig : Twig). twig.size) parts
  upgrade_bytes =
      sum_same (λ (tree : Subtree). IsCover m.length to tree.depth tree.offset) (size_of (joined known)) (size_of (value_in trees parts)) trees each
      (all_cover_of m.length to low)
      ∙ value_in-sum trees parts m.length to fits.count (tile-cover m.length to low)
    where
      each : (tree : Subtree) → IsCover m.length to tree.depth tree.offset
          → size_of (joined known) tree.depth tree.offset ≡ size_of (value_in trees parts) tree.depth tree.offset
      each tree cover =
          let value = cover_known tree.depth tree.offset cover in
          size_stored (joined known) tree.depth tree.offset value.0 value.1.1
          ∙ sym (size_stored (value_in trees parts) tree.depth tree.offset value.0 value.1.0)

  -- the roots' bytes grow by those of the parts
  pub upgraded_bytes : (signature : List ℕ)
      → bytes_under (roots (upgrade_content to parts signature m)) ≡ bytes_under (roots m) + sum_by (λ (twig : Twig). twig.size) parts
  upgraded_bytes signature =
      ap bytes_under (roots_on to m.block (joined known))
      ∙ joined_bytes m to m.block known sound upgrade_longer
      ∙ ap (λ (k : ℕ). bytes_under (roots m) + k) upgrade_bytes

  upgrade_extended : bytes_under (roots m) + sum_by (λ (twig : Twig). twig.size) parts ≤ MAX_CORE_BYTES → IsExtended m to m.block known
  upgrade_extended few = record {
    longer = upgrade_longer;
    old = λ index less is_held. is_held;
    blocks = record { below = λ index bytes is. omega (arith, sound.blocks.below index bytes is, low); size = sound.blocks.size };
    leaves = λ index bytes is.
        joined-known known 0 index _ (known_below 0 index (omega (arith, sound.blocks.below index bytes is, leaf index)) ∙ sound.leaves index bytes is);
    hashes = upgrade_hash;
    bytes = omega (arith, upgrade_bytes, few);
  }

-- ---- the law

parts_of_upgrade : (to : ℕ) (parts : List Twig) (m : Content) → UpgradeFits to parts m → HasParts to parts m
parts_of_upgrade to parts m fits = record { longer = fits.longer; count = fits.count; parts_fit = fits.parts_fit }

pub upgrade_sound : (m : Content) (to : ℕ) (parts : List Twig) (signature : List ℕ) → IsSound m → UpgradeFits to parts m
    → IsSound (upgrade_content to parts signature m)
upgrade_sound m to parts signature sound fits =
    let known_now = with_parts m.length m.node (cover_of m.length to) parts in
    sound_on to m.block (joined known_now) m.fork signature
    (extended_sound m to m.block known_now sound (upgrade_extended m to parts sound (parts_of_upgrade to parts m fits) fits.bytes))

pub upgrade_whole : (accepts : List ℕ → List ℕ → Bool) (m : Content) (to : ℕ) (parts : List Twig) (signature : List ℕ) → IsSound m
    → m.fork ≤ MAX_FORK → UpgradeFits to parts m → IsSigned accepts (upgrade_content to parts signature m)
    → IsWhole accepts (upgrade_content to parts signature m)
upgrade_whole accepts m to parts signature sound fork fits signed =
    extended_whole accepts m to signature m.block (with_parts m.length m.node (cover_of m.length to) parts) sound fork
    (upgrade_extended m to parts sound (parts_of_upgrade to parts m fits) fits.bytes) fits.blocks signed
