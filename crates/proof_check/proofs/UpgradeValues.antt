-- The values of a log's subtrees once an upgrade is in: joined ones over the old end, those of the twigs at the cover, the old ones
-- below.
use Rattle.std.proofs.Common.{◌≡◌, ℕ, suc, true, false, ◌+◌, ◌<◌, ◌≤◌, inl, inr, List, [], ◌∷◌, length, map, Option, Some, None, refl, sym, ap, subst, ◌∙◌, arith, nat_eq}
use Rattle.std.specs.Prelude.{is_some, ◌&&◌}
use Rattle.std.specs.List.{AllByRecursion}
use Rattle.std.proofs.lemmas.Bool.{cases_Bool, le-leb, lt-leb, eq-eqb, eqb-true, and_parts, and_from}
use Rattle.std.proofs.lemmas.List.Sums.{sum_by-cons}
use Rattle.flat_tree.specs.Subtrees.{Subtree, subtree, first_block_of, end_block_of, Tile}
use Rattle.flat_tree.specs.Roots.{full_roots_of}
use Rattle.flat_tree.specs.Covers.{cover_of}
use Rattle.flat_tree.proofs.NumberLemmas.{end_first}
use Rattle.flat_tree.proofs.CoverLemmas.{tile-cover}
use Rattle.merkle_nodes.specs.declared.node.Twig.{Twig}
use Rattle.merkle_nodes.specs.Joined.{joined, value_in, with_parts}
use Rattle.merkle_nodes.specs.Nodes.{node_in, AreNodes}
use Rattle.node_set.specs.Contents.{Content, Values, holds, held, roots, bytes_under, node_at}
use Rattle.node_set.specs.Closure.{any_under, IsFullRoot}
use Rattle.node_set.specs.Whole.{IsSound}
use Rattle.node_set.specs.Changes.{upgrade_content}
use Rattle.node_set.proofs.ClosureLemmas.{span_some, any_under-held, root_in_closure}
use Rattle.node_set.proofs.CoverLemmas.{true_between, IsCover, cover_has, in_cover_of, all_cover_of}
use Rattle.node_set.proofs.CoverSums.{sum_over}
use Rattle.node_set.proofs.SoundLemmas.{stored_value, size_of, size_stored, AllRoots, all_roots, roots_on}
use Rattle.node_set.proofs.JoinedLemmas.{joined-known, joined_below, IsPaired, IsLonger, joined_bytes}
use Rattle.node_set.proofs.UpgradeLemmas.{value_in-some, value_in-has}
use Rattle.proof_check.specs.Early.{twig_bytes}
use Rattle.proof_check.specs.Growth.{Joins, AreValues}
use Rattle.proof_check.specs.Reaching.{AgreesBelow}

-- ---- values beside a list of subtrees

true_tree : (tree : Subtree) (d o : ℕ) → (nat_eq tree.depth d && nat_eq tree.offset o) ≡ true → tree ≡ subtree d o
true_tree tree d o test =
    let parts = and_parts (nat_eq tree.depth d) (nat_eq tree.offset o) test in
    ap (λ (k : ℕ). subtree k tree.offset) (eqb-true tree.depth d parts.0) ∙ ap (λ (k : ℕ). subtree d k) (eqb-true tree.offset o parts.1)

tree_true : (tree : Subtree) → (nat_eq tree.depth tree.depth && nat_eq tree.offset tree.offset) ≡ true
tree_true tree = and_from (nat_eq tree.depth tree.depth) (nat_eq tree.offset tree.offset) (eq-eqb tree.depth tree.depth refl) (eq-eqb tree.offset tree.offset refl)

value_here : (tree : Subtree) (trees : List Subtree) (twig : Twig) (twigs : List Twig) → value_in (tree ∷ trees) (twig ∷ twigs) tree.depth tree.offset ≡ Some twig
unfolding value_in
value_here tree trees twig twigs = rw (tree_true tree) refl

value_further : (tree : Subtree) (trees : List Subtree) (twig : Twig) (twigs : List Twig) (d o : ℕ) → (nat_eq tree.depth d && nat_eq tree.offset o) ≡ false
    → value_in (tree ∷ trees) (twig ∷ twigs) d o ≡ value_in trees twigs d o
unfolding value_in
value_further tree trees twig twigs d o test = rw test refl

-- behind a subtree of a tiling its value isn't met again
same_behind : (tree : Subtree) (all : List Subtree) (twig : Twig) (twigs : List Twig) (trees : List Subtree) (from to : ℕ)
    → end_block_of tree.depth tree.offset ≤ from → Tile trees from to
    → map (λ (t : Subtree). value_in (tree ∷ all) (twig ∷ twigs) t.depth t.offset) trees ≡ map (λ (t : Subtree). value_in all twigs t.depth t.offset) trees
same_behind tree all twig twigs [] from to behind tile = refl
same_behind tree all twig twigs (t ∷ trees) from to behind tile =
    let here : value_in (tree ∷ all) (twig ∷ twigs) t.depth t.offset ≡ value_in all twigs t.depth t.offset =
    elim (cases_Bool (nat_eq tree.depth t.depth && nat_eq tree.offset t.offset)) [
      | inl test ↦
          let same = true_tree tree t.depth t.offset test in
          let first : first_block_of tree.depth tree.offset ≡ first_block_of t.depth t.offset = ap (λ (x : Subtree). first_block_of x.depth x.offset) same in
          absurd (omega (arith, first, behind, tile.0, span_some tree.depth tree.offset))
      | inr test ↦ value_further tree all twig twigs t.depth t.offset test
    ] in
    ap (λ v. v ∷ map (λ (x : Subtree). value_in (tree ∷ all) (twig ∷ twigs) x.depth x.offset) trees) here
    ∙ ap (λ vs. value_in all twigs t.depth t.offset ∷ vs)
    (same_behind tree all twig twigs trees _ to (omega (arith, behind, tile.0, end_first t.depth t.offset)) tile.1)

-- the values beside a tiling are those in the other list
values_beside : (trees : List Subtree) (twigs : List Twig) (from to : ℕ) → length twigs ≡ length trees → Tile trees from to
    → AreValues (value_in trees twigs) trees twigs
values_beside [] [] from to count tile = refl
values_beside [] (twig ∷ twigs) from to count tile = absurd (omega (arith, count))
values_beside (tree ∷ trees) [] from to count tile = absurd (omega (arith, count))
values_beside (tree ∷ trees) (twig ∷ twigs) from to count tile =
    ap (λ v. v ∷ map Some twigs) (sym (value_here tree trees twig twigs))
    ∙ ap (λ vs. value_in (tree ∷ trees) (twig ∷ twigs) tree.depth tree.offset ∷ vs)
    (values_beside trees twigs _ to (omega (arith, count)) tile.1 ∙ sym (same_behind tree trees twig twigs trees _ to (omega arith) tile.1))

values_carry : (one other : Values) (P : Subtree → Type 0) (trees : List Subtree) (twigs : List Twig) → AllByRecursion P trees
    → ((tree : Subtree) (twig : Twig) → P tree → one tree.depth tree.offset ≡ Some twig → other tree.depth tree.offset ≡ Some twig)
    → AreValues one trees twigs → AreValues other trees twigs
values_carry one other P [] [] all carry are = refl
values_carry one other P [] (twig ∷ twigs) all carry are = cc
values_carry one other P (tree ∷ trees) [] all carry are = cc
values_carry one other P (tree ∷ trees) (twig ∷ twigs) all carry are =
    let first : Some twig ≡ one tree.depth tree.offset = cc in
    let others : map Some twigs ≡ map (λ (t : Subtree). one t.depth t.offset) trees = cc in
    ap (λ v. v ∷ map Some twigs) (sym (carry tree twig all.0 (sym first)))
    ∙ ap (λ vs. other tree.depth tree.offset ∷ vs) (values_carry one other P trees twigs all.1 carry others)

values_sum : (value : Values) (trees : List Subtree) (twigs : List Twig) → AreValues value trees twigs → sum_over (size_of value) trees ≡ twig_bytes twigs
values_sum value [] [] are = refl
values_sum value [] (twig ∷ twigs) are = cc
values_sum value (tree ∷ trees) [] are = cc
values_sum value (tree ∷ trees) (twig ∷ twigs) are =
    let first : Some twig ≡ value tree.depth tree.offset = cc in
    let others : map Some twigs ≡ map (λ (t : Subtree). value t.depth t.offset) trees = cc in
    omega (
      arith,
      sum_by-cons (λ (t : Subtree). size_of value t.depth t.offset) tree trees,
      sum_by-cons (λ (t : Twig). t.size) twig twigs,
      size_stored value tree.depth tree.offset twig (sym first),
      values_sum value trees twigs others,
    )

-- ---- an upgrade

all_any : (twigs : List Twig) → AllByRecursion (λ (twig : Twig). Unit {0}) twigs
all_any [] = tt
all_any (twig ∷ twigs) = (tt, all_any twigs)

pub nodes_of_roots : (m : Content) (value : Values) → ((d o : ℕ) → IsFullRoot m.length d o → value d o ≡ m.node d o) → IsSound m
    → AreNodes value (full_roots_of m.length) (roots m)
nodes_of_roots m value same sound = each (full_roots_of m.length) (all_roots m.length)
  where
    each : (trees : List Subtree) → AllRoots m.length trees → AreNodes value trees (map (λ (tree : Subtree). node_at m.node tree.depth tree.offset) trees)
    each [] all = refl
    each (tree ∷ trees) all =
        let there = stored_value (m.node tree.depth tree.offset)
        (sound.closed tree.depth tree.offset ∙ root_in_closure m.length (held m) tree.depth tree.offset all.0) in
        let here : Some (node_at m.node tree.depth tree.offset) ≡ node_in value tree = rw (same tree.depth tree.offset all.0, there.1) refl in
        ap (λ n. n ∷ map Some (map (λ (t : Subtree). node_at m.node t.depth t.offset) trees)) here ∙ ap (λ ns. node_in value tree ∷ ns) (each trees all.1)

module _ (m : Content) (to : ℕ) (parts : List Twig) (sound : IsSound m) (longer : m.length < to) (count : length parts ≡ length (cover_of m.length to)) where
  abbrev trees : List Subtree
  trees = cover_of m.length to

  abbrev known : Values
  known = with_parts m.length m.node trees parts

  low : m.length ≤ to
  low = omega (arith, longer)

  known_below : (d o : ℕ) → end_block_of d o ≤ m.length → known d o ≡ m.node d o
  known_below d o within = rw (le-leb (end_block_of d o) m.length within) refl

  known_behind : (d o : ℕ) → m.length < end_block_of d o → known d o ≡ value_in trees parts d o
  known_behind d o past = rw (lt-leb (end_block_of d o) m.length past) refl

  known_over : (d o : ℕ) → first_block_of (suc d) o < m.length → m.length < end_block_of (suc d) o → known (suc d) o ≡ None
  known_over d o before past = either (known (suc d) o) refl
    where
      either : (own : Option Twig) → known (suc d) o ≡ own → known (suc d) o ≡ None
      either None is = is
      either (Some twig) is =
          let there = value_in-some (λ (t : Twig). Unit {0}) trees parts (suc d) o twig (all_any parts) (sym (known_behind (suc d) o past) ∙ is) in
          let between = true_between m.length to (suc d) o (in_cover_of m.length to (suc d) o low there.0).within in
          absurd (omega (arith, between.first, before))

  cover_carry : (tree : Subtree) (twig : Twig) → IsCover m.length to tree.depth tree.offset → value_in trees parts tree.depth tree.offset ≡ Some twig
      → joined known tree.depth tree.offset ≡ Some twig
  cover_carry tree twig cover is =
      let between = true_between m.length to tree.depth tree.offset cover.within in
      let past : m.length < end_block_of tree.depth tree.offset = omega (arith, between, span_some tree.depth tree.offset) in
      joined-known known tree.depth tree.offset twig (known_behind tree.depth tree.offset past ∙ is)

  pub joined_same : AgreesBelow m.length m.node (joined known)
  joined_same = joined_below m.length m.node known sound.pairs known_below

  pub joined_joins : Joins m.length to (joined known)
  unfolding joined
  joined_joins d o before past within = rw (known_over d o before past) refl

  pub joined_roots : AreNodes (joined known) (full_roots_of m.length) (roots m)
  joined_roots = nodes_of_roots m (joined known) (λ d o root. joined_same d o root.within) sound

  pub joined_cover : AreValues (joined known) trees parts
  joined_cover =
      values_carry (value_in trees parts) (joined known) (λ (tree : Subtree). IsCover m.length to tree.depth tree.offset) trees parts
      (all_cover_of m.length to low) cover_carry (values_beside trees parts m.length to count (tile-cover m.length to low))

  is_longer : IsLonger m.length to m.block m.node known
  is_longer = record {
    longer = low;
    before = known_below;
    over = λ d o before past within. known_over d o before past;
    cover = covered;
    behind = λ d o behind within any. none_behind d o behind any;
  }
    where
      covered : (d o : ℕ) → IsCover m.length to d o → is_some (joined known d o) ≡ true
      covered d o cover =
          let value = stored_value (value_in trees parts d o) (value_in-has trees parts d o count (cover_has m.length to d o low cover)) in
          ap is_some (cover_carry (subtree d o) value.0 cover value.1)

      none_behind : (d o : ℕ) → m.length ≤ first_block_of (suc d) o → any_under (holds m.block) (suc d) o ≡ true → IsPaired known d o
      none_behind d o behind any =
          let there = any_under-held (holds m.block) (suc d) o any in
          let bytes = stored_value (m.block there.index) there.is_held in
          absurd (omega (arith, sound.blocks.below there.index bytes.0 bytes.1, there.under.0, behind))

  -- the bytes of the upgraded log
  pub upgraded_bytes : (signature : List ℕ) → bytes_under (roots (upgrade_content to parts signature m)) ≡ bytes_under (roots m) + twig_bytes parts
  upgraded_bytes signature =
      ap bytes_under (roots_on to m.block (joined known))
      ∙ joined_bytes m to m.block known sound is_longer
      ∙ ap (λ (k : ℕ). bytes_under (roots m) + k) (values_sum (joined known) trees parts joined_cover)

-- what the joining of roots asks for
pub joined_known : (m : Content) (to base : ℕ) (parts : List Twig) → IsSound m → m.length ≡ base → base < to → length parts ≡ length (cover_of base to)
    → Joins base to (joined (with_parts m.length m.node (cover_of m.length to) parts))
    × AreNodes (joined (with_parts m.length m.node (cover_of m.length to) parts)) (full_roots_of base) (roots m)
    × AreValues (joined (with_parts m.length m.node (cover_of m.length to) parts)) (cover_of base to) parts
joined_known m to base parts sound at =
    let value = joined (with_parts m.length m.node (cover_of m.length to) parts) in
    subst (λ (n : ℕ). n < to → length parts ≡ length (cover_of n to)
    → Joins n to value × AreNodes value (full_roots_of n) (roots m) × AreValues value (cover_of n to) parts) at
    (λ longer count. (joined_joins m to parts sound longer count, joined_roots m to parts sound longer count, joined_cover m to parts sound longer count))
