-- Joined values behind a log, from the twigs of a tiling: they are the twigs there, join above, and are the old ones below.
use Rattle.std.proofs.Common.{◌≡◌, ℕ, suc, true, ◌+◌, ◌*◌, ◌<◌, ◌≤◌, inl, inr, List, [], ◌∷◌, ◌++◌, length, map, Some, None, refl, sym, ◌∙◌, ap, arith, nat_eq}
use Rattle.std.specs.Prelude.{◌&&◌}
use Rattle.std.specs.List.{AllByRecursion}
use Rattle.std.proofs.lemmas.Bool.{cases_Bool, le-leb, lt-leb, eq-eqb, eqb-true, and_parts, and_from}
use Rattle.flat_tree.specs.Subtrees.{Subtree, end_block_of, Tile}
use Rattle.flat_tree.specs.Roots.{full_roots_of}
use Rattle.flat_tree.proofs.NumberLemmas.{end_first}
use Rattle.flat_tree.proofs.RootLemmas.{tile-full}
use Rattle.std.proofs.lemmas.Nat.{pow_pos}
use Rattle.merkle_nodes.specs.declared.node.Node.{Node}
use Rattle.merkle_nodes.specs.declared.node.Twig.{Twig}
use Rattle.merkle_nodes.specs.Joined.{Values, parent_if, joined, value_in, with_parts}
use Rattle.merkle_nodes.specs.Nodes.{AreNodes}
use Rattle.merkle_nodes.proofs.JoinedValues.{joined-known, EndBy-tile, AreNodes-carry}
use Rattle.root_stack.specs.Stack.{JoinsAt, Joins, AreValues, AreJoined}

-- ---- the value beside a subtree

same_tree : (tree : Subtree) (d o : ℕ) → (nat_eq tree.depth d && nat_eq tree.offset o) ≡ true → (tree.depth ≡ d) × (tree.offset ≡ o)
same_tree tree d o test =
    let parts = and_parts (nat_eq tree.depth d) (nat_eq tree.offset o) test in
    (eqb-true tree.depth d parts.0, eqb-true tree.offset o parts.1)

value_here : (tree : Subtree) (trees : List Subtree) (twig : Twig) (twigs : List Twig)
    → value_in (tree ∷ trees) (twig ∷ twigs) tree.depth tree.offset ≡ Some twig
unfolding value_in
value_here tree trees twig twigs =
    let test : (nat_eq tree.depth tree.depth && nat_eq tree.offset tree.offset) ≡ true =
    and_from (nat_eq tree.depth tree.depth) (nat_eq tree.offset tree.offset) (eq-eqb tree.depth tree.depth refl) (eq-eqb tree.offset tree.offset refl) in
    rw test refl

-- another subtree has its value further on
value_further : (tree : Subtree) (trees : List Subtree) (twig : Twig) (twigs : List Twig) (d o : ℕ) → ((tree.depth ≡ d) × (tree.offset ≡ o) → ⊥)
    → value_in (tree ∷ trees) (twig ∷ twigs) d o ≡ value_in trees twigs d o
unfolding value_in
value_further tree trees twig twigs d o other = elim (cases_Bool (nat_eq tree.depth d && nat_eq tree.offset o)) [
  | inl test ↦ absurd (other (same_tree tree d o test))
  | inr test ↦ rw test refl
]

other_end : (tree : Subtree) (d o : ℕ) → (end_block_of tree.depth tree.offset ≡ end_block_of d o → ⊥) → (tree.depth ≡ d) × (tree.offset ≡ o) → ⊥
other_end tree d o apart same = apart (ap (λ (k : ℕ). end_block_of k tree.offset) same.0 ∙ ap (end_block_of d) same.1)

-- one that ends before them has none
value_before : (trees : List Subtree) (twigs : List Twig) (from to d o : ℕ) → Tile trees from to → end_block_of d o ≤ from → value_in trees twigs d o ≡ None
unfolding value_in
value_before [] twigs from to d o tile before = refl
value_before (tree ∷ trees) [] from to d o tile before = refl
value_before (tree ∷ trees) (twig ∷ twigs) from to d o tile before =
    let size = end_first tree.depth tree.offset in
    let apart = other_end tree d o (λ same. omega (arith, same, before, tile.0, size, pow_pos tree.depth)) in
    value_further tree trees twig twigs d o apart ∙ value_before trees twigs _ to d o tile.1 (omega (arith, before, tile.0, size))

-- ---- values that are those of the twigs behind a block

module _ (value : Values) where
  -- are the twigs at the trees
  values_are : (trees : List Subtree) (twigs : List Twig) (from to : ℕ) → Tile trees from to → length twigs ≡ length trees
      → ((d o : ℕ) (twig : Twig) → from < end_block_of d o → value_in trees twigs d o ≡ Some twig → value d o ≡ Some twig) → AreValues value trees twigs
  values_are [] [] from to tile count has = refl
  values_are [] (twig ∷ twigs) from to tile count has = absurd (omega (arith, count))
  values_are (tree ∷ trees) [] from to tile count has = absurd (omega (arith, count))
  values_are (tree ∷ trees) (twig ∷ twigs) from to tile count has =
      let size = end_first tree.depth tree.offset in
      let here = has tree.depth tree.offset twig (omega (arith, tile.0, size, pow_pos tree.depth)) (value_here tree trees twig twigs) in
      let rest = values_are trees twigs _ to tile.1 (omega (arith, count)) (λ d o t behind is.
      let apart = other_end tree d o (λ same. omega (arith, same, behind)) in
      has d o t (omega (arith, tile.0, size, behind)) (value_further tree trees twig twigs d o apart ∙ is)) in
      ap (λ v. v ∷ map Some twigs) (sym here) ∙ ap (λ vs. value tree.depth tree.offset ∷ vs) rest

  -- and none where a larger subtree ends with one
  none_over : (trees : List Subtree) (twigs : List Twig) (from to : ℕ) → Tile trees from to → length twigs ≡ length trees
      → ((d o : ℕ) → from < end_block_of d o → value_in trees twigs d o ≡ None → value d o ≡ None)
      → AllByRecursion (λ (tree : Subtree). (d o : ℕ) → tree.depth < d → end_block_of d o ≡ end_block_of tree.depth tree.offset → value d o ≡ None) trees
  none_over [] twigs from to tile count has = tt
  none_over (tree ∷ trees) [] from to tile count has = absurd (omega (arith, count))
  none_over (tree ∷ trees) (twig ∷ twigs) from to tile count has =
      let size = end_first tree.depth tree.offset in (
        λ d o deeper ends.
            let apart = value_further tree trees twig twigs d o (λ same. omega (arith, same.0, deeper)) in
            has d o (omega (arith, ends, tile.0, size, pow_pos tree.depth)) (apart ∙ value_before trees twigs _ to d o tile.1 (omega (arith, ends))),
        none_over trees twigs _ to tile.1 (omega (arith, count)) (λ d o behind none.
            let apart = other_end tree d o (λ same. omega (arith, same, behind)) in
            has d o (omega (arith, tile.0, size, behind)) (value_further tree trees twig twigs d o apart ∙ none)),
      )

all_so : (P Q : Subtree → Type 0) → ((tree : Subtree) → P tree → Q tree) → (trees : List Subtree) → AllByRecursion P trees → AllByRecursion Q trees
all_so P Q so [] all = tt
all_so P Q so (tree ∷ trees) all = (so tree all.0, all_so P Q so trees all.1)

-- ---- the joined values

module _ (known : Values) (from to : ℕ) (trees : List Subtree) (twigs : List Twig) (tile : Tile trees from to) (count : length twigs ≡ length trees) where
  abbrev parts : Values
  parts = with_parts from known trees twigs

  below : (d o : ℕ) → end_block_of d o ≤ from → parts d o ≡ known d o
  below d o within = rw (le-leb (end_block_of d o) from within) refl

  behind : (d o : ℕ) → from < end_block_of d o → parts d o ≡ value_in trees twigs d o
  behind d o past = rw (lt-leb (end_block_of d o) from past) refl

  joined_over : (d o : ℕ) → parts (suc d) o ≡ None → joined parts (suc d) o ≡ parent_if (joined parts d (2 * o)) (joined parts d (2 * o + 1))
  unfolding joined
  joined_over d o none = rw none refl

  pub joined-twigs : AreJoined (joined parts) trees twigs
  joined-twigs =
      let none = none_over parts trees twigs from to tile count (λ d o past none. behind d o past ∙ none) in
      record {
        joins = all_so _ (JoinsAt (joined parts)) (λ tree none d o higher ends. joined_over d o (none (suc d) o (omega (arith, higher)) ends)) trees none;
        at_trees = values_are (joined parts) trees twigs from to tile count (λ d o twig past is. joined-known parts d o twig (behind d o past ∙ is));
      }

  pub joined-roots : (roots : List Node) → AreNodes known (full_roots_of from) roots → AreNodes (joined parts) (full_roots_of from) roots
  joined-roots roots =
      AreNodes-carry known (joined parts) from (λ d o twig within is. joined-known parts d o twig (below d o within ∙ is)) (full_roots_of from) roots
      (EndBy-tile (full_roots_of from) 0 from (tile-full from))

-- ---- two lists, one behind the other

joins_two : (values : Values) (low high : List Subtree) → Joins values (low ++ high) → Joins values low × Joins values high
joins_two values [] high joins = (tt, joins)
joins_two values (tree ∷ low) high joins = let rest = joins_two values low high joins.1 in ((joins.0, rest.0), rest.1)

values_two : (values : Values) (low high : List Subtree) (low_twigs high_twigs : List Twig) → length low_twigs ≡ length low
    → AreValues values (low ++ high) (low_twigs ++ high_twigs) → AreValues values low low_twigs × AreValues values high high_twigs
values_two values [] high [] high_twigs count are = (refl, are)
values_two values [] high (twig ∷ twigs) high_twigs count are = absurd (omega (arith, count))
values_two values (tree ∷ low) high [] high_twigs count are = absurd (omega (arith, count))
values_two values (tree ∷ low) high (twig ∷ twigs) high_twigs count are =
    let value_at = λ (t : Subtree). values t.depth t.offset in
    let first : Some twig ≡ value_at tree = cc in
    let others : map Some (twigs ++ high_twigs) ≡ map value_at (low ++ high) = cc in
    let rest = values_two values low high twigs high_twigs (omega (arith, count)) others in
    (ap (λ v. v ∷ map Some twigs) first ∙ ap (λ vs. value_at tree ∷ vs) rest.0, rest.1)

pub joined-two : (values : Values) (low high : List Subtree) (low_twigs high_twigs : List Twig) → length low_twigs ≡ length low
    → AreJoined values (low ++ high) (low_twigs ++ high_twigs) → AreJoined values low low_twigs × AreJoined values high high_twigs
joined-two values low high low_twigs high_twigs count both =
    let joins = joins_two values low high both.joins in
    let are = values_two values low high low_twigs high_twigs count both.at_trees in
    (record { joins = joins.0; at_trees = are.0 }, record { joins = joins.1; at_trees = are.1 })
