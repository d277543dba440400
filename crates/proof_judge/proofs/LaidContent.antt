-- An upgrade's nodes laid over a sound content make the content with the upgrade in.
use Rattle.std.proofs.Common.{◌≡◌, ℕ, true, false, ◌<◌, ◌≤◌, inl, inr, List, [], ◌∷◌, map, length, Option, Some, None, refl, sym, ap, subst, ◌∙◌, arith, drop, IsTrue}
use Rattle.std.specs.List.{AllByRecursion}
use mathlib.Core.Path.{fun_ext}
use Rattle.std.proofs.lemmas.Bool.{cases_Bool, cases_lt, lt-ltb, le-ltb}
use Rattle.flat_tree.specs.Subtrees.{subtree}
use Rattle.flat_tree.specs.Roots.{full_roots_of}
use Rattle.flat_tree.specs.Covers.{cover_of}
use Rattle.merkle_nodes.specs.declared.node.Node.{Node}
use Rattle.merkle_nodes.specs.declared.node.Twig.{Twig}
use Rattle.merkle_nodes.specs.Joined.{Values, joined, with_parts, value_in, or_value}
use Rattle.merkle_nodes.specs.Nodes.{AreNodes}
use Rattle.merkle_nodes.specs.Roots.{twig_of}
use Rattle.node_set.specs.Contents.{Content, Blocks, held, holds}
use Rattle.node_set.specs.Closure.{in_closure, is_root, IsFullRoot}
use Rattle.node_set.specs.Nodes.{with_nodes}
use Rattle.node_set.specs.Changes.{closed, content_on, blocks_below}
use Rattle.node_set.specs.Whole.{IsSound}
use Rattle.node_set.proofs.ClosureLemmas.{span_some, true_closure, true_root, root_true}
use Rattle.node_set.proofs.RootTruth.{some_or_none}
use Rattle.node_set.proofs.SoundLemmas.{stored_value, closed_in, closed_out, all_roots}
use Rattle.node_set.proofs.CoverLemmas.{all_at}
use Rattle.node_set.proofs.UpgradeLemmas.{value_in-some}
use Rattle.core_forks.specs.Reorganise.{kept_of}
use Rattle.flat_tree.proofs.RootLemmas.{tile-le}
use Rattle.log_view.specs.Views.{Source}
use Rattle.log_view.specs.Overlays.{laid_over}
use Rattle.root_stack.specs.Stack.{SizeFits}
use Rattle.proof_form.specs.declared.proof.UpgradePart.{UpgradePart}
use Rattle.judge_laws.proofs.KeptRoots.{new_roots-are}
use Rattle.proof_check.specs.Upgraded.{new_roots, upgraded_by}
use Rattle.proof_check.proofs.UpgradeValues.{nodes_of_roots, joined_same}
use Rattle.root_stack.specs.Made.{IsMade}
use Rattle.proof_judge.specs.Laying.{roots_before, IsDue, upgrade_head, joined_with, AreLaid, KeepsBlocks, LaysUpgrade}
use Rattle.proof_judge.proofs.LaidOver.{IsBoundary, none_straddles, can_be_laid, made_or_stored, value_made, value_kept, any_value, any_roots}
use Rattle.proof_judge.proofs.NewRoots.{whole_values, joined_whole, whole_are, value_beside, root_contained, new_roots_of}

-- ---- contents with the same blocks, and the same values in the closure

abbrev on_values : ℕ → ℕ → List ℕ → Blocks → Values → Content
on_values fork n signature block value = record { fork = fork; length = n; signature = signature; block = block; node = value }

content_same : (fork n : ℕ) (signature : List ℕ) (block other : Blocks) (one two : Values) → ((index : ℕ) → block index ≡ other index)
    → ((d o : ℕ) → in_closure n (holds block) d o ≡ true → one d o ≡ two d o)
    → content_on fork n signature block one ≡ content_on fork n signature other two
content_same fork n signature block other one two blocks values =
    let nodes : closed n block one ≡ closed n block two = fun_ext (λ d. fun_ext (λ o. here d o)) in
    ap (on_values fork n signature block) nodes ∙ ap (λ (b : Blocks). content_on fork n signature b two) (fun_ext blocks)
  where
    here : (d o : ℕ) → closed n block one d o ≡ closed n block two d o
    here d o = elim (cases_Bool (in_closure n (holds block) d o)) [
      | inl inside ↦ closed_in n block one d o inside ∙ values d o inside ∙ sym (closed_in n block two d o inside)
      | inr outside ↦ closed_out n block one d o outside ∙ sym (closed_out n block two d o outside)
    ]

pub held_low : (m : Content) (index : ℕ) → IsSound m → held m index ≡ true → index < m.length
held_low m index sound is = let bytes = stored_value (m.block index) is in sound.blocks.below index bytes.0 bytes.1

module _ (m : Content) (fork : ℕ) (u : UpgradePart) (nodes : List Node) (kept : ℕ) (laid : AreLaid (roots_before fork m) u nodes) (due : IsDue fork u m) where
  -- ---- under the log's own fork

  pub own_boundary : fork ≤ m.fork → kept ≡ m.length → IsBoundary u.start u.length m.length kept
  own_boundary own all =
      let start : u.start ≡ m.length = due.start ∙ rw (le-ltb m.fork fork own) refl in
      record {
        below = omega (arith, all);
        within = omega (arith, all, start, due.fits.ordered);
        longer = λ some. (start, omega (arith, due.fits.ordered));
        none_over = λ d o within before. inl (omega (arith, before, all, start));
      }

  pub own_content : IsSound m → fork ≤ m.fork → kept ≡ m.length → laid_over m (upgrade_head fork u) kept nodes ≡ upgraded_by fork u m
  own_content sound own all =
      content_same fork u.length u.signature (blocks_below kept m.block) m.block (with_nodes m.node nodes) (joined_with u m.node) blocks values
      ∙ ap (λ (f : ℕ). content_on f u.length u.signature m.block (joined_with u m.node)) same
      ∙ ap (λ (n : ℕ). content_on m.fork u.length u.signature m.block (joined (with_parts n m.node (cover_of n u.length) u.nodes))) start
      ∙ rw (le-ltb m.fork fork own) refl
    where
      same : fork ≡ m.fork
      same = omega (arith, own, due.no_older)

      start : u.start ≡ m.length
      start = due.start ∙ rw (le-ltb m.fork fork own) refl

      are : AreNodes m.node (full_roots_of u.start) (roots_before fork m)
      are = rw (le-ltb m.fork fork own, start) (nodes_of_roots m m.node (λ d o root. refl) sound)

      blocks : (index : ℕ) → blocks_below kept m.block index ≡ m.block index
      blocks index = elim (cases_lt index kept) [
        | inl low ↦ rw (lt-ltb index kept low) refl
        | inr high ↦ elim (some_or_none (m.block index)) [
          | inl some ↦ absurd (omega (arith, high, all, sound.blocks.below index some.0 some.1))
          | inr none ↦ rw (le-ltb index kept high) (sym none)
        ]
      ]

      longer : m.length < u.length
      longer = omega (arith, start, due.fits.ordered)

      count : length u.nodes ≡ length (cover_of m.length u.length)
      count = due.fits.nodes.count ∙ ap (λ (n : ℕ). length (cover_of n u.length)) start

      values : (d o : ℕ) → in_closure u.length (holds (blocks_below kept m.block)) d o ≡ true → with_nodes m.node nodes d o ≡ joined_with u m.node d o
      values d o inside =
          elim (made_or_stored m fork u nodes kept laid (own_boundary own all) (λ index is. held_low m index sound is) d o inside) [
            | inl made ↦ let value = value_made m fork u nodes kept laid m.node m.node d o are made in value.1 ∙ sym value.2
            | inr stored ↦
                let within = (true_closure m.length (held m) d o stored).within in
                value_kept m fork u nodes kept laid m.node d o (λ made. omega (arith, made.past, within, start))
                ∙ sym (joined_same m u.length u.nodes sound longer count d o within)
                ∙ sym (ap (λ (n : ℕ). joined (with_parts n m.node (cover_of n u.length) u.nodes) d o) start)
          ]

  -- ---- under a greater one

  module _ (greater : m.fork < fork) where
    none_before : u.start ≡ 0
    none_before = due.start ∙ rw (lt-ltb m.fork fork greater) refl

    whole_count : length u.nodes ≡ length (cover_of 0 u.length)
    whole_count = due.fits.nodes.count ∙ ap (λ (n : ℕ). length (cover_of n u.length)) none_before

    pub other_roots : (after : List Node) → AreNodes (joined_with u (any_value m)) (full_roots_of u.length) after → map twig_of after ≡ new_roots u
    other_roots after are =
        new_roots_of u after (subst (λ (value : Values). AreNodes value (full_roots_of u.length) after) (joined_whole u (any_value m) none_before) are)

    abbrev new_values : Values
    new_values d o = or_value (value_in (full_roots_of u.length) (new_roots u) d o) (m.node d o)

    other_values : (d o : ℕ) → with_nodes m.node nodes d o ≡ new_values d o
    other_values d o = elim (cases_Bool (is_root u.length d o)) [
      | inl test ↦
          let root = true_root u.length d o test in
          let made = value_made m fork u nodes kept laid m.node (any_value m) d o (any_roots fork u.start m due.start)
          (record { past = omega (arith, none_before, span_some d o); within = root.within; over = inr root.largest }) in
          let own : value_in (full_roots_of u.length) (new_roots u) d o ≡ Some made.0 =
          ap (λ (twigs : List Twig). value_in (full_roots_of u.length) twigs d o) (new_roots-are u whole_count)
          ∙ value_beside (whole_values u) (full_roots_of u.length) u.nodes d o (whole_are u whole_count) (root_contained u.length d o root)
          ∙ sym (ap (λ (value : Values). value d o) (joined_whole u (any_value m) none_before)) ∙ made.2 in
          made.1 ∙ sym (ap (λ (v : Option Twig). or_value v (m.node d o)) own)
      | inr other ↦
          let none : value_in (full_roots_of u.length) (new_roots u) d o ≡ None = not_root other in
          value_kept m fork u nodes kept laid m.node d o (λ made. not_made other made) ∙ sym (ap (λ (v : Option Twig). or_value v (m.node d o)) none)
    ]
      where
        clash : is_root u.length d o ≡ false → IsFullRoot u.length d o → ⊥
        clash other root = let both : true ≡ false = sym (root_true u.length d o root) ∙ other in cc

        not_made : is_root u.length d o ≡ false → IsMade u.start u.length d o → ⊥
        not_made other made = elim made.over [
          | inl before ↦ omega (arith, before, none_before)
          | inr past ↦ clash other (record { within = made.within; largest = past })
        ]

        not_root : is_root u.length d o ≡ false → value_in (full_roots_of u.length) (new_roots u) d o ≡ None
        not_root other = elim (some_or_none (value_in (full_roots_of u.length) (new_roots u) d o)) [
          | inr none ↦ none
          | inl some ↦
              let there = value_in-some (λ (t : Twig). Unit {0}) (full_roots_of u.length) (new_roots u) d o some.0 (all_any (new_roots u)) some.1 in
              absurd (clash other (all_at _ (full_roots_of u.length) (subtree d o) (all_roots u.length) there.0))
        ]
          where
            all_any : (twigs : List Twig) → AllByRecursion (λ (t : Twig). Unit {0}) twigs
            all_any [] = tt
            all_any (twig ∷ twigs) = (tt, all_any twigs)

    pub other_content : kept ≡ kept_of m u.length (new_roots u) → laid_over m (upgrade_head fork u) kept nodes ≡ upgraded_by fork u m
    other_content is =
        ap (λ (k : ℕ). laid_over m (upgrade_head fork u) k nodes) is
        ∙ ap (λ (value : Values). content_on fork u.length u.signature (blocks_below (kept_of m u.length (new_roots u)) m.block) value)
        (fun_ext (λ d. fun_ext (λ o. other_values d o)))
        ∙ rw (lt-ltb m.fork fork greater) refl

-- ---- both

pub lays : (s : Source) (fork : ℕ) (u : UpgradePart) (after : List Node) (kept : ℕ) (nodes : List Node) → IsDue fork u s.content
    → ((index : ℕ) → held s.content index ≡ true → index < s.content.length) → AreLaid (roots_before fork s.content) u nodes
    → AreNodes (joined_with u (any_value s.content)) (full_roots_of u.length) after → AllByRecursion SizeFits after → AllByRecursion SizeFits nodes
    → KeepsBlocks s fork u.length after kept
    → LaysUpgrade s fork u (record { head = upgrade_head fork u; roots = after; kept = kept }) nodes
lays s fork u after kept nodes due below laid rooted after_fit nodes_fit keeps = elim (cases_lt s.content.fork fork) [
  | inr own ↦
      let all = keeps.same_fork own in
      with_boundary (own_boundary s.content fork u nodes kept laid due own all) (λ shows sound. own_content s.content fork u nodes kept laid due sound own all)
  | inl greater ↦
      with_boundary (other_boundary greater) (λ shows sound.
      other_content s.content fork u nodes kept laid due greater
      (keeps.stored greater shows sound ∙ ap (kept_of s.content u.length) (other_roots s.content fork u nodes kept laid due greater after rooted)))
]
  where
    other_boundary : s.content.fork < fork → IsBoundary u.start u.length s.content.length kept
    other_boundary greater =
        let tile = keeps.whole_roots greater in
        let start = none_before s.content fork u nodes kept laid due greater in
        record {
          below = keeps.before;
          within = tile-le (drop tile.0 (full_roots_of u.length)) kept u.length tile.1;
          longer = λ some. absurd (omega (arith, some, start));
          none_over = λ d o within before. inr (omega (arith, none_straddles u.length kept tile.0 d o tile.1 within before, keeps.before));
        }

    with_boundary : IsBoundary u.start u.length s.content.length kept
        → (IsTrue s.shows → IsSound s.content → laid_over s.content (upgrade_head fork u) kept nodes ≡ upgraded_by fork u s.content)
        → LaysUpgrade s fork u (record { head = upgrade_head fork u; roots = after; kept = kept }) nodes
    with_boundary boundary content = record {
      head_is = refl;
      nodes_are = laid;
      is_laid = can_be_laid s.content fork u nodes kept laid boundary below due after rooted after_fit nodes_fit;
      kept_are = keeps;
      roots_came = λ greater. other_roots s.content fork u nodes kept laid due greater after rooted;
      content = content;
    }
