-- An upgrade's nodes laid over a content: what can be laid, and the content that they make.
use Rattle.std.proofs.Common.{◌≡◌, ℕ, zero, suc, Bool, true, false, ◌/◌, ◌<◌, ◌≤◌, ◌⊎◌, inl, inr, List, [], ◌∷◌, map, drop, Option, Some, None, refl, sym, ap, ◌∙◌, arith, nat_lt, if◌then◌else◌}
use Rattle.std.specs.Prelude.{is_some}
use Rattle.std.specs.List.{AllByRecursion}
use Rattle.std.proofs.lemmas.Bool.{cases_Bool, cases_lt, lt-ltb, le-ltb, le-leb, or_left, or_right}
use Rattle.std.proofs.lemmas.List.Elements.{All-from_recursion}
use Rattle.flat_tree.specs.Subtrees.{Subtree, number, first_block_of, end_block_of, Tile}
use Rattle.flat_tree.specs.Roots.{full_roots_of, roots_below}
use Rattle.flat_tree.specs.Covers.{cover_of}
use Rattle.merkle_nodes.specs.declared.node.Node.{Node}
use Rattle.merkle_nodes.specs.declared.node.Twig.{Twig}
use Rattle.merkle_nodes.specs.Joined.{Values, with_parts}
use Rattle.merkle_nodes.specs.Nodes.{AreNodes, node_in}
use Rattle.merkle_nodes.specs.Roots.{twig_of}
use Rattle.merkle_nodes.proofs.JoinedValues.{joined-known}
use Rattle.node_set.specs.Contents.{Content, held, holds, node_at, twig_at}
use Rattle.node_set.specs.Closure.{in_closure, any_under, IsFullRoot}
use Rattle.node_set.specs.Nodes.{with_nodes}
use Rattle.node_set.specs.Changes.{blocks_below}
use Rattle.node_set.proofs.ClosureLemmas.{span_some, IsClosure, closure_true, true_closure, any_under-held, any_under-more}
use Rattle.node_set.proofs.RootTruth.{twig_at-some}
use Rattle.node_set.proofs.SoundLemmas.{roots_same, all_roots}
use Rattle.log_view.specs.Overlays.{has_number, IsLaid}
use Rattle.log_view.proofs.Finding.{with_nodes-among, with_nodes-absent}
use Rattle.log_change.proofs.Named.{nodes_are}
use Rattle.root_stack.specs.Made.{IsMade}
use Rattle.root_stack.specs.Stack.{SizeFits}
use Rattle.root_stack.proofs.Levels.{IsPart-up, IsPart-meet}
use Rattle.proof_form.specs.declared.proof.UpgradePart.{UpgradePart}
use Rattle.proof_judge.specs.Laying.{length_before, roots_before, IsDue, upgrade_head, joined_with, AreLaid}
use Rattle.proof_judge.proofs.LaidNodes.{number_found}

-- ---- values of the roots before

-- a content's values, with a twig for each subtree that has none: its roots are theirs
abbrev pub any_value : Content → Values
any_value m d o = Some (twig_at m.node d o)

pub no_roots : full_roots_of 0 ≡ []
unfolding full_roots_of roots_below
no_roots = refl

any_nodes : (m : Content) (trees : List Subtree) → AreNodes (any_value m) trees (map (λ (tree : Subtree). node_at m.node tree.depth tree.offset) trees)
any_nodes m [] = refl
any_nodes m (tree ∷ trees) = ap (λ (ns : List (Option Node)). Some (node_at m.node tree.depth tree.offset) ∷ ns) (any_nodes m trees)

pub any_roots : (fork start : ℕ) (m : Content) → start ≡ length_before fork m → AreNodes (any_value m) (full_roots_of start) (roots_before fork m)
any_roots fork start m is = elim (cases_Bool (nat_lt m.fork fork)) [
  | inl greater ↦
      let none : start ≡ 0 = is ∙ rw greater refl in
      rw (greater, none) (ap (map (node_in (any_value m))) (sym no_roots))
  | inr other ↦
      let all : start ≡ m.length = is ∙ rw other refl in
      rw (other, all) (any_nodes m (full_roots_of m.length))
]

-- ---- which subtrees are over kept blocks

-- none that has blocks behind those of a longer log, or kept ones, has others than the log's
pub record IsBoundary (start end blocks kept : ℕ) : Type 0 where
  pub below : kept ≤ blocks
  pub within : kept ≤ end
  pub longer : 0 < start → (start ≡ blocks) × (start ≤ end)
  pub none_over : (d o : ℕ) → end_block_of d o ≤ end → first_block_of d o < kept → (first_block_of d o < start) ⊎ (end_block_of d o ≤ blocks)

-- under roots that begin with a kept block's end, no subtree has blocks on both sides of it
pub none_straddles : (n kept at d o : ℕ) → Tile (drop at (full_roots_of n)) kept n → end_block_of d o ≤ n → first_block_of d o < kept → end_block_of d o ≤ kept
none_straddles n kept at d o tile within before = elim (cases_lt kept (end_block_of d o)) [
  | inr done ↦ done
  | inl past ↦ absurd (clash (drop at (full_roots_of n)) (all_drop at (full_roots_of n) (all_roots n)) tile past)
]
  where
    all_drop : (k : ℕ) (trees : List Subtree) → AllByRecursion (λ (tree : Subtree). IsFullRoot n tree.depth tree.offset) trees
        → AllByRecursion (λ (tree : Subtree). IsFullRoot n tree.depth tree.offset) (drop k trees)
    all_drop zero trees all = all
    all_drop (suc k) [] all = tt
    all_drop (suc k) (tree ∷ trees) all = all_drop k trees all.1

    clash : (trees : List Subtree) → AllByRecursion (λ (tree : Subtree). IsFullRoot n tree.depth tree.offset) trees → Tile trees kept n
        → kept < end_block_of d o → ⊥
    clash [] all tile past = omega (arith, tile, past, within)
    clash (tree ∷ trees) all tile past = elim (cases_lt tree.depth d) [
      | inl higher ↦
          let up = IsPart-up tree.depth tree.offset in
          let part = IsPart-meet kept (suc tree.depth) (tree.offset / 2) d o (omega (arith, higher)) (omega (arith, up.first, tile.0))
          (omega (arith, up.last, tile.0, span_some tree.depth tree.offset)) (omega (arith, before)) past in
          omega (arith, part.last, all.0.largest, within)
      | inr lower ↦
          let part = IsPart-meet kept d o tree.depth tree.offset lower (omega (arith, before)) past (omega (arith, tile.0))
          (omega (arith, tile.0, span_some tree.depth tree.offset)) in
          omega (arith, part.first, tile.0, before)
    ]

-- ---- what can be laid

module _ (m : Content) (fork : ℕ) (u : UpgradePart) (nodes : List Node) (kept : ℕ) (laid : AreLaid (roots_before fork m) u nodes) where
  -- a node that is made has its joined value
  pub value_made : (value known : Values) (d o : ℕ) → AreNodes known (full_roots_of u.start) (roots_before fork m) → IsMade u.start u.length d o
      → (twig : Twig) × (with_nodes value nodes d o ≡ Some twig) × (joined_with u known d o ≡ Some twig)
  value_made value known d o are made =
      let found = number_found nodes (number d o) ((laid.which d o).1 made) in
      (twig_of found.0, with_nodes-among nodes value found.0 d o laid.order found.1 found.2, laid.values known are d o found.0 found.1 found.2)

  -- a node that isn't made keeps its value
  pub value_kept : (value : Values) (d o : ℕ) → (IsMade u.start u.length d o → ⊥) → with_nodes value nodes d o ≡ value d o
  value_kept value d o none = elim (cases_Bool (has_number nodes (number d o))) [
    | inl has ↦ absurd (none ((laid.which d o).0 has))
    | inr hasnt ↦ with_nodes-absent nodes value d o hasnt
  ]

  module _ (boundary : IsBoundary u.start u.length m.length kept) (below : (index : ℕ) → held m index ≡ true → index < m.length) where
    -- what is to be stored after it is made, or was to be stored before
    pub made_or_stored : (d o : ℕ) → in_closure u.length (holds (blocks_below kept m.block)) d o ≡ true
        → IsMade u.start u.length d o ⊎ (in_closure m.length (held m) d o ≡ true)
    made_or_stored d o stored =
        let is = true_closure u.length (holds (blocks_below kept m.block)) d o stored in
        elim (cases_lt u.start (end_block_of d o)) [
          | inl past ↦ behind past is is.why
          | inr before ↦ inr (old before is is.why)
        ]
      where
        is_kept : (index : ℕ) → holds (blocks_below kept m.block) index ≡ true → (index < kept) × (held m index ≡ true)
        is_kept index has = elim (cases_lt index kept) [
          | inl low ↦ (low, ap (λ (b : Bool). is_some (if b then m.block index else None)) (sym (lt-ltb index kept low)) ∙ has)
          | inr high ↦ let clash : false ≡ true = ap (λ (b : Bool). is_some (if b then m.block index else None)) (sym (le-ltb index kept high)) ∙ has in cc
        ]

        more : any_under (holds (blocks_below kept m.block)) (suc d) (o / 2) ≡ true → any_under (held m) (suc d) (o / 2) ≡ true
        more any = any_under-more (holds (blocks_below kept m.block)) (held m) (λ index has. (is_kept index has).1) (suc d) (o / 2) any

        behind : u.start < end_block_of d o → IsClosure u.length (holds (blocks_below kept m.block)) d o
            → (u.length < end_block_of (suc d) (o / 2)) ⊎ (any_under (holds (blocks_below kept m.block)) (suc d) (o / 2) ≡ true)
            → IsMade u.start u.length d o ⊎ (in_closure m.length (held m) d o ≡ true)
        behind past is (inl root) = inl (record { past = past; within = is.within; over = inr root })
        behind past is (inr any) = elim (cases_lt u.length (end_block_of (suc d) (o / 2))) [
          | inl root ↦ inl (record { past = past; within = is.within; over = inr root })
          | inr inside ↦
              let there = any_under-held (holds (blocks_below kept m.block)) (suc d) (o / 2) any in
              let low = (is_kept there.index there.is_held).0 in
              elim (boundary.none_over (suc d) (o / 2) inside (omega (arith, there.under.0, low))) [
                | inl over ↦ inl (record { past = past; within = is.within; over = inl over })
                | inr own ↦
                    let up = IsPart-up d o in
                    inr (closure_true m.length (held m) d o (record { within = omega (arith, up.last, own); why = inr (more any) }))
              ]
        ]

        old : end_block_of d o ≤ u.start → IsClosure u.length (holds (blocks_below kept m.block)) d o
            → (u.length < end_block_of (suc d) (o / 2)) ⊎ (any_under (holds (blocks_below kept m.block)) (suc d) (o / 2) ≡ true)
            → in_closure m.length (held m) d o ≡ true
        old before is why =
            let longer = boundary.longer (omega (arith, before, span_some d o)) in
            closure_true m.length (held m) d o (record {
              within = omega (arith, before, longer.0);
              why = elim why [ inl root ↦ inl (omega (arith, root, longer.0, longer.1)) | inr any ↦ inr (more any) ];
            })

    module _ (due : IsDue fork u m) (after : List Node) (rooted : AreNodes (joined_with u (any_value m)) (full_roots_of u.length) after) where
      abbrev any_laid : Values
      any_laid d o = Some (twig_at (with_nodes m.node nodes) d o)

      root_value : (d o : ℕ) → IsFullRoot u.length d o → joined_with u (any_value m) d o ≡ any_laid d o
      root_value d o root = elim (cases_lt u.start (end_block_of d o)) [
        | inl past ↦
            let made = value_made m.node (any_value m) d o (any_roots fork u.start m due.start)
            (record { past = past; within = root.within; over = inr root.largest }) in
            made.2 ∙ ap Some (sym (twig_at-some (with_nodes m.node nodes) d o made.0 made.1))
        | inr before ↦
            let known : with_parts u.start (any_value m) (cover_of u.start u.length) u.nodes d o ≡ any_value m d o = rw (le-leb (end_block_of d o) u.start before) refl in
            let own = value_kept m.node d o (λ made. omega (arith, made.past, before)) in
            joined-known (with_parts u.start (any_value m) (cover_of u.start u.length) u.nodes) d o (twig_at m.node d o) known
            ∙ ap (λ (v : Option Twig). Some (twig_at (λ e p. v) d o)) (sym own)
      ]

      pub can_be_laid : AllByRecursion SizeFits after → AllByRecursion SizeFits nodes → IsLaid m (upgrade_head fork u) after kept nodes
      can_be_laid after_fit nodes_fit = record {
        blocks = due.blocks;
        fork = due.limit;
        kept_below = boundary.below;
        kept_within = boundary.within;
        roots_are = nodes_are (joined_with u (any_value m)) (full_roots_of u.length) after rooted
            ∙ roots_same u.length (joined_with u (any_value m)) any_laid root_value;
        roots_fit = All-from_recursion SizeFits after after_fit;
        laid_fit = All-from_recursion SizeFits nodes nodes_fit;
        ascend = laid.order;
        stored = λ d o stored. elim (made_or_stored d o stored) [
          | inl made ↦ or_left (has_number nodes (number d o)) (in_closure m.length (held m) d o) ((laid.which d o).1 made)
          | inr old ↦ or_right (has_number nodes (number d o)) (in_closure m.length (held m) d o) old
        ];
      }
