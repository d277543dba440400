-- An append as a change: the nodes of its batch are all that come in.
use Rattle.std.proofs.Common.{◌≡◌, ℕ, zero, suc, ◌+◌, ◌-◌, ◌*◌, ◌/◌, ◌^◌, ◌<◌, ◌≤◌, Bool, true, false, inl, inr, List, [], ◌∷◌, ◌++◌, length, map, nat_le, nat_lt, if◌then◌else◌, Option, Some, None, refl, sym, ap, subst, ◌∙◌, arith, slice_get, add-one}
use Rattle.std.specs.Prelude.{is_some, not, ◌&&◌, ◌||◌}
use Rattle.std.specs.List.{AllByRecursion}
use Rattle.std.specs.List.Sorted.{IsPermutation, IsNonDecreasingBy}
use Rattle.std.specs.Int.{w64, trailing_ones}
use Rattle.std.proofs.Math.Bool.{and-true, and-false}
use Rattle.std.proofs.lemmas.Bool.{cases_Bool, cases_lt, lt-ltb, le-ltb, lt-leb, le-leb}
use Rattle.std.proofs.lemmas.Option.{slice_get-get_or, slice_get_past}
use Rattle.flat_tree.specs.Subtrees.{Subtree, subtree, number, numbers_of, first_block_of, end_block_of}
use Rattle.flat_tree.specs.Roots.{full_roots_of}
use Rattle.flat_tree.specs.declared.limits.TheConstants.{MAX_BLOCKS}
use Rattle.flat_tree.proofs.NumberLemmas.{end_first}
use Rattle.commit_book.specs.declared.commit.Commit.TheVariants.{Append}
use Rattle.commit_book.specs.History.{is_between}
use Rattle.merkle_nodes.specs.declared.node.Node.{Node}
use Rattle.merkle_nodes.specs.declared.node.Twig.{Twig}
use Rattle.merkle_nodes.specs.Joined.{Values, joined, with_blocks}
use Rattle.merkle_nodes.specs.Nodes.{AreNodes}
use Rattle.merkle_batch.specs.Batch.{BatchView, HasBlocks, ending_with, made_with}
use Rattle.merkle_batch.proofs.Levels.{levels, levels-more, ends_up}
use Rattle.merkle_batch.proofs.Made.{made_with-suc, made_with-end, made_with-has}
use Rattle.node_set.specs.Contents.{Content, Blocks, holds, held, twig_at, roots}
use Rattle.node_set.specs.Closure.{any_under, in_closure, is_root, is_within, IsFullRoot}
use Rattle.node_set.specs.Nodes.{with_nodes}
use Rattle.node_set.specs.Whole.{IsSound}
use Rattle.node_set.specs.Changes.{append_content, blocks_with, closed}
use Rattle.node_set.proofs.AppendLemmas.{all_so}
use Rattle.node_set.proofs.ClosureLemmas.{true_closure, held-any_under, true_root, root_true, held_in_closure, span_some}
use Rattle.node_set.proofs.CoverLemmas.{all-append}
use Rattle.node_set.proofs.JoinedLemmas.{joined_below}
use Rattle.node_set.proofs.RootTruth.{some_or_none, twig_at-some}
use Rattle.node_set.proofs.SoundLemmas.{closed_in, closed_out, closed_some}
use Rattle.log_change.specs.LogChange.{stays, AreFresh, Ascend, IsChange, signed}
use Rattle.log_change.specs.Calls.{growth}
use Rattle.log_change.proofs.Applied.{as_stored, none_either}
use Rattle.log_change.proofs.Forks.{closed_nodes}
use Rattle.log_change.proofs.InOrder.{moved_ascend, moved_values}
use Rattle.log_change.proofs.Named.{number_of, is_among, numbers_are, values_are, nodes_are, among_all, get_among, all_put}

-- ---- which subtrees become full

levels_after : (block count : ℕ) → block < MAX_BLOCKS → count ≤ trailing_ones w64 block + 1
    → AllByRecursion (λ (tree : Subtree). block < end_block_of tree.depth tree.offset) (levels block count)
unfolding first_block_of
levels_after block zero few within = tt
levels_after block (suc count) few within =
    let P = λ (tree : Subtree). block < end_block_of tree.depth tree.offset in
    let tree = subtree count (block / 2 ^ count) in
    let more : levels block (suc count) ≡ levels block count ++ tree ∷ [] = ap (levels block) (sym (add-one count)) ∙ levels-more block count in
    let ends = ends_up block count few (omega (arith, within)) in
    let last : block < end_block_of count (block / 2 ^ count) = omega (arith, end_first count (block / 2 ^ count), ends) in
    subst (AllByRecursion P) (sym more) (all-append P (levels block count) (tree ∷ []) (levels_after block count few (omega (arith, within))) (last, tt))

made_after : (from count : ℕ) → from + count ≤ MAX_BLOCKS → AllByRecursion (λ (tree : Subtree). from < end_block_of tree.depth tree.offset) (made_with from count)
made_after from zero few = tt
made_after from (suc count) few =
    let P = λ (tree : Subtree). from < end_block_of tree.depth tree.offset in
    let block = from + count in
    let last = levels_after block (trailing_ones w64 block + 1) (omega (arith, few)) (omega arith) in
    let ends = all_so (λ (tree : Subtree). block < end_block_of tree.depth tree.offset) P (λ tree less. omega (arith, less)) (ending_with block) last in
    subst (AllByRecursion P) (sym (made_with-suc from count)) (all-append P (made_with from count) (ending_with block) (made_after from count (omega (arith, few))) ends)

-- those that end with one of the new blocks
made_test : (from count d o : ℕ) → from + count ≤ MAX_BLOCKS
    → is_among (numbers_of (made_with from count)) (number d o) ≡ (nat_lt from (end_block_of d o) && nat_le (end_block_of d o) (from + count))
made_test from count d o few = elim (cases_Bool (is_among (numbers_of (made_with from count)) (number d o))) [
  | inl here ↦
      let after = among_all (λ (e p : ℕ). from < end_block_of e p) (made_with from count) d o (made_after from count few) here in
      let within = among_all (λ (e p : ℕ). end_block_of e p ≤ from + count) (made_with from count) d o (made_with-end from count few) here in
      rw (here, lt-ltb from (end_block_of d o) after, le-leb (end_block_of d o) (from + count) within) refl
  | inr none ↦ elim (cases_lt from (end_block_of d o)) [
    | inr before ↦ rw (none, le-ltb from (end_block_of d o) before) refl
    | inl after ↦ elim (cases_lt (from + count) (end_block_of d o)) [
      | inl past ↦ rw (none, lt-leb (end_block_of d o) (from + count) past) (sym (and-false (nat_lt from (end_block_of d o))))
      | inr within ↦
          let has = made_with-has from count d o few after within in
          let clash : false ≡ true = sym none ∙ get_among (made_with from count) has.0 d o has.1 has.2 in cc
    ]
  ]
]

-- ---- a longer log

module _ (m : Content) (more : List (List ℕ)) (signature : List ℕ) (sound : IsSound m) (few : m.length + length more ≤ MAX_BLOCKS) (batch : BatchView)
    (base : batch.base ≡ m.length) (has : HasBlocks m.node more batch) where
  abbrev to : ℕ
  to = m.length + length more

  abbrev block : Blocks
  block = blocks_with m.length more m.block

  abbrev value : Values
  value = joined (with_blocks m.length m.node more)

  abbrev after : Content
  after = append_content more signature m

  are_nodes : AreNodes value (made_with m.length (length more)) batch.nodes
  are_nodes = subst (λ (n : ℕ). AreNodes (joined (with_blocks n m.node more)) (made_with n (length more)) batch.nodes) base has.nodes

  are_roots : AreNodes value (full_roots_of to) batch.roots
  are_roots = subst (λ (n : ℕ). AreNodes (joined (with_blocks n m.node more)) (full_roots_of (n + length more)) batch.roots) base has.roots

  module _ (d o : ℕ) where
    -- past the old end a subtree has a new block, which is held
    new_any : m.length < end_block_of d o → end_block_of d o ≤ to → any_under (holds block) d o ≡ true
    new_any past within =
        let last = end_block_of d o - 1 in
        let some = span_some d o in
        let at : last - m.length < length more = omega (arith, past, within, some) in
        let here : slice_get more (last - m.length) ≡ Some _ = slice_get-get_or more (last - m.length) [] at in
        let behind : nat_lt last m.length ≡ false = le-ltb last m.length (omega (arith, past)) in
        let held_last : holds block last ≡ true = rw (behind, here) refl in
        held-any_under (holds block) d o last held_last (omega (arith, some, past), omega (arith, some, past))

    put : with_nodes (λ d o. None) batch.nodes d o ≡ (if nat_lt m.length (end_block_of d o) && nat_le (end_block_of d o) to then value d o else None)
    put =
        all_put value d o batch.nodes (λ d o. None) (values_are value (made_with m.length (length more)) batch.nodes are_nodes)
        ∙ ap (λ (b : Bool). if b then value d o else None)
        (ap (λ (ns : List ℕ). is_among ns (number d o)) (numbers_are value (made_with m.length (length more)) batch.nodes are_nodes)
        ∙ made_test m.length (length more) d o few)

    abbrev made : Bool
    made = nat_lt m.length (end_block_of d o) && nat_le (end_block_of d o) to

    abbrev chosen : Bool → Option Twig
    chosen b = if b then value d o else None

    -- a node past the old end wasn't stored
    past_new : m.length < end_block_of d o → stays m after d o ≡ false
    past_new past = elim (some_or_none (m.node d o)) [
      | inr none ↦ rw none refl
      | inl some ↦
          absurd (omega (arith, past, (true_closure m.length (held m) d o (sym (sound.closed d o) ∙ ap is_some some.1)).within))
    ]

    past_value : m.length < end_block_of d o → end_block_of d o ≤ to → after.node d o ≡ value d o
    past_value past within = closed_in to block value d o (held_in_closure to (holds block) d o (new_any past within) within)

    further : to < end_block_of d o → after.node d o ≡ None
    further past = closed_out to block value d o (rw (lt-leb (end_block_of d o) to past) refl)

    -- a node before it stays
    before_stays : (twig : Twig) → end_block_of d o ≤ m.length → after.node d o ≡ Some twig → stays m after d o ≡ true
    before_stays twig before is =
        let there = closed_some to block value d o twig is in
        let below = joined_below m.length m.node (with_blocks m.length m.node more) sound.pairs (λ e p within. rw (le-leb (end_block_of e p) m.length within) refl) d o before in
        let same = as_stored (m.node d o) (twig_at after.node d o) (sym below ∙ there.1 ∙ ap Some (sym (twig_at-some after.node d o twig is))) in
        rw same (elim (cases_Bool (is_root to d o)) [
          | inr other ↦ rw other refl
          | inl root ↦
              let full = true_root to d o root in
              let was : is_root m.length d o ≡ true = root_true m.length d o (record { within = before; largest = omega (arith, full.largest) }) in
              rw (root, was) refl
        ])

    append_put : with_nodes (λ d o. None) batch.nodes d o ≡ (if stays m after d o then None else after.node d o)
    append_put = elim (cases_lt m.length (end_block_of d o)) [
      | inl past ↦
          let new = sym (ap (λ (b : Bool). if b then None else after.node d o) (past_new past)) in
          elim (cases_lt to (end_block_of d o)) [
            | inl beyond ↦
                let test : made ≡ false = rw (lt-leb (end_block_of d o) to beyond) (and-false (nat_lt m.length (end_block_of d o))) in
                put ∙ ap chosen test ∙ sym (further beyond) ∙ new
            | inr within ↦
                let test : made ≡ true = rw (lt-ltb m.length (end_block_of d o) past, le-leb (end_block_of d o) to within) refl in
                put ∙ ap chosen test ∙ sym (past_value past within) ∙ new
          ]
      | inr before ↦
          let test : made ≡ false = rw (le-ltb m.length (end_block_of d o) before) refl in
          put ∙ ap chosen test ∙ (elim (some_or_none (after.node d o)) [
            | inr none ↦ sym (none_either (stays m after d o) (after.node d o) none)
            | inl some ↦ sym (ap (λ (b : Bool). if b then None else after.node d o) (before_stays some.0 before some.1))
          ])
    ]

  append_blocks : (index : ℕ) → blocks_with m.length more m.block index
      ≡ (if is_between m.length (m.length + batch.blocks) index then slice_get more (index - m.length) else m.block index)
  append_blocks index = elim (cases_lt index m.length) [
    | inl less ↦ rw (lt-ltb index m.length less, lt-leb m.length index less) refl
    | inr behind ↦ elim (cases_lt index to) [
      | inl new ↦ rw (le-ltb index m.length behind, le-leb m.length index behind, lt-ltb index (m.length + batch.blocks) (omega (arith, new, has.count))) refl
      | inr past ↦
          rw (le-ltb index m.length behind, le-leb m.length index behind, le-ltb index (m.length + batch.blocks) (omega (arith, past, has.count)))
          (slice_get_past more (index - m.length) (omega (arith, past)) ∙ sym (none past))
    ]
  ]
    where
      none : to ≤ index → m.block index ≡ None
      none past = elim (some_or_none (m.block index)) [
        | inr is ↦ is
        | inl some ↦ absurd (omega (arith, past, sound.blocks.below index some.0 some.1))
      ]

  pub append_change : IsChange m after (Some (Append (length more))) more batch.nodes (signed signature (growth m batch))
  append_change = record {
    head_is = ap (λ (n : ℕ). record { fork = m.fork; length = m.length + n; signature = signature }) has.count;
    roots_are = nodes_are (closed to block value) (full_roots_of to) batch.roots (closed_nodes to block value batch.roots are_roots);
    commit_is = ap (λ (n : ℕ). Some (Append n)) has.count;
    blocks = λ index. append_blocks index ∙ rw (le-ltb index 0 (omega arith), and-false (nat_le 0 index)) refl;
    nodes = append_put;
  }

  -- so do its nodes in the order of their numbers
  pub append_in_order : (records : List Node) → IsPermutation batch.nodes records → IsNonDecreasingBy (λ (node : Node). node.index) records
      → Ascend records × AreFresh m after records
  append_in_order records moved sorted = (
    moved_ascend value m.length (length more) few batch.nodes records are_nodes moved sorted,
    λ d o. moved_values value m.length (length more) few batch.nodes records are_nodes moved d o ∙ append_put d o,
  )
