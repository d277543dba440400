-- The nodes of a batch make the entry of an append.
use Rattle.std.proofs.Common.{◌≡◌, ℕ, zero, suc, ◌+◌, ◌*◌, ◌/◌, ◌<◌, ◌≤◌, Bool, true, false, List, length, Option, Some, None, refl, sym, ap, ◌∙◌, arith, inl, inr, nat_le, if◌then◌else◌}
use Rattle.std.specs.Prelude.{is_some, not, ◌&&◌}
use Rattle.std.proofs.lemmas.Bool.{cases_lt, and_parts, le-leb, lt-leb, le-ltb, lt-ltb}
use Rattle.flat_tree.specs.Subtrees.{end_block_of}
use Rattle.flat_tree.specs.declared.limits.TheConstants.{MAX_BLOCKS}
use Rattle.flat_tree.proofs.NumberLemmas.{leaf, end-suc}
use Rattle.commit_book.specs.declared.commit.Commit.TheVariants.{Append}
use Rattle.merkle_nodes.specs.declared.node.Node.{Node}
use Rattle.merkle_nodes.specs.declared.node.Twig.{Twig}
use Rattle.merkle_nodes.specs.Joined.{Values, joined, with_blocks, or_value, parent_if}
use Rattle.merkle_nodes.specs.Nodes.{AreNodes}
use Rattle.merkle_batch.specs.Batch.{made_with}
use Rattle.merkle_batch.proofs.Made.{made_with-has}
use Rattle.oplog_form.specs.Nodes.{Rise}
use Rattle.node_set.specs.Contents.{Content, holds, held}
use Rattle.node_set.specs.Closure.{in_closure, is_within}
use Rattle.node_set.specs.Whole.{IsSound}
use Rattle.node_set.specs.Changes.{append_content, blocks_with}
use Rattle.node_set.proofs.ClosureLemmas.{true_closure, closure_true, any_under-more, within_true, true_within, true_not_within}
use Rattle.node_set.proofs.JoinedLemmas.{joined_below}
use Rattle.node_set.proofs.SoundLemmas.{stored_value}
use Rattle.core_state.proofs.PutNodes.{put_keeps, put_has}
use Rattle.core_state.proofs.AdmitShows.{put_over}
use Rattle.core_disk.specs.Opened.{values_in}
use Rattle.core_disk.specs.Written.{is_new, entry_with, IsEntryOf}
use Rattle.core_disk.proofs.NewNodes.{append_new, full_any, full_closed}

-- no subtree that ends past the blocks has a joined value
joined_past : (n : ℕ) (old : Values) (more : List (List ℕ)) (depth offset : ℕ) → n + length more < end_block_of depth offset
    → joined (with_blocks n old more) depth offset ≡ None
unfolding joined
joined_past n old more zero offset past =
    let end = (leaf offset).2 in
    rw (lt-leb (end_block_of 0 offset) n (omega (arith, past)), le-ltb offset (n + length more) (omega (arith, past, end))) (no_leaf (nat_le n offset) _)
  where
    no_leaf : (test : Bool) (twig : Twig) → (if test && false then Some twig else None) ≡ None
    no_leaf true twig = refl
    no_leaf false twig = refl
joined_past n old more (suc depth) offset past =
    let right = joined_past n old more depth (2 * offset + 1) (omega (arith, past, end-suc depth offset)) in
    rw (lt-leb (end_block_of (suc depth) offset) n (omega (arith, past)), right) (no_parent (joined (with_blocks n old more) depth (2 * offset)))
  where
    no_parent : (left : Option Twig) → parent_if left None ≡ None
    no_parent None = refl
    no_parent (Some twig) = refl

-- a block that was held is
held_stays : (m : Content) (more : List (List ℕ)) → IsSound m → (index : ℕ) → held m index ≡ true → holds (blocks_with m.length more m.block) index ≡ true
held_stays m more sound index here =
    let block = stored_value (m.block index) here in
    rw (lt-ltb index m.length (sound.blocks.below index block.0 block.1)) here

-- before the old end the joined values are the old ones
before_value : (m : Content) (more : List (List ℕ)) → IsSound m → (depth offset : ℕ) → end_block_of depth offset ≤ m.length
    → joined (with_blocks m.length m.node more) depth offset ≡ m.node depth offset
before_value m more sound depth offset before =
    joined_below m.length m.node (with_blocks m.length m.node more) sound.pairs (λ d o within. rw (le-leb (end_block_of d o) m.length within) refl) depth offset before

-- and what was stored is
before_stored : (m : Content) (more : List (List ℕ)) (signature : List ℕ) → IsSound m → (depth offset : ℕ) {twig : Twig} → end_block_of depth offset ≤ m.length
    → m.node depth offset ≡ Some twig → (append_content more signature m).node depth offset ≡ joined (with_blocks m.length m.node more) depth offset
before_stored m more signature sound depth offset before some =
    let n = m.length in
    let to = m.length + length more in
    let set = holds (blocks_with n more m.block) in
    let closure = true_closure n (held m) depth offset (sym (sound.closed depth offset) ∙ ap is_some some) in
    let stays : (index : ℕ) → held m index ≡ true → set index ≡ true = λ index here. held_stays m more sound index here in
    let test : in_closure to set depth offset ≡ true = closure_true to set depth offset (record {
      within = omega (arith, before);
      why = elim (cases_lt to (end_block_of (suc depth) (offset / 2))) [
        | inl past ↦ inl past
        | inr within ↦ elim (cases_lt n (end_block_of (suc depth) (offset / 2))) [
          | inl over ↦ inr (full_any m more (suc depth) (offset / 2) over within)
          | inr under ↦ elim closure.why [
            | inl root ↦ absurd (omega (arith, root, under))
            | inr any ↦ inr (any_under-more (held m) set stays (suc depth) (offset / 2) any)
          ]
        ]
      ];
    }) in
    rw test refl

module _ (m : Content) (more : List (List ℕ)) (signature : List ℕ) (sound : IsSound m) (sound_after : IsSound (append_content more signature m))
    (few : m.length + length more ≤ MAX_BLOCKS) (nodes records : List Node)
    (are : AreNodes (joined (with_blocks m.length m.node more)) (made_with m.length (length more)) nodes)
    (same : (depth offset : ℕ) → values_in records depth offset ≡ values_in nodes depth offset) where
  abbrev value : Values
  value = joined (with_blocks m.length m.node more)

  abbrev after : Content
  after = append_content more signature m

  -- a node of the batch has the joined value
  has_value : (depth offset : ℕ) (twig : Twig) → values_in nodes depth offset ≡ Some twig → value depth offset ≡ Some twig
  has_value depth offset twig is =
      let kept = put_keeps (made_with m.length (length more)) nodes value value depth offset are refl in
      sym kept ∙ put_over nodes value depth offset ∙ ap (λ (v : Option Twig). or_value v (value depth offset)) is

  -- a node past the old end is stored with the joined value
  past_value : (depth offset : ℕ) → m.length < end_block_of depth offset → end_block_of depth offset ≤ m.length + length more
      → after.node depth offset ≡ value depth offset
  past_value depth offset past within =
      let test : in_closure (m.length + length more) (holds (blocks_with m.length more m.block)) depth offset ≡ true =
      full_closed m more depth offset past ∙ within_true (m.length + length more) depth offset within in
      rw test refl

  -- a node that has to be written is among the batch's
  new_value : (depth offset : ℕ) → is_new m after depth offset ≡ true → values_in records depth offset ≡ after.node depth offset
  new_value depth offset new =
      let full = and_parts (is_within (m.length + length more) depth offset) (not (is_within m.length depth offset))
      (sym (append_new m more signature sound sound_after depth offset) ∙ new) in
      let within = true_within (m.length + length more) depth offset full.0 in
      let past = true_not_within m.length depth offset full.1 in
      same depth offset
      ∙ put_has (made_with m.length (length more)) nodes value (λ d o. None) depth offset are (made_with-has m.length (length more) depth offset few past within)
      ∙ sym (past_value depth offset past within)

  -- and a node of the batch is stored
  stored_value_is : (depth offset : ℕ) (twig : Twig) → values_in records depth offset ≡ Some twig → after.node depth offset ≡ Some twig
  stored_value_is depth offset twig is =
      let known = has_value depth offset twig (sym (same depth offset) ∙ is) in
      elim (cases_lt (m.length + length more) (end_block_of depth offset)) [
        | inl past ↦ let clash : None ≡ Some twig = sym (joined_past m.length m.node more depth offset past) ∙ known in cc
        | inr within ↦ elim (cases_lt m.length (end_block_of depth offset)) [
          | inl past ↦ past_value depth offset past within ∙ known
          | inr before ↦
              let old = before_value m more sound depth offset before in
              before_stored m more signature sound depth offset before (sym old ∙ known) ∙ known
        ]
      ]

  pub append_entry : Rise 0 records → IsEntryOf m (Append (length more)) after (entry_with (Append (length more)) after records)
  append_entry order = record { commit_is = refl; head_is = refl; order = order; stored = stored_value_is; new = new_value }
