-- A truncation and a clearing that are decided over a view are planned.
use Rattle.std.proofs.Common.{◌≡◌, ℕ, Bool, true, false, ◌≤◌, inl, inr, List, length, None, sym, ap, subst, ◌∙◌, arith}
use Rattle.std.specs.Prelude.{IsTrue, is_some}
use Rattle.std.specs.List.{AllByRecursion}
use Rattle.flat_tree.specs.Roots.{full_roots_of}
use Rattle.flat_tree.specs.declared.limits.TheConstants.{MAX_FRESH_NODES}
use Rattle.flat_tree.proofs.RootLemmas.{tile-full}
use Rattle.commit_book.specs.declared.commit.Commit.TheVariants.{Truncate}
use Rattle.merkle_nodes.specs.declared.node.Node.{Node}
use Rattle.merkle_nodes.specs.declared.roots.Head.{Head}
use Rattle.merkle_nodes.specs.Roots.{root_hash_of, signed_text}
use Rattle.merkle_nodes.proofs.JoinedValues.{EndBy-tile}
use Rattle.oplog_form.specs.Entries.{EntryFits}
use Rattle.oplog_form.specs.Nodes.{Rise}
use Rattle.node_set.specs.Contents.{Content, roots, roots_at}
use Rattle.node_set.specs.Changes.{truncate_content, blocks_below, IsSigned}
use Rattle.node_set.specs.Views.{ViewState, IsUsable}
use Rattle.node_set.specs.Whole.{IsWhole}
use Rattle.node_set.proofs.KeepsWhole.{truncate_sound}
use Rattle.node_set.proofs.SoundLemmas.{roots_on}
use Rattle.core_forks.specs.Refusals.{truncate_refusal, clear_refusal}
use Rattle.core_forks.specs.Truncations.{fresh_roots, AreRoots, IsClearing}
use Rattle.node_set.specs.declared.change.Change.{Change}
use Rattle.core_state.proofs.CutLemmas.{TruncatePasses, truncate_passes, roots_stored}
use Rattle.core_state.proofs.ClearLemmas.{clear_passes}
use Rattle.core_state.proofs.HistoryLemmas.{truncate_history, clear_history}
use Rattle.core_disk.specs.Written.{IsEntryOf, entry_with}
use Rattle.core_disk.specs.Plans.{Plans, IsSignedPlan, IsClearPlan}
use Rattle.core_disk.specs.Planning.{IsHeadOver, HasHash}
use Rattle.core_disk.proofs.AppendPlan.{numbers_fit, records_fit}
use Rattle.core_disk.proofs.ChangePlans.{truncate_plans, clear_plans}
use Rattle.core_disk.proofs.RootRecords.{roots_rise, rise_filter, all_filter, truncate_entry}

-- ---- a truncation

module _ (accepts : List ℕ → List ℕ → Bool) (v : ViewState) (to fork : ℕ) (nodes records : List Node) (head : Head) (usable : IsUsable v.content)
    (none : truncate_refusal v.content to fork ≡ None) (are : AreRoots v to nodes) (records_are : records ≡ fresh_roots (roots v.content) nodes)
    (few : length records ≤ MAX_FRESH_NODES) (hashes : AllByRecursion HasHash records) (over : IsHeadOver accepts nodes fork to head) where
  abbrev m : Content
  m = v.content

  abbrev after : Content
  after = truncate_content to fork head.signature m

  passes : TruncatePasses m to fork
  passes = truncate_passes m to fork none

  fits : EntryFits (entry_with (Truncate to fork) after records)
  fits =
      let numbers = numbers_fit (full_roots_of to) nodes to are.shape (EndBy-tile (full_roots_of to) 0 to (tile-full to))
      (omega (arith, passes.short, usable.blocks)) in
      let some = λ (P : Node → Type 0) (all : AllByRecursion P nodes). subst (AllByRecursion P) (sym records_are) (all_filter P _ nodes all) in
      record {
        commit = (omega (arith, passes.short, usable.blocks), omega (arith, passes.fits));
        head = record { fork = passes.fits; few = omega (arith, passes.short, usable.blocks); signature = over.wide };
        records = records_fit records (some _ numbers) (some _ are.sizes) hashes;
        order = subst (Rise 0) (sym records_are) (rise_filter _ nodes 0 (roots_rise nodes to are.shape));
      }

  module _ (stands : IsTrue v.stands) (whole : IsWhole accepts m) where
    signed : IsSigned accepts after
    signed = record {
      signature = over.wide;
      accepted = subst (λ (ns : List Node). IsTrue (accepts (signed_text (root_hash_of ns) to fork) head.signature))
          (are.stored stands ∙ sym (roots_on to (blocks_below to m.block) m.node)) over.accepted;
    }

    plans : Plans accepts m (Truncate to fork) after (entry_with (Truncate to fork) after records) None
    plans =
        let stored = roots_stored m to whole.sound passes.stored in
        let sound_after = truncate_sound m to fork head.signature whole.sound passes.short stored in
        let same : records ≡ fresh_roots (roots m) (roots_at m.node to) = records_are ∙ ap (fresh_roots (roots m)) (are.stored stands) in
        let entry = truncate_entry m to fork head.signature sound_after stored (subst (Rise 0) same fits.order) in
        truncate_plans accepts m to fork head.signature (entry_with (Truncate to fork) after records) whole none signed
        (subst (λ (ns : List Node). IsEntryOf m (Truncate to fork) after (entry_with (Truncate to fork) after ns)) (sym same) entry) fits

  pub truncate_planned : IsSignedPlan accepts v (Truncate to fork) (λ (signature : List ℕ). truncate_content to fork signature v.content) None records head
  truncate_planned = record {
    head_is =
        ap (λ (f : ℕ). record { fork = f; length = head.length; signature = head.signature }) over.fork_is
        ∙ ap (λ (n : ℕ). record { fork = fork; length = n; signature = head.signature }) over.length_is;
    planned = record {
      fits = fits;
      few = omega (arith, few);
      legal = truncate_history m to fork head.signature passes.short passes.greater passes.fits;
      plans = plans;
    };
    signed = signed;
  }

-- ---- a clearing

module _ (v : ViewState) (from to : ℕ) (change : Change) (usable : IsUsable v.content) (wide : length v.content.signature ≡ 64)
    (none : clear_refusal v.content from to ≡ None) (is : IsClearing v.content from to change) where
  pub clear_planned : (some : Bool) → some ≡ is_some change.commit → IsClearPlan v from to some
  clear_planned true here = elim is.commit [
    | inr (gone, no_commit) ↦ let clash : true ≡ false = here ∙ ap is_some no_commit in cc
    | inl (holds, commit_is) ↦ λ accepts.
        let passes = clear_passes v.content from to none in
        record {
          fits = record {
            commit = (omega (arith, passes.0, passes.1, usable.blocks), omega (arith, passes.1, usable.blocks));
            head = record { fork = usable.fork; few = usable.blocks; signature = wide };
            records = tt;
            order = tt;
          };
          few = omega arith;
          legal = clear_history v.content from to passes.0 passes.1 holds;
          plans = λ stands whole. clear_plans accepts v.content from to whole passes.0 passes.1 holds;
        }
  ]
  clear_planned false here = elim is.commit [
    | inl (holds, commit_is) ↦ let clash : false ≡ true = here ∙ ap is_some commit_is in cc
    | inr (gone, no_commit) ↦ gone
  ]
