-- Each change that isn't refused goes to the disk as planned.
use Rattle.std.proofs.Common.{◌≡◌, ℕ, Bool, true, false, ◌<◌, ◌≤◌, inl, inr, List, [], length, take, drop, Option, Some, None, refl, sym, ap, subst, ◌∙◌, arith}
use Rattle.std.specs.Prelude.{is_some}
use Rattle.std.specs.List.{concat}
use Rattle.std.proofs.lemmas.Bool.{cases_Bool, eq-eqb}
use Rattle.disk_trait.specs.Disk.{overlay, Torn}
use Rattle.commit_book.specs.declared.commit.Commit.{Commit}
use Rattle.commit_book.specs.declared.commit.Commit.TheVariants.{Append, Truncate, Clear}
use Rattle.commit_book.specs.History.{HoldsSome}
use Rattle.oplog_form.specs.declared.entry.Entry.{Entry}
use Rattle.oplog_form.specs.Entries.{EntryFits}
use Rattle.proof_form.specs.declared.proof.UpgradePart.{UpgradePart}
use Rattle.proof_form.specs.Proofs.{Proof, Block, ProofFits}
use Rattle.node_set.specs.Contents.{Content, held, summary_of}
use Rattle.node_set.specs.Legal.{KeepsHistory}
use Rattle.node_set.specs.Nodes.{with_nodes}
use Rattle.node_set.specs.Offsets.{offset_of}
use Rattle.node_set.specs.Whole.{IsSound, KeepsLimits, IsWhole}
use Rattle.node_set.specs.Paths.{path_values}
use Rattle.merkle_nodes.specs.Tree.{leaf_of}
use Rattle.node_set.specs.Changes.{append_content, truncate_content, clear_content, fetch_content, AppendFits, IsSigned}
use Rattle.node_set.proofs.AppendLemmas.{append_whole}
use Rattle.node_set.proofs.KeepsWhole.{truncate_whole, clear_whole}
use Rattle.node_set.proofs.Stored.{some_of}
use Rattle.core_forks.specs.Refusals.{truncate_refusal}
use Rattle.proof_check.specs.Upgraded.{with_upgrade}
use Rattle.proof_check.specs.Parts.{part_of_block, levels_up}
use Rattle.proof_check.specs.Judge.{refusal_of, fetched, admitted, commit_of}
use Rattle.proof_check.proofs.AdmitWhole.{IsUnrefused, unrefused, goes_on, upgraded_whole, admitted_whole}
use Rattle.proof_check.proofs.AdmitHistory.{admit_history}
use Rattle.core_state.proofs.CutLemmas.{truncate_passes, roots_stored}
use Rattle.core_state.proofs.HistoryLemmas.{append_history, truncate_history, clear_history}
use Rattle.core_disk.specs.Standing.{HasBlocks}
use Rattle.core_disk.specs.Written.{IsEntryOf, entry_with}
use Rattle.core_disk.specs.Plans.{Part, Plans, TornBy, laid, behind, brought_by}
use Rattle.core_disk.proofs.NewNodes.{exact_entry, clear_new}
use Rattle.core_disk.proofs.BlocksStay.{StaysHeld, blocks_stay, truncate_stays, clear_stays, upgrade_stays, append_torn, fetch_torn, fetch_has}
use Rattle.core_disk.proofs.AppendedBlocks.{append_has}

-- a held block of a sound content is below the length
pub sound_below : (m : Content) → IsSound m → (index : ℕ) → held m index ≡ true → index < m.length
sound_below m sound index here = let block = some_of (m.block index) here in sound.blocks.below index block.0 block.1

-- ---- an append

pub append_plans : (accepts : List ℕ → List ℕ → Bool) (m : Content) (more : List (List ℕ)) (signature : List ℕ) (e : Entry) → IsWhole accepts m
    → 1 ≤ length more
    → AppendFits more m → IsSigned accepts (append_content more signature m) → IsEntryOf m (Append (length more)) (append_content more signature m) e
    → EntryFits e
    → Plans accepts m (Append (length more)) (append_content more signature m) e (Some (behind more m))
append_plans accepts m more signature e whole some fits signed entry entry_fits =
    let after = append_whole accepts m more signature whole.sound whole.limits.fork fits signed in
    record {
      whole = after;
      legal = append_history m more signature (sound_below m whole.sound) some fits.blocks;
      is_entry = entry;
      fits = entry_fits;
      torn = λ area now has torn. append_torn m (length (concat more)) area now whole.sound has torn;
      written = λ area has. append_has m more signature whole.sound after.sound area has;
    }

-- ---- what comes without bytes

-- no block comes in: the held blocks stay where they are
module _ (accepts : List ℕ → List ℕ → Bool) (m : Content) (commit : Commit) (after : Content) (e : Entry) (whole : IsWhole accepts after)
    (legal : KeepsHistory m after (Some commit)) (entry : IsEntryOf m commit after e) (fits : EntryFits e) (stays : StaysHeld m after) where
  still_plans : Plans accepts m commit after e None
  still_plans = record {
    whole = whole;
    legal = legal;
    is_entry = entry;
    fits = fits;
    torn = λ area now has same. subst (λ (a : List ℕ). HasBlocks a m) (sym same) has;
    written = λ area has. blocks_stay area m after stays has;
  }

pub truncate_plans : (accepts : List ℕ → List ℕ → Bool) (m : Content) (to fork : ℕ) (signature : List ℕ) (e : Entry) → IsWhole accepts m
    → truncate_refusal m to fork ≡ None → IsSigned accepts (truncate_content to fork signature m)
    → IsEntryOf m (Truncate to fork) (truncate_content to fork signature m) e → EntryFits e
    → Plans accepts m (Truncate to fork) (truncate_content to fork signature m) e None
truncate_plans accepts m to fork signature e whole none signed entry entry_fits =
    let passes = truncate_passes m to fork none in
    let after = truncate_whole accepts m to fork signature whole passes.short passes.fits (roots_stored m to whole.sound passes.stored) signed in
    still_plans accepts m (Truncate to fork) (truncate_content to fork signature m) e after
    (truncate_history m to fork signature passes.short passes.greater passes.fits) entry entry_fits (truncate_stays m to fork signature whole.sound)

pub clear_fits : (m : Content) (from to : ℕ) → KeepsLimits m → from ≤ to → to ≤ m.length → EntryFits (entry_with (Clear from to) (clear_content from to m) [])
clear_fits m from to limits ordered within = record {
  commit = (omega (arith, ordered, within, limits.blocks), omega (arith, within, limits.blocks));
  head = record { fork = limits.fork; few = limits.blocks; signature = limits.signature };
  records = tt;
  order = tt;
}

pub clear_plans : (accepts : List ℕ → List ℕ → Bool) (m : Content) (from to : ℕ) → IsWhole accepts m → from ≤ to → to ≤ m.length
    → HoldsSome from to (summary_of m)
    → Plans accepts m (Clear from to) (clear_content from to m) (entry_with (Clear from to) (clear_content from to m) []) None
unfolding with_nodes
clear_plans accepts m from to whole ordered within some =
    let after = clear_content from to m in
    let whole_after = clear_whole accepts m from to whole in
    let entry = exact_entry m (Clear from to) after [] tt (λ depth offset. sym (rw (clear_new m from to whole_after.sound depth offset) refl)) in
    still_plans accepts m (Clear from to) after (entry_with (Clear from to) after []) whole_after (clear_history m from to ordered within some) entry
    (clear_fits m from to whole.limits ordered within) (clear_stays m from to whole.sound)

-- ---- an admission

module _ (accepts : List ℕ → List ℕ → Bool) (p : Proof) (m : Content) (whole : IsWhole accepts m) (fits : ProofFits p)
    (no_greater : p.fork ≤ m.fork) (none : refusal_of accepts p m ≡ None) where
  abbrev longer : Content
  longer = with_upgrade p m

  open_ : IsUnrefused accepts p m
  open_ = unrefused accepts p m none

  sound_longer : IsSound longer
  sound_longer = (upgraded_whole accepts p m whole fits no_greater open_).sound

  whole_after : IsWhole accepts (admitted p m)
  whole_after = admitted_whole accepts p m whole fits no_greater none

  -- the upgrade brings no block
  longer_block : (index : ℕ) → longer.block index ≡ m.block index
  longer_block index = ByUpgrade p.upgrade refl
    where
      ByUpgrade : (upgrade : Option UpgradePart) → p.upgrade ≡ upgrade → longer.block index ≡ m.block index
      ByUpgrade None up = let same : longer ≡ m = rw up refl in ap (λ (c : Content). c.block index) same
      ByUpgrade (Some u) up = ap (λ (c : Content). c.block index) (goes_on p m u up no_greater open_.limit open_.head).after

  -- and leaves those that are held where they are
  longer_stays : StaysHeld m longer
  longer_stays = ByUpgrade p.upgrade refl
    where
      ByUpgrade : (upgrade : Option UpgradePart) → p.upgrade ≡ upgrade → StaysHeld m longer
      ByUpgrade None up = let same : longer ≡ m = rw up refl in subst (StaysHeld m) (sym same) (λ index bytes there. (there, refl))
      ByUpgrade (Some u) up =
          let on = goes_on p m u up no_greater open_.limit open_.head in
          subst (StaysHeld m) (sym on.after) (upgrade_stays m u.length u.nodes u.signature whole.sound (omega (arith, on.longer)))

  -- the block of the proof is held after it
  pub comes_in : (b : Block) → p.block ≡ Some b → held (admitted p m) b.index ≡ true
  comes_in b is = elim (cases_Bool (held longer b.index)) [
    | inl here ↦ let same : admitted p m ≡ longer = rw (is, here) refl in ap (λ (c : Content). held c b.index) same ∙ here
    | inr new ↦
        let same : admitted p m ≡ fetched b longer = rw (is, new) refl in
        let own : held (fetched b longer) b.index ≡ true = rw (eq-eqb b.index b.index refl) refl in
        ap (λ (c : Content). held c b.index) same ∙ own
  ]

  -- what is written leads to the content after it
  abbrev Leads : Option Part → Type 0
  Leads part =
      ((area now : List ℕ) → HasBlocks area m → TornBy part area now → HasBlocks now m)
      × ((area : List ℕ) → HasBlocks area m → HasBlocks (laid part area) (admitted p m))

  -- no block comes in
  none_leads : admitted p m ≡ longer → Leads None
  none_leads same = (
    λ area now has still. subst (λ (a : List ℕ). HasBlocks a m) (sym still) has,
    λ area has. subst (HasBlocks area) (sym same) (blocks_stay area m longer longer_stays has),
  )

  -- the block stands at its offset
  own_leads : (b : Block) → p.block ≡ Some b → held m b.index ≡ false → Leads (Some (record { at = offset_of (admitted p m) b.index; bytes = b.bytes }))
  own_leads b is new =
      let path = path_values b.index (leaf_of b.bytes) b.trail (levels_up longer (part_of_block b)) in
      let unheld : held longer b.index ≡ false = ap is_some (longer_block b.index) ∙ new in
      let after_is : admitted p m ≡ fetch_content b.index b.bytes path longer = rw (is, unheld) refl in
      let sound_after = subst IsSound after_is whole_after.sound in
      let at_is = ap (λ (c : Content). offset_of c b.index) after_is in (
        λ area now has torn other bytes there.
            let there_now = longer_block other ∙ there in
            let cut = subst (λ (at : ℕ). Torn at (length b.bytes) area now) at_is torn in
            let left = fetch_torn longer b.index b.bytes path sound_longer sound_after area now unheld (blocks_stay area m longer longer_stays has) cut in
            sym (ap (λ (at : ℕ). take (length bytes) (drop at now)) (longer_stays other bytes there_now).1) ∙ left other bytes there_now,
        λ area has.
            let stands = fetch_has longer b.index b.bytes path sound_longer sound_after area (blocks_stay area m longer longer_stays has) in
            subst (HasBlocks (overlay (offset_of (admitted p m) b.index) b.bytes area)) (sym after_is)
            (subst (λ (at : ℕ). HasBlocks (overlay at b.bytes area) (fetch_content b.index b.bytes path longer)) (sym at_is) stands),
      )

  leads : Leads (brought_by p m)
  leads = ByBlock p.block refl
    where
      ByBlock : (block : Option Block) → p.block ≡ block → Leads (brought_by p m)
      ByBlock None is =
          let nothing : brought_by p m ≡ None = rw is refl in
          let same : admitted p m ≡ longer = rw is refl in
          subst Leads (sym nothing) (none_leads same)
      ByBlock (Some b) is = elim (cases_Bool (held m b.index)) [
        | inl here ↦
            let nothing : brought_by p m ≡ None = rw (is, here) refl in
            let held_now : held longer b.index ≡ true = ap is_some (longer_block b.index) ∙ here in
            let same : admitted p m ≡ longer = rw (is, held_now) refl in
            subst Leads (sym nothing) (none_leads same)
        | inr new ↦
            let own : brought_by p m ≡ Some (record { at = offset_of (admitted p m) b.index; bytes = b.bytes }) = rw (is, new) refl in
            subst Leads (sym own) (own_leads b is new)
      ]

  pub admit_plans : (commit : Commit) (e : Entry) → commit_of p m ≡ Some commit → IsEntryOf m commit (admitted p m) e → EntryFits e
      → Plans accepts m commit (admitted p m) e (brought_by p m)
  admit_plans commit e told entry entry_fits = record {
    whole = whole_after;
    legal = subst (λ (c : Option Commit). KeepsHistory m (admitted p m) c) told (admit_history accepts p m whole fits no_greater none);
    is_entry = entry;
    fits = entry_fits;
    torn = leads.0;
    written = leads.1;
  }
