-- The calls of a core over a disk.
use Rattle.std.proofs.Common.{◌≡◌, ◌⊎◌, inl, inr, ℕ, Bool, true, ◌≤◌, List, Option, Some, None, Result, Ok, Err, refl, sym, ap, subst, ◌∙◌, arith}
use Rattle.std.specs.Prelude.{IsTrue, IfErr, OnOk, ◌&&◌}
use Rattle.std.proofs.lemmas.Bool.{and_parts, cases_Bool}
use Rattle.outside_traits.specs.Faults.{Rose}
use Rattle.flat_tree.specs.declared.limits.TheConstants.{MAX_BLOCKS}
use Rattle.disk_trait.specs.Disk.{DiskView}
use Rattle.commit_book.specs.declared.commit.Commit.{Commit}
use Rattle.commit_book.specs.History.{Summary, entry_of, KeepsRoot}
use Rattle.merkle_nodes.specs.Roots.{root_hash_of}
use Rattle.oplog_form.specs.declared.entry.Entry.{Entry}
use Rattle.node_set.specs.declared.fault.CoreFault.{CoreFault}
use Rattle.node_set.specs.declared.fault.CoreFault.TheVariants.{Broken, Memory, Limit, StoreFault, BadStore}
use Rattle.node_set.specs.declared.fault.Receipt.{Receipt}
use Rattle.node_set.specs.Contents.{Content, summary_of}
use Rattle.node_set.specs.Walks.{KeepsView}
use Rattle.node_set.specs.Whole.{IsWhole}
use Rattle.core_state.specs.Events.{Event, Reply}
use Rattle.core_state.specs.Events.Event.{Head, Append, Truncate, Clear, Admit, Make, Get, Need, Page}
use Rattle.core_state.specs.Events.Reply.{Done}
use Rattle.core_state.specs.States.{CoreState}
use Rattle.core_state.specs.Next.{Next}
use Rattle.core_state.specs.Calls.{Acts, Fails, IsSafe, IsOwnFault, IsChangeFault, KeepsHistory, is_change, commit_in, fault_in}
use Rattle.merkle_nodes.specs.declared.node.Node.{Node}
use Rattle.merkle_nodes.specs.declared.limit.What.{What}
use Rattle.merkle_nodes.specs.declared.limit.What.TheVariants.{Oplog as EntriesBytes}
use Rattle.core_state.specs.States.{receipt_of}
use Rattle.disk_trait.specs.declared.disk.Area.TheVariants.{Blocks as BlocksArea}
use Rattle.oplog_file.specs.Storing.{Calls}
use Rattle.core_disk.specs.Committing.{IsFit, IsCommitFault, TakesIn, Tells}
use Rattle.core_disk.specs.Opened.{Opened, short_of, entry_after}
use Rattle.core_disk.specs.Standing.{HasBlocks, IsOpenedAs}
use Rattle.core_disk.specs.InHand.{InHand, IsKept, Agrees, opened_of}
use Rattle.core_disk.specs.Laid.{IsRooted, content_in}
use Rattle.core_disk.specs.Plans.{Part, laid, TornBy, Plans}
use Rattle.core_disk.specs.Stored.{blocks_area, content_of, is_standing, stored_view}
use Rattle.core_disk.specs.Cored.{core_state}
use Rattle.core_disk.specs.Testing.{is_kept, is_whole, has_blocks, IsBounded}
use Rattle.core_disk.proofs.Testing.{told_kept, whole_told, told_whole, has_told, told_has}
use Rattle.core_disk.proofs.LaidLemmas.{bounded_in, content_is, opened_in, summary_in, agrees_content, followed_keeps, planned_content}
use Rattle.core_disk.proofs.EntryGives.{short_is, entry_gives, entry_follows}
use Rattle.core_disk.proofs.FollowLaws.{both, follows_test}

-- the core stands, in words
pub record Stands (accepts : List ℕ → List ℕ → Bool) (disk : DiskView) (hand : InHand) : Type 0 where
  pub honest : disk.honest ≡ true
  pub whole : IsWhole accepts (content_of disk hand)
  pub blocks : HasBlocks (blocks_area disk) (content_of disk hand)

pub bounded : (disk : DiskView) (hand : InHand) → IsKept hand → IsBounded (content_of disk hand)
bounded disk hand kept = bounded_in (blocks_area disk) (opened_of hand) kept.spare

pub stands_told : (accepts : List ℕ → List ℕ → Bool) (disk : DiskView) (hand : InHand) (broken : Option ℕ) → IsBounded (content_of disk hand)
    → IsTrue (core_state accepts disk hand broken).stands → Stands accepts disk hand
stands_told accepts disk hand broken within stands =
    let m = content_of disk hand in
    let parted = and_parts disk.honest (is_whole accepts m && has_blocks (blocks_area disk) m) stands in
    let parts = and_parts (is_whole accepts m) (has_blocks (blocks_area disk) m) parted.1 in
    record { honest = parted.0; whole = whole_told accepts m within parts.0; blocks = has_told (blocks_area disk) m within parts.1 }

pub told_stands : (accepts : List ℕ → List ℕ → Bool) (disk : DiskView) (hand : InHand) (broken : Option ℕ)
    → Stands accepts disk hand → IsTrue (core_state accepts disk hand broken).stands
told_stands accepts disk hand broken is =
    let m = content_of disk hand in
    both disk.honest (is_whole accepts m && has_blocks (blocks_area disk) m) is.honest
    (both (is_whole accepts m) (has_blocks (blocks_area disk) m) (told_whole accepts m is.whole) (told_has (blocks_area disk) m is.blocks))

-- where the core stands the view of its disk does
pub standing : (accepts : List ℕ → List ℕ → Bool) (disk : DiskView) (hand : InHand) → Stands accepts disk hand → IsTrue (is_standing disk hand)
standing accepts disk hand is =
    let m = content_of disk hand in
    both disk.honest (is_kept m && has_blocks (blocks_area disk) m) is.honest
    (both (is_kept m) (has_blocks (blocks_area disk) m) (told_kept m is.whole.sound is.whole.limits) (told_has (blocks_area disk) m is.blocks))

-- ---- reads

-- a broken core tells so
pub broken_acts : (accepts : List ℕ → List ℕ → Bool) (disk : DiskView) (hand : InHand) (count : ℕ) (event : Event) (reply : Reply) → IsKept hand
    → fault_in reply ≡ Some (Broken count) → commit_in reply ≡ None → IsSafe (content_of disk hand) event reply
    → ((new : CoreState) → IsOwnFault true (core_state accepts disk hand (Some count)) event new (Broken count))
    → Acts true (core_state accepts disk hand (Some count)) event (core_state accepts disk hand (Some count)) reply
broken_acts accepts disk hand count event reply kept told none safe own = record {
  accepts = refl;
  fills = refl;
  faults = omega arith;
  breaks = inl refl;
  next = λ stands. inr (record { fault = Broken count; answered = told; own = own _; content = refl });
  stands = λ stands unbroken. cc;
  whole = λ stands. (stands_told accepts disk hand (Some count) (bounded disk hand kept) stands).whole;
  history = rw none refl;
  safe = safe;
  broken = λ other is. let same : count ≡ other = cc in (is, refl, none, λ asks. told ∙ ap (λ (n : ℕ). Some (Broken n)) same);
}

-- a call that only reads
pub read_acts : (accepts : List ℕ → List ℕ → Bool) (old new : DiskView) (hand after : InHand) (a b : ℕ) (l k : Option CoreFault) (event : Event) (reply : Reply)
    → IsKept hand → KeepsView (stored_view old hand a l) (stored_view new after b k) → commit_in reply ≡ None
    → (IsTrue (is_standing old hand) → Next accepts (content_of old hand) event (content_of old hand) reply
    ⊎ Fails true (core_state accepts old hand None) event (core_state accepts new after None) reply)
    → IsSafe (content_of old hand) event reply
    → Acts true (core_state accepts old hand None) event (core_state accepts new after None) reply
read_acts accepts old new hand after a b l k event reply kept keeps none next safe =
    let same = keeps.keeps.content in
    let m = content_of old hand in
    record {
      accepts = refl;
      fills = refl;
      faults = keeps.faults;
      breaks = inl refl;
      next = λ stands.
          let is = stands_told accepts old hand None (bounded old hand kept) stands in
          elim (next (standing accepts old hand is)) [
            | inl follows ↦ inl (subst (λ (c : Content). Next accepts m event c reply) (sym same) follows)
            | inr fails ↦ inr fails
          ];
      stands = λ stands unbroken. inl (told_stands accepts new after None (stay (stands_told accepts old hand None (bounded old hand kept) stands)));
      whole = λ stands. (stands_told accepts new after None within stands).whole;
      history = rw none (ap summary_of same);
      safe = safe;
      broken = λ count is. cc;
    }
  where
    within : IsBounded (content_of new after)
    within = subst IsBounded (sym keeps.keeps.content) (bounded old hand kept)

    stay : Stands accepts old hand → Stands accepts new after
    stay is =
        let here : IsTrue (is_standing new after) = keeps.keeps.stands ∙ standing accepts old hand is in
        let parted = and_parts new.honest (is_kept (content_of new after) && has_blocks (blocks_area new) (content_of new after)) here in
        let parts = and_parts (is_kept (content_of new after)) (has_blocks (blocks_area new) (content_of new after)) parted.1 in
        record {
          honest = parted.0;
          whole = subst (IsWhole accepts) (sym keeps.keeps.content) is.whole;
          blocks = has_told (blocks_area new) (content_of new after) within parts.1;
        }

-- ---- changes

-- only a change may find no memory
may_change : (old new : CoreState) (event : Event) → IsOwnFault true old event new Memory → IsTrue (is_change event)
may_change old new Head own = absurd own
may_change old new (Append more) own = refl
may_change old new (Truncate to fork) own = refl
may_change old new (Clear from to) own = refl
may_change old new (Admit p) own = refl
may_change old new (Make request) own = absurd own
may_change old new (Get index) own = absurd own
may_change old new (Need index) own = absurd own
may_change old new (Page number) own = absurd own

-- A change failed: what is in memory is as it was, and each held block is where it was.
pub fails_acts : (accepts : List ℕ → List ℕ → Bool) (old new : DiskView) (hand after : InHand) (now : Option ℕ) (event : Event) (fault : CoreFault)
    → IsKept hand → IsRooted (opened_of hand) → Agrees (opened_of after) (opened_of hand)
    → new.honest ≡ old.honest → old.faults ≤ new.faults → ((now ≡ None) ⊎ (IsTrue (is_change event) × Rose old.faults new.faults))
    → (Stands accepts old hand → HasBlocks (blocks_area new) (content_of old hand))
    → IsOwnFault true (core_state accepts old hand None) event (core_state accepts new after now) fault
    → IsSafe (content_of old hand) event (Done (Err fault))
    → Acts true (core_state accepts old hand None) event (core_state accepts new after now) (Done (Err fault))
fails_acts accepts old new hand after now event fault kept rooted agrees honest faults breaks blocks own safe = record {
  accepts = refl;
  fills = refl;
  faults = faults;
  breaks = breaks;
  next = λ stands. inr (record { fault = fault; answered = refl; own = own; content = same (stands_told accepts old hand None (bounded old hand kept) stands) });
  stands = λ stands unbroken. inl (told_stands accepts new after now (stay (stands_told accepts old hand None (bounded old hand kept) stands)));
  whole = λ stands. (stands_told accepts new after now within stands).whole;
  history = ap summary_of (agrees_content (opened_of after) (opened_of hand) agrees kept.blocks (blocks_area new))
      ∙ summary_in (blocks_area new) (opened_of hand) rooted ∙ sym (summary_in (blocks_area old) (opened_of hand) rooted);
  safe = safe;
  broken = λ count is. cc;
}
  where
    within : IsBounded (content_of new after)
    within =
        subst IsBounded (sym (agrees_content (opened_of after) (opened_of hand) agrees kept.blocks (blocks_area new)))
        (bounded_in (blocks_area new) (opened_of hand) kept.spare)

    same : Stands accepts old hand → content_of new after ≡ content_of old hand
    same is =
        agrees_content (opened_of after) (opened_of hand) agrees kept.blocks (blocks_area new)
        ∙ content_is (blocks_area new) (opened_of hand) (content_of old hand) (opened_in (blocks_area old) (opened_of hand) rooted) is.whole.sound (blocks is)

    stay : Stands accepts old hand → Stands accepts new after
    stay is = record {
      honest = honest ∙ is.honest;
      whole = subst (IsWhole accepts) (sym (same is)) is.whole;
      blocks = subst (HasBlocks (blocks_area new)) (sym (same is)) (blocks is);
    }

-- a change of a core that stands is planned: the content after it, which follows the event, and an entry that is fit
pub record Plan (accepts : List ℕ → List ℕ → Bool) (m : Content) (o : Opened) (event : Event) (e : Entry) (part : Option Part) : Type 0 where
  pub commit : Commit
  pub after : Content
  pub plans : Plans accepts m commit after e part
  pub next : Next accepts m event after (Done (Ok (receipt_of after (Some commit))))

-- The entry of a change is written, and what is in memory is what it gives: of every core a legal step of its history, and of one that
-- stands what follows its event.
module _ (accepts : List ℕ → List ℕ → Bool) (old new : DiskView) (hand after : InHand) (e : Entry) (event : Event) (part : Option Part) (kept : IsKept hand)
    (rooted : IsRooted (opened_of hand)) (plan : Stands accepts old hand → Plan accepts (content_of old hand) (opened_of hand) event e part) where
  -- what was opened is the content's
  opened : IsOpenedAs (opened_of hand) (content_of old hand)
  opened = opened_in (blocks_area old) (opened_of hand) rooted

  -- its entry is fit
  pub fit_of : Stands accepts old hand → IsFit e (opened_of hand)
  fit_of is =
      let p = plan is in
      let m = content_of old hand in
      let o = opened_of hand in
      let gives = entry_gives o m opened is.whole.sound p.commit p.after p.plans.legal p.plans.whole.sound e p.plans.is_entry in
      record {
        follow = follows_test o e (entry_follows o m opened is.whole.sound p.commit p.after p.plans.legal p.plans.whole.sound e p.plans.is_entry);
        same_root = subst (λ (c : Commit). KeepsRoot (entry_of c (root_hash_of (entry_after o e).roots)) (short_of o)) (sym p.plans.is_entry.commit_is)
            (subst (λ (s : Summary). KeepsRoot (entry_of p.commit (root_hash_of (entry_after o e).roots)) s) (sym (short_is o m opened))
            (subst (λ (ns : List Node). KeepsRoot (entry_of p.commit (root_hash_of ns)) (summary_of m)) (sym gives.roots_are) p.plans.legal.0.1));
      }

  module _ (kept_after : IsKept after) (few : e.head.length ≤ MAX_BLOCKS) (fit : IsFit e (opened_of hand))
      (agrees : Agrees (opened_of after) (entry_after (opened_of hand) e)) (honest : new.honest ≡ old.honest) (faults : old.faults ≤ new.faults)
      (laid_is : IsTrue old.honest → new.reads BlocksArea ≡ laid part (old.reads BlocksArea)) where
    within : IsBounded (content_of new after)
    within = bounded new after kept_after

    area_is : old.honest ≡ true → blocks_area new ≡ laid part (blocks_area old)
    area_is is = rw (honest, is) (laid_is is)

    pub comes : (is : Stands accepts old hand) → content_of new after ≡ (plan is).after
    comes is =
        let p = plan is in
        let o = opened_of hand in
        agrees_content (opened_of after) (entry_after o e) agrees few (blocks_area new)
        ∙ ap (λ (area : List ℕ). content_in area (entry_after o e)) (area_is is.honest)
        ∙ planned_content accepts (blocks_area old) o (content_of old hand) p.after p.commit e part opened is.whole.sound is.blocks p.plans

    still : Stands accepts old hand → Stands accepts new after
    still is =
        let p = plan is in
        record {
          honest = honest ∙ is.honest;
          whole = subst (IsWhole accepts) (sym (comes is)) p.plans.whole;
          blocks = subst (HasBlocks (blocks_area new)) (sym (comes is))
              (subst (λ (area : List ℕ). HasBlocks area p.after) (sym (area_is is.honest)) (p.plans.written (blocks_area old) is.blocks));
        }

    legal : KeepsHistory (content_of old hand) (content_of new after) (Some e.commit)
    legal =
        let o = opened_of hand in
        let step = followed_keeps o e fit.follow rooted (blocks_area old) (blocks_area new) fit.same_root in
        subst (λ (c : Content). KeepsHistory (content_of old hand) c (Some e.commit))
        (sym (agrees_content (opened_of after) (entry_after o e) agrees few (blocks_area new))) step

    pub next_is : (is : Stands accepts old hand)
        → Next accepts (content_of old hand) event (content_of new after) (Done (Ok (receipt_of (content_of new after) (Some e.commit))))
    next_is is =
        let p = plan is in
        let m = content_of old hand in
        subst (λ (c : Commit). Next accepts m event (content_of new after) (Done (Ok (receipt_of (content_of new after) (Some c))))) (sym p.plans.is_entry.commit_is)
        (subst (λ (c : Content). Next accepts m event c (Done (Ok (receipt_of c (Some p.commit))))) (sym (comes is)) p.next)

    pub commits_acts : (receipt : Receipt) → receipt ≡ receipt_of (content_of new after) (Some e.commit) → IsSafe (content_of old hand) event (Done (Ok receipt))
        → Acts true (core_state accepts old hand None) event (core_state accepts new after None) (Done (Ok receipt))
    commits_acts receipt tells safe = record {
      accepts = refl;
      fills = refl;
      faults = faults;
      breaks = inl refl;
      next = λ stands.
          let is = stands_told accepts old hand None (bounded old hand kept) stands in
          inl (subst (λ (r : Receipt). Next accepts (content_of old hand) event (content_of new after) (Done (Ok r))) (sym tells) (next_is is));
      stands = λ stands unbroken. inl (told_stands accepts new after None (still (stands_told accepts old hand None (bounded old hand kept) stands)));
      whole = λ stands. (stands_told accepts new after None within stands).whole;
      history = subst (λ (r : Receipt). KeepsHistory (content_of old hand) (content_of new after) r.commit) (sym tells) legal;
      safe = safe;
      broken = λ count is. cc;
    }

-- a fault of writing a change, of a core whose entry is fit where it stands
change_fault : (accepts : List ℕ → List ℕ → Bool) (old new : DiskView) (hand after : InHand) (now : Option ℕ) (used : ℕ) (e : Entry) (fault : CoreFault) → IsKept hand
    → (Stands accepts old hand → IsFit e (opened_of hand)) → IsCommitFault used e (opened_of hand) old new fault
    → IsChangeFault true (core_state accepts old hand None) (core_state accepts new after now) fault
change_fault accepts old new hand after now used e Memory kept fit why = refl
change_fault accepts old new hand after now used e (Limit what max) kept fit why = limit_fault what why.0
  where
    limit_fault : (w : What) → w ≡ EntriesBytes → IsChangeFault true (core_state accepts old hand None) (core_state accepts new after now) (Limit w max)
    limit_fault w is =
        subst (λ (v : What). IsChangeFault true (core_state accepts old hand None) (core_state accepts new after now) (Limit v max)) (sym is) refl
change_fault accepts old new hand after now used e StoreFault kept fit why = why
change_fault accepts old new hand after now used e (BadStore area at) kept fit why = elim (cases_Bool (core_state accepts old hand None).stands) [
  | inl stands ↦ absurd (why (fit (stands_told accepts old hand None (bounded old hand kept) stands)))
  | inr down ↦ down
]
change_fault accepts old new hand after now used e other kept fit why = absurd why

-- A change wasn't taken in: what is in memory is as it was, and so are the blocks that were held.
pub unwritten_acts : (accepts : List ℕ → List ℕ → Bool) (old new : DiskView) (hand after : InHand) (now : Option ℕ) (used : ℕ) (e : Entry) (event : Event) (part : Option Part)
    (fault : CoreFault) → IsKept hand → IsRooted (opened_of hand)
    → (Stands accepts old hand → Plan accepts (content_of old hand) (opened_of hand) event e part) → opened_of after ≡ opened_of hand
    → new.honest ≡ old.honest → old.faults ≤ new.faults → ((now ≡ None) ⊎ (IsTrue (is_change event) × Rose old.faults new.faults))
    → (IsTrue old.honest → TornBy part (old.reads BlocksArea) (new.reads BlocksArea)) → IsCommitFault used e (opened_of hand) old new fault
    → (IsChangeFault true (core_state accepts old hand None) (core_state accepts new after now) fault
    → IsOwnFault true (core_state accepts old hand None) event (core_state accepts new after now) fault)
    → IsSafe (content_of old hand) event (Done (Err fault))
    → Acts true (core_state accepts old hand None) event (core_state accepts new after now) (Done (Err fault))
unwritten_acts accepts old new hand after now used e event part fault kept rooted plan same honest faults breaks torn why own safe =
    fails_acts accepts old new hand after now event fault kept rooted (agrees_same same) honest faults breaks blocks
    (own (change_fault accepts old new hand after now used e fault kept (fit_of accepts old new hand after e event part kept rooted plan) why)) safe
  where
    agrees_same : {one other : Opened} → one ≡ other → Agrees one other
    agrees_same {other = other} is =
        subst (λ (o : Opened). Agrees o other) (sym is) (record { head = refl; roots = refl; held = λ index. refl; nodes = λ depth offset within. refl })

    blocks : Stands accepts old hand → HasBlocks (blocks_area new) (content_of old hand)
    blocks is =
        let here : blocks_area new ≡ new.reads BlocksArea = rw (honest ∙ is.honest) refl in
        let there : blocks_area old ≡ old.reads BlocksArea = rw (is.honest) refl in
        subst (λ (area : List ℕ). HasBlocks area (content_of old hand)) (sym here)
        ((plan is).plans.torn (old.reads BlocksArea) (new.reads BlocksArea) (subst (λ (area : List ℕ). HasBlocks area (content_of old hand)) there is.blocks)
        (torn is.honest))

-- a change that was planned, of which it is told whether it was written
pub done_acts : {most : ℕ} (accepts : List ℕ → List ℕ → Bool) (old new : DiskView) (hand after : InHand) (now : Option ℕ) (used : ℕ) (e : Entry) (event : Event) (part : Option Part)
    (done : Result (Unit {0}) CoreFault) (answer : Result Receipt CoreFault) → IsKept hand → IsKept after → IsRooted (opened_of hand) → e.head.length ≤ MAX_BLOCKS
    → (Stands accepts old hand → Plan accepts (content_of old hand) (opened_of hand) event e part)
    → TakesIn e (opened_of hand) (opened_of after) done → Calls most old new done
    → (IsTrue old.honest → TornBy part (old.reads BlocksArea) (new.reads BlocksArea))
    → (IsTrue old.honest → OnOk done (new.reads BlocksArea ≡ laid part (old.reads BlocksArea)))
    → IfErr done (IsCommitFault used e (opened_of hand) old new)
    → Tells (receipt_of (content_of new after)) e.commit new.faults None done now answer
    → ((given : Result Receipt CoreFault) → IsSafe (content_of old hand) event (Done given))
    → ((fault : CoreFault) → IsChangeFault true (core_state accepts old hand None) (core_state accepts new after now) fault
    → IsOwnFault true (core_state accepts old hand None) event (core_state accepts new after now) fault)
    → Acts true (core_state accepts old hand None) event (core_state accepts new after now) (Done answer)
done_acts accepts old new hand after now used e event part (Ok _) answer kept kept_after rooted few plan takes calls torn laid_is why tells safe own =
    rw (tells.0, tells.1)
    (commits_acts accepts old new hand after e event part kept rooted plan kept_after few takes.0 takes.1 calls.honest calls.kept laid_is
    (receipt_of (content_of new after) (Some e.commit)) refl (safe _))
done_acts accepts old new hand after now used e event part (Err fault) answer kept kept_after rooted few plan takes calls torn laid_is why tells safe own =
    rw (tells.0)
    (unwritten_acts accepts old new hand after now used e event part fault kept rooted plan takes calls.honest calls.kept breaks torn why (own fault) (safe _))
  where
    breaks : (now ≡ None) ⊎ (IsTrue (is_change event) × Rose old.faults new.faults)
    breaks = elim tells.1 [
      | inl broke ↦ inr (may_change (core_state accepts old hand None) (core_state accepts new after now) event (own Memory refl), calls.rose (ap Err broke.0))
      | inr whole ↦ inl whole.1
    ]
