-- What a change does to the disk of a core, and that a crash can't take what it stands for.
use Rattle.std.proofs.Common.{◌≡◌, ◌≢◌, ◌⊎◌, inl, inr, ℕ, Bool, ◌+◌, ◌≤◌, List, Option, Some, None, Result, Ok, Err, refl, sym, ap, subst, ◌∙◌, arith}
use Rattle.outside_traits.specs.Faults.{Rose}
use Rattle.std.specs.Prelude.{IsTrue, IfErr, OnOk, OnErr}
use Rattle.flat_tree.specs.declared.limits.TheConstants.{MAX_BLOCKS}
use Rattle.disk_trait.specs.declared.disk.Area.TheVariants.{Blocks as BlocksArea}
use Rattle.disk_trait.specs.Disk.{DiskView, MayStay}
use Rattle.disk_trait.proofs.Runs.{starts}
use Rattle.commit_book.specs.declared.commit.Commit.{Commit}
use Rattle.merkle_nodes.specs.declared.limit.What.TheVariants.{Oplog as EntriesBytes}
use Rattle.merkle_nodes.specs.declared.roots.Head.{Head}
use Rattle.oplog_form.specs.declared.entry.Entry.{Entry}
use Rattle.oplog_form.specs.Entries.{entry_spelling}
use Rattle.oplog_file.specs.Files.{File}
use Rattle.oplog_file.specs.Writers.{IsBehind, with_entry, Stands as StandsThere}
use Rattle.oplog_file.specs.Storing.{Calls}
use Rattle.node_set.specs.declared.fault.CoreFault.{CoreFault}
use Rattle.node_set.specs.declared.fault.CoreFault.TheVariants.{Broken, StoreFault, Limit}
use Rattle.node_set.specs.declared.fault.Receipt.{Receipt}
use Rattle.node_set.specs.Contents.{Content}
use Rattle.core_state.specs.Events.{Event}
use Rattle.core_state.specs.States.{receipt_of}
use Rattle.core_disk.specs.Opened.{Opened, entry_after}
use Rattle.core_disk.specs.InHand.{IsKept, Agrees, opened_of}
use Rattle.core_disk.specs.Laid.{IsRooted, content_in}
use Rattle.core_disk.specs.Standing.{HasBlocks, StandsFor}
use Rattle.core_disk.specs.Stored.{blocks_area}
use Rattle.core_disk.specs.Plans.{Part, laid, calls_for}
use Rattle.core_disk.specs.Firm.{IsFirmFor, WritesChange, Commits}
use Rattle.core_disk.specs.Committing.{TakesIn, Tells, IsCommitFault}
use Rattle.core_disk.specs.Cored.{Cored, state_of, shown, bytes_of, IsNextBy, IsFull, ChangesDisk}
use Rattle.core_disk.proofs.CoredLemmas.{Stands, Plan, bounded, stands_told, comes}
use Rattle.core_disk.proofs.FirmLaws.{firm_stands, firm_there, change_commits}

-- nothing is written
pub rests_disk : {D A : Type 0} (disk : D → DiskView) (accepts : A → List ℕ → List ℕ → Bool) (event : Event) (core : Cored D A)
    (answer : Result Receipt CoreFault) → answer ≢ Err StoreFault → ((count : ℕ) → core.broken ≡ Some count → answer ≡ Err (Broken count))
    → ((max : ℕ) → IsTrue (state_of disk accepts core).stands → answer ≡ Err (Limit EntriesBytes max) → ⊥)
    → ChangesDisk disk accepts event core core answer
rests_disk disk accepts event core answer other told room = record {
  auth = refl;
  honest = refl;
  calls = omega arith;
  quiet = λ count is. (told count is, refl);
  rose = λ failed. absurd (other failed);
  broke = λ failed. absurd (other failed);
  breaks = λ answered. refl;
  full = λ max stands is. absurd (room max stands is);
  safe = λ id honest unbroken firm. record {
    any_moment = inl (starts (disk core.store.disk) (λ areas. StandsFor (accepts core.auth) id areas (shown disk core))
        (firm_stands (accepts core.auth) id (disk core.store.disk) core.place (shown disk core) firm));
    firm = λ answered. firm;
  };
}

-- After an answer that isn't a fault of the disk it is firm for what the core shows: what was planned with Ok, and else what it showed before.
module _ {D A : Type 0} (disk : D → DiskView) (accepts : List ℕ → List ℕ → Bool) (id : List ℕ) (event : Event) (old new : Cored D A) (e : Entry)
    (part : Option Part) (answer : Result Receipt CoreFault) (kept : IsKept old.store.hand) (kept_after : IsKept new.store.hand)
    (rooted : IsRooted (opened_of old.store.hand))
    (plan : Stands accepts (disk old.store.disk) old.store.hand → Plan accepts (shown disk old) (opened_of old.store.hand) event e part)
    (is : Stands accepts (disk old.store.disk) old.store.hand) where
  firm_written : {most : ℕ} (done : Result (Unit {0}) CoreFault) → TakesIn e (opened_of old.store.hand) (opened_of new.store.hand) done
      → (IsTrue (disk old.store.disk).honest → OnOk done ((disk new.store.disk).reads BlocksArea ≡ laid part ((disk old.store.disk).reads BlocksArea)))
      → OnErr done (StandsThere old.place new.place)
      → IfErr done (λ (fault : CoreFault). (fault ≡ StoreFault) ⊎ (new.store.disk ≡ old.store.disk))
      → Calls most (disk old.store.disk) (disk new.store.disk) done
      → Tells (receipt_of (shown disk new)) e.commit (disk new.store.disk).faults None done new.broken answer
      → IsFirmFor accepts id (disk old.store.disk) old.place (shown disk old)
      → OnOk done (IsFirmFor accepts id (disk new.store.disk) new.place (plan is).after)
      → answer ≢ Err StoreFault → IsFirmFor accepts id (disk new.store.disk) new.place (shown disk new)
  firm_written (Ok _) takes laid_is place quiet calls tells firm done answered =
      subst (IsFirmFor accepts id (disk new.store.disk) new.place)
      (sym (comes accepts (disk old.store.disk) (disk new.store.disk) old.store.hand new.store.hand e event part kept rooted plan
      kept_after (few takes.1) takes.0 takes.1 calls.honest calls.kept laid_is is)) done
    where
      few : Agrees (opened_of new.store.hand) (entry_after (opened_of old.store.hand) e) → e.head.length ≤ MAX_BLOCKS
      few agrees = subst (λ (head : Head). head.length ≤ MAX_BLOCKS) agrees.head kept_after.blocks
  firm_written (Err fault) takes laid_is place quiet calls tells firm done answered = elim quiet [
    | inl store ↦ absurd (answered (tells.0 ∙ ap Err store))
    | inr same ↦
        subst (λ (d : D). IsFirmFor accepts id (disk d) new.place (content_in (blocks_area (disk d)) (opened_of new.store.hand))) (sym same)
        (subst (λ (o : Opened). IsFirmFor accepts id (disk old.store.disk) new.place (content_in (blocks_area (disk old.store.disk)) o)) (sym takes)
        (firm_there accepts id (disk old.store.disk) old.place (shown disk old) firm new.place place))
  ]

-- a fault of the disk alone breaks the core
unbroken : (receipt : Option Commit → Receipt) (commit : Commit) (faults : ℕ) (now : Option ℕ) (answer : Result Receipt CoreFault)
    (done : Result (Unit {0}) CoreFault) → Tells receipt commit faults None done now answer → answer ≢ Err StoreFault → now ≡ None
unbroken receipt commit faults now answer (Ok _) tells answered = tells.1
unbroken receipt commit faults now answer (Err fault) tells answered = elim tells.1 [
  | inl broke ↦ absurd (answered (tells.0 ∙ ap Err broke.0))
  | inr kept ↦ kept.1
]

-- the fault that an answer tells
abbrev pub told_fault : Result Receipt CoreFault → CoreFault
told_fault (Ok receipt) = StoreFault
told_fault (Err fault) = fault

-- a fault of the disk is told only where one came
risen : {most : ℕ} (receipt : Option Commit → Receipt) (commit : Commit) (old new : DiskView) (now : Option ℕ) (answer : Result Receipt CoreFault)
    (done : Result (Unit {0}) CoreFault) → Calls most old new done → Tells receipt commit new.faults None done now answer → answer ≡ Err StoreFault → Rose old.faults new.faults
risen receipt commit old new now answer (Ok _) calls tells failed = let clash = sym tells.0 ∙ failed in cc
risen receipt commit old new now answer (Err fault) calls tells failed = calls.rose (ap Err (ap told_fault (sym tells.0 ∙ failed)))

-- and breaks the core
breaks_at : (receipt : Option Commit → Receipt) (commit : Commit) (faults : ℕ) (now : Option ℕ) (answer : Result Receipt CoreFault)
    (done : Result (Unit {0}) CoreFault) → Tells receipt commit faults None done now answer → answer ≡ Err StoreFault → now ≡ Some faults
breaks_at receipt commit faults now answer (Ok _) tells failed = let clash = sym tells.0 ∙ failed in cc
breaks_at receipt commit faults now answer (Err fault) tells failed = elim tells.1 [
  | inl broke ↦ broke.1
  | inr kept ↦ absurd (kept.0 (ap told_fault (sym tells.0 ∙ failed)))
]

-- the entry of a plan that follows the event
follows : (accepts : List ℕ → List ℕ → Bool) (m : Content) (o : Opened) (event : Event) (e : Entry) (part : Option Part) (p : Plan accepts m o event e part)
    → IsNextBy accepts m event p.after e
follows accepts m o event e part p = record { receipt = receipt_of p.after (Some p.commit); commit = p.commit; next = p.next; commits = refl; is_entry = p.plans.is_entry }

-- a planned change found no room
full_written : {D A : Type 0} (disk : D → DiskView) (accepts : A → List ℕ → List ℕ → Bool) (event : Event) (old new : Cored D A) (e : Entry)
    (part : Option Part) (done : Result (Unit {0}) CoreFault) (answer : Result Receipt CoreFault) (max : ℕ)
    → Plan (accepts old.auth) (shown disk old) (opened_of old.store.hand) event e part
    → IfErr done (IsCommitFault old.place.used e (opened_of old.store.hand) (disk old.store.disk) (disk new.store.disk))
    → IfErr done (λ (fault : CoreFault). (fault ≡ StoreFault) ⊎ (new.store.disk ≡ old.store.disk))
    → Tells (receipt_of (shown disk new)) e.commit (disk new.store.disk).faults old.broken done new.broken answer
    → answer ≡ Err (Limit EntriesBytes max) → IsFull accepts (shown disk old) event old new max
full_written disk accepts event old new e part (Ok _) answer max p why quiet tells is = let clash = sym tells.0 ∙ is in cc
full_written disk accepts event old new e part (Err fault) answer max p why quiet tells is =
    let same : fault ≡ Limit EntriesBytes max = ap told_fault (sym tells.0 ∙ is) in
    let cause = subst (IsCommitFault old.place.used e (opened_of old.store.hand) (disk old.store.disk) (disk new.store.disk)) same why in
    record {
      most = cause.1;
      untouched = elim quiet [ inl store ↦ let clash : Limit EntriesBytes max ≡ StoreFault = sym same ∙ store in cc | inr untouched ↦ untouched ];
      room = record {
        after = p.after;
        entry = e;
        follows = follows (accepts old.auth) (shown disk old) (opened_of old.store.hand) event e part p;
        few = cause.2;
        no_room = cause.3;
      };
    }

-- a planned change was written, or it failed
pub written_disk : {D A : Type 0} (disk : D → DiskView) (accepts : A → List ℕ → List ℕ → Bool) (event : Event) (old new : Cored D A) (e : Entry)
    (part : Option Part) (done : Result (Unit {0}) CoreFault) (answer : Result Receipt CoreFault)
    → ((d : D) → IsTrue (disk d).honest → MayStay (disk d)) → new.auth ≡ old.auth → old.broken ≡ None
    → IsKept old.store.hand → IsKept new.store.hand → IsRooted (opened_of old.store.hand)
    → (Stands (accepts old.auth) (disk old.store.disk) old.store.hand
    → Plan (accepts old.auth) (shown disk old) (opened_of old.store.hand) event e part)
    → TakesIn e (opened_of old.store.hand) (opened_of new.store.hand) done
    → ((whole : File) → IsTrue (disk old.store.disk).honest → IsBehind old.place whole
    → WritesChange whole part (entry_spelling e) (disk old.store.disk) (disk new.store.disk) done)
    → ((whole : File) → IsBehind old.place whole → OnOk done (IsBehind new.place (with_entry (entry_spelling e) whole)))
    → (IsTrue (disk old.store.disk).honest → OnOk done ((disk new.store.disk).reads BlocksArea ≡ laid part ((disk old.store.disk).reads BlocksArea)))
    → OnErr done (StandsThere old.place new.place)
    → IfErr done (IsCommitFault old.place.used e (opened_of old.store.hand) (disk old.store.disk) (disk new.store.disk))
    → IfErr done (λ (fault : CoreFault). (fault ≡ StoreFault) ⊎ (new.store.disk ≡ old.store.disk))
    → Calls (calls_for (bytes_of event (shown disk old)) + 2) (disk old.store.disk) (disk new.store.disk) done
    → Tells (receipt_of (shown disk new)) e.commit (disk new.store.disk).faults None done new.broken answer
    → ChangesDisk disk accepts event old new answer
written_disk disk accepts event old new e part done answer stays auth whole kept after rooted plan takes writes behind over there why quiet calls tells = record {
  auth = auth;
  honest = calls.honest;
  calls = calls.few;
  quiet = λ count is. let clash : None ≡ Some count = sym whole ∙ is in cc;
  broke = breaks_at (receipt_of (shown disk new)) e.commit (disk new.store.disk).faults new.broken answer done tells;
  rose = risen (receipt_of (shown disk new)) e.commit (disk old.store.disk) (disk new.store.disk) new.broken answer done calls tells;
  breaks = λ answered.
      unbroken (receipt_of (shown disk new)) e.commit (disk new.store.disk).faults new.broken answer done tells answered ∙ sym whole;
  full = λ max standing is. full_written disk accepts event old new e part done answer max
      (plan (stands_told (accepts old.auth) (disk old.store.disk) old.store.hand old.broken (bounded (disk old.store.disk) old.store.hand kept) standing))
      why quiet (subst (λ (b : Option ℕ). Tells (receipt_of (shown disk new)) e.commit (disk new.store.disk).faults b done new.broken answer) (sym whole) tells) is;
  safe = λ id honest none firm.
      let p = plan (stands id honest firm) in
      let made = makes id honest firm in
      record {
        any_moment = inr (record {
          after = p.after;
          entry = e;
          follows = follows (accepts old.auth) (shown disk old) (opened_of old.store.hand) event e part p;
          file = made.file;
          is_file = made.is_file;
          time = made.time;
          any_moment = made.any_moment;
        });
        firm = firm_written disk (accepts old.auth) id event old new e part answer kept after rooted plan (stands id honest firm)
            done takes over there quiet calls tells firm made.ok;
      };
}
  where
    stands : (id : List ℕ) → IsTrue (disk old.store.disk).honest → IsFirmFor (accepts old.auth) id (disk old.store.disk) old.place (shown disk old)
        → Stands (accepts old.auth) (disk old.store.disk) old.store.hand
    stands id honest firm = record {
      honest = honest;
      whole = firm.whole;
      blocks =
          let here : blocks_area (disk old.store.disk) ≡ (disk old.store.disk).reads BlocksArea = rw honest refl in
          subst (λ (area : List ℕ). HasBlocks area (shown disk old)) (sym here)
          (firm.blocks ((disk old.store.disk).reads BlocksArea) (stays old.store.disk honest BlocksArea));
    }

    makes : (id : List ℕ) → (honest : IsTrue (disk old.store.disk).honest)
        → (firm : IsFirmFor (accepts old.auth) id (disk old.store.disk) old.place (shown disk old))
        → Commits {T = Unit {0}} {E = CoreFault} (accepts old.auth) id (shown disk old) e (plan (stands id honest firm)).after
        (disk old.store.disk) (disk new.store.disk) new.place done
    makes id honest firm =
        let p = plan (stands id honest firm) in
        change_commits (accepts old.auth) id (shown disk old) p.after p.commit e part old.place new.place (disk old.store.disk) (disk new.store.disk) done
        (stays old.store.disk honest)
        (record { firm = firm; plans = p.plans; writes = λ file there. writes file honest there; behind = behind })
