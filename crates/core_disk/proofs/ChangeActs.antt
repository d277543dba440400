-- What a change of a core over a disk tells: where nothing is written, and where a planned change was given to its disk.
use Rattle.std.proofs.Common.{◌≡◌, ◌≢◌, ◌⊎◌, inl, inr, ℕ, Bool, true, ◌+◌, List, Option, Some, None, Result, Ok, Err, refl, sym, ap, subst, ◌∙◌, arith}
use Rattle.std.specs.Prelude.{IsTrue, IfErr, OnOk, OnErr, ◌≤◌}
use Rattle.disk_trait.specs.declared.disk.Area.TheVariants.{Blocks as BlocksArea}
use Rattle.disk_trait.specs.Disk.{DiskView, MayStay}
use Rattle.flat_tree.specs.declared.limits.TheConstants.{MAX_BLOCKS}
use Rattle.commit_book.specs.declared.commit.Commit.{Commit}
use Rattle.merkle_nodes.specs.declared.limit.What.TheVariants.{Oplog as EntriesBytes}
use Rattle.oplog_form.specs.declared.entry.Entry.{Entry}
use Rattle.oplog_form.specs.Entries.{entry_spelling}
use Rattle.oplog_file.specs.Files.{File}
use Rattle.oplog_file.specs.Writers.{Place, IsBehind, with_entry, Stands as StandsThere}
use Rattle.oplog_file.specs.Storing.{Calls}
use Rattle.node_set.specs.declared.fault.CoreFault.{CoreFault}
use Rattle.node_set.specs.declared.fault.CoreFault.TheVariants.{Memory, Broken, StoreFault, Limit}
use Rattle.node_set.specs.declared.fault.Receipt.{Receipt}
use Rattle.node_set.specs.Contents.{Content}
use Rattle.core_state.specs.Events.{Event}
use Rattle.core_state.specs.Events.Event.{Head, Append, Truncate, Clear, Admit, Make, Get, Need, Page}
use Rattle.core_state.specs.Events.Reply.{Done}
use Rattle.core_state.specs.States.{CoreState, receipt_of}
use Rattle.core_state.specs.Next.{Next}
use Rattle.core_state.specs.Calls.{Acts, Fails, IsSafe, IsOwnFault, IsChangeFault, commit_in}
use Rattle.core_disk.specs.InHand.{IsKept, opened_of}
use Rattle.core_disk.specs.Laid.{IsRooted}
use Rattle.core_disk.specs.Stored.{Stored, content_of}
use Rattle.core_disk.specs.Plans.{Part, laid, calls_for, TornBy}
use Rattle.core_disk.specs.Firm.{WritesChange}
use Rattle.core_disk.specs.Committing.{TakesIn, Tells, IsCommitFault}
use Rattle.core_disk.specs.Cored.{Cored, core_state, state_of, shown, bytes_of, ChangesDisk}
use Rattle.core_disk.proofs.CoredLemmas.{Stands, Plan, bounded, stands_told, broken_acts, done_acts}
use Rattle.core_disk.proofs.ChangeRefusals.{next_other}
use Rattle.core_disk.proofs.SafeChanges.{told_fault, rests_disk, written_disk}

-- a change has no answer that isn't safe
safe_done : (m : Content) (event : Event) (answer : Result Receipt CoreFault) → IsSafe m event (Done answer)
safe_done m Head answer = tt
safe_done m (Append more) answer = tt
safe_done m (Truncate to fork) answer = tt
safe_done m (Clear from to) answer = tt
safe_done m (Admit p) answer = tt
safe_done m (Make request) answer = tt
safe_done m (Get index) answer = tt
safe_done m (Need index) answer = tt
safe_done m (Page number) answer = tt

-- a fault is one of the disk, or another
is_of_store : (fault : CoreFault) → (fault ≡ StoreFault) ⊎ (fault ≢ StoreFault)
is_of_store StoreFault = inl refl
is_of_store other = inr (λ is. cc)

module _ {D A : Type 0} (disk : D → DiskView) (accepts : A → List ℕ → List ℕ → Bool) (event : Event) where
  abbrev seen : Cored D A → CoreState
  seen = state_of disk accepts

  -- the same, by the count of faults when a change failed, if one did
  abbrev seen_with : Option ℕ → Cored D A → CoreState
  seen_with broken core = core_state (accepts core.auth) (disk core.store.disk) core.store.hand broken

  -- the core stands
  abbrev StandsOn : Cored D A → Type 0
  StandsOn core = Stands (accepts core.auth) (disk core.store.disk) core.store.hand

  -- each fault of a change is one of the event's own
  abbrev OwnsFaults : Type 0
  OwnsFaults = (old new : CoreState) (fault : CoreFault) → IsChangeFault true old new fault → IsOwnFault true old event new fault

  -- what a change promises
  pub record Does (old new : Cored D A) (answer : Result Receipt CoreFault) : Type 0 where
    pub acts : Acts true (seen old) event (seen new) (Done answer)
    pub changes : ChangesDisk disk accepts event old new answer

  -- ---- nothing is written

  -- of a core, which stays as it was
  module _ (now new : Cored D A) (same : new ≡ now) (kept : IsKept now.store.hand) where
    pub broken_does : OwnsFaults → (count : ℕ) → now.broken ≡ Some count → Does now new (Err (Broken count))
    broken_does own count broke = subst (λ (core : Cored D A). Does now core (Err (Broken count))) (sym same) (record {
      acts = subst (λ (b : Option ℕ). Acts true (seen_with b now) event (seen_with b now) (Done (Err (Broken count)))) (sym broke)
          (broken_acts (accepts now.auth) (disk now.store.disk) now.store.hand count event (Done (Err (Broken count))) kept refl refl
          (safe_done (shown disk now) event (Err (Broken count))) (λ new. own (seen_with (Some count) now) new (Broken count) refl));
      changes = rests_disk disk accepts event now (Err (Broken count)) (λ is. cc) (λ other is. let same : Some count ≡ Some other = sym broke ∙ is in cc) (λ max stands is. cc);
    })

    still_does : now.broken ≡ None → (answer : Result Receipt CoreFault) → answer ≢ Err StoreFault → ((max : ℕ) → StandsOn now → answer ≡ Err (Limit EntriesBytes max) → ⊥)
        → commit_in (Done answer) ≡ None
        → (StandsOn now → Next (accepts now.auth) (shown disk now) event (shown disk now) (Done answer) ⊎ Fails true (seen now) event (seen now) (Done answer))
        → Does now new answer
    still_does whole answer other room none next = subst (λ (core : Cored D A). Does now core answer) (sym same) (record {
      acts = record {
        accepts = refl;
        fills = refl;
        faults = omega arith;
        breaks = inl refl;
        next = λ stands. next (told stands);
        stands = λ stands unbroken. inl stands;
        whole = λ stands. (told stands).whole;
        history = rw none refl;
        safe = safe_done (shown disk now) event answer;
        broken = λ count broke. let clash : None ≡ Some count = sym whole ∙ broke in cc;
      };
      changes = rests_disk disk accepts event now answer other (λ count is. let clash : None ≡ Some count = sym whole ∙ is in cc)
          (λ max stands. room max (told stands));
    })
      where
        told : IsTrue (seen now).stands → StandsOn now
        told stands =
            let m = disk now.store.disk in
            stands_told (accepts now.auth) m now.store.hand now.broken (bounded m now.store.hand kept) stands

    -- what was planned over what is in memory
    module _ (core : Cored D A) (is : core ≡ now) (store : Stored D) (store_is : store ≡ core.store) (whole : now.broken ≡ None) where
      abbrev m : Content
      m = content_of (disk store.disk) store.hand

      -- an answer follows
      abbrev Follows : Result Receipt CoreFault → (List ℕ → List ℕ → Bool) → Stored D → Type 0
      Follows answer by s = let c = content_of (disk s.disk) s.hand in Stands by (disk s.disk) s.hand → Next by c event c (Done answer)

      -- what is answered follows, and nothing is committed
      pub follows_does : (answer : Result Receipt CoreFault) → answer ≢ Err StoreFault → commit_in (Done answer) ≡ None → Follows answer (accepts core.auth) store → Does now new answer
      follows_does answer other none next =
          let here : Follows answer (accepts now.auth) now.store =
          subst (λ (c : Cored D A). Follows answer (accepts c.auth) c.store) is (subst (Follows answer (accepts core.auth)) store_is next) in
          still_does whole answer other (λ max stands is. next_other (accepts now.auth) (shown disk now) event (shown disk now) max
          (subst (λ (told : Result Receipt CoreFault). Next (accepts now.auth) (shown disk now) event (shown disk now) (Done told)) is (here stands)))
          none (λ stands. inl (here stands))

      pub rests_does : (receipt : Receipt) → receipt ≡ receipt_of (shown disk now) None → Follows (Ok (receipt_of m None)) (accepts core.auth) store
          → Does now new (Ok receipt)
      rests_does receipt tells next =
          let seen_as = λ (s : Stored D). receipt_of (content_of (disk s.disk) s.hand) None in
          let told : receipt ≡ receipt_of m None = tells ∙ sym (ap seen_as store_is ∙ ap (λ (c : Cored D A). seen_as c.store) is) in
          rw told (follows_does (Ok (receipt_of m None)) (λ is. cc) refl next)

      -- a plan's fault, which want of memory stands for where it is one of the disk
      pub refused_does : OwnsFaults → (fault answer : CoreFault) → (fault ≡ StoreFault → answer ≡ Memory) → (fault ≢ StoreFault → answer ≡ fault)
          → (Stands (accepts core.auth) (disk store.disk) store.hand → fault ≢ StoreFault → Next (accepts core.auth) m event m (Done (Err fault)))
          → Does now new (Err answer)
      refused_does own fault answer of_store of_other next = elim (is_of_store fault) [
        | inl failed ↦ rw (of_store failed)
            (still_does whole (Err Memory) (λ is. cc) (λ max stands is. cc) refl (λ stands.
            inr (record { fault = Memory; answered = refl; own = own (seen now) (seen now) Memory refl; content = refl })))
        | inr other ↦ rw (of_other other) (follows_does (Err fault) (λ is. other (ap told_fault is)) refl (λ stands. next stands other))
      ]

  -- ---- a planned change was given to the disk

  -- what it did to the disk and to what is in memory
  pub record IsGiven (e : Entry) (part : Option Part) (done : Result (Unit {0}) CoreFault) (old : Cored D A) (store : Stored D) (place : Place) : Type 0 where
    pub takes : TakesIn e (opened_of old.store.hand) (opened_of store.hand) done
    pub writes : (file : File) → IsTrue (disk old.store.disk).honest → IsBehind old.place file
        → WritesChange file part (entry_spelling e) (disk old.store.disk) (disk store.disk) done
    pub behind : (file : File) → IsBehind old.place file → OnOk done (IsBehind place (with_entry (entry_spelling e) file))
    pub torn : IsTrue (disk old.store.disk).honest → TornBy part ((disk old.store.disk).reads BlocksArea) ((disk store.disk).reads BlocksArea)
    pub laid_is : IsTrue (disk old.store.disk).honest → OnOk done ((disk store.disk).reads BlocksArea ≡ laid part ((disk old.store.disk).reads BlocksArea))

  -- what its answer tells
  pub record IsAnswered (e : Entry) (done : Result (Unit {0}) CoreFault) (old : Cored D A) (store : Stored D) (place : Place) : Type 0 where
    pub err : OnErr done (StandsThere old.place place)
    pub why : IfErr done (IsCommitFault old.place.used e (opened_of old.store.hand) (disk old.store.disk) (disk store.disk))
    pub quiet : IfErr done (λ (fault : CoreFault). (fault ≡ StoreFault) ⊎ (store.disk ≡ old.store.disk))
    pub calls : Calls (calls_for (bytes_of event (shown disk old)) + 2) (disk old.store.disk) (disk store.disk) done

  -- the plan that it was made by
  abbrev PlansOf : Entry → Option Part → (List ℕ → List ℕ → Bool) → Stored D → Type 0
  PlansOf e part by store = Stands by (disk store.disk) store.hand → Plan by (content_of (disk store.disk) store.hand) (opened_of store.hand) event e part

  -- what the core tells then
  pub record IsTold (commit : Commit) (done : Result (Unit {0}) CoreFault) (old : Cored D A) (store : Stored D) (place : Place) (new : Cored D A)
      (answer : Result Receipt CoreFault) : Type 0 where
    pub store_is : new.store ≡ store
    pub place_is : new.place ≡ place
    pub auth_is : new.auth ≡ old.auth
    pub kept : IsKept new.store.hand
    pub tells : Tells (receipt_of (shown disk new)) commit (disk new.store.disk).faults old.broken done new.broken answer

  module _ (core now : Cored D A) (is : core ≡ now) (kept : IsKept now.store.hand) (rooted : IsRooted (opened_of now.store.hand))
      (whole : now.broken ≡ None) where
    pub given_does : OwnsFaults → ((d : D) → IsTrue (disk d).honest → MayStay (disk d)) → (e : Entry) → e.head.length ≤ MAX_BLOCKS
        → (part : Option Part) (planned : Stored D) → planned ≡ core.store → PlansOf e part (accepts core.auth) planned
        → (done : Result (Unit {0}) CoreFault) (store : Stored D) (place : Place) → IsGiven e part done core store place → IsAnswered e done core store place
        → (new : Cored D A) (answer : Result Receipt CoreFault) → IsTold e.commit done core store place new answer → Does now new answer
    given_does own stays e few part planned planned_is plan done store place given answered new answer told =
        let plan_now : PlansOf e part (accepts now.auth) now.store =
        subst (λ (c : Cored D A). PlansOf e part (accepts c.auth) c.store) is (subst (PlansOf e part (accepts core.auth)) planned_is plan) in
        let gives : IsGiven e part done now new.store new.place =
        rw (told.store_is, told.place_is) (subst (λ (c : Cored D A). IsGiven e part done c store place) is given) in
        let answers : IsAnswered e done now new.store new.place =
        rw (told.store_is, told.place_is) (subst (λ (c : Cored D A). IsAnswered e done c store place) is answered) in
        let auth : new.auth ≡ now.auth = told.auth_is ∙ ap (λ (c : Cored D A). c.auth) is in
        let tells : Tells (receipt_of (shown disk new)) e.commit (disk new.store.disk).faults None done new.broken answer =
        subst (λ (b : Option ℕ). Tells (receipt_of (shown disk new)) e.commit (disk new.store.disk).faults b done new.broken answer)
        (ap (λ (c : Cored D A). c.broken) is ∙ whole) told.tells in
        record {
          acts = rw (whole, auth)
              (done_acts (accepts now.auth) (disk now.store.disk) (disk new.store.disk) now.store.hand new.store.hand new.broken now.place.used e event part done answer
              kept told.kept rooted few plan_now gives.takes answers.calls gives.torn gives.laid_is answers.why tells (safe_done (shown disk now) event)
              (own (seen_with None now) (core_state (accepts now.auth) (disk new.store.disk) new.store.hand new.broken)));
          changes = written_disk disk accepts event now new e part done answer stays auth whole kept told.kept rooted plan_now
              gives.takes gives.writes gives.behind gives.laid_is answers.err answers.why answers.quiet answers.calls tells;
        }
