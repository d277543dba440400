-- Batches that are committed to a core over a disk, one after the other.
use Rattle.std.proofs.Common.{◌≡◌, ◌≢◌, ◌⊎◌, inl, inr, ℕ, ◌+◌, Bool, true, List, length, [], ◌∷◌, ◌++◌, None, Some, Result, Ok, Err, refl, sym, ap, ◌∙◌, subst, arith, append_assoc, append-nil}
use Rattle.std.specs.Prelude.{IsTrue, ⊤, OnOk, IfErr}
use Rattle.std.specs.List.{sum_by}
use Rattle.std.proofs.lemmas.List.Sums.{sum_by-cons}
use Rattle.disk_trait.specs.Disk.{DiskView, MayStay}
use Rattle.disk_trait.specs.declared.disk.Area.TheVariants.{Oplog as OplogArea, Blocks as BlocksArea}
use Rattle.disk_trait.specs.Runs.{LeavesOnly}
use Rattle.node_set.specs.declared.fault.CoreFault.{CoreFault}
use Rattle.node_set.specs.declared.fault.CoreFault.TheVariants.{Memory, Broken, StoreFault, BadStore, Damaged, Limit}
use Rattle.node_set.specs.declared.fault.Receipt.{Receipt}
use Rattle.node_set.specs.Contents.{Content}
use Rattle.flat_tree.specs.declared.limits.TheConstants.{MAX_BATCH_BLOCKS, MAX_BATCH_BYTES}
use Rattle.merkle_nodes.specs.declared.limit.What.{What}
use Rattle.merkle_nodes.specs.declared.limit.What.TheVariants.{Oplog as EntriesBytes}
use Rattle.oplog_file.specs.Files.{IsFile}
use Rattle.core_state.specs.Events.Event.{Append}
use Rattle.core_state.specs.Events.Reply.{Done}
use Rattle.core_state.specs.States.{CoreState}
use Rattle.core_state.specs.Next.{FollowsAppend}
use Rattle.core_state.specs.Refusals.{append_refusal}
use Rattle.core_state.specs.Calls.{Acts, Fails, IsChangeFault}
use Rattle.core_disk.specs.Standing.{HasBlocks, StandsFor}
use Rattle.core_disk.specs.Stored.{blocks_area}
use Rattle.core_disk.specs.Firm.{IsFirmFor}
use Rattle.core_disk.specs.Cored.{Cored, state_of, shown, disk_under, ChangesDisk, IsBetween, LacksRoom}
use Rattle.core_disk.proofs.ChangeRefusals.{IsLimit, refusal_is}
use Rattle.core_disk.proofs.CoredLemmas.{told_stands}
use Rattle.hypercore_cli.specs.Batches.{is_full_for, Grows}
use Rattle.hypercore_cli.specs.Appends.{KeepsCore, IsFirm, HasGrown, BreaksIn, IsRefused, TellsWhy, Ends, Commits, closed_by, opened_by, TakesLine}

-- ---- contents

-- some batches, and then more
Grows-append : (accepts : List ℕ → List ℕ → Bool) (m : Content) (batches more : List (List (List ℕ))) (mid after : Content) → Grows accepts m batches mid
    → Grows accepts mid more after → Grows accepts m (batches ++ more) after
Grows-append accepts m [] more mid after first then = subst (λ (c : Content). Grows accepts c more after) first then
Grows-append accepts m (batch ∷ batches) more mid after first then =
    (first.0, first.1, Grows-append accepts first.0 batches more mid after first.2 then)

-- as many blocks more as the batches have
pub Grows-length : (accepts : List ℕ → List ℕ → Bool) (m : Content) (batches : List (List (List ℕ))) (after : Content) → Grows accepts m batches after
    → after.length ≡ m.length + sum_by length batches
Grows-length accepts m [] after same = ap (λ (c : Content). c.length) same ∙ omega arith
Grows-length accepts m (batch ∷ batches) after grows =
    let more = Grows-length accepts grows.0 batches after grows.2 in
    let one = appended_length accepts m batch grows.0 grows.1.0 grows.1.1.1 in
    omega (arith, more, one, sum_by-cons length batch batches)
  where
    appended_length : (accepts : List ℕ → List ℕ → Bool) (m : Content) (batch : List (List ℕ)) (after : Content) (receipt : Receipt)
        → FollowsAppend accepts m batch after receipt → after.length ≡ m.length + length batch
    appended_length accepts m [] after receipt rests = ap (λ (c : Content). c.length) rests.content ∙ omega arith
    appended_length accepts m (block ∷ batch) after receipt signs = ap (λ (c : Content). c.length) signs.content

-- ---- faults

-- a firm core stops by one of these
abbrev IsStop : CoreFault → Type 0
IsStop Memory = ⊤
IsStop StoreFault = ⊤
IsStop (Limit what max) = ⊤
IsStop fault = ⊥

-- a fault of its own
own_stops : (old new : CoreState) (fault : CoreFault) → old.broken ≡ None → IsTrue old.stands → IsChangeFault true old new fault → IsStop fault
own_stops old new Memory unbroken stands own = tt
own_stops old new StoreFault unbroken stands own = tt
own_stops old new (Limit what max) unbroken stands own = tt
own_stops old new (Broken count) unbroken stands own = cc
own_stops old new (BadStore area at) unbroken stands own = cc
own_stops old new (Damaged place want have) unbroken stands own = cc
own_stops old new fault unbroken stands own = absurd own

own_limit : (old new : CoreState) (what : What) (max : ℕ) → IsChangeFault true old new (Limit what max) → what ≡ EntriesBytes
own_limit old new EntriesBytes max own = refl
own_limit old new what max own = absurd own

module _ {D A : Type 0} (disk : D → DiskView) (accepts : A → List ℕ → List ℕ → Bool) where
  -- ---- one batch

  -- as its disk reads is one of the ways in which a crash now may leave it
  abbrev pub Stays : Cored D A → Type 0
  Stays core = IsTrue (disk_under disk core).honest → MayStay (disk_under disk core)

  -- a firm core stands
  firm_core_stands : (id : List ℕ) (core : Cored D A) → Stays core → IsFirm disk accepts id core → IsTrue (state_of disk accepts core).stands
  firm_core_stands id core stay firm =
      let there : HasBlocks ((disk_under disk core).reads BlocksArea) (shown disk core) =
      firm.firm.blocks ((disk_under disk core).reads BlocksArea) (stay firm.honest BlocksArea) in
      let same : blocks_area (disk_under disk core) ≡ (disk_under disk core).reads BlocksArea = rw firm.honest refl in
      told_stands (accepts core.auth) (disk_under disk core) core.store.hand core.broken
      (record { honest = firm.honest; whole = firm.firm.whole; blocks = subst (λ area. HasBlocks area (shown disk core)) (sym same) there })

  -- what is told of an append
  pub record Appended (batch : List (List ℕ)) (core now : Cored D A) (answer : Result Receipt CoreFault) : Type 0 where
    pub acts : Acts true (state_of disk accepts core) (Append batch) (state_of disk accepts now) (Done answer)
    pub change : ChangesDisk disk accepts (Append batch) core now answer

  module _ (batch : List (List ℕ)) (core now : Cored D A) where
    appended_keeps : (answer : Result Receipt CoreFault) → Appended batch core now answer → KeepsCore disk core now
    appended_keeps answer appended = record { auth = appended.change.auth; honest = appended.change.honest; faults = appended.acts.faults }

    -- but for a fault of the disk the core is as firm as before
    still_firm : (id : List ℕ) (answer : Result Receipt CoreFault) → Appended batch core now answer → answer ≢ Err StoreFault → IsFirm disk accepts id core
        → IsFirm disk accepts id now
    still_firm id answer appended other firm =
        let change = appended.change in
        record {
          honest = change.honest ∙ firm.honest;
          unbroken = change.breaks other ∙ firm.unbroken;
          firm = subst (λ (a : A). IsFirmFor (accepts a) id (disk_under disk now) now.place (shown disk now)) (sym change.auth)
              ((change.safe id firm.honest firm.unbroken firm.firm).firm other);
        }

    grown : (id : List ℕ) (receipt : Receipt) → Stays core → Appended batch core now (Ok receipt) → IsFirm disk accepts id core
        → HasGrown disk accepts id (batch ∷ []) core now
    grown id receipt stay appended firm = record {
      grows = (
        shown disk now,
        (
          receipt,
          elim (appended.acts.next (firm_core_stands id core stay firm)) [
            | inl next ↦ next
            | inr fails ↦ let none : None ≡ Some fails.fault = fails.answered in absurd cc
          ],
        ),
        refl,
      );
      firm = still_firm id (Ok receipt) appended (λ e. cc) firm;
    }

    -- a fault leaves the content
    same_content : (id : List ℕ) (fault : CoreFault) → Stays core → Appended batch core now (Err fault) → IsFirm disk accepts id core
        → shown disk now ≡ shown disk core
    same_content id fault stay appended firm = elim (appended.acts.next (firm_core_stands id core stay firm)) [
      | inl next ↦ next.1
      | inr fails ↦ fails.content
    ]

    own : (fault : CoreFault) → Fails true (state_of disk accepts core) (Append batch) (state_of disk accepts now) (Done (Err fault))
        → IsChangeFault true (state_of disk accepts core) (state_of disk accepts now) fault
    own fault fails =
        let told : Some fault ≡ Some fails.fault = fails.answered in
        let same : fails.fault ≡ fault = cc in
        subst (IsChangeFault true (state_of disk accepts core) (state_of disk accepts now)) same fails.own

    -- the change file has no room for its entry
    full : (id : List ℕ) (max : ℕ) → Stays core → Appended batch core now (Err (Limit EntriesBytes max)) → IsFirm disk accepts id core
        → IsRefused (accepts now.auth) ((disk_under disk now).reads OplogArea) (shown disk now) batch EntriesBytes max
    full id max stay appended firm =
        let is = appended.change.full max (firm_core_stands id core stay firm) refl in
        let same = same_content id (Limit EntriesBytes max) stay appended firm in
        let room = subst (λ (a : A). LacksRoom (accepts a) (shown disk core) (Append batch) core.place.used) (sym appended.change.auth) is.room in
        inr (
          refl,
          is.most,
          record {
            file = firm.firm.file;
            is_file = subst (λ (d : D). IsFile ((disk d).reads OplogArea) firm.firm.file) (sym is.untouched) firm.firm.is_file;
            room = subst (λ (used : ℕ). LacksRoom (accepts now.auth) (shown disk now) (Append batch) used) firm.firm.behind.used
                (subst (λ (m : Content). LacksRoom (accepts now.auth) m (Append batch) core.place.used) (sym same) room);
          },
        )

    -- it was refused at a limit
    refused : (id : List ℕ) (what : What) (max : ℕ) → Stays core → Appended batch core now (Err (Limit what max)) → IsFirm disk accepts id core
        → IsRefused (accepts now.auth) ((disk_under disk now).reads OplogArea) (shown disk now) batch what max
    refused id what max stay appended firm = elim (appended.acts.next (firm_core_stands id core stay firm)) [
      | inl next ↦ inl (subst (λ (m : Content). append_refusal m batch ≡ Some (Limit what max)) (sym next.1) next.0)
      | inr fails ↦
          let is = own_limit (state_of disk accepts core) (state_of disk accepts now) what max (own (Limit what max) fails) in
          subst (λ (w : What). IsRefused (accepts now.auth) ((disk_under disk now).reads OplogArea) (shown disk now) batch w max) (sym is)
          (full id max stay (subst (λ (w : What). Appended batch core now (Err (Limit w max))) is appended) firm)
    ]

    -- no other fault comes
    no_other : (id : List ℕ) (fault : CoreFault) → Stays core → Appended batch core now (Err fault) → IsFirm disk accepts id core → IsLimit fault ⊎ IsStop fault
    no_other id fault stay appended firm = elim (appended.acts.next (firm_core_stands id core stay firm)) [
      | inl next ↦ inl (refusal_is (shown disk core) batch fault next.0)
      | inr fails ↦
          inr (own_stops (state_of disk accepts core) (state_of disk accepts now) fault firm.unbroken (firm_core_stands id core stay firm) (own fault fails))
    ]

    stopped : (id : List ℕ) (fault : CoreFault) → fault ≢ StoreFault → Stays core → Appended batch core now (Err fault) → IsFirm disk accepts id core
        → HasGrown disk accepts id [] core now
    stopped id fault other stay appended firm = record {
      grows = same_content id fault stay appended firm;
      firm = still_firm id (Err fault) appended (λ e. other cc) firm;
    }

    tells_why : (id : List ℕ) (fault : CoreFault) → Stays core → Appended batch core now (Err fault) → IsFirm disk accepts id core
        → TellsWhy disk accepts id (batch ∷ []) core now fault
    tells_why id Memory stay appended firm = tt
    tells_why id StoreFault stay appended firm = tt
    tells_why id (Limit what max) stay appended firm =
        ([], batch, [], refl, stopped id (Limit what max) (λ e. cc) stay appended firm, refused id what max stay appended firm)
    tells_why id fault stay appended firm = elim (no_other id fault stay appended firm) [ inl is ↦ absurd is | inr is ↦ absurd is ]

    -- the batch was committed
    pub Commits-appended : (receipt : Receipt) → Stays core → Appended batch core now (Ok receipt) → Commits disk accepts (batch ∷ []) core now (Ok tt)
    Commits-appended receipt stay appended = record {
      keeps = appended_keeps (Ok receipt) appended;
      rose = λ e. cc;
      firm = λ id firm. grown id receipt stay appended firm;
    }

    -- it was refused, or failed
    pub Commits-failed : (fault : CoreFault) → Stays core → Appended batch core now (Err fault)
        → Commits disk accepts (batch ∷ []) core now (Err fault)
    Commits-failed fault stay appended = record {
      keeps = appended_keeps (Err fault) appended;
      rose = λ e. let store : fault ≡ StoreFault = cc in appended.change.rose (ap (λ f. Err f) store);
      firm = λ id firm. (
        λ store.
            let failed : Appended batch core now (Err StoreFault) = subst (λ f. Appended batch core now (Err f)) store appended in (
              [],
              batch,
              [],
              refl,
              record {
                before = core;
                keeps = record { auth = refl; honest = refl; faults = omega arith };
                grown = record { grows = refl; firm = firm };
                any_moment = (failed.change.safe id firm.honest firm.unbroken firm.firm).any_moment;
              },
            ),
        λ other. ([], batch ∷ [], refl, stopped id fault other stay appended firm),
        tells_why id fault stay appended firm,
      );
    }

  -- ---- one batch after the other

  pub Commits-none : (core : Cored D A) → Commits disk accepts [] core core (Ok tt)
  Commits-none core = record {
    keeps = record { auth = refl; honest = refl; faults = omega arith };
    rose = λ e. cc;
    firm = λ id firm. record { grows = refl; firm = firm };
  }

  module _ (core mid now : Cored D A) (keeps : KeepsCore disk core mid) where
    then_keeps : KeepsCore disk mid now → KeepsCore disk core now
    then_keeps more = record { auth = more.auth ∙ keeps.auth; honest = more.honest ∙ keeps.honest; faults = omega (arith, keeps.faults, more.faults) }

    then_grown : (id : List ℕ) (first then : List (List (List ℕ))) → HasGrown disk accepts id first core mid → HasGrown disk accepts id then mid now
        → HasGrown disk accepts id (first ++ then) core now
    then_grown id first then has more = record {
      grows = Grows-append (accepts core.auth) (shown disk core) first then (shown disk mid) (shown disk now) has.grows
          (subst (λ (a : A). Grows (accepts a) (shown disk mid) then (shown disk now)) keeps.auth more.grows);
      firm = more.firm;
    }

  -- what a batch that the disk failed in leaves, behind more batches
  then_breaks : (core mid now : Cored D A) → KeepsCore disk core mid → (id : List ℕ) (first done : List (List (List ℕ))) (batch : List (List ℕ))
      → HasGrown disk accepts id first core mid → BreaksIn disk accepts id done batch mid now → BreaksIn disk accepts id (first ++ done) batch core now
  then_breaks core mid now keeps id first done batch has breaks = record {
    before = breaks.before;
    keeps = then_keeps core mid breaks.before keeps breaks.keeps;
    grown = then_grown core mid breaks.before keeps id first done has breaks.grown;
    any_moment = subst (λ (a : A).
        LeavesOnly (disk_under disk breaks.before) (disk_under disk now) (λ areas. StandsFor (accepts a) id areas (shown disk breaks.before))
        ⊎ IsBetween (accepts a) id (shown disk breaks.before) (Append batch) (disk_under disk breaks.before) (disk_under disk now))
        keeps.auth breaks.any_moment;
  }

  then_tells : (core mid now : Cored D A) (fault : CoreFault) → KeepsCore disk core mid → (id : List ℕ) (first then : List (List (List ℕ)))
      → HasGrown disk accepts id first core mid → TellsWhy disk accepts id then mid now fault → TellsWhy disk accepts id (first ++ then) core now fault
  then_tells core mid now Memory keeps id first then has tells = tt
  then_tells core mid now StoreFault keeps id first then has tells = tt
  then_tells core mid now (Limit what max) keeps id first then has tells =
      let done = tells.0 in
      let batch = tells.1 in
      let rest = tells.2 in (
        first ++ done,
        batch,
        rest,
        ap (λ l. first ++ l) tells.3 ∙ sym (append_assoc first done (batch ∷ rest)),
        then_grown core mid now keeps id first done has tells.4,
        tells.5,
      )
  then_tells core mid now fault keeps id first then has tells = absurd tells

  then_ends : (core mid now : Cored D A) (answer : Result (Unit {0}) CoreFault) → KeepsCore disk core mid → (id : List ℕ) (first then : List (List (List ℕ)))
      → HasGrown disk accepts id first core mid → Ends disk accepts id then mid now answer → Ends disk accepts id (first ++ then) core now answer
  then_ends core mid now (Ok u) keeps id first then has ends = then_grown core mid now keeps id first then has ends
  then_ends core mid now (Err fault) keeps id first then has ends = (
    λ store.
        let among = ends.0 store in
        let done = among.0 in
        let batch = among.1 in
        let rest = among.2 in (
          first ++ done,
          batch,
          rest,
          ap (λ l. first ++ l) among.3 ∙ sym (append_assoc first done (batch ∷ rest)),
          then_breaks core mid now keeps id first done batch has among.4,
        ),
    λ other.
        let among = ends.1 other in
        let done = among.0 in
        let rest = among.1 in
        (first ++ done, rest, ap (λ l. first ++ l) among.2 ∙ sym (append_assoc first done rest), then_grown core mid now keeps id first done has among.3),
    then_tells core mid now fault keeps id first then has ends.2,
  )

  pub Commits-then : (core mid now : Cored D A) (first then : List (List (List ℕ))) (u : Unit {0}) (answer : Result (Unit {0}) CoreFault)
      → Commits disk accepts first core mid (Ok u) → Commits disk accepts then mid now answer → Commits disk accepts (first ++ then) core now answer
  Commits-then core mid now first then u answer one more = record {
    keeps = then_keeps core mid now one.keeps more.keeps;
    rose = λ e. omega (arith, one.keeps.faults, more.rose e);
    firm = λ id firm. let has = one.firm id firm in then_ends core mid now answer one.keeps id first then has (more.firm id has.firm);
  }

  -- there was no memory behind all of them
  pub Commits-no_memory : (core now : Cored D A) (batches : List (List (List ℕ))) (u : Unit {0}) → Commits disk accepts batches core now (Ok u)
      → Commits disk accepts batches core now (Err Memory)
  Commits-no_memory core now batches u commits = record {
    keeps = commits.keeps;
    rose = λ e. cc;
    firm = λ id firm. (λ store. cc, λ _. (batches, [], sym (append-nil batches), commits.firm id firm), tt);
  }

  -- ---- one line

  -- a line that was added, or had no memory, once these batches were committed
  TakesLine-pushed : (core now : Cored D A) (batch batch_now : List (List ℕ)) (line : List ℕ) (u : Unit {0}) (answer : Result (Unit {0}) CoreFault)
      → Commits disk accepts (closed_by batch line) core now (Ok u) → OnOk answer (batch_now ≡ opened_by batch line) → IfErr answer (λ fault. fault ≡ Memory)
      → TakesLine disk accepts core now batch batch_now line answer
  TakesLine-pushed core now batch batch_now line u (Ok w) commits ok err = record { commits = commits; opened = ok }
  TakesLine-pushed core now batch batch_now line u (Err fault) commits ok err = record {
    commits = subst (λ (f : CoreFault). Commits disk accepts (closed_by batch line) core now (Err f)) (sym err)
        (Commits-no_memory core now (closed_by batch line) u commits);
    opened = ok;
  }

  -- in the next batch
  pub TakesLine-next : (core now : Cored D A) (batch batch_now : List (List ℕ)) (line : List ℕ) (u : Unit {0}) (answer : Result (Unit {0}) CoreFault)
      → is_full_for MAX_BATCH_BLOCKS MAX_BATCH_BYTES batch line ≡ true → Commits disk accepts (batch ∷ []) core now (Ok u)
      → OnOk answer (batch_now ≡ line ∷ []) → IfErr answer (λ fault. fault ≡ Memory) → TakesLine disk accepts core now batch batch_now line answer
  TakesLine-next core now batch batch_now line u answer full commits ok err =
      TakesLine-pushed core now batch batch_now line u answer (rw full commits) (rw full ok) err
