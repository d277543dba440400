-- What appending the lines of an input to the core of a name comes to.
use Rattle.std.proofs.Common.{◌≡◌, ℕ, Bool, false, List, Ok, Err, inl, inr, refl, sym, ◌∙◌, ap, subst, arith}
use Rattle.std.specs.Prelude.{IsTrue, ◌⊎◌, ◌≢◌}
use Rattle.std.proofs.KnownBytes.{Keeps-refl}
use Rattle.outside_traits.specs.Faults.{Rose}
use Rattle.outside_traits.specs.Streams.{SourceView, SinkView}
use Rattle.disk_trait.specs.declared.disk.Area.TheVariants.{Oplog}
use Rattle.disk_trait.specs.Disk.{DiskView, MayStay, IsImage}
use Rattle.merkle_nodes.specs.declared.limit.Info.{Info}
use Rattle.merkle_nodes.specs.declared.limit.What.{What}
use Rattle.node_set.specs.declared.fault.CoreFault.{CoreFault}
use Rattle.node_set.specs.declared.fault.CoreFault.TheVariants.{Memory, Broken, BookFull, StoreFault, BadStore, Damaged, BadSignature, OutOfRange, Unavailable, NoNode, NoByte, NoReply, OldFork, Limit, Refused}
use Rattle.node_set.specs.Contents.{Content}
use Rattle.core_state.specs.Handing.{SameDisk}
use Rattle.core_state.specs.Events.Event.{Append}
use Rattle.core_state.specs.States.{info_of}
use Rattle.core_disk.specs.Areas.{Areas}
use Rattle.core_disk.specs.Standing.{StandsFor}
use Rattle.core_disk.specs.Firm.{IsFirmFor}
use Rattle.core_disk.specs.Cored.{Cored, disk_under, shown, IsBetween, IsNextBy}
use Rattle.core_disk.specs.Handed.{IsOpenedOn}
use Rattle.core_disk.proofs.StandingDisks.{firmly, same_firmly}
use Rattle.core_shelf.specs.declared.fault.NamedFault.TheVariants.{NoCore}
use Rattle.core_shelf.specs.Shelf.{ShelfView, Gives}
use Rattle.core_shelf.specs.Named.{TakesOut, IsRefused}
use Rattle.hypercore_cli.specs.declared.batches.AppendFault.{AppendFault}
use Rattle.hypercore_cli.specs.declared.batches.AppendFault.TheVariants.{ReadFault as ReadFails, TooLong, Core as CoreFails}
use Rattle.hypercore_cli.specs.Faults.{append_end}
use Rattle.hypercore_cli.specs.Batches.{Grows}
use Rattle.hypercore_cli.specs.Appends.{KeepsCore, IsFirm, HasGrown, IsRefused as IsRefusedAt, Commits, AppendsTo}
use Rattle.hypercore_cli.specs.Cores.{NamedCore, StoodFor}
use Rattle.hypercore_cli.specs.Extends.{GrowsTo, Grew, GrewFirst, GrewToLimit, IsLeft, Broke, Stops, RefusesLines, RefusesAppend, AppendsAll, ExtendsTo}
use Rattle.hypercore_cli.specs.declared.outcome.Outcome.{Outcome}
use Rattle.hypercore_cli.specs.declared.outcome.Outcome.TheVariants.{Done, Usage, ReadFault, WriteFault, StoreFault as StoreFails, BadForm, NotProved, BadSignature as BadHead, NoCore as Unlisted, CoreExists, OutOfRange as PastEnd, Unavailable as NotHeld, Limit as PastLimit, BadStore as BadArea, Damaged as BadHash, NoMemory}
use Rattle.hypercore_cli.proofs.OpenedCores.{taken_tells, taken_stands, shows, is_opened}

module _ {D A : Type 0} (disk : D → DiskView) (authority : A → List ℕ → List ℕ → Bool) (c : NamedCore) (tells : IsTrue c.old.honest → IsTrue (c.old.disk c.id).honest)
    (stays : (d : D) → IsTrue (disk d).honest → MayStay (disk d)) (mid : ShelfView) (core now : Cored D A)
    (taken : TakesOut disk (disk_under disk) (IsOpenedOn disk authority c.accepts c.id) c.id c.old mid core)
    (same : mid.honest ≡ c.old.honest) (gives : IsTrue mid.honest → Gives (disk_under disk now) c.id mid c.new) where
  -- the core's disk is back
  here : IsTrue c.old.honest → SameDisk (disk_under disk now) (c.new.disk c.id)
  here honest = (gives (same ∙ honest)).here

  -- a core is firm where the shelf's disk stood for a content
  is_firm : (m : Content) → StoodFor c m → IsFirm disk authority c.id core
  is_firm m stood =
      let told = taken_tells disk authority c tells mid core taken stood.honest in
      let for = taken_stands disk authority c tells mid core taken m stood in
      let firm = taken.says.firm m told for in
      record {
        honest = taken.says.leaves.honest ∙ told;
        unbroken = taken.says.unbroken;
        firm = subst (λ (f : List ℕ → List ℕ → Bool). IsFirmFor f c.id (disk core.store.disk) core.place (shown disk core)) (sym taken.says.by)
            (subst (λ (n : Content). IsFirmFor c.accepts c.id (disk core.store.disk) core.place n) (sym (shows disk authority c tells mid core taken m stood)) firm);
      }

  -- what batches make of the core's content, they make of the one for which the shelf's disk stood
  grows_too : (m : Content) → StoodFor c m → (batches : List (List (List ℕ))) (after : Content) → Grows (authority core.auth) (shown disk core) batches after → Grows c.accepts m batches after
  grows_too m stood batches after grows = subst (λ (n : Content). Grows c.accepts n batches after) (shows disk authority c tells mid core taken m stood)
      (subst (λ (f : List ℕ → List ℕ → Bool). Grows f (shown disk core) batches after) taken.says.by grows)

  -- what the core has grown to, its disk on the shelf stands for
  grown : (m : Content) → StoodFor c m → (batches : List (List (List ℕ))) → KeepsCore disk core now → HasGrown disk authority c.id batches core now
      → GrowsTo c m batches (shown disk now)
  grown m stood batches keeps has = record {
    grows = grows_too m stood batches (shown disk now) has.grows;
    stands = same_firmly _ _ _ _ (shown disk now) (here stood.honest)
        (firmly c.accepts c.id (disk now.store.disk) now.place (shown disk now) has.firm.honest (stays now.store.disk has.firm.honest)
        (subst (λ (f : List ℕ → List ℕ → Bool). IsFirmFor f c.id (disk now.store.disk) now.place (shown disk now)) (ap authority keeps.auth ∙ taken.says.by) has.firm.firm));
  }

  pub grew : (batches : List (List (List ℕ))) → Commits disk authority batches core now (Ok tt) → Grew c batches
  grew batches commits m stood = (shown disk now, grown m stood batches commits.keeps (commits.firm c.id (is_firm m stood)))

  grew_first : (batches : List (List (List ℕ))) (fault : CoreFault) → (fault ≢ StoreFault) → Commits disk authority batches core now (Err fault) → GrewFirst c batches
  grew_first batches fault other commits m stood =
      let stops = (commits.firm c.id (is_firm m stood)).1 other in
      (stops.0, stops.1, stops.2, shown disk now, grown m stood stops.0 commits.keeps stops.3)

  grew_to_limit : (batches : List (List (List ℕ))) (what : What) (max : ℕ) → Commits disk authority batches core now (Err (Limit what max)) → GrewToLimit c batches what max
  grew_to_limit batches what max commits m stood =
      let met = (commits.firm c.id (is_firm m stood)).2 in
      let by = ap authority commits.keeps.auth ∙ taken.says.by in
      let refused = subst (λ (f : List ℕ → List ℕ → Bool). IsRefusedAt f ((disk_under disk now).reads Oplog) (shown disk now) met.1 what max) by met.5 in (
        met.0,
        met.1,
        met.2,
        met.3,
        shown disk now,
        grown m stood met.0 commits.keeps met.4,
        subst (λ (area : List ℕ). IsRefusedAt c.accepts area (shown disk now) met.1 what max) (sym ((here stood.honest).reads Oplog)) refused,
      )

  -- a crash of the shelf's disk is one of the core's
  same_image : IsTrue c.old.honest → (areas : Areas) → IsImage (c.new.disk c.id) (c.new.disk c.id).moment areas → IsImage (disk_under disk now) (disk_under disk now).moment areas
  same_image honest areas image area =
      let back = here honest in
      subst (λ (t : ℕ). (disk_under disk now).image t area (areas area)) back.moment ((back.images (c.new.disk c.id).moment area (areas area)).0 (image area))

  broke : (batches : List (List (List ℕ))) → Commits disk authority batches core now (Err StoreFault) → Broke c batches
  broke batches commits m stood =
      let breaks = (commits.firm c.id (is_firm m stood)).0 refl in
      let in_one = breaks.4 in
      let before = shown disk in_one.before in (
        breaks.0,
        breaks.1,
        breaks.2,
        breaks.3,
        before,
        grows_too m stood breaks.0 before in_one.grown.grows,
        elim in_one.any_moment [
          | inl each ↦ inl (λ areas image. subst (λ (f : List ℕ → List ℕ → Bool). StandsFor f c.id areas before) taken.says.by
              (each.each (disk_under disk now).moment areas each.time.later (omega arith) (same_image stood.honest areas image)))
          | inr between ↦ inr (left m stood breaks.1 in_one.before between)
        ],
      )
    where
      left : (m : Content) → StoodFor c m → (batch : List (List ℕ)) (before : Cored D A)
          → IsBetween (authority core.auth) c.id (shown disk before) (Append batch) (disk_under disk before) (disk_under disk now) → IsLeft c (shown disk before) batch
      left m stood batch before between = record {
        after = between.after;
        entry = between.entry;
        follows = subst (λ (f : List ℕ → List ℕ → Bool). IsNextBy f (shown disk before) (Append batch) between.after between.entry) taken.says.by between.follows;
        oplog = (disk_under disk before).reads Oplog;
        file = between.file;
        is_file = between.is_file;
        images = λ areas image chance. subst (λ (f : List ℕ → List ℕ → Bool). StandsFor f c.id areas (shown disk before) ⊎ StandsFor f c.id areas between.after) taken.says.by
            (between.any_moment (disk_under disk now).moment areas between.time.later (omega arith) (same_image stood.honest areas image) chance);
      }

  -- where the count of faults of the core's disk rose, so did the shelf's
  module _ (rises : Rose (disk_under disk core).faults (disk_under disk now).faults → Rose c.old.faults c.new.faults) where
    core_refuses : (input input_now : SourceView) (fault : CoreFault) → (fault ≢ StoreFault) → AppendsTo disk authority input input_now core now (Err (CoreFails fault)) → Stops c input input_now
    core_refuses input input_now fault other told = (told.3, (told.0, told.1, told.2, told.4), grew_first told.3 fault other told.5)

    pub refuses_lines : (input input_now : SourceView) (fault : AppendFault) → AppendsTo disk authority input input_now core now (Err fault)
        → RefusesLines c input input_now (append_end fault)
    refuses_lines input input_now ReadFails told = (told.0, told.1, told.2, told.3, told.4, grew _ told.5)
    refuses_lines input input_now TooLong told = inl (refl, refl, (told.0, told.1, told.2, told.3, grew _ told.4))
    refuses_lines input input_now (CoreFails Memory) told = core_refuses input input_now Memory (λ e. cc) told
    refuses_lines input input_now (CoreFails (Broken count)) told = core_refuses input input_now (Broken count) (λ e. cc) told
    refuses_lines input input_now (CoreFails BookFull) told = core_refuses input input_now BookFull (λ e. cc) told
    refuses_lines input input_now (CoreFails StoreFault) told = (rises (told.5.rose refl), told.3, (told.0, told.1, told.2, told.4), broke told.3 told.5)
    refuses_lines input input_now (CoreFails (BadStore area at)) told = core_refuses input input_now (BadStore area at) (λ e. cc) told
    refuses_lines input input_now (CoreFails (Damaged place want have)) told = core_refuses input input_now (Damaged place want have) (λ e. cc) told
    refuses_lines input input_now (CoreFails BadSignature) told = core_refuses input input_now BadSignature (λ e. cc) told
    refuses_lines input input_now (CoreFails (OutOfRange end)) told = core_refuses input input_now (OutOfRange end) (λ e. cc) told
    refuses_lines input input_now (CoreFails (Unavailable index)) told = core_refuses input input_now (Unavailable index) (λ e. cc) told
    refuses_lines input input_now (CoreFails (NoNode index)) told = core_refuses input input_now (NoNode index) (λ e. cc) told
    refuses_lines input input_now (CoreFails (NoByte byte)) told = core_refuses input input_now (NoByte byte) (λ e. cc) told
    refuses_lines input input_now (CoreFails NoReply) told = core_refuses input input_now NoReply (λ e. cc) told
    refuses_lines input input_now (CoreFails (OldFork have)) told = core_refuses input input_now (OldFork have) (λ e. cc) told
    refuses_lines input input_now (CoreFails (Limit what max)) told = inr (told.3, (told.0, told.1, told.2, told.4), grew_to_limit told.3 what max told.5)
    refuses_lines input input_now (CoreFails (Refused refusal)) told = core_refuses input input_now (Refused refusal) (λ e. cc) told

  pub appends_all : (input input_now : SourceView) (info : Info) → info ≡ info_of (shown disk now)
      → (IsTrue c.old.honest → IsRefused {C = Cored D A} NoCore (c.old.marked c.id ≡ false) (Ok core))
      → AppendsTo disk authority input input_now core now (Ok tt) → AppendsAll c input input_now info
  appends_all input input_now info is refused told = (
    (shown disk core, is_opened disk authority c tells mid core taken refused),
    told.0,
    told.1,
    λ m stood. (shown disk now, grown m stood _ told.2.keeps (told.2.firm c.id (is_firm m stood)), ap (λ (i : Info). i.length) (sym is), ap (λ (i : Info). i.fork) (sym is)),
  )

-- an append that is refused writes nothing
pub refused_append : (c : NamedCore) (input input_now : SourceView) (output : SinkView) (outcome : Outcome) → RefusesAppend c input input_now outcome
    → ExtendsTo c input input_now output output outcome
refused_append c input input_now output Done refuses = elim refuses [ inl opening ↦ absurd opening | inr lines ↦ absurd lines.1 ]
refused_append c input input_now output WriteFault refuses = elim refuses [ inl opening ↦ absurd opening | inr lines ↦ absurd lines.1 ]
refused_append c input input_now output Usage refuses = (refuses, Keeps-refl output.holds)
refused_append c input input_now output ReadFault refuses = (refuses, Keeps-refl output.holds)
refused_append c input input_now output StoreFails refuses = (refuses, Keeps-refl output.holds)
refused_append c input input_now output (BadForm at) refuses = (refuses, Keeps-refl output.holds)
refused_append c input input_now output (NotProved index want have) refuses = (refuses, Keeps-refl output.holds)
refused_append c input input_now output BadHead refuses = (refuses, Keeps-refl output.holds)
refused_append c input input_now output Unlisted refuses = (refuses, Keeps-refl output.holds)
refused_append c input input_now output CoreExists refuses = (refuses, Keeps-refl output.holds)
refused_append c input input_now output (PastEnd end) refuses = (refuses, Keeps-refl output.holds)
refused_append c input input_now output (NotHeld index) refuses = (refuses, Keeps-refl output.holds)
refused_append c input input_now output (PastLimit what max) refuses = (refuses, Keeps-refl output.holds)
refused_append c input input_now output (BadArea area at) refuses = (refuses, Keeps-refl output.holds)
refused_append c input input_now output (BadHash place want have) refuses = (refuses, Keeps-refl output.holds)
refused_append c input input_now output NoMemory refuses = (refuses, Keeps-refl output.holds)
