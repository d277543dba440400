-- What each exit of a call of a disk in memory owes, from what the call did to the steps.
use Rattle.std.proofs.Common.{◌≡◌, ℕ, ◌+◌, ◌≤◌, List, [], ◌∷◌, Ok, Err, refl, sym, subst, arith}
use Rattle.disk_trait.specs.declared.disk.Area.{Area}
use Rattle.disk_trait.specs.Disk.{DiskView, Torn, Cut, Touches, Keeps, Writes, Cuts, Syncs}
use Rattle.disk_trait.specs.Contents.{Contents}
use Rattle.disk_trait.specs.History.{wrote, cut_to, synced, Step, AreBefore, MemDiskView, disk_view_of}
use Rattle.disk_trait.specs.Overlays.{torn_none, torn_overlay, cut_none, cut_whole}
use Rattle.disk_trait.proofs.Histories.{waits, touches, reads_new, rests, durable}

-- what keeps each area touches this one by any relation that stays in place
pub keeps_touches : (R : List ℕ → List ℕ → Type 0) (area : Area) (old new : DiskView) → ((d : List ℕ) → R d d) → Keeps old new → Touches R area old new
keeps_touches R area old new none keeps = record {
  time = keeps.time;
  here = record {
    reads = subst (λ (x : List ℕ). R (old.reads area) x) (sym (keeps.each area).reads) (none (old.reads area));
    images = λ t c from to left. (c, (keeps.each area).images t c from to left, none c);
  };
  others = λ other apart. keeps.each other;
}

-- a disk of which only this is seen
abbrev disk_of : Contents → List Step → ℕ → ℕ → MemDiskView
disk_of start steps made faults = record { start = start; steps = steps; room = record { bytes = 0; journal = 0 }; left = 0; planned = []; made = made; faults = faults }

module _ (start start' : Contents) (steps steps' : List Step) (made made' faults faults' : ℕ) (same : start' ≡ start) (before : AreBefore made steps) where
  abbrev old : MemDiskView
  old = disk_of start steps made faults

  abbrev new : MemDiskView
  new = disk_of start' steps' made' faults'

  -- a call that failed: it changed no step
  module _ (rest : steps' ≡ steps) (later : made ≤ made') where
    pub write_failed : {T E : Type 0} (e : E) (area : Area) (at : ℕ) (bytes : List ℕ) → Writes {T = T} {E = E} area at bytes (disk_view_of old) (disk_view_of new) (Err e)
    write_failed e area at bytes = record { touches = keeps_touches _ area _ _ (torn_none at _) (waits old new same rest later before); ok = tt }

    pub cut_failed : {T E : Type 0} (e : E) (area : Area) (to : ℕ) → Cuts {T = T} {E = E} area to (disk_view_of old) (disk_view_of new) (Err e)
    cut_failed e area to = record { touches = keeps_touches _ area _ _ (cut_none to) (waits old new same rest later before); ok = tt }

  -- a call that succeeded: it added its step
  module _ (call : ℕ) (area : Area) (called : call ≡ made) (counted : made' ≡ call + 1) where
    next : made' ≡ made + 1
    next = omega (arith, called, counted)

    pub write_done : {T E : Type 0} (x : T) (at : ℕ) (bytes : List ℕ) → steps' ≡ record { call = call; area = area; change = wrote at bytes } ∷ steps
        → Writes {T = T} {E = E} area at bytes (disk_view_of old) (disk_view_of new) (Ok x)
    write_done x at bytes more =
        let step : Step = record { call = call; area = area; change = wrote at bytes } in
        record {
          touches = touches old new step same more called next before (Torn at _) (torn_none at _) (λ now. torn_overlay at _ bytes now (omega arith)) (λ now earlier c h. h);
          ok = reads_new old new step same more called next before;
        }

    pub cut_done : {T E : Type 0} (x : T) (to : ℕ) → steps' ≡ record { call = call; area = area; change = cut_to to } ∷ steps
        → Cuts {T = T} {E = E} area to (disk_view_of old) (disk_view_of new) (Ok x)
    cut_done x to more =
        let step : Step = record { call = call; area = area; change = cut_to to } in
        record {
          touches = touches old new step same more called next before (Cut to) (cut_none to) (cut_whole to) (λ now earlier c h. h);
          ok = reads_new old new step same more called next before;
        }

    pub sync_done : {T E : Type 0} (x : T) → steps' ≡ record { call = call; area = area; change = synced } ∷ steps
        → Syncs {T = T} {E = E} area (disk_view_of old) (disk_view_of new) (Ok x)
    sync_done x more =
        let step : Step = record { call = call; area = area; change = synced } in
        record {
          keeps = rests old new step same more called next before (λ now earlier c h. h) (λ now. refl);
          ok = durable old new step same more called next before (λ now earlier c h. h) (λ now. refl);
        }
