-- What each exit of a call that writes a change file owes, from what its calls of the disk did.
use Rattle.std.proofs.Common.{◌≡◌, ◌⊎◌, inl, inr, ℕ, ◌+◌, ◌^◌, ◌<◌, ◌≤◌, Bool, true, false, List, [], ◌∷◌, ◌++◌, length, take, Result, Ok, Err, is_err, OnOk, refl, sym, ◌∙◌, ap, subst, arith, length-take, length-append, ◌==◌, ◌&&◌, nat_lt, if◌then◌else◌}
use Rattle.std.proofs.lemmas.Bool.{cases_lt, and_parts, eqb-true, eqb-false, ltb-true, ltb-false}
use Rattle.std.proofs.lemmas.List.{take_all, drop_all, append-nil}
use Rattle.disk_trait.specs.declared.disk.Area.{Area}
use Rattle.disk_trait.specs.declared.disk.Area.TheVariants.{Oplog}
use Rattle.disk_trait.specs.Disk.{DiskView, Elapses, Rests, Torn, Cut, Touches, Keeps, Writes, Cuts, Syncs, IsSynced, MayStay, Counts, overlay}
use Rattle.disk_trait.specs.Overlays.{cut_none}
use Rattle.disk_trait.proofs.Runs.{elapses_on, keeps_none, touches_keeps}
use Rattle.node_set.specs.declared.fault.CoreFault.{CoreFault}
use Rattle.node_set.specs.declared.fault.CoreFault.TheVariants.{StoreFault}
use Rattle.oplog_form.specs.declared.entry.TheConstants.{MAX_ENTRY_BYTES}
use Rattle.oplog_form.specs.declared.header.TheConstants.{MAX_HEADER_BYTES}
use Rattle.oplog_file.specs.declared.layout.TheConstants.{SLOT_BYTES, ENTRIES_AT}
use Rattle.oplog_file.specs.Frames.{FrameFits, frame_spelling}
use Rattle.oplog_file.specs.Slots.{slot_of}
use Rattle.oplog_file.specs.Counting.{bytes_of, FindsRoom}
use Rattle.oplog_file.specs.Files.{File, IsFile, end_of, next_frame}
use Rattle.oplog_file.specs.Writers.{Place, IsBehind, Passes, with_entry, new_file, new_header, IsTrim, MayCutAt, IsFirmFile, AddsEntry, CutsTail, MakesFile}
use Rattle.oplog_file.specs.Storing.{Calls, Stores, Shortens, Remakes, trimmed_to, entry_frame}
use Rattle.oplog_file.proofs.ImageLaws.{torn_entry, bytes_between}
use Rattle.oplog_file.proofs.CutLaws.{cut_file, torn_cut, no_entries}
use Rattle.oplog_file.proofs.WholeLaws.{whole_entry, whole_trim, whole_header, header_trim}

-- ---- runs of calls

-- a call that touches nothing touches this area by any relation that stays in place
pub keeps_touches : (R : List ℕ → List ℕ → Type 0) (area : Area) (old new : DiskView) → ((d : List ℕ) → R d d) → Keeps old new → Touches R area old new
keeps_touches R area old new none keeps = record {
  time = keeps.time;
  here = record {
    reads = subst (λ (x : List ℕ). R (old.reads area) x) (sym (keeps.each area).reads) (none (old.reads area));
    images = λ t c from to left. (c, (keeps.each area).images t c from to left, none c);
  };
  others = λ other apart. keeps.each other;
}

rests_on : (area : Area) (old mid new : DiskView) → Elapses old mid → Elapses mid new → Rests area old mid → Rests area mid new → Rests area old new
rests_on area old mid new one two first second = record {
  reads = second.reads ∙ first.reads;
  images = λ t c from to image. elim (cases_lt mid.moment t) [
    | inl after ↦ first.images mid.moment c one.later (omega arith) (second.images t c (omega (arith, after)) to image)
    | inr before ↦ first.images t c from before ((two.past t area c before).0 image)
  ];
}

-- a call that touches nothing, and then one that touches one area
pub keeps_then_touches : (R : List ℕ → List ℕ → Type 0) (area : Area) (old mid new : DiskView) → ((d : List ℕ) → R d d) → Keeps old mid → Touches R area mid new → Touches R area old new
keeps_then_touches R area old mid new none keeps touches = record {
  time = elapses_on old mid new keeps.time touches.time;
  here = record {
    reads = subst (λ (x : List ℕ). R x (new.reads area)) (keeps.each area).reads touches.here.reads;
    images = λ t c from to image. elim (cases_lt mid.moment t) [
      | inl after ↦
          let taken = touches.here.images t c (omega (arith, after)) to image in
          (taken.0, (keeps.each area).images mid.moment taken.0 keeps.time.later (omega arith) taken.1, taken.2)
      | inr before ↦ (c, (keeps.each area).images t c from before ((touches.time.past t area c before).0 image), none c)
    ];
  };
  others = λ other apart. rests_on other old mid new keeps.time touches.time (keeps.each other) (touches.others other apart);
}

on_any : {T E X : Type 0} (answer : Result T E) → X → OnOk answer X
on_any (Ok t) x = x
on_any (Err e) x = tt

on_ok : {T E X Y : Type 0} (answer : Result T E) → (X → Y) → OnOk answer X → OnOk answer Y
on_ok (Ok t) f x = f x
on_ok (Err e) f x = tt

on_both : {T E X Y Z : Type 0} (answer : Result T E) → (X → Y → Z) → OnOk answer X → OnOk answer Y → OnOk answer Z
on_both (Ok t) f x y = f x y
on_both (Err e) f x y = tt

-- ---- a write, a cut, a sync

pub stored : {T E S F : Type 0} (at : ℕ) (bytes : List ℕ) (old mid new : DiskView) (x : S) (answer : Result T E) → Writes {T = S} {E = F} Oplog at bytes old mid (Ok x) → Syncs {T = T} {E = E} Oplog mid new answer
    → Stores {T = T} {E = E} at bytes old new answer
stored at bytes old mid new x answer writes syncs = record {
  touches = touches_keeps (Torn at (length bytes)) Oplog old mid new writes.touches syncs.keeps;
  whole = on_any answer ((syncs.keeps.each Oplog).reads ∙ writes.ok);
  synced = syncs.ok;
}

pub store_failed : {T E S F : Type 0} (at : ℕ) (bytes : List ℕ) (old new : DiskView) (e : F) (e' : E) → Writes {T = S} {E = F} Oplog at bytes old new (Err e) → Stores {T = T} {E = E} at bytes old new (Err e')
store_failed at bytes old new e e' writes = record { touches = writes.touches; whole = tt; synced = tt }

pub shortened : {T E S F : Type 0} (to : ℕ) (old mid new : DiskView) (x : S) (answer : Result T E) → Cuts {T = S} {E = F} Oplog to old mid (Ok x) → Syncs {T = T} {E = E} Oplog mid new answer
    → Shortens {T = T} {E = E} to old new answer
shortened to old mid new x answer cuts syncs = record {
  touches = touches_keeps (Cut to) Oplog old mid new cuts.touches syncs.keeps;
  whole = on_any answer ((syncs.keeps.each Oplog).reads ∙ cuts.ok);
  synced = syncs.ok;
}

pub shorten_failed : {T E S F : Type 0} (to : ℕ) (old new : DiskView) (e : F) (e' : E) → Cuts {T = S} {E = F} Oplog to old new (Err e) → Shortens {T = T} {E = E} to old new (Err e')
shorten_failed to old new e e' cuts = record { touches = cuts.touches; whole = tt; synced = tt }

pub short_enough : {T E : Type 0} (to : ℕ) (old new : DiskView) (answer : Result T E) → length (old.reads Oplog) ≤ to → Syncs {T = T} {E = E} Oplog old new answer → Shortens {T = T} {E = E} to old new answer
short_enough to old new answer short syncs = record {
  touches = keeps_touches (Cut to) Oplog old new (cut_none to) syncs.keeps;
  whole = on_any answer ((syncs.keeps.each Oplog).reads ∙ sym (take_all to (old.reads Oplog) short));
  synced = syncs.ok;
}

pub shorten_asked : {T E : Type 0} (to : ℕ) (old mid new : DiskView) (answer : Result T E) → Keeps old mid → Shortens {T = T} {E = E} to mid new answer → Shortens {T = T} {E = E} to old new answer
shorten_asked to old mid new answer keeps shortens = record {
  touches = keeps_then_touches (Cut to) Oplog old mid new (cut_none to) keeps shortens.touches;
  whole = on_ok answer (λ is. is ∙ ap (take to) (keeps.each Oplog).reads) shortens.whole;
  synced = shortens.synced;
}

pub shorten_none : {T E : Type 0} (to : ℕ) (old new : DiskView) (e : E) → Keeps old new → Shortens {T = T} {E = E} to old new (Err e)
shorten_none to old new e keeps = record { touches = keeps_touches (Cut to) Oplog old new (cut_none to) keeps; whole = tt; synced = tt }

pub shorten_there : {T E : Type 0} (to to' : ℕ) (old new : DiskView) (answer : Result T E) → to ≡ to' → Shortens {T = T} {E = E} to old new answer → Shortens {T = T} {E = E} to' old new answer
shorten_there {T} {E} to to' old new answer same shortens = subst (λ n. Shortens {T = T} {E = E} n old new answer) same shortens

-- ---- the count of calls, and the causes

-- one call
pub calls_one : {T S F : Type 0} (old new : DiskView) (given : Result S F) (answer : Result T CoreFault) → Counts {T = S} {E = F} old new given
    → ((e : CoreFault) → answer ≡ Err e → (f : F) × (given ≡ Err f)) → Calls {T = T} 1 old new answer
calls_one old new given answer counts fails = record {
  honest = counts.honest;
  few = omega (arith, counts.calls);
  kept = counts.cause.kept;
  rose = λ is. let failed = fails StoreFault is in counts.cause.rose (ap is_err failed.1);
}

pub calls_on : {T S : Type 0} (a b : ℕ) (old mid new : DiskView) (x : S) (answer : Result T CoreFault) → Calls {T = S} a old mid (Ok x) → Calls {T = T} b mid new answer → Calls {T = T} (a + b) old new answer
calls_on a b old mid new x answer first second = record {
  honest = second.honest ∙ first.honest;
  few = omega (arith, first.few, second.few);
  kept = omega (arith, first.kept, second.kept);
  rose = λ is. omega (arith, second.rose is, first.kept);
}

-- ---- an entry more

-- what is synced and is this file is firm
firm_file : (file : File) (disk : DiskView) → IsSynced Oplog disk → IsFile (disk.reads Oplog) file → IsFirmFile file disk
firm_file file disk synced is c image = subst (λ l. IsFile l file) (sym (synced c image)) is

module _ {T E : Type 0} (place : Place) (file : File) (payload : List ℕ) (old new : DiskView) (answer : Result T E) (stays : MayStay old) (behind : IsBehind place file)
    (epoch : place.epoch < 2 ^ 64) (number : place.count + 1 < 2 ^ 32) (some : 0 < length payload) (few : length payload ≤ MAX_ENTRY_BYTES) (room : FindsRoom place.used (length payload)) where
  same_frame : entry_frame place payload ≡ next_frame file payload
  same_frame = ap (λ e. record { epoch = e; number = place.count + 1; payload = payload }) behind.epoch ∙ ap (λ n. record { epoch = file.header.epoch; number = n + 1; payload = payload }) behind.count

  same_end : ENTRIES_AT + place.used ≡ end_of file
  same_end = ap (λ n. ENTRIES_AT + n) behind.used

  fits : FrameFits MAX_ENTRY_BYTES (next_frame file payload)
  fits = subst (FrameFits MAX_ENTRY_BYTES) same_frame (record { epoch = epoch; number = number; payload = few })

  here : Stores {T = T} {E = E} (ENTRIES_AT + place.used) (frame_spelling (entry_frame place payload)) old new answer → Stores {T = T} {E = E} (end_of file) (frame_spelling (next_frame file payload)) old new answer
  here stores =
      subst (λ f. Stores {T = T} {E = E} (end_of file) (frame_spelling f) old new answer) same_frame
      (subst (λ n. Stores {T = T} {E = E} n (frame_spelling (entry_frame place payload)) old new answer) same_end stores)

  added : (whole : new.reads Oplog ≡ overlay (end_of file) (frame_spelling (next_frame file payload)) (old.reads Oplog)) → IsSynced Oplog new → IsFile (old.reads Oplog) file → IsTrim file (old.reads Oplog)
      → IsFile (new.reads Oplog) (with_entry payload file) × IsTrim (with_entry payload file) (new.reads Oplog) × IsFirmFile (with_entry payload file) new
  added whole synced is trim =
      let space : FindsRoom (bytes_of file.frames) (length payload) = subst (λ n. FindsRoom n (length payload)) behind.used room in
      let now : IsFile (new.reads Oplog) (with_entry payload file) = subst (λ l. IsFile l (with_entry payload file)) (sym whole) (whole_entry (old.reads Oplog) file payload is trim fits some space) in
      (now, subst (IsTrim (with_entry payload file)) (sym whole) (whole_trim (old.reads Oplog) file payload is trim fits some space), firm_file (with_entry payload file) new synced now)

  pub adds_entry : Stores {T = T} {E = E} (ENTRIES_AT + place.used) (frame_spelling (entry_frame place payload)) old new answer → AddsEntry {T = T} {E = E} file payload old new answer
  adds_entry stores_there =
      let stores = here stores_there in
      record {
        time = stores.touches.time;
        others = stores.touches.others;
        any_moment = λ firm t c from to image none.
            let taken = stores.touches.here.images t c from to image in
            torn_entry (old.reads Oplog) taken.0 c file payload (firm (old.reads Oplog) (stays Oplog)) (firm taken.0 taken.1) taken.2.front none;
        ok = λ is trim. on_both answer (λ whole synced. added whole synced is trim) stores.whole stores.synced;
      }

-- the same from the numbers in hand, and the bytes that were written
pub adds_written : {T E : Type 0} (place held : Place) (file : File) (payload bytes : List ℕ) (at : ℕ) (old new : DiskView) (answer : Result T E) → MayStay old → IsBehind place file → place ≡ held
    → held.epoch < 2 ^ 64 → held.count + 1 < 2 ^ 32 → 0 < length payload → length payload ≤ MAX_ENTRY_BYTES → FindsRoom place.used (length payload)
    → at ≡ ENTRIES_AT + held.used → bytes ≡ frame_spelling (entry_frame held payload) → Stores {T = T} {E = E} at bytes old new answer → AddsEntry {T = T} {E = E} file payload old new answer
adds_written {T} {E} place held file payload bytes at old new answer stays behind same epoch number some few room at_is bytes_are stores =
    let there : Stores {T = T} {E = E} (ENTRIES_AT + held.used) (frame_spelling (entry_frame held payload)) old new answer =
    subst (λ l. Stores {T = T} {E = E} (ENTRIES_AT + held.used) l old new answer) bytes_are (subst (λ n. Stores {T = T} {E = E} n bytes old new answer) at_is stores) in
    adds_entry held file payload old new answer stays (subst (λ p. IsBehind p file) same behind) epoch number some few (subst (λ (p : Place). FindsRoom p.used (length payload)) same room) there

pub behind_more : (old new : Place) (file : File) (payload : List ℕ) → IsBehind old file → Passes (entry_frame old payload) old new → IsBehind new (with_entry payload file)
behind_more old new file payload behind passes =
    let size : length (file.frames ++ next_frame file payload ∷ []) ≡ length file.frames + 1 = length-append file.frames (next_frame file payload ∷ []) in
    record {
      epoch = passes.epoch ∙ behind.epoch;
      count = omega (arith, passes.count, behind.count, size);
      used = omega (arith, passes.used, behind.used, bytes_between file.frames [] (next_frame file payload));
    }

-- ---- the tail cut

module _ (file : File) (area : List ℕ) (is : IsFile area file) where
  trims : (to : ℕ) → (b : Bool) → slot_of file.header.epoch == 0 && nat_lt (length area) ENTRIES_AT ≡ b → to ≡ (if b then SLOT_BYTES else ENTRIES_AT + bytes_of file.frames)
      → MayCutAt file to × IsTrim file (take to area)
  trims to true test is_to =
      let tests = and_parts _ _ test in
      let slot : slot_of file.header.epoch ≡ 0 = eqb-true _ _ tests.0 in
      let none : file.frames ≡ [] = sym is.frames_are ∙ no_entries file.header.epoch area (omega (arith, ltb-true _ _ tests.1)) in
      let short : length (take to area) ≤ SLOT_BYTES = omega (arith, is_to, length-take to area) in
      (inr (slot, none, omega (arith, is_to)), record { behind = omega (arith, short); slots = inr (inl short) })
  trims to false test is_to = (inl (omega (arith, is_to)), record { behind = omega (arith, is_to, length-take to area); slots = slots (or_not _ _ test) })
    where
      or_not : (x y : Bool) → (x && y) ≡ false → (x ≡ false) ⊎ (y ≡ false)
      or_not true y h = inr h
      or_not false y h = inl refl

      slots : (slot_of file.header.epoch == 0 ≡ false) ⊎ (nat_lt (length area) ENTRIES_AT ≡ false) → (slot_of file.header.epoch ≡ 1) ⊎ ((length (take to area) ≤ SLOT_BYTES) ⊎ (ENTRIES_AT ≤ length (take to area)))
      slots (inl odd) = inl (omega (arith, eqb-false _ _ odd))
      slots (inr long) = inr (inr (omega (arith, is_to, ltb-false _ _ long, length-take to area)))

pub cuts_tail : {T E : Type 0} (place : Place) (file : File) (size : ℕ) (old new : DiskView) (answer : Result T E) → MayStay old → IsBehind place file → size ≡ length (old.reads Oplog)
    → Shortens {T = T} {E = E} (trimmed_to place.epoch place.used size) old new answer → CutsTail {T = T} {E = E} file old new answer
cuts_tail {T} {E} place file size old new answer stays behind size_is shortens =
    let to : ℕ = trimmed_to place.epoch place.used size in
    let to_is : to ≡ trimmed_to file.header.epoch (bytes_of file.frames) (length (old.reads Oplog)) =
    ap (λ e. trimmed_to e place.used size) behind.epoch ∙ ap (λ n. trimmed_to file.header.epoch n size) behind.used ∙ ap (trimmed_to file.header.epoch (bytes_of file.frames)) size_is in
    let trim : IsFile (old.reads Oplog) file → MayCutAt file to × IsTrim file (take to (old.reads Oplog)) =
    λ is. trims file (old.reads Oplog) is to (slot_of file.header.epoch == 0 && nat_lt (length (old.reads Oplog)) ENTRIES_AT) refl to_is in
    record {
      time = shortens.touches.time;
      others = shortens.touches.others;
      any_moment = λ firm t c from till image.
          let taken = shortens.touches.here.images t c from till image in
          torn_cut taken.0 c file to (firm taken.0 taken.1) (trim (firm (old.reads Oplog) (stays Oplog))).0 taken.2;
      ok = λ is. on_both answer (λ whole synced.
          let now : IsFile (new.reads Oplog) file = subst (λ l. IsFile l file) (sym whole) (cut_file (old.reads Oplog) file to is (trim is).0) in
          (now, subst (IsTrim file) (sym whole) (trim is).1, firm_file file new synced now)) shortens.whole shortens.synced;
    }

-- ---- a new file

overlay_nothing : (bytes : List ℕ) → overlay 0 bytes [] ≡ bytes
overlay_nothing [] = refl
overlay_nothing (b ∷ bytes) = ap (λ (l : List ℕ). (b ∷ bytes) ++ l) (drop_all (0 + length (b ∷ bytes)) [] (omega arith)) ∙ append-nil (b ∷ bytes)

pub remade : {T E S : Type 0} (bytes : List ℕ) (old mid new : DiskView) (x : S) (answer : Result T E) → Shortens {T = S} {E = E} 0 old mid (Ok x) → Stores {T = T} {E = E} 0 bytes mid new answer
    → Remakes {T = T} {E = E} bytes old new answer
remade bytes old mid new x answer empties stores =
    let nothing : mid.reads Oplog ≡ [] = empties.whole in
    record {
      time = elapses_on old mid new empties.touches.time stores.touches.time;
      others = λ other apart. rests_on other old mid new empties.touches.time stores.touches.time (empties.touches.others other apart) (stores.touches.others other apart);
      halves = λ t c from to image. elim (cases_lt mid.moment t) [
        | inl after ↦
            let taken = stores.touches.here.images t c (omega (arith, after)) to image in
            inr (subst (λ l. Torn 0 (length bytes) l c) (empties.synced taken.0 taken.1 ∙ nothing) taken.2)
        | inr before ↦ inl (empties.touches.here.images t c from before ((stores.touches.time.past t Oplog c before).0 image))
      ];
      whole = on_ok answer (λ is. is ∙ ap (overlay 0 bytes) nothing) stores.whole;
      synced = stores.synced;
    }

pub remake_failed : {T S E : Type 0} (bytes : List ℕ) (old new : DiskView) (e e' : E) → Shortens {T = S} {E = E} 0 old new (Err e) → Remakes {T = T} {E = E} bytes old new (Err e')
remake_failed bytes old new e e' empties = record {
  time = empties.touches.time;
  others = empties.touches.others;
  halves = λ t c from to image. inl (empties.touches.here.images t c from to image);
  whole = tt;
  synced = tt;
}

pub remakes_there : {T E : Type 0} (bytes bytes' : List ℕ) (old new : DiskView) (answer : Result T E) → bytes ≡ bytes' → Remakes {T = T} {E = E} bytes old new answer → Remakes {T = T} {E = E} bytes' old new answer
remakes_there {T} {E} bytes bytes' old new answer same remakes = subst (λ l. Remakes {T = T} {E = E} l old new answer) same remakes

pub makes_file : {T S E : Type 0} (payload : List ℕ) (old new : DiskView) (x : T) (y : S) → length payload ≤ MAX_HEADER_BYTES → Remakes {T = S} {E = E} (frame_spelling (new_header payload)) old new (Ok y)
    → MakesFile {T = T} {E = E} payload old new (Ok x)
makes_file payload old new x y few remakes =
    let text : List ℕ = frame_spelling (new_header payload) in
    let whole : new.reads Oplog ≡ text = remakes.whole ∙ overlay_nothing text in
    let now : IsFile (new.reads Oplog) (new_file payload) = subst (λ l. IsFile l (new_file payload)) (sym whole) (whole_header payload few) in
    record {
      time = remakes.time;
      others = remakes.others;
      any_moment = remakes.halves;
      ok = (now, subst (IsTrim (new_file payload)) (sym whole) (header_trim payload few), firm_file (new_file payload) new remakes.synced now);
    }

pub make_failed : {T S E : Type 0} (payload : List ℕ) (old new : DiskView) (e e' : E) → Remakes {T = S} {E = E} (frame_spelling (new_header payload)) old new (Err e) → MakesFile {T = T} {E = E} payload old new (Err e')
make_failed payload old new e e' remakes = record { time = remakes.time; others = remakes.others; any_moment = remakes.halves; ok = tt }

-- no call was made
pub make_none : {T E : Type 0} (payload : List ℕ) (disk : DiskView) (e : E) → MakesFile {T = T} {E = E} payload disk disk (Err e)
make_none payload disk e =
    let touches = keeps_touches (Cut 0) Oplog disk disk (cut_none 0) (keeps_none disk) in
    record { time = touches.time; others = touches.others; any_moment = λ t c from to image. inl (touches.here.images t c from to image); ok = tt }
