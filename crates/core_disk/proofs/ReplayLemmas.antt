-- What the entries of a change file give, one after the other.
use Rattle.std.proofs.Common.{◌≡◌, ◌⊎◌, inl, inr, ℕ, suc, ◌+◌, ◌≤◌, Bool, true, false, List, [], ◌∷◌, ◌++◌, length, drop, None, Result, Ok, Err, refl, sym, ap, ◌∙◌, append_assoc, append-nil, length-append, arith}
use Rattle.std.proofs.lemmas.List.{length-drop, length-take}
use mathlib.Core.Path.{fun_ext}
use Rattle.merkle_nodes.specs.declared.node.Node.{Node}
use Rattle.merkle_nodes.specs.declared.roots.Head.{Head}
use Rattle.merkle_nodes.specs.Joined.{Values, or_value}
use Rattle.oplog_form.specs.declared.entry.Entry.{Entry}
use Rattle.oplog_form.specs.Entries.{entry_of}
use Rattle.oplog_file.specs.declared.layout.TheConstants.{ENTRIES_AT, MAX_ENTRIES_BYTES}
use Rattle.oplog_file.specs.Frames.{Frame, frame_bytes}
use Rattle.oplog_file.specs.Slots.{in_area}
use Rattle.oplog_file.specs.Counting.{entries_part, Count, frames_up_to, entry_frames, entry_at}
use Rattle.oplog_file.specs.Files.{File, IsFile}
use Rattle.oplog_file.specs.Writers.{Place, IsInFront, IsBehind, frame_behind}
use Rattle.oplog_file.specs.Passing.{PassesNext, StandsLast, HasPassed, entry_passed}
use Rattle.oplog_file.proofs.CountLaws.{frames_count, entry_frames_count, entry_bytes}
use Rattle.oplog_file.proofs.PassLaws.{passed_none, passed_more, passed_all, passed_behind}
use Rattle.core_state.proofs.AdmitShows.{put_over}
use Rattle.core_disk.specs.Opened.{Opened, values_in, entry_after}
use Rattle.core_disk.specs.Following.{follows}
use Rattle.core_disk.specs.Areas.{entries_give}
use Rattle.core_disk.specs.InHand.{Agrees}
use Rattle.disk_trait.specs.Disk.{DiskView}
use Rattle.node_set.specs.declared.fault.CoreFault.{CoreFault}
use Rattle.node_set.specs.declared.fault.CoreFault.TheVariants.{Memory, StoreFault, BadStore}
use Rattle.oplog_file.specs.Passing.{Consults}
use Rattle.core_disk.specs.Copying.{HasConsulted}
use Rattle.core_disk.specs.Replaying.{FailsPassed, DoesNext, IsReplayed, ReplaysNext, TellsBad}

-- ---- what agrees goes on to agree

pub agrees_self : (o : Opened) → Agrees o o
agrees_self o = record { head = refl; roots = refl; held = λ index. refl; nodes = λ depth offset low. refl }

pub agrees_then : (one mid other : Opened) → Agrees one mid → Agrees mid other → Agrees one other
agrees_then one mid other first second = record {
  head = first.head ∙ second.head;
  roots = first.roots ∙ second.roots;
  held = λ index. first.held index ∙ second.held index;
  nodes = λ depth offset low. first.nodes depth offset low ∙ second.nodes depth offset low;
}

-- one that differs in its nodes alone
abbrev bare : Head → List Node → (ℕ → Bool) → Values → Opened
bare head roots held nodes = record { head = head; roots = roots; held = held; nodes = nodes }

module _ (one other : Opened) (e : Entry) (same : Agrees one other) where
  but_nodes : bare one.head one.roots one.held other.nodes ≡ other
  but_nodes =
      ap (λ (h : Head). bare h one.roots one.held other.nodes) same.head
      ∙ ap (λ (ns : List Node). bare other.head ns one.held other.nodes) same.roots
      ∙ ap (λ (f : ℕ → Bool). bare other.head other.roots f other.nodes) (fun_ext same.held)

  -- an entry follows both or neither
  pub follows_same : follows one e ≡ follows other e
  follows_same = ap (λ (o : Opened). follows o e) but_nodes

  pub after_agrees : Agrees (entry_after one e) (entry_after other e)
  after_agrees = record {
    head = refl;
    roots = ap (λ (o : Opened). (entry_after o e).roots) but_nodes;
    held = λ index. ap (λ (o : Opened). (entry_after o e).held index) but_nodes;
    nodes = λ depth offset low.
        put_over e.records one.nodes depth offset ∙ ap (λ v. or_value (values_in e.records depth offset) v) (same.nodes depth offset low)
        ∙ sym (put_over e.records other.nodes depth offset);
  }

-- ---- one entry

module _ (used : ℕ) (o : Opened) (f : Frame) (frames : List Frame) where
  give_next : (e : Entry) → entry_at used f ≡ Ok e → follows o e ≡ true → entries_give used o (f ∷ frames) ≡ entries_give (used + frame_bytes f) (entry_after o e) frames
  unfolding entries_give
  give_next e read is = rw (read, is) refl

  give_bad : (at : ℕ) → entry_at used f ≡ Err at → entries_give used o (f ∷ frames) ≡ Err at
  unfolding entries_give
  give_bad at read = rw read refl

  give_fails : (e : Entry) → entry_at used f ≡ Ok e → follows o e ≡ false → entries_give used o (f ∷ frames) ≡ Err (ENTRIES_AT + used)
  unfolding entries_give
  give_fails e read is = rw (read, is) refl

give_none : (used : ℕ) (o : Opened) → entries_give used o [] ≡ Ok o
unfolding entries_give
give_none used o = refl

-- ---- the entries so far

-- no more frames count than there are bytes
count_few : (epoch at : ℕ) (bytes : List ℕ) (frames : List Frame) → Count epoch at bytes frames → length frames ≤ length bytes
count_few epoch at bytes [] counts = omega arith
count_few epoch at bytes (f ∷ frames) counts =
    let here = entry_bytes epoch at bytes f counts.0 in
    let rest = count_few epoch (suc at) (drop (frame_bytes f) bytes) frames counts.1 in
    omega (arith, here.0, here.1, rest, length-drop (frame_bytes f) bytes)

-- from the first state on, the entries of the frames that were passed give what is in memory
pub record HasReplayed (area : List ℕ) (epoch : ℕ) (first : Opened) (place : Place) (now : Opened) (count : ℕ) : Type 0 where
  pub passed : List Frame
  pub has : HasPassed area place passed
  pub epoch_is : place.epoch ≡ epoch
  pub long : count ≡ length passed
  pub opened : Opened
  pub agrees : Agrees now opened
  pub gives : (frames : List Frame) → entries_give 0 first (passed ++ frames) ≡ entries_give place.used opened frames

module _ (area : List ℕ) (first : Opened) where
  pub replayed_none : (place : Place) (epoch : ℕ) → IsInFront place epoch → HasReplayed area place.epoch first place first 0
  replayed_none place epoch front = record {
    passed = [];
    has = passed_none area place epoch front;
    epoch_is = refl;
    long = refl;
    opened = first;
    agrees = agrees_self first;
    gives = λ frames. ap (λ n. entries_give n first frames) (sym front.unused);
  }

  module _ (epoch : ℕ) (place : Place) (now : Opened) (count : ℕ) (so_far : HasReplayed area epoch first place now count) where
    -- the entry of the next frame
    next_entry : (new : Place) (next : PassesNext area place new) → entry_passed new ≡ entry_at place.used next.next
    next_entry new next =
        ap (λ n. in_area (ENTRIES_AT + n) (entry_of new.payload)) next.passes.last
        ∙ ap (λ (l : List ℕ). in_area (ENTRIES_AT + place.used) (entry_of l)) next.passes.payload

    pub replayed_more : (new : Place) (later : Opened) → DoesNext area place new now later → HasReplayed area epoch first new later (count + 1)
    replayed_more new later one =
        let f = one.moves.next in
        let e = one.does.entry in
        record {
          passed = so_far.passed ++ f ∷ [];
          has = passed_more area place new so_far.passed so_far.has one.moves;
          epoch_is = one.moves.passes.epoch ∙ so_far.epoch_is;
          long = omega (arith, so_far.long, length-append so_far.passed (f ∷ []));
          opened = entry_after so_far.opened e;
          agrees = agrees_then later (entry_after now e) (entry_after so_far.opened e) one.does.done (after_agrees now so_far.opened e so_far.agrees);
          gives = λ frames.
              ap (entries_give 0 first) (append_assoc so_far.passed (f ∷ []) frames) ∙ so_far.gives (f ∷ frames)
              ∙ give_next place.used so_far.opened f frames e (sym (next_entry new one.moves) ∙ one.does.passed) (sym (follows_same now so_far.opened e so_far.agrees) ∙ one.does.follows_is)
              ∙ ap (λ n. entries_give n (entry_after so_far.opened e) frames) (sym one.moves.passes.used);
        }

    pub replayed_all : (later : Opened) → frame_behind place area ≡ None → Agrees later now → IsReplayed area epoch first later
    replayed_all later none same = record {
      opened = so_far.opened;
      gives = ap (λ n. entries_give 0 first (entry_frames n area)) (sym so_far.epoch_is)
          ∙ ap (entries_give 0 first) (passed_all area place so_far.passed so_far.has none ∙ sym (append-nil so_far.passed))
          ∙ so_far.gives [] ∙ give_none place.used so_far.opened;
      agrees = agrees_then later now so_far.opened same so_far.agrees;
    }

    pub replayed_behind : (new : Place) (whole : File) → StandsLast area place new → IsFile area whole → epoch ≡ whole.header.epoch → IsBehind new whole
    replayed_behind new whole last is same =
        let behind = passed_behind area place so_far.passed whole so_far.has last.none is (so_far.epoch_is ∙ same) in
        record { epoch = last.stands.epoch ∙ behind.epoch; count = last.stands.count ∙ behind.count; used = last.stands.used ∙ behind.used }

    -- all frames, of which the next is one
    all_frames : (new : Place) (next : PassesNext area place new) → (rest : List Frame) × (entry_frames epoch area ≡ so_far.passed ++ next.next ∷ rest)
    all_frames new next =
        let bytes = drop (frame_bytes next.next) (drop place.used (entries_part area)) in
        let rest = frames_up_to (length bytes) place.epoch (suc (place.count + 1)) bytes in (
          rest,
          ap (λ n. entry_frames n area) (sym so_far.epoch_is)
              ∙ so_far.has.rest (next.next ∷ rest) (next.counts, frames_count (length bytes) place.epoch (suc (place.count + 1)) bytes (omega arith)),
        )

    pub replayed_bad : (new : Place) (at : ℕ) → PassesNext area place new → (entry_passed new ≡ Err at) ⊎ FailsPassed new now at
        → entries_give 0 first (entry_frames epoch area) ≡ Err at
    replayed_bad new at next (inl bad) =
        let all = all_frames new next in
        ap (entries_give 0 first) all.1 ∙ so_far.gives (next.next ∷ all.0)
        ∙ give_bad place.used so_far.opened next.next all.0 at (sym (next_entry new next) ∙ bad)
    replayed_bad new at next (inr fails) =
        let all = all_frames new next in
        ap (entries_give 0 first) all.1 ∙ so_far.gives (next.next ∷ all.0)
        ∙ give_fails place.used so_far.opened next.next all.0 fails.entry (sym (next_entry new next) ∙ fails.passed) (sym (follows_same now so_far.opened fails.entry so_far.agrees) ∙ fails.follows_not)
        ∙ ap (λ n. Err (ENTRIES_AT + n)) (sym next.passes.last) ∙ ap Err (sym fails.at_is)

    pub replayed_few : count ≤ MAX_ENTRIES_BYTES
    replayed_few =
        let bytes = drop place.used (entries_part area) in
        let rest = frames_up_to (length bytes) place.epoch (place.count + 1) bytes in
        let all = so_far.has.rest rest (frames_count (length bytes) place.epoch (place.count + 1) bytes (omega arith)) in
        let few = count_few place.epoch 1 (entries_part area) (entry_frames place.epoch area) (entry_frames_count place.epoch area) in
        omega (arith, so_far.long, ap length all, length-append so_far.passed rest, few, length-take MAX_ENTRIES_BYTES (drop ENTRIES_AT area))

    -- the next entry has a bad place, or the outside failed
    pub replayed_err : (new : Place) (later : Opened) (fault : CoreFault) → ReplaysNext area place new now later (Err fault) → TellsBad area epoch first fault
    replayed_err new later Memory told = tt
    replayed_err new later StoreFault told = tt
    replayed_err new later (BadStore bad at) told = (told.0, replayed_bad told.1 at told.2 told.3)
    replayed_err new later other told = absurd told

-- whether there was an entry
pub last_here : (area : List ℕ) (file now : Place) (old new : Opened) (some : Bool) → some ≡ false → ReplaysNext area file now old new (Ok some)
    → StandsLast area file now × Agrees new old
last_here area file now old new false is told = told
last_here area file now old new true is told = cc

pub next_here : (area : List ℕ) (file now : Place) (old new : Opened) (some : Bool) → some ≡ true → ReplaysNext area file now old new (Ok some) → DoesNext area file now old new
next_here area file now old new true is told = told
next_here area file now old new false is told = cc

-- ---- calls that only read

abbrev is_done : Result (Unit {0}) CoreFault → Bool
is_done (Ok x) = true
is_done (Err fault) = false

abbrev as_test : Result (Unit {0}) CoreFault → Result Bool CoreFault
as_test (Ok x) = Ok true
as_test (Err fault) = Err fault

pub consulted_ok : (old new : DiskView) (r : Result Bool CoreFault) → Consults {T = Bool} old new r → HasConsulted old new
consulted_ok old new r one = record {
  honest = one.honest;
  kept = one.kept;
  rose = λ is. let clash : true ≡ false = ap is_done is in cc;
  keeps = one.keeps;
}

pub consulted_err : (old new : DiskView) (fault : CoreFault) → Consults {T = Bool} old new (Err fault) → Consults {T = Unit {0}} old new (Err fault)
consulted_err old new fault one = record { honest = one.honest; kept = one.kept; rose = λ is. one.rose (ap as_test is); keeps = one.keeps }
