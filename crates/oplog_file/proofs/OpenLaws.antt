-- Which header counts is told by what is read of the two slots.
use Rattle.std.proofs.Common.{◌≡◌, inl, inr, ℕ, ◌+◌, ◌*◌, ◌-◌, ◌≤◌, min, true, cond, List, [], ◌∷◌, length, take, drop, None, Some, Result, Ok, Err, IsErrOf, refl, sym, ap, subst, ◌∙◌, arith}
use Rattle.std.proofs.lemmas.Bool.{cases_lt, and_from, eq-eqb}
use Rattle.std.proofs.lemmas.List.{take_all, take_rest, drop-drop, length-take, length-drop}
use Rattle.disk_trait.specs.Disk.{DiskView}
use Rattle.disk_trait.proofs.Runs.{keeps_none}
use Rattle.node_set.specs.declared.fault.CoreFault.{CoreFault}
use Rattle.node_set.specs.declared.fault.CoreFault.TheVariants.{Memory, StoreFault, BadStore}
use Rattle.oplog_form.specs.declared.header.Header.{Header}
use Rattle.oplog_form.specs.declared.header.TheConstants.{MAX_HEADER_BYTES}
use Rattle.oplog_form.specs.declared.form.BadForm.{BadForm}
use Rattle.oplog_form.specs.Headers.{header_of}
use Rattle.oplog_file.specs.declared.frame.Front.{Front}
use Rattle.oplog_file.specs.declared.layout.TheConstants.{SLOT_BYTES, ENTRIES_AT}
use Rattle.oplog_file.specs.Frames.{front_of}
use Rattle.oplog_file.specs.Fronts.{payload_in, frame_told}
use Rattle.oplog_file.specs.Slots.{kept_if, slot_of, is_header, header_in_slot, later_of, header_frame, in_area, header_of_frame, header_at}
use Rattle.oplog_file.specs.Writers.{Place}
use Rattle.oplog_file.specs.Passing.{Consults}
use Rattle.oplog_file.specs.Opening.{header_payload_at, header_told, TellsHeader, Opens}
use Rattle.oplog_file.proofs.ReadLaws.{part_of_front}

-- ---- a slot's bytes

empty_of : (l : List ℕ) → length l ≡ 0 → l ≡ []
empty_of [] is = refl
empty_of (x ∷ l) is = absurd (omega (arith, is))

take_min : (b s : ℕ) (l : List ℕ) → b ≡ min (length l) s → take b l ≡ take s l
take_min b s l is = elim (cases_lt s (length l)) [
  | inl lt ↦ ap (λ n. take n l) (let same : b ≡ s = omega (arith, is, lt) in same)
  | inr le ↦ take_all b l (omega (arith, is, le)) ∙ sym (take_all s l le)
]

drop_min : (a at : ℕ) (l : List ℕ) → a ≡ min at (length l) → drop a l ≡ drop at l
drop_min a at l is = elim (cases_lt (length l) at) [
  | inl lt ↦ empty_of (drop a l) (omega (arith, is, lt, length-drop a l)) ∙ sym (empty_of (drop at l) (omega (arith, lt, length-drop at l)))
  | inr le ↦ ap (λ n. drop n l) (let same : a ≡ at = omega (arith, is, le) in same)
]

pub slot_part : (a b at s : ℕ) (l : List ℕ) → a ≡ min at (length l) → b ≡ min (length (take (length l - a) (drop a l))) s → take b (take (length l - a) (drop a l)) ≡ take s (drop at l)
slot_part a b at s l first second = take_min b s (take (length l - a) (drop a l)) second ∙ ap (take s) (take_rest l a ∙ drop_min a at l first)

-- ---- the header in a slot

module _ (slot : ℕ) (slots part : List ℕ) (front : Front) (is : part ≡ take SLOT_BYTES (drop (SLOT_BYTES * slot) slots)) (here : slot_of front.epoch ≡ slot) where
  pub header_here : front_of MAX_HEADER_BYTES part ≡ Some (frame_told part front) → front.number ≡ 0 → front.payload_len ≤ MAX_HEADER_BYTES → header_in_slot slot slots ≡ Some (header_told slots front)
  header_here found zeroth few =
      let f = frame_told part front in
      let passes : is_header slot f ≡ true = and_from _ _ (eq-eqb front.number 0 zeroth) (eq-eqb (slot_of front.epoch) slot here) in
      let payload : payload_in front.payload_len part ≡ take front.payload_len (drop (header_payload_at front.epoch) slots) =
      ap (payload_in front.payload_len) is
      ∙ part_of_front 32 front.payload_len SLOT_BYTES (drop (SLOT_BYTES * slot) slots) (omega (arith, few))
      ∙ ap (take front.payload_len) (drop-drop 32 (SLOT_BYTES * slot) slots)
      ∙ ap (λ n. take front.payload_len (drop (SLOT_BYTES * n + 32) slots)) (sym here) in
      ap (λ l. kept_if (is_header slot) (front_of MAX_HEADER_BYTES l)) (sym is)
      ∙ ap (kept_if (is_header slot)) found
      ∙ ap (λ b. cond b (Some f) None) passes
      ∙ ap (λ l. Some (record { epoch = front.epoch; number = front.number; payload = l })) payload

  pub header_there : 32 + front.payload_len ≤ length part → header_payload_at front.epoch + front.payload_len ≤ length slots
  header_there enough =
      let place : header_payload_at front.epoch ≡ SLOT_BYTES * slot + 32 = ap (λ n. SLOT_BYTES * n + 32) here in
      omega (arith, place, enough, ap length is, length-take SLOT_BYTES (drop (SLOT_BYTES * slot) slots), length-drop (SLOT_BYTES * slot) slots)

-- ---- the header that counts

pub header_tells : (slots part : List ℕ) (front : Front) (r : Result Header BadForm) → header_frame slots ≡ Some (header_told slots front)
    → part ≡ take front.payload_len (drop (header_payload_at front.epoch) slots) → header_of part ≡ r → header_at slots ≡ in_area (SLOT_BYTES * slot_of front.epoch) r
header_tells slots part front r found is read =
    ap header_of_frame found
    ∙ ap (λ l. in_area (SLOT_BYTES * slot_of front.epoch) (header_of l)) (sym is)
    ∙ ap (in_area (SLOT_BYTES * slot_of front.epoch)) read

pub slots_tell : (area : List ℕ) → header_frame (take ENTRIES_AT area) ≡ header_frame area
slots_tell area =
    let even : header_in_slot 0 (take ENTRIES_AT area) ≡ header_in_slot 0 area = ap (λ l. kept_if (is_header 0) (front_of MAX_HEADER_BYTES l)) (part_of_front 0 SLOT_BYTES ENTRIES_AT area (omega arith)) in
    let odd : header_in_slot 1 (take ENTRIES_AT area) ≡ header_in_slot 1 area = ap (λ l. kept_if (is_header 1) (front_of MAX_HEADER_BYTES l)) (part_of_front SLOT_BYTES SLOT_BYTES ENTRIES_AT area (omega arith)) in
    ap (λ o. later_of o (header_in_slot 1 (take ENTRIES_AT area))) even ∙ ap (λ o. later_of (header_in_slot 0 area) o) odd

pub tells_whole : (area : List ℕ) (r : Result (ℕ × Header) CoreFault) → TellsHeader (take ENTRIES_AT area) r → TellsHeader area r
tells_whole area (Ok found) told = record {
  frame = told.frame;
  found = sym (slots_tell area) ∙ told.found;
  epoch_is = told.epoch_is;
  header_is = ap header_of_frame (sym (slots_tell area)) ∙ told.header_is;
}
tells_whole area (Err Memory) told = told
tells_whole area (Err StoreFault) told = told
tells_whole area (Err (BadStore place at)) told = (told.0, ap header_of_frame (sym (slots_tell area)) ∙ told.1)
tells_whole area (Err other) told = told

-- ---- no call of a disk

pub consults_none : {T : Type 0} (disk : DiskView) (r : Result T CoreFault) → (IsErrOf r StoreFault → ⊥) → Consults {T = T} disk disk r
consults_none disk r never = record { honest = refl; kept = omega arith; rose = λ is. absurd (never is); keeps = λ honest. keeps_none disk }

pub consults_memory : {T : Type 0} (disk : DiskView) (r : Result T CoreFault) → r ≡ Err Memory → Consults {T = T} disk disk r
consults_memory disk r is = consults_none disk r (λ fault. let apart : Err Memory ≡ Err StoreFault = sym is ∙ fault in cc)

pub opens_memory : (area : List ℕ) (r : Result (Place × Header) CoreFault) → r ≡ Err Memory → Opens area r
opens_memory area r is = subst (Opens area) (sym is) tt

-- the bytes from one place on, as many as another place begins behind it
pub slice_same : (a b n : ℕ) (l : List ℕ) → a ≡ b → take (a + n - a) (drop a l) ≡ take n (drop b l)
slice_same a b n l same = ap (λ k. take k (drop a l)) (let few : a + n - a ≡ n = omega arith in few) ∙ ap (λ k. take n (drop k l)) same
