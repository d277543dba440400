-- What a cut behind all that counts leaves of a change file.
use Rattle.std.proofs.Common.{◌≡◌, ◌⊎◌, inl, inr, ℕ, ◌+◌, ◌*◌, ◌-◌, ◌<◌, ◌≤◌, List, [], length, take, drop, Option, None, Some, refl, sym, ap, subst, ◌∙◌, arith, length-take}
use Rattle.std.proofs.lemmas.Bool.{cases_lt}
use Rattle.std.proofs.lemmas.List.{append-nil, take_all, take-take, drop-take, drop_all}
use Rattle.disk_trait.specs.Disk.{Cut}
use Rattle.oplog_form.specs.declared.entry.TheConstants.{MAX_ENTRY_BYTES}
use Rattle.oplog_form.specs.declared.header.TheConstants.{MAX_HEADER_BYTES}
use Rattle.oplog_file.specs.declared.layout.TheConstants.{SLOT_BYTES, ENTRIES_AT, MAX_ENTRIES_BYTES}
use Rattle.oplog_file.specs.Frames.{Frame, front_of}
use Rattle.oplog_file.specs.Slots.{kept_if, is_header, slot_of, header_in_slot, later_of, header_frame}
use Rattle.oplog_file.specs.Counting.{entries_part, is_entry, entry_in_front, Count, entry_frames, frames_up_to, bytes_of}
use Rattle.oplog_file.specs.Files.{File, IsFile, end_of}
use Rattle.oplog_file.specs.Writers.{MayCutAt}
use Rattle.oplog_file.proofs.CountLaws.{entry_frames_count}
use Rattle.oplog_file.proofs.BeginLaws.{BeginsAs, CountFirst, part_same, kept_longer, kept_shorter, in_a_slot, slot_header, count_behind, entries_stay, entries_are}

take_swap : (m n : ℕ) (l : List ℕ) → take m (take n l) ≡ take n (take m l)
take_swap m n l = elim (cases_lt m n) [
  | inl lt ↦ take-take m n l (omega (arith, lt)) ∙ sym (take_all n (take m l) (omega (arith, lt, length-take m l)))
  | inr le ↦ take_all m (take n l) (omega (arith, le, length-take n l)) ∙ sym (take-take n m l le)
]

-- a part of fewer bytes
part_shorter : (at j len : ℕ) (l : List ℕ) → take len (drop at (take (at + j) l)) ≡ take j (take len (drop at l))
part_shorter at j len l = ap (take len) (drop-take at j l) ∙ take_swap len j (drop at l)

-- ---- headers

-- a slot whose bytes are there has the same header
pub slot_same : (slot : ℕ) (area more : List ℕ) → take (SLOT_BYTES * slot + SLOT_BYTES) more ≡ take (SLOT_BYTES * slot + SLOT_BYTES) area → header_in_slot slot more ≡ header_in_slot slot area
slot_same slot area more same =
    ap (λ l. kept_if (is_header slot) (front_of MAX_HEADER_BYTES l)) (part_same (SLOT_BYTES * slot) SLOT_BYTES (SLOT_BYTES * slot + SLOT_BYTES) more area (omega arith) same)

pub headers_same : (area more : List ℕ) → take ENTRIES_AT more ≡ take ENTRIES_AT area → header_frame more ≡ header_frame area
headers_same area more same =
    let first : header_in_slot 0 more ≡ header_in_slot 0 area = slot_same 0 area more (part_same 0 SLOT_BYTES ENTRIES_AT more area (omega arith) same) in
    let second : header_in_slot 1 more ≡ header_in_slot 1 area = slot_same 1 area more same in
    ap (λ a. later_of a (header_in_slot 1 more)) first ∙ ap (later_of (header_in_slot 0 area)) second

-- the slot of the header that counts
pub in_first : (area : List ℕ) (h : Frame) → header_frame area ≡ Some h → slot_of h.epoch ≡ 0 → header_in_slot 0 area ≡ Some h
in_first area h is slot = elim (in_a_slot area h is) [
  | inl first ↦ first
  | inr second ↦ absurd (omega (arith, slot, (slot_header 1 area h second).1))
]

pub in_second : (area : List ℕ) (h : Frame) → header_frame area ≡ Some h → slot_of h.epoch ≡ 1 → header_in_slot 1 area ≡ Some h
in_second area h is slot = elim (in_a_slot area h is) [
  | inl first ↦ absurd (omega (arith, slot, (slot_header 0 area h first).1))
  | inr second ↦ second
]

-- the second slot, cut off, has the same header or none
second_cut : (area : List ℕ) (j : ℕ) (o : Option Frame) → header_in_slot 1 (take (SLOT_BYTES + j) area) ≡ o → (o ≡ None) ⊎ (header_in_slot 1 area ≡ o)
second_cut area j None is = inl refl
second_cut area j (Some g) is =
    let there : kept_if (is_header 1) (front_of MAX_HEADER_BYTES (take j (take SLOT_BYTES (drop SLOT_BYTES area)))) ≡ Some g =
    ap (λ l. kept_if (is_header 1) (front_of MAX_HEADER_BYTES l)) (sym (part_shorter SLOT_BYTES j SLOT_BYTES area)) ∙ is in
    inr (kept_longer (is_header 1) MAX_HEADER_BYTES j (take SLOT_BYTES (drop SLOT_BYTES area)) g there)

first_counts : (area : List ℕ) (h : Frame) (j : ℕ) → header_frame area ≡ Some h → slot_of h.epoch ≡ 0 → header_frame (take (SLOT_BYTES + j) area) ≡ Some h
first_counts area h j is slot =
    let less : List ℕ = take (SLOT_BYTES + j) area in
    let first : header_in_slot 0 less ≡ header_in_slot 0 area = slot_same 0 area less (take-take SLOT_BYTES (SLOT_BYTES + j) area (omega arith)) in
    let here : header_in_slot 0 less ≡ Some h = first ∙ in_first area h is slot in
    elim (second_cut area j (header_in_slot 1 less) refl) [
      | inl none ↦ ap (λ a. later_of a (header_in_slot 1 less)) here ∙ ap (later_of (Some h)) none
      | inr same ↦ ap (λ a. later_of a (header_in_slot 1 less)) first ∙ ap (later_of (header_in_slot 0 area)) (sym same) ∙ is
    ]

-- ---- entries

-- where nothing counts, nothing does in fewer bytes
entries_end : (area : List ℕ) (file : File) (j : ℕ) → IsFile area file
    → entry_in_front file.header.epoch (1 + length file.frames) (drop (bytes_of file.frames) (entries_part (take (ENTRIES_AT + (bytes_of file.frames + j)) area))) ≡ None
entries_end area file j is =
    let used : ℕ = bytes_of file.frames in
    let there : drop used (entries_part (take (ENTRIES_AT + (used + j)) area)) ≡ take j (drop used (entries_part area)) =
    ap (drop used) (part_shorter ENTRIES_AT (used + j) MAX_ENTRIES_BYTES area) ∙ drop-take used j (entries_part area) in
    let none : entry_in_front file.header.epoch (1 + length file.frames) (drop used (entries_part area)) ≡ None =
    count_behind file.header.epoch 1 (entries_part area) file.frames (subst (Count file.header.epoch 1 (entries_part area)) is.frames_are (entry_frames_count file.header.epoch area)) in
    ap (entry_in_front file.header.epoch (1 + length file.frames)) there
    ∙ kept_shorter (is_entry file.header.epoch (1 + length file.frames)) MAX_ENTRY_BYTES j (drop used (entries_part area)) none

begins_cut : (m at : ℕ) (area : List ℕ) → at ≤ m → BeginsAs at area (take m area)
begins_cut m at area within i le there = take-take i m area (omega (arith, le, within))

cut_behind : (area : List ℕ) (file : File) (j : ℕ) → IsFile area file → IsFile (take (ENTRIES_AT + (bytes_of file.frames + j)) area) file
cut_behind area file j is =
    let used : ℕ = bytes_of file.frames in
    let less : List ℕ = take (ENTRIES_AT + (used + j)) area in
    let first : CountFirst file.header.epoch 1 (entries_part less) file.frames =
    entries_stay file.header.epoch area less file.frames is.frames_are (begins_cut (ENTRIES_AT + (used + j)) (ENTRIES_AT + used) area (omega arith)) in
    record {
      header_is = headers_same area less (take-take ENTRIES_AT (ENTRIES_AT + (used + j)) area (omega arith)) ∙ is.header_is;
      frames_are = entries_are file.header.epoch less file.frames [] first (entries_end area file j is) ∙ append-nil file.frames;
    }

-- so few bytes have no entries
pub no_entries : (epoch : ℕ) (area : List ℕ) → length area ≤ ENTRIES_AT → entry_frames epoch area ≡ []
unfolding frames_up_to
no_entries epoch area few = ap (λ l. frames_up_to (length l) epoch 1 l) (ap (take MAX_ENTRIES_BYTES) (drop_all ENTRIES_AT area few))

cut_slot : (area : List ℕ) (file : File) (j : ℕ) → IsFile area file → slot_of file.header.epoch ≡ 0 → file.frames ≡ [] → SLOT_BYTES + j < ENTRIES_AT → IsFile (take (SLOT_BYTES + j) area) file
cut_slot area file j is slot none few = record {
  header_is = first_counts area file.header j is.header_is slot;
  frames_are = no_entries file.header.epoch (take (SLOT_BYTES + j) area) (omega (arith, few, length-take (SLOT_BYTES + j) area)) ∙ sym none;
}

-- a cut that takes nothing that counts leaves the file
pub cut_file : (area : List ℕ) (file : File) (to : ℕ) → IsFile area file → MayCutAt file to → IsFile (take to area) file
cut_file area file to is (inl behind) =
    let there : ENTRIES_AT + (bytes_of file.frames + (to - end_of file)) ≡ to = omega (arith, behind) in
    subst (λ n. IsFile (take n area) file) there (cut_behind area file (to - end_of file) is)
cut_file area file to is (inr slot) = elim (cases_lt to ENTRIES_AT) [
  | inl few ↦
      let there : SLOT_BYTES + (to - SLOT_BYTES) ≡ to = omega (arith, slot.2) in
      subst (λ n. IsFile (take n area) file) there (cut_slot area file (to - SLOT_BYTES) is slot.0 slot.1 (omega (arith, there, few)))
  | inr more ↦
      let there : ENTRIES_AT + (bytes_of file.frames + (to - end_of file)) ≡ to = omega (arith, more, ap bytes_of slot.1) in
      subst (λ n. IsFile (take n area) file) there (cut_behind area file (to - end_of file) is)
]

cut_more : (file : File) (to more : ℕ) → to ≤ more → MayCutAt file to → MayCutAt file more
cut_more file to more le (inl behind) = inl (omega (arith, le, behind))
cut_more file to more le (inr slot) = inr (slot.0, slot.1, omega (arith, le, slot.2))

-- whatever a crash makes of such a cut is the file
pub torn_cut : (area c : List ℕ) (file : File) (to : ℕ) → IsFile area file → MayCutAt file to → Cut to area c → IsFile c file
torn_cut area c file to is may cut = elim (cases_lt (length c) to) [
  | inl short ↦ subst (λ l. IsFile l file) (sym (cut.front ∙ take_all (length c) area (omega (arith, short, cut.no_shorter)))) is
  | inr long ↦ subst (λ l. IsFile l file) (sym cut.front) (cut_file area file (length c) is (cut_more file to (length c) long may))
]
