-- What is left of a change file after a torn write and a torn cut, and what a whole one makes of it.
use Rattle.std.proofs.Common.{◌≡◌, ◌⊎◌, inl, inr, ℕ, suc, ◌+◌, ◌*◌, ◌<◌, ◌≤◌, List, [], ◌∷◌, ◌++◌, length, drop, Some, refl, sym, ap, ◌∙◌, arith, append_assoc}
use Rattle.std.proofs.lemmas.List.{append-nil}
use Rattle.std.proofs.lemmas.List.Elements.{Contains-push_cases}
use Rattle.std.proofs.lemmas.List.Sums.{sum_by-append}
use Rattle.std.proofs.lemmas.Bool.{and_parts, eqb-true}
use Rattle.std.specs.List.{Contains}
use Rattle.oplog_form.specs.declared.entry.TheConstants.{MAX_ENTRY_BYTES}
use Rattle.oplog_file.specs.declared.layout.TheConstants.{SLOT_BYTES, ENTRIES_AT}
use Rattle.oplog_file.specs.Frames.{Frame, frame_bytes, front_of}
use Rattle.oplog_file.specs.Slots.{slot_of, header_frame}
use Rattle.oplog_file.specs.Counting.{entries_part, is_entry, entry_in_front, Count, entry_frames, frames_up_to, bytes_of}
use Rattle.oplog_file.specs.Files.{File, IsFile, end_of, next_frame, EntryCounts, NoChance}
use Rattle.oplog_file.specs.Writers.{with_entry}
use Rattle.oplog_file.proofs.CountLaws.{frame_or, kept, frames_count}
use Rattle.oplog_file.proofs.BeginLaws.{BeginsAs, CountFirst, bytes_of-cons, header_stays, header_number, entries_stay, entries_are}

pub one_only : (a f : Frame) → Contains (a ∷ []) f → a ≡ f
one_only a f has = elim (Contains-push_cases [] a f has) [
  | inl none ↦ absurd (omega (arith, none.1))
  | inr same ↦ same
]

same_file : (area : List ℕ) (header : Frame) (file : File) → IsFile area file → header_frame area ≡ Some header → header ≡ file.header
same_file area header file is counts = ap (frame_or header) (sym counts ∙ is.header_is)

pub bytes_between : (front back : List Frame) (f : Frame) → bytes_of (front ++ f ∷ back) ≡ bytes_of front + (frame_bytes f + bytes_of back)
bytes_between front back f = sum_by-append frame_bytes front (f ∷ back) ∙ ap (λ n. bytes_of front + n) (bytes_of-cons f back)

-- no entry counts in a file at or behind its end
none_at_end : (area : List ℕ) (file : File) (place : ℕ) (f : Frame) → IsFile area file → EntryCounts area place f → end_of file ≤ place → ⊥
none_at_end area file place f is counts behind =
    let same : counts.header ≡ file.header = same_file area counts.header file is counts.counts in
    let frames : file.frames ≡ counts.front ++ f ∷ counts.back = sym is.frames_are ∙ ap (λ (h : Frame). entry_frames h.epoch area) (sym same) ∙ counts.frames in
    omega (arith, behind, counts.at, ap bytes_of frames, bytes_between counts.front counts.back f)

-- what counts at or behind the end of the file in an image is the call's own frame
own_frame : (old c : List ℕ) (file : File) (place : ℕ) (f own : Frame) → IsFile old file → NoChance (own ∷ []) old c → EntryCounts c place f → end_of file ≤ place → own ≡ f
own_frame old c file place f own is none counts behind = elim (none place f (inr counts)) [
  | inl (inl header) ↦ absurd (omega (arith, behind, header.1))
  | inl (inr entry) ↦ absurd (none_at_end old file place f is entry behind)
  | inr has ↦ one_only own f has
]

pub entry_number : (epoch number : ℕ) (bytes : List ℕ) (f : Frame) → entry_in_front epoch number bytes ≡ Some f → f.number ≡ number
entry_number epoch number bytes f is =
    let tests = and_parts _ _ (kept (is_entry epoch number) (front_of MAX_ENTRY_BYTES bytes) f is).1 in
    eqb-true _ _ (and_parts _ _ tests.0).1

-- an image that begins as a file has its header
same_header : (old d c : List ℕ) (file : File) (own : Frame) (at : ℕ) → IsFile old file → IsFile d file → ENTRIES_AT ≤ at → BeginsAs at d c → NoChance (own ∷ []) old c → 0 < own.number
    → header_frame c ≡ Some file.header
same_header old d c file own at is was far begins none some =
    let found = header_stays at d c file.header was.header_is far begins in
    let counts : header_frame c ≡ Some found.0 = found.1 in
    let no_entry : (n : ℕ) → ENTRIES_AT + n ≡ SLOT_BYTES * slot_of found.0.epoch → ⊥ = λ n e. omega (arith, e) in
    let same : found.0 ≡ file.header = elim (none (SLOT_BYTES * slot_of found.0.epoch) found.0 (inl (counts, refl))) [
      | inl (inl header) ↦ same_file old found.0 file is header.0
      | inl (inr entry) ↦ absurd (no_entry (bytes_of entry.front) (sym entry.at))
      | inr has ↦ absurd (omega (arith, some, ap (λ (f : Frame). f.number) (one_only own found.0 has), header_number c found.0 counts))
    ] in
    counts ∙ ap Some same

-- ---- a torn entry

module _ (old c : List ℕ) (file : File) (payload : List ℕ) (is : IsFile old file) (header : header_frame c ≡ Some file.header)
    (none : NoChance (next_frame file payload ∷ []) old c) where
  counts_there : (front back : List Frame) (f : Frame) → entry_frames file.header.epoch c ≡ front ++ f ∷ back → EntryCounts c (ENTRIES_AT + bytes_of front) f
  counts_there front back f are = record { header = file.header; front = front; back = back; counts = header; frames = are; at = refl }

  -- no entry stands behind the call's own: it would be that one too, and its number is greater
  alone : (first : Frame) (back : List Frame) → next_frame file payload ≡ first → entry_frames file.header.epoch c ≡ file.frames ++ first ∷ back
      → Count file.header.epoch (suc (1 + length file.frames)) (drop (frame_bytes first) (drop (bytes_of file.frames) (entries_part c))) back → IsFile c (with_entry payload file)
  alone first [] same are behind = record { header_is = header; frames_are = are ∙ ap (λ (f : Frame). file.frames ++ f ∷ []) (sym same) }
  alone first (second ∷ back) same are behind =
      let there : entry_frames file.header.epoch c ≡ (file.frames ++ first ∷ []) ++ second ∷ back = are ∙ sym (append_assoc file.frames (first ∷ []) (second ∷ back)) in
      let far : end_of file ≤ ENTRIES_AT + bytes_of (file.frames ++ first ∷ []) = omega (arith, bytes_between file.frames [] first) in
      let again : next_frame file payload ≡ second = own_frame old c file (ENTRIES_AT + bytes_of (file.frames ++ first ∷ [])) second (next_frame file payload) is none (counts_there (file.frames ++ first ∷ []) back second there) far in
      let number : second.number ≡ suc (1 + length file.frames) = entry_number file.header.epoch (suc (1 + length file.frames)) (drop (frame_bytes first) (drop (bytes_of file.frames) (entries_part c))) second behind.0 in
      absurd (omega (arith, number, ap (λ (f : Frame). f.number) again))

  old_or_more : (back : List Frame) → entry_frames file.header.epoch c ≡ file.frames ++ back → Count file.header.epoch (1 + length file.frames) (drop (bytes_of file.frames) (entries_part c)) back
      → IsFile c file ⊎ IsFile c (with_entry payload file)
  old_or_more [] are behind = inl (record { header_is = header; frames_are = are ∙ append-nil file.frames })
  old_or_more (f ∷ back) are behind =
      let same : next_frame file payload ≡ f = own_frame old c file (ENTRIES_AT + bytes_of file.frames) f (next_frame file payload) is none (counts_there file.frames back f are) (omega arith) in
      inr (alone f back same are behind.1)

-- Where an image begins as the file up to its end, it is the file or the one with the call's entry, but for what makes
-- frames by chance.
pub torn_entry : (old d c : List ℕ) (file : File) (payload : List ℕ) → IsFile old file → IsFile d file → BeginsAs (end_of file) d c → NoChance (next_frame file payload ∷ []) old c
    → IsFile c file ⊎ IsFile c (with_entry payload file)
torn_entry old d c file payload is was begins none =
    let header : header_frame c ≡ Some file.header = same_header old d c file (next_frame file payload) (end_of file) is was (omega arith) begins none (omega arith) in
    let first : CountFirst file.header.epoch 1 (entries_part c) file.frames = entries_stay file.header.epoch d c file.frames was.frames_are begins in
    let rest : List ℕ = drop (bytes_of file.frames) (entries_part c) in
    let back : List Frame = frames_up_to (length rest) file.header.epoch (1 + length file.frames) rest in
    let behind : Count file.header.epoch (1 + length file.frames) rest back = frames_count (length rest) file.header.epoch (1 + length file.frames) rest (omega arith) in
    old_or_more old c file payload is header none back (entries_are file.header.epoch c file.frames back first behind) behind
