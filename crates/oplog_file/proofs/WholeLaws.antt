-- What a whole write makes of a change file: one entry more, or a new file.
use Rattle.std.proofs.Common.{◌≡◌, ◌⊎◌, inl, inr, ℕ, ◌+◌, ◌*◌, ◌-◌, ◌<◌, ◌≤◌, Bool, List, [], ◌∷◌, ◌++◌, length, take, drop, replicate, Option, None, Some, refl, sym, ap, subst, ◌∙◌, arith, length-append, length-take, length-drop}
use Rattle.std.proofs.lemmas.List.{append-nil, take_all, take-append-le, take-replicate, drop-take, drop-drop, drop-append-le, drop_all, drop_at, drop-replicate, length-replicate}
use Rattle.std.proofs.lemmas.List.Concat.{flat_map-cons}
use Rattle.std.specs.List.{flat_map}
use Rattle.blake2b_hash.specs.Blake2b.{G, round, rounds, F, words, state_after, last_state, blake2b, hash_of}
use Rattle.disk_trait.specs.Disk.{overlay}
use Rattle.disk_trait.specs.Overlays.{torn_overlay}
use Rattle.oplog_form.specs.declared.entry.TheConstants.{MAX_ENTRY_BYTES}
use Rattle.oplog_form.specs.declared.header.TheConstants.{MAX_HEADER_BYTES}
use Rattle.oplog_file.specs.declared.layout.TheConstants.{SLOT_BYTES, ENTRIES_AT, MAX_ENTRIES_BYTES}
use Rattle.oplog_file.specs.Frames.{Frame, FrameFits, BeginsWith, frame_spelling, frame_bytes, front_of}
use Rattle.oplog_file.specs.Slots.{kept_if, is_header, slot_of, header_in_slot, later_of, header_frame}
use Rattle.oplog_file.specs.Counting.{entries_part, is_entry, entry_in_front, Count, entry_frames, bytes_of, FindsRoom}
use Rattle.oplog_file.specs.Files.{File, IsFile, end_of, next_frame, EntryCounts, CountsAt, NoChance}
use Rattle.oplog_file.specs.Writers.{with_entry, new_header, new_file, IsTrim}
use Rattle.oplog_file.proofs.FrameLaws.{front_only, front_bytes, spelling_length}
use Rattle.oplog_file.proofs.CountLaws.{kept, run_counts, entry_frames_count}
use Rattle.oplog_file.proofs.BeginLaws.{BeginsAs, CountFirst, slot_stays, in_a_slot, entries_stay, entries_are}
use Rattle.oplog_file.proofs.CutLaws.{slot_same, headers_same, in_second, no_entries}
use Rattle.oplog_file.proofs.ImageLaws.{one_only, bytes_between, entry_number}

-- ---- nothing counts in no bytes, and none in zeros

none_by : (test : Frame → Bool) (max : ℕ) (bytes : List ℕ) (o : Option Frame) → kept_if test (front_of max bytes) ≡ o → length bytes ≡ 0 → o ≡ None
none_by test max bytes None is empty = refl
none_by test max bytes (Some f) is empty = absurd (omega (arith, empty, front_bytes max bytes f (kept test (front_of max bytes) f is).0))

pub none_kept : (test : Frame → Bool) (max : ℕ) (bytes : List ℕ) → length bytes ≡ 0 → kept_if test (front_of max bytes) ≡ None
none_kept test max bytes empty = none_by test max bytes (kept_if test (front_of max bytes)) refl empty

no_header : header_frame [] ≡ None
no_header =
    ap (λ a. later_of a (header_in_slot 1 [])) (none_kept (is_header 0) MAX_HEADER_BYTES (take SLOT_BYTES (drop (SLOT_BYTES * 0) [])) refl)
    ∙ none_kept (is_header 1) MAX_HEADER_BYTES (take SLOT_BYTES (drop (SLOT_BYTES * 1) [])) refl

zeros_pass_not : front_of MAX_HEADER_BYTES (replicate SLOT_BYTES 0) ≡ None
unfolding front_of G round rounds F words state_after last_state blake2b hash_of
zeros_pass_not = refl

-- ---- an entry at the end

-- bytes up to a place, behind them zeros
abbrev padded : ℕ → List ℕ → List ℕ
padded at old = old ++ replicate (at - length old) 0

padded_length : (at : ℕ) (old : List ℕ) → length old ≤ at → length (padded at old) ≡ at
padded_length at old le = omega (arith, le, length-append old (replicate (at - length old) 0), length-replicate {A = ℕ} (at - length old) 0)

overlay_end : (at : ℕ) (bytes old : List ℕ) → 0 < length bytes → length old ≤ at → overlay at bytes old ≡ padded at old ++ bytes
overlay_end at [] old some le = absurd (omega (arith, some))
overlay_end at (b ∷ bytes) old some le =
    ap (λ l. (l ++ replicate (at - length old) 0) ++ (b ∷ bytes) ++ drop (at + length (b ∷ bytes)) old) (take_all at old le)
    ∙ ap (λ l. padded at old ++ (b ∷ bytes) ++ l) (drop_all (at + length (b ∷ bytes)) old (omega (arith, le)))
    ∙ append-nil (padded at old ++ (b ∷ bytes))

-- the second slot of what was no longer than the first is zeros
zeros_behind : (at : ℕ) (old bytes : List ℕ) → length old ≤ SLOT_BYTES → ENTRIES_AT ≤ at → take SLOT_BYTES (drop SLOT_BYTES (padded at old ++ bytes)) ≡ replicate SLOT_BYTES 0
zeros_behind at old bytes short far =
    let n : ℕ = at - length old in
    let k : ℕ = SLOT_BYTES - length old in
    let sum : length old + k ≡ SLOT_BYTES = omega (arith, short) in
    let all : length (padded at old) ≡ at = padded_length at old (omega (arith, short, far)) in
    let rest : drop SLOT_BYTES (padded at old) ≡ replicate (n - k) 0 =
    ap (λ m. drop m (padded at old)) (sym sum) ∙ sym (drop-drop k (length old) (padded at old)) ∙ ap (drop k) (drop_at old (replicate n 0) (length old) refl) ∙ drop-replicate k n 0 in
    ap (take SLOT_BYTES) (drop-append-le SLOT_BYTES (padded at old) bytes (omega (arith, all, far)) ∙ ap (λ l. l ++ bytes) rest)
    ∙ take-append-le SLOT_BYTES (replicate (n - k) 0) bytes (omega (arith, short, far, length-replicate {A = ℕ} (n - k) 0))
    ∙ take-replicate SLOT_BYTES (n - k) 0 (omega (arith, short, far))

module _ (d bytes : List ℕ) (file : File) (at : ℕ) (is : IsFile d file) (trim : IsTrim file d) (far : ENTRIES_AT ≤ at) (le : length d ≤ at) (begins : BeginsAs at d (padded at d ++ bytes)) where
  -- the header that counts is the same, whatever comes behind zeros
  header_at_end : header_frame (padded at d ++ bytes) ≡ Some file.header
  header_at_end = elim trim.slots [
    | inl one ↦
        let second : header_in_slot 1 d ≡ Some file.header = in_second d file.header is.header_is one in
        let there : 0 < length (take SLOT_BYTES (drop SLOT_BYTES d)) = omega (arith, front_bytes MAX_HEADER_BYTES (take SLOT_BYTES (drop SLOT_BYTES d)) file.header (kept (is_header 1) (front_of MAX_HEADER_BYTES (take SLOT_BYTES (drop SLOT_BYTES d))) file.header second).0) in
        let long : SLOT_BYTES ≤ length d = omega (arith, there, length-take SLOT_BYTES (drop SLOT_BYTES d), length-drop SLOT_BYTES d) in
        let same : header_in_slot 0 (padded at d ++ bytes) ≡ header_in_slot 0 d = slot_same 0 d (padded at d ++ bytes) (begins SLOT_BYTES (omega (arith, far)) long) in
        let stays : header_in_slot 1 (padded at d ++ bytes) ≡ Some file.header = slot_stays 1 d (padded at d ++ bytes) file.header second (λ i low within. begins i (omega (arith, low, far)) within) in
        ap (λ a. later_of a (header_in_slot 1 (padded at d ++ bytes))) same ∙ ap (later_of (header_in_slot 0 d)) (stays ∙ sym second) ∙ is.header_is
    | inr (inl short) ↦
        let none : header_in_slot 1 d ≡ None = none_kept (is_header 1) MAX_HEADER_BYTES (take SLOT_BYTES (drop SLOT_BYTES d)) (omega (arith, short, length-take SLOT_BYTES (drop SLOT_BYTES d), length-drop SLOT_BYTES d)) in
        let first : header_in_slot 0 d ≡ Some file.header = elim (in_a_slot d file.header is.header_is) [
          | inl here ↦ here
          | inr there ↦ let apart : None ≡ Some file.header = sym none ∙ there in cc
        ] in
        let stays : header_in_slot 0 (padded at d ++ bytes) ≡ Some file.header = slot_stays 0 d (padded at d ++ bytes) file.header first (λ i low within. begins i (omega (arith, low, far)) within) in
        let zeros : header_in_slot 1 (padded at d ++ bytes) ≡ None = ap (λ l. kept_if (is_header 1) (front_of MAX_HEADER_BYTES l)) (zeros_behind at d bytes short far) ∙ ap (kept_if (is_header 1)) zeros_pass_not in
        ap (λ a. later_of a (header_in_slot 1 (padded at d ++ bytes))) stays ∙ ap (later_of (Some file.header)) zeros
    | inr (inr long) ↦ headers_same d (padded at d ++ bytes) (begins ENTRIES_AT far long) ∙ is.header_is
  ]

spelled_counts : (epoch number : ℕ) (f : Frame) → FrameFits MAX_ENTRY_BYTES f → f.epoch ≡ epoch → f.number ≡ number → 0 < length f.payload → Count epoch number (frame_spelling f) (f ∷ [])
spelled_counts epoch number f fits e n some =
    let none : entry_in_front epoch (number + 1) [] ≡ None = none_kept (is_entry epoch (number + 1)) MAX_ENTRY_BYTES [] refl in
    let text : flat_map frame_spelling (f ∷ []) ++ [] ≡ frame_spelling f = append-nil (flat_map frame_spelling (f ∷ [])) ∙ flat_map-cons frame_spelling f [] ∙ append-nil (frame_spelling f) in
    subst (λ l. Count epoch number l (f ∷ [])) text (run_counts epoch number (f ∷ []) [] (fits, e, n, some, tt) none)

-- An entry written whole at the end of a trim file makes the file with one more, which is trim.
module _ (d : List ℕ) (file : File) (payload : List ℕ) (is : IsFile d file) (trim : IsTrim file d) (fits : FrameFits MAX_ENTRY_BYTES (next_frame file payload)) (some : 0 < length payload) (room : FindsRoom (bytes_of file.frames) (length payload)) where
  size : length (frame_spelling (next_frame file payload)) ≡ frame_bytes (next_frame file payload)
  size = spelling_length (next_frame file payload)

  whole : overlay (end_of file) (frame_spelling (next_frame file payload)) d ≡ padded (end_of file) d ++ frame_spelling (next_frame file payload)
  whole = overlay_end (end_of file) (frame_spelling (next_frame file payload)) d (omega (arith, size)) trim.behind

  begins : BeginsAs (end_of file) d (padded (end_of file) d ++ frame_spelling (next_frame file payload))
  begins i le within =
      subst (λ l. take i l ≡ take i d) whole ((torn_overlay (end_of file) (length (frame_spelling (next_frame file payload))) (frame_spelling (next_frame file payload)) d (omega arith)).front i le within)

  rest_is : drop (bytes_of file.frames) (entries_part (padded (end_of file) d ++ frame_spelling (next_frame file payload))) ≡ frame_spelling (next_frame file payload)
  rest_is =
      let used : ℕ = bytes_of file.frames in
      let c : List ℕ = padded (end_of file) d ++ frame_spelling (next_frame file payload) in
      let left : ℕ = MAX_ENTRIES_BYTES - used in
      let sum : used + left ≡ MAX_ENTRIES_BYTES = omega (arith, room) in
      ap (λ n. drop used (take n (drop ENTRIES_AT c))) (sym sum)
      ∙ drop-take used left (drop ENTRIES_AT c)
      ∙ ap (take left) (drop-drop used ENTRIES_AT c ∙ drop_at (padded (end_of file) d) (frame_spelling (next_frame file payload)) (end_of file) (padded_length (end_of file) d trim.behind))
      ∙ take_all left (frame_spelling (next_frame file payload)) (omega (arith, size, room))

  pub whole_entry : IsFile (overlay (end_of file) (frame_spelling (next_frame file payload)) d) (with_entry payload file)
  whole_entry =
      let c : List ℕ = padded (end_of file) d ++ frame_spelling (next_frame file payload) in
      let epoch : ℕ = file.header.epoch in
      let first : CountFirst epoch 1 (entries_part c) file.frames = entries_stay epoch d c file.frames is.frames_are begins in
      let one : Count epoch (1 + length file.frames) (frame_spelling (next_frame file payload)) (next_frame file payload ∷ []) =
      spelled_counts epoch (1 + length file.frames) (next_frame file payload) fits refl (omega arith) some in
      let behind : Count epoch (1 + length file.frames) (drop (bytes_of file.frames) (entries_part c)) (next_frame file payload ∷ []) =
      subst (λ l. Count epoch (1 + length file.frames) l (next_frame file payload ∷ [])) (sym rest_is) one in
      subst (λ l. IsFile l (with_entry payload file)) (sym whole) (record {
        header_is = header_at_end d (frame_spelling (next_frame file payload)) file (end_of file) is trim (omega arith) trim.behind begins;
        frames_are = entries_are epoch c file.frames (next_frame file payload ∷ []) first behind;
      })

  pub whole_trim : IsTrim (with_entry payload file) (overlay (end_of file) (frame_spelling (next_frame file payload)) d)
  whole_trim =
      let long : length (overlay (end_of file) (frame_spelling (next_frame file payload)) d) ≡ end_of file + frame_bytes (next_frame file payload) =
      ap length whole ∙ length-append (padded (end_of file) d) (frame_spelling (next_frame file payload)) ∙ omega (arith, size, padded_length (end_of file) d trim.behind) in
      record { behind = omega (arith, long, bytes_between file.frames [] (next_frame file payload)); slots = inr (inr (omega (arith, long))) }

-- ---- a new file

module _ (payload : List ℕ) (few : length payload ≤ MAX_HEADER_BYTES) where
  new_size : length (frame_spelling (new_header payload)) ≤ SLOT_BYTES
  new_size = omega (arith, few, spelling_length (new_header payload))

  new_first : header_in_slot 0 (frame_spelling (new_header payload)) ≡ Some (new_header payload)
  new_first =
      let begins : BeginsWith MAX_HEADER_BYTES (frame_spelling (new_header payload)) (new_header payload) =
      record { fits = record { epoch = omega arith; number = omega arith; payload = few }; rest = []; parts = sym (append-nil (frame_spelling (new_header payload))) } in
      ap (λ l. kept_if (is_header 0) (front_of MAX_HEADER_BYTES l)) (take_all SLOT_BYTES (frame_spelling (new_header payload)) new_size)
      ∙ ap (kept_if (is_header 0)) (front_only MAX_HEADER_BYTES (frame_spelling (new_header payload)) (new_header payload) (omega arith) begins)

  new_second : header_in_slot 1 (frame_spelling (new_header payload)) ≡ None
  new_second =
      let text : List ℕ = frame_spelling (new_header payload) in
      none_kept (is_header 1) MAX_HEADER_BYTES (take SLOT_BYTES (drop SLOT_BYTES text)) (omega (arith, new_size, length-take SLOT_BYTES (drop SLOT_BYTES text), length-drop SLOT_BYTES text))

  pub whole_header : IsFile (frame_spelling (new_header payload)) (new_file payload)
  whole_header = record {
    header_is = ap (λ a. later_of a (header_in_slot 1 (frame_spelling (new_header payload)))) new_first ∙ ap (later_of (Some (new_header payload))) new_second;
    frames_are = no_entries 0 (frame_spelling (new_header payload)) (omega (arith, new_size));
  }

  pub header_trim : IsTrim (new_file payload) (frame_spelling (new_header payload))
  header_trim = record { behind = omega (arith, new_size); slots = inr (inl new_size) }

-- ---- a torn header alone

nothing_counts : (place : ℕ) (f : Frame) → CountsAt [] place f → ⊥
nothing_counts place f (inl header) = let apart : None ≡ Some f = sym no_header ∙ header.0 in cc
nothing_counts place f (inr entry) = let apart : None ≡ Some entry.header = sym no_header ∙ entry.counts in cc

module _ (payload c : List ℕ) (none : NoChance (new_header payload ∷ []) [] c) where
  made_frame : (place : ℕ) (f : Frame) → CountsAt c place f → new_header payload ≡ f
  made_frame place f counts = elim (none place f counts) [
    | inl before ↦ absurd (nothing_counts place f before)
    | inr has ↦ one_only (new_header payload) f has
  ]

  no_entry : (frames : List Frame) → header_frame c ≡ Some (new_header payload) → entry_frames 0 c ≡ frames → frames ≡ []
  no_entry [] header are = refl
  no_entry (f ∷ back) header are =
      let counts : EntryCounts c (ENTRIES_AT + bytes_of []) f = record { header = new_header payload; front = []; back = back; counts = header; frames = are; at = refl } in
      let same : new_header payload ≡ f = made_frame (ENTRIES_AT + bytes_of []) f (inr counts) in
      let first : Count 0 1 (entries_part c) (f ∷ back) = subst (Count 0 1 (entries_part c)) are (entry_frames_count 0 c) in
      absurd (omega (arith, ap (λ (g : Frame). g.number) same, entry_number 0 1 (entries_part c) f first.0))

  made_by : (o : Option Frame) → header_frame c ≡ o → IsFile c (new_file payload) ⊎ (header_frame c ≡ None)
  made_by None is = inr is
  made_by (Some h) is =
      let same : new_header payload ≡ h = made_frame (SLOT_BYTES * slot_of h.epoch) h (inl (is, refl)) in
      let header : header_frame c ≡ Some (new_header payload) = is ∙ ap Some (sym same) in
      inl (record { header_is = header; frames_are = no_entry (entry_frames 0 c) header refl })

  -- some of a header's frame and nothing else is the new file or none, but for what makes frames by chance
  pub torn_header : IsFile c (new_file payload) ⊎ (header_frame c ≡ None)
  torn_header = made_by (header_frame c) refl
