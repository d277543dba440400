-- The entries that count: one list of frames for each epoch and bytes, and it is the one that is computed.
use Rattle.std.proofs.Common.{◌≡◌, ℕ, zero, suc, ◌+◌, ◌<◌, ◌≤◌, Bool, true, false, cond, List, [], ◌∷◌, ◌++◌, length, drop, Option, None, Some, refl, sym, ap, subst, ◌∙◌, append_assoc, arith}
use Rattle.std.proofs.lemmas.Bool.{and_parts, and_from, eqb-true, eq-eqb, lt-ltb, ltb-true}
use Rattle.std.proofs.lemmas.List.{length-drop, drop_at}
use Rattle.std.proofs.lemmas.List.Concat.{flat_map-cons}
use Rattle.std.specs.List.{flat_map}
use Rattle.compact_enc.specs.Reading.{IsBytes}
use Rattle.oplog_form.specs.declared.entry.TheConstants.{MAX_ENTRY_BYTES}
use Rattle.oplog_file.specs.Frames.{Frame, frame_spelling, frame_bytes, front_of, BeginsWith}
use Rattle.oplog_file.proofs.FrameLaws.{IsBytes-drop, front_only, front_found, front_bytes, spelling_length}
use Rattle.oplog_file.specs.Slots.{kept_if}
use Rattle.oplog_file.specs.Counting.{entries_part, is_entry, entry_in_front, Count, with_others, frames_up_to, entry_frames, IsRun}

abbrev pub frame_or : Frame → Option Frame → Frame
frame_or other None = other
frame_or other (Some f) = f

-- no two lists count in the same bytes
pub one_list : (epoch number : ℕ) (bytes : List ℕ) (one other : List Frame) → Count epoch number bytes one → Count epoch number bytes other → one ≡ other
one_list epoch number bytes [] [] p q = refl
one_list epoch number bytes [] (g ∷ others) p q = let apart : None ≡ Some g = sym p ∙ q.0 in cc
one_list epoch number bytes (f ∷ frames) [] p q = let apart : None ≡ Some f = sym q ∙ p.0 in cc
one_list epoch number bytes (f ∷ frames) (g ∷ others) p q =
    let same : f ≡ g = ap (frame_or f) (sym p.0 ∙ q.0) in
    let behind : Count epoch (suc number) (drop (frame_bytes f) bytes) others = subst (λ h. Count epoch (suc number) (drop (frame_bytes h) bytes) others) (sym same) q.1 in
    ap (λ h. h ∷ frames) same ∙ ap (λ l. g ∷ l) (one_list epoch (suc number) (drop (frame_bytes f) bytes) frames others p.1 behind)

-- ---- the frames that are computed count

pub kept : (test : Frame → Bool) (o : Option Frame) (f : Frame) → kept_if test o ≡ Some f → (o ≡ Some f) × (test f ≡ true)
kept test None f is = let apart : None ≡ Some f = is in cc
kept test (Some g) f is = kept_by (test g) g f refl is
  where
    kept_by : (b : Bool) (g f : Frame) → test g ≡ b → cond b (Some g) None ≡ Some f → (Some g ≡ Some f) × (test f ≡ true)
    kept_by true g f passes is = (is, ap test (sym (ap (frame_or f) is)) ∙ passes)
    kept_by false g f fails is = let apart : None ≡ Some f = is in cc

-- a frame that counts has bytes, and they are there
pub entry_bytes : (epoch number : ℕ) (bytes : List ℕ) (f : Frame) → entry_in_front epoch number bytes ≡ Some f → (0 < frame_bytes f) × (frame_bytes f ≤ length bytes)
entry_bytes epoch number bytes f is = (omega arith, front_bytes MAX_ENTRY_BYTES bytes f (kept (is_entry epoch number) (front_of MAX_ENTRY_BYTES bytes) f is).0)

step : (epoch number : ℕ) (bytes : List ℕ) (others : List ℕ → List Frame) (o : Option Frame) → entry_in_front epoch number bytes ≡ o
    → ((f : Frame) → entry_in_front epoch number bytes ≡ Some f → Count epoch (suc number) (drop (frame_bytes f) bytes) (others (drop (frame_bytes f) bytes)))
    → Count epoch number bytes (with_others bytes others o)
step epoch number bytes others None is next = is
step epoch number bytes others (Some f) is next = (is, next f is)

no_entry : (epoch number : ℕ) (bytes : List ℕ) (o : Option Frame) → entry_in_front epoch number bytes ≡ o → length bytes ≡ 0 → o ≡ None
no_entry epoch number bytes None is none = refl
no_entry epoch number bytes (Some f) is none = let there = entry_bytes epoch number bytes f is in absurd (omega (arith, there.0, there.1, none))

pub frames_count : (most epoch number : ℕ) (bytes : List ℕ) → length bytes ≤ most → Count epoch number bytes (frames_up_to most epoch number bytes)
unfolding frames_up_to
frames_count zero epoch number bytes few = no_entry epoch number bytes (entry_in_front epoch number bytes) refl (omega (arith, few))
frames_count (suc most) epoch number bytes few =
    step epoch number bytes (frames_up_to most epoch (suc number)) (entry_in_front epoch number bytes) refl (λ f is.
    let there = entry_bytes epoch number bytes f is in
    frames_count most epoch (suc number) (drop (frame_bytes f) bytes) (omega (arith, few, there.0, there.1, length-drop (frame_bytes f) bytes)))

-- the entries' frames of an area are those that count
pub entry_frames_count : (epoch : ℕ) (area : List ℕ) → Count epoch 1 (entries_part area) (entry_frames epoch area)
entry_frames_count epoch area = frames_count (length (entries_part area)) epoch 1 (entries_part area) (omega arith)

-- ---- frames that are written one behind the other count

pub run_counts : (epoch number : ℕ) (frames : List Frame) (rest : List ℕ) → IsRun epoch number frames → entry_in_front epoch (number + length frames) rest ≡ None
    → Count epoch number (flat_map frame_spelling frames ++ rest) frames
run_counts epoch number [] rest run none = subst (λ n. entry_in_front epoch n rest ≡ None) (omega arith) none
run_counts epoch number (f ∷ frames) rest run none =
    let others = flat_map frame_spelling frames ++ rest in
    let text : flat_map frame_spelling (f ∷ frames) ++ rest ≡ frame_spelling f ++ others =
    ap (λ l. l ++ rest) (flat_map-cons frame_spelling f frames) ∙ append_assoc (frame_spelling f) (flat_map frame_spelling frames) rest in
    let begins : BeginsWith MAX_ENTRY_BYTES (frame_spelling f ++ others) f = record { fits = run.0; rest = others; parts = refl } in
    let passes : is_entry epoch number f ≡ true = and_from _ _ (and_from _ _ (eq-eqb _ _ run.1) (eq-eqb _ _ run.2)) (lt-ltb _ _ run.3) in
    let found : entry_in_front epoch number (frame_spelling f ++ others) ≡ Some f =
    ap (kept_if (is_entry epoch number)) (front_only MAX_ENTRY_BYTES (frame_spelling f ++ others) f (omega arith) begins) ∙ ap (λ b. cond b (Some f) None) passes in
    let behind : drop (frame_bytes f) (frame_spelling f ++ others) ≡ others = drop_at (frame_spelling f) others (frame_bytes f) (spelling_length f) in
    let later : entry_in_front epoch (suc number + length frames) rest ≡ None = subst (λ n. entry_in_front epoch n rest ≡ None) (omega arith) none in
    subst (λ bytes. Count epoch number bytes (f ∷ frames)) (sym text)
    (found, subst (λ bytes. Count epoch (suc number) bytes frames) (sym behind) (run_counts epoch (suc number) frames rest run.4 later))

-- ---- what counts is written so

-- the frames are spelled at the front of the bytes, one behind the other, and no entry counts behind them
pub record Written (epoch number : ℕ) (bytes : List ℕ) (frames : List Frame) : Type 0 where
  pub run : IsRun epoch number frames
  pub rest : List ℕ
  pub parts : bytes ≡ flat_map frame_spelling frames ++ rest
  pub ends : entry_in_front epoch (number + length frames) rest ≡ None

pub count_written : (epoch number : ℕ) (bytes : List ℕ) (frames : List Frame) → IsBytes bytes → Count epoch number bytes frames → Written epoch number bytes frames
count_written epoch number bytes [] fits none = record { run = tt; rest = bytes; parts = refl; ends = subst (λ n. entry_in_front epoch n bytes ≡ None) (omega arith) none }
count_written epoch number bytes (f ∷ frames) fits counts =
    let found = kept (is_entry epoch number) (front_of MAX_ENTRY_BYTES bytes) f counts.0 in
    let begins = front_found MAX_ENTRY_BYTES bytes f fits found.0 in
    let tests = and_parts _ _ found.1 in
    let both = and_parts _ _ tests.0 in
    let behind : drop (frame_bytes f) bytes ≡ begins.rest = ap (drop (frame_bytes f)) begins.parts ∙ drop_at (frame_spelling f) begins.rest (frame_bytes f) (spelling_length f) in
    let others = count_written epoch (suc number) (drop (frame_bytes f) bytes) frames (IsBytes-drop (frame_bytes f) bytes fits) counts.1 in
    record {
      run = (begins.fits, eqb-true _ _ both.0, eqb-true _ _ both.1, ltb-true _ _ tests.1, others.run);
      rest = others.rest;
      parts = begins.parts ∙ ap (λ l. frame_spelling f ++ l) (sym behind ∙ others.parts)
          ∙ sym (ap (λ l. l ++ others.rest) (flat_map-cons frame_spelling f frames) ∙ append_assoc (frame_spelling f) (flat_map frame_spelling frames) others.rest);
      ends = subst (λ n. entry_in_front epoch n others.rest ≡ None) (omega arith) others.ends;
    }

pub written_counts : (epoch number : ℕ) (bytes : List ℕ) (frames : List Frame) → Written epoch number bytes frames → Count epoch number bytes frames
written_counts epoch number bytes frames w = subst (λ l. Count epoch number l frames) (sym w.parts) (run_counts epoch number frames w.rest w.run w.ends)
