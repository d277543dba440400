-- The frames of a stream are those whose spellings it has.
use Rattle.std.proofs.Common.{◌≡◌, ℕ, ◌+◌, ◌/◌, ◌%◌, List, [], ◌∷◌, ◌++◌, length, refl, sym, ap, subst, ◌∙◌, append_assoc, arith, length-append}
use Rattle.std.specs.List.{flat_map, AllByRecursion}
use Rattle.std.proofs.lemmas.List.{append-nil}
use Rattle.wire_frames.specs.declared.limits.TheConstants.{LENGTH_BYTES}
use Rattle.wire_frames.specs.Frames.{frame_spelling, short, frame, front_of, End, between, within, too_long, end_of, Stream, no_frame, all_frames, with_frame, frames_of, Fits, IsByte, EndsAs, HasFrames}
use Rattle.wire_frames.proofs.FrameLemmas.{Cut, Cut-front, front_of-Cut, frames_at, frames_at-short, frames_at-frame, frames_at-long, by_frames}

-- ---- what is spelled so is read

pub Cut-spelling : (body rest : List ℕ) → Fits body → Cut (frame_spelling body ++ rest) body rest
Cut-spelling body rest fits =
    let n : ℕ = length body in
    record { low = n % 256; middle = n / 256 % 256; high = n / 65536 % 256; parts = refl; size = omega arith; fits = fits }

-- ---- what is read is spelled so

IsByte-rest : (bytes rest : List ℕ) → AllByRecursion IsByte (bytes ++ rest) → AllByRecursion IsByte rest
IsByte-rest [] rest all = all
IsByte-rest (byte ∷ bytes) rest all = IsByte-rest bytes rest all.1

pub spelling-Cut : (bytes body rest : List ℕ) → AllByRecursion IsByte bytes → Cut bytes body rest
    → (bytes ≡ frame_spelling body ++ rest) × AllByRecursion IsByte rest
spelling-Cut bytes body rest all cut =
    let n : ℕ = length body in
    let are = subst (AllByRecursion IsByte) cut.parts all in
    let low : n % 256 ≡ cut.low = omega (arith, cut.size, are.0, are.1.0, are.1.1.0) in
    let middle : n / 256 % 256 ≡ cut.middle = omega (arith, cut.size, are.0, are.1.0, are.1.1.0) in
    let high : n / 65536 % 256 ≡ cut.high = omega (arith, cut.size, are.0, are.1.0, are.1.1.0) in
    (rw (low, middle, high) cut.parts, IsByte-rest body rest are.1.1.1)

-- the end of a stream without frames
ends_no_frame : (ending : End) (at : ℕ) (bytes : List ℕ) → EndsAs ending at bytes → frames_at at bytes ≡ no_frame ending
ends_no_frame between at bytes ends = ap (frames_at at) ends ∙ frames_at-short at [] refl
ends_no_frame (within []) at bytes ends = absurd (omega (arith, ends.1))
ends_no_frame (within (byte ∷ left)) at bytes ends = ap (frames_at at) ends.0 ∙ frames_at-short at (byte ∷ left) ends.2
ends_no_frame (too_long place) at bytes ends = frames_at-long at bytes ends.1 ∙ ap (λ p. no_frame (too_long p)) (sym ends.0)

-- what is spelled so is read
spelled_frames : (bodies : List (List ℕ)) (ending : End) (at : ℕ) (bytes rest : List ℕ) → bytes ≡ flat_map frame_spelling bodies ++ rest → AllByRecursion Fits bodies
    → EndsAs ending (at + length (flat_map frame_spelling bodies)) rest → frames_at at bytes ≡ record { bodies = bodies; ending = ending }
spelled_frames [] ending at bytes rest joined fit ends =
    let here : at + 0 ≡ at = omega arith in
    ap (frames_at at) joined ∙ ends_no_frame ending at rest (subst (λ p. EndsAs ending p rest) here ends)
spelled_frames (body ∷ bodies) ending at bytes rest joined fit ends =
    let more : List ℕ = flat_map frame_spelling bodies in
    let next : ℕ = at + (LENGTH_BYTES + length body) in
    let parts : bytes ≡ frame_spelling body ++ (more ++ rest) = joined ∙ append_assoc (frame_spelling body) more rest in
    let place : at + length (frame_spelling body ++ more) ≡ next + length more = omega (arith, length-append (frame_spelling body) more) in
    let front = front_of-Cut (frame_spelling body ++ (more ++ rest)) body (more ++ rest) (Cut-spelling body (more ++ rest) fit.0) in
    ap (frames_at at) parts
    ∙ frames_at-frame at (frame_spelling body ++ (more ++ rest)) body (more ++ rest) front
    ∙ ap (with_frame body) (spelled_frames bodies ending next (more ++ rest) rest refl fit.1 (subst (λ p. EndsAs ending p rest) place ends))

pub frames_of-only : (bytes : List ℕ) (stream : Stream) → HasFrames 0 bytes stream → frames_of bytes ≡ stream
frames_of-only bytes stream has = spelled_frames stream.bodies stream.ending 0 bytes has.rest has.joined has.fit has.ends

-- the frames of spellings
pub frames_of-spellings : (bodies : List (List ℕ)) → AllByRecursion Fits bodies → frames_of (flat_map frame_spelling bodies) ≡ all_frames bodies
frames_of-spellings bodies fit =
    frames_of-only (flat_map frame_spelling bodies) (all_frames bodies)
    (record { rest = []; joined = sym (append-nil (flat_map frame_spelling bodies)); fit = fit; ends = refl })

-- what is read is spelled so
EndsAs-end_of : (at : ℕ) (bytes : List ℕ) → front_of bytes ≡ short → EndsAs (end_of bytes) at bytes
EndsAs-end_of at [] is = refl
EndsAs-end_of at (byte ∷ bytes) is = (refl, omega arith, is)

abbrev Reads : ℕ → List ℕ → Type 0
Reads at bytes = AllByRecursion IsByte bytes → HasFrames at bytes (frames_at at bytes)

no_frame_read : (ending : End) (at : ℕ) (bytes : List ℕ) → EndsAs ending at bytes → HasFrames at bytes (no_frame ending)
no_frame_read ending at bytes ends =
    let here : at ≡ at + 0 = omega arith in
    record { rest = bytes; joined = refl; fit = tt; ends = subst (λ p. EndsAs ending p bytes) here ends }

frame_read : (at : ℕ) (bytes body rest : List ℕ) → front_of bytes ≡ frame body rest → Reads (at + (LENGTH_BYTES + length body)) rest → Reads at bytes
frame_read at bytes body rest is step all =
    let cut = Cut-front bytes body rest is in
    let spelled = spelling-Cut bytes body rest all cut in
    let next : ℕ = at + (LENGTH_BYTES + length body) in
    let more = step spelled.1 in
    let after : Stream = frames_at next rest in
    let others : List ℕ = flat_map frame_spelling after.bodies in
    let place : next + length others ≡ at + length (frame_spelling body ++ others) = omega (arith, length-append (frame_spelling body) others) in
    rw (frames_at-frame at bytes body rest is) (record {
      rest = more.rest;
      joined = spelled.0 ∙ ap (λ l. frame_spelling body ++ l) more.joined ∙ sym (append_assoc (frame_spelling body) others more.rest);
      fit = (cut.fits, more.fit);
      ends = subst (λ p. EndsAs after.ending p more.rest) place more.ends;
    })

reads : (at : ℕ) (bytes : List ℕ) → Reads at bytes
reads = by_frames Reads
    (λ at bytes is all. rw (frames_at-short at bytes is) (no_frame_read (end_of bytes) at bytes (EndsAs-end_of at bytes is)))
    frame_read
    (λ at bytes is all. rw (frames_at-long at bytes is) (no_frame_read (too_long at) at bytes (refl, is)))

pub frames_of-found : (bytes : List ℕ) → AllByRecursion IsByte bytes → HasFrames 0 bytes (frames_of bytes)
frames_of-found bytes all = reads 0 bytes all
