-- The frames of a stream: one by one, and as bytes are added at its end.
use Rattle.std.proofs.Common.{◌≡◌, ℕ, zero, suc, ◌+◌, ◌-◌, ◌*◌, ◌<◌, ◌≤◌, List, [], ◌∷◌, ◌++◌, length, refl, sym, ap, ◌∙◌, append_assoc, arith, length-append}
use Rattle.std.proofs.lemmas.Bool.{lt-ltb}
use Rattle.std.proofs.lemmas.List.{take-append-drop, length-take-le}
use Rattle.wire_frames.specs.declared.limits.TheConstants.{MAX_FRAME_BYTES, LENGTH_BYTES}
use Rattle.wire_frames.specs.Frames.{Front, short, frame, long, front_of, End, between, within, too_long, end_of, Stream, no_frame, with_frame, frames_from}
use Rattle.wire_frames.proofs.FrontLemmas.{body_front-there, BodyIs-front}

-- a frame stands at the front: its length, its body and what is behind it
pub record Cut (bytes body rest : List ℕ) : Type 0 where
  pub low : ℕ
  pub middle : ℕ
  pub high : ℕ
  pub parts : bytes ≡ low ∷ middle ∷ high ∷ body ++ rest
  pub size : length body ≡ low + 256 * middle + 65536 * high
  pub fits : length body ≤ MAX_FRAME_BYTES

-- a length above the limit stands at the front
pub record Above (bytes : List ℕ) : Type 0 where
  pub low : ℕ
  pub middle : ℕ
  pub high : ℕ
  pub rest : List ℕ
  pub parts : bytes ≡ low ∷ middle ∷ high ∷ rest
  pub above : MAX_FRAME_BYTES < low + 256 * middle + 65536 * high

pub Cut-front : (bytes body rest : List ℕ) → front_of bytes ≡ frame body rest → Cut bytes body rest
Cut-front [] body rest is = cc
Cut-front (a ∷ []) body rest is = cc
Cut-front (a ∷ b ∷ []) body rest is = cc
Cut-front (a ∷ b ∷ c ∷ bytes) body rest is =
    let n : ℕ = a + 256 * b + 65536 * c in
    let cut = BodyIs-front n bytes (frame body rest) is in
    let size : length body ≡ n = ap length cut.2 ∙ length-take-le n bytes cut.1 in
    let parts : bytes ≡ body ++ rest = rw (cut.2, cut.3) (sym (take-append-drop n bytes)) in
    record { low = a; middle = b; high = c; parts = ap (λ l. a ∷ b ∷ c ∷ l) parts; size = size; fits = omega (arith, size, cut.0) }

pub front_of-Cut : (bytes body rest : List ℕ) → Cut bytes body rest → front_of bytes ≡ frame body rest
front_of-Cut bytes body rest cut =
    let n : ℕ = cut.low + 256 * cut.middle + 65536 * cut.high in
    ap front_of cut.parts ∙ body_front-there n body rest (omega (arith, cut.size, cut.fits)) cut.size

pub Cut-append : (bytes body rest more : List ℕ) → Cut bytes body rest → Cut (bytes ++ more) body (rest ++ more)
Cut-append bytes body rest more cut = record {
  low = cut.low;
  middle = cut.middle;
  high = cut.high;
  parts = ap (λ l. l ++ more) cut.parts ∙ ap (λ l. cut.low ∷ cut.middle ∷ cut.high ∷ l) (append_assoc body rest more);
  size = cut.size;
  fits = cut.fits;
}

pub Cut-length : (bytes body rest : List ℕ) → Cut bytes body rest → length bytes ≡ LENGTH_BYTES + length body + length rest
Cut-length bytes body rest cut = omega (arith, ap length cut.parts, length-append body rest)

pub Above-front : (bytes : List ℕ) → front_of bytes ≡ long → Above bytes
Above-front [] is = cc
Above-front (a ∷ []) is = cc
Above-front (a ∷ b ∷ []) is = cc
Above-front (a ∷ b ∷ c ∷ bytes) is =
    record { low = a; middle = b; high = c; rest = bytes; parts = refl; above = BodyIs-front (a + 256 * b + 65536 * c) bytes long is }

pub front_of-Above : (bytes more : List ℕ) → Above bytes → front_of (bytes ++ more) ≡ long
front_of-Above bytes more it = ap (λ l. front_of (l ++ more)) it.parts ∙ rw (lt-ltb MAX_FRAME_BYTES (it.low + 256 * it.middle + 65536 * it.high) it.above) refl

-- ---- the frames, one by one

frames_from-short : (most at : ℕ) (bytes : List ℕ) → front_of bytes ≡ short → frames_from most at bytes ≡ no_frame (end_of bytes)
unfolding frames_from
frames_from-short zero at bytes is = refl
frames_from-short (suc most) at bytes is = rw (is, frames_from) refl

frames_from-frame : (most at : ℕ) (bytes body rest : List ℕ) → front_of bytes ≡ frame body rest
    → frames_from (suc most) at bytes ≡ with_frame body (frames_from most (at + (LENGTH_BYTES + length body)) rest)
unfolding frames_from
frames_from-frame most at bytes body rest is = rw (is, frames_from) refl

frames_from-long : (most at : ℕ) (bytes : List ℕ) → front_of bytes ≡ long → frames_from (suc most) at bytes ≡ no_frame (too_long at)
unfolding frames_from
frames_from-long most at bytes is = rw (is, frames_from) refl

-- more than enough steps make no difference
abbrev Enough : ℕ → Type 0
Enough m = (n at : ℕ) (bytes : List ℕ) → length bytes ≤ m → length bytes ≤ n → frames_from m at bytes ≡ frames_from n at bytes

enough_by : (front : Front) (m n at : ℕ) (bytes : List ℕ) → Enough m → front_of bytes ≡ front → length bytes ≤ suc m → length bytes ≤ suc n
    → frames_from (suc m) at bytes ≡ frames_from (suc n) at bytes
enough_by short m n at bytes enough is p q = frames_from-short (suc m) at bytes is ∙ sym (frames_from-short (suc n) at bytes is)
enough_by (frame body rest) m n at bytes enough is p q =
    let len = Cut-length bytes body rest (Cut-front bytes body rest is) in
    frames_from-frame m at bytes body rest is
    ∙ ap (with_frame body) (enough n (at + (LENGTH_BYTES + length body)) rest (omega (arith, len)) (omega (arith, len)))
    ∙ sym (frames_from-frame n at bytes body rest is)
enough_by long m n at bytes enough is p q = frames_from-long m at bytes is ∙ sym (frames_from-long n at bytes is)

frames_from-enough : (m : ℕ) → Enough m
frames_from-enough m n at [] p q = frames_from-short m at [] refl ∙ sym (frames_from-short n at [] refl)
frames_from-enough zero n at (byte ∷ bytes) p q = absurd (omega arith)
frames_from-enough (suc m) zero at (byte ∷ bytes) p q = absurd (omega arith)
frames_from-enough (suc m) (suc n) at (byte ∷ bytes) p q =
    enough_by (front_of (byte ∷ bytes)) m n at (byte ∷ bytes) (frames_from-enough m) refl p q

-- the frames from a place on
abbrev pub frames_at : ℕ → List ℕ → Stream
frames_at at bytes = frames_from (length bytes) at bytes

pub frames_at-short : (at : ℕ) (bytes : List ℕ) → front_of bytes ≡ short → frames_at at bytes ≡ no_frame (end_of bytes)
frames_at-short at bytes is = frames_from-short (length bytes) at bytes is

pub frames_at-frame : (at : ℕ) (bytes body rest : List ℕ) → front_of bytes ≡ frame body rest
    → frames_at at bytes ≡ with_frame body (frames_at (at + (LENGTH_BYTES + length body)) rest)
frames_at-frame at [] body rest is = cc
frames_at-frame at (byte ∷ bytes) body rest is =
    let len = Cut-length (byte ∷ bytes) body rest (Cut-front (byte ∷ bytes) body rest is) in
    frames_from-frame (length bytes) at (byte ∷ bytes) body rest is
    ∙ ap (with_frame body) (frames_from-enough (length bytes) (length rest) (at + (LENGTH_BYTES + length body)) rest (omega (arith, len)) (omega arith))

pub frames_at-long : (at : ℕ) (bytes : List ℕ) → front_of bytes ≡ long → frames_at at bytes ≡ no_frame (too_long at)
frames_at-long at [] is = cc
frames_at-long at (byte ∷ bytes) is = frames_from-long (length bytes) at (byte ∷ bytes) is

-- what goes from the rest behind a frame to the whole is so at each stream
module _ (P : ℕ → List ℕ → Type 0)
    (at_short : (at : ℕ) (bytes : List ℕ) → front_of bytes ≡ short → P at bytes)
    (at_frame : (at : ℕ) (bytes body rest : List ℕ) → front_of bytes ≡ frame body rest → P (at + (LENGTH_BYTES + length body)) rest → P at bytes)
    (at_long : (at : ℕ) (bytes : List ℕ) → front_of bytes ≡ long → P at bytes) where
  by_front : (front : Front) (most at : ℕ) (bytes : List ℕ) → ((at : ℕ) (rest : List ℕ) → length rest ≤ most → P at rest) → length bytes ≤ suc most
      → front_of bytes ≡ front → P at bytes
  by_front short most at bytes step few is = at_short at bytes is
  by_front (frame body rest) most at bytes step few is =
      at_frame at bytes body rest is (step (at + (LENGTH_BYTES + length body)) rest (omega (arith, Cut-length bytes body rest (Cut-front bytes body rest is))))
  by_front long most at bytes step few is = at_long at bytes is

  by_most : (most at : ℕ) (bytes : List ℕ) → length bytes ≤ most → P at bytes
  by_most zero at [] few = at_short at [] refl
  by_most zero at (byte ∷ bytes) few = absurd (omega arith)
  by_most (suc most) at bytes few = by_front (front_of bytes) most at bytes (by_most most) few refl

  pub by_frames : (at : ℕ) (bytes : List ℕ) → P at bytes
  by_frames at bytes = by_most (length bytes) at bytes (omega arith)

-- ---- bytes at the end of a stream

-- the bytes behind the last frame
abbrev pub left_of : End → List ℕ
left_of between = []
left_of (within left) = left
left_of (too_long at) = []

pub left_of-end_of : (bytes : List ℕ) → left_of (end_of bytes) ≡ bytes
left_of-end_of [] = refl
left_of-end_of (byte ∷ bytes) = refl

-- these frames, and then those of another stream
abbrev pub and_then : List (List ℕ) → Stream → Stream
and_then bodies stream = record { bodies = bodies ++ stream.bodies; ending = stream.ending }

-- a stream whose frames and end are known, and whose bytes end at this place, with more bytes behind them
abbrev pub continued : List (List ℕ) → End → ℕ → List ℕ → Stream
continued bodies between place more = and_then bodies (frames_at place more)
continued bodies (within left) place more = and_then bodies (frames_at (place - length left) (left ++ more))
continued bodies (too_long at) place more = record { bodies = bodies; ending = too_long at }

pub continued-end_of : (bodies : List (List ℕ)) (bytes more : List ℕ) (place : ℕ)
    → continued bodies (end_of bytes) place more ≡ and_then bodies (frames_at (place - length bytes) (bytes ++ more))
continued-end_of bodies [] more place = let here : place ≡ place - 0 = omega arith in ap (λ p. and_then bodies (frames_at p more)) here
continued-end_of bodies (byte ∷ bytes) more place = refl

continued-cons : (body : List ℕ) (bodies : List (List ℕ)) (ending : End) (place : ℕ) (more : List ℕ)
    → continued (body ∷ bodies) ending place more ≡ with_frame body (continued bodies ending place more)
continued-cons body bodies between place more = refl
continued-cons body bodies (within left) place more = refl
continued-cons body bodies (too_long at) place more = refl

-- more bytes at the end go on with the frame in which the stream ended
abbrev Continues : List ℕ → ℕ → List ℕ → Type 0
Continues more at bytes =
    let stream = frames_at at bytes in
    frames_at at (bytes ++ more) ≡ continued stream.bodies stream.ending (at + length bytes) more

continues-short : (more : List ℕ) (at : ℕ) (bytes : List ℕ) → front_of bytes ≡ short → Continues more at bytes
continues-short more at bytes is =
    let place : at ≡ at + length bytes - length bytes = omega arith in
    rw (frames_at-short at bytes is) (ap (λ p. frames_at p (bytes ++ more)) place ∙ sym (continued-end_of [] bytes more (at + length bytes)))

continues-frame : (more : List ℕ) (at : ℕ) (bytes body rest : List ℕ) → front_of bytes ≡ frame body rest
    → Continues more (at + (LENGTH_BYTES + length body)) rest → Continues more at bytes
continues-frame more at bytes body rest is step =
    let cut = Cut-front bytes body rest is in
    let next : ℕ = at + (LENGTH_BYTES + length body) in
    let again = front_of-Cut (bytes ++ more) body (rest ++ more) (Cut-append bytes body rest more cut) in
    let place : next + length rest ≡ at + length bytes = omega (arith, Cut-length bytes body rest cut) in
    rw (frames_at-frame at bytes body rest is)
    (frames_at-frame at (bytes ++ more) body (rest ++ more) again
    ∙ ap (with_frame body) step
    ∙ sym (continued-cons body (frames_at next rest).bodies (frames_at next rest).ending (next + length rest) more)
    ∙ ap (λ p. continued (body ∷ (frames_at next rest).bodies) (frames_at next rest).ending p more) place)

pub frames_at-append : (more : List ℕ) (at : ℕ) (bytes : List ℕ) → Continues more at bytes
frames_at-append more = by_frames (Continues more) (continues-short more) (continues-frame more)
    (λ at bytes is. rw (frames_at-long at bytes is) (frames_at-long at (bytes ++ more) (front_of-Above bytes more (Above-front bytes is))))

-- what is left at the end is no frame
abbrev EndsShort : ℕ → List ℕ → Type 0
EndsShort at bytes = front_of (left_of (frames_at at bytes).ending) ≡ short

pub ends_short : (at : ℕ) (bytes : List ℕ) → EndsShort at bytes
ends_short = by_frames EndsShort
    (λ at bytes is. rw (frames_at-short at bytes is, left_of-end_of bytes) is)
    (λ at bytes body rest is step. rw (frames_at-frame at bytes body rest is) step)
    (λ at bytes is. rw (frames_at-long at bytes is) refl)
