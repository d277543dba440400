-- What stands at the front of a stream, as bytes are added to it.
use Rattle.std.proofs.Common.{◌≡◌, ℕ, ◌+◌, ◌-◌, ◌<◌, ◌≤◌, min, List, [], ◌∷◌, ◌++◌, length, take, drop, Ok, refl, subst, sym, ap, ◌∙◌, append_assoc, arith, inl, inr, length-append, length-drop}
use Rattle.std.proofs.lemmas.Bool.{cases_lt, lt-ltb, le-ltb}
use Rattle.std.proofs.lemmas.List.{take_all, take_at, drop_at, take-append-drop, length-take-le, drop-append-le, append-nil, drop-drop}
use Rattle.wire_frames.specs.declared.limits.TheConstants.{MAX_FRAME_BYTES, LENGTH_BYTES}
use Rattle.wire_frames.specs.declared.fill.Filled.TheVariants.{Whole}
use Rattle.wire_frames.specs.Frames.{Front, short, frame, long, body_front, front_of}
use Rattle.wire_frames.specs.Framing.{FramerView, feed, partial, whole}
use Rattle.wire_frames.specs.Filling.{length_at, Fills}

-- with its length there, the front is that of a body of so many bytes
pub front_of-at : (bytes : List ℕ) → LENGTH_BYTES ≤ length bytes → front_of bytes ≡ body_front (length_at bytes) (drop LENGTH_BYTES bytes)
front_of-at [] some = absurd (omega arith)
front_of-at (a ∷ []) some = absurd (omega arith)
front_of-at (a ∷ b ∷ []) some = absurd (omega arith)
front_of-at (a ∷ b ∷ c ∷ bytes) some = refl

-- bytes behind the length don't change it
pub length_at-append : (bytes more : List ℕ) → LENGTH_BYTES ≤ length bytes → length_at (bytes ++ more) ≡ length_at bytes
length_at-append [] more some = absurd (omega arith)
length_at-append (a ∷ []) more some = absurd (omega arith)
length_at-append (a ∷ b ∷ []) more some = absurd (omega arith)
length_at-append (a ∷ b ∷ c ∷ bytes) more some = refl

-- all of a body is there
pub body_front-there : (n : ℕ) (body rest : List ℕ) → n ≤ MAX_FRAME_BYTES → length body ≡ n → body_front n (body ++ rest) ≡ frame body rest
body_front-there n body rest fits size =
    let enough : n ≤ length (body ++ rest) = omega (arith, length-append body rest) in
    rw (le-ltb MAX_FRAME_BYTES n fits, le-ltb (length (body ++ rest)) n enough, take_at body rest n size, drop_at body rest n size) refl

-- what stands in front of a body of n bytes says of n and of the bytes
abbrev pub BodyIs : Front → ℕ → List ℕ → Type 0
BodyIs short n bytes = (n ≤ MAX_FRAME_BYTES) × (length bytes < n)
BodyIs (frame body rest) n bytes = (n ≤ MAX_FRAME_BYTES) × (n ≤ length bytes) × (body ≡ take n bytes) × (rest ≡ drop n bytes)
BodyIs long n bytes = MAX_FRAME_BYTES < n

body_front-is : (n : ℕ) (bytes : List ℕ) → BodyIs (body_front n bytes) n bytes
body_front-is n bytes = elim (cases_lt MAX_FRAME_BYTES n) [
  | inl above ↦ rw (lt-ltb MAX_FRAME_BYTES n above) above
  | inr fits ↦ elim (cases_lt (length bytes) n) [
    | inl less ↦ rw (le-ltb MAX_FRAME_BYTES n fits, lt-ltb (length bytes) n less) (fits, less)
    | inr all ↦ rw (le-ltb MAX_FRAME_BYTES n fits, le-ltb (length bytes) n all) (fits, all, refl, refl)
  ]
]

pub BodyIs-front : (n : ℕ) (bytes : List ℕ) (front : Front) → body_front n bytes ≡ front → BodyIs front n bytes
BodyIs-front n bytes front is = subst (λ f. BodyIs f n bytes) is (body_front-is n bytes)

-- an unfinished frame is shorter than its length says
pub short-length : (bytes : List ℕ) → front_of bytes ≡ short → LENGTH_BYTES ≤ length bytes → length bytes < LENGTH_BYTES + length_at bytes
short-length bytes unfinished some =
    let is = BodyIs-front (length_at bytes) (drop LENGTH_BYTES bytes) short (sym (front_of-at bytes some) ∙ unfinished) in
    omega (arith, is.1, length-drop LENGTH_BYTES bytes)

-- a whole frame and what is behind it
pub front_of-whole : (two rest : List ℕ) → LENGTH_BYTES ≤ length two → length_at two ≤ MAX_FRAME_BYTES → length two ≡ LENGTH_BYTES + length_at two
    → front_of (two ++ rest) ≡ frame (drop LENGTH_BYTES two) rest
front_of-whole two rest some fits size =
    let there : LENGTH_BYTES ≤ length (two ++ rest) = omega (arith, length-append two rest) in
    let body : length (drop LENGTH_BYTES two) ≡ length_at two = omega (arith, length-drop LENGTH_BYTES two) in
    front_of-at (two ++ rest) there
    ∙ rw (length_at-append two rest some, drop-append-le LENGTH_BYTES two rest some) (body_front-there (length_at two) (drop LENGTH_BYTES two) rest fits body)

-- two cuts of a piece
cut_twice : (old piece rest : List ℕ) (front more : ℕ) → rest ≡ drop front piece
    → old ++ piece ≡ (old ++ take front piece ++ take more rest) ++ drop (front + more) piece
cut_twice old piece rest front more e =
    let behind : drop (front + more) piece ≡ drop more rest = sym (ap (drop more) e ∙ drop-drop more front piece) in
    sym (ap (λ l. old ++ take front piece ++ take more rest ++ l) behind
    ∙ append_assoc (old ++ take front piece) (take more rest) (drop more rest)
    ∙ ap (λ l. old ++ take front piece ++ l) (take-append-drop more rest ∙ e)
    ∙ append_assoc old (take front piece) (drop front piece)
    ∙ ap (λ l. old ++ l) (take-append-drop front piece))

-- a frame to which the bytes of a piece were added that make it whole: first those of its length, then those of its body
pub frame_filled : (old one two piece rest : List ℕ) (front more size : ℕ) → front_of old ≡ short
    → front ≡ min (length piece) (LENGTH_BYTES - length old) → one ≡ old ++ take front piece → LENGTH_BYTES ≤ length one
    → size ≡ length_at one → size ≤ MAX_FRAME_BYTES → rest ≡ drop front piece
    → more ≡ min (length rest) (LENGTH_BYTES + size - length one) → two ≡ one ++ take more rest
    → LENGTH_BYTES + size ≤ length two → Fills old two piece (Whole (front + more))
frame_filled old one two piece rest front more size unfinished ef e1 head es fits er em e2 enough =
    let left : length rest ≡ length piece - front = ap length er ∙ length-drop front piece in
    let len1 : length one ≡ length old + front =
    ap length e1 ∙ length-append old (take front piece) ∙ ap (λ n. length old + n) (length-take-le front piece (omega arith)) in
    let len2 : length two ≡ length one + more =
    ap length e2 ∙ length-append one (take more rest) ∙ ap (λ n. length one + n) (length-take-le more rest (omega arith)) in
    let joined : old ++ piece ≡ two ++ drop (front + more) piece = rw (e2, e1) (cut_twice old piece rest front more er) in
    let less : length old < LENGTH_BYTES + size = elim (cases_lt (length old) LENGTH_BYTES) [
      | inl less ↦ omega arith
      | inr has ↦
          let none : front ≡ 0 = omega arith in
          let same : one ≡ old = e1 ∙ ap (λ n. old ++ take n piece) none ∙ append-nil old in
          omega (arith, short-length old unfinished has, ap length_at same, ap length same)
    ] in
    let same_length : length_at two ≡ size = rw e2 (length_at-append one (take more rest) head) ∙ sym es in (
      ap front_of joined ∙ front_of-whole two (drop (front + more) piece) (omega arith) (omega (arith, same_length)) (omega (arith, same_length)),
      omega arith,
      omega arith,
      omega arith,
    )

-- a piece that makes a frame whole, of which all k bytes are kept
pub feed-whole : (place k n : ℕ) (kept new piece : List ℕ) (framer : FramerView) → Fills kept new piece (Whole n) → k ≡ length new
    → record { place = place; state = partial kept } ≡ framer
    → feed framer piece ≡ record { answer = Ok n; framer = record { place = place + n; state = whole (drop LENGTH_BYTES (take k new)) } }
feed-whole place k n kept new piece framer fills size was =
    let count : length piece - length (drop n piece) ≡ n = omega (arith, length-drop n piece, fills.3) in
    let all : take k new ≡ new = take_all k new (omega arith) in
    rw (← was, fills.0, all, count) refl
