-- What is read is spelled so, and what is spelled so is read, whatever follows.
use Rattle.std.proofs.Common.{◌≡◌, ℕ, suc, ◌-◌, ◌^◌, ◌<◌, ◌≤◌, ltb, eqb, List, [], ◌∷◌, ◌++◌, length, Ok, refl, sym, ap, subst, ◌∙◌, append_assoc, arith, inl, inr}
use Rattle.std.specs.Prelude.{IfOk}
use Rattle.std.specs.Int.{w16, w32, w64, to_le_bytes, from_le_bytes}
use Rattle.std.proofs.lemmas.Bool.{cases_lt, ltb-true, ltb-false, lt-ltb, le-ltb, eqb-true, eqb-false}
use Rattle.std.proofs.lemmas.Nat.{le_bytes_2, le_bytes_4, le_bytes_8, from_le_bytes-to_le_bytes_2, from_le_bytes-to_le_bytes_4, from_le_bytes-to_le_bytes_8}
use Rattle.compact_enc.specs.declared.marks.TheConstants.{MARK_U16, MARK_U32, MARK_U64, LEAST_U16, LEAST_U32, LEAST_U64}
use Rattle.compact_enc.specs.declared.fields.EncFault.TheVariants.{NotShortest, TooLarge}
use Rattle.compact_enc.specs.Spelling.{uint_spelling, buffer_spelling}
use Rattle.compact_enc.specs.Reading.{IsBytes, bytes_at, checked, wide_at, uint_at, buffer_at}
use Rattle.compact_enc.proofs.Steps.{if_read, if_more, if_passed, if_chosen, Took, Took-then, bytes_take, bytes_again}

-- ---- the four cases of a number's spelling

pub spelled_u8 : (n : ℕ) → n < LEAST_U16 → uint_spelling n ≡ n ∷ []
unfolding uint_spelling
spelled_u8 n small = rw (lt-ltb n LEAST_U16 small) refl

pub spelled_u16 : (n : ℕ) → LEAST_U16 ≤ n → n < LEAST_U32 → uint_spelling n ≡ MARK_U16 ∷ to_le_bytes w16 n
unfolding uint_spelling
spelled_u16 n large small = rw (le-ltb n LEAST_U16 large, lt-ltb n LEAST_U32 small) refl

pub spelled_u32 : (n : ℕ) → LEAST_U32 ≤ n → n < LEAST_U64 → uint_spelling n ≡ MARK_U32 ∷ to_le_bytes w32 n
unfolding uint_spelling
spelled_u32 n large small = rw (le-ltb n LEAST_U16 (omega (arith, large)), le-ltb n LEAST_U32 large, lt-ltb n LEAST_U64 small) refl

pub spelled_u64 : (n : ℕ) → LEAST_U64 ≤ n → uint_spelling n ≡ MARK_U64 ∷ to_le_bytes w64 n
unfolding uint_spelling
spelled_u64 n large = rw (le-ltb n LEAST_U16 (omega (arith, large)), le-ltb n LEAST_U32 (omega (arith, large)), le-ltb n LEAST_U64 large) refl

-- ---- what is read is spelled so

checked_takes : (least max at n : ℕ) → IfOk (checked least max at n) (λ m. (m ≡ n) × (least ≤ n) × (n ≤ max))
checked_takes least max at n =
    if_passed (ltb n least) _ (NotShortest at) _ (λ above.
    if_passed (ltb max n) (Ok n) (TooLarge at) _ (λ below. (refl, ltb-false _ _ above, ltb-false _ _ below)))

wide_takes_u16 : (max at : ℕ) (bytes : List ℕ) → IsBytes bytes
    → IfOk (wide_at w16 LEAST_U16 max at bytes) (λ x. Took bytes (to_le_bytes w16 x.0) x.1 × (LEAST_U16 ≤ x.0) × (x.0 ≤ max) × (x.0 < LEAST_U32))
unfolding wide_at
wide_takes_u16 max at bytes fits =
    if_read (bytes_at 2 at bytes) _ _ _ (bytes_take 2 at bytes fits) (λ digits was.
    if_read (checked LEAST_U16 max at (from_le_bytes w16 digits.0)) _ _ _ (checked_takes LEAST_U16 max at (from_le_bytes w16 digits.0)) (λ n is.
    let same : to_le_bytes w16 n ≡ digits.0 = le_bytes_2 digits.0 n was.1 was.2 is.0 in
    let small : from_le_bytes w16 digits.0 < LEAST_U32 = omega (arith, was.2 0, was.2 1) in
    (rw same was.0, omega (arith, is.0, is.1), omega (arith, is.0, is.2), omega (arith, is.0, small))))

wide_takes_u32 : (max at : ℕ) (bytes : List ℕ) → IsBytes bytes
    → IfOk (wide_at w32 LEAST_U32 max at bytes) (λ x. Took bytes (to_le_bytes w32 x.0) x.1 × (LEAST_U32 ≤ x.0) × (x.0 ≤ max) × (x.0 < LEAST_U64))
unfolding wide_at
wide_takes_u32 max at bytes fits =
    if_read (bytes_at 4 at bytes) _ _ _ (bytes_take 4 at bytes fits) (λ digits was.
    if_read (checked LEAST_U32 max at (from_le_bytes w32 digits.0)) _ _ _ (checked_takes LEAST_U32 max at (from_le_bytes w32 digits.0)) (λ n is.
    let same : to_le_bytes w32 n ≡ digits.0 = le_bytes_4 digits.0 n was.1 was.2 is.0 in
    let small : from_le_bytes w32 digits.0 < LEAST_U64 = omega (arith, was.2 0, was.2 1, was.2 2, was.2 3) in
    (rw same was.0, omega (arith, is.0, is.1), omega (arith, is.0, is.2), omega (arith, is.0, small))))

wide_takes_u64 : (max at : ℕ) (bytes : List ℕ) → IsBytes bytes
    → IfOk (wide_at w64 LEAST_U64 max at bytes) (λ x. Took bytes (to_le_bytes w64 x.0) x.1 × (LEAST_U64 ≤ x.0) × (x.0 ≤ max))
unfolding wide_at
wide_takes_u64 max at bytes fits =
    if_read (bytes_at 8 at bytes) _ _ _ (bytes_take 8 at bytes fits) (λ digits was.
    if_read (checked LEAST_U64 max at (from_le_bytes w64 digits.0)) _ _ _ (checked_takes LEAST_U64 max at (from_le_bytes w64 digits.0)) (λ n is.
    let same : to_le_bytes w64 n ≡ digits.0 = le_bytes_8 digits.0 n was.1 was.2 is.0 in
    (rw same was.0, omega (arith, is.0, is.1), omega (arith, is.0, is.2))))

-- the mark and what stands behind it
marked : (mark n : ℕ) (digits bytes rest : List ℕ) → uint_spelling n ≡ mark ∷ digits → Took bytes digits rest → Took (mark ∷ bytes) (uint_spelling n) rest
marked mark n digits bytes rest spelled took = record { parts = ap (λ l. mark ∷ l) took.parts ∙ ap (λ l. l ++ rest) (sym spelled); fits = took.fits }

pub uint_takes : (max at : ℕ) (bytes : List ℕ) → IsBytes bytes
    → IfOk (uint_at max at bytes) (λ x. Took bytes (uint_spelling x.0) x.1 × (x.0 ≤ max))
unfolding uint_at
uint_takes max at [] fits = tt
uint_takes max at (mark ∷ bytes) fits =
    let P : ℕ × List ℕ → Type 0 = λ x. Took (mark ∷ bytes) (uint_spelling x.0) x.1 × (x.0 ≤ max) in
    let tail : IsBytes bytes = λ i. fits (suc i) in
    if_chosen (ltb mark MARK_U16) _ _ P
    (λ small. if_read (checked 0 max at mark) _ _ P (checked_takes 0 max at mark) (λ n is.
    let spelled : uint_spelling n ≡ mark ∷ [] = spelled_u8 n (omega (arith, is.0, ltb-true _ _ small)) ∙ ap (λ k. k ∷ []) is.0 in
    (marked mark n [] bytes bytes spelled (record { parts = refl; fits = tail }), omega (arith, is.0, is.2))))
    (λ large. if_chosen (eqb mark MARK_U16) _ _ P
    (λ two. if_more (wide_at w16 LEAST_U16 max at bytes) _ P (wide_takes_u16 max at bytes tail) (λ x is.
    (marked mark x.0 (to_le_bytes w16 x.0) bytes x.1 (spelled_u16 x.0 is.1 is.3 ∙ ap (λ k. k ∷ to_le_bytes w16 x.0) (sym (eqb-true _ _ two))) is.0, is.2)))
    (λ not_two. if_chosen (eqb mark MARK_U32) _ _ P
    (λ four. if_more (wide_at w32 LEAST_U32 max at bytes) _ P (wide_takes_u32 max at bytes tail) (λ x is.
    (marked mark x.0 (to_le_bytes w32 x.0) bytes x.1 (spelled_u32 x.0 is.1 is.3 ∙ ap (λ k. k ∷ to_le_bytes w32 x.0) (sym (eqb-true _ _ four))) is.0, is.2)))
    (λ not_four.
    let last : mark ≡ MARK_U64 = omega (arith, fits 0, ltb-false _ _ large, eqb-false _ _ not_two, eqb-false _ _ not_four) in
    if_more (wide_at w64 LEAST_U64 max at bytes) _ P (wide_takes_u64 max at bytes tail) (λ x is.
    (marked mark x.0 (to_le_bytes w64 x.0) bytes x.1 (spelled_u64 x.0 is.1 ∙ ap (λ k. k ∷ to_le_bytes w64 x.0) (sym last)) is.0, is.2)))))

pub buffer_takes : (max at : ℕ) (bytes : List ℕ) → IsBytes bytes
    → IfOk (buffer_at max at bytes) (λ x. Took bytes (buffer_spelling x.0) x.1 × (length x.0 ≤ max))
unfolding buffer_at
buffer_takes max at bytes fits =
    if_read (uint_at (2 ^ 64 - 1) at bytes) _ _ _ (uint_takes (2 ^ 64 - 1) at bytes fits) (λ count c.
    if_read (bytes_at count.0 at count.1) _ _ _ (bytes_take count.0 at count.1 c.0.fits) (λ buffer b.
    if_passed (ltb max count.0) (Ok buffer) (TooLarge at) _ (λ below.
    let took = Took-then bytes (uint_spelling count.0) count.1 buffer.0 buffer.1 c.0 b.0 in
    (subst (λ n. Took bytes (uint_spelling n ++ buffer.0) buffer.1) (sym b.1) took, omega (arith, b.1, ltb-false _ _ below)))))

-- ---- what is spelled so is read

checked_again : (least max at n : ℕ) → least ≤ n → n ≤ max → checked least max at n ≡ Ok n
checked_again least max at n above below = rw (le-ltb n least above, le-ltb max n below) refl

wide_again_u16 : (max at n : ℕ) (rest : List ℕ) → LEAST_U16 ≤ n → n < LEAST_U32 → n ≤ max → wide_at w16 LEAST_U16 max at (to_le_bytes w16 n ++ rest) ≡ Ok (n, rest)
unfolding wide_at
wide_again_u16 max at n rest large small below =
    rw (bytes_again (to_le_bytes w16 n) rest 2 at refl, from_le_bytes-to_le_bytes_2 n (omega (arith, small)), checked_again LEAST_U16 max at n large below) refl

wide_again_u32 : (max at n : ℕ) (rest : List ℕ) → LEAST_U32 ≤ n → n < LEAST_U64 → n ≤ max → wide_at w32 LEAST_U32 max at (to_le_bytes w32 n ++ rest) ≡ Ok (n, rest)
unfolding wide_at
wide_again_u32 max at n rest large small below =
    rw (bytes_again (to_le_bytes w32 n) rest 4 at refl, from_le_bytes-to_le_bytes_4 n (omega (arith, small)), checked_again LEAST_U32 max at n large below) refl

wide_again_u64 : (max at n : ℕ) (rest : List ℕ) → LEAST_U64 ≤ n → n < 2 ^ 64 → n ≤ max → wide_at w64 LEAST_U64 max at (to_le_bytes w64 n ++ rest) ≡ Ok (n, rest)
unfolding wide_at
wide_again_u64 max at n rest large small below =
    rw (bytes_again (to_le_bytes w64 n) rest 8 at refl, from_le_bytes-to_le_bytes_8 n small, checked_again LEAST_U64 max at n large below) refl

pub uint_again : (max at n : ℕ) (rest : List ℕ) → n ≤ max → n < 2 ^ 64 → uint_at max at (uint_spelling n ++ rest) ≡ Ok (n, rest)
unfolding uint_at
uint_again max at n rest below fits =
    elim (cases_lt n LEAST_U16) [
      | inl one ↦ ap (λ s. uint_at max at (s ++ rest)) (spelled_u8 n one) ∙ rw (lt-ltb n MARK_U16 one, checked_again 0 max at n (omega arith) below) refl
      | inr more ↦ elim (cases_lt n LEAST_U32) [
        | inl two ↦ ap (λ s. uint_at max at (s ++ rest)) (spelled_u16 n more two) ∙ wide_again_u16 max at n rest more two below
        | inr wide ↦ elim (cases_lt n LEAST_U64) [
          | inl four ↦ ap (λ s. uint_at max at (s ++ rest)) (spelled_u32 n wide four) ∙ wide_again_u32 max at n rest wide four below
          | inr eight ↦ ap (λ s. uint_at max at (s ++ rest)) (spelled_u64 n eight) ∙ wide_again_u64 max at n rest eight fits below
        ]
      ]
    ]

pub buffer_again : (max at : ℕ) (text rest : List ℕ) → length text ≤ max → length text < 2 ^ 64 → buffer_at max at (buffer_spelling text ++ rest) ≡ Ok (text, rest)
unfolding buffer_at
buffer_again max at text rest below fits =
    ap (buffer_at max at) (append_assoc (uint_spelling (length text)) text rest)
    ∙ rw (uint_again (2 ^ 64 - 1) at (length text) (text ++ rest) (omega (arith, fits)) fits, bytes_again text rest (length text) at refl, le-ltb max (length text) below) refl
