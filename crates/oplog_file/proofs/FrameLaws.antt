-- Frames: what is found at the front is spelled there, and what is spelled there is found.
use Rattle.std.proofs.Common.{◌≡◌, ℕ, ◌+◌, ◌^◌, ◌<◌, ◌≤◌, Bool, true, false, cond, List, ◌++◌, length, get_or, take, drop, Option, None, Some, refl, sym, ap, subst, ◌∙◌, append_assoc, length-append, arith, inl, inr}
use Rattle.std.proofs.lemmas.Bool.{cases_lt, leb-true, le-leb, and_parts, and_from}
use Rattle.std.proofs.lemmas.List.{take_at, drop_at, get_or-drop, get_or-take, get_or_past, length-take, length-take-le, length-drop, drop-drop, take-append-drop}
use Rattle.std.proofs.lemmas.Nat.{le_bytes_4, le_bytes_8, from_le_bytes-to_le_bytes_4, from_le_bytes-to_le_bytes_8}
use Rattle.std.proofs.lemmas.Slice.Eq.{bytes_eq-Decides}
use Rattle.std.specs.Int.{w32, w64, from_le_bytes}
use Rattle.blake2b_hash.specs.Blake2b.{hash_of}
use Rattle.blake2b_hash.proofs.Hashes.{length_hash_of}
use Rattle.compact_enc.specs.Reading.{IsBytes}
use Rattle.merkle_nodes.specs.Tree.{u64_bytes}
use Rattle.oplog_file.specs.declared.layout.TheConstants.{FRAME_HEAD_BYTES, CHECK_BYTES}
use Rattle.oplog_file.specs.Frames.{Frame, u32_bytes, tail_of, check_of, frame_spelling, frame_bytes, BeginsWith, frame_from, is_whole, front_of}

abbrev pub chosen : ℕ → ℕ → List ℕ → List ℕ → Option Frame
chosen max count bytes tail = cond (is_whole max count bytes tail) (Some (frame_from tail)) None

check_length : (bytes : List ℕ) → length (check_of bytes) ≡ CHECK_BYTES
check_length bytes = length-take-le CHECK_BYTES (hash_of bytes) (omega (arith, length_hash_of bytes))

-- a frame again from what its check is over
frame_again : (f : Frame) → f.epoch < 2 ^ 64 → f.number < 2 ^ 32 → frame_from (tail_of f) ≡ f
frame_again f epoch number =
    let e : from_le_bytes w64 (u64_bytes f.epoch) ≡ f.epoch = from_le_bytes-to_le_bytes_8 f.epoch epoch in
    let n : from_le_bytes w32 (u32_bytes f.number) ≡ f.number = from_le_bytes-to_le_bytes_4 f.number number in
    let frame : ℕ → ℕ → Frame = λ a b. record { epoch = a; number = b; payload = f.payload } in
    ap (λ a. frame a (from_le_bytes w32 (u32_bytes f.number))) e ∙ ap (λ b. frame f.epoch b) n

-- what is spelled at the front is found
pub front_only : (max : ℕ) (bytes : List ℕ) (f : Frame) → max < 2 ^ 32 → BeginsWith max bytes f → front_of max bytes ≡ Some f
unfolding front_of
front_only max bytes f small begins =
    let tail = tail_of f in
    let check = check_of tail in
    let count = length f.payload in
    let whole : bytes ≡ u32_bytes count ++ (check ++ (tail ++ begins.rest)) =
    begins.parts ∙ append_assoc (u32_bytes count) (check ++ tail) begins.rest ∙ ap (λ l. u32_bytes count ++ l) (append_assoc check tail begins.rest) in
    let count_is : from_le_bytes w32 (take 4 bytes) ≡ count =
    ap (λ l. from_le_bytes w32 (take 4 l)) whole ∙ from_le_bytes-to_le_bytes_4 count (omega (arith, begins.fits.payload, small)) in
    let behind_check : drop 20 bytes ≡ tail ++ begins.rest =
    ap (drop 20) (whole ∙ sym (append_assoc (u32_bytes count) check (tail ++ begins.rest))) ∙ drop_at (u32_bytes count ++ check) (tail ++ begins.rest) 20 (omega (arith, length-append (u32_bytes count) check, check_length tail)) in
    let tail_is : take (12 + count) (drop 20 bytes) ≡ tail = ap (take (12 + count)) behind_check ∙ take_at tail begins.rest (12 + count) (omega (arith, length-append (u64_bytes f.epoch ++ u32_bytes f.number) f.payload)) in
    let check_is : take CHECK_BYTES (drop 4 bytes) ≡ check = ap (λ l. take CHECK_BYTES (drop 4 l)) whole ∙ take_at check (tail ++ begins.rest) CHECK_BYTES (check_length tail) in
    let enough : FRAME_HEAD_BYTES + count ≤ length bytes =
    omega (arith, ap length whole, length-append (u32_bytes count) (check ++ (tail ++ begins.rest)), length-append check (tail ++ begins.rest), length-append tail begins.rest, length-append (u64_bytes f.epoch ++ u32_bytes f.number) f.payload, check_length tail) in
    let is : is_whole max count bytes tail ≡ true = and_from _ _ (and_from _ _ (le-leb count max begins.fits.payload) (le-leb _ _ enough)) ((bytes_eq-Decides _ _).1 check_is) in
    ap (λ n. chosen max n bytes (take (12 + n) (drop 20 bytes))) count_is
    ∙ ap (chosen max count bytes) tail_is
    ∙ ap (λ b. cond b (Some (frame_from tail)) None) is
    ∙ ap Some (frame_again f begins.fits.epoch begins.fits.number)

-- ---- what is found at the front is spelled there

pub IsBytes-drop : (n : ℕ) (bytes : List ℕ) → IsBytes bytes → IsBytes (drop n bytes)
IsBytes-drop n bytes h i = rw get_or-drop (h (n + i))

IsBytes-take : (n : ℕ) (bytes : List ℕ) → IsBytes bytes → IsBytes (take n bytes)
IsBytes-take n bytes h i =
    elim (cases_lt i n) [
      | inl lt ↦ rw (get_or-take n bytes i 0 lt) (h i)
      | inr le ↦ rw (get_or_past (take n bytes) i 0 (omega (arith, length-take n bytes))) (omega arith)
    ]

-- a number of four or eight bytes is below its end
four_small : (bytes : List ℕ) → ((i : ℕ) → get_or bytes i 0 < 256) → from_le_bytes w32 bytes < 2 ^ 32
four_small bytes fits = omega (arith, fits 0, fits 1, fits 2, fits 3)

eight_small : (bytes : List ℕ) → ((i : ℕ) → get_or bytes i 0 < 256) → from_le_bytes w64 bytes < 2 ^ 64
eight_small bytes fits = omega (arith, fits 0, fits 1, fits 2, fits 3, fits 4, fits 5, fits 6, fits 7)

-- what its check is over again from a frame
tail_again : (tail : List ℕ) → IsBytes tail → 12 ≤ length tail → tail_of (frame_from tail) ≡ tail
tail_again tail fits enough =
    let eight : u64_bytes (from_le_bytes w64 (take 8 tail)) ≡ take 8 tail = le_bytes_8 (take 8 tail) _ (length-take-le 8 tail (omega (arith, enough))) (IsBytes-take 8 tail fits) refl in
    let four : u32_bytes (from_le_bytes w32 (take 4 (drop 8 tail))) ≡ take 4 (drop 8 tail) =
    le_bytes_4 (take 4 (drop 8 tail)) _ (length-take-le 4 (drop 8 tail) (omega (arith, enough, length-drop 8 tail))) (IsBytes-take 4 (drop 8 tail) (IsBytes-drop 8 tail fits)) refl in
    ap (λ l. l ++ (u32_bytes (from_le_bytes w32 (take 4 (drop 8 tail))) ++ drop 12 tail)) eight
    ∙ ap (λ l. take 8 tail ++ (l ++ drop 12 tail)) four
    ∙ ap (λ l. take 8 tail ++ (take 4 (drop 8 tail) ++ l)) (sym (drop-drop 4 8 tail))
    ∙ ap (λ l. take 8 tail ++ l) (take-append-drop 4 (drop 8 tail))
    ∙ take-append-drop 8 tail

abbrev frame_or : Frame → Option Frame → Frame
frame_or other None = other
frame_or other (Some f) = f

pub passed : (b : Bool) (x f : Frame) → cond b (Some x) None ≡ Some f → (b ≡ true) × (x ≡ f)
passed true x f is = (refl, ap (frame_or x) is)
passed false x f is = let apart : None ≡ Some f = is in cc

-- the parts of some bytes that are long enough
parts_of : (count : ℕ) (bytes : List ℕ) → 32 + count ≤ length bytes
    → bytes ≡ take 4 bytes ++ (take CHECK_BYTES (drop 4 bytes) ++ (take (12 + count) (drop 20 bytes) ++ drop (12 + count) (drop 20 bytes)))
parts_of count bytes enough =
    sym (take-append-drop 4 bytes)
    ∙ ap (λ l. take 4 bytes ++ l) (sym (take-append-drop CHECK_BYTES (drop 4 bytes)) ∙ ap (λ l. take CHECK_BYTES (drop 4 bytes) ++ l) (drop-drop CHECK_BYTES 4 bytes ∙ sym (take-append-drop (12 + count) (drop 20 bytes))))

pub front_found : (max : ℕ) (bytes : List ℕ) (f : Frame) → IsBytes bytes → front_of max bytes ≡ Some f → BeginsWith max bytes f
unfolding front_of
front_found max bytes f fits is =
    let four = take 4 bytes in
    let count = from_le_bytes w32 four in
    let tail = take (12 + count) (drop 20 bytes) in
    let found = passed (is_whole max count bytes tail) (frame_from tail) f is in
    let tests = and_parts _ _ found.0 in
    let within = and_parts _ _ tests.0 in
    let enough : 32 + count ≤ length bytes = leb-true _ _ within.1 in
    let tail_bytes : IsBytes tail = IsBytes-take (12 + count) (drop 20 bytes) (IsBytes-drop 20 bytes fits) in
    let tail_length : length tail ≡ 12 + count = length-take-le (12 + count) (drop 20 bytes) (omega (arith, enough, length-drop 20 bytes)) in
    let same = tail_again tail tail_bytes (omega (arith, tail_length)) in
    let payload : length (drop 12 tail) ≡ count = length-drop 12 tail ∙ omega (arith, tail_length) in
    let check : take CHECK_BYTES (drop 4 bytes) ≡ check_of tail = (bytes_eq-Decides _ _).0 tests.1 in
    let digits : u32_bytes count ≡ four = le_bytes_4 four count (length-take-le 4 bytes (omega (arith, enough))) (IsBytes-take 4 bytes fits) refl in
    let rest = drop (12 + count) (drop 20 bytes) in
    let text : four ++ (take CHECK_BYTES (drop 4 bytes) ++ (tail ++ rest)) ≡ frame_spelling (frame_from tail) ++ rest =
    ap (λ l. l ++ (take CHECK_BYTES (drop 4 bytes) ++ (tail ++ rest))) (sym digits ∙ ap u32_bytes (sym payload))
    ∙ ap (λ l. u32_bytes (length (drop 12 tail)) ++ (l ++ (tail ++ rest))) (check ∙ ap check_of (sym same))
    ∙ ap (λ l. u32_bytes (length (drop 12 tail)) ++ (check_of (tail_of (frame_from tail)) ++ (l ++ rest))) (sym same)
    ∙ ap (λ l. u32_bytes (length (drop 12 tail)) ++ l) (sym (append_assoc (check_of (tail_of (frame_from tail))) (tail_of (frame_from tail)) rest))
    ∙ sym (append_assoc (u32_bytes (length (drop 12 tail))) (check_of (tail_of (frame_from tail)) ++ tail_of (frame_from tail)) rest) in
    subst (BeginsWith max bytes) found.1 (record {
      fits = record {
        epoch = eight_small (take 8 tail) (IsBytes-take 8 tail tail_bytes);
        number = four_small (take 4 (drop 8 tail)) (IsBytes-take 4 (drop 8 tail) (IsBytes-drop 8 tail tail_bytes));
        payload = omega (arith, payload, leb-true _ _ within.0);
      };
      rest = rest;
      parts = parts_of count bytes enough ∙ text;
    })

-- a frame that is found is there whole
pub front_bytes : (max : ℕ) (bytes : List ℕ) (f : Frame) → front_of max bytes ≡ Some f → frame_bytes f ≤ length bytes
unfolding front_of
front_bytes max bytes f is =
    let count = from_le_bytes w32 (take 4 bytes) in
    let tail = take (12 + count) (drop 20 bytes) in
    let found = passed (is_whole max count bytes tail) (frame_from tail) f is in
    let enough : 32 + count ≤ length bytes = leb-true _ _ (and_parts _ _ (and_parts _ _ found.0).0).1 in
    let tail_length : length tail ≡ 12 + count = length-take-le (12 + count) (drop 20 bytes) (omega (arith, enough, length-drop 20 bytes)) in
    subst (λ g. frame_bytes g ≤ length bytes) found.1 (omega (arith, enough, tail_length, length-drop 12 tail))

pub spelling_length : (f : Frame) → length (frame_spelling f) ≡ frame_bytes f
spelling_length f =
    omega (
      arith,
      length-append (u32_bytes (length f.payload)) (check_of (tail_of f) ++ tail_of f),
      length-append (check_of (tail_of f)) (tail_of f),
      length-append (u64_bytes f.epoch ++ u32_bytes f.number) f.payload,
      check_length (tail_of f),
    )
