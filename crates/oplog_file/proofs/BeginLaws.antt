-- Bytes that begin alike: the frames at their front, the headers in their slots and the entries that count there.
use Rattle.std.proofs.Common.{◌≡◌, ◌⊎◌, inl, inr, ℕ, zero, suc, ◌+◌, ◌*◌, ◌<◌, ◌≤◌, Bool, true, false, cond, List, [], ◌∷◌, ◌++◌, length, take, drop, Option, None, Some, refl, sym, ap, subst, ◌∙◌, arith}
use Rattle.std.specs.Prelude.{⊤}
use Rattle.std.proofs.lemmas.Bool.{le-leb, leb-true, and_parts, and_from, eqb-true}
use Rattle.std.proofs.lemmas.List.{take-take, drop-take, drop-drop, length-take, length-take-le, length-drop}
use Rattle.std.proofs.lemmas.List.Sums.{sum_by-cons}
use Rattle.std.proofs.lemmas.Slice.Eq.{bytes_eq-Decides}
use Rattle.std.specs.Int.{w32, from_le_bytes}
use Rattle.oplog_form.specs.declared.entry.TheConstants.{MAX_ENTRY_BYTES}
use Rattle.oplog_form.specs.declared.header.TheConstants.{MAX_HEADER_BYTES}
use Rattle.oplog_file.specs.declared.layout.TheConstants.{CHECK_BYTES, SLOT_BYTES, ENTRIES_AT, MAX_ENTRIES_BYTES}
use Rattle.oplog_file.specs.Frames.{Frame, frame_bytes, frame_from, is_whole, front_of}
use Rattle.oplog_file.specs.Slots.{kept_if, slot_of, is_after, is_header, header_in_slot, later_of, header_frame}
use Rattle.oplog_file.specs.Counting.{entries_part, is_entry, entry_in_front, Count, entry_frames, bytes_of}
use Rattle.oplog_file.proofs.FrameLaws.{chosen, passed, front_bytes}
use Rattle.oplog_file.proofs.CountLaws.{one_list, kept, entry_bytes, entry_frames_count}

-- one begins as the other, up to this place and as far as the other goes
abbrev pub BeginsAs : ℕ → List ℕ → List ℕ → Type 0
BeginsAs at other one = (i : ℕ) → i ≤ at → i ≤ length other → take i one ≡ take i other

-- a part of bytes that begin alike
pub part_same : (from len n : ℕ) (one other : List ℕ) → from + len ≤ n → take n one ≡ take n other → take len (drop from one) ≡ take len (drop from other)
part_same from len n one other within same =
    sym (drop-take from len one)
    ∙ ap (drop from) (sym (take-take (from + len) n one within) ∙ ap (take (from + len)) same ∙ take-take (from + len) n other within)
    ∙ drop-take from len other

-- ---- frames

-- a frame at the front stays there, whatever stands behind it
pub front_stays : (max : ℕ) (bytes more : List ℕ) (f : Frame) → front_of max bytes ≡ Some f → take (frame_bytes f) more ≡ take (frame_bytes f) bytes → front_of max more ≡ Some f
unfolding front_of
front_stays max bytes more f is same =
    let count : ℕ = from_le_bytes w32 (take 4 bytes) in
    let tail : List ℕ = take (12 + count) (drop 20 bytes) in
    let found : (is_whole max count bytes tail ≡ true) × (frame_from tail ≡ f) = passed (is_whole max count bytes tail) (frame_from tail) f is in
    let tests = and_parts _ _ found.0 in
    let within = and_parts _ _ tests.0 in
    let enough : 32 + count ≤ length bytes = leb-true _ _ within.1 in
    let tail_length : length tail ≡ 12 + count = length-take-le (12 + count) (drop 20 bytes) (omega (arith, enough, length-drop 20 bytes)) in
    let size : frame_bytes f ≡ 32 + count = subst (λ g. frame_bytes g ≡ 32 + count) found.1 (omega (arith, tail_length, length-drop 12 tail)) in
    let alike : take (32 + count) more ≡ take (32 + count) bytes = subst (λ k. take k more ≡ take k bytes) size same in
    let four : take 4 more ≡ take 4 bytes = part_same 0 4 (32 + count) more bytes (omega arith) alike in
    let check : take CHECK_BYTES (drop 4 more) ≡ take CHECK_BYTES (drop 4 bytes) = part_same 4 CHECK_BYTES (32 + count) more bytes (omega arith) alike in
    let rest : take (12 + count) (drop 20 more) ≡ tail = part_same 20 (12 + count) (32 + count) more bytes (omega arith) alike in
    let there : 32 + count ≤ length more = omega (arith, enough, ap length alike, length-take (32 + count) more, length-take (32 + count) bytes) in
    let whole : is_whole max count more tail ≡ true =
    and_from _ _ (and_from _ _ within.0 (le-leb _ _ there)) ((bytes_eq-Decides _ _).1 (check ∙ (bytes_eq-Decides _ _).0 tests.1)) in
    ap (λ l. chosen max (from_le_bytes w32 l) more (take (12 + from_le_bytes w32 l) (drop 20 more))) four
    ∙ ap (chosen max count more) rest
    ∙ ap (λ b. cond b (Some (frame_from tail)) None) whole
    ∙ ap Some found.1

pub kept_stays : (test : Frame → Bool) (max : ℕ) (bytes more : List ℕ) (f : Frame) → kept_if test (front_of max bytes) ≡ Some f → take (frame_bytes f) more ≡ take (frame_bytes f) bytes
    → kept_if test (front_of max more) ≡ Some f
kept_stays test max bytes more f is same =
    let found = kept test (front_of max bytes) f is in
    ap (kept_if test) (front_stays max bytes more f found.0 same) ∙ ap (λ b. cond b (Some f) None) found.1

kept_bytes : (test : Frame → Bool) (max : ℕ) (bytes : List ℕ) (f : Frame) → kept_if test (front_of max bytes) ≡ Some f → frame_bytes f ≤ length bytes
kept_bytes test max bytes f is = front_bytes max bytes f (kept test (front_of max bytes) f is).0

-- fewer bytes have no other frame
pub kept_longer : (test : Frame → Bool) (max n : ℕ) (bytes : List ℕ) (f : Frame) → kept_if test (front_of max (take n bytes)) ≡ Some f → kept_if test (front_of max bytes) ≡ Some f
kept_longer test max n bytes f is =
    kept_stays test max (take n bytes) bytes f is (sym (take-take (frame_bytes f) n bytes (omega (arith, kept_bytes test max (take n bytes) f is, length-take n bytes))))

none_by : (test : Frame → Bool) (max n : ℕ) (bytes : List ℕ) (o : Option Frame) → kept_if test (front_of max (take n bytes)) ≡ o → kept_if test (front_of max bytes) ≡ None → o ≡ None
none_by test max n bytes None is none = refl
none_by test max n bytes (Some f) is none = let apart : None ≡ Some f = sym none ∙ kept_longer test max n bytes f is in cc

pub kept_shorter : (test : Frame → Bool) (max n : ℕ) (bytes : List ℕ) → kept_if test (front_of max bytes) ≡ None → kept_if test (front_of max (take n bytes)) ≡ None
kept_shorter test max n bytes none = none_by test max n bytes (kept_if test (front_of max (take n bytes))) refl none

-- ---- headers

abbrev slot_bytes : ℕ → List ℕ → List ℕ
slot_bytes at area = take SLOT_BYTES (drop at area)

slot_alike : (at n : ℕ) (area more : List ℕ) → 0 < n → n ≤ length (slot_bytes at area) → BeginsAs (at + SLOT_BYTES) area more → take n (slot_bytes at more) ≡ take n (slot_bytes at area)
slot_alike at n area more some there begins =
    let within : n ≤ SLOT_BYTES = omega (arith, there, length-take SLOT_BYTES (drop at area)) in
    let ends : at + n ≤ length area = omega (arith, some, there, length-take SLOT_BYTES (drop at area), length-drop at area) in
    take-take n SLOT_BYTES (drop at more) within
    ∙ part_same at n (at + n) more area (omega arith) (begins (at + n) (omega (arith, within)) ends)
    ∙ sym (take-take n SLOT_BYTES (drop at area) within)

-- a header that passes in its slot stays there
pub slot_stays : (slot : ℕ) (area more : List ℕ) (f : Frame) → header_in_slot slot area ≡ Some f → BeginsAs (SLOT_BYTES * slot + SLOT_BYTES) area more → header_in_slot slot more ≡ Some f
slot_stays slot area more f is begins =
    kept_stays (is_header slot) MAX_HEADER_BYTES (slot_bytes (SLOT_BYTES * slot) area) (slot_bytes (SLOT_BYTES * slot) more) f is
    (slot_alike (SLOT_BYTES * slot) (frame_bytes f) area more (omega arith) (kept_bytes (is_header slot) MAX_HEADER_BYTES (slot_bytes (SLOT_BYTES * slot) area) f is) begins)

either_of : (b : Bool) (x y h : Frame) → cond b (Some x) (Some y) ≡ Some h → (Some x ≡ Some h) ⊎ (Some y ≡ Some h)
either_of true x y h is = inl is
either_of false x y h is = inr is

some_of : (b : Bool) (x y : Frame) → (g : Frame) × (cond b (Some x) (Some y) ≡ Some g)
some_of true x y = (x, refl)
some_of false x y = (y, refl)

one_of : (a b : Option Frame) (h : Frame) → later_of a b ≡ Some h → (a ≡ Some h) ⊎ (b ≡ Some h)
one_of None b h is = inr is
one_of (Some x) None h is = inl is
one_of (Some x) (Some y) h is = either_of (is_after x.epoch y.epoch) x y h is

with_first : (a b : Option Frame) (f : Frame) → a ≡ Some f → (g : Frame) × (later_of a b ≡ Some g)
with_first None b f is = let apart : None ≡ Some f = is in cc
with_first (Some x) None f is = (x, refl)
with_first (Some x) (Some y) f is = some_of (is_after x.epoch y.epoch) x y

with_second : (a b : Option Frame) (f : Frame) → b ≡ Some f → (g : Frame) × (later_of a b ≡ Some g)
with_second None b f is = (f, is)
with_second (Some x) None f is = (x, refl)
with_second (Some x) (Some y) f is = some_of (is_after x.epoch y.epoch) x y

-- the header that counts stands in one of the slots
pub in_a_slot : (area : List ℕ) (h : Frame) → header_frame area ≡ Some h → (header_in_slot 0 area ≡ Some h) ⊎ (header_in_slot 1 area ≡ Some h)
in_a_slot area h is = one_of (header_in_slot 0 area) (header_in_slot 1 area) h is

-- a header has the number 0, and stands in its epoch's slot
pub slot_header : (slot : ℕ) (area : List ℕ) (h : Frame) → header_in_slot slot area ≡ Some h → (h.number ≡ 0) × (slot_of h.epoch ≡ slot)
slot_header slot area h is =
    let tests = and_parts _ _ (kept (is_header slot) (front_of MAX_HEADER_BYTES (slot_bytes (SLOT_BYTES * slot) area)) h is).1 in
    (eqb-true _ _ tests.0, eqb-true _ _ tests.1)

pub header_number : (area : List ℕ) (h : Frame) → header_frame area ≡ Some h → h.number ≡ 0
header_number area h is = elim (in_a_slot area h is) [
  | inl first ↦ (slot_header 0 area h first).0
  | inr second ↦ (slot_header 1 area h second).0
]

-- where a header counts, some header counts in bytes that begin alike
pub header_stays : (at : ℕ) (area more : List ℕ) (h : Frame) → header_frame area ≡ Some h → ENTRIES_AT ≤ at → BeginsAs at area more → (g : Frame) × (header_frame more ≡ Some g)
header_stays at area more h is far begins = elim (in_a_slot area h is) [
  | inl first ↦ with_first (header_in_slot 0 more) (header_in_slot 1 more) h (slot_stays 0 area more h first (λ i le within. begins i (omega (arith, le, far)) within))
  | inr second ↦ with_second (header_in_slot 0 more) (header_in_slot 1 more) h (slot_stays 1 area more h second (λ i le within. begins i (omega (arith, le, far)) within))
]

-- ---- entries

-- the frames count at the front, one behind the other, whatever stands behind them
abbrev pub CountFirst : ℕ → ℕ → List ℕ → List Frame → Type 0
CountFirst epoch number bytes [] = ⊤
CountFirst epoch number bytes (f ∷ frames) = (entry_in_front epoch number bytes ≡ Some f) × CountFirst epoch (suc number) (drop (frame_bytes f) bytes) frames

pub bytes_of-cons : (f : Frame) (frames : List Frame) → bytes_of (f ∷ frames) ≡ frame_bytes f + bytes_of frames
bytes_of-cons f frames = sum_by-cons frame_bytes f frames

-- what counts counts first, is there, and has nothing behind it
pub count_first : (epoch number : ℕ) (bytes : List ℕ) (frames : List Frame) → Count epoch number bytes frames → CountFirst epoch number bytes frames
count_first epoch number bytes [] counts = tt
count_first epoch number bytes (f ∷ frames) counts = (counts.0, count_first epoch (suc number) (drop (frame_bytes f) bytes) frames counts.1)

pub first_bytes : (epoch number : ℕ) (bytes : List ℕ) (frames : List Frame) → CountFirst epoch number bytes frames → bytes_of frames ≤ length bytes
first_bytes epoch number bytes [] counts = omega arith
first_bytes epoch number bytes (f ∷ frames) counts =
    omega (arith, bytes_of-cons f frames, (entry_bytes epoch number bytes f counts.0).1, first_bytes epoch (suc number) (drop (frame_bytes f) bytes) frames counts.1, length-drop (frame_bytes f) bytes)

pub count_behind : (epoch number : ℕ) (bytes : List ℕ) (frames : List Frame) → Count epoch number bytes frames → entry_in_front epoch (number + length frames) (drop (bytes_of frames) bytes) ≡ None
count_behind epoch number bytes [] counts = subst (λ n. entry_in_front epoch n bytes ≡ None) (omega arith) counts
count_behind epoch number bytes (f ∷ frames) counts =
    let later : entry_in_front epoch (suc number + length frames) (drop (bytes_of frames) (drop (frame_bytes f) bytes)) ≡ None = count_behind epoch (suc number) (drop (frame_bytes f) bytes) frames counts.1 in
    let there : drop (bytes_of frames) (drop (frame_bytes f) bytes) ≡ drop (bytes_of (f ∷ frames)) bytes = drop-drop (bytes_of frames) (frame_bytes f) bytes ∙ ap (λ n. drop n bytes) (sym (bytes_of-cons f frames)) in
    subst (λ n. entry_in_front epoch n (drop (bytes_of (f ∷ frames)) bytes) ≡ None) (omega arith) (subst (λ l. entry_in_front epoch (suc number + length frames) l ≡ None) there later)

-- frames that count first, and others that count behind them
pub count_on : (epoch number : ℕ) (bytes : List ℕ) (frames back : List Frame) → CountFirst epoch number bytes frames
    → Count epoch (number + length frames) (drop (bytes_of frames) bytes) back → Count epoch number bytes (frames ++ back)
count_on epoch number bytes [] back first others = subst (λ n. Count epoch n bytes back) (omega arith) others
count_on epoch number bytes (f ∷ frames) back first others =
    let there : drop (bytes_of (f ∷ frames)) bytes ≡ drop (bytes_of frames) (drop (frame_bytes f) bytes) = ap (λ n. drop n bytes) (bytes_of-cons f frames) ∙ sym (drop-drop (bytes_of frames) (frame_bytes f) bytes) in
    let behind : Count epoch (suc number + length frames) (drop (bytes_of frames) (drop (frame_bytes f) bytes)) back =
    subst (λ n. Count epoch n (drop (bytes_of frames) (drop (frame_bytes f) bytes)) back) (omega arith) (subst (λ l. Count epoch (number + length (f ∷ frames)) l back) there others) in
    (first.0, count_on epoch (suc number) (drop (frame_bytes f) bytes) frames back first.1 behind)

-- frames that count first do so in bytes that begin alike
pub first_stays : (epoch number : ℕ) (bytes more : List ℕ) (frames : List Frame) → CountFirst epoch number bytes frames → take (bytes_of frames) more ≡ take (bytes_of frames) bytes
    → CountFirst epoch number more frames
first_stays epoch number bytes more [] first same = tt
first_stays epoch number bytes more (f ∷ frames) first same =
    let all : take (frame_bytes f + bytes_of frames) more ≡ take (frame_bytes f + bytes_of frames) bytes = subst (λ n. take n more ≡ take n bytes) (bytes_of-cons f frames) same in
    let here : take (frame_bytes f) more ≡ take (frame_bytes f) bytes = part_same 0 (frame_bytes f) (frame_bytes f + bytes_of frames) more bytes (omega arith) all in
    let rest : take (bytes_of frames) (drop (frame_bytes f) more) ≡ take (bytes_of frames) (drop (frame_bytes f) bytes) =
    part_same (frame_bytes f) (bytes_of frames) (frame_bytes f + bytes_of frames) more bytes (omega arith) all in
    (kept_stays (is_entry epoch number) MAX_ENTRY_BYTES bytes more f first.0 here, first_stays epoch (suc number) (drop (frame_bytes f) bytes) (drop (frame_bytes f) more) frames first.1 rest)

pub entries_alike : (k : ℕ) (area more : List ℕ) → k ≤ length (entries_part area) → BeginsAs (ENTRIES_AT + k) area more → take k (entries_part more) ≡ take k (entries_part area)
entries_alike zero area more there begins = refl
entries_alike (suc j) area more there begins =
    let within : suc j ≤ MAX_ENTRIES_BYTES = omega (arith, there, length-take MAX_ENTRIES_BYTES (drop ENTRIES_AT area)) in
    let ends : ENTRIES_AT + suc j ≤ length area = omega (arith, there, length-take MAX_ENTRIES_BYTES (drop ENTRIES_AT area), length-drop ENTRIES_AT area) in
    take-take (suc j) MAX_ENTRIES_BYTES (drop ENTRIES_AT more) within
    ∙ part_same ENTRIES_AT (suc j) (ENTRIES_AT + suc j) more area (omega arith) (begins (ENTRIES_AT + suc j) (omega arith) ends)
    ∙ sym (take-take (suc j) MAX_ENTRIES_BYTES (drop ENTRIES_AT area) within)

-- the entries of an area count first in bytes that begin alike
pub entries_stay : (epoch : ℕ) (area more : List ℕ) (frames : List Frame) → entry_frames epoch area ≡ frames → BeginsAs (ENTRIES_AT + bytes_of frames) area more → CountFirst epoch 1 (entries_part more) frames
entries_stay epoch area more frames are begins =
    let first : CountFirst epoch 1 (entries_part area) frames = count_first epoch 1 (entries_part area) frames (subst (Count epoch 1 (entries_part area)) are (entry_frames_count epoch area)) in
    first_stays epoch 1 (entries_part area) (entries_part more) frames first (entries_alike (bytes_of frames) area more (first_bytes epoch 1 (entries_part area) frames first) begins)

-- what counts first and what counts behind it are the entries
pub entries_are : (epoch : ℕ) (area : List ℕ) (frames back : List Frame) → CountFirst epoch 1 (entries_part area) frames
    → Count epoch (1 + length frames) (drop (bytes_of frames) (entries_part area)) back → entry_frames epoch area ≡ frames ++ back
entries_are epoch area frames back first behind = one_list epoch 1 (entries_part area) (entry_frames epoch area) (frames ++ back) (entry_frames_count epoch area) (count_on epoch 1 (entries_part area) frames back first behind)
