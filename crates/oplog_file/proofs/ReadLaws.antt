-- What is read of an area, piece by piece, tells which entry counts there.
use Rattle.std.proofs.Common.{IfSome, take-add, ◌≡◌, inl, inr, ◌&&◌, leb, ℕ, ◌+◌, ◌-◌, ◌<◌, ◌≤◌, Bool, true, false, cond, List, ◌++◌, length, take, drop, Option, None, Some, refl, sym, ap, subst, ◌∙◌, arith}
use Rattle.std.proofs.lemmas.Bool.{cases_lt, and_from, eq-eqb, lt-ltb, lt-leb, le-leb}
use Rattle.std.proofs.lemmas.List.{take_at, take-take, drop-take, drop-drop, length-take, length-take-le, length-drop}
use Rattle.std.proofs.lemmas.Slice.{take-put_mid}
use Rattle.std.specs.Option.{option_map}
use Rattle.std.specs.Str.{bytes_eq}
use Rattle.std.specs.Int.{w32, from_le_bytes}
use Rattle.oplog_form.specs.declared.entry.TheConstants.{MAX_ENTRY_BYTES}
use Rattle.oplog_file.specs.declared.layout.TheConstants.{CHECK_BYTES, ENTRIES_AT, MAX_ENTRIES_BYTES}
use Rattle.oplog_file.specs.Frames.{Frame, frame_from, check_of, front_of}
use Rattle.oplog_file.specs.Fronts.{payload_in}
use Rattle.oplog_file.specs.Slots.{kept_if}
use Rattle.oplog_file.specs.Counting.{entries_part, is_entry, entry_in_front}
use Rattle.oplog_file.specs.Passing.{Fills, entry_told}
use borrow.Rule.Slice.PartMut.{put_mid}
use Rattle.oplog_file.proofs.HeadLaws.{tail_in, front_by, front_too_much, front_missing}

-- a whole frame of an entry's epoch and number, with a payload, is that entry's
pub entry_here : (epoch number e n count : ℕ) (bytes : List ℕ) → front_of MAX_ENTRY_BYTES bytes ≡ Some (entry_told e n bytes count)
    → e ≡ epoch → n ≡ number → 0 < count → 32 + count ≤ length bytes → entry_in_front epoch number bytes ≡ Some (entry_told epoch number bytes count)
entry_here epoch number e n count bytes is same_epoch same_number some enough =
    let f : Frame = entry_told epoch number bytes count in
    let front : front_of MAX_ENTRY_BYTES bytes ≡ Some f = is ∙ ap (λ x. Some (entry_told x n bytes count)) same_epoch ∙ ap (λ x. Some (entry_told epoch x bytes count)) same_number in
    let payload : length (payload_in count bytes) ≡ count = length-take-le count (drop 32 bytes) (omega (arith, enough, length-drop 32 bytes)) in
    let passes : is_entry epoch number f ≡ true = and_from _ _ (and_from _ _ (eq-eqb epoch epoch refl) (eq-eqb number number refl)) (lt-ltb _ _ (omega (arith, payload, some))) in
    ap (kept_if (is_entry epoch number)) front ∙ ap (λ b. cond b (Some f) None) passes

-- no frame, no entry
pub no_entry_here : (epoch number : ℕ) (bytes : List ℕ) → front_of MAX_ENTRY_BYTES bytes ≡ None → entry_in_front epoch number bytes ≡ None
no_entry_here epoch number bytes none = ap (kept_if (is_entry epoch number)) none

-- the entries' part behind so many bytes
pub part_behind : (used : ℕ) (area : List ℕ) → used ≤ MAX_ENTRIES_BYTES → drop used (entries_part area) ≡ take (MAX_ENTRIES_BYTES - used) (drop (ENTRIES_AT + used) area)
part_behind used area within =
    let whole : MAX_ENTRIES_BYTES ≡ used + (MAX_ENTRIES_BYTES - used) = omega (arith, within) in
    ap (λ n. drop used (take n (drop ENTRIES_AT area))) whole
    ∙ drop-take used (MAX_ENTRIES_BYTES - used) (drop ENTRIES_AT area)
    ∙ ap (take (MAX_ENTRIES_BYTES - used)) (drop-drop used ENTRIES_AT area)

-- a part of the front of bytes
pub part_of_front : (from len n : ℕ) (bytes : List ℕ) → from + len ≤ n → take len (drop from (take n bytes)) ≡ take len (drop from bytes)
part_of_front from len n bytes within = sym (drop-take from len (take n bytes)) ∙ ap (drop from) (take-take (from + len) n bytes within) ∙ drop-take from len bytes

leb_same : (a x y : ℕ) → x ≤ y → (a ≤ y → a ≤ x) → leb a x ≡ leb a y
leb_same a x y fewer still = elim (cases_lt y a) [
  | inl lt ↦ lt-leb a x (omega (arith, lt, fewer)) ∙ sym (lt-leb a y lt)
  | inr le ↦ le-leb a x (still le) ∙ sym (le-leb a y le)
]

-- a frame hangs on its own bytes alone
pub front_of-take : (max n count : ℕ) (bytes : List ℕ) → count ≡ from_le_bytes w32 (take 4 bytes) → 32 + count ≤ n → front_of max (take n bytes) ≡ front_of max bytes
front_of-take max n count bytes is within =
    let four : take 4 (take n bytes) ≡ take 4 bytes = part_of_front 0 4 n bytes (omega (arith, within)) in
    let check : take CHECK_BYTES (drop 4 (take n bytes)) ≡ take CHECK_BYTES (drop 4 bytes) = part_of_front 4 CHECK_BYTES n bytes (omega (arith, within)) in
    let tail : tail_in count (take n bytes) ≡ tail_in count bytes = part_of_front 20 (12 + count) n bytes (omega (arith, within)) in
    let room : leb (32 + count) (length (take n bytes)) ≡ leb (32 + count) (length bytes) =
    leb_same (32 + count) (length (take n bytes)) (length bytes) (omega (arith, length-take n bytes)) (λ le. omega (arith, le, within, length-take n bytes)) in
    let chosen : Bool → List ℕ → List ℕ → Option Frame = λ enough sum text. cond (leb count max && enough && bytes_eq sum (check_of text)) (Some (frame_from text)) None in
    front_by max (take n bytes) count (is ∙ ap (from_le_bytes w32) (sym four))
    ∙ ap (λ b. chosen b (take CHECK_BYTES (drop 4 (take n bytes))) (tail_in count (take n bytes))) room
    ∙ ap (λ l. chosen (leb (32 + count) (length bytes)) l (tail_in count (take n bytes))) check
    ∙ ap (λ l. chosen (leb (32 + count) (length bytes)) (take CHECK_BYTES (drop 4 bytes)) l) tail
    ∙ sym (front_by max bytes count is)

-- ---- what the pieces tell

module _ (epoch number used : ℕ) (area : List ℕ) (within : used ≤ MAX_ENTRIES_BYTES) where
  -- no frame stands there where the part has no room for a head
  pub none_by_room : MAX_ENTRIES_BYTES - used < 32 → entry_in_front epoch number (drop used (entries_part area)) ≡ None
  none_by_room less = no_entry_here epoch number _ (front_missing MAX_ENTRY_BYTES (drop used (entries_part area)) _ refl (omega (arith, less, ap length (part_behind used area within), length-take (MAX_ENTRIES_BYTES - used) (drop (ENTRIES_AT + used) area))))

  -- or where the area ends within it
  pub none_by_head : length area - (ENTRIES_AT + used) < 32 → entry_in_front epoch number (drop used (entries_part area)) ≡ None
  none_by_head less = no_entry_here epoch number _ (front_missing MAX_ENTRY_BYTES (drop used (entries_part area)) _ refl (omega (arith, less, ap length (part_behind used area within), length-take (MAX_ENTRIES_BYTES - used) (drop (ENTRIES_AT + used) area), length-drop (ENTRIES_AT + used) area)))

  module _ (count : ℕ) (room : 32 ≤ MAX_ENTRIES_BYTES - used) (is : count ≡ from_le_bytes w32 (take 4 (drop (ENTRIES_AT + used) area))) where
    count_is : count ≡ from_le_bytes w32 (take 4 (drop used (entries_part area)))
    count_is = is ∙ ap (from_le_bytes w32) (sym (ap (take 4) (part_behind used area within) ∙ take-take 4 (MAX_ENTRIES_BYTES - used) (drop (ENTRIES_AT + used) area) (omega (arith, room))))

    -- or where it tells of too much payload
    pub none_by_count : MAX_ENTRY_BYTES < count → entry_in_front epoch number (drop used (entries_part area)) ≡ None
    none_by_count more = no_entry_here epoch number _ (front_too_much MAX_ENTRY_BYTES (drop used (entries_part area)) count count_is more)

    -- or of more than the part has
    pub none_by_part : MAX_ENTRIES_BYTES - used < 32 + count → entry_in_front epoch number (drop used (entries_part area)) ≡ None
    none_by_part more = no_entry_here epoch number _ (front_missing MAX_ENTRY_BYTES (drop used (entries_part area)) count count_is (omega (arith, more, ap length (part_behind used area within), length-take (MAX_ENTRIES_BYTES - used) (drop (ENTRIES_AT + used) area))))

    -- or than the area
    pub none_by_area : length area - (ENTRIES_AT + used) < 32 + count → entry_in_front epoch number (drop used (entries_part area)) ≡ None
    none_by_area more = no_entry_here epoch number _ (front_missing MAX_ENTRY_BYTES (drop used (entries_part area)) count count_is (omega (arith, more, ap length (part_behind used area within), length-take (MAX_ENTRIES_BYTES - used) (drop (ENTRIES_AT + used) area), length-drop (ENTRIES_AT + used) area)))

    -- and else the frame's bytes alone tell
    pub entry_by_bytes : (bytes : List ℕ) → 32 + count ≤ MAX_ENTRIES_BYTES - used → bytes ≡ take (32 + count) (drop (ENTRIES_AT + used) area)
        → entry_in_front epoch number (drop used (entries_part area)) ≡ entry_in_front epoch number bytes
    entry_by_bytes bytes fits same = ap (kept_if (is_entry epoch number)) (
        ap (front_of MAX_ENTRY_BYTES) (part_behind used area within)
        ∙ front_of-take MAX_ENTRY_BYTES (MAX_ENTRIES_BYTES - used) count (drop (ENTRIES_AT + used) area) is fits
        ∙ sym (front_of-take MAX_ENTRY_BYTES (32 + count) count (drop (ENTRIES_AT + used) area) is (omega arith))
        ∙ ap (front_of MAX_ENTRY_BYTES) (sym same))

-- ---- a room that is filled

pub fills_true : (at : ℕ) (area room : List ℕ) (b : Bool) → b ≡ true → Fills at area room b → (length room ≤ length area - at) × (room ≡ take (length room) (drop at area))
fills_true at area room b is fills = subst (Fills at area room) is fills

pub fills_false : (at : ℕ) (area room : List ℕ) (b : Bool) → b ≡ false → Fills at area room b → length area - at < length room
fills_false at area room b is fills = subst (Fills at area room) is fills

-- the front of a room is filled with the head
pub head_read : (at : ℕ) (area front more : List ℕ) → length front ≡ 32 → front ≡ take (length front) (drop at area) → take 32 (front ++ more) ≡ take 32 (drop at area)
head_read at area front more size is = take_at front more 32 size ∙ is ∙ ap (λ n. take n (drop at area)) size

pub four_read : (at : ℕ) (area front more : List ℕ) → length front ≡ 32 → front ≡ take (length front) (drop at area) → take 4 (front ++ more) ≡ take 4 (drop at area)
four_read at area front more size is = sym (take-take 4 32 (front ++ more) (omega arith)) ∙ ap (take 4) (head_read at area front more size is) ∙ take-take 4 32 (drop at area) (omega arith)

told_same : (epoch number n : ℕ) (bytes : List ℕ) (o : Option ℕ) → IfSome o (λ count. 32 + count ≤ n)
    → option_map (entry_told epoch number (take n bytes)) o ≡ option_map (entry_told epoch number bytes) o
told_same epoch number n bytes None within = refl
told_same epoch number n bytes (Some count) within = ap (λ l. Some (record { epoch = epoch; number = number; payload = l })) (part_of_front 32 count n bytes within)

module _ (epoch number used : ℕ) (area : List ℕ) (within : used ≤ MAX_ENTRIES_BYTES) (count : ℕ) (is : count ≡ from_le_bytes w32 (take 4 (drop (ENTRIES_AT + used) area))) (fits : 32 + count ≤ MAX_ENTRIES_BYTES - used) where
  -- the payload isn't all there
  pub none_by_payload : (part : List ℕ) → length part ≡ count → length area - (ENTRIES_AT + used + 32) < length part → entry_in_front epoch number (drop used (entries_part area)) ≡ None
  none_by_payload part size short = none_by_area epoch number used area within count (omega (arith, fits)) is (omega (arith, size, short))

  -- the payload is read behind the head: what counts in the room counts in the area
  pub entry_by_room : (room part : List ℕ) (k : ℕ) (found : Option ℕ) → 32 ≤ length room → take 32 room ≡ take 32 (drop (ENTRIES_AT + used) area)
      → length part ≡ count → part ≡ take (length part) (drop (ENTRIES_AT + used + 32) area)
      → entry_in_front epoch number (take (32 + count) (put_mid 32 k room part)) ≡ option_map (entry_told epoch number (take (32 + count) (put_mid 32 k room part))) found
      → IfSome found (λ c. 32 + c ≤ length (take (32 + count) (put_mid 32 k room part)))
      → entry_in_front epoch number (drop used (entries_part area)) ≡ option_map (entry_told epoch number (put_mid 32 k room part)) found
  entry_by_room room part k found long head size payload counts some =
      let rest = drop (ENTRIES_AT + used) area in
      let bytes : take (32 + count) (put_mid 32 k room part) ≡ take (32 + count) rest =
      take-put_mid 32 k room part (32 + count) (omega (arith, size)) long
      ∙ ap (λ l. l ++ part) head
      ∙ ap (λ l. take 32 rest ++ l) (payload ∙ ap (λ n. take n (drop (ENTRIES_AT + used + 32) area)) size ∙ ap (take count) (sym (drop-drop 32 (ENTRIES_AT + used) area)))
      ∙ sym (take-add 32 count rest) in
      entry_by_bytes epoch number used area within count (omega (arith, fits)) is (take (32 + count) (put_mid 32 k room part)) fits bytes
      ∙ counts
      ∙ told_same epoch number (32 + count) (put_mid 32 k room part) found (shorter found some)
    where
      shorter : (o : Option ℕ) → IfSome o (λ c. 32 + c ≤ length (take (32 + count) (put_mid 32 k room part))) → IfSome o (λ c. 32 + c ≤ 32 + count)
      shorter None some = tt
      shorter (Some c) some = omega (arith, some, length-take (32 + count) (put_mid 32 k room part))
