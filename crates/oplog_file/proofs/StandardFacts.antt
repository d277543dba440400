-- Worked cases, computed by the definitions. The checks are those of Python's hashlib.
use Rattle.std.proofs.Common.{◌≡◌, ℕ, true, false, List, [], ◌∷◌, ◌++◌, length, replicate, None, Some, Ok, Err, refl}
use Rattle.blake2b_hash.specs.Blake2b.{G, round, rounds, F, words, state_after, last_state, blake2b, hash_of}
use Rattle.flat_tree.specs.Roots.{full_roots_of, roots_below}
use Rattle.compact_enc.specs.Spelling.{uint_spelling}
use Rattle.compact_enc.specs.Reading.{bytes_at, wide_at, uint_at}
use Rattle.oplog_form.specs.declared.header.Header.{Header}
use Rattle.oplog_form.specs.Form.{just_of}
use Rattle.oplog_form.specs.Heads.{head_in}
use Rattle.oplog_form.specs.Nodes.{twig_in, nodes_in, roots_in}
use Rattle.oplog_form.specs.Headers.{header_spelling, header_in}
use Rattle.oplog_file.specs.Frames.{Frame, frame_spelling, front_of}
use Rattle.oplog_file.specs.Slots.{header_frame, header_at, is_after}
use Rattle.oplog_file.specs.Counting.{Count, frames_up_to}
use Rattle.oplog_file.specs.declared.layout.TheConstants.{CHECK_BYTES, FRAME_HEAD_BYTES, SLOT_BYTES, ENTRIES_AT, MAX_ENTRIES_BYTES}

-- ---- frames

-- the header of a new store, in a frame of 164 bytes
abbrev new_store : Header
new_store = record { id = replicate 32 0x11; head = record { fork = 0; length = 0; signature = replicate 64 0 }; roots = []; bits = replicate 32 0x22 }

abbrev new_frame : Frame
new_frame = record { epoch = 0; number = 0; payload = header_spelling new_store }

abbrev new_bytes : List ℕ
new_bytes = (132 ∷ 0 ∷ 0 ∷ 0 ∷ 120 ∷ 8 ∷ 143 ∷ 162 ∷ 190 ∷ 176 ∷ 165 ∷ 188 ∷ 169 ∷ 197 ∷ 247 ∷ 103 ∷ 2 ∷ 16 ∷ 117 ∷ 143 ∷ []) ++ replicate 12 0 ++ (1 ∷ []) ++ replicate 32 17 ++ replicate 67 0 ++ replicate 32 34

pub new_store_spelled : frame_spelling new_frame ≡ new_bytes
unfolding header_spelling uint_spelling G round rounds F words state_after last_state blake2b hash_of
new_store_spelled = refl

pub new_store_length : length new_bytes ≡ 164
new_store_length = refl

-- a short frame, also where more follows it
abbrev first : Frame
first = record { epoch = 5; number = 1; payload = 7 ∷ [] }

abbrev first_bytes : List ℕ
first_bytes = 1 ∷ 0 ∷ 0 ∷ 0 ∷ 220 ∷ 216 ∷ 135 ∷ 142 ∷ 49 ∷ 183 ∷ 233 ∷ 232 ∷ 186 ∷ 87 ∷ 167 ∷ 210 ∷ 230 ∷ 39 ∷ 118 ∷ 134 ∷ 5 ∷ 0 ∷ 0 ∷ 0 ∷ 0 ∷ 0 ∷ 0 ∷ 0 ∷ 1 ∷ 0 ∷ 0 ∷ 0 ∷ 7 ∷ []

pub first_spelled : frame_spelling first ≡ first_bytes
unfolding G round rounds F words state_after last_state blake2b hash_of
first_spelled = refl

pub first_in_front : front_of 4 (first_bytes ++ 1 ∷ 2 ∷ []) ≡ Some first
unfolding front_of G round rounds F words state_after last_state blake2b hash_of
first_in_front = refl

-- its last byte missing, another last byte, another epoch under the same check, a payload above the most
pub first_cut_off : front_of 4 (1 ∷ 0 ∷ 0 ∷ 0 ∷ 220 ∷ 216 ∷ 135 ∷ 142 ∷ 49 ∷ 183 ∷ 233 ∷ 232 ∷ 186 ∷ 87 ∷ 167 ∷ 210 ∷ 230 ∷ 39 ∷ 118 ∷ 134 ∷ 5 ∷ 0 ∷ 0 ∷ 0 ∷ 0 ∷ 0 ∷ 0 ∷ 0 ∷ 1 ∷ 0 ∷ 0 ∷ 0 ∷ []) ≡ None
unfolding front_of G round rounds F words state_after last_state blake2b hash_of
first_cut_off = refl

pub first_changed : front_of 4 (1 ∷ 0 ∷ 0 ∷ 0 ∷ 220 ∷ 216 ∷ 135 ∷ 142 ∷ 49 ∷ 183 ∷ 233 ∷ 232 ∷ 186 ∷ 87 ∷ 167 ∷ 210 ∷ 230 ∷ 39 ∷ 118 ∷ 134 ∷ 5 ∷ 0 ∷ 0 ∷ 0 ∷ 0 ∷ 0 ∷ 0 ∷ 0 ∷ 1 ∷ 0 ∷ 0 ∷ 0 ∷ 6 ∷ []) ≡ None
unfolding front_of G round rounds F words state_after last_state blake2b hash_of
first_changed = refl

pub first_under_another_epoch : front_of 4 (1 ∷ 0 ∷ 0 ∷ 0 ∷ 220 ∷ 216 ∷ 135 ∷ 142 ∷ 49 ∷ 183 ∷ 233 ∷ 232 ∷ 186 ∷ 87 ∷ 167 ∷ 210 ∷ 230 ∷ 39 ∷ 118 ∷ 134 ∷ 6 ∷ 0 ∷ 0 ∷ 0 ∷ 0 ∷ 0 ∷ 0 ∷ 0 ∷ 1 ∷ 0 ∷ 0 ∷ 0 ∷ 7 ∷ []) ≡ None
unfolding front_of G round rounds F words state_after last_state blake2b hash_of
first_under_another_epoch = refl

pub first_above_the_most : front_of 0 first_bytes ≡ None
unfolding front_of G round rounds F words state_after last_state blake2b hash_of
first_above_the_most = refl

pub no_bytes : front_of 4 [] ≡ None
unfolding front_of G round rounds F words state_after last_state blake2b hash_of
no_bytes = refl

-- ---- which header counts

pub new_store_read : header_at new_bytes ≡ Ok new_store
unfolding front_of header_in just_of head_in roots_in nodes_in twig_in uint_at wide_at bytes_at full_roots_of roots_below G round rounds F words state_after last_state blake2b hash_of
new_store_read = refl

-- one byte of it is another: no slot passes
pub nothing_passes : header_at (0 ∷ []) ≡ Err 0
unfolding front_of G round rounds F words state_after last_state blake2b hash_of
nothing_passes = refl

-- 0 is after the last epoch alone
pub epochs : (is_after 5 4 ≡ true) × (is_after 4 5 ≡ false) × (is_after 0 18446744073709551615 ≡ true) × (is_after 18446744073709551615 0 ≡ false)
    × (is_after 18446744073709551615 18446744073709551614 ≡ true) × (is_after 1 0 ≡ true) × (is_after 0 1 ≡ false)
epochs = (refl, refl, refl, refl, refl, refl, refl)

-- two headers: the later one counts, whatever its payload
pub later_header : header_frame ((1 ∷ 0 ∷ 0 ∷ 0 ∷ 117 ∷ 169 ∷ 205 ∷ 13 ∷ 19 ∷ 133 ∷ 170 ∷ 18 ∷ 148 ∷ 221 ∷ 72 ∷ 12 ∷ 126 ∷ 157 ∷ 66 ∷ 79 ∷ 4 ∷ 0 ∷ 0 ∷ 0 ∷ 0 ∷ 0 ∷ 0 ∷ 0 ∷ 0 ∷ 0 ∷ 0 ∷ 0 ∷ 1 ∷ []) ++ replicate 4063 0 ++ (1 ∷ 0 ∷ 0 ∷ 0 ∷ 170 ∷ 42 ∷ 237 ∷ 51 ∷ 100 ∷ 51 ∷ 64 ∷ 145 ∷ 65 ∷ 102 ∷ 78 ∷ 172 ∷ 190 ∷ 248 ∷ 165 ∷ 20 ∷ 5 ∷ 0 ∷ 0 ∷ 0 ∷ 0 ∷ 0 ∷ 0 ∷ 0 ∷ 0 ∷ 0 ∷ 0 ∷ 0 ∷ 2 ∷ [])) ≡ Some (record { epoch = 5; number = 0; payload = 2 ∷ [] })
unfolding front_of G round rounds F words state_after last_state blake2b hash_of
later_header = refl

pub header_after_the_last : header_frame ((1 ∷ 0 ∷ 0 ∷ 0 ∷ 234 ∷ 243 ∷ 11 ∷ 240 ∷ 226 ∷ 16 ∷ 176 ∷ 205 ∷ 170 ∷ 117 ∷ 215 ∷ 177 ∷ 117 ∷ 158 ∷ 144 ∷ 198 ∷ 0 ∷ 0 ∷ 0 ∷ 0 ∷ 0 ∷ 0 ∷ 0 ∷ 0 ∷ 0 ∷ 0 ∷ 0 ∷ 0 ∷ 1 ∷ []) ++ replicate 4063 0 ++ (1 ∷ 0 ∷ 0 ∷ 0 ∷ 29 ∷ 70 ∷ 210 ∷ 228 ∷ 248 ∷ 135 ∷ 177 ∷ 197 ∷ 208 ∷ 165 ∷ 199 ∷ 77 ∷ 194 ∷ 11 ∷ 193 ∷ 131 ∷ 255 ∷ 255 ∷ 255 ∷ 255 ∷ 255 ∷ 255 ∷ 255 ∷ 255 ∷ 0 ∷ 0 ∷ 0 ∷ 0 ∷ 2 ∷ [])) ≡ Some (record { epoch = 0; number = 0; payload = 1 ∷ [] })
unfolding front_of G round rounds F words state_after last_state blake2b hash_of
header_after_the_last = refl

-- epoch 5 in the slot of even ones, and in its own with a number: neither passes
pub header_in_the_wrong_slot : header_frame ((1 ∷ 0 ∷ 0 ∷ 0 ∷ 170 ∷ 42 ∷ 237 ∷ 51 ∷ 100 ∷ 51 ∷ 64 ∷ 145 ∷ 65 ∷ 102 ∷ 78 ∷ 172 ∷ 190 ∷ 248 ∷ 165 ∷ 20 ∷ 5 ∷ 0 ∷ 0 ∷ 0 ∷ 0 ∷ 0 ∷ 0 ∷ 0 ∷ 0 ∷ 0 ∷ 0 ∷ 0 ∷ 2 ∷ []) ++ replicate 4063 0 ++ (1 ∷ 0 ∷ 0 ∷ 0 ∷ 117 ∷ 169 ∷ 205 ∷ 13 ∷ 19 ∷ 133 ∷ 170 ∷ 18 ∷ 148 ∷ 221 ∷ 72 ∷ 12 ∷ 126 ∷ 157 ∷ 66 ∷ 79 ∷ 4 ∷ 0 ∷ 0 ∷ 0 ∷ 0 ∷ 0 ∷ 0 ∷ 0 ∷ 0 ∷ 0 ∷ 0 ∷ 0 ∷ 1 ∷ [])) ≡ None
unfolding front_of G round rounds F words state_after last_state blake2b hash_of
header_in_the_wrong_slot = refl

pub header_with_a_number : header_frame ((1 ∷ 0 ∷ 0 ∷ 0 ∷ 117 ∷ 169 ∷ 205 ∷ 13 ∷ 19 ∷ 133 ∷ 170 ∷ 18 ∷ 148 ∷ 221 ∷ 72 ∷ 12 ∷ 126 ∷ 157 ∷ 66 ∷ 79 ∷ 4 ∷ 0 ∷ 0 ∷ 0 ∷ 0 ∷ 0 ∷ 0 ∷ 0 ∷ 0 ∷ 0 ∷ 0 ∷ 0 ∷ 1 ∷ []) ++ replicate 4063 0 ++ (1 ∷ 0 ∷ 0 ∷ 0 ∷ 156 ∷ 113 ∷ 77 ∷ 157 ∷ 126 ∷ 5 ∷ 71 ∷ 186 ∷ 123 ∷ 190 ∷ 196 ∷ 28 ∷ 118 ∷ 241 ∷ 97 ∷ 71 ∷ 5 ∷ 0 ∷ 0 ∷ 0 ∷ 0 ∷ 0 ∷ 0 ∷ 0 ∷ 1 ∷ 0 ∷ 0 ∷ 0 ∷ 2 ∷ [])) ≡ Some (record { epoch = 4; number = 0; payload = 1 ∷ [] })
unfolding front_of G round rounds F words state_after last_state blake2b hash_of
header_with_a_number = refl

-- a torn one leaves the other
pub header_torn : header_frame ((1 ∷ 0 ∷ 0 ∷ 0 ∷ 117 ∷ 169 ∷ 205 ∷ 13 ∷ 19 ∷ 133 ∷ 170 ∷ 18 ∷ 148 ∷ 221 ∷ 72 ∷ 12 ∷ 126 ∷ 157 ∷ 66 ∷ 79 ∷ 4 ∷ 0 ∷ 0 ∷ 0 ∷ 0 ∷ 0 ∷ 0 ∷ 0 ∷ 0 ∷ 0 ∷ 0 ∷ 0 ∷ 1 ∷ []) ++ replicate 4063 0 ++ (1 ∷ 0 ∷ 0 ∷ 0 ∷ 170 ∷ 42 ∷ 237 ∷ 51 ∷ 100 ∷ 51 ∷ 64 ∷ 145 ∷ 65 ∷ 102 ∷ 78 ∷ 172 ∷ 190 ∷ 248 ∷ 165 ∷ 20 ∷ 5 ∷ 0 ∷ 0 ∷ 0 ∷ 0 ∷ 0 ∷ 0 ∷ 0 ∷ 0 ∷ 0 ∷ 0 ∷ 0 ∷ 3 ∷ [])) ≡ Some (record { epoch = 4; number = 0; payload = 1 ∷ [] })
unfolding front_of G round rounds F words state_after last_state blake2b hash_of
header_torn = refl

-- and one that counts isn't left out for its payload: version 2, at the first byte behind the frame's head
pub later_header_of_another_version : header_at ((1 ∷ 0 ∷ 0 ∷ 0 ∷ 117 ∷ 169 ∷ 205 ∷ 13 ∷ 19 ∷ 133 ∷ 170 ∷ 18 ∷ 148 ∷ 221 ∷ 72 ∷ 12 ∷ 126 ∷ 157 ∷ 66 ∷ 79 ∷ 4 ∷ 0 ∷ 0 ∷ 0 ∷ 0 ∷ 0 ∷ 0 ∷ 0 ∷ 0 ∷ 0 ∷ 0 ∷ 0 ∷ 1 ∷ []) ++ replicate 4063 0 ++ (1 ∷ 0 ∷ 0 ∷ 0 ∷ 170 ∷ 42 ∷ 237 ∷ 51 ∷ 100 ∷ 51 ∷ 64 ∷ 145 ∷ 65 ∷ 102 ∷ 78 ∷ 172 ∷ 190 ∷ 248 ∷ 165 ∷ 20 ∷ 5 ∷ 0 ∷ 0 ∷ 0 ∷ 0 ∷ 0 ∷ 0 ∷ 0 ∷ 0 ∷ 0 ∷ 0 ∷ 0 ∷ 2 ∷ [])) ≡ Err 4128
unfolding front_of header_in just_of uint_at G round rounds F words state_after last_state blake2b hash_of
later_header_of_another_version = refl

-- ---- which entries count

abbrev second : Frame
second = record { epoch = 5; number = 2; payload = 8 ∷ 9 ∷ [] }

abbrev third : Frame
third = record { epoch = 5; number = 3; payload = 10 ∷ [] }

abbrev second_bytes : List ℕ
second_bytes = 2 ∷ 0 ∷ 0 ∷ 0 ∷ 184 ∷ 163 ∷ 154 ∷ 97 ∷ 223 ∷ 28 ∷ 141 ∷ 188 ∷ 6 ∷ 42 ∷ 52 ∷ 88 ∷ 116 ∷ 192 ∷ 141 ∷ 162 ∷ 5 ∷ 0 ∷ 0 ∷ 0 ∷ 0 ∷ 0 ∷ 0 ∷ 0 ∷ 2 ∷ 0 ∷ 0 ∷ 0 ∷ 8 ∷ 9 ∷ []

abbrev third_bytes : List ℕ
third_bytes = 1 ∷ 0 ∷ 0 ∷ 0 ∷ 92 ∷ 210 ∷ 119 ∷ 179 ∷ 1 ∷ 144 ∷ 32 ∷ 75 ∷ 148 ∷ 190 ∷ 203 ∷ 136 ∷ 229 ∷ 28 ∷ 117 ∷ 158 ∷ 5 ∷ 0 ∷ 0 ∷ 0 ∷ 0 ∷ 0 ∷ 0 ∷ 0 ∷ 3 ∷ 0 ∷ 0 ∷ 0 ∷ 10 ∷ []

-- one behind the other, up to zeros
pub three_count : frames_up_to 9 5 1 (first_bytes ++ second_bytes ++ third_bytes ++ replicate 40 0) ≡ first ∷ second ∷ third ∷ []
unfolding frames_up_to front_of G round rounds F words state_after last_state blake2b hash_of
three_count = refl

pub three_count_in_words : Count 5 1 (first_bytes ++ second_bytes ++ third_bytes ++ replicate 40 0) (first ∷ second ∷ third ∷ [])
unfolding front_of G round rounds F words state_after last_state blake2b hash_of
three_count_in_words = (refl, (refl, (refl, refl)))

-- behind a header of another epoch none does
pub another_epoch : frames_up_to 9 6 1 (first_bytes ++ second_bytes) ≡ []
unfolding frames_up_to front_of G round rounds F words state_after last_state blake2b hash_of
another_epoch = refl

-- a number left out ends them, and so does a torn frame, though good ones follow
pub second_missing : frames_up_to 9 5 1 (first_bytes ++ third_bytes) ≡ first ∷ []
unfolding frames_up_to front_of G round rounds F words state_after last_state blake2b hash_of
second_missing = refl

pub second_torn : frames_up_to 9 5 1 (first_bytes ++ (2 ∷ 0 ∷ 0 ∷ 0 ∷ 184 ∷ 163 ∷ 154 ∷ 97 ∷ 223 ∷ 28 ∷ 141 ∷ 188 ∷ 6 ∷ 42 ∷ 52 ∷ 88 ∷ 116 ∷ 192 ∷ 141 ∷ 162 ∷ 5 ∷ 0 ∷ 0 ∷ 0 ∷ 0 ∷ 0 ∷ 0 ∷ 0 ∷ 2 ∷ 0 ∷ 0 ∷ 0 ∷ 8 ∷ 11 ∷ []) ++ third_bytes) ≡ first ∷ []
unfolding frames_up_to front_of G round rounds F words state_after last_state blake2b hash_of
second_torn = refl

-- a frame of an older epoch, one with no payload, one that the end cuts off
pub second_is_older : frames_up_to 9 5 1 (first_bytes ++ (2 ∷ 0 ∷ 0 ∷ 0 ∷ 153 ∷ 96 ∷ 222 ∷ 132 ∷ 44 ∷ 248 ∷ 181 ∷ 101 ∷ 55 ∷ 146 ∷ 171 ∷ 34 ∷ 194 ∷ 186 ∷ 59 ∷ 130 ∷ 4 ∷ 0 ∷ 0 ∷ 0 ∷ 0 ∷ 0 ∷ 0 ∷ 0 ∷ 2 ∷ 0 ∷ 0 ∷ 0 ∷ 8 ∷ 9 ∷ []) ++ third_bytes) ≡ first ∷ []
unfolding frames_up_to front_of G round rounds F words state_after last_state blake2b hash_of
second_is_older = refl

pub second_is_empty : frames_up_to 9 5 1 (first_bytes ++ (0 ∷ 0 ∷ 0 ∷ 0 ∷ 202 ∷ 245 ∷ 10 ∷ 236 ∷ 26 ∷ 225 ∷ 149 ∷ 177 ∷ 86 ∷ 110 ∷ 133 ∷ 106 ∷ 143 ∷ 124 ∷ 37 ∷ 245 ∷ 5 ∷ 0 ∷ 0 ∷ 0 ∷ 0 ∷ 0 ∷ 0 ∷ 0 ∷ 2 ∷ 0 ∷ 0 ∷ 0 ∷ []) ++ third_bytes) ≡ first ∷ []
unfolding frames_up_to front_of G round rounds F words state_after last_state blake2b hash_of
second_is_empty = refl

pub second_cut_off : frames_up_to 9 5 1 (first_bytes ++ (2 ∷ 0 ∷ 0 ∷ 0 ∷ 184 ∷ 163 ∷ 154 ∷ 97 ∷ 223 ∷ 28 ∷ 141 ∷ 188 ∷ 6 ∷ 42 ∷ 52 ∷ 88 ∷ 116 ∷ 192 ∷ 141 ∷ 162 ∷ 5 ∷ 0 ∷ 0 ∷ 0 ∷ 0 ∷ 0 ∷ 0 ∷ 0 ∷ 2 ∷ 0 ∷ 0 ∷ 0 ∷ 8 ∷ [])) ≡ first ∷ []
unfolding frames_up_to front_of G round rounds F words state_after last_state blake2b hash_of
second_cut_off = refl

-- ---- limits

check_bytes_is : CHECK_BYTES ≡ 16
check_bytes_is = refl

frame_head_bytes_is : FRAME_HEAD_BYTES ≡ 32
frame_head_bytes_is = refl

slot_bytes_is : SLOT_BYTES ≡ 4096
slot_bytes_is = refl

entries_at_is : ENTRIES_AT ≡ 8192
entries_at_is = refl

max_entries_bytes_is : MAX_ENTRIES_BYTES ≡ 16777216
max_entries_bytes_is = refl
