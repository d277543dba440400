-- BLAKE2b (RFC 7693) as a function on lists of numbers, in the standard's letters: words are numbers below 2 ^ 64, and section numbers are the RFC's.
use Rattle.std.specs.Prelude.{ℕ, zero, suc, ◌+◌, ◌-◌, ◌*◌, ◌/◌, ◌%◌, ◌^◌, Bool, false, true, if◌then◌else◌, List, [], ◌∷◌, ◌++◌, length, take, drop, map, replicate, get_or, bit_xor, slice_index, slice_set}
use Rattle.std.specs.List.{flat_map}
use Rattle.std.specs.Int.{w64, rotate_right, from_le_bytes, to_le_bytes}

-- the initialization vector (2.6)
abbrev pub IV : List ℕ
IV =
    0x6A09E667F3BCC908 ∷ 0xBB67AE8584CAA73B ∷ 0x3C6EF372FE94F82B ∷ 0xA54FF53A5F1D36F1
    ∷ 0x510E527FADE682D1 ∷ 0x9B05688C2B3E6C1F ∷ 0x1F83D9ABFB41BD6B ∷ 0x5BE0CD19137E2179 ∷ []

-- the message schedule: row i says in which order round i takes the words (2.7)
abbrev pub SIGMA : List (List ℕ)
SIGMA =
    (0 ∷ 1 ∷ 2 ∷ 3 ∷ 4 ∷ 5 ∷ 6 ∷ 7 ∷ 8 ∷ 9 ∷ 10 ∷ 11 ∷ 12 ∷ 13 ∷ 14 ∷ 15 ∷ [])
    ∷ (14 ∷ 10 ∷ 4 ∷ 8 ∷ 9 ∷ 15 ∷ 13 ∷ 6 ∷ 1 ∷ 12 ∷ 0 ∷ 2 ∷ 11 ∷ 7 ∷ 5 ∷ 3 ∷ [])
    ∷ (11 ∷ 8 ∷ 12 ∷ 0 ∷ 5 ∷ 2 ∷ 15 ∷ 13 ∷ 10 ∷ 14 ∷ 3 ∷ 6 ∷ 7 ∷ 1 ∷ 9 ∷ 4 ∷ [])
    ∷ (7 ∷ 9 ∷ 3 ∷ 1 ∷ 13 ∷ 12 ∷ 11 ∷ 14 ∷ 2 ∷ 6 ∷ 5 ∷ 10 ∷ 4 ∷ 0 ∷ 15 ∷ 8 ∷ [])
    ∷ (9 ∷ 0 ∷ 5 ∷ 7 ∷ 2 ∷ 4 ∷ 10 ∷ 15 ∷ 14 ∷ 1 ∷ 11 ∷ 12 ∷ 6 ∷ 8 ∷ 3 ∷ 13 ∷ [])
    ∷ (2 ∷ 12 ∷ 6 ∷ 10 ∷ 0 ∷ 11 ∷ 8 ∷ 3 ∷ 4 ∷ 13 ∷ 7 ∷ 5 ∷ 15 ∷ 14 ∷ 1 ∷ 9 ∷ [])
    ∷ (12 ∷ 5 ∷ 1 ∷ 15 ∷ 14 ∷ 13 ∷ 4 ∷ 10 ∷ 0 ∷ 7 ∷ 6 ∷ 3 ∷ 9 ∷ 2 ∷ 8 ∷ 11 ∷ [])
    ∷ (13 ∷ 11 ∷ 7 ∷ 14 ∷ 12 ∷ 1 ∷ 3 ∷ 9 ∷ 5 ∷ 0 ∷ 15 ∷ 4 ∷ 8 ∷ 6 ∷ 2 ∷ 10 ∷ [])
    ∷ (6 ∷ 15 ∷ 14 ∷ 9 ∷ 11 ∷ 3 ∷ 0 ∷ 8 ∷ 12 ∷ 2 ∷ 13 ∷ 7 ∷ 1 ∷ 4 ∷ 10 ∷ 5 ∷ [])
    ∷ (10 ∷ 2 ∷ 8 ∷ 4 ∷ 7 ∷ 6 ∷ 1 ∷ 5 ∷ 15 ∷ 11 ∷ 9 ∷ 14 ∷ 3 ∷ 12 ∷ 13 ∷ 0 ∷ []) ∷ []

-- v[a] := (v[a] + v[b] + x) mod 2 ** w (3.1)
abbrev pub add_word : List ℕ → ℕ → ℕ → ℕ → List ℕ
add_word v a b x = slice_set v a ((slice_index v a + slice_index v b + x) % 2 ^ 64)

-- v[c] := (v[c] + v[d]) mod 2 ** w (3.1)
abbrev pub add : List ℕ → ℕ → ℕ → List ℕ
add v c d = slice_set v c ((slice_index v c + slice_index v d) % 2 ^ 64)

-- v[d] := (v[d] ^ v[a]) >>> r (3.1)
abbrev pub turn : List ℕ → ℕ → ℕ → ℕ → List ℕ
turn v d a r = slice_set v d (rotate_right w64 (bit_xor (slice_index v d) (slice_index v a)) r)

-- the mixing function: the words x and y go into four words of v (3.1)
unfoldable pub G : List ℕ → ℕ → ℕ → ℕ → ℕ → ℕ → ℕ → List ℕ
G v a b c d x y =
    let v1 : List ℕ = turn (add_word v a b x) d a 32 in
    let v2 : List ℕ = turn (add v1 c d) b c 24 in
    let v3 : List ℕ = turn (add_word v2 a b y) d a 16 in
    turn (add v3 c d) b c 63

-- one round, with the words x in their order of use: the columns, and then the diagonals (3.2)
unfoldable pub round : List ℕ → List ℕ → List ℕ
round v x =
    let v0 : List ℕ = G v 0 4 8 12 (slice_index x 0) (slice_index x 1) in
    let v1 : List ℕ = G v0 1 5 9 13 (slice_index x 2) (slice_index x 3) in
    let v2 : List ℕ = G v1 2 6 10 14 (slice_index x 4) (slice_index x 5) in
    let v3 : List ℕ = G v2 3 7 11 15 (slice_index x 6) (slice_index x 7) in
    let v4 : List ℕ = G v3 0 5 10 15 (slice_index x 8) (slice_index x 9) in
    let v5 : List ℕ = G v4 1 6 11 12 (slice_index x 10) (slice_index x 11) in
    let v6 : List ℕ = G v5 2 7 8 13 (slice_index x 12) (slice_index x 13) in
    G v6 3 4 9 14 (slice_index x 14) (slice_index x 15)

-- v after the first n rounds over the words m (3.2)
unfoldable pub rounds : ℕ → List ℕ → List ℕ → List ℕ
rounds zero v m = v
rounds (suc i) v m = round (rounds i v m) (map (slice_index m) (get_or SIGMA (i % 10) []))

-- the local words: the state, and IV with the low and the high word of t and the flag f of the last block (3.2)
abbrev pub local_words : List ℕ → ℕ → Bool → List ℕ
local_words h t f =
    slice_index h 0 ∷ slice_index h 1 ∷ slice_index h 2 ∷ slice_index h 3
    ∷ slice_index h 4 ∷ slice_index h 5 ∷ slice_index h 6 ∷ slice_index h 7
    ∷ slice_index IV 0 ∷ slice_index IV 1 ∷ slice_index IV 2 ∷ slice_index IV 3
    ∷ bit_xor (slice_index IV 4) (t % 2 ^ 64) ∷ bit_xor (slice_index IV 5) (t / 2 ^ 64 % 2 ^ 64)
    ∷ (if f then bit_xor (slice_index IV 6) 0xFFFFFFFFFFFFFFFF else slice_index IV 6) ∷ slice_index IV 7 ∷ []

-- h[i] := h[i] ^ v[i] ^ v[i + 8] (3.2)
abbrev pub fold_word : List ℕ → List ℕ → ℕ → ℕ
fold_word h v i = bit_xor (bit_xor (slice_index h i) (slice_index v i)) (slice_index v (i + 8))

-- the compression function: the state h, a block's words m, the number of bytes so far t, and whether the block is the last (3.2)
unfoldable pub F : List ℕ → List ℕ → ℕ → Bool → List ℕ
F h m t f =
    let v : List ℕ = rounds 12 (local_words h t f) m in
    map (fold_word h v) (0 ∷ 1 ∷ 2 ∷ 3 ∷ 4 ∷ 5 ∷ 6 ∷ 7 ∷ [])

-- the little-endian word that begins at byte i of a block (2.4)
abbrev pub word_at : List ℕ → ℕ → ℕ
word_at d i = from_le_bytes w64
    (slice_index d i ∷ slice_index d (i + 1) ∷ slice_index d (i + 2) ∷ slice_index d (i + 3)
    ∷ slice_index d (i + 4) ∷ slice_index d (i + 5) ∷ slice_index d (i + 6) ∷ slice_index d (i + 7) ∷ [])

-- a block's sixteen words
unfoldable pub words : List ℕ → List ℕ
words d = map (word_at d) (0 ∷ 8 ∷ 16 ∷ 24 ∷ 32 ∷ 40 ∷ 48 ∷ 56 ∷ 64 ∷ 72 ∷ 80 ∷ 88 ∷ 96 ∷ 104 ∷ 112 ∷ 120 ∷ [])

-- words as bytes, low byte first (2.4)
abbrev pub bytes_of : List ℕ → List ℕ
bytes_of ws = flat_map (to_le_bytes w64) ws

-- at most a block's bytes, with zeros up to a block (3.3)
abbrev pub padded : List ℕ → List ℕ
padded d = d ++ replicate (128 - length d) 0

-- what is hashed: a key that isn't empty as a block, and the message (3.3)
abbrev pub input : List ℕ → List ℕ → List ℕ
input [] message = message
input (k ∷ key) message = padded (k ∷ key) ++ message

-- block i of an input, d[i] (3.3)
abbrev pub block : List ℕ → ℕ → List ℕ
block x i = padded (take 128 (drop (128 * i) x))

-- the blocks before the last: the last one ends the input, also where it is full, and an empty input has it too (3.3)
abbrev pub blocks_before : ℕ → ℕ
blocks_before n = (n - 1) / 128

-- the first state, for kk bytes of key and nn bytes of hash (2.5, 3.3)
abbrev pub first_state : ℕ → ℕ → List ℕ
first_state nn kk = bit_xor (bit_xor (bit_xor (slice_index IV 0) 0x01010000) (256 * kk)) nn ∷ drop 1 IV

-- the state h after the first blocks of an input, none of them the last (3.3)
unfoldable pub state_after : List ℕ → List ℕ → ℕ → List ℕ
state_after h x zero = h
state_after h x (suc i) = F (state_after h x i) (words (block x i)) (128 * (i + 1)) false

-- the state h after a whole input (3.3)
unfoldable pub last_state : List ℕ → List ℕ → List ℕ
last_state h x =
    let i : ℕ = blocks_before (length x) in
    F (state_after h x i) (words (block x i)) (length x) true

-- BLAKE2b: the hash of nn bytes of the message under the key (3.3)
unfoldable pub blake2b : ℕ → List ℕ → List ℕ → List ℕ
blake2b nn key message = take nn (bytes_of (last_state (first_state nn (length key)) (input key message)))

-- the hash of 32 bytes, with no key
unfoldable pub hash_of : List ℕ → List ℕ
hash_of message = blake2b 32 [] message
