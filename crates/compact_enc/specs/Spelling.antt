-- Compact encoding: the one spelling of a number and of a buffer.
use Rattle.std.specs.Prelude.{ℕ, List, [], ◌∷◌, ◌++◌, length, nat_lt, if◌then◌else◌}
use Rattle.std.specs.Int.{w16, w32, w64, to_le_bytes}
use Rattle.compact_enc.specs.declared.marks.TheConstants.{MARK_U16, MARK_U32, MARK_U64, LEAST_U16, LEAST_U32, LEAST_U64}

-- a small number is its own byte; a larger one stands behind a mark in two, four or eight bytes, low byte first
unfoldable pub uint_spelling : ℕ → List ℕ
uint_spelling n =
    if nat_lt n LEAST_U16 then n ∷ []
    else if nat_lt n LEAST_U32 then MARK_U16 ∷ to_le_bytes w16 n
    else if nat_lt n LEAST_U64 then MARK_U32 ∷ to_le_bytes w32 n
    else MARK_U64 ∷ to_le_bytes w64 n

-- its length and its bytes
abbrev pub buffer_spelling : List ℕ → List ℕ
buffer_spelling bytes = uint_spelling (length bytes) ++ bytes
