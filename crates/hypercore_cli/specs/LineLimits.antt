-- Which limit the lines of an input pass first, as the blocks of one append.
use Rattle.std.specs.Prelude.{ℕ, ◌+◌, nat_lt, nat_le, if◌then◌else◌, List, [], ◌∷◌, length, Option, None, Some}
use Rattle.flat_tree.specs.declared.limits.TheConstants.{MAX_BLOCK_BYTES, MAX_BATCH_BLOCKS, MAX_BATCH_BYTES}
use Rattle.merkle_nodes.specs.declared.limit.Limit.{Limit}
use Rattle.merkle_batch.specs.Limits.{block_limit, batch_limit, batch_bytes_limit}

-- the limit that a line of so many bytes passes first, behind so many lines of so many bytes
abbrev pub limit_at : ℕ → ℕ → ℕ → Option Limit
limit_at lines bytes size =
    if nat_lt MAX_BLOCK_BYTES size then Some block_limit
    else (if nat_le MAX_BATCH_BLOCKS lines then Some batch_limit
    else (if nat_lt MAX_BATCH_BYTES (bytes + size) then Some batch_bytes_limit
    else None))

-- the first one, or else the other
abbrev pub or_else : Option Limit → Option Limit → Option Limit
or_else None other = other
or_else (Some limit) other = Some limit

-- the limit that some lines pass first, one after the other, behind so many lines of so many bytes
abbrev pub limit_in : ℕ → ℕ → List (List ℕ) → Option Limit
limit_in lines bytes [] = None
limit_in lines bytes (line ∷ rest) = or_else (limit_at lines bytes (length line)) (limit_in (lines + 1) (bytes + length line) rest)
