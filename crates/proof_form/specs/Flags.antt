-- Flags: a number whose binary digits name the parts of a request or a proof.
use Rattle.std.specs.Prelude.{ℕ, ◌+◌, ◌/◌, ◌%◌, ◌==◌, Bool, ◌&&◌, ◌||◌, not, if◌then◌else◌, Option, is_some, nat_lt, nat_le}
use Rattle.proof_form.specs.declared.flags.TheConstants.{BLOCK, HASH, SEEK, UPGRADE, ALL_PARTS}

-- the flags name this part
abbrev pub has_flag : ℕ → ℕ → Bool
has_flag flag flags = flags / flag % 2 == 1

-- some part is named, and none that there isn't
abbrev pub name_parts : ℕ → Bool
name_parts flags = nat_lt 0 flags && nat_le flags ALL_PARTS

-- a request has some part, but not both a block and a seek
abbrev pub are_request_flags : ℕ → Bool
are_request_flags flags = name_parts flags && not (has_flag BLOCK flags && has_flag SEEK flags)

-- a proof has some part, and a seek only beside a block
abbrev pub are_proof_flags : ℕ → Bool
are_proof_flags flags = name_parts flags && (not (has_flag SEEK flags) || has_flag BLOCK flags)

-- the flag of a part that is there
abbrev pub flag_if : ℕ → Bool → ℕ
flag_if flag here = if here then flag else 0

-- the flags of the parts that are there
abbrev pub flags_of : {A B C D : Type 0} → Option A → Option B → Option C → Option D → ℕ
flags_of block hash seek upgrade = flag_if BLOCK (is_some block) + flag_if HASH (is_some hash) + flag_if SEEK (is_some seek) + flag_if UPGRADE (is_some upgrade)
