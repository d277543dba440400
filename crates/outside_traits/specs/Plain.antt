-- The authority for tests: what it signs with, and what it accepts.
use Rattle.std.specs.Prelude.{ℕ, Bool, List, ◌++◌, drop, replicate}
use Rattle.std.specs.Str.{bytes_eq}

-- the text's bytes from the 32nd on, and sixteen of the mark
abbrev pub plain_signature_of : ℕ → List ℕ → List ℕ
plain_signature_of mark text = drop 32 text ++ replicate 16 mark

-- exactly that signature
abbrev pub plain_accepts : ℕ → List ℕ → List ℕ → Bool
plain_accepts mark text signature = bytes_eq (plain_signature_of mark text) signature
