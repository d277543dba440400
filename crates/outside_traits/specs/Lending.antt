-- What a blob that lends its bytes ends as.
use Rattle.std.specs.Prelude.{ℕ, List, ◌++◌, length, take, drop}
use Rattle.std.specs.Borrow.{Lends, MutBor, Fml, Array, u8}
use Rattle.outside_traits.specs.contracts.blob.Blob.{the_row}

-- the bytes that were written, brought to the length of the old ones
abbrev pub fitted : List ℕ → List ℕ → List ℕ
fitted old written = take (length old) (written ++ drop (length written) old)

-- the blob ends with what is last written behind the loan
abbrev pub LendsBytes : MutBor (List ℕ) → MutBor (List ℕ) → Fml
LendsBytes blob loan = Lends the_row (Array u8 0) blob loan (fitted blob.now)
