use Rattle.bit_field.specs.Places.{has}
use Rattle.std.proofs.Common.{[]}
use Rattle.bit_field.specs.Pages.{bytes_from}
use Rattle.blake2b_hash.specs.Hasher.{Holds}
use Rattle.core_disk.specs.Copying.{bytes_below}
use Rattle.core_disk.proofs.copies.put_pages.Given as goal

-- the pages so far are in
abbrev pub invariant-loop-number : goal.invariant-loop-number
invariant-loop-number l = Holds 32 [] (bytes_from (bytes_below l.bytes l.number) (has l.held) 0) l.hasher
