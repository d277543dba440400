use Rattle.std.proofs.Common.{◌≡◌, IsTrue, length}
use Rattle.bit_field.specs.Places.{has}
use Rattle.core_disk.specs.Copying.{CopiedTo, IsSpareFrom, places_below, HasConsulted}
use Rattle.core_disk.proofs.copies.read_pages.Given as goal

-- the pages so far were read
abbrev pub invariant-loop-number : goal.invariant-loop-number
invariant-loop-number g l =
    (IsTrue (g.D.Disk.disk l.fn.disk).honest → CopiedTo ((g.D.Disk.disk l.fn.disk).reads l.area) (places_below l.blocks l.number) (has l.held))
    × IsSpareFrom l.blocks (has l.held)
    × (length l.held ≡ length l.fn.held)
    × (length l.page ≡ length l.fn.page)
    × HasConsulted (g.D.Disk.disk l.fn.disk) (g.D.Disk.disk l.disk)
