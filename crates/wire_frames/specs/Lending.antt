-- What a framer that lends a body ends as.
use Rattle.std.specs.Prelude.{◌≡◌, ⊤}
use Rattle.std.specs.Borrow.{follows_so, MutBor, Fml}
use mathlib.Core.Option.{none}
use Rattle.wire_frames.specs.Framing.{FramerView, after_take}
use Rattle.wire_frames.specs.contracts.framer.Framer.{the_row}

-- the framer ends with its whole frame given out
abbrev pub GivesOut : MutBor FramerView → Fml
GivesOut framer = follows_so the_row the_row framer.ghost_name none (λ _ _. ⊤) (λ end. end ≡ after_take framer.now)
