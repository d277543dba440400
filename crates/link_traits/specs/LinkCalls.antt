-- What is done to a link by more than one call.
use Rattle.std.specs.Prelude.{◌≡◌, ℕ, List, [], ◌++◌, Option, Some, None, Result}
use Rattle.outside_traits.specs.Streams.{WritesAll}
use Rattle.link_traits.specs.Links.{LinkView, sink_of}

-- all but what is written, and the count of faults, is as it was
pub record KeepsReading (old new : LinkView) : Type 0 where
  pub origin : new.origin ≡ old.origin
  pub given : new.given ≡ old.given
  pub left : new.left ≡ old.left
  pub ended : new.ended ≡ old.ended

-- what sending all of these bytes does: that of writing them to a sink, and what the link gave and has left stays
pub record SendsAll {T E : Type 0} (old new : LinkView) (answer : Result T E) (bytes : List ℕ) : Type 0 where
  pub writes : WritesAll (sink_of old) (sink_of new) answer bytes
  pub keeps : KeepsReading old new
  pub none : bytes ≡ [] → new ≡ old

-- some bytes and then some others, where both are told
abbrev pub joined : Option (List ℕ) → Option (List ℕ) → Option (List ℕ)
joined (Some given) (Some left) = Some (given ++ left)
joined (Some given) None = None
joined None left = None

-- the bytes of a link: those that it gave, and then those left in it, where it tells
abbrev pub bytes_of : LinkView → Option (List ℕ)
bytes_of link = joined link.given link.left
