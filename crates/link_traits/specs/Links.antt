-- What is seen of a link, a stream of bytes in both directions, and what its calls do to it.
use Rattle.std.specs.Prelude.{◌≡◌, ℕ, Bool, true, List, Option, Result, IsErr, IsTrue}
use Rattle.outside_traits.specs.Streams.{SourceView, SinkView, Reads, Writes}

-- where a link comes from: the address that it was dialled at, and its number among the links accepted, from 1, where it
-- tells; and its count of faults then
pub record Origin : Type 0 where
  pub address : Option (List ℕ)
  pub number : Option ℕ
  pub faults : ℕ

-- what is seen of a link: where it comes from; the bytes that it gave, those that are left in it and those that were written
-- to it, where it tells; whether it was ended; and one count of faults for both directions
pub record LinkView : Type 0 where
  pub origin : Origin
  pub given : Option (List ℕ)
  pub left : Option (List ℕ)
  pub written : Option (List ℕ)
  pub ended : Bool
  pub faults : ℕ

-- the direction that is read
abbrev pub source_of : LinkView → SourceView
source_of link = record { given = link.given; left = link.left; faults = link.faults }

-- the direction that is written
abbrev pub sink_of : LinkView → SinkView
sink_of link = record { holds = link.written; faults = link.faults }

-- a call comes from where it came, and fails behind the link's end
pub record StaysOpen {E : Type 0} (old new : LinkView) (answer : Result ℕ E) : Type 0 where
  pub origin : new.origin ≡ old.origin
  pub ended : new.ended ≡ old.ended
  pub fails : IsTrue old.ended → IsErr answer

-- what a read into this buffer does: that of a source, and what was written stays
pub record Receives {E : Type 0} (old new : LinkView) (answer : Result ℕ E) (into : List ℕ) : Type 0 where
  pub reads : Reads (source_of old) (source_of new) answer into
  pub written : new.written ≡ old.written
  pub stays : StaysOpen old new answer

-- what a write of this piece does: that of a sink, and what the link gave and has left stays
pub record Sends {E : Type 0} (old new : LinkView) (answer : Result ℕ E) (piece : List ℕ) : Type 0 where
  pub writes : Writes (sink_of old) (sink_of new) answer piece
  pub given : new.given ≡ old.given
  pub left : new.left ≡ old.left
  pub stays : StaysOpen old new answer

-- the link with its connection dropped: it tells what it told
abbrev pub end_of : LinkView → LinkView
end_of link = record link { ended = true }
