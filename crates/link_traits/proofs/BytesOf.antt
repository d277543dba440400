-- The bytes of a link stay through its calls.
use Rattle.std.proofs.Common.{ℕ, List, take, Option, Some, None, Result, Ok, Err, refl, append_assoc}
use Rattle.std.specs.Io.KnownBytes.{Keeps, Appends, Consumes}
use Rattle.std.proofs.KnownBytes.{Keeps-refl}
use Rattle.link_traits.specs.Links.{LinkView, Receives, Sends}
use Rattle.link_traits.specs.LinkCalls.{joined, bytes_of}

-- what moves from those left to those given
Keeps-moved : (given given_now left left_now : Option (List ℕ)) (moved : List ℕ) → Appends given given_now moved → Consumes left left_now moved
    → Keeps (joined given left) (joined given_now left_now)
Keeps-moved None given_now left left_now moved gives consumes = tt
Keeps-moved (Some given) given_now None left_now moved gives consumes = tt
Keeps-moved (Some given) None (Some left) left_now moved gives consumes = absurd gives
Keeps-moved (Some given) (Some given_now) (Some left) None moved gives consumes = absurd consumes
Keeps-moved (Some given) (Some given_now) (Some left) (Some left_now) moved gives consumes = rw (gives, consumes) (append_assoc given moved left_now)

-- what stays in both
Keeps-both : (given given_now left left_now : Option (List ℕ)) → Keeps given given_now → Keeps left left_now
    → Keeps (joined given left) (joined given_now left_now)
Keeps-both None given_now left left_now gives keeps = tt
Keeps-both (Some given) given_now None left_now gives keeps = tt
Keeps-both (Some given) None (Some left) left_now gives keeps = absurd gives
Keeps-both (Some given) (Some given_now) (Some left) None gives keeps = absurd keeps
Keeps-both (Some given) (Some given_now) (Some left) (Some left_now) gives keeps = rw (gives, keeps) refl

pub bytes_of-receives : {E : Type 0} (old new : LinkView) (answer : Result ℕ E) (into : List ℕ) → Receives old new answer into
    → Keeps (bytes_of old) (bytes_of new)
bytes_of-receives old new (Ok n) into read = Keeps-moved old.given new.given old.left new.left (take n into) read.reads.given read.reads.left.0
bytes_of-receives old new (Err e) into read = Keeps-both old.given new.given old.left new.left read.reads.given read.reads.left

pub bytes_of-sends : {E : Type 0} (old new : LinkView) (answer : Result ℕ E) (piece : List ℕ) → Sends old new answer piece
    → Keeps (bytes_of old) (bytes_of new)
bytes_of-sends old new answer piece write = rw (write.given, write.left) (Keeps-refl (bytes_of old))
