-- What is seen of a dial and of a listen, and what their calls do to them.
use Rattle.std.specs.Prelude.{◌≡◌, ℕ, ◌+◌, ◌-◌, ◌<◌, false, List, [], ◌∷◌, ◌++◌, length, Option, Some, None, Result, IsSome, IsErr, IfSome, MatchResult}
use Rattle.std.specs.Option.{option_map}
use Rattle.outside_traits.specs.Faults.{CountsFault, Rose, count_fault}
use Rattle.link_traits.specs.Links.{LinkView}

-- the links of a dial or of a listen: those that were hung up, in order, and how many are out
pub record Links : Type 0 where
  pub hung_up : List LinkView
  pub out : ℕ

-- one link more is out
abbrev pub gives_link : Links → Links
gives_link links = record links { out = links.out + 1 }

-- a link that was out is hung up
abbrev pub takes_link : LinkView → Links → Links
takes_link link links = record { hung_up = links.hung_up ++ link ∷ []; out = links.out - 1 }

-- some link is out, where this is told
abbrev pub HasOut : Option Links → Type 0
HasOut links = IfSome links (λ some. 0 < some.out)

-- after Ok one link more is out, and after an Err none
abbrev pub GivesLink : {T E : Type 0} → Option Links → Option Links → Result T E → Type 0
GivesLink old new answer = MatchResult answer (λ _. new ≡ option_map gives_link old) (λ _. new ≡ old)

-- a link of which no byte was read and to which none was written
pub record IsFresh (link : LinkView) : Type 0 where
  pub given : IfSome link.given (λ bytes. bytes ≡ [])
  pub written : IfSome link.written (λ bytes. bytes ≡ [])
  pub ended : link.ended ≡ false
  pub faults : link.origin.faults ≡ link.faults

-- it tells its bytes
pub record Tells (link : LinkView) : Type 0 where
  pub given : IsSome link.given
  pub left : IsSome link.left
  pub written : IsSome link.written

-- what is seen of a dial: its links, where it tells, and its count of faults
pub record DialView : Type 0 where
  pub links : Option Links
  pub faults : ℕ

-- a link that this dial gave at this address: where the dial tells, so does the link
pub record IsDialled (dial : DialView) (address : List ℕ) (link : LinkView) : Type 0 where
  pub fresh : IsFresh link
  pub address_is : IsSome dial.links → link.origin.address ≡ Some address
  pub tells : IsSome dial.links → Tells link

-- what a call that dials does to the dial
pub record Dials {T E : Type 0} (old new : DialView) (answer : Result T E) : Type 0 where
  pub links : GivesLink old.links new.links answer
  pub faults : CountsFault old.faults new.faults answer

-- what hanging up this link does to the dial: a fault is added where the link's count rose since it was dialled
pub record DialHangsUp (old new : DialView) (link : LinkView) : Type 0 where
  pub links : new.links ≡ option_map (takes_link link) old.links
  pub rose : Rose link.origin.faults link.faults → new.faults ≡ count_fault old.faults
  pub calm : ¬ Rose link.origin.faults link.faults → new.faults ≡ old.faults

-- what is seen of a listen: the address that it is bound to, once it is, and its links, where it tells; and its count of faults
pub record ListenView : Type 0 where
  pub bound : Option (List ℕ)
  pub links : Option Links
  pub faults : ℕ

-- what binding to this address does to a listen: where it tells, it is bound to that one, and after an Err as before
pub record Binds {T E : Type 0} (old new : ListenView) (address : List ℕ) (answer : Result T E) : Type 0 where
  pub bound : MatchResult answer (λ _. IsSome old.links → new.bound ≡ Some address) (λ _. new.bound ≡ old.bound)
  pub links : new.links ≡ old.links
  pub faults : CountsFault old.faults new.faults answer

-- a link that this listen gave: where the listen tells, so does the link, and its number is the next one
pub record IsAccepted (listen : ListenView) (link : LinkView) : Type 0 where
  pub fresh : IsFresh link
  pub number : IfSome listen.links (λ links. link.origin.number ≡ Some (length links.hung_up + links.out + 1))
  pub tells : IsSome listen.links → Tells link

-- what a call that accepts does to the listen: before it is bound it fails, where this is told
pub record Accepts {T E : Type 0} (old new : ListenView) (answer : Result T E) : Type 0 where
  pub bound : new.bound ≡ old.bound
  pub unbound : IsSome old.links → old.bound ≡ None → IsErr answer
  pub links : GivesLink old.links new.links answer
  pub faults : CountsFault old.faults new.faults answer

-- what hanging up this link does to the listen
pub record ListenHangsUp (old new : ListenView) (link : LinkView) : Type 0 where
  pub bound : new.bound ≡ old.bound
  pub links : new.links ≡ option_map (takes_link link) old.links
  pub faults : new.faults ≡ old.faults
