-- What is seen of the forms in memory: their bytes and links, and which of their calls are to fail.
use Rattle.std.specs.Prelude.{◌≡◌, ◌+◌, ◌-◌, ℕ, Bool, false, List, [], ◌∷◌, ◌++◌, length, drop, map, if◌then◌else◌, Option, Some, None}
use Rattle.outside_traits.specs.Faults.{Rose}
use Rattle.link_traits.specs.Links.{LinkView}
use Rattle.link_traits.specs.Dials.{Links, DialView, ListenView}

-- a link in memory: the bytes given and left, and how many one read gives at most; those written, and how many it may hold;
-- whether it was ended; the numbers of the calls that are to fail, how many calls were made, and how many failed; the
-- address that it was dialled at, if it was, its number among the links accepted, if it was, and how many calls had failed then
pub record MemLinkView : Type 0 where
  pub given : List ℕ
  pub left : List ℕ
  pub piece : ℕ
  pub written : List ℕ
  pub room : ℕ
  pub ended : Bool
  pub planned : List ℕ
  pub made : ℕ
  pub faults : ℕ
  pub address : List ℕ
  pub number : Option ℕ
  pub start : ℕ

-- it tells all that a link may tell
abbrev pub link_view_of : MemLinkView → LinkView
link_view_of link = record {
  origin = record { address = Some link.address; number = link.number; faults = link.start };
  given = Some link.given;
  left = Some link.left;
  written = Some link.written;
  ended = link.ended;
  faults = link.faults;
}

-- no call was made of it, and it wasn't ended
abbrev pub IsUnused : MemLinkView → Type 0
IsUnused link = (link.made ≡ 0) × (link.ended ≡ false)

-- its count of faults rose since it was dialled or accepted
abbrev pub HasRisen : MemLinkView → Type 0
HasRisen link = Rose link.start link.faults

-- the links of a dial or of a listen in memory: those that it is to give, those that were hung up, and how many are out
pub record SupplyView : Type 0 where
  pub left : List MemLinkView
  pub hung_up : List MemLinkView
  pub out : ℕ

-- the link that is given next, unless it was used before
abbrev pub HasNext : List MemLinkView → Type 0
HasNext [] = ⊥
HasNext (link ∷ left) = IsUnused link

-- the next link is out
abbrev pub takes_next : SupplyView → SupplyView
takes_next supply = record supply { left = drop 1 supply.left; out = supply.out + 1 }

-- a link that was out is hung up
abbrev pub puts_back : MemLinkView → SupplyView → SupplyView
puts_back link supply = record supply { hung_up = supply.hung_up ++ link ∷ []; out = supply.out - 1 }

-- what is told of them
abbrev pub links_of : SupplyView → Links
links_of supply = record { hung_up = map link_view_of supply.hung_up; out = supply.out }

-- a dial in memory: its links; the numbers of the calls that are to fail, how many calls were made, and how many failed
pub record MemDialView : Type 0 where
  pub supply : SupplyView
  pub planned : List ℕ
  pub made : ℕ
  pub faults : ℕ

-- it tells its links
abbrev pub dial_view_of : MemDialView → DialView
dial_view_of dial = record { links = Some (links_of dial.supply); faults = dial.faults }

-- a listen in memory: the address that it is bound to, its links, and its calls as above
pub record MemListenView : Type 0 where
  pub bound : Option (List ℕ)
  pub supply : SupplyView
  pub planned : List ℕ
  pub made : ℕ
  pub faults : ℕ

-- it tells its address and its links
abbrev pub listen_view_of : MemListenView → ListenView
listen_view_of listen = record { bound = listen.bound; links = Some (links_of listen.supply); faults = listen.faults }

-- this link is the first of these, dialled at this address or accepted as this number
abbrev pub IsNextAs : List MemLinkView → List ℕ → Option ℕ → MemLinkView → Type 0
IsNextAs [] address number link = ⊥
IsNextAs (next ∷ left) address number link = link ≡ record next { address = address; number = number; start = next.faults }

-- the address that a listen is bound to, once it is
abbrev pub bound_of : Bool → List ℕ → Option (List ℕ)
bound_of is_bound address = if is_bound then Some address else None

-- the number of the link that is accepted next, from 1
abbrev pub next_number : SupplyView → ℕ
next_number supply = length supply.hung_up + supply.out + 1
