-- Requests in flight, and the map that keeps them.
use Rattle.std.specs.Prelude.{ℕ, ◌+◌, ◌≤◌, List, filter, not, nat_eq}
use Rattle.indexmap.specs.IndexMap.{IndexMap, index_map_len, spare}
use Rattle.fetch_plan.specs.declared.in_flight.TheConstants.{MAX_IN_FLIGHT}

-- an id, and the index that it asks for
abbrev pub Request : Type 0
Request = ℕ × ℕ

-- the requests but that of an id
abbrev pub without : ℕ → List Request → List Request
without id requests = filter (λ request. not (nat_eq id request.0)) requests

-- the map has few entries, and has room for the most without memory
pub record HasRoom {S : Type 0} (requests : IndexMap ℕ ℕ S) : Type 0 where
  pub few : index_map_len requests ≤ MAX_IN_FLIGHT
  pub room : MAX_IN_FLIGHT ≤ index_map_len requests + spare requests
