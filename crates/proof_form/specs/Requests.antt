-- A request: what is asked of a core (docs/PROTOCOL.md, "Requests").
use Rattle.std.specs.Prelude.{ℕ, ◌<◌, ◌≤◌, List, ◌++◌, Ok, IfSome, IsTrue}
use Rattle.flat_tree.specs.declared.limits.TheConstants.{MAX_CORE_BYTES, MAX_SIBLINGS}
use Rattle.compact_enc.specs.Spelling.{uint_spelling}
use Rattle.compact_enc.specs.Reading.{◌>>=◌}
use Rattle.compact_enc.specs.Input.{Input}
use Rattle.proof_form.specs.declared.fields.TheConstants.{MAX_NUMBER}
use Rattle.proof_form.specs.declared.flags.TheConstants.{BLOCK, HASH, SEEK, UPGRADE}
use Rattle.proof_form.specs.declared.request.Want.{Want}
use Rattle.proof_form.specs.declared.request.Reach.{Reach}
use Rattle.proof_form.specs.declared.request.Request.{Request}
use Rattle.proof_form.specs.Flags.{has_flag, flags_of, are_request_flags}
use Rattle.proof_form.specs.Form.{Read, part_spelling, number_of, part_of, start_of, span_of}

-- an index and a number of siblings
abbrev pub want_spelling : Want → List ℕ
want_spelling want = uint_spelling want.index ++ uint_spelling want.nodes

-- a start and a length
abbrev pub reach_spelling : Reach → List ℕ
reach_spelling reach = uint_spelling reach.start ++ uint_spelling reach.length

-- the flags of the parts that are there
abbrev pub request_flags : Request → ℕ
request_flags r = flags_of r.block r.hash r.seek r.upgrade

-- what is asked for, behind the flags
abbrev pub asked_spelling : Request → List ℕ
asked_spelling r = part_spelling want_spelling r.block ++ (part_spelling want_spelling r.hash ++ (part_spelling uint_spelling r.seek ++ part_spelling reach_spelling r.upgrade))

-- the bytes of a request
unfoldable pub request_spelling : Request → List ℕ
request_spelling r = (uint_spelling r.fork ++ uint_spelling (request_flags r)) ++ asked_spelling r

-- an index and a number of siblings in their ranges
pub record WantFits (want : Want) : Type 0 where
  pub index : want.index ≤ MAX_NUMBER
  pub nodes : want.nodes ≤ MAX_SIBLINGS

-- the start is below the length, which is in its range
pub record ReachFits (reach : Reach) : Type 0 where
  pub ordered : reach.start < reach.length
  pub within : reach.length ≤ MAX_NUMBER

-- what has a spelling: parts that go together, with their numbers in range
pub record RequestFits (r : Request) : Type 0 where
  pub fork : r.fork ≤ MAX_NUMBER
  pub parts : IsTrue (are_request_flags (request_flags r))
  pub block : IfSome r.block WantFits
  pub hash : IfSome r.hash WantFits
  pub seek : IfSome r.seek (λ byte. byte ≤ MAX_CORE_BYTES)
  pub upgrade : IfSome r.upgrade ReachFits

-- an index and a number of siblings
unfoldable pub want_of : Input → Read Want
want_of input = do
  index ← number_of MAX_NUMBER input
  nodes ← number_of MAX_SIBLINGS index.1
  Ok (record { index = index.0; nodes = nodes.0 }, nodes.1)

-- a start, and a length above it
unfoldable pub reach_of : Input → Read Reach
reach_of input = do
  span ← span_of input
  Ok (record { start = span.0.0; length = span.0.1 }, span.1)

-- a fork, the flags, and each part that they name
unfoldable pub request_of : Input → Read Request
request_of input = do
  start ← start_of are_request_flags input
  block ← part_of (has_flag BLOCK start.0.1) want_of start.1
  hash ← part_of (has_flag HASH start.0.1) want_of block.1
  seek ← part_of (has_flag SEEK start.0.1) (number_of MAX_CORE_BYTES) hash.1
  upgrade ← part_of (has_flag UPGRADE start.0.1) reach_of seek.1
  Ok (record { fork = start.0.0; block = block.0; hash = hash.0; seek = seek.0; upgrade = upgrade.0 }, upgrade.1)
