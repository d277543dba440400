-- A header: a core's state in short (docs/FORMATS.md, "Headers and entries").
use Rattle.std.specs.Prelude.{◌≡◌, ℕ, List, ◌++◌, length, Result, Ok}
use Rattle.std.specs.List.{AllByRecursion}
use Rattle.merkle_nodes.specs.Roots.{HasShape}
use Rattle.merkle_nodes.specs.Bundle.{NodeFits}
use Rattle.compact_enc.specs.Spelling.{uint_spelling}
use Rattle.compact_enc.specs.Reading.{◌>>=◌}
use Rattle.compact_enc.specs.Input.{Input}
use Rattle.oplog_form.specs.declared.form.BadForm.{BadForm}
use Rattle.oplog_form.specs.declared.header.Header.{Header}
use Rattle.oplog_form.specs.declared.header.TheConstants.{VERSION}
use Rattle.oplog_form.specs.Form.{Read, fixed_in, just_of, unread, alone}
use Rattle.oplog_form.specs.Heads.{head_spelling, HeadFits, head_in}
use Rattle.oplog_form.specs.Nodes.{roots_spelling, roots_in}

-- the bytes of a header: the version, the core's id, the head, its roots, and the hash of the bits
unfoldable pub header_spelling : Header → List ℕ
header_spelling h = uint_spelling VERSION ++ (h.id ++ (head_spelling h.head ++ (roots_spelling h.roots ++ h.bits)))

-- what has a spelling: the roots are those of the length, and all is in its range
pub record HeaderFits (h : Header) : Type 0 where
  pub id : length h.id ≡ 32
  pub head : HeadFits h.head
  pub shape : HasShape h.roots h.head.length
  pub roots : AllByRecursion NodeFits h.roots
  pub bits : length h.bits ≡ 32

-- a header, and what follows it
unfoldable pub header_in : Input → Read Header
header_in input = do
  version ← just_of VERSION input
  id ← fixed_in 32 version.1
  head ← head_in id.1
  roots ← roots_in head.0.length head.1
  bits ← fixed_in 32 roots.1
  Ok (record { id = id.0; head = head.0; roots = roots.0; bits = bits.0 }, bits.1)

-- the header that the bytes are, all of them
abbrev pub header_of : List ℕ → Result Header BadForm
header_of bytes = header_in (unread bytes) >>= λ x. alone x.0 x.1
