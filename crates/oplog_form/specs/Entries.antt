-- An entry: a commit, the head after it, and the nodes that it made (docs/FORMATS.md, "Headers and entries").
use Rattle.std.specs.Prelude.{ℕ, List, ◌++◌, Result, Ok}
use Rattle.std.specs.List.{AllByRecursion}
use Rattle.compact_enc.specs.Reading.{◌>>=◌}
use Rattle.compact_enc.specs.Input.{Input}
use Rattle.oplog_form.specs.declared.form.BadForm.{BadForm}
use Rattle.oplog_form.specs.declared.entry.Entry.{Entry}
use Rattle.oplog_form.specs.Form.{Read, unread, alone}
use Rattle.oplog_form.specs.Heads.{head_spelling, HeadFits, head_in}
use Rattle.oplog_form.specs.Nodes.{records_spelling, RecordFits, Rise, records_in}
use Rattle.oplog_form.specs.Commits.{commit_spelling, CommitFits, commit_in}

-- the bytes of an entry: the commit, the head after it, and the records
unfoldable pub entry_spelling : Entry → List ℕ
entry_spelling e = commit_spelling e.commit ++ (head_spelling e.head ++ records_spelling e.records)

-- what has a spelling: the numbers of the records rise, and all is in its range
pub record EntryFits (e : Entry) : Type 0 where
  pub commit : CommitFits e.commit
  pub head : HeadFits e.head
  pub records : AllByRecursion RecordFits e.records
  pub order : Rise 0 e.records

-- an entry, and what follows it
unfoldable pub entry_in : Input → Read Entry
entry_in input = do
  commit ← commit_in input
  head ← head_in commit.1
  records ← records_in head.1
  Ok (record { commit = commit.0; head = head.0; records = records.0 }, records.1)

-- the entry that the bytes are, all of them
abbrev pub entry_of : List ℕ → Result Entry BadForm
entry_of bytes = entry_in (unread bytes) >>= λ x. alone x.0 x.1
