-- Headers and entries: what is read is spelled so, and what is spelled so is read, whatever follows.
use Rattle.std.proofs.Common.{◌++◌, arith}
use Rattle.compact_enc.specs.Spelling.{uint_spelling}
use Rattle.compact_enc.proofs.Steps.{if_read}
use Rattle.compact_enc.proofs.Inputs.{Passed-then, ReadsBack, again_then, again_last}
use Rattle.oplog_form.specs.declared.header.Header.{Header}
use Rattle.oplog_form.specs.declared.header.TheConstants.{VERSION}
use Rattle.oplog_form.specs.declared.entry.Entry.{Entry}
use Rattle.oplog_form.specs.Form.{fixed_in, just_of}
use Rattle.oplog_form.specs.Heads.{head_spelling, head_in}
use Rattle.oplog_form.specs.Nodes.{roots_spelling, records_spelling, roots_in, records_in}
use Rattle.oplog_form.specs.Commits.{commit_spelling, commit_in}
use Rattle.oplog_form.specs.Headers.{header_spelling, HeaderFits, header_in}
use Rattle.oplog_form.specs.Entries.{entry_spelling, EntryFits, entry_in}
use Rattle.oplog_form.proofs.FieldLaws.{FieldPasses, just_passes, fixed_in_passes, head_passes, just_again, fixed_in_again, head_again}
use Rattle.oplog_form.proofs.NodeLaws.{roots_pass, records_pass, roots_again, records_again}
use Rattle.oplog_form.proofs.CommitLaws.{commit_passes, commit_again}

-- ---- what is read is spelled so

pub header_passes : FieldPasses header_in header_spelling HeaderFits
unfolding header_in header_spelling
header_passes input fits =
    if_read (just_of VERSION input) _ _ _ (just_passes VERSION input fits) (λ version v.
    if_read (fixed_in 32 version.1) _ _ _ (fixed_in_passes 32 version.1 v.0.fits) (λ id i.
    if_read (head_in id.1) _ _ _ (head_passes id.1 i.0.fits) (λ head h.
    if_read (roots_in head.0.length head.1) _ _ _ (roots_pass head.0.length head.1 h.0.fits) (λ roots r.
    if_read (fixed_in 32 roots.1) _ _ _ (fixed_in_passes 32 roots.1 r.0.fits) (λ bits b. (
      rw (← v.1) (Passed-then input version.1 bits.1 _ _ v.0 (Passed-then version.1 id.1 bits.1 _ _ i.0 (Passed-then id.1 head.1 bits.1 _ _ h.0 (Passed-then head.1 roots.1 bits.1 _ _ r.0 b.0)))),
      record { id = i.1; head = h.1; shape = r.1.0; roots = r.1.1; bits = b.1 },
    ))))))

pub entry_passes : FieldPasses entry_in entry_spelling EntryFits
unfolding entry_in entry_spelling
entry_passes input fits =
    if_read (commit_in input) _ _ _ (commit_passes input fits) (λ commit c.
    if_read (head_in commit.1) _ _ _ (head_passes commit.1 c.0.fits) (λ head h.
    if_read (records_in head.1) _ _ _ (records_pass head.1 h.0.fits) (λ records r.
    (Passed-then input commit.1 records.1 _ _ c.0 (Passed-then commit.1 head.1 records.1 _ _ h.0 r.0), record { commit = c.1; head = h.1; records = r.1.0; order = r.1.1 }))))

-- ---- what is spelled so is read

pub header_again : (h : Header) → HeaderFits h → ReadsBack header_in h (header_spelling h)
unfolding header_in header_spelling
header_again h fits =
    again_then (just_of VERSION) _ VERSION h (uint_spelling VERSION) (h.id ++ (head_spelling h.head ++ (roots_spelling h.roots ++ h.bits))) (just_again VERSION (omega arith))
    (again_then (fixed_in 32) _ h.id h h.id (head_spelling h.head ++ (roots_spelling h.roots ++ h.bits)) (fixed_in_again 32 h.id fits.id)
    (again_then head_in _ h.head h (head_spelling h.head) (roots_spelling h.roots ++ h.bits) (head_again h.head fits.head)
    (again_then (roots_in h.head.length) _ h.roots h (roots_spelling h.roots) h.bits (roots_again h.head.length h.roots fits.head.few fits.shape fits.roots)
    (again_last (fixed_in 32) (λ bits. record { id = h.id; head = h.head; roots = h.roots; bits = bits }) h.bits h.bits (fixed_in_again 32 h.bits fits.bits)))))

pub entry_again : (e : Entry) → EntryFits e → ReadsBack entry_in e (entry_spelling e)
unfolding entry_in entry_spelling
entry_again e fits =
    again_then commit_in _ e.commit e (commit_spelling e.commit) (head_spelling e.head ++ records_spelling e.records) (commit_again e.commit fits.commit)
    (again_then head_in _ e.head e (head_spelling e.head) (records_spelling e.records) (head_again e.head fits.head)
    (again_last records_in (λ records. record { commit = e.commit; head = e.head; records = records }) e.records (records_spelling e.records) (records_again e.records fits.records fits.order)))
