-- What a call of a view over a disk leaves of the core, and why it fails.
use Rattle.std.proofs.Common.{◌≡◌, ◌⊎◌, inl, inr, ℕ, Bool, true, false, ◌≤◌, List, Option, Some, None, Result, Ok, Err, if◌then◌else◌, refl, sym, ◌∙◌, arith}
use Rattle.std.specs.Prelude.{IsTrue, IfErr, nat_le}
use Rattle.std.proofs.lemmas.Bool.{cases_Bool}
use Rattle.disk_trait.specs.declared.disk.Area.TheVariants.{Tree}
use Rattle.disk_trait.specs.Past.{Past}
use Rattle.disk_trait.specs.Disk.{DiskView, Keeps, IsOnePast}
use Rattle.disk_trait.proofs.Runs.{keeps_none}
use Rattle.oplog_file.specs.Writers.{Place}
use Rattle.node_set.specs.declared.fault.CoreFault.{CoreFault}
use Rattle.node_set.specs.declared.fault.CoreFault.TheVariants.{Broken, StoreFault, BadStore, Damaged, OutOfRange, Unavailable}
use Rattle.node_set.specs.Contents.{Content, held, roots}
use Rattle.node_set.specs.Views.{KeepsContent, is_of_store}
use Rattle.core_snap.specs.declared.snapshot.ReadAt.{ReadAt}
use Rattle.core_snap.specs.Reads.{read_of}
use Rattle.core_snap.specs.Causes.{read_refusal, IsDamageUnder, FailsBy, ReadsKept}
use Rattle.core_disk.specs.Fitting.{sizes_fit, tells_of}
use Rattle.core_disk.specs.Stored.{Stored, is_showing, view_of}
use Rattle.core_disk.specs.Cored.{Cored, shown, disk_under}
use Rattle.core_disk.specs.Reading.{OnlyReads, IsReadRefusal, FailsToRead, AsKept, ReadsBlock}
use Rattle.core_disk.proofs.FollowLaws.{both}
use Rattle.core_disk.proofs.FittingLemmas.{told_sizes, unfit_record}

-- what a disk went through is told where it answers as it tells
abbrev told_past : DiskView → Option Past
told_past disk = if disk.honest then Some disk.past else None

same_honest : (a b : Bool) (p q : Past) → (if b then Some q else None) ≡ (if a then Some p else None) → b ≡ a
same_honest true true p q is = refl
same_honest true false p q is = cc
same_honest false true p q is = cc
same_honest false false p q is = refl

one_past : (old new : DiskView) → told_past new ≡ told_past old → (if old.honest then old.moment else 0) ≤ (if new.honest then new.moment else 0)
    → old.honest ≡ true → IsOnePast old new
one_past old new same later honest =
    let still : new.honest ≡ true = same_honest old.honest new.honest old.past new.past same ∙ honest in
    let there : Some new.past ≡ Some old.past = sym (rw still refl) ∙ same ∙ rw honest refl in
    let before : (if old.honest then old.moment else 0) ≡ old.moment = rw honest refl in
    let after : (if new.honest then new.moment else 0) ≡ new.moment = rw still refl in
    record { past = cc; later = omega (arith, later, before, after) }

-- a core by its parts
abbrev pub cored : {D A : Type 0} → Stored D → Place → A → Option ℕ → Cored D A
cored store place auth broken = record { store = store; place = place; auth = auth; broken = broken }

module _ {D A : Type 0} (disk : D → DiskView) where
  -- no call of the disk
  pub none_read : (core : Cored D A) → OnlyReads disk core core
  none_read core = record {
    content = refl;
    place = refl;
    auth = refl;
    broken = refl;
    honest = refl;
    faults = omega arith;
    keeps = λ honest. keeps_none (disk_under disk core);
  }

  -- calls of the view
  pub only_read : ((old new : D) → IsTrue (disk old).honest → IsOnePast (disk old) (disk new) → Keeps (disk old) (disk new))
      → (old new : Cored D A) → new.place ≡ old.place → new.auth ≡ old.auth → new.broken ≡ old.broken
      → KeepsContent (view_of disk old.store) (view_of disk new.store) → (disk_under disk old).faults ≤ (disk_under disk new).faults → OnlyReads disk old new
  only_read rests old new place auth broken keeps faults = record {
    content = keeps.content;
    place = place;
    auth = auth;
    broken = broken;
    honest = same_honest (disk_under disk old).honest (disk_under disk new).honest (disk_under disk old).past (disk_under disk new).past keeps.past;
    faults = faults;
    keeps = λ honest. rests old.store.disk new.store.disk honest (one_past (disk_under disk old) (disk_under disk new) keeps.past keeps.later honest);
  }

-- ---- why a read has no answer

pub refusal_is : (n : ℕ) (set : ℕ → Bool) (index : ℕ) (fault : CoreFault) → read_refusal n set index ≡ Some fault
    → (fault ≡ OutOfRange n) ⊎ (fault ≡ Unavailable index)
refusal_is n set index fault is = elim (cases_Bool (nat_le n index)) [
  | inl past ↦ let found : Some (OutOfRange n) ≡ Some fault = sym (rw past refl) ∙ is in inl cc
  | inr within ↦ elim (cases_Bool (set index)) [
    | inl there ↦ let none : None ≡ Some fault = sym (rw (within, there) refl) ∙ is in cc
    | inr absent ↦ let found : Some (Unavailable index) ≡ Some fault = sym (rw (within, absent) refl) ∙ is in inr cc
  ]
]

told_of_store : (m : Content) (fault : CoreFault) → tells_of m fault ≡ true → is_of_store fault ≡ true
told_of_store m StoreFault told = refl
told_of_store m (BadStore area at) told = refl
told_of_store m fault told = cc

module _ {D A : Type 0} (disk : D → DiskView) (old new : Cored D A) (index : ℕ) (place : List ℕ) where
  abbrev m : Content
  m = shown disk old

  abbrev Fails : CoreFault → Type 0
  Fails fault = FailsBy (view_of disk old.store) (view_of disk new.store) (IsReadRefusal m index fault) (IsDamageUnder (roots m) m.length index place fault) fault

  other_refused : (fault : CoreFault) → IsReadRefusal m index fault → ((fault ≡ OutOfRange m.length) ⊎ (fault ≡ Unavailable index) → ⊥) → ⊥
  other_refused fault refused other = other (refusal_is m.length (held m) index fault refused)

  bad_store : (at : ℕ) (area : _) → Fails (BadStore area at) → FailsToRead disk old new index place (BadStore area at)
  bad_store at Tree why = elim why [
    | inl refused ↦ absurd (other_refused (BadStore Tree at) refused (λ is. elim is [ inl e ↦ cc | inr e ↦ cc ]))
    | inr rest ↦ elim rest [ inl told ↦ unfit_record m at told.own | inr damaged ↦ absurd damaged.2 ]
  ]
  bad_store at other why = elim why [
    | inl refused ↦ absurd (other_refused (BadStore other at) refused (λ is. elim is [ inl e ↦ cc | inr e ↦ cc ]))
    | inr rest ↦ elim rest [ inl told ↦ let clash : false ≡ true = told.own in cc | inr damaged ↦ absurd damaged.2 ]
  ]

  fault_fails : (fault : CoreFault) → Fails fault → FailsToRead disk old new index place fault
  fault_fails (OutOfRange end) why = elim why [
    | inl refused ↦ refused
    | inr rest ↦ elim rest [ inl told ↦ let clash : false ≡ true = told.own in cc | inr damaged ↦ absurd damaged.2 ]
  ]
  fault_fails (Unavailable at) why = elim why [
    | inl refused ↦ refused
    | inr rest ↦ elim rest [ inl told ↦ let clash : false ≡ true = told.own in cc | inr damaged ↦ absurd damaged.2 ]
  ]
  fault_fails StoreFault why = elim why [
    | inl refused ↦ absurd (other_refused StoreFault refused (λ is. elim is [ inl e ↦ cc | inr e ↦ cc ]))
    | inr rest ↦ elim rest [ inl told ↦ told.cause refl | inr damaged ↦ absurd damaged.2 ]
  ]
  fault_fails (BadStore area at) why = bad_store at area why
  fault_fails (Damaged at want have) why = elim why [
    | inl refused ↦ absurd (other_refused (Damaged at want have) refused (λ is. elim is [ inl e ↦ cc | inr e ↦ cc ]))
    | inr rest ↦ elim rest [ inl told ↦ let clash : false ≡ true = told.own in cc | inr damaged ↦ damaged ]
  ]
  fault_fails fault why = elim why [
    | inl refused ↦ absurd (other_refused fault refused (λ is. elim is [ inl e ↦ cc | inr e ↦ cc ]))
    | inr rest ↦ elim rest [ inl told ↦ let clash : false ≡ true = told.own in cc | inr damaged ↦ absurd damaged.2 ]
  ]

  as_kept : (answer : Result ReadAt CoreFault) → ReadsKept (view_of disk old.store) (view_of disk new.store) place (read_of m index) answer → AsKept m index place answer
  as_kept (Ok read) reads = reads
  as_kept (Err fault) reads = elim reads [ inl is ↦ inl is | inr told ↦ inr (told_of_store m fault told.own) ]

  pub reads_block : (answer : Result ReadAt CoreFault) → ((fault : CoreFault) → IsReadRefusal m index fault → answer ≡ Err fault) → IfErr answer Fails
      → (IsTrue (is_showing (disk_under disk old) old.store.hand) → ReadsKept (view_of disk old.store) (view_of disk new.store) place (read_of m index) answer)
      → ReadsBlock disk old new index place answer
  reads_block answer refused cause kept = record {
    refused = λ fault whole refusal. refused fault refusal;
    fails = each answer cause;
    kept = λ whole honest fit. as_kept answer (kept (both (disk_under disk old).honest (sizes_fit m) honest (told_sizes m fit)));
  }
    where
      each : (given : Result ReadAt CoreFault) → IfErr given Fails → IfErr given (FailsToRead disk old new index place)
      each (Ok read) why = tt
      each (Err fault) why = fault_fails fault why

  pub broken_reads : (count : ℕ) → old.broken ≡ Some count → ReadsBlock disk old new index place (Err (Broken count))
  broken_reads count is = record {
    refused = λ fault whole refusal. let clash : Some count ≡ None = sym is ∙ whole in cc;
    fails = is;
    kept = λ whole honest fit. let clash : Some count ≡ None = sym is ∙ whole in cc;
  }
