-- What a read of the core of a name comes to.
use Rattle.std.proofs.Common.{◌≡◌, ℕ, Bool, true, false, List, take, Option, Some, None, Result, Ok, Err, inl, inr, refl, sym, ◌∙◌, ap, subst}
use Rattle.std.specs.Prelude.{IsTrue, ◌⊎◌, nat_lt, if◌then◌else◌}
use Rattle.outside_traits.specs.Faults.{Rose}
use Rattle.merkle_nodes.specs.declared.node.Twig.{Twig}
use Rattle.node_set.specs.declared.fault.CoreFault.{CoreFault}
use Rattle.node_set.specs.declared.fault.CoreFault.TheVariants.{Memory, Broken, BookFull, StoreFault, BadStore, Damaged, BadSignature, OutOfRange, Unavailable, NoNode, NoByte, NoReply, OldFork, Limit, Refused}
use Rattle.node_set.specs.Contents.{Content, held}
use Rattle.core_snap.specs.declared.snapshot.ReadAt.{ReadAt}
use Rattle.core_snap.specs.Reads.{Answer, answer_if, get_of, read_of}
use Rattle.core_state.specs.Events.Event.{Get}
use Rattle.core_state.specs.Events.Reply.{Read}
use Rattle.core_state.specs.States.{CoreState}
use Rattle.core_state.specs.Next.{answer_in}
use Rattle.core_state.specs.Calls.{Acts, IsReadFault, fault_in}
use Rattle.node_set.specs.Views.{is_of_store}
use Rattle.disk_trait.specs.declared.disk.Area.{Area}
use Rattle.disk_trait.specs.declared.disk.Area.TheVariants.{Tree}
use Rattle.core_disk.specs.Laid.{SizesFit}
use Rattle.core_disk.specs.Fitting.{IsUnfitRecord}
use Rattle.core_snap.specs.Causes.{read_refusal}
use Rattle.core_disk.proofs.OnlyReading.{refusal_is}
use Rattle.core_disk.specs.Cored.{Cored, disk_under, shown, state_of}
use Rattle.core_disk.specs.Reading.{IsReadRefusal, AsKept, ReadsBlock as CoreReads}
use Rattle.core_disk.specs.Handed.{IsOpenedOn}
use Rattle.disk_trait.specs.Disk.{DiskView}
use Rattle.core_shelf.specs.declared.fault.NamedFault.TheVariants.{NoCore}
use Rattle.core_shelf.specs.Shelf.{ShelfView}
use Rattle.core_shelf.specs.Named.{TakesOut, IsRefused}
use Rattle.hypercore_cli.specs.Faults.{read_end}
use Rattle.hypercore_cli.specs.Cores.{NamedCore, StoodFor, IsOpened}
use Rattle.hypercore_cli.specs.Gets.{ReadsBlock, ReadsNone, ReadsUnfit, IsFoundDamaged, RefusesRead}
use Rattle.hypercore_cli.proofs.OpenedCores.{is_opened, taken_tells, shows, core_stands}

-- what no content answers
refusal_of : (within : Bool) (block : Option (List ℕ)) (trail : List Twig) (index end : ℕ) (fault : CoreFault)
    → (if within then answer_if true block trail index else Err (OutOfRange end)) ≡ Err fault → (fault ≡ OutOfRange end) ⊎ (fault ≡ Unavailable index)
refusal_of true None trail index end fault same = inr cc
refusal_of true (Some block) trail index end fault same = absurd cc
refusal_of false block trail index end fault same = inl cc

-- a core that stands and isn't broken fails in a read by its disk alone
read_fault : (old new : CoreState) (fault : CoreFault) → IsTrue old.stands → old.broken ≡ None → IsReadFault old new fault → fault ≡ StoreFault
read_fault old new Memory stands whole own = absurd own
read_fault old new (Broken count) stands whole own = absurd cc
read_fault old new BookFull stands whole own = absurd own
read_fault old new StoreFault stands whole own = refl
read_fault old new (BadStore area at) stands whole own = absurd cc
read_fault old new (Damaged place want have) stands whole own = absurd cc
read_fault old new BadSignature stands whole own = absurd own
read_fault old new (OutOfRange end) stands whole own = absurd own
read_fault old new (Unavailable index) stands whole own = absurd own
read_fault old new (NoNode index) stands whole own = absurd own
read_fault old new (NoByte byte) stands whole own = absurd own
read_fault old new NoReply stands whole own = absurd own
read_fault old new (OldFork have) stands whole own = absurd own
read_fault old new (Limit what max) stands whole own = absurd own
read_fault old new (Refused refusal) stands whole own = absurd own

fault_read : (answer : Result Answer CoreFault) (fault : CoreFault) → fault_in (Read answer) ≡ Some fault → answer ≡ Err fault
fault_read (Ok block) fault same = absurd cc
fault_read (Err other) fault same = cc

-- a read of one answers what its content does, or its disk failed
read_answers : (old new : CoreState) (index : ℕ) (answer : Result Answer CoreFault) → IsTrue old.stands → old.broken ≡ None
    → Acts true old (Get index) new (Read answer) → (answer ≡ get_of old.content index) ⊎ (answer ≡ Err StoreFault)
read_answers old new index answer stands whole acts = elim (acts.next stands) [
  | inl next ↦ inl next.1
  | inr fails ↦ inr (fault_read answer fails.fault fails.answered ∙ ap (λ f. Err f) (read_fault old new fails.fault stands whole fails.own))
]

module _ {D A : Type 0} (disk : D → DiskView) (authority : A → List ℕ → List ℕ → Bool) (c : NamedCore) (tells : IsTrue c.old.honest → IsTrue (c.old.disk c.id).honest)
    (mid : ShelfView) (core now : Cored D A) (taken : TakesOut disk (disk_under disk) (IsOpenedOn disk authority c.accepts c.id) c.id c.old mid core)
    (refused : IsTrue c.old.honest → IsRefused {C = Cored D A} NoCore (c.old.marked c.id ≡ false) (Ok core)) (index : ℕ) where
  -- what a read answers where the shelf's disk stood for a content
  answers : (answer : Result Answer CoreFault) → Acts true (state_of disk authority core) (Get index) (state_of disk authority now) (Read answer)
      → (m : Content) → StoodFor c m → (get_of m index ≡ answer) ⊎ (answer ≡ Err StoreFault)
  answers answer acts m stood = elim (read_answers _ _ index answer (core_stands disk authority c tells mid core taken m stood) taken.says.unbroken acts) [
    | inl same ↦ inl (sym (same ∙ ap (λ (n : Content). get_of n index) (shows disk authority c tells mid core taken m stood)))
    | inr failed ↦ inr failed
  ]

  opened : IsOpened c (shown disk core)
  opened = is_opened disk authority c tells mid core taken refused

  -- what the areas gave, where the shelf tells
  as_given : (place : List ℕ) (answer : Result ReadAt CoreFault) → CoreReads disk core now index place answer
      → IsTrue c.old.honest → SizesFit (shown disk core).node → AsKept (shown disk core) index place answer
  as_given place answer reads honest = reads.kept taken.says.unbroken (taken.says.leaves.honest ∙ taken_tells disk authority c tells mid core taken honest)

  -- a fault of a read that isn't one of the store's is what they gave
  gave_fault : (place : List ℕ) (fault : CoreFault) → is_of_store fault ≡ false → CoreReads disk core now index place (Err fault)
      → IsTrue c.old.honest → SizesFit (shown disk core).node → read_of (shown disk core) index ≡ Err fault
  gave_fault place fault other reads honest fit = elim (as_given place (Err fault) reads honest fit) [
    | inl same ↦ same
    | inr store ↦ let clash : false ≡ true = sym other ∙ store in cc
  ]

  -- the index is refused
  reads_none : (place : List ℕ) (fault : CoreFault) → is_of_store fault ≡ false → (fault ≡ StoreFault → ⊥) → CoreReads disk core now index place (Err fault)
      → IsReadRefusal (shown disk core) index fault → Acts true (state_of disk authority core) (Get index) (state_of disk authority now) (Read (Err fault))
      → ReadsNone c index fault
  reads_none place fault other store reads refusal acts = record {
    reads = record {
      shown = shown disk core;
      opened = opened;
      content = λ m stood. elim (answers (Err fault) acts m stood) [ inl same ↦ same | inr failed ↦ absurd (store cc) ];
      kept = gave_fault place fault other reads;
    };
    refused = refusal;
  }

  -- no content answers such a fault
  never_answered : (fault : CoreFault) → ((end : ℕ) → fault ≡ OutOfRange end → ⊥) → ((at : ℕ) → fault ≡ Unavailable at → ⊥) → (m : Content) → get_of m index ≡ Err fault → ⊥
  never_answered fault past absent m same = elim (refusal_of (nat_lt index m.length) (m.block index) _ index m.length fault same) [
    | inl is ↦ past m.length is
    | inr is ↦ absent index is
  ]

  -- a fault that no content answers comes where the index isn't refused
  not_refused : (place : List ℕ) (fault : CoreFault) → ((end : ℕ) → fault ≡ OutOfRange end → ⊥) → ((at : ℕ) → fault ≡ Unavailable at → ⊥)
      → CoreReads disk core now index place (Err fault) → read_refusal (shown disk core).length (held (shown disk core)) index ≡ None
  not_refused place fault past absent reads = of (read_refusal m.length (held m) index) refl
    where
      m : Content
      m = shown disk core

      of : (found : Option CoreFault) → read_refusal m.length (held m) index ≡ found → read_refusal m.length (held m) index ≡ None
      of None is = is
      of (Some other) is =
          let answered : Err fault ≡ Err other = reads.refused other taken.says.unbroken is in
          let same : fault ≡ other = cc in
          elim (refusal_is m.length (held m) index other is) [
            | inl end ↦ absurd (past m.length (same ∙ end))
            | inr at ↦ absurd (absent index (same ∙ at))
          ]

  -- nor is it where a block was read
  block_unrefused : (place : List ℕ) (read : ReadAt) → CoreReads disk core now index place (Ok read) → read_refusal (shown disk core).length (held (shown disk core)) index ≡ None
  block_unrefused place read reads = of (read_refusal (shown disk core).length (held (shown disk core)) index) refl
    where
      of : (found : Option CoreFault) → read_refusal (shown disk core).length (held (shown disk core)) index ≡ found
          → read_refusal (shown disk core).length (held (shown disk core)) index ≡ None
      of None is = is
      of (Some other) is = let clash : Ok read ≡ Err other = reads.refused other taken.says.unbroken is in absurd cc

  -- a fault that no content answers tells that the disk stood for none
  reads_unfit : (place : List ℕ) (fault : CoreFault) (IsFound : Content → Type 0) → IsFound (shown disk core) → (fault ≡ StoreFault → ⊥)
      → ((end : ℕ) → fault ≡ OutOfRange end → ⊥) → ((at : ℕ) → fault ≡ Unavailable at → ⊥) → CoreReads disk core now index place (Err fault)
      → Acts true (state_of disk authority core) (Get index) (state_of disk authority now) (Read (Err fault)) → ReadsUnfit c index IsFound
  reads_unfit place fault IsFound found store past absent reads acts = record {
    shown = shown disk core;
    opened = opened;
    unrefused = not_refused place fault past absent reads;
    found = found;
    none = λ m stood. elim (answers (Err fault) acts m stood) [ inl same ↦ never_answered fault past absent m same | inr failed ↦ store cc ];
  }

  -- where the count of faults of the core's disk rose in the read, so did the shelf's
  module _ (rises : Rose (disk_under disk core).faults (disk_under disk now).faults → Rose c.old.faults c.new.faults) (place : List ℕ) where
    bad_store : (at : ℕ) (area : Area) → CoreReads disk core now index place (Err (BadStore area at))
        → Acts true (state_of disk authority core) (Get index) (state_of disk authority now) (Read (Err (BadStore area at))) → RefusesRead c index (read_end (BadStore area at))
    bad_store at Tree reads acts =
        reads_unfit place (BadStore Tree at) (λ (m : Content). IsUnfitRecord m at) reads.fails (λ e. cc) (λ end e. cc) (λ other e. cc) reads acts
    bad_store at other reads acts = absurd reads.fails

    refused_read : (fault : CoreFault) → CoreReads disk core now index place (Err fault)
        → Acts true (state_of disk authority core) (Get index) (state_of disk authority now) (Read (Err fault)) → RefusesRead c index (read_end fault)
    refused_read (Broken count) reads acts = let clash : Some count ≡ None = sym reads.fails ∙ taken.says.unbroken in absurd cc
    refused_read StoreFault reads acts = rises reads.fails
    refused_read (BadStore area at) reads acts = bad_store at area reads acts
    refused_read (Damaged at want have) reads acts =
        reads_unfit place (Damaged at want have) (IsFoundDamaged c index (Damaged at want have))
        (record { place = place; differs = reads.fails; kept = gave_fault place (Damaged at want have) refl reads })
        (λ e. cc) (λ end e. cc) (λ other e. cc) reads acts
    refused_read (OutOfRange end) reads acts = reads_none place (OutOfRange end) refl (λ e. cc) reads reads.fails acts
    refused_read (Unavailable at) reads acts = reads_none place (Unavailable at) refl (λ e. cc) reads reads.fails acts
    refused_read other reads acts = absurd reads.fails

    pub reads_err : (answer : Result ReadAt CoreFault) (fault : CoreFault) → answer ≡ Err fault → CoreReads disk core now index place answer
        → Acts true (state_of disk authority core) (Get index) (state_of disk authority now) (Read (answer_in place answer)) → RefusesRead c index (read_end fault)
    reads_err answer fault same reads acts = refused_read fault
        (subst (λ (r : Result ReadAt CoreFault). CoreReads disk core now index place r) same reads)
        (subst (λ (r : Result ReadAt CoreFault). Acts true (state_of disk authority core) (Get index) (state_of disk authority now) (Read (answer_in place r))) same acts)

  pub reads_ok : (place : List ℕ) (answer : Result ReadAt CoreFault) (read : ReadAt) → answer ≡ Ok read → CoreReads disk core now index place answer
      → Acts true (state_of disk authority core) (Get index) (state_of disk authority now) (Read (answer_in place answer))
      → ReadsBlock c index (record { block = take read.len place; trail = read.trail })
  reads_ok place answer read same reads acts =
      let given = subst (λ (r : Result ReadAt CoreFault). CoreReads disk core now index place r) same reads in
      let acted = subst (λ (r : Result ReadAt CoreFault). Acts true (state_of disk authority core) (Get index) (state_of disk authority now) (Read (answer_in place r))) same acts in
      record {
        reads = record {
          shown = shown disk core;
          opened = opened;
          content = λ m stood. elim (answers (answer_in place (Ok read)) acted m stood) [ inl here ↦ here | inr failed ↦ absurd cc ];
          kept = as_given place (Ok read) given;
        };
        unrefused = block_unrefused place read given;
        proved = acted.safe;
      }
