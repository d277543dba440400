-- What is known of the core of a name once it was opened, or wasn't.
use Rattle.std.proofs.Common.{◌≡◌, ℕ, ◌≤◌, Bool, true, false, List, Ok, Err, inl, inr, refl, sym, ◌∙◌, ap, subst, arith}
use Rattle.std.specs.Prelude.{IsTrue, IsErrOf, if◌then◌else◌, []}
use Rattle.std.proofs.lemmas.Bool.{and_from, cases_Bool, true_from_ne_false}
use Rattle.std.specs.Str.{bytes_eq}
use Rattle.std.proofs.lemmas.Slice.Eq.{bytes_eq-Decides}
use mathlib.Core.Path.{fun_ext}
use Rattle.outside_traits.specs.Faults.{Rose}
use Rattle.disk_trait.specs.declared.disk.Area.TheVariants.{Blocks as BlocksArea}
use Rattle.disk_trait.specs.Disk.{DiskView, MayStay}
use Rattle.node_set.specs.declared.fault.CoreFault.{CoreFault}
use Rattle.node_set.specs.declared.fault.CoreFault.TheVariants.{Memory, Broken, BookFull, StoreFault, BadStore, Damaged, BadSignature, OutOfRange, Unavailable, NoNode, NoByte, NoReply, OldFork, Limit, Refused}
use Rattle.node_set.specs.Contents.{Content}
use Rattle.core_state.specs.Handing.{SameDisk}
use Rattle.core_disk.specs.Areas.{Areas}
use Rattle.core_disk.specs.Parts.{OpensStore}
use Rattle.core_disk.specs.Standing.{StandsFor, HasBlocks}
use Rattle.core_disk.specs.Firm.{StandsFirmly}
use Rattle.core_disk.specs.Testing.{is_whole, has_blocks}
use Rattle.core_disk.specs.InHand.{opened_of}
use Rattle.core_disk.specs.Laid.{content_in}
use Rattle.core_disk.specs.Stored.{blocks_area}
use Rattle.core_disk.specs.Cored.{Cored, disk_under, shown, state_of}
use Rattle.core_disk.specs.Reading.{OnlyReads}
use Rattle.core_disk.specs.Handed.{IsOpenedOn, IsNotOpened, LeavesContent}
use Rattle.core_disk.proofs.StandingDisks.{firmly, same_firmly, same_reads, kept_firmly}
use Rattle.core_disk.proofs.Testing.{told_whole, told_has}
use Rattle.core_shelf.specs.declared.fault.NamedFault.{NamedFault}
use Rattle.core_shelf.specs.declared.fault.NamedFault.TheVariants.{NoCore, CoreExists, Core}
use Rattle.core_shelf.specs.Shelf.{ShelfView, Counts, CountsIn, Gives, Others}
use Rattle.core_shelf.specs.Named.{Stays, KeepsOthers, TakesOut, Opens, RefusesOr, IsRefused}
use Rattle.hypercore_cli.specs.Runs.{AreHome}
use Rattle.hypercore_cli.specs.Faults.{named_end}
use Rattle.hypercore_cli.specs.declared.outcome.Outcome.{Outcome}
use Rattle.hypercore_cli.specs.declared.outcome.Outcome.TheVariants.{NoCore as NoCoreEnd, StoreFault as StoreFaultEnd, BadStore as BadStoreEnd, Damaged as DamagedEnd, BadSignature as BadSignatureEnd, NoMemory}
use Rattle.hypercore_cli.specs.Cores.{NamedCore, KeepsRest, StoodFor, IsOpened, IsUnfit, KeepsContent, RefusesOpening}

-- a risen count rose also since before, and is also later
pub rose_within : (a b c d : ℕ) → a ≤ b → Rose b c → c ≤ d → Rose a d
rose_within a b c d before rose later = omega (arith, before, rose, later)

-- an error is the one that it is
pub err_same : {T E : Type 0} (x y : E) → IsErrOf {T = T} (Err x) y → x ≡ y
err_same x y same = cc

-- the blocks of a disk that tells are what it reads as
area_told : (d : DiskView) → d.honest ≡ true → blocks_area d ≡ d.reads BlocksArea
area_told d honest = ap (λ (b : Bool). if b then d.reads BlocksArea else []) honest

-- a disk that stood firmly for a content does so after an opening
left_firm : (accepts : List ℕ → List ℕ → Bool) (id : List ℕ) (old new : DiskView) (m : Content) → LeavesContent accepts id old new → MayStay new
    → StandsFirmly accepts id old m → StandsFirmly accepts id new m
left_firm accepts id old new m leaves stays firm =
    let left = leaves.any_moment m firm.honest firm.reads in
    let each : (areas : Areas) → _ = λ areas image. elim (left.each new.moment areas left.time.later (omega arith) image) [
      | inl was ↦ firm.images areas was
      | inr stands ↦ stands
    ] in
    record { honest = leaves.honest ∙ firm.honest; reads = each new.reads stays; images = each }

-- ---- the shelf over the calls of one core

-- a disk as it was, twice
same_twice : (a b d : DiskView) → SameDisk a b → SameDisk b d → SameDisk a d
same_twice a b d one two = record {
  honest = two.honest ∙ one.honest;
  reads = λ area. two.reads area ∙ one.reads area;
  images = λ t area bytes. (λ image. (one.images t area bytes).0 ((two.images t area bytes).0 image), λ image. (two.images t area bytes).1 ((one.images t area bytes).1 image));
  moment = two.moment ∙ one.moment;
  faults = two.faults ∙ one.faults;
  calls = two.calls ∙ one.calls;
}

-- once the core's disk is back, all else is as it was
pub rest_kept : (c : NamedCore) (mid : ShelfView) (store : DiskView) → KeepsOthers c.id c.old mid
    → (IsTrue c.old.honest → Others c.id (λ other. mid.marked other ≡ c.old.marked other))
    → Counts mid c.new → CountsIn store c.id mid c.new → (IsTrue mid.honest → Gives store c.id mid c.new) → KeepsRest c
rest_kept c mid store others list counts came gives =
    let mid_tells : IsTrue c.old.honest → IsTrue mid.honest = λ honest. others.counts.honest ∙ honest in
    record {
      others = record {
        counts = record { honest = counts.honest ∙ others.counts.honest; faults = omega (arith, others.counts.faults, counts.faults) };
        went = λ other apart. came.others other apart ∙ others.went other apart;
        places = λ honest other apart. (
            let one = others.places honest other apart in
            let two = (gives (mid_tells honest)).others other apart in
            record { disk = same_twice _ _ _ one.disk two.disk; out = two.out ∙ one.out });
      };
      list = λ honest other apart. (gives (mid_tells honest)).list other ∙ list honest other apart;
      home = λ honest. (gives (mid_tells (sym (counts.honest ∙ others.counts.honest) ∙ honest))).back;
    }

-- so no disk is out where none was
pub all_home : (c : NamedCore) → KeepsRest c → AreHome c.old → AreHome c.new
all_home c rest home other honest =
    let told = sym rest.others.counts.honest ∙ honest in
    elim (cases_Bool (bytes_eq c.id other)) [
      | inl same ↦ subst (λ (id : List ℕ). c.new.out id ≡ false) ((bytes_eq-Decides c.id other).0 same) (rest.home honest)
      | inr apart ↦ (rest.others.places told other apart).out ∙ home other told
    ]

-- where the count of faults of the core's disk rose since it was opened, the shelf's did
pub rose_in : (c : NamedCore) (mid : ShelfView) (store core : ℕ) (now : DiskView) → Counts c.old mid → mid.went c.id ≡ store → store ≤ core
    → CountsIn now c.id mid c.new → Counts mid c.new → Rose core now.faults → Rose c.old.faults c.new.faults
rose_in c mid store core now before went on came counts rose =
    rose_within c.old.faults mid.faults c.new.faults c.new.faults before.faults
    (came.rises (rose_within (mid.went c.id) core now.faults now.faults (omega (arith, went, on)) rose (omega arith))) (omega arith)

module _ {D A : Type 0} (disk : D → DiskView) (authority : A → List ℕ → List ℕ → Bool) (c : NamedCore) (tells : IsTrue c.old.honest → IsTrue (c.old.disk c.id).honest) where
  -- ---- it was opened

  module _ (mid : ShelfView) (core : Cored D A) (taken : TakesOut disk (disk_under disk) (IsOpenedOn disk authority c.accepts c.id) c.id c.old mid core) where
    -- the disk that was taken out tells, and stands for what the shelf's did
    pub taken_tells : IsTrue c.old.honest → IsTrue (disk taken.store).honest
    taken_tells honest = (taken.was honest).honest ∙ tells honest

    pub taken_stands : (m : Content) → StoodFor c m → StandsFor c.accepts c.id (disk taken.store).reads m
    taken_stands m stood = same_reads _ _ _ _ m (taken.was stood.honest) stood.reads

    -- what it shows are its areas' head, nodes and blocks
    is_shown : IsTrue c.old.honest → content_in ((c.old.disk c.id).reads BlocksArea) (opened_of core.store.hand) ≡ shown disk core
    is_shown honest =
        let told = area_told (disk core.store.disk) (taken.says.leaves.honest ∙ taken_tells honest) in
        ap (λ (area : List ℕ). content_in area (opened_of core.store.hand)) (sym (told ∙ taken.says.leaves.blocks (taken_tells honest) ∙ (taken.was honest).reads BlocksArea))

    pub is_opened : (IsTrue c.old.honest → IsRefused {C = Cored D A} NoCore (c.old.marked c.id ≡ false) (Ok core)) → IsOpened c (shown disk core)
    is_opened refused = record {
      listed = λ honest. true_from_ne_false (c.old.marked c.id)
          (λ no. let never : Ok core ≡ Err NoCore = (refused honest).1 (no, λ (e : Ok core ≡ Err (Core StoreFault)). absurd cc) in absurd cc);
      accepted = taken.says.signed;
      gave = λ honest. (
        core.place,
        core.store.hand,
        subst (λ (areas : Areas). OpensStore c.accepts c.id areas (Ok (core.place, core.store.hand))) (fun_ext (taken.was honest).reads) (taken.says.opens (taken_tells honest)),
        is_shown honest,
      );
    }

    pub shows : (m : Content) → StoodFor c m → shown disk core ≡ m
    shows m stood = taken.says.content m (taken_tells stood.honest) (taken_stands m stood)

    -- the core stands where the shelf's disk stood for a content
    pub core_stands : (m : Content) → StoodFor c m → IsTrue (state_of disk authority core).stands
    core_stands m stood =
        let for = taken_stands m stood in
        let honest = taken.says.leaves.honest ∙ taken_tells stood.honest in
        let area = area_told (disk core.store.disk) honest ∙ taken.says.leaves.blocks (taken_tells stood.honest) in
        let whole : is_whole (authority core.auth) (shown disk core) ≡ true = subst (λ (f : List ℕ → List ℕ → Bool). is_whole f (shown disk core) ≡ true) (sym taken.says.by)
        (subst (λ (n : Content). is_whole c.accepts n ≡ true) (sym (shows m stood)) (told_whole c.accepts m for.whole)) in
        let blocks : has_blocks (blocks_area (disk core.store.disk)) (shown disk core) ≡ true = subst (λ (n : Content). has_blocks (blocks_area (disk core.store.disk)) n ≡ true) (sym (shows m stood))
        (told_has (blocks_area (disk core.store.disk)) m (subst (λ (bytes : List ℕ). HasBlocks bytes m) (sym area) for.blocks)) in
        and_from _ _ honest (and_from _ _ whole blocks)

  -- it was, and then it was only read: its disk stands firmly, back on the shelf, for what it did before
  module _ (stays : (d : D) → IsTrue (disk d).honest → MayStay (disk d)) (mid : ShelfView) (core now : Cored D A)
      (taken : TakesOut disk (disk_under disk) (IsOpenedOn disk authority c.accepts c.id) c.id c.old mid core) where
    pub reading_keeps : OnlyReads disk core now → (IsTrue c.old.honest → SameDisk (disk_under disk now) (c.new.disk c.id)) → KeepsContent c
    reading_keeps reads here m honest firm =
        let was = same_firmly c.accepts c.id _ _ m (taken.was honest) firm in
        let opened = taken.says.leaves.honest ∙ was.honest in
        let stood = firmly c.accepts c.id (disk core.store.disk) core.place m opened (stays core.store.disk opened) (taken.says.firm m was.honest was.reads) in
        same_firmly _ _ _ _ m (here honest) (kept_firmly c.accepts c.id (disk core.store.disk) (disk now.store.disk) m reads.honest (reads.keeps opened) stood)

  -- ---- it wasn't

  module _ (stays : (d : D) → IsTrue (disk d).honest → MayStay (disk d)) where
    keeps_content : (fault : CoreFault) → Opens {C = Cored D A} disk (disk_under disk) (IsOpenedOn disk authority c.accepts c.id) (IsNotOpened c.accepts c.id) c.id c.old c.new (Err fault)
        → KeepsContent c
    keeps_content fault told m honest firm = elim told [
      | inl at_once ↦ same_firmly _ _ _ _ m (at_once.stays honest).place.disk firm
      | inr back ↦ (
          let taken = same_firmly c.accepts c.id _ _ m (back.was honest) firm in
          let left = left_firm c.accepts c.id (disk back.store) (disk back.back) m back.says.leaves (stays back.back (back.says.leaves.honest ∙ taken.honest)) taken in
          same_firmly _ _ _ _ m (back.here honest) left)
    ]

    unfit : (fault : CoreFault) → (fault ≡ Memory → ⊥) → (fault ≡ StoreFault → ⊥)
        → Opens {C = Cored D A} disk (disk_under disk) (IsOpenedOn disk authority c.accepts c.id) (IsNotOpened c.accepts c.id) c.id c.old c.new (Err fault)
        → (IsTrue c.old.honest → IsRefused {C = Cored D A} NoCore (c.old.marked c.id ≡ false) (Err (Core fault))) → IsUnfit c fault
    unfit fault memory store told refused = elim told [
      | inl at_once ↦ absurd (elim at_once.why [ inl s ↦ store s | inr m ↦ memory m ])
      | inr back ↦ record {
        listed = λ honest. true_from_ne_false (c.old.marked c.id) (λ no.
            let same = err_same (Core fault) NoCore ((refused honest).1 (no, λ e. let kept = err_same (Core fault) (Core StoreFault) e in store cc)) in absurd cc);
        opens = λ honest. subst (λ (areas : Areas). OpensStore c.accepts c.id areas (Err fault)) (fun_ext (back.was honest).reads)
            (back.says.opens ((back.was honest).honest ∙ tells honest));
        none = λ m stood. elim (back.says.gives m ((back.was stood.honest).honest ∙ tells stood.honest) (same_reads _ _ _ _ m (back.was stood.honest) stood.reads)) [
          | inl m ↦ memory m
          | inr s ↦ store s
        ];
      }
    ]

    -- opening it was refused
    pub refuses_opening : (fault : NamedFault)
        → RefusesOr {C = Cored D A} NoCore (IsTrue c.old.honest → Stays c.id c.old c.new)
        (Opens disk (disk_under disk) (IsOpenedOn disk authority c.accepts c.id) (IsNotOpened c.accepts c.id) c.id c.old c.new) (Err fault)
        → (IsTrue c.old.honest → IsRefused {C = Cored D A} NoCore (c.old.marked c.id ≡ false) (Err fault))
        → (IsErrOf {T = Cored D A} (Err fault) (Core StoreFault) → Rose c.old.faults c.new.faults) → RefusesOpening c (named_end fault)
    refuses_opening NoCore told refused cause = (λ honest. ((refused honest).0 refl).0, λ m honest firm. same_firmly _ _ _ _ m (told.1 honest).place.disk firm)
    refuses_opening CoreExists told refused cause = let never = told.0 in absurd cc
    refuses_opening (Core Memory) told refused cause = keeps_content Memory told
    refuses_opening (Core (Broken count)) told refused cause = keeps_content (Broken count) told
    refuses_opening (Core BookFull) told refused cause = keeps_content BookFull told
    refuses_opening (Core StoreFault) told refused cause = (cause refl, keeps_content StoreFault told)
    refuses_opening (Core (BadStore area at)) told refused cause = unfit (BadStore area at) (λ e. cc) (λ e. cc) told refused
    refuses_opening (Core (Damaged place want have)) told refused cause = unfit (Damaged place want have) (λ e. cc) (λ e. cc) told refused
    refuses_opening (Core BadSignature) told refused cause = unfit BadSignature (λ e. cc) (λ e. cc) told refused
    refuses_opening (Core (OutOfRange end)) told refused cause = keeps_content (OutOfRange end) told
    refuses_opening (Core (Unavailable index)) told refused cause = keeps_content (Unavailable index) told
    refuses_opening (Core (NoNode index)) told refused cause = keeps_content (NoNode index) told
    refuses_opening (Core (NoByte byte)) told refused cause = keeps_content (NoByte byte) told
    refuses_opening (Core NoReply) told refused cause = keeps_content NoReply told
    refuses_opening (Core (OldFork have)) told refused cause = keeps_content (OldFork have) told
    refuses_opening (Core (Limit what max)) told refused cause = keeps_content (Limit what max) told
    refuses_opening (Core (Refused refusal)) told refused cause = keeps_content (Refused refusal) told

-- ---- what a disk stands firmly for

-- an opening that is refused keeps it
pub refusal_keeps : (c : NamedCore) (outcome : Outcome) → RefusesOpening c outcome → KeepsContent c
refusal_keeps c NoCoreEnd why = why.1
refusal_keeps c StoreFaultEnd why = why.1
refusal_keeps c (BadStoreEnd area at) why = λ m honest firm. absurd (why.none m (record { honest = honest; reads = firm.reads }))
refusal_keeps c (DamagedEnd place want have) why = λ m honest firm. absurd (why.none m (record { honest = honest; reads = firm.reads }))
refusal_keeps c BadSignatureEnd why = λ m honest firm. absurd (why.none m (record { honest = honest; reads = firm.reads }))
refusal_keeps c NoMemory why = why
refusal_keeps c other why = absurd why
