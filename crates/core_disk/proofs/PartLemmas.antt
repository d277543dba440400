-- Calls of a disk one after the other when a core's disk is opened, and that it is firm then.
use Rattle.std.proofs.Common.{◌≡◌, inl, inr, ℕ, ◌+◌, ◌<◌, ◌≤◌, Bool, false, List, Result, Ok, Err, IfOk, OnOk, refl, sym, ap, subst, ◌∙◌, arith}
use Rattle.std.proofs.lemmas.Bool.{cases_Bool, cases_lt}
use mathlib.Core.Path.{fun_ext}
use Rattle.outside_traits.specs.Faults.{count_fault}
use Rattle.disk_trait.specs.declared.disk.Area.{Area}
use Rattle.disk_trait.specs.declared.disk.Area.TheVariants.{Oplog, Tree, BitsA, BitsB, Blocks as BlocksArea}
use Rattle.disk_trait.specs.Disk.{DiskView, is_same, Elapses, Rests, Keeps, Cuts, IsSynced, IsSettled}
use Rattle.disk_trait.specs.Runs.{LeavesOnly}
use Rattle.disk_trait.specs.Stays.{same_area}
use Rattle.disk_trait.proofs.Runs.{elapses_on, rests_synced}
use Rattle.node_set.specs.declared.fault.CoreFault.{CoreFault}
use Rattle.node_set.specs.declared.fault.CoreFault.TheVariants.{StoreFault}
use Rattle.node_set.specs.Contents.{Content}
use Rattle.oplog_file.specs.Files.{File, IsFile}
use Rattle.oplog_file.specs.Passing.{Consults}
use Rattle.oplog_file.specs.Storing.{Calls}
use Rattle.oplog_file.specs.Writers.{Place, IsBehind, IsTrim, IsFirmFile, CutsTail, MakesFile}
use Rattle.core_disk.specs.Areas.{Areas}
use Rattle.core_disk.specs.InHand.{InHand}
use Rattle.core_disk.specs.Standing.{HasBlocks, StandsFor}
use Rattle.core_disk.specs.Firm.{IsFirmFor}
use Rattle.core_disk.specs.Parts.{KeepsCounts, turn_of, AreSynced, IsCleared, AreCleared, HasNewFile, StayOrStand}
use Rattle.core_disk.proofs.StandingLaws.{file_gives_same}

-- ---- counts

pub consults_count : {T : Type 0} (old new : DiskView) (r : Result T CoreFault) → Consults {T = T} old new r → KeepsCounts {T = T} old new r
consults_count old new r one = record { honest = one.honest; kept = one.kept; rose = one.rose }

pub calls_count : {T : Type 0} (most : ℕ) (old new : DiskView) (r : Result T CoreFault) → Calls {T = T} most old new r → KeepsCounts {T = T} old new r
calls_count most old new r one = record { honest = one.honest; kept = one.kept; rose = one.rose }

pub counts_then : {T S : Type 0} (old mid new : DiskView) (first : Result T CoreFault) (second : Result S CoreFault) → KeepsCounts {T = T} old mid first
    → KeepsCounts {T = S} mid new second → KeepsCounts {T = S} old new second
counts_then old mid new first second one other = record {
  honest = other.honest ∙ one.honest;
  kept = omega (arith, one.kept, other.kept);
  rose = λ is. let here : count_fault mid.faults ≤ new.faults = other.rose is in omega (arith, one.kept, here);
}

-- a fault that is passed on
pub counts_err : {T S : Type 0} (old new : DiskView) (fault : CoreFault) → KeepsCounts {T = T} old new (Err fault) → KeepsCounts {T = S} old new (Err fault)
counts_err old new fault one = record {
  honest = one.honest;
  kept = one.kept;
  rose = λ is. let same : fault ≡ StoreFault = cc in one.rose (ap (λ (f : CoreFault). Err f) same);
}

-- an answer that is passed on
pub consults_ok : {T S : Type 0} (old new : DiskView) (x : T) (y : S) → Consults {T = T} old new (Ok x) → Consults {T = S} old new (Ok y)
consults_ok old new x y one = record { honest = one.honest; kept = one.kept; rose = λ is. absurd (cc); keeps = one.keeps }

pub consults_err : {T S : Type 0} (old new : DiskView) (fault : CoreFault) → Consults {T = T} old new (Err fault) → Consults {T = S} old new (Err fault)
consults_err old new fault one = record {
  honest = one.honest;
  kept = one.kept;
  rose = λ is. let same : fault ≡ StoreFault = cc in one.rose (ap (λ (f : CoreFault). Err f) same);
  keeps = one.keeps;
}

-- ---- areas that rest

pub rests_on : (area : Area) (old mid new : DiskView) → Elapses old mid → Elapses mid new → Rests area old mid → Rests area mid new → Rests area old new
rests_on area old mid new early late first second = record {
  reads = second.reads ∙ first.reads;
  images = λ t c from to image. elim (cases_lt mid.moment t) [
    | inr le ↦ first.images t c from le ((late.past t area c le).0 image)
    | inl lt ↦ first.images mid.moment c early.later (omega arith) (second.images t c (omega (arith, lt)) to image)
  ];
}

pub reads_same : (old new : DiskView) → Keeps old new → new.reads ≡ old.reads
reads_same old new keeps = fun_ext (λ area. (keeps.each area).reads)

-- a tail is cut, and then the disk is only read
pub cut_then : {S : Type 0} (file : File) (old mid new : DiskView) (x : Unit {0}) (r : Result S CoreFault)
    → CutsTail {T = Unit {0}} {E = CoreFault} file old mid (Ok x) → Keeps mid new → CutsTail {T = S} {E = CoreFault} file old new r
cut_then file old mid new x r cuts keeps = record {
  time = elapses_on old mid new cuts.time keeps.time;
  others = λ other apart. rests_on other old mid new cuts.time keeps.time (cuts.others other apart) (keeps.each other);
  any_moment = λ firm t c from to image. elim (cases_lt mid.moment t) [
    | inr le ↦ cuts.any_moment firm t c from le ((keeps.time.past t Oplog c le).0 image)
    | inl lt ↦ cuts.any_moment firm mid.moment c cuts.time.later (omega arith) ((keeps.each Oplog).images t c (omega (arith, lt)) to image)
  ];
  ok = λ is. on_any r (there (cuts.ok is));
}
  where
    on_any : {S X : Type 0} (r : Result S CoreFault) → X → OnOk r X
    on_any (Ok y) x = x
    on_any (Err fault) x = tt

    there : IsFile (mid.reads Oplog) file × IsTrim file (mid.reads Oplog) × IsFirmFile file mid
        → IsFile (new.reads Oplog) file × IsTrim file (new.reads Oplog) × IsFirmFile file new
    there cut =
        let same = sym (keeps.each Oplog).reads in (
          subst (λ (area : List ℕ). IsFile area file) same cut.0,
          subst (λ (area : List ℕ). IsTrim file area) same cut.1,
          λ c image. cut.2 c ((keeps.each Oplog).images new.moment c keeps.time.later (omega arith) image),
        )

pub cut_failed : {S : Type 0} (file : File) (old new : DiskView) (fault : CoreFault) → CutsTail {T = Unit {0}} {E = CoreFault} file old new (Err fault)
    → CutsTail {T = S} {E = CoreFault} file old new (Err fault)
cut_failed file old new fault cuts = record { time = cuts.time; others = cuts.others; any_moment = cuts.any_moment; ok = λ is. tt }

-- ---- each area is synced

pub all_synced : (turn : ℕ) (disk : DiskView) → 5 ≤ turn → AreSynced turn disk → IsSettled disk
all_synced turn disk all synced Oplog = synced Oplog (omega (arith, all))
all_synced turn disk all synced Tree = synced Tree (omega (arith, all))
all_synced turn disk all synced BitsA = synced BitsA (omega (arith, all))
all_synced turn disk all synced BitsB = synced BitsB (omega (arith, all))
all_synced turn disk all synced BlocksArea = synced BlocksArea (omega (arith, all))

-- an area with an earlier turn is another one
other_area : (area other : Area) → turn_of other < turn_of area → is_same area other ≡ false
other_area area other less = elim (cases_Bool (is_same area other)) [
  | inr apart ↦ apart
  | inl same ↦ absurd (omega (arith, less, ap turn_of (same_area area other same)))
]

-- what holds of the areas whose turn was, and stays so, and holds of the one whose turn it is, holds of one more
pub turn_more : (turn : ℕ) (area : Area) (Before After : Area → Type 0) → turn_of area ≡ turn → ((other : Area) → turn_of other ≡ turn → area ≡ other)
    → ((other : Area) → is_same area other ≡ false → Before other → After other) → After area → ((other : Area) → turn_of other < turn → Before other)
    → (other : Area) → turn_of other < turn + 1 → After other
turn_more turn area Before After here only stays done so_far other less = elim (cases_lt (turn_of other) turn) [
  | inl before ↦ stays other (other_area area other (omega (arith, before, here))) (so_far other before)
  | inr after ↦ subst After (only other (omega (arith, less, after))) done
]

-- an area that rests stays cleared
pub rests_cleared : (area : Area) (old new : DiskView) → old.moment ≤ new.moment → Rests area old new → IsCleared area old → IsCleared area new
rests_cleared area old new later rests cleared = record { synced = rests_synced area old new later rests cleared.synced; empty = rests.reads ∙ cleared.empty }

-- an area is cut to nothing and synced
pub is_cleared : {T E S F : Type 0} (area : Area) (old mid new : DiskView) (x : T) (r : Result S F) → Cuts {T = T} {E = E} area 0 old mid (Ok x) → Keeps mid new
    → OnOk r (IsSynced area new) → OnOk r (IsCleared area new)
is_cleared area old mid new x (Err fault) cuts keeps synced = tt
is_cleared area old mid new x (Ok y) cuts keeps synced = record { synced = synced; empty = (keeps.each area).reads ∙ cuts.ok }

-- the change file is made while the other areas are cleared
pub has_new_file : (payload : List ℕ) (mid new : DiskView) (r : Result Place CoreFault) → MakesFile {T = Place} {E = CoreFault} payload mid new r
    → AreCleared (turn_of Oplog) mid → OnOk r (HasNewFile payload new)
has_new_file payload mid new (Err fault) makes cleared = tt
has_new_file payload mid new (Ok place) makes cleared = record {
  is_file = makes.ok.0;
  trim = makes.ok.1;
  firm_file = makes.ok.2;
  cleared = λ area less. rests_cleared area mid new makes.time.later (makes.others area (other_area Oplog area less)) (cleared area less);
}

-- ---- the disk is firm

module _ (accepts : List ℕ → List ℕ → Bool) (id : List ℕ) (old new : DiskView) (m : Content) (stands : StandsFor accepts id old.reads m) (settled : IsSettled old)
    (time : Elapses old new) (others : (other : Area) → is_same Oplog other ≡ false → Rests other old new) where
  stays_synced : (area : Area) → is_same Oplog area ≡ false → IsSynced area new
  stays_synced area apart = rests_synced area old new time.later (others area apart) (settled area)

  pub is_firm : (place : Place) → IsBehind place stands.file → IsFile (new.reads Oplog) stands.file → IsTrim stands.file (new.reads Oplog) → IsFirmFile stands.file new
      → IsFirmFor accepts id new place m
  is_firm place behind is_file trim firm = record {
    whole = stands.whole;
    file = stands.file;
    behind = behind;
    is_file = is_file;
    trim = trim;
    firm_file = firm;
    opened = stands.opened;
    gives = file_gives_same id old.reads new.reads stands.file (record { tree = (others Tree refl).reads; bits_a = (others BitsA refl).reads; bits_b = (others BitsB refl).reads })
        ∙ stands.gives;
    opened_as = stands.opened_as;
    blocks = λ c image. subst (λ (area : List ℕ). HasBlocks area m) (sym (stays_synced BlocksArea refl c image ∙ (others BlocksArea refl).reads)) stands.blocks;
    tree = stays_synced Tree refl;
    bits_a = stays_synced BitsA refl;
    bits_b = stays_synced BitsB refl;
  }

-- the disk was settled, was read, and then the tail was cut
pub firm_loaded : (accepts : List ℕ → List ℕ → Bool) (id : List ℕ) (old mid new : DiskView) (m : Content) (stands : StandsFor accepts id old.reads m) → IsSettled old
    → Keeps old mid → (place : Place) → IsBehind place stands.file → (r : Result (Place × InHand) CoreFault)
    → CutsTail {T = Place × InHand} {E = CoreFault} stands.file mid new r → IfOk r (λ opened. opened.0 ≡ place)
    → IfOk r (λ opened. IsFirmFor accepts id new opened.0 m)
firm_loaded accepts id old mid new m stands settled keeps place behind (Err fault) cuts same = tt
firm_loaded accepts id old mid new m stands settled keeps place behind (Ok opened) cuts same =
    let cut = cuts.ok (subst (λ (area : List ℕ). IsFile area stands.file) (sym (keeps.each Oplog).reads) stands.is_file) in
    let time = elapses_on old mid new keeps.time cuts.time in
    let others : (other : Area) → is_same Oplog other ≡ false → Rests other old new =
    λ other apart. rests_on other old mid new keeps.time cuts.time (keeps.each other) (cuts.others other apart) in
    subst (λ (p : Place). IsFirmFor accepts id new p m) (sym same) (is_firm accepts id old new m stands settled time others place behind cut.0 cut.1 cut.2)

-- ---- a crash while it is opened

-- areas with the same file, and else as they were
stands_like : (accepts : List ℕ → List ℕ → Bool) (id : List ℕ) (areas now : Areas) (m : Content) (stands : StandsFor accepts id areas m)
    → IsFile (now Oplog) stands.file → ((area : Area) → is_same Oplog area ≡ false → now area ≡ areas area) → StandsFor accepts id now m
stands_like accepts id areas now m stands is_file same = record {
  whole = stands.whole;
  file = stands.file;
  is_file = is_file;
  opened = stands.opened;
  gives = file_gives_same id areas now stands.file (record { tree = same Tree refl; bits_a = same BitsA refl; bits_b = same BitsB refl }) ∙ stands.gives;
  opened_as = stands.opened_as;
  blocks = subst (λ (area : List ℕ). HasBlocks area m) (sym (same BlocksArea refl)) stands.blocks;
}

module _ (accepts : List ℕ → List ℕ → Bool) (id : List ℕ) (old mid : DiskView) (m : Content) (stands : StandsFor accepts id old.reads m) (settled : IsSettled old)
    (keeps : Keeps old mid) where
  -- what a crash leaves while the disk is read
  rests_here : (area : Area) (t : ℕ) (c : List ℕ) → old.moment ≤ t → t ≤ mid.moment → mid.image t area c → c ≡ old.reads area
  rests_here area t c from to image = settled area c ((keeps.each area).images t c from to image)

  pub stands_read : LeavesOnly old mid (λ areas. StandsFor accepts id areas m)
  stands_read = record {
    time = keeps.time;
    each = λ t areas from to image.
        stands_like accepts id old.reads areas m stands
        (subst (λ (area : List ℕ). IsFile area stands.file) (sym (rests_here Oplog t (areas Oplog) from to (image Oplog))) stands.is_file)
        (λ area apart. rests_here area t (areas area) from to (image area));
  }

  -- and then its tail is cut
  pub stands_cut : {S : Type 0} (new : DiskView) (r : Result S CoreFault) → CutsTail {T = S} {E = CoreFault} stands.file mid new r
      → LeavesOnly old new (λ areas. StandsFor accepts id areas m)
  stands_cut new r cuts = record {
    time = elapses_on old mid new keeps.time cuts.time;
    each = λ t areas from to image. elim (cases_lt mid.moment t) [
      | inr le ↦ stands_read.each t areas from le (λ area. (cuts.time.past t area (areas area) le).0 (image area))
      | inl lt ↦
          stands_like accepts id old.reads areas m stands
          (cuts.any_moment
          (λ c here. subst (λ (area : List ℕ). IsFile area stands.file) (sym (rests_here Oplog mid.moment c keeps.time.later (omega arith) here)) stands.is_file)
          t (areas Oplog) (omega (arith, lt)) to (image Oplog))
          (λ area apart. rests_here area mid.moment (areas area) keeps.time.later (omega arith) ((cuts.others area apart).images t (areas area) (omega (arith, lt)) to (image area)))
    ];
  }

-- before it was settled, a crash leaves what it could before
pub stays_or_stands : (accepts : List ℕ → List ℕ → Bool) (id : List ℕ) (old mid new : DiskView) (m : Content) → Keeps old mid
    → LeavesOnly mid new (λ areas. StandsFor accepts id areas m) → LeavesOnly old new (StayOrStand accepts id old m)
stays_or_stands accepts id old mid new m keeps leaves = record {
  time = elapses_on old mid new keeps.time leaves.time;
  each = λ t areas from to image. elim (cases_lt mid.moment t) [
    | inr le ↦ inl (λ area. (keeps.each area).images t (areas area) from le ((leaves.time.past t area (areas area) le).0 (image area)))
    | inl lt ↦ inr (leaves.each t areas (omega (arith, lt)) to image)
  ];
}

pub stays_read : (accepts : List ℕ → List ℕ → Bool) (id : List ℕ) (old new : DiskView) (m : Content) → Keeps old new → LeavesOnly old new (StayOrStand accepts id old m)
stays_read accepts id old new m keeps = record {
  time = keeps.time;
  each = λ t areas from to image. inl (λ area. (keeps.each area).images t (areas area) from to (image area));
}
