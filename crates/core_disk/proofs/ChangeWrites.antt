-- What each exit of a change owes, from what its calls of the disk did.
use Rattle.std.proofs.Common.{◌≡◌, ◌⊎◌, inl, inr, ℕ, ◌<◌, ◌≤◌, List, ◌∷◌, [], ◌++◌, length, Option, None, Some, Result, Ok, Err, OnOk, refl, sym, ◌∙◌, subst, arith, length-append}
use Rattle.std.specs.Prelude.{IsTrue}
use Rattle.std.proofs.lemmas.Bool.{cases_lt}
use Rattle.disk_trait.specs.declared.disk.Area.{Area}
use Rattle.disk_trait.specs.declared.disk.Area.TheVariants.{Oplog, Tree, BitsA, BitsB, Blocks as BlocksArea}
use Rattle.disk_trait.specs.Disk.{DiskView, Elapses, Rests, Torn, Keeps, Writes, Syncs, MayStay, overlay}
use Rattle.disk_trait.specs.Overlays.{torn_none}
use Rattle.disk_trait.proofs.Runs.{elapses_on, keeps_none, touches_keeps}
use Rattle.oplog_form.specs.declared.entry.Entry.{Entry}
use Rattle.oplog_form.specs.Entries.{EntryFits, entry_spelling}
use Rattle.oplog_form.specs.Heads.{head_spelling}
use Rattle.oplog_form.specs.Nodes.{records_spelling}
use Rattle.oplog_form.specs.Commits.{commit_spelling}
use Rattle.compact_enc.specs.Spelling.{uint_spelling}
use Rattle.oplog_file.specs.Files.{File, IsFile, next_frame, NoChance}
use Rattle.oplog_file.specs.Writers.{IsFirmFile, IsTrim, AddsEntry, with_entry}
use Rattle.oplog_file.proofs.WriteLaws.{keeps_touches}
use Rattle.core_disk.specs.Plans.{Part, bytes_in, laid, TornBy}
use Rattle.core_disk.specs.Firm.{IsBefore, IsAfter, IsCommitted, WritesChange}
use Rattle.core_disk.specs.Bringing.{LeavesLaid, Brings}

-- an entry's spelling has some bytes, as its head has a signature
pub entry_some : (e : Entry) → EntryFits e → 0 < length (entry_spelling e)
unfolding entry_spelling
entry_some e fits =
    omega (
      arith,
      length-append (commit_spelling e.commit) (head_spelling e.head ++ records_spelling e.records),
      length-append (head_spelling e.head) (records_spelling e.records),
      length-append (uint_spelling e.head.fork) (uint_spelling e.head.length ++ e.head.signature),
      length-append (uint_spelling e.head.length) e.head.signature,
      fits.head.signature,
    )

-- nothing was written
torn_same : (part : Option Part) (area : List ℕ) → TornBy part area area
torn_same None area = refl
torn_same (Some part) area = torn_none part.at (length part.bytes) area

-- an area rests over two runs of calls where it does over each
rests_on : (area : Area) (old mid new : DiskView) → Elapses old mid → Elapses mid new → Rests area old mid → Rests area mid new → Rests area old new
rests_on area old mid new one two first second = record {
  reads = second.reads ∙ first.reads;
  images = λ t c from to image. elim (cases_lt mid.moment t) [
    | inl after ↦ first.images mid.moment c one.later (omega arith) (second.images t c (omega (arith, after)) to image)
    | inr before ↦ first.images t c from before ((two.past t area c before).0 image)
  ];
}

-- ---- the blocks' bytes

pub brought : {T E S F : Type 0} (at : ℕ) (bytes : List ℕ) (old mid new : DiskView) (x : S) (answer : Result T E) → MayStay old
    → Writes {T = S} {E = F} BlocksArea at bytes old mid (Ok x) → Syncs {T = T} {E = E} BlocksArea mid new answer
    → Brings {T = T} {E = E} (Some (record { at = at; bytes = bytes })) old new answer
brought {T} {E} at bytes old mid new x answer stays writes syncs =
    let now : new.reads BlocksArea ≡ overlay at bytes (old.reads BlocksArea) = (syncs.keeps.each BlocksArea).reads ∙ writes.ok in
    record {
      touches = touches_keeps (Torn at (length bytes)) BlocksArea old mid new writes.touches syncs.keeps;
      whole = on_any answer now;
      images = on_synced answer now syncs.ok;
    }
  where
    on_any : {X : Type 0} (given : Result T E) → X → OnOk given X
    on_any (Ok t) h = h
    on_any (Err e) h = tt

    on_synced : (given : Result T E) → new.reads BlocksArea ≡ overlay at bytes (old.reads BlocksArea)
        → OnOk given ((c : List ℕ) → new.image new.moment BlocksArea c → c ≡ new.reads BlocksArea)
        → OnOk given (LeavesLaid (Some (record { at = at; bytes = bytes })) old new)
    on_synced (Ok t) now synced = λ c image. (old.reads BlocksArea, stays BlocksArea, synced c image ∙ now)
    on_synced (Err e) now synced = tt

pub bring_failed : {T E S F : Type 0} (at : ℕ) (bytes : List ℕ) (old new : DiskView) (e : F) (e' : E)
    → Writes {T = S} {E = F} BlocksArea at bytes old new (Err e)
    → Brings {T = T} {E = E} (Some (record { at = at; bytes = bytes })) old new (Err e')
bring_failed at bytes old new e e' writes = record { touches = writes.touches; whole = tt; images = tt }

-- no byte comes in
pub none_brought : {T E : Type 0} (part : Option Part) (disk : DiskView) (x : T) → bytes_in part ≡ [] → Brings {T = T} {E = E} part disk disk (Ok x)
none_brought part disk x none = record {
  touches = keeps_touches (TornBy part) BlocksArea disk disk (torn_same part) (keeps_none disk);
  whole = same part none (disk.reads BlocksArea);
  images = λ c image. (c, image, same part none c);
}
  where
    same : (p : Option Part) → bytes_in p ≡ [] → (area : List ℕ) → area ≡ laid p area
    same None is area = refl
    same (Some p) is area = rw is refl

-- ---- the whole change

-- no call was made
pub change_refused : {T E : Type 0} (file : File) (part : Option Part) (payload : List ℕ) (disk : DiskView) (e : E)
    → WritesChange {T = T} {E = E} file part payload disk disk (Err e)
change_refused file part payload disk e =
    let keeps : Keeps disk disk = keeps_none disk in
    record {
      time = keeps.time;
      rest = record { tree = keeps.each Tree; bits_a = keeps.each BitsA; bits_b = keeps.each BitsB };
      torn = torn_same part (disk.reads BlocksArea);
      any_moment = λ firm t oplog blocks from to was there chance. inl (record {
        is_file = firm oplog ((keeps.each Oplog).images t oplog from to was);
        base = blocks;
        could = (keeps.each BlocksArea).images t blocks from to there;
        torn = torn_same part blocks;
      });
      ok = λ is trim. tt;
    }

-- a crash before the entry is written
module _ {T E : Type 0} (file : File) (part : Option Part) (old new : DiskView) (answer : Result T E)
    (brings : Brings {T = T} {E = E} part old new answer) where
  before : IsFirmFile file old → (t : ℕ) (oplog blocks : List ℕ) → old.moment ≤ t → t ≤ new.moment → new.image t Oplog oplog → new.image t BlocksArea blocks
      → IsBefore file part old oplog blocks
  before firm t oplog blocks from to was there =
      let taken = brings.touches.here.images t blocks from to there in
      record {
        is_file = firm oplog ((brings.touches.others Oplog refl).images t oplog from to was);
        base = taken.0;
        could = taken.1;
        torn = taken.2;
      }

-- the blocks' bytes failed
pub change_failed : {T E S F : Type 0} (file : File) (part : Option Part) (payload : List ℕ) (old new : DiskView) (e : F) (e' : E)
    → Brings {T = S} {E = F} part old new (Err e)
    → WritesChange {T = T} {E = E} file part payload old new (Err e')
change_failed {T} {E} {S} {F} file part payload old new e e' brings = record {
  time = brings.touches.time;
  rest = record { tree = brings.touches.others Tree refl; bits_a = brings.touches.others BitsA refl; bits_b = brings.touches.others BitsB refl };
  torn = brings.touches.here.reads;
  any_moment = λ firm t oplog blocks from to was there chance.
      inl (before {T = S} {E = F} file part old new (Err e) brings firm t oplog blocks from to was there);
  ok = λ is trim. tt;
}

-- the entry was written behind them
module _ {T E S F : Type 0} (file : File) (part : Option Part) (payload : List ℕ) (old mid new : DiskView) (x : S) (answer : Result T E)
    (brings : Brings {T = S} {E = F} part old mid (Ok x)) (adds : AddsEntry {T = T} {E = E} file payload mid new answer) where
  rests_else : (area : Area) → Rests area old mid → Rests area mid new → Rests area old new
  rests_else area first second = rests_on area old mid new brings.touches.time adds.time first second

  oplog_rests : Rests Oplog old mid
  oplog_rests = brings.touches.others Oplog refl

  blocks_rest : Rests BlocksArea mid new
  blocks_rest = adds.others BlocksArea refl

  firm_between : IsFirmFile file old → IsFirmFile file mid
  firm_between firm c image = firm c (oplog_rests.images mid.moment c brings.touches.time.later (omega arith) image)

  -- a crash once the blocks' bytes are synced
  behind : IsFirmFile file old → (t : ℕ) (oplog blocks : List ℕ) → mid.moment ≤ t → t ≤ new.moment → new.image t Oplog oplog → new.image t BlocksArea blocks
      → NoChance (next_frame file payload ∷ []) (old.reads Oplog) oplog → IsBefore file part old oplog blocks ⊎ IsAfter file part payload old oplog blocks
  behind firm t oplog blocks from to was there chance =
      let stood : mid.image mid.moment BlocksArea blocks = blocks_rest.images t blocks from to there in
      let torn = brings.touches.here.images mid.moment blocks brings.touches.time.later (omega arith) stood in
      let whole = brings.images blocks stood in
      let none : NoChance (next_frame file payload ∷ []) (mid.reads Oplog) oplog =
      subst (λ l. NoChance (next_frame file payload ∷ []) l oplog) (sym oplog_rests.reads) chance in
      elim (adds.any_moment (firm_between firm) t oplog from to was none) [
        | inl without ↦ inl (record { is_file = without; base = torn.0; could = torn.1; torn = torn.2 })
        | inr with_it ↦ inr (record { is_file = with_it; base = whole.0; could = whole.1; written = whole.2 })
      ]

  committed : (given : Result T E)
      → OnOk given (IsFile (new.reads Oplog) (with_entry payload file)
      × IsTrim (with_entry payload file) (new.reads Oplog) × IsFirmFile (with_entry payload file) new)
      → OnOk given (IsCommitted file part payload old new)
  committed (Ok y) h = record {
    is_file = h.0;
    trim = h.1;
    firm_file = h.2;
    reads = blocks_rest.reads ∙ brings.whole;
    blocks = λ c image. brings.images c (blocks_rest.images new.moment c adds.time.later (omega arith) image);
  }
  committed (Err e) h = tt

  change_written : WritesChange {T = T} {E = E} file part payload old new answer
  change_written = record {
    time = elapses_on old mid new brings.touches.time adds.time;
    rest = record {
      tree = rests_else Tree (brings.touches.others Tree refl) (adds.others Tree refl);
      bits_a = rests_else BitsA (brings.touches.others BitsA refl) (adds.others BitsA refl);
      bits_b = rests_else BitsB (brings.touches.others BitsB refl) (adds.others BitsB refl);
    };
    torn = subst (TornBy part (old.reads BlocksArea)) (sym blocks_rest.reads) brings.touches.here.reads;
    any_moment = λ firm t oplog blocks from to was there chance. elim (cases_lt mid.moment t) [
      | inl later ↦ behind firm t oplog blocks (omega (arith, later)) to was there chance
      | inr earlier ↦
          inl (before {T = S} {E = F} file part old mid (Ok x) brings firm t oplog blocks from earlier
          ((adds.time.past t Oplog oplog earlier).0 was) ((adds.time.past t BlocksArea blocks earlier).0 there))
    ];
    ok = λ is trim. committed answer (adds.ok (subst (λ l. IsFile l file) (sym oplog_rests.reads) is) (subst (IsTrim file) (sym oplog_rests.reads) trim));
  }

-- the same with the entry's spelling in the room that it was written from
pub change_made : {T E S F : Type 0} (file : File) (part : Option Part) (payload bytes : List ℕ) (old mid new : DiskView) (x : S) (answer : Result T E)
    → bytes ≡ payload
    → Brings {T = S} {E = F} part old mid (Ok x) → AddsEntry {T = T} {E = E} file bytes mid new answer
    → WritesChange {T = T} {E = E} file part payload old new answer
change_made {T} {E} {S} {F} file part payload bytes old mid new x answer same brings adds =
    change_written {T = T} {E = E} {S = S} {F = F} file part payload old mid new x answer brings
    (subst (λ l. AddsEntry {T = T} {E = E} file l mid new answer) same adds)

-- what was written to a disk was written to each that equals it
pub change_from : {D T E : Type 0} (disk : D → DiskView) (file : File) (part : Option Part) (payload : List ℕ) (old now : D) (new : DiskView)
    (answer : Result T E) → now ≡ old → IsTrue (disk old).honest
    → (IsTrue (disk now).honest → WritesChange {T = T} {E = E} file part payload (disk now) new answer)
    → WritesChange {T = T} {E = E} file part payload (disk old) new answer
change_from {T = T} {E = E} disk file part payload old now new answer same honest writes =
    subst (λ d. WritesChange {T = T} {E = E} file part payload (disk d) new answer) same (writes (subst (λ d. IsTrue (disk d).honest) (sym same) honest))
