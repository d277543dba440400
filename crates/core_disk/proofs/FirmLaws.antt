-- What a firm disk stands for, and what a change of its content leaves of it.
use Rattle.std.proofs.lemmas.Bool.{cases_lt}
use Rattle.std.proofs.Common.{◌≡◌, ◌⊎◌, inl, inr, ℕ, ◌≤◌, Bool, List, [], ◌∷◌, Option, Result, Ok, Err, OnOk, sym, ap, ◌∙◌, subst, arith}
use Rattle.disk_trait.specs.declared.disk.Area.TheVariants.{Oplog, Tree, BitsA, BitsB, Blocks as BlocksArea}
use Rattle.disk_trait.specs.Disk.{DiskView, Keeps, IsSynced, IsImage, MayStay}
use Rattle.disk_trait.proofs.Runs.{elapses_on, rests_synced}
use Rattle.commit_book.specs.declared.commit.Commit.{Commit}
use Rattle.oplog_form.specs.declared.entry.Entry.{Entry}
use Rattle.oplog_form.specs.Entries.{entry_spelling}
use Rattle.oplog_file.specs.Files.{File, IsFile, next_frame, NoChance}
use Rattle.oplog_file.specs.Writers.{Place, IsBehind, Stands, IsTrim, with_entry}
use Rattle.node_set.specs.Contents.{Content}
use Rattle.core_disk.specs.Areas.{Areas, file_gives}
use Rattle.core_disk.specs.Standing.{HasBlocks, StandsFor, LeavesRest}
use Rattle.core_disk.specs.Plans.{Part, laid, Plans}
use Rattle.core_disk.specs.Firm.{IsFirmFor, RestsElse, IsCommitted, WritesChange, Commits}
use Rattle.core_disk.specs.Changing.{MakesChange, IsLeftBetween}
use Rattle.core_disk.proofs.StandingLaws.{file_gives_same, same_file, entry_stands}

-- where the rest stays synced, each image since then has it as it reads
rest_read : (old new : DiskView) → RestsElse old new → IsSynced Tree old → IsSynced BitsA old → IsSynced BitsB old
    → (t : ℕ) (areas : Areas) → old.moment ≤ t → t ≤ new.moment → IsImage new t areas → LeavesRest old.reads areas
rest_read old new rest tree bits_a bits_b t areas from to image = record {
  tree = tree (areas Tree) (rest.tree.images t (areas Tree) from to (image Tree));
  bits_a = bits_a (areas BitsA) (rest.bits_a.images t (areas BitsA) from to (image BitsA));
  bits_b = bits_b (areas BitsB) (rest.bits_b.images t (areas BitsB) from to (image BitsB));
}

rest_now : (old new : DiskView) → RestsElse old new → LeavesRest old.reads new.reads
rest_now old new rest = record { tree = rest.tree.reads; bits_a = rest.bits_a.reads; bits_b = rest.bits_b.reads }

keeps_else : (old new : DiskView) → Keeps old new → RestsElse old new
keeps_else old new keeps = record { tree = keeps.each Tree; bits_a = keeps.each BitsA; bits_b = keeps.each BitsB }

module _ (accepts : List ℕ → List ℕ → Bool) (id : List ℕ) (old : DiskView) (place : Place) (m : Content) (firm : IsFirmFor accepts id old place m) where
  -- areas that have the file, the rest as it reads, and the held blocks
  stands_with : (areas : Areas) → LeavesRest old.reads areas → IsFile (areas Oplog) firm.file → HasBlocks (areas BlocksArea) m → StandsFor accepts id areas m
  stands_with areas leaves is_file blocks = record {
    whole = firm.whole;
    file = firm.file;
    is_file = is_file;
    opened = firm.opened;
    gives = file_gives_same id old.reads areas firm.file leaves ∙ firm.gives;
    opened_as = firm.opened_as;
    blocks = blocks;
  }

  pub firm_stands : (areas : Areas) → IsImage old old.moment areas → StandsFor accepts id areas m
  firm_stands areas image =
      let leaves : LeavesRest old.reads areas = record {
        tree = firm.tree (areas Tree) (image Tree);
        bits_a = firm.bits_a (areas BitsA) (image BitsA);
        bits_b = firm.bits_b (areas BitsB) (image BitsB);
      } in
      stands_with areas leaves (firm.firm_file (areas Oplog) (image Oplog)) (firm.blocks (areas BlocksArea) (image BlocksArea))

  -- a place that stays
  pub firm_there : (now : Place) → Stands place now → IsFirmFor accepts id old now m
  firm_there now stands = record {
    whole = firm.whole;
    file = firm.file;
    behind = record {
      epoch = stands.epoch ∙ firm.behind.epoch;
      count = stands.count ∙ firm.behind.count;
      used = stands.used ∙ firm.behind.used;
    };
    is_file = firm.is_file;
    trim = firm.trim;
    firm_file = firm.firm_file;
    opened = firm.opened;
    gives = firm.gives;
    opened_as = firm.opened_as;
    blocks = firm.blocks;
    tree = firm.tree;
    bits_a = firm.bits_a;
    bits_b = firm.bits_b;
  }

  -- a disk that was only read since
  pub firm_keeps : (new : DiskView) → Keeps old new → IsFirmFor accepts id new place m
  firm_keeps new keeps = record {
    whole = firm.whole;
    file = firm.file;
    behind = firm.behind;
    is_file = subst (λ l. IsFile l firm.file) (sym (keeps.each Oplog).reads) firm.is_file;
    trim = subst (IsTrim firm.file) (sym (keeps.each Oplog).reads) firm.trim;
    firm_file = λ c image. firm.firm_file c ((keeps.each Oplog).images new.moment c keeps.time.later (omega arith) image);
    opened = firm.opened;
    gives = file_gives_same id old.reads new.reads firm.file (rest_now old new (keeps_else old new keeps)) ∙ firm.gives;
    opened_as = firm.opened_as;
    blocks = λ c image. firm.blocks c ((keeps.each BlocksArea).images new.moment c keeps.time.later (omega arith) image);
    tree = rests_synced Tree old new keeps.time.later (keeps.each Tree) firm.tree;
    bits_a = rests_synced BitsA old new keeps.time.later (keeps.each BitsA) firm.bits_a;
    bits_b = rests_synced BitsB old new keeps.time.later (keeps.each BitsB) firm.bits_b;
  }

  -- ---- a change of the content

  module _ {T E : Type 0} (commit : Commit) (after : Content) (e : Entry) (part : Option Part) (new : DiskView) (answer : Result T E) (stays : MayStay old)
      (plans : Plans accepts m commit after e part) (writes : WritesChange {T = T} {E = E} firm.file part (entry_spelling e) old new answer) where
    -- areas with the entry behind the file, the rest as it reads, and the blocks' bytes over what could be there
    stands_after : (areas : Areas) (base : List ℕ) → LeavesRest old.reads areas → IsFile (areas Oplog) (with_entry (entry_spelling e) firm.file)
        → old.image old.moment BlocksArea base → areas BlocksArea ≡ laid part base → StandsFor accepts id areas after
    stands_after areas base leaves is_file could written =
        entry_stands accepts id old.reads areas m after commit e firm.file (firm_stands old.reads stays) firm.is_file
        plans.legal plans.whole plans.is_entry plans.fits leaves is_file (subst (λ l. HasBlocks l after) (sym written) (plans.written base (firm.blocks base could)))

    pub before_or_after : (t : ℕ) (areas : Areas) → old.moment ≤ t → t ≤ new.moment → IsImage new t areas
        → NoChance (next_frame firm.file (entry_spelling e) ∷ []) (old.reads Oplog) (areas Oplog)
        → StandsFor accepts id areas m ⊎ StandsFor accepts id areas after
    before_or_after t areas from to image chance =
        let leaves : LeavesRest old.reads areas = rest_read old new writes.rest firm.tree firm.bits_a firm.bits_b t areas from to image in
        elim (writes.any_moment firm.firm_file t (areas Oplog) (areas BlocksArea) from to (image Oplog) (image BlocksArea) chance) [
          | inl was ↦ inl (stands_with areas leaves was.is_file (plans.torn was.base (areas BlocksArea) (firm.blocks was.base was.could) was.torn))
          | inr now ↦ inr (stands_after areas now.base leaves now.is_file now.could now.written)
        ]

    -- the blocks that were held are where they were
    pub blocks_stay : HasBlocks (new.reads BlocksArea) m
    blocks_stay = plans.torn (old.reads BlocksArea) (new.reads BlocksArea) (firm.blocks (old.reads BlocksArea) (stays BlocksArea)) writes.torn

    firm_committed : (now : Place) → IsBehind now (with_entry (entry_spelling e) firm.file) → IsCommitted firm.file part (entry_spelling e) old new
        → IsFirmFor accepts id new now after
    firm_committed now behind done =
        let file : File = with_entry (entry_spelling e) firm.file in
        let stands : StandsFor accepts id new.reads after =
        stands_after new.reads (old.reads BlocksArea) (rest_now old new writes.rest) done.is_file (stays BlocksArea) done.reads in
        record {
          whole = plans.whole;
          file = file;
          behind = behind;
          is_file = done.is_file;
          trim = done.trim;
          firm_file = done.firm_file;
          opened = stands.opened;
          gives = ap (file_gives id new.reads) (same_file (new.reads Oplog) file stands.file done.is_file stands.is_file) ∙ stands.gives;
          opened_as = stands.opened_as;
          blocks = λ c image.
              let from = done.blocks c image in
              subst (λ l. HasBlocks l after) (sym from.2) (plans.written from.0 (firm.blocks from.0 from.1));
          tree = rests_synced Tree old new writes.time.later writes.rest.tree firm.tree;
          bits_a = rests_synced BitsA old new writes.time.later writes.rest.bits_a firm.bits_a;
          bits_b = rests_synced BitsB old new writes.time.later writes.rest.bits_b firm.bits_b;
        }

    on_done : (now : Place) (given : Result T E) → OnOk given (IsBehind now (with_entry (entry_spelling e) firm.file))
        → OnOk given (IsCommitted firm.file part (entry_spelling e) old new)
        → OnOk given (IsFirmFor accepts id new now after)
    on_done now (Ok x) behind done = firm_committed now behind done
    on_done now (Err fault) behind done = tt

    pub commits : (now : Place) → OnOk answer (IsBehind now (with_entry (entry_spelling e) firm.file))
        → Commits {T = T} {E = E} accepts id m e after old new now answer
    commits now behind = record {
      time = writes.time;
      file = firm.file;
      is_file = firm.is_file;
      any_moment = before_or_after;
      ok = on_done now answer behind (writes.ok firm.is_file firm.trim);
    }

-- ---- from the words of the calls

module _ {T E : Type 0} (accepts : List ℕ → List ℕ → Bool) (id : List ℕ) (m after : Content) (commit : Commit) (e : Entry)
    (part : Option Part) (place now : Place) (old new : DiskView) (answer : Result T E) (stays : MayStay old)
    (makes : MakesChange {T = T} {E = E} accepts id m commit after e part place now old new answer) where
  written : WritesChange {T = T} {E = E} makes.firm.file part (entry_spelling e) old new answer
  written = makes.writes makes.firm.file makes.firm.behind

  pub change_commits : Commits {T = T} {E = E} accepts id m e after old new now answer
  change_commits =
      commits accepts id old place m makes.firm commit after e part new answer stays makes.plans written
      now (makes.behind makes.firm.file makes.firm.behind)

  pub unfirmed : IsLeftBetween accepts id (old.reads Oplog) m e after new
  unfirmed = record {
    file = makes.firm.file;
    is_file = makes.firm.is_file;
    either = λ areas image chance.
        before_or_after accepts id old place m makes.firm commit after e part new answer stays makes.plans written
        new.moment areas written.time.later (omega arith) image chance;
    blocks = blocks_stay accepts id old place m makes.firm commit after e part new answer stays makes.plans written;
  }

pub between_keeps : (accepts : List ℕ → List ℕ → Bool) (id oplog : List ℕ) (m after : Content) (e : Entry) (old new : DiskView)
    → IsLeftBetween accepts id oplog m e after old → Keeps old new → IsLeftBetween accepts id oplog m e after new
between_keeps accepts id oplog m after e old new left keeps = record {
  file = left.file;
  is_file = left.is_file;
  either = λ areas image chance.
      left.either areas (λ area. (keeps.each area).images new.moment (areas area) keeps.time.later (omega arith) (image area)) chance;
  blocks = subst (λ l. HasBlocks l m) (sym (keeps.each BlocksArea).reads) left.blocks;
}

-- ---- a change between reads

module _ {T E : Type 0} (accepts : List ℕ → List ℕ → Bool) (id : List ℕ) (m after : Content) (e : Entry) (now : Place)
    (old mid new : DiskView) (answer : Result T E) where
  pub commits_after_reads : (place : Place) → IsFirmFor accepts id old place m → Keeps old mid
      → Commits {T = T} {E = E} accepts id m e after mid new now answer → Commits {T = T} {E = E} accepts id m e after old new now answer
  commits_after_reads place firm keeps made = record {
    time = elapses_on old mid new keeps.time made.time;
    file = made.file;
    is_file = subst (λ l. IsFile l made.file) (keeps.each Oplog).reads made.is_file;
    any_moment = λ t areas from to image chance. elim (cases_lt mid.moment t) [
      | inl later ↦
          made.any_moment t areas (omega (arith, later)) to image
          (subst (λ l. NoChance (next_frame made.file (entry_spelling e) ∷ []) l (areas Oplog)) (sym (keeps.each Oplog).reads) chance)
      | inr earlier ↦
          inl (firm_stands accepts id old place m firm areas
          (λ area. (keeps.each area).images t (areas area) from earlier ((made.time.past t area (areas area) earlier).0 (image area))))
    ];
    ok = made.ok;
  }

  firm_on : (given : Result T E) → Keeps mid new → OnOk given (IsFirmFor accepts id mid now after) → OnOk given (IsFirmFor accepts id new now after)
  firm_on (Ok x) keeps firm = firm_keeps accepts id mid now after firm new keeps
  firm_on (Err fault) keeps firm = tt

  pub commits_then_reads : Commits {T = T} {E = E} accepts id m e after old mid now answer → Keeps mid new
      → Commits {T = T} {E = E} accepts id m e after old new now answer
  commits_then_reads made keeps = record {
    time = elapses_on old mid new made.time keeps.time;
    file = made.file;
    is_file = made.is_file;
    any_moment = λ t areas from to image chance. elim (cases_lt mid.moment t) [
      | inl later ↦
          made.any_moment mid.moment areas made.time.later (omega arith)
          (λ area. (keeps.each area).images t (areas area) (omega (arith, later)) to (image area)) chance
      | inr earlier ↦ made.any_moment t areas from earlier (λ area. (keeps.time.past t area (areas area) earlier).0 (image area)) chance
    ];
    ok = firm_on answer keeps made.ok;
  }
