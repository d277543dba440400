-- A new store stands for the content that was never changed, and behind an entry of a change the areas stand for the content
-- after it.
use Rattle.std.proofs.Common.{◌≡◌, ℕ, ◌+◌, ◌==◌, Bool, true, false, List, [], ◌∷◌, ◌++◌, Some, Result, Ok, Err, sym, ap, subst, ◌∙◌, inl, inr, if◌then◌else◌}
use Rattle.std.proofs.lemmas.Bool.{cases_Bool}
use Rattle.disk_trait.specs.declared.disk.Area.TheVariants.{Oplog, Tree, Blocks as BlocksArea}
use Rattle.commit_book.specs.declared.commit.Commit.{Commit}
use Rattle.compact_enc.specs.Reading.{◌>>=◌}
use Rattle.oplog_form.specs.declared.entry.Entry.{Entry}
use Rattle.oplog_form.specs.declared.header.Header.{Header}
use Rattle.oplog_form.specs.Entries.{EntryFits, entry_spelling, entry_in, entry_of}
use Rattle.oplog_form.proofs.FieldLaws.{whole_again}
use Rattle.oplog_form.proofs.PayloadLaws.{entry_again}
use Rattle.oplog_file.specs.declared.layout.TheConstants.{ENTRIES_AT}
use Rattle.oplog_file.specs.Frames.{Frame, frame_bytes}
use Rattle.oplog_file.specs.Slots.{slot_of, in_area}
use Rattle.oplog_file.specs.Counting.{entry_at, entry_frames}
use Rattle.oplog_file.specs.Files.{File, IsFile, next_frame}
use Rattle.oplog_file.specs.Writers.{with_entry}
use Rattle.node_set.specs.declared.fault.CoreFault.{CoreFault}
use Rattle.node_set.specs.Contents.{Content}
use Rattle.node_set.specs.Legal.{KeepsHistory}
use Rattle.node_set.specs.Whole.{IsWhole}
use Rattle.core_disk.specs.Opened.{Opened, entry_after}
use Rattle.core_disk.specs.Following.{follows}
use Rattle.core_disk.specs.Areas.{Areas, copy_of, in_file, own_header, started, entries_give, file_gives}
use Rattle.core_disk.specs.Standing.{HasBlocks, StandsFor, LeavesRest}
use Rattle.core_disk.specs.Written.{IsEntryOf}
use Rattle.core_disk.proofs.FollowLaws.{follows_test}
use Rattle.core_disk.proofs.EntryGives.{entry_follows, entry_gives}

-- ---- one entry more

-- the step of one frame
abbrev step : ℕ → Opened → Frame → List Frame → Entry → Result Opened ℕ
step used o f frames e = if follows o e then entries_give (used + frame_bytes f) (entry_after o e) frames else Err (ENTRIES_AT + used)

give_more : (frames : List Frame) (used : ℕ) (o last : Opened) (f : Frame) (e : Entry) → entries_give used o frames ≡ Ok last → entry_of f.payload ≡ Ok e
    → follows last e ≡ true → entries_give used o (frames ++ f ∷ []) ≡ Ok (entry_after last e)
unfolding entries_give
give_more [] used o last f e gives read on =
    let same : o ≡ last = cc in
    let here : follows o e ≡ true = subst (λ (x : Opened). follows x e ≡ true) (sym same) on in
    ap (λ r. in_area (ENTRIES_AT + used) r >>= step used o f []) read ∙ rw here (ap (λ (x : Opened). Ok (entry_after x e)) same)
give_more (g ∷ frames) used o last f e gives read on =
    by_read (entry_at used g) (λ x given. give_more frames (used + frame_bytes g) (entry_after o x) last f e given read on) gives
  where
    by_test : (x : Entry) (test : Bool)
        → (entries_give (used + frame_bytes g) (entry_after o x) frames ≡ Ok last
        → entries_give (used + frame_bytes g) (entry_after o x) (frames ++ f ∷ []) ≡ Ok (entry_after last e))
        → (if test then entries_give (used + frame_bytes g) (entry_after o x) frames else Err (ENTRIES_AT + used)) ≡ Ok last
        → (if test then entries_give (used + frame_bytes g) (entry_after o x) (frames ++ f ∷ []) else Err (ENTRIES_AT + used)) ≡ Ok (entry_after last e)
    by_test x true goes given = goes given
    by_test x false goes given = cc

    by_read : (r : Result Entry ℕ)
        → ((x : Entry) → entries_give (used + frame_bytes g) (entry_after o x) frames ≡ Ok last
        → entries_give (used + frame_bytes g) (entry_after o x) (frames ++ f ∷ []) ≡ Ok (entry_after last e))
        → (r >>= step used o g frames) ≡ Ok last → (r >>= step used o g (frames ++ f ∷ [])) ≡ Ok (entry_after last e)
    by_read (Err at) goes given = cc
    by_read (Ok x) goes given = by_test x (follows o x) (goes x) given

in_file-ok : (r : Result Opened ℕ) (o : Opened) → in_file r ≡ Ok o → r ≡ Ok o
in_file-ok (Ok x) o is = let same : x ≡ o = cc in ap (λ (y : Opened). Ok y) same
in_file-ok (Err at) o is = cc

pub file_gives_more : (id : List ℕ) (areas : Areas) (file : File) (o : Opened) (payload : List ℕ) (e : Entry) → file_gives id areas file ≡ Ok o
    → entry_of payload ≡ Ok e → follows o e ≡ true → file_gives id areas (with_entry payload file) ≡ Ok (entry_after o e)
file_gives_more id areas file o payload e gives read on = by_header (in_file (own_header id file.header)) gives
  where
    by_start : (r : Result Opened CoreFault) → (r >>= λ s. in_file (entries_give 0 s file.frames)) ≡ Ok o
        → (r >>= λ s. in_file (entries_give 0 s (file.frames ++ next_frame file payload ∷ []))) ≡ Ok (entry_after o e)
    by_start (Err fault) given = cc
    by_start (Ok s) given =
        ap in_file (give_more file.frames 0 s o (next_frame file payload) e (in_file-ok (entries_give 0 s file.frames) o given) read on)

    by_header : (r : Result Header CoreFault)
        → (r >>= λ header. started file.header.epoch (areas (copy_of file.header.epoch)) (areas Tree) header >>= λ s. in_file (entries_give 0 s file.frames)) ≡ Ok o
        → (r >>= λ header. started file.header.epoch (areas (copy_of file.header.epoch)) (areas Tree) header >>= λ s. in_file (entries_give 0 s (file.frames ++ next_frame file payload ∷ [])))
        ≡ Ok (entry_after o e)
    by_header (Err fault) given = cc
    by_header (Ok header) given = by_start (started file.header.epoch (areas (copy_of file.header.epoch)) (areas Tree) header) given

-- ---- areas that no commit writes

copy_same : (areas now : Areas) (epoch : ℕ) → LeavesRest areas now → now (copy_of epoch) ≡ areas (copy_of epoch)
copy_same areas now epoch leaves = elim (cases_Bool (slot_of epoch == 0)) [
  | inl even ↦ rw even leaves.bits_a
  | inr odd ↦ rw odd leaves.bits_b
]

pub file_gives_same : (id : List ℕ) (areas now : Areas) (file : File) → LeavesRest areas now → file_gives id now file ≡ file_gives id areas file
file_gives_same id areas now file leaves =
    ap (λ (copy : List ℕ). given copy (now Tree)) (copy_same areas now file.header.epoch leaves) ∙ ap (given (areas (copy_of file.header.epoch))) leaves.tree
  where
    given : List ℕ → List ℕ → Result Opened CoreFault
    given copy tree =
        in_file (own_header id file.header) >>= λ header. started file.header.epoch copy tree header >>= λ s. in_file (entries_give 0 s file.frames)

-- ---- the areas of a change

-- an area is one file alone
pub same_file : (area : List ℕ) (one other : File) → IsFile area one → IsFile area other → one ≡ other
same_file area one other is_one is_other =
    let headers : Some one.header ≡ Some other.header = sym is_one.header_is ∙ is_other.header_is in
    let same : one.header ≡ other.header = cc in
    let frames : one.frames ≡ other.frames = sym is_one.frames_are ∙ ap (λ (f : Frame). entry_frames f.epoch area) same ∙ is_other.frames_are in
    ap (λ (f : Frame). file_of f one.frames) same ∙ ap (file_of other.header) frames
  where
    file_of : Frame → List Frame → File
    file_of header frames = record { header = header; frames = frames }

pub entry_stands : (accepts : List ℕ → List ℕ → Bool) (id : List ℕ) (areas now : Areas) (m after : Content) (commit : Commit) (e : Entry) (file : File)
    → StandsFor accepts id areas m → IsFile (areas Oplog) file
    → KeepsHistory m after (Some commit) → IsWhole accepts after → IsEntryOf m commit after e → EntryFits e
    → LeavesRest areas now → IsFile (now Oplog) (with_entry (entry_spelling e) file) → HasBlocks (now BlocksArea) after
    → StandsFor accepts id now after
entry_stands accepts id areas now m after commit e file stands is_file legal whole is_entry fits leaves written blocks =
    let o = stands.opened in
    let gives : file_gives id areas file ≡ Ok o =
    ap (file_gives id areas) (same_file (areas Oplog) file stands.file is_file stands.is_file) ∙ stands.gives in
    let read : entry_of (entry_spelling e) ≡ Ok e = whole_again entry_in e (entry_spelling e) (entry_again e fits) in
    let on = follows_test o e (entry_follows o m stands.opened_as stands.whole.sound commit after legal whole.sound e is_entry) in
    record {
      whole = whole;
      file = with_entry (entry_spelling e) file;
      is_file = written;
      opened = entry_after o e;
      gives = file_gives_same id areas now (with_entry (entry_spelling e) file) leaves ∙ file_gives_more id areas file o (entry_spelling e) e gives read on;
      opened_as = entry_gives o m stands.opened_as stands.whole.sound commit after legal whole.sound e is_entry;
      blocks = blocks;
    }
