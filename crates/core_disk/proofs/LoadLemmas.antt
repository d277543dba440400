-- What the header that counts and the entries give with the nodes of the tree area under the records.
use Rattle.std.proofs.Common.{◌≡◌, ℕ, ◌+◌, ◌*◌, ◌≤◌, Bool, true, false, List, [], ◌∷◌, Option, Some, None, Result, Ok, Err, refl, sym, ap, subst, ◌∙◌, if◌then◌else◌}
use Rattle.std.specs.Prelude.{IfSome}
use Rattle.std.specs.Option.{option_map}
use Rattle.std.specs.Str.{bytes_eq}
use Rattle.std.specs.List.{AllByRecursion}
use mathlib.Core.Path.{fun_ext}
use Rattle.flat_tree.specs.Subtrees.{number}
use Rattle.flat_tree.specs.declared.limits.TheConstants.{MAX_CORE_BYTES}
use Rattle.disk_trait.specs.declared.disk.Area.TheVariants.{Oplog, Tree}
use Rattle.compact_enc.specs.Reading.{◌>>=◌}
use Rattle.merkle_nodes.specs.declared.node.Node.{Node}
use Rattle.merkle_nodes.specs.declared.node.Twig.{Twig}
use Rattle.merkle_nodes.specs.Joined.{Values, or_value}
use Rattle.merkle_nodes.specs.Roots.{twig_of}
use Rattle.oplog_form.specs.declared.entry.Entry.{Entry}
use Rattle.oplog_form.specs.declared.header.Header.{Header}
use Rattle.oplog_form.specs.Entries.{EntryFits}
use Rattle.oplog_form.specs.Headers.{header_of}
use Rattle.oplog_form.specs.Nodes.{RecordFits}
use Rattle.oplog_file.specs.declared.layout.TheConstants.{ENTRIES_AT, SLOT_BYTES, FRAME_HEAD_BYTES}
use Rattle.oplog_file.specs.Frames.{Frame, frame_bytes}
use Rattle.oplog_file.specs.Slots.{slot_of, header_frame, header_of_frame, in_area}
use Rattle.oplog_file.specs.Counting.{entry_at, entry_frames}
use Rattle.oplog_file.specs.Files.{File, IsFile}
use Rattle.oplog_file.specs.Opening.{Counts, TellsHeader}
use Rattle.node_set.specs.declared.fault.CoreFault.{CoreFault}
use Rattle.node_set.specs.declared.fault.CoreFault.TheVariants.{Memory, StoreFault, BadStore, Damaged}
use Rattle.node_set.proofs.AppendLemmas.{all_so}
use Rattle.core_state.proofs.AdmitShows.{put_over}
use Rattle.core_disk.specs.declared.layout.TheConstants.{ID_AT}
use Rattle.core_disk.specs.Opened.{Opened, values_in, entry_after}
use Rattle.core_disk.specs.Following.{follows}
use Rattle.core_disk.specs.Areas.{Areas, copy_of, checked_id, in_file, started, tree_values, entries_give, file_gives, areas_give}
use Rattle.core_disk.specs.InHand.{last_of, Agrees}
use Rattle.core_disk.specs.Starting.{with_tree, IsStart, Starts}
use Rattle.core_disk.specs.Replaying.{IsReplayed, TellsBad}
use Rattle.core_disk.specs.Filling.{over_tree, AreSmall}
use Rattle.core_disk.specs.Parts.{IsLoaded, Loads}
use Rattle.core_disk.proofs.FitLaws.{read_fits}
use Rattle.core_disk.proofs.RecordLemmas.{last_value, last_all}

-- ---- nodes under others

-- the same with other nodes
abbrev with_values : Opened → Values → Opened
with_values o values = record { head = o.head; roots = o.roots; held = o.held; nodes = values }

-- what is under two is under the first with the second over it
pub or_over : (back own old : Option Twig) → or_value back (or_value own old) ≡ or_value (or_value back own) old
or_over None own old = refl
or_over (Some twig) own old = refl

-- nodes that are put in, over what has others under it
pub put_on : (nodes : List Node) (values under : Values) (depth offset : ℕ)
    → or_value (values_in nodes depth offset) (or_value (values depth offset) (under depth offset))
    ≡ or_value (or_value (values_in nodes depth offset) (values depth offset)) (under depth offset)
put_on nodes values under depth offset = or_over (values_in nodes depth offset) (values depth offset) (under depth offset)

module _ (tree : List ℕ) where
  pub over_bare : (o : Opened) → ((depth offset : ℕ) → o.nodes depth offset ≡ None) → with_tree tree o ≡ over_tree tree o
  over_bare o bare =
      ap (with_values o) (fun_ext (λ depth. fun_ext (λ offset. ap (λ (v : Option Twig). or_value v (tree_values tree depth offset)) (sym (bare depth offset)))))

  after_over : (o : Opened) (e : Entry) → entry_after (over_tree tree o) e ≡ over_tree tree (entry_after o e)
  after_over o e = ap (with_values (entry_after o e)) (fun_ext (λ depth. fun_ext (λ offset.
      put_over e.records (over_tree tree o).nodes depth offset
      ∙ put_on e.records o.nodes (tree_values tree) depth offset
      ∙ ap (λ (v : Option Twig). or_value v (tree_values tree depth offset)) (sym (put_over e.records o.nodes depth offset)))))

  abbrev over_ok : Result Opened ℕ → Result Opened ℕ
  over_ok (Ok o) = Ok (over_tree tree o)
  over_ok (Err at) = Err at

  -- the entries give the same over the tree area's nodes
  pub give_over : (frames : List Frame) (used : ℕ) (o : Opened) → entries_give used (over_tree tree o) frames ≡ over_ok (entries_give used o frames)
  unfolding entries_give
  give_over [] used o = refl
  give_over (f ∷ frames) used o = by_read (entry_at used f) (λ e. give_over frames (used + frame_bytes f) (entry_after o e))
    where
      by_test : (e : Entry) (test : Bool)
          → (entries_give (used + frame_bytes f) (over_tree tree (entry_after o e)) frames ≡ over_ok (entries_give (used + frame_bytes f) (entry_after o e) frames))
          → (if test then entries_give (used + frame_bytes f) (entry_after (over_tree tree o) e) frames else Err (ENTRIES_AT + used))
          ≡ over_ok (if test then entries_give (used + frame_bytes f) (entry_after o e) frames else Err (ENTRIES_AT + used))
      by_test e true rest = ap (λ (x : Opened). entries_give (used + frame_bytes f) x frames) (after_over o e) ∙ rest
      by_test e false rest = refl

      by_read : (r : Result Entry ℕ)
          → ((e : Entry) → entries_give (used + frame_bytes f) (over_tree tree (entry_after o e)) frames ≡ over_ok (entries_give (used + frame_bytes f) (entry_after o e) frames))
          → (r >>= λ e. if follows (over_tree tree o) e then entries_give (used + frame_bytes f) (entry_after (over_tree tree o) e) frames else Err (ENTRIES_AT + used))
          ≡ over_ok (r >>= λ e. if follows o e then entries_give (used + frame_bytes f) (entry_after o e) frames else Err (ENTRIES_AT + used))
      by_read (Err at) rest = refl
      by_read (Ok e) rest = by_test e (follows o e) (rest e)

-- ---- sizes

-- what holds of the size of each node holds of each value
pub small_in : (nodes : List Node) (depth offset : ℕ) (twig : Twig) → AllByRecursion (λ (node : Node). node.size ≤ MAX_CORE_BYTES) nodes
    → values_in nodes depth offset ≡ Some twig → twig.size ≤ MAX_CORE_BYTES
small_in nodes depth offset twig all is =
    by_found (last_of nodes (number depth offset) None) (last_all (λ (node : Node). node.size ≤ MAX_CORE_BYTES) nodes (number depth offset) None all tt)
    (last_value nodes depth offset (λ d o. None) None refl ∙ is)
  where
    by_found : (found : Option Node) → IfSome found (λ (node : Node). node.size ≤ MAX_CORE_BYTES) → option_map twig_of found ≡ Some twig → twig.size ≤ MAX_CORE_BYTES
    by_found None small same = absurd (cc)
    by_found (Some node) small same =
        let twig_is : twig_of node ≡ twig = cc in
        subst (λ (t : Twig). t.size ≤ MAX_CORE_BYTES) twig_is small

-- so of the one over the other, if of both
pub small_over : (back own : Option Twig) (twig : Twig) → (back ≡ Some twig → twig.size ≤ MAX_CORE_BYTES) → (own ≡ Some twig → twig.size ≤ MAX_CORE_BYTES)
    → or_value back own ≡ Some twig → twig.size ≤ MAX_CORE_BYTES
small_over None own twig first second is = second is
small_over (Some other) own twig first second is = first is

small_after : (o : Opened) (e : Entry) → AreSmall o.nodes → EntryFits e → AreSmall (entry_after o e).nodes
small_after o e small fits depth offset twig less is =
    small_over (values_in e.records depth offset) (o.nodes depth offset) twig
    (small_in e.records depth offset twig (all_so RecordFits (λ (node : Node). node.size ≤ MAX_CORE_BYTES) (λ node f. f.twig.size) e.records fits.records))
    (small depth offset twig less)
    (sym (put_over e.records o.nodes depth offset) ∙ is)

pub small_give : (frames : List Frame) (used : ℕ) (o last : Opened) → AreSmall o.nodes → entries_give used o frames ≡ Ok last → AreSmall last.nodes
unfolding entries_give
small_give [] used o last small gives =
    let same : o ≡ last = cc in
    subst (λ (x : Opened). AreSmall x.nodes) same small
small_give (f ∷ frames) used o last small gives =
    by_read (entry_at used f) refl (λ e given after. small_give frames (used + frame_bytes f) (entry_after o e) last after given) gives
  where
    by_test : (e : Entry) (test : Bool) → (entries_give (used + frame_bytes f) (entry_after o e) frames ≡ Ok last → AreSmall last.nodes)
        → (if test then entries_give (used + frame_bytes f) (entry_after o e) frames else Err (ENTRIES_AT + used)) ≡ Ok last → AreSmall last.nodes
    by_test e true rest given = rest given
    by_test e false rest given = absurd (cc)

    by_read : (r : Result Entry ℕ) → entry_at used f ≡ r
        → ((e : Entry) → entries_give (used + frame_bytes f) (entry_after o e) frames ≡ Ok last → AreSmall (entry_after o e).nodes → AreSmall last.nodes)
        → (r >>= λ e. if follows o e then entries_give (used + frame_bytes f) (entry_after o e) frames else Err (ENTRIES_AT + used)) ≡ Ok last
        → AreSmall last.nodes
    by_read (Err at) read rest given = absurd (cc)
    by_read (Ok e) read rest given =
        by_test e (follows o e) (λ more. rest e more (small_after o e small (read_fits (ENTRIES_AT + used) f.payload e read))) given

-- ---- the areas

-- what the areas give behind the frame of the header that counts
pub gives_file : (id : List ℕ) (areas : Areas) (f : Frame) → header_frame (areas Oplog) ≡ Some f
    → areas_give id areas ≡ file_gives id areas (record { header = f; frames = entry_frames f.epoch (areas Oplog) })
gives_file id areas f found = rw found refl

gives_none : (id : List ℕ) (areas : Areas) → header_frame (areas Oplog) ≡ None → areas_give id areas ≡ Err (BadStore Oplog 0)
gives_none id areas none = rw none refl

-- what a file gives
pub gives_same : (id : List ℕ) (areas : Areas) (file : File) → IsFile (areas Oplog) file → areas_give id areas ≡ file_gives id areas file
gives_same id areas file is =
    gives_file id areas file.header is.header_is
    ∙ ap (λ (frames : List Frame). file_gives id areas (record { header = file.header; frames = frames })) is.frames_are

module _ (id : List ℕ) (areas : Areas) (f : Frame) (found : header_frame (areas Oplog) ≡ Some f) where
  abbrev behind_start : Result Opened CoreFault → Result Opened CoreFault
  behind_start r = r >>= λ first. in_file (entries_give 0 first (entry_frames f.epoch (areas Oplog)))

  abbrev behind_header : Result Header ℕ → Result Opened CoreFault
  behind_header r = in_file r >>= λ header. behind_start (started f.epoch (areas (copy_of f.epoch)) (areas Tree) header)

  bad_header : (at : ℕ) → in_area (SLOT_BYTES * slot_of f.epoch) (header_of f.payload) ≡ Err at → areas_give id areas ≡ Err (BadStore Oplog at)
  bad_header at bad = gives_file id areas f found ∙ ap (λ r. behind_header (r >>= checked_id id f)) bad

  module _ (header : Header) (reads : in_area (SLOT_BYTES * slot_of f.epoch) (header_of f.payload) ≡ Ok header) where
    by_id : areas_give id areas ≡ behind_header (checked_id id f header)
    by_id = gives_file id areas f found ∙ ap (λ r. behind_header (r >>= checked_id id f)) reads

    other_id : bytes_eq header.id id ≡ false → areas_give id areas ≡ Err (BadStore Oplog (SLOT_BYTES * slot_of f.epoch + FRAME_HEAD_BYTES + ID_AT))
    other_id other =
        by_id ∙ ap (λ b. behind_header (if b then Ok header else Err (SLOT_BYTES * slot_of f.epoch + FRAME_HEAD_BYTES + ID_AT))) other

    by_start : bytes_eq header.id id ≡ true → areas_give id areas ≡ behind_start (started f.epoch (areas (copy_of f.epoch)) (areas Tree) header)
    by_start own =
        by_id ∙ ap (λ b. behind_header (if b then Ok header else Err (SLOT_BYTES * slot_of f.epoch + FRAME_HEAD_BYTES + ID_AT))) own

    by_entries : (o : Opened) → IsStart id f.epoch header (areas (copy_of f.epoch)) o
        → areas_give id areas ≡ in_file (over_ok (areas Tree) (entries_give 0 o (entry_frames f.epoch (areas Oplog))))
    by_entries o starts =
        let tree = areas Tree in
        let frames = entry_frames f.epoch (areas Oplog) in
        by_start starts.own ∙ ap behind_start (starts.gives tree)
        ∙ ap (λ (x : Opened). in_file (entries_give 0 x frames)) (over_bare tree o starts.bare)
        ∙ ap in_file (give_over tree frames 0 o)

-- ---- what is loaded

over_agrees : (tree : List ℕ) (one other : Opened) → Agrees one other → Agrees (over_tree tree one) (over_tree tree other)
over_agrees tree one other same = record {
  head = same.head;
  roots = same.roots;
  held = same.held;
  nodes = λ depth offset less. ap (λ (v : Option Twig). or_value v (tree_values tree depth offset)) (same.nodes depth offset less);
}

module _ (id : List ℕ) (areas : Areas) (epoch : ℕ) (header : Header) (counts : Counts (areas Oplog) epoch header) where
  reads_header : in_area (SLOT_BYTES * slot_of counts.frame.epoch) (header_of counts.frame.payload) ≡ Ok header
  reads_header = sym (ap header_of_frame counts.found) ∙ counts.header_is

  here : (o : Opened) → IsStart id epoch header (areas (copy_of epoch)) o → IsStart id counts.frame.epoch header (areas (copy_of counts.frame.epoch)) o
  here o starts = subst (λ (n : ℕ). IsStart id n header (areas (copy_of n)) o) counts.epoch_is starts

  gives_here : (o : Opened) → IsStart id epoch header (areas (copy_of epoch)) o
      → areas_give id areas ≡ in_file (over_ok (areas Tree) (entries_give 0 o (entry_frames epoch (areas Oplog))))
  gives_here o starts =
      by_entries id areas counts.frame counts.found header reads_header o (here o starts)
      ∙ ap (λ (n : ℕ). in_file (over_ok (areas Tree) (entries_give 0 o (entry_frames n (areas Oplog))))) (sym counts.epoch_is)

  pub loaded : (o now : Opened) → IsStart id epoch header (areas (copy_of epoch)) o → IsReplayed (areas Oplog) epoch o now → IsLoaded id areas now
  loaded o now starts replayed =
      let tree = areas Tree in
      let last = replayed.opened in
      record {
        file = record { header = counts.frame; frames = entry_frames counts.frame.epoch (areas Oplog) };
        is_file = record { header_is = counts.found; frames_are = refl };
        opened = over_tree tree last;
        gives = gives_here o starts ∙ ap (λ r. in_file (over_ok tree r)) replayed.gives;
        agrees = over_agrees tree now last replayed.agrees;
        small = λ depth offset twig less is.
            small_give (entry_frames epoch (areas Oplog)) 0 o last (λ d p t low there. absurd (let clash : Some t ≡ None = sym there ∙ starts.bare d p in cc)) replayed.gives
            depth offset twig less (sym (replayed.agrees.nodes depth offset less) ∙ is);
      }

  pub loads_bad : (o : Opened) (fault : CoreFault) → IsStart id epoch header (areas (copy_of epoch)) o → TellsBad (areas Oplog) epoch o fault → Loads id areas (Err fault)
  loads_bad o Memory starts told = tt
  loads_bad o StoreFault starts told = tt
  loads_bad o (BadStore place at) starts told = (told.0, gives_here o starts ∙ ap (λ r. in_file (over_ok (areas Tree) r)) told.1)
  loads_bad o other starts told = absurd told

  pub loads_unstarted : (fault : CoreFault) → Starts id epoch header areas (Err fault) → Loads id areas (Err fault)
  loads_unstarted Memory told = tt
  loads_unstarted StoreFault told = tt
  loads_unstarted (BadStore place at) told = (
    told.0,
    other_id id areas counts.frame counts.found header reads_header told.1
        ∙ ap (λ (n : ℕ). Err (BadStore Oplog (SLOT_BYTES * slot_of n + FRAME_HEAD_BYTES + ID_AT))) (sym counts.epoch_is)
        ∙ ap (λ (n : ℕ). Err (BadStore Oplog n)) (sym told.2),
  )
  loads_unstarted (Damaged place want have) told =
      by_start id areas counts.frame counts.found header reads_header told.0
      ∙ ap (behind_start id areas counts.frame counts.found)
      (subst (λ (n : ℕ). started n (areas (copy_of n)) (areas Tree) header ≡ Err (Damaged place want have)) counts.epoch_is (told.1 (areas Tree)))
  loads_unstarted other told = absurd told

pub loads_unopened : (id : List ℕ) (areas : Areas) (fault : CoreFault) → TellsHeader (areas Oplog) (Err fault) → Loads id areas (Err fault)
loads_unopened id areas Memory told = tt
loads_unopened id areas StoreFault told = tt
loads_unopened id areas (BadStore place at) told = (told.0, by_frame (header_frame (areas Oplog)) refl told.1)
  where
    by_frame : (frame : Option Frame) → header_frame (areas Oplog) ≡ frame → header_of_frame frame ≡ Err at → areas_give id areas ≡ Err (BadStore Oplog at)
    by_frame None none bad = let zero_is : 0 ≡ at = cc in gives_none id areas none ∙ ap (λ (n : ℕ). Err (BadStore Oplog n)) zero_is
    by_frame (Some f) found bad = bad_header id areas f found at bad
loads_unopened id areas other told = absurd told

-- the epoch of the header that counts is that of the file
pub counts_file : (area : List ℕ) (epoch : ℕ) (header : Header) (whole : File) → Counts area epoch header → IsFile area whole → epoch ≡ whole.header.epoch
counts_file area epoch header whole counts is =
    let both : Some counts.frame ≡ Some whole.header = sym counts.found ∙ is.header_is in
    let same : counts.frame ≡ whole.header = cc in
    counts.epoch_is ∙ ap (λ (f : Frame). f.epoch) same
