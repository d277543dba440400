-- The content that a disk has of what was opened: where it is a given content, and what an entry makes of it.
use Rattle.std.proofs.Common.{◌≡◌, ◌⊎◌, inl, inr, ℕ, ◌<◌, ◌≤◌, Bool, true, false, List, [], ◌∷◌, length, take, drop, map, replicate, Option, Some, None, refl, sym, ap, subst, ◌∙◌, arith, if◌then◌else◌}
use Rattle.std.specs.Prelude.{is_some}
use Rattle.std.specs.List.{AllByRecursion}
use Rattle.std.proofs.lemmas.Bool.{cases_Bool, cases_eq, eq-eqb, ne_eqb}
use Rattle.std.proofs.lemmas.List.{length-take, take-append-le}
use mathlib.Core.Path.{fun_ext}
use Rattle.flat_tree.specs.declared.limits.TheConstants.{MAX_BLOCKS, MAX_CORE_BYTES}
use Rattle.flat_tree.specs.Subtrees.{Subtree, subtree, number, end_block_of}
use Rattle.flat_tree.specs.Roots.{full_roots_of}
use Rattle.flat_tree.proofs.NumberLemmas.{number_below, same_depth, same_place}
use Rattle.commit_book.specs.declared.commit.Commit.{Commit}
use Rattle.commit_book.specs.declared.commit.Commit.TheVariants.{Clear, Fetch}
use Rattle.commit_book.specs.History.{Summary, entry_of, MayFollow, KeepsRoot, changed}
use Rattle.merkle_nodes.specs.declared.node.Node.{Node}
use Rattle.merkle_nodes.specs.declared.node.Twig.{Twig}
use Rattle.merkle_nodes.specs.declared.roots.Head.{Head}
use Rattle.merkle_nodes.specs.Joined.{Values, or_value}
use Rattle.merkle_nodes.specs.Roots.{root_hash_of}
use Rattle.merkle_nodes.specs.Tree.{leaf_of}
use Rattle.oplog_form.specs.declared.entry.Entry.{Entry}
use Rattle.node_set.specs.Contents.{Content, Blocks, held, twig_at, node_at, roots, roots_at, summary_of}
use Rattle.node_set.specs.Closure.{in_closure, closed_on, IsFullRoot}
use Rattle.node_set.specs.Legal.{core_limits, KeepsHistory}
use Rattle.node_set.specs.Nodes.{with_node, with_nodes}
use Rattle.node_set.specs.Offsets.{offset_of}
use Rattle.node_set.specs.Views.{IsUsable}
use Rattle.node_set.specs.Whole.{IsSound}
use Rattle.node_set.proofs.AppendLemmas.{all_get}
use Rattle.node_set.proofs.ClosureLemmas.{true_closure, root_in_closure}
use Rattle.node_set.proofs.RootTruth.{root_among, some_or_none, twig_at-some}
use Rattle.node_set.proofs.SoundLemmas.{roots_same, stored_value}
use Rattle.node_set.proofs.Stored.{some_same}
use Rattle.proof_check.proofs.FetchSound.{none_of}
use Rattle.core_state.proofs.AdmitShows.{put_over}
use Rattle.core_disk.specs.Opened.{Opened, short_of, values_in, known_after, entry_after}
use Rattle.core_disk.specs.Following.{follows}
use Rattle.core_disk.specs.Areas.{head_of, read_at}
use Rattle.core_disk.specs.InHand.{InHand, opened_of, IsKept, Agrees}
use Rattle.core_disk.specs.Standing.{IsOpenedAs, HasBlocks}
use Rattle.core_disk.specs.Laid.{block_in, content_in, IsRooted}
use Rattle.core_disk.specs.Plans.{Part, laid, Plans}
use Rattle.core_disk.specs.Testing.{IsBounded}
use Rattle.core_disk.proofs.FollowLaws.{follows_words}
use Rattle.core_disk.proofs.EntryGives.{short_is, entry_gives}

-- ---- a content by its parts

-- the content of a head, held blocks and nodes, without the bytes of a block and with those in an area
abbrev outline_with : Head → (ℕ → Bool) → Values → Content
outline_with head set node = record {
  fork = head.fork;
  length = head.length;
  signature = head.signature;
  block = λ index. if set index then Some [] else None;
  node = node;
}

abbrev content_with : List ℕ → Head → (ℕ → Bool) → Values → Content
content_with area head set node = record {
  fork = head.fork;
  length = head.length;
  signature = head.signature;
  block = λ index. if set index then Some (block_in area (outline_with head set node) index) else None;
  node = node;
}

-- equal parts make one content
content_same : (area : List ℕ) (o : Opened) (head : Head) (set : ℕ → Bool) (node : Values) → o.head ≡ head → ((index : ℕ) → o.held index ≡ set index)
    → ((depth offset : ℕ) → closed_on head.length set o.nodes depth offset ≡ node depth offset) → content_in area o ≡ content_with area head set node
content_same area o head set node heads sets nodes =
    ap (λ (h : Head). content_with area h o.held (closed_on h.length o.held o.nodes)) heads
    ∙ ap (λ (f : ℕ → Bool). content_with area head f (closed_on head.length f o.nodes)) (fun_ext sets)
    ∙ ap (content_with area head set) (fun_ext (λ depth. fun_ext (λ offset. nodes depth offset)))

-- ---- what is seen of it

-- a node that is there is in the closure
closed_inside : (n : ℕ) (set : ℕ → Bool) (value : Values) (depth offset : ℕ) (twig : Twig) → closed_on n set value depth offset ≡ Some twig
    → in_closure n set depth offset ≡ true
closed_inside n set value depth offset twig there = elim (cases_Bool (in_closure n set depth offset)) [
  | inl here ↦ here
  | inr apart ↦
      let none : closed_on n set value depth offset ≡ None = rw apart refl in
      let clash : None ≡ Some twig = sym none ∙ there in cc
]

module _ (area : List ℕ) (o : Opened) where
  -- the held blocks are those that were opened
  pub held_in : (index : ℕ) → held (content_in area o) index ≡ o.held index
  held_in index = elim (cases_Bool (o.held index)) [ inl here ↦ rw here refl | inr none ↦ rw none refl ]

  -- nothing is past the length, where no block past it is held
  pub bounded_in : ((index : ℕ) → o.held index ≡ true → index < o.head.length) → IsBounded (content_in area o)
  bounded_in below = record {
    blocks = λ index bytes there. below index (sym (held_in index) ∙ ap is_some there);
    nodes = λ depth offset twig there.
        (true_closure o.head.length o.held depth offset (closed_inside o.head.length o.held o.nodes depth offset twig there)).within;
  }

  -- the full roots are in the closure
  pub roots_in : IsRooted o → roots (content_in area o) ≡ o.roots
  roots_in rooted =
      roots_same o.head.length (content_in area o).node o.nodes (λ depth offset root. rw (root_in_closure o.head.length o.held depth offset root) refl)
      ∙ sym rooted

  -- it was opened so
  pub opened_in : IsRooted o → IsOpenedAs o (content_in area o)
  opened_in rooted = record {
    head = refl;
    roots_are = sym (roots_in rooted);
    held_are = λ index. sym (held_in index);
    nodes = λ depth offset test.
        let own : in_closure o.head.length o.held depth offset ≡ true =
        ap (λ (f : ℕ → Bool). in_closure o.head.length f depth offset) (fun_ext (λ index. sym (held_in index))) ∙ test in
        rw own refl;
  }

  -- in short
  pub summary_in : IsRooted o → summary_of (content_in area o) ≡ short_of o
  summary_in rooted = sym (short_is o (content_in area o) (opened_in rooted))

-- ---- a content that stands in its areas

-- bytes that stand in an area are read there
read_whole : (area : List ℕ) (place : ℕ) (bytes : List ℕ) → take (length bytes) (drop place area) ≡ bytes → read_at area place (length bytes) ≡ bytes
read_whole area place bytes is =
    let within : length bytes ≤ length (drop place area) = omega (arith, ap length is, length-take (length bytes) (drop place area)) in
    take-append-le (length bytes) (drop place area) (replicate (length bytes) 0) within ∙ is

module _ (area : List ℕ) (o : Opened) (m : Content) (opened : IsOpenedAs o m) (sound : IsSound m) (has : HasBlocks area m) where
  node_is : (depth offset : ℕ) → closed_on m.length (held m) o.nodes depth offset ≡ m.node depth offset
  node_is depth offset = elim (cases_Bool (in_closure m.length (held m) depth offset)) [
    | inl here ↦ rw here (opened.nodes depth offset here)
    | inr apart ↦ rw apart (sym (none_of (m.node depth offset) (sound.closed depth offset ∙ apart)))
  ]

  block_bytes : (index : ℕ) (bytes : List ℕ) → m.block index ≡ Some bytes → block_in area (outline_with (head_of m) (held m) m.node) index ≡ bytes
  block_bytes index bytes there =
      let size = ap (λ (t : Twig). t.size) (twig_at-some m.node 0 index (leaf_of bytes) (sound.leaves index bytes there)) in
      ap (read_at area (offset_of m index)) size ∙ read_whole area (offset_of m index) bytes (has index bytes there)

  abbrev laid_block : Blocks
  laid_block = (content_with area (head_of m) (held m) m.node).block

  block_is : (index : ℕ) → laid_block index ≡ m.block index
  block_is index = elim (some_or_none (m.block index)) [
    | inl (bytes, there) ↦
        let here : held m index ≡ true = ap is_some there in
        let own : laid_block index ≡ Some (block_in area (outline_with (head_of m) (held m) m.node) index) = rw here refl in
        own ∙ ap Some (block_bytes index bytes there) ∙ sym there
    | inr none ↦
        let apart : held m index ≡ false = ap is_some none in
        let own : laid_block index ≡ None = rw apart refl in
        own ∙ sym none
  ]

  -- what was opened as a sound content, with the area where its blocks stand, is this content
  pub content_is : content_in area o ≡ m
  content_is = content_same area o (head_of m) (held m) m.node opened.head opened.held_are node_is ∙ ap with_blocks (fun_ext block_is)
    where
      with_blocks : Blocks → Content
      with_blocks block = record { fork = m.fork; length = m.length; signature = m.signature; block = block; node = m.node }

-- after a planned change of a sound content it is the one after: the bytes are laid, and the entry is done
pub planned_content : (accepts : List ℕ → List ℕ → Bool) (area : List ℕ) (o : Opened) (m after : Content) (commit : Commit) (e : Entry) (part : Option Part)
    → IsOpenedAs o m → IsSound m → HasBlocks area m → Plans accepts m commit after e part → content_in (laid part area) (entry_after o e) ≡ after
planned_content accepts area o m after commit e part opened sound has plans =
    content_is (laid part area) (entry_after o e) after (entry_gives o m opened sound commit after plans.legal plans.whole.sound e plans.is_entry)
    plans.whole.sound (plans.written area has)

-- ---- what agrees has one content

module _ (new o : Opened) (same : Agrees new o) (few : o.head.length ≤ MAX_BLOCKS) where
  -- a node within the length has a number that a core may have
  node_same : (depth offset : ℕ) → end_block_of depth offset ≤ o.head.length → new.nodes depth offset ≡ o.nodes depth offset
  node_same depth offset within = same.nodes depth offset (omega (arith, number_below depth offset, within, few))

  pub agrees_content : (area : List ℕ) → content_in area new ≡ content_in area o
  agrees_content area = content_same area new o.head o.held (closed_on o.head.length o.held o.nodes) same.head same.held closed_same
    where
      closed_same : (depth offset : ℕ) → closed_on o.head.length o.held new.nodes depth offset ≡ closed_on o.head.length o.held o.nodes depth offset
      closed_same depth offset = elim (cases_Bool (in_closure o.head.length o.held depth offset)) [
        | inl here ↦ rw here (node_same depth offset (true_closure o.head.length o.held depth offset here).within)
        | inr apart ↦ rw apart refl
      ]

  pub agrees_rooted : IsRooted o → IsRooted new
  agrees_rooted rooted =
      same.roots ∙ rooted
      ∙ sym (roots_same o.head.length new.nodes o.nodes (λ depth offset root. node_same depth offset root.within))
      ∙ ap (λ (h : Head). roots_at new.nodes h.length) (sym same.head)

-- ---- what is in memory

pub usable_in : (area : List ℕ) (hand : InHand) → IsKept hand → IsRooted (opened_of hand) → IsUsable (content_in area (opened_of hand))
usable_in area hand kept rooted = record {
  blocks = kept.blocks;
  fork = kept.fork;
  sizes = subst (AllByRecursion (λ (node : Node). node.size ≤ MAX_CORE_BYTES)) (sym (roots_in area (opened_of hand) rooted)) kept.sizes;
  below = λ index there. kept.spare index (sym (held_in area (opened_of hand) index) ∙ there);
}

-- ---- the roots after an entry

-- roots of values that are read alike
roots_alike : (n : ℕ) (one other : Values) → ((depth offset : ℕ) → IsFullRoot n depth offset → twig_at one depth offset ≡ twig_at other depth offset)
    → roots_at one n ≡ roots_at other n
roots_alike n one other same = roots_same n (all_there one) (all_there other) (λ depth offset root. ap Some (same depth offset root))
  where
    all_there : Values → Values
    all_there value depth offset = Some (twig_at value depth offset)

-- what stands for a node by what is stored of it
abbrev twig_by : Option Twig → Twig
twig_by found = twig_at (λ depth offset. found) 0 0

-- the node of a subtree
abbrev node_on : Values → Subtree → Node
node_on value tree = node_at value tree.depth tree.offset

-- nodes of values put in leave a value or give their own
put_own : (value : Values) (trees : List Subtree) (start : Values) (depth offset : ℕ)
    → (with_nodes start (map (node_on value) trees) depth offset ≡ start depth offset)
    ⊎ (with_nodes start (map (node_on value) trees) depth offset ≡ Some (twig_at value depth offset))
unfolding with_nodes
put_own value [] start depth offset = inl refl
put_own value (tree ∷ trees) start depth offset =
    let node = node_on value tree in
    elim (put_own value trees (with_node start node) depth offset) [
      | inr own ↦ inr own
      | inl kept ↦ elim (cases_eq node.index (number depth offset)) [
        | inr other ↦
            let same : with_node start node depth offset ≡ start depth offset = rw (ne_eqb node.index (number depth offset) other) refl in
            inl (kept ∙ same)
        | inl here ↦
            let deep = same_depth tree.depth tree.offset depth offset here in
            let place = same_place depth tree.offset offset (ap (λ (d : ℕ). number d tree.offset) (sym deep) ∙ here) in
            let put : with_node start node depth offset ≡ Some (twig_at value tree.depth tree.offset) =
            rw (eq-eqb node.index (number depth offset) here) refl in
            inr (kept ∙ put ∙ ap (λ (d : ℕ). Some (twig_at value d tree.offset)) deep ∙ ap (λ (p : ℕ). Some (twig_at value depth p)) place)
      ]
    ]

-- no record has another value for a root than the one there
abbrev pub LeavesRoots : Opened → Entry → Type 0
LeavesRoots o e = (depth offset : ℕ) (twig : Twig) → IsFullRoot o.head.length depth offset → values_in e.records depth offset ≡ Some twig
    → twig_at o.nodes depth offset ≡ twig

-- so it is without records
pub no_records_leave : (o : Opened) (e : Entry) → e.records ≡ [] → LeavesRoots o e
unfolding with_nodes
no_records_leave o e none depth offset twig root there =
    let clash : None ≡ Some twig = sym (ap (λ (ns : List Node). values_in ns depth offset) none) ∙ there in cc

-- equal roots have one hash, whatever the commit
pub same_roots_kept : (o : Opened) (commit : Commit) (now : List Node) → now ≡ o.roots → KeepsRoot (entry_of commit (root_hash_of now)) (short_of o)
same_roots_kept o (Clear from to) now same = ap root_hash_of same
same_roots_kept o (Fetch index) now same = ap root_hash_of same
same_roots_kept o other now same = tt

module _ (o : Opened) (e : Entry) (on : follows o e ≡ true) (rooted : IsRooted o) where
  -- a root before has the value of its node
  root_before : (depth offset : ℕ) (twig : Twig) → values_in o.roots depth offset ≡ Some twig → twig_at o.nodes depth offset ≡ twig
  root_before depth offset twig there =
      let own = ap (λ (ns : List Node). values_in ns depth offset) rooted in
      elim (put_own o.nodes (full_roots_of o.head.length) (λ d p. None) depth offset) [
        | inl none ↦ let clash : Some twig ≡ None = sym there ∙ own ∙ none in cc
        | inr is ↦ some_same (twig_at o.nodes depth offset) twig (sym is ∙ sym own ∙ there)
      ]

  -- a root of the new length is known
  root_known : (depth offset : ℕ) → IsFullRoot e.head.length depth offset → is_some (known_after o e depth offset) ≡ true
  root_known depth offset root =
      let among = root_among e.head.length depth offset root.within root.largest in
      all_get (λ (tree : Subtree). is_some (known_after o e tree.depth tree.offset) ≡ true) (full_roots_of e.head.length) among.0 (subtree depth offset)
      (follows_words o e on).roots among.1

  root_after : (depth offset : ℕ) → IsFullRoot e.head.length depth offset
      → twig_at (known_after o e) depth offset ≡ twig_at (with_nodes o.nodes e.records) depth offset
  root_after depth offset root =
      let of_roots = put_over e.records (values_in o.roots) depth offset in
      let of_nodes = put_over e.records o.nodes depth offset in
      elim (some_or_none (values_in e.records depth offset)) [
        | inl (twig, there) ↦
            let roots_is = of_roots ∙ ap (λ v. or_value v (values_in o.roots depth offset)) there in
            let nodes_is = of_nodes ∙ ap (λ v. or_value v (o.nodes depth offset)) there in
            ap twig_by roots_is ∙ sym (ap twig_by nodes_is)
        | inr none ↦
            let roots_is = of_roots ∙ ap (λ v. or_value v (values_in o.roots depth offset)) none in
            let nodes_is = of_nodes ∙ ap (λ v. or_value v (o.nodes depth offset)) none in
            let known = stored_value (known_after o e depth offset) (root_known depth offset root) in
            ap twig_by known.1 ∙ sym (root_before depth offset known.0 (sym roots_is ∙ known.1)) ∙ sym (ap twig_by nodes_is)
      ]

  -- each root after is a record or was a root, so the nodes have it
  pub rooted_after : IsRooted (entry_after o e)
  rooted_after = roots_alike e.head.length (known_after o e) (with_nodes o.nodes e.records) root_after

  -- the roots stay with the length, where no record changes one
  pub roots_stay : e.head.length ≡ o.head.length → LeavesRoots o e → (entry_after o e).roots ≡ o.roots
  roots_stay long leaves =
      rooted_after ∙ ap (roots_at (with_nodes o.nodes e.records)) long ∙ roots_alike o.head.length (with_nodes o.nodes e.records) o.nodes stays ∙ sym rooted
    where
      stays : (depth offset : ℕ) → IsFullRoot o.head.length depth offset → twig_at (with_nodes o.nodes e.records) depth offset ≡ twig_at o.nodes depth offset
      stays depth offset root =
          let over = put_over e.records o.nodes depth offset in
          elim (some_or_none (values_in e.records depth offset)) [
            | inl (twig, there) ↦ ap twig_by (over ∙ ap (λ v. or_value v (o.nodes depth offset)) there) ∙ sym (leaves depth offset twig root there)
            | inr none ↦ ap twig_by (over ∙ ap (λ v. or_value v (o.nodes depth offset)) none)
          ]

  -- ---- the history

  -- so a clearing and a fetched block keep the root hash
  pub root_hash_kept : LeavesRoots o e → KeepsRoot (entry_of e.commit (root_hash_of (entry_after o e).roots)) (short_of o)
  root_hash_kept leaves = by_commit e.commit (follows_words o e on).length
    where
      by_commit : (commit : Commit) → e.head.length ≡ (changed commit (short_of o)).length
          → KeepsRoot (entry_of commit (root_hash_of (entry_after o e).roots)) (short_of o)
      by_commit (Clear from to) long = same_roots_kept o (Clear from to) (entry_after o e).roots (roots_stay long leaves)
      by_commit (Fetch index) long = same_roots_kept o (Fetch index) (entry_after o e).roots (roots_stay long leaves)
      by_commit other long = tt

  -- the entry is a legal step from the content before to the one after
  pub followed_keeps : (area now : List ℕ) → KeepsRoot (entry_of e.commit (root_hash_of (entry_after o e).roots)) (short_of o)
      → KeepsHistory (content_in area o) (content_in now (entry_after o e)) (Some e.commit)
  followed_keeps area now keeps =
      let words = follows_words o e on in
      let before = sym (summary_in area o rooted) in
      let root_is = ap root_hash_of (sym (roots_in now (entry_after o e) rooted_after)) in
      let may : MayFollow core_limits (short_of o) (entry_of e.commit (root_hash_of (entry_after o e).roots)) = (words.in_range, keeps) in
      let so : short_of (entry_after o e) ≡ stepped (short_of o) (root_hash_of (entry_after o e).roots) =
      ap (λ (fork : ℕ). summary_with fork e.head.length) words.fork ∙ ap (summary_with (changed e.commit (short_of o)).fork) words.length in (
        subst (λ (root : List ℕ). MayFollow core_limits (summary_of (content_in area o)) (entry_of e.commit root)) root_is
            (subst (λ (s : Summary). MayFollow core_limits s (entry_of e.commit (root_hash_of (entry_after o e).roots))) before may),
        summary_in now (entry_after o e) rooted_after
            ∙ so
            ∙ ap (λ (s : Summary). stepped s (root_hash_of (entry_after o e).roots)) before
            ∙ ap (stepped (summary_of (content_in area o))) root_is,
      )
    where
      stepped : Summary → List ℕ → Summary
      stepped s root = record (changed e.commit s) { root = root }

      summary_with : ℕ → ℕ → Summary
      summary_with fork blocks =
          record { fork = fork; length = blocks; root = root_hash_of (entry_after o e).roots; held = (changed e.commit (short_of o)).held }
