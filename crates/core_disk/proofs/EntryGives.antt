-- What an entry gives: where a content was opened, the entry of a change follows, and gives the content after it.
use Rattle.std.proofs.Common.{◌≡◌, ℕ, Bool, true, false, inl, inr, List, [], ◌∷◌, map, Some, None, refl, sym, ap, subst, ◌∙◌}
use Rattle.std.specs.Prelude.{is_some, not, ◌&&◌, ◌||◌}
use Rattle.std.specs.List.{AllByRecursion, Contains}
use Rattle.std.proofs.lemmas.Bool.{cases_Bool}
use Rattle.std.proofs.lemmas.Option.{slice_get_within, slice_get-get_or}
use mathlib.Core.Path.{fun_ext}
use Rattle.flat_tree.specs.Subtrees.{Subtree, subtree}
use Rattle.flat_tree.specs.Roots.{full_roots_of}
use Rattle.commit_book.specs.declared.commit.Commit.{Commit}
use Rattle.commit_book.specs.History.{Summary, IsInRange, changed}
use Rattle.merkle_nodes.specs.declared.node.Node.{Node}
use Rattle.merkle_nodes.specs.declared.roots.Head.{Head}
use Rattle.merkle_nodes.specs.Joined.{Values, or_value}
use Rattle.merkle_nodes.specs.Nodes.{AreNodes}
use Rattle.merkle_nodes.specs.Roots.{root_hash_of}
use Rattle.oplog_form.specs.declared.entry.Entry.{Entry}
use Rattle.node_set.specs.Contents.{Content, held, twig_at, node_at, roots, roots_at, summary_of}
use Rattle.node_set.specs.Closure.{in_closure, is_root, IsFullRoot}
use Rattle.node_set.specs.Same.{is_stored_as}
use Rattle.node_set.specs.Whole.{IsSound}
use Rattle.node_set.specs.Legal.{core_limits, KeepsHistory}
use Rattle.node_set.proofs.ClosureLemmas.{root_in_closure, root_true, true_root}
use Rattle.node_set.proofs.RootTruth.{twig_at-some, some_or_none, root_among}
use Rattle.node_set.proofs.SoundLemmas.{stored_value, all_roots, roots_same}
use Rattle.node_set.proofs.Stored.{some_same}
use Rattle.core_snap.proofs.WayLemmas.{stored_is}
use Rattle.core_state.proofs.PutNodes.{put_has}
use Rattle.core_state.proofs.AdmitShows.{put_over}
use Rattle.core_disk.specs.Opened.{Opened, short_of, values_in, known_after, entry_after}
use Rattle.core_disk.specs.Following.{Follows, AreKnown}
use Rattle.core_disk.specs.Standing.{IsOpenedAs}
use Rattle.core_disk.specs.Written.{is_new, IsEntryOf}

-- ---- roots as values

-- each subtree's node, whether it is stored or not
abbrev pub own : Values → Values
own value depth offset = Some (twig_at value depth offset)

pub own_nodes : (value : Values) (trees : List Subtree) → AreNodes (own value) trees (map (λ (tree : Subtree). node_at value tree.depth tree.offset) trees)
own_nodes value [] = refl
own_nodes value (tree ∷ trees) = ap (λ ns. Some (node_at value tree.depth tree.offset) ∷ ns) (own_nodes value trees)

-- a full root is among the roots of its length
among : (n depth offset : ℕ) → IsFullRoot n depth offset → Contains (full_roots_of n) (subtree depth offset)
among n depth offset root =
    let place = root_among n depth offset root.within root.largest in
    let less = slice_get_within (full_roots_of n) place.0 (subtree depth offset) place.1 in
    let same = slice_get-get_or (full_roots_of n) place.0 (subtree depth offset) less in
    (place.0, less, some_same _ _ (sym same ∙ place.1))

pub root_value : (value : Values) (n depth offset : ℕ) → IsFullRoot n depth offset → values_in (roots_at value n) depth offset ≡ Some (twig_at value depth offset)
root_value value n depth offset root =
    put_has (full_roots_of n) (roots_at value n) (own value) (λ d o. None) depth offset (own_nodes value (full_roots_of n)) (among n depth offset root)

-- ---- nodes that are not written

-- a test that is false where its first part holds
kept_as : (new same root was : Bool) → new ≡ true → (new && (not same || (root && not was))) ≡ false → same ≡ true
kept_as new true root was here none = refl
kept_as new false root was here none = let clash : true ≡ false = rw here at none in cc

kept_root : (new same root was : Bool) → new ≡ true → root ≡ true → (new && (not same || (root && not was))) ≡ false → was ≡ true
kept_root new same root true here there none = refl
kept_root new true root false here there none = let clash : true ≡ false = rw (here, there) at none in cc
kept_root new false root false here there none = let clash : true ≡ false = rw here at none in cc

module _ (m after : Content) (commit : Commit) (e : Entry) (is : IsEntryOf m commit after e) (depth offset : ℕ) (stored : is_some (after.node depth offset) ≡ true)
    (unwritten : values_in e.records depth offset ≡ None) where
  not_new : is_new m after depth offset ≡ false
  not_new = elim (cases_Bool (is_new m after depth offset)) [
    | inr none ↦ none
    | inl new ↦
        let value = stored_value (after.node depth offset) stored in
        let clash : None ≡ Some value.0 = sym unwritten ∙ is.new depth offset new ∙ value.1 in cc
  ]

  -- it was stored before with the same size and hash
  pub was_stored : m.node depth offset ≡ after.node depth offset
  was_stored =
      let value = stored_value (after.node depth offset) stored in
      let twig = twig_at after.node depth offset in
      let same = kept_as (is_some (after.node depth offset)) (is_stored_as (m.node depth offset) twig) (is_root after.length depth offset)
      (is_root m.length depth offset) stored not_new in
      stored_is (m.node depth offset) twig same ∙ ap Some (twig_at-some after.node depth offset value.0 value.1) ∙ sym value.1

  -- and a root was one
  pub was_root : IsFullRoot after.length depth offset → IsFullRoot m.length depth offset
  was_root root =
      true_root m.length depth offset (kept_root (is_some (after.node depth offset)) (is_stored_as (m.node depth offset) (twig_at after.node depth offset))
      (is_root after.length depth offset) (is_root m.length depth offset) stored (root_true after.length depth offset root) not_new)

-- ---- an entry

-- a summary by its parts
abbrev summary_with : ℕ → ℕ → List ℕ → (ℕ → Bool) → Summary
summary_with fork blocks root set = record { fork = fork; length = blocks; root = root; held = set }

module _ (o : Opened) (m : Content) (opened : IsOpenedAs o m) where
  pub short_is : short_of o ≡ summary_of m
  short_is =
      ap (λ (h : Head). summary_with h.fork h.length (root_hash_of o.roots) o.held) opened.head
      ∙ ap (λ (ns : List Node). summary_with m.fork m.length (root_hash_of ns) o.held) opened.roots_are
      ∙ ap (summary_with m.fork m.length (root_hash_of (roots m))) (fun_ext opened.held_are)

  module _ (sound : IsSound m) (commit : Commit) (after : Content) (legal : KeepsHistory m after (Some commit)) (sound_after : IsSound after)
      (e : Entry) (is : IsEntryOf m commit after e) where
    summary_is : summary_of after ≡ record (changed e.commit (short_of o)) { root = root_hash_of (roots after) }
    summary_is =
        legal.1
        ∙ ap (λ (c : Commit). record (changed c (summary_of m)) { root = root_hash_of (roots after) }) (sym is.commit_is)
        ∙ ap (λ (s : Summary). record (changed e.commit s) { root = root_hash_of (roots after) }) (sym short_is)

    -- a node that is stored after the change is the record's or the one that was there
    over : (start : Values) (depth offset : ℕ) → is_some (after.node depth offset) ≡ true
        → (values_in e.records depth offset ≡ None → start depth offset ≡ after.node depth offset)
        → or_value (values_in e.records depth offset) (start depth offset) ≡ after.node depth offset
    over start depth offset stored kept = elim (some_or_none (values_in e.records depth offset)) [
      | inl some ↦ rw some.1 (sym (is.stored depth offset some.0 some.1))
      | inr none ↦ rw none (kept none)
    ]

    stored_in : (depth offset : ℕ) → in_closure after.length (held after) depth offset ≡ true → is_some (after.node depth offset) ≡ true
    stored_in depth offset test = sound_after.closed depth offset ∙ test

    -- the roots after
    known_is : (depth offset : ℕ) → IsFullRoot after.length depth offset → known_after o e depth offset ≡ after.node depth offset
    known_is depth offset root =
        let stored = stored_in depth offset (root_in_closure after.length (held after) depth offset root) in
        put_over e.records (values_in o.roots) depth offset ∙ over (values_in o.roots) depth offset stored (λ none.
        let was = was_stored m after commit e is depth offset stored none in
        let value = stored_value (after.node depth offset) stored in
        ap (λ (ns : List Node). values_in ns depth offset) opened.roots_are
        ∙ root_value m.node m.length depth offset (was_root m after commit e is depth offset stored none root)
        ∙ ap Some (twig_at-some m.node depth offset value.0 (was ∙ value.1)) ∙ sym value.1)

    length_is : e.head.length ≡ after.length
    length_is = ap (λ (h : Head). h.length) is.head_is

    each_known : (trees : List Subtree) → AllByRecursion (λ (tree : Subtree). IsFullRoot after.length tree.depth tree.offset) trees
        → AllByRecursion (λ (tree : Subtree). is_some (known_after o e tree.depth tree.offset) ≡ true) trees
    each_known [] all = tt
    each_known (tree ∷ trees) all =
        let stored = stored_in tree.depth tree.offset (root_in_closure after.length (held after) tree.depth tree.offset all.0) in
        (ap is_some (known_is tree.depth tree.offset all.0) ∙ stored, each_known trees all.1)

    pub entry_follows : Follows o e
    entry_follows = record {
      in_range = subst (λ (s : Summary). IsInRange core_limits e.commit s) (sym short_is)
          (subst (λ (c : Commit). IsInRange core_limits c (summary_of m)) (sym is.commit_is) legal.0.0);
      fork = ap (λ (h : Head). h.fork) is.head_is ∙ ap (λ (s : Summary). s.fork) summary_is;
      length = length_is ∙ ap (λ (s : Summary). s.length) summary_is;
      roots = subst (AreKnown (known_after o e)) (sym length_is) (each_known (full_roots_of after.length) (all_roots after.length));
    }

    pub entry_gives : IsOpenedAs (entry_after o e) after
    entry_gives = record {
      head = is.head_is;
      roots_are = ap (roots_at (known_after o e)) length_is ∙ roots_same after.length (known_after o e) after.node known_is;
      held_are = λ index. sym (ap (λ (s : Summary). s.held index) summary_is);
      nodes = λ depth offset test.
          let stored = stored_in depth offset test in
          put_over e.records o.nodes depth offset ∙ over o.nodes depth offset stored (λ none.
          let was = was_stored m after commit e is depth offset stored none in
          opened.nodes depth offset (sym (sound.closed depth offset) ∙ ap is_some was ∙ stored) ∙ was);
    }
