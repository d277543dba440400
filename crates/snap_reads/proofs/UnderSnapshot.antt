-- What was read under a snapshot of a view that shows its content is what the content answers under it.
use Rattle.std.proofs.Common.{◌≡◌, ℕ, true, false, ◌/◌, ◌^◌, ◌<◌, inl, inr, IsTrue, List, take, refl, sym, ap, ◌∙◌}
use Rattle.std.specs.Prelude.{Ok, Err, is_some}
use Rattle.std.proofs.lemmas.Bool.{lt-ltb}
use Rattle.flat_tree.specs.Subtrees.{number}
use Rattle.flat_tree.specs.Roots.{depth_over}
use Rattle.flat_tree.proofs.NumberLemmas.{same_depth, same_place}
use Rattle.flat_tree.proofs.OverLemmas.{root-over}
use Rattle.merkle_nodes.specs.declared.node.Node.{Node}
use Rattle.merkle_nodes.specs.Roots.{HasShape, twig_of}
use Rattle.merkle_nodes.specs.Fold.{IsRootOver}
use Rattle.node_set.specs.declared.fault.CoreFault.TheVariants.{Unavailable}
use Rattle.node_set.specs.Contents.{held}
use Rattle.node_set.specs.Closure.{in_closure}
use Rattle.node_set.specs.Whole.{IsSound}
use Rattle.node_set.specs.Same.{is_stored_as}
use Rattle.node_set.proofs.RootTruth.{some_or_none}
use Rattle.core_snap.specs.declared.snapshot.ReadAt.{ReadAt}
use Rattle.core_snap.specs.declared.snapshot.Snapshot.{Snapshot}
use Rattle.core_snap.specs.Reads.{snap_read}
use Rattle.core_snap.proofs.WayLemmas.{root_number}
use Rattle.log_view.specs.Views.{Source}
use Rattle.snap_reads.specs.Reads.{GivesRead, HasRootOver, LacksRoot, LacksRootOver}
use Rattle.snap_reads.proofs.Shown.{compared_same, compared_other, trail_shown}

module _ (s : Source) (shows : IsTrue s.shows) (snap : Snapshot) (index : ℕ) (shape : HasShape snap.roots snap.length) (within : index < snap.length) where
  abbrev levels : ℕ
  levels = depth_over snap.length index

  numbered : (root : Node) → IsRootOver snap.roots snap.length index root → root.index ≡ number levels (index / 2 ^ levels)
  numbered root over = root_number snap.roots snap.length _ levels (index / 2 ^ levels) root shape over (root-over snap.length index within)

  pub snap_shown : (buffer : List ℕ) (read : ReadAt) → HasRootOver s snap.roots snap.length index → GivesRead s index levels buffer read
      → snap_read s.content snap index ≡ Ok (record { block = take read.len buffer; trail = read.trail })
  snap_shown buffer read (root, over, (node, given, same)) gives =
      let stored = given.shown shows levels (index / 2 ^ levels) (sym (numbered root over)) in
      rw (lt-ltb _ _ within, over, stored, compared_same _ _ same, gives.is_leaf.block.shown shows, sym (trail_shown s shows index levels read.trail gives.siblings)) refl

  not_stored : IsSound s.content → (root : Node) → IsRootOver snap.roots snap.length index root → LacksRoot s root
      → is_stored_as (s.content.node levels (index / 2 ^ levels)) (twig_of root) ≡ false
  not_stored sound root over (inr (node, given, differ)) =
      let stored = given.shown shows levels (index / 2 ^ levels) (sym (numbered root over)) in
      rw stored (compared_other _ _ differ)
  not_stored sound root over (inl absent) = elim (some_or_none (s.content.node levels (index / 2 ^ levels))) [
    | inr none ↦ rw none refl
    | inl (twig, some) ↦
        let here : in_closure s.content.length (held s.content) levels (index / 2 ^ levels) ≡ true =
        sym (sound.closed levels (index / 2 ^ levels)) ∙ ap is_some some in
        absurd (absent (λ depth offset is.
        let same = is ∙ numbered root over in
        let deep = same_depth depth offset levels (index / 2 ^ levels) same in
        let wide = same_place depth offset (index / 2 ^ levels) (same ∙ ap (λ (d : ℕ). number d (index / 2 ^ levels)) (sym deep)) in
        rw (deep, wide) here))
  ]

  pub snap_lost : IsSound s.content → LacksRootOver s snap.roots snap.length index → snap_read s.content snap index ≡ Err (Unavailable index)
  snap_lost sound (root, over, lacks) = rw (lt-ltb _ _ within, over, not_stored sound root over lacks) refl
