-- What was read of a view that shows its content is what the content answers.
use Rattle.std.proofs.Common.{◌≡◌, ◌≢◌, ℕ, zero, suc, true, false, ◌/◌, ◌^◌, ◌<◌, inl, inr, IsTrue, List, length, take, Some, refl, sym, ap, subst, ◌∙◌, add-one}
use Rattle.std.specs.Prelude.{Ok, Err}
use Rattle.std.proofs.lemmas.Bool.{cases_Bool, eq-eqb}
use Rattle.std.proofs.lemmas.Slice.Eq.{bytes_eq-Decides}
use Rattle.flat_tree.specs.Roots.{place_over, depth_over}
use Rattle.flat_tree.proofs.OverLemmas.{root-over}
use Rattle.merkle_nodes.specs.declared.node.Node.{Node}
use Rattle.merkle_nodes.specs.declared.node.Twig.{Twig}
use Rattle.merkle_nodes.specs.Tree.{leaf_of}
use Rattle.merkle_nodes.specs.Roots.{twig_of}
use Rattle.merkle_nodes.specs.Fold.{IsRootOver, Proves}
use Rattle.node_set.specs.declared.fault.CoreFault.{CoreFault}
use Rattle.node_set.specs.Contents.{Content, roots, twig_at}
use Rattle.node_set.specs.Paths.{trail_at, sibling_of}
use Rattle.node_set.specs.Same.{is_same}
use Rattle.node_set.proofs.RootTruth.{twig_at-some}
use Rattle.node_set.proofs.Stored.{some_same}
use Rattle.core_snap.specs.declared.snapshot.ReadAt.{ReadAt}
use Rattle.core_snap.specs.Reads.{checked_read, read_over, read_of}
use Rattle.core_snap.proofs.FoldLemmas.{trail_at-more}
use Rattle.core_snap.proofs.WayLemmas.{stored_is, read_of_over}
use Rattle.log_view.specs.Views.{Source}
use Rattle.snap_reads.specs.Reads.{GivesTrail, GivesRead, LeafDiffers, RootDiffers}

pub compared_same : (one other : Twig) → one ≡ other → is_same one other ≡ true
compared_same one other same =
    let itself : is_same one one ≡ true = rw (eq-eqb one.size one.size refl, (bytes_eq-Decides one.hash one.hash).1 refl) refl in
    subst (λ (t : Twig). is_same one t ≡ true) same itself

pub compared_other : (one other : Twig) → one ≢ other → is_same one other ≡ false
compared_other one other differ = elim (cases_Bool (is_same one other)) [
  | inr is ↦ is
  | inl same ↦ absurd (differ (some_same _ _ (stored_is (Some one) other same)))
]

-- the siblings that are given are the content's
pub trail_shown : (s : Source) → IsTrue s.shows → (index levels : ℕ) (trail : List Twig) → GivesTrail s index levels trail → trail ≡ trail_at s.content.node 0 index levels
unfolding GivesTrail
trail_shown s shows index zero trail is = is
trail_shown s shows index (suc level) trail (lower, node, below, here, sum) =
    let value = twig_at-some s.content.node level (sibling_of (index / 2 ^ level)) (twig_of node) (here.shown shows level (sibling_of (index / 2 ^ level)) refl) in
    sum ∙ trail_at-more s.content.node index level lower (twig_of node) value (trail_shown s shows index level lower below) ∙ ap (trail_at s.content.node 0 index) (add-one level)

-- a content's block, leaf and siblings are checked against the root over it
checked : (m : Content) (index : ℕ) (root : Node) (leaf : Twig) (block : List ℕ) (trail : List Twig) → index < m.length → IsRootOver (roots m) m.length index root
    → m.block index ≡ Some block → twig_at m.node 0 index ≡ leaf → trail ≡ trail_at m.node 0 index (depth_over m.length index)
    → read_of m index ≡ checked_read root leaf trail index block
checked m index root leaf block trail within over block_is leaf_is trail_is =
    let levels = depth_over m.length index in
    let read : read_over m root levels index ≡ checked_read root (twig_at m.node 0 index) (trail_at m.node 0 index levels) index block = rw block_is refl in
    sym (read_of_over m (place_over m.length index) levels index root within refl over (root-over m.length index within))
    ∙ read
    ∙ ap (λ (w : Twig). checked_read root w (trail_at m.node 0 index levels) index block) leaf_is
    ∙ ap (λ (t : List Twig). checked_read root leaf t index block) (sym trail_is)

module _ (s : Source) (shows : IsTrue s.shows) (index : ℕ) (buffer : List ℕ) where
  read_checked : (root : Node) (read : ReadAt) → index < s.content.length → IsRootOver (roots s.content) s.content.length index root
      → GivesRead s index (depth_over s.content.length index) buffer read
      → read_of s.content index ≡ checked_read root (leaf_of (take read.len buffer)) read.trail index (take read.len buffer)
  read_checked root read within over gives =
      let leaf = twig_at-some s.content.node 0 index (twig_of gives.leaf) (gives.is_leaf.given.shown shows 0 index refl) ∙ gives.is_leaf.same in
      checked s.content index root _ _ _ within over (gives.is_leaf.block.shown shows) leaf (trail_shown s shows index _ read.trail gives.siblings)

  pub shown_read : (read : ReadAt) → GivesRead s index (length read.trail) buffer read
      → Proves s.content.length (roots s.content) index (take read.len buffer) read.trail
      → read_of s.content index ≡ Ok (record { block = take read.len buffer; trail = read.trail })
  shown_read read gives is =
      let at_levels = subst (λ (l : ℕ). GivesRead s index l buffer read) is.path gives in
      let leaf = leaf_of (take read.len buffer) in
      read_checked is.root read is.within is.over at_levels ∙ rw (compared_same leaf leaf refl, compared_same _ _ is.folds) refl

  pub shown_root : (root : Node) (fault : CoreFault) → index < s.content.length → IsRootOver (roots s.content) s.content.length index root
      → RootDiffers s root (depth_over s.content.length index) index buffer fault → read_of s.content index ≡ Err fault
  shown_root root fault within over damage =
      let leaf = leaf_of (take damage.read.len buffer) in
      read_checked root damage.read within over damage.gives ∙ rw (compared_same leaf leaf refl, compared_other _ _ damage.differs) refl ∙ ap Err (sym damage.fault_is)

  pub shown_leaf : (root : Node) (fault : CoreFault) → index < s.content.length → IsRootOver (roots s.content) s.content.length index root
      → LeafDiffers s index buffer fault → read_of s.content index ≡ Err fault
  shown_leaf root fault within over damage =
      let kept = twig_at-some s.content.node 0 index (twig_of damage.kept) (damage.given.shown shows 0 index refl) in
      checked s.content index root (twig_of damage.kept) (take damage.len buffer) _ within over (damage.block.shown shows) kept refl
      ∙ rw (compared_other (twig_of damage.kept) (leaf_of (take damage.len buffer)) damage.differs) refl
      ∙ ap Err (sym damage.fault_is)
