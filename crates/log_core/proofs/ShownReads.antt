-- What is read of a log that shows a sound content is what the content answers.
use Rattle.std.proofs.Common.{◌≡◌, ◌≢◌, ℕ, zero, suc, Bool, true, false, ◌/◌, ◌^◌, ◌<◌, inl, inr, List, length, take, Option, Some, None, refl, sym, ap, ◌∙◌, add-one, arith}
use Rattle.std.specs.Prelude.{Ok, Err, IsTrue, is_some}
use Rattle.std.proofs.lemmas.Bool.{cases_Bool, cases_lt, lt-ltb, le-ltb, le-leb, lt-leb, eq-eqb}
use Rattle.std.proofs.lemmas.Slice.Eq.{bytes_eq-Decides}
use Rattle.flat_tree.specs.Subtrees.{number}
use Rattle.flat_tree.specs.Roots.{place_over, depth_over}
use Rattle.flat_tree.proofs.OverLemmas.{root-over}
use Rattle.merkle_nodes.specs.declared.node.Node.{Node}
use Rattle.merkle_nodes.specs.declared.node.Twig.{Twig}
use Rattle.merkle_nodes.specs.Tree.{leaf_of}
use Rattle.merkle_nodes.specs.Roots.{twig_of, HasShape}
use Rattle.merkle_nodes.specs.Fold.{fold_from, IsRootOver, Proves}
use Rattle.node_set.specs.declared.fault.CoreFault.{CoreFault}
use Rattle.node_set.specs.declared.fault.CoreFault.TheVariants.{OutOfRange, Unavailable}
use Rattle.node_set.specs.Contents.{Content, held, roots}
use Rattle.node_set.specs.Paths.{trail_at, sibling_of}
use Rattle.node_set.specs.Same.{is_stored_as}
use Rattle.node_set.specs.Whole.{IsSound}
use Rattle.node_set.proofs.RootTruth.{twig_at-some}
use Rattle.node_set.proofs.Stored.{some_same, stored_within}
use Rattle.core_snap.specs.declared.snapshot.Snapshot.{Snapshot}
use Rattle.core_snap.specs.declared.snapshot.ReadAt.{ReadAt}
use Rattle.core_snap.specs.Causes.{read_refusal}
use Rattle.core_snap.specs.Reads.{has_root_over, get_of, snap_read}
use Rattle.core_snap.proofs.FoldLemmas.{trail_at-more}
use Rattle.core_snap.proofs.SameLemmas.{way_folds}
use Rattle.core_snap.proofs.WayLemmas.{root_stored, root_number, stored_is}
use Rattle.log_view.specs.Views.{Source}
use Rattle.log_view.proofs.StoredNodes.{stored_number}
use Rattle.snap_reads.specs.Reads.{GivesTrail, GivesRead, LeafDiffers, RootDiffers, IsDamage, HasRoot, HasRootOver, LacksRoot, LacksRootOver}

-- ---- answers of a content

-- a read that is refused
pub get_refused : (m : Content) (index : ℕ) (fault : CoreFault) → read_refusal m.length (held m) index ≡ Some fault → get_of m index ≡ Err fault
get_refused m index fault is = elim (cases_lt index m.length) [
  | inr past ↦
      let first : read_refusal m.length (held m) index ≡ Some (OutOfRange m.length) = rw (le-leb m.length index past) refl in
      let none : get_of m index ≡ Err (OutOfRange m.length) = rw (le-ltb index m.length past) refl in
      none ∙ ap Err (some_same _ _ (sym first ∙ is))
  | inl within ↦ by_block (m.block index) refl within
]
  where
    by_block : (found : Option (List ℕ)) → m.block index ≡ found → index < m.length → get_of m index ≡ Err fault
    by_block (Some bytes) there within =
        let none : read_refusal m.length (held m) index ≡ None = rw (lt-leb m.length index within, there) refl in
        let clash : None ≡ Some fault = sym none ∙ is in
        cc
    by_block None there within =
        let first : read_refusal m.length (held m) index ≡ Some (Unavailable index) = rw (lt-leb m.length index within, there) refl in
        let none : get_of m index ≡ Err (Unavailable index) = rw (lt-ltb index m.length within, there) refl in
        none ∙ ap Err (some_same _ _ (sym first ∙ is))

pub get_ok : (m : Content) (index : ℕ) (bytes : List ℕ) → index < m.length → m.block index ≡ Some bytes
    → get_of m index ≡ Ok (record { block = bytes; trail = trail_at m.node 0 index (depth_over m.length index) })
get_ok m index bytes within there = rw (lt-ltb index m.length within, there) refl

-- ---- what a view gives

module _ (s : Source) (shows : IsTrue s.shows) (sound : IsSound s.content) (index : ℕ) where
  -- the siblings are the content's
  pub trail_shown : (levels : ℕ) (trail : List Twig) → GivesTrail s index levels trail → trail ≡ trail_at s.content.node 0 index levels
  unfolding GivesTrail
  trail_shown zero trail is = is
  trail_shown (suc level) trail (lower, node, below, here, sum) =
      let value = twig_at-some s.content.node level (sibling_of (index / 2 ^ level)) (twig_of node) (here.shown shows level (sibling_of (index / 2 ^ level)) refl) in
      sum ∙ trail_at-more s.content.node index level lower (twig_of node) value (trail_shown level lower below) ∙ ap (trail_at s.content.node 0 index) (add-one level)

  -- the leaf is that of the block
  no_leaf : (buffer : List ℕ) (fault : CoreFault) → LeafDiffers s index buffer fault → ⊥
  no_leaf buffer fault damage =
      damage.differs (some_same _ _ (sym (damage.given.shown shows 0 index refl) ∙ sound.leaves index _ (damage.block.shown shows)))

  -- a block and its siblings fold to the node that is stored over them
  no_root : (root : Node) (levels : ℕ) (buffer : List ℕ) (fault : CoreFault) → s.content.node levels (index / 2 ^ levels) ≡ Some (twig_of root)
      → RootDiffers s root levels index buffer fault → ⊥
  no_root root levels buffer fault top damage =
      let bytes = take damage.read.len buffer in
      let block = damage.gives.is_leaf.block.shown shows in
      let inside = stored_within s.content sound.closed levels (index / 2 ^ levels) (twig_of root) top in
      let way = way_folds s.content sound index levels (ap is_some block) inside (leaf_of bytes) (sound.leaves index bytes block) levels 0 (omega arith) in
      damage.differs (ap (fold_from index (leaf_of bytes)) (trail_shown levels damage.read.trail damage.gives.siblings) ∙ some_same _ _ (sym way ∙ top))

  -- nothing is damaged under roots of which the one over the block is stored
  pub no_damage : (nodes : List Node) (blocks : ℕ) (buffer : List ℕ) (fault : CoreFault)
      → ((root : Node) → index < s.content.length → IsRootOver nodes blocks index root
      → s.content.node (depth_over blocks index) (index / 2 ^ depth_over blocks index) ≡ Some (twig_of root))
      → IsDamage s nodes blocks index buffer fault → ⊥
  no_damage nodes blocks buffer fault tops (inl leaf) = no_leaf buffer fault leaf
  no_damage nodes blocks buffer fault tops (inr (root, over, differs)) =
      let within = sound.blocks.below index _ (differs.gives.is_leaf.block.shown shows) in
      no_root root (depth_over blocks index) buffer fault (tops root within over) differs

  -- the content's own root is stored
  pub own_root : (root : Node) → index < s.content.length → IsRootOver (roots s.content) s.content.length index root
      → s.content.node (depth_over s.content.length index) (index / 2 ^ depth_over s.content.length index) ≡ Some (twig_of root)
  own_root root within over =
      root_stored s.content (place_over s.content.length index) (depth_over s.content.length index) index root sound within refl over (root-over s.content.length index within)

  -- a read is the content's
  pub get_given : (buffer : List ℕ) (read : ReadAt) → GivesRead s index (length read.trail) buffer read
      → Proves s.content.length (roots s.content) index (take read.len buffer) read.trail
      → Ok (record { block = take read.len buffer; trail = read.trail }) ≡ get_of s.content index
  get_given buffer read gives is =
      let trail = trail_shown (length read.trail) read.trail gives.siblings ∙ ap (trail_at s.content.node 0 index) is.path in
      ap (λ (t : List Twig). Ok (record { block = take read.len buffer; trail = t })) trail
      ∙ sym (get_ok s.content index (take read.len buffer) is.within (gives.is_leaf.block.shown shows))

-- ---- under a snapshot

stored_as : (twig : Twig) → is_stored_as (Some twig) twig ≡ true
stored_as twig = rw (eq-eqb twig.size twig.size refl, (bytes_eq-Decides twig.hash twig.hash).1 refl) refl

pub snap_refused : (m : Content) (snap : Snapshot) (index : ℕ) (fault : CoreFault) → read_refusal snap.length (held m) index ≡ Some fault
    → snap_read m snap index ≡ Err fault
snap_refused m snap index fault is = elim (cases_lt index snap.length) [
  | inr past ↦
      let first : read_refusal snap.length (held m) index ≡ Some (OutOfRange snap.length) = rw (le-leb snap.length index past) refl in
      let none : snap_read m snap index ≡ Err (OutOfRange snap.length) = rw (le-ltb index snap.length past) refl in
      none ∙ ap Err (some_same _ _ (sym first ∙ is))
  | inl within ↦ by_block (m.block index) (has_root_over m snap index) refl refl within
]
  where
    by_block : (found : Option (List ℕ)) (stored : Bool) → m.block index ≡ found → has_root_over m snap index ≡ stored → index < snap.length
        → snap_read m snap index ≡ Err fault
    by_block (Some bytes) stored there top within =
        let none : read_refusal snap.length (held m) index ≡ None = rw (lt-leb snap.length index within, there) refl in
        let clash : None ≡ Some fault = sym none ∙ is in
        cc
    by_block None true there top within =
        let first : read_refusal snap.length (held m) index ≡ Some (Unavailable index) = rw (lt-leb snap.length index within, there) refl in
        let none : snap_read m snap index ≡ Err (Unavailable index) = rw (lt-ltb index snap.length within, there, top) refl in
        none ∙ ap Err (some_same _ _ (sym first ∙ is))
    by_block None false there top within =
        let first : read_refusal snap.length (held m) index ≡ Some (Unavailable index) = rw (lt-leb snap.length index within, there) refl in
        let none : snap_read m snap index ≡ Err (Unavailable index) = rw (lt-ltb index snap.length within, there, top) refl in
        none ∙ ap Err (some_same _ _ (sym first ∙ is))

module _ (s : Source) (shows : IsTrue s.shows) (sound : IsSound s.content) (snap : Snapshot) (shape : HasShape snap.roots snap.length) (index : ℕ) (within : index < snap.length) where
  -- a root that was given is stored
  pub snap_root : (root : Node) → IsRootOver snap.roots snap.length index root → HasRoot s root
      → s.content.node (depth_over snap.length index) (index / 2 ^ depth_over snap.length index) ≡ Some (twig_of root)
  snap_root root over (node, given, same) =
      let numbered = root_number snap.roots snap.length _ (depth_over snap.length index) (index / 2 ^ depth_over snap.length index) root shape over (root-over snap.length index within) in
      given.shown shows (depth_over snap.length index) (index / 2 ^ depth_over snap.length index) (sym numbered) ∙ ap Some same

  top_over : (root : Node) → IsRootOver snap.roots snap.length index root
      → s.content.node (depth_over snap.length index) (index / 2 ^ depth_over snap.length index) ≡ Some (twig_of root)
      → has_root_over s.content snap index ≡ true
  top_over root over top = rw (over, top) (stored_as (twig_of root))

  -- a read under a snapshot is the content's
  pub snap_given : (buffer : List ℕ) (read : ReadAt) → GivesRead s index (length read.trail) buffer read
      → Proves snap.length snap.roots index (take read.len buffer) read.trail → HasRootOver s snap.roots snap.length index
      → Ok (record { block = take read.len buffer; trail = read.trail }) ≡ snap_read s.content snap index
  snap_given buffer read gives is (root, over, has) =
      let trail = trail_shown s shows sound index (length read.trail) read.trail gives.siblings ∙ ap (trail_at s.content.node 0 index) is.path in
      let block = gives.is_leaf.block.shown shows in
      let content : snap_read s.content snap index ≡ Ok (record { block = take read.len buffer; trail = trail_at s.content.node 0 index (depth_over snap.length index) })
      = rw (lt-ltb index snap.length within, block, top_over root over (snap_root root over has)) refl in
      ap (λ (t : List Twig). Ok (record { block = take read.len buffer; trail = t })) trail ∙ sym content

  -- where the root over the block isn't stored as it was, the block is unavailable
  pub snap_lacks : LacksRootOver s snap.roots snap.length index → snap_read s.content snap index ≡ Err (Unavailable index)
  snap_lacks (root, over, lacks) =
      let numbered = root_number snap.roots snap.length _ (depth_over snap.length index) (index / 2 ^ depth_over snap.length index) root shape over (root-over snap.length index within) in
      by_top root over (s.content.node (depth_over snap.length index) (index / 2 ^ depth_over snap.length index)) refl (differs root numbered lacks)
    where
      differs : (root : Node) → root.index ≡ number (depth_over snap.length index) (index / 2 ^ depth_over snap.length index) → LacksRoot s root
          → s.content.node (depth_over snap.length index) (index / 2 ^ depth_over snap.length index) ≢ Some (twig_of root)
      differs root numbered (inl unstored) there =
          unstored (stored_number s (depth_over snap.length index) (index / 2 ^ depth_over snap.length index) root.index numbered (sym (sound.closed _ _) ∙ ap is_some there))
      differs root numbered (inr (node, given, other)) there =
          other (some_same _ _ (sym (given.shown shows _ _ (sym numbered)) ∙ there))

      by_top : (root : Node) → IsRootOver snap.roots snap.length index root → (found : Option Twig)
          → s.content.node (depth_over snap.length index) (index / 2 ^ depth_over snap.length index) ≡ found → found ≢ Some (twig_of root)
          → snap_read s.content snap index ≡ Err (Unavailable index)
      by_top root over None there other = rw (lt-ltb index snap.length within, over, there) refl
      by_top root over (Some twig) there other =
          let not_same : is_stored_as (Some twig) (twig_of root) ≡ false = elim (cases_Bool (is_stored_as (Some twig) (twig_of root))) [
            | inr is ↦ is
            | inl is ↦ absurd (other (stored_is _ _ is))
          ] in
          rw (lt-ltb index snap.length within, over, there, not_same) refl
