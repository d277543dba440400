-- What is stored on the way up from a held block.
use Rattle.std.proofs.Common.{◌≡◌, ℕ, suc, Bool, true, List, length, take, Some, slice_get, option_map, refl, ◌+◌, ◌*◌, ◌/◌, ◌^◌, ◌<◌, ◌≤◌, sym, ap, subst, ◌∙◌, arith, None}
use Rattle.std.specs.Str.{bytes_eq}
use Rattle.std.proofs.lemmas.Bool.{and_parts, eqb-true, lt-ltb}
use Rattle.std.proofs.lemmas.Slice.Eq.{bytes_eq-Decides}
use Rattle.std.specs.Prelude.{Option, nat_eq, Result, Ok, Err, IfOk}
use Rattle.std.proofs.lemmas.Option.{slice_get-map}
use Rattle.flat_tree.specs.Subtrees.{Subtree, subtree, number, end_block_of}
use Rattle.flat_tree.specs.Roots.{full_roots_of, depth_over}
use Rattle.flat_tree.proofs.NumberLemmas.{number_below}
use Rattle.merkle_nodes.specs.declared.node.Node.{Node}
use Rattle.merkle_nodes.specs.declared.node.Twig.{Twig}
use Rattle.merkle_nodes.specs.Roots.{twig_of, HasShape}
use Rattle.merkle_nodes.specs.Fold.{fold, IsRootOver, Proves}
use Rattle.node_set.specs.declared.fault.CoreFault.{CoreFault}
use Rattle.node_set.specs.Contents.{Content, Values, held, roots, node_at, twig_at}
use Rattle.node_set.specs.Whole.{IsSound}
use Rattle.node_set.specs.Same.{is_stored_as}
use Rattle.node_set.specs.Closure.{in_closure}
use Rattle.node_set.specs.Paths.{sibling_of}
use Rattle.node_set.proofs.Stored.{over-suc, any_under-held, some_of, some_same}
use Rattle.node_set.proofs.PathLemmas.{root_over_stored}
use Rattle.node_set.proofs.ClosureLemmas.{held_in_closure, halves_in_closure, true_closure}
use Rattle.node_set.proofs.OffsetTruth.{path_within}
use Rattle.core_snap.specs.declared.snapshot.ReadAt.{ReadAt}
use Rattle.core_snap.specs.Reads.{read_over, read_of}

-- the root over a block is within the length
pub root_inside : (n : ℕ) (bits : ℕ → Bool) (index levels : ℕ) → index < n → levels ≡ depth_over n index → end_block_of levels (index / 2 ^ levels) ≤ n
root_inside n bits index levels within is =
    let inside = (true_closure n bits (depth_over n index) (index / 2 ^ depth_over n index) (root_over_stored n bits index within)).within in
    subst (λ (d : ℕ). end_block_of d (index / 2 ^ d) ≤ n) (sym is) inside

-- a root that has the shape stands over the block
pub root_number : (roots : List Node) (n place levels offset : ℕ) (root : Node) → HasShape roots n → slice_get roots place ≡ Some root
    → slice_get (full_roots_of n) place ≡ Some (subtree levels offset) → root.index ≡ number levels offset
root_number roots n place levels offset root shape is over =
    let index = λ (node : Node). node.index in
    let numbers = λ (tree : Subtree). number tree.depth tree.offset in
    some_same _ _ (
    sym (slice_get-map index roots place ∙ ap (option_map index) is)
    ∙ ap (λ (l : List ℕ). slice_get l place) shape
    ∙ slice_get-map numbers (full_roots_of n) place
    ∙ ap (option_map numbers) over
    )

-- a node that is stored as a twig is this twig
pub stored_is : (found : Option Twig) (twig : Twig) → is_stored_as found twig ≡ true → found ≡ Some twig
stored_is None twig is = cc
stored_is (Some stored) twig is =
    let parts = and_parts (nat_eq stored.size twig.size) (bytes_eq stored.hash twig.hash) is in
    let size : stored.size ≡ twig.size = eqb-true _ _ parts.0 in
    let hash : stored.hash ≡ twig.hash = (bytes_eq-Decides stored.hash twig.hash).0 parts.1 in
    ap Some (ap (λ (s : ℕ). record { size = s; hash = stored.hash }) size ∙ ap (λ (h : List ℕ). record { size = twig.size; hash = h }) hash)

found_twig : (node : Values) (depth offset : ℕ) (twig : Twig) → node depth offset ≡ Some twig → twig_at node depth offset ≡ twig
found_twig node depth offset twig there = rw there refl

-- the content's root over a block
pub root_is : (m : Content) (place levels offset : ℕ) (root : Node) → slice_get (roots m) place ≡ Some root
    → slice_get (full_roots_of m.length) place ≡ Some (subtree levels offset) → root ≡ node_at m.node levels offset
root_is m place levels offset root at over =
    let node = λ (tree : Subtree). node_at m.node tree.depth tree.offset in
    some_same _ _ (sym at ∙ slice_get-map node (full_roots_of m.length) place ∙ ap (option_map node) over)

-- is stored there
pub root_stored : (m : Content) (place levels index : ℕ) (root : Node) → IsSound m → index < m.length → levels ≡ depth_over m.length index
    → slice_get (roots m) place ≡ Some root → slice_get (full_roots_of m.length) place ≡ Some (subtree levels (index / 2 ^ levels))
    → m.node levels (index / 2 ^ levels) ≡ Some (twig_of root)
root_stored m place levels index root sound within is at over =
    let same = root_is m place levels (index / 2 ^ levels) root at over in
    let there = some_of (m.node levels (index / 2 ^ levels)) (
    sound.closed levels (index / 2 ^ levels)
    ∙ ap (λ (d : ℕ). in_closure m.length (held m) d (index / 2 ^ d)) is
    ∙ root_over_stored m.length (held m) index within
    ) in
    let twig = found_twig m.node levels (index / 2 ^ levels) there.0 there.1 in
    there.1 ∙ ap Some (sym (ap twig_of same ∙ twig))

-- and a read up to it is one under the content's head
pub read_of_over : (m : Content) (place levels index : ℕ) (root : Node) → index < m.length → levels ≡ depth_over m.length index
    → slice_get (roots m) place ≡ Some root → slice_get (full_roots_of m.length) place ≡ Some (subtree levels (index / 2 ^ levels))
    → read_over m root levels index ≡ read_of m index
read_of_over m place levels index root within is at over =
    ap (λ (r : Node). read_over m r levels index) (root_is m place levels (index / 2 ^ levels) root at over)
    ∙ ap (λ (d : ℕ). read_over m (node_at m.node d (index / 2 ^ d)) d index) is
    ∙ rw (lt-ltb index m.length within) refl

-- a read that was folded is proved
pub read_proves : (blocks : ℕ) (roots : List Node) (index levels : ℕ) (root : Node) (place : List ℕ) (result : Result ReadAt CoreFault)
    → index < blocks → HasShape roots blocks → levels ≡ depth_over blocks index → IsRootOver roots blocks index root
    → IfOk result (λ read. length read.trail ≡ levels) → IfOk result (λ read. fold index (take read.len place) read.trail ≡ twig_of root)
    → IfOk result (λ read. Proves blocks roots index (take read.len place) read.trail)
read_proves blocks roots index levels root place (Err fault) within shape is over path folds = tt
read_proves blocks roots index levels root place (Ok read) within shape is over path folds =
    record { within = within; shape = shape; path = path ∙ is; root = root; over = over; folds = folds }

module _ (n : ℕ) (bits : ℕ → Bool) (index levels : ℕ) (there : bits index ≡ true) (inside : end_block_of levels (index / 2 ^ levels) ≤ n) where
  -- the leaf
  pub leaf_stored : in_closure n bits 0 index ≡ true
  leaf_stored =
      let whole : index / 2 ^ 0 ≡ index = omega arith in
      subst (λ (o : ℕ). in_closure n bits 0 o ≡ true) whole
      (held_in_closure n bits 0 (index / 2 ^ 0) (any_under-held bits index 0 there) (path_within n index levels levels 0 (omega arith) inside))

  -- the siblings
  pub sibling_stored : (level rest : ℕ) → suc level + rest ≡ levels → in_closure n bits level (sibling_of (index / 2 ^ level)) ≡ true
  sibling_stored level rest meet =
      let half : sibling_of (index / 2 ^ level) / 2 ≡ index / 2 ^ suc level = omega (arith, over-suc index level) in
      halves_in_closure n bits level (index / 2 ^ suc level) (sibling_of (index / 2 ^ level)) half
      (any_under-held bits index (suc level) there) (path_within n index levels rest (suc level) meet inside)

  -- no node of the way has a large number
  pub way_numbers : (level rest : ℕ) → level + rest ≡ levels → number level (index / 2 ^ level) < 2 * n
  way_numbers level rest meet = omega (arith, number_below level (index / 2 ^ level), path_within n index levels rest level meet inside)
