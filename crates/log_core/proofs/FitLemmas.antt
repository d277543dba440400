-- Blocks that pass no limit keep the limits of a core.
use Rattle.std.proofs.Common.{◌≡◌, ℕ, ◌+◌, ◌<◌, ◌≤◌, List, [], ◌∷◌, length, map, Option, Some, None, refl, ◌∙◌, ap, arith}
use Rattle.std.specs.List.{AllByRecursion}
use Rattle.std.proofs.lemmas.Bool.{ltb-false, leb-false}
use Rattle.std.proofs.lemmas.List.Sums.{sum_by-cons}
use Rattle.flat_tree.specs.declared.limits.TheConstants.{MAX_BLOCKS, MAX_BLOCK_BYTES, MAX_CORE_BYTES}
use Rattle.flat_tree.specs.Subtrees.{Subtree}
use Rattle.flat_tree.specs.Roots.{full_roots_of}
use Rattle.merkle_nodes.specs.declared.node.Node.{Node}
use Rattle.merkle_nodes.specs.declared.node.Twig.{Twig}
use Rattle.merkle_nodes.specs.Nodes.{AreNodes, node_in}
use Rattle.node_set.specs.Contents.{Content, Values, held, node_at, roots, bytes_under}
use Rattle.node_set.specs.Evidence.{bytes_of}
use Rattle.node_set.specs.Whole.{IsSound, KeepsLimits}
use Rattle.node_set.specs.Changes.{AppendFits}
use Rattle.node_set.proofs.ClosureLemmas.{root_in_closure}
use Rattle.node_set.proofs.SoundLemmas.{AllRoots, all_roots, stored_value}
use Rattle.log_core.specs.Refusals.{limit_at, limit_in, append_refusal}
use Rattle.log_core.proofs.CutLemmas.{neither, not_refused}

-- a block that passes no limit
record BlockFits (blocks bytes count more size : ℕ) : Type 0 where
  small : size ≤ MAX_BLOCK_BYTES
  within : blocks + count < MAX_BLOCKS
  total : bytes + more + size ≤ MAX_CORE_BYTES

block_fits : (blocks bytes count more size : ℕ) → limit_at blocks bytes count more size ≡ None → BlockFits blocks bytes count more size
block_fits blocks bytes count more size none =
    let one = neither _ _ none in
    let two = neither _ _ one.1 in
    let three = neither _ _ two.1 in
    let four = neither _ _ three.1 in
    record {
      small = ltb-false MAX_BLOCK_BYTES size (not_refused _ _ one.0);
      within = leb-false MAX_BLOCKS (blocks + count) (not_refused _ _ four.0);
      total = ltb-false MAX_CORE_BYTES (bytes + more + size) (not_refused _ _ four.1);
    }

-- blocks that pass none
record AllFit (blocks bytes count more : ℕ) (log : List (List ℕ)) : Type 0 where
  sizes : AllByRecursion (λ (block : List ℕ). length block ≤ MAX_BLOCK_BYTES) log
  within : blocks + count + length log ≤ MAX_BLOCKS
  total : bytes + more + bytes_of log ≤ MAX_CORE_BYTES

all_fit : (log : List (List ℕ)) (blocks bytes count more : ℕ) → blocks + count ≤ MAX_BLOCKS → bytes + more ≤ MAX_CORE_BYTES
    → limit_in blocks bytes count more log ≡ None → AllFit blocks bytes count more log
unfolding limit_in
all_fit [] blocks bytes count more within total none = record { sizes = tt; within = omega arith; total = omega arith }
all_fit (block ∷ log) blocks bytes count more within total none =
    let both = neither _ _ none in
    let here = block_fits blocks bytes count more (length block) both.0 in
    let rest = all_fit log blocks bytes (count + 1) (more + length block) (omega (arith, here.within)) (omega (arith, here.total)) both.1 in
    let sum : bytes_of (block ∷ log) ≡ length block + bytes_of log = sum_by-cons length block log in
    record { sizes = (here.small, rest.sizes); within = omega (arith, rest.within); total = omega (arith, rest.total, sum) }

pub append_fits : (m : Content) (more : List (List ℕ)) → KeepsLimits m → append_refusal m more ≡ None → AppendFits more m
append_fits m more limits none =
    let fit = all_fit more m.length (bytes_under (roots m)) 0 0 (omega (arith, limits.blocks)) (omega (arith, limits.bytes)) none in
    record { blocks = omega (arith, fit.within); bytes = omega (arith, fit.total); sizes = fit.sizes }

-- a subtree has a value
abbrev is_there : Values → Subtree → Type 0
is_there value tree = (twig : Twig) × (value tree.depth tree.offset ≡ Some twig)

-- the roots of a sound content are the nodes at its full roots, each of them stored
are_nodes : (value : Values) (trees : List Subtree) → AllByRecursion (λ (tree : Subtree). is_there value tree) trees
    → AreNodes value trees (map (λ (tree : Subtree). node_at value tree.depth tree.offset) trees)
are_nodes value [] there = refl
are_nodes value (tree ∷ trees) there =
    let is = there.0.1 in
    let here : Some (node_at value tree.depth tree.offset) ≡ node_in value tree =
    rw is refl in
    ap (λ (o : Option Node). o ∷ map Some (map (λ (tree : Subtree). node_at value tree.depth tree.offset) trees)) here
    ∙ ap (λ (os : List (Option Node)). node_in value tree ∷ os) (are_nodes value trees there.1)

pub are_roots : (m : Content) → IsSound m → AreNodes m.node (full_roots_of m.length) (roots m)
are_roots m sound = are_nodes m.node (full_roots_of m.length) (each (full_roots_of m.length) (all_roots m.length))
  where
    each : (trees : List Subtree) → AllRoots m.length trees → AllByRecursion (λ (tree : Subtree). is_there m.node tree) trees
    each [] all = tt
    each (tree ∷ trees) all = (
      stored_value (m.node tree.depth tree.offset)
          (sound.closed tree.depth tree.offset ∙ root_in_closure m.length (held m) tree.depth tree.offset all.0),
      each trees all.1,
    )
