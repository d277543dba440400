-- Which nodes are to be stored, by number.
use Rattle.std.proofs.Common.{◌≡◌, ℕ, Bool, true, false, ◌+◌, ◌*◌, ◌^◌, ◌<◌, List, [], ◌∷◌, length, take, get_or, slice_get, Some, refl, sym, ap, subst, ◌∙◌, arith}
use Rattle.std.specs.Prelude.{◌&&◌, nat_eq, nat_le, nat_lt}
use Rattle.std.specs.List.{AllByRecursion}
use Rattle.std.proofs.lemmas.Bool.{and_parts, ltb-true, leb-true, eqb-true}
use Rattle.std.proofs.lemmas.Option.{slice_get_within}
use Rattle.std.proofs.lemmas.List.Folds.{list_all_at, list_all_more}
use Rattle.flat_tree.specs.Subtrees.{Subtree, subtree, number, numbers_of}
use Rattle.flat_tree.specs.Roots.{depth_over}
use Rattle.flat_tree.specs.Covers.{cover_of}
use Rattle.flat_tree.proofs.NumberLemmas.{same_depth, same_place, leaf}
use Rattle.flat_tree.proofs.RootLemmas.{length-numbers}
use Rattle.proof_form.specs.declared.request.Want.{Want}
use Rattle.proof_form.specs.declared.request.Reach.{Reach}
use Rattle.node_set.specs.Contents.{Content, held}
use Rattle.node_set.specs.Closure.{in_closure}
use Rattle.node_set.specs.Paths.{depth_of, offset_of_node}
use Rattle.node_set.proofs.TableRoots.{tree_there}
use Rattle.proof_make.specs.Offers.{has_block, ends_at, has_nodes, has_cover}
use Rattle.log_view.specs.Views.{Source, IsStored}
use Rattle.proof_offer.specs.Parts.{siblings_of}
use Rattle.proof_offer.specs.Replies.{has_hash, has_upgrade}
use Rattle.proof_offer.proofs.Siblings.{number_of_node, siblings_stored}

-- the node of a subtree of the closure
pub stored_number : (s : Source) (depth offset index : ℕ) → number depth offset ≡ index → in_closure s.content.length (held s.content) depth offset ≡ true
    → IsStored s index
stored_number s depth offset index is closed d o same =
    let deep : d ≡ depth = same_depth d o depth offset (same ∙ sym is) in
    let far : o ≡ offset = same_place depth o offset (ap (λ (e : ℕ). number e o) (sym deep) ∙ same ∙ sym is) in
    ap (λ (e : ℕ). in_closure s.content.length (held s.content) e o) deep ∙ ap (in_closure s.content.length (held s.content) depth) far ∙ closed

pub all_stored : (s : Source) (trees : List Subtree) → has_nodes s.content trees ≡ true → AllByRecursion (IsStored s) (numbers_of trees)
all_stored s [] all = tt
all_stored s (tree ∷ trees) all =
    let parts = and_parts (in_closure s.content.length (held s.content) tree.depth tree.offset) (has_nodes s.content trees) all in
    (stored_number s tree.depth tree.offset (number tree.depth tree.offset) refl parts.0, all_stored s trees parts.1)

-- what is told of one more: all so far and it are to be stored, and where it isn't, not all are
pub record TellsNext (m : Content) (trees : List Subtree) (at : ℕ) (stored : Bool) : Type 0 where
  pub more : has_nodes m (take (at + 1) trees) ≡ (has_nodes m (take at trees) && stored)
  pub none : stored ≡ false → has_nodes m trees ≡ false

pub stored_next : (m : Content) (trees : List Subtree) (numbers : List ℕ) (at index : ℕ) (stored : Bool) → numbers ≡ numbers_of trees
    → slice_get numbers at ≡ Some index → ((depth offset : ℕ) → number depth offset ≡ index → stored ≡ in_closure m.length (held m) depth offset)
    → TellsNext m trees at stored
stored_next m trees numbers at index stored are there is =
    let closed = λ (tree : Subtree). in_closure m.length (held m) tree.depth tree.offset in
    let within : at < length trees = omega (arith, slice_get_within numbers at index there, length-numbers numbers trees are) in
    let tree = get_or trees at (subtree 0 0) in
    let here : stored ≡ closed tree = is tree.depth tree.offset (tree_there trees numbers at index (subtree 0 0) are within there) in
    record {
      more = list_all_more closed trees at (subtree 0 0) within ∙ ap (λ (b : Bool). has_nodes m (take at trees) && b) (sym here);
      none = λ lacks. list_all_at closed trees at (subtree 0 0) within (sym here ∙ lacks);
    }

-- ---- the nodes of a part that is asked for

-- these are the numbers of the subtrees, and all are to be stored
pub record AreStored (s : Source) (trees : List Subtree) (numbers : List ℕ) : Type 0 where
  pub are : numbers ≡ numbers_of trees
  pub stored : AllByRecursion (IsStored s) numbers

stored_trees : (s : Source) (trees : List Subtree) (numbers : List ℕ) → numbers ≡ numbers_of trees → has_nodes s.content trees ≡ true → AreStored s trees numbers
stored_trees s trees numbers are all = record { are = are; stored = subst (AllByRecursion (IsStored s)) (sym are) (all_stored s trees all) }

-- a held block is below the length
pub block_below : (m : Content) (want : Want) → has_block m want ≡ true → want.index < m.length
block_below m want passed =
    let tests = and_parts (nat_lt want.index m.length && held m want.index) (nat_le want.nodes (depth_over m.length want.index)) passed in
    ltb-true want.index m.length (and_parts (nat_lt want.index m.length) (held m want.index) tests.0).0

pub block_stored : (s : Source) (want : Want) (numbers : List ℕ) → has_block s.content want ≡ true
    → ((depth offset : ℕ) → 2 * want.index ≡ number depth offset → numbers ≡ numbers_of (siblings_of depth offset want.nodes))
    → AreStored s (siblings_of 0 want.index want.nodes) numbers
block_stored s want numbers passed are =
    let m = s.content in
    let tests = and_parts (nat_lt want.index m.length && held m want.index) (nat_le want.nodes (depth_over m.length want.index)) passed in
    let below = and_parts (nat_lt want.index m.length) (held m want.index) tests.0 in
    let within = ltb-true want.index m.length below.0 in
    let few = leb-true want.nodes (depth_over m.length want.index) tests.1 in
    let leaf_number : 2 * want.index ≡ number 0 want.index = sym (leaf want.index).0 in
    stored_trees s _ numbers (are 0 want.index leaf_number) (siblings_stored m want.index want.nodes below.1 within few)

pub node_stored : (s : Source) (want : Want) → want.index < 2 ^ 63 → has_hash s.content want ≡ true → IsStored s want.index
node_stored s want small passed =
    let depth = depth_of want.index in
    let offset = offset_of_node want.index in
    let trail = has_nodes s.content (siblings_of depth offset want.nodes) in
    stored_number s depth offset want.index (number_of_node want.index (omega (arith, small)))
    (and_parts (in_closure s.content.length (held s.content) depth offset) trail passed).0

pub hash_stored : (s : Source) (want : Want) (numbers : List ℕ) → want.index < 2 ^ 63 → has_hash s.content want ≡ true
    → ((depth offset : ℕ) → want.index ≡ number depth offset → numbers ≡ numbers_of (siblings_of depth offset want.nodes))
    → AreStored s (siblings_of (depth_of want.index) (offset_of_node want.index) want.nodes) numbers
hash_stored s want numbers small passed are =
    let depth = depth_of want.index in
    let offset = offset_of_node want.index in
    let trees = siblings_of depth offset want.nodes in
    let parts = and_parts (in_closure s.content.length (held s.content) depth offset) (has_nodes s.content trees) passed in
    stored_trees s trees numbers (are depth offset (sym (number_of_node want.index (omega (arith, small))))) parts.1

-- the test of both
pub hash_told : (m : Content) (want : Want) (numbers : List ℕ) (node trail : Bool) → want.index < 2 ^ 63
    → ((depth offset : ℕ) → number depth offset ≡ want.index → node ≡ in_closure m.length (held m) depth offset)
    → ((depth offset : ℕ) → want.index ≡ number depth offset → numbers ≡ numbers_of (siblings_of depth offset want.nodes))
    → ((trees : List Subtree) → numbers ≡ numbers_of trees → trail ≡ has_nodes m trees) → (node && trail) ≡ has_hash m want
hash_told m want numbers node trail small is_node are is_trail =
    let depth = depth_of want.index in
    let offset = offset_of_node want.index in
    let is = number_of_node want.index (omega (arith, small)) in
    let trees = siblings_of depth offset want.nodes in
    ap (λ (b : Bool). b && trail) (is_node depth offset is)
    ∙ ap (λ (b : Bool). in_closure m.length (held m) depth offset && b) (is_trail trees (are depth offset (sym is)))

pub hash_lacks : (m : Content) (want : Want) (node : Bool) → want.index < 2 ^ 63
    → ((depth offset : ℕ) → number depth offset ≡ want.index → node ≡ in_closure m.length (held m) depth offset) → node ≡ false
    → has_hash m want ≡ false
hash_lacks m want node small is_node lacks =
    let depth = depth_of want.index in
    let offset = offset_of_node want.index in
    let is = number_of_node want.index (omega (arith, small)) in
    ap (λ (b : Bool). b && has_nodes m (siblings_of depth offset want.nodes)) (sym (is_node depth offset is) ∙ lacks)

-- the cover lies below the length
pub record IsCoverStored (s : Source) (reach : Reach) (numbers : List ℕ) : Type 0 where
  pub ordered : reach.start < reach.length
  pub ends : reach.length ≡ s.content.length
  pub nodes : numbers ≡ numbers_of (cover_of reach.start reach.length) → AreStored s (cover_of reach.start reach.length) numbers

pub cover_stored : (s : Source) (reach : Reach) (numbers : List ℕ) → has_upgrade s.content reach ≡ true → IsCoverStored s reach numbers
cover_stored s reach numbers passed =
    let parts = and_parts (ends_at s.content.length reach) (has_cover s.content reach) passed in
    let ends = and_parts (nat_eq reach.length s.content.length) (nat_lt reach.start reach.length) parts.0 in
    record {
      ordered = ltb-true reach.start reach.length ends.1;
      ends = eqb-true reach.length s.content.length ends.0;
      nodes = λ are. stored_trees s (cover_of reach.start reach.length) numbers are parts.1;
    }
