-- Trails of siblings that a view gives, one level after the other.
use Rattle.std.proofs.Common.{◌≡◌, ◌≢◌, ap, take, ℕ, ◌+◌, ◌/◌, ◌^◌, ◌≤◌, List, [], ◌∷◌, ◌++◌, refl, sym, subst, ◌∙◌, add-one}
use Rattle.std.specs.Prelude.{Result, Ok, Err, IfOk}
use Rattle.flat_tree.specs.Subtrees.{number}
use Rattle.merkle_nodes.specs.declared.node.Node.{Node}
use Rattle.merkle_nodes.specs.declared.node.Twig.{Twig}
use Rattle.merkle_nodes.specs.Roots.{twig_of}
use Rattle.merkle_nodes.specs.Fold.{fold, fold_from}
use Rattle.node_set.specs.declared.fault.CoreFault.{CoreFault}
use Rattle.node_set.specs.declared.fault.CoreFault.TheVariants.{Damaged}
use Rattle.node_set.specs.declared.fault.Place.TheVariants.{Node as AtNode}
use Rattle.node_set.specs.Paths.{sibling_of}
use Rattle.log_view.specs.Views.{Source, GivesNode}
use Rattle.snap_reads.specs.Reads.{GivesTrail, GivesLeaf, RootDiffers}

-- a node that is given for a low number has a low one
pub given_low : (s : Source) (index most : ℕ) (result : Result Node CoreFault) → index ≤ most → IfOk result (GivesNode s index) → IfOk result (λ node. node.index ≤ most)
given_low s index most (Err fault) low given = tt
given_low s index most (Ok node) low given = subst (λ (k : ℕ). k ≤ most) (sym given.numbered) low

-- none yet, one more, and all where the loop has ended
pub trail_none : (s : Source) (index : ℕ) → GivesTrail s index 0 []
unfolding GivesTrail
trail_none s index = refl

pub trail_more : (s : Source) (index level : ℕ) (trail : List Twig) (node : Node) → GivesTrail s index level trail
    → GivesNode s (number level (sibling_of (index / 2 ^ level))) node → GivesTrail s index (level + 1) (trail ++ twig_of node ∷ [])
unfolding GivesTrail
trail_more s index level trail node below here = rw add-one (trail, node, below, here, refl)

pub trail_all : (s : Source) (index level levels : ℕ) (trail : List Twig) → level ≡ levels → GivesTrail s index level trail → GivesTrail s index levels trail
trail_all s index level levels trail ended gives = subst (λ (l : ℕ). GivesTrail s index l trail) ended gives

-- what doesn't fold to the root is damage there
pub root_differs : (s : Source) (root top leaf : Node) (levels index len : ℕ) (buffer : List ℕ) (trail : List Twig) → GivesLeaf s index buffer len leaf
    → GivesTrail s index levels trail → twig_of top ≡ fold_from index (twig_of leaf) trail → twig_of top ≢ twig_of root
    → RootDiffers s root levels index buffer (Damaged (AtNode root.index) root.hash top.hash)
root_differs s root top leaf levels index len buffer trail is_leaf gives folds differ =
    let top_is : twig_of top ≡ fold index (take len buffer) trail = folds ∙ ap (λ (w : Twig). fold_from index w trail) is_leaf.same in
    record {
      read = record { len = len; trail = trail };
      gives = record { leaf = leaf; is_leaf = is_leaf; siblings = gives };
      differs = λ same. differ (top_is ∙ same);
      fault_is = ap (λ (w : Twig). Damaged (AtNode root.index) root.hash w.hash) top_is;
    }
