-- The subtrees of a cover, read one after the other.
use Rattle.std.proofs.Common.{◌≡◌, ℕ, Bool, true, false, IsTrue, ◌+◌, ◌<◌, List, [], ◌∷◌, ◌++◌, length, take, map, get_or, slice_get, Some, None, sym, ap, subst, ◌∙◌, arith}
use Rattle.std.specs.Prelude.{Option, is_some, option_map}
use Rattle.std.specs.List.{AllByRecursion}
use Rattle.std.proofs.lemmas.List.{map_more}
use Rattle.std.proofs.lemmas.List.Folds.{list_all_at, list_all_more}
use Rattle.std.proofs.lemmas.Bool.{and_from}
use Rattle.flat_tree.specs.Subtrees.{Subtree, subtree, number, numbers_of}
use Rattle.flat_tree.proofs.RootLemmas.{length-numbers}
use Rattle.merkle_nodes.specs.declared.node.Node.{Node}
use Rattle.merkle_nodes.specs.declared.node.Twig.{Twig}
use Rattle.merkle_nodes.specs.Roots.{twig_of}
use Rattle.merkle_nodes.specs.Bundle.{TwigFits}
use Rattle.node_set.specs.Contents.{Content, Values, held, twig_at}
use Rattle.node_set.specs.Closure.{in_closure}
use Rattle.node_set.specs.Views.{ViewState, GivesNode}
use Rattle.node_set.specs.Walks.{KeepsView}
use Rattle.node_set.proofs.RootTruth.{twig_at-some}
use Rattle.node_set.proofs.TableRoots.{tree_there}
use Rattle.proof_make.specs.Offers.{has_nodes}
use Rattle.proof_make.proofs.Kept.{still, all_more, count_more}

-- the twigs of some subtrees
abbrev pub twigs_at : Values → List Subtree → List Twig
twigs_at node = map (λ (tree : Subtree). twig_at node tree.depth tree.offset)

-- so many of the subtrees are read: each is to be stored, and the twigs are theirs
pub record AreRead (old now : ViewState) (trees : List Subtree) (read : ℕ) (found : List Twig) : Type 0 where
  pub keeps : KeepsView old now
  pub count : length found ≡ read
  pub fits : AllByRecursion TwigFits found
  pub closed : has_nodes old.content (take read trees) ≡ true
  pub twigs : IsTrue old.stands → found ≡ twigs_at old.content.node (take read trees)

-- the subtrees' numbers stand in these places, one of which was read
module _ (old now : ViewState) (trees : List Subtree) (places : List ℕ) (at index : ℕ) (numbers : places ≡ numbers_of trees) (within : at < length places)
    (there : slice_get places at ≡ Some index) (kept : KeepsView old now) (found : Option Node) (gives : GivesNode now index found) where
  inside : at < length trees
  inside = omega (arith, within, length-numbers places trees numbers)

  tree : Subtree
  tree = get_or trees at (subtree 0 0)

  closed : Content → Subtree → Bool
  closed m tree = in_closure m.length (held m) tree.depth tree.offset

  tree_number : number tree.depth tree.offset ≡ index
  unfolding tree
  tree_number = tree_there trees places at index (subtree 0 0) numbers inside there

  found_closed : is_some found ≡ closed old.content tree
  unfolding closed
  found_closed = subst (λ (m : Content). is_some found ≡ in_closure m.length (held m) tree.depth tree.offset) kept.keeps.content
      (gives.closed tree.depth tree.offset tree_number)

  -- where its node lacks, not all are to be stored
  pub lacks : found ≡ None → has_nodes old.content trees ≡ false
  unfolding closed tree
  lacks none = list_all_at (closed old.content) trees at (subtree 0 0) inside (sym found_closed ∙ ap is_some none)

  -- the twig, where the view stands
  twig_is : (node : Node) → found ≡ Some node → IsTrue old.stands → twig_of node ≡ twig_at old.content.node tree.depth tree.offset
  twig_is node is =
      still old now kept.keeps (λ (m : Content). twig_of node ≡ twig_at m.node tree.depth tree.offset)
      (λ stands.
      let there = gives.content stands tree.depth tree.offset tree_number in
      sym (twig_at-some now.content.node tree.depth tree.offset (twig_of node) (sym there ∙ ap (option_map twig_of) is)))

  -- one subtree more
  pub read_next : (new : ViewState) (twigs more : List Twig) (node : Node) (twig : Twig) → AreRead old now trees at twigs → KeepsView old new
      → found ≡ Some node → twig ≡ twig_of node → more ≡ twigs ++ twig ∷ [] → TwigFits (twig_of node) → AreRead old new trees (at + 1) more
  unfolding closed tree
  read_next new twigs more node twig so_far keeps is of_node pushed fits =
      let here : closed old.content tree ≡ true = sym found_closed ∙ ap is_some is in
      let all = and_from (has_nodes old.content (take at trees)) (closed old.content tree) so_far.closed here in
      let of_tree = λ (tree : Subtree). twig_at old.content.node tree.depth tree.offset in
      record {
        keeps = keeps;
        count = count_more at twigs more twig pushed so_far.count;
        fits = all_more TwigFits twigs more twig pushed so_far.fits (subst TwigFits (sym of_node) fits);
        closed = list_all_more (closed old.content) trees at (subtree 0 0) inside ∙ all;
        twigs = λ stands.
            pushed
            ∙ ap (λ (ts : List Twig). ts ++ twig ∷ []) (so_far.twigs stands)
            ∙ ap (λ (t : Twig). twigs_at old.content.node (take at trees) ++ t ∷ []) (of_node ∙ twig_is node is stands)
            ∙ sym (map_more of_tree trees at (subtree 0 0) inside);
      }
