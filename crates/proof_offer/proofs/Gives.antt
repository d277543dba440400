-- What a view gives for a list of numbers, one after the other.
use Rattle.std.proofs.Common.{◌≡◌, ℕ, true, IsTrue, ◌+◌, List, [], ◌∷◌, ◌++◌, length, take, slice_get, Some, refl, sym, ap, subst, ◌∙◌, arith}
use Rattle.std.specs.Prelude.{Option, is_some}
use Rattle.std.specs.List.{AllByRecursion, list_all}
use Rattle.std.proofs.lemmas.List.{take_more, length-take-le}
use Rattle.std.proofs.lemmas.Option.{get_or_from_slice_get, slice_get_within}
use Rattle.std.proofs.lemmas.Bool.{and_from}
use Rattle.flat_tree.specs.Subtrees.{Subtree, numbers_of}
use Rattle.merkle_nodes.specs.declared.node.Node.{Node}
use Rattle.merkle_nodes.specs.declared.node.Twig.{Twig}
use Rattle.merkle_nodes.specs.Roots.{twig_of}
use Rattle.merkle_nodes.specs.Bundle.{TwigFits}
use Rattle.proof_form.specs.declared.request.Want.{Want}
use Rattle.node_set.specs.Contents.{Values, twig_at}
use Rattle.node_set.specs.Paths.{depth_of, offset_of_node}
use Rattle.node_set.proofs.RootTruth.{twig_at-some}
use Rattle.log_view.specs.Views.{Source, GivesNode, GivesBlock}
use Rattle.proof_make.proofs.Covers.{twigs_at}
use Rattle.proof_offer.specs.Parts.{siblings_of, Answers, GivesTwig, GivesTwigs, GivesBlockPart, GivesHashPart}

-- a node that the view gives
pub gives-node : (s : Source) (index : ℕ) (node : Node) (twig : Twig) → GivesNode s index node → twig ≡ twig_of node → length node.hash ≡ 32
    → GivesTwig s index twig
gives-node s index node twig gives is hash = subst (GivesTwig s index) (sym is)
    (record { given = gives.given; shown = gives.shown; fits = record { size = gives.size; hash = hash } })

-- a block that it gives
pub gives-block : (s : Source) (want : Want) (buffer : List ℕ) (len : ℕ) (trail : List Twig) → GivesBlock s want.index buffer len
    → GivesTwigs s (numbers_of (siblings_of 0 want.index want.nodes)) trail
    → GivesBlockPart s want (record { index = want.index; bytes = take len buffer; trail = trail })
gives-block s want buffer len trail gives all = record {
  index = refl;
  size = omega (arith, gives.size, length-take-le len buffer gives.within);
  given = gives.given;
  shown = gives.shown;
  trail = all;
}

-- a node with its siblings
pub gives-hash : (s : Source) (want : Want) (node : Node) (trail : List Twig) → GivesNode s want.index node → length node.hash ≡ 32
    → GivesTwigs s (numbers_of (siblings_of (depth_of want.index) (offset_of_node want.index) want.nodes)) trail
    → GivesHashPart s want (record { node = node; trail = trail })
gives-hash s want node trail gives hash all =
    record { index = gives.numbered; node = gives-node s want.index node (twig_of node) gives refl hash; trail = all }

-- one more
gives-push : (s : Source) (indices : List ℕ) (twigs : List Twig) (index : ℕ) (twig : Twig) → GivesTwigs s indices twigs → GivesTwig s index twig
    → GivesTwigs s (indices ++ index ∷ []) (twigs ++ twig ∷ [])
gives-push s [] [] index twig all here = (here, tt)
gives-push s [] (t ∷ twigs) index twig all here = absurd all
gives-push s (i ∷ indices) [] index twig all here = absurd all
gives-push s (i ∷ indices) (t ∷ twigs) index twig all here = (all.0, gives-push s indices twigs index twig all.1 here)

pub gives-more : (s : Source) (indices : List ℕ) (at index : ℕ) (twigs more : List Twig) (twig : Twig) → slice_get indices at ≡ Some index
    → GivesTwigs s (take at indices) twigs → GivesTwig s index twig → more ≡ twigs ++ twig ∷ [] → GivesTwigs s (take (at + 1) indices) more
gives-more s indices at index twigs more twig there all here pushed =
    let read : take (at + 1) indices ≡ take at indices ++ index ∷ [] =
    take_more indices at 0 (slice_get_within indices at index there)
    ∙ ap (λ (i : ℕ). take at indices ++ i ∷ []) (get_or_from_slice_get indices at index 0 there) in
    rw (read, pushed) (gives-push s (take at indices) twigs index twig all here)

-- there are as many
pub gives-count : (s : Source) (indices : List ℕ) (twigs : List Twig) → GivesTwigs s indices twigs → length twigs ≡ length indices
gives-count s [] [] all = refl
gives-count s [] (t ∷ twigs) all = absurd all
gives-count s (i ∷ indices) [] all = absurd all
gives-count s (i ∷ indices) (t ∷ twigs) all = omega (arith, gives-count s indices twigs all.1)

-- each in its range
pub gives-fit : (s : Source) (indices : List ℕ) (twigs : List Twig) → GivesTwigs s indices twigs → AllByRecursion TwigFits twigs
gives-fit s [] [] all = tt
gives-fit s [] (t ∷ twigs) all = absurd all
gives-fit s (i ∷ indices) [] all = absurd all
gives-fit s (i ∷ indices) (t ∷ twigs) all = (all.0.fits, gives-fit s indices twigs all.1)

-- the nodes of these subtrees are stored, and these are their twigs
pub record AreTwigs (node : Values) (trees : List Subtree) (twigs : List Twig) : Type 0 where
  pub stored : list_all (λ (tree : Subtree). is_some (node tree.depth tree.offset)) trees ≡ true
  pub are : twigs ≡ twigs_at node trees

-- so it is where the view shows its content
pub gives-shown : (s : Source) → IsTrue s.shows → (trees : List Subtree) (twigs : List Twig) → GivesTwigs s (numbers_of trees) twigs
    → AreTwigs s.content.node trees twigs
gives-shown s shows [] [] all = record { stored = refl; are = refl }
gives-shown s shows [] (t ∷ twigs) all = absurd all
gives-shown s shows (tree ∷ trees) [] all = absurd all
gives-shown s shows (tree ∷ trees) (t ∷ twigs) all =
    let rest = gives-shown s shows trees twigs all.1 in
    let there = all.0.shown shows tree.depth tree.offset refl in
    let others = list_all (λ (o : Subtree). is_some (s.content.node o.depth o.offset)) trees in
    record {
      stored = and_from (is_some (s.content.node tree.depth tree.offset)) others (ap is_some there) rest.stored;
      are = ap (λ (twig : Twig). twig ∷ twigs) (sym (twig_at-some s.content.node tree.depth tree.offset t there))
          ∙ ap (λ (ts : List Twig). twig_at s.content.node tree.depth tree.offset ∷ ts) rest.are;
    }

-- a part that is asked for answers
pub answers-some : {A B : Type 0} (Gives : A → B → Type 0) (asked : Option A) (a : A) (b : B) → asked ≡ Some a → Gives a b → Answers Gives asked (Some b)
answers-some Gives asked a b is given = subst (λ o. Answers Gives o (Some b)) (sym is) given
