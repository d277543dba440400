-- The nodes that may have to be written: those laid that are stored, and those of the block's way, in the order of their numbers.
use Rattle.std.proofs.Common.{◌≡◌, ℕ, Bool, true, false, List, [], ◌∷◌, ◌++◌, nat_eq, Option, Some, None, refl, sym, ap, subst, ◌∙◌}
use Rattle.std.specs.Prelude.{is_some, not, ◌||◌}
use Rattle.std.specs.List.{AllByRecursion}
use Rattle.std.specs.List.Sorted.{IsPermutation, IsNonDecreasingBy}
use Rattle.std.proofs.lemmas.Bool.{or_parts}
use Rattle.std.proofs.lemmas.List.Folds.{list_any-append}
use Rattle.std.proofs.lemmas.List.Sorted.{list_any-IsPermutation}
use Rattle.flat_tree.specs.Subtrees.{number}
use Rattle.flat_tree.proofs.NumberLemmas.{some_number}
use Rattle.merkle_nodes.specs.declared.node.Node.{Node}
use Rattle.merkle_nodes.specs.declared.node.Twig.{Twig}
use Rattle.merkle_nodes.specs.Joined.{or_value}
use Rattle.merkle_nodes.specs.Roots.{twig_of}
use Rattle.proof_form.specs.Proofs.{Proof, Block}
use Rattle.node_set.specs.Contents.{Content, held}
use Rattle.node_set.specs.Closure.{in_closure, is_root}
use Rattle.node_set.specs.Nodes.{with_nodes}
use Rattle.node_set.specs.Whole.{IsClosed}
use Rattle.node_set.proofs.CoverLemmas.{all-append}
use Rattle.node_set.proofs.RootTruth.{twig_at-some}
use Rattle.node_set.proofs.SoundLemmas.{closed_in}
use Rattle.log_view.specs.Overlays.{has_number}
use Rattle.log_view.proofs.Finding.{with_nodes-absent}
use Rattle.log_change.specs.LogChange.{Ascend, stays}
use Rattle.log_change.proofs.Applied.{same_is}
use Rattle.log_change.proofs.InOrder.{all_moved}
use Rattle.log_change.proofs.Named.{number_of}
use Rattle.proof_check.specs.Judge.{with_block}
use Rattle.proof_judge.specs.Coming.{IsOver, IsOf, MayCome, Takes, IsToStore}
use Rattle.proof_judge.specs.PartsMet.{IsBlockWay}
use Rattle.proof_judge.proofs.Gathered.{put_by, way_apart, way_once_of, way_own, with_block_node, block_length, or_none}
use Rattle.proof_judge.proofs.Once.{Once, once-append, once-put, ascend-once, sorted-ascend}
use Rattle.proof_judge.proofs.Taken.{takes-all, takes-has, takes-order}
use Rattle.proof_judge.proofs.Ways.{AllAt, named_at}

-- ---- in order

-- all were put in their order
pub all_moved_of : (stored way slice all nodes : List Node) → all ≡ stored ++ slice → slice ≡ way → IsPermutation all nodes → IsPermutation (stored ++ way) nodes
all_moved_of stored way slice all nodes is same = subst (λ (ns : List Node). IsPermutation ns nodes) (is ∙ ap (λ (ns : List Node). stored ++ ns) same)

module _ (n : ℕ) (bits : ℕ → Bool) (block : Option Block) (laid way stored nodes : List Node) (order : Ascend laid) (way_is : IsBlockWay n bits block way)
    (takes : Takes (IsToStore n bits) laid stored) (moved : IsPermutation (stored ++ way) nodes) where
  all_stored : AllAt (λ d o. in_closure n bits d o ≡ true) stored
  all_stored = takes-all (IsToStore n bits) (λ node. Node) (λ node. (d o : ℕ) → node.index ≡ number d o → in_closure n bits d o ≡ true)
      (λ node any own d o is. sym (own d o (sym is))) laid stored takes (each laid)
    where
      each : (ns : List Node) → AllByRecursion (λ node. Node) ns
      each [] = tt
      each (node ∷ ns) = (node, each ns)

  once : Once (stored ++ way)
  once = once-append stored way (ascend-once stored (takes-order (IsToStore n bits) laid stored takes order)) (way_once_of n bits block way way_is) (λ k here there.
      let at = some_number k in
      let stored_there = named_at (λ d o. in_closure n bits d o ≡ true) stored at.0 at.1.0 all_stored (ap (has_number stored) (sym at.1.1) ∙ here) in
      let apart = named_at (λ d o. in_closure n bits d o ≡ false) way at.0 at.1.0 (way_apart n bits block way way_is) (ap (has_number way) (sym at.1.1) ∙ there) in
      let clash : true ≡ false = sym stored_there ∙ apart in
      cc)

  pub candidates_ascend : IsNonDecreasingBy number_of nodes → Ascend nodes
  candidates_ascend = sorted-ascend (stored ++ way) nodes once moved

-- ---- over a closed log

-- either has it
either_has : (one other : List Node) (k : ℕ) → has_number (one ++ other) k ≡ (has_number one k || has_number other k)
either_has one other k = list_any-append (λ (node : Node). nat_eq node.index k) one other

module _ (p : Proof) (m after : Content) (laid way stored nodes : List Node) (closed_after : IsClosed after.length after.block after.node) (over : IsOver m after laid)
    (order : Ascend laid) (way_is : IsBlockWay after.length (held after) p.block way) (takes : Takes (IsToStore after.length (held after)) laid stored)
    (moved : IsPermutation (stored ++ way) nodes) where
  abbrev last : Content
  last = with_block p after

  abbrev is_to_store : ℕ → ℕ → Bool
  is_to_store = in_closure after.length (held after)

  value_last : (d o : ℕ) (one other : Option Twig) → after.node d o ≡ one → put_by way d o ≡ other → last.node d o ≡ or_value one other
  value_last d o one other is is_put = with_block_node p after way closed_after way_is d o ∙ ap (λ (v : Option Twig). or_value v (put_by way d o)) is ∙ ap (or_value one) is_put

  laid_own : AllByRecursion (IsOf last.node) stored
  laid_own = takes-all (IsToStore after.length (held after)) (IsOf (with_nodes m.node laid)) (IsOf last.node) (λ node of_laid own d o is.
      value_last d o (Some (twig_of node)) (put_by way d o) (over.nodes d o ∙ closed_in after.length after.block (with_nodes m.node laid) d o (sym (own d o (sym is))) ∙ of_laid d o is) refl)
      laid stored takes (once-put laid m.node (ascend-once laid order))

  -- each other node was the log's before, and no root that wasn't one
  others : (d o : ℕ) (twig : Twig) → has_number nodes (number d o) ≡ false → last.node d o ≡ Some twig → stays m last d o ≡ true
  others d o twig none is =
      let parts = or_parts (has_number stored (number d o)) (has_number way (number d o))
      (sym (either_has stored way (number d o)) ∙ list_any-IsPermutation (λ (node : Node). nat_eq node.index (number d o)) (stored ++ way) nodes moved ∙ none) in
      let value : after.node d o ≡ Some twig =
      or_none (after.node d o) ∙ sym (value_last d o (after.node d o) None refl (with_nodes-absent way (λ d o. None) d o parts.1)) ∙ is in
      let to_store : is_to_store d o ≡ true = sym (closed_after d o) ∙ ap is_some value in
      let unlaid = takes-has (IsToStore after.length (held after)) (number d o) (λ node answer own same. own d o (sym same) ∙ to_store) laid stored takes parts.0 in
      let before : m.node d o ≡ Some twig =
      sym (over.nodes d o ∙ closed_in after.length after.block (with_nodes m.node laid) d o to_store ∙ with_nodes-absent laid m.node d o unlaid) ∙ value in
      rw (before, twig_at-some last.node d o twig is, same_is twig, block_length p after) (either (is_root after.length d o) (is_root m.length d o) (λ root. over.roots d o root unlaid))
    where
      either : (now then : Bool) → (now ≡ true → then ≡ true) → (not now || then) ≡ true
      either false then kept = refl
      either true then kept = kept refl

  pub candidates_come : MayCome m last nodes
  candidates_come = record {
    own = all_moved (IsOf last.node) (stored ++ way) nodes moved (all-append (IsOf last.node) stored way laid_own (way_own p after way closed_after way_is));
    others = others;
  }
