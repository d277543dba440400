-- What comes in with a proof.
use Rattle.std.proofs.Common.{◌≡◌, ℕ, Bool, true, false, ◌+◌, ◌<◌, ◌≤◌, ◌⊎◌, inl, inr, arith, List, [], ◌∷◌, ◌++◌, length, take, get_or, Option, Some, None, IsTrue, refl, sym, ap, subst, ◌∙◌, if◌then◌else◌}
use Rattle.std.specs.Prelude.{is_some, not, ◌&&◌}
use Rattle.std.specs.List.{AllByRecursion}
use Rattle.std.proofs.lemmas.Bool.{cases_lt}
use Rattle.flat_tree.specs.Subtrees.{number, end_block_of}
use Rattle.merkle_nodes.specs.declared.node.Node.{Node}
use Rattle.merkle_nodes.specs.declared.node.Twig.{Twig}
use Rattle.merkle_nodes.specs.declared.roots.Head.{Head}
use Rattle.merkle_nodes.specs.Roots.{twig_of}
use Rattle.node_set.specs.Contents.{Content, held}
use Rattle.node_set.specs.Closure.{in_closure}
use Rattle.node_set.specs.Nodes.{with_nodes}
use Rattle.node_set.specs.Whole.{IsClosed}
use Rattle.node_set.proofs.AppendLemmas.{all_so}
use Rattle.node_set.proofs.ClosureLemmas.{span_some, true_root, root_true}
use Rattle.log_view.specs.Views.{Source}
use Rattle.log_view.specs.Overlays.{has_number, laid_over}
use Rattle.log_change.specs.LogChange.{AreFresh, stays}
use Rattle.root_stack.specs.Made.{IsMade}
use Rattle.proof_judge.specs.Coming.{IsOver, IsOf, MayCome, ComesIn, Takes}
use Rattle.proof_judge.proofs.Taken.{takes-next, takes-put}

-- one more node comes in where it doesn't stay, by what a view with the same source reported of it
pub next_comes : (s t : Source) (n : ℕ) (nodes some more : List Node) (at : ℕ) (blank : Node) (same : Bool) → t ≡ s → at < length nodes
    → Takes (ComesIn s n) (take at nodes) some
    → (IsTrue same → t.gives (get_or nodes at blank).index (twig_of (get_or nodes at blank)) ≡ true)
    → (IsTrue t.shows → IsClosed t.content.length t.content.block t.content.node → (after : Content) (d o : ℕ) → after.length ≡ n
    → number d o ≡ (get_or nodes at blank).index → after.node d o ≡ Some (twig_of (get_or nodes at blank)) → same ≡ stays t.content after d o)
    → more ≡ some ++ (if not same then get_or nodes at blank ∷ [] else []) → Takes (ComesIn s n) (take (at + 1) nodes) more
next_comes s t n nodes some more at blank same source within takes given shown is =
    takes-next (ComesIn s n) nodes some more at blank (not same) within takes
    (subst (λ (u : Source). ComesIn u n (get_or nodes at blank) (not same)) source (record {
      given = λ none. given (kept same none);
      shown = λ shows closed after d o long index has. ap not (shown shows closed after d o long index has);
    })) is
  where
    kept : (b : Bool) → not b ≡ false → IsTrue b
    kept true is = refl
    kept false is = cc

-- of the nodes that may come those are fresh that don't stay
pub fresh_of : (s : Source) (after : Content) (n : ℕ) (nodes fresh : List Node) → Takes (ComesIn s n) nodes fresh → IsTrue s.shows
    → IsClosed s.content.length s.content.block s.content.node → after.length ≡ n → MayCome s.content after nodes → AreFresh s.content after fresh
fresh_of s after n nodes fresh takes shows closed long may d o =
    takes-put (ComesIn s n) after.node d o (not (stays s.content after d o)) nodes fresh (λ d o. None) takes may.own tests
    ∙ either (stays s.content after d o) (has_number nodes (number d o)) (after.node d o) (λ twig none is. may.others d o twig none is)
  where
    tests : AllByRecursion (λ (node : Node). (b : Bool) → ComesIn s n node b → node.index ≡ number d o → b ≡ not (stays s.content after d o)) nodes
    tests = all_so (IsOf after.node) _ (λ node own b comes is. comes.shown shows closed after d o long (sym is) (own d o is)) nodes may.own

    either : (same has : Bool) (value : Option Twig) → ((twig : Twig) → has ≡ false → value ≡ Some twig → same ≡ true)
        → (if not same && has then value else None) ≡ (if same then None else value)
    either true has value other = refl
    either false true value other = refl
    either false false None other = refl
    either false false (Some twig) other = let clash : false ≡ true = other twig refl refl in cc

-- ---- what is laid

-- over itself a log has nothing laid
pub over_none : (m : Content) → IsClosed m.length m.block m.node → IsOver m m []
unfolding with_nodes
over_none m closed_m = record {
  nodes = λ d o. either (in_closure m.length (held m) d o) (m.node d o) (closed_m d o);
  roots = λ d o root none. root;
}
  where
    either : (stored : Bool) (value : Option Twig) → is_some value ≡ stored → value ≡ (if stored then value else None)
    either true value is = refl
    either false None is = refl
    either false (Some twig) is = cc

-- the nodes that become full behind a log's end, or without it
pub over_laid : (m : Content) (head : Head) (kept : ℕ) (laid : List Node) (start : ℕ) → (start ≡ 0) ⊎ (start ≡ m.length) → start ≤ head.length
    → ((d o : ℕ) → IsMade start head.length d o → has_number laid (number d o) ≡ true) → IsOver m (laid_over m head kept laid) laid
over_laid m head kept laid start starts within made = record {
  nodes = λ d o. refl;
  roots = λ d o root none.
      let is = true_root head.length d o root in
      elim (cases_lt start (end_block_of d o)) [
        | inl past ↦
            let clash : true ≡ false = sym (made d o (record { past = past; within = is.within; over = inr is.largest })) ∙ none in cc
        | inr low ↦ root_true m.length d o (elim starts [
          | inl empty ↦ absurd (omega (arith, empty, low, span_some d o))
          | inr whole ↦ record { within = omega (arith, low, whole); largest = omega (arith, within, whole, is.largest) }
        ])
      ];
}
