-- What a change leads to: the nodes that stay and those that come in are all of the closure after it.
use Rattle.std.proofs.Common.{◌≡◌, ℕ, Bool, true, false, inl, inr, List, [], ◌∷◌, Option, Some, None, refl, sym, ap, ◌∙◌, nat_eq, if◌then◌else◌}
use Rattle.std.specs.Prelude.{is_some, not, ◌&&◌, ◌||◌}
use Rattle.std.specs.Str.{bytes_eq}
use Rattle.std.proofs.lemmas.Bool.{cases_Bool, and_from, and_parts, eq-eqb, eqb-true}
use Rattle.std.proofs.lemmas.Slice.Eq.{bytes_eq-Decides}
use mathlib.Core.Path.{fun_ext}
use Rattle.flat_tree.specs.Subtrees.{number}
use Rattle.commit_book.specs.declared.commit.Commit.{Commit}
use Rattle.merkle_nodes.specs.declared.node.Node.{Node}
use Rattle.merkle_nodes.specs.declared.node.Twig.{Twig}
use Rattle.merkle_nodes.specs.declared.roots.Head.{Head}
use Rattle.merkle_nodes.specs.Roots.{twig_of}
use Rattle.merkle_nodes.specs.Joined.{or_value}
use Rattle.node_set.specs.Contents.{Content, Blocks, Values, held, twig_at}
use Rattle.node_set.specs.Closure.{in_closure, is_root}
use Rattle.node_set.specs.Same.{is_same, is_stored_as}
use Rattle.node_set.specs.Nodes.{with_node, with_nodes}
use Rattle.node_set.specs.Changes.{closed, content_on}
use Rattle.node_set.specs.Whole.{IsClosed}
use Rattle.node_set.proofs.RootTruth.{some_or_none, twig_at-some, twig_same}
use Rattle.node_set.proofs.SoundLemmas.{closed_in, closed_out}
use Rattle.log_change.specs.declared.change.LogChange.{LogChange}
use Rattle.log_change.specs.LogChange.{stays, AreFresh, blocks_after, content_after, head_of, IsChange}

-- ---- equal twigs

pub same_twig : (one other : Twig) → is_same one other ≡ true → one ≡ other
same_twig one other same =
    let parts = and_parts (nat_eq one.size other.size) (bytes_eq one.hash other.hash) same in
    twig_same one other (eqb-true one.size other.size parts.0) ((bytes_eq-Decides one.hash other.hash).0 parts.1)

pub same_is : (twig : Twig) → is_same twig twig ≡ true
same_is twig =
    and_from (nat_eq twig.size twig.size) (bytes_eq twig.hash twig.hash) (eq-eqb twig.size twig.size refl) ((bytes_eq-Decides twig.hash twig.hash).1 refl)

pub stored_as : (found : Option Twig) (twig : Twig) → is_stored_as found twig ≡ true → found ≡ Some twig
stored_as None twig test = let clash : false ≡ true = test in cc
stored_as (Some own) twig test = ap Some (same_twig own twig test)

pub as_stored : (found : Option Twig) (twig : Twig) → found ≡ Some twig → is_stored_as found twig ≡ true
as_stored found twig is = ap (λ (o : Option Twig). is_stored_as o twig) is ∙ same_is twig

-- no node comes in where there is none
pub none_either : (stay : Bool) (value : Option Twig) → value ≡ None → (if stay then None else value) ≡ None
none_either true value none = refl
none_either false value none = none

-- ---- heads

abbrev head_with : ℕ → ℕ → List ℕ → Head
head_with fork blocks signature = record { fork = fork; length = blocks; signature = signature }

pub head_same : (fork blocks : ℕ) (signature : List ℕ) (head : Head) → fork ≡ head.fork → blocks ≡ head.length → signature ≡ head.signature
    → head_with fork blocks signature ≡ head
head_same fork blocks signature head same_fork same_length same =
    ap (λ (f : ℕ). head_with f blocks signature) same_fork ∙ ap (λ (n : ℕ). head_with head.fork n signature) same_length ∙ ap (head_with head.fork head.length) same

-- ---- nodes laid over values

-- what some nodes put over values: their own, or else the value below
pub with_nodes-over : (nodes : List Node) (value : Values) (d o : ℕ)
    → with_nodes value nodes d o ≡ or_value (with_nodes (λ d o. None) nodes d o) (value d o)
unfolding with_nodes
with_nodes-over [] value d o = refl
with_nodes-over (node ∷ nodes) value d o =
    with_nodes-over nodes (with_node value node) d o
    ∙ either (with_nodes (λ d o. None) nodes d o) (nat_eq node.index (number d o))
    ∙ sym (ap (λ (t : Option Twig). or_value t (value d o)) (with_nodes-over nodes (with_node (λ d o. None) node) d o))
  where
    either : (later : Option Twig) (here : Bool)
        → or_value later (if here then Some (twig_of node) else value d o) ≡ or_value (or_value later (if here then Some (twig_of node) else None)) (value d o)
    either (Some twig) here = refl
    either None true = refl
    either None false = refl

-- ---- the content after

module _ (m after : Content) (fresh : List Node) (is_closed : IsClosed after.length after.block after.node) (are_fresh : AreFresh m after fresh) (d o : ℕ) where
  stored_here : (twig : Twig) → after.node d o ≡ Some twig → with_nodes m.node fresh d o ≡ after.node d o
  stored_here twig is =
      let over = with_nodes-over fresh m.node d o in
      elim (cases_Bool (stays m after d o)) [
        | inl stay ↦
            let none : with_nodes (λ d o. None) fresh d o ≡ None = are_fresh d o ∙ rw stay refl in
            let parts = and_parts (is_stored_as (m.node d o) (twig_at after.node d o)) (not (is_root after.length d o) || is_root m.length d o) stay in
            let old = stored_as (m.node d o) (twig_at after.node d o) parts.0 in
            over ∙ ap (λ (t : Option Twig). or_value t (m.node d o)) none ∙ old ∙ ap Some (twig_at-some after.node d o twig is) ∙ sym is
        | inr new ↦
            let laid : with_nodes (λ d o. None) fresh d o ≡ Some twig = are_fresh d o ∙ rw new is in
            over ∙ ap (λ (t : Option Twig). or_value t (m.node d o)) laid ∙ sym is
      ]

  pub node_after : closed after.length after.block (with_nodes m.node fresh) d o ≡ after.node d o
  node_after = elim (some_or_none (after.node d o)) [
    | inl some ↦
        let inside : in_closure after.length (held after) d o ≡ true = sym (is_closed d o) ∙ ap is_some some.1 in
        closed_in after.length after.block (with_nodes m.node fresh) d o inside ∙ stored_here some.0 some.1
    | inr none ↦
        let outside : in_closure after.length (held after) d o ≡ false = sym (is_closed d o) ∙ ap is_some none in
        closed_out after.length after.block (with_nodes m.node fresh) d o outside ∙ sym none
  ]

-- the content with other nodes
abbrev on_node : Content → Values → Content
on_node c node = record { fork = c.fork; length = c.length; signature = c.signature; block = c.block; node = node }

pub leads_to : (m after : Content) (commit : Option Commit) (come : List (List ℕ)) (fresh : List Node) (change : LogChange)
    → IsClosed after.length after.block after.node → IsChange m after commit come fresh change → content_after change come fresh m ≡ after
leads_to m after commit come fresh change is_closed is =
    let on = λ (head : Head) (block : Blocks). content_on head.fork head.length head.signature block (with_nodes m.node fresh) in
    let blocks : blocks_after change come m.block ≡ after.block = fun_ext (λ index. sym (is.blocks index)) in
    let nodes : closed after.length after.block (with_nodes m.node fresh) ≡ after.node = fun_ext (λ d. fun_ext (λ o. node_after m after fresh is_closed is.nodes d o)) in
    ap (λ (head : Head). on head (blocks_after change come m.block)) is.head_is ∙ ap (on (head_of after)) blocks ∙ ap (on_node after) nodes
