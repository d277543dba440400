-- Nodes that are taken of a list, in its order.
use Rattle.std.proofs.Common.{◌≡◌, ℕ, suc, Bool, true, false, ◌+◌, ◌<◌, ◌≤◌, inl, inr, List, [], ◌∷◌, ◌++◌, length, take, get_or, nat_eq, Some, refl, sym, ap, subst, ◌∙◌, arith, if◌then◌else◌}
use Rattle.std.specs.Prelude.{◌&&◌, ◌||◌}
use Rattle.std.specs.List.{AllByRecursion}
use Rattle.std.proofs.lemmas.Bool.{cases_eq, eq-eqb, ne_eqb, or_parts}
use Rattle.std.proofs.lemmas.List.{take_more, take_all, append_assoc}
use Rattle.std.proofs.lemmas.List.Elements.{All-from_recursion, recursion_from_All}
use Rattle.std.proofs.lemmas.List.Kept.{AllPairs-cons}
use Rattle.flat_tree.specs.Subtrees.{number}
use Rattle.merkle_nodes.specs.declared.node.Node.{Node}
use Rattle.merkle_nodes.specs.Joined.{Values}
use Rattle.merkle_nodes.specs.Roots.{twig_of}
use Rattle.node_set.specs.Nodes.{with_node, with_nodes}
use Rattle.log_view.specs.Overlays.{has_number}
use Rattle.log_change.specs.LogChange.{Ascend}
use Rattle.proof_judge.specs.Coming.{Takes, IsOf}

-- one more of those behind some
pub front-next : (old now new more : List Node) (at : ℕ) (blank : Node) → at < length more → now ≡ old ++ take at more → new ≡ now ++ get_or more at blank ∷ []
    → new ≡ old ++ take (at + 1) more
front-next old now new more at blank within so_far is =
    is
    ∙ ap (λ (front : List Node). front ++ get_or more at blank ∷ []) so_far
    ∙ append_assoc old (take at more) (get_or more at blank ∷ [])
    ∙ ap (λ (rest : List Node). old ++ rest) (sym (take_more more at blank within))

-- none of none
pub takes-none : (P : Node → Bool → Type 0) (some : List Node) → some ≡ [] → Takes P [] some
unfolding Takes
takes-none P some none = none

-- one more at the end
pub takes-push : (P : Node → Bool → Type 0) (nodes some : List Node) (node : Node) (answer : Bool) → Takes P nodes some → P node answer
    → Takes P (nodes ++ node ∷ []) (some ++ (if answer then node ∷ [] else []))
unfolding Takes
takes-push P [] some node answer takes is = (answer, [], is, refl, ap (λ (front : List Node). front ++ (if answer then node ∷ [] else [])) takes ∙ either answer)
  where
    either : (b : Bool) → [] ++ (if b then node ∷ [] else []) ≡ (if b then node ∷ [] else [])
    either true = refl
    either false = refl
takes-push P (first ∷ nodes) some node answer (one, rest, own, takes, same) is = (
  one,
  rest ++ (if answer then node ∷ [] else []),
  own,
  takes-push P nodes rest node answer takes is,
  ap (λ (front : List Node). front ++ (if answer then node ∷ [] else [])) same ∙ either one,
)
  where
    either : (b : Bool) → (if b then first ∷ rest else rest) ++ (if answer then node ∷ [] else [])
        ≡ (if b then first ∷ rest ++ (if answer then node ∷ [] else []) else rest ++ (if answer then node ∷ [] else []))
    either true = refl
    either false = refl

-- one more of those in front
pub takes-next : (P : Node → Bool → Type 0) (nodes some more : List Node) (at : ℕ) (blank : Node) (answer : Bool) → at < length nodes
    → Takes P (take at nodes) some → P (get_or nodes at blank) answer → more ≡ some ++ (if answer then get_or nodes at blank ∷ [] else [])
    → Takes P (take (at + 1) nodes) more
takes-next P nodes some more at blank answer within takes is same =
    subst (λ (front : List Node). Takes P front more) (sym (take_more nodes at blank within))
    (subst (Takes P (take at nodes ++ get_or nodes at blank ∷ [])) (sym same) (takes-push P (take at nodes) some (get_or nodes at blank) answer takes is))

-- all of them
pub takes-end : (P : Node → Bool → Type 0) (nodes some : List Node) (at : ℕ) → length nodes ≤ at → Takes P (take at nodes) some → Takes P nodes some
takes-end P nodes some at past = subst (λ (front : List Node). Takes P front some) (take_all at nodes past)

-- what holds of each that is taken
pub takes-all : (P : Node → Bool → Type 0) (Q R : Node → Type 0) → ((node : Node) → Q node → P node true → R node) → (nodes some : List Node)
    → Takes P nodes some → AllByRecursion Q nodes → AllByRecursion R some
unfolding Takes
takes-all P Q R so [] some takes all = subst (AllByRecursion R) (sym takes) tt
takes-all P Q R so (node ∷ nodes) some (true, rest, own, takes, same) all =
    subst (AllByRecursion R) (sym same) (so node all.0 own, takes-all P Q R so nodes rest takes all.1)
takes-all P Q R so (node ∷ nodes) some (false, rest, own, takes, same) all = subst (AllByRecursion R) (sym same) (takes-all P Q R so nodes rest takes all.1)

-- a number whose nodes are all taken
pub takes-has : (P : Node → Bool → Type 0) (k : ℕ) → ((node : Node) (answer : Bool) → P node answer → node.index ≡ k → answer ≡ true) → (nodes some : List Node)
    → Takes P nodes some → has_number some k ≡ false → has_number nodes k ≡ false
unfolding Takes
takes-has P k each [] some takes none = refl
takes-has P k each (node ∷ nodes) some (true, rest, own, takes, same) none =
    let parts = or_parts (nat_eq node.index k) (has_number rest k) (ap (λ (ns : List Node). has_number ns k) (sym same) ∙ none) in
    ap (λ (b : Bool). b || has_number nodes k) parts.0 ∙ takes-has P k each nodes rest takes parts.1
takes-has P k each (node ∷ nodes) some (false, rest, own, takes, same) none = elim (cases_eq node.index k) [
  | inl here ↦ let clash : false ≡ true = each node false own here in cc
  | inr other ↦ ap (λ (b : Bool). b || has_number nodes k) (ne_eqb node.index k other) ∙ takes-has P k each nodes rest takes (ap (λ (ns : List Node). has_number ns k) (sym same) ∙ none)
]

pub takes-few : (P : Node → Bool → Type 0) (nodes some : List Node) → Takes P nodes some → length some ≤ length nodes
unfolding Takes
takes-few P [] some takes = omega (arith, ap length takes)
takes-few P (node ∷ nodes) some (true, rest, own, takes, same) = omega (arith, ap length same, takes-few P nodes rest takes)
takes-few P (node ∷ nodes) some (false, rest, own, takes, same) = omega (arith, ap length same, takes-few P nodes rest takes)

-- they stay in order
pub takes-order : (P : Node → Bool → Type 0) (nodes some : List Node) → Takes P nodes some → Ascend nodes → Ascend some
unfolding Takes
takes-order P [] some takes order = subst Ascend (sym takes) order
takes-order P (node ∷ nodes) some (answer, rest, own, takes, same) order =
    let later : Ascend nodes = λ i j d low high. order (suc i) (suc j) d (omega (arith, low)) (omega (arith, high)) in
    let first = recursion_from_All (λ (other : Node). node.index < other.index) nodes (λ k d low. order 0 (suc k) d (omega arith) (omega (arith, low))) in
    let above = All-from_recursion (λ (other : Node). node.index < other.index) rest
    (takes-all P _ (λ (other : Node). node.index < other.index) (λ other less own. less) nodes rest takes first) in
    let kept = takes-order P nodes rest takes later in
    subst Ascend (sym same) (either answer (AllPairs-cons (λ (one other : Node). one.index < other.index) node rest above kept) kept)
  where
    either : (b : Bool) → Ascend (node ∷ rest) → Ascend rest → Ascend (if b then node ∷ rest else rest)
    either true one other = one
    either false one other = other

-- what they put in at a number where the answer is one: the first of them, with what those behind it put in
taken_put : (value : Values) (d o : ℕ) (answer b : Bool) (node : Node) (nodes rest : List Node) (start : Values)
    → ((now : Values) → with_nodes now rest d o ≡ (if answer && has_number nodes (number d o) then value d o else now d o))
    → IsOf value node → (node.index ≡ number d o → b ≡ answer)
    → with_nodes start (if b then node ∷ rest else rest) d o ≡ (if answer && has_number (node ∷ nodes) (number d o) then value d o else start d o)
unfolding with_nodes
taken_put value d o answer b node nodes rest start behind own test = elim (cases_eq node.index (number d o)) [
  | inl here ↦ at_number b (test here) (eq-eqb node.index (number d o) here) (own d o here)
  | inr other ↦ elsewhere b (ne_eqb node.index (number d o) other)
]
  where
    either : (later : Bool) → value d o ≡ Some (twig_of node) → (if later then value d o else Some (twig_of node)) ≡ value d o
    either true is = refl
    either false is = sym is

    at_number : (b : Bool) → b ≡ answer → nat_eq node.index (number d o) ≡ true → value d o ≡ Some (twig_of node)
        → with_nodes start (if b then node ∷ rest else rest) d o ≡ (if answer && has_number (node ∷ nodes) (number d o) then value d o else start d o)
    at_number true is here has = rw (behind (with_node start node), sym is, here) (either (has_number nodes (number d o)) has)
    at_number false is here has = rw (behind start, sym is) refl

    elsewhere : (b : Bool) → nat_eq node.index (number d o) ≡ false
        → with_nodes start (if b then node ∷ rest else rest) d o ≡ (if answer && has_number (node ∷ nodes) (number d o) then value d o else start d o)
    elsewhere true other = rw (behind (with_node start node), other) refl
    elsewhere false other = rw (behind start, other) refl

pub takes-put : (P : Node → Bool → Type 0) (value : Values) (d o : ℕ) (answer : Bool) (nodes some : List Node) (start : Values) → Takes P nodes some
    → AllByRecursion (IsOf value) nodes → AllByRecursion (λ (node : Node). (b : Bool) → P node b → node.index ≡ number d o → b ≡ answer) nodes
    → with_nodes start some d o ≡ (if answer && has_number nodes (number d o) then value d o else start d o)
unfolding Takes with_nodes
takes-put P value d o answer [] some start takes all tests = ap (λ (ns : List Node). with_nodes start ns d o) takes ∙ either answer
  where
    either : (b : Bool) → start d o ≡ (if b && false then value d o else start d o)
    either true = refl
    either false = refl
takes-put P value d o answer (node ∷ nodes) some start (one, rest, own, takes, same) all tests =
    ap (λ (ns : List Node). with_nodes start ns d o) same
    ∙ taken_put value d o answer one node nodes rest start (λ now. takes-put P value d o answer nodes rest now takes all.1 tests.1) all.0 (tests.0 one own)
