-- Nodes by their numbers: which values they have, and what they put in.
use Rattle.std.proofs.Common.{◌≡◌, ℕ, zero, suc, ◌<◌, Bool, true, false, inl, inr, List, [], ◌∷◌, map, length, get_or, nat_eq, if◌then◌else◌, Option, Some, None, refl, sym, ap, subst, ◌∙◌, arith}
use Rattle.std.specs.Prelude.{option_map, not, ◌&&◌, ◌||◌}
use Rattle.std.specs.List.{AllByRecursion, list_any, filter}
use Rattle.std.proofs.Math.Bool.{or-true}
use Rattle.std.proofs.lemmas.Bool.{cases_Bool, cases_eq, eq-eqb, ne_eqb}
use Rattle.flat_tree.specs.Subtrees.{Subtree, subtree, number, numbers_of}
use Rattle.flat_tree.proofs.NumberLemmas.{same_depth, same_place}
use Rattle.merkle_nodes.specs.declared.node.Node.{Node}
use Rattle.merkle_nodes.specs.declared.node.Twig.{Twig}
use Rattle.merkle_nodes.specs.Joined.{Values}
use Rattle.merkle_nodes.specs.Nodes.{AreNodes, node_in}
use Rattle.merkle_nodes.specs.Roots.{node_of, twig_of}
use Rattle.merkle_nodes.proofs.JoinedValues.{node_in-value}
use Rattle.node_set.specs.Contents.{node_at}
use Rattle.node_set.specs.Nodes.{with_node, with_nodes}
use Rattle.node_set.proofs.RootTruth.{twig_at-some}

abbrev pub number_of : Node → ℕ
number_of node = node.index

-- a number is among these
abbrev pub is_among : List ℕ → ℕ → Bool
is_among ns k = list_any (λ (n : ℕ). nat_eq n k) ns

-- a node has the value of its number
abbrev pub HasValue : Values → Node → Type 0
HasValue value node = (d o : ℕ) → node.index ≡ number d o → value d o ≡ Some (twig_of node)

-- the values at one number are those at another's subtree
pub same_subtree : (d o e p : ℕ) → number d o ≡ number e p → (d ≡ e) × (o ≡ p)
same_subtree d o e p same =
    let deep = same_depth d o e p same in
    (deep, same_place e o p (ap (λ (k : ℕ). number k o) (sym deep) ∙ same))

own_number : (value : Option Twig) (d o : ℕ) (node : Node) → Some node ≡ option_map (node_of d o) value → node.index ≡ number d o
own_number None d o node is = cc
own_number (Some twig) d o node is = let same : node ≡ node_of d o twig = cc in ap number_of same

-- the nodes of some subtrees have their numbers
pub numbers_are : (value : Values) (trees : List Subtree) (nodes : List Node) → AreNodes value trees nodes → map number_of nodes ≡ numbers_of trees
numbers_are value [] [] are = refl
numbers_are value [] (node ∷ nodes) are = let clash : Some node ∷ map Some nodes ≡ [] = are in cc
numbers_are value (tree ∷ trees) [] are = let clash : [] ≡ node_in value tree ∷ map (node_in value) trees = are in cc
numbers_are value (tree ∷ trees) (node ∷ nodes) are =
    let first : Some node ≡ node_in value tree = cc in
    let rest : map Some nodes ≡ map (node_in value) trees = cc in
    ap (λ (n : ℕ). n ∷ map number_of nodes) (own_number (value tree.depth tree.offset) tree.depth tree.offset node first)
    ∙ ap (λ (ns : List ℕ). number tree.depth tree.offset ∷ ns) (numbers_are value trees nodes rest)

-- and their values
pub values_are : (value : Values) (trees : List Subtree) (nodes : List Node) → AreNodes value trees nodes → AllByRecursion (HasValue value) nodes
values_are value trees [] are = tt
values_are value [] (node ∷ nodes) are = let clash : Some node ∷ map Some nodes ≡ [] = are in cc
values_are value (tree ∷ trees) (node ∷ nodes) are =
    let first : Some node ≡ node_in value tree = cc in
    let rest : map Some nodes ≡ map (node_in value) trees = cc in
    (own first, values_are value trees nodes rest)
  where
    own : Some node ≡ node_in value tree → HasValue value node
    own first d o is =
        let same = same_subtree tree.depth tree.offset d o (sym (own_number (value tree.depth tree.offset) tree.depth tree.offset node first) ∙ is) in
        sym (ap (λ (k : ℕ). value k tree.offset) same.0 ∙ ap (value d) same.1) ∙ node_in-value value tree node (sym first)

-- they are the nodes at these subtrees
pub nodes_are : (value : Values) (trees : List Subtree) (nodes : List Node) → AreNodes value trees nodes
    → nodes ≡ map (λ (tree : Subtree). node_at value tree.depth tree.offset) trees
nodes_are value [] [] are = refl
nodes_are value [] (node ∷ nodes) are = let clash : Some node ∷ map Some nodes ≡ [] = are in cc
nodes_are value (tree ∷ trees) [] are = let clash : [] ≡ node_in value tree ∷ map (node_in value) trees = are in cc
nodes_are value (tree ∷ trees) (node ∷ nodes) are =
    let first : Some node ≡ node_in value tree = cc in
    let rest : map Some nodes ≡ map (node_in value) trees = cc in
    let twig = twig_at-some value tree.depth tree.offset (twig_of node) (node_in-value value tree node (sym first)) in
    let index = own_number (value tree.depth tree.offset) tree.depth tree.offset node first in
    let here : node ≡ node_at value tree.depth tree.offset =
    ap (λ (i : ℕ). record { index = i; size = node.size; hash = node.hash }) index ∙ ap (node_of tree.depth tree.offset) (sym twig) in
    ap (λ (n : Node). n ∷ nodes) here ∙ ap (λ (ns : List Node). node_at value tree.depth tree.offset ∷ ns) (nodes_are value trees nodes rest)

-- ---- subtrees by their numbers

-- what holds of each subtree holds of one whose number is among theirs
pub among_all : (P : ℕ → ℕ → Type 0) (trees : List Subtree) (d o : ℕ) → AllByRecursion (λ (tree : Subtree). P tree.depth tree.offset) trees
    → is_among (numbers_of trees) (number d o) ≡ true → P d o
among_all P [] d o all test = let clash : false ≡ true = test in cc
among_all P (tree ∷ trees) d o all test = elim (cases_eq (number tree.depth tree.offset) (number d o)) [
  | inl here ↦
      let same = same_subtree tree.depth tree.offset d o here in
      subst (P d) same.1 (subst (λ (k : ℕ). P k tree.offset) same.0 all.0)
  | inr other ↦ among_all P trees d o all.1 (ap (λ (b : Bool). b || is_among (numbers_of trees) (number d o)) (sym (ne_eqb (number tree.depth tree.offset) (number d o) other)) ∙ test)
]

-- the number of a subtree that they have is among theirs
pub get_among : (trees : List Subtree) (k d o : ℕ) → k < length trees → get_or trees k (subtree d o) ≡ subtree d o → is_among (numbers_of trees) (number d o) ≡ true
get_among [] k d o less is = absurd (omega (arith, less))
get_among (tree ∷ trees) zero d o less is =
    let equal : number tree.depth tree.offset ≡ number d o = ap (λ (t : Subtree). number t.depth t.offset) is in
    ap (λ (b : Bool). b || is_among (numbers_of trees) (number d o)) (eq-eqb (number tree.depth tree.offset) (number d o) equal)
get_among (tree ∷ trees) (suc k) d o less is =
    let rest = get_among trees k d o (omega (arith, less)) is in
    ap (λ (b : Bool). nat_eq (number tree.depth tree.offset) (number d o) || b) rest ∙ or-true (nat_eq (number tree.depth tree.offset) (number d o))

-- ---- what some of such nodes put in

-- at a number where the test has one answer
pub filter_put : (value : Values) (test : Node → Bool) (answer : Bool) (d o : ℕ) (nodes : List Node) (start : Values) → AllByRecursion (HasValue value) nodes
    → AllByRecursion (λ (node : Node). node.index ≡ number d o → test node ≡ answer) nodes
    → with_nodes start (filter test nodes) d o ≡ (if answer && is_among (map number_of nodes) (number d o) then value d o else start d o)
unfolding with_nodes
filter_put value test answer d o [] start all tests = refl_none answer
  where
    refl_none : (b : Bool) → start d o ≡ (if b && false then value d o else start d o)
    refl_none true = refl
    refl_none false = refl
filter_put value test answer d o (node ∷ nodes) start all tests = elim (cases_Bool (test node)) [
  | inr skipped ↦ rw skipped (filter_put value test answer d o nodes start all.1 tests.1 ∙ (elim (cases_eq node.index (number d o)) [
    | inl here ↦ rw (eq-eqb node.index (number d o) here, sym (tests.0 here) ∙ skipped) refl
    | inr other ↦ rw (ne_eqb node.index (number d o) other) refl
  ]))
  | inl taken ↦ rw taken (filter_put value test answer d o nodes (with_node start node) all.1 tests.1 ∙ (elim (cases_eq node.index (number d o)) [
    | inr other ↦ rw (ne_eqb node.index (number d o) other) refl
    | inl here ↦
        rw (eq-eqb node.index (number d o) here, sym (tests.0 here) ∙ taken) (either (is_among (map number_of nodes) (number d o)) (all.0 d o here))
  ]))
]
  where
    either : (later : Bool) → value d o ≡ Some (twig_of node) → (if later then value d o else Some (twig_of node)) ≡ value d o
    either true is = refl
    either false is = sym is

-- all of them
pub all_put : (value : Values) (d o : ℕ) (nodes : List Node) (start : Values) → AllByRecursion (HasValue value) nodes
    → with_nodes start nodes d o ≡ (if is_among (map number_of nodes) (number d o) then value d o else start d o)
all_put value d o nodes start all =
    ap (λ (ns : List Node). with_nodes start ns d o) (sym (every nodes)) ∙ filter_put value (λ node. true) true d o nodes start all (tests nodes)
  where
    every : (ns : List Node) → filter (λ node. true) ns ≡ ns
    every [] = refl
    every (node ∷ ns) = ap (λ (l : List Node). node ∷ l) (every ns)

    tests : (ns : List Node) → AllByRecursion (λ (node : Node). node.index ≡ number d o → true ≡ true) ns
    tests [] = tt
    tests (node ∷ ns) = (λ is. refl, tests ns)
