-- Lists of nodes in which no number comes twice.
use Rattle.std.proofs.Common.{◌≡◌, ℕ, suc, Bool, true, false, ◌<◌, ◌≤◌, inl, inr, List, [], ◌∷◌, ◌++◌, map, refl, sym, ap, ◌∙◌, arith}
use Rattle.std.specs.Prelude.{◌||◌}
use Rattle.std.specs.List.{AllByRecursion}
use Rattle.std.specs.List.Sorted.{IsPermutation, IsNonDecreasingBy}
use Rattle.std.proofs.lemmas.Bool.{cases_Bool, cases_eq, eq-eqb, ne_eqb}
use Rattle.std.proofs.lemmas.List.{map-append}
use Rattle.std.proofs.lemmas.List.Elements.{recursion_from_All}
use Rattle.std.proofs.lemmas.List.Sorted.{IsPermutation-map, sum_by-IsPermutation}
use Rattle.std.proofs.lemmas.List.Sums.{sum_by-append, sum_by-cons}
use Rattle.flat_tree.specs.Subtrees.{number}
use Rattle.merkle_nodes.specs.declared.node.Node.{Node}
use Rattle.merkle_nodes.specs.Joined.{Values}
use Rattle.node_set.specs.Nodes.{with_node, with_nodes}
use Rattle.log_view.specs.Overlays.{has_number}
use Rattle.log_view.proofs.Finding.{with_nodes-absent}
use Rattle.log_change.specs.LogChange.{Ascend}
use Rattle.log_change.proofs.InOrder.{one_if, many, once_ascend}
use Rattle.log_change.proofs.Named.{number_of}
use Rattle.proof_judge.specs.Coming.{IsOf}

abbrev pub Once : List Node → Type 0
Once nodes = (k : ℕ) → many k (map number_of nodes) ≤ 1

-- how often a number comes that isn't there, or is
many-absent : (k : ℕ) (nodes : List Node) → has_number nodes k ≡ false → many k (map number_of nodes) ≡ 0
many-absent k [] none = refl
many-absent k (node ∷ nodes) none =
    let sum = sum_by-cons (one_if k) node.index (map number_of nodes) in
    elim (cases_eq node.index k) [
      | inl here ↦ let clash : true ≡ false = sym (ap (λ (b : Bool). b || has_number nodes k) (eq-eqb node.index k here)) ∙ none in cc
      | inr other ↦
          let rest : has_number nodes k ≡ false = ap (λ (b : Bool). b || has_number nodes k) (sym (ne_eqb node.index k other)) ∙ none in
          let own : one_if k node.index ≡ 0 = rw (ne_eqb node.index k other) refl in
          omega (arith, sum, own, many-absent k nodes rest)
    ]

absent-many : (k : ℕ) (nodes : List Node) → many k (map number_of nodes) ≡ 0 → has_number nodes k ≡ false
absent-many k [] none = refl
absent-many k (node ∷ nodes) none =
    let sum = sum_by-cons (one_if k) node.index (map number_of nodes) in
    elim (cases_eq node.index k) [
      | inl here ↦ let own : one_if k node.index ≡ 1 = rw (eq-eqb node.index k here) refl in absurd (omega (arith, sum, own, none))
      | inr other ↦
          ap (λ (b : Bool). b || has_number nodes k) (ne_eqb node.index k other) ∙ absent-many k nodes (omega (arith, sum, none))
    ]

-- of the first node's number there is no other
once-first : (node : Node) (nodes : List Node) → Once (node ∷ nodes) → has_number nodes node.index ≡ false
once-first node nodes once =
    let sum = sum_by-cons (one_if node.index) node.index (map number_of nodes) in
    let own : one_if node.index node.index ≡ 1 = rw (eq-eqb node.index node.index refl) refl in
    absent-many node.index nodes (omega (arith, sum, own, once node.index))

once-rest : (node : Node) (nodes : List Node) → Once (node ∷ nodes) → Once nodes
once-rest node nodes once k = let sum = sum_by-cons (one_if k) node.index (map number_of nodes) in omega (arith, sum, once k)

-- one more whose number isn't there
pub once-cons : (node : Node) (nodes : List Node) → Once nodes → has_number nodes node.index ≡ false → Once (node ∷ nodes)
once-cons node nodes once none k =
    let sum = sum_by-cons (one_if k) node.index (map number_of nodes) in
    elim (cases_eq node.index k) [
      | inl here ↦
          let own : one_if k node.index ≡ 1 = rw (eq-eqb node.index k here) refl in
          let absent = many-absent k nodes (ap (has_number nodes) (sym here) ∙ none) in
          omega (arith, sum, own, absent)
      | inr other ↦ let own : one_if k node.index ≡ 0 = rw (ne_eqb node.index k other) refl in omega (arith, sum, own, once k)
    ]

-- two lists that share none
pub once-append : (one other : List Node) → Once one → Once other → ((k : ℕ) → has_number one k ≡ true → has_number other k ≡ true → ⊥) → Once (one ++ other)
once-append one other once again apart k =
    let sum = ap (many k) (map-append number_of one other) ∙ sum_by-append (one_if k) (map number_of one) (map number_of other) in
    elim (cases_Bool (has_number one k)) [
      | inr none ↦ omega (arith, sum, many-absent k one none, again k)
      | inl some ↦ elim (cases_Bool (has_number other k)) [
        | inr none ↦ omega (arith, sum, many-absent k other none, once k)
        | inl both ↦ absurd (apart k some both)
      ]
    ]

-- numbers that rise
pub higher-absent : (k : ℕ) (nodes : List Node) → AllByRecursion (λ (node : Node). k < node.index) nodes → has_number nodes k ≡ false
higher-absent k [] all = refl
higher-absent k (node ∷ nodes) all =
    ap (λ (b : Bool). b || has_number nodes k) (ne_eqb node.index k (λ same. omega (arith, same, all.0))) ∙ higher-absent k nodes all.1

pub ascend-once : (nodes : List Node) → Ascend nodes → Once nodes
ascend-once [] order = λ k. omega arith
ascend-once (node ∷ nodes) order =
    let above = recursion_from_All (λ (other : Node). node.index < other.index) nodes (λ k d low. order 0 (suc k) d (omega arith) (omega (arith, low))) in
    once-cons node nodes (ascend-once nodes (λ i j d low high. order (suc i) (suc j) d (omega (arith, low)) (omega (arith, high)))) (higher-absent node.index nodes above)

-- each node is what they put in at its number
pub once-put : (nodes : List Node) (start : Values) → Once nodes → AllByRecursion (IsOf (with_nodes start nodes)) nodes
unfolding with_nodes
once-put [] start once = tt
once-put (node ∷ nodes) start once = (own, once-put nodes (with_node start node) (once-rest node nodes once))
  where
    own : IsOf (with_nodes (with_node start node) nodes) node
    own d o is =
        with_nodes-absent nodes (with_node start node) d o (ap (has_number nodes) (sym is) ∙ once-first node nodes once)
        ∙ rw (eq-eqb node.index (number d o) is) refl

-- sorted, they rise
pub sorted-ascend : (nodes sorted : List Node) → Once nodes → IsPermutation nodes sorted → IsNonDecreasingBy number_of sorted → Ascend sorted
sorted-ascend nodes sorted once moved order =
    once_ascend sorted order (λ k.
    let same = sum_by-IsPermutation (one_if k) (map number_of nodes) (map number_of sorted) (IsPermutation-map number_of nodes sorted moved) in
    omega (arith, same, once k))
