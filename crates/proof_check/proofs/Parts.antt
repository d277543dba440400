-- Lists of nodes as parts of values: one node more.
use Rattle.std.proofs.Common.{◌≡◌, ℕ, ◌+◌, ◌<◌, ◌≤◌, inl, inr, List, slice_get, Some, None, sym, ap, subst, ◌∙◌, arith}
use Rattle.std.specs.Prelude.{is_some}
use Rattle.std.proofs.lemmas.Bool.{cases_eq, cases_lt}
use Rattle.flat_tree.specs.Subtrees.{number, end_block_of}
use Rattle.flat_tree.proofs.NumberLemmas.{some_number}
use Rattle.merkle_nodes.specs.declared.node.Node.{Node}
use Rattle.merkle_nodes.specs.Roots.{twig_of}
use Rattle.merkle_nodes.specs.Joined.{Values}
use Rattle.node_set.specs.Nodes.{with_nodes}
use Rattle.proof_check.specs.Meets.{IsPart, HasNode, AllIn, IsPutNode}
use Rattle.proof_check.proofs.Folding.{same_subtree, with_node-here, with_node-other}

-- the values of no node
abbrev none : Values
none d o = None

some_same : {A : Type 0} (x y : A) → Some x ≡ Some y → x ≡ y
some_same x y same = cc

pub part_put : (value : Values) (old new : List Node) (node : Node) → IsPutNode node old new
    → ((d o : ℕ) → node.index ≡ number d o → value d o ≡ Some (twig_of node)) → IsPart value old → IsPart value new
part_put value old new node put is part d o twig there = elim (cases_eq node.index (number d o)) [
  | inl here ↦
      let found : with_nodes none new d o ≡ Some (twig_of node) = put none d o ∙ with_node-here (with_nodes none old) node d o here in
      is d o here ∙ sym found ∙ there
  | inr other ↦ part d o twig (sym (with_node-other (with_nodes none old) node d o other) ∙ sym (put none d o) ∙ there)
]

pub has_put : (old new : List Node) (node : Node) → IsPutNode node old new → (d o : ℕ) → HasNode old d o → HasNode new d o
has_put old new node put d o has = elim (cases_eq node.index (number d o)) [
  | inl here ↦ ap is_some (put none d o ∙ with_node-here (with_nodes none old) node d o here)
  | inr other ↦ ap is_some (put none d o ∙ with_node-other (with_nodes none old) node d o other) ∙ has
]

pub has_own : (old new : List Node) (node : Node) → IsPutNode node old new → (d o : ℕ) → node.index ≡ number d o → HasNode new d o
has_own old new node put d o here = ap is_some (put none d o ∙ with_node-here (with_nodes none old) node d o here)

-- ---- the loop

-- so many of the nodes were put in, as far as they end behind a log
pub record HasPut (base place : ℕ) (nodes old new : List Node) : Type 0 where
  pub part : (value : Values) → IsPart value old → AllIn value base nodes → IsPart value new
  pub keeps : (d o : ℕ) → HasNode old d o → HasNode new d o
  pub all : (k d o : ℕ) (node : Node) → k < place → slice_get nodes k ≡ Some node → node.index ≡ number d o → base < end_block_of d o → HasNode new d o

pub put_none : (base : ℕ) (nodes old : List Node) → HasPut base 0 nodes old old
put_none base nodes old = record {
  part = λ value part all. part;
  keeps = λ d o has. has;
  all = λ k d o node less there at behind. absurd (omega (arith, less));
}

pub put_next : (base place : ℕ) (nodes old mid new : List Node) (node : Node) → slice_get nodes place ≡ Some node
    → ((d o : ℕ) → node.index ≡ number d o → base < end_block_of d o → IsPutNode node mid new)
    → ((d o : ℕ) → node.index ≡ number d o → end_block_of d o ≤ base → new ≡ mid)
    → HasPut base place nodes old mid → HasPut base (place + 1) nodes old new
put_next base place nodes old mid new node there behind before so_far =
    let at = some_number node.index in
    elim (cases_lt base (end_block_of at.0 at.1.0)) [
      | inl past ↦
          let put = behind at.0 at.1.0 at.1.1 past in
          record {
            part = λ value part all. part_put value mid new node put (mine value all past) (so_far.part value part all);
            keeps = λ d o has. has_put mid new node put d o (so_far.keeps d o has);
            all = λ k d o other less found index later. elim (cases_eq k place) [
              | inl same ↦
                  let own : other ≡ node = some_same other node (sym found ∙ ap (slice_get nodes) same ∙ there) in
                  has_own mid new node put d o (ap (λ (n : Node). n.index) (sym own) ∙ index)
              | inr apart ↦ has_put mid new node put d o (so_far.all k d o other (omega (arith, less, apart)) found index later)
            ];
          }
      | inr within ↦
          let same = before at.0 at.1.0 at.1.1 within in
          record {
            part = λ value part all. subst (IsPart value) (sym same) (so_far.part value part all);
            keeps = λ d o has. subst (λ (ns : List Node). HasNode ns d o) (sym same) (so_far.keeps d o has);
            all = λ k d o other less found index later. subst (λ (ns : List Node). HasNode ns d o) (sym same) (elim (cases_eq k place) [
              | inl here ↦
                  let own : other ≡ node = some_same other node (sym found ∙ ap (slice_get nodes) here ∙ there) in
                  absurd (apart d o (ap (λ (n : Node). n.index) (sym own) ∙ index) within later)
              | inr apart ↦ so_far.all k d o other (omega (arith, less, apart)) found index later
            ]);
          }
    ]
  where
    end_is : (d o : ℕ) → node.index ≡ number d o → end_block_of (some_number node.index).0 (some_number node.index).1.0 ≡ end_block_of d o
    end_is d o index =
        let at = some_number node.index in
        let same = same_subtree at.0 at.1.0 d o (sym at.1.1 ∙ index) in
        ap (λ (k : ℕ). end_block_of k at.1.0) same.0 ∙ ap (end_block_of d) same.1

    apart : (d o : ℕ) → node.index ≡ number d o → end_block_of (some_number node.index).0 (some_number node.index).1.0 ≤ base → base < end_block_of d o → ⊥
    apart d o index within later = omega (arith, end_is d o index, within, later)

    mine : (value : Values) → AllIn value base nodes → base < end_block_of (some_number node.index).0 (some_number node.index).1.0
        → (d o : ℕ) → node.index ≡ number d o → value d o ≡ Some (twig_of node)
    mine value all past d o index = all place d o node there index (omega (arith, end_is d o index, past))
