-- The way of a block: which nodes it has, and what they put in.
use Rattle.std.proofs.Common.{◌≡◌, ℕ, zero, suc, Bool, true, false, ◌/◌, ◌^◌, inl, inr, List, [], ◌∷◌, ◌++◌, nat_eq, get_or, Option, refl, sym, ap, ◌∙◌, arith, add-one}
use Rattle.std.specs.Prelude.{◌||◌}
use Rattle.std.specs.List.{AllByRecursion}
use Rattle.std.proofs.lemmas.Bool.{cases_Bool, eqb-true, ne_eqb}
use Rattle.flat_tree.specs.Subtrees.{number}
use Rattle.flat_tree.proofs.NumberLemmas.{some_number}
use Rattle.merkle_nodes.specs.declared.node.Node.{Node}
use Rattle.merkle_nodes.specs.declared.node.Twig.{Twig}
use Rattle.merkle_nodes.specs.Joined.{Values, or_value}
use Rattle.merkle_nodes.specs.Roots.{node_of}
use Rattle.merkle_nodes.specs.Tree.{leaf_of}
use Rattle.proof_form.specs.Proofs.{Block}
use Rattle.node_set.specs.Contents.{no_twig}
use Rattle.node_set.specs.Nodes.{with_node, with_nodes}
use Rattle.node_set.specs.Paths.{path_values, folded_at, sibling_of}
use Rattle.node_set.proofs.CoverLemmas.{all-append}
use Rattle.node_set.proofs.NodeMaps.{with_nodes-push}
use Rattle.node_set.proofs.Stored.{over-suc}
use Rattle.log_view.specs.Overlays.{has_number}
use Rattle.log_change.proofs.Named.{same_subtree}
use Rattle.proof_check.specs.Parts.{part_of_block}
use Rattle.proof_check.proofs.AfterUpgrade.{IsOnPath}
use Rattle.proof_check.proofs.Folding.{path-suc, path-past}
use Rattle.proof_judge.specs.Meetings.{own_node, beside_node, way_of}
use Rattle.proof_judge.proofs.Once.{Once, once-cons, once-append}

-- a property of subtrees, of each node
abbrev pub AllAt : (ℕ → ℕ → Type 0) → List Node → Type 0
AllAt P = AllByRecursion (λ (node : Node). (d o : ℕ) → node.index ≡ number d o → P d o)

-- a number that a list has is one of its nodes'
pub named_at : (P : ℕ → ℕ → Type 0) (nodes : List Node) (d o : ℕ) → AllAt P nodes → has_number nodes (number d o) ≡ true → P d o
named_at P [] d o all has = cc
named_at P (node ∷ nodes) d o all has = elim (cases_Bool (nat_eq node.index (number d o))) [
  | inl here ↦ all.0 d o (eqb-true node.index (number d o) here)
  | inr other ↦ named_at P nodes d o all.1 (ap (λ (b : Bool). b || has_number nodes (number d o)) (sym other) ∙ has)
]

-- ---- the nodes of a way

module _ (b : Block) where
  abbrev own : ℕ → Node
  own level = own_node (part_of_block b) level

  abbrev beside : ℕ → Node
  beside level = beside_node (part_of_block b) level

  own_is : (level : ℕ) → own level ≡ node_of level (b.index / 2 ^ level) (folded_at b.index (leaf_of b.bytes) b.trail level)
  own_is level = ap (λ (d : ℕ). node_of d (b.index / 2 ^ level) (folded_at b.index (leaf_of b.bytes) b.trail level)) (omega arith)

  beside_is : (level : ℕ) → beside level ≡ node_of level (sibling_of (b.index / 2 ^ level)) (get_or b.trail level no_twig)
  beside_is level = ap (λ (d : ℕ). node_of d (sibling_of (b.index / 2 ^ level)) (get_or b.trail level no_twig)) (omega arith)

  -- the two of a level
  own_at : (level d o : ℕ) → (own level).index ≡ number d o → (d ≡ level) × (o ≡ b.index / 2 ^ level)
  own_at level d o is = same_subtree d o level (b.index / 2 ^ level) (sym is ∙ ap (λ (n : Node). n.index) (own_is level))

  beside_at : (level d o : ℕ) → (beside level).index ≡ number d o → (d ≡ level) × (o ≡ sibling_of (b.index / 2 ^ level))
  beside_at level d o is = same_subtree d o level (sibling_of (b.index / 2 ^ level)) (sym is ∙ ap (λ (n : Node). n.index) (beside_is level))

  abbrev IsOn : ℕ → ℕ → ℕ → Type 0
  IsOn level d o = (d ≡ level) × (o / 2 ≡ b.index / 2 ^ suc level)

  pair_at : (level : ℕ) → AllAt (IsOn level) (own level ∷ beside level ∷ [])
  pair_at level = (
    λ d o is. let at = own_at level d o is in (at.0, ap (λ (k : ℕ). k / 2) at.1 ∙ over-suc b.index level),
    (
      λ d o is.
          let at = beside_at level d o is in
          let half : o / 2 ≡ b.index / 2 ^ level / 2 = omega (arith, at.1) in
          (at.0, half ∙ over-suc b.index level),
      tt,
    ),
  )

  -- all are on the path below the level
  pub way_on : (level : ℕ) → AllAt (IsOnPath b.index level) (way_of (part_of_block b) level)
  unfolding way_of
  way_on zero = tt
  way_on (suc level) =
      all-append _ (way_of (part_of_block b) level) (own level ∷ beside level ∷ [])
      (higher (way_of (part_of_block b) level) (way_on level)) (at_level (own level ∷ beside level ∷ []) (pair_at level))
    where
      higher : (nodes : List Node) → AllAt (IsOnPath b.index level) nodes → AllAt (IsOnPath b.index (suc level)) nodes
      higher [] all = tt
      higher (node ∷ nodes) all =
          (λ d o is. let on = all.0 d o is in record { low = omega (arith, on.low); parent = on.parent }, higher nodes all.1)

      at_level : (nodes : List Node) → AllAt (IsOn level) nodes → AllAt (IsOnPath b.index (suc level)) nodes
      at_level [] all = tt
      at_level (node ∷ nodes) all = (
        λ d o is.
            let on = all.0 d o is in
            record { low = omega (arith, on.0); parent = on.1 ∙ ap (λ (k : ℕ). b.index / 2 ^ suc k) (sym on.0) },
        at_level nodes all.1,
      )

  pub no_way : way_of (part_of_block b) 0 ≡ []
  unfolding way_of
  no_way = refl

  -- none comes twice
  pub way_once : (level : ℕ) → Once (way_of (part_of_block b) level)
  unfolding way_of
  way_once zero = λ k. omega arith
  way_once (suc level) =
      once-append (way_of (part_of_block b) level) (own level ∷ beside level ∷ []) (way_once level) pair_once apart
    where
      none_once : Once []
      none_once k = omega arith

      pair_once : Once (own level ∷ beside level ∷ [])
      pair_once =
          once-cons (own level) (beside level ∷ []) (once-cons (beside level) [] none_once refl)
          (ap (λ (test : Bool). test || false) (ne_eqb (beside level).index (own level).index (λ same.
          let at = beside_at level level (b.index / 2 ^ level) (same ∙ ap (λ (n : Node). n.index) (own_is level)) in
          omega (arith, at.1))))

      apart : (k : ℕ) → has_number (way_of (part_of_block b) level) k ≡ true → has_number (own level ∷ beside level ∷ []) k ≡ true → ⊥
      apart k below here =
          let at = some_number k in
          let low = named_at (IsOnPath b.index level) (way_of (part_of_block b) level) at.0 at.1.0 (way_on level)
          (ap (has_number (way_of (part_of_block b) level)) (sym at.1.1) ∙ below) in
          let own = named_at (IsOn level) (own level ∷ beside level ∷ []) at.0 at.1.0 (pair_at level)
          (ap (has_number (own level ∷ beside level ∷ [])) (sym at.1.1) ∙ here) in
          omega (arith, low.low, own.0)

  -- they put in the values of the path
  pub way_put : (level d o : ℕ) (start : Values)
      → with_nodes start (way_of (part_of_block b) level) d o ≡ or_value (path_values b.index (leaf_of b.bytes) b.trail level d o) (start d o)
  unfolding way_of with_nodes
  way_put zero d o start = ap (λ (one : Option Twig). or_value one (start d o)) (sym (path-past b.index (leaf_of b.bytes) b.trail 0 d o (omega arith)))
  way_put (suc level) d o start =
      ap (λ (ns : List Node). with_nodes start ns d o) (seam (way_of (part_of_block b) level))
      ∙ ap (λ (values : Values). values d o) (with_nodes-push (way_of (part_of_block b) level ++ own level ∷ []) start (beside level)
      ∙ ap (λ (values : Values). with_node values (beside level)) (with_nodes-push (way_of (part_of_block b) level) start (own level)))
      ∙ path-suc b.index (leaf_of b.bytes) b.trail level d o (with_nodes start (way_of (part_of_block b) level)) (start d o) (own level) (beside level)
      (own_is level) (beside_is level) (way_put level d o start)
      ∙ ap (λ (k : ℕ). or_value (path_values b.index (leaf_of b.bytes) b.trail k d o) (start d o)) (add-one level)
    where
      seam : (ns : List Node) → ns ++ own level ∷ beside level ∷ [] ≡ (ns ++ own level ∷ []) ++ beside level ∷ []
      seam [] = refl
      seam (n ∷ ns) = ap (λ (rest : List Node). n ∷ rest) (seam ns)
