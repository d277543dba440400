-- The log with a block in: its nodes are those before and those of the block's way.
use Rattle.std.proofs.Common.{◌≡◌, ℕ, zero, suc, Bool, true, false, ◌+◌, ◌-◌, ◌/◌, ◌^◌, ◌<◌, ◌≤◌, inl, inr, List, [], ◌∷◌, Option, Some, None, refl, sym, ap, subst, ◌∙◌, arith, if◌then◌else◌}
use Rattle.std.specs.Prelude.{is_some}
use Rattle.std.specs.List.{AllByRecursion}
use Rattle.std.proofs.lemmas.Bool.{cases_Bool, cases_eq, eq-eqb, ne_eqb}
use Rattle.flat_tree.specs.Subtrees.{number, first_block_of, end_block_of}
use Rattle.flat_tree.specs.Roots.{depth_over}
use Rattle.flat_tree.proofs.NumberLemmas.{leaf, inside_of}
use Rattle.merkle_nodes.specs.declared.node.Node.{Node}
use Rattle.merkle_nodes.specs.declared.node.Twig.{Twig}
use Rattle.merkle_nodes.specs.Joined.{Values, or_value}
use Rattle.merkle_nodes.specs.Tree.{leaf_of}
use Rattle.proof_form.specs.Proofs.{Proof, Block}
use Rattle.node_set.specs.Contents.{Content, Blocks, held, holds, roots}
use Rattle.node_set.specs.Closure.{in_closure, any_under, IsFullRoot}
use Rattle.node_set.specs.Changes.{blocks_with_one}
use Rattle.node_set.specs.Nodes.{with_nodes}
use Rattle.node_set.specs.Offsets.{levels_to}
use Rattle.node_set.specs.Paths.{path_values}
use Rattle.node_set.specs.Walks.{IsFirstStored}
use Rattle.node_set.specs.Whole.{IsClosed}
use Rattle.node_set.proofs.ClosureLemmas.{in_closure-more, root_in_closure, held_in_closure, halves_in_closure, held-any_under, true_closure}
use Rattle.node_set.proofs.SoundLemmas.{closed_in, roots_same}
use Rattle.node_set.proofs.Stored.{over-suc, any_under-held}
use Rattle.log_view.specs.Overlays.{has_number}
use Rattle.log_view.proofs.Finding.{with_nodes-absent}
use Rattle.proof_check.specs.Parts.{part_of_block, levels_up}
use Rattle.proof_check.specs.Judge.{with_block, fetched}
use Rattle.proof_check.proofs.AfterUpgrade.{IsOnPath}
use Rattle.proof_check.proofs.Meeting.{inside_stored}
use Rattle.proof_check.proofs.Overs.{over_within}
use Rattle.proof_judge.specs.Coming.{IsOf}
use Rattle.proof_judge.specs.Meetings.{IsFirstAbove, way_of}
use Rattle.proof_judge.specs.PartsMet.{IsBlockWay}
use Rattle.proof_judge.proofs.PartLemmas.{levels_up_is}
use Rattle.proof_judge.proofs.Once.{Once, once-put}
use Rattle.proof_judge.proofs.Ways.{AllAt, named_at, way_on, way_once, way_put, no_way}

-- the first node of a block's path that is to be stored, from its leaf
pub first_of_block : (n : ℕ) (bits : ℕ → Bool) (b : Block) (levels : ℕ) → IsFirstAbove n bits (part_of_block b) levels → IsFirstStored n bits b.index levels
first_of_block n bits b levels is =
    let flat = λ (level : ℕ). ap (λ (d : ℕ). in_closure n bits d (b.index / 2 ^ level)) (from_leaf level) in
    record {
      within = omega (arith, is.within, ap (depth_over n) (leaf b.index).1);
      stored = flat levels ∙ is.stored;
      first = λ level less. flat level ∙ is.first level less;
    }
  where
    from_leaf : (level : ℕ) → level ≡ 0 + level
    from_leaf level = omega arith

-- ---- over every view

module _ (n : ℕ) (bits : ℕ → Bool) (b : Block) (levels : ℕ) (first : IsFirstStored n bits b.index levels) where
  -- the block is below the length
  pub below : b.index < n
  below = omega (arith, inside_of levels b.index, (true_closure n bits levels (b.index / 2 ^ levels) first.stored).within)

  on_within : (d o : ℕ) → IsOnPath b.index levels d o → end_block_of (suc d) (o / 2) ≤ n
  on_within d o on =
      let end = over_within n b.index (suc d) below (omega (arith, first.within, on.low)) in
      omega (arith, end, ap (end_block_of (suc d)) on.parent)

  -- what is on the path below isn't to be stored
  pub on_apart : (d o : ℕ) → IsOnPath b.index levels d o → in_closure n bits d o ≡ false
  on_apart d o on =
      let up = over-suc b.index d in
      let within = on_within d o on in
      inside_stored n bits d o within
      ∙ ap (any_under bits (suc d)) (on.parent ∙ sym up)
      ∙ sym (inside_stored n bits d (b.index / 2 ^ d) (omega (arith, within, ap (end_block_of (suc d)) (up ∙ sym on.parent))))
      ∙ first.first d on.low

  -- but is with the block
  on_stored : (more : ℕ → Bool) → more b.index ≡ true → (d o : ℕ) → IsOnPath b.index levels d o → in_closure n more d o ≡ true
  on_stored more own d o on =
      let any = held-any_under more (suc d) (b.index / 2 ^ suc d) b.index own (inside_of (suc d) b.index) in
      halves_in_closure n more d (o / 2) o refl (ap (any_under more (suc d)) on.parent ∙ any) (on_within d o on)

  -- where the block is held already, its leaf is the first
  held_first : bits b.index ≡ true → levels ≡ 0
  held_first is = elim (cases_eq levels 0) [
    | inl none ↦ none
    | inr some ↦
        let itself : b.index / 2 ^ 0 ≡ b.index = omega arith in
        let under : any_under bits 0 (b.index / 2 ^ 0) ≡ true = any_under-held bits b.index 0 is in
        let stored = held_in_closure n bits 0 (b.index / 2 ^ 0) under (omega (arith, ap (end_block_of 0) itself, leaf b.index, below)) in
        let clash : true ≡ false = sym stored ∙ first.first 0 (omega (arith, some)) in
        cc
  ]

-- the way's nodes aren't to be stored
pub way_apart : (n : ℕ) (bits : ℕ → Bool) (block : Option Block) (way : List Node) → IsBlockWay n bits block way
    → AllAt (λ d o. in_closure n bits d o ≡ false) way
way_apart n bits None way none = subst (AllAt (λ d o. in_closure n bits d o ≡ false)) (sym none) tt
way_apart n bits (Some b) way (levels, first, enough, is) =
    subst (AllAt (λ d o. in_closure n bits d o ≡ false)) (sym is) (each (way_of (part_of_block b) levels) (way_on b levels))
  where
    each : (nodes : List Node) → AllAt (IsOnPath b.index levels) nodes → AllAt (λ d o. in_closure n bits d o ≡ false) nodes
    each [] all = tt
    each (node ∷ nodes) all = (λ d o is. on_apart n bits b levels (first_of_block n bits b levels first) d o (all.0 d o is), each nodes all.1)

none_once : Once []
none_once k = omega arith

pub way_once_of : (n : ℕ) (bits : ℕ → Bool) (block : Option Block) (way : List Node) → IsBlockWay n bits block way → Once way
way_once_of n bits None way is = subst Once (sym is) none_once
way_once_of n bits (Some b) way (levels, first, enough, is) = subst Once (sym is) (way_once b levels)

-- ---- with the block in

abbrev pub put_by : List Node → Values
put_by = with_nodes (λ d o. None)

module _ (m : Content) (closed_m : IsClosed m.length m.block m.node) (b : Block) (levels : ℕ) (first : IsFirstStored m.length (held m) b.index levels) where
  abbrev more : Blocks
  more = blocks_with_one b.index b.bytes m.block

  own_held : holds more b.index ≡ true
  own_held = rw (eq-eqb b.index b.index refl) refl

  more_held : (k : ℕ) → held m k ≡ true → holds more k ≡ true
  more_held k is = elim (cases_eq k b.index) [ inl here ↦ rw (eq-eqb k b.index here) refl | inr other ↦ rw (ne_eqb k b.index other) is ]

  -- with the values of its path, wherever one isn't to be stored there is none
  fetched_node : (d o : ℕ) (one : Option Twig) → one ≡ put_by (way_of (part_of_block b) levels) d o
      → (if in_closure m.length (holds more) d o then or_value (m.node d o) one else None) ≡ or_value (m.node d o) one
  fetched_node d o one is = elim (cases_Bool (in_closure m.length (holds more) d o)) [
    | inl stored ↦ rw stored refl
    | inr absent ↦ rw (absent, before absent, is ∙ beside absent) refl
  ]
    where
      none_of : (value : Option Twig) → is_some value ≡ false → value ≡ None
      none_of None is = refl
      none_of (Some twig) is = cc

      before : in_closure m.length (holds more) d o ≡ false → m.node d o ≡ None
      before absent = elim (cases_Bool (in_closure m.length (held m) d o)) [
        | inr out ↦ none_of (m.node d o) (closed_m d o ∙ out)
        | inl stored ↦ let clash : true ≡ false = sym (in_closure-more m.length (held m) (holds more) more_held d o stored) ∙ absent in cc
      ]

      beside : in_closure m.length (holds more) d o ≡ false → put_by (way_of (part_of_block b) levels) d o ≡ None
      beside absent = elim (cases_Bool (has_number (way_of (part_of_block b) levels) (number d o))) [
        | inr none ↦ with_nodes-absent (way_of (part_of_block b) levels) (λ d o. None) d o none
        | inl has ↦
            let on = named_at (IsOnPath b.index levels) (way_of (part_of_block b) levels) d o (way_on b levels) has in
            let clash : true ≡ false = sym (on_stored m.length (held m) b levels first (holds more) own_held d o on) ∙ absent in
            cc
      ]

-- the levels to a stored node are no more than are gone
levels_most : (steps : ℕ) (node : Values) (d o : ℕ) → levels_to steps node d o ≤ steps
unfolding levels_to
levels_most zero node d o = omega arith
levels_most (suc steps) node d o = either (is_some (node d o)) (levels_most steps node (suc d) (o / 2))
  where
    either : (here : Bool) → levels_to steps node (suc d) (o / 2) ≤ steps → (if here then 0 else suc (levels_to steps node (suc d) (o / 2))) ≤ suc steps
    either true most = omega arith
    either false most = omega (arith, most)

-- a value, or else none
pub or_none : (value : Option Twig) → value ≡ or_value value None
or_none None = refl
or_none (Some twig) = refl

-- the values of a log with a block in are those before, and those of the way
pub with_block_node : (p : Proof) (m : Content) (way : List Node) → IsClosed m.length m.block m.node → IsBlockWay m.length (held m) p.block way
    → (d o : ℕ) → (with_block p m).node d o ≡ or_value (m.node d o) (put_by way d o)
unfolding with_nodes
with_block_node p m way closed_m is d o = by_block p.block refl is
  where
    by_block : (block : Option Block) → p.block ≡ block → IsBlockWay m.length (held m) block way → (with_block p m).node d o ≡ or_value (m.node d o) (put_by way d o)
    by_block None same none = rw (same, none) (or_none (m.node d o))
    by_block (Some b) same (levels, first, enough, way_is) =
        let stored = first_of_block m.length (held m) b levels first in
        elim (cases_Bool (held m b.index)) [
          | inl is ↦
              let none : levels ≡ 0 = held_first m.length (held m) b levels stored is in
              let empty : way ≡ [] = way_is ∙ ap (way_of (part_of_block b)) none ∙ no_way b in
              rw (same, is, empty) (or_none (m.node d o))
          | inr new ↦
              let top = levels_up_is m (part_of_block b) levels closed_m first in
              let put : path_values b.index (leaf_of b.bytes) b.trail levels d o ≡ put_by (way_of (part_of_block b) levels) d o =
              or_none (path_values b.index (leaf_of b.bytes) b.trail levels d o) ∙ sym (way_put b levels d o (λ d o. None)) in
              fetched_is b levels same new top
              ∙ fetched_node m closed_m b levels stored d o (path_values b.index (leaf_of b.bytes) b.trail levels d o) put
              ∙ ap (or_value (m.node d o)) (put ∙ ap (λ (ns : List Node). put_by ns d o) (sym way_is))
        ]
      where
        fetched_is : (b : Block) (levels : ℕ) → p.block ≡ Some b → held m b.index ≡ false → levels_up m (part_of_block b) ≡ levels
            → (with_block p m).node d o ≡ (if in_closure m.length (holds (blocks_with_one b.index b.bytes m.block)) d o
            then or_value (m.node d o) (path_values b.index (leaf_of b.bytes) b.trail levels d o) else None)
        fetched_is b levels same new top = rw (same, new, top) refl

-- which has the nodes of the way
pub way_own : (p : Proof) (m : Content) (way : List Node) → IsClosed m.length m.block m.node → IsBlockWay m.length (held m) p.block way
    → AllByRecursion (IsOf (with_block p m).node) way
way_own p m way closed_m is = each way (once-put way (λ d o. None) (way_once_of m.length (held m) p.block way is)) (way_apart m.length (held m) p.block way is)
  where
    none_of : (value : Option Twig) → is_some value ≡ false → value ≡ None
    none_of None is = refl
    none_of (Some twig) is = cc

    each : (ns : List Node) → AllByRecursion (IsOf (put_by way)) ns → AllAt (λ d o. in_closure m.length (held m) d o ≡ false) ns
        → AllByRecursion (IsOf (with_block p m).node) ns
    each [] put apart = tt
    each (node ∷ ns) put apart = (
      λ d o here.
          with_block_node p m way closed_m is d o
          ∙ ap (λ (v : Option Twig). or_value v (put_by way d o)) (none_of (m.node d o) (closed_m d o ∙ apart.0 d o here))
          ∙ put.0 d o here,
      each ns put.1 apart.1,
    )

-- the length stays
pub block_length : (p : Proof) (m : Content) → (with_block p m).length ≡ m.length
block_length p m = by_block p.block refl
  where
    by_block : (block : Option Block) → p.block ≡ block → (with_block p m).length ≡ m.length
    by_block None same = rw same refl
    by_block (Some b) same = elim (cases_Bool (held m b.index)) [ inl is ↦ rw (same, is) refl | inr new ↦ rw (same, new) refl ]

-- and so do the roots
fetched_roots : (m : Content) (b : Block) → b.index < m.length → roots (fetched b m) ≡ roots m
fetched_roots m b within = roots_same m.length (fetched b m).node m.node kept
  where
    path : ℕ → ℕ → Option Twig
    path = path_values b.index (leaf_of b.bytes) b.trail (levels_up m (part_of_block b))

    top : levels_up m (part_of_block b) ≤ depth_over m.length b.index
    top =
        let most = levels_most (depth_over m.length (first_block_of 0 b.index) - 0) m.node 0 b.index in
        omega (arith, most, ap (depth_over m.length) (leaf b.index).1)

    none : (d o : ℕ) → IsFullRoot m.length d o → path d o ≡ None
    none d o root = elim (cases_Bool (has_number (way_of (part_of_block b) (levels_up m (part_of_block b))) (number d o))) [
      | inr absent ↦
          or_none (path d o) ∙ sym (way_put b (levels_up m (part_of_block b)) d o (λ d o. None))
          ∙ with_nodes-absent (way_of (part_of_block b) (levels_up m (part_of_block b))) (λ d o. None) d o absent
      | inl has ↦
          let on = named_at (IsOnPath b.index (levels_up m (part_of_block b))) (way_of (part_of_block b) (levels_up m (part_of_block b))) d o
          (way_on b (levels_up m (part_of_block b))) has in
          let end = over_within m.length b.index (suc d) within (omega (arith, on.low, top)) in
          absurd (omega (arith, end, ap (end_block_of (suc d)) on.parent, root.largest))
    ]

    kept : (d o : ℕ) → IsFullRoot m.length d o → (fetched b m).node d o ≡ m.node d o
    kept d o root =
        closed_in m.length (blocks_with_one b.index b.bytes m.block) (λ d o. or_value (m.node d o) (path d o)) d o
        (root_in_closure m.length (holds (blocks_with_one b.index b.bytes m.block)) d o root)
        ∙ ap (or_value (m.node d o)) (none d o root) ∙ sym (or_none (m.node d o))

pub block_roots : (p : Proof) (m : Content) (way : List Node) → IsBlockWay m.length (held m) p.block way → roots (with_block p m) ≡ roots m
block_roots p m way is = by_block p.block refl is
  where
    by_block : (block : Option Block) → p.block ≡ block → IsBlockWay m.length (held m) block way → roots (with_block p m) ≡ roots m
    by_block None same none = rw same refl
    by_block (Some b) same (levels, first, enough, way_is) =
        let within = below m.length (held m) b levels (first_of_block m.length (held m) b levels first) in
        elim (cases_Bool (held m b.index)) [ inl is ↦ rw (same, is) refl | inr new ↦ rw (same, new) (fetched_roots m b within) ]
