-- The content with a proof's upgrade in, and with its block.
use Rattle.std.proofs.Common.{◌≡◌, ℕ, suc, Bool, true, false, ◌-◌, ◌/◌, ◌^◌, ◌<◌, ◌≤◌, ◌⊎◌, inl, inr, List, [], ◌∷◌, length, map, Option, Some, None, refl, sym, ap, subst, ◌∙◌, arith, nat_lt, if◌then◌else◌}
use Rattle.std.specs.Prelude.{is_some, option_map, ◌&&◌}
use Rattle.std.specs.Option.{IfSome}
use Rattle.std.proofs.lemmas.Bool.{cases_lt, cases_eq, cases_Bool, le-ltb, eq-eqb, ne_eqb}
use Rattle.flat_tree.specs.Subtrees.{Subtree, end_block_of, first_block_of}
use Rattle.flat_tree.specs.Roots.{depth_over}
use Rattle.flat_tree.specs.Covers.{cover_of}
use Rattle.flat_tree.proofs.NumberLemmas.{leaf, inside_of}
use Rattle.merkle_nodes.specs.declared.node.Node.{Node}
use Rattle.merkle_nodes.specs.declared.node.Twig.{Twig}
use Rattle.merkle_nodes.specs.Tree.{leaf_of}
use Rattle.merkle_nodes.specs.Joined.{Values, joined, with_parts}
use Rattle.merkle_nodes.specs.Nodes.{node_in, AreNodes}
use Rattle.merkle_nodes.specs.Roots.{node_of}
use Rattle.proof_form.specs.declared.proof.UpgradePart.{UpgradePart}
use Rattle.proof_form.specs.Proofs.{Proof, Block, UpgradeFits, ProofFits}
use Rattle.node_set.specs.Contents.{Content, Blocks, held, holds, roots, roots_at, node_at, bytes_under}
use Rattle.node_set.specs.Closure.{in_closure, closed_on, is_within, any_under, IsFullRoot}
use Rattle.node_set.specs.Whole.{IsSound}
use Rattle.node_set.specs.Paths.{path_values, sibling_of}
use Rattle.node_set.specs.Walks.{IsFirstStored}
use Rattle.node_set.specs.Offsets.{levels_to}
use Rattle.node_set.specs.Changes.{fetch_content, blocks_with_one, UpgradeFits as UpgradeFitsContent}
use Rattle.node_set.proofs.ClosureLemmas.{in_closure-more, halves_in_closure, held-any_under, true_within}
use Rattle.node_set.proofs.SoundLemmas.{roots_on, roots_same, closed_some}
use Rattle.node_set.proofs.Stored.{over-suc, some_same}
use Rattle.node_set.proofs.PathLemmas.{need_is}
use Rattle.node_set.proofs.UpgradeLemmas.{upgrade_sound}
use Rattle.proof_check.specs.declared.path.Met.{Met}
use Rattle.proof_check.specs.Upgraded.{with_upgrade, length_after}
use Rattle.proof_check.specs.Meets.{IsTop, IsValue, behind_end}
use Rattle.proof_check.specs.Reaching.{IfPart, IsDue, IsDueUpgrade, joined_of, Meets, MeetsAt, AgreesBelow}
use Rattle.proof_check.proofs.Meeting.{inside_stored}
use Rattle.proof_check.proofs.Overs.{over_within}
use Rattle.proof_check.proofs.Folding.{path-past, path-apart}

-- ---- the upgraded content

-- the content with the upgrade in
pub record IsAfter (p : Proof) (m after : Content) : Type 0 where
  pub fork : after.fork ≡ m.fork
  pub length : after.length ≡ length_after p m
  pub block : after.block ≡ m.block
  pub sound : IsSound after
  pub node : (d o : ℕ) → after.node d o ≡ closed_on (length_after p m) (held m) (joined_of p m) d o
  pub roots_are : roots after ≡ roots_at (joined_of p m) (length_after p m)

-- stored nodes are those of the closure
closed_same : (m : Content) → IsSound m → (d o : ℕ) → m.node d o ≡ closed_on m.length (held m) m.node d o
closed_same m sound d o = elim (cases_Bool (in_closure m.length (held m) d o)) [
  | inl here ↦ sym (rw here refl)
  | inr apart ↦ absent (m.node d o) (sound.closed d o ∙ apart) ∙ sym (rw apart refl)
]
  where
    absent : (own : Option Twig) → is_some own ≡ false → own ≡ None
    absent (Some twig) none = cc
    absent None none = refl

pub after_is : (p : Proof) (m : Content) → ProofFits p → IsSound m → IsDue p m (bytes_under (roots m)) → IsAfter p m (with_upgrade p m)
after_is p m fits sound due = either p.upgrade refl
  where
    either : (upgrade : Option UpgradePart) → p.upgrade ≡ upgrade → IsAfter p m (with_upgrade p m)
    either None is = rw is (record {
      fork = refl;
      length = refl;
      block = refl;
      sound = sound;
      node = closed_same m sound;
      roots_are = refl;
    })
    either (Some u) is =
        let has : IsDueUpgrade m (bytes_under (roots m)) u = subst (λ o. IfPart o (IsDueUpgrade m (bytes_under (roots m)))) is due.upgrade in
        let mine : UpgradeFits u = subst (λ o. IfSome o UpgradeFits) is fits.upgrade in
        let equal : nat_lt m.fork p.fork ≡ false = le-ltb m.fork p.fork (omega (arith, due.fork)) in
        let count : length u.nodes ≡ length (cover_of m.length u.length) = mine.nodes.count ∙ ap (λ (n : ℕ). length (cover_of n u.length)) has.start in
        let all : UpgradeFitsContent u.length u.nodes m = record {
          longer = has.longer;
          blocks = has.blocks;
          count = count;
          parts_fit = mine.nodes.twigs;
          bytes = has.bytes;
        } in
        rw (is, equal) (record {
          fork = refl;
          length = refl;
          block = refl;
          sound = upgrade_sound m u.length u.nodes u.signature sound all;
          node = λ d o. refl;
          roots_are = roots_on u.length m.block (joined (with_parts m.length m.node (cover_of m.length u.length) u.nodes));
        })

-- nodes at the roots are the roots
pub nodes_are : (value : Values) (trees : List Subtree) (nodes : List Node) → AreNodes value trees nodes
    → nodes ≡ map (λ (tree : Subtree). node_at value tree.depth tree.offset) trees
nodes_are value [] [] are = refl
nodes_are value [] (node ∷ nodes) are = cc
nodes_are value (tree ∷ trees) [] are = cc
nodes_are value (tree ∷ trees) (node ∷ nodes) are =
    let first : Some node ≡ node_in value tree = cc in
    let others : AreNodes value trees nodes = cc in
    ap (λ (n : Node). n ∷ nodes) (own (value tree.depth tree.offset) refl first) ∙ ap (λ (ns : List Node). node_at value tree.depth tree.offset ∷ ns) (nodes_are value trees nodes others)
  where
    own : (found : Option Twig) → value tree.depth tree.offset ≡ found → Some node ≡ node_in value tree → node ≡ node_at value tree.depth tree.offset
    own (Some twig) is same =
        let here : Some node ≡ Some (node_of tree.depth tree.offset twig) = same ∙ ap (option_map (node_of tree.depth tree.offset)) is in
        some_same node (node_of tree.depth tree.offset twig) here ∙ sym (rw is refl)
    own None is same = let clash : Some node ≡ None = same ∙ ap (option_map (node_of tree.depth tree.offset)) is in cc

-- ---- where the block meets it

pub top_is : (p : Proof) (m after : Content) (b : Block) (met : Met) → IsAfter p m after → MeetsAt (length_after p m) (held m) b met
    → IsValue (joined_of p m) b.index met → IsTop after b met
top_is p m after b met is meets value =
    let bits : held after ≡ held m = ap holds is.block in
    let first : IsFirstStored after.length (held after) b.index met.level =
    subst (λ (n : ℕ). IsFirstStored n (held after) b.index met.level) (sym is.length)
    (subst (λ (h : ℕ → Bool). IsFirstStored (length_after p m) h b.index met.level) (sym bits) meets.first) in
    let need = need_is after is.sound b.index met.level first in
    let here : first_block_of 0 b.index ≡ b.index = (leaf b.index).1 in
    record {
      levels = ap (λ (k : ℕ). levels_to (depth_over after.length k - 0) after.node 0 b.index) here ∙ ap (λ (k : ℕ). levels_to k after.node 0 b.index) (omega arith) ∙ sym need;
      value = is.node met.level (b.index / 2 ^ met.level) ∙ rw meets.first.stored value;
    }

pub tops_are : (p : Proof) (m after : Content) (block : Option Block) (met : Option Met) → IsAfter p m after
    → Meets block met (MeetsAt (length_after p m) (held m)) → Meets block met (λ b met. IsValue (joined_of p m) b.index met) → Meets block met (IsTop after)
tops_are p m after None met is meets value = tt
tops_are p m after (Some b) None is meets value = meets
tops_are p m after (Some b) (Some met) is meets value = top_is p m after b met is meets value

-- ---- what is fresh of an upgrade

own_none : (own : Option Twig) → is_some own ≡ false → own ≡ None
own_none (Some twig) none = cc
own_none None none = refl

-- a node that isn't stored under the new head, or wasn't before, is what the content after has
stays_not : (old now : Option Twig) → (old ≡ None) ⊎ (now ≡ None) → (if is_some old && is_some now then None else now) ≡ now
stays_not old now (inl none) = rw none refl
stays_not (Some twig) now (inr none) = rw none refl
stays_not None now (inr none) = rw none refl

stays_same : (old now : Option Twig) (twig : Twig) → old ≡ Some twig → now ≡ Some twig → (if is_some old && is_some now then None else now) ≡ None
stays_same old now twig old_is now_is = rw (old_is, now_is) refl

-- the nodes that a list puts in, and those that come in
abbrev FreshAt : Proof → Content → Content → ℕ → ℕ → Type 0
FreshAt p m after d o =
    behind_end m.length (length_after p m) (held m) (joined_of p m) d o ≡ (if is_some (m.node d o) && is_some (after.node d o) then None else after.node d o)

module _ (p : Proof) (m after : Content) (is : IsAfter p m after) (sound : IsSound m) (agrees : AgreesBelow m.length m.node (joined_of p m)) where
  fresh_below : (d o : ℕ) → is_within m.length d o ≡ true → FreshAt p m after d o
  fresh_below d o within = rw within refl ∙ sym (either (after.node d o) refl)
    where
      either : (now : Option Twig) → after.node d o ≡ now → (if is_some (m.node d o) && is_some (after.node d o) then None else after.node d o) ≡ None
      either None now_is = stays_not (m.node d o) (after.node d o) (inr now_is) ∙ now_is
      either (Some twig) now_is =
          let closed : closed_on (length_after p m) (held m) (joined_of p m) d o ≡ Some twig = sym (is.node d o) ∙ now_is in
          let stored = closed_some (length_after p m) m.block (joined_of p m) d o twig closed in
          stays_same (m.node d o) (after.node d o) twig (sym (agrees d o (true_within m.length d o within)) ∙ stored.1) now_is

  fresh_behind : (d o : ℕ) → is_within m.length d o ≡ false → FreshAt p m after d o
  fresh_behind d o past =
      let outside : in_closure m.length (held m) d o ≡ false = rw past refl in
      rw past (sym (is.node d o)) ∙ sym (stays_not (m.node d o) (after.node d o) (inl (own_none (m.node d o) (sound.closed d o ∙ outside))))

  pub fresh_upgrade : (d o : ℕ) → FreshAt p m after d o
  fresh_upgrade d o = elim (cases_Bool (is_within m.length d o)) [ inl within ↦ fresh_below d o within | inr past ↦ fresh_behind d o past ]

-- ---- the block that comes in

-- a block's path below where it meets a stored node
pub record IsOnPath (index level d o : ℕ) : Type 0 where
  pub low : d < level
  pub parent : o / 2 ≡ index / 2 ^ suc d

path_some : (index : ℕ) (leaf : Twig) (trail : List Twig) (level d o : ℕ) (twig : Twig) → path_values index leaf trail level d o ≡ Some twig → IsOnPath index level d o
path_some index leaf trail level d o twig is = elim (cases_lt d level) [
  | inr high ↦ let clash : None ≡ Some twig = sym (path-past index leaf trail level d o high) ∙ is in cc
  | inl low ↦ elim (cases_eq o (index / 2 ^ d)) [
    | inl own ↦ record { low = low; parent = ap (λ (k : ℕ). k / 2) own ∙ over-suc index d }
    | inr other ↦ elim (cases_eq o (sibling_of (index / 2 ^ d))) [
      | inl beside ↦
          let half : o / 2 ≡ index / 2 ^ d / 2 = omega (arith, beside) in
          record { low = low; parent = half ∙ over-suc index d }
      | inr apart ↦ let clash : None ≡ Some twig = sym (path-apart index leaf trail level d o other apart) ∙ is in cc
    ]
  ]
]

-- the blocks with one more
more_held : (block : Blocks) (index : ℕ) (bytes : List ℕ) (k : ℕ) → holds block k ≡ true → holds (blocks_with_one index bytes block) k ≡ true
more_held block index bytes k is = elim (cases_eq k index) [
  | inl here ↦ rw (eq-eqb k index here) refl
  | inr other ↦ rw (ne_eqb k index other) is
]

own_held : (block : Blocks) (index : ℕ) (bytes : List ℕ) → holds (blocks_with_one index bytes block) index ≡ true
own_held block index bytes = rw (eq-eqb index index refl) refl

module _ (m : Content) (sound : IsSound m) (b : Block) (level : ℕ) (first : IsFirstStored m.length (held m) b.index level) (within : b.index < m.length) where
  abbrev bits : ℕ → Bool
  bits = holds (blocks_with_one b.index b.bytes m.block)

  on_path_within : (d o : ℕ) → IsOnPath b.index level d o → end_block_of (suc d) (o / 2) ≤ m.length
  on_path_within d o on =
      let end = over_within m.length b.index (suc d) within (omega (arith, first.within, on.low)) in
      omega (arith, end, ap (end_block_of (suc d)) on.parent)

  -- the nodes of the path below, and beside it, weren't stored
  on_path_none : (d o : ℕ) → IsOnPath b.index level d o → m.node d o ≡ None
  on_path_none d o on =
      let own_within = over_within m.length b.index (suc d) within (omega (arith, first.within, on.low)) in
      let up = over-suc b.index d in
      let own = inside_stored m.length (held m) d (b.index / 2 ^ d) (omega (arith, own_within, ap (end_block_of (suc d)) up)) in
      let here = inside_stored m.length (held m) d o (on_path_within d o on) in
      let same : any_under (held m) (suc d) (o / 2) ≡ any_under (held m) (suc d) (b.index / 2 ^ d / 2) = ap (any_under (held m) (suc d)) (on.parent ∙ sym up) in
      own_none (m.node d o) (sound.closed d o ∙ here ∙ same ∙ sym own ∙ first.first d on.low)

  -- and are to be with the block
  on_path_stored : (d o : ℕ) → IsOnPath b.index level d o → in_closure m.length bits d o ≡ true
  on_path_stored d o on =
      let any = held-any_under bits (suc d) (b.index / 2 ^ suc d) b.index (own_held m.block b.index b.bytes) (inside_of (suc d) b.index) in
      halves_in_closure m.length bits d (o / 2) o refl (ap (any_under bits (suc d)) on.parent ∙ any) (on_path_within d o on)

  -- the values with the path's
  abbrev more : Values
  more = (fetch_content b.index b.bytes (path_values b.index (leaf_of b.bytes) b.trail level) m).node

  pub fetched_path : (d o : ℕ) (twig : Twig) → path_values b.index (leaf_of b.bytes) b.trail level d o ≡ Some twig → (m.node d o ≡ None) × (more d o ≡ Some twig)
  fetched_path d o twig is =
      let on = path_some b.index (leaf_of b.bytes) b.trail level d o twig is in
      let none = on_path_none d o on in
      (none, rw (on_path_stored d o on, none, is) refl)

  pub fetched_other : (d o : ℕ) → path_values b.index (leaf_of b.bytes) b.trail level d o ≡ None → more d o ≡ m.node d o
  fetched_other d o none = either (m.node d o) refl
    where
      either : (own : Option Twig) → m.node d o ≡ own → more d o ≡ m.node d o
      either None is = elim (cases_Bool (in_closure m.length bits d o)) [
        | inl here ↦ rw (here, none, is) refl
        | inr apart ↦ rw (apart, is) refl
      ]
      either (Some twig) is =
          let stored : in_closure m.length (held m) d o ≡ true = sym (sound.closed d o) ∙ ap is_some is in
          let still = in_closure-more m.length (held m) bits (λ k. more_held m.block b.index b.bytes k) d o stored in
          rw (still, is) refl

  -- the roots stay
  pub fetched_roots : roots (fetch_content b.index b.bytes (path_values b.index (leaf_of b.bytes) b.trail level) m) ≡ roots m
  fetched_roots = roots_same m.length more m.node same
    where
      same : (d o : ℕ) → IsFullRoot m.length d o → more d o ≡ m.node d o
      same d o root = either (path_values b.index (leaf_of b.bytes) b.trail level d o) refl
        where
          either : (own : Option Twig) → path_values b.index (leaf_of b.bytes) b.trail level d o ≡ own → more d o ≡ m.node d o
          either None is = fetched_other d o is
          either (Some twig) is =
              let on = path_some b.index (leaf_of b.bytes) b.trail level d o twig is in
              absurd (omega (arith, on_path_within d o on, root.largest))
