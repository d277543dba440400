-- A part's path level by level: where its root is, what it folds to, and how far up the first stored node is.
use Rattle.std.proofs.Common.{◌≡◌, ℕ, zero, suc, Bool, true, false, ◌+◌, ◌-◌, ◌*◌, ◌/◌, ◌^◌, ◌<◌, ◌≤◌, inl, inr, List, [], ◌∷◌, ◌++◌, length, Option, Some, None, refl, sym, ap, subst, ◌∙◌, arith, add-one, nat_le, if◌then◌else◌}
use Rattle.std.specs.Prelude.{is_some}
use Rattle.std.proofs.lemmas.Bool.{cases_lt, lt-ltb, le-ltb, le-leb, lt-leb}
use Rattle.std.proofs.lemmas.Nat.{shr-shr}
use Rattle.std.proofs.lemmas.List.{length-append}
use Rattle.flat_tree.specs.Subtrees.{number, first_block_of, end_block_of}
use Rattle.flat_tree.specs.Roots.{depth_over}
use Rattle.flat_tree.specs.declared.limits.TheConstants.{MAX_BLOCKS, MAX_SIBLINGS, MAX_CORE_BYTES, MAX_DEPTH}
use Rattle.flat_tree.proofs.OverLemmas.{depth_over-le}
use Rattle.merkle_nodes.specs.declared.node.Node.{Node}
use Rattle.merkle_nodes.specs.declared.node.Twig.{Twig}
use Rattle.merkle_nodes.specs.Fold.{join, fold_from}
use Rattle.merkle_nodes.specs.Roots.{twig_of, node_of}
use Rattle.node_set.specs.Contents.{Content, Values, held, no_twig}
use Rattle.node_set.specs.Closure.{in_closure}
use Rattle.node_set.specs.Offsets.{levels_to}
use Rattle.node_set.specs.Paths.{folded_at}
use Rattle.node_set.specs.declared.fault.Refusal.{Refusal}
use Rattle.node_set.specs.declared.fault.Refusal.TheVariants.{Uncovered}
use Rattle.node_set.specs.Whole.{IsClosed}
use Rattle.log_view.specs.Views.{Source, GivesNode}
use Rattle.node_set.proofs.ClosureLemmas.{span_some}
use Rattle.node_set.proofs.PathLemmas.{root_over_stored, place_fits}
use Rattle.node_set.proofs.Stored.{over-suc}
use Rattle.proof_check.specs.Parts.{Part, levels_up, number_above, differs_at, differs_refusal}
use Rattle.proof_check.proofs.Folding.{folded-suc, path_number, same_subtree}
use Rattle.proof_check.proofs.Overs.{over_within, over_past}
use Rattle.proof_check.proofs.Splitting.{row_of}
use Rattle.proof_judge.specs.declared.part.Meeting.{Meeting}
use Rattle.proof_judge.specs.Meetings.{IsFirstAbove, own_node, beside_node, way_of, Meets, MeetsGiven}

-- ---- where a path goes

-- the node of a path at a level is over the first block of the subtree that the path begins at
pub row_over : (d o k : ℕ) → first_block_of d o / 2 ^ (d + k) ≡ o / 2 ^ k
row_over d o k = sym (shr-shr (first_block_of d o) d k) ∙ ap (λ (r : ℕ). r / 2 ^ k) (row_of d o)

-- one level more
pub path-suc : (o k : ℕ) → o / 2 ^ k / 2 ≡ o / 2 ^ (k + 1)
path-suc o k = over-suc o k ∙ ap (λ (j : ℕ). o / 2 ^ j) (sym (add-one k))

module _ (n d o : ℕ) (within : end_block_of d o ≤ n) where
  pub first_below : first_block_of d o < n
  first_below = omega (arith, within, span_some d o)

  -- a subtree within a length is no higher than the root over it
  pub depth_low : d ≤ depth_over n (first_block_of d o)
  depth_low = elim (cases_lt (depth_over n (first_block_of d o)) d) [
    | inr high ↦ high
    | inl lower ↦ absurd (omega (arith, within, over_past n (first_block_of d o) d first_below lower, ap (end_block_of d) (row_of d o)))
  ]

  -- its path stays within the length up to that root
  pub path_within : (k : ℕ) → d + k ≤ depth_over n (first_block_of d o) → end_block_of (d + k) (o / 2 ^ k) ≤ n
  path_within k low = omega (arith, over_within n (first_block_of d o) (d + k) first_below low, ap (end_block_of (d + k)) (row_over d o k))

  -- the root is to be stored
  pub root_stored : (held : ℕ → Bool) (k : ℕ) → d + k ≡ depth_over n (first_block_of d o) → in_closure n held (d + k) (o / 2 ^ k) ≡ true
  root_stored held k is =
      ap (in_closure n held (d + k)) (sym (row_over d o k))
      ∙ ap (λ (j : ℕ). in_closure n held j (first_block_of d o / 2 ^ j)) is
      ∙ root_over_stored n held (first_block_of d o) first_below

-- the root is no higher than a log's highest
pub root_low : (n d o : ℕ) → end_block_of d o ≤ n → n ≤ MAX_BLOCKS → depth_over n (first_block_of d o) ≤ MAX_SIBLINGS
root_low n d o within few = depth_over-le n (first_block_of d o) MAX_SIBLINGS (first_below n d o within) few

-- the path's offsets have numbers
pub above_fits : (n d o k : ℕ) → end_block_of d o ≤ n → n ≤ MAX_BLOCKS → d + k ≤ MAX_SIBLINGS → o / 2 ^ k ≤ 2 ^ (MAX_DEPTH - (d + k))
above_fits n d o k within few low =
    omega (arith, place_fits (first_block_of d o) (d + k) (omega (arith, first_below n d o within, few)) (omega (arith, low)), row_over d o k)

-- they are small
pub above_small : (n d o k : ℕ) → end_block_of d o ≤ n → n ≤ MAX_BLOCKS → d + k ≤ MAX_SIBLINGS → number (d + k) (o / 2 ^ k) < 4 * MAX_BLOCKS
above_small n d o k within few low =
    omega (arith, path_number (first_block_of d o) (d + k) (omega (arith, first_below n d o within, few)) low, ap (number (d + k)) (row_over d o k))

-- no level up is the part's own node
pub start_first : (d o : ℕ) → first_block_of (d + 0) (o / 2 ^ 0) ≡ first_block_of d o
start_first d o =
    let row : d + 0 ≡ d = omega arith in
    let place : o / 2 ^ 0 ≡ o = omega arith in
    ap (λ (e : ℕ). first_block_of e (o / 2 ^ 0)) row ∙ ap (first_block_of d) place

-- ---- the first stored node

-- the levels to the first node of some that has a value
pub levels_first : (steps k : ℕ) (node : Values) (d o : ℕ) → k ≤ steps → is_some (node (d + k) (o / 2 ^ k)) ≡ true
    → ((level : ℕ) → level < k → is_some (node (d + level) (o / 2 ^ level)) ≡ false) → levels_to steps node d o ≡ k
unfolding levels_to
levels_first zero k node d o low stored none = omega (arith, low)
levels_first (suc steps) zero node d o low stored none =
    let here : is_some (node d o) ≡ true =
    subst (λ (e : ℕ). is_some (node e o) ≡ true) (omega arith) (subst (λ (p : ℕ). is_some (node (d + 0) p) ≡ true) (omega arith) stored) in
    rw here refl
levels_first (suc steps) (suc k) node d o low stored none =
    let here : is_some (node d o) ≡ false =
    subst (λ (e : ℕ). is_some (node e o) ≡ false) (omega arith)
    (subst (λ (p : ℕ). is_some (node (d + 0) p) ≡ false) (omega arith) (none 0 (omega arith))) in
    let above = levels_first steps k node (suc d) (o / 2) (omega (arith, low)) (up (suc k) k refl true stored)
    (λ level less. up (suc level) level refl false (none (suc level) (omega (arith, less)))) in
    rw here (ap suc above)
  where
    up : (j level : ℕ) → j ≡ suc level → (has : Bool) → is_some (node (d + j) (o / 2 ^ j)) ≡ has → is_some (node (suc d + level) (o / 2 / 2 ^ level)) ≡ has
    up j level is has there =
        let row : d + j ≡ suc d + level = omega (arith, is) in
        let next : 1 + level ≡ j = omega (arith, is) in
        let place : o / 2 / 2 ^ level ≡ o / 2 ^ j = shr-shr o 1 level ∙ ap (λ (i : ℕ). o / 2 ^ i) next in
        ap (λ (p : ℕ). is_some (node (suc d + level) p)) place ∙ ap (λ (e : ℕ). is_some (node e (o / 2 ^ j))) (sym row) ∙ there

-- the root, where none below it is to be stored
pub root_first : (n : ℕ) (bits : ℕ → Bool) (part : Part) (k : ℕ) → end_block_of part.depth part.offset ≤ n
    → part.depth + k ≡ depth_over n (first_block_of part.depth part.offset)
    → ((level : ℕ) → level < k → in_closure n bits (part.depth + level) (part.offset / 2 ^ level) ≡ false) → IsFirstAbove n bits part k
root_first n bits part k within top none = record {
  within = omega (arith, top);
  stored = root_stored n part.depth part.offset within bits k top;
  first = none;
}

-- in a content that stores just what is to be stored
pub levels_up_is : (m : Content) (part : Part) (k : ℕ) → IsClosed m.length m.block m.node → IsFirstAbove m.length (held m) part k → levels_up m part ≡ k
levels_up_is m part k closed is =
    levels_first _ k m.node part.depth part.offset (omega (arith, is.within)) (closed (part.depth + k) (part.offset / 2 ^ k) ∙ is.stored)
    (λ level less. closed (part.depth + level) (part.offset / 2 ^ level) ∙ is.first level less)

-- the node there is to be stored
pub stored_at : (n : ℕ) (bits : ℕ → Bool) (part : Part) (k index : ℕ) → IsFirstAbove n bits part k → index ≡ number_above part k
    → (d o : ℕ) → number d o ≡ index → in_closure n bits d o ≡ true
stored_at n bits part k index is at d o here =
    let same = same_subtree d o (part.depth + k) (part.offset / 2 ^ k) (here ∙ at) in
    ap (λ (e : ℕ). in_closure n bits e o) same.0 ∙ ap (in_closure n bits (part.depth + k)) same.1 ∙ is.stored

-- ---- how a part meets it

-- the siblings end below it
pub short_meets : (m : Content) (part : Part) (k index : ℕ) (meeting : Meeting) → IsClosed m.length m.block m.node → IsFirstAbove m.length (held m) part k
    → length part.trail < k → index ≡ number_above part (length part.trail)
    → meeting ≡ record { levels = k; differs = None; uncovered = Some (Uncovered index) } → Meets m part meeting
short_meets m part k index meeting closed is short at is_short =
    let top = levels_up_is m part k closed is in
    record {
      levels = ap (λ (own : Meeting). own.levels) is_short ∙ sym top;
      differs = ap (λ (own : Meeting). own.differs) is_short ∙ sym (rw (top, lt-leb k (length part.trail) short) refl);
      uncovered = ap (λ (own : Meeting). own.uncovered) is_short ∙ ap (λ (n : ℕ). Some (Uncovered n)) at
          ∙ sym (rw (top, lt-ltb (length part.trail) k short) refl);
    }

-- they lead to it
pub full_meets : (m : Content) (part : Part) (k : ℕ) (have : Twig) (stored : Node) (meeting : Meeting) → IsClosed m.length m.block m.node
    → IsFirstAbove m.length (held m) part k → k ≤ length part.trail → have ≡ folded_at part.offset part.twig part.trail k
    → stored.index ≡ number_above part k → m.node (part.depth + k) (part.offset / 2 ^ k) ≡ Some (twig_of stored)
    → meeting ≡ record { levels = k; differs = differs_at stored.index have (Some (twig_of stored)); uncovered = None } → Meets m part meeting
full_meets m part k have stored meeting closed is reached have_is at value is_full =
    let top = levels_up_is m part k closed is in
    record {
      levels = ap (λ (own : Meeting). own.levels) is_full ∙ sym top;
      differs = ap (λ (own : Meeting). own.differs) is_full ∙ sym (met top);
      uncovered = ap (λ (own : Meeting). own.uncovered) is_full ∙ sym (rw (top, le-ltb (length part.trail) k reached) refl);
    }
  where
    here : ℕ → Option Refusal
    here j = differs_at (number_above part j) (folded_at part.offset part.twig part.trail j) (m.node (part.depth + j) (part.offset / 2 ^ j))

    at_level : ℕ → Option Refusal
    at_level j = if nat_le j (length part.trail) then here j else None

    opened : levels_up m part ≡ k
        → differs_refusal m part ≡ differs_at (number_above part k) (folded_at part.offset part.twig part.trail k) (m.node (part.depth + k) (part.offset / 2 ^ k))
    opened top = ap at_level top ∙ ap (λ b. if b then here k else None) (le-leb k (length part.trail) reached)

    met : levels_up m part ≡ k → differs_refusal m part ≡ differs_at stored.index have (Some (twig_of stored))
    met top =
        opened top
        ∙ ap (differs_at (number_above part k) (folded_at part.offset part.twig part.trail k)) value
        ∙ ap (λ (t : Twig). differs_at (number_above part k) t (Some (twig_of stored))) (sym have_is)
        ∙ ap (λ (n : ℕ). differs_at n have (Some (twig_of stored))) (sym at)

-- over every view
pub full_given : (s : Source) (part : Part) (k : ℕ) (have : Twig) (stored : Node) (meeting : Meeting) (way : List Node)
    → IsFirstAbove s.content.length (held s.content) part k → k ≤ length part.trail → have ≡ folded_at part.offset part.twig part.trail k
    → GivesNode s (number_above part k) stored → way ≡ way_of part k
    → meeting ≡ record { levels = k; differs = differs_at stored.index have (Some (twig_of stored)); uncovered = None } → MeetsGiven s part meeting way
full_given s part k have stored meeting way is reached have_is gives way_is is_full = rw is_full (record {
  first = is;
  want = Some (twig_of stored);
  given = gives.given;
  reached = λ _. refl;
  compares = record {
    differs = sym (rw (le-leb k (length part.trail) reached, gives.numbered, have_is) refl);
    uncovered = sym (rw (le-ltb (length part.trail) k reached) refl);
    nodes = λ _. way_is;
  };
})

-- ---- the fold

-- so many levels were folded
pub record IsFolded (part : Part) (level : ℕ) (node : Node) (way : List Node) : Type 0 where
  pub node_is : node ≡ own_node part level
  pub size : node.size ≤ (level + 1) * MAX_CORE_BYTES
  pub way_is : way ≡ way_of part level
  pub count : length way ≡ 2 * level

pub folded_start : (part : Part) (node : Node) → node ≡ record { index = number (part.depth + 0) (part.offset / 2 ^ 0); size = part.twig.size; hash = part.twig.hash }
    → part.twig.size ≤ MAX_CORE_BYTES → IsFolded part 0 node []
unfolding fold_from way_of
folded_start part node is small = record {
  node_is = is;
  size = omega (arith, ap (λ (n : Node). n.size) is, small);
  way_is = refl;
  count = refl;
}

-- one level more: the node and its sibling are kept, and joined
pub folded_next : (part : Part) (level : ℕ) (node sibling above : Node) (old new : List Node) → level < length part.trail → sibling ≡ beside_node part level
    → sibling.size ≤ MAX_CORE_BYTES → above.index ≡ number (part.depth + level + 1) (part.offset / 2 ^ level / 2)
    → twig_of above ≡ join (part.offset / 2 ^ level) (twig_of node) (twig_of sibling) → above.size ≡ node.size + sibling.size
    → new ≡ (old ++ node ∷ []) ++ sibling ∷ [] → IsFolded part level node old → IsFolded part (level + 1) above new
unfolding way_of
folded_next part level node sibling above old new within beside small at joins sum added folded = record {
  node_is = placed;
  size = omega (arith, sum, folded.size, small);
  way_is = two ∙ ap (way_of part) (sym (add-one level));
  count = omega (arith, folded.count, ap length added, length-append (old ++ node ∷ []) (sibling ∷ []), length-append old (node ∷ []));
}
  where
    folds : twig_of above ≡ folded_at part.offset part.twig part.trail (level + 1)
    folds =
        joins
        ∙ ap (λ (t : Twig). join (part.offset / 2 ^ level) t (twig_of sibling)) (ap twig_of folded.node_is)
        ∙ ap (λ (t : Twig). join (part.offset / 2 ^ level) (folded_at part.offset part.twig part.trail level) t) (ap twig_of beside)
        ∙ sym (folded-suc part.offset level part.twig no_twig part.trail within)

    place : above.index ≡ number (part.depth + (level + 1)) (part.offset / 2 ^ (level + 1))
    place =
        at ∙ ap (λ (k : ℕ). number k (part.offset / 2 ^ level / 2)) (omega arith)
        ∙ ap (number (part.depth + (level + 1))) (path-suc part.offset level)

    placed : above ≡ own_node part (level + 1)
    placed =
        ap (λ (n : ℕ). record { index = n; size = above.size; hash = above.hash }) place
        ∙ ap (node_of (part.depth + (level + 1)) (part.offset / 2 ^ (level + 1))) folds

    seam : (ns : List Node) → (ns ++ node ∷ []) ++ sibling ∷ [] ≡ ns ++ node ∷ sibling ∷ []
    seam [] = refl
    seam (n ∷ ns) = ap (λ (rest : List Node). n ∷ rest) (seam ns)

    two : new ≡ way_of part (suc level)
    two = added ∙ seam old ∙ ap (λ (ns : List Node). ns ++ node ∷ sibling ∷ []) folded.way_is
        ∙ ap (λ (n : Node). way_of part level ++ n ∷ sibling ∷ []) folded.node_is
        ∙ ap (λ (n : Node). way_of part level ++ own_node part level ∷ n ∷ []) beside
