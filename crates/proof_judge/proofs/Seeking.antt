-- Where a block begins: its left siblings are in its way below the first stored node, and stored above it.
use Rattle.std.proofs.Common.{◌≡◌, ℕ, zero, suc, Bool, true, ◌+◌, ◌-◌, ◌*◌, ◌/◌, ◌%◌, ◌^◌, ◌<◌, ◌≤◌, inl, inr, List, [], ◌∷◌, ◌++◌, length, take, get_or, Option, Some, IsTrue, refl, sym, ap, subst, ◌∙◌, arith}
use Rattle.std.specs.Prelude.{not, IfSome}
use Rattle.std.specs.List.{Contains}
use Rattle.std.proofs.lemmas.Bool.{cases_lt, or_left, or_right}
use Rattle.std.proofs.lemmas.List.{length-append, get_or_append_left, get_or-append-add}
use Rattle.flat_tree.specs.Subtrees.{number}
use Rattle.flat_tree.specs.Roots.{depth_over, place_over}
use Rattle.flat_tree.specs.declared.limits.TheConstants.{MAX_CORE_BYTES}
use Rattle.merkle_nodes.specs.declared.node.Node.{Node}
use Rattle.merkle_nodes.specs.declared.node.Twig.{Twig}
use Rattle.merkle_nodes.specs.Joined.{or_value}
use Rattle.merkle_nodes.specs.Roots.{twig_of}
use Rattle.proof_form.specs.Proofs.{Proof, Block, BlockFits}
use Rattle.node_set.specs.declared.fault.Refusal.{Refusal}
use Rattle.node_set.specs.declared.fault.Refusal.TheVariants.{SeekWrong}
use Rattle.node_set.specs.Contents.{held, roots, bytes_under, no_twig}
use Rattle.node_set.specs.Closure.{in_closure, any_under}
use Rattle.node_set.specs.Offsets.{offset_of}
use Rattle.node_set.specs.Paths.{sibling_of}
use Rattle.node_set.specs.Refuses.{refuse_if}
use Rattle.node_set.specs.Walks.{IsFirstStored}
use Rattle.node_set.specs.Whole.{IsClosed}
use Rattle.node_set.proofs.ClosureLemmas.{any_under-up, closure_under, halves_in_closure}
use Rattle.node_set.proofs.CoverLemmas.{all_at}
use Rattle.node_set.proofs.Stored.{over-suc}
use Rattle.log_view.specs.Views.{Source, GivesNode}
use Rattle.log_view.specs.Overlays.{has_node}
use Rattle.log_view.specs.Walks.{IsLeftAt, AreLeft, BeginsAt}
use Rattle.log_view.proofs.Finding.{has_node-among}
use Rattle.log_view.proofs.LeftSums.{begins_shown}
use Rattle.proof_check.specs.Parts.{of_part, part_of_block}
use Rattle.proof_check.specs.Judge.{with_block, is_in, seek_refusal}
use Rattle.proof_check.proofs.Folding.{twig_fits}
use Rattle.proof_check.proofs.Overs.{over_within}
use Rattle.proof_judge.specs.Coming.{IsOf}
use Rattle.proof_judge.specs.Meetings.{own_node, beside_node, way_of}
use Rattle.proof_judge.specs.PartsMet.{IsBlockWay}
use Rattle.proof_judge.specs.Seeking.{with_way, SeekMeets}
use Rattle.proof_judge.proofs.Gathered.{put_by, first_of_block, below, way_own, with_block_node, block_length, block_roots}

-- ---- the siblings in a way

pub way_length : (b : Block) (levels : ℕ) → length (way_of (part_of_block b) levels) ≡ 2 * levels
unfolding way_of
way_length b zero = refl
way_length b (suc level) =
    let front = way_of (part_of_block b) level in
    let pair = own_node (part_of_block b) level ∷ beside_node (part_of_block b) level ∷ [] in
    omega (arith, length-append front pair, way_length b level)

pub way_beside : (b : Block) (levels level place : ℕ) (blank : Node) → level < levels → place ≡ 2 * level + 1
    → get_or (way_of (part_of_block b) levels) place blank ≡ beside_node (part_of_block b) level
unfolding way_of
way_beside b zero level place blank less at = absurd (omega (arith, less))
way_beside b (suc last) level place blank less at =
    let front = way_of (part_of_block b) last in
    let pair = own_node (part_of_block b) last ∷ beside_node (part_of_block b) last ∷ [] in
    elim (cases_lt level last) [
      | inl before ↦
          get_or_append_left front pair blank place (omega (arith, way_length b last, at, before))
          ∙ way_beside b last level place blank before at
      | inr here ↦
          let same : level ≡ last = omega (arith, here, less) in
          let end : place ≡ length front + 1 = omega (arith, way_length b last, at, same) in
          ap (λ (k : ℕ). get_or (front ++ pair) k blank) end ∙ get_or-append-add front pair 1 blank ∙ ap (beside_node (part_of_block b)) (sym same)
    ]

pub way_node_fits : (b : Block) (way : List Node) (levels level place : ℕ) (blank : Node) → way ≡ way_of (part_of_block b) levels → levels ≤ length b.trail
    → level < levels → place ≡ 2 * level + 1 → BlockFits b → (get_or way place blank).size ≤ MAX_CORE_BYTES
way_node_fits b way levels level place blank is enough low at fits =
    let small = (twig_fits b.trail level no_twig fits.trail.twigs (omega (arith, low, enough))).size in
    let here = ap (λ (ns : List Node). get_or ns place blank) is ∙ way_beside b levels level place blank low at in
    omega (arith, ap (λ (n : Node). n.size) here, small)

-- ---- what is stored above it

module _ (n : ℕ) (bits : ℕ → Bool) (index levels : ℕ) (first : IsFirstStored n bits index levels) (within : index < n) where
  any_above : (more : ℕ) → levels + more < depth_over n index → any_under bits (suc (levels + more)) (index / 2 ^ suc (levels + more)) ≡ true
  any_above zero low =
      let flat : levels ≡ levels + 0 = omega arith in
      let end = over_within n index (suc levels) within (omega (arith, low)) in
      subst (λ (level : ℕ). any_under bits (suc level) (index / 2 ^ suc level) ≡ true) flat
      (closure_under n bits levels (index / 2 ^ suc levels) (index / 2 ^ levels) (over-suc index levels) first.stored end)
  any_above (suc more) low =
      let level = suc (levels + more) in
      let flat : level ≡ levels + suc more = omega arith in
      let up = any_under-up bits level (index / 2 ^ level) (any_above more (omega (arith, low))) in
      subst (λ (k : ℕ). any_under bits (suc k) (index / 2 ^ suc k) ≡ true) flat (ap (any_under bits (suc level)) (sym (over-suc index level)) ∙ up)

  -- the left sibling there
  pub left_stored : (level : ℕ) → levels ≤ level → level < depth_over n index → index / 2 ^ level % 2 ≡ 1 → in_closure n bits level (index / 2 ^ level - 1) ≡ true
  left_stored level above low right =
      let flat : levels + (level - levels) ≡ level = omega (arith, above) in
      let any = subst (λ (k : ℕ). any_under bits (suc k) (index / 2 ^ suc k) ≡ true) flat (any_above (level - levels) (omega (arith, flat, low))) in
      let half : (index / 2 ^ level - 1) / 2 ≡ index / 2 ^ suc level = omega (arith, over-suc index level, right) in
      halves_in_closure n bits level (index / 2 ^ suc level) (index / 2 ^ level - 1) half any (over_within n index (suc level) within low)

pub block_below : (n : ℕ) (bits : ℕ → Bool) (b : Block) (way : List Node) → IsBlockWay n bits (Some b) way → b.index < n
block_below n bits b way (levels, first, enough, is) = below n bits b levels (first_of_block n bits b levels first)

-- from where the way ends
pub left_above : (n : ℕ) (bits : ℕ → Bool) (b : Block) (way : List Node) (level : ℕ) → IsBlockWay n bits (Some b) way → length way ≤ 2 * level + 1
    → level < depth_over n b.index → b.index / 2 ^ level % 2 ≡ 1 → in_closure n bits level (b.index / 2 ^ level - 1) ≡ true
left_above n bits b way level (levels, first, enough, is) past low right =
    let stored = first_of_block n bits b levels first in
    left_stored n bits b.index levels stored (below n bits b levels stored) level (omega (arith, ap length is, way_length b levels, past)) low right

-- ---- what the source with the way over it gives

module _ (p : Proof) (s : Source) (way : List Node) (b : Block) (same : p.block ≡ Some b) (is : IsBlockWay s.content.length (held s.content) (Some b) way)
    (shut : IsTrue s.shows → IsClosed s.content.length s.content.block s.content.node) where
  of_block : IsBlockWay s.content.length (held s.content) p.block way
  of_block = subst (λ (block : Option Block). IsBlockWay s.content.length (held s.content) block way) (sym same) is

  -- what the view gives
  pub gives_below : (index : ℕ) (node : Node) → GivesNode s index node → GivesNode (with_way p way s) index node
  gives_below index node gives = record {
    numbered = gives.numbered;
    size = gives.size;
    given = or_right (has_node way index (twig_of node)) (s.gives index (twig_of node)) gives.given;
    shown = λ shows d o at.
        with_block_node p s.content way (shut shows) of_block d o ∙ ap (λ (v : Option Twig). or_value v (put_by way d o)) (gives.shown shows d o at);
  }

  -- the nodes of the way
  pub gives_way : (node : Node) → Contains way node → node.size ≤ MAX_CORE_BYTES → GivesNode (with_way p way s) node.index node
  gives_way node there small = record {
    numbered = refl;
    size = small;
    given = or_left (has_node way node.index (twig_of node)) (s.gives node.index (twig_of node)) (has_node-among way node there);
    shown = λ shows d o at.
        all_at (IsOf (with_block p s.content).node) way node (way_own p s.content way (shut shows) of_block) there d o (sym at);
  }

  -- the left sibling below the first stored node
  pub left_by_way : (level place : ℕ) (blank : Node) → level < is.0 → place ≡ 2 * level + 1 → b.index / 2 ^ level % 2 ≡ 1 → BlockFits b
      → IsLeftAt (with_way p way s) b.index level (get_or way place blank).size
  left_by_way level place blank low at right fits = record {
    left_half = λ left. absurd (omega (arith, left, right));
    right_half = λ odd. (node, subst (λ (k : ℕ). GivesNode (with_way p way s) k node) numbered (gives_way node there small), ap (λ (n : Node). n.size) (here blank));
  }
    where
      node : Node
      node = beside_node (part_of_block b) level

      here : (other : Node) → get_or way place other ≡ node
      here other = ap (λ (ns : List Node). get_or ns place other) is.3 ∙ way_beside b is.0 level place other low at

      there : Contains way node
      there = (place, omega (arith, ap length is.3, way_length b is.0, at, low), here node)

      numbered : node.index ≡ number level (b.index / 2 ^ level - 1)
      numbered =
          ap (λ (d : ℕ). number d (sibling_of (b.index / 2 ^ level))) (omega arith) ∙ ap (number level) (omega (arith, right))

      small : node.size ≤ MAX_CORE_BYTES
      small = (twig_fits b.trail level no_twig fits.trail.twigs (omega (arith, low, is.2))).size

  -- and above it
  pub left_by_view : (level index : ℕ) (node : Node) → index ≡ number level (b.index / 2 ^ level - 1) → b.index / 2 ^ level % 2 ≡ 1 → GivesNode s index node
      → IsLeftAt (with_way p way s) b.index level node.size
  left_by_view level index node at right gives = record {
    left_half = λ left. absurd (omega (arith, left, right));
    right_half = λ odd. (node, subst (λ (k : ℕ). GivesNode (with_way p way s) k node) at (gives_below index node gives), refl);
  }

  -- it begins where the roots and the left siblings say
  pub begins_with : (before left begin : ℕ) → before ≡ bytes_under (take (place_over s.content.length b.index) (roots s.content))
      → AreLeft (with_way p way s) b.index (depth_over s.content.length b.index) left → begin ≡ before + left → BeginsAt (with_way p way s) b.index begin
  begins_with before left begin bytes are sum =
      let long = block_length p s.content in
      let same_roots = block_roots p s.content way of_block in (
        left,
        subst (λ (n : ℕ). AreLeft (with_way p way s) b.index (depth_over n b.index) left) (sym long) are,
        sum ∙ ap (λ (k : ℕ). k + left) (bytes ∙ sym (ap (λ (n : ℕ). bytes_under (take (place_over n b.index) (roots (with_block p s.content)))) long
            ∙ ap (λ (ns : List Node). bytes_under (take (place_over s.content.length b.index) ns)) same_roots)),
      )

-- ---- the refusal

module _ (s : Source) (p : Proof) (way : List Node) (byte begin : ℕ) (b : Block) (refusal : Option Refusal) (sought : p.seek ≡ Some byte) (same : p.block ≡ Some b)
    (begins : BeginsAt (with_way p way s) b.index begin) (is : refusal ≡ refuse_if (not (is_in byte begin (length b.bytes))) (SeekWrong begin (length b.bytes))) where
  pub seek_meets : SeekMeets s p way refusal
  seek_meets = record {
    begin = begin;
    begins = subst (λ (found : Option ℕ). IfSome found (λ byte. IfSome p.block (λ b. BeginsAt (with_way p way s) b.index begin))) (sym sought)
        (subst (λ (found : Option Block). IfSome found (λ b. BeginsAt (with_way p way s) b.index begin)) (sym same) begins);
    refusal_is = is ∙ sym (rw (sought, same) refl);
  }

  -- that of the content's own offset
  pub seek_shown : IsTrue s.shows → refusal ≡ seek_refusal p s.content
  seek_shown shows =
      let at : begin ≡ offset_of (with_block p s.content) b.index = begins_shown (with_way p way s) shows b.index begin begins in
      is ∙ ap (λ (k : ℕ). refuse_if (not (is_in byte k (length b.bytes))) (SeekWrong k (length b.bytes))) at ∙ opened
    where
      opened : refuse_if (not (is_in byte (offset_of (with_block p s.content) b.index) (length b.bytes))) (SeekWrong (offset_of (with_block p s.content) b.index) (length b.bytes))
          ≡ seek_refusal p s.content
      opened =
          ap (λ (found : Option Block). of_part found (λ b. refuse_if (not (is_in byte (offset_of (with_block p s.content) b.index) (length b.bytes)))
          (SeekWrong (offset_of (with_block p s.content) b.index) (length b.bytes)))) (sym same)
          ∙ ap (λ (found : Option ℕ). of_part found (λ byte. of_part p.block (λ b. refuse_if (not (is_in byte (offset_of (with_block p s.content) b.index) (length b.bytes)))
          (SeekWrong (offset_of (with_block p s.content) b.index) (length b.bytes))))) (sym sought)
