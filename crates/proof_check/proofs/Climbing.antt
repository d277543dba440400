-- The climb from a log's last root up to the root of a longer log over it.
use Rattle.std.proofs.Common.{◌≡◌, ℕ, zero, suc, true, false, ◌+◌, ◌-◌, ◌*◌, ◌/◌, ◌%◌, ◌<◌, ◌≤◌, inl, inr, List, [], ◌∷◌, ◌++◌, length, map, take, drop, get_or, slice_get, Some, append_assoc, nat_eq, refl, sym, ap, subst, ◌∙◌, arith, add-one}
use Rattle.std.specs.List.{AllByRecursion}
use Rattle.std.proofs.lemmas.Bool.{cases_eq, eq-eqb, ne_eqb}
use Rattle.std.proofs.lemmas.List.{map-append, same_from_push, length-map, length_push, length-append, length-take-le, take_more, drop-map}
use Rattle.std.proofs.lemmas.Option.{slice_get-get_or}
use Rattle.std.proofs.lemmas.List.Sums.{sum_by-cons, sum_by_push, sum_by-append}
use Rattle.flat_tree.specs.Subtrees.{Subtree, subtree, number, numbers_of, first_block_of, end_block_of, Tile}
use Rattle.flat_tree.specs.Roots.{full_roots_of, roots_below, place_over, depth_over, depth_past}
use Rattle.flat_tree.specs.Covers.{cover_of}
use Rattle.flat_tree.specs.declared.limits.TheConstants.{MAX_BLOCKS, MAX_ROOTS, MAX_CORE_BYTES}
use Rattle.flat_tree.proofs.RootLemmas.{length-full, tile-full, tile-le}
use Rattle.flat_tree.proofs.CoverLemmas.{cover-full}
use Rattle.flat_tree.proofs.OverLemmas.{root-over}
use Rattle.flat_tree.proofs.NumberLemmas.{first-suc, end-suc, inside_of, number_below}
use Rattle.merkle_nodes.specs.declared.node.Node.{Node}
use Rattle.merkle_nodes.specs.declared.node.Twig.{Twig}
use Rattle.merkle_nodes.specs.Tree.{parent_of}
use Rattle.merkle_nodes.specs.Joined.{Values}
use Rattle.merkle_nodes.specs.Nodes.{node_in, AreNodes}
use Rattle.merkle_nodes.specs.Roots.{HasShape, twig_of}
use Rattle.merkle_nodes.proofs.JoinedValues.{node_in-value, node_in-is}
use Rattle.node_set.specs.Contents.{bytes_under}
use Rattle.node_set.proofs.Stored.{over-suc}
use Rattle.node_set.proofs.ClosureLemmas.{spans_meet}
use Rattle.node_set.proofs.CoverLemmas.{all-append}
use Rattle.proof_check.specs.Growth.{AreAt, Joins, last_over, AreHalves, HasPlace, AreValues, SizeFits, IsJoined, HasJoined, nodes_at}
use Rattle.proof_check.specs.Early.{twig_bytes}
use Rattle.proof_check.specs.declared.upgrade.Joined.{Joined}
use Rattle.proof_check.proofs.Splitting.{last_root, left_root, right_cover, split_roots}

-- ---- two lists, one beside the other

-- as many nodes as subtrees
pub many_nodes : (nodes : List Node) (trees : List Subtree) → AreAt trees nodes → length nodes ≡ length trees
many_nodes nodes trees at =
    sym (length-map nodes (λ (n : Node). n.index)) ∙ ap length at ∙ length-map trees (λ (t : Subtree). number t.depth t.offset)

module _ {X : Type 0} (f : Node → X) (g : Subtree → X) where
  -- the last ones, where there are
  last_both : (nodes rest : List Node) (node : Node) (trees more : List Subtree) (tree : Subtree) → nodes ≡ rest ++ node ∷ [] → trees ≡ more ++ tree ∷ []
      → map f nodes ≡ map g trees → (map f rest ≡ map g more) × (f node ≡ g tree)
  last_both nodes rest node trees more tree nodes_are trees_are same =
      same_from_push (map f rest) (map g more) (f node) (g tree)
      (sym (map-append f rest (node ∷ [])) ∙ ap (map f) (sym nodes_are) ∙ same ∙ ap (map g) trees_are ∙ map-append g more (tree ∷ []))

  -- those at a place
  at_both : (nodes : List Node) (trees rest : List Subtree) (place : ℕ) (node : Node) (tree : Subtree) → map f nodes ≡ map g trees
      → slice_get nodes place ≡ Some node → drop place trees ≡ tree ∷ rest → f node ≡ g tree
  at_both [] trees rest place node tree same there behind = cc
  at_both (own ∷ nodes) [] rest place node tree same there behind = cc
  at_both (own ∷ nodes) (first ∷ trees) rest zero node tree same there behind =
      let one : own ≡ node = cc in
      let other : first ≡ tree = cc in
      let heads : f own ≡ g first = cc in
      ap f (sym one) ∙ heads ∙ ap g other
  at_both (own ∷ nodes) (first ∷ trees) rest (suc place) node tree same there behind =
      let tails : map f nodes ≡ map g trees = cc in
      at_both nodes trees rest place node tree tails there behind

  within_both : (nodes : List Node) (trees rest : List Subtree) (place : ℕ) (tree : Subtree) → map f nodes ≡ map g trees
      → drop place trees ≡ tree ∷ rest → place < length nodes
  within_both [] [] rest zero tree same behind = cc
  within_both [] [] rest (suc place) tree same behind = cc
  within_both [] (first ∷ trees) rest place tree same behind = cc
  within_both (own ∷ nodes) [] rest place tree same behind = cc
  within_both (own ∷ nodes) (first ∷ trees) rest zero tree same behind = omega arith
  within_both (own ∷ nodes) (first ∷ trees) rest (suc place) tree same behind =
      let tails : map f nodes ≡ map g trees = cc in
      let less = within_both nodes trees rest place tree tails behind in
      omega (arith, less)

drop_next : {X : Type 0} (xs rest : List X) (x : X) (place : ℕ) → drop place xs ≡ x ∷ rest → drop (suc place) xs ≡ rest
drop_next [] rest x zero behind = cc
drop_next [] rest x (suc place) behind = cc
drop_next (y ∷ xs) rest x zero behind = cc
drop_next (y ∷ xs) rest x (suc place) behind = drop_next xs rest x place behind

bytes_next : (nodes : List Node) (node : Node) (place : ℕ) → slice_get nodes place ≡ Some node
    → bytes_under (drop place nodes) ≡ node.size + bytes_under (drop (suc place) nodes)
bytes_next [] node place there = cc
bytes_next (own ∷ nodes) node zero there =
    let same : own ≡ node = cc in
    sum_by-cons (λ (n : Node). n.size) own nodes ∙ ap (λ (n : Node). n.size + bytes_under nodes) same
bytes_next (own ∷ nodes) node (suc place) there = bytes_next nodes node place there

-- ---- one level

-- so many levels up: the values
pub record HasClimbed (value : Values) (base low level : ℕ) (roots : List Node) (node : Node) (lefts rights : List Node) : Type 0 where
  pub at_roots : AreNodes value (full_roots_of (first_block_of level (last_over base level))) roots
  pub at_node : value level (last_over base level) ≡ Some (twig_of node)
  pub at_halves : (k : ℕ) → low ≤ k → k < level → AreHalves base value low lefts rights k

-- so many levels up: the roots that aren't joined yet stand before the node, and the nodes not used yet behind it
pub record IsClimbing (base to low level : ℕ) (added old roots : List Node) (node : Node) (used : ℕ) (lefts rights : List Node) : Type 0 where
  pub low_is : low ≤ level
  pub shape : HasShape roots (first_block_of level (last_over base level))
  pub index : node.index ≡ number level (last_over base level)
  pub cover : drop used (cover_of base to) ≡ cover_of (end_block_of level (last_over base level)) to
  pub used_is : used ≤ length added
  pub bytes : bytes_under roots + (node.size + bytes_under (drop used added)) ≡ bytes_under old + bytes_under added
  pub lefts_are : low + length lefts ≡ level
  pub rights_are : low + length rights ≡ level
  pub left_places : AllByRecursion HasPlace lefts
  pub right_places : AllByRecursion HasPlace rights
  pub climbed : (value : Values) → Joins base to value → AreNodes value (full_roots_of base) old → AreNodes value (cover_of base to) added
      → HasClimbed value base low level roots node lefts rights

-- the halves of the next node have their values
pub record HasPair (value : Values) (base level : ℕ) (roots : List Node) (left right : Node) : Type 0 where
  pub at_roots : AreNodes value (full_roots_of (first_block_of (suc level) (last_over base (suc level)))) roots
  pub at_left : value level (2 * last_over base (suc level)) ≡ Some (twig_of left)
  pub at_right : value level (2 * last_over base (suc level) + 1) ≡ Some (twig_of right)

-- the two halves of the next node, with what is left
pub record IsPair (base to level : ℕ) (added old roots : List Node) (left right : Node) (used : ℕ) (value_of : Values → Type 0) : Type 0 where
  pub shape : HasShape roots (first_block_of (suc level) (last_over base (suc level)))
  pub left_is : left.index ≡ number level (2 * last_over base (suc level))
  pub right_is : right.index ≡ number level (2 * last_over base (suc level) + 1)
  pub cover : drop used (cover_of base to) ≡ cover_of (end_block_of (suc level) (last_over base (suc level))) to
  pub used_is : used ≤ length added
  pub bytes : bytes_under roots + (left.size + right.size + bytes_under (drop used added)) ≡ bytes_under old + bytes_under added
  pub values : (value : Values) → value_of value → HasPair value base level roots left right

-- what is known of values
abbrev pub Known : ℕ → ℕ → List Node → List Node → Values → Type 0
Known base to added old value = Joins base to value × AreNodes value (full_roots_of base) old × AreNodes value (cover_of base to) added

up_one : (base level : ℕ) → last_over base level / 2 ≡ last_over base (suc level)
up_one base level = over-suc (base - 1) level

module _ {base to low level : ℕ} {added old roots : List Node} {node : Node} {used : ℕ} {lefts rights : List Node}
    (climbing : IsClimbing base to low level added old roots node used lefts rights) where
  abbrev place : ℕ
  place = last_over base level

  abbrev above : ℕ
  above = last_over base (suc level)

  -- a right half: the left one is the last root
  pub pair_right : (rest : List Node) (left : Node) → roots ≡ rest ++ left ∷ [] → last_over base level % 2 ≡ 1
      → IsPair base to level added old rest left node used (Known base to added old)
  pair_right rest left popped odd =
      let up = up_one base level in
      let half : place - 1 ≡ 2 * above = omega (arith, up, odd) in
      let own : place ≡ 2 * above + 1 = omega (arith, up, odd) in
      let first : first_block_of level (place - 1) ≡ first_block_of (suc level) above = ap (first_block_of level) half ∙ sym (first-suc level above) in
      let trees = left_root level place odd in
      let parts = last_both (λ (n : Node). n.index) (λ (t : Subtree). number t.depth t.offset) roots rest left _ _ _ popped trees climbing.shape in
      let end : end_block_of level place ≡ end_block_of (suc level) above = ap (end_block_of level) own ∙ sym (end-suc level above) in
      record {
        shape = parts.0 ∙ ap (λ (n : ℕ). numbers_of (full_roots_of n)) first;
        left_is = parts.1 ∙ ap (number level) half;
        right_is = climbing.index ∙ ap (number level) own;
        cover = climbing.cover ∙ ap (λ (n : ℕ). cover_of n to) end;
        used_is = climbing.used_is;
        bytes = omega (arith, climbing.bytes, ap bytes_under popped, sum_by_push (λ (n : Node). n.size) rest left);
        values = λ value known.
            let has = climbing.climbed value known.0 known.1 known.2 in
            let mine = last_both Some (node_in value) roots rest left _ _ _ popped trees has.at_roots in
            record {
              at_roots = mine.0 ∙ ap (λ (n : ℕ). map (node_in value) (full_roots_of n)) first;
              at_left = ap (value level) (sym half) ∙ node_in-value value (subtree level (place - 1)) left (sym mine.1);
              at_right = ap (value level) (sym own) ∙ has.at_node;
            };
      }

  -- a left half: the right one is the next node
  pub pair_left : (right : Node) → slice_get added used ≡ Some right → AreAt (cover_of base to) added → last_over base level % 2 ≡ 0
      → end_block_of (suc level) (last_over base (suc level)) ≤ to
      → IsPair base to level added old roots node right (used + 1) (Known base to added old)
  pair_left right there cover even within =
      let up = up_one base level in
      let own : place ≡ 2 * above = omega (arith, up, even) in
      let half : place + 1 ≡ 2 * above + 1 = omega (arith, own) in
      let first : first_block_of level place ≡ first_block_of (suc level) above = ap (first_block_of level) own ∙ sym (first-suc level above) in
      let more : end_block_of (suc level) (place / 2) ≡ end_block_of (suc level) above = ap (end_block_of (suc level)) up in
      let next = right_cover level place to even (omega (arith, more, within)) in
      let trees = climbing.cover ∙ next in
      let index = at_both (λ (n : Node). n.index) (λ (t : Subtree). number t.depth t.offset) added (cover_of base to) _ used right _ cover there trees in
      let less = within_both (λ (n : Node). n.index) (λ (t : Subtree). number t.depth t.offset) added (cover_of base to) _ used _ cover trees in
      record {
        shape = climbing.shape ∙ ap (λ (n : ℕ). numbers_of (full_roots_of n)) first;
        left_is = climbing.index ∙ ap (number level) own;
        right_is = index ∙ ap (number level) half;
        cover = ap (λ (k : ℕ). drop k (cover_of base to)) (add-one used) ∙ drop_next (cover_of base to) _ _ used trees ∙ ap (λ (n : ℕ). cover_of n to) more;
        used_is = omega (arith, less);
        bytes = omega (arith, climbing.bytes, bytes_next added right used there, ap (λ (k : ℕ). bytes_under (drop k added)) (add-one used));
        values = λ value known.
            let has = climbing.climbed value known.0 known.1 known.2 in
            let mine = at_both Some (node_in value) added (cover_of base to) _ used right _ known.2 there trees in
            record {
              at_roots = has.at_roots ∙ ap (λ (n : ℕ). map (node_in value) (full_roots_of n)) first;
              at_left = ap (value level) (sym own) ∙ has.at_node;
              at_right = ap (value level) (sym half) ∙ node_in-value value (subtree level (place + 1)) right (sym mine);
            };
      }

  -- ---- what the code asks for on the way

  pub some_left : last_over base level % 2 ≡ 1 → 0 < length roots
  some_left odd =
      let trees = ap length (left_root level place odd) in
      omega (arith, many_nodes roots _ climbing.shape, trees, length_push (full_roots_of (first_block_of level (place - 1))) (subtree level (place - 1)))

  pub some_right : AreAt (cover_of base to) added → last_over base level % 2 ≡ 0 → end_block_of (suc level) (last_over base (suc level)) ≤ to → used < length added
  some_right cover even within =
      let more : end_block_of (suc level) (place / 2) ≡ end_block_of (suc level) above = ap (end_block_of (suc level)) (up_one base level) in
      let trees = climbing.cover ∙ right_cover level place to even (omega (arith, more, within)) in
      within_both (λ (n : Node). n.index) (λ (t : Subtree). number t.depth t.offset) added (cover_of base to) _ used _ cover trees

  -- as the code finds them
  pub pair_of : AreAt (cover_of base to) added → end_block_of (suc level) (last_over base (suc level)) ≤ to → (rest : List Node) (left right : Node) (next : ℕ)
      → (nat_eq (last_over base level % 2) 1 ≡ true → (roots ≡ rest ++ left ∷ []) × (right ≡ node) × (next ≡ used))
      → (nat_eq (last_over base level % 2) 1 ≡ false → (slice_get added used ≡ Some right) × (left ≡ node) × (next ≡ used + 1) × (rest ≡ roots))
      → IsPair base to level added old rest left right next (Known base to added old)
  pair_of cover within rest left right next if_right if_left = elim (cases_eq (last_over base level % 2) 1) [
    | inl odd ↦
        let is = if_right (eq-eqb (last_over base level % 2) 1 odd) in
        rw (is.1, is.2) (pair_right rest left is.0 odd)
    | inr even ↦
        let is = if_left (ne_eqb (last_over base level % 2) 1 even) in
        rw (is.1, is.2, is.3) (pair_left right is.0 cover (omega (arith, even)) within)
  ]

-- a root, or a node joined of some, has no more bytes than all, and a small number
pub pair_fits : {base to level : ℕ} {added old roots : List Node} {left right : Node} {used : ℕ} {value_of : Values → Type 0}
    → IsPair base to level added old roots left right used value_of → bytes_under old + bytes_under added ≤ MAX_CORE_BYTES → to ≤ MAX_BLOCKS
    → end_block_of (suc level) (last_over base (suc level)) ≤ to → (left.index ≤ 2 * MAX_BLOCKS) × (left.size + right.size ≤ MAX_CORE_BYTES)
pair_fits {base} {to} {level} pair few blocks within =
    let meet = spans_meet level (last_over base (suc level)) in (
      omega (arith, pair.left_is, number_below level (2 * last_over base (suc level)), meet, within, blocks),
      omega (arith, pair.bytes, few),
    )

pair_places : {base to level : ℕ} {added old roots : List Node} {left right : Node} {used : ℕ} {value_of : Values → Type 0}
    → IsPair base to level added old roots left right used value_of → to ≤ MAX_BLOCKS
    → end_block_of (suc level) (last_over base (suc level)) ≤ to → (left.index ≤ 2 * MAX_BLOCKS) × (right.index ≤ 2 * MAX_BLOCKS)
pair_places {base} {to} {level} pair blocks within =
    let meet = spans_meet level (last_over base (suc level)) in (
      omega (arith, pair.left_is, number_below level (2 * last_over base (suc level)), meet, within, blocks),
      omega (arith, pair.right_is, number_below level (2 * last_over base (suc level) + 1), meet, within, blocks),
    )

-- ---- the first level

pub climb_start : (base to low : ℕ) (added old rest : List Node) (node : Node) → 0 < base → low ≡ depth_over base (base - 1) → HasShape old base
    → old ≡ rest ++ node ∷ [] → IsClimbing base to low low added old rest node 0 [] []
climb_start base to low added old rest node some low_is shape popped =
    let last = last_root base some low (last_over base low) low_is refl in
    let parts = last_both (λ (n : Node). n.index) (λ (t : Subtree). number t.depth t.offset) old rest node _ _ _ popped last.0 shape in
    record {
      low_is = omega arith;
      shape = parts.0;
      index = parts.1;
      cover = ap (λ (n : ℕ). cover_of n to) (sym last.1);
      used_is = omega arith;
      bytes = omega (arith, ap bytes_under popped, sum_by_push (λ (n : Node). n.size) rest node);
      lefts_are = omega arith;
      rights_are = omega arith;
      left_places = tt;
      right_places = tt;
      climbed = λ value joins at_old at_added.
          let mine = last_both Some (node_in value) old rest node _ _ _ popped last.0 at_old in
          record {
            at_roots = mine.0;
            at_node = node_in-value value (subtree low (last_over base low)) node (sym mine.1);
            at_halves = λ k from below. absurd (omega (arith, from, below));
          };
    }

-- ---- the next level

-- one more at the end
get_push : {X : Type 0} (xs : List X) (x : X) (place : ℕ) → place < length xs → slice_get (xs ++ x ∷ []) place ≡ slice_get xs place
get_push [] x place less = absurd (omega (arith, less))
get_push (y ∷ xs) x zero less = refl
get_push (y ∷ xs) x (suc place) less = get_push xs x place (omega (arith, less))

get_last : {X : Type 0} (xs : List X) (x : X) (place : ℕ) → place ≡ length xs → slice_get (xs ++ x ∷ []) place ≡ Some x
get_last [] x place end = rw end refl
get_last (y ∷ xs) x zero end = absurd (omega (arith, end))
get_last (y ∷ xs) x (suc place) end = get_last xs x place (omega (arith, end))

halves_push : (value : Values) (base low level : ℕ) (lefts rights : List Node) (left right : Node) → low ≤ level
    → low + length lefts ≡ level → low + length rights ≡ level
    → left.index ≡ number level (2 * last_over base (suc level)) → right.index ≡ number level (2 * last_over base (suc level) + 1)
    → value level (2 * last_over base (suc level)) ≡ Some (twig_of left) → value level (2 * last_over base (suc level) + 1) ≡ Some (twig_of right)
    → ((k : ℕ) → low ≤ k → k < level → AreHalves base value low lefts rights k)
    → (k : ℕ) → low ≤ k → k < level + 1 → AreHalves base value low (lefts ++ left ∷ []) (rights ++ right ∷ []) k
halves_push value base low level lefts rights left right low_is lefts_are rights_are left_is right_is at_left at_right before k from below = elim (cases_eq k level) [
  | inl here ↦ subst (λ (j : ℕ). AreHalves base value low (lefts ++ left ∷ []) (rights ++ right ∷ []) j) (sym here) (record {
    at_left = get_last lefts left (level - low) (omega (arith, lefts_are)) ∙ sym (node_in-is value level (2 * last_over base (suc level)) left left_is at_left);
    at_right = get_last rights right (level - low) (omega (arith, rights_are)) ∙ sym (node_in-is value level (2 * last_over base (suc level) + 1) right right_is at_right);
  })
  | inr other ↦
      let halves = before k from (omega (arith, below, other)) in
      record {
        at_left = get_push lefts left (k - low) (omega (arith, lefts_are, from, below, other)) ∙ halves.at_left;
        at_right = get_push rights right (k - low) (omega (arith, rights_are, from, below, other)) ∙ halves.at_right;
      }
]

pub climb_step : {base to low level : ℕ} {added old roots rest : List Node} {node : Node} {used next : ℕ} {lefts rights : List Node}
    → IsClimbing base to low level added old roots node used lefts rights → (left right over : Node)
    → IsPair base to level added old rest left right next (Known base to added old)
    → end_block_of (suc level) (last_over base (suc level)) ≤ to → to ≤ MAX_BLOCKS → base < end_block_of (suc level) (last_over base (suc level)) → 0 < base
    → over.index ≡ number (level + 1) (last_over base (suc level)) → twig_of over ≡ parent_of (twig_of left) (twig_of right)
    → IsClimbing base to low (level + 1) added old rest over next (lefts ++ left ∷ []) (rights ++ right ∷ [])
climb_step {base} {to} {low} {level} {added} {old} {rest = rest} {next = next} {lefts} {rights} climbing left right over pair within blocks past some index twig =
    let places = pair_places pair blocks within in
    subst (λ (d : ℕ). IsClimbing base to low d added old rest over next (lefts ++ left ∷ []) (rights ++ right ∷ [])) (sym (add-one level)) (record {
      low_is = omega (arith, climbing.low_is);
      shape = pair.shape;
      index = index ∙ ap (λ (d : ℕ). number d (last_over base (suc level))) (add-one level);
      cover = pair.cover;
      used_is = pair.used_is;
      bytes = omega (arith, pair.bytes, ap (λ (t : Twig). t.size) twig);
      lefts_are = omega (arith, climbing.lefts_are, length_push lefts left);
      rights_are = omega (arith, climbing.rights_are, length_push rights right);
      left_places = all-append HasPlace lefts (left ∷ []) climbing.left_places (omega (arith, places), tt);
      right_places = all-append HasPlace rights (right ∷ []) climbing.right_places (omega (arith, places), tt);
      climbed = λ value joins at_old at_added.
          let has = pair.values value (joins, at_old, at_added) in
          let before = climbing.climbed value joins at_old at_added in
          let starts = inside_of (suc level) (base - 1) in
          let parent = joins level (last_over base (suc level)) (omega (arith, starts, some)) past within in
          record {
            at_roots = has.at_roots;
            at_node = parent ∙ rw (has.at_left, has.at_right) (ap (λ (t : Twig). Some t) (sym twig));
            at_halves = λ k from below.
                halves_push value base low level lefts rights left right climbing.low_is climbing.lefts_are climbing.rights_are pair.left_is pair.right_is
                has.at_left has.at_right before.at_halves k from (omega (arith, below));
          };
    })

-- ---- the last level

drop_both : {X : Type 0} (f : Node → X) (g : Subtree → X) (nodes : List Node) (trees : List Subtree) (place : ℕ) → map f nodes ≡ map g trees
    → map f (drop place nodes) ≡ map g (drop place trees)
drop_both f g nodes trees place same = sym (drop-map f place nodes) ∙ ap (drop place) same ∙ drop-map g place trees

all_both : {X : Type 0} (f : Node → X) (g : Subtree → X) (roots : List Node) (node : Node) (added : List Node) (used : ℕ)
    (front : List Subtree) (tree : Subtree) (cover back : List Subtree) → map f roots ≡ map g front → f node ≡ g tree → map f added ≡ map g cover
    → drop used cover ≡ back → map f ((roots ++ node ∷ []) ++ drop used added) ≡ map g (front ++ tree ∷ back)
all_both f g roots node added used front tree cover back at_front at_tree at_cover rest =
    ap (map f) (append_assoc roots (node ∷ []) (drop used added))
    ∙ map-append f roots (node ∷ drop used added)
    ∙ ap (λ ys. ys ++ (f node ∷ map f (drop used added))) at_front
    ∙ ap (λ y. map g front ++ (y ∷ map f (drop used added))) at_tree
    ∙ ap (λ ys. map g front ++ (g tree ∷ ys)) (drop_both f g added cover used at_cover ∙ ap (map g) rest)
    ∙ sym (map-append g front (tree ∷ back))

-- nodes that have no more bytes than a core together
pub sizes_fit : (nodes : List Node) → bytes_under nodes ≤ MAX_CORE_BYTES → AllByRecursion SizeFits nodes
sizes_fit [] few = tt
sizes_fit (node ∷ nodes) few =
    let all = sum_by-cons (λ (n : Node). n.size) node nodes in
    (omega (arith, few, all), sizes_fit nodes (omega (arith, few, all)))

module _ {base to low level : ℕ} {added old roots : List Node} {node : Node} {used : ℕ} {lefts rights : List Node}
    (climbing : IsClimbing base to low level added old roots node used lefts rights) (some : 0 < base) (longer : base < to)
    (cover : AreAt (cover_of base to) added) (top : level ≡ depth_over to (base - 1)) where
  abbrev grown : List Node
  grown = (roots ++ node ∷ []) ++ drop used added

  grown_trees : full_roots_of to ≡ full_roots_of (first_block_of level (last_over base level)) ++ subtree level (last_over base level) ∷ cover_of (end_block_of level (last_over base level)) to
  grown_trees =
      (split_roots to (place_over to (base - 1)) level (last_over base level)
      (root-over to (base - 1) (omega (arith, some, longer)) ∙ ap (λ (d : ℕ). Some (subtree d (last_over base d))) (sym top))).0

  pub grown_shape : HasShape grown to
  grown_shape =
      all_both (λ (n : Node). n.index) (λ (t : Subtree). number t.depth t.offset) roots node added used _ (subtree level (last_over base level))
      (cover_of base to) _ climbing.shape climbing.index cover climbing.cover
      ∙ ap numbers_of (sym grown_trees)

  pub grown_many : to ≤ MAX_BLOCKS → length roots + 1 + length (drop used added) ≤ MAX_ROOTS
  grown_many few =
      let all = many_nodes grown (full_roots_of to) grown_shape in
      omega (arith, all, length-append (roots ++ node ∷ []) (drop used added), length_push roots node, length-full MAX_ROOTS to (omega arith) few)

  pub grown_joined : bytes_under old + bytes_under added ≤ MAX_CORE_BYTES → low ≡ depth_over base (base - 1) → (j : Joined)
      → j ≡ record { low = low; lefts = lefts; rights = rights; roots = grown } → IsJoined base to j
  grown_joined few low_is j is = rw is (record {
    shape = grown_shape;
    sizes = sizes_fit grown (omega (
      arith,
      few,
      climbing.bytes,
      sum_by-append (λ (n : Node). n.size) (roots ++ node ∷ []) (drop used added),
      sum_by_push (λ (n : Node). n.size) roots node,
    ));
    low = λ some. low_is;
    none = λ empty. absurd (omega (arith, empty, some));
    left_places = climbing.left_places;
    right_places = climbing.right_places;
    lefts = climbing.lefts_are ∙ top;
    rights = climbing.rights_are ∙ top;
  })

  pub grown_values : (value : Values) → Known base to added old value → (j : Joined)
      → j ≡ record { low = low; lefts = lefts; rights = rights; roots = grown } → HasJoined base to value j
  grown_values value known j is =
      let has = climbing.climbed value known.0 known.1 known.2 in
      rw is (record {
        at_roots =
            all_both Some (node_in value) roots node added used _ (subtree level (last_over base level)) (cover_of base to) _ has.at_roots
            (sym (node_in-is value level (last_over base level) node climbing.index has.at_node)) known.2 climbing.cover
            ∙ ap (map (node_in value)) (sym grown_trees);
        at_halves = λ k from below. has.at_halves k from (omega (arith, below, top));
      })

-- ---- twigs with numbers

pub nodes_at-push : (places : List ℕ) (twigs : List Twig) (index : ℕ) (twig : Twig) → length twigs ≡ length places
    → nodes_at (places ++ index ∷ []) (twigs ++ twig ∷ []) ≡ nodes_at places twigs ++ record { index = index; size = twig.size; hash = twig.hash } ∷ []
unfolding nodes_at
nodes_at-push [] [] index twig count = refl
nodes_at-push [] (t ∷ twigs) index twig count = absurd (omega (arith, count))
nodes_at-push (p ∷ places) [] index twig count = absurd (omega (arith, count))
nodes_at-push (p ∷ places) (t ∷ twigs) index twig count =
    ap (λ (nodes : List Node). record { index = p; size = t.size; hash = t.hash } ∷ nodes) (nodes_at-push places twigs index twig (omega (arith, count)))

pub nodes_at-places : (trees : List Subtree) (twigs : List Twig) → length twigs ≡ length trees → AreAt trees (nodes_at (numbers_of trees) twigs)
unfolding nodes_at
nodes_at-places [] [] count = refl
nodes_at-places [] (t ∷ twigs) count = absurd (omega (arith, count))
nodes_at-places (tree ∷ trees) [] count = absurd (omega (arith, count))
nodes_at-places (tree ∷ trees) (t ∷ twigs) count =
    ap (λ (ns : List ℕ). number tree.depth tree.offset ∷ ns) (nodes_at-places trees twigs (omega (arith, count)))

pub nodes_at-bytes : (trees : List Subtree) (twigs : List Twig) → length twigs ≡ length trees → bytes_under (nodes_at (numbers_of trees) twigs) ≡ twig_bytes twigs
unfolding nodes_at
nodes_at-bytes [] [] count = refl
nodes_at-bytes [] (t ∷ twigs) count = absurd (omega (arith, count))
nodes_at-bytes (tree ∷ trees) [] count = absurd (omega (arith, count))
nodes_at-bytes (tree ∷ trees) (t ∷ twigs) count =
    omega (
      arith,
      sum_by-cons (λ (n : Node). n.size) (record { index = number tree.depth tree.offset; size = t.size; hash = t.hash }) (nodes_at (numbers_of trees) twigs),
      sum_by-cons (λ (twig : Twig). twig.size) t twigs,
      nodes_at-bytes trees twigs (omega (arith, count)),
    )

pub nodes_at-values : (value : Values) (trees : List Subtree) (twigs : List Twig) → AreValues value trees twigs
    → AreNodes value trees (nodes_at (numbers_of trees) twigs)
unfolding nodes_at
nodes_at-values value [] [] are = refl
nodes_at-values value [] (t ∷ twigs) are = cc
nodes_at-values value (tree ∷ trees) [] are = cc
nodes_at-values value (tree ∷ trees) (t ∷ twigs) are =
    let first : Some t ≡ value tree.depth tree.offset = cc in
    let others : map Some twigs ≡ map (λ (x : Subtree). value x.depth x.offset) trees = cc in
    let node : Node = record { index = number tree.depth tree.offset; size = t.size; hash = t.hash } in
    let here : Some node ≡ node_in value tree = sym (node_in-is value tree.depth tree.offset node refl (sym first)) in
    ap (λ n. n ∷ map Some (nodes_at (numbers_of trees) twigs)) here ∙ ap (λ ns. node_in value tree ∷ ns) (nodes_at-values value trees twigs others)

-- one more
pub nodes_at-next : (places : List ℕ) (twigs : List Twig) (nodes more : List Node) (node : Node) (place index : ℕ) (blank : Twig) → length twigs ≡ length places
    → place < length twigs → nodes ≡ nodes_at (take place places) (take place twigs) → slice_get places place ≡ Some index
    → node ≡ record { index = index; size = (get_or twigs place blank).size; hash = (get_or twigs place blank).hash } → more ≡ nodes ++ node ∷ []
    → more ≡ nodes_at (take (place + 1) places) (take (place + 1) twigs)
nodes_at-next places twigs nodes more node place index blank count within before there node_is more_is =
    let at : get_or places place 0 ≡ index = let found = slice_get-get_or places place 0 (omega (arith, count, within)) in cc in
    let lengths : length (take place twigs) ≡ length (take place places) =
    length-take-le place twigs (omega (arith, within)) ∙ sym (length-take-le place places (omega (arith, count, within))) in
    more_is
    ∙ ap (λ (ns : List Node). ns ++ node ∷ []) before
    ∙ ap (λ (n : Node). nodes_at (take place places) (take place twigs) ++ n ∷ []) node_is
    ∙ sym (nodes_at-push (take place places) (take place twigs) index (get_or twigs place blank) lengths)
    ∙ ap (λ (k : ℕ). nodes_at (take place places ++ k ∷ []) (take place twigs ++ get_or twigs place blank ∷ [])) (sym at)
    ∙ ap (λ (ps : List ℕ). nodes_at ps (take place twigs ++ get_or twigs place blank ∷ [])) (sym (take_more places place 0 (omega (arith, count, within))))
    ∙ ap (nodes_at (take (place + 1) places)) (sym (take_more twigs place blank within))

-- ---- behind the empty log

pub first_joined : (to : ℕ) (added : List Node) (j : Joined) → AreAt (cover_of 0 to) added → bytes_under added ≤ MAX_CORE_BYTES
    → j ≡ record { low = depth_over to 0; lefts = []; rights = []; roots = added } → IsJoined 0 to j
first_joined to added j cover few is = rw is (record {
  shape = cover ∙ ap numbers_of (cover-full to);
  sizes = sizes_fit added few;
  low = λ some. absurd (omega (arith, some));
  none = λ empty. refl;
  left_places = tt;
  right_places = tt;
  lefts = omega arith;
  rights = omega arith;
})

pub first_values : (to : ℕ) (added : List Node) (j : Joined) (value : Values) → AreNodes value (cover_of 0 to) added
    → j ≡ record { low = depth_over to 0; lefts = []; rights = []; roots = added } → HasJoined 0 to value j
first_values to added j value are is = rw is (record {
  at_roots = are ∙ ap (map (node_in value)) (cover-full to);
  at_halves = λ level from below. absurd (omega (arith, from, below));
})

pub first_many : (to : ℕ) (added : List Node) → to ≤ MAX_BLOCKS → AreAt (cover_of 0 to) added → length added ≤ MAX_ROOTS
first_many to added few cover =
    omega (arith, many_nodes added (cover_of 0 to) cover, ap length (cover-full to), length-full MAX_ROOTS to (omega arith) few)

-- no block has no root
pub none_over : (base : ℕ) → base ≡ 0 → 0 ≡ depth_over base (base - 1)
unfolding full_roots_of roots_below depth_past
none_over base none = rw none refl

-- roots of few blocks have small numbers
below_all : (nodes : List Node) (trees : List Subtree) (from to : ℕ) → AreAt trees nodes → Tile trees from to → to ≤ MAX_BLOCKS → AllByRecursion HasPlace nodes
below_all [] trees from to at tile few = tt
below_all (node ∷ nodes) [] from to at tile few = cc
below_all (node ∷ nodes) (tree ∷ trees) from to at tile few =
    let first : node.index ≡ number tree.depth tree.offset = cc in
    let others : AreAt trees nodes = cc in (
      omega (arith, first, number_below tree.depth tree.offset, tile-le trees _ to tile.1, few),
      below_all nodes trees _ to others tile.1 few,
    )

pub places_of_roots : (to : ℕ) (roots : List Node) → to ≤ MAX_BLOCKS → HasShape roots to → AllByRecursion HasPlace roots
places_of_roots to roots few shape = below_all roots (full_roots_of to) 0 to shape (tile-full to) few
