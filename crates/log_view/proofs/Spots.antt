-- Where a byte is found, over a view that shows a sound content.
use Rattle.std.proofs.Common.{◌≡◌, ℕ, zero, suc, ◌+◌, ◌-◌, ◌*◌, ◌/◌, ◌%◌, ◌^◌, ◌<◌, ◌≤◌, ◌⊎◌, inl, inr, Bool, true, false, List, [], ◌∷◌, IsTrue, Option, Some, None, take, option_map, slice_get, length, refl, sym, ap, subst, ◌∙◌, arith}
use Rattle.std.specs.Prelude.{is_some, IfSome, IfOk, Result, Ok, Err, get_or, ◌&&◌, nat_le, nat_lt}
use Rattle.std.proofs.lemmas.Bool.{cases_lt, cases_eq, cases_order, cases_Bool, eq-eqb, ne_eqb, lt-ltb, le-ltb, ltb-true, leb-true, le-leb, and_parts, and_from}
use Rattle.std.proofs.lemmas.Option.{slice_get-map, slice_get_within, get_or_from_slice_get}
use Rattle.std.proofs.lemmas.List.{take-take}
use Rattle.std.proofs.lemmas.List.Sums.{sum_by_more, sum_by-take-le}
use Rattle.flat_tree.specs.Subtrees.{Subtree, subtree, number, numbers_of, first_block_of, end_block_of, Tile}
use Rattle.flat_tree.specs.Roots.{full_roots_of, place_past, place_over, depth_over}
use Rattle.flat_tree.proofs.NumberLemmas.{inside_of, inside_only, end_first}
use Rattle.flat_tree.proofs.RootLemmas.{tile-full, tile-get}
use Rattle.flat_tree.proofs.OverLemmas.{root-over}
use Rattle.merkle_nodes.specs.declared.node.Node.{Node}
use Rattle.merkle_nodes.specs.Tree.{leaf_of}
use Rattle.merkle_nodes.specs.Roots.{twig_of}
use Rattle.node_set.specs.Contents.{Content, Blocks, Values, held, node_at, roots, bytes_under}
use Rattle.node_set.specs.Closure.{any_under, in_closure, IsUnder}
use Rattle.node_set.specs.Offsets.{left_step, left_bytes, offset_of, size_at, has_byte, spot_below, seek_at}
use Rattle.node_set.specs.Whole.{IsSound}
use Rattle.node_set.proofs.ClosureLemmas.{spans_meet}
use Rattle.node_set.proofs.Stored.{over-suc, half_within, any_under-held, some_of, some_same}
use Rattle.node_set.proofs.RootTruth.{some_or_none}
use Rattle.node_set.proofs.SoundLemmas.{size_of, size_stored, complete_of, size_halves}
use Rattle.log_view.specs.Views.{Source}
use Rattle.log_view.specs.declared.seeking.Spot.{Spot}
use Rattle.node_set.specs.declared.fault.CoreFault.{CoreFault}
use Rattle.log_view.specs.Walks.{IsInRoot, GoesTo, LeadsTo, FindsByte, FindsNone}
use Rattle.std.proofs.Math.Pow.{pow-lt}
use Rattle.flat_tree.specs.declared.limits.TheConstants.{MAX_BLOCKS, MAX_DEPTH}
use Rattle.node_set.proofs.PathLemmas.{place_fits}
use Rattle.node_set.proofs.SizeTruth.{places_low}
use Rattle.node_set.proofs.ClosureLemmas.{half_left}
use Rattle.log_view.proofs.StoredNodes.{closure_below}
use Rattle.log_view.proofs.LeftSums.{left_up}

-- the place past a block under one of the subtrees that tile a range is that subtree's
place_of_under : (trees : List Subtree) (from to : ℕ) → Tile trees from to → (at : ℕ) (tree : Subtree) → slice_get trees at ≡ Some tree
    → (index : ℕ) → IsUnder index tree.depth tree.offset → place_past trees index ≡ at
unfolding place_past
place_of_under [] from to tile at tree there index under = cc
place_of_under (head ∷ trees) from to tile zero tree there index under =
    let is : head ≡ tree = cc in
    let ends : index < end_block_of head.depth head.offset = subst (λ (t : Subtree). index < end_block_of t.depth t.offset) (sym is) under.1 in
    rw (lt-ltb index (end_block_of head.depth head.offset) ends) refl
place_of_under (head ∷ trees) from to tile (suc at) tree there index under =
    let starts = (tile-get trees (end_block_of head.depth head.offset) to tile.1 at tree there).0 in
    let past : end_block_of head.depth head.offset ≤ index = omega (arith, starts, under.0) in
    let rest = place_of_under trees (end_block_of head.depth head.offset) to tile.1 at tree there index under in
    rw (le-ltb index (end_block_of head.depth head.offset) past, rest) (omega arith)

-- a half of a subtree within the largest log has a number
pub has_half : (level offset n : ℕ) → end_block_of (suc level) offset ≤ n → n ≤ MAX_BLOCKS
    → (level ≤ MAX_DEPTH) × (2 * offset ≤ 2 ^ (MAX_DEPTH - level)) × (offset ≤ MAX_BLOCKS)
has_half level offset n within blocks =
    let meet = spans_meet level offset in
    let start = first_block_of level (2 * offset) in
    let low : level ≤ MAX_DEPTH = elim (cases_lt MAX_DEPTH level) [
      | inl deep ↦ absurd (omega (arith, pow-lt deep, end_first level (2 * offset), meet, within, blocks))
      | inr fits ↦ fits
    ] in
    let place = inside_only level (2 * offset) start (omega arith) meet.left in
    let fits = place_fits start level (omega (arith, meet, within, blocks)) low in
    (low, omega (arith, place, fits), omega (arith, (places_low n (suc level) offset within).1, blocks))

-- where a half isn't to be stored, nothing is held under the whole
pub half_unstored : (n : ℕ) (has : ℕ → Bool) (level offset : ℕ) → end_block_of (suc level) offset ≤ n → in_closure n has level (2 * offset) ≡ false
    → any_under has (suc level) offset ≡ false
half_unstored n has level offset within not_stored =
    let half = half_left offset in
    let inside = subst (λ (o : ℕ). end_block_of (suc level) o ≤ n) (sym half) within in
    ap (any_under has (suc level)) (sym half) ∙ sym (closure_below n has level (2 * offset) inside) ∙ not_stored

pub half_stored : (n : ℕ) (has : ℕ → Bool) (level offset : ℕ) → end_block_of (suc level) offset ≤ n → (half : ℕ) → half / 2 ≡ offset
    → end_block_of level half ≤ n
half_stored n has level offset within half is = half_within level half n (subst (λ (o : ℕ). end_block_of (suc level) o ≤ n) (sym is) within)

-- one level down
pub leads_down : (s : Source) (byte steps level low index half above past : ℕ) → level ≡ suc low → half / 2 ≡ index
    → LeadsTo s byte steps level index above → GoesTo s low half above past → LeadsTo s byte (suc steps) low half past
unfolding LeadsTo
leads_down s byte steps level low index half above past next is leads goes = (
  above,
  subst (λ (o : ℕ). LeadsTo s byte steps (suc low) o above) (sym is) (subst (λ (d : ℕ). LeadsTo s byte steps d index above) next leads),
  goes,
)

-- a leaf alone
pub leaf_held : (has : ℕ → Bool) (level index : ℕ) → level ≡ 0 → any_under has level index ≡ has index
unfolding any_under
leaf_held has level index none = ap (λ (d : ℕ). any_under has d index) none

-- the half that a walk goes on with
pub half_of : (s now : Source) (low index above : ℕ) (found : Option (ℕ × ℕ)) (half past : ℕ) → now ≡ s → found ≡ Some (half, past)
    → IfSome found (λ at. at.0 / 2 ≡ index) → IfSome found (λ at. GoesTo now low at.0 above at.1) → (half / 2 ≡ index) × GoesTo s low half above past
half_of s now low index above found half past same is under goes = (
  subst (λ (f : Option (ℕ × ℕ)). IfSome f (λ at. at.0 / 2 ≡ index)) is under,
  subst (λ (t : Source). GoesTo t low half above past) same
      (subst (λ (f : Option (ℕ × ℕ)). IfSome f (λ at. GoesTo now low at.0 above at.1)) is goes),
)

-- a walk ends where nothing is held
pub ends_there : (s now : Source) (byte steps level depth index past : ℕ) → now ≡ s → level ≡ depth → LeadsTo s byte steps level index past
    → any_under (held now.content) depth index ≡ false → FindsNone s byte
ends_there s now byte steps level depth index past same is leads none =
    let here = ap (λ (d : ℕ). any_under (held s.content) d index) is in
    let there = subst (λ (t : Source). any_under (held t.content) depth index ≡ false) same none in
    inr (steps, level, index, past, leads, here ∙ there)

-- ---- the root

root_there : (m : Content) (at : ℕ) (tree : Subtree) → slice_get (full_roots_of m.length) at ≡ Some tree
    → slice_get (roots m) at ≡ Some (node_at m.node tree.depth tree.offset)
root_there m at tree there =
    let root = λ (t : Subtree). node_at m.node t.depth t.offset in
    slice_get-map root (full_roots_of m.length) at ∙ ap (option_map root) there

-- the roots up to one, and its bytes
root_sum : (m : Content) (at : ℕ) (tree : Subtree) → slice_get (full_roots_of m.length) at ≡ Some tree
    → bytes_under (take (at + 1) (roots m)) ≡ bytes_under (take at (roots m)) + size_of m.node tree.depth tree.offset
root_sum m at tree there =
    let own = node_at m.node tree.depth tree.offset in
    let root = root_there m at tree there in
    sum_by_more (λ (x : Node). x.size) (roots m) at own (slice_get_within (roots m) at own root)
    ∙ ap (λ (x : Node). bytes_under (take at (roots m)) + x.size) (get_or_from_slice_get (roots m) at own own root)

take_grows : (nodes : List Node) (low high : ℕ) → low ≤ high → bytes_under (take low nodes) ≤ bytes_under (take high nodes)
take_grows nodes low high less =
    omega (arith, sum_by-take-le (λ (x : Node). x.size) (take high nodes) low, ap bytes_under (take-take low high nodes less))

-- the root of a place leads to the bytes under it
pub root_leads : (s : Source) (nodes : List Node) (place index byte rest depth offset : ℕ) (d : Node) → nodes ≡ roots s.content
    → slice_get (numbers_of (full_roots_of s.content.length)) place ≡ Some index
    → ((deep at : ℕ) → index ≡ number deep at → depth ≡ deep) → ((deep at : ℕ) → index ≡ number deep at → offset ≡ at)
    → bytes_under (take place (roots s.content)) + rest ≡ byte → rest < (get_or nodes place d).size
    → (end_block_of depth offset ≤ s.content.length) × LeadsTo s byte 0 depth offset rest
unfolding LeadsTo
root_leads s nodes place index byte rest depth offset d are there depth_is offset_is begins inside =
    let m = s.content in
    let trees = full_roots_of m.length in
    let tree_number = λ (t : Subtree). number t.depth t.offset in
    let at_number = sym (slice_get-map tree_number trees place) ∙ there in
    elim (some_or_none (slice_get trees place)) [
      | inl (tree, found) ↦
          let numbered = some_same _ _ (sym at_number ∙ ap (option_map tree_number) found) in
          let root = ap (λ (ns : List Node). slice_get ns place) are ∙ root_there m place tree found in
          let size = ap (λ (n : Node). n.size) (get_or_from_slice_get nodes place _ d root) in
          let same : tree ≡ subtree depth offset =
          ap (λ (k : ℕ). subtree k tree.offset) (sym (depth_is _ _ numbered)) ∙ ap (subtree depth) (sym (offset_is _ _ numbered)) in
          subst (λ (t : Subtree). (end_block_of t.depth t.offset ≤ m.length) × IsInRoot m byte t.depth t.offset rest) same (
            (tile-get trees 0 m.length (tile-full m.length) place tree found).1,
            record { at = place; root = found; begins = begins; inside = omega (arith, inside, size) },
          )
      | inr none ↦ let clash : None ≡ Some index = ap (option_map tree_number) (sym none) ∙ at_number in cc
    ]

-- ---- the block that has a byte

-- what a test of a byte says
pub record IsByteOf (m : Content) (byte index : ℕ) : Type 0 where
  pub is_held : held m index ≡ true
  pub from_on : offset_of m index ≤ byte
  pub before : byte < offset_of m index + size_at m.block index

pub byte_of : (m : Content) (byte index : ℕ) → has_byte m byte index ≡ true → IsByteOf m byte index
byte_of m byte index test =
    let parts = and_parts (is_some (m.block index) && nat_le (offset_of m index) byte) (nat_lt byte (offset_of m index + size_at m.block index)) test in
    let first = and_parts (is_some (m.block index)) (nat_le (offset_of m index) byte) parts.0 in
    record { is_held = first.0; from_on = leb-true _ _ first.1; before = ltb-true _ _ parts.1 }

pub of_byte : (m : Content) (byte index : ℕ) → IsByteOf m byte index → has_byte m byte index ≡ true
of_byte m byte index is =
    and_from (is_some (m.block index) && nat_le (offset_of m index) byte) (nat_lt byte (offset_of m index + size_at m.block index))
    (and_from (is_some (m.block index)) (nat_le (offset_of m index) byte) is.is_held (le-leb _ _ is.from_on)) (lt-ltb _ _ is.before)

-- one block alone with the byte is found, and none where none has it
spot_none : (m : Content) (byte end : ℕ) → ((index : ℕ) → index < end → has_byte m byte index ≡ false) → spot_below end m byte ≡ None
unfolding spot_below
spot_none m byte zero none = refl
spot_none m byte (suc end) none =
    rw (spot_none m byte end (λ index below. none index (omega (arith, below))), none end (omega arith)) refl

spot_one : (m : Content) (byte index end : ℕ) → index < end → has_byte m byte index ≡ true
    → ((other : ℕ) → has_byte m byte other ≡ true → other ≡ index) → spot_below end m byte ≡ Some index
unfolding spot_below
spot_one m byte index zero below has one = absurd (omega (arith, below))
spot_one m byte index (suc end) below has one = elim (cases_eq index end) [
  | inl here ↦
      let before = spot_none m byte end (λ other less. elim (cases_Bool (has_byte m byte other)) [
        | inl some ↦ absurd (omega (arith, one other some, less, here))
        | inr none ↦ none
      ]) in
      let last : has_byte m byte end ≡ true = ap (has_byte m byte) (sym here) ∙ has in
      rw (before, last) (ap Some (sym here))
  | inr other ↦ rw (spot_one m byte index end (omega (arith, below, other)) has one) refl
]

-- ---- a sound content

-- a node's left sibling and its own bytes, by which half of its parent it is
step_of : (node : Values) (depth offset half : ℕ) → offset / 2 ≡ half
    → ((offset % 2 ≡ 0) × (left_step node depth offset ≡ 0) × (size_of node depth offset ≡ size_of node depth (2 * half)))
    ⊎ ((offset % 2 ≡ 1) × (left_step node depth offset ≡ size_of node depth (2 * half)) × (size_of node depth offset ≡ size_of node depth (2 * half + 1)))
step_of node depth offset half up = elim (cases_eq (offset % 2) 1) [
  | inl right ↦
      let beside : offset - 1 ≡ 2 * half = omega (arith, right, up) in
      let is : offset ≡ 2 * half + 1 = omega (arith, right, up) in
      let step : left_step node depth offset ≡ size_of node depth (offset - 1) = rw (eq-eqb (offset % 2) 1 right) refl in
      inr (right, step ∙ ap (size_of node depth) beside, ap (size_of node depth) is)
  | inr left ↦
      let is : offset ≡ 2 * half = omega (arith, left, up) in
      inl (omega (arith, left), rw (ne_eqb (offset % 2) 1 left) refl, ap (size_of node depth) is)
]

size_there : (block : Blocks) (index : ℕ) (bytes : List ℕ) → block index ≡ Some bytes → size_at block index ≡ length bytes
size_there block index bytes is = rw is refl

module _ (m : Content) (sound : IsSound m) where
  below_length : (index : ℕ) → held m index ≡ true → index < m.length
  below_length index there = let block = some_of (m.block index) there in sound.blocks.below index block.0 block.1

  leaf_size : (index : ℕ) → held m index ≡ true → size_of m.node 0 index ≡ size_at m.block index
  leaf_size index there =
      let block = some_of (m.block index) there in
      size_stored m.node 0 index (leaf_of block.0) (sound.leaves index block.0 block.1) ∙ sym (size_there m.block index block.0 block.1)

  -- over a held block the halves have the parent's bytes
  halves_add : (depth index half : ℕ) → held m index ≡ true → index / 2 ^ suc depth ≡ half → end_block_of (suc depth) half ≤ m.length
      → size_of m.node (suc depth) half ≡ size_of m.node depth (2 * half) + size_of m.node depth (2 * half + 1)
  halves_add depth index half there up within =
      size_halves m.length m.block m.node (complete_of m sound) depth half within
      (subst (λ (o : ℕ). any_under (held m) (suc depth) o ≡ true) up (any_under-held (held m) index (suc depth) there))

  -- a held block begins and ends within each subtree over it
  inside_size : (depth index offset : ℕ) → held m index ≡ true → index / 2 ^ depth ≡ offset → end_block_of depth offset ≤ m.length
      → left_bytes depth m.node 0 index + size_at m.block index ≤ size_of m.node depth offset
  unfolding left_bytes
  inside_size zero index offset there over within =
      let same : index ≡ offset = omega (arith, over) in
      omega (arith, leaf_size index there, ap (size_of m.node 0) same)
  inside_size (suc depth) index offset there over within =
      let half = index / 2 ^ depth in
      let up : half / 2 ≡ offset = over-suc index depth ∙ over in
      let parent = subst (λ (o : ℕ). end_block_of (suc depth) o ≤ m.length) (sym up) within in
      let lower = inside_size depth index half there refl (half_within depth half m.length parent) in
      let sizes = halves_add depth index offset there over within in
      elim (step_of m.node depth half offset up) [
        | inl (left, step, own) ↦ omega (arith, lower, sizes, left_up m.node depth index, step, own)
        | inr (right, step, own) ↦ omega (arith, lower, sizes, left_up m.node depth index, step, own)
      ]

  -- so it does within the bytes of the roots up to the one over it
  within_root : (index : ℕ) → held m index ≡ true
      → offset_of m index + size_at m.block index ≤ bytes_under (take (place_over m.length index + 1) (roots m))
  within_root index there =
      let n = m.length in
      let depth = depth_over n index in
      let over = root-over n index (below_length index there) in
      let inside = (tile-get (full_roots_of n) 0 n (tile-full n) (place_over n index) (subtree depth (index / 2 ^ depth)) over).1 in
      omega (arith, inside_size depth index _ there refl inside, root_sum m (place_over n index) _ over)

-- ---- what leads to a node

leads_within : (s : Source) (byte levels depth offset past : ℕ) → LeadsTo s byte levels depth offset past → end_block_of depth offset ≤ s.content.length
unfolding LeadsTo
leads_within s byte zero depth offset past is =
    let n = s.content.length in (tile-get (full_roots_of n) 0 n (tile-full n) is.at (subtree depth offset) is.root).1
leads_within s byte (suc levels) depth offset past (above, leads, goes) =
    half_within depth offset s.content.length (leads_within s byte levels (suc depth) (offset / 2) above leads)

module _ (s : Source) (shows : IsTrue s.shows) (sound : IsSound s.content) (byte : ℕ) where
  size_given : (depth offset above past : ℕ) → (goes : GoesTo s depth offset above past) → size_of s.content.node depth (2 * (offset / 2)) ≡ goes.left.size
  size_given depth offset above past goes =
      size_stored s.content.node depth _ (twig_of goes.left) (goes.given.shown shows depth (2 * (offset / 2)) refl)

  -- a held block under the node begins so many bytes after it as are left of the block there
  leads_begins : (index levels depth offset past : ℕ) → held s.content index ≡ true → index / 2 ^ depth ≡ offset → LeadsTo s byte levels depth offset past
      → (offset_of s.content index + past ≡ byte + left_bytes depth s.content.node 0 index) × (past < size_of s.content.node depth offset)
  unfolding LeadsTo
  leads_begins index zero depth offset past there over is =
      let m = s.content in
      let n = m.length in
      let trees = full_roots_of n in
      let under = subst (IsUnder index depth) over (inside_of depth index) in
      let place = place_of_under trees 0 n (tile-full n) is.at (subtree depth offset) is.root index under in
      let root = sym is.root ∙ ap (slice_get trees) (sym place) ∙ root-over n index (below_length m sound index there) in
      let deep = ap (λ (t : Subtree). left_bytes t.depth m.node 0 index) (some_same _ _ root) in
      let left = ap (λ (k : ℕ). bytes_under (take k (roots m))) place in
      (omega (arith, is.begins, deep, left), is.inside)
  leads_begins index (suc levels) depth offset past there over (above, leads, goes) =
      let m = s.content in
      let half = offset / 2 in
      let up : index / 2 ^ suc depth ≡ half = sym (over-suc index depth) ∙ ap (λ (o : ℕ). o / 2) over in
      let whole = leads_begins index levels (suc depth) half above there up leads in
      let sizes = halves_add m sound depth index half there up (leads_within s byte levels (suc depth) half above leads) in
      let climb = left_up m.node depth index ∙ ap (λ (o : ℕ). left_bytes depth m.node 0 index + left_step m.node depth o) over in
      let given = size_given depth offset above past goes in
      elim (step_of m.node depth offset half refl) [
        | inl (left, step, own) ↦
            let at = goes.left_half left in
            (omega (arith, whole.0, climb, step, at.1), omega (arith, at, own, given))
        | inr (right, step, own) ↦
            let at = goes.right_half right in
            (omega (arith, whole.0, climb, step, at, given), omega (arith, whole.1, sizes, own, at, given))
      ]

  -- a block that has the byte is under the node
  leads_only : (index levels depth offset past : ℕ) → IsByteOf s.content byte index → LeadsTo s byte levels depth offset past → index / 2 ^ depth ≡ offset
  unfolding LeadsTo
  leads_only index zero depth offset past has is =
      let m = s.content in
      let n = m.length in
      let at = place_over n index in
      let ends = within_root m sound index has.is_held in
      let own = root_sum m is.at (subtree depth offset) is.root in
      let place : at ≡ is.at = elim (cases_order at is.at) [
        | inl same ↦ same
        | inr (inl before) ↦ absurd (omega (arith, ends, has.before, is.begins, take_grows (roots m) (at + 1) is.at (omega (arith, before))))
        | inr (inr after) ↦
            absurd (omega (arith, has.from_on, is.begins, is.inside, own, take_grows (roots m) (is.at + 1) at (omega (arith, after))))
      ] in
      let root = sym (root-over n index (below_length m sound index has.is_held)) ∙ ap (slice_get (full_roots_of n)) place ∙ is.root in
      subst (λ (t : Subtree). index / 2 ^ t.depth ≡ t.offset) (some_same _ _ root) refl
  leads_only index (suc levels) depth offset past has (above, leads, goes) =
      let m = s.content in
      let half = offset / 2 in
      let own = index / 2 ^ depth in
      let over = leads_only index levels (suc depth) half above has leads in
      let up : own / 2 ≡ half = over-suc index depth ∙ over in
      let begins = (leads_begins index levels (suc depth) half above has.is_held over leads).0 in
      let parent = subst (λ (o : ℕ). end_block_of (suc depth) o ≤ m.length) (sym up) (leads_within s byte levels (suc depth) half above leads) in
      let inside = inside_size m sound depth index own has.is_held refl (half_within depth own m.length parent) in
      let given = size_given depth offset above past goes in
      elim (cases_eq own offset) [
        | inl same ↦ same
        | inr other ↦ elim (step_of m.node depth own half up) [
          | inl (left, step, size) ↦
              let at = goes.right_half (omega (arith, left, up, other)) in
              absurd (omega (arith, begins, left_up m.node depth index, inside, step, size, at, given, has.before))
          | inr (right, step, size) ↦
              let at = goes.left_half (omega (arith, right, up, other)) in
              absurd (omega (arith, begins, left_up m.node depth index, step, at.0, given, has.from_on))
        ]
      ]

  -- ---- what is found

  found_shown : (index past : ℕ) → FindsByte s byte index past → (Some index ≡ seek_at s.content byte) × (offset_of s.content index + past ≡ byte)
  unfolding left_bytes
  found_shown index past (there, (levels, leads)) =
      let m = s.content in
      let begins = leads_begins index levels 0 index past there (omega arith) leads in
      let test = of_byte m byte index (record { is_held = there; from_on = omega (arith, begins.0); before = omega (arith, begins, leaf_size m sound index there) }) in (
        sym (spot_one m byte index m.length (below_length m sound index there) test
            (λ other test. omega (arith, leads_only other levels 0 index past (byte_of m byte other test) leads))),
        omega (arith, begins.0),
      )

  pub none_shown : FindsNone s byte → None ≡ seek_at s.content byte
  none_shown none =
      let m = s.content in
      sym (spot_none m byte m.length (λ index below. elim (cases_Bool (has_byte m byte index)) [
        | inr apart ↦ apart
        | inl test ↦
            let own = byte_of m byte index test in
            elim none [
              | inl past ↦
                  let all = sum_by-take-le (λ (n : Node). n.size) (roots m) (place_over m.length index + 1) in
                  absurd (omega (arith, past, within_root m sound index own.is_held, own.before, all))
              | inr (levels, depth, offset, over, leads, nothing) ↦
                  let under = ap (any_under (held m) depth) (leads_only index levels depth offset over own leads) in
                  let clash : true ≡ false = sym (any_under-held (held m) index depth own.is_held) ∙ under ∙ nothing in cc
            ]
      ]))

  -- so it is with the answer of a search
  pub answer_shown : (answer : Result (Option Spot) CoreFault) → IfOk answer (λ found. IfSome found (λ spot. FindsByte s byte spot.index spot.offset))
      → IfOk answer (λ found. found ≡ None → FindsNone s byte)
      → IfOk answer (λ found. (option_map (λ (spot : Spot). spot.index) found ≡ seek_at s.content byte)
      × IfSome found (λ spot. offset_of s.content spot.index + spot.offset ≡ byte))
  answer_shown (Ok (Some spot)) finds none = found_shown spot.index spot.offset finds
  answer_shown (Ok None) finds none = (none_shown (none refl), tt)
  answer_shown (Err fault) finds none = tt
