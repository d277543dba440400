-- The subtrees of a cover, pushed one after the other.
use Rattle.std.proofs.Common.{◌≡◌, ℕ, ◌+◌, ◌<◌, ◌≤◌, List, [], ◌∷◌, ◌++◌, length, get_or, map, take, Some, refl, sym, ◌∙◌, ap, subst, arith, append_assoc, append-nil, length-append}
use Rattle.std.specs.List.{AllByRecursion}
use Rattle.std.proofs.lemmas.List.{get_or-map, take_all, flat_map_more}
use Rattle.std.proofs.lemmas.List.Sums.{sum_by_more, sum_by_more_le}
use Rattle.std.proofs.Math.Seq.{get_or-append_seam}
use Rattle.flat_tree.specs.Subtrees.{Subtree, number, first_block_of, end_block_of, numbers_of, Tile}
use Rattle.flat_tree.specs.Covers.{cover_of}
use Rattle.flat_tree.specs.declared.limits.TheConstants.{MAX_BLOCKS, MAX_CORE_BYTES}
use Rattle.flat_tree.proofs.RootLemmas.{tile-le}
use Rattle.flat_tree.proofs.CoverLemmas.{tile-cover}
use Rattle.merkle_nodes.specs.declared.node.Node.{Node}
use Rattle.merkle_nodes.specs.declared.node.Twig.{Twig}
use Rattle.merkle_nodes.specs.Roots.{HasShape, twig_of}
use Rattle.merkle_nodes.specs.Joined.{Values}
use Rattle.merkle_nodes.specs.Nodes.{bytes_under}
use Rattle.root_stack.specs.Made.{ending_with, made_by}
use Rattle.root_stack.specs.Stack.{JoinsAt, AreValues, AreJoined, AreOf, IsNext, AddsTree, Grows, twig_bytes}
use Rattle.root_stack.proofs.NodeLists.{sizes_fit}

-- so many subtrees of the cover are pushed, up to a block
pub record IsPushing (start end : ℕ) (twigs : List Twig) (count : ℕ) (old_roots roots old_made made : List Node) : Type 0 where
  pub done : List Subtree
  pub rest : List Subtree
  pub block : ℕ
  pub split : done ++ rest ≡ cover_of start end
  pub many_done : length done ≡ count
  pub tile : Tile rest block end
  pub grows : Grows block (twig_bytes (take count twigs)) count old_roots roots old_made made
  pub adds : (values : Values) → (trees : List Subtree) → AreJoined values (cover_of start end) twigs
      → AreOf values start trees old_roots old_made → AreOf values block (trees ++ made_by done) roots made

pub IsPushing-start : (start end : ℕ) (twigs : List Twig) (roots made : List Node) → start ≤ end → HasShape roots start
    → bytes_under roots + twig_bytes twigs ≤ MAX_CORE_BYTES → IsPushing start end twigs 0 roots roots made made
IsPushing-start start end twigs roots made ordered shape few = record {
  done = [];
  rest = cover_of start end;
  block = start;
  split = refl;
  many_done = refl;
  tile = tile-cover start end ordered;
  grows = record {
    shape = shape;
    bytes = omega arith;
    many = omega arith;
    roots_fit = sizes_fit roots (omega (arith, few));
    made_fit = λ fits. fits;
  };
  adds = λ values trees joined all. record {
    at_roots = all.at_roots;
    at_made = rw (append-nil trees) all.at_made;
  };
}

-- ---- the next one

some_next : (trees : List Subtree) → 0 < length trees → (tree : Subtree) × (others : List Subtree) × (trees ≡ tree ∷ others)
some_next [] some = absurd (omega (arith, some))
some_next (tree ∷ others) some = (tree, others, refl)

-- what holds of all holds of one of them
all_has : (P : Subtree → Type 0) (done : List Subtree) (tree : Subtree) (others : List Subtree) → AllByRecursion P (done ++ tree ∷ others) → P tree
all_has P [] tree others all = all.0
all_has P (t ∷ done) tree others all = all_has P done tree others all.1

-- what stands beside it in a list of what each has
get_beside : {X : Type 0} (f : Subtree → X) (done : List Subtree) (tree : Subtree) (others : List Subtree) (count : ℕ) (e : X) → length done ≡ count
    → get_or (map f (done ++ tree ∷ others)) count e ≡ f tree
get_beside f done tree others count e many =
    let below : count < length (done ++ tree ∷ others) = omega (arith, many, length-append done (tree ∷ others)) in
    get_or-map f (done ++ tree ∷ others) count tree e below
    ∙ ap (λ (n : ℕ). f (get_or (done ++ tree ∷ others) n tree)) (sym many) ∙ ap f (get_or-append_seam done tree others tree)

module _ {start end count : ℕ} {twigs : List Twig} {old_roots roots old_made made : List Node}
    (so_far : IsPushing start end twigs count old_roots roots old_made made) (twig_each : length twigs ≡ length (cover_of start end)) where
  lengths : count + length so_far.rest ≡ length (cover_of start end)
  lengths = omega (arith, so_far.many_done, length-append so_far.done so_far.rest, ap length so_far.split)

  module _ (less : count < length twigs) where
    pub there : (tree : Subtree) × (others : List Subtree) × (so_far.rest ≡ tree ∷ others)
    there = some_next so_far.rest (omega (arith, lengths, less, twig_each))

    abbrev pub tree : Subtree
    tree = there.0

    abbrev others : List Subtree
    others = there.1

    split : so_far.done ++ tree ∷ others ≡ cover_of start end
    split = ap (λ (ts : List Subtree). so_far.done ++ ts) (sym there.2) ∙ so_far.split

    tile : (first_block_of tree.depth tree.offset ≡ so_far.block) × Tile others (end_block_of tree.depth tree.offset) end
    tile = subst (λ (ts : List Subtree). Tile ts so_far.block end) there.2 so_far.tile

    pub next_is : {places : List ℕ} {node : Node} (d : ℕ) → end ≤ MAX_BLOCKS → places ≡ numbers_of (cover_of start end) → node.index ≡ get_or places count d
        → IsNext tree node roots
    next_is {places} {node} d few places_are at =
        let number_at = λ (t : Subtree). number t.depth t.offset in
        record {
          index = at ∙ ap (λ (ns : List ℕ). get_or ns count d) (places_are ∙ ap numbers_of (sym split))
              ∙ get_beside number_at so_far.done tree others count d so_far.many_done;
          shape = subst (HasShape roots) (sym tile.0) so_far.grows.shape;
          within = omega (arith, tile-le others _ end tile.1, few);
        }

    pub next_fits : {size : ℕ} (e : Twig) → size ≡ (get_or twigs count e).size → bytes_under old_roots + twig_bytes twigs ≤ MAX_CORE_BYTES
        → bytes_under roots + size ≤ MAX_CORE_BYTES
    next_fits e is few = omega (arith, is, few, so_far.grows.bytes, sum_by_more_le (λ (t : Twig). t.size) twigs count e less)

    -- the values have the next twig
    value_there : (values : Values) (e : Twig) → AreValues values (cover_of start end) twigs → values tree.depth tree.offset ≡ Some (get_or twigs count e)
    value_there values e are =
        let value_at = λ (t : Subtree). values t.depth t.offset in
        sym (get_beside value_at so_far.done tree others count (Some e) so_far.many_done)
        ∙ ap (λ (ts : List Subtree). get_or (map value_at ts) count (Some e)) split
        ∙ ap (λ vs. get_or vs count (Some e)) (sym are)
        ∙ get_or-map Some twigs count e (Some e) less

    pub IsPushing-step : (node : Node) (e : Twig) {more_roots more_made : List Node} → twig_of node ≡ get_or twigs count e
        → Grows (end_block_of tree.depth tree.offset) node.size 1 roots more_roots made more_made
        → ((values : Values) → (trees : List Subtree) → AddsTree values trees tree node roots more_roots made more_made)
        → IsPushing start end twigs (count + 1) old_roots more_roots old_made more_made
    IsPushing-step node e {more_roots} {more_made} is grows adds =
        let before = so_far.grows in
        let size : node.size ≡ (get_or twigs count e).size = ap (λ (t : Twig). t.size) is in
        record {
          done = so_far.done ++ tree ∷ [];
          rest = others;
          block = end_block_of tree.depth tree.offset;
          split = append_assoc so_far.done (tree ∷ []) others ∙ split;
          many_done = omega (arith, so_far.many_done, length-append so_far.done (tree ∷ []));
          tile = tile.1;
          grows = record {
            shape = grows.shape;
            bytes = omega (arith, grows.bytes, before.bytes, size, sum_by_more (λ (t : Twig). t.size) twigs count e less);
            many = omega (arith, grows.many, before.many);
            roots_fit = grows.roots_fit;
            made_fit = λ fits. grows.made_fit (before.made_fit fits);
          };
          adds = λ values trees joined all.
              let so = so_far.adds values trees joined all in
              let join = all_has (JoinsAt values) so_far.done tree others (subst (AllByRecursion (JoinsAt values)) (sym split) joined.joins) in
              let value : values tree.depth tree.offset ≡ Some (twig_of node) = value_there values e joined.at_trees ∙ ap Some (sym is) in
              let at_first = subst (λ (n : ℕ). AreOf values n (trees ++ made_by so_far.done) roots made) (sym tile.0) so in
              let more : (trees ++ made_by so_far.done) ++ ending_with tree ≡ trees ++ made_by (so_far.done ++ tree ∷ []) =
              flat_map_more ending_with trees so_far.done tree in
              subst (λ (ts : List Subtree). AreOf values (end_block_of tree.depth tree.offset) ts more_roots more_made) more
              (adds values (trees ++ made_by so_far.done) join value at_first);
        }

  -- ---- all of them

  module _ (all : length twigs ≤ count) where
    none_left : (rest : List Subtree) → length rest ≡ 0 → rest ≡ []
    none_left [] none = refl
    none_left (tree ∷ trees) none = absurd (omega (arith, none))

    nothing : so_far.rest ≡ []
    nothing = none_left so_far.rest (omega (arith, lengths, twig_each, all))

    at_end : so_far.block ≡ end
    at_end = subst (λ (ts : List Subtree). Tile ts so_far.block end) nothing so_far.tile

    pub Grows-all : Grows end (twig_bytes twigs) (length twigs) old_roots roots old_made made
    Grows-all =
        let many : count ≡ length twigs = omega (arith, lengths, twig_each, all) in
        let taken : take count twigs ≡ twigs = take_all count twigs all in
        subst (λ (n : ℕ). Grows end (twig_bytes twigs) n old_roots roots old_made made) many
        (subst (λ (ts : List Twig). Grows end (twig_bytes ts) count old_roots roots old_made made) taken
        (subst (λ (n : ℕ). Grows n (twig_bytes (take count twigs)) count old_roots roots old_made made) at_end so_far.grows))

    pub adds-all : (values : Values) (trees : List Subtree) → AreJoined values (cover_of start end) twigs
        → AreOf values start trees old_roots old_made → AreOf values end (trees ++ made_by (cover_of start end)) roots made
    adds-all values trees joined old =
        let whole : so_far.done ≡ cover_of start end =
        sym (append-nil so_far.done) ∙ ap (λ (ts : List Subtree). so_far.done ++ ts) (sym nothing) ∙ so_far.split in
        subst (λ (ts : List Subtree). AreOf values end (trees ++ made_by ts) roots made) whole
        (subst (λ (n : ℕ). AreOf values n (trees ++ made_by so_far.done) roots made) at_end (so_far.adds values trees joined old))
