-- Nodes that are read of the tree area, one after the other, and what is in memory then.
use Rattle.std.proofs.Common.{◌≡◌, inl, inr, ℕ, ◌+◌, ◌*◌, ◌-◌, ◌<◌, ◌≤◌, min, Bool, true, false, List, [], ◌∷◌, ◌++◌, length, map, take, drop, replicate, Option, Some, None, Result, Ok, Err, refl, sym, ap, subst, ◌∙◌, arith, nat_lt, if◌then◌else◌}
use Rattle.std.specs.Prelude.{is_some, not, ◌&&◌, OnOk, OnErr, IfErr}
use Rattle.std.specs.Int.{w64, from_le_bytes}
use Rattle.std.specs.Option.{option_map}
use Rattle.std.proofs.lemmas.Bool.{cases_Bool, cases_eq, cases_lt, eq-eqb, ne_eqb, lt-ltb, le-ltb, and_parts}
use Rattle.std.proofs.lemmas.List.{append-nil, take_all, take-append-le, take-replicate, drop-replicate, length-drop, length-replicate}
use Rattle.std.proofs.lemmas.Nat.{pow_pos}
use Rattle.std.proofs.Math.Seq.{take-append-add}
use Rattle.flat_tree.specs.Subtrees.{Subtree, Tile, number, numbers_of, end_block_of}
use Rattle.flat_tree.specs.Roots.{full_roots_of}
use Rattle.flat_tree.proofs.NumberLemmas.{number_first, number_below, end_first, some_number}
use Rattle.flat_tree.proofs.RootLemmas.{tile-full}
use Rattle.flat_tree.specs.declared.limits.TheConstants.{MAX_CORE_BYTES}
use Rattle.disk_trait.specs.Disk.{ReadsAt}
use Rattle.bit_field.specs.Places.{has}
use Rattle.merkle_nodes.specs.declared.node.Node.{Node}
use Rattle.merkle_nodes.specs.declared.node.Twig.{Twig}
use Rattle.merkle_nodes.specs.Joined.{Values, or_value}
use Rattle.merkle_nodes.specs.Roots.{twig_of, node_of, HasShape}
use Rattle.node_set.specs.declared.fault.CoreFault.{CoreFault}
use Rattle.node_set.specs.declared.fault.CoreFault.TheVariants.{Memory, StoreFault, BadStore}
use Rattle.node_set.specs.Contents.{twig_at, node_at, roots_at}
use Rattle.node_set.specs.Closure.{in_closure}
use Rattle.node_set.specs.Nodes.{NodePages, values_of, with_node, with_nodes}
use Rattle.node_set.proofs.StoredTest.{past_closure}
use Rattle.node_set.proofs.RootTruth.{twig_at-some}
use Rattle.core_state.proofs.AdmitShows.{put_over}
use Rattle.core_disk.specs.declared.layout.TheConstants.{NODE_BYTES}
use Rattle.core_disk.specs.declared.replay.TheConstants.{MAX_NODES}
use Rattle.core_disk.specs.Opened.{Opened, values_in}
use Rattle.core_disk.specs.Areas.{read_at, twig_from, tree_values}
use Rattle.core_disk.specs.InHand.{InHand, opened_of, IsKept}
use Rattle.core_disk.specs.Filling.{over_tree, rooted, is_too_large, IsFirstLarge, IsFilled, Fills, AreSmall, KeepsValues, tree_twig, ChecksSize, ReadsNode, is_lacking, LackSmall, FillsAt, HasFilled, LacksFirst, FillsAll}
use Rattle.core_disk.proofs.LoadLemmas.{put_on, small_in, small_over}

-- ---- bytes of the area

-- what is read to the front of zeros is what is read with zeros past the end
pub read_zeros : (area : List ℕ) (at count n : ℕ) → n ≡ min count (length area - at) → take n (drop at area) ++ drop n (replicate count 0) ≡ read_at area at count
read_zeros area at count n is =
    let rest = drop at area in
    let long : length rest ≡ length area - at = length-drop at area in
    elim (cases_lt (length rest) count) [
      | inl less ↦
          let all : n ≡ length rest = omega (arith, is, long, less) in
          let split : count ≡ length rest + (count - n) = omega (arith, all, less) in
          let zeros : take (count - n) (replicate count 0) ≡ replicate (count - n) 0 = take-replicate (count - n) count 0 (omega arith) in
          ap (λ (l : List ℕ). l ++ drop n (replicate count 0)) (take_all n rest (omega (arith, all)))
          ∙ ap (λ (l : List ℕ). rest ++ l) (drop-replicate n count 0 ∙ sym zeros)
          ∙ sym (take-append-add rest (replicate count 0) (count - n))
          ∙ ap (λ (k : ℕ). take k (rest ++ replicate count 0)) (sym split)
      | inr enough ↦
          let whole : n ≡ count = omega (arith, is, long, enough) in
          let none : count - count ≡ 0 = omega arith in
          ap (λ (k : ℕ). take k rest ++ drop k (replicate count 0)) whole
          ∙ ap (λ (l : List ℕ). take count rest ++ l) (drop-replicate count count 0 ∙ ap (λ (k : ℕ). replicate k 0) none)
          ∙ append-nil (take count rest)
          ∙ sym (take-append-le count rest (replicate count 0) enough)
    ]

-- the bytes of a node
pub twig_as : (bytes : List ℕ) (size : ℕ) (hash : List ℕ) → size ≡ from_le_bytes w64 (take 8 bytes) → hash ≡ drop 8 bytes
    → record { size = size; hash = hash } ≡ twig_from bytes
twig_as bytes size hash size_is hash_is = ap (λ (s : ℕ). twig_with s hash) size_is ∙ ap (twig_with (from_le_bytes w64 (take 8 bytes))) hash_is
  where
    twig_with : ℕ → List ℕ → Twig
    twig_with size hash = record { size = size; hash = hash }

-- a node that was read and whose size was looked at
pub node_read : (tree : List ℕ) (index at n : ℕ) (into bytes : List ℕ) (twig : Twig) (node : Node) (r : Result Node CoreFault) → at ≡ NODE_BYTES * index
    → into ≡ replicate NODE_BYTES 0 → ReadsAt at tree into bytes n → twig ≡ twig_from bytes → node ≡ record { index = index; size = twig.size; hash = twig.hash }
    → ChecksSize at node r → ReadsNode tree index r
node_read tree index at n into bytes twig node r at_is zeros reads twig_is node_is checks = by_answer r checks
  where
    bytes_are : bytes ≡ read_at tree (NODE_BYTES * index) NODE_BYTES
    bytes_are =
        reads.bytes ∙ ap (λ (l : List ℕ). take n (drop at tree) ++ drop n l) zeros
        ∙ read_zeros tree at NODE_BYTES n (reads.count ∙ ap (λ (l : List ℕ). min (length l) (length tree - at)) zeros ∙ ap (λ (k : ℕ). min k (length tree - at)) (length-replicate {A = ℕ} NODE_BYTES 0))
        ∙ ap (λ (k : ℕ). read_at tree k NODE_BYTES) at_is

    same : twig_of node ≡ tree_twig tree index
    same = ap twig_of node_is ∙ twig_is ∙ ap twig_from bytes_are

    by_answer : (r : Result Node CoreFault) → ChecksSize at node r → ReadsNode tree index r
    by_answer (Ok own) checks = (
      ap (λ (x : Node). x.index) (checks.0 ∙ node_is),
      ap twig_of checks.0 ∙ same,
      subst (λ (x : Node). x.size ≤ MAX_CORE_BYTES) (sym checks.0) checks.1,
    )
    by_answer (Err (BadStore area place)) checks =
        (checks.0, checks.1 ∙ at_is, subst (λ (t : Twig). MAX_CORE_BYTES < t.size) same checks.2)
    by_answer (Err other) checks = absurd checks

-- ---- one node

module _ (tree : List ℕ) (n : ℕ) (held : ℕ → Bool) (index : ℕ) (old : Values) where
  -- where no node of the number lacks, nothing is to be filled
  pub fills_none : ((depth offset : ℕ) → number depth offset ≡ index → is_lacking n held old depth offset ≡ false) → FillsAt tree n held index old old (Ok tt)
  fills_none none = (
    λ depth offset. elim (cases_eq index (number depth offset)) [
      | inl here ↦ rw (none depth offset (sym here), eq-eqb index (number depth offset) here) refl
      | inr other ↦ rw (ne_eqb index (number depth offset) other) refl
    ],
    λ depth offset here lacks. let clash : true ≡ false = sym lacks ∙ none depth offset here in absurd (cc),
  )

  module _ (lacks : (depth offset : ℕ) → number depth offset ≡ index → is_lacking n held old depth offset ≡ true) where
    pub fills_one : (node : Node) (new : Values) → ReadsNode tree index (Ok node) → new ≡ with_node old node → FillsAt tree n held index old new (Ok tt)
    fills_one node new reads put = (
      λ depth offset. elim (cases_eq index (number depth offset)) [
        | inl here ↦
            ap (λ (v : Values). v depth offset) put
            ∙ rw (lacks depth offset (sym here), eq-eqb index (number depth offset) here, eq-eqb node.index (number depth offset) (reads.0 ∙ here))
            (ap Some reads.1 ∙ ap (λ (k : ℕ). Some (tree_twig tree k)) here)
        | inr other ↦
            ap (λ (v : Values). v depth offset) put
            ∙ rw (ne_eqb index (number depth offset) other, ne_eqb node.index (number depth offset) (λ same. other (sym reads.0 ∙ same))) refl
      ],
      λ depth offset here lack. subst (λ (t : Twig). t.size ≤ MAX_CORE_BYTES) reads.1 reads.2,
    )

    pub fills_bad : (fault : CoreFault) (new : Values) → ReadsNode tree index (Err fault) → FillsAt tree n held index old new (Err fault)
    fills_bad StoreFault new told = tt
    fills_bad (BadStore area at) new told = (told.0, record { lacking = lacks; large = told.2; at_is = told.1 })
    fills_bad other new told = absurd told

-- no node of a number is there
pub none_there : (index : ℕ) (old : Values) (found : Option Node) → is_some found ≡ false
    → ((depth offset : ℕ) → number depth offset ≡ index → option_map twig_of found ≡ old depth offset)
    → (depth offset : ℕ) → number depth offset ≡ index → old depth offset ≡ None
none_there index old None none told depth offset here = sym (told depth offset here)
none_there index old (Some node) none told depth offset here = absurd (cc)

pub lacks_there : (n : ℕ) (held : ℕ → Bool) (index : ℕ) (old : Values) → ((depth offset : ℕ) → number depth offset ≡ index → in_closure n held depth offset ≡ true)
    → ((depth offset : ℕ) → number depth offset ≡ index → old depth offset ≡ None)
    → (depth offset : ℕ) → number depth offset ≡ index → is_lacking n held old depth offset ≡ true
lacks_there n held index old closed none depth offset here =
    ap (λ (b : Bool). b && not (is_some (old depth offset))) (closed depth offset here) ∙ ap (λ (v : Option Twig). not (is_some v)) (none depth offset here)

-- a node is put in, or memory lacks
pub put_keeps_all : (old new : Values) (node : Node) (r : Result (Unit {0}) CoreFault) → OnOk r (new ≡ with_node old node) → OnErr r (new ≡ old)
    → ((depth offset : ℕ) → number depth offset ≡ node.index → old depth offset ≡ None) → KeepsValues old new
put_keeps_all old new node (Err fault) ok err none depth offset twig there = ap (λ (v : Values). v depth offset) err ∙ there
put_keeps_all old new node (Ok x) ok err none depth offset twig there = ap (λ (v : Values). v depth offset) ok ∙ (elim (cases_eq node.index (number depth offset)) [
  | inl here ↦ let clash : None ≡ Some twig = sym (none depth offset (sym here)) ∙ there in absurd (cc)
  | inr other ↦ rw (ne_eqb node.index (number depth offset) other) there
])

pub fills_put : (tree : List ℕ) (n : ℕ) (held : ℕ → Bool) (index : ℕ) (old new : Values) (node : Node) (r : Result (Unit {0}) CoreFault)
    → ((depth offset : ℕ) → number depth offset ≡ index → is_lacking n held old depth offset ≡ true) → ReadsNode tree index (Ok node)
    → OnOk r (new ≡ with_node old node) → IfErr r (λ fault. fault ≡ Memory) → FillsAt tree n held index old new r
fills_put tree n held index old new node (Ok x) lacks reads ok memory = fills_one tree n held index old lacks node new reads ok
fills_put tree n held index old new node (Err fault) lacks reads ok memory = subst (λ (f : CoreFault). FillsAt tree n held index old new (Err f)) (sym memory) tt

-- ---- all nodes

module _ (tree : List ℕ) (n : ℕ) (held : ℕ → Bool) (old : Values) where
  pub filled_none : HasFilled tree n held 0 old old
  filled_none = record {
    values = λ depth offset. rw (le-ltb (number depth offset) 0 (omega arith)) refl;
    small = λ depth offset less lacks. absurd (omega (arith, less));
  }

  -- below a number the values are as they were from there on
  from_here : (end : ℕ) (mid : Values) → HasFilled tree n held end old mid → (depth offset : ℕ) → end ≤ number depth offset → mid depth offset ≡ old depth offset
  from_here end mid so_far depth offset past = so_far.values depth offset ∙ rw (le-ltb (number depth offset) end past) refl

  lacks_same : (end : ℕ) (mid : Values) → HasFilled tree n held end old mid → (depth offset : ℕ) → end ≤ number depth offset
      → is_lacking n held mid depth offset ≡ is_lacking n held old depth offset
  lacks_same end mid so_far depth offset past =
      ap (λ (v : Option Twig). in_closure n held depth offset && not (is_some v)) (from_here end mid so_far depth offset past)

  pub filled_more : (index : ℕ) (mid new : Values) → HasFilled tree n held index old mid → FillsAt tree n held index mid new (Ok tt)
      → HasFilled tree n held (index + 1) old new
  filled_more index mid new so_far fills = record {
    values = λ depth offset. fills.0 depth offset ∙ (elim (cases_eq index (number depth offset)) [
      | inl here ↦
          rw (eq-eqb index (number depth offset) here, lt-ltb (number depth offset) (index + 1) (omega (arith, here)))
          (ap (λ (b : Bool). if b then tree_values tree depth offset else mid depth offset) (lacks_same index mid so_far depth offset (omega (arith, here)))
          ∙ ap (λ (v : Option Twig). if is_lacking n held old depth offset then tree_values tree depth offset else v) (from_here index mid so_far depth offset (omega (arith, here))))
      | inr other ↦
          rw (ne_eqb index (number depth offset) other)
          (so_far.values depth offset
          ∙ ap (λ (b : Bool). if b && is_lacking n held old depth offset then tree_values tree depth offset else old depth offset) (same_test depth offset other))
    ]);
    small = λ depth offset less lacks. elim (cases_lt (number depth offset) index) [
      | inl below ↦ so_far.small depth offset below lacks
      | inr past ↦
          let here : number depth offset ≡ index = omega (arith, less, past) in
          subst (λ (k : ℕ). (tree_twig tree k).size ≤ MAX_CORE_BYTES) (sym here)
          (fills.1 depth offset here (lacks_same index mid so_far depth offset (omega (arith, here)) ∙ lacks))
    ];
  }
    where
      same_test : (depth offset : ℕ) → (index ≡ number depth offset → ⊥) → nat_lt (number depth offset) index ≡ nat_lt (number depth offset) (index + 1)
      same_test depth offset other = elim (cases_lt (number depth offset) index) [
        | inl less ↦ lt-ltb (number depth offset) index less ∙ sym (lt-ltb (number depth offset) (index + 1) (omega (arith, less)))
        | inr past ↦ le-ltb (number depth offset) index past
            ∙ sym (le-ltb (number depth offset) (index + 1) (elim (cases_eq index (number depth offset)) [
              | inl same ↦ absurd (other same)
              | inr apart ↦ omega (arith, past, apart)
            ]))
      ]

  pub filled_bad : (index : ℕ) (mid new : Values) (fault : CoreFault) → index < 2 * n → HasFilled tree n held index old mid
      → FillsAt tree n held index mid new (Err fault) → FillsAll tree n held old new (Err fault)
  filled_bad index mid new Memory below so_far told = tt
  filled_bad index mid new StoreFault below so_far told = tt
  filled_bad index mid new (BadStore area at) below so_far told = (
    told.0,
    record {
      index = index;
      below = below;
      large = record {
        lacking = λ depth offset here. sym (lacks_same index mid so_far depth offset (omega (arith, here))) ∙ told.1.lacking depth offset here;
        large = told.1.large;
        at_is = told.1.at_is;
      };
      small = so_far.small;
    },
  )
  filled_bad index mid new other below so_far told = absurd told

-- ---- roots that are put in

abbrev indexes : List Node → List ℕ
indexes nodes = map (λ (node : Node). node.index) nodes

-- nodes of subtrees that tile blocks from some place on leave the numbers of the blocks before
put_past : (nodes : List Node) (trees : List Subtree) (from to : ℕ) (start : Values) (depth offset : ℕ) → indexes nodes ≡ numbers_of trees → Tile trees from to
    → number depth offset < 2 * from → with_nodes start nodes depth offset ≡ start depth offset
unfolding with_nodes
put_past [] trees from to start depth offset shape tile less = refl
put_past (node ∷ nodes) [] from to start depth offset shape tile less = cc
put_past (node ∷ nodes) (tree ∷ trees) from to start depth offset shape tile less =
    let here : node.index ≡ number tree.depth tree.offset = cc in
    let rest : indexes nodes ≡ numbers_of trees = cc in
    let above : 2 * from ≤ node.index = omega (arith, here, tile.0, number_first tree.depth tree.offset, pow_pos tree.depth) in
    put_past nodes trees (end_block_of tree.depth tree.offset) to (with_node start node) depth offset rest tile.1
    (omega (arith, less, tile.0, end_first tree.depth tree.offset))
    ∙ rw (ne_eqb node.index (number depth offset) (λ same. absurd (omega (arith, same, above, less)))) refl

-- they are there under their numbers
put_there : (trees : List Subtree) (nodes : List Node) (from to : ℕ) (start value : Values) → indexes nodes ≡ numbers_of trees → Tile trees from to
    → KeepsValues (with_nodes start nodes) value → nodes ≡ map (λ (tree : Subtree). node_at value tree.depth tree.offset) trees
unfolding with_nodes
put_there [] [] from to start value shape tile keeps = refl
put_there [] (node ∷ nodes) from to start value shape tile keeps = cc
put_there (tree ∷ trees) [] from to start value shape tile keeps = cc
put_there (tree ∷ trees) (node ∷ nodes) from to start value shape tile keeps =
    let d = tree.depth in
    let o = tree.offset in
    let here : node.index ≡ number d o = cc in
    let rest : indexes nodes ≡ numbers_of trees = cc in
    let put : with_nodes (with_node start node) nodes d o ≡ Some (twig_of node) =
    put_past nodes trees (end_block_of d o) to (with_node start node) d o rest tile.1 (number_below d o) ∙ rw (eq-eqb node.index (number d o) here) refl in
    let value_is : twig_at value d o ≡ twig_of node = twig_at-some value d o (twig_of node) (keeps d o (twig_of node) put) in
    let first : node ≡ node_at value d o = ap (λ (i : ℕ). record { index = i; size = node.size; hash = node.hash }) here ∙ ap (node_of d o) (sym value_is) in
    ap (λ (x : Node). x ∷ nodes) first
    ∙ ap (λ (ns : List Node). node_at value d o ∷ ns) (put_there trees nodes (end_block_of d o) to (with_node start node) value rest tile.1 keeps)

pub roots_there : (roots : List Node) (n : ℕ) (start value : Values) → HasShape roots n → KeepsValues (with_nodes start roots) value → roots ≡ roots_at value n
roots_there roots n start value shape keeps = put_there (full_roots_of n) roots 0 n start value shape (tile-full n) keeps

-- ---- what is in memory

pub on_any : {X : Type 0} (r : Result (Unit {0}) CoreFault) → X → OnOk r X
on_any (Ok y) x = x
on_any (Err fault) x = tt

module _ (hand : InHand) (kept : IsKept hand) (tree : List ℕ) (small : AreSmall (values_of hand.nodes)) where
  abbrev n : ℕ
  n = hand.head.length

  abbrev held : ℕ → Bool
  held = has hand.held

  abbrev over : Opened
  over = over_tree tree (opened_of hand)

  abbrev before : Values
  before = with_nodes (values_of hand.nodes) hand.roots

  -- the roots over the records over the area's nodes
  rooted_is : (depth offset : ℕ) → rooted over depth offset ≡ or_value (before depth offset) (tree_values tree depth offset)
  rooted_is depth offset =
      put_over hand.roots over.nodes depth offset
      ∙ put_on hand.roots (values_of hand.nodes) (tree_values tree) depth offset
      ∙ ap (λ (v : Option Twig). or_value v (tree_values tree depth offset)) (sym (put_over hand.roots (values_of hand.nodes) depth offset))

  before_small : (depth offset : ℕ) (twig : Twig) → number depth offset < MAX_NODES → before depth offset ≡ Some twig → twig.size ≤ MAX_CORE_BYTES
  before_small depth offset twig low is =
      small_over (values_in hand.roots depth offset) (values_of hand.nodes depth offset) twig
      (small_in hand.roots depth offset twig kept.sizes)
      (small depth offset twig low)
      (sym (put_over hand.roots (values_of hand.nodes) depth offset) ∙ is)

  closure_below : (depth offset : ℕ) → in_closure n held depth offset ≡ true → number depth offset < 2 * n
  closure_below depth offset closed = elim (cases_lt (number depth offset) (2 * n)) [
    | inl less ↦ less
    | inr past ↦ let clash : true ≡ false = sym closed ∙ past_closure n held depth offset past in absurd (cc)
  ]

  -- the size of a node with its value
  large_as : (depth offset : ℕ) (value : Option Twig) (twig : Twig) → in_closure n held depth offset ≡ true → before depth offset ≡ value
      → or_value value (tree_values tree depth offset) ≡ Some twig → is_too_large over depth offset ≡ nat_lt MAX_CORE_BYTES twig.size
  large_as depth offset value twig closed is whole =
      let rooted_value : rooted over depth offset ≡ Some twig =
      rooted_is depth offset ∙ ap (λ (v : Option Twig). or_value v (tree_values tree depth offset)) is ∙ whole in
      ap (λ (b : Bool). b && nat_lt MAX_CORE_BYTES (twig_at (rooted over) depth offset).size) closed
      ∙ ap (λ (t : Twig). nat_lt MAX_CORE_BYTES t.size) (twig_at-some (rooted over) depth offset twig rooted_value)

  -- where those that lack are no larger than a core, no node is
  pub none_large : (end depth offset : ℕ) → LackSmall tree n held end before → number depth offset < end → is_too_large over depth offset ≡ false
  none_large end depth offset lack less = elim (cases_Bool (in_closure n held depth offset)) [
    | inr apart ↦ ap (λ (b : Bool). b && nat_lt MAX_CORE_BYTES (twig_at (rooted over) depth offset).size) apart
    | inl closed ↦ by_value closed (before depth offset) refl
  ]
    where
      by_value : in_closure n held depth offset ≡ true → (value : Option Twig) → before depth offset ≡ value → is_too_large over depth offset ≡ false
      by_value closed (Some twig) is =
          large_as depth offset (Some twig) twig closed is refl
          ∙ le-ltb MAX_CORE_BYTES twig.size (before_small depth offset twig (omega (arith, closure_below depth offset closed, kept.blocks)) is)
      by_value closed None is =
          let lacks : is_lacking n held before depth offset ≡ true =
          ap (λ (b : Bool). b && not (is_some (before depth offset))) closed ∙ ap (λ (v : Option Twig). not (is_some v)) is in
          large_as depth offset None (tree_twig tree (number depth offset)) closed is refl
          ∙ le-ltb MAX_CORE_BYTES (tree_twig tree (number depth offset)).size (lack depth offset less lacks)

  -- a node that is to be stored and isn't there
  record Lacks (depth offset : ℕ) : Type 0 where
    closed : in_closure n held depth offset ≡ true
    none : before depth offset ≡ None

  lacks_parts : (depth offset : ℕ) → is_lacking n held before depth offset ≡ true → Lacks depth offset
  lacks_parts depth offset lacks =
      let parts = and_parts (in_closure n held depth offset) (not (is_some (before depth offset))) lacks in
      record { closed = parts.0; none = by_value (before depth offset) parts.1 }
    where
      by_value : (value : Option Twig) → not (is_some value) ≡ true → value ≡ None
      by_value None is = refl
      by_value (Some twig) is = absurd (cc)

  pub is_filled : (nodes : NodePages) → HasFilled tree n held (2 * n) before (values_of nodes)
      → IsFilled (over_tree tree (opened_of hand)) (opened_of (record { head = hand.head; roots = hand.roots; held = hand.held; nodes = nodes }))
  is_filled nodes filled = record {
    head = refl;
    roots = refl;
    held = λ index. refl;
    nodes = λ depth offset closed.
        filled.values depth offset
        ∙ ap (λ (b : Bool). if b && is_lacking n held before depth offset then tree_values tree depth offset else before depth offset)
        (lt-ltb (number depth offset) (2 * n) (closure_below depth offset closed))
        ∙ ap (λ (b : Bool). if b && not (is_some (before depth offset)) then tree_values tree depth offset else before depth offset) closed
        ∙ by_value depth offset (before depth offset)
        ∙ sym (rooted_is depth offset);
    small = λ depth offset. elim (cases_lt (number depth offset) (2 * n)) [
      | inl less ↦ none_large (2 * n) depth offset filled.small less
      | inr past ↦ ap (λ (b : Bool). b && nat_lt MAX_CORE_BYTES (twig_at (rooted over) depth offset).size) (past_closure n held depth offset past)
    ];
  }
    where
      by_value : (depth offset : ℕ) (value : Option Twig)
          → (if not (is_some value) then tree_values tree depth offset else value) ≡ or_value value (tree_values tree depth offset)
      by_value depth offset None = refl
      by_value depth offset (Some twig) = refl

  pub is_first_large : (at : ℕ) → LacksFirst tree n held before at → IsFirstLarge (over_tree tree (opened_of hand)) at
  is_first_large at lacks =
      let place = some_number lacks.index in
      let d = place.0 in
      let o = place.1.0 in
      let here : number d o ≡ lacks.index = sym place.1.1 in
      let parts = lacks_parts d o (lacks.large.lacking d o here) in
      record {
        depth = d;
        offset = o;
        at_is = lacks.large.at_is ∙ ap (λ (k : ℕ). NODE_BYTES * k) (sym here);
        large = large_as d o None (tree_twig tree (number d o)) parts.closed parts.none refl
            ∙ lt-ltb MAX_CORE_BYTES (tree_twig tree (number d o)).size (subst (λ (k : ℕ). MAX_CORE_BYTES < (tree_twig tree k).size) (sym here) lacks.large.large);
        first = λ e p less. none_large lacks.index e p lacks.small (omega (arith, less, here));
      }

  -- what the whole answers
  pub fills_as : (now : NodePages) (r : Result (Unit {0}) CoreFault) → FillsAll tree n held before (values_of now) r
      → Fills tree (opened_of hand) (opened_of (record { head = hand.head; roots = hand.roots; held = hand.held; nodes = now })) r
  fills_as now (Ok x) told = is_filled now told
  fills_as now (Err Memory) told = tt
  fills_as now (Err StoreFault) told = tt
  fills_as now (Err (BadStore area at)) told = (told.0, is_first_large at told.1)
  fills_as now (Err other) told = absurd told
