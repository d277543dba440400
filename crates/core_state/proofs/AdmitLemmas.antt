-- What a proof brings to parts in memory.
use Rattle.std.proofs.Common.{◌≡◌, ◌≢◌, ℕ, append_assoc, Bool, true, false, ◌+◌, ◌-◌, ◌<◌, ◌≤◌, inl, inr, List, [], ◌∷◌, ◌++◌, length, length-append, replicate, Option, Some, None, refl, sym, ap, subst, ◌∙◌, arith, nat_lt, nat_eq, slice_get, slice_set}
use Rattle.std.specs.Prelude.{◌⊎◌, ◌||◌, ◌&&◌, is_some, is_none, IfSome, if◌then◌else◌}
use Rattle.std.specs.List.{AllByRecursion}
use Rattle.std.proofs.lemmas.Bool.{cases_Bool, cases_eq, eq-eqb, ne_eqb, eqb-true, or_cases, ltb-false}
use Rattle.std.proofs.lemmas.List.{length-set, length-replicate, replicate-append-replicate, get_or-set_same, get_or-set_other}
use Rattle.std.proofs.lemmas.Option.{slice_get-get_or}
use Rattle.std.proofs.Math.Bool.{and-true}
use Rattle.std.proofs.Math.ListN.{get_or-append}
use Rattle.flat_tree.specs.Subtrees.{number, end_block_of}
use Rattle.flat_tree.proofs.NumberLemmas.{some_number, leaf}
use Rattle.bit_field.specs.Places.{has}
use Rattle.merkle_nodes.specs.declared.node.Node.{Node}
use Rattle.merkle_nodes.specs.declared.node.Twig.{Twig}
use Rattle.merkle_nodes.specs.declared.roots.Head.{Head}
use Rattle.merkle_nodes.specs.Joined.{Values}
use Rattle.merkle_nodes.specs.Roots.{root_hash_of}
use Rattle.proof_form.specs.declared.proof.UpgradePart.{UpgradePart}
use Rattle.proof_form.specs.Proofs.{Proof, Block}
use Rattle.node_set.specs.declared.change.Change.{Change}
use Rattle.node_set.specs.Contents.{Content, held, holds, roots}
use Rattle.node_set.specs.Nodes.{values_of, with_node, with_nodes, has_place}
use Rattle.node_set.specs.Tables.{shown}
use Rattle.node_set.specs.Whole.{IsSound, KeepsLimits, IsWhole}
use Rattle.proof_check.specs.Upgraded.{with_upgrade, length_after}
use Rattle.proof_check.specs.Parts.{of_part, part_of_block, range_refusal}
use Rattle.node_set.specs.declared.fault.Refusal.TheVariants.{NewFork}
use Rattle.proof_check.specs.Judge.{refusal_of, fork_refusal, fetched, admitted}
use Rattle.proof_check.specs.Admission.{IsServed, IsAdmission, stays}
use Rattle.proof_check.proofs.AdmitWhole.{IsUnrefused, unrefused, goes_on, upgraded_length, admitted_whole}
use Rattle.proof_check.proofs.Refusing.{first_none, second_none, not_refused}
use Rattle.core_state.specs.InMemory.{Stored, content_of, IsKept}
use Rattle.core_state.specs.Reserves.{HasRoom, Suffices, blocks_put, held_put}
use Rattle.core_state.specs.Turns.{Brings}
use Rattle.core_state.proofs.ShownLemmas.{FitParts, shown_held}
use Rattle.core_state.proofs.AdmitShows.{no_values, admit_shows}

-- ---- the places of nodes

-- what is there stays where nodes are put in
stays_some : (nodes : List Node) (start : Values) (depth offset : ℕ) → is_some (start depth offset) ≡ true → is_some (with_nodes start nodes depth offset) ≡ true
unfolding with_nodes
stays_some [] start depth offset some = some
stays_some (node ∷ nodes) start depth offset some = stays_some nodes (with_node start node) depth offset (elim (cases_eq node.index (number depth offset)) [
  | inl here ↦ rw (eq-eqb node.index (number depth offset) here) refl
  | inr other ↦ rw (ne_eqb node.index (number depth offset) other) some
])

-- what holds of the number of each node that is put in holds of each of them
all_numbers : (P : ℕ → Type 0) (nodes : List Node) (start : Values) → ((depth offset : ℕ) → is_some (with_nodes start nodes depth offset) ≡ true → P (number depth offset))
    → AllByRecursion (λ (node : Node). P node.index) nodes
unfolding with_nodes
all_numbers P [] start each = tt
all_numbers P (node ∷ nodes) start each =
    let at = some_number node.index in
    let own : is_some (with_node start node at.0 at.1.0) ≡ true = rw (eq-eqb node.index (number at.0 at.1.0) at.1.1) refl in
    (subst P (sym at.1.1) (each at.0 at.1.0 (stays_some nodes (with_node start node) at.0 at.1.0 own)), all_numbers P nodes (with_node start node) each)

-- and back
number_of_all : (P : ℕ → Type 0) (nodes : List Node) (start : Values) (depth offset : ℕ) → AllByRecursion (λ (node : Node). P node.index) nodes
    → is_some (with_nodes start nodes depth offset) ≡ true → (is_some (start depth offset) ≡ true) ⊎ P (number depth offset)
unfolding with_nodes
number_of_all P [] start depth offset all some = inl some
number_of_all P (node ∷ nodes) start depth offset all some = elim (number_of_all P nodes (with_node start node) depth offset all.1 some) [
  | inr holds ↦ inr holds
  | inl before ↦ elim (cases_eq node.index (number depth offset)) [
    | inl here ↦ inr (subst P here all.0)
    | inr other ↦ let was : with_node start node depth offset ≡ start depth offset = rw (ne_eqb node.index (number depth offset) other) refl in inl (ap is_some (sym was) ∙ before)
  ]
]

-- the test of a value that stays out
out_none : (test : Bool) (value : Option Twig) → is_some (if test then None else value) ≡ true → (test ≡ false) × (is_some value ≡ true)
out_none true value some = let clash : false ≡ true = some in cc
out_none false value some = (refl, some)

module _ (s : Stored) (p : Proof) (change : Change) (is_change : IsAdmission p (content_of s) change) where
  abbrev has_node : ℕ → Type 0
  has_node index = has_place s.parts.nodes index ≡ true

  fresh_places : ((depth offset : ℕ) → is_some ((admitted p (content_of s)).node depth offset) ≡ true → stays p (content_of s) depth offset ≡ false → has_node (number depth offset))
      → AllByRecursion (λ (node : Node). has_node node.index) change.fresh
  fresh_places each = all_numbers has_node change.fresh no_values (λ depth offset some.
      let parts = out_none (stays p (content_of s) depth offset) ((admitted p (content_of s)).node depth offset) (ap is_some (sym (is_change.fresh depth offset)) ∙ some) in
      each depth offset parts.1 parts.0)

  places_fresh : AllByRecursion (λ (node : Node). has_node node.index) change.fresh → (depth offset : ℕ) → is_some ((admitted p (content_of s)).node depth offset) ≡ true
      → stays p (content_of s) depth offset ≡ false → has_node (number depth offset)
  places_fresh all depth offset some new =
      let there : is_some (with_nodes no_values change.fresh depth offset) ≡ true =
      ap is_some (is_change.fresh depth offset) ∙ rw new some in
      elim (number_of_all has_node change.fresh no_values depth offset all there) [
        | inl none ↦ let clash : false ≡ true = none in cc
        | inr holds ↦ holds
      ]

-- the length after an admission
pub admitted_length : (p : Proof) (m : Content) → p.fork ≤ m.fork → (admitted p m).length ≡ length_after p m
admitted_length p m no_greater = ByBlock p.block refl ∙ upgraded_length p m no_greater
  where
    ByBlock : (block : Option Block) → p.block ≡ block → (admitted p m).length ≡ (with_upgrade p m).length
    ByBlock None is = rw is refl
    ByBlock (Some b) is = elim (cases_Bool (held (with_upgrade p m) b.index)) [ inl here ↦ rw (is, here) refl | inr new ↦ rw (is, new) refl ]

-- room for the proof is room for its change, and back
pub room_suffices : (s : Stored) (p : Proof) (change : Change) → p.fork ≤ (content_of s).fork → IsAdmission p (content_of s) change → HasRoom s p → Suffices s p.block change
room_suffices s p change no_greater is_change room =
    let after = is_change.length ∙ admitted_length p (content_of s) no_greater in
    record {
      enough_places = omega (arith, after, room.places);
      enough_room = omega (arith, after, room.blocks);
      node_places = fresh_places s p change is_change room.nodes;
      block_place = room.block;
    }

pub suffices_room : (s : Stored) (p : Proof) (change : Change) → p.fork ≤ (content_of s).fork → IsAdmission p (content_of s) change → Suffices s p.block change → HasRoom s p
suffices_room s p change no_greater is_change room =
    let after = is_change.length ∙ admitted_length p (content_of s) no_greater in
    record {
      places = omega (arith, after, room.enough_places);
      blocks = omega (arith, after, room.enough_room);
      nodes = places_fresh s p change is_change room.node_places;
      block = room.block_place;
    }

-- ---- forks

-- a proof that is judged and not refused isn't of a greater fork
pub served_fork : (accepts : List ℕ → List ℕ → Bool) (p : Proof) (m : Content) → IsServed p m → refusal_of accepts p m ≡ None → p.fork ≤ m.fork
served_fork accepts p m served none = elim served [
  | inl no_greater ↦ no_greater
  | inr no_upgrade ↦
      let fork = first_none (fork_refusal p m) _ (unrefused accepts p m none).head in
      let both : (nat_lt m.fork p.fork && is_none p.upgrade) ≡ false = not_refused _ (NewFork m.fork) (second_none _ _ fork) in
      let alone : (nat_lt m.fork p.fork && true) ≡ false = subst (λ (upgrade : Option UpgradePart). (nat_lt m.fork p.fork && is_none upgrade) ≡ false) no_upgrade both in
      ltb-false m.fork p.fork (sym (and-true (nat_lt m.fork p.fork)) ∙ alone)
]

-- the length doesn't fall
pub after_longer : (accepts : List ℕ → List ℕ → Bool) (p : Proof) (m : Content) → p.fork ≤ m.fork → refusal_of accepts p m ≡ None → m.length ≤ length_after p m
after_longer accepts p m no_greater none = ByUpgrade p.upgrade refl
  where
    open_ : IsUnrefused accepts p m
    open_ = unrefused accepts p m none

    ByUpgrade : (upgrade : Option UpgradePart) → p.upgrade ≡ upgrade → m.length ≤ length_after p m
    ByUpgrade None up = rw up (omega arith)
    ByUpgrade (Some u) up = let on = goes_on p m u up no_greater open_.limit open_.head in rw up (omega (arith, on.longer))

-- the block is below it
pub block_below : (accepts : List ℕ → List ℕ → Bool) (p : Proof) (m : Content) → refusal_of accepts p m ≡ None → IfSome p.block (λ (b : Block). b.index < length_after p m)
block_below accepts p m none = ByBlock p.block refl
  where
    ByBlock : (block : Option Block) → p.block ≡ block → IfSome block (λ (b : Block). b.index < length_after p m)
    ByBlock None is = tt
    ByBlock (Some b) is =
        let range : range_refusal (length_after p m) (part_of_block b) ≡ None =
        subst (λ (block : Option Block). of_part block (λ (own : Block). range_refusal (length_after p m) (part_of_block own)) ≡ None) is
        (first_none (of_part p.block (λ (own : Block). range_refusal (length_after p m) (part_of_block own))) _ (unrefused accepts p m none).range) in
        omega (arith, ltb-false (length_after p m) (end_block_of 0 b.index) (not_refused _ _ range), leaf b.index)

-- the held blocks stay where the upgrade comes in
pub upgrade_blocks : (accepts : List ℕ → List ℕ → Bool) (p : Proof) (m : Content) → p.fork ≤ m.fork → refusal_of accepts p m ≡ None
    → (with_upgrade p m).block ≡ m.block
upgrade_blocks accepts p m no_greater none = ByUpgrade p.upgrade refl
  where
    open_ : IsUnrefused accepts p m
    open_ = unrefused accepts p m none

    ByUpgrade : (upgrade : Option UpgradePart) → p.upgrade ≡ upgrade → (with_upgrade p m).block ≡ m.block
    ByUpgrade None up = rw up refl
    ByUpgrade (Some u) up = ap (λ (c : Content). c.block) (goes_on p m u up no_greater open_.limit open_.head).after

-- ---- the blocks

-- a block that was there is where others are added
first_block : (blocks more : List (List ℕ)) (index : ℕ) → index < length blocks → slice_get (blocks ++ more) index ≡ slice_get blocks index
first_block blocks more index within =
    let longer : index < length (blocks ++ more) = omega (arith, length-append blocks more, within) in
    slice_get-get_or (blocks ++ more) index [] longer ∙ ap Some (get_or-append blocks more [] index within) ∙ sym (slice_get-get_or blocks index [] within)

set_same : (blocks : List (List ℕ)) (at : ℕ) (bytes : List ℕ) → at < length blocks → slice_get (slice_set blocks at bytes) at ≡ Some bytes
set_same blocks at bytes within =
    let there : at < length (slice_set blocks at bytes) = omega (arith, length-set blocks at bytes, within) in
    slice_get-get_or (slice_set blocks at bytes) at [] there ∙ ap Some (get_or-set_same blocks at bytes [] within)

set_other : (blocks : List (List ℕ)) (at : ℕ) (bytes : List ℕ) (index : ℕ) → index ≢ at → index < length blocks
    → slice_get (slice_set blocks at bytes) index ≡ slice_get blocks index
set_other blocks at bytes index other within =
    let there : index < length (slice_set blocks at bytes) = omega (arith, length-set blocks at bytes, within) in
    slice_get-get_or (slice_set blocks at bytes) index [] there ∙ ap Some (get_or-set_other blocks at index bytes [] other)
    ∙ sym (slice_get-get_or blocks index [] within)

-- one empty block more behind those that were added
pub filled_more : (blocks now : List (List ℕ)) (none : List ℕ) (count : ℕ) → length blocks ≤ count → none ≡ [] → now ≡ blocks ++ replicate (count - length blocks) []
    → now ++ none ∷ [] ≡ blocks ++ replicate (count + 1 - length blocks) []
filled_more blocks now none count more is_none is =
    let next : count + 1 - length blocks ≡ (count - length blocks) + 1 = omega (arith, more) in
    ap (λ (bytes : List ℕ). now ++ bytes ∷ []) is_none ∙ ap (λ (all : List (List ℕ)). all ++ [] ∷ []) is
    ∙ append_assoc blocks (replicate (count - length blocks) []) ([] ∷ [])
    ∙ ap (λ (rest : List (List ℕ)). blocks ++ rest) (replicate-append-replicate (count - length blocks) 1 [] ∙ ap (λ (n : ℕ). replicate n []) (sym next))

-- the block of an index, if its place is set
abbrev pub shown_at : Bool → List (List ℕ) → ℕ → Option (List ℕ)
shown_at set blocks index = if set then slice_get blocks index else None

-- a place that is set, or is this one
or-none : (b : Bool) → (b || false) ≡ b
or-none true = refl
or-none false = refl

or-all : (b : Bool) → (b || true) ≡ true
or-all true = refl
or-all false = refl

or_same : (set : ℕ → Bool) (at place : ℕ) → set at ≡ true → (set place || nat_eq place at) ≡ set place
or_same set at place there = elim (cases_eq place at) [
  | inl same ↦ let here : set place ≡ true = ap set same ∙ there in rw here refl
  | inr other ↦ rw (ne_eqb place at other) (or-none (set place))
]

-- ---- a change that was put in

pub record PutsIn (s now : Stored) (p : Proof) (change : Change) (old_nodes : Values) : Type 0 where
  pub head_is : now.parts.head ≡ change.head
  pub roots_are : now.roots ≡ change.roots
  pub root_is : now.root ≡ root_hash_of change.roots
  pub places_are : length now.parts.held ≡ length s.parts.held
  pub held_is : (index : ℕ) → has now.parts.held index ≡ held_put (has s.parts.held) p.block index
  pub were_nodes : old_nodes ≡ values_of s.parts.nodes
  pub values_are : values_of now.parts.nodes ≡ with_nodes old_nodes change.fresh
  pub blocks_are : now.parts.blocks ≡ blocks_put (has s.parts.held) p.block (s.parts.blocks ++ replicate (change.head.length - length s.parts.blocks) [])

module _ (s old : Stored) (kept : IsKept s) (is : s ≡ old) (p : Proof) (change : Change) (of_old : Brings p (content_of old) change)
    (room_old : Suffices old p.block change) where
  abbrev m : Content
  m = content_of s

  brings : Brings p m change
  brings = subst (λ (t : Stored). Brings p (content_of t) change) (sym is) of_old

  room : Suffices s p.block change
  room = subst (λ (t : Stored). Suffices t p.block change) (sym is) room_old

  abbrev a : Content
  a = admitted p m

  abbrev filled : List (List ℕ)
  filled = s.parts.blocks ++ replicate (change.head.length - length s.parts.blocks) []

  after : a.length ≡ length_after p m
  after = admitted_length p m brings.served

  longer : m.length ≤ a.length
  longer = omega (arith, after, after_longer brings.accepts p m brings.served brings.none)

  filled_length : length filled ≡ a.length
  filled_length =
      length-append s.parts.blocks (replicate (change.head.length - length s.parts.blocks) [])
      ∙ omega (arith, length-replicate {A = List ℕ} (change.head.length - length s.parts.blocks) [], kept.blocks, brings.admission.length, longer)

  fit : FitParts s.parts
  fit = record { spare = kept.spare; blocks = kept.blocks }

  -- a block that was held is shown
  was_shown : (index : ℕ) → shown_at (has s.parts.held index) filled index ≡ m.block index
  was_shown index = elim (cases_Bool (has s.parts.held index)) [
    | inl here ↦ rw here (first_block s.parts.blocks _ index (omega (arith, kept.spare index here, kept.blocks)))
    | inr none ↦ rw none refl
  ]

  upgraded_block : (index : ℕ) → (with_upgrade p m).block index ≡ m.block index
  upgraded_block index = ap (λ (block : ℕ → Option (List ℕ)). block index) (upgrade_blocks brings.accepts p m brings.served brings.none)

  still_held : (index : ℕ) → held (with_upgrade p m) index ≡ has s.parts.held index
  still_held index = ap is_some (upgraded_block index) ∙ shown_held s.parts fit index

  below : IfSome p.block (λ (b : Block). b.index < a.length)
  below = subst (λ (n : ℕ). IfSome p.block (λ (b : Block). b.index < n)) (sym after) (block_below brings.accepts p m brings.none)

  more_below : (block : Option Block) (low high : ℕ) → low ≤ high → IfSome block (λ (b : Block). b.index < low) → IfSome block (λ (b : Block). b.index < high)
  more_below None low high le less = tt
  more_below (Some b) low high le less = omega (arith, le, less)

  pub places_below : IfSome p.block (λ (b : Block). b.index < length s.parts.held)
  places_below = more_below p.block a.length (length s.parts.held) (omega (arith, room.enough_places, brings.admission.length)) below

  pub filled_below : IfSome p.block (λ (b : Block). b.index < length filled)
  filled_below = more_below p.block a.length (length filled) (omega (arith, filled_length)) below

  module _ (now : Stored) (old_nodes : Values) (puts : PutsIn s now p change old_nodes) where
    now_block : (index : ℕ) → (shown now.parts).block index
        ≡ shown_at (held_put (has s.parts.held) p.block index) (blocks_put (has s.parts.held) p.block filled) index
    now_block index =
        ap (λ (b : Bool). shown_at b now.parts.blocks index) (puts.held_is index)
        ∙ ap (λ (blocks : List (List ℕ)). shown_at (held_put (has s.parts.held) p.block index) blocks index) puts.blocks_are

    put_at : (b : Block) (place : ℕ) → b.index < length filled
        → shown_at (has s.parts.held place || nat_eq place b.index) (slice_set filled b.index b.bytes) place
        ≡ (fetched b (with_upgrade p m)).block place
    put_at b place within = elim (cases_eq place b.index) [
      | inl same ↦ rw (eq-eqb place b.index same, or-all (has s.parts.held place)) (ap (slice_get (slice_set filled b.index b.bytes)) same ∙ set_same filled b.index b.bytes within)
      | inr other ↦ rw (ne_eqb place b.index other, or-none (has s.parts.held place)) (elim (cases_Bool (has s.parts.held place)) [
        | inr none ↦ rw none (sym (upgraded_block place ∙ rw none refl))
        | inl here ↦ rw here (set_other filled b.index b.bytes place other (omega (arith, filled_length, kept.spare place here, longer))
            ∙ sym (upgraded_block place ∙ sym (was_shown place) ∙ rw here refl))
      ])
    ]

    block_is : (index : ℕ) → (shown now.parts).block index ≡ a.block index
    block_is index = now_block index ∙ ByBlock p.block refl below
      where
        ByBlock : (block : Option Block) → p.block ≡ block → IfSome block (λ (b : Block). b.index < a.length)
            → shown_at (held_put (has s.parts.held) p.block index) (blocks_put (has s.parts.held) p.block filled) index ≡ a.block index
        ByBlock None none less =
            let same : a ≡ with_upgrade p m = rw none refl in
            rw none (was_shown index) ∙ sym (upgraded_block index) ∙ ap (λ (c : Content). c.block index) (sym same)
        ByBlock (Some b) some less = elim (cases_Bool (has s.parts.held b.index)) [
          | inl here ↦
              let same : a ≡ with_upgrade p m = rw (some, still_held b.index ∙ here) refl in
              rw (some, here, or_same (has s.parts.held) b.index index here) (was_shown index) ∙ sym (upgraded_block index) ∙ ap (λ (c : Content). c.block index) (sym same)
          | inr new ↦
              let same : a ≡ fetched b (with_upgrade p m) = rw (some, still_held b.index ∙ new) refl in
              rw (some, new) (put_at b index (omega (arith, less, filled_length))) ∙ ap (λ (c : Content). c.block index) (sym same)
        ]

    fit_now : FitParts now.parts
    fit_now = record {
      spare = λ index there. ByBlock p.block refl below index (sym (puts.held_is index) ∙ there);
      blocks = ap length puts.blocks_are ∙ put_length p.block ∙ filled_length ∙ sym (ap (λ (h : Head). h.length) puts.head_is ∙ brings.admission.length);
    }
      where
        put_length : (block : Option Block) → length (blocks_put (has s.parts.held) block filled) ≡ length filled
        put_length None = refl
        put_length (Some b) = elim (cases_Bool (has s.parts.held b.index)) [ inl here ↦ rw here refl | inr new ↦ rw new (length-set filled b.index b.bytes) ]

        end : now.parts.head.length ≡ a.length
        end = ap (λ (h : Head). h.length) puts.head_is ∙ brings.admission.length

        ByBlock : (block : Option Block) → p.block ≡ block → IfSome block (λ (b : Block). b.index < a.length) → (index : ℕ)
            → held_put (has s.parts.held) block index ≡ true → index < now.parts.head.length
        ByBlock None none less index there = omega (arith, kept.spare index there, longer, end)
        ByBlock (Some b) some less index there = elim (or_cases (has s.parts.held index) (nat_eq index b.index) there) [
          | inl was ↦ omega (arith, kept.spare index was, longer, end)
          | inr own ↦ omega (arith, eqb-true index b.index own, less, end)
        ]

    shows : content_of now ≡ a
    shows = admit_shows brings.accepts p s.parts now.parts change.fresh brings.whole brings.fits brings.served brings.none (record {
      fork_is = ap (λ (h : Head). h.fork) puts.head_is ∙ brings.admission.fork;
      length_is = ap (λ (h : Head). h.length) puts.head_is ∙ brings.admission.length;
      signature_is = ap (λ (h : Head). h.signature) puts.head_is ∙ brings.admission.signature;
      fit = fit_now;
      blocks = block_is;
      are_fresh = brings.admission.fresh;
      values = λ depth offset. ap (λ (v : Values). v depth offset) (puts.values_are ∙ ap (λ (v : Values). with_nodes v change.fresh) puts.were_nodes);
    })

    whole_now : IsWhole brings.accepts a
    whole_now = admitted_whole brings.accepts p m brings.whole brings.fits brings.served brings.none

    pub put_kept : IsKept now
    put_kept = record {
      places = omega (arith, room.enough_places, puts.places_are, ap (λ (h : Head). h.length) puts.head_is);
      spare = fit_now.spare;
      blocks = fit_now.blocks;
      root_is = puts.root_is ∙ ap root_hash_of (sym puts.roots_are);
      root_nodes = puts.roots_are ∙ brings.admission.roots ∙ ap roots (sym shows);
      sound = subst IsSound (sym shows) whole_now.sound;
      limits = subst KeepsLimits (sym shows) whole_now.limits;
    }

    pub put_admits : content_of now ≡ admitted p (content_of old)
    put_admits = shows ∙ ap (λ (t : Stored). admitted p (content_of t)) is
