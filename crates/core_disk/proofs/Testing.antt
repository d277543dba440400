-- The tests of a content within its bounds say what they test.
use Rattle.std.proofs.Common.{◌≡◌, ℕ, Bool, true, ◌+◌, ◌*◌, ◌^◌, ◌<◌, ◌≤◌, ◌⊎◌, inl, inr, List, length, take, drop, replicate, Option, Some, None, refl, sym, ap, subst, ◌∙◌, arith, nat_le, nat_eq}
use Rattle.std.specs.Prelude.{is_some, ◌&&◌, ◌||◌}
use Rattle.std.specs.Bool.{beq, Decides}
use Rattle.std.specs.Str.{bytes_eq}
use Rattle.std.specs.Cmp.{booleans_Decides}
use Rattle.std.proofs.lemmas.Bool.{cases_lt, cases_Bool, and_parts, le-leb, leb-true, eq-eqb, eqb-true}
use Rattle.std.proofs.lemmas.Bool.Decides.{Decides-and, Decides-or, Decides-like, Decides-below_and}
use Rattle.std.proofs.lemmas.Nat.{mul-le, pow_pos}
use Rattle.std.proofs.lemmas.Slice.Eq.{bytes_eq-Decides}
use Rattle.flat_tree.specs.declared.limits.TheConstants.{MAX_BLOCKS, MAX_FORK, MAX_BLOCK_BYTES, MAX_CORE_BYTES}
use Rattle.flat_tree.specs.Subtrees.{end_block_of}
use Rattle.flat_tree.proofs.RootLemmas.{below_pow}
use Rattle.merkle_nodes.specs.declared.node.Twig.{Twig}
use Rattle.merkle_nodes.specs.Bundle.{TwigFits}
use Rattle.merkle_nodes.specs.Tree.{leaf_of, parent_of}
use Rattle.merkle_nodes.specs.Roots.{Accepts}
use Rattle.node_set.specs.Contents.{Content, Values, held, roots, bytes_under}
use Rattle.node_set.specs.Closure.{in_closure}
use Rattle.node_set.specs.Offsets.{offset_of}
use Rattle.node_set.specs.Same.{is_same, is_stored_as}
use Rattle.node_set.specs.Whole.{IsSound, IsStart, KeepsLimits, IsWhole}
use Rattle.node_set.proofs.ClosureLemmas.{true_closure}
use Rattle.node_set.proofs.SoundLemmas.{roots_shape}
use Rattle.node_set.proofs.Stored.{some_of, some_same}
use Rattle.core_snap.proofs.WayLemmas.{stored_is}
use Rattle.core_disk.specs.Standing.{HasBlocks}
use Rattle.core_disk.specs.Testing.{IsBounded, each_below, each_node, block_agrees, halves_agree, twig_fits, node_agrees, is_sound, is_limited, is_start, is_accepted, is_kept, is_whole, stands_at, has_blocks}

-- ---- each number, and each node

pub each_Decides : (passes : ℕ → Bool) (P : ℕ → Type 0) → ((k : ℕ) → Decides (passes k) (P k)) → (n : ℕ)
    → Decides (each_below n passes) ((k : ℕ) → k < n → P k)
unfolding each_below
each_Decides passes P each n = Decides-below_and passes P (λ k. each_below k passes) each refl (λ k. refl) n

-- what holds of each node of a depth and an offset below a length
abbrev pub OfNodes : ℕ → (ℕ → ℕ → Type 0) → Type 0
OfNodes n P = (depth : ℕ) → depth < n → (offset : ℕ) → offset < n → P depth offset

pub nodes_Decides : (passes : ℕ → ℕ → Bool) (P : ℕ → ℕ → Type 0) → ((depth offset : ℕ) → Decides (passes depth offset) (P depth offset)) → (n : ℕ)
    → Decides (each_node n passes) (OfNodes n P)
nodes_Decides passes P each n =
    each_Decides (λ depth. each_below n (passes depth)) (λ depth. (offset : ℕ) → offset < n → P depth offset)
    (λ depth. each_Decides (passes depth) (P depth) (each depth) n) n

-- a subtree within a length has a depth and an offset below it
pub place_below : (n depth offset : ℕ) → end_block_of depth offset ≤ n → (depth < n) × (offset < n)
unfolding end_block_of
place_below n depth offset within =
    let some = pow_pos depth in
    let deep = mul-le 1 (2 ^ depth) (offset + 1) (2 ^ depth) (omega arith) (omega arith) in
    let wide = mul-le (offset + 1) 1 (offset + 1) (2 ^ depth) (omega arith) (omega (arith, some)) in
    (omega (arith, below_pow depth, deep, within), omega (arith, wide, within))

-- ---- nodes and blocks that agree

pub Decides-le : (a b : ℕ) → Decides (nat_le a b) (a ≤ b)
Decides-le a b = (leb-true a b, le-leb a b)

Decides-eq : (a b : ℕ) → Decides (nat_eq a b) (a ≡ b)
Decides-eq a b = (eqb-true a b, eq-eqb a b)

pub stored_Decides : (found : Option Twig) (twig : Twig) → Decides (is_stored_as found twig) (found ≡ Some twig)
stored_Decides found twig = (stored_is found twig, λ is. ap (λ (f : Option Twig). is_stored_as f twig) is ∙ same)
  where
    same : is_same twig twig ≡ true
    same = rw (eq-eqb twig.size twig.size refl, (bytes_eq-Decides twig.hash twig.hash).1 refl) refl

abbrev BlockAgrees : Values → ℕ → Option (List ℕ) → Type 0
BlockAgrees node index block =
    (bytes : List ℕ) → block ≡ Some bytes → (length bytes ≤ MAX_BLOCK_BYTES) × (node 0 index ≡ Some (leaf_of bytes))

block_Decides : (node : Values) (index : ℕ) (block : Option (List ℕ)) → Decides (block_agrees node index block) (BlockAgrees node index block)
block_Decides node index None = (λ test bytes is. cc, λ all. refl)
block_Decides node index (Some own) =
    let agrees = λ (bytes : List ℕ). (length bytes ≤ MAX_BLOCK_BYTES) × (node 0 index ≡ Some (leaf_of bytes)) in
    Decides-like (block_agrees node index (Some own)) (λ both bytes is. subst agrees (some_same own bytes is) both) (λ all. all own refl)
    (Decides-and (nat_le (length own) MAX_BLOCK_BYTES) (is_stored_as (node 0 index) (leaf_of own)) (Decides-le (length own) MAX_BLOCK_BYTES)
    (stored_Decides (node 0 index) (leaf_of own)))

abbrev HalvesAgree : Option Twig → Option Twig → Option Twig → Type 0
HalvesAgree parent one other = (left right : Twig) → one ≡ Some left → other ≡ Some right → parent ≡ Some (parent_of left right)

halves_Decides : (parent one other : Option Twig) → Decides (halves_agree parent one other) (HalvesAgree parent one other)
halves_Decides parent None other = (λ test left right is also. cc, λ all. refl)
halves_Decides parent (Some x) None = (λ test left right is also. cc, λ all. refl)
halves_Decides parent (Some x) (Some y) =
    Decides-like (halves_agree parent (Some x) (Some y))
    (λ made left right is also.
    made ∙ ap (λ (t : Twig). Some (parent_of t y)) (some_same x left is) ∙ ap (λ (t : Twig). Some (parent_of left t)) (some_same y right also))
    (λ all. all x y refl refl) (stored_Decides parent (parent_of x y))

abbrev StoredFits : Option Twig → Type 0
StoredFits found = (twig : Twig) → found ≡ Some twig → TwigFits twig

fits_Decides : (found : Option Twig) → Decides (twig_fits found) (StoredFits found)
fits_Decides None = (λ test twig is. cc, λ all. refl)
fits_Decides (Some own) =
    Decides-like (twig_fits (Some own)) (λ both twig is. subst TwigFits (some_same own twig is) (record { size = both.0; hash = both.1 }))
    (λ all. let fits = all own refl in (fits.size, fits.hash))
    (Decides-and (nat_le own.size MAX_CORE_BYTES) (nat_eq (length own.hash) 32) (Decides-le own.size MAX_CORE_BYTES) (Decides-eq (length own.hash) 32))

-- ---- a sound content

pub record NodeAgrees (m : Content) (depth offset : ℕ) : Type 0 where
  closed : is_some (m.node depth offset) ≡ in_closure m.length (held m) depth offset
  halves : HalvesAgree (m.node (depth + 1) offset) (m.node depth (2 * offset)) (m.node depth (2 * offset + 1))
  fits : StoredFits (m.node depth offset)

node_Decides : (m : Content) (depth offset : ℕ) → Decides (node_agrees m depth offset) (NodeAgrees m depth offset)
node_Decides m depth offset =
    let stored = beq (is_some (m.node depth offset)) (in_closure m.length (held m) depth offset) in
    let made = halves_agree (m.node (depth + 1) offset) (m.node depth (2 * offset)) (m.node depth (2 * offset + 1)) in
    Decides-like (node_agrees m depth offset) (λ all. record { closed = all.0.0; halves = all.0.1; fits = all.1 })
    (λ agrees. ((agrees.closed, agrees.halves), agrees.fits))
    (Decides-and (stored && made) (twig_fits (m.node depth offset))
    (Decides-and stored made (booleans_Decides (is_some (m.node depth offset)) (in_closure m.length (held m) depth offset))
    (halves_Decides (m.node (depth + 1) offset) (m.node depth (2 * offset)) (m.node depth (2 * offset + 1))))
    (fits_Decides (m.node depth offset)))

-- what is tested of it
abbrev SoundBelow : Content → Type 0
SoundBelow m = ((index : ℕ) → index < m.length → BlockAgrees m.node index (m.block index)) × OfNodes m.length (NodeAgrees m)

sound_Decides : (m : Content) → Decides (is_sound m) (SoundBelow m)
sound_Decides m =
    Decides-and (each_below m.length (λ index. block_agrees m.node index (m.block index))) (each_node m.length (node_agrees m))
    (each_Decides (λ index. block_agrees m.node index (m.block index)) (λ index. BlockAgrees m.node index (m.block index))
    (λ index. block_Decides m.node index (m.block index)) m.length)
    (nodes_Decides (node_agrees m) (NodeAgrees m) (node_Decides m) m.length)

sound_from : (m : Content) → IsBounded m → SoundBelow m → IsSound m
sound_from m bounded below = record {
  blocks = record { below = bounded.blocks; size = λ index bytes there. (block index bytes there).0 };
  closed = closed;
  pairs = λ depth offset left right at_left at_right.
      let within = bounded.nodes depth (2 * offset + 1) right at_right in
      let place = place_below m.length depth (2 * offset + 1) within in
      (below.1 depth place.0 offset (omega (arith, place.1))).halves left right at_left at_right;
  leaves = λ index bytes there. (block index bytes there).1;
  fit = λ depth offset twig there.
      let place = place_below m.length depth offset (bounded.nodes depth offset twig there) in
      (below.1 depth place.0 offset place.1).fits twig there;
}
  where
    block : (index : ℕ) (bytes : List ℕ) → m.block index ≡ Some bytes → (length bytes ≤ MAX_BLOCK_BYTES) × (m.node 0 index ≡ Some (leaf_of bytes))
    block index bytes there = below.0 index (bounded.blocks index bytes there) bytes there

    -- a node that isn't within the length is neither stored nor in the closure
    closed : (depth offset : ℕ) → is_some (m.node depth offset) ≡ in_closure m.length (held m) depth offset
    closed depth offset = elim (cases_lt m.length (end_block_of depth offset)) [
      | inr within ↦ let place = place_below m.length depth offset within in (below.1 depth place.0 offset place.1).closed
      | inl past ↦ elim (cases_Bool (is_some (m.node depth offset))) [
        | inl stored ↦
            let twig = some_of (m.node depth offset) stored in
            absurd (omega (arith, past, bounded.nodes depth offset twig.0 twig.1))
        | inr none ↦ elim (cases_Bool (in_closure m.length (held m) depth offset)) [
          | inl test ↦ absurd (omega (arith, past, (true_closure m.length (held m) depth offset test).within))
          | inr apart ↦ none ∙ sym apart
        ]
      ]
    ]

sound_to : (m : Content) → IsSound m → SoundBelow m
sound_to m sound = (
  λ index less bytes there. (sound.blocks.size index bytes there, sound.leaves index bytes there),
  λ depth low offset left. record { closed = sound.closed depth offset; halves = sound.pairs depth offset; fits = sound.fit depth offset },
)

-- ---- the head

limits_Decides : (m : Content) → Decides (is_limited m) (KeepsLimits m)
limits_Decides m =
    let few = nat_le m.length MAX_BLOCKS in
    let fork = nat_le m.fork MAX_FORK in
    let bytes = nat_le (bytes_under (roots m)) MAX_CORE_BYTES in
    Decides-like (is_limited m) (λ all. record { blocks = all.0.0.0; fork = all.0.0.1; bytes = all.0.1; signature = all.1 })
    (λ keeps. (((keeps.blocks, keeps.fork), keeps.bytes), keeps.signature))
    (Decides-and (few && fork && bytes) (nat_eq (length m.signature) 64)
    (Decides-and (few && fork) bytes
    (Decides-and few fork (Decides-le m.length MAX_BLOCKS) (Decides-le m.fork MAX_FORK))
    (Decides-le (bytes_under (roots m)) MAX_CORE_BYTES))
    (Decides-eq (length m.signature) 64))

start_Decides : (m : Content) → Decides (is_start m) (IsStart m)
start_Decides m =
    Decides-like (is_start m) (λ all. record { fork = all.0.0; empty = all.0.1; unsigned = all.1 }) (λ is. ((is.fork, is.empty), is.unsigned))
    (Decides-and (nat_eq m.fork 0 && nat_eq m.length 0) (bytes_eq m.signature (replicate 64 0))
    (Decides-and (nat_eq m.fork 0) (nat_eq m.length 0) (Decides-eq m.fork 0) (Decides-eq m.length 0))
    (bytes_eq-Decides m.signature (replicate 64 0)))

accepted_Decides : (accepts : List ℕ → List ℕ → Bool) (m : Content) → Decides (is_accepted accepts m) (Accepts accepts m.fork m.length (roots m) m.signature)
accepted_Decides accepts m = (λ test. record { shape = roots_shape m.node m.length; accepted = test }, λ is. is.accepted)

-- ---- the content

kept_Decides : (m : Content) → Decides (is_kept m) (SoundBelow m × KeepsLimits m)
kept_Decides m = Decides-and (is_sound m) (is_limited m) (sound_Decides m) (limits_Decides m)

pub kept_told : (m : Content) → IsBounded m → is_kept m ≡ true → IsSound m × KeepsLimits m
kept_told m bounded test = let both = (kept_Decides m).0 test in (sound_from m bounded both.0, both.1)

pub told_kept : (m : Content) → IsSound m → KeepsLimits m → is_kept m ≡ true
told_kept m sound limits = (kept_Decides m).1 (sound_to m sound, limits)

head_Decides : (accepts : List ℕ → List ℕ → Bool) (m : Content)
    → Decides (is_accepted accepts m || is_start m) (Accepts accepts m.fork m.length (roots m) m.signature ⊎ IsStart m)
head_Decides accepts m = Decides-or (is_accepted accepts m) (is_start m) (accepted_Decides accepts m) (start_Decides m)

pub whole_kept : (accepts : List ℕ → List ℕ → Bool) (m : Content) → is_whole accepts m ≡ true → is_kept m ≡ true
whole_kept accepts m test = (and_parts (is_kept m) (is_accepted accepts m || is_start m) test).0

pub whole_told : (accepts : List ℕ → List ℕ → Bool) (m : Content) → IsBounded m → is_whole accepts m ≡ true → IsWhole accepts m
whole_told accepts m bounded test =
    let parts = and_parts (is_kept m) (is_accepted accepts m || is_start m) test in
    let kept = kept_told m bounded parts.0 in
    record { sound = kept.0; limits = kept.1; head = (head_Decides accepts m).0 parts.1 }

pub told_whole : (accepts : List ℕ → List ℕ → Bool) (m : Content) → IsWhole accepts m → is_whole accepts m ≡ true
told_whole accepts m whole =
    let kept = told_kept m whole.sound whole.limits in
    let head = (head_Decides accepts m).1 whole.head in
    rw (kept, head) refl

-- ---- its blocks in an area

abbrev StandsAt : List ℕ → ℕ → Option (List ℕ) → Type 0
StandsAt area place block = (bytes : List ℕ) → block ≡ Some bytes → take (length bytes) (drop place area) ≡ bytes

stands_Decides : (area : List ℕ) (place : ℕ) (block : Option (List ℕ)) → Decides (stands_at area place block) (StandsAt area place block)
stands_Decides area place None = (λ test bytes is. cc, λ all. refl)
stands_Decides area place (Some own) =
    Decides-like (stands_at area place (Some own))
    (λ here bytes is. subst (λ (b : List ℕ). take (length b) (drop place area) ≡ b) (some_same own bytes is) here)
    (λ all. all own refl) (bytes_eq-Decides (take (length own) (drop place area)) own)

blocks_Decides : (area : List ℕ) (m : Content)
    → Decides (has_blocks area m) ((index : ℕ) → index < m.length → StandsAt area (offset_of m index) (m.block index))
blocks_Decides area m =
    each_Decides (λ index. stands_at area (offset_of m index) (m.block index)) (λ index. StandsAt area (offset_of m index) (m.block index))
    (λ index. stands_Decides area (offset_of m index) (m.block index)) m.length

pub has_told : (area : List ℕ) (m : Content) → IsBounded m → has_blocks area m ≡ true → HasBlocks area m
has_told area m bounded test index bytes there = (blocks_Decides area m).0 test index (bounded.blocks index bytes there) bytes there

pub told_has : (area : List ℕ) (m : Content) → HasBlocks area m → has_blocks area m ≡ true
told_has area m has = (blocks_Decides area m).1 (λ index less. has index)
