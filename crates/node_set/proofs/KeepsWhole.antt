-- A whole content stays whole where blocks are given up, and where the log is cut.
use Rattle.std.proofs.Common.{◌≡◌, ℕ, zero, suc, Bool, true, ◌*◌, ◌/◌, ◌<◌, ◌≤◌, inl, inr, List, Some, None, refl, sym, ap, subst, ◌∙◌, arith, nat_le, nat_lt}
use Rattle.std.specs.Prelude.{is_some, ◌&&◌}
use Rattle.std.proofs.lemmas.Bool.{cases_lt, cases_Bool, ltb-true}
use Rattle.flat_tree.specs.Subtrees.{first_block_of, end_block_of}
use Rattle.flat_tree.specs.declared.limits.TheConstants.{MAX_FORK, MAX_CORE_BYTES}
use Rattle.flat_tree.proofs.NumberLemmas.{leaf}
use Rattle.merkle_nodes.specs.declared.node.Node.{Node}
use Rattle.merkle_nodes.specs.Roots.{Accepts}
use Rattle.node_set.specs.Contents.{Content, Blocks, holds, held, roots_at, roots, bytes_under}
use Rattle.node_set.specs.Closure.{any_under, in_closure, IsFullRoot}
use Rattle.node_set.specs.Whole.{IsSound, IsWhole}
use Rattle.node_set.specs.Changes.{blocks_below, blocks_without, truncate_content, clear_content, RootsStored, IsSigned}
use Rattle.node_set.proofs.ClosureLemmas.{half_left, spans_meet, root_true, true_closure, any_under-up, any_under-more, halves_in_closure, closure_under, root_in_closure}
use Rattle.node_set.proofs.CoverSums.{AddsUp, sum_cover-split}
use Rattle.node_set.proofs.SoundLemmas.{stored_value, size_of, IsSoundOn, sound_on, complete_of, roots_on, whole_signed, bytes_of_roots, size_halves}

-- ---- fewer blocks of a shorter log

-- the roots of the length are stored
pub own_roots : (m : Content) → IsSound m → (d o : ℕ) → IsFullRoot m.length d o → is_some (m.node d o) ≡ true
own_roots m sound d o root = sound.closed d o ∙ root_in_closure m.length (held m) d o root

-- the blocks are some of the content's, below a length
pub record IsPart (n : ℕ) (block : Blocks) (m : Content) : Type 0 where
  pub short : n ≤ m.length
  pub below : (index : ℕ) (bytes : List ℕ) → block index ≡ Some bytes → index < n
  pub of : (index : ℕ) (bytes : List ℕ) → block index ≡ Some bytes → m.block index ≡ Some bytes
  pub roots : (d o : ℕ) → IsFullRoot n d o → is_some (m.node d o) ≡ true

part_held : (n : ℕ) (block : Blocks) (m : Content) → IsPart n block m → (index : ℕ) → holds block index ≡ true → held m index ≡ true
part_held n block m part index is_held = let bytes = stored_value (block index) is_held in ap is_some (part.of index bytes.0 bytes.1)

part_full : (n : ℕ) (block : Blocks) (m : Content) → IsSound m → IsPart n block m → (d o : ℕ) → in_closure n (holds block) d o ≡ true
    → is_some (m.node d o) ≡ true
part_full n block m sound part d o test =
    let closure = true_closure n (holds block) d o test in
    elim (cases_lt n (end_block_of (suc d) (o / 2))) [
      | inl past ↦ part.roots d o (record { within = closure.within; largest = past })
      | inr within ↦
          let fewer = closure_under n (holds block) d (o / 2) o refl test within in
          let any = any_under-more (holds block) (held m) (part_held n block m part) (suc d) (o / 2) fewer in
          sound.closed d o ∙ halves_in_closure m.length (held m) d (o / 2) o refl any (omega (arith, within, part.short))
    ]

-- a sound content's nodes are sound for some of its blocks and a shorter length whose roots are stored
pub part_sound : (n : ℕ) (block : Blocks) (m : Content) → IsSound m → IsPart n block m → IsSoundOn n block m.node
part_sound n block m sound part = record {
  blocks = record { below = part.below; size = λ index bytes is. sound.blocks.size index bytes (part.of index bytes is) };
  complete = record {
    full = part_full n block m sound part;
    pairs = λ d o left right within any left_is right_is.
        let more = any_under-more (holds block) (held m) (part_held n block m part) (suc d) o any in
        (complete_of m sound).pairs d o left right (omega (arith, within, part.short)) more left_is right_is;
  };
  leaves = λ index bytes is. sound.leaves index bytes (part.of index bytes is);
  fit = λ d o twig here is. sound.fit d o twig is;
}

-- ---- a clearing

without_of : (from to : ℕ) (block : Blocks) (index : ℕ) (bytes : List ℕ) → blocks_without from to block index ≡ Some bytes → block index ≡ Some bytes
without_of from to block index bytes is = elim (cases_Bool (nat_le from index && nat_lt index to)) [
  | inl cleared ↦ let none : blocks_without from to block index ≡ None = rw cleared refl in let clash : None ≡ Some bytes = sym none ∙ is in cc
  | inr kept ↦ let same : blocks_without from to block index ≡ block index = rw kept refl in sym same ∙ is
]

clear_part : (from to : ℕ) (m : Content) → IsSound m → IsPart m.length (blocks_without from to m.block) m
clear_part from to m sound = record {
  short = omega arith;
  below = λ index bytes is. sound.blocks.below index bytes (without_of from to m.block index bytes is);
  of = without_of from to m.block;
  roots = own_roots m sound;
}

pub clear_roots : (m : Content) (from to : ℕ) → roots (clear_content from to m) ≡ roots m
clear_roots m from to = roots_on m.length (blocks_without from to m.block) m.node

pub clear_sound : (m : Content) (from to : ℕ) → IsSound m → IsSound (clear_content from to m)
clear_sound m from to sound =
    let after = blocks_without from to m.block in
    sound_on m.length after m.node m.fork m.signature (part_sound m.length after m sound (clear_part from to m sound))

pub clear_whole : (accepts : List ℕ → List ℕ → Bool) (m : Content) (from to : ℕ) → IsWhole accepts m → IsWhole accepts (clear_content from to m)
clear_whole accepts m from to whole =
    let same : roots m ≡ roots (clear_content from to m) = sym (clear_roots m from to) in
    record {
      sound = clear_sound m from to whole.sound;
      limits = record {
        blocks = whole.limits.blocks;
        fork = whole.limits.fork;
        bytes = subst (λ (nodes : List Node). bytes_under nodes ≤ MAX_CORE_BYTES) same whole.limits.bytes;
        signature = whole.limits.signature;
      };
      head = elim whole.head [
        | inl accepted ↦ inl (subst (λ (nodes : List Node). Accepts accepts m.fork m.length nodes m.signature) same accepted)
        | inr fresh ↦ inr (record { fork = fresh.fork; empty = fresh.empty; unsigned = fresh.unsigned })
      ];
    }

-- ---- a truncation

below_of : (to : ℕ) (block : Blocks) (index : ℕ) (bytes : List ℕ) → blocks_below to block index ≡ Some bytes → (index < to) × (block index ≡ Some bytes)
below_of to block index bytes is = elim (cases_Bool (nat_lt index to)) [
  | inr behind ↦ let none : blocks_below to block index ≡ None = rw behind refl in let clash : None ≡ Some bytes = sym none ∙ is in cc
  | inl kept ↦ let same : blocks_below to block index ≡ block index = rw kept refl in (ltb-true index to kept, sym same ∙ is)
]

truncate_part : (m : Content) (to : ℕ) → to ≤ m.length → RootsStored to m → IsPart to (blocks_below to m.block) m
truncate_part m to short stored = record {
  short = short;
  below = λ index bytes is. (below_of to m.block index bytes is).0;
  of = λ index bytes is. (below_of to m.block index bytes is).1;
  roots = λ d o root. stored d o (root_true to d o root);
}

pub truncate_sound : (m : Content) (to fork : ℕ) (signature : List ℕ) → IsSound m → to ≤ m.length → RootsStored to m
    → IsSound (truncate_content to fork signature m)
truncate_sound m to fork signature sound short stored =
    sound_on to (blocks_below to m.block) m.node fork signature (part_sound to (blocks_below to m.block) m sound (truncate_part m to short stored))

-- a subtree over the new end has a held block: its part before the end has a root, which is stored below the old one
module _ (m : Content) (to : ℕ) (sound : IsSound m) (stored : RootsStored to m) where
  root_held : (d o : ℕ) → end_block_of d (2 * o) ≤ to → to < end_block_of (suc d) o → end_block_of (suc d) o ≤ m.length → any_under (held m) (suc d) o ≡ true
  root_held d o root behind within =
      let parent : end_block_of (suc d) (2 * o / 2) ≡ end_block_of (suc d) o = ap (λ (k : ℕ). end_block_of (suc d) k) (half_left o) in
      let test = root_true to d (2 * o) (record { within = root; largest = omega (arith, behind, parent) }) in
      closure_under m.length (held m) d o (2 * o) (half_left o) (sym (sound.closed d (2 * o)) ∙ stored d (2 * o) test) within

  over_held : (d o : ℕ) → first_block_of (suc d) o < to → to < end_block_of (suc d) o → end_block_of (suc d) o ≤ m.length → any_under (held m) (suc d) o ≡ true
  over_held zero o before behind within = root_held zero o (omega (arith, before, spans_meet zero o, leaf (2 * o))) behind within
  over_held (suc d) o before behind within = elim (cases_lt to (end_block_of (suc d) (2 * o))) [
    | inr root ↦ root_held (suc d) o root behind within
    | inl over ↦
        let meet = spans_meet (suc d) o in
        let any = over_held d (2 * o) (omega (arith, before, meet)) over (omega (arith, within, meet)) in
        subst (λ (k : ℕ). any_under (held m) (suc (suc d)) k ≡ true) (half_left o) (any_under-up (held m) (suc d) (2 * o) any)
  ]

-- the first blocks of a log have no more bytes than all
pub truncate_bytes : (m : Content) (to : ℕ) → IsSound m → to ≤ m.length → RootsStored to m → bytes_under (roots_at m.node to) ≤ bytes_under (roots m)
truncate_bytes m to sound short stored =
    let adds : AddsUp (size_of m.node) 0 to m.length = λ d o low before behind within.
    size_halves m.length m.block m.node (complete_of m sound) d o within (over_held m to sound stored d o before behind within) in
    let split = sum_cover-split (size_of m.node) 0 to m.length (omega arith) short adds in
    omega (arith, split, bytes_of_roots m.node to, bytes_of_roots m.node m.length)

pub truncate_whole : (accepts : List ℕ → List ℕ → Bool) (m : Content) (to fork : ℕ) (signature : List ℕ) → IsWhole accepts m → to ≤ m.length → fork ≤ MAX_FORK
    → RootsStored to m → IsSigned accepts (truncate_content to fork signature m) → IsWhole accepts (truncate_content to fork signature m)
truncate_whole accepts m to fork signature whole short fits stored signed =
    let same : bytes_under (roots (truncate_content to fork signature m)) ≡ bytes_under (roots_at m.node to) =
    ap bytes_under (roots_on to (blocks_below to m.block) m.node) in
    whole_signed accepts (truncate_content to fork signature m) (truncate_sound m to fork signature whole.sound short stored)
    (omega (arith, short, whole.limits.blocks)) fits (omega (arith, same, truncate_bytes m to whole.sound short stored, whole.limits.bytes)) signed
