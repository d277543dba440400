-- A whole content stays whole where blocks are appended.
use Rattle.std.proofs.Common.{◌≡◌, ℕ, zero, suc, Bool, true, ◌+◌, ◌-◌, ◌*◌, ◌/◌, ◌^◌, ◌<◌, ◌≤◌, inl, inr, List, [], ◌∷◌, ◌++◌, length, get_or, slice_get, Some, None, refl, sym, ap, subst, ◌∙◌, arith}
use Rattle.std.specs.Prelude.{is_some}
use Rattle.std.specs.List.{AllByRecursion}
use Rattle.std.proofs.lemmas.Bool.{cases_lt, le-leb, lt-leb, lt-ltb, le-ltb}
use Rattle.std.proofs.lemmas.Option.{slice_get_within, get_or_from_slice_get}
use Rattle.std.proofs.lemmas.List.Sums.{sum_by-cons}
use Rattle.flat_tree.specs.Subtrees.{Subtree, subtree, first_block_of, end_block_of}
use Rattle.flat_tree.specs.Covers.{cover_of}
use Rattle.flat_tree.specs.declared.limits.TheConstants.{MAX_FORK, MAX_BLOCK_BYTES}
use Rattle.flat_tree.proofs.NumberLemmas.{leaf}
use Rattle.flat_tree.proofs.CoverLemmas.{IsLargest, cover-some, cover-none}
use Rattle.blake2b_hash.proofs.Hashes.{length_hash_of}
use Rattle.merkle_nodes.specs.declared.node.Twig.{Twig}
use Rattle.merkle_nodes.specs.Tree.{leaf_of}
use Rattle.merkle_nodes.specs.Joined.{joined, with_blocks}
use Rattle.node_set.specs.Contents.{Content, Blocks, Values}
use Rattle.node_set.specs.Evidence.{bytes_of}
use Rattle.node_set.specs.Whole.{BlocksFit, LeavesAgree, IsSound, IsWhole}
use Rattle.node_set.specs.Changes.{blocks_with, append_content, AppendFits, IsSigned}
use Rattle.node_set.proofs.ClosureLemmas.{spans_meet, span_some}
use Rattle.node_set.proofs.CoverLemmas.{true_between}
use Rattle.node_set.proofs.CoverSums.{sum_over, AddsUp, sum_cover-split}
use Rattle.node_set.proofs.SoundLemmas.{size_of, size_stored, sound_on}
use Rattle.node_set.proofs.JoinedLemmas.{joined-known, IsPaired, IsLonger, paired_parent, paired_size, IsExtended, extended_sound, extended_whole}

module _ (n : ℕ) (old : Values) (more : List (List ℕ)) where
  abbrev known : Values
  known = with_blocks n old more

  abbrev to : ℕ
  to = n + length more

  known_below : (d o : ℕ) → end_block_of d o ≤ n → known d o ≡ old d o
  known_below d o within = rw (le-leb (end_block_of d o) n within) refl

  known_none : (d o : ℕ) → n < end_block_of (suc d) o → known (suc d) o ≡ None
  known_none d o past = rw (lt-leb (end_block_of (suc d) o) n past) refl

  known_leaf : (o : ℕ) → n ≤ o → o < to → known 0 o ≡ Some (leaf_of (get_or more (o - n) []))
  known_leaf o behind below =
      let past : n < end_block_of 0 o = omega (arith, behind, leaf o) in
      rw (lt-leb (end_block_of 0 o) n past, le-leb n o behind, lt-ltb o (n + length more) below) refl

  known_past : (o : ℕ) → n ≤ o → to ≤ o → known 0 o ≡ None
  known_past o behind past =
      let end : n < end_block_of 0 o = omega (arith, behind, leaf o) in
      rw (lt-leb (end_block_of 0 o) n end, le-leb n o behind, le-ltb o (n + length more) past) refl

  -- all behind the old end has a joined value
  known_behind : (d o : ℕ) → n ≤ first_block_of d o → end_block_of d o ≤ to → is_some (joined known d o) ≡ true
  known_behind zero o behind within = ap is_some (joined-known known zero o _ (known_leaf o (omega (arith, behind, leaf o)) (omega (arith, within, leaf o))))
  known_behind (suc d) o behind within =
      let meet = spans_meet d o in
      paired_parent known d o
      (record {
        none = known_none d o (omega (arith, behind, span_some (suc d) o));
        left = known_behind d (2 * o) (omega (arith, behind, meet)) (omega (arith, within, meet));
        right = known_behind d (2 * o + 1) (omega (arith, behind, meet)) (omega (arith, within, meet));
      })

  known_paired : (d o : ℕ) → n ≤ first_block_of (suc d) o → end_block_of (suc d) o ≤ to → IsPaired known d o
  known_paired d o behind within =
      let meet = spans_meet d o in
      record {
        none = known_none d o (omega (arith, behind, span_some (suc d) o));
        left = known_behind d (2 * o) (omega (arith, behind, meet)) (omega (arith, within, meet));
        right = known_behind d (2 * o + 1) (omega (arith, behind, meet)) (omega (arith, within, meet));
      }

  known_longer : (block : Blocks) → IsLonger n to block old known
  known_longer block = record {
    longer = omega arith;
    before = known_below;
    over = λ d o before past within. known_none d o past;
    cover = λ d o cover. let between = true_between n to d o cover.within in known_behind d o between.first between.last;
    behind = λ d o behind within any. known_paired d o behind within;
  }

  -- the cover of one block
  cover_one : (at : ℕ) → cover_of at (at + 1) ≡ subtree 0 at ∷ []
  cover_one at =
      let largest : IsLargest 0 at (at + 1) = record { begins = omega arith; ends = omega arith; next = λ even. omega arith } in
      let place : at / 2 ^ 0 ≡ at = omega arith in
      cover-some 0 at (at + 1) largest
      ∙ ap (λ (trees : List Subtree). subtree 0 (at / 2 ^ 0) ∷ trees) (cover-none (at + 2 ^ 0) (at + 1) (omega arith))
      ∙ ap (λ (o : ℕ). subtree 0 o ∷ []) place

  -- the new part has the bytes of the blocks
  bytes_from : (rest : List (List ℕ)) (at : ℕ) → n ≤ at → at + length rest ≡ to → ((k : ℕ) → get_or rest k [] ≡ get_or more (at + k - n) [])
      → sum_over (size_of (joined known)) (cover_of at to) ≡ bytes_of rest
  bytes_from [] at behind all same = ap (sum_over (size_of (joined known))) (cover-none at to (omega (arith, all)))
  bytes_from (x ∷ rest) at behind all same =
      let size = size_of (joined known) in
      let adds : AddsUp size at (at + 1) to = λ d o low before past within. paired_size known d o (known_paired d o (omega (arith, behind, low)) within) in
      let split = sum_cover-split size at (at + 1) to (omega arith) (omega (arith, all)) adds in
      let place : at - n ≡ at + 0 - n = omega arith in
      let is : get_or more (at - n) [] ≡ x = ap (λ (k : ℕ). get_or more k []) place ∙ sym (same 0) in
      let here : size 0 at ≡ length x =
      size_stored (joined known) 0 at _ (joined-known known 0 at _ (known_leaf at behind (omega (arith, all)))) ∙ ap length is in
      let one : sum_over size (cover_of at (at + 1)) ≡ size 0 at = ap (sum_over size) (cover_one at) ∙ omega arith in
      let next : (k : ℕ) → get_or rest k [] ≡ get_or more (at + 1 + k - n) [] = λ k.
      let further : at + suc k - n ≡ at + 1 + k - n = omega arith in
      same (suc k) ∙ ap (λ (j : ℕ). get_or more j []) further in
      let others = bytes_from rest (at + 1) (omega (arith, behind)) (omega (arith, all)) next in
      omega (arith, split, one, here, others, sum_by-cons length x rest)

  known_bytes : sum_over (size_of (joined known)) (cover_of n to) ≡ bytes_of more
  known_bytes = bytes_from more n (omega arith) (omega arith) (λ k. let place : k ≡ n + k - n = omega arith in ap (λ (j : ℕ). get_or more j []) place)

  known_hash : ((d o : ℕ) (twig : Twig) → old d o ≡ Some twig → length twig.hash ≡ 32) → (d o : ℕ) (twig : Twig) → known d o ≡ Some twig → length twig.hash ≡ 32
  known_hash wide d o twig is = elim (cases_lt n (end_block_of d o)) [
    | inr within ↦ wide d o twig (sym (known_below d o within) ∙ is)
    | inl past ↦ behind d o past is
  ]
    where
      behind : (d o : ℕ) → n < end_block_of d o → known d o ≡ Some twig → length twig.hash ≡ 32
      behind zero o past is = elim (cases_lt o to) [
        | inl less ↦
            let same : leaf_of (get_or more (o - n) []) ≡ twig = let e = sym (known_leaf o (omega (arith, past, leaf o)) less) ∙ is in cc in
            ap (λ (t : Twig). length t.hash) (sym same) ∙ length_hash_of _
        | inr more_than ↦
            let none : known 0 o ≡ None = known_past o (omega (arith, past, leaf o)) more_than in
            let clash : None ≡ Some twig = sym none ∙ is in
            cc
      ]
      behind (suc d) o past is = let clash : None ≡ Some twig = sym (known_none d o past) ∙ is in cc

-- ---- the blocks

with_old : (n : ℕ) (more : List (List ℕ)) (block : Blocks) (index : ℕ) → index < n → blocks_with n more block index ≡ block index
with_old n more block index less = rw (lt-ltb index n less) refl

with_new : (n : ℕ) (more : List (List ℕ)) (block : Blocks) (index : ℕ) → n ≤ index → blocks_with n more block index ≡ slice_get more (index - n)
with_new n more block index behind = rw (le-ltb index n behind) refl

pub all_get : {X : Type 0} (P : X → Type 0) (xs : List X) (k : ℕ) (x : X) → AllByRecursion P xs → slice_get xs k ≡ Some x → P x
all_get P [] k x all is = cc
all_get P (y ∷ xs) zero x all is = let same : y ≡ x = cc in subst P same all.0
all_get P (y ∷ xs) (suc k) x all is = all_get P xs k x all.1 is

-- what holds of each holds of one more
pub all_push : {X : Type 0} (P : X → Type 0) (xs : List X) (x : X) → AllByRecursion P xs → P x → AllByRecursion P (xs ++ x ∷ [])
all_push P [] x all here = (here, tt)
all_push P (y ∷ xs) x all here = (all.0, all_push P xs x all.1 here)

-- and what follows from it holds of each
pub all_so : {X : Type 0} (P Q : X → Type 0) → ((x : X) → P x → Q x) → (xs : List X) → AllByRecursion P xs → AllByRecursion Q xs
all_so P Q so [] all = tt
all_so P Q so (x ∷ xs) all = (so x all.0, all_so P Q so xs all.1)

module _ (m : Content) (more : List (List ℕ)) (sound : IsSound m) (fits : AppendFits more m) where
  abbrev after : Blocks
  after = blocks_with m.length more m.block

  after_fit : BlocksFit (m.length + length more) after
  after_fit = record { below = λ index bytes is. (each index bytes is).0; size = λ index bytes is. (each index bytes is).1 }
    where
      each : (index : ℕ) (bytes : List ℕ) → after index ≡ Some bytes → (index < m.length + length more) × (length bytes ≤ MAX_BLOCK_BYTES)
      each index bytes is = elim (cases_lt index m.length) [
        | inl less ↦
            let there = sym (with_old m.length more m.block index less) ∙ is in
            (omega (arith, less), sound.blocks.size index bytes there)
        | inr behind ↦
            let there = sym (with_new m.length more m.block index behind) ∙ is in
            (omega (arith, slice_get_within more (index - m.length) bytes there, behind), all_get _ more (index - m.length) bytes fits.sizes there)
      ]

  after_leaves : LeavesAgree after (joined (with_blocks m.length m.node more))
  after_leaves index bytes is = elim (cases_lt index m.length) [
    | inl less ↦
        let there = sound.leaves index bytes (sym (with_old m.length more m.block index less) ∙ is) in
        joined-known _ 0 index _ (known_below m.length m.node more 0 index (omega (arith, less, leaf index)) ∙ there)
    | inr behind ↦
        let there = sym (with_new m.length more m.block index behind) ∙ is in
        let within : index < m.length + length more = omega (arith, slice_get_within more (index - m.length) bytes there, behind) in
        let same = get_or_from_slice_get more (index - m.length) bytes [] there in
        joined-known _ 0 index _ (known_leaf m.length m.node more index behind within ∙ ap (λ (b : List ℕ). Some (leaf_of b)) same)
  ]

  append_extended : IsExtended m (m.length + length more) after (with_blocks m.length m.node more)
  append_extended = record {
    longer = known_longer m.length m.node more after;
    old = λ index less is_held. ap is_some (sym (with_old m.length more m.block index less)) ∙ is_held;
    blocks = after_fit;
    leaves = after_leaves;
    hashes = known_hash m.length m.node more (λ d o twig is. (sound.fit d o twig is).hash);
    bytes = omega (arith, known_bytes m.length m.node more, fits.bytes);
  }

-- ---- the law

pub append_sound : (m : Content) (more : List (List ℕ)) (signature : List ℕ) → IsSound m → AppendFits more m → IsSound (append_content more signature m)
append_sound m more signature sound fits =
    let known_now = with_blocks m.length m.node more in
    sound_on (m.length + length more) (blocks_with m.length more m.block) (joined known_now) m.fork signature
    (extended_sound m (m.length + length more) (blocks_with m.length more m.block) known_now sound (append_extended m more sound fits))

pub append_whole : (accepts : List ℕ → List ℕ → Bool) (m : Content) (more : List (List ℕ)) (signature : List ℕ) → IsSound m → m.fork ≤ MAX_FORK
    → AppendFits more m
    → IsSigned accepts (append_content more signature m) → IsWhole accepts (append_content more signature m)
append_whole accepts m more signature sound fork fits signed =
    extended_whole accepts m (m.length + length more) signature (blocks_with m.length more m.block) (with_blocks m.length m.node more) sound
    fork (append_extended m more sound fits) fits.blocks signed
