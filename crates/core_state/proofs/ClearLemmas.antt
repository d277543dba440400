-- A content in memory that gives blocks up.
use Rattle.std.proofs.Common.{◌≡◌, ℕ, Bool, true, false, ◌<◌, ◌≤◌, List, length, None, refl, sym, ap, subst, ◌∙◌, arith, inl, inr, nat_le, slice_get, if◌then◌else◌}
use Rattle.std.specs.Prelude.{◌&&◌, not, ◌⊎◌}
use Rattle.std.proofs.lemmas.Bool.{cases_lt, and_parts, not-true, not-false, leb-true, lt-ltb, le-leb}
use Rattle.bit_field.specs.Places.{has, SetsRange}
use Rattle.commit_book.specs.History.{is_between}
use Rattle.merkle_nodes.specs.declared.roots.Head.{Head}
use Rattle.node_set.specs.Closure.{closed_on}
use Rattle.node_set.specs.Contents.{Content, roots}
use Rattle.node_set.specs.Nodes.{values_of}
use Rattle.node_set.specs.Whole.{IsSound, KeepsLimits, IsWhole}
use Rattle.node_set.specs.Changes.{content_on, clear_content, blocks_without}
use Rattle.node_set.proofs.KeepsWhole.{clear_whole, clear_roots}
use Rattle.core_forks.specs.Refusals.{clear_refusal}
use Rattle.merkle_nodes.specs.Roots.{root_hash_of}
use Rattle.core_state.specs.InMemory.{Stored, content_of, IsKept}
use Rattle.core_state.proofs.FitLemmas.{not_refused}
use Rattle.core_state.proofs.ShownLemmas.{FitParts, KeepsPart, part_shows, blocks_given_up}
use Rattle.core_state.proofs.CutLemmas.{any, kept_values, kept_whole}

-- a clearing that isn't refused is of an ordered range within the log
pub clear_passes : (m : Content) (from to : ℕ) → clear_refusal m from to ≡ None → (from ≤ to) × (to ≤ m.length)
clear_passes m from to none =
    let within = not-false (nat_le from to && nat_le to m.length) (not_refused _ _ none) in
    let both = and_parts (nat_le from to) (nat_le to m.length) within in
    (leb-true from to both.0, leb-true to m.length both.1)

-- the blocks of a range were given up
pub record IsClearedOf (s now : Stored) (from to : ℕ) : Type 0 where
  pub head : now.parts.head ≡ s.parts.head
  pub roots_stay : now.roots ≡ s.roots
  pub root_stays : now.root ≡ s.root
  pub places : length now.parts.held ≡ length s.parts.held
  pub held : SetsRange false from to (has s.parts.held) (has now.parts.held)
  pub values : values_of now.parts.nodes ≡ closed_on s.parts.head.length (has now.parts.held) (values_of s.parts.nodes)
  pub count : length now.parts.blocks ≡ length s.parts.blocks
  pub blocks : (index : ℕ) → (index < from) ⊎ (to ≤ index) → slice_get now.parts.blocks index ≡ slice_get s.parts.blocks index

-- a place outside a range that is unset keeps its own
unset_or_was : (test was : Bool) → (if test then false else was) ≡ (was && not test)
unset_or_was true true = refl
unset_or_was true false = refl
unset_or_was false true = refl
unset_or_was false false = refl

module _ (s old now : Stored) (kept : IsKept s) (is : s ≡ old) (from to : ℕ) (cleared : IsClearedOf s now from to) where
  abbrev m : Content
  m = content_of s

  same_length : now.parts.head.length ≡ m.length
  same_length = ap (λ (h : Head). h.length) cleared.head

  held_left : (index : ℕ) → has now.parts.held index ≡ (has s.parts.held index && not (is_between from to index))
  held_left index = cleared.held index ∙ unset_or_was (is_between from to index) (has s.parts.held index)

  left_fit : FitParts now.parts
  left_fit = record {
    spare = λ index there.
        let both = and_parts (has s.parts.held index) (not (is_between from to index)) (sym (held_left index) ∙ there) in
        omega (arith, kept.spare index both.0, same_length);
    blocks = cleared.count ∙ kept.blocks ∙ sym same_length;
  }

  outside : (index : ℕ) → is_between from to index ≡ false → (index < from) ⊎ (to ≤ index)
  outside index out = elim (cases_lt index from) [
    | inl before ↦ inl before
    | inr from_on ↦ elim (cases_lt index to) [
      | inr behind ↦ inr behind
      | inl before ↦ let in_range : is_between from to index ≡ true = rw (le-leb from index from_on) (lt-ltb index to before) in cc
    ]
  ]

  left_part : KeepsPart s.parts now.parts m.fork m.length (blocks_without from to m.block)
  left_part = record {
    fork_is = ap (λ (h : Head). h.fork) cleared.head;
    length_is = same_length;
    fit = left_fit;
    blocks = blocks_given_up s.parts now.parts from to held_left (λ index there.
        let both = and_parts (has s.parts.held index) (not (is_between from to index)) (sym (held_left index) ∙ there) in
        cleared.blocks index (outside index (not-true (is_between from to index) both.1)));
    nodes = kept_values m.length (has now.parts.held) (values_of s.parts.nodes) (values_of now.parts.nodes) cleared.values;
  }

  whole_left : IsWhole any (clear_content from to m)
  whole_left = clear_whole any m from to (kept_whole m kept.sound kept.limits)

  left_shows : content_of now ≡ clear_content from to m
  left_shows =
      let same : now.parts.head.signature ≡ m.signature = ap (λ (h : Head). h.signature) cleared.head in
      let with_signature = λ (signature : List ℕ). content_on m.fork m.length signature (blocks_without from to m.block) m.node in
      part_shows s.parts now.parts m.fork m.length (blocks_without from to m.block) left_part
      (subst (λ (signature : List ℕ). IsSound (with_signature signature)) (sym same) whole_left.sound)
      ∙ ap with_signature same

  pub left_kept : IsKept now
  left_kept = record {
    places = omega (arith, same_length, kept.places, cleared.places);
    spare = left_fit.spare;
    blocks = left_fit.blocks;
    root_is = cleared.root_stays ∙ kept.root_is ∙ ap root_hash_of (sym cleared.roots_stay);
    root_nodes = cleared.roots_stay ∙ kept.root_nodes ∙ sym (clear_roots m from to) ∙ ap roots (sym left_shows);
    sound = subst IsSound (sym left_shows) whole_left.sound;
    limits = subst KeepsLimits (sym left_shows) whole_left.limits;
  }

  pub left_clears : content_of now ≡ clear_content from to (content_of old)
  left_clears = left_shows ∙ ap (λ (t : Stored). clear_content from to (content_of t)) is
