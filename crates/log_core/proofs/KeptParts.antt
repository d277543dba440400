-- What a log in memory answers as a view, by what its parts keep.
use Rattle.std.proofs.Common.{◌≡◌, ℕ, Bool, true, false, ◌≤◌, inl, inr, List, ◌++◌, get_or, slice_get, length, length-append, take, Some, None, refl, sym, ap, ◌∙◌, arith}
use Rattle.std.specs.Prelude.{is_some}
use Rattle.std.proofs.lemmas.Bool.{cases_Bool}
use Rattle.std.proofs.lemmas.Option.{slice_get-get_or}
use Rattle.std.proofs.lemmas.Slice.Eq.{bytes_eq-Decides}
use Rattle.std.proofs.Math.Seq.{take-append_seam}
use mathlib.Core.Path.{fun_ext}
use Rattle.flat_tree.specs.Subtrees.{number}
use Rattle.flat_tree.proofs.NumberLemmas.{some_number}
use Rattle.flat_tree.specs.declared.limits.TheConstants.{MAX_BLOCK_BYTES}
use Rattle.bit_field.specs.Places.{has, count_below, AllHave}
use Rattle.bit_field.proofs.Counts.{count_below-unset}
use Rattle.merkle_batch.proofs.NodeLists.{sizes_fit}
use Rattle.merkle_nodes.specs.declared.node.Node.{Node}
use Rattle.merkle_nodes.specs.Roots.{twig_of}
use Rattle.node_set.specs.Contents.{held, roots}
use Rattle.node_set.specs.Nodes.{value_at, values_of}
use Rattle.node_set.specs.Tables.{shown}
use Rattle.log_view.specs.Views.{IsUsable, IsStored, GivesNode, GivesBlock}
use Rattle.log_change.proofs.Applied.{as_stored}
use Rattle.log_core.specs.Memory.{Stored, IsKept, memory_view}
use Rattle.log_core.proofs.ShownParts.{FitParts, shown_held, on_hand}

module _ (s : Stored) (kept : IsKept s) where
  pub fit : FitParts s.parts
  fit = record { spare = kept.spare; blocks = kept.blocks }

  -- the held indices are those of the set
  pub held_is : held (shown s.parts) ≡ has s.parts.held
  held_is = fun_ext (shown_held s.parts fit)

  pub usable : IsUsable (shown s.parts)
  usable = record {
    blocks = kept.limits.blocks;
    fork = kept.limits.fork;
    sizes = sizes_fit (roots (shown s.parts)) kept.limits.bytes;
    below = λ index is. kept.spare index (sym (shown_held s.parts fit index) ∙ is);
  }

  pub held_count : count_below (has s.parts.held) (length s.parts.held) ≡ count_below (held (shown s.parts)) s.parts.head.length
  held_count =
      count_below-unset (has s.parts.held) s.parts.head.length (length s.parts.held) kept.places no_place
      ∙ ap (λ (bits : ℕ → Bool). count_below bits s.parts.head.length) (sym held_is)
    where
      no_place : AllHave false s.parts.head.length (length s.parts.held) (has s.parts.held)
      no_place index past within = elim (cases_Bool (has s.parts.held index)) [
        | inl here ↦ absurd (omega (arith, past, kept.spare index here))
        | inr none ↦ none
      ]

  module _ (index : ℕ) (stored : IsStored (memory_view s).source index) where
    -- a node that is to be stored is the one on hand
    there : (depth offset : ℕ) → number depth offset ≡ index → (shown s.parts).node depth offset ≡ value_at s.parts.nodes index
    there depth offset is =
        let some : is_some ((shown s.parts).node depth offset) ≡ true = kept.sound.closed depth offset ∙ stored depth offset is in
        on_hand s.parts.head.length (has s.parts.held) (values_of s.parts.nodes) depth offset some ∙ ap (value_at s.parts.nodes) is

    pub is_there : is_some (value_at s.parts.nodes index) ≡ true
    is_there =
        let place = some_number index in
        ap is_some (sym (there place.0 place.1.0 (sym place.1.1))) ∙ kept.sound.closed place.0 place.1.0 ∙ stored place.0 place.1.0 (sym place.1.1)

    pub gives_node : (node : Node) → Some (twig_of node) ≡ value_at s.parts.nodes index → node.index ≡ index → GivesNode (memory_view s).source index node
    gives_node node at numbered =
        let place = some_number index in
        record {
          numbered = numbered;
          size = (kept.sound.fit place.0 place.1.0 (twig_of node) (there place.0 place.1.0 (sym place.1.1) ∙ sym at)).size;
          given = as_stored (value_at s.parts.nodes index) (twig_of node) (sym at);
          shown = λ shows depth offset is. there depth offset is ∙ sym at;
        }

  -- a held block, whose bytes were written to the front of a buffer
  module _ (index : ℕ) (block bytes written rest : List ℕ) (is_held : held (shown s.parts) index ≡ true)
      (read : block ≡ get_or s.parts.blocks index block) (same : bytes ≡ block) where
    bit : has s.parts.held index ≡ true
    bit = sym (shown_held s.parts fit index) ∙ is_held

    get_block : slice_get s.parts.blocks index ≡ Some bytes
    get_block =
        slice_get-get_or s.parts.blocks index block (omega (arith, kept.spare index bit, kept.blocks)) ∙ ap Some (sym read ∙ sym same)

    shown_block : (shown s.parts).block index ≡ Some bytes
    shown_block = rw bit get_block

    pub block_size : length bytes ≤ MAX_BLOCK_BYTES
    block_size = kept.sound.blocks.size index bytes shown_block

    pub gives_block : written ≡ bytes → GivesBlock (memory_view s).source index (written ++ rest) (length bytes)
    gives_block copied =
        let front : take (length bytes) (written ++ rest) ≡ bytes =
        ap (λ (xs : List ℕ). take (length bytes) (xs ++ rest)) copied ∙ take-append_seam bytes rest in
        record {
          size = block_size;
          within = omega (arith, length-append written rest, ap length copied);
          given = rw (get_block, front) ((bytes_eq-Decides bytes bytes).1 refl);
          shown = λ shows. shown_block ∙ ap Some (sym front);
        }

pub no_node : (s : Stored) (index : ℕ) → is_some (value_at s.parts.nodes index) ≡ true → None ≡ value_at s.parts.nodes index → ⊥
no_node s index some none = let clash : false ≡ true = ap is_some none ∙ some in cc
