-- What a content in memory answers as a view, by what its parts keep.
use Rattle.std.proofs.Common.{◌≡◌, ℕ, Bool, true, false, ◌≤◌, List, ◌++◌, get_or, length, length-append, take, option_map, Some, None, inl, inr, refl, sym, ap, subst, ◌∙◌, arith}
use Rattle.std.specs.Prelude.{Option, is_some, IfSome}
use Rattle.std.specs.List.{AllByRecursion}
use Rattle.std.proofs.lemmas.Bool.{cases_Bool}
use Rattle.std.proofs.lemmas.Option.{slice_get-get_or}
use Rattle.std.proofs.Math.Seq.{take-append_seam}
use mathlib.Core.Path.{fun_ext}
use Rattle.flat_tree.specs.Subtrees.{number}
use Rattle.flat_tree.proofs.NumberLemmas.{some_number}
use Rattle.flat_tree.specs.declared.limits.TheConstants.{MAX_BLOCK_BYTES, MAX_CORE_BYTES}
use Rattle.bit_field.specs.Places.{has, count_below, AllHave}
use Rattle.bit_field.proofs.Counts.{count_below-unset}
use Rattle.merkle_batch.proofs.NodeLists.{sizes_fit}
use Rattle.merkle_nodes.specs.declared.node.Node.{Node}
use Rattle.merkle_nodes.specs.declared.node.Twig.{Twig}
use Rattle.merkle_nodes.specs.declared.limit.Info.{Info}
use Rattle.merkle_nodes.specs.Roots.{twig_of, root_hash_of}
use Rattle.commit_book.specs.declared.commit.Commit.{Commit}
use Rattle.node_set.specs.declared.fault.Receipt.{Receipt}
use Rattle.node_set.specs.Contents.{held, roots, bytes_under}
use Rattle.node_set.specs.Closure.{in_closure}
use Rattle.node_set.specs.Nodes.{values_of}
use Rattle.node_set.specs.Views.{IsUsable, GivesNode, GivesBlock}
use Rattle.core_state.specs.States.{info_of, receipt_of}
use Rattle.core_state.proofs.ShownLemmas.{FitParts, shown_held}
use Rattle.core_state.specs.InMemory.{Stored, content_of, IsKept, view_of}

abbrev info_with : ℕ → ℕ → ℕ → ℕ → List ℕ → Info
info_with fork blocks bytes count root = record { fork = fork; length = blocks; bytes = bytes; held = count; root = root }

abbrev pub receipt_with : ℕ → ℕ → List ℕ → Option Commit → Receipt
receipt_with fork blocks root commit = record { fork = fork; length = blocks; root = root; commit = commit }

some_of_map : (found : Option Node) → is_some (option_map twig_of found) ≡ is_some found
some_of_map None = refl
some_of_map (Some node) = refl

module _ (s : Stored) (kept : IsKept s) where
  fit : FitParts s.parts
  fit = record { spare = kept.spare; blocks = kept.blocks }

  -- the held indices are those of the set
  pub held_is : held (content_of s) ≡ has s.parts.held
  held_is = fun_ext (shown_held s.parts fit)

  pub root_sizes : AllByRecursion (λ (node : Node). node.size ≤ MAX_CORE_BYTES) s.roots
  root_sizes =
      subst (AllByRecursion (λ (node : Node). node.size ≤ MAX_CORE_BYTES)) (sym kept.root_nodes) (sizes_fit (roots (content_of s)) kept.limits.bytes)

  pub usable : IsUsable (content_of s)
  usable = record {
    blocks = kept.limits.blocks;
    fork = kept.limits.fork;
    sizes = sizes_fit (roots (content_of s)) kept.limits.bytes;
    below = λ index is. kept.spare index (sym (shown_held s.parts fit index) ∙ is);
  }

  -- the head in short
  pub held_count : count_below (has s.parts.held) (length s.parts.held) ≡ count_below (held (content_of s)) s.parts.head.length
  held_count =
      count_below-unset (has s.parts.held) s.parts.head.length (length s.parts.held) kept.places no_place
      ∙ ap (λ (bits : ℕ → Bool). count_below bits s.parts.head.length) (sym held_is)
    where
      no_place : AllHave false s.parts.head.length (length s.parts.held) (has s.parts.held)
      no_place index past within = elim (cases_Bool (has s.parts.held index)) [
        | inl here ↦ absurd (omega (arith, past, kept.spare index here))
        | inr none ↦ none
      ]

  pub info_is : (bytes count : ℕ) (root : List ℕ) → bytes ≡ bytes_under s.roots → count ≡ count_below (has s.parts.held) (length s.parts.held)
      → root ≡ root_hash_of s.roots
      → info_with s.parts.head.fork s.parts.head.length bytes count root ≡ info_of (content_of s)
  info_is bytes count root bytes_are count_is root_is =
      let m = content_of s in
      let info = λ (bytes count : ℕ) (root : List ℕ). info_with m.fork m.length bytes count root in
      ap (λ (b : ℕ). info b count root) (bytes_are ∙ ap bytes_under kept.root_nodes)
      ∙ ap (λ (k : ℕ). info (bytes_under (roots m)) k root) (count_is ∙ held_count)
      ∙ ap (info (bytes_under (roots m)) (count_below (held m) m.length)) (root_is ∙ ap root_hash_of kept.root_nodes)

  pub receipt_is : (commit : Option Commit) (root : List ℕ) → root ≡ root_hash_of s.roots
      → receipt_with s.parts.head.fork s.parts.head.length root commit ≡ receipt_of (content_of s) commit
  receipt_is commit root root_is =
      ap (λ (r : List ℕ). receipt_with s.parts.head.fork s.parts.head.length r commit) (root_is ∙ ap root_hash_of kept.root_nodes)

  -- a node of a number, where it is told whether that is to be stored
  module _ (index : ℕ) where
    abbrev stored_by : Bool → Type 0
    stored_by answer = (depth offset : ℕ) → number depth offset ≡ index → answer ≡ in_closure s.parts.head.length (has s.parts.held) depth offset

    stored_at : (answer : Bool) → stored_by answer → (depth offset : ℕ) → number depth offset ≡ index
        → answer ≡ in_closure s.parts.head.length (held (content_of s)) depth offset
    stored_at answer by depth offset there =
        by depth offset there ∙ ap (λ (bits : ℕ → Bool). in_closure s.parts.head.length bits depth offset) (sym held_is)

    pub gives_none : stored_by false → GivesNode (view_of s) index None
    gives_none by = record {
      closed = stored_at false by;
      content = λ stands depth offset there. rw (sym (by depth offset there)) refl;
      shown = λ shows depth offset there. rw (sym (by depth offset there)) refl;
      numbered = λ node none. cc;
      size = λ node none. cc;
    }

    module _ (found : Option Node) (by : stored_by true)
        (value : (depth offset : ℕ) → number depth offset ≡ index → option_map twig_of found ≡ values_of s.parts.nodes depth offset)
        (numbered : IfSome found (λ (node : Node). node.index ≡ index)) where
      found_node : (depth offset : ℕ) → number depth offset ≡ index → option_map twig_of found ≡ (content_of s).node depth offset
      found_node depth offset there =
          let shows : (content_of s).node depth offset ≡ values_of s.parts.nodes depth offset = rw (sym (by depth offset there)) refl in
          value depth offset there ∙ sym shows

      found_size : (node : Node) → found ≡ Some node → node.size ≤ MAX_CORE_BYTES
      found_size node is =
          let place = some_number index in
          let stored = sym (found_node place.0 place.1.0 (sym place.1.1)) ∙ ap (λ (o : Option Node). option_map twig_of o) is in
          (kept.sound.fit place.0 place.1.0 (twig_of node) stored).size

      pub gives_found : GivesNode (view_of s) index found
      gives_found = record {
        closed = λ depth offset there.
            sym (some_of_map found) ∙ ap (λ (o : Option Twig). is_some o) (found_node depth offset there) ∙ kept.sound.closed depth offset;
        content = λ stands. found_node;
        shown = λ shows. found_node;
        numbered = λ node is. subst (λ (o : Option Node). IfSome o (λ (node : Node). node.index ≡ index)) is numbered;
        size = found_size;
      }

  -- a held block, whose bytes were written to the front of a place
  module _ (old : Stored) (is : s ≡ old) (index : ℕ) (block bytes written rest : List ℕ) (is_held : held (content_of old) index ≡ true)
      (read : block ≡ get_or s.parts.blocks index block) (same_bytes : bytes ≡ block) where
    shown_block : (content_of s).block index ≡ Some bytes
    shown_block =
        let here : held (content_of s) index ≡ true = ap (λ (t : Stored). held (content_of t) index) is ∙ is_held in
        let bit : has s.parts.held index ≡ true = sym (shown_held s.parts fit index) ∙ here in
        let there = slice_get-get_or s.parts.blocks index block (omega (arith, kept.spare index bit, kept.blocks)) in
        rw bit (there ∙ ap Some (sym read ∙ sym same_bytes))

    pub block_size : length bytes ≤ MAX_BLOCK_BYTES
    block_size = kept.sound.blocks.size index bytes shown_block

    pub gives_block : written ≡ bytes → GivesBlock (view_of old) index (written ++ rest) (length bytes)
    gives_block copied =
        let front : take (length bytes) (written ++ rest) ≡ bytes =
        ap (λ (xs : List ℕ). take (length bytes) (xs ++ rest)) copied ∙ take-append_seam bytes rest in
        record {
          size = block_size;
          within = omega (arith, length-append written rest, ap length copied);
          content = λ stands. ap (λ (t : Stored). (content_of t).block index) (sym is) ∙ shown_block ∙ ap Some (sym front);
          shown = λ shows. ap (λ (t : Stored). (content_of t).block index) (sym is) ∙ shown_block ∙ ap Some (sym front);
        }
