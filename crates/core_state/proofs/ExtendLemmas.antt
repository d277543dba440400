-- A content in memory whose room grows, and one that gets the blocks of a batch.
use Rattle.std.proofs.Common.{◌≡◌, ℕ, Bool, true, false, ◌+◌, ◌<◌, ◌≤◌, List, [], ◌∷◌, ◌++◌, length, length-append, map, Option, Some, None, refl, sym, ap, subst, ◌∙◌, arith, inl, inr, nat_le, nat_lt, slice_get, if◌then◌else◌}
use Rattle.std.specs.Prelude.{◌||◌, IsTrue, option_map}
use Rattle.std.proofs.lemmas.Bool.{or_cases, and_parts, ltb-true}
use mathlib.Core.Path.{fun_ext}
use Rattle.flat_tree.specs.Subtrees.{Subtree}
use Rattle.flat_tree.specs.Roots.{full_roots_of}
use Rattle.bit_field.specs.Places.{has, is_in, SetsRange}
use Rattle.commit_book.specs.History.{is_between}
use Rattle.merkle_nodes.specs.declared.node.Node.{Node}
use Rattle.merkle_nodes.specs.declared.node.Twig.{Twig}
use Rattle.merkle_nodes.specs.declared.roots.Head.{Head}
use Rattle.merkle_nodes.specs.Joined.{Values, joined, with_blocks}
use Rattle.merkle_nodes.specs.Nodes.{AreNodes, node_in}
use Rattle.merkle_nodes.specs.Roots.{node_of, root_hash_of, signed_text}
use Rattle.merkle_batch.specs.Batch.{BatchView, grown}
use Rattle.node_set.specs.Closure.{closed_on}
use Rattle.node_set.specs.Contents.{Content, held, node_at, roots}
use Rattle.node_set.specs.Nodes.{values_of, with_nodes}
use Rattle.node_set.specs.Whole.{IsSound, KeepsLimits, IsWhole}
use Rattle.node_set.specs.Changes.{append_content, blocks_with}
use Rattle.node_set.proofs.AppendLemmas.{append_whole}
use Rattle.node_set.proofs.RootTruth.{twig_at-some}
use Rattle.node_set.proofs.SoundLemmas.{roots_on}
use Rattle.core_state.specs.Batches.{IsBatch}
use Rattle.core_state.specs.InMemory.{Stored, content_of, IsKept}
use Rattle.core_state.specs.Turns.{Extends}
use Rattle.core_state.proofs.KeptLemmas.{usable}
use Rattle.core_state.proofs.ShownLemmas.{TakesBatch, append_shows}

-- ---- room

-- the same with places more, and nodes that are told alike
pub record HasGrown (s now : Stored) : Type 0 where
  pub head : now.parts.head ≡ s.parts.head
  pub roots : now.roots ≡ s.roots
  pub root : now.root ≡ s.root
  pub more : length s.parts.held ≤ length now.parts.held
  pub held : (index : ℕ) → has now.parts.held index ≡ has s.parts.held index
  pub values : values_of now.parts.nodes ≡ values_of s.parts.nodes
  pub blocks : now.parts.blocks ≡ s.parts.blocks

-- what is shown, by what is told of the parts
abbrev shown_by : Head → (ℕ → Bool) → Values → List (List ℕ) → Content
shown_by head set value blocks = record {
  fork = head.fork;
  length = head.length;
  signature = head.signature;
  block = λ index. if set index then slice_get blocks index else None;
  node = closed_on head.length set value;
}

module _ (s now : Stored) (grows : HasGrown s now) where
  pub grown_shows : content_of now ≡ content_of s
  grown_shows =
      let p = now.parts in
      let q = s.parts in
      ap (λ (h : Head). shown_by h (has p.held) (values_of p.nodes) p.blocks) grows.head
      ∙ ap (λ (set : ℕ → Bool). shown_by q.head set (values_of p.nodes) p.blocks) (fun_ext grows.held)
      ∙ ap (λ (value : Values). shown_by q.head (has q.held) value p.blocks) grows.values
      ∙ ap (shown_by q.head (has q.held) (values_of q.nodes)) grows.blocks

  pub grown_kept : IsKept s → IsKept now
  grown_kept kept =
      let same : now.parts.head.length ≡ s.parts.head.length = ap (λ (h : Head). h.length) grows.head in
      record {
        places = omega (arith, kept.places, grows.more, same);
        spare = λ index there. omega (arith, kept.spare index (sym (grows.held index) ∙ there), same);
        blocks = ap length grows.blocks ∙ kept.blocks ∙ sym same;
        root_nodes = grows.roots ∙ kept.root_nodes ∙ ap roots (sym grown_shows);
        root_is = grows.root ∙ kept.root_is ∙ ap root_hash_of (sym grows.roots);
        sound = subst IsSound (sym grown_shows) kept.sound;
        limits = subst KeepsLimits (sym grown_shows) kept.limits;
      }

-- ---- a batch

-- the nodes of subtrees with these values are those at the subtrees
pub nodes_are : (values : Values) (trees : List Subtree) (nodes : List Node) → AreNodes values trees nodes
    → nodes ≡ map (λ (tree : Subtree). node_at values tree.depth tree.offset) trees
nodes_are values [] [] are = refl
nodes_are values [] (node ∷ nodes) are = let clash : Some node ∷ map Some nodes ≡ [] = are in cc
nodes_are values (tree ∷ trees) [] are = let clash : [] ≡ node_in values tree ∷ map (node_in values) trees = are in cc
nodes_are values (tree ∷ trees) (node ∷ nodes) are =
    let first : Some node ≡ node_in values tree = cc in
    let rest : map Some nodes ≡ map (node_in values) trees = cc in
    let here = node_is values tree node first (values tree.depth tree.offset) refl in
    ap (λ (n : Node). n ∷ nodes) here
    ∙ ap (λ (ns : List Node). node_at values tree.depth tree.offset ∷ ns) (nodes_are values trees nodes rest)
  where
    node_is : (values : Values) (tree : Subtree) (node : Node) → Some node ≡ node_in values tree → (value : Option Twig)
        → values tree.depth tree.offset ≡ value → node ≡ node_at values tree.depth tree.offset
    node_is values tree node is None none =
        let clash : Some node ≡ None = is ∙ ap (option_map (node_of tree.depth tree.offset)) none in cc
    node_is values tree node is (Some twig) some =
        let whole : Some node ≡ Some (node_of tree.depth tree.offset twig) = is ∙ ap (option_map (node_of tree.depth tree.offset)) some in
        let same : node ≡ node_of tree.depth tree.offset twig = cc in
        same ∙ ap (node_of tree.depth tree.offset) (sym (twig_at-some values tree.depth tree.offset twig some))

-- a place that is set in a range, or was before
set_or_was : (test was : Bool) → (if test then true else was) ≡ (was || test)
set_or_was true true = refl
set_or_was true false = refl
set_or_was false true = refl
set_or_was false false = refl

-- the blocks and nodes of a batch came in, under a new head
pub record TakesIn (s now : Stored) (more : List (List ℕ)) (batch : BatchView) (set : ℕ → Bool) (value : Values) : Type 0 where
  pub fork : now.parts.head.fork ≡ s.parts.head.fork
  pub end : now.parts.head.length ≡ batch.base + batch.blocks
  pub signature : length now.parts.head.signature ≡ 64
  pub roots : now.roots ≡ batch.roots
  pub root : now.root ≡ root_hash_of batch.roots
  pub places : batch.base + batch.blocks ≤ length now.parts.held
  pub was_held : (index : ℕ) → set index ≡ has s.parts.held index
  pub held : SetsRange true s.parts.head.length now.parts.head.length set (has now.parts.held)
  pub was_stored : value ≡ values_of s.parts.nodes
  pub values : values_of now.parts.nodes ≡ with_nodes value batch.nodes
  pub blocks : now.parts.blocks ≡ s.parts.blocks ++ more

module _ (s old now : Stored) (kept : IsKept s) (is : s ≡ old) (more : List (List ℕ)) (batch : BatchView) (of_old : IsBatch (content_of old) more batch)
    (set : ℕ → Bool) (value : Values) (takes : TakesIn s now more batch set value) where
  abbrev m : Content
  m = content_of s

  of_m : IsBatch m more batch
  of_m = subst (λ (t : Stored). IsBatch (content_of t) more batch) (sym is) of_old

  end_is : now.parts.head.length ≡ m.length + length more
  end_is = omega (arith, takes.end, of_m.base, of_m.has_blocks.count)

  held_or : (index : ℕ) → has now.parts.held index ≡ (has s.parts.held index || is_between m.length (m.length + length more) index)
  held_or index =
      takes.held index
      ∙ ap (λ (b : Bool). if is_in m.length now.parts.head.length index then true else b) (takes.was_held index)
      ∙ ap (λ (n : ℕ). if is_in m.length n index then true else has s.parts.held index) end_is
      ∙ set_or_was (is_between m.length (m.length + length more) index) (has s.parts.held index)

  takes_batch : TakesBatch s.parts now.parts more batch
  takes_batch = record {
    base = of_m.base;
    has_blocks = of_m.has_blocks;
    few = of_m.fits.blocks;
    fork = takes.fork;
    length_is = end_is;
    places = held_or;
    blocks = takes.blocks;
    nodes = λ depth offset.
        ap (λ (v : Values). v depth offset) (takes.values ∙ ap (λ (v : Values). with_nodes v batch.nodes) takes.was_stored);
  }

  abbrev after : Content
  after = append_content more now.parts.head.signature m

  shows : content_of now ≡ after
  shows = append_shows s.parts now.parts more batch (record { spare = kept.spare; blocks = kept.blocks }) kept.sound takes_batch

  -- the limits hold whatever the verifier accepts
  whole_after : IsWhole (λ text signature. true) after
  whole_after =
      append_whole (λ text signature. true) m more now.parts.head.signature kept.sound kept.limits.fork of_m.fits
      (record { signature = takes.signature; accepted = refl })

  roots_now : batch.roots ≡ roots (content_of now)
  roots_now =
      let known = with_blocks m.length m.node more in
      let are : AreNodes (joined known) (full_roots_of (m.length + length more)) batch.roots =
      subst (λ (b : ℕ). AreNodes (grown b m.node more) (full_roots_of (b + length more)) batch.roots) of_m.base of_m.has_blocks.roots in
      nodes_are (joined known) (full_roots_of (m.length + length more)) batch.roots are
      ∙ sym (roots_on (m.length + length more) (blocks_with m.length more m.block) (joined known))
      ∙ ap roots (sym shows)

  pub taken_kept : IsKept now
  taken_kept = record {
    places = omega (arith, takes.end, takes.places);
    spare = λ index there. elim (or_cases (has s.parts.held index) (is_between m.length (m.length + length more) index) (sym (held_or index) ∙ there)) [
      | inl was ↦ omega (arith, kept.spare index was, end_is)
      | inr new ↦ omega (arith, ltb-true index (m.length + length more) (and_parts (nat_le m.length index) (nat_lt index (m.length + length more)) new).1, end_is)
    ];
    blocks = ap length takes.blocks ∙ length-append s.parts.blocks more ∙ omega (arith, kept.blocks, end_is);
    root_nodes = takes.roots ∙ roots_now;
    root_is = takes.root ∙ ap root_hash_of (sym takes.roots);
    sound = subst IsSound (sym shows) whole_after.sound;
    limits = subst KeepsLimits (sym shows) whole_after.limits;
  }

  pub taken_extends : (accepts : List ℕ → List ℕ → Bool) (root : List ℕ) → root ≡ root_hash_of batch.roots
      → IsTrue (accepts (signed_text root now.parts.head.length now.parts.head.fork) now.parts.head.signature)
      → Extends accepts (content_of old) more (content_of now)
  taken_extends accepts root root_is accepted = record {
    content = shows ∙ ap (λ (t : Stored). append_content more now.parts.head.signature (content_of t)) is;
    signed = record {
      signature = takes.signature;
      accepted = subst (λ (hash : List ℕ).
          IsTrue (accepts (signed_text hash now.parts.head.length now.parts.head.fork) now.parts.head.signature)) (root_is ∙ ap root_hash_of roots_now) accepted;
    };
    sound = taken_kept.sound;
    limits = taken_kept.limits;
  }

-- the held blocks are below the length
pub held_below : (s old : Stored) → IsKept s → s ≡ old → (index : ℕ) → held (content_of old) index ≡ true → index < (content_of old).length
held_below s old kept is =
    subst (λ (t : Stored). (index : ℕ) → held (content_of t) index ≡ true → index < (content_of t).length) is (usable s kept).below
