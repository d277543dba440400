-- Pages pruned one after the other, and those past the log's end dropped.
use Rattle.std.proofs.Common.{◌≡◌, ℕ, Bool, true, false, ◌+◌, ◌*◌, ◌/◌, ◌%◌, ◌<◌, ◌≤◌, List, [], length, set, take, get_or, None, inl, inr, if◌then◌else◌, refl, sym, ap, ◌∙◌, arith}
use Rattle.std.specs.Prelude.{Option}
use Rattle.std.proofs.lemmas.Bool.{cases_lt}
use Rattle.std.proofs.lemmas.List.{get_or_past, get_or_default, get_or-take, length-set}
use mathlib.Core.Path.{fun_ext}
use Rattle.flat_tree.specs.Subtrees.{number}
use Rattle.merkle_nodes.specs.declared.node.Twig.{Twig}
use Rattle.node_set.specs.declared.page.TheConstants.{PAGE_NODES}
use Rattle.node_set.specs.Closure.{in_closure, closed_on}
use Rattle.node_set.specs.Nodes.{NodePages, nodes_in, page_at, has_place, values_of}
use Rattle.node_set.proofs.PageLemmas.{page_at-set_same, page_at-set_other, has_place-set}
use Rattle.node_set.proofs.StoredTest.{past_closure}

-- nothing is nothing, whether it is kept or not
abbrev none_if : Bool → Option Twig
none_if there = if there then None else None

either_none : (there : Bool) → none_if there ≡ None
either_none true = refl
either_none false = refl

module _ (n : ℕ) (held : ℕ → Bool) where
  -- so many pages have what is to be stored alone, and the others are as they were
  pub record ArePruned (count : ℕ) (old now : List (List (Option Twig))) : Type 0 where
    pub size : length now ≡ length old
    pub places : (index : ℕ) → has_place (nodes_in now) index ≡ has_place (nodes_in old) index
    pub rest : (index : ℕ) → count * PAGE_NODES ≤ index → page_at (nodes_in now) index ≡ page_at (nodes_in old) index
    pub values : (depth offset : ℕ) → number depth offset < count * PAGE_NODES
        → values_of (nodes_in now) depth offset ≡ closed_on n held (values_of (nodes_in old)) depth offset

  pub none_pruned : (pages : List (List (Option Twig))) → ArePruned 0 pages pages
  none_pruned pages = record {
    size = refl;
    places = λ index. refl;
    rest = λ index past. refl;
    values = λ depth offset within. absurd (omega (arith, within));
  }

  -- a page has what is to be stored alone, of the numbers from the first on
  abbrev IsPruned : ℕ → List (Option Twig) → List (Option Twig) → Type 0
  IsPruned first old new = (depth offset place : ℕ) → number depth offset ≡ first + place
      → get_or new place None ≡ (if in_closure n held depth offset then get_or old place None else None)

  pub one_pruned : (old now new : List (List (Option Twig))) (at : ℕ) (page changed : List (Option Twig)) → ArePruned at old now → at < length now
      → page ≡ get_or now at page → length changed ≡ length page → IsPruned (at * PAGE_NODES) page changed → new ≡ set now at changed
      → ArePruned (at + 1) old new
  one_pruned old now new at page changed so_far within read same pruned is =
      let read_at : page ≡ get_or now at [] = read ∙ get_or_default now at page [] within in
      let is_set = ap nodes_in is in
      record {
        size = ap length is ∙ length-set now at changed ∙ so_far.size;
        places = λ index.
            ap (λ (nodes : NodePages). has_place nodes index) is_set
            ∙ has_place-set now at changed within (same ∙ ap length read_at) index
            ∙ so_far.places index;
        rest = λ index past.
            ap (λ (nodes : NodePages). page_at nodes index) is_set
            ∙ page_at-set_other now at changed index (λ here. omega (arith, past, here))
            ∙ so_far.rest index (omega (arith, past));
        values = λ depth offset more. elim (cases_lt (number depth offset) (at * PAGE_NODES)) [
          | inl before ↦
              ap (λ (nodes : NodePages). values_of nodes depth offset) is_set
              ∙ ap (λ (page : List (Option Twig)). get_or page (number depth offset % PAGE_NODES) None)
              (page_at-set_other now at changed (number depth offset) (λ here. omega (arith, before, here)))
              ∙ so_far.values depth offset before
          | inr past ↦
              let index = number depth offset in
              let here : index / PAGE_NODES ≡ at = omega (arith, past, more) in
              let split : index ≡ at * PAGE_NODES + index % PAGE_NODES = omega (arith, here) in
              ap (λ (nodes : NodePages). values_of nodes depth offset) is_set
              ∙ ap (λ (page : List (Option Twig)). get_or page (index % PAGE_NODES) None) (page_at-set_same now at changed within index here)
              ∙ pruned depth offset (index % PAGE_NODES) split
              ∙ ap (λ (page : List (Option Twig)). if in_closure n held depth offset then get_or page (index % PAGE_NODES) None else None)
              (read_at ∙ ap (λ (i : ℕ). get_or now i []) (sym here) ∙ so_far.rest index past)
        ];
      }

  pub all_pruned : (count : ℕ) (old new : List (List (Option Twig))) → length old ≤ count → ArePruned count old new
      → values_of (nodes_in new) ≡ closed_on n held (values_of (nodes_in old))
  all_pruned count old new all pruned = fun_ext (λ depth. fun_ext (λ offset. elim (cases_lt (number depth offset) (count * PAGE_NODES)) [
    | inl within ↦ pruned.values depth offset within
    | inr past ↦
        let index = number depth offset in
        let gone : page_at (nodes_in old) index ≡ [] = get_or_past old (index / PAGE_NODES) [] (omega (arith, past, all)) in
        ap (λ (page : List (Option Twig)). get_or page (index % PAGE_NODES) None) (pruned.rest index past ∙ gone)
        ∙ sym (either_none (in_closure n held depth offset))
        ∙ sym (ap (λ (page : List (Option Twig)). if in_closure n held depth offset then get_or page (index % PAGE_NODES) None else None) gone)
  ]))

  -- the pages of the log's numbers, of which the others aren't in the closure
  module _ (pages : List (List (Option Twig))) (count : ℕ) (enough : 2 * n ≤ count * PAGE_NODES) where
    pub cut_page : (index : ℕ) → index < 2 * n → page_at (nodes_in (take count pages)) index ≡ page_at (nodes_in pages) index
    cut_page index within = get_or-take count pages (index / PAGE_NODES) [] (omega (arith, within, enough))

    pub cut_values : closed_on n held (values_of (nodes_in (take count pages))) ≡ closed_on n held (values_of (nodes_in pages))
    cut_values = fun_ext (λ depth. fun_ext (λ offset. elim (cases_lt (number depth offset) (2 * n)) [
      | inl within ↦
          ap (λ (page : List (Option Twig)). if in_closure n held depth offset then get_or page (number depth offset % PAGE_NODES) None else None)
          (cut_page (number depth offset) within)
      | inr past ↦ rw (past_closure n held depth offset past) refl
    ]))
