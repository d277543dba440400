-- Pages of nodes: a page put in place of another, and what is then seen of each number.
use Rattle.std.proofs.Common.{◌≡◌, ◌≢◌, ℕ, Bool, true, false, ◌+◌, ◌-◌, ◌/◌, ◌%◌, ◌<◌, ◌≤◌, List, [], ◌++◌, length, set, take, get_or, replicate, nat_lt, nat_eq, Some, None, inl, inr, if◌then◌else◌, refl, sym, ap, subst, ◌∙◌, arith}
use Rattle.std.specs.Prelude.{Option}
use Rattle.std.specs.List.{AllByRecursion}
use Rattle.std.proofs.lemmas.Option.{slice_get-get_or}
use Rattle.std.proofs.lemmas.Bool.{cases_lt, cases_eq, eq-eqb, ne_eqb, ltb-true, le-ltb}
use Rattle.std.proofs.lemmas.List.{get_or_past, get_or_default, get_or-set_same, get_or-set_other, get_or-replicate, get_or_append_left, get_or-append_right, length-replicate, take_all, take_more}
use mathlib.Core.Path.{fun_ext}
use Rattle.flat_tree.specs.Subtrees.{number}
use Rattle.merkle_nodes.specs.declared.node.Node.{Node}
use Rattle.merkle_nodes.specs.declared.node.Twig.{Twig}
use Rattle.merkle_nodes.specs.Roots.{twig_of}
use Rattle.node_set.specs.declared.page.TheConstants.{PAGE_NODES}
use Rattle.node_set.specs.Nodes.{NodePages, nodes_in, page_at, has_place, value_at, values_of, with_node}
use Rattle.node_set.proofs.AppendLemmas.{all_get, all_push, all_so}

-- places with nothing in them show nothing, and behind a list they change nothing that is seen
get_or-blanks : {A : Type 0} (more place : ℕ) → get_or {A = Option A} (replicate more None) place None ≡ None
get_or-blanks {A} more place = elim (cases_lt place more) [
  | inl within ↦ get_or-replicate more place None None within
  | inr past ↦ get_or_past {X = Option A} (replicate more None) place None (omega (arith, past, length-replicate {A = Option A} more None))
]

get_or-with_blanks : {A : Type 0} (xs : List (Option A)) (more place : ℕ) → get_or (xs ++ replicate more None) place None ≡ get_or xs place None
get_or-with_blanks xs more place = elim (cases_lt place (length xs)) [
  | inl within ↦ get_or_append_left xs (replicate more None) None place within
  | inr past ↦
      get_or-append_right xs (replicate more None) (length xs) place None refl past
      ∙ get_or-blanks more (place - length xs)
      ∙ sym (get_or_past xs place None past)
]

-- a page that is made as long as it is to be
pub filled_same : (old new : List (Option Twig)) (wanted more : ℕ) → new ≡ take wanted old ++ replicate more None → length old ≤ wanted
    → (place : ℕ) → get_or new place None ≡ get_or old place None
filled_same old new wanted more is long place =
    ap (λ (xs : List (Option Twig)). get_or xs place None) (is ∙ ap (λ (xs : List (Option Twig)). xs ++ replicate more None) (take_all wanted old long))
    ∙ get_or-with_blanks old more place

-- a page's answer for a number that is in it
abbrev seen_in : List (Option Twig) → ℕ → Option Twig
seen_in page index = get_or page (index % PAGE_NODES) None

abbrev fits_in : List (Option Twig) → ℕ → Bool
fits_in page index = nat_lt (index % PAGE_NODES) (length page)

-- a number has a place in a page of the directory alone
pub page_there : (nodes : NodePages) (index : ℕ) → has_place nodes index ≡ true → index / PAGE_NODES < length nodes.pages
page_there nodes index there = elim (cases_lt (index / PAGE_NODES) (length nodes.pages)) [
  | inl within ↦ within
  | inr past ↦
      let none : page_at nodes index ≡ [] = get_or_past nodes.pages (index / PAGE_NODES) [] past in
      let clash : true ≡ false =
      sym there ∙ ap (λ (page : List (Option Twig)). fits_in page index) none ∙ le-ltb (index % PAGE_NODES) 0 (omega arith) in
      cc
]

-- another page in place of one
module _ (pages : List (List (Option Twig))) (at : ℕ) (page : List (Option Twig)) where
  pub page_at-set_same : at < length pages → (index : ℕ) → index / PAGE_NODES ≡ at → page_at (nodes_in (set pages at page)) index ≡ page
  page_at-set_same within index is = ap (λ (i : ℕ). get_or (set pages at page) i []) is ∙ get_or-set_same pages at page [] within

  pub page_at-set_other : (index : ℕ) → index / PAGE_NODES ≢ at → page_at (nodes_in (set pages at page)) index ≡ page_at (nodes_in pages) index
  page_at-set_other index not = get_or-set_other pages at (index / PAGE_NODES) page [] not

  -- one of the same length has the same places
  pub has_place-set : at < length pages → length page ≡ length (get_or pages at []) → (index : ℕ)
      → has_place (nodes_in (set pages at page)) index ≡ has_place (nodes_in pages) index
  has_place-set within same index = elim (cases_eq (index / PAGE_NODES) at) [
    | inr other ↦ ap (λ (page : List (Option Twig)). fits_in page index) (page_at-set_other index other)
    | inl here ↦
        ap (λ (page : List (Option Twig)). fits_in page index) (page_at-set_same within index here)
        ∙ ap (λ (n : ℕ). nat_lt (index % PAGE_NODES) n) (same ∙ ap (λ (i : ℕ). length (get_or pages i [])) (sym here))
  ]

-- a twig put at the place of a number
module _ (nodes : NodePages) (place : ℕ) (twig : Twig) (there : has_place nodes place ≡ true) where
  abbrev changed_page : List (Option Twig)
  changed_page = set (page_at nodes place) (place % PAGE_NODES) (Some twig)

  abbrev put_in : NodePages
  put_in = nodes_in (set nodes.pages (place / PAGE_NODES) changed_page)

  -- is seen at that number alone
  value_at-put : (index : ℕ) → value_at put_in index ≡ (if nat_eq place index then Some twig else value_at nodes index)
  value_at-put index = elim (cases_eq (index / PAGE_NODES) (place / PAGE_NODES)) [
    | inr other ↦
        let is_other : nat_eq place index ≡ false = ne_eqb place index (λ same. other (ap (λ (i : ℕ). i / PAGE_NODES) (sym same))) in
        ap (λ (page : List (Option Twig)). seen_in page index) (page_at-set_other nodes.pages _ changed_page index other) ∙ rw is_other refl
    | inl here ↦
        let seen : value_at put_in index ≡ seen_in changed_page index =
        ap (λ (page : List (Option Twig)). seen_in page index) (page_at-set_same nodes.pages _ changed_page (page_there nodes place there) index here) in
        elim (cases_eq (index % PAGE_NODES) (place % PAGE_NODES)) [
          | inl same ↦
              let is : nat_eq place index ≡ true = eq-eqb place index (omega (arith, here, same)) in
              seen ∙ ap (λ (i : ℕ). get_or changed_page i None) same
              ∙ get_or-set_same (page_at nodes place) (place % PAGE_NODES) (Some twig) None (ltb-true _ _ there) ∙ rw is refl
          | inr other ↦
              let is_other : nat_eq place index ≡ false = ne_eqb place index (λ same. other (ap (λ (i : ℕ). i % PAGE_NODES) (sym same))) in
              seen ∙ get_or-set_other (page_at nodes place) (place % PAGE_NODES) (index % PAGE_NODES) (Some twig) None other
              ∙ ap (λ (i : ℕ). seen_in (get_or nodes.pages i []) index) (sym here) ∙ rw is_other refl
        ]
  ]

-- so a node that is put at its place is put in
pub inserted : (pages : List (List (Option Twig))) (old new : NodePages) (node : Node) (twig : Twig) (page changed : List (Option Twig))
    → nodes_in pages ≡ old → has_place old node.index ≡ true
    → page ≡ get_or pages (node.index / PAGE_NODES) page → twig ≡ twig_of node → changed ≡ set page (node.index % PAGE_NODES) (Some twig)
    → new.pages ≡ set pages (node.index / PAGE_NODES) changed → values_of new ≡ with_node (values_of old) node
inserted pages old new node twig page changed view there read is_twig is_changed is_new =
    let nodes = nodes_in pages in
    let index = node.index in
    let place : has_place nodes index ≡ true = ap (λ (n : NodePages). has_place n index) view ∙ there in
    let read_at : page ≡ page_at nodes index = read ∙ get_or_default pages (index / PAGE_NODES) page [] (page_there nodes index place) in
    let is : new ≡ put_in nodes index (twig_of node) place =
    ap nodes_in (is_new ∙ ap (set pages (index / PAGE_NODES))
    (is_changed ∙ ap (λ (xs : List (Option Twig)). set xs (index % PAGE_NODES) (Some twig)) read_at
    ∙ ap (λ (t : Twig). set (page_at nodes index) (index % PAGE_NODES) (Some t)) is_twig)) in
    ap values_of is
    ∙ fun_ext (λ depth. fun_ext (λ offset. value_at-put nodes index (twig_of node) place (number depth offset)))
    ∙ ap (λ (n : NodePages). with_node (values_of n) node) view

-- the nodes have places
abbrev pub HavePlaces : NodePages → List Node → Type 0
HavePlaces nodes = AllByRecursion (λ (node : Node). has_place nodes node.index ≡ true)

-- one more is given its place, and those before have theirs still
pub places_next : (old new : NodePages) (nodes : List Node) (at : ℕ) (blank : Node) → at < length nodes → HavePlaces old (take at nodes)
    → ((index : ℕ) → has_place old index ≡ true → has_place new index ≡ true) → has_place new (get_or nodes at blank).index ≡ true
    → HavePlaces new (take (at + 1) nodes)
places_next old new nodes at blank within before kept here =
    let in_new = λ (node : Node). has_place new node.index ≡ true in
    let still = all_so (λ (node : Node). has_place old node.index ≡ true) in_new (λ node there. kept node.index there) (take at nodes) before in
    subst (AllByRecursion in_new) (sym (take_more nodes at blank within)) (all_push in_new (take at nodes) (get_or nodes at blank) still here)

-- one of them, where the places are those of another table
pub place_of : (old new : NodePages) (nodes : List Node) (at : ℕ) (blank : Node) → at < length nodes → HavePlaces old nodes
    → ((index : ℕ) → has_place new index ≡ has_place old index) → has_place new (get_or nodes at blank).index ≡ true
place_of old new nodes at blank within all same =
    same (get_or nodes at blank).index ∙ all_get _ nodes at (get_or nodes at blank) all (slice_get-get_or nodes at blank within)
