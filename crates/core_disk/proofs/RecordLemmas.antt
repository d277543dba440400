-- What walks over an entry's records find, place and put in.
use Rattle.std.proofs.Common.{◌≡◌, ℕ, ◌+◌, ◌<◌, ◌≤◌, true, false, List, [], ◌∷◌, length, take, slice_get, Option, Some, None, refl, sym, ap, subst, ◌∙◌, arith, inl, inr, nat_eq, if◌then◌else◌}
use Rattle.std.specs.Prelude.{IfSome, is_some}
use Rattle.std.specs.Option.{option_map}
use Rattle.std.specs.List.{AllByRecursion}
use Rattle.std.proofs.lemmas.List.{take_all}
use Rattle.std.proofs.lemmas.Bool.{cases_Bool, cases_eq, eq-eqb, ne_eqb}
use Rattle.std.proofs.lemmas.Option.{slice_get-get_or}
use Rattle.flat_tree.specs.Subtrees.{Subtree, number, numbers_of}
use Rattle.flat_tree.specs.Roots.{full_roots_of}
use Rattle.flat_tree.specs.declared.limits.TheConstants.{MAX_CORE_BYTES}
use Rattle.flat_tree.proofs.RootLemmas.{length-numbers}
use Rattle.merkle_nodes.specs.declared.node.Node.{Node}
use Rattle.merkle_nodes.specs.Joined.{Values}
use Rattle.merkle_nodes.specs.Roots.{twig_of}
use Rattle.oplog_form.specs.Nodes.{RecordFits}
use Rattle.oplog_form.specs.Records.{first_of}
use Rattle.node_set.proofs.AppendLemmas.{all_get, all_so}
use Rattle.node_set.proofs.TableRoots.{IsRootsOf, root_tree, root_number}
use Rattle.node_set.specs.Nodes.{NodePages, has_place, values_of, with_node, with_nodes}
use Rattle.core_disk.specs.declared.replay.TheConstants.{MAX_NODES}
use Rattle.core_disk.specs.Opened.{values_in}
use Rattle.core_disk.specs.Following.{are_known}
use Rattle.core_disk.specs.InHand.{last_of, AgreeWithin, HavePlaces, GivesRoots}
use Rattle.core_disk.proofs.FollowLaws.{known_words, known_test}

-- ---- what is ahead in a walk

-- the first node and the others as one list
abbrev pub list_of : Option (Node × List Node) → List Node
list_of None = []
list_of (Some x) = x.0 ∷ x.1

pub list_again : (nodes : List Node) → list_of (first_of nodes) ≡ nodes
list_again [] = refl
list_again (node ∷ nodes) = refl

-- so many are ahead
abbrev pub AreAhead : Option (Node × List Node) → ℕ → ℕ → Type 0
AreAhead ahead passed all = length (list_of ahead) + passed ≡ all

pub ahead_first : (nodes : List Node) (count : ℕ) → count ≡ length nodes → AreAhead (first_of nodes) 0 count
ahead_first nodes count is = omega (arith, ap length (list_again nodes), is)

pub ahead_next : (ahead : Option (Node × List Node)) (node : Node) (rest : List Node) (passed all : ℕ) → ahead ≡ Some (node, rest) → AreAhead ahead passed all
    → AreAhead (first_of rest) (passed + 1) all
ahead_next ahead node rest passed all is ahead_are = omega (arith, ap (λ a. length (list_of a)) is, ap length (list_again rest), ahead_are)

-- at the end nothing is
pub ahead_last : (ahead : Option (Node × List Node)) (passed all : ℕ) → all ≤ passed → AreAhead ahead passed all → list_of ahead ≡ []
ahead_last None passed all past are = refl
ahead_last (Some x) passed all past are = absurd (omega (arith, past, are))

-- ---- the last node of a number

-- what is found in what is ahead is what is found in all
abbrev pub IsLast : List Node → ℕ → Option Node → Option (Node × List Node) → Option Node → Type 0
IsLast nodes index before ahead found = last_of (list_of ahead) index found ≡ last_of nodes index before

pub last_first : (nodes : List Node) (index : ℕ) (before : Option Node) → IsLast nodes index before (first_of nodes) before
last_first nodes index before = ap (λ (ns : List Node). last_of ns index before) (list_again nodes)

pub last_next : (nodes : List Node) (index : ℕ) (before found next : Option Node) (ahead : Option (Node × List Node)) (node : Node) (rest : List Node)
    → ahead ≡ Some (node, rest) → next ≡ (if nat_eq node.index index then Some node else found) → IsLast nodes index before ahead found
    → IsLast nodes index before (first_of rest) next
last_next nodes index before found next ahead node rest is picked last =
    ap (λ (ns : List Node). last_of ns index next) (list_again rest)
    ∙ ap (last_of rest index) picked
    ∙ sym (ap (λ (a : Option (Node × List Node)). last_of (list_of a) index found) is)
    ∙ last

pub last_end : (nodes : List Node) (index : ℕ) (before found : Option Node) (ahead : Option (Node × List Node)) → list_of ahead ≡ [] → IsLast nodes index before ahead found
    → found ≡ last_of nodes index before
last_end nodes index before found ahead none last = sym (ap (λ (ns : List Node). last_of ns index found) none) ∙ last

-- it has the value that the nodes put in
pub last_value : (nodes : List Node) (depth offset : ℕ) (start : Values) (found : Option Node) → option_map twig_of found ≡ start depth offset
    → option_map twig_of (last_of nodes (number depth offset) found) ≡ with_nodes start nodes depth offset
unfolding with_nodes
last_value [] depth offset start found same = same
last_value (node ∷ nodes) depth offset start found same =
    last_value nodes depth offset (with_node start node) (if nat_eq node.index (number depth offset) then Some node else found) (elim (cases_eq node.index (number depth offset)) [
      | inl here ↦ rw (eq-eqb node.index (number depth offset) here) refl
      | inr other ↦ rw (ne_eqb node.index (number depth offset) other) same
    ])

-- it is of the number
pub last_numbered : (nodes : List Node) (index : ℕ) (found : Option Node) → IfSome found (λ (node : Node). node.index ≡ index)
    → IfSome (last_of nodes index found) (λ (node : Node). node.index ≡ index)
last_numbered [] index found is = is
last_numbered (node ∷ nodes) index found is =
    last_numbered nodes index (if nat_eq node.index index then Some node else found) (elim (cases_eq node.index index) [
      | inl here ↦ rw (eq-eqb node.index index here) here
      | inr other ↦ rw (ne_eqb node.index index other) is
    ])

-- what holds of each node and of the one before holds of it
pub last_all : (P : Node → Type 0) (nodes : List Node) (index : ℕ) (found : Option Node) → AllByRecursion P nodes → IfSome found P → IfSome (last_of nodes index found) P
last_all P [] index found all is = is
last_all P (node ∷ nodes) index found all is =
    last_all P nodes index (if nat_eq node.index index then Some node else found) all.1 (elim (cases_eq node.index index) [
      | inl here ↦ rw (eq-eqb node.index index here) all.0
      | inr other ↦ rw (ne_eqb node.index index other) is
    ])

-- ---- places

-- whatever has places for these, and is made of that, has places for all
abbrev pub Places : NodePages → List Node → List Node → Type 0
Places nodes left all =
    (later : NodePages) → ((at : ℕ) → has_place nodes at ≡ true → has_place later at ≡ true) → HavePlaces later left → HavePlaces later all

pub places_first : (nodes : NodePages) (all : List Node) → Places nodes (list_of (first_of all)) all
places_first nodes all later kept have = subst (HavePlaces later) (list_again all) have

pub places_next : (nodes now : NodePages) (all : List Node) (ahead : Option (Node × List Node)) (node : Node) (rest : List Node) → ahead ≡ Some (node, rest)
    → ((at : ℕ) → has_place nodes at ≡ true → has_place now at ≡ true) → (node.index < MAX_NODES → has_place now node.index ≡ true)
    → Places nodes (list_of ahead) all → Places now (list_of (first_of rest)) all
places_next nodes now all ahead node rest is kept placed places later more have =
    places later (λ at there. more at (kept at there))
    (subst (λ (a : Option (Node × List Node)). HavePlaces later (list_of a)) (sym is)
    (λ less. more node.index (placed less), subst (HavePlaces later) (list_again rest) have))

pub places_last : (nodes : NodePages) (all : List Node) (ahead : Option (Node × List Node)) → list_of ahead ≡ [] → Places nodes (list_of ahead) all → HavePlaces nodes all
places_last nodes all ahead none places = places nodes (λ at there. there) (subst (HavePlaces nodes) (sym none) tt)

-- ---- nodes that are put in

-- equal values stay equal
pub agree_nodes : (nodes : List Node) (one other : Values) → AgreeWithin one other → AgreeWithin (with_nodes one nodes) (with_nodes other nodes)
unfolding with_nodes
agree_nodes [] one other agree = agree
agree_nodes (node ∷ nodes) one other agree =
    agree_nodes nodes (with_node one node) (with_node other node) (λ depth offset less. elim (cases_eq node.index (number depth offset)) [
      | inl here ↦ rw (eq-eqb node.index (number depth offset) here) refl
      | inr apart ↦ rw (ne_eqb node.index (number depth offset) apart) (agree depth offset less)
    ])

-- those ahead, put in, make of what is there what all make of what was there
pub record IsPut (start : Values) (all : List Node) (now : NodePages) (ahead : Option (Node × List Node)) : Type 0 where
  pub places : HavePlaces now (list_of ahead)
  pub values : AgreeWithin (with_nodes (values_of now) (list_of ahead)) (with_nodes start all)

pub put_first : (nodes : NodePages) (all : List Node) → HavePlaces nodes all → IsPut (values_of nodes) all nodes (first_of all)
put_first nodes all have = record {
  places = subst (HavePlaces nodes) (sym (list_again all)) have;
  values = λ depth offset less. ap (λ (ns : List Node). with_nodes (values_of nodes) ns depth offset) (list_again all);
}

places_same : (nodes now : NodePages) (list : List Node) → ((at : ℕ) → has_place now at ≡ has_place nodes at) → HavePlaces nodes list → HavePlaces now list
places_same nodes now [] same have = tt
places_same nodes now (node ∷ list) same have = (λ less. same node.index ∙ have.0 less, places_same nodes now list same have.1)

pub put_next : (start : Values) (all : List Node) (nodes now : NodePages) (ahead : Option (Node × List Node)) (node : Node) (rest : List Node)
    → ahead ≡ Some (node, rest) → ((at : ℕ) → has_place now at ≡ has_place nodes at) → AgreeWithin (values_of now) (with_node (values_of nodes) node)
    → IsPut start all nodes ahead → IsPut start all now (first_of rest)
unfolding with_nodes
put_next start all nodes now ahead node rest is same put so_far =
    let have : HavePlaces nodes (node ∷ rest) = subst (λ (a : Option (Node × List Node)). HavePlaces nodes (list_of a)) is so_far.places in
    record {
      places = subst (HavePlaces now) (sym (list_again rest)) (places_same nodes now rest same have.1);
      values = λ depth offset less.
          ap (λ (ns : List Node). with_nodes (values_of now) ns depth offset) (list_again rest)
          ∙ agree_nodes rest (values_of now) (with_node (values_of nodes) node) put depth offset less
          ∙ sym (ap (λ (a : Option (Node × List Node)). with_nodes (values_of nodes) (list_of a) depth offset) is)
          ∙ so_far.values depth offset less;
    }

pub put_place : (start : Values) (all : List Node) (nodes : NodePages) (ahead : Option (Node × List Node)) (node : Node) (rest : List Node)
    → ahead ≡ Some (node, rest) → IsPut start all nodes ahead → node.index < MAX_NODES → has_place nodes node.index ≡ true
put_place start all nodes ahead node rest is so_far =
    let have : HavePlaces nodes (node ∷ rest) = subst (λ (a : Option (Node × List Node)). HavePlaces nodes (list_of a)) is so_far.places in have.0

pub put_last : (start : Values) (all : List Node) (nodes : NodePages) (ahead : Option (Node × List Node)) → list_of ahead ≡ [] → IsPut start all nodes ahead
    → AgreeWithin (values_of nodes) (with_nodes start all)
unfolding with_nodes
put_last start all nodes ahead none so_far depth offset less =
    sym (ap (λ (ns : List Node). with_nodes (values_of nodes) ns depth offset) none) ∙ so_far.values depth offset less

-- ---- the node of a number

pub known_value : (roots records : List Node) (index : ℕ) (root found : Option Node) → root ≡ last_of roots index None → found ≡ last_of records index root
    → (depth offset : ℕ) → number depth offset ≡ index → option_map twig_of found ≡ with_nodes (values_in roots) records depth offset
known_value roots records index root found root_is is depth offset there =
    let first = last_value roots depth offset (λ d o. None) None refl in
    ap (option_map twig_of) (is ∙ ap (λ (i : ℕ). last_of records i root) (sym there))
    ∙ last_value records depth offset (values_in roots) root (ap (option_map twig_of) (root_is ∙ ap (λ (i : ℕ). last_of roots i None) (sym there)) ∙ first)

pub known_numbered : (roots records : List Node) (index : ℕ) (root found : Option Node) → root ≡ last_of roots index None → found ≡ last_of records index root
    → IfSome found (λ (node : Node). node.index ≡ index)
known_numbered roots records index root found root_is is =
    subst (λ (f : Option Node). IfSome f (λ (node : Node). node.index ≡ index)) (sym is)
    (last_numbered records index root (subst (λ (f : Option Node). IfSome f (λ (node : Node). node.index ≡ index)) (sym root_is) (last_numbered roots index None tt)))

pub known_size : (roots records : List Node) (index : ℕ) (root found : Option Node) → root ≡ last_of roots index None → found ≡ last_of records index root
    → AllByRecursion (λ (node : Node). node.size ≤ MAX_CORE_BYTES) roots → AllByRecursion RecordFits records
    → IfSome found (λ (node : Node). node.size ≤ MAX_CORE_BYTES)
known_size roots records index root found root_is is sizes fit =
    let small = λ (node : Node). node.size ≤ MAX_CORE_BYTES in
    subst (λ (f : Option Node). IfSome f small) (sym is)
    (last_all small records index root (all_so RecordFits small (λ node fits. fits.twig.size) records fit)
    (subst (λ (f : Option Node). IfSome f small) (sym root_is) (last_all small roots index None sizes tt)))

-- ---- roots

-- a subtree without a value
pub one_unknown : (value : Values) (trees : List Subtree) (at : ℕ) (tree : Subtree) → slice_get trees at ≡ Some tree → value tree.depth tree.offset ≡ None
    → are_known value trees ≡ false
one_unknown value trees at tree there none = elim (cases_Bool (are_known value trees)) [
  | inr lacks ↦ lacks
  | inl known ↦
      let some = all_get (λ (t : Subtree). is_some (value t.depth t.offset) ≡ true) trees at tree (known_words value trees known) there in
      let clash : true ≡ false = sym some ∙ ap is_some none in cc
]

pub roots_found : (value : Values) (n at : ℕ) (roots : List Node) → length (full_roots_of n) ≤ at → IsRootsOf value (take at (full_roots_of n)) roots
    → GivesRoots value n (Some roots)
roots_found value n at roots past are =
    let whole = subst (λ (trees : List Subtree). IsRootsOf value trees roots) (take_all at (full_roots_of n) past) are in
    (known_test value (full_roots_of n) whole.stored, whole.nodes, whole.sizes)

pub roots_lack : (value : Values) (n at index : ℕ) (places : List ℕ) (count : ℕ) → places ≡ numbers_of (full_roots_of n) → count ≡ length places → at < count
    → slice_get places at ≡ Some index → ((depth offset : ℕ) → number depth offset ≡ index → None ≡ value depth offset)
    → are_known value (full_roots_of n) ≡ false
roots_lack value n at index places count numbers all within there none =
    let tree = root_tree n at in
    let inside : at < length (full_roots_of n) = omega (arith, within, all, length-numbers places (full_roots_of n) numbers) in
    one_unknown value (full_roots_of n) at tree (slice_get-get_or (full_roots_of n) at (record { depth = 0; offset = 0 }) inside)
    (sym (none tree.depth tree.offset (root_number n places count at index numbers all within there)))
