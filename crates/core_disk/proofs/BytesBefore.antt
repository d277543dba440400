-- The bytes of an index's full roots, summed up one after the other; and nodes that are looked at in their order.
use Rattle.std.proofs.Common.{◌≡◌, ℕ, suc, ◌+◌, ◌<◌, ◌≤◌, List, [], ◌∷◌, length, take, drop, map, get_or, slice_get, Option, Some, None, refl, sym, ap, subst, ◌∙◌, arith, add-one, drop-cons}
use Rattle.std.specs.Prelude.{IfSome}
use Rattle.std.specs.List.{AllByRecursion}
use Rattle.std.proofs.lemmas.List.{map_push, take_more, take_all, drop_all}
use Rattle.std.proofs.lemmas.List.Sums.{sum_by_push}
use Rattle.std.proofs.lemmas.Option.{slice_get-get_or}
use Rattle.flat_tree.specs.Subtrees.{Subtree, number, numbers_of}
use Rattle.flat_tree.specs.Roots.{full_roots_of}
use Rattle.flat_tree.specs.declared.limits.TheConstants.{MAX_CORE_BYTES}
use Rattle.flat_tree.proofs.RootLemmas.{length-numbers}
use Rattle.merkle_nodes.specs.declared.node.Node.{Node}
use Rattle.merkle_nodes.specs.Joined.{Values}
use Rattle.oplog_form.specs.Nodes.{Rise, RecordFits}
use Rattle.node_set.specs.Contents.{twig_at, node_at, roots_at, bytes_under}
use Rattle.node_set.proofs.TableRoots.{root_tree, root_number}
use Rattle.node_set.proofs.AppendLemmas.{all_so}
use Rattle.core_disk.specs.InHand.{last_of}
use Rattle.core_disk.specs.Planning.{IsInRange, MayBeRecords}
use Rattle.core_disk.proofs.RecordLemmas.{last_all}

-- the bytes of the first of them
abbrev pub first_bytes : Values → ℕ → ℕ → ℕ
first_bytes value n count = bytes_under (map (λ (tree : Subtree). node_at value tree.depth tree.offset) (take count (full_roots_of n)))

-- one more
pub bytes_more : (value : Values) (n : ℕ) (places : List ℕ) (count at index bytes size : ℕ) → places ≡ numbers_of (full_roots_of n)
    → count ≡ length places → at < count
    → slice_get places at ≡ Some index → bytes ≡ first_bytes value n at → ((depth offset : ℕ) → number depth offset ≡ index
    → size ≡ (twig_at value depth offset).size)
    → bytes + size ≡ first_bytes value n (at + 1)
bytes_more value n places count at index bytes size numbers all within there so_far own =
    let trees = full_roots_of n in
    let of_tree = λ (tree : Subtree). node_at value tree.depth tree.offset in
    let tree = root_tree n at in
    let inside : at < length trees = omega (arith, within, all, length-numbers places trees numbers) in
    let here = own tree.depth tree.offset (root_number n places count at index numbers all within there) in
    let more = ap (map of_tree) (take_more trees at _ inside) ∙ map_push of_tree (take at trees) tree in
    omega (arith, so_far, here, ap bytes_under more, sum_by_push (λ (node : Node). node.size) (map of_tree (take at trees)) (of_tree tree))

-- all of them
pub bytes_all : (value : Values) (n : ℕ) (places : List ℕ) (count at bytes : ℕ) → places ≡ numbers_of (full_roots_of n) → count ≡ length places → count ≤ at
    → bytes ≡ first_bytes value n at → bytes ≡ bytes_under (roots_at value n)
bytes_all value n places count at bytes numbers all end so_far =
    let trees = full_roots_of n in
    so_far ∙ ap (λ (ts : List Subtree). bytes_under (map (λ (tree : Subtree). node_at value tree.depth tree.offset) ts))
    (take_all at trees (omega (arith, end, all, length-numbers places trees numbers)))

-- the last node of a number, among nodes in their ranges or found before, has no more bytes than a core
pub size_most : (nodes : List Node) (index : ℕ) (found last : Option Node) → last ≡ last_of nodes index found → AllByRecursion RecordFits nodes
    → ((node : Node) → found ≡ Some node → node.size ≤ MAX_CORE_BYTES) → IfSome last (λ (node : Node). node.size ≤ MAX_CORE_BYTES)
size_most nodes index found last is fits before =
    let P = λ (node : Node). node.size ≤ MAX_CORE_BYTES in
    subst (λ (l : Option Node). IfSome l P) (sym is) (last_all P nodes index found (all_so RecordFits P (λ node fit. fit.twig.size) nodes fits)
    (own found before))
  where
    own : (found : Option Node) → ((node : Node) → found ≡ Some node → node.size ≤ MAX_CORE_BYTES) → IfSome found (λ (node : Node). node.size ≤ MAX_CORE_BYTES)
    own None before = tt
    own (Some node) before = before node refl

-- ---- nodes that may be records

-- so many were looked at: what is left decides, from this number on
pub record IsLooking (nodes : List Node) (at least : ℕ) : Type 0 where
  pub rise : Rise least (drop at nodes) → Rise 0 nodes
  pub rises : Rise 0 nodes → Rise least (drop at nodes)
  pub fit : AllByRecursion RecordFits (drop at nodes) → AllByRecursion RecordFits nodes
  pub range : AllByRecursion IsInRange nodes → AllByRecursion IsInRange (drop at nodes)

pub looking_first : (nodes : List Node) → IsLooking nodes 0 0
looking_first nodes = record { rise = λ up. up; rises = λ up. up; fit = λ fits. fits; range = λ all. all }

module _ (nodes : List Node) (at least : ℕ) (node : Node) (looks : IsLooking nodes at least) (within : at < length nodes)
    (there : slice_get nodes at ≡ Some node) where
  rest : drop at nodes ≡ node ∷ drop (suc at) nodes
  rest =
      let found = slice_get-get_or nodes at node within in
      let same : get_or nodes at node ≡ node = let both = sym found ∙ there in cc in
      drop-cons nodes at node within ∙ ap (λ (n : Node). n ∷ drop (suc at) nodes) same

  next : drop (at + 1) nodes ≡ drop (suc at) nodes
  next = ap (λ (k : ℕ). drop k nodes) (add-one at)

  pub looking_next : least ≤ node.index → RecordFits node → IsLooking nodes (at + 1) (node.index + 1)
  looking_next up fits =
      let one_more = add-one node.index in
      record {
        rise = λ later.
            let tail = subst (λ (k : ℕ). Rise k (drop (at + 1) nodes)) one_more later in
            looks.rise (subst (Rise least) (sym rest) (up, subst (Rise (suc node.index)) next tail));
        rises = λ all.
            let here = subst (Rise least) rest (looks.rises all) in
            subst (λ (k : ℕ). Rise k (drop (at + 1) nodes)) (sym one_more) (subst (Rise (suc node.index)) (sym next) here.1);
        fit = λ later. looks.fit (subst (AllByRecursion RecordFits) (sym rest) (fits, subst (AllByRecursion RecordFits) next later));
        range = λ all.
            let here = subst (AllByRecursion IsInRange) rest (looks.range all) in
            subst (AllByRecursion IsInRange) (sym next) here.1;
      }

  -- one that doesn't rise, or isn't in range
  pub looking_not : (nodes_may : MayBeRecords nodes) → (least ≤ node.index) × IsInRange node
  looking_not may =
      let up = subst (Rise least) rest (looks.rises may.0) in
      let range = subst (AllByRecursion IsInRange) rest (looks.range may.1) in
      (up.0, range.0)

-- all were
pub looking_all : (nodes : List Node) (at least : ℕ) → length nodes ≤ at → IsLooking nodes at least → Rise 0 nodes × AllByRecursion RecordFits nodes
looking_all nodes at least end looks =
    let none : drop at nodes ≡ [] = drop_all at nodes end in
    (looks.rise (subst (Rise least) (sym none) tt), looks.fit (subst (AllByRecursion RecordFits) (sym none) tt))
