-- Reading and writing nodes one after the other, as a loop does.
use Rattle.std.proofs.Common.{◌≡◌, ℕ, suc, ◌-◌, ◌+◌, ◌≤◌, ◌<◌, List, [], ◌∷◌, ◌++◌, length, get_or, take, drop, Ok, Err, refl, sym, ap, ◌∙◌, append_assoc, arith, subst, add-one, drop-cons}
use Rattle.std.proofs.lemmas.List.{append-nil, drop_all, take-append-drop}
use Rattle.std.proofs.lemmas.List.Concat.{flat_map-cons}
use Rattle.std.proofs.lemmas.Grind.{flat_map-append}
use Rattle.std.specs.List.{flat_map}
use Rattle.merkle_nodes.specs.declared.node.Node.{Node}
use Rattle.merkle_nodes.specs.declared.node.Twig.{Twig}
use Rattle.compact_enc.specs.Reading.{◌>>=◌}
use Rattle.compact_enc.specs.Input.{Input}
use Rattle.oplog_form.specs.declared.form.BadForm.{BadForm}
use Rattle.oplog_form.specs.Form.{Read, past}
use Rattle.oplog_form.specs.Nodes.{twig_in, nodes_in, record_in, rising_in}

-- ---- a node for each number

-- what was read before, and what is still read
abbrev pub with_front : List Node → Read (List Node) → Read (List Node)
with_front front read = read >>= λ x. Ok (front ++ x.0, x.1)

regroup : (front : List Node) (node : Node) (read : Read (List Node)) → with_front front (read >>= λ x. Ok (node ∷ x.0, x.1)) ≡ with_front (front ++ node ∷ []) read
regroup front node (Ok x) = ap (λ (nodes : List Node). Ok (nodes, x.1)) (simp append_assoc)
regroup front node (Err bad) = refl

next : (numbers : List ℕ) (i : ℕ) → i < length numbers → drop i numbers ≡ get_or numbers i 0 ∷ drop (i + 1) numbers
next numbers i more = drop-cons numbers i 0 more ∙ ap (λ j. get_or numbers i 0 ∷ drop j numbers) (sym (add-one i))

pub nodes_go_on : (front : List Node) (numbers : List ℕ) (i : ℕ) (input : Input) (twig : Twig) (after : Input) (total : Read (List Node))
    → i < length numbers → twig_in input ≡ Ok (twig, after) → with_front front (nodes_in (drop i numbers) input) ≡ total
    → with_front (front ++ record { index = get_or numbers i 0; size = twig.size; hash = twig.hash } ∷ []) (nodes_in (drop (i + 1) numbers) after) ≡ total
unfolding nodes_in
nodes_go_on front numbers i input twig after total more read so_far =
    let one : with_front front (nodes_in (drop i numbers) input) ≡ with_front (front ++ record { index = get_or numbers i 0; size = twig.size; hash = twig.hash } ∷ []) (nodes_in (drop (i + 1) numbers) after) =
    rw (next numbers i more, read) (regroup front _ (nodes_in (drop (i + 1) numbers) after)) in
    sym one ∙ so_far

pub nodes_fail : (front : List Node) (numbers : List ℕ) (i : ℕ) (input : Input) (bad : BadForm) (total : Read (List Node))
    → i < length numbers → twig_in input ≡ Err bad → with_front front (nodes_in (drop i numbers) input) ≡ total → total ≡ Err bad
unfolding nodes_in
nodes_fail front numbers i input bad total more read so_far =
    let one : with_front front (nodes_in (drop i numbers) input) ≡ Err bad = rw (next numbers i more, read) refl in
    sym so_far ∙ one

pub nodes_done : (front : List Node) (numbers : List ℕ) (i : ℕ) (input : Input) (total : Read (List Node))
    → length numbers ≤ i → with_front front (nodes_in (drop i numbers) input) ≡ total → total ≡ Ok (front, input)
unfolding nodes_in
nodes_done front numbers i input total end so_far =
    sym (subst (λ ns. with_front front (nodes_in ns input) ≡ total) (drop_all i numbers end) so_far) ∙ ap (λ (nodes : List Node). Ok (nodes, input)) (append-nil front)

-- ---- records whose numbers rise

past_next : (node : Node) (read : Read (List Node)) → past (read >>= λ x. Ok (node ∷ x.0, x.1)) ≡ past read
past_next node (Ok x) = refl
past_next node (Err bad) = refl

pub records_go_on : (count i least : ℕ) (input : Input) (node : Node) (after : Input) (total : Read (Unit {0}))
    → i < count → record_in least input ≡ Ok (node, after) → past (rising_in (count - i) least input) ≡ total
    → past (rising_in (count - (i + 1)) (node.index + 1) after) ≡ total
unfolding rising_in
records_go_on count i least input node after total more read so_far =
    let k : count - i ≡ suc (count - (i + 1)) = omega arith in
    let one : past (rising_in (count - i) least input) ≡ past (rising_in (count - (i + 1)) (suc node.index) after) = rw (k, read) (past_next node (rising_in (count - (i + 1)) (suc node.index) after)) in
    ap (λ n. past (rising_in (count - (i + 1)) n after)) (add-one node.index) ∙ sym one ∙ so_far

pub records_fail : (count i least : ℕ) (input : Input) (bad : BadForm) (total : Read (Unit {0}))
    → i < count → record_in least input ≡ Err bad → past (rising_in (count - i) least input) ≡ total → total ≡ Err bad
unfolding rising_in
records_fail count i least input bad total more read so_far =
    let k : count - i ≡ suc (count - (i + 1)) = omega arith in
    let one : past (rising_in (count - i) least input) ≡ Err bad = rw (k, read) refl in
    sym so_far ∙ one

pub records_done : (count i least : ℕ) (input : Input) (total : Read (Unit {0}))
    → count ≤ i → past (rising_in (count - i) least input) ≡ total → total ≡ Ok (tt, input)
unfolding rising_in
records_done count i least input total end so_far =
    let k : count - i ≡ 0 = omega arith in
    sym (subst (λ n. past (rising_in n least input) ≡ total) k so_far)

-- ---- the nodes before one, itself, and those behind it

pub flat_map-split : (f : Node → List ℕ) (nodes : List Node) (i : ℕ) (d : Node) → i < length nodes
    → flat_map f nodes ≡ flat_map f (take i nodes) ++ (f (get_or nodes i d) ++ flat_map f (drop (i + 1) nodes))
flat_map-split f nodes i d more =
    let one : drop i nodes ≡ get_or nodes i d ∷ drop (i + 1) nodes = drop-cons nodes i d more ∙ ap (λ j. get_or nodes i d ∷ drop j nodes) (sym (add-one i)) in
    ap (flat_map f) (sym (take-append-drop i nodes))
    ∙ flat_map-append f (take i nodes) (drop i nodes)
    ∙ ap (λ l. flat_map f (take i nodes) ++ flat_map f l) one
    ∙ ap (λ l. flat_map f (take i nodes) ++ l) (flat_map-cons f (get_or nodes i d) (drop (i + 1) nodes))
