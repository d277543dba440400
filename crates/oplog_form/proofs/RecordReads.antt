-- Records that are spelled: how many there are, and the first of them.
use Rattle.std.proofs.Common.{◌≡◌, ℕ, suc, zero, ◌-◌, ◌+◌, ◌<◌, true, false, List, [], ◌∷◌, length, Ok, Err, refl, ap, arith, subst, add-one}
use Rattle.std.specs.Prelude.{IsOk}
use Rattle.merkle_nodes.specs.declared.node.Node.{Node}
use Rattle.compact_enc.specs.Reading.{◌>>=◌}
use Rattle.compact_enc.specs.Input.{Input}
use Rattle.oplog_form.specs.declared.form.BadForm.{BadForm}
use Rattle.oplog_form.specs.Form.{Read}
use Rattle.oplog_form.specs.Nodes.{record_in, rising_in}
use Rattle.oplog_form.specs.Records.{nodes_or_none}

-- a node that was read, and those behind it
abbrev with_first : Node → Read (List Node) → Read (List Node)
with_first node read = read >>= λ x. Ok (node ∷ x.0, x.1)

-- what follows a node that was read is read too
follows : (node : Node) (read : Read (List Node)) → IsOk (with_first node read) → IsOk read × (nodes_or_none (with_first node read) ≡ node ∷ nodes_or_none read)
follows node (Ok x) is = (refl, refl)
follows node (Err bad) is = let apart : false ≡ true = is in cc

pub rising_none : (count least : ℕ) (input : Input) → count ≡ 0 → nodes_or_none (rising_in count least input) ≡ []
unfolding rising_in
rising_none count least input none = rw none refl

pub rising_first : (count least : ℕ) (input : Input) (node : Node) (after : Input) → 0 < count → record_in least input ≡ Ok (node, after) → IsOk (rising_in count least input)
    → IsOk (rising_in (count - 1) (node.index + 1) after) × (nodes_or_none (rising_in count least input) ≡ node ∷ nodes_or_none (rising_in (count - 1) (node.index + 1) after))
unfolding rising_in
rising_first zero least input node after some was is = absurd (omega (arith, some))
rising_first (suc count) least input node after some was is =
    let one : rising_in (suc count) least input ≡ with_first node (rising_in count (suc node.index) after) = rw was refl in
    let all = follows node (rising_in count (suc node.index) after) (subst IsOk one is) in
    let next : suc count - 1 ≡ count = omega arith in
    rw (next, add-one node.index, one) all

pub rising_there : (count least : ℕ) (input : Input) (bad : BadForm) → 0 < count → record_in least input ≡ Err bad → IsOk (rising_in count least input) → ⊥
unfolding rising_in
rising_there zero least input bad some was is = absurd (omega (arith, some))
rising_there (suc count) least input bad some was is =
    let one : rising_in (suc count) least input ≡ Err bad = rw was refl in
    let apart : false ≡ true = subst IsOk one is in
    cc

counted : (node : Node) (read : Read (List Node)) (count : ℕ) → (IsOk read → length (nodes_or_none read) ≡ count)
    → IsOk (with_first node read) → length (nodes_or_none (with_first node read)) ≡ suc count
counted node (Ok x) count len is = ap suc (len refl)
counted node (Err bad) count len is = let apart : false ≡ true = is in cc

step_counted : (count : ℕ) (first : Read Node) (others : Node × Input → Read (List Node)) → ((x : Node × Input) → IsOk (others x) → length (nodes_or_none (others x)) ≡ count)
    → IsOk (first >>= λ node. with_first node.0 (others node)) → length (nodes_or_none (first >>= λ node. with_first node.0 (others node))) ≡ suc count
step_counted count (Ok node) others len is = counted node.0 (others node) count (len node) is
step_counted count (Err bad) others len is = let apart : false ≡ true = is in cc

-- so many nodes are read
pub rising_count : (count least : ℕ) (input : Input) → IsOk (rising_in count least input) → length (nodes_or_none (rising_in count least input)) ≡ count
unfolding rising_in
rising_count zero least input is = refl
rising_count (suc count) least input is = step_counted count (record_in least input) (λ node. rising_in count (suc node.0.index) node.1) (λ node there. rising_count count (suc node.0.index) node.1 there) is
