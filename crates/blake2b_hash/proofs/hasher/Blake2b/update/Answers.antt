use Rattle.std.proofs.Common.{rules, ◌≡◌, ℕ, List, ◌∙◌, ◌<◌, ◌++◌, length, ap}
use Rattle.std.proofs.lemmas.List.{append_assoc, take-append-drop}
use Rattle.blake2b_hash.specs.Blake2b.{input}
use Rattle.blake2b_hash.proofs.Pieces.{Holds-append, TakesWhole-none}
use Rattle.blake2b_hash.specs.Hasher.{Holds}
use Rattle.blake2b_hash.proofs.hasher.Blake2b.update.Goals as goal

pub returns-then-not-self : goal.returns-then-not-self
unfolding Holds
returns-then-not-self c = λ nn key message held.
    let none = TakesWhole-none _ _ _ _ held.1 c.if-not-self.true in
    Holds-append nn key message c.args.bytes.now _ held.0 (c.absorb.ensures _ _ _ none)

pub returns-then-bytes-fill : goal.returns-then-bytes-fill
unfolding Holds
returns-then-bytes-fill c = λ nn key message held.
    let some : 0 < length c.args.bytes.now = search rules in
    Holds-append nn key message c.args.bytes.now _ held.0
    (c.keep.ensures _ _ _ held.1 (c.fill-fill.ensures.fill _ _ _ held.1) some)

pub returns : goal.returns
unfolding Holds
returns c = λ nn key message held.
    let bytes = c.args.bytes.now in
    let split = c.split_at.ensures in
    let joined : c.split_at.result.0.now ++ c.split_at.result.1.now ≡ bytes = rw (split.front, split.back) (take-append-drop _ bytes) in
    let x : List ℕ = input key message in
    let whole = c.complete.ensures _ _ _ held.1 (c.fill-fill.ensures.fill _ _ _ held.1) in
    let same = append_assoc x _ _ ∙ ap (λ (l : List ℕ). x ++ l) joined in
    Holds-append nn key message bytes _ held.0 (rw (← same) (c.absorb-2.ensures _ _ _ whole))
