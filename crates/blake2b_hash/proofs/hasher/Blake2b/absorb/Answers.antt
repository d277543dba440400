use Rattle.std.proofs.Common.{◌≡◌, ◌∙◌, ◌++◌, length, ap, arith, refl}
use Rattle.std.proofs.lemmas.List.{take_at, take-append-drop}
use Rattle.blake2b_hash.proofs.Pieces.{Takes-absorb}
use Rattle.blake2b_hash.proofs.hasher.Blake2b.absorb.Goals as goal

pub returns : goal.returns
returns c = λ nn i x held.
    let split = c.split_at.ensures in
    let y = c.split_at.result.0.now in
    let z = c.split_at.result.1.now in
    let bytes = c.args.bytes.now in
    let cut : y ++ z ≡ bytes = rw (split.front, split.back) (take-append-drop _ bytes) in
    let some = c.requires in
    Takes-absorb nn i x bytes y z c.args.self.now _ held cut (omega (arith, split.front_len)) (omega (arith, split.front_len, split.back_len, some))
    (omega (arith, split.front_len, split.back_len, some)) refl refl refl (c.compress_all-self.ensures i x held.whole held.total held.state)
    (take_at c.copy_from_slice.new.self _ (length z) (ap length c.copy_from_slice.ensures.after) ∙ c.copy_from_slice.ensures.after)
