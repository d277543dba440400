use Rattle.std.proofs.Common.{◌≡◌, ℕ, take, ◌-◌, ◌∙◌, length, drop, length-drop, arith, refl, replicate, ap}
use Rattle.std.proofs.lemmas.List.{length-take-le}
use Rattle.blake2b_hash.specs.Hasher.{last_bytes}
use Rattle.blake2b_hash.proofs.Pieces.{last_state-close, put_mid-end}
use Rattle.blake2b_hash.proofs.hasher.Blake2b.close.Goals as goal

pub returns : goal.returns
returns c = λ nn i x held.
    let buffer = c.args.self.buffer in
    let fill = c.fill-fill.result in
    let width = c.fill-fill.ensures.fill nn i x held in
    let room = length-take-le (length buffer - fill) (drop fill buffer) (omega (arith, length-drop fill buffer)) in
    let size : length (take (length buffer - fill) (drop fill buffer)) ≡ 128 - last_bytes (length x) = room ∙ omega (arith, width) in
    let zeros = c.fill.ensures.after (λ y e. e) ∙ ap (λ (k : ℕ). replicate k 0) size in
    let padded = put_mid-end (last_bytes (length x)) (length buffer - last_bytes (length x)) buffer c.fill.new.self _ refl (omega arith) in
    let made = rw width at c.compress.ensures in
    made ∙ last_state-close nn i x _ c.fill.new.self c.args.self _ held zeros padded refl
