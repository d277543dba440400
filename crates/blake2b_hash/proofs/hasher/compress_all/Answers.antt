use Rattle.std.proofs.Common.{◌≡◌, ℕ, List, ◌+◌, ◌*◌, ◌-◌, ◌∙◌, length, length-append, length-drop, take, drop, arith}
use Rattle.std.proofs.lemmas.List.{length-take-le}
use Rattle.blake2b_hash.proofs.Pieces.{state_after-next, take-block}
use Rattle.blake2b_hash.proofs.hasher.compress_all.Goals as goal

pub loop-at-preserved : goal.loop-at-preserved
loop-at-preserved c = λ i x whole total start.
    let blocks = c.args.blocks.now in
    let at : ℕ = 128 * c.loop-at.at in
    let y : List ℕ = take at blocks in
    let b : List ℕ = take 128 (drop at blocks) in
    let before = c.loop-at.invariant i x whole total start in
    let wide : length y ≡ at = length-take-le at blocks (omega arith) in
    let full : length b ≡ 128 = length-take-le 128 (drop at blocks) (omega (arith, length-drop at blocks)) in
    let len = length-append x y in
    let next : 128 * (c.loop-at.at + 1) ≡ at + 128 = omega arith in
    let size : at + 128 - at ≡ 128 = omega arith in
    let ens = rw size at c.compress-next.ensures in
    rw (next, take-block blocks at) (ens ∙ state_after-next i x y b _ _ before (omega (arith, len, wide)) full (omega (arith, len, wide, total)))
