use Rattle.std.proofs.Common.{◌≡◌, List, ℕ, map, ap, [], ◌∷◌}
use Rattle.blake2b_hash.specs.Blake2b.{F, fold_word, local_words, rounds, words}
use Rattle.blake2b_hash.proofs.compress.compress.Goals as goal

pub returns : goal.returns
unfolding F
returns c =
    let h = c.args.h in
    let v : c.all_rounds-v.result ≡ rounds 12 (local_words h c.args.t c.args.last) (words c.args.block.now) = rw (← c.start.ensures, ← c.load.ensures) c.all_rounds-v.ensures in
    ap (λ (v : List ℕ). map (fold_word h v) (0 ∷ 1 ∷ 2 ∷ 3 ∷ 4 ∷ 5 ∷ 6 ∷ 7 ∷ [])) v
