use Rattle.std.proofs.Common.{◌≡◌, ℕ, ◌-◌, ◌∙◌, ◌++◌, List, ap, drop, length, arith, refl, replicate, length-append}
use Rattle.std.proofs.lemmas.List.{drop-replicate, length-replicate}
use Rattle.blake2b_hash.specs.Blake2b.{padded}
use Rattle.blake2b_hash.proofs.Pieces.{Takes-block, input-key}
use Rattle.blake2b_hash.specs.Hasher.{Holds}
use Rattle.blake2b_hash.proofs.hasher.Blake2b.keyed.Goals as goal

pub returns : goal.returns
unfolding Holds
returns c =
    let key = c.args.key.now in
    let full : length (padded key) ≡ 128 = omega (arith, length-append key (replicate (128 - length key) 0), length-replicate {A = ℕ} (128 - length key) 0, c.requires.key_fits) in
    let buffer =
    ap (λ (ys : List ℕ). ys ++ drop (length key) (replicate 128 0)) c.copy_from_slice.ensures.after
    ∙ ap (λ (zs : List ℕ). key ++ zs) (drop-replicate (length key) 128 0) in
    (c.requires.out_fits, rw (input-key key c.requires.has_key) (Takes-block _ _ (padded key) _ full refl refl refl c.start.ensures buffer))
