use Rattle.std.proofs.Common.{[], ◌∷◌, subst}
use Rattle.blake2b_hash.specs.Hasher.{Holds}
use Rattle.merkle_nodes.proofs.RootInput.{next_root}
use Rattle.merkle_nodes.proofs.roots.hash_of_roots.Goals as goal

pub loop-root-preserved : goal.loop-root-preserved
loop-root-preserved c =
    let one = c.update-in-loop-root.ensures 32 [] _ c.loop-root.invariant in
    let two = c.update-in-loop-root-2.ensures 32 [] _ one in
    let three = c.update-in-loop-root-3.ensures 32 [] _ two in
    subst (λ m. Holds 32 [] m c.update-in-loop-root-3.new.self)
    (next_root (2 ∷ []) c.args.roots.now c.loop-root.root-index _ _ _ c.loop-root-test.true c.to_le_bytes.ensures c.to_le_bytes-in-loop-root.ensures) three
