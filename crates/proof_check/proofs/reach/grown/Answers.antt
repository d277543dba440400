use Rattle.std.proofs.Common.{◌≡◌, ℕ, ◌<◌, ◌≤◌, ◌+◌, length, IfSome, refl, sym, ap, subst, ◌∙◌}
use Rattle.flat_tree.specs.Covers.{cover_of}
use Rattle.flat_tree.specs.Roots.{full_roots_of}
use Rattle.flat_tree.specs.declared.limits.TheConstants.{MAX_BLOCKS, MAX_CORE_BYTES}
use Rattle.merkle_nodes.specs.Joined.{joined, with_parts}
use Rattle.merkle_nodes.specs.Nodes.{AreNodes}
use Rattle.node_set.specs.Contents.{roots, bytes_under}
use Rattle.proof_form.specs.declared.proof.UpgradePart.{UpgradePart}
use Rattle.proof_form.specs.Proofs.{UpgradeFits}
use Rattle.proof_check.specs.Early.{twig_bytes}
use Rattle.proof_check.specs.Growth.{AreValues, HasJoined}
use Rattle.proof_check.specs.Reaching.{IfPart}
use Rattle.proof_check.proofs.UpgradeValues.{joined_known, nodes_of_roots}
use Rattle.proof_check.proofs.reach.grown.Goals as goal

pub returns-in-Some-clause-values : goal.returns-in-Some-clause-values
returns-in-Some-clause-values c = λ p m upgrade at sound old.
    let u = c.in-Some.upgrade in
    let base = c.args.base in
    let fits : UpgradeFits u = subst (λ o. IfSome o UpgradeFits) c.in-Some.is c.requires.fits in
    let due : (u.start ≡ base) × (base < u.length) × (u.length ≤ MAX_BLOCKS) × (bytes_under c.args.old.now + twig_bytes u.nodes ≤ MAX_CORE_BYTES) =
    subst (λ o. IfPart o (λ (v : UpgradePart). (v.start ≡ base) × (base < v.length) × (v.length ≤ MAX_BLOCKS) × (bytes_under c.args.old.now + twig_bytes v.nodes ≤ MAX_CORE_BYTES))) c.in-Some.is c.requires.due in
    let count : length u.nodes ≡ length (cover_of base u.length) = fits.nodes.count ∙ ap (λ (n : ℕ). length (cover_of n u.length)) due.0 in
    let value = joined (with_parts m.length m.node (cover_of m.length u.length) u.nodes) in
    let premises = joined_known m u.length base u.nodes sound at due.1 count in
    let has = c.join.ensures.values value premises.0 (subst (AreNodes value (full_roots_of base)) (sym old) premises.1)
    (subst (AreValues value (cover_of base u.length)) (sym c.as_slice.ensures.items) premises.2) in
    rw (upgrade, c.in-Some.is) has

pub returns-in-None-clause-values : goal.returns-in-None-clause-values
returns-in-None-clause-values c = λ p m upgrade at sound old.
    let nodes = subst (λ (n : ℕ). AreNodes m.node (full_roots_of n) (roots m)) at (nodes_of_roots m m.node (λ d o root. refl) sound) in
    let has = c.unchanged.ensures.values m.node (subst (AreNodes m.node (full_roots_of c.args.base)) (sym old) nodes) in
    rw (upgrade, c.in-None.is) (subst (λ (n : ℕ). HasJoined c.args.base n m.node c.unchanged.result) (sym at) has)
