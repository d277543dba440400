use Rattle.std.proofs.Common.{List, ℕ, refl, sym, subst, IsTrue}
use Rattle.disk_trait.specs.declared.disk.Area.TheVariants.{Tree}
use Rattle.core_disk.specs.InHand.{opened_of}
use Rattle.core_disk.specs.Parts.{HasSignedHead, TellsUnfit}
use Rattle.core_disk.specs.Filling.{over_tree, IsFilled}
use Rattle.core_disk.proofs.PartLemmas.{cut_then}
use Rattle.core_disk.proofs.parts.finish.Goals as goal

pub returns-in-Ok-complete-clause-completes : goal.returns-in-Ok-complete-clause-completes
returns-in-Ok-complete-clause-completes g c whole honest behind small =
    let accepts = g.A.Verifier.accepts c.args.verifier.now in
    let first = opened_of c.args.state in
    let cuts = c.in-Ok.ensures.cuts whole honest behind in
    let still = subst (λ b. IsTrue b) (sym c.in-Ok.ensures.calls.honest) honest in
    subst (λ (tree : List ℕ). HasSignedHead accepts first × IsFilled (over_tree tree first) (opened_of c.complete.new.state)) (cuts.others Tree refl).reads
    (c.in-Ok-complete.ensures.completes still small)

pub returns-in-Err-complete-clause-completes : goal.returns-in-Err-complete-clause-completes
returns-in-Err-complete-clause-completes g c whole honest behind small =
    let accepts = g.A.Verifier.accepts c.args.verifier.now in
    let first = opened_of c.args.state in
    let cuts = c.in-Ok.ensures.cuts whole honest behind in
    let still = subst (λ b. IsTrue b) (sym c.in-Ok.ensures.calls.honest) honest in
    subst (λ (tree : List ℕ). TellsUnfit accepts tree first c.in-Err-complete.fault) (cuts.others Tree refl).reads (c.in-Err-complete.ensures.completes still small)

pub returns-in-Ok-complete-clause-cuts : goal.returns-in-Ok-complete-clause-cuts
returns-in-Ok-complete-clause-cuts g c whole honest behind =
    let still = subst (λ b. IsTrue b) (sym c.in-Ok.ensures.calls.honest) honest in
    cut_then whole (g.D.Disk.disk c.args.disk.now) (g.D.Disk.disk c.cut_tail.new.disk) _ c.in-Ok.field-0 _ (c.in-Ok.ensures.cuts whole honest behind)
    (c.in-Ok-complete.ensures.consults.keeps still)

pub returns-in-Err-complete-clause-cuts : goal.returns-in-Err-complete-clause-cuts
returns-in-Err-complete-clause-cuts g c whole honest behind =
    let still = subst (λ b. IsTrue b) (sym c.in-Ok.ensures.calls.honest) honest in
    cut_then whole (g.D.Disk.disk c.args.disk.now) (g.D.Disk.disk c.cut_tail.new.disk) _ c.in-Ok.field-0 _ (c.in-Ok.ensures.cuts whole honest behind)
    (c.in-Err-complete.ensures.consults.keeps still)
