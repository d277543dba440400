use Rattle.std.proofs.Common.{sym}
use Rattle.core_disk.specs.InHand.{opened_of}
use Rattle.core_disk.proofs.FillLemmas.{on_any}
use Rattle.core_disk.proofs.OpenLemmas.{signed_as}
use Rattle.core_disk.proofs.parts.complete.Goals as goal

pub returns-clause-signed : goal.returns-clause-signed
returns-clause-signed g c =
    on_any c.fill.result
    (signed_as (g.A.Verifier.accepts c.args.verifier.now) (opened_of c.args.state.now) (opened_of c.fill.new.self) (sym c.fill.ensures.head) (sym c.fill.ensures.roots) (c.has_signed_head.ensures.signed.0 c.if-not-has_signed_head.false))
