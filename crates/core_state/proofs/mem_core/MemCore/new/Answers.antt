use Rattle.std.proofs.Common.{sym, subst}
use Rattle.node_set.specs.Contents.{Content}
use Rattle.node_set.specs.Whole.{IsWhole}
use Rattle.core_state.proofs.StartLemmas.{start_whole}
use Rattle.core_state.proofs.mem_core.MemCore.new.Goals as goal

pub invariant_of-result : goal.invariant_of-result
invariant_of-result g c =
    let accepts = g.A.Verifier.accepts c.args.auth in
    subst (λ (m : Content). IsWhole accepts m) (sym c.new.ensures) (start_whole accepts)
