use Rattle.std.proofs.Common.{◌≡◌, true, ◌++◌, drop, length, sym, subst}
use Rattle.node_set.specs.Contents.{held}
use Rattle.node_set.specs.Tables.{shown}
use Rattle.log_view.specs.Views.{GivesBlock}
use Rattle.log_core.specs.Memory.{Stored, memory_view}
use Rattle.log_core.proofs.KeptParts.{gives_block}
use Rattle.log_core.proofs.mem_log.MemLogView.block.Goals as goal

pub returns-clause-gives : goal.returns-clause-gives
returns-clause-gives c =
    let is_held = subst (λ (s : Stored). held (shown s.parts) c.args.index ≡ true) (sym c.self.view_is) c.requires.held in
    subst (λ (s : Stored). GivesBlock (memory_view s).source c.args.index
    (c.copy_from_slice.new.self ++ drop (length c.bytes-bytes.result.now) c.args.out.now) (length c.bytes-bytes.result.now)) c.self.view_is
    (gives_block _ c.self.invariant c.args.index _ _ _ _ is_held c.index.ensures c.bytes-bytes.ensures c.copy_from_slice.ensures.after)
