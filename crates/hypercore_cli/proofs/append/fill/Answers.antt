use Rattle.std.proofs.Common.{inl, inr}
use Rattle.hypercore_cli.specs.Cores.{core_of}
use Rattle.hypercore_cli.proofs.OpenedCores.{is_opened, rose_in, refuses_opening}
use Rattle.hypercore_cli.proofs.ExtendLemmas.{appends_all, refuses_lines}
use Rattle.hypercore_cli.proofs.append.fill.Goals as goal

pub returns-in-Ok-done-clause-fills : goal.returns-in-Ok-done-clause-fills
returns-in-Ok-done-clause-fills g c =
    let core = core_of (g.K.Keys.key_accepts c.args.keys.now) (g.K.Keys.public_of c.args.keys.now) c.args.key.now c.args.name.now (g.H.Shelf.shelf c.args.shelf.now) (g.H.Shelf.shelf c.close_named.new.shelf) in
    appends_all _ _ core (λ honest. g.met.H.Shelf.tells c.args.shelf.now honest core.id)
    (g.met.H.Store.Disk g.world.𝓛 g.world.𝓜 g.world.𝓡 ((λ s x. x), (λ x. x), (λ x. x), λ x. x)).may_stay
    _ c.in-Ok.core c.append_lines-done.new.core c.in-Ok.ensures.opens c.in-Ok.ensures.calls.others.counts.honest c.close_named.ensures.gives _ _ _ c.info-info.ensures.info c.in-Ok.ensures.no_core c.in-Ok-done.ensures

pub returns-in-Err-done-clause-fills : goal.returns-in-Err-done-clause-fills
returns-in-Err-done-clause-fills g c =
    let core = core_of (g.K.Keys.key_accepts c.args.keys.now) (g.K.Keys.public_of c.args.keys.now) c.args.key.now c.args.name.now (g.H.Shelf.shelf c.args.shelf.now) (g.H.Shelf.shelf c.close_named.new.shelf) in
    let taken = c.in-Ok.ensures.opens in
    inr (
      (_, is_opened _ g.K.Auth.Verifier.accepts core (λ honest. g.met.H.Shelf.tells c.args.shelf.now honest core.id) _ c.in-Ok.core taken c.in-Ok.ensures.no_core),
      rw c.append_end.ensures (refuses_lines _ g.K.Auth.Verifier.accepts core (λ honest. g.met.H.Shelf.tells c.args.shelf.now honest core.id)
          (g.met.H.Store.Disk g.world.𝓛 g.world.𝓜 g.world.𝓡 ((λ s x. x), (λ x. x), (λ x. x), λ x. x)).may_stay
          _ c.in-Ok.core c.append_lines-done.new.core taken c.in-Ok.ensures.calls.others.counts.honest c.close_named.ensures.gives
          (rose_in core _ _ _ _ c.in-Ok.ensures.calls.others.counts taken.went taken.goes_on.faults c.close_named.ensures.out c.close_named.ensures.counts)
          _ _ c.in-Err-done.fault c.in-Err-done.ensures),
    )

pub returns-in-Err-clause-fills : goal.returns-in-Err-clause-fills
returns-in-Err-clause-fills g c =
    let core = core_of (g.K.Keys.key_accepts c.args.keys.now) (g.K.Keys.public_of c.args.keys.now) c.args.key.now c.args.name.now (g.H.Shelf.shelf c.args.shelf.now) (g.H.Shelf.shelf c.open_named-opened.new.shelf) in
    inl (rw c.named_end.ensures (refuses_opening _ g.K.Auth.Verifier.accepts core (λ honest. g.met.H.Shelf.tells c.args.shelf.now honest core.id)
    (g.met.H.Store.Disk g.world.𝓛 g.world.𝓜 g.world.𝓡 ((λ s x. x), (λ x. x), (λ x. x), λ x. x)).may_stay
    c.in-Err.fault c.in-Err.ensures.opens c.in-Err.ensures.no_core c.in-Err.ensures.calls.cause))
