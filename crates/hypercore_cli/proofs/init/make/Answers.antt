use Rattle.hypercore_cli.proofs.InitLemmas.{is_new, refuses_init}
use Rattle.hypercore_cli.specs.Cores.{core_of}
use Rattle.hypercore_cli.proofs.init.make.Goals as goal

pub returns-in-Ok-clause-makes : goal.returns-in-Ok-clause-makes
returns-in-Ok-clause-makes g c =
    let core = core_of (g.K.Keys.key_accepts c.args.keys.now) (g.K.Keys.public_of c.args.keys.now) c.args.key.now c.args.name.now (g.H.Shelf.shelf c.args.shelf.now) (g.H.Shelf.shelf c.close_named.new.shelf) in
    is_new _ _ core (λ honest. g.met.H.Shelf.tells c.args.shelf.now honest core.id) (g.met.H.Store.Disk g.world.𝓛 g.world.𝓜 g.world.𝓡 ((λ s x. x), (λ x. x), (λ x. x), λ x. x)).may_stay
    (g.H.Shelf.shelf c.make_named-made.new.shelf) c.in-Ok.core c.in-Ok.ensures.calls.others.counts.honest c.in-Ok.ensures.makes c.in-Ok.ensures.core_exists c.in-Ok.ensures.marked c.close_named.ensures.gives

pub returns-in-Err-clause-makes : goal.returns-in-Err-clause-makes
returns-in-Err-clause-makes g c =
    let core = core_of (g.K.Keys.key_accepts c.args.keys.now) (g.K.Keys.public_of c.args.keys.now) c.args.key.now c.args.name.now (g.H.Shelf.shelf c.args.shelf.now) (g.H.Shelf.shelf c.make_named-made.new.shelf) in
    rw c.named_end.ensures (refuses_init _ _ core (λ honest. g.met.H.Shelf.tells c.args.shelf.now honest core.id) (g.met.H.Store.Disk g.world.𝓛 g.world.𝓜 g.world.𝓡 ((λ s x. x), (λ x. x), (λ x. x), λ x. x)).may_stay
    c.in-Err.fault c.in-Err.ensures.makes c.in-Err.ensures.core_exists c.in-Err.ensures.calls.cause c.in-Err.ensures.kept)
