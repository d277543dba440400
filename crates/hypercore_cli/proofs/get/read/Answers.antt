use Rattle.std.proofs.Common.{inl, inr, refl, ◌∙◌}
use Rattle.hypercore_cli.specs.Cores.{core_of}
use Rattle.hypercore_cli.proofs.OpenedCores.{rest_kept, rose_in, reading_keeps, refuses_opening, refusal_keeps}
use Rattle.hypercore_cli.proofs.GetLemmas.{reads_ok, reads_err}
use Rattle.hypercore_cli.proofs.get.read.Goals as goal

pub returns-in-Ok-read-clause-reads : goal.returns-in-Ok-read-clause-reads
returns-in-Ok-read-clause-reads g c =
    let core = core_of (g.K.Keys.key_accepts c.args.keys.now) (g.K.Keys.public_of c.args.keys.now) c.args.key.now c.args.name.now (g.H.Shelf.shelf c.args.shelf.now) (g.H.Shelf.shelf c.close_named.new.shelf) in (
      _,
      reads_ok _ _ core (λ honest. g.met.H.Shelf.tells c.args.shelf.now honest core.id) _ c.in-Ok.core c.get-read.new.self c.in-Ok.ensures.opens c.in-Ok.ensures.no_core
          c.args.index c.get-read.new.buf c.get-read.result c.in-Ok-read.read c.in-Ok-read.is c.get-read.ensures.ends c.get-read.ensures.acts,
      refl,
    )

pub returns-in-Ok-read-clause-rest : goal.returns-in-Ok-read-clause-rest
returns-in-Ok-read-clause-rest g c =
    rest_kept _ (g.H.Shelf.shelf c.open_named-opened.new.shelf) _ c.in-Ok.ensures.calls.others (λ honest other apart. c.in-Ok.ensures.list honest other)
    c.close_named.ensures.counts c.close_named.ensures.out c.close_named.ensures.gives

pub returns-in-Err-read-clause-reads : goal.returns-in-Err-read-clause-reads
returns-in-Err-read-clause-reads g c =
    let core = core_of (g.K.Keys.key_accepts c.args.keys.now) (g.K.Keys.public_of c.args.keys.now) c.args.key.now c.args.name.now (g.H.Shelf.shelf c.args.shelf.now) (g.H.Shelf.shelf c.close_named.new.shelf) in
    let taken = c.in-Ok.ensures.opens in
    inr (rw c.read_end.ensures (reads_err _ _ core (λ honest. g.met.H.Shelf.tells c.args.shelf.now honest core.id) _ c.in-Ok.core c.get-read.new.self taken c.in-Ok.ensures.no_core
    c.args.index (rose_in core _ _ _ _ c.in-Ok.ensures.calls.others.counts taken.went taken.goes_on.faults c.close_named.ensures.out c.close_named.ensures.counts)
    c.get-read.new.buf c.get-read.result c.in-Err-read.fault c.in-Err-read.is c.get-read.ensures.ends c.get-read.ensures.acts))

pub returns-in-Err-clause-reads : goal.returns-in-Err-clause-reads
returns-in-Err-clause-reads g c =
    let core = core_of (g.K.Keys.key_accepts c.args.keys.now) (g.K.Keys.public_of c.args.keys.now) c.args.key.now c.args.name.now (g.H.Shelf.shelf c.args.shelf.now) (g.H.Shelf.shelf c.open_named-opened.new.shelf) in
    inl (rw c.named_end.ensures (refuses_opening _ g.K.Auth.Verifier.accepts core (λ honest. g.met.H.Shelf.tells c.args.shelf.now honest core.id)
    (g.met.H.Store.Disk g.world.𝓛 g.world.𝓜 g.world.𝓡 ((λ s x. x), (λ x. x), (λ x. x), λ x. x)).may_stay
    c.in-Err.fault c.in-Err.ensures.opens c.in-Err.ensures.no_core c.in-Err.ensures.calls.cause))

pub returns-in-Ok-read-clause-content : goal.returns-in-Ok-read-clause-content
returns-in-Ok-read-clause-content g c =
    let core = core_of (g.K.Keys.key_accepts c.args.keys.now) (g.K.Keys.public_of c.args.keys.now) c.args.key.now c.args.name.now (g.H.Shelf.shelf c.args.shelf.now) (g.H.Shelf.shelf c.close_named.new.shelf) in
    let taken = c.in-Ok.ensures.opens in
    reading_keeps _ _ core (λ honest. g.met.H.Shelf.tells c.args.shelf.now honest core.id)
    (g.met.H.Store.Disk g.world.𝓛 g.world.𝓜 g.world.𝓡 ((λ s x. x), (λ x. x), (λ x. x), λ x. x)).may_stay
    _ c.in-Ok.core c.get-read.new.self taken c.get-read.ensures.leaves (λ honest. (c.close_named.ensures.gives (c.in-Ok.ensures.calls.others.counts.honest ∙ honest)).here)

pub returns-in-Err-read-clause-content : goal.returns-in-Err-read-clause-content
returns-in-Err-read-clause-content g c =
    let core = core_of (g.K.Keys.key_accepts c.args.keys.now) (g.K.Keys.public_of c.args.keys.now) c.args.key.now c.args.name.now (g.H.Shelf.shelf c.args.shelf.now) (g.H.Shelf.shelf c.close_named.new.shelf) in
    let taken = c.in-Ok.ensures.opens in
    reading_keeps _ _ core (λ honest. g.met.H.Shelf.tells c.args.shelf.now honest core.id)
    (g.met.H.Store.Disk g.world.𝓛 g.world.𝓜 g.world.𝓡 ((λ s x. x), (λ x. x), (λ x. x), λ x. x)).may_stay
    _ c.in-Ok.core c.get-read.new.self taken c.get-read.ensures.leaves (λ honest. (c.close_named.ensures.gives (c.in-Ok.ensures.calls.others.counts.honest ∙ honest)).here)

pub returns-in-Err-clause-content : goal.returns-in-Err-clause-content
returns-in-Err-clause-content g c =
    let core = core_of (g.K.Keys.key_accepts c.args.keys.now) (g.K.Keys.public_of c.args.keys.now) c.args.key.now c.args.name.now (g.H.Shelf.shelf c.args.shelf.now) (g.H.Shelf.shelf c.open_named-opened.new.shelf) in
    refusal_keeps core _ (refuses_opening _ g.K.Auth.Verifier.accepts core (λ honest. g.met.H.Shelf.tells c.args.shelf.now honest core.id)
    (g.met.H.Store.Disk g.world.𝓛 g.world.𝓜 g.world.𝓡 ((λ s x. x), (λ x. x), (λ x. x), λ x. x)).may_stay
    c.in-Err.fault c.in-Err.ensures.opens c.in-Err.ensures.no_core c.in-Err.ensures.calls.cause)
