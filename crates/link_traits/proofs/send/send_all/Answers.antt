use Rattle.std.proofs.Common.{◌≢◌, [], arith}
use Rattle.std.proofs.lemmas.List.{take_rest}
use Rattle.link_traits.proofs.Sending.{HasSent-step}
use Rattle.link_traits.proofs.send.send_all.Goals as goal

pub loop-rest-preserved : goal.loop-rest-preserved
loop-rest-preserved g c =
    let rest = c.loop-rest.rest.now in
    let some : rest ≢ [] = λ none. grind (arith, none, c.loop-rest-test.ensures) in
    rw (take_rest rest c.in-Ok.taken) (HasSent-step _ _ _ _ rest c.in-Ok.taken c.loop-rest.invariant c.in-Ok.ensures.sends some)
