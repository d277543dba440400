use Rattle.std.proofs.Common.{◌≡◌, ◌≤◌, ◌-◌, length}
use Rattle.proof_form.specs.Twigs.{twigs_in}
use Rattle.proof_form.proofs.TwigLoop.{with_front}
use Rattle.proof_form.proofs.twigs.twigs_from.Given as goal

abbrev pub invariant-loop : goal.invariant-loop
invariant-loop g l = (with_front l.twigs (twigs_in (l.count - l.counter) l.from) ≡ twigs_in l.count l.fn.from) × (length l.twigs ≤ l.counter)
