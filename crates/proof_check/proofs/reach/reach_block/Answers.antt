use Rattle.std.proofs.Common.{◌≡◌, ℕ, true, ◌-◌, ◌<◌, Some, None, refl, subst, ◌∙◌, arith, if◌then◌else◌}
use Rattle.flat_tree.specs.Roots.{depth_over}
use Rattle.node_set.specs.Contents.{Content, held}
use Rattle.proof_check.specs.Growth.{IsFirstHeld}
use Rattle.proof_check.proofs.reach.reach_block.Goals as goal

pub returns-clause-reach : goal.returns-clause-reach
returns-clause-reach g c =
    let m = (g.V.View.view c.args.view.now).content in
    let one = c.in-Ok.ensures.keeps.content in
    let all = c.in-Ok-first_level.ensures.keeps.content ∙ one in
    let base = c.args.base in
    let index = c.args.index in
    let first = subst (λ (n : Content). IsFirstHeld base (held n) c.args.joined.low (depth_over c.args.to (base - 1)) c.in-Ok-first_level.first) one
    c.in-Ok-first_level.ensures.first in
    let below : (block : ℕ) → held m block ≡ true → block < base = λ block is_held. omega (arith, c.requires.base, c.requires.usable.below block is_held) in
    record {
      joined_is = refl;
      first = first;
      met = (c.meet.ensures.stored (held m) below first c.in-Ok.ensures.below c.in-Ok.ensures.behind, c.meet.ensures.few);
      incoming = subst (λ (n : Content). c.incoming-incoming.result ≡ (if held n index then None else Some index)) all c.incoming-incoming.ensures;
    }
