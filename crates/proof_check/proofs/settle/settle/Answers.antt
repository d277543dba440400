use Rattle.std.proofs.Common.{◌≡◌, ℕ, true, ◌-◌, ◌<◌, ◌≤◌, Option, None, refl, sym, ap, subst, ◌∙◌}
use Rattle.flat_tree.specs.Roots.{full_roots_of, depth_over}
use Rattle.node_set.specs.declared.fault.Refusal.{Refusal}
use Rattle.node_set.specs.Contents.{Blocks, holds, held}
use Rattle.node_set.specs.Refuses.{or_else}
use Rattle.proof_form.specs.Proofs.{view}
use Rattle.proof_check.specs.Upgraded.{with_upgrade, length_after}
use Rattle.proof_check.specs.Judge.{signature_refusal}
use Rattle.node_set.specs.Nodes.{with_nodes}
use Rattle.proof_check.specs.Growth.{IsFirstHeld, IsJoined, HasJoined}
use Rattle.proof_check.specs.Meets.{behind_end}
use Rattle.proof_check.specs.Reaching.{joined_of, incoming_of}
use Rattle.proof_check.proofs.AfterUpgrade.{after_is, nodes_are, tops_are}
use Rattle.proof_check.proofs.Reaches.{joined_below_end, due_longer}
use Rattle.proof_check.proofs.Admitting.{with_head, head_after, signature_same, commit_is, roots_stay, fresh_is}
use Rattle.proof_check.proofs.settle.settle.Goals as goal

pub returns-in-Some-clause-settles : goal.returns-in-Some-clause-settles
returns-in-Some-clause-settles g c = λ m ground sound has.
    let p = view c.args.proof.now in
    let after = after_is p m c.requires.fits sound ground.is_open.due in
    let tops = tops_are p m (with_upgrade p m) p.block c.args.reach.met after ground.reaches.meets has.meets in
    ap (λ (r : Option Refusal). or_else r (signature_refusal (g.A.Verifier.accepts c.args.verifier.now) p (with_upgrade p m)))
    (sym (c.refused_part.ensures.refusal (with_upgrade p m) tops) ∙ c.in-Some.is)

pub returns-in-Some-refused_head-clause-settles : goal.returns-in-Some-refused_head-clause-settles
returns-in-Some-refused_head-clause-settles g c = λ m ground sound has.
    let p = view c.args.proof.now in
    let after = after_is p m c.requires.fits sound ground.is_open.due in
    let tops = tops_are p m (with_upgrade p m) p.block c.args.reach.met after ground.reaches.meets has.meets in
    let rs = after.roots_are ∙ sym (nodes_are (joined_of p m) (full_roots_of (length_after p m)) c.args.reach.joined.roots has.joined.at_roots) in
    let signature = signature_same (g.A.Verifier.accepts c.args.verifier.now) p m (with_upgrade p m) c.args.reach.joined.roots c.args.head.now.fork after.length
    (after.fork ∙ sym ground.is_open.fork) rs in
    ap (λ (r : Option Refusal). or_else r (signature_refusal (g.A.Verifier.accepts c.args.verifier.now) p (with_upgrade p m)))
    (sym (c.refused_part.ensures.refusal (with_upgrade p m) tops) ∙ c.in_default.is)
    ∙ sym signature ∙ sym c.refused_head.ensures ∙ c.in-Some-refused_head.is

pub returns-clause-settles : goal.returns-clause-settles
returns-clause-settles g c = λ m ground sound has.
    let p = view c.args.proof.now in
    let after = after_is p m c.requires.fits sound ground.is_open.due in
    let tops = tops_are p m (with_upgrade p m) p.block c.args.reach.met after ground.reaches.meets has.meets in
    let rs = after.roots_are ∙ sym (nodes_are (joined_of p m) (full_roots_of (length_after p m)) c.args.reach.joined.roots has.joined.at_roots) in
    let signature = signature_same (g.A.Verifier.accepts c.args.verifier.now) p m (with_upgrade p m) c.args.reach.joined.roots c.args.head.now.fork after.length
    (after.fork ∙ sym ground.is_open.fork) rs in
    let agrees = joined_below_end p m _ c.requires.fits sound ground.is_open.due in
    let none = sym (c.refused_part.ensures.refusal (with_upgrade p m) tops) ∙ c.in_default.is in
    let head = head_after p m c.args.head.now c.head_with-change.result ground.is_open.due.fork (record { fork = ground.is_open.fork; length = ground.is_open.length; signature = ground.is_open.signature })
    c.head_with-change.ensures.none c.head_with-change.ensures.some in
    let stays = with_head p (with_upgrade p m) in
    let j = c.args.reach.joined in
    let to = length_after p m in
    let before = subst (λ (n : ℕ). n ≤ to → ((block : ℕ) → held m block ≡ true → block < n)
    → IsFirstHeld n (held m) j.low (depth_over to (n - 1)) c.args.reach.first → IsJoined n to j → HasJoined n to (joined_of p m) j
    → (d o : ℕ) → with_nodes (λ e q. None) c.put_joined.new.fresh d o ≡ behind_end n to (held m) (joined_of p m) d o) ground.is_open.length
    (c.put_joined.ensures.puts (joined_of p m) (held m) to) (due_longer p m _ ground.is_open.due) ground.is_open.usable.below ground.reaches.first ground.reaches.joined has.joined in (
      ap (λ (r : Option Refusal). or_else r (signature_refusal (g.A.Verifier.accepts c.args.verifier.now) p (with_upgrade p m))) none
          ∙ sym signature ∙ sym c.refused_head.ensures ∙ c.in_default-refused_head.is,
      record {
        fork = head.fork ∙ sym stays.0;
        length = head.length ∙ sym stays.1;
        signature = head.signature ∙ sym stays.2;
        roots = sym rs ∙ sym (roots_stay p m (with_upgrade p m) after sound agrees p.block c.args.reach.met refl ground.reaches.meets tops ground.is_open.due.block);
        commit = c.commit_for-change.ensures ∙ commit_is p m c.args.reach.incoming ground.is_open.due.fork
            (ground.reaches.incoming ∙ ap (λ (block : Blocks). incoming_of (holds block) p.block) (sym after.block));
        order = c.refused_part.ensures.order;
        fresh = fresh_is p m (with_upgrade p m) after sound agrees p.block c.args.reach.met c.put_joined.new.fresh c.refused_part.new.fresh refl ground.reaches.meets tops
            ground.is_open.due.block (c.refused_part.ensures.puts c.in_default.is) before;
      },
    )
