use Rattle.std.proofs.Common.{◌≡◌, inl, List, None, Some, Err, sym, ap, subst, ◌∙◌}
use Rattle.merkle_nodes.specs.declared.node.Node.{Node}
use Rattle.node_set.specs.declared.fault.Refusal.{Refusal}
use Rattle.node_set.specs.declared.fault.Refusal.TheVariants.{NewFork}
use Rattle.node_set.specs.declared.fault.CoreFault.TheVariants.{Refused}
use Rattle.node_set.specs.Contents.{roots, bytes_under}
use Rattle.std.specs.Prelude.{IsSome, IfOk, ◌<◌}
use Rattle.node_set.proofs.Stored.{some_same}
use Rattle.node_set.specs.Refuses.{or_else}
use Rattle.proof_form.specs.Proofs.{Proof, view}
use Rattle.proof_check.specs.Admission.{IsPlain, IsServed, IsAdmission, refused}
use Rattle.proof_check.specs.Early.{early_refusal}
use Rattle.proof_check.specs.Judge.{refusal_of}
use Rattle.proof_check.specs.Reaching.{IsLegalChange}
use Rattle.proof_check.specs.Settling.{fork_upgrade_refusal}
use Rattle.proof_check.proofs.Decisions.{IsJudged, due_of, served_of, first_none, early_answer, late_answers, never_forked, fork_answer}
use Rattle.proof_check.proofs.judging.judge_into.Goals as goal

pub returns-in-Some-clause-answers : goal.returns-in-Some-clause-answers
returns-in-Some-clause-answers g c = λ stands served.
    let m = (g.V.View.view c.args.view.now).content in
    let p = view c.proof-proof.result.now in
    let same = c.proof-proof.ensures.proof in
    let roots_are = c.as_slice.ensures.items ∙ c.roots.ensures in
    let first : c.refused_first.result ≡ or_else (fork_upgrade_refusal p m) (early_refusal p m (bytes_under (roots m))) =
    c.refused_first.ensures m (sym c.head-head.ensures.fork) (sym c.head-head.ensures.length)
    ∙ ap (λ (rs : List Node). or_else (fork_upgrade_refusal p m) (early_refusal p m (bytes_under rs))) roots_are in
    let known = c.head-head.ensures.sound stands in
    let judged : IsJudged p m = record {
      fits = c.proof-proof.ensures.fits;
      plain = subst IsPlain (sym same) c.requires.plain;
      sound = known.0;
      few = known.1.bytes;
      served = subst (λ (q : Proof). IsServed q m) (sym same) served;
    } in
    let refusal = early_answer (g.A.Verifier.accepts c.args.verifier.now) p m c.in-Some.refusal judged (sym first ∙ c.in-Some.is) in
    inl (subst (λ (q : Proof). refused (refusal_of (g.A.Verifier.accepts c.args.verifier.now) q m) ≡ Some (Refused c.in-Some.refusal)) same (ap refused refusal))

pub returns-in-Some-clause-new_fork : goal.returns-in-Some-clause-new_fork
returns-in-Some-clause-new_fork g c = λ newer some.
    let m = (g.V.View.view c.args.view.now).content in
    let p = view c.proof-proof.result.now in
    let same = c.proof-proof.ensures.proof in
    let roots_are = c.as_slice.ensures.items ∙ c.roots.ensures in
    let first : c.refused_first.result ≡ or_else (fork_upgrade_refusal p m) (early_refusal p m (bytes_under (roots m))) =
    c.refused_first.ensures m (sym c.head-head.ensures.fork) (sym c.head-head.ensures.length)
    ∙ ap (λ (rs : List Node). or_else (fork_upgrade_refusal p m) (early_refusal p m (bytes_under rs))) roots_are in
    let answer = fork_answer p m c.refused_first.result (subst (λ (q : Proof). m.fork < q.fork) (sym same) newer) (subst (λ (q : Proof). IsSome q.upgrade) (sym same) some) first in
    let is : Some c.in-Some.refusal ≡ Some (NewFork m.fork) = sym c.in-Some.is ∙ answer in
    ap (λ (r : Refusal). Err (Refused r)) (some_same c.in-Some.refusal (NewFork m.fork) is)

pub decide_upgrade-requires-clause-is_open : goal.decide_upgrade-requires-clause-is_open
decide_upgrade-requires-clause-is_open g c =
    let m = (g.V.View.view c.args.view.now).content in
    let p = view c.proof-proof.result.now in
    let same = c.proof-proof.ensures.proof in
    let roots_are = c.as_slice.ensures.items ∙ c.roots.ensures in
    let first : c.refused_first.result ≡ or_else (fork_upgrade_refusal p m) (early_refusal p m (bytes_under (roots m))) =
    c.refused_first.ensures m (sym c.head-head.ensures.fork) (sym c.head-head.ensures.length)
    ∙ ap (λ (rs : List Node). or_else (fork_upgrade_refusal p m) (early_refusal p m (bytes_under rs))) roots_are in
    let none = first_none p m (bytes_under (roots m)) (sym first ∙ c.in_default.is) in
    record {
      fork = c.head-head.ensures.fork;
      length = c.head-head.ensures.length;
      signature = c.head-head.ensures.signature;
      usable = c.head-head.ensures.usable;
      due = due_of p m (bytes_under (roots m)) (served_of p m none.0) none.1;
    }

pub decide_fetch-requires-clause-is_open : goal.decide_fetch-requires-clause-is_open
decide_fetch-requires-clause-is_open g c =
    let m = (g.V.View.view c.args.view.now).content in
    let p = view c.proof-proof.result.now in
    let same = c.proof-proof.ensures.proof in
    let roots_are = c.as_slice.ensures.items ∙ c.roots.ensures in
    let first : c.refused_first.result ≡ or_else (fork_upgrade_refusal p m) (early_refusal p m (bytes_under (roots m))) =
    c.refused_first.ensures m (sym c.head-head.ensures.fork) (sym c.head-head.ensures.length)
    ∙ ap (λ (rs : List Node). or_else (fork_upgrade_refusal p m) (early_refusal p m (bytes_under rs))) roots_are in
    let none = first_none p m (bytes_under (roots m)) (sym first ∙ c.in_default.is) in
    record {
      fork = c.head-head.ensures.fork;
      length = c.head-head.ensures.length;
      signature = c.head-head.ensures.signature;
      usable = c.head-head.ensures.usable;
      due = due_of p m (bytes_under (roots m)) (served_of p m none.0) none.1;
    }

pub returns-in-Some-upgrade-clause-answers : goal.returns-in-Some-upgrade-clause-answers
returns-in-Some-upgrade-clause-answers g c = λ stands served.
    let m = (g.V.View.view c.args.view.now).content in
    let p = view c.proof-proof.result.now in
    let same = c.proof-proof.ensures.proof in
    let roots_are = c.as_slice.ensures.items ∙ c.roots.ensures in
    let first : c.refused_first.result ≡ or_else (fork_upgrade_refusal p m) (early_refusal p m (bytes_under (roots m))) =
    c.refused_first.ensures m (sym c.head-head.ensures.fork) (sym c.head-head.ensures.length)
    ∙ ap (λ (rs : List Node). or_else (fork_upgrade_refusal p m) (early_refusal p m (bytes_under rs))) roots_are in
    let none = first_none p m (bytes_under (roots m)) (sym first ∙ c.in_default.is) in
    let known = c.head-head.ensures.sound stands in
    let judged : IsJudged p m = record {
      fits = c.proof-proof.ensures.fits;
      plain = subst IsPlain (sym same) c.requires.plain;
      sound = known.0;
      few = known.1.bytes;
      served = subst (λ (q : Proof). IsServed q m) (sym same) served;
    } in
    late_answers (g.A.Verifier.accepts c.args.verifier.now) p _ m _ _ (λ q _. IsAdmission q m c.decide_upgrade.new.change) c.decide_upgrade.result same judged none.1
    (c.decide_upgrade.ensures.answers stands known.0)

pub returns-in-Some-upgrade-clause-new_fork : goal.returns-in-Some-upgrade-clause-new_fork
returns-in-Some-upgrade-clause-new_fork g c = λ newer some.
    let m = (g.V.View.view c.args.view.now).content in
    let p = view c.proof-proof.result.now in
    let same = c.proof-proof.ensures.proof in
    let roots_are = c.as_slice.ensures.items ∙ c.roots.ensures in
    let first : c.refused_first.result ≡ or_else (fork_upgrade_refusal p m) (early_refusal p m (bytes_under (roots m))) =
    c.refused_first.ensures m (sym c.head-head.ensures.fork) (sym c.head-head.ensures.length)
    ∙ ap (λ (rs : List Node). or_else (fork_upgrade_refusal p m) (early_refusal p m (bytes_under rs))) roots_are in
    let none = first_none p m (bytes_under (roots m)) (sym first ∙ c.in_default.is) in
    absurd (never_forked p _ m same none.0 newer some)

pub returns-in-Some-upgrade-clause-legal : goal.returns-in-Some-upgrade-clause-legal
returns-in-Some-upgrade-clause-legal g c =
    let m = (g.V.View.view c.args.view.now).content in
    subst (λ (q : Proof). IfOk c.decide_upgrade.result (λ _. IsLegalChange q m c.decide_upgrade.new.change)) c.proof-proof.ensures.proof c.decide_upgrade.ensures.legal

pub returns-in-None-clause-answers : goal.returns-in-None-clause-answers
returns-in-None-clause-answers g c = λ stands served.
    let m = (g.V.View.view c.args.view.now).content in
    let p = view c.proof-proof.result.now in
    let same = c.proof-proof.ensures.proof in
    let roots_are = c.as_slice.ensures.items ∙ c.roots.ensures in
    let first : c.refused_first.result ≡ or_else (fork_upgrade_refusal p m) (early_refusal p m (bytes_under (roots m))) =
    c.refused_first.ensures m (sym c.head-head.ensures.fork) (sym c.head-head.ensures.length)
    ∙ ap (λ (rs : List Node). or_else (fork_upgrade_refusal p m) (early_refusal p m (bytes_under rs))) roots_are in
    let none = first_none p m (bytes_under (roots m)) (sym first ∙ c.in_default.is) in
    let known = c.head-head.ensures.sound stands in
    let judged : IsJudged p m = record {
      fits = c.proof-proof.ensures.fits;
      plain = subst IsPlain (sym same) c.requires.plain;
      sound = known.0;
      few = known.1.bytes;
      served = subst (λ (q : Proof). IsServed q m) (sym same) served;
    } in
    late_answers (g.A.Verifier.accepts c.args.verifier.now) p _ m _ _ (λ q _. IsAdmission q m c.decide_fetch.new.change) c.decide_fetch.result same judged none.1
    (c.decide_fetch.ensures.answers stands known.0 (g.A.Verifier.accepts c.args.verifier.now))

pub returns-in-None-clause-new_fork : goal.returns-in-None-clause-new_fork
returns-in-None-clause-new_fork g c = λ newer some.
    let m = (g.V.View.view c.args.view.now).content in
    let p = view c.proof-proof.result.now in
    let same = c.proof-proof.ensures.proof in
    let roots_are = c.as_slice.ensures.items ∙ c.roots.ensures in
    let first : c.refused_first.result ≡ or_else (fork_upgrade_refusal p m) (early_refusal p m (bytes_under (roots m))) =
    c.refused_first.ensures m (sym c.head-head.ensures.fork) (sym c.head-head.ensures.length)
    ∙ ap (λ (rs : List Node). or_else (fork_upgrade_refusal p m) (early_refusal p m (bytes_under rs))) roots_are in
    let none = first_none p m (bytes_under (roots m)) (sym first ∙ c.in_default.is) in
    absurd (never_forked p _ m same none.0 newer some)

pub returns-in-None-clause-legal : goal.returns-in-None-clause-legal
returns-in-None-clause-legal g c =
    let m = (g.V.View.view c.args.view.now).content in
    subst (λ (q : Proof). IfOk c.decide_fetch.result (λ _. IsLegalChange q m c.decide_fetch.new.change)) c.proof-proof.ensures.proof c.decide_fetch.ensures.legal
