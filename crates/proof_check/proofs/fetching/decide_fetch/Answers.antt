use Rattle.std.proofs.Common.{◌≡◌, ℕ, inl, List, [], Option, Some, None, refl, sym, ap, subst, ◌∙◌, if◌then◌else◌}
use Rattle.merkle_nodes.specs.declared.node.Node.{Node}
use Rattle.node_set.specs.Contents.{Content, held}
use Rattle.node_set.specs.Walks.{IsFirstStored}
use Rattle.proof_form.specs.Proofs.{Block, block_view, view as proof_view}
use Rattle.proof_check.specs.Admission.{refused}
use Rattle.proof_check.specs.Meets.{seen, IsValue, IsTop, PutsPath, block_refusal}
use Rattle.proof_check.specs.Parts.{of_part}
use Rattle.proof_check.specs.Reaching.{Meets, MeetsAt, incoming_of}
use Rattle.proof_check.specs.Settling.{late_refusal, commit_with}
use Rattle.proof_check.proofs.PlainFetch.{KeepsAll, puts_none, puts_block, late_fetch, fetch_tops, fetch_admission, fetch_legal}
use Rattle.proof_check.proofs.fetching.decide_fetch.Goals as goal

pub returns-in_default-clause-answers : goal.returns-in_default-clause-answers
returns-in_default-clause-answers g c = λ stands sound accepts.
    let m = (g.V.View.view c.args.view.now).content in
    let p = proof_view c.args.proof.now in
    let head = c.args.head.now in
    let here : p.block ≡ None = ap block_view c.in_default.is in
    let uncommitted : commit_with None (incoming_of (held m) p.block) ≡ None = rw here refl in
    let keeps : KeepsAll p m head c.keep_head.new.change = record {
      head_is = c.keep_head.ensures.head;
      roots_are = c.keep_head.ensures.roots ∙ c.roots.ensures;
      commit_is = c.keep_head.ensures.commit ∙ sym uncommitted;
    } in
    let late = late_fetch p m c.requires.none accepts ∙ ap (λ (block : Option Block). of_part block (block_refusal m)) here in
    (ap refused late, fetch_admission p m c.requires.none c.requires.fits head c.requires.is_open sound None _ keeps (puts_none p m _ here c.keep_head.ensures.fresh))

pub returns-in_default-clause-legal : goal.returns-in_default-clause-legal
returns-in_default-clause-legal g c =
    let m = (g.V.View.view c.args.view.now).content in
    let p = proof_view c.args.proof.now in
    let head = c.args.head.now in
    let here : p.block ≡ None = ap block_view c.in_default.is in
    let uncommitted : commit_with None (incoming_of (held m) p.block) ≡ None = rw here refl in
    let keeps : KeepsAll p m head c.keep_head.new.change = record {
      head_is = c.keep_head.ensures.head;
      roots_are = c.keep_head.ensures.roots ∙ c.roots.ensures;
      commit_is = c.keep_head.ensures.commit ∙ sym uncommitted;
    } in
    fetch_legal p m c.requires.none c.requires.fits head c.requires.is_open _ keeps

pub returns-in-Some-refused_block-clause-answers : goal.returns-in-Some-refused_block-clause-answers
returns-in-Some-refused_block-clause-answers g c = λ stands sound accepts.
    let m = (g.V.View.view c.args.view.now).content in
    let p = proof_view c.args.proof.now in
    let head = c.args.head.now in
    let b = seen c.in-Some.block in
    let met = c.in-Ok.met in
    let here : p.block ≡ Some b = ap block_view c.in-Some.is in
    let first = subst (λ (n : ℕ). IsFirstStored n (held m) b.index met.level) c.requires.is_open.length c.in-Ok.ensures.stored in
    let meets : Meets p.block (Some met) (MeetsAt m.length (held m)) = rw here (record { first = first; few = c.in-Ok.ensures.few }) in
    let values : Meets p.block (Some met) (λ own top. IsValue m.node own.index top) = rw here (c.in-Ok.ensures.value stands sound) in
    let tops = fetch_tops p m c.requires.none c.requires.fits head c.requires.is_open sound (Some met) meets values in
    let top : IsTop m b met = subst (λ (block : Option Block). Meets block (Some met) (IsTop m)) here tops in
    let late = late_fetch p m c.requires.none accepts ∙ ap (λ (block : Option Block). of_part block (block_refusal m)) here ∙ sym (c.refused_block.ensures.refusal m top) in
    inl (ap refused (late ∙ c.in-Some-refused_block.is))

pub returns-in-None-clause-answers : goal.returns-in-None-clause-answers
returns-in-None-clause-answers g c = λ stands sound accepts.
    let m = (g.V.View.view c.args.view.now).content in
    let p = proof_view c.args.proof.now in
    let head = c.args.head.now in
    let b = seen c.in-Some.block in
    let met = c.in-Ok.met in
    let here : p.block ≡ Some b = ap block_view c.in-Some.is in
    let first = subst (λ (n : ℕ). IsFirstStored n (held m) b.index met.level) c.requires.is_open.length c.in-Ok.ensures.stored in
    let index : c.incoming.result ≡ incoming_of (held m) p.block =
    subst (λ (n : Content). c.incoming.result ≡ (if held n b.index then None else Some b.index)) c.in-Ok.ensures.keeps.content c.incoming.ensures
    ∙ sym (ap (incoming_of (held m)) here) in
    let keeps : KeepsAll p m head (record { head = c.keep_head.new.change.head; roots = c.keep_head.new.change.roots; commit = c.fetch-change.result; fresh = c.refused_block.new.fresh }) = record {
      head_is = c.keep_head.ensures.head;
      roots_are = c.keep_head.ensures.roots ∙ c.roots.ensures;
      commit_is = c.fetch-change.ensures ∙ ap (commit_with None) index;
    } in
    let meets : Meets p.block (Some met) (MeetsAt m.length (held m)) = rw here (record { first = first; few = c.in-Ok.ensures.few }) in
    let values : Meets p.block (Some met) (λ own top. IsValue m.node own.index top) = rw here (c.in-Ok.ensures.value stands sound) in
    let tops = fetch_tops p m c.requires.none c.requires.fits head c.requires.is_open sound (Some met) meets values in
    let top : IsTop m b met = subst (λ (block : Option Block). Meets block (Some met) (IsTop m)) here tops in
    let late = late_fetch p m c.requires.none accepts ∙ ap (λ (block : Option Block). of_part block (block_refusal m)) here ∙ sym (c.refused_block.ensures.refusal m top) in
    let path = subst (λ (old : List Node). PutsPath b met.level old c.refused_block.new.fresh) c.keep_head.ensures.fresh (c.refused_block.ensures.puts c.in-None.is) in
    let put = puts_block p m b met _ here first c.in-Ok.ensures.few (c.in-Ok.ensures.value stands sound) c.refused_block.ensures.order path in
    (ap refused (late ∙ c.in-None.is), fetch_admission p m c.requires.none c.requires.fits head c.requires.is_open sound (Some met) _ keeps put)

pub returns-in-None-clause-legal : goal.returns-in-None-clause-legal
returns-in-None-clause-legal g c =
    let m = (g.V.View.view c.args.view.now).content in
    let p = proof_view c.args.proof.now in
    let head = c.args.head.now in
    let b = seen c.in-Some.block in
    let here : p.block ≡ Some b = ap block_view c.in-Some.is in
    let index : c.incoming.result ≡ incoming_of (held m) p.block =
    subst (λ (n : Content). c.incoming.result ≡ (if held n b.index then None else Some b.index)) c.in-Ok.ensures.keeps.content c.incoming.ensures
    ∙ sym (ap (incoming_of (held m)) here) in
    let keeps : KeepsAll p m head (record { head = c.keep_head.new.change.head; roots = c.keep_head.new.change.roots; commit = c.fetch-change.result; fresh = c.refused_block.new.fresh }) = record {
      head_is = c.keep_head.ensures.head;
      roots_are = c.keep_head.ensures.roots ∙ c.roots.ensures;
      commit_is = c.fetch-change.ensures ∙ ap (commit_with None) index;
    } in
    fetch_legal p m c.requires.none c.requires.fits head c.requires.is_open _ keeps
