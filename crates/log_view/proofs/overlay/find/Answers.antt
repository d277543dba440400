use Rattle.std.proofs.Common.{rules, sym}
use Rattle.std.proofs.lemmas.Cmp.{ranked}
use Rattle.std.proofs.lemmas.List.Sorted.{answers_always}
use Rattle.merkle_nodes.specs.declared.node.Node.{Node}
use Rattle.log_view.proofs.Finding.{number_absent}
use Rattle.log_view.proofs.overlay.find.Goals as goal

pub returns-in-Ok-clause-numbered : goal.returns-in-Ok-clause-numbered
returns-in-Ok-clause-numbered c =
    let equal = c.in-Ok.ensures.position (λ (node : Node). node.index) (answers_always _ _ _ (λ f a r g called. search rules)) in
    ranked _ c.args.index _ (sym (equal _))

pub returns-in-Err-clause-none : goal.returns-in-Err-clause-none
returns-in-Err-clause-none c =
    let parted = c.in-Err.ensures.position (λ (node : Node). node.index) (answers_always _ _ _ (λ f a r g called. search rules)) in
    λ _. number_absent c.args.nodes.now c.requires.ascend c.args.index _ parted
