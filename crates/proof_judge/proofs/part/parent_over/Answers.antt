use Rattle.std.proofs.Common.{◌/◌, ◌∙◌, sym, ap}
use Rattle.flat_tree.specs.Subtrees.{number}
use Rattle.flat_tree.proofs.NumberLemmas.{same_depth}
use Rattle.node_set.specs.Paths.{sibling_of}
use Rattle.proof_check.proofs.Folding.{left_pair, right_pair}
use Rattle.proof_judge.proofs.part.parent_over.Goals as goal

pub parent-requires-else-offset-eq1-clause-siblings :
    goal.parent-requires-else-offset-eq1-clause-siblings
parent-requires-else-offset-eq1-clause-siblings c =
    let at = c.requires.siblings in
    let pair = left_pair at.0 c.args.offset _ _ c.if-offset-eq1.false at.1 at.2 in
    (at.0, c.args.offset / 2, pair.0, pair.1)

pub returns-then-offset-eq1-clause-index : goal.returns-then-offset-eq1-clause-index
returns-then-offset-eq1-clause-index c = λ depth here.
    let at = c.requires.siblings in
    let row = same_depth depth c.args.offset at.0 c.args.offset (sym here ∙ at.1) in
    let near = at.2 ∙ ap (λ d. number d (sibling_of c.args.offset)) (sym row) in
    c.parent.ensures.index depth (c.args.offset / 2) (right_pair depth c.args.offset _ _ c.if-offset-eq1.true here near).0
