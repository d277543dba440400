use Rattle.std.proofs.Common.{◌≡◌, Option, Some, sym, subst, arith}
use Rattle.std.specs.Option.{IfSome}
use Rattle.flat_tree.specs.Subtrees.{number}
use Rattle.proof_form.specs.declared.proof.HashPart.{HashPart}
use Rattle.proof_form.specs.Proofs.{HashFits}
use Rattle.proof_check.specs.Parts.{part_of_hash}
use Rattle.proof_judge.proofs.Ranges.{past_end, below_end, number_parts}
use Rattle.proof_judge.proofs.numbers.hash_out_of_range.Goals as goal

numbered : (hash : Option HashPart) (h : HashPart) → hash ≡ Some h → IfSome hash HashFits
    → h.node.index ≡ number (part_of_hash h).depth (part_of_hash h).offset
numbered hash h is fits = let own : HashFits h = subst (λ o. IfSome o HashFits) is fits in number_parts h.node.index (omega (arith, own.index))

pub returns-then-last-end : goal.returns-then-last-end
returns-then-last-end c =
    let last = c.spans-last.ensures.last _ _ (numbered _ _ c.in-Some.is c.requires.fits) in
    rw c.in-Some.is (sym (past_end _ (part_of_hash c.in-Some.hash) (omega (arith, last, c.if-last-end.true))))

pub returns : goal.returns
returns c =
    let last = c.spans-last.ensures.last _ _ (numbered _ _ c.in-Some.is c.requires.fits) in
    rw c.in-Some.is (sym (below_end _ (part_of_hash c.in-Some.hash) (omega (arith, last, c.if-last-end.false))))
