use Rattle.std.proofs.Common.{sym}
use Rattle.proof_form.specs.declared.proof.BlockPart.{BlockPart}
use Rattle.proof_form.specs.Proofs.{Block}
use Rattle.proof_check.proofs.ByNumbers.{range_past, range_below}
use Rattle.proof_check.proofs.heads.out_of_range.Goals as goal

abbrev seen : BlockPart → Block
seen b = record { index = b.index; bytes = b.bytes.now; trail = b.trail }

pub returns-then-block-end : goal.returns-then-block-end
returns-then-block-end c = rw c.in-Some.is (sym (range_past _ (seen c.in-Some.block) c.if-block-end.true))

pub returns-else-block-end : goal.returns-else-block-end
returns-else-block-end c = rw c.in-Some.is (sym (range_below _ (seen c.in-Some.block) c.if-block-end.false))
