use Rattle.std.proofs.Common.{◌*◌, sym, ◌∙◌, arith}
use Rattle.log_view.proofs.Spots.{has_half, half_unstored}
use Rattle.log_view.proofs.seeking.half_with.Goals as goal

pub overflow_mul-first : goal.overflow_mul-first
overflow_mul-first g c = omega (arith, (has_half c.args.level c.args.offset _ c.requires.within c.requires.blocks).2)

pub overflow_add-result : goal.overflow_add-result
overflow_add-result g c = omega (arith, (has_half c.args.level c.args.offset _ c.requires.within c.requires.blocks).2)

pub index-left-requires-clause-depth : goal.index-left-requires-clause-depth
index-left-requires-clause-depth g c = (has_half c.args.level c.args.offset _ c.requires.within c.requires.blocks).0

pub index-left-requires-clause-offset : goal.index-left-requires-clause-offset
index-left-requires-clause-offset g c = (has_half c.args.level c.args.offset _ c.requires.within c.requires.blocks).1

pub returns-then-not-is_stored-clause-none : goal.returns-then-not-is_stored-clause-none
returns-then-not-is_stored-clause-none g c =
    let test = c.is_stored.ensures c.args.level (2 * c.args.offset) (sym c.index-left.ensures.number) in
    λ _. half_unstored _ _ c.args.level c.args.offset c.requires.within (sym test ∙ c.if-not-is_stored.true)
