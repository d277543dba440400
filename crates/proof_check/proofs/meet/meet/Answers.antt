use Rattle.std.proofs.Common.{inl, inr, sym, subst, ◌∙◌}
use Rattle.std.proofs.lemmas.Bool.{cases_lt}
use Rattle.flat_tree.specs.Roots.{depth_over}
use Rattle.proof_check.specs.Meets.{FoundBelow}
use Rattle.proof_check.proofs.Meeting.{found_stored}
use Rattle.proof_check.proofs.meet.meet.Goals as goal

pub met_from-requires-clause-from : goal.met_from-requires-clause-from
met_from-requires-clause-from c = c.level_from.ensures.from c.args.joined.now.low c.requires.joined.low

pub returns-in-Some-clause-stored : goal.returns-in-Some-clause-stored
returns-in-Some-clause-stored c = λ held below first found behind. elim (cases_lt c.args.index c.args.base) [
  | inl within ↦
      found_stored c.args.base c.args.to held c.args.index c.in-Some.met within c.requires.longer
      (subst (FoundBelow c.args.base held c.args.index (depth_over c.args.base c.args.index)) c.in-Some.is (found within))
  | inr past ↦ let clash = sym c.in-Some.is ∙ behind past in cc
]

pub returns-in-None-clause-stored : goal.returns-in-None-clause-stored
returns-in-None-clause-stored c = λ held below first found behind.
    c.met_from.ensures.stored held first (c.level_from.ensures.none held below (λ within.
    subst (FoundBelow c.args.base held c.args.index (depth_over c.args.base c.args.index)) c.in-None.is (found within)))
