use Rattle.std.proofs.Common.{take, Ok}
use Rattle.std.specs.List.{flat_map}
use Rattle.compact_enc.specs.Written.{Writes}
use Rattle.proof_form.specs.Twigs.{twig_spelling}
use Rattle.proof_form.proofs.twigs.write_each.Given as goal

-- the twigs so far are written
abbrev pub invariant-loop-twig : goal.invariant-loop-twig
invariant-loop-twig l = Writes {A = Unit {0}} (flat_map twig_spelling (take l.twig-index l.twigs)) l.fn.to l.to (Ok tt)
