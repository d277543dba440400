use Rattle.std.proofs.Common.{Option, ap, sym, ◌∙◌}
use Rattle.std.proofs.lemmas.Bool.{eqb-true}
use Rattle.std.proofs.lemmas.List.{nil_from_length}
use Rattle.core_disk.specs.declared.writing.BlocksPart.{BlocksPart}
use Rattle.core_disk.specs.Bringing.{part_of}
use Rattle.core_disk.specs.Plans.{bytes_in}
use Rattle.core_disk.proofs.ChangeWrites.{none_brought}
use Rattle.core_disk.proofs.writing.bring.Goals as goal

pub returns-in_default-clause-brings : goal.returns-in_default-clause-brings
returns-in_default-clause-brings g c = λ honest. none_brought _ _ _ (ap (λ (part : Option BlocksPart). bytes_in (part_of part)) c.in_default.is)

pub returns-then-is_empty-clause-brings : goal.returns-then-is_empty-clause-brings
returns-then-is_empty-clause-brings g c = λ honest.
    none_brought _ _ _
    (ap (λ (part : Option BlocksPart). bytes_in (part_of part)) c.in-Some.is ∙ nil_from_length _ (eqb-true _ _ (sym c.is_empty.ensures ∙ c.if-is_empty.true)))
