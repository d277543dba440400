use Rattle.proof_form.specs.Proofs.{proof_spelling, proof_of}
use Rattle.proof_form.proofs.FieldLaws.{alone}
use Rattle.proof_form.proofs.ProofLaws.{proof_again}
use Rattle.proof_form.proofs.laws.one_spelling_of_a_proof.Goals as goal

pub returns : goal.returns
returns c a b x y p q = alone proof_of a b (proof_spelling a) (proof_spelling b) x y (proof_again a p) (proof_again b q)
