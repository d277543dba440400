use Rattle.log_change.proofs.Grown.{append_in_order}
use Rattle.log_change.proofs.laws.a_batch_in_order.Goals as goal

pub returns : goal.returns
returns c = λ m more signature batch records sound few base has. append_in_order m more signature sound few batch base has records
