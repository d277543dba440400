use Rattle.log_view.proofs.Laying.{keeps_below}
use Rattle.log_view.proofs.laws.overlay_keeps_its_view.Goals as goal

pub returns : goal.returns
returns c name after kept still old new head other laid over keeps = keeps_below name after old new head other kept still laid over keeps
