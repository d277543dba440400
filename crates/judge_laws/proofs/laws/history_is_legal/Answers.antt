use Rattle.judge_laws.proofs.Histories.{history_legal}
use Rattle.judge_laws.proofs.laws.history_is_legal.Goals as goal

pub returns : goal.returns
returns c = history_legal
