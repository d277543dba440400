use Rattle.snap_reads.proofs.Shown.{shown_read, shown_root, shown_leaf}
use Rattle.snap_reads.proofs.laws.what_a_read_shows.Goals as goal

pub returns-clause-read : goal.returns-clause-read
returns-clause-read c s shows index buffer read gives is = shown_read s shows index buffer read gives is

pub returns-clause-leaf : goal.returns-clause-leaf
returns-clause-leaf c s shows index buffer root fault within over damage = shown_leaf s shows index buffer root fault within over damage

pub returns-clause-root : goal.returns-clause-root
returns-clause-root c s shows index buffer root fault within over damage = shown_root s shows index buffer root fault within over damage
