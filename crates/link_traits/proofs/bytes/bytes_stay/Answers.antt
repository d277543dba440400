use Rattle.link_traits.proofs.BytesOf.{bytes_of-receives, bytes_of-sends}
use Rattle.link_traits.proofs.bytes.bytes_stay.Goals as goal

pub returns-clause-reads : goal.returns-clause-reads
returns-clause-reads c = bytes_of-receives

pub returns-clause-writes : goal.returns-clause-writes
returns-clause-writes c = bytes_of-sends
