use Rattle.core_disk.proofs.StoreLemmas.{gives_block}
use Rattle.core_disk.proofs.store.StoreView.block.Goals as goal

pub returns-clause-gives : goal.returns-clause-gives
returns-clause-gives g c =
    let now = c.args.self.now in
    gives_block (g.D.Disk.disk now.disk) now.hand now.answered now.last c.args.index c.args.out.now c.read_block.new.out c.read_block.result c.known.ensures.kept
    c.requires.held c.requires.room c.read_block.ensures.place c.read_block.ensures.size c.read_block.ensures.bytes
