use Rattle.core_disk.proofs.EntryGives.{entry_follows, entry_gives}
use Rattle.core_disk.proofs.laws.an_entry_gives_the_next_content.Goals as goal

pub returns-clause-follows : goal.returns-clause-follows
returns-clause-follows c o m commit after e opened sound legal sound_after is = entry_follows o m opened sound commit after legal sound_after e is

pub returns-clause-gives : goal.returns-clause-gives
returns-clause-gives c o m commit after e opened sound legal sound_after is = entry_gives o m opened sound commit after legal sound_after e is
