use Rattle.std.proofs.Common.{[], ◌*◌, subst}
use Rattle.bit_field.specs.Places.{has}
use Rattle.bit_field.specs.Pages.{bytes_from}
use Rattle.blake2b_hash.specs.Hasher.{Holds}
use Rattle.core_disk.proofs.CopyLemmas.{page_bytes}
use Rattle.core_disk.proofs.copies.put_page.Goals as goal

pub returns : goal.returns
returns c =
    let held = has c.args.held.now in
    subst (λ l. Holds 32 [] l c.update.new.self) (page_bytes held c.args.number c.args.bytes _ _ c.page.ensures.page c.requires.within c.min-end.ensures)
    (c.update.ensures 32 [] (bytes_from (c.args.number * 4096) held 0) c.requires.before)
