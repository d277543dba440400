use Rattle.std.proofs.Common.{sym, ◌∙◌}
use Rattle.std.proofs.lemmas.List.{length-take-le}
use Rattle.bit_field.specs.declared.page.TheConstants.{PAGE_BYTES}
use Rattle.core_state.proofs.acting.page.Goals as goal

pub copy_from_slice-requires : goal.copy_from_slice-requires
copy_from_slice-requires g c = length-take-le PAGE_BYTES c.args.buf.now c.requires.room ∙ sym c.bits.array_long
