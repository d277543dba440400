use Rattle.std.proofs.Common.{drop, ◌∙◌, arith}
use Rattle.std.proofs.lemmas.List.{take_all, length-drop}
use Rattle.core_disk.proofs.FillLemmas.{twig_as}
use Rattle.core_disk.proofs.filling.twig_from.Goals as goal

pub returns : goal.returns
returns c = twig_as c.args.bytes.now c.size_from.result c.copy_from_slice.new.self c.size_from.ensures
    (c.copy_from_slice.ensures.after ∙ take_all 32 (drop 8 c.args.bytes.now) (omega (arith, length-drop 8 c.args.bytes.now, c.told-bytes)))
