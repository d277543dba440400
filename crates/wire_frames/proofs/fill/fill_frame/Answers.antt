use Rattle.std.proofs.Common.{ap, ◌∙◌, arith}
use Rattle.std.proofs.lemmas.List.{take_rest}
use Rattle.wire_frames.specs.Filling.{length_at}
use Rattle.wire_frames.proofs.FrontLemmas.{frame_filled}
use Rattle.wire_frames.proofs.fill.fill_frame.Goals as goal

pub returns-clause-fills : goal.returns-clause-fills
returns-clause-fills c =
    frame_filled _ c.fill_to-front.new.frame.items _ _ _ _ _ c.length_at-size.result c.requires.unfinished
    c.fill_to-front.ensures.taken c.fill_to-front.ensures.items (omega arith)
    (c.length_at-size.ensures ∙ ap length_at c.deref.ensures.value) (omega arith) (take_rest c.args.piece.now c.fill_to-front.result)
    c.fill_to-more.ensures.taken c.fill_to-more.ensures.items (omega arith)
