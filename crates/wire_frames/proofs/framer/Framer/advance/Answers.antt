use Rattle.std.proofs.Common.{rules, ◌≡◌, sym, ap, arith}
use Rattle.wire_frames.specs.Framing.{partial}
use Rattle.wire_frames.proofs.FrontLemmas.{feed-whole}
use Rattle.wire_frames.proofs.framer.Framer.advance.Goals as goal

pub returns-in-Whole-fill_frame : goal.returns-in-Whole-fill_frame
returns-in-Whole-fill_frame c =
    let kept = c.truncate.new.self.items in
    let new = c.fill_frame.new.frame.items in
    let size = c.len-self-inside-in-Whole-fill_frame.result in
    let was : record { place = c.self.inside.place; state = partial kept } ≡ c.args.self.now =
    rw c.truncate.ensures.items (rw c.in-Open.is at c.self.view_is) in
    let step = feed-whole c.self.inside.place size _ kept new c.args.piece.now c.args.self.now c.in-Whole-fill_frame.ensures.fills (omega arith) was in
    record {
      answer = ap (λ fed. fed.answer) (sym step);
      framer = ap (λ fed. fed.framer) (sym step);
      within = search rules;
      some = search rules;
      stops = search rules;
      place = search rules;
    }
