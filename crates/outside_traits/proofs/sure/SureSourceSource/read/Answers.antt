use Rattle.std.proofs.Common.{ap, ◌∙◌, ◌-◌, ◌≡◌, take, drop, length, min}
use Rattle.std.proofs.lemmas.List.{take_rest}
use Rattle.outside_traits.proofs.Giving.{Reads-gives}
use Rattle.outside_traits.proofs.sure.SureSourceSource.read.Goals as goal

pub returns-clause-reads : goal.returns-clause-reads
returns-clause-reads c =
    let at = c.self.inside.at in
    let rest : take (length c.bytes.result.now - at) (drop at c.bytes.result.now) ≡ drop at c.self.inside.bytes = take_rest _ at ∙ ap (drop at) c.bytes.ensures in
    rw (← c.self.view_is) (Reads-gives c.self.inside.bytes c.args.into.now c.copy_from_slice.new.self at c.min-n.result (record {
      within = c.self.invariant;
      count = c.min-n.ensures ∙ ap (λ l. min (length c.args.into.now) (length l)) rest;
      piece_is = c.copy_from_slice.ensures.after ∙ ap (take c.min-n.result) rest;
    }))
