use Rattle.outside_traits.proofs.lines.Lines.line_end.Goals as goal

pub returns : goal.returns
returns c = rw (← c.self.view_is) (rw c.as_slice-place.ensures.value at c.search_on.ensures)
