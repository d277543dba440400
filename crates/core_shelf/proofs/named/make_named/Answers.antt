use Rattle.std.proofs.Common.{inl, inr, rules}
use Rattle.core_shelf.proofs.named.make_named.Goals as goal

pub returns-in-Err-make_new-clause-makes : goal.returns-in-Err-make_new-clause-makes
returns-in-Err-make_new-clause-makes g c = inr (inl (record {
  store = c.in-Ok.disk;
  back = c.in-Err-make_new.disk;
  says = search rules;
  was = search rules;
  here = search rules;
  list = search rules;
}))

pub returns-in-Err-mark-clause-makes : goal.returns-in-Err-mark-clause-makes
returns-in-Err-mark-clause-makes g c = inr (inr (record {
  why = search rules;
  store = c.in-Ok.disk;
  core = c.in-Ok-make_new.core;
  says = search rules;
  was = search rules;
  here = search rules;
}))
