use Rattle.std.proofs.Common.{inr, rules}
use Rattle.core_shelf.proofs.named.open_named.Goals as goal

pub returns-in-Err-open_store-clause-opens : goal.returns-in-Err-open_store-clause-opens
returns-in-Err-open_store-clause-opens g c = inr (record {
  store = c.in-Ok.disk;
  back = c.in-Err-open_store.disk;
  says = search rules;
  was = search rules;
  here = search rules;
  list = search rules;
})
