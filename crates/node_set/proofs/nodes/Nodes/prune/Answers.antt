use Rattle.std.proofs.Common.{ap, ◌∙◌, arith}
use Rattle.std.proofs.lemmas.List.{with_items_is}
use Rattle.bit_field.specs.Places.{has}
use Rattle.node_set.specs.Closure.{closed_on}
use Rattle.node_set.specs.Nodes.{NodePages, nodes_in, values_of}
use Rattle.node_set.proofs.PrunedPages.{cut_values}
use Rattle.node_set.proofs.nodes.Nodes.prune.Goals as goal

-- the pages that are dropped have nothing that is to be stored
pub returns-clause-values : goal.returns-clause-values
returns-clause-values c =
    let n = c.args.length in
    let held = has c.args.held.now in
    let seen = λ (nodes : NodePages). closed_on n held (values_of nodes) in
    let whole = with_items_is c.truncate.new.self c.prune_pages.new.pages (c.prune_pages.auto.pages ∙ c.as_mut_slice.ensures.len) in
    ap (λ pages. values_of (nodes_in pages)) whole
    ∙ c.prune_pages.ensures.values
    ∙ ap (λ pages. seen (nodes_in pages)) (c.as_mut_slice.ensures.value ∙ c.truncate.ensures.items)
    ∙ cut_values n held c.self.inside.pages.items _ (omega (arith, c.div_ceil.ensures))
    ∙ ap seen c.self.view_is
