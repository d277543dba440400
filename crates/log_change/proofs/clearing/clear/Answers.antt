use Rattle.std.proofs.Common.{rules, refl, ◌∙◌}
use Rattle.node_set.specs.Contents.{Content}
use Rattle.log_change.specs.LogChange.{head_of}
use Rattle.log_change.proofs.Applied.{head_same}
use Rattle.log_change.proofs.Forks.{clear_change}
use Rattle.log_change.proofs.History.{clear_history}
use Rattle.log_change.proofs.clearing.clear.Goals as goal

pub returns-clause-leads : goal.returns-clause-leads
returns-clause-leads g c =
    let m = (g.V.View.view c.args.view.now).source.content in
    let is = clear_change m c.args.from c.args.to c.commit_of-commit.result in
    let head = c.head-head.ensures in
    record {
      head_is = head_same c.head-head.result.fork c.head-head.result.length c.head-head.result.signature (head_of m) head.fork head.length head.signature;
      roots_are = c.copy.ensures ∙ c.roots.ensures ∙ is.roots_are;
      commit_is = refl;
      blocks = is.blocks;
      nodes = is.nodes;
    }

pub returns-clause-legal : goal.returns-clause-legal
returns-clause-legal g c =
    clear_history (g.V.View.view c.args.view.now).source.content c.args.from c.args.to c.commit_of-commit.result (search rules) (search rules) c.commit_of-commit.ensures
