use Rattle.std.proofs.Common.{ℕ, ◌+◌, ◌≡◌, Some, ◌≤◌, length, refl, ap, ◌∙◌, arith}
use Rattle.flat_tree.specs.declared.limits.TheConstants.{MAX_BLOCKS}
use Rattle.commit_book.specs.declared.commit.Commit.TheVariants.{Append}
use Rattle.node_set.specs.Changes.{append_content}
use Rattle.log_change.specs.LogChange.{head_of}
use Rattle.log_change.proofs.Applied.{head_same}
use Rattle.log_change.proofs.Grown.{append_change}
use Rattle.log_change.proofs.appending.append.Goals as goal

pub returns-clause-leads : goal.returns-clause-leads
returns-clause-leads g c = λ more signature sound has.
    let m = (g.V.View.view c.args.view.now).source.content in
    let batch = c.args.batch.now in
    let few : m.length + length more ≤ MAX_BLOCKS = omega (arith, c.length-length.ensures.length, c.length-length.ensures.within, c.requires.base, has.count) in
    let is = append_change m more signature sound few batch c.requires.base has in
    let end : c.length-length.result ≡ m.length + batch.blocks = c.length-length.ensures.length ∙ ap (λ (n : ℕ). n + batch.blocks) c.requires.base in
    record {
      head_is = head_same c.head-head.result.fork c.length-length.result signature (head_of (append_content more signature m)) c.head-head.ensures.fork
          (end ∙ ap (λ (n : ℕ). m.length + n) has.count) refl;
      roots_are = c.copy.ensures ∙ c.roots.ensures.roots ∙ is.roots_are;
      commit_is = ap (λ (n : ℕ). Some (Append n)) (c.blocks-2.ensures ∙ has.count);
      blocks = λ index. rw (c.head-head.ensures.length, end) (is.blocks index);
      nodes = is.nodes;
    }
