use Rattle.std.proofs.Common.{ℕ, List, ap, sym, subst, ◌∙◌, arith}
use Rattle.flat_tree.specs.Covers.{cover_of}
use Rattle.merkle_nodes.specs.Nodes.{AreNodes}
use Rattle.node_set.specs.Contents.{bytes_under}
use Rattle.proof_check.specs.Growth.{AreAt, HasJoined, nodes_at}
use Rattle.proof_check.proofs.Climbing.{nodes_at-places, nodes_at-bytes, nodes_at-values, sizes_fit}
use Rattle.proof_check.proofs.upgrade.join.Goals as goal

pub first_roots-requires-clause-cover : goal.first_roots-requires-clause-cover
first_roots-requires-clause-cover c =
    let is = c.as_slice.ensures.items ∙ c.numbered-added.ensures ∙ ap (λ (ps : List ℕ). nodes_at ps c.args.twigs.now) c.cover.ensures.numbers in
    subst (λ (n : ℕ). AreAt (cover_of n c.args.to) c.as_slice.result.now) c.if-base-eq0.true
    (rw is (nodes_at-places (cover_of c.args.base c.args.to) c.args.twigs.now c.requires.count))

pub first_roots-requires-clause-bytes : goal.first_roots-requires-clause-bytes
first_roots-requires-clause-bytes c =
    let is = c.as_slice.ensures.items ∙ c.numbered-added.ensures ∙ ap (λ (ps : List ℕ). nodes_at ps c.args.twigs.now) c.cover.ensures.numbers in
    omega (arith, ap bytes_under is, nodes_at-bytes (cover_of c.args.base c.args.to) c.args.twigs.now c.requires.count, c.requires.bytes)

pub returns-then-base-eq0-clause-values : goal.returns-then-base-eq0-clause-values
returns-then-base-eq0-clause-values c = λ value joins at_old at_twigs.
    let is = c.as_slice.ensures.items ∙ c.numbered-added.ensures ∙ ap (λ (ps : List ℕ). nodes_at ps c.args.twigs.now) c.cover.ensures.numbers in
    let are : AreNodes value (cover_of c.args.base c.args.to) c.as_slice.result.now = rw is (nodes_at-values value (cover_of c.args.base c.args.to) c.args.twigs.now at_twigs) in
    let has = c.first_roots.ensures.values value (subst (λ (n : ℕ). AreNodes value (cover_of n c.args.to) c.as_slice.result.now) c.if-base-eq0.true are) in
    subst (λ (n : ℕ). HasJoined n c.args.to value c.first_roots.result) (sym c.if-base-eq0.true) has

pub unchanged-joined-requires-clause-sizes : goal.unchanged-joined-requires-clause-sizes
unchanged-joined-requires-clause-sizes c = sizes_fit c.args.old.now (omega (arith, c.requires.bytes))

pub climb-requires-clause-cover : goal.climb-requires-clause-cover
climb-requires-clause-cover c =
    let is = c.as_slice-2.ensures.items ∙ c.numbered-added.ensures ∙ ap (λ (ps : List ℕ). nodes_at ps c.args.twigs.now) c.cover.ensures.numbers in
    rw is (nodes_at-places (cover_of c.args.base c.args.to) c.args.twigs.now c.requires.count)

pub climb-requires-clause-bytes : goal.climb-requires-clause-bytes
climb-requires-clause-bytes c =
    let is = c.as_slice-2.ensures.items ∙ c.numbered-added.ensures ∙ ap (λ (ps : List ℕ). nodes_at ps c.args.twigs.now) c.cover.ensures.numbers in
    omega (
      arith,
      ap bytes_under is,
      nodes_at-bytes (cover_of c.args.base c.args.to) c.args.twigs.now c.requires.count,
      ap bytes_under c.unchanged-joined.ensures.roots,
      c.requires.bytes,
    )

pub returns-clause-values : goal.returns-clause-values
returns-clause-values c = λ value joins at_old at_twigs.
    let is = c.as_slice-2.ensures.items ∙ c.numbered-added.ensures ∙ ap (λ (ps : List ℕ). nodes_at ps c.args.twigs.now) c.cover.ensures.numbers in
    let are : AreNodes value (cover_of c.args.base c.args.to) c.as_slice-2.result.now = rw is (nodes_at-values value (cover_of c.args.base c.args.to) c.args.twigs.now at_twigs) in
    c.climb.ensures.values value joins (rw c.unchanged-joined.ensures.roots at_old) are
