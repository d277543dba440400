use Rattle.std.proofs.Common.{List, None, ap, ◌∙◌}
use Rattle.merkle_nodes.specs.declared.node.Node.{Node}
use Rattle.core_disk.specs.InHand.{last_of}
use Rattle.core_disk.proofs.RecordLemmas.{known_value, known_numbered, known_size}
use Rattle.core_disk.proofs.records.known.Goals as goal

pub returns-clause-value : goal.returns-clause-value
returns-clause-value c =
    known_value c.args.roots.now c.args.records.now c.args.index c.last_of-root.result c.last_of.result
    (c.last_of-root.ensures ∙ ap (λ (ns : List Node). last_of ns c.args.index None) (c.of.ensures ∙ c.as_slice.ensures.items)) c.last_of.ensures

pub returns-clause-numbered : goal.returns-clause-numbered
returns-clause-numbered c =
    known_numbered c.args.roots.now c.args.records.now c.args.index c.last_of-root.result c.last_of.result
    (c.last_of-root.ensures ∙ ap (λ (ns : List Node). last_of ns c.args.index None) (c.of.ensures ∙ c.as_slice.ensures.items)) c.last_of.ensures

pub returns-clause-size : goal.returns-clause-size
returns-clause-size c =
    known_size c.args.roots.now c.args.records.now c.args.index c.last_of-root.result c.last_of.result
    (c.last_of-root.ensures ∙ ap (λ (ns : List Node). last_of ns c.args.index None) (c.of.ensures ∙ c.as_slice.ensures.items)) c.last_of.ensures
    c.requires.sizes c.requires.fit
