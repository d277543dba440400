-- A sound content tells the truth of each log that it is of.
use Rattle.std.proofs.Common.{inl, IsTrue}
use Rattle.node_set.specs.Contents.{Content}
use Rattle.node_set.specs.Whole.{IsSound, IsWhole}
use Rattle.node_set.proofs.EvidenceLemmas.{or_clash_then}
use Rattle.node_set.proofs.SizeTruth.{nodes_are_of, blocks_are_of}
use Rattle.node_set.proofs.OffsetTruth.{offsets_are_of}
use Rattle.core_state.specs.States.{CoreState}
use Rattle.core_state.specs.Truths.{TellsTruth}

tells_truth : (m : Content) → IsSound m → TellsTruth m
tells_truth m sound log is =
    or_clash_then (nodes_are_of m log sound is) (λ nodes.
    or_clash_then (blocks_are_of m log sound is) (λ blocks.
    or_clash_then (offsets_are_of m log sound is) (λ offsets. inl (record { nodes = nodes; blocks = blocks; offsets = offsets }))))

-- so does that of a core that stands
pub whole_tells : (new : CoreState) → (IsTrue new.stands → IsWhole new.accepts new.content) → IsTrue new.stands → TellsTruth new.content
whole_tells new whole stands = tells_truth new.content (whole stands).sound
