-- How the parts of a proof meet the nodes that a view stores, the block before the node.
use Rattle.std.specs.Prelude.{◌≡◌, ℕ, Bool, ◌≤◌, List, [], length, Option, Some, None, option_map}
use Rattle.flat_tree.specs.declared.limits.TheConstants.{MAX_BLOCKS}
use Rattle.merkle_nodes.specs.declared.node.Node.{Node}
use Rattle.proof_form.specs.Proofs.{Proof, Block, ProofFits}
use Rattle.node_set.specs.declared.fault.Refusal.{Refusal}
use Rattle.node_set.specs.Contents.{Content}
use Rattle.node_set.specs.Refuses.{or_else}
use Rattle.log_view.specs.Views.{Source}
use Rattle.proof_check.specs.Parts.{Part, part_of_block, part_of_hash, range_refusal, differs_refusal, uncovered_refusal}
use Rattle.proof_check.specs.Judge.{each_part}
use Rattle.proof_judge.specs.declared.part.Meeting.{Meeting}
use Rattle.proof_judge.specs.Meetings.{IsFirstAbove, way_of, Meets, MeetsGiven}

-- the first refusal of the parts: that one differs, or else that one isn't covered
abbrev pub parts_refusal : Proof → Content → Option Refusal
parts_refusal p m = or_else (each_part p (differs_refusal m)) (each_part p (uncovered_refusal m))

-- a proof whose parts are in range for a length
pub record IsWithin (n : ℕ) (p : Proof) : Type 0 where
  pub blocks : n ≤ MAX_BLOCKS
  pub fits : ProofFits p
  pub range : each_part p (range_refusal n) ≡ None

-- the parts of a proof as paths
abbrev pub block_part : Option Block → Option Part
block_part = option_map part_of_block

abbrev pub hash_part : Proof → Option Part
hash_part p = option_map part_of_hash p.hash

-- a part that isn't there meets nothing
abbrev pub no_meeting : Meeting
no_meeting = record { levels = 0; differs = None; uncovered = None }

-- over a content: a part that is there meets its first stored node so
abbrev pub MeetsPart : Content → Option Part → Meeting → Type 0
MeetsPart m None meeting = meeting ≡ no_meeting
MeetsPart m (Some part) meeting = Meets m part meeting

-- over every view: a part that is there was compared with the node that the view gave
abbrev pub PartMeets : Source → Option Part → Meeting → List Node → Type 0
PartMeets s None meeting way = (meeting ≡ no_meeting) × (way ≡ [])
PartMeets s (Some part) meeting way = MeetsGiven s part meeting way

-- over every view: the block was compared, and, where it doesn't differ, the node; the first of their refusals is this one
pub record PartsMeet (s : Source) (p : Proof) (refusal : Option Refusal) (way : List Node) : Type 0 where
  pub block : Meeting
  pub hash : Meeting
  pub hash_way : List Node
  pub block_meets : PartMeets s (block_part p.block) block way
  pub hash_meets : block.differs ≡ None → PartMeets s (hash_part p) hash hash_way
  pub first : refusal ≡ or_else (or_else block.differs hash.differs) (or_else block.uncovered hash.uncovered)

-- the way of a block below the first node of its path that is to be stored for a length and held indices, where its siblings lead
-- there; none without a block
abbrev pub IsBlockWay : ℕ → (ℕ → Bool) → Option Block → List Node → Type 0
IsBlockWay n held None way = way ≡ []
IsBlockWay n held (Some b) way =
    (levels : ℕ) × IsFirstAbove n held (part_of_block b) levels × (levels ≤ length b.trail) × (way ≡ way_of (part_of_block b) levels)
