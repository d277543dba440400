-- Whether a content has an answer to a plain request, by its head, its held blocks and its closure alone; and the request
-- that a proof answers.
use Rattle.std.specs.Prelude.{◌≡◌, ℕ, Bool, true, ◌&&◌, not, List, Option, Some, None, is_some, length, take, option_map, nat_eq, nat_le, nat_lt}
use Rattle.std.specs.List.{list_all}
use Rattle.flat_tree.specs.Subtrees.{Subtree}
use Rattle.flat_tree.specs.Roots.{depth_over}
use Rattle.flat_tree.specs.Covers.{cover_of}
use Rattle.proof_form.specs.declared.request.Want.{Want}
use Rattle.proof_form.specs.declared.request.Reach.{Reach}
use Rattle.proof_form.specs.declared.request.Request.{Request}
use Rattle.proof_form.specs.declared.proof.UpgradePart.{UpgradePart}
use Rattle.proof_form.specs.Proofs.{Proof, Block}
use Rattle.node_set.specs.Contents.{Content, held}
use Rattle.node_set.specs.Closure.{in_closure}
use Rattle.proof_make.specs.Answers.{made_from, made}

-- neither a node nor a sought byte is asked for
abbrev pub is_plain : Request → Bool
is_plain request = not (is_some request.hash) && not (is_some request.seek)

-- the block is held, and its path has so many siblings
abbrev pub has_block : Content → Want → Bool
has_block m want = nat_lt want.index m.length && held m want.index && nat_le want.nodes (depth_over m.length want.index)

-- the upgrade ends at this length, and begins below it
abbrev pub ends_at : ℕ → Reach → Bool
ends_at n reach = nat_eq reach.length n && nat_lt reach.start reach.length

-- each of these subtrees is to be stored
abbrev pub has_nodes : Content → List Subtree → Bool
has_nodes m = list_all (λ (tree : Subtree). in_closure m.length (held m) tree.depth tree.offset)

-- so is each one of the cover that the upgrade takes
abbrev pub has_cover : Content → Reach → Bool
has_cover m reach = has_nodes m (cover_of reach.start reach.length)

-- a part passes the test, where it is asked for
abbrev pub passes : {A : Type 0} → (A → Bool) → Option A → Bool
passes test None = true
passes test (Some asked) = test asked

-- the head and the held blocks are those that are asked for
abbrev pub is_offered : Content → Request → Bool
is_offered m request = nat_eq request.fork m.fork && passes (has_block m) request.block && passes (ends_at m.length) request.upgrade

-- and the upgrade's nodes are to be stored: then a plain request has an answer
abbrev pub has_answer : Content → Request → Bool
has_answer m request = is_offered m request && passes (has_cover m) request.upgrade

-- what a block answers: its index, with so many siblings
abbrev pub want_of : Block → Want
want_of block = record { index = block.index; nodes = length block.trail }

-- what an upgrade answers: its start and its length
abbrev pub reach_of : UpgradePart → Reach
reach_of upgrade = record { start = upgrade.start; length = upgrade.length }

-- the proof has the parts that are asked for, and no other
pub record IsReplyTo (request : Request) (proof : Proof) : Type 0 where
  pub fork : proof.fork ≡ request.fork
  pub block : option_map want_of proof.block ≡ request.block
  pub hash : proof.hash ≡ None
  pub seek : proof.seek ≡ None
  pub upgrade : option_map reach_of proof.upgrade ≡ request.upgrade

-- each proof that the content gives for a plain request is the one that the holder of the log's first blocks makes
abbrev pub ProofsAreOf : Content → List (List ℕ) → Type 0
ProofsAreOf m log = (request : Request) (proof : Proof) → is_plain request ≡ true → made_from m request ≡ Some proof
    → made (take m.length log) m.fork m.signature request ≡ Some proof
