-- When a proof covers what a content lacks: nothing but a wrong hash or signature can be held against it. And when a proof is
-- of a log: no wrong hash or signature can be.
use Rattle.std.specs.Prelude.{◌≡◌, ℕ, Bool, ◌/◌, ◌^◌, ◌<◌, List, length, map, None, Some, IfSome, slice_get, slice_index_or}
use Rattle.flat_tree.specs.Subtrees.{Subtree}
use Rattle.flat_tree.specs.Covers.{cover_of}
use Rattle.merkle_nodes.specs.Tree.{tree_of}
use Rattle.merkle_nodes.specs.Roots.{roots_of, Accepts}
use Rattle.proof_form.specs.declared.proof.UpgradePart.{UpgradePart}
use Rattle.proof_form.specs.Proofs.{Proof, Block}
use Rattle.node_set.specs.Contents.{Content, no_twig}
use Rattle.node_set.specs.Paths.{sibling_of}
use Rattle.proof_check.specs.Upgraded.{with_upgrade, length_after}
use Rattle.proof_check.specs.Parts.{range_refusal, uncovered_refusal}
use Rattle.proof_check.specs.Judge.{limit_refusal, head_refusal, each_part, seek_refusal}

-- its upgrade and its parts are in range, each part's siblings reach a stored node, and the sought byte is in the block
pub record Covers (p : Proof) (m : Content) : Type 0 where
  pub limit : limit_refusal p m ≡ None
  pub range : each_part p (range_refusal (length_after p m)) ≡ None
  pub head : head_refusal p m ≡ None
  pub reaches : each_part p (uncovered_refusal (with_upgrade p m)) ≡ None
  pub byte : seek_refusal p (with_upgrade p m) ≡ None

-- the block is the log's, and so are the siblings of its path
pub record BlockIsOf (log : List (List ℕ)) (b : Block) : Type 0 where
  pub bytes : slice_get log b.index ≡ Some b.bytes
  pub trail : (level : ℕ) → level < length b.trail → slice_index_or b.trail level no_twig ≡ tree_of log level (sibling_of (b.index / 2 ^ level))

-- the upgrade is to the whole log, and its twigs are those of the log's subtrees
pub record UpgradeIsOf (log : List (List ℕ)) (u : UpgradePart) : Type 0 where
  pub whole : u.length ≡ length log
  pub nodes : u.nodes ≡ map (λ (tree : Subtree). tree_of log tree.depth tree.offset) (cover_of u.start u.length)

-- the block and the upgrade of a proof are the log's, whose head the verifier accepts under the upgrade's signature
pub record ProofIsOf (accepts : List ℕ → List ℕ → Bool) (log : List (List ℕ)) (p : Proof) : Type 0 where
  pub block : IfSome p.block (BlockIsOf log)
  pub upgrade : IfSome p.upgrade (UpgradeIsOf log)
  pub signed : IfSome p.upgrade (λ u. Accepts accepts p.fork (length log) (roots_of log) u.signature)
