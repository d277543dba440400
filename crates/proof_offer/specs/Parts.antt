-- The parts of a proof, made of nodes and blocks that a view gives.
use Rattle.std.specs.Prelude.{◌≡◌, ℕ, ◌+◌, ◌/◌, ◌^◌, ◌≤◌, true, List, [], ◌∷◌, map, length, Option, Some, None, IsTrue, ⊤}
use Rattle.flat_tree.specs.Subtrees.{Subtree, subtree, number, numbers_of}
use Rattle.flat_tree.specs.Covers.{cover_of}
use Rattle.flat_tree.specs.declared.limits.TheConstants.{MAX_BLOCK_BYTES}
use Rattle.merkle_nodes.specs.declared.node.Twig.{Twig}
use Rattle.merkle_nodes.specs.Roots.{twig_of}
use Rattle.merkle_nodes.specs.Bundle.{TwigFits}
use Rattle.node_set.specs.Paths.{depth_of, offset_of_node, sibling_of, levels}
use Rattle.proof_form.specs.declared.request.Want.{Want}
use Rattle.proof_form.specs.declared.request.Reach.{Reach}
use Rattle.proof_form.specs.declared.proof.HashPart.{HashPart}
use Rattle.proof_form.specs.declared.proof.UpgradePart.{UpgradePart}
use Rattle.proof_form.specs.Proofs.{Block}
use Rattle.log_view.specs.Views.{Source}

-- the lowest siblings of a node's path
abbrev pub siblings_of : ℕ → ℕ → ℕ → List Subtree
siblings_of depth offset count = map (λ level. subtree (depth + level) (sibling_of (offset / 2 ^ level))) (levels count)

-- the view gives this size and hash for the number, and where it shows its content they are the content's
pub record GivesTwig (s : Source) (index : ℕ) (twig : Twig) : Type 0 where
  pub given : s.gives index twig ≡ true
  pub shown : IsTrue s.shows → (depth offset : ℕ) → number depth offset ≡ index → s.content.node depth offset ≡ Some twig
  pub fits : TwigFits twig

-- it gives these for the numbers, in order
abbrev pub GivesTwigs : Source → List ℕ → List Twig → Type 0
GivesTwigs s [] [] = ⊤
GivesTwigs s (index ∷ indices) (twig ∷ twigs) = GivesTwig s index twig × GivesTwigs s indices twigs
GivesTwigs s _ _ = ⊥

-- the block of the index that is asked for, with the lowest siblings of its path
pub record GivesBlockPart (s : Source) (want : Want) (part : Block) : Type 0 where
  pub index : part.index ≡ want.index
  pub size : length part.bytes ≤ MAX_BLOCK_BYTES
  pub given : s.gives_block want.index part.bytes ≡ true
  pub shown : IsTrue s.shows → s.content.block want.index ≡ Some part.bytes
  pub trail : GivesTwigs s (numbers_of (siblings_of 0 want.index want.nodes)) part.trail

-- the node of the number that is asked for, with the lowest siblings of its path
pub record GivesHashPart (s : Source) (want : Want) (part : HashPart) : Type 0 where
  pub index : part.node.index ≡ want.index
  pub node : GivesTwig s want.index (twig_of part.node)
  pub trail : GivesTwigs s (numbers_of (siblings_of (depth_of want.index) (offset_of_node want.index) want.nodes)) part.trail

-- the subtrees of the cover behind the start, and the head's signature
pub record GivesUpgradePart (s : Source) (reach : Reach) (part : UpgradePart) : Type 0 where
  pub start : part.start ≡ reach.start
  pub length : part.length ≡ reach.length
  pub nodes : GivesTwigs s (numbers_of (cover_of reach.start reach.length)) part.nodes
  pub signature : part.signature ≡ s.content.signature

-- a part is there exactly where it is asked for, and answers so
abbrev pub Answers : {A B : Type 0} → (A → B → Type 0) → Option A → Option B → Type 0
Answers Gives None None = ⊤
Answers Gives (Some asked) (Some part) = Gives asked part
Answers Gives _ _ = ⊥
