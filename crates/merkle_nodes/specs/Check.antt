-- What the check of some bytes answers.
use Rattle.std.specs.Prelude.{◌≡◌, ◌≢◌, ℕ, ◌+◌, ◌-◌, ◌≤◌, Bool, List, length, take, drop, Result, Ok, Err}
use Rattle.merkle_nodes.specs.declared.node.Node.{Node}
use Rattle.merkle_nodes.specs.declared.check.Opened.{Opened}
use Rattle.merkle_nodes.specs.declared.check.BundleFault.{BundleFault}
use Rattle.merkle_nodes.specs.declared.check.BundleFault.TheVariants.{BadForm, NotProved, BadSignature}
use Rattle.merkle_nodes.specs.Roots.{twig_of, node_of, Accepts}
use Rattle.merkle_nodes.specs.Fold.{fold, offset_above, IsRootOver, Proves}
use Rattle.merkle_nodes.specs.Sound.{IsBlockUnder}
use Rattle.merkle_nodes.specs.Bundle.{Bundle, Spells}
use Rattle.merkle_nodes.specs.Reading.{bundle_of}

-- no bundle has these bytes
abbrev pub NoBundle : List ℕ → Type 0
NoBundle bytes = (b : Bundle) → Spells b bytes → ⊥

-- the first field that isn't whole or is outside its range begins here
abbrev pub IsFirstFault : List ℕ → ℕ → Type 0
IsFirstFault bytes at = (left : ℕ) × (bundle_of bytes ≡ Err left) × (at + left ≡ length bytes)

-- the block's proof holds
abbrev pub BlockProved : Bundle → Type 0
BlockProved b = Proves b.start.length b.roots b.start.index b.block b.trail

-- the signature on the head is accepted
abbrev pub HeadAccepted : (List ℕ → List ℕ → Bool) → Bundle → Type 0
HeadAccepted accepts b = Accepts accepts b.start.fork b.start.length b.roots b.start.signature

-- where the block stands in the bytes, which is at their end, and under which head
pub record Opens (b : Bundle) (bytes : List ℕ) (opened : Opened) : Type 0 where
  pub fork : opened.fork ≡ b.start.fork
  pub blocks : opened.length ≡ b.start.length
  pub index : opened.index ≡ b.start.index
  pub end : opened.end ≡ length bytes
  pub start : opened.start + length b.block ≡ length bytes
  pub block : take (opened.end - opened.start) (drop opened.start bytes) ≡ b.block

-- the node that the block and its siblings fold to differs from the root over the block in size or hash
pub record Differs (b : Bundle) (index : ℕ) (want have : Node) : Type 0 where
  pub index_is : index ≡ b.start.index
  pub want_is : IsRootOver b.roots b.start.length b.start.index want
  pub have_is : have ≡ node_of (length b.trail) (offset_above b.start.index b.trail) (fold b.start.index b.block b.trail)
  pub differs : twig_of have ≢ twig_of want

-- when each answer comes: a bundle whose block is proved under an accepted head is opened, and each refusal means that
-- no earlier one holds
abbrev pub Checks : (List ℕ → List ℕ → Bool) → List ℕ → Result Opened BundleFault → Type 0
Checks accepts bytes (Ok opened) = (b : Bundle) × Spells b bytes × BlockProved b × HeadAccepted accepts b × Opens b bytes opened
Checks accepts bytes (Err (BadForm at)) = NoBundle bytes × IsFirstFault bytes at
Checks accepts bytes (Err (NotProved index want have)) = (b : Bundle) × Spells b bytes × Differs b index want have
Checks accepts bytes (Err BadSignature) = (b : Bundle) × Spells b bytes × BlockProved b × (HeadAccepted accepts b → ⊥)

-- the block's bytes in the bundle
abbrev pub block_at : List ℕ → Opened → List ℕ
block_at bytes opened = take (opened.end - opened.start) (drop opened.start bytes)

-- whoever made the bundle that the bytes spell: its head is accepted, and its block is that of each log under its roots,
-- or two different inputs of equal hash are in hand
pub record OpensSigned (accepts : List ℕ → List ℕ → Bool) (bytes : List ℕ) (opened : Opened) : Type 0 where
  pub bundle : Bundle
  pub spells : Spells bundle bytes
  pub accepted : Accepts accepts opened.fork opened.length bundle.roots bundle.start.signature
  pub sound : IsBlockUnder bundle.roots opened.length opened.index (block_at bytes opened) bundle.trail
