-- What a proof reaches of a view: the upgraded roots, the level from which on their halves are stored, and where the block meets a
-- stored node.
use Rattle.std.specs.Prelude.{◌≡◌, ℕ, Bool, ◌-◌, ◌+◌, ◌<◌, ◌≤◌, Option, Some, None, if◌then◌else◌}
use Rattle.std.specs.List.{AllByRecursion}
use Rattle.flat_tree.specs.Roots.{depth_over}
use Rattle.flat_tree.specs.Covers.{cover_of}
use Rattle.flat_tree.specs.declared.limits.TheConstants.{MAX_BLOCKS, MAX_FORK, MAX_SIBLINGS, MAX_CORE_BYTES}
use Rattle.merkle_nodes.specs.Joined.{Values, joined, with_parts}
use Rattle.merkle_nodes.specs.Roots.{HasShape}
use Rattle.proof_form.specs.declared.proof.UpgradePart.{UpgradePart}
use Rattle.proof_form.specs.Proofs.{Proof, Block}
use Rattle.commit_book.specs.History.{Limits, IsInRange}
use Rattle.node_set.specs.declared.change.Change.{Change}
use Rattle.merkle_nodes.specs.declared.roots.Head.{Head}
use Rattle.node_set.specs.Views.{IsUsable}
use Rattle.node_set.specs.Contents.{Content, held, roots, bytes_under, summary_of}
use Rattle.node_set.specs.Walks.{IsFirstStored}
use Rattle.proof_check.specs.declared.path.Met.{Met}
use Rattle.proof_check.specs.declared.reach.Reach.{Reach}
use Rattle.flat_tree.specs.Subtrees.{end_block_of}
use Rattle.proof_check.specs.declared.upgrade.Joined.{Joined}
use Rattle.proof_check.specs.Early.{twig_bytes}
use Rattle.proof_check.specs.Growth.{SizeFits, IsJoined, HasJoined, IsFirstHeld}
use Rattle.proof_check.specs.Meets.{IsValue}
use Rattle.proof_check.specs.Upgraded.{length_after}

-- a part that is there has this
abbrev pub IfPart : {A : Type 0} → Option A → (A → Type 0) → Type 0
IfPart None P = Unit {0}
IfPart (Some part) P = P part

-- an upgrade that no number forbids, of a log of so many bytes
pub record IsDueUpgrade (m : Content) (size : ℕ) (u : UpgradePart) : Type 0 where
  pub start : u.start ≡ m.length
  pub longer : m.length < u.length
  pub blocks : u.length ≤ MAX_BLOCKS
  pub bytes : size + twig_bytes u.nodes ≤ MAX_CORE_BYTES

-- a proof that no number forbids
pub record IsDue (p : Proof) (m : Content) (size : ℕ) : Type 0 where
  pub fork : p.fork ≡ m.fork
  pub upgrade : IfPart p.upgrade (IsDueUpgrade m size)
  pub block : IfPart p.block (λ b. b.index < length_after p m)

-- the values of the subtrees once the upgrade is in
abbrev pub joined_of : Proof → Content → Values
joined_of p m = ByUpgrade p.upgrade
  where
    ByUpgrade : Option UpgradePart → Values
    ByUpgrade None = m.node
    ByUpgrade (Some u) = joined (with_parts m.length m.node (cover_of m.length u.length) u.nodes)

-- where a block meets a stored node
pub record MeetsAt (to : ℕ) (held : ℕ → Bool) (b : Block) (met : Met) : Type 0 where
  pub first : IsFirstStored to held b.index met.level
  pub few : met.level ≤ MAX_SIBLINGS

-- a block that is there meets one
abbrev pub Meets : Option Block → Option Met → (Block → Met → Type 0) → Type 0
Meets None met P = Unit {0}
Meets (Some b) None P = ⊥
Meets (Some b) (Some met) P = P b met

-- the index of the block that comes in
abbrev pub incoming_of : (ℕ → Bool) → Option Block → Option ℕ
incoming_of held None = None
incoming_of held (Some b) = if held b.index then None else Some b.index

-- what every view tells
pub record IsReach (p : Proof) (m : Content) (reach : Reach) : Type 0 where
  pub joined : IsJoined m.length (length_after p m) reach.joined
  pub first : IsFirstHeld m.length (held m) reach.joined.low (depth_over (length_after p m) (m.length - 1)) reach.first
  pub meets : Meets p.block reach.met (MeetsAt (length_after p m) (held m))
  pub incoming : reach.incoming ≡ incoming_of (held m) p.block
  pub unchanged : p.upgrade ≡ None → reach.joined.roots ≡ roots m

-- what a view that stands tells
pub record HasReach (p : Proof) (m : Content) (reach : Reach) : Type 0 where
  pub joined : HasJoined m.length (length_after p m) (joined_of p m) reach.joined
  pub meets : Meets p.block reach.met (λ b met. IsValue (joined_of p m) b.index met)

-- the limits of a core
abbrev pub core_limits : Limits
core_limits = record { blocks = MAX_BLOCKS; fork = MAX_FORK }

-- the head and the roots stay
pub record KeepsHead (m : Content) (change : Change) : Type 0 where
  pub fork : change.head.fork ≡ m.fork
  pub length : change.head.length ≡ m.length
  pub signature : change.head.signature ≡ m.signature
  pub roots : change.roots ≡ roots m

-- a change that any view may lead to: a commit in range, roots of the shape of the new length, and what has no upgrade keeps its head
pub record IsLegalChange (p : Proof) (m : Content) (change : Change) : Type 0 where
  pub commit : IfPart change.commit (λ commit. IsInRange core_limits commit (summary_of m))
  pub fork : change.head.fork ≤ MAX_FORK
  pub length : change.head.length ≤ MAX_BLOCKS
  pub shape : HasShape change.roots change.head.length
  pub sizes : AllByRecursion SizeFits change.roots
  pub same : p.upgrade ≡ None → KeepsHead m change

-- the values below a length are these
abbrev pub AgreesBelow : ℕ → Values → Values → Type 0
AgreesBelow n old value = (depth offset : ℕ) → end_block_of depth offset ≤ n → value depth offset ≡ old depth offset

-- there is a node, for which this holds
abbrev pub IsMet : Option Met → (Met → Type 0) → Type 0
IsMet None P = ⊥
IsMet (Some met) P = P met

-- what every view tells of a block
pub record ReachesBlock (base to : ℕ) (held : ℕ → Bool) (index : ℕ) (joined : Joined) (reach : Reach) : Type 0 where
  pub joined_is : reach.joined ≡ joined
  pub first : IsFirstHeld base held joined.low (depth_over to (base - 1)) reach.first
  pub met : IsMet reach.met (λ met. IsFirstStored to held index met.level × (met.level ≤ MAX_SIBLINGS))
  pub incoming : reach.incoming ≡ (if held index then None else Some index)

-- a proof that no number forbids, of a content under this head
pub record IsOpen (p : Proof) (m : Content) (head : Head) : Type 0 where
  pub fork : head.fork ≡ m.fork
  pub length : head.length ≡ m.length
  pub signature : head.signature ≡ m.signature
  pub usable : IsUsable m
  pub due : IsDue p m (bytes_under (roots m))

-- with what it reaches
pub record IsGround (p : Proof) (m : Content) (head : Head) (reach : Reach) : Type 0 where
  pub is_open : IsOpen p m head
  pub reaches : IsReach p m reach
