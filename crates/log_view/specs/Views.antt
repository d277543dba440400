-- What is seen of a view of a log, and what its calls do to it.
use Rattle.std.specs.Prelude.{◌≡◌, ℕ, Bool, true, false, ◌<◌, ◌≤◌, List, length, take, Option, Some, Result, IfErr, IsTrue}
use Rattle.std.specs.List.{AllByRecursion}
use Rattle.outside_traits.specs.Faults.{Rose}
use Rattle.flat_tree.specs.Subtrees.{number}
use Rattle.flat_tree.specs.declared.limits.TheConstants.{MAX_BLOCKS, MAX_FORK, MAX_BLOCK_BYTES, MAX_CORE_BYTES}
use Rattle.disk_trait.specs.Past.{Past}
use Rattle.merkle_nodes.specs.declared.node.Node.{Node}
use Rattle.merkle_nodes.specs.declared.node.Twig.{Twig}
use Rattle.merkle_nodes.specs.Roots.{twig_of}
use Rattle.node_set.specs.declared.fault.CoreFault.{CoreFault}
use Rattle.node_set.specs.declared.fault.CoreFault.TheVariants.{StoreFault}
use Rattle.node_set.specs.Contents.{Content, held, roots}
use Rattle.node_set.specs.Closure.{in_closure}

-- a content, and what calls give of it: whether that is the content's, which nodes and which blocks; and the name of the reference that
-- leads to it, so that who lent it knows it again
pub record Layer : Type 0 where
  pub name : ℕ
  pub content : Content
  pub shows : Bool
  pub gives : ℕ → Twig → Bool
  pub gives_block : ℕ → List ℕ → Bool

-- what no call of a view changes
pub record Source : Type 0 where
  -- head, roots and held indices are always the view's
  pub content : Content
  -- the nodes and blocks that it gives are the content's
  pub shows : Bool
  -- it may give this node for the number, and this block for the index
  pub gives : ℕ → Twig → Bool
  pub gives_block : ℕ → List ℕ → Bool
  -- what it is laid over, the nearest first
  pub beneath : List Layer
  -- what its disk went through, if it has one
  pub past : Option Past
  -- which faults it may report
  pub reports : CoreFault → Bool

-- what is seen of a view: its source, the moment of its disk, its count of faults, how many calls answered a fault, and the
-- last one
pub record ViewState : Type 0 where
  pub source : Source
  pub moment : ℕ
  pub faults : ℕ
  pub answered : ℕ
  pub last : Option CoreFault

-- what every view keeps, whatever its disk gives
pub record IsUsable (m : Content) : Type 0 where
  pub blocks : m.length ≤ MAX_BLOCKS
  pub fork : m.fork ≤ MAX_FORK
  pub sizes : AllByRecursion (λ (node : Node). node.size ≤ MAX_CORE_BYTES) (roots m)
  pub below : (index : ℕ) → held m index ≡ true → index < m.length

-- no block of from..to is held
abbrev pub HoldsNone : (ℕ → Bool) → ℕ → ℕ → Type 0
HoldsNone has from to = (index : ℕ) → from ≤ index → index < to → has index ≡ false

-- the index is that of the first block of from..to that is held
pub record IsFirstHeld (has : ℕ → Bool) (from to index : ℕ) : Type 0 where
  pub from_on : from ≤ index
  pub before : index < to
  pub is_held : has index ≡ true
  pub first : HoldsNone has from index

-- a fault was answered, is the last one, and is one that the view may report
pub record Reports (old new : ViewState) (fault : CoreFault) : Type 0 where
  pub answered : Rose old.answered new.answered
  pub last : new.last ≡ Some fault
  pub cause : fault ≡ StoreFault → Rose old.faults new.faults
  pub own : old.source.reports fault ≡ true

-- the source stays, and no count falls
pub record Keeps (old new : ViewState) : Type 0 where
  pub source : new.source ≡ old.source
  pub later : old.moment ≤ new.moment
  pub faults : old.faults ≤ new.faults
  pub answered : old.answered ≤ new.answered

-- a call that changes no source, and reported what it answers as an Err
pub record Looks {T : Type 0} (old new : ViewState) (answer : Result T CoreFault) : Type 0 where
  pub keeps : Keeps old new
  pub reported : IfErr answer (Reports old new)

-- the node of the number is to be stored for the length and the held indices
abbrev pub IsStored : Source → ℕ → Type 0
IsStored s index = (depth offset : ℕ) → number depth offset ≡ index → in_closure s.content.length (held s.content) depth offset ≡ true

-- a node that the view gives for the number, which is the content's where the view shows it
pub record GivesNode (s : Source) (index : ℕ) (node : Node) : Type 0 where
  pub numbered : node.index ≡ index
  pub size : node.size ≤ MAX_CORE_BYTES
  pub given : s.gives index (twig_of node) ≡ true
  pub shown : IsTrue s.shows → (depth offset : ℕ) → number depth offset ≡ index → s.content.node depth offset ≡ Some (twig_of node)

-- so many bytes at the front of the buffer are a block that the view gives, which is the content's where the view shows it
pub record GivesBlock (s : Source) (index : ℕ) (buffer : List ℕ) (len : ℕ) : Type 0 where
  pub size : len ≤ MAX_BLOCK_BYTES
  pub within : len ≤ length buffer
  pub given : s.gives_block index (take len buffer) ≡ true
  pub shown : IsTrue s.shows → s.content.block index ≡ Some (take len buffer)
