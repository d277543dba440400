-- What is seen of a view, and what its calls do to it.
use Rattle.std.specs.Prelude.{◌≡◌, ℕ, Bool, true, false, ◌<◌, ◌≤◌, ◌⊎◌, List, length, take, Option, Some, None, is_some, Result, Ok, Err, IfErr, IsTrue, option_map}
use Rattle.std.specs.List.{AllByRecursion}
use Rattle.outside_traits.specs.Faults.{Rose}
use Rattle.flat_tree.specs.Subtrees.{number}
use Rattle.disk_trait.specs.Past.{Past}
use Rattle.flat_tree.specs.declared.limits.TheConstants.{MAX_BLOCKS, MAX_FORK, MAX_BLOCK_BYTES, MAX_CORE_BYTES}
use Rattle.merkle_nodes.specs.declared.node.Node.{Node}
use Rattle.merkle_nodes.specs.Roots.{twig_of}
use Rattle.node_set.specs.declared.fault.CoreFault.{CoreFault}
use Rattle.node_set.specs.declared.fault.CoreFault.TheVariants.{StoreFault, BadStore}
use Rattle.node_set.specs.Contents.{Content, held, roots}
use Rattle.node_set.specs.Closure.{in_closure}
use Rattle.node_set.specs.Whole.{IsSound, KeepsLimits}

-- What is seen of a view: a content, of which head, roots and held indices are always the view's; whether the view stands for it, which is
-- that it gives its nodes and blocks and they agree; whether it shows it, which is that what it gives is the content's, agreeing or not; what
-- its disk went through, if it has one, and the moment of that; its count of faults; which faults it tells; how many calls answered a fault, and
-- the last one.
pub record ViewState : Type 0 where
  pub content : Content
  pub stands : Bool
  pub shows : Bool
  pub past : Option Past
  pub moment : ℕ
  pub faults : ℕ
  pub tells : CoreFault → Bool
  pub answered : ℕ
  pub last : Option CoreFault

-- the fault is one of the disk, or of a record that isn't in its form
abbrev pub is_of_store : CoreFault → Bool
is_of_store StoreFault = true
is_of_store (BadStore area at) = true
is_of_store fault = false

-- what every view keeps, whatever its disk gives
pub record IsUsable (m : Content) : Type 0 where
  pub blocks : m.length ≤ MAX_BLOCKS
  pub fork : m.fork ≤ MAX_FORK
  pub sizes : AllByRecursion (λ (node : Node). node.size ≤ MAX_CORE_BYTES) (roots m)
  pub below : (index : ℕ) → held m index ≡ true → index < m.length

-- a view that stands has a sound content within the limits
abbrev pub StandsSoundly : ViewState → Type 0
StandsSoundly v = IsTrue v.stands → IsSound v.content × KeepsLimits v.content

-- the content, whether the view stands for it and shows it, and which faults it tells stay; and the disk was read at most
pub record KeepsContent (old new : ViewState) : Type 0 where
  pub content : new.content ≡ old.content
  pub stands : new.stands ≡ old.stands
  pub shows : new.shows ≡ old.shows
  pub past : new.past ≡ old.past
  pub later : old.moment ≤ new.moment
  pub tells : new.tells ≡ old.tells

-- a fault was answered, is the last one, and is one that the view tells
pub record TellsFault (old new : ViewState) (fault : CoreFault) : Type 0 where
  pub answered : Rose old.answered new.answered
  pub last : new.last ≡ Some fault
  pub cause : fault ≡ StoreFault → Rose old.faults new.faults
  pub stands : IsTrue old.stands → fault ≡ StoreFault
  pub own : old.tells fault ≡ true

-- the counts don't fall, and an Err was told
pub record HasViewCause {T : Type 0} (old new : ViewState) (answer : Result T CoreFault) : Type 0 where
  pub faults : old.faults ≤ new.faults
  pub answered : old.answered ≤ new.answered
  pub told : IfErr answer (TellsFault old new)

-- the node of a number is given exactly where it is in the closure, and where the view stands or shows it is the content's
pub record GivesNode (v : ViewState) (index : ℕ) (found : Option Node) : Type 0 where
  pub closed : (depth offset : ℕ) → number depth offset ≡ index → is_some found ≡ in_closure v.content.length (held v.content) depth offset
  pub content : IsTrue v.stands → (depth offset : ℕ) → number depth offset ≡ index → option_map twig_of found ≡ v.content.node depth offset
  pub shown : IsTrue v.shows → (depth offset : ℕ) → number depth offset ≡ index → option_map twig_of found ≡ v.content.node depth offset
  pub numbered : (node : Node) → found ≡ Some node → node.index ≡ index
  pub size : (node : Node) → found ≡ Some node → node.size ≤ MAX_CORE_BYTES

-- so many bytes at the front of the place are a block, which is the content's where the view stands or shows
pub record GivesBlock (v : ViewState) (index : ℕ) (place : List ℕ) (len : ℕ) : Type 0 where
  pub size : len ≤ MAX_BLOCK_BYTES
  pub within : len ≤ length place
  pub content : IsTrue v.stands → v.content.block index ≡ Some (take len place)
  pub shown : IsTrue v.shows → v.content.block index ≡ Some (take len place)

-- a call over a view answers a value for which this holds, or its refusal, or a fault that the view told in it
abbrev pub AnswersBy : {T : Type 0} → ViewState → ViewState → Option CoreFault → (T → Type 0) → Result T CoreFault → Type 0
AnswersBy old new refusal Gives (Ok value) = (refusal ≡ None) × Gives value
AnswersBy old new refusal Gives (Err fault) = (refusal ≡ Some fault) ⊎ TellsFault old new fault
