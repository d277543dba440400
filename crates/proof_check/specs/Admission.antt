-- What an admission answers: the change that makes the next content of the one before.
use Rattle.std.specs.Prelude.{◌≡◌, ℕ, ◌<◌, ◌≤◌, ◌⊎◌, ◌&&◌, List, [], ◌∷◌, Bool, Option, None, is_some, if◌then◌else◌, option_map}
use Rattle.std.specs.List.{AllByRecursion}
use Rattle.merkle_nodes.specs.declared.node.Node.{Node}
use Rattle.proof_form.specs.Proofs.{Proof}
use Rattle.node_set.specs.declared.change.Change.{Change}
use Rattle.node_set.specs.declared.fault.CoreFault.{CoreFault}
use Rattle.node_set.specs.declared.fault.CoreFault.TheVariants.{Refused}
use Rattle.node_set.specs.declared.fault.Refusal.{Refusal}
use Rattle.node_set.specs.Contents.{Content, roots}
use Rattle.node_set.specs.Nodes.{with_nodes}
use Rattle.proof_check.specs.Upgraded.{with_upgrade}
use Rattle.proof_check.specs.Judge.{admitted, commit_of}

-- each node's number is below an end
abbrev pub AllBelow : ℕ → List Node → Type 0
AllBelow end = AllByRecursion (λ (node : Node). node.index < end)

-- each node's number is above a node's
abbrev pub AllLater : Node → List Node → Type 0
AllLater node = AllByRecursion (λ (later : Node). node.index < later.index)

-- each node's number is above those before it
abbrev pub Ascends : List Node → Type 0
Ascends [] = Unit {0}
Ascends (node ∷ nodes) = AllLater node nodes × Ascends nodes

-- the node stays as it was stored: the content before had it, and has it under the upgraded head
abbrev pub stays : Proof → Content → ℕ → ℕ → Bool
stays p m depth offset = is_some (m.node depth offset) && is_some ((with_upgrade p m).node depth offset)

-- the nodes are those that come in, each with its value after the admission
abbrev pub AreFresh : Proof → Content → List Node → Type 0
AreFresh p m nodes = (depth offset : ℕ) → with_nodes (λ d o. None) nodes depth offset
    ≡ (if stays p m depth offset then None else (admitted p m).node depth offset)

-- the change that an admission makes
pub record IsAdmission (p : Proof) (m : Content) (change : Change) : Type 0 where
  pub fork : change.head.fork ≡ (admitted p m).fork
  pub length : change.head.length ≡ (admitted p m).length
  pub signature : change.head.signature ≡ (admitted p m).signature
  pub roots : change.roots ≡ roots (admitted p m)
  pub commit : change.commit ≡ commit_of p m
  pub order : Ascends change.fresh
  pub fresh : AreFresh p m change.fresh

-- a refusal as a fault of the core
abbrev pub refused : Option Refusal → Option CoreFault
refused = option_map Refused

-- the proof has no hash part and no seek part
pub record IsPlain (p : Proof) : Type 0 where
  pub hash : p.hash ≡ None
  pub seek : p.seek ≡ None

-- what is judged here: any proof but an upgrade under a greater fork
abbrev pub IsServed : Proof → Content → Type 0
IsServed p m = (p.fork ≤ m.fork) ⊎ (p.upgrade ≡ None)

-- the fault is a refusal
abbrev pub IsRefusal : CoreFault → Type 0
IsRefusal fault = (refusal : Refusal) × (fault ≡ Refused refusal)
