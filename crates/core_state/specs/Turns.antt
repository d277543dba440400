-- What a change does to a content in memory.
use Rattle.std.specs.Prelude.{◌≡◌, ℕ, Bool, true, ◌<◌, ◌≤◌, ◌≢◌, ◌⊎◌, List, Option, Some, None, Result, Ok, Err, IfOk, IsSome}
use Rattle.proof_form.specs.Proofs.{Proof, ProofFits}
use Rattle.proof_check.specs.Judge.{refusal_of}
use Rattle.proof_check.specs.Admission.{IsServed, IsAdmission, refused}
use Rattle.node_set.specs.declared.change.Change.{Change}
use Rattle.flat_tree.specs.declared.limits.TheConstants.{MAX_BLOCKS}
use Rattle.node_set.specs.declared.fault.CoreFault.{CoreFault}
use Rattle.node_set.specs.declared.fault.CoreFault.TheVariants.{Memory, Refused}
use Rattle.node_set.specs.declared.fault.Refusal.TheVariants.{NewFork}
use Rattle.node_set.specs.declared.fault.Receipt.{Receipt}
use Rattle.node_set.specs.Contents.{Content, roots}
use Rattle.node_set.specs.Changes.{append_content, truncate_content, IsSigned}
use Rattle.node_set.specs.Whole.{IsSound, KeepsLimits, IsWhole}
use Rattle.core_state.specs.Events.{Event}
use Rattle.core_state.specs.Events.Reply.{Done}
use Rattle.core_state.specs.Next.{Next}
use Rattle.core_state.specs.Calls.{Fails, KeepsHistory, commit_in}
use Rattle.core_state.specs.InMemory.{mem_state}

-- what follows the event, or there was no memory; the history stays legal, and what is whole stays so
pub record Turns (accepts : List ℕ → List ℕ → Bool) (m : Content) (event : Event) (after : Content) (answer : Result Receipt CoreFault) : Type 0 where
  pub next : Next accepts m event after (Done answer) ⊎ Fails true (mem_state accepts m) event (mem_state accepts after) (Done answer)
  pub history : KeepsHistory m after (commit_in (Done answer))
  pub whole : IsWhole accepts m → IsWhole accepts after

-- a change is refused, or it is one of these
abbrev pub Decides : {T : Type 0} → Option CoreFault → (T → Type 0) → Result T CoreFault → Type 0
Decides refusal Gives (Ok change) = (refusal ≡ None) × Gives change
Decides refusal Gives (Err fault) = refusal ≡ Some fault

-- a proof that is judged is refused, or it makes a change; so far an upgrade under a greater fork is refused
pub record Judged (accepts : List ℕ → List ℕ → Bool) (m : Content) (p : Proof) (change : Change) (answer : Result (Unit {0}) CoreFault) : Type 0 where
  pub served : IsServed p m → Decides (refused (refusal_of accepts p m)) (λ _. IsAdmission p m change) answer
  pub new_fork : m.fork < p.fork → IsSome p.upgrade → answer ≡ Err (Refused (NewFork m.fork))
  pub fits : ProofFits p
  pub few : IfOk answer (λ _. change.head.length ≤ MAX_BLOCKS)
  pub same : IfOk answer (λ _. p.upgrade ≡ None → change.roots ≡ roots m)
  pub other : answer ≢ Err Memory

-- the change is that of a proof which a whole content admits
pub record Brings (p : Proof) (m : Content) (change : Change) : Type 0 where
  pub accepts : List ℕ → List ℕ → Bool
  pub whole : IsWhole accepts m
  pub fits : ProofFits p
  pub served : p.fork ≤ m.fork
  pub none : refusal_of accepts p m ≡ None
  pub admission : IsAdmission p m change
  pub same : p.upgrade ≡ None → change.roots ≡ roots m

-- the content is this one, under a head that is accepted
pub record IsSignedAs (accepts : List ℕ → List ℕ → Bool) (changed : List ℕ → Content) (after : Content) : Type 0 where
  pub content : after ≡ changed after.signature
  pub signed : IsSigned accepts after
  pub sound : IsSound after
  pub limits : KeepsLimits after

-- the blocks came in
abbrev pub Extends : (List ℕ → List ℕ → Bool) → Content → List (List ℕ) → Content → Type 0
Extends accepts m more after = IsSignedAs accepts (λ signature. append_content more signature m) after

-- the log was cut
abbrev pub Cuts : (List ℕ → List ℕ → Bool) → Content → ℕ → ℕ → Content → Type 0
Cuts accepts m to fork after = IsSignedAs accepts (λ signature. truncate_content to fork signature m) after
