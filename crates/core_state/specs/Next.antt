-- What follows an event: the content after it, and the reply, a case for each event.
use Rattle.std.specs.Prelude.{◌≡◌, ℕ, Bool, false, ◌<◌, ◌≤◌, List, [], ◌∷◌, length, take, Option, Some, None, Result, Ok, Err, IsSome}
use Rattle.bit_field.specs.Pages.{page_of}
use Rattle.commit_book.specs.declared.commit.Commit.{Commit}
use Rattle.commit_book.specs.declared.commit.Commit.TheVariants.{Append as AppendCommit, Truncate as TruncateCommit, Clear as ClearCommit}
use Rattle.commit_book.specs.History.{HoldsSome}
use Rattle.proof_form.specs.Proofs.{Proof}
use Rattle.node_set.specs.declared.fault.CoreFault.{CoreFault}
use Rattle.node_set.specs.declared.fault.CoreFault.TheVariants.{Refused}
use Rattle.node_set.specs.declared.fault.Refusal.TheVariants.{NewFork}
use Rattle.node_set.specs.declared.fault.Receipt.{Receipt}
use Rattle.node_set.specs.Contents.{Content, held, summary_of}
use Rattle.node_set.specs.Changes.{append_content, truncate_content, clear_content, IsSigned}
use Rattle.core_forks.specs.Refusals.{truncate_refusal, clear_refusal}
use Rattle.core_snap.specs.declared.snapshot.ReadAt.{ReadAt}
use Rattle.core_snap.specs.Reads.{Answer, get_of}
use Rattle.proof_check.specs.Judge.{refusal_of, admitted, commit_of}
use Rattle.proof_check.specs.Admission.{IsServed, refused}
use Rattle.core_state.specs.Events.{Event, Reply}
use Rattle.core_state.specs.Events.Event.{Head, Append, Truncate, Clear, Admit, Make, Get, Need, Page}
use Rattle.core_state.specs.Events.Reply.{Told, Done, Made, Read, Number, Bits}
use Rattle.core_state.specs.States.{info_of, receipt_of}
use Rattle.core_state.specs.Refusals.{append_refusal, proof_answer, need_answer}

-- a change is refused, and nothing changes, or it follows
abbrev pub Changes : Content → Option CoreFault → (Content → Receipt → Type 0) → Content → Result Receipt CoreFault → Type 0
Changes m refusal Follows after (Ok receipt) = (refusal ≡ None) × Follows after receipt
Changes m refusal Follows after (Err fault) = (refusal ≡ Some fault) × (after ≡ m)

-- nothing changes, and nothing is committed
pub record Rests (m after : Content) (receipt : Receipt) : Type 0 where
  pub content : after ≡ m
  pub tells : receipt ≡ receipt_of m None

-- the content is this one, with its commit, under a head that the verifier accepts
pub record Signs (accepts : List ℕ → List ℕ → Bool) (changed : List ℕ → Content) (commit : Commit) (after : Content) (receipt : Receipt) : Type 0 where
  pub content : after ≡ changed after.signature
  pub signed : IsSigned accepts after
  pub tells : receipt ≡ receipt_of after (Some commit)

-- blocks are added at the end; none changes nothing
abbrev pub FollowsAppend : (List ℕ → List ℕ → Bool) → Content → List (List ℕ) → Content → Receipt → Type 0
FollowsAppend accepts m [] after receipt = Rests m after receipt
FollowsAppend accepts m (block ∷ more) after receipt =
    Signs accepts (λ signature. append_content (block ∷ more) signature m) (AppendCommit (length (block ∷ more))) after receipt

-- the log is cut, under another fork
abbrev pub FollowsTruncate : (List ℕ → List ℕ → Bool) → Content → ℕ → ℕ → Content → Receipt → Type 0
FollowsTruncate accepts m to fork after receipt =
    Signs accepts (λ signature. truncate_content to fork signature m) (TruncateCommit to fork) after receipt

-- the blocks from..to are given up, of which some are held
pub record GivesUp (m : Content) (from to : ℕ) (commit : Commit) (after : Content) (receipt : Receipt) : Type 0 where
  pub some : HoldsSome from to (summary_of m)
  pub is_clear : commit ≡ ClearCommit from to
  pub content : after ≡ clear_content from to m
  pub tells : receipt ≡ receipt_of after (Some commit)

-- none of them is held
pub record GivesNone (m : Content) (from to : ℕ) (after : Content) (receipt : Receipt) : Type 0 where
  pub none : (index : ℕ) → from ≤ index → index < to → held m index ≡ false
  pub rests : Rests m after receipt

-- blocks are given up; where none is held nothing changes
abbrev pub FollowsClear : Content → ℕ → ℕ → Content → Receipt → Type 0
FollowsClear m from to after receipt = ByCommit receipt.commit
  where
    ByCommit : Option Commit → Type 0
    ByCommit None = GivesNone m from to after receipt
    ByCommit (Some commit) = GivesUp m from to commit after receipt

-- what a proof brings came in, under its head
pub record Admits (m : Content) (p : Proof) (after : Content) (receipt : Receipt) : Type 0 where
  pub content : after ≡ admitted p m
  pub tells : receipt ≡ receipt_of after (commit_of p m)

-- a proof is refused, and nothing changes, or it is admitted; so far an upgrade under a greater fork is refused
pub record Judges (accepts : List ℕ → List ℕ → Bool) (m : Content) (p : Proof) (after : Content) (answer : Result Receipt CoreFault) : Type 0 where
  pub served : IsServed p m → Changes m (refused (refusal_of accepts p m)) (Admits m p) after answer
  pub new_fork : m.fork < p.fork → IsSome p.upgrade → (answer ≡ Err (Refused (NewFork m.fork))) × (after ≡ m)

-- what a read put in the front of its place
abbrev pub answer_in : List ℕ → Result ReadAt CoreFault → Result Answer CoreFault
answer_in place (Ok read) = Ok (record { block = take read.len place; trail = read.trail })
answer_in place (Err fault) = Err fault

-- a page that was put in its place
abbrev pub page_in : List ℕ → Result (Unit {0}) CoreFault → Result (List ℕ) CoreFault
page_in place (Ok _) = Ok place
page_in place (Err fault) = Err fault

-- what follows an event on a content: the content after it, and the reply
abbrev pub Next : (List ℕ → List ℕ → Bool) → Content → Event → Content → Reply → Type 0
Next accepts m Head after (Told info) = (after ≡ m) × (info ≡ info_of m)
Next accepts m (Append more) after (Done answer) = Changes m (append_refusal m more) (FollowsAppend accepts m more) after answer
Next accepts m (Truncate to fork) after (Done answer) = Changes m (truncate_refusal m to fork) (FollowsTruncate accepts m to fork) after answer
Next accepts m (Clear from to) after (Done answer) = Changes m (clear_refusal m from to) (FollowsClear m from to) after answer
Next accepts m (Admit p) after (Done answer) = Judges accepts m p after answer
Next accepts m (Make request) after (Made answer) = (after ≡ m) × (answer ≡ proof_answer m request)
Next accepts m (Get index) after (Read answer) = (after ≡ m) × (answer ≡ get_of m index)
Next accepts m (Need index) after (Number answer) = (after ≡ m) × (answer ≡ need_answer m index)
Next accepts m (Page number) after (Bits answer) = (after ≡ m) × (answer ≡ Ok (page_of (held m) number))
Next accepts m event after reply = ⊥
