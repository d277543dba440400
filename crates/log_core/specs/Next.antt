-- What follows an event: the content after it, and the reply, a case for each event.
use Rattle.std.specs.Prelude.{◌≡◌, ℕ, Bool, List, [], ◌∷◌, length, Option, Some, None, Result, Ok, Err}
use Rattle.bit_field.specs.Pages.{page_of}
use Rattle.commit_book.specs.declared.commit.Commit.{Commit}
use Rattle.commit_book.specs.declared.commit.Commit.TheVariants.{Append as AppendCommit, Truncate as TruncateCommit}
use Rattle.node_set.specs.declared.fault.CoreFault.{CoreFault}
use Rattle.node_set.specs.declared.fault.Receipt.{Receipt}
use Rattle.node_set.specs.Contents.{Content, held}
use Rattle.node_set.specs.Changes.{append_content, truncate_content, clear_content, IsSigned}
use Rattle.core_forks.specs.Refusals.{truncate_refusal, clear_refusal}
use Rattle.core_forks.specs.Truncations.{ClearsWhere}
use Rattle.core_snap.specs.Reads.{get_of, snap_read}
use Rattle.proof_check.specs.Judge.{refusal_of, admitted, commit_of}
use Rattle.proof_check.specs.Admission.{refused}
use Rattle.log_core.specs.Events.{Event, Reply}
use Rattle.log_core.specs.Events.Event.{Head, Snap, Append, Truncate, Clear, Admit, Get, Seek, ReadAt, Make, Need, Page}
use Rattle.log_core.specs.Events.Reply.{Short, Taken, Done, Read, Found, Made, Number, Bits}
use Rattle.log_core.specs.States.{info_of, snapshot_of, receipt_of}
use Rattle.log_core.specs.Refusals.{append_refusal, need_answer, proof_answer, seek_answer}

-- a change is refused, and nothing changes, or it follows
abbrev pub Changes : Content → Option CoreFault → (Content → Receipt → Type 0) → Content → Result Receipt CoreFault → Type 0
Changes m refusal Follows after (Ok receipt) = (refusal ≡ None) × Follows after receipt
Changes m refusal Follows after (Err fault) = (refusal ≡ Some fault) × (after ≡ m)

-- the content is this one, under a signature that the verifier accepts
pub record Signs (accepts : List ℕ → List ℕ → Bool) (changed : List ℕ → Content) (commit : Commit) (after : Content) (receipt : Receipt) : Type 0 where
  pub content : after ≡ changed after.signature
  pub signed : IsSigned accepts after
  pub returns : receipt ≡ receipt_of after (Some commit)

-- the content is this one, with this commit, or with none
pub record Becomes (changed : Content) (commit : Option Commit) (after : Content) (receipt : Receipt) : Type 0 where
  pub content : after ≡ changed
  pub returns : receipt ≡ receipt_of after commit

-- blocks are added at the end; none changes nothing
abbrev pub FollowsAppend : (List ℕ → List ℕ → Bool) → Content → List (List ℕ) → Content → Receipt → Type 0
FollowsAppend accepts m [] after receipt = Becomes m None after receipt
FollowsAppend accepts m (block ∷ more) after receipt =
    Signs accepts (λ signature. append_content (block ∷ more) signature m) (AppendCommit (length (block ∷ more))) after receipt

-- the log is cut, under another fork
abbrev pub FollowsTruncate : (List ℕ → List ℕ → Bool) → Content → ℕ → ℕ → Content → Receipt → Type 0
FollowsTruncate accepts m to fork after receipt =
    Signs accepts (λ signature. truncate_content to fork signature m) (TruncateCommit to fork) after receipt

-- the blocks from..to are cleared, with a commit exactly where one of them is held
pub record FollowsClear (m : Content) (from to : ℕ) (after : Content) (receipt : Receipt) : Type 0 where
  pub commit : ClearsWhere from to m receipt.commit
  pub becomes : Becomes (clear_content from to m) receipt.commit after receipt

-- what follows an event on a content: the content after it, and the reply
abbrev pub Next : (List ℕ → List ℕ → Bool) → Content → Event → Content → Reply → Type 0
Next accepts m Head after (Short info) = (after ≡ m) × (info ≡ info_of m)
Next accepts m Snap after (Taken snap) = (after ≡ m) × (snap ≡ snapshot_of m)
Next accepts m (Append more) after (Done answer) = Changes m (append_refusal m more) (FollowsAppend accepts m more) after answer
Next accepts m (Truncate to fork) after (Done answer) = Changes m (truncate_refusal m to fork) (FollowsTruncate accepts m to fork) after answer
Next accepts m (Clear from to) after (Done answer) = Changes m (clear_refusal m from to) (FollowsClear m from to) after answer
Next accepts m (Admit p) after (Done answer) = Changes m (refused (refusal_of accepts p m)) (Becomes (admitted p m) (commit_of p m)) after answer
Next accepts m (Get index) after (Read answer) = (after ≡ m) × (answer ≡ get_of m index)
Next accepts m (Seek byte) after (Found answer) = (after ≡ m) × (answer ≡ seek_answer m byte)
Next accepts m (ReadAt snap index) after (Read answer) = (after ≡ m) × (answer ≡ snap_read m snap index)
Next accepts m (Make request) after (Made answer) = (after ≡ m) × (answer ≡ proof_answer m request)
Next accepts m (Need index) after (Number answer) = (after ≡ m) × (answer ≡ need_answer m index)
Next accepts m (Page number) after (Bits answer) = (after ≡ m) × (answer ≡ Ok (page_of (held m) number))
Next accepts m event after reply = ⊥
