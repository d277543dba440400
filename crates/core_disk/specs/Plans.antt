-- A change of a core's content as it goes to the disk: the bytes that it writes, its entry, and the content after it.
use Rattle.std.specs.Prelude.{◌≡◌, ℕ, Bool, true, false, ◌≤◌, List, [], ◌∷◌, length, Option, Some, None, Result, Ok, Err, IsTrue, if◌then◌else◌}
use Rattle.std.specs.List.{concat}
use Rattle.disk_trait.specs.Disk.{overlay, Torn}
use Rattle.commit_book.specs.declared.commit.Commit.{Commit}
use Rattle.commit_book.specs.declared.commit.Commit.TheVariants.{Clear}
use Rattle.merkle_nodes.specs.declared.node.Node.{Node}
use Rattle.merkle_nodes.specs.declared.roots.Head.{Head}
use Rattle.oplog_form.specs.declared.entry.Entry.{Entry}
use Rattle.oplog_form.specs.declared.entry.TheConstants.{MAX_ENTRY_NODES}
use Rattle.oplog_form.specs.Entries.{EntryFits}
use Rattle.proof_form.specs.Proofs.{Proof, Block}
use Rattle.node_set.specs.declared.change.Change.{Change}
use Rattle.node_set.specs.declared.fault.CoreFault.{CoreFault}
use Rattle.node_set.specs.Contents.{Content, held, roots, bytes_under}
use Rattle.node_set.specs.Offsets.{offset_of}
use Rattle.node_set.specs.Changes.{clear_content, IsSigned}
use Rattle.node_set.specs.Views.{ViewState}
use Rattle.node_set.specs.Whole.{IsWhole}
use Rattle.node_set.specs.Legal.{KeepsHistory}
use Rattle.core_forks.specs.Truncations.{HoldsNone}
use Rattle.proof_check.specs.Judge.{admitted, commit_of}
use Rattle.proof_check.specs.Reaching.{IsLegalChange}
use Rattle.core_disk.specs.Standing.{HasBlocks}
use Rattle.core_disk.specs.Areas.{head_of}
use Rattle.core_disk.specs.Written.{IsEntryOf, entry_with}

-- bytes that are written to the blocks area, and where
pub record Part : Type 0 where
  pub at : ℕ
  pub bytes : List ℕ

-- the area with the bytes that come in, if some do
abbrev pub laid : Option Part → List ℕ → List ℕ
laid None area = area
laid (Some part) area = overlay part.at part.bytes area

-- the bytes of a part, none where there is none
abbrev pub bytes_in : Option Part → List ℕ
bytes_in None = []
bytes_in (Some part) = part.bytes

-- the calls of a disk that bring these bytes: a write and a sync, and none where there is no byte
abbrev pub calls_for : List ℕ → ℕ
calls_for [] = 0
calls_for (byte ∷ bytes) = 2

-- their write was cut short
abbrev pub TornBy : Option Part → List ℕ → List ℕ → Type 0
TornBy None area now = now ≡ area
TornBy (Some part) area now = Torn part.at (length part.bytes) area now

-- The change from a content to a whole one, with its legal commit, its entry, and the blocks' bytes that come in. A write of these
-- that is cut short leaves the blocks that were held, and after it those of the content after stand at their offsets.
pub record Plans (accepts : List ℕ → List ℕ → Bool) (m : Content) (commit : Commit) (after : Content) (e : Entry) (part : Option Part) : Type 0 where
  pub whole : IsWhole accepts after
  pub legal : KeepsHistory m after (Some commit)
  pub is_entry : IsEntryOf m commit after e
  pub fits : EntryFits e
  pub torn : (area now : List ℕ) → HasBlocks area m → TornBy part area now → HasBlocks now m
  pub written : (area : List ℕ) → HasBlocks area m → HasBlocks (laid part area) after

-- ---- the bytes that come in

-- an append's blocks, one after the other behind the log's bytes
abbrev pub behind : List (List ℕ) → Content → Part
behind more m = record { at = bytes_under (roots m); bytes = concat more }

-- a proof's block at its offset, where it comes in
abbrev pub brought_by : Proof → Content → Option Part
brought_by p m = ByBlock p.block
  where
    ByBlock : Option Block → Option Part
    ByBlock None = None
    ByBlock (Some b) = if held m b.index then None else Some (record { at = offset_of (admitted p m) b.index; bytes = b.bytes })

-- ---- what is decided over a view

-- A change of a view's content is planned with these records. Its entry fits and finds room, and the commit is legal, also where the view
-- doesn't give what it stands for.
pub record IsPlanned (accepts : List ℕ → List ℕ → Bool) (v : ViewState) (commit : Commit) (after : Content)
    (records : List Node) (part : Option Part) : Type 0 where
  pub fits : EntryFits (entry_with commit after records)
  pub few : length records ≤ MAX_ENTRY_NODES
  pub legal : KeepsHistory v.content after (Some commit)
  pub plans : IsTrue v.stands → IsWhole accepts v.content → Plans accepts v.content commit after (entry_with commit after records) part

-- the same of a change to the content that a signature gives, under a head with a signature that is accepted
pub record IsSignedPlan (accepts : List ℕ → List ℕ → Bool) (v : ViewState) (commit : Commit) (changed : List ℕ → Content)
    (part : Option Part) (records : List Node) (head : Head) : Type 0 where
  pub head_is : head ≡ head_of (changed head.signature)
  pub planned : IsPlanned accepts v commit (changed head.signature) records part
  pub signed : IsTrue v.stands → IsWhole accepts v.content → IsSigned accepts (changed head.signature)

-- a clearing is planned, without a record, where some of the blocks is held
abbrev pub IsClearPlan : ViewState → ℕ → ℕ → Bool → Type 0
IsClearPlan v from to true = (accepts : List ℕ → List ℕ → Bool) → IsPlanned accepts v (Clear from to) (clear_content from to v.content) [] None
IsClearPlan v from to false = HoldsNone from to v.content

-- the block of a proof at a byte, if there is one
abbrev pub block_at : Option ℕ → Option Block → Option Part
block_at (Some at) (Some b) = Some (record { at = at; bytes = b.bytes })
block_at at block = None

-- the entry of an admission fits and finds room, also where the view doesn't give what it stands for
pub record IsEntered (p : Proof) (v : ViewState) (change : Change) : Type 0 where
  pub legal : IsLegalChange p v.content change
  pub fits : (commit : Commit) → change.commit ≡ Some commit → EntryFits (record { commit = commit; head = change.head; records = change.fresh })
  pub few : length change.fresh ≤ MAX_ENTRY_NODES

-- the admission of a whole content is planned, with the block at its byte where it comes in
pub record IsAdmitPlan (accepts : List ℕ → List ℕ → Bool) (p : Proof) (m : Content) (change : Change) (at : Option ℕ) : Type 0 where
  pub head_is : change.head ≡ head_of (admitted p m)
  pub commit_is : change.commit ≡ commit_of p m
  pub plans : (commit : Commit) → change.commit ≡ Some commit
      → Plans accepts m commit (admitted p m) (entry_with commit (admitted p m) change.fresh) (block_at at p.block)

-- a value for which this holds, or the refusal
abbrev pub OrRefused : {T : Type 0} → Option CoreFault → (T → Type 0) → Result T CoreFault → Type 0
OrRefused refusal Gives (Ok value) = (refusal ≡ None) × Gives value
OrRefused refusal Gives (Err fault) = refusal ≡ Some fault
