-- The entry that a change writes.
use Rattle.std.specs.Prelude.{◌≡◌, ℕ, Bool, true, is_some, not, ◌&&◌, ◌||◌, List, Some, None, if◌then◌else◌}
use Rattle.commit_book.specs.declared.commit.Commit.{Commit}
use Rattle.merkle_nodes.specs.declared.node.Node.{Node}
use Rattle.merkle_nodes.specs.declared.node.Twig.{Twig}
use Rattle.oplog_form.specs.declared.entry.Entry.{Entry}
use Rattle.oplog_form.specs.Nodes.{Rise}
use Rattle.node_set.specs.Contents.{Content, twig_at}
use Rattle.node_set.specs.Closure.{is_root}
use Rattle.node_set.specs.Same.{is_stored_as}
use Rattle.core_disk.specs.Opened.{values_in}
use Rattle.core_disk.specs.Areas.{head_of}

-- a node has to be written: it is stored after the change, and wasn't before with this size and hash, or it is a root now and
-- wasn't before
abbrev pub is_new : Content → Content → ℕ → ℕ → Bool
is_new m after depth offset =
    is_some (after.node depth offset)
    && (not (is_stored_as (m.node depth offset) (twig_at after.node depth offset))
    || (is_root after.length depth offset && not (is_root m.length depth offset)))

-- the nodes are those that have to be written, and no others
abbrev pub AreNew : Content → Content → List Node → Type 0
AreNew m after nodes = (depth offset : ℕ) → values_in nodes depth offset ≡ (if is_new m after depth offset then after.node depth offset else None)

-- the entry of a commit and the content after it, with these records
abbrev pub entry_with : Commit → Content → List Node → Entry
entry_with commit after records = record { commit = commit; head = head_of after; records = records }

-- the entry of a change from one content to the next: its commit, the head after it, and in rising order of their numbers
-- nodes that are stored after it, each that has to be written among them
pub record IsEntryOf (m : Content) (commit : Commit) (after : Content) (e : Entry) : Type 0 where
  pub commit_is : e.commit ≡ commit
  pub head_is : e.head ≡ head_of after
  pub order : Rise 0 e.records
  pub stored : (depth offset : ℕ) (twig : Twig) → values_in e.records depth offset ≡ Some twig → after.node depth offset ≡ Some twig
  pub new : (depth offset : ℕ) → is_new m after depth offset ≡ true → values_in e.records depth offset ≡ after.node depth offset
