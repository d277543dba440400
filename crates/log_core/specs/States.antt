-- What is seen of a core, and what it answers of its content in short.
use Rattle.std.specs.Prelude.{◌≡◌, ◌≢◌, ℕ, Bool, true, ◌⊎◌, List, Option, Some, IsTrue}
use Rattle.bit_field.specs.Places.{count_below}
use Rattle.commit_book.specs.declared.commit.Commit.{Commit}
use Rattle.merkle_nodes.specs.declared.limit.Info.{Info}
use Rattle.merkle_nodes.specs.Roots.{root_hash_of}
use Rattle.node_set.specs.declared.fault.CoreFault.{CoreFault}
use Rattle.node_set.specs.declared.fault.CoreFault.TheVariants.{StoreFault}
use Rattle.node_set.specs.declared.fault.Receipt.{Receipt}
use Rattle.node_set.specs.Contents.{Content, held, roots, bytes_under}
use Rattle.node_set.specs.Whole.{IsWhole}
use Rattle.core_snap.specs.declared.snapshot.Snapshot.{Snapshot}
use Rattle.log_view.specs.Views.{ViewState}

-- what is seen of its log, with the faults of its store; what its verifier accepts; whether its commits go to an area that may be full;
-- and the count of faults when a change failed, if one did
pub record CoreState : Type 0 where
  pub view : ViewState
  pub accepts : List ℕ → List ℕ → Bool
  pub fills : Bool
  pub broken : Option ℕ

-- the content of a core, whatever its store gives
abbrev pub content_of : CoreState → Content
content_of core = core.view.source.content

-- what the log gives is its content, which is whole, and the log reports nothing but faults of its store
pub record Stands (core : CoreState) : Type 0 where
  pub shows : IsTrue core.view.source.shows
  pub whole : IsWhole core.accepts (content_of core)
  pub reports : (fault : CoreFault) → core.view.source.reports fault ≡ true → fault ≡ StoreFault

-- a content in short
abbrev pub info_of : Content → Info
info_of m = record {
  fork = m.fork;
  length = m.length;
  bytes = bytes_under (roots m);
  held = count_below (held m) m.length;
  root = root_hash_of (roots m);
}

-- a content's head with its roots
abbrev pub snapshot_of : Content → Snapshot
snapshot_of m = record { fork = m.fork; length = m.length; roots = roots m; signature = m.signature }

-- the head after a change, in short, and what was committed
abbrev pub receipt_of : Content → Option Commit → Receipt
receipt_of m commit = record { fork = m.fork; length = m.length; root = root_hash_of (roots m); commit = commit }

-- a log, who signs for it, and the count when a change of it failed, as a core
abbrev pub core_of : ViewState → (List ℕ → List ℕ → Bool) → Bool → Option ℕ → CoreState
core_of view accepts fills broken = record { view = view; accepts = accepts; fills = fills; broken = broken }

-- a change failed: the core breaks where its store did
abbrev pub BreaksBy : Option ℕ → Option ℕ → ℕ → CoreFault → Type 0
BreaksBy old new faults fault = ((fault ≡ StoreFault) × (new ≡ Some faults)) ⊎ ((fault ≢ StoreFault) × (new ≡ old))
