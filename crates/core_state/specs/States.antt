-- What is seen of a core, and what it tells of its content in short.
use Rattle.std.specs.Prelude.{ℕ, Bool, List, Option}
use Rattle.bit_field.specs.Places.{count_below}
use Rattle.commit_book.specs.declared.commit.Commit.{Commit}
use Rattle.merkle_nodes.specs.declared.limit.Info.{Info}
use Rattle.merkle_nodes.specs.Roots.{root_hash_of}
use Rattle.node_set.specs.declared.fault.Receipt.{Receipt}
use Rattle.node_set.specs.Contents.{Content, held, roots, bytes_under}

-- a core: its content; what its verifier accepts; its count of faults; the count when a change of it failed, if one did;
-- whether it stands for its content, that is, what it reads is of it; and whether commits go to an area that may be full
pub record CoreState : Type 0 where
  pub content : Content
  pub accepts : List ℕ → List ℕ → Bool
  pub faults : ℕ
  pub broken : Option ℕ
  pub stands : Bool
  pub fills : Bool

-- a content in short
abbrev pub info_of : Content → Info
info_of m = record {
  fork = m.fork;
  length = m.length;
  bytes = bytes_under (roots m);
  held = count_below (held m) m.length;
  root = root_hash_of (roots m);
}

-- what a change tells: the head after it, and what was committed
abbrev pub receipt_of : Content → Option Commit → Receipt
receipt_of m commit = record { fork = m.fork; length = m.length; root = root_hash_of (roots m); commit = commit }
