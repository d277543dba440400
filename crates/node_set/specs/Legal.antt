-- A step of a core's history: a commit between two contents.
use Rattle.std.specs.Prelude.{◌≡◌, Option, Some, None}
use Rattle.flat_tree.specs.declared.limits.TheConstants.{MAX_BLOCKS, MAX_FORK}
use Rattle.commit_book.specs.declared.commit.Commit.{Commit}
use Rattle.commit_book.specs.History.{Limits, entry_of, MayFollow, after as after_entry}
use Rattle.merkle_nodes.specs.Roots.{root_hash_of}
use Rattle.node_set.specs.Contents.{Content, roots, summary_of}

-- the limits of a core's history
abbrev pub core_limits : Limits
core_limits = record { blocks = MAX_BLOCKS; fork = MAX_FORK }

-- a commit is legal for the summary before it, and gives the summary after it; without one the summary stays
abbrev pub KeepsHistory : Content → Content → Option Commit → Type 0
KeepsHistory m after None = summary_of after ≡ summary_of m
KeepsHistory m after (Some commit) =
    let entry = entry_of commit (root_hash_of (roots after)) in
    MayFollow core_limits (summary_of m) entry × (summary_of after ≡ after_entry (summary_of m) entry)
