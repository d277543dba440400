-- When an entry follows from what came before it.
use Rattle.std.specs.Prelude.{◌≡◌, ℕ, zero, suc, ◌+◌, ◌-◌, Bool, true, false, not, is_some, ◌&&◌, ◌||◌, nat_le, nat_lt, nat_eq, List, [], ◌∷◌}
use Rattle.std.specs.List.{AllByRecursion}
use Rattle.flat_tree.specs.Subtrees.{Subtree}
use Rattle.flat_tree.specs.Roots.{full_roots_of}
use Rattle.commit_book.specs.declared.commit.Commit.{Commit}
use Rattle.commit_book.specs.declared.commit.Commit.TheVariants.{Append, Truncate, Clear, Fetch, Upgrade, UpgradeFetch, Reorg, ReorgFetch}
use Rattle.commit_book.specs.History.{Summary, Limits, IsInRange, changed, upgraded, reorganised}
use Rattle.merkle_nodes.specs.Joined.{Values}
use Rattle.oplog_form.specs.declared.entry.Entry.{Entry}
use Rattle.node_set.specs.Legal.{core_limits}
use Rattle.core_disk.specs.Opened.{Opened, short_of, known_after}

-- each full root of a length has a value
abbrev pub AreKnown : Values → ℕ → Type 0
AreKnown value n = AllByRecursion (λ (tree : Subtree). is_some (value tree.depth tree.offset) ≡ true) (full_roots_of n)

-- the commit is in range; its head has the fork and the length that the commit gives; and each root of this length is among
-- the records, or is a root before
pub record Follows (o : Opened) (e : Entry) : Type 0 where
  pub in_range : IsInRange core_limits e.commit (short_of o)
  pub fork : e.head.fork ≡ (changed e.commit (short_of o)).fork
  pub length : e.head.length ≡ (changed e.commit (short_of o)).length
  pub roots : AreKnown (known_after o e) e.head.length

-- ---- the same as a test

-- some of so many places from one on is in the set
unfoldable pub any_from : ℕ → (ℕ → Bool) → ℕ → Bool
any_from zero held from = false
any_from (suc count) held from = held from || any_from count held (suc from)

-- the log may become this long
abbrev pub may_upgrade : Limits → ℕ → Summary → Bool
may_upgrade limits to s = nat_lt s.length to && nat_le to limits.blocks

-- the block of the index may come in
abbrev pub may_fetch : ℕ → Summary → Bool
may_fetch index s = nat_lt index s.length && not (s.held index)

-- another log may take this one's place
abbrev pub may_reorganise : Limits → ℕ → ℕ → ℕ → Summary → Bool
may_reorganise limits fork to kept s =
    nat_lt s.fork fork && nat_le fork limits.fork && nat_le to limits.blocks && nat_le kept s.length && nat_le kept to

-- the commit is in range for the summary before it
abbrev pub is_in_range : Limits → Commit → Summary → Bool
is_in_range limits (Append count) s = nat_le 1 count && nat_le (s.length + count) limits.blocks
is_in_range limits (Truncate to fork) s = nat_le to s.length && nat_lt s.fork fork && nat_le fork limits.fork
is_in_range limits (Clear from to) s = nat_le from to && nat_le to s.length && any_from (to - from) s.held from
is_in_range limits (Fetch index) s = may_fetch index s
is_in_range limits (Upgrade to) s = may_upgrade limits to s
is_in_range limits (UpgradeFetch to index) s = may_upgrade limits to s && may_fetch index (upgraded to s)
is_in_range limits (Reorg fork to kept) s = may_reorganise limits fork to kept s
is_in_range limits (ReorgFetch fork to kept index) s = may_reorganise limits fork to kept s && may_fetch index (reorganised fork to kept s)

-- each of the subtrees has a value
abbrev pub are_known : Values → List Subtree → Bool
are_known value [] = true
are_known value (tree ∷ trees) = is_some (value tree.depth tree.offset) && are_known value trees

-- the head has the fork and the length of the summary
abbrev pub has_numbers : Entry → Summary → Bool
has_numbers e s = nat_eq e.head.fork s.fork && nat_eq e.head.length s.length

-- the entry follows
abbrev pub follows : Opened → Entry → Bool
follows o e =
    is_in_range core_limits e.commit (short_of o)
    && has_numbers e (changed e.commit (short_of o))
    && are_known (known_after o e) (full_roots_of e.head.length)
