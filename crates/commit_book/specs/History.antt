-- The history of a core: what a core stands for in short, what each commit does to it, and which lists of entries are legal.
use Rattle.std.specs.Prelude.{◌≡◌, ℕ, ◌+◌, ◌<◌, ◌≤◌, Bool, true, false, not, ◌&&◌, ◌||◌, nat_le, nat_lt, List, [], ◌∷◌}
use Rattle.commit_book.specs.declared.commit.Commit.{Commit}
use Rattle.commit_book.specs.declared.commit.Commit.TheVariants.{Append, Truncate, Clear, Fetch, Upgrade, UpgradeFetch, Reorg, ReorgFetch}
use Rattle.commit_book.specs.declared.commit.Entry.{Entry}
pub use Rattle.commit_book.specs.Prefix.{IsPrefix}
pub use Rattle.commit_book.specs.States.{BookName, BookState, PassState, LaidState, entry_of, new_book, with_entry, new_pass, made_of, marks_of, HasSeen, IsMarked}

-- what a core stands for, in short: its fork, its length in blocks, its root hash, and which indices it holds
pub record Summary : Type 0 where
  pub fork : ℕ
  pub length : ℕ
  pub root : List ℕ
  pub held : ℕ → Bool

-- the greatest length and the greatest fork of a core
pub record Limits : Type 0 where
  pub blocks : ℕ
  pub fork : ℕ

-- the index is in from..to
abbrev pub is_between : ℕ → ℕ → ℕ → Bool
is_between from to index = nat_le from index && nat_lt index to

-- the set, and from..to
abbrev pub with_part : ℕ → ℕ → (ℕ → Bool) → ℕ → Bool
with_part from to held index = held index || is_between from to index

-- the set without from..to
abbrev pub without_part : ℕ → ℕ → (ℕ → Bool) → ℕ → Bool
without_part from to held index = held index && not (is_between from to index)

-- what the set has below the end
abbrev pub below : ℕ → (ℕ → Bool) → ℕ → Bool
below end held index = held index && nat_lt index end

-- the blocks are at the end, and held
abbrev pub appended : ℕ → Summary → Summary
appended count s = record s { length = s.length + count; held = with_part s.length (s.length + count) s.held }

-- the log is cut, under this fork
abbrev pub truncated : ℕ → ℕ → Summary → Summary
truncated to fork s = record s { fork = fork; length = to; held = below to s.held }

-- the part is no longer held
abbrev pub cleared : ℕ → ℕ → Summary → Summary
cleared from to s = record s { held = without_part from to s.held }

-- the index is held
abbrev pub fetched : ℕ → Summary → Summary
fetched index s = record s { held = with_part index (index + 1) s.held }

-- the length is this
abbrev pub upgraded : ℕ → Summary → Summary
upgraded to s = record s { length = to }

-- fork and length are these, and what is held below `kept` stays
abbrev pub reorganised : ℕ → ℕ → ℕ → Summary → Summary
reorganised fork to kept s = record s { fork = fork; length = to; held = below kept s.held }

-- what the commit does, but for the root hash
abbrev pub changed : Commit → Summary → Summary
changed (Append count) s = appended count s
changed (Truncate to fork) s = truncated to fork s
changed (Clear from to) s = cleared from to s
changed (Fetch index) s = fetched index s
changed (Upgrade to) s = upgraded to s
changed (UpgradeFetch to index) s = fetched index (upgraded to s)
changed (Reorg fork to kept) s = reorganised fork to kept s
changed (ReorgFetch fork to kept index) s = fetched index (reorganised fork to kept s)

-- the summary after an entry
abbrev pub after : Summary → Entry → Summary
after s e = record (changed e.commit s) { root = e.root }

-- the summary after a list of entries
abbrev pub replay : Summary → List Entry → Summary
replay s [] = s
replay s (e ∷ es) = replay (after s e) es

-- some index of from..to is held
abbrev pub HoldsSome : ℕ → ℕ → Summary → Type 0
HoldsSome from to s = (index : ℕ) × (from ≤ index) × (index < to) × (s.held index ≡ true)

-- the log may become this long
abbrev pub MayUpgrade : Limits → ℕ → Summary → Type 0
MayUpgrade limits to s = (s.length < to) × (to ≤ limits.blocks)

-- the block of the index may come in
abbrev pub MayFetch : ℕ → Summary → Type 0
MayFetch index s = (index < s.length) × (s.held index ≡ false)

-- another log may take this one's place
abbrev pub MayReorganise : Limits → ℕ → ℕ → ℕ → Summary → Type 0
MayReorganise limits fork to kept s =
    (s.fork < fork) × (fork ≤ limits.fork) × (to ≤ limits.blocks) × (kept ≤ s.length) × (kept ≤ to)

-- the commit is in range for the summary before it
abbrev pub IsInRange : Limits → Commit → Summary → Type 0
IsInRange limits (Append count) s = (1 ≤ count) × (s.length + count ≤ limits.blocks)
IsInRange limits (Truncate to fork) s = (to ≤ s.length) × (s.fork < fork) × (fork ≤ limits.fork)
IsInRange limits (Clear from to) s = (from ≤ to) × (to ≤ s.length) × HoldsSome from to s
IsInRange limits (Fetch index) s = MayFetch index s
IsInRange limits (Upgrade to) s = MayUpgrade limits to s
IsInRange limits (UpgradeFetch to index) s = MayUpgrade limits to s × MayFetch index (upgraded to s)
IsInRange limits (Reorg fork to kept) s = MayReorganise limits fork to kept s
IsInRange limits (ReorgFetch fork to kept index) s =
    MayReorganise limits fork to kept s × MayFetch index (reorganised fork to kept s)

-- Clear and Fetch keep the root hash
abbrev pub KeepsRoot : Entry → Summary → Type 0
KeepsRoot e s = RootStays e.commit (e.root ≡ s.root)
  where
    RootStays : Commit → Type 0 → Type 0
    RootStays (Clear from to) same = same
    RootStays (Fetch index) same = same
    RootStays _ same = Unit {0}

-- the entry may come next
abbrev pub MayFollow : Limits → Summary → Entry → Type 0
MayFollow limits s e = IsInRange limits e.commit s × KeepsRoot e s

-- each entry of the list may come next, from the summary on
abbrev pub IsLegal : Limits → Summary → List Entry → Type 0
IsLegal limits s [] = Unit {0}
IsLegal limits s (e ∷ es) = MayFollow limits s e × IsLegal limits (after s e) es
