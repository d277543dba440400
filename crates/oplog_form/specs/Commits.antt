-- A commit: its kind, and its numbers (docs/FORMATS.md, "Headers and entries").
use Rattle.std.specs.Prelude.{ℕ, ◌≤◌, ◌==◌, List, ◌++◌, Ok, if◌then◌else◌}
use Rattle.commit_book.specs.declared.commit.Commit.{Commit}
use Rattle.commit_book.specs.declared.commit.Commit.TheVariants.{Append, Truncate, Clear, Fetch, Upgrade, UpgradeFetch, Reorg, ReorgFetch}
use Rattle.compact_enc.specs.Spelling.{uint_spelling}
use Rattle.compact_enc.specs.Reading.{◌>>=◌}
use Rattle.compact_enc.specs.Input.{Input}
use Rattle.oplog_form.specs.declared.commit.TheConstants.{APPEND, TRUNCATE, CLEAR, FETCH, UPGRADE, UPGRADE_FETCH, REORG, REORG_FETCH, MAX_NUMBER}
use Rattle.oplog_form.specs.Form.{Read, number_of, both_of}

-- the kind of a commit
abbrev pub kind_of : Commit → ℕ
kind_of (Append count) = APPEND
kind_of (Truncate to fork) = TRUNCATE
kind_of (Clear from to) = CLEAR
kind_of (Fetch index) = FETCH
kind_of (Upgrade to) = UPGRADE
kind_of (UpgradeFetch to index) = UPGRADE_FETCH
kind_of (Reorg fork to kept) = REORG
kind_of (ReorgFetch fork to kept index) = REORG_FETCH

-- two numbers
abbrev pub pair_spelling : ℕ → ℕ → List ℕ
pair_spelling first second = uint_spelling first ++ uint_spelling second

-- the numbers of a commit, one behind the other
abbrev pub numbers_spelling : Commit → List ℕ
numbers_spelling (Append count) = uint_spelling count
numbers_spelling (Truncate to fork) = pair_spelling to fork
numbers_spelling (Clear from to) = pair_spelling from to
numbers_spelling (Fetch index) = uint_spelling index
numbers_spelling (Upgrade to) = uint_spelling to
numbers_spelling (UpgradeFetch to index) = pair_spelling to index
numbers_spelling (Reorg fork to kept) = uint_spelling fork ++ pair_spelling to kept
numbers_spelling (ReorgFetch fork to kept index) = pair_spelling fork to ++ pair_spelling kept index

-- a kind and numbers
abbrev pub commit_spelling : Commit → List ℕ
commit_spelling commit = uint_spelling (kind_of commit) ++ numbers_spelling commit

-- both are in range
abbrev pub PairFits : ℕ → ℕ → Type 0
PairFits first second = (first ≤ MAX_NUMBER) × (second ≤ MAX_NUMBER)

-- each number is in range
abbrev pub CommitFits : Commit → Type 0
CommitFits (Append count) = count ≤ MAX_NUMBER
CommitFits (Truncate to fork) = PairFits to fork
CommitFits (Clear from to) = PairFits from to
CommitFits (Fetch index) = index ≤ MAX_NUMBER
CommitFits (Upgrade to) = to ≤ MAX_NUMBER
CommitFits (UpgradeFetch to index) = PairFits to index
CommitFits (Reorg fork to kept) = (fork ≤ MAX_NUMBER) × PairFits to kept
CommitFits (ReorgFetch fork to kept index) = PairFits fork to × PairFits kept index

-- a number in range
abbrev pub small_of : Input → Read ℕ
small_of input = number_of MAX_NUMBER input

-- two numbers in range
abbrev pub pair_of : Input → Read (ℕ × ℕ)
pair_of input = both_of small_of small_of input

-- a commit with what was read
abbrev pub made : {A : Type 0} → (A → Commit) → Read A → Read Commit
made commit read = read >>= λ x. Ok (commit x.0, x.1)

-- the numbers of each kind
unfoldable pub numbers_in : ℕ → Input → Read Commit
numbers_in kind input =
    if kind == APPEND then made Append (small_of input)
    else if kind == TRUNCATE then made (λ x. Truncate x.0 x.1) (pair_of input)
    else if kind == CLEAR then made (λ x. Clear x.0 x.1) (pair_of input)
    else if kind == FETCH then made Fetch (small_of input)
    else if kind == UPGRADE then made Upgrade (small_of input)
    else if kind == UPGRADE_FETCH then made (λ x. UpgradeFetch x.0 x.1) (pair_of input)
    else if kind == REORG then made (λ x. Reorg x.0 x.1.0 x.1.1) (both_of small_of pair_of input)
    else made (λ x. ReorgFetch x.0.0 x.0.1 x.1.0 x.1.1) (both_of pair_of pair_of input)

-- a kind that there is, and its numbers
unfoldable pub commit_in : Input → Read Commit
commit_in input = do
  kind ← number_of REORG_FETCH input
  numbers_in kind.0 kind.1
