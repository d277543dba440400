-- Worked cases of what commits do, and of which lists are legal.
use Rattle.std.proofs.Common.{◌≡◌, ℕ, Bool, true, false, List, [], ◌∷◌, map, refl, true≢false, arith}
use Rattle.commit_book.specs.declared.commit.Commit.{Commit}
use Rattle.commit_book.specs.declared.commit.Commit.TheVariants.{Append, Truncate, Clear, Fetch, UpgradeFetch, ReorgFetch}
use Rattle.commit_book.specs.declared.commit.Entry.{Entry}
use Rattle.commit_book.specs.History.{Summary, Limits, replay, IsInRange, IsLegal}
use Rattle.commit_book.specs.declared.laid.TheConstants.{MAX_PASSES}

-- the start of a core
abbrev empty : Summary
empty = record { fork = 0; length = 0; root = 0 ∷ []; held = λ index. false }

abbrev entry : Commit → ℕ → Entry
entry commit root = record { commit = commit; root = root ∷ [] }

-- the fork, the length, the root hash, and the first eight indices
abbrev shown : Summary → ℕ × ℕ × List ℕ × List Bool
shown s = (s.fork, s.length, s.root, map s.held (0 ∷ 1 ∷ 2 ∷ 3 ∷ 4 ∷ 5 ∷ 6 ∷ 7 ∷ []))

abbrev few : Limits
few = record { blocks = 8; fork = 3 }

-- eight blocks, of which the part 2..5 is given up, 3 comes back, the log is cut to 4, and is then another one
abbrev turns : List Entry
turns =
    entry (Append 8) 1 ∷ entry (Clear 2 5) 1 ∷ entry (Fetch 3) 1 ∷ entry (Truncate 4 1) 2
    ∷ entry (UpgradeFetch 6 4) 3 ∷ entry (ReorgFetch 2 7 2 5) 4 ∷ []

pub appended_cleared : shown (replay empty (entry (Append 8) 1 ∷ entry (Clear 2 5) 1 ∷ []))
    ≡ (0, 8, 1 ∷ [], true ∷ true ∷ false ∷ false ∷ false ∷ true ∷ true ∷ true ∷ [])
appended_cleared = refl

pub fetched_truncated : shown (replay empty (entry (Append 8) 1 ∷ entry (Clear 2 5) 1 ∷ entry (Fetch 3) 1 ∷ entry (Truncate 4 1) 2 ∷ []))
    ≡ (1, 4, 2 ∷ [], true ∷ true ∷ false ∷ true ∷ false ∷ false ∷ false ∷ false ∷ [])
fetched_truncated = refl

pub upgraded_fetched : shown (replay empty (entry (Append 4) 1 ∷ entry (UpgradeFetch 6 4) 2 ∷ []))
    ≡ (0, 6, 2 ∷ [], true ∷ true ∷ true ∷ true ∷ true ∷ false ∷ false ∷ false ∷ [])
upgraded_fetched = refl

pub reorganised_fetched : shown (replay empty (entry (Append 4) 1 ∷ entry (ReorgFetch 2 7 3 5) 4 ∷ []))
    ≡ (2, 7, 4 ∷ [], true ∷ true ∷ true ∷ false ∷ false ∷ true ∷ false ∷ false ∷ [])
reorganised_fetched = refl

pub turns_replayed : shown (replay empty turns)
    ≡ (2, 7, 4 ∷ [], true ∷ true ∷ false ∷ false ∷ false ∷ true ∷ false ∷ false ∷ [])
turns_replayed = refl

pub turns_legal : IsLegal few empty turns
turns_legal = search arith

-- a part in which nothing is held can't be given up again
pub nothing_cleared : IsInRange few (Clear 2 2) (replay empty (entry (Append 4) 1 ∷ [])) → ⊥
nothing_cleared c = omega (arith, c.2.1, c.2.2)

-- a commit that changes nothing isn't one: no block appended, a block fetched twice
pub none_appended : IsInRange few (Append 0) empty → ⊥
none_appended c = omega (arith, c.0)

pub twice_fetched : IsInRange few (Fetch 1) (replay empty (entry (Append 4) 1 ∷ [])) → ⊥
twice_fetched c = true≢false c.1

-- ---- limits

max_passes_is : MAX_PASSES ≡ 32
max_passes_is = refl
