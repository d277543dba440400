-- What clauses see of a book, a pass and a laid table.
use Rattle.std.specs.Prelude.{ℕ, ◌<◌, ◌≤◌, List, [], ◌∷◌, ◌++◌, length, sum_by}
use Rattle.atomic_table.specs.Seated.{TableId}
use Rattle.commit_book.specs.declared.commit.Commit.{Commit}
use Rattle.commit_book.specs.declared.commit.Entry.{Entry}
use Rattle.commit_book.specs.Prefix.{IsPrefix}

-- the entry of a commit and of the root hash after it
abbrev pub entry_of : Commit → List ℕ → Entry
entry_of commit root = record { commit = commit; root = root }

-- which book it is
abbrev pub BookName : Type 0
BookName = TableId

-- the whole history, how many marks were made, and how many passes the book has
pub record BookState : Type 0 where
  pub entries : List Entry
  pub marks : ℕ
  pub passes : ℕ

-- the beginning of the history that the pass has seen, the entries that it made, how often it was marked, and the
-- last count of the history that it was told
pub record PassState : Type 0 where
  pub seen : List Entry
  pub made : List Entry
  pub marks : ℕ
  pub news : ℕ

-- the name of the book to be, the names of its two ledgers, and how many passes it is to have
pub record LaidState : Type 0 where
  pub book : BookName
  pub commits : ℕ
  pub marks : ℕ
  pub passes : ℕ

-- a book at its start
abbrev pub new_book : ℕ → BookState
new_book passes = record { entries = []; marks = 0; passes = passes }

-- the book with one entry more
abbrev pub with_entry : Entry → BookState → BookState
with_entry e book = record book { entries = book.entries ++ e ∷ [] }

-- a pass that has seen nothing
abbrev pub new_pass : PassState
new_pass = record { seen = []; made = []; marks = 0; news = 0 }

-- no book's name
abbrev pub no_book : BookName
no_book = record { words = 0; slots = 0; views_name = 0; atom = 0; block = 0; offset = 0; slot_names = [] }

-- how many entries these passes made
abbrev pub made_of : List PassState → ℕ
made_of passes = sum_by (λ p. length p.made) passes

-- how often these passes were marked
abbrev pub marks_of : List PassState → ℕ
marks_of passes = sum_by (λ p. p.marks) passes

-- what the pass has seen begins this history, which is no shorter than the pass was told
abbrev pub HasSeen : List Entry → PassState → Type 0
HasSeen history pass = IsPrefix pass.seen history × (pass.news ≤ length history)

-- the pass was marked
abbrev pub IsMarked : PassState → Type 0
IsMarked pass = 0 < pass.marks
