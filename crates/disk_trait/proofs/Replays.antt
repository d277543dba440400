-- What is left of the rows of a journal, row by row.
use Rattle.std.proofs.Common.{◌≡◌, inl, inr, ℕ, zero, suc, ◌+◌, ◌-◌, ◌<◌, ◌≤◌, nat_lt, Bool, true, false, ◌&&◌, ◌||◌, List, [], ◌∷◌, ◌++◌, map, reverse, length, get_or, take, drop, refl, sym, ◌∙◌, ap, subst, arith}
use Rattle.std.proofs.lemmas.List.{reverse-append, map-append, get_or_default, reverse-reverse, take_more, drop_more, drop-drop}
use Rattle.std.proofs.lemmas.Bool.Decides.{nat_tests}
use Rattle.std.proofs.lemmas.List.Elements.{All-take}
use Rattle.disk_trait.specs.declared.disk.Area.{Area}
use Rattle.disk_trait.specs.declared.journal.Kind.{Kind}
use Rattle.disk_trait.specs.declared.journal.Kind.TheVariants.{Write, Cut, Sync}
use Rattle.disk_trait.specs.declared.journal.Row.{Row}
use Rattle.disk_trait.specs.Disk.{is_same}
use Rattle.disk_trait.specs.Contents.{Contents}
use Rattle.disk_trait.specs.History.{Step, until}
use Rattle.disk_trait.specs.Crash.{is_sync, is_synced_by, kept, replayed, left_after}
use Rattle.disk_trait.specs.Journal.{change_in, step_in, steps_in, is_sync_kind, is_sync_of, has_sync, HasBytes, RowsHaveBytes}
use Rattle.disk_trait.proofs.Histories.{until_all, until_earlier, before_or_after}

module _ (payload : List ℕ) (rows : List Row) (k : ℕ) (row : Row) (within : k < length rows) (is : get_or rows k row ≡ row) where
  newest : steps_in payload (take (k + 1) rows) ≡ step_in payload row ∷ steps_in payload (take k rows)
  newest =
      ap (λ (xs : List Row). reverse (map (step_in payload) xs)) (take_more rows k row within)
      ∙ ap (λ (x : Row). reverse (map (step_in payload) (take k rows ++ x ∷ []))) is
      ∙ ap (λ (steps : List Step). reverse steps) (map-append (step_in payload) (take k rows) (row ∷ []))
      ∙ reverse-append (map (step_in payload) (take k rows)) (step_in payload row ∷ [])

  pub until_later : (call : ℕ) → call ≤ row.call → until call (steps_in payload (take (k + 1) rows)) ≡ until call (steps_in payload (take k rows))
  until_later call le = ap (λ (xs : List Step). until call xs) newest ∙ until_earlier call (step_in payload row) (steps_in payload (take k rows)) le

  pub until_now : (call : ℕ) → row.call < call → until call (steps_in payload (take (k + 1) rows)) ≡ steps_in payload (take (k + 1) rows)
  until_now call lt = ap (λ (xs : List Step). until call xs) newest ∙ until_all call (step_in payload row ∷ steps_in payload (take k rows)) lt ∙ sym newest

module _ (area : Area) where
  or_false : (a b : Bool) → (a || b) ≡ false → b ≡ false
  or_false true b e = cc
  or_false false b e = e

  or_true : (a b : Bool) → a ≡ true → (a || b) ≡ true
  or_true true b e = refl
  or_true false b e = cc

  or_later : (a b : Bool) → b ≡ true → (a || b) ≡ true
  or_later true b e = refl
  or_later false b e = e

  none_behind : (rows : List Row) (k : ℕ) → has_sync area rows ≡ false → has_sync area (drop k rows) ≡ false
  none_behind rows zero none = none
  none_behind [] (suc k) none = refl
  none_behind (row ∷ rows) (suc k) none = none_behind rows k (or_false (is_sync_of area row) (has_sync area rows) none)

  pub no_sync_from : (rows : List Row) (n m : ℕ) → n ≤ m → has_sync area (drop n rows) ≡ false → has_sync area (drop m rows) ≡ false
  no_sync_from rows n m le none =
      let past : n + (m - n) ≡ m = omega arith in
      ap (λ (k : ℕ). has_sync area (drop k rows)) (sym past)
      ∙ ap (λ (xs : List Row). has_sync area xs) (sym (drop-drop (m - n) n rows))
      ∙ none_behind (drop n rows) (m - n) none

  pub sync_at : (rows : List Row) (i at : ℕ) (row : Row) → i ≤ at → at < length rows → get_or rows at row ≡ row → is_sync_of area row ≡ true → has_sync area (drop i rows) ≡ true
  sync_at [] i at row le within is hit = absurd (omega (arith, within))
  sync_at (x ∷ rows) zero zero row le within is hit = or_true (is_sync_of area x) (has_sync area rows) (ap (λ (r : Row). is_sync_of area r) is ∙ hit)
  sync_at (x ∷ rows) zero (suc at) row le within is hit = or_later (is_sync_of area x) (has_sync area rows) (sync_at rows zero at row (omega arith) (omega (arith, within)) is hit)
  sync_at (x ∷ rows) (suc i) zero row le within is hit = absurd (omega (arith, le))
  sync_at (x ∷ rows) (suc i) (suc at) row le within is hit = sync_at rows i at row (omega (arith, le)) (omega (arith, within)) is hit

  same_kind : (payload : List ℕ) (kind : Kind) → is_sync (change_in payload kind) ≡ is_sync_kind kind
  same_kind payload (Write at from len) = refl
  same_kind payload (Cut to) = refl
  same_kind payload Sync = refl

  pub synced_by_rows : (payload : List ℕ) (rows : List Row) → is_synced_by area (map (step_in payload) rows) ≡ has_sync area rows
  synced_by_rows payload [] = refl
  synced_by_rows payload (row ∷ rows) =
      ap (λ (b : Bool). is_same row.area area && b || is_synced_by area (map (step_in payload) rows)) (same_kind payload row.kind)
      ∙ ap (λ (b : Bool). is_sync_of area row || b) (synced_by_rows payload rows)

-- a loop over the rows goes on by one row
pub kept_more : (payload : List ℕ) (rows : List Row) (i : ℕ) (row : Row) (is_whole : Bool) (left left' : ℕ) (files files' : Contents)
    → i < length rows → get_or rows i row ≡ row → has_sync row.area (drop (i + 1) rows) ≡ is_whole
    → left' ≡ left_after is_whole left (step_in payload row) → files' ≡ replayed is_whole left (step_in payload row) files
    → kept left' (map (step_in payload) (drop (i + 1) rows)) files' ≡ kept left (map (step_in payload) (drop i rows)) files
kept_more payload rows i row is_whole left left' files files' within is whole left_is files_is =
    let rest = map (step_in payload) (drop (i + 1) rows) in
    let same : is_synced_by row.area rest ≡ is_whole = synced_by_rows row.area payload (drop (i + 1) rows) ∙ whole in
    ap (λ (n : ℕ). kept n rest files') left_is
    ∙ ap (λ (f : Contents). kept (left_after is_whole left (step_in payload row)) rest f) files_is
    ∙ ap (λ (b : Bool). kept (left_after b left (step_in payload row)) rest (replayed b left (step_in payload row) files)) (sym same)
    ∙ ap (λ (r : Row). kept left (step_in payload r ∷ rest) files) (sym is)
    ∙ ap (λ (xs : List Row). kept left (map (step_in payload) xs) files) (sym (drop_more rows i row within))

-- the oldest first again
pub reverse-steps_in : (payload : List ℕ) (rows : List Row) → reverse (steps_in payload rows) ≡ map (step_in payload) rows
reverse-steps_in payload rows = reverse-reverse (map (step_in payload) rows)

-- the last sync of an area: a row before it has a sync behind it, and none from there on
module _ (area : Area) (rows : List Row) (p : ℕ) (d : Row) (within : p < length rows) (hit : is_sync_of area (get_or rows p d) ≡ true) (last : has_sync area (drop (p + 1) rows) ≡ false) where
  pub last_is : (i : ℕ) → has_sync area (drop (i + 1) rows) ≡ nat_lt i p
  last_is i = elim (before_or_after p i) [
    | inl past ↦
        let none : has_sync area (drop (i + 1) rows) ≡ false = no_sync_from area rows (p + 1) (i + 1) (omega arith) last in
        none ∙ (grind (arith, nat_tests))
    | inr before ↦
        let some : has_sync area (drop (i + 1) rows) ≡ true = sync_at area rows (i + 1) p (get_or rows p d) (omega arith) within (get_or_default rows p (get_or rows p d) d within) hit in
        some ∙ (grind (arith, nat_tests))
  ]

pub none_is : (area : Area) (rows : List Row) (at : ℕ) → at ≡ 0 → has_sync area (drop at rows) ≡ false → (i : ℕ) → has_sync area (drop (i + 1) rows) ≡ nat_lt i 0
none_is area rows at start none i = no_sync_from area rows at (i + 1) (omega (arith, start)) none ∙ (grind (arith, nat_tests))

-- the rows that are replayed are the steps before the moment, the oldest first
module _ (payload payload' : List ℕ) (rows rows' rows'' : List Row) (n moment : ℕ) (steps : List Step) (same_payload : payload' ≡ payload) (same_rows : rows' ≡ rows) (same_rows' : rows'' ≡ rows) where
  pub rows_replayed : until moment (steps_in payload rows') ≡ steps_in payload (take n rows') → steps_in payload rows ≡ steps → map (step_in payload') (take n rows'') ≡ reverse (until moment steps)
  rows_replayed before all =
      ap (λ (p : List ℕ). map (step_in p) (take n rows'')) same_payload
      ∙ ap (λ (r : List Row). map (step_in payload) (take n r)) (same_rows' ∙ sym same_rows)
      ∙ sym (reverse-steps_in payload (take n rows'))
      ∙ ap (λ (xs : List Step). reverse xs) (sym before)
      ∙ ap (λ (r : List Row). reverse (until moment (steps_in payload r))) same_rows
      ∙ ap (λ (xs : List Step). reverse (until moment xs)) all

  pub rows_taken : RowsHaveBytes payload rows → RowsHaveBytes payload' (take n rows'')
  rows_taken has =
      subst (λ (p : List ℕ). RowsHaveBytes p (take n rows'')) (sym same_payload)
      (subst (λ (r : List Row). RowsHaveBytes payload (take n r)) (sym same_rows') (All-take (λ (row : Row). HasBytes payload row.kind) n rows has))
