-- The rows of a journal as steps, when one more comes.
use Rattle.std.proofs.Common.{◌≡◌, ℕ, ◌+◌, ◌^◌, ◌<◌, ◌≤◌, List, [], ◌∷◌, ◌++◌, map, reverse, length, get_or, take, drop, refl, sym, ◌∙◌, ap, subst, arith, length-append, length-drop}
use Rattle.std.specs.List.{AllByRecursion}
use Rattle.std.proofs.lemmas.List.Elements.{All-push, recursion_from_All}
use Rattle.std.proofs.lemmas.List.{reverse-append, map-append, take-append-le, drop-append-le, drop_at, take_all}
use Rattle.disk_trait.specs.declared.disk.Area.{Area}
use Rattle.disk_trait.specs.declared.journal.Kind.{Kind}
use Rattle.disk_trait.specs.declared.journal.Kind.TheVariants.{Write, Cut, Sync}
use Rattle.disk_trait.specs.declared.journal.Row.{Row}
use Rattle.disk_trait.specs.History.{Change, wrote, Step}
use Rattle.disk_trait.specs.Journal.{change_in, step_in, steps_in, HasBytes, RowsHaveBytes}

module _ (payload more : List ℕ) where
  change-more : (kind : Kind) → HasBytes payload kind → change_in (payload ++ more) kind ≡ change_in payload kind
  change-more (Write at from len) has =
      ap (λ (bytes : List ℕ). wrote at bytes)
      (ap (λ (bytes : List ℕ). take len bytes) (drop-append-le from payload more (omega (arith, has.0)))
      ∙ take-append-le len (drop from payload) more (omega (arith, has.0, length-drop from payload)))
  change-more (Cut to) has = refl
  change-more Sync has = refl

  has-more : (kind : Kind) → HasBytes payload kind → HasBytes (payload ++ more) kind
  has-more (Write at from len) has = (omega (arith, has.0, length-append payload more), has.1)
  has-more (Cut to) has = has
  has-more Sync has = has

  -- more bytes change no step
  steps-more : (rows : List Row) → AllByRecursion (λ row. HasBytes payload row.kind) rows → map (step_in (payload ++ more)) rows ≡ map (step_in payload) rows
  steps-more [] has = refl
  steps-more (row ∷ rows) has =
      ap (λ (change : Change). record { call = row.call; area = row.area; change = change } ∷ map (step_in (payload ++ more)) rows) (change-more row.kind has.0)
      ∙ ap (λ (steps : List Step). step_in payload row ∷ steps) (steps-more rows has.1)

  pub rows_written : (rows : List Row) (row : Row) → RowsHaveBytes payload rows → HasBytes (payload ++ more) row.kind → RowsHaveBytes (payload ++ more) (rows ++ row ∷ [])
  rows_written rows row has here = All-push (λ (row : Row). HasBytes (payload ++ more) row.kind) rows row (λ k d lt. has-more (get_or rows k d).kind (has k d lt)) here

  -- a row for a write of the bytes that were added
  pub steps_written : (rows : List Row) (call at : ℕ) (area : Area) → RowsHaveBytes payload rows
      → steps_in (payload ++ more) (rows ++ record { call = call; area = area; kind = Write at (length payload) (length more) } ∷ []) ≡ record { call = call; area = area; change = wrote at more } ∷ steps_in payload rows
  steps_written rows call at area has =
      let row : Row = record { call = call; area = area; kind = Write at (length payload) (length more) } in
      ap (λ (steps : List Step). reverse steps) (map-append (step_in (payload ++ more)) rows (row ∷ []))
      ∙ reverse-append (map (step_in (payload ++ more)) rows) (step_in (payload ++ more) row ∷ [])
      ∙ ap (λ (bytes : List ℕ). record { call = call; area = area; change = wrote at bytes } ∷ reverse (map (step_in (payload ++ more)) rows))
      (ap (λ (bytes : List ℕ). take (length more) bytes) (drop_at payload more (length payload) refl) ∙ take_all (length more) more (omega arith))
      ∙ ap (λ (steps : List Step). record { call = call; area = area; change = wrote at more } ∷ reverse steps) (steps-more rows (recursion_from_All (λ (row : Row). HasBytes payload row.kind) rows has))

-- the same, over what the lists have become
module _ (payload payload' bytes : List ℕ) (rows rows' : List Row) (call at from : ℕ) (area : Area)
    (has : RowsHaveBytes payload rows) (payload_is : payload' ≡ payload ++ bytes) (from_is : from ≡ length payload)
    (rows_is : rows' ≡ rows ++ record { call = call; area = area; kind = Write at from (length bytes) } ∷ []) where
  pub written_steps : steps_in payload' rows' ≡ record { call = call; area = area; change = wrote at bytes } ∷ steps_in payload rows
  written_steps =
      ap (λ (p : List ℕ). steps_in p rows') payload_is
      ∙ ap (λ (r : List Row). steps_in (payload ++ bytes) r) rows_is
      ∙ ap (λ (n : ℕ). steps_in (payload ++ bytes) (rows ++ record { call = call; area = area; kind = Write at n (length bytes) } ∷ [])) from_is
      ∙ steps_written payload bytes rows call at area has

  pub written_rows : at + length bytes < 2 ^ 64 → RowsHaveBytes payload' rows'
  written_rows end =
      let row : Row = record { call = call; area = area; kind = Write at from (length bytes) } in
      let here : (from + length bytes ≤ length (payload ++ bytes)) × (at + length bytes < 2 ^ 64) = (omega (arith, from_is, length-append payload bytes), end) in
      subst (λ (p : List ℕ). RowsHaveBytes p rows') (sym payload_is) (subst (λ (r : List Row). RowsHaveBytes (payload ++ bytes) r) (sym rows_is) (rows_written payload bytes rows row has here))
