-- Lists cut from flat bytes: one more at the end, the list at a place, and all of them joined.
use Rattle.std.proofs.Common.{◌≡◌, ℕ, zero, suc, ◌+◌, ◌-◌, ◌≤◌, ◌<◌, List, [], ◌∷◌, ◌++◌, length, take, drop, Some, refl, sym, ap, ◌∙◌, arith, length-append, length-drop, slice_get, slice_index, slice_range}
use Rattle.std.specs.List.{concat}
use Rattle.std.proofs.lemmas.List.{take-append-le, drop-append-le, take_all, drop_all}
use Rattle.std.proofs.lemmas.List.Folds.{drop_split}
use Rattle.std.proofs.Math.Seq.{drop-append_seam}
use Rattle.outside_traits.specs.Blobs.{cut_at, Rise, start_at}

pub Rise-within : (from total : ℕ) (ends : List ℕ) → Rise from ends total → from ≤ total
Rise-within from total [] rises = omega (arith, rises)
Rise-within from total (end ∷ ends) rises = omega (arith, rises.0, Rise-within end total ends rises.1)

pub length-cut_at : (bytes ends : List ℕ) (from : ℕ) → length (cut_at bytes from ends) ≡ length ends
length-cut_at bytes [] from = refl
length-cut_at bytes (end ∷ ends) from = ap suc (length-cut_at bytes ends end)

pub Rise-push : (from total more : ℕ) (ends : List ℕ) → Rise from ends total → Rise from (ends ++ (total + more) ∷ []) (total + more)
Rise-push from total more [] rises = (omega (arith, rises), refl)
Rise-push from total more (end ∷ ends) rises = (rises.0, Rise-push end total more ends rises.1)

-- more bytes behind leave a list that ends before them
slice_range-more : (bytes block : List ℕ) (from end : ℕ) → from ≤ end → end ≤ length bytes → slice_range (bytes ++ block) from end ≡ slice_range bytes from end
slice_range-more bytes block from end ordered within =
    ap (take (end - from)) (drop-append-le from bytes block (omega (arith, ordered, within)))
    ∙ take-append-le (end - from) (drop from bytes) block (omega (arith, length-drop from bytes, ordered, within))

pub cut_at-push : (bytes block ends : List ℕ) (from : ℕ) → Rise from ends (length bytes)
    → cut_at (bytes ++ block) from (ends ++ length (bytes ++ block) ∷ []) ≡ cut_at bytes from ends ++ block ∷ []
cut_at-push bytes block [] from rises =
    let rest : drop from (bytes ++ block) ≡ block = ap (λ n. drop n (bytes ++ block)) rises ∙ drop-append_seam bytes block in
    ap (λ l. l ∷ []) (ap (take (length (bytes ++ block) - from)) rest
    ∙ take_all (length (bytes ++ block) - from) block (omega (arith, rises, length-append bytes block)))
cut_at-push bytes block (end ∷ ends) from rises =
    ap (λ l. l ∷ cut_at (bytes ++ block) end (ends ++ length (bytes ++ block) ∷ []))
    (slice_range-more bytes block from end rises.0 (Rise-within end (length bytes) ends rises.1))
    ∙ ap (λ l. slice_range bytes from end ∷ l) (cut_at-push bytes block ends end rises.1)

pub concat-cut_at : (bytes ends : List ℕ) (from : ℕ) → Rise from ends (length bytes) → concat (cut_at bytes from ends) ≡ drop from bytes
concat-cut_at bytes [] from rises = sym (drop_all from bytes (omega (arith, rises)))
concat-cut_at bytes (end ∷ ends) from rises = ap (λ l. slice_range bytes from end ++ l) (concat-cut_at bytes ends end rises.1)
    ∙ sym (drop_split bytes from end rises.0)

-- the list at a place, where it begins and ends
pub record Cut (bytes ends : List ℕ) (from place : ℕ) : Type 0 where
  pub ordered : start_at from ends place ≤ slice_index ends place
  pub within : slice_index ends place ≤ length bytes
  pub found : slice_get (cut_at bytes from ends) place ≡ Some (slice_range bytes (start_at from ends place) (slice_index ends place))

pub cut_at-place : (bytes ends : List ℕ) (from place : ℕ) → Rise from ends (length bytes) → place < length ends → Cut bytes ends from place
cut_at-place bytes [] from place rises below = absurd (omega (arith, below))
cut_at-place bytes (end ∷ ends) from zero rises below = record { ordered = rises.0; within = Rise-within end (length bytes) ends rises.1; found = refl }
cut_at-place bytes (end ∷ ends) from (suc zero) rises below =
    let next = cut_at-place bytes ends end zero rises.1 (omega (arith, below)) in
    record { ordered = next.ordered; within = next.within; found = next.found }
cut_at-place bytes (end ∷ ends) from (suc (suc place)) rises below =
    let next = cut_at-place bytes ends end (suc place) rises.1 (omega (arith, below)) in
    record { ordered = next.ordered; within = next.within; found = next.found }

-- what a push leaves, over the two pieces of memory
pub record Pushed (bytes block ends next_bytes next_ends : List ℕ) : Type 0 where
  pub bytes_are : next_bytes ≡ bytes ++ block
  pub ends_are : next_ends ≡ ends ++ length next_bytes ∷ []

pub Rise-pushed : (bytes block ends next_bytes next_ends : List ℕ) → Pushed bytes block ends next_bytes next_ends
    → Rise 0 ends (length bytes) → Rise 0 next_ends (length next_bytes)
Rise-pushed bytes block ends next_bytes next_ends pushed rises =
    rw (pushed.ends_are, pushed.bytes_are, length-append bytes block) (Rise-push 0 (length bytes) (length block) ends rises)

pub cut_at-pushed : (bytes block ends next_bytes next_ends : List ℕ) → Pushed bytes block ends next_bytes next_ends
    → Rise 0 ends (length bytes) → cut_at next_bytes 0 next_ends ≡ cut_at bytes 0 ends ++ block ∷ []
cut_at-pushed bytes block ends next_bytes next_ends pushed rises = rw (pushed.ends_are, pushed.bytes_are) (cut_at-push bytes block ends 0 rises)
