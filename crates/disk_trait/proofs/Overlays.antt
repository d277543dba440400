-- Filling a file up and writing into it.
use Rattle.std.proofs.Common.{◌≡◌, ◌⊎◌, inl, inr, ℕ, ◌+◌, ◌-◌, ◌<◌, ◌≤◌, List, [], ◌∷◌, ◌++◌, length, take, drop, replicate, sym, ◌∙◌, ap, arith, length-append}
use Rattle.std.proofs.lemmas.List.{append-nil, take_all, drop_all, take-append-le, take-replicate, length-replicate}
use Rattle.std.proofs.Math.Seq.{take-append-add}
use Rattle.disk_trait.specs.Disk.{overlay}
use Rattle.disk_trait.specs.Contents.{filled, pasted}

le_cases : (m n : ℕ) → (m ≤ n) ⊎ (n ≤ m)
le_cases m n = search (arith)

take-filled : (at n : ℕ) (file : List ℕ) → at ≤ n → take at (filled n file) ≡ take at file ++ replicate (at - length file) 0
take-filled at n file le = elim (le_cases at (length file)) [
  | inl short ↦
      let none : at - length file ≡ 0 = omega arith in
      take-append-le at file (replicate (n - length file) 0) short
      ∙ sym (append-nil (take at file))
      ∙ ap (λ (k : ℕ). take at file ++ replicate k 0) (sym none)
  | inr long ↦
      let past : at ≡ length file + (at - length file) = omega arith in
      ap (λ (k : ℕ). take k (filled n file)) past
      ∙ take-append-add file (replicate (n - length file) 0) (at - length file)
      ∙ ap (λ (l : List ℕ). file ++ l) (take-replicate (at - length file) (n - length file) 0 (omega arith))
      ∙ ap (λ (l : List ℕ). l ++ replicate (at - length file) 0) (sym (take_all at file long))
]

drop-filled : (n : ℕ) (file : List ℕ) → drop n (filled n file) ≡ drop n file
drop-filled n file = elim (le_cases n (length file)) [
  | inl short ↦
      let none : n - length file ≡ 0 = omega arith in
      ap (λ (k : ℕ). drop n (file ++ replicate k 0)) none ∙ ap (λ (l : List ℕ). drop n l) (append-nil file)
  | inr long ↦
      drop_all n (filled n file) (omega (arith, length-append file (replicate (n - length file) 0), length-replicate {A = ℕ} (n - length file) 0))
      ∙ sym (drop_all n file long)
]

-- filling up and then writing is the write
pub written_file : (at : ℕ) (bytes old mid new : List ℕ) → 0 < length bytes → mid ≡ filled (at + length bytes) old → new ≡ pasted at bytes mid → new ≡ overlay at bytes old
written_file at [] old mid new some fills pastes = absurd (omega (arith, some))
written_file at (b ∷ bytes) old mid new some fills pastes =
    pastes
    ∙ ap (λ (l : List ℕ). pasted at (b ∷ bytes) l) fills
    ∙ ap (λ (l : List ℕ). l ++ (b ∷ bytes) ++ drop (at + length (b ∷ bytes)) (filled (at + length (b ∷ bytes)) old)) (take-filled at (at + length (b ∷ bytes)) old (omega arith))
    ∙ ap (λ (l : List ℕ). take at old ++ replicate (at - length old) 0 ++ (b ∷ bytes) ++ l) (drop-filled (at + length (b ∷ bytes)) old)
