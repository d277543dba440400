-- What a write and a cut make of a file, whole and in part.
use Rattle.std.proofs.Common.{◌≡◌, ℕ, ◌+◌, ◌-◌, ◌≤◌, List, [], ◌∷◌, ◌++◌, length, take, drop, replicate, refl, sym, ◌∙◌, ap, arith, length-append, length-drop, length-take, take-append-drop}
use Rattle.std.proofs.lemmas.List.{append-nil, take_all, take-append-le, take-take, length-replicate, take_min}
use Rattle.std.proofs.lemmas.Slice.{drop-append-drop}
use Rattle.disk_trait.specs.Disk.{overlay, Torn, Cut}

-- nothing happened
pub torn_none : (at n : ℕ) (old : List ℕ) → Torn at n old old
torn_none at n old = record { no_shorter = omega arith; no_longer = omega arith; front = λ i le within. refl; rest = refl }

pub cut_none : (to : ℕ) (old : List ℕ) → Cut to old old
cut_none to old = record { no_shorter = omega arith; front = sym (take_all (length old) old (omega arith)) }

module _ (at : ℕ) (part old : List ℕ) where
  length-front : length (take at old ++ replicate (at - length old) 0) ≡ at
  length-front = omega (arith, length-append (take at old) (replicate (at - length old) 0), length-take at old, length-replicate {A = ℕ} (at - length old) 0)

  length-written : length (take at old ++ replicate (at - length old) 0 ++ part) ≡ at + length part
  length-written = omega (arith, length-front, length-append (take at old ++ replicate (at - length old) 0) part)

  length-pasted : length (take at old ++ replicate (at - length old) 0 ++ part ++ drop (at + length part) old) ≡ at + length part + (length old - (at + length part))
  length-pasted = omega (arith, length-written, length-append (take at old ++ replicate (at - length old) 0 ++ part) (drop (at + length part) old), length-drop (at + length part) old)

  torn_some : (n : ℕ) → length part ≤ n → Torn at n old (take at old ++ replicate (at - length old) 0 ++ part ++ drop (at + length part) old)
  torn_some n le = record {
    no_shorter = omega (arith, length-pasted);
    no_longer = omega (arith, length-pasted);
    front = λ i before within.
        take-append-le i (take at old ++ replicate (at - length old) 0 ++ part) (drop (at + length part) old) (omega (arith, length-written))
        ∙ take-append-le i (take at old ++ replicate (at - length old) 0) part (omega (arith, length-front))
        ∙ take-append-le i (take at old) (replicate (at - length old) 0) (omega (arith, length-take at old))
        ∙ take-take i at old before;
    rest = drop-append-drop (at + length part) old (take at old ++ replicate (at - length old) 0 ++ part) (at + n) (omega arith) length-written;
  }

-- a front of the bytes, written whole, is one way in which a crash may cut the write short
pub torn_overlay : (at n : ℕ) (part old : List ℕ) → length part ≤ n → Torn at n old (overlay at part old)
torn_overlay at n [] old le = torn_none at n old
torn_overlay at n (b ∷ part) old le = torn_some at (b ∷ part) old n le

pub cut_whole : (to : ℕ) (old : List ℕ) → Cut to old (take to old)
cut_whole to old = record {
  no_shorter = omega (arith, length-take to old);
  front = sym (ap (λ (k : ℕ). take k old) (length-take to old) ∙ take_min to old);
}

-- a write that leaves no gap
pub overlay_within : (at : ℕ) (bytes old : List ℕ) → at ≤ length old → overlay at bytes old ≡ take at old ++ bytes ++ drop (at + length bytes) old
overlay_within at [] old le =
    let same : at ≡ at + length {A = ℕ} [] = omega arith in
    sym (take-append-drop at old)
    ∙ ap (λ (k : ℕ). take at old ++ drop k old) same
    ∙ ap (λ (front : List ℕ). front ++ drop (at + length {A = ℕ} []) old) (sym (append-nil (take at old)))
overlay_within at (b ∷ bytes) old le =
    let none : at - length old ≡ 0 = omega arith in
    ap (λ (n : ℕ). take at old ++ replicate n 0 ++ (b ∷ bytes) ++ drop (at + length (b ∷ bytes)) old) none
    ∙ ap (λ (front : List ℕ). front ++ (b ∷ bytes) ++ drop (at + length (b ∷ bytes)) old) (append-nil (take at old))
