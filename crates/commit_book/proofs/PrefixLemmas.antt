-- Laws of beginnings of lists.
use Rattle.std.proofs.Common.{◌≡◌, ◌+◌, ◌≤◌, List, [], ◌∷◌, ◌++◌, length, refl, sym, ap, ◌∙◌, arith, length-append, append_assoc, append-nil}
use Rattle.commit_book.specs.Prefix.{IsPrefix}

module _ {A : Type 0} where
  -- nothing begins every list
  pub IsPrefix-nil : (xs : List A) → IsPrefix [] xs
  IsPrefix-nil xs = record { rest = xs; whole = refl }

  pub IsPrefix-refl : (xs : List A) → IsPrefix xs xs
  IsPrefix-refl xs = record { rest = []; whole = append-nil xs }

  pub IsPrefix-trans : (xs ys zs : List A) → IsPrefix xs ys → IsPrefix ys zs → IsPrefix xs zs
  IsPrefix-trans xs ys zs p q =
      record { rest = p.rest ++ q.rest; whole = sym (append_assoc xs p.rest q.rest) ∙ ap (λ (s : List A). s ++ q.rest) p.whole ∙ q.whole }

  pub IsPrefix-push : (xs ys : List A) (y : A) → IsPrefix xs ys → IsPrefix xs (ys ++ y ∷ [])
  IsPrefix-push xs ys y p = IsPrefix-trans xs ys (ys ++ y ∷ []) p (record { rest = y ∷ []; whole = refl })

  pub length-IsPrefix : (xs ys : List A) → IsPrefix xs ys → length xs ≤ length ys
  length-IsPrefix xs ys p = let n : length xs + length p.rest ≡ length ys = sym (length-append xs p.rest) ∙ ap length p.whole in omega arith
