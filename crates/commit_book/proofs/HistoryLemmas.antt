-- Laws of replays and of legal lists.
use Rattle.std.proofs.Common.{◌≡◌, List, [], ◌∷◌, ◌++◌, refl, sym, subst}
use Rattle.commit_book.specs.declared.commit.Entry.{Entry}
use Rattle.commit_book.specs.Prefix.{IsPrefix}
use Rattle.commit_book.specs.History.{Summary, Limits, after, replay, MayFollow, IsLegal}

-- a replay goes on where it stopped
pub replay-append : (s : Summary) (xs ys : List Entry) → replay s (xs ++ ys) ≡ replay (replay s xs) ys
replay-append s [] ys = refl
replay-append s (x ∷ xs) ys = replay-append (after s x) xs ys

module _ (limits : Limits) where
  -- a legal list goes on by what is legal after it
  pub IsLegal-append : (s : Summary) (xs ys : List Entry) → IsLegal limits s xs → IsLegal limits (replay s xs) ys → IsLegal limits s (xs ++ ys)
  IsLegal-append s [] ys p q = q
  IsLegal-append s (x ∷ xs) ys p q = (p.0, IsLegal-append (after s x) xs ys p.1 q)

  -- one more entry
  pub IsLegal-push : (s : Summary) (es : List Entry) (e : Entry) → IsLegal limits s es → MayFollow limits (replay s es) e → IsLegal limits s (es ++ e ∷ [])
  IsLegal-push s es e p q = IsLegal-append s es (e ∷ []) p (q, tt)
