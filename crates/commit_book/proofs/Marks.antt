-- Marks of several passes.
use Rattle.std.proofs.Common.{◌≡◌, ℕ, zero, suc, ◌<◌, ◌≤◌, List, [], ◌∷◌, get_or, refl, sym, subst, arith, Any}
use mathlib.Core.Logic.{◌↔◌}
use Rattle.std.proofs.lemmas.List.Sums.{get_or-le-sum_by, sum_by-cons}
use Rattle.commit_book.specs.States.{PassState, marks_of, IsMarked}

some_marked : (ps : List PassState) → 0 < marks_of ps → Any IsMarked ps
some_marked [] h = absurd (omega arith)
some_marked (p ∷ ps) h = at p.marks refl (some_marked ps)
  where
    at : (n : ℕ) → p.marks ≡ n → (0 < marks_of ps → Any IsMarked ps) → Any IsMarked (p ∷ ps)
    at zero e rest = let r = rest (omega (arith, sum_by-cons (λ (q : PassState). q.marks) p ps)) in (suc r.0, r.1, omega arith, r.3, r.4)
    at (suc n) e rest = (0, p, omega arith, refl, omega arith)

-- there are marks exactly where a pass was marked
pub marked : (ps : List PassState) → (0 < marks_of ps) ↔ Any IsMarked ps
marked ps = (
  some_marked ps,
  λ a. let m : (get_or ps a.0 a.1).marks ≤ marks_of ps = get_or-le-sum_by (λ (q : PassState). q.marks) ps a.0 a.1 a.2 in
      let n : 0 < (get_or ps a.0 a.1).marks = subst IsMarked (sym a.3) a.4 in omega arith,
)
