-- What a later call over a view tells of an earlier moment, where the content stayed between.
use Rattle.std.proofs.Common.{◌≡◌, ℕ, Bool, IsTrue, sym, subst, ap, ◌∙◌, ◌+◌, List, [], ◌∷◌, ◌++◌, length, length-append, arith}
use Rattle.std.specs.List.{AllByRecursion}
use Rattle.node_set.specs.declared.fault.CoreFault.{CoreFault}
use Rattle.node_set.specs.Contents.{Content}
use Rattle.node_set.specs.Views.{ViewState, KeepsContent, TellsFault}
use Rattle.node_set.specs.Walks.{KeepsView}
use Rattle.node_set.proofs.CoverLemmas.{all-append}

-- a fact of the content, where the view stands
pub still : (old now : ViewState) → KeepsContent old now → (P : Content → Type 0) → (IsTrue now.stands → P now.content) → IsTrue old.stands → P old.content
still old now keeps P there stands = subst P keeps.content (there (subst IsTrue (sym keeps.stands) stands))

-- a fault
pub told_since : (old now new : ViewState) (fault : CoreFault) → KeepsView old now → TellsFault now new fault → TellsFault old new fault
told_since old now new fault kept told = record {
  answered = omega (arith, told.answered, kept.answered);
  last = told.last;
  cause = λ is. omega (arith, told.cause is, kept.faults);
  stands = λ stands. told.stands (subst IsTrue (sym kept.keeps.stands) stands);
  own = ap (λ (tells : CoreFault → Bool). tells fault) (sym kept.keeps.tells) ∙ told.own;
}

-- what holds of each holds of one more
pub all_more : {X : Type 0} (P : X → Type 0) (xs more : List X) (x : X) → more ≡ xs ++ x ∷ [] → AllByRecursion P xs → P x → AllByRecursion P more
all_more P xs more x pushed all here = subst (AllByRecursion P) (sym pushed) (all-append P xs (x ∷ []) all (here, tt))

pub count_more : {X : Type 0} (count : ℕ) (xs more : List X) (x : X) → more ≡ xs ++ x ∷ [] → length xs ≡ count → length more ≡ count + 1
count_more count xs more x pushed is = ap length pushed ∙ length-append xs (x ∷ []) ∙ ap (λ (n : ℕ). n + 1) is
