-- How many places below a bound have their bit set.
use Rattle.std.proofs.Common.{◌≡◌, ℕ, zero, suc, ◌+◌, ◌-◌, ◌<◌, ◌≤◌, Bool, true, false, refl, sym, ◌∙◌, ap, subst, arith, add-zero, add-suc}
use Rattle.bit_field.specs.Places.{digit, count_below, AllHave}

pub count_below-suc : (bits : ℕ → Bool) (bound : ℕ) → count_below bits (suc bound) ≡ count_below bits bound + digit (bits bound)
unfolding count_below
count_below-suc bits bound = refl

digit_small : (bit : Bool) → digit bit ≤ 1
digit_small true = omega arith
digit_small false = omega arith

pub count_below-le : (bits : ℕ → Bool) (bound : ℕ) → count_below bits bound ≤ bound
unfolding count_below
count_below-le bits zero = omega arith
count_below-le bits (suc bound) = omega (arith, count_below-le bits bound, digit_small (bits bound))

-- the same bits below the bound
pub count_below-same : (f g : ℕ → Bool) (bound : ℕ) → ((place : ℕ) → place < bound → f place ≡ g place) → count_below f bound ≡ count_below g bound
unfolding count_below
count_below-same f g zero same = refl
count_below-same f g (suc bound) same =
    let rest = count_below-same f g bound (λ place lt. same place (omega arith)) in
    let here = ap (λ (bit : Bool). digit bit) (same bound (omega arith)) in
    omega arith

pub count_below-add : (bits : ℕ → Bool) (low high : ℕ) → count_below bits (low + high) ≡ count_below bits low + count_below (λ place. bits (low + place)) high
unfolding count_below
count_below-add bits low zero = ap (λ (n : ℕ). count_below bits n) (add-zero low) ∙ sym (add-zero (count_below bits low))
count_below-add bits low (suc high) =
    let rest = count_below-add bits low high in
    ap (λ (n : ℕ). count_below bits n) (add-suc low high) ∙ count_below-suc bits (low + high) ∙ omega arith

-- unset bits at the end add nothing
count_unset : (bits : ℕ → Bool) (low more : ℕ) → AllHave false low (low + more) bits → count_below bits (low + more) ≡ count_below bits low
unfolding count_below
count_unset bits low zero none = ap (λ (n : ℕ). count_below bits n) (add-zero low)
count_unset bits low (suc more) none =
    let rest = count_unset bits low more (λ place ge lt. none place ge (omega arith)) in
    let here = ap (λ (bit : Bool). digit bit) (none (low + more) (omega arith) (omega arith)) in
    ap (λ (n : ℕ). count_below bits n) (add-suc low more) ∙ count_below-suc bits (low + more) ∙ omega arith

pub count_below-unset : (bits : ℕ → Bool) (low high : ℕ) → low ≤ high → AllHave false low high bits → count_below bits high ≡ count_below bits low
count_below-unset bits low high le none =
    let end : low + (high - low) ≡ high = omega arith in
    subst (λ (n : ℕ). count_below bits n ≡ count_below bits low) end (count_unset bits low (high - low) (λ place ge lt. none place ge (omega arith)))
