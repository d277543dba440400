-- Reading and writing twigs one after the other, as a loop does.
use Rattle.std.proofs.Common.{◌≡◌, ℕ, suc, ◌-◌, ◌+◌, ◌≤◌, ◌<◌, List, [], ◌∷◌, ◌++◌, length, get_or, take, drop, Ok, Err, refl, sym, ap, ◌∙◌, append_assoc, arith, subst, add-one, drop-cons}
use Rattle.std.proofs.lemmas.List.{append-nil, take-append-drop}
use Rattle.std.proofs.lemmas.List.Concat.{flat_map-cons}
use Rattle.std.proofs.lemmas.Grind.{flat_map-append}
use Rattle.std.specs.List.{flat_map}
use Rattle.merkle_nodes.specs.declared.node.Twig.{Twig}
use Rattle.compact_enc.specs.Reading.{◌>>=◌}
use Rattle.compact_enc.specs.Input.{Input}
use Rattle.proof_form.specs.declared.form.BadForm.{BadForm}
use Rattle.proof_form.specs.Form.{Read}
use Rattle.proof_form.specs.Twigs.{twig_in, twigs_in}

-- what was read before, and what is still read
abbrev pub with_front : List Twig → Read (List Twig) → Read (List Twig)
with_front front read = read >>= λ x. Ok (front ++ x.0, x.1)

regroup : (front : List Twig) (twig : Twig) (read : Read (List Twig)) → with_front front (read >>= λ x. Ok (twig ∷ x.0, x.1)) ≡ with_front (front ++ twig ∷ []) read
regroup front twig (Ok x) = ap (λ (twigs : List Twig). Ok (twigs, x.1)) (simp append_assoc)
regroup front twig (Err bad) = refl

pub twigs_go_on : (front : List Twig) (count i : ℕ) (input : Input) (twig : Twig) (after : Input) (total : Read (List Twig))
    → i < count → twig_in input ≡ Ok (twig, after) → with_front front (twigs_in (count - i) input) ≡ total
    → with_front (front ++ twig ∷ []) (twigs_in (count - (i + 1)) after) ≡ total
unfolding twigs_in
twigs_go_on front count i input twig after total more read so_far =
    let k : count - i ≡ suc (count - (i + 1)) = omega arith in
    let one : with_front front (twigs_in (count - i) input) ≡ with_front (front ++ twig ∷ []) (twigs_in (count - (i + 1)) after) = rw (k, read) (regroup front twig (twigs_in (count - (i + 1)) after)) in
    sym one ∙ so_far

pub twigs_fail : (front : List Twig) (count i : ℕ) (input : Input) (bad : BadForm) (total : Read (List Twig))
    → i < count → twig_in input ≡ Err bad → with_front front (twigs_in (count - i) input) ≡ total → total ≡ Err bad
unfolding twigs_in
twigs_fail front count i input bad total more read so_far =
    let k : count - i ≡ suc (count - (i + 1)) = omega arith in
    let one : with_front front (twigs_in (count - i) input) ≡ Err bad = rw (k, read) refl in
    sym so_far ∙ one

pub twigs_done : (front : List Twig) (count i : ℕ) (input : Input) (total : Read (List Twig))
    → count ≤ i → with_front front (twigs_in (count - i) input) ≡ total → total ≡ Ok (front, input)
unfolding twigs_in
twigs_done front count i input total end so_far =
    let k : count - i ≡ 0 = omega arith in
    sym (subst (λ n. with_front front (twigs_in n input) ≡ total) k so_far) ∙ ap (λ (twigs : List Twig). Ok (twigs, input)) (append-nil front)

-- ---- the twigs before one, itself, and those behind it

pub flat_map-split : (f : Twig → List ℕ) (twigs : List Twig) (i : ℕ) (d : Twig) → i < length twigs
    → flat_map f twigs ≡ flat_map f (take i twigs) ++ (f (get_or twigs i d) ++ flat_map f (drop (i + 1) twigs))
flat_map-split f twigs i d more =
    let next : drop i twigs ≡ get_or twigs i d ∷ drop (i + 1) twigs = drop-cons twigs i d more ∙ ap (λ j. get_or twigs i d ∷ drop j twigs) (sym (add-one i)) in
    ap (flat_map f) (sym (take-append-drop i twigs))
    ∙ flat_map-append f (take i twigs) (drop i twigs)
    ∙ ap (λ l. flat_map f (take i twigs) ++ flat_map f l) next
    ∙ ap (λ l. flat_map f (take i twigs) ++ l) (flat_map-cons f (get_or twigs i d) (drop (i + 1) twigs))
