-- Twigs: what is read is spelled so, and what is spelled so is read, whatever follows.
use Rattle.std.proofs.Common.{◌≡◌, ℕ, zero, suc, true, cond, eqb, List, [], ◌∷◌, ◌++◌, length, Err, refl, sym, ap, subst, ◌∙◌, arith}
use Rattle.std.specs.Prelude.{IfOk}
use Rattle.std.specs.List.{flat_map, AllByRecursion}
use Rattle.std.proofs.lemmas.Bool.{eqb-true, eq-eqb}
use Rattle.std.proofs.lemmas.List.Concat.{flat_map-cons}
use Rattle.flat_tree.specs.Covers.{cover_of}
use Rattle.flat_tree.specs.declared.limits.TheConstants.{MAX_CORE_BYTES, MAX_SIBLINGS, MAX_UPGRADE_NODES}
use Rattle.merkle_nodes.specs.declared.node.Twig.{Twig}
use Rattle.merkle_nodes.specs.Bundle.{TwigFits}
use Rattle.compact_enc.specs.Spelling.{uint_spelling}
use Rattle.compact_enc.specs.Reading.{IsBytes}
use Rattle.compact_enc.specs.Input.{Input}
use Rattle.compact_enc.proofs.Steps.{if_read, if_more, if_kept}
use Rattle.compact_enc.proofs.Inputs.{Passed, Passed-then, ReadsBack, again_then, again_last, again_nothing}
use Rattle.proof_form.specs.declared.form.BadForm.{BadForm}
use Rattle.proof_form.specs.declared.form.Bad.TheVariants.{Count}
use Rattle.proof_form.specs.Form.{number_of, fixed_in}
use Rattle.proof_form.specs.Twigs.{twig_spelling, twigs_spelling, TrailFits, CoverFits, twig_in, twigs_in, trail_in, cover_in}
use Rattle.proof_form.proofs.FieldLaws.{number_passes, fixed_in_passes, nothing_passes, number_again, fixed_in_again}

-- ---- what is read is spelled so

pub twig_passes : (input : Input) → IsBytes input.rest → IfOk (twig_in input) (λ x. Passed input (twig_spelling x.0) x.1 × TwigFits x.0)
unfolding twig_in
twig_passes input fits =
    if_read (number_of MAX_CORE_BYTES input) _ _ _ (number_passes MAX_CORE_BYTES input fits) (λ size s.
    if_read (fixed_in 32 size.1) _ _ _ (fixed_in_passes 32 size.1 s.0.fits) (λ hash h.
    (Passed-then input size.1 hash.1 (uint_spelling size.0) hash.0 s.0 h.0, record { size = s.1; hash = h.1 })))

twigs_pass : (count : ℕ) (input : Input) → IsBytes input.rest
    → IfOk (twigs_in count input) (λ x. Passed input (flat_map twig_spelling x.0) x.1 × (length x.0 ≡ count) × AllByRecursion TwigFits x.0)
unfolding twigs_in
twigs_pass zero input fits = (nothing_passes input fits, refl, tt)
twigs_pass (suc count) input fits =
    if_read (twig_in input) _ _ _ (twig_passes input fits) (λ twig t.
    if_read (twigs_in count twig.1) _ _ _ (twigs_pass count twig.1 t.0.fits) (λ others o. (
      rw flat_map-cons (Passed-then input twig.1 others.1 (twig_spelling twig.0) (flat_map twig_spelling others.0) t.0 o.0),
      ap suc o.1,
      (t.1, o.2),
    )))

-- the same behind their number
counted_pass : (count : ℕ) (input after : Input) → Passed input (uint_spelling count) after
    → IfOk (twigs_in count after) (λ x. Passed input (twigs_spelling x.0) x.1 × (length x.0 ≡ count) × AllByRecursion TwigFits x.0)
counted_pass count input after c =
    if_more (twigs_in count after) (λ x. Passed after (flat_map twig_spelling x.0) x.1 × (length x.0 ≡ count) × AllByRecursion TwigFits x.0) _ (twigs_pass count after c.fits) (λ x t.
    (subst (λ n. Passed input (uint_spelling n ++ flat_map twig_spelling x.0) x.1) (sym t.1) (Passed-then input after x.1 (uint_spelling count) (flat_map twig_spelling x.0) c t.0), t.1, t.2))

pub trail_passes : (input : Input) → IsBytes input.rest → IfOk (trail_in input) (λ x. Passed input (twigs_spelling x.0) x.1 × TrailFits x.0)
unfolding trail_in
trail_passes input fits =
    if_read (number_of MAX_SIBLINGS input) _ _ _ (number_passes MAX_SIBLINGS input fits) (λ count c.
    if_more (twigs_in count.0 count.1) _ _ (counted_pass count.0 input count.1 c.0) (λ x t. (t.0, record { few = omega (arith, t.1, c.1); twigs = t.2 })))

pub cover_passes : (start end : ℕ) (input : Input) → IsBytes input.rest → IfOk (cover_in start end input) (λ x. Passed input (twigs_spelling x.0) x.1 × CoverFits start end x.0)
unfolding cover_in
cover_passes start end input fits =
    if_read (number_of MAX_UPGRADE_NODES input) _ _ _ (number_passes MAX_UPGRADE_NODES input fits) (λ count c.
    if_kept (eqb count.0 (length (cover_of start end))) (twigs_in count.0 count.1) _ _ (λ same.
    if_more (twigs_in count.0 count.1) _ _ (counted_pass count.0 input count.1 c.0) (λ x t.
    (t.0, record { count = t.1 ∙ eqb-true _ _ same; few = omega (arith, t.1, c.1); twigs = t.2 }))))

-- ---- what is spelled so is read

pub twig_again : (twig : Twig) → TwigFits twig → ReadsBack twig_in twig (twig_spelling twig)
unfolding twig_in
twig_again twig fits =
    again_then (number_of MAX_CORE_BYTES) _ twig.size twig (uint_spelling twig.size) twig.hash (number_again MAX_CORE_BYTES twig.size fits.size (omega (arith, fits.size)))
    (again_last (fixed_in 32) (λ hash. record { size = twig.size; hash = hash }) twig.hash twig.hash (fixed_in_again 32 twig.hash fits.hash))

twigs_again : (twigs : List Twig) → AllByRecursion TwigFits twigs → ReadsBack (twigs_in (length twigs)) twigs (flat_map twig_spelling twigs)
unfolding twigs_in
twigs_again [] fits = again_nothing []
twigs_again (twig ∷ twigs) fits =
    subst (ReadsBack (twigs_in (suc (length twigs))) (twig ∷ twigs)) (sym (flat_map-cons twig_spelling twig twigs))
    (again_then twig_in _ twig (twig ∷ twigs) (twig_spelling twig) (flat_map twig_spelling twigs) (twig_again twig fits.0)
    (again_last (twigs_in (length twigs)) (λ others. twig ∷ others) twigs (flat_map twig_spelling twigs) (twigs_again twigs fits.1)))

pub trail_again : (trail : List Twig) → TrailFits trail → ReadsBack trail_in trail (twigs_spelling trail)
unfolding trail_in
trail_again trail fits =
    again_then (number_of MAX_SIBLINGS) _ (length trail) trail (uint_spelling (length trail)) (flat_map twig_spelling trail) (number_again MAX_SIBLINGS (length trail) fits.few (omega (arith, fits.few)))
    (twigs_again trail fits.twigs)

-- one text behind the other, where what the first tells decides
pub cover_again : (start end : ℕ) (twigs : List Twig) → CoverFits start end twigs → ReadsBack (cover_in start end) twigs (twigs_spelling twigs)
unfolding cover_in
cover_again start end twigs fits input more is =
    let same : eqb (length twigs) (length (cover_of start end)) ≡ true = eq-eqb _ _ fits.count in
    let bad : BadForm = record { at = input.place; why = Count } in
    again_then (number_of MAX_UPGRADE_NODES) (λ count. cond (eqb count.0 (length (cover_of start end))) (twigs_in count.0 count.1) (Err bad)) (length twigs) twigs (uint_spelling (length twigs)) (flat_map twig_spelling twigs)
    (number_again MAX_UPGRADE_NODES (length twigs) fits.few (omega (arith, fits.few)))
    (λ after others same_rest. ap (λ b. cond b (twigs_in (length twigs) after) (Err bad)) same ∙ twigs_again twigs fits.twigs after others same_rest)
    input more is
