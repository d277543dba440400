-- The content with an upgrade in is sound.
use Rattle.std.proofs.Common.{◌≡◌, ℕ, ◌+◌, ◌≤◌, inl, inr, length, refl, sym, ap, subst, ◌∙◌, arith}
use Rattle.std.specs.List.{AllByRecursion}
use Rattle.std.proofs.lemmas.Bool.{cases_lt, lt-ltb, le-ltb}
use Rattle.flat_tree.specs.Covers.{cover_of}
use Rattle.flat_tree.specs.declared.limits.TheConstants.{MAX_CORE_BYTES}
use Rattle.flat_tree.proofs.CoverLemmas.{cover-full}
use Rattle.merkle_nodes.specs.Bundle.{TwigFits}
use Rattle.node_set.specs.Contents.{Content, roots, bytes_under}
use Rattle.node_set.specs.Whole.{IsSound}
use Rattle.node_set.proofs.UpgradeLemmas.{upgrade_sound}
use Rattle.proof_form.specs.declared.proof.UpgradePart.{UpgradePart}
use Rattle.proof_check.specs.Upgraded.{new_roots, upgraded_by}
use Rattle.judge_laws.proofs.KeptRoots.{new_roots-are}
use Rattle.judge_laws.proofs.Reorganised.{reorganise_sound}
use Rattle.root_stack.specs.Stack.{twig_bytes}
use Rattle.proof_judge.specs.Laying.{IsDue}

pub upgraded_sound : (fork : ℕ) (u : UpgradePart) (m : Content) → IsDue fork u m → IsSound m → IsSound (upgraded_by fork u m)
upgraded_sound fork u m due sound = elim (cases_lt m.fork fork) [
  | inl greater ↦
      let start : u.start ≡ 0 = due.start ∙ rw (lt-ltb m.fork fork greater) refl in
      let count : length u.nodes ≡ length (cover_of 0 u.length) = due.fits.nodes.count ∙ ap (λ (n : ℕ). length (cover_of n u.length)) start in
      let came = new_roots-are u count in
      rw (lt-ltb m.fork fork greater)
      (reorganise_sound m u.length (new_roots u) sound (ap length came ∙ count ∙ ap length (cover-full u.length)) (subst (AllByRecursion TwigFits) (sym came) due.fits.nodes.twigs)
      fork u.signature)
  | inr own ↦
      let start : u.start ≡ m.length = due.start ∙ rw (le-ltb m.fork fork own) refl in
      let bytes : bytes_under (roots m) + twig_bytes u.nodes ≤ MAX_CORE_BYTES = rw (le-ltb m.fork fork own) at due.bytes in
      rw (le-ltb m.fork fork own)
      (upgrade_sound m u.length u.nodes u.signature sound (record {
        longer = omega (arith, start, due.fits.ordered);
        blocks = due.blocks;
        count = due.fits.nodes.count ∙ ap (λ (n : ℕ). length (cover_of n u.length)) start;
        parts_fit = due.fits.nodes.twigs;
        bytes = bytes;
      }))
]
