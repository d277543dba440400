-- The check of a bundle that is proved under an accepted head can only open it.
use Rattle.std.proofs.Common.{◌≡◌, ℕ, Bool, List, Result, Ok, Err, refl, sym, ap, subst, ◌∙◌}
use Rattle.std.specs.Result.{IsOkAnd}
use Rattle.merkle_nodes.specs.declared.node.Node.{Node}
use Rattle.merkle_nodes.specs.declared.check.Opened.{Opened}
use Rattle.merkle_nodes.specs.declared.check.BundleFault.{BundleFault}
use Rattle.merkle_nodes.specs.declared.check.BundleFault.TheVariants.{BadForm, NotProved, BadSignature}
use Rattle.merkle_nodes.specs.Roots.{twig_of}
use Rattle.merkle_nodes.specs.Bundle.{Bundle, spelling, Fits, Spells}
use Rattle.merkle_nodes.specs.Reading.{bundle_of}
use Rattle.merkle_nodes.specs.Check.{BlockProved, HeadAccepted, Opens, Differs, Checks}
use Rattle.merkle_nodes.proofs.Again.{bundle_again}

-- a bundle's bytes are no other bundle's
pub only_bundle : (b c : Bundle) → Fits b → Spells c (spelling b) → b ≡ c
only_bundle b c fits spelled =
    let one : bundle_of (spelling b) ≡ Ok b = bundle_again b fits in
    let other : bundle_of (spelling b) ≡ Ok c = ap bundle_of spelled.1 ∙ bundle_again c spelled.0 in
    cc

-- the node over a block that is proved is what it folds to
not_differs : (b : Bundle) (index : ℕ) (want have : Node) → BlockProved b → Differs b index want have → ⊥
not_differs b index want have proved differs =
    let same : proved.root ≡ want = let over = proved.over in let is = differs.want_is in cc in
    differs.differs (ap twig_of differs.have_is ∙ proved.folds ∙ ap twig_of same)

pub accepted_opens : (accepts : List ℕ → List ℕ → Bool) (b : Bundle) → Fits b → BlockProved b → HeadAccepted accepts b
    → (answer : Result Opened BundleFault) → Checks accepts (spelling b) answer → IsOkAnd answer (λ opened. Opens b (spelling b) opened)
accepted_opens accepts b fits proved accepted (Ok opened) (c, spells, its_block, its_head, opens) =
    subst (λ (x : Bundle). Opens x (spelling b) opened) (sym (only_bundle b c fits spells)) opens
accepted_opens accepts b fits proved accepted (Err (BadForm at)) (none, first) = absurd (none b (fits, refl))
accepted_opens accepts b fits proved accepted (Err (NotProved index want have)) (c, spells, differs) =
    absurd (not_differs c index want have (subst BlockProved (only_bundle b c fits spells) proved) differs)
accepted_opens accepts b fits proved accepted (Err BadSignature) (c, spells, its_block, refused) =
    absurd (refused (subst (HeadAccepted accepts) (only_bundle b c fits spells) accepted))
