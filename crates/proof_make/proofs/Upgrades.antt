-- The upgrade that a sound content gives, from what is known over any view.
use Rattle.std.proofs.Common.{◌≡◌, ℕ, Bool, true, false, List, [], ◌∷◌, Some, None, refl, sym, subst, ap, ◌∙◌, if◌then◌else◌}
use Rattle.std.specs.Prelude.{Option, is_some, not, ◌&&◌}
use Rattle.std.specs.List.{list_all}
use Rattle.flat_tree.specs.Subtrees.{Subtree}
use Rattle.flat_tree.specs.Covers.{cover_of}
use Rattle.merkle_nodes.specs.declared.node.Twig.{Twig}
use Rattle.proof_form.specs.declared.request.Reach.{Reach}
use Rattle.proof_form.specs.declared.proof.UpgradePart.{UpgradePart}
use Rattle.node_set.specs.declared.fault.CoreFault.{CoreFault}
use Rattle.node_set.specs.Contents.{Content, held}
use Rattle.node_set.specs.Closure.{in_closure}
use Rattle.node_set.specs.Whole.{IsSound}
use Rattle.node_set.specs.Refuses.{refuse_if}
use Rattle.proof_make.specs.Answers.{part_for, upgrade_for}
use Rattle.proof_make.specs.Offers.{ends_at, has_nodes, has_cover, passes}
use Rattle.proof_make.proofs.Covers.{twigs_at}

-- an upgrade by its parts
abbrev pub upgrade_of : Reach → List Twig → List ℕ → UpgradePart
upgrade_of reach nodes signature = record { start = reach.start; length = reach.length; nodes = nodes; signature = signature }

-- what is to be stored is stored
stored_nodes : (m : Content) → IsSound m → (trees : List Subtree)
    → list_all (λ (tree : Subtree). is_some (m.node tree.depth tree.offset)) trees ≡ has_nodes m trees
stored_nodes m sound [] = refl
stored_nodes m sound (tree ∷ trees) =
    ap (λ (b : Bool). b && list_all (λ (t : Subtree). is_some (m.node t.depth t.offset)) trees) (sound.closed tree.depth tree.offset)
    ∙ ap (λ (b : Bool). in_closure m.length (held m) tree.depth tree.offset && b) (stored_nodes m sound trees)

-- what isn't refused passes
not_refused : (test : Bool) (fault : CoreFault) → refuse_if (not test) fault ≡ None → test ≡ true
not_refused true fault none = refl
not_refused false fault none = cc

-- the upgrade is given, where it is asked for at the length and its nodes are to be stored
upgrade_is : (m : Content) → IsSound m → (reach : Reach) (fault : CoreFault) (nodes : List Twig) (signature : List ℕ) → ends_at m.length reach ≡ true
    → refuse_if (not (has_cover m reach)) fault ≡ None → nodes ≡ twigs_at m.node (cover_of reach.start reach.length) → signature ≡ m.signature
    → upgrade_for m reach ≡ Some (upgrade_of reach nodes signature)
upgrade_is m sound reach fault nodes signature ends closed are signed =
    let all = stored_nodes m sound (cover_of reach.start reach.length) ∙ not_refused (has_cover m reach) fault closed in
    rw (ends, all, are, signed) refl

-- so it is, where it may be asked for
pub upgrade_given : (m : Content) → IsSound m → (asked : Option Reach) (reach : Reach) (fault : CoreFault) (nodes : List Twig) (signature : List ℕ)
    → asked ≡ Some reach → passes (ends_at m.length) asked ≡ true → refuse_if (not (has_cover m reach)) fault ≡ None
    → nodes ≡ twigs_at m.node (cover_of reach.start reach.length) → signature ≡ m.signature
    → Some (Some (upgrade_of reach nodes signature)) ≡ part_for asked (upgrade_for m)
upgrade_given m sound asked reach fault nodes signature is ends closed are signed =
    let here : ends_at m.length reach ≡ true = sym (ap (passes (ends_at m.length)) is) ∙ ends in
    rw (is, upgrade_is m sound reach fault nodes signature here closed are signed) refl

is_some-given : (test : Bool) (upgrade : UpgradePart) → is_some (part_for (Some upgrade) (λ (u : UpgradePart). if test then Some u else None)) ≡ test
is_some-given true upgrade = refl
is_some-given false upgrade = refl

-- and it is there only so
pub is_some-upgrade : (m : Content) → IsSound m → (asked : Option Reach) → passes (ends_at m.length) asked ≡ true
    → is_some (part_for asked (upgrade_for m)) ≡ passes (has_cover m) asked
is_some-upgrade m sound None ends = refl
is_some-upgrade m sound (Some reach) ends = rw (ends, stored_nodes m sound (cover_of reach.start reach.length)) (is_some-given (has_cover m reach) _)

-- so none is given where one is refused
pub upgrade_refused : (m : Content) → IsSound m → (asked : Option Reach) (reach : Reach) → asked ≡ Some reach → passes (ends_at m.length) asked ≡ true
    → (P : Bool → Type 0) → P (has_cover m reach) → P (is_some (part_for asked (upgrade_for m)))
upgrade_refused m sound asked reach is ends P holds = subst P (sym (is_some-upgrade m sound asked ends ∙ ap (passes (has_cover m)) is)) holds
