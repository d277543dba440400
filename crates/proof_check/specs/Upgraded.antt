-- The content with a proof's upgrade in: the head that its signature is over, before that is looked at.
use Rattle.std.specs.Prelude.{ℕ, List, map, Option, Some, None, nat_lt, if◌then◌else◌}
use Rattle.flat_tree.specs.Subtrees.{Subtree}
use Rattle.flat_tree.specs.Roots.{full_roots_of}
use Rattle.flat_tree.specs.Covers.{cover_of}
use Rattle.merkle_nodes.specs.declared.node.Twig.{Twig}
use Rattle.merkle_nodes.specs.Joined.{joined, value_in}
use Rattle.proof_form.specs.declared.proof.UpgradePart.{UpgradePart}
use Rattle.proof_form.specs.Proofs.{Proof}
use Rattle.node_set.specs.Contents.{Content, twig_at}
use Rattle.node_set.specs.Changes.{upgrade_content}
use Rattle.core_forks.specs.Reorganise.{reorganise_content}

-- the roots of a whole log, joined from its cover
abbrev pub new_roots : UpgradePart → List Twig
new_roots u = map (λ (tree : Subtree). twig_at (joined (value_in (cover_of 0 u.length) u.nodes)) tree.depth tree.offset) (full_roots_of u.length)

-- the content under the upgraded head: longer under the same fork, or another log under a greater one
abbrev pub upgraded_by : ℕ → UpgradePart → Content → Content
upgraded_by fork u m =
    if nat_lt m.fork fork then reorganise_content fork u.length (new_roots u) u.signature m
    else upgrade_content u.length u.nodes u.signature m

-- the content with the proof's upgrade in, if it has one
abbrev pub with_upgrade : Proof → Content → Content
with_upgrade p m = ByUpgrade p.upgrade
  where
    ByUpgrade : Option UpgradePart → Content
    ByUpgrade None = m
    ByUpgrade (Some u) = upgraded_by p.fork u m

-- the length once the upgrade is in
abbrev pub length_after : Proof → Content → ℕ
length_after p m = ByUpgrade p.upgrade
  where
    ByUpgrade : Option UpgradePart → ℕ
    ByUpgrade None = m.length
    ByUpgrade (Some u) = u.length
