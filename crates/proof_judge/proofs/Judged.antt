-- What is judged over the content with the upgrade in.
use Rattle.std.proofs.Common.{◌≡◌, ℕ, zero, suc, Bool, ◌+◌, ◌*◌, ◌≤◌, List, [], ◌∷◌, length, Option, Some, None, IfSome, IsTrue, refl, sym, ap, subst, ◌∙◌, arith}
use Rattle.std.proofs.lemmas.List.{length-append}
use Rattle.merkle_nodes.specs.declared.node.Node.{Node}
use Rattle.proof_form.specs.Proofs.{Proof, Block, BlockFits}
use Rattle.node_set.specs.declared.fault.Refusal.{Refusal}
use Rattle.node_set.specs.Contents.{Content, held}
use Rattle.node_set.specs.Whole.{IsClosed, IsSound}
use Rattle.log_view.specs.Views.{Source}
use Rattle.log_change.specs.LogChange.{Ascend}
use Rattle.proof_check.specs.Upgraded.{with_upgrade}
use Rattle.proof_check.specs.Parts.{Part, part_of_block}
use Rattle.proof_check.specs.Judge.{signature_refusal, incoming, admitted}
use Rattle.proof_judge.specs.declared.part.TheConstants.{MAX_WAY_NODES}
use Rattle.proof_judge.specs.Coming.{IsOver, MayCome}
use Rattle.proof_judge.specs.Judging.{later_refusal, IsJudged}
use Rattle.proof_judge.specs.Meetings.{own_node, beside_node, way_of}
use Rattle.proof_judge.specs.PartsMet.{IsBlockWay}

length-way : (part : Part) (levels : ℕ) → length (way_of part levels) ≡ 2 * levels
unfolding way_of
length-way part zero = refl
length-way part (suc levels) = omega (arith, length-append (way_of part levels) (own_node part levels ∷ beside_node part levels ∷ []), length-way part levels)

-- a block's path has no more nodes than its siblings lead to
pub way_few : (n : ℕ) (bits : ℕ → Bool) (block : Option Block) (way : List Node) → IfSome block BlockFits → IsBlockWay n bits block way → length way ≤ MAX_WAY_NODES
way_few n bits None way fits is = omega (arith, ap length is)
way_few n bits (Some b) way fits (levels, first, enough, is) = omega (arith, ap length is, length-way (part_of_block b) levels, enough, fits.trail.few)

-- what may come in, by the nodes that are gathered over a view
abbrev pub Gathers : Proof → List Node → List Node → List Node → Source → Type 0
Gathers p laid way nodes s = (m : Content) → s.content ≡ with_upgrade p m → IsClosed s.content.length s.content.block s.content.node
    → IsOver m s.content laid → IsBlockWay s.content.length (held s.content) p.block way → MayCome m (admitted p m) nodes

pub judged : (accepts : List ℕ → List ℕ → Bool) (p : Proof) (s later : Source) (laid way nodes : List Node) (index : Option ℕ) (refusal : Option Refusal)
    → later ≡ s → refusal ≡ None → IfSome p.block BlockFits
    → (IsTrue s.shows → IsSound s.content → refusal ≡ later_refusal accepts p s.content)
    → (refusal ≡ None → signature_refusal accepts p s.content ≡ None)
    → (refusal ≡ None → IsBlockWay s.content.length (held s.content) p.block way)
    → index ≡ incoming p later.content → Ascend nodes → length nodes ≤ length laid + length way → Gathers p laid way nodes later
    → IsJudged accepts p s.shows s.content laid nodes index
judged accepts p s later laid way nodes index refusal same none fits content signed is_way index_is order few gathers =
    let path = is_way none in
    let here = subst (Gathers p laid way nodes) same gathers in
    record {
      signed = signed none;
      unrefused = λ shows sound. sym (content shows sound) ∙ none;
      index_is = index_is ∙ ap (λ (v : Source). incoming p v.content) same;
      order = order;
      few = omega (arith, few, way_few s.content.length (held s.content) p.block way fits path);
      comes = λ m is closed over. here m is closed over path;
    }
