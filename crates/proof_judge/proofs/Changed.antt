-- What judging a proof comes to leads to the content with the proof in.
use Rattle.std.proofs.Common.{◌≡◌, ℕ, Bool, true, false, ◌+◌, ◌-◌, ◌<◌, inl, inr, List, [], ◌∷◌, Option, Some, None, IfSome, refl, sym, ap, subst, ◌∙◌, arith, nat_le, nat_lt, nat_eq, slice_get, if◌then◌else◌}
use Rattle.std.specs.Prelude.{option_map, ◌&&◌}
use Rattle.std.proofs.Math.Bool.{and-false}
use Rattle.std.proofs.lemmas.Bool.{cases_Bool, cases_eq, cases_lt, eq-eqb, ne_eqb, lt-ltb, le-ltb, lt-leb, le-leb}
use Rattle.commit_book.specs.declared.commit.Commit.TheVariants.{Fetch}
use Rattle.commit_book.specs.History.{is_between}
use Rattle.merkle_nodes.specs.declared.node.Node.{Node}
use Rattle.merkle_nodes.specs.declared.roots.Head.{Head}
use Rattle.proof_form.specs.declared.proof.UpgradePart.{UpgradePart}
use Rattle.proof_form.specs.Proofs.{Proof, Block, BlockFits, ProofFits}
use Rattle.node_set.specs.declared.fault.Refusal.{Refusal}
use Rattle.node_set.specs.Contents.{Content, held, roots}
use Rattle.node_set.specs.Changes.{blocks_below, blocks_without}
use Rattle.node_set.specs.Whole.{IsSound}
use Rattle.core_forks.specs.Reorganise.{kept_of}
use Rattle.log_change.specs.declared.change.Indices.{Indices}
use Rattle.log_change.specs.declared.change.LogChange.{LogChange}
use Rattle.log_change.specs.LogChange.{AreFresh, IsChange, head_of}
use Rattle.log_change.specs.Calls.{indices}
use Rattle.log_change.proofs.Applied.{head_same}
use Rattle.log_change.proofs.Forks.{without_rest}
use Rattle.proof_check.specs.Upgraded.{with_upgrade, new_roots}
use Rattle.proof_check.specs.Parts.{Part, of_part, part_of_block, range_refusal, levels_up, differs_refusal, uncovered_refusal}
use Rattle.proof_check.specs.Judge.{each_part, with_block, admitted, incoming, commit_by, upgrade_commit, commit_of}
use Rattle.proof_check.proofs.Refusing.{first_none, second_none}
use Rattle.proof_check.proofs.Admitting.{with_head}
use Rattle.proof_check.proofs.AdmitWhole.{block_joins}
use Rattle.proof_check.proofs.FetchSound.{fetch_roots}
use Rattle.proof_judge.specs.declared.upgrade.LogAfter.{LogAfter}
use Rattle.proof_judge.specs.Laying.{IsDue, upgrade_head}
use Rattle.proof_judge.specs.PartsMet.{parts_refusal}
use Rattle.proof_judge.specs.Judging.{coming, come_at, fetch_change, commit_after, upgrade_change}
use Rattle.proof_judge.proofs.LaidContent.{held_low}

-- ---- the block

-- a block that comes in leaves the roots
pub block_keeps_roots : (p : Proof) (after : Content) → IsSound after → ProofFits p → each_part p (range_refusal after.length) ≡ None
    → parts_refusal p after ≡ None → roots (with_block p after) ≡ roots after
block_keeps_roots p after sound fits range met = ByBlock p.block refl
  where
    in_block : (b : Block) (refusal : Part → Option Refusal) → p.block ≡ Some b → each_part p refusal ≡ None → refusal (part_of_block b) ≡ None
    in_block b refusal is free =
        subst (λ (part : Option Block). of_part part (λ (v : Block). refusal (part_of_block v)) ≡ None) is (first_none _ _ free)

    ByBlock : (block : Option Block) → p.block ≡ block → roots (with_block p after) ≡ roots after
    ByBlock None is = rw is refl
    ByBlock (Some b) is = elim (cases_Bool (held after b.index)) [
      | inl here ↦ rw (is, here) refl
      | inr new ↦
          let spelled : BlockFits b = subst (λ (part : Option Block). IfSome part BlockFits) is fits.block in
          let joins = block_joins after b sound spelled (in_block b (range_refusal after.length) is range)
          (in_block b (uncovered_refusal after) is (second_none _ _ met)) (in_block b (differs_refusal after) is (first_none _ _ met)) in
          rw (is, new) (fetch_roots after sound b.index b.bytes b.trail (levels_up after (part_of_block b)) joins)
    ]

-- the blocks of a range, and else others
abbrev blocks_over : Indices → List (List ℕ) → ℕ → Option (List ℕ) → Option (List ℕ)
blocks_over come bytes index rest = if is_between come.from come.to index then slice_get bytes (index - come.from) else rest

over_none : (bytes : List (List ℕ)) (index : ℕ) (rest : Option (List ℕ)) → blocks_over (indices 0 0) bytes index rest ≡ rest
over_none bytes index rest =
    let none : is_between 0 0 index ≡ false = ap (λ (b : Bool). nat_le 0 index && b) (le-ltb index 0 (omega arith)) ∙ and-false (nat_le 0 index) in
    rw none refl

over_one : (at : ℕ) (bytes : List ℕ) (index : ℕ) (rest : Option (List ℕ))
    → blocks_over (indices at (at + 1)) (bytes ∷ []) index rest ≡ (if nat_eq index at then Some bytes else rest)
over_one at bytes index rest = elim (cases_eq index at) [
  | inl same ↦
      let first : index - at ≡ 0 = omega (arith, same) in
      rw (eq-eqb index at same, le-leb at index (omega (arith, same)), lt-ltb index (at + 1) (omega (arith, same)))
      (ap (slice_get (bytes ∷ [])) first)
  | inr other ↦ elim (cases_lt index at) [
    | inl before ↦ rw (ne_eqb index at other, lt-leb at index before) refl
    | inr behind ↦ rw (ne_eqb index at other, le-ltb index (at + 1) (omega (arith, behind, other))) (rest_is (nat_le at index))
  ]
]
  where
    rest_is : (test : Bool) → (if test && false then slice_get (bytes ∷ []) (index - at) else rest) ≡ rest
    rest_is true = refl
    rest_is false = refl

-- the blocks with that of a proof in
blocks_in : (p : Proof) (after : Content) (index : ℕ) → (with_block p after).block index
    ≡ blocks_over (come_at (incoming p after)) (coming p after) index (after.block index)
blocks_in p after index = ByBlock p.block refl
  where
    ByBlock : (block : Option Block) → p.block ≡ block
        → (with_block p after).block index ≡ blocks_over (come_at (incoming p after)) (coming p after) index (after.block index)
    ByBlock None is = rw is (sym (over_none [] index (after.block index)))
    ByBlock (Some b) is = elim (cases_Bool (held after b.index)) [
      | inl here ↦ rw (is, here) (sym (over_none [] index (after.block index)))
      | inr new ↦ rw (is, new) (sym (over_one b.index b.bytes index (after.block index)))
    ]

-- ---- the change

module _ (p : Proof) (m : Content) (fits : ProofFits p) (sound : IsSound (with_upgrade p m)) (range : each_part p (range_refusal (with_upgrade p m).length) ≡ None)
    (met : parts_refusal p (with_upgrade p m) ≡ None) (index : Option ℕ) (index_is : index ≡ incoming p (with_upgrade p m)) (fresh : List Node)
    (are_fresh : AreFresh m (admitted p m) fresh) where
  abbrev after : Content
  after = with_upgrade p m

  leads : (change : LogChange) → change.head ≡ head_of after → change.roots ≡ roots after → change.commit ≡ commit_of p m → change.come ≡ come_at index
      → ((i : ℕ) → blocks_without change.gone.from change.gone.to m.block i ≡ after.block i)
      → IsChange m (admitted p m) (commit_of p m) (coming p after) fresh change
  leads change head_is roots_are commit_is come gone =
      let kept = with_head p after in
      record {
        head_is = head_is ∙ head_same after.fork after.length after.signature (head_of (admitted p m)) (sym kept.0) (sym kept.1) (sym kept.2);
        roots_are = roots_are ∙ sym (block_keeps_roots p after sound fits range met);
        commit_is = commit_is;
        blocks = λ i.
            blocks_in p after i
            ∙ ap (λ (k : Option ℕ). blocks_over (come_at k) (coming p after) i (after.block i)) (sym index_is)
            ∙ ap (λ (r : Indices). blocks_over r (coming p after) i (after.block i)) (sym come)
            ∙ ap (blocks_over change.come (coming p after) i) (sym (gone i));
        nodes = are_fresh;
      }

  none_gone : (i : ℕ) → blocks_without 0 0 m.block i ≡ m.block i
  none_gone i =
      let none : is_between 0 0 i ≡ false = ap (λ (b : Bool). nat_le 0 i && b) (le-ltb i 0 (omega arith)) ∙ and-false (nat_le 0 i) in
      ap (λ (b : Bool). if b then None else m.block i) none

  pub fetch_leads : p.upgrade ≡ None → (head : Head) (nodes : List Node) → head ≡ head_of m → nodes ≡ roots m
      → IsChange m (admitted p m) (commit_of p m) (coming p after) fresh (fetch_change head nodes index)
  fetch_leads up head nodes head_is nodes_are =
      let same : after ≡ m = rw up refl in
      leads (fetch_change head nodes index) (head_is ∙ ap head_of (sym same)) (nodes_are ∙ ap roots (sym same)) (commits index (sym index_is)) refl
      (λ i. none_gone i ∙ ap (λ (c : Content). c.block i) (sym same))
    where
      commits : (k : Option ℕ) → incoming p after ≡ k → option_map Fetch k ≡ commit_of p m
      commits None is = sym (ap (λ (u : Option UpgradePart). commit_by p m u (incoming p after)) up ∙ ap (commit_by p m None) is)
      commits (Some i) is = sym (ap (λ (u : Option UpgradePart). commit_by p m u (incoming p after)) up ∙ ap (commit_by p m None) is)

  pub upgrade_leads : (u : UpgradePart) → p.upgrade ≡ Some u → IsDue p.fork u m → IsSound m → (before : Head) → before ≡ head_of m → (log : LogAfter)
      → log.head ≡ upgrade_head p.fork u → log.roots ≡ roots after → (m.fork < p.fork → log.kept ≡ kept_of m u.length (new_roots u))
      → IsChange m (admitted p m) (commit_of p m) (coming p after) fresh (upgrade_change before log index)
  upgrade_leads u up due own before before_is log head_is roots_are kept =
      leads (upgrade_change before log index) (head_is ∙ head_after) roots_are (ap Some (commits index) ∙ given) refl gone
    where
      fork_is : before.fork ≡ m.fork
      fork_is = ap (λ (h : Head). h.fork) before_is

      other_is : log.head.fork ≡ p.fork
      other_is = ap (λ (h : Head). h.fork) head_is

      head_after : upgrade_head p.fork u ≡ head_of after
      head_after = elim (cases_lt m.fork p.fork) [
        | inl greater ↦ rw (up, lt-ltb m.fork p.fork greater) refl
        | inr no_greater ↦ rw (up, le-ltb m.fork p.fork no_greater) (ap (λ (f : ℕ). upgrade_head f u) (omega (arith, no_greater, due.no_older)))
      ]

      given : Some (upgrade_commit p m u index) ≡ commit_of p m
      given = sym (ap (λ (v : Option UpgradePart). commit_by p m v (incoming p after)) up ∙ ap (commit_by p m (Some u)) (sym index_is))

      commits : (k : Option ℕ) → commit_after before.fork log k ≡ upgrade_commit p m u k
      commits None = elim (cases_lt m.fork p.fork) [
        | inl greater ↦ rw (fork_is, head_is, lt-ltb m.fork p.fork greater, kept greater) refl
        | inr no_greater ↦ rw (fork_is, head_is, le-ltb m.fork p.fork no_greater) refl
      ]
      commits (Some i) = elim (cases_lt m.fork p.fork) [
        | inl greater ↦ rw (fork_is, head_is, lt-ltb m.fork p.fork greater, kept greater) refl
        | inr no_greater ↦ rw (fork_is, head_is, le-ltb m.fork p.fork no_greater) refl
      ]

      gone : (i : ℕ) → blocks_without (upgrade_change before log index).gone.from (upgrade_change before log index).gone.to m.block i ≡ after.block i
      gone i = elim (cases_lt m.fork p.fork) [
        | inl greater ↦
            let test : nat_lt before.fork log.head.fork ≡ true = rw (fork_is, other_is) (lt-ltb m.fork p.fork greater) in
            let all : before.length ≡ m.length = ap (λ (h : Head). h.length) before_is in
            let block : after.block i ≡ blocks_below (kept_of m u.length (new_roots u)) m.block i = rw (up, lt-ltb m.fork p.fork greater) refl in
            rw (test, all, kept greater)
            (sym (without_rest (kept_of m u.length (new_roots u)) m.length m.block (λ k is. held_low m k own is) i) ∙ sym block)
        | inr no_greater ↦
            let test : nat_lt before.fork log.head.fork ≡ false = rw (fork_is, other_is) (le-ltb m.fork p.fork no_greater) in
            let block : after.block i ≡ m.block i = rw (up, le-ltb m.fork p.fork no_greater) refl in
            rw test (none_gone i ∙ sym block)
      ]
