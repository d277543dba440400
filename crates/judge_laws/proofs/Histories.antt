-- Each proof that isn't refused keeps a core's history legal: under a greater fork too.
use Rattle.std.proofs.Common.{◌≡◌, ℕ, Bool, false, ◌+◌, ◌<◌, inl, inr, List, Option, Some, None, refl, sym, ap, subst, ◌∙◌, arith, nat_le, nat_lt}
use Rattle.std.specs.Prelude.{is_some, ◌&&◌, ◌||◌}
use Rattle.std.proofs.Math.Bool.{or-false, or-true, and-false, and-true}
use Rattle.std.proofs.lemmas.Bool.{cases_eq, cases_lt, cases_Bool, le-leb, lt-leb, lt-ltb, le-ltb, eq-eqb, ne_eqb}
use mathlib.Core.Path.{fun_ext}
use Rattle.commit_book.specs.declared.commit.Commit.{Commit}
use Rattle.commit_book.specs.declared.commit.Commit.TheVariants.{Reorg, ReorgFetch}
use Rattle.commit_book.specs.History.{Summary, with_part, below, MayReorganise}
use Rattle.merkle_nodes.specs.Roots.{root_hash_of}
use Rattle.proof_form.specs.declared.proof.UpgradePart.{UpgradePart}
use Rattle.proof_form.specs.Proofs.{Proof, Block, ProofFits}
use Rattle.node_set.specs.Contents.{Content, Blocks, holds, held, roots, summary_of}
use Rattle.node_set.specs.Legal.{KeepsHistory, core_limits}
use Rattle.node_set.specs.Changes.{blocks_below, blocks_with_one}
use Rattle.node_set.specs.Whole.{IsWhole}
use Rattle.core_forks.specs.Reorganise.{kept_of, reorganise_content}
use Rattle.proof_check.specs.Upgraded.{with_upgrade, new_roots}
use Rattle.proof_check.specs.Parts.{part_of_block, levels_up}
use Rattle.proof_check.specs.Judge.{refusal_of, fetched, incoming, admitted, upgrade_commit, commit_by, commit_of}
use Rattle.proof_check.proofs.FetchSound.{Joins}
use Rattle.proof_check.proofs.AdmitHistory.{admit_history}
use Rattle.judge_laws.proofs.Reorganised.{kept_within, kept_old}
use Rattle.judge_laws.proofs.Admitted.{Replaces, greater_replaces, greater_upgrade, passes, block_joins_after}

-- ---- held sets

abbrev with_set : ℕ → ℕ → List ℕ → (ℕ → Bool) → Summary
with_set fork blocks root set = record { fork = fork; length = blocks; root = root; held = set }

-- what is held below an index
pub holds-below : (kept : ℕ) (block : Blocks) (index : ℕ) → holds (blocks_below kept block) index ≡ below kept (holds block) index
holds-below kept block index = elim (cases_Bool (nat_lt index kept)) [
  | inl low ↦ rw low (sym (and-true (is_some (block index))))
  | inr past ↦ rw past (sym (and-false (is_some (block index))))
]

-- what is held with one block more
pub holds-one : (at : ℕ) (bytes : List ℕ) (block : Blocks) (index : ℕ)
    → holds (blocks_with_one at bytes block) index ≡ with_part at (at + 1) (holds block) index
holds-one at bytes block index = elim (cases_eq index at) [
  | inl same ↦
      rw (eq-eqb index at same, le-leb at index (omega (arith, same)), lt-ltb index (at + 1) (omega (arith, same))) (sym (or-true (is_some (block index))))
  | inr other ↦
      let outside : (nat_le at index && nat_lt index (at + 1)) ≡ false = elim (cases_lt index at) [
        | inl less ↦ rw (lt-leb at index less) refl
        | inr past ↦ rw (le-ltb index (at + 1) (omega (arith, past, other))) (and-false (nat_le at index))
      ] in
      rw (ne_eqb index at other) (sym (or-false (is_some (block index))) ∙ ap (λ (b : Bool). is_some (block index) || b) (sym outside))
]

-- ---- a greater fork

module _ (m : Content) (fork to kept : ℕ) (root : List ℕ) where
  reorganised_held : with_set fork to root (holds (blocks_below kept m.block)) ≡ with_set fork to root (below kept (held m))
  reorganised_held =
      let same : holds (blocks_below kept m.block) ≡ below kept (held m) = fun_ext (holds-below kept m.block) in
      ap (with_set fork to root) same

  fetched_held : (at : ℕ) (bytes : List ℕ)
      → with_set fork to root (holds (blocks_with_one at bytes (blocks_below kept m.block)))
      ≡ with_set fork to root (with_part at (at + 1) (below kept (held m)))
  fetched_held at bytes =
      let same : holds (blocks_with_one at bytes (blocks_below kept m.block)) ≡ with_part at (at + 1) (below kept (held m)) = fun_ext (λ index.
      holds-one at bytes (blocks_below kept m.block) index
      ∙ ap (λ (b : Bool). b || (nat_le at index && nat_lt index (at + 1))) (holds-below kept m.block index)) in
      ap (with_set fork to root) same

module _ (accepts : List ℕ → List ℕ → Bool) (p : Proof) (m : Content) (whole : IsWhole accepts m) (fits : ProofFits p)
    (none : refusal_of accepts p m ≡ None) where
  abbrev after : Content
  after = with_upgrade p m

  commit_is : (upgrade : Option UpgradePart) (index : Option ℕ) → p.upgrade ≡ upgrade → incoming p after ≡ index → commit_of p m ≡ commit_by p m upgrade index
  commit_is upgrade index up comes = ap (λ (u : Option UpgradePart). commit_by p m u (incoming p after)) up ∙ ap (commit_by p m upgrade) comes

  keeps_by : (commit : Option Commit) (c : Content) → commit_of p m ≡ commit → admitted p m ≡ c → KeepsHistory m c commit
      → KeepsHistory m (admitted p m) (commit_of p m)
  keeps_by commit c given is keeps =
      subst (λ (k : Option Commit). KeepsHistory m (admitted p m) k) (sym given) (subst (λ (d : Content). KeepsHistory m d commit) (sym is) keeps)

  module _ (greater : m.fork < p.fork) (u : UpgradePart) (up : p.upgrade ≡ Some u) where
    takes : Replaces p m u
    takes = greater_replaces p m u up fits greater (passes accepts p m whole fits none).limit (passes accepts p m whole fits none).head

    abbrev kept : ℕ
    kept = kept_of m u.length (new_roots u)

    abbrev other_log : Content
    other_log = reorganise_content p.fork u.length (new_roots u) u.signature m

    in_range : MayReorganise core_limits p.fork u.length kept (summary_of m)
    in_range = (
      greater,
      omega (arith, fits.fork),
      takes.blocks,
      kept_old m u.length (new_roots u) whole.sound takes.count takes.twigs_fit,
      kept_within m u.length (new_roots u) whole.sound takes.count takes.twigs_fit,
    )

    without_block : admitted p m ≡ after → incoming p after ≡ None → KeepsHistory m (admitted p m) (commit_of p m)
    without_block same none_in =
        let given : upgrade_commit p m u None ≡ Reorg p.fork u.length kept = rw (lt-ltb m.fork p.fork greater) refl in
        keeps_by (Some (Reorg p.fork u.length kept)) other_log (commit_is (Some u) None up none_in ∙ ap Some given) (same ∙ takes.after)
        ((in_range, tt), reorganised_held m p.fork u.length kept (root_hash_of (roots other_log)))

    with_block : (b : Block) → p.block ≡ Some b → held after b.index ≡ false → KeepsHistory m (admitted p m) (commit_of p m)
    with_block b is new =
        let comes : admitted p m ≡ fetched b after = rw (is, new) refl in
        let index_in : incoming p after ≡ Some b.index = rw (is, new) refl in
        let given : upgrade_commit p m u (Some b.index) ≡ ReorgFetch p.fork u.length kept b.index = rw (lt-ltb m.fork p.fork greater) refl in
        let joins =
        subst (λ (c : Content). Joins c b.index b.bytes b.trail (levels_up c (part_of_block b))) takes.after
        (block_joins_after accepts p m whole fits none b is) in
        let apart : below kept (held m) b.index ≡ false =
        sym (holds-below kept m.block b.index) ∙ subst (λ (c : Content). held c b.index ≡ false) takes.after new in
        keeps_by (Some (ReorgFetch p.fork u.length kept b.index)) (fetched b other_log) (commit_is (Some u) (Some b.index) up index_in ∙ ap Some given)
        (comes ∙ ap (fetched b) takes.after)
        (((in_range, (joins.within, apart)), tt), fetched_held m p.fork u.length kept (root_hash_of (roots (fetched b other_log))) b.index b.bytes)

    reorganised_history : KeepsHistory m (admitted p m) (commit_of p m)
    reorganised_history = ByBlock p.block refl
      where
        ByBlock : (block : Option Block) → p.block ≡ block → KeepsHistory m (admitted p m) (commit_of p m)
        ByBlock None is = without_block (rw is refl) (rw is refl)
        ByBlock (Some b) is = elim (cases_Bool (held after b.index)) [
          | inl here ↦ without_block (rw (is, here) refl) (rw (is, here) refl)
          | inr new ↦ with_block b is new
        ]

  pub history_legal : KeepsHistory m (admitted p m) (commit_of p m)
  history_legal = elim (cases_lt m.fork p.fork) [
    | inr no_greater ↦ admit_history accepts p m whole fits no_greater none
    | inl greater ↦
        let part = greater_upgrade p m greater (passes accepts p m whole fits none).head in
        reorganised_history greater part.0 part.1
  ]
