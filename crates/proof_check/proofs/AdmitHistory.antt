-- A proof that isn't refused keeps a core's history legal.
use Rattle.std.proofs.Common.{◌≡◌, ◌≢◌, ℕ, Bool, true, false, ◌+◌, ◌<◌, ◌≤◌, ◌⊎◌, inl, inr, List, Option, Some, None, refl, sym, ap, subst, ◌∙◌, arith, nat_le, nat_lt}
use Rattle.std.specs.Prelude.{is_some, ◌&&◌, ◌||◌}
use Rattle.std.proofs.Math.Bool.{or-false, or-true, and-false}
use Rattle.std.proofs.lemmas.Bool.{cases_eq, cases_lt, cases_Bool, le-leb, lt-leb, lt-ltb, le-ltb, eq-eqb, ne_eqb}
use mathlib.Core.Path.{fun_ext}
use Rattle.commit_book.specs.declared.commit.Commit.{Commit}
use Rattle.commit_book.specs.declared.commit.Commit.TheVariants.{Fetch, Upgrade, UpgradeFetch}
use Rattle.commit_book.specs.History.{Summary, with_part}
use Rattle.merkle_nodes.specs.Roots.{root_hash_of}
use Rattle.proof_form.specs.declared.proof.UpgradePart.{UpgradePart}
use Rattle.proof_form.specs.Proofs.{Proof, Block, ProofFits}
use Rattle.node_set.specs.Contents.{Content, Blocks, holds, held, roots}
use Rattle.node_set.specs.Legal.{KeepsHistory}
use Rattle.node_set.specs.Changes.{blocks_with_one, upgrade_content}
use Rattle.node_set.specs.Whole.{IsSound, IsWhole}
use Rattle.flat_tree.specs.declared.limits.TheConstants.{MAX_BLOCKS}
use Rattle.proof_check.specs.Upgraded.{with_upgrade}
use Rattle.proof_check.specs.Parts.{part_of_block, levels_up}
use Rattle.proof_check.specs.Judge.{refusal_of, fetched, incoming, admitted, upgrade_commit, commit_by, commit_of}
use Rattle.proof_check.proofs.FetchSound.{Joins, fetch_roots}
use Rattle.proof_check.proofs.AdmitWhole.{IsUnrefused, unrefused, goes_on, upgraded_whole, admitted_joins}

-- a summary with a held set
abbrev with_set : ℕ → ℕ → List ℕ → (ℕ → Bool) → Summary
with_set fork blocks root set = record { fork = fork; length = blocks; root = root; held = set }

with_held : (fork blocks : ℕ) (root : List ℕ) (one other : ℕ → Bool) → ((index : ℕ) → one index ≡ other index)
    → with_set fork blocks root one ≡ with_set fork blocks root other
with_held fork blocks root one other same = ap (with_set fork blocks root) (fun_ext same)

-- one block more is held
held_one : (at : ℕ) (bytes : List ℕ) (block : Blocks) (index : ℕ) → holds (blocks_with_one at bytes block) index ≡ with_part at (at + 1) (holds block) index
held_one at bytes block index = elim (cases_eq index at) [
  | inl same ↦
      let in_part : (nat_le at index && nat_lt index (at + 1)) ≡ true =
      rw (le-leb at index (omega (arith, same)), lt-ltb index (at + 1) (omega (arith, same))) refl in
      rw (eq-eqb index at same, in_part) (sym (or-true (is_some (block index))))
  | inr other ↦ rw (ne_eqb index at other) (sym (or-false (is_some (block index))) ∙ ap (λ (b : Bool). is_some (block index) || b) (sym (outside other)))
]
  where
    outside : index ≢ at → (nat_le at index && nat_lt index (at + 1)) ≡ false
    outside other = elim (cases_lt index at) [
      | inl less ↦ rw (lt-leb at index less) refl
      | inr past ↦ rw (le-ltb index (at + 1) (omega (arith, past, other))) (and-false (nat_le at index))
    ]

-- a block comes in
fetch_keeps : (m : Content) (b : Block) → IsSound m → Joins m b.index b.bytes b.trail (levels_up m (part_of_block b)) → held m b.index ≡ false
    → KeepsHistory m (fetched b m) (Some (Fetch b.index))
fetch_keeps m b sound joins new = (
  ((joins.within, new), ap root_hash_of (fetch_roots m sound b.index b.bytes b.trail (levels_up m (part_of_block b)) joins)),
  with_held m.fork m.length (root_hash_of (roots (fetched b m))) (holds (blocks_with_one b.index b.bytes m.block)) (with_part b.index (b.index + 1) (held m))
      (held_one b.index b.bytes m.block),
)

-- so it does into a longer log
upgrade_fetch_keeps : (m : Content) (u : UpgradePart) (b : Block) → m.length < u.length → u.length ≤ MAX_BLOCKS
    → let longer = upgrade_content u.length u.nodes u.signature m in
    Joins longer b.index b.bytes b.trail (levels_up longer (part_of_block b)) → held longer b.index ≡ false
    → KeepsHistory m (fetched b longer) (Some (UpgradeFetch u.length b.index))
upgrade_fetch_keeps m u b longer_is few joins new =
    let longer = upgrade_content u.length u.nodes u.signature m in (
      (((longer_is, few), (joins.within, new)), tt),
      with_held m.fork u.length (root_hash_of (roots (fetched b longer))) (holds (blocks_with_one b.index b.bytes m.block)) (with_part b.index (b.index + 1) (held m))
          (held_one b.index b.bytes m.block),
    )

module _ (accepts : List ℕ → List ℕ → Bool) (p : Proof) (m : Content) (whole : IsWhole accepts m) (fits : ProofFits p) (no_greater : p.fork ≤ m.fork)
    (none : refusal_of accepts p m ≡ None) where
  abbrev after : Content
  after = with_upgrade p m

  open_ : IsUnrefused accepts p m
  open_ = unrefused accepts p m none

  -- the block that comes in
  pub record ComesIn (b : Block) : Type 0 where
    pub is : p.block ≡ Some b
    pub new : held after b.index ≡ false

  block_cases : ((b : Block) × ComesIn b) ⊎ ((admitted p m ≡ after) × (incoming p after ≡ None))
  block_cases = ByBlock p.block refl
    where
      ByBlock : (block : Option Block) → p.block ≡ block → ((b : Block) × ComesIn b) ⊎ ((admitted p m ≡ after) × (incoming p after ≡ None))
      ByBlock None is = inr (rw is refl, rw is refl)
      ByBlock (Some b) is = elim (cases_Bool (held after b.index)) [
        | inl here ↦ inr (rw (is, here) refl, rw (is, here) refl)
        | inr new ↦ inl (b, record { is = is; new = new })
      ]

  whole_after : IsWhole accepts after
  whole_after = upgraded_whole accepts p m whole fits no_greater open_

  joins_after : (b : Block) → ComesIn b → Joins after b.index b.bytes b.trail (levels_up after (part_of_block b))
  joins_after b comes = admitted_joins accepts p m b whole fits no_greater open_ comes.is

  admitted_is : (b : Block) → ComesIn b → admitted p m ≡ fetched b after
  admitted_is b comes = rw (comes.is, comes.new) refl

  incoming_is : (b : Block) → ComesIn b → incoming p after ≡ Some b.index
  incoming_is b comes = rw (comes.is, comes.new) refl

  commit_is : (upgrade : Option UpgradePart) (index : Option ℕ) → p.upgrade ≡ upgrade → incoming p after ≡ index → commit_of p m ≡ commit_by p m upgrade index
  commit_is upgrade index up comes = ap (λ (u : Option UpgradePart). commit_by p m u (incoming p after)) up ∙ ap (commit_by p m upgrade) comes

  upgrade_is : (u : UpgradePart) → upgrade_commit p m u None ≡ Upgrade u.length
  upgrade_is u = rw (le-ltb m.fork p.fork no_greater) refl

  upgrade_fetch_is : (u : UpgradePart) (index : ℕ) → upgrade_commit p m u (Some index) ≡ UpgradeFetch u.length index
  upgrade_fetch_is u index = rw (le-ltb m.fork p.fork no_greater) refl

  keeps_by : (commit : Option Commit) (c : Content) → commit_of p m ≡ commit → admitted p m ≡ c → KeepsHistory m c commit
      → KeepsHistory m (admitted p m) (commit_of p m)
  keeps_by commit c told is keeps =
      subst (λ (k : Option Commit). KeepsHistory m (admitted p m) k) (sym told) (subst (λ (d : Content). KeepsHistory m d commit) (sym is) keeps)

  without_upgrade : p.upgrade ≡ None → KeepsHistory m (admitted p m) (commit_of p m)
  without_upgrade up =
      let same : after ≡ m = rw up refl in
      elim block_cases [
        | inr rest ↦ keeps_by None m (commit_is None None up rest.1) (rest.0 ∙ same) refl
        | inl comes ↦
            let b = comes.0 in
            let new : held m b.index ≡ false = subst (λ (c : Content). held c b.index ≡ false) same comes.1.new in
            let keeps = fetch_keeps m b whole.sound (subst (λ (c : Content). Joins c b.index b.bytes b.trail (levels_up c (part_of_block b))) same (joins_after b comes.1)) new in
            keeps_by (Some (Fetch b.index)) (fetched b m) (commit_is None (Some b.index) up (incoming_is b comes.1)) (admitted_is b comes.1 ∙ ap (fetched b) same) keeps
      ]

  under_upgrade : (u : UpgradePart) → p.upgrade ≡ Some u → KeepsHistory m (admitted p m) (commit_of p m)
  under_upgrade u up =
      let on = goes_on p m u up no_greater open_.limit open_.head in
      let longer = upgrade_content u.length u.nodes u.signature m in
      elim block_cases [
        | inr rest ↦
            keeps_by (Some (Upgrade u.length)) longer (commit_is (Some u) None up rest.1 ∙ ap Some (upgrade_is u)) (rest.0 ∙ on.after)
            (((on.longer, on.blocks), tt), refl)
        | inl comes ↦
            let b = comes.0 in
            let new : held longer b.index ≡ false = subst (λ (c : Content). held c b.index ≡ false) on.after comes.1.new in
            let keeps = upgrade_fetch_keeps m u b on.longer on.blocks
            (subst (λ (c : Content). Joins c b.index b.bytes b.trail (levels_up c (part_of_block b))) on.after (joins_after b comes.1))
            new in
            keeps_by (Some (UpgradeFetch u.length b.index)) (fetched b longer) (commit_is (Some u) (Some b.index) up (incoming_is b comes.1) ∙ ap Some (upgrade_fetch_is u b.index))
            (admitted_is b comes.1 ∙ ap (fetched b) on.after) keeps
      ]

  pub admit_history : KeepsHistory m (admitted p m) (commit_of p m)
  admit_history = ByUpgrade p.upgrade refl
    where
      ByUpgrade : (upgrade : Option UpgradePart) → p.upgrade ≡ upgrade → KeepsHistory m (admitted p m) (commit_of p m)
      ByUpgrade None up = without_upgrade up
      ByUpgrade (Some u) up = under_upgrade u up
