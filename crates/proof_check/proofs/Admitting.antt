-- The change of an admission: its head, roots, commit and fresh nodes are those of the content after.
use Rattle.std.proofs.Common.{◌≡◌, ℕ, Bool, true, false, ◌/◌, ◌^◌, ◌<◌, inl, inr, List, Option, Some, None, refl, sym, ap, subst, ◌∙◌, arith, nat_lt, if◌then◌else◌}
use Rattle.std.specs.Prelude.{is_some, ◌&&◌, not}
use Rattle.std.proofs.lemmas.Bool.{cases_lt, le-ltb}
use Rattle.flat_tree.proofs.NumberLemmas.{leaf}
use Rattle.merkle_nodes.specs.declared.node.Node.{Node}
use Rattle.merkle_nodes.specs.declared.node.Twig.{Twig}
use Rattle.merkle_nodes.specs.declared.roots.Head.{Head}
use Rattle.merkle_nodes.specs.Tree.{leaf_of}
use Rattle.merkle_nodes.specs.Joined.{Values, or_value}
use Rattle.merkle_nodes.specs.Roots.{root_hash_of, signed_text}
use Rattle.proof_form.specs.declared.proof.UpgradePart.{UpgradePart}
use Rattle.proof_form.specs.Proofs.{Proof, Block}
use Rattle.node_set.specs.declared.fault.Refusal.TheVariants.{BadSignature}
use Rattle.node_set.specs.Contents.{Content, Blocks, held, holds, roots}
use Rattle.node_set.specs.Closure.{in_closure}
use Rattle.node_set.specs.Whole.{IsSound}
use Rattle.node_set.specs.Nodes.{with_nodes}
use Rattle.node_set.specs.Paths.{path_values}
use Rattle.node_set.specs.Refuses.{refuse_if}
use Rattle.node_set.specs.Walks.{IsFirstStored}
use Rattle.node_set.specs.Changes.{fetch_content}
use Rattle.node_set.proofs.ClosureLemmas.{held_in_closure, held-any_under}
use Rattle.proof_check.specs.declared.path.Met.{Met}
use Rattle.proof_check.specs.Upgraded.{with_upgrade, length_after}
use Rattle.proof_check.specs.Parts.{of_part}
use Rattle.proof_check.specs.Judge.{fetched, with_block, incoming, commit_of, upgrade_commit, signature_refusal}
use Rattle.proof_check.specs.Meets.{IsTop, behind_end}
use Rattle.proof_check.specs.Reaching.{IfPart, joined_of, incoming_of, Meets, MeetsAt, AgreesBelow}
use Rattle.proof_check.specs.Settling.{commit_with, PutsPart}
use Rattle.proof_check.proofs.AfterUpgrade.{IsAfter, fresh_upgrade, fetched_path, fetched_other, fetched_roots}
use Rattle.proof_check.proofs.Folding.{path-past}

-- ---- the head

-- a block that comes in leaves the head
pub with_head : (p : Proof) (after : Content)
    → ((with_block p after).fork ≡ after.fork) × ((with_block p after).length ≡ after.length) × ((with_block p after).signature ≡ after.signature)
with_head p after = either p.block refl
  where
    same : (b : Block) (is_held : Bool) → held after b.index ≡ is_held → p.block ≡ Some b
        → ((with_block p after).fork ≡ after.fork) × ((with_block p after).length ≡ after.length) × ((with_block p after).signature ≡ after.signature)
    same b true is block = rw (block, is) (refl, refl, refl)
    same b false is block = rw (block, is) (refl, refl, refl)

    either : (block : Option Block) → p.block ≡ block
        → ((with_block p after).fork ≡ after.fork) × ((with_block p after).length ≡ after.length) × ((with_block p after).signature ≡ after.signature)
    either None block = rw block (refl, refl, refl)
    either (Some b) block = same b (held after b.index) refl block

pub record IsHeadOf (m : Content) (head : Head) : Type 0 where
  pub fork : head.fork ≡ m.fork
  pub length : head.length ≡ m.length
  pub signature : head.signature ≡ m.signature

-- the head with the upgrade in
pub head_after : (p : Proof) (m : Content) (head new : Head) → p.fork ≡ m.fork → IsHeadOf m head → (p.upgrade ≡ None → new ≡ head)
    → IfPart p.upgrade (λ u. new ≡ record { fork = head.fork; length = u.length; signature = u.signature }) → IsHeadOf (with_upgrade p m) new
head_after p m head new fork is none some = either p.upgrade refl
  where
    either : (upgrade : Option UpgradePart) → p.upgrade ≡ upgrade → IsHeadOf (with_upgrade p m) new
    either None here = rw (here, none here) is
    either (Some u) here =
        let equal : nat_lt m.fork p.fork ≡ false = le-ltb m.fork p.fork (omega (arith, fork)) in
        let new_is : new ≡ record { fork = head.fork; length = u.length; signature = u.signature } =
        subst (λ o. IfPart o (λ (v : UpgradePart). new ≡ record { fork = head.fork; length = v.length; signature = v.signature })) here some in
        rw (here, equal, new_is) (record { fork = is.fork; length = refl; signature = refl })

-- ---- the signature

pub signature_same : (accepts : List ℕ → List ℕ → Bool) (p : Proof) (m after : Content) (rs : List Node) (fork : ℕ) → after.length ≡ length_after p m → after.fork ≡ fork
    → roots after ≡ rs
    → of_part p.upgrade (λ (u : UpgradePart). refuse_if (not (accepts (signed_text (root_hash_of rs) u.length fork) u.signature)) BadSignature) ≡ signature_refusal accepts p after
signature_same accepts p m after rs fork length_is fork_is roots_are = either p.upgrade refl
  where
    either : (upgrade : Option UpgradePart) → p.upgrade ≡ upgrade
        → of_part p.upgrade (λ (u : UpgradePart). refuse_if (not (accepts (signed_text (root_hash_of rs) u.length fork) u.signature)) BadSignature) ≡ signature_refusal accepts p after
    either None here = rw here refl
    either (Some u) here =
        let blocks : after.length ≡ u.length = length_is ∙ rw here refl in
        rw (here, roots_are, fork_is, blocks) refl

-- ---- the commit

pub commit_is : (p : Proof) (m : Content) (index : Option ℕ) → p.fork ≡ m.fork → index ≡ incoming_of (held (with_upgrade p m)) p.block
    → commit_with p.upgrade index ≡ commit_of p m
commit_is p m index fork is = either p.upgrade refl
  where
    own : (block : Option Block) → p.block ≡ block → incoming_of (held (with_upgrade p m)) p.block ≡ incoming p (with_upgrade p m)
    own None here = rw here refl
    own (Some b) here = rw here refl

    same : index ≡ incoming p (with_upgrade p m)
    same = is ∙ own p.block refl

    equal : nat_lt m.fork p.fork ≡ false
    equal = le-ltb m.fork p.fork (omega (arith, fork))

    by_upgrade : (u : UpgradePart) (found : Option ℕ) → commit_with (Some u) found ≡ Some (upgrade_commit p m u found)
    by_upgrade u None = rw equal refl
    by_upgrade u (Some k) = rw equal refl

    by_none : (found : Option ℕ) → incoming p (with_upgrade p m) ≡ found → p.upgrade ≡ None → commit_with None found ≡ commit_of p m
    by_none None found here = rw (found, here) refl
    by_none (Some k) found here = rw (found, here) refl

    either : (upgrade : Option UpgradePart) → p.upgrade ≡ upgrade → commit_with p.upgrade index ≡ commit_of p m
    either None here = ap (λ o. commit_with o index) here ∙ ap (commit_with None) same ∙ by_none (incoming p (with_upgrade p m)) refl here
    either (Some u) here = ap (λ o. commit_with o index) here ∙ ap (commit_with (Some u)) same ∙ by_upgrade u (incoming p (with_upgrade p m)) ∙ sym (rw here refl)

-- ---- roots and nodes

not_both : (old now other : Option Twig) → now ≡ None → (if is_some old && is_some now then None else other) ≡ other
not_both (Some twig) now other none = rw none refl
not_both None now other none = refl

module _ (p : Proof) (m after : Content) (is : IsAfter p m after) (sound : IsSound m) (agrees : AgreesBelow m.length m.node (joined_of p m)) where
  -- the block that comes in, from where it meets a stored node
  fetched_is : (b : Block) (met : Met) → IsTop after b met
      → fetched b after ≡ fetch_content b.index b.bytes (path_values b.index (leaf_of b.bytes) b.trail met.level) after
  fetched_is b met top = ap (λ (k : ℕ). fetch_content b.index b.bytes (path_values b.index (leaf_of b.bytes) b.trail k) after) top.levels

  first_after : (b : Block) (met : Met) → MeetsAt (length_after p m) (held m) b met → IsFirstStored after.length (held after) b.index met.level
  first_after b met meets =
      subst (λ (n : ℕ). IsFirstStored n (held after) b.index met.level) (sym is.length)
      (subst (λ (h : ℕ → Bool). IsFirstStored (length_after p m) h b.index met.level) (sym (ap holds is.block)) meets.first)

  -- the roots
  pub roots_stay : (block : Option Block) (met : Option Met) → p.block ≡ block → Meets block met (MeetsAt (length_after p m) (held m)) → Meets block met (IsTop after)
      → IfPart block (λ b. b.index < length_after p m) → roots (with_block p after) ≡ roots after
  roots_stay None met here meets tops within = rw here refl
  roots_stay (Some b) None here meets tops within = absurd meets
  roots_stay (Some b) (Some met) here meets tops within = either (held after b.index) refl
    where
      either : (is_held : Bool) → held after b.index ≡ is_held → roots (with_block p after) ≡ roots after
      either true here_held = rw (here, here_held) refl
      either false here_held =
          rw (here, here_held) (ap roots (fetched_is b met tops)
          ∙ fetched_roots after is.sound b met.level (first_after b met meets) (omega (arith, within, is.length)))

  -- a block that is held meets its leaf
  held_level : (b : Block) (met : Met) → MeetsAt (length_after p m) (held m) b met → held after b.index ≡ true → b.index < length_after p m → met.level ≡ 0
  held_level b met meets is_held within = elim (cases_lt 0 met.level) [
    | inr low ↦ omega (arith, low)
    | inl some ↦
        let mine : held m b.index ≡ true = ap (λ (block : Blocks). holds block b.index) (sym is.block) ∙ is_held in
        let any = held-any_under (held m) 0 b.index b.index mine (omega (arith, leaf b.index), omega (arith, leaf b.index)) in
        let stored = held_in_closure (length_after p m) (held m) 0 b.index any (omega (arith, leaf b.index, within)) in
        let place : b.index / 2 ^ 0 ≡ b.index = omega arith in
        let clash : true ≡ false = sym stored ∙ ap (in_closure (length_after p m) (held m) 0) (sym place) ∙ meets.first.first 0 some in
        cc
  ]

  -- the fresh nodes
  pub fresh_is : (block : Option Block) (met : Option Met) (old new : List Node) → p.block ≡ block → Meets block met (MeetsAt (length_after p m) (held m))
      → Meets block met (IsTop after) → IfPart block (λ b. b.index < length_after p m) → PutsPart block met old new
      → ((d o : ℕ) → with_nodes (λ e q. None) old d o ≡ behind_end m.length (length_after p m) (held m) (joined_of p m) d o)
      → (d o : ℕ) → with_nodes (λ e q. None) new d o ≡ (if is_some (m.node d o) && is_some (after.node d o) then None else (with_block p after).node d o)
  fresh_is None met old new here meets tops within puts before d o =
      rw (here, puts) (before d o ∙ fresh_upgrade p m after is sound agrees d o)
  fresh_is (Some b) None old new here meets tops within puts before d o = absurd meets
  fresh_is (Some b) (Some met) old new here meets tops within puts before d o = either (held after b.index) refl
    where
      path : Values
      path = path_values b.index (leaf_of b.bytes) b.trail met.level

      put : with_nodes (λ e q. None) new d o ≡ or_value (path_values b.index (leaf_of b.bytes) b.trail met.level d o) (behind_end m.length (length_after p m) (held m) (joined_of p m) d o)
      put = puts (λ e q. None) d o ∙ ap (or_value (path_values b.index (leaf_of b.bytes) b.trail met.level d o)) (before d o)

      upgraded : behind_end m.length (length_after p m) (held m) (joined_of p m) d o ≡ (if is_some (m.node d o) && is_some (after.node d o) then None else after.node d o)
      upgraded = fresh_upgrade p m after is sound agrees d o

      either : (is_held : Bool) → held after b.index ≡ is_held
          → with_nodes (λ e q. None) new d o ≡ (if is_some (m.node d o) && is_some (after.node d o) then None else (with_block p after).node d o)
      either true here_held =
          let low = held_level b met meets here_held within in
          let none : path_values b.index (leaf_of b.bytes) b.trail met.level d o ≡ None = path-past b.index (leaf_of b.bytes) b.trail met.level d o (omega (arith, low)) in
          rw (here, here_held) (put ∙ rw none upgraded)
      either false here_held =
          let block_is : with_block p after ≡ fetch_content b.index b.bytes (path_values b.index (leaf_of b.bytes) b.trail met.level) after =
          rw (here, here_held) (fetched_is b met tops) in
          put ∙ by_path (path_values b.index (leaf_of b.bytes) b.trail met.level d o) refl
          ∙ ap (λ (n : Content). if is_some (m.node d o) && is_some (after.node d o) then None else n.node d o) (sym block_is)
        where
          first : IsFirstStored after.length (held after) b.index met.level
          first = first_after b met meets

          below_end : b.index < after.length
          below_end = omega (arith, within, is.length)

          by_path : (own : Option Twig) → path_values b.index (leaf_of b.bytes) b.trail met.level d o ≡ own
              → or_value (path_values b.index (leaf_of b.bytes) b.trail met.level d o) (behind_end m.length (length_after p m) (held m) (joined_of p m) d o)
              ≡ (if is_some (m.node d o) && is_some (after.node d o) then None
              else (fetch_content b.index b.bytes (path_values b.index (leaf_of b.bytes) b.trail met.level) after).node d o)
          by_path None own =
              ap (λ found. or_value found (behind_end m.length (length_after p m) (held m) (joined_of p m) d o)) own
              ∙ upgraded
              ∙ ap (λ x. if is_some (m.node d o) && is_some (after.node d o) then None else x) (sym (fetched_other after is.sound b met.level first below_end d o own))
          by_path (Some twig) own =
              let here_is = fetched_path after is.sound b met.level first below_end d o twig own in
              ap (λ found. or_value found (behind_end m.length (length_after p m) (held m) (joined_of p m) d o)) own
              ∙ sym here_is.1
              ∙ sym (not_both (m.node d o) (after.node d o) _ here_is.0)
