-- A whole content stays whole under each proof that isn't refused, of its own fork or of a greater one.
use Rattle.std.proofs.Common.{◌≡◌, ℕ, Bool, true, false, ◌<◌, ◌≤◌, inl, inr, List, length, Option, Some, None, IfSome, refl, sym, ap, subst, ◌∙◌, arith, nat_lt, nat_eq}
use Rattle.std.specs.Prelude.{is_none, not, ◌&&◌}
use Rattle.std.specs.List.{AllByRecursion}
use Rattle.std.proofs.lemmas.Bool.{cases_lt, cases_Bool, lt-ltb, ltb-false, ne_eqb, eqb-true, not-false}
use Rattle.flat_tree.specs.Covers.{cover_of}
use Rattle.flat_tree.specs.Roots.{full_roots_of}
use Rattle.flat_tree.specs.Subtrees.{Subtree}
use Rattle.flat_tree.specs.declared.limits.TheConstants.{MAX_BLOCKS, MAX_CORE_BYTES}
use Rattle.flat_tree.proofs.CoverLemmas.{cover-full}
use Rattle.merkle_nodes.specs.declared.limit.What.TheVariants.{Blocks}
use Rattle.merkle_nodes.specs.Bundle.{TwigFits}
use Rattle.merkle_nodes.specs.Roots.{root_hash_of, signed_text}
use Rattle.proof_form.specs.declared.proof.UpgradePart.{UpgradePart}
use Rattle.proof_form.specs.Proofs.{Proof, Block, BlockFits, UpgradeFits, ProofFits}
use Rattle.node_set.specs.declared.fault.Refusal.{Refusal}
use Rattle.node_set.specs.declared.fault.Refusal.TheVariants.{Limit, OldFork, NewFork, BadSignature}
use Rattle.node_set.specs.Contents.{Content, held, roots, bytes_under}
use Rattle.node_set.specs.Evidence.{IsOf, OrClash}
use Rattle.node_set.specs.Refuses.{or_else, refuse_if}
use Rattle.node_set.specs.Whole.{IsSound, IsWhole}
use Rattle.node_set.proofs.EvidenceLemmas.{or_clash_then}
use Rattle.node_set.proofs.OffsetTruth.{offsets_are_of}
use Rattle.node_set.proofs.SizeTruth.{nodes_are_of, blocks_are_of}
use Rattle.node_set.proofs.SoundLemmas.{whole_signed}
use Rattle.core_forks.specs.Reorganise.{reorganise_content}
use Rattle.proof_check.specs.Upgraded.{with_upgrade, length_after, new_roots}
use Rattle.proof_check.specs.Parts.{Part, part_of_block, of_part, range_refusal, levels_up, differs_refusal, uncovered_refusal}
use Rattle.proof_check.specs.Judge.{fork_refusal, longer_refusal, due_start, start_refusal, head_refusal, limit_refusal, each_part, signature_refusal, fetched, refusal_of, admitted}
use Rattle.proof_check.proofs.Refusing.{first_none, second_none, not_refused}
use Rattle.proof_check.proofs.FetchSound.{Joins, fetch_whole}
use Rattle.proof_check.proofs.AdmitWhole.{IsUnrefused, unrefused, upgraded_whole, block_joins}
use Rattle.judge_laws.specs.Honest.{StoredIsOf}
use Rattle.judge_laws.proofs.KeptRoots.{new_roots-are}
use Rattle.judge_laws.proofs.Reorganised.{reorganise_sound}

-- ---- an upgrade under a greater fork

pub in_upgrade : (p : Proof) (u : UpgradePart) (refusal : UpgradePart → Option Refusal) → p.upgrade ≡ Some u → of_part p.upgrade refusal ≡ None
    → refusal u ≡ None
in_upgrade p u refusal up none = subst (λ (part : Option UpgradePart). of_part part refusal ≡ None) up none

-- under a greater fork a head that isn't refused has an upgrade
pub greater_upgrade : (p : Proof) (m : Content) → m.fork < p.fork → head_refusal p m ≡ None → (u : UpgradePart) × (p.upgrade ≡ Some u)
greater_upgrade p m greater head = ByUpgrade p.upgrade refl
  where
    ByUpgrade : (upgrade : Option UpgradePart) → p.upgrade ≡ upgrade → (u : UpgradePart) × (p.upgrade ≡ Some u)
    ByUpgrade (Some u) up = (u, up)
    ByUpgrade None up =
        let forks = first_none (fork_refusal p m) (or_else (of_part p.upgrade (longer_refusal p m)) (of_part p.upgrade (start_refusal p m))) head in
        let none : refuse_if (nat_lt m.fork p.fork && is_none p.upgrade) (NewFork m.fork) ≡ None =
        second_none (refuse_if (nat_lt p.fork m.fork) (OldFork m.fork)) (refuse_if (nat_lt m.fork p.fork && is_none p.upgrade) (NewFork m.fork)) forks in
        let refused : (nat_lt m.fork p.fork && is_none p.upgrade) ≡ false = not_refused (nat_lt m.fork p.fork && is_none p.upgrade) (NewFork m.fork) none in
        let test : (nat_lt m.fork p.fork && is_none p.upgrade) ≡ true = rw (lt-ltb m.fork p.fork greater, up) refl in
        let clash : true ≡ false = sym test ∙ refused in
        cc

-- the upgrade is of a whole log, within the limits, whose roots are the twigs that came: it replaces the content's
pub record Replaces (p : Proof) (m : Content) (u : UpgradePart) : Type 0 where
  pub starts : u.start ≡ 0
  pub blocks : u.length ≤ MAX_BLOCKS
  pub count : length (new_roots u) ≡ length (full_roots_of u.length)
  pub twigs_fit : AllByRecursion TwigFits (new_roots u)
  pub roots_came : new_roots u ≡ u.nodes
  pub after : with_upgrade p m ≡ reorganise_content p.fork u.length (new_roots u) u.signature m
  pub bytes : bytes_under (roots (with_upgrade p m)) ≤ MAX_CORE_BYTES

pub greater_replaces : (p : Proof) (m : Content) (u : UpgradePart) → p.upgrade ≡ Some u → ProofFits p → m.fork < p.fork → limit_refusal p m ≡ None
    → head_refusal p m ≡ None
    → Replaces p m u
greater_replaces p m u up fits greater limit head =
    let spelled : UpgradeFits u = subst (λ (part : Option UpgradePart). IfSome part UpgradeFits) up fits.upgrade in
    let due : due_start p m ≡ 0 = rw (ne_eqb p.fork m.fork (λ same. omega (arith, same, greater))) refl in
    let start = in_upgrade p u (start_refusal p m) up (second_none _ _ (second_none (fork_refusal p m) _ head)) in
    let from : u.start ≡ 0 = eqb-true u.start (due_start p m) (not-false (nat_eq u.start (due_start p m)) (not_refused _ _ start)) ∙ due in
    let count : length u.nodes ≡ length (cover_of 0 u.length) = spelled.nodes.count ∙ ap (λ (k : ℕ). length (cover_of k u.length)) from in
    let came = new_roots-are u count in
    let few = in_upgrade p u (λ v. refuse_if (nat_lt MAX_BLOCKS v.length) (Limit Blocks MAX_BLOCKS)) up (first_none _ _ limit) in
    let many = not_refused (is_none (head_refusal p m) && nat_lt MAX_CORE_BYTES (bytes_under (roots (with_upgrade p m)))) _ (second_none _ _ limit) in
    let not_many : nat_lt MAX_CORE_BYTES (bytes_under (roots (with_upgrade p m))) ≡ false =
    sym (ap (λ (r : Option Refusal). is_none r && nat_lt MAX_CORE_BYTES (bytes_under (roots (with_upgrade p m)))) head) ∙ many in
    record {
      starts = from;
      blocks = ltb-false MAX_BLOCKS u.length (not_refused (nat_lt MAX_BLOCKS u.length) _ few);
      count = ap length came ∙ count ∙ ap (λ (trees : List Subtree). length trees) (cover-full u.length);
      twigs_fit = subst (AllByRecursion TwigFits) (sym came) spelled.nodes.twigs;
      roots_came = came;
      after = rw (up, lt-ltb m.fork p.fork greater) refl;
      bytes = ltb-false MAX_CORE_BYTES (bytes_under (roots (with_upgrade p m))) not_many;
    }

-- the content of the other log is sound, and whole where the verifier accepts its head
pub reorganised_sound : (p : Proof) (m : Content) (u : UpgradePart) → IsSound m → Replaces p m u → IsSound (with_upgrade p m)
reorganised_sound p m u sound takes =
    subst IsSound (sym takes.after) (reorganise_sound m u.length (new_roots u) sound takes.count takes.twigs_fit p.fork u.signature)

reorganised_whole : (accepts : List ℕ → List ℕ → Bool) (p : Proof) (m : Content) (u : UpgradePart) → p.upgrade ≡ Some u → IsWhole accepts m → ProofFits p
    → Replaces p m u → signature_refusal accepts p (with_upgrade p m) ≡ None → IsWhole accepts (with_upgrade p m)
reorganised_whole accepts p m u up whole fits takes signed =
    let spelled : UpgradeFits u = subst (λ (part : Option UpgradePart). IfSome part UpgradeFits) up fits.upgrade in
    let after = reorganise_content p.fork u.length (new_roots u) u.signature m in
    let none : signature_refusal accepts p after ≡ None = subst (λ (c : Content). signature_refusal accepts p c ≡ None) takes.after signed in
    let good =
    in_upgrade p u (λ v. refuse_if (not (accepts (signed_text (root_hash_of (roots after)) after.length after.fork) v.signature)) BadSignature) up none in
    let few : bytes_under (roots after) ≤ MAX_CORE_BYTES = subst (λ (c : Content). bytes_under (roots c) ≤ MAX_CORE_BYTES) takes.after takes.bytes in
    subst (IsWhole accepts) (sym takes.after)
    (whole_signed accepts after (reorganise_sound m u.length (new_roots u) whole.sound takes.count takes.twigs_fit p.fork u.signature) takes.blocks
    (omega (arith, fits.fork)) few
    (record { signature = spelled.signature; accepted = not-false _ (not_refused _ _ good) }))

-- ---- any proof

pub after_length : (p : Proof) (m : Content) → (with_upgrade p m).length ≡ length_after p m
after_length p m = ByUpgrade p.upgrade refl
  where
    ByUpgrade : (upgrade : Option UpgradePart) → p.upgrade ≡ upgrade → (with_upgrade p m).length ≡ length_after p m
    ByUpgrade None none = rw none refl
    ByUpgrade (Some u) up = elim (cases_Bool (nat_lt m.fork p.fork)) [ inl greater ↦ rw (up, greater) refl | inr other ↦ rw (up, other) refl ]

module _ (accepts : List ℕ → List ℕ → Bool) (p : Proof) (m : Content) (whole : IsWhole accepts m) (fits : ProofFits p)
    (none : refusal_of accepts p m ≡ None) where
  abbrev after : Content
  after = with_upgrade p m

  pub passes : IsUnrefused accepts p m
  passes = unrefused accepts p m none

  -- the content with the upgrade in is whole
  pub after_whole : IsWhole accepts after
  after_whole = elim (cases_lt m.fork p.fork) [
    | inr no_greater ↦ upgraded_whole accepts p m whole fits no_greater passes
    | inl greater ↦
        let part = greater_upgrade p m greater passes.head in
        reorganised_whole accepts p m part.0 part.1 whole fits (greater_replaces p m part.0 part.1 fits greater passes.limit passes.head) passes.signed
  ]

  -- the block joins it
  pub block_joins_after : (b : Block) → p.block ≡ Some b → Joins after b.index b.bytes b.trail (levels_up after (part_of_block b))
  block_joins_after b is =
      let spelled : BlockFits b = subst (λ (part : Option Block). IfSome part BlockFits) is fits.block in
      let range =
      subst (λ (n : ℕ). range_refusal n (part_of_block b) ≡ None) (sym (after_length p m)) (in_block (range_refusal (length_after p m)) passes.range) in
      block_joins after b after_whole.sound spelled range (in_block (uncovered_refusal after) passes.reaches) (in_block (differs_refusal after) passes.meets)
    where
      in_block : (refusal : Part → Option Refusal) → each_part p refusal ≡ None → refusal (part_of_block b) ≡ None
      in_block refusal free =
          subst (λ (part : Option Block). of_part part (λ (v : Block). refusal (part_of_block v)) ≡ None) is (first_none _ _ free)

  -- the content with the block in is whole
  pub admitted_whole : IsWhole accepts (admitted p m)
  admitted_whole = ByBlock p.block refl
    where
      ByBlock : (block : Option Block) → p.block ≡ block → IsWhole accepts (admitted p m)
      ByBlock None is = let same : admitted p m ≡ after = rw is refl in subst (IsWhole accepts) (sym same) after_whole
      ByBlock (Some b) is = elim (cases_Bool (held after b.index)) [
        | inl here ↦ let same : admitted p m ≡ after = rw (is, here) refl in subst (IsWhole accepts) (sym same) after_whole
        | inr new ↦
            let same : admitted p m ≡ fetched b after = rw (is, new) refl in
            subst (IsWhole accepts) (sym same)
            (fetch_whole accepts after b.index b.bytes b.trail (levels_up after (part_of_block b)) after_whole (block_joins_after b is))
      ]

  -- what is stored is that of each log that the content is of, or inputs clash
  pub admitted_is_of : (log : List (List ℕ)) → IsOf (admitted p m) log → OrClash (StoredIsOf (admitted p m) log) (admitted p m) log
  admitted_is_of log of =
      or_clash_then (nodes_are_of (admitted p m) log admitted_whole.sound of) (λ nodes.
      or_clash_then (blocks_are_of (admitted p m) log admitted_whole.sound of) (λ blocks.
      or_clash_then (offsets_are_of (admitted p m) log admitted_whole.sound of) (λ offsets.
      inl (record { nodes = nodes; blocks = blocks; offsets = offsets }))))
