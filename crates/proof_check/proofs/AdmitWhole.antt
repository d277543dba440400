-- A whole content stays whole under a proof that isn't refused.
use Rattle.std.proofs.Common.{◌≡◌, ℕ, Bool, true, false, ◌+◌, ◌-◌, ◌/◌, ◌^◌, ◌<◌, ◌≤◌, inl, inr, List, length, Option, Some, None, IfSome, refl, sym, ap, subst, ◌∙◌, arith, nat_le, nat_lt, nat_eq}
use Rattle.std.specs.Prelude.{is_none, not, ◌&&◌}
use Rattle.std.proofs.lemmas.Bool.{cases_Bool, le-leb, le-ltb, ltb-false, leb-false, eq-eqb, eqb-true, not-false}
use Rattle.flat_tree.specs.Subtrees.{first_block_of, end_block_of}
use Rattle.flat_tree.specs.Roots.{depth_over}
use Rattle.flat_tree.specs.Covers.{cover_of}
use Rattle.flat_tree.specs.declared.limits.TheConstants.{MAX_BLOCKS, MAX_CORE_BYTES}
use Rattle.flat_tree.proofs.NumberLemmas.{leaf}
use Rattle.merkle_nodes.specs.declared.node.Twig.{Twig}
use Rattle.merkle_nodes.specs.declared.limit.What.TheVariants.{Blocks}
use Rattle.merkle_nodes.specs.Roots.{root_hash_of, signed_text}
use Rattle.proof_form.specs.declared.proof.UpgradePart.{UpgradePart}
use Rattle.proof_form.specs.Proofs.{Proof, Block, BlockFits, UpgradeFits as UpgradeSpelled, ProofFits}
use Rattle.node_set.specs.declared.fault.Refusal.{Refusal}
use Rattle.node_set.specs.declared.fault.Refusal.TheVariants.{HashDiffers, Limit, BadSignature}
use Rattle.node_set.specs.Contents.{Content, held, roots, bytes_under}
use Rattle.node_set.specs.Paths.{folded_at}
use Rattle.node_set.specs.Same.{is_same}
use Rattle.node_set.specs.Refuses.{refuse_if}
use Rattle.node_set.specs.Offsets.{levels_to}
use Rattle.node_set.specs.Walks.{IsFirstStored}
use Rattle.node_set.specs.Whole.{IsSound, IsWhole}
use Rattle.node_set.specs.Changes.{upgrade_content, UpgradeFits}
use Rattle.node_set.proofs.SoundLemmas.{stored_value}
use Rattle.node_set.proofs.UpgradeLemmas.{HasParts, upgraded_bytes, upgrade_whole}
use Rattle.proof_check.specs.Upgraded.{with_upgrade, length_after}
use Rattle.proof_check.specs.Parts.{of_part, Part, part_of_block, range_refusal, levels_up, stored_top, number_above, differs_refusal, uncovered_refusal}
use Rattle.proof_check.specs.Judge.{fork_refusal, longer_refusal, start_refusal, due_start, head_refusal, limit_refusal, each_part, signature_refusal, fetched, seek_refusal, refusal_of, admitted}
use Rattle.proof_check.proofs.Refusing.{first_none, second_none, not_refused, same_twig, first_stored}
use Rattle.proof_check.proofs.FetchSound.{Joins, fetch_whole}

-- no refusal holds
pub record IsUnrefused (accepts : List ℕ → List ℕ → Bool) (p : Proof) (m : Content) : Type 0 where
  pub limit : limit_refusal p m ≡ None
  pub range : each_part p (range_refusal (length_after p m)) ≡ None
  pub head : head_refusal p m ≡ None
  pub meets : each_part p (differs_refusal (with_upgrade p m)) ≡ None
  pub reaches : each_part p (uncovered_refusal (with_upgrade p m)) ≡ None
  pub signed : signature_refusal accepts p (with_upgrade p m) ≡ None
  pub byte : seek_refusal p (with_upgrade p m) ≡ None

pub unrefused : (accepts : List ℕ → List ℕ → Bool) (p : Proof) (m : Content) → refusal_of accepts p m ≡ None → IsUnrefused accepts p m
unrefused accepts p m none =
    let after = with_upgrade p m in
    let past_limit = second_none (limit_refusal p m) _ none in
    let past_range = second_none (each_part p (range_refusal (length_after p m))) _ past_limit in
    let past_head = second_none (head_refusal p m) _ past_range in
    let past_meets = second_none (each_part p (differs_refusal after)) _ past_head in
    let past_reaches = second_none (each_part p (uncovered_refusal after)) _ past_meets in
    record {
      limit = first_none (limit_refusal p m) _ none;
      range = first_none (each_part p (range_refusal (length_after p m))) _ past_limit;
      head = first_none (head_refusal p m) _ past_range;
      meets = first_none (each_part p (differs_refusal after)) _ past_head;
      reaches = first_none (each_part p (uncovered_refusal after)) _ past_meets;
      signed = first_none (signature_refusal accepts p after) _ past_reaches;
      byte = second_none (signature_refusal accepts p after) _ past_reaches;
    }

-- ---- the upgrade

-- under the same fork a head that isn't refused is longer, and starts at the length
pub record GoesOn (p : Proof) (m : Content) (u : UpgradePart) : Type 0 where
  pub longer : m.length < u.length
  pub starts : u.start ≡ m.length
  pub blocks : u.length ≤ MAX_BLOCKS
  pub after : with_upgrade p m ≡ upgrade_content u.length u.nodes u.signature m
  pub bytes : bytes_under (roots (with_upgrade p m)) ≤ MAX_CORE_BYTES

pub goes_on : (p : Proof) (m : Content) (u : UpgradePart) → p.upgrade ≡ Some u → p.fork ≤ m.fork → limit_refusal p m ≡ None → head_refusal p m ≡ None
    → GoesOn p m u
goes_on p m u up no_greater limit head =
    let behind = ltb-false p.fork m.fork (not_refused (nat_lt p.fork m.fork) _ (first_none _ _ (first_none (fork_refusal p m) _ head))) in
    let same : nat_eq p.fork m.fork ≡ true = eq-eqb p.fork m.fork (omega (arith, behind, no_greater)) in
    let rest = second_none (fork_refusal p m) _ head in
    let long : longer_refusal p m u ≡ None = in_part (longer_refusal p m) (first_none _ _ rest) in
    let short : (nat_eq p.fork m.fork && nat_le u.length m.length) ≡ false = not_refused _ _ long in
    let not_shorter : nat_le u.length m.length ≡ false = sym (ap (λ (b : Bool). b && nat_le u.length m.length) same) ∙ short in
    let start : start_refusal p m u ≡ None = in_part (start_refusal p m) (second_none _ _ rest) in
    let due : due_start p m ≡ m.length = rw same refl in
    let wrong = not-false (nat_eq u.start (due_start p m)) (not_refused _ _ start) in
    let few = in_part (λ (v : UpgradePart). refuse_if (nat_lt MAX_BLOCKS v.length) (Limit Blocks MAX_BLOCKS)) (first_none _ _ limit) in
    let many = not_refused (is_none (head_refusal p m) && nat_lt MAX_CORE_BYTES (bytes_under (roots (with_upgrade p m)))) _ (second_none _ _ limit) in
    let open_head : is_none (head_refusal p m) ≡ true = ap is_none head in
    let not_many : nat_lt MAX_CORE_BYTES (bytes_under (roots (with_upgrade p m))) ≡ false =
    sym (ap (λ (b : Bool). b && nat_lt MAX_CORE_BYTES (bytes_under (roots (with_upgrade p m)))) open_head) ∙ many in
    record {
      longer = leb-false u.length m.length not_shorter;
      starts = eqb-true u.start (due_start p m) wrong ∙ due;
      blocks = ltb-false MAX_BLOCKS u.length (not_refused (nat_lt MAX_BLOCKS u.length) _ few);
      after = rw (up, le-ltb m.fork p.fork no_greater) refl;
      bytes = ltb-false MAX_CORE_BYTES (bytes_under (roots (with_upgrade p m))) not_many;
    }
  where
    in_part : (refusal : UpgradePart → Option Refusal) → of_part p.upgrade refusal ≡ None → refusal u ≡ None
    in_part refusal none = subst (λ (part : Option UpgradePart). of_part part refusal ≡ None) up none

-- the upgrade fits
pub upgrade_fits : (p : Proof) (m : Content) (u : UpgradePart) → p.upgrade ≡ Some u → IsSound m → ProofFits p → p.fork ≤ m.fork
    → limit_refusal p m ≡ None → head_refusal p m ≡ None → UpgradeFits u.length u.nodes m
upgrade_fits p m u up sound fits no_greater limit head =
    let on = goes_on p m u up no_greater limit head in
    let spelled : UpgradeSpelled u = subst (λ (part : Option UpgradePart). IfSome part UpgradeSpelled) up fits.upgrade in
    let count : length u.nodes ≡ length (cover_of m.length u.length) =
    spelled.nodes.count ∙ ap (λ (k : ℕ). length (cover_of k u.length)) on.starts in
    let parts : HasParts u.length u.nodes m = record { longer = on.longer; count = count; parts_fit = spelled.nodes.twigs } in
    let bytes : bytes_under (roots (upgrade_content u.length u.nodes u.signature m)) ≤ MAX_CORE_BYTES =
    subst (λ (c : Content). bytes_under (roots c) ≤ MAX_CORE_BYTES) on.after on.bytes in
    let grows = upgraded_bytes m u.length u.nodes sound parts u.signature in
    record { longer = on.longer; blocks = on.blocks; count = count; parts_fit = spelled.nodes.twigs; bytes = omega (arith, bytes, grows) }

-- the content with the upgrade in is whole
pub upgraded_whole : (accepts : List ℕ → List ℕ → Bool) (p : Proof) (m : Content) → IsWhole accepts m → ProofFits p → p.fork ≤ m.fork
    → IsUnrefused accepts p m → IsWhole accepts (with_upgrade p m)
upgraded_whole accepts p m whole fits no_greater open_ = ByUpgrade p.upgrade refl
  where
    ByUpgrade : (upgrade : Option UpgradePart) → p.upgrade ≡ upgrade → IsWhole accepts (with_upgrade p m)
    ByUpgrade None none = let same : with_upgrade p m ≡ m = rw none refl in subst (IsWhole accepts) (sym same) whole
    ByUpgrade (Some u) up =
        let on = goes_on p m u up no_greater open_.limit open_.head in
        let spelled : UpgradeSpelled u = subst (λ (part : Option UpgradePart). IfSome part UpgradeSpelled) up fits.upgrade in
        let after = upgrade_content u.length u.nodes u.signature m in
        let signed : signature_refusal accepts p after ≡ None = subst (λ (c : Content). signature_refusal accepts p c ≡ None) on.after open_.signed in
        let good = subst (λ (part : Option UpgradePart). of_part part (λ (v : UpgradePart).
        refuse_if (not (accepts (signed_text (root_hash_of (roots after)) after.length after.fork) v.signature)) BadSignature) ≡ None) up signed in
        let accepted = not-false _ (not_refused _ _ good) in
        subst (IsWhole accepts) (sym on.after)
        (upgrade_whole accepts m u.length u.nodes u.signature whole.sound whole.limits.fork
        (upgrade_fits p m u up whole.sound fits no_greater open_.limit open_.head) (record { signature = spelled.signature; accepted = accepted }))

-- its length is the length after
pub upgraded_length : (p : Proof) (m : Content) → p.fork ≤ m.fork → (with_upgrade p m).length ≡ length_after p m
upgraded_length p m no_greater = ByUpgrade p.upgrade refl
  where
    ByUpgrade : (upgrade : Option UpgradePart) → p.upgrade ≡ upgrade → (with_upgrade p m).length ≡ length_after p m
    ByUpgrade None none = rw none refl
    ByUpgrade (Some u) up = rw (up, le-ltb m.fork p.fork no_greater) refl

-- ---- the block

-- a part's refusal where its siblings reach a stored node
meets_top : (m : Content) (part : Part) (want : Twig) → levels_up m part ≤ length part.trail → stored_top m part ≡ Some want
    → differs_refusal m part ≡ None → want ≡ folded_at part.offset part.twig part.trail (levels_up m part)
meets_top m part want enough stored none =
    let have = folded_at part.offset part.twig part.trail (levels_up m part) in
    let is : differs_refusal m part ≡ refuse_if (not (is_same want have)) (HashDiffers (number_above part (levels_up m part)) want have) =
    rw (le-leb (levels_up m part) (length part.trail) enough, stored) refl in
    same_twig want have (not-false (is_same want have) (not_refused (not (is_same want have)) _ (sym is ∙ none)))

-- the first stored node of a block's path, from its leaf
pub levels_of_block : (m : Content) (b : Block) → levels_up m (part_of_block b) ≡ levels_to (depth_over m.length b.index) m.node 0 b.index
levels_of_block m b =
    let first : first_block_of 0 b.index ≡ b.index = omega (arith, leaf b.index) in
    let depth : depth_over m.length (first_block_of 0 b.index) - 0 ≡ depth_over m.length b.index = ap (λ (i : ℕ). depth_over m.length i - 0) first ∙ omega arith in
    ap (λ (k : ℕ). levels_to k m.node 0 b.index) depth

-- a block that isn't refused joins
pub block_joins : (m : Content) (b : Block) → IsSound m → BlockFits b → range_refusal m.length (part_of_block b) ≡ None
    → uncovered_refusal m (part_of_block b) ≡ None → differs_refusal m (part_of_block b) ≡ None
    → Joins m b.index b.bytes b.trail (levels_up m (part_of_block b))
block_joins m b sound fits range reaches meets =
    let part = part_of_block b in
    let top = levels_up m part in
    let within : b.index < m.length = omega (arith, ltb-false m.length (end_block_of 0 b.index) (not_refused _ _ range), leaf b.index) in
    let enough : top ≤ length b.trail = ltb-false (length b.trail) top (not_refused _ _ reaches) in
    let first : IsFirstStored m.length (held m) b.index top =
    subst (IsFirstStored m.length (held m) b.index) (sym (levels_of_block m b)) (first_stored m b.index sound within) in
    let stored = stored_value (m.node top (b.index / 2 ^ top)) (sound.closed top (b.index / 2 ^ top) ∙ first.stored) in
    let from_leaf : 0 + top ≡ top = omega arith in
    let at_top : stored_top m part ≡ Some stored.0 = ap (λ (k : ℕ). m.node k (b.index / 2 ^ top)) from_leaf ∙ stored.1 in
    record {
      within = within;
      size = fits.bytes;
      fits = fits.trail.twigs;
      enough = enough;
      first = first;
      meets = stored.1 ∙ ap Some (meets_top m part stored.0 enough at_top meets);
    }

-- the block of a proof that isn't refused joins the content with the upgrade in
pub admitted_joins : (accepts : List ℕ → List ℕ → Bool) (p : Proof) (m : Content) (b : Block) → IsWhole accepts m → ProofFits p → p.fork ≤ m.fork
    → IsUnrefused accepts p m → p.block ≡ Some b → Joins (with_upgrade p m) b.index b.bytes b.trail (levels_up (with_upgrade p m) (part_of_block b))
admitted_joins accepts p m b whole fits no_greater open_ is =
    let after = with_upgrade p m in
    let spelled : BlockFits b = subst (λ (part : Option Block). IfSome part BlockFits) is fits.block in
    let range = subst (λ (k : ℕ). range_refusal k (part_of_block b) ≡ None) (sym (upgraded_length p m no_greater))
    (in_part (range_refusal (length_after p m)) open_.range) in
    block_joins after b (upgraded_whole accepts p m whole fits no_greater open_).sound spelled range (in_part (uncovered_refusal after) open_.reaches)
    (in_part (differs_refusal after) open_.meets)
  where
    in_part : (refusal : Part → Option Refusal) → each_part p refusal ≡ None → refusal (part_of_block b) ≡ None
    in_part refusal free =
        subst (λ (part : Option Block). of_part part (λ (v : Block). refusal (part_of_block v)) ≡ None) is (first_none _ _ free)

-- the content after a proof that isn't refused is whole
pub admitted_whole : (accepts : List ℕ → List ℕ → Bool) (p : Proof) (m : Content) → IsWhole accepts m → ProofFits p → p.fork ≤ m.fork
    → refusal_of accepts p m ≡ None → IsWhole accepts (admitted p m)
admitted_whole accepts p m whole fits no_greater none = ByBlock p.block refl
  where
    after : Content
    after = with_upgrade p m

    open_ : IsUnrefused accepts p m
    open_ = unrefused accepts p m none

    whole_after : IsWhole accepts after
    whole_after = upgraded_whole accepts p m whole fits no_greater open_

    ByBlock : (block : Option Block) → p.block ≡ block → IsWhole accepts (admitted p m)
    ByBlock None is = let same : admitted p m ≡ after = rw is refl in subst (IsWhole accepts) (sym same) whole_after
    ByBlock (Some b) is = elim (cases_Bool (held after b.index)) [
      | inl here ↦ let same : admitted p m ≡ after = rw (is, here) refl in subst (IsWhole accepts) (sym same) whole_after
      | inr new ↦
          let same : admitted p m ≡ fetched b after = rw (is, new) refl in
          let joins = admitted_joins accepts p m b whole fits no_greater open_ is in
          subst (IsWhole accepts) (sym same) (fetch_whole accepts after b.index b.bytes b.trail (levels_up after (part_of_block b)) whole_after joins)
    ]
