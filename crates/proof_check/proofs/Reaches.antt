-- What a proof reaches, put together.
use Rattle.std.proofs.Common.{◌≡◌, ℕ, ◌-◌, ◌+◌, ◌<◌, ◌≤◌, length, Option, Some, None, refl, sym, ap, subst, ◌∙◌, arith}
use Rattle.std.specs.Option.{IfSome}
use Rattle.std.specs.Prelude.{Result, Ok, Err, IfOk}
use Rattle.proof_check.specs.Early.{twig_bytes}
use Rattle.flat_tree.specs.Roots.{depth_over}
use Rattle.flat_tree.specs.declared.limits.TheConstants.{MAX_BLOCKS, MAX_CORE_BYTES}
use Rattle.merkle_nodes.specs.Joined.{Values}
use Rattle.flat_tree.specs.Covers.{cover_of}
use Rattle.proof_form.specs.declared.proof.UpgradePart.{UpgradePart}
use Rattle.proof_form.specs.Proofs.{Proof, Block, UpgradeFits, ProofFits}
use Rattle.node_set.specs.Contents.{Content, held, roots}
use Rattle.node_set.specs.Whole.{IsSound}
use Rattle.node_set.specs.Walks.{IsFirstStored}
use Rattle.proof_check.specs.declared.path.Met.{Met}
use Rattle.proof_check.specs.declared.reach.Reach.{Reach}
use Rattle.proof_check.specs.declared.upgrade.Joined.{Joined}
use Rattle.proof_check.specs.Upgraded.{length_after}
use Rattle.proof_check.specs.Growth.{IsJoined, HasJoined, IsFirstHeld}
use Rattle.proof_check.specs.Meets.{IsValue}
use Rattle.proof_check.specs.Reaching.{IfPart, IsDue, IsDueUpgrade, joined_of, AgreesBelow, IsMet, Meets, MeetsAt, ReachesBlock, IsReach, HasReach}
use Rattle.proof_check.proofs.UpgradeValues.{joined_same}

-- ---- lengths

pub due_longer : (p : Proof) (m : Content) (size : ℕ) → IsDue p m size → m.length ≤ length_after p m
due_longer p m size due = either p.upgrade refl
  where
    either : (upgrade : Option UpgradePart) → p.upgrade ≡ upgrade → m.length ≤ length_after p m
    either None is = rw is (omega arith)
    either (Some u) is = let has : IsDueUpgrade m size u = subst (λ o. IfPart o (IsDueUpgrade m size)) is due.upgrade in rw is (omega (arith, has.longer))

pub due_few : (p : Proof) (m : Content) (size : ℕ) → IsDue p m size → m.length ≤ MAX_BLOCKS → length_after p m ≤ MAX_BLOCKS
due_few p m size due few = either p.upgrade refl
  where
    either : (upgrade : Option UpgradePart) → p.upgrade ≡ upgrade → length_after p m ≤ MAX_BLOCKS
    either None is = rw is few
    either (Some u) is = let has : IsDueUpgrade m size u = subst (λ o. IfPart o (IsDueUpgrade m size)) is due.upgrade in rw is has.blocks

-- ---- values

-- below the old end the values are the old ones
pub joined_below_end : (p : Proof) (m : Content) (size : ℕ) → ProofFits p → IsSound m → IsDue p m size → AgreesBelow m.length m.node (joined_of p m)
joined_below_end p m size fits sound due = either p.upgrade refl
  where
    either : (upgrade : Option UpgradePart) → p.upgrade ≡ upgrade → AgreesBelow m.length m.node (joined_of p m)
    either None is = rw is (λ d o within. refl)
    either (Some u) is =
        let has : IsDueUpgrade m size u = subst (λ o. IfPart o (IsDueUpgrade m size)) is due.upgrade in
        let mine : UpgradeFits u = subst (λ o. IfSome o UpgradeFits) is fits.upgrade in
        rw is (joined_same m u.length u.nodes sound has.longer (mine.nodes.count ∙ ap (λ (n : ℕ). length (cover_of n u.length)) has.start))

-- ---- together

met_of : (P : Met → Type 0) (Q : Block → Met → Type 0) (b : Block) (found : Option Met) → ((met : Met) → P met → Q b met) → IsMet found P → Meets (Some b) found Q
met_of P Q b None each there = there
met_of P Q b (Some met) each there = each met there

value_of : (value : Values) (R : Met → Type 0) (b : Block) (found : Option Met) → IsMet found R → IfSome found (IsValue value b.index)
    → Meets (Some b) found (λ c met. IsValue value c.index met)
value_of value R b None there has = there
value_of value R b (Some met) there has = has

module _ (p : Proof) (m : Content) (base to : ℕ) (j : Joined) (reach : Reach) (base_is : base ≡ m.length) (to_is : to ≡ length_after p m) (is_joined : IsJoined base to j)
    (unchanged : p.upgrade ≡ None → j.roots ≡ roots m) where
  pub reach_with_block : (b : Block) → p.block ≡ Some b → ReachesBlock base to (held m) b.index j reach → IsReach p m reach
  reach_with_block b block reaches = record {
    joined = rw reaches.joined_is (subst (λ (n : ℕ). IsJoined n (length_after p m) j) base_is (subst (λ (n : ℕ). IsJoined base n j) to_is is_joined));
    first = rw reaches.joined_is (subst (λ (n : ℕ). IsFirstHeld n (held m) j.low (depth_over (length_after p m) (n - 1)) reach.first) base_is
        (subst (λ (n : ℕ). IsFirstHeld base (held m) j.low (depth_over n (base - 1)) reach.first) to_is reaches.first));
    meets = rw block (met_of _ (MeetsAt (length_after p m) (held m)) b reach.met
        (λ met has. record { first = subst (λ (n : ℕ). IsFirstStored n (held m) b.index met.level) to_is has.0; few = has.1 }) reaches.met);
    incoming = rw block reaches.incoming;
    unchanged = λ none. ap (λ (k : Joined). k.roots) reaches.joined_is ∙ unchanged none;
  }

  pub reach_without : p.block ≡ None → reach.joined ≡ j → reach.incoming ≡ None → IsFirstHeld base (held m) j.low (depth_over to (base - 1)) reach.first → IsReach p m reach
  reach_without block joined_is incoming first = record {
    joined = rw joined_is (subst (λ (n : ℕ). IsJoined n (length_after p m) j) base_is (subst (λ (n : ℕ). IsJoined base n j) to_is is_joined));
    first = rw joined_is (subst (λ (n : ℕ). IsFirstHeld n (held m) j.low (depth_over (length_after p m) (n - 1)) reach.first) base_is
        (subst (λ (n : ℕ). IsFirstHeld base (held m) j.low (depth_over n (base - 1)) reach.first) to_is first));
    meets = rw block tt;
    incoming = rw block incoming;
    unchanged = λ none. ap (λ (k : Joined). k.roots) joined_is ∙ unchanged none;
  }

  pub has_with_block : (b : Block) → p.block ≡ Some b → HasJoined base (length_after p m) (joined_of p m) j → ReachesBlock base to (held m) b.index j reach
      → IfSome reach.met (IsValue (joined_of p m) b.index) → HasReach p m reach
  has_with_block b block has reaches value = record {
    joined = rw reaches.joined_is (subst (λ (n : ℕ). HasJoined n (length_after p m) (joined_of p m) j) base_is has);
    meets = rw block (value_of (joined_of p m) _ b reach.met reaches.met value);
  }

  pub has_without : p.block ≡ None → reach.joined ≡ j → HasJoined base (length_after p m) (joined_of p m) j → HasReach p m reach
  has_without block joined_is has = record {
    joined = rw joined_is (subst (λ (n : ℕ). HasJoined n (length_after p m) (joined_of p m) j) base_is has);
    meets = rw block tt;
  }

-- what holds of an Ok
pub both_ok : {T E : Type 0} (r : Result T E) (P Q R : T → Type 0) → IfOk r P → IfOk r Q → ((x : T) → P x → Q x → R x) → IfOk r R
both_ok (Ok x) P Q R one other each = each x one other
both_ok (Err e) P Q R one other each = tt

pub ok_more : {T E : Type 0} (r : Result T E) {P : T → Type 0} (R : T → Type 0) → IfOk r P → ((x : T) → P x → R x) → IfOk r R
ok_more (Ok x) R one each = each x one
ok_more (Err e) R one each = tt

-- an upgrade that is due, by its numbers
pub due_numbers : (m : Content) (size base : ℕ) (upgrade : Option UpgradePart) → base ≡ m.length → IfPart upgrade (IsDueUpgrade m size)
    → IfPart upgrade (λ u. (u.start ≡ base) × (base < u.length) × (u.length ≤ MAX_BLOCKS) × (size + twig_bytes u.nodes ≤ MAX_CORE_BYTES))
due_numbers m size base None is due = tt
due_numbers m size base (Some u) is due = (due.start ∙ sym is, omega (arith, is, due.longer), due.blocks, due.bytes)
