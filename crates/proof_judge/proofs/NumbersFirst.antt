-- What the numbers of a proof are refused by comes first of all refusals, and what isn't refused by them can be laid over the log.
use Rattle.std.proofs.Common.{◌≡◌, ℕ, Bool, false, ◌+◌, ◌≤◌, inl, inr, List, length, Option, Some, None, IfSome, refl, sym, ap, subst, ◌∙◌, arith, nat_lt, nat_eq}
use Rattle.std.specs.Prelude.{is_none, ◌&&◌}
use Rattle.std.proofs.lemmas.Bool.{cases_lt, lt-ltb, le-ltb, ltb-false, eq-eqb, ne_eqb, eqb-true, not-false}
use Rattle.flat_tree.specs.Roots.{full_roots_of}
use Rattle.flat_tree.specs.Covers.{cover_of}
use Rattle.flat_tree.specs.declared.limits.TheConstants.{MAX_BLOCKS, MAX_CORE_BYTES}
use Rattle.flat_tree.proofs.CoverLemmas.{cover-full}
use Rattle.merkle_nodes.specs.declared.limit.What.TheVariants.{Blocks}
use Rattle.merkle_nodes.specs.declared.node.Twig.{Twig}
use Rattle.merkle_nodes.specs.Joined.{Values, value_in, or_value}
use Rattle.proof_form.specs.declared.proof.UpgradePart.{UpgradePart}
use Rattle.proof_form.specs.Proofs.{Proof, UpgradeFits, ProofFits}
use Rattle.node_set.specs.declared.fault.Refusal.{Refusal}
use Rattle.node_set.specs.declared.fault.Refusal.TheVariants.{Limit}
use Rattle.node_set.specs.Contents.{Content, roots, bytes_under}
use Rattle.node_set.specs.Closure.{IsFullRoot}
use Rattle.node_set.specs.Changes.{blocks_below}
use Rattle.node_set.specs.Refuses.{or_else, refuse_if}
use Rattle.node_set.specs.Whole.{IsSound}
use Rattle.node_set.proofs.SoundLemmas.{stored_value, roots_on, roots_same}
use Rattle.node_set.proofs.UpgradeLemmas.{value_in-has}
use Rattle.core_forks.specs.Reorganise.{kept_of, reorganise_content}
use Rattle.root_stack.specs.Stack.{twig_bytes}
use Rattle.judge_laws.proofs.KeptRoots.{new_roots-are}
use Rattle.proof_check.specs.Upgraded.{new_roots, upgraded_by, with_upgrade, length_after}
use Rattle.proof_check.specs.Parts.{of_part, range_refusal, differs_refusal, uncovered_refusal}
use Rattle.proof_check.specs.Judge.{fork_refusal, due_start, start_refusal, head_refusal, limit_refusal, each_part, signature_refusal, seek_refusal, refusal_of}
use Rattle.proof_check.proofs.Refusing.{first_none, second_none, not_refused}
use Rattle.proof_check.proofs.UpgradeValues.{upgraded_bytes}
use Rattle.proof_judge.specs.Judging.{later_refusal}
use Rattle.proof_judge.specs.Laying.{length_before, roots_before, IsDue}
use Rattle.proof_judge.specs.Numbers.{bytes_before, bytes_after, size_refusal, numbers_refusal}
use Rattle.proof_judge.proofs.NewRoots.{whole_values, whole_are, value_beside, bytes_at, root_contained}

-- ---- what a head that isn't refused says of an upgrade

record Begins (p : Proof) (m : Content) (u : UpgradePart) : Type 0 where
  no_older : m.fork ≤ p.fork
  start : u.start ≡ length_before p.fork m

due_start_is : (p : Proof) (m : Content) → m.fork ≤ p.fork → due_start p m ≡ length_before p.fork m
due_start_is p m no_older = elim (cases_lt m.fork p.fork) [
  | inl greater ↦ rw (ne_eqb p.fork m.fork (λ same. omega (arith, same, greater)), lt-ltb m.fork p.fork greater) refl
  | inr own ↦ rw (eq-eqb p.fork m.fork (omega (arith, own, no_older)), le-ltb m.fork p.fork own) refl
]

begins : (p : Proof) (m : Content) (u : UpgradePart) → p.upgrade ≡ Some u → head_refusal p m ≡ None → Begins p m u
begins p m u up head =
    let forks = first_none (fork_refusal p m) _ head in
    let no_older = ltb-false p.fork m.fork (not_refused (nat_lt p.fork m.fork) _ (first_none _ _ forks)) in
    let start : start_refusal p m u ≡ None =
    subst (λ (part : Option UpgradePart). of_part part (start_refusal p m) ≡ None) up (second_none _ _ (second_none (fork_refusal p m) _ head)) in
    let from = eqb-true u.start (due_start p m) (not-false (nat_eq u.start (due_start p m)) (not_refused _ _ start)) in
    record { no_older = no_older; start = from ∙ due_start_is p m no_older }

spelled : (p : Proof) (u : UpgradePart) → p.upgrade ≡ Some u → ProofFits p → UpgradeFits u
spelled p u up fits = subst (λ (part : Option UpgradePart). IfSome part UpgradeFits) up fits.upgrade

-- ---- the bytes of the log after it

-- the bytes of another log are those of the twigs that came
other_bytes : (fork : ℕ) (u : UpgradePart) (m : Content) → length u.nodes ≡ length (cover_of 0 u.length)
    → bytes_under (roots (reorganise_content fork u.length (new_roots u) u.signature m)) ≡ twig_bytes u.nodes
other_bytes fork u m count =
    ap bytes_under (roots_on u.length (blocks_below (kept_of m u.length (new_roots u)) m.block) value)
    ∙ ap bytes_under (roots_same u.length value (whole_values u) same)
    ∙ bytes_at (whole_values u) (full_roots_of u.length) u.nodes (whole_are u count)
  where
    value : Values
    value d o = or_value (value_in (full_roots_of u.length) (new_roots u) d o) (m.node d o)

    same : (d o : ℕ) → IsFullRoot u.length d o → value d o ≡ whole_values u d o
    same d o root =
        let there = root_contained u.length d o root in
        let came = ap (λ (twigs : List Twig). value_in (full_roots_of u.length) twigs d o) (new_roots-are u count) in
        let some = stored_value (value_in (full_roots_of u.length) u.nodes d o) (value_in-has (full_roots_of u.length) u.nodes d o (count ∙ ap length (cover-full u.length)) there) in
        ap (λ (v : Option Twig). or_value v (m.node d o)) (came ∙ some.1) ∙ sym some.1
        ∙ value_beside (whole_values u) (full_roots_of u.length) u.nodes d o (whole_are u count) there

bytes_with : (p : Proof) (m : Content) (u : UpgradePart) → IsSound m → UpgradeFits u → Begins p m u
    → bytes_before p m + twig_bytes u.nodes ≡ bytes_under (roots (upgraded_by p.fork u m))
bytes_with p m u sound fits from = elim (cases_lt m.fork p.fork) [
  | inl greater ↦
      let start : u.start ≡ 0 = from.start ∙ rw (lt-ltb m.fork p.fork greater) refl in
      rw (lt-ltb m.fork p.fork greater)
      (none_more (twig_bytes u.nodes) ∙ sym (other_bytes p.fork u m (fits.nodes.count ∙ ap (λ (n : ℕ). length (cover_of n u.length)) start)))
  | inr own ↦
      let start : u.start ≡ m.length = from.start ∙ rw (le-ltb m.fork p.fork own) refl in
      rw (le-ltb m.fork p.fork own)
      (sym (upgraded_bytes m u.length u.nodes sound (omega (arith, start, fits.ordered)) (fits.nodes.count ∙ ap (λ (n : ℕ). length (cover_of n u.length)) start)
      u.signature))
]
  where
    none_more : (n : ℕ) → 0 + n ≡ n
    none_more n = omega arith

bytes_same : (p : Proof) (m : Content) → IsSound m → ProofFits p → head_refusal p m ≡ None → bytes_after p m ≡ bytes_under (roots (with_upgrade p m))
bytes_same p m sound fits head = ByUpgrade p.upgrade refl
  where
    ByUpgrade : (upgrade : Option UpgradePart) → p.upgrade ≡ upgrade → bytes_after p m ≡ bytes_under (roots (with_upgrade p m))
    ByUpgrade None none = rw none refl
    ByUpgrade (Some u) up = rw up (bytes_with p m u sound (spelled p u up fits) (begins p m u up head))

-- ---- the order of refusals

limits_same : (p : Proof) (m : Content) → IsSound m → ProofFits p → size_refusal p m ≡ limit_refusal p m
limits_same p m sound fits = ByHead (head_refusal p m) refl
  where
    ByHead : (head : Option Refusal) → head_refusal p m ≡ head → size_refusal p m ≡ limit_refusal p m
    ByHead (Some refusal) is = rw is refl
    ByHead None is = rw (bytes_same p m sound fits is) refl

pub numbers_first : (p : Proof) (m : Content) → IsSound m → ProofFits p
    → numbers_refusal p m ≡ or_else (limit_refusal p m) (or_else (each_part p (range_refusal (length_after p m))) (head_refusal p m))
numbers_first p m sound fits =
    ap (λ (r : Option Refusal). or_else r (or_else (each_part p (range_refusal (length_after p m))) (head_refusal p m))) (limits_same p m sound fits)

in_turn : (one two three four five rest : Option Refusal)
    → or_else one (or_else two (or_else three (or_else four (or_else five rest)))) ≡ or_else (or_else one (or_else two three)) (or_else (or_else four five) rest)
in_turn (Some x) two three four five rest = refl
in_turn None (Some x) three four five rest = refl
in_turn None None (Some x) four five rest = refl
in_turn None None None (Some x) five rest = refl
in_turn None None None None five rest = refl

pub then_later : (accepts : List ℕ → List ℕ → Bool) (p : Proof) (m : Content) → IsSound m → ProofFits p
    → refusal_of accepts p m ≡ or_else (numbers_refusal p m) (later_refusal accepts p (with_upgrade p m))
then_later accepts p m sound fits =
    let after = with_upgrade p m in
    in_turn (limit_refusal p m) (each_part p (range_refusal (length_after p m))) (head_refusal p m) (each_part p (differs_refusal after))
    (each_part p (uncovered_refusal after)) (or_else (signature_refusal accepts p after) (seek_refusal p after))
    ∙ ap (λ (r : Option Refusal). or_else r (later_refusal accepts p after)) (sym (numbers_first p m sound fits))

-- where numbers refuse nothing, the later refusals are all
pub only_later : (accepts : List ℕ → List ℕ → Bool) (p : Proof) (m : Content) → IsSound m → ProofFits p → numbers_refusal p m ≡ None
    → refusal_of accepts p m ≡ later_refusal accepts p (with_upgrade p m)
only_later accepts p m sound fits none =
    then_later accepts p m sound fits ∙ ap (λ (r : Option Refusal). or_else r (later_refusal accepts p (with_upgrade p m))) none

-- where numbers refuse nothing, no part is out of range
pub numbers_range : (p : Proof) (m : Content) → numbers_refusal p m ≡ None → each_part p (range_refusal (length_after p m)) ≡ None
numbers_range p m none = first_none _ (head_refusal p m) (second_none (size_refusal p m) _ none)

-- ---- what can be laid

pub due_is : (p : Proof) (m : Content) (u : UpgradePart) → p.upgrade ≡ Some u → ProofFits p → numbers_refusal p m ≡ None → IsDue p.fork u m
due_is p m u up fits none =
    let sizes = first_none (size_refusal p m) _ none in
    let head = second_none (each_part p (range_refusal (length_after p m))) (head_refusal p m) (second_none (size_refusal p m) _ none) in
    let from = begins p m u up head in
    let few : refuse_if (nat_lt MAX_BLOCKS u.length) (Limit Blocks MAX_BLOCKS) ≡ None =
    subst (λ (part : Option UpgradePart). of_part part (λ v. refuse_if (nat_lt MAX_BLOCKS v.length) (Limit Blocks MAX_BLOCKS)) ≡ None) up (first_none _ _ sizes) in
    let many = not_refused (is_none (head_refusal p m) && nat_lt MAX_CORE_BYTES (bytes_after p m)) _ (second_none _ _ sizes) in
    let low : nat_lt MAX_CORE_BYTES (bytes_after p m) ≡ false =
    sym (ap (λ (r : Option Refusal). is_none r && nat_lt MAX_CORE_BYTES (bytes_after p m)) head) ∙ many in
    record {
      no_older = from.no_older;
      limit = omega (arith, fits.fork);
      start = from.start;
      fits = spelled p u up fits;
      blocks = ltb-false MAX_BLOCKS u.length (not_refused (nat_lt MAX_BLOCKS u.length) _ few);
      bytes = omega (arith, ltb-false MAX_CORE_BYTES (bytes_after p m) low, after, before);
    }
  where
    after : bytes_after p m ≡ bytes_before p m + twig_bytes u.nodes
    after = rw up refl

    before : bytes_before p m ≡ bytes_under (roots_before p.fork m)
    before = elim (cases_lt m.fork p.fork) [ inl greater ↦ rw (lt-ltb m.fork p.fork greater) refl | inr own ↦ rw (le-ltb m.fork p.fork own) refl ]
