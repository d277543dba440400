-- The refusals in their order: those by numbers first, then those by a node or the signature.
use Rattle.std.proofs.Common.{◌≡◌, ℕ, Bool, true, false, ◌+◌, ◌<◌, ◌≤◌, inl, inr, List, length, Option, Some, None, refl, sym, ap, subst, ◌∙◌, arith, nat_lt, nat_le, nat_eq}
use Rattle.std.specs.Prelude.{is_none, ◌&&◌, not, Result}
use Rattle.std.specs.Option.{IfSome, IsSome}
use Rattle.std.proofs.lemmas.Bool.{cases_lt, cases_eq, lt-ltb, le-ltb, le-leb, eq-eqb, ne_eqb}
use Rattle.flat_tree.specs.Covers.{cover_of}
use Rattle.flat_tree.specs.Subtrees.{end_block_of}
use Rattle.flat_tree.specs.declared.limits.TheConstants.{MAX_BLOCKS, MAX_CORE_BYTES}
use Rattle.flat_tree.proofs.NumberLemmas.{leaf}
use Rattle.merkle_nodes.specs.declared.limit.What.TheVariants.{Blocks, Bytes}
use Rattle.proof_form.specs.declared.proof.UpgradePart.{UpgradePart}
use Rattle.proof_form.specs.Proofs.{Proof, Block, UpgradeFits, ProofFits}
use Rattle.node_set.specs.declared.fault.CoreFault.{CoreFault}
use Rattle.node_set.specs.declared.fault.Refusal.{Refusal}
use Rattle.node_set.specs.declared.fault.Refusal.TheVariants.{Limit, OutOfRange, NotLonger, WrongStart, OldFork, NewFork}
use Rattle.node_set.specs.Contents.{Content, roots, bytes_under}
use Rattle.node_set.specs.Whole.{IsSound}
use Rattle.node_set.specs.Changes.{upgrade_content}
use Rattle.node_set.specs.Refuses.{or_else, refuse_if}
use Rattle.node_set.specs.Views.{ViewState, AnswersBy}
use Rattle.proof_check.specs.Upgraded.{with_upgrade, length_after}
use Rattle.proof_check.specs.Parts.{Part, of_part, part_of_block, range_refusal, differs_refusal, uncovered_refusal}
use Rattle.proof_check.specs.Judge.{head_refusal, fork_refusal, longer_refusal, start_refusal, due_start, limit_refusal, each_part, signature_refusal, seek_refusal, refusal_of}
use Rattle.proof_check.specs.Early.{twig_bytes, limits_refusal, early_refusal}
use Rattle.proof_check.specs.Admission.{IsPlain, IsServed, refused}
use Rattle.proof_check.specs.Meets.{block_refusal}
use Rattle.proof_check.specs.Reaching.{IfPart, IsDue, IsDueUpgrade}
use Rattle.proof_check.specs.Settling.{fork_upgrade_refusal, late_refusal}
use Rattle.proof_check.proofs.UpgradeValues.{upgraded_bytes}

-- ---- chains

pub or_else-none : {A : Type 0} (x : Option A) → or_else x None ≡ x
or_else-none (Some a) = refl
or_else-none None = refl

or_else-assoc : {A : Type 0} (x y z : Option A) → or_else (or_else x y) z ≡ or_else x (or_else y z)
or_else-assoc (Some a) y z = refl
or_else-assoc None y z = refl

-- a chain in which none holds
none_first : {A : Type 0} (x y : Option A) → or_else x y ≡ None → x ≡ None
none_first (Some a) y none = cc
none_first None y none = refl

none_second : {A : Type 0} (x y : Option A) → or_else x y ≡ None → y ≡ None
none_second (Some a) y none = cc
none_second None y none = none

refused_not : {A : Type 0} (test : Bool) (refusal : A) → refuse_if test refusal ≡ None → test ≡ false
refused_not true refusal none = cc
refused_not false refusal none = refl

-- ---- a plain proof

plain_part : (p : Proof) → IsPlain p → (refusal : Part → Option Refusal) → each_part p refusal ≡ of_part p.block (λ b. refusal (part_of_block b))
plain_part p plain refusal = rw plain.hash (or_else-none (of_part p.block (λ b. refusal (part_of_block b))))

part_chain : (block : Option Block) (m : Content) (rest : Option Refusal)
    → or_else (of_part block (λ b. differs_refusal m (part_of_block b))) (or_else (of_part block (λ b. uncovered_refusal m (part_of_block b))) rest)
    ≡ or_else (of_part block (block_refusal m)) rest
part_chain None m rest = refl
part_chain (Some b) m rest = sym (or_else-assoc (differs_refusal m (part_of_block b)) (uncovered_refusal m (part_of_block b)) rest)

plain_seek : (p : Proof) (after : Content) → IsPlain p → seek_refusal p after ≡ None
plain_seek p after plain = rw plain.seek refl

pub plain_refusal : (accepts : List ℕ → List ℕ → Bool) (p : Proof) (m : Content) → IsPlain p → limit_refusal p m ≡ limits_refusal p.upgrade (is_none (head_refusal p m)) (bytes_under (roots m))
    → refusal_of accepts p m ≡ or_else (early_refusal p m (bytes_under (roots m))) (late_refusal accepts p m)
plain_refusal accepts p m plain limits =
    let after = with_upgrade p m in
    let sig = signature_refusal accepts p after in
    let late : or_else (each_part p (differs_refusal after)) (or_else (each_part p (uncovered_refusal after)) (or_else sig (seek_refusal p after))) ≡ late_refusal accepts p m =
    ap (λ r. or_else (each_part p (differs_refusal after)) (or_else (each_part p (uncovered_refusal after)) (or_else sig r))) (plain_seek p after plain)
    ∙ ap (λ r. or_else (each_part p (differs_refusal after)) (or_else (each_part p (uncovered_refusal after)) r)) (or_else-none sig)
    ∙ ap (λ r. or_else r (or_else (each_part p (uncovered_refusal after)) sig)) (plain_part p plain (differs_refusal after))
    ∙ ap (λ r. or_else (of_part p.block (λ b. differs_refusal after (part_of_block b))) (or_else r sig)) (plain_part p plain (uncovered_refusal after))
    ∙ part_chain p.block after sig in
    let range = plain_part p plain (range_refusal (length_after p m)) in
    let end = of_part p.block (λ b. range_refusal (length_after p m) (part_of_block b)) in
    let due = limits_refusal p.upgrade (is_none (head_refusal p m)) (bytes_under (roots m)) in
    ap (λ r. or_else (limit_refusal p m) (or_else (each_part p (range_refusal (length_after p m))) (or_else (head_refusal p m) r))) late
    ∙ ap (λ r. or_else r (or_else (each_part p (range_refusal (length_after p m))) (or_else (head_refusal p m) (late_refusal accepts p m)))) limits
    ∙ ap (λ r. or_else due (or_else r (or_else (head_refusal p m) (late_refusal accepts p m)))) range
    ∙ ap (or_else due) (sym (or_else-assoc end (head_refusal p m) (late_refusal accepts p m)))
    ∙ sym (or_else-assoc due (or_else end (head_refusal p m)) (late_refusal accepts p m))

-- ---- what no number forbids

-- the fork and the upgrade of a proof whose head isn't refused
pub record HeadFits (p : Proof) (m : Content) : Type 0 where
  pub fork : p.fork ≡ m.fork
  pub upgrade : IfPart p.upgrade (λ u. (u.start ≡ m.length) × (m.length < u.length))

ltb_false : (a b : ℕ) → nat_lt a b ≡ false → b ≤ a
ltb_false a b none = elim (cases_lt a b) [
  | inl less ↦ let clash : true ≡ false = sym (lt-ltb a b less) ∙ none in cc
  | inr fits ↦ fits
]

leb_false : (a b : ℕ) → nat_le a b ≡ false → b < a
leb_false a b none = elim (cases_lt b a) [
  | inl less ↦ less
  | inr fits ↦ let clash : true ≡ false = sym (le-leb a b fits) ∙ none in cc
]

not_false : (test : Bool) → not test ≡ false → test ≡ true
not_false true none = refl
not_false false none = cc

eqb_same : (a b : ℕ) → nat_eq a b ≡ true → a ≡ b
eqb_same a b is = elim (cases_eq a b) [ inl same ↦ same | inr other ↦ (let clash : true ≡ false = sym is ∙ ne_eqb a b other in cc) ]

pub head_fits : (p : Proof) (m : Content) → IsServed p m → head_refusal p m ≡ None → HeadFits p m
head_fits p m served none = either p.upgrade refl
  where
    fork_none : fork_refusal p m ≡ None
    fork_none = none_first (fork_refusal p m) _ none

    old : m.fork ≤ p.fork
    old = ltb_false p.fork m.fork (refused_not (nat_lt p.fork m.fork) (OldFork m.fork) (none_first _ _ fork_none))

    either : (upgrade : Option UpgradePart) → p.upgrade ≡ upgrade → HeadFits p m
    either None here =
        let newer = refused_not (nat_lt m.fork p.fork && is_none p.upgrade) (NewFork m.fork) (none_second (refuse_if (nat_lt p.fork m.fork) (OldFork m.fork)) _ fork_none) in
        let less : nat_lt m.fork p.fork ≡ false = both_true (nat_lt m.fork p.fork) (ap (λ o. nat_lt m.fork p.fork && is_none o) (sym here) ∙ newer) in
        record { fork = omega (arith, old, ltb_false m.fork p.fork less); upgrade = rw here tt }
      where
        both_true : (test : Bool) → (test && true) ≡ false → test ≡ false
        both_true true both = cc
        both_true false both = refl
    either (Some u) here =
        let newer : p.fork ≤ m.fork = elim served [
          | inl fits ↦ fits
          | inr without ↦ let clash : None ≡ Some u = sym without ∙ here in cc
        ] in
        let fork : p.fork ≡ m.fork = omega (arith, old, newer) in
        let rest : or_else (of_part p.upgrade (longer_refusal p m)) (of_part p.upgrade (start_refusal p m)) ≡ None = none_second (fork_refusal p m) _ none in
        let longer : longer_refusal p m u ≡ None = ap (λ o. of_part o (longer_refusal p m)) (sym here) ∙ none_first _ _ rest in
        let start : start_refusal p m u ≡ None = ap (λ o. of_part o (start_refusal p m)) (sym here) ∙ none_second (of_part p.upgrade (longer_refusal p m)) _ rest in
        let equal = eq-eqb p.fork m.fork fork in
        let long_test : (nat_eq p.fork m.fork && nat_le u.length m.length) ≡ false = refused_not _ (NotLonger m.length) longer in
        let long : nat_le u.length m.length ≡ false = ap (λ t. t && nat_le u.length m.length) (sym equal) ∙ long_test in
        let start_test : nat_eq u.start (due_start p m) ≡ true = not_false _ (refused_not (not (nat_eq u.start (due_start p m))) (WrongStart (due_start p m)) start) in
        let due : due_start p m ≡ m.length = rw equal refl in
        record { fork = fork; upgrade = rw here (eqb_same u.start (due_start p m) start_test ∙ due, leb_false u.length m.length long) }

pub due_of : (p : Proof) (m : Content) (size : ℕ) → IsServed p m → early_refusal p m size ≡ None → IsDue p m size
due_of p m size served none = record {
  fork = fits.fork;
  upgrade = by_upgrade p.upgrade refl;
  block = by_block p.block (none_first _ _ rest);
}
  where
    rest : or_else (of_part p.block (λ b. range_refusal (length_after p m) (part_of_block b))) (head_refusal p m) ≡ None
    rest = none_second (limits_refusal p.upgrade (is_none (head_refusal p m)) size) _ none

    head_none : head_refusal p m ≡ None
    head_none = none_second (of_part p.block (λ b. range_refusal (length_after p m) (part_of_block b))) _ rest

    fits : HeadFits p m
    fits = head_fits p m served head_none

    limits_none : limits_refusal p.upgrade true size ≡ None
    limits_none = ap (λ (h : Option Refusal). limits_refusal p.upgrade (is_none h) size) (sym head_none) ∙ none_first _ _ none

    by_block : (block : Option Block) → of_part block (λ b. range_refusal (length_after p m) (part_of_block b)) ≡ None → IfPart block (λ b. b.index < length_after p m)
    by_block None in_range = tt
    by_block (Some b) in_range =
        let end = ltb_false (length_after p m) (end_block_of 0 b.index) (refused_not _ (OutOfRange (length_after p m)) in_range) in
        omega (arith, end, leaf b.index)

    by_upgrade : (upgrade : Option UpgradePart) → p.upgrade ≡ upgrade → IfPart p.upgrade (IsDueUpgrade m size)
    by_upgrade None here = rw here tt
    by_upgrade (Some u) here =
        let mine : (u.start ≡ m.length) × (m.length < u.length) = subst (λ o. IfPart o (λ (v : UpgradePart). (v.start ≡ m.length) × (m.length < v.length))) here fits.upgrade in
        let own : limits_refusal (Some u) true size ≡ None = ap (λ o. limits_refusal o true size) (sym here) ∙ limits_none in
        let blocks = ltb_false MAX_BLOCKS u.length (refused_not _ (Limit Blocks MAX_BLOCKS) (none_first _ _ own)) in
        let bytes = ltb_false MAX_CORE_BYTES (size + twig_bytes u.nodes)
        (refused_not (nat_lt MAX_CORE_BYTES (size + twig_bytes u.nodes)) (Limit Bytes MAX_CORE_BYTES) (none_second (refuse_if (nat_lt MAX_BLOCKS u.length) (Limit Blocks MAX_BLOCKS)) _ own)) in
        rw here (record { start = mine.0; longer = mine.1; blocks = blocks; bytes = bytes })

-- ---- the limits

no_bytes : {A : Type 0} (test : Bool) (refusal : A) → refuse_if (test && false) refusal ≡ None
no_bytes true refusal = refl
no_bytes false refusal = refl

and_same : (h : Option Refusal) (x y : Bool) → (h ≡ None → x ≡ y) → (is_none h && x) ≡ (is_none h && y)
and_same (Some r) x y same = refl
and_same None x y same = same refl

pub limits_same : (p : Proof) (m : Content) → ProofFits p → IsSound m → bytes_under (roots m) ≤ MAX_CORE_BYTES → IsServed p m
    → limit_refusal p m ≡ limits_refusal p.upgrade (is_none (head_refusal p m)) (bytes_under (roots m))
limits_same p m fits sound few served = either p.upgrade refl
  where
    size : ℕ
    size = bytes_under (roots m)

    either : (upgrade : Option UpgradePart) → p.upgrade ≡ upgrade → limit_refusal p m ≡ limits_refusal p.upgrade (is_none (head_refusal p m)) (bytes_under (roots m))
    either None here =
        let after : with_upgrade p m ≡ m = rw here refl in
        let small : nat_lt MAX_CORE_BYTES (bytes_under (roots (with_upgrade p m))) ≡ false =
        ap (λ (n : Content). nat_lt MAX_CORE_BYTES (bytes_under (roots n))) after ∙ le-ltb MAX_CORE_BYTES (bytes_under (roots m)) few in
        let none : refuse_if (is_none (head_refusal p m) && nat_lt MAX_CORE_BYTES (bytes_under (roots (with_upgrade p m)))) (Limit Bytes MAX_CORE_BYTES) ≡ None =
        ap (λ t. refuse_if (is_none (head_refusal p m) && t) (Limit Bytes MAX_CORE_BYTES)) small ∙ no_bytes (is_none (head_refusal p m)) (Limit Bytes MAX_CORE_BYTES) in
        ap (or_else (of_part p.upgrade (λ (u : UpgradePart). refuse_if (nat_lt MAX_BLOCKS u.length) (Limit Blocks MAX_BLOCKS)))) none
        ∙ ap (λ o. or_else (of_part o (λ (u : UpgradePart). refuse_if (nat_lt MAX_BLOCKS u.length) (Limit Blocks MAX_BLOCKS))) None) here
        ∙ ap (λ o. limits_refusal o (is_none (head_refusal p m)) (bytes_under (roots m))) (sym here)
    either (Some u) here =
        let blocks = refuse_if (nat_lt MAX_BLOCKS u.length) (Limit Blocks MAX_BLOCKS) in
        let tests : (is_none (head_refusal p m) && nat_lt MAX_CORE_BYTES (bytes_under (roots (with_upgrade p m))))
        ≡ (is_none (head_refusal p m) && nat_lt MAX_CORE_BYTES (bytes_under (roots m) + twig_bytes u.nodes)) =
        and_same (head_refusal p m) _ _ (λ none. ap (nat_lt MAX_CORE_BYTES) (sums none)) in
        ap (λ o. or_else (of_part o (λ (v : UpgradePart). refuse_if (nat_lt MAX_BLOCKS v.length) (Limit Blocks MAX_BLOCKS)))
        (refuse_if (is_none (head_refusal p m) && nat_lt MAX_CORE_BYTES (bytes_under (roots (with_upgrade p m)))) (Limit Bytes MAX_CORE_BYTES))) here
        ∙ ap (λ t. or_else blocks (refuse_if t (Limit Bytes MAX_CORE_BYTES))) tests
        ∙ ap (λ o. limits_refusal o (is_none (head_refusal p m)) (bytes_under (roots m))) (sym here)
      where
        sums : head_refusal p m ≡ None → bytes_under (roots (with_upgrade p m)) ≡ bytes_under (roots m) + twig_bytes u.nodes
        sums none =
            let due = head_fits p m served none in
            let has : (u.start ≡ m.length) × (m.length < u.length) =
            subst (λ o. IfPart o (λ (v : UpgradePart). (v.start ≡ m.length) × (m.length < v.length))) here due.upgrade in
            let mine : UpgradeFits u = subst (λ o. IfSome o UpgradeFits) here fits.upgrade in
            let equal : nat_lt m.fork p.fork ≡ false = le-ltb m.fork p.fork (omega (arith, due.fork)) in
            let after : with_upgrade p m ≡ upgrade_content u.length u.nodes u.signature m = rw (here, equal) refl in
            ap (λ (n : Content). bytes_under (roots n)) after
            ∙ upgraded_bytes m u.length u.nodes sound has.1 (mine.nodes.count ∙ ap (λ (n : ℕ). length (cover_of n u.length)) has.0) u.signature

-- ---- served or not

pub not_forked : (p : Proof) (m : Content) → IsServed p m → fork_upgrade_refusal p m ≡ None
not_forked p m (inl fits) = rw (le-ltb m.fork p.fork fits) refl
not_forked p m (inr without) = rw without (no_bytes (nat_lt m.fork p.fork) (NewFork m.fork))

pub forked : (p : Proof) (m : Content) → m.fork < p.fork → IsSome p.upgrade → fork_upgrade_refusal p m ≡ Some (NewFork m.fork)
forked p m newer some = either p.upgrade refl some
  where
    either : (upgrade : Option UpgradePart) → p.upgrade ≡ upgrade → IsSome upgrade → fork_upgrade_refusal p m ≡ Some (NewFork m.fork)
    either None here there = cc
    either (Some u) here there = rw (here, lt-ltb m.fork p.fork newer) refl

-- what isn't refused by numbers is served
pub served_of : (p : Proof) (m : Content) → fork_upgrade_refusal p m ≡ None → IsServed p m
served_of p m none = elim (cases_lt m.fork p.fork) [
  | inr fits ↦ inl fits
  | inl newer ↦ by_upgrade p.upgrade refl newer
]
  where
    by_upgrade : (upgrade : Option UpgradePart) → p.upgrade ≡ upgrade → m.fork < p.fork → IsServed p m
    by_upgrade None here newer = inr here
    by_upgrade (Some u) here newer =
        let clash : Some (NewFork m.fork) ≡ None = sym (rw (here, lt-ltb m.fork p.fork newer) refl) ∙ none in
        cc

-- what a chain of both answers
pub first_none : (p : Proof) (m : Content) (size : ℕ) → or_else (fork_upgrade_refusal p m) (early_refusal p m size) ≡ None
    → (fork_upgrade_refusal p m ≡ None) × (early_refusal p m size ≡ None)
first_none p m size none = (none_first _ _ none, none_second (fork_upgrade_refusal p m) _ none)

-- ---- what is answered

-- all that is known where a view stands
pub record IsJudged (p : Proof) (m : Content) : Type 0 where
  pub fits : ProofFits p
  pub plain : IsPlain p
  pub sound : IsSound m
  pub few : bytes_under (roots m) ≤ MAX_CORE_BYTES
  pub served : IsServed p m

pub full_refusal : (accepts : List ℕ → List ℕ → Bool) (p : Proof) (m : Content) → IsJudged p m
    → refusal_of accepts p m ≡ or_else (early_refusal p m (bytes_under (roots m))) (late_refusal accepts p m)
full_refusal accepts p m judged = plain_refusal accepts p m judged.plain (limits_same p m judged.fits judged.sound judged.few judged.served)

-- a refusal by numbers
pub early_answer : (accepts : List ℕ → List ℕ → Bool) (p : Proof) (m : Content) (refusal : Refusal) → IsJudged p m
    → or_else (fork_upgrade_refusal p m) (early_refusal p m (bytes_under (roots m))) ≡ Some refusal → refusal_of accepts p m ≡ Some refusal
early_answer accepts p m refusal judged is =
    let early : early_refusal p m (bytes_under (roots m)) ≡ Some refusal =
    ap (λ r. or_else r (early_refusal p m (bytes_under (roots m)))) (sym (not_forked p m judged.served)) ∙ is in
    full_refusal accepts p m judged ∙ ap (λ r. or_else r (late_refusal accepts p m)) early

-- or by what was read
pub late_answer : (accepts : List ℕ → List ℕ → Bool) (p : Proof) (m : Content) (answer : Option Refusal) → IsJudged p m
    → early_refusal p m (bytes_under (roots m)) ≡ None → late_refusal accepts p m ≡ answer → refusal_of accepts p m ≡ answer
late_answer accepts p m answer judged early late = full_refusal accepts p m judged ∙ ap (λ r. or_else r (late_refusal accepts p m)) early ∙ late

-- an upgrade under a greater fork
pub fork_answer : (p : Proof) (m : Content) (answer : Option Refusal) → m.fork < p.fork → IsSome p.upgrade
    → answer ≡ or_else (fork_upgrade_refusal p m) (early_refusal p m (bytes_under (roots m))) → answer ≡ Some (NewFork m.fork)
fork_answer p m answer newer some is = is ∙ ap (λ r. or_else r (early_refusal p m (bytes_under (roots m)))) (forked p m newer some)

-- what is answered by what was read is answered in all
pub late_answers : {T : Type 0} (accepts : List ℕ → List ℕ → Bool) (p q : Proof) (m : Content) (old new : ViewState) (Gives : Proof → T → Type 0) (result : Result T CoreFault)
    → p ≡ q → IsJudged p m → early_refusal p m (bytes_under (roots m)) ≡ None → AnswersBy old new (refused (late_refusal accepts p m)) (Gives p) result
    → AnswersBy old new (refused (refusal_of accepts q m)) (Gives q) result
late_answers accepts p q m old new Gives result same judged early answers =
    subst (λ (o : Proof). AnswersBy old new (refused (refusal_of accepts o m)) (Gives o) result) same
    (subst (λ (r : Option Refusal). AnswersBy old new (refused r) (Gives p) result) (sym (late_answer accepts p m _ judged early refl)) answers)

-- an upgrade under a greater fork isn't among what isn't refused
pub never_forked : (p q : Proof) (m : Content) → p ≡ q → fork_upgrade_refusal p m ≡ None → m.fork < q.fork → IsSome q.upgrade → ⊥
never_forked p q m same none newer some =
    let is = forked p m (subst (λ (o : Proof). m.fork < o.fork) (sym same) newer) (subst (λ (o : Proof). IsSome o.upgrade) (sym same) some) in
    let clash : Some (NewFork m.fork) ≡ None = sym is ∙ none in
    cc
