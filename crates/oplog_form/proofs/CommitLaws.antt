-- Commits: what is read is spelled so, and what is spelled so is read, whatever follows.
use Rattle.std.proofs.Common.{◌≡◌, ℕ, ◌≤◌, eqb, false, true, List, ◌++◌, refl, sym, subst, arith}
use Rattle.std.proofs.lemmas.Bool.{eqb-true, eqb-false, eq-eqb}
use Rattle.std.specs.Prelude.{IfOk}
use Rattle.commit_book.specs.declared.commit.Commit.{Commit}
use Rattle.commit_book.specs.declared.commit.Commit.TheVariants.{Append, Truncate, Clear, Fetch, Upgrade, UpgradeFetch, Reorg, ReorgFetch}
use Rattle.compact_enc.specs.Spelling.{uint_spelling}
use Rattle.compact_enc.specs.Reading.{IsBytes}
use Rattle.compact_enc.specs.Input.{Input}
use Rattle.compact_enc.proofs.Steps.{if_read, if_more, if_chosen}
use Rattle.compact_enc.proofs.Inputs.{Passed, Passed-then, ReadsBack, again_then, again_last}
use Rattle.oplog_form.specs.declared.commit.TheConstants.{APPEND, TRUNCATE, CLEAR, FETCH, UPGRADE, UPGRADE_FETCH, REORG, REORG_FETCH, MAX_NUMBER}
use Rattle.oplog_form.specs.Form.{Read, number_of, both_of}
use Rattle.oplog_form.specs.Commits.{kind_of, pair_spelling, numbers_spelling, commit_spelling, PairFits, CommitFits, small_of, pair_of, made, numbers_in, commit_in}
use Rattle.oplog_form.proofs.FieldLaws.{FieldPasses, number_passes, both_pass, number_again, both_again}

-- ---- what is read is spelled so

-- the numbers of a commit of this kind stood in front, and are in their ranges
abbrev IsOf : ℕ → Input → Commit × Input → Type 0
IsOf kind input x = Passed input (numbers_spelling x.0) x.1 × CommitFits x.0 × (kind_of x.0 ≡ kind)

made_passes : {A : Type 0} (kind : ℕ) (commit : A → Commit) (read : Input → Read A) (spell : A → List ℕ) (Fits : A → Type 0) → FieldPasses read spell Fits
    → ((x : A) → Fits x → (spell x ≡ numbers_spelling (commit x)) × CommitFits (commit x) × (kind_of (commit x) ≡ kind))
    → (input : Input) → IsBytes input.rest → IfOk (made commit (read input)) (IsOf kind input)
made_passes kind commit read spell Fits pass is input fits =
    if_read (read input) _ _ _ (pass input fits) (λ x p.
    let fact = is x.0 p.1 in
    (subst (λ s. Passed input s x.1) fact.0 p.0, fact.1, fact.2))

small_passes : FieldPasses small_of uint_spelling (λ n. n ≤ MAX_NUMBER)
small_passes = number_passes MAX_NUMBER

pair_passes : FieldPasses pair_of (λ x. pair_spelling x.0 x.1) (λ x. PairFits x.0 x.1)
pair_passes = both_pass small_of small_of uint_spelling uint_spelling _ _ small_passes small_passes

-- a kind that is equal to this one
as_kind : (kind here : ℕ) (read : Read Commit) (input : Input) → IfOk read (IsOf here input) → eqb kind here ≡ true → IfOk read (IsOf kind input)
as_kind kind here read input p is = subst (λ k. IfOk read (IsOf k input)) (sym (eqb-true kind here is)) p

-- and the one that is left
last_kind : (kind : ℕ) → kind ≤ REORG_FETCH → eqb kind APPEND ≡ false → eqb kind TRUNCATE ≡ false → eqb kind CLEAR ≡ false → eqb kind FETCH ≡ false
    → eqb kind UPGRADE ≡ false → eqb kind UPGRADE_FETCH ≡ false → eqb kind REORG ≡ false → eqb kind REORG_FETCH ≡ true
last_kind kind known a b c d e f g =
    eq-eqb kind REORG_FETCH (omega (arith, known, eqb-false _ _ a, eqb-false _ _ b, eqb-false _ _ c, eqb-false _ _ d, eqb-false _ _ e, eqb-false _ _ f, eqb-false _ _ g))

numbers_pass : (kind : ℕ) (input : Input) → kind ≤ REORG_FETCH → IsBytes input.rest → IfOk (numbers_in kind input) (IsOf kind input)
unfolding numbers_in
numbers_pass kind input known fits =
    let one : (here : ℕ) (commit : ℕ → Commit) → ((n : ℕ) → n ≤ MAX_NUMBER → (uint_spelling n ≡ numbers_spelling (commit n)) × CommitFits (commit n) × (kind_of (commit n) ≡ here))
    → eqb kind here ≡ true → IfOk (made commit (small_of input)) (IsOf kind input) =
    λ here commit is same. as_kind kind here _ input (made_passes here commit small_of _ _ small_passes is input fits) same in
    let two : (here : ℕ) (commit : ℕ → ℕ → Commit)
    → ((m n : ℕ) → PairFits m n → (pair_spelling m n ≡ numbers_spelling (commit m n)) × CommitFits (commit m n) × (kind_of (commit m n) ≡ here))
    → eqb kind here ≡ true → IfOk (made (λ x. commit x.0 x.1) (pair_of input)) (IsOf kind input) =
    λ here commit is same. as_kind kind here _ input (made_passes here (λ x. commit x.0 x.1) pair_of _ _ pair_passes (λ x f. is x.0 x.1 f) input fits) same in
    let P = IsOf kind input in
    if_chosen (eqb kind APPEND) _ _ P (one APPEND Append (λ n f. (refl, f, refl))) (λ a.
    if_chosen (eqb kind TRUNCATE) _ _ P (two TRUNCATE (λ m n. Truncate m n) (λ m n f. (refl, f, refl))) (λ b.
    if_chosen (eqb kind CLEAR) _ _ P (two CLEAR (λ m n. Clear m n) (λ m n f. (refl, f, refl))) (λ c.
    if_chosen (eqb kind FETCH) _ _ P (one FETCH Fetch (λ n f. (refl, f, refl))) (λ d.
    if_chosen (eqb kind UPGRADE) _ _ P (one UPGRADE Upgrade (λ n f. (refl, f, refl))) (λ e.
    if_chosen (eqb kind UPGRADE_FETCH) _ _ P (two UPGRADE_FETCH (λ m n. UpgradeFetch m n) (λ m n f. (refl, f, refl))) (λ g.
    if_chosen (eqb kind REORG) _ _ P
    (as_kind kind REORG _ input (made_passes REORG (λ x. Reorg x.0 x.1.0 x.1.1) _ _ _ (both_pass small_of pair_of uint_spelling (λ x. pair_spelling x.0 x.1) _ _ small_passes pair_passes) (λ x f. (refl, f, refl)) input fits)) (λ h.
    as_kind kind REORG_FETCH _ input (made_passes REORG_FETCH (λ x. ReorgFetch x.0.0 x.0.1 x.1.0 x.1.1) _ _ _ (both_pass pair_of pair_of (λ x. pair_spelling x.0 x.1) (λ x. pair_spelling x.0 x.1) _ _ pair_passes pair_passes) (λ x f. (refl, f, refl)) input fits)
    (last_kind kind known a b c d e g h))))))))

pub commit_passes : FieldPasses commit_in commit_spelling CommitFits
unfolding commit_in
commit_passes input fits =
    if_read (number_of REORG_FETCH input) _ _ _ (number_passes REORG_FETCH input fits) (λ kind k.
    if_more (numbers_in kind.0 kind.1) _ _ (numbers_pass kind.0 kind.1 k.1 k.0.fits) (λ x n.
    (subst (λ of_it. Passed input (uint_spelling of_it ++ numbers_spelling x.0) x.1) (sym n.2) (Passed-then input kind.1 x.1 (uint_spelling kind.0) (numbers_spelling x.0) k.0 n.0), n.1)))

-- ---- what is spelled so is read

small_again : (n : ℕ) → n ≤ MAX_NUMBER → ReadsBack small_of n (uint_spelling n)
small_again n small = number_again MAX_NUMBER n small (omega (arith, small))

pair_again : (m n : ℕ) → PairFits m n → ReadsBack pair_of (m, n) (pair_spelling m n)
pair_again m n fits = both_again small_of small_of m n (uint_spelling m) (uint_spelling n) (small_again m fits.0) (small_again n fits.1)

numbers_again : (commit : Commit) → CommitFits commit → ReadsBack (numbers_in (kind_of commit)) commit (numbers_spelling commit)
unfolding numbers_in
numbers_again (Append count) f = again_last small_of Append count _ (small_again count f)
numbers_again (Truncate to fork) f = again_last pair_of (λ x. Truncate x.0 x.1) (to, fork) _ (pair_again to fork f)
numbers_again (Clear from to) f = again_last pair_of (λ x. Clear x.0 x.1) (from, to) _ (pair_again from to f)
numbers_again (Fetch index) f = again_last small_of Fetch index _ (small_again index f)
numbers_again (Upgrade to) f = again_last small_of Upgrade to _ (small_again to f)
numbers_again (UpgradeFetch to index) f = again_last pair_of (λ x. UpgradeFetch x.0 x.1) (to, index) _ (pair_again to index f)
numbers_again (Reorg fork to kept) f =
    again_last (both_of small_of pair_of) (λ x. Reorg x.0 x.1.0 x.1.1) (fork, (to, kept)) _ (both_again small_of pair_of fork (to, kept) _ _ (small_again fork f.0) (pair_again to kept f.1))
numbers_again (ReorgFetch fork to kept index) f =
    again_last (both_of pair_of pair_of) (λ x. ReorgFetch x.0.0 x.0.1 x.1.0 x.1.1) ((fork, to), (kept, index)) _ (both_again pair_of pair_of (fork, to) (kept, index) _ _ (pair_again fork to f.0) (pair_again kept index f.1))

known_kind : (commit : Commit) → kind_of commit ≤ REORG_FETCH
known_kind (Append count) = omega arith
known_kind (Truncate to fork) = omega arith
known_kind (Clear from to) = omega arith
known_kind (Fetch index) = omega arith
known_kind (Upgrade to) = omega arith
known_kind (UpgradeFetch to index) = omega arith
known_kind (Reorg fork to kept) = omega arith
known_kind (ReorgFetch fork to kept index) = omega arith

pub commit_again : (commit : Commit) → CommitFits commit → ReadsBack commit_in commit (commit_spelling commit)
unfolding commit_in
commit_again commit fits =
    again_then (number_of REORG_FETCH) _ (kind_of commit) commit (uint_spelling (kind_of commit)) (numbers_spelling commit)
    (number_again REORG_FETCH (kind_of commit) (known_kind commit) (omega (arith, known_kind commit))) (numbers_again commit fits)
