-- Each step keeps the rule of the count word.
use Rattle.std.proofs.Common.{◌≡◌, ◌≢◌, ℕ, zero, suc, ◌+◌, ◌%◌, ◌^◌, ◌<◌, ◌≤◌, List, [], ◌∷◌, ◌++◌, length, set, true, false, true≢false, refl, sym, ap, ◌∙◌, subst, ⊎_elim, arith, length-append}
use Rattle.std.specs.Prelude.{slice_index}
use Rattle.std.proofs.Math.Nat.{mod-eq_of_lt}
use mathlib.Core.Option.{none, some, some-ne-none, some-injective}
use lib.ListN.{get_elem?}
use Rattle.atomic_table.specs.Table.{Step, step, keeps, Splits, Joins, Allows, opening}
use Rattle.atomic_table.proofs.Lists.{at_set, at_snoc, set_again}
use Rattle.commit_book.specs.declared.commit.Entry.{Entry}
use Rattle.commit_book.specs.declared.law.Known.{Known}
use Rattle.commit_book.specs.Prefix.{IsPrefix}
use Rattle.commit_book.specs.Rule.{keeper, nobody, hosting, told, Fits, Kept, Agrees, writing, Added, Compared, Noted}
use Rattle.commit_book.proofs.PrefixLemmas.{IsPrefix-nil, IsPrefix-refl, IsPrefix-push, length-IsPrefix}

off : {P : Type 0} → false ≡ true → P
off e = absurd (true≢false (sym e))

-- what knows nothing fits
nobody_fits : (seat : ℕ) (log : List Entry) (by : ℕ) → Fits seat log by nobody
nobody_fits seat log by = record { keeper = λ k. off k; seen = IsPrefix-nil log; guest = IsPrefix-nil log; noted = omega arith }

-- what doesn't know all fits at every seat
refits : (seat : ℕ) (log : List Entry) (by other : ℕ) (v : Known) → v.keeps ≡ false → Fits seat log by v → Fits seat log other v
refits seat log by other v part f =
    record { keeper = λ k. off (sym part ∙ k); seen = f.seen; guest = f.guest; noted = f.noted }

-- one view is changed, and all views fit
fits_set : (seat : ℕ) (log : List Entry) (views : List Known) (by : ℕ) (w : Known)
    → ((j : ℕ) (u : Known) → j ≢ by → get_elem? views j ≡ some u → Fits seat log j u) → Fits seat log by w
    → (j : ℕ) (u : Known) → get_elem? (set views by w) j ≡ some u → Fits seat log j u
fits_set seat log views by w others mine j u e =
    ⊎_elim
    (λ (x : (j ≡ by) × (w ≡ u)). subst (λ (y : ℕ × Known). Fits seat log y.0 y.1) (λ i. (sym x.0 i, x.1 i)) mine)
    (λ (x : (j ≢ by) × (get_elem? views j ≡ some u)). others j u x.0 x.1)
    (at_set views by j w u e)

-- one view comes last, and all views fit
fits_snoc : (seat : ℕ) (log : List Entry) (views : List Known) (w : Known)
    → ((j : ℕ) (u : Known) → get_elem? views j ≡ some u → Fits seat log j u) → ((j : ℕ) → Fits seat log j w)
    → (j : ℕ) (u : Known) → get_elem? (views ++ w ∷ []) j ≡ some u → Fits seat log j u
fits_snoc seat log views w others new j u e =
    ⊎_elim (λ was. others j u was) (λ (same : w ≡ u). subst (Fits seat log j) same (new j)) (at_snoc views w u j e)

-- the table of a new book keeps the rule
pub begins : Kept (opening (0 ∷ []) [] (keeper []))
begins = (0, [], refl, one)
  where
    one : (by : ℕ) (v : Known) → get_elem? (keeper [] ∷ []) by ≡ some v → Fits 0 [] by v
    one zero v e = subst (Fits 0 [] 0) (some-injective _ _ e) (record { keeper = λ _. (refl, refl); seen = IsPrefix-refl []; guest = IsPrefix-refl []; noted = omega arith })
    one (suc by) v e = absurd (some-ne-none v (sym e))

-- a pass begins
pub opens : (by : ℕ) (v : Known) → Splits Kept by v v nobody
opens by v s h at =
    (h.0, h.1, h.2, fits_snoc h.0 h.1 (set s.views by v) nobody (λ j u e. h.3 j u (subst (λ l. get_elem? l j ≡ some u) (set_again s.views by v at) e)) (nobody_fits h.0 h.1))

-- a pass leaves its seat
pub leaves : (by : ℕ) (v : Known) → v.keeps ≡ false → Splits Kept by v nobody v
leaves by v part s h at =
    (h.0, h.1, h.2, fits_snoc h.0 h.1 (set s.views by nobody) v (fits_set h.0 h.1 s.views by nobody (λ j u _ e. h.3 j u e) (nobody_fits h.0 h.1 by)) (λ j. refits h.0 h.1 by j v part (h.3 by v at)))

-- a guest leaves, and has seen all
pub tells : (by : ℕ) (v : Known) → Splits Kept by v v (told v)
tells by v s h at =
    let mine = h.3 by v at in
    let new : (j : ℕ) → Fits h.0 h.1 j (told v) = λ j. record { keeper = λ k. off k; seen = mine.seen; guest = IsPrefix-nil h.1; noted = length-IsPrefix v.seen h.1 mine.seen } in
    (h.0, h.1, h.2, fits_snoc h.0 h.1 (set s.views by v) (told v) (λ j u e. h.3 j u (subst (λ l. get_elem? l j ≡ some u) (set_again s.views by v at) e)) new)

-- the book hosts a pass
pub hosts : (by : ℕ) (v : Known) (other : ℕ) (w : Known) → Joins Kept by v other w (hosting v w) nobody
hosts by v other w s h at apart there =
    let mine = h.3 by v at in
    let theirs = ⊎_elim (λ (t : (other ≡ by) × (hosting v w ≡ w)). absurd (apart t.0)) (λ (t : (other ≢ by) × (get_elem? s.views other ≡ some w)). h.3 other w t.1) (at_set s.views by other (hosting v w) w there) in
    let host : Fits h.0 h.1 by (hosting v w) = record { keeper = mine.keeper; seen = mine.seen; guest = theirs.seen; noted = theirs.noted } in
    (h.0, h.1, h.2, fits_set h.0 h.1 (set s.views by (hosting v w)) other nobody (λ j u _ e. fits_set h.0 h.1 s.views by (hosting v w) (λ i y _ e'. h.3 i y e') host j u e) (nobody_fits h.0 h.1 other))

-- what the rule says of the seat that knows all
agrees : (seat : ℕ) (log : List Entry) (by : ℕ) (v : Known) → v.keeps ≡ true → Fits seat log by v → Agrees v
agrees seat log by v all f =
    let same = (f.keeper all).1 in (subst (IsPrefix v.guest) (sym same) f.guest, subst (λ (l : List Entry). v.noted ≤ length l) (sym same) f.noted)

-- what the steps tell doesn't depend on their numbers
abbrev pub any_step : Step ℕ
any_step = step 0 0 0 0 none

-- an entry is added
pub adds : (slots by : ℕ) (v : Known) (c : List (ℕ × ℕ)) (e : Entry) → v.keeps ≡ true → length v.seen + 1 < 2 ^ 64
    → Allows Kept slots by (v, c) 0 (λ n. (n + 1) % 2 ^ 64) (Added e any_step (v, c))
adds slots by v c e all room s h len at small =
    let mine = h.3 by v at in
    let known = mine.keeper all in
    let n : length h.1 + 1 < 2 ^ 64 = subst (λ (l : List Entry). length l + 1 < 2 ^ 64) known.1 room in
    let words : set s.words 0 ((slice_index s.words 0 + 1) % 2 ^ 64) ≡ length (h.1 ++ e ∷ []) ∷ [] =
    ap (λ (ws : List ℕ). set ws 0 ((slice_index ws 0 + 1) % 2 ^ 64)) h.2 ∙ ap (λ (k : ℕ). k ∷ []) (mod-eq_of_lt n ∙ sym (length-append h.1 (e ∷ []))) in
    let others = λ (j : ℕ) (u : Known) (apart : j ≢ by) (there : get_elem? s.views j ≡ some u).
    let f = h.3 j u there in let fits : Fits h.0 (h.1 ++ e ∷ []) j u = record {
      keeper = λ k. absurd (apart ((f.keeper k).0 ∙ sym known.0));
      seen = IsPrefix-push u.seen h.1 e f.seen;
      guest = IsPrefix-push u.guest h.1 e f.guest;
      noted = omega (arith, length-append h.1 (e ∷ []), f.noted);
    } in fits in
    let now : Fits h.0 (h.1 ++ e ∷ []) by (writing e v) = record {
      keeper = λ _. (known.0, ap (λ (l : List Entry). l ++ e ∷ []) known.1);
      seen = subst (λ (l : List Entry). IsPrefix (v.seen ++ e ∷ []) (l ++ e ∷ [])) known.1 (IsPrefix-refl (v.seen ++ e ∷ []));
      guest = IsPrefix-push v.guest h.1 e mine.guest;
      noted = omega (arith, length-append h.1 (e ∷ []), mine.noted);
    } in
    (writing e v, keeps, tt, (h.0, h.1 ++ e ∷ [], words, fits_set h.0 (h.1 ++ e ∷ []) s.views by (writing e v) others now), (refl, agrees h.0 h.1 by v all mine))

-- the word as it is
same_word : (ws : List ℕ) (n : ℕ) → ws ≡ n ∷ [] → set ws 0 (slice_index ws 0) ≡ n ∷ []
same_word ws n is = ap (λ (xs : List ℕ). set xs 0 (slice_index xs 0)) is

-- the guest is compared
pub compares : (slots by : ℕ) (v : Known) (c : List (ℕ × ℕ)) → v.keeps ≡ true → Allows Kept slots by (v, c) 0 (λ n. n) (Compared any_step (v, c))
compares slots by v c all s h len at small =
    (v, keeps, tt, (h.0, h.1, same_word s.words (length h.1) h.2, fits_set h.0 h.1 s.views by v (λ j u _ e. h.3 j u e) (h.3 by v at)), (refl, agrees h.0 h.1 by v all (h.3 by v at)))

-- the count is noted
pub notes : (slots by : ℕ) (v : Known) (c : List (ℕ × ℕ)) → Allows Kept slots by (v, c) 0 (λ n. n) (Noted any_step (v, c))
notes slots by v c s h len at small =
    let mine = h.3 by v at in
    let found : slice_index s.words 0 ≡ length h.1 = ap (λ (ws : List ℕ). slice_index ws 0) h.2 in
    let w : Known = record v { noted = slice_index s.words 0 } in
    let now : Fits h.0 h.1 by w = record { keeper = mine.keeper; seen = mine.seen; guest = mine.guest; noted = omega (arith, found) } in
    (w, keeps, tt, (h.0, h.1, same_word s.words (length h.1) h.2, fits_set h.0 h.1 s.views by w (λ j u _ e. h.3 j u e) now), (refl, omega (arith, found, length-IsPrefix v.seen h.1 mine.seen), omega (arith, found, mine.noted)))
