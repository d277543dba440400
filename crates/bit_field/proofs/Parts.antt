-- Words of which one was written over, or some whole ones.
use Rattle.std.proofs.Common.{◌≡◌, ◌⊎◌, inl, inr, ℕ, ◌+◌, ◌-◌, ◌*◌, ◌/◌, ◌%◌, ◌<◌, ◌≤◌, Bool, false, cond, List, length, get_or, set, replicate, sym, ◌∙◌, ap, arith}
use Rattle.std.proofs.lemmas.Bool.{cases_lt, cases_eq}
use Rattle.std.proofs.lemmas.Bool.Decides.{nat_tests}
use Rattle.std.proofs.lemmas.List.{places, get_or-set_other}
use borrow.Rule.Slice.PartMut.{put_mid}
use Rattle.std.proofs.lemmas.Grind.{get_or-set_at}
use Rattle.std.proofs.lemmas.Nat.{mod_below}
use Rattle.bit_field.specs.Places.{is_in, SetsRange}
use Rattle.bit_field.specs.Pages.{is_set}
use Rattle.bit_field.specs.Words.{in_words}
use Rattle.bit_field.proofs.Ranges.{is_in_range, is_in_others}

-- one word, in which the places from..to have the bit
module _ (words : List ℕ) (from to word : ℕ) (bit : Bool) (some : from < to)
    (one : to ≤ 64 * (from / 64 + 1)) (within : to ≤ 64 * length words)
    (written : (k : ℕ) → k < 64
    → is_set word k ≡ cond (is_in (from % 64) (from % 64 + (to - from)) k) bit (is_set (get_or words (from / 64) 0) k)) where
  same_test : (place : ℕ) → place / 64 ≡ from / 64 → is_in (from % 64) (from % 64 + (to - from)) (place % 64) ≡ is_in from to place
  same_test place here = grind (arith, nat_tests)

  other_test : (place : ℕ) → (place / 64 ≡ from / 64 → ⊥) → is_in from to place ≡ false
  other_test place other = grind (arith, nat_tests)

  pub set_in_word : SetsRange bit from to (in_words words) (in_words (set words (from / 64) word))
  unfolding in_words
  set_in_word place = elim (cases_eq (place / 64) (from / 64)) [
    | inl here ↦
        ap (λ (w : ℕ). is_set w (place % 64)) (get_or-set_at words (from / 64) (place / 64) word 0 here (omega arith))
        ∙ written (place % 64) (mod_below place 64 (omega arith))
        ∙ ap (λ (test : Bool). cond test bit (is_set (get_or words (from / 64) 0) (place % 64))) (same_test place here)
        ∙ ap (λ (i : ℕ). cond (is_in from to place) bit (is_set (get_or words i 0) (place % 64))) (sym here)
    | inr other ↦
        ap (λ (w : ℕ). is_set w (place % 64)) (get_or-set_other words (from / 64) (place / 64) word 0 other)
        ∙ ap (λ (test : Bool). cond test bit (is_set (get_or words (place / 64) 0) (place % 64))) (sym (other_test place other))
  ]

-- whole words, in which each place has the bit
module _ (words filled : List ℕ) (first last word : ℕ) (bit : Bool) (ordered : first ≤ last) (within : last ≤ length words)
    (fills : filled ≡ replicate (last - first) word) (whole : (k : ℕ) → k < 64 → is_set word k ≡ bit) where
  before_part : (i : ℕ) → i < first → get_or (put_mid first (last - first) words filled) i 0 ≡ get_or words i 0
  before_part i lt = ap (λ (ys : List ℕ). get_or (put_mid first (last - first) words ys) i 0) fills ∙ grind (arith, places)

  in_part : (i : ℕ) → first ≤ i → i < last → get_or (put_mid first (last - first) words filled) i 0 ≡ word
  in_part i ge lt = ap (λ (ys : List ℕ). get_or (put_mid first (last - first) words ys) i 0) fills ∙ grind (arith, places)

  after_part : (i : ℕ) → last ≤ i → get_or (put_mid first (last - first) words filled) i 0 ≡ get_or words i 0
  after_part i ge = ap (λ (ys : List ℕ). get_or (put_mid first (last - first) words ys) i 0) fills ∙ grind (arith, places)

  test_out : (place : ℕ) → (place / 64 < first) ⊎ (last ≤ place / 64) → is_in (64 * first) (64 * last) place ≡ false
  test_out place (inl lt) = is_in_others (64 * first) (64 * last) place (inl (omega arith))
  test_out place (inr ge) = is_in_others (64 * first) (64 * last) place (inr (omega arith))

  -- where the word is the old one
  outside : (place : ℕ) → (place / 64 < first) ⊎ (last ≤ place / 64)
      → get_or (put_mid first (last - first) words filled) (place / 64) 0 ≡ get_or words (place / 64) 0
      → in_words (put_mid first (last - first) words filled) place ≡ cond (is_in (64 * first) (64 * last) place) bit (in_words words place)
  unfolding in_words
  outside place out same =
      ap (λ (w : ℕ). is_set w (place % 64)) same
      ∙ ap (λ (test : Bool). cond test bit (is_set (get_or words (place / 64) 0) (place % 64))) (sym (test_out place out))

  inside : (place : ℕ) → first ≤ place / 64 → place / 64 < last
      → in_words (put_mid first (last - first) words filled) place ≡ cond (is_in (64 * first) (64 * last) place) bit (in_words words place)
  unfolding in_words
  inside place ge lt =
      ap (λ (w : ℕ). is_set w (place % 64)) (in_part (place / 64) ge lt)
      ∙ whole (place % 64) (mod_below place 64 (omega arith))
      ∙ ap (λ (test : Bool). cond test bit (is_set (get_or words (place / 64) 0) (place % 64)))
      (sym (is_in_range (64 * first) (64 * last) place (omega arith) (omega arith)))

  pub set_in_words : SetsRange bit (64 * first) (64 * last) (in_words words) (in_words (put_mid first (last - first) words filled))
  set_in_words place = elim (cases_lt (place / 64) first) [
    | inl before ↦ outside place (inl before) (before_part (place / 64) before)
    | inr ge ↦ elim (cases_lt (place / 64) last) [
      | inl lt ↦ inside place ge lt
      | inr past ↦ outside place (inr past) (after_part (place / 64) past)
    ]
  ]
