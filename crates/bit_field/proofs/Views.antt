-- The set that words stand for: how many places it has, and which.
use Rattle.std.proofs.Common.{◌≡◌, inl, inr, ℕ, ◌+◌, ◌*◌, ◌/◌, ◌%◌, ◌^◌, ◌<◌, ◌≤◌, Bool, false, Option, List, length, get_or, sym, ◌∙◌, ap, subst, arith}
use std.Path.{fun_ext}
use Rattle.std.proofs.lemmas.Bool.{cases_lt}
use Rattle.std.proofs.lemmas.List.{get_or_past}
use Rattle.std.proofs.lemmas.List.FromFn.{length-map-range_with_len, get_or-map-range_with_len}
use Rattle.bit_field.specs.Places.{has, Finds}
use Rattle.bit_field.specs.Pages.{is_set}
use Rattle.bit_field.specs.Words.{in_words, set_of, IsKept}

-- a place of a word
pub place_of_word : (words : List ℕ) (at k : ℕ) → k < 64 → in_words words (64 * at + k) ≡ is_set (get_or words at 0) k
unfolding in_words
place_of_word words at k lt =
    let word : (64 * at + k) / 64 ≡ at = omega arith in
    let digit : (64 * at + k) % 64 ≡ k = omega arith in
    ap (λ (i : ℕ). is_set (get_or words i 0) ((64 * at + k) % 64)) word ∙ ap (λ (i : ℕ). is_set (get_or words at 0) i) digit

length_of_set : (words : List ℕ) (count : ℕ) → length (set_of words count) ≡ count
unfolding set_of
length_of_set words count = length-map-range_with_len (in_words words) 0 count

set_has : (words : List ℕ) (count : ℕ) → IsKept words count → (place : ℕ) → has (set_of words count) place ≡ in_words words place
unfolding set_of
set_has words count kept place = elim (cases_lt place count) [
  | inl below ↦ get_or-map-range_with_len (in_words words) 0 count place place false below (omega arith)
  | inr past ↦
      get_or_past (set_of words count) place false (omega (arith, length_of_set words count))
      ∙ sym (kept.spare place past)
]

-- the words, and the count of places, stand for the set
pub record StandFor (words : List ℕ) (count : ℕ) (set : List Bool) : Type 0 where
  pub places : count ≡ length set
  pub room : count ≤ 64 * length words
  pub fits : 64 * length words < 2 ^ 64
  pub same : has set ≡ in_words words
  pub spare : (place : ℕ) → count ≤ place → in_words words place ≡ false

pub stand_new : (words : List ℕ) (count : ℕ) → IsKept words count → StandFor words count (set_of words count)
stand_new words count kept = record {
  places = sym (length_of_set words count);
  room = omega (arith, kept.pages);
  fits = omega (arith, kept.pages, kept.within);
  same = fun_ext (set_has words count kept);
  spare = kept.spare;
}

pub stand : (words slice : List ℕ) (count : ℕ) (set : List Bool) → IsKept words count → set_of words count ≡ set → slice ≡ words
    → StandFor slice count set
stand words slice count set kept view value =
    let now = subst (λ (s : List Bool). StandFor words count s) view (stand_new words count kept) in
    subst (λ (ws : List ℕ). StandFor ws count set) (sym value) now

-- what is found in the words is found in the set
pub finds_in_set : (words : List ℕ) (count from : ℕ) (set : List Bool) (bit : Bool) (answer : Option ℕ) → StandFor words count set
    → Finds bit from count (in_words words) answer → Finds bit from (length set) (has set) answer
finds_in_set words count from set bit answer stands finds =
    let within = subst (λ (bits : ℕ → Bool). Finds bit from count bits answer) (sym stands.same) finds in
    subst (λ (n : ℕ). Finds bit from n (has set) answer) stands.places within
