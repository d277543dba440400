-- What the words keep when they are made, when more come, and when a range of their places is written.
use Rattle.std.proofs.Common.{◌≡◌, inl, inr, ℕ, ◌-◌, ◌/◌, ◌%◌, ◌≤◌, Bool, false, cond, eqb, List, ◌++◌, length, get_or, take, replicate, refl, sym, ◌∙◌, ap, subst, arith, length-append}
use Rattle.std.proofs.lemmas.Bool.{cases_lt}
use Rattle.std.proofs.lemmas.List.{get_or_append_left, get_or-append_right, get_or_past, get_or-replicate, length-replicate, take_all}
use Rattle.std.proofs.lemmas.Nat.Bits.{bit_at-zero}
use Rattle.bit_field.specs.declared.bits.TheConstants.{MAX_PLACES}
use Rattle.bit_field.specs.Places.{has, is_in, SetsRange}
use Rattle.bit_field.specs.Pages.{is_set}
use Rattle.bit_field.specs.Words.{in_words, set_of, words_for, IsKept}
use Rattle.bit_field.proofs.Ranges.{is_in_others}
use Rattle.bit_field.proofs.Views.{StandFor, stand_new, stand}

zero_at : (count at : ℕ) → get_or (replicate {A = ℕ} count 0) at 0 ≡ 0
zero_at count at = elim (cases_lt at count) [
  | inl lt ↦ get_or-replicate count at 0 0 lt
  | inr ge ↦ get_or_past (replicate count 0) at 0 (omega (arith, length-replicate {A = ℕ} count 0))
]

none_in_zeros : (count place : ℕ) → in_words (replicate count 0) place ≡ false
unfolding in_words
none_in_zeros count place = ap (λ (w : ℕ). is_set w (place % 64)) (zero_at count (place / 64)) ∙ ap (λ (b : ℕ). eqb b 1) (bit_at-zero (place % 64))

-- words of zeros at the end have no places
same_with_zeros : (words : List ℕ) (count place : ℕ) → in_words (words ++ replicate count 0) place ≡ in_words words place
unfolding in_words
same_with_zeros words count place =
    let word : get_or (words ++ replicate count 0) (place / 64) 0 ≡ get_or words (place / 64) 0 = elim (cases_lt (place / 64) (length words)) [
      | inl lt ↦ get_or_append_left words (replicate count 0) 0 (place / 64) lt
      | inr ge ↦
          get_or-append_right words (replicate count 0) (length words) (place / 64) 0 refl ge
          ∙ zero_at count (place / 64 - length words)
          ∙ sym (get_or_past words (place / 64) 0 ge)
    ] in
    ap (λ (w : ℕ). is_set w (place % 64)) word

module _ (words : List ℕ) (count : ℕ) (is : words ≡ replicate (words_for count) 0) (within : count ≤ MAX_PLACES) where
  none_in_new : (place : ℕ) → in_words words place ≡ false
  none_in_new place = ap (λ (ws : List ℕ). in_words ws place) is ∙ none_in_zeros (words_for count) place

  pub new_kept : IsKept words count
  new_kept = record {
    within = within;
    pages = ap (λ (ws : List ℕ). length ws) is ∙ length-replicate (words_for count) 0;
    spare = λ place past. none_in_new place;
  }

  pub new_places : length (set_of words count) ≡ count
  new_places = sym (stand_new words count new_kept).places

  pub new_empty : (place : ℕ) → has (set_of words count) place ≡ false
  new_empty place = ap (λ (bits : ℕ → Bool). bits place) (stand_new words count new_kept).same ∙ none_in_new place

-- the words of a set that were filled up with zeros
pub record IsGrown (old new : List ℕ) (count more wanted had : ℕ) (set : List Bool) : Type 0 where
  pub kept : IsKept old count
  pub view : set_of old count ≡ set
  pub ordered : length set ≤ more
  pub within : more ≤ MAX_PLACES
  pub wants : wanted ≡ words_for more
  pub long : had ≡ length old
  pub items : new ≡ take wanted old ++ replicate (wanted - had) 0

module _ (old new : List ℕ) (count more wanted had : ℕ) (set : List Bool) (grown : IsGrown old new count more wanted had set) where
  stands : StandFor old count set
  stands = stand old old count set grown.kept grown.view refl

  enough : length old ≤ wanted
  enough = omega (arith, grown.wants, grown.kept.pages, grown.ordered, stands.places)

  filled : new ≡ old ++ replicate (wanted - had) 0
  filled = grown.items ∙ ap (λ (ws : List ℕ). ws ++ replicate (wanted - had) 0) (take_all wanted old enough)

  length_is : length new ≡ wanted
  length_is =
      let sum = ap (λ (ws : List ℕ). length ws) filled ∙ length-append old (replicate (wanted - had) 0) in
      omega (arith, sum, length-replicate {A = ℕ} (wanted - had) 0, enough, grown.long)

  same_places : (place : ℕ) → in_words new place ≡ in_words old place
  same_places place = ap (λ (ws : List ℕ). in_words ws place) filled ∙ same_with_zeros old (wanted - had) place

  pub grown_kept : IsKept new more
  grown_kept = record {
    within = grown.within;
    pages = length_is ∙ grown.wants;
    spare = λ place past. same_places place ∙ grown.kept.spare place (omega (arith, grown.ordered, stands.places));
  }

  pub grown_places : length (set_of new more) ≡ more
  grown_places = sym (stand_new new more grown_kept).places

  pub grown_has : (place : ℕ) → has (set_of new more) place ≡ has set place
  grown_has place =
      ap (λ (bits : ℕ → Bool). bits place) (stand_new new more grown_kept).same
      ∙ same_places place
      ∙ sym (ap (λ (bits : ℕ → Bool). bits place) stands.same)

-- the words of a set, lent as a slice, of which a range of places was written
pub record IsWritten (old slice written new : List ℕ) (count from to : ℕ) (bit : Bool) (set : List Bool) : Type 0 where
  pub kept : IsKept old count
  pub view : set_of old count ≡ set
  pub lent : slice ≡ old
  pub long : length written ≡ length slice
  pub within : to ≤ length set
  pub sets : SetsRange bit from to (in_words slice) (in_words written)
  pub items : new ≡ written

module _ (old slice written new : List ℕ) (count from to : ℕ) (bit : Bool) (set : List Bool)
    (write : IsWritten old slice written new count from to bit set) where
  before : StandFor slice count set
  before = stand old slice count set write.kept write.view write.lent

  written_spare : (place : ℕ) → count ≤ place → in_words written place ≡ false
  written_spare place past =
      write.sets place
      ∙ ap (λ (test : Bool). cond test bit (in_words slice place)) (is_in_others from to place (inr (omega (arith, before.places, write.within))))
      ∙ before.spare place past

  pub written_kept : IsKept new count
  written_kept = subst (λ (ws : List ℕ). IsKept ws count) (sym write.items) (record {
    within = write.kept.within;
    pages = write.long ∙ ap (λ (ws : List ℕ). length ws) write.lent ∙ write.kept.pages;
    spare = written_spare;
  })

  pub written_places : length (set_of new count) ≡ length set
  written_places = sym (stand_new new count written_kept).places ∙ before.places

  pub written_range : SetsRange bit from to (has set) (has (set_of new count))
  written_range place =
      ap (λ (bits : ℕ → Bool). bits place) (stand_new new count written_kept).same
      ∙ ap (λ (ws : List ℕ). in_words ws place) write.items
      ∙ write.sets place
      ∙ ap (λ (bits : ℕ → Bool). cond (is_in from to place) bit (bits place)) (sym before.same)
