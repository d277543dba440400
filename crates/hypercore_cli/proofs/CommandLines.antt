-- Which words are a command line.
use Rattle.std.proofs.Common.{◌≡◌, ◌<◌, ℕ, true, false, ◌&&◌, ◌||◌, not, eqb, List, [], ◌∷◌, length, codes, Result, Ok, Err, refl, sym, ap, subst, arith}
use Rattle.std.specs.Prelude.{IsOk, String, string_bytes}
use Rattle.std.specs.declared.alloc.Global.{Global}
use Rattle.std.specs.Result.{result_ok, result_unwrap_or}
use Rattle.std.specs.List.{list_all}
use Rattle.std.proofs.lemmas.Bool.{and_parts, and_from, and_right, or_from, false_from_ne_true, eqb-true, eq-eqb}
use Rattle.std.proofs.lemmas.List.{length-map}
use Rattle.std.proofs.lemmas.List.Sums.{AllPass-from_list_all, list_all-from_AllPass}
use Rattle.hex.specs.Hex.{is_hex_digit, decode_sized}
use Rattle.hex.specs.declared.FromHexError.{FromHexError}
use Rattle.hex.proofs.HexLemmas.{IsOk-decode_sized}
use Rattle.hypercore_cli.specs.Words.{Slot, Key, Name, Number, is_plain, fits_slot, fits_slots, is_well_formed}
use Rattle.hypercore_cli.specs.Runs.{texts}
use Rattle.hypercore_cli.specs.Commands.{fits, IsKeyOf}

no_dash : (c : ℕ) → is_hex_digit c ≡ true → not (eqb c 45) ≡ true
no_dash c digit =
    let other : eqb c 45 ≡ false = false_from_ne_true (eqb c 45) (λ same. let dash : is_hex_digit 45 ≡ true = subst (λ x. is_hex_digit x ≡ true) (eqb-true c 45 same) digit in cc) in
    ap not other

plain_digits : (word : List ℕ) → 0 < length word → list_all is_hex_digit word ≡ true → is_plain word ≡ true
plain_digits [] some digits = absurd (omega (arith, some))
plain_digits (c ∷ cs) some digits = no_dash c (and_parts (is_hex_digit c) (list_all is_hex_digit cs) digits).0

-- a word of sixty-four digits is a key, and no other is
key_from : (word : List ℕ) → IsOk (decode_sized word 32) → fits Key word ≡ true
key_from word read =
    let parts = (IsOk-decode_sized word 32).0 read in
    let digits = list_all-from_AllPass is_hex_digit word parts.1 in
    and_from _ _ (plain_digits word (omega (arith, parts.0)) digits) (and_from _ _ (eq-eqb (length word) 64 (omega (arith, parts.0))) digits)

key_only : (word : List ℕ) → fits Key word ≡ true → IsOk (decode_sized word 32)
key_only word key =
    let sized = and_parts (eqb (length word) 64) (list_all is_hex_digit word) (and_parts (is_plain word) _ key).1 in
    (IsOk-decode_sized word 32).1 (omega (arith, eqb-true (length word) 64 sized.0), AllPass-from_list_all is_hex_digit word sized.1)

-- what a word is read as
pub IsKeyOf-read : (word : List ℕ) (r : Result (List ℕ) FromHexError) → r ≡ decode_sized word 32 → IsKeyOf word (result_ok r)
IsKeyOf-read word (Ok key) is = (key_from word (subst (λ x. IsOk x) is refl), ap (λ x. result_unwrap_or x []) is)
IsKeyOf-read word (Err e) is = false_from_ne_true (fits Key word) (λ yes. let read : IsOk {T = List ℕ} {E = FromHexError} (Err e) = subst (λ x. IsOk x) (sym is) (key_only word yes) in cc)

-- a row fits no other number of words
fits_slots-length : (slots : List Slot) (words : List (List ℕ)) → (length words ≡ length slots → ⊥) → fits_slots slots words ≡ false
fits_slots-length [] [] other = absurd (other refl)
fits_slots-length [] (word ∷ words) other = refl
fits_slots-length (slot ∷ slots) [] other = refl
fits_slots-length (slot ∷ slots) (word ∷ words) other =
    and_right (is_plain word && fits_slot slot word) (fits_slots slots words) (fits_slots-length slots words (λ same. other (omega (arith, same))))

-- another number of words is no row's
row_others : (slots : List Slot) (words : List (String Global)) → (length words ≡ length slots → ⊥) → (fits_slots slots (texts words) || false) ≡ false
row_others slots words other =
    let same : length (texts words) ≡ length words = length-map words string_bytes in
    or_from (fits_slots slots (texts words)) false (fits_slots-length slots (texts words) (λ as_many. other (omega (arith, same, as_many)))) refl

-- another number of words behind `prove` is no command line
pub prove_of_others : (words : List (String Global)) → (length words ≡ 2 → ⊥) → is_well_formed (codes "prove" ∷ texts words) ≡ false
prove_of_others words other = row_others (Key ∷ Number ∷ []) words other

-- and so behind `get`
pub get_of_others : (words : List (String Global)) → (length words ≡ 3 → ⊥) → is_well_formed (codes "get" ∷ texts words) ≡ false
get_of_others words other = row_others (Key ∷ Name ∷ Number ∷ []) words other
