-- What reading a copy page by page gives.
use Rattle.std.proofs.Common.{◌≡◌, inl, inr, ℕ, ◌+◌, ◌-◌, ◌*◌, ◌/◌, ◌%◌, ◌<◌, ◌≤◌, min, Bool, true, false, cond, List, [], ◌++◌, take, drop, get_or, Result, Ok, Err, sym, ap, subst, ◌∙◌, arith}
use Rattle.std.specs.Prelude.{◌&&◌, nat_lt}
use Rattle.std.proofs.lemmas.Bool.{cases_lt}
use Rattle.std.proofs.lemmas.Bool.Decides.{nat_tests}
use Rattle.std.proofs.lemmas.List.{get_or-drop, get_or-take, take_at}
use Rattle.bit_field.specs.Places.{has, is_in, SetsRange}
use Rattle.bit_field.specs.Pages.{is_set, bytes_from, page_of}
use Rattle.bit_field.proofs.Bytes.{length-bytes_from, bytes_from-add}
use Rattle.bit_field.proofs.Ranges.{is_in_range, is_in_others}
use mathlib.Core.Path.{fun_ext}
use Rattle.std.specs.Str.{bytes_eq}
use Rattle.disk_trait.specs.declared.disk.Area.{Area}
use Rattle.node_set.specs.declared.fault.CoreFault.{CoreFault}
use Rattle.node_set.specs.declared.fault.CoreFault.TheVariants.{Memory, StoreFault, Damaged}
use Rattle.core_disk.specs.Areas.{Areas, held_in, copy_of, copy_hash}
use Rattle.core_disk.specs.Copying.{place_in, SetsPlaces, CopiedTo, places_below, bytes_below, ChecksCopy, TellsCopy}

-- ---- places one by one

pub sets_none : (bytes : List ℕ) (from : ℕ) (held : ℕ → Bool) → SetsPlaces bytes from from held held
sets_none bytes from held place =
    let out : is_in from from place ≡ false = elim (cases_lt place from) [
      | inl lt ↦ is_in_others from from place (inl lt)
      | inr ge ↦ is_in_others from from place (inr ge)
    ] in
    sym (ap (λ b. cond b (place_in bytes (place - from)) (held place)) out)

pub sets_more : (bytes : List ℕ) (from at : ℕ) (bit : Bool) (old mid new : ℕ → Bool) → from ≤ at → SetsPlaces bytes from at old mid
    → bit ≡ place_in bytes (at - from) → SetsRange bit at (at + 1) mid new → SetsPlaces bytes from (at + 1) old new
sets_more bytes from at bit old mid new ordered so_far is one place =
    let other : is_in at (at + 1) place ≡ false → is_in from at place ≡ is_in from (at + 1) place → new place ≡ cond (is_in from (at + 1) place) (place_in bytes (place - from)) (old place) =
    λ out same. one place ∙ ap (λ b. cond b bit (mid place)) out ∙ so_far place ∙ ap (λ b. cond b (place_in bytes (place - from)) (old place)) same in
    elim (cases_lt place at) [
      | inl lt ↦ other (is_in_others at (at + 1) place (inl lt)) (grind (arith, nat_tests))
      | inr ge ↦ elim (cases_lt at place) [
        | inl gt ↦ other (is_in_others at (at + 1) place (inr (omega (arith, gt)))) (grind (arith, nat_tests))
        | inr le ↦
            let same : at ≡ place = omega (arith, le, ge) in
            one place ∙ ap (λ b. cond b bit (mid place)) (is_in_range at (at + 1) place ge (omega (arith, le)))
            ∙ is ∙ ap (λ (p : ℕ). place_in bytes (p - from)) same
            ∙ sym (ap (λ b. cond b (place_in bytes (place - from)) (old place)) (is_in_range from (at + 1) place (omega (arith, ordered, ge)) (omega (arith, le))))
      ]
    ]

-- ---- a page

-- by other bytes that have the same bits there
pub sets_same : (one other : List ℕ) (from to : ℕ) (old new : ℕ → Bool) → ((place : ℕ) → place < to - from → place_in one place ≡ place_in other place)
    → SetsPlaces one from to old new → SetsPlaces other from to old new
sets_same one other from to old new same sets place =
    let out : is_in from to place ≡ false → new place ≡ cond (is_in from to place) (place_in other (place - from)) (old place) =
    λ is. sets place ∙ ap (λ b. cond b (place_in one (place - from)) (old place)) is ∙ sym (ap (λ b. cond b (place_in other (place - from)) (old place)) is) in
    elim (cases_lt place from) [
      | inl lt ↦ out (is_in_others from to place (inl lt))
      | inr ge ↦ elim (cases_lt place to) [
        | inr past ↦ out (is_in_others from to place (inr past))
        | inl lt ↦
            let is = is_in_range from to place ge lt in
            sets place ∙ ap (λ b. cond b (place_in one (place - from)) (old place)) is ∙ same (place - from) (omega (arith, ge, lt))
            ∙ sym (ap (λ b. cond b (place_in other (place - from)) (old place)) is)
      ]
    ]

-- by the bytes of the area, where these were read
pub sets_page : (n at from to : ℕ) (room area : List ℕ) (old new : ℕ → Bool) → to ≤ from + 32768 → take n room ≡ take 4096 (drop at area)
    → SetsPlaces (take n room) from to old new → SetsPlaces (drop at area) from to old new
sets_page n at from to room area old new few read sets =
    sets_same (take n room) (drop at area) from to old new (λ place lt.
    let low : place / 8 < 4096 = omega (arith, few, lt) in
    ap (λ (l : List ℕ). place_in l place) read ∙ ap (λ (byte : ℕ). is_set byte (place % 8)) (get_or-take 4096 (drop at area) (place / 8) 0 low)) sets

copied_more : (area : List ℕ) (k a b : ℕ) (old new : ℕ → Bool) → a ≡ 8 * k → a ≤ b → CopiedTo area a old → SetsPlaces (drop k area) a b old new → CopiedTo area b new
copied_more area k a b old new whole ordered copied sets place =
    let out : is_in a b place ≡ false → nat_lt place a ≡ nat_lt place b → new place ≡ held_in area b place =
    λ is same. sets place ∙ ap (λ t. cond t (place_in (drop k area) (place - a)) (old place)) is ∙ copied place ∙ ap (λ t. t && place_in area place) same in
    elim (cases_lt place a) [
      | inl lt ↦ out (is_in_others a b place (inl lt)) (grind (arith, nat_tests))
      | inr ge ↦ elim (cases_lt place b) [
        | inr past ↦ out (is_in_others a b place (inr past)) (grind (arith, nat_tests))
        | inl lt ↦
            let byte : k + (place - a) / 8 ≡ place / 8 = omega (arith, whole, ge) in
            let digit : (place - a) % 8 ≡ place % 8 = omega (arith, whole, ge) in
            let below : nat_lt place b ≡ true = grind (arith, nat_tests) in
            sets place ∙ ap (λ t. cond t (place_in (drop k area) (place - a)) (old place)) (is_in_range a b place ge lt)
            ∙ ap (λ (x : ℕ). is_set x ((place - a) % 8)) (get_or-drop k area ((place - a) / 8) 0)
            ∙ ap (λ (i : ℕ). is_set (get_or area i 0) ((place - a) % 8)) byte
            ∙ ap (λ (i : ℕ). is_set (get_or area (place / 8) 0) i) digit
            ∙ sym (ap (λ t. t && place_in area place) below)
      ]
    ]

pub page_more : (area : List ℕ) (blocks number : ℕ) (old new : ℕ → Bool) → number * 32768 ≤ blocks → CopiedTo area (places_below blocks number) old
    → SetsPlaces (drop (number * 4096) area) (number * 32768) (places_below blocks (number + 1)) old new → CopiedTo area (places_below blocks (number + 1)) new
page_more area blocks number old new within copied sets =
    let here : places_below blocks number ≡ number * 32768 = omega (arith, within) in
    copied_more area (number * 4096) (number * 32768) (places_below blocks (number + 1)) old new (omega arith) (omega (arith, within)) (subst (λ n. CopiedTo area n old) here copied) sets

-- no page
pub copied_none : (area : List ℕ) (blocks : ℕ) (held : ℕ → Bool) → ((place : ℕ) → 0 ≤ place → held place ≡ false) → CopiedTo area (places_below blocks 0) held
copied_none area blocks held none place =
    let here : places_below blocks 0 ≡ 0 = omega arith in
    let out : nat_lt place 0 ≡ false = grind (arith, nat_tests) in
    none place (omega arith) ∙ sym (ap (λ t. t && place_in area place) out) ∙ ap (λ n. held_in area n place) (sym here)

-- ---- the hash of a copy

take-bytes_from : (count more : ℕ) (bits : ℕ → Bool) (first : ℕ) → take count (bytes_from (count + more) bits first) ≡ bytes_from count bits first
take-bytes_from count more bits first =
    ap (take count) (bytes_from-add count more bits first)
    ∙ take_at (bytes_from count bits first) (bytes_from more bits (first + 8 * count)) count (length-bytes_from count bits first)

pub page_bytes : (bits : ℕ → Bool) (number bytes end : ℕ) (page : List ℕ) → page ≡ page_of bits number → number * 4096 ≤ bytes → end ≡ min (bytes - number * 4096) 4096
    → bytes_from (number * 4096) bits 0 ++ take end page ≡ bytes_from (bytes_below bytes (number + 1)) bits 0
page_bytes bits number bytes end page is within last =
    let whole : 4096 ≡ end + (4096 - end) = omega (arith, last) in
    let place : number * 32768 ≡ 0 + 8 * (number * 4096) = omega arith in
    let all : number * 4096 + end ≡ bytes_below bytes (number + 1) = omega (arith, last, within) in
    ap (λ l. bytes_from (number * 4096) bits 0 ++ take end l) (is ∙ ap (λ (n : ℕ). bytes_from n bits (number * 32768)) whole)
    ∙ ap (λ l. bytes_from (number * 4096) bits 0 ++ l) (take-bytes_from end (4096 - end) bits (number * 32768))
    ∙ ap (λ (p : ℕ). bytes_from (number * 4096) bits 0 ++ bytes_from end bits p) place
    ∙ sym (bytes_from-add (number * 4096) end bits 0)
    ∙ ap (λ (n : ℕ). bytes_from n bits 0) all

pub no_bytes : (bits : ℕ → Bool) (bytes : ℕ) → [] ≡ bytes_from (bytes_below bytes 0) bits 0
unfolding bytes_from
no_bytes bits bytes = let none : 0 ≡ bytes_below bytes 0 = omega arith in ap (λ (n : ℕ). bytes_from n bits 0) none

-- what was copied, and then checked
tells_here : (epoch : ℕ) (bits : List ℕ) (areas : Areas) (n : ℕ) (held : List Bool) (r : Result (List Bool) CoreFault) → CopiedTo (areas (copy_of epoch)) n (has held)
    → ChecksCopy (copy_of epoch) bits held n r → TellsCopy epoch bits areas n r
tells_here epoch bits areas n held (Ok same) copied checks =
    (subst (λ h. CopiedTo (areas (copy_of epoch)) n (has h)) (sym checks.0) copied, ap (λ h. bytes_eq bits (copy_hash h n)) (sym (fun_ext copied)) ∙ checks.1)
tells_here epoch bits areas n held (Err Memory) copied checks = tt
tells_here epoch bits areas n held (Err StoreFault) copied checks = tt
tells_here epoch bits areas n held (Err (Damaged place want have)) copied checks =
    (checks.0, checks.1, checks.2 ∙ ap (λ h. copy_hash h n) (fun_ext copied), checks.3)
tells_here epoch bits areas n held (Err other) copied checks = absurd checks

pub tells_checked : (epoch : ℕ) (bits : List ℕ) (areas : Areas) (n : ℕ) (area : Area) (held : List Bool) (r : Result (List Bool) CoreFault) → area ≡ copy_of epoch
    → CopiedTo (areas area) n (has held) → ChecksCopy area bits held n r → TellsCopy epoch bits areas n r
tells_checked epoch bits areas n area held r is copied checks =
    tells_here epoch bits areas n held r (subst (λ a. CopiedTo (areas a) n (has held)) is copied) (subst (λ a. ChecksCopy a bits held n r) is checks)
