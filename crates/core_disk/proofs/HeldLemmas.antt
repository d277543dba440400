-- Held blocks by the calls of a set of places.
use Rattle.std.proofs.Common.{◌≡◌, ℕ, ◌-◌, ◌≤◌, Bool, true, false, Option, Some, None, sym, ◌∙◌, arith, inl, inr, nat_le}
use Rattle.std.specs.Prelude.{is_some, ◌&&◌}
use Rattle.std.proofs.lemmas.Bool.{cases_Bool, le-leb}
use Rattle.bit_field.specs.Places.{Finds}
use Rattle.core_disk.specs.Following.{any_from}
use Rattle.core_disk.proofs.FollowLaws.{any_holds, holds_any}

-- a place is found exactly where there is one
pub any_found : (held : ℕ → Bool) (from to : ℕ) (found : Option ℕ) → from ≤ to → Finds true from to held found → any_from (to - from) held from ≡ is_some found
any_found held from to None ordered none = elim (cases_Bool (any_from (to - from) held from)) [
  | inr lacks ↦ lacks
  | inl any ↦
      let there = any_holds (to - from) held from any in
      let clash : true ≡ false = sym there.1.1.1 ∙ none there.0 there.1.0 (omega (arith, ordered, there.1.1.0)) in cc
]
any_found held from to (Some place) ordered first =
    holds_any (to - from) held from place first.start (omega (arith, ordered, first.below)) first.here

pub clear_found : (held : ℕ → Bool) (blocks from to : ℕ) (found : Option ℕ) (any : Bool) → from ≤ to → to ≤ blocks → Finds true from to held found
    → any ≡ is_some found → any ≡ (nat_le from to && nat_le to blocks && any_from (to - from) held from)
clear_found held blocks from to found any ordered within finds is = rw (le-leb from to ordered, le-leb to blocks within) (is ∙ sym (any_found held from to found ordered finds))
