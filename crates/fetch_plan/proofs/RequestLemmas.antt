-- Requests that are put behind one another.
use Rattle.std.proofs.Common.{◌≡◌, ℕ, ◌+◌, ◌≤◌, false, List, [], ◌∷◌, ◌++◌, length, nat_eq, None, Some, refl, sym, ap, subst, ◌∙◌, arith, inl, inr}
use Rattle.std.specs.Cmp.{nat_eq_equiv}
use Rattle.std.proofs.lemmas.Bool.{cases_Bool, eq-eqb}
use Rattle.std.specs.List.{IsDistinct, AllByRecursion}
use Rattle.std.specs.Map.{lookup, keys_of}
use Rattle.indexmap.specs.IndexMap.{IndexMap, index_map_len, spare}
use Rattle.fetch_plan.specs.Requests.{Request, without}

-- Some of the requests were put, but for that of an id, into a map that was empty; the rest finds room, and has other ids.
pub record PutsSome {S : Type 0} (id : ℕ) (all rest : List Request) (old new : IndexMap ℕ ℕ S) : Type 0 where
  pub whole : new.entries ++ without id rest ≡ without id all
  pub room : spare old ≤ index_map_len new + spare new
  pub few : index_map_len new + length rest ≤ length all
  pub apart : IsDistinct nat_eq (keys_of (new.entries ++ rest))

flipped : (a b : ℕ) → nat_eq a b ≡ false → nat_eq b a ≡ false
flipped a b differ = nat_eq_equiv.symm b a ∙ differ

-- what holds of all keys holds of one in the midst, and of the others
middle : (P : ℕ → Type 0) (xs ys : List Request) (x : Request) → AllByRecursion P (keys_of (xs ++ x ∷ ys)) → P x.0 × AllByRecursion P (keys_of (xs ++ ys))
middle P [] ys x all = all
middle P (z ∷ xs) ys x all = let rest = middle P xs ys x all.1 in (rest.0, (all.0, rest.1))

-- keys that differ stay so without one of them, which isn't among those before it
pub apart_middle : (xs ys : List Request) (x : Request) → IsDistinct nat_eq (keys_of (xs ++ x ∷ ys))
    → (lookup (nat_eq x.0) xs ≡ None) × IsDistinct nat_eq (keys_of (xs ++ ys))
unfolding IsDistinct
apart_middle [] ys x apart = (refl, apart.1)
apart_middle (z ∷ xs) ys x apart =
    let rest = apart_middle xs ys x apart.1 in
    let others = middle (λ key. nat_eq z.0 key ≡ false) xs ys x apart.0 in
    (rw (flipped z.0 x.0 others.0) rest.0, (others.1, rest.1))

-- an id that isn't there takes nothing with it
pub without-absent : (id : ℕ) (requests : List Request) → lookup (nat_eq id) requests ≡ None → requests ≡ without id requests
without-absent id [] none = refl
without-absent id (x ∷ xs) none = elim (cases_Bool (nat_eq id x.0)) [
  | inl same ↦ let clash : Some x.1 ≡ None = sym (rw same refl) ∙ none in cc
  | inr other ↦
      let rest : lookup (nat_eq id) xs ≡ None = sym (rw other refl) ∙ none in
      rw other (ap (λ more. x ∷ more) (without-absent id xs rest))
]

module _ {S : Type 0} (id : ℕ) (all rest later : List Request) (x : Request) (old new : IndexMap ℕ ℕ S) (is : rest ≡ x ∷ later)
    (puts : PutsSome id all rest old new) where
  split : (lookup (nat_eq x.0) new.entries ≡ None) × IsDistinct nat_eq (keys_of (new.entries ++ later))
  split = apart_middle new.entries later x (subst (λ (requests : List Request). IsDistinct nat_eq (keys_of (new.entries ++ requests))) is puts.apart)

  -- the next one isn't there yet
  pub next_absent : lookup (nat_eq x.0) new.entries ≡ None
  next_absent = split.0

  -- the one of the id is left out
  pub skips : id ≡ x.0 → PutsSome id all later old new
  skips same =
      let dropped : without id rest ≡ without id later = ap (without id) is ∙ rw (eq-eqb id x.0 same) refl in
      record {
        whole = ap (λ (requests : List Request). new.entries ++ requests) (sym dropped) ∙ puts.whole;
        room = puts.room;
        few = omega (arith, puts.few, ap length is);
        apart = split.1;
      }
