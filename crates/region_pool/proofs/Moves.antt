-- Each step keeps the rule of a pool.
use Rattle.std.proofs.Common.{◌≡◌, ◌≢◌, ℕ, zero, suc, ◌+◌, ◌<◌, ◌≤◌, Bool, true, false, true≢false, List, [], ◌∷◌, ◌++◌, map, replicate, length, set, Option, Some, None, refl, sym, ap, ◌∙◌, subst, ⊎_elim, ◌⊎◌, arith, length-set, eqb}
use Rattle.std.specs.Prelude.{slice_index}
use Rattle.std.proofs.lemmas.Bool.Decides.{eqb_tells}
use Rattle.std.proofs.lemmas.Grind.{get_or_default_zero}
use mathlib.Core.Option.{none, some, some-ne-none, some-injective}
use lib.ListN.{get_elem?}
use prog.Atomic.{either}
use Rattle.atomic_table.specs.Table.{State, Act, step, stepped, takes, gives, keeps, carried_after, Valid, Splits, Joins, Allows, opening}
use Rattle.atomic_table.proofs.Lists.{at_set, at_snoc, at_index, set_again, set_here, set_else, at_longer, exchanged}
use Rattle.region_pool.specs.declared.event.Event.{Event}
use Rattle.region_pool.specs.declared.event.Event.TheVariants.{Took, Gave}
use Rattle.region_pool.specs.declared.law.Known.{Known}
use Rattle.region_pool.specs.declared.law.TheConstants.{MAX_SEATS}
use Rattle.region_pool.specs.History.{none_held, with_place, held_after, IsLegal, IsHeld}
use Rattle.region_pool.specs.Rule.{founder, newcomer, nobody, without_part, with_parts, parts_of, Fits, IsOwned, Apart, Kept, Tried, Given}
use Rattle.region_pool.proofs.EventLemmas.{held_after-push, IsLegal-push, with_place-here, with_place-else, with_place-held, LeadsTo-nil, LeadsTo-refl, LeadsTo-push}

none_some : {P : Type 0} (p : ℕ) → None ≡ Some p → P
none_some p e = absurd (cc)

same_place : (p q : ℕ) → Some p ≡ Some q → p ≡ q
same_place p q e = cc

-- a place isn't both free and held
clash : {P : Type 0} (b : Bool) → b ≡ false → b ≡ true → P
clash b is_not is = absurd (true≢false (sym is ∙ is_not))

-- one seat has one view
same_view : (views : List Known) (a b : ℕ) (v u : Known) → b ≡ a → get_elem? views a ≡ some v → get_elem? views b ≡ some u → v ≡ u
same_view views a b v u same at_a at_b = some-injective v u (sym at_a ∙ ap (get_elem? views) (sym same) ∙ at_b)

-- the parts of all, where one view is changed
parts_set : (views : List Known) (by : ℕ) (v w : Known) → get_elem? views by ≡ some v → parts_of (set views by w) + v.parts ≡ parts_of views + w.parts
parts_set [] by v w at = absurd (some-ne-none v (sym at))
parts_set (x ∷ views) zero v w at = let same = ap (λ (k : Known). k.parts) (some-injective x v at) in omega (arith, same)
parts_set (x ∷ views) (suc by) v w at = let rest = parts_set views by v w at in omega (arith, rest)

parts_kept : (views : List Known) (by : ℕ) (v w : Known) → get_elem? views by ≡ some v → w.parts ≡ v.parts → parts_of (set views by w) ≡ parts_of views
parts_kept views by v w at same = let all = parts_set views by v w at in omega (arith, all, same)

parts_snoc : (views : List Known) (w : Known) → parts_of (views ++ w ∷ []) ≡ parts_of views + w.parts
parts_snoc [] w = omega arith
parts_snoc (x ∷ views) w = let rest = parts_snoc views w in omega (arith, rest)

-- two seats have no more parts than all
parts_two : (views : List Known) (a b : ℕ) (v u : Known) → get_elem? views a ≡ some v → get_elem? views b ≡ some u → b ≢ a → v.parts + u.parts ≤ parts_of views
parts_two views a b v u at_a at_b apart =
    let one = parts_set views a v nobody at_a in
    let two = parts_set (set views a nobody) b u nobody (set_else views a b nobody apart ∙ at_b) in
    omega (arith, one, two)

-- one view is changed, and all views fit
fits_set : (log : List Event) (views : List Known) (by : ℕ) (w : Known)
    → ((j : ℕ) (u : Known) → j ≢ by → get_elem? views j ≡ some u → Fits log u) → Fits log w
    → (j : ℕ) (u : Known) → get_elem? (set views by w) j ≡ some u → Fits log u
fits_set log views by w others mine j u e =
    ⊎_elim (λ (x : (j ≡ by) × (w ≡ u)). subst (Fits log) x.1 mine) (λ (x : (j ≢ by) × (get_elem? views j ≡ some u)). others j u x.0 x.1) (at_set views by j w u e)

-- one view is changed, whose place no other one has
apart_set : (views : List Known) (by : ℕ) (w : Known) → Apart views
    → ((b p : ℕ) (u : Known) → b ≢ by → get_elem? views b ≡ some u → u.place ≡ Some p → w.place ≢ Some p) → Apart (set views by w)
apart_set views by w apart alone a b p v u at_a at_b place_a place_b =
    ⊎_elim
    (λ (x : (a ≡ by) × (w ≡ v)). ⊎_elim
    (λ (y : (b ≡ by) × (w ≡ u)). x.0 ∙ sym y.0)
    (λ (y : (b ≢ by) × (get_elem? views b ≡ some u)). absurd (alone b p u y.0 y.1 place_b (ap (λ k. k.place) x.1 ∙ place_a)))
    (at_set views by b w u at_b))
    (λ (x : (a ≢ by) × (get_elem? views a ≡ some v)). ⊎_elim
    (λ (y : (b ≡ by) × (w ≡ u)). absurd (alone a p v x.0 x.1 place_a (ap (λ k. k.place) y.1 ∙ place_b)))
    (λ (y : (b ≢ by) × (get_elem? views b ≡ some u)). apart a b p v u x.1 y.1 place_a place_b)
    (at_set views by b w u at_b))
    (at_set views by a w v at_a)

-- the word of a place
word_at : (words : List ℕ) (place n : ℕ) → place < length words → slice_index words place ≡ n → get_elem? words place ≡ some n
word_at words place n within is = at_index words place n within (sym is ∙ sym (get_or_default_zero words place n within))

-- a view that is there is so after it was set
here_set : (views : List Known) (by : ℕ) (v w : Known) → get_elem? views by ≡ some v → get_elem? (set views by w) by ≡ some w
here_set [] by v w at = absurd (some-ne-none v (sym at))
here_set (x ∷ views) zero v w at = refl
here_set (x ∷ views) (suc by) v w at = here_set views by v w at

-- a place that a seat without a place doesn't hold stays another's
owned_else : (views : List Known) (by : ℕ) (v w : Known) (p : ℕ) → get_elem? views by ≡ some v → v.place ≡ None → IsOwned views p → IsOwned (set views by w) p
owned_else views by v w p at empty o = record {
  by = o.by;
  view = o.view;
  there = set_else views by o.by w (λ same. none_some p (sym empty ∙ ap (λ k. k.place) (same_view views by o.by v o.view same at o.there) ∙ o.place)) ∙ o.there;
  place = o.place;
}

-- nor does one that holds another place
owned_other : (views : List Known) (by : ℕ) (v w : Known) (place p : ℕ) → get_elem? views by ≡ some v → v.place ≡ Some place → p ≢ place → IsOwned views p → IsOwned (set views by w) p
owned_other views by v w place p at mine apart o = record {
  by = o.by;
  view = o.view;
  there = set_else views by o.by w (λ same. apart (sym (same_place place p (sym mine ∙ ap (λ k. k.place) (same_view views by o.by v o.view same at o.there) ∙ o.place)))) ∙ o.there;
  place = o.place;
}

module _ {R : Type 0} (slots by place : ℕ) (v : Known) where
  -- a place that was free is taken
  pub takes_place : (c : List (ℕ × Option R)) (s : State (Option R) Known) → Kept s → length s.homes ≡ slots → get_elem? s.views by ≡ some v → place < slots
      → v.place ≡ None → v.parts ≢ 0 → slice_index s.words place ≡ 0
      → (w : Known) × (a : Act (Option R)) × Valid s.homes c a × Kept (stepped s place 1 by c w a) × Tried (step slots place 0 1 none) (v, c) (slice_index s.words place) (w, carried_after c a)
  takes_place c s h len at within empty some_part zero_word =
      let word = word_at s.words place 0 (omega (arith, h.even, len, within)) zero_word in
      let was_free = h.free place word in
      let log = h.log ++ Took place ∷ [] in
      let region = h.home place word in
      let now : held_after none_held log ≡ with_place place true (held_after none_held h.log) = held_after-push none_held h.log (Took place) in
      let legal : IsLegal none_held log = IsLegal-push none_held h.log (Took place) h.legal was_free in
      let w : Known = record { seen = log; place = Some place; parts = v.parts } in
      let here : IsHeld log place = ap (λ f. f place) now ∙ with_place-here place true (held_after none_held h.log) in
      let stays : (p : ℕ) → IsHeld h.log p → IsHeld log p = λ p is. ap (λ f. f p) now ∙ with_place-held place p (held_after none_held h.log) is in
      let kept : Kept (stepped s place 1 by c w (takes place (Some region.0))) = record {
        log = log;
        legal = legal;
        even = length-set s.words place 1 ∙ h.even ∙ sym (length-set s.homes place none);
        free = λ p e. ⊎_elim
            (λ (x : (p ≡ place) × (1 ≡ 0)). absurd (omega (arith, x.1)))
            (λ (x : (p ≢ place) × (get_elem? s.words p ≡ some 0)). ap (λ f. f p) now ∙ with_place-else place p true (held_after none_held h.log) x.0 ∙ h.free p x.1)
            (at_set s.words place p 1 0 e);
        held = λ p n e some_word. ⊎_elim
            (λ (x : (p ≡ place) × (1 ≡ n)). subst (IsHeld log) (sym x.0) here)
            (λ (x : (p ≢ place) × (get_elem? s.words p ≡ some n)). stays p (h.held p n x.1 some_word))
            (at_set s.words place p 1 n e);
        home = λ p e. ⊎_elim
            (λ (x : (p ≡ place) × (1 ≡ 0)). absurd (omega (arith, x.1)))
            (λ (x : (p ≢ place) × (get_elem? s.words p ≡ some 0)). let y = h.home p x.1 in (y.0, set_else s.homes place p none x.0 ∙ y.1))
            (at_set s.words place p 1 0 e);
        fits = fits_set log s.views by w
            (λ j u _ e. record { seen = LeadsTo-push u.seen h.log (Took place) (h.fits j u e).seen; place = λ p is. stays p ((h.fits j u e).place p is); partless = (h.fits j u e).partless })
            (record { seen = LeadsTo-refl log; place = λ p is. subst (IsHeld log) (same_place place p is) here; partless = λ no_part. absurd (some_part no_part) });
        apart = apart_set s.views by w h.apart
            (λ b p u _ e is mine. clash (held_after none_held h.log place) was_free (subst (IsHeld h.log) (sym (same_place place p mine)) ((h.fits b u e).place p is)));
        owned = λ p is. ⊎_elim
            (λ y. record { by = by; view = w; there = here_set s.views by v w at; place = ap Some (sym y.1) })
            (λ y. owned_else s.views by v w p at empty (h.owned p (sym (ap (λ f. f p) now ∙ with_place-else place p true (held_after none_held h.log) y.1) ∙ is)))
            (eqb_tells p place);
        parts = parts_kept s.views by v w at refl ∙ h.parts;
      } in (
        w,
        takes place (Some region.0),
        region.1,
        kept,
        record {
          taken = λ _. record {
            seen = record { before = h.log; leads = (h.fits by v at).seen; event_is = refl; legal = legal };
            place_is = refl;
            parts = refl;
            carried = (region.0, refl);
          };
          held = λ some_word. absurd (some_word zero_word);
        },
      )

  -- a place that is held is found so
  pub finds_held : (c : List (ℕ × Option R)) (s : State (Option R) Known) → Kept s → length s.homes ≡ slots → get_elem? s.views by ≡ some v → place < slots
      → v.place ≡ None → slice_index s.words place ≢ 0
      → (w : Known) × (a : Act (Option R)) × Valid s.homes c a × Kept (stepped s place (slice_index s.words place) by c w a)
      × Tried (step slots place 0 1 none) (v, c) (slice_index s.words place) (w, carried_after c a)
  finds_held c s h len at within empty some_word =
      let word = word_at s.words place (slice_index s.words place) (omega (arith, h.even, len, within)) refl in
      let same : set s.words place (slice_index s.words place) ≡ s.words = set_again s.words place (slice_index s.words place) word in
      let w : Known = record { seen = h.log; place = None; parts = v.parts } in
      let kept : Kept (stepped s place (slice_index s.words place) by c w keeps) = record {
        log = h.log;
        legal = h.legal;
        even = length-set s.words place (slice_index s.words place) ∙ h.even;
        free = λ p e. h.free p (subst (λ l. get_elem? l p ≡ some 0) same e);
        held = λ p n e. h.held p n (subst (λ l. get_elem? l p ≡ some n) same e);
        home = λ p e. h.home p (subst (λ l. get_elem? l p ≡ some 0) same e);
        fits = fits_set h.log s.views by w (λ j u _ e. h.fits j u e) (record { seen = LeadsTo-refl h.log; place = λ p is. none_some p is; partless = λ _. refl });
        apart = apart_set s.views by w h.apart (λ b p u _ e is mine. none_some p mine);
        owned = λ p is. owned_else s.views by v w p at empty (h.owned p is);
        parts = parts_kept s.views by v w at refl ∙ h.parts;
      } in (
        w,
        keeps,
        tt,
        kept,
        record {
          taken = λ zero_word. absurd (some_word zero_word);
          held = λ _. record {
            leads = (h.fits by v at).seen;
            legal = h.legal;
            held = h.held place (slice_index s.words place) word some_word;
            place_is = sym empty;
            parts = refl;
            carried = refl;
          };
        },
      )

  -- a place is tried
  pub tries : (c : List (ℕ × Option R)) → place < slots → v.place ≡ None → v.parts ≢ 0
      → Allows {S = Option R} Kept slots by (v, c) place (λ n. either (eqb n 0) 1 n) (Tried (step slots place 0 1 none) (v, c))
  tries c within empty some_part s h len at small =
      exchanged (slice_index s.words place) 0 1
      (λ k. (w : Known) × (a : Act (Option R)) × Valid s.homes c a × Kept (stepped s place k by c w a) × Tried (step slots place 0 1 none) (v, c) (slice_index s.words place) (w, carried_after c a))
      (takes_place c s h len at within empty some_part)
      (finds_held c s h len at within empty)

  -- a place is given back
  pub gives_place : (x : R) → place < slots → v.place ≡ Some place
      → Allows {S = Option R} Kept slots by (v, (place, Some x) ∷ []) place (λ _. 0) (λ _. Given (step slots place 0 0 none) (v, (place, Some x) ∷ []) 0)
  gives_place x within mine s h len at small =
      let was_held = (h.fits by v at).place place mine in
      let log = h.log ++ Gave place ∷ [] in
      let now : held_after none_held log ≡ with_place place false (held_after none_held h.log) = held_after-push none_held h.log (Gave place) in
      let legal : IsLegal none_held log = IsLegal-push none_held h.log (Gave place) h.legal was_held in
      let w : Known = record { seen = log; place = None; parts = v.parts } in
      let else : (p : ℕ) → p ≢ place → held_after none_held log p ≡ held_after none_held h.log p =
      λ p apart. ap (λ f. f p) now ∙ with_place-else place p false (held_after none_held h.log) apart in
      let kept : Kept (stepped s place 0 by ((place, Some x) ∷ []) w gives) = record {
        log = log;
        legal = legal;
        even = length-set s.words place 0 ∙ h.even ∙ sym (length-set s.homes place (some (Some x)));
        free = λ p e. ⊎_elim
            (λ (y : (p ≡ place) × (0 ≡ 0)). ap (held_after none_held log) y.0 ∙ ap (λ f. f place) now ∙ with_place-here place false (held_after none_held h.log))
            (λ (y : (p ≢ place) × (get_elem? s.words p ≡ some 0)). else p y.0 ∙ h.free p y.1)
            (at_set s.words place p 0 0 e);
        held = λ p n e some_word. ⊎_elim
            (λ (y : (p ≡ place) × (0 ≡ n)). absurd (some_word (sym y.1)))
            (λ (y : (p ≢ place) × (get_elem? s.words p ≡ some n)). else p y.0 ∙ h.held p n y.1 some_word)
            (at_set s.words place p 0 n e);
        home = λ p e. ⊎_elim
            (λ (y : (p ≡ place) × (0 ≡ 0)). (x, ap (get_elem? (set s.homes place (some (Some x)))) y.0 ∙ set_here s.homes place (some (Some x)) (omega (arith, len, within))))
            (λ (y : (p ≢ place) × (get_elem? s.words p ≡ some 0)). let z = h.home p y.1 in (z.0, set_else s.homes place p (some (Some x)) y.0 ∙ z.1))
            (at_set s.words place p 0 0 e);
        fits = fits_set log s.views by w
            (λ j u other e. record {
              seen = LeadsTo-push u.seen h.log (Gave place) (h.fits j u e).seen;
              place = λ p is. else p (λ same. other (h.apart j by p u v e at is (mine ∙ ap Some (sym same)))) ∙ (h.fits j u e).place p is;
              partless = (h.fits j u e).partless;
            })
            (record { seen = LeadsTo-refl log; place = λ p is. none_some p is; partless = λ _. refl });
        apart = apart_set s.views by w h.apart (λ b p u _ e is none. none_some p none);
        owned = λ p is. ⊎_elim
            (λ y. clash (held_after none_held log place) (ap (λ f. f place) now ∙ with_place-here place false (held_after none_held h.log)) (subst (IsHeld log) y.1 is))
            (λ y. owned_other s.views by v w place p at mine y.1 (h.owned p (sym (else p y.1) ∙ is)))
            (eqb_tells p place);
        parts = parts_kept s.views by v w at refl ∙ h.parts;
      } in (
        w,
        gives,
        tt,
        kept,
        record {
          seen = record { before = h.log; leads = (h.fits by v at).seen; event_is = refl; legal = legal };
          place_is = refl;
          parts = refl;
          carried = refl;
        },
      )

-- a seat begins
pub opens : {R : Type 0} (by : ℕ) (v : Known) → v.place ≡ None → v.parts ≢ 0 → Splits {S = Option R} Kept by v (without_part v) newcomer
opens by v empty some_part s h at =
    let w = without_part v in
    let there : (j : ℕ) (u : Known) → get_elem? (set s.views by w ++ newcomer ∷ []) j ≡ some u → (get_elem? (set s.views by w) j ≡ some u) ⊎ (newcomer ≡ u) =
    λ j u e. at_snoc (set s.views by w) newcomer u j e in
    let kept = apart_set s.views by w h.apart (λ b p u _ e is mine. none_some p (sym empty ∙ mine)) in
    let parts = parts_set s.views by v w at in
    record {
      log = h.log;
      legal = h.legal;
      even = h.even;
      free = h.free;
      held = h.held;
      home = h.home;
      fits = λ j u e. ⊎_elim
          (fits_set h.log s.views by w (λ i x _ e'. h.fits i x e') (record { seen = (h.fits by v at).seen; place = λ p is. none_some p (sym empty ∙ is); partless = λ _. empty }) j u)
          (λ new. subst (Fits h.log) new (record { seen = LeadsTo-nil h.log; place = λ p is. none_some p is; partless = λ _. refl }))
          (there j u e);
      apart = λ a b p u x at_a at_b place_a place_b. ⊎_elim
          (λ old_a. ⊎_elim (λ old_b. kept a b p u x old_a old_b place_a place_b) (λ new. none_some p (ap (λ k. k.place) new ∙ place_b)) (there b x at_b))
          (λ new. none_some p (ap (λ k. k.place) new ∙ place_a))
          (there a u at_a);
      owned = λ p is. let o = owned_else s.views by v w p at empty (h.owned p is) in
          record { by = o.by; view = o.view; there = at_longer (set s.views by w) (newcomer ∷ []) o.by o.view o.there; place = o.place };
      parts = parts_snoc (set s.views by w) newcomer ∙ omega (arith, parts, h.parts, some_part);
    }

-- a seat ends
pub ends : {R : Type 0} (by : ℕ) (v : Known) (other : ℕ) (w : Known) → v.place ≡ None → w.place ≡ None → Joins {S = Option R} Kept by v other w (with_parts v w) nobody
ends by v other w empty bare s h at apart there =
    let host = with_parts v w in
    let one = parts_set s.views by v host at in
    let two = parts_set (set s.views by host) other w nobody there in
    record {
      log = h.log;
      legal = h.legal;
      even = h.even;
      free = h.free;
      held = h.held;
      home = h.home;
      fits = fits_set h.log (set s.views by host) other nobody
          (λ j u _ e. fits_set h.log s.views by host (λ i x _ e'. h.fits i x e') (record { seen = (h.fits by v at).seen; place = λ p is. none_some p (sym empty ∙ is); partless = λ _. empty }) j u e)
          (record { seen = LeadsTo-nil h.log; place = λ p is. none_some p is; partless = λ _. refl });
      apart = apart_set (set s.views by host) other nobody
          (apart_set s.views by host h.apart (λ b p u _ e is mine. none_some p (sym empty ∙ mine)))
          (λ b p u _ e is mine. none_some p mine);
      owned = λ p is. owned_else (set s.views by host) other w nobody p there bare (owned_else s.views by v host p at empty (h.owned p is));
      parts = omega (arith, one, two, h.parts);
    }

-- where one seat without a place has all parts, every region is at home
pub all_home : {R : Type 0} (s : State (Option R) Known) (by : ℕ) (v : Known) → Kept s → get_elem? s.views by ≡ some v → v.place ≡ None → MAX_SEATS ≤ v.parts
    → (p n : ℕ) → get_elem? s.words p ≡ some n → (x : R) × (get_elem? s.homes p ≡ some (some (Some x)))
all_home {R = R} s by v h at empty all p n word = ⊎_elim (λ y. h.home p (subst (λ k. get_elem? s.words p ≡ some k) y.1 word)) (λ y. unowned (h.owned p (h.held p n word y.1))) (eqb_tells n 0)
  where
    unowned : IsOwned s.views p → (x : R) × (get_elem? s.homes p ≡ some (some (Some x)))
    unowned o =
        let other : o.by ≢ by = λ same. none_some p (sym empty ∙ ap (λ k. k.place) (same_view s.views by o.by v o.view same at o.there) ∙ o.place) in
        let two = parts_two s.views by o.by v o.view at o.there other in
        let none_left : o.view.parts ≡ 0 = omega (arith, two, all, h.parts) in
        none_some p (sym ((h.fits o.by o.view o.there).partless none_left) ∙ o.place)

-- the words of a new pool
words_there : (n p k : ℕ) → get_elem? (replicate n 0) p ≡ some k → k ≡ 0
words_there zero p k e = absurd (some-ne-none k (sym e))
words_there (suc n) zero k e = sym (some-injective 0 k e)
words_there (suc n) (suc p) k e = words_there n p k e

-- the regions of a new pool
homes_there : {R : Type 0} (items : List R) (p : ℕ) (k : ℕ) → get_elem? (replicate (length items) 0) p ≡ some k
    → (x : R) × (get_elem? (map some (map Some items)) p ≡ some (some (Some x)))
homes_there [] p k e = absurd (some-ne-none k (sym e))
homes_there (x ∷ items) zero k e = (x, refl)
homes_there (x ∷ items) (suc p) k e = homes_there items p k e

-- the one view of a new pool
first_view : (j : ℕ) (u : Known) → get_elem? (founder ∷ []) j ≡ some u → founder ≡ u
first_view zero u e = some-injective founder u e
first_view (suc j) u e = absurd (some-ne-none u (sym e))

same_length : {R : Type 0} (items : List R) → length {A = ℕ} (replicate (length items) 0) ≡ length (map some (map Some items))
same_length [] = refl
same_length (x ∷ items) = ap suc (same_length items)

pub begins : {R : Type 0} (items : List R) → Kept (opening (replicate (length items) 0) (map Some items) founder)
begins items = record {
  log = [];
  legal = tt;
  even = same_length items;
  free = λ p e. refl;
  held = λ p n e some_word. absurd (some_word (words_there (length items) p n e));
  home = λ p e. homes_there items p 0 e;
  fits = λ j u e. subst (Fits []) (first_view j u e) (record { seen = LeadsTo-nil []; place = λ p is. none_some p is; partless = λ _. refl });
  apart = λ a b p u w at_a at_b place_a place_b. none_some p (ap (λ k. k.place) (first_view a u at_a) ∙ place_a);
  owned = λ p is. absurd (true≢false (sym is));
  parts = refl;
}

-- a place that the seat carries is given back
pub gives_carried : {R : Type 0} (slots by place : ℕ) (v : Known) (c : List (ℕ × Option R)) (x : R) → place < slots → v.place ≡ Some place → c ≡ (place, Some x) ∷ []
    → Allows {S = Option R} Kept slots by (v, c) place (λ _. 0) (λ _. Given (step slots place 0 0 none) (v, c) 0)
gives_carried slots by place v c x within mine is =
    subst (λ l. Allows Kept slots by (v, l) place (λ _. 0) (λ _. Given (step slots place 0 0 none) (v, l) 0)) (sym is) (gives_place slots by place v x within mine)
