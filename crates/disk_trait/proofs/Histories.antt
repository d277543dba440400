-- What each call does to a disk in memory, said of its steps alone.
use Rattle.std.proofs.Common.{◌≡◌, ◌⊎◌, inl, inr, ⊎_elim, ℕ, ◌+◌, ◌<◌, ◌≤◌, Bool, true, false, MatchBool, List, [], ◌∷◌, refl, sym, ◌∙◌, ap, subst, arith}
use Rattle.std.proofs.lemmas.Bool.Decides.{nat_tests}
use Rattle.disk_trait.specs.declared.disk.Area.{Area}
use Rattle.disk_trait.specs.Disk.{is_same, Elapses, Rests, Touches, Keeps, IsSynced}
use Rattle.disk_trait.specs.Contents.{Contents, content_of}
use Rattle.disk_trait.specs.History.{Step, changed, after, now_of, until, Takes, Leaves, AreBefore, MemDiskView, disk_view_of}
use Rattle.disk_trait.specs.Rests.{moved}
use Rattle.disk_trait.specs.Stays.{content_same, content_other, same_area, is_same_self, leaves_now}

pub until_all : (t : ℕ) (steps : List Step) → AreBefore t steps → until t steps ≡ steps
until_all t [] before = refl
until_all t (step ∷ earlier) before = grind (arith, nat_tests)

pub until_earlier : (t : ℕ) (step : Step) (earlier : List Step) → t ≤ step.call → until t (step ∷ earlier) ≡ until t earlier
until_earlier t step earlier le = grind (arith, nat_tests)

pub before_later : (s t : ℕ) (steps : List Step) → s ≤ t → AreBefore s steps → AreBefore t steps
before_later s t [] le before = before
before_later s t (step ∷ earlier) le before = omega (arith, before)

-- a call that changes nothing but the counts
module _ (v w : MemDiskView) (start : w.start ≡ v.start) (steps : w.steps ≡ v.steps) (later : v.made ≤ w.made) (before : AreBefore v.made v.steps) where
  settled : (t : ℕ) → v.made ≤ t → until t w.steps ≡ until v.made v.steps
  settled t le = ap (λ (x : List Step). until t x) steps ∙ until_all t v.steps (before_later v.made t v.steps le before) ∙ sym (until_all v.made v.steps before)

  pub waits : Keeps (disk_view_of v) (disk_view_of w)
  waits = record {
    time = record {
      later = later;
      past = λ t area c le. (
        moved w.start v.start (until t w.steps) (until t v.steps) area c start (ap (λ (x : List Step). until t x) steps),
        moved v.start w.start (until t v.steps) (until t w.steps) area c (sym start) (ap (λ (x : List Step). until t x) (sym steps)),
      );
    };
    each = λ area. record {
      reads = ap (λ (x : List Step). content_of (now_of w.start x) area) (settled w.made later) ∙ ap (λ (s : Contents). content_of (now_of s (until v.made v.steps)) area) start;
      images = λ t c from to left. moved w.start v.start (until t w.steps) (until v.made v.steps) area c start (settled t from) left;
    };
  }

at_true : (b : Bool) (P Q : Type 0) → b ≡ true → MatchBool b P Q → P
at_true true P Q e h = h
at_true false P Q e h = cc

at_false : (b : Bool) (P Q : Type 0) → b ≡ false → MatchBool b P Q → Q
at_false true P Q e h = cc
at_false false P Q e h = h

pub before_or_after : (m n : ℕ) → (m ≤ n) ⊎ (n < m)
before_or_after m n = search (arith)

-- a call that adds a step
module _ (v w : MemDiskView) (step : Step) (start : w.start ≡ v.start) (steps : w.steps ≡ step ∷ v.steps) (called : step.call ≡ v.made) (made : w.made ≡ v.made + 1) (before : AreBefore v.made v.steps) where
  then : (t : ℕ) → t ≤ v.made → until t w.steps ≡ until t v.steps
  then t le = ap (λ (x : List Step). until t x) steps ∙ until_earlier t step v.steps (omega (arith, called, le))

  since : (t : ℕ) → v.made < t → until t w.steps ≡ step ∷ v.steps
  since t lt = ap (λ (x : List Step). until t x) steps ∙ until_all t (step ∷ v.steps) (omega (arith, called, lt))

  was : until v.made v.steps ≡ v.steps
  was = until_all v.made v.steps before

  goes_on : Elapses (disk_view_of v) (disk_view_of w)
  goes_on = record {
    later = omega (arith, made);
    past = λ t area c le. (
      moved w.start v.start (until t w.steps) (until t v.steps) area c start (then t le),
      moved v.start w.start (until t v.steps) (until t w.steps) area c (sym start) (sym (then t le)),
    );
  }

  -- an image since then is one of before or one of after the step
  either : (t : ℕ) (area : Area) (c : List ℕ) → v.made ≤ t → Leaves w.start (until t w.steps) area c → Leaves v.start (until v.made v.steps) area c ⊎ Leaves v.start (step ∷ v.steps) area c
  either t area c from left = elim (before_or_after t v.made) [
    | inl le ↦
        let here : t ≡ v.made = omega arith in
        inl (moved w.start v.start (until t w.steps) (until v.made v.steps) area c start (then t le ∙ ap (λ (n : ℕ). until n v.steps) here) left)
    | inr lt ↦ inr (moved w.start v.start (until t w.steps) (step ∷ v.steps) area c start (since t lt) left)
  ]

  now_is : (area : Area) → content_of (now_of w.start (until w.made w.steps)) area ≡ content_of (after step (now_of v.start (until v.made v.steps))) area
  now_is area =
      ap (λ (x : List Step). content_of (now_of w.start x) area) (since w.made (omega (arith, made)))
      ∙ ap (λ (s : Contents). content_of (after step (now_of s v.steps)) area) start
      ∙ ap (λ (x : List Step). content_of (after step (now_of v.start x)) area) (sym was)

  pub reads_new : content_of (now_of w.start (until w.made w.steps)) step.area ≡ changed step.change (content_of (now_of v.start (until v.made v.steps)) step.area)
  reads_new = now_is step.area ∙ content_same step.area _ (now_of v.start (until v.made v.steps))

  reads_other : (other : Area) → is_same step.area other ≡ false → content_of (now_of w.start (until w.made w.steps)) other ≡ content_of (now_of v.start (until v.made v.steps)) other
  reads_other other apart = now_is other ∙ content_other step.area other _ (now_of v.start (until v.made v.steps)) apart

  rests_other : (other : Area) → is_same step.area other ≡ false → Rests other (disk_view_of v) (disk_view_of w)
  rests_other other apart = record {
    reads = reads_other other apart;
    images = λ t c from to left. ⊎_elim
        (λ h. h)
        (λ h. moved v.start v.start v.steps (until v.made v.steps) other c refl (sym was) (at_false (is_same step.area other) _ _ apart h))
        (either t other c from left);
  }

  -- what a crash may make of the area that the step touches
  taken : (c : List ℕ) → Leaves v.start (step ∷ v.steps) step.area c → Takes step.change (content_of (now_of v.start (until v.made v.steps)) step.area) (Leaves v.start (until v.made v.steps) step.area) c
  taken c h =
      subst (λ (x : List Step). Takes step.change (content_of (now_of v.start x) step.area) (Leaves v.start x step.area) c) (sym was)
      (at_true (is_same step.area step.area) _ _ (is_same_self step.area) h)

  -- the area goes by a relation that a crash in the middle of the change keeps
  pub touches : (R : List ℕ → List ℕ → Type 0) → ((d : List ℕ) → R d d) → ((now : List ℕ) → R now (changed step.change now))
      → ((now : List ℕ) (earlier : List ℕ → Type 0) (c : List ℕ) → Takes step.change now earlier c → (d : List ℕ) × earlier d × R d c)
      → Touches R step.area (disk_view_of v) (disk_view_of w)
  touches R none whole part = record {
    time = goes_on;
    here = record {
      reads = subst (λ (x : List ℕ). R (content_of (now_of v.start (until v.made v.steps)) step.area) x) (sym reads_new) (whole _);
      images = λ t c from to left. ⊎_elim
          (λ h. (c, h, none c))
          (λ h. part _ _ c (taken c h))
          (either t step.area c from left);
    };
    others = rests_other;
  }

  -- a sync touches nothing, and a crash then leaves what its area reads as
  module _ (only : (now : List ℕ) (earlier : List ℕ → Type 0) (c : List ℕ) → Takes step.change now earlier c → c ≡ now) (same : (now : List ℕ) → changed step.change now ≡ now) where
    rests_here : Rests step.area (disk_view_of v) (disk_view_of w)
    rests_here = record {
      reads = reads_new ∙ same _;
      images = λ t c from to left. ⊎_elim
          (λ h. h)
          (λ h. subst (λ (x : List ℕ). Leaves v.start (until v.made v.steps) step.area x) (sym (only _ _ c (taken c h))) (leaves_now v.start (until v.made v.steps) step.area))
          (either t step.area c from left);
    }

    rests_each : (area : Area) (b : Bool) → is_same step.area area ≡ b → Rests area (disk_view_of v) (disk_view_of w)
    rests_each area true e = subst (λ (x : Area). Rests x (disk_view_of v) (disk_view_of w)) (same_area step.area area e) rests_here
    rests_each area false e = rests_other area e

    pub rests : Keeps (disk_view_of v) (disk_view_of w)
    rests = record { time = goes_on; each = λ area. rests_each area (is_same step.area area) refl }

    pub durable : IsSynced step.area (disk_view_of w)
    durable c left =
        only _ _ c (taken c (moved w.start v.start (until w.made w.steps) (step ∷ v.steps) step.area c start (since w.made (omega (arith, made))) left))
        ∙ sym (same _) ∙ sym reads_new
