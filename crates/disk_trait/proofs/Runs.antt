-- How a run of calls goes on.
use Rattle.std.proofs.Common.{◌≡◌, inl, inr, ℕ, ◌≤◌, Bool, true, false, if◌then◌else◌, List, refl, sym, ◌∙◌, ap, subst, arith}
use Rattle.disk_trait.specs.declared.disk.Area.{Area}
use Rattle.disk_trait.specs.Disk.{DiskView, is_same, Elapses, Rests, Touches, Keeps, IsSynced, IsImage}
use Rattle.disk_trait.specs.Runs.{IsFirm, LeavesOnly}
use Rattle.disk_trait.specs.Stays.{same_area, is_same_self}
use Rattle.disk_trait.proofs.Histories.{before_or_after}

pub elapses_none : (disk : DiskView) → Elapses disk disk
elapses_none disk = record { later = omega arith; past = λ t area c le. (λ h. h, λ h. h) }

pub elapses_on : (old mid new : DiskView) → Elapses old mid → Elapses mid new → Elapses old new
elapses_on old mid new first second = record {
  later = omega (arith, first.later, second.later);
  past = λ t area c le.
      let one = first.past t area c le in
      let two = second.past t area c (omega (arith, le, first.later)) in
      (λ h. one.0 (two.0 h), λ h. two.1 (one.1 h));
}

-- no call
pub keeps_none : (disk : DiskView) → Keeps disk disk
keeps_none disk = record {
  time = elapses_none disk;
  each = λ area. record {
    reads = refl;
    images = λ t c from to image.
        let here : t ≡ disk.moment = omega arith in
        subst (λ (n : ℕ). disk.image n area c) here image;
  };
}

-- before the first call
pub starts : (disk : DiskView) (P : (Area → List ℕ) → Type 0) → IsFirm disk P → LeavesOnly disk disk P
starts disk P firm = record {
  time = elapses_none disk;
  each = λ t areas from to image.
      let here : t ≡ disk.moment = omega arith in
      firm areas (subst (λ (n : ℕ). IsImage disk n areas) here image);
}

-- one call more
pub goes_on : (old mid new : DiskView) (P : (Area → List ℕ) → Type 0) → LeavesOnly old mid P → Elapses mid new
    → ((t : ℕ) (areas : Area → List ℕ) → mid.moment ≤ t → t ≤ new.moment → IsImage new t areas → P areas) → LeavesOnly old new P
goes_on old mid new P so_far time here = record {
  time = elapses_on old mid new so_far.time time;
  each = λ t areas from to image. elim (before_or_after t mid.moment) [
    | inl le ↦ so_far.each t areas from le (λ area. (time.past t area (areas area) le).0 (image area))
    | inr lt ↦ here t areas (omega (arith, lt)) to image
  ];
}

-- at the end of a run
pub firm_after : (old new : DiskView) (P : (Area → List ℕ) → Type 0) → LeavesOnly old new P → IsFirm new P
firm_after old new P run areas image = run.each new.moment areas run.time.later (omega arith) image

-- a call that touches nothing
pub keeps_on : (old mid new : DiskView) (P : (Area → List ℕ) → Type 0) → LeavesOnly old mid P → Keeps mid new → LeavesOnly old new P
keeps_on old mid new P so_far keeps =
    goes_on old mid new P so_far keeps.time (λ t areas from to image. firm_after old mid P so_far areas (λ area. (keeps.each area).images t (areas area) from to (image area)))

-- the same areas with another content of one
abbrev swapped : Area → List ℕ → (Area → List ℕ) → Area → List ℕ
swapped area d areas x = if is_same area x then d else areas x

swapped_here : (area : Area) (d : List ℕ) (areas : Area → List ℕ) → swapped area d areas area ≡ d
swapped_here area d areas = ap (λ (b : Bool). if b then d else areas area) (is_same_self area)

swapped_other : (area : Area) (d : List ℕ) (areas : Area → List ℕ) (x : Area) → is_same area x ≡ false → swapped area d areas x ≡ areas x
swapped_other area d areas x apart = ap (λ (b : Bool). if b then d else areas x) apart

module _ (mid new : DiskView) (R : List ℕ → List ℕ → Type 0) (area : Area) (touches : Touches R area mid new) (t : ℕ) (areas : Area → List ℕ) (from : mid.moment ≤ t) (to : t ≤ new.moment) (image : IsImage new t areas) (d : List ℕ) (before : mid.image mid.moment area d) where
  image_before : (x : Area) (b : Bool) → is_same area x ≡ b → mid.image mid.moment x (swapped area d areas x)
  image_before x true e = subst (λ (y : Area). mid.image mid.moment y (swapped area d areas y)) (same_area area x e) (subst (λ (c : List ℕ). mid.image mid.moment area c) (sym (swapped_here area d areas)) before)
  image_before x false e = subst (λ (c : List ℕ). mid.image mid.moment x c) (sym (swapped_other area d areas x e)) ((touches.others x e).images t (areas x) from to (image x))

-- A call that touches one area: where each way in which a crash before it may leave the areas, with a step in this one,
-- has P, so has each way since.
pub touches_on : (old mid new : DiskView) (P : (Area → List ℕ) → Type 0) (R : List ℕ → List ℕ → Type 0) (area : Area) → LeavesOnly old mid P → Touches R area mid new
    → ((before now : Area → List ℕ) → IsImage mid mid.moment before → R (before area) (now area) → ((other : Area) → is_same area other ≡ false → now other ≡ before other) → P now)
    → LeavesOnly old new P
touches_on old mid new P R area so_far touches step = goes_on old mid new P so_far touches.time (λ t areas from to image.
    let taken = touches.here.images t (areas area) from to (image area) in
    step (swapped area taken.0 areas) areas
    (λ x. image_before mid new R area touches t areas from to image taken.0 taken.1 x (is_same area x) refl)
    (subst (λ (c : List ℕ). R c (areas area)) (sym (swapped_here area taken.0 areas)) taken.2)
    (λ other apart. sym (swapped_other area taken.0 areas other apart)))

-- a call that touches one area, and then one that touches nothing
pub touches_keeps : (R : List ℕ → List ℕ → Type 0) (area : Area) (old mid new : DiskView) → Touches R area old mid → Keeps mid new → Touches R area old new
touches_keeps R area old mid new touches keeps = record {
  time = elapses_on old mid new touches.time keeps.time;
  here = record {
    reads = subst (λ (c : List ℕ). R (old.reads area) c) (sym (keeps.each area).reads) touches.here.reads;
    images = λ t c from to image. elim (before_or_after t mid.moment) [
      | inl le ↦ touches.here.images t c from le ((keeps.time.past t area c le).0 image)
      | inr lt ↦ touches.here.images mid.moment c touches.time.later (omega arith) ((keeps.each area).images t c (omega (arith, lt)) to image)
    ];
  };
  others = λ other apart. record {
    reads = (keeps.each other).reads ∙ (touches.others other apart).reads;
    images = λ t c from to image. elim (before_or_after t mid.moment) [
      | inl le ↦ (touches.others other apart).images t c from le ((keeps.time.past t other c le).0 image)
      | inr lt ↦ (touches.others other apart).images mid.moment c touches.time.later (omega arith) ((keeps.each other).images t c (omega (arith, lt)) to image)
    ];
  };
}

-- an area that rests stays synced
pub rests_synced : (area : Area) (old new : DiskView) → old.moment ≤ new.moment → Rests area old new → IsSynced area old → IsSynced area new
rests_synced area old new later rests synced c image = synced c (rests.images new.moment c later (omega arith) image) ∙ sym rests.reads

-- two calls that touch nothing
pub keeps_keeps : (old mid new : DiskView) → Keeps old mid → Keeps mid new → Keeps old new
keeps_keeps old mid new first second = record {
  time = elapses_on old mid new first.time second.time;
  each = λ area. record {
    reads = (second.each area).reads ∙ (first.each area).reads;
    images = λ t c from to image. elim (before_or_after t mid.moment) [
      | inl le ↦ (first.each area).images t c from le ((second.time.past t area c le).0 image)
      | inr lt ↦ (first.each area).images mid.moment c first.time.later (omega arith) ((second.each area).images t c (omega (arith, lt)) to image)
    ];
  };
}
