-- What a crash of a disk in memory leaves is one of the images of that moment.
use Rattle.std.proofs.Common.{◌≡◌, ℕ, ◌==◌, Bool, true, false, ◌&&◌, ◌||◌, MatchBool, if◌then◌else◌, List, [], ◌∷◌, ◌++◌, reverse, length, take, refl, sym, ◌∙◌, ap, subst, arith, append_assoc, length-take}
use Rattle.std.proofs.lemmas.List.{reverse-append, reverse-reverse, append-nil}
use Rattle.disk_trait.specs.declared.disk.Area.{Area}
use Rattle.disk_trait.specs.Disk.{is_same, Cut, IsImage, IsSettled}
use Rattle.disk_trait.specs.Contents.{Contents, content_of}
use Rattle.disk_trait.specs.History.{Change, wrote, cut_to, synced, Step, changed, after, now_of, until, Takes, Leaves, MemDiskView, disk_view_of}
use Rattle.disk_trait.specs.Crash.{is_sync, is_synced_by, partly, replayed, left_after, kept, crashed}
use Rattle.disk_trait.specs.Overlays.{torn_overlay, cut_whole, cut_none}
use Rattle.disk_trait.specs.Stays.{content_same, content_other, same_area, is_same_self, takes_now, leaves_now}

or_self : (a b : Bool) → a ≡ true → (a || b) ≡ true
or_self true b e = refl
or_self false b e = cc

or_rest : (a b : Bool) → b ≡ true → (a || b) ≡ true
or_rest true b e = refl
or_rest false b e = e

-- what the areas are like after some steps, of which these come first: each may be left so, and is as the steps made it
-- where one of the steps to come syncs it
record Stands (start : Contents) (past rest : List Step) (now : Contents) : Type 0 where
  left : (area : Area) → Leaves start past area (content_of now area)
  whole : (area : Area) → is_synced_by area rest ≡ true → content_of now area ≡ content_of (now_of start past) area

-- what is left of one change of its area
takes_part : (change : Change) (keep : ℕ) (is_whole : Bool) (now old : List ℕ) (before : List ℕ → Type 0) → before now → before old
    → (is_whole ≡ true → old ≡ now) → (is_sync change ≡ true → old ≡ now)
    → Takes change now before (if is_whole then changed change old else partly keep change old)
takes_part change keep true now old before here kept_old whole sync = subst (λ (x : List ℕ). Takes change now before (changed change x)) (sym (whole refl)) (takes_now change now before here)
takes_part (wrote at bytes) keep false now old before here kept_old whole sync = (old, kept_old, torn_overlay at (length bytes) (take keep bytes) old (omega (arith, length-take keep bytes)))
takes_part (cut_to to) keep false now old before here kept_old whole sync = (old, kept_old, cut_part (keep == 0))
  where
    cut_part : (b : Bool) → Cut to old (if b then old else take to old)
    cut_part true = cut_none to old
    cut_part false = cut_whole to old
takes_part synced keep false now old before here kept_old whole sync = sync refl

module _ (start : Contents) (past rest : List Step) (step : Step) (keep : ℕ) (now : Contents) (stands : Stands start past (step ∷ rest) now) where
  is_whole : Bool
  is_whole = is_synced_by step.area rest

  -- a step before a sync of its area, and a sync itself, finds the area as the steps made it
  found : is_same step.area step.area && is_sync step.change || is_synced_by step.area rest ≡ true → content_of now step.area ≡ content_of (now_of start past) step.area
  found e = stands.whole step.area e

  found_whole : is_synced_by step.area rest ≡ true → content_of now step.area ≡ content_of (now_of start past) step.area
  found_whole e = found (or_rest (is_same step.area step.area && is_sync step.change) (is_synced_by step.area rest) e)

  found_sync : is_sync step.change ≡ true → content_of now step.area ≡ content_of (now_of start past) step.area
  found_sync e = found (or_self (is_same step.area step.area && is_sync step.change) (is_synced_by step.area rest) (ap (λ (b : Bool). b && is_sync step.change) (is_same_self step.area) ∙ e))

  next : Contents
  next = replayed (is_synced_by step.area rest) keep step now

  here : Takes step.change (content_of (now_of start past) step.area) (Leaves start past step.area) (content_of (replayed (is_synced_by step.area rest) keep step now) step.area)
  here =
      subst (λ (x : List ℕ). Takes step.change (content_of (now_of start past) step.area) (Leaves start past step.area) x) (sym (content_same step.area _ now))
      (takes_part step.change keep (is_synced_by step.area rest) (content_of (now_of start past) step.area) (content_of now step.area) (Leaves start past step.area) (leaves_now start past step.area) (stands.left step.area) found_whole found_sync)

  left_next : (area : Area) (b : Bool) → is_same step.area area ≡ b
      → MatchBool b (Takes step.change (content_of (now_of start past) area) (Leaves start past area) (content_of (replayed (is_synced_by step.area rest) keep step now) area)) (Leaves start past area (content_of (replayed (is_synced_by step.area rest) keep step now) area))
  left_next area true e = subst (λ (x : Area). Takes step.change (content_of (now_of start past) x) (Leaves start past x) (content_of (replayed (is_synced_by step.area rest) keep step now) x)) (same_area step.area area e) here
  left_next area false e = subst (λ (x : List ℕ). Leaves start past area x) (sym (content_other step.area area _ now e)) (stands.left area)

  whole_here : is_synced_by step.area rest ≡ true → content_of (replayed (is_synced_by step.area rest) keep step now) step.area ≡ content_of (after step (now_of start past)) step.area
  whole_here e =
      content_same step.area _ now
      ∙ ap (λ (b : Bool). if b then changed step.change (content_of now step.area) else partly keep step.change (content_of now step.area)) e
      ∙ ap (λ (x : List ℕ). changed step.change x) (found_whole e)
      ∙ sym (content_same step.area _ (now_of start past))

  whole_next : (area : Area) (b : Bool) → is_same step.area area ≡ b → is_synced_by area rest ≡ true → content_of (replayed (is_synced_by step.area rest) keep step now) area ≡ content_of (after step (now_of start past)) area
  whole_next area true e synced_later =
      let same = same_area step.area area e in
      subst (λ (x : Area). content_of (replayed (is_synced_by step.area rest) keep step now) x ≡ content_of (after step (now_of start past)) x) same
      (whole_here (ap (λ (x : Area). is_synced_by x rest) same ∙ synced_later))
  whole_next area false e synced_later =
      content_other step.area area _ now e
      ∙ stands.whole area (or_rest (is_same step.area area && is_sync step.change) (is_synced_by area rest) synced_later)
      ∙ sym (content_other step.area area _ (now_of start past) e)

  stands_next : Stands start (step ∷ past) rest (replayed (is_synced_by step.area rest) keep step now)
  stands_next = record {
    left = λ area. left_next area (is_same step.area area) refl;
    whole = λ area. whole_next area (is_same step.area area) refl;
  }

kept_leaves : (start : Contents) (rest past : List Step) (keep : ℕ) (now : Contents) → Stands start past rest now → (area : Area) → Leaves start (reverse rest ++ past) area (content_of (kept keep rest now) area)
kept_leaves start [] past keep now stands area = stands.left area
kept_leaves start (step ∷ rest) past keep now stands area =
    let order : reverse (step ∷ rest) ++ past ≡ reverse rest ++ (step ∷ past) = ap (λ (xs : List Step). xs ++ past) (reverse-append (step ∷ []) rest) ∙ append_assoc (reverse rest) (step ∷ []) past in
    subst (λ (xs : List Step). Leaves start xs area (content_of (kept keep (step ∷ rest) now) area)) (sym order)
    (kept_leaves start rest (step ∷ past) (left_after (is_synced_by step.area rest) keep step) (replayed (is_synced_by step.area rest) keep step now) (stands_next start past rest step keep now stands) area)

pub kept_is_image : (start : Contents) (steps : List Step) (keep : ℕ) (area : Area) → Leaves start steps area (content_of (kept keep (reverse steps) start) area)
kept_is_image start steps keep area =
    subst (λ (xs : List Step). Leaves start xs area (content_of (kept keep (reverse steps) start) area)) (append-nil (reverse (reverse steps)) ∙ reverse-reverse steps)
    (kept_leaves start (reverse steps) [] keep start (record { left = λ x. refl; whole = λ x e. refl }) area)

pub crash_is_image : (disk : MemDiskView) (moment keep : ℕ) → IsImage (disk_view_of disk) moment (disk_view_of (crashed moment keep disk)).reads
crash_is_image disk moment keep area = kept_is_image disk.start (until moment disk.steps) keep area

pub crash_is_settled : (disk : MemDiskView) (moment keep : ℕ) → IsSettled (disk_view_of (crashed moment keep disk))
crash_is_settled disk moment keep area c left = left
