-- A disk in memory as it reads is one of the ways in which a crash may leave it.
use Rattle.std.proofs.Common.{◌≡◌, ℕ, Bool, true, false, List, [], ◌∷◌, length, MatchBool, refl, sym, subst, arith}
use Rattle.disk_trait.specs.declared.disk.Area.{Area}
use Rattle.disk_trait.specs.declared.disk.Area.TheVariants.{Oplog, Tree, BitsA, BitsB, Blocks}
use Rattle.disk_trait.specs.Disk.{is_same, MayStay}
use Rattle.disk_trait.specs.Contents.{Contents, content_of, with_content}
use Rattle.disk_trait.specs.History.{Change, wrote, cut_to, synced, Step, changed, after, now_of, until, Takes, Leaves, MemDiskView, disk_view_of}
use Rattle.disk_trait.specs.Overlays.{torn_overlay, cut_whole}

pub content_same : (area : Area) (bytes : List ℕ) (all : Contents) → content_of (with_content area bytes all) area ≡ bytes
content_same Oplog bytes all = refl
content_same Tree bytes all = refl
content_same BitsA bytes all = refl
content_same BitsB bytes all = refl
content_same Blocks bytes all = refl

pub content_other : (area other : Area) (bytes : List ℕ) (all : Contents) → is_same area other ≡ false → content_of (with_content area bytes all) other ≡ content_of all other
content_other Oplog Oplog bytes all h = cc
content_other Tree Tree bytes all h = cc
content_other BitsA BitsA bytes all h = cc
content_other BitsB BitsB bytes all h = cc
content_other Blocks Blocks bytes all h = cc
content_other area other bytes all h = refl

pub same_area : (area other : Area) → is_same area other ≡ true → area ≡ other
same_area Oplog Oplog h = refl
same_area Tree Tree h = refl
same_area BitsA BitsA h = refl
same_area BitsB BitsB h = refl
same_area Blocks Blocks h = refl
same_area area other h = cc

pub is_same_self : (area : Area) → is_same area area ≡ true
is_same_self Oplog = refl
is_same_self Tree = refl
is_same_self BitsA = refl
is_same_self BitsB = refl
is_same_self Blocks = refl

-- what a change makes of an area is one of the ways in which a crash may leave it
pub takes_now : (change : Change) (now : List ℕ) (before : List ℕ → Type 0) → before now → Takes change now before (changed change now)
takes_now (wrote at bytes) now before here = (now, here, torn_overlay at (length bytes) bytes now (omega arith))
takes_now (cut_to to) now before here = (now, here, cut_whole to now)
takes_now synced now before here = refl

leaves_after : (start : Contents) (step : Step) (earlier : List Step) (area : Area) → ((x : Area) → Leaves start earlier x (content_of (now_of start earlier) x)) → Leaves start (step ∷ earlier) area (content_of (now_of start (step ∷ earlier)) area)
leaves_after start step earlier area before = by_area (is_same step.area area) refl
  where
    now : Contents
    now = now_of start earlier

    here : Takes step.change (content_of now step.area) (Leaves start earlier step.area) (content_of (after step now) step.area)
    here =
        subst (λ (x : List ℕ). Takes step.change (content_of now step.area) (Leaves start earlier step.area) x) (sym (content_same step.area (changed step.change (content_of now step.area)) now))
        (takes_now step.change (content_of now step.area) (Leaves start earlier step.area) (before step.area))

    by_area : (b : Bool) → is_same step.area area ≡ b
        → MatchBool b (Takes step.change (content_of now area) (Leaves start earlier area) (content_of (after step now) area)) (Leaves start earlier area (content_of (after step now) area))
    by_area true e = subst (λ (x : Area). Takes step.change (content_of now x) (Leaves start earlier x) (content_of (after step now) x)) (same_area step.area area e) here
    by_area false e = subst (λ (x : List ℕ). Leaves start earlier area x) (sym (content_other step.area area (changed step.change (content_of now step.area)) now e)) (before area)

-- what the areas have after some steps is one of the ways in which a crash may leave them
pub leaves_now : (start : Contents) (steps : List Step) (area : Area) → Leaves start steps area (content_of (now_of start steps) area)
leaves_now start [] area = refl
leaves_now start (step ∷ earlier) area = leaves_after start step earlier area (λ x. leaves_now start earlier x)

pub stays : (disk : MemDiskView) → MayStay (disk_view_of disk)
stays disk area = leaves_now disk.start (until disk.made disk.steps) area
