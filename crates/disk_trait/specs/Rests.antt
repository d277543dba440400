-- Where no step was made since, a disk in memory was not touched since, nor was one behind a fuse.
use Rattle.std.proofs.Common.{◌≡◌, ℕ, ◌≤◌, List, [], ◌∷◌, refl, sym, ◌∙◌, ap, subst, arith}
use Rattle.std.proofs.lemmas.Bool.Decides.{nat_tests}
use Rattle.disk_trait.specs.declared.disk.Area.{Area}
use Rattle.disk_trait.specs.Disk.{DiskView, Keeps, IsOnePast}
use Rattle.disk_trait.specs.Contents.{Contents, content_of}
use Rattle.disk_trait.specs.Past.{Past, Step}
use Rattle.disk_trait.specs.History.{now_of, until, Leaves, MemDiskView, disk_view_of}
use Rattle.disk_trait.specs.Fuse.{fused}

-- the steps before a call, seen from a later one
pub until_sooner : (s t : ℕ) (steps : List Step) → s ≤ t → until s (until t steps) ≡ until s steps
until_sooner s t [] le = refl
until_sooner s t (step ∷ earlier) le = grind (arith, nat_tests, until_sooner s t earlier le)

-- the steps before a call are those before each later one
pub until_later : (s t : ℕ) (steps : List Step) → s ≤ t → until t (until s steps) ≡ until s steps
until_later s t [] le = refl
until_later s t (step ∷ earlier) le = grind (arith, nat_tests, until_later s t earlier le)

-- equal starts and steps may be left alike
pub moved : (s1 s2 : Contents) (x1 x2 : List Step) (area : Area) (c : List ℕ) → s1 ≡ s2 → x1 ≡ x2 → Leaves s1 x1 area c → Leaves s2 x2 area c
moved s1 s2 x1 x2 area c e f left = subst (λ (s : Contents). Leaves s x2 area c) e (subst (λ (x : List Step). Leaves s1 x area c) f left)

module _ (v w : MemDiskView) (one : IsOnePast (disk_view_of v) (disk_view_of w)) where
  start : w.start ≡ v.start
  start = ap (λ (p : Past). p.start) one.past

  steps : until w.made w.steps ≡ until v.made v.steps
  steps = ap (λ (p : Past). p.steps) one.past

  sooner : (t : ℕ) → t ≤ v.made → until t w.steps ≡ until t v.steps
  sooner t le =
      sym (until_sooner t w.made w.steps (omega (arith, le, one.later)))
      ∙ ap (λ (x : List Step). until t x) steps
      ∙ until_sooner t v.made v.steps le

  since : (t : ℕ) → v.made ≤ t → t ≤ w.made → until t w.steps ≡ until v.made v.steps
  since t from to =
      sym (until_sooner t w.made w.steps to)
      ∙ ap (λ (x : List Step). until t x) steps
      ∙ until_later v.made t v.steps from

  pub mem_rests : Keeps (disk_view_of v) (disk_view_of w)
  mem_rests = record {
    time = record {
      later = one.later;
      past = λ t area c le. (
        moved w.start v.start (until t w.steps) (until t v.steps) area c start (sooner t le),
        moved v.start w.start (until t v.steps) (until t w.steps) area c (sym start) (sym (sooner t le)),
      );
    };
    each = λ area. record {
      reads = ap (λ (x : List Step). content_of (now_of w.start x) area) steps ∙ ap (λ (s : Contents). content_of (now_of s (until v.made v.steps)) area) start;
      images = λ t c from to left. moved w.start v.start (until t w.steps) (until v.made v.steps) area c start (since t from to) left;
    };
  }

module _ (old new : DiskView) (made made' refused refused' : ℕ) where
  pub fused_keeps : Keeps old new → Keeps (fused old made refused) (fused new made' refused')
  fused_keeps k = record {
    time = record { later = k.time.later; past = k.time.past };
    each = λ area. record { reads = (k.each area).reads; images = (k.each area).images };
  }

  pub fuse_rests : (IsOnePast old new → Keeps old new) → IsOnePast (fused old made refused) (fused new made' refused') → Keeps (fused old made refused) (fused new made' refused')
  fuse_rests rests one = fused_keeps (rests (record { past = one.past; later = one.later }))
