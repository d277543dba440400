-- A disk and a fuse over it show the same areas, images and clock.
use Rattle.std.proofs.Common.{ℕ, List, Result, Err}
use Rattle.disk_trait.specs.declared.disk.Area.{Area}
use Rattle.disk_trait.specs.Disk.{DiskView, Touches, Reads, Writes, Cuts, Syncs, Sizes}
use Rattle.disk_trait.specs.Fuse.{fused}
use Rattle.disk_trait.specs.Overlays.{torn_none, cut_none}
use Rattle.disk_trait.specs.Rests.{fused_keeps}
use Rattle.disk_trait.proofs.Calls.{keeps_touches}
use Rattle.disk_trait.proofs.Runs.{keeps_none}

module _ (old new : DiskView) (made made' refused refused' : ℕ) where
  fused_touches : (R : List ℕ → List ℕ → Type 0) (area : Area) → Touches R area old new → Touches R area (fused old made refused) (fused new made' refused')
  fused_touches R area k = record {
    time = record { later = k.time.later; past = k.time.past };
    here = record { reads = k.here.reads; images = k.here.images };
    others = λ other apart. record { reads = (k.others other apart).reads; images = (k.others other apart).images };
  }

  pub reads_through : {E : Type 0} (r : Result ℕ E) (area : Area) (at : ℕ) (into into' : List ℕ) → Reads {E = E} area at into into' old new r → Reads {E = E} area at into into' (fused old made refused) (fused new made' refused') r
  reads_through r area at into into' k = record { keeps = fused_keeps old new made made' refused refused' k.keeps; past = k.past; ok = k.ok }

  pub sizes_through : {E : Type 0} (r : Result ℕ E) (area : Area) → Sizes {E = E} area old new r → Sizes {E = E} area (fused old made refused) (fused new made' refused') r
  sizes_through r area k = record { keeps = fused_keeps old new made made' refused refused' k.keeps; past = k.past; ok = k.ok }

  pub writes_through : {T E : Type 0} (r : Result T E) (area : Area) (at : ℕ) (bytes : List ℕ) → Writes {T = T} {E = E} area at bytes old new r → Writes {T = T} {E = E} area at bytes (fused old made refused) (fused new made' refused') r
  writes_through r area at bytes k = record { touches = fused_touches _ area k.touches; ok = k.ok }

  pub cuts_through : {T E : Type 0} (r : Result T E) (area : Area) (to : ℕ) → Cuts {T = T} {E = E} area to old new r → Cuts {T = T} {E = E} area to (fused old made refused) (fused new made' refused') r
  cuts_through r area to k = record { touches = fused_touches _ area k.touches; ok = k.ok }

  pub syncs_through : {T E : Type 0} (r : Result T E) (area : Area) → Syncs {T = T} {E = E} area old new r → Syncs {T = T} {E = E} area (fused old made refused) (fused new made' refused') r
  syncs_through r area k = record { keeps = fused_keeps old new made made' refused refused' k.keeps; ok = k.ok }

-- a call that is refused leaves the disk as it was
pub write_refused : {T E : Type 0} (disk : DiskView) (made made' refused refused' : ℕ) (e : E) (area : Area) (at : ℕ) (bytes : List ℕ)
    → Writes {T = T} {E = E} area at bytes (fused disk made refused) (fused disk made' refused') (Err e)
write_refused disk made made' refused refused' e area at bytes = record {
  touches = keeps_touches _ area _ _ (torn_none at _) (fused_keeps disk disk made made' refused refused' (keeps_none disk));
  ok = tt;
}

pub cut_refused : {T E : Type 0} (disk : DiskView) (made made' refused refused' : ℕ) (e : E) (area : Area) (to : ℕ)
    → Cuts {T = T} {E = E} area to (fused disk made refused) (fused disk made' refused') (Err e)
cut_refused disk made made' refused refused' e area to = record {
  touches = keeps_touches _ area _ _ (cut_none to) (fused_keeps disk disk made made' refused refused' (keeps_none disk));
  ok = tt;
}
