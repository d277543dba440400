-- Calls on the file of an area are calls on that area, and calls on a disk are calls on one with other counts.
use Rattle.std.proofs.Common.{◌≡◌, ℕ, List, Result, ap, subst, ◌∙◌}
use Rattle.disk_trait.specs.declared.disk.Area.{Area}
use Rattle.disk_trait.specs.declared.disk.Area.TheVariants.{Oplog, Tree, BitsA, BitsB, Blocks}
use Rattle.disk_trait.specs.Disk.{DiskView, Touches, Reads, Writes, Cuts, Syncs, Sizes}
use Rattle.file_disk.specs.declared.handles.Handles.{Handles}
use Rattle.file_disk.specs.Disk.{handle_of, AreHandles}
use Rattle.file_disk.specs.Laws.{disk_with_counts, counted_keeps}

each_is : {H : Type 0} (area_of : H → Area) (all : Handles H) → AreHandles area_of all → (area : Area) → area_of (handle_of all area) ≡ area
each_is area_of all are Oplog = are.oplog
each_is area_of all are Tree = are.tree
each_is area_of all are BitsA = are.bits_a
each_is area_of all are BitsB = are.bits_b
each_is area_of all are Blocks = are.blocks

pub handle_is : {H : Type 0} (area_of : H → Area) (all : Handles H) (area : Area) (file : H) → AreHandles area_of all → file ≡ handle_of all area → area_of file ≡ area
handle_is area_of all area file are is = ap area_of is ∙ each_is area_of all are area

module _ (found area : Area) (is : found ≡ area) (old new : DiskView) (calls calls' faults faults' : ℕ) where
  counted_touches : (R : List ℕ → List ℕ → Type 0) → Touches R found old new → Touches R area (disk_with_counts old calls faults) (disk_with_counts new calls' faults')
  counted_touches R touches =
      let k = subst (λ (a : Area). Touches R a old new) is touches in
      record {
        time = record { later = k.time.later; past = k.time.past };
        here = record { reads = k.here.reads; images = k.here.images };
        others = λ other apart. record { reads = (k.others other apart).reads; images = (k.others other apart).images };
      }

  pub counted_reads : {E : Type 0} (r : Result ℕ E) (at : ℕ) (into into' : List ℕ) → Reads {E = E} found at into into' old new r
      → Reads {E = E} area at into into' (disk_with_counts old calls faults) (disk_with_counts new calls' faults') r
  counted_reads {E} r at into into' reads =
      let k = subst (λ (a : Area). Reads {E = E} a at into into' old new r) is reads in
      record { keeps = counted_keeps old new calls calls' faults faults' k.keeps; past = k.past; ok = k.ok }

  pub counted_sizes : {E : Type 0} (r : Result ℕ E) → Sizes {E = E} found old new r
      → Sizes {E = E} area (disk_with_counts old calls faults) (disk_with_counts new calls' faults') r
  counted_sizes {E} r sizes =
      let k = subst (λ (a : Area). Sizes {E = E} a old new r) is sizes in
      record { keeps = counted_keeps old new calls calls' faults faults' k.keeps; past = k.past; ok = k.ok }

  pub counted_writes : {T E : Type 0} (r : Result T E) (at : ℕ) (bytes : List ℕ) → Writes {T = T} {E = E} found at bytes old new r
      → Writes {T = T} {E = E} area at bytes (disk_with_counts old calls faults) (disk_with_counts new calls' faults') r
  counted_writes {T} {E} r at bytes writes =
      let k = subst (λ (a : Area). Writes {T = T} {E = E} a at bytes old new r) is writes in
      record { touches = counted_touches _ writes.touches; ok = k.ok }

  pub counted_cuts : {T E : Type 0} (r : Result T E) (to : ℕ) → Cuts {T = T} {E = E} found to old new r
      → Cuts {T = T} {E = E} area to (disk_with_counts old calls faults) (disk_with_counts new calls' faults') r
  counted_cuts {T} {E} r to cuts =
      let k = subst (λ (a : Area). Cuts {T = T} {E = E} a to old new r) is cuts in
      record { touches = counted_touches _ cuts.touches; ok = k.ok }

  pub counted_syncs : {T E : Type 0} (r : Result T E) → Syncs {T = T} {E = E} found old new r
      → Syncs {T = T} {E = E} area (disk_with_counts old calls faults) (disk_with_counts new calls' faults') r
  counted_syncs {T} {E} r syncs =
      let k = subst (λ (a : Area). Syncs {T = T} {E = E} a old new r) is syncs in
      record { keeps = counted_keeps old new calls calls' faults faults' k.keeps; ok = k.ok }
