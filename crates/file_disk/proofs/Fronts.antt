-- A call of a disk in memory for a front of the bytes is a short call of its files.
use Rattle.std.proofs.Common.{◌≡◌, ℕ, ◌+◌, ◌-◌, ◌^◌, ◌<◌, ◌≤◌, min, max, Bool, List, ◌++◌, length, take, drop, Result, Ok, Err, sym, refl, ◌∙◌, ap, arith, append_assoc}
use Rattle.std.proofs.lemmas.Bool.Decides.{nat_tests}
use Rattle.std.proofs.lemmas.List.{drop-append-le, drop-drop, length-take, take-append-drop}
use Rattle.disk_trait.specs.declared.disk.Area.{Area}
use Rattle.disk_trait.specs.Disk.{DiskView, Torn, Touches, Reads, Writes}
use Rattle.disk_trait.specs.History.{MemDiskView, disk_view_of}
use Rattle.disk_trait.specs.Overlays.{torn_none}
use Rattle.file_disk.specs.Files.{ReadsSome, WritesSome}
use Rattle.file_disk.specs.Laws.{disk_with_counts, counted_keeps}
use Rattle.file_disk.specs.Memory.{mem_view, within_offsets, planned_front}
use Rattle.file_disk.specs.declared.answers.Planned.{Planned}
use Rattle.file_disk.specs.declared.answers.Planned.TheVariants as plans
use Rattle.file_disk.proofs.Counting.{counted_writes}
use Rattle.file_disk.proofs.Writing.{touches_none}

-- a shorter write that was cut short is a longer one that was
torn_longer : (at k n : ℕ) (old new : List ℕ) → k ≤ n → Torn at k old new → Torn at n old new
torn_longer at k n old new le torn =
    let end : at + n ≡ at + k + (n - k) = omega (arith, le) in
    record {
      no_shorter = torn.no_shorter;
      no_longer = omega (arith, le, torn.no_longer);
      front = torn.front;
      rest =
          ap (λ (j : ℕ). drop j new) end
          ∙ sym (drop-drop (n - k) (at + k) new)
          ∙ ap (λ (l : List ℕ). drop (n - k) l) torn.rest
          ∙ drop-drop (n - k) (at + k) old
          ∙ ap (λ (j : ℕ). drop j old) (sym end);
    }

touches_longer : (at : ℕ) (part bytes : List ℕ) (area : Area) (old new : DiskView) → length part ≤ length bytes
    → Touches (Torn at (length part)) area old new → Touches (Torn at (length bytes)) area old new
touches_longer at part bytes area old new le touches = record {
  time = touches.time;
  here = record {
    reads = torn_longer at _ _ _ _ le touches.here.reads;
    images = λ t c from to image. let was = touches.here.images t c from to image in (was.0, was.1, torn_longer at _ _ _ _ le was.2);
  };
  others = touches.others;
}

-- a front of so many bytes from an offset: none only of none, and it ends below the largest offset
pub record IsFront (at whole n : ℕ) : Type 0 where
  pub within : n ≤ whole
  pub some : min whole 1 ≤ n
  pub below : at + n < 2 ^ 64

front_below : (at whole n m : ℕ) → within_offsets at m ≡ Ok n → m ≤ whole → min whole 1 ≤ m → IsFront at whole n
front_below at whole n m is within some = record {
  within = grind (arith, nat_tests, is, within);
  some = grind (arith, nat_tests, is, some);
  below = grind (arith, nat_tests, is);
}

-- what a planned answer moves
pub front_is : (planned : Planned) (at whole n : ℕ) → planned_front planned at whole ≡ Ok n → IsFront at whole n
front_is plans.Whole at whole n is = front_below at whole n whole is (omega arith) (omega arith)
front_is (plans.Short most) at whole n is = front_below at whole n (min whole (max most 1)) is (omega arith) (omega arith)
front_is plans.Interrupted at whole n is = cc
front_is plans.Failed at whole n is = cc

-- bytes put at the front of a front of a buffer are put at the buffer's front
front_bytes : (n len : ℕ) (bytes part into : List ℕ) → n ≤ length (take len into)
    → part ≡ bytes ++ drop n (take len into) → part ++ drop len into ≡ bytes ++ drop n into
front_bytes n len bytes part into within is =
    ap (λ (l : List ℕ). l ++ drop len into) is
    ∙ append_assoc bytes (drop n (take len into)) (drop len into)
    ∙ ap (λ (l : List ℕ). bytes ++ l) (sym (drop-append-le n (take len into) (drop len into) within) ∙ ap (λ (l : List ℕ). drop n l) (take-append-drop len into))

module _ (area : Area) (at : ℕ) (old new : MemDiskView) (locked locked' : Bool) (faults faults' interrupted interrupted' : ℕ) where
  pub reads_front : {E E' : Type 0} (n len : ℕ) (into part : List ℕ) → IsFront at (length into) len
      → Reads {E = E} area at (take len into) part (disk_view_of old) (disk_view_of new) (Ok n)
      → ReadsSome {E = E'} area at into (part ++ drop len into) (mem_view old locked faults interrupted) (mem_view new locked' faults' interrupted') (Ok n)
  reads_front n len into part front reads = record {
    keeps = counted_keeps (disk_view_of old) (disk_view_of new) 0 0 0 0 reads.keeps;
    past = reads.past;
    ok = record {
      most = omega (arith, reads.ok.count, length-take len into);
      some = λ none. omega (arith, none, front.some, reads.ok.count, length-take len into);
      below = omega (arith, front.below, reads.ok.count, length-take len into);
      bytes = front_bytes n len _ part into (omega (arith, reads.ok.count)) reads.ok.bytes;
    };
  }

  touches_front : {T E : Type 0} (answer : Result T E) (len : ℕ) (bytes : List ℕ)
      → Writes {T = T} {E = E} area at (take len bytes) (disk_view_of old) (disk_view_of new) answer
      → Touches (Torn at (length bytes)) area (disk_with_counts (disk_view_of old) 0 0) (disk_with_counts (disk_view_of new) 0 0)
  touches_front answer len bytes writes =
      let counted = counted_writes area area refl (disk_view_of old) (disk_view_of new) 0 0 0 0 answer at (take len bytes) writes in
      touches_longer at (take len bytes) bytes area _ _ (omega (arith, length-take len bytes)) counted.touches

  pub writes_front : {T E E' : Type 0} (x : T) (len : ℕ) (bytes : List ℕ) → IsFront at (length bytes) len
      → Writes {T = T} {E = E} area at (take len bytes) (disk_view_of old) (disk_view_of new) (Ok x)
      → WritesSome {E = E'} area at bytes (mem_view old locked faults interrupted) (mem_view new locked' faults' interrupted') (Ok len)
  writes_front x len bytes front writes = record { touches = touches_front (Ok x) len bytes writes; ok = writes.ok; below = front.below }

  pub writes_failed : {T E E' : Type 0} (e : E) (e' : E') (len : ℕ) (bytes : List ℕ)
      → Writes {T = T} {E = E} area at (take len bytes) (disk_view_of old) (disk_view_of new) (Err e)
      → WritesSome {E = E'} area at bytes (mem_view old locked faults interrupted) (mem_view new locked' faults' interrupted') (Err e')
  writes_failed e e' len bytes writes = record { touches = touches_front (Err e) len bytes writes; ok = tt; below = tt }

-- a write that isn't begun
pub writes_none : {E : Type 0} (e : E) (area : Area) (at : ℕ) (bytes : List ℕ) (disk : MemDiskView) (locked locked' : Bool) (faults faults' interrupted interrupted' : ℕ)
    → WritesSome area at bytes (mem_view disk locked faults interrupted) (mem_view disk locked' faults' interrupted') (Err e)
writes_none e area at bytes disk locked locked' faults faults' interrupted interrupted' = record {
  touches = touches_none _ area (mem_view disk locked faults interrupted) (torn_none at _);
  ok = tt;
  below = tt;
}
