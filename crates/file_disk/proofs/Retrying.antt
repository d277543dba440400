-- What a loop keeps that makes interrupted calls again.
use Rattle.std.proofs.Common.{◌≡◌, inl, inr, ℕ, ◌+◌, ◌-◌, ◌^◌, ◌<◌, ◌≤◌, List, length, Result, Ok, Err, refl, ◌∙◌, ap, subst, arith}
use Rattle.std.specs.Prelude.{IsTrue, take}
use Rattle.disk_trait.specs.declared.disk.Area.{Area}
use Rattle.disk_trait.specs.Disk.{overlay, Torn, Touches, Keeps}
use Rattle.disk_trait.specs.Overlays.{torn_none}
use Rattle.disk_trait.proofs.Runs.{keeps_none, keeps_keeps}
use Rattle.file_disk.specs.declared.fault.CallFault.TheVariants.{Interrupted, Failed}
use Rattle.file_disk.specs.Files.{FilesView, areas_of, Steady, Tries, Retries, GivesFront, ReadsSome, WritesSome}
use Rattle.file_disk.proofs.Parts.{keeps_touches, torn_on, touches_on}
use Rattle.file_disk.proofs.StepLemmas.{steady_none, steady_on}

-- so many calls were interrupted
pub record IsRetrying (old now : FilesView) (calls : ℕ) : Type 0 where
  pub steady : Steady old now
  pub interrupted : calls ≤ now.interrupted

pub retrying_starts : (files : FilesView) → IsRetrying files files 0
retrying_starts files = record { steady = steady_none files; interrupted = omega arith }

module _ (old now next : FilesView) (calls : ℕ) (so_far : IsRetrying old now calls) where
  pub retrying_goes_on : {T : Type 0} → calls < 2 ^ 64 - 1 → Tries {T = T} now next (Err Interrupted) → IsRetrying old next (calls + 1)
  retrying_goes_on below tries = record {
    steady = steady_on old now next so_far.steady tries.asks.steady;
    interrupted = omega (arith, so_far.interrupted, below, tries.interrupted refl);
  }

  pub retried : {T E : Type 0} (x : T) → Tries {T = T} now next (Ok x) → Retries {E = E} old next (Ok x)
  retried x tries = record { steady = steady_on old now next so_far.steady tries.asks.steady; cause = λ h. cc }

  pub retry_failed : {T U E : Type 0} (e : E) → Tries {T = T} now next (Err Failed) → Retries {T = U} old next (Err e)
  retry_failed e tries = record {
    steady = steady_on old now next so_far.steady tries.asks.steady;
    cause = λ h. inl (omega (arith, so_far.steady.kept, tries.asks.rose refl));
  }

pub retried_all : {T E : Type 0} (e : E) (old now : FilesView) (calls : ℕ) → IsRetrying old now calls → 2 ^ 64 - 1 ≤ calls → Retries {T = T} old now (Err e)
retried_all e old now calls so_far all = record { steady = so_far.steady; cause = λ h. inr (omega (arith, so_far.interrupted, all)) }

-- no area was touched, and the buffer is as it was
pub record IsUnread (into into_now : List ℕ) (old now : FilesView) : Type 0 where
  pub keeps : Keeps (areas_of old) (areas_of now)
  pub past : now.past ≡ old.past
  pub bytes : into_now ≡ into

pub unread_starts : (into : List ℕ) (files : FilesView) → IsUnread into into files files
unread_starts into files = record { keeps = keeps_none (areas_of files); past = refl; bytes = refl }

module _ {E : Type 0} (area : Area) (at : ℕ) (into into_now into_next : List ℕ) (old now next : FilesView) (so_far : IsUnread into into_now old now) where
  pub unread_on : (answer : Result ℕ E) → ReadsSome area at into_now into_next now next answer → into_next ≡ into_now → IsUnread into into_next old next
  unread_on answer reads same = record {
    keeps = keeps_keeps (areas_of old) (areas_of now) (areas_of next) so_far.keeps reads.keeps;
    past = reads.past ∙ so_far.past;
    bytes = same ∙ so_far.bytes;
  }

  pub read_after : {E' : Type 0} (n : ℕ) → ReadsSome {E = E} area at into_now into_next now next (Ok n) → ReadsSome {E = E'} area at into into_next old next (Ok n)
  read_after n reads = record {
    keeps = keeps_keeps (areas_of old) (areas_of now) (areas_of next) so_far.keeps reads.keeps;
    past = reads.past ∙ so_far.past;
    ok = subst (λ (l : List ℕ). GivesFront at l into into_next n) (so_far.keeps.each area).reads
        (subst (λ (l : List ℕ). GivesFront at (now.reads area) l into_next n) so_far.bytes reads.ok);
  }

  pub read_failed : {E' : Type 0} (e : E) (e' : E') → ReadsSome area at into_now into_next now next (Err e) → ReadsSome area at into into_next old next (Err e')
  read_failed e e' reads = record {
    keeps = keeps_keeps (areas_of old) (areas_of now) (areas_of next) so_far.keeps reads.keeps;
    past = reads.past ∙ so_far.past;
    ok = tt;
  }

-- the area reads as it did, and a crash may have torn what was to be written
pub record IsUnwritten (area : Area) (at n : ℕ) (old now : FilesView) : Type 0 where
  pub touches : Touches (Torn at n) area (areas_of old) (areas_of now)
  pub reads : now.reads area ≡ old.reads area

pub unwritten_starts : (area : Area) (at n : ℕ) (files : FilesView) → IsUnwritten area at n files files
unwritten_starts area at n files = record { touches = keeps_touches _ area (areas_of files) (areas_of files) (torn_none at n) (keeps_none (areas_of files)); reads = refl }

-- a write that was cut short, and then the same one, are one
torn_again : (at n : ℕ) (old mid new : List ℕ) → Torn at n old mid → Torn at n mid new → Torn at n old new
torn_again at n old mid new first second = torn_on at n 0 n old mid new (omega arith) first (subst (λ (k : ℕ). Torn k n mid new) (omega arith) second)

module _ {E : Type 0} (area : Area) (at : ℕ) (bytes : List ℕ) (old now next : FilesView) (so_far : IsUnwritten area at (length bytes) old now) where
  torn : (answer : Result ℕ E) → WritesSome area at bytes now next answer → Touches (Torn at (length bytes)) area (areas_of old) (areas_of next)
  torn answer writes = touches_on (Torn at (length bytes)) (Torn at (length bytes)) (Torn at (length bytes)) (λ a b h. h) (torn_again at (length bytes)) area (areas_of old) (areas_of now) (areas_of next) so_far.touches writes.touches

  pub unwritten_on : (answer : Result ℕ E) → WritesSome area at bytes now next answer → next.reads area ≡ now.reads area → IsUnwritten area at (length bytes) old next
  unwritten_on answer writes same = record { touches = torn answer writes; reads = same ∙ so_far.reads }

  pub written_after : {E' : Type 0} (n : ℕ) → WritesSome {E = E} area at bytes now next (Ok n) → WritesSome {E = E'} area at bytes old next (Ok n)
  written_after n writes = record {
    touches = torn (Ok n) writes;
    ok = writes.ok ∙ ap (λ (l : List ℕ). overlay at (take n bytes) l) so_far.reads;
    below = writes.below;
  }

  pub write_failed : {E' : Type 0} (e : E) (e' : E') → WritesSome area at bytes now next (Err e) → WritesSome area at bytes old next (Err e')
  write_failed e e' writes = record { touches = torn (Err e) writes; ok = tt; below = tt }

-- a read that was interrupted so many times
pub record IsRereading (into into_now : List ℕ) (old now : FilesView) (calls : ℕ) : Type 0 where
  pub retrying : IsRetrying old now calls
  pub unread : IsTrue old.honest → IsUnread into into_now old now

pub rereading_starts : (into : List ℕ) (files : FilesView) → IsRereading into into files files 0
rereading_starts into files = record { retrying = retrying_starts files; unread = λ honest. unread_starts into files }

-- a write that was interrupted so many times
pub record IsRewriting (area : Area) (at n : ℕ) (old now : FilesView) (calls : ℕ) : Type 0 where
  pub retrying : IsRetrying old now calls
  pub unwritten : IsTrue old.honest → IsUnwritten area at n old now

pub rewriting_starts : (area : Area) (at n : ℕ) (files : FilesView) → IsRewriting area at n files files 0
rewriting_starts area at n files = record { retrying = retrying_starts files; unwritten = λ honest. unwritten_starts area at n files }
