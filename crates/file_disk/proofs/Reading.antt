-- What a buffer holds while it is filled from a file.
use Rattle.std.proofs.Common.{◌≡◌, ℕ, ◌+◌, ◌-◌, ◌%◌, ◌^◌, ◌<◌, ◌≤◌, min, List, ◌++◌, length, take, drop, Result, Ok, Err, refl, ◌∙◌, ap, subst, arith, length-drop, length-append}
use Rattle.std.specs.Prelude.{IsTrue}
use Rattle.std.proofs.lemmas.List.{append-nil, drop_all, length-take}
use borrow.Rule.Slice.PartMut.{put_mid}
use Rattle.disk_trait.specs.declared.disk.Area.{Area}
use Rattle.disk_trait.specs.Disk.{Keeps, Reads}
use Rattle.disk_trait.proofs.Runs.{keeps_none, keeps_keeps}
use Rattle.file_disk.specs.Files.{FilesView, areas_of, Steady, Retries, GivesFront, ReadsSome}
use Rattle.file_disk.proofs.Parts.{read-parts}
use Rattle.file_disk.proofs.StepLemmas.{steady_none, steady_on}

-- of honest files: the first bytes of the buffer are the area's, and no area is touched
pub record HasRead (area : Area) (at : ℕ) (into into_now : List ℕ) (old now : FilesView) (end : ℕ) : Type 0 where
  pub keeps : Keeps (areas_of old) (areas_of now)
  pub past : now.past ≡ old.past
  pub most : end ≤ length (old.reads area) - at
  pub bytes : into_now ≡ take end (drop at (old.reads area)) ++ drop end into
  pub below : at + end < 2 ^ 64

pub record IsReading (area : Area) (at : ℕ) (into into_now : List ℕ) (old now : FilesView) (end : ℕ) : Type 0 where
  pub within : end ≤ length into
  pub long : length into_now ≡ length into
  pub steady : Steady old now
  pub read : IsTrue old.honest → HasRead area at into into_now old now end

-- what is put at a list's end has nothing behind it
pub put_end : (end k : ℕ) (xs ys : List ℕ) → length xs ≤ end + k → put_mid end k xs ys ≡ take end xs ++ ys
put_end end k xs ys all = ap (λ (l : List ℕ). take end xs ++ (ys ++ l)) (drop_all k (drop end xs) (omega (arith, all, length-drop end xs))) ∙ ap (λ (l : List ℕ). take end xs ++ l) (append-nil ys)

pub reading_starts : (area : Area) (at : ℕ) (into : List ℕ) (files : FilesView) → at < 2 ^ 64 → IsReading area at into into files files 0
reading_starts area at into files below = record {
  within = omega arith;
  long = refl;
  steady = steady_none files;
  read = λ honest. record { keeps = keeps_none (areas_of files); past = refl; most = omega arith; bytes = refl; below = omega (arith, below) };
}

module _ (E : Type 0) (area : Area) (at end from : ℕ) (into into_now into_next rest piece : List ℕ) (old now next : FilesView) (so_far : IsReading area at into into_now old now end) (is_from : from ≡ (at + end) % 2 ^ 64)
    (is_rest : rest ≡ drop end into_now) (is_next : into_next ≡ take end into_now ++ piece) where
  now_honest : IsTrue old.honest → IsTrue now.honest
  now_honest honest = so_far.steady.honest ∙ honest

  from_end : IsTrue old.honest → from ≡ at + end
  from_end honest = omega (arith, is_from, (so_far.read honest).below)

  pub reading_keeps : (answer : Result ℕ E) → ReadsSome area from rest piece now next answer → IsTrue old.honest → Keeps (areas_of old) (areas_of next)
  reading_keeps answer reads honest = keeps_keeps (areas_of old) (areas_of now) (areas_of next) (so_far.read honest).keeps reads.keeps

  module _ (n : ℕ) (reads : IsTrue now.honest → ReadsSome {E = E} area from rest piece now next (Ok n)) (honest : IsTrue old.honest) where
    here : ReadsSome {E = E} area from (drop end into_now) piece now next (Ok n)
    here = subst (λ (l : List ℕ). ReadsSome {E = E} area from l piece now next (Ok n)) is_rest (reads (now_honest honest))

    same : now.reads area ≡ old.reads area
    same = ((so_far.read honest).keeps.each area).reads

    front : GivesFront (at + end) (old.reads area) (drop end into_now) piece n
    front = subst (λ (k : ℕ). GivesFront k (old.reads area) (drop end into_now) piece n) (from_end honest)
        (subst (λ (l : List ℕ). GivesFront from l (drop end into_now) piece n) same here.ok)

    pub has_read : HasRead area at into into_next old next (end + n)
    has_read = record {
      keeps = reading_keeps (Ok n) (reads (now_honest honest)) honest;
      past = here.past ∙ (so_far.read honest).past;
      most = omega (arith, front.most, (so_far.read honest).most);
      bytes = read-parts at end n (old.reads area) into into_now into_next
          (omega (arith, front.most, so_far.within, so_far.long, length-drop end into_now)) (so_far.read honest).most (so_far.read honest).bytes
          (is_next ∙ ap (λ (l : List ℕ). take end into_now ++ l) front.bytes);
      below = omega (arith, front.below);
    }

    -- the count at the area's end
    pub read_end : n ≡ 0 → end ≡ min (length into) (length (old.reads area) - at)
    read_end none = omega (arith, so_far.within, so_far.long, (so_far.read honest).most, front.some none, length-drop end into_now)

  pub reads_end : (n : ℕ) → n ≡ 0 → (reads : IsTrue now.honest → ReadsSome {E = E} area from rest piece now next (Ok n)) (honest : IsTrue old.honest)
      → Reads {E = E} area at into into_next (areas_of old) (areas_of next) (Ok end)
  reads_end n none reads honest =
      let more : HasRead area at into into_next old next end = subst (HasRead area at into into_next old next) (omega (arith, none)) (has_read n reads honest) in
      record {
        keeps = more.keeps;
        past = more.past;
        ok = record { count = read_end n reads honest none; bytes = more.bytes };
      }

  pub reads_failed : (e : E) → (IsTrue now.honest → ReadsSome area from rest piece now next (Err e)) → IsTrue old.honest
      → Reads area at into into_next (areas_of old) (areas_of next) (Err e)
  reads_failed e reads honest =
      let here = reads (now_honest honest) in
      record { keeps = reading_keeps (Err e) here honest; past = here.past ∙ (so_far.read honest).past; ok = tt }

  -- so many bytes more
  pub reading_goes_on : (n : ℕ) → n ≤ length piece → length piece ≡ length rest → Retries {E = E} now next (Ok n)
      → (IsTrue now.honest → ReadsSome {E = E} area from rest piece now next (Ok n))
      → IsReading area at into into_next old next (end + n)
  reading_goes_on n within long retries reads = record {
    within = omega (arith, so_far.within, so_far.long, within, long, ap (λ (l : List ℕ). length l) is_rest, length-drop end into_now);
    long = omega (arith, so_far.within, so_far.long, long, ap (λ (l : List ℕ). length l) is_rest, ap (λ (l : List ℕ). length l) is_next, length-drop end into_now, length-take end into_now, length-append (take end into_now) piece);
    steady = steady_on old now next so_far.steady retries.steady;
    read = has_read n reads;
  }

pub reads_full : {E : Type 0} (area : Area) (at end : ℕ) (into into_now : List ℕ) (old now : FilesView) → IsReading area at into into_now old now end → length into_now ≤ end
    → IsTrue old.honest → Reads {E = E} area at into into_now (areas_of old) (areas_of now) (Ok end)
reads_full area at end into into_now old now so_far full honest =
    let read = so_far.read honest in
    record {
      keeps = read.keeps;
      past = read.past;
      ok = record { count = omega (arith, full, so_far.within, so_far.long, read.most); bytes = read.bytes };
    }
