-- What files hold while all of some bytes are written.
use Rattle.std.proofs.Common.{◌≡◌, ℕ, ◌+◌, ◌%◌, ◌^◌, ◌<◌, ◌≤◌, List, length, take, drop, Result, Ok, Err, refl, ◌∙◌, ap, subst, arith, length-drop}
use Rattle.std.specs.Prelude.{IsTrue}
use Rattle.std.proofs.lemmas.List.{take_all}
use Rattle.disk_trait.specs.declared.disk.Area.{Area}
use Rattle.disk_trait.specs.Disk.{overlay, Torn, Touches, Writes}
use Rattle.disk_trait.specs.Overlays.{torn_none}
use Rattle.disk_trait.proofs.Runs.{keeps_none}
use Rattle.file_disk.specs.Files.{FilesView, areas_of, Steady, Retries, WritesSome}
use Rattle.file_disk.proofs.Parts.{keeps_touches, torn_touches, overlay-parts}
use Rattle.file_disk.proofs.StepLemmas.{steady_none, steady_on}

-- of honest files: the first bytes are written, and no other area is touched
pub record HasWritten (area : Area) (at : ℕ) (bytes : List ℕ) (old now : FilesView) (end : ℕ) : Type 0 where
  pub touches : Touches (Torn at (length bytes)) area (areas_of old) (areas_of now)
  pub reads : now.reads area ≡ overlay at (take end bytes) (old.reads area)
  pub below : at + end < 2 ^ 64

pub record IsWriting (area : Area) (at : ℕ) (bytes : List ℕ) (old now : FilesView) (end : ℕ) : Type 0 where
  pub within : end ≤ length bytes
  pub steady : Steady old now
  pub written : IsTrue old.honest → HasWritten area at bytes old now end

pub touches_none : (R : List ℕ → List ℕ → Type 0) (area : Area) (files : FilesView) → ((d : List ℕ) → R d d) → Touches R area (areas_of files) (areas_of files)
touches_none R area files none = keeps_touches R area (areas_of files) (areas_of files) none (keeps_none (areas_of files))

pub writing_starts : (area : Area) (at : ℕ) (bytes : List ℕ) (files : FilesView) → at < 2 ^ 64 → IsWriting area at bytes files files 0
writing_starts area at bytes files below = record {
  within = omega arith;
  steady = steady_none files;
  written = λ honest. record {
    touches = touches_none _ area files (torn_none at _);
    reads = refl;
    below = omega (arith, below);
  };
}

module _ (E : Type 0) (area : Area) (at end from : ℕ) (bytes rest : List ℕ) (old now next : FilesView) (so_far : IsWriting area at bytes old now end) (is_from : from ≡ (at + end) % 2 ^ 64) (is_rest : rest ≡ drop end bytes) where
  now_honest : IsTrue old.honest → IsTrue now.honest
  now_honest honest = so_far.steady.honest ∙ honest

  from_end : IsTrue old.honest → from ≡ at + end
  from_end honest = omega (arith, is_from, (so_far.written honest).below)

  here : (answer : Result ℕ E) → IsTrue old.honest → (IsTrue now.honest → WritesSome area from rest now next answer) → WritesSome area from (drop end bytes) now next answer
  here answer honest writes = subst (λ (l : List ℕ). WritesSome area from l now next answer) is_rest (writes (now_honest honest))

  torn : (answer : Result ℕ E) → IsTrue old.honest → WritesSome area from (drop end bytes) now next answer → Touches (Torn at (length bytes)) area (areas_of old) (areas_of next)
  torn answer honest writes =
      torn_touches at (length bytes) end (length (drop end bytes)) area (areas_of old) (areas_of now) (areas_of next) (omega (arith, so_far.within, length-drop end bytes))
      (so_far.written honest).touches (subst (λ (k : ℕ). Touches (Torn k (length (drop end bytes))) area (areas_of now) (areas_of next)) (from_end honest) writes.touches)

  -- so many bytes more
  pub writing_goes_on : (n : ℕ) → n ≤ length rest → Retries {E = E} now next (Ok n) → (IsTrue now.honest → WritesSome {E = E} area from rest now next (Ok n))
      → IsWriting area at bytes old next (end + n)
  writing_goes_on n within retries writes = record {
    within = omega (arith, so_far.within, within, ap (λ (l : List ℕ). length l) is_rest, length-drop end bytes);
    steady = steady_on old now next so_far.steady retries.steady;
    written = λ honest.
        let wrote = here (Ok n) honest writes in
        record {
          touches = torn (Ok n) honest wrote;
          reads = overlay-parts at end n bytes (old.reads area) (now.reads area) (next.reads area) so_far.within (so_far.written honest).reads
              (wrote.ok ∙ ap (λ (k : ℕ). overlay k (take n (drop end bytes)) (now.reads area)) (from_end honest));
          below = omega (arith, wrote.below, from_end honest);
        };
  }

  pub writes_failed : {T : Type 0} (e : E) → (IsTrue now.honest → WritesSome area from rest now next (Err e))
      → IsTrue old.honest → Writes {T = T} area at bytes (areas_of old) (areas_of next) (Err e)
  writes_failed e writes honest = record { touches = torn (Err e) honest (here (Err e) honest writes); ok = tt }

pub writes_done : {T E : Type 0} (x : T) (area : Area) (at end : ℕ) (bytes : List ℕ) (old now : FilesView) → IsWriting area at bytes old now end → length bytes ≤ end
    → IsTrue old.honest → Writes {E = E} area at bytes (areas_of old) (areas_of now) (Ok x)
writes_done x area at end bytes old now so_far all honest = record {
  touches = (so_far.written honest).touches;
  ok = (so_far.written honest).reads ∙ ap (λ (l : List ℕ). overlay at l (old.reads area)) (take_all end bytes all);
}
