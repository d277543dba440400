-- Files over several calls.
use Rattle.std.proofs.Common.{inl, inr, Ok, Err, refl, ◌∙◌, arith}
use Rattle.file_disk.specs.Files.{FilesView, SameAreas, Steady, Asks, Retries}

pub steady_none : (files : FilesView) → Steady files files
steady_none files = record { honest = refl; locked = λ h. h; kept = omega arith }

pub steady_on : (old mid new : FilesView) → Steady old mid → Steady mid new → Steady old new
steady_on old mid new first second = record {
  honest = second.honest ∙ first.honest;
  locked = λ h. second.locked (first.locked h);
  kept = omega (arith, first.kept, second.kept);
}

pub same_on : (old mid new : FilesView) → SameAreas old mid → SameAreas mid new → SameAreas old new
same_on old mid new first second = record {
  reads = λ area. second.reads area ∙ first.reads area;
  images = λ t area c. (λ h. (first.images t area c).0 ((second.images t area c).0 h), λ h. (second.images t area c).1 ((first.images t area c).1 h));
  past = second.past ∙ first.past;
  moment = second.moment ∙ first.moment;
}

-- a call after a run of calls that didn't fail
pub asks_on : (old mid new : FilesView) (Fails Fails' : Type 0) → Steady old mid → Asks mid new Fails → (Fails' → Fails) → Asks old new Fails'
asks_on old mid new Fails Fails' first second fails = record {
  steady = steady_on old mid new first second.steady;
  rose = λ h. omega (arith, first.kept, second.rose (fails h));
}

-- a run of calls that ends with a retried one
pub retries_on : {T U E : Type 0} (old mid new : FilesView) (e : E) → Steady old mid → Retries {T = T} mid new (Err e) → Retries {T = U} old new (Err e)
retries_on old mid new e first second = record {
  steady = steady_on old mid new first second.steady;
  cause = λ h. elim (second.cause refl) [
    | inl rose ↦ inl (omega (arith, first.kept, rose))
    | inr many ↦ inr many
  ];
}

pub retries_done : {T E : Type 0} (old new : FilesView) (x : T) → Steady old new → Retries {E = E} old new (Ok x)
retries_done old new x steady = record { steady = steady; cause = λ h. cc }
