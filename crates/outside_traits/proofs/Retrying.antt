-- What a loop keeps that makes interrupted calls again.
use Rattle.std.proofs.Common.{◌≡◌, ℕ, ◌+◌, ◌-◌, ◌^◌, ◌≤◌, ◌<◌, List, ◌++◌, Option, Some, None, Err, refl, sym, ap, ◌∙◌, arith}
use Rattle.std.specs.Io.KnownBytes.{Keeps, Appends, Consumes}
use Rattle.std.proofs.KnownBytes.{Keeps-refl, Keeps-trans}
use Rattle.outside_traits.specs.Standard.{CountsCall}
use Rattle.outside_traits.specs.declared.calls.Counts.{Counts}
use Rattle.outside_traits.specs.declared.calls.Stop.TheVariants.{Interrupted}

-- so many calls were interrupted, no byte was moved, and none failed
pub record Retries (bytes bytes_now : Option (List ℕ)) (old now : Counts) (calls : ℕ) : Type 0 where
  pub keeps : Keeps bytes bytes_now
  pub failed : now.failed ≡ old.failed
  pub interrupted : calls ≤ now.interrupted

pub Retries-start : (bytes : Option (List ℕ)) (counts : Counts) → Retries bytes bytes counts counts 0
Retries-start bytes counts = record { keeps = Keeps-refl bytes; failed = refl; interrupted = omega arith }

pub Retries-more : (bytes now next : Option (List ℕ)) (old counts counts_now : Counts) (calls : ℕ) → Retries bytes now old counts calls
    → calls < 2 ^ 64 - 1 → Keeps now next → CountsCall counts counts_now (Err Interrupted) → Retries bytes next old counts_now (calls + 1)
Retries-more bytes now next old counts counts_now calls retries below keeps counted = record {
  keeps = Keeps-trans bytes now next retries.keeps keeps;
  failed = counted.1 ∙ retries.failed;
  interrupted = omega (arith, retries.interrupted, below, counted.0);
}

pub Keeps-Consumes : (a b c : Option (List ℕ)) (bytes : List ℕ) → Keeps a b → Consumes b c bytes → Consumes a c bytes
Keeps-Consumes None b c bytes keeps moves = tt
Keeps-Consumes (Some x) None c bytes keeps moves = absurd keeps
Keeps-Consumes (Some x) (Some y) None bytes keeps moves = absurd moves
Keeps-Consumes (Some x) (Some y) (Some z) bytes keeps moves = sym keeps ∙ moves

pub Keeps-Appends : (a b c : Option (List ℕ)) (bytes : List ℕ) → Keeps a b → Appends b c bytes → Appends a c bytes
Keeps-Appends None b c bytes keeps moves = tt
Keeps-Appends (Some x) None c bytes keeps moves = absurd keeps
Keeps-Appends (Some x) (Some y) None bytes keeps moves = absurd moves
Keeps-Appends (Some x) (Some y) (Some z) bytes keeps moves = moves ∙ ap (λ l. l ++ bytes) keeps
