use Rattle.std.proofs.Common.{List, ℕ}
use Rattle.outside_traits.specs.Lines.{WantsMore}
use Rattle.outside_traits.specs.LinePlaces.{lines_view_of}
use Rattle.outside_traits.proofs.Refilling.{refit, Lies-refilled, ReadsMore-ok, ReadsMore-failed}
use Rattle.outside_traits.proofs.lines.Lines.refill.Goals as goal

pub invariant_of-self : goal.invariant_of-self
invariant_of-self g c =
    let fields = c.self.inside in
    let place : List ℕ = c.read_behind-read.new.place in
    let behind = rw c.as_mut_slice.ensures.value at c.in-Ok.ensures in
    rw (refit fields.place.items place fields.place.len fields.place.ok.0 behind.length_same)
    (Lies-refilled _ _ fields.place.items place fields.start fields.end fields.from fields.to fields.searched fields.max c.in-Ok.count c.self.invariant behind)

pub returns-in-Ok : goal.returns-in-Ok
returns-in-Ok g c =
    let fields = c.self.inside in
    let place : List ℕ = c.read_behind-read.new.place in
    let behind = rw c.as_mut_slice.ensures.value at c.in-Ok.ensures in
    let wants : WantsMore (lines_view_of fields.place.items fields.start fields.end fields.from fields.to fields.max fields.ended) = rw c.self.view_is
    c.requires.wants in
    rw (refit fields.place.items place fields.place.len fields.place.ok.0 behind.length_same, ← c.self.view_is)
    record {
      more = ReadsMore-ok _ _ fields.place.items place fields.start fields.end fields.from fields.to fields.searched fields.max c.in-Ok.count
          fields.ended c.self.invariant behind wants;
    }

pub returns-in-Err : goal.returns-in-Err
returns-in-Err g c =
    let fields = c.self.inside in
    let place : List ℕ = c.read_behind-read.new.place in
    let behind = rw c.as_mut_slice.ensures.value at c.in-Err.ensures in
    rw (refit fields.place.items place fields.place.len fields.place.ok.0 behind.length_same, ← c.self.view_is)
    record { more = ReadsMore-failed _ _ fields.place.items place fields.start fields.end fields.from fields.to fields.max fields.ended c.in-Err.failed behind }
