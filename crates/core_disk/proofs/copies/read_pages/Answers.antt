use Rattle.std.proofs.Common.{rules, ◌+◌, ◌≡◌, ◌∙◌, ◌*◌, drop, subst}
use Rattle.bit_field.specs.Places.{has}
use Rattle.oplog_file.proofs.ConsultLaws.{consults_then, honest_still}
use Rattle.core_disk.specs.Copying.{SetsPlaces, places_below}
use Rattle.core_disk.proofs.CopyLemmas.{page_more}
use Rattle.core_disk.proofs.copies.read_pages.Goals as goal

pub returns-in-Err-clause-consults : goal.returns-in-Err-clause-consults
returns-in-Err-clause-consults g c = consults_then _ (g.D.Disk.disk c.loop-number.disk) _ _ _ c.loop-number.invariant.4 c.in-Err.ensures.consults

pub loop-number-preserved : goal.loop-number-preserved
loop-number-preserved g c =
    let old = g.D.Disk.disk c.args.disk.now in
    let mid = g.D.Disk.disk c.loop-number.disk in
    let so_far = c.loop-number.invariant.4 in (
      λ honest.
          let same : mid.reads c.args.area ≡ old.reads c.args.area = ((so_far.keeps honest).each c.args.area).reads in
          page_more (old.reads c.args.area) c.args.blocks c.loop-number.number (has c.loop-number.held) (has c.read_page.new.held) (search rules) (c.loop-number.invariant.0 honest)
          (subst (λ l. SetsPlaces (drop (c.loop-number.number * 4096) l) (c.loop-number.number * 32768) (places_below c.args.blocks (c.loop-number.number + 1)) (has c.loop-number.held) (has c.read_page.new.held)) same
          (c.in-Ok.ensures.held (honest_still old mid _ so_far honest))),
      λ place past. search rules,
      c.in-Ok.ensures.places ∙ c.loop-number.invariant.2,
      c.in-Ok.ensures.room ∙ c.loop-number.invariant.3,
      consults_then old mid _ _ _ so_far c.in-Ok.ensures.consults,
    )
