use Rattle.std.proofs.Common.{◌≡◌, ◌++◌, length, take, drop, ap, subst, ◌∙◌, arith}
use Rattle.std.proofs.lemmas.List.{length-take, length-take-le, take-append-le}
use Rattle.disk_trait.specs.declared.disk.Area.TheVariants.{Oplog}
use Rattle.oplog_file.specs.declared.layout.TheConstants.{ENTRIES_AT}
use Rattle.oplog_file.specs.Opening.{TellsHeader}
use Rattle.oplog_file.proofs.ConsultLaws.{consults_then}
use Rattle.oplog_file.proofs.OpenLaws.{tells_whole, consults_none}
use Rattle.oplog_file.proofs.opening.find_header.Goals as goal

pub read_latest-requires : goal.read_latest-requires
read_latest-requires g c = omega (arith, c.in_ok-n.ensures.within, length-take 8192 c.args.room.now, length-take c.in_ok-n.n (c.read_front.new.room ++ drop 8192 c.args.room.now))

pub returns-clause-header : goal.returns-clause-header
returns-clause-header g c honest =
    let area = (g.D.Disk.disk c.args.disk.now).reads Oplog in
    let whole : length (take ENTRIES_AT c.args.room.now) ≡ ENTRIES_AT = length-take-le ENTRIES_AT c.args.room.now c.requires.room in
    let front : take c.in_ok-n.n (c.read_front.new.room ++ drop 8192 c.args.room.now) ≡ take ENTRIES_AT area =
    take-append-le c.in_ok-n.n c.read_front.new.room (drop 8192 c.args.room.now) (omega (arith, c.in_ok-n.ensures.within, c.in_ok-n.ensures.size))
    ∙ c.in_ok-n.ensures.front honest
    ∙ ap (λ n. take n area) whole in
    tells_whole area c.read_latest.result (subst (λ l. TellsHeader l c.read_latest.result) front c.read_latest.ensures.header)

pub returns-clause-consults : goal.returns-clause-consults
returns-clause-consults g c =
    let mid = g.D.Disk.disk c.read_front.new.disk in
    consults_then _ mid mid _ c.read_latest.result c.in_ok-n.ensures.consults (consults_none mid c.read_latest.result c.read_latest.ensures.no_fault)
