use Rattle.std.proofs.Common.{None, ap, sym, subst, ◌∙◌}
use Rattle.bit_field.specs.Places.{has}
use Rattle.oplog_form.specs.declared.header.Header.{Header}
use Rattle.oplog_form.specs.Headers.{header_spelling, HeaderFits}
use Rattle.node_set.specs.Contents.{start}
use Rattle.core_disk.specs.Opened.{Opened, start_of}
use Rattle.core_disk.specs.Parts.{HasNewFile}
use Rattle.core_disk.specs.Standing.{IsOpenedAs}
use Rattle.core_disk.specs.Laid.{IsRooted}
use Rattle.core_disk.proofs.NewStore.{new_header_fits, start_opened, start_rooted, firm_new}
use Rattle.core_disk.proofs.parts.make_parts.Goals as goal

pub new-state-requires-clause-fits : goal.new-state-requires-clause-fits
new-state-requires-clause-fits g c = subst HeaderFits (sym c.new_header-header.ensures) (new_header_fits c.args.id.now c.told-id)

pub returns-in-Ok-make_file-clause-firm : goal.returns-in-Ok-make_file-clause-firm
returns-in-Ok-make_file-clause-firm g c accepts honest =
    let new = g.D.Disk.disk c.make_file.new.disk in
    firm_new accepts c.args.id.now new c.in-Ok-make_file.file c.told-id c.in-Ok-make_file.ensures.front
    (subst (λ (h : Header). HasNewFile (header_spelling h) new) c.new_header-header.ensures (c.in-Ok-make_file.ensures.makes honest))

pub returns-in-Ok-make_file-clause-opened : goal.returns-in-Ok-make_file-clause-opened
returns-in-Ok-make_file-clause-opened g c =
    let is = c.new-state.ensures ∙ ap (λ (h : Header). start_of h (has c.in-Ok.held) (λ depth offset. None)) c.new_header-header.ensures in
    subst (λ (o : Opened). IsOpenedAs o start) (sym is) (start_opened c.args.id.now (has c.in-Ok.held) (λ depth offset. None) c.in-Ok.ensures.empty)

pub returns-in-Ok-make_file-clause-rooted : goal.returns-in-Ok-make_file-clause-rooted
returns-in-Ok-make_file-clause-rooted g c =
    let is = c.new-state.ensures ∙ ap (λ (h : Header). start_of h (has c.in-Ok.held) (λ depth offset. None)) c.new_header-header.ensures in
    subst (λ (o : Opened). IsRooted o) (sym is) (start_rooted c.args.id.now (has c.in-Ok.held) (λ depth offset. None))

pub returns-in-Ok-make_file-clause-cleared : goal.returns-in-Ok-make_file-clause-cleared
returns-in-Ok-make_file-clause-cleared g c honest = (c.in-Ok-make_file.ensures.makes honest).cleared
