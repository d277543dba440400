-- Requests: what is read is spelled so, and what is spelled so is read, whatever follows.
use Rattle.std.proofs.Common.{◌≡◌, ◌≤◌, ◌++◌, Option, sym, ap, subst, ◌∙◌, arith}
use Rattle.std.specs.Prelude.{IfOk, IfSome, is_some}
use Rattle.std.proofs.lemmas.Option.{IfSome_then}
use Rattle.std.proofs.lemmas.Bool.{leb-true, and_parts}
use Rattle.flat_tree.specs.declared.limits.TheConstants.{MAX_CORE_BYTES, MAX_SIBLINGS}
use Rattle.compact_enc.specs.Spelling.{uint_spelling}
use Rattle.compact_enc.specs.Reading.{IsBytes}
use Rattle.compact_enc.specs.Input.{Input}
use Rattle.compact_enc.proofs.Steps.{if_read}
use Rattle.compact_enc.proofs.Inputs.{Passed, Passed-then, ReadsBack, again_then, again_last}
use Rattle.proof_form.specs.declared.fields.TheConstants.{MAX_NUMBER}
use Rattle.proof_form.specs.declared.flags.TheConstants.{BLOCK, HASH, SEEK, UPGRADE}
use Rattle.proof_form.specs.declared.request.Want.{Want}
use Rattle.proof_form.specs.declared.request.Reach.{Reach}
use Rattle.proof_form.specs.declared.request.Request.{Request}
use Rattle.proof_form.specs.Flags.{has_flag, are_request_flags}
use Rattle.proof_form.specs.Form.{part_spelling, number_of, part_of, start_of, span_of}
use Rattle.proof_form.specs.Requests.{want_spelling, reach_spelling, request_flags, asked_spelling, request_spelling, WantFits, ReachFits, RequestFits, want_of, reach_of, request_of}
use Rattle.proof_form.proofs.FieldLaws.{number_passes, part_passes, start_passes, span_passes, number_again, part_again, start_again, span_again}
use Rattle.proof_form.proofs.FlagLaws.{flags_name, named_flags, few_flags}

-- ---- what is read is spelled so

want_passes : (input : Input) → IsBytes input.rest → IfOk (want_of input) (λ x. Passed input (want_spelling x.0) x.1 × WantFits x.0)
unfolding want_of
want_passes input fits =
    if_read (number_of MAX_NUMBER input) _ _ _ (number_passes MAX_NUMBER input fits) (λ index i.
    if_read (number_of MAX_SIBLINGS index.1) _ _ _ (number_passes MAX_SIBLINGS index.1 i.0.fits) (λ nodes n.
    (Passed-then input index.1 nodes.1 (uint_spelling index.0) (uint_spelling nodes.0) i.0 n.0, record { index = i.1; nodes = n.1 })))

reach_passes : (input : Input) → IsBytes input.rest → IfOk (reach_of input) (λ x. Passed input (reach_spelling x.0) x.1 × ReachFits x.0)
unfolding reach_of
reach_passes input fits =
    if_read (span_of input) _ _ _ (span_passes input fits) (λ span s. (s.0, record { ordered = s.1; within = s.2 }))

pub request_passes : (input : Input) → IsBytes input.rest → IfOk (request_of input) (λ x. Passed input (request_spelling x.0) x.1 × RequestFits x.0)
unfolding request_of request_spelling
request_passes input fits =
    if_read (start_of are_request_flags input) _ _ _ (start_passes are_request_flags input fits) (λ start t.
    let flags = start.0.1 in
    if_read (part_of (has_flag BLOCK flags) want_of start.1) _ _ _ (part_passes (has_flag BLOCK flags) want_of want_spelling WantFits start.1 t.0.fits (want_passes start.1 t.0.fits)) (λ block b.
    if_read (part_of (has_flag HASH flags) want_of block.1) _ _ _ (part_passes (has_flag HASH flags) want_of want_spelling WantFits block.1 b.0.fits (want_passes block.1 b.0.fits)) (λ hash h.
    if_read (part_of (has_flag SEEK flags) (number_of MAX_CORE_BYTES) hash.1) _ _ _ (part_passes (has_flag SEEK flags) (number_of MAX_CORE_BYTES) uint_spelling (λ n. n ≤ MAX_CORE_BYTES) hash.1 h.0.fits (number_passes MAX_CORE_BYTES hash.1 h.0.fits)) (λ seek s.
    if_read (part_of (has_flag UPGRADE flags) reach_of seek.1) _ _ _ (part_passes (has_flag UPGRADE flags) reach_of reach_spelling ReachFits seek.1 s.0.fits (reach_passes seek.1 s.0.fits)) (λ upgrade u.
    let same : request_flags (record { fork = start.0.0; block = block.0; hash = hash.0; seek = seek.0; upgrade = upgrade.0 }) ≡ flags =
    named_flags flags block.0 hash.0 seek.0 upgrade.0 (leb-true _ _ (and_parts _ _ (and_parts _ _ t.2).0).1) (record { block = sym b.1; hash = sym h.1; seek = sym s.1; upgrade = sym u.1 }) in
    let parts = Passed-then start.1 block.1 upgrade.1 _ _ b.0 (Passed-then block.1 hash.1 upgrade.1 _ _ h.0 (Passed-then hash.1 seek.1 upgrade.1 _ _ s.0 u.0)) in
    let all = Passed-then input start.1 upgrade.1 _ _ t.0 parts in (
      subst (λ n. Passed input ((uint_spelling start.0.0 ++ uint_spelling n) ++ asked_spelling (record { fork = start.0.0; block = block.0; hash = hash.0; seek = seek.0; upgrade = upgrade.0 })) upgrade.1) (sym same) all,
      record { fork = t.1; parts = ap are_request_flags same ∙ t.2; block = b.2; hash = h.2; seek = s.2; upgrade = u.2 },
    ))))))

-- ---- what is spelled so is read

want_again : (want : Want) → WantFits want → ReadsBack want_of want (want_spelling want)
unfolding want_of
want_again want fits =
    again_then (number_of MAX_NUMBER) _ want.index want (uint_spelling want.index) (uint_spelling want.nodes) (number_again MAX_NUMBER want.index fits.index (omega (arith, fits.index)))
    (again_last (number_of MAX_SIBLINGS) (λ n. record { index = want.index; nodes = n }) want.nodes (uint_spelling want.nodes) (number_again MAX_SIBLINGS want.nodes fits.nodes (omega (arith, fits.nodes))))

reach_again : (reach : Reach) → ReachFits reach → ReadsBack reach_of reach (reach_spelling reach)
unfolding reach_of
reach_again reach fits =
    again_last span_of (λ span. record { start = span.0; length = span.1 }) (reach.start, reach.length) (reach_spelling reach) (span_again reach.start reach.length fits.ordered fits.within)

pub request_again : (r : Request) → RequestFits r → ReadsBack request_of r (request_spelling r)
unfolding request_of request_spelling
request_again r fits =
    let flags = request_flags r in
    let name = flags_name r.block r.hash r.seek r.upgrade in
    let want_part : (part : Option Want) → IfSome part WantFits → ReadsBack (part_of (is_some part) want_of) part (part_spelling want_spelling part) =
    λ part fit. part_again want_of want_spelling part (IfSome_then part fit want_again) in
    let block : ReadsBack (part_of (has_flag BLOCK flags) want_of) r.block (part_spelling want_spelling r.block) = rw name.block (want_part r.block fits.block) in
    let hash : ReadsBack (part_of (has_flag HASH flags) want_of) r.hash (part_spelling want_spelling r.hash) = rw name.hash (want_part r.hash fits.hash) in
    let seek : ReadsBack (part_of (has_flag SEEK flags) (number_of MAX_CORE_BYTES)) r.seek (part_spelling uint_spelling r.seek) =
    rw name.seek (part_again (number_of MAX_CORE_BYTES) uint_spelling r.seek (IfSome_then r.seek fits.seek (λ n small. number_again MAX_CORE_BYTES n small (omega (arith, small))))) in
    let upgrade : ReadsBack (part_of (has_flag UPGRADE flags) reach_of) r.upgrade (part_spelling reach_spelling r.upgrade) =
    rw name.upgrade (part_again reach_of reach_spelling r.upgrade (IfSome_then r.upgrade fits.upgrade reach_again)) in
    again_then (start_of are_request_flags) _ (r.fork, flags) r (uint_spelling r.fork ++ uint_spelling flags) (asked_spelling r) (start_again are_request_flags r.fork flags fits.fork (omega (arith, few_flags r.block r.hash r.seek r.upgrade)) fits.parts)
    (again_then (part_of (has_flag BLOCK flags) want_of) _ r.block r _ _ block
    (again_then (part_of (has_flag HASH flags) want_of) _ r.hash r _ _ hash
    (again_then (part_of (has_flag SEEK flags) (number_of MAX_CORE_BYTES)) _ r.seek r _ _ seek
    (again_last (part_of (has_flag UPGRADE flags) reach_of) (λ u. record { fork = r.fork; block = r.block; hash = r.hash; seek = r.seek; upgrade = u }) r.upgrade _ upgrade))))
