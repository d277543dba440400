use Rattle.std.proofs.Common.{Option, IsTrue, option_map, sym, subst, ◌∙◌}
use Rattle.node_set.specs.Whole.{IsClosed}
use Rattle.log_view.specs.Views.{Source}
use Rattle.proof_form.specs.Proofs.{view as proof_view}
use Rattle.proof_check.specs.Parts.{Part}
use Rattle.proof_judge.specs.Meetings.{part_of}
use Rattle.proof_judge.specs.PartsMet.{MeetsPart, PartMeets}
use Rattle.proof_judge.proofs.PartsLemmas.{both_meet, first_is}
use Rattle.proof_judge.proofs.parts.meet_parts.Goals as goal

pub returns-in-Ok-meet_part-clause-content : goal.returns-in-Ok-meet_part-clause-content
returns-in-Ok-meet_part-clause-content g c = λ shows closed.
    let s = (g.V.View.view c.args.view.now).source in
    let p = proof_view c.args.proof.now in
    let path = option_map part_of c.path_of_hash.result in
    let same = c.in-Ok.ensures.looks.keeps.source in
    let block = subst (λ (part : Option Part). MeetsPart s.content part c.in-Ok.meeting) c.path_of_block.ensures (c.in-Ok.ensures.content shows closed) in
    let seen : IsTrue s.shows → IsClosed s.content.length s.content.block s.content.node → MeetsPart s.content path c.in-Ok-meet_part.hash =
    subst (λ (t : Source). IsTrue t.shows → IsClosed t.content.length t.content.block t.content.node → MeetsPart t.content path c.in-Ok-meet_part.hash) same
    c.in-Ok-meet_part.ensures.content in
    let hash = subst (λ (part : Option Part). MeetsPart s.content part c.in-Ok-meet_part.hash) c.path_of_hash.ensures (seen shows closed) in
    both_meet p s.content c.in-Ok.meeting c.in-Ok-meet_part.hash _ block hash
    (first_is c.in-Ok.meeting c.in-Ok-meet_part.hash _ _ (sym c.is_some.ensures ∙ c.if-is_some.false) c.or.ensures c.or-in-Ok-meet_part.ensures)

pub returns-in-Ok-meet_part-clause-given : goal.returns-in-Ok-meet_part-clause-given
returns-in-Ok-meet_part-clause-given g c =
    let s = (g.V.View.view c.args.view.now).source in
    let seen = subst (λ (t : Source). PartMeets t (option_map part_of c.path_of_hash.result) c.in-Ok-meet_part.hash c.meet_part-2.new.way) c.in-Ok.ensures.looks.keeps.source c.in-Ok-meet_part.ensures.given in
    record {
      block = c.in-Ok.meeting;
      hash = c.in-Ok-meet_part.hash;
      hash_way = c.meet_part-2.new.way;
      block_meets = subst (λ (part : Option Part). PartMeets s part c.in-Ok.meeting c.meet_part.new.way) c.path_of_block.ensures c.in-Ok.ensures.given;
      hash_meets = λ none. subst (λ (part : Option Part). PartMeets s part c.in-Ok-meet_part.hash c.meet_part-2.new.way) c.path_of_hash.ensures seen;
      first = first_is c.in-Ok.meeting c.in-Ok-meet_part.hash _ _ (sym c.is_some.ensures ∙ c.if-is_some.false) c.or.ensures c.or-in-Ok-meet_part.ensures;
    }
