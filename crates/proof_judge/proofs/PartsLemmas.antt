-- The parts of a proof one after the other: what each needs, and which refusal is the first.
use Rattle.std.proofs.Common.{◌≡◌, false, Option, Some, None, option_map, refl, sym, ap, ◌∙◌}
use Rattle.std.specs.Option.{option_or}
use Rattle.std.specs.Prelude.{is_some}
use Rattle.proof_form.specs.Proofs.{Proof}
use Rattle.node_set.specs.declared.fault.Refusal.{Refusal}
use Rattle.node_set.specs.Contents.{Content}
use Rattle.node_set.specs.Refuses.{or_else}
use Rattle.proof_check.specs.Parts.{Part, of_part, part_of_block, part_of_hash, differs_refusal, uncovered_refusal}
use Rattle.proof_check.specs.Judge.{each_part}
use Rattle.proof_judge.specs.declared.part.Meeting.{Meeting}
use Rattle.proof_judge.specs.PartsMet.{block_part, hash_part, parts_refusal, MeetsPart}

-- ---- the first refusal

-- std's word for it
first-or : {A : Type 0} (one other : Option A) → option_or one other ≡ or_else one other
first-or (Some x) other = refl
first-or None other = refl

-- the first, where the block doesn't differ
pub first_is : (block hash : Meeting) (mid first : Option Refusal) → is_some block.differs ≡ false → mid ≡ option_or hash.differs block.uncovered
    → first ≡ option_or mid hash.uncovered → first ≡ or_else (or_else block.differs hash.differs) (or_else block.uncovered hash.uncovered)
first_is block hash mid first none second third =
    third
    ∙ first-or mid hash.uncovered
    ∙ ap (λ (one : Option Refusal). or_else one hash.uncovered) (second ∙ first-or hash.differs block.uncovered)
    ∙ one_less block.differs hash.differs block.uncovered hash.uncovered none
  where
    one_less : (one two three four : Option Refusal) → is_some one ≡ false → or_else (or_else two three) four ≡ or_else (or_else one two) (or_else three four)
    one_less (Some x) two three four none = cc
    one_less None (Some x) three four none = refl
    one_less None None three four none = refl

-- what a part meets is its refusals
part_differs : (m : Content) (part : Option Part) (meeting : Meeting) → MeetsPart m part meeting → meeting.differs ≡ of_part part (differs_refusal m)
part_differs m None meeting is = ap (λ (own : Meeting). own.differs) is
part_differs m (Some part) meeting is = is.differs

part_uncovered : (m : Content) (part : Option Part) (meeting : Meeting) → MeetsPart m part meeting → meeting.uncovered ≡ of_part part (uncovered_refusal m)
part_uncovered m None meeting is = ap (λ (own : Meeting). own.uncovered) is
part_uncovered m (Some part) meeting is = is.uncovered

of_part-map : {A : Type 0} (part_of : A → Part) (refusal : Part → Option Refusal) (part : Option A)
    → of_part (option_map part_of part) refusal ≡ of_part part (λ own. refusal (part_of own))
of_part-map part_of refusal None = refl
of_part-map part_of refusal (Some part) = refl

each_part-map : (p : Proof) (refusal : Part → Option Refusal) → or_else (of_part (block_part p.block) refusal) (of_part (hash_part p) refusal) ≡ each_part p refusal
each_part-map p refusal =
    ap (λ (one : Option Refusal). or_else one (of_part (hash_part p) refusal)) (of_part-map part_of_block refusal p.block)
    ∙ ap (or_else (of_part p.block (λ b. refusal (part_of_block b)))) (of_part-map part_of_hash refusal p.hash)

-- the block differs
pub block_differs : (p : Proof) (m : Content) (block : Meeting) (refusal : Refusal) → MeetsPart m (block_part p.block) block → block.differs ≡ Some refusal
    → Some refusal ≡ parts_refusal p m
block_differs p m block refusal is differs =
    let first : of_part (block_part p.block) (differs_refusal m) ≡ Some refusal = sym (part_differs m (block_part p.block) block is) ∙ differs in
    sym (
    ap (λ (one : Option Refusal). or_else one (each_part p (uncovered_refusal m))) (sym (each_part-map p (differs_refusal m))
    ∙ ap (λ (one : Option Refusal). or_else one (of_part (hash_part p) (differs_refusal m))) first))

-- it doesn't
pub both_meet : (p : Proof) (m : Content) (block hash : Meeting) (refusal : Option Refusal) → MeetsPart m (block_part p.block) block → MeetsPart m (hash_part p) hash
    → refusal ≡ or_else (or_else block.differs hash.differs) (or_else block.uncovered hash.uncovered) → refusal ≡ parts_refusal p m
both_meet p m block hash refusal is beside first =
    rw (first, part_differs m _ block is, part_differs m _ hash beside, part_uncovered m _ block is, part_uncovered m _ hash beside)
    (ap (λ (one : Option Refusal). or_else one (or_else (of_part (block_part p.block) (uncovered_refusal m)) (of_part (hash_part p) (uncovered_refusal m)))) (each_part-map p (differs_refusal m))
    ∙ ap (or_else (each_part p (differs_refusal m))) (each_part-map p (uncovered_refusal m)))
