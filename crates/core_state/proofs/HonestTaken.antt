-- Honest proofs that cover what a content lacks are taken by each core that stands.
use Rattle.std.proofs.Common.{◌≡◌, ℕ, Bool, ◌≤◌, inl, inr, Option, Some, None, Result, Ok, Err, refl, sym, ap, ◌∙◌, arith, nat_eq}
use Rattle.std.specs.Prelude.{IsTrue}
use Rattle.std.proofs.lemmas.Bool.{cases_Bool}
use Rattle.proof_form.specs.declared.request.Request.{Request}
use Rattle.proof_form.specs.declared.proof.HashPart.{HashPart}
use Rattle.proof_form.specs.declared.proof.UpgradePart.{UpgradePart}
use Rattle.proof_form.specs.Proofs.{Proof, Block, ProofFits}
use Rattle.proof_make.specs.Answers.{part_for, hash_for, upgrade_for, any_block_for, proof_with, made_from, full_content}
use Rattle.node_set.specs.declared.fault.CoreFault.{CoreFault}
use Rattle.node_set.specs.declared.fault.Receipt.{Receipt}
use Rattle.node_set.specs.Contents.{Content}
use Rattle.node_set.specs.Whole.{IsWhole}
use Rattle.node_set.proofs.EvidenceLemmas.{or_clash_then}
use Rattle.proof_check.specs.Judge.{refusal_of}
use Rattle.proof_check.specs.Admission.{IsPlain, refused}
use Rattle.proof_check.proofs.Acceptance.{covering_admitted}
use Rattle.core_state.specs.Events.Event.{Admit}
use Rattle.core_state.specs.Events.Reply.{Done}
use Rattle.core_state.specs.States.{CoreState}
use Rattle.core_state.specs.Next.{Changes, Admits}
use Rattle.core_state.specs.Calls.{Acts}
use Rattle.core_state.specs.Truths.{IsAdmitted, TakesHonest}
use Rattle.core_state.proofs.HonestProofs.{made_is_of}

-- ---- what is asked for, told from the proof

-- a part that is answered by none wasn't asked for
not_asked : {A B : Type 0} (asked : Option A) (answer : A → Option B) → part_for asked answer ≡ Some None → asked ≡ None
not_asked None answer is = refl
not_asked {A} {B} (Some part) answer is = ByAnswer (answer part) refl
  where
    ByAnswer : (given : Option B) → answer part ≡ given → Some part ≡ None
    ByAnswer None none =
        let value : part_for (Some part) answer ≡ None = rw none refl in
        let clash : None ≡ Some None = sym value ∙ is in
        cc
    ByAnswer (Some given) some =
        let value : part_for (Some part) answer ≡ Some (Some given) = rw some refl in
        let clash : Some (Some given) ≡ Some None = sym value ∙ is in
        cc

-- the parts of a proof that was put together
put_together : (fork : ℕ) (seek : Option ℕ) (block : Option (Option Block)) (hash : Option (Option HashPart)) (upgrade : Option (Option UpgradePart)) (p : Proof)
    → proof_with fork seek block hash upgrade ≡ Some p → (p.seek ≡ seek) × (hash ≡ Some p.hash)
put_together fork seek (Some block) (Some hash) (Some upgrade) p is =
    let whole : Some (record { fork = fork; block = block; hash = hash; seek = seek; upgrade = upgrade }) ≡ Some p = is in
    let same : record { fork = fork; block = block; hash = hash; seek = seek; upgrade = upgrade } ≡ p = cc in
    (ap (λ (q : Proof). q.seek) (sym same), ap (λ (q : Proof). Some q.hash) same)
put_together fork seek None hash upgrade p is = let clash : None ≡ Some p = is in cc
put_together fork seek (Some block) None upgrade p is = let clash : None ≡ Some p = is in cc
put_together fork seek (Some block) (Some hash) None p is = let clash : None ≡ Some p = is in cc

-- a plain proof is for a plain request
plain_request : (m : Content) (request : Request) (p : Proof) → made_from m request ≡ Some p → IsPlain p → (request.hash ≡ None) × (request.seek ≡ None)
plain_request m request p is plain = elim (cases_Bool (nat_eq request.fork m.fork)) [
  | inr other ↦
      let none : made_from m request ≡ None = rw other refl in
      let clash : None ≡ Some p = sym none ∙ is in
      cc
  | inl here ↦
      let value : made_from m request ≡ proof_with m.fork request.seek (any_block_for m request) (part_for request.hash (hash_for m)) (part_for request.upgrade (upgrade_for m)) =
      rw here refl in
      let parts = put_together m.fork request.seek (any_block_for m request) (part_for request.hash (hash_for m)) (part_for request.upgrade (upgrade_for m)) p (sym value ∙ is) in
      (not_asked request.hash (hash_for m) (parts.1 ∙ ap Some plain.hash), sym parts.0 ∙ plain.seek)
]

-- ---- acceptance

pub honest_taken : (takes : Bool) (old new : CoreState) (p : Proof) (answer : Result Receipt CoreFault) → IsPlain p → ProofFits p
    → Acts takes old (Admit p) new (Done answer) → IsTrue old.stands → IsWhole old.accepts old.content → TakesHonest takes old (Admit p) new (Done answer)
honest_taken takes old new p answer plain fits acts stands whole log is honest covers =
    let m = old.content in
    let asked = plain_request (full_content log m.fork honest.signature) honest.request p honest.is_made plain in
    let of = made_is_of old.accepts log m.fork honest.signature honest.request p asked.0 asked.1 honest.signed honest.is_made in
    let no_greater : p.fork ≤ m.fork = omega (arith, of.2) in
    or_clash_then (covering_admitted old.accepts p m log whole fits plain.hash no_greater is of.0 covers) (λ none. inl (elim (acts.next stands) [
      | inr fails ↦ inr fails
      | inl next ↦ inl (by_answer answer none (next.served (inl no_greater)))
    ]))
  where
    by_answer : (reply : Result Receipt CoreFault) → refusal_of old.accepts p old.content ≡ None
        → Changes old.content (refused (refusal_of old.accepts p old.content)) (Admits old.content p) new.content reply → IsAdmitted old.content p new.content reply
    by_answer (Ok receipt) none changes = record { receipt = receipt; answered = refl; admits = changes.1 }
    by_answer (Err fault) none changes = let clash : None ≡ Some fault = sym (ap refused none) ∙ changes.0 in cc
