-- An admission as a change of a content in memory.
use Rattle.std.proofs.Common.{◌≡◌, ◌≢◌, ℕ, Bool, true, ◌<◌, ◌≤◌, inl, inr, List, Option, Some, None, Result, Ok, Err, refl, sym, ap, subst, ◌∙◌, arith}
use Rattle.std.specs.Prelude.{◌⊎◌, IsSome, IfOk, IfErr, IsTrue}
use Rattle.std.proofs.lemmas.Bool.{cases_lt}
use Rattle.proof_form.specs.declared.proof.UpgradePart.{UpgradePart}
use Rattle.proof_form.specs.Proofs.{Proof, ProofFits}
use Rattle.node_set.specs.declared.change.Change.{Change}
use Rattle.node_set.specs.declared.fault.CoreFault.{CoreFault}
use Rattle.node_set.specs.declared.fault.CoreFault.TheVariants.{Memory, Refused}
use Rattle.node_set.specs.declared.fault.Receipt.{Receipt}
use Rattle.node_set.specs.declared.fault.Refusal.{Refusal}
use Rattle.node_set.specs.declared.fault.Refusal.TheVariants.{NewFork}
use Rattle.node_set.specs.Contents.{Content, roots, summary_of}
use Rattle.node_set.specs.Views.{AnswersBy, TellsFault}
use Rattle.node_set.specs.Whole.{IsWhole}
use Rattle.proof_check.specs.Judge.{refusal_of, admitted, commit_of}
use Rattle.proof_check.specs.Admission.{IsServed, IsAdmission, IsRefusal, refused}
use Rattle.flat_tree.specs.declared.limits.TheConstants.{MAX_BLOCKS}
use Rattle.proof_check.specs.Reaching.{IsLegalChange}
use Rattle.proof_check.proofs.AdmitWhole.{admitted_whole}
use Rattle.proof_check.proofs.AdmitHistory.{admit_history}
use Rattle.core_state.specs.Events.Event.{Admit}
use Rattle.core_state.specs.Calls.{KeepsHistory}
use Rattle.core_state.specs.States.{receipt_of}
use Rattle.core_state.specs.InMemory.{Stored, content_of, view_of}
use Rattle.core_state.specs.Reserves.{IsReserved, Suffices}
use Rattle.core_state.specs.Turns.{Turns, Judged, Brings}
use Rattle.core_state.proofs.ActLemmas.{no_tell, decides}
use Rattle.core_state.proofs.AdmitLemmas.{served_fork, room_suffices, suffices_room}

-- no refusal, told as no fault
not_refused_of : (refusal : Option Refusal) → refused refusal ≡ None → refusal ≡ None
not_refused_of None none = refl
not_refused_of (Some refusal) none = let clash : Some (Refused refusal) ≡ None = none in cc

-- equal answers have equal faults
same_fault : (one other : CoreFault) (answer : Result (Unit {0}) CoreFault) → answer ≡ Err one → answer ≡ Err other → one ≡ other
same_fault one other answer is_one is_other = let both = sym is_one ∙ is_other in cc

-- what is told of the answer to a proof over the view of a content in memory
pub judged : (accepts : List ℕ → List ℕ → Bool) (p : Proof) (state seen old : Stored) → state ≡ old → (change : Change) (answer : Result (Unit {0}) CoreFault)
    → (IsTrue true → IsServed p (content_of state)
    → AnswersBy (view_of state) (view_of seen) (refused (refusal_of accepts p (content_of state))) (λ _. IsAdmission p (content_of state) change) answer)
    → ((content_of state).fork < p.fork → IsSome p.upgrade → answer ≡ Err (Refused (NewFork (content_of state).fork)))
    → IfOk answer (λ _. IsLegalChange p (content_of state) change)
    → IfErr answer (λ (fault : CoreFault). IsRefusal fault ⊎ TellsFault (view_of state) (view_of seen) fault)
    → ProofFits p → Judged accepts (content_of old) p change answer
judged accepts p state seen old is change answer answers new_fork legal told fits =
    subst (λ (s : Stored). Judged accepts (content_of s) p change answer) is (record {
      served = λ served. decides state seen state refl (λ (c : Content). refused (refusal_of accepts p c)) (λ (s : Stored) _. IsAdmission p (content_of s) change) answer (answers refl served);
      new_fork = new_fork;
      fits = fits;
      few = few answer legal;
      same = same answer legal;
      other = other answer told;
    })
  where
    few : (given : Result (Unit {0}) CoreFault) → IfOk given (λ _. IsLegalChange p (content_of state) change) → IfOk given (λ _. change.head.length ≤ MAX_BLOCKS)
    few (Ok done) is_legal = is_legal.length
    few (Err fault) is_legal = tt

    same : (given : Result (Unit {0}) CoreFault) → IfOk given (λ _. IsLegalChange p (content_of state) change)
        → IfOk given (λ _. p.upgrade ≡ None → change.roots ≡ roots (content_of state))
    same (Ok done) is_legal = λ none. (is_legal.same none).roots
    same (Err fault) is_legal = tt

    other : (given : Result (Unit {0}) CoreFault) → IfErr given (λ (fault : CoreFault). IsRefusal fault ⊎ TellsFault (view_of state) (view_of seen) fault) → given ≢ Err Memory
    other (Ok done) why same = cc
    other (Err fault) why same = elim why [
      | inl refusal ↦ let memory : fault ≡ Memory = same_fault fault Memory (Err fault) refl same in let clash : Refused refusal.0 ≡ Memory = sym refusal.1 ∙ memory in cc
      | inr tells ↦ no_tell state seen fault tells
    ]

module _ (accepts : List ℕ → List ℕ → Bool) (p : Proof) (m : Content) where
  pub is_served : (change : Change) (done : Unit {0}) → Judged accepts m p change (Ok done) → IsServed p m
  is_served change done judges = elim (cases_lt m.fork p.fork) [ inr no_greater ↦ inl no_greater | inl less ↦ inr (ByUpgrade less p.upgrade refl) ]
    where
      ByUpgrade : m.fork < p.fork → (upgrade : Option UpgradePart) → p.upgrade ≡ upgrade → p.upgrade ≡ None
      ByUpgrade less None up = up
      ByUpgrade less (Some u) up =
          let some : IsSome p.upgrade = subst (λ (upgrade : Option UpgradePart). IsSome upgrade) (sym up) refl in
          let clash : Ok done ≡ Err (Refused (NewFork m.fork)) = judges.new_fork less some in
          cc

  pub unrefused_of : (change : Change) (done : Unit {0}) → Judged accepts m p change (Ok done) → refusal_of accepts p m ≡ None
  unrefused_of change done judges = not_refused_of _ (judges.served (is_served change done judges)).0

  -- the change that it makes
  pub brought : (change : Change) (done : Unit {0}) → IsWhole accepts m → Judged accepts m p change (Ok done) → Brings p m change
  brought change done whole judges =
      let served = is_served change done judges in
      let none = unrefused_of change done judges in
      record {
        accepts = accepts;
        whole = whole;
        fits = judges.fits;
        served = served_fork accepts p m served none;
        none = none;
        admission = (judges.served served).1;
        same = judges.same;
      }

  -- a refused proof changes nothing
  pub admit_fails : (change : Change) (fault : CoreFault) → Judged accepts m p change (Err fault) → Turns accepts m (Admit p) m (Err fault)
  admit_fails change fault judges = record {
    next = inl (record {
      served = λ served. (judges.served served, refl);
      new_fork = λ less some. (let is : fault ≡ Refused (NewFork m.fork) = same_fault fault (Refused (NewFork m.fork)) (Err fault) refl (judges.new_fork less some) in ap Err is, refl);
    });
    history = refl;
    whole = λ whole. whole;
  }

  -- it wants no memory
  pub refused_reserved : (s : Stored) (change : Change) (fault : CoreFault) → content_of s ≡ m → Judged accepts m p change (Err fault) → IsReserved accepts s p
  refused_reserved s change fault is judges served none =
      let refusal = judges.served (subst (λ (c : Content). IsServed p c) is served) in
      let clash : None ≡ Some fault = sym (ap refused (subst (λ (c : Content). refusal_of accepts p c ≡ None) is none)) ∙ refusal in
      cc

-- what a proof brings came in
pub admit_turns : (accepts : List ℕ → List ℕ → Bool) (p : Proof) (m after : Content) (change : Change) (receipt : Receipt) → (b : Brings p m change) → refusal_of accepts p m ≡ None
    → IsWhole accepts m → after ≡ admitted p m → receipt ≡ receipt_of after change.commit → Turns accepts m (Admit p) after (Ok receipt)
admit_turns accepts p m after change receipt b none whole is tells =
    let told = tells ∙ ap (receipt_of after) b.admission.commit in
    let legal = subst (λ (c : Content). KeepsHistory m c (commit_of p m)) (sym is) (admit_history accepts p m whole b.fits b.served none) in
    record {
      next = inl (record {
        served = λ served. (ap refused none, record { content = is; tells = told });
        new_fork = λ less some. absurd (omega (arith, less, b.served));
      });
      history = subst (λ (r : Receipt). KeepsHistory m after r.commit) (sym told) legal;
      whole = λ before. subst (IsWhole accepts) (sym is) (admitted_whole accepts p m before b.fits b.served none);
    }

-- without memory nothing changes
pub admit_no_memory : (accepts : List ℕ → List ℕ → Bool) (p : Proof) (m after : Content) → after ≡ m → Turns accepts m (Admit p) after (Err Memory)
admit_no_memory accepts p m after same = record {
  next = inr (record { fault = Memory; answered = refl; own = refl; content = same });
  history = ap summary_of same;
  whole = λ whole. subst (IsWhole accepts) (sym same) whole;
}

-- memory that was taken for a proof suffices for its change
pub reserved_suffices : (accepts : List ℕ → List ℕ → Bool) (p : Proof) (s : Stored) (change : Change) (done : Unit {0}) → IsWhole accepts (content_of s)
    → Judged accepts (content_of s) p change (Ok done) → IsReserved accepts s p → Suffices s p.block change
reserved_suffices accepts p s change done whole judges reserved =
    let b = brought accepts p (content_of s) change done whole judges in
    room_suffices s p change b.served b.admission (reserved (is_served accepts p (content_of s) change done judges) (unrefused_of accepts p (content_of s) change done judges))

-- and what suffices for the change is memory for the proof
pub change_reserves : (accepts : List ℕ → List ℕ → Bool) (p : Proof) (m : Content) (now : Stored) (change : Change) (done : Unit {0}) → IsWhole accepts m
    → Judged accepts m p change (Ok done) → content_of now ≡ m → Suffices now p.block change → IsReserved accepts now p
change_reserves accepts p m now change done whole judges same suffices served none =
    let b = subst (λ (c : Content). Brings p c change) (sym same) (brought accepts p m change done whole judges) in
    suffices_room now p change b.served b.admission suffices
