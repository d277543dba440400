-- The calls of a core in memory.
use Rattle.std.proofs.Common.{◌≡◌, ℕ, Bool, true, ◌<◌, ◌≤◌, List, [], ◌∷◌, length, Option, Some, None, Result, Ok, Err, refl, sym, ap, subst, ◌∙◌, arith, inl, inr}
use Rattle.std.specs.Prelude.{◌⊎◌, is_some, not, false, IsTrue, IfOk}
use Rattle.std.proofs.lemmas.Bool.{lt-ltb, le-ltb, cases_Bool}
use Rattle.outside_traits.specs.Faults.{Rose}
use Rattle.commit_book.specs.declared.commit.Commit.TheVariants.{Append as AppendCommit, Truncate as TruncateCommit, Clear as ClearCommit}
use Rattle.merkle_batch.proofs.NodeLists.{sizes_fit}
use Rattle.node_set.specs.declared.fault.CoreFault.{CoreFault}
use Rattle.node_set.specs.declared.fault.CoreFault.TheVariants.{Memory, OutOfRange, NoReply}
use Rattle.node_set.specs.declared.fault.Receipt.{Receipt}
use Rattle.node_set.specs.Contents.{held, Content, roots, summary_of}
use Rattle.node_set.specs.Changes.{AppendFits, clear_content}
use Rattle.node_set.specs.Offsets.{need_of}
use Rattle.node_set.specs.Views.{IsUsable, TellsFault, AnswersBy}
use Rattle.node_set.specs.Whole.{IsSound, KeepsLimits, IsWhole}
use Rattle.node_set.proofs.SoundLemmas.{stored_value, signed_head}
use Rattle.core_forks.specs.Refusals.{truncate_refusal, clear_refusal}
use Rattle.core_forks.specs.Truncations.{HoldsNone, IsClearing}
use Rattle.commit_book.specs.History.{HoldsSome}
use Rattle.node_set.specs.declared.change.Change.{Change}
use Rattle.node_set.proofs.KeepsWhole.{clear_whole}
use Rattle.core_snap.specs.declared.snapshot.ReadAt.{ReadAt}
use Rattle.core_snap.specs.Reads.{get_of}
use Rattle.core_snap.specs.Causes.{ReadsAs}
use Rattle.proof_form.specs.declared.request.Request.{Request}
use Rattle.proof_form.specs.declared.proof.Proof.{Proof as ProofInMemory}
use Rattle.proof_form.specs.Proofs.{Proof, ProofFits, view as proof_view}
use Rattle.proof_make.specs.Answers.{made_from}
use Rattle.proof_make.specs.Offers.{is_plain}
use Rattle.node_set.specs.Refuses.{refuse_if}
use Rattle.core_state.specs.Events.{Event, Reply, proof_in}
use Rattle.core_state.specs.Events.Event.{Append, Truncate, Clear, Make, Page}
use Rattle.core_state.specs.Events.Reply.{Done, Made, Bits}
use Rattle.bit_field.specs.Pages.{page_of}
use Rattle.core_state.specs.States.{CoreState, receipt_of}
use Rattle.core_state.specs.Refusals.{append_refusal, limit_in, need_answer, or_no_reply, proof_answer}
use Rattle.core_state.specs.Next.{Next, FollowsClear, answer_in}
use Rattle.core_state.specs.Calls.{Acts, Fails, KeepsHistory, IsSafe, commit_in}
use Rattle.core_state.specs.Batches.{Prepares}
use Rattle.core_state.specs.InMemory.{Stored, Owned, content_of, mem_state, view_of}
use Rattle.core_state.specs.Turns.{Turns, Decides, IsSignedAs, Extends, Cuts}
use Rattle.core_state.proofs.HistoryLemmas.{append_history, truncate_history, clear_history}
use Rattle.core_state.proofs.CutLemmas.{truncate_passes}
use Rattle.core_state.proofs.ClearLemmas.{clear_passes}

-- a count of faults that doesn't rise
pub no_fault : Rose 0 0 → ⊥
no_fault rose = omega (arith, rose)

-- a call whose answer follows its event, or that found no memory
pub mem_acts : (accepts : List ℕ → List ℕ → Bool) (m after : Content) (event : Event) (reply : Reply)
    → Next accepts m event after reply ⊎ Fails true (mem_state accepts m) event (mem_state accepts after) reply
    → KeepsHistory m after (commit_in reply) → IsSafe m event reply → IsWhole accepts after
    → Acts true (mem_state accepts m) event (mem_state accepts after) reply
mem_acts accepts m after event reply next history safe whole = record {
  accepts = refl;
  fills = refl;
  faults = omega arith;
  breaks = inl refl;
  next = λ stands. next;
  stands = λ stands unbroken. inl refl;
  whole = λ stands. whole;
  history = history;
  safe = safe;
  broken = λ count none. cc;
}

-- a content that is sound and within the limits can be used
pub sound_usable : (m : Content) → IsSound m → KeepsLimits m → IsUsable m
sound_usable m sound limits = record {
  blocks = limits.blocks;
  fork = limits.fork;
  sizes = sizes_fit (roots m) limits.bytes;
  below = λ index is. let bytes = stored_value (m.block index) is in sound.blocks.below index bytes.0 bytes.1;
}

-- ---- reads

-- what a read put in its place
pub get_next : (m : Content) (index : ℕ) (place : List ℕ) (answer : Result ReadAt CoreFault) (old new : Stored)
    → ReadsAs (view_of old) (view_of new) place (get_of m index) answer → answer_in place answer ≡ get_of m index
get_next m index place (Ok read) old new reads = sym reads
get_next m index place (Err fault) old new reads = elim reads [ inl refused ↦ sym refused | inr failed ↦ absurd (no_fault failed.rose) ]

-- how many siblings a block needs
pub need_next : (m : Content) (index : ℕ) (answer : Result ℕ CoreFault) → index < m.length → answer ≡ Ok (need_of m index) → answer ≡ need_answer m index
need_next m index answer less is = is ∙ rw (lt-ltb index m.length less) refl

pub need_refused : (m : Content) (index : ℕ) → m.length ≤ index → Err (OutOfRange m.length) ≡ need_answer m index
need_refused m index past = rw (le-ltb index m.length past) refl

-- ---- an append

-- without memory nothing changes
no_memory : (accepts : List ℕ → List ℕ → Bool) (m after : Content) (more : List (List ℕ)) → after ≡ m
    → Turns accepts m (Append more) after (Err Memory)
no_memory accepts m after more same = record {
  next = inr (record { fault = Memory; answered = refl; own = refl; content = same });
  history = ap summary_of same;
  whole = λ whole. subst (λ (c : Content). IsWhole accepts c) (sym same) whole;
}

pub append_none : (accepts : List ℕ → List ℕ → Bool) (m : Content) (more : List (List ℕ)) (receipt : Receipt) → length more ≡ 0
    → receipt ≡ receipt_of m None → Turns accepts m (Append more) m (Ok receipt)
unfolding limit_in
append_none accepts m [] receipt none tells = record {
  next = inl (refl, record { content = refl; tells = tells });
  history = rw tells refl;
  whole = λ whole. whole;
}
append_none accepts m (block ∷ more) receipt none tells = absurd (omega (arith, none))

append_refused : (accepts : List ℕ → List ℕ → Bool) (m : Content) (more : List (List ℕ)) (fault : CoreFault) → append_refusal m more ≡ Some fault
    → Turns accepts m (Append more) m (Err fault)
append_refused accepts m more fault is = record { next = inl (is, refl); history = refl; whole = λ whole. whole }

pub append_fails : (accepts : List ℕ → List ℕ → Bool) (m : Content) (more : List (List ℕ)) (fault : CoreFault) → Prepares m more (Err fault)
    → Turns accepts m (Append more) m (Err fault)
append_fails accepts m more Memory is = no_memory accepts m m more refl
append_fails accepts m more fault is = append_refused accepts m more _ is

-- a content that was signed is whole
signed_whole : (accepts : List ℕ → List ℕ → Bool) (changed : List ℕ → Content) (after : Content) → IsSignedAs accepts changed after
    → IsWhole accepts after
signed_whole accepts changed after is = record { sound = is.sound; limits = is.limits; head = inl (signed_head accepts after is.signed) }

pub append_turns : (accepts : List ℕ → List ℕ → Bool) (m after : Content) (more : List (List ℕ)) (receipt : Receipt) (count : ℕ)
    → append_refusal m more ≡ None → AppendFits more m → count ≡ length more → 0 < length more → ((index : ℕ) → held m index ≡ true → index < m.length)
    → receipt ≡ receipt_of after (Some (AppendCommit count)) → Extends accepts m more after → Turns accepts m (Append more) after (Ok receipt)
append_turns accepts m after [] receipt count none fits counted some below tells extends = absurd (omega (arith, some))
append_turns accepts m after (block ∷ more) receipt count none fits counted some below tells extends =
    let all = block ∷ more in
    let commits : receipt ≡ receipt_of after (Some (AppendCommit (length all))) =
    tells ∙ ap (λ (n : ℕ). receipt_of after (Some (AppendCommit n))) counted in
    let legal = append_history m all after.signature below (omega (arith, some)) fits.blocks in
    let legal_after = subst (λ (c : Content). KeepsHistory m c (Some (AppendCommit (length all)))) (sym extends.content) legal in
    record {
      next = inl (none, record { content = extends.content; signed = extends.signed; tells = commits });
      history = subst (λ (r : Receipt). KeepsHistory m after r.commit) (sym commits) legal_after;
      whole = λ whole. signed_whole accepts _ after extends;
    }

-- ---- a change that is refused, or made

-- a view in memory tells no fault
pub no_tell : (old new : Stored) (fault : CoreFault) → TellsFault (view_of old) (view_of new) fault → ⊥
no_tell old new fault tells = no_fault tells.answered

-- a decision over the view of a content in memory
pub decides : {T : Type 0} (state seen old : Stored) → state ≡ old → (refusal : Content → Option CoreFault) → (Gives : Stored → T → Type 0) → (answer : Result T CoreFault)
    → AnswersBy (view_of state) (view_of seen) (refusal (content_of state)) (Gives state) answer → Decides (refusal (content_of old)) (Gives old) answer
decides {T} state seen old is refusal Gives answer answers =
    subst (λ (s : Stored). Decides (refusal (content_of s)) (Gives s) answer) is (by_answer answer answers)
  where
    by_answer : (given : Result T CoreFault) → AnswersBy (view_of state) (view_of seen) (refusal (content_of state)) (Gives state) given
        → Decides (refusal (content_of state)) (Gives state) given
    by_answer (Ok change) gives = gives
    by_answer (Err fault) why = elim why [ inl refused ↦ refused | inr tells ↦ absurd (no_tell state seen fault tells) ]

-- ---- a proof that is asked for

-- the answer to a request over such a view
pub make_answer : (state seen : Stored) (request : Request) (answer : Result ProofInMemory CoreFault) → (is_plain request ≡ false → answer ≡ Err NoReply)
    → (is_plain request ≡ true → AnswersBy (view_of state) (view_of seen) (refuse_if (not (is_some (made_from (content_of state) request))) NoReply)
    (λ (proof : ProofInMemory). Some (proof_view proof) ≡ made_from (content_of state) request) answer)
    → proof_in answer ≡ proof_answer (content_of state) request
make_answer state seen request answer other made = elim (cases_Bool (is_plain request)) [
  | inr apart ↦ rw apart (ap proof_in (other apart))
  | inl plain ↦ rw plain (by_answer answer (made plain))
]
  where
    found : Option Proof
    found = made_from (content_of state) request

    none_is : (proof : Option Proof) (fault : CoreFault) → refuse_if (not (is_some proof)) NoReply ≡ Some fault → Err fault ≡ or_no_reply proof
    none_is None fault is = let same : NoReply ≡ fault = cc in ap Err (sym same)
    none_is (Some proof) fault is = let clash : None ≡ Some fault = is in cc

    by_answer : (given : Result ProofInMemory CoreFault)
        → AnswersBy (view_of state) (view_of seen) (refuse_if (not (is_some (made_from (content_of state) request))) NoReply)
        (λ (proof : ProofInMemory). Some (proof_view proof) ≡ made_from (content_of state) request) given
        → proof_in given ≡ or_no_reply (made_from (content_of state) request)
    by_answer (Ok proof) gives = ap or_no_reply gives.1
    by_answer (Err fault) why = elim why [
      | inl refused ↦ none_is (made_from (content_of state) request) fault refused
      | inr tells ↦ absurd (no_tell state seen fault tells)
    ]

-- a proof that is made is within its ranges
made_safe : (m : Content) (request : Request) (answer : Result ProofInMemory CoreFault) → IfOk answer (λ (proof : ProofInMemory). ProofFits (proof_view proof))
    → IsSafe m (Make request) (Made (proof_in answer))
made_safe m request (Ok proof) fits = fits
made_safe m request (Err fault) fits = tt

-- and no commit
made_rests : (m : Content) (answer : Result ProofInMemory CoreFault) → KeepsHistory m m (commit_in (Made (proof_in answer)))
made_rests m (Ok proof) = refl
made_rests m (Err fault) = refl

pub truncate_fails : (accepts : List ℕ → List ℕ → Bool) (m : Content) (to fork : ℕ) (fault : CoreFault) → truncate_refusal m to fork ≡ Some fault
    → Turns accepts m (Truncate to fork) m (Err fault)
truncate_fails accepts m to fork fault refused = record { next = inl (refused, refl); history = refl; whole = λ whole. whole }

pub truncate_turns : (accepts : List ℕ → List ℕ → Bool) (m after : Content) (to fork : ℕ) (receipt : Receipt) → truncate_refusal m to fork ≡ None
    → receipt ≡ receipt_of after (Some (TruncateCommit to fork)) → Cuts accepts m to fork after → Turns accepts m (Truncate to fork) after (Ok receipt)
truncate_turns accepts m after to fork receipt none tells cuts =
    let passes = truncate_passes m to fork none in
    let legal = truncate_history m to fork after.signature passes.short passes.greater passes.fits in
    let legal_after = subst (λ (c : Content). KeepsHistory m c (Some (TruncateCommit to fork))) (sym cuts.content) legal in
    record {
      next = inl (none, record { content = cuts.content; signed = cuts.signed; tells = tells });
      history = subst (λ (r : Receipt). KeepsHistory m after r.commit) (sym tells) legal_after;
      whole = λ whole. signed_whole accepts _ after cuts;
    }

pub clear_fails : (accepts : List ℕ → List ℕ → Bool) (m : Content) (from to : ℕ) (fault : CoreFault) → clear_refusal m from to ≡ Some fault
    → Turns accepts m (Clear from to) m (Err fault)
clear_fails accepts m from to fault refused = record { next = inl (refused, refl); history = refl; whole = λ whole. whole }

-- where none is held there is no commit
pub clear_none : (accepts : List ℕ → List ℕ → Bool) (m : Content) (from to : ℕ) (change : Change) (receipt : Receipt)
    → clear_refusal m from to ≡ None → IsClearing m from to change → change.commit ≡ None → receipt ≡ receipt_of m None
    → Turns accepts m (Clear from to) m (Ok receipt)
clear_none accepts m from to change receipt refusal clears none tells =
    let holds_none : HoldsNone from to m = elim clears.commit [
      | inl some ↦ let clash : None ≡ Some (ClearCommit from to) = sym none ∙ some.1 in cc
      | inr all ↦ all.0
    ] in
    let rests : FollowsClear m from to m (receipt_of m None) = record { none = holds_none; rests = record { content = refl; tells = refl } } in
    record {
      next = inl (refusal, subst (FollowsClear m from to m) (sym tells) rests);
      history = subst (λ (r : Receipt). KeepsHistory m m r.commit) (sym tells) refl;
      whole = λ whole. whole;
    }

-- where one is, the blocks are given up
pub clear_turns : (accepts : List ℕ → List ℕ → Bool) (m after : Content) (from to : ℕ) (change : Change) (receipt : Receipt)
    → clear_refusal m from to ≡ None → IsClearing m from to change → is_some change.commit ≡ true
    → receipt ≡ receipt_of after (Some (ClearCommit from to)) → after ≡ clear_content from to m → Turns accepts m (Clear from to) after (Ok receipt)
clear_turns accepts m after from to change receipt refusal clears some tells content =
    let holds_some : HoldsSome from to (summary_of m) = elim clears.commit [
      | inl there ↦ there.0
      | inr none ↦ let clash : true ≡ false = sym some ∙ ap is_some none.1 in cc
    ] in
    let range = clear_passes m from to refusal in
    let legal = clear_history m from to range.0 range.1 holds_some in
    let legal_after = subst (λ (c : Content). KeepsHistory m c (Some (ClearCommit from to))) (sym content) legal in
    let gives : FollowsClear m from to after (receipt_of after (Some (ClearCommit from to))) =
    record { some = holds_some; is_clear = refl; content = content; tells = refl } in
    record {
      next = inl (refusal, subst (FollowsClear m from to after) (sym tells) gives);
      history = subst (λ (r : Receipt). KeepsHistory m after r.commit) (sym tells) legal_after;
      whole = λ whole. subst (λ (c : Content). IsWhole accepts c) (sym content) (clear_whole accepts m from to whole);
    }

-- ---- what the core does

-- the state of a core whose parts and authority are told
module _ {A : Type 0} (accepts_of : A → List ℕ → List ℕ → Bool) (inside core : Owned A) (is : inside ≡ core) where
  abbrev state_of : Owned A → CoreState
  state_of owned = mem_state (accepts_of owned.auth) (content_of owned.stored)

  -- a change of the content is one of the core
  pub turns_acts : (after : Content) (event : Event) (answer : Result Receipt CoreFault)
      → Turns (accepts_of inside.auth) (content_of inside.stored) event after answer → IsSafe (content_of inside.stored) event (Done answer)
      → IsWhole (accepts_of inside.auth) (content_of inside.stored)
      → Acts true (state_of core) event (mem_state (accepts_of inside.auth) after) (Done answer)
  turns_acts after event answer turns safe whole =
      subst (λ (old : Owned A). Acts true (state_of old) event (mem_state (accepts_of inside.auth) after) (Done answer)) is
      (mem_acts (accepts_of inside.auth) (content_of inside.stored) after event (Done answer) turns.next turns.history safe (turns.whole whole))

  -- a page was read
  pub page_acts : (number : ℕ) (place : List ℕ) → place ≡ page_of (held (content_of inside.stored)) number
      → IsWhole (accepts_of inside.auth) (content_of inside.stored) → Acts true (state_of core) (Page number) (state_of core) (Bits (Ok place))
  page_acts number place page whole =
      subst (λ (owned : Owned A). Acts true (state_of owned) (Page number) (state_of owned) (Bits (Ok place))) is
      (mem_acts (accepts_of inside.auth) (content_of inside.stored) (content_of inside.stored) (Page number) (Bits (Ok place))
      (inl (refl, ap Ok page)) refl tt whole)

  -- a proof was made
  pub make_acts : (state seen : Stored) (request : Request) (answer : Result ProofInMemory CoreFault) → state ≡ inside.stored
      → (is_plain request ≡ false → answer ≡ Err NoReply)
      → (IsTrue true → is_plain request ≡ true
      → AnswersBy (view_of state) (view_of seen) (refuse_if (not (is_some (made_from (content_of state) request))) NoReply)
      (λ (proof : ProofInMemory). Some (proof_view proof) ≡ made_from (content_of state) request) answer)
      → IfOk answer (λ (proof : ProofInMemory). ProofFits (proof_view proof)) → IsWhole (accepts_of inside.auth) (content_of inside.stored)
      → Acts true (state_of core) (Make request) (state_of core) (Made (proof_in answer))
  make_acts state seen request answer seen_is other made fits whole =
      let m = content_of inside.stored in
      let answers : proof_in answer ≡ proof_answer m request =
      subst (λ (s : Stored). proof_in answer ≡ proof_answer (content_of s) request) seen_is (make_answer state seen request answer other (made refl)) in
      subst (λ (owned : Owned A). Acts true (state_of owned) (Make request) (state_of owned) (Made (proof_in answer))) is
      (mem_acts (accepts_of inside.auth) m m (Make request) (Made (proof_in answer)) (inl (refl, answers)) (made_rests m answer) (made_safe m request answer fits) whole)
