-- What a core over a disk tells without changing it.
use Rattle.std.proofs.Common.{◌≡◌, ◌⊎◌, inl, inr, ℕ, Bool, true, false, ◌<◌, ◌≤◌, List, length, take, Option, Some, None, Result, Ok, Err, refl, sym, ap, ◌∙◌, arith}
use Rattle.std.specs.Prelude.{IsTrue, IfOk, is_some, not}
use Rattle.std.proofs.lemmas.Bool.{cases_Bool, lt-ltb, le-ltb}
use mathlib.Core.Path.{fun_ext}
use Rattle.bit_field.specs.Places.{has, count_below, AllHave}
use Rattle.bit_field.specs.Pages.{page_of}
use Rattle.bit_field.proofs.Counts.{count_below-unset}
use Rattle.flat_tree.specs.declared.limits.TheConstants.{MAX_SIBLINGS}
use Rattle.disk_trait.specs.Disk.{DiskView}
use Rattle.commit_book.specs.declared.commit.Commit.{Commit}
use Rattle.merkle_nodes.specs.declared.limit.Info.{Info}
use Rattle.merkle_nodes.specs.Fold.{Proves}
use Rattle.merkle_nodes.specs.Roots.{root_hash_of}
use Rattle.node_set.specs.declared.fault.CoreFault.{CoreFault}
use Rattle.node_set.specs.declared.fault.CoreFault.TheVariants.{StoreFault, OutOfRange, NoReply}
use Rattle.node_set.specs.declared.fault.Receipt.{Receipt}
use Rattle.node_set.specs.Contents.{Content, held, roots, bytes_under}
use Rattle.node_set.specs.Offsets.{need_of}
use Rattle.node_set.specs.Views.{ViewState, KeepsContent, HasViewCause, AnswersBy}
use Rattle.node_set.specs.Walks.{KeepsView}
use Rattle.node_set.specs.Refuses.{refuse_if}
use Rattle.core_snap.specs.declared.snapshot.ReadAt.{ReadAt}
use Rattle.core_snap.specs.Reads.{get_of}
use Rattle.core_snap.specs.Causes.{ReadsAs}
use Rattle.proof_form.specs.declared.request.Request.{Request}
use Rattle.proof_form.specs.declared.proof.Proof.{Proof as ProofInMemory}
use Rattle.proof_form.specs.Proofs.{Proof, ProofFits, view as proof_view}
use Rattle.proof_make.specs.Answers.{made_from}
use Rattle.proof_make.specs.Offers.{is_plain}
use Rattle.core_state.specs.Events.{proof_in}
use Rattle.core_state.specs.Events.Event.{Get, Need, Page, Make}
use Rattle.core_state.specs.Events.Reply.{Read, Number, Bits, Made}
use Rattle.core_state.specs.States.{info_of, receipt_of}
use Rattle.core_state.specs.Refusals.{or_no_reply}
use Rattle.core_state.specs.Next.{Next, answer_in}
use Rattle.core_state.specs.Calls.{Acts, Fails, IsSafe, commit_in}
use Rattle.core_disk.specs.InHand.{InHand, IsKept, opened_of}
use Rattle.core_disk.specs.Laid.{IsRooted}
use Rattle.core_disk.specs.Stored.{blocks_area, content_of, is_standing, stored_view}
use Rattle.core_disk.specs.Cored.{core_state}
use Rattle.core_disk.proofs.LaidLemmas.{roots_in, held_in}
use Rattle.core_disk.proofs.StoreLemmas.{same_content}
use Rattle.core_disk.proofs.CoredLemmas.{read_acts}

-- ---- in short

abbrev info_with : ℕ → ℕ → ℕ → ℕ → List ℕ → Info
info_with fork blocks bytes count root = record { fork = fork; length = blocks; bytes = bytes; held = count; root = root }

abbrev receipt_with : ℕ → ℕ → List ℕ → Option Commit → Receipt
receipt_with fork blocks root commit = record { fork = fork; length = blocks; root = root; commit = commit }

module _ (disk : DiskView) (hand : InHand) (kept : IsKept hand) (rooted : IsRooted (opened_of hand)) where
  roots_are : hand.roots ≡ roots (content_of disk hand)
  roots_are = sym (roots_in (blocks_area disk) (opened_of hand) rooted)

  held_count : count_below (has hand.held) (length hand.held) ≡ count_below (held (content_of disk hand)) hand.head.length
  held_count =
      count_below-unset (has hand.held) hand.head.length (length hand.held) (omega (arith, kept.places, kept.blocks)) no_place
      ∙ ap (λ (bits : ℕ → Bool). count_below bits hand.head.length) (fun_ext (λ index. sym (held_in (blocks_area disk) (opened_of hand) index)))
    where
      no_place : AllHave false hand.head.length (length hand.held) (has hand.held)
      no_place index past within = elim (cases_Bool (has hand.held index)) [
        | inl here ↦ absurd (omega (arith, past, kept.spare index here))
        | inr none ↦ none
      ]

  pub info_in : (bytes count : ℕ) (root : List ℕ) → bytes ≡ bytes_under hand.roots → count ≡ count_below (has hand.held) (length hand.held)
      → root ≡ root_hash_of hand.roots → info_with hand.head.fork hand.head.length bytes count root ≡ info_of (content_of disk hand)
  info_in bytes count root bytes_are count_is root_is =
      let m = content_of disk hand in
      let info = λ (bytes count : ℕ) (root : List ℕ). info_with m.fork m.length bytes count root in
      ap (λ (b : ℕ). info b count root) (bytes_are ∙ ap bytes_under roots_are)
      ∙ ap (λ (k : ℕ). info (bytes_under (roots m)) k root) (count_is ∙ held_count)
      ∙ ap (info (bytes_under (roots m)) (count_below (held m) m.length)) (root_is ∙ ap root_hash_of roots_are)

  pub receipt_in : (commit : Option Commit) (root : List ℕ) → root ≡ root_hash_of hand.roots
      → receipt_with hand.head.fork hand.head.length root commit ≡ receipt_of (content_of disk hand) commit
  receipt_in commit root root_is = ap (λ (r : List ℕ). receipt_with hand.head.fork hand.head.length r commit) (root_is ∙ ap root_hash_of roots_are)

-- ---- reads

-- a view whose content stays, and whose counts didn't fall
pub view_keeps : (old new : ViewState) → KeepsContent old new → old.faults ≤ new.faults → old.answered ≤ new.answered → KeepsView old new
view_keeps old new content faults answered = record { keeps = content; faults = faults; answered = answered }

module _ (accepts : List ℕ → List ℕ → Bool) (old new : DiskView) (hand after : InHand) (a b : ℕ) (l k : Option CoreFault) (kept : IsKept hand)
    (keeps : KeepsView (stored_view old hand a l) (stored_view new after b k)) where
  pub get_acts : (index : ℕ) (place : List ℕ) (answer : Result ReadAt CoreFault)
      → IfOk answer (λ (read : ReadAt). Proves (content_of old hand).length (roots (content_of old hand)) index (take read.len place) read.trail)
      → (IsTrue (is_standing old hand) → ReadsAs (stored_view old hand a l) (stored_view new after b k) place (get_of (content_of old hand) index) answer)
      → Acts true (core_state accepts old hand None) (Get index) (core_state accepts new after None) (Read (answer_in place answer))
  get_acts index place (Ok read) proved reads =
      read_acts accepts old new hand after a b l k (Get index) (Read (answer_in place (Ok read))) kept keeps refl (λ stands. inl (refl, sym (reads stands))) proved
  get_acts index place (Err fault) proved reads =
      read_acts accepts old new hand after a b l k (Get index) (Read (answer_in place (Err fault))) kept keeps refl (λ stands. elim (reads stands) [
        | inl refused ↦ inl (refl, sym refused)
        | inr failed ↦ inr (record {
          fault = fault;
          answered = refl;
          own = rw (failed.fault_is) failed.rose;
          content = keeps.keeps.content;
        })
      ]) tt

  -- how many siblings a block needs
  pub need_acts : (index : ℕ) (answer : Result ℕ CoreFault) → index < (content_of old hand).length → IfOk answer (λ levels. levels ≤ MAX_SIBLINGS)
      → (IsTrue (is_standing old hand) → IfOk answer (λ levels. levels ≡ need_of (content_of old hand) index))
      → HasViewCause (stored_view old hand a l) (stored_view new after b k) answer
      → Acts true (core_state accepts old hand None) (Need index) (core_state accepts new after None) (Number answer)
  need_acts index (Ok levels) within few need cause =
      read_acts accepts old new hand after a b l k (Need index) (Number (Ok levels)) kept keeps refl
      (λ stands. inl (refl, ap Ok (need stands) ∙ rw (lt-ltb index (content_of old hand).length within) refl)) few
  need_acts index (Err fault) within few need cause =
      read_acts accepts old new hand after a b l k (Need index) (Number (Err fault)) kept keeps refl (λ stands.
      let store = cause.told.stands stands in
      inr (record { fault = fault; answered = refl; own = rw store (cause.told.cause store); content = keeps.keeps.content })) tt

  -- the answer to a request
  pub make_acts : (request : Request) (answer : Result ProofInMemory CoreFault) → (is_plain request ≡ false → answer ≡ Err NoReply)
      → (IsTrue (is_standing old hand) → is_plain request ≡ true
      → AnswersBy (stored_view old hand a l) (stored_view new after b k) (refuse_if (not (is_some (made_from (content_of old hand) request))) NoReply)
      (λ (proof : ProofInMemory). Some (proof_view proof) ≡ made_from (content_of old hand) request) answer)
      → IfOk answer (λ (proof : ProofInMemory). ProofFits (proof_view proof))
      → Acts true (core_state accepts old hand None) (Make request) (core_state accepts new after None) (Made (proof_in answer))
  make_acts request answer other made fits =
      read_acts accepts old new hand after a b l k (Make request) (Made (proof_in answer)) kept keeps (rests answer)
      (λ stands. follows stands answer other (made stands)) (safe answer fits)
    where
      m : Content
      m = content_of old hand

      found : Option Proof
      found = made_from m request

      rests : (given : Result ProofInMemory CoreFault) → commit_in (Made (proof_in given)) ≡ None
      rests (Ok proof) = refl
      rests (Err fault) = refl

      safe : (given : Result ProofInMemory CoreFault) → IfOk given (λ (proof : ProofInMemory). ProofFits (proof_view proof))
          → IsSafe m (Make request) (Made (proof_in given))
      safe (Ok proof) fit = fit
      safe (Err fault) fit = tt

      none_is : (proof : Option Proof) (fault : CoreFault) → refuse_if (not (is_some proof)) NoReply ≡ Some fault → Err fault ≡ or_no_reply proof
      none_is None fault is = let same : NoReply ≡ fault = cc in ap Err (sym same)
      none_is (Some proof) fault is = let clash : None ≡ Some fault = is in cc

      plain_follows : IsTrue (is_standing old hand) → (given : Result ProofInMemory CoreFault) → is_plain request ≡ true
          → AnswersBy (stored_view old hand a l) (stored_view new after b k) (refuse_if (not (is_some found)) NoReply)
          (λ (proof : ProofInMemory). Some (proof_view proof) ≡ found) given
          → Next accepts m (Make request) m (Made (proof_in given))
          ⊎ Fails true (core_state accepts old hand None) (Make request) (core_state accepts new after None) (Made (proof_in given))
      plain_follows stands (Ok proof) plain gives = inl (refl, rw plain (ap or_no_reply gives.1))
      plain_follows stands (Err fault) plain why = elim why [
        | inl refused ↦ inl (refl, rw plain (none_is found fault refused))
        | inr tells ↦
            let store : fault ≡ StoreFault = tells.stands stands in
            inr (record { fault = fault; answered = refl; own = rw store (tells.cause store); content = keeps.keeps.content })
      ]

      follows : IsTrue (is_standing old hand) → (given : Result ProofInMemory CoreFault) → (is_plain request ≡ false → given ≡ Err NoReply)
          → (is_plain request ≡ true → AnswersBy (stored_view old hand a l) (stored_view new after b k) (refuse_if (not (is_some found)) NoReply)
          (λ (proof : ProofInMemory). Some (proof_view proof) ≡ found) given)
          → Next accepts m (Make request) m (Made (proof_in given))
          ⊎ Fails true (core_state accepts old hand None) (Make request) (core_state accepts new after None) (Made (proof_in given))
      follows stands given apart gives = elim (cases_Bool (is_plain request)) [
        | inl plain ↦ plain_follows stands given plain (gives plain)
        | inr other ↦ inl (refl, rw other (ap proof_in (apart other)))
      ]

-- ---- without a call of the disk

module _ (accepts : List ℕ → List ℕ → Bool) (disk : DiskView) (hand : InHand) (kept : IsKept hand) where
  pub same_view : (a : ℕ) (l : Option CoreFault) → KeepsView (stored_view disk hand a l) (stored_view disk hand a l)
  same_view a l = record { keeps = same_content disk hand a a l l; faults = omega arith; answered = omega arith }

  -- an index past the end
  pub need_refused_acts : (index : ℕ) → hand.head.length ≤ index
      → Acts true (core_state accepts disk hand None) (Need index) (core_state accepts disk hand None) (Number (Err (OutOfRange hand.head.length)))
  need_refused_acts index past =
      read_acts accepts disk disk hand hand 0 0 None None (Need index) (Number (Err (OutOfRange hand.head.length))) kept (same_view 0 None) refl
      (λ stands. inl (refl, rw (le-ltb index hand.head.length past) refl)) tt

  -- a page
  pub page_acts : (number : ℕ) (place : List ℕ) → place ≡ page_of (has hand.held) number
      → Acts true (core_state accepts disk hand None) (Page number) (core_state accepts disk hand None) (Bits (Ok place))
  page_acts number place page =
      let held_are = fun_ext (λ (index : ℕ). sym (held_in (blocks_area disk) (opened_of hand) index)) in
      read_acts accepts disk disk hand hand 0 0 None None (Page number) (Bits (Ok place)) kept (same_view 0 None) refl
      (λ stands. inl (refl, ap Ok (page ∙ ap (λ (bits : ℕ → Bool). page_of bits number) held_are))) tt
