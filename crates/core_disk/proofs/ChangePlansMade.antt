-- The plans of a core's changes, as its events ask for them.
use Rattle.std.proofs.Common.{◌≡◌, ◌≢◌, ◌⊎◌, ℕ, Bool, true, false, ◌<◌, ◌≤◌, List, [], ◌∷◌, length, Option, Some, None, Result, Ok, Err, refl, sym, ap, subst, ◌∙◌, arith, inl, inr}
use Rattle.std.specs.Prelude.{IsTrue, IsSome}
use Rattle.std.specs.List.{concat}
use Rattle.std.proofs.lemmas.Bool.{cases_Bool}
use Rattle.flat_tree.specs.declared.limits.TheConstants.{MAX_BLOCKS}
use Rattle.disk_trait.specs.Disk.{DiskView}
use Rattle.commit_book.specs.declared.commit.Commit.{Commit}
use Rattle.commit_book.specs.declared.commit.Commit.TheVariants.{Append as AppendCommit, Truncate as TruncateCommit, Clear as ClearCommit, Fetch}
use Rattle.merkle_nodes.specs.declared.node.Node.{Node}
use Rattle.merkle_nodes.specs.declared.roots.Head.{Head}
use Rattle.proof_form.specs.declared.proof.UpgradePart.{UpgradePart}
use Rattle.proof_form.specs.Proofs.{Proof, Block}
use Rattle.node_set.specs.declared.fault.CoreFault.{CoreFault}
use Rattle.node_set.specs.declared.fault.CoreFault.TheVariants.{StoreFault, Refused}
use Rattle.node_set.specs.declared.fault.Refusal.TheVariants.{NewFork}
use Rattle.node_set.specs.Contents.{Content, held, roots, bytes_under}
use Rattle.node_set.specs.Changes.{append_content, truncate_content, clear_content, IsSigned}
use Rattle.node_set.specs.Views.{ViewState, TellsFault}
use Rattle.node_set.specs.Whole.{IsWhole}
use Rattle.core_forks.specs.Refusals.{truncate_refusal, clear_refusal}
use Rattle.proof_check.specs.Judge.{refusal_of, admitted, commit_of, commit_by, upgrade_commit, incoming}
use Rattle.proof_check.specs.Upgraded.{with_upgrade}
use Rattle.proof_check.specs.Admission.{IsServed, refused}
use Rattle.core_state.specs.Events.Event.{Append, Truncate, Clear, Admit}
use Rattle.core_state.specs.Events.{Event}
use Rattle.core_state.specs.Events.Reply.{Done}
use Rattle.core_state.specs.States.{receipt_of}
use Rattle.core_state.specs.Refusals.{append_refusal, limit_in}
use Rattle.core_state.specs.Next.{Next}
use Rattle.core_disk.specs.declared.admitting.Admission.{Admission}
use Rattle.core_disk.specs.InHand.{InHand, opened_of}
use Rattle.core_disk.specs.Laid.{IsRooted}
use Rattle.core_disk.specs.Written.{entry_with}
use Rattle.core_disk.specs.Plans.{Part, behind, block_at, IsSignedPlan, IsClearPlan, IsAdmitPlan}
use Rattle.core_disk.specs.Stored.{blocks_area, content_of, planned_view}
use Rattle.core_disk.proofs.AdmitPlan.{served_by}
use Rattle.core_disk.proofs.LaidLemmas.{roots_in}
use Rattle.core_disk.proofs.CoredLemmas.{Stands, Plan, standing}

-- no block changes nothing
pub append_rests : (accepts : List ℕ → List ℕ → Bool) (m : Content) (more : List (List ℕ)) → length more ≡ 0
    → Next accepts m (Append more) m (Done (Ok (receipt_of m None)))
unfolding limit_in
append_rests accepts m [] none = (refl, record { content = refl; tells = refl })
append_rests accepts m (block ∷ more) none = absurd (omega (arith, none))

-- a proof that makes no commit brings nothing
admitted_rests : (p : Proof) (m : Content) → commit_of p m ≡ None → m ≡ admitted p m
admitted_rests p m none = ByUpgrade p.upgrade refl
  where
    ByBlock : p.upgrade ≡ None → (block : Option Block) → p.block ≡ block → m ≡ admitted p m
    ByBlock up None is = rw (up, is) refl
    ByBlock up (Some b) is = elim (cases_Bool (held m b.index)) [
      | inl here ↦ rw (up, is, here) refl
      | inr new ↦
          let fetches : commit_of p m ≡ Some (Fetch b.index) = rw (up, is, new) refl in
          let clash : None ≡ Some (Fetch b.index) = sym none ∙ fetches in
          cc
    ]

    ByUpgrade : (upgrade : Option UpgradePart) → p.upgrade ≡ upgrade → m ≡ admitted p m
    ByUpgrade None up = ByBlock up p.block refl
    ByUpgrade (Some u) up =
        let index = incoming p (with_upgrade p m) in
        let clash : None ≡ Some (upgrade_commit p m u index) = sym none ∙ ap (λ (part : Option UpgradePart). commit_by p m part index) up in
        cc

module _ (accepts : List ℕ → List ℕ → Bool) (disk : DiskView) (hand : InHand) (a : ℕ) (l : Option CoreFault) (f : ℕ) where
  abbrev m : Content
  m = content_of disk hand

  abbrev view : ViewState
  view = planned_view disk hand a l f

  -- a fault that was told, and isn't one of the disk, is the refusal where the core stands
  pub refuses : (new : ViewState) (refusal : Option CoreFault) (fault : CoreFault) → ((refusal ≡ Some fault) ⊎ TellsFault view new fault)
      → Stands accepts disk hand → fault ≢ StoreFault → refusal ≡ Some fault
  refuses new refusal fault why stands other = elim why [
    | inl refused ↦ refused
    | inr tells ↦ absurd (other (tells.stands (standing accepts disk hand stands)))
  ]

  -- a change to the content that a signature gives
  module _ (commit : Commit) (changed : List ℕ → Content) (part : Option Part) (nodes : List Node) (head : Head)
      (plan : IsSignedPlan accepts view commit changed part nodes head) where
    pub signed_few : head.length ≤ MAX_BLOCKS
    signed_few = subst (λ (h : Head). h.length ≤ MAX_BLOCKS) (sym plan.head_is) plan.planned.fits.head.few

    signed_plan : (event : Event)
        → (IsSigned accepts (changed head.signature)
        → Next accepts m event (changed head.signature) (Done (Ok (receipt_of (changed head.signature) (Some commit)))))
        → (records : List Node) → records ≡ nodes → (brings : Option Part) → brings ≡ part
        → Stands accepts disk hand → Plan accepts m (opened_of hand) event (record { commit = commit; head = head; records = records }) brings
    signed_plan event next records is brings brings_is stands =
        let seen = standing accepts disk hand stands in
        let entry : record { commit = commit; head = head; records = records } ≡ entry_with commit (changed head.signature) nodes =
        ap (λ (ns : List Node). record { commit = commit; head = head; records = ns }) is
        ∙ ap (λ (h : Head). record { commit = commit; head = h; records = nodes }) plan.head_is in
        record {
          commit = commit;
          after = changed head.signature;
          plans = rw (entry, brings_is) (plan.planned.plans seen stands.whole);
          next = next (plan.signed seen stands.whole);
        }

  -- an append's blocks come in behind the log's bytes
  pub append_part : (more : List (List ℕ)) → IsRooted (opened_of hand) → (at : ℕ) → at ≡ bytes_under hand.roots → (bytes : List ℕ) → bytes ≡ concat more
      → Some (record { at = at; bytes = bytes }) ≡ Some (behind more m)
  append_part more rooted at at_is bytes bytes_are =
      let roots_are = roots_in (blocks_area disk) (opened_of hand) rooted in
      ap (λ (n : ℕ). Some (record { at = n; bytes = bytes })) (at_is ∙ ap bytes_under (sym roots_are))
      ∙ ap (λ (b : List ℕ). Some (record { at = bytes_under (roots m); bytes = b })) bytes_are

  -- an append
  pub append_plan : (more : List (List ℕ)) (nodes : List Node) (head : Head) → 0 < length more → append_refusal m more ≡ None
      → IsSignedPlan accepts view (AppendCommit (length more)) (λ (signature : List ℕ). append_content more signature m) (Some (behind more m)) nodes head
      → (count : ℕ) → count ≡ length more → (records : List Node) → records ≡ nodes → (part : Option Part) → part ≡ Some (behind more m)
      → Stands accepts disk hand → Plan accepts m (opened_of hand) (Append more) (record { commit = AppendCommit count; head = head; records = records }) part
  append_plan [] nodes head some none plan count counted records is part part_is stands = absurd (omega (arith, some))
  append_plan (block ∷ more) nodes head some none plan count counted records is part part_is stands =
      let all = block ∷ more in
      rw counted (signed_plan (AppendCommit (length all)) (λ (signature : List ℕ). append_content all signature m) (Some (behind all m)) nodes head plan
      (Append all)
      (λ signed. (none, record { content = refl; signed = signed; tells = refl })) records is part part_is stands)

  -- a truncation
  pub truncate_plan : (to fork : ℕ) (nodes : List Node) (head : Head) → truncate_refusal m to fork ≡ None
      → IsSignedPlan accepts view (TruncateCommit to fork) (λ (signature : List ℕ). truncate_content to fork signature m) None nodes head
      → (records : List Node) → records ≡ nodes
      → Stands accepts disk hand
      → Plan accepts m (opened_of hand) (Truncate to fork) (record { commit = TruncateCommit to fork; head = head; records = records }) None
  truncate_plan to fork nodes head none plan records is stands =
      signed_plan (TruncateCommit to fork) (λ (signature : List ℕ). truncate_content to fork signature m) None nodes head plan (Truncate to fork)
      (λ signed. (none, record { content = refl; signed = signed; tells = refl })) records is None refl stands

  -- a clearing
  pub clear_plan : (from to : ℕ) → clear_refusal m from to ≡ None → IsClearPlan view from to true
      → (head : Head) (records : List Node) → head ≡ hand.head → records ≡ []
      → Stands accepts disk hand
      → Plan accepts m (opened_of hand) (Clear from to) (record { commit = ClearCommit from to; head = head; records = records }) None
  clear_plan from to none plan head records head_is is stands =
      let planned = plan accepts in
      let after = clear_content from to m in
      let entry : record { commit = ClearCommit from to; head = head; records = records } ≡ entry_with (ClearCommit from to) after [] =
      ap (λ (ns : List Node). record { commit = ClearCommit from to; head = head; records = ns }) is
      ∙ ap (λ (h : Head). record { commit = ClearCommit from to; head = h; records = [] }) head_is in
      record {
        commit = ClearCommit from to;
        after = after;
        plans = rw entry (planned.plans (standing accepts disk hand stands) stands.whole);
        next = (none, record { some = planned.legal.0.0.2; is_clear = refl; content = refl; tells = refl });
      }

  -- one of blocks of which none is held changes nothing
  pub clear_rests : (from to : ℕ) → clear_refusal m from to ≡ None → IsClearPlan view from to false
      → Next accepts m (Clear from to) m (Done (Ok (receipt_of m None)))
  clear_rests from to unrefused none = (unrefused, record { none = none; rests = record { content = refl; tells = refl } })

  -- a proof that a plan was made for
  module _ (p : Proof) where
    -- an upgrade under a greater fork is refused
    abbrev TellsNewFork : Result Admission CoreFault → Type 0
    TellsNewFork answer = m.fork < p.fork → IsSome p.upgrade → answer ≡ Err (Refused (NewFork m.fork))

    -- one that is refused changes nothing
    pub admit_refused : (new : ViewState) (fault : CoreFault)
        → (IsTrue view.stands → IsWhole accepts m → IsServed p m → (refused (refusal_of accepts p m) ≡ Some fault) ⊎ TellsFault view new fault)
        → TellsNewFork (Err fault) → Stands accepts disk hand → fault ≢ StoreFault → Next accepts m (Admit p) m (Done (Err fault))
    admit_refused new fault told new_fork stands other = record {
      served = λ served. (
        refuses new (refused (refusal_of accepts p m)) fault
            (told (standing accepts disk hand stands) stands.whole served) stands other,
        refl,
      );
      new_fork = λ less some. let is : fault ≡ Refused (NewFork m.fork) = same_fault (Err fault) refl (new_fork less some) in (ap Err is, refl);
    }
      where
        same_fault : (answer : Result Admission CoreFault) → answer ≡ Err fault → answer ≡ Err (Refused (NewFork m.fork)) → fault ≡ Refused (NewFork m.fork)
        same_fault answer is_one is_other = let both = sym is_one ∙ is_other in cc

    module _ (planned : Admission)
        (told : IsTrue view.stands → IsWhole accepts m → IsServed p m
        → (refused (refusal_of accepts p m) ≡ None) × IsAdmitPlan accepts p m planned.change planned.at)
        (new_fork : TellsNewFork (Ok planned)) where
      made : Stands accepts disk hand → (refused (refusal_of accepts p m) ≡ None) × IsAdmitPlan accepts p m planned.change planned.at
      made stands = told (standing accepts disk hand stands) stands.whole (served_by planned m p new_fork)

      -- an admission
      pub admit_plan : (commit : Commit) → planned.change.commit ≡ Some commit → (records : List Node) → records ≡ planned.change.fresh
          → (part : Option Part) → part ≡ block_at planned.at p.block → Stands accepts disk hand
          → Plan accepts m (opened_of hand) (Admit p) (record { commit = commit; head = planned.change.head; records = records }) part
      admit_plan commit some records is part part_is stands =
          let plan = (made stands).1 in
          let after = admitted p m in
          let entry : record { commit = commit; head = planned.change.head; records = records } ≡ entry_with commit after planned.change.fresh =
          ap (λ (ns : List Node). record { commit = commit; head = planned.change.head; records = ns }) is
          ∙ ap (λ (h : Head). record { commit = commit; head = h; records = planned.change.fresh }) plan.head_is in
          record {
            commit = commit;
            after = after;
            plans = rw (entry, part_is) (plan.plans commit some);
            next = record {
              served = λ served. ((made stands).0, record { content = refl; tells = ap (receipt_of after) (sym some ∙ plan.commit_is) });
              new_fork = λ less upgrade. let clash : Ok planned ≡ Err (Refused (NewFork m.fork)) = new_fork less upgrade in cc;
            };
          }

      -- one that brings nothing changes nothing
      pub admit_rests : planned.change.commit ≡ None → Stands accepts disk hand → Next accepts m (Admit p) m (Done (Ok (receipt_of m None)))
      admit_rests none stands =
          let commit = sym (made stands).1.commit_is ∙ none in
          record {
            served = λ served. ((made stands).0, record { content = admitted_rests p m commit; tells = ap (receipt_of m) (sym commit) });
            new_fork = λ less upgrade. let clash : Ok planned ≡ Err (Refused (NewFork m.fork)) = new_fork less upgrade in cc;
          }
