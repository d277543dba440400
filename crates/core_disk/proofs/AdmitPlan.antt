-- An admission that is decided over a view is planned.
use Rattle.std.proofs.Common.{◌≡◌, ℕ, Bool, true, ◌<◌, ◌≤◌, inl, inr, List, [], ◌∷◌, Option, Some, None, Result, Ok, Err, refl, sym, ap, subst, ◌∙◌, arith}
use Rattle.std.specs.Prelude.{is_some, ◌⊎◌, IsTrue, IsSome, IfOk, IfErr}
use Rattle.std.specs.List.{AllByRecursion}
use Rattle.std.proofs.lemmas.Bool.{cases_Bool, cases_lt, and_parts, eq-eqb, ne_eqb}
use Rattle.flat_tree.specs.Subtrees.{number}
use Rattle.flat_tree.specs.declared.limits.TheConstants.{MAX_BLOCKS}
use Rattle.flat_tree.proofs.NumberLemmas.{some_number, number_below}
use Rattle.commit_book.specs.declared.commit.Commit.{Commit}
use Rattle.commit_book.specs.declared.commit.Commit.TheVariants.{Append, Truncate, Clear, Fetch, Upgrade, UpgradeFetch, Reorg, ReorgFetch}
use Rattle.commit_book.specs.History.{Summary, IsInRange as CommitInRange}
use Rattle.merkle_nodes.specs.declared.node.Node.{Node}
use Rattle.merkle_nodes.specs.declared.node.Twig.{Twig}
use Rattle.merkle_nodes.specs.declared.roots.Head.{Head}
use Rattle.merkle_nodes.specs.Joined.{Values, or_value}
use Rattle.merkle_nodes.specs.Roots.{twig_of}
use Rattle.oplog_form.specs.Commits.{CommitFits}
use Rattle.oplog_form.specs.Entries.{EntryFits}
use Rattle.proof_form.specs.declared.proof.UpgradePart.{UpgradePart}
use Rattle.proof_form.specs.Proofs.{Proof, Block, ProofFits}
use Rattle.node_set.specs.declared.change.Change.{Change}
use Rattle.node_set.specs.declared.fault.CoreFault.{CoreFault}
use Rattle.node_set.specs.declared.fault.CoreFault.TheVariants.{Refused}
use Rattle.node_set.specs.declared.fault.Refusal.{Refusal}
use Rattle.node_set.specs.declared.fault.Refusal.TheVariants.{NewFork}
use Rattle.node_set.specs.Closure.{IsFullRoot}
use Rattle.node_set.specs.Contents.{Content, held, roots_at, bytes_under, summary_of}
use Rattle.node_set.specs.Legal.{core_limits}
use Rattle.node_set.specs.Nodes.{with_node, with_nodes}
use Rattle.node_set.specs.Offsets.{offset_of}
use Rattle.node_set.specs.Whole.{IsWhole}
use Rattle.node_set.specs.Views.{ViewState, IsUsable, AnswersBy, TellsFault}
use Rattle.node_set.specs.Walks.{KeepsView}
use Rattle.node_set.proofs.AppendLemmas.{all_so}
use Rattle.node_set.proofs.ClosureLemmas.{true_closure}
use Rattle.node_set.proofs.SoundLemmas.{roots_same, stored_value}
use Rattle.proof_check.specs.Upgraded.{with_upgrade}
use Rattle.proof_check.specs.Judge.{refusal_of, admitted}
use Rattle.proof_check.specs.Admission.{Ascends, AllLater, IsServed, IsAdmission, IsRefusal, AreFresh, refused, stays}
use Rattle.proof_check.specs.Reaching.{IsLegalChange, IfPart}
use Rattle.proof_check.proofs.AdmitWhole.{unrefused, goes_on, admitted_whole}
use Rattle.proof_make.proofs.Kept.{told_since}
use Rattle.core_state.proofs.AdmitLemmas.{served_fork}
use Rattle.core_state.proofs.AdmitShows.{put_over, upgrade_stays, block_stays}
use Rattle.core_disk.specs.Areas.{head_of}
use Rattle.core_disk.specs.Opened.{values_in}
use Rattle.core_disk.specs.Written.{entry_with, IsEntryOf}
use Rattle.core_disk.specs.Plans.{Plans, IsEntered, IsAdmitPlan, block_at, brought_by}
use Rattle.core_disk.specs.declared.admitting.Admission.{Admission}
use Rattle.core_disk.specs.Planning.{IsInRange, MayBeRecords, AreRecords, IsJudged, CantBeRecords, GivesOthers, placed}
use Rattle.core_disk.proofs.BlockPlaces.{offset_is_sum, behind_closure}
use Rattle.core_disk.proofs.ChangePlans.{admit_plans, comes_in, sound_below}
use Rattle.core_disk.proofs.NewNodes.{ascends_rise, fresh_entry}

-- ---- what every view leads to

-- a commit in range has a spelling
commit_fits : (commit : Commit) (s : Summary) → s.length ≤ MAX_BLOCKS → CommitInRange core_limits commit s → CommitFits commit
commit_fits (Append count) s few range = omega (arith, range.1)
commit_fits (Truncate to fork) s few range = (omega (arith, range.0, few), omega (arith, range.2))
commit_fits (Clear from to) s few range = (omega (arith, range.0, range.1, few), omega (arith, range.1, few))
commit_fits (Fetch index) s few range = omega (arith, range.0, few)
commit_fits (Upgrade to) s few range = omega (arith, range.1)
commit_fits (UpgradeFetch to index) s few range = (omega (arith, range.0.1), omega (arith, range.0.1, range.1.0))
commit_fits (Reorg fork to kept) s few range = (omega (arith, range.1), (omega (arith, range.2), omega (arith, range.3, few)))
commit_fits (ReorgFetch fork to kept index) s few range =
    ((omega (arith, range.0.1), omega (arith, range.0.2)), (omega (arith, range.0.3, few), omega (arith, range.0.2, range.1.0)))

pub admit_entered : (p : Proof) (v : ViewState) (change : Change) → IsUsable v.content → IsLegalChange p v.content change → AreRecords change
    → IsEntered p v change
admit_entered p v change usable legal records = record {
  legal = legal;
  fits = λ commit is. record {
    commit = commit_fits commit (summary_of v.content) usable.blocks
        (subst (λ (c : Option Commit). IfPart c (λ commit. CommitInRange core_limits commit (summary_of v.content))) is legal.commit);
    head = record { fork = legal.fork; few = legal.length; signature = records.wide };
    records = records.fit;
    order = records.order;
  };
  few = omega (arith, records.few);
}

-- ---- nodes whose numbers ascend

-- later ones leave a number's value
later_keep : (nodes : List Node) (node : Node) (start : Values) (depth offset : ℕ) → AllLater node nodes → node.index ≡ number depth offset
    → with_nodes start nodes depth offset ≡ start depth offset
unfolding with_nodes
later_keep [] node start depth offset later is = refl
later_keep (next ∷ nodes) node start depth offset later is =
    later_keep nodes node (with_node start next) depth offset later.1 is
    ∙ rw (ne_eqb next.index (number depth offset) (λ same. omega (arith, same, is, later.0))) refl

-- each has its own value
own_values : (nodes : List Node) → Ascends nodes
    → AllByRecursion (λ (node : Node). (depth offset : ℕ) → node.index ≡ number depth offset → values_in nodes depth offset ≡ Some (twig_of node)) nodes
unfolding with_nodes
own_values [] order = tt
own_values (first ∷ nodes) order = (
  λ depth offset is. later_keep nodes first (with_node (λ d o. None) first) depth offset order.0 is ∙ rw (eq-eqb first.index (number depth offset) is) refl,
  all_so (λ (node : Node). (depth offset : ℕ) → node.index ≡ number depth offset → values_in nodes depth offset ≡ Some (twig_of node))
      (λ (node : Node). (depth offset : ℕ) → node.index ≡ number depth offset → values_in (first ∷ nodes) depth offset ≡ Some (twig_of node))
      (λ node own depth offset is.
      put_over nodes (with_node (λ d o. None) first) depth offset
      ∙ ap (λ (value : Option Twig). or_value value (with_node (λ d o. None) first depth offset)) (own depth offset is))
      nodes (own_values nodes order.1),
)

-- ---- an admission of a whole content

module _ (accepts : List ℕ → List ℕ → Bool) (p : Proof) (m : Content) (whole : IsWhole accepts m) (fits : ProofFits p) (no_greater : p.fork ≤ m.fork)
    (none : refusal_of accepts p m ≡ None) (fresh : List Node) (order : Ascends fresh) (are : AreFresh p m fresh) where
  abbrev longer : Content
  longer = with_upgrade p m

  abbrev after : Content
  after = admitted p m

  whole_after : IsWhole accepts after
  whole_after = admitted_whole accepts p m whole fits no_greater none

  -- the log doesn't get shorter
  not_shorter : m.length ≤ longer.length
  not_shorter = ByUpgrade p.upgrade refl
    where
      ByUpgrade : (upgrade : Option UpgradePart) → p.upgrade ≡ upgrade → m.length ≤ longer.length
      ByUpgrade None up = let same : longer.length ≡ m.length = rw up refl in omega (arith, same)
      ByUpgrade (Some u) up =
          let open_ = unrefused accepts p m none in
          let on = goes_on p m u up no_greater open_.limit open_.head in
          omega (arith, on.longer, ap (λ (c : Content). c.length) on.after)

  after_length : after.length ≡ longer.length
  after_length = ByBlock p.block refl
    where
      ByBlock : (block : Option Block) → p.block ≡ block → after.length ≡ longer.length
      ByBlock None is = rw is refl
      ByBlock (Some b) is = elim (cases_Bool (held longer b.index)) [ inl here ↦ rw (is, here) refl | inr new ↦ rw (is, new) refl ]

  -- a node that stays keeps its value
  kept : (depth offset : ℕ) → stays p m depth offset ≡ true → is_some (after.node depth offset) ≡ true → m.node depth offset ≡ after.node depth offset
  kept depth offset test some =
      let both = and_parts (is_some (m.node depth offset)) (is_some (longer.node depth offset)) test in
      sym (upgrade_stays accepts p m whole fits no_greater none depth offset both.0 both.1)
      ∙ sym (block_stays accepts p m whole fits no_greater none depth offset both.1 some)

  pub admit_entry : (commit : Commit) → IsEntryOf m commit after (entry_with commit after fresh)
  admit_entry commit =
      fresh_entry m after commit fresh (stays p m) whole.sound (omega (arith, not_shorter, after_length)) (ascends_rise fresh order)
      (λ depth offset test. (and_parts (is_some (m.node depth offset)) (is_some (longer.node depth offset)) test).0) kept are

  -- a node after the admission is among those that come in, or was stored
  over_value : (depth offset : ℕ) (twig : Twig) → after.node depth offset ≡ Some twig → with_nodes m.node fresh depth offset ≡ Some twig
  over_value depth offset twig is =
      put_over fresh m.node depth offset ∙ ap (λ (value : Option Twig). or_value value (m.node depth offset))
      (are depth offset) ∙ (elim (cases_Bool (stays p m depth offset)) [
        | inl test ↦ rw test (kept depth offset test (ap is_some is) ∙ is)
        | inr other ↦ rw (other, is) refl
      ])

  -- so a block that comes in stands behind those before it
  block_place : (b : Block) → held after b.index ≡ true → bytes_under (roots_at (with_nodes m.node fresh) b.index) ≡ offset_of after b.index
  block_place b here =
      let less = sound_below after whole_after.sound b.index here in
      let value = λ (d o : ℕ) (root : IsFullRoot b.index d o).
      stored_value (after.node d o) (whole_after.sound.closed d o ∙ behind_closure after.length (held after) b.index here less d o root) in
      ap bytes_under (roots_same b.index (with_nodes m.node fresh) after.node (λ d o root. over_value d o (value d o root).0 (value d o root).1
      ∙ sym (value d o root).1))
      ∙ sym (offset_is_sum after b.index less)

  pub placed_is : placed fresh p m ≡ brought_by p m
  placed_is = ByBlock p.block refl
    where
      ByBlock : (block : Option Block) → p.block ≡ block → placed fresh p m ≡ brought_by p m
      ByBlock None is = rw is refl
      ByBlock (Some b) is = elim (cases_Bool (held m b.index)) [
        | inl here ↦ rw (is, here) refl
        | inr new ↦
            let at = block_place b (comes_in accepts p m whole fits no_greater none b is) in
            let one : placed fresh p m ≡ Some (record { at = bytes_under (roots_at (with_nodes m.node fresh) b.index); bytes = b.bytes }) = rw (is, new) refl in
            let other : brought_by p m ≡ Some (record { at = offset_of after b.index; bytes = b.bytes }) = rw (is, new) refl in
            one ∙ ap (λ (n : ℕ). Some (record { at = n; bytes = b.bytes })) at ∙ sym other
      ]

  -- the nodes that come in are in their ranges
  pub fresh_may_be : MayBeRecords fresh
  fresh_may_be = (ascends_rise fresh order, all_so _ IsInRange (λ node own. in_range node own) fresh (own_values fresh order))
    where
      in_range : (node : Node) → ((depth offset : ℕ) → node.index ≡ number depth offset → values_in fresh depth offset ≡ Some (twig_of node)) → IsInRange node
      in_range node own =
          let at = some_number node.index in
          let d = at.0 in
          let o = at.1.0 in
          let value = own d o at.1.1 in
          elim (cases_Bool (stays p m d o)) [
            | inl test ↦
                let gone : values_in fresh d o ≡ None = are d o ∙ rw test refl in
                let clash : None ≡ Some (twig_of node) = sym gone ∙ value in
                cc
            | inr other ↦
                let come : values_in fresh d o ≡ after.node d o = are d o ∙ rw other refl in
                let is : after.node d o ≡ Some (twig_of node) = sym come ∙ value in
                let within = (true_closure after.length (held after) d o (sym (whole_after.sound.closed d o) ∙ ap is_some is)).within in
                record {
                  index = omega (arith, at.1.1, number_below d o, within, whole_after.limits.blocks);
                  size = (whole_after.sound.fit d o (twig_of node) is).size;
                }
          ]

-- ---- the plan

module _ (accepts : List ℕ → List ℕ → Bool) (p : Proof) (v : ViewState) (change : Change) (at : Option ℕ) (whole : IsWhole accepts v.content)
    (fits : ProofFits p)
    (no_greater : p.fork ≤ v.content.fork) (none : refusal_of accepts p v.content ≡ None) (is : IsAdmission p v.content change) (entered : IsEntered p v change)
    (at_is : block_at at p.block ≡ placed change.fresh p v.content) where
  abbrev m : Content
  m = v.content

  head_after : change.head ≡ head_of (admitted p m)
  head_after =
      ap (λ (f : ℕ). record { fork = f; length = change.head.length; signature = change.head.signature }) is.fork
      ∙ ap (λ (n : ℕ). record { fork = (admitted p m).fork; length = n; signature = change.head.signature }) is.length
      ∙ ap (λ (s : List ℕ). record { fork = (admitted p m).fork; length = (admitted p m).length; signature = s }) is.signature

  pub admit_planned : IsAdmitPlan accepts p m change at
  admit_planned = record {
    head_is = head_after;
    commit_is = is.commit;
    plans = λ commit told.
        let entry_fits = subst (λ (head : Head). EntryFits (record { commit = commit; head = head; records = change.fresh })) head_after
        (entered.fits commit told) in
        let entry = admit_entry accepts p m whole fits no_greater none change.fresh is.order is.fresh commit in
        let part = at_is ∙ placed_is accepts p m whole fits no_greater none change.fresh is.order is.fresh in
        subst (Plans accepts m commit (admitted p m) (entry_with commit (admitted p m) change.fresh)) (sym part)
        (admit_plans accepts p m whole fits no_greater none commit (entry_with commit (admitted p m) change.fresh) (sym is.commit ∙ told) entry entry_fits);
  }

-- ---- over a view

-- no refusal, told as no fault
not_refused_of : (refusal : Option Refusal) → refused refusal ≡ None → refusal ≡ None
not_refused_of None none = refl
not_refused_of (Some refusal) none = let clash : Some (Refused refusal) ≡ None = none in cc

-- a proof is judged so far unless its upgrade is under a greater fork
pub served_unless : (m : Content) (p : Proof) → (m.fork < p.fork → IsSome p.upgrade → ⊥) → IsServed p m
served_unless m p none = elim (cases_lt m.fork p.fork) [ inr no_greater ↦ inl no_greater | inl less ↦ inr (ByUpgrade less p.upgrade refl) ]
  where
    ByUpgrade : m.fork < p.fork → (upgrade : Option UpgradePart) → p.upgrade ≡ upgrade → p.upgrade ≡ None
    ByUpgrade less None up = up
    ByUpgrade less (Some u) up =
        absurd (none less (subst (λ (upgrade : Option UpgradePart). IsSome upgrade) (sym up) refl))

-- one that wasn't refused for its fork is judged
pub served_by : {T : Type 0} (value : T) (m : Content) (p : Proof)
    → (m.fork < p.fork → IsSome p.upgrade → Ok value ≡ Err (Refused (NewFork m.fork))) → IsServed p m
served_by value m p new_fork =
    served_unless m p (λ less some. let clash : Ok value ≡ Err (Refused (NewFork m.fork)) = new_fork less some in cc)

module _ (accepts : List ℕ → List ℕ → Bool) (p : Proof) (old seen new : ViewState) (change : Change) (judges : IsJudged accepts p old seen (Ok change))
    (keeps : KeepsView seen new) where
  served : IsServed p old.content
  served = served_by change old.content p judges.new_fork

  -- no other answer than what was judged, or a fault that the view told
  pub admit_answers : (answer : Result Admission CoreFault) → IsUsable old.content → IfOk answer (λ (a : Admission). a.change ≡ change)
      → IfOk answer (λ (a : Admission). AreRecords change)
      → (IsTrue seen.stands → IfOk answer (λ (a : Admission). block_at a.at p.block ≡ placed change.fresh p seen.content))
      → IfErr answer (λ (fault : CoreFault). TellsFault seen new fault ⊎ CantBeRecords change.fresh fault)
      → IsTrue old.stands → IsWhole accepts old.content → IsServed p old.content
      → AnswersBy old new (refused (refusal_of accepts p old.content)) (λ (a : Admission). IsAdmitPlan accepts p old.content a.change a.at) answer
  admit_answers (Ok a) usable same records place err stands whole is_served =
      let judged = judges.answers stands is_served in
      let none = not_refused_of (refusal_of accepts p old.content) judged.0 in
      let at = subst (λ (c : Content). block_at a.at p.block ≡ placed change.fresh p c) judges.keeps.keeps.content
      (place (subst IsTrue (sym judges.keeps.keeps.stands) stands)) in
      let planned = admit_planned accepts p old change a.at whole judges.fits (served_fork accepts p old.content is_served none) none judged.1
      (admit_entered p old change usable judges.legal records) at in
      (judged.0, subst (λ (c : Change). IsAdmitPlan accepts p old.content c a.at) (sym same) planned)
  admit_answers (Err fault) usable same records place err stands whole is_served = elim err [
    | inl tells ↦ inr (told_since old seen new fault judges.keeps tells)
    | inr others ↦
        let judged = judges.answers stands is_served in
        let none = not_refused_of (refusal_of accepts p old.content) judged.0 in
        absurd (others.0 (fresh_may_be accepts p old.content whole judges.fits
        (served_fork accepts p old.content is_served none) none change.fresh judged.1.order judged.1.fresh))
  ]

  -- whatever the view gives
  pub admit_entered_by : (answer : Result Admission CoreFault) → IsUsable old.content → IfOk answer (λ (a : Admission). a.change ≡ change)
      → IfOk answer (λ (a : Admission). AreRecords change) → IfOk answer (λ (a : Admission). IsEntered p old a.change)
  admit_entered_by (Ok a) usable same records =
      subst (IsEntered p old) (sym same) (admit_entered p old change usable judges.legal records)
  admit_entered_by (Err fault) usable same records = tt

  pub admit_told : (answer : Result Admission CoreFault) → IfErr answer (λ (fault : CoreFault). TellsFault seen new fault ⊎ CantBeRecords change.fresh fault)
      → IfErr answer (λ (fault : CoreFault). IsRefusal fault ⊎ (TellsFault old new fault ⊎ GivesOthers accepts old fault))
  admit_told (Ok a) err = tt
  admit_told (Err fault) err = elim err [
    | inl tells ↦ inr (inl (told_since old seen new fault judges.keeps tells))
    | inr others ↦ inr (inr (
      (λ stands whole.
          let judged = judges.answers stands served in
          let none = not_refused_of (refusal_of accepts p old.content) judged.0 in
          others.0 (fresh_may_be accepts p old.content whole judges.fits
          (served_fork accepts p old.content served none) none change.fresh judged.1.order judged.1.fresh)),
      others.1,
    ))
  ]
