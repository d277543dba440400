-- A clearing of a core.
use Rattle.std.proofs.Common.{◌≡◌, ℕ, Bool, true, false, ◌≤◌, inl, inr, List, [], Option, Some, None, refl, sym, ap, subst, ◌∙◌, arith}
use Rattle.std.specs.Prelude.{Result, Ok, Err, IsTrue, IfOk, MatchResult, is_some, is_none, not, ◌&&◌, nat_le, nat_lt}
use Rattle.std.proofs.lemmas.Bool.{cases_Bool, and_parts, leb-true, ltb-true}
use mathlib.Core.Path.{fun_ext}
use Rattle.commit_book.specs.declared.commit.Commit.{Commit}
use Rattle.commit_book.specs.declared.commit.Commit.TheVariants.{Clear as ClearCommit}
use Rattle.commit_book.specs.History.{MayFollow, entry_of}
use Rattle.merkle_nodes.specs.declared.roots.Head.{Head}
use Rattle.merkle_nodes.specs.declared.node.Node.{Node}
use Rattle.merkle_nodes.specs.Roots.{root_hash_of}
use Rattle.node_set.specs.declared.fault.CoreFault.{CoreFault}
use Rattle.node_set.specs.declared.fault.CoreFault.TheVariants.{OutOfRange}
use Rattle.node_set.specs.declared.fault.Receipt.{Receipt}
use Rattle.node_set.specs.Contents.{Content, Blocks, Values, held, roots, summary_of}
use Rattle.node_set.specs.Closure.{in_closure}
use Rattle.node_set.specs.Legal.{core_limits, KeepsHistory}
use Rattle.node_set.specs.Refuses.{refuse_if}
use Rattle.node_set.specs.Whole.{IsSound, KeepsLimits, IsWhole}
use Rattle.node_set.specs.Changes.{clear_content, closed, content_on, blocks_without}
use Rattle.node_set.proofs.KeepsWhole.{clear_whole}
use Rattle.node_set.proofs.RootTruth.{some_or_none}
use Rattle.node_set.proofs.SoundLemmas.{roots_shape, closed_in, closed_out}
use Rattle.node_set.proofs.Stored.{some_same}
use Rattle.core_forks.specs.Refusals.{clear_refusal}
use Rattle.core_forks.specs.Truncations.{HoldsNone, ClearsWhere}
use Rattle.log_view.specs.Views.{Source, ViewState, Keeps, IsUsable}
use Rattle.log_change.specs.declared.change.LogChange.{LogChange}
use Rattle.log_change.specs.LogChange.{IsChange, MayCommit}
use Rattle.log_change.specs.Calls.{clearing}
use Rattle.log_change.proofs.Applied.{leads_to}
use Rattle.log_core.specs.Events.Event.{Clear}
use Rattle.log_core.specs.Events.Reply.{Done}
use Rattle.log_core.specs.States.{core_of, receipt_of, Stands, BreaksBy}
use Rattle.log_core.specs.Logs.{Fits, Leads, Applied, Applies}
use Rattle.log_core.specs.Next.{Next}
use Rattle.log_core.specs.Acts.{HasReason, Acts}
use Rattle.log_core.proofs.ReadLemmas.{read_acts}
use Rattle.log_core.proofs.ChangeLemmas.{history_as, leads_from, commit_acts}
use Rattle.log_core.proofs.CutLemmas.{any, kept_whole, not_refused}

not-false : (test : Bool) → not test ≡ false → test ≡ true
not-false true is = refl
not-false false is = cc

-- a clearing that isn't refused is of an ordered range within the log
pub clear_passes : (m : Content) (from to : ℕ) → clear_refusal m from to ≡ None → (from ≤ to) × (to ≤ m.length)
clear_passes m from to none =
    let within = not-false (nat_le from to && nat_le to m.length) (not_refused _ _ none) in
    let both = and_parts (nat_le from to) (nat_le to m.length) within in
    (leb-true from to both.0, leb-true to m.length both.1)

refused_is : (test : Bool) (one fault : CoreFault) → refuse_if test one ≡ Some fault → fault ≡ one
refused_is true one fault is = sym (some_same _ _ is)
refused_is false one fault is = cc

pub none_of : {A : Type 0} (found : Option A) → is_none found ≡ true → found ≡ None
none_of None is = refl
none_of (Some x) is = cc

-- ---- nothing to clear

abbrev on_blocks : Content → Blocks → Values → Content
on_blocks m block node = record { fork = m.fork; length = m.length; signature = m.signature; block = block; node = node }

-- where none of the blocks is held, a sound content stays
pub nothing_cleared : (m : Content) (from to : ℕ) → IsSound m → HoldsNone from to m → clear_content from to m ≡ m
nothing_cleared m from to sound none =
    let blocks : blocks_without from to m.block ≡ m.block = fun_ext same_block in
    let nodes : closed m.length m.block m.node ≡ m.node = fun_ext (λ d. fun_ext (λ o. same_node d o)) in
    ap (λ (block : Blocks). content_on m.fork m.length m.signature block m.node) blocks ∙ ap (on_blocks m m.block) nodes
  where
    same_block : (index : ℕ) → blocks_without from to m.block index ≡ m.block index
    same_block index = elim (cases_Bool (nat_le from index && nat_lt index to)) [
      | inr kept ↦ rw kept refl
      | inl inside ↦ elim (some_or_none (m.block index)) [
        | inr gone ↦ rw inside (sym gone)
        | inl some ↦
            let parts = and_parts (nat_le from index) (nat_lt index to) inside in
            let clash : true ≡ false = sym (ap is_some some.1) ∙ none index (leb-true from index parts.0) (ltb-true index to parts.1) in
            cc
      ]
    ]

    same_node : (d o : ℕ) → closed m.length m.block m.node d o ≡ m.node d o
    same_node d o = elim (cases_Bool (in_closure m.length (held m) d o)) [
      | inl inside ↦ closed_in m.length m.block m.node d o inside
      | inr outside ↦ elim (some_or_none (m.node d o)) [
        | inr gone ↦ closed_out m.length m.block m.node d o outside ∙ sym gone
        | inl some ↦ let clash : true ≡ false = sym (ap is_some some.1) ∙ sound.closed d o ∙ outside in cc
      ]
    ]

-- ---- what was decided

pub record Planned (s : Source) (from to : ℕ) (plan : LogChange) (root : List ℕ) : Type 0 where
  pub passes : clear_refusal s.content from to ≡ None
  pub plan_is : plan ≡ clearing s.content from to plan.commit
  pub where_held : ClearsWhere from to s.content plan.commit
  pub leads : IsChange s.content (clear_content from to s.content) plan.commit [] [] plan
  pub legal : KeepsHistory s.content (clear_content from to s.content) plan.commit
  pub root_is : root ≡ root_hash_of (roots s.content)

still : (v : ViewState) → Keeps v v
still v = record { source = refl; later = omega arith; faults = omega arith; answered = omega arith }

module _ (takes : Bool) (v : ViewState) (accepts : List ℕ → List ℕ → Bool) (fills : Bool) (broken : Option ℕ) (none : broken ≡ None) (from to : ℕ) where
  abbrev m : Content
  m = v.source.content

  pub clear_refused : (fault : CoreFault) → clear_refusal m from to ≡ Some fault
      → Acts takes (core_of v accepts fills broken) (Clear from to) (core_of v accepts fills broken) (Done (Err fault))
  clear_refused fault is =
      let past = refused_is (not (nat_le from to && nat_le to m.length)) (OutOfRange m.length) fault is in
      let reason = λ (f : CoreFault). HasReason takes (core_of v accepts fills broken) (Clear from to) (core_of v accepts fills broken) f in
      read_acts takes v v accepts fills broken none (still v) (Clear from to) (Done (Err fault)) tt refl
      (subst reason (sym past) (inl (is ∙ ap Some past))) tt (λ stands. inl (is, refl))

  -- none of the blocks is held
  pub clear_nothing : (plan : LogChange) (root : List ℕ) → Planned v.source from to plan root → plan.commit ≡ None → (receipt : Receipt)
      → receipt ≡ record { fork = plan.head.fork; length = plan.head.length; root = root; commit = plan.commit }
      → Acts takes (core_of v accepts fills broken) (Clear from to) (core_of v accepts fills broken) (Done (Ok receipt))
  clear_nothing plan root planned no_commit receipt is =
      read_acts takes v v accepts fills broken none (still v) (Clear from to) (Done (Ok receipt)) tt nothing tt safe
      (λ stands. inl (
        planned.passes,
        record {
          commit = subst (ClearsWhere from to m) (sym commit_is) planned.where_held;
          becomes = record { content = sym (nothing_cleared m from to stands.whole.sound held_none); returns = safe };
        },
      ))
    where
      commit_is : receipt.commit ≡ plan.commit
      commit_is = ap (λ (r : Receipt). r.commit) is

      nothing : receipt.commit ≡ None
      nothing = commit_is ∙ no_commit

      held_none : HoldsNone from to m
      held_none = elim planned.where_held [
        | inl some ↦ let clash : None ≡ Some (ClearCommit from to) = sym no_commit ∙ some.1 in cc
        | inr none ↦ none.0
      ]

      safe : receipt ≡ receipt_of m receipt.commit
      safe =
          is ∙ ap (λ (c : LogChange). record { fork = c.head.fork; length = c.head.length; root = root; commit = plan.commit }) planned.plan_is
          ∙ ap (λ (r : List ℕ). record { fork = m.fork; length = m.length; root = r; commit = plan.commit }) planned.root_is
          ∙ ap (receipt_of m) (sym commit_is)

  module _ (plan : LogChange) (root : List ℕ) (planned : Planned v.source from to plan root) (there : is_none plan.commit ≡ false) where
    commit_is : plan.commit ≡ Some (ClearCommit from to)
    commit_is = elim planned.where_held [
      | inl some ↦ some.1
      | inr gone ↦ let clash : true ≡ false = sym (ap is_none gone.1) ∙ there in cc
    ]

    abbrev cleared : LogChange
    cleared = clearing m from to (Some (ClearCommit from to))

    plan_cleared : plan ≡ cleared
    plan_cleared = planned.plan_is ∙ ap (clearing m from to) commit_is

    legal : KeepsHistory m (clear_content from to m) (Some (ClearCommit from to))
    legal = subst (KeepsHistory m (clear_content from to m)) commit_is planned.legal

    leads : IsChange m (clear_content from to m) (Some (ClearCommit from to)) [] [] cleared
    leads =
        subst (λ (c : LogChange). IsChange m (clear_content from to m) (Some (ClearCommit from to)) [] [] c) plan_cleared
        (subst (λ (c : Option Commit). IsChange m (clear_content from to m) c [] [] plan) commit_is planned.leads)

    may : MayCommit m cleared
    may = subst (λ (ns : List Node). MayFollow core_limits (summary_of m) (entry_of (ClearCommit from to) (root_hash_of ns))) (sym leads.roots_are) legal.0

    pub clear_fits : IsUsable m → Fits m plan root []
    clear_fits usable =
        let ordered = clear_passes m from to planned.passes in
        subst (λ (c : LogChange). Fits m c root []) (sym plan_cleared) (fits usable ordered)
      where
        fits : IsUsable m → (from ≤ to) × (to ≤ m.length) → Fits m cleared root []
        fits usable ordered = record {
          blocks = usable.blocks;
          fork = usable.fork;
          shape = roots_shape m.node m.length;
          sizes = usable.sizes;
          root_is = planned.root_is;
          count = refl;
          come_within = omega arith;
          gone_ordered = ordered.0;
          gone_within = ordered.1;
          cut = λ index held past. absurd (omega (arith, usable.below index held, past));
          committed = refl;
          legal = may;
        }

    clear_sound : IsSound m → KeepsLimits m → IsWhole any (clear_content from to m)
    clear_sound sound limits = clear_whole any m from to (kept_whole m sound limits)

    pub clear_leads : IsTrue v.source.shows → IsSound m → KeepsLimits m → Leads m plan [] []
    clear_leads shows sound limits =
        let whole = clear_sound sound limits in
        subst (λ (c : LogChange). Leads m c [] []) (sym plan_cleared)
        (leads_from m (clear_content from to m) (Some (ClearCommit from to)) [] [] cleared whole.sound whole.limits leads)

    pub clear_acts : (w : ViewState) (breaks : Option ℕ) (answer : Result Receipt CoreFault) → Applies takes fills v w plan [] [] answer
        → IfOk answer (λ receipt. receipt ≡ receipt_of w.source.content plan.commit) → MatchResult answer (λ _. breaks ≡ broken) (BreaksBy broken breaks w.faults)
        → Acts takes (core_of v accepts fills broken) (Clear from to) (core_of w accepts fills breaks) (Done answer)
    clear_acts w breaks answer applies receipt breaking =
        commit_acts takes v v w accepts fills broken breaks none (still v) (Clear from to) refl plan [] [] answer applies receipt breaking
        (λ a. tt) (elim [ Ok r ↦ λ is. is | Err f ↦ λ is. tt ]) history next
      where
        as_cleared : Applied v.source w.source plan [] [] → Applied v.source w.source cleared [] []
        as_cleared = subst (λ (c : LogChange). Applied v.source w.source c [] []) plan_cleared

        history : Applied v.source w.source plan [] [] → KeepsHistory m w.source.content plan.commit
        history applied =
            let now = as_cleared applied in
            subst (KeepsHistory m w.source.content) (sym commit_is)
            (history_as m (clear_content from to m) w.source.content (ClearCommit from to) legal
            (ap (λ (h : Head). h.fork) now.head) (ap (λ (h : Head). h.length) now.head)
            (λ index. now.held_are index ∙ ap is_some (sym (leads.blocks index)))
            (subst (λ (ns : List Node). MayFollow core_limits (summary_of m) (entry_of (ClearCommit from to) (root_hash_of ns))) (sym now.roots_are) may))

        next : Applied v.source w.source plan [] [] → Stands (core_of v accepts fills broken)
            → Next accepts m (Clear from to) w.source.content (Done (Ok (receipt_of w.source.content plan.commit))) × IsWhole accepts w.source.content
        next applied stands =
            let now = as_cleared applied in
            let whole = clear_whole accepts m from to stands.whole in
            let same : w.source.content ≡ clear_content from to m =
            now.content stands.shows ∙ leads_to m (clear_content from to m) (Some (ClearCommit from to)) [] [] cleared whole.sound.closed leads in (
              (
                planned.passes,
                record {
                  commit = planned.where_held;
                  becomes = record { content = same; returns = refl };
                },
              ),
              subst (IsWhole accepts) (sym same) whole,
            )
