-- A read of a core changes nothing; of one that stands, its answer is what follows the event.
use Rattle.std.proofs.Common.{◌≡◌, ℕ, Bool, true, false, ◌/◌, ◌^◌, ◌<◌, ◌⊎◌, inl, inr, List, length, take, Option, Some, None, refl, sym, ap, subst, ◌∙◌}
use Rattle.std.specs.Prelude.{Result, Ok, Err, IsTrue, IfSome, IfOk, IfErr, not, nat_le}
use Rattle.std.proofs.lemmas.Bool.{cases_lt, le-leb}
use Rattle.flat_tree.specs.Roots.{depth_over}
use Rattle.merkle_nodes.specs.declared.node.Node.{Node}
use Rattle.merkle_nodes.specs.Roots.{twig_of, HasShape}
use Rattle.merkle_nodes.specs.Fold.{IsRootOver, Proves}
use Rattle.node_set.specs.declared.fault.CoreFault.{CoreFault}
use Rattle.node_set.specs.declared.fault.CoreFault.TheVariants.{OutOfRange, Unavailable, StoreFault, Damaged}
use Rattle.node_set.specs.declared.fault.Place.{Place}
use Rattle.node_set.specs.Contents.{Content, held, roots}
use Rattle.node_set.specs.Legal.{KeepsHistory}
use Rattle.node_set.specs.Refuses.{or_else, refuse_if}
use Rattle.node_set.specs.Whole.{IsWhole}
use Rattle.node_set.proofs.Stored.{some_same}
use Rattle.core_snap.specs.declared.snapshot.Snapshot.{Snapshot}
use Rattle.core_snap.specs.declared.snapshot.ReadAt.{ReadAt}
use Rattle.core_snap.specs.Causes.{read_refusal}
use Rattle.log_view.specs.Views.{Source, ViewState, Keeps, Reports}
use Rattle.snap_reads.specs.Reads.{GivesRead, IsDamage, HasRoot, HasRootOver, LacksRootOver}
use Rattle.log_core.proofs.ShownReads.{get_refused, get_given, no_damage, own_root, snap_refused, snap_root, snap_given, snap_lacks}
use Rattle.log_core.specs.Events.{Event, Reply, fault_in, commit_in}
use Rattle.log_core.specs.Events.Event.{Get, ReadAt as ReadsAt}
use Rattle.log_core.specs.Events.Reply.{Read}
use Rattle.log_core.specs.States.{CoreState, core_of, content_of, Stands}
use Rattle.log_core.specs.Logs.{IsOfStore}
use Rattle.log_core.specs.Next.{Next}
use Rattle.log_core.specs.Acts.{IsReplyTo, HasReason, Refuses, IsSafe, Acts, Fails, answer_in}

-- what holds of each holds of one that is there
pub always : {A : Type 0} (found : Option A) (P : A → Type 0) → ((a : A) → P a) → IfSome found P
always None P all = tt
always (Some a) P all = all a

-- without a commit the summary stays
no_commit : (m : Content) (reply : Reply) → commit_in reply ≡ None → KeepsHistory m m (commit_in reply)
no_commit m reply none = subst (KeepsHistory m m) (sym none) refl

-- what stands is said of the source and the verifier
pub stands_as : (v w : ViewState) (accepts : List ℕ → List ℕ → Bool) (fills full : Bool) (broken breaks : Option ℕ) → w.source ≡ v.source
    → Stands (core_of v accepts fills broken) → Stands (core_of w accepts full breaks)
stands_as v w accepts fills full broken breaks same stands = record {
  shows = subst (λ (s : Source). IsTrue s.shows) (sym same) stands.shows;
  whole = subst (λ (s : Source). IsWhole accepts s.content) (sym same) stands.whole;
  reports = λ fault is. stands.reports fault (subst (λ (s : Source). s.reports fault ≡ true) same is);
}

module _ (takes : Bool) (v w : ViewState) (accepts : List ℕ → List ℕ → Bool) (fills : Bool) (broken : Option ℕ) (none : broken ≡ None) (keeps : Keeps v w) where
  abbrev pub old : CoreState
  old = core_of v accepts fills broken

  abbrev pub new : CoreState
  new = core_of w accepts fills broken

  abbrev pub m : Content
  m = v.source.content

  same : w.source.content ≡ m
  same = ap (λ (s : Source). s.content) keeps.source

  still_stands : Stands old → Stands new
  still_stands = stands_as v w accepts fills fills broken broken keeps.source

  -- a call that changed nothing, of a core that isn't broken
  pub read_acts : (event : Event) (reply : Reply) → IsReplyTo event reply → commit_in reply ≡ None
      → IfSome (fault_in reply) (HasReason takes old event new) → IsSafe m event m reply
      → (Stands old → Next accepts m event m reply ⊎ Fails old new reply) → Acts takes old event new reply
  read_acts event reply kind commit reason safe next = record {
    kind = kind;
    goes_on = record {
      accepts = refl;
      fills = refl;
      later = keeps.later;
      faults = keeps.faults;
      breaks = inl refl;
      reads = λ is. (keeps, refl);
    };
    reason = reason;
    refused = always (fault_in reply) (λ fault. content_of new ≡ content_of old) (λ fault. same);
    history = subst (λ (a : Content). KeepsHistory m a (commit_in reply)) (sym same) (no_commit m reply commit);
    safe = subst (λ (a : Content). IsSafe m event a reply) (sym same) safe;
    broken = λ count is. cc;
    serves = λ stands unbroken. record {
      next = elim (next stands) [
        | inl follows ↦ inl (subst (λ (a : Content). Next accepts m event a reply) (sym same) follows)
        | inr fails ↦ inr fails
      ];
      stands = inl (still_stands stands);
    };
  }

  -- what the log reports has its reason
  pub reported : (event : Event) (fault : CoreFault) → IsOfStore fault → Reports v w fault → HasReason takes old event new fault
  reported event fault (inl is) reports = subst (HasReason takes old event new) (sym is) (reports.cause is)
  reported event fault (inr (inl (area, at, is))) reports =
      subst (HasReason takes old event new) (sym is) (inr (subst (λ (f : CoreFault). v.source.reports f ≡ true) is reports.own))
  reported event fault (inr (inr (place, want, have, is))) reports =
      subst (HasReason takes old event new) (sym is) (inr (subst (λ (f : CoreFault). v.source.reports f ≡ true) is reports.own))

  -- of a core that stands it is a fault of its store
  pub report_fails : (reply : Reply) (fault : CoreFault) → Stands old → Reports v w fault → fault_in reply ≡ Some fault → Fails old new reply
  report_fails reply fault stands reports answered =
      let is = stands.reports fault reports.own in
      record { fault = StoreFault; answered = answered ∙ ap Some is; own = tt; content = same }

  -- a read that is refused or damaged has its reason
  refusal_is : (a b : Bool) (one two fault : CoreFault) → or_else (refuse_if a one) (refuse_if b two) ≡ Some fault → (fault ≡ one) ⊎ (fault ≡ two)
  refusal_is true b one two fault is = inl (sym (some_same _ _ is))
  refusal_is false true one two fault is = inr (sym (some_same _ _ is))
  refusal_is false false one two fault is = cc

  refused_read : (event : Event) (n : ℕ) (has : ℕ → Bool) (index : ℕ) (fault : CoreFault) → read_refusal n has index ≡ Some fault
      → Refuses v.source event fault → HasReason takes old event new fault
  refused_read event n has index fault is refuses = elim (refusal_is (nat_le n index) (not (has index)) _ _ fault is) [
    | inl past ↦ subst (HasReason takes old event new) (sym past) (inl (subst (Refuses v.source event) past refuses))
    | inr unheld ↦ subst (HasReason takes old event new) (sym unheld) (inl (subst (Refuses v.source event) unheld refuses))
  ]

  damage_is : (nodes : List Node) (n index : ℕ) (buffer : List ℕ) (fault : CoreFault) → IsDamage v.source nodes n index buffer fault
      → (place : Place) × (want : List ℕ) × (have : List ℕ) × (fault ≡ Damaged place want have)
  damage_is nodes n index buffer fault (inl leaf) = (_, _, _, leaf.fault_is)
  damage_is nodes n index buffer fault (inr (root, over, differs)) = (_, _, _, differs.fault_is)

  damaged : (event : Event) (nodes : List Node) (n index : ℕ) (buffer : List ℕ) (fault : CoreFault) → IsDamage v.source nodes n index buffer fault
      → Refuses v.source event fault → HasReason takes old event new fault
  damaged event nodes n index buffer fault damage refuses =
      let is = (damage_is nodes n index buffer fault damage).3 in
      subst (HasReason takes old event new) (sym is) (inl (subst (Refuses v.source event) is refuses))

  -- a block is read under the head
  pub get_acts : ((fault : CoreFault) → v.source.reports fault ≡ true → IsOfStore fault) → (index : ℕ) (buffer : List ℕ) (answer : Result ReadAt CoreFault)
      → IfOk answer (λ read. Proves m.length (roots m) index (take read.len buffer) read.trail)
      → IfOk answer (λ read. GivesRead v.source index (length read.trail) buffer read)
      → IfErr answer (λ fault. (read_refusal m.length (held m) index ≡ Some fault) ⊎ (Reports v w fault ⊎ IsDamage v.source (roots m) m.length index buffer fault))
      → Acts takes old (Get index) new (Read (answer_in buffer answer))
  get_acts kinds index buffer (Ok read) proved gives cause = read_acts (Get index) _ tt refl tt proved (λ stands.
      inl (refl, get_given v.source stands.shows stands.whole.sound index buffer read gives proved))
  get_acts kinds index buffer (Err fault) proved gives cause = read_acts (Get index) _ tt refl reason tt next
    where
      reason : HasReason takes old (Get index) new fault
      reason = elim cause [
        | inl refused ↦ refused_read (Get index) m.length (held m) index fault refused (inl refused)
        | inr (inl reports) ↦ reported (Get index) fault (kinds fault reports.own) reports
        | inr (inr damage) ↦ damaged (Get index) (roots m) m.length index buffer fault damage (inr (buffer, damage))
      ]

      next : Stands old → Next accepts m (Get index) m (Read (Err fault)) ⊎ Fails old new (Read (Err fault))
      next stands = elim cause [
        | inl refused ↦ inl (refl, sym (get_refused m index fault refused))
        | inr (inl reports) ↦ inr (report_fails (Read (Err fault)) fault stands reports refl)
        | inr (inr damage) ↦ absurd (no_damage v.source stands.shows stands.whole.sound index (roots m) m.length buffer fault
            (λ root within over. own_root v.source stands.shows stands.whole.sound index root within over) damage)
      ]

  -- a block is read under a snapshot
  pub read_at_acts : ((fault : CoreFault) → v.source.reports fault ≡ true → IsOfStore fault) → (snap : Snapshot) → HasShape snap.roots snap.length
      → (index : ℕ) (buffer : List ℕ) (answer : Result ReadAt CoreFault)
      → ((fault : CoreFault) → read_refusal snap.length (held m) index ≡ Some fault → answer ≡ Err fault)
      → IfOk answer (λ read. Proves snap.length snap.roots index (take read.len buffer) read.trail)
      → IfOk answer (λ _. HasRootOver v.source snap.roots snap.length index)
      → IfOk answer (λ read. GivesRead v.source index (length read.trail) buffer read)
      → IfErr answer (λ fault. (read_refusal snap.length (held m) index ≡ Some fault)
      ⊎ (((fault ≡ Unavailable index) × LacksRootOver v.source snap.roots snap.length index)
      ⊎ (Reports v w fault ⊎ (HasRootOver v.source snap.roots snap.length index × IsDamage v.source snap.roots snap.length index buffer fault))))
      → Acts takes old (ReadsAt snap index) new (Read (answer_in buffer answer))
  read_at_acts kinds snap shape index buffer (Ok read) first proved root gives cause = read_acts (ReadsAt snap index) _ tt refl tt proved (λ stands.
      inl (refl, snap_given v.source stands.shows stands.whole.sound snap shape index proved.within buffer read gives proved root))
  read_at_acts kinds snap shape index buffer (Err fault) first proved root gives cause = read_acts (ReadsAt snap index) _ tt refl reason tt next
    where
      reason : HasReason takes old (ReadsAt snap index) new fault
      reason = elim cause [
        | inl refused ↦ refused_read (ReadsAt snap index) snap.length (held m) index fault refused (inl refused)
        | inr (inl lacks) ↦ subst (HasReason takes old (ReadsAt snap index) new) (sym lacks.0) (inl (inr (inl (refl, lacks.1))))
        | inr (inr (inl reports)) ↦ reported (ReadsAt snap index) fault (kinds fault reports.own) reports
        | inr (inr (inr damage)) ↦ damaged (ReadsAt snap index) snap.roots snap.length index buffer fault damage.1 (inr (inr (buffer, damage.1)))
      ]

      -- past the length the read was refused
      within : Stands old → (read_refusal snap.length (held m) index ≡ None → Next accepts m (ReadsAt snap index) m (Read (Err fault)) ⊎ Fails old new (Read (Err fault)))
          → Next accepts m (ReadsAt snap index) m (Read (Err fault)) ⊎ Fails old new (Read (Err fault))
      within stands otherwise = by (read_refusal snap.length (held m) index) refl
        where
          by : (found : Option CoreFault) → read_refusal snap.length (held m) index ≡ found
              → Next accepts m (ReadsAt snap index) m (Read (Err fault)) ⊎ Fails old new (Read (Err fault))
          by None is = otherwise is
          by (Some refusal) is =
              let answered : Err fault ≡ Err refusal = first refusal is in
              inl (refl, ap (λ (a : Result ReadAt CoreFault). answer_in buffer a) answered ∙ sym (snap_refused m snap index refusal is))

      below : read_refusal snap.length (held m) index ≡ None → index < snap.length
      below none = elim (cases_lt index snap.length) [
        | inl less ↦ less
        | inr past ↦
            let is : read_refusal snap.length (held m) index ≡ Some (OutOfRange snap.length) = rw (le-leb snap.length index past) refl in
            let clash : None ≡ Some (OutOfRange snap.length) = sym none ∙ is in
            cc
      ]

      next : Stands old → Next accepts m (ReadsAt snap index) m (Read (Err fault)) ⊎ Fails old new (Read (Err fault))
      next stands = within stands (λ none. elim cause [
        | inl refused ↦ inl (refl, sym (snap_refused m snap index fault refused))
        | inr (inl lacks) ↦ inl (refl, ap Err lacks.0 ∙ sym (snap_lacks v.source stands.shows stands.whole.sound snap shape index (below none) lacks.1))
        | inr (inr (inl reports)) ↦ inr (report_fails (Read (Err fault)) fault stands reports refl)
        | inr (inr (inr (has, damage))) ↦ absurd (no_damage v.source stands.shows stands.whole.sound index snap.roots snap.length buffer fault
            (tops stands (below none) has) damage)
      ])
        where
          tops : Stands old → index < snap.length → HasRootOver v.source snap.roots snap.length index → (root : Node) → index < m.length → IsRootOver snap.roots snap.length index root
              → m.node (depth_over snap.length index) (index / 2 ^ depth_over snap.length index) ≡ Some (twig_of root)
          tops stands less (own, over, has) root held_below at =
              let same : root ≡ own = some_same _ _ (sym at ∙ over) in
              snap_root v.source stands.shows stands.whole.sound snap shape index less root at (subst (HasRoot v.source) (sym same) has)
