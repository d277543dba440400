-- A truncation of a core.
use Rattle.std.proofs.Common.{◌≡◌, ℕ, Bool, true, false, ◌<◌, ◌≤◌, ◌⊎◌, inl, inr, List, [], ◌∷◌, length, map, Option, Some, None, refl, sym, ap, subst, ◌∙◌, arith}
use Rattle.std.specs.Prelude.{Result, Ok, Err, IsTrue, IfOk, MatchResult, is_some, ◌&&◌, nat_le, nat_lt}
use Rattle.std.specs.List.{AllByRecursion}
use Rattle.std.proofs.lemmas.Bool.{cases_Bool, ltb-false, leb-false, lt-ltb, le-ltb, le-leb}
use Rattle.std.proofs.Math.Bool.{and-false}
use Rattle.flat_tree.specs.Subtrees.{Subtree, number, numbers_of}
use Rattle.flat_tree.specs.Roots.{full_roots_of}
use Rattle.flat_tree.specs.declared.limits.TheConstants.{MAX_FORK, MAX_CORE_BYTES}
use Rattle.commit_book.specs.declared.commit.Commit.TheVariants.{Truncate as TruncateCommit}
use Rattle.commit_book.specs.History.{is_between, MayFollow, entry_of}
use Rattle.merkle_nodes.specs.declared.node.Node.{Node}
use Rattle.merkle_nodes.specs.declared.roots.Head.{Head}
use Rattle.merkle_nodes.specs.Roots.{root_hash_of, signed_text}
use Rattle.node_set.specs.declared.fault.CoreFault.{CoreFault}
use Rattle.node_set.specs.declared.fault.CoreFault.TheVariants.{OutOfRange, Limit, OldFork, NoNode}
use Rattle.merkle_nodes.specs.declared.limit.What.TheVariants.{Fork}
use Rattle.node_set.specs.declared.fault.Receipt.{Receipt}
use Rattle.node_set.specs.Closure.{in_closure}
use Rattle.node_set.specs.Contents.{Content, held, holds, summary_of}
use Rattle.node_set.specs.Legal.{core_limits, KeepsHistory}
use Rattle.node_set.specs.Refuses.{or_else, refuse_if}
use Rattle.node_set.specs.Whole.{IsSound, KeepsLimits, IsWhole}
use Rattle.node_set.specs.Changes.{truncate_content, RootsStored, IsSigned}
use Rattle.node_set.proofs.AppendLemmas.{all_get}
use Rattle.node_set.proofs.ClosureLemmas.{true_root}
use Rattle.node_set.proofs.KeepsWhole.{truncate_whole}
use Rattle.node_set.proofs.RootTruth.{root_among}
use Rattle.node_set.proofs.SoundLemmas.{roots_shape}
use Rattle.node_set.proofs.Stored.{some_same}
use Rattle.core_forks.specs.Refusals.{first_missing, truncate_refusal}
use Rattle.log_view.specs.Views.{Source, ViewState, Keeps, Reports, IsUsable}
use Rattle.log_change.specs.declared.change.LogChange.{LogChange}
use Rattle.log_change.specs.LogChange.{IsChange, MayCommit, blocks_after, content_after, signed}
use Rattle.log_change.specs.Calls.{AreRoots, truncation}
use Rattle.log_change.proofs.Applied.{leads_to}
use Rattle.log_change.proofs.Forks.{without_rest}
use Rattle.log_change.proofs.History.{truncate_history}
use Rattle.log_core.specs.Events.Event.{Truncate}
use Rattle.log_core.specs.Events.Reply.{Done}
use Rattle.log_core.specs.States.{core_of, receipt_of, Stands, BreaksBy}
use Rattle.log_core.specs.Logs.{Fits, Leads, Applied, Applies, IsOfStore}
use Rattle.log_core.specs.Next.{Next}
use Rattle.log_core.specs.Acts.{HasReason, Fails, Acts}
use Rattle.log_core.proofs.ReadLemmas.{read_acts, reported, report_fails}
use Rattle.log_core.proofs.ChangeLemmas.{history_as, leads_from, commit_acts}

-- no refusal among two
pub neither : {A : Type 0} (first second : Option A) → or_else first second ≡ None → (first ≡ None) × (second ≡ None)
neither None second none = (refl, none)
neither (Some x) second none = cc

pub not_refused : {A : Type 0} (test : Bool) (refusal : A) → refuse_if test refusal ≡ None → test ≡ false
not_refused true refusal none = cc
not_refused false refusal none = refl

-- a truncation that isn't refused is to a length within the log, under a greater fork within the limit
pub record Passes (m : Content) (to fork : ℕ) : Type 0 where
  pub short : to ≤ m.length
  pub fits : fork ≤ MAX_FORK
  pub greater : m.fork < fork
  pub stored : first_missing (in_closure m.length (held m)) (full_roots_of to) ≡ None

pub truncate_passes : (m : Content) (to fork : ℕ) → truncate_refusal m to fork ≡ None → Passes m to fork
truncate_passes m to fork none =
    let one = neither _ _ none in
    let two = neither _ _ one.1 in
    let three = neither _ _ two.1 in
    record {
      short = ltb-false m.length to (not_refused _ _ one.0);
      fits = ltb-false MAX_FORK fork (not_refused _ _ two.0);
      greater = leb-false fork m.fork (not_refused _ _ three.0);
      stored = three.1;
    }

all_found : (is_stored : ℕ → ℕ → Bool) (trees : List Subtree) → first_missing is_stored trees ≡ None
    → AllByRecursion (λ (tree : Subtree). is_stored tree.depth tree.offset ≡ true) trees
unfolding first_missing
all_found is_stored [] none = tt
all_found is_stored (tree ∷ trees) none = elim (cases_Bool (is_stored tree.depth tree.offset)) [
  | inl there ↦ let rest : first_missing is_stored trees ≡ None = rw there at none in (there, all_found is_stored trees rest)
  | inr lacks ↦ let clash = rw lacks at none in cc
]

-- the full roots are stored
pub roots_stored : (m : Content) (to : ℕ) → IsSound m → first_missing (in_closure m.length (held m)) (full_roots_of to) ≡ None → RootsStored to m
roots_stored m to sound none depth offset root =
    let is = true_root to depth offset root in
    let among = root_among to depth offset is.within is.largest in
    let all = all_found (in_closure m.length (held m)) (full_roots_of to) none in
    sound.closed depth offset
    ∙ all_get (λ (tree : Subtree). in_closure m.length (held m) tree.depth tree.offset ≡ true) (full_roots_of to) among.0 _ all among.1

-- a content that is sound and within the limits is whole where all is accepted
abbrev pub any : List ℕ → List ℕ → Bool
any text signature = true

pub kept_whole : (m : Content) → IsSound m → KeepsLimits m → IsWhole any m
kept_whole m sound limits = record {
  sound = sound;
  limits = limits;
  head = inl (record { shape = roots_shape m.node m.length; accepted = refl });
}

pub none_come : (index : ℕ) → is_between 0 0 index ≡ false
none_come index = ap (λ (b : Bool). nat_le 0 index && b) (le-ltb index 0 (omega arith)) ∙ and-false (nat_le 0 index)

module _ (m : Content) (to fork : ℕ) (nodes : List Node) (signature : List ℕ) where
  abbrev pub change : LogChange
  change = signed signature (truncation m to fork nodes)

  pub cut_fits : Passes m to fork → IsUsable m → map (λ (node : Node). node.index) nodes ≡ numbers_of (full_roots_of to)
      → AllByRecursion (λ (node : Node). node.size ≤ MAX_CORE_BYTES) nodes → MayCommit m change → (root : List ℕ) → root ≡ root_hash_of nodes
      → Fits m change root []
  cut_fits passes usable shape sizes legal root is = record {
    blocks = omega (arith, passes.short, usable.blocks);
    fork = passes.fits;
    shape = shape;
    sizes = sizes;
    root_is = is;
    count = refl;
    come_within = omega arith;
    gone_ordered = passes.short;
    gone_within = omega arith;
    cut = λ index there past. rw (le-leb to index past, lt-ltb index m.length (usable.below index there)) refl;
    committed = refl;
    legal = legal;
  }

  -- what a whole content is cut to is whole
  cut_whole : (accepts : List ℕ → List ℕ → Bool) → Passes m to fork → IsWhole accepts m → IsSigned accepts (truncate_content to fork signature m)
      → IsWhole accepts (truncate_content to fork signature m)
  cut_whole accepts passes whole is =
      truncate_whole accepts m to fork signature whole passes.short passes.fits (roots_stored m to whole.sound passes.stored) is

  pub cut_leads : (fresh : List Node) → Passes m to fork → length signature ≡ 64
      → IsChange m (truncate_content to fork signature m) (Some (TruncateCommit to fork)) [] fresh change
      → IsSound m → KeepsLimits m → Leads m change [] fresh
  cut_leads fresh passes long is sound limits =
      let whole = cut_whole any passes (kept_whole m sound limits) (record { signature = long; accepted = refl }) in
      leads_from m (truncate_content to fork signature m) (Some (TruncateCommit to fork)) [] fresh change whole.sound whole.limits is

  module _ (s t : Source) (fresh : List Node) (of : s.content ≡ m) (applied : Applied s t change [] fresh) where
    pub cut_history : Passes m to fork → MayCommit m change → KeepsHistory m t.content (Some (TruncateCommit to fork))
    cut_history passes legal =
        let usable = subst IsUsable of applied.usable in
        let was = subst (λ (c : Content). (index : ℕ) → held t.content index ≡ holds (blocks_after change [] c.block) index) of applied.held_are in
        history_as m (truncate_content to fork signature m) t.content (TruncateCommit to fork)
        (truncate_history m to fork signature passes.short passes.greater passes.fits)
        (ap (λ (h : Head). h.fork) applied.head) (ap (λ (h : Head). h.length) applied.head)
        (λ index. was index ∙ ap is_some (rw (none_come index) refl ∙ sym (without_rest to m.length m.block usable.below index)))
        (subst (λ (ns : List Node). MayFollow core_limits (summary_of m) (entry_of (TruncateCommit to fork) (root_hash_of ns))) (sym applied.roots_are) legal)

    -- the log that shows its content has the cut one, which is signed
    pub cut_follows : (accepts : List ℕ → List ℕ → Bool) → Passes m to fork → IsTrue s.shows → IsWhole accepts m → length signature ≡ 64
        → IsTrue (accepts (signed_text (root_hash_of nodes) to fork) signature)
        → IsChange m (truncate_content to fork signature m) (Some (TruncateCommit to fork)) [] fresh change
        → (t.content ≡ truncate_content to fork signature m) × IsSigned accepts t.content × IsWhole accepts t.content
    cut_follows accepts passes shows whole long accepted is =
        let after = truncate_content to fork signature m in
        let sound = (cut_leads fresh passes long is whole.sound whole.limits).sound in
        let signs : IsSigned accepts after = record {
          signature = long;
          accepted = subst (λ (ns : List Node). IsTrue (accepts (signed_text (root_hash_of ns) to fork) signature)) is.roots_are accepted;
        } in
        let new = cut_whole accepts passes whole signs in
        let same : t.content ≡ after = applied.content shows ∙ ap (content_after change [] fresh) of ∙ leads_to m after (Some (TruncateCommit to fork)) [] fresh change new.sound.closed is in
        (same, subst (IsSigned accepts) (sym same) signs, subst (IsWhole accepts) (sym same) new)

-- ---- why it is refused

first_of : {A : Type 0} (test : Bool) (one fault : A) (rest : Option A) → or_else (refuse_if test one) rest ≡ Some fault → (fault ≡ one) ⊎ (rest ≡ Some fault)
first_of true one fault rest is = inl (sym (some_same _ _ is))
first_of false one fault rest is = inr is

missing_is : (is_stored : ℕ → ℕ → Bool) (trees : List Subtree) (fault : CoreFault) → first_missing is_stored trees ≡ Some fault → (index : ℕ) × (fault ≡ NoNode index)
unfolding first_missing
missing_is is_stored [] fault is = cc
missing_is is_stored (tree ∷ trees) fault is = elim (cases_Bool (is_stored tree.depth tree.offset)) [
  | inl there ↦ let rest : first_missing is_stored trees ≡ Some fault = rw there at is in missing_is is_stored trees fault rest
  | inr lacks ↦ let here : Some (NoNode (number tree.depth tree.offset)) ≡ Some fault = rw lacks at is in (_, sym (some_same _ _ here))
]

pub no_refusal : {T : Type 0} (refusal : Option CoreFault) (x : T) → ((fault : CoreFault) → refusal ≡ Some fault → Ok x ≡ Err fault) → refusal ≡ None
no_refusal None x refused = refl
no_refusal (Some fault) x refused = let clash : Ok x ≡ Err fault = refused fault refl in cc

module _ (takes : Bool) (v u : ViewState) (accepts : List ℕ → List ℕ → Bool) (fills : Bool) (broken : Option ℕ) (none : broken ≡ None) (keeps : Keeps v u)
    (to fork : ℕ) where
  abbrev Reason : CoreFault → Type 0
  Reason = HasReason takes (core_of v accepts fills broken) (Truncate to fork) (core_of u accepts fills broken)

  pub cut_refused : ((fault : CoreFault) → v.source.reports fault ≡ true → IsOfStore fault) → (fault : CoreFault)
      → (truncate_refusal v.source.content to fork ≡ Some fault) ⊎ Reports v u fault
      → Acts takes (core_of v accepts fills broken) (Truncate to fork) (core_of u accepts fills broken) (Done (Err fault))
  cut_refused kinds fault cause = read_acts takes v u accepts fills broken none keeps (Truncate to fork) (Done (Err fault)) tt refl (reason cause) tt next
    where
      because : (f : CoreFault) → (truncate_refusal v.source.content to fork ≡ Some f → Reason f) → fault ≡ f
          → truncate_refusal v.source.content to fork ≡ Some fault → Reason fault
      because f turn same is = subst Reason (sym same) (turn (is ∙ ap Some same))

      plain : truncate_refusal v.source.content to fork ≡ Some fault → Reason fault
      plain is =
          let m = v.source.content in
          let third = first_missing (in_closure m.length (held m)) (full_roots_of to) in
          let second = or_else (refuse_if (nat_le fork m.fork) (OldFork m.fork)) third in
          let first = or_else (refuse_if (nat_lt MAX_FORK fork) (Limit Fork MAX_FORK)) second in
          elim (first_of (nat_lt m.length to) (OutOfRange m.length) fault first is) [
            | inl past ↦ because (OutOfRange m.length) (λ r. inl r) past is
            | inr rest ↦ elim (first_of (nat_lt MAX_FORK fork) (Limit Fork MAX_FORK) fault second rest) [
              | inl limit ↦ because (Limit Fork MAX_FORK) (λ r. inl r) limit is
              | inr further ↦ elim (first_of (nat_le fork m.fork) (OldFork m.fork) fault third further) [
                | inl older ↦ because (OldFork m.fork) (λ r. inl r) older is
                | inr lacks ↦
                    let missing = missing_is (in_closure m.length (held m)) (full_roots_of to) fault lacks in
                    because (NoNode missing.0) (λ r. inl r) missing.1 is
              ]
            ]
          ]

      reason : (truncate_refusal v.source.content to fork ≡ Some fault) ⊎ Reports v u fault → Reason fault
      reason (inl is) = plain is
      reason (inr reports) = reported takes v u accepts fills broken none keeps (Truncate to fork) fault (kinds fault reports.own) reports

      next : Stands (core_of v accepts fills broken) → Next accepts v.source.content (Truncate to fork) v.source.content (Done (Err fault))
          ⊎ Fails (core_of v accepts fills broken) (core_of u accepts fills broken) (Done (Err fault))
      next stands = elim cause [
        | inl is ↦ inl (is, refl)
        | inr reports ↦ inr (report_fails takes v u accepts fills broken none keeps (Done (Err fault)) fault stands reports refl)
      ]

-- ---- what was decided

-- the log is to be cut so, under this signature
pub record Planned (s : Source) (accepts : List ℕ → List ℕ → Bool) (to fork : ℕ) (fresh : List Node) (plan final : LogChange) (root : List ℕ) : Type 0 where
  pub passes : truncate_refusal s.content to fork ≡ None
  pub plan_is : plan ≡ truncation s.content to fork plan.roots
  pub given : AreRoots s to plan.roots
  pub legal : MayCommit s.content plan
  pub leads : IsTrue s.shows → (signature : List ℕ) → IsChange s.content (truncate_content to fork signature s.content) (Some (TruncateCommit to fork)) [] fresh (signed signature plan)
  pub final_is : final ≡ signed final.head.signature plan
  pub root_is : root ≡ root_hash_of plan.roots
  pub long : length final.head.signature ≡ 64
  pub accepted : IsTrue (accepts (signed_text root plan.head.length plan.head.fork) final.head.signature)

module _ (v u : ViewState) (keeps : Keeps v u) (accepts : List ℕ → List ℕ → Bool) (to fork : ℕ) (fresh : List Node) (plan final : LogChange) (root : List ℕ)
    (planned : Planned v.source accepts to fork fresh plan final root) where
  abbrev s : Source
  s = v.source

  abbrev cut : LogChange
  cut = change s.content to fork plan.roots final.head.signature

  final_cut : final ≡ cut
  final_cut = planned.final_is ∙ ap (signed final.head.signature) planned.plan_is

  legal_cut : MayCommit s.content cut
  legal_cut = subst (MayCommit s.content) planned.plan_is planned.legal

  passing : Passes s.content to fork
  passing = truncate_passes s.content to fork planned.passes

  leads_cut : IsTrue s.shows → IsChange s.content (truncate_content to fork final.head.signature s.content) (Some (TruncateCommit to fork)) [] fresh cut
  leads_cut shows =
      subst (λ (c : LogChange). IsChange s.content (truncate_content to fork final.head.signature s.content) (Some (TruncateCommit to fork)) [] fresh (signed final.head.signature c))
      planned.plan_is (planned.leads shows final.head.signature)

  pub planned_fits : IsUsable u.source.content → Fits u.source.content final root []
  planned_fits = subst (λ (t : Source). IsUsable t.content → Fits t.content final root []) (sym keeps.source) (λ usable.
      subst (λ (c : LogChange). Fits s.content c root []) (sym final_cut)
      (cut_fits s.content to fork plan.roots final.head.signature passing usable planned.given.numbered planned.given.sizes legal_cut root planned.root_is))

  pub planned_leads : IsTrue u.source.shows → IsSound u.source.content → KeepsLimits u.source.content → Leads u.source.content final [] fresh
  planned_leads = subst (λ (t : Source). IsTrue t.shows → IsSound t.content → KeepsLimits t.content → Leads t.content final [] fresh) (sym keeps.source) (λ shows sound limits.
      subst (λ (c : LogChange). Leads s.content c [] fresh) (sym final_cut)
      (cut_leads s.content to fork plan.roots final.head.signature fresh passing planned.long (leads_cut shows) sound limits))

  accepted_cut : IsTrue (accepts (signed_text (root_hash_of plan.roots) to fork) final.head.signature)
  accepted_cut =
      subst (λ (c : LogChange). IsTrue (accepts (signed_text (root_hash_of plan.roots) c.head.length c.head.fork) final.head.signature)) planned.plan_is
      (subst (λ (r : List ℕ). IsTrue (accepts (signed_text r plan.head.length plan.head.fork) final.head.signature)) planned.root_is planned.accepted)

  commit_is : final.commit ≡ Some (TruncateCommit to fork)
  commit_is = ap (λ (c : LogChange). c.commit) final_cut

  pub planned_acts : (takes : Bool) (w : ViewState) (fills : Bool) (broken breaks : Option ℕ) → broken ≡ None → (answer : Result Receipt CoreFault)
      → Applies takes fills u w final [] fresh answer → IfOk answer (λ receipt. receipt ≡ receipt_of w.source.content final.commit)
      → MatchResult answer (λ _. breaks ≡ broken) (BreaksBy broken breaks w.faults)
      → Acts takes (core_of v accepts fills broken) (Truncate to fork) (core_of w accepts fills breaks) (Done answer)
  planned_acts takes w fills broken breaks none answer applies receipt breaking =
      commit_acts takes v u w accepts fills broken breaks none keeps (Truncate to fork) refl final [] fresh answer applies receipt breaking
      (λ a. tt) (elim [ Ok r ↦ λ is. is | Err f ↦ λ is. tt ]) history next
    where
      as_cut : Applied s w.source final [] fresh → Applied s w.source cut [] fresh
      as_cut = subst (λ (c : LogChange). Applied s w.source c [] fresh) final_cut

      history : Applied s w.source final [] fresh → KeepsHistory s.content w.source.content final.commit
      history applied = subst (KeepsHistory s.content w.source.content) (sym commit_is)
          (cut_history s.content to fork plan.roots final.head.signature s w.source fresh refl (as_cut applied) passing legal_cut)

      next : Applied s w.source final [] fresh → Stands (core_of v accepts fills broken)
          → Next accepts s.content (Truncate to fork) w.source.content (Done (Ok (receipt_of w.source.content final.commit))) × IsWhole accepts w.source.content
      next applied stands =
          let follows = cut_follows s.content to fork plan.roots final.head.signature s w.source fresh refl (as_cut applied) accepts passing stands.shows stands.whole
          planned.long accepted_cut (leads_cut stands.shows) in
          let signature : w.source.content.signature ≡ final.head.signature = ap (λ (c : Content). c.signature) follows.0 in (
            (
              planned.passes,
              record {
                content = follows.0 ∙ ap (λ (g : List ℕ). truncate_content to fork g s.content) (sym signature);
                signed = follows.1;
                returns = ap (receipt_of w.source.content) commit_is;
              },
            ),
            follows.2,
          )
