-- A change of a core that isn't broken: what was decided was applied to its log, or wasn't.
use Rattle.std.proofs.Common.{◌≡◌, ℕ, Bool, true, ◌≤◌, inl, inr, List, Option, Some, None, refl, sym, ap, subst, ◌∙◌, arith}
use Rattle.std.specs.Prelude.{Result, Ok, Err, IsTrue, IfOk, MatchResult}
use mathlib.Core.Path.{fun_ext}
use Rattle.outside_traits.specs.Faults.{Rose}
use Rattle.commit_book.specs.declared.commit.Commit.{Commit}
use Rattle.commit_book.specs.History.{Summary, changed, MayFollow, entry_of}
use Rattle.merkle_nodes.specs.declared.limit.What.TheVariants.{Oplog}
use Rattle.merkle_nodes.specs.declared.node.Node.{Node}
use Rattle.merkle_nodes.specs.Roots.{root_hash_of}
use Rattle.node_set.specs.declared.fault.CoreFault.{CoreFault}
use Rattle.node_set.specs.declared.fault.CoreFault.TheVariants.{Memory, StoreFault, Limit}
use Rattle.node_set.specs.declared.fault.Receipt.{Receipt}
use Rattle.node_set.specs.Contents.{Content, held, roots, summary_of}
use Rattle.node_set.specs.Legal.{core_limits, KeepsHistory}
use Rattle.node_set.specs.Whole.{IsSound, KeepsLimits, IsWhole}
use Rattle.log_view.specs.Views.{Source, ViewState, Keeps}
use Rattle.log_change.specs.declared.change.LogChange.{LogChange}
use Rattle.log_change.specs.LogChange.{IsChange}
use Rattle.log_change.proofs.Applied.{leads_to}
use Rattle.log_core.specs.Events.{Event, is_change}
use Rattle.log_core.specs.Events.Reply.{Done}
use Rattle.log_core.specs.States.{CoreState, core_of, receipt_of, Stands, BreaksBy}
use Rattle.log_core.specs.Logs.{Leads, Applied, NotApplied, Applies}
use Rattle.log_core.specs.Next.{Next}
use Rattle.log_core.specs.Acts.{IsReplyTo, HasReason, IsSafe, Acts, IsOwnFault}
use Rattle.log_core.proofs.ReadLemmas.{stands_as}

-- ---- the history

-- a content that has the head and the held blocks of one that a commit leads to, whatever its roots
pub history_as : (m like after : Content) (commit : Commit) → KeepsHistory m like (Some commit) → after.fork ≡ like.fork → after.length ≡ like.length
    → ((index : ℕ) → held after index ≡ held like index) → MayFollow core_limits (summary_of m) (entry_of commit (root_hash_of (roots after)))
    → KeepsHistory m after (Some commit)
history_as m like after commit is fork end has may =
    let c = changed commit (summary_of m) in
    let with : ℕ → ℕ → (ℕ → Bool) → Summary = λ f l h. record { fork = f; length = l; root = root_hash_of (roots after); held = h } in
    let forks : after.fork ≡ c.fork = fork ∙ ap (λ (s : Summary). s.fork) is.1 in
    let ends : after.length ≡ c.length = end ∙ ap (λ (s : Summary). s.length) is.1 in
    let holds_so : held after ≡ c.held = fun_ext has ∙ ap (λ (s : Summary). s.held) is.1 in
    (may, ap (λ (f : ℕ). with f after.length (held after)) forks ∙ ap (λ (l : ℕ). with c.fork l (held after)) ends ∙ ap (with c.fork c.length) holds_so)

-- ---- what a change leads to

pub leads_from : (m after : Content) (commit : Option Commit) (come : List (List ℕ)) (fresh : List Node) (change : LogChange)
    → IsSound after → KeepsLimits after → IsChange m after commit come fresh change → Leads m change come fresh
leads_from m after commit come fresh change sound limits is =
    let same = leads_to m after commit come fresh change sound.closed is in
    record {
      sound = subst IsSound (sym same) sound;
      limits = subst KeepsLimits (sym same) limits;
      roots_are = is.roots_are ∙ ap roots (sym same);
    }

-- ---- a call

module _ (takes : Bool) (v u w : ViewState) (accepts : List ℕ → List ℕ → Bool) (fills : Bool) (broken breaks : Option ℕ) (none : broken ≡ None) (keeps : Keeps v u)
    (event : Event) (changes : is_change event ≡ true) where
  abbrev pub old : CoreState
  old = core_of v accepts fills broken

  abbrev pub new : CoreState
  new = core_of w accepts fills breaks

  abbrev pub m : Content
  m = v.source.content

  -- what was decided was applied
  pub applied_acts : (change : LogChange) (come : List (List ℕ)) (fresh : List Node) (receipt : Receipt) → u.moment ≤ w.moment → u.faults ≤ w.faults
      → breaks ≡ broken → Applied u.source w.source change come fresh → IsReplyTo event (Done (Ok receipt))
      → (Applied v.source w.source change come fresh → KeepsHistory m w.source.content receipt.commit)
      → IsSafe m event w.source.content (Done (Ok receipt))
      → (Applied v.source w.source change come fresh → Stands old → Next accepts m event w.source.content (Done (Ok receipt)) × IsWhole accepts w.source.content)
      → Acts takes old event new (Done (Ok receipt))
  applied_acts change come fresh receipt later faults still applied kind history safe next =
      let over = subst (λ (s : Source). Applied s w.source change come fresh) keeps.source applied in
      record {
        kind = kind;
        goes_on = record {
          accepts = refl;
          fills = refl;
          later = omega (arith, keeps.later, later);
          faults = omega (arith, keeps.faults, faults);
          breaks = inl still;
          reads = λ is. cc;
        };
        reason = tt;
        refused = tt;
        history = history over;
        safe = safe;
        broken = λ count is. cc;
        serves = λ stands unbroken. record {
          next = inl (next over stands).0;
          stands = inl (record {
            shows = over.shows stands.shows;
            whole = (next over stands).1;
            reports = λ fault is. stands.reports fault (sym (over.reports fault) ∙ is);
          });
        };
      }

  -- what was decided wasn't applied
  pub fails_acts : (fault : CoreFault) → u.moment ≤ w.moment → u.faults ≤ w.faults → BreaksBy broken breaks w.faults fault
      → NotApplied takes fills u w fault → IsReplyTo event (Done (Err fault)) → IsSafe m event w.source.content (Done (Err fault))
      → Acts takes old event new (Done (Err fault))
  fails_acts fault later faults breaking not kind safe = record {
    kind = kind;
    goes_on = record {
      accepts = refl;
      fills = refl;
      later = omega (arith, keeps.later, later);
      faults = omega (arith, keeps.faults, faults);
      breaks = elim breaking [ inl (is, broke) ↦ inr (is_true, rose is) | inr (other, still) ↦ inl still ];
      reads = λ is. cc;
    };
    reason = reason;
    refused = same;
    history = ap summary_of same;
    safe = safe;
    broken = λ count is. cc;
    serves = λ stands unbroken. record {
      next = inr (record { fault = fault; answered = refl; own = own; content = same });
      stands = elim breaking [
        | inl (is, broke) ↦ inr (w.faults, broke, same)
        | inr (other, still) ↦ inl (stands_as v w accepts fills fills broken breaks (not.same other ∙ keeps.source) stands)
      ];
    };
  }
    where
      same : w.source.content ≡ m
      same = not.content ∙ ap (λ (s : Source). s.content) keeps.source

      is_true : IsTrue (is_change event)
      is_true = changes

      rise : Rose u.faults w.faults → Rose v.faults w.faults
      rise rose = omega (arith, rose, keeps.faults)

      rose : fault ≡ StoreFault → Rose v.faults w.faults
      rose is = elim not.reason [
        | inl memory ↦ let clash : StoreFault ≡ Memory = sym is ∙ memory.0 in cc
        | inr (inl store) ↦ rise store.1
        | inr (inr full) ↦ let clash : StoreFault ≡ Limit Oplog full.0 = sym is ∙ full.1 in cc
      ]

      reason : HasReason takes old event new fault
      reason = elim not.reason [
        | inl memory ↦ subst (HasReason takes old event new) (sym memory.0) (memory.1, is_true)
        | inr (inl store) ↦ subst (HasReason takes old event new) (sym store.0) (rise store.1)
        | inr (inr full) ↦ subst (HasReason takes old event new) (sym full.1) (full.2, is_true)
      ]

      own : IsOwnFault fills fault
      own = elim not.reason [
        | inl memory ↦ subst (IsOwnFault fills) (sym memory.0) tt
        | inr (inl store) ↦ subst (IsOwnFault fills) (sym store.0) tt
        | inr (inr full) ↦ subst (IsOwnFault fills) (sym full.1) full.2
      ]

  -- either
  pub commit_acts : (change : LogChange) (come : List (List ℕ)) (fresh : List Node) (answer : Result Receipt CoreFault)
      → Applies takes fills u w change come fresh answer → IfOk answer (λ receipt. receipt ≡ receipt_of w.source.content change.commit)
      → MatchResult answer (λ _. breaks ≡ broken) (BreaksBy broken breaks w.faults) → ((a : Result Receipt CoreFault) → IsReplyTo event (Done a))
      → ((a : Result Receipt CoreFault) → IfOk a (λ receipt. receipt ≡ receipt_of w.source.content receipt.commit) → IsSafe m event w.source.content (Done a))
      → (Applied v.source w.source change come fresh → KeepsHistory m w.source.content change.commit)
      → (Applied v.source w.source change come fresh → Stands old
      → Next accepts m event w.source.content (Done (Ok (receipt_of w.source.content change.commit))) × IsWhole accepts w.source.content)
      → Acts takes old event new (Done answer)
  commit_acts change come fresh (Ok receipt) applies is still kind safe history next =
      let same = ap (λ (r : Receipt). r.commit) is in
      applied_acts change come fresh receipt applies.later applies.faults still applies.does (kind (Ok receipt))
      (λ applied. subst (KeepsHistory m w.source.content) (sym same) (history applied))
      (safe (Ok receipt) (is ∙ ap (receipt_of w.source.content) (sym same)))
      (λ applied stands.
      let follows = next applied stands in
      (subst (λ (r : Receipt). Next accepts m event w.source.content (Done (Ok r))) (sym is) follows.0, follows.1))
  commit_acts change come fresh (Err fault) applies is breaking kind safe history next =
      fails_acts fault applies.later applies.faults breaking applies.does (kind (Err fault)) (safe (Err fault) tt)
