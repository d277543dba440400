-- A judgement over a view that shows a sound content: the proof isn't refused, and its change leads to the content with it in.
use Rattle.std.proofs.Common.{◌≡◌, ℕ, Bool, true, ◌⊎◌, inl, inr, List, [], Option, Some, None, IsTrue, refl, sym, ap, subst, ◌∙◌, arith}
use Rattle.std.specs.Prelude.{not}
use Rattle.std.proofs.lemmas.Bool.{cases_lt, lt-ltb, le-ltb, not-false}
use Rattle.merkle_nodes.specs.declared.node.Node.{Node}
use Rattle.merkle_nodes.specs.declared.roots.Head.{Head}
use Rattle.merkle_nodes.specs.Roots.{root_hash_of, signed_text, Accepts, HasShape}
use Rattle.proof_form.specs.declared.proof.UpgradePart.{UpgradePart}
use Rattle.proof_form.specs.Proofs.{Proof, ProofFits}
use Rattle.node_set.specs.declared.fault.CoreFault.{CoreFault}
use Rattle.node_set.specs.declared.fault.Refusal.{Refusal}
use Rattle.node_set.specs.declared.fault.Refusal.TheVariants.{BadSignature}
use Rattle.node_set.specs.Contents.{Content, roots}
use Rattle.node_set.specs.Nodes.{with_nodes}
use Rattle.node_set.specs.Refuses.{or_else, refuse_if}
use Rattle.node_set.specs.Whole.{IsClosed, IsSound}
use Rattle.node_set.proofs.SoundLemmas.{roots_shape}
use Rattle.core_forks.specs.Reorganise.{kept_of}
use Rattle.log_view.specs.Views.{Source, ViewState, Reports, Keeps}
use Rattle.log_view.specs.Overlays.{laid_over}
use Rattle.log_view.proofs.Laying.{roots_are_over}
use Rattle.log_change.specs.declared.change.LogChange.{LogChange}
use Rattle.log_change.specs.LogChange.{AreFresh, Ascend, IsChange, head_of}
use Rattle.log_change.proofs.Applied.{head_same}
use Rattle.root_stack.specs.Made.{IsMade}
use Rattle.proof_check.specs.Admission.{refused}
use Rattle.proof_check.specs.Upgraded.{with_upgrade, length_after}
use Rattle.proof_check.specs.Parts.{of_part, range_refusal}
use Rattle.proof_check.specs.Judge.{each_part, incoming, admitted, commit_of, refusal_of}
use Rattle.proof_check.proofs.Refusing.{first_none, not_refused}
use Rattle.proof_check.proofs.Admitting.{with_head}
use Rattle.proof_judge.specs.declared.upgrade.LogAfter.{LogAfter}
use Rattle.proof_judge.specs.Coming.{IsOver, MayCome}
use Rattle.proof_judge.specs.Judging.{later_refusal, coming, Fails, IsJudged, Admits, IsSigned, fetch_change, upgrade_change}
use Rattle.proof_judge.specs.Laying.{length_before, IsDue, LaysUpgrade}
use Rattle.proof_judge.specs.Numbers.{numbers_refusal}
use Rattle.proof_judge.specs.PartsMet.{parts_refusal}
use Rattle.proof_judge.proofs.AfterSound.{upgraded_sound}
use Rattle.proof_judge.proofs.Coming.{over_none, over_laid}
use Rattle.proof_judge.proofs.Changed.{fetch_leads, upgrade_leads}
use Rattle.proof_judge.proofs.NumbersFirst.{then_later, only_later, numbers_range, due_is}

-- ---- what comes in

-- nodes that are made of those that may come in, over a view
abbrev pub MakesFresh : ℕ → List Node → List Node → Source → Type 0
MakesFresh n nodes fresh s = (after : Content) → IsTrue s.shows → IsClosed s.content.length s.content.block s.content.node
    → after.length ≡ n → MayCome s.content after nodes → AreFresh s.content after fresh

-- a head with a content's numbers is its head
pub head_is : (head : Head) (m : Content) → head.fork ≡ m.fork → head.length ≡ m.length → head.signature ≡ m.signature → head ≡ head_of m
head_is head m fork length signature = head_same head.fork head.length head.signature (head_of m) fork length signature

-- ---- faults

pub reports_later : (old mid new : ViewState) (fault : CoreFault) → Keeps old mid → Reports mid new fault → Reports old new fault
reports_later old mid new fault keeps reports = record {
  answered = omega (arith, keeps.answered, reports.answered);
  last = reports.last;
  cause = λ is. omega (arith, keeps.faults, reports.cause is);
  own = subst (λ (s : Source). s.reports fault ≡ true) keeps.source reports.own;
}

pub fails_later : (old mid new : ViewState) (one other : Option Refusal) (fault : CoreFault) → Keeps old mid → one ≡ other → Fails mid new one fault → Fails old new other fault
fails_later old mid new one other fault keeps same fails = elim fails [
  | inl refusal ↦ inl (ap refused (sym same) ∙ refusal)
  | inr reports ↦ inr (reports_later old mid new fault keeps reports)
]

-- ---- a proof without an upgrade

pub alone_admits : (accepts : List ℕ → List ℕ → Bool) (p : Proof) (s : Source) (index : Option ℕ) (nodes fresh : List Node) (head : Head) (rs : List Node)
    (change : LogChange) → IsTrue s.shows → IsSound s.content → ProofFits p → p.upgrade ≡ None → numbers_refusal p s.content ≡ None
    → IsJudged accepts p s.shows s.content [] nodes index → MakesFresh s.content.length nodes fresh s → Ascend fresh
    → head ≡ head_of s.content → rs ≡ roots s.content → change ≡ fetch_change head rs index → Admits accepts p s.content fresh change
alone_admits accepts p s index nodes fresh head rs change shows sound fits up passes judged makes order head_is roots_are change_is =
    let m = s.content in
    let same : m ≡ with_upgrade p m = sym (rw up refl) in
    let none = judged.unrefused shows sound in
    let later = subst (λ (c : Content). later_refusal accepts p c ≡ None) same none in
    let end : length_after p m ≡ m.length = rw up refl in
    let range = subst (λ (n : ℕ). each_part p (range_refusal n) ≡ None) end (numbers_range p m passes) in
    let here = judged.comes m same sound.closed (over_none m sound.closed) in
    let long = (with_head p (with_upgrade p m)).1 ∙ ap (λ (c : Content). c.length) (sym same) in
    let are_fresh = makes (admitted p m) shows sound.closed long here in
    record {
      unrefused = only_later accepts p m sound fits passes ∙ later;
      leads = subst (IsChange m (admitted p m) (commit_of p m) (coming p (with_upgrade p m)) fresh) (sym change_is)
          (fetch_leads p m fits (subst IsSound same sound) (subst (λ (c : Content). each_part p (range_refusal c.length) ≡ None) same range)
          (first_none (parts_refusal p (with_upgrade p m)) _ later) index (judged.index_is ∙ ap (incoming p) same) fresh are_fresh up head rs head_is roots_are);
      order = order;
    }

-- ---- a proof with an upgrade

starts : (fork : ℕ) (u : UpgradePart) (m : Content) → u.start ≡ length_before fork m → (u.start ≡ 0) ⊎ (u.start ≡ m.length)
starts fork u m is = elim (cases_lt m.fork fork) [
  | inl greater ↦ inl (is ∙ rw (lt-ltb m.fork fork greater) refl)
  | inr own ↦ inr (is ∙ rw (le-ltb m.fork fork own) refl)
]

-- what was judged over a view whose source stays
pub judged_below : (accepts : List ℕ → List ℕ → Bool) (p : Proof) (t s : Source) (log : LogAfter) (some laid nodes : List Node) (index : Option ℕ) → t ≡ s → some ≡ laid
    → IsJudged accepts p t.shows (laid_over t.content log.head log.kept some) some nodes index
    → IsJudged accepts p s.shows (laid_over s.content log.head log.kept laid) laid nodes index
judged_below accepts p t s log some laid nodes index same equal judged =
    subst (λ (ns : List Node). IsJudged accepts p s.shows (laid_over s.content log.head log.kept ns) ns nodes index) equal
    (subst (λ (v : Source). IsJudged accepts p v.shows (laid_over v.content log.head log.kept some) some nodes index) same judged)

module _ (p : Proof) (u : UpgradePart) (s : Source) (log : LogAfter) (laid : List Node) (fits : ProofFits p) (up : p.upgrade ≡ Some u)
    (passes : numbers_refusal p s.content ≡ None) (lays : LaysUpgrade s p.fork u log laid) where
  abbrev over : Content
  over = laid_over s.content log.head log.kept laid

  pub due : IsDue p.fork u s.content
  due = due_is p s.content u up fits passes

  pub over_after : IsTrue s.shows → IsSound s.content → over ≡ with_upgrade p s.content
  over_after shows sound = lays.content shows sound ∙ sym (rw up refl)

  pub after_sound : IsSound s.content → IsSound (with_upgrade p s.content)
  after_sound sound = rw up (upgraded_sound p.fork u s.content due sound)

  over_roots : log.roots ≡ roots over
  over_roots = roots_are_over 0 s log.head log.roots log.kept laid lays.is_laid

  pub upgrade_range : each_part p (range_refusal log.head.length) ≡ None
  upgrade_range =
      let end : length_after p s.content ≡ log.head.length = rw up (sym (ap (λ (h : Head). h.length) lays.head_is)) in
      subst (λ (n : ℕ). each_part p (range_refusal n) ≡ None) end (numbers_range p s.content passes)

  pub is_signed : (accepts : List ℕ → List ℕ → Bool) (nodes : List Node) (index : Option ℕ) → IsJudged accepts p s.shows over laid nodes index → (change : LogChange) → change.head ≡ log.head → change.roots ≡ log.roots
      → IsSigned accepts p change
  is_signed accepts nodes index judged change head_is roots_is =
      let own : refuse_if (not (accepts (signed_text (root_hash_of (roots over)) over.length over.fork) u.signature)) BadSignature ≡ None =
      subst (λ (part : Option UpgradePart). of_part part (λ v. refuse_if (not (accepts (signed_text (root_hash_of (roots over)) over.length over.fork) v.signature)) BadSignature) ≡ None)
      up judged.signed in
      let good = not-false _ (not_refused _ _ own) in
      let same : roots over ≡ change.roots = sym (roots_is ∙ over_roots) in
      let shape = subst (λ (ns : List Node). HasShape ns log.head.length) (sym (roots_is ∙ lays.is_laid.roots_are)) (roots_shape (with_nodes s.content.node laid) log.head.length) in
      let accepted = subst (λ (ns : List Node). IsTrue (accepts (signed_text (root_hash_of ns) log.head.length log.head.fork) u.signature)) same good in
      let yes : Accepts accepts log.head.fork log.head.length change.roots u.signature = record { shape = shape; accepted = accepted } in
      rw up (head_is ∙ lays.head_is, subst (λ (h : Head). Accepts accepts h.fork h.length change.roots u.signature) lays.head_is yes)

  pub upgrade_admits : (accepts : List ℕ → List ℕ → Bool) (nodes : List Node) (index : Option ℕ) (fresh : List Node) (before : Head) (change : LogChange) → IsTrue s.shows → IsSound s.content
      → IsJudged accepts p s.shows over laid nodes index → MakesFresh log.head.length nodes fresh s → Ascend fresh
      → before ≡ head_of s.content → change ≡ upgrade_change before log index → Admits accepts p s.content fresh change
  upgrade_admits accepts nodes index fresh before change shows sound judged makes order before_is change_is =
      let m = s.content in
      let same = over_after shows sound in
      let there = subst (λ (c : Content). IsJudged accepts p s.shows c laid nodes index) same judged in
      let later = there.unrefused shows (after_sound sound) in
      let end : u.length ≡ log.head.length = sym (ap (λ (h : Head). h.length) lays.head_is) in
      let laid_there = over_laid m log.head log.kept laid u.start (starts p.fork u m due.start) (omega (arith, end, due.fits.ordered))
      (λ d o made. (lays.nodes_are.which d o).1 (subst (λ (n : ℕ). IsMade u.start n d o) (sym end) made)) in
      let here = there.comes m refl (after_sound sound).closed (subst (λ (c : Content). IsOver m c laid) same laid_there) in
      let long : (admitted p m).length ≡ log.head.length = (with_head p (with_upgrade p m)).1 ∙ sym (ap (λ (c : Content). c.length) same) in
      let range = subst (λ (c : Content). each_part p (range_refusal c.length) ≡ None) same upgrade_range in
      let are_fresh = makes (admitted p m) shows sound.closed long here in
      record {
        unrefused = only_later accepts p m sound fits passes ∙ later;
        leads = subst (IsChange m (admitted p m) (commit_of p m) (coming p (with_upgrade p m)) fresh) (sym change_is)
            (upgrade_leads p m fits (after_sound sound) range (first_none (parts_refusal p (with_upgrade p m)) _ later) index there.index_is fresh are_fresh
            u up due sound before before_is log lays.head_is (over_roots ∙ ap roots same)
            (λ greater. lays.kept_are.stored greater shows sound ∙ ap (kept_of m u.length) (lays.roots_came greater)));
        order = order;
      }

-- ---- numbers

pub numbers_refuse : (accepts : List ℕ → List ℕ → Bool) (p : Proof) (m : Content) (refusal : Refusal) → IsSound m → ProofFits p
    → numbers_refusal p m ≡ Some refusal → refusal_of accepts p m ≡ Some refusal
numbers_refuse accepts p m refusal sound fits is =
    then_later accepts p m sound fits ∙ ap (λ (r : Option Refusal). or_else r (later_refusal accepts p (with_upgrade p m))) is
