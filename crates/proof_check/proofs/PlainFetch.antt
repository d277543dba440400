-- A proof without an upgrade: what it is refused by, and the change that keeps the head and the roots.
use Rattle.std.proofs.Common.{◌≡◌, ℕ, Bool, true, false, ◌<◌, ◌≤◌, inl, inr, List, [], Option, Some, None, refl, sym, ap, subst, ◌∙◌}
use Rattle.std.specs.Prelude.{Result, Ok, Err, IfOk, if◌then◌else◌}
use Rattle.std.proofs.lemmas.Bool.{cases_Bool}
use Rattle.flat_tree.specs.declared.limits.TheConstants.{MAX_SIBLINGS}
use Rattle.merkle_nodes.specs.declared.roots.Head.{Head}
use Rattle.merkle_nodes.specs.Joined.{Values}
use Rattle.proof_form.specs.declared.proof.UpgradePart.{UpgradePart}
use Rattle.proof_form.specs.Proofs.{Proof, Block, ProofFits}
use Rattle.commit_book.specs.declared.commit.Commit.{Commit}
use Rattle.commit_book.specs.History.{IsInRange}
use Rattle.node_set.specs.declared.change.Change.{Change}
use Rattle.node_set.specs.declared.fault.Refusal.{Refusal}
use Rattle.node_set.specs.Closure.{is_within}
use Rattle.node_set.specs.Contents.{Content, Blocks, held, holds, roots, bytes_under, summary_of}
use Rattle.node_set.specs.Nodes.{with_nodes}
use Rattle.node_set.specs.Refuses.{or_else}
use Rattle.node_set.specs.Walks.{IsFirstStored}
use Rattle.node_set.specs.Whole.{IsSound}
use Rattle.node_set.proofs.SoundLemmas.{roots_shape}
use Rattle.proof_check.specs.declared.path.Met.{Met}
use Rattle.proof_check.specs.Upgraded.{with_upgrade, length_after}
use Rattle.proof_check.specs.Parts.{of_part}
use Rattle.proof_check.specs.Judge.{signature_refusal}
use Rattle.proof_check.specs.Meets.{IsValue, IsTop, PutsPath, block_refusal, behind_end}
use Rattle.proof_check.specs.Admission.{Ascends, IsAdmission}
use Rattle.proof_check.specs.Reaching.{IfPart, IsOpen, Meets, MeetsAt, joined_of, incoming_of, core_limits, IsLegalChange}
use Rattle.proof_check.specs.Settling.{late_refusal, commit_with, PutsPart}
use Rattle.proof_check.proofs.AfterUpgrade.{after_is, tops_are}
use Rattle.proof_check.proofs.Reaches.{joined_below_end}
use Rattle.proof_check.proofs.Decisions.{or_else-none}
use Rattle.proof_check.proofs.Admitting.{with_head, head_after, commit_is, roots_stay, fresh_is}

-- a log that didn't grow has no node behind its end
none_behind : (n : ℕ) (bits : ℕ → Bool) (value : Values) (d o : ℕ) → with_nodes (λ e q. None) [] d o ≡ behind_end n n bits value d o
unfolding with_nodes
none_behind n bits value d o = elim (cases_Bool (is_within n d o)) [
  | inl within ↦ rw within refl
  | inr past ↦ rw past refl
]

-- what a block without an upgrade makes: the head and the roots stay, and it is committed unless it is held
pub record KeepsAll (p : Proof) (m : Content) (head : Head) (change : Change) : Type 0 where
  pub head_is : change.head ≡ head
  pub roots_are : change.roots ≡ roots m
  pub commit_is : change.commit ≡ commit_with None (incoming_of (held m) p.block)

-- the path of a block up to where it meets a stored node was put in
pub record PutsMet (p : Proof) (m : Content) (met : Option Met) (change : Change) : Type 0 where
  pub meets : Meets p.block met (MeetsAt m.length (held m))
  pub values : Meets p.block met (λ b met. IsValue m.node b.index met)
  pub order : Ascends change.fresh
  pub puts : PutsPart p.block met [] change.fresh

pub puts_none : (p : Proof) (m : Content) (change : Change) → p.block ≡ None → change.fresh ≡ [] → PutsMet p m None change
puts_none p m change here empty = record { meets = rw here tt; values = rw here tt; order = rw empty tt; puts = rw here empty }

pub puts_block : (p : Proof) (m : Content) (b : Block) (met : Met) (change : Change) → p.block ≡ Some b → IsFirstStored m.length (held m) b.index met.level
    → met.level ≤ MAX_SIBLINGS → IsValue m.node b.index met → Ascends change.fresh → PutsPath b met.level [] change.fresh → PutsMet p m (Some met) change
puts_block p m b met change here first few value order path = record {
  meets = rw here (record { first = first; few = few });
  values = rw here value;
  order = order;
  puts = rw here path;
}

module _ (p : Proof) (m : Content) (none : p.upgrade ≡ None) where
  same_after : with_upgrade p m ≡ m
  same_after = rw none refl

  same_length : length_after p m ≡ m.length
  same_length = rw none refl

  same_values : joined_of p m ≡ m.node
  same_values = rw none refl

  -- the block's refusal is the only one
  pub late_fetch : (accepts : List ℕ → List ℕ → Bool) → late_refusal accepts p m ≡ of_part p.block (block_refusal m)
  late_fetch accepts =
      let unsigned : signature_refusal accepts p (with_upgrade p m) ≡ None = rw none refl in
      ap (or_else (of_part p.block (block_refusal (with_upgrade p m)))) unsigned ∙ or_else-none _
      ∙ ap (λ (n : Content). of_part p.block (block_refusal n)) same_after

  module _ (fits : ProofFits p) (head : Head) (is_open : IsOpen p m head) where
    -- where its block meets a stored node, seen from the content after it
    met_after : (met : Option Met) → Meets p.block met (MeetsAt m.length (held m)) → Meets p.block met (MeetsAt (length_after p m) (held m))
    met_after met meets = subst (λ (n : ℕ). Meets p.block met (MeetsAt n (held m))) (sym same_length) meets

    tops : IsSound m → (met : Option Met) → Meets p.block met (MeetsAt m.length (held m)) → Meets p.block met (λ b met. IsValue m.node b.index met)
        → Meets p.block met (IsTop (with_upgrade p m))
    tops sound met meets values =
        tops_are p m (with_upgrade p m) p.block met (after_is p m fits sound is_open.due) (met_after met meets)
        (subst (λ (value : Values). Meets p.block met (λ b met. IsValue value b.index met)) (sym same_values) values)

    pub fetch_tops : IsSound m → (met : Option Met) → Meets p.block met (MeetsAt m.length (held m)) → Meets p.block met (λ b met. IsValue m.node b.index met)
        → Meets p.block met (IsTop m)
    fetch_tops sound met meets values = subst (λ (n : Content). Meets p.block met (IsTop n)) same_after (tops sound met meets values)

    pub fetch_admission : IsSound m → (met : Option Met) (change : Change) → KeepsAll p m head change → PutsMet p m met change → IsAdmission p m change
    fetch_admission sound met change keeps put =
        let due = is_open.due in
        let after = after_is p m fits sound due in
        let agrees = joined_below_end p m _ fits sound due in
        let meets = met_after met put.meets in
        let top = tops sound met put.meets put.values in
        let new : IfPart p.upgrade (λ u. change.head ≡ record { fork = head.fork; length = u.length; signature = u.signature }) = rw none tt in
        let heads = head_after p m head change.head due.fork (record { fork = is_open.fork; length = is_open.length; signature = is_open.signature })
        (λ _. keeps.head_is) new in
        let stays = with_head p (with_upgrade p m) in
        let index = incoming_of (held m) p.block in
        let before : (d o : ℕ) → with_nodes (λ e q. None) [] d o ≡ behind_end m.length (length_after p m) (held m) (joined_of p m) d o =
        λ d o. none_behind m.length (held m) (joined_of p m) d o ∙ ap (λ (n : ℕ). behind_end m.length n (held m) (joined_of p m) d o) (sym same_length) in
        record {
          fork = heads.fork ∙ sym stays.0;
          length = heads.length ∙ sym stays.1;
          signature = heads.signature ∙ sym stays.2;
          roots = keeps.roots_are ∙ sym (ap roots same_after) ∙ sym (roots_stay p m (with_upgrade p m) after sound agrees p.block met refl meets top due.block);
          commit = keeps.commit_is ∙ ap (λ o. commit_with o index) (sym none)
              ∙ commit_is p m index due.fork (ap (λ (block : Blocks). incoming_of (holds block) p.block) (sym after.block));
          order = put.order;
          fresh = fresh_is p m (with_upgrade p m) after sound agrees p.block met [] change.fresh refl meets top due.block put.puts before;
        }

    -- its commit is in range
    in_range : (block : Option Block) → IfPart block (λ b. b.index < m.length)
        → IfPart (commit_with None (incoming_of (held m) block)) (λ (commit : Commit). IsInRange core_limits commit (summary_of m))
    in_range None within = tt
    in_range (Some b) within = either (held m b.index) refl
      where
        either : (is_held : Bool) → held m b.index ≡ is_held
            → IfPart (commit_with None (if held m b.index then None else Some b.index)) (λ (commit : Commit). IsInRange core_limits commit (summary_of m))
        either true is = rw is tt
        either false is = rw is (within, is)

    pub fetch_legal : (change : Change) → KeepsAll p m head change → IsLegalChange p m change
    fetch_legal change keeps =
        let within = subst (λ (n : ℕ). IfPart p.block (λ b. b.index < n)) same_length is_open.due.block in
        let fork = ap (λ (h : Head). h.fork) keeps.head_is ∙ is_open.fork in
        let length = ap (λ (h : Head). h.length) keeps.head_is ∙ is_open.length in
        let signature = ap (λ (h : Head). h.signature) keeps.head_is ∙ is_open.signature in
        record {
          commit = rw keeps.commit_is (in_range p.block within);
          fork = rw fork is_open.usable.fork;
          length = rw length is_open.usable.blocks;
          shape = rw (keeps.roots_are, length) (roots_shape m.node m.length);
          sizes = rw keeps.roots_are is_open.usable.sizes;
          same = λ _. record { fork = fork; length = length; signature = signature; roots = keeps.roots_are };
        }
