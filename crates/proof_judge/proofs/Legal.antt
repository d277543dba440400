-- The commit of a judged proof may come next in the history, over every view.
use Rattle.std.proofs.Common.{◌≡◌, ℕ, Bool, true, false, ◌<◌, ◌≤◌, inl, inr, List, Option, Some, None, IfSome, refl, sym, ap, subst, ◌∙◌, arith, nat_lt}
use Rattle.std.specs.Prelude.{◌&&◌}
use Rattle.std.proofs.lemmas.Bool.{cases_Bool, cases_lt, lt-ltb, le-ltb, ltb-false}
use Rattle.flat_tree.specs.Subtrees.{end_block_of}
use Rattle.flat_tree.specs.declared.limits.TheConstants.{MAX_BLOCKS}
use Rattle.flat_tree.proofs.NumberLemmas.{leaf}
use Rattle.commit_book.specs.declared.commit.Commit.{Commit}
use Rattle.commit_book.specs.History.{MayFollow, MayReorganise, entry_of, below}
use Rattle.merkle_nodes.specs.declared.node.Node.{Node}
use Rattle.merkle_nodes.specs.declared.roots.Head.{Head}
use Rattle.merkle_nodes.specs.Roots.{root_hash_of}
use Rattle.proof_form.specs.declared.proof.UpgradePart.{UpgradePart}
use Rattle.proof_form.specs.Proofs.{Proof, Block}
use Rattle.node_set.specs.Contents.{Content, held, roots, summary_of}
use Rattle.node_set.specs.Legal.{core_limits}
use Rattle.log_view.specs.Views.{Source}
use Rattle.log_view.specs.Overlays.{laid_over}
use Rattle.log_view.proofs.Laying.{held_test}
use Rattle.log_change.specs.declared.change.LogChange.{LogChange}
use Rattle.log_change.specs.LogChange.{MayCommit}
use Rattle.proof_check.specs.Parts.{of_part, part_of_block, range_refusal}
use Rattle.proof_check.specs.Judge.{each_part, incoming}
use Rattle.proof_check.proofs.Refusing.{first_none, not_refused}
use Rattle.proof_judge.specs.declared.upgrade.LogAfter.{LogAfter}
use Rattle.proof_judge.specs.Judging.{fetch_change, commit_after, upgrade_change}
use Rattle.proof_judge.specs.Laying.{IsDue, LaysUpgrade}

-- a block of the log that isn't held
pub record IsNew (n : ℕ) (after : Content) (index : ℕ) : Type 0 where
  pub within : index < n
  pub new : held after index ≡ false

-- a block of a proof that comes in is new
pub incoming_new : (p : Proof) (n : ℕ) (after : Content) (index : Option ℕ) → each_part p (range_refusal n) ≡ None → index ≡ incoming p after
    → IfSome index (IsNew n after)
incoming_new p n after index range is = subst (λ (k : Option ℕ). IfSome k (IsNew n after)) (sym is) (ByBlock p.block refl)
  where
    ByBlock : (block : Option Block) → p.block ≡ block → IfSome (incoming p after) (IsNew n after)
    ByBlock None none = rw none tt
    ByBlock (Some b) some = elim (cases_Bool (held after b.index)) [
      | inl here ↦ rw (some, here) tt
      | inr new ↦
          let own : range_refusal n (part_of_block b) ≡ None =
          subst (λ (part : Option Block). of_part part (λ (v : Block). range_refusal n (part_of_block v)) ≡ None) some (first_none _ _ range) in
          let is_new : IsNew n after b.index = record { within = omega (arith, ltb-false n (end_block_of 0 b.index) (not_refused _ _ own), leaf b.index); new = new } in
          rw (some, new) is_new
    ]

-- the index of a new block is within the limit
pub new_below : (n : ℕ) (after : Content) (index : Option ℕ) → n ≤ MAX_BLOCKS → IfSome index (IsNew n after) → IfSome index (λ i. i < MAX_BLOCKS)
new_below n after None few is = tt
new_below n after (Some i) few is = omega (arith, is.within, few)

pub legal_fetch : (m : Content) (head : Head) (nodes : List Node) (index : Option ℕ) (change : LogChange) → IfSome index (IsNew m.length m) → nodes ≡ roots m
    → change ≡ fetch_change head nodes index → MayCommit m change
legal_fetch m head nodes index change is nodes_are change_is = subst (MayCommit m) (sym change_is) (by index is)
  where
    by : (k : Option ℕ) → IfSome k (IsNew m.length m) → MayCommit m (fetch_change head nodes k)
    by None new = tt
    by (Some i) new = ((new.within, new.new), ap root_hash_of nodes_are)

module _ (s : Source) (fork : ℕ) (u : UpgradePart) (log : LogAfter) (laid : List Node) (due : IsDue fork u s.content) (lays : LaysUpgrade s fork u log laid)
    (below_end : (index : ℕ) → held s.content index ≡ true → index < s.content.length) where
  abbrev over : Content
  over = laid_over s.content log.head log.kept laid

  abbrev Follows : Commit → Type 0
  Follows commit = MayFollow core_limits (summary_of s.content) (entry_of commit (root_hash_of log.roots))

  fork_is : log.head.fork ≡ fork
  fork_is = ap (λ (h : Head). h.fork) lays.head_is

  longer : fork ≤ s.content.fork → s.content.length < log.head.length
  longer own =
      let start : u.start ≡ s.content.length = due.start ∙ rw (le-ltb s.content.fork fork own) refl in
      omega (arith, start, due.fits.ordered, ap (λ (h : Head). h.length) lays.head_is)

  not_kept : (index : ℕ) → held over index ≡ false → below log.kept (held s.content) index ≡ false
  not_kept index new = turned (nat_lt index log.kept) (held s.content index) (sym (held_test s.content log.head log.kept laid index) ∙ new)
    where
      turned : (one other : Bool) → (one && other) ≡ false → (other && one) ≡ false
      turned true true is = cc
      turned true false is = refl
      turned false true is = refl
      turned false false is = refl

  not_held : fork ≤ s.content.fork → (index : ℕ) → held over index ≡ false → held s.content index ≡ false
  not_held own index new = elim (cases_Bool (held s.content index)) [
    | inr none ↦ none
    | inl has ↦
        let low : index < log.kept = omega (arith, below_end index has, lays.kept_are.same_fork own) in
        let there : held over index ≡ true = held_test s.content log.head log.kept laid index ∙ rw (lt-ltb index log.kept low, has) refl in
        let clash : true ≡ false = sym there ∙ new in
        cc
  ]

  reorganises : s.content.fork < fork → MayReorganise core_limits log.head.fork log.head.length log.kept (summary_of s.content)
  reorganises greater =
      (omega (arith, greater, fork_is), lays.is_laid.fork, lays.is_laid.blocks, lays.is_laid.kept_below, lays.is_laid.kept_within)

  follows : (index : Option ℕ) → IfSome index (IsNew log.head.length over) → Follows (commit_after s.content.fork log index)
  follows None is = elim (cases_lt s.content.fork fork) [
    | inl greater ↦
        let test = lt-ltb s.content.fork log.head.fork (omega (arith, greater, fork_is)) in
        rw test (reorganises greater, tt)
    | inr own ↦
        let test = le-ltb s.content.fork log.head.fork (omega (arith, own, fork_is)) in
        rw test ((longer own, lays.is_laid.blocks), tt)
  ]
  follows (Some i) is = elim (cases_lt s.content.fork fork) [
    | inl greater ↦
        let test = lt-ltb s.content.fork log.head.fork (omega (arith, greater, fork_is)) in
        rw test ((reorganises greater, (is.within, not_kept i is.new)), tt)
    | inr own ↦
        let test = le-ltb s.content.fork log.head.fork (omega (arith, own, fork_is)) in
        rw test (((longer own, lays.is_laid.blocks), (is.within, not_held own i is.new)), tt)
  ]

  pub legal_upgrade : (before : Head) (index : Option ℕ) (change : LogChange) → before.fork ≡ s.content.fork → IfSome index (IsNew log.head.length over)
      → change ≡ upgrade_change before log index → MayCommit s.content change
  legal_upgrade before index change before_is is change_is =
      subst (MayCommit s.content) (sym change_is) (subst (λ (f : ℕ). Follows (commit_after f log index)) (sym before_is) (follows index is))
