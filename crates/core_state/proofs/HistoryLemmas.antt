-- Appends, truncations and clearings keep a core's history legal.
use Rattle.std.proofs.Common.{◌≡◌, ℕ, [], Bool, true, false, ◌+◌, ◌-◌, ◌<◌, ◌≤◌, inl, inr, List, length, Some, sym, ap, ◌∙◌, arith, nat_le, nat_lt, slice_get}
use Rattle.std.specs.Prelude.{is_some, ◌&&◌, ◌||◌}
use Rattle.std.proofs.Math.Bool.{or-false, and-true, and-false}
use Rattle.std.proofs.lemmas.Bool.{cases_lt, cases_Bool, le-leb, lt-leb, lt-ltb, le-ltb}
use Rattle.std.proofs.lemmas.Option.{slice_get_past, slice_get-get_or}
use mathlib.Core.Path.{fun_ext}
use Rattle.flat_tree.specs.declared.limits.TheConstants.{MAX_BLOCKS, MAX_FORK}
use Rattle.commit_book.specs.declared.commit.Commit.TheVariants.{Append, Truncate, Clear}
use Rattle.commit_book.specs.History.{Summary, HoldsSome, with_part, without_part, below}
use Rattle.merkle_nodes.specs.Roots.{root_hash_of}
use Rattle.node_set.specs.Contents.{Content, Blocks, holds, held, roots, summary_of}
use Rattle.node_set.specs.Changes.{blocks_with, blocks_below, blocks_without, append_content, truncate_content, clear_content}
use Rattle.node_set.proofs.KeepsWhole.{clear_roots}
use Rattle.core_state.specs.Calls.{KeepsHistory}

-- a summary with a held set
abbrev with_set : ℕ → ℕ → List ℕ → (ℕ → Bool) → Summary
with_set fork blocks root set = record { fork = fork; length = blocks; root = root; held = set }

with_held : (fork blocks : ℕ) (root : List ℕ) (one other : ℕ → Bool) → ((index : ℕ) → one index ≡ other index)
    → with_set fork blocks root one ≡ with_set fork blocks root other
with_held fork blocks root one other same = ap (with_set fork blocks root) (fun_ext same)

-- ---- an append

has_item : (more : List (List ℕ)) (at : ℕ) → is_some (slice_get more at) ≡ nat_lt at (length more)
has_item more at = elim (cases_lt at (length more)) [
  | inl less ↦ ap is_some (slice_get-get_or more at [] less) ∙ sym (lt-ltb at (length more) less)
  | inr past ↦ ap is_some (slice_get_past more at past) ∙ sym (le-ltb at (length more) past)
]

held_with : (n : ℕ) (more : List (List ℕ)) (block : Blocks) → ((index : ℕ) → holds block index ≡ true → index < n) → (index : ℕ)
    → holds (blocks_with n more block) index ≡ with_part n (n + length more) (holds block) index
held_with n more block below_n index = elim (cases_lt index n) [
  | inl less ↦ rw (lt-ltb index n less, lt-leb n index less) (sym (or-false (is_some (block index))))
  | inr behind ↦ rw (le-ltb index n behind, le-leb n index behind) (new_part behind)
]
  where
    not_held : n ≤ index → is_some (block index) ≡ false
    not_held behind = elim (cases_Bool (is_some (block index))) [
      | inl here ↦ absurd (omega (arith, behind, below_n index here))
      | inr none ↦ none
    ]

    new_part : n ≤ index → is_some (slice_get more (index - n)) ≡ (is_some (block index) || nat_lt index (n + length more))
    new_part behind =
        rw (not_held behind) (has_item more (index - n) ∙ (elim (cases_lt (index - n) (length more)) [
          | inl less ↦ lt-ltb (index - n) (length more) less ∙ sym (lt-ltb index (n + length more) (omega (arith, less, behind)))
          | inr past ↦ le-ltb (index - n) (length more) past ∙ sym (le-ltb index (n + length more) (omega (arith, past, behind)))
        ]))

pub append_history : (m : Content) (more : List (List ℕ)) (signature : List ℕ) → ((index : ℕ) → held m index ≡ true → index < m.length)
    → 1 ≤ length more → m.length + length more ≤ MAX_BLOCKS → KeepsHistory m (append_content more signature m) (Some (Append (length more)))
append_history m more signature below_length some few =
    let after = append_content more signature m in (
      ((some, few), tt),
      with_held m.fork (m.length + length more) (root_hash_of (roots after)) (holds (blocks_with m.length more m.block))
          (with_part m.length (m.length + length more) (held m)) (held_with m.length more m.block below_length),
    )

-- ---- a truncation

held_below : (to : ℕ) (block : Blocks) (index : ℕ) → holds (blocks_below to block) index ≡ below to (holds block) index
held_below to block index = elim (cases_Bool (nat_lt index to)) [
  | inl kept ↦ rw kept (sym (and-true (is_some (block index))))
  | inr cut ↦ rw cut (sym (and-false (is_some (block index))))
]

pub truncate_history : (m : Content) (to fork : ℕ) (signature : List ℕ) → to ≤ m.length → m.fork < fork → fork ≤ MAX_FORK
    → KeepsHistory m (truncate_content to fork signature m) (Some (Truncate to fork))
truncate_history m to fork signature short greater fits =
    let after = truncate_content to fork signature m in
    (((short, greater, fits), tt), with_held fork to (root_hash_of (roots after)) (holds (blocks_below to m.block)) (below to (held m)) (held_below to m.block))

-- ---- a clearing

held_without : (from to : ℕ) (block : Blocks) (index : ℕ) → holds (blocks_without from to block) index ≡ without_part from to (holds block) index
held_without from to block index = elim (cases_Bool (nat_le from index && nat_lt index to)) [
  | inl given_up ↦ rw given_up (sym (and-false (is_some (block index))))
  | inr kept ↦ rw kept (sym (and-true (is_some (block index))))
]

pub clear_history : (m : Content) (from to : ℕ) → from ≤ to → to ≤ m.length → HoldsSome from to (summary_of m)
    → KeepsHistory m (clear_content from to m) (Some (Clear from to))
clear_history m from to ordered within some =
    let after = clear_content from to m in (
      ((ordered, within, some), ap root_hash_of (clear_roots m from to)),
      with_held m.fork m.length (root_hash_of (roots after)) (holds (blocks_without from to m.block)) (without_part from to (held m)) (held_without from to m.block),
    )
