-- Each change is a legal step of a core's history.
use Rattle.std.proofs.Common.{◌≡◌, ◌≢◌, ℕ, [], ◌∷◌, Bool, true, false, ◌+◌, ◌-◌, ◌<◌, ◌≤◌, inl, inr, Option, List, length, Some, None, refl, sym, ap, subst, ◌∙◌, arith, nat_le, nat_lt, slice_get}
use Rattle.std.specs.Prelude.{is_some, not, ◌&&◌, ◌||◌}
use Rattle.std.proofs.Math.Bool.{or-false, or-true, and-true, and-false}
use Rattle.std.proofs.lemmas.Bool.{cases_eq, cases_lt, cases_Bool, eq-eqb, ne_eqb, le-leb, lt-leb, lt-ltb, le-ltb, leb-true, ltb-true, and_parts}
use Rattle.std.proofs.lemmas.Option.{slice_get_past, slice_get-get_or}
use mathlib.Core.Path.{fun_ext}
use Rattle.flat_tree.specs.Subtrees.{Subtree, end_block_of, Tile}
use Rattle.flat_tree.specs.Roots.{full_roots_of}
use Rattle.flat_tree.specs.declared.limits.TheConstants.{MAX_BLOCKS, MAX_FORK}
use Rattle.flat_tree.proofs.RootLemmas.{tile-le, tile-full}
use Rattle.commit_book.specs.declared.commit.Commit.{Commit}
use Rattle.commit_book.specs.declared.commit.Commit.TheVariants.{Append, Truncate, Clear, Fetch, Upgrade, UpgradeFetch, Reorg, ReorgFetch}
use Rattle.commit_book.specs.History.{Summary, HoldsSome, is_between, with_part, without_part, below}
use Rattle.merkle_nodes.specs.declared.node.Twig.{Twig}
use Rattle.merkle_nodes.specs.Roots.{root_hash_of}
use Rattle.node_set.specs.Contents.{Content, Blocks, Values, holds, held, roots, summary_of}
use Rattle.node_set.specs.Changes.{blocks_with, blocks_below, blocks_without, blocks_with_one, append_content, truncate_content, clear_content, upgrade_content, fetch_content}
use Rattle.node_set.specs.Closure.{in_closure}
use Rattle.node_set.specs.Legal.{KeepsHistory}
use Rattle.node_set.specs.Same.{is_stored_as}
use Rattle.node_set.specs.Whole.{IsClosed}
use Rattle.node_set.proofs.ClosureLemmas.{true_closure}
use Rattle.node_set.proofs.KeepsWhole.{clear_roots}
use Rattle.core_forks.specs.Reorganise.{kept_under, kept_of, reorganise_content}
use Rattle.core_forks.specs.Truncations.{HoldsNone, ClearsWhere}
use Rattle.log_change.proofs.Applied.{stored_as}

-- a summary with a held set
abbrev with_set : ℕ → ℕ → List ℕ → (ℕ → Bool) → Summary
with_set fork blocks root set = record { fork = fork; length = blocks; root = root; held = set }

with_held : (fork blocks : ℕ) (root : List ℕ) (one other : ℕ → Bool) → ((index : ℕ) → one index ≡ other index)
    → with_set fork blocks root one ≡ with_set fork blocks root other
with_held fork blocks root one other same = ap (with_set fork blocks root) (fun_ext same)

-- ---- an append

has_item : (more : List (List ℕ)) (at : ℕ) → is_some (slice_get more at) ≡ nat_lt at (length more)
has_item more at = elim (cases_lt at (length more)) [
  | inl less ↦ ap is_some (slice_get-get_or more at [] less) ∙ sym (lt-ltb at (length more) less)
  | inr past ↦ ap is_some (slice_get_past more at past) ∙ sym (le-ltb at (length more) past)
]

held_with : (n : ℕ) (more : List (List ℕ)) (block : Blocks) → ((index : ℕ) → holds block index ≡ true → index < n) → (index : ℕ)
    → holds (blocks_with n more block) index ≡ with_part n (n + length more) (holds block) index
held_with n more block below_n index = elim (cases_lt index n) [
  | inl less ↦ rw (lt-ltb index n less, lt-leb n index less) (sym (or-false (is_some (block index))))
  | inr behind ↦ rw (le-ltb index n behind, le-leb n index behind) (new_part behind)
]
  where
    not_held : n ≤ index → is_some (block index) ≡ false
    not_held behind = elim (cases_Bool (is_some (block index))) [
      | inl here ↦ absurd (omega (arith, behind, below_n index here))
      | inr none ↦ none
    ]

    new_part : n ≤ index → is_some (slice_get more (index - n)) ≡ (is_some (block index) || nat_lt index (n + length more))
    new_part behind =
        rw (not_held behind) (has_item more (index - n) ∙ (elim (cases_lt (index - n) (length more)) [
          | inl less ↦ lt-ltb (index - n) (length more) less ∙ sym (lt-ltb index (n + length more) (omega (arith, less, behind)))
          | inr past ↦ le-ltb (index - n) (length more) past ∙ sym (le-ltb index (n + length more) (omega (arith, past, behind)))
        ]))

pub append_history : (m : Content) (more : List (List ℕ)) (signature : List ℕ) → ((index : ℕ) → held m index ≡ true → index < m.length)
    → 1 ≤ length more → m.length + length more ≤ MAX_BLOCKS → KeepsHistory m (append_content more signature m) (Some (Append (length more)))
append_history m more signature below_length some few =
    let after = append_content more signature m in (
      ((some, few), tt),
      with_held m.fork (m.length + length more) (root_hash_of (roots after)) (holds (blocks_with m.length more m.block))
          (with_part m.length (m.length + length more) (held m)) (held_with m.length more m.block below_length),
    )

-- ---- a truncation

held_below : (to : ℕ) (block : Blocks) (index : ℕ) → holds (blocks_below to block) index ≡ below to (holds block) index
held_below to block index = elim (cases_Bool (nat_lt index to)) [
  | inl kept ↦ rw kept (sym (and-true (is_some (block index))))
  | inr cut ↦ rw cut (sym (and-false (is_some (block index))))
]

pub truncate_history : (m : Content) (to fork : ℕ) (signature : List ℕ) → to ≤ m.length → m.fork < fork → fork ≤ MAX_FORK
    → KeepsHistory m (truncate_content to fork signature m) (Some (Truncate to fork))
truncate_history m to fork signature short greater fits =
    let after = truncate_content to fork signature m in
    (((short, greater, fits), tt), with_held fork to (root_hash_of (roots after)) (holds (blocks_below to m.block)) (below to (held m)) (held_below to m.block))

-- ---- a clearing

held_without : (from to : ℕ) (block : Blocks) (index : ℕ) → holds (blocks_without from to block) index ≡ without_part from to (holds block) index
held_without from to block index = elim (cases_Bool (nat_le from index && nat_lt index to)) [
  | inl given_up ↦ rw given_up (sym (and-false (is_some (block index))))
  | inr kept ↦ rw kept (sym (and-true (is_some (block index))))
]

-- without a held block in the range nothing goes
none_goes : (from to : ℕ) (m : Content) → HoldsNone from to m → (index : ℕ) → holds (blocks_without from to m.block) index ≡ held m index
none_goes from to m none index = elim (cases_Bool (nat_le from index && nat_lt index to)) [
  | inr kept ↦ rw kept refl
  | inl inside ↦
      let parts = and_parts (nat_le from index) (nat_lt index to) inside in
      rw inside (sym (none index (leb-true from index parts.0) (ltb-true index to parts.1)))
]

pub clear_history : (m : Content) (from to : ℕ) (commit : Option Commit) → from ≤ to → to ≤ m.length → ClearsWhere from to m commit
    → KeepsHistory m (clear_content from to m) commit
clear_history m from to commit ordered within where_held =
    let after = clear_content from to m in
    let same = ap root_hash_of (clear_roots m from to) in
    elim where_held [
      | inl some ↦ subst (KeepsHistory m after) (sym some.1) (
        ((ordered, within, some.0), same),
        with_held m.fork m.length (root_hash_of (roots after)) (holds (blocks_without from to m.block)) (without_part from to (held m)) (held_without from to m.block),
      )
      | inr none ↦ subst (KeepsHistory m after) (sym none.1) (
          ap (λ (root : List ℕ). with_set m.fork m.length root (held after)) same
          ∙ with_held m.fork m.length (root_hash_of (roots m)) (held after) (held m) (none_goes from to m none.0))
    ]

-- ---- another log

-- what stays ends by the length of the new log
pub kept_below : (node : Values) (trees : List Subtree) (twigs : List Twig) (from to : ℕ) → Tile trees from to → kept_under node trees twigs from ≤ to
unfolding kept_under
kept_below node [] twigs from to tile = omega (arith, tile)
kept_below node (tree ∷ trees) [] from to tile = tile-le (tree ∷ trees) from to tile
kept_below node (tree ∷ trees) (twig ∷ twigs) from to tile = elim (cases_Bool (is_stored_as (node tree.depth tree.offset) twig)) [
  | inl here ↦ rw here (kept_below node trees twigs (end_block_of tree.depth tree.offset) to tile.1)
  | inr other ↦ rw other (tile-le (tree ∷ trees) from to tile)
]

-- and by that of the old one
pub kept_before : (m : Content) → IsClosed m.length m.block m.node → (trees : List Subtree) (twigs : List Twig) (kept : ℕ) → kept ≤ m.length
    → kept_under m.node trees twigs kept ≤ m.length
unfolding kept_under
kept_before m closed [] twigs kept before = before
kept_before m closed (tree ∷ trees) [] kept before = before
kept_before m closed (tree ∷ trees) (twig ∷ twigs) kept before = elim (cases_Bool (is_stored_as (m.node tree.depth tree.offset) twig)) [
  | inr other ↦ rw other before
  | inl here ↦
      let stored = sym (closed tree.depth tree.offset) ∙ ap is_some (stored_as (m.node tree.depth tree.offset) twig here) in
      let within = (true_closure m.length (held m) tree.depth tree.offset stored).within in
      rw here (kept_before m closed trees twigs (end_block_of tree.depth tree.offset) within)
]

pub reorganise_history : (m : Content) (fork to : ℕ) (nodes : List Twig) (signature : List ℕ) → IsClosed m.length m.block m.node → m.fork < fork → fork ≤ MAX_FORK
    → to ≤ MAX_BLOCKS → KeepsHistory m (reorganise_content fork to nodes signature m) (Some (Reorg fork to (kept_of m to nodes)))
reorganise_history m fork to nodes signature closed greater fits few =
    let after = reorganise_content fork to nodes signature m in
    let kept = kept_of m to nodes in (
      ((greater, fits, few, kept_before m closed (full_roots_of to) nodes 0 (omega arith), kept_below m.node (full_roots_of to) nodes 0 to (tile-full to)), tt),
      with_held fork to (root_hash_of (roots after)) (holds (blocks_below kept m.block)) (below kept (held m)) (held_below kept m.block),
    )

-- ---- a longer log, and a block that comes in

pub upgrade_history : (m : Content) (to : ℕ) (parts : List Twig) (signature : List ℕ) → m.length < to → to ≤ MAX_BLOCKS
    → KeepsHistory m (upgrade_content to parts signature m) (Some (Upgrade to))
upgrade_history m to parts signature longer few = (((longer, few), tt), refl)

held_one : (at : ℕ) (bytes : List ℕ) (block : Blocks) (index : ℕ) → holds (blocks_with_one at bytes block) index ≡ with_part at (at + 1) (holds block) index
held_one at bytes block index = elim (cases_eq index at) [
  | inl same ↦
      let in_part : (nat_le at index && nat_lt index (at + 1)) ≡ true =
      rw (le-leb at index (omega (arith, same)), lt-ltb index (at + 1) (omega (arith, same))) refl in
      rw (eq-eqb index at same, in_part) (sym (or-true (is_some (block index))))
  | inr other ↦
      rw (ne_eqb index at other) (sym (or-false (is_some (block index))) ∙ ap (λ (b : Bool). is_some (block index) || b) (sym (outside other)))
]
  where
    outside : index ≢ at → (nat_le at index && nat_lt index (at + 1)) ≡ false
    outside other = elim (cases_lt index at) [
      | inl less ↦ rw (lt-leb at index less) refl
      | inr past ↦ rw (le-ltb index (at + 1) (omega (arith, past, other))) (and-false (nat_le at index))
    ]

-- the summary after a block came in
fetched_summary : (m : Content) (index : ℕ) (bytes : List ℕ) (path : Values) (set : ℕ → Bool) → ((i : ℕ) → held m i ≡ set i)
    → summary_of (fetch_content index bytes path m)
    ≡ with_set m.fork m.length (root_hash_of (roots (fetch_content index bytes path m))) (with_part index (index + 1) set)
fetched_summary m index bytes path set same =
    with_held m.fork m.length (root_hash_of (roots (fetch_content index bytes path m))) (holds (blocks_with_one index bytes m.block)) (with_part index (index + 1) set)
    (λ i. held_one index bytes m.block i ∙ ap (λ (b : Bool). b || is_between index (index + 1) i) (same i))

pub fetch_history : (m : Content) (index : ℕ) (bytes : List ℕ) (path : Values) → index < m.length → held m index ≡ false
    → roots (fetch_content index bytes path m) ≡ roots m → KeepsHistory m (fetch_content index bytes path m) (Some (Fetch index))
fetch_history m index bytes path within new same = (((within, new), ap root_hash_of same), fetched_summary m index bytes path (held m) (λ i. refl))

pub upgrade_fetch_history : (m : Content) (to : ℕ) (parts : List Twig) (signature : List ℕ) (index : ℕ) (bytes : List ℕ) (path : Values) → m.length < to → to ≤ MAX_BLOCKS
    → index < to → held m index ≡ false → KeepsHistory m (fetch_content index bytes path (upgrade_content to parts signature m)) (Some (UpgradeFetch to index))
upgrade_fetch_history m to parts signature index bytes path longer few within new =
    ((((longer, few), (within, new)), tt), fetched_summary (upgrade_content to parts signature m) index bytes path (held m) (λ i. refl))

pub reorganise_fetch_history : (m : Content) (fork to : ℕ) (nodes : List Twig) (signature : List ℕ) (index : ℕ) (bytes : List ℕ) (path : Values)
    → IsClosed m.length m.block m.node → m.fork < fork → fork ≤ MAX_FORK → to ≤ MAX_BLOCKS → index < to
    → held (reorganise_content fork to nodes signature m) index ≡ false
    → KeepsHistory m (fetch_content index bytes path (reorganise_content fork to nodes signature m)) (Some (ReorgFetch fork to (kept_of m to nodes) index))
reorganise_fetch_history m fork to nodes signature index bytes path closed greater fits few within new =
    let kept = kept_of m to nodes in
    let legal = reorganise_history m fork to nodes signature closed greater fits few in (
      ((legal.0.0, (within, sym (held_below kept m.block index) ∙ new)), tt),
      fetched_summary (reorganise_content fork to nodes signature m) index bytes path (below kept (held m)) (held_below kept m.block),
    )
