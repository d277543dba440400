-- A sound content whose nodes and blocks are a log's answers plain requests as the holder of the log's first blocks does.
use Rattle.std.proofs.Common.{◌≡◌, ℕ, zero, suc, Bool, true, false, ◌+◌, ◌/◌, ◌^◌, ◌<◌, ◌≤◌, inl, inr, List, [], ◌∷◌, ◌++◌, length, take, slice_get, Some, None, refl, sym, ap, subst, ◌∙◌, if◌then◌else◌, arith, add-one}
use Rattle.std.specs.Prelude.{Option, is_some, not, ◌&&◌, nat_eq, nat_le, nat_lt}
use Rattle.std.specs.List.{list_all}
use Rattle.std.proofs.lemmas.Bool.{and_parts, and_from, leb-true, ltb-true}
use Rattle.std.proofs.lemmas.List.{length-take-le, get_or-take}
use Rattle.std.proofs.lemmas.Option.{slice_get-get_or}
use Rattle.flat_tree.specs.Subtrees.{Subtree}
use Rattle.flat_tree.specs.Roots.{depth_over}
use Rattle.flat_tree.specs.Covers.{cover_of}
use Rattle.merkle_nodes.specs.declared.node.Twig.{Twig}
use Rattle.merkle_nodes.specs.Tree.{tree_of}
use Rattle.merkle_nodes.proofs.Descent.{tree_of-take}
use Rattle.proof_form.specs.declared.request.Want.{Want}
use Rattle.proof_form.specs.declared.request.Reach.{Reach}
use Rattle.proof_form.specs.declared.request.Request.{Request}
use Rattle.proof_form.specs.declared.proof.UpgradePart.{UpgradePart}
use Rattle.proof_form.specs.Proofs.{Block}
use Rattle.node_set.specs.Contents.{Content, Values, holds, held, twig_at}
use Rattle.node_set.specs.Closure.{is_within, in_closure}
use Rattle.node_set.specs.Evidence.{IsOf, OrClash, NodesAreOf, BlocksAreOf}
use Rattle.node_set.specs.Paths.{sibling_of, trail_at}
use Rattle.node_set.specs.Whole.{IsSound}
use Rattle.node_set.proofs.ClosureLemmas.{in_closure-more, true_closure, within_true}
use Rattle.node_set.proofs.EvidenceLemmas.{or_clash_then}
use Rattle.node_set.proofs.RootTruth.{some_or_none, twig_at-some}
use Rattle.node_set.proofs.SizeTruth.{nodes_are_of, blocks_are_of}
use Rattle.node_set.proofs.Stored.{some_of}
use Rattle.proof_make.specs.Answers.{part_for, block_with, block_for, upgrade_for, any_block_for, proof_with, made_from, full_content}
use Rattle.proof_make.specs.Offers.{is_plain, ProofsAreOf}
use Rattle.proof_make.proofs.Covers.{twigs_at}
use Rattle.proof_make.proofs.Siblings.{sibling_in_closure, trail_more}
use Rattle.proof_make.proofs.Upgrades.{upgrade_of}

-- ---- answers that stay

-- each answer is the other's too
abbrev pub Keeps : {A : Type 0} → Option A → Option A → Type 0
Keeps one other = (answer : _) → one ≡ Some answer → other ≡ Some answer

keeps_if : {A : Type 0} (test : Bool) (one other : Option A) → (test ≡ true → Keeps one other)
    → Keeps (if test then one else None) (if test then other else None)
keeps_if true one other keeps = keeps refl
keeps_if false one other keeps = λ answer is. is

keeps_part : {A B : Type 0} (asked : Option A) (one other : A → Option B) → ((a : A) → Keeps (one a) (other a))
    → Keeps (part_for asked one) (part_for asked other)
keeps_part None one other keeps = λ answer is. is
keeps_part (Some a) one other keeps = λ answer is. elim (some_or_none (one a)) [
  | inl (b, there) ↦
      let given : Some (Some b) ≡ Some answer = sym (rw there refl) ∙ is in
      rw (keeps a b there) given
  | inr none ↦
      let nothing : part_for (Some a) one ≡ None = rw none refl in
      cc
]

keeps_proof : (fork : ℕ) (block block' : Option (Option Block)) (upgrade upgrade' : Option (Option UpgradePart)) → Keeps block block' → Keeps upgrade upgrade'
    → Keeps (proof_with fork None block (Some None) upgrade) (proof_with fork None block' (Some None) upgrade')
keeps_proof fork None block' upgrade upgrade' blocks upgrades = λ answer is. cc
keeps_proof fork (Some b) block' None upgrade' blocks upgrades = λ answer is. cc
keeps_proof fork (Some b) block' (Some u) upgrade' blocks upgrades = λ answer is. rw (blocks b refl, upgrades u refl) is

-- what was given passed its test
given_if : {A : Type 0} (test : Bool) (x answer : A) → (if test then Some x else None) ≡ Some answer → test ≡ true
given_if true x answer is = refl
given_if false x answer is = cc

-- ---- a plain request by its parts

abbrev plain : ℕ → Option Want → Option Reach → Request
plain fork block upgrade = record { fork = fork; block = block; hash = None; seek = None; upgrade = upgrade }

none_of : {A : Type 0} (found : Option A) → not (is_some found) ≡ true → found ≡ None
none_of None lacks = refl
none_of (Some x) lacks = cc

plain_is : (request : Request) → is_plain request ≡ true → request ≡ plain request.fork request.block request.upgrade
plain_is request test =
    let parts = and_parts (not (is_some request.hash)) (not (is_some request.seek)) test in
    ap (λ (hash : Option Want). record request { hash = hash }) (none_of request.hash parts.0)
    ∙ ap (λ (seek : Option ℕ). record (record request { hash = None }) { seek = seek }) (none_of request.seek parts.1)

any_block : (m : Content) (fork : ℕ) (block : Option Want) (upgrade : Option Reach) → any_block_for m (plain fork block upgrade) ≡ part_for block (block_for m)
any_block m fork None upgrade = refl
any_block m fork (Some want) upgrade = refl

-- ---- a content of a log, beside the one that holds the log's first blocks

module _ (m : Content) (log : List (List ℕ)) (sound : IsSound m) (long : m.length ≤ length log) (nodes : NodesAreOf m log) (blocks : BlocksAreOf m log) where
  full : Content
  full = full_content (take m.length log) m.fork m.signature

  same_length : length (take m.length log) ≡ m.length
  same_length = length-take-le m.length log long

  -- a held block
  block_there : (index : ℕ) → Keeps (m.block index) (slice_get (take m.length log) index)
  block_there index bytes there =
      let below = sound.blocks.below index bytes there in
      let of_log = blocks index bytes there in
      slice_get-get_or (take m.length log) index [] (omega (arith, below, same_length))
      ∙ ap Some (get_or-take m.length log index [] below)
      ∙ sym (slice_get-get_or log index [] (omega (arith, below, long)))
      ∙ of_log

  held_there : (index : ℕ) → held m index ≡ true → is_some (slice_get (take m.length log) index) ≡ true
  held_there index there =
      let block = some_of (m.block index) there in
      ap is_some (block_there index block.0 block.1)

  -- a stored node
  node_there : (depth offset : ℕ) → Keeps (m.node depth offset) (full.node depth offset)
  unfolding full
  node_there depth offset twig there =
      let first = take m.length log in
      let own : in_closure m.length (held m) depth offset ≡ true = sym (sound.closed depth offset) ∙ ap is_some there in
      let more = in_closure-more m.length (held m) (holds (slice_get first)) held_there depth offset own in
      let within = (true_closure m.length (held m) depth offset own).within in
      let in_full : in_closure (length first) (holds (slice_get first)) depth offset ≡ true =
      ap (λ (n : ℕ). in_closure n (holds (slice_get first)) depth offset) same_length ∙ more in
      let is_in : is_within (length first) depth offset ≡ true =
      ap (λ (n : ℕ). is_within n depth offset) same_length ∙ within_true m.length depth offset within in
      let value : tree_of first depth offset ≡ twig = tree_of-take log m.length depth offset within ∙ sym (nodes depth offset twig there) in
      rw (in_full, is_in, value) refl

  twig_same : (depth offset : ℕ) → is_some (m.node depth offset) ≡ true → twig_at full.node depth offset ≡ twig_at m.node depth offset
  twig_same depth offset there =
      let stored = some_of (m.node depth offset) there in
      twig_at-some full.node depth offset stored.0 (node_there depth offset stored.0 stored.1) ∙ sym (twig_at-some m.node depth offset stored.0 stored.1)

  -- the trail of a held block
  trail_same : (index count : ℕ) → held m index ≡ true → index < m.length → count ≤ depth_over m.length index
      → trail_at full.node 0 index count ≡ trail_at m.node 0 index count
  trail_same index zero there within few = refl
  trail_same index (suc count) there within few =
      let offset = sibling_of (index / 2 ^ count) in
      let stored = sound.closed count offset ∙ sibling_in_closure m.length (held m) index count there within (omega (arith, few)) in
      let before = trail_same index count there within (omega (arith, few)) in
      let all : trail_at full.node 0 index (count + 1) ≡ trail_at m.node 0 index (count + 1) =
      trail_more full.node index count
      ∙ ap (λ (twigs : List Twig). twigs ++ twig_at full.node count offset ∷ []) before
      ∙ ap (λ (twig : Twig). trail_at m.node 0 index count ++ twig ∷ []) (twig_same count offset stored)
      ∙ sym (trail_more m.node index count) in
      subst (λ (k : ℕ). trail_at full.node 0 index k ≡ trail_at m.node 0 index k) (add-one count) all

  -- the nodes of some subtrees
  nodes_same : (trees : List Subtree) → list_all (λ (tree : Subtree). is_some (m.node tree.depth tree.offset)) trees ≡ true
      → (list_all (λ (tree : Subtree). is_some (full.node tree.depth tree.offset)) trees ≡ true) × (twigs_at full.node trees ≡ twigs_at m.node trees)
  nodes_same [] all = (refl, refl)
  nodes_same (tree ∷ trees) all =
      let others = λ (node : Values). list_all (λ (t : Subtree). is_some (node t.depth t.offset)) trees in
      let parts = and_parts (is_some (m.node tree.depth tree.offset)) (others m.node) all in
      let rest = nodes_same trees parts.1 in
      let stored = some_of (m.node tree.depth tree.offset) parts.0 in
      let here : is_some (full.node tree.depth tree.offset) ≡ true = ap is_some (node_there tree.depth tree.offset stored.0 stored.1) in (
        and_from (is_some (full.node tree.depth tree.offset)) (others full.node) here rest.0,
        ap (λ (twig : Twig). twig ∷ twigs_at full.node trees) (twig_same tree.depth tree.offset parts.0)
            ∙ ap (λ (twigs : List Twig). twig_at m.node tree.depth tree.offset ∷ twigs) rest.1,
      )

  keeps_block_with : (index count : ℕ) → index < m.length → count ≤ depth_over m.length index
      → Keeps (block_with m index count (m.block index)) (block_with full index count (slice_get (take m.length log) index))
  keeps_block_with index count within few answer is = elim (some_or_none (m.block index)) [
    | inl (bytes, there) ↦
        let block : Some (record { index = index; bytes = bytes; trail = trail_at m.node 0 index count }) ≡ Some answer = sym (rw there refl) ∙ is in
        rw (block_there index bytes there, trail_same index count (ap is_some there) within few) block
    | inr none ↦
        let nothing : block_with m index count (m.block index) ≡ None = rw none refl in
        cc
  ]

  -- the parts
  keeps_block : (want : Want) → Keeps (block_for m want) (block_for full want)
  unfolding full
  keeps_block want =
      let first = take m.length log in
      let tested = λ (n : ℕ). nat_lt want.index n && nat_le want.nodes (depth_over n want.index) in
      let given = λ (n : ℕ). if tested n then block_with full want.index want.nodes (slice_get first want.index) else None in
      subst (λ (n : ℕ). Keeps (block_for m want) (given n)) (sym same_length)
      (keeps_if (tested m.length) _ _ (λ passed.
      let parts = and_parts (nat_lt want.index m.length) (nat_le want.nodes (depth_over m.length want.index)) passed in
      keeps_block_with want.index want.nodes (omega (arith, ltb-true want.index m.length parts.0))
      (leb-true want.nodes (depth_over m.length want.index) parts.1)))

  keeps_upgrade : (reach : Reach) → Keeps (upgrade_for m reach) (upgrade_for full reach)
  unfolding full
  keeps_upgrade reach answer is =
      let trees = cover_of reach.start reach.length in
      let ends = λ (n : ℕ). nat_eq reach.length n && nat_lt reach.start reach.length in
      let stored = list_all (λ (tree : Subtree). is_some (m.node tree.depth tree.offset)) trees in
      let upgrade = upgrade_of reach (twigs_at m.node trees) m.signature in
      let parts = and_parts (ends m.length) stored (given_if (ends m.length && stored) upgrade answer is) in
      let same = nodes_same trees parts.1 in
      let given : Some upgrade ≡ Some answer = sym (rw (parts.0, parts.1) refl) ∙ is in
      rw (ap ends same_length ∙ parts.0, same.0, same.1) given

  keeps_plain : (fork : ℕ) (block : Option Want) (upgrade : Option Reach)
      → Keeps (made_from m (plain fork block upgrade)) (made_from full (plain fork block upgrade))
  unfolding full
  keeps_plain fork block upgrade = rw (any_block m fork block upgrade, any_block full fork block upgrade)
      (keeps_if (nat_eq fork m.fork) _ _ (λ _.
      keeps_proof m.fork _ _ _ _ (keeps_part block (block_for m) (block_for full) keeps_block)
      (keeps_part upgrade (upgrade_for m) (upgrade_for full) keeps_upgrade)))

  -- the whole
  pub answers_same : ProofsAreOf m log
  unfolding full
  answers_same request proof test given =
      let is = plain_is request test in
      ap (made_from full) is ∙ keeps_plain request.fork request.block request.upgrade proof (sym (ap (made_from m) is) ∙ given)

-- the log's proofs, or a clash
pub proofs_are_of : (m : Content) (log : List (List ℕ)) → IsSound m → IsOf m log → OrClash (ProofsAreOf m log) m log
proofs_are_of m log sound is =
    or_clash_then (nodes_are_of m log sound is) (λ nodes.
    or_clash_then (blocks_are_of m log sound is) (λ blocks.
    inl (answers_same m log sound is.long nodes blocks)))
