-- A sound content whose nodes and blocks are a log's answers as the holder of the log's first blocks does.
use Rattle.std.proofs.Common.{◌≡◌, ℕ, Bool, true, false, ◌<◌, ◌≤◌, inl, inr, List, [], ◌∷◌, length, take, slice_get, Some, None, refl, sym, ap, subst, ◌∙◌, if◌then◌else◌, arith}
use Rattle.std.specs.Prelude.{Option, is_some, ◌&&◌, nat_eq, nat_le, nat_lt}
use Rattle.std.specs.List.{list_all}
use Rattle.std.proofs.lemmas.Bool.{and_parts, and_from, cases_Bool, leb-true, ltb-true}
use Rattle.std.proofs.lemmas.List.{length-take-le, get_or-take}
use Rattle.std.proofs.lemmas.Option.{slice_get-get_or}
use Rattle.flat_tree.specs.Subtrees.{Subtree}
use Rattle.flat_tree.specs.Roots.{depth_over}
use Rattle.flat_tree.specs.Covers.{cover_of}
use Rattle.merkle_nodes.specs.declared.node.Twig.{Twig}
use Rattle.merkle_nodes.specs.Tree.{tree_of}
use Rattle.merkle_nodes.proofs.Descent.{tree_of-take}
use Rattle.proof_form.specs.declared.request.Want.{Want}
use Rattle.proof_form.specs.declared.request.Reach.{Reach}
use Rattle.proof_form.specs.declared.proof.HashPart.{HashPart}
use Rattle.proof_form.specs.declared.proof.UpgradePart.{UpgradePart}
use Rattle.proof_form.specs.Proofs.{Block}
use Rattle.node_set.specs.Contents.{Content, Values, holds, held, twig_at}
use Rattle.node_set.specs.Closure.{is_within, in_closure}
use Rattle.node_set.specs.Evidence.{IsOf, OrClash, NodesAreOf, BlocksAreOf}
use Rattle.node_set.specs.Paths.{depth_of, offset_of_node, has_trail, trail_at}
use Rattle.node_set.specs.Whole.{IsSound}
use Rattle.node_set.proofs.ClosureLemmas.{in_closure-more, true_closure, within_true}
use Rattle.node_set.proofs.EvidenceLemmas.{or_clash_then}
use Rattle.node_set.proofs.RootTruth.{some_or_none, twig_at-some}
use Rattle.node_set.proofs.SizeTruth.{nodes_are_of, blocks_are_of}
use Rattle.node_set.proofs.Stored.{some_of}
use Rattle.proof_make.specs.Answers.{part_for, block_with, block_for, hash_with, hash_for, upgrade_for, any_block_for, proof_with, made_from, full_content}
use Rattle.proof_make.proofs.Covers.{twigs_at}
use Rattle.proof_offer.specs.Parts.{siblings_of}
use Rattle.proof_offer.specs.Replies.{ProofsAreOf}
use Rattle.proof_offer.proofs.Deciding.{stored_nodes}
use Rattle.proof_offer.proofs.Fitting.{asking}
use Rattle.proof_offer.proofs.Siblings.{siblings_stored, trail-siblings, has_trail-siblings}

-- ---- answers that stay

-- each answer is the other's too
abbrev pub Stays : {A : Type 0} → Option A → Option A → Type 0
Stays one other = (answer : _) → one ≡ Some answer → other ≡ Some answer

stays_if : {A : Type 0} (test : Bool) (one other : Option A) → (test ≡ true → Stays one other)
    → Stays (if test then one else None) (if test then other else None)
stays_if true one other stays = stays refl
stays_if false one other stays = λ answer is. is

stays_part : {A B : Type 0} (asked : Option A) (one other : A → Option B) → ((a : A) → Stays (one a) (other a))
    → Stays (part_for asked one) (part_for asked other)
stays_part None one other stays = λ answer is. is
stays_part (Some a) one other stays = λ answer is. elim (some_or_none (one a)) [
  | inl (b, there) ↦
      let given : Some (Some b) ≡ Some answer = sym (rw there refl) ∙ is in
      rw (stays a b there) given
  | inr none ↦
      let nothing : part_for (Some a) one ≡ None = rw none refl in
      cc
]

stays_proof : (fork : ℕ) (seek : Option ℕ) (block block' : Option (Option Block)) (hash hash' : Option (Option HashPart)) (upgrade upgrade' : Option (Option UpgradePart))
    → Stays block block' → Stays hash hash' → Stays upgrade upgrade' → Stays (proof_with fork seek block hash upgrade) (proof_with fork seek block' hash' upgrade')
stays_proof fork seek None block' hash hash' upgrade upgrade' blocks hashes upgrades = λ answer is. cc
stays_proof fork seek (Some b) block' None hash' upgrade upgrade' blocks hashes upgrades = λ answer is. cc
stays_proof fork seek (Some b) block' (Some h) hash' None upgrade' blocks hashes upgrades = λ answer is. cc
stays_proof fork seek (Some b) block' (Some h) hash' (Some u) upgrade' blocks hashes upgrades = λ answer is. rw (blocks b refl, hashes h refl, upgrades u refl) is

-- what was given passed its test
given_if : {A : Type 0} (test : Bool) (x answer : A) → (if test then Some x else None) ≡ Some answer → test ≡ true
given_if true x answer is = refl
given_if false x answer is = cc

-- ---- a content of a log, beside the one that holds the log's first blocks

module _ (m : Content) (log : List (List ℕ)) (sound : IsSound m) (long : m.length ≤ length log) (nodes : NodesAreOf m log) (blocks : BlocksAreOf m log) where
  full : Content
  full = full_content (take m.length log) m.fork m.signature

  same_length : length (take m.length log) ≡ m.length
  same_length = length-take-le m.length log long

  -- a held block
  block_there : (index : ℕ) → Stays (m.block index) (slice_get (take m.length log) index)
  block_there index bytes there =
      let below = sound.blocks.below index bytes there in
      slice_get-get_or (take m.length log) index [] (omega (arith, below, same_length))
      ∙ ap Some (get_or-take m.length log index [] below)
      ∙ sym (slice_get-get_or log index [] (omega (arith, below, long)))
      ∙ blocks index bytes there

  held_there : (index : ℕ) → held m index ≡ true → is_some (slice_get (take m.length log) index) ≡ true
  held_there index there =
      let block = some_of (m.block index) there in
      ap is_some (block_there index block.0 block.1)

  -- a stored node
  node_there : (depth offset : ℕ) → Stays (m.node depth offset) (full.node depth offset)
  unfolding full
  node_there depth offset twig there =
      let first = take m.length log in
      let own : in_closure m.length (held m) depth offset ≡ true = sym (sound.closed depth offset) ∙ ap is_some there in
      let more = in_closure-more m.length (held m) (holds (slice_get first)) held_there depth offset own in
      let within = (true_closure m.length (held m) depth offset own).within in
      let in_full : in_closure (length first) (holds (slice_get first)) depth offset ≡ true =
      ap (λ (n : ℕ). in_closure n (holds (slice_get first)) depth offset) same_length ∙ more in
      let is_in : is_within (length first) depth offset ≡ true =
      ap (λ (n : ℕ). is_within n depth offset) same_length ∙ within_true m.length depth offset within in
      let value : tree_of first depth offset ≡ twig = tree_of-take log m.length depth offset within ∙ sym (nodes depth offset twig there) in
      rw (in_full, is_in, value) refl

  -- the nodes of some subtrees
  nodes_same : (trees : List Subtree) → list_all (λ (tree : Subtree). is_some (m.node tree.depth tree.offset)) trees ≡ true
      → (list_all (λ (tree : Subtree). is_some (full.node tree.depth tree.offset)) trees ≡ true) × (twigs_at full.node trees ≡ twigs_at m.node trees)
  nodes_same [] all = (refl, refl)
  nodes_same (tree ∷ trees) all =
      let others = λ (node : Values). list_all (λ (t : Subtree). is_some (node t.depth t.offset)) trees in
      let parts = and_parts (is_some (m.node tree.depth tree.offset)) (others m.node) all in
      let rest = nodes_same trees parts.1 in
      let (twig, own) = some_of (m.node tree.depth tree.offset) parts.0 in
      let there = node_there tree.depth tree.offset twig own in
      let same = twig_at-some full.node tree.depth tree.offset twig there ∙ sym (twig_at-some m.node tree.depth tree.offset twig own) in (
        and_from (is_some (full.node tree.depth tree.offset)) (others full.node) (ap is_some there) rest.0,
        ap (λ (t : Twig). t ∷ twigs_at full.node trees) same
            ∙ ap (λ (twigs : List Twig). twig_at m.node tree.depth tree.offset ∷ twigs) rest.1,
      )

  -- a trail
  trail_same : (depth offset count : ℕ) → list_all (λ (tree : Subtree). is_some (m.node tree.depth tree.offset)) (siblings_of depth offset count) ≡ true
      → (has_trail full.node depth offset count ≡ true) × (trail_at full.node depth offset count ≡ trail_at m.node depth offset count)
  trail_same depth offset count all =
      let same = nodes_same (siblings_of depth offset count) all in (
        sym (has_trail-siblings full.node depth offset count) ∙ same.0,
        sym (trail-siblings full.node depth offset count) ∙ same.1 ∙ trail-siblings m.node depth offset count,
      )

  -- the parts
  stays_block_with : (index count : ℕ) → index < m.length → count ≤ depth_over m.length index
      → Stays (block_with m index count (m.block index)) (block_with full index count (slice_get (take m.length log) index))
  stays_block_with index count within few answer is = elim (some_or_none (m.block index)) [
    | inl (bytes, there) ↦
        let stored = stored_nodes m sound (siblings_of 0 index count) ∙ siblings_stored m index count (ap is_some there) within few in
        let block : Some (record { index = index; bytes = bytes; trail = trail_at m.node 0 index count }) ≡ Some answer = sym (rw there refl) ∙ is in
        rw (block_there index bytes there, (trail_same 0 index count stored).1) block
    | inr none ↦
        let nothing : block_with m index count (m.block index) ≡ None = rw none refl in
        cc
  ]

  stays_block : (want : Want) → Stays (block_for m want) (block_for full want)
  unfolding full
  stays_block want =
      let first = take m.length log in
      let tested = λ (n : ℕ). nat_lt want.index n && nat_le want.nodes (depth_over n want.index) in
      let given = λ (n : ℕ). if tested n then block_with full want.index want.nodes (slice_get first want.index) else None in
      subst (λ (n : ℕ). Stays (block_for m want) (given n)) (sym same_length)
      (stays_if (tested m.length) _ _ (λ passed.
      let parts = and_parts (nat_lt want.index m.length) (nat_le want.nodes (depth_over m.length want.index)) passed in
      stays_block_with want.index want.nodes (omega (arith, ltb-true want.index m.length parts.0))
      (leb-true want.nodes (depth_over m.length want.index) parts.1)))

  stays_hash_with : (depth offset count : ℕ) → has_trail m.node depth offset count ≡ true
      → Stays (hash_with m depth offset count (m.node depth offset)) (if has_trail full.node depth offset count then hash_with full depth offset count (full.node depth offset) else None)
  stays_hash_with depth offset count all answer is = elim (some_or_none (m.node depth offset)) [
    | inl (twig, there) ↦
        let same = trail_same depth offset count (has_trail-siblings m.node depth offset count ∙ all) in
        let hash : hash_with m depth offset count (Some twig) ≡ Some answer = sym (rw there refl) ∙ is in
        rw (same.0, node_there depth offset twig there, same.1) hash
    | inr none ↦
        let nothing : hash_with m depth offset count (m.node depth offset) ≡ None = rw none refl in
        cc
  ]

  stays_hash : (want : Want) → Stays (hash_for m want) (hash_for full want)
  stays_hash want answer is =
      let depth = depth_of want.index in
      let offset = offset_of_node want.index in
      elim (cases_Bool (has_trail m.node depth offset want.nodes)) [
        | inl all ↦ stays_hash_with depth offset want.nodes all answer (rw all at is)
        | inr lacks ↦
            let nothing : None ≡ Some answer = rw lacks at is in
            cc
      ]

  stays_upgrade : (reach : Reach) → Stays (upgrade_for m reach) (upgrade_for full reach)
  unfolding full
  stays_upgrade reach answer is =
      let trees = cover_of reach.start reach.length in
      let ends = λ (n : ℕ). nat_eq reach.length n && nat_lt reach.start reach.length in
      let stored = list_all (λ (tree : Subtree). is_some (m.node tree.depth tree.offset)) trees in
      let upgrade : UpgradePart = record { start = reach.start; length = reach.length; nodes = twigs_at m.node trees; signature = m.signature } in
      let parts = and_parts (ends m.length) stored (given_if (ends m.length && stored) upgrade answer is) in
      let same = nodes_same trees parts.1 in
      let given : Some upgrade ≡ Some answer = sym (rw (parts.0, parts.1) refl) ∙ is in
      rw (ap ends same_length ∙ parts.0, same.0, same.1) given

  any_block_stays : (fork : ℕ) (block hash : Option Want) (upgrade : Option Reach)
      → Stays (any_block_for m (asking fork block hash None upgrade)) (any_block_for full (asking fork block hash None upgrade))
  any_block_stays fork None hash upgrade = λ answer is. is
  any_block_stays fork (Some want) hash upgrade = stays_part (Some want) (block_for m) (block_for full) stays_block

  -- the whole
  request_stays : (fork : ℕ) (block hash : Option Want) (upgrade : Option Reach)
      → Stays (made_from m (asking fork block hash None upgrade)) (made_from full (asking fork block hash None upgrade))
  unfolding full
  request_stays fork block hash upgrade =
      stays_if (nat_eq fork m.fork) _ _ (λ _.
      stays_proof m.fork None _ _ _ _ _ _ (any_block_stays fork block hash upgrade) (stays_part hash (hash_for m) (hash_for full) stays_hash)
      (stays_part upgrade (upgrade_for m) (upgrade_for full) stays_upgrade))

  pub answers_same : ProofsAreOf m log
  unfolding full
  answers_same request proof none given =
      let is = ap (λ (seek : Option ℕ). record request { seek = seek }) none in
      ap (made_from full) is ∙ request_stays request.fork request.block request.hash request.upgrade proof (sym (ap (made_from m) is) ∙ given)

-- the log's proofs, or a clash
pub proofs_are_of : (m : Content) (log : List (List ℕ)) → IsSound m → IsOf m log → OrClash (ProofsAreOf m log) m log
proofs_are_of m log sound is =
    or_clash_then (nodes_are_of m log sound is) (λ nodes.
    or_clash_then (blocks_are_of m log sound is) (λ blocks.
    inl (answers_same m log sound is.long nodes blocks)))
