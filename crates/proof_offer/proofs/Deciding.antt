-- Where exactly the nodes of the closure are stored, the closure decides which requests have a proof.
use Rattle.std.proofs.Common.{◌≡◌, ℕ, zero, suc, Bool, true, false, ◌+◌, ◌<◌, inl, inr, List, [], ◌∷◌, Some, None, refl, sym, ap, ◌∙◌, if◌then◌else◌, arith}
use Rattle.std.specs.Prelude.{Option, is_some, ◌&&◌, nat_eq, nat_le, nat_lt}
use Rattle.std.specs.List.{list_all}
use Rattle.std.proofs.lemmas.Bool.{and_parts, and_from, cases_Bool, lt-ltb, le-leb}
use Rattle.flat_tree.specs.Subtrees.{Subtree}
use Rattle.flat_tree.specs.Roots.{depth_over}
use Rattle.flat_tree.specs.Covers.{cover_of}
use Rattle.merkle_nodes.specs.declared.node.Twig.{Twig}
use Rattle.proof_form.specs.declared.request.Want.{Want}
use Rattle.proof_form.specs.declared.request.Reach.{Reach}
use Rattle.proof_form.specs.declared.request.Request.{Request}
use Rattle.proof_form.specs.declared.proof.HashPart.{HashPart}
use Rattle.proof_form.specs.declared.proof.UpgradePart.{UpgradePart}
use Rattle.proof_form.specs.Proofs.{Block}
use Rattle.node_set.specs.Contents.{Content, held}
use Rattle.node_set.specs.Closure.{in_closure}
use Rattle.node_set.specs.Offsets.{offset_of, size_at, has_byte, spot_below, seek_at}
use Rattle.node_set.specs.Paths.{depth_of, offset_of_node, has_trail}
use Rattle.node_set.specs.Whole.{IsSound}
use Rattle.node_set.proofs.RootTruth.{some_or_none}
use Rattle.proof_make.specs.Answers.{part_for, block_with, block_for, hash_with, hash_for, upgrade_for, any_block_for, proof_with, made_from}
use Rattle.proof_make.specs.Offers.{passes, has_block, ends_at, has_nodes}
use Rattle.proof_offer.specs.Parts.{siblings_of}
use Rattle.proof_offer.specs.Replies.{asked_block, is_found, has_hash, has_upgrade, has_reply, IsSought}
use Rattle.proof_offer.proofs.Fitting.{asking}
use Rattle.proof_offer.proofs.Siblings.{has_trail-siblings}
use Rattle.proof_offer.proofs.Making.{any_block}

-- ---- a test before an answer

is_some-if : {A : Type 0} (test : Bool) (x : A) → is_some (if test then Some x else None) ≡ test
is_some-if true x = refl
is_some-if false x = refl

is_some-part : {A B : Type 0} (asked : Option A) (answer : A → Option B) (test : A → Bool) → ((a : A) → is_some (answer a) ≡ test a)
    → is_some (part_for asked answer) ≡ passes test asked
is_some-part None answer test is = refl
is_some-part (Some a) answer test is = is_some-given (answer a) ∙ is a
  where
    is_some-given : {B : Type 0} (found : Option B) → is_some (part_for (Some found) (λ f. f)) ≡ is_some found
    is_some-given None = refl
    is_some-given (Some b) = refl

is_some-block : (m : Content) (index count : ℕ) (below few : Bool) (found : Option (List ℕ))
    → is_some (if below && few then block_with m index count found else None) ≡ (below && is_some found && few)
is_some-block m index count false few found = refl
is_some-block m index count true false None = refl
is_some-block m index count true false (Some bytes) = refl
is_some-block m index count true true None = refl
is_some-block m index count true true (Some bytes) = refl

is_some-hash : (m : Content) (depth offset count : ℕ) (stored : Bool) (found : Option Twig)
    → is_some (if stored then hash_with m depth offset count found else None) ≡ (is_some found && stored)
is_some-hash m depth offset count false None = refl
is_some-hash m depth offset count false (Some twig) = refl
is_some-hash m depth offset count true None = refl
is_some-hash m depth offset count true (Some twig) = refl

is_some-proof : (own : Bool) (fork : ℕ) (seek : Option ℕ) (block : Option (Option Block)) (hash : Option (Option HashPart)) (upgrade : Option (Option UpgradePart))
    → is_some (if own then proof_with fork seek block hash upgrade else None) ≡ (own && is_some block && is_some hash && is_some upgrade)
is_some-proof false fork seek block hash upgrade = refl
is_some-proof true fork seek None hash upgrade = refl
is_some-proof true fork seek (Some block) None upgrade = refl
is_some-proof true fork seek (Some block) (Some hash) None = refl
is_some-proof true fork seek (Some block) (Some hash) (Some upgrade) = refl

-- ---- the block that has a byte is held

pub spot_held : (n : ℕ) (m : Content) (byte index : ℕ) → spot_below n m byte ≡ Some index → (index < n) × (has_byte m byte index ≡ true)
unfolding spot_below
spot_held zero m byte index is = cc
spot_held (suc n) m byte index is = elim (some_or_none (spot_below n m byte)) [
  | inl (first, there) ↦
      let before : spot_below n m byte ≡ Some index = there ∙ rw there at is in
      let lower = spot_held n m byte index before in
      (omega (arith, lower.0), lower.1)
  | inr none ↦ elim (cases_Bool (has_byte m byte n)) [
    | inl here ↦
        let same : Some n ≡ Some index = rw (none, here) at is in
        let own : n ≡ index = cc in
        (omega (arith, own), ap (has_byte m byte) (sym own) ∙ here)
    | inr past ↦
        let nothing : None ≡ Some index = rw (none, past) at is in
        cc
  ]
]

pub seek_held : (m : Content) (byte index : ℕ) → seek_at m byte ≡ Some index → (index < m.length) × (held m index ≡ true)
seek_held m byte index is =
    let spot = spot_held m.length m byte index is in
    let starts = nat_le (offset_of m index) byte in
    let ends = nat_lt byte (offset_of m index + size_at m.block index) in
    (spot.0, (and_parts (held m index) starts (and_parts (held m index && starts) ends spot.1).0).0)

-- ---- what decides

module _ (m : Content) (sound : IsSound m) where
  pub stored_nodes : (trees : List Subtree) → list_all (λ (tree : Subtree). is_some (m.node tree.depth tree.offset)) trees ≡ has_nodes m trees
  stored_nodes [] = refl
  stored_nodes (tree ∷ trees) =
      ap (λ (b : Bool). b && list_all (λ (t : Subtree). is_some (m.node t.depth t.offset)) trees) (sound.closed tree.depth tree.offset)
      ∙ ap (λ (b : Bool). in_closure m.length (held m) tree.depth tree.offset && b) (stored_nodes trees)

  block_decided : (want : Want) → is_some (block_for m want) ≡ has_block m want
  block_decided want =
      is_some-block m want.index want.nodes (nat_lt want.index m.length) (nat_le want.nodes (depth_over m.length want.index)) (m.block want.index)

  hash_decided : (want : Want) → is_some (hash_for m want) ≡ has_hash m want
  hash_decided want =
      let depth = depth_of want.index in
      let offset = offset_of_node want.index in
      let trail = sym (has_trail-siblings m.node depth offset want.nodes) ∙ stored_nodes (siblings_of depth offset want.nodes) in
      is_some-hash m depth offset want.nodes (has_trail m.node depth offset want.nodes) (m.node depth offset)
      ∙ ap (λ (b : Bool). b && has_trail m.node depth offset want.nodes) (sound.closed depth offset)
      ∙ ap (λ (b : Bool). in_closure m.length (held m) depth offset && b) trail

  upgrade_decided : (reach : Reach) → is_some (upgrade_for m reach) ≡ has_upgrade m reach
  upgrade_decided reach =
      let trees = cover_of reach.start reach.length in
      is_some-if (ends_at m.length reach && list_all (λ (tree : Subtree). is_some (m.node tree.depth tree.offset)) trees) _
      ∙ ap (λ (b : Bool). ends_at m.length reach && b) (stored_nodes trees)

  any_block_decided : (fork : ℕ) (block hash : Option Want) (seek sought : Option ℕ) (upgrade : Option Reach)
      → IsSought m (asking fork block hash seek upgrade) sought
      → is_some (any_block_for m (asking fork block hash seek upgrade))
      ≡ (is_found (asking fork block hash seek upgrade) sought && passes (has_block m) (asked_block m.length (asking fork block hash seek upgrade) sought))
  any_block_decided fork (Some want) hash seek sought upgrade is = is_some-part (Some want) (block_for m) (has_block m) block_decided
  any_block_decided fork None hash None sought upgrade is = refl
  any_block_decided fork None hash (Some byte) None upgrade is = rw (sym is) refl
  any_block_decided fork None hash (Some byte) (Some index) upgrade is =
      let there = seek_held m byte index (sym is) in
      let below : nat_lt index m.length ≡ true = lt-ltb index m.length there.0 in
      let whole : nat_le (depth_over m.length index) (depth_over m.length index) ≡ true = le-leb (depth_over m.length index) _ (omega arith) in
      let want : Want = record { index = index; nodes = depth_over m.length index } in
      let under = and_from (nat_lt index m.length) (held m index) below there.1 in
      let passed : has_block m want ≡ true = and_from (nat_lt index m.length && held m index) _ under whole in
      ap is_some (any_block m fork None hash (Some byte) (Some index) upgrade refl passed is) ∙ is_some-part (Some want) (block_for m) (has_block m) block_decided

  pub decided : (request : Request) (sought : Option ℕ) → IsSought m request sought → is_some (made_from m request) ≡ has_reply m request sought
  decided request sought is =
      let own = nat_eq request.fork m.fork in
      let found = is_found request sought in
      let block = passes (has_block m) (asked_block m.length request sought) in
      let hash = passes (has_hash m) request.hash in
      let upgrade = passes (has_upgrade m) request.upgrade in
      is_some-proof own m.fork request.seek (any_block_for m request) (part_for request.hash (hash_for m)) (part_for request.upgrade (upgrade_for m))
      ∙ ap (λ (b : Bool). own && b && is_some (part_for request.hash (hash_for m)) && is_some (part_for request.upgrade (upgrade_for m)))
      (any_block_decided request.fork request.block request.hash request.seek sought request.upgrade is)
      ∙ ap (λ (b : Bool). own && (found && block) && b && is_some (part_for request.upgrade (upgrade_for m)))
      (is_some-part request.hash (hash_for m) (has_hash m) hash_decided)
      ∙ ap (λ (b : Bool). own && (found && block) && hash && b) (is_some-part request.upgrade (upgrade_for m) (has_upgrade m) upgrade_decided)
      ∙ ap (λ (b : Bool). b && hash && upgrade) (and_assoc own found block)
    where
      and_assoc : (a b c : Bool) → (a && (b && c)) ≡ (a && b && c)
      and_assoc true b c = refl
      and_assoc false b c = refl
