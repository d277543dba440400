-- Where a view shows its content, what it gives as a reply is the content's own.
use Rattle.std.proofs.Common.{◌≡◌, ℕ, Bool, true, IsTrue, ◌^◌, ◌<◌, Some, None, refl, sym, ◌∙◌, arith}
use Rattle.std.specs.Prelude.{Option, ◌&&◌, nat_le, nat_lt, IfSome, ⊤}
use Rattle.std.proofs.lemmas.Bool.{and_parts, eqb-true}
use Rattle.flat_tree.specs.Roots.{depth_over}
use Rattle.flat_tree.specs.Covers.{cover_of}
use Rattle.proof_form.specs.declared.request.Want.{Want}
use Rattle.proof_form.specs.declared.request.Reach.{Reach}
use Rattle.proof_form.specs.declared.request.Request.{Request}
use Rattle.proof_form.specs.declared.proof.HashPart.{HashPart}
use Rattle.proof_form.specs.declared.proof.UpgradePart.{UpgradePart}
use Rattle.proof_form.specs.Requests.{RequestFits, WantFits}
use Rattle.proof_form.specs.Proofs.{Proof, Block}
use Rattle.node_set.specs.Contents.{Content, held}
use Rattle.node_set.specs.Paths.{depth_of, offset_of_node, has_trail}
use Rattle.proof_make.specs.Answers.{part_for, block_for, hash_for, upgrade_for, any_block_for, made_from}
use Rattle.proof_make.specs.Offers.{passes, has_block, ends_at, has_cover}
use Rattle.log_view.specs.Views.{Source}
use Rattle.proof_offer.specs.Parts.{siblings_of, Answers, GivesBlockPart, GivesHashPart, GivesUpgradePart}
use Rattle.proof_offer.specs.Replies.{asked_block, is_found, has_hash, has_upgrade, IsReply, IsSought}
use Rattle.proof_offer.proofs.Fitting.{HasParts, asking}
use Rattle.proof_offer.proofs.Siblings.{number_of_node, trail-siblings, has_trail-siblings}
use Rattle.proof_offer.proofs.Gives.{gives-shown}

-- a part that answers is the answer, where each one given for what passes the test is
part_given : {A B : Type 0} (Gives : A → B → Type 0) (test : A → Bool) (answer : A → Option B) (P : A → Type 0) (asked : Option A) (part : Option B)
    → passes test asked ≡ true → IfSome asked P → Answers Gives asked part → ((a : A) (b : B) → test a ≡ true → P a → Gives a b → answer a ≡ Some b)
    → part_for asked answer ≡ Some part
part_given Gives test answer P None None passed all answers is = refl
part_given Gives test answer P None (Some b) passed all answers is = absurd answers
part_given Gives test answer P (Some a) None passed all answers is = absurd answers
part_given Gives test answer P (Some a) (Some b) passed all answers is = rw (is a b passed all answers) refl

-- the block that is asked for by a byte is asked for by its index, with its whole trail
pub any_block : (m : Content) (fork : ℕ) (block hash : Option Want) (seek sought : Option ℕ) (upgrade : Option Reach)
    → is_found (asking fork block hash seek upgrade) sought ≡ true
    → passes (has_block m) (asked_block m.length (asking fork block hash seek upgrade) sought) ≡ true
    → IsSought m (asking fork block hash seek upgrade) sought
    → any_block_for m (asking fork block hash seek upgrade) ≡ part_for (asked_block m.length (asking fork block hash seek upgrade) sought) (block_for m)
any_block m fork (Some want) hash seek sought upgrade found passed is = refl
any_block m fork None hash None sought upgrade found passed is = refl
any_block m fork None hash (Some byte) None upgrade found passed is = cc
any_block m fork None hash (Some byte) (Some index) upgrade found passed is =
    let tests = and_parts (nat_lt index m.length && held m index) (nat_le (depth_over m.length index) (depth_over m.length index)) passed in
    let below = and_parts (nat_lt index m.length) (held m index) tests.0 in
    rw (sym is, below.0, tests.1) refl

module _ (s : Source) (shows : IsTrue s.shows) where
  block_given : (want : Want) (block : Block) → has_block s.content want ≡ true → GivesBlockPart s want block → block_for s.content want ≡ Some block
  block_given want block passed given =
      let m = s.content in
      let tests = and_parts (nat_lt want.index m.length && held m want.index) (nat_le want.nodes (depth_over m.length want.index)) passed in
      let below = and_parts (nat_lt want.index m.length) (held m want.index) tests.0 in
      let trail = (gives-shown s shows (siblings_of 0 want.index want.nodes) block.trail given.trail).are ∙ trail-siblings m.node 0 want.index want.nodes in
      rw (below.0, tests.1, given.shown shows, sym trail, sym given.index) refl

  hash_given : (want : Want) (hash : HashPart) → want.index < 2 ^ 63 → GivesHashPart s want hash → hash_for s.content want ≡ Some hash
  hash_given want hash small given =
      let m = s.content in
      let depth = depth_of want.index in
      let offset = offset_of_node want.index in
      let is = number_of_node want.index (omega (arith, small)) in
      let trees = siblings_of depth offset want.nodes in
      let are = gives-shown s shows trees hash.trail given.trail in
      let stored : has_trail m.node depth offset want.nodes ≡ true = sym (has_trail-siblings m.node depth offset want.nodes) ∙ are.stored in
      let trail = are.are ∙ trail-siblings m.node depth offset want.nodes in
      rw (stored, given.node.shown shows depth offset is, sym trail, is, sym given.index) refl

  upgrade_given : (reach : Reach) (upgrade : UpgradePart) → has_upgrade s.content reach ≡ true → GivesUpgradePart s reach upgrade
      → upgrade_for s.content reach ≡ Some upgrade
  upgrade_given reach upgrade passed given =
      let ends = (and_parts (ends_at s.content.length reach) (has_cover s.content reach) passed).0 in
      let are = gives-shown s shows (cover_of reach.start reach.length) upgrade.nodes given.nodes in
      rw (ends, are.stored, sym are.are, sym given.signature, sym given.start, sym given.length) refl

  -- the proof is the content's
  pub reply_made : (request : Request) (sought : Option ℕ) → RequestFits request → HasParts s.content request sought → IsSought s.content request sought
      → (proof : Proof) → IsReply s request sought proof → made_from s.content request ≡ Some proof
  reply_made request sought fits parts is proof reply =
      let m = s.content in
      let asked = asked_block m.length request sought in
      let block = any_block m request.fork request.block request.hash request.seek sought request.upgrade parts.found parts.block is
      ∙ part_given (GivesBlockPart s) (has_block m) (block_for m) (λ want. ⊤) asked proof.block parts.block (always asked) reply.block
      (λ want block passed _ given. block_given want block passed given) in
      let hash = part_given (GivesHashPart s) (has_hash m) (hash_for m) WantFits request.hash proof.hash parts.hash fits.hash reply.hash
      (λ want hash _ fits given. hash_given want hash (omega (arith, fits.index)) given) in
      let upgrade = part_given (GivesUpgradePart s) (has_upgrade m) (upgrade_for m) (λ reach. ⊤) request.upgrade proof.upgrade parts.upgrade
      (always request.upgrade) reply.upgrade (λ reach upgrade passed _ given. upgrade_given reach upgrade passed given) in
      let fork = eqb-true request.fork m.fork parts.fork in
      rw (parts.fork, block, hash, upgrade, sym fork, sym reply.fork, sym reply.seek) refl
    where
      always : {A : Type 0} (asked : Option A) → IfSome asked (λ a. ⊤)
      always None = tt
      always (Some a) = tt
