-- What a view gives as a reply is in the grammar of proofs.
use Rattle.std.proofs.Common.{◌≡◌, ℕ, Bool, true, false, IsTrue, ◌+◌, ◌≤◌, length, Some, None, refl, sym, ap, subst, ◌∙◌, arith}
use Rattle.std.specs.Prelude.{Option, is_some, ◌&&◌, ◌||◌, nat_eq, nat_lt, IfSome}
use Rattle.std.proofs.lemmas.Bool.{and_parts, eqb-true}
use Rattle.flat_tree.specs.Subtrees.{numbers_of}
use Rattle.flat_tree.specs.Covers.{cover_of}
use Rattle.flat_tree.specs.declared.limits.TheConstants.{MAX_BLOCKS, MAX_CORE_BYTES}
use Rattle.flat_tree.proofs.CoverLemmas.{length-cover}
use Rattle.flat_tree.proofs.RootLemmas.{length-numbers}
use Rattle.proof_form.specs.declared.flags.TheConstants.{BLOCK, HASH, SEEK, UPGRADE}
use Rattle.proof_form.specs.declared.request.Want.{Want}
use Rattle.proof_form.specs.declared.request.Reach.{Reach}
use Rattle.proof_form.specs.declared.request.Request.{Request}
use Rattle.proof_form.specs.declared.proof.HashPart.{HashPart}
use Rattle.proof_form.specs.declared.proof.UpgradePart.{UpgradePart}
use Rattle.proof_form.specs.Flags.{flag_if, are_request_flags, are_proof_flags}
use Rattle.proof_form.specs.Requests.{RequestFits, WantFits, ReachFits}
use Rattle.proof_form.specs.Proofs.{Proof, Block, ProofFits, BlockFits, HashFits, UpgradeFits, proof_flags}
use Rattle.node_set.specs.Contents.{Content}
use Rattle.node_set.specs.Paths.{depth_of, offset_of_node}
use Rattle.proof_make.specs.Offers.{passes, has_block, ends_at, has_cover}
use Rattle.log_view.specs.Views.{Source}
use Rattle.proof_offer.specs.Parts.{siblings_of, Answers, GivesBlockPart, GivesHashPart, GivesUpgradePart}
use Rattle.proof_offer.specs.Replies.{asked_block, is_found, has_hash, has_upgrade, has_reply, IsReply}
use Rattle.proof_offer.proofs.Siblings.{length-siblings}
use Rattle.proof_offer.proofs.Gives.{gives-count, gives-fit}

-- ---- each part that is asked for passes its test

pub record HasParts (m : Content) (request : Request) (sought : Option ℕ) : Type 0 where
  pub fork : nat_eq request.fork m.fork ≡ true
  pub found : is_found request sought ≡ true
  pub block : passes (has_block m) (asked_block m.length request sought) ≡ true
  pub hash : passes (has_hash m) request.hash ≡ true
  pub upgrade : passes (has_upgrade m) request.upgrade ≡ true

pub reply_parts : (m : Content) (request : Request) (sought : Option ℕ) → has_reply m request sought ≡ true → HasParts m request sought
reply_parts m request sought test =
    let fork = nat_eq request.fork m.fork in
    let found = is_found request sought in
    let block = passes (has_block m) (asked_block m.length request sought) in
    let hash = passes (has_hash m) request.hash in
    let last = and_parts (fork && found && block && hash) (passes (has_upgrade m) request.upgrade) test in
    let third = and_parts (fork && found && block) hash last.0 in
    let second = and_parts (fork && found) block third.0 in
    let first = and_parts fork found second.0 in
    record { fork = first.0; found = first.1; block = second.1; hash = third.1; upgrade = last.1 }

-- ---- parts that answer

-- what is asked for passes its test
pub if_passes : {A : Type 0} (test : A → Bool) (asked : Option A) → passes test asked ≡ true → IfSome asked (λ a. test a ≡ true)
if_passes test None passed = tt
if_passes test (Some a) passed = passed

-- what holds of each part that is there
answers-if : {A B : Type 0} (Gives : A → B → Type 0) (P : A → Type 0) (Q : B → Type 0) (asked : Option A) (part : Option B) → Answers Gives asked part
    → IfSome asked P → ((a : A) (b : B) → P a → Gives a b → Q b) → IfSome part Q
answers-if Gives P Q None None answers all so = tt
answers-if Gives P Q None (Some b) answers all so = absurd answers
answers-if Gives P Q (Some a) None answers all so = absurd answers
answers-if Gives P Q (Some a) (Some b) answers all so = so a b all answers

is_some-answers : {A B : Type 0} (Gives : A → B → Type 0) (asked : Option A) (part : Option B) → Answers Gives asked part → is_some part ≡ is_some asked
is_some-answers Gives None None answers = refl
is_some-answers Gives None (Some b) answers = absurd answers
is_some-answers Gives (Some a) None answers = absurd answers
is_some-answers Gives (Some a) (Some b) answers = refl

-- ---- the flags

-- the flags of these parts
abbrev flags : Bool → Bool → Bool → Bool → ℕ
flags block hash seek upgrade = flag_if BLOCK block + flag_if HASH hash + flag_if SEEK seek + flag_if UPGRADE upgrade

impossible : (P : Type 0) → false ≡ true → P
impossible P is = cc

-- with a block for each byte that is sought they are a proof's
flags_fit : (block hash seek upgrade : Bool) → IsTrue (are_request_flags (flags block hash seek upgrade))
    → IsTrue (are_proof_flags (flags (block || seek) hash seek upgrade))
flags_fit true true true true fits = impossible _ fits
flags_fit true true true false fits = impossible _ fits
flags_fit true true false true fits = refl
flags_fit true true false false fits = refl
flags_fit true false true true fits = impossible _ fits
flags_fit true false true false fits = impossible _ fits
flags_fit true false false true fits = refl
flags_fit true false false false fits = refl
flags_fit false true true true fits = refl
flags_fit false true true false fits = refl
flags_fit false true false true fits = refl
flags_fit false true false false fits = refl
flags_fit false false true true fits = refl
flags_fit false false true false fits = refl
flags_fit false false false true fits = refl
flags_fit false false false false fits = impossible _ fits

-- a request by its parts
abbrev pub asking : ℕ → Option Want → Option Want → Option ℕ → Option Reach → Request
asking fork block hash seek upgrade = record { fork = fork; block = block; hash = hash; seek = seek; upgrade = upgrade }

-- a block is there exactly where one is asked for, or a byte
is_some-asked : (n fork : ℕ) (block hash : Option Want) (seek sought : Option ℕ) (upgrade : Option Reach)
    → is_found (asking fork block hash seek upgrade) sought ≡ true
    → is_some (asked_block n (asking fork block hash seek upgrade) sought) ≡ (is_some block || is_some seek)
is_some-asked n fork (Some want) hash seek sought upgrade found = refl
is_some-asked n fork None hash None sought upgrade found = refl
is_some-asked n fork None hash (Some byte) None upgrade found = cc
is_some-asked n fork None hash (Some byte) (Some index) upgrade found = refl

-- ---- the grammar

module _ (s : Source) (request : Request) (sought : Option ℕ) (fits : RequestFits request) (few : s.content.length ≤ MAX_BLOCKS)
    (signed : length s.content.signature ≡ 64) (parts : HasParts s.content request sought) where
  block_fits : (want : Want) (block : Block) → WantFits want → GivesBlockPart s want block → BlockFits block
  block_fits want block is given =
      let count = gives-count s (numbers_of (siblings_of 0 want.index want.nodes)) block.trail given.trail ∙ length-siblings 0 want.index want.nodes in
      record {
        index = omega (arith, given.index, is.index);
        bytes = given.size;
        trail = record { few = omega (arith, count, is.nodes); twigs = gives-fit s _ block.trail given.trail };
      }

  hash_fits : (want : Want) (hash : HashPart) → WantFits want → GivesHashPart s want hash → HashFits hash
  hash_fits want hash is given =
      let trees = siblings_of (depth_of want.index) (offset_of_node want.index) want.nodes in
      let count = gives-count s (numbers_of trees) hash.trail given.trail ∙ length-siblings (depth_of want.index) (offset_of_node want.index) want.nodes in
      record {
        index = omega (arith, given.index, is.index);
        node = given.node.fits;
        trail = record { few = omega (arith, count, is.nodes); twigs = gives-fit s (numbers_of trees) hash.trail given.trail };
      }

  upgrade_fits : (reach : Reach) (upgrade : UpgradePart) → ReachFits reach × (has_upgrade s.content reach ≡ true) → GivesUpgradePart s reach upgrade
      → UpgradeFits upgrade
  upgrade_fits reach upgrade (is, passed) given =
      let trees = cover_of reach.start reach.length in
      let ends = and_parts (nat_eq reach.length s.content.length) (nat_lt reach.start reach.length)
      (and_parts (ends_at s.content.length reach) (has_cover s.content reach) passed).0 in
      let count = gives-count s (numbers_of trees) upgrade.nodes given.nodes ∙ length-numbers (numbers_of trees) trees refl in
      let same = ap (λ (from : ℕ). length (cover_of from upgrade.length)) given.start ∙ ap (λ (to : ℕ). length (cover_of reach.start to)) given.length in
      let most = length-cover 20 reach.start reach.length (omega arith) (omega (arith, is.ordered))
      (omega (arith, few, eqb-true reach.length s.content.length ends.0)) in
      record {
        ordered = omega (arith, is.ordered, given.start, given.length);
        within = omega (arith, is.within, given.length);
        nodes = record { count = count ∙ sym same; few = omega (arith, count, most); twigs = gives-fit s (numbers_of trees) upgrade.nodes given.nodes };
        signature = ap length given.signature ∙ signed;
      }

  flags_are : (proof : Proof) → IsReply s request sought proof
      → proof_flags proof ≡ flags (is_some request.block || is_some request.seek) (is_some request.hash) (is_some request.seek) (is_some request.upgrade)
  flags_are proof reply =
      let asked = is_some-asked s.content.length request.fork request.block request.hash request.seek sought request.upgrade parts.found in
      let block = is_some-answers (GivesBlockPart s) (asked_block s.content.length request sought) proof.block reply.block ∙ asked in
      let hash = is_some-answers (GivesHashPart s) request.hash proof.hash reply.hash in
      let upgrade = is_some-answers (GivesUpgradePart s) request.upgrade proof.upgrade reply.upgrade in
      ap (λ (b : Bool). flags b (is_some proof.hash) (is_some proof.seek) (is_some proof.upgrade)) block
      ∙ ap (λ (h : Bool). flags (is_some request.block || is_some request.seek) h (is_some proof.seek) (is_some proof.upgrade)) hash
      ∙ ap (λ (k : Option ℕ). flags (is_some request.block || is_some request.seek) (is_some request.hash) (is_some k) (is_some proof.upgrade)) reply.seek
      ∙ ap (λ (u : Bool). flags (is_some request.block || is_some request.seek) (is_some request.hash) (is_some request.seek) u) upgrade

  pub reply_fits : (proof : Proof) → IfSome (asked_block s.content.length request sought) WantFits → IsReply s request sought proof → ProofFits proof
  reply_fits proof asked_fits reply = record {
    fork = omega (arith, fits.fork, reply.fork);
    parts = subst (λ (f : ℕ). IsTrue (are_proof_flags f)) (sym (flags_are proof reply))
        (flags_fit (is_some request.block) (is_some request.hash) (is_some request.seek) (is_some request.upgrade) fits.parts);
    block = answers-if (GivesBlockPart s) WantFits BlockFits (asked_block s.content.length request sought) proof.block reply.block asked_fits block_fits;
    hash = answers-if (GivesHashPart s) WantFits HashFits request.hash proof.hash reply.hash fits.hash hash_fits;
    seek = subst (λ (k : Option ℕ). IfSome k (λ byte. byte ≤ MAX_CORE_BYTES)) (sym reply.seek) fits.seek;
    upgrade = answers-if (GivesUpgradePart s) (λ reach. ReachFits reach × (has_upgrade s.content reach ≡ true)) UpgradeFits request.upgrade proof.upgrade
        reply.upgrade (both ReachFits (λ reach. has_upgrade s.content reach ≡ true) request.upgrade fits.upgrade (if_passes (has_upgrade s.content) request.upgrade parts.upgrade)) upgrade_fits;
  }
    where
      both : {A : Type 0} (P Q : A → Type 0) (asked : Option A) → IfSome asked P → IfSome asked Q → IfSome asked (λ a. P a × Q a)
      both P Q None p q = tt
      both P Q (Some a) p q = (p, q)
