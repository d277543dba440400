-- A proof: what proves an answer (docs/PROTOCOL.md, "Proofs").
use Rattle.std.specs.Prelude.{◌≡◌, ℕ, ◌<◌, ◌≤◌, List, ◌++◌, length, Option, None, Some, Ok, IfSome, IsTrue}
use Rattle.flat_tree.specs.declared.limits.TheConstants.{MAX_BLOCK_BYTES, MAX_CORE_BYTES}
use Rattle.merkle_nodes.specs.declared.node.Twig.{Twig}
use Rattle.merkle_nodes.specs.Roots.{twig_of}
use Rattle.merkle_nodes.specs.Bundle.{TwigFits}
use Rattle.compact_enc.specs.Spelling.{uint_spelling, buffer_spelling}
use Rattle.compact_enc.specs.Reading.{◌>>=◌}
use Rattle.compact_enc.specs.Input.{Input}
use Rattle.proof_form.specs.declared.fields.TheConstants.{MAX_NUMBER}
use Rattle.proof_form.specs.declared.flags.TheConstants.{BLOCK, HASH, SEEK, UPGRADE}
use Rattle.proof_form.specs.declared.proof.BlockPart.{BlockPart}
use Rattle.proof_form.specs.declared.proof.HashPart.{HashPart}
use Rattle.proof_form.specs.declared.proof.UpgradePart.{UpgradePart}
use Rattle.proof_form.specs.declared.proof.Proof.{Proof as ProofInMemory}
use Rattle.proof_form.specs.Flags.{has_flag, flags_of, are_proof_flags}
use Rattle.proof_form.specs.Form.{Read, part_spelling, number_of, fixed_in, buffer_in, part_of, start_of, span_of}
use Rattle.proof_form.specs.Twigs.{twig_spelling, twigs_spelling, TrailFits, CoverFits, twig_in, trail_in, cover_in}

-- a block with its index, and siblings of its path
pub record Block : Type 0 where
  pub index : ℕ
  pub bytes : List ℕ
  pub trail : List Twig

-- a fork, and the parts that are there
pub record Proof : Type 0 where
  pub fork : ℕ
  pub block : Option Block
  pub hash : Option HashPart
  pub seek : Option ℕ
  pub upgrade : Option UpgradePart

-- a block in memory as a value
abbrev pub block_view : Option BlockPart → Option Block
block_view None = None
block_view (Some b) = Some (record { index = b.index; bytes = b.bytes.now; trail = b.trail })

-- a proof in memory as a value
abbrev pub view : ProofInMemory → Proof
view p = record { fork = p.fork; block = block_view p.block; hash = p.hash; seek = p.seek; upgrade = p.upgrade }

-- ---- the spelling

-- an index, the bytes behind their number, and the siblings
abbrev pub block_spelling : Block → List ℕ
block_spelling b = uint_spelling b.index ++ (buffer_spelling b.bytes ++ twigs_spelling b.trail)

-- a node's number, size and hash, and the siblings
abbrev pub hash_spelling : HashPart → List ℕ
hash_spelling h = uint_spelling h.node.index ++ (twig_spelling (twig_of h.node) ++ twigs_spelling h.trail)

-- a start and a length, the twigs of the cover between, and the signature
abbrev pub upgrade_spelling : UpgradePart → List ℕ
upgrade_spelling u = (uint_spelling u.start ++ uint_spelling u.length) ++ (twigs_spelling u.nodes ++ u.signature)

-- the flags of the parts that are there
abbrev pub proof_flags : Proof → ℕ
proof_flags p = flags_of p.block p.hash p.seek p.upgrade

-- each part, behind the flags
abbrev pub parts_spelling : Proof → List ℕ
parts_spelling p = part_spelling block_spelling p.block ++ (part_spelling hash_spelling p.hash ++ (part_spelling uint_spelling p.seek ++ part_spelling upgrade_spelling p.upgrade))

-- the bytes of a proof
unfoldable pub proof_spelling : Proof → List ℕ
proof_spelling p = (uint_spelling p.fork ++ uint_spelling (proof_flags p)) ++ parts_spelling p

-- ---- what has a spelling

-- the index, the block's bytes and its siblings are in their ranges
pub record BlockFits (b : Block) : Type 0 where
  pub index : b.index ≤ MAX_NUMBER
  pub bytes : length b.bytes ≤ MAX_BLOCK_BYTES
  pub trail : TrailFits b.trail

-- the node and its siblings are in their ranges
pub record HashFits (h : HashPart) : Type 0 where
  pub index : h.node.index ≤ MAX_NUMBER
  pub node : TwigFits (twig_of h.node)
  pub trail : TrailFits h.trail

-- the start is below the length, and the twigs are those of the cover between
pub record UpgradeFits (u : UpgradePart) : Type 0 where
  pub ordered : u.start < u.length
  pub within : u.length ≤ MAX_NUMBER
  pub nodes : CoverFits u.start u.length u.nodes
  pub signature : length u.signature ≡ 64

-- parts that go together, each with its numbers in range
pub record ProofFits (p : Proof) : Type 0 where
  pub fork : p.fork ≤ MAX_NUMBER
  pub parts : IsTrue (are_proof_flags (proof_flags p))
  pub block : IfSome p.block BlockFits
  pub hash : IfSome p.hash HashFits
  pub seek : IfSome p.seek (λ byte. byte ≤ MAX_CORE_BYTES)
  pub upgrade : IfSome p.upgrade UpgradeFits

-- ---- reading

-- a block's index, bytes and siblings
unfoldable pub block_of : Input → Read Block
block_of input = do
  index ← number_of MAX_NUMBER input
  bytes ← buffer_in MAX_BLOCK_BYTES index.1
  trail ← trail_in bytes.1
  Ok (record { index = index.0; bytes = bytes.0; trail = trail.0 }, trail.1)

-- a node, and its siblings
unfoldable pub hash_of : Input → Read HashPart
hash_of input = do
  index ← number_of MAX_NUMBER input
  twig ← twig_in index.1
  trail ← trail_in twig.1
  Ok (record { node = record { index = index.0; size = twig.0.size; hash = twig.0.hash }; trail = trail.0 }, trail.1)

-- a start and a length, the twigs of the cover between, and the signature
unfoldable pub upgrade_of : Input → Read UpgradePart
upgrade_of input = do
  span ← span_of input
  nodes ← cover_in span.0.0 span.0.1 span.1
  signature ← fixed_in 64 nodes.1
  Ok (record { start = span.0.0; length = span.0.1; nodes = nodes.0; signature = signature.0 }, signature.1)

-- a fork, the flags, and each part that they name
unfoldable pub proof_of : Input → Read Proof
proof_of input = do
  start ← start_of are_proof_flags input
  block ← part_of (has_flag BLOCK start.0.1) block_of start.1
  hash ← part_of (has_flag HASH start.0.1) hash_of block.1
  seek ← part_of (has_flag SEEK start.0.1) (number_of MAX_CORE_BYTES) hash.1
  upgrade ← part_of (has_flag UPGRADE start.0.1) upgrade_of seek.1
  Ok (record { fork = start.0.0; block = block.0; hash = hash.0; seek = seek.0; upgrade = upgrade.0 }, upgrade.1)
