-- Proofs: what is read is spelled so, and what is spelled so is read, whatever follows.
use Rattle.std.proofs.Common.{◌≡◌, ◌≤◌, ◌++◌, sym, ap, subst, ◌∙◌, arith}
use Rattle.std.specs.Prelude.{IfOk}
use Rattle.std.proofs.lemmas.Option.{IfSome_then}
use Rattle.std.proofs.lemmas.Bool.{leb-true, and_parts}
use Rattle.flat_tree.specs.declared.limits.TheConstants.{MAX_BLOCK_BYTES, MAX_CORE_BYTES}
use Rattle.merkle_nodes.specs.Roots.{twig_of}
use Rattle.compact_enc.specs.Spelling.{uint_spelling, buffer_spelling}
use Rattle.compact_enc.specs.Reading.{IsBytes}
use Rattle.compact_enc.specs.Input.{Input}
use Rattle.compact_enc.proofs.Steps.{if_read}
use Rattle.compact_enc.proofs.Inputs.{Passed, Passed-then, ReadsBack, again_then, again_last}
use Rattle.proof_form.specs.declared.fields.TheConstants.{MAX_NUMBER}
use Rattle.proof_form.specs.declared.flags.TheConstants.{BLOCK, HASH, SEEK, UPGRADE}
use Rattle.proof_form.specs.declared.proof.HashPart.{HashPart}
use Rattle.proof_form.specs.declared.proof.UpgradePart.{UpgradePart}
use Rattle.proof_form.specs.Flags.{has_flag, are_proof_flags}
use Rattle.proof_form.specs.Form.{part_spelling, number_of, fixed_in, buffer_in, part_of, start_of, span_of}
use Rattle.proof_form.specs.Twigs.{twig_spelling, twigs_spelling, twig_in, trail_in, cover_in}
use Rattle.proof_form.specs.Proofs.{Block, Proof, block_spelling, hash_spelling, upgrade_spelling, proof_flags, parts_spelling, proof_spelling, BlockFits, HashFits, UpgradeFits, ProofFits, block_of, hash_of, upgrade_of, proof_of}
use Rattle.proof_form.proofs.FieldLaws.{number_passes, fixed_in_passes, buffer_in_passes, part_passes, start_passes, span_passes, number_again, fixed_in_again, buffer_in_again, part_again, start_again, span_again}
use Rattle.proof_form.proofs.FlagLaws.{flags_name, named_flags, few_flags}
use Rattle.proof_form.proofs.TwigLaws.{twig_passes, trail_passes, cover_passes, twig_again, trail_again, cover_again}

-- ---- what is read is spelled so

block_passes : (input : Input) → IsBytes input.rest → IfOk (block_of input) (λ x. Passed input (block_spelling x.0) x.1 × BlockFits x.0)
unfolding block_of
block_passes input fits =
    if_read (number_of MAX_NUMBER input) _ _ _ (number_passes MAX_NUMBER input fits) (λ index i.
    if_read (buffer_in MAX_BLOCK_BYTES index.1) _ _ _ (buffer_in_passes MAX_BLOCK_BYTES index.1 i.0.fits) (λ bytes b.
    if_read (trail_in bytes.1) _ _ _ (trail_passes bytes.1 b.0.fits) (λ trail t.
    (Passed-then input index.1 trail.1 _ _ i.0 (Passed-then index.1 bytes.1 trail.1 _ _ b.0 t.0), record { index = i.1; bytes = b.1; trail = t.1 }))))

hash_passes : (input : Input) → IsBytes input.rest → IfOk (hash_of input) (λ x. Passed input (hash_spelling x.0) x.1 × HashFits x.0)
unfolding hash_of
hash_passes input fits =
    if_read (number_of MAX_NUMBER input) _ _ _ (number_passes MAX_NUMBER input fits) (λ index i.
    if_read (twig_in index.1) _ _ _ (twig_passes index.1 i.0.fits) (λ twig n.
    if_read (trail_in twig.1) _ _ _ (trail_passes twig.1 n.0.fits) (λ trail t.
    (Passed-then input index.1 trail.1 _ _ i.0 (Passed-then index.1 twig.1 trail.1 _ _ n.0 t.0), record { index = i.1; node = record { size = n.1.size; hash = n.1.hash }; trail = t.1 }))))

upgrade_passes : (input : Input) → IsBytes input.rest → IfOk (upgrade_of input) (λ x. Passed input (upgrade_spelling x.0) x.1 × UpgradeFits x.0)
unfolding upgrade_of
upgrade_passes input fits =
    if_read (span_of input) _ _ _ (span_passes input fits) (λ span s.
    if_read (cover_in span.0.0 span.0.1 span.1) _ _ _ (cover_passes span.0.0 span.0.1 span.1 s.0.fits) (λ nodes n.
    if_read (fixed_in 64 nodes.1) _ _ _ (fixed_in_passes 64 nodes.1 n.0.fits) (λ signature g.
    (Passed-then input span.1 signature.1 _ _ s.0 (Passed-then span.1 nodes.1 signature.1 _ _ n.0 g.0), record { ordered = s.1; within = s.2; nodes = n.1; signature = g.1 }))))

pub proof_passes : (input : Input) → IsBytes input.rest → IfOk (proof_of input) (λ x. Passed input (proof_spelling x.0) x.1 × ProofFits x.0)
unfolding proof_of proof_spelling
proof_passes input fits =
    if_read (start_of are_proof_flags input) _ _ _ (start_passes are_proof_flags input fits) (λ start t.
    let flags = start.0.1 in
    if_read (part_of (has_flag BLOCK flags) block_of start.1) _ _ _ (part_passes (has_flag BLOCK flags) block_of block_spelling BlockFits start.1 t.0.fits (block_passes start.1 t.0.fits)) (λ block b.
    if_read (part_of (has_flag HASH flags) hash_of block.1) _ _ _ (part_passes (has_flag HASH flags) hash_of hash_spelling HashFits block.1 b.0.fits (hash_passes block.1 b.0.fits)) (λ hash h.
    if_read (part_of (has_flag SEEK flags) (number_of MAX_CORE_BYTES) hash.1) _ _ _ (part_passes (has_flag SEEK flags) (number_of MAX_CORE_BYTES) uint_spelling (λ n. n ≤ MAX_CORE_BYTES) hash.1 h.0.fits (number_passes MAX_CORE_BYTES hash.1 h.0.fits)) (λ seek s.
    if_read (part_of (has_flag UPGRADE flags) upgrade_of seek.1) _ _ _ (part_passes (has_flag UPGRADE flags) upgrade_of upgrade_spelling UpgradeFits seek.1 s.0.fits (upgrade_passes seek.1 s.0.fits)) (λ upgrade u.
    let proof : Proof = record { fork = start.0.0; block = block.0; hash = hash.0; seek = seek.0; upgrade = upgrade.0 } in
    let same : proof_flags proof ≡ flags =
    named_flags flags block.0 hash.0 seek.0 upgrade.0 (leb-true _ _ (and_parts _ _ (and_parts _ _ t.2).0).1) (record { block = sym b.1; hash = sym h.1; seek = sym s.1; upgrade = sym u.1 }) in
    let parts = Passed-then start.1 block.1 upgrade.1 _ _ b.0 (Passed-then block.1 hash.1 upgrade.1 _ _ h.0 (Passed-then hash.1 seek.1 upgrade.1 _ _ s.0 u.0)) in
    let all = Passed-then input start.1 upgrade.1 _ _ t.0 parts in (
      subst (λ n. Passed input ((uint_spelling start.0.0 ++ uint_spelling n) ++ parts_spelling proof) upgrade.1) (sym same) all,
      record { fork = t.1; parts = ap are_proof_flags same ∙ t.2; block = b.2; hash = h.2; seek = s.2; upgrade = u.2 },
    ))))))

-- ---- what is spelled so is read

block_again : (b : Block) → BlockFits b → ReadsBack block_of b (block_spelling b)
unfolding block_of
block_again b fits =
    again_then (number_of MAX_NUMBER) _ b.index b (uint_spelling b.index) (buffer_spelling b.bytes ++ twigs_spelling b.trail) (number_again MAX_NUMBER b.index fits.index (omega (arith, fits.index)))
    (again_then (buffer_in MAX_BLOCK_BYTES) _ b.bytes b (buffer_spelling b.bytes) (twigs_spelling b.trail) (buffer_in_again MAX_BLOCK_BYTES b.bytes fits.bytes (omega (arith, fits.bytes)))
    (again_last trail_in (λ trail. record { index = b.index; bytes = b.bytes; trail = trail }) b.trail (twigs_spelling b.trail) (trail_again b.trail fits.trail)))

hash_again : (h : HashPart) → HashFits h → ReadsBack hash_of h (hash_spelling h)
unfolding hash_of
hash_again h fits =
    let twig = twig_of h.node in
    again_then (number_of MAX_NUMBER) _ h.node.index h (uint_spelling h.node.index) (twig_spelling twig ++ twigs_spelling h.trail) (number_again MAX_NUMBER h.node.index fits.index (omega (arith, fits.index)))
    (again_then twig_in _ twig h (twig_spelling twig) (twigs_spelling h.trail) (twig_again twig fits.node)
    (again_last trail_in (λ trail. record { node = h.node; trail = trail }) h.trail (twigs_spelling h.trail) (trail_again h.trail fits.trail)))

upgrade_again : (u : UpgradePart) → UpgradeFits u → ReadsBack upgrade_of u (upgrade_spelling u)
unfolding upgrade_of
upgrade_again u fits =
    again_then span_of _ (u.start, u.length) u (uint_spelling u.start ++ uint_spelling u.length) (twigs_spelling u.nodes ++ u.signature) (span_again u.start u.length fits.ordered fits.within)
    (again_then (cover_in u.start u.length) _ u.nodes u (twigs_spelling u.nodes) u.signature (cover_again u.start u.length u.nodes fits.nodes)
    (again_last (fixed_in 64) (λ signature. record { start = u.start; length = u.length; nodes = u.nodes; signature = signature }) u.signature u.signature (fixed_in_again 64 u.signature fits.signature)))

pub proof_again : (p : Proof) → ProofFits p → ReadsBack proof_of p (proof_spelling p)
unfolding proof_of proof_spelling
proof_again p fits =
    let flags = proof_flags p in
    let name = flags_name p.block p.hash p.seek p.upgrade in
    let block : ReadsBack (part_of (has_flag BLOCK flags) block_of) p.block (part_spelling block_spelling p.block) =
    rw name.block (part_again block_of block_spelling p.block (IfSome_then p.block fits.block block_again)) in
    let hash : ReadsBack (part_of (has_flag HASH flags) hash_of) p.hash (part_spelling hash_spelling p.hash) =
    rw name.hash (part_again hash_of hash_spelling p.hash (IfSome_then p.hash fits.hash hash_again)) in
    let seek : ReadsBack (part_of (has_flag SEEK flags) (number_of MAX_CORE_BYTES)) p.seek (part_spelling uint_spelling p.seek) =
    rw name.seek (part_again (number_of MAX_CORE_BYTES) uint_spelling p.seek (IfSome_then p.seek fits.seek (λ n small. number_again MAX_CORE_BYTES n small (omega (arith, small))))) in
    let upgrade : ReadsBack (part_of (has_flag UPGRADE flags) upgrade_of) p.upgrade (part_spelling upgrade_spelling p.upgrade) =
    rw name.upgrade (part_again upgrade_of upgrade_spelling p.upgrade (IfSome_then p.upgrade fits.upgrade upgrade_again)) in
    again_then (start_of are_proof_flags) _ (p.fork, flags) p (uint_spelling p.fork ++ uint_spelling flags) (parts_spelling p) (start_again are_proof_flags p.fork flags fits.fork (omega (arith, few_flags p.block p.hash p.seek p.upgrade)) fits.parts)
    (again_then (part_of (has_flag BLOCK flags) block_of) _ p.block p _ _ block
    (again_then (part_of (has_flag HASH flags) hash_of) _ p.hash p _ _ hash
    (again_then (part_of (has_flag SEEK flags) (number_of MAX_CORE_BYTES)) _ p.seek p _ _ seek
    (again_last (part_of (has_flag UPGRADE flags) upgrade_of) (λ u. record { fork = p.fork; block = p.block; hash = p.hash; seek = p.seek; upgrade = u }) p.upgrade _ upgrade))))
