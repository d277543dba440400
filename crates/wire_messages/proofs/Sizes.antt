-- How many bytes spellings have at most.
use Rattle.std.proofs.Common.{sym, ◌∙◌, ◌≡◌, ℕ, ◌+◌, ◌*◌, ◌<◌, ◌≤◌, Bool, true, false, cond, ltb, List, [], ◌∷◌, ◌++◌, length, Option, None, Some, refl, arith, length-append}
use Rattle.std.specs.Prelude.{IfSome}
use Rattle.std.specs.List.{flat_map, AllByRecursion}
use Rattle.std.proofs.lemmas.Bool.{lt-ltb, leb-true, and_parts}
use Rattle.std.proofs.lemmas.Option.{IfSome_then}
use Rattle.std.proofs.lemmas.List.Concat.{flat_map-cons}
use Rattle.flat_tree.specs.declared.limits.TheConstants.{MAX_BLOCK_BYTES, MAX_SIBLINGS, MAX_UPGRADE_NODES}
use Rattle.merkle_nodes.specs.declared.node.Twig.{Twig}
use Rattle.merkle_nodes.specs.Roots.{twig_of}
use Rattle.merkle_nodes.specs.Bundle.{TwigFits}
use Rattle.compact_enc.specs.declared.marks.TheConstants.{LEAST_U16, LEAST_U32, LEAST_U64}
use Rattle.compact_enc.specs.Spelling.{uint_spelling, buffer_spelling}
use Rattle.proof_form.specs.declared.flags.TheConstants.{ALL_PARTS}
use Rattle.proof_form.specs.declared.proof.HashPart.{HashPart}
use Rattle.proof_form.specs.declared.proof.UpgradePart.{UpgradePart}
use Rattle.proof_form.specs.declared.request.Request.{Request}
use Rattle.proof_form.specs.Form.{part_spelling}
use Rattle.proof_form.specs.Twigs.{twig_spelling, twigs_spelling}
use Rattle.proof_form.specs.Requests.{want_spelling, reach_spelling, request_flags, asked_spelling, request_spelling, RequestFits}
use Rattle.proof_form.specs.Proofs.{Block, Proof, block_spelling, hash_spelling, upgrade_spelling, proof_flags, parts_spelling, proof_spelling, BlockFits, HashFits, UpgradeFits, ProofFits}
use Rattle.proof_form.specs.Flags.{name_parts, are_proof_flags}
use Rattle.wire_frames.specs.declared.limits.TheConstants.{MAX_FRAME_BYTES, OUTBOX_BYTES}
use Rattle.wire_frames.specs.Frames.{frame_spelling}
use Rattle.wire_messages.specs.declared.message.TheConstants.{MAX_ANSWER_BYTES}
use Rattle.wire_messages.specs.Messages.{Message, open_core, sync, ask, cancel, answer, no_data, want, unwant, bitfield, range, extension, message_spelling, drop_number, MessageFits, FindsRoom}

cond_most : (b : Bool) (x y : List ℕ) (most : ℕ) → (b ≡ true → length x ≤ most) → (b ≡ false → length y ≤ most) → length (cond b x y) ≤ most
cond_most true x y most p q = p refl
cond_most false x y most p q = q refl

uint_most : (n : ℕ) → length (uint_spelling n) ≤ 9
unfolding uint_spelling
uint_most n =
    cond_most (ltb n LEAST_U16) _ _ 9 (λ is. omega arith) (λ is.
    cond_most (ltb n LEAST_U32) _ _ 9 (λ is. omega arith) (λ is.
    cond_most (ltb n LEAST_U64) _ _ 9 (λ is. omega arith) (λ is. omega arith)))

number_most : (n : ℕ) → n < LEAST_U64 → length (uint_spelling n) ≤ 5
unfolding uint_spelling
number_most n small =
    cond_most (ltb n LEAST_U16) _ _ 5 (λ is. omega arith) (λ is.
    cond_most (ltb n LEAST_U32) _ _ 5 (λ is. omega arith) (λ is.
    cond_most (ltb n LEAST_U64) _ _ 5 (λ is. omega arith) (λ is. let apart : true ≡ false = sym (lt-ltb n LEAST_U64 small) ∙ is in cc)))

byte_most : (n : ℕ) → n < LEAST_U16 → length (uint_spelling n) ≤ 1
unfolding uint_spelling
byte_most n small = rw (lt-ltb n LEAST_U16 small) (omega arith)

-- ---- twigs

twig_most : (twig : Twig) → TwigFits twig → length (twig_spelling twig) ≤ 41
twig_most twig fits = omega (arith, length-append (uint_spelling twig.size) twig.hash, uint_most twig.size, fits.hash)

each_most : (twigs : List Twig) → AllByRecursion TwigFits twigs → length (flat_map twig_spelling twigs) ≤ 41 * length twigs
each_most [] fits = omega arith
each_most (twig ∷ twigs) fits =
    rw (flat_map-cons twig_spelling twig twigs)
    (omega (arith, length-append (twig_spelling twig) (flat_map twig_spelling twigs), twig_most twig fits.0, each_most twigs fits.1))

twigs_most : (most : ℕ) (twigs : List Twig) → most < LEAST_U16 → length twigs ≤ most → AllByRecursion TwigFits twigs
    → length (twigs_spelling twigs) ≤ 1 + 41 * most
twigs_most most twigs few in_range fits =
    omega (
      arith,
      length-append (uint_spelling (length twigs)) (flat_map twig_spelling twigs),
      byte_most (length twigs) (omega (arith, few, in_range)),
      each_most twigs fits,
      in_range,
    )

-- ---- parts

part_most : {A : Type 0} (spell : A → List ℕ) (part : Option A) (most : ℕ) → IfSome part (λ x. length (spell x) ≤ most)
    → length (part_spelling spell part) ≤ most
part_most spell None most p = omega arith
part_most spell (Some x) most p = p

block_most : (b : Block) → BlockFits b → length (block_spelling b) ≤ 10 + MAX_BLOCK_BYTES + (1 + 41 * MAX_SIBLINGS)
block_most b f =
    omega (
      arith,
      length-append (uint_spelling b.index) (buffer_spelling b.bytes ++ twigs_spelling b.trail),
      length-append (buffer_spelling b.bytes) (twigs_spelling b.trail),
      length-append (uint_spelling (length b.bytes)) b.bytes,
      number_most b.index (omega (arith, f.index)),
      number_most (length b.bytes) (omega (arith, f.bytes)),
      f.bytes,
      twigs_most MAX_SIBLINGS b.trail (omega arith) f.trail.few f.trail.twigs,
    )

hash_most : (h : HashPart) → HashFits h → length (hash_spelling h) ≤ 46 + (1 + 41 * MAX_SIBLINGS)
hash_most h f =
    omega (
      arith,
      length-append (uint_spelling h.node.index) (twig_spelling (twig_of h.node) ++ twigs_spelling h.trail),
      length-append (twig_spelling (twig_of h.node)) (twigs_spelling h.trail),
      number_most h.node.index (omega (arith, f.index)),
      twig_most (twig_of h.node) f.node,
      twigs_most MAX_SIBLINGS h.trail (omega arith) f.trail.few f.trail.twigs,
    )

upgrade_most : (u : UpgradePart) → UpgradeFits u → length (upgrade_spelling u) ≤ 10 + (1 + 41 * MAX_UPGRADE_NODES) + 64
upgrade_most u f =
    omega (
      arith,
      length-append (uint_spelling u.start ++ uint_spelling u.length) (twigs_spelling u.nodes ++ u.signature),
      length-append (uint_spelling u.start) (uint_spelling u.length),
      length-append (twigs_spelling u.nodes) u.signature,
      number_most u.start (omega (arith, f.ordered, f.within)),
      number_most u.length (omega (arith, f.within)),
      twigs_most MAX_UPGRADE_NODES u.nodes (omega arith) f.nodes.few f.nodes.twigs,
      f.signature,
    )

few_flags : (p : Proof) → ProofFits p → proof_flags p < LEAST_U16
few_flags p f =
    let ok : are_proof_flags (proof_flags p) ≡ true = f.parts in
    let few : proof_flags p ≤ ALL_PARTS =
    leb-true (proof_flags p) ALL_PARTS (and_parts (ltb 0 (proof_flags p)) _ (and_parts (name_parts (proof_flags p)) _ ok).0).1 in
    omega (arith, few)

parts_most : (p : Proof) → ProofFits p → length (parts_spelling p) ≤ MAX_BLOCK_BYTES + 3422
parts_most p f =
    let block = part_most block_spelling p.block _ (IfSome_then p.block f.block block_most) in
    let hash = part_most hash_spelling p.hash _ (IfSome_then p.hash f.hash hash_most) in
    let seek = part_most uint_spelling p.seek 9 (IfSome_then p.seek f.seek (λ n small. uint_most n)) in
    let upgrade = part_most upgrade_spelling p.upgrade _ (IfSome_then p.upgrade f.upgrade upgrade_most) in
    let three = part_spelling hash_spelling p.hash ++ (part_spelling uint_spelling p.seek ++ part_spelling upgrade_spelling p.upgrade) in
    omega (
      arith,
      block,
      hash,
      seek,
      upgrade,
      length-append (part_spelling block_spelling p.block) three,
      length-append (part_spelling hash_spelling p.hash) (part_spelling uint_spelling p.seek ++ part_spelling upgrade_spelling p.upgrade),
      length-append (part_spelling uint_spelling p.seek) (part_spelling upgrade_spelling p.upgrade),
    )

proof_most : (p : Proof) → ProofFits p → length (proof_spelling p) ≤ MAX_BLOCK_BYTES + 3428
unfolding proof_spelling
proof_most p f =
    omega (
      arith,
      length-append (uint_spelling p.fork ++ uint_spelling (proof_flags p)) (parts_spelling p),
      length-append (uint_spelling p.fork) (uint_spelling (proof_flags p)),
      number_most p.fork (omega (arith, f.fork)),
      byte_most (proof_flags p) (few_flags p f),
      parts_most p f,
    )

-- an answer, with its id
pub answer_most : (id : ℕ) (p : Proof) → MessageFits (answer id p) → length (message_spelling (answer id p)) ≤ MAX_ANSWER_BYTES
answer_most id p f = omega (arith, length-append (uint_spelling id) (proof_spelling p), number_most id (omega (arith, f.0)), proof_most p f.1)

-- ---- requests

two_most : (m n : ℕ) → length (uint_spelling m ++ uint_spelling n) ≤ 18
two_most m n = omega (arith, length-append (uint_spelling m) (uint_spelling n), uint_most m, uint_most n)

asked_most : (r : Request) → RequestFits r → length (asked_spelling r) ≤ 63
asked_most r f =
    let block = part_most want_spelling r.block 18 (IfSome_then r.block f.block (λ want fit. two_most want.index want.nodes)) in
    let hash = part_most want_spelling r.hash 18 (IfSome_then r.hash f.hash (λ want fit. two_most want.index want.nodes)) in
    let seek = part_most uint_spelling r.seek 9 (IfSome_then r.seek f.seek (λ n small. uint_most n)) in
    let upgrade = part_most reach_spelling r.upgrade 18 (IfSome_then r.upgrade f.upgrade (λ reach fit. two_most reach.start reach.length)) in
    let three = part_spelling want_spelling r.hash ++ (part_spelling uint_spelling r.seek ++ part_spelling reach_spelling r.upgrade) in
    omega (
      arith,
      block,
      hash,
      seek,
      upgrade,
      length-append (part_spelling want_spelling r.block) three,
      length-append (part_spelling want_spelling r.hash) (part_spelling uint_spelling r.seek ++ part_spelling reach_spelling r.upgrade),
      length-append (part_spelling uint_spelling r.seek) (part_spelling reach_spelling r.upgrade),
    )

request_most : (r : Request) → RequestFits r → length (request_spelling r) ≤ 81
unfolding request_spelling
request_most r f =
    omega (arith, length-append (uint_spelling r.fork ++ uint_spelling (request_flags r)) (asked_spelling r), two_most r.fork (request_flags r), asked_most r f)

-- ---- messages

buffer_most : (n : ℕ) (bytes : List ℕ) → length (uint_spelling n ++ buffer_spelling bytes) ≤ 18 + length bytes
buffer_most n bytes =
    omega (
      arith,
      length-append (uint_spelling n) (buffer_spelling bytes),
      length-append (uint_spelling (length bytes)) bytes,
      uint_most n,
      uint_most (length bytes),
    )

-- each message finds room in a frame
pub in_frame : (m : Message) → MessageFits m → FindsRoom m → length (message_spelling m) ≤ MAX_FRAME_BYTES
in_frame (open_core version id) f room = omega (arith, length-append (uint_spelling version) id, uint_most version, f.1)
in_frame (sync fork blocks) f room = omega (arith, two_most fork blocks)
in_frame (ask id request) f room = omega (arith, length-append (uint_spelling id) (request_spelling request), uint_most id, request_most request f.1)
in_frame (cancel id) f room = omega (arith, uint_most id)
in_frame (answer id proof) f room = omega (arith, answer_most id proof f)
in_frame (no_data id) f room = omega (arith, uint_most id)
in_frame (want start count) f room = omega (arith, two_most start count)
in_frame (unwant start count) f room = omega (arith, two_most start count)
in_frame (bitfield start bits) f room = omega (arith, buffer_most start bits, f.2)
in_frame (range drop start count) f room =
    omega (
      arith,
      length-append (uint_spelling (drop_number drop)) (uint_spelling start ++ uint_spelling count),
      uint_most (drop_number drop),
      two_most start count,
    )
in_frame (extension number bytes) f room = room

-- and behind the frame of a head in an outbox
pub behind_sync : (fork blocks : ℕ) (m : Message) → MessageFits m → FindsRoom m
    → length (frame_spelling (message_spelling (sync fork blocks))) + length (frame_spelling (message_spelling m)) ≤ OUTBOX_BYTES
behind_sync fork blocks m f room = omega (arith, two_most fork blocks, in_frame m f room)
