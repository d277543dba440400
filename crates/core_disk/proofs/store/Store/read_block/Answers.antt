use Rattle.std.proofs.Common.{◌≡◌, ◌<◌, ◌*◌, ◌++◌, ℕ, true, take, drop, length, sym, ap, subst, ◌∙◌, arith}
use Rattle.std.specs.Prelude.{IsTrue}
use Rattle.std.proofs.lemmas.List.{length-take}
use Rattle.node_set.specs.Contents.{twig_at}
use Rattle.core_disk.specs.declared.layout.TheConstants.{NODE_BYTES}
use Rattle.core_disk.specs.Areas.{read_at}
use Rattle.core_disk.specs.InHand.{InHand, IsKept, opened_of}
use Rattle.core_disk.specs.Laid.{outline, block_in}
use Rattle.core_disk.specs.Fitting.{is_unfit}
use Rattle.flat_tree.specs.declared.limits.TheConstants.{MAX_BLOCK_BYTES}
use Rattle.core_disk.specs.Stored.{is_standing, is_showing, content_of, blocks_area}
use Rattle.core_disk.proofs.StoreLemmas.{bad_told, told_keeps, block_fits, block_unfit, showing_fits, read_front}
use Rattle.core_disk.proofs.FittingLemmas.{sized}
use Rattle.core_disk.proofs.store.Store.read_block.Goals as goal

pub returns-then-size-gt-MAX_BLOCK_BYTES-clause-keeps : goal.returns-then-size-gt-MAX_BLOCK_BYTES-clause-keeps
returns-then-size-gt-MAX_BLOCK_BYTES-clause-keeps g c =
    let now = c.args.self.now in
    rw (c.tell.ensures.told) (told_keeps (g.D.Disk.disk now.disk) now.hand now.answered now.last _ c.tell.ensures.more)

pub returns-then-size-gt-MAX_BLOCK_BYTES-clause-cause : goal.returns-then-size-gt-MAX_BLOCK_BYTES-clause-cause
returns-then-size-gt-MAX_BLOCK_BYTES-clause-cause g c =
    let now = c.args.self.now in
    let disk = g.D.Disk.disk now.disk in
    let seen = c.known-known.result.now in
    let same = c.known-known.ensures.same in
    let kept = subst IsKept (sym same) c.known-known.ensures.kept in
    let held = subst (λ (hand : InHand). (opened_of hand).held c.args.index ≡ true) (sym same) c.requires.held in
    let size = c.bytes_of-size.ensures.size 0 c.args.index (sym c.leaf_of_block-leaf.ensures.number) in
    let large : MAX_BLOCK_BYTES < (twig_at (outline (opened_of seen)).node 0 c.args.index).size = omega (arith, size, c.if-size-gt-MAX_BLOCK_BYTES.true) in
    let never : IsTrue (is_standing disk seen) → ⊥ = λ stands.
    omega (arith, large, block_fits disk seen c.args.index kept held stands) in
    let unfit = ap (λ (n : ℕ). is_unfit (content_of disk seen) (NODE_BYTES * n)) c.leaf_of_block-leaf.ensures.number ∙ block_unfit disk seen c.args.index kept held large in
    rw (c.tell.ensures.told, c.tell.ensures.same, c.bad_record.ensures)
    (bad_told disk now.hand now.answered now.last disk.faults (NODE_BYTES * c.leaf_of_block-leaf.result) c.tell.ensures.more
    (subst (λ (hand : InHand). IsTrue (is_standing disk hand) → ⊥) same never)
    (subst (λ (hand : InHand). is_unfit (content_of disk hand) (NODE_BYTES * c.leaf_of_block-leaf.result) ≡ true) same unfit))

pub returns-in-Ok-clause-bytes : goal.returns-in-Ok-clause-bytes
returns-in-Ok-clause-bytes g c =
    let now = c.args.self.now in
    let disk = g.D.Disk.disk now.disk in
    let area = blocks_area disk in
    let seen = c.known-known.result.now in
    let same = c.known-known.ensures.same in
    let kept = subst IsKept (sym same) c.known-known.ensures.kept in
    let read = take c.bytes_of-size.result (c.read_bytes.new.into ++ drop c.bytes_of-size.result c.args.out.now) in
    let gives : IsTrue (is_showing disk seen) → read ≡ block_in area (outline (opened_of seen)) c.args.index = λ shows.
    let (honest, fit) = showing_fits disk seen kept shows in
    let few = sized (outline (opened_of seen)).node fit 0 c.args.index in
    let size : c.bytes_of-size.result ≡ (twig_at (outline (opened_of seen)).node 0 c.args.index).size =
    omega (arith, few, c.bytes_of-size.ensures.size 0 c.args.index (sym c.leaf_of_block-leaf.ensures.number)) in
    let at = c.offset-at.ensures fit in
    let room = length-take c.bytes_of-size.result c.args.out.now in
    let long : length c.read_bytes.new.into ≡ c.bytes_of-size.result =
    omega (arith, room, c.read_bytes.ensures.place, c.if-size-gt-MAX_BLOCK_BYTES.false, c.requires.room) in
    read_front c.bytes_of-size.result c.read_bytes.new.into _ long
    ∙ c.in-Ok.ensures.bytes honest
    ∙ ap (read_at area c.offset-at.result) (sym c.read_bytes.ensures.place ∙ long ∙ size)
    ∙ ap (λ (place : ℕ). read_at area place (twig_at (outline (opened_of seen)).node 0 c.args.index).size) at in
    subst (λ (hand : InHand). IsTrue (is_showing disk hand) → read ≡ block_in area (outline (opened_of hand)) c.args.index) same gives
