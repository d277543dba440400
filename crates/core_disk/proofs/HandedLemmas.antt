-- The content that a core shows which was made or opened on a disk.
use Rattle.std.proofs.Common.{◌≡◌, ◌⊎◌, ℕ, Bool, true, List, IsTrue, sym, subst, ◌∙◌}
use Rattle.disk_trait.specs.declared.disk.Area.TheVariants.{Blocks as BlocksArea}
use Rattle.disk_trait.specs.Disk.{DiskView}
use Rattle.merkle_nodes.specs.declared.node.Node.{Node}
use Rattle.merkle_nodes.specs.Roots.{Accepts}
use Rattle.node_set.specs.Contents.{Content, start}
use Rattle.core_state.proofs.StartLemmas.{start_whole}
use Rattle.core_disk.specs.InHand.{InHand, opened_of}
use Rattle.core_disk.specs.Standing.{IsOpenedAs, HasBlocks, StandsFor}
use Rattle.core_disk.specs.Stored.{blocks_area, content_of}
use Rattle.core_disk.specs.Areas.{head_of}
use Rattle.core_disk.specs.Laid.{IsRooted}
use Rattle.core_disk.specs.Parts.{HasSignedHead}
use Rattle.core_disk.specs.Handed.{HasAcceptedHead}
use Rattle.core_disk.proofs.LaidLemmas.{content_is, roots_in}

pub start_shown : (disk : DiskView) (hand : InHand) → IsOpenedAs (opened_of hand) start → content_of disk hand ≡ start
start_shown disk hand opened =
    let none : HasBlocks (blocks_area disk) start = λ index bytes there. cc in
    content_is (blocks_area disk) (opened_of hand) start opened (start_whole (λ text signature. true)).sound none

pub content_shown : (accepts : List ℕ → List ℕ → Bool) (id : List ℕ) (old new : DiskView) (hand : InHand) (m : Content)
    → IsTrue old.honest → new.honest ≡ old.honest → new.reads BlocksArea ≡ old.reads BlocksArea
    → StandsFor accepts id old.reads m → IsOpenedAs (opened_of hand) m → content_of new hand ≡ m
content_shown accepts id old new hand m honest same blocks stands opened =
    let area : blocks_area new ≡ old.reads BlocksArea = rw (same ∙ honest) blocks in
    let has = subst (λ (bytes : List ℕ). HasBlocks bytes m) (sym area) stands.blocks in
    content_is (blocks_area new) (opened_of hand) m opened stands.whole.sound has

pub signed_shown : (accepts : List ℕ → List ℕ → Bool) (disk : DiskView) (hand : InHand) → IsRooted (opened_of hand) → HasSignedHead accepts (opened_of hand)
    → HasAcceptedHead accepts (content_of disk hand)
signed_shown accepts disk hand rooted signed =
    subst (λ (roots : List Node). Accepts accepts hand.head.fork hand.head.length roots hand.head.signature ⊎ (hand.head ≡ head_of start))
    (sym (roots_in (blocks_area disk) (opened_of hand) rooted)) signed
