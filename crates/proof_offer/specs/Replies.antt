-- Which requests have an honest proof, by the head, the held indices and the closure alone; and that proof, as a view gives it.
use Rattle.std.specs.Prelude.{◌≡◌, ℕ, Bool, true, false, ◌&&◌, ◌||◌, not, List, take, Option, Some, None, is_some, nat_eq, IfSome}
use Rattle.flat_tree.specs.Roots.{depth_over}
use Rattle.proof_form.specs.declared.request.Want.{Want}
use Rattle.proof_form.specs.declared.request.Reach.{Reach}
use Rattle.proof_form.specs.declared.request.Request.{Request}
use Rattle.proof_form.specs.Proofs.{Proof}
use Rattle.node_set.specs.Contents.{Content, held}
use Rattle.node_set.specs.Closure.{in_closure}
use Rattle.node_set.specs.Offsets.{seek_at}
use Rattle.node_set.specs.Paths.{depth_of, offset_of_node}
use Rattle.proof_make.specs.Answers.{made_from, made}
use Rattle.proof_make.specs.Offers.{passes, has_block, ends_at, has_nodes, has_cover}
use Rattle.log_view.specs.Views.{Source}
use Rattle.log_view.specs.Walks.{FindsByte, FindsNone}
use Rattle.proof_offer.specs.Parts.{siblings_of, Answers, GivesBlockPart, GivesHashPart, GivesUpgradePart}

-- the block that is asked for by its index; or by a byte, where the index of the block that has it was found: then with its whole trail
abbrev pub asked_block : ℕ → Request → Option ℕ → Option Want
asked_block n request sought = ByIndex request.block
  where
    WithTrail : Option ℕ → Option Want
    WithTrail (Some index) = Some (record { index = index; nodes = depth_over n index })
    WithTrail None = None

    ByByte : Option ℕ → Option Want
    ByByte (Some byte) = WithTrail sought
    ByByte None = None

    ByIndex : Option Want → Option Want
    ByIndex (Some want) = Some want
    ByIndex None = ByByte request.seek

-- a block that is asked for by a byte was found
abbrev pub is_found : Request → Option ℕ → Bool
is_found request sought = is_some request.block || not (is_some request.seek) || is_some sought

-- the node and the siblings that are asked for are to be stored
abbrev pub has_hash : Content → Want → Bool
has_hash m want =
    let depth = depth_of want.index in
    let offset = offset_of_node want.index in
    in_closure m.length (held m) depth offset && has_nodes m (siblings_of depth offset want.nodes)

-- the upgrade ends at the length and begins below it, and its cover is to be stored
abbrev pub has_upgrade : Content → Reach → Bool
has_upgrade m reach = ends_at m.length reach && has_cover m reach

-- each part that is asked for has its answer
abbrev pub has_reply : Content → Request → Option ℕ → Bool
has_reply m request sought =
    nat_eq request.fork m.fork
    && is_found request sought
    && passes (has_block m) (asked_block m.length request sought)
    && passes (has_hash m) request.hash
    && passes (has_upgrade m) request.upgrade

-- the proof has the parts that are asked for and no other, each as the view gives it
pub record IsReply (s : Source) (request : Request) (sought : Option ℕ) (proof : Proof) : Type 0 where
  pub fork : proof.fork ≡ request.fork
  pub block : Answers (GivesBlockPart s) (asked_block s.content.length request sought) proof.block
  pub hash : Answers (GivesHashPart s) request.hash proof.hash
  pub seek : proof.seek ≡ request.seek
  pub upgrade : Answers (GivesUpgradePart s) request.upgrade proof.upgrade

-- the byte by which a block is asked for, where none is asked for by its index
abbrev pub sought_byte : Request → Option ℕ
sought_byte request = Beside request.block
  where
    Beside : Option Want → Option ℕ
    Beside (Some want) = None
    Beside None = request.seek

-- the index is that of the content's block that has the byte which is sought, if one is
abbrev pub IsSought : Content → Request → Option ℕ → Type 0
IsSought m request sought = IfSome (sought_byte request) (λ byte. sought ≡ seek_at m byte)

-- what a view finds of a sought byte: the index of the held block that has it, or none
abbrev pub Finds : Source → Option ℕ → Option ℕ → Type 0
Finds s None sought = sought ≡ None
Finds s (Some byte) None = FindsNone s byte
Finds s (Some byte) (Some index) = (past : ℕ) × FindsByte s byte index past

-- with what the view finds, a part that is asked for has no answer
abbrev pub LacksReply : Source → Request → Type 0
LacksReply s request = (sought : Option ℕ) × Finds s (sought_byte request) sought × (has_reply s.content request sought ≡ false)

-- with what the view finds, each part that is asked for has its answer, and the proof has these
abbrev pub GivesReply : Source → Request → Proof → Type 0
GivesReply s request proof =
    (sought : Option ℕ) × Finds s (sought_byte request) sought × (has_reply s.content request sought ≡ true) × IsReply s request sought proof

-- each proof that the content gives for a request without a sought byte is the one that the holder of the log's first blocks makes
abbrev pub ProofsAreOf : Content → List (List ℕ) → Type 0
ProofsAreOf m log = (request : Request) (proof : Proof) → request.seek ≡ None → made_from m request ≡ Some proof
    → made (take m.length log) m.fork m.signature request ≡ Some proof
