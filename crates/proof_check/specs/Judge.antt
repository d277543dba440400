-- Whether an offered proof is admitted: the first refusal that holds, in this order, or the content after it.
use Rattle.std.specs.Prelude.{ℕ, Bool, ◌+◌, ◌&&◌, not, List, length, Option, Some, None, is_none, nat_le, nat_lt, nat_eq, if◌then◌else◌}
use Rattle.flat_tree.specs.declared.limits.TheConstants.{MAX_BLOCKS, MAX_CORE_BYTES}
use Rattle.commit_book.specs.declared.commit.Commit.{Commit}
use Rattle.commit_book.specs.declared.commit.Commit.TheVariants.{Fetch, Upgrade, UpgradeFetch, Reorg, ReorgFetch}
use Rattle.merkle_nodes.specs.declared.limit.What.TheVariants.{Blocks, Bytes}
use Rattle.merkle_nodes.specs.Tree.{leaf_of}
use Rattle.merkle_nodes.specs.Roots.{root_hash_of, signed_text}
use Rattle.proof_form.specs.declared.proof.UpgradePart.{UpgradePart}
use Rattle.proof_form.specs.Proofs.{Proof, Block}
use Rattle.node_set.specs.declared.fault.Refusal.{Refusal}
use Rattle.node_set.specs.declared.fault.Refusal.TheVariants.{Limit, OldFork, NewFork, NotLonger, WrongStart, BadSignature, SeekWrong}
use Rattle.node_set.specs.Contents.{Content, held, roots, bytes_under}
use Rattle.node_set.specs.Paths.{path_values}
use Rattle.node_set.specs.Changes.{fetch_content}
use Rattle.node_set.specs.Offsets.{offset_of}
use Rattle.node_set.specs.Refuses.{or_else, refuse_if}
use Rattle.core_forks.specs.Reorganise.{kept_of}
use Rattle.proof_check.specs.Upgraded.{with_upgrade, length_after, new_roots}
use Rattle.proof_check.specs.Parts.{Part, part_of_block, part_of_hash, of_part, range_refusal, levels_up, differs_refusal, uncovered_refusal}

-- the proof's fork is behind the head's, or ahead of it with no upgrade
abbrev pub fork_refusal : Proof → Content → Option Refusal
fork_refusal p m = or_else (refuse_if (nat_lt p.fork m.fork) (OldFork m.fork))
    (refuse_if (nat_lt m.fork p.fork && is_none p.upgrade) (NewFork m.fork))

-- the upgrade isn't longer, under the same fork
abbrev pub longer_refusal : Proof → Content → UpgradePart → Option Refusal
longer_refusal p m u = refuse_if (nat_eq p.fork m.fork && nat_le u.length m.length) (NotLonger m.length)

-- where an upgrade has to start: at the length under the same fork, at 0 under a greater one
abbrev pub due_start : Proof → Content → ℕ
due_start p m = if nat_eq p.fork m.fork then m.length else 0

-- the upgrade starts elsewhere
abbrev pub start_refusal : Proof → Content → UpgradePart → Option Refusal
start_refusal p m u = refuse_if (not (nat_eq u.start (due_start p m))) (WrongStart (due_start p m))

-- the head's refusals: the fork, then the length, then the start
abbrev pub head_refusal : Proof → Content → Option Refusal
head_refusal p m = or_else (fork_refusal p m) (or_else (of_part p.upgrade (longer_refusal p m)) (of_part p.upgrade (start_refusal p m)))

-- the log would have too many blocks, or, where the head isn't refused, too many bytes
abbrev pub limit_refusal : Proof → Content → Option Refusal
limit_refusal p m = or_else (of_part p.upgrade (λ u. refuse_if (nat_lt MAX_BLOCKS u.length) (Limit Blocks MAX_BLOCKS)))
    (refuse_if (is_none (head_refusal p m) && nat_lt MAX_CORE_BYTES (bytes_under (roots (with_upgrade p m)))) (Limit Bytes MAX_CORE_BYTES))

-- what each part is refused by, the block before the node
abbrev pub each_part : Proof → (Part → Option Refusal) → Option Refusal
each_part p refusal = or_else (of_part p.block (λ b. refusal (part_of_block b))) (of_part p.hash (λ h. refusal (part_of_hash h)))

-- the verifier refuses the upgraded head
abbrev pub signature_refusal : (List ℕ → List ℕ → Bool) → Proof → Content → Option Refusal
signature_refusal accepts p after =
    of_part p.upgrade (λ u. refuse_if (not (accepts (signed_text (root_hash_of (roots after)) after.length after.fork) u.signature)) BadSignature)

-- the block comes in: with its path up to the first node that is stored
abbrev pub fetched : Block → Content → Content
fetched b m = fetch_content b.index b.bytes (path_values b.index (leaf_of b.bytes) b.trail (levels_up m (part_of_block b))) m

-- the content with the block of the proof in, if it has one that isn't held
abbrev pub with_block : Proof → Content → Content
with_block p m = ByBlock p.block
  where
    ByBlock : Option Block → Content
    ByBlock None = m
    ByBlock (Some b) = if held m b.index then m else fetched b m

-- a byte is in so many from an offset on
abbrev pub is_in : ℕ → ℕ → ℕ → Bool
is_in byte offset len = nat_le offset byte && nat_lt byte (offset + len)

-- the sought byte isn't in the block
abbrev pub seek_refusal : Proof → Content → Option Refusal
seek_refusal p after = of_part p.seek (λ byte. of_part p.block (λ b.
    refuse_if (not (is_in byte (offset_of (with_block p after) b.index) (length b.bytes)))
    (SeekWrong (offset_of (with_block p after) b.index) (length b.bytes))))

-- why a proof is refused: the first that holds
abbrev pub refusal_of : (List ℕ → List ℕ → Bool) → Proof → Content → Option Refusal
refusal_of accepts p m =
    or_else (limit_refusal p m)
    (or_else (each_part p (range_refusal (length_after p m)))
    (or_else (head_refusal p m)
    (or_else (each_part p (differs_refusal (with_upgrade p m)))
    (or_else (each_part p (uncovered_refusal (with_upgrade p m)))
    (or_else (signature_refusal accepts p (with_upgrade p m))
    (seek_refusal p (with_upgrade p m)))))))

-- the content after an admitted proof
abbrev pub admitted : Proof → Content → Content
admitted p m = with_block p (with_upgrade p m)

-- the block of the proof that comes in
abbrev pub incoming : Proof → Content → Option ℕ
incoming p after = ByBlock p.block
  where
    ByBlock : Option Block → Option ℕ
    ByBlock None = None
    ByBlock (Some b) = if held after b.index then None else Some b.index

-- the commit of an upgrade, with the block that comes in
abbrev pub upgrade_commit : Proof → Content → UpgradePart → Option ℕ → Commit
upgrade_commit p m u None = if nat_lt m.fork p.fork then Reorg p.fork u.length (kept_of m u.length (new_roots u)) else Upgrade u.length
upgrade_commit p m u (Some index) =
    if nat_lt m.fork p.fork then ReorgFetch p.fork u.length (kept_of m u.length (new_roots u)) index else UpgradeFetch u.length index

-- the commit of an upgrade, if any, and of a block that comes in, if one does
abbrev pub commit_by : Proof → Content → Option UpgradePart → Option ℕ → Option Commit
commit_by p m None None = None
commit_by p m None (Some index) = Some (Fetch index)
commit_by p m (Some u) index = Some (upgrade_commit p m u index)

-- the commit of an admitted proof, where something changes
abbrev pub commit_of : Proof → Content → Option Commit
commit_of p m = commit_by p m p.upgrade (incoming p (with_upgrade p m))
