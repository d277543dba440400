-- What is in memory of a core's disk, what it keeps, and what an entry does to it.
use Rattle.std.specs.Prelude.{◌≡◌, ℕ, Bool, true, false, ◌+◌, ◌<◌, ◌≤◌, List, [], ◌∷◌, length, Option, Some, None, Result, Ok, Err, if◌then◌else◌, nat_eq}
use Rattle.std.specs.List.{AllByRecursion}
use Rattle.flat_tree.specs.declared.limits.TheConstants.{MAX_BLOCKS, MAX_FORK, MAX_CORE_BYTES}
use Rattle.flat_tree.specs.Subtrees.{number}
use Rattle.flat_tree.specs.Roots.{full_roots_of}
use Rattle.bit_field.specs.Places.{has}
use Rattle.commit_book.specs.declared.commit.Commit.{Commit}
use Rattle.commit_book.specs.declared.commit.Commit.TheVariants.{Append, Truncate, Clear, Fetch, Upgrade, UpgradeFetch, Reorg, ReorgFetch}
use Rattle.commit_book.specs.History.{Summary}
use Rattle.merkle_nodes.specs.declared.node.Node.{Node}
use Rattle.merkle_nodes.specs.declared.roots.Head.{Head}
use Rattle.merkle_nodes.specs.Joined.{Values}
use Rattle.merkle_nodes.specs.Roots.{HasShape}
use Rattle.oplog_form.specs.declared.entry.Entry.{Entry}
use Rattle.node_set.specs.Contents.{roots_at}
use Rattle.node_set.specs.Nodes.{NodePages, values_of, has_place}
use Rattle.core_disk.specs.declared.replay.TheConstants.{MAX_NODES}
use Rattle.core_disk.specs.declared.replay.ApplyFault.{ApplyFault}
use Rattle.core_disk.specs.declared.replay.ApplyFault.TheVariants.{Memory, DoesntFollow}
use Rattle.core_disk.specs.Opened.{Opened, known_after, entry_after}
use Rattle.core_disk.specs.Following.{follows, are_known}

-- a head, its roots, a place for each block that a core may have, and nodes
pub record InHand : Type 0 where
  pub head : Head
  pub roots : List Node
  pub held : List Bool
  pub nodes : NodePages

-- what it stands for
abbrev pub opened_of : InHand → Opened
opened_of hand = record { head = hand.head; roots = hand.roots; held = has hand.held; nodes = values_of hand.nodes }

-- the head is within the limits, the roots are those of its length, and no place is set past it
pub record IsKept (hand : InHand) : Type 0 where
  pub blocks : hand.head.length ≤ MAX_BLOCKS
  pub fork : hand.head.fork ≤ MAX_FORK
  pub shape : HasShape hand.roots hand.head.length
  pub sizes : AllByRecursion (λ (node : Node). node.size ≤ MAX_CORE_BYTES) hand.roots
  pub places : length hand.held ≡ MAX_BLOCKS
  pub spare : (index : ℕ) → has hand.held index ≡ true → index < hand.head.length

-- values are equal at each number that a core may have
abbrev pub AgreeWithin : Values → Values → Type 0
AgreeWithin one other = (depth offset : ℕ) → number depth offset < MAX_NODES → one depth offset ≡ other depth offset

-- they are equal, but for nodes whose numbers no core has
pub record Agrees (one other : Opened) : Type 0 where
  pub head : one.head ≡ other.head
  pub roots : one.roots ≡ other.roots
  pub held : (index : ℕ) → one.held index ≡ other.held index
  pub nodes : AgreeWithin one.nodes other.nodes

-- an entry that follows is done, and one that doesn't is refused; without memory, or refused, nothing changes
abbrev pub Applies : Entry → Opened → Opened → Result (Unit {0}) ApplyFault → Type 0
Applies e old new (Ok _) = (follows old e ≡ true) × Agrees new (entry_after old e)
Applies e old new (Err Memory) = Agrees new old
Applies e old new (Err DoesntFollow) = (follows old e ≡ false) × Agrees new old

-- ---- its parts

-- a summary without its root hash, which no commit asks for
abbrev pub rootless : ℕ → ℕ → (ℕ → Bool) → Summary
rootless fork blocks held = record { fork = fork; length = blocks; root = []; held = held }

-- no block is held
abbrev pub none_held : ℕ → Bool
none_held index = false

-- the places that a commit names are there
abbrev pub NamesPlaces : ℕ → Commit → Type 0
NamesPlaces n (Append count) = n + count ≤ MAX_BLOCKS
NamesPlaces n (Truncate to fork) = to ≤ n
NamesPlaces n (Clear from to) = (from ≤ to) × (to ≤ n)
NamesPlaces n (Fetch index) = index < n
NamesPlaces n (Upgrade to) = Unit {0}
NamesPlaces n (UpgradeFetch to index) = index < MAX_BLOCKS
NamesPlaces n (Reorg fork to kept) = kept ≤ n
NamesPlaces n (ReorgFetch fork to kept index) = (kept ≤ n) × (index < MAX_BLOCKS)

-- the last node of a number, or else the one that was found before
abbrev pub last_of : List Node → ℕ → Option Node → Option Node
last_of [] index found = found
last_of (node ∷ nodes) index found = last_of nodes index (if nat_eq node.index index then Some node else found)

-- the roots of a length are these where each has a value, and none where one hasn't
abbrev pub GivesRoots : Values → ℕ → Option (List Node) → Type 0
GivesRoots value n None = are_known value (full_roots_of n) ≡ false
GivesRoots value n (Some roots) =
    (are_known value (full_roots_of n) ≡ true) × (roots ≡ roots_at value n) × AllByRecursion (λ (node : Node). node.size ≤ MAX_CORE_BYTES) roots

-- each node whose number a core may have has a place
abbrev pub HavePlaces : NodePages → List Node → Type 0
HavePlaces nodes = AllByRecursion (λ (node : Node). node.index < MAX_NODES → has_place nodes node.index ≡ true)

-- the roots after an entry where it follows, and none where it doesn't
abbrev pub NextRoots : Opened → Entry → Option (List Node) → Type 0
NextRoots o e None = follows o e ≡ false
NextRoots o e (Some roots) =
    (follows o e ≡ true) × (roots ≡ roots_at (known_after o e) e.head.length) × AllByRecursion (λ (node : Node). node.size ≤ MAX_CORE_BYTES) roots
