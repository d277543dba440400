-- Memory that is taken for what a proof brings, and how its block comes in.
use Rattle.std.specs.Prelude.{◌≡◌, ℕ, Bool, true, false, ◌≤◌, ◌||◌, List, length, Option, None, Some, IfSome, is_some, nat_eq, option_map, slice_set, if◌then◌else◌}
use Rattle.std.specs.List.{AllByRecursion}
use Rattle.flat_tree.specs.Subtrees.{number}
use Rattle.bit_field.specs.Places.{has}
use Rattle.merkle_nodes.specs.declared.node.Node.{Node}
use Rattle.proof_form.specs.Proofs.{Proof, Block}
use Rattle.node_set.specs.declared.change.Change.{Change}
use Rattle.node_set.specs.Contents.{held}
use Rattle.node_set.specs.Nodes.{has_place}
use Rattle.proof_check.specs.Upgraded.{length_after}
use Rattle.proof_check.specs.Judge.{refusal_of, admitted}
use Rattle.proof_check.specs.Admission.{IsServed, stays}
use Rattle.core_state.specs.InMemory.{Stored, content_of}

-- there is a place for the block's bytes, unless it is held
abbrev pub HasSpare : (ℕ → Bool) → Option (List ℕ) → Option Block → Type 0
HasSpare held spare block = IfSome block (λ b. held b.index ≡ false → option_map (λ (bytes : List ℕ). length bytes) spare ≡ Some (length b.bytes))

-- they lie in it, unless it is held
abbrev pub HasBytes : (ℕ → Bool) → Option (List ℕ) → Option Block → Type 0
HasBytes held spare block = IfSome block (λ b. held b.index ≡ false → spare ≡ Some b.bytes)

-- there are places for the held indices and the blocks up to the new length, for each node that comes in, and for the block
pub record HasRoom (s : Stored) (p : Proof) : Type 0 where
  pub places : length_after p (content_of s) ≤ length s.parts.held
  pub blocks : length_after p (content_of s) ≤ s.room
  pub nodes : (depth offset : ℕ) → is_some ((admitted p (content_of s)).node depth offset) ≡ true
      → stays p (content_of s) depth offset ≡ false → has_place s.parts.nodes (number depth offset) ≡ true
  pub block : HasSpare (has s.parts.held) s.spare p.block

-- all memory is taken for a proof, unless it is refused
abbrev pub IsReserved : (List ℕ → List ℕ → Bool) → Stored → Proof → Type 0
IsReserved accepts s p = IsServed p (content_of s) → refusal_of accepts p (content_of s) ≡ None → HasRoom s p

-- there are places for all of a change, and for the block that it brings
pub record Suffices (s : Stored) (block : Option Block) (change : Change) : Type 0 where
  pub enough_places : change.head.length ≤ length s.parts.held
  pub enough_room : change.head.length ≤ s.room
  pub node_places : AllByRecursion (λ (node : Node). has_place s.parts.nodes node.index ≡ true) change.fresh
  pub block_place : HasSpare (has s.parts.held) s.spare block

-- the blocks with one that comes in, unless it is held
abbrev pub blocks_put : (ℕ → Bool) → Option Block → List (List ℕ) → List (List ℕ)
blocks_put held None blocks = blocks
blocks_put held (Some b) blocks = if held b.index then blocks else slice_set blocks b.index b.bytes

-- the held indices with that of the block
abbrev pub held_put : (ℕ → Bool) → Option Block → ℕ → Bool
held_put held None index = held index
held_put held (Some b) index = held index || nat_eq index b.index
