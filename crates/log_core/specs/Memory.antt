-- A log in memory: the parts that show its content, what they keep, and what is seen of it.
use Rattle.std.specs.Prelude.{◌≡◌, ℕ, Bool, true, false, ◌<◌, ◌≤◌, List, [], length, Option, Some, None, slice_get}
use Rattle.std.specs.Str.{bytes_eq}
use Rattle.bit_field.specs.Places.{has}
use Rattle.merkle_nodes.specs.declared.node.Node.{Node}
use Rattle.merkle_nodes.specs.Roots.{root_hash_of}
use Rattle.node_set.specs.Contents.{roots}
use Rattle.node_set.specs.Nodes.{value_at}
use Rattle.node_set.specs.Same.{is_stored_as}
use Rattle.node_set.specs.Whole.{IsSound, KeepsLimits}
use Rattle.node_set.specs.Tables.{Parts, shown}
use Rattle.log_view.specs.Views.{ViewState}

-- a head, places for held indices, nodes and blocks, and the roots with their hash
pub record Stored : Type 0 where
  pub parts : Parts
  pub roots : List Node
  pub root : List ℕ

-- the parts fit together: there may be more places than blocks, of which none is held, and what they show is sound and within the limits
pub record IsKept (stored : Stored) : Type 0 where
  pub places : stored.parts.head.length ≤ length stored.parts.held
  pub spare : (index : ℕ) → has stored.parts.held index ≡ true → index < stored.parts.head.length
  pub blocks : length stored.parts.blocks ≡ stored.parts.head.length
  pub root_nodes : stored.roots ≡ roots (shown stored.parts)
  pub root_is : stored.root ≡ root_hash_of stored.roots
  pub sound : IsSound (shown stored.parts)
  pub limits : KeepsLimits (shown stored.parts)

-- the bytes are those of the block
abbrev pub is_block : Option (List ℕ) → List ℕ → Bool
is_block None bytes = false
is_block (Some block) bytes = bytes_eq block bytes

-- as a view it shows its content, and never fails
abbrev pub memory_view : Stored → ViewState
memory_view stored = record {
  source = record {
    content = shown stored.parts;
    shows = true;
    gives = λ number twig. is_stored_as (value_at stored.parts.nodes number) twig;
    gives_block = λ index bytes. is_block (slice_get stored.parts.blocks index) bytes;
    beneath = [];
    past = None;
    reports = λ fault. false;
  };
  moment = 0;
  faults = 0;
  answered = 0;
  last = None;
}
