-- A core in memory: the parts that show its content, what they keep, and what is seen of it.
use Rattle.std.specs.Prelude.{◌≡◌, ℕ, Bool, true, false, ◌<◌, ◌≤◌, List, length, Option, None}
use Rattle.bit_field.specs.Places.{has}
use Rattle.merkle_nodes.specs.declared.node.Node.{Node}
use Rattle.merkle_nodes.specs.Roots.{root_hash_of}
use Rattle.node_set.specs.Contents.{Content, roots}
use Rattle.node_set.specs.Whole.{IsSound, KeepsLimits}
use Rattle.node_set.specs.Tables.{Parts, shown}
use Rattle.node_set.specs.Views.{ViewState}
use Rattle.core_state.specs.States.{CoreState}

-- a head, places for held indices, nodes and blocks, the roots and their hash; for how many blocks memory is taken, and what lies
-- in the place of one that is to come in, if there is one
pub record Stored : Type 0 where
  pub parts : Parts
  pub roots : List Node
  pub root : List ℕ
  pub room : ℕ
  pub spare : Option (List ℕ)

-- the content that they show
abbrev pub content_of : Stored → Content
content_of stored = shown stored.parts

-- the parts fit together: there may be more places than blocks, of which none is held, and what they show is sound and
-- within the limits
pub record IsKept (stored : Stored) : Type 0 where
  pub places : stored.parts.head.length ≤ length stored.parts.held
  pub spare : (index : ℕ) → has stored.parts.held index ≡ true → index < stored.parts.head.length
  pub blocks : length stored.parts.blocks ≡ stored.parts.head.length
  pub root_nodes : stored.roots ≡ roots (content_of stored)
  pub root_is : stored.root ≡ root_hash_of stored.roots
  pub sound : IsSound (content_of stored)
  pub limits : KeepsLimits (content_of stored)

-- as a view it stands, and never fails
abbrev pub view_of : Stored → ViewState
view_of stored = record {
  content = content_of stored;
  stands = true;
  shows = true;
  past = None;
  moment = 0;
  faults = 0;
  tells = λ fault. false;
  answered = 0;
  last = None;
}

-- the same with who signs for it
pub record Owned (A : Type 0) : Type 0 where
  pub stored : Stored
  pub auth : A

-- a core in memory: it stands, nothing outside fails for it, and no area fills
abbrev pub mem_state : (List ℕ → List ℕ → Bool) → Content → CoreState
mem_state accepts m = record { content = m; accepts = accepts; faults = 0; broken = None; stands = true; fills = false }
