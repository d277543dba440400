-- A content in memory as its parts.
use Rattle.std.specs.Prelude.{vec_capacity}
use Rattle.core_state.specs.declared.stored.MemState.TheInside.{Inside}
use Rattle.core_state.specs.InMemory.{Stored}

-- its parts and its roots
abbrev pub stored_of : Inside → Stored
stored_of inside = record {
  parts = record { head = inside.head; held = inside.held; nodes = inside.nodes; blocks = inside.blocks.items };
  roots = inside.roots;
  root = inside.root;
  room = vec_capacity inside.blocks;
  spare = inside.spare;
}
