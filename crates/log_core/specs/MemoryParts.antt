-- A log in memory as its parts.
use Rattle.log_core.specs.declared.mem_log.MemLog.TheInside.{Inside}
use Rattle.log_core.specs.Memory.{Stored}

-- its parts and its roots
abbrev pub stored_of : Inside → Stored
stored_of inside = record {
  parts = record { head = inside.head; held = inside.held; nodes = inside.nodes; blocks = inside.blocks.items };
  roots = inside.roots;
  root = inside.root;
}
