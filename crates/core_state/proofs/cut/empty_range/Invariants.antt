use Rattle.std.proofs.Common.{◌≡◌, ◌≤◌, ◌<◌, ℕ, length, slice_get}
use Rattle.std.specs.Prelude.{◌⊎◌}
use Rattle.core_state.proofs.cut.empty_range.Given as goal

-- the places outside the range keep theirs
abbrev pub invariant-loop-index : goal.invariant-loop-index
invariant-loop-index l = record {
  count : length l.blocks.items ≡ length l.fn.blocks.items;
  outside : (index : ℕ) → (index < l.from) ⊎ (l.to ≤ index) → slice_get l.blocks.items index ≡ slice_get l.fn.blocks.items index;
  start : l.from ≤ l.index;
}
