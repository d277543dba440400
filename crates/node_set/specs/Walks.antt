-- What walks along a block's path over a view tell.
use Rattle.std.specs.Prelude.{◌≡◌, ℕ, Bool, true, false, ◌<◌, ◌≤◌, ◌/◌, ◌^◌}
use Rattle.flat_tree.specs.Roots.{depth_over}
use Rattle.flat_tree.specs.declared.limits.TheConstants.{MAX_BLOCKS, MAX_SIBLINGS}
use Rattle.node_set.specs.Closure.{in_closure}
use Rattle.node_set.specs.Views.{ViewState, KeepsContent}

-- so many levels above a block's leaf is the first node of its path that is to be stored; the root over it is, at the latest
pub record IsFirstStored (n : ℕ) (held : ℕ → Bool) (index levels : ℕ) : Type 0 where
  pub within : levels ≤ depth_over n index
  pub stored : in_closure n held levels (index / 2 ^ levels) ≡ true
  pub first : (level : ℕ) → level < levels → in_closure n held level (index / 2 ^ level) ≡ false

-- the content stays, and no count fell
pub record KeepsView (old new : ViewState) : Type 0 where
  pub keeps : KeepsContent old new
  pub faults : old.faults ≤ new.faults
  pub answered : old.answered ≤ new.answered

-- a node so many levels above a block's leaf has a number
pub record IsInTree (index level : ℕ) : Type 0 where
  pub blocks : index < MAX_BLOCKS
  pub levels : level ≤ MAX_SIBLINGS
