-- What a disk went through: the areas that it began with, and the steps that changed them.
use Rattle.std.specs.Prelude.{ℕ, List, []}
use Rattle.disk_trait.specs.declared.disk.Area.{Area}
use Rattle.disk_trait.specs.Contents.{Contents, empty}

-- what a call did to an area
pub data Change : Type 0 where
  wrote : ℕ → List ℕ → Change
  cut_to : ℕ → Change
  synced : Change

-- a call that succeeded: how many calls were made before it, its area, and what it did there
pub record Step : Type 0 where
  pub call : ℕ
  pub area : Area
  pub change : Change

-- what the areas had at first, and the steps since, of which the newest comes first
pub record Past : Type 0 where
  pub start : Contents
  pub steps : List Step

-- a disk that tells nothing of it
abbrev pub no_past : Past
no_past = record { start = empty; steps = [] }
