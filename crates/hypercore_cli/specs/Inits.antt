-- What `init` may do: how each end of it comes about.
use Rattle.std.specs.Prelude.{◌≡◌, ◌⊎◌, true, IsTrue, Result, Ok, Err}
use Rattle.std.specs.Io.KnownBytes.{Keeps, Appends}
use Rattle.outside_traits.specs.Faults.{Rose}
use Rattle.outside_traits.specs.Streams.{SinkView, AppendsFront}
use Rattle.node_set.specs.Contents.{start}
use Rattle.core_shelf.specs.Named.{Stays}
use Rattle.hypercore_cli.specs.Cores.{NamedCore, WasListed, WasUnlisted, StandsNow}
use Rattle.hypercore_cli.specs.Outcomes.{id_line}
use Rattle.hypercore_cli.specs.declared.outcome.Outcome.{Outcome}
use Rattle.hypercore_cli.specs.declared.outcome.Outcome.TheVariants.{Done, WriteFault, StoreFault, CoreExists, NoMemory}

-- the core came onto the list, and its disk stands for the content without blocks
pub record IsNew (c : NamedCore) : Type 0 where
  pub was : WasUnlisted c
  pub marked : IsTrue c.old.honest → c.new.marked c.id ≡ true
  pub stands : StandsNow c start

-- the core is on the list as it was, or its disk stands for the content without blocks
abbrev pub MayBeNew : NamedCore → Type 0
MayBeNew c = (IsTrue c.old.honest → c.new.marked c.id ≡ c.old.marked c.id) ⊎ StandsNow c start

-- where the core was on the list, it is there still, and its disk is as it was
abbrev pub KeepsListed : NamedCore → Type 0
KeepsListed c = IsTrue c.old.honest → c.old.marked c.id ≡ true → Stays c.id c.old c.new

-- how making a core is refused
abbrev pub RefusesInit : NamedCore → Outcome → Type 0
RefusesInit c CoreExists = WasListed c × (IsTrue c.old.honest → Stays c.id c.old c.new)
RefusesInit c StoreFault = Rose c.old.faults c.new.faults × MayBeNew c × KeepsListed c
RefusesInit c NoMemory = WasUnlisted c × MayBeNew c
RefusesInit c outcome = ⊥

-- the core was made, or making it was refused
abbrev pub MakesNew : NamedCore → Result (Unit {0}) Outcome → Type 0
MakesNew c (Ok _) = IsNew c
MakesNew c (Err outcome) = RefusesInit c outcome

-- when each end of `init` comes, and what the output then has
abbrev pub InitsTo : NamedCore → SinkView → SinkView → Outcome → Type 0
InitsTo c output output_now Done = IsNew c × Appends output.holds output_now.holds (id_line c.id)
InitsTo c output output_now WriteFault = Rose output.faults output_now.faults × IsNew c × AppendsFront output.holds output_now.holds (id_line c.id)
InitsTo c output output_now outcome = RefusesInit c outcome × Keeps output.holds output_now.holds
