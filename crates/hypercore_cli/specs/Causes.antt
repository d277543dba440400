-- How each end of a run comes about.
use Rattle.std.specs.Prelude.{ℕ, List, IsTrue, IsFalse}
use Rattle.std.specs.Io.KnownBytes.{Keeps}
use Rattle.hypercore_cli.specs.Words.{is_well_formed}
use Rattle.hypercore_cli.specs.Commands.{Says}
use Rattle.hypercore_cli.specs.Runs.{Run, NoOutput, LeavesShelf}
use Rattle.hypercore_cli.specs.Checks.{ChecksTo}
use Rattle.hypercore_cli.specs.Proves.{ProvesTo}
use Rattle.hypercore_cli.specs.Cores.{NamedCore, core_of, KeepsRest, KeepsMark, KeepsContent}
use Rattle.hypercore_cli.specs.Inits.{InitsTo}
use Rattle.hypercore_cli.specs.Gets.{GetsTo}
use Rattle.hypercore_cli.specs.Extends.{ExtendsTo}
use Rattle.hypercore_cli.specs.declared.command.Command.{Command}
use Rattle.hypercore_cli.specs.declared.command.Command.TheVariants.{Check, Prove, Init, Append, Get}
use Rattle.hypercore_cli.specs.declared.outcome.Outcome.{Outcome}
use Rattle.hypercore_cli.specs.declared.outcome.Outcome.TheVariants.{Usage}

-- the core of a name in a run
abbrev pub core_in : Run → List ℕ → List ℕ → NamedCore
core_in r key name = core_of r.streams.accepts r.public key name r.shelf r.shelf_now

-- when each end of a command comes, what the output then has, and what the shelf is then
abbrev pub RunsTo : Run → Command → Outcome → Type 0
RunsTo r (Check key) outcome = ChecksTo r.streams key outcome × LeavesShelf r.shelf r.shelf_now
RunsTo r (Prove key index) outcome = ProvesTo r.streams key index outcome × LeavesShelf r.shelf r.shelf_now
RunsTo r (Init key name) outcome =
    InitsTo (core_in r key name.now) r.streams.output r.streams.output_now outcome × KeepsRest (core_in r key name.now)
RunsTo r (Append key name) outcome =
    ExtendsTo (core_in r key name.now) r.streams.input r.streams.input_now r.streams.output r.streams.output_now outcome
    × KeepsRest (core_in r key name.now) × KeepsMark (core_in r key name.now)
RunsTo r (Get key name index) outcome = GetsTo (core_in r key name.now) index r.streams.output r.streams.output_now outcome
    × KeepsRest (core_in r key name.now) × KeepsMark (core_in r key name.now) × KeepsContent (core_in r key name.now)

-- when each end of a run with these words comes
abbrev pub Causes : List (List ℕ) → Run → Outcome → Type 0
Causes words r Usage = IsFalse (is_well_formed words) × NoOutput r.streams × Keeps r.streams.input.left r.streams.input_now.left
    × LeavesShelf r.shelf r.shelf_now
Causes words r outcome = IsTrue (is_well_formed words) × (command : Command) × Says words command × RunsTo r command outcome
