-- How a command ends by a fault of a core.
use Rattle.flat_tree.specs.declared.limits.TheConstants.{MAX_BLOCK_BYTES}
use Rattle.merkle_nodes.specs.declared.limit.What.TheVariants.{Block}
use Rattle.node_set.specs.declared.fault.CoreFault.{CoreFault}
use Rattle.node_set.specs.declared.fault.CoreFault.TheVariants.{StoreFault as StoreFails, BadStore as IsBadStore, Damaged as IsDamaged, BadSignature as IsUnsigned, OutOfRange as PassesEnd, Unavailable as IsNotHeld, Limit as PassesLimit}
use Rattle.core_shelf.specs.declared.fault.NamedFault.{NamedFault}
use Rattle.core_shelf.specs.declared.fault.NamedFault.TheVariants.{NoCore as IsUnlisted, CoreExists as IsListed, Core}
use Rattle.hypercore_cli.specs.declared.batches.AppendFault.{AppendFault}
use Rattle.hypercore_cli.specs.declared.batches.AppendFault.TheVariants.{ReadFault as ReadFails, TooLong, Core as CoreFails}
use Rattle.hypercore_cli.specs.declared.outcome.Outcome.{Outcome}
use Rattle.hypercore_cli.specs.declared.outcome.Outcome.TheVariants.{ReadFault, StoreFault, BadSignature, NoCore, CoreExists, OutOfRange, Unavailable, Limit, BadStore, Damaged, NoMemory}

-- by a fault of the core's disk; every other fault of a core counts as want of memory
abbrev pub store_end : CoreFault → Outcome
store_end StoreFails = StoreFault
store_end (IsBadStore area at) = BadStore area at
store_end (IsDamaged place want have) = Damaged place want have
store_end other = NoMemory

-- by what is answered where a core is made or opened
abbrev pub named_end : NamedFault → Outcome
named_end IsUnlisted = NoCore
named_end IsListed = CoreExists
named_end (Core IsUnsigned) = BadSignature
named_end (Core fault) = store_end fault

-- by what is answered where a block is read
abbrev pub read_end : CoreFault → Outcome
read_end (PassesEnd end) = OutOfRange end
read_end (IsNotHeld index) = Unavailable index
read_end fault = store_end fault

-- by what is answered where lines are appended
abbrev pub append_end : AppendFault → Outcome
append_end ReadFails = ReadFault
append_end TooLong = Limit Block MAX_BLOCK_BYTES
append_end (CoreFails StoreFails) = StoreFault
append_end (CoreFails (PassesLimit what max)) = Limit what max
append_end (CoreFails other) = NoMemory
