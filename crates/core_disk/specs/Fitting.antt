-- Which nodes of a core's disk are in their ranges, and which faults its reads may tell.
use Rattle.std.specs.Prelude.{◌≡◌, ℕ, Bool, true, false, ◌*◌, ◌==◌, ◌&&◌, ◌||◌, not, nat_le, nat_eq, Option, Some, None, if◌then◌else◌}
use Rattle.flat_tree.specs.declared.limits.TheConstants.{MAX_BLOCK_BYTES, MAX_CORE_BYTES}
use Rattle.flat_tree.specs.Subtrees.{number}
use Rattle.disk_trait.specs.declared.disk.Area.TheVariants.{Tree}
use Rattle.merkle_nodes.specs.declared.node.Twig.{Twig}
use Rattle.node_set.specs.declared.fault.CoreFault.{CoreFault}
use Rattle.node_set.specs.declared.fault.CoreFault.TheVariants.{StoreFault, BadStore}
use Rattle.node_set.specs.Contents.{Content, held}
use Rattle.node_set.specs.Closure.{in_closure}
use Rattle.core_disk.specs.declared.layout.TheConstants.{NODE_BYTES}
use Rattle.core_disk.specs.Testing.{each_node}

-- a node, if it is stored, is no larger than a core
abbrev pub size_fits : Option Twig → Bool
size_fits None = true
size_fits (Some twig) = nat_le twig.size MAX_CORE_BYTES

-- no stored node is larger than a core
abbrev pub sizes_fit : Content → Bool
sizes_fit m = each_node m.length (λ depth offset. size_fits (m.node depth offset))

-- the node is there, and no larger than a block at a leaf, and than a core elsewhere
abbrev pub is_in_range : ℕ → Option Twig → Bool
is_in_range depth None = false
is_in_range depth (Some twig) = nat_le twig.size (if depth == 0 then MAX_BLOCK_BYTES else MAX_CORE_BYTES)

-- the place in the tree area is of this node, which is to be stored
abbrev pub is_record_of : Content → ℕ → ℕ → ℕ → Bool
is_record_of m at depth offset = nat_eq at (NODE_BYTES * number depth offset) && in_closure m.length (held m) depth offset

-- the record at this place in the tree area isn't in its range
abbrev pub is_unfit : Content → ℕ → Bool
is_unfit m at = not (each_node m.length (λ depth offset. not (is_record_of m at depth offset) || is_in_range depth (m.node depth offset)))

-- the same in words
pub record IsUnfitRecord (m : Content) (at : ℕ) : Type 0 where
  pub depth : ℕ
  pub offset : ℕ
  pub place : at ≡ NODE_BYTES * number depth offset
  pub stored : in_closure m.length (held m) depth offset ≡ true
  pub unfit : is_in_range depth (m.node depth offset) ≡ false

-- what a read may tell beside its refusals: that the disk failed, or that a record isn't in its range
abbrev pub tells_of : Content → CoreFault → Bool
tells_of m StoreFault = true
tells_of m (BadStore Tree at) = is_unfit m at
tells_of m fault = false
