-- A bundle in memory as a value.
use Rattle.merkle_nodes.specs.declared.bundle.Bundle.{Bundle as BundleInMemory}
use Rattle.merkle_nodes.specs.Bundle.{Bundle}

-- its start, roots, trail and block
abbrev pub view : BundleInMemory → Bundle
view b = record { start = b.start; roots = b.roots; trail = b.trail; block = b.block.now }
