-- Whether a node is stored with a size and a hash.
use Rattle.std.specs.Prelude.{Bool, false, ◌&&◌, Option, Some, None, nat_eq}
use Rattle.std.specs.Str.{bytes_eq}
use Rattle.merkle_nodes.specs.declared.node.Twig.{Twig}

-- two twigs have one size and one hash
abbrev pub is_same : Twig → Twig → Bool
is_same one other = nat_eq one.size other.size && bytes_eq one.hash other.hash

-- the node is stored with this size and hash
abbrev pub is_stored_as : Option Twig → Twig → Bool
is_stored_as None twig = false
is_stored_as (Some stored) twig = is_same stored twig
