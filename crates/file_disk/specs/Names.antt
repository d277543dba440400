-- The files of a core's folder, by their names.
use Rattle.std.specs.Prelude.{◌≡◌, List, ℕ, Option, Some, None, if◌then◌else◌, codes, refl}
use Rattle.std.specs.Str.{bytes_eq}
use Rattle.disk_trait.specs.declared.disk.Area.{Area}
use Rattle.disk_trait.specs.declared.disk.Area.TheVariants.{Oplog, Tree, BitsA, BitsB, Blocks}

-- the name of an area's file
abbrev pub name_of : Area → List ℕ
name_of Oplog = codes "oplog"
name_of Tree = codes "tree"
name_of BitsA = codes "bits-a"
name_of BitsB = codes "bits-b"
name_of Blocks = codes "blocks"

-- the area whose file has this name
abbrev pub area_of_name : List ℕ → Option Area
area_of_name name =
    if bytes_eq name (name_of Oplog) then Some Oplog
    else if bytes_eq name (name_of Tree) then Some Tree
    else if bytes_eq name (name_of BitsA) then Some BitsA
    else if bytes_eq name (name_of BitsB) then Some BitsB
    else if bytes_eq name (name_of Blocks) then Some Blocks
    else None

-- each area has a name of its own
pub named_area : (area : Area) → area_of_name (name_of area) ≡ Some area
named_area Oplog = refl
named_area Tree = refl
named_area BitsA = refl
named_area BitsB = refl
named_area Blocks = refl
