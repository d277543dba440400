-- The bytes of five areas as one value, and a file that is filled up with zeros.
use Rattle.std.specs.Prelude.{ℕ, ◌+◌, ◌-◌, ◌≤◌, List, [], ◌++◌, length, take, drop, replicate, Vec, vec_capacity}
use Rattle.std.specs.declared.alloc.Global.{Global}
use Rattle.disk_trait.specs.declared.disk.Area.{Area}
use Rattle.disk_trait.specs.declared.disk.Area.TheVariants.{Oplog, Tree, BitsA, BitsB, Blocks}

-- what each area has
pub record Contents : Type 0 where
  pub oplog : List ℕ
  pub tree : List ℕ
  pub bits_a : List ℕ
  pub bits_b : List ℕ
  pub blocks : List ℕ

-- one area's bytes
abbrev pub content_of : Contents → Area → List ℕ
content_of all Oplog = all.oplog
content_of all Tree = all.tree
content_of all BitsA = all.bits_a
content_of all BitsB = all.bits_b
content_of all Blocks = all.blocks

-- the same with another content of one area
abbrev pub with_content : Area → List ℕ → Contents → Contents
with_content Oplog bytes all = record all { oplog = bytes }
with_content Tree bytes all = record all { tree = bytes }
with_content BitsA bytes all = record all { bits_a = bytes }
with_content BitsB bytes all = record all { bits_b = bytes }
with_content Blocks bytes all = record all { blocks = bytes }

-- no area has a byte
abbrev pub empty : Contents
empty = record { oplog = []; tree = []; bits_a = []; bits_b = []; blocks = [] }

-- the file, filled up with zeros to this length
abbrev pub filled : ℕ → List ℕ → List ℕ
filled end file = file ++ replicate (end - length file) 0

-- the file with these bytes in place of those from this place on
abbrev pub pasted : ℕ → List ℕ → List ℕ → List ℕ
pasted at bytes file = take at file ++ bytes ++ drop (at + length bytes) file

-- five areas in memory, and for how many bytes of each memory was taken
pub record FilesView : Type 0 where
  pub all : Contents
  pub room : ℕ

-- memory was taken for so many bytes of each
pub record HasRoom (room : ℕ) (oplog tree bits_a bits_b blocks : Vec ℕ Global) : Type 0 where
  pub oplog_room : room ≤ vec_capacity oplog
  pub tree_room : room ≤ vec_capacity tree
  pub bits_a_room : room ≤ vec_capacity bits_a
  pub bits_b_room : room ≤ vec_capacity bits_b
  pub blocks_room : room ≤ vec_capacity blocks
