-- When the five areas of a core's disk stand for a content.
use Rattle.std.specs.Prelude.{◌≡◌, ℕ, Bool, true, List, length, take, drop, Some, Ok}
use Rattle.disk_trait.specs.declared.disk.Area.TheVariants.{Oplog, Tree, BitsA, BitsB, Blocks as BlocksArea}
use Rattle.oplog_file.specs.Files.{File, IsFile}
use Rattle.node_set.specs.Contents.{Content, held, roots}
use Rattle.node_set.specs.Closure.{in_closure}
use Rattle.node_set.specs.Offsets.{offset_of}
use Rattle.node_set.specs.Whole.{IsWhole}
use Rattle.core_disk.specs.Opened.{Opened}
use Rattle.core_disk.specs.Areas.{Areas, head_of, file_gives}

-- what was opened is the content's: its head, its roots, its held blocks, and each node that is to be stored
pub record IsOpenedAs (o : Opened) (m : Content) : Type 0 where
  pub head : o.head ≡ head_of m
  pub roots_are : o.roots ≡ roots m
  pub held_are : (index : ℕ) → o.held index ≡ held m index
  pub nodes : (depth offset : ℕ) → in_closure m.length (held m) depth offset ≡ true → o.nodes depth offset ≡ m.node depth offset

-- each held block stands at its offset
abbrev pub HasBlocks : List ℕ → Content → Type 0
HasBlocks area m = (index : ℕ) (bytes : List ℕ) → m.block index ≡ Some bytes → take (length bytes) (drop (offset_of m index) area) ≡ bytes

-- the areas stand for a whole content of the core of this id: what they give when they are opened is the content's, and its
-- held blocks stand at their offsets
pub record StandsFor (accepts : List ℕ → List ℕ → Bool) (id : List ℕ) (areas : Areas) (m : Content) : Type 0 where
  pub whole : IsWhole accepts m
  pub file : File
  pub is_file : IsFile (areas Oplog) file
  pub opened : Opened
  pub gives : file_gives id areas file ≡ Ok opened
  pub opened_as : IsOpenedAs opened m
  pub blocks : HasBlocks (areas BlocksArea) m

-- the areas that no commit writes are as they were
pub record LeavesRest (areas now : Areas) : Type 0 where
  pub tree : now Tree ≡ areas Tree
  pub bits_a : now BitsA ≡ areas BitsA
  pub bits_b : now BitsB ≡ areas BitsB
