-- Reading a bundle from left to right. The fault is the number of bytes left at the first field that isn't whole or is
-- outside its range.
use Rattle.std.specs.Prelude.{◌≡◌, ℕ, zero, suc, ◌-◌, Bool, ◌&&◌, List, [], ◌∷◌, length, take, drop, Result, Ok, Err, nat_le, ◌==◌, if◌then◌else◌}
use Rattle.std.specs.Str.{bytes_eq}
use Rattle.std.specs.Int.{w64, from_le_bytes}
use Rattle.flat_tree.specs.Subtrees.{numbers_of}
use Rattle.flat_tree.specs.Roots.{full_roots_of, depth_over}
use Rattle.flat_tree.specs.declared.limits.TheConstants.{MAX_BLOCKS, MAX_FORK, MAX_BLOCK_BYTES, MAX_CORE_BYTES}
use Rattle.merkle_nodes.specs.declared.node.Node.{Node}
use Rattle.merkle_nodes.specs.declared.node.Twig.{Twig}
use Rattle.merkle_nodes.specs.declared.reading.BadField.{BadField}
use Rattle.merkle_nodes.specs.declared.reading.Start.{Start}
use Rattle.merkle_nodes.specs.Bundle.{Bundle, magic}

-- a field's value and the bytes after it, or the number of bytes left at the fault
abbrev pub Read : Type 0 → Type 0
Read A = Result (A × List ℕ) ℕ

infixl 10 ◌>>=◌
-- the next step, where no field was at fault
abbrev pub ◌>>=◌ : {A B : Type 0} → Result A ℕ → (A → Result B ℕ) → Result B ℕ
(Ok x) >>= f = f x
(Err e) >>= f = Err e

-- what a reader returned, seen by view, is what reading gives
abbrev pub Gives : {X Y : Type 0} → (X → Y) → Result X BadField → Result Y ℕ → Type 0
Gives view (Ok x) read = read ≡ Ok (view x)
Gives view (Err bad) read = read ≡ Err bad.left

-- so many bytes as they are
unfoldable pub bytes_at : ℕ → List ℕ → Read (List ℕ)
bytes_at count bytes = if nat_le count (length bytes) then Ok (take count bytes, drop count bytes) else Err (length bytes)

-- a number from low to high
abbrev pub is_within : ℕ → ℕ → ℕ → Bool
is_within low high n = nat_le low n && nat_le n high

-- a number of eight bytes from low to high
unfoldable pub number_at : ℕ → ℕ → List ℕ → Read ℕ
number_at low high bytes = do
  eight ← bytes_at 8 bytes
  if is_within low high (from_le_bytes w64 eight.0) then Ok (from_le_bytes w64 eight.0, eight.1) else Err (length bytes)

-- the magic bytes, and no others
unfoldable pub magic_at : List ℕ → Read (List ℕ)
magic_at bytes = do
  eight ← bytes_at 8 bytes
  if bytes_eq eight.0 magic then Ok eight else Err (length bytes)

-- the numbers and the signature at the start
unfoldable pub start_at : List ℕ → Read Start
start_at bytes = do
  begun ← magic_at bytes
  fork ← number_at 0 MAX_FORK begun.1
  blocks ← number_at 1 MAX_BLOCKS fork.1
  index ← number_at 0 (blocks.0 - 1) blocks.1
  signature ← bytes_at 64 index.1
  Ok (record { fork = fork.0; length = blocks.0; index = index.0; signature = signature.0 }, signature.1)

-- a size and a hash
unfoldable pub twig_at : List ℕ → Read Twig
twig_at bytes = do
  size ← number_at 0 MAX_CORE_BYTES bytes
  hash ← bytes_at 32 size.1
  Ok (record { size = size.0; hash = hash.0 }, hash.1)

-- a node for each number, in order
unfoldable pub nodes_at : List ℕ → List ℕ → Read (List Node)
nodes_at [] bytes = Ok ([], bytes)
nodes_at (index ∷ numbers) bytes = do
  twig ← twig_at bytes
  others ← nodes_at numbers twig.1
  Ok (record { index = index; size = twig.0.size; hash = twig.0.hash } ∷ others.0, others.1)

-- so many twigs
unfoldable pub twigs_at : ℕ → List ℕ → Read (List Twig)
twigs_at zero bytes = Ok ([], bytes)
twigs_at (suc count) bytes = do
  twig ← twig_at bytes
  others ← twigs_at count twig.1
  Ok (twig.0 ∷ others.0, others.1)

-- a block behind its length, after which nothing follows
unfoldable pub block_of : List ℕ → Result (List ℕ) ℕ
block_of bytes = do
  size ← number_at 0 MAX_BLOCK_BYTES bytes
  block ← bytes_at size.0 size.1
  if length block.1 == 0 then Ok block.0 else Err (length block.1)

-- all of the bytes
unfoldable pub bundle_of : List ℕ → Result Bundle ℕ
bundle_of bytes = do
  start ← start_at bytes
  roots ← nodes_at (numbers_of (full_roots_of start.0.length)) start.1
  trail ← twigs_at (depth_over start.0.length start.0.index) roots.1
  block ← block_of trail.1
  Ok (record { start = start.0; roots = roots.0; trail = trail.0; block = block })
