-- The head of a core, as headers and entries have it (docs/FORMATS.md, "Headers and entries").
use Rattle.std.specs.Prelude.{◌≡◌, ℕ, ◌≤◌, List, ◌++◌, length, Ok}
use Rattle.flat_tree.specs.declared.limits.TheConstants.{MAX_BLOCKS, MAX_FORK}
use Rattle.merkle_nodes.specs.declared.roots.Head.{Head}
use Rattle.compact_enc.specs.Spelling.{uint_spelling}
use Rattle.compact_enc.specs.Reading.{◌>>=◌}
use Rattle.compact_enc.specs.Input.{Input}
use Rattle.oplog_form.specs.Form.{Read, number_of, fixed_in}

-- a fork, a length and a signature
abbrev pub head_spelling : Head → List ℕ
head_spelling head = uint_spelling head.fork ++ (uint_spelling head.length ++ head.signature)

-- fork and length are within the limits of a core
pub record HeadFits (head : Head) : Type 0 where
  pub fork : head.fork ≤ MAX_FORK
  pub few : head.length ≤ MAX_BLOCKS
  pub signature : length head.signature ≡ 64

-- a fork, a length and a signature
unfoldable pub head_in : Input → Read Head
head_in input = do
  fork ← number_of MAX_FORK input
  blocks ← number_of MAX_BLOCKS fork.1
  signature ← fixed_in 64 blocks.1
  Ok (record { fork = fork.0; length = blocks.0; signature = signature.0 }, signature.1)
