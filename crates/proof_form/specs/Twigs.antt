-- Twigs one behind the other, and how many there are (docs/PROTOCOL.md, "Proofs").
use Rattle.std.specs.Prelude.{◌≡◌, ℕ, zero, suc, ◌≤◌, ◌==◌, List, [], ◌∷◌, ◌++◌, length, Ok, Err, if◌then◌else◌}
use Rattle.std.specs.List.{flat_map, AllByRecursion}
use Rattle.flat_tree.specs.Covers.{cover_of}
use Rattle.flat_tree.specs.declared.limits.TheConstants.{MAX_CORE_BYTES, MAX_SIBLINGS, MAX_UPGRADE_NODES}
use Rattle.merkle_nodes.specs.declared.node.Twig.{Twig}
use Rattle.merkle_nodes.specs.Bundle.{TwigFits}
use Rattle.compact_enc.specs.Spelling.{uint_spelling}
use Rattle.compact_enc.specs.Reading.{◌>>=◌}
use Rattle.compact_enc.specs.Input.{Input}
use Rattle.proof_form.specs.declared.form.Bad.TheVariants.{Count}
use Rattle.proof_form.specs.Form.{Read, number_of, fixed_in}

-- a size and a hash
abbrev pub twig_spelling : Twig → List ℕ
twig_spelling twig = uint_spelling twig.size ++ twig.hash

-- how many twigs, and each in order
abbrev pub twigs_spelling : List Twig → List ℕ
twigs_spelling twigs = uint_spelling (length twigs) ++ flat_map twig_spelling twigs

-- no more siblings than a block has, with sizes in range
pub record TrailFits (trail : List Twig) : Type 0 where
  pub few : length trail ≤ MAX_SIBLINGS
  pub twigs : AllByRecursion TwigFits trail

-- a twig for each subtree of the cover of the blocks start..end, and no more than an upgrade has
pub record CoverFits (start end : ℕ) (nodes : List Twig) : Type 0 where
  pub count : length nodes ≡ length (cover_of start end)
  pub few : length nodes ≤ MAX_UPGRADE_NODES
  pub twigs : AllByRecursion TwigFits nodes

-- a size and a hash
unfoldable pub twig_in : Input → Read Twig
twig_in input = do
  size ← number_of MAX_CORE_BYTES input
  hash ← fixed_in 32 size.1
  Ok (record { size = size.0; hash = hash.0 }, hash.1)

-- so many twigs
unfoldable pub twigs_in : ℕ → Input → Read (List Twig)
twigs_in zero input = Ok ([], input)
twigs_in (suc count) input = do
  twig ← twig_in input
  others ← twigs_in count twig.1
  Ok (twig.0 ∷ others.0, others.1)

-- the siblings of a path behind their number
unfoldable pub trail_in : Input → Read (List Twig)
trail_in input = do
  count ← number_of MAX_SIBLINGS input
  twigs_in count.0 count.1

-- the twigs of a cover behind their number, which can be no other
unfoldable pub cover_in : ℕ → ℕ → Input → Read (List Twig)
cover_in start end input = do
  count ← number_of MAX_UPGRADE_NODES input
  if count.0 == length (cover_of start end) then twigs_in count.0 count.1 else Err (record { at = input.place; why = Count })
