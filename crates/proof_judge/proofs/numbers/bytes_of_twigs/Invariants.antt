use Rattle.std.proofs.Common.{◌≡◌, ◌≤◌, ◌*◌, take}
use Rattle.flat_tree.specs.declared.limits.TheConstants.{MAX_CORE_BYTES}
use Rattle.root_stack.specs.Stack.{twig_bytes}
use Rattle.proof_judge.proofs.numbers.bytes_of_twigs.Given as goal

abbrev pub invariant-loop-twig : goal.invariant-loop-twig
invariant-loop-twig l = (l.bytes ≡ twig_bytes (take l.twig-index l.twigs)) × (l.bytes ≤ l.twig-index * MAX_CORE_BYTES)
