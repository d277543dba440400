use Rattle.std.proofs.Common.{ℕ, ◌/◌, ◌^◌, ◌≡◌, ◌∙◌, ap, sym}
use Rattle.flat_tree.specs.Subtrees.{number}
use Rattle.flat_tree.proofs.NumberLemmas.{shifted}
use Rattle.flat_tree.proofs.numbers.offset.Goals as goal

-- what the two shifts give
offset_is : (node t d o : ℕ) → t ≡ d → node ≡ number d o → node / 2 ^ t / 2 ≡ o
offset_is node t d o same is =
    ap (λ (n : ℕ). n / 2 ^ t / 2) is ∙ ap (λ (e : ℕ). number d o / 2 ^ e / 2) same ∙ shifted d o

pub returns-clause-offset : goal.returns-clause-offset
returns-clause-offset c d o is = offset_is c.args.node c.depth.result d o (c.depth.ensures.depth d o is) is

pub returns-clause-some : goal.returns-clause-some
returns-clause-some c =
    let some = c.depth.ensures.some in
    let shifts = offset_is c.args.node c.depth.result c.depth.result some.0 (c.depth.ensures.depth c.depth.result some.0 some.1) some.1 in
    (c.depth.result, some.1 ∙ ap (λ (o : ℕ). number c.depth.result o) (sym shifts))
