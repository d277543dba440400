use Rattle.std.proofs.Common.{ℕ, ◌+◌, ◌∙◌, refl, ap, sym, arith}
use Rattle.commit_book.specs.History.{BookState}
use Rattle.book_trial.proofs.Appends.{longer, stays_legal, turned}
use Rattle.book_trial.proofs.toy.Toy.append.Goals as goal

pub invariant_of-self-2 : goal.invariant_of-self-2
invariant_of-self-2 g c =
    let entries = ap (λ (b : BookState). b.entries) c.commit.ensures.book in
    rw entries (
      ap (λ (n : ℕ). n + c.args.count) c.self.invariant.0 ∙ sym (longer _ _ c.args.root.now _ c.self.invariant.1 (omega arith) (omega (arith, c.self.invariant.0))),
      stays_legal _ _ _ _ c.self.invariant.1 (omega arith) (omega (arith, c.self.invariant.0)),
    )

pub returns : goal.returns
returns g c =
    let entries = ap (λ (b : BookState). b.entries) c.commit.ensures.book in
    turned _ c.args.count c.args.root.now _ c.self.invariant.1 (omega arith) (omega (arith, c.self.invariant.0)) (c.if-full.ensures.room refl)
    _ _ _ c.commit.ensures.begins c.commit.ensures.noted (c.commit.ensures.seen ∙ entries) c.commit.ensures.made (ap (λ (n : ℕ). n + c.args.count) c.self.invariant.0)
