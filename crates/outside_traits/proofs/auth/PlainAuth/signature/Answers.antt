use Rattle.std.proofs.Common.{ap, ◌∙◌, ◌++◌, ◌-◌, replicate, drop, arith, length-drop}
use Rattle.std.proofs.lemmas.List.{take_all}
use Rattle.outside_traits.proofs.auth.PlainAuth.signature.Goals as goal

pub returns : goal.returns
returns c = let rest = drop 32 c.args.text.now in
    let size = length-drop 32 c.args.text.now ∙ ap (λ n. n - 32) c.told-text in
    ap (λ l. l ++ replicate 16 c.args.self.now.mark) (c.copy_from_slice.ensures.after ∙ take_all 48 rest (omega (arith, size)))
