use Rattle.std.proofs.Common.{[], ◌∷◌, get_or, sym, ap, subst, ◌∙◌}
use Rattle.compact_enc.specs.Written.{Puts}
use Rattle.compact_enc.proofs.Spellings.{spelled_u8, spelled_u16, spelled_u32, spelled_u64}
use Rattle.compact_enc.proofs.encoder.Encoder.put_uint.Goals as goal

pub returns-then-value-lt-LEAST_U16-clause-puts : goal.returns-then-value-lt-LEAST_U16-clause-puts
returns-then-value-lt-LEAST_U16-clause-puts c =
    subst (λ s. Puts s c.args.self.now c.put_fixed.new.self c.put_fixed.result) (sym (spelled_u8 c.args.value c.if-value-lt-LEAST_U16.true)) c.put_fixed.ensures.puts

pub returns-then-value-lt-LEAST_U32-clause-puts : goal.returns-then-value-lt-LEAST_U32-clause-puts
returns-then-value-lt-LEAST_U32-clause-puts c =
    let put = c.put_fixed-then-value-lt-LEAST_U32 in
    let is = ap (λ l. 253 ∷ get_or l 0 0 ∷ get_or l 1 0 ∷ []) c.to_le_bytes-two.ensures in
    subst (λ s. Puts s c.args.self.now put.new.self put.result)
    (is ∙ sym (spelled_u16 c.args.value c.if-value-lt-LEAST_U16.false c.if-value-lt-LEAST_U32.true)) put.ensures.puts

pub returns-then-value-lt-LEAST_U64-clause-puts : goal.returns-then-value-lt-LEAST_U64-clause-puts
returns-then-value-lt-LEAST_U64-clause-puts c =
    let put = c.put_fixed-then-value-lt-LEAST_U64 in
    let is = ap (λ l. 254 ∷ get_or l 0 0 ∷ get_or l 1 0 ∷ get_or l 2 0 ∷ get_or l 3 0 ∷ []) c.to_le_bytes-four.ensures in
    subst (λ s. Puts s c.args.self.now put.new.self put.result)
    (is ∙ sym (spelled_u32 c.args.value c.if-value-lt-LEAST_U32.false c.if-value-lt-LEAST_U64.true)) put.ensures.puts

pub returns-clause-puts : goal.returns-clause-puts
returns-clause-puts c =
    let put = c.put_fixed-2 in
    let is = ap (λ l. 255 ∷ get_or l 0 0 ∷ get_or l 1 0 ∷ get_or l 2 0 ∷ get_or l 3 0 ∷ get_or l 4 0 ∷ get_or l 5 0 ∷ get_or l 6 0 ∷ get_or l 7 0 ∷ []) c.to_le_bytes-d.ensures in
    subst (λ s. Puts s c.args.self.now put.new.self put.result) (is ∙ sym (spelled_u64 c.args.value c.if-value-lt-LEAST_U64.false)) put.ensures.puts
