use Rattle.std.proofs.Common.{◌∙◌, arith}
use Rattle.bit_field.proofs.Bytes.{bytes_from-each}
use Rattle.bit_field.proofs.WordBytes.{bytes_more}
use Rattle.bit_field.proofs.page.put_words.Goals as goal

pub returns : goal.returns
returns c = bytes_from-each _ _ _ _ (omega arith) (λ at lt. c.loop-at.invariant at (omega arith))

pub loop-at-preserved : goal.loop-at-preserved
loop-at-preserved c =
    let bytes = c.copy_from_slice.ensures.after ∙ c.to_le_bytes-bytes.ensures in
    bytes_more c.args.words.now c.loop-at.out _ c.args.first c.loop-at.at (omega arith) bytes (omega arith) c.loop-at.invariant
