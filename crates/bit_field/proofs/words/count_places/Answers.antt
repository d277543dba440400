use Rattle.std.proofs.Common.{◌+◌, ◌*◌, refl, arith}
use Rattle.bit_field.specs.Places.{count_below}
use Rattle.bit_field.specs.Words.{in_words}
use Rattle.bit_field.proofs.Counts.{count_below-le}
use Rattle.bit_field.proofs.WordCounts.{count_word_more}
use Rattle.bit_field.proofs.words.count_places.Goals as goal

pub loop-word-init : goal.loop-word-init
unfolding count_below
loop-word-init c = refl

pub overflow_add-count : goal.overflow_add-count
overflow_add-count c =
    let at = c.loop-word.word-index in
    omega (arith, count_word_more c.args.words.now at (c.type_inv.words at).fits, count_below-le (in_words c.args.words.now) (64 * (at + 1)))

pub loop-word-preserved : goal.loop-word-preserved
loop-word-preserved c =
    let at = c.loop-word.word-index in
    omega (arith, count_word_more c.args.words.now at (c.type_inv.words at).fits)
