-- Values from outside, computed by the definitions.
use Rattle.std.proofs.Common.{◌≡◌, ◌-◌, ◌^◌, [], ◌∷◌, codes, Ok, Err, refl}
use Rattle.compact_enc.specs.declared.fields.EncFault.TheVariants.{Short, NotShortest, TooLarge}
use Rattle.compact_enc.specs.Spelling.{uint_spelling, buffer_spelling}
use Rattle.compact_enc.specs.Reading.{bytes_at, wide_at, uint_at, buffer_at}

-- the least and the largest number of each width
pub spelling_of_0 : uint_spelling 0 ≡ 0 ∷ []
unfolding uint_spelling
spelling_of_0 = refl

pub spelling_of_252 : uint_spelling 252 ≡ 0xfc ∷ []
unfolding uint_spelling
spelling_of_252 = refl

pub spelling_of_253 : uint_spelling 253 ≡ 0xfd ∷ 0xfd ∷ 0 ∷ []
unfolding uint_spelling
spelling_of_253 = refl

pub spelling_of_65535 : uint_spelling 65535 ≡ 0xfd ∷ 0xff ∷ 0xff ∷ []
unfolding uint_spelling
spelling_of_65535 = refl

pub spelling_of_65536 : uint_spelling 65536 ≡ 0xfe ∷ 0 ∷ 0 ∷ 1 ∷ 0 ∷ []
unfolding uint_spelling
spelling_of_65536 = refl

pub spelling_of_the_largest_of_4 : uint_spelling 4294967295 ≡ 0xfe ∷ 0xff ∷ 0xff ∷ 0xff ∷ 0xff ∷ []
unfolding uint_spelling
spelling_of_the_largest_of_4 = refl

pub spelling_of_the_least_of_8 : uint_spelling 4294967296 ≡ 0xff ∷ 0 ∷ 0 ∷ 0 ∷ 0 ∷ 1 ∷ 0 ∷ 0 ∷ 0 ∷ []
unfolding uint_spelling
spelling_of_the_least_of_8 = refl

pub spelling_of_the_largest : uint_spelling (2 ^ 64 - 1) ≡ 0xff ∷ 0xff ∷ 0xff ∷ 0xff ∷ 0xff ∷ 0xff ∷ 0xff ∷ 0xff ∷ 0xff ∷ []
unfolding uint_spelling
spelling_of_the_largest = refl

pub spelling_of_a_word : buffer_spelling (codes "hi") ≡ 2 ∷ codes "hi"
unfolding uint_spelling
spelling_of_a_word = refl

-- a longer spelling isn't read, whatever the largest number is
pub five_behind_a_mark : uint_at 100 0 (0xfd ∷ 5 ∷ 0 ∷ []) ≡ Err (NotShortest 0)
unfolding uint_at wide_at bytes_at
five_behind_a_mark = refl

pub five_behind_a_mark_is_not_too_large : uint_at 3 0 (0xfd ∷ 5 ∷ 0 ∷ []) ≡ Err (NotShortest 0)
unfolding uint_at wide_at bytes_at
five_behind_a_mark_is_not_too_large = refl

pub half_a_number : uint_at 100 0 (0xfd ∷ 5 ∷ []) ≡ Err (Short 0)
unfolding uint_at wide_at bytes_at
half_a_number = refl

pub a_number_too_large : uint_at 252 9 (0xfd ∷ 0xfd ∷ 0 ∷ 7 ∷ []) ≡ Err (TooLarge 9)
unfolding uint_at wide_at bytes_at
a_number_too_large = refl

pub a_number_and_more : uint_at 253 9 (0xfd ∷ 0xfd ∷ 0 ∷ 7 ∷ []) ≡ Ok (253, 7 ∷ [])
unfolding uint_at wide_at bytes_at
a_number_and_more = refl

-- a buffer is one field, whose faults are at its length
pub a_buffer_and_more : buffer_at 2 4 (2 ∷ codes "hi!") ≡ Ok (codes "hi", codes "!")
unfolding buffer_at uint_at bytes_at
a_buffer_and_more = refl

pub a_buffer_too_large : buffer_at 1 4 (2 ∷ codes "hi!") ≡ Err (TooLarge 4)
unfolding buffer_at uint_at bytes_at
a_buffer_too_large = refl

pub a_short_buffer_is_not_too_large : buffer_at 1 4 (3 ∷ codes "hi") ≡ Err (Short 4)
unfolding buffer_at uint_at bytes_at
a_short_buffer_is_not_too_large = refl

pub a_buffer_behind_a_longer_length : buffer_at 1 4 (0xfd ∷ 2 ∷ 0 ∷ codes "hi") ≡ Err (NotShortest 4)
unfolding buffer_at uint_at wide_at bytes_at
a_buffer_behind_a_longer_length = refl
