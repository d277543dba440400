-- Worked cases of the definitions.
use Rattle.std.proofs.Common.{◌≡◌, [], ◌∷◌, refl}
use Rattle.outside_traits.specs.Blobs.{cut_at}
use Rattle.outside_traits.specs.Lines.{lines_of}

-- empty lists count
pub cut_at_four_lists : cut_at (1 ∷ 2 ∷ 3 ∷ []) 0 (0 ∷ 2 ∷ 2 ∷ 3 ∷ []) ≡ [] ∷ (1 ∷ 2 ∷ []) ∷ [] ∷ (3 ∷ []) ∷ []
cut_at_four_lists = refl

-- 97 and 98 are letters, 10 is the line feed
lines_of_a_feed_b : lines_of (97 ∷ 10 ∷ 98 ∷ []) ≡ (97 ∷ []) ∷ (98 ∷ []) ∷ []
lines_of_a_feed_b = refl

lines_of_a_feed_feed_b_feed : lines_of (97 ∷ 10 ∷ 10 ∷ 98 ∷ 10 ∷ []) ≡ (97 ∷ []) ∷ [] ∷ (98 ∷ []) ∷ []
lines_of_a_feed_feed_b_feed = refl

lines_of_a_feed : lines_of (10 ∷ []) ≡ [] ∷ []
lines_of_a_feed = refl

lines_of_none : lines_of [] ≡ []
lines_of_none = refl

-- a carriage return is a byte of its line
lines_of_return_feed : lines_of (97 ∷ 13 ∷ 10 ∷ []) ≡ (97 ∷ 13 ∷ []) ∷ []
lines_of_return_feed = refl
