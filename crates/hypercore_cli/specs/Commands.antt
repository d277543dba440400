-- What the words of a command line are read as.
use Rattle.std.specs.Prelude.{◌≡◌, ℕ, ◌&&◌, Bool, List, [], codes, Option, None, Some, IsTrue, IsFalse}
use Rattle.std.specs.Result.{result_unwrap_or}
use Rattle.hex.specs.Hex.{decode_sized}
use Rattle.hypercore_cli.specs.Words.{Slot, Key, Number, is_plain, fits_slot, is_well_formed, number_of, word_at}
use Rattle.hypercore_cli.specs.declared.command.Command.{Command}
use Rattle.hypercore_cli.specs.declared.command.Command.TheVariants.{Check, Prove, Init, Append, Get}

-- the word can stand in the place
abbrev pub fits : Slot → List ℕ → Bool
fits slot word = is_plain word && fits_slot slot word

-- the bytes of a key, from its digits
abbrev pub key_of : List ℕ → List ℕ
key_of word = result_unwrap_or (decode_sized word 32) []

-- the word is no key, or is this one
abbrev pub IsKeyOf : List ℕ → Option (List ℕ) → Type 0
IsKeyOf word None = IsFalse (fits Key word)
IsKeyOf word (Some key) = IsTrue (fits Key word) × (key ≡ key_of word)

-- the word is no number, or is this one
abbrev pub IsNumberOf : List ℕ → Option ℕ → Type 0
IsNumberOf word None = IsFalse (fits Number word)
IsNumberOf word (Some number) = IsTrue (fits Number word) × (number ≡ number_of word)

-- the words say this command, with these values
abbrev pub Says : List (List ℕ) → Command → Type 0
Says words (Check key) = (word_at 0 words ≡ codes "check") × (key ≡ key_of (word_at 1 words))
Says words (Prove key index) = (word_at 0 words ≡ codes "prove") × (key ≡ key_of (word_at 1 words)) × (index ≡ number_of (word_at 2 words))
Says words (Init key name) = (word_at 0 words ≡ codes "init") × (key ≡ key_of (word_at 1 words)) × (name.now ≡ word_at 2 words)
Says words (Append key name) = (word_at 0 words ≡ codes "append") × (key ≡ key_of (word_at 1 words)) × (name.now ≡ word_at 2 words)
Says words (Get key name index) =
    (word_at 0 words ≡ codes "get") × (key ≡ key_of (word_at 1 words)) × (name.now ≡ word_at 2 words) × (index ≡ number_of (word_at 3 words))

-- the words are no command line, or say this command
abbrev pub IsCommandOf : List (List ℕ) → Option Command → Type 0
IsCommandOf words None = IsFalse (is_well_formed words)
IsCommandOf words (Some command) = IsTrue (is_well_formed words) × Says words command
