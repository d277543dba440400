-- Hashes that RFC 7693 or another implementation gives, so that a wrong constant, order or padding in the definitions does not check.
use Rattle.std.proofs.Common.{◌≡◌, [], ◌∷◌, codes, replicate, refl}
use Rattle.blake2b_hash.specs.Blake2b.{G, round, rounds, F, words, state_after, last_state, blake2b, hash_of}
use Rattle.blake2b_hash.specs.declared.hasher.TheConstants.{MAX_OUT_BYTES, MAX_KEY_BYTES}

-- RFC 7693, appendix A
pub hash_of_abc : blake2b 64 [] (codes "abc") ≡ 186 ∷ 128 ∷ 165 ∷ 63 ∷ 152 ∷ 28 ∷ 77 ∷ 13 ∷ 106 ∷ 39 ∷ 151 ∷ 182 ∷ 159 ∷ 18 ∷ 246 ∷ 233 ∷ 76 ∷ 33 ∷ 47 ∷ 20 ∷ 104 ∷ 90 ∷ 196 ∷ 183 ∷ 75 ∷ 18 ∷ 187 ∷ 111 ∷ 219 ∷ 255 ∷ 162 ∷ 209 ∷ 125 ∷ 135 ∷ 197 ∷ 57 ∷ 42 ∷ 171 ∷ 121 ∷ 45 ∷ 194 ∷ 82 ∷ 213 ∷ 222 ∷ 69 ∷ 51 ∷ 204 ∷ 149 ∷ 24 ∷ 211 ∷ 138 ∷ 168 ∷ 219 ∷ 241 ∷ 146 ∷ 90 ∷ 185 ∷ 35 ∷ 134 ∷ 237 ∷ 212 ∷ 0 ∷ 153 ∷ 35 ∷ []
unfolding G round rounds F words state_after last_state blake2b hash_of
hash_of_abc = refl

-- no byte, and so one block of zeros
pub hash_of_nothing : hash_of [] ≡ 14 ∷ 87 ∷ 81 ∷ 192 ∷ 38 ∷ 229 ∷ 67 ∷ 178 ∷ 232 ∷ 171 ∷ 46 ∷ 176 ∷ 96 ∷ 153 ∷ 218 ∷ 161 ∷ 209 ∷ 229 ∷ 223 ∷ 71 ∷ 119 ∷ 143 ∷ 119 ∷ 135 ∷ 250 ∷ 171 ∷ 69 ∷ 205 ∷ 241 ∷ 47 ∷ 227 ∷ 168 ∷ []
unfolding G round rounds F words state_after last_state blake2b hash_of
hash_of_nothing = refl

-- a key is a block of its own
pub keyed_hash_of_abc : blake2b 20 (codes "key") (codes "abc") ≡ 99 ∷ 197 ∷ 233 ∷ 210 ∷ 225 ∷ 103 ∷ 153 ∷ 30 ∷ 127 ∷ 202 ∷ 159 ∷ 232 ∷ 75 ∷ 74 ∷ 252 ∷ 178 ∷ 250 ∷ 183 ∷ 204 ∷ 153 ∷ []
unfolding G round rounds F words state_after last_state blake2b hash_of
keyed_hash_of_abc = refl

-- with no message the key's block is the last one
pub keyed_hash_of_nothing : blake2b 32 (codes "key") [] ≡ 230 ∷ 94 ∷ 223 ∷ 206 ∷ 90 ∷ 54 ∷ 38 ∷ 28 ∷ 216 ∷ 36 ∷ 203 ∷ 15 ∷ 13 ∷ 167 ∷ 54 ∷ 177 ∷ 16 ∷ 157 ∷ 207 ∷ 32 ∷ 210 ∷ 184 ∷ 49 ∷ 213 ∷ 152 ∷ 243 ∷ 55 ∷ 187 ∷ 53 ∷ 82 ∷ 163 ∷ 228 ∷ []
unfolding G round rounds F words state_after last_state blake2b hash_of
keyed_hash_of_nothing = refl

-- an input that ends at a block's end has that block as the last one
pub hash_of_one_block : hash_of (replicate 128 0) ≡ 55 ∷ 141 ∷ 12 ∷ 170 ∷ 170 ∷ 56 ∷ 85 ∷ 241 ∷ 179 ∷ 134 ∷ 147 ∷ 193 ∷ 214 ∷ 239 ∷ 0 ∷ 79 ∷ 209 ∷ 24 ∷ 105 ∷ 28 ∷ 149 ∷ 201 ∷ 89 ∷ 212 ∷ 239 ∷ 169 ∷ 80 ∷ 214 ∷ 214 ∷ 252 ∷ 247 ∷ 193 ∷ []
unfolding G round rounds F words state_after last_state blake2b hash_of
hash_of_one_block = refl

-- a byte more makes a second block
pub hash_of_two_blocks : hash_of (replicate 129 0) ≡ 186 ∷ 173 ∷ 251 ∷ 100 ∷ 195 ∷ 189 ∷ 44 ∷ 209 ∷ 135 ∷ 181 ∷ 74 ∷ 204 ∷ 197 ∷ 230 ∷ 26 ∷ 7 ∷ 32 ∷ 237 ∷ 134 ∷ 191 ∷ 72 ∷ 194 ∷ 128 ∷ 23 ∷ 135 ∷ 53 ∷ 54 ∷ 207 ∷ 144 ∷ 21 ∷ 209 ∷ 184 ∷ []
unfolding G round rounds F words state_after last_state blake2b hash_of
hash_of_two_blocks = refl

-- ---- limits

max_out_bytes_is : MAX_OUT_BYTES ≡ 64
max_out_bytes_is = refl

max_key_bytes_is : MAX_KEY_BYTES ≡ 64
max_key_bytes_is = refl
