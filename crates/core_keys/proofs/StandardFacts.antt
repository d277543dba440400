-- Keys and ids as another implementation of BLAKE2b gives them, so that a wrong order, key or text in the definitions does not check.
use Rattle.std.proofs.Common.{◌≡◌, [], ◌∷◌, codes, replicate, refl}
use Rattle.blake2b_hash.specs.Blake2b.{G, round, rounds, F, words, state_after, last_state, blake2b, hash_of}
use Rattle.core_keys.specs.Keys.{default_namespace, name_key_of, namespace_of, discovery_of, mac_public_of}
use Rattle.core_keys.specs.declared.ids.TheConstants.{DEFAULT_NAMESPACE}

-- the constant of the code
pub default_namespace_of_the_code : DEFAULT_NAMESPACE ≡ default_namespace
default_namespace_of_the_code = refl

-- the key of zeros, the default namespace
pub name_key_of_log : name_key_of (replicate 32 0) default_namespace (codes "log") ≡ 199 ∷ 153 ∷ 245 ∷ 1 ∷ 190 ∷ 63 ∷ 19 ∷ 172 ∷ 199 ∷ 73 ∷ 251 ∷ 105 ∷ 217 ∷ 204 ∷ 106 ∷ 191 ∷ 108 ∷ 187 ∷ 79 ∷ 118 ∷ 107 ∷ 180 ∷ 191 ∷ 229 ∷ 252 ∷ 141 ∷ 242 ∷ 239 ∷ 96 ∷ 229 ∷ 43 ∷ 185 ∷ []
unfolding G round rounds F words state_after last_state blake2b hash_of
name_key_of_log = refl

-- in the default namespace
pub namespace_of_log : namespace_of default_namespace (codes "log") ≡ 154 ∷ 104 ∷ 42 ∷ 12 ∷ 154 ∷ 119 ∷ 73 ∷ 29 ∷ 157 ∷ 58 ∷ 105 ∷ 177 ∷ 106 ∷ 93 ∷ 109 ∷ 236 ∷ 9 ∷ 16 ∷ 35 ∷ 96 ∷ 55 ∷ 248 ∷ 19 ∷ 161 ∷ 59 ∷ 105 ∷ 199 ∷ 40 ∷ 129 ∷ 153 ∷ 59 ∷ 59 ∷ []
unfolding G round rounds F words state_after last_state blake2b hash_of
namespace_of_log = refl

-- the key of zeros
pub public_of_zeros : mac_public_of (replicate 32 0) ≡ 156 ∷ 175 ∷ 179 ∷ 133 ∷ 211 ∷ 55 ∷ 194 ∷ 234 ∷ 22 ∷ 51 ∷ 229 ∷ 61 ∷ 41 ∷ 36 ∷ 233 ∷ 241 ∷ 221 ∷ 153 ∷ 128 ∷ 70 ∷ 135 ∷ 178 ∷ 29 ∷ 53 ∷ 44 ∷ 19 ∷ 2 ∷ 162 ∷ 241 ∷ 88 ∷ 104 ∷ 105 ∷ []
unfolding G round rounds F words state_after last_state blake2b hash_of
public_of_zeros = refl

-- of the core of that name, whose key is the name key
pub discovery_of_log : discovery_of (mac_public_of (name_key_of (replicate 32 0) default_namespace (codes "log"))) ≡ 243 ∷ 62 ∷ 121 ∷ 73 ∷ 251 ∷ 64 ∷ 10 ∷ 204 ∷ 172 ∷ 91 ∷ 165 ∷ 216 ∷ 208 ∷ 109 ∷ 145 ∷ 78 ∷ 146 ∷ 42 ∷ 84 ∷ 61 ∷ 125 ∷ 68 ∷ 176 ∷ 232 ∷ 232 ∷ 179 ∷ 153 ∷ 53 ∷ 105 ∷ 20 ∷ 115 ∷ 214 ∷ []
unfolding G round rounds F words state_after last_state blake2b hash_of
discovery_of_log = refl
