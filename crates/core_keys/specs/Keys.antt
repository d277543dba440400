-- Keys and ids of cores, and the program's own authority: a keyed hash, for which signer and verifier share the key (docs/FORMATS.md, "Keys").
use Rattle.std.specs.Prelude.{ℕ, Bool, List, ◌++◌, codes, replicate}
use Rattle.std.specs.Str.{bytes_eq}
use Rattle.blake2b_hash.specs.Blake2b.{blake2b, hash_of}

-- the namespace of whoever asked for no other
abbrev pub default_namespace : List ℕ
default_namespace = replicate 32 0

-- the namespace of this name inside another
abbrev pub namespace_of : List ℕ → List ℕ → List ℕ
namespace_of parent name = hash_of (parent ++ name)

-- the key of the core of this name in a namespace
abbrev pub name_key_of : List ℕ → List ℕ → List ℕ → List ℕ
name_key_of primary namespace name = blake2b 32 primary (namespace ++ name)

-- the discovery id of a public key, as Hypercore has it
abbrev pub discovery_of : List ℕ → List ℕ
discovery_of key = blake2b 32 key (codes "hypercore")

-- the signature of a text under a key
abbrev pub mac_signature_of : List ℕ → List ℕ → List ℕ
mac_signature_of key text = blake2b 64 key text

-- exactly that signature is accepted
abbrev pub mac_accepts : List ℕ → List ℕ → List ℕ → Bool
mac_accepts key text signature = bytes_eq (mac_signature_of key text) signature

-- the public key of a key
abbrev pub mac_public_of : List ℕ → List ℕ
mac_public_of key = hash_of (codes "hypercore-store/public/1" ++ key)
