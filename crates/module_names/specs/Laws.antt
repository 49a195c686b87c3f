-- Laws of names, and digests of worked names.
use Rattle.std.specs.Prelude.{◌≡◌, ℕ, ◌<◌, List, [], codes, length, take, slice_index_or}
use Rattle.module_names.specs.Names.{Key, Digest, names_of}

-- no two keys have one name
abbrev pub NamesDiffer : Type 0
NamesDiffer = (digest_of : Key → Digest) (size : ℕ) → ((key : Key) → length (digest_of key) ≡ size) → (keys : List Key) → (i j : ℕ) → i < length keys → j < length keys → slice_index_or (names_of digest_of keys) i [] ≡ slice_index_or (names_of digest_of keys) j [] → i ≡ j

-- one digest for all
abbrev pub one_digest : Key → Digest
one_digest key = codes "d"

-- the first byte of a key as its digest
abbrev pub first_byte : Key → Digest
first_byte key = take 1 key
