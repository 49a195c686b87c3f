-- The names of internal modules.
use Rattle.std.specs.Prelude.{ℕ, zero, suc, List, [], ◌∷◌, ◌++◌, codes, count_by, nat_eq}
use Rattle.std.specs.Cmp.Lexicographic.{pointwise}
use Rattle.sha1.specs.Sha1.{sha1}
use Rattle.hex.specs.Hex.{encode_lower}
use Rattle.sj_mangling.specs.Numerals.{number_text}

abbrev pub Key : Type 0
Key = List ℕ

abbrev pub Digest : Type 0
Digest = List ℕ

-- SHA-1 of the key's bytes, in lower-case hexadecimal
abbrev pub sha1_digest : Key → Digest
sha1_digest key = encode_lower (sha1 key)

-- what tells keys of one digest apart: nothing for the first of them, `-1` for the second, and so on
abbrev pub mark : ℕ → List ℕ
mark zero = []
mark (suc n) = codes "-" ++ number_text (suc n)

-- the name of a module whose key has this digest, as so many keys before it do
abbrev pub internal_name : Digest → ℕ → List ℕ
internal_name digest earlier = codes "internal-" ++ (digest ++ mark earlier)

-- how many of the keys have this digest
abbrev pub count_with : (Key → Digest) → List Key → Digest → ℕ
count_with digest_of keys digest = count_by (λ key. pointwise nat_eq (digest_of key) digest) keys

-- the names of the later keys, behind the earlier ones
abbrev pub names_behind : (Key → Digest) → List Key → List Key → List (List ℕ)
names_behind digest_of earlier [] = []
names_behind digest_of earlier (key ∷ keys) = internal_name (digest_of key) (count_with digest_of earlier (digest_of key)) ∷ names_behind digest_of (earlier ++ key ∷ []) keys

-- the names of the keys, in their order
abbrev pub names_of : (Key → Digest) → List Key → List (List ℕ)
names_of digest_of keys = names_behind digest_of [] keys
