-- The digests of keys have one length.
use Rattle.std.proofs.Common.{◌≡◌, ℕ, zero, suc, ◌*◌, List, length, arith, refl, slice_index}
use Rattle.std.specs.Int.{w32, to_be_bytes}
use Rattle.std.proofs.lemmas.List.{length-append}
use Rattle.hex.specs.Hex.{lower_digits}
use Rattle.hex.proofs.HexLemmas.{length-encode_with}
use Rattle.sha1.specs.Sha1.{sha1, digest_bytes}
use Rattle.module_names.specs.Names.{sha1_digest}
use Rattle.sj_split_laws.specs.Laws.{HaveOneLength}

word_long : (n : ℕ) → length (to_be_bytes w32 n) ≡ 4
word_long n = refl

words_long : (hash : List ℕ) (n : ℕ) → length (digest_bytes hash n) ≡ 4 * n
unfolding digest_bytes
words_long hash zero = refl
words_long hash (suc n) = omega (arith, words_long hash n, length-append (digest_bytes hash n) (to_be_bytes w32 (slice_index hash n)), word_long (slice_index hash n))

sha1_long : (message : List ℕ) → length (sha1 message) ≡ 20
unfolding sha1
sha1_long message = words_long _ 5

pub digests_have_one_length : HaveOneLength sha1_digest
digests_have_one_length = record { size = 40; sized = λ key. omega (arith, length-encode_with lower_digits (sha1 key), sha1_long key) }
