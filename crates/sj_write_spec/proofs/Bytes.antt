-- Numbers and their bytes.
use Rattle.std.proofs.Common.{ℕ, ◌<◌, ◌^◌, List, [], sym, ap, ◌∙◌, append-nil}
use Rattle.byteorder.specs.Endian.{big_number, big_bytes}
use Rattle.byteorder.specs.Numbers.{big_number-reads_back, length-bytes_high_first}
use Rattle.exact_place.specs.Grammar.{Spelling, ◌then◌}
use Rattle.sj_read_spec.specs.Spelling.{IsNumber}

-- a part and what follows it
pub step : {A B R : Type 0} {P : Spelling A} {Q : A → Spelling B} {y : B} {text : List ℕ} → (P then Q) y text
    → ((x : A) (front back : List ℕ) → P x front → Q x y back → R) → R
step h k = k h.value h.front h.back h.first h.second

pub number_spelled : (n x : ℕ) → x < 256 ^ n → IsNumber n x (big_bytes n x)
number_spelled n x h = record {
  count = length-bytes_high_first n x;
  value = sym (ap (big_number n) (sym (append-nil (big_bytes n x))) ∙ big_number-reads_back n x [] h);
  small = h;
}
