-- What can be spelled.
use Rattle.std.proofs.Common.{◌≡◌, ℕ, zero, suc, ◌<◌, ◌^◌, List, [], ◌∷◌, ◌++◌, length, refl, sym, arith, subst, Bool, true, false, Option, Some, None, slice_get}
use Rattle.std.specs.Str.{is_utf8}
use Rattle.byteorder.specs.Endian.{big_bytes}
use Rattle.exact_place.specs.Grammar.{Spelling, ◌then◌, IsValue}
use Rattle.sj_read_spec.specs.Spelling.{Found, Tested, IsByte, IsNumber, IsBytes, IsEach, IsCounted}
use Rattle.sj_read_spec.specs.Types.{IsCode, IsMark, mark_with, IsOption}
use Rattle.sj_read_spec.specs.Tables.{IsEntry, IsName, IsText}
use Rattle.sj_write_spec.proofs.Bytes.{number_spelled}

pub record Made {A : Type 0} (P : Spelling A) (x : A) : Type 0 where
  pub text : List ℕ
  pub spelled : P x text

pub seq : {A B : Type 0} {P : Spelling A} {Q : A → Spelling B} {y : B} (x : A) → Made P x → Made (Q x) y → Made (P then Q) y
seq x m n = record { text = m.text ++ n.text; spelled = record { value = x; front = m.text; back = n.text; first = m.spelled; second = n.spelled; parts = refl } }

pub gives : {A : Type 0} (v : A) → Made (IsValue v) v
gives v = record { text = []; spelled = record { same = refl; empty = refl } }

pub one_byte : (b : ℕ) → b < 256 → Made IsByte b
one_byte b h = record { text = b ∷ []; spelled = record { byte = refl; small = h } }

pub number : (n x : ℕ) → x < 256 ^ n → Made (IsNumber n) x
number n x h = record { text = big_bytes n x; spelled = number_spelled n x h }

pub found : {A : Type 0} (o : Option A) (x : A) → o ≡ Some x → Made (Found o) x
found {A} o x e = let P : Option A → Type 0 = λ v. Made (Found v) x in subst P (sym e) (gives x)

pub tested : {A : Type 0} (b : Bool) (x : A) → b ≡ true → Made (Tested b x) x
tested {A} b x e = let P : Bool → Type 0 = λ v. Made (Tested v x) x in subst P (sym e) (gives x)

pub coded : {A : Type 0} (meaning : ℕ → Option A) (code : ℕ) (x : A) → code < 256 → meaning code ≡ Some x → Made (IsCode meaning) x
coded meaning code x h e = seq code (one_byte code h) (found (meaning code) x e)

pub entry : {A : Type 0} (table : List A) (i : ℕ) (x : A) → i < 256 ^ 4 → slice_get table i ≡ Some x → Made (IsEntry table) x
entry table i x h e = seq i (number 4 i h) (found (slice_get table i) x e)

pub named : (grammar : List ℕ → Bool) (table : List (List ℕ)) (i : ℕ) (x : List ℕ) → i < 256 ^ 4 → slice_get table i ≡ Some x → grammar x ≡ true → Made (IsName grammar table) x
named grammar table i x h e g = seq x (entry table i x h e) (tested (grammar x) x g)

pub as_bytes : (t : List ℕ) → Made (IsBytes (length t)) t
as_bytes t = record { text = t; spelled = record { count = refl; same = refl } }

pub text : (t : List ℕ) → length t < 256 ^ 4 → is_utf8 t ≡ true → Made IsText t
text t h u = seq (length t) (number 4 (length t) h) (seq t (as_bytes t) (tested (is_utf8 t) t u))

pub none_of : {A : Type 0} (P : Spelling A) → Made (IsEach P zero) []
unfolding IsEach
none_of P = gives []

pub one_more : {A : Type 0} (P : Spelling A) (n : ℕ) (x : A) (xs : List A) → Made P x → Made (IsEach P n) xs → Made (IsEach P (suc n)) (x ∷ xs)
unfolding IsEach
one_more P n x xs m ms = seq x m (seq xs ms (gives (x ∷ xs)))

pub list_of : {A : Type 0} (P : Spelling A) (n : ℕ) (xs : List A) → n < 256 ^ 4 → Made (IsEach P n) xs → Made (IsCounted P) xs
list_of P n xs h m = seq n (number 4 n h) m

pub marked : (b : Bool) → Made IsMark b
marked true = coded mark_with 1 true (omega arith) refl
marked false = coded mark_with 0 false (omega arith) refl

pub nothing_there : {A : Type 0} (P : Spelling A) → Made (IsOption P) None
nothing_there P = seq false (marked false) (gives None)

pub something_there : {A : Type 0} (P : Spelling A) (x : A) → Made P x → Made (IsOption P) (Some x)
something_there P x m = seq true (marked true) (seq x m (gives (Some x)))
