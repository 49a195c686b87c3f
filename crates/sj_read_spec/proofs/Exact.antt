-- What is read is spelled so, and what is spelled so is read, whatever follows.
use Rattle.std.proofs.Common.{◌≡◌, ℕ, zero, suc, ◌≤◌, ◌<◌, ◌^◌, ◌&&◌, Bool, true, false, cond, ltb, leb, List, [], ◌∷◌, ◌++◌, length, take, drop, Option, Some, None, Result, Ok, Err, refl, sym, ap, ap₂, subst, ◌∙◌, append_assoc, arith}
use Rattle.std.proofs.lemmas.Bool.{ltb-true, ltb-false, lt-ltb, le-ltb, leb-true, le-leb}
use Rattle.std.proofs.lemmas.List.{take_at, drop_at, take-append-drop, length-append, length-take}
use Rattle.byteorder.specs.Endian.{big_number}
use Rattle.byteorder.specs.Numbers.{big_from-append, big_from-take}
use Rattle.sj_read_spec.specs.declared.faults.Fault.{Fault}
use Rattle.sj_trees.specs.declared.refusals.Code.{Code}
use Rattle.sj_trees.specs.declared.refusals.Code.TheVariants.{Truncated}
use Rattle.exact_place.specs.Reading.{◌>>=◌}
use Rattle.sj_read_spec.specs.Reading.{Reading, fault, byte_at, number_at, bytes_at, found, tested, many_at, list_at}
use Rattle.exact_place.specs.Grammar.{Spelling, ◌then◌, IsValue, chosen}
use Rattle.sj_read_spec.specs.Spelling.{Never, Found, Tested, IsByte, IsNumber, IsBytes, IsEach, IsCounted}

-- what a reader took from the front spells the value
pub record Takes {A : Type 0} (P : Spelling A) (bytes : List ℕ) (x : A) (rest : List ℕ) : Type 0 where
  pub text : List ℕ
  pub spelled : P x text
  pub parts : bytes ≡ text ++ rest

pub record Exact {A : Type 0} (read : List ℕ → Reading A) (P : Spelling A) : Type 0 where
  pub takes : (bytes : List ℕ) (x : A) (rest : List ℕ) → read bytes ≡ Ok (x, rest) → Takes P bytes x rest
  pub again : (x : A) (text rest : List ℕ) → P x text → read (text ++ rest) ≡ Ok (x, rest)

-- the value of a step that did not fail
pub bind_ok : {A B : Type 0} (r : Result A Fault) (f : A → Result B Fault) (y : B) → (r >>= f) ≡ Ok y → (x : A) × (r ≡ Ok x) × (f x ≡ Ok y)
bind_ok (Ok x) f y e = (x, refl, e)
bind_ok (Err d) f y e = absurd cc

abbrev done : {A : Type 0} → A → Result A Fault
done x = Ok x

abbrev taken : {A : Type 0} → A → List ℕ → Reading A
taken x rest = Ok (x, rest)

ok_is : {A : Type 0} (x y : A) → done x ≡ done y → x ≡ y
ok_is x y e = cc

pair_first : {A : Type 0} (x y : A) (s t : List ℕ) → taken x s ≡ taken y t → x ≡ y
pair_first {A = A} x y s t e = ap (λ (p : A × List ℕ). p.0) (ok_is (x, s) (y, t) e)

pair_second : {A : Type 0} (x y : A) (s t : List ℕ) → taken x s ≡ taken y t → s ≡ t
pair_second {A = A} x y s t e = ap (λ (p : A × List ℕ). p.1) (ok_is (x, s) (y, t) e)

-- a part and what follows it; what follows is handed the bytes in front, for a fault where the part begins
pub exact_from : {A B : Type 0} (read : List ℕ → Reading A) (P : Spelling A) (next : List ℕ → A → List ℕ → Reading B) (Q : A → Spelling B)
    → Exact read P → ((front : List ℕ) (x : A) → Exact (next front x) (Q x)) → Exact (λ bytes. read bytes >>= λ x. next bytes x.0 x.1) (P then Q)
exact_from {A = A} read P next Q first second = record {
  takes = λ bytes y rest e.
      let b = bind_ok (read bytes) (λ x. next bytes x.0 x.1) (y, rest) e in
      let one = first.takes bytes b.0.0 b.0.1 b.1 in
      let two = (second bytes b.0.0).takes b.0.1 y rest b.2 in
      record {
        text = one.text ++ two.text;
        spelled = record { value = b.0.0; front = one.text; back = two.text; first = one.spelled; second = two.spelled; parts = refl };
        parts = one.parts ∙ ap (λ (t : List ℕ). one.text ++ t) two.parts ∙ sym (append_assoc one.text two.text rest);
      };
  again = λ y text rest p.
      let whole : text ++ rest ≡ p.front ++ (p.back ++ rest) = ap (λ (t : List ℕ). t ++ rest) p.parts ∙ append_assoc p.front p.back rest in
      let one = first.again p.value p.front (p.back ++ rest) p.first in
      let two = (second (text ++ rest) p.value).again y p.back rest p.second in
      ap (λ (t : List ℕ). read t >>= λ x. next (text ++ rest) x.0 x.1) whole ∙ ap (λ (r : Reading A). r >>= λ x. next (text ++ rest) x.0 x.1) one ∙ two;
}

-- the same where what follows doesn't look back
pub exact_then : {A B : Type 0} (read : List ℕ → Reading A) (P : Spelling A) (next : A → List ℕ → Reading B) (Q : A → Spelling B)
    → Exact read P → ((x : A) → Exact (next x) (Q x)) → Exact (λ bytes. read bytes >>= λ x. next x.0 x.1) (P then Q)
exact_then read P next Q first second = exact_from read P (λ front x. next x) Q first (λ front x. second x)

pub exact_value : {A : Type 0} (value : A) → Exact (λ bytes. Ok (value, bytes)) (IsValue value)
exact_value {A = A} value = record {
  takes = λ bytes x rest e. record { text = []; spelled = record { same = sym (pair_first value x bytes rest e); empty = refl }; parts = pair_second value x bytes rest e };
  again = λ x text rest p. ap (λ (t : List ℕ). taken value (t ++ rest)) p.empty ∙ ap (λ (v : A). taken v rest) (sym p.same);
}

pub exact_never : {A : Type 0} (why : List ℕ → Fault) → Exact {A = A} (λ bytes. Err (why bytes)) Never
exact_never why = record {
  takes = λ bytes x rest e. absurd cc;
  again = λ x text rest p. absurd p.never;
}

pub exact_chosen : {A : Type 0} (b : Bool) (r s : List ℕ → Reading A) (P Q : Spelling A) → Exact r P → Exact s Q → Exact (λ bytes. cond b (r bytes) (s bytes)) (chosen b P Q)
exact_chosen true r s P Q one two = one
exact_chosen false r s P Q one two = two

pub exact_found : {A : Type 0} (code : Code) (o : Option A) (front : List ℕ) → Exact (found code o front) (Found o)
exact_found code (Some x) front = exact_value x
exact_found code None front = exact_never (λ rest. fault code front)

pub exact_tested : {A : Type 0} (code : Code) (b : Bool) (x : A) (front : List ℕ) → Exact (tested code b x front) (Tested b x)
exact_tested code true x front = exact_value x
exact_tested code false x front = exact_never (λ rest. fault code front)

-- a test that held
held_ok : {A : Type 0} (b : Bool) (d : Fault) (x y : A) → cond b (Ok x) (Err d) ≡ Ok y → (b ≡ true) × (x ≡ y)
held_ok true d x y e = (refl, cc)
held_ok false d x y e = absurd cc

byte_takes : (bytes : List ℕ) (x : ℕ) (rest : List ℕ) → byte_at bytes ≡ Ok (x, rest) → Takes IsByte bytes x rest
byte_takes [] x rest e = absurd cc
byte_takes (b ∷ bytes) x rest e =
    let held = held_ok (ltb b 256) (fault Truncated (b ∷ bytes)) (b, bytes) (x, rest) e in
    let x-is : b ≡ x = ap (λ (p : ℕ × List ℕ). p.0) held.1 in
    let rest-is : bytes ≡ rest = ap (λ (p : ℕ × List ℕ). p.1) held.1 in
    record {
      text = b ∷ [];
      spelled = record { byte = ap (λ (v : ℕ). v ∷ []) x-is; small = omega (arith, ltb-true _ _ held.0, x-is) };
      parts = ap (λ (t : List ℕ). b ∷ t) rest-is;
    }

byte_there : (x : ℕ) (rest : List ℕ) → x < 256 → byte_at (x ∷ rest) ≡ Ok (x, rest)
byte_there x rest small = let e : ltb x 256 ≡ true = lt-ltb _ _ small in rw e refl

byte_again : (x : ℕ) (text rest : List ℕ) → IsByte x text → byte_at (text ++ rest) ≡ Ok (x, rest)
byte_again x text rest p = ap (λ (t : List ℕ). byte_at (t ++ rest)) p.byte ∙ byte_there x rest p.small

pub exact_byte : Exact byte_at IsByte
exact_byte = record { takes = byte_takes; again = byte_again }

-- a test that did not fail
guard_ok : {A : Type 0} (b : Bool) (d : Fault) (x y : A) → cond b (Err d) (Ok x) ≡ Ok y → (b ≡ false) × (x ≡ y)
guard_ok true d x y e = absurd cc
guard_ok false d x y e = (refl, cc)

both_hold : (a b : Bool) → (a && b) ≡ true → (a ≡ true) × (b ≡ true)
both_hold true b e = (refl, e)
both_hold false b e = absurd cc

number_takes : (n : ℕ) (bytes : List ℕ) (x : ℕ) (rest : List ℕ) → number_at n bytes ≡ Ok (x, rest) → Takes (IsNumber n) bytes x rest
number_takes n bytes x rest e =
    let g = held_ok (leb n (length bytes) && ltb (big_number n bytes) (256 ^ n)) (fault Truncated bytes) (big_number n bytes, drop n bytes) (x, rest) e in
    let both = both_hold (leb n (length bytes)) (ltb (big_number n bytes) (256 ^ n)) g.0 in
    let long : n ≤ length bytes = leb-true _ _ both.0 in
    let small : big_number n bytes < 256 ^ n = ltb-true _ _ both.1 in
    let x-is : big_number n bytes ≡ x = ap (λ (p : ℕ × List ℕ). p.0) g.1 in
    let rest-is : drop n bytes ≡ rest = ap (λ (p : ℕ × List ℕ). p.1) g.1 in
    record {
      text = take n bytes;
      spelled = record {
        count = omega (arith, length-take n bytes);
        value = sym x-is ∙ sym (big_from-take 0 n n bytes (omega arith));
        small = subst (λ (v : ℕ). v < 256 ^ n) x-is small;
      };
      parts = sym (take-append-drop n bytes) ∙ ap (λ (t : List ℕ). take n bytes ++ t) rest-is;
    }

number_there : (n : ℕ) (bytes : List ℕ) → n ≤ length bytes → big_number n bytes < 256 ^ n → number_at n bytes ≡ Ok (big_number n bytes, drop n bytes)
number_there n bytes long small =
    let first : leb n (length bytes) ≡ true = le-leb _ _ long in
    let second : ltb (big_number n bytes) (256 ^ n) ≡ true = lt-ltb _ _ small in
    rw (first, second) refl

number_again : (n x : ℕ) (text rest : List ℕ) → IsNumber n x text → number_at n (text ++ rest) ≡ Ok (x, rest)
number_again n x text rest p =
    let same : big_number n (text ++ rest) ≡ x = big_from-append n text rest (omega (arith, p.count)) ∙ sym p.value in
    let there = number_there n (text ++ rest) (omega (arith, length-append text rest, p.count)) (subst (λ (v : ℕ). v < 256 ^ n) (sym same) p.small) in
    there ∙ ap₂ taken same (drop_at text rest n p.count)

pub exact_number : (n : ℕ) → Exact (number_at n) (IsNumber n)
exact_number n = record { takes = number_takes n; again = number_again n }

bytes_takes : (n : ℕ) (bytes x rest : List ℕ) → bytes_at n bytes ≡ Ok (x, rest) → Takes (IsBytes n) bytes x rest
bytes_takes n bytes x rest e =
    let g = guard_ok (ltb (length bytes) n) (fault Truncated bytes) (take n bytes, drop n bytes) (x, rest) e in
    let long : n ≤ length bytes = ltb-false _ _ g.0 in
    let x-is : take n bytes ≡ x = ap (λ (p : List ℕ × List ℕ). p.0) g.1 in
    let rest-is : drop n bytes ≡ rest = ap (λ (p : List ℕ × List ℕ). p.1) g.1 in
    record {
      text = take n bytes;
      spelled = record { count = omega (arith, length-take n bytes); same = sym x-is };
      parts = sym (take-append-drop n bytes) ∙ ap (λ (t : List ℕ). take n bytes ++ t) rest-is;
    }

bytes_again : (n : ℕ) (x text rest : List ℕ) → IsBytes n x text → bytes_at n (text ++ rest) ≡ Ok (x, rest)
bytes_again n x text rest p =
    let long : ltb (length (text ++ rest)) n ≡ false = le-ltb _ _ (omega (arith, length-append text rest, p.count)) in
    rw (long, take_at text rest n p.count, drop_at text rest n p.count) (ap (λ (v : List ℕ). taken v rest) (sym p.same))

pub exact_bytes : (n : ℕ) → Exact (bytes_at n) (IsBytes n)
exact_bytes n = record { takes = bytes_takes n; again = bytes_again n }

pub exact_many : {A : Type 0} (read : List ℕ → Reading A) (P : Spelling A) → Exact read P → (n : ℕ) → Exact (many_at read n) (IsEach P n)
unfolding many_at IsEach
exact_many read P each zero = exact_value []
exact_many read P each (suc n) = exact_then _ _ _ _ each (λ x. exact_then _ _ _ _ (exact_many read P each n) (λ xs. exact_value _))

pub exact_list : {A : Type 0} (read : List ℕ → Reading A) (P : Spelling A) → Exact read P → Exact (list_at read) (IsCounted P)
exact_list read P each = exact_then _ _ _ _ (exact_number 4) (λ n. exact_many read P each n)
