-- Marks, numbers and words.
use Rattle.std.proofs.Common.{◌≡◌, ℕ, zero, suc, ◌+◌, ◌-◌, ◌^◌, ◌<◌, ◌≤◌, ℤ, pos, negsuc, Bool, true, false, cond, not, ◌&&◌, ◌||◌, eqb, List, [], ◌∷◌, ◌++◌, length, Option, Some, None, refl, sym, ap, subst, ◌∙◌, arith, inl, inr, codes, decimal, is_some}
use Rattle.std.specs.List.{list_all}
use Rattle.std.specs.Option.{unwrap_or}
use Rattle.std.proofs.lemmas.Fmt.{decimal_nonempty, digits_decimal}
use Rattle.std.proofs.lemmas.Bool.{lt-ltb, ltb-true, eqb-true, eqb-false}
use Rattle.js_tree.specs.Written.{Grammar, Is}
use Rattle.exact_place.specs.Grammar.{Spelling, Leads, Either, first, second, IsRun, IsOne, IsMapped}
use Rattle.exact_place.specs.Place.{Law}
use Rattle.exact_place.specs.Reading.{run_at, passes}
use Rattle.exact_place.specs.Tokens.{entry_of, is_digit, begins_number, number_of}
use Rattle.exact_place.proofs.Steps.{cases, went}
use Rattle.exact_place.proofs.Basic.{law_one, law_map, law_same, law_narrow}
use Rattle.exact_place.proofs.Sequence.{Starts, law_lead, law_either}
use Rattle.exact_place.proofs.First.{apart, starts_leads, starts_mapped, follows_starts}
use Rattle.exact_place.proofs.Tokens.{law_run}
use Rattle.exact_place.proofs.Words.{both, none_some, digits_token, table_token}
use Rattle.exact_place.proofs.Numbers.{number_is, number_from, own, table_is}
use Rattle.sj_names.specs.declared.method_names.Namespace.{Namespace}
use Rattle.sj_names.specs.declared.method_names.Namespace.TheVariants as namespaces
use Rattle.sj_trees.proofs.Codes.{unary_with-unary_code, unary_code-unary_with, binary_with-binary_code, binary_code-binary_with}
use Rattle.sj_trees.specs.Operators.{unary_code, unary_with, binary_code, binary_with}
use Rattle.sj_trees.specs.declared.classes.ClassKind.{ClassKind}
use Rattle.sj_trees.specs.declared.classes.ClassKind.TheVariants as kinds
use Rattle.sj_trees.specs.declared.operators.BinaryOp.{BinaryOp}
use Rattle.sj_trees.specs.declared.operators.UnaryOp.{UnaryOp}
use Rattle.sj_text_spec.specs.Spelling.{SpellsMark, SpellsNatural, SpellsInteger, SpellsUnaryOp, SpellsBinaryOp, SpellsNamespace, SpellsKind}
use Rattle.sj_text_spec.specs.Words.{ends_word, form_words, namespace_words, kind_words}
use Rattle.sj_text_spec.specs.Reading.{mark_of, mark_at, natural_at, code_at, integer_at, unary_of, binary_of, unary_op_at, binary_op_at, namespace_at, kind_at, form_at}
use Rattle.sj_trees.specs.declared.forms.Form.{Form}
use Rattle.sj_trees.specs.declared.forms.Form.TheVariants as forms
use Rattle.sj_trees.specs.declared.forms.LeafForm.TheVariants as leaves
use Rattle.sj_trees.specs.declared.forms.StatementForm.TheVariants as statements
use Rattle.sj_trees.specs.declared.forms.BranchForm.TheVariants as branches
use Rattle.sj_trees.specs.declared.forms.CallForm.TheVariants as calls
use Rattle.sj_trees.specs.declared.forms.OperationForm.TheVariants as operations
use Rattle.sj_text_spec.proofs.Fields.{in_brackets, this_byte}

some_is : {A : Type 0} (a b : A) → Some a ≡ Some b → a ≡ b
some_is a b e = cc e

-- ---- marks

mark_to : (b : Bool) (text : List ℕ) → IsOne mark_of b text → SpellsMark b text
unfolding SpellsMark
mark_to b text p = elim (went (eqb p.byte 48) (Some false) (cond (eqb p.byte 49) (Some true) None) (Some b) p.is) [
  | inl k ↦ by false (some_is false b k.1) (p.parts ∙ ap (λ (c : ℕ). c ∷ []) (eqb-true p.byte 48 k.0))
  | inr k ↦ elim (went (eqb p.byte 49) (Some true) None (Some b) k.1) [
    | inl l ↦ by true (some_is true b l.1) (p.parts ∙ ap (λ (c : ℕ). c ∷ []) (eqb-true p.byte 49 l.0))
    | inr l ↦ absurd (none_some b l.1)
  ]
]
  where
    text_of : Bool → List ℕ
    text_of false = codes "0"
    text_of true = codes "1"

    spelled : (c : Bool) → text ≡ text_of c → SpellsMark c text
    spelled false e = record { same = e }
    spelled true e = record { same = e }

    by : (c : Bool) → c ≡ b → text ≡ text_of c → SpellsMark b text
    by c is e = subst (λ (d : Bool). SpellsMark d text) is (spelled c e)

mark_from : (b : Bool) (text : List ℕ) → SpellsMark b text → IsOne mark_of b text
unfolding SpellsMark
mark_from false text p = record { byte = 48; is = refl; parts = p.same }
mark_from true text p = record { byte = 49; is = refl; parts = p.same }

pub law_mark : {n : ℕ} → Law n ends_word mark_at mark_at SpellsMark
unfolding mark_at
law_mark = law_same mark_to mark_from (law_one mark_of false 48 refl)

-- ---- decimal numbers

record IsDecimal (nought : Bool) (limit v : ℕ) (text : List ℕ) : Type 0 where
  is : text ≡ decimal v
  below : v < limit
  some : nought ≡ false → 0 < v

abbrev no_digit : ℕ → Bool
no_digit c = not (is_digit c)

no_digit_is : (c : ℕ) → no_digit c ≡ true → is_digit c ≡ false
no_digit_is c e = turned (is_digit c) e
  where
    turned : (b : Bool) → not b ≡ true → b ≡ false
    turned true e = absurd cc
    turned false e = refl

word_no_digit : (c : ℕ) → ends_word c ≡ true → no_digit c ≡ true
word_no_digit c e = elim (cases (eqb c 32)) [
  | inl k ↦ this_byte 32 no_digit refl c k
  | inr k ↦ this_byte 41 no_digit refl c (rw k at e)
]

bracket_no_digit : (c : ℕ) → in_brackets c ≡ true → no_digit c ≡ true
bracket_no_digit c e = elim (cases (eqb c 32)) [
  | inl k ↦ this_byte 32 no_digit refl c k
  | inr k ↦ this_byte 93 no_digit refl c (rw k at e)
]

law_decimal : {n : ℕ} (nought : Bool) (limit : ℕ) → 1 < limit → limit ≤ 2 ^ 64 → Law n no_digit (λ bytes. run_at (begins_number nought limit) (number_of nought limit) [] bytes) (λ bytes. run_at (begins_number nought limit) (number_of nought limit) [] bytes) (IsDecimal nought limit)
law_decimal nought limit big small =
    law_same (λ v text p. let r = number_is nought limit v text (omega arith) small p.is in record { is = r.is; below = r.below; some = r.some })
    (λ v text p. record { is = number_from nought limit v text small (record { is = p.is; below = p.below; some = p.some }) })
    (law_run no_digit (digits_token nought limit no_digit no_digit_is big))

law_code : {n : ℕ} (limit : ℕ) → 1 < limit → limit ≤ 2 ^ 64 → Law n no_digit (code_at limit) (code_at limit) (IsDecimal false limit)
unfolding code_at
law_code limit big small = law_decimal false limit big small

law_digits : {n : ℕ} (limit : ℕ) → 1 < limit → limit ≤ 2 ^ 64 → Law n no_digit (natural_at limit) (natural_at limit) (IsDecimal true limit)
unfolding natural_at
law_digits limit big small = law_decimal true limit big small

natural_to : (limit v : ℕ) (text : List ℕ) → IsDecimal true limit v text → SpellsNatural limit v text
unfolding SpellsNatural
natural_to limit v text p = record { holds = lt-ltb v limit p.below; spelled = record { same = p.is } }

natural_from : (limit v : ℕ) (text : List ℕ) → SpellsNatural limit v text → IsDecimal true limit v text
unfolding SpellsNatural
natural_from limit v text p = record { is = p.spelled.same; below = ltb-true v limit p.holds; some = λ f. absurd cc }

pub law_natural : {n : ℕ} (limit : ℕ) → 1 < limit → limit ≤ 2 ^ 64 → Law n ends_word (natural_at limit) (natural_at limit) (SpellsNatural limit)
law_natural limit big small = law_narrow ends_word word_no_digit (law_same (natural_to limit) (natural_from limit) (law_digits limit big small))

-- ---- integers

decimal_starts : (limit : ℕ) → limit ≤ 2 ^ 63 → Starts is_digit (IsDecimal true limit)
decimal_starts limit small v [] d = absurd (let k : length {A = ℕ} [] ≡ length (decimal v) = ap (λ (t : List ℕ). length t) d.is in omega (arith, decimal_nonempty v (omega (arith, d.below)), k))
decimal_starts limit small v (c ∷ text) d = first_digit c text (let t : list_all is_digit (c ∷ text) ≡ true = subst (λ (ds : List ℕ). list_all is_digit ds ≡ true) (sym d.is) (digits_decimal own v (omega (arith, d.below))) in t)
  where
    first_digit : (c : ℕ) (text : List ℕ) → list_all is_digit (c ∷ text) ≡ true → is_digit c ≡ true
    first_digit c text e = (both (is_digit c) (list_all is_digit text) e).0

abbrev Integer_form : ℕ → Spelling ℤ
Integer_form limit = Either (Leads (codes "-") (IsMapped (λ v. negsuc (v - 1)) (IsDecimal false (limit + 1)))) (IsMapped (λ v. pos v) (IsDecimal true limit))

integer_to : (limit : ℕ) (z : ℤ) (text : List ℕ) → Integer_form limit z text → SpellsInteger limit z text
unfolding SpellsInteger
integer_to limit z text (first p) =
    let q = p.second in
    let d = q.first in
    rw q.is (record { holds = lt-ltb (q.value - 1) limit (omega (arith, d.below, d.some refl)); spelled = record { front = codes "-"; back = p.back; first = record { same = refl }; second = record { same = d.is ∙ ap decimal (up q.value (d.some refl)) }; parts = p.parts } })
  where
    up : (v : ℕ) → 0 < v → v ≡ v - 1 + 1
    up v lt = omega arith
integer_to limit z text (second p) = rw p.is (record { holds = lt-ltb p.value limit p.first.below; spelled = record { same = p.first.is } })

integer_from : (limit : ℕ) (z : ℤ) (text : List ℕ) → SpellsInteger limit z text → Integer_form limit z text
unfolding SpellsInteger
integer_from limit (pos v) text p = second (record { value = v; first = record { is = p.spelled.same; below = ltb-true v limit p.holds; some = λ f. absurd cc }; is = refl })
integer_from limit (negsuc v) text p =
    let s = p.spelled in
    first (record {
      back = s.back;
      second = record {
        value = v + 1;
        first = record { is = s.second.same; below = omega (arith, ltb-true v limit p.holds); some = λ f. omega arith };
        is = ap (λ (k : ℕ). negsuc k) (down v);
      };
      parts = s.parts ∙ ap (λ (t : List ℕ). t ++ s.back) s.first.same;
    })
  where
    down : (v : ℕ) → v ≡ v + 1 - 1
    down v = omega arith

law_any_integer : {n : ℕ} (limit : ℕ) → 1 < limit → limit ≤ 2 ^ 63 → Law n no_digit (integer_at limit) (integer_at limit) (SpellsInteger limit)
unfolding integer_at
law_any_integer limit big small = law_same (integer_to limit) (integer_from limit)
    (law_either (λ c. eqb c 45) (starts_leads _ 45 _ _ refl) (follows_starts _ no_digit is_digit _ (apart is_digit 45 refl) (starts_mapped is_digit _ _ (decimal_starts limit small)))
    (law_lead (codes "-") (law_map (λ v. negsuc (v - 1)) (law_code (limit + 1) (omega arith) (omega arith))))
    (law_map (λ v. pos v) (law_digits limit big (omega arith))))

pub law_integer : {n : ℕ} (limit : ℕ) → 1 < limit → limit ≤ 2 ^ 63 → Law n ends_word (integer_at limit) (integer_at limit) (SpellsInteger limit)
law_integer limit big small = law_narrow ends_word word_no_digit (law_any_integer limit big small)

-- in brackets
pub law_key : {n : ℕ} → Law n in_brackets (integer_at (2 ^ 31)) (integer_at (2 ^ 31)) (SpellsInteger (2 ^ 31))
law_key = law_narrow in_brackets bracket_no_digit (law_any_integer (2 ^ 31) (omega arith) (omega arith))

abbrev pub is_number_start : ℕ → Bool
is_number_start c = eqb c 45 || is_digit c

pub starts_key : Starts is_number_start (SpellsInteger (2 ^ 31))
starts_key z text p = by (integer_from (2 ^ 31) z text p)
  where
    wider : (text : List ℕ) → passes is_digit text ≡ true → passes (λ c. eqb c 45 || is_digit c) text ≡ true
    wider [] e = absurd cc
    wider (c ∷ text) e = or_right (eqb c 45) (is_digit c) e
      where
        or_right : (a b : Bool) → b ≡ true → (a || b) ≡ true
        or_right true b e = refl
        or_right false b e = e

    by : Integer_form (2 ^ 31) z text → passes (λ c. eqb c 45 || is_digit c) text ≡ true
    by (first q) = rw q.parts refl
    by (second q) = wider text (decimal_starts (2 ^ 31) (omega arith) q.value text q.first)

-- ---- operators

checks : (ℕ → Bool) → ℕ → Bool
checks test zero = true
checks test (suc n) = test n && checks test n

checked : (test : ℕ → Bool) (n v : ℕ) → checks test n ≡ true → v < n → test v ≡ true
unfolding checks
checked test zero v e lt = absurd (omega arith)
checked test (suc n) v e lt =
    let k = both (test n) (checks test n) e in
    elim (cases (eqb v n)) [
      | inl s ↦ subst (λ (w : ℕ). test w ≡ true) (sym (eqb-true v n s)) k.0
      | inr s ↦ checked test n v k.1 (let ne : v ≡ n → ⊥ = eqb-false v n s in omega arith)
    ]

is_code : {A : Type 0} → (ℕ → Option A) → ℕ → Bool
is_code with v = eqb v 0 || is_some (with v)

some_code : {A : Type 0} (with : ℕ → Option A) (v : ℕ) → 0 < v → is_code with v ≡ true → (x : A) → with v ≡ Some (unwrap_or (with v) x)
unfolding is_code
some_code with v lt e x = by (with v) (no_zero (eqb v 0) refl e)
  where
    no_zero : (b : Bool) → eqb v 0 ≡ b → (b || is_some (with v)) ≡ true → is_some (with v) ≡ true
    no_zero true z e = absurd (let zero_is : v ≡ 0 = eqb-true v 0 z in omega arith)
    no_zero false z e = e

    by : (o : Option _) → is_some o ≡ true → o ≡ Some (unwrap_or o x)
    by None e = absurd cc
    by (Some y) e = refl

unary_all : checks (is_code unary_with) 10 ≡ true
unfolding checks is_code
unary_all = refl

unary_to : (op : UnaryOp) (text : List ℕ) → IsMapped unary_of (IsDecimal false 10) op text → SpellsUnaryOp op text
unfolding SpellsUnaryOp
unary_to op text p =
    let v : ℕ = p.value in
    let has = some_code unary_with p.value (p.first.some refl) (checked (is_code unary_with) 10 p.value unary_all p.first.below) UnaryOp.BooleanNot in
    let code : unary_code (unary_of p.value) ≡ p.value = unary_code-unary_with p.value (unary_of p.value) has in
    rw p.is (record { same = p.first.is ∙ ap decimal (sym code) })

unary_from : (op : UnaryOp) (text : List ℕ) → SpellsUnaryOp op text → IsMapped unary_of (IsDecimal false 10) op text
unfolding SpellsUnaryOp
unary_from op text p = record { value = unary_code op; first = record { is = p.same; below = (range op).1; some = λ f. (range op).0 }; is = sym (ap (λ (o : Option UnaryOp). unwrap_or o UnaryOp.BooleanNot) (unary_with-unary_code op)) }
  where
    range : (op : UnaryOp) → (0 < unary_code op) × (unary_code op < 10)
    range UnaryOp.BooleanNot = (omega arith, omega arith)
    range UnaryOp.CharToInt = (omega arith, omega arith)
    range UnaryOp.ByteToInt = (omega arith, omega arith)
    range UnaryOp.ShortToInt = (omega arith, omega arith)
    range UnaryOp.IntToLong = (omega arith, omega arith)
    range UnaryOp.IntToChar = (omega arith, omega arith)
    range UnaryOp.IntToByte = (omega arith, omega arith)
    range UnaryOp.IntToShort = (omega arith, omega arith)
    range UnaryOp.LongToInt = (omega arith, omega arith)

pub law_unary : {n : ℕ} → Law n ends_word unary_op_at unary_op_at SpellsUnaryOp
unfolding unary_op_at
law_unary = law_narrow ends_word word_no_digit (law_same unary_to unary_from (law_map unary_of (law_code 10 (omega arith) (omega arith))))

binary_all : checks (is_code binary_with) 42 ≡ true
unfolding checks is_code
binary_all = refl

binary_to : (op : BinaryOp) (text : List ℕ) → IsMapped binary_of (IsDecimal false 42) op text → SpellsBinaryOp op text
unfolding SpellsBinaryOp
binary_to op text p =
    let has = some_code binary_with p.value (p.first.some refl) (checked (is_code binary_with) 42 p.value binary_all p.first.below) BinaryOp.StrictEqual in
    let code : binary_code (binary_of p.value) ≡ p.value = binary_code-binary_with p.value (binary_of p.value) has in
    rw p.is (record { same = p.first.is ∙ ap decimal (sym code) })

binary_from : (op : BinaryOp) (text : List ℕ) → SpellsBinaryOp op text → IsMapped binary_of (IsDecimal false 42) op text
unfolding SpellsBinaryOp
binary_from op text p = record { value = binary_code op; first = record { is = p.same; below = (range op).1; some = λ f. (range op).0 }; is = sym (ap (λ (o : Option BinaryOp). unwrap_or o BinaryOp.StrictEqual) (binary_with-binary_code op)) }
  where
    range : (op : BinaryOp) → (0 < binary_code op) × (binary_code op < 42)
    range BinaryOp.StrictEqual = (omega arith, omega arith)
    range BinaryOp.StrictNotEqual = (omega arith, omega arith)
    range BinaryOp.StringConcatenate = (omega arith, omega arith)
    range BinaryOp.BooleanEqual = (omega arith, omega arith)
    range BinaryOp.BooleanNotEqual = (omega arith, omega arith)
    range BinaryOp.BooleanOr = (omega arith, omega arith)
    range BinaryOp.BooleanAnd = (omega arith, omega arith)
    range BinaryOp.IntAdd = (omega arith, omega arith)
    range BinaryOp.IntSubtract = (omega arith, omega arith)
    range BinaryOp.IntMultiply = (omega arith, omega arith)
    range BinaryOp.IntDivide = (omega arith, omega arith)
    range BinaryOp.IntRemainder = (omega arith, omega arith)
    range BinaryOp.IntOr = (omega arith, omega arith)
    range BinaryOp.IntAnd = (omega arith, omega arith)
    range BinaryOp.IntXor = (omega arith, omega arith)
    range BinaryOp.IntShiftLeft = (omega arith, omega arith)
    range BinaryOp.IntShiftRightLogical = (omega arith, omega arith)
    range BinaryOp.IntShiftRightArithmetic = (omega arith, omega arith)
    range BinaryOp.IntEqual = (omega arith, omega arith)
    range BinaryOp.IntNotEqual = (omega arith, omega arith)
    range BinaryOp.IntLess = (omega arith, omega arith)
    range BinaryOp.IntLessOrEqual = (omega arith, omega arith)
    range BinaryOp.IntGreater = (omega arith, omega arith)
    range BinaryOp.IntGreaterOrEqual = (omega arith, omega arith)
    range BinaryOp.LongAdd = (omega arith, omega arith)
    range BinaryOp.LongSubtract = (omega arith, omega arith)
    range BinaryOp.LongMultiply = (omega arith, omega arith)
    range BinaryOp.LongDivide = (omega arith, omega arith)
    range BinaryOp.LongRemainder = (omega arith, omega arith)
    range BinaryOp.LongOr = (omega arith, omega arith)
    range BinaryOp.LongAnd = (omega arith, omega arith)
    range BinaryOp.LongXor = (omega arith, omega arith)
    range BinaryOp.LongShiftLeft = (omega arith, omega arith)
    range BinaryOp.LongShiftRightLogical = (omega arith, omega arith)
    range BinaryOp.LongShiftRightArithmetic = (omega arith, omega arith)
    range BinaryOp.LongEqual = (omega arith, omega arith)
    range BinaryOp.LongNotEqual = (omega arith, omega arith)
    range BinaryOp.LongLess = (omega arith, omega arith)
    range BinaryOp.LongLessOrEqual = (omega arith, omega arith)
    range BinaryOp.LongGreater = (omega arith, omega arith)
    range BinaryOp.LongGreaterOrEqual = (omega arith, omega arith)

pub law_binary : {n : ℕ} → Law n ends_word binary_op_at binary_op_at SpellsBinaryOp
unfolding binary_op_at
law_binary = law_narrow ends_word word_no_digit (law_same binary_to binary_from (law_map binary_of (law_code 42 (omega arith) (omega arith))))

-- ---- words

namespace_to : (x : Namespace) (text : List ℕ) → IsRun (entry_of namespace_words) x text → SpellsNamespace x text
unfolding SpellsNamespace
namespace_to x text p = table_is SpellsNamespace namespace_words (record { same = refl }, (record { same = refl }, (record { same = refl }, (record { same = refl }, (record { same = refl }, tt))))) text x p.is

namespace_from : (x : Namespace) (text : List ℕ) → SpellsNamespace x text → IsRun (entry_of namespace_words) x text
unfolding SpellsNamespace
namespace_from namespaces.Public text p = record { is = rw p.same refl }
namespace_from namespaces.PublicStatic text p = record { is = rw p.same refl }
namespace_from namespaces.Private text p = record { is = rw p.same refl }
namespace_from namespaces.PrivateStatic text p = record { is = rw p.same refl }
namespace_from namespaces.Constructor text p = record { is = rw p.same refl }

pub law_namespace : {n : ℕ} → Law n ends_word namespace_at namespace_at SpellsNamespace
unfolding namespace_at
law_namespace = law_same namespace_to namespace_from (law_run ends_word (table_token ends_word namespace_words refl refl))

kind_to : (x : ClassKind) (text : List ℕ) → IsRun (entry_of kind_words) x text → SpellsKind x text
unfolding SpellsKind
kind_to x text p = table_is SpellsKind kind_words (record { same = refl }, (record { same = refl }, (record { same = refl }, (record { same = refl }, tt)))) text x p.is

kind_from : (x : ClassKind) (text : List ℕ) → SpellsKind x text → IsRun (entry_of kind_words) x text
unfolding SpellsKind
kind_from kinds.Class text p = record { is = rw p.same refl }
kind_from kinds.ModuleClass text p = record { is = rw p.same refl }
kind_from kinds.Interface text p = record { is = rw p.same refl }
kind_from kinds.HijackedClass text p = record { is = rw p.same refl }

pub law_kind : {n : ℕ} → Law n ends_word kind_at kind_at SpellsKind
unfolding kind_at
law_kind = law_same kind_to kind_from (law_run ends_word (table_token ends_word kind_words refl refl))

-- the word of a form
abbrev pub form_text : Form → List ℕ
form_text (forms.Statement statements.VarDef) = codes "VarDef"
form_text (forms.Leaf leaves.Skip) = codes "Skip"
form_text (forms.Statement statements.Block) = codes "Block"
form_text (forms.Statement statements.Labeled) = codes "Labeled"
form_text (forms.Statement statements.Assign) = codes "Assign"
form_text (forms.Statement statements.Return) = codes "Return"
form_text (forms.Branch branches.If) = codes "If"
form_text (forms.Branch branches.While) = codes "While"
form_text (forms.Branch branches.DoWhile) = codes "DoWhile"
form_text (forms.Branch branches.TryCatch) = codes "TryCatch"
form_text (forms.Branch branches.TryFinally) = codes "TryFinally"
form_text (forms.Statement statements.Throw) = codes "Throw"
form_text (forms.Branch branches.Match) = codes "Match"
form_text (forms.Call calls.New) = codes "New"
form_text (forms.Leaf leaves.LoadModule) = codes "LoadModule"
form_text (forms.Statement statements.StoreModule) = codes "StoreModule"
form_text (forms.Call calls.Select) = codes "Select"
form_text (forms.Leaf leaves.SelectStatic) = codes "SelectStatic"
form_text (forms.Call calls.Apply) = codes "Apply"
form_text (forms.Call calls.ApplyStatically) = codes "ApplyStatically"
form_text (forms.Call calls.ApplyStatic) = codes "ApplyStatic"
form_text (forms.Operation operations.UnaryOp) = codes "UnaryOp"
form_text (forms.Operation operations.BinaryOp) = codes "BinaryOp"
form_text (forms.Operation operations.NewArray) = codes "NewArray"
form_text (forms.Operation operations.ArrayValue) = codes "ArrayValue"
form_text (forms.Operation operations.ArrayLength) = codes "ArrayLength"
form_text (forms.Operation operations.ArraySelect) = codes "ArraySelect"
form_text (forms.Operation operations.IsInstanceOf) = codes "IsInstanceOf"
form_text (forms.Operation operations.AsInstanceOf) = codes "AsInstanceOf"
form_text (forms.Leaf leaves.Undefined) = codes "Undefined"
form_text (forms.Leaf leaves.Null) = codes "Null"
form_text (forms.Leaf leaves.BooleanLiteral) = codes "BooleanLiteral"
form_text (forms.Leaf leaves.CharLiteral) = codes "CharLiteral"
form_text (forms.Leaf leaves.ByteLiteral) = codes "ByteLiteral"
form_text (forms.Leaf leaves.ShortLiteral) = codes "ShortLiteral"
form_text (forms.Leaf leaves.IntLiteral) = codes "IntLiteral"
form_text (forms.Leaf leaves.LongLiteral) = codes "LongLiteral"
form_text (forms.Leaf leaves.StringLiteral) = codes "StringLiteral"
form_text (forms.Leaf leaves.VarRef) = codes "VarRef"
form_text (forms.Leaf leaves.This) = codes "This"
form_text (forms.Statement statements.Log) = codes "Log"

abbrev pub IsForm : Form → Grammar
IsForm f = Is (form_text f)

form_to : (f : Form) (text : List ℕ) → IsRun (entry_of form_words) f text → IsForm f text
form_to f text p = table_is IsForm form_words (record { same = refl }, (record { same = refl }, (record { same = refl }, (record { same = refl }, (record { same = refl }, (record { same = refl }, (record { same = refl }, (record { same = refl }, (record { same = refl }, (record { same = refl }, (record { same = refl }, (record { same = refl }, (record { same = refl }, (record { same = refl }, (record { same = refl }, (record { same = refl }, (record { same = refl }, (record { same = refl }, (record { same = refl }, (record { same = refl }, (record { same = refl }, (record { same = refl }, (record { same = refl }, (record { same = refl }, (record { same = refl }, (record { same = refl }, (record { same = refl }, (record { same = refl }, (record { same = refl }, (record { same = refl }, (record { same = refl }, (record { same = refl }, (record { same = refl }, (record { same = refl }, (record { same = refl }, (record { same = refl }, (record { same = refl }, (record { same = refl }, (record { same = refl }, (record { same = refl }, (record { same = refl }, tt))))))))))))))))))))))))))))))))))))))))) text f p.is

form_from : (f : Form) (text : List ℕ) → IsForm f text → IsRun (entry_of form_words) f text
form_from (forms.Statement statements.VarDef) text p = record { is = rw p.same refl }
form_from (forms.Leaf leaves.Skip) text p = record { is = rw p.same refl }
form_from (forms.Statement statements.Block) text p = record { is = rw p.same refl }
form_from (forms.Statement statements.Labeled) text p = record { is = rw p.same refl }
form_from (forms.Statement statements.Assign) text p = record { is = rw p.same refl }
form_from (forms.Statement statements.Return) text p = record { is = rw p.same refl }
form_from (forms.Branch branches.If) text p = record { is = rw p.same refl }
form_from (forms.Branch branches.While) text p = record { is = rw p.same refl }
form_from (forms.Branch branches.DoWhile) text p = record { is = rw p.same refl }
form_from (forms.Branch branches.TryCatch) text p = record { is = rw p.same refl }
form_from (forms.Branch branches.TryFinally) text p = record { is = rw p.same refl }
form_from (forms.Statement statements.Throw) text p = record { is = rw p.same refl }
form_from (forms.Branch branches.Match) text p = record { is = rw p.same refl }
form_from (forms.Call calls.New) text p = record { is = rw p.same refl }
form_from (forms.Leaf leaves.LoadModule) text p = record { is = rw p.same refl }
form_from (forms.Statement statements.StoreModule) text p = record { is = rw p.same refl }
form_from (forms.Call calls.Select) text p = record { is = rw p.same refl }
form_from (forms.Leaf leaves.SelectStatic) text p = record { is = rw p.same refl }
form_from (forms.Call calls.Apply) text p = record { is = rw p.same refl }
form_from (forms.Call calls.ApplyStatically) text p = record { is = rw p.same refl }
form_from (forms.Call calls.ApplyStatic) text p = record { is = rw p.same refl }
form_from (forms.Operation operations.UnaryOp) text p = record { is = rw p.same refl }
form_from (forms.Operation operations.BinaryOp) text p = record { is = rw p.same refl }
form_from (forms.Operation operations.NewArray) text p = record { is = rw p.same refl }
form_from (forms.Operation operations.ArrayValue) text p = record { is = rw p.same refl }
form_from (forms.Operation operations.ArrayLength) text p = record { is = rw p.same refl }
form_from (forms.Operation operations.ArraySelect) text p = record { is = rw p.same refl }
form_from (forms.Operation operations.IsInstanceOf) text p = record { is = rw p.same refl }
form_from (forms.Operation operations.AsInstanceOf) text p = record { is = rw p.same refl }
form_from (forms.Leaf leaves.Undefined) text p = record { is = rw p.same refl }
form_from (forms.Leaf leaves.Null) text p = record { is = rw p.same refl }
form_from (forms.Leaf leaves.BooleanLiteral) text p = record { is = rw p.same refl }
form_from (forms.Leaf leaves.CharLiteral) text p = record { is = rw p.same refl }
form_from (forms.Leaf leaves.ByteLiteral) text p = record { is = rw p.same refl }
form_from (forms.Leaf leaves.ShortLiteral) text p = record { is = rw p.same refl }
form_from (forms.Leaf leaves.IntLiteral) text p = record { is = rw p.same refl }
form_from (forms.Leaf leaves.LongLiteral) text p = record { is = rw p.same refl }
form_from (forms.Leaf leaves.StringLiteral) text p = record { is = rw p.same refl }
form_from (forms.Leaf leaves.VarRef) text p = record { is = rw p.same refl }
form_from (forms.Leaf leaves.This) text p = record { is = rw p.same refl }
form_from (forms.Statement statements.Log) text p = record { is = rw p.same refl }

pub law_form : {n : ℕ} → Law n ends_word form_at form_at IsForm
unfolding form_at
law_form = law_same form_to form_from (law_run ends_word (table_token ends_word form_words refl refl))
