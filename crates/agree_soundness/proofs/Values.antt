-- Values of types, and what operators give on them.
use Rattle.std.proofs.Common.{◌≡◌, ℕ, zero, suc, ◌++◌, Bool, true, false, List, Option, Some, codes, refl, sym, ap, ◌∙◌, subst, ◌⊎◌, inl, inr}
use Rattle.std.specs.Prelude.{ℤ, pos, negsuc, ◌≢◌}
use Rattle.dispatch_laws.specs.Operators.{Answer, answers, raises, unary_value, binary_value, boolean_value, number_value, long_value, shift_value, any_value, text_of, joined}
use Rattle.dispatch_laws.specs.States as ir
use Rattle.sj_trees.specs.TypeOf.{unary_result, binary_result}
use Rattle.sj_trees.specs.declared.operators.BinaryOp.{BinaryOp}
use Rattle.sj_trees.specs.declared.operators.BinaryOp.TheVariants.{StrictEqual, StrictNotEqual, StringConcatenate, BooleanEqual, BooleanNotEqual, BooleanOr, BooleanAnd, IntAdd, IntSubtract, IntMultiply, IntDivide, IntRemainder, IntOr, IntAnd, IntXor, IntShiftLeft, IntShiftRightLogical, IntShiftRightArithmetic, IntEqual, IntNotEqual, IntLess, IntLessOrEqual, IntGreater, IntGreaterOrEqual, LongAdd, LongSubtract, LongMultiply, LongDivide, LongRemainder, LongOr, LongAnd, LongXor, LongShiftLeft, LongShiftRightLogical, LongShiftRightArithmetic, LongEqual, LongNotEqual, LongLess, LongLessOrEqual, LongGreater, LongGreaterOrEqual}
use Rattle.sj_trees.specs.declared.operators.UnaryOp.{UnaryOp}
use Rattle.sj_trees.specs.declared.operators.UnaryOp.TheVariants.{BooleanNot, CharToInt, ByteToInt, ShortToInt, IntToLong, IntToChar, IntToByte, IntToShort, LongToInt}
use Rattle.sj_names.specs.declared.references.ArrayRef.{ArrayRef}
use Rattle.sj_trees.specs.declared.types.IrType.{IrType}
use Rattle.sj_trees.specs.declared.types.IrType.TheVariants.{Any, Array, NoType, Undefined, Null, Boolean, Char, Byte, Short, Int, Long, String, Class, Nothing}
use Rattle.agree_soundness.specs.Laws.{arithmetic}
use Rattle.agree_early_errors.specs.Built.{Usable, divides}
use Rattle.agree_early_errors.specs.Operators.{is_simple, IsDivision, a_quotient, a_remainder, IsLongDivision, a_long_quotient, a_long_remainder, IsIdentity, a_sameness, a_difference}
use Rattle.agree_early_errors.specs.Rules.{unary_operand, left_operand, right_operand, IsText as IsJoined}
use Rattle.sj_names.proofs.Same.{impossible}
use Rattle.agree_early_errors.specs.Standing.{is_bare, is_array_type, is_joined}
use Rattle.agree_early_errors.specs.Subtyping.{is_lowest, IsSubtyping}
use Rattle.agree_early_errors.proofs.Fitting.{text_joined}
use Rattle.dispatch_laws.specs.Known.{object}
use Rattle.dispatch_laws.specs.Subtypes.{hijacked_class}
use Rattle.sure_receivers.specs.Sure.{is_sure_type}

-- the type of what stands at each address: an object of a class, or an array
abbrev pub Classes : Type 0
Classes = ℕ → Option IrType

-- an address that has a type keeps it
pub record Adds (old new : Classes) : Type 0 where
  pub keeps : (i : ℕ) (t : IrType) → old i ≡ Some t → new i ≡ Some t

pub adds-refl : (h : Classes) → Adds h h
adds-refl h = record { keeps = λ i c e. e }

pub adds-trans : (g h k : Classes) → Adds g h → Adds h k → Adds g k
adds-trans g h k a b = record { keeps = λ i c e. b.keeps i c (a.keeps i c e) }

pub data IsBoolean : ir.Value → Type 0 where
  a_boolean : (b : Bool) → IsBoolean (ir.boolean b)

pub data IsNumber : ir.Value → Type 0 where
  a_number : (z : ℤ) → IsNumber (ir.number z)

pub data IsChar : ir.Value → Type 0 where
  a_char : (u : ℕ) → IsChar (ir.char u)

pub data IsLong : ir.Value → Type 0 where
  a_long : (z : ℤ) → IsLong (ir.long z)

pub data IsText : ir.Value → Type 0 where
  a_text : (us : List ℕ) → IsText (ir.text us)

abbrev is_number_type : IrType → Bool
is_number_type Byte = true
is_number_type Short = true
is_number_type Int = true
is_number_type _ = false

abbrev is_boolean_type : IrType → Bool
is_boolean_type Boolean = true
is_boolean_type _ = false

abbrev is_char_type : IrType → Bool
is_char_type Char = true
is_char_type _ = false

abbrev is_long_type : IrType → Bool
is_long_type Long = true
is_long_type _ = false

abbrev is_text_type : IrType → Bool
is_text_type String = true
is_text_type _ = false

-- an operator that takes values of any kind gives the same on those of one kind
any_is : (o : BinaryOp) → ((a b : Bool) → boolean_value o a b ≡ any_value o (ir.boolean a) (ir.boolean b)) → ((a b : ℤ) → number_value o a b ≡ any_value o (ir.number a) (ir.number b)) → ((a b : ℤ) → long_value o a b ≡ any_value o (ir.long a) (ir.long b)) → ((a b : ℤ) → shift_value o a b ≡ any_value o (ir.long a) (ir.number b)) → (v w : ir.Value) → binary_value o v w ≡ any_value o v w
any_is o booleans numbers longs shifts (ir.boolean a) (ir.boolean b) = booleans a b
any_is o booleans numbers longs shifts (ir.number a) (ir.number b) = numbers a b
any_is o booleans numbers longs shifts (ir.long a) (ir.long b) = longs a b
any_is o booleans numbers longs shifts (ir.long a) (ir.number b) = shifts a b
any_is o booleans numbers longs shifts v w = refl

join_is : (v w : ir.Value) → binary_value StringConcatenate v w ≡ any_value StringConcatenate v w
join_is v w = any_is StringConcatenate (λ a b. refl) (λ a b. refl) (λ a b. refl) (λ a b. refl) v w

identity_is : (o : BinaryOp) → IsIdentity o → (v w : ir.Value) → binary_value o v w ≡ any_value o v w
identity_is _ a_sameness v w = any_is StrictEqual (λ a b. refl) (λ a b. refl) (λ a b. refl) (λ a b. refl) v w
identity_is _ a_difference v w = any_is StrictNotEqual (λ a b. refl) (λ a b. refl) (λ a b. refl) (λ a b. refl) v w

sure_lowest : (t : IrType) → is_sure_type t ≡ true → is_lowest t ≡ true
sure_lowest Undefined h = refl
sure_lowest Boolean h = refl
sure_lowest Char h = refl
sure_lowest Byte h = refl
sure_lowest Short h = refl
sure_lowest Int h = refl
sure_lowest Long h = refl
sure_lowest String h = refl
sure_lowest _ h = impossible h

module _ (sub : IrType → IrType → Type 0) (law : IsSubtyping sub) (at : Classes) where
  -- the types that a value is of by itself; an object is of the class that its address has, which isn't bare, and an array of its type and of the class of all objects
  pub data IsOf : ir.Value → IrType → Type 0 where
    of_undefined : IsOf ir.undefined Undefined
    of_null : IsOf ir.null Null
    of_boolean : (b : Bool) → IsOf (ir.boolean b) Boolean
    of_char : (u : ℕ) → IsOf (ir.char u) Char
    of_long : (z : ℤ) → IsOf (ir.long z) Long
    of_byte : (z : ℤ) → IsOf (ir.number z) Byte
    of_short : (z : ℤ) → IsOf (ir.number z) Short
    of_int : (z : ℤ) → IsOf (ir.number z) Int
    of_text : (us : List ℕ) → IsOf (ir.text us) String
    of_object : (i : ℕ) (c : List ℕ) → at i ≡ Some (Class c) → is_bare (Class c) ≡ false → IsOf (ir.reference i) (Class c)
    of_array : (i : ℕ) (r : ArrayRef) → at i ≡ Some (Array r) → IsOf (ir.reference i) (Array r)
    of_any_array : (i : ℕ) (r : ArrayRef) → at i ≡ Some (Array r) → IsOf (ir.reference i) (Class object)

  pub data HasType (v : ir.Value) (t : IrType) : Type 0 where
    has_type : (o : IrType) → IsOf v o → sub o t → HasType v t

  pub wider : (v : ir.Value) (s t : IrType) → sub s t → HasType v s → HasType v t
  wider v s t f (has_type o i g) = has_type o i (law.further o s t g f)

  -- each value is of type any
  pub of_any : ((o : IrType) → (o ≡ NoType → ⊥) → sub o Any) → (v : ir.Value) (t : IrType) → HasType v t → HasType v Any
  of_any wide _ t (has_type _ of_undefined f) = has_type Undefined of_undefined (wide Undefined (λ e. cc))
  of_any wide _ t (has_type _ of_null f) = has_type Null of_null (wide Null (λ e. cc))
  of_any wide _ t (has_type _ (of_boolean b) f) = has_type Boolean (of_boolean b) (wide Boolean (λ e. cc))
  of_any wide _ t (has_type _ (of_char u) f) = has_type Char (of_char u) (wide Char (λ e. cc))
  of_any wide _ t (has_type _ (of_long z) f) = has_type Long (of_long z) (wide Long (λ e. cc))
  of_any wide _ t (has_type _ (of_byte z) f) = has_type Byte (of_byte z) (wide Byte (λ e. cc))
  of_any wide _ t (has_type _ (of_short z) f) = has_type Short (of_short z) (wide Short (λ e. cc))
  of_any wide _ t (has_type _ (of_int z) f) = has_type Int (of_int z) (wide Int (λ e. cc))
  of_any wide _ t (has_type _ (of_text us) f) = has_type String (of_text us) (wide String (λ e. cc))
  of_any wide _ t (has_type _ (of_object i c e bare) f) = has_type (Class c) (of_object i c e bare) (wide (Class c) (λ e. cc))
  of_any wide _ t (has_type _ (of_array i r e) f) = has_type (Array r) (of_array i r e) (wide (Array r) (λ e. cc))
  of_any wide _ t (has_type _ (of_any_array i r e) f) = has_type (Class object) (of_any_array i r e) (wide (Class object) (λ e. cc))

  -- a value of a type of arrays that isn't null is an array of a type below
  pub data IsArrayOf (q : ArrayRef) : ir.Value → Type 0 where
    an_array : (i : ℕ) (r : ArrayRef) → at i ≡ Some (Array r) → sub (Array r) (Array q) → IsArrayOf q (ir.reference i)

  pub as_array : (q : ArrayRef) (v : ir.Value) → HasType v (Array q) → (v ≡ ir.null → ⊥) → IsArrayOf q v
  as_array q _ (has_type _ (of_array i r e) f) n = an_array i r e f
  as_array q _ (has_type _ (of_any_array i r e) f) n = impossible (law.arrays (Class object) q f)
  as_array q _ (has_type _ of_undefined f) n = impossible (law.arrays Undefined q f)
  as_array q _ (has_type _ of_null f) n = absurd (n refl)
  as_array q _ (has_type _ (of_boolean b) f) n = impossible (law.arrays Boolean q f)
  as_array q _ (has_type _ (of_char u) f) n = impossible (law.arrays Char q f)
  as_array q _ (has_type _ (of_long z) f) n = impossible (law.arrays Long q f)
  as_array q _ (has_type _ (of_byte z) f) n = impossible (law.arrays Byte q f)
  as_array q _ (has_type _ (of_short z) f) n = impossible (law.arrays Short q f)
  as_array q _ (has_type _ (of_int z) f) n = impossible (law.arrays Int q f)
  as_array q _ (has_type _ (of_text us) f) n = impossible (law.arrays String q f)
  as_array q _ (has_type _ (of_object i c e bare) f) n = impossible (law.arrays (Class c) q f)

  -- what isn't of the kind of a lowest type is none of its values
  other_kind : {A : Type 0} (kind : IrType → Bool) (o t : IrType) → kind o ≡ false → kind t ≡ true → kind Nothing ≡ false → (o ≡ Nothing → ⊥) → (o ≡ t) ⊎ (o ≡ Nothing) → A
  other_kind kind o t h k n ne (inl e) = impossible (sym h ∙ ap kind e ∙ k)
  other_kind kind o t h k n ne (inr e) = absurd (ne e)

  pub as_boolean : (v : ir.Value) → HasType v Boolean → IsBoolean v
  as_boolean _ (has_type _ (of_boolean b) f) = a_boolean b
  as_boolean _ (has_type _ of_undefined f) = other_kind is_boolean_type Undefined Boolean refl refl refl (λ e. cc) (law.lowest Undefined Boolean refl f)
  as_boolean _ (has_type _ of_null f) = other_kind is_boolean_type Null Boolean refl refl refl (λ e. cc) (law.lowest Null Boolean refl f)
  as_boolean _ (has_type _ (of_byte z) f) = other_kind is_boolean_type Byte Boolean refl refl refl (λ e. cc) (law.lowest Byte Boolean refl f)
  as_boolean _ (has_type _ (of_short z) f) = other_kind is_boolean_type Short Boolean refl refl refl (λ e. cc) (law.lowest Short Boolean refl f)
  as_boolean _ (has_type _ (of_int z) f) = other_kind is_boolean_type Int Boolean refl refl refl (λ e. cc) (law.lowest Int Boolean refl f)
  as_boolean _ (has_type _ (of_char u) f) = other_kind is_boolean_type Char Boolean refl refl refl (λ e. cc) (law.lowest Char Boolean refl f)
  as_boolean _ (has_type _ (of_long z) f) = other_kind is_boolean_type Long Boolean refl refl refl (λ e. cc) (law.lowest Long Boolean refl f)
  as_boolean _ (has_type _ (of_text us) f) = other_kind is_boolean_type String Boolean refl refl refl (λ e. cc) (law.lowest String Boolean refl f)
  as_boolean _ (has_type _ (of_object i c e n) f) = other_kind is_boolean_type (Class c) Boolean refl refl refl (λ e. cc) (law.lowest (Class c) Boolean refl f)
  as_boolean _ (has_type _ (of_array i r e) f) = other_kind is_boolean_type (Array r) Boolean refl refl refl (λ e. cc) (law.lowest (Array r) Boolean refl f)
  as_boolean _ (has_type _ (of_any_array i r e) f) = other_kind is_boolean_type (Class object) Boolean refl refl refl (λ e. cc) (law.lowest (Class object) Boolean refl f)

  as_number_of : (v : ir.Value) (t : IrType) → is_number_type t ≡ true → ((s : IrType) → sub s t → (s ≡ t) ⊎ (s ≡ Nothing)) → HasType v t → IsNumber v
  as_number_of _ t k low (has_type _ (of_byte z) f) = a_number z
  as_number_of _ t k low (has_type _ (of_short z) f) = a_number z
  as_number_of _ t k low (has_type _ (of_int z) f) = a_number z
  as_number_of _ t k low (has_type _ of_undefined f) = other_kind is_number_type Undefined t refl k refl (λ e. cc) (low Undefined f)
  as_number_of _ t k low (has_type _ of_null f) = other_kind is_number_type Null t refl k refl (λ e. cc) (low Null f)
  as_number_of _ t k low (has_type _ (of_boolean b) f) = other_kind is_number_type Boolean t refl k refl (λ e. cc) (low Boolean f)
  as_number_of _ t k low (has_type _ (of_char u) f) = other_kind is_number_type Char t refl k refl (λ e. cc) (low Char f)
  as_number_of _ t k low (has_type _ (of_long z) f) = other_kind is_number_type Long t refl k refl (λ e. cc) (low Long f)
  as_number_of _ t k low (has_type _ (of_text us) f) = other_kind is_number_type String t refl k refl (λ e. cc) (low String f)
  as_number_of _ t k low (has_type _ (of_object i c e n) f) = other_kind is_number_type (Class c) t refl k refl (λ e. cc) (low (Class c) f)
  as_number_of _ t k low (has_type _ (of_array i r e) f) = other_kind is_number_type (Array r) t refl k refl (λ e. cc) (low (Array r) f)
  as_number_of _ t k low (has_type _ (of_any_array i r e) f) = other_kind is_number_type (Class object) t refl k refl (λ e. cc) (low (Class object) f)

  pub as_int : (v : ir.Value) → HasType v Int → IsNumber v
  as_int v = as_number_of v Int refl (λ s. law.lowest s Int refl)

  pub as_char : (v : ir.Value) → HasType v Char → IsChar v
  as_char _ (has_type _ (of_char u) f) = a_char u
  as_char _ (has_type _ of_undefined f) = other_kind is_char_type Undefined Char refl refl refl (λ e. cc) (law.lowest Undefined Char refl f)
  as_char _ (has_type _ of_null f) = other_kind is_char_type Null Char refl refl refl (λ e. cc) (law.lowest Null Char refl f)
  as_char _ (has_type _ (of_boolean b) f) = other_kind is_char_type Boolean Char refl refl refl (λ e. cc) (law.lowest Boolean Char refl f)
  as_char _ (has_type _ (of_byte z) f) = other_kind is_char_type Byte Char refl refl refl (λ e. cc) (law.lowest Byte Char refl f)
  as_char _ (has_type _ (of_short z) f) = other_kind is_char_type Short Char refl refl refl (λ e. cc) (law.lowest Short Char refl f)
  as_char _ (has_type _ (of_int z) f) = other_kind is_char_type Int Char refl refl refl (λ e. cc) (law.lowest Int Char refl f)
  as_char _ (has_type _ (of_long z) f) = other_kind is_char_type Long Char refl refl refl (λ e. cc) (law.lowest Long Char refl f)
  as_char _ (has_type _ (of_text us) f) = other_kind is_char_type String Char refl refl refl (λ e. cc) (law.lowest String Char refl f)
  as_char _ (has_type _ (of_object i c e n) f) = other_kind is_char_type (Class c) Char refl refl refl (λ e. cc) (law.lowest (Class c) Char refl f)
  as_char _ (has_type _ (of_array i r e) f) = other_kind is_char_type (Array r) Char refl refl refl (λ e. cc) (law.lowest (Array r) Char refl f)
  as_char _ (has_type _ (of_any_array i r e) f) = other_kind is_char_type (Class object) Char refl refl refl (λ e. cc) (law.lowest (Class object) Char refl f)

  pub as_long : (v : ir.Value) → HasType v Long → IsLong v
  as_long _ (has_type _ (of_long z) f) = a_long z
  as_long _ (has_type _ of_undefined f) = other_kind is_long_type Undefined Long refl refl refl (λ e. cc) (law.lowest Undefined Long refl f)
  as_long _ (has_type _ of_null f) = other_kind is_long_type Null Long refl refl refl (λ e. cc) (law.lowest Null Long refl f)
  as_long _ (has_type _ (of_boolean b) f) = other_kind is_long_type Boolean Long refl refl refl (λ e. cc) (law.lowest Boolean Long refl f)
  as_long _ (has_type _ (of_char u) f) = other_kind is_long_type Char Long refl refl refl (λ e. cc) (law.lowest Char Long refl f)
  as_long _ (has_type _ (of_byte z) f) = other_kind is_long_type Byte Long refl refl refl (λ e. cc) (law.lowest Byte Long refl f)
  as_long _ (has_type _ (of_short z) f) = other_kind is_long_type Short Long refl refl refl (λ e. cc) (law.lowest Short Long refl f)
  as_long _ (has_type _ (of_int z) f) = other_kind is_long_type Int Long refl refl refl (λ e. cc) (law.lowest Int Long refl f)
  as_long _ (has_type _ (of_text us) f) = other_kind is_long_type String Long refl refl refl (λ e. cc) (law.lowest String Long refl f)
  as_long _ (has_type _ (of_object i c e n) f) = other_kind is_long_type (Class c) Long refl refl refl (λ e. cc) (law.lowest (Class c) Long refl f)
  as_long _ (has_type _ (of_array i r e) f) = other_kind is_long_type (Array r) Long refl refl refl (λ e. cc) (law.lowest (Array r) Long refl f)
  as_long _ (has_type _ (of_any_array i r e) f) = other_kind is_long_type (Class object) Long refl refl refl (λ e. cc) (law.lowest (Class object) Long refl f)

  pub as_text : (v : ir.Value) → HasType v String → IsText v
  as_text _ (has_type _ (of_text us) f) = a_text us
  as_text _ (has_type _ of_undefined f) = other_kind is_text_type Undefined String refl refl refl (λ e. cc) (law.lowest Undefined String refl f)
  as_text _ (has_type _ of_null f) = other_kind is_text_type Null String refl refl refl (λ e. cc) (law.lowest Null String refl f)
  as_text _ (has_type _ (of_boolean b) f) = other_kind is_text_type Boolean String refl refl refl (λ e. cc) (law.lowest Boolean String refl f)
  as_text _ (has_type _ (of_byte z) f) = other_kind is_text_type Byte String refl refl refl (λ e. cc) (law.lowest Byte String refl f)
  as_text _ (has_type _ (of_short z) f) = other_kind is_text_type Short String refl refl refl (λ e. cc) (law.lowest Short String refl f)
  as_text _ (has_type _ (of_char u) f) = other_kind is_text_type Char String refl refl refl (λ e. cc) (law.lowest Char String refl f)
  as_text _ (has_type _ (of_long z) f) = other_kind is_text_type Long String refl refl refl (λ e. cc) (law.lowest Long String refl f)
  as_text _ (has_type _ (of_int z) f) = other_kind is_text_type Int String refl refl refl (λ e. cc) (law.lowest Int String refl f)
  as_text _ (has_type _ (of_object i c e n) f) = other_kind is_text_type (Class c) String refl refl refl (λ e. cc) (law.lowest (Class c) String refl f)
  as_text _ (has_type _ (of_array i r e) f) = other_kind is_text_type (Array r) String refl refl refl (λ e. cc) (law.lowest (Array r) String refl f)
  as_text _ (has_type _ (of_any_array i r e) f) = other_kind is_text_type (Class object) String refl refl refl (λ e. cc) (law.lowest (Class object) String refl f)

  -- a value of the type is there
  pub data Gives (t : IrType) : Answer → Type 0 where
    some_of : (v : ir.Value) → HasType v t → Gives t (answers v)

  yes_or_no : (b : Bool) → Gives Boolean (answers (ir.boolean b))
  yes_or_no b = some_of (ir.boolean b) (has_type Boolean (of_boolean b) (law.same Boolean))

  int : (z : ℤ) → Gives Int (answers (ir.number z))
  int z = some_of (ir.number z) (has_type Int (of_int z) (law.same Int))

  long : (z : ℤ) → Gives Long (answers (ir.long z))
  long z = some_of (ir.long z) (has_type Long (of_long z) (law.same Long))

  unary_number : (o : UnaryOp) → ((z : ℤ) → Gives (unary_result o) (unary_value o (ir.number z))) → (v : ir.Value) → IsNumber v → Gives (unary_result o) (unary_value o v)
  unary_number o h _ (a_number z) = h z

  unary_boolean : (v : ir.Value) → IsBoolean v → Gives Boolean (unary_value BooleanNot v)
  unary_boolean _ (a_boolean b) = yes_or_no _

  unary_char : (v : ir.Value) → IsChar v → Gives Int (unary_value CharToInt v)
  unary_char _ (a_char u) = int _

  unary_long : (v : ir.Value) → IsLong v → Gives Int (unary_value LongToInt v)
  unary_long _ (a_long z) = int _

  pub unary_gives : (o : UnaryOp) (v : ir.Value) → HasType v (unary_operand o) → Gives (unary_result o) (unary_value o v)
  unary_gives BooleanNot v i = unary_boolean v (as_boolean v i)
  unary_gives CharToInt v i = unary_char v (as_char v i)
  unary_gives ByteToInt v i = unary_number ByteToInt (λ z. int z) v (as_number_of v Byte refl (λ s. law.lowest s Byte refl) i)
  unary_gives ShortToInt v i = unary_number ShortToInt (λ z. int z) v (as_number_of v Short refl (λ s. law.lowest s Short refl) i)
  unary_gives IntToLong v i = unary_number IntToLong (λ z. long z) v (as_int v i)
  unary_gives IntToChar v i = unary_number IntToChar (λ z. some_of (ir.char _) (has_type Char (of_char _) (law.same Char))) v (as_int v i)
  unary_gives IntToByte v i = unary_number IntToByte (λ z. some_of (ir.number _) (has_type Byte (of_byte _) (law.same Byte))) v (as_int v i)
  unary_gives IntToShort v i = unary_number IntToShort (λ z. some_of (ir.number _) (has_type Short (of_short _) (law.same Short))) v (as_int v i)
  unary_gives LongToInt v i = unary_long v (as_long v i)

  on_booleans : (o : BinaryOp) → ((a b : Bool) → Gives (binary_result o) (boolean_value o a b)) → (v w : ir.Value) → IsBoolean v → IsBoolean w → Gives (binary_result o) (binary_value o v w)
  on_booleans o h _ _ (a_boolean a) (a_boolean b) = h a b

  on_numbers : (o : BinaryOp) → ((a b : ℤ) → Gives (binary_result o) (number_value o a b)) → (v w : ir.Value) → IsNumber v → IsNumber w → Gives (binary_result o) (binary_value o v w)
  on_numbers o h _ _ (a_number a) (a_number b) = h a b

  on_longs : (o : BinaryOp) → ((a b : ℤ) → Gives (binary_result o) (long_value o a b)) → (v w : ir.Value) → IsLong v → IsLong w → Gives (binary_result o) (binary_value o v w)
  on_longs o h _ _ (a_long a) (a_long b) = h a b

  on_shifts : (o : BinaryOp) → ((a b : ℤ) → Gives (binary_result o) (shift_value o a b)) → (v w : ir.Value) → IsLong v → IsNumber w → Gives (binary_result o) (binary_value o v w)
  on_shifts o h _ _ (a_long a) (a_number b) = h a b

  pub binary_gives : (o : BinaryOp) → is_simple o ≡ true → (v w : ir.Value) → HasType v (left_operand o) → HasType w (right_operand o) → Gives (binary_result o) (binary_value o v w)
  binary_gives StrictEqual h v w i j = impossible h
  binary_gives StrictNotEqual h v w i j = impossible h
  binary_gives StringConcatenate h v w i j = impossible h
  binary_gives IntDivide h v w i j = impossible h
  binary_gives IntRemainder h v w i j = impossible h
  binary_gives LongDivide h v w i j = impossible h
  binary_gives LongRemainder h v w i j = impossible h
  binary_gives BooleanEqual h v w i j = on_booleans BooleanEqual (λ a b. yes_or_no _) v w (as_boolean v i) (as_boolean w j)
  binary_gives BooleanNotEqual h v w i j = on_booleans BooleanNotEqual (λ a b. yes_or_no _) v w (as_boolean v i) (as_boolean w j)
  binary_gives BooleanOr h v w i j = on_booleans BooleanOr (λ a b. yes_or_no _) v w (as_boolean v i) (as_boolean w j)
  binary_gives BooleanAnd h v w i j = on_booleans BooleanAnd (λ a b. yes_or_no _) v w (as_boolean v i) (as_boolean w j)
  binary_gives IntAdd h v w i j = on_numbers IntAdd (λ a b. int _) v w (as_int v i) (as_int w j)
  binary_gives IntSubtract h v w i j = on_numbers IntSubtract (λ a b. int _) v w (as_int v i) (as_int w j)
  binary_gives IntMultiply h v w i j = on_numbers IntMultiply (λ a b. int _) v w (as_int v i) (as_int w j)
  binary_gives IntOr h v w i j = on_numbers IntOr (λ a b. int _) v w (as_int v i) (as_int w j)
  binary_gives IntAnd h v w i j = on_numbers IntAnd (λ a b. int _) v w (as_int v i) (as_int w j)
  binary_gives IntXor h v w i j = on_numbers IntXor (λ a b. int _) v w (as_int v i) (as_int w j)
  binary_gives IntShiftLeft h v w i j = on_numbers IntShiftLeft (λ a b. int _) v w (as_int v i) (as_int w j)
  binary_gives IntShiftRightLogical h v w i j = on_numbers IntShiftRightLogical (λ a b. int _) v w (as_int v i) (as_int w j)
  binary_gives IntShiftRightArithmetic h v w i j = on_numbers IntShiftRightArithmetic (λ a b. int _) v w (as_int v i) (as_int w j)
  binary_gives IntEqual h v w i j = on_numbers IntEqual (λ a b. yes_or_no _) v w (as_int v i) (as_int w j)
  binary_gives IntNotEqual h v w i j = on_numbers IntNotEqual (λ a b. yes_or_no _) v w (as_int v i) (as_int w j)
  binary_gives IntLess h v w i j = on_numbers IntLess (λ a b. yes_or_no _) v w (as_int v i) (as_int w j)
  binary_gives IntLessOrEqual h v w i j = on_numbers IntLessOrEqual (λ a b. yes_or_no _) v w (as_int v i) (as_int w j)
  binary_gives IntGreater h v w i j = on_numbers IntGreater (λ a b. yes_or_no _) v w (as_int v i) (as_int w j)
  binary_gives IntGreaterOrEqual h v w i j = on_numbers IntGreaterOrEqual (λ a b. yes_or_no _) v w (as_int v i) (as_int w j)
  binary_gives LongAdd h v w i j = on_longs LongAdd (λ a b. long _) v w (as_long v i) (as_long w j)
  binary_gives LongSubtract h v w i j = on_longs LongSubtract (λ a b. long _) v w (as_long v i) (as_long w j)
  binary_gives LongMultiply h v w i j = on_longs LongMultiply (λ a b. long _) v w (as_long v i) (as_long w j)
  binary_gives LongOr h v w i j = on_longs LongOr (λ a b. long _) v w (as_long v i) (as_long w j)
  binary_gives LongAnd h v w i j = on_longs LongAnd (λ a b. long _) v w (as_long v i) (as_long w j)
  binary_gives LongXor h v w i j = on_longs LongXor (λ a b. long _) v w (as_long v i) (as_long w j)
  binary_gives LongShiftLeft h v w i j = on_shifts LongShiftLeft (λ a b. long _) v w (as_long v i) (as_int w j)
  binary_gives LongShiftRightLogical h v w i j = on_shifts LongShiftRightLogical (λ a b. long _) v w (as_long v i) (as_int w j)
  binary_gives LongShiftRightArithmetic h v w i j = on_shifts LongShiftRightArithmetic (λ a b. long _) v w (as_long v i) (as_int w j)
  binary_gives LongEqual h v w i j = on_longs LongEqual (λ a b. yes_or_no _) v w (as_long v i) (as_long w j)
  binary_gives LongNotEqual h v w i j = on_longs LongNotEqual (λ a b. yes_or_no _) v w (as_long v i) (as_long w j)
  binary_gives LongLess h v w i j = on_longs LongLess (λ a b. yes_or_no _) v w (as_long v i) (as_long w j)
  binary_gives LongLessOrEqual h v w i j = on_longs LongLessOrEqual (λ a b. yes_or_no _) v w (as_long v i) (as_long w j)
  binary_gives LongGreater h v w i j = on_longs LongGreater (λ a b. yes_or_no _) v w (as_long v i) (as_long w j)
  binary_gives LongGreaterOrEqual h v w i j = on_longs LongGreaterOrEqual (λ a b. yes_or_no _) v w (as_long v i) (as_long w j)

  -- each value of a type that joins to a text has one
  data HasText : ir.Value → Type 0 where
    a_text_of : (v : ir.Value) (us : List ℕ) → text_of v ≡ Some us → HasText v

  joined_bare : (s : IrType) → IsJoined s → is_bare s ≡ true
  joined_bare s h = go s (text_joined s h)
    where
      go : (s : IrType) → is_joined s ≡ true → is_bare s ≡ true
      go (Array r) h = impossible h
      go _ h = h

  no_text : {A : Type 0} (s : IrType) → IsJoined s → (s ≡ Any) ⊎ (is_array_type s ≡ true) → A
  no_text s h (inl e) = absurd (subst IsJoined e h)
  no_text (Array r) h (inr e) = absurd h
  no_text _ h (inr e) = impossible e

  text_there : (v : ir.Value) (o s : IrType) → IsJoined s → sub o s → IsOf v o → HasText v
  text_there _ _ s h f of_undefined = a_text_of ir.undefined _ refl
  text_there _ _ s h f of_null = a_text_of ir.null _ refl
  text_there _ _ s h f (of_boolean true) = a_text_of (ir.boolean true) _ refl
  text_there _ _ s h f (of_boolean false) = a_text_of (ir.boolean false) _ refl
  text_there _ _ s h f (of_char u) = a_text_of (ir.char u) _ refl
  text_there _ _ s h f (of_byte z) = a_text_of (ir.number z) _ refl
  text_there _ _ s h f (of_short z) = a_text_of (ir.number z) _ refl
  text_there _ _ s h f (of_int z) = a_text_of (ir.number z) _ refl
  text_there _ _ s h f (of_long z) = a_text_of (ir.long z) _ refl
  text_there _ _ s h f (of_text us) = a_text_of (ir.text us) us refl
  text_there _ _ s h f (of_object i c e n) = impossible (sym n ∙ law.bare (Class c) s (joined_bare s h) f)
  text_there _ _ s h f (of_array i r e) = no_text s h (law.above_arrays r s f)
  text_there _ _ s h f (of_any_array i r e) = impossible (law.bare (Class object) s (joined_bare s h) f)

  joined_gives : (v w : ir.Value) → HasText v → HasText w → Gives String (any_value StringConcatenate v w)
  joined_gives _ _ (a_text_of v us e) (a_text_of w vs f) = subst (Gives String) (λ i. joined (sym e i) (sym f i)) (some_of (ir.text (us ++ vs)) (has_type String (of_text (us ++ vs)) (law.same String)))

  pub join_gives : (v w : ir.Value) (s t : IrType) → IsJoined s → IsJoined t → HasType v s → HasType w t → Gives String (binary_value StringConcatenate v w)
  join_gives v w s t h k (has_type o i f) (has_type q j g) = subst (Gives String) (sym (join_is v w)) (joined_gives v w (text_there v o s h f i) (text_there w q t k g j))

  -- identity is a boolean, whatever the values are
  identity_any : (o : BinaryOp) → IsIdentity o → (v w : ir.Value) → Gives (binary_result o) (any_value o v w)
  identity_any _ a_sameness v w = yes_or_no _
  identity_any _ a_difference v w = yes_or_no _

  pub identity_gives : (o : BinaryOp) → IsIdentity o → (v w : ir.Value) → Gives (binary_result o) (binary_value o v w)
  identity_gives o i v w = subst (Gives (binary_result o)) (sym (identity_is o i v w)) (identity_any o i v w)

  pub division_gives : (o : BinaryOp) → IsDivision o → (v : ir.Value) → IsNumber v → (n : ℤ) → n ≢ pos 0 → Gives (binary_result o) (binary_value o v (ir.number n))
  division_gives _ a_quotient _ (a_number a) (pos zero) ne = absurd (ne refl)
  division_gives _ a_quotient _ (a_number a) (pos (suc n)) ne = int _
  division_gives _ a_quotient _ (a_number a) (negsuc n) ne = int _
  division_gives _ a_remainder _ (a_number a) (pos zero) ne = absurd (ne refl)
  division_gives _ a_remainder _ (a_number a) (pos (suc n)) ne = int _
  division_gives _ a_remainder _ (a_number a) (negsuc n) ne = int _

  pub long_division_gives : (o : BinaryOp) → IsLongDivision o → (v : ir.Value) → IsLong v → (n : ℤ) → n ≢ pos 0 → Gives (binary_result o) (binary_value o v (ir.long n))
  long_division_gives _ a_long_quotient _ (a_long a) (pos zero) ne = absurd (ne refl)
  long_division_gives _ a_long_quotient _ (a_long a) (pos (suc n)) ne = long _
  long_division_gives _ a_long_quotient _ (a_long a) (negsuc n) ne = long _
  long_division_gives _ a_long_remainder _ (a_long a) (pos zero) ne = absurd (ne refl)
  long_division_gives _ a_long_remainder _ (a_long a) (pos (suc n)) ne = long _
  long_division_gives _ a_long_remainder _ (a_long a) (negsuc n) ne = long _

  -- by any divisor: by zero it is raised
  abbrev pub Divided : BinaryOp → ir.Value → ir.Value → Type 0
  Divided o v a = Gives (binary_result o) (binary_value o v a) ⊎ (binary_value o v a ≡ raises arithmetic (codes "/ by zero"))

  int_divided : (o : BinaryOp) → IsDivision o → (v a : ir.Value) → IsNumber v → IsNumber a → Divided o v a
  int_divided _ a_quotient _ _ (a_number b) (a_number (pos zero)) = inr refl
  int_divided _ a_remainder _ _ (a_number b) (a_number (pos zero)) = inr refl
  int_divided o d v _ i (a_number (pos (suc n))) = inl (division_gives o d v i (pos (suc n)) (λ e. cc))
  int_divided o d v _ i (a_number (negsuc n)) = inl (division_gives o d v i (negsuc n) (λ e. cc))

  long_divided : (o : BinaryOp) → IsLongDivision o → (v a : ir.Value) → IsLong v → IsLong a → Divided o v a
  long_divided _ a_long_quotient _ _ (a_long b) (a_long (pos zero)) = inr refl
  long_divided _ a_long_remainder _ _ (a_long b) (a_long (pos zero)) = inr refl
  long_divided o d v _ i (a_long (pos (suc n))) = inl (long_division_gives o d v i (pos (suc n)) (λ e. cc))
  long_divided o d v _ i (a_long (negsuc n)) = inl (long_division_gives o d v i (negsuc n) (λ e. cc))

  pub divided_gives : (has : Usable) (o : BinaryOp) → divides has o ≡ true → (v a : ir.Value) → HasType v (left_operand o) → HasType a (right_operand o) → Divided o v a
  divided_gives has IntDivide h v a i j = int_divided IntDivide a_quotient v a (as_int v i) (as_int a j)
  divided_gives has IntRemainder h v a i j = int_divided IntRemainder a_remainder v a (as_int v i) (as_int a j)
  divided_gives has LongDivide h v a i j = long_divided LongDivide a_long_quotient v a (as_long v i) (as_long a j)
  divided_gives has LongRemainder h v a i j = long_divided LongRemainder a_long_remainder v a (as_long v i) (as_long a j)
  divided_gives has _ h v a i j = impossible h

  null_is : (v : ir.Value) (o : IrType) → IsOf v o → v ≡ ir.null → o ≡ Null
  null_is _ _ of_null e = refl
  null_is _ _ of_undefined e = absurd (cc)
  null_is _ _ (of_boolean b) e = absurd (cc)
  null_is _ _ (of_char u) e = absurd (cc)
  null_is _ _ (of_long z) e = absurd (cc)
  null_is _ _ (of_byte z) e = absurd (cc)
  null_is _ _ (of_short z) e = absurd (cc)
  null_is _ _ (of_int z) e = absurd (cc)
  null_is _ _ (of_text us) e = absurd (cc)
  null_is _ _ (of_object i c e n) k = absurd (cc)
  null_is _ _ (of_array i r e) k = absurd (cc)
  null_is _ _ (of_any_array i r e) k = absurd (cc)

  -- no value is of nothing
  pub no_nothing : (v : ir.Value) (o : IrType) → IsOf v o → o ≡ Nothing → ⊥
  no_nothing _ _ of_null e = absurd (cc)
  no_nothing _ _ of_undefined e = absurd (cc)
  no_nothing _ _ (of_boolean b) e = absurd (cc)
  no_nothing _ _ (of_char u) e = absurd (cc)
  no_nothing _ _ (of_long z) e = absurd (cc)
  no_nothing _ _ (of_byte z) e = absurd (cc)
  no_nothing _ _ (of_short z) e = absurd (cc)
  no_nothing _ _ (of_int z) e = absurd (cc)
  no_nothing _ _ (of_text us) e = absurd (cc)
  no_nothing _ _ (of_object i c e n) k = absurd (cc)
  no_nothing _ _ (of_array i r e) k = absurd (cc)
  no_nothing _ _ (of_any_array i r e) k = absurd (cc)

  -- a value of a primitive type isn't null
  pub primitive_full : (v : ir.Value) (t : IrType) → is_sure_type t ≡ true → HasType v t → v ≡ ir.null → ⊥
  primitive_full v t h (has_type o i f) e = go (law.lowest Null t (sure_lowest t h) (subst (λ (s : IrType). sub s t) (null_is v o i e) f))
    where
      go : (Null ≡ t) ⊎ (Null ≡ Nothing) → ⊥
      go (inl k) = impossible (ap is_sure_type k ∙ h)
      go (inr k) = cc

  -- a value is null, an object, an array, or of a primitive type
  pub data Sort (v : ir.Value) (o : IrType) : Type 0 where
    is_null : v ≡ ir.null → Sort v o
    is_object : (i : ℕ) (c : List ℕ) → v ≡ ir.reference i → o ≡ Class c → at i ≡ Some (Class c) → Sort v o
    is_array : (i : ℕ) (r : ArrayRef) → v ≡ ir.reference i → at i ≡ Some (Array r) → (o ≡ Array r) ⊎ (o ≡ Class object) → Sort v o
    is_primitive : (c : List ℕ) → hijacked_class o ≡ Some c → Sort v o

  pub sort_of : (v : ir.Value) (o : IrType) → IsOf v o → Sort v o
  sort_of _ _ of_null = is_null refl
  sort_of _ _ of_undefined = is_primitive _ refl
  sort_of _ _ (of_boolean b) = is_primitive _ refl
  sort_of _ _ (of_char u) = is_primitive _ refl
  sort_of _ _ (of_long z) = is_primitive _ refl
  sort_of _ _ (of_byte z) = is_primitive _ refl
  sort_of _ _ (of_short z) = is_primitive _ refl
  sort_of _ _ (of_int z) = is_primitive _ refl
  sort_of _ _ (of_text us) = is_primitive _ refl
  sort_of _ _ (of_object i c e n) = is_object i c refl refl e
  sort_of _ _ (of_array i r e) = is_array i r refl e (inl refl)
  sort_of _ _ (of_any_array i r e) = is_array i r refl e (inr refl)

module _ (sub : IrType → IrType → Type 0) (law : IsSubtyping sub) (h k : Classes) (adds : Adds h k) where
  of-lift : (v : ir.Value) (t : IrType) → IsOf sub law h v t → IsOf sub law k v t
  of-lift _ _ of_undefined = of_undefined
  of-lift _ _ of_null = of_null
  of-lift _ _ (of_boolean b) = of_boolean b
  of-lift _ _ (of_char u) = of_char u
  of-lift _ _ (of_long z) = of_long z
  of-lift _ _ (of_byte z) = of_byte z
  of-lift _ _ (of_short z) = of_short z
  of-lift _ _ (of_int z) = of_int z
  of-lift _ _ (of_text us) = of_text us
  of-lift _ _ (of_object i c e n) = of_object i c (adds.keeps i (Class c) e) n
  of-lift _ _ (of_array i r e) = of_array i r (adds.keeps i (Array r) e)
  of-lift _ _ (of_any_array i r e) = of_any_array i r (adds.keeps i (Array r) e)

  -- what has a type goes on to have it
  pub type-lift : (v : ir.Value) (t : IrType) → HasType sub law h v t → HasType sub law k v t
  type-lift v t (has_type o i f) = has_type o (of-lift v o i) f
