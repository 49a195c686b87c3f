-- Shifts of longs and joins of texts: operators whose templates convert their operands first.
use Rattle.std.proofs.Common.{◌≡◌, Bool, ℕ, ◌<◌, ◌^◌, ◌%◌, ◌++◌, true, false, List, [], ◌∷◌, Some, None, Option, refl, sym, ap, ◌∙◌, subst, arith}
use Rattle.std.specs.Prelude.{ℤ, pos, ◌*ℤ◌, FitsSigned}
use Rattle.std.specs.Int.{cast_unsigned, w32, w64}
use mathlib.Core.Path.{fun_ext}
use Rattle.int_arithmetic.specs.Longs as longs
use Rattle.int_arithmetic.proofs.Longs as on_longs
use Rattle.outcomes.specs.Outcome.{then_do}
use Rattle.outcomes.specs.Agreement.{Sim}
use Rattle.ir_mean.specs.Meaning as ir_meaning
use Rattle.ir_mean.specs.Operators as ir_operators
use Rattle.ir_mean.specs.States as ir
use Rattle.js_mean.specs.Meaning as js_meaning
use Rattle.js_mean.specs.Operators as js_operators
use Rattle.js_mean.specs.States as js
use Rattle.js_tree.specs.Terms as tree
use Rattle.js_tree.specs.declared.operators.BinaryOperator.TheVariants as Op
use Rattle.sj_core.specs.Terms as core
use Rattle.agree_body_rules.specs.Texts.{text_of}
use Rattle.agree_body_rules.specs.Templates.{expression_template, places}
use Rattle.sj_trees.specs.declared.operators.BinaryOp.{BinaryOp}
use Rattle.sj_trees.specs.declared.operators.BinaryOp.TheVariants.{StringConcatenate, LongShiftLeft, LongShiftRightLogical, LongShiftRightArithmetic}
use Rattle.js_tree.specs.declared.operators.HostOperation.TheVariants.{BigIntAsUintN}
use Rattle.agree_body_rules.specs.Coercions.{is_char}
use Rattle.sj_names.proofs.Same.{impossible}
use Rattle.sj_trees.specs.declared.types.IrType.{IrType}
use Rattle.sj_trees.specs.declared.types.IrType.TheVariants.{Char, Int, Long, String}
use Rattle.agree_plain_trees.specs.Settings.{Setting, shown, SameState, Valued, usable}
use Rattle.agree_plain_trees.specs.Standing.{suits}
use Rattle.agree_body_rules.specs.Standing.{is_joined, Fits}
use Rattle.agree_plain_trees.proofs.Orders.{OperandAlike, converted, two_converted, in_order-then}
use Rattle.agree_plain_trees.proofs.Operators.{wrapped_value, long_given, GivenIf}
use Rattle.agree_plain_trees.proofs.Standing.{fits-suits, joined-refers, joined-bare, bare-chars}
use Rattle.agree_plain_trees.proofs.Templates.{alone_shown, value_alike, wrapped_shown, by_value, binary-act, same_act}
use Rattle.agree_plain_trees.proofs.Worlds.{World, Stands, same_undefined, same_null, same_boolean, same_char, same_box, same_number, same_long, same_text, same_reference, SameValue}

-- a value of a type for which Long is expected, and one for which Int is
pub data IsLong (w : World) : ir.Value → js.Value → Type 0 where
  a_long : (z : ℤ) → FitsSigned w64 z → IsLong w (ir.long z) (js.big_int z)

pub data IsInt (w : World) : ir.Value → js.Value → Type 0 where
  an_int : (z : ℤ) → FitsSigned w32 z → IsInt w (ir.number z) (js.number z)

long_of : (w : World) (r : Bool) (v : ir.Value) (x : js.Value) → Stands w r v x → suits Long v ≡ true → IsLong w v x
long_of w r _ _ (same_long z f) h = a_long z f
long_of w r _ _ same_undefined h = impossible h
long_of w r _ _ same_null h = impossible h
long_of w r _ _ (same_boolean b) h = impossible h
long_of w r _ _ (same_char q u f) h = impossible h
long_of w r _ _ (same_box q u a f b) h = impossible h
long_of w r _ _ (same_number z f) h = impossible h
long_of w r _ _ (same_text us) h = impossible h
long_of w r _ _ (same_reference i a e) h = impossible h

int_of : (w : World) (r : Bool) (v : ir.Value) (x : js.Value) → Stands w r v x → suits Int v ≡ true → IsInt w v x
int_of w r _ _ (same_number z f) h = an_int z f
int_of w r _ _ same_undefined h = impossible h
int_of w r _ _ same_null h = impossible h
int_of w r _ _ (same_boolean b) h = impossible h
int_of w r _ _ (same_char q u f) h = impossible h
int_of w r _ _ (same_box q u a f b) h = impossible h
int_of w r _ _ (same_long z f) h = impossible h
int_of w r _ _ (same_text us) h = impossible h
int_of w r _ _ (same_reference i a e) h = impossible h

pub as_long : (w : World) (t : IrType) (v : ir.Value) (x : js.Value) → Fits Long t → SameValue w t v x → IsLong w v x
as_long w t v x f a = long_of w (is_char t) v x a.stands (fits-suits Long t v f a.suits)

pub as_int : (w : World) (t : IrType) (v : ir.Value) (x : js.Value) → Fits Int t → SameValue w t v x → IsInt w v x
as_int w t v x f a = int_of w (is_char t) v x a.stands (fits-suits Int t v f a.suits)

-- the conversions, and what they make of the IR's values
abbrev big_after : Option js.Value → Option js.Value
big_after None = None
big_after (Some v) = js_operators.to_big v

abbrev count_value : js.Value → Option js.Value
count_value v = big_after (js_operators.binary_value Op.BitAnd v (js.number (pos 63)))

abbrev count_of : ir.Value → js.Value
count_of (ir.number b) = js.big_int (pos (longs.places b))
count_of v = js.undefined

abbrev itself_of : ir.Value → js.Value
itself_of (ir.long a) = js.big_int a
itself_of v = js.undefined

abbrev unsigned_of : ir.Value → js.Value
unsigned_of (ir.long a) = js.big_int (pos (cast_unsigned w64 a))
unsigned_of v = js.undefined

count_here : (w : World) (v : ir.Value) (x : js.Value) → IsInt w v x → count_value x ≡ Some (count_of v)
count_here w _ _ (an_int b f) = ap (λ (z : ℤ). Some (js.big_int z)) (on_longs.count-is b)

itself_here : (w : World) (v : ir.Value) (x : js.Value) → IsLong w v x → Some x ≡ Some (itself_of v)
itself_here w _ _ (a_long a f) = refl

unsigned_here : (w : World) (v : ir.Value) (x : js.Value) → IsLong w v x → js_operators.as_unsigned_value (js.number (pos 64)) x ≡ Some (unsigned_of v)
unsigned_here w _ _ (a_long a f) = ap js_operators.big (on_longs.unsigned-is a f)

-- the text of a value by its type
abbrev pub text_value : IrType → js.Value → Option js.Value
text_value String v = Some v
text_value Char v = js_operators.unit_of (js_operators.to_bits v)
text_value _ v = js_operators.binary_value Op.Add (js.text []) v

abbrev units : Option (List ℕ) → List ℕ
units None = []
units (Some us) = us

abbrev units_value : ir.Value → js.Value
units_value v = js.text (units (ir_operators.text_of v))

pub record Texts (v : ir.Value) (o : Option js.Value) : Type 0 where
  pub of_value : ir_operators.text_of v ≡ Some (units (ir_operators.text_of v))
  pub is : o ≡ Some (units_value v)

small_unit : (u : ℕ) → u < 2 ^ 16 → u % 2 ^ 16 ≡ u
small_unit u h = omega arith

-- no value of a type other than char is one
value_texts : (w : World) (t : IrType) → is_joined t ≡ true → (v : ir.Value) (x : js.Value) → Stands w (is_char t) v x → ((u : ℕ) → suits t (ir.char u) ≡ false) → suits t v ≡ true → Texts v (js_operators.binary_value Op.Add (js.text []) x)
value_texts w t b _ _ same_undefined h k = record { of_value = refl; is = refl }
value_texts w t b _ _ same_null h k = record { of_value = refl; is = refl }
value_texts w t b _ _ (same_boolean true) h k = record { of_value = refl; is = refl }
value_texts w t b _ _ (same_boolean false) h k = record { of_value = refl; is = refl }
value_texts w t b _ _ (same_char r u f) h k = impossible (sym (h u) ∙ k)
value_texts w t b _ _ (same_box r u a f i) h k = impossible (sym (h u) ∙ k)
value_texts w t b _ _ (same_number z f) h k = record { of_value = refl; is = refl }
value_texts w t b _ _ (same_long z f) h k = record { of_value = refl; is = refl }
value_texts w t b _ _ (same_text us) h k = record { of_value = refl; is = refl }
value_texts w t b _ _ (same_reference i a e) h k = impossible (sym (joined-refers t i b) ∙ k)

char_texts : (w : World) (v : ir.Value) (x : js.Value) → Stands w true v x → suits Char v ≡ true → Texts v (text_value Char x)
char_texts w _ _ (same_box r u a f i) k = impossible (sym r)
char_texts w _ _ (same_char r u f) k = record { of_value = refl; is = ap (λ (n : ℕ). Some (js.text (n ∷ []))) (small_unit u f) }
char_texts w _ _ same_undefined k = impossible k
char_texts w _ _ same_null k = impossible k
char_texts w _ _ (same_boolean b) k = impossible k
char_texts w _ _ (same_number z f) k = impossible k
char_texts w _ _ (same_long z f) k = impossible k
char_texts w _ _ (same_text us) k = impossible k
char_texts w _ _ (same_reference i a e) k = impossible k

string_texts : (w : World) (v : ir.Value) (x : js.Value) → Stands w false v x → suits String v ≡ true → Texts v (Some x)
string_texts w _ _ (same_text us) k = record { of_value = refl; is = refl }
string_texts w _ _ same_undefined k = impossible k
string_texts w _ _ same_null k = impossible k
string_texts w _ _ (same_boolean b) k = impossible k
string_texts w _ _ (same_char r u f) k = impossible k
string_texts w _ _ (same_box r u a f i) k = impossible k
string_texts w _ _ (same_number z f) k = impossible k
string_texts w _ _ (same_long z f) k = impossible k
string_texts w _ _ (same_reference i a e) k = impossible k

pub texts : (w : World) (t : IrType) → is_joined t ≡ true → (v : ir.Value) (x : js.Value) → Stands w (is_char t) v x → suits t v ≡ true → Texts v (text_value t x)
texts w String b v x a k = string_texts w v x a k
texts w Char b v x a k = char_texts w v x a k
texts w t b v x a k = value_texts w t b v x a (λ u. bare-chars t u (joined-bare t b) refl) k

pub join_is : (v v' : ir.Value) → ir_operators.binary_value StringConcatenate v v' ≡ ir_operators.any_value StringConcatenate v v'
join_is (ir.boolean a) (ir.boolean b) = refl
join_is (ir.number a) (ir.number b) = refl
join_is (ir.long a) (ir.long b) = refl
join_is (ir.long a) (ir.number b) = refl
join_is v v' = refl

join_given : (w : World) (v v' : ir.Value) (o o' : Option js.Value) → Texts v o → Texts v' o' → GivenIf w String (ir_operators.any_value StringConcatenate v v') (js_operators.binary_value Op.Add (units_value v) (units_value v'))
join_given w v v' o o' a b = subst (λ (t : Option (List ℕ)). GivenIf w String (ir_operators.joined t (ir_operators.text_of v')) (js_operators.binary_value Op.Add (units_value v) (units_value v'))) (sym a.of_value) (subst (λ (t : Option (List ℕ)). GivenIf w String (ir_operators.joined (Some (units (ir_operators.text_of v))) t) (js_operators.binary_value Op.Add (units_value v) (units_value v'))) (sym b.of_value) (record { value = js.text (units (ir_operators.text_of v) ++ units (ir_operators.text_of v')); is = refl; alike = record { stands = same_text (units (ir_operators.text_of v) ++ units (ir_operators.text_of v')); suits = refl; shaped = tt } }))

module _ (z : Setting) where
  -- `BigInt((e & 63))`
  count_next : (o : Option js.Value) (sc sc' : js.Scope) (u : js.State) → then_do (js_meaning.value_or_wrong o sc' u) (js.with_value (λ v. js_meaning.value_or_wrong (js_operators.to_big v) sc)) ≡ js_meaning.value_or_wrong (big_after o) sc u
  count_next None sc sc' u = refl
  count_next (Some v) sc sc' u = refl

  count_shown : (g : tree.Expression) (sc : js.Scope) (u : js.State) → js_meaning.evaluate z.place.program z.js_low (places g) sc u ≡ converted count_value (js_meaning.evaluate z.place.program z.js_low g) sc u
  count_shown g sc u = in_order-then (js_meaning.evaluate z.place.program z.js_low g ∷ js_meaning.evaluate z.place.program z.js_low (tree.number_literal (pos 63)) ∷ []) (js_meaning.binary Op.BitAnd) (λ v. js_meaning.value_or_wrong (js_operators.to_big v) sc) sc u ∙ ap (λ f. then_do (js_meaning.evaluate z.place.program z.js_low g sc u) (js.with_value f)) (fun_ext (λ x. fun_ext (λ q. count_next (js_operators.binary_value Op.BitAnd x (js.number (pos 63))) sc sc q)))

  itself_shown : (e : js.Evaluation) (sc : js.Scope) (u : js.State) → e sc u ≡ converted Some e sc u
  itself_shown e sc u = alone_shown e sc u

  -- the text of an operand by its type
  text_shown : (t : IrType) (e : core.Expression) (sc : js.Scope) (u : js.State) → shown z (text_of t e) sc u ≡ converted (text_value t) (shown z e) sc u
  text_shown String e sc u = itself_shown (shown z e) sc u
  text_shown Char e sc u = refl
  text_shown t e sc u = refl

  -- an operator whose operands are converted, in their order
  in_order-converted : (c d : js.Value → Option js.Value) (e g e' g' : js.Evaluation) (act act' : List js.Value → js.Evaluation) → ((sc : js.Scope) (u : js.State) → e' sc u ≡ converted c e sc u) → ((sc : js.Scope) (u : js.State) → g' sc u ≡ converted d g sc u) → ((xs : List js.Value) (sc : js.Scope) (u : js.State) → act xs sc u ≡ act' xs sc u) → (sc : js.Scope) (u : js.State) → js_meaning.in_order (e' ∷ g' ∷ []) act sc u ≡ js_meaning.in_order (converted c e ∷ converted d g ∷ []) act' sc u
  in_order-converted c d e g e' g' act act' h k a sc u = same_act (e' ∷ g' ∷ []) act act' sc u a ∙ (λ i. js_meaning.in_order (fun_ext (λ sc. fun_ext (λ u. h sc u)) i ∷ fun_ext (λ sc. fun_ext (λ u. k sc u)) i ∷ []) act' sc u)

  module _ (w : World) (env : ir.Env) (sc : js.Scope) (left right : IrType) (r q : ir.Run) (e d : core.Expression) (one : OperandAlike z w env sc left r (shown z e)) (other : OperandAlike z w env sc right q (shown z d)) (s : ir.State) (u : js.State) (same : SameState z.place w s u) where
    shift_by : (o : BinaryOp) (c : js.Value → Option js.Value) (f : ir.Value → js.Value) (by : js.Value → js.Value → Option js.Value) → Fits Long left → Fits Int right → ((y : World) (v : ir.Value) (x : js.Value) → IsLong y v x → c x ≡ Some (f v)) → ((y : World) (v v' : ir.Value) (x x' : js.Value) → IsLong y v x → IsInt y v' x' → GivenIf y Long (ir_operators.binary_value o v v') (by (f v) (count_of v'))) → Sim z.direction (Valued z.place w env Long) (ir_meaning.in_order (r ∷ q ∷ []) (ir_meaning.binary z.place.classes z.low o) env s) (js_meaning.in_order (converted c (shown z e) ∷ converted count_value (shown z d) ∷ []) (by_value by) sc u)
    shift_by o c f by l i converts given = two_converted z w env sc Long left right c count_value f count_of (λ y v x a. converts y v x (as_long y left v x l a)) (λ y v x a. count_here y v x (as_int y right v x i a)) r q (shown z e) (shown z d) (ir_meaning.binary z.place.classes z.low o) (by_value by) (λ y v v' x x' s u g a b same. value_alike z w y env Long sc s u (ir_operators.binary_value o v v') (by (f v) (count_of v')) (given y v v' x x' (as_long y left v x l a) (as_int y right v' x' i b)) g same) one other s u same

    pub left_shift_alike : Fits Long left → Fits Int right → Sim z.direction (Valued z.place w env Long) (ir_meaning.in_order (r ∷ q ∷ []) (ir_meaning.binary z.place.classes z.low LongShiftLeft) env s) (shown z (core.binary_of LongShiftLeft e d) sc u)
    left_shift_alike l i = subst (λ o. Sim z.direction (Valued z.place w env Long) (ir_meaning.in_order (r ∷ q ∷ []) (ir_meaning.binary z.place.classes z.low LongShiftLeft) env s) o) (sym shape) (shift_by LongShiftLeft Some itself_of by l i itself_here given)
      where
        by : js.Value → js.Value → Option js.Value
        by v v' = wrapped_value (js_operators.binary_value Op.ShiftLeft v v')

        shape : shown z (core.binary_of LongShiftLeft e d) sc u ≡ js_meaning.in_order (converted Some (shown z e) ∷ converted count_value (shown z d) ∷ []) (by_value by) sc u
        shape = wrapped_shown z.place.program z.js_low (tree.binary_of (expression_template z.place.name z.place.label (usable z).lookup e) Op.ShiftLeft (places (expression_template z.place.name z.place.label (usable z).lookup d))) (converted Some (shown z e) ∷ converted count_value (shown z d) ∷ []) (js_operators.binary_value Op.ShiftLeft) sc u (in_order-converted Some count_value (shown z e) (shown z d) (shown z e) (js_meaning.evaluate z.place.program z.js_low (places (expression_template z.place.name z.place.label (usable z).lookup d))) (js_meaning.binary Op.ShiftLeft) (by_value (js_operators.binary_value Op.ShiftLeft)) (itself_shown (shown z e)) (count_shown (expression_template z.place.name z.place.label (usable z).lookup d)) (binary-act Op.ShiftLeft) sc u)

        given : (y : World) (v v' : ir.Value) (x x' : js.Value) → IsLong y v x → IsInt y v' x' → GivenIf y Long (ir_operators.binary_value LongShiftLeft v v') (by (itself_of v) (count_of v'))
        given y _ _ _ _ (a_long a f) (an_int b g) = long_given y (longs.shifted_left a b) _ (ap (λ o. wrapped_value (js_operators.big o)) (on_longs.left_shift-is a b f) ∙ ap (λ n. Some (js.big_int n)) (on_longs.cut-is (a *ℤ pos (2 ^ longs.places b)))) (on_longs.wrapped-fits (a *ℤ pos (2 ^ longs.places b)))

    pub right_shift_alike : Fits Long left → Fits Int right → Sim z.direction (Valued z.place w env Long) (ir_meaning.in_order (r ∷ q ∷ []) (ir_meaning.binary z.place.classes z.low LongShiftRightArithmetic) env s) (shown z (core.binary_of LongShiftRightArithmetic e d) sc u)
    right_shift_alike l i = subst (λ o. Sim z.direction (Valued z.place w env Long) (ir_meaning.in_order (r ∷ q ∷ []) (ir_meaning.binary z.place.classes z.low LongShiftRightArithmetic) env s) o) (sym shape) (shift_by LongShiftRightArithmetic Some itself_of (js_operators.binary_value Op.ShiftRight) l i itself_here given)
      where
        shape : shown z (core.binary_of LongShiftRightArithmetic e d) sc u ≡ js_meaning.in_order (converted Some (shown z e) ∷ converted count_value (shown z d) ∷ []) (by_value (js_operators.binary_value Op.ShiftRight)) sc u
        shape = in_order-converted Some count_value (shown z e) (shown z d) (shown z e) (js_meaning.evaluate z.place.program z.js_low (places (expression_template z.place.name z.place.label (usable z).lookup d))) (js_meaning.binary Op.ShiftRight) (by_value (js_operators.binary_value Op.ShiftRight)) (itself_shown (shown z e)) (count_shown (expression_template z.place.name z.place.label (usable z).lookup d)) (binary-act Op.ShiftRight) sc u

        given : (y : World) (v v' : ir.Value) (x x' : js.Value) → IsLong y v x → IsInt y v' x' → GivenIf y Long (ir_operators.binary_value LongShiftRightArithmetic v v') (js_operators.binary_value Op.ShiftRight (itself_of v) (count_of v'))
        given y _ _ _ _ (a_long a f) (an_int b g) = long_given y (longs.shifted_right a b) _ (ap js_operators.big (on_longs.right_shift-is a b)) (on_longs.shifted_right-fits a b f)

    pub zero_shift_alike : Fits Long left → Fits Int right → Sim z.direction (Valued z.place w env Long) (ir_meaning.in_order (r ∷ q ∷ []) (ir_meaning.binary z.place.classes z.low LongShiftRightLogical) env s) (shown z (core.binary_of LongShiftRightLogical e d) sc u)
    zero_shift_alike l i = subst (λ o. Sim z.direction (Valued z.place w env Long) (ir_meaning.in_order (r ∷ q ∷ []) (ir_meaning.binary z.place.classes z.low LongShiftRightLogical) env s) o) (sym shape) (shift_by LongShiftRightLogical unsigned unsigned_of by l i unsigned_here given)
      where
        unsigned : js.Value → Option js.Value
        unsigned v = js_operators.as_unsigned_value (js.number (pos 64)) v

        by : js.Value → js.Value → Option js.Value
        by v v' = wrapped_value (js_operators.binary_value Op.ShiftRight v v')

        shape : shown z (core.binary_of LongShiftRightLogical e d) sc u ≡ js_meaning.in_order (converted unsigned (shown z e) ∷ converted count_value (shown z d) ∷ []) (by_value by) sc u
        shape = wrapped_shown z.place.program z.js_low (tree.binary_of (tree.host_call_of_two BigIntAsUintN (tree.number_literal (pos 64)) (expression_template z.place.name z.place.label (usable z).lookup e)) Op.ShiftRight (places (expression_template z.place.name z.place.label (usable z).lookup d))) (converted unsigned (shown z e) ∷ converted count_value (shown z d) ∷ []) (js_operators.binary_value Op.ShiftRight) sc u (in_order-converted unsigned count_value (shown z e) (shown z d) (js_meaning.evaluate z.place.program z.js_low (tree.host_call_of_two BigIntAsUintN (tree.number_literal (pos 64)) (expression_template z.place.name z.place.label (usable z).lookup e))) (js_meaning.evaluate z.place.program z.js_low (places (expression_template z.place.name z.place.label (usable z).lookup d))) (js_meaning.binary Op.ShiftRight) (by_value (js_operators.binary_value Op.ShiftRight)) (λ sc u. refl) (count_shown (expression_template z.place.name z.place.label (usable z).lookup d)) (binary-act Op.ShiftRight) sc u)

        given : (y : World) (v v' : ir.Value) (x x' : js.Value) → IsLong y v x → IsInt y v' x' → GivenIf y Long (ir_operators.binary_value LongShiftRightLogical v v') (by (unsigned_of v) (count_of v'))
        given y _ _ _ _ (a_long a f) (an_int b g) = long_given y (longs.shifted_right_with_zeros a b) _ (ap (λ o. wrapped_value (js_operators.big o)) (on_longs.right_shift-is (pos (cast_unsigned w64 a)) b) ∙ ap (λ n. Some (js.big_int n)) (on_longs.zero_shift-is a b f)) (on_longs.zero_shift-fits a b f)

    -- texts that are joined
    pub joined_alike : is_joined left ≡ true → is_joined right ≡ true → Sim z.direction (Valued z.place w env String) (ir_meaning.in_order (r ∷ q ∷ []) (ir_meaning.binary z.place.classes z.low StringConcatenate) env s) (shown z (core.binary_of StringConcatenate (text_of left e) (text_of right d)) sc u)
    joined_alike bare other_bare = subst (λ o. Sim z.direction (Valued z.place w env String) (ir_meaning.in_order (r ∷ q ∷ []) (ir_meaning.binary z.place.classes z.low StringConcatenate) env s) o) (sym (in_order-converted (text_value left) (text_value right) (shown z e) (shown z d) (shown z (text_of left e)) (shown z (text_of right d)) (js_meaning.binary Op.Add) (by_value (js_operators.binary_value Op.Add)) (text_shown left e) (text_shown right d) (binary-act Op.Add) sc u)) (two_converted z w env sc String left right (text_value left) (text_value right) units_value units_value (λ y v x a. (texts y left bare v x a.stands a.suits).is) (λ y v x a. (texts y right other_bare v x a.stands a.suits).is) r q (shown z e) (shown z d) (ir_meaning.binary z.place.classes z.low StringConcatenate) (by_value (js_operators.binary_value Op.Add)) (λ y v v' x x' s u g a b same. value_alike z w y env String sc s u (ir_operators.binary_value StringConcatenate v v') (js_operators.binary_value Op.Add (units_value v) (units_value v')) (subst (λ o. GivenIf y String o (js_operators.binary_value Op.Add (units_value v) (units_value v'))) (sym (join_is v v')) (join_given y v v' _ _ (texts y left bare v x a.stands a.suits) (texts y right other_bare v' x' b.stands b.suits))) g same) one other s u same)
