-- A tree of the one type stands where the other is expected: what the rules say of types, as far as the kinds of values tell.
use Rattle.std.proofs.Common.{◌≡◌, ℕ, Bool, true, false, ◌&&◌, List, codes, refl, sym, ap, ◌∙◌, subst, ◌⊎◌, inl, inr, ⊎_elim}
use Rattle.std.specs.Prelude.{not, ◌||◌}
use Rattle.agree_body_forms.specs.Boxes.{is_boxed, operands_are_boxed}
use Rattle.agree_body_forms.specs.Built.{Usable, may_make, divides}
use Rattle.sj_emit_expr_spec.specs.Coercions.{is_char}
use Rattle.sj_emit_expr_spec.specs.Desugar.{has_no_value}
use Rattle.sj_names.specs.declared.references.ArrayRef.{ArrayRef}
use Rattle.sj_trees.specs.Term.{Term, boolean_literal}
use Rattle.sj_trees.specs.TypeOf.{type_of_term, loop_type, unary_result, binary_result}
use Rattle.sj_trees.specs.declared.operators.BinaryOp.{BinaryOp}
use Rattle.sj_trees.specs.declared.operators.BinaryOp.TheVariants.{StrictEqual, StrictNotEqual, StringConcatenate, IntAdd, IntDivide, IntRemainder, LongDivide, LongRemainder}
use Rattle.sj_trees.specs.declared.operators.UnaryOp.{UnaryOp}
use Rattle.sj_trees.specs.declared.operators.UnaryOp.TheVariants.{BooleanNot}
use Rattle.sj_trees.specs.declared.types.IrType.{IrType}
use Rattle.sj_trees.specs.declared.types.IrType.TheVariants.{Any, Nothing, Undefined, Boolean, Char, Byte, Short, Int, Long, String, Class, Null, Array, NoType}
use Rattle.agree_body_rules.specs.Operators.{is_simple, a_quotient, a_remainder, a_long_quotient, a_long_remainder, DividesBy, by_int, by_long, IsIdentity, a_sameness, a_difference, Operates, of_its_types, joins, divided, compared}
use Rattle.agree_body_forms.specs.Rules.{unary_operand, left_operand, right_operand, IsText, IsCastType}
use Rattle.agree_body_rules.specs.Standing.{is_bare, is_array_type, is_joined, Fits, MayStand, NoBox}
use Rattle.agree_body_rules.proofs.Standing.{fits-same}
use Rattle.agree_body_rules.specs.Typing.{IsTrueLiteral, true_literal}
use Rattle.sj_names.proofs.Same.{impossible, text-refl}
use Rattle.sj_names.specs.Same.{is_same_text}
use Rattle.agree_body_rules.specs.Subtyping.{is_lowest, IsSubtyping}
use Rattle.agree_body_rules.specs.Locals.{HasValue}
use Rattle.agree_body_rules.proofs.RulesGive.{Takes, its_types, texts, of_division, of_identity, each_made}
use Rattle.sj_emit_expr_spec.specs.Known.{Classes}
use Rattle.sj_emit_expr_spec.specs.Subtypes.{IsSub}

pub value-not : (t : IrType) → HasValue t → t ≡ NoType → ⊥
value-not t h e = impossible (sym h ∙ ap has_no_value e)

pub unary-operand-value : (o : UnaryOp) → HasValue (unary_operand o)
unary-operand-value o = unary_go o
  where
    unary_go : (o : UnaryOp) → HasValue (unary_operand o)
    unary_go BooleanNot = refl
    unary_go _ = refl

pub unary-value : (o : UnaryOp) → HasValue (unary_result o)
unary-value BooleanNot = refl
unary-value _ = refl

pub binary-value : (o : BinaryOp) → HasValue (binary_result o)
binary-value IntAdd = refl
binary-value _ = refl

pub left-operand-value : (o : BinaryOp) → HasValue (left_operand o)
left-operand-value IntAdd = refl
left-operand-value _ = refl

pub right-operand-value : (o : BinaryOp) → HasValue (right_operand o)
right-operand-value IntAdd = refl
right-operand-value _ = refl

-- there are values of a type to which there are casts
pub cast-value : (t : IrType) → IsCastType t → HasValue t
cast-value Nothing h = absurd h
cast-value NoType h = absurd h
cast-value _ h = refl

pub not_no_type : (t : IrType) → IsText t → t ≡ NoType → ⊥
not_no_type t h e = subst IsText e h

-- each type may stand at itself
pub stands-same : (q a : Bool) → (q || not (a && not a)) ≡ true
stands-same true a = refl
stands-same false true = refl
stands-same false false = refl

box-same : (a : Bool) → (a && not a) ≡ false
box-same true = refl
box-same false = refl

nothing-fits : (t : IrType) → Fits t Nothing
nothing-fits Any = refl
nothing-fits Nothing = refl
nothing-fits Undefined = refl
nothing-fits Boolean = refl
nothing-fits Char = refl
nothing-fits Byte = refl
nothing-fits Short = refl
nothing-fits Int = refl
nothing-fits Long = refl
nothing-fits String = refl
nothing-fits (Class c) = refl
nothing-fits Null = refl
nothing-fits (Array r) = refl
nothing-fits NoType = refl

implied : (a b : Bool) → (a ≡ true → b ≡ true) → (not a || b) ≡ true
implied true b h = h refl
implied false b h = refl

-- a type of which more than itself and nothing are subtypes
open_fits : (t own : IrType) → is_lowest t ≡ false → NoBox t own → (is_bare t ≡ true → is_bare own ≡ true) → ((r : ArrayRef) → t ≡ Array r → Fits t own) → ((q : ArrayRef) → own ≡ Array q → Fits t own) → Fits t own
open_fits Nothing own h n b a k = impossible (sym h)
open_fits Undefined own h n b a k = impossible (sym h)
open_fits Boolean own h n b a k = impossible (sym h)
open_fits Char own h n b a k = impossible (sym h)
open_fits Byte own h n b a k = impossible (sym h)
open_fits Short own h n b a k = impossible (sym h)
open_fits Int own h n b a k = impossible (sym h)
open_fits Long own h n b a k = impossible (sym h)
open_fits String own h n b a k = impossible (sym h)
open_fits Null own h n b a k = impossible (sym h)
open_fits NoType own h n b a k = impossible (sym h)
open_fits t Nothing h n b a k = nothing-fits t
open_fits (Array r) own h n b a k = a r refl
open_fits t (Array q) h n b a k = k q refl
open_fits Any Char h n b a k = impossible (sym n)
open_fits Any own h n b a k = refl
open_fits (Class c) Char h n b a k = impossible (sym n)
open_fits (Class c) own h n b a k = implied (is_bare (Class c)) (is_bare own) b

-- what joins to a text is of such a type
pub text_joined : (t : IrType) → IsText t → is_joined t ≡ true
text_joined Any h = absurd h
text_joined NoType h = absurd h
text_joined (Array r) h = absurd h
text_joined (Class c) h = subst (λ (n : List ℕ). is_same_text n (codes "java.lang.String") ≡ true) (sym h) (text-refl (codes "java.lang.String"))
text_joined _ h = refl

pub true-or-none : (c : Term) → (loop_type c ≡ NoType) ⊎ IsTrueLiteral c
true-or-none (boolean_literal p true) = inr (true_literal p)
true-or-none (boolean_literal p false) = inl refl
true-or-none _ = inl refl

-- arrays stand at any, and at types of arrays as these tell
array-fits : (t : IrType) (q : ArrayRef) → ((r : ArrayRef) → t ≡ Array r → Fits t (Array q)) → (t ≡ Any) ⊎ (is_array_type t ≡ true) → Fits t (Array q)
array-fits t q at (inl e) = subst (λ (u : IrType). Fits u (Array q)) (sym e) refl
array-fits (Array r) q at (inr h) = at r refl
array-fits _ q at (inr h) = impossible h

module _ (w : Classes) (law : IsSubtyping (IsSub w)) where
  -- a tree of the one type stands where the other is expected
  pub fits-sub : (t own : IrType) → IsSub w own t → NoBox t own → Fits t own
  fits-sub t own f n = go (is_lowest t) refl
    where
      go : (b : Bool) → is_lowest t ≡ b → Fits t own
      go true e = ⊎_elim (λ i. subst (Fits t) (sym i) (fits-same t)) (λ i. subst (Fits t) (sym i) (nothing-fits t)) (law.lowest own t e f)
      go false e = open_fits t own e n (λ b. law.bare own t b f) at (λ q i. subst (Fits t) (sym i) (array-fits t q (λ r j. subst (Fits t) i (at r j)) (law.above_arrays q t (subst (λ (u : IrType). IsSub w u t) i f))))
        where
          at : (r : ArrayRef) → t ≡ Array r → Fits t own
          at r i = subst (λ (u : IrType). Fits u own) (sym i) (law.arrays own r (subst (IsSub w own) i f))

  -- of the types that are lowest no char is one but char
  lowest-box : (t own : IrType) → is_lowest t ≡ true → IsSub w own t → NoBox t own
  lowest-box t own h f = ⊎_elim (λ i. subst (NoBox t) (sym i) (box-same (is_char t))) (λ i. subst (NoBox t) (sym i) refl) (law.lowest own t h f)

  pub fits-lowest : (t own : IrType) → is_lowest t ≡ true → IsSub w own t → Fits t own
  fits-lowest t own h f = fits-sub t own f (lowest-box t own h f)

  unary_lowest : (o : UnaryOp) → is_lowest (unary_operand o) ≡ true
  unary_lowest BooleanNot = refl
  unary_lowest _ = refl

  pub fits-unary : (o : UnaryOp) (own : IrType) → IsSub w own (unary_operand o) → Fits (unary_operand o) own
  fits-unary o own f = fits-sub (unary_operand o) own f (lowest-box (unary_operand o) own (unary_lowest o) f)

  left_lowest : (o : BinaryOp) → is_simple o ≡ true → is_lowest (left_operand o) ≡ true
  left_lowest StrictEqual h = impossible h
  left_lowest StrictNotEqual h = impossible h
  left_lowest StringConcatenate h = impossible h
  left_lowest _ h = refl

  right_lowest : (o : BinaryOp) → is_simple o ≡ true → is_lowest (right_operand o) ≡ true
  right_lowest StrictEqual h = impossible h
  right_lowest StrictNotEqual h = impossible h
  right_lowest StringConcatenate h = impossible h
  right_lowest _ h = refl

  division_lowest : (o : BinaryOp) (d : Term) → DividesBy o d → is_lowest (left_operand o) ≡ true
  division_lowest _ _ (by_int _ a_quotient p n f ne) = refl
  division_lowest _ _ (by_int _ a_remainder p n f ne) = refl
  division_lowest _ _ (by_long _ a_long_quotient p n f ne) = refl
  division_lowest _ _ (by_long _ a_long_remainder p n f ne) = refl

  pub fits-dividend : (o : BinaryOp) (d : Term) (own : IrType) → DividesBy o d → IsSub w own (left_operand o) → Fits (left_operand o) own
  fits-dividend o d own by f = fits-sub (left_operand o) own f (lowest-box (left_operand o) own (division_lowest o d by) f)

  divided_lowest : (has : Usable) (o : BinaryOp) → divides has o ≡ true → (is_lowest (left_operand o) ≡ true) × (is_lowest (right_operand o) ≡ true)
  divided_lowest has IntDivide h = (refl, refl)
  divided_lowest has IntRemainder h = (refl, refl)
  divided_lowest has LongDivide h = (refl, refl)
  divided_lowest has LongRemainder h = (refl, refl)
  divided_lowest has _ h = impossible h

  identity_stands : (has : Usable) (o : BinaryOp) (e d : Term) → IsIdentity o → may_make has (operands_are_boxed o e d) ≡ true → MayStand has Any (type_of_term e) × MayStand has Any (type_of_term d)
  identity_stands has _ e d a_sameness boxed = each_made has (is_boxed Any e) (is_boxed Any d) boxed
  identity_stands has _ e d a_difference boxed = each_made has (is_boxed Any e) (is_boxed Any d) boxed

  pub operates : (has : Usable) (o : BinaryOp) (e d : Term) → may_make has (operands_are_boxed o e d) ≡ true → Takes w has o e d → Operates has o (type_of_term e) (type_of_term d)
  operates has o e d boxed (its_types h f g) = of_its_types o (type_of_term e) (type_of_term d) h (fits-sub (left_operand o) (type_of_term e) f (lowest-box (left_operand o) (type_of_term e) (left_lowest o h) f)) (fits-sub (right_operand o) (type_of_term d) g (lowest-box (right_operand o) (type_of_term d) (right_lowest o h) g))
  operates has o e d boxed (of_identity i h f g) = let own = identity_stands has o e d i boxed in compared o (type_of_term e) (type_of_term d) i h own.0 own.1
  operates has o e d boxed (of_division h f g) = let own = divided_lowest has o h in divided o (type_of_term e) (type_of_term d) h (fits-sub (left_operand o) (type_of_term e) f (lowest-box (left_operand o) (type_of_term e) own.0 f)) (fits-sub (right_operand o) (type_of_term d) g (lowest-box (right_operand o) (type_of_term d) own.1 g))
  operates has o e d boxed (texts is f g) = subst (λ p. Operates has p (type_of_term e) (type_of_term d)) (sym is) (joins (type_of_term e) (type_of_term d) (text_joined (type_of_term e) f) (text_joined (type_of_term d) g))
