-- What the rules of trees give where a char stands in place of another type only if an object can hold it.
use Rattle.std.proofs.Common.{◌≡◌, ℕ, Bool, true, false, List, [], ◌∷◌, codes, Option, Some, None, refl, sym, ◌∙◌, subst, inl, inr, if◌then◌else◌}
use Rattle.std.specs.Prelude.{◌⊎◌, ◌≢◌, ◌||◌, ℤ, pos, not, nat_eq}
use Rattle.std.specs.Cmp.Lexicographic.{pointwise}
use Rattle.std.specs.Ordering.{int_eq}
use Rattle.agree_body_forms.specs.Boxes.{is_boxed, any_is_boxed}
use Rattle.agree_body_forms.specs.Built.{Usable, can_box, may_make, is_nonzero_int, is_nonzero_long, divides, compares, is_operation, members_alone}
use Rattle.sj_emit_expr_spec.specs.Desugar.{has_no_value}
use Rattle.sj_names.proofs.Same.{impossible}
use Rattle.sj_names.specs.declared.method_names.Member.{Member}
use Rattle.sj_names.specs.declared.references.TypeRef.{TypeRef}
use Rattle.agree_body_rules.specs.Operators.{is_simple, IsDivision, a_quotient, a_remainder, IsLongDivision, a_long_quotient, a_long_remainder, DividesBy, by_int, by_long, IsIdentity, a_sameness, a_difference}
use Rattle.agree_body_forms.specs.Rules.{left_operand, right_operand, call_type, IsText, OperandsFit}
use Rattle.agree_body_rules.specs.Standing.{MayStand}
use Rattle.agree_body_rules.specs.Typing.{Scene, IsResult, AllHaveValues, Typed}
use Rattle.agree_body_rules.specs.Locals.{HasValue}
use Rattle.sj_trees.specs.Term.{Term, Terms, no_terms, more_terms, int_literal, long_literal}
use Rattle.sj_trees.specs.TypeOf.{type_of_term}
use Rattle.sj_trees.specs.Types.{class_type, reference_type}
use Rattle.sj_trees.specs.declared.operators.BinaryOp.{BinaryOp}
use Rattle.sj_trees.specs.declared.operators.BinaryOp.TheVariants.{StrictEqual, StrictNotEqual, StringConcatenate, IntDivide, IntRemainder, LongDivide, LongRemainder}
use Rattle.sj_trees.specs.declared.types.IrType.{IrType}
use Rattle.sj_trees.specs.declared.types.IrType.TheVariants.{Any}
use Rattle.sj_emit_expr_spec.specs.Known.{Classes}
use Rattle.sj_emit_expr_spec.specs.Subtypes.{IsSub}
use Rattle.agree_body_forms.specs.Rules as rules

-- the operands of an operator: of its own types, texts that are joined, those of a division whose helper can be used, or of any type where identity can be asked
pub data Takes (w : Classes) (has : Usable) (o : BinaryOp) (e d : Term) : Type 0 where
  its_types : is_simple o ≡ true → IsSub w (type_of_term e) (left_operand o) → IsSub w (type_of_term d) (right_operand o) → Takes w has o e d
  texts : o ≡ StringConcatenate → IsText (type_of_term e) → IsText (type_of_term d) → Takes w has o e d
  of_division : divides has o ≡ true → IsSub w (type_of_term e) (left_operand o) → IsSub w (type_of_term d) (right_operand o) → Takes w has o e d
  of_identity : IsIdentity o → compares has ≡ true → IsSub w (type_of_term e) (left_operand o) → IsSub w (type_of_term d) (right_operand o) → Takes w has o e d

pub when_not : (b : Bool) → not b ≡ true → b ≡ false
when_not true h = impossible h
when_not false h = refl

pub neither : (a b : Bool) → not (a || b) ≡ true → (not a ≡ true) × (not b ≡ true)
neither true b h = impossible h
neither false b h = (refl, h)

not_zero : (z : ℤ) → not (int_eq z (pos 0)) ≡ true → z ≢ pos 0
not_zero z h e = let none : not (int_eq (pos 0) (pos 0)) ≡ true = subst (λ (y : ℤ). not (int_eq y (pos 0)) ≡ true) e h in impossible none

pub class_has_value : (c : List ℕ) → has_no_value (class_type c) ≡ false
class_has_value c = go (pointwise nat_eq c (codes "java.lang.Object"))
  where
    go : (b : Bool) → has_no_value (if b then IrType.Any else IrType.Class c) ≡ false
    go true = refl
    go false = refl

result_value : (o : Option TypeRef) → IsResult (call_type o)
result_value None = inr refl
result_value (Some TypeRef.Void) = inl refl
result_value (Some (TypeRef.Class c)) = inr (class_has_value c)
result_value (Some TypeRef.Boolean) = inr refl
result_value (Some TypeRef.Char) = inr refl
result_value (Some TypeRef.Byte) = inr refl
result_value (Some TypeRef.Short) = inr refl
result_value (Some TypeRef.Int) = inr refl
result_value (Some TypeRef.Long) = inr refl
result_value (Some (TypeRef.Array r)) = inr refl

-- a result by the type that its call has
pub result_is : (o : Option TypeRef) (t : IrType) → t ≡ call_type o → IsResult t
result_is o t is = subst IsResult (sym is) (result_value o)

-- where objects can be made or neither part makes one, neither does
pub each_made : (has : Usable) (x y : Bool) → may_make has (x || y) ≡ true → (may_make has x ≡ true) × (may_make has y ≡ true)
each_made has x y h = go (can_box has) h
  where
    go : (b : Bool) → (b || not (x || y)) ≡ true → ((b || not x) ≡ true) × ((b || not y) ≡ true)
    go true k = (refl, refl)
    go false k = neither x y k

-- where no helper can be used, no division has one
pub no_division : {A : Type 0} (has : Usable) → ((x : List ℕ) → has.helper x ≡ false) → (o : BinaryOp) → divides has o ≡ true → A
no_division has none IntDivide h = impossible (sym (none (codes "$id")) ∙ h)
no_division has none IntRemainder h = impossible (sym (none (codes "$im")) ∙ h)
no_division has none LongDivide h = impossible (sym (none (codes "$ld")) ∙ h)
no_division has none LongRemainder h = impossible (sym (none (codes "$lm")) ∙ h)
no_division has none _ h = impossible h

or_true : (a b : Bool) → b ≡ true → (a || b) ≡ true
or_true true b h = refl
or_true false b h = h

-- what is an operator for code that uses static members alone is one for other code
pub operation_kept : (linked : Member → Bool) (has : Usable) (o : BinaryOp) (d : Term) → is_operation (members_alone linked) o d ≡ true → is_operation has o d ≡ true
operation_kept linked has StrictEqual d h = impossible h
operation_kept linked has StrictNotEqual d h = impossible h
operation_kept linked has IntDivide d h = or_true (has.helper (codes "$id")) (is_nonzero_int d) h
operation_kept linked has IntRemainder d h = or_true (has.helper (codes "$im")) (is_nonzero_int d) h
operation_kept linked has LongDivide d h = or_true (has.helper (codes "$ld")) (is_nonzero_long d) h
operation_kept linked has LongRemainder d h = or_true (has.helper (codes "$lm")) (is_nonzero_long d) h
operation_kept linked has _ d h = refl

module _ (w : Classes) (has : Usable) where
  -- the tree stands where the type is expected, as an object that holds a char where it has to
  abbrev pub FitsType : Term → IrType → Type 0
  FitsType e t = IsSub w (type_of_term e) t × MayStand has t (type_of_term e)

  -- arguments are as many as the parameters, of which each has a value, and fit their types
  abbrev pub ArgumentsFit : Terms → List TypeRef → Type 0
  ArgumentsFit no_terms [] = Unit {0}
  ArgumentsFit (more_terms e es) (r ∷ rs) = FitsType e (reference_type r) × HasValue (reference_type r) × ArgumentsFit es rs
  ArgumentsFit _ _ = ⊥

  pub fits_there : (e : Term) (t : IrType) → may_make has (is_boxed t e) ≡ true → IsSub w (type_of_term e) t → FitsType e t
  fits_there e t may fits = (fits, may)

  pub arguments_there : (es : Terms) (rs : List TypeRef) → may_make has (any_is_boxed rs es) ≡ true → AllHaveValues rs → rules.ArgumentsFit w es rs → ArgumentsFit es rs
  arguments_there no_terms [] may values fits = tt
  arguments_there no_terms (r ∷ rs) may values fits = absurd fits
  arguments_there (more_terms e es) [] may values fits = absurd fits
  arguments_there (more_terms e es) (r ∷ rs) may values fits = let own = each_made has (is_boxed (reference_type r) e) (any_is_boxed rs es) may in (fits_there e (reference_type r) own.0 fits.0, values.0, arguments_there es rs own.1 values.1 fits.1)

  module _ (s : Scene) where
    int_divisor : (o : BinaryOp) (d : Term) → IsDivision o → is_nonzero_int d ≡ true → Typed w has s d → DividesBy o d
    int_divisor o (int_literal p z) i h typed = by_int o i p z typed.finds (not_zero z h)
    int_divisor o _ i h typed = impossible h

    long_divisor : (o : BinaryOp) (d : Term) → IsLongDivision o → is_nonzero_long d ≡ true → Typed w has s d → DividesBy o d
    long_divisor o (long_literal p z) i h typed = by_long o i p z typed.finds (not_zero z h)
    long_divisor o _ i h typed = impossible h

    abbrev Operated : BinaryOp → Term → Term → Type 0
    Operated o a b = Takes w has o a b ⊎ (DividesBy o b × IsSub w (type_of_term a) (left_operand o))

    -- a division, by whether its helper can be used
    by_helper : (o : BinaryOp) (a b : Term) (literal : Bool) → (divides has o || literal) ≡ true → (literal ≡ true → DividesBy o b) → IsSub w (type_of_term a) (left_operand o) → IsSub w (type_of_term b) (right_operand o) → Operated o a b
    by_helper o a b literal h by f g = go (divides has o) refl h
      where
        go : (q : Bool) → divides has o ≡ q → (q || literal) ≡ true → Operated o a b
        go true e k = inl (of_division e f g)
        go false e k = inr (by k, f)

    -- operands of an operator that is built: of its types, joined, those of a division or of identity, or a dividend in front of a literal
    pub operation : (o : BinaryOp) (a b : Term) → is_operation has o b ≡ true → Typed w has s b → OperandsFit w o a b → Operated o a b
    operation StrictEqual a b h typed fits = inl (of_identity a_sameness h fits.0 fits.1)
    operation StrictNotEqual a b h typed fits = inl (of_identity a_difference h fits.0 fits.1)
    operation IntDivide a b h typed fits = by_helper IntDivide a b (is_nonzero_int b) h (λ k. int_divisor IntDivide b a_quotient k typed) fits.0 fits.1
    operation IntRemainder a b h typed fits = by_helper IntRemainder a b (is_nonzero_int b) h (λ k. int_divisor IntRemainder b a_remainder k typed) fits.0 fits.1
    operation LongDivide a b h typed fits = by_helper LongDivide a b (is_nonzero_long b) h (λ k. long_divisor LongDivide b a_long_quotient k typed) fits.0 fits.1
    operation LongRemainder a b h typed fits = by_helper LongRemainder a b (is_nonzero_long b) h (λ k. long_divisor LongRemainder b a_long_remainder k typed) fits.0 fits.1
    operation StringConcatenate a b h typed fits = inl (texts refl fits.0 fits.1)
    operation _ a b h typed fits = inl (its_types refl fits.0 fits.1)
