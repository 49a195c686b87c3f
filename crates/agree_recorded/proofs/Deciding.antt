-- The rules of bodies by computing: where the test of a tree is true, it keeps them.
use Rattle.std.proofs.Common.{◌≡◌, ◌⊎◌, ◌<◌, ◌^◌, ℕ, Bool, true, false, ◌&&◌, ◌||◌, not, List, [], ◌∷◌, Option, Some, None, codes, refl, sym, subst, inl, inr, ⊎_elim, arith}
use Rattle.std.specs.Prelude.{ℤ, pos, negsuc, nat_lt, FitsSigned}
use Rattle.std.specs.Int.{w32, w64}
use Rattle.std.proofs.lemmas.Bool.{and_parts}
use Rattle.agree_body_forms.specs.Built.{Usable, stands}
use Rattle.sj_desugar_spec.specs.Desugar.{has_no_value}
use Rattle.sj_names.proofs.Same.{impossible, text-same}
use Rattle.sj_names.specs.Same.{is_same_text}
use Rattle.sj_names.specs.declared.method_names.Namespace.{Namespace}
use Rattle.sj_names.specs.declared.method_names.Namespace.TheVariants.{PublicStatic, PrivateStatic}
use Rattle.sj_names.specs.declared.references.TypeRef.{TypeRef}
use Rattle.agree_body_rules.specs.Locals.{Own}
use Rattle.agree_body_rules.specs.Typing.{Scene, IsResult, AllHaveValues, IsLocal, IsVariable, Defines, behind, in_label, Finds, Here, Typed, TypedBlock, TypedAll, TypedCases, may_check}
use Rattle.agree_body_rules.specs.Locals.{local_of}
use Rattle.agree_early_errors.specs.Once.{Once, OnceAll, OnceCases}
use Rattle.sj_trees.proofs.SameTypes.{type-same}
use Rattle.sj_trees.specs.SameTypes.{is_same_type}
use Rattle.sj_trees.specs.Term.{Term, Terms, no_terms, more_terms, Cases, no_cases, more_cases, var_def, skip, block_of, labeled, assign, return_to, if_then, while_loop, do_while, try_catch, try_finally, match_on, throw, new_object, store_module, select, select_static, apply_statically, this_ref, apply_static, unary_op, binary_op, is_instance_of, as_instance_of, undefined_literal, null_literal, boolean_literal, char_literal, byte_literal, short_literal, int_literal, long_literal, string_literal, var_ref, log_line, apply, new_array, array_value, array_length, array_select}
use Rattle.sj_trees.specs.TypeOf.{type_of_term}
use Rattle.sj_trees.specs.Types.{reference_type}
use Rattle.sj_trees.specs.declared.classes.ParamDef.{ParamDef}
use Rattle.sj_trees.specs.declared.operators.BinaryOp.{BinaryOp}
use Rattle.sj_trees.specs.declared.operators.BinaryOp.TheVariants.{StringConcatenate}
use Rattle.sj_trees.specs.declared.types.IrType.{IrType}
use Rattle.sj_trees.specs.declared.types.IrType.TheVariants.{Any, Nothing, Boolean, Int, String, Class, Array, NoType}
use Rattle.sj_world.specs.Known.{Classes}
use Rattle.sj_world.specs.Subtypes.{IsSub, equal, from_nothing, to_any}
use Rattle.sj_typing_spec.specs.declared.labels.Label.{Label}
use Rattle.sj_typing_spec.specs.Labels.{type_of_label}
use Rattle.sj_typing_spec.specs.Rules.{call_type, unary_operand, left_operand, right_operand, IsText, IsStatic, ArgumentsFit, OperandsFit, CasesYield, ReturnsTo, Yields, nothing_wanted, fitting, Meets}

either : (a b : Bool) → (a || b) ≡ true → (a ≡ true) ⊎ (b ≡ true)
either true b h = inl refl
either false b h = inr h

pub when_not : (b : Bool) → not b ≡ true → b ≡ false
when_not true h = impossible h
when_not false h = refl

abbrev pub is_none : IrType → Bool
is_none NoType = true
is_none _ = false

abbrev is_nothing : IrType → Bool
is_nothing Nothing = true
is_nothing _ = false

abbrev is_any : IrType → Bool
is_any Any = true
is_any _ = false

-- a type is the same as another, or nothing, or the other is any
abbrev is_below : IrType → IrType → Bool
is_below s t = is_same_type s t || (is_nothing s || (is_any t && not (is_none s)))

abbrev pub yields_there : Term → IrType → Bool
yields_there e t = is_none t || is_below (type_of_term e) t

abbrev leaves_there : Option IrType → Term → Bool
leaves_there None e = false
leaves_there (Some t) e = yields_there e t

abbrev arguments_fit : Terms → List TypeRef → Bool
arguments_fit no_terms [] = true
arguments_fit (more_terms e es) (r ∷ rs) = is_below (type_of_term e) (reference_type r) && arguments_fit es rs
arguments_fit _ _ = false

abbrev cases_yield : Cases → IrType → Bool
cases_yield no_cases t = true
cases_yield (more_cases ks e cs) t = yields_there e t && cases_yield cs t

abbrev is_text : IrType → Bool
is_text Any = false
is_text NoType = false
is_text (Array r) = false
is_text (Class c) = is_same_text c (codes "java.lang.String")
is_text _ = true

abbrev operands_fit : BinaryOp → Term → Term → Bool
operands_fit StringConcatenate a b = is_text (type_of_term a) && is_text (type_of_term b)
operands_fit o a b = is_below (type_of_term a) (left_operand o) && is_below (type_of_term b) (right_operand o)

abbrev is_static : Namespace → Bool
is_static PublicStatic = true
is_static PrivateStatic = true
is_static _ = false

-- the rule of the form, for the forms that are built
abbrev is_met : List Label → Term → Bool
is_met ls (var_def p x t b e) = is_below (type_of_term e) t
is_met ls (skip p) = true
is_met ls (labeled p l t e) = yields_there e t
is_met ls (assign p (var_ref q x t) e) = is_below (type_of_term e) t
is_met ls (return_to p e l) = leaves_there (type_of_label ls l) e
is_met ls (if_then p c a b t) = is_below (type_of_term c) Boolean && (yields_there a t && yields_there b t)
is_met ls (while_loop p c b) = is_below (type_of_term c) Boolean
is_met ls (do_while p b c) = is_below (type_of_term c) Boolean
is_met ls (match_on p e cs d t) = is_below (type_of_term e) Int && (cases_yield cs t && yields_there d t)
is_met ls (apply_static p c n m ts t) = is_static n && (is_same_type t (call_type m.result) && arguments_fit ts m.params)
is_met ls (unary_op p o e) = is_below (type_of_term e) (unary_operand o)
is_met ls (binary_op p o a b) = operands_fit o a b
is_met ls (undefined_literal p) = true
is_met ls (null_literal p) = true
is_met ls (boolean_literal p b) = true
is_met ls (char_literal p u) = true
is_met ls (byte_literal p z) = true
is_met ls (short_literal p z) = true
is_met ls (int_literal p z) = true
is_met ls (long_literal p z) = true
is_met ls (string_literal p us) = true
is_met ls (var_ref p x t) = true
is_met ls (log_line p e) = is_below (type_of_term e) String
is_met ls _ = false

abbrev has_bits : ℕ → ℤ → Bool
has_bits limit (pos n) = nat_lt n limit
has_bits limit (negsuc n) = nat_lt n limit

abbrev all_have_values : List TypeRef → Bool
all_have_values [] = true
all_have_values (r ∷ rs) = not (has_no_value (reference_type r)) && all_have_values rs

abbrev is_local : Option ParamDef → IrType → Bool
is_local None t = false
is_local (Some d) t = is_same_type d.tpe t

abbrev is_variable : Option ParamDef → IrType → Bool
is_variable None t = false
is_variable (Some d) t = is_same_type d.tpe t && d.«mutable»

-- what a tree asks of its surroundings, but that it defines no local twice
abbrev is_found : Scene → Term → Bool
is_found s (var_def p x t b e) = not (has_no_value t)
is_found s (assign p (var_ref q x t) e) = is_variable (local_of s.locals x) t
is_found s (new_object p c m ts) = false
is_found s (apply p e m ts t) = false
is_found s (apply_statically p e c n m ts t) = false
is_found s (this_ref p t) = false
is_found s (assign p (array_select q d i t) e) = false
is_found s (new_array p r e) = false
is_found s (array_value p r ts) = false
is_found s (array_select p e i t) = false
is_found s (is_instance_of p e t) = false
is_found s (as_instance_of p e t) = false
is_found s (apply_static p c n m ts t) = all_have_values m.params
is_found s (char_literal p u) = nat_lt u (2 ^ 16)
is_found s (byte_literal p z) = has_bits (2 ^ 31) z
is_found s (short_literal p z) = has_bits (2 ^ 31) z
is_found s (int_literal p z) = has_bits (2 ^ 31) z
is_found s (long_literal p z) = has_bits (2 ^ 63) z
is_found s (var_ref p x t) = is_local (local_of s.locals x) t
is_found s _ = true

module _ (has : Usable) where
  abbrev is_here : Scene → Term → Bool
  is_here s t = is_met s.labels t && (stands has (may_check has s.sure) t && is_found s t)

  abbrev mutual
    pub is_typed : Scene → Term → Bool
    is_typed s (var_def p x t b e) = is_here s (var_def p x t b e) && is_typed s e
    is_typed s (block_of p ts) = is_typed_block s ts
    is_typed s (labeled p l t e) = is_here s (labeled p l t e) && is_typed (in_label l t s) e
    is_typed s (assign p (var_ref q x t) e) = is_here s (assign p (var_ref q x t) e) && is_typed s e
    is_typed s (return_to p e l) = is_here s (return_to p e l) && is_typed s e
    is_typed s (if_then p c a b t) = is_here s (if_then p c a b t) && (is_typed s c && (is_typed s a && is_typed s b))
    is_typed s (while_loop p c b) = is_here s (while_loop p c b) && (is_typed s c && is_typed s b)
    is_typed s (do_while p b c) = is_here s (do_while p b c) && (is_typed s b && is_typed s c)
    is_typed s (match_on p e cs d t) = is_here s (match_on p e cs d t) && (is_typed s e && (are_typed_cases s t cs && is_typed s d))
    is_typed s (apply_static p c n m ts t) = is_here s (apply_static p c n m ts t) && are_typed s ts
    is_typed s (unary_op p o e) = is_here s (unary_op p o e) && is_typed s e
    is_typed s (binary_op p o e d) = is_here s (binary_op p o e d) && (is_typed s e && is_typed s d)
    is_typed s (log_line p e) = is_here s (log_line p e) && is_typed s e
    is_typed s t = is_here s t

    pub is_typed_block : Scene → Terms → Bool
    is_typed_block s no_terms = false
    is_typed_block s (more_terms t no_terms) = is_typed s t
    is_typed_block s (more_terms t (more_terms u us)) = is_typed s t && is_typed_block (behind t s) (more_terms u us)

    pub are_typed : Scene → Terms → Bool
    are_typed s no_terms = true
    are_typed s (more_terms t ts) = is_typed s t && are_typed s ts

    pub are_typed_cases : Scene → IrType → Cases → Bool
    are_typed_cases s t no_cases = true
    are_typed_cases s t (more_cases [] e cs) = are_typed_cases s t cs
    are_typed_cases s t (more_cases (n ∷ ns) e cs) = yields_there e t && (is_typed s e && are_typed_cases s t cs)

-- ---- what the tests tell

none_is : (t : IrType) → is_none t ≡ true → t ≡ NoType
none_is NoType h = refl
none_is t h = impossible h

nothing_is : (t : IrType) → is_nothing t ≡ true → t ≡ Nothing
nothing_is Nothing h = refl
nothing_is t h = impossible h

any_is : (t : IrType) → is_any t ≡ true → t ≡ Any
any_is Any h = refl
any_is t h = impossible h

not_none : (t : IrType) → not (is_none t) ≡ true → t ≡ NoType → ⊥
not_none t h e = let none : not (is_none NoType) ≡ true = subst (λ (u : IrType). not (is_none u) ≡ true) e h in impossible none

text_is : (t : IrType) → is_text t ≡ true → IsText t
text_is Any h = impossible h
text_is NoType h = impossible h
text_is (Array r) h = impossible h
text_is (Class c) h = text-same c (codes "java.lang.String") h
text_is t h = tt

static_is : (n : Namespace) → is_static n ≡ true → IsStatic n
static_is PublicStatic h = tt
static_is PrivateStatic h = tt
static_is n h = impossible h

ints : (z : ℤ) → has_bits (2 ^ 31) z ≡ true → FitsSigned w32 z
ints (pos n) h = let small : nat_lt n (2 ^ 31) ≡ true = h in let below : n < 2 ^ 31 = grind arith in record { sfits = below }
ints (negsuc n) h = let small : nat_lt n (2 ^ 31) ≡ true = h in let below : n < 2 ^ 31 = grind arith in record { sfits = below }

longs : (z : ℤ) → has_bits (2 ^ 63) z ≡ true → FitsSigned w64 z
longs (pos n) h = let small : nat_lt n (2 ^ 63) ≡ true = h in let below : n < 2 ^ 63 = grind arith in record { sfits = below }
longs (negsuc n) h = let small : nat_lt n (2 ^ 63) ≡ true = h in let below : n < 2 ^ 63 = grind arith in record { sfits = below }

units : (u : ℕ) → nat_lt u (2 ^ 16) ≡ true → u < 2 ^ 16
units u h = grind arith

pub result_is : (t : IrType) → (is_none t || not (has_no_value t)) ≡ true → IsResult t
result_is t h = ⊎_elim (λ k. inl (none_is t k)) (λ k. inr (when_not (has_no_value t) k)) (either (is_none t) (not (has_no_value t)) h)

values_are : (rs : List TypeRef) → all_have_values rs ≡ true → AllHaveValues rs
values_are [] h = tt
values_are (r ∷ rs) h = let k = and_parts (not (has_no_value (reference_type r))) (all_have_values rs) h in (when_not (has_no_value (reference_type r)) k.0, values_are rs k.1)

local_is : (s : Scene) (x : List ℕ) (t : IrType) (o : Option ParamDef) → local_of s.locals x ≡ o → is_local o t ≡ true → IsLocal s x t
local_is s x t None e h = impossible h
local_is s x t (Some d) e h = record { local = d; is = e; type_is = type-same d.tpe t h }

variable_is : (s : Scene) (x : List ℕ) (t : IrType) (o : Option ParamDef) → local_of s.locals x ≡ o → is_variable o t ≡ true → IsVariable s x t
variable_is s x t None e h = impossible h
variable_is s x t (Some d) e h = let k = and_parts (is_same_type d.tpe t) d.«mutable» h in record { local = d; is = e; type_is = type-same d.tpe t k.0; «mutable» = k.1 }

found : (around : List (List ℕ)) (s : Scene) (t : Term) → Once around t → is_found s t ≡ true → Finds s t
found around s (var_def p x t b e) o h = (when_not (has_no_value t) h, o.0)
found around s (assign p (var_ref q x t) e) o h = variable_is s x t (local_of s.locals x) refl h
found around s (try_catch p e x d t) o h = o.1
found around s (new_object p c m ts) o h = impossible h
found around s (apply p e m ts t) o h = impossible h
found around s (apply_statically p e c n m ts t) o h = impossible h
found around s (this_ref p t) o h = impossible h
found around s (assign p (array_select q d i t) e) o h = impossible h
found around s (new_array p r e) o h = impossible h
found around s (array_value p r ts) o h = impossible h
found around s (array_select p e i t) o h = impossible h
found around s (is_instance_of p e t) o h = impossible h
found around s (as_instance_of p e t) o h = impossible h
found around s (apply_static p c n m ts t) o h = values_are m.params h
found around s (char_literal p u) o h = units u h
found around s (byte_literal p z) o h = ints z h
found around s (short_literal p z) o h = ints z h
found around s (int_literal p z) o h = ints z h
found around s (long_literal p z) o h = longs z h
found around s (var_ref p x t) o h = local_is s x t (local_of s.locals x) refl h
found around s _ o h = tt

-- what a statement of a block defines it declares
defined : (t : Term) (x : List ℕ) → Defines t x → Own t x
defined (var_def p y t b e) x d = inl d
defined _ x d = absurd d

module _ (w : Classes) (has : Usable) where
  below : (s t : IrType) → is_below s t ≡ true → IsSub w s t
  below s t h =
      ⊎_elim
      (λ same. equal (type-same s t same))
      (λ k. ⊎_elim
      (λ none. from_nothing (nothing_is s none))
      (λ all. let p = and_parts (is_any t) (not (is_none s)) all in to_any (any_is t p.0) (not_none s p.1))
      (either (is_nothing s) (is_any t && not (is_none s)) k))
      (either (is_same_type s t) (is_nothing s || (is_any t && not (is_none s))) h)

  pub yields_type : (e : Term) (t : IrType) → yields_there e t ≡ true → Yields w e t
  yields_type e t h = ⊎_elim (λ k. nothing_wanted (none_is t k)) (λ k. fitting (below (type_of_term e) t k)) (either (is_none t) (is_below (type_of_term e) t) h)

  returns : (ls : List Label) (l : List ℕ) (e : Term) (o : Option IrType) → o ≡ type_of_label ls l → leaves_there o e ≡ true → ReturnsTo w ls l e
  returns ls l e None is h = impossible h
  returns ls l e (Some t) is h = record { tpe = t; is_type = sym is; yields = yields_type e t h }

  arguments : (es : Terms) (rs : List TypeRef) → arguments_fit es rs ≡ true → ArgumentsFit w es rs
  arguments no_terms [] h = tt
  arguments no_terms (r ∷ rs) h = impossible h
  arguments (more_terms e es) [] h = impossible h
  arguments (more_terms e es) (r ∷ rs) h = let p = and_parts (is_below (type_of_term e) (reference_type r)) (arguments_fit es rs) h in (below (type_of_term e) (reference_type r) p.0, arguments es rs p.1)

  all_yield : (cs : Cases) (t : IrType) → cases_yield cs t ≡ true → CasesYield w cs t
  all_yield no_cases t h = tt
  all_yield (more_cases ks e cs) t h = let p = and_parts (yields_there e t) (cases_yield cs t) h in (yields_type e t p.0, all_yield cs t p.1)

  operands : (o : BinaryOp) (a b : Term) → operands_fit o a b ≡ true → OperandsFit w o a b
  operands StringConcatenate a b h = let p = and_parts (is_text (type_of_term a)) (is_text (type_of_term b)) h in (text_is (type_of_term a) p.0, text_is (type_of_term b) p.1)
  operands o a b h = let p = and_parts (is_below (type_of_term a) (left_operand o)) (is_below (type_of_term b) (right_operand o)) h in (below (type_of_term a) (left_operand o) p.0, below (type_of_term b) (right_operand o) p.1)

  met : (space : Namespace) (ls : List Label) (t : Term) → is_met ls t ≡ true → Meets w space ls t
  met space ls (var_def p x t b e) h = below (type_of_term e) t h
  met space ls (skip p) h = tt
  met space ls (labeled p l t e) h = yields_type e t h
  met space ls (assign p (var_ref q x t) e) h = (tt, below (type_of_term e) t h)
  met space ls (return_to p e l) h = returns ls l e (type_of_label ls l) refl h
  met space ls (if_then p c a b t) h = let k = and_parts (is_below (type_of_term c) Boolean) (yields_there a t && yields_there b t) h in let both = and_parts (yields_there a t) (yields_there b t) k.1 in (below (type_of_term c) Boolean k.0, yields_type a t both.0, yields_type b t both.1)
  met space ls (while_loop p c b) h = below (type_of_term c) Boolean h
  met space ls (do_while p b c) h = below (type_of_term c) Boolean h
  met space ls (match_on p e cs d t) h = let k = and_parts (is_below (type_of_term e) Int) (cases_yield cs t && yields_there d t) h in let branches = and_parts (cases_yield cs t) (yields_there d t) k.1 in (below (type_of_term e) Int k.0, all_yield cs t branches.0, yields_type d t branches.1)
  met space ls (apply_static p c n m ts t) h = let k = and_parts (is_static n) (is_same_type t (call_type m.result) && arguments_fit ts m.params) h in let handed = and_parts (is_same_type t (call_type m.result)) (arguments_fit ts m.params) k.1 in (static_is n k.0, type-same t (call_type m.result) handed.0, arguments ts m.params handed.1)
  met space ls (unary_op p o e) h = below (type_of_term e) (unary_operand o) h
  met space ls (binary_op p o a b) h = operands o a b h
  met space ls (undefined_literal p) h = tt
  met space ls (null_literal p) h = tt
  met space ls (boolean_literal p b) h = tt
  met space ls (char_literal p u) h = tt
  met space ls (byte_literal p z) h = tt
  met space ls (short_literal p z) h = tt
  met space ls (int_literal p z) h = tt
  met space ls (long_literal p z) h = tt
  met space ls (string_literal p us) h = tt
  met space ls (var_ref p x t) h = tt
  met space ls (log_line p e) h = below (type_of_term e) String h
  met space ls _ h = impossible h

  here : (around : List (List ℕ)) (s : Scene) (t : Term) → Once around t → is_here has s t ≡ true → Here w has s t
  here around s t o h = let k = and_parts (is_met s.labels t) (stands has (may_check has s.sure) t && is_found s t) h in let rest = and_parts (stands has (may_check has s.sure) t) (is_found s t) k.1 in record { meets = met s.space s.labels t k.0; built = rest.0; finds = found around s t o rest.1 }

  -- a tree with one tree in it
  with_one : (around inner : List (List ℕ)) (s r : Scene) (t e : Term) → Once around t → (Once inner e → is_typed has r e ≡ true → Typed w has r e) → Once inner e → (is_here has s t && is_typed has r e) ≡ true → Here w has s t × Typed w has r e
  with_one around inner s r t e o typed i h = let k = and_parts (is_here has s t) (is_typed has r e) h in (here around s t o k.0, typed i k.1)

  mutual
    pub typed : (around : List (List ℕ)) (s : Scene) (t : Term) → Once around t → is_typed has s t ≡ true → Typed w has s t
    typed ar s (var_def p x t b e) o h = with_one ar ar s s (var_def p x t b e) e o (typed ar s e) o.1 h
    typed ar s (block_of p ts) o h = typed_block ar s ts o h
    typed ar s (labeled p l t e) o h = with_one ar (l ∷ ar) s (in_label l t s) (labeled p l t e) e o (typed (l ∷ ar) (in_label l t s) e) o.1 h
    typed ar s (assign p (var_ref q x t) e) o h = with_one ar ar s s (assign p (var_ref q x t) e) e o (typed ar s e) o h
    typed ar s (return_to p e l) o h = with_one ar ar s s (return_to p e l) e o (typed ar s e) o.1 h
    typed ar s (if_then p c a b t) o h =
        let k = and_parts (is_here has s (if_then p c a b t)) (is_typed has s c && (is_typed has s a && is_typed has s b)) h in
        let condition = and_parts (is_typed has s c) (is_typed has s a && is_typed has s b) k.1 in
        let branches = and_parts (is_typed has s a) (is_typed has s b) condition.1 in
        (here ar s (if_then p c a b t) o k.0, typed ar s c o.0 condition.0, typed ar s a o.1 branches.0, typed ar s b o.2 branches.1)
    typed ar s (while_loop p c b) o h = let k = and_parts (is_here has s (while_loop p c b)) (is_typed has s c && is_typed has s b) h in let parts = and_parts (is_typed has s c) (is_typed has s b) k.1 in (here ar s (while_loop p c b) o k.0, typed ar s c o.0 parts.0, typed ar s b o.1 parts.1)
    typed ar s (do_while p b c) o h = let k = and_parts (is_here has s (do_while p b c)) (is_typed has s b && is_typed has s c) h in let parts = and_parts (is_typed has s b) (is_typed has s c) k.1 in (here ar s (do_while p b c) o k.0, typed ar s b o.0 parts.0, typed ar s c o.1 parts.1)
    typed ar s (match_on p e cs d t) o h =
        let k = and_parts (is_here has s (match_on p e cs d t)) (is_typed has s e && (are_typed_cases has s t cs && is_typed has s d)) h in
        let selector = and_parts (is_typed has s e) (are_typed_cases has s t cs && is_typed has s d) k.1 in
        let branches = and_parts (are_typed_cases has s t cs) (is_typed has s d) selector.1 in
        (here ar s (match_on p e cs d t) o k.0, typed ar s e o.0 selector.0, typed_cases ar s t cs o.1 branches.0, typed ar s d o.2 branches.1)
    typed ar s (apply_static p c n m ts t) o h = let k = and_parts (is_here has s (apply_static p c n m ts t)) (are_typed has s ts) h in (here ar s (apply_static p c n m ts t) o k.0, typed_all ar s ts o k.1)
    typed ar s (unary_op p q e) o h = with_one ar ar s s (unary_op p q e) e o (typed ar s e) o h
    typed ar s (binary_op p q e d) o h = let k = and_parts (is_here has s (binary_op p q e d)) (is_typed has s e && is_typed has s d) h in let parts = and_parts (is_typed has s e) (is_typed has s d) k.1 in (here ar s (binary_op p q e d) o k.0, typed ar s e o.0 parts.0, typed ar s d o.1 parts.1)
    typed ar s (log_line p e) o h = with_one ar ar s s (log_line p e) e o (typed ar s e) o h
    typed ar s (assign p (select q d c f t) e) o h = impossible h
    typed ar s (assign p (select_static q c f t) e) o h = impossible h
    typed ar s (try_catch p e x d t) o h = impossible h
    typed ar s (try_finally p e d) o h = impossible h
    typed ar s (throw p e) o h = impossible h
    typed ar s (new_object p c m ts) o h = impossible h
    typed ar s (store_module p c e) o h = impossible h
    typed ar s (select p e c f t) o h = impossible h
    typed ar s (apply p e m ts t) o h = impossible h
    typed ar s (apply_statically p e c n m ts t) o h = impossible h
    typed ar s (assign p (array_select q d i t) e) o h = impossible h
    typed ar s (new_array p r e) o h = impossible h
    typed ar s (array_value p r ts) o h = impossible h
    typed ar s (array_length p e) o h = impossible h
    typed ar s (array_select p e i t) o h = impossible h
    typed ar s (is_instance_of p e t) o h = impossible h
    typed ar s (as_instance_of p e t) o h = impossible h
    typed ar s t o h = here ar s t o h

    typed_block : (around : List (List ℕ)) (s : Scene) (ts : Terms) → OnceAll around ts → is_typed_block has s ts ≡ true → TypedBlock w has s ts
    typed_block ar s no_terms o h = impossible h
    typed_block ar s (more_terms t no_terms) o h = typed ar s t o.0 h
    typed_block ar s (more_terms t (more_terms u us)) o h = let k = and_parts (is_typed has s t) (is_typed_block has (behind t s) (more_terms u us)) h in (typed ar s t o.0 k.0, (λ x d i. o.2 x (defined t x d) i), typed_block ar (behind t s) (more_terms u us) o.1 k.1)

    typed_all : (around : List (List ℕ)) (s : Scene) (ts : Terms) → OnceAll around ts → are_typed has s ts ≡ true → TypedAll w has s ts
    typed_all ar s no_terms o h = tt
    typed_all ar s (more_terms t ts) o h = let k = and_parts (is_typed has s t) (are_typed has s ts) h in (typed ar s t o.0 k.0, typed_all ar s ts o.1 k.1)

    typed_cases : (around : List (List ℕ)) (s : Scene) (t : IrType) (cs : Cases) → OnceCases around cs → are_typed_cases has s t cs ≡ true → TypedCases w has s t cs
    typed_cases ar s t no_cases o h = tt
    typed_cases ar s t (more_cases [] e cs) o h = typed_cases ar s t cs o.1 h
    typed_cases ar s t (more_cases (n ∷ ns) e cs) o h =
        let k = and_parts (yields_there e t) (is_typed has s e && are_typed_cases has s t cs) h in
        let parts = and_parts (is_typed has s e) (are_typed_cases has s t cs) k.1 in
        (yields_type e t k.0, typed ar s e o.0 parts.0, typed_cases ar s t cs o.1 parts.1)
