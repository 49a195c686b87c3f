-- Positions are no part of types, numbers and conditions.
use Rattle.std.proofs.Common.{◌≡◌, ℕ, Bool, true, false, List, [], ◌∷◌, ◌++◌, Option, Some, None, refl, ap, ◌∙◌}
use Rattle.std.specs.Prelude.{◌&&◌, codes}
use Rattle.sj_names.specs.declared.method_names.Namespace.{Namespace}
use Rattle.sj_names.specs.declared.method_names.Namespace.TheVariants.{Constructor}
use Rattle.sj_names.specs.declared.references.TypeRef.{TypeRef}
use Rattle.sj_trees.specs.declared.operators.BinaryOp.{BinaryOp}
use Rattle.sj_trees.specs.declared.operators.BinaryOp.TheVariants as binary
use Rattle.sj_trees.specs.declared.types.IrType.{IrType}
use Rattle.sj_trees.specs.declared.types.IrType.TheVariants as type
use Rattle.sj_trees.specs.Term.{Term, Terms, Cases, no_terms, more_terms, no_cases, more_cases, var_def, skip, block_of, labeled, assign, return_to, if_then, while_loop, do_while, try_catch, try_finally, throw, match_on, new_object, load_module, store_module, select, select_static, apply, apply_statically, apply_static, unary_op, binary_op, new_array, array_value, array_length, array_select, is_instance_of, as_instance_of, undefined_literal, null_literal, boolean_literal, char_literal, byte_literal, short_literal, int_literal, long_literal, string_literal, var_ref, this_ref, log_line}
use Rattle.sj_trees.specs.Erase.{erase, erase_all, erase_cases}
use Rattle.sj_trees.specs.TypeOf.{type_of_term, type_of_last, loop_type}
use Rattle.sj_trees.specs.Types.{class_type, element_type, reference_type}
use Rattle.sj_ask.specs.Known.{is_same}
use Rattle.sj_ask.specs.Sizes.{next, counted, counted_all, counted_cases}
use Rattle.sj_typing_spec.specs.declared.labels.Label.{Label}
use Rattle.sj_typing_spec.specs.declared.rows.Fit.{Fit}
use Rattle.sj_trees.specs.SameTypes.{is_same_type}
use Rattle.sj_typing_spec.specs.Labels.{type_of_label}
use Rattle.sj_typing_spec.specs.Typed.{tag}
use Rattle.sj_typing_spec.specs.Rules.{call_type, unary_operand, left_operand, right_operand}
use Rattle.sj_typing_spec.specs.Rows.{fit, yield, all_fit, cases_yield, arguments_fit, are_as_many, is_own, is_static, is_this, is_receiver, has_receiver, is_array, has_items, is_test_type, is_cast_type, is_text, fitting, demanding, return_row, operands_row, row_of}

loop-erase : (c : Term) → loop_type (erase c) ≡ loop_type c
loop-erase (boolean_literal p true) = refl
loop-erase (boolean_literal p false) = refl
loop-erase _ = refl

mutual
  pub type-erase : (t : Term) → type_of_term (erase t) ≡ type_of_term t
  type-erase (var_def p x t m e) = refl
  type-erase (skip p) = refl
  type-erase (block_of p ts) = last-erase type.NoType ts
  type-erase (labeled p l t e) = refl
  type-erase (assign p e d) = refl
  type-erase (return_to p e l) = refl
  type-erase (if_then p e d b t) = refl
  type-erase (while_loop p e d) = loop-erase e
  type-erase (do_while p e d) = loop-erase d
  type-erase (try_catch p e x d t) = refl
  type-erase (try_finally p e d) = type-erase e
  type-erase (throw p e) = refl
  type-erase (match_on p e cs d t) = refl
  type-erase (new_object p c k ts) = refl
  type-erase (load_module p c) = refl
  type-erase (store_module p c e) = refl
  type-erase (select p e c f t) = refl
  type-erase (select_static p c f t) = refl
  type-erase (apply p e k ts t) = refl
  type-erase (apply_statically p e c s k ts t) = refl
  type-erase (apply_static p c s k ts t) = refl
  type-erase (unary_op p o e) = refl
  type-erase (binary_op p o e d) = refl
  type-erase (new_array p r e) = refl
  type-erase (array_value p r ts) = refl
  type-erase (array_length p e) = refl
  type-erase (array_select p e d t) = refl
  type-erase (is_instance_of p e t) = refl
  type-erase (as_instance_of p e t) = refl
  type-erase (undefined_literal p) = refl
  type-erase (null_literal p) = refl
  type-erase (boolean_literal p v) = refl
  type-erase (char_literal p v) = refl
  type-erase (byte_literal p v) = refl
  type-erase (short_literal p v) = refl
  type-erase (int_literal p v) = refl
  type-erase (long_literal p v) = refl
  type-erase (string_literal p u) = refl
  type-erase (var_ref p x t) = refl
  type-erase (this_ref p t) = refl
  type-erase (log_line p e) = refl

  last-erase : (t : IrType) (es : Terms) → type_of_last t (erase_all es) ≡ type_of_last t es
  last-erase t no_terms = refl
  last-erase t (more_terms e es) = ap (λ (x : IrType). type_of_last x (erase_all es)) (type-erase e) ∙ last-erase (type_of_term e) es

pub tag-erase : (t : Term) → tag (erase t) ≡ tag t
tag-erase (var_def p x t m e) = refl
tag-erase (skip p) = refl
tag-erase (block_of p ts) = refl
tag-erase (labeled p l t e) = refl
tag-erase (assign p e d) = refl
tag-erase (return_to p e l) = refl
tag-erase (if_then p e d b t) = refl
tag-erase (while_loop p e d) = refl
tag-erase (do_while p e d) = refl
tag-erase (try_catch p e x d t) = refl
tag-erase (try_finally p e d) = refl
tag-erase (throw p e) = refl
tag-erase (match_on p e cs d t) = refl
tag-erase (new_object p c k ts) = refl
tag-erase (load_module p c) = refl
tag-erase (store_module p c e) = refl
tag-erase (select p e c f t) = refl
tag-erase (select_static p c f t) = refl
tag-erase (apply p e k ts t) = refl
tag-erase (apply_statically p e c s k ts t) = refl
tag-erase (apply_static p c s k ts t) = refl
tag-erase (unary_op p o e) = refl
tag-erase (binary_op p o e d) = refl
tag-erase (new_array p r e) = refl
tag-erase (array_value p r ts) = refl
tag-erase (array_length p e) = refl
tag-erase (array_select p e d t) = refl
tag-erase (is_instance_of p e t) = refl
tag-erase (as_instance_of p e t) = refl
tag-erase (undefined_literal p) = refl
tag-erase (null_literal p) = refl
tag-erase (boolean_literal p v) = refl
tag-erase (char_literal p v) = refl
tag-erase (byte_literal p v) = refl
tag-erase (short_literal p v) = refl
tag-erase (int_literal p v) = refl
tag-erase (long_literal p v) = refl
tag-erase (string_literal p u) = refl
tag-erase (var_ref p x t) = refl
tag-erase (this_ref p t) = refl
tag-erase (log_line p e) = refl

mutual
  pub counted-erase : (t : Term) (n : ℕ) → counted (erase t) n ≡ counted t n
  counted-erase (var_def p x t m e) n = counted-erase e (next n)
  counted-erase (skip p) n = refl
  counted-erase (block_of p ts) n = counted_all-erase ts (next n)
  counted-erase (labeled p l t e) n = counted-erase e (next n)
  counted-erase (assign p e d) n = ap (λ (x : ℕ). counted (erase d) x) (counted-erase e (next n)) ∙ counted-erase d (counted e (next n))
  counted-erase (return_to p e l) n = counted-erase e (next n)
  counted-erase (if_then p e d b t) n = ap (λ (x : ℕ). counted (erase b) (counted (erase d) x)) (counted-erase e (next n)) ∙ ap (λ (x : ℕ). counted (erase b) x) (counted-erase d (counted e (next n))) ∙ counted-erase b (counted d (counted e (next n)))
  counted-erase (while_loop p e d) n = ap (λ (x : ℕ). counted (erase d) x) (counted-erase e (next n)) ∙ counted-erase d (counted e (next n))
  counted-erase (do_while p e d) n = ap (λ (x : ℕ). counted (erase d) x) (counted-erase e (next n)) ∙ counted-erase d (counted e (next n))
  counted-erase (try_catch p e x d t) n = ap (λ (x : ℕ). counted (erase d) x) (counted-erase e (next n)) ∙ counted-erase d (counted e (next n))
  counted-erase (try_finally p e d) n = ap (λ (x : ℕ). counted (erase d) x) (counted-erase e (next n)) ∙ counted-erase d (counted e (next n))
  counted-erase (throw p e) n = counted-erase e (next n)
  counted-erase (match_on p e cs d t) n = ap (λ (x : ℕ). counted (erase d) (counted_cases (erase_cases cs) x)) (counted-erase e (next n)) ∙ ap (λ (x : ℕ). counted (erase d) x) (counted_cases-erase cs (counted e (next n))) ∙ counted-erase d (counted_cases cs (counted e (next n)))
  counted-erase (new_object p c k ts) n = counted_all-erase ts (next n)
  counted-erase (load_module p c) n = refl
  counted-erase (store_module p c e) n = counted-erase e (next n)
  counted-erase (select p e c f t) n = counted-erase e (next n)
  counted-erase (select_static p c f t) n = refl
  counted-erase (apply p e k ts t) n = ap (λ (x : ℕ). counted_all (erase_all ts) x) (counted-erase e (next n)) ∙ counted_all-erase ts (counted e (next n))
  counted-erase (apply_statically p e c s k ts t) n = ap (λ (x : ℕ). counted_all (erase_all ts) x) (counted-erase e (next n)) ∙ counted_all-erase ts (counted e (next n))
  counted-erase (apply_static p c s k ts t) n = counted_all-erase ts (next n)
  counted-erase (unary_op p o e) n = counted-erase e (next n)
  counted-erase (binary_op p o e d) n = ap (λ (x : ℕ). counted (erase d) x) (counted-erase e (next n)) ∙ counted-erase d (counted e (next n))
  counted-erase (new_array p r e) n = counted-erase e (next n)
  counted-erase (array_value p r ts) n = counted_all-erase ts (next n)
  counted-erase (array_length p e) n = counted-erase e (next n)
  counted-erase (array_select p e d t) n = ap (λ (x : ℕ). counted (erase d) x) (counted-erase e (next n)) ∙ counted-erase d (counted e (next n))
  counted-erase (is_instance_of p e t) n = counted-erase e (next n)
  counted-erase (as_instance_of p e t) n = counted-erase e (next n)
  counted-erase (undefined_literal p) n = refl
  counted-erase (null_literal p) n = refl
  counted-erase (boolean_literal p v) n = refl
  counted-erase (char_literal p v) n = refl
  counted-erase (byte_literal p v) n = refl
  counted-erase (short_literal p v) n = refl
  counted-erase (int_literal p v) n = refl
  counted-erase (long_literal p v) n = refl
  counted-erase (string_literal p u) n = refl
  counted-erase (var_ref p x t) n = refl
  counted-erase (this_ref p t) n = refl
  counted-erase (log_line p e) n = counted-erase e (next n)

  pub counted_all-erase : (ts : Terms) (n : ℕ) → counted_all (erase_all ts) n ≡ counted_all ts n
  counted_all-erase no_terms n = refl
  counted_all-erase (more_terms t ts) n = ap (λ (x : ℕ). counted_all (erase_all ts) x) (counted-erase t n) ∙ counted_all-erase ts (counted t n)

  pub counted_cases-erase : (cs : Cases) (n : ℕ) → counted_cases (erase_cases cs) n ≡ counted_cases cs n
  counted_cases-erase no_cases n = refl
  counted_cases-erase (more_cases keys t cs) n = ap (λ (x : ℕ). counted_cases (erase_cases cs) x) (counted-erase t n) ∙ counted_cases-erase cs (counted t n)

fit-erase : (e : Term) (t : IrType) → fit (erase e) t ≡ fit e t
fit-erase e t = ap (λ (x : IrType). record { sub = x; above = t }) (type-erase e)

yield-erase : (e : Term) (t : IrType) → yield (erase e) t ≡ yield e t
yield-erase e type.NoType = refl
yield-erase e t = ap (λ (f : Fit). f ∷ []) (fit-erase e t)

all-erase : (es : Terms) (t : IrType) → all_fit (erase_all es) t ≡ all_fit es t
all-erase no_terms t = refl
all-erase (more_terms e es) t = λ i. fit-erase e t i ∷ all-erase es t i

cases-erase : (cs : Cases) (t : IrType) → cases_yield (erase_cases cs) t ≡ cases_yield cs t
cases-erase no_cases t = refl
cases-erase (more_cases keys e cs) t = λ i. yield-erase e t i ++ cases-erase cs t i

arguments-erase : (es : Terms) (rs : List TypeRef) → arguments_fit (erase_all es) rs ≡ arguments_fit es rs
arguments-erase no_terms [] = refl
arguments-erase no_terms (r ∷ rs) = refl
arguments-erase (more_terms e es) [] = refl
arguments-erase (more_terms e es) (r ∷ rs) = λ i. fit-erase e (reference_type r) i ∷ arguments-erase es rs i

many-erase : (es : Terms) (rs : List TypeRef) → are_as_many (erase_all es) rs ≡ are_as_many es rs
many-erase no_terms [] = refl
many-erase no_terms (r ∷ rs) = refl
many-erase (more_terms e es) [] = refl
many-erase (more_terms e es) (r ∷ rs) = many-erase es rs

this_own-erase : (e : Term) (c : List ℕ) → is_own Constructor (erase e) c ≡ is_own Constructor e c
this_own-erase (this_ref p t) c = refl
this_own-erase _ c = refl

own-erase : (space : Namespace) (e : Term) (c : List ℕ) → is_own space (erase e) c ≡ is_own space e c
own-erase Constructor e c = this_own-erase e c
own-erase _ e c = refl

this-erase : (e : Term) → is_this (erase e) ≡ is_this e
this-erase (this_ref p t) = refl
this-erase _ = refl

receiver-erase : (space : Namespace) (e : Term) → is_receiver space (erase e) ≡ is_receiver space e
receiver-erase Constructor e = this-erase e
receiver-erase _ e = refl

return-erase : (e : Term) (o : Option IrType) → return_row (erase e) o ≡ return_row e o
return-erase e None = refl
return-erase e (Some t) = λ i. fitting (yield-erase e t i)

operands-erase : (o : BinaryOp) (a b : Term) → operands_row o (erase a) (erase b) ≡ operands_row o a b
operands-erase binary.StringConcatenate a b = λ i. demanding (is_text (type-erase a i) && is_text (type-erase b i)) []
operands-erase o a b = λ i. fitting (fit-erase a (left_operand o) i ∷ fit-erase b (right_operand o) i ∷ [])

pub row-erase : (space : Namespace) (ls : List Label) (settable : Bool) (t : Term) → row_of space ls settable (erase t) ≡ row_of space ls settable t
row-erase space ls settable (var_def p x t m e) = λ i. fitting (fit-erase e t i ∷ [])
row-erase space ls settable (skip p) = refl
row-erase space ls settable (block_of p ts) = refl
row-erase space ls settable (labeled p l t e) = λ i. fitting (yield-erase e t i)
row-erase space ls settable (assign p e d) = λ i. demanding settable (record { sub = type-erase d i; above = type-erase e i } ∷ [])
row-erase space ls settable (return_to p e l) = return-erase e (type_of_label ls l)
row-erase space ls settable (if_then p e d b t) = λ i. fitting (fit-erase e type.Boolean i ∷ (yield-erase d t i ++ yield-erase b t i))
row-erase space ls settable (while_loop p e d) = λ i. fitting (fit-erase e type.Boolean i ∷ [])
row-erase space ls settable (do_while p e d) = λ i. fitting (fit-erase d type.Boolean i ∷ [])
row-erase space ls settable (try_catch p e x d t) = λ i. fitting (yield-erase e t i ++ yield-erase d t i)
row-erase space ls settable (try_finally p e d) = refl
row-erase space ls settable (throw p e) = λ i. fitting (fit-erase e type.Any i ∷ [])
row-erase space ls settable (match_on p e cs d t) = λ i. fitting (fit-erase e type.Int i ∷ (cases-erase cs t i ++ yield-erase d t i))
row-erase space ls settable (new_object p c k ts) = λ i. demanding (is_same k.simple (codes "<init>") && many-erase ts k.params i) (arguments-erase ts k.params i)
row-erase space ls settable (load_module p c) = refl
row-erase space ls settable (store_module p c e) = λ i. fitting (fit-erase e (class_type c) i ∷ [])
row-erase space ls settable (select p e c f t) = λ i. record { holds = true; fits = fit-erase e (class_type c) i ∷ []; field = Some (record { class = c; name = f; is_static = false; tpe = t; is_own = own-erase space e c i }) }
row-erase space ls settable (select_static p c f t) = refl
row-erase space ls settable (apply p e k ts t) = λ i. demanding (has_receiver (type-erase e i) && (is_same_type t (call_type k.result) && many-erase ts k.params i)) (arguments-erase ts k.params i)
row-erase space ls settable (apply_statically p e c s k ts t) = λ i. demanding (receiver-erase s e i && (is_same_type t (call_type k.result) && many-erase ts k.params i)) (fit-erase e (class_type c) i ∷ arguments-erase ts k.params i)
row-erase space ls settable (apply_static p c s k ts t) = λ i. demanding (is_static s && (is_same_type t (call_type k.result) && many-erase ts k.params i)) (arguments-erase ts k.params i)
row-erase space ls settable (unary_op p o e) = λ i. fitting (fit-erase e (unary_operand o) i ∷ [])
row-erase space ls settable (binary_op p o e d) = operands-erase o e d
row-erase space ls settable (new_array p r e) = λ i. fitting (fit-erase e type.Int i ∷ [])
row-erase space ls settable (array_value p r ts) = λ i. fitting (all-erase ts (element_type r) i)
row-erase space ls settable (array_length p e) = λ i. demanding (is_array (type-erase e i)) []
row-erase space ls settable (array_select p e d t) = λ i. demanding (has_items (type-erase e i) t) (fit-erase d type.Int i ∷ [])
row-erase space ls settable (is_instance_of p e t) = λ i. demanding (is_test_type t) (fit-erase e type.Any i ∷ [])
row-erase space ls settable (as_instance_of p e t) = λ i. demanding (is_cast_type t) (fit-erase e type.Any i ∷ [])
row-erase space ls settable (undefined_literal p) = refl
row-erase space ls settable (null_literal p) = refl
row-erase space ls settable (boolean_literal p v) = refl
row-erase space ls settable (char_literal p v) = refl
row-erase space ls settable (byte_literal p v) = refl
row-erase space ls settable (short_literal p v) = refl
row-erase space ls settable (int_literal p v) = refl
row-erase space ls settable (long_literal p v) = refl
row-erase space ls settable (string_literal p u) = refl
row-erase space ls settable (var_ref p x t) = refl
row-erase space ls settable (this_ref p t) = refl
row-erase space ls settable (log_line p e) = λ i. fitting (fit-erase e type.String i ∷ [])
