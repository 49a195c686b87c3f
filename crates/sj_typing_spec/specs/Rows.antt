-- The conditions of each form, in the order in which they are judged: those that need no question, then the subtypes, then a field.
use Rattle.std.specs.Prelude.{ℕ, Bool, true, false, List, [], ◌∷◌, ◌++◌, ◌&&◌, Option, Some, None, codes}
use Rattle.sj_names.specs.declared.method_names.Namespace.{Namespace}
use Rattle.sj_names.specs.declared.method_names.Namespace.TheVariants.{Public, PublicStatic, Private, PrivateStatic, Constructor}
use Rattle.sj_names.specs.declared.references.TypeRef.{TypeRef}
use Rattle.sj_trees.specs.declared.operators.BinaryOp.{BinaryOp}
use Rattle.sj_trees.specs.declared.operators.BinaryOp.TheVariants as binary
use Rattle.sj_trees.specs.declared.types.IrType.{IrType}
use Rattle.sj_trees.specs.declared.types.IrType.TheVariants as type
use Rattle.sj_trees.specs.Term.{Term, Terms, Cases, no_terms, more_terms, no_cases, more_cases, var_def, skip, block_of, labeled, assign, return_to, if_then, while_loop, do_while, try_catch, try_finally, throw, match_on, new_object, load_module, store_module, select, select_static, apply, apply_statically, apply_static, unary_op, binary_op, new_array, array_value, array_length, array_select, is_instance_of, as_instance_of, undefined_literal, null_literal, boolean_literal, char_literal, byte_literal, short_literal, int_literal, long_literal, string_literal, var_ref, this_ref, log_line}
use Rattle.sj_trees.specs.TypeOf.{type_of_term}
use Rattle.sj_trees.specs.Types.{class_type, element_type, reference_type}
use Rattle.sj_ask.specs.Known.{is_same}
use Rattle.sj_typing_spec.specs.declared.labels.Label.{Label}
use Rattle.sj_typing_spec.specs.declared.rows.Fit.{Fit}
use Rattle.sj_typing_spec.specs.declared.rows.Row.{Row}
use Rattle.sj_trees.specs.SameTypes.{is_same_type}
use Rattle.sj_typing_spec.specs.Labels.{type_of_label}
use Rattle.sj_typing_spec.specs.Rules.{call_type, unary_operand, left_operand, right_operand}

-- e is to fit T
abbrev pub fit : Term → IrType → Fit
fit e t = record { sub = type_of_term e; above = t }

-- e is to yield T
abbrev pub yield : Term → IrType → List Fit
yield e type.NoType = []
yield e t = fit e t ∷ []

abbrev pub all_fit : Terms → IrType → List Fit
all_fit no_terms t = []
all_fit (more_terms e es) t = fit e t ∷ all_fit es t

abbrev pub cases_yield : Cases → IrType → List Fit
cases_yield no_cases t = []
cases_yield (more_cases keys e cs) t = yield e t ++ cases_yield cs t

abbrev pub arguments_fit : Terms → List TypeRef → List Fit
arguments_fit (more_terms e es) (r ∷ rs) = fit e (reference_type r) ∷ arguments_fit es rs
arguments_fit _ _ = []

abbrev pub are_as_many : Terms → List TypeRef → Bool
are_as_many no_terms [] = true
are_as_many (more_terms e es) (r ∷ rs) = are_as_many es rs
are_as_many _ _ = false

abbrev pub is_own : Namespace → Term → List ℕ → Bool
is_own Constructor (this_ref p t) c = is_same_type t (class_type c)
is_own _ _ c = false

abbrev pub is_static : Namespace → Bool
is_static PublicStatic = true
is_static PrivateStatic = true
is_static _ = false

abbrev pub is_this : Term → Bool
is_this (this_ref p t) = true
is_this _ = false

abbrev pub is_receiver : Namespace → Term → Bool
is_receiver Public e = true
is_receiver Private e = true
is_receiver Constructor e = is_this e
is_receiver _ e = false

abbrev pub has_receiver : IrType → Bool
has_receiver type.Null = false
has_receiver type.Nothing = false
has_receiver type.NoType = false
has_receiver _ = true

abbrev pub is_cast_type : IrType → Bool
is_cast_type type.Nothing = false
is_cast_type type.Null = false
is_cast_type type.NoType = false
is_cast_type _ = true

abbrev pub is_test_type : IrType → Bool
is_test_type type.Any = false
is_test_type t = is_cast_type t

abbrev pub is_array : IrType → Bool
is_array (type.Array r) = true
is_array _ = false

abbrev pub has_items : IrType → IrType → Bool
has_items (type.Array r) t = is_same_type (element_type r) t
has_items _ t = false

abbrev pub is_text : IrType → Bool
is_text type.Any = false
is_text type.NoType = false
is_text (type.Array r) = false
is_text (type.Class c) = is_same c (codes "java.lang.String")
is_text _ = true

-- conditions that are met
abbrev pub no_row : Row
no_row = record { holds = true; fits = []; field = None }

-- with subtypes alone
abbrev pub fitting : List Fit → Row
fitting fits = record { holds = true; fits = fits; field = None }

-- with a condition that needs no question, and subtypes
abbrev pub demanding : Bool → List Fit → Row
demanding holds fits = record { holds = holds; fits = fits; field = None }

-- a jump yields the type of its label, if there is one
abbrev pub return_row : Term → Option IrType → Row
return_row e None = demanding false []
return_row e (Some t) = fitting (yield e t)

abbrev pub operands_row : BinaryOp → Term → Term → Row
operands_row binary.StringConcatenate a b = demanding (is_text (type_of_term a) && is_text (type_of_term b)) []
operands_row o a b = fitting (fit a (left_operand o) ∷ fit b (right_operand o) ∷ [])

-- the conditions of a tree in a method of this namespace, with these labels around it; of an assignment whether its left side may be set
abbrev pub row_of : Namespace → List Label → Bool → Term → Row
row_of space ls settable (var_def p x t m e) = fitting (fit e t ∷ [])
row_of space ls settable (skip p) = no_row
row_of space ls settable (block_of p es) = no_row
row_of space ls settable (labeled p l t e) = fitting (yield e t)
row_of space ls settable (assign p e d) = demanding settable (fit d (type_of_term e) ∷ [])
row_of space ls settable (return_to p e l) = return_row e (type_of_label ls l)
row_of space ls settable (if_then p c e d t) = fitting (fit c type.Boolean ∷ (yield e t ++ yield d t))
row_of space ls settable (while_loop p c e) = fitting (fit c type.Boolean ∷ [])
row_of space ls settable (do_while p e c) = fitting (fit c type.Boolean ∷ [])
row_of space ls settable (try_catch p e x d t) = fitting (yield e t ++ yield d t)
row_of space ls settable (try_finally p e d) = no_row
row_of space ls settable (throw p e) = fitting (fit e type.Any ∷ [])
row_of space ls settable (match_on p s cs d t) = fitting (fit s type.Int ∷ (cases_yield cs t ++ yield d t))
row_of space ls settable (new_object p c k es) = demanding (is_same k.simple (codes "<init>") && are_as_many es k.params) (arguments_fit es k.params)
row_of space ls settable (load_module p c) = no_row
row_of space ls settable (store_module p c e) = fitting (fit e (class_type c) ∷ [])
row_of space ls settable (select p e c f t) = record { holds = true; fits = fit e (class_type c) ∷ []; field = Some (record { class = c; name = f; is_static = false; tpe = t; is_own = is_own space e c }) }
row_of space ls settable (select_static p c f t) = record { holds = true; fits = []; field = Some (record { class = c; name = f; is_static = true; tpe = t; is_own = false }) }
row_of space ls settable (apply p e k es t) = demanding (has_receiver (type_of_term e) && (is_same_type t (call_type k.result) && are_as_many es k.params)) (arguments_fit es k.params)
row_of space ls settable (apply_statically p e c s k es t) = demanding (is_receiver s e && (is_same_type t (call_type k.result) && are_as_many es k.params)) (fit e (class_type c) ∷ arguments_fit es k.params)
row_of space ls settable (apply_static p c s k es t) = demanding (is_static s && (is_same_type t (call_type k.result) && are_as_many es k.params)) (arguments_fit es k.params)
row_of space ls settable (unary_op p o e) = fitting (fit e (unary_operand o) ∷ [])
row_of space ls settable (binary_op p o a b) = operands_row o a b
row_of space ls settable (new_array p r e) = fitting (fit e type.Int ∷ [])
row_of space ls settable (array_value p r es) = fitting (all_fit es (element_type r))
row_of space ls settable (array_length p e) = demanding (is_array (type_of_term e)) []
row_of space ls settable (array_select p e i t) = demanding (has_items (type_of_term e) t) (fit i type.Int ∷ [])
row_of space ls settable (is_instance_of p e t) = demanding (is_test_type t) (fit e type.Any ∷ [])
row_of space ls settable (as_instance_of p e t) = demanding (is_cast_type t) (fit e type.Any ∷ [])
row_of space ls settable (undefined_literal p) = no_row
row_of space ls settable (null_literal p) = no_row
row_of space ls settable (boolean_literal p v) = no_row
row_of space ls settable (char_literal p v) = no_row
row_of space ls settable (byte_literal p v) = no_row
row_of space ls settable (short_literal p v) = no_row
row_of space ls settable (int_literal p v) = no_row
row_of space ls settable (long_literal p v) = no_row
row_of space ls settable (string_literal p u) = no_row
row_of space ls settable (var_ref p x t) = no_row
row_of space ls settable (this_ref p t) = no_row
row_of space ls settable (log_line p e) = fitting (fit e type.String ∷ [])
