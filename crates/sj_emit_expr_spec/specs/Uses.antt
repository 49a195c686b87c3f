-- The bindings that a method's function uses, each with the class that owns it, in order of first use in the text.
use Rattle.std.specs.Prelude.{ℕ, Bool, true, false, ◌&&◌, List, [], ◌∷◌, ◌++◌, nat_eq, codes, if◌then◌else◌}
use Rattle.std.specs.Cmp.Lexicographic.{pointwise}
use Rattle.std.specs.List.{list_any}
use Rattle.js_tree.specs.declared.items.Binding.{Binding}
use Rattle.sj_desugar_spec.specs.Lookup.{Lookup}
use Rattle.sj_desugar_spec.specs.Callee.{Callee}
use Rattle.sj_desugar_spec.specs.CalleeVariants as callees
use Rattle.sj_desugar_spec.specs.Terms.{Expression, boxed_char, char_text, value_text, choice_of, static_call, field_of, static_of, module_of, checked_value, made_of, receiver_call, test_of, cast_of, new_array_of, array_of, length_of, element_of, unary_of, binary_of, Expressions, no_expressions, expression, Statement, constant_of, define_of, declare_of, assign_to, evaluate_of, return_of, log_of, assign_field, assign_static, assign_element, store_module_of, throw_of, leave_label, break_nearest, if_of, while_of, loop_of, labeled_of, switch_of, try_of, finally_of, Statements, no_statements, statement, Cases, no_cases, switch_case}
use Rattle.sj_emit_expr_spec.specs.Tests.{test_name, cast_name, same_name}
use Rattle.sj_emit_expr_spec.specs.Templates.{called_member, member_name, class_name, static_name, setter_name, load_name, store_name, check_name, element_setter, is_nonzero_literal}
use Rattle.sj_mangling.specs.Bindings.{class_binding, method_binding}
use Rattle.sj_mangling.specs.declared.bindings.ClassBinding.TheVariants.{Constants}
use Rattle.sj_mangling.specs.declared.bindings.MethodBinding.TheVariants.{Dispatch, Reflective}
use Rattle.sj_mangling.specs.Member.{Member}
use Rattle.sj_mangling.specs.MethodName.{MethodName}
use Rattle.sj_names.specs.declared.references.BaseRef.{BaseRef}
use Rattle.sj_names.specs.declared.references.BaseRef.TheVariants as bases
use Rattle.sj_desugar_spec.specs.BinaryOp.{BinaryOp}
use Rattle.sj_desugar_spec.specs.BinaryOpVariants.{StrictEqual, StrictNotEqual, IntDivide, IntRemainder, LongDivide, LongRemainder}
use Rattle.sj_desugar_spec.specs.IrType.{IrType}
use Rattle.sj_desugar_spec.specs.IrTypeVariants.{Any, Class, Array}

abbrev pub object_binding : List ℕ → Binding
object_binding x = record { owner = codes "java.lang.Object"; name = x }

abbrev pub function_binding : Member → Binding
function_binding m = record { owner = m.class; name = member_name m }

abbrev pub class_use : List ℕ → Binding
class_use c = record { owner = c; name = class_name c }

abbrev pub static_use : List ℕ → List ℕ → Binding
static_use c f = record { owner = c; name = static_name c f }

abbrev pub setter_use : List ℕ → List ℕ → Binding
setter_use c f = record { owner = c; name = setter_name c f }

abbrev pub load_use : List ℕ → Binding
load_use c = record { owner = c; name = load_name c }

abbrev pub store_use : List ℕ → Binding
store_use c = record { owner = c; name = store_name c }

-- the helper that an operator calls
abbrev pub helper_of : Bool → BinaryOp → List Binding
helper_of false IntDivide = object_binding (codes "$id") ∷ []
helper_of false IntRemainder = object_binding (codes "$im") ∷ []
helper_of false LongDivide = object_binding (codes "$ld") ∷ []
helper_of false LongRemainder = object_binding (codes "$lm") ∷ []
helper_of _ StrictEqual = object_binding same_name ∷ []
helper_of _ StrictNotEqual = object_binding same_name ∷ []
helper_of _ _ = []

-- the function that a test calls, and the one that a cast calls
abbrev pub test_uses : IrType → List Binding
test_uses (Class c) = record { owner = c; name = test_name (Class c) } ∷ []
test_uses t = object_binding (test_name t) ∷ []

abbrev pub cast_uses : IrType → List Binding
cast_uses Any = []
cast_uses (Class c) = record { owner = c; name = cast_name (Class c) } ∷ []
cast_uses t = object_binding (cast_name t) ∷ []

-- what the base of arrays names, and what a type names as the base of arrays
abbrev pub base_uses : BaseRef → List Binding
base_uses (bases.Class c) = record { owner = c; name = class_binding Constants c } ∷ []
base_uses _ = []

abbrev pub type_uses : IrType → List Binding
type_uses (Array r) = base_uses r.base
type_uses _ = []

-- the function that looks a method up, where a primitive value may be the receiver
abbrev pub looked_up_uses : Bool → MethodName → List Binding
looked_up_uses true m = object_binding (method_binding Dispatch m) ∷ []
looked_up_uses false m = []

-- what a call on a receiver names
abbrev pub call_uses : Lookup → Callee → List Binding
call_uses known (callees.Member m) = function_binding (called_member known m.namespace m) ∷ []
call_uses known (callees.LookedUp c m) = looked_up_uses (known.has_hijacked c) m
call_uses known (callees.OfArray m) = []
call_uses known (callees.Reflective m) = object_binding (method_binding Reflective m) ∷ []

-- by what is known of the classes
module _ (known : Lookup) where
  abbrev mutual
    -- each use in the order of the text
    pub uses_in : Expression → List Binding
    uses_in (boxed_char e) = object_binding (codes "$C") ∷ uses_in e
    uses_in (char_text e) = uses_in e
    uses_in (value_text e) = uses_in e
    uses_in (choice_of c e g) = uses_in c ++ uses_in e ++ uses_in g
    uses_in (static_call m es) = function_binding m ∷ uses_in_all es
    uses_in (field_of e c f) = uses_in e
    uses_in (static_of c f) = static_use c f ∷ []
    uses_in (module_of c) = load_use c ∷ []
    uses_in (checked_value e) = object_binding check_name ∷ uses_in e
    uses_in (made_of m es) = function_binding m ∷ class_use m.class ∷ uses_in_all es
    uses_in (receiver_call k e es) = call_uses known k ++ uses_in e ++ uses_in_all es
    uses_in (test_of t e) = test_uses t ++ uses_in e ++ type_uses t
    uses_in (cast_of t e) = cast_uses t ++ uses_in e ++ type_uses t
    uses_in (new_array_of r e) = object_binding (codes "$mk") ∷ base_uses r.base ++ uses_in e
    uses_in (array_of r es) = object_binding (codes "$A") ∷ base_uses r.base ++ uses_in_all es
    uses_in (length_of e) = uses_in e
    uses_in (element_of e i) = object_binding (codes "$get") ∷ uses_in e ++ uses_in i
    uses_in (unary_of o e) = uses_in e
    uses_in (binary_of o e g) = helper_of (is_nonzero_literal g) o ++ uses_in e ++ uses_in g
    uses_in _ = []

    pub uses_in_all : Expressions → List Binding
    uses_in_all no_expressions = []
    uses_in_all (expression e es) = uses_in e ++ uses_in_all es

  abbrev mutual
    pub uses_of : Statement → List Binding
    uses_of (constant_of p x e) = uses_in e
    uses_of (define_of p x e) = uses_in e
    uses_of (declare_of p x) = []
    uses_of (assign_to p x e) = uses_in e
    uses_of (evaluate_of p e) = uses_in e
    uses_of (return_of p e) = uses_in e
    uses_of (log_of p e) = uses_in e
    uses_of (assign_field p e c f g) = uses_in e ++ uses_in g
    uses_of (assign_static p c f e) = setter_use c f ∷ uses_in e
    uses_of (assign_element p t e i g) = object_binding (element_setter t) ∷ uses_in e ++ uses_in i ++ uses_in g
    uses_of (store_module_of p c e) = store_use c ∷ uses_in e
    uses_of (throw_of p e) = uses_in e
    uses_of (leave_label p l) = []
    uses_of (break_nearest p) = []
    uses_of (if_of p c ss ts) = uses_in c ++ uses_of_all ss ++ uses_of_all ts
    uses_of (while_of p c ss) = uses_in c ++ uses_of_all ss
    uses_of (loop_of p ss) = uses_of_all ss
    uses_of (labeled_of p l ss) = uses_of_all ss
    uses_of (switch_of p e cs ss) = uses_in e ++ uses_of_cases cs ++ uses_of_all ss
    uses_of (try_of p ss x ts) = uses_of_all ss ++ uses_of_all ts
    uses_of (finally_of p ss ts) = uses_of_all ss ++ uses_of_all ts

    pub uses_of_all : Statements → List Binding
    uses_of_all no_statements = []
    uses_of_all (statement s ss) = uses_of s ++ uses_of_all ss

    pub uses_of_cases : Cases → List Binding
    uses_of_cases no_cases = []
    uses_of_cases (switch_case ks ss cs) = uses_of_all ss ++ uses_of_cases cs

abbrev pub is_same_binding : Binding → Binding → Bool
is_same_binding a b = pointwise nat_eq a.owner b.owner && pointwise nat_eq a.name b.name

-- each once, where it comes first, but for those that are there already
abbrev pub once_each : List Binding → List Binding → List Binding
once_each seen [] = []
once_each seen (b ∷ bs) = if list_any (is_same_binding b) seen then once_each seen bs else (b ∷ once_each (b ∷ seen) bs)

abbrev pub uses : Lookup → Statements → List Binding
uses known ss = once_each [] (uses_of_all known ss)
