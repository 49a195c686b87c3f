-- The generated classes.
use Rattle.std.specs.Prelude.{ℕ, zero, suc, ◌-◌, ℤ, pos, Bool, true, false, List, [], ◌∷◌, ◌++◌, Option, Some, None, codes, decimal}
use Rattle.sj_names.specs.declared.references.TypeRef.{TypeRef}
use Rattle.sj_names.specs.declared.method_names.MethodName.{MethodName}
use Rattle.sj_names.specs.declared.method_names.Namespace.{Namespace}
use Rattle.sj_trees.specs.Term.{Term, no_terms, more_terms, apply_static, binary_op, int_literal, string_literal, var_ref, log_line}
use Rattle.sj_trees.specs.Erase.{nowhere}
use Rattle.sj_trees.specs.declared.operators.BinaryOp.{BinaryOp}
use Rattle.sj_trees.specs.declared.types.IrType.{IrType}
use Rattle.sj_trees.specs.declared.classes.ParamDef.{ParamDef}
use Rattle.sj_trees.specs.declared.classes.MethodDef.{MethodDef}
use Rattle.sj_trees.specs.declared.classes.ClassKind.{ClassKind}
use Rattle.sj_trees.specs.declared.classes.ClassDef.{ClassDef}

abbrev pub object_name : List ℕ
object_name = codes "java.lang.Object"

-- the k-th class
abbrev pub class_name : ℕ → List ℕ
class_name k = codes "G" ++ decimal k

-- `f;I;I` and `main;V`
abbrev pub function_name : MethodName
function_name = record { simple = codes "f"; params = TypeRef.Int ∷ []; result = Some TypeRef.Int }

abbrev pub main_name : MethodName
main_name = record { simple = codes "main"; params = []; result = Some TypeRef.Void }

abbrev pub parameter_name : List ℕ
parameter_name = codes "p"

-- the parameter, and an operation on it and a number
abbrev pub parameter : Term
parameter = var_ref nowhere parameter_name IrType.Int

abbrev pub with_number : BinaryOp → ℤ → Term
with_number operator number = binary_op nowhere operator parameter (int_literal nowhere number)

-- a call of the function of the k-th class
abbrev pub call_of : ℕ → Term → Term
call_of k argument = apply_static nowhere (class_name k) Namespace.PublicStatic function_name (more_terms argument no_terms) IrType.Int

-- the body of the function of the k-th class
abbrev pub body_of : Bool → ℕ → Term
body_of false zero = parameter
body_of true zero = with_number BinaryOp.IntMultiply (pos 2)
body_of edited (suc k) = call_of k (with_number BinaryOp.IntAdd (pos (suc k)))

abbrev pub parameters : List ParamDef
parameters = record { name = parameter_name; mutable = false; tpe = IrType.Int } ∷ []

abbrev pub function_of : Bool → ℕ → MethodDef
function_of edited k = record { pos = nowhere; namespace = Namespace.PublicStatic; name = function_name; params = parameters; result = IrType.Int; body = Some (body_of edited k); hash = None }

-- the method that logs what the function of the last of n classes gives for 0
abbrev pub empty_text : Term
empty_text = string_literal nowhere []

abbrev pub main_body : ℕ → Term
main_body n = log_line nowhere (binary_op nowhere BinaryOp.StringConcatenate empty_text (call_of (n - 1) (int_literal nowhere (pos 0))))

abbrev pub main_of : ℕ → MethodDef
main_of n = record { pos = nowhere; namespace = Namespace.PublicStatic; name = main_name; params = []; result = IrType.NoType; body = Some (main_body n); hash = None }

-- a class with one method, without positions: its one source file has the empty name
abbrev pub class_with : List ℕ → Option (List ℕ) → MethodDef → ClassDef
class_with name superclass method = record { pos = nowhere; files = [] ∷ []; name = name; kind = ClassKind.Class; superclass = superclass; interfaces = []; fields = []; methods = method ∷ [] }

-- the k-th class, and `java.lang.Object` above n of them
abbrev pub class_of : Bool → ℕ → ClassDef
class_of edited k = class_with (class_name k) (Some object_name) (function_of edited k)

abbrev pub object_of : ℕ → ClassDef
object_of n = class_with object_name None (main_of n)
