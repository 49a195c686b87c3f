-- Small programs whose meaning is worked out.
use Rattle.std.specs.Prelude.{ℕ, true, List, [], ◌∷◌, ℤ, pos, negsuc, codes, Some, None}
use Rattle.sj_names.specs.declared.entry_points.EntryPoint.{EntryPoint}
use Rattle.sj_names.specs.declared.method_names.MethodName.{MethodName}
use Rattle.sj_names.specs.declared.method_names.Namespace.TheVariants.{PublicStatic}
use Rattle.sj_names.specs.declared.references.TypeRef.TheVariants.{Void, Int}
use Rattle.sj_trees.specs.declared.classes.ClassDef.{ClassDef}
use Rattle.sj_trees.specs.declared.classes.ClassKind.TheVariants as Kinds
use Rattle.sj_trees.specs.declared.classes.MethodDef.{MethodDef}
use Rattle.sj_trees.specs.declared.positions.Position.{Position}
use Rattle.sj_trees.specs.declared.operators.BinaryOp.TheVariants.{IntMultiply, IntLess, IntAdd}
use Rattle.sj_trees.specs.declared.types.IrType.TheVariants.{NoType}
use Rattle.sj_trees.specs.declared.types.IrType.TheVariants as Types
use Rattle.sj_trees.specs.Term.{Term, no_terms, more_terms, no_cases, more_cases, skip, block_of, labeled, assign, return_to, while_loop, do_while, match_on, boolean_literal, int_literal, var_ref, binary_op, log_line, string_literal, apply_static}
use Rattle.outcomes.specs.Outcome.{Out}
use Rattle.ir_mean.specs.Meaning.{meaning}
use Rattle.ir_mean.specs.Shows.{outside}
use Rattle.ir_mean.specs.States.{Ended}
use Rattle.ir_mean.specs.World.{World, opening}

abbrev pub nowhere : Position
nowhere = record { file = 0; line = 0; column = 0 }

abbrev pub object_name : List ℕ
object_name = codes "java.lang.Object"

-- `name;V`
abbrev pub method_name : List ℕ → MethodName
method_name name = record { simple = name; params = []; result = Some Void }

-- a static method without parameters and result
abbrev pub static_method : List ℕ → Term → MethodDef
static_method name body = record { pos = nowhere; namespace = PublicStatic; name = method_name name; params = []; result = NoType; body = Some body; hash = None }

-- `java.lang.Object` with these methods
abbrev pub object_with : List MethodDef → ClassDef
object_with methods = record { pos = nowhere; files = [] ∷ []; name = object_name; kind = Kinds.Class; superclass = None; interfaces = []; fields = []; methods = methods }

-- a call of a static method of `java.lang.Object`
abbrev pub calls : List ℕ → Term
calls name = apply_static nowhere object_name PublicStatic (method_name name) no_terms NoType

abbrev pub logs : List ℕ → Term
logs us = log_line nowhere (string_literal nowhere us)

-- `main` logs `hi`
abbrev pub hi_program : World
hi_program = object_with (static_method (codes "main") (logs (codes "hi")) ∷ []) ∷ []

-- `main` calls `again`, which logs `x` and calls itself
abbrev pub again_class : ClassDef
again_class = object_with (static_method (codes "again") (block_of nowhere (more_terms (logs (codes "x")) (more_terms (calls (codes "again")) no_terms))) ∷ static_method (codes "main") (calls (codes "again")) ∷ [])

abbrev pub again_program : World
again_program = again_class ∷ []

-- `main` logs what isn't a text
abbrev pub skip_program : World
skip_program = object_with (static_method (codes "main") (log_line nowhere (skip nowhere)) ∷ []) ∷ []

-- the module `main` calls `main` of `java.lang.Object`, twice
abbrev pub main_entry : EntryPoint
main_entry = record { «module» = codes "main"; class = object_name; method = codes "main" }

abbrev pub once : List EntryPoint
once = main_entry ∷ []

abbrev pub twice : List EntryPoint
twice = main_entry ∷ main_entry ∷ []

-- `f;I;I` with the mutable parameter `p` and this body
abbrev pub int_method : Term → MethodDef
int_method body = record { pos = nowhere; namespace = PublicStatic; name = record { simple = codes "f"; params = Int ∷ []; result = Some Int }; params = record { name = codes "p"; «mutable» = true; tpe = Types.Int } ∷ []; result = Types.Int; body = Some body; hash = None }

-- a call of it
abbrev pub int_call : ℤ → Term
int_call z = apply_static nowhere object_name PublicStatic (record { simple = codes "f"; params = Int ∷ []; result = Some Int }) (more_terms (int_literal nowhere z) no_terms) Types.Int

-- what a call of it comes to within this bound
abbrev pub int_result : Term → ℕ → ℤ → Out Ended
int_result body n z = meaning (object_with (int_method body ∷ []) ∷ []) n (int_call z) outside (opening (object_with (int_method body ∷ []) ∷ []))

abbrev pub p_use : Term
p_use = var_ref nowhere (codes "p") Types.Int

abbrev pub times_three : Term
times_three = binary_op nowhere IntMultiply p_use (int_literal nowhere (pos 3))

-- `while (p < 10) { p = p * 3 }; p`
abbrev pub triples : Term
triples = block_of nowhere (more_terms (while_loop nowhere (binary_op nowhere IntLess p_use (int_literal nowhere (pos 10))) (assign nowhere p_use times_three)) (more_terms p_use no_terms))

-- `do { p = p * 3 } while (p < 10); p`
abbrev pub triples_first : Term
triples_first = block_of nowhere (more_terms (do_while nowhere (assign nowhere p_use times_three) (binary_op nowhere IntLess p_use (int_literal nowhere (pos 10)))) (more_terms p_use no_terms))

-- a value that leaves to a label, past a loop
abbrev pub leaves_loop : Term
leaves_loop = labeled nowhere (codes "l") Types.Int (while_loop nowhere (boolean_literal nowhere true) (return_to nowhere times_three (codes "l")))

-- a match with two cases and a default
abbrev pub matches : Term
matches = match_on nowhere p_use (more_cases (pos 1 ∷ negsuc 0 ∷ []) (int_literal nowhere (pos 10)) (more_cases (pos 2 ∷ []) (int_literal nowhere (pos 20)) no_cases)) (int_literal nowhere (pos 30)) Types.Int

-- an operand that writes what an earlier one has read
abbrev pub reads_then_writes : Term
reads_then_writes = binary_op nowhere IntAdd p_use (block_of nowhere (more_terms (assign nowhere p_use (int_literal nowhere (pos 5))) (more_terms p_use no_terms)))
