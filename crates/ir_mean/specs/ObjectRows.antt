-- Small worlds with objects, exceptions, modules and arrays, and what a body of `main` shows in them.
use Rattle.std.specs.Prelude.{ℕ, Bool, true, false, List, [], ◌∷◌, ◌++◌, pos, negsuc, codes, Option, Some, None}
use Rattle.sj_names.specs.declared.method_names.MethodName.{MethodName}
use Rattle.sj_names.specs.declared.method_names.Namespace.{Namespace}
use Rattle.sj_names.specs.declared.references.ArrayRef.{ArrayRef}
use Rattle.sj_names.specs.declared.references.BaseRef.TheVariants as bases
use Rattle.sj_names.specs.declared.references.TypeRef.{TypeRef}
use Rattle.sj_names.specs.declared.references.TypeRef.TheVariants as references
use Rattle.sj_trees.specs.declared.classes.ClassDef.{ClassDef}
use Rattle.sj_trees.specs.declared.classes.ClassKind.{ClassKind}
use Rattle.sj_trees.specs.declared.classes.ClassKind.TheVariants as kinds
use Rattle.sj_trees.specs.declared.classes.FieldDef.{FieldDef}
use Rattle.sj_trees.specs.declared.classes.MethodDef.{MethodDef}
use Rattle.sj_trees.specs.declared.operators.BinaryOp.TheVariants.{StrictEqual, StringConcatenate, IntDivide, LongRemainder}
use Rattle.sj_trees.specs.declared.types.IrType.{IrType}
use Rattle.sj_trees.specs.declared.types.IrType.TheVariants as types
use Rattle.sj_trees.specs.Term.{Term, Terms, no_terms, more_terms, var_def, skip, block_of, labeled, assign, return_to, try_catch, try_finally, throw, new_object, load_module, store_module, select, select_static, apply, apply_statically, binary_op, new_array, array_value, array_length, array_select, is_instance_of, as_instance_of, undefined_literal, null_literal, char_literal, int_literal, long_literal, string_literal, var_ref, this_ref, log_line}
use Rattle.ir_mean.specs.Rows.{nowhere, object_name, object_with, static_method, logs, once}
use Rattle.ir_mean.specs.Meaning.{meaning}
use Rattle.ir_mean.specs.Shows.{ir_shows, outside}
use Rattle.ir_mean.specs.States.{Value, Ended, ends, gives}
use Rattle.ir_mean.specs.World.{World, opening}
use Rattle.outcomes.specs.Outcome.{End, Done}
use Rattle.outcomes.specs.Shown.{Shown}

-- a class
abbrev class_with : List ℕ → ClassKind → Option (List ℕ) → List (List ℕ) → List FieldDef → List MethodDef → ClassDef
class_with name kind superclass interfaces fields methods = record { pos = nowhere; files = [] ∷ []; name = name; kind = kind; superclass = superclass; interfaces = interfaces; fields = fields; methods = methods }

abbrev named : List ℕ → List TypeRef → Option TypeRef → MethodName
named name params result = record { simple = name; params = params; result = result }

abbrev int_field : List ℕ → FieldDef
int_field name = record { pos = nowhere; is_static = false; «mutable» = true; name = name; tpe = types.Int }

abbrev int_static : List ℕ → FieldDef
int_static name = record { pos = nowhere; is_static = true; «mutable» = true; name = name; tpe = types.Int }

-- a method without parameters that gives a text
abbrev text_name : List ℕ → MethodName
text_name name = named name [] (Some (references.Class (codes "java.lang.String")))

abbrev gives_text : List ℕ → Term → MethodDef
gives_text name body = record { pos = nowhere; namespace = Namespace.Public; name = text_name name; params = []; result = types.Class (codes "java.lang.String"); body = Some body; hash = None }

abbrev word : List ℕ → Term
word us = string_literal nowhere us

abbrev init : MethodName
init = named (codes "<init>") [] (Some references.Void)

abbrev init_text : MethodName
init_text = named (codes "<init>") (references.Class (codes "java.lang.String") ∷ []) (Some references.Void)

-- a constructor without parameters
abbrev constructor : Term → MethodDef
constructor body = record { pos = nowhere; namespace = Namespace.Constructor; name = init; params = []; result = types.NoType; body = Some body; hash = None }

-- a constructor that logs the message that it takes
abbrev logs_message : MethodDef
logs_message = record { pos = nowhere; namespace = Namespace.Constructor; name = init_text; params = record { name = codes "s"; «mutable» = false; tpe = types.String } ∷ []; result = types.NoType; body = Some (log_line nowhere (var_ref nowhere (codes "s") types.String)); hash = None }

abbrev exception : List ℕ → ClassDef
exception name = class_with name kinds.Class (Some object_name) [] [] (logs_message ∷ [])

abbrev exceptions : World
exceptions = exception (codes "java.lang.NullPointerException") ∷ exception (codes "java.lang.ArithmeticException") ∷ exception (codes "java.lang.ClassCastException") ∷ exception (codes "java.lang.ArrayIndexOutOfBoundsException") ∷ exception (codes "java.lang.ArrayStoreException") ∷ exception (codes "java.lang.NegativeArraySizeException") ∷ exception (codes "java.lang.NoSuchMethodException") ∷ []

abbrev a_type : IrType
a_type = types.Class (codes "A")

-- the interface `I` with a body for `m`; `A` with the field `x`, a constructor that sets it to 1, and `n`; `B` below `A`, an `I`, with its own `n`; the interface `J` with bodies for `m` and `n`, and `C` below `A`, a `J` and an `I`, with nothing of its own
abbrev family : World
family = class_with (codes "I") kinds.Interface None [] [] (gives_text (codes "m") (word (codes "i")) ∷ []) ∷ class_with (codes "A") kinds.Class (Some object_name) [] (int_field (codes "x") ∷ int_static (codes "y") ∷ []) (constructor (assign nowhere (select nowhere (this_ref nowhere a_type) (codes "A") (codes "x") types.Int) (int_literal nowhere (pos 1))) ∷ gives_text (codes "n") (word (codes "a")) ∷ []) ∷ class_with (codes "B") kinds.Class (Some (codes "A")) (codes "I" ∷ []) [] (constructor (skip nowhere) ∷ gives_text (codes "n") (word (codes "b")) ∷ []) ∷ class_with (codes "J") kinds.Interface None [] [] (gives_text (codes "m") (word (codes "j")) ∷ gives_text (codes "n") (word (codes "j")) ∷ []) ∷ class_with (codes "C") kinds.Class (Some (codes "A")) (codes "J" ∷ codes "I" ∷ []) [] (constructor (skip nowhere) ∷ []) ∷ class_with (codes "java.lang.Integer") kinds.HijackedClass (Some object_name) [] [] (gives_text (codes "n") (word (codes "int")) ∷ []) ∷ class_with (codes "M") kinds.ModuleClass (Some object_name) [] (int_field (codes "z") ∷ []) (constructor (block_of nowhere (more_terms (store_module nowhere (codes "M") (this_ref nowhere (types.Class (codes "M")))) (more_terms (logs (codes "loaded")) no_terms))) ∷ []) ∷ []

abbrev world : Term → World
world main = object_with (static_method (codes "main") main ∷ []) ∷ family ++ exceptions

-- what `main` with this body shows within this bound
abbrev pub shown : Term → ℕ → Shown
shown main n = ir_shows (world main) once (codes "main") n

abbrev block : List Term → Terms
block [] = no_terms
block (t ∷ ts) = more_terms t (block ts)

abbrev all_of : List Term → Term
all_of ts = block_of nowhere (block ts)

-- logs a value as text
abbrev says : Term → Term
says t = log_line nowhere (binary_op nowhere StringConcatenate (word []) t)

abbrev new_of : List ℕ → Term
new_of c = new_object nowhere c init no_terms

abbrev whole : ℕ → Term
whole n = int_literal nowhere (pos n)

abbrev null : Term
null = null_literal nowhere

abbrev x_of : Term → Term
x_of t = select nowhere t (codes "A") (codes "x") types.Int

abbrev y_of_a : Term
y_of_a = select_static nowhere (codes "A") (codes "y") types.Int

-- a new object has its fields at zero until its constructor sets them; those of a superclass are there, and no constructor of it runs by itself
abbrev pub fields : Term
fields = all_of (says (x_of (new_of (codes "A"))) ∷ says (x_of (new_of (codes "B"))) ∷ var_def nowhere (codes "a") a_type false (new_of (codes "A")) ∷ assign nowhere (x_of (var_ref nowhere (codes "a") a_type)) (whole 7) ∷ says (x_of (var_ref nowhere (codes "a") a_type)) ∷ says y_of_a ∷ assign nowhere y_of_a (whole 8) ∷ says y_of_a ∷ [])

-- a call goes by the value's own class, also to a body of an interface: the least of two, and none where a superclass has a body; a hijacked receiver class decides itself
abbrev calls_n : IrType → Term → Term
calls_n t e = log_line nowhere (apply nowhere (as_instance_of nowhere e t) (text_name (codes "n")) no_terms types.String)

abbrev pub dispatches : Term
dispatches = all_of (calls_n a_type (new_of (codes "A")) ∷ calls_n a_type (new_of (codes "B")) ∷ calls_n types.Any (whole 300) ∷ log_line nowhere (apply nowhere (new_of (codes "B")) (text_name (codes "m")) no_terms types.String) ∷ log_line nowhere (apply_statically nowhere (new_of (codes "B")) (codes "A") Namespace.Public (text_name (codes "n")) no_terms types.String) ∷ log_line nowhere (apply nowhere (new_of (codes "B")) (named (codes "n") [] None) no_terms types.String) ∷ calls_n a_type (new_of (codes "C")) ∷ log_line nowhere (apply nowhere (new_of (codes "C")) (text_name (codes "m")) no_terms types.String) ∷ [])

-- each is thrown by its constructor, which logs the message, and costs a unit
abbrev pub raises : List Term
raises = x_of null ∷ binary_op nowhere IntDivide (whole 1) (whole 0) ∷ binary_op nowhere LongRemainder (long_literal nowhere (pos 1)) (long_literal nowhere (pos 0)) ∷ as_instance_of nowhere (new_of (codes "A")) (types.Class (codes "B")) ∷ as_instance_of nowhere (whole 1) (types.Array (record { dimensions = 2; base = bases.Int })) ∷ as_instance_of nowhere (word []) types.Undefined ∷ array_select nowhere (new_array nowhere (record { dimensions = 1; base = bases.Int }) (whole 1)) (whole 1) types.Int ∷ array_select nowhere (new_array nowhere (record { dimensions = 1; base = bases.Int }) (whole 1)) (int_literal nowhere (negsuc 0)) types.Int ∷ new_array nowhere (record { dimensions = 1; base = bases.Int }) (int_literal nowhere (negsuc 2)) ∷ assign nowhere (array_select nowhere (array_value nowhere (record { dimensions = 1; base = bases.Class (codes "B") }) (more_terms null no_terms)) (whole 0) a_type) (new_of (codes "A")) ∷ apply nowhere (new_of (codes "A")) (named (codes "gone") (references.Int ∷ []) None) (more_terms (whole 1) no_terms) types.Any ∷ []

-- each of them is caught in turn
abbrev caught : Term → Term
caught t = try_catch nowhere (all_of (t ∷ skip nowhere ∷ [])) (codes "e") (skip nowhere) types.NoType

abbrev each_caught : List Term → List Term
each_caught [] = []
each_caught (t ∷ ts) = caught t ∷ each_caught ts

abbrev pub all_caught : Term
all_caught = all_of (each_caught raises)

-- nothing catches it
abbrev pub uncaught : Term
uncaught = x_of null

-- arguments come behind the check of their receiver
abbrev pub sent_to_null : Term
sent_to_null = apply_statically nowhere null (codes "java.lang.NullPointerException") Namespace.Constructor init_text (block (all_of (logs (codes "late") ∷ word [] ∷ []) ∷ [])) types.NoType

-- an object is made behind the arguments of its constructor, so one that is made among these has the lesser address
abbrev pub made_last : Term
made_last = new_object nowhere (codes "java.lang.NullPointerException") init_text (block (all_of (new_of (codes "A") ∷ word [] ∷ []) ∷ []))

-- a field of what is no object: its right side isn't evaluated
abbrev pub set_on_text : Term
set_on_text = assign nowhere (x_of (word (codes "w"))) (all_of (logs (codes "late") ∷ whole 1 ∷ []))

abbrev value_in : End Ended → Option Value
value_in (Done (ends (gives v) env s)) = Some v
value_in _ = None

-- what a tree by itself gives within this bound, if it gives a value
abbrev pub given : Term → ℕ → Option Value
given t n = value_in (meaning (world (skip nowhere)) n t outside (opening (world (skip nowhere)))).end

-- null where the receiver is sure is wrong: an immutable local is as sure as what it was defined as
abbrev pub sure_local : Bool → Term
sure_local b = all_of (var_def nowhere (codes "a") a_type b (new_of (codes "A")) ∷ assign nowhere (var_ref nowhere (codes "a") a_type) null ∷ says (x_of (var_ref nowhere (codes "a") a_type)) ∷ [])

-- operands come before a check of an index, and that before a check of the element
abbrev pub order : Term
order = assign nowhere (array_select nowhere (array_value nowhere (record { dimensions = 1; base = bases.Class (codes "B") }) no_terms) (all_of (logs (codes "index") ∷ whole 0 ∷ [])) a_type) (all_of (logs (codes "value") ∷ new_of (codes "A") ∷ []))

-- the cell of a module is set by its constructor, which runs once
abbrev pub modules : Term
modules = all_of (load_module nowhere (codes "M") ∷ says (binary_op nowhere StrictEqual (load_module nowhere (codes "M")) (load_module nowhere (codes "M"))) ∷ [])

-- arrays are shared, have the zeros of their elements, and know their type
abbrev ints : ArrayRef
ints = record { dimensions = 1; base = bases.Int }

abbrev at : Term → ℕ → Term
at t n = array_select nowhere t (whole n) types.Int

abbrev array_use : Term
array_use = var_ref nowhere (codes "a") (types.Array ints)

abbrev pub arrays : Term
arrays = all_of (var_def nowhere (codes "a") (types.Array ints) false (new_array nowhere ints (whole 2)) ∷ var_def nowhere (codes "b") (types.Array ints) false array_use ∷ assign nowhere (at (var_ref nowhere (codes "b") (types.Array ints)) 1) (whole 5) ∷ says (at array_use 0) ∷ says (at array_use 1) ∷ says (array_length nowhere array_use) ∷ says (is_instance_of nowhere array_use (types.Array ints)) ∷ says (is_instance_of nowhere array_use (types.Array (record { dimensions = 1; base = bases.Class object_name }))) ∷ says (is_instance_of nowhere (array_value nowhere (record { dimensions = 2; base = bases.Int }) no_terms) (types.Array (record { dimensions = 1; base = bases.Class object_name }))) ∷ says (is_instance_of nowhere (array_value nowhere (record { dimensions = 1; base = bases.Class (codes "B") }) no_terms) (types.Array (record { dimensions = 1; base = bases.Class (codes "A") }))) ∷ says (is_instance_of nowhere array_use (types.Class (codes "A"))) ∷ [])

-- a small number is a byte or a short besides; null is an instance of nothing
abbrev tested : Term → IrType → Term
tested e t = says (is_instance_of nowhere e t)

abbrev pub tests : Term
tests = all_of (tested (new_of (codes "B")) a_type ∷ tested (new_of (codes "A")) (types.Class (codes "B")) ∷ tested (new_of (codes "B")) (types.Class (codes "I")) ∷ tested null a_type ∷ tested (whole 5) (types.Class (codes "java.lang.Byte")) ∷ tested (whole 128) (types.Class (codes "java.lang.Byte")) ∷ tested (int_literal nowhere (negsuc 127)) types.Byte ∷ tested (whole 32768) types.Short ∷ tested (whole 32768) types.Int ∷ tested (long_literal nowhere (pos 1)) types.Int ∷ tested (char_literal nowhere 97) types.Char ∷ tested (undefined_literal nowhere) types.Undefined ∷ says (as_instance_of nowhere null types.Int) ∷ says (as_instance_of nowhere null types.String) ∷ [])

-- what a finalizer throws or leaves takes the place of the block's end; else the end is that of the block
abbrev pub finals : Term
finals = all_of (says (try_catch nowhere (try_finally nowhere (throw nowhere (word (codes "1"))) (throw nowhere (word (codes "2")))) (codes "e") (as_instance_of nowhere (var_ref nowhere (codes "e") types.Any) types.String) types.String) ∷ says (try_catch nowhere (try_finally nowhere (throw nowhere (word (codes "1"))) (logs (codes "f"))) (codes "e") (as_instance_of nowhere (var_ref nowhere (codes "e") types.Any) types.String) types.String) ∷ says (labeled nowhere (codes "l") types.Int (try_finally nowhere (return_to nowhere (whole 1) (codes "l")) (return_to nowhere (whole 2) (codes "l")))) ∷ says (try_finally nowhere (whole 3) (logs (codes "g"))) ∷ [])

-- a value that travels past a finalizer that gives its own jump up
abbrev pub given_up : Term
given_up = says (labeled nowhere (codes "l") types.Int (try_finally nowhere (return_to nowhere (whole 1) (codes "l")) (labeled nowhere (codes "m") types.NoType (try_finally nowhere (return_to nowhere (whole 2) (codes "l")) (return_to nowhere (skip nowhere) (codes "m"))))))

-- a call on what is no instance of the class that it names: its arguments aren't evaluated
abbrev pub sent_to_text : Term
sent_to_text = all_of (var_def nowhere (codes "a") a_type false (word (codes "w")) ∷ apply nowhere (var_ref nowhere (codes "a") a_type) (text_name (codes "n")) (block (all_of (logs (codes "late") ∷ word [] ∷ []) ∷ [])) types.String ∷ [])
