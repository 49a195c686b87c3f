-- The helpers with a fixed text: what each is, and which bindings it uses.
use Rattle.std.specs.Prelude.{ℕ, false, List, [], ◌∷◌, ◌++◌, Some, pos, codes, map, ℤ}
use Rattle.js_tree.specs.Terms.{Name, Expression, undefined_literal, number_literal, big_literal, text_literal, boolean_literal, name_use, this_use, property_of, index_of, call_of, method_call_of, new_of, new_array_of, binary_of, unary_of, conditional_of, host_call_of_two, Statement, Member, expression_statement, assign_property, assign_index, super_call, throw_of, return_of, if_only, constructor_of, Item, function_item, class_item, subclass_item, object_item, Property, Piece}
use Rattle.js_tree.specs.Views.{expressions_of, statements_of}
use Rattle.js_tree.specs.declared.operators.BinaryOperator.{BinaryOperator}
use Rattle.js_tree.specs.declared.operators.BinaryOperator.TheVariants.{Add, Subtract, Divide, Remainder, BitOr, StrictEqual, Less, Greater, GreaterOrEqual, In, InstanceOf, ShiftLeft, ShiftRight}
use Rattle.js_tree.specs.declared.operators.UnaryOperator.TheVariants.{Not}
use Rattle.js_tree.specs.declared.operators.HostOperation.TheVariants.{BigIntAsIntN}
use Rattle.js_tree.specs.declared.items.Binding.{Binding}
use Rattle.sj_mangling.specs.Bindings.{function_name}
use Rattle.sj_names.specs.declared.method_names.MethodName.{MethodName}
use Rattle.sj_names.specs.declared.method_names.Namespace.TheVariants.{Constructor}
use Rattle.sj_names.specs.declared.references.TypeRef.TheVariants as References
use Rattle.sj_emit_help_spec.specs.Words.{kind_class, letter, is_name, as_name, worded_kinds, object_class, class_name, marker, x, call1, only_return, is_null, not_null, has_word, both, either, bound, helper}
use Rattle.sj_emit_help_spec.specs.declared.kinds.Kind.{Kind}
use Rattle.sj_emit_help_spec.specs.declared.kinds.Kind.TheVariants as kinds
use Rattle.sj_emit_help_spec.specs.declared.kinds.Helper.{Helper}
use Rattle.sj_emit_help_spec.specs.declared.kinds.Helper.TheVariants as helpers
use Rattle.sj_emit_help_spec.specs.declared.kinds.Failure.{Failure}
use Rattle.sj_emit_help_spec.specs.declared.kinds.Failure.TheVariants as failures

-- the name of each
abbrev pub helper_name : Helper → Name
helper_name (helpers.TestOf k) = is_name k
helper_name (helpers.CastTo k) = as_name k
helper_name (helpers.ConstantsOf k) = codes "$k" ++ letter k
helper_name helpers.NotNull = codes "$nn"
helper_name helpers.IntQuotient = codes "$id"
helper_name helpers.IntRemainder = codes "$im"
helper_name helpers.LongQuotient = codes "$ld"
helper_name helpers.LongRemainder = codes "$lm"
helper_name helpers.BoxedChar = codes "$C"
helper_name helpers.Equal = codes "$eq"
helper_name helpers.ArrayClass = codes "$A"
helper_name helpers.MakeArray = codes "$mk"
helper_name helpers.CheckIndex = codes "$ix"
helper_name helpers.Get = codes "$get"
helper_name helpers.Set = codes "$set"
helper_name helpers.Put = codes "$put"
helper_name helpers.Covers = codes "$cov"
helper_name helpers.Fits = codes "$fits"
helper_name helpers.ClassOf = codes "$kof"
helper_name helpers.TestOfArray = codes "$isA"
helper_name helpers.CastToArray = codes "$asA"
helper_name (helpers.Throws failures.NullReceiver) = codes "$npe"
helper_name (helpers.Throws failures.Division) = codes "$ae"
helper_name (helpers.Throws failures.Cast) = codes "$cce"
helper_name (helpers.Throws failures.Index) = codes "$ioe"
helper_name (helpers.Throws failures.Store) = codes "$ase"
helper_name (helpers.Throws failures.Size) = codes "$nse"
helper_name (helpers.Throws failures.Method) = codes "$nme"

abbrev pub var : List ℕ → Expression
var y = name_use y

abbrev pub num : ℕ → Expression
num n = number_literal (pos n)

abbrev pub word : List ℕ → Expression
word = text_literal

abbrev pub calls : Helper → List Expression → Expression
calls h es = call_of (helper_name h) (expressions_of es)

abbrev pub does : Expression → Statement
does = expression_statement

abbrev pub when : Expression → List Statement → Statement
when c ss = if_only c (statements_of ss)

abbrev pub function : Helper → List Name → List Statement → Item
function h xs ss = function_item (helper_name h) xs (statements_of ss)

abbrev pub owned : Name → List Binding → Item → Piece
owned name used item = record { owner = object_class; name = name; uses = used; item = item }

-- `{s: "i_C", i_A: 1, ..}`
abbrev pub marker_property : Name → Property
marker_property a = record { name = marker a; value = number_literal (pos 1) }

abbrev pub own_marker : Name → Property
own_marker c = record { name = codes "s"; value = text_literal (marker c) }

abbrev pub constants : Name → List Name → List Property
constants c ancestors = own_marker c ∷ map marker_property ancestors

-- `(((x << n) >> n) === x)`
abbrev pub is_cut : ℤ → Expression
is_cut n = binary_of (binary_of (binary_of x ShiftLeft (number_literal n)) ShiftRight (number_literal n)) StrictEqual x

abbrev pub is_small : ℤ → Expression
is_small n = both (has_word (codes "number") x) (is_cut n)

abbrev pub is_undefined : Expression
is_undefined = binary_of x StrictEqual undefined_literal

abbrev pub is_box : Expression
is_box = binary_of x InstanceOf (name_use (codes "$C"))

-- the test of each kind on `x`
abbrev pub kind_condition : Kind → Expression
kind_condition kinds.Undefined = is_undefined
kind_condition kinds.Boolean = has_word (codes "boolean") x
kind_condition kinds.Char = is_box
kind_condition kinds.Byte = is_small (pos 24)
kind_condition kinds.Short = is_small (pos 16)
kind_condition kinds.Int = has_word (codes "number") x
kind_condition kinds.Long = has_word (codes "bigint") x
kind_condition kinds.Text = has_word (codes "string") x

-- `function $isX(x) { return TEST; }`
abbrev pub kind_item : Kind → Item
kind_item k = function_item (is_name k) (codes "x" ∷ []) (only_return (kind_condition k))

-- `if (test) { helper(); }`
abbrev pub if_throw : Expression → Name → Statement
if_throw test helper = when test (does (call_of helper (expressions_of [])) ∷ [])

-- a division by zero throws
abbrev pub zero_check : Expression → Statement
zero_check zero = if_throw (binary_of (var (codes "b")) StrictEqual zero) (codes "$ae")

abbrev pub division : Name → Expression → Expression → Item
division name zero result = function_item name (codes "a" ∷ codes "b" ∷ []) (statements_of (zero_check zero ∷ return_of result ∷ []))

abbrev pub divides : Name → Expression → Expression → Piece
divides name zero result = owned name (helper (codes "$ae") ∷ []) (division name zero result)

abbrev pub operation : BinaryOperator → Expression
operation o = binary_of (var (codes "a")) o (var (codes "b"))

abbrev pub or_zero : Expression → Expression
or_zero e = binary_of e BitOr (num 0)

abbrev pub wrapped : Expression → Expression
wrapped e = host_call_of_two BigIntAsIntN (num 64) e

abbrev pub message_init : MethodName
message_init = record { simple = codes "<init>"; params = References.Class (codes "java.lang.String") ∷ []; result = Some References.Void }

abbrev pub init_name : Name → Name
init_name e = function_name Constructor e message_init

abbrev pub new_instance : Name → Expression
new_instance e = new_of (class_name e) (expressions_of [])

abbrev pub raise : Name → Expression → Expression
raise e message = call_of (init_name e) (expressions_of (new_instance e ∷ message ∷ []))

abbrev pub decimal_of : List ℕ → Expression
decimal_of y = binary_of (word []) Add (var y)

-- the class of what is thrown, the parameters of the helper, and the message
abbrev pub failure_class : Failure → Name
failure_class failures.NullReceiver = codes "java.lang.NullPointerException"
failure_class failures.Division = codes "java.lang.ArithmeticException"
failure_class failures.Cast = codes "java.lang.ClassCastException"
failure_class failures.Index = codes "java.lang.ArrayIndexOutOfBoundsException"
failure_class failures.Store = codes "java.lang.ArrayStoreException"
failure_class failures.Size = codes "java.lang.NegativeArraySizeException"
failure_class failures.Method = codes "java.lang.NoSuchMethodException"

abbrev pub failure_parameters : Failure → List Name
failure_parameters failures.Cast = codes "t" ∷ []
failure_parameters failures.Index = codes "i" ∷ []
failure_parameters failures.Size = codes "n" ∷ []
failure_parameters failures.Method = codes "t" ∷ []
failure_parameters _ = []

abbrev pub failure_message : Failure → Expression
failure_message failures.NullReceiver = word (codes "null")
failure_message failures.Division = word (codes "/ by zero")
failure_message failures.Cast = var (codes "t")
failure_message failures.Index = decimal_of (codes "i")
failure_message failures.Store = word (codes "bad element")
failure_message failures.Size = decimal_of (codes "n")
failure_message failures.Method = var (codes "t")

-- `throw ct_E__<init>(new c_E(), MESSAGE);`
abbrev pub throws : Failure → Item
throws f = function (helpers.Throws f) (failure_parameters f) (throw_of (raise (failure_class f) (failure_message f)) ∷ [])

-- the value that a cast of null gives, and the name that a failed cast of a kind shows
abbrev pub kind_zero : Kind → Expression
kind_zero kinds.Undefined = undefined_literal
kind_zero kinds.Boolean = boolean_literal false
kind_zero kinds.Long = big_literal (pos 0)
kind_zero kinds.Text = text_literal []
kind_zero _ = number_literal (pos 0)

abbrev pub kind_word : Kind → List ℕ
kind_word kinds.Undefined = codes "undef"
kind_word kinds.Boolean = codes "boolean"
kind_word kinds.Char = codes "char"
kind_word kinds.Byte = codes "byte"
kind_word kinds.Short = codes "short"
kind_word kinds.Int = codes "int"
kind_word kinds.Long = codes "long"
kind_word kinds.Text = codes "string"

abbrev pub unboxed : Kind → Expression
unboxed kinds.Char = property_of x (codes "c")
unboxed _ = x

abbrev pub cast_failure : Kind → Expression
cast_failure k = call1 (codes "$cce") (word (kind_word k))

abbrev pub unboxed_or_throw : Kind → Expression
unboxed_or_throw k = conditional_of (call1 (is_name k) x) (unboxed k) (cast_failure k)

abbrev pub cast_of : Kind → Expression
cast_of k = conditional_of (is_null x) (kind_zero k) (unboxed_or_throw k)

abbrev pub v_returns : List Kind → List Statement
v_returns [] = return_of (property_of (var (codes "v")) (codes "k")) ∷ []
v_returns (k ∷ ks) = when (call1 (is_name k) (var (codes "v"))) (return_of (name_use (helper_name (helpers.ConstantsOf k))) ∷ []) ∷ v_returns ks

abbrev pub at : Expression → Name → Expression
at e y = property_of e y

abbrev pub is_boxed : Name → Expression
is_boxed y = binary_of (var y) InstanceOf (name_use (codes "$C"))

abbrev pub both_boxed : Expression
both_boxed = both (is_boxed (codes "x")) (is_boxed (codes "y"))

abbrev pub same_units : Expression
same_units = binary_of (property_of (var (codes "x")) (codes "c")) StrictEqual (property_of (var (codes "y")) (codes "c"))

abbrev pub same_values : Expression
same_values = binary_of (var (codes "x")) StrictEqual (var (codes "y"))

-- `(((x instanceof $C) && (y instanceof $C)) ? (x.c === y.c) : (x === y))`
abbrev pub equality : Expression
equality = conditional_of both_boxed same_units same_values

abbrev pub set_from : Name → Name → Statement
set_from p y = assign_property this_use p (var y)

abbrev pub box_constructor : Member
box_constructor = constructor_of (codes "c" ∷ []) (statements_of (set_from (codes "k") (codes "$kC") ∷ set_from (codes "c") (codes "c") ∷ []))

abbrev pub equality_item : Item
equality_item = function helpers.Equal (codes "x" ∷ codes "y" ∷ []) (return_of equality ∷ [])

abbrev pub cast_item : Kind → Item
cast_item k = function (helpers.CastTo k) (codes "x" ∷ []) (return_of (cast_of k) ∷ [])

abbrev pub null_check : Item
null_check = function helpers.NotNull (codes "x" ∷ []) (when (is_null x) (does (calls (helpers.Throws failures.NullReceiver) []) ∷ []) ∷ return_of x ∷ [])

-- the classes above the class of each kind
abbrev pub Above : Type 0
Above = Kind → List Name

-- the text of each, where the constants of a kind have these ancestors
abbrev pub helper_item : Above → Helper → Item
helper_item above (helpers.TestOf k) = kind_item k
helper_item above (helpers.CastTo k) = cast_item k
helper_item above (helpers.ConstantsOf k) = object_item (helper_name (helpers.ConstantsOf k)) (constants (kind_class k) (above k))
helper_item above helpers.NotNull = null_check
helper_item above helpers.IntQuotient = division (codes "$id") (num 0) (or_zero (operation Divide))
helper_item above helpers.IntRemainder = division (codes "$im") (num 0) (or_zero (operation Remainder))
helper_item above helpers.LongQuotient = division (codes "$ld") (big_literal (pos 0)) (wrapped (operation Divide))
helper_item above helpers.LongRemainder = division (codes "$lm") (big_literal (pos 0)) (operation Remainder)
helper_item above helpers.BoxedChar = class_item (codes "$C") (box_constructor ∷ [])
helper_item above helpers.Equal = equality_item
helper_item above helpers.ArrayClass = subclass_item (codes "$A") (class_name object_class) (constructor_of (codes "n" ∷ codes "e" ∷ codes "a" ∷ []) (statements_of (super_call ∷ assign_property this_use (codes "n") (var (codes "n")) ∷ assign_property this_use (codes "e") (var (codes "e")) ∷ assign_property this_use (codes "a") (var (codes "a")) ∷ [])) ∷ [])
helper_item above helpers.MakeArray = function helpers.MakeArray (codes "n" ∷ codes "e" ∷ codes "l" ∷ codes "z" ∷ []) (when (binary_of (var (codes "l")) Less (num 0)) (does (calls (helpers.Throws failures.Size) (var (codes "l") ∷ [])) ∷ []) ∷ return_of (new_of (codes "$A") (expressions_of (var (codes "n") ∷ var (codes "e") ∷ method_call_of (new_array_of (var (codes "l"))) (codes "fill") (expressions_of (var (codes "z") ∷ [])) ∷ []))) ∷ [])
helper_item above helpers.CheckIndex = function helpers.CheckIndex (codes "x" ∷ codes "i" ∷ []) (when (either (binary_of (var (codes "i")) Less (num 0)) (binary_of (var (codes "i")) GreaterOrEqual (at (at x (codes "a")) (codes "length")))) (does (calls (helpers.Throws failures.Index) (var (codes "i") ∷ [])) ∷ []) ∷ [])
helper_item above helpers.Get = function helpers.Get (codes "x" ∷ codes "i" ∷ []) (does (calls helpers.CheckIndex (x ∷ var (codes "i") ∷ [])) ∷ return_of (index_of (at x (codes "a")) (var (codes "i"))) ∷ [])
helper_item above helpers.Set = function helpers.Set (codes "x" ∷ codes "i" ∷ codes "v" ∷ []) (does (calls helpers.CheckIndex (x ∷ var (codes "i") ∷ [])) ∷ assign_index (at x (codes "a")) (var (codes "i")) (var (codes "v")) ∷ [])
helper_item above helpers.Put = function helpers.Put (codes "x" ∷ codes "i" ∷ codes "v" ∷ []) (does (calls helpers.CheckIndex (x ∷ var (codes "i") ∷ [])) ∷ when (both (not_null (var (codes "v"))) (unary_of Not (calls helpers.Fits (var (codes "v") ∷ at x (codes "n") ∷ at x (codes "e") ∷ [])))) (does (calls (helpers.Throws failures.Store) []) ∷ []) ∷ assign_index (at x (codes "a")) (var (codes "i")) (var (codes "v")) ∷ [])
helper_item above helpers.Covers = function helpers.Covers (codes "n" ∷ codes "e" ∷ codes "m" ∷ codes "d" ∷ []) (when (binary_of (var (codes "n")) StrictEqual (var (codes "m"))) (return_of (conditional_of (has_word (codes "string") (var (codes "d"))) (binary_of (var (codes "e")) StrictEqual (var (codes "d"))) (both (has_word (codes "object") (var (codes "e"))) (binary_of (at (var (codes "d")) (codes "s")) In (var (codes "e"))))) ∷ []) ∷ return_of (both (both (binary_of (var (codes "n")) Greater (var (codes "m"))) (has_word (codes "object") (var (codes "d")))) (binary_of (at (var (codes "d")) (codes "s")) StrictEqual (word (marker object_class)))) ∷ [])
helper_item above helpers.Fits = function helpers.Fits (codes "v" ∷ codes "n" ∷ codes "e" ∷ []) (when (binary_of (var (codes "n")) Greater (num 1)) (return_of (both (binary_of (var (codes "v")) InstanceOf (name_use (codes "$A"))) (calls helpers.Covers (at (var (codes "v")) (codes "n") ∷ at (var (codes "v")) (codes "e") ∷ binary_of (binary_of (var (codes "n")) Subtract (num 1)) BitOr (num 0) ∷ var (codes "e") ∷ []))) ∷ [])
    ∷ when (binary_of (at (var (codes "e")) (codes "s")) StrictEqual (word (marker (kind_class kinds.Byte)))) (return_of (calls (helpers.TestOf kinds.Byte) (var (codes "v") ∷ [])) ∷ [])
    ∷ when (binary_of (at (var (codes "e")) (codes "s")) StrictEqual (word (marker (kind_class kinds.Short)))) (return_of (calls (helpers.TestOf kinds.Short) (var (codes "v") ∷ [])) ∷ [])
    ∷ return_of (binary_of (at (var (codes "e")) (codes "s")) In (calls helpers.ClassOf (var (codes "v") ∷ []))) ∷ [])
helper_item above helpers.ClassOf = function helpers.ClassOf (codes "v" ∷ []) (v_returns worded_kinds)
helper_item above helpers.TestOfArray = function helpers.TestOfArray (codes "x" ∷ codes "n" ∷ codes "e" ∷ []) (return_of (both (binary_of x InstanceOf (name_use (codes "$A"))) (calls helpers.Covers (at x (codes "n") ∷ at x (codes "e") ∷ var (codes "n") ∷ var (codes "e") ∷ []))) ∷ [])
helper_item above helpers.CastToArray = function helpers.CastToArray (codes "x" ∷ codes "n" ∷ codes "e" ∷ codes "t" ∷ []) (return_of (conditional_of (either (is_null x) (calls helpers.TestOfArray (x ∷ var (codes "n") ∷ var (codes "e") ∷ []))) x (calls (helpers.Throws failures.Cast) (var (codes "t") ∷ []))) ∷ [])
helper_item above (helpers.Throws f) = throws f

abbrev pub raises : List ℕ → List Binding
raises e = bound e (init_name e) ∷ bound e (class_name e) ∷ []

abbrev pub of : Helper → Binding
of h = helper (helper_name h)

abbrev pub tests_and_constants : List Kind → List Helper
tests_and_constants [] = []
tests_and_constants (k ∷ ks) = helpers.TestOf k ∷ helpers.ConstantsOf k ∷ tests_and_constants ks

-- the helpers that it uses, once each, in order of first use
abbrev pub used_helpers : Helper → List Helper
used_helpers (helpers.TestOf kinds.Char) = helpers.BoxedChar ∷ []
used_helpers (helpers.TestOf k) = []
used_helpers (helpers.CastTo k) = helpers.TestOf k ∷ helpers.Throws failures.Cast ∷ []
used_helpers (helpers.ConstantsOf k) = []
used_helpers helpers.NotNull = helpers.Throws failures.NullReceiver ∷ []
used_helpers helpers.IntQuotient = helpers.Throws failures.Division ∷ []
used_helpers helpers.IntRemainder = helpers.Throws failures.Division ∷ []
used_helpers helpers.LongQuotient = helpers.Throws failures.Division ∷ []
used_helpers helpers.LongRemainder = helpers.Throws failures.Division ∷ []
used_helpers helpers.BoxedChar = helpers.ConstantsOf kinds.Char ∷ []
used_helpers helpers.Equal = helpers.BoxedChar ∷ []
used_helpers helpers.ArrayClass = []
used_helpers helpers.MakeArray = helpers.Throws failures.Size ∷ helpers.ArrayClass ∷ []
used_helpers helpers.CheckIndex = helpers.Throws failures.Index ∷ []
used_helpers helpers.Get = helpers.CheckIndex ∷ []
used_helpers helpers.Set = helpers.CheckIndex ∷ []
used_helpers helpers.Put = helpers.CheckIndex ∷ helpers.Fits ∷ helpers.Throws failures.Store ∷ []
used_helpers helpers.Covers = []
used_helpers helpers.Fits = helpers.ArrayClass ∷ helpers.Covers ∷ helpers.TestOf kinds.Byte ∷ helpers.TestOf kinds.Short ∷ helpers.ClassOf ∷ []
used_helpers helpers.ClassOf = tests_and_constants worded_kinds
used_helpers helpers.TestOfArray = helpers.ArrayClass ∷ helpers.Covers ∷ []
used_helpers helpers.CastToArray = helpers.TestOfArray ∷ helpers.Throws failures.Cast ∷ []
used_helpers (helpers.Throws f) = []

-- and what it uses of classes: one has a class above it, and those that throw make an exception
abbrev pub used_of_classes : Helper → List Binding
used_of_classes helpers.ArrayClass = bound object_class (class_name object_class) ∷ []
used_of_classes (helpers.Throws f) = raises (failure_class f)
used_of_classes _ = []

abbrev pub helper_uses : Helper → List Binding
helper_uses h = used_of_classes h ++ map of (used_helpers h)

abbrev pub helper_piece : Above → Helper → Piece
helper_piece above h = record { owner = object_class; name = helper_name h; uses = helper_uses h; item = helper_item above h }
