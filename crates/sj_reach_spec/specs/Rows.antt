-- Small folders: what is reachable in them, and what doesn't resolve.
use Rattle.std.specs.Prelude.{◌≡◌, ℕ, false, List, [], ◌∷◌, Some, None, Option, codes}
use Rattle.sj_names.specs.WellKnown.{init}
use Rattle.sj_names.specs.declared.entry_points.EntryPoint.{EntryPoint}
use Rattle.sj_names.specs.declared.method_names.Member.{Member}
use Rattle.sj_names.specs.declared.method_names.MethodName.{MethodName}
use Rattle.sj_names.specs.declared.method_names.Namespace.{Namespace}
use Rattle.sj_names.specs.declared.method_names.Namespace.TheVariants.{Public, PublicStatic, Constructor}
use Rattle.sj_names.specs.declared.references.BaseRef.TheVariants as base
use Rattle.sj_names.specs.declared.references.TypeRef.TheVariants as reference
use Rattle.sj_trees.specs.Erase.{nowhere}
use Rattle.sj_trees.specs.Term.{Term, no_terms, more_terms, block_of, skip, new_object, select, select_static, apply, apply_statically, apply_static, load_module, binary_op, new_array, is_instance_of, var_ref}
use Rattle.sj_trees.specs.declared.classes.ClassKind.{ClassKind}
use Rattle.sj_trees.specs.declared.classes.ClassKind.TheVariants.{Class, ModuleClass, Interface}
use Rattle.sj_trees.specs.declared.classes.ClassDef.{ClassDef}
use Rattle.sj_trees.specs.declared.classes.MethodDef.{MethodDef}
use Rattle.sj_trees.specs.declared.operators.BinaryOp.TheVariants.{IntDivide}
use Rattle.sj_trees.specs.declared.types.IrType.{IrType}
use Rattle.sj_trees.specs.declared.types.IrType.TheVariants.{NoType, Any, Int}
use Rattle.sj_ask.specs.Known.{Name, Classes, object}
use Rattle.sj_ask.specs.Rows.{empty_class}
use Rattle.sj_reach_spec.specs.Refusals.{Refusal, place, missing_class, missing_method, missing_field, wrong_kind, abstract_target}
use Rattle.sj_reach_spec.specs.Reachable.{Reachable, Unresolved}
use Rattle.sj_reach_spec.specs.Rules.{plain_constructor, message_constructor, public_member}
use Rattle.sj_ask.specs.Fact.{Fact}
use Rattle.sj_ask.specs.FactVariants as fact

abbrev pub plain_name : List ℕ → MethodName
plain_name simple = record { simple = simple; params = []; result = Some reference.Void }

abbrev pub a_method : Namespace → Name → Option Term → MethodDef
a_method n simple body = record { pos = nowhere; namespace = n; name = plain_name simple; params = []; result = NoType; body = body; hash = None }

abbrev pub static_method : Name → Option Term → MethodDef
static_method = a_method PublicStatic

-- a class of this kind below `java.lang.Object`, with a constructor and a public `m`
abbrev pub class_with_m : Name → ClassKind → ClassDef
class_with_m name kind = record { pos = nowhere; files = [] ∷ []; name = name; kind = kind; superclass = Some object; interfaces = []; fields = []; methods = a_method Constructor init (Some (skip nowhere)) ∷ a_method Public (codes "m") (Some (skip nowhere)) ∷ [] }

-- `java.lang.Object` with `main` of this body and these further methods; `I`, an interface; `A`, and `M`, a module class
abbrev pub folder : Term → List MethodDef → Classes
folder body methods = record { pos = nowhere; files = [] ∷ []; name = object; kind = Class; superclass = None; interfaces = []; fields = []; methods = static_method (codes "main") (Some body) ∷ methods } ∷ empty_class (codes "I") Interface None [] ∷ class_with_m (codes "A") Class ∷ class_with_m (codes "M") ModuleClass ∷ []

abbrev pub main_entries : List EntryPoint
main_entries = record { «module» = codes "main"; class = object; method = codes "main" } ∷ []

abbrev pub static_call : Name → Name → Term
static_call c simple = apply_static nowhere c PublicStatic (plain_name simple) no_terms NoType

abbrev pub static_field : Term
static_field = select_static nowhere object (codes "f") Int

-- `main` of this body is refused so
abbrev pub IsTold : Term → List MethodDef → Refusal → List ℕ → Type 0
IsTold body methods r text = Unresolved (folder body methods) main_entries r × (place r ≡ text)

-- the trees that are tried
abbrev pub x : Term
x = var_ref nowhere (codes "x") Any

abbrev pub new_a : Term
new_a = new_object nowhere (codes "A") (plain_name init) no_terms

-- an `A` is made, and this done
abbrev pub made_and : Term → Term
made_and t = block_of nowhere (more_terms new_a (more_terms t no_terms))

abbrev pub call_m : Term
call_m = apply nowhere x (plain_name (codes "m")) no_terms NoType

abbrev pub proxy : MethodName
proxy = record { simple = codes "m"; params = []; result = None }

abbrev pub call_by_proxy : Term
call_by_proxy = apply nowhere x proxy no_terms Any

abbrev pub call_as_a : Term
call_as_a = apply_statically nowhere x (codes "A") Public (plain_name (codes "m")) no_terms NoType

abbrev pub call_as_i : Term
call_as_i = apply_statically nowhere x (codes "I") Public (plain_name (codes "m")) no_terms NoType

abbrev pub field_of_a : Term
field_of_a = select nowhere x (codes "A") (codes "f") Int

abbrev pub array_of_ints : Term
array_of_ints = new_array nowhere (record { dimensions = 1; base = base.Int }) x

abbrev pub is_an_i : Term
is_an_i = is_instance_of nowhere x (IrType.Class (codes "I"))

abbrev pub quotient : Term
quotient = binary_op nowhere IntDivide x x

abbrev pub arithmetic_exception : Name
arithmetic_exception = codes "java.lang.ArithmeticException"

abbrev pub IsReached : Term → Fact → Type 0
IsReached body f = Reachable (folder body []) main_entries f

-- what is reachable from `main`
abbrev pub WorkedFacts : Type 0
WorkedFacts = IsReached new_a (fact.Made (codes "A"))
    × IsReached new_a (fact.Needed (codes "A"))
    × IsReached new_a (fact.Body (record { class = codes "A"; namespace = Constructor; method = plain_name init }))
    × IsReached call_m (fact.Called object (plain_name (codes "m")))
    × IsReached (made_and call_m) (fact.Body (public_member (codes "A") (plain_name (codes "m"))))
    × IsReached (made_and call_by_proxy) (fact.Called (codes "A") (plain_name (codes "m")))
    × IsReached (made_and call_by_proxy) (fact.Body (public_member (codes "A") (plain_name (codes "m"))))
    × IsReached (load_module nowhere (codes "M")) (fact.CellUsed (codes "M"))
    × IsReached (load_module nowhere (codes "M")) (fact.Made (codes "M"))
    × IsReached (load_module nowhere (codes "M")) (fact.Body (plain_constructor (codes "M")))
    × IsReached call_as_a (fact.Body (public_member (codes "A") (plain_name (codes "m"))))
    × IsReached field_of_a (fact.NeededField (codes "A") (codes "f") false)
    × IsReached array_of_ints (fact.Made object)
    × IsReached is_an_i (fact.Needed (codes "I"))
    × IsReached quotient (fact.Made arithmetic_exception)
    × IsReached quotient (fact.Body (message_constructor arithmetic_exception))

abbrev pub WorkedReachability : Type 0
WorkedReachability = IsTold (static_call (codes "Gone") (codes "go")) [] (missing_class (codes "Gone")) (codes "Gone")
    × IsTold (static_call object (codes "go")) [] (missing_method (record { class = object; namespace = PublicStatic; method = plain_name (codes "go") })) (codes "java.lang.Object::s:go;V")
    × IsTold (static_call object (codes "go")) (static_method (codes "go") None ∷ []) (abstract_target (record { class = object; namespace = PublicStatic; method = plain_name (codes "go") })) (codes "java.lang.Object::s:go;V")
    × IsTold static_field [] (missing_field object (codes "f")) (codes "java.lang.Object::x:f")
    × IsTold (new_object nowhere (codes "I") (plain_name init) no_terms) [] (wrong_kind (codes "I")) (codes "I")
    × IsTold (load_module nowhere object) [] (wrong_kind object) object
    × IsTold call_m [] (abstract_target (public_member (codes "java.lang.Boolean") (plain_name (codes "m")))) (codes "java.lang.Boolean::f:m;V")
    × IsTold call_as_i [] (missing_method (public_member (codes "I") (plain_name (codes "m")))) (codes "I::f:m;V")

-- a public `m` without a body
abbrev pub abstract_m : MethodDef
abstract_m = a_method Public (codes "m") None

-- where `java.lang.Object` has it: what is told of a call that resolves to it, and of a reflective call that reaches it in a hijacked class
abbrev pub WorkedAbstractTargets : Type 0
WorkedAbstractTargets = IsTold call_as_i (abstract_m ∷ []) (abstract_target (public_member (codes "I") (plain_name (codes "m")))) (codes "I::f:m;V")
    × IsTold call_by_proxy (abstract_m ∷ []) (abstract_target (public_member (codes "java.lang.Boolean") (plain_name (codes "m")))) (codes "java.lang.Boolean::f:m;V")

-- a method that nothing calls, and which calls a class that isn't there
abbrev pub unused : MethodDef
unused = static_method (codes "go") (Some (static_call (codes "Gone") (codes "go")))

-- what only a body names that isn't reachable isn't needed
abbrev pub IsUnneeded : Type 0
IsUnneeded = Reachable (folder (skip nowhere) (unused ∷ [])) main_entries (fact.Needed (codes "Gone")) → ⊥

-- the static `go;V` of the class `Gone`, which isn't there
abbrev pub gone : Member
gone = record { class = codes "Gone"; namespace = PublicStatic; method = plain_name (codes "go") }

-- where `main` calls it, it isn't told beside its class
abbrev pub IsToldByItsClassAlone : Type 0
IsToldByItsClassAlone = Unresolved (folder (static_call (codes "Gone") (codes "go")) []) main_entries (missing_method gone) → ⊥
