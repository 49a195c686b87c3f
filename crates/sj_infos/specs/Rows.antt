-- Small bodies, and what they ask for.
use Rattle.std.specs.Prelude.{◌≡◌, ℕ, pos, Bool, true, false, List, [], ◌∷◌, Some, None, codes}
use Rattle.sj_names.specs.declared.method_names.MethodName.{MethodName}
use Rattle.sj_names.specs.declared.method_names.Namespace.TheVariants.{Public, Constructor}
use Rattle.sj_names.specs.declared.references.BaseRef.{BaseRef}
use Rattle.sj_names.specs.declared.references.TypeRef.{TypeRef}
use Rattle.sj_trees.specs.Erase.{nowhere}
use Rattle.sj_trees.specs.Term.{Term, Terms, no_terms, more_terms, var_def, block_of, assign, new_object, select, apply, apply_statically, binary_op, new_array, array_select, as_instance_of, null_literal, int_literal, var_ref}
use Rattle.sj_trees.specs.declared.operators.BinaryOp.TheVariants.{IntDivide}
use Rattle.sj_trees.specs.declared.types.IrType.{IrType}
use Rattle.sj_infos.specs.declared.infos.Info.TheVariants.{New, Field, Static, Resolved, Called, Reflective, Class, ArrayForm, Throws}
use Rattle.sj_infos.specs.Infos.{asked_in}

abbrev pub a_class : List ℕ
a_class = codes "A"

abbrev pub a_type : IrType
a_type = IrType.Class a_class

abbrev pub init : MethodName
init = record { simple = codes "<init>"; params = []; result = Some TypeRef.Void }

abbrev pub method : MethodName
method = record { simple = codes "m"; params = []; result = Some TypeRef.Void }

abbrev pub proxy : MethodName
proxy = record { simple = codes "m"; params = []; result = None }

abbrev pub new_a : Term
new_a = new_object nowhere a_class init no_terms

abbrev pub x : Term
x = var_ref nowhere (codes "x") a_type

-- a field of a local, mutable or not, that is a new object
abbrev pub field_of_local : Bool → Term
field_of_local mutable = block_of nowhere (more_terms (var_def nowhere (codes "x") a_type mutable new_a) (more_terms (select nowhere x a_class (codes "f") IrType.Int) no_terms))

-- an element of an array of this base is set
abbrev pub store : BaseRef → IrType → Term
store base t = assign nowhere (array_select nowhere (new_array nowhere (record { dimensions = 1; base = base }) (int_literal nowhere (pos 1))) (int_literal nowhere (pos 0)) t) (null_literal nowhere)

abbrev pub division : ℕ → Term
division n = binary_op nowhere IntDivide (int_literal nowhere (pos 1)) (int_literal nowhere (pos n))

pub record BodiesAsk : Type 0 where
  pub mutable_local : asked_in (field_of_local true) ≡ New a_class init ∷ Field a_class (codes "f") false ∷ Throws (codes "java.lang.NullPointerException") ∷ []
  pub sure_local : asked_in (field_of_local false) ≡ New a_class init ∷ Field a_class (codes "f") false ∷ []
  pub objects : asked_in (store (BaseRef.Class a_class) a_type) ≡ Throws (codes "java.lang.ArrayStoreException") ∷ Throws (codes "java.lang.ArrayIndexOutOfBoundsException") ∷ Class a_class ∷ ArrayForm ∷ Throws (codes "java.lang.NegativeArraySizeException") ∷ []
  pub ints : asked_in (store BaseRef.Int IrType.Int) ≡ Throws (codes "java.lang.ArrayIndexOutOfBoundsException") ∷ ArrayForm ∷ Throws (codes "java.lang.NegativeArraySizeException") ∷ []
  pub by_zero : asked_in (division 0) ≡ Throws (codes "java.lang.ArithmeticException") ∷ []
  pub by_two : asked_in (division 2) ≡ []
  pub called : asked_in (apply nowhere x method no_terms IrType.NoType) ≡ Called a_class method ∷ Throws (codes "java.lang.NullPointerException") ∷ []
  pub called_on_null : asked_in (apply nowhere (null_literal nowhere) method no_terms IrType.NoType) ≡ Throws (codes "java.lang.NullPointerException") ∷ []
  pub reflective : asked_in (apply nowhere x proxy no_terms IrType.Any) ≡ Reflective proxy ∷ Throws (codes "java.lang.NullPointerException") ∷ Throws (codes "java.lang.NoSuchMethodException") ∷ []
  pub resolved : asked_in (apply_statically nowhere new_a a_class Public method no_terms IrType.NoType) ≡ Resolved a_class method ∷ New a_class init ∷ []
  pub constructor_call : asked_in (apply_statically nowhere new_a a_class Constructor init no_terms IrType.NoType) ≡ Static (record { class = a_class; namespace = Constructor; method = init }) ∷ New a_class init ∷ []
  pub cast : asked_in (as_instance_of nowhere (null_literal nowhere) a_type) ≡ Class a_class ∷ Throws (codes "java.lang.ClassCastException") ∷ []
  pub cast_to_any : asked_in (as_instance_of nowhere (null_literal nowhere) IrType.Any) ≡ []
