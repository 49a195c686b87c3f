-- The forms of a body for which a class needs code of its own.
use Rattle.std.specs.Prelude.{List, [], ◌∷◌, Option, Some, None, is_none, if◌then◌else◌}
use Rattle.std.specs.List.{flat_map}
use Rattle.sj_names.specs.declared.method_names.MethodName.{MethodName}
use Rattle.sj_names.specs.declared.references.BaseRef.{BaseRef}
use Rattle.sj_trees.specs.Term.{Term, load_module, store_module, apply, new_array, array_value, is_instance_of, as_instance_of}
use Rattle.sj_trees.specs.declared.classes.MethodDef.{MethodDef}
use Rattle.sj_trees.specs.declared.types.IrType.{IrType}
use Rattle.sj_infos.specs.declared.forms.BodyForm.{BodyForm}
use Rattle.sj_infos.specs.declared.forms.BodyForm.TheVariants.{Test, Cast, Base, Load, Store, Reflective}
use Rattle.sj_infos.specs.Trees.{trees}

-- a method name without a result is reflective
abbrev pub of_call : MethodName → List BodyForm
of_call m = if is_none m.result then Reflective m ∷ [] else []

-- the class at the base of an array
abbrev pub of_base : BaseRef → List BodyForm
of_base (BaseRef.Class c) = Base c ∷ []
of_base _ = []

abbrev pub of_test : IrType → List BodyForm
of_test (IrType.Class c) = Test c ∷ []
of_test (IrType.Array r) = of_base r.base
of_test _ = []

abbrev pub of_cast : IrType → List BodyForm
of_cast (IrType.Class c) = Cast c ∷ []
of_cast (IrType.Array r) = of_base r.base
of_cast _ = []

-- the form that a tree is
abbrev pub form_of : Term → List BodyForm
form_of (load_module p c) = Load c ∷ []
form_of (store_module p c e) = Store c ∷ []
form_of (apply p e m ts t) = of_call m
form_of (new_array p r e) = of_base r.base
form_of (array_value p r ts) = of_base r.base
form_of (is_instance_of p e t) = of_test t
form_of (as_instance_of p e t) = of_cast t
form_of _ = []

abbrev pub forms_among : List Term → List BodyForm
forms_among = flat_map form_of

-- the forms of a body, tree by tree
abbrev pub forms_in : Term → List BodyForm
forms_in body = forms_among (trees body)

abbrev pub forms_by_body : Option Term → List BodyForm
forms_by_body None = []
forms_by_body (Some body) = forms_in body

-- the forms of a method; an abstract one has none
abbrev pub forms_by : MethodDef → List BodyForm
forms_by m = forms_by_body m.body
