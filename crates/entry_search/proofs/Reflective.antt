-- A name by which a body calls reflectively has no result.
use Rattle.std.proofs.Common.{◌≡◌, ◌<◌, arith, List, [], ◌∷◌, Contains, Option, Some, None, refl, subst, ⊎_elim, if◌then◌else◌}
use Rattle.std.specs.Prelude.{is_none}
use Rattle.std.proofs.lemmas.List.Elements.{Contains-append_cases, Contains-push_cases}
use Rattle.sj_emit_class_spec.specs.Entries.{IsReflective}
use Rattle.sj_emit_class_spec.specs.Forms.{of_base, of_test, of_cast, form_of, forms_among, forms_by_body}
use Rattle.sj_emit_class_spec.specs.Trees.{trees}
use Rattle.sj_emit_class_spec.specs.BodyForm.{BodyForm}
use Rattle.sj_emit_class_spec.specs.BodyFormVariants.{Test, Cast, Base, Load, Store, Reflective}
use Rattle.sj_names.specs.declared.method_names.MethodName.{MethodName}
use Rattle.sj_names.specs.declared.references.BaseRef.{BaseRef}
use Rattle.sj_names.specs.declared.references.TypeRef.{TypeRef}
use Rattle.sj_trees.specs.Term.{Term, load_module, store_module, apply, new_array, array_value, is_instance_of, as_instance_of}
use Rattle.sj_trees.specs.declared.types.IrType.{IrType}
use Rattle.sj_world.specs.Known.{Classes}
use Rattle.sj_world.specs.declared.facts.Fact.{Fact}

-- a form that names no method with a result
abbrev IsGood : BodyForm → Type 0
IsGood (Reflective p) = p.result ≡ None
IsGood _ = Unit {0}

abbrev AreGood : List BodyForm → Type 0
AreGood fs = (f : BodyForm) → Contains fs f → IsGood f

none_good : AreGood []
none_good f h = let p : h.0 < 0 = h.1 in absurd (omega arith)

one_good : (g : BodyForm) → IsGood g → AreGood (g ∷ [])
one_good g h f i = ⊎_elim (none_good f) (λ e. subst IsGood e h) (Contains-push_cases [] g f i)

call_good : (m : MethodName) (o : Option TypeRef) → m.result ≡ o → AreGood (if is_none o then Reflective m ∷ [] else [])
call_good m None e = one_good (Reflective m) e
call_good m (Some r) e = none_good

base_good : (b : BaseRef) → AreGood (of_base b)
base_good (BaseRef.Class c) = one_good (Base c) tt
base_good _ = none_good

test_good : (t : IrType) → AreGood (of_test t)
test_good (IrType.Class c) = one_good (Test c) tt
test_good (IrType.Array r) = base_good r.base
test_good _ = none_good

cast_good : (t : IrType) → AreGood (of_cast t)
cast_good (IrType.Class c) = one_good (Cast c) tt
cast_good (IrType.Array r) = base_good r.base
cast_good _ = none_good

form_good : (t : Term) → AreGood (form_of t)
form_good (load_module p c) = one_good (Load c) tt
form_good (store_module p c e) = one_good (Store c) tt
form_good (apply p e m ts t) = call_good m m.result refl
form_good (new_array p r e) = base_good r.base
form_good (array_value p r ts) = base_good r.base
form_good (is_instance_of p e t) = test_good t
form_good (as_instance_of p e t) = cast_good t
form_good _ = none_good

among_good : (ts : List Term) → AreGood (forms_among ts)
among_good [] f i = none_good f i
among_good (t ∷ ts) f i = ⊎_elim (form_good t f) (among_good ts f) (Contains-append_cases (form_of t) (forms_among ts) f i)

body_good : (o : Option Term) → AreGood (forms_by_body o)
body_good None = none_good
body_good (Some e) = among_good (trees e)

pub without_result : (w : Classes) (facts : List Fact) (p : MethodName) → IsReflective w facts p → p.result ≡ None
without_result w facts p h = body_good h.definition.body (Reflective p) h.calls
