-- What the forms of a body tell: it asks for the modules that it loads and the classes for which it tests, to which it casts and which it names as the base of arrays, and a name by which it calls reflectively has no result.
use Rattle.std.proofs.Common.{◌≡◌, Bool, true, false, List, [], ◌∷◌, Option, Some, None, refl, sym, ap, subst, Contains, inl, inr, if◌then◌else◌}
use Rattle.std.specs.Prelude.{is_none}
use Rattle.std.proofs.lemmas.List.Elements.{Contains-append_left, Contains-append_cases}
use Rattle.std.specs.List.{flat_map, list_any}
use Rattle.std.proofs.lemmas.List.Folds.{Any-from_list_any}
use Rattle.object_helpers.proofs.EachTyped.{in_all}
use Rattle.object_helpers.proofs.Members.{defined}
use Rattle.object_helpers.specs.Bodies.{AreBodies}
use Rattle.file_declarations.specs.Classes.{HasForm}
use Rattle.object_helpers.specs.EmittedMethods.{EmittedMethod}
use Rattle.object_helpers.specs.Used.{is_test_for, is_cast_to, is_base_of, is_load_of, is_store_of, is_tested, is_cast, is_based_on, is_loaded, is_stored}
use Rattle.sj_infos.specs.Forms.{form_of, of_base, of_call, of_test, of_cast, forms_in, forms_by_body}
use Rattle.sj_infos.specs.Infos.{asks, asked_by_body, of_base as asked_base, of_array, of_type, is_any, class_cast, negative_size}
use Rattle.sj_infos.specs.Sure.{sure_among}
use Rattle.sj_infos.specs.Trees.{trees}
use Rattle.sj_infos.specs.declared.forms.BodyForm.{BodyForm}
use Rattle.sj_infos.specs.declared.forms.BodyForm.TheVariants as forms
use Rattle.sj_infos.specs.declared.infos.Info.{Info}
use Rattle.sj_infos.specs.declared.infos.Info.TheVariants.{Load, Class, ArrayForm}
use Rattle.sj_names.proofs.Same.{impossible, text-same}
use Rattle.sj_names.specs.declared.entry_points.EntryPoint.{EntryPoint}
use Rattle.sj_names.specs.declared.method_names.MethodName.{MethodName}
use Rattle.sj_names.specs.declared.references.ArrayRef.{ArrayRef}
use Rattle.sj_names.specs.declared.references.BaseRef.{BaseRef}
use Rattle.sj_split.proofs.Members.{at_first, further}
use Rattle.sj_trees.specs.Term.{Term, load_module, store_module, apply, new_array, array_value, is_instance_of, as_instance_of}
use Rattle.sj_trees.specs.declared.types.IrType.{IrType}
use Rattle.sj_world.specs.Known.{Name, Classes}
use Rattle.sj_world.specs.declared.facts.Fact.{Fact}
use Rattle.sj_world.specs.declared.facts.Fact.TheVariants.{Body}
use Rattle.worklist.proofs.Inserted.{nothing_in, only_one}

-- what a list that is made of lists has is in one of them
pub record InOne {X Y : Type 0} (f : X → List Y) (xs : List X) (y : Y) : Type 0 where
  pub item : X
  pub among : Contains xs item
  pub within : Contains (f item) y

pub in_one : {X Y : Type 0} (f : X → List Y) (xs : List X) (y : Y) → Contains (flat_map f xs) y → InOne f xs y
in_one f [] y h = nothing_in y h
in_one f (x ∷ xs) y h = elim (Contains-append_cases (f x) (flat_map f xs) y h) [
  | inl i ↦ record { item = x; among = at_first x xs; within = i }
  | inr i ↦ later (in_one f xs y i)
]
  where
    later : InOne f xs y → InOne f (x ∷ xs) y
    later o = record { item = o.item; among = further x o.item xs o.among; within = o.within }

abbrev pub Told : List Info → BodyForm → Type 0
Told asked (forms.Load c) = Contains asked (Load c)
Told asked (forms.Reflective p) = is_none p.result ≡ true
Told asked (forms.Test c) = Contains asked (Class c)
Told asked (forms.Cast c) = Contains asked (Class c)
Told asked (forms.Base c) = Contains asked (Class c)
Told asked _ = Unit {0}

abbrev Tells : List Info → List BodyForm → Type 0
Tells asked fs = (f : BodyForm) → Contains fs f → Told asked f

one_tells : (asked : List Info) (g : BodyForm) → Told asked g → Tells asked (g ∷ [])
one_tells asked g h f i = subst (Told asked) (only_one g f i) h

none_tells : (asked : List Info) → Tells asked []
none_tells asked f i = nothing_in f i

base_tells : (asked : List Info) (b : BaseRef) → ((o : Info) → Contains (asked_base b) o → Contains asked o) → Tells asked (of_base b)
base_tells asked (BaseRef.Class c) h = one_tells asked (forms.Base c) (h (Class c) (at_first (Class c) []))
base_tells asked _ h = none_tells asked

array_tells : (asked : List Info) (r : ArrayRef) → ((o : Info) → Contains (of_array r) o → Contains asked o) → Tells asked (of_base r.base)
array_tells asked r h = base_tells asked r.base (λ o i. h o (Contains-append_left (asked_base r.base) (ArrayForm ∷ []) o i))

test_tells : (asked : List Info) (t : IrType) → ((o : Info) → Contains (of_type t) o → Contains asked o) → Tells asked (of_test t)
test_tells asked (IrType.Class c) h = one_tells asked (forms.Test c) (h (Class c) (at_first (Class c) []))
test_tells asked (IrType.Array r) h = array_tells asked r h
test_tells asked _ h = none_tells asked

cast_tells : (asked : List Info) (t : IrType) → ((o : Info) → Contains (of_type t) o → Contains asked o) → Tells asked (of_cast t)
cast_tells asked (IrType.Class c) h = one_tells asked (forms.Cast c) (h (Class c) (at_first (Class c) []))
cast_tells asked (IrType.Array r) h = array_tells asked r h
cast_tells asked _ h = none_tells asked

call_tells : (asked : List Info) (m : MethodName) → Tells asked (of_call m)
call_tells asked m = go (is_none m.result) refl
  where
    go : (b : Bool) → is_none m.result ≡ b → Tells asked (if b then forms.Reflective m ∷ [] else [])
    go true e = one_tells asked (forms.Reflective m) e
    go false e = none_tells asked

tree_tells : (names : List Name) (t : Term) → Tells (asks names t) (form_of t)
tree_tells names (load_module p c) = one_tells (asks names (load_module p c)) (forms.Load c) (at_first (Load c) [])
tree_tells names (store_module p c e) = one_tells (asks names (store_module p c e)) (forms.Store c) tt
tree_tells names (apply p e m ts t) = call_tells (asks names (apply p e m ts t)) m
tree_tells names (new_array p r e) = array_tells (asks names (new_array p r e)) r (λ o i. Contains-append_left (of_array r) negative_size o i)
tree_tells names (array_value p r ts) = array_tells (asks names (array_value p r ts)) r (λ o i. i)
tree_tells names (is_instance_of p e t) = test_tells (asks names (is_instance_of p e t)) t (λ o i. i)
tree_tells names (as_instance_of p e t) = cast_tells (asks names (as_instance_of p e t)) t (λ o i. Contains-append_left (of_type t) (if is_any t then [] else class_cast) o i)
tree_tells names t = none_tells (asks names t)

told_more : (some more : List Info) → ((o : Info) → Contains some o → Contains more o) → (f : BodyForm) → Told some f → Told more f
told_more some more h (forms.Load c) k = h (Load c) k
told_more some more h (forms.Reflective p) k = k
told_more some more h (forms.Test c) k = h (Class c) k
told_more some more h (forms.Cast c) k = h (Class c) k
told_more some more h (forms.Base c) k = h (Class c) k
told_more some more h _ k = tt

pub body_tells : (body : Option Term) → Tells (asked_by_body body) (forms_by_body body)
body_tells None f i = nothing_in f i
body_tells (Some e) f i =
    let names = sure_among [] (trees e) in
    let o = in_one form_of (trees e) f i in
    told_more (asks names o.item) (asked_by_body (Some e)) (λ x j. in_all (asks names) (trees e) o.item x o.among j) f (tree_tells names o.item f o.within)

test_is : (c : Name) (f : BodyForm) → is_test_for c f ≡ true → f ≡ forms.Test c
test_is c (forms.Test d) h = ap forms.Test (sym (text-same c d h))
test_is c _ h = impossible h

cast_is : (c : Name) (f : BodyForm) → is_cast_to c f ≡ true → f ≡ forms.Cast c
cast_is c (forms.Cast d) h = ap forms.Cast (sym (text-same c d h))
cast_is c _ h = impossible h

load_is : (c : Name) (f : BodyForm) → is_load_of c f ≡ true → f ≡ forms.Load c
load_is c (forms.Load d) h = ap forms.Load (sym (text-same c d h))
load_is c _ h = impossible h

base_is : (c : Name) (f : BodyForm) → is_base_of c f ≡ true → f ≡ forms.Base c
base_is c (forms.Base d) h = ap forms.Base (sym (text-same c d h))
base_is c _ h = impossible h

pub store_is : (c : Name) (f : BodyForm) → is_store_of c f ≡ true → f ≡ forms.Store c
store_is c (forms.Store d) h = ap forms.Store (sym (text-same c d h))
store_is c _ h = impossible h

-- a form that bodies have is one of a body that is needed, where the facts tell of these
module _ (w : Classes) (entries : List EntryPoint) (facts : List Fact) (all : List EmittedMethod) (bodies : AreBodies w entries all) (listed : (e : EmittedMethod) → Contains all e → Contains facts (Body e.member)) where
  form_there : (test : BodyForm → Bool) (form : BodyForm) → ((f : BodyForm) → test f ≡ true → f ≡ form) → list_any (λ (e : EmittedMethod). list_any test (forms_in e.its_body)) all ≡ true → HasForm w facts form
  form_there test form tells h =
      let m = Any-from_list_any (λ (e : EmittedMethod). list_any test (forms_in e.its_body)) all h in
      let i : Contains all m.1 = (m.0, m.2, m.3) in
      let f = Any-from_list_any test (forms_in m.1.its_body) m.4 in
      let found = bodies.found m.1 i in
      record {
        member = m.1.member;
        needed = listed m.1 i;
        definition = m.1.definition;
        defined = defined w m.1.member m.1.definition found.found;
        has = subst (λ (b : Option Term). Contains (forms_by_body b) form) (sym found.has_body) (subst (Contains (forms_in m.1.its_body)) (tells f.1 f.4) (f.0, f.2, f.3));
      }

  pub test_form : (c : Name) → is_tested all c ≡ true → HasForm w facts (forms.Test c)
  test_form c = form_there (is_test_for c) (forms.Test c) (test_is c)

  pub cast_form : (c : Name) → is_cast all c ≡ true → HasForm w facts (forms.Cast c)
  cast_form c = form_there (is_cast_to c) (forms.Cast c) (cast_is c)

  pub load_form : (c : Name) → is_loaded all c ≡ true → HasForm w facts (forms.Load c)
  load_form c = form_there (is_load_of c) (forms.Load c) (load_is c)

  pub base_form : (c : Name) → is_based_on all c ≡ true → HasForm w facts (forms.Base c)
  base_form c = form_there (is_base_of c) (forms.Base c) (base_is c)

  pub store_form : (c : Name) → is_stored all c ≡ true → HasForm w facts (forms.Store c)
  store_form c = form_there (is_store_of c) (forms.Store c) (store_is c)
