-- The fields of classes that keep the rules: two have two properties, or two variables where they are static, and each begins at the zero of its type. Two classes have two cells.
use Rattle.std.proofs.Common.{◌≡◌, ℕ, Bool, true, false, List, [], ◌∷◌, ◌++◌, ◌&&◌, not, append_assoc, refl, sym, ap, ◌∙◌, subst, Contains, Option, Some, IsTrue, ⊎_elim, cond, codes, ◌<◌, arith}
use Rattle.std.specs.Prelude.{nat_eq}
use Rattle.std.specs.Cmp.Lexicographic.{pointwise}
use Rattle.std.proofs.lemmas.Bool.{and_parts, or_left}
use Rattle.std.proofs.lemmas.List.Concat.{flat_map-append}
use Rattle.agree_calls.proofs.Equal.{equals, is-equal, differs}
use Rattle.agree_calls.proofs.Lists.{nothing_in, in_front_or_behind, at_front, further_on}
use Rattle.ir_mean.specs.World.{World, class_of, instance_zero, zeros_in, static_zero, statics_in, zero_of}
use Rattle.ir_mean.specs.States.{Value}
use Rattle.js_tree.specs.Terms.{Name}
use Rattle.agree_calls.specs.Chains.{BeginsAtZero}
use Rattle.sj_emit_expr_spec.specs.Templates.{static_name}
use Rattle.sj_mangling.proofs.FunctionNames.{function_names_differ}
use Rattle.sj_mangling.specs.Bindings.{function_name, field_binding}
use Rattle.sj_mangling.specs.Mangling.{mangled, mangled_byte}
use Rattle.sj_mangling.specs.declared.bindings.FieldBinding.TheVariants.{Property}
use Rattle.sj_names.specs.Grammar.{is_class_name, is_plain_name}
use Rattle.sj_names.specs.MethodNames.{IsMethodName}
use Rattle.sj_names.specs.Same.{is_same_text}
use Rattle.sj_names.specs.declared.method_names.MethodName.{MethodName}
use Rattle.sj_names.specs.declared.method_names.Namespace.TheVariants.{Public}
use Rattle.sj_names.specs.declared.references.TypeRef.TheVariants.{Void}
use Rattle.agree_calls.specs.Settings.{Place, IsField, FieldsDiffer, IsStaticField, StaticsDiffer, IsClass, CellsDiffer, cell_name}
use Rattle.agree_calls.proofs.AgreeEarlyErrorsNames.{tails}
use Rattle.sj_trees.specs.declared.classes.ClassDef.{ClassDef}
use Rattle.sj_trees.specs.declared.classes.FieldDef.{FieldDef}
use Rattle.sj_trees.specs.declared.types.IrType.{IrType}
use Rattle.sj_trees.specs.declared.types.IrType.TheVariants.{Nothing}
use Rattle.file_declarations.specs.Declared.{FieldsAreKept}

-- a class that is found stands in the world under its name
record Found (w : World) (c : Name) (d : ClassDef) : Type 0 where
  listed : Contains w d
  named : d.name ≡ c

some_same : {A : Type 0} (a b : A) → Some a ≡ Some b → a ≡ b
some_same a b e = cc

found_in : (w : World) (c : Name) (d : ClassDef) → class_of w c ≡ Some d → Found w c d
found_in [] c d h = cc
found_in (e ∷ w) c d h = go (is_same_text c e.name) refl h (found_in w c d)
  where
    go : (b : Bool) → is_same_text c e.name ≡ b → cond b (Some e) (class_of w c) ≡ Some d → (class_of w c ≡ Some d → Found w c d) → Found (e ∷ w) c d
    go true same k later = let i = some_same e d k in record { listed = subst (λ x. Contains (e ∷ w) x) i (at_front e w); named = ap (λ (x : ClassDef). x.name) (sym i) ∙ sym (is-equal c e.name same) }
    go false same k later = let r = later k in record { listed = further_on e w d r.listed; named = r.named }

-- a property is a method's function name but for its end
abbrev as_method : Name → MethodName
as_method f = record { simple = f; params = []; result = Some Void }

method_named : (f : Name) → IsTrue (is_plain_name f) → IsMethodName (as_method f)
method_named f h = record { simple = or_left (is_plain_name f) (pointwise nat_eq f (codes "<init>")) h; params = λ k d l. let none : k < 0 = l in absurd (omega (arith, none)); result = tt }

abbrev front : Name → Name
front c = codes "f_" ++ mangled c ++ codes "__"

behind_nothing : (xs : List ℕ) → xs ++ [] ≡ xs
behind_nothing [] = refl
behind_nothing (x ∷ xs) = ap (λ ys. x ∷ ys) (behind_nothing xs)

longer : (c f : Name) → function_name Public c (as_method f) ≡ field_binding Property c f ++ mangled (codes ";V")
longer c f = ap (λ x. front c ++ mangled (x ++ codes ";V")) (behind_nothing f) ∙ ap (λ x. front c ++ x) (flat_map-append mangled_byte f (codes ";V")) ∙ sym (append_assoc (front c) (mangled f) (mangled (codes ";V")))

properties_differ : (c f d g : Name) → IsTrue (is_class_name c) → IsTrue (is_class_name d) → IsTrue (is_plain_name f) → IsTrue (is_plain_name g) → field_binding Property d g ≡ field_binding Property c f → (d ≡ c) × (g ≡ f)
properties_differ c f d g hc hd hf hg e = let r = function_names_differ Public Public d c (as_method g) (as_method f) hd hc (method_named g hg) (method_named f hf) (longer d g ∙ ap (λ x. x ++ mangled (codes ";V")) e ∙ sym (longer c f)) in (r.1, ap (λ (m : MethodName). m.simple) r.2)

-- and so is a variable, but for its first letter
variables_differ : (c f d g : Name) → IsTrue (is_class_name c) → IsTrue (is_class_name d) → IsTrue (is_plain_name f) → IsTrue (is_plain_name g) → static_name d g ≡ static_name c f → (d ≡ c) × (g ≡ f)
variables_differ c f d g hc hd hf hg e = properties_differ c f d g hc hd hf hg (ap (λ x. 102 ∷ x) (tails 116 116 (behind_letter d g) (behind_letter c f) e))
  where
    behind_letter : Name → Name → Name
    behind_letter b x = codes "_" ++ mangled b ++ codes "__" ++ mangled x

-- two names that differ are told apart
unlike : (x y : Name) → is_same_text x y ≡ false → x ≡ y → ⊥
unlike x y h e = let k : true ≡ false = sym (equals y) ∙ ap (λ z. is_same_text z y) (sym e) ∙ h in cc

-- where two bindings are one only if their classes and their fields are, they are told apart by these
told_apart : (binding : Name → Name → Name) (c f d g : Name) → (binding d g ≡ binding c f → (d ≡ c) × (g ≡ f)) → pointwise nat_eq (binding d g) (binding c f) ≡ (is_same_text d c && is_same_text g f)
told_apart binding c f d g parts = go (is_same_text d c) refl (is_same_text g f) refl
  where
    go : (a : Bool) → is_same_text d c ≡ a → (b : Bool) → is_same_text g f ≡ b → pointwise nat_eq (binding d g) (binding c f) ≡ (is_same_text d c && is_same_text g f)
    go true h true k = ap (λ x. pointwise nat_eq (binding x g) (binding c f)) (is-equal d c h) ∙ ap (λ x. pointwise nat_eq (binding c x) (binding c f)) (is-equal g f k) ∙ equals (binding c f) ∙ sym (ap (λ b. b && is_same_text g f) h ∙ k)
    go true h false k = differs (binding d g) (binding c f) (λ e. unlike g f k (parts e).1) ∙ sym (ap (λ b. b && is_same_text g f) h ∙ k)
    go false h b k = differs (binding d g) (binding c f) (λ e. unlike d c h (parts e).0) ∙ sym (ap (λ b. b && is_same_text g f) h)

module _ (p : Place) (kept : FieldsAreKept p.classes) where
  record Grammar (c f : Name) : Type 0 where
    class : IsTrue (is_class_name c)
    field : IsTrue (is_plain_name f)

  in_grammar : (c f : Name) (t : IrType) → IsField p.classes c f t → Grammar c f
  in_grammar c f t i = let r = found_in p.classes c i.definition i.found in record { class = subst (λ x. IsTrue (is_class_name x)) r.named (kept.class_names i.definition r.listed); field = subst (λ x. IsTrue (is_plain_name x)) i.named (kept.field_names i.definition i.field r.listed i.among) }

  one_type : (c f : Name) (s t : IrType) → IsField p.classes c f s → IsField p.classes c f t → s ≡ t
  one_type c f s t i j = sym i.typed ∙ ap (λ (x : FieldDef). x.tpe) same ∙ j.typed
    where
      classes : i.definition ≡ j.definition
      classes = some_same i.definition j.definition (sym i.found ∙ j.found)

      same : i.field ≡ j.field
      same = kept.once j.definition i.field j.field (found_in p.classes c j.definition j.found).listed (subst (λ (d : ClassDef). Contains d.fields i.field) classes i.among) j.among (i.of_objects ∙ sym j.of_objects) (i.named ∙ sym j.named)

  properties : (c f d g : Name) (s t : IrType) → IsField p.classes c f s → IsField p.classes d g t → pointwise nat_eq (field_binding Property d g) (field_binding Property c f) ≡ (is_same_text d c && is_same_text g f)
  properties c f d g s t i j = told_apart (field_binding Property) c f d g (properties_differ c f d g one.class other.class one.field other.field)
    where
      one : Grammar c f
      one = in_grammar c f s i

      other : Grammar d g
      other = in_grammar d g t j

  pub fields_differ : FieldsDiffer p
  fields_differ = record { properties = properties; types = one_type }

  zero_is : (fs : List FieldDef) (f : FieldDef) → Contains fs f → f.is_static ≡ false → ((g : FieldDef) → Contains fs g → g.is_static ≡ false → g.name ≡ f.name → g ≡ f) → instance_zero fs f.name ≡ Some (zero_of f.tpe)
  zero_is [] f h s one = nothing_in f h
  zero_is (g ∷ gs) f h s one = ⊎_elim first (λ k. later (zero_is gs f k s (λ x i. one x (further_on g gs x i))) (not g.is_static && is_same_text f.name g.name) refl) (in_front_or_behind g gs f h)
    where
      chosen : Bool → Option Value
      chosen b = cond b (Some (zero_of g.tpe)) (instance_zero gs f.name)

      first : g ≡ f → instance_zero (g ∷ gs) f.name ≡ Some (zero_of f.tpe)
      first e = ap chosen (ap (λ (x : FieldDef). not x.is_static && is_same_text f.name x.name) e ∙ ap (λ b. not b && is_same_text f.name f.name) s ∙ equals f.name) ∙ ap (λ (x : FieldDef). Some (zero_of x.tpe)) e

      not_static : (b : Bool) → not b ≡ true → b ≡ false
      not_static false e = refl
      not_static true e = cc

      later : instance_zero gs f.name ≡ Some (zero_of f.tpe) → (b : Bool) → (not g.is_static && is_same_text f.name g.name) ≡ b → instance_zero (g ∷ gs) f.name ≡ Some (zero_of f.tpe)
      later behind true e = let r = and_parts (not g.is_static) (is_same_text f.name g.name) e in ap chosen e ∙ ap (λ (x : FieldDef). Some (zero_of x.tpe)) (one g (at_front g gs) (not_static g.is_static r.0) (sym (is-equal f.name g.name r.1)))
      later behind false e = ap chosen e ∙ behind

  pub begins : (d g : Name) (t : IrType) → IsField p.classes d g t → BeginsAtZero p d g t
  begins d g t i = record {
    zero = ap (λ o. zeros_in o g) i.found ∙ ap (instance_zero i.definition.fields) (sym i.named) ∙ zero_is i.definition.fields i.field i.among i.of_objects (λ x k s e. kept.once i.definition x i.field listed k i.among (s ∙ sym i.of_objects) e) ∙ ap (λ u. Some (zero_of u)) i.typed;
    values = λ e. kept.values i.definition i.field listed i.among (i.typed ∙ e);
  }
    where
      listed : Contains p.classes i.definition
      listed = (found_in p.classes d i.definition i.found).listed

  static_grammar : (c f : Name) (t : IrType) → IsStaticField p.classes c f t → Grammar c f
  static_grammar c f t i = let r = found_in p.classes c i.definition i.found in record { class = subst (λ x. IsTrue (is_class_name x)) r.named (kept.class_names i.definition r.listed); field = subst (λ x. IsTrue (is_plain_name x)) i.named (kept.field_names i.definition i.field r.listed i.among) }

  static_type : (c f : Name) (s t : IrType) → IsStaticField p.classes c f s → IsStaticField p.classes c f t → s ≡ t
  static_type c f s t i j = sym i.typed ∙ ap (λ (x : FieldDef). x.tpe) same ∙ j.typed
    where
      classes : i.definition ≡ j.definition
      classes = some_same i.definition j.definition (sym i.found ∙ j.found)

      same : i.field ≡ j.field
      same = kept.once j.definition i.field j.field (found_in p.classes c j.definition j.found).listed (subst (λ (d : ClassDef). Contains d.fields i.field) classes i.among) j.among (i.of_class ∙ sym j.of_class) (i.named ∙ sym j.named)

  variables : (c f d g : Name) (s t : IrType) → IsStaticField p.classes c f s → IsStaticField p.classes d g t → pointwise nat_eq (static_name d g) (static_name c f) ≡ (is_same_text d c && is_same_text g f)
  variables c f d g s t i j = told_apart static_name c f d g (variables_differ c f d g one.class other.class one.field other.field)
    where
      one : Grammar c f
      one = static_grammar c f s i

      other : Grammar d g
      other = static_grammar d g t j

  pub statics_differ : StaticsDiffer p
  statics_differ = record { variables = variables; types = static_type }

  class_grammar : (c : Name) → IsClass p.classes c → IsTrue (is_class_name c)
  class_grammar c i = let r = found_in p.classes c i.definition i.found in subst (λ x. IsTrue (is_class_name x)) r.named (kept.class_names i.definition r.listed)

  pub cells_differ : CellsDiffer p
  cells_differ c d i j = go (is_same_text d c) refl
    where
      -- the name of a property is made of that of a cell
      same : cell_name d ≡ cell_name c → d ≡ c
      same e = (properties_differ c (codes "x") d (codes "x") (class_grammar c i) (class_grammar d j) refl refl (ap (λ x. codes "f_" ++ x ++ codes "__" ++ mangled (codes "x")) (tails 95 95 (mangled d) (mangled c) (tails 110 110 (95 ∷ mangled d) (95 ∷ mangled c) e)))).0

      go : (b : Bool) → is_same_text d c ≡ b → pointwise nat_eq (cell_name d) (cell_name c) ≡ is_same_text d c
      go true h = ap (λ x. pointwise nat_eq (cell_name x) (cell_name c)) (is-equal d c h) ∙ equals (cell_name c) ∙ sym h
      go false h = differs (cell_name d) (cell_name c) (λ e. unlike d c h (same e)) ∙ sym h

  static_zero_is : (fs : List FieldDef) (f : FieldDef) → Contains fs f → f.is_static ≡ true → ((g : FieldDef) → Contains fs g → g.is_static ≡ true → g.name ≡ f.name → g ≡ f) → static_zero fs f.name ≡ Some (zero_of f.tpe)
  static_zero_is [] f h s one = nothing_in f h
  static_zero_is (g ∷ gs) f h s one = ⊎_elim first (λ k. later (static_zero_is gs f k s (λ x i. one x (further_on g gs x i))) (g.is_static && is_same_text f.name g.name) refl) (in_front_or_behind g gs f h)
    where
      chosen : Bool → Option Value
      chosen b = cond b (Some (zero_of g.tpe)) (static_zero gs f.name)

      first : g ≡ f → static_zero (g ∷ gs) f.name ≡ Some (zero_of f.tpe)
      first e = ap chosen (ap (λ (x : FieldDef). x.is_static && is_same_text f.name x.name) e ∙ ap (λ b. b && is_same_text f.name f.name) s ∙ equals f.name) ∙ ap (λ (x : FieldDef). Some (zero_of x.tpe)) e

      later : static_zero gs f.name ≡ Some (zero_of f.tpe) → (b : Bool) → (g.is_static && is_same_text f.name g.name) ≡ b → static_zero (g ∷ gs) f.name ≡ Some (zero_of f.tpe)
      later behind true e = let r = and_parts g.is_static (is_same_text f.name g.name) e in ap chosen e ∙ ap (λ (x : FieldDef). Some (zero_of x.tpe)) (one g (at_front g gs) r.0 (sym (is-equal f.name g.name r.1)))
      later behind false e = ap chosen e ∙ behind

  -- a static field begins at its zero, and its type has values
  pub record StaticBegins (d g : Name) (t : IrType) : Type 0 where
    pub zero : statics_in (class_of p.classes d) g ≡ Some (zero_of t)
    pub values : t ≡ Nothing → ⊥

  pub static_begins : (d g : Name) (t : IrType) → IsStaticField p.classes d g t → StaticBegins d g t
  static_begins d g t i = record {
    zero = ap (λ o. statics_in o g) i.found ∙ ap (static_zero i.definition.fields) (sym i.named) ∙ static_zero_is i.definition.fields i.field i.among i.of_class (λ x k s e. kept.once i.definition x i.field listed k i.among (s ∙ sym i.of_class) e) ∙ ap (λ u. Some (zero_of u)) i.typed;
    values = λ e. kept.values i.definition i.field listed i.among (i.typed ∙ e);
  }
    where
      listed : Contains p.classes i.definition
      listed = (found_in p.classes d i.definition i.found).listed
