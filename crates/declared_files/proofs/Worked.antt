-- The three files declare what their code uses.
use Rattle.std.proofs.Common.{◌≡◌, ◌<◌, ◌||◌, ℕ, zero, suc, Bool, true, false, List, [], ◌∷◌, Some, None, codes, refl, sym, ap, subst, ⊎_elim, inl, inr, Contains, IsTrue, cond, slice_get, arith, ◌∙◌}
use Rattle.std.specs.Char.{encode_utf8}
use Rattle.std.specs.Ordering.{nat_cmp}
use Rattle.std.specs.Str.{is_utf8, chars}
use Rattle.std.specs.Cmp.Lexicographic.{slice_cmp}
use Rattle.std.specs.List.{IsDistinct}
use Rattle.std.specs.List.Sorted.{IsSorted}
use Rattle.std.proofs.lemmas.Bool.{or_cases}
use Rattle.outcomes.specs.Agreement.{Agree}
use Rattle.agree_body_rules.proofs.Equal.{is-equal}
use Rattle.agree_body_rules.proofs.Lists.{nothing_in, in_front_or_behind, at_front, further_on}
use Rattle.agree_soundness.proofs.Worked.{member-same, main_right as main_right_at_all, each_class, plain, OneField, the_field, field_is, object_laws}
use Rattle.agree_soundness.specs.Rules.{RightMember}
use Rattle.agree_soundness.specs.Worked.{class_name, field_name, init_name, get_name, init_method, get_method, main_method, gets, gets_field, its_field, object_world, main_member, object_use}
use Rattle.agree_soundness.specs.Worked as worked
use Rattle.agree_body_forms.specs.Built.{Usable, has_static, has_cell, members_alone, can_look_up}
use Rattle.file_declarations.specs.Declared.{alone, on_receiver, completing, FieldsAreKept}
use Rattle.file_tops.proofs.Run.{some_same}
use Rattle.sj_emit_help_spec.specs.Helpers.{failure_class, helper_name, helper_item, used_helpers, constants}
use Rattle.sj_emit_help_spec.specs.Words.{marker}
use Rattle.sj_emit_help_spec.specs.declared.kinds.Failure.{Failure}
use Rattle.sj_emit_help_spec.specs.declared.kinds.Helper.{Helper}
use Rattle.sj_emit_help_spec.specs.declared.kinds.Helper.TheVariants.{ArrayClass, Throws}
use Rattle.ir_mean.proofs.AncestorsFound.{ancestors_are_worked_out}
use Rattle.ir_mean.specs.Dispatch.{is_ancestor}
use Rattle.ir_mean.specs.Meaning.{with_message}
use Rattle.ir_mean.specs.Rows.{nowhere, object_name, object_with, main_entry, once}
use Rattle.ir_mean.specs.Shows.{ir_shows}
use Rattle.js_mean.specs.Shows.{class_marked, js_shows}
use Rattle.js_tree.specs.Names.{is_same_text}
use Rattle.js_tree.specs.Terms.{Name, Property, Item, object_item}
use Rattle.sj_desugar_spec.specs.Desugar.{member}
use Rattle.sj_names.proofs.Same.{impossible}
use Rattle.sj_names.specs.Grammar.{is_class_name, is_plain_name}
use Rattle.sj_names.specs.declared.entry_points.EntryPoint.{EntryPoint}
use Rattle.sj_names.specs.declared.method_names.MethodName.{MethodName}
use Rattle.sj_names.specs.declared.method_names.Member.{Member}
use Rattle.sj_names.specs.declared.method_names.Namespace.TheVariants.{Private, Constructor}
use Rattle.file_declarations.specs.Settings.{Top, a_function, a_method, a_constructor, a_dispatch, a_reflection, a_class, some_constants, a_static, a_setter, a_cell, a_loader, a_storer, a_test, a_cast, a_helper, is_named, is_usable, IsField}
use Rattle.agree_soundness.specs.Emitted.{initializer_member}
use Rattle.agree_soundness.specs.Methods.{KeepsRules}
use Rattle.sj_trees.specs.Term.{skip}
use Rattle.sj_trees.specs.declared.classes.FieldDef.{FieldDef}
use Rattle.sj_trees.specs.declared.classes.ClassDef.{ClassDef}
use Rattle.sj_trees.specs.declared.types.IrType.{IrType}
use Rattle.sj_trees.specs.declared.types.IrType.TheVariants.{Int, Nothing, NoType}
use Rattle.sj_world.specs.Known.{is_same}
use Rattle.sj_world.specs.Subtypes.{equal}
use Rattle.sj_world.specs.Tables.{AreAncestors}
use Rattle.sj_typing_spec.specs.Rules.{nothing_wanted, fitting, HasFieldType}
use Rattle.declared_files.specs.Declared.{ReceivedDeclared, as_method, Leads, Stands, Makes, Uses, FunctionDeclared, ClassDeclared, ConstantsDeclared, ArraysDeclared, ArrayCallDeclared, extends_none, extends_one, MadeDeclared, StaticDeclared, StoreDeclared, LoadDeclared, LookupDeclared, TellsApart, ReflectionDeclared, Declared, IsAmong, IsPublic, IsLawful, all_items, TestDeclared, CastDeclared, AreConstants}
use Rattle.declared_files.specs.Placed.{Placed, placed}
use Rattle.declared_files.specs.Worked.{object_constants, object_class, its_constants, its_class, init_function, get_function, main_function, main_file, class_file, object_file, main_use, class_use, use_of, three_files, spread}
use Rattle.declared_files.proofs.Whole.{files_agree}

-- what holds of the code of each file, and of code that uses nothing, holds of that of any
abbrev nothing : Usable
nothing = members_alone (λ m. false)

by_file : (P : Name → Usable → Type 0) → P main_file main_use → P class_file class_use → ((f : Name) → P f nothing) → (f : Name) → P f (use_of f)
by_file P main class none f = go (is_same_text f main_file) refl (is_same_text f class_file) refl
  where
    go : (a : Bool) → is_same_text f main_file ≡ a → (b : Bool) → is_same_text f class_file ≡ b → P f (cond a main_use (cond b class_use nothing))
    go true e b k = subst (λ x. P x main_use) (sym (is-equal f main_file e)) main
    go false e true k = subst (λ x. P x class_use) (sym (is-equal f class_file k)) class
    go false e false k = none f

-- what each file names leads to its file
main_leads : (t : Top) → is_named main_use t ≡ true → Leads spread main_file t
main_leads (a_function m) h = subst (λ k. Leads spread main_file (a_function k)) (sym (member-same m main_member h)) refl
main_leads (a_method m) h = subst (λ k. Leads spread main_file (a_method k)) (sym (member-same m (member class_name Private get_name) h)) refl
main_leads (a_dispatch m) h = impossible h
main_leads (a_reflection m) h = impossible h
main_leads (a_constructor m) h = subst (λ k. Leads spread main_file (a_constructor k)) (sym (member-same m (member class_name Constructor init_name) h)) refl
main_leads (a_class c) h = subst (λ k. Leads spread main_file (a_class k)) (is-equal class_name c h) refl
main_leads (some_constants c) h = impossible h
main_leads (a_static c g t) h = impossible h
main_leads (a_setter c g t) h = impossible h
main_leads (a_cell c) h = impossible h
main_leads (a_loader c) h = impossible h
main_leads (a_storer c) h = impossible h
main_leads (a_test t) h = impossible h
main_leads (a_cast t) h = impossible h
main_leads (a_helper k) h = impossible h

class_leads : (t : Top) → is_named class_use t ≡ true → Leads spread class_file t
class_leads (a_function m) h = impossible h
class_leads (a_method m) h = impossible h
class_leads (a_dispatch m) h = impossible h
class_leads (a_reflection m) h = impossible h
class_leads (a_constructor m) h = impossible h
class_leads (a_class c) h = subst (λ k. Leads spread class_file (a_class k)) (is-equal object_name c h) refl
class_leads (some_constants c) h = impossible h
class_leads (a_static c g t) h = impossible h
class_leads (a_setter c g t) h = impossible h
class_leads (a_cell c) h = impossible h
class_leads (a_loader c) h = impossible h
class_leads (a_storer c) h = impossible h
class_leads (a_test t) h = impossible h
class_leads (a_cast t) h = impossible h
class_leads (a_helper k) h = impossible h

nothing_leads : (f : Name) (t : Top) → is_named nothing t ≡ true → Leads spread f t
nothing_leads f (a_function m) h = impossible h
nothing_leads f (a_method m) h = impossible h
nothing_leads f (a_dispatch m) h = impossible h
nothing_leads f (a_reflection m) h = impossible h
nothing_leads f (a_constructor m) h = impossible h
nothing_leads f (a_class c) h = impossible h
nothing_leads f (some_constants c) h = impossible h
nothing_leads f (a_static c g t) h = impossible h
nothing_leads f (a_setter c g t) h = impossible h
nothing_leads f (a_cell c) h = impossible h
nothing_leads f (a_loader c) h = impossible h
nothing_leads f (a_storer c) h = impossible h
nothing_leads f (a_test t) h = impossible h
nothing_leads f (a_cast t) h = impossible h
nothing_leads f (a_helper k) h = impossible h

-- the field of the class
no_place : (i : ℕ) → i < 0 → ⊥
no_place i h = omega (arith, h)

field_type : HasFieldType object_world class_name field_name false Int
field_type = record { field = its_field; is_field = record { class = worked.its_class; is_class = refl; first = record { place = 0; stands = refl; has = record { name_is = refl; mark_is = refl }; none_before = λ i y h s k. no_place i h } }; type_is = refl }

-- each member keeps the rules by what its file can use
main_rules : KeepsRules object_world main_use object_name main_method gets
main_rules = record { typed = (record { meets = (tt, refl, equal refl, tt); built = refl; finds = tt }, (record { meets = (refl, tt); built = refl; finds = tt }, tt), tt); yields = nothing_wanted refl; boxed = refl; result = inl refl; values = λ x p e. impossible (cc); once = record { once = (tt, tt, λ x o i. i); parameters = tt; fresh = λ x o i. i } }

abbrev main_right : RightMember object_world object_world main_use main_member
main_right = record { definition = main_method; its_body = gets; found = refl; has_body = refl; rules = main_rules; names = record { once = tt; fresh = λ x n i. n }; parameters = tt; result_is = refl }

get_rules : KeepsRules object_world class_use class_name get_method gets_field
get_rules = record { typed = (record { meets = (equal refl, field_type); built = refl; finds = tt }, record { meets = tt; built = refl; finds = (tt, refl) }); yields = fitting (equal refl); boxed = refl; result = inr refl; values = λ x p e. impossible (cc); once = record { once = tt; parameters = tt; fresh = λ x o i. i } }

abbrev get_right : RightMember object_world object_world class_use (member class_name Private get_name)
get_right = record { definition = get_method; its_body = gets_field; found = refl; has_body = refl; rules = get_rules; names = record { once = tt; fresh = λ x n i. n }; parameters = tt; result_is = refl }

init_rules : KeepsRules object_world class_use class_name init_method (skip nowhere)
init_rules = record { typed = record { meets = tt; built = refl; finds = tt }; yields = nothing_wanted refl; boxed = refl; result = inl refl; values = λ x p e. impossible (cc); once = record { once = tt; parameters = tt; fresh = λ x o i. i } }

abbrev init_right : RightMember object_world object_world class_use (member class_name Constructor init_name)
init_right = record { definition = init_method; its_body = skip nowhere; found = refl; has_body = refl; rules = init_rules; names = record { once = tt; fresh = λ x n i. n }; parameters = tt; result_is = refl }

-- where each item stands
stands_at : (ls : List Placed) (n : ℕ) (l : Placed) → slice_get ls n ≡ Some l → Contains ls l
stands_at [] n l e = cc
stands_at (m ∷ ms) zero l e = subst (Contains (m ∷ ms)) (some_same m l e) (at_front m ms)
stands_at (m ∷ ms) (suc n) l e = further_on m ms l (stands_at ms n l e)

stands : (n : ℕ) (l : Placed) → slice_get (all_items spread) n ≡ Some l → Contains (all_items spread) l
stands n l e = stands_at (all_items spread) n l e

-- each member has its function
main_declared : FunctionDeclared spread (a_function main_member) alone main_member
main_declared = record { right = main_right; runs = refl; function = stands 6 (placed main_file main_function) refl }

get_declared : FunctionDeclared spread (a_method (member class_name Private get_name)) on_receiver (member class_name Private get_name)
get_declared = record { right = get_right; runs = refl; function = stands 5 (placed class_file get_function) refl }

abbrev init_declared : FunctionDeclared spread (a_constructor (member class_name Constructor init_name)) completing (member class_name Constructor init_name)
init_declared = record { right = init_right; runs = refl; function = stands 4 (placed class_file init_function) refl }

abbrev Completes : Member → Type 0
Completes m = (b : FunctionDeclared spread (a_constructor m) completing m) × (b.right.definition.result ≡ NoType)

-- the markers tell the classes
object_marked : class_marked (marker object_name) ≡ Some object_name
unfolding is_utf8 chars encode_utf8
object_marked = refl

its_marked : class_marked (marker class_name) ≡ Some class_name
unfolding is_utf8 chars encode_utf8
its_marked = refl

-- each class that is made has its constants and its class
object_declared : ClassDeclared spread object_name None
object_declared = record {
  user = class_file;
  there = refl;
  definition = object_with (main_method ∷ []);
  found = refl;
  fields = [];
  own = λ f h. nothing_in f h;
  whole = λ f h s. nothing_in f h;
  ancestors = object_name ∷ [];
  constants = stands 0 (placed object_file object_constants) refl;
  leads = refl;
  others = [];
  class = stands 1 (placed object_file object_class) refl;
  marked = object_marked;
  no_char = refl;
}

own_field : (f : FieldDef) → Contains (its_field ∷ []) f → its_field ≡ f
own_field f h = ⊎_elim (λ same. same) (λ none. nothing_in f none) (in_front_or_behind its_field [] f h)

its_declared : ClassDeclared spread class_name (Some object_name)
its_declared = record {
  user = main_file;
  there = refl;
  definition = worked.its_class;
  found = refl;
  fields = its_field ∷ [];
  own = λ f h. (h, ap (λ (x : FieldDef). x.is_static) (sym (own_field f h)));
  whole = λ f h s. h;
  ancestors = class_name ∷ object_name ∷ [];
  constants = stands 2 (placed class_file its_constants) refl;
  leads = refl;
  others = [];
  class = stands 3 (placed class_file its_class) refl;
  marked = its_marked;
  no_char = refl;
}

the_field_is : IsField object_world class_name field_name Int
the_field_is = record { definition = worked.its_class; field = its_field; found = refl; among = at_front its_field []; of_objects = refl; named = refl; typed = refl }

field_declared : (c f : Name) (t : IrType) → OneField c f t → IsField object_world c f t
field_declared c f t (the_field d e g) = subst (λ (x : Name). IsField object_world x f t) (sym d) (subst (λ (x : Name). IsField object_world class_name x t) (sym e) (subst (λ (u : IrType). IsField object_world class_name field_name u) (sym g) the_field_is))

-- each class has no field, or one
abbrev OfFields : (FieldDef → Type 0) → ClassDef → Type 0
OfFields P d = (f : FieldDef) → Contains d.fields f → P f

each_field : (P : FieldDef → Type 0) → P its_field → (d : ClassDef) → Contains object_world d → OfFields P d
each_field P p = each_class (OfFields P) (λ f h. nothing_in f h) (λ f h. subst P (own_field f h) p)

the_only_field : (d : ClassDef) → Contains object_world d → (f : FieldDef) → Contains d.fields f → its_field ≡ f
the_only_field = each_field (λ f. its_field ≡ f) refl

fields_kept : FieldsAreKept object_world
fields_kept = record {
  class_names = each_class (λ d. IsTrue (is_class_name d.name)) refl refl;
  field_names = λ d f i h. each_field (λ x. IsTrue (is_plain_name x.name)) refl d i f h;
  once = λ d f g i h k s e. sym (the_only_field d i f h) ∙ the_only_field d i g k;
  values = λ d f i h e. let none : Int ≡ Nothing = ap (λ (x : FieldDef). x.tpe) (the_only_field d i f h) ∙ e in cc;
}

main_makes : (c : Name) → class_name ≡ c → MadeDeclared spread c
main_makes c e = subst (MadeDeclared spread) e (record { above = object_name ∷ []; chain = refl; classes = extends_one class_name object_name [] its_declared refl (extends_none object_name object_declared) })

class_makes : (c : Name) → object_name ≡ c → MadeDeclared spread c
class_makes c e = subst (MadeDeclared spread) e (record { above = []; chain = refl; classes = extends_none object_name object_declared })

-- the classes above each
one_sorted : IsSorted (slice_cmp nat_cmp) (object_name ∷ [])
one_sorted k d l h = absurd (omega (arith, h))

two_sorted : IsSorted (slice_cmp nat_cmp) (class_name ∷ object_name ∷ [])
two_sorted zero d l h = refl
two_sorted (suc k) d l h = absurd (omega (arith, h))

one_distinct : IsDistinct is_same (object_name ∷ [])
unfolding IsDistinct
one_distinct = (tt, tt)

two_distinct : IsDistinct is_same (class_name ∷ object_name ∷ [])
unfolding IsDistinct
two_distinct = ((refl, tt), (tt, tt))

above_object : AreAncestors object_world object_name (object_name ∷ [])
above_object = record { sorted = one_sorted; once = one_distinct; exact = λ o. (λ i. (ancestors_are_worked_out object_world object_name o).0 (to o i), λ a. from o ((ancestors_are_worked_out object_world object_name o).1 a)) }
  where
    to : (o : Name) → Contains (object_name ∷ []) o → is_ancestor object_world object_name o ≡ true
    to o i = ⊎_elim (λ same. subst (λ (x : Name). is_ancestor object_world object_name x ≡ true) same refl) (λ none. nothing_in o none) (in_front_or_behind object_name [] o i)

    here : (o : Name) → is_same_text o object_name ≡ true → Contains (object_name ∷ []) o
    here o e = subst (Contains (object_name ∷ [])) (sym (is-equal o object_name e)) (at_front object_name [])

    from : (o : Name) → is_ancestor object_world object_name o ≡ true → Contains (object_name ∷ []) o
    from o h = ⊎_elim (here o) (λ k. ⊎_elim (λ e. here o (subst (λ (x : Name). is_same_text x object_name ≡ true) (is-equal object_name o e) refl)) (λ n. impossible n) (or_cases (is_same_text object_name o) false k)) (or_cases (is_same_text o object_name) (is_same_text object_name o || false) h)

above_class : AreAncestors object_world class_name (class_name ∷ object_name ∷ [])
above_class = record { sorted = two_sorted; once = two_distinct; exact = λ o. (λ i. (ancestors_are_worked_out object_world class_name o).0 (to o i), λ a. from o ((ancestors_are_worked_out object_world class_name o).1 a)) }
  where
    both : List Name
    both = class_name ∷ object_name ∷ []

    to : (o : Name) → Contains both o → is_ancestor object_world class_name o ≡ true
    to o i = ⊎_elim (λ same. subst (λ (x : Name). is_ancestor object_world class_name x ≡ true) same refl) (λ later. ⊎_elim (λ same. subst (λ (x : Name). is_ancestor object_world class_name x ≡ true) same refl) (λ none. nothing_in o none) (in_front_or_behind object_name [] o later)) (in_front_or_behind class_name (object_name ∷ []) o i)

    its_object : (o : Name) → o ≡ object_name → Contains both o
    its_object o e = subst (Contains both) (sym e) (further_on class_name (object_name ∷ []) object_name (at_front object_name []))

    from : (o : Name) → is_ancestor object_world class_name o ≡ true → Contains both o
    from o h = ⊎_elim (λ e. its_object o (is-equal o object_name e)) (λ k. ⊎_elim (λ e. subst (Contains both) (is-equal class_name o e) (at_front class_name (object_name ∷ []))) (λ m. ⊎_elim (λ n. ⊎_elim (λ e. its_object o (sym (is-equal object_name o e))) (λ q. impossible q) (or_cases (is_same_text object_name o) false n)) (λ q. impossible q) (or_cases (is_same_text object_name o || false) false m)) (or_cases (is_same_text class_name o) ((is_same_text object_name o || false) || false) k)) (or_cases (is_same_text o object_name) (is_same_text class_name o || ((is_same_text object_name o || false) || false)) h)

-- the constants of each are the only objects that the files declare
abbrev Tells : Item → Type 0
Tells i = (x : Name) (ps : List Property) → i ≡ object_item x ps → AreConstants object_world ps

abbrev AllTell : List Placed → Type 0
AllTell [] = Unit {0}
AllTell (l ∷ ls) = Tells l.item × AllTell ls

each_tells : (ls : List Placed) → AllTell ls → (l : Placed) → Contains ls l → Tells l.item
each_tells [] all l h = nothing_in l h
each_tells (m ∷ ms) all l h = ⊎_elim (λ same. subst (λ (k : Placed). Tells k.item) same all.0) (λ later. each_tells ms all.1 l later) (in_front_or_behind m ms l h)

tells_object : Tells object_constants
tells_object x ps e = let same : constants object_name (object_name ∷ []) ≡ ps = cc in record { class = object_name; ancestors = object_name ∷ []; are = sym same; known = refl; above = above_object }

tells_class : Tells its_constants
tells_class x ps e = let same : constants class_name (class_name ∷ object_name ∷ []) ≡ ps = cc in record { class = class_name; ancestors = class_name ∷ object_name ∷ []; are = sym same; known = refl; above = above_class }

all_tell : AllTell (all_items spread)
all_tell = (tells_object, (λ x ps e. absurd (cc), (tells_class, (λ x ps e. absurd (cc), (λ x ps e. absurd (cc), (λ x ps e. absurd (cc), (λ x ps e. absurd (cc), tt)))))))

pub all_declared : Declared spread
all_declared = record {
  leads = by_file (λ f u. (t : Top) → is_named u t ≡ true → Leads spread f t) main_leads class_leads nothing_leads;
  linked = by_file (λ f u. (m : Member) → u.linked m ≡ true → FunctionDeclared spread (a_function m) alone m) (λ m h. subst (λ k. FunctionDeclared spread (a_function k) alone k) (sym (member-same m main_member h)) main_declared) (λ m h. impossible h) (λ f m h. impossible h);
  received = by_file (λ f u. (m : Member) → u.received m ≡ true → ReceivedDeclared spread m) (λ m h. subst (ReceivedDeclared spread) (sym (member-same m (member class_name Private get_name) h)) (record { how = on_receiver; member = get_declared; receives = as_method })) (λ m h. impossible h) (λ f m h. impossible h);
  looked = by_file (λ f u. (c : Name) (m : MethodName) → can_look_up u c m ≡ true → LookupDeclared spread c m (u.lookup.has_hijacked c)) (λ c m h. impossible h) (λ c m h. impossible h) (λ f c m h. impossible h);
  reflected = by_file (λ f u. (m : MethodName) → u.reflected m ≡ true → ReflectionDeclared spread m) (λ m h. impossible h) (λ m h. impossible h) (λ f m h. impossible h);
  dispatched = by_file (λ f u. (m : MethodName) → u.dispatched m ≡ true → TellsApart spread m) (λ m h. impossible h) (λ m h. impossible h) (λ f m h. impossible h);
  on_arrays = by_file (λ f u. (m : MethodName) → u.on_arrays m ≡ true → ArrayCallDeclared spread m) (λ m h. impossible h) (λ m h. impossible h) (λ f m h. impossible h);
  built = by_file (λ f u. (m : Member) → u.built m ≡ true → Completes m) (λ m h. subst Completes (sym (member-same m (member class_name Constructor init_name) h)) (init_declared, refl)) (λ m h. impossible h) (λ f m h. impossible h);
  live = by_file (λ f u. (c : Name) → u.live c ≡ true → MadeDeclared spread c) (λ c h. main_makes c (is-equal class_name c h)) (λ c h. class_makes c (is-equal object_name c h)) (λ f c h. impossible h);
  bases = by_file (λ f u. (c : Name) → u.bases c ≡ true → ConstantsDeclared spread c) (λ c h. impossible h) (λ c h. impossible h) (λ f c h. impossible h);
  made = by_file (λ f u. (c : Name) → u.made c ≡ true → u.live c ≡ true) (λ c h. h) (λ c h. h) (λ f c h. impossible h);
  field = by_file (λ f u. (c g : Name) (t : IrType) → u.field c g t ≡ true → IsField object_world c g t) (λ c g t h. impossible h) (λ c g t h. field_declared c g t (field_is c g t h)) (λ f c g t h. impossible h);
  static_field = by_file (λ f u. (c g : Name) (t : IrType) → has_static u c g t ≡ true → StaticDeclared spread c g t) (λ c g t h. impossible h) (λ c g t h. impossible h) (λ f c g t h. impossible h);
  stored = by_file (λ f u. (c : Name) → has_cell u c ≡ true → StoreDeclared spread c) (λ c h. impossible h) (λ c h. impossible h) (λ f c h. impossible h);
  loaded = by_file (λ f u. (c : Name) → u.modules c ≡ true → LoadDeclared spread c) (λ c h. impossible h) (λ c h. impossible h) (λ f c h. impossible h);
  tests = by_file (λ f u. (t : IrType) → u.tests t ≡ true → TestDeclared spread f t) (λ t h. impossible h) (λ t h. impossible h) (λ f t h. impossible h);
  casts = by_file (λ f u. (t : IrType) → u.casts t ≡ true → CastDeclared spread f t) (λ t h. impossible h) (λ t h. impossible h) (λ f t h. impossible h);
  marked = λ f x ps i. each_tells (all_items spread) all_tell (placed f (object_item x ps)) i x ps refl;
  kept = fields_kept;
  ancestors = λ k. [];
  helper = by_file (λ f u. (h : Helper) → u.helper (helper_name h) ≡ true → Stands spread (a_helper h) (helper_item (λ k. []) h)) (λ h l. impossible l) (λ h l. impossible l) (λ f h l. impossible l);
  helpers = by_file (λ f u. (h k : Helper) → u.helper (helper_name h) ≡ true → Contains (used_helpers h) k → Uses spread (a_helper h) (a_helper k)) (λ h k l c. impossible l) (λ h k l c. impossible l) (λ f h k l c. impossible l);
  failures = by_file (λ f u. (x : Failure) → u.helper (helper_name (Throws x)) ≡ true → Makes spread (a_helper (Throws x)) (failure_class x) × Uses spread (a_helper (Throws x)) (a_constructor (member (failure_class x) Constructor with_message))) (λ x h. impossible h) (λ x h. impossible h) (λ f x h. impossible h);
  arrays = by_file (λ f u. u.helper (helper_name ArrayClass) ≡ true → ArraysDeclared spread) (λ h. impossible h) (λ h. impossible h) (λ f h. impossible h);
}

-- no class is the base of arrays there
live_alone : (live base : Bool) → base ≡ false → (live || base) ≡ true → live ≡ true
live_alone true base none h = refl
live_alone false base none h = impossible (sym none ∙ h)

-- what each file can use can be used of the classes
main_among : (t : Top) → is_usable main_use t ≡ true → is_usable object_use t ≡ true
main_among (a_function m) h = h
main_among (a_method m) h = h
main_among (a_dispatch m) h = impossible h
main_among (a_reflection m) h = impossible h
main_among (a_constructor m) h = h
main_among (a_class c) h = subst (λ k. object_use.live k ≡ true) (is-equal class_name c h) refl
main_among (some_constants c) h = subst (λ k. is_usable object_use (some_constants k) ≡ true) (is-equal class_name c (live_alone (main_use.live c) false refl h)) refl
main_among (a_static c g t) h = impossible h
main_among (a_setter c g t) h = impossible h
main_among (a_cell c) h = impossible h
main_among (a_loader c) h = impossible h
main_among (a_storer c) h = impossible h
main_among (a_test t) h = impossible h
main_among (a_cast t) h = impossible h
main_among (a_helper k) h = impossible h

class_among : (t : Top) → is_usable class_use t ≡ true → is_usable object_use t ≡ true
class_among (a_function m) h = impossible h
class_among (a_method m) h = impossible h
class_among (a_dispatch m) h = impossible h
class_among (a_reflection m) h = impossible h
class_among (a_constructor m) h = impossible h
class_among (a_class c) h = subst (λ k. object_use.live k ≡ true) (is-equal object_name c h) refl
class_among (some_constants c) h = subst (λ k. is_usable object_use (some_constants k) ≡ true) (is-equal object_name c (live_alone (class_use.live c) false refl h)) refl
class_among (a_static c g t) h = impossible h
class_among (a_setter c g t) h = impossible h
class_among (a_cell c) h = impossible h
class_among (a_loader c) h = impossible h
class_among (a_storer c) h = impossible h
class_among (a_test t) h = impossible h
class_among (a_cast t) h = impossible h
class_among (a_helper k) h = impossible h

none_among : (t : Top) → is_usable nothing t ≡ true → is_usable object_use t ≡ true
none_among (a_function m) h = impossible h
none_among (a_method m) h = impossible h
none_among (a_dispatch m) h = impossible h
none_among (a_reflection m) h = impossible h
none_among (a_constructor m) h = impossible h
none_among (a_class c) h = impossible h
none_among (some_constants c) h = impossible h
none_among (a_static c g t) h = impossible h
none_among (a_setter c g t) h = impossible h
none_among (a_cell c) h = impossible h
none_among (a_loader c) h = impossible h
none_among (a_storer c) h = impossible h
none_among (a_test t) h = impossible h
none_among (a_cast t) h = impossible h
none_among (a_helper k) h = impossible h

pub lawful : IsLawful spread object_use
lawful = record {
  among = by_file (λ f u. IsAmong u object_use) (record { tops = main_among; made = λ c h. subst (λ k. object_use.made k ≡ true) (is-equal class_name c h) refl; fields = λ c g t h. impossible h; targets = λ m. refl }) (record { tops = class_among; made = λ c h. subst (λ k. object_use.made k ≡ true) (is-equal object_name c h) refl; fields = λ c g t h. h; targets = λ m. refl }) (λ f. record { tops = none_among; made = λ c h. impossible h; fields = λ c g t h. impossible h; targets = λ m. refl });
  objects = object_laws;
  linked = λ m h. subst (RightMember object_world object_world object_use) (sym (member-same m main_member h)) main_right_at_all;
}

pub is_public : IsPublic spread (codes "main") once
is_public = record {
  last = refl;
  order = refl;
  good = refl;
  items = refl;
  declares = refl;
  linked = λ e i. ⊎_elim (λ same. subst (λ (x : EntryPoint). main_use.linked (initializer_member x) ≡ true) same refl) (λ none. nothing_in e none) (in_front_or_behind main_entry [] e i);
}

pub gets_alike : Agree (ir_shows object_world once (codes "main")) (js_shows three_files (codes "main"))
gets_alike = files_agree spread object_use once (codes "main") plain is_public all_declared lawful
