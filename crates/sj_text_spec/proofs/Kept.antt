-- What is listed may be listed, and has nothing that a listing doesn't say.
use Rattle.std.specs.Prelude.{◌≡◌, ℕ, ℤ, pos, negsuc, Bool, true, false, List, [], ◌∷◌, ◌^◌, ◌<◌, not, All, codes, Option, Some, None, MatchOption}
use Rattle.std.specs.List.{AllByRecursion}
use Rattle.std.specs.Str.{IsUtf8}
use Rattle.std.proofs.Common.{refl, ltb-true}
use Rattle.std.proofs.lemmas.List.Elements.{All-from_recursion}
use Rattle.js_tree.specs.Rules.{IsBelow}
use Rattle.js_tree.specs.Written.{Grammar, More, Separated, Each}
use Rattle.js_tree.specs.Spelling.{SpellsUnit, SpellsText}
use Rattle.sj_names.specs.declared.references.ArrayRef.{ArrayRef}
use Rattle.sj_names.specs.declared.method_names.MethodName.{MethodName}
use Rattle.sj_units.specs.Modified.{IsText}
use Rattle.sj_trees.specs.Term.{Term, Terms, no_terms, more_terms, Cases, no_cases, more_cases, var_def, skip, block_of, labeled, assign, return_to, if_then, while_loop, do_while, try_catch, try_finally, throw, match_on, new_object, load_module, store_module, select, select_static, apply, apply_statically, apply_static, unary_op, binary_op, new_array, array_value, array_length, array_select, is_instance_of, as_instance_of, undefined_literal, null_literal, boolean_literal, char_literal, byte_literal, short_literal, int_literal, long_literal, string_literal, var_ref, this_ref, log_line}
use Rattle.sj_trees.specs.declared.classes.ParamDef.{ParamDef}
use Rattle.sj_trees.specs.declared.classes.FieldDef.{FieldDef}
use Rattle.sj_trees.specs.declared.classes.MethodDef.{MethodDef}
use Rattle.sj_trees.specs.declared.classes.ClassDef.{ClassDef}
use Rattle.sj_trees.specs.declared.types.IrType.{IrType}
use Rattle.sj_trees.specs.declared.types.IrType.TheVariants as types
use Rattle.sj_text_spec.specs.Rules.{IsPlain, IsClass, IsMethod, IsArray, IsListedType, IsListedTree, AreListedTrees, AreListedCases, IsListedParam, IsListedField, IsListedMethod, HasListing}
use Rattle.sj_text_spec.specs.Spelling.{is_object, SpellsList, SpellsLiteral, SpellsPlainName, SpellsClassName, SpellsMethodName, SpellsArray, SpellsNatural, SpellsInteger, SpellsType, SpellsKey, SpellsTree, SpellsTrees, SpellsMoreTrees, SpellsCases, SpellsMoreCases, SpellsParam, SpellsField, SpellsBody, SpellsMethod, SpellsSuperclass, Lists}

turned : (b : Bool) → not b ≡ true → b ≡ false
turned true e = absurd cc
turned false e = refl

coded : (name text : List ℕ) → SpellsLiteral name text → IsUtf8 name
coded name text s = (s.characters, (s.scalars, s.coded))

keeps_plain : (name text : List ℕ) → SpellsPlainName name text → IsPlain name
unfolding SpellsPlainName
keeps_plain name text s = (s.holds, coded name text s.spelled)

keeps_class : (name text : List ℕ) → SpellsClassName name text → IsClass name
unfolding SpellsClassName
keeps_class name text s = (s.holds, coded name text s.spelled)

keeps_method : (m : MethodName) (text : List ℕ) → SpellsMethodName m text → IsMethod m
keeps_method m text s = (s.method_name, coded _ text s.spelled)

keeps_array : (r : ArrayRef) (text : List ℕ) → SpellsArray r text → IsArray r
keeps_array r text s = (s.reference, coded _ text s.spelled)

keeps_natural : (limit n : ℕ) (text : List ℕ) → SpellsNatural limit n text → n < limit
unfolding SpellsNatural
keeps_natural limit n text s = ltb-true n limit s.holds

keeps_integer : (limit : ℕ) (z : ℤ) (text : List ℕ) → SpellsInteger limit z text → IsBelow limit z
unfolding SpellsInteger
keeps_integer limit (pos n) text s = ltb-true n limit s.holds
keeps_integer limit (negsuc n) text s = ltb-true n limit s.holds

each_unit : (us text : List ℕ) → Each SpellsUnit us text → AllByRecursion (λ u. u < 2 ^ 16) us
unfolding Each SpellsUnit
each_unit [] text s = tt
each_unit (u ∷ us) text s = (ltb-true u (2 ^ 16) s.first.holds, each_unit us s.back s.second)

keeps_text : (us text : List ℕ) → SpellsText us text → IsText us
unfolding SpellsText
keeps_text us text s = All-from_recursion _ us (each_unit us s.second.front s.second.first)

keeps_type : (t : IrType) (text : List ℕ) → SpellsType t text → IsListedType t
unfolding SpellsType
keeps_type types.Any text s = tt
keeps_type types.Nothing text s = tt
keeps_type types.Undefined text s = tt
keeps_type types.Boolean text s = tt
keeps_type types.Char text s = tt
keeps_type types.Byte text s = tt
keeps_type types.Short text s = tt
keeps_type types.Int text s = tt
keeps_type types.Long text s = tt
keeps_type types.String text s = tt
keeps_type types.Null text s = tt
keeps_type (types.Class c) text s = (keeps_class c s.second.front s.second.first.spelled, turned (is_object c) s.second.first.holds)
keeps_type (types.Array r) text s = keeps_array r s.second.front s.second.first
keeps_type types.NoType text s = tt

-- ---- lists

more_kept : {A : Type 0} {P : A → Grammar} {Keeps : A → Type 0} → ((x : A) (t : List ℕ) → P x t → Keeps x) → (xs : List A) (t : List ℕ) → More (codes " ") P xs t → AllByRecursion Keeps xs
unfolding More
more_kept law [] t h = tt
more_kept law (x ∷ xs) t h = (law x _ h.second.first, more_kept law xs _ h.second.second)

separated_kept : {A : Type 0} {P : A → Grammar} {Keeps : A → Type 0} → ((x : A) (t : List ℕ) → P x t → Keeps x) → (xs : List A) (t : List ℕ) → Separated (codes " ") P xs t → AllByRecursion Keeps xs
unfolding Separated
separated_kept law [] t h = tt
separated_kept law (x ∷ xs) t h = (law x _ h.first, more_kept law xs _ h.second)

list_kept : {A : Type 0} (P : A → Grammar) (Keeps : A → Type 0) → ((x : A) (t : List ℕ) → P x t → Keeps x) → (xs : List A) (t : List ℕ) → SpellsList P xs t → All Keeps xs
list_kept P Keeps law xs t h = All-from_recursion Keeps xs (separated_kept law xs h.second.front h.second.first)

-- ---- trees

mutual
  unfolding SpellsTree SpellsTrees SpellsMoreTrees SpellsCases SpellsMoreCases

  keeps_tree : (e : Term) (text : List ℕ) → SpellsTree e text → IsListedTree e
  keeps_tree (var_def p x t b e) text h = (keeps_plain _ _ h.spelled.second.second.second.first, keeps_type _ _ h.spelled.second.second.second.second.second.first, keeps_tree e _ h.spelled.second.second.second.second.second.second.second.second.second.first)
  keeps_tree (skip p) text h = tt
  keeps_tree (block_of p es) text h = (keeps_trees es _ h.spelled.second.second.second.first.second.first)
  keeps_tree (labeled p l t e) text h = (keeps_plain _ _ h.spelled.second.second.second.first, keeps_type _ _ h.spelled.second.second.second.second.second.first, keeps_tree e _ h.spelled.second.second.second.second.second.second.second.first)
  keeps_tree (assign p e d) text h = (keeps_tree e _ h.spelled.second.second.second.first, keeps_tree d _ h.spelled.second.second.second.second.second.first)
  keeps_tree (return_to p e l) text h = (keeps_tree e _ h.spelled.second.second.second.first, keeps_plain _ _ h.spelled.second.second.second.second.second.first)
  keeps_tree (if_then p c e d t) text h = (keeps_tree c _ h.spelled.second.second.second.first, keeps_tree e _ h.spelled.second.second.second.second.second.first, keeps_tree d _ h.spelled.second.second.second.second.second.second.second.first, keeps_type _ _ h.spelled.second.second.second.second.second.second.second.second.second.first)
  keeps_tree (while_loop p c e) text h = (keeps_tree c _ h.spelled.second.second.second.first, keeps_tree e _ h.spelled.second.second.second.second.second.first)
  keeps_tree (do_while p e c) text h = (keeps_tree e _ h.spelled.second.second.second.first, keeps_tree c _ h.spelled.second.second.second.second.second.first)
  keeps_tree (try_catch p e x d t) text h = (keeps_tree e _ h.spelled.second.second.second.first, keeps_plain _ _ h.spelled.second.second.second.second.second.first, keeps_tree d _ h.spelled.second.second.second.second.second.second.second.first, keeps_type _ _ h.spelled.second.second.second.second.second.second.second.second.second.first)
  keeps_tree (try_finally p e d) text h = (keeps_tree e _ h.spelled.second.second.second.first, keeps_tree d _ h.spelled.second.second.second.second.second.first)
  keeps_tree (throw p e) text h = (keeps_tree e _ h.spelled.second.second.second.first)
  keeps_tree (match_on p e cs d t) text h = (keeps_tree e _ h.spelled.second.second.second.first, keeps_cases cs _ h.spelled.second.second.second.second.second.first.second.first, keeps_tree d _ h.spelled.second.second.second.second.second.second.second.first, keeps_type _ _ h.spelled.second.second.second.second.second.second.second.second.second.first)
  keeps_tree (new_object p c g es) text h = (keeps_class _ _ h.spelled.second.second.second.first, keeps_method _ _ h.spelled.second.second.second.second.second.first, keeps_trees es _ h.spelled.second.second.second.second.second.second.second.first.second.first)
  keeps_tree (load_module p c) text h = (keeps_class _ _ h.spelled.second.second.second.first)
  keeps_tree (store_module p c e) text h = (keeps_class _ _ h.spelled.second.second.second.first, keeps_tree e _ h.spelled.second.second.second.second.second.first)
  keeps_tree (select p e c f t) text h = (keeps_tree e _ h.spelled.second.second.second.first, keeps_class _ _ h.spelled.second.second.second.second.second.first, keeps_plain _ _ h.spelled.second.second.second.second.second.second.second.first, keeps_type _ _ h.spelled.second.second.second.second.second.second.second.second.second.first)
  keeps_tree (select_static p c f t) text h = (keeps_class _ _ h.spelled.second.second.second.first, keeps_plain _ _ h.spelled.second.second.second.second.second.first, keeps_type _ _ h.spelled.second.second.second.second.second.second.second.first)
  keeps_tree (apply p e g es t) text h = (keeps_tree e _ h.spelled.second.second.second.first, keeps_method _ _ h.spelled.second.second.second.second.second.first, keeps_trees es _ h.spelled.second.second.second.second.second.second.second.first.second.first, keeps_type _ _ h.spelled.second.second.second.second.second.second.second.second.second.first)
  keeps_tree (apply_statically p e c s g es t) text h = (keeps_tree e _ h.spelled.second.second.second.first, keeps_class _ _ h.spelled.second.second.second.second.second.first, keeps_method _ _ h.spelled.second.second.second.second.second.second.second.second.second.first, keeps_trees es _ h.spelled.second.second.second.second.second.second.second.second.second.second.second.first.second.first, keeps_type _ _ h.spelled.second.second.second.second.second.second.second.second.second.second.second.second.second.first)
  keeps_tree (apply_static p c s g es t) text h = (keeps_class _ _ h.spelled.second.second.second.first, keeps_method _ _ h.spelled.second.second.second.second.second.second.second.first, keeps_trees es _ h.spelled.second.second.second.second.second.second.second.second.second.first.second.first, keeps_type _ _ h.spelled.second.second.second.second.second.second.second.second.second.second.second.first)
  keeps_tree (unary_op p o e) text h = (keeps_tree e _ h.spelled.second.second.second.second.second.first)
  keeps_tree (binary_op p o e d) text h = (keeps_tree e _ h.spelled.second.second.second.second.second.first, keeps_tree d _ h.spelled.second.second.second.second.second.second.second.first)
  keeps_tree (new_array p r e) text h = (keeps_array _ _ h.spelled.second.second.second.first, keeps_tree e _ h.spelled.second.second.second.second.second.first)
  keeps_tree (array_value p r es) text h = (keeps_array _ _ h.spelled.second.second.second.first, keeps_trees es _ h.spelled.second.second.second.second.second.first.second.first)
  keeps_tree (array_length p e) text h = (keeps_tree e _ h.spelled.second.second.second.first)
  keeps_tree (array_select p e d t) text h = (keeps_tree e _ h.spelled.second.second.second.first, keeps_tree d _ h.spelled.second.second.second.second.second.first, keeps_type _ _ h.spelled.second.second.second.second.second.second.second.first)
  keeps_tree (is_instance_of p e t) text h = (keeps_tree e _ h.spelled.second.second.second.first, keeps_type _ _ h.spelled.second.second.second.second.second.first)
  keeps_tree (as_instance_of p e t) text h = (keeps_tree e _ h.spelled.second.second.second.first, keeps_type _ _ h.spelled.second.second.second.second.second.first)
  keeps_tree (undefined_literal p) text h = tt
  keeps_tree (null_literal p) text h = tt
  keeps_tree (boolean_literal p b) text h = tt
  keeps_tree (char_literal p v) text h = (keeps_natural _ _ _ h.spelled.second.second.second.first)
  keeps_tree (byte_literal p v) text h = (keeps_integer _ _ _ h.spelled.second.second.second.first)
  keeps_tree (short_literal p v) text h = (keeps_integer _ _ _ h.spelled.second.second.second.first)
  keeps_tree (int_literal p v) text h = (keeps_integer _ _ _ h.spelled.second.second.second.first)
  keeps_tree (long_literal p v) text h = (keeps_integer _ _ _ h.spelled.second.second.second.first)
  keeps_tree (string_literal p u) text h = (keeps_text _ _ h.spelled.second.second.second.first)
  keeps_tree (var_ref p x t) text h = (keeps_plain _ _ h.spelled.second.second.second.first, keeps_type _ _ h.spelled.second.second.second.second.second.first)
  keeps_tree (this_ref p t) text h = (keeps_type _ _ h.spelled.second.second.second.first)
  keeps_tree (log_line p e) text h = (keeps_tree e _ h.spelled.second.second.second.first)

  keeps_trees : (es : Terms) (text : List ℕ) → SpellsTrees es text → AreListedTrees es
  keeps_trees no_terms text h = tt
  keeps_trees (more_terms e es) text h = (keeps_tree e _ h.first, keeps_more_trees es _ h.second)

  keeps_more_trees : (es : Terms) (text : List ℕ) → SpellsMoreTrees es text → AreListedTrees es
  keeps_more_trees no_terms text h = tt
  keeps_more_trees (more_terms e es) text h = (keeps_tree e _ h.second.first, keeps_more_trees es _ h.second.second)

  keeps_cases : (cs : Cases) (text : List ℕ) → SpellsCases cs text → AreListedCases cs
  keeps_cases no_cases text h = tt
  keeps_cases (more_cases ks e cs) text h = (list_kept SpellsKey (IsBelow (2 ^ 31)) (keeps_integer (2 ^ 31)) ks _ h.first.second.first, keeps_tree e _ h.first.second.second.second.first, keeps_more_cases cs _ h.second)

  keeps_more_cases : (cs : Cases) (text : List ℕ) → SpellsMoreCases cs text → AreListedCases cs
  keeps_more_cases no_cases text h = tt
  keeps_more_cases (more_cases ks e cs) text h = (list_kept SpellsKey (IsBelow (2 ^ 31)) (keeps_integer (2 ^ 31)) ks _ h.second.first.second.first, keeps_tree e _ h.second.first.second.second.second.first, keeps_more_cases cs _ h.second.second)

-- ---- classes

keeps_param : (p : ParamDef) (text : List ℕ) → SpellsParam p text → IsListedParam p
unfolding SpellsParam
keeps_param p text h = let s0 = h.spelled.second.second in let s2 = s0.second.second.second.second in (keeps_plain _ _ s0.second.first, keeps_type _ _ s2.second.first)

keeps_field : (f : FieldDef) (text : List ℕ) → SpellsField f text → IsListedField f
unfolding SpellsField
keeps_field f text h = let s2 = h.spelled.second.second.second.second.second.second in (keeps_plain _ _ s2.second.first, keeps_type _ _ s2.second.second.second.first)

keeps_body : (b : Option Term) (text : List ℕ) → SpellsBody b text → MatchOption b (Unit {0}) IsListedTree
unfolding SpellsBody
keeps_body None text h = tt
keeps_body (Some t) text h = keeps_tree t text h

keeps_method_def : (m : MethodDef) (text : List ℕ) → SpellsMethod m text → IsListedMethod m
unfolding SpellsMethod
keeps_method_def m text h =
    let s1 = h.spelled.second.second.second.second in
    let s2 = s1.second.second in
    let s3 = s2.second.second in
    let s4 = s3.second.second in
    (keeps_method _ _ s1.second.first, list_kept SpellsParam IsListedParam keeps_param m.params _ s2.second.first, keeps_type _ _ s3.second.first, keeps_body m.body _ s4.second.first)

keeps_superclass : (c : Option (List ℕ)) (text : List ℕ) → SpellsSuperclass c text → MatchOption c (Unit {0}) IsClass
unfolding SpellsSuperclass
keeps_superclass None text h = tt
keeps_superclass (Some c) text h = keeps_class c text h

pub class_kept : (c : ClassDef) (text : List ℕ) → Lists c text → HasListing c
unfolding Lists
class_kept c text h =
    let s0 = h.spelled.second.second in
    let s1 = s0.second.second in
    let s2 = s1.second.second in
    let s3 = s2.second.second in
    let s4 = s3.second.second in
    let s5 = s4.second.second in
    record {
      name = keeps_class _ _ s0.second.first;
      superclass = keeps_superclass c.superclass _ s2.second.first;
      interfaces = list_kept SpellsClassName IsClass keeps_class c.interfaces _ s3.second.first;
      fields = list_kept SpellsField IsListedField keeps_field c.fields _ s4.second.first;
      methods = list_kept SpellsMethod IsListedMethod keeps_method_def c.methods _ s5.second.first;
    }
