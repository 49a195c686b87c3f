-- Each class that may be listed has one listing, the one that is put.
use Rattle.std.specs.Prelude.{◌≡◌, ℕ, ℤ, pos, negsuc, Bool, true, false, List, [], ◌∷◌, ◌++◌, ◌+◌, ◌^◌, ◌<◌, ◌↔◌, All, codes, map, option_map, Option, Some, None, MatchOption}
use Rattle.std.specs.List.{AllByRecursion, flat_map}
use Rattle.std.specs.Char.Escape.{encode_utf16}
use Rattle.std.specs.Str.{chars, IsUtf8}
use Rattle.std.proofs.Common.{sym, refl, ◌∙◌, ap, subst, lt-ltb, append_assoc, append-nil}
use Rattle.std.proofs.lemmas.List.Elements.{recursion_from_All}
use Rattle.std.proofs.lemmas.Str.{chars_from_encodes, encodes-chars, scalars-chars}
use Rattle.js_tree.specs.Rules.{IsBelow}
use Rattle.js_tree.specs.Words.{unit_text}
use Rattle.js_tree.specs.Written.{Grammar, Is, ◌●◌, More, Separated, Putting, put, put_more, put_separated, put_each}
use Rattle.js_tree.specs.Texts.{put_unit}
use Rattle.js_tree.proofs.OneText.{IsText, literal, is_nothing, behind, where_holds, separated}
use Rattle.js_tree.proofs.TextLaws.{text_of_text}
use Rattle.sj_names.specs.References.{spelled_array}
use Rattle.sj_names.specs.MethodNames.{spelled_method}
use Rattle.sj_names.specs.declared.references.ArrayRef.{ArrayRef}
use Rattle.sj_names.specs.declared.method_names.MethodName.{MethodName}
use Rattle.sj_names.specs.declared.method_names.Namespace.{Namespace}
use Rattle.sj_names.specs.declared.method_names.Namespace.TheVariants as namespaces
use Rattle.sj_trees.specs.Erase.{erase, erase_all, erase_cases}
use Rattle.sj_trees.specs.Term.{Term, Terms, no_terms, more_terms, Cases, no_cases, more_cases, var_def, skip, block_of, labeled, assign, return_to, if_then, while_loop, do_while, try_catch, try_finally, throw, match_on, new_object, load_module, store_module, select, select_static, apply, apply_statically, apply_static, unary_op, binary_op, new_array, array_value, array_length, array_select, is_instance_of, as_instance_of, undefined_literal, null_literal, boolean_literal, char_literal, byte_literal, short_literal, int_literal, long_literal, string_literal, var_ref, this_ref, log_line}
use Rattle.sj_trees.specs.declared.classes.ClassKind.{ClassKind}
use Rattle.sj_trees.specs.declared.classes.ClassKind.TheVariants as kinds
use Rattle.sj_trees.specs.declared.classes.ParamDef.{ParamDef}
use Rattle.sj_trees.specs.declared.classes.FieldDef.{FieldDef}
use Rattle.sj_trees.specs.declared.classes.MethodDef.{MethodDef}
use Rattle.sj_trees.specs.declared.classes.ClassDef.{ClassDef}
use Rattle.sj_trees.specs.declared.operators.BinaryOp.{BinaryOp}
use Rattle.sj_trees.specs.declared.operators.UnaryOp.{UnaryOp}
use Rattle.sj_trees.specs.declared.types.IrType.{IrType}
use Rattle.sj_trees.specs.declared.types.IrType.TheVariants as types
use Rattle.sj_text_spec.specs.Rules.{IsPlain, IsClass, IsMethod, IsArray, IsListedType, IsListedTree, AreListedTrees, AreListedCases, IsListedParam, IsListedField, IsListedMethod, HasListing, bare_field, bare_method, bare}
use Rattle.sj_text_spec.specs.Spelling.{◌▪◌, End, Form, Bracketed, SpellsList, character_text, SpellsLiteral, SpellsPlainName, SpellsClassName, SpellsMethodName, SpellsArray, SpellsMark, SpellsNatural, SpellsInteger, SpellsUnaryOp, SpellsBinaryOp, SpellsNamespace, SpellsKind, SpellsType, SpellsKey, SpellsTree, SpellsTrees, SpellsMoreTrees, SpellsCases, SpellsMoreCases, SpellsParam, SpellsField, SpellsBody, SpellsMethod, SpellsSuperclass, Lists}
use Rattle.sj_text_spec.specs.Texts.{◌▹◌, put_end, put_form, put_bracketed, put_list, put_character, put_name, put_method_name, put_array, put_mark, put_natural, put_integer, put_unary_op, put_binary_op, put_namespace, put_kind, put_type, put_tree, put_trees, put_more_trees, put_cases, put_more_cases, put_param, put_field, put_body, put_method, put_superclass, put_class, listing_text}

-- ---- how parts stand together

part : {P Q : Grammar} {v w : Putting} → IsText P v → IsText Q w → IsText (P ▪ Q) (v ▹ w)
part a b = behind (literal (codes " ")) (behind a b)

end : IsText End put_end
end = literal (codes ")")

form : {U : Type 0} {P : Grammar} {w : Putting} (word : List ℕ) → U → IsText P w → IsText (Form U word P) (put_form word w)
form {U} {P} {w} word u a = whole (behind (literal (codes "(")) (behind (literal word) a))
  where
    whole : IsText (Is (codes "(") ● Is word ● P) (put_form word w) → IsText (Form U word P) (put_form word w)
    whole b = record { text = b.text; spelled = record { blank = u; spelled = b.spelled }; appended = b.appended; only = λ other s. b.only other s.spelled }

bracketed : {P : Grammar} {w : Putting} → IsText P w → IsText (Bracketed P) (put_bracketed w)
bracketed a = behind (literal (codes "[")) (behind a (literal (codes "]")))

-- the parts of a list, each of them changed by g
more_of : {A B : Type 0} (P : B → Grammar) (w : A → Putting) (Keeps : A → Type 0) (g : A → B) (separator : List ℕ)
    → ((x : A) → Keeps x → IsText (P (g x)) (w x)) → (xs : List A) → AllByRecursion Keeps xs → IsText (More separator P (map g xs)) (put_more separator w xs)
unfolding More
more_of P w Keeps g separator law [] k = is_nothing
more_of P w Keeps g separator law (x ∷ xs) k = behind (literal separator) (behind (law x k.0) (more_of P w Keeps g separator law xs k.1))

separated_of : {A B : Type 0} (P : B → Grammar) (w : A → Putting) (Keeps : A → Type 0) (g : A → B) (separator : List ℕ)
    → ((x : A) → Keeps x → IsText (P (g x)) (w x)) → (xs : List A) → AllByRecursion Keeps xs → IsText (Separated separator P (map g xs)) (put_separated separator w xs)
unfolding Separated
separated_of P w Keeps g separator law [] k = is_nothing
separated_of P w Keeps g separator law (x ∷ xs) k = behind (law x k.0) (more_of P w Keeps g separator law xs k.1)

-- ---- literals

each_put : (w : ℕ → Putting) (f : ℕ → List ℕ) → ((x : ℕ) (out : List ℕ) → w x out ≡ out ++ f x) → (xs out : List ℕ) → put_each w xs out ≡ out ++ flat_map f xs
each_put w f law [] out = sym (append-nil out)
each_put w f law (x ∷ xs) out = each_put w f law xs (w x out) ∙ (ap (λ (t : List ℕ). t ++ flat_map f xs) (law x out) ∙ append_assoc out (f x) (flat_map f xs))

unit_put : (u : ℕ) (out : List ℕ) → put_unit u out ≡ out ++ unit_text u
unfolding put
unit_put u out = refl

character_put : (c : ℕ) (out : List ℕ) → put_character c out ≡ out ++ character_text c
character_put c out = each_put put_unit unit_text unit_put (encode_utf16 c) out

text_of_literal : (name : List ℕ) → IsUtf8 name → IsText (SpellsLiteral name) (put_name name)
unfolding put
text_of_literal name u = record {
  text = codes "\"" ++ flat_map character_text (chars name) ++ codes "\"";
  spelled = record { characters = chars name; scalars = scalars-chars name u; coded = encodes-chars name u; is = refl };
  appended = λ out. appended out;
  only = λ other s. s.is ∙ ap (λ (cs : List ℕ). codes "\"" ++ flat_map character_text cs ++ codes "\"") (chars_from_encodes s.characters name u s.coded);
}
  where
    appended : (out : List ℕ) → put_each put_character (chars name) (out ++ codes "\"") ++ codes "\"" ≡ out ++ (codes "\"" ++ flat_map character_text (chars name) ++ codes "\"")
    appended out =
        ap (λ (t : List ℕ). t ++ codes "\"") (each_put put_character character_text character_put (chars name) (out ++ codes "\"") ∙ append_assoc out (codes "\"") (flat_map character_text (chars name)))
        ∙ append_assoc out (codes "\"" ++ flat_map character_text (chars name)) (codes "\"")

text_of_plain : (name : List ℕ) → IsPlain name → IsText (SpellsPlainName name) (put_name name)
unfolding SpellsPlainName
text_of_plain name k = where_holds k.0 (text_of_literal name k.1)

text_of_class_name : (name : List ℕ) → IsClass name → IsText (SpellsClassName name) (put_name name)
unfolding SpellsClassName
text_of_class_name name k = where_holds k.0 (text_of_literal name k.1)

text_of_method_name : (m : MethodName) → IsMethod m → IsText (SpellsMethodName m) (put_method_name m)
text_of_method_name m k = whole (text_of_literal (spelled_method m) k.1)
  where
    whole : IsText (SpellsLiteral (spelled_method m)) (put_method_name m) → IsText (SpellsMethodName m) (put_method_name m)
    whole b = record { text = b.text; spelled = record { method_name = k.0; spelled = b.spelled }; appended = b.appended; only = λ other s. b.only other s.spelled }

text_of_array : (r : ArrayRef) → IsArray r → IsText (SpellsArray r) (put_array r)
text_of_array r k = whole (text_of_literal (spelled_array r) k.1)
  where
    whole : IsText (SpellsLiteral (spelled_array r)) (put_array r) → IsText (SpellsArray r) (put_array r)
    whole b = record { text = b.text; spelled = record { reference = k.0; spelled = b.spelled }; appended = b.appended; only = λ other s. b.only other s.spelled }

-- ---- marks, numbers and words

text_of_mark : (b : Bool) → IsText (SpellsMark b) (put_mark b)
unfolding SpellsMark
text_of_mark false = literal _
text_of_mark true = literal _

text_of_natural : (limit n : ℕ) → n < limit → IsText (SpellsNatural limit n) (put_natural n)
unfolding SpellsNatural
text_of_natural limit n k = where_holds (lt-ltb _ _ k) (literal _)

text_of_integer : (limit : ℕ) (z : ℤ) → IsBelow limit z → IsText (SpellsInteger limit z) (put_integer z)
unfolding SpellsInteger
text_of_integer limit (pos n) k = where_holds (lt-ltb _ _ k) (literal _)
text_of_integer limit (negsuc n) k = where_holds (lt-ltb _ _ k) (behind (literal _) (literal _))

text_of_unary : (o : UnaryOp) → IsText (SpellsUnaryOp o) (put_unary_op o)
unfolding SpellsUnaryOp
text_of_unary o = literal _

text_of_binary : (o : BinaryOp) → IsText (SpellsBinaryOp o) (put_binary_op o)
unfolding SpellsBinaryOp
text_of_binary o = literal _

text_of_namespace : (n : Namespace) → IsText (SpellsNamespace n) (put_namespace n)
unfolding SpellsNamespace
text_of_namespace namespaces.Public = literal _
text_of_namespace namespaces.PublicStatic = literal _
text_of_namespace namespaces.Private = literal _
text_of_namespace namespaces.PrivateStatic = literal _
text_of_namespace namespaces.Constructor = literal _

text_of_kind : (k : ClassKind) → IsText (SpellsKind k) (put_kind k)
unfolding SpellsKind
text_of_kind kinds.Class = literal _
text_of_kind kinds.ModuleClass = literal _
text_of_kind kinds.Interface = literal _
text_of_kind kinds.HijackedClass = literal _

text_of_type : (t : IrType) → IsListedType t → IsText (SpellsType t) (put_type t)
unfolding SpellsType
text_of_type types.Any k = literal _
text_of_type types.Nothing k = literal _
text_of_type types.Undefined k = literal _
text_of_type types.Boolean k = literal _
text_of_type types.Char k = literal _
text_of_type types.Byte k = literal _
text_of_type types.Short k = literal _
text_of_type types.Int k = literal _
text_of_type types.Long k = literal _
text_of_type types.String k = literal _
text_of_type types.Null k = literal _
text_of_type (types.Class c) k = behind (literal _) (behind (where_holds (rw k.1 refl) (text_of_class_name c k.0)) end)
text_of_type (types.Array r) k = behind (literal _) (behind (text_of_array r k) end)
text_of_type types.NoType k = literal _

-- ---- trees

text_of_keys : (ks : List ℤ) → All (IsBelow (2 ^ 31)) ks → IsText (SpellsList SpellsKey ks) (put_list put_integer ks)
text_of_keys ks k = bracketed (separated _ (text_of_integer (2 ^ 31)) ks (recursion_from_All _ ks k))

mutual
  unfolding SpellsTree SpellsTrees SpellsMoreTrees SpellsCases SpellsMoreCases

  text_of_tree : (t : Term) → IsListedTree t → IsText (SpellsTree (erase t)) (put_tree t)
  text_of_tree (var_def p x t b e) k = form _ refl (part (text_of_plain x k.0) (part (text_of_type t k.1) (part (text_of_mark b) (part (text_of_tree e k.2) end))))
  text_of_tree (skip p) k = form _ refl end
  text_of_tree (block_of p es) k = form _ refl (part (bracketed (text_of_trees es k)) end)
  text_of_tree (labeled p l t e) k = form _ refl (part (text_of_plain l k.0) (part (text_of_type t k.1) (part (text_of_tree e k.2) end)))
  text_of_tree (assign p e d) k = form _ refl (part (text_of_tree e k.0) (part (text_of_tree d k.1) end))
  text_of_tree (return_to p e l) k = form _ refl (part (text_of_tree e k.0) (part (text_of_plain l k.1) end))
  text_of_tree (if_then p c e d t) k = form _ refl (part (text_of_tree c k.0) (part (text_of_tree e k.1) (part (text_of_tree d k.2) (part (text_of_type t k.3) end))))
  text_of_tree (while_loop p c e) k = form _ refl (part (text_of_tree c k.0) (part (text_of_tree e k.1) end))
  text_of_tree (do_while p e c) k = form _ refl (part (text_of_tree e k.0) (part (text_of_tree c k.1) end))
  text_of_tree (try_catch p e x d t) k = form _ refl (part (text_of_tree e k.0) (part (text_of_plain x k.1) (part (text_of_tree d k.2) (part (text_of_type t k.3) end))))
  text_of_tree (try_finally p e d) k = form _ refl (part (text_of_tree e k.0) (part (text_of_tree d k.1) end))
  text_of_tree (throw p e) k = form _ refl (part (text_of_tree e k) end)
  text_of_tree (match_on p e cs d t) k = form _ refl (part (text_of_tree e k.0) (part (bracketed (text_of_cases cs k.1)) (part (text_of_tree d k.2) (part (text_of_type t k.3) end))))
  text_of_tree (new_object p c g es) k = form _ refl (part (text_of_class_name c k.0) (part (text_of_method_name g k.1) (part (bracketed (text_of_trees es k.2)) end)))
  text_of_tree (load_module p c) k = form _ refl (part (text_of_class_name c k) end)
  text_of_tree (store_module p c e) k = form _ refl (part (text_of_class_name c k.0) (part (text_of_tree e k.1) end))
  text_of_tree (select p e c f t) k = form _ refl (part (text_of_tree e k.0) (part (text_of_class_name c k.1) (part (text_of_plain f k.2) (part (text_of_type t k.3) end))))
  text_of_tree (select_static p c f t) k = form _ refl (part (text_of_class_name c k.0) (part (text_of_plain f k.1) (part (text_of_type t k.2) end)))
  text_of_tree (apply p e g es t) k = form _ refl (part (text_of_tree e k.0) (part (text_of_method_name g k.1) (part (bracketed (text_of_trees es k.2)) (part (text_of_type t k.3) end))))
  text_of_tree (apply_statically p e c s g es t) k = form _ refl (part (text_of_tree e k.0) (part (text_of_class_name c k.1) (part (text_of_namespace s) (part (text_of_method_name g k.2) (part (bracketed (text_of_trees es k.3)) (part (text_of_type t k.4) end))))))
  text_of_tree (apply_static p c s g es t) k = form _ refl (part (text_of_class_name c k.0) (part (text_of_namespace s) (part (text_of_method_name g k.1) (part (bracketed (text_of_trees es k.2)) (part (text_of_type t k.3) end)))))
  text_of_tree (unary_op p o e) k = form _ refl (part (text_of_unary o) (part (text_of_tree e k) end))
  text_of_tree (binary_op p o e d) k = form _ refl (part (text_of_binary o) (part (text_of_tree e k.0) (part (text_of_tree d k.1) end)))
  text_of_tree (new_array p r e) k = form _ refl (part (text_of_array r k.0) (part (text_of_tree e k.1) end))
  text_of_tree (array_value p r es) k = form _ refl (part (text_of_array r k.0) (part (bracketed (text_of_trees es k.1)) end))
  text_of_tree (array_length p e) k = form _ refl (part (text_of_tree e k) end)
  text_of_tree (array_select p e d t) k = form _ refl (part (text_of_tree e k.0) (part (text_of_tree d k.1) (part (text_of_type t k.2) end)))
  text_of_tree (is_instance_of p e t) k = form _ refl (part (text_of_tree e k.0) (part (text_of_type t k.1) end))
  text_of_tree (as_instance_of p e t) k = form _ refl (part (text_of_tree e k.0) (part (text_of_type t k.1) end))
  text_of_tree (undefined_literal p) k = form _ refl end
  text_of_tree (null_literal p) k = form _ refl end
  text_of_tree (boolean_literal p b) k = form _ refl (part (text_of_mark b) end)
  text_of_tree (char_literal p v) k = form _ refl (part (text_of_natural _ v k) end)
  text_of_tree (byte_literal p v) k = form _ refl (part (text_of_integer _ v k) end)
  text_of_tree (short_literal p v) k = form _ refl (part (text_of_integer _ v k) end)
  text_of_tree (int_literal p v) k = form _ refl (part (text_of_integer _ v k) end)
  text_of_tree (long_literal p v) k = form _ refl (part (text_of_integer _ v k) end)
  text_of_tree (string_literal p u) k = form _ refl (part (text_of_text u k) end)
  text_of_tree (var_ref p x t) k = form _ refl (part (text_of_plain x k.0) (part (text_of_type t k.1) end))
  text_of_tree (this_ref p t) k = form _ refl (part (text_of_type t k) end)
  text_of_tree (log_line p e) k = form _ refl (part (text_of_tree e k) end)

  text_of_trees : (es : Terms) → AreListedTrees es → IsText (SpellsTrees (erase_all es)) (put_trees es)
  text_of_trees no_terms k = is_nothing
  text_of_trees (more_terms e es) k = behind (text_of_tree e k.0) (text_of_more_trees es k.1)

  text_of_more_trees : (es : Terms) → AreListedTrees es → IsText (SpellsMoreTrees (erase_all es)) (put_more_trees es)
  text_of_more_trees no_terms k = is_nothing
  text_of_more_trees (more_terms e es) k = behind (literal _) (behind (text_of_tree e k.0) (text_of_more_trees es k.1))

  text_of_cases : (cs : Cases) → AreListedCases cs → IsText (SpellsCases (erase_cases cs)) (put_cases cs)
  text_of_cases no_cases k = is_nothing
  text_of_cases (more_cases ks e cs) k = behind (behind (literal _) (behind (text_of_keys ks k.0) (part (text_of_tree e k.1) end))) (text_of_more_cases cs k.2)

  text_of_more_cases : (cs : Cases) → AreListedCases cs → IsText (SpellsMoreCases (erase_cases cs)) (put_more_cases cs)
  text_of_more_cases no_cases k = is_nothing
  text_of_more_cases (more_cases ks e cs) k = behind (literal _) (behind (behind (literal _) (behind (text_of_keys ks k.0) (part (text_of_tree e k.1) end))) (text_of_more_cases cs k.2))

-- ---- classes

text_of_param : (p : ParamDef) → IsListedParam p → IsText (SpellsParam p) (put_param p)
unfolding SpellsParam
text_of_param p k = form _ tt (part (text_of_plain p.name k.0) (part (text_of_mark p.mutable) (part (text_of_type p.tpe k.1) end)))

text_of_field : (f : FieldDef) → IsListedField f → IsText (SpellsField (bare_field f)) (put_field f)
unfolding SpellsField
text_of_field f k = form _ refl (part (text_of_mark f.is_static) (part (text_of_mark f.mutable) (part (text_of_plain f.name k.0) (part (text_of_type f.tpe k.1) end))))

text_of_body : (b : Option Term) → MatchOption b (Unit {0}) IsListedTree → IsText (SpellsBody (option_map erase b)) (put_body b)
unfolding SpellsBody
text_of_body None k = literal _
text_of_body (Some t) k = text_of_tree t k

text_of_method : (m : MethodDef) → IsListedMethod m → IsText (SpellsMethod (bare_method m)) (put_method m)
unfolding SpellsMethod
text_of_method m k = form _ (refl, refl) (part (text_of_namespace m.namespace) (part (text_of_method_name m.name k.0) (part (bracketed (separated _ text_of_param m.params (recursion_from_All _ m.params k.1))) (part (text_of_type m.result k.2) (part (text_of_body m.body k.3) end)))))

text_of_superclass : (c : Option (List ℕ)) → MatchOption c (Unit {0}) IsClass → IsText (SpellsSuperclass c) (put_superclass c)
unfolding SpellsSuperclass
text_of_superclass None k = literal _
text_of_superclass (Some name) k = text_of_class_name name k

pub text_of_class : (c : ClassDef) → HasListing c → IsText (Lists (bare c)) (put_class c)
unfolding Lists
text_of_class c k = form _ (refl, refl) (part (text_of_class_name c.name k.name) (part (text_of_kind c.kind) (part (text_of_superclass c.superclass k.superclass)
    (part (bracketed (separated _ text_of_class_name c.interfaces (recursion_from_All _ c.interfaces k.interfaces)))
    (part (bracketed (separated_of SpellsField put_field IsListedField bare_field _ text_of_field c.fields (recursion_from_All _ c.fields k.fields)))
    (part (bracketed (separated_of SpellsMethod put_method IsListedMethod bare_method _ text_of_method c.methods (recursion_from_All _ c.methods k.methods))) end))))))

spelled_exactly : {P : Grammar} {w : Putting} → IsText P w → (bytes : List ℕ) → P bytes ↔ (bytes ≡ w [])
spelled_exactly {P} {w} a bytes = (λ s. a.only bytes s ∙ sym (a.appended []), λ e. let is_text : bytes ≡ a.text = e ∙ a.appended [] in let Q : List ℕ → Type 0 = P in subst Q (sym is_text) a.spelled)

pub one_listing : (c : ClassDef) → HasListing c → (bytes : List ℕ) → Lists (bare c) bytes ↔ (bytes ≡ listing_text c)
one_listing c k bytes = spelled_exactly (text_of_class c k) bytes
