-- What is listed says nothing of positions, source files and hashes.
use Rattle.std.proofs.Common.{◌≡◌, ℕ, List, [], ◌∷◌, Option, Some, None, refl, sym, map}
use Rattle.std.specs.Prelude.{option_map, codes}
use Rattle.js_tree.specs.Written.{Separated, More}
use Rattle.sj_trees.specs.Erase.{erase, erase_all, erase_cases}
use Rattle.sj_trees.specs.Term.{Term, Terms, no_terms, more_terms, Cases, no_cases, more_cases, var_def, skip, block_of, labeled, assign, return_to, if_then, while_loop, do_while, try_catch, try_finally, throw, match_on, new_object, load_module, store_module, select, select_static, apply, apply_statically, apply_static, unary_op, binary_op, new_array, array_value, array_length, array_select, is_instance_of, as_instance_of, undefined_literal, null_literal, boolean_literal, char_literal, byte_literal, short_literal, int_literal, long_literal, string_literal, var_ref, this_ref, log_line}
use Rattle.sj_trees.specs.declared.classes.FieldDef.{FieldDef}
use Rattle.sj_trees.specs.declared.classes.MethodDef.{MethodDef}
use Rattle.sj_trees.specs.declared.classes.ClassDef.{ClassDef}
use Rattle.sj_text_spec.specs.Spelling.{SpellsTree, SpellsTrees, SpellsMoreTrees, SpellsCases, SpellsMoreCases, SpellsBody, SpellsField, SpellsMethod, Lists}
use Rattle.sj_text_spec.specs.Rules.{bare, bare_field, bare_method}

mutual
  unfolding SpellsTree SpellsTrees SpellsMoreTrees SpellsCases SpellsMoreCases

  bare_tree : (t : Term) (text : List ℕ) → SpellsTree t text → erase t ≡ t
  bare_tree (var_def p x t b e) text s = λ i. var_def (sym s.blank i) x t b (bare_tree e _ s.spelled.second.second.second.second.second.second.second.second.second.first i)
  bare_tree (skip p) text s = λ i. skip (sym s.blank i)
  bare_tree (block_of p es) text s = λ i. block_of (sym s.blank i) (bare_trees es _ s.spelled.second.second.second.first.second.first i)
  bare_tree (labeled p l t e) text s = λ i. labeled (sym s.blank i) l t (bare_tree e _ s.spelled.second.second.second.second.second.second.second.first i)
  bare_tree (assign p e d) text s = λ i. assign (sym s.blank i) (bare_tree e _ s.spelled.second.second.second.first i) (bare_tree d _ s.spelled.second.second.second.second.second.first i)
  bare_tree (return_to p e l) text s = λ i. return_to (sym s.blank i) (bare_tree e _ s.spelled.second.second.second.first i) l
  bare_tree (if_then p c e d t) text s = λ i. if_then (sym s.blank i) (bare_tree c _ s.spelled.second.second.second.first i) (bare_tree e _ s.spelled.second.second.second.second.second.first i) (bare_tree d _ s.spelled.second.second.second.second.second.second.second.first i) t
  bare_tree (while_loop p c e) text s = λ i. while_loop (sym s.blank i) (bare_tree c _ s.spelled.second.second.second.first i) (bare_tree e _ s.spelled.second.second.second.second.second.first i)
  bare_tree (do_while p e c) text s = λ i. do_while (sym s.blank i) (bare_tree e _ s.spelled.second.second.second.first i) (bare_tree c _ s.spelled.second.second.second.second.second.first i)
  bare_tree (try_catch p e x d t) text s = λ i. try_catch (sym s.blank i) (bare_tree e _ s.spelled.second.second.second.first i) x (bare_tree d _ s.spelled.second.second.second.second.second.second.second.first i) t
  bare_tree (try_finally p e d) text s = λ i. try_finally (sym s.blank i) (bare_tree e _ s.spelled.second.second.second.first i) (bare_tree d _ s.spelled.second.second.second.second.second.first i)
  bare_tree (throw p e) text s = λ i. throw (sym s.blank i) (bare_tree e _ s.spelled.second.second.second.first i)
  bare_tree (match_on p e cs d t) text s = λ i. match_on (sym s.blank i) (bare_tree e _ s.spelled.second.second.second.first i) (bare_cases cs _ s.spelled.second.second.second.second.second.first.second.first i) (bare_tree d _ s.spelled.second.second.second.second.second.second.second.first i) t
  bare_tree (new_object p c m es) text s = λ i. new_object (sym s.blank i) c m (bare_trees es _ s.spelled.second.second.second.second.second.second.second.first.second.first i)
  bare_tree (load_module p c) text s = λ i. load_module (sym s.blank i) c
  bare_tree (store_module p c e) text s = λ i. store_module (sym s.blank i) c (bare_tree e _ s.spelled.second.second.second.second.second.first i)
  bare_tree (select p e c f t) text s = λ i. select (sym s.blank i) (bare_tree e _ s.spelled.second.second.second.first i) c f t
  bare_tree (select_static p c f t) text s = λ i. select_static (sym s.blank i) c f t
  bare_tree (apply p e m es t) text s = λ i. apply (sym s.blank i) (bare_tree e _ s.spelled.second.second.second.first i) m (bare_trees es _ s.spelled.second.second.second.second.second.second.second.first.second.first i) t
  bare_tree (apply_statically p e c n m es t) text s = λ i. apply_statically (sym s.blank i) (bare_tree e _ s.spelled.second.second.second.first i) c n m (bare_trees es _ s.spelled.second.second.second.second.second.second.second.second.second.second.second.first.second.first i) t
  bare_tree (apply_static p c n m es t) text s = λ i. apply_static (sym s.blank i) c n m (bare_trees es _ s.spelled.second.second.second.second.second.second.second.second.second.first.second.first i) t
  bare_tree (unary_op p o e) text s = λ i. unary_op (sym s.blank i) o (bare_tree e _ s.spelled.second.second.second.second.second.first i)
  bare_tree (binary_op p o e d) text s = λ i. binary_op (sym s.blank i) o (bare_tree e _ s.spelled.second.second.second.second.second.first i) (bare_tree d _ s.spelled.second.second.second.second.second.second.second.first i)
  bare_tree (new_array p r e) text s = λ i. new_array (sym s.blank i) r (bare_tree e _ s.spelled.second.second.second.second.second.first i)
  bare_tree (array_value p r es) text s = λ i. array_value (sym s.blank i) r (bare_trees es _ s.spelled.second.second.second.second.second.first.second.first i)
  bare_tree (array_length p e) text s = λ i. array_length (sym s.blank i) (bare_tree e _ s.spelled.second.second.second.first i)
  bare_tree (array_select p e d t) text s = λ i. array_select (sym s.blank i) (bare_tree e _ s.spelled.second.second.second.first i) (bare_tree d _ s.spelled.second.second.second.second.second.first i) t
  bare_tree (is_instance_of p e t) text s = λ i. is_instance_of (sym s.blank i) (bare_tree e _ s.spelled.second.second.second.first i) t
  bare_tree (as_instance_of p e t) text s = λ i. as_instance_of (sym s.blank i) (bare_tree e _ s.spelled.second.second.second.first i) t
  bare_tree (undefined_literal p) text s = λ i. undefined_literal (sym s.blank i)
  bare_tree (null_literal p) text s = λ i. null_literal (sym s.blank i)
  bare_tree (boolean_literal p b) text s = λ i. boolean_literal (sym s.blank i) b
  bare_tree (char_literal p v) text s = λ i. char_literal (sym s.blank i) v
  bare_tree (byte_literal p v) text s = λ i. byte_literal (sym s.blank i) v
  bare_tree (short_literal p v) text s = λ i. short_literal (sym s.blank i) v
  bare_tree (int_literal p v) text s = λ i. int_literal (sym s.blank i) v
  bare_tree (long_literal p v) text s = λ i. long_literal (sym s.blank i) v
  bare_tree (string_literal p u) text s = λ i. string_literal (sym s.blank i) u
  bare_tree (var_ref p x t) text s = λ i. var_ref (sym s.blank i) x t
  bare_tree (this_ref p t) text s = λ i. this_ref (sym s.blank i) t
  bare_tree (log_line p e) text s = λ i. log_line (sym s.blank i) (bare_tree e _ s.spelled.second.second.second.first i)

  bare_trees : (ts : Terms) (text : List ℕ) → SpellsTrees ts text → erase_all ts ≡ ts
  bare_trees no_terms text s = refl
  bare_trees (more_terms t ts) text s = λ i. more_terms (bare_tree t _ s.first i) (bare_more_trees ts _ s.second i)

  bare_more_trees : (ts : Terms) (text : List ℕ) → SpellsMoreTrees ts text → erase_all ts ≡ ts
  bare_more_trees no_terms text s = refl
  bare_more_trees (more_terms t ts) text s = λ i. more_terms (bare_tree t _ s.second.first i) (bare_more_trees ts _ s.second.second i)

  bare_cases : (cs : Cases) (text : List ℕ) → SpellsCases cs text → erase_cases cs ≡ cs
  bare_cases no_cases text s = refl
  bare_cases (more_cases ks t cs) text s = λ i. more_cases ks (bare_tree t _ s.first.second.second.second.first i) (bare_more_cases cs _ s.second i)

  bare_more_cases : (cs : Cases) (text : List ℕ) → SpellsMoreCases cs text → erase_cases cs ≡ cs
  bare_more_cases no_cases text s = refl
  bare_more_cases (more_cases ks t cs) text s = λ i. more_cases ks (bare_tree t _ s.second.first.second.second.second.first i) (bare_more_cases cs _ s.second.second i)

bare_body : (o : Option Term) (text : List ℕ) → SpellsBody o text → option_map erase o ≡ o
unfolding SpellsBody
bare_body None text s = refl
bare_body (Some t) text s = λ i. Some (bare_tree t _ s i)

bare_a_field : (f : FieldDef) (text : List ℕ) → SpellsField f text → bare_field f ≡ f
unfolding SpellsField
bare_a_field f text s = λ i. record { pos = sym s.blank i; is_static = f.is_static; mutable = f.mutable; name = f.name; tpe = f.tpe }

bare_a_method : (m : MethodDef) (text : List ℕ) → SpellsMethod m text → bare_method m ≡ m
unfolding SpellsMethod
bare_a_method m text s = λ i. record { pos = sym s.blank.0 i; namespace = m.namespace; name = m.name; params = m.params; result = m.result; body = bare_body m.body _ s.spelled.second.second.second.second.second.second.second.second.second.second.second.first i; hash = sym s.blank.1 i }

bare_more_fields : (fs : List FieldDef) (text : List ℕ) → More (codes " ") SpellsField fs text → map bare_field fs ≡ fs
unfolding More
bare_more_fields [] text s = refl
bare_more_fields (f ∷ fs) text s = λ i. bare_a_field f _ s.second.first i ∷ bare_more_fields fs _ s.second.second i

bare_fields : (fs : List FieldDef) (text : List ℕ) → Separated (codes " ") SpellsField fs text → map bare_field fs ≡ fs
unfolding Separated
bare_fields [] text s = refl
bare_fields (f ∷ fs) text s = λ i. bare_a_field f _ s.first i ∷ bare_more_fields fs _ s.second i

bare_more_methods : (ms : List MethodDef) (text : List ℕ) → More (codes " ") SpellsMethod ms text → map bare_method ms ≡ ms
unfolding More
bare_more_methods [] text s = refl
bare_more_methods (m ∷ ms) text s = λ i. bare_a_method m _ s.second.first i ∷ bare_more_methods ms _ s.second.second i

bare_methods : (ms : List MethodDef) (text : List ℕ) → Separated (codes " ") SpellsMethod ms text → map bare_method ms ≡ ms
unfolding Separated
bare_methods [] text s = refl
bare_methods (m ∷ ms) text s = λ i. bare_a_method m _ s.first i ∷ bare_more_methods ms _ s.second i

pub listed_is_bare : (c : ClassDef) (text : List ℕ) → Lists c text → bare c ≡ c
unfolding Lists
listed_is_bare c text s =
    let at = s.spelled.second.second.second.second.second.second.second.second.second.second in
    λ i. record { pos = sym s.blank.0 i; files = sym s.blank.1 i; name = c.name; kind = c.kind; superclass = c.superclass; interfaces = c.interfaces; fields = bare_fields c.fields _ at.second.first.second.first i; methods = bare_methods c.methods _ at.second.second.second.first.second.first i }
