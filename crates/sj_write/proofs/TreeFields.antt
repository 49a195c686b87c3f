-- A tree is written as its code and its fields.
use Rattle.std.proofs.Common.{◌≡◌, ◌<◌, ℕ, ◌+◌, List, ◌∷◌, length, map, drop, get_or, refl, sym, ap, subst, ◌∙◌}
use Rattle.std.proofs.lemmas.List.{drop_more}
use Rattle.sj_trees.specs.Forms.{form_of, form_code}
use Rattle.sj_trees.specs.Term.{Term, var_def, skip, block_of, labeled, assign, return_to, if_then, while_loop, do_while, try_catch, try_finally, throw, match_on, new_object, load_module, store_module, select, select_static, apply, apply_statically, apply_static, unary_op, binary_op, new_array, array_value, array_length, array_select, is_instance_of, as_instance_of, undefined_literal, null_literal, boolean_literal, char_literal, byte_literal, short_literal, int_literal, long_literal, string_literal, var_ref, this_ref, log_line}
use Rattle.sj_write_spec.specs.Fields.{HasFiles, byte}
use Rattle.sj_write_spec.specs.Trees.{term_fields, each_term, each_case}
use Rattle.sj_write.specs.TreeFields.{field_written, fields_written}
use Rattle.sj_write.specs.Writing.{Writing, put}
use Rattle.tree_fields.specs.Fields.{fields_of, field_seen}
use Rattle.tree_fields.specs.declared.fields.Field.{Field}
use Rattle.tree_fields.proofs.Items.{body_of_case}
use Rattle.sj_trees.specs.View.{view, terms_view, cases_view}
use Rattle.sj_trees.specs.declared.trees.Tree.{Tree}
use Rattle.sj_trees.specs.declared.trees.MatchCase.{MatchCase}

pub term_by_fields : (sources : List (List ℕ)) (t : Term) (w : Writing) → put (fields_written sources (fields_of t)) (put (byte (form_code (form_of t))) w) ≡ put (term_fields sources t) w
term_by_fields sources (var_def p x t b a) w = refl
term_by_fields sources (skip p) w = refl
term_by_fields sources (block_of p ts) w = refl
term_by_fields sources (labeled p l t a) w = refl
term_by_fields sources (assign p a b) w = refl
term_by_fields sources (return_to p a l) w = refl
term_by_fields sources (if_then p a b c t) w = refl
term_by_fields sources (while_loop p a b) w = refl
term_by_fields sources (do_while p a b) w = refl
term_by_fields sources (try_catch p a x b t) w = refl
term_by_fields sources (try_finally p a b) w = refl
term_by_fields sources (throw p a) w = refl
term_by_fields sources (match_on p a cs b t) w = refl
term_by_fields sources (new_object p c g ts) w = refl
term_by_fields sources (load_module p c) w = refl
term_by_fields sources (store_module p c a) w = refl
term_by_fields sources (select p a c f t) w = refl
term_by_fields sources (select_static p c f t) w = refl
term_by_fields sources (apply p a g ts t) w = refl
term_by_fields sources (apply_statically p a c s g ts t) w = refl
term_by_fields sources (apply_static p c s g ts t) w = refl
term_by_fields sources (unary_op p o a) w = refl
term_by_fields sources (binary_op p o a b) w = refl
term_by_fields sources (new_array p r a) w = refl
term_by_fields sources (array_value p r ts) w = refl
term_by_fields sources (array_length p a) w = refl
term_by_fields sources (array_select p a b t) w = refl
term_by_fields sources (is_instance_of p a t) w = refl
term_by_fields sources (as_instance_of p a t) w = refl
term_by_fields sources (undefined_literal p) w = refl
term_by_fields sources (null_literal p) w = refl
term_by_fields sources (boolean_literal p b) w = refl
term_by_fields sources (char_literal p v) w = refl
term_by_fields sources (byte_literal p v) w = refl
term_by_fields sources (short_literal p v) w = refl
term_by_fields sources (int_literal p v) w = refl
term_by_fields sources (long_literal p v) w = refl
term_by_fields sources (string_literal p u) w = refl
term_by_fields sources (var_ref p x t) w = refl
term_by_fields sources (this_ref p t) w = refl
term_by_fields sources (log_line p a) w = refl

pub fields_have_files : (sources : List (List ℕ)) (t : Term) → HasFiles (term_fields sources t) → HasFiles (fields_written sources (fields_of t))
fields_have_files sources (var_def p x t b a) h = (h.1.0, (h.1.1.0, (h.1.1.1.0, (h.1.1.1.1.0, (h.1.1.1.1.1, (tt, (tt, tt)))))))
fields_have_files sources (skip p) h = (h.1.0, (tt, (tt, (tt, (tt, (tt, (tt, tt)))))))
fields_have_files sources (block_of p ts) h = (h.1.0, (h.1.1, (tt, (tt, (tt, (tt, (tt, tt)))))))
fields_have_files sources (labeled p l t a) h = (h.1.0, (h.1.1.0, (h.1.1.1.0, (h.1.1.1.1, (tt, (tt, (tt, tt)))))))
fields_have_files sources (assign p a b) h = (h.1.0, (h.1.1.0, (h.1.1.1, (tt, (tt, (tt, (tt, tt)))))))
fields_have_files sources (return_to p a l) h = (h.1.0, (h.1.1.0, (h.1.1.1, (tt, (tt, (tt, (tt, tt)))))))
fields_have_files sources (if_then p a b c t) h = (h.1.0, (h.1.1.0, (h.1.1.1.0, (h.1.1.1.1.0, (h.1.1.1.1.1, (tt, (tt, tt)))))))
fields_have_files sources (while_loop p a b) h = (h.1.0, (h.1.1.0, (h.1.1.1, (tt, (tt, (tt, (tt, tt)))))))
fields_have_files sources (do_while p a b) h = (h.1.0, (h.1.1.0, (h.1.1.1, (tt, (tt, (tt, (tt, tt)))))))
fields_have_files sources (try_catch p a x b t) h = (h.1.0, (h.1.1.0, (h.1.1.1.0, (h.1.1.1.1.0, (h.1.1.1.1.1, (tt, (tt, tt)))))))
fields_have_files sources (try_finally p a b) h = (h.1.0, (h.1.1.0, (h.1.1.1, (tt, (tt, (tt, (tt, tt)))))))
fields_have_files sources (throw p a) h = (h.1.0, (h.1.1, (tt, (tt, (tt, (tt, (tt, tt)))))))
fields_have_files sources (match_on p a cs b t) h = (h.1.0, (h.1.1.0, (h.1.1.1.0, (h.1.1.1.1.0, (h.1.1.1.1.1, (tt, (tt, tt)))))))
fields_have_files sources (new_object p c g ts) h = (h.1.0, (h.1.1.0, (h.1.1.1.0, (h.1.1.1.1, (tt, (tt, (tt, tt)))))))
fields_have_files sources (load_module p c) h = (h.1.0, (h.1.1, (tt, (tt, (tt, (tt, (tt, tt)))))))
fields_have_files sources (store_module p c a) h = (h.1.0, (h.1.1.0, (h.1.1.1, (tt, (tt, (tt, (tt, tt)))))))
fields_have_files sources (select p a c f t) h = (h.1.0, (h.1.1.0, (h.1.1.1.0, (h.1.1.1.1.0, (h.1.1.1.1.1, (tt, (tt, tt)))))))
fields_have_files sources (select_static p c f t) h = (h.1.0, (h.1.1.0, (h.1.1.1.0, (h.1.1.1.1, (tt, (tt, (tt, tt)))))))
fields_have_files sources (apply p a g ts t) h = (h.1.0, (h.1.1.0, (h.1.1.1.0, (h.1.1.1.1.0, (h.1.1.1.1.1, (tt, (tt, tt)))))))
fields_have_files sources (apply_statically p a c s g ts t) h = (h.1.0, (h.1.1.0, (h.1.1.1.0, (h.1.1.1.1.0, (h.1.1.1.1.1.0, (h.1.1.1.1.1.1.0, (h.1.1.1.1.1.1.1, tt)))))))
fields_have_files sources (apply_static p c s g ts t) h = (h.1.0, (h.1.1.0, (h.1.1.1.0, (h.1.1.1.1.0, (h.1.1.1.1.1.0, (h.1.1.1.1.1.1, (tt, tt)))))))
fields_have_files sources (unary_op p o a) h = (h.1.0, (h.1.1.0, (h.1.1.1, (tt, (tt, (tt, (tt, tt)))))))
fields_have_files sources (binary_op p o a b) h = (h.1.0, (h.1.1.0, (h.1.1.1.0, (h.1.1.1.1, (tt, (tt, (tt, tt)))))))
fields_have_files sources (new_array p r a) h = (h.1.0, (h.1.1.0, (h.1.1.1, (tt, (tt, (tt, (tt, tt)))))))
fields_have_files sources (array_value p r ts) h = (h.1.0, (h.1.1.0, (h.1.1.1, (tt, (tt, (tt, (tt, tt)))))))
fields_have_files sources (array_length p a) h = (h.1.0, (h.1.1, (tt, (tt, (tt, (tt, (tt, tt)))))))
fields_have_files sources (array_select p a b t) h = (h.1.0, (h.1.1.0, (h.1.1.1.0, (h.1.1.1.1, (tt, (tt, (tt, tt)))))))
fields_have_files sources (is_instance_of p a t) h = (h.1.0, (h.1.1.0, (h.1.1.1, (tt, (tt, (tt, (tt, tt)))))))
fields_have_files sources (as_instance_of p a t) h = (h.1.0, (h.1.1.0, (h.1.1.1, (tt, (tt, (tt, (tt, tt)))))))
fields_have_files sources (undefined_literal p) h = (h.1.0, (tt, (tt, (tt, (tt, (tt, (tt, tt)))))))
fields_have_files sources (null_literal p) h = (h.1.0, (tt, (tt, (tt, (tt, (tt, (tt, tt)))))))
fields_have_files sources (boolean_literal p b) h = (h.1.0, (h.1.1, (tt, (tt, (tt, (tt, (tt, tt)))))))
fields_have_files sources (char_literal p v) h = (h.1.0, (h.1.1, (tt, (tt, (tt, (tt, (tt, tt)))))))
fields_have_files sources (byte_literal p v) h = (h.1.0, (h.1.1, (tt, (tt, (tt, (tt, (tt, tt)))))))
fields_have_files sources (short_literal p v) h = (h.1.0, (h.1.1, (tt, (tt, (tt, (tt, (tt, tt)))))))
fields_have_files sources (int_literal p v) h = (h.1.0, (h.1.1, (tt, (tt, (tt, (tt, (tt, tt)))))))
fields_have_files sources (long_literal p v) h = (h.1.0, (h.1.1, (tt, (tt, (tt, (tt, (tt, tt)))))))
fields_have_files sources (string_literal p u) h = (h.1.0, (h.1.1, (tt, (tt, (tt, (tt, (tt, tt)))))))
fields_have_files sources (var_ref p x t) h = (h.1.0, (h.1.1.0, (h.1.1.1, (tt, (tt, (tt, (tt, tt)))))))
fields_have_files sources (this_ref p t) h = (h.1.0, (h.1.1, (tt, (tt, (tt, (tt, (tt, tt)))))))
fields_have_files sources (log_line p a) h = (h.1.0, (h.1.1, (tt, (tt, (tt, (tt, (tt, tt)))))))

-- the next tree, and that of the next case
pub tree_has_files : (sources : List (List ℕ)) (ts : List Tree) (n : ℕ) (t : Tree) → n < length ts → t ≡ get_or ts n t → HasFiles (each_term sources (terms_view (drop n ts))) → HasFiles (term_fields sources (view t))
tree_has_files sources ts n t l e h = let s : HasFiles (each_term sources (terms_view (get_or ts n t ∷ drop (n + 1) ts))) = subst (λ (us : List Tree). HasFiles (each_term sources (terms_view us))) (drop_more ts n t l) h in subst (λ (x : Tree). HasFiles (term_fields sources (view x))) (sym e) s.0

more_files : (sources : List (List ℕ)) (cs : List MatchCase) (n : ℕ) (c : MatchCase) → n < length cs → HasFiles (each_case sources (cases_view (drop n cs))) → HasFiles (each_case sources (cases_view (get_or cs n c ∷ drop (n + 1) cs)))
more_files sources cs n c l h = subst (λ (ds : List MatchCase). HasFiles (each_case sources (cases_view ds))) (drop_more cs n c l) h

pub case_has_files : (sources : List (List ℕ)) (cs : List MatchCase) (n : ℕ) (c : MatchCase) → n < length cs → c ≡ get_or cs n c → HasFiles (each_case sources (cases_view (drop n cs))) → HasFiles (term_fields sources (view c.body))
case_has_files sources cs n c l e h = subst (λ (t : Term). HasFiles (term_fields sources t)) (body_of_case (get_or cs n c) ∙ ap (λ (x : MatchCase). view x.body) (sym e)) (more_files sources cs n c l h).0.1

pub other_cases_have_files : (sources : List (List ℕ)) (cs : List MatchCase) (n : ℕ) (c : MatchCase) → n < length cs → HasFiles (each_case sources (cases_view (drop n cs))) → HasFiles (each_case sources (cases_view (drop (n + 1) cs)))
other_cases_have_files sources cs n c l h = (more_files sources cs n c l h).1

pub field_has_files : (sources : List (List ℕ)) (fs : List Field) (n : ℕ) (f : Field) → n < length fs → f ≡ get_or fs n f → HasFiles (fields_written sources (map field_seen (drop n fs))) → HasFiles (field_written sources (field_seen f))
field_has_files sources fs n f l e h = let s : HasFiles (fields_written sources (map field_seen (get_or fs n f ∷ drop (n + 1) fs))) = subst (λ (gs : List Field). HasFiles (fields_written sources (map field_seen gs))) (drop_more fs n f l) h in subst (λ (g : Field). HasFiles (field_written sources (field_seen g))) (sym e) s.0
