-- The check of a method asks the same, and goes on alike, whatever the positions are.
use Rattle.std.proofs.Common.{◌≡◌, ℕ, Bool, true, false, List, [], ◌∷◌, Option, Some, None, refl, sym, ap, ◌∙◌, subst}
use Rattle.std.specs.Prelude.{◌||◌, option_map}
use Rattle.sj_names.specs.declared.method_names.Namespace.{Namespace}
use Rattle.sj_trees.specs.declared.classes.FieldDef.{FieldDef}
use Rattle.sj_trees.specs.declared.classes.MethodDef.{MethodDef}
use Rattle.sj_trees.specs.declared.types.IrType.{IrType}
use Rattle.sj_trees.specs.declared.types.IrType.TheVariants as type
use Rattle.sj_trees.specs.Term.{Term, Terms, Cases, no_terms, more_terms, no_cases, more_cases, var_def, skip, block_of, labeled, assign, return_to, if_then, while_loop, do_while, try_catch, try_finally, throw, match_on, new_object, load_module, store_module, select, select_static, apply, apply_statically, apply_static, unary_op, binary_op, new_array, array_value, array_length, array_select, is_instance_of, as_instance_of, undefined_literal, null_literal, boolean_literal, char_literal, byte_literal, short_literal, int_literal, long_literal, string_literal, var_ref, this_ref, log_line}
use Rattle.sj_trees.specs.Erase.{erase, erase_all, erase_cases}
use Rattle.sj_ask.specs.TreeSamenessApart.{field_apart, method_apart}
use Rattle.sj_ask.specs.declared.errors.TypeError.{TypeError}
use Rattle.sj_ask.specs.declared.errors.TypeError.TheVariants.{Refused}
use Rattle.sj_ask.specs.declared.questions.Answer.{Answer}
use Rattle.sj_ask.specs.declared.questions.Answer.TheVariants as answer
use Rattle.sj_ask.specs.Apart.{answer_apart}
use Rattle.sj_ask.specs.Sizes.{next, counted, counted_cases}
use Rattle.sj_ask.specs.Tasks.{done, ◌>>=◌, says_yes, found_field, asks_sub, asks_field}
use Rattle.sj_ask.specs.Laws.{Alike}
use Rattle.sj_ask.proofs.SameRuns.{same_run, alike_bind, alike_sym, alike_trans}
use Rattle.sj_typing_spec.specs.declared.labels.Label.{Label}
use Rattle.sj_typing_spec.specs.declared.rows.Fit.{Fit}
use Rattle.sj_typing_spec.specs.declared.rows.FieldUse.{FieldUse}
use Rattle.sj_typing_spec.specs.declared.rows.Row.{Row}
use Rattle.sj_trees.specs.SameTypes.{is_same_type}
use Rattle.sj_typing_spec.specs.Nodes.{inside}
use Rattle.sj_typing_spec.specs.Rows.{row_of}
use Rattle.sj_typing_spec.specs.Checks.{Checking, then_do, both, met, unless_no, ask_fits, judge_field, ask_field, ask_row, fault_at, parts_of, all_of, cases_of, check_of, ask_wanted, ask_result, body_task, check_task}
use Rattle.sj_typing_spec.specs.Laws.{EqualAnswersGiveEqualChecks}
use Rattle.sj_typing_spec.proofs.Erased.{type-erase, tag-erase, counted-erase, counted_cases-erase, row-erase}

-- two checks ask the same and go on alike
abbrev Same : Checking → Checking → Type 0
Same = Alike (λ a b. a ≡ b)

yes-apart : (x : Answer) → says_yes (answer_apart x) ≡ says_yes x
yes-apart (answer.Yes r) = refl
yes-apart (answer.Field f) = refl
yes-apart (answer.Member m) = refl
yes-apart (answer.Body b) = refl

same_yes : (x y : Answer) → answer_apart x ≡ answer_apart y → says_yes x ≡ says_yes y
same_yes x y e = sym (yes-apart x) ∙ ap says_yes e ∙ yes-apart y

field-apart : (x : Answer) → found_field (answer_apart x) ≡ option_map field_apart (found_field x)
field-apart (answer.Yes r) = refl
field-apart (answer.Field f) = refl
field-apart (answer.Member m) = refl
field-apart (answer.Body b) = refl

same_field : (x y : Answer) → answer_apart x ≡ answer_apart y → option_map field_apart (found_field x) ≡ option_map field_apart (found_field y)
same_field x y e = sym (field-apart x) ∙ ap found_field e ∙ field-apart y

alike_unless : (fault : TypeError) (m : Checking) (a b : Bool) → Same m m → a ≡ b → Same (unless_no fault m a) (unless_no fault m b)
alike_unless fault m a b h e = subst (λ (x : Bool). Same (unless_no fault m a) (unless_no fault m x)) e (go a)
  where
    go : (x : Bool) → Same (unless_no fault m x) (unless_no fault m x)
    go true = h
    go false = refl

alike_then : (m m' n n' : Checking) → Same m m' → Same n n' → Same (then_do m n) (then_do m' n')
unfolding then_do
alike_then m m' n n' h k = alike_bind (λ (a b : Bool). a ≡ b) (λ (a b : Bool). a ≡ b) m m' (λ _. n) (λ _. n') h (λ a b e. k)

alike_both : (m m' n n' : Checking) → Same m m' → Same n n' → Same (both m n) (both m' n')
unfolding both
alike_both m m' n n' h k = alike_bind (λ (a b : Bool). a ≡ b) (λ (a b : Bool). a ≡ b) m m' (λ s. n >>= (λ o. done s)) (λ s. n' >>= (λ o. done s)) h (λ a b e. alike_bind (λ (a b : Bool). a ≡ b) (λ (a b : Bool). a ≡ b) n n' (λ o. done a) (λ o. done b) k (λ c d f. e))

alike_fits : (fault : TypeError) (fs : List Fit) → Same (ask_fits fault fs) (ask_fits fault fs)
unfolding ◌>>=◌ asks_sub
alike_fits fault [] = refl
alike_fits fault (f ∷ fs) = (refl, λ x y e. alike_unless fault (ask_fits fault fs) (says_yes x) (says_yes y) (alike_fits fault fs) (same_yes x y e))

judge-apart : (fault : TypeError) (u : FieldUse) (o : Option FieldDef) → judge_field fault u (option_map field_apart o) ≡ judge_field fault u o
judge-apart fault u None = refl
judge-apart fault u (Some d) = refl

alike_judge : (fault : TypeError) (u : FieldUse) (o : Option FieldDef) → Same (judge_field fault u o) (judge_field fault u o)
alike_judge fault u None = refl
alike_judge fault u (Some d) = alike_unless fault (done (d.mutable || u.is_own)) (is_same_type d.tpe u.tpe) (is_same_type d.tpe u.tpe) refl refl

alike_field : (fault : TypeError) (o : Option FieldUse) → Same (ask_field fault o) (ask_field fault o)
unfolding ◌>>=◌ asks_field
alike_field fault None = refl
alike_field fault (Some u) = (
  refl,
  λ x y e.
      let same : judge_field fault u (found_field x) ≡ judge_field fault u (found_field y) = sym (judge-apart fault u (found_field x)) ∙ ap (judge_field fault u) (same_field x y e) ∙ judge-apart fault u (found_field y) in
      subst (λ (m : Checking). Same (judge_field fault u (found_field x)) m) same (alike_judge fault u (found_field x)),
)

alike_row : (fault : TypeError) (r : Row) → Same (ask_row fault r) (ask_row fault r)
alike_row fault r = alike_unless fault (then_do (ask_fits fault r.fits) (ask_field fault r.field)) r.holds r.holds (alike_then (ask_fits fault r.fits) (ask_fits fault r.fits) (ask_field fault r.field) (ask_field fault r.field) (alike_fits fault r.fits) (alike_field fault r.field)) refl

alike_met : (space : Namespace) (ls : List Label) (n : ℕ) (t : Term) (m m' : Checking) → Same m m' → Same (met space ls n t m) (met space ls n (erase t) m')
unfolding met
alike_met space ls n t m m' h = alike_bind (λ (a b : Bool). a ≡ b) (λ (a b : Bool). a ≡ b) m m' (λ s. ask_row (fault_at t n) (row_of space ls s t)) (λ s. ask_row (fault_at (erase t) n) (row_of space ls s (erase t))) h (λ a b e.
    let tags : fault_at t n ≡ fault_at (erase t) n = ap (λ (r : ℕ). Refused r n) (sym (tag-erase t)) in
    let rows : row_of space ls a t ≡ row_of space ls b (erase t) = ap (λ (s : Bool). row_of space ls s t) e ∙ sym (row-erase space ls b t) in
    subst (λ (r : Row). Same (ask_row (fault_at t n) (row_of space ls a t)) (ask_row (fault_at (erase t) n) r)) rows (subst (λ (f : TypeError). Same (ask_row (fault_at t n) (row_of space ls a t)) (ask_row f (row_of space ls a t))) tags (alike_row (fault_at t n) (row_of space ls a t))))

mutual
  alike_parts : (space : Namespace) (ls : List Label) (n : ℕ) (t : Term) → Same (parts_of space ls n t) (parts_of space ls n (erase t))
  alike_parts space ls n (var_def p x t m e) = alike_met space ls (n) e (parts_of space ls (next (n)) e) (parts_of space ls (next (n)) (erase e)) (alike_parts space ls (next (n)) e)
  alike_parts space ls n (skip p) = refl
  alike_parts space ls n (block_of p ts) = alike_all space ls (n) ts
  alike_parts space ls n (labeled p l t e) = alike_met space (inside l t ls) (n) e (parts_of space (inside l t ls) (next (n)) e) (parts_of space (inside l t ls) (next (n)) (erase e)) (alike_parts space (inside l t ls) (next (n)) e)
  alike_parts space ls n (assign p e d) = alike_both (met space ls (n) e (parts_of space ls (next (n)) e)) (met space ls (n) (erase e) (parts_of space ls (next (n)) (erase e))) (met space ls (counted e (n)) d (parts_of space ls (next (counted e (n))) d)) (met space ls (counted (erase e) (n)) (erase d) (parts_of space ls (next (counted (erase e) (n))) (erase d))) (alike_met space ls (n) e (parts_of space ls (next (n)) e) (parts_of space ls (next (n)) (erase e)) (alike_parts space ls (next (n)) e)) (subst (λ (j : ℕ). Same (met space ls (counted e (n)) d (parts_of space ls (next (counted e (n))) d)) (met space ls (j) (erase d) (parts_of space ls (next (j)) (erase d)))) (sym (counted-erase e (n))) (alike_met space ls (counted e (n)) d (parts_of space ls (next (counted e (n))) d) (parts_of space ls (next (counted e (n))) (erase d)) (alike_parts space ls (next (counted e (n))) d)))
  alike_parts space ls n (return_to p e l) = alike_met space ls (n) e (parts_of space ls (next (n)) e) (parts_of space ls (next (n)) (erase e)) (alike_parts space ls (next (n)) e)
  alike_parts space ls n (if_then p e d b t) = alike_both (met space ls (n) e (parts_of space ls (next (n)) e)) (met space ls (n) (erase e) (parts_of space ls (next (n)) (erase e))) (both (met space ls (counted e (n)) d (parts_of space ls (next (counted e (n))) d)) (met space ls (counted d (counted e (n))) b (parts_of space ls (next (counted d (counted e (n)))) b))) (both (met space ls (counted (erase e) (n)) (erase d) (parts_of space ls (next (counted (erase e) (n))) (erase d))) (met space ls (counted (erase d) (counted (erase e) (n))) (erase b) (parts_of space ls (next (counted (erase d) (counted (erase e) (n)))) (erase b)))) (alike_met space ls (n) e (parts_of space ls (next (n)) e) (parts_of space ls (next (n)) (erase e)) (alike_parts space ls (next (n)) e)) (alike_both (met space ls (counted e (n)) d (parts_of space ls (next (counted e (n))) d)) (met space ls (counted (erase e) (n)) (erase d) (parts_of space ls (next (counted (erase e) (n))) (erase d))) (met space ls (counted d (counted e (n))) b (parts_of space ls (next (counted d (counted e (n)))) b)) (met space ls (counted (erase d) (counted (erase e) (n))) (erase b) (parts_of space ls (next (counted (erase d) (counted (erase e) (n)))) (erase b))) (subst (λ (j : ℕ). Same (met space ls (counted e (n)) d (parts_of space ls (next (counted e (n))) d)) (met space ls (j) (erase d) (parts_of space ls (next (j)) (erase d)))) (sym (counted-erase e (n))) (alike_met space ls (counted e (n)) d (parts_of space ls (next (counted e (n))) d) (parts_of space ls (next (counted e (n))) (erase d)) (alike_parts space ls (next (counted e (n))) d))) (subst (λ (j : ℕ). Same (met space ls (counted d (counted e (n))) b (parts_of space ls (next (counted d (counted e (n)))) b)) (met space ls (j) (erase b) (parts_of space ls (next (j)) (erase b)))) (sym (ap (λ (x : ℕ). counted (erase d) x) (counted-erase e (n)) ∙ counted-erase d (counted e (n)))) (alike_met space ls (counted d (counted e (n))) b (parts_of space ls (next (counted d (counted e (n)))) b) (parts_of space ls (next (counted d (counted e (n)))) (erase b)) (alike_parts space ls (next (counted d (counted e (n)))) b))))
  alike_parts space ls n (while_loop p e d) = alike_both (met space ls (n) e (parts_of space ls (next (n)) e)) (met space ls (n) (erase e) (parts_of space ls (next (n)) (erase e))) (met space ls (counted e (n)) d (parts_of space ls (next (counted e (n))) d)) (met space ls (counted (erase e) (n)) (erase d) (parts_of space ls (next (counted (erase e) (n))) (erase d))) (alike_met space ls (n) e (parts_of space ls (next (n)) e) (parts_of space ls (next (n)) (erase e)) (alike_parts space ls (next (n)) e)) (subst (λ (j : ℕ). Same (met space ls (counted e (n)) d (parts_of space ls (next (counted e (n))) d)) (met space ls (j) (erase d) (parts_of space ls (next (j)) (erase d)))) (sym (counted-erase e (n))) (alike_met space ls (counted e (n)) d (parts_of space ls (next (counted e (n))) d) (parts_of space ls (next (counted e (n))) (erase d)) (alike_parts space ls (next (counted e (n))) d)))
  alike_parts space ls n (do_while p e d) = alike_both (met space ls (n) e (parts_of space ls (next (n)) e)) (met space ls (n) (erase e) (parts_of space ls (next (n)) (erase e))) (met space ls (counted e (n)) d (parts_of space ls (next (counted e (n))) d)) (met space ls (counted (erase e) (n)) (erase d) (parts_of space ls (next (counted (erase e) (n))) (erase d))) (alike_met space ls (n) e (parts_of space ls (next (n)) e) (parts_of space ls (next (n)) (erase e)) (alike_parts space ls (next (n)) e)) (subst (λ (j : ℕ). Same (met space ls (counted e (n)) d (parts_of space ls (next (counted e (n))) d)) (met space ls (j) (erase d) (parts_of space ls (next (j)) (erase d)))) (sym (counted-erase e (n))) (alike_met space ls (counted e (n)) d (parts_of space ls (next (counted e (n))) d) (parts_of space ls (next (counted e (n))) (erase d)) (alike_parts space ls (next (counted e (n))) d)))
  alike_parts space ls n (try_catch p e x d t) = alike_both (met space ls (n) e (parts_of space ls (next (n)) e)) (met space ls (n) (erase e) (parts_of space ls (next (n)) (erase e))) (met space ls (counted e (n)) d (parts_of space ls (next (counted e (n))) d)) (met space ls (counted (erase e) (n)) (erase d) (parts_of space ls (next (counted (erase e) (n))) (erase d))) (alike_met space ls (n) e (parts_of space ls (next (n)) e) (parts_of space ls (next (n)) (erase e)) (alike_parts space ls (next (n)) e)) (subst (λ (j : ℕ). Same (met space ls (counted e (n)) d (parts_of space ls (next (counted e (n))) d)) (met space ls (j) (erase d) (parts_of space ls (next (j)) (erase d)))) (sym (counted-erase e (n))) (alike_met space ls (counted e (n)) d (parts_of space ls (next (counted e (n))) d) (parts_of space ls (next (counted e (n))) (erase d)) (alike_parts space ls (next (counted e (n))) d)))
  alike_parts space ls n (try_finally p e d) = alike_both (met space ls (n) e (parts_of space ls (next (n)) e)) (met space ls (n) (erase e) (parts_of space ls (next (n)) (erase e))) (met space ls (counted e (n)) d (parts_of space ls (next (counted e (n))) d)) (met space ls (counted (erase e) (n)) (erase d) (parts_of space ls (next (counted (erase e) (n))) (erase d))) (alike_met space ls (n) e (parts_of space ls (next (n)) e) (parts_of space ls (next (n)) (erase e)) (alike_parts space ls (next (n)) e)) (subst (λ (j : ℕ). Same (met space ls (counted e (n)) d (parts_of space ls (next (counted e (n))) d)) (met space ls (j) (erase d) (parts_of space ls (next (j)) (erase d)))) (sym (counted-erase e (n))) (alike_met space ls (counted e (n)) d (parts_of space ls (next (counted e (n))) d) (parts_of space ls (next (counted e (n))) (erase d)) (alike_parts space ls (next (counted e (n))) d)))
  alike_parts space ls n (throw p e) = alike_met space ls (n) e (parts_of space ls (next (n)) e) (parts_of space ls (next (n)) (erase e)) (alike_parts space ls (next (n)) e)
  alike_parts space ls n (match_on p e cs d t) = alike_both (met space ls (n) e (parts_of space ls (next (n)) e)) (met space ls (n) (erase e) (parts_of space ls (next (n)) (erase e))) (both (cases_of space ls (counted e (n)) cs) (met space ls (counted_cases cs (counted e (n))) d (parts_of space ls (next (counted_cases cs (counted e (n)))) d))) (both (cases_of space ls (counted (erase e) (n)) (erase_cases cs)) (met space ls (counted_cases (erase_cases cs) (counted (erase e) (n))) (erase d) (parts_of space ls (next (counted_cases (erase_cases cs) (counted (erase e) (n)))) (erase d)))) (alike_met space ls (n) e (parts_of space ls (next (n)) e) (parts_of space ls (next (n)) (erase e)) (alike_parts space ls (next (n)) e)) (alike_both (cases_of space ls (counted e (n)) cs) (cases_of space ls (counted (erase e) (n)) (erase_cases cs)) (met space ls (counted_cases cs (counted e (n))) d (parts_of space ls (next (counted_cases cs (counted e (n)))) d)) (met space ls (counted_cases (erase_cases cs) (counted (erase e) (n))) (erase d) (parts_of space ls (next (counted_cases (erase_cases cs) (counted (erase e) (n)))) (erase d))) (subst (λ (j : ℕ). Same (cases_of space ls (counted e (n)) cs) (cases_of space ls (j) (erase_cases cs))) (sym (counted-erase e (n))) (alike_cases space ls (counted e (n)) cs)) (subst (λ (j : ℕ). Same (met space ls (counted_cases cs (counted e (n))) d (parts_of space ls (next (counted_cases cs (counted e (n)))) d)) (met space ls (j) (erase d) (parts_of space ls (next (j)) (erase d)))) (sym (ap (λ (x : ℕ). counted_cases (erase_cases cs) x) (counted-erase e (n)) ∙ counted_cases-erase cs (counted e (n)))) (alike_met space ls (counted_cases cs (counted e (n))) d (parts_of space ls (next (counted_cases cs (counted e (n)))) d) (parts_of space ls (next (counted_cases cs (counted e (n)))) (erase d)) (alike_parts space ls (next (counted_cases cs (counted e (n)))) d))))
  alike_parts space ls n (new_object p c k ts) = alike_all space ls (n) ts
  alike_parts space ls n (load_module p c) = refl
  alike_parts space ls n (store_module p c e) = alike_met space ls (n) e (parts_of space ls (next (n)) e) (parts_of space ls (next (n)) (erase e)) (alike_parts space ls (next (n)) e)
  alike_parts space ls n (select p e c f t) = alike_met space ls (n) e (parts_of space ls (next (n)) e) (parts_of space ls (next (n)) (erase e)) (alike_parts space ls (next (n)) e)
  alike_parts space ls n (select_static p c f t) = refl
  alike_parts space ls n (apply p e k ts t) = alike_both (met space ls (n) e (parts_of space ls (next (n)) e)) (met space ls (n) (erase e) (parts_of space ls (next (n)) (erase e))) (all_of space ls (counted e (n)) ts) (all_of space ls (counted (erase e) (n)) (erase_all ts)) (alike_met space ls (n) e (parts_of space ls (next (n)) e) (parts_of space ls (next (n)) (erase e)) (alike_parts space ls (next (n)) e)) (subst (λ (j : ℕ). Same (all_of space ls (counted e (n)) ts) (all_of space ls (j) (erase_all ts))) (sym (counted-erase e (n))) (alike_all space ls (counted e (n)) ts))
  alike_parts space ls n (apply_statically p e c s k ts t) = alike_both (met space ls (n) e (parts_of space ls (next (n)) e)) (met space ls (n) (erase e) (parts_of space ls (next (n)) (erase e))) (all_of space ls (counted e (n)) ts) (all_of space ls (counted (erase e) (n)) (erase_all ts)) (alike_met space ls (n) e (parts_of space ls (next (n)) e) (parts_of space ls (next (n)) (erase e)) (alike_parts space ls (next (n)) e)) (subst (λ (j : ℕ). Same (all_of space ls (counted e (n)) ts) (all_of space ls (j) (erase_all ts))) (sym (counted-erase e (n))) (alike_all space ls (counted e (n)) ts))
  alike_parts space ls n (apply_static p c s k ts t) = alike_all space ls (n) ts
  alike_parts space ls n (unary_op p o e) = alike_met space ls (n) e (parts_of space ls (next (n)) e) (parts_of space ls (next (n)) (erase e)) (alike_parts space ls (next (n)) e)
  alike_parts space ls n (binary_op p o e d) = alike_both (met space ls (n) e (parts_of space ls (next (n)) e)) (met space ls (n) (erase e) (parts_of space ls (next (n)) (erase e))) (met space ls (counted e (n)) d (parts_of space ls (next (counted e (n))) d)) (met space ls (counted (erase e) (n)) (erase d) (parts_of space ls (next (counted (erase e) (n))) (erase d))) (alike_met space ls (n) e (parts_of space ls (next (n)) e) (parts_of space ls (next (n)) (erase e)) (alike_parts space ls (next (n)) e)) (subst (λ (j : ℕ). Same (met space ls (counted e (n)) d (parts_of space ls (next (counted e (n))) d)) (met space ls (j) (erase d) (parts_of space ls (next (j)) (erase d)))) (sym (counted-erase e (n))) (alike_met space ls (counted e (n)) d (parts_of space ls (next (counted e (n))) d) (parts_of space ls (next (counted e (n))) (erase d)) (alike_parts space ls (next (counted e (n))) d)))
  alike_parts space ls n (new_array p r e) = alike_met space ls (n) e (parts_of space ls (next (n)) e) (parts_of space ls (next (n)) (erase e)) (alike_parts space ls (next (n)) e)
  alike_parts space ls n (array_value p r ts) = alike_all space ls (n) ts
  alike_parts space ls n (array_length p e) = alike_met space ls (n) e (parts_of space ls (next (n)) e) (parts_of space ls (next (n)) (erase e)) (alike_parts space ls (next (n)) e)
  alike_parts space ls n (array_select p e d t) = alike_both (met space ls (n) e (parts_of space ls (next (n)) e)) (met space ls (n) (erase e) (parts_of space ls (next (n)) (erase e))) (met space ls (counted e (n)) d (parts_of space ls (next (counted e (n))) d)) (met space ls (counted (erase e) (n)) (erase d) (parts_of space ls (next (counted (erase e) (n))) (erase d))) (alike_met space ls (n) e (parts_of space ls (next (n)) e) (parts_of space ls (next (n)) (erase e)) (alike_parts space ls (next (n)) e)) (subst (λ (j : ℕ). Same (met space ls (counted e (n)) d (parts_of space ls (next (counted e (n))) d)) (met space ls (j) (erase d) (parts_of space ls (next (j)) (erase d)))) (sym (counted-erase e (n))) (alike_met space ls (counted e (n)) d (parts_of space ls (next (counted e (n))) d) (parts_of space ls (next (counted e (n))) (erase d)) (alike_parts space ls (next (counted e (n))) d)))
  alike_parts space ls n (is_instance_of p e t) = alike_met space ls (n) e (parts_of space ls (next (n)) e) (parts_of space ls (next (n)) (erase e)) (alike_parts space ls (next (n)) e)
  alike_parts space ls n (as_instance_of p e t) = alike_met space ls (n) e (parts_of space ls (next (n)) e) (parts_of space ls (next (n)) (erase e)) (alike_parts space ls (next (n)) e)
  alike_parts space ls n (undefined_literal p) = refl
  alike_parts space ls n (null_literal p) = refl
  alike_parts space ls n (boolean_literal p v) = refl
  alike_parts space ls n (char_literal p v) = refl
  alike_parts space ls n (byte_literal p v) = refl
  alike_parts space ls n (short_literal p v) = refl
  alike_parts space ls n (int_literal p v) = refl
  alike_parts space ls n (long_literal p v) = refl
  alike_parts space ls n (string_literal p u) = refl
  alike_parts space ls n (var_ref p x t) = refl
  alike_parts space ls n (this_ref p t) = refl
  alike_parts space ls n (log_line p e) = alike_met space ls (n) e (parts_of space ls (next (n)) e) (parts_of space ls (next (n)) (erase e)) (alike_parts space ls (next (n)) e)

  alike_all : (space : Namespace) (ls : List Label) (n : ℕ) (ts : Terms) → Same (all_of space ls n ts) (all_of space ls n (erase_all ts))
  alike_all space ls n no_terms = refl
  alike_all space ls n (more_terms t ts) = alike_then (met space ls n t (parts_of space ls (next n) t)) (met space ls n (erase t) (parts_of space ls (next n) (erase t))) (all_of space ls (counted t n) ts) (all_of space ls (counted (erase t) n) (erase_all ts)) (alike_met space ls n t (parts_of space ls (next n) t) (parts_of space ls (next n) (erase t)) (alike_parts space ls (next n) t)) (subst (λ (j : ℕ). Same (all_of space ls (counted t n) ts) (all_of space ls j (erase_all ts))) (sym (counted-erase t n)) (alike_all space ls (counted t n) ts))

  alike_cases : (space : Namespace) (ls : List Label) (n : ℕ) (cs : Cases) → Same (cases_of space ls n cs) (cases_of space ls n (erase_cases cs))
  alike_cases space ls n no_cases = refl
  alike_cases space ls n (more_cases keys t cs) = alike_then (met space ls n t (parts_of space ls (next n) t)) (met space ls n (erase t) (parts_of space ls (next n) (erase t))) (cases_of space ls (counted t n) cs) (cases_of space ls (counted (erase t) n) (erase_cases cs)) (alike_met space ls n t (parts_of space ls (next n) t) (parts_of space ls (next n) (erase t)) (alike_parts space ls (next n) t)) (subst (λ (j : ℕ). Same (cases_of space ls (counted t n) cs) (cases_of space ls j (erase_cases cs))) (sym (counted-erase t n)) (alike_cases space ls (counted t n) cs))

alike_wanted : (body : Term) (t : IrType) → Same (ask_wanted body t) (ask_wanted body t)
unfolding ◌>>=◌ asks_sub
alike_wanted body t = (refl, λ x y e. alike_unless (Refused 0 0) (done true) (says_yes x) (says_yes y) refl (same_yes x y e))

alike_result : (body : Term) (t : IrType) → Same (ask_result body t) (ask_result (erase body) t)
alike_result body type.NoType = refl
alike_result body t = subst (λ (x : IrType). Same (ask_wanted body t) (asks_sub x t >>= unless_no (Refused 0 0) (done true))) (sym (type-erase body)) (alike_wanted body t)

alike_body : (space : Namespace) (body : Term) (t : IrType) → Same (body_task space body t) (body_task space (erase body) t)
unfolding body_task
alike_body space body t = alike_then (check_of space [] 0 body) (check_of space [] 0 (erase body)) (ask_result body t) (ask_result (erase body) t) (alike_met space [] 0 body (parts_of space [] (next 0) body) (parts_of space [] (next 0) (erase body)) (alike_parts space [] (next 0) body)) (alike_result body t)

alike_task : (d : MethodDef) (o : Option Term) → Same (check_task d o) (check_task (method_apart d) (option_map erase o))
alike_task d None = refl
alike_task d (Some body) = alike_body d.namespace body d.result

pub equal_checks : EqualAnswersGiveEqualChecks
equal_checks s t d e r r' log log' same h holds k =
    let first : Same (check_task d d.body) (check_task (method_apart d) (option_map erase d.body)) = alike_task d d.body in
    let second : Same (check_task (method_apart e) (option_map erase e.body)) (check_task e e.body) = alike_sym (check_task e e.body) (check_task (method_apart e) (option_map erase e.body)) (alike_task e e.body) in
    let middle : Same (check_task d d.body) (check_task (method_apart e) (method_apart e).body) = subst (λ (m : MethodDef). Same (check_task d d.body) (check_task m m.body)) same first in
    same_run (λ (a b : Bool). a ≡ b) s t (check_task d d.body) (check_task e e.body) r r' log log' (alike_trans (check_task d d.body) (check_task (method_apart e) (method_apart e).body) (check_task e e.body) middle second) h holds k
