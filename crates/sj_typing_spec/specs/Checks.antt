-- The check of a method: what it asks, and what it does with each answer.
use Rattle.std.specs.Prelude.{ℕ, Bool, true, false, List, [], ◌∷◌, ◌||◌, Option, Some, None}
use Rattle.sj_names.specs.declared.method_names.Namespace.{Namespace}
use Rattle.sj_trees.specs.declared.classes.FieldDef.{FieldDef}
use Rattle.sj_trees.specs.declared.classes.MethodDef.{MethodDef}
use Rattle.sj_trees.specs.declared.types.IrType.{IrType}
use Rattle.sj_trees.specs.declared.types.IrType.TheVariants as type
use Rattle.sj_trees.specs.Term.{Term, Terms, Cases, no_terms, more_terms, no_cases, more_cases, var_def, skip, block_of, labeled, assign, return_to, if_then, while_loop, do_while, try_catch, try_finally, throw, match_on, new_object, load_module, store_module, select, select_static, apply, apply_statically, apply_static, unary_op, binary_op, new_array, array_value, array_length, array_select, is_instance_of, as_instance_of, undefined_literal, null_literal, boolean_literal, char_literal, byte_literal, short_literal, int_literal, long_literal, string_literal, var_ref, this_ref, log_line}
use Rattle.sj_trees.specs.TypeOf.{type_of_term}
use Rattle.sj_ask.specs.declared.errors.TypeError.{TypeError}
use Rattle.sj_ask.specs.declared.errors.TypeError.TheVariants.{Refused}
use Rattle.sj_ask.specs.Sizes.{next, counted, counted_cases}
use Rattle.sj_ask.specs.Tasks.{Asking, done, stop, ◌>>=◌, asks_sub, asks_field}
use Rattle.sj_typing_spec.specs.declared.labels.Label.{Label}
use Rattle.sj_typing_spec.specs.declared.rows.Fit.{Fit}
use Rattle.sj_typing_spec.specs.declared.rows.FieldUse.{FieldUse}
use Rattle.sj_typing_spec.specs.declared.rows.Row.{Row}
use Rattle.sj_trees.specs.SameTypes.{is_same_type}
use Rattle.sj_typing_spec.specs.Nodes.{inside}
use Rattle.sj_typing_spec.specs.Typed.{tag}
use Rattle.sj_typing_spec.specs.Rows.{row_of}

-- a part of a check, which gives whether what a tree names may be assigned to
abbrev pub Checking : Type 0
Checking = Asking TypeError Bool

-- one part, and another behind it
unfoldable pub then_do : Checking → Checking → Checking
then_do first second = first >>= (λ _. second)

-- goes on after a yes, and refuses after a no
abbrev pub unless_no : TypeError → Checking → Bool → Checking
unless_no fault m true = m
unless_no fault m false = stop fault

-- each subtype is asked for, up to the first no
abbrev pub ask_fits : TypeError → List Fit → Checking
ask_fits fault [] = done true
ask_fits fault (f ∷ fs) = asks_sub f.sub f.above >>= unless_no fault (ask_fits fault fs)

-- a field that is there has the type that is written; it may be assigned to where it is mutable, or where it is the object's own
abbrev pub judge_field : TypeError → FieldUse → Option FieldDef → Checking
judge_field fault u None = stop fault
judge_field fault u (Some d) = unless_no fault (done (d.mutable || u.is_own)) (is_same_type d.tpe u.tpe)

abbrev pub ask_field : TypeError → Option FieldUse → Checking
ask_field fault None = done true
ask_field fault (Some u) = asks_field u.class u.name u.is_static >>= judge_field fault u

-- the conditions of one tree, in order
abbrev pub ask_row : TypeError → Row → Checking
ask_row fault r = unless_no fault (then_do (ask_fits fault r.fits) (ask_field fault r.field)) r.holds

-- the refusal of a tree of this number
abbrev pub fault_at : Term → ℕ → TypeError
fault_at t n = Refused (tag t) n

-- a tree behind the trees in it
unfoldable pub met : Namespace → List Label → ℕ → Term → Checking → Checking
met space ls n t parts = parts >>= (λ settable. ask_row (fault_at t n) (row_of space ls settable t))

-- one part, and another behind it, of which the first decides what may be assigned to
unfoldable pub both : Checking → Checking → Checking
both first second = first >>= (λ settable. second >>= (λ other. done settable))

abbrev mutual
  -- the trees in a tree, children before parents, left to right; they are numbered from n
  pub parts_of : Namespace → List Label → ℕ → Term → Checking
  parts_of space ls n (var_def p x t m e) = met space ls (n) e (parts_of space ls (next (n)) e)
  parts_of space ls n (skip p) = done true
  parts_of space ls n (block_of p ts) = all_of space ls (n) ts
  parts_of space ls n (labeled p l t e) = met space (inside l t ls) (n) e (parts_of space (inside l t ls) (next (n)) e)
  parts_of space ls n (assign p e d) = both (met space ls (n) e (parts_of space ls (next (n)) e)) (met space ls (counted e (n)) d (parts_of space ls (next (counted e (n))) d))
  parts_of space ls n (return_to p e l) = met space ls (n) e (parts_of space ls (next (n)) e)
  parts_of space ls n (if_then p e d b t) = both (met space ls (n) e (parts_of space ls (next (n)) e)) (both (met space ls (counted e (n)) d (parts_of space ls (next (counted e (n))) d)) (met space ls (counted d (counted e (n))) b (parts_of space ls (next (counted d (counted e (n)))) b)))
  parts_of space ls n (while_loop p e d) = both (met space ls (n) e (parts_of space ls (next (n)) e)) (met space ls (counted e (n)) d (parts_of space ls (next (counted e (n))) d))
  parts_of space ls n (do_while p e d) = both (met space ls (n) e (parts_of space ls (next (n)) e)) (met space ls (counted e (n)) d (parts_of space ls (next (counted e (n))) d))
  parts_of space ls n (try_catch p e x d t) = both (met space ls (n) e (parts_of space ls (next (n)) e)) (met space ls (counted e (n)) d (parts_of space ls (next (counted e (n))) d))
  parts_of space ls n (try_finally p e d) = both (met space ls (n) e (parts_of space ls (next (n)) e)) (met space ls (counted e (n)) d (parts_of space ls (next (counted e (n))) d))
  parts_of space ls n (throw p e) = met space ls (n) e (parts_of space ls (next (n)) e)
  parts_of space ls n (match_on p e cs d t) = both (met space ls (n) e (parts_of space ls (next (n)) e)) (both (cases_of space ls (counted e (n)) cs) (met space ls (counted_cases cs (counted e (n))) d (parts_of space ls (next (counted_cases cs (counted e (n)))) d)))
  parts_of space ls n (new_object p c k ts) = all_of space ls (n) ts
  parts_of space ls n (load_module p c) = done true
  parts_of space ls n (store_module p c e) = met space ls (n) e (parts_of space ls (next (n)) e)
  parts_of space ls n (select p e c f t) = met space ls (n) e (parts_of space ls (next (n)) e)
  parts_of space ls n (select_static p c f t) = done true
  parts_of space ls n (apply p e k ts t) = both (met space ls (n) e (parts_of space ls (next (n)) e)) (all_of space ls (counted e (n)) ts)
  parts_of space ls n (apply_statically p e c s k ts t) = both (met space ls (n) e (parts_of space ls (next (n)) e)) (all_of space ls (counted e (n)) ts)
  parts_of space ls n (apply_static p c s k ts t) = all_of space ls (n) ts
  parts_of space ls n (unary_op p o e) = met space ls (n) e (parts_of space ls (next (n)) e)
  parts_of space ls n (binary_op p o e d) = both (met space ls (n) e (parts_of space ls (next (n)) e)) (met space ls (counted e (n)) d (parts_of space ls (next (counted e (n))) d))
  parts_of space ls n (new_array p r e) = met space ls (n) e (parts_of space ls (next (n)) e)
  parts_of space ls n (array_value p r ts) = all_of space ls (n) ts
  parts_of space ls n (array_length p e) = met space ls (n) e (parts_of space ls (next (n)) e)
  parts_of space ls n (array_select p e d t) = both (met space ls (n) e (parts_of space ls (next (n)) e)) (met space ls (counted e (n)) d (parts_of space ls (next (counted e (n))) d))
  parts_of space ls n (is_instance_of p e t) = met space ls (n) e (parts_of space ls (next (n)) e)
  parts_of space ls n (as_instance_of p e t) = met space ls (n) e (parts_of space ls (next (n)) e)
  parts_of space ls n (undefined_literal p) = done true
  parts_of space ls n (null_literal p) = done true
  parts_of space ls n (boolean_literal p v) = done true
  parts_of space ls n (char_literal p v) = done true
  parts_of space ls n (byte_literal p v) = done true
  parts_of space ls n (short_literal p v) = done true
  parts_of space ls n (int_literal p v) = done true
  parts_of space ls n (long_literal p v) = done true
  parts_of space ls n (string_literal p u) = done true
  parts_of space ls n (var_ref p x t) = done true
  parts_of space ls n (this_ref p t) = done true
  parts_of space ls n (log_line p e) = met space ls (n) e (parts_of space ls (next (n)) e)

  pub all_of : Namespace → List Label → ℕ → Terms → Checking
  all_of space ls n no_terms = done true
  all_of space ls n (more_terms t ts) = then_do (met space ls n t (parts_of space ls (next n) t)) (all_of space ls (counted t n) ts)

  pub cases_of : Namespace → List Label → ℕ → Cases → Checking
  cases_of space ls n no_cases = done true
  cases_of space ls n (more_cases keys t cs) = then_do (met space ls n t (parts_of space ls (next n) t)) (cases_of space ls (counted t n) cs)

-- a tree of this number with those in it
abbrev pub check_of : Namespace → List Label → ℕ → Term → Checking
check_of space ls n t = met space ls n t (parts_of space ls (next n) t)

-- the body yields the result
abbrev pub ask_wanted : Term → IrType → Checking
ask_wanted body t = asks_sub (type_of_term body) t >>= unless_no (Refused 0 0) (done true)

abbrev pub ask_result : Term → IrType → Checking
ask_result body type.NoType = done true
ask_result body t = ask_wanted body t

-- the check of a body with this result
unfoldable pub body_task : Namespace → Term → IrType → Checking
body_task space body t = then_do (check_of space [] 0 body) (ask_result body t)

-- the check of a method
abbrev pub check_task : MethodDef → Option Term → Checking
check_task m None = done true
check_task m (Some body) = body_task m.namespace body m.result
