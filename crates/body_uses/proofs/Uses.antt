-- A body is built with what is there, where that is what its emitted code names.
use Rattle.std.proofs.Common.{◌≡◌, ℕ, suc, Bool, true, false, List, [], ◌∷◌, ◌++◌, ◌&&◌, ◌||◌, ◌⊎◌, inl, inr, Some, None, refl, sym, ◌∙◌, ap, subst, length, arith, codes, Contains}
use Rattle.std.specs.Prelude.{not, if◌then◌else◌, ℤ, pos}
use Rattle.std.specs.Ordering.{int_eq}
use Rattle.std.specs.List.{All, list_any}
use Rattle.std.proofs.lemmas.Bool.{and_parts, and_from}
use Rattle.std.proofs.lemmas.Bool.Decides.{Decides-int_eq}
use Rattle.std.proofs.lemmas.List.Elements.{All-nil, All-cons, All-head, All-tail}
use Rattle.std.proofs.lemmas.List.Folds.{Any-from_list_any}
use Rattle.object_folders.proofs.Direct.{Calls, calls_member, looks_up, calls_array, calls_by_name, is_called}
use Rattle.js_tree.specs.declared.items.Binding.{Binding}
use Rattle.sj_core.specs.Lookup.{Lookup}
use Rattle.sj_core.specs.Terms as core
use Rattle.sj_core.specs.Terms.{Expression, boxed_char, checked_value, static_call, receiver_call, made_of, field_of, unary_of, binary_of, followed}
use Rattle.sj_core.specs.Views.{expressions_of}
use Rattle.sj_core.specs.declared.callees.Callee.{Callee}
use Rattle.sj_core.specs.declared.callees.Callee.TheVariants as callees
use Rattle.sj_desugar_spec.specs.Coercions.{is_char, coerced, coerced_arguments, coerced_items, coerced_receiver}
use Rattle.sj_desugar_spec.specs.Desugar.{operand, receiver, received, received_text, into, block, operands, cases, finish, has_no_value, target_of, Targets, expression_of, all_expressions, labeled_code, leaving_code, wrapped, break_unless, first_of, second_of, third_of, rest_of, member, types_of, callee_of}
use Rattle.sj_desugar_spec.specs.Finalizers.{kept, keep_all, give_all_back, finalizer_code}
use Rattle.sj_desugar_spec.specs.Plain.{is_no_type, is_plain, are_plain, is_fixed}
use Rattle.sj_desugar_spec.specs.Spill.{Destination, discard, to_variable, to_result, Code, one, put_first, Operand, all_plain, texts, Spilled, spill, spill_case, then_use}
use Rattle.sj_desugar_spec.specs.Texts.{operand_of}
use Rattle.sj_emit_expr_spec.specs.Templates.{check_name, element_setter, is_nonzero_literal, called_member}
use Rattle.sj_emit_expr_spec.specs.Tests.{same_name}
use Rattle.sj_emit_expr_spec.specs.Uses.{object_binding, function_binding, class_use, static_use, setter_use, load_use, store_use, helper_of, test_uses, cast_uses, base_uses, type_uses, uses_in, uses_in_all, uses_of, uses_of_all, uses_of_cases, call_uses}
use Rattle.sj_infos.specs.Trees.{trees, below, all_below, cases_below}
use Rattle.sj_names.proofs.Same.{impossible, text-same}
use Rattle.sj_names.specs.Same.{is_same_text}
use Rattle.sj_names.specs.declared.method_names.Member.{Member}
use Rattle.sj_names.specs.declared.references.ArrayRef.{ArrayRef}
use Rattle.sj_names.specs.declared.references.BaseRef.{BaseRef}
use Rattle.sj_names.specs.declared.references.TypeRef.{TypeRef}
use Rattle.object_folders.specs.Typing.{may_check}
use Rattle.object_folders.specs.Built.{Usable, is_nonzero_int, is_nonzero_long, divides, is_operation, has_base, is_based, can_cast, can_put, are_countable, stands, is_built, are_built, are_built_cases, can_call, can_look_up}
use Rattle.sj_names.specs.declared.method_names.MethodName.{MethodName}
use Rattle.sj_names.specs.declared.method_names.Namespace.{Namespace}
use Rattle.sj_names.specs.declared.method_names.Namespace.TheVariants.{Public, Private, Constructor}
use Rattle.sure_receivers.specs.Sure.{is_sure}
use Rattle.sj_trees.specs.Term.{Term, Terms, no_terms, more_terms, Cases, no_cases, more_cases, var_def, skip, block_of, labeled, assign, return_to, if_then, while_loop, do_while, try_catch, try_finally, match_on, throw, new_object, new_array, array_value, array_length, array_select, load_module, store_module, select, select_static, apply_statically, apply_static, unary_op, binary_op, is_instance_of, as_instance_of, undefined_literal, null_literal, boolean_literal, char_literal, byte_literal, short_literal, int_literal, long_literal, string_literal, var_ref, this_ref, log_line, apply}
use Rattle.sj_trees.specs.TypeOf.{type_of_term, unary_result, binary_result}
use Rattle.sj_trees.specs.Types.{class_type, reference_type, element_type}
use Rattle.sj_trees.specs.declared.operators.BinaryOp.{BinaryOp}
use Rattle.sj_trees.specs.declared.operators.BinaryOp.TheVariants.{StringConcatenate, StrictEqual, StrictNotEqual, IntDivide, IntRemainder, LongDivide, LongRemainder}
use Rattle.sj_trees.specs.declared.positions.Position.{Position}
use Rattle.sj_trees.specs.declared.types.IrType.{IrType}
use Rattle.sj_trees.specs.declared.types.IrType.TheVariants.{Any, Undefined, Boolean, Char, Byte, Short, Int, Long, Nothing, String, Null, Array}
use Rattle.body_uses.specs.Given.{FitsDivision, HasType, body_helpers}

pub fixed_plain : (m : List ℕ → Bool) (t : Term) → is_fixed m t ≡ true → is_plain t ≡ true
fixed_plain m (undefined_literal p) h = refl
fixed_plain m (null_literal p) h = refl
fixed_plain m (boolean_literal p b) h = refl
fixed_plain m (char_literal p v) h = refl
fixed_plain m (byte_literal p v) h = refl
fixed_plain m (short_literal p v) h = refl
fixed_plain m (int_literal p v) h = refl
fixed_plain m (long_literal p v) h = refl
fixed_plain m (string_literal p u) h = refl
fixed_plain m (this_ref p t) h = refl
fixed_plain m (var_ref p x t) h = refl
fixed_plain m t h = impossible h

as_many : (os : List Operand) → length (texts os) ≡ length os
as_many [] = refl
as_many (o ∷ os) = ap suc (as_many os)

case_count : (all fixed plain : Bool) (o : Operand) (os : List Operand) (j : ℕ) → ((j : ℕ) → length (spill os j).expressions ≡ length os) → length (spill_case all fixed plain o os (spill os) j).expressions ≡ suc (length os)
case_count true fixed plain o os j rest = ap suc (as_many os)
case_count false true plain o os j rest = ap suc (rest j)
case_count false false true o os j rest = ap suc (rest (suc j))
case_count false false false o os j rest = ap suc (rest (o.code (to_variable (core.numbered j) o.tpe) (suc j)).next)

-- each operand has its expression
pub spill_count : (os : List Operand) (j : ℕ) → length (spill os j).expressions ≡ length os
spill_count [] j = refl
spill_count (o ∷ os) j = case_count (o.plain && all_plain os) o.fixed o.plain o os j (spill_count os)

-- a helper that bodies use, by its name
pub in_helpers : (x : List ℕ) → list_any (is_same_text x) body_helpers ≡ true → Contains body_helpers x
in_helpers x h = let at = Any-from_list_any (is_same_text x) body_helpers h in subst (Contains body_helpers) (sym (text-same x at.1 at.4)) (at.0, at.2, at.3)

-- the helper that sets an element is one of these
setter_listed : (t : IrType) → Contains body_helpers (element_setter t)
setter_listed Undefined = in_helpers (codes "$set") refl
setter_listed Boolean = in_helpers (codes "$set") refl
setter_listed Char = in_helpers (codes "$set") refl
setter_listed Byte = in_helpers (codes "$set") refl
setter_listed Short = in_helpers (codes "$set") refl
setter_listed Int = in_helpers (codes "$set") refl
setter_listed Long = in_helpers (codes "$set") refl
setter_listed String = in_helpers (codes "$set") refl
setter_listed Null = in_helpers (codes "$set") refl
setter_listed _ = in_helpers (codes "$put") refl

pub or_first : (a b : Bool) → a ≡ true → (a || b) ≡ true
or_first true b h = refl
or_first false b h = impossible h

pub or_second : (a b : Bool) → b ≡ true → (a || b) ≡ true
or_second true b h = refl
or_second false b h = h

nonzero : (z : ℤ) → (z ≡ pos 0 → ⊥) → not (int_eq z (pos 0)) ≡ true
nonzero z n = go (int_eq z (pos 0)) refl
  where
    go : (b : Bool) → int_eq z (pos 0) ≡ b → not (int_eq z (pos 0)) ≡ true
    go true e = absurd (n ((Decides-int_eq z (pos 0)).0 e))
    go false e = ap not e

-- whether a term of this type may be an int, and whether it may be a long
abbrev may_be_int : IrType → Bool
may_be_int Int = true
may_be_int Nothing = true
may_be_int _ = false

abbrev may_be_long : IrType → Bool
may_be_long Long = true
may_be_long Nothing = true
may_be_long _ = false

as_int : (d : Term) → HasType Int d → may_be_int (type_of_term d) ≡ true
as_int d (inl e) = subst (λ (t : IrType). may_be_int t ≡ true) (sym e) refl
as_int d (inr e) = subst (λ (t : IrType). may_be_int t ≡ true) (sym e) refl

as_long : (d : Term) → HasType Long d → may_be_long (type_of_term d) ≡ true
as_long d (inl e) = subst (λ (t : IrType). may_be_long t ≡ true) (sym e) refl
as_long d (inr e) = subst (λ (t : IrType). may_be_long t ≡ true) (sym e) refl

-- the expression of an operand is its own, where that may stand in an expression, or it is no literal
abbrev IsOwnText : Operand → Expression → Type 0
IsOwnText o e = (((o.plain ≡ true) ⊎ (o.fixed ≡ true)) × (e ≡ o.text)) ⊎ (is_nonzero_literal e ≡ false)

last_case : (all fixed plain : Bool) (o : Operand) (j : ℕ) → (o.plain && true) ≡ all → o.fixed ≡ fixed → IsOwnText o (first_of (spill_case all fixed plain o [] (spill []) j).expressions)
last_case true fixed plain o j a f = inl (inl (and_parts o.plain true a).0, refl)
last_case false true plain o j a f = inl (inr f, refl)
last_case false false true o j a f = inr refl
last_case false false false o j a f = inr refl

last_text : (o : Operand) (j : ℕ) → IsOwnText o (first_of (spill (o ∷ []) j).expressions)
last_text o j = last_case (o.plain && true) o.fixed o.plain o j refl refl

second_case : (all fixed plain : Bool) (a o : Operand) (j : ℕ) → (a.plain && (o.plain && true)) ≡ all → IsOwnText o (second_of (spill_case all fixed plain a (o ∷ []) (spill (o ∷ [])) j).expressions)
second_case true fixed plain a o j h = inl (inl (and_parts o.plain true (and_parts a.plain (o.plain && true) h).1).0, refl)
second_case false true plain a o j h = last_text o j
second_case false false true a o j h = last_text o (suc j)
second_case false false false a o j h = last_text o (a.code (to_variable (core.numbered j) a.tpe) (suc j)).next

second_text : (a o : Operand) (j : ℕ) → IsOwnText o (second_of (spill (a ∷ o ∷ []) j).expressions)
second_text a o j = second_case (a.plain && (o.plain && true)) a.fixed a.plain a o j refl

module _ {X : Type 0} (P : X → Type 0) where
  pub ahead : (xs ys : List X) → All P (xs ++ ys) → All P xs
  ahead [] ys h = All-nil P
  ahead (x ∷ xs) ys h = All-cons P x xs (All-head P x (xs ++ ys) h) (ahead xs ys (All-tail P x (xs ++ ys) h))

  pub after : (xs ys : List X) → All P (xs ++ ys) → All P ys
  after [] ys h = h
  after (x ∷ xs) ys h = after xs ys (All-tail P x (xs ++ ys) h)

  pub combine : (xs ys : List X) → All P xs → All P ys → All P (xs ++ ys)
  combine [] ys h k = k
  combine (x ∷ xs) ys h k = All-cons P x (xs ++ ys) (All-head P x xs h) (combine xs ys (All-tail P x xs h) k)

module _ (U : Binding → Type 0) (runs : Lookup) where
  pub front : (xs ys : List Binding) → All U (xs ++ ys) → All U xs
  front = ahead U

  pub back : (xs ys : List Binding) → All U (xs ++ ys) → All U ys
  back = after U

  join : (xs ys : List Binding) → All U xs → All U ys → All U (xs ++ ys)
  join = combine U

  abbrev pub In : Expression → Type 0
  In e = All U (uses_in runs e)

  abbrev pub InAll : List Expression → Type 0
  InAll [] = Unit {0}
  InAll (e ∷ es) = In e × InAll es

  abbrev pub Within : core.Statements → Type 0
  Within ss = All U (uses_of_all runs ss)

  pub only : (s : core.Statement) → Within (core.statement s core.no_statements) → All U (uses_of runs s)
  only s h = front (uses_of runs s) [] h

  pub followed_parts : (a b : core.Statements) → Within (followed a b) → Within a × Within b
  followed_parts core.no_statements b h = (All-nil U, h)
  followed_parts (core.statement s ss) b h = let p = followed_parts ss b (back (uses_of runs s) (uses_of_all runs (followed ss b)) h) in (join (uses_of runs s) (uses_of_all runs ss) (front (uses_of runs s) (uses_of_all runs (followed ss b)) h) p.0, p.1)

  pub uncoerced : (expected own : IrType) (e : Expression) → In (coerced expected own e) → In e
  uncoerced expected own e = go (is_char own && not (is_char expected))
    where
      go : (b : Bool) → In (if b then boxed_char e else e) → In e
      go true h = back (uses_in runs (boxed_char core.undefined_value)) (uses_in runs e) h
      go false h = h

  pub arguments_in : (rs : List TypeRef) (ts : List IrType) (es : List Expression) → All U (uses_in_all runs (expressions_of (coerced_arguments rs ts es))) → InAll es
  arguments_in rs ts [] h = tt
  arguments_in (r ∷ rs) (t ∷ ts) (e ∷ es) h = let rest = coerced_arguments rs ts es in (uncoerced (reference_type r) t e (front (uses_in runs (coerced (reference_type r) t e)) (uses_in_all runs (expressions_of rest)) h), arguments_in rs ts es (back (uses_in runs (coerced (reference_type r) t e)) (uses_in_all runs (expressions_of rest)) h))
  arguments_in [] ts (e ∷ es) h = (front (uses_in runs e) (uses_in_all runs (expressions_of es)) h, arguments_in [] ts es (back (uses_in runs e) (uses_in_all runs (expressions_of es)) h))
  arguments_in (r ∷ rs) [] (e ∷ es) h = (front (uses_in runs e) (uses_in_all runs (expressions_of es)) h, arguments_in (r ∷ rs) [] es (back (uses_in runs e) (uses_in_all runs (expressions_of es)) h))

  pub items_in : (t : IrType) (ts : List IrType) (es : List Expression) → All U (uses_in_all runs (expressions_of (coerced_items t ts es))) → InAll es
  items_in t ts [] h = tt
  items_in t (u ∷ us) (e ∷ es) h = let rest = coerced_items t us es in (uncoerced t u e (front (uses_in runs (coerced t u e)) (uses_in_all runs (expressions_of rest)) h), items_in t us es (back (uses_in runs (coerced t u e)) (uses_in_all runs (expressions_of rest)) h))
  items_in t [] (e ∷ es) h = (front (uses_in runs e) (uses_in_all runs (expressions_of es)) h, items_in t [] es (back (uses_in runs e) (uses_in_all runs (expressions_of es)) h))

  pub operand_in : (o : BinaryOp) (t : IrType) (e : Expression) → In (operand_of o t e) → In e
  operand_in StringConcatenate String e h = h
  operand_in StringConcatenate Char e h = h
  operand_in StringConcatenate t e h = h
  operand_in StrictEqual t e h = uncoerced Any t e h
  operand_in StrictNotEqual t e h = uncoerced Any t e h
  operand_in o t e h = h

  -- an operand's expression or its statements are within
  pub data Written (o : Operand) : Type 0 where
    as_text : ((o.plain ≡ true) ⊎ (o.fixed ≡ true)) → In o.text → Written o
    as_code : o.plain ≡ false → (x : core.Variable) (j : ℕ) → Within (o.code (to_variable x o.tpe) j).statements → Written o

  abbrev pub AllWritten : List Operand → Type 0
  AllWritten [] = Unit {0}
  AllWritten (o ∷ os) = Written o × AllWritten os

  texts_in : (os : List Operand) → all_plain os ≡ true → InAll (texts os) → AllWritten os
  texts_in [] p h = tt
  texts_in (o ∷ os) p h = let q = and_parts o.plain (all_plain os) p in (as_text (inl q.0) h.0, texts_in os q.1 h.1)

  abbrev SpillIn : List Operand → Type 0
  SpillIn os = (j : ℕ) → Within (spill os j).statements → InAll (spill os j).expressions → AllWritten os

  case_in : (all fixed plain : Bool) (o : Operand) (os : List Operand) (j : ℕ) → (o.plain && all_plain os) ≡ all → o.fixed ≡ fixed → o.plain ≡ plain → SpillIn os → Within (spill_case all fixed plain o os (spill os) j).statements → InAll (spill_case all fixed plain o os (spill os) j).expressions → AllWritten (o ∷ os)
  case_in true fixed plain o os j a f p rest hs he = let q = and_parts o.plain (all_plain os) a in (as_text (inl q.0) he.0, texts_in os q.1 he.1)
  case_in false true plain o os j a f p rest hs he = (as_text (inr f) he.0, rest j hs he.1)
  case_in false false true o os j a f p rest hs he = (as_text (inl p) (front (uses_in runs o.text) (uses_of_all runs (spill os (suc j)).statements) hs), rest (suc j) (back (uses_in runs o.text) (uses_of_all runs (spill os (suc j)).statements) hs) he.1)
  case_in false false false o os j a f p rest hs he =
      let c : Code = o.code (to_variable (core.numbered j) o.tpe) (suc j) in
      let q = followed_parts c.statements (spill os c.next).statements hs in
      (as_code p (core.numbered j) (suc j) q.0, rest c.next q.1 he.1)

  pub spill_in : (os : List Operand) → SpillIn os
  spill_in [] j hs he = tt
  spill_in (o ∷ os) j hs he = case_in (o.plain && all_plain os) o.fixed o.plain o os j refl refl refl (spill_in os) hs he

  pub one_in : (es : List Expression) → length es ≡ 1 → In (first_of es) → InAll es
  one_in [] l h = tt
  one_in (e ∷ []) l h = (h, tt)
  one_in (e ∷ f ∷ es) l h = absurd (omega (arith, l))

  pub two_in : (es : List Expression) → length es ≡ 2 → In (first_of es) → In (second_of es) → InAll es
  two_in [] l h k = tt
  two_in (e ∷ []) l h k = absurd (omega (arith, l))
  two_in (e ∷ f ∷ []) l h k = (h, (k, tt))
  two_in (e ∷ f ∷ g ∷ es) l h k = absurd (omega (arith, l))

  pub three_in : (es : List Expression) → length es ≡ 3 → In (first_of es) → In (second_of es) → In (third_of es) → InAll es
  three_in [] l h k m = tt
  three_in (e ∷ []) l h k m = absurd (omega (arith, l))
  three_in (e ∷ f ∷ []) l h k m = absurd (omega (arith, l))
  three_in (e ∷ f ∷ g ∷ []) l h k m = (h, (k, (m, tt)))
  three_in (e ∷ f ∷ g ∷ d ∷ es) l h k m = absurd (omega (arith, l))

  pub first_and_rest : (es : List Expression) → In (first_of es) → InAll (rest_of es) → InAll es
  first_and_rest [] h k = tt
  first_and_rest (e ∷ es) h k = (h, k)

  pub finished : (k : Destination) (p : Position) (t : IrType) (e : Expression) (j : ℕ) → Within (finish k p t false e j).statements → In e
  finished discard p t e j h = only (core.evaluate_of (Some p) e) h
  finished (to_variable x expected) p t e j h = go (has_no_value t) h
    where
      go : (b : Bool) → Within (elim b as (λ b. Code) [ true ↦ one (core.evaluate_of (Some p) e) j | false ↦ one (core.assign_to (Some p) x (coerced expected t e)) j ]).statements → In e
      go true h = only (core.evaluate_of (Some p) e) h
      go false h = uncoerced expected t e (only (core.assign_to (Some p) x (coerced expected t e)) h)
  finished (to_result expected) p t e j h = go (has_no_value t) h
    where
      go : (b : Bool) → Within (elim b as (λ b. Code) [ true ↦ one (core.evaluate_of (Some p) e) j | false ↦ one (core.return_of (Some p) (coerced expected t e)) j ]).statements → In e
      go true h = only (core.evaluate_of (Some p) e) h
      go false h = uncoerced expected t e (only (core.return_of (Some p) (coerced expected t e)) h)

  -- what keeps variables and gives them back lies around the code of a finalizer
  pub finalizer_in : (goes_to : List ℕ → Destination) (d : Term) (j : ℕ) (body : ℕ → Code) → Within (finalizer_code goes_to d j body).statements → Within (body (keep_all (kept goes_to d) j).next).statements
  finalizer_in goes_to d j body h =
      let ahead : Code = keep_all (kept goes_to d) j in
      let code : Code = body ahead.next in
      let last : Code = give_all_back (kept goes_to d) j code.next in
      (followed_parts ahead.statements code.statements (followed_parts (followed ahead.statements code.statements) last.statements h).0).1

  pub labeled_in : (k : Destination) (p : Position) (l : List ℕ) (c : Code) → Within (labeled_code k p l c).statements → Within c.statements
  labeled_in (to_result t) p l c h = h
  labeled_in discard p l c h = only (core.labeled_of (Some p) l c.statements) h
  labeled_in (to_variable x t) p l c h = only (core.labeled_of (Some p) l c.statements) h

  pub leaving_in : (k : Destination) (p : Position) (l : List ℕ) (c : Code) → Within (leaving_code k p l c).statements → Within c.statements
  leaving_in (to_result t) p l c h = h
  leaving_in discard p l c h = (followed_parts c.statements (core.statement (core.leave_label (Some p) l) core.no_statements) h).0
  leaving_in (to_variable x t) p l c h = (followed_parts c.statements (core.statement (core.leave_label (Some p) l) core.no_statements) h).0

  pub break_in : (e : Expression) → All U (uses_of runs (break_unless e)) → In e
  break_in e h = front (uses_in runs e) [] (front (uses_in runs e ++ []) [] h)

  -- where what code that can use the one uses is there for the other
  module _ (from has : Usable) where
    -- a member that runs on an object is there where its function is used, for what it gives where the call of a constructor has this type
    abbrev pub GivesReceived : Namespace → List ℕ → MethodName → IrType → Type 0
    GivesReceived Constructor c m t = (from.built (member c Constructor m) ≡ true → U (function_binding (member c Constructor m)) → has.built (member c Constructor m) ≡ true) × (is_no_type t ≡ false → from.received (member c Constructor m) ≡ true → U (function_binding (member c Constructor m)) → has.received (member c Constructor m) ≡ true)
    GivesReceived Public c m t = from.received (from.lookup.target (member c Public m)) ≡ true → U (function_binding (runs.target (member c Public m))) → has.received (has.lookup.target (member c Public m)) ≡ true
    GivesReceived Private c m t = from.received (member c Private m) ≡ true → U (function_binding (member c Private m)) → has.received (member c Private m) ≡ true
    GivesReceived _ c m t = Unit {0}

    -- what a tree uses that its code names is there
    -- arrays can be made where the helper that makes them is used, and their base can be named
    abbrev pub GivesArray : List ℕ → BaseRef → Type 0
    GivesArray x b = (from.arrays ≡ true → U (object_binding x) → has.arrays ≡ true) × (has_base from b ≡ true → All U (base_uses b) → has_base has b ≡ true)

    abbrev pub Gives : Term → Type 0
    Gives (apply_static p c n m ts t) = from.linked (member c n m) ≡ true → U (function_binding (member c n m)) → has.linked (member c n m) ≡ true
    Gives (apply p e m ts t) = ((c : List ℕ) → callee_of (type_of_term e) m ≡ callees.Member (member c Public m) → GivesReceived Public c m t) × (((c : List ℕ) → callee_of (type_of_term e) m ≡ callees.LookedUp c m → can_look_up from c m ≡ true → All U (call_uses runs (callees.LookedUp c m)) → can_look_up has c m ≡ true) × ((callee_of (type_of_term e) m ≡ callees.OfArray m → from.on_arrays m ≡ true → has.on_arrays m ≡ true) × (m.result ≡ None → from.reflected m ≡ true → All U (call_uses runs (callees.Reflective m)) → has.reflected m ≡ true)))
    Gives (apply_statically p e c n m ts t) = GivesReceived n c m t
    Gives (new_object p c m ts) = from.made c ≡ true → from.built (member c Constructor m) ≡ true → U (function_binding (member c Constructor m)) → U (class_use c) → (has.built (member c Constructor m) ≡ true) × (has.made c ≡ true)
    Gives (select p e c f t) = from.field c f t ≡ true → has.field c f t ≡ true
    Gives (select_static p c f t) = (from.static_field c f t ≡ true → U (static_use c f) → has.static_field c f t ≡ true) × (from.static_setter c f t ≡ true → U (setter_use c f) → has.static_setter c f t ≡ true)
    Gives (load_module p c) = from.modules c ≡ true → U (load_use c) → has.modules c ≡ true
    Gives (store_module p c e) = from.stored c ≡ true → U (store_use c) → has.stored c ≡ true
    Gives (is_instance_of p e t) = (from.tests t ≡ true → All U (test_uses t) → has.tests t ≡ true) × (is_based from t ≡ true → All U (type_uses t) → is_based has t ≡ true)
    Gives (as_instance_of p e t) = (from.casts t ≡ true → All U (cast_uses t) → has.casts t ≡ true) × (is_based from t ≡ true → All U (type_uses t) → is_based has t ≡ true)
    Gives (new_array p r e) = GivesArray (codes "$mk") r.base
    Gives (array_value p r ts) = GivesArray (codes "$A") r.base
    Gives (binary_op p o e d) = divides from o ≡ true → FitsDivision o d
    Gives _ = Unit {0}

  -- where code that can use the one is given what it uses by the other
  module _ (from has : Usable) (checked : Term → Bool) (sure : List ℕ → Bool) (objects : from.objects ≡ true → has.objects ≡ true) (helpers : (x : List ℕ) → Contains body_helpers x → from.helper x ≡ true → U (object_binding x) → has.helper x ≡ true) (nulls : (e : Term) → checked e ≡ true → is_sure sure e ≡ false → from.helper check_name ≡ true) where
    abbrev old : Term → Bool
    old = is_built from checked

    abbrev olds : Terms → Bool
    olds = are_built from checked

    abbrev old_cases : Cases → Bool
    old_cases = are_built_cases from checked

    abbrev checks : Term → Bool
    checks = may_check has sure

    abbrev new : Term → Bool
    new = is_built has checks

    abbrev news : Terms → Bool
    news = are_built has checks

    abbrev new_cases : Cases → Bool
    new_cases = are_built_cases has checks

    abbrev Found : Term → Type 0
    Found = Gives from has

    abbrev Each : List Term → Type 0
    Each ts = All Found ts

    inner : (t : Term) → Each (trees t) → Each (below t)
    inner t g = All-tail Found t (below t) g

    two : (a b : Term) → Each (trees a ++ trees b) → Each (trees a) × Each (trees b)
    two a b g = (ahead Found (trees a) (trees b) g, after Found (trees a) (trees b) g)

    three : (a b c : Term) → Each (trees a ++ trees b ++ trees c) → Each (trees a) × (Each (trees b) × Each (trees c))
    three a b c g = let first = two a b (ahead Found (trees a ++ trees b) (trees c) g) in (first.0, (first.1, after Found (trees a ++ trees b) (trees c) g))

    -- the check of null is used unless the receiver is sure
    abbrev IsChecked : Term → Type 0
    IsChecked e = is_sure sure e ≡ false → U (object_binding check_name)

    check_there : (e : Term) → checked e ≡ true → IsChecked e → checks e ≡ true
    check_there e h u = go (is_sure sure e) refl
      where
        go : (b : Bool) → is_sure sure e ≡ b → (is_sure sure e || has.helper check_name) ≡ true
        go true f = or_first (is_sure sure e) (has.helper check_name) f
        go false f = or_second (is_sure sure e) (has.helper check_name) (helpers check_name (in_helpers check_name refl) (nulls e h f) (u f))

    received_in : (b : Bool) (e : Expression) → In (received_text b e) → In e
    received_in true e h = h
    received_in false e h = All-tail U (object_binding check_name) (uses_in runs e) h

    checked_in : (b : Bool) (e : Expression) → In (received_text b e) → b ≡ false → U (object_binding check_name)
    checked_in true e h f = impossible (sym f)
    checked_in false e h f = All-head U (object_binding check_name) (uses_in runs e) h

    unreceived : (own : IrType) (e : Expression) → In (coerced_receiver own e) → In e
    unreceived own e h = uncoerced (IrType.Class (codes "java.lang.Character")) own e h

    -- a literal in emitted code is one of its own type
    literal : (d : Term) → is_plain d ≡ true → old d ≡ true → is_nonzero_literal (expression_of sure d) ≡ true → (may_be_int (type_of_term d) ≡ true → is_nonzero_int d ≡ true) × (may_be_long (type_of_term d) ≡ true → is_nonzero_long d ≡ true)
    literal (int_literal p z) q k l = (λ t. nonzero z (λ e. impossible (subst (λ (y : ℤ). is_nonzero_literal (core.number_value y) ≡ true) e l)), λ t. impossible t)
    literal (long_literal p z) q k l = (λ t. impossible t, λ t. nonzero z (λ e. impossible (subst (λ (y : ℤ). is_nonzero_literal (core.long_value y) ≡ true) e l)))
    literal (undefined_literal p) q k l = (λ t. impossible t, λ t. impossible t)
    literal (null_literal p) q k l = (λ t. impossible t, λ t. impossible t)
    literal (boolean_literal p b) q k l = (λ t. impossible t, λ t. impossible t)
    literal (char_literal p z) q k l = (λ t. impossible t, λ t. impossible t)
    literal (byte_literal p z) q k l = (λ t. impossible t, λ t. impossible t)
    literal (short_literal p z) q k l = (λ t. impossible t, λ t. impossible t)
    literal (string_literal p us) q k l = (λ t. impossible t, λ t. impossible t)
    literal (if_then p c a b t) q k l = impossible l
    literal (apply_static p c n m ts t) q k l = impossible l
    literal (apply p e m ts t) q k l = impossible l
    literal (apply_statically p e c n m ts t) q k l = impossible l
    literal (new_object p c m ts) q k l = impossible l
    literal (select p e c f t) q k l = impossible l
    literal (select_static p c f t) q k l = impossible l
    literal (load_module p c) q k l = impossible l
    literal (store_module p c e) q k l = impossible q
    literal (unary_op p o e) q k l = impossible l
    literal (binary_op p o e d) q k l = impossible l
    literal (new_array p r e) q k l = impossible l
    literal (array_value p r ts) q k l = impossible l
    literal (array_length p e) q k l = impossible l
    literal (array_select p e i t) q k l = impossible l
    literal (is_instance_of p e t) q k l = impossible l
    literal (as_instance_of p e t) q k l = impossible l
    literal (var_ref p x t) q k l = impossible l
    literal (this_ref p t) q k l = impossible l
    literal (var_def p x t b e) q k l = impossible q
    literal (skip p) q k l = impossible q
    literal (block_of p ts) q k l = impossible q
    literal (labeled p n t e) q k l = impossible q
    literal (assign p d e) q k l = impossible q
    literal (return_to p e n) q k l = impossible q
    literal (while_loop p c b) q k l = impossible q
    literal (try_catch p e x d t) q k l = impossible q
    literal (try_finally p e d) q k l = impossible q
    literal (do_while p b c) q k l = impossible q
    literal (match_on p e cs d t) q k l = impossible q
    literal (throw p e) q k l = impossible q
    literal (log_line p e) q k l = impossible q

    -- the expression of a right operand is its own, or it is no literal
    abbrev IsRight : Term → Expression → Type 0
    IsRight d e = ((is_plain d ≡ true) × (e ≡ expression_of sure d)) ⊎ (is_nonzero_literal e ≡ false)

    int_divisor : (d : Term) (e : Expression) → IsRight d e → old d ≡ true → HasType Int d → is_nonzero_literal e ≡ true → is_nonzero_int d ≡ true
    int_divisor d e (inl q) k t l = (literal d q.0 k (subst (λ (y : Expression). is_nonzero_literal y ≡ true) q.1 l)).0 (as_int d t)
    int_divisor d e (inr n) k t l = impossible (sym n ∙ l)

    long_divisor : (d : Term) (e : Expression) → IsRight d e → old d ≡ true → HasType Long d → is_nonzero_literal e ≡ true → is_nonzero_long d ≡ true
    long_divisor d e (inl q) k t l = (literal d q.0 k (subst (λ (y : Expression). is_nonzero_literal y ≡ true) q.1 l)).1 (as_long d t)
    long_divisor d e (inr n) k t l = impossible (sym n ∙ l)

    -- a divisor is a literal, or its helper is used
    division : (x : List ℕ) → Contains body_helpers x → (nonzero b : Bool) → (b ≡ true → from.helper x ≡ true → nonzero ≡ true) → (b ≡ false → U (object_binding x)) → (from.helper x || nonzero) ≡ true → (has.helper x || nonzero) ≡ true
    division x i nonzero b own used k = go (from.helper x) b refl refl k
      where
        go : (c e : Bool) → from.helper x ≡ c → b ≡ e → (c || nonzero) ≡ true → (has.helper x || nonzero) ≡ true
        go false e f g k = or_second (has.helper x) nonzero k
        go true true f g k = or_second (has.helper x) nonzero (own g f)
        go true false f g k = or_first (has.helper x) nonzero (helpers x i f (used g))

    first_used : (b : Bool) (f : Bool → List Binding) (y : Binding) → f false ≡ y ∷ [] → All U (f b) → b ≡ false → U y
    first_used b f y is h e = All-head U y [] (subst (All U) is (subst (λ (c : Bool). All U (f c)) e h))

    -- identity calls its helper, whatever the right operand is
    same_used : (b : Bool) → All U (helper_of b StrictEqual) → U (object_binding same_name)
    same_used true h = All-head U (object_binding same_name) [] h
    same_used false h = All-head U (object_binding same_name) [] h

    differs_used : (b : Bool) → All U (helper_of b StrictNotEqual) → U (object_binding same_name)
    differs_used true h = All-head U (object_binding same_name) [] h
    differs_used false h = All-head U (object_binding same_name) [] h

    -- a cast to any is there everywhere
    cast_there : (t : IrType) → (from.casts t ≡ true → All U (cast_uses t) → has.casts t ≡ true) → All U (cast_uses t) → can_cast from t ≡ true → can_cast has t ≡ true
    cast_there Any g u h = refl
    cast_there _ g u h = g h u

    operation_there : (o : BinaryOp) (d : Term) (e : Expression) → IsRight d e → old d ≡ true → (divides from o ≡ true → FitsDivision o d) → All U (helper_of (is_nonzero_literal (operand_of o (type_of_term d) e)) o) → is_operation from o d ≡ true → is_operation has o d ≡ true
    operation_there StrictEqual d e r k g h q = helpers same_name (in_helpers same_name refl) q (same_used (is_nonzero_literal (operand_of StrictEqual (type_of_term d) e)) h)
    operation_there StrictNotEqual d e r k g h q = helpers same_name (in_helpers same_name refl) q (differs_used (is_nonzero_literal (operand_of StrictNotEqual (type_of_term d) e)) h)
    operation_there IntDivide d e r k g h q = division (codes "$id") (in_helpers (codes "$id") refl) (is_nonzero_int d) (is_nonzero_literal e) (λ l f. int_divisor d e r k (g f) l) (first_used (is_nonzero_literal e) (λ c. helper_of c IntDivide) (object_binding (codes "$id")) refl h) q
    operation_there IntRemainder d e r k g h q = division (codes "$im") (in_helpers (codes "$im") refl) (is_nonzero_int d) (is_nonzero_literal e) (λ l f. int_divisor d e r k (g f) l) (first_used (is_nonzero_literal e) (λ c. helper_of c IntRemainder) (object_binding (codes "$im")) refl h) q
    operation_there LongDivide d e r k g h q = division (codes "$ld") (in_helpers (codes "$ld") refl) (is_nonzero_long d) (is_nonzero_literal e) (λ l f. long_divisor d e r k (g f) l) (first_used (is_nonzero_literal e) (λ c. helper_of c LongDivide) (object_binding (codes "$ld")) refl h) q
    operation_there LongRemainder d e r k g h q = division (codes "$lm") (in_helpers (codes "$lm") refl) (is_nonzero_long d) (is_nonzero_literal e) (λ l f. long_divisor d e r k (g f) l) (first_used (is_nonzero_literal e) (λ c. helper_of c LongRemainder) (object_binding (codes "$lm")) refl h) q
    operation_there _ d e r k g h q = refl

    -- a field is there and its receiver is checked
    select_there : (c f : List ℕ) (t : IrType) (e : Term) → (from.field c f t ≡ true → has.field c f t ≡ true) → IsChecked e → (from.field c f t && checked e) ≡ true → (has.field c f t && checks e) ≡ true
    select_there c f t e g u k = let q = and_parts (from.field c f t) (checked e) k in and_from (has.field c f t) (checks e) (g q.0) (check_there e q.1 u)

    method_there : (was is : Bool) (k : Member) (e : Term) → (was ≡ true → U (function_binding k) → is ≡ true) → IsChecked e → U (function_binding k) → (was && checked e) ≡ true → (is && checks e) ≡ true
    method_there was is k e g u f h = let q = and_parts was (checked e) h in and_from is (checks e) (g q.0 f) (check_there e q.1 u)

    call_there : (p : Position) (e : Term) (c : List ℕ) (n : Namespace) (m : MethodName) (ts : Terms) (t : IrType) → GivesReceived from has n c m t → IsChecked e → U (function_binding (called_member runs n (member c n m))) → stands from checked (apply_statically p e c n m ts t) ≡ true → stands has checks (apply_statically p e c n m ts t) ≡ true
    call_there p e c Public m ts t g u f h = method_there (from.received (from.lookup.target (member c Public m))) (has.received (has.lookup.target (member c Public m))) (runs.target (member c Public m)) e g u f h
    call_there p e c Private m ts t g u f h = method_there (from.received (member c Private m)) (has.received (member c Private m)) (member c Private m) e g u f h
    call_there p e c Constructor m ts t g u f h = by (is_no_type t) refl h
      where
        k : Member
        k = member c Constructor m

        by : (b : Bool) → is_no_type t ≡ b → (if b then from.built k else (from.received k && checked e)) ≡ true → (if is_no_type t then has.built k else (has.received k && checks e)) ≡ true
        by true none q = subst (λ (o : Bool). (if o then has.built k else (has.received k && checks e)) ≡ true) (sym none) (g.0 q f)
        by false value q = subst (λ (o : Bool). (if o then has.built k else (has.received k && checks e)) ≡ true) (sym value) (method_there (from.received k) (has.received k) k e (g.1 value) u f q)
    call_there p e c n m ts t g u f h = impossible h

    applied_there : (p : Position) (e : Term) (m : MethodName) (ts : Terms) (t : IrType) → Gives from has (apply p e m ts t) → IsChecked e → All U (call_uses runs (callee_of (type_of_term e) m)) → stands from checked (apply p e m ts t) ≡ true → stands has checks (apply p e m ts t) ≡ true
    applied_there p e m ts t g u f h = and_from (can_call has (callee_of (type_of_term e) m)) (checks e) (by (is_called from (type_of_term e) m q.0)) (check_there e q.1 u)
      where
        q : (can_call from (callee_of (type_of_term e) m) ≡ true) × (checked e ≡ true)
        q = and_parts (can_call from (callee_of (type_of_term e) m)) (checked e) h

        by : Calls from (type_of_term e) m → can_call has (callee_of (type_of_term e) m) ≡ true
        by (calls_member is) = ap (can_call has) is.callee ∙ g.0 is.direct.class is.callee (sym (ap (can_call from) is.callee) ∙ q.0) (All-head U (function_binding (runs.target (member is.direct.class Public m))) [] (subst (λ (k : Callee). All U (call_uses runs k)) is.callee f))
        by (looks_up is) = ap (can_call has) is.callee ∙ g.1.0 is.lookup.class is.callee is.lookup.there (subst (λ (k : Callee). All U (call_uses runs k)) is.callee f)
        by (calls_array is) = ap (can_call has) is.callee ∙ g.1.1.0 is.callee is.on.there
        by (calls_by_name is) = ap (can_call has) is.callee ∙ g.1.1.1 is.named is.there (subst (λ (k : Callee). All U (call_uses runs k)) is.callee f)

    -- a test or a cast is there, and so is the base of a type of arrays
    type_there : (t : IrType) (was is : Bool) (names inside : List Binding) → (was ≡ true → All U names → is ≡ true) → (is_based from t ≡ true → All U (type_uses t) → is_based has t ≡ true) → All U (names ++ inside ++ type_uses t) → (was && is_based from t) ≡ true → (is && is_based has t) ≡ true
    type_there t was is names inside f b u k = let q = and_parts was (is_based from t) k in and_from is (is_based has t) (f q.0 (front names inside (front (names ++ inside) (type_uses t) u))) (b q.1 (back (names ++ inside) (type_uses t) u))

    type_inside : (t : IrType) (names inside : List Binding) → All U (names ++ inside ++ type_uses t) → All U inside
    type_inside t names inside u = back names inside (front (names ++ inside) (type_uses t) u)

    -- arrays can be made, a helper that makes them is there, and so is their base
    array_there : (x : List ℕ) → Contains body_helpers x → (r : ArrayRef) (inside : List Binding) → GivesArray from has x r.base → All U (object_binding x ∷ base_uses r.base ++ inside) → (from.arrays && (from.helper x && has_base from r.base)) ≡ true → (has.arrays && (has.helper x && has_base has r.base)) ≡ true
    array_there x i r inside b u k =
        let p = and_parts from.arrays (from.helper x && has_base from r.base) k in
        let q = and_parts (from.helper x) (has_base from r.base) p.1 in
        let name = All-head U (object_binding x) (base_uses r.base ++ inside) u in
        let named = front (base_uses r.base) inside (All-tail U (object_binding x) (base_uses r.base ++ inside) u) in
        and_from has.arrays (has.helper x && has_base has r.base) (b.0 p.0 name) (and_from (has.helper x) (has_base has r.base) (helpers x i q.0 name) (b.1 q.1 named))

    array_inside : (x : List ℕ) (r : ArrayRef) (inside : List Binding) → All U (object_binding x ∷ base_uses r.base ++ inside) → All U inside
    array_inside x r inside u = back (base_uses r.base) inside (All-tail U (object_binding x) (base_uses r.base ++ inside) u)

    items_there : (r : ArrayRef) (ts : Terms) (inside : List Binding) → GivesArray from has (codes "$A") r.base → All U (object_binding (codes "$A") ∷ base_uses r.base ++ inside) → (from.arrays && (from.helper (codes "$A") && (has_base from r.base && are_countable ts))) ≡ true → (has.arrays && (has.helper (codes "$A") && (has_base has r.base && are_countable ts))) ≡ true
    items_there r ts inside b u k =
        let p = and_parts from.arrays (from.helper (codes "$A") && (has_base from r.base && are_countable ts)) k in
        let q = and_parts (from.helper (codes "$A")) (has_base from r.base && are_countable ts) p.1 in
        let c = and_parts (has_base from r.base) (are_countable ts) q.1 in
        let was = and_from from.arrays (from.helper (codes "$A") && has_base from r.base) p.0 (and_from (from.helper (codes "$A")) (has_base from r.base) q.0 c.0) in
        let is = and_parts has.arrays (has.helper (codes "$A") && has_base has r.base) (array_there (codes "$A") (in_helpers (codes "$A") refl) r inside b u was) in
        let there = and_parts (has.helper (codes "$A")) (has_base has r.base) is.1 in
        and_from has.arrays (has.helper (codes "$A") && (has_base has r.base && are_countable ts)) is.0 (and_from (has.helper (codes "$A")) (has_base has r.base && are_countable ts) there.0 (and_from (has_base has r.base) (are_countable ts) there.1 c.1))

    -- a helper for an item is there, and the array is checked
    item_there : (x : List ℕ) → Contains body_helpers x → (e : Term) → IsChecked e → U (object_binding x) → (from.helper x && checked e) ≡ true → (has.helper x && checks e) ≡ true
    item_there x i e u v k = let q = and_parts (from.helper x) (checked e) k in and_from (has.helper x) (checks e) (helpers x i q.0 v) (check_there e q.1 u)

    new_there : (p : Position) (c : List ℕ) (m : MethodName) (ts : Terms) → Found (new_object p c m ts) → U (function_binding (member c Constructor m)) → U (class_use c) → stands from checked (new_object p c m ts) ≡ true → stands has checks (new_object p c m ts) ≡ true
    new_there p c m ts g f u h =
        let q = and_parts (from.made c) (from.built (member c Constructor m)) h in
        let there = g q.0 q.1 f u in
        and_from (has.made c) (has.built (member c Constructor m)) there.1 there.0

    mutual
      plain : (t : Term) → is_plain t ≡ true → old t ≡ true → Each (trees t) → In (expression_of sure t) → new t ≡ true
      plain (if_then p c a b t) q k g h =
          let q2 = and_parts ((not (is_no_type t) && is_plain c) && is_plain a) (is_plain b) q in
          let q1 = and_parts (not (is_no_type t) && is_plain c) (is_plain a) q2.0 in
          let q0 = and_parts (not (is_no_type t)) (is_plain c) q1.0 in
          let k1 = and_parts (old c) (old a && old b) k in
          let k2 = and_parts (old a) (old b) k1.1 in
          let left = coerced t (type_of_term a) (expression_of sure a) in
          let right = coerced t (type_of_term b) (expression_of sure b) in
          let h0 = front (uses_in runs (expression_of sure c) ++ uses_in runs left) (uses_in runs right) h in
          let g0 = three c a b (inner (if_then p c a b t) g) in
          and_from (new c) (new a && new b) (plain c q0.1 k1.0 g0.0 (front (uses_in runs (expression_of sure c)) (uses_in runs left) h0)) (and_from (new a) (new b) (plain a q1.1 k2.0 g0.1.0 (uncoerced t (type_of_term a) (expression_of sure a) (back (uses_in runs (expression_of sure c)) (uses_in runs left) h0))) (plain b q2.1 k2.1 g0.1.1 (uncoerced t (type_of_term b) (expression_of sure b) (back (uses_in runs (expression_of sure c) ++ uses_in runs left) (uses_in runs right) h))))
      plain (apply_static p c n m ts t) q k g h =
          let k0 = and_parts (from.linked (member c n m)) (olds ts) k in
          let inside = uses_in_all runs (expressions_of (coerced_arguments m.params (types_of ts) (all_expressions sure ts))) in
          and_from (has.linked (member c n m)) (news ts) (All-head Found (apply_static p c n m ts t) (all_below ts) g k0.0 (All-head U (function_binding (member c n m)) inside h)) (all_plain_built ts q k0.1 (inner (apply_static p c n m ts t) g) (arguments_in m.params (types_of ts) (all_expressions sure ts) (All-tail U (function_binding (member c n m)) inside h)))
      plain (apply p e m ts t) q k g h =
          let tree = apply p e m ts t in
          let q0 = and_parts (is_plain e) (are_plain ts) q in
          let k0 = and_parts (stands from checked tree) (old e && olds ts) k in
          let k1 = and_parts (old e) (olds ts) k0.1 in
          let text = received_text (is_sure sure e) (expression_of sure e) in
          let target = coerced_receiver (type_of_term e) text in
          let inside = uses_in_all runs (expressions_of (coerced_arguments m.params (types_of ts) (all_expressions sure ts))) in
          let names = call_uses runs (callee_of (type_of_term e) m) in
          let before = front (names ++ uses_in runs target) inside h in
          let own = unreceived (type_of_term e) text (back names (uses_in runs target) before) in
          and_from (stands has checks tree) (new e && news ts) (applied_there p e m ts t (All-head Found tree (below tree) g) (checked_in (is_sure sure e) (expression_of sure e) own) (front names (uses_in runs target) before) k0.0) (and_from (new e) (news ts) (plain e q0.0 k1.0 (ahead Found (trees e) (all_below ts) (inner tree g)) (received_in (is_sure sure e) (expression_of sure e) own)) (all_plain_built ts q0.1 k1.1 (after Found (trees e) (all_below ts) (inner tree g)) (arguments_in m.params (types_of ts) (all_expressions sure ts) (back (names ++ uses_in runs target) inside h))))
      plain (apply_statically p e c n m ts t) q k g h =
          let tree = apply_statically p e c n m ts t in
          let q0 = and_parts (is_plain e) (are_plain ts) q in
          let k0 = and_parts (stands from checked tree) (old e && olds ts) k in
          let k1 = and_parts (old e) (olds ts) k0.1 in
          let text = received_text (is_sure sure e) (expression_of sure e) in
          let target = coerced_receiver (type_of_term e) text in
          let inside = uses_in_all runs (expressions_of (coerced_arguments m.params (types_of ts) (all_expressions sure ts))) in
          let behind = All-tail U (function_binding (called_member runs n (member c n m))) (uses_in runs target ++ inside) h in
          let own = unreceived (type_of_term e) text (front (uses_in runs target) inside behind) in
          and_from (stands has checks tree) (new e && news ts) (call_there p e c n m ts t (All-head Found tree (below tree) g) (checked_in (is_sure sure e) (expression_of sure e) own) (All-head U (function_binding (called_member runs n (member c n m))) (uses_in runs target ++ inside) h) k0.0) (and_from (new e) (news ts) (plain e q0.0 k1.0 (ahead Found (trees e) (all_below ts) (inner tree g)) (received_in (is_sure sure e) (expression_of sure e) own)) (all_plain_built ts q0.1 k1.1 (after Found (trees e) (all_below ts) (inner tree g)) (arguments_in m.params (types_of ts) (all_expressions sure ts) (back (uses_in runs target) inside behind))))
      plain (new_object p c m ts) q k g h =
          let tree = new_object p c m ts in
          let k0 = and_parts (stands from checked tree) (olds ts) k in
          let inside = uses_in_all runs (expressions_of (coerced_arguments m.params (types_of ts) (all_expressions sure ts))) in
          let behind = All-tail U (function_binding (member c Constructor m)) (class_use c ∷ inside) h in
          and_from (stands has checks tree) (news ts) (new_there p c m ts (All-head Found tree (all_below ts) g) (All-head U (function_binding (member c Constructor m)) (class_use c ∷ inside) h) (All-head U (class_use c) inside behind) k0.0) (all_plain_built ts q k0.1 (inner tree g) (arguments_in m.params (types_of ts) (all_expressions sure ts) (All-tail U (class_use c) inside behind)))
      plain (select p e c f t) q k g h =
          let tree = select p e c f t in
          let k0 = and_parts (stands from checked tree) (old e) k in
          and_from (stands has checks tree) (new e) (select_there c f t e (All-head Found tree (below tree) g) (checked_in (is_sure sure e) (expression_of sure e) h) k0.0) (plain e q k0.1 (inner tree g) (received_in (is_sure sure e) (expression_of sure e) h))
      plain (select_static p c f t) q k g h = (All-head Found (select_static p c f t) [] g).0 k (All-head U (static_use c f) [] h)
      plain (load_module p c) q k g h = All-head Found (load_module p c) [] g k (All-head U (load_use c) [] h)
      plain (store_module p c e) q k g h = impossible q
      plain (unary_op p o e) q k g h = plain e q k (inner (unary_op p o e) g) h
      plain (binary_op p o e d) q k g h =
          let q0 = and_parts (is_plain e) (is_plain d) q in
          let k0 = and_parts (is_operation from o d) (old e && old d) k in
          let k1 = and_parts (old e) (old d) k0.1 in
          let left = operand_of o (type_of_term e) (expression_of sure e) in
          let right = operand_of o (type_of_term d) (expression_of sure d) in
          let helper = helper_of (is_nonzero_literal right) o in
          let h0 = front (helper ++ uses_in runs left) (uses_in runs right) h in
          let g0 = two e d (inner (binary_op p o e d) g) in
          and_from (is_operation has o d) (new e && new d) (operation_there o d (expression_of sure d) (inl (q0.1, refl)) k1.1 (All-head Found (binary_op p o e d) (trees e ++ trees d) g) (front helper (uses_in runs left) h0) k0.0) (and_from (new e) (new d) (plain e q0.0 k1.0 g0.0 (operand_in o (type_of_term e) (expression_of sure e) (back helper (uses_in runs left) h0))) (plain d q0.1 k1.1 g0.1 (operand_in o (type_of_term d) (expression_of sure d) (back (helper ++ uses_in runs left) (uses_in runs right) h))))
      plain (new_array p r e) q k g h =
          let tree = new_array p r e in
          let k0 = and_parts (stands from checked tree) (old e) k in
          let inside = uses_in runs (expression_of sure e) in
          and_from (stands has checks tree) (new e) (array_there (codes "$mk") (in_helpers (codes "$mk") refl) r inside (All-head Found tree (below tree) g) h k0.0) (plain e q k0.1 (inner tree g) (array_inside (codes "$mk") r inside h))
      plain (array_value p r ts) q k g h =
          let tree = array_value p r ts in
          let k0 = and_parts (stands from checked tree) (olds ts) k in
          let inside = uses_in_all runs (expressions_of (coerced_items (element_type r) (types_of ts) (all_expressions sure ts))) in
          and_from (stands has checks tree) (news ts) (items_there r ts inside (All-head Found tree (all_below ts) g) h k0.0) (all_plain_built ts q k0.1 (inner tree g) (items_in (element_type r) (types_of ts) (all_expressions sure ts) (array_inside (codes "$A") r inside h)))
      plain (array_length p e) q k g h =
          let k0 = and_parts (checked e) (old e) k in
          and_from (checks e) (new e) (check_there e k0.0 (checked_in (is_sure sure e) (expression_of sure e) h)) (plain e q k0.1 (inner (array_length p e) g) (received_in (is_sure sure e) (expression_of sure e) h))
      plain (array_select p e i t) q k g h =
          let tree = array_select p e i t in
          let q0 = and_parts (is_plain e) (is_plain i) q in
          let k0 = and_parts (stands from checked tree) (old e && old i) k in
          let k1 = and_parts (old e) (old i) k0.1 in
          let array = received_text (is_sure sure e) (expression_of sure e) in
          let index = expression_of sure i in
          let inside = All-tail U (object_binding (codes "$get")) (uses_in runs array ++ uses_in runs index) h in
          let own = front (uses_in runs array) (uses_in runs index) inside in
          let g0 = two e i (inner tree g) in
          and_from (stands has checks tree) (new e && new i) (item_there (codes "$get") (in_helpers (codes "$get") refl) e (checked_in (is_sure sure e) (expression_of sure e) own) (All-head U (object_binding (codes "$get")) (uses_in runs array ++ uses_in runs index) h) k0.0) (and_from (new e) (new i) (plain e q0.0 k1.0 g0.0 (received_in (is_sure sure e) (expression_of sure e) own)) (plain i q0.1 k1.1 g0.1 (back (uses_in runs array) (uses_in runs index) inside)))
      plain (is_instance_of p e t) q k g h =
          let tree = is_instance_of p e t in
          let k0 = and_parts (from.tests t && is_based from t) (old e) k in
          let value = coerced Any (type_of_term e) (expression_of sure e) in
          let found = All-head Found tree (below tree) g in
          and_from (has.tests t && is_based has t) (new e) (type_there t (from.tests t) (has.tests t) (test_uses t) (uses_in runs value) found.0 found.1 h k0.0) (plain e q k0.1 (inner tree g) (uncoerced Any (type_of_term e) (expression_of sure e) (type_inside t (test_uses t) (uses_in runs value) h)))
      plain (as_instance_of p e t) q k g h =
          let tree = as_instance_of p e t in
          let k0 = and_parts (can_cast from t && is_based from t) (old e) k in
          let value = coerced Any (type_of_term e) (expression_of sure e) in
          let found = All-head Found tree (below tree) g in
          and_from (can_cast has t && is_based has t) (new e) (type_there t (can_cast from t) (can_cast has t) (cast_uses t) (uses_in runs value) (λ c u. cast_there t found.0 u c) found.1 h k0.0) (plain e q k0.1 (inner tree g) (uncoerced Any (type_of_term e) (expression_of sure e) (type_inside t (cast_uses t) (uses_in runs value) h)))
      plain (undefined_literal p) q k g h = refl
      plain (null_literal p) q k g h = refl
      plain (boolean_literal p b) q k g h = refl
      plain (char_literal p z) q k g h = refl
      plain (byte_literal p z) q k g h = refl
      plain (short_literal p z) q k g h = refl
      plain (int_literal p z) q k g h = refl
      plain (long_literal p z) q k g h = refl
      plain (string_literal p us) q k g h = refl
      plain (var_ref p x t) q k g h = refl
      plain (this_ref p t) q k g h = objects k
      plain (var_def p x t b e) q k g h = impossible q
      plain (skip p) q k g h = refl
      plain (block_of p ts) q k g h = impossible q
      plain (labeled p l t e) q k g h = impossible q
      plain (assign p d e) q k g h = impossible q
      plain (return_to p e l) q k g h = impossible q
      plain (while_loop p c b) q k g h = impossible q
      plain (try_catch p e x d t) q k g h = impossible q
      plain (try_finally p e d) q k g h = impossible q
      plain (do_while p b c) q k g h = impossible q
      plain (match_on p e cs d t) q k g h = impossible q
      plain (log_line p e) q k g h = impossible q
      plain (throw p e) q k g h = impossible q

      all_plain_built : (ts : Terms) → are_plain ts ≡ true → olds ts ≡ true → Each (all_below ts) → InAll (all_expressions sure ts) → news ts ≡ true
      all_plain_built no_terms q k g h = refl
      all_plain_built (more_terms t ts) q k g h = let q0 = and_parts (is_plain t) (are_plain ts) q in let k0 = and_parts (old t) (olds ts) k in and_from (new t) (news ts) (plain t q0.0 k0.0 (ahead Found (trees t) (all_below ts) g) h.0) (all_plain_built ts q0.1 k0.1 (after Found (trees t) (all_below ts) g) h.1)

    module _ (is_mutable : List ℕ → Bool) where
      abbrev TreeBuilt : Term → Type 0
      TreeBuilt t = (ts : Targets) (k : Destination) (j : ℕ) → old t ≡ true → Each (trees t) → Within (into is_mutable sure ts k j t).statements → new t ≡ true

      abbrev operand_for : Targets → Term → Operand
      operand_for ts e = operand is_mutable sure e (λ k j. into is_mutable sure ts k j e)

      abbrev receiver_for : Targets → Term → Operand
      receiver_for ts e = receiver is_mutable sure e (λ k j. into is_mutable sure ts k j e)

      abbrev one_of : Targets → Term → List Operand
      one_of ts e = operand_for ts e ∷ []

      operand_built : (e : Term) → TreeBuilt e → (ts : Targets) → old e ≡ true → Each (trees e) → Written (operand_for ts e) → new e ≡ true
      operand_built e tree ts k g (as_text (inl p) h) = plain e p k g h
      operand_built e tree ts k g (as_text (inr f) h) = plain e (fixed_plain is_mutable e f) k g h
      operand_built e tree ts k g (as_code n x j h) = tree ts (to_variable x (type_of_term e)) j k g h

      -- one operand, whose expression is within where what is made of it is
      act : (e : Term) → TreeBuilt e → (ts : Targets) (j : ℕ) → old e ≡ true → Each (trees e) → Within (spill (one_of ts e) j).statements → In (first_of (spill (one_of ts e) j).expressions) → new e ≡ true
      act e tree ts j k g hs he = operand_built e tree ts k g (spill_in (one_of ts e) j hs (one_in (spill (one_of ts e) j).expressions (spill_count (one_of ts e) j) he)).0

      -- a receiver is built, and its check is used unless it is sure
      receiver_built : (e : Term) → TreeBuilt e → (ts : Targets) → old e ≡ true → Each (trees e) → Written (receiver_for ts e) → (new e ≡ true) × IsChecked e
      receiver_built e tree ts k g w = go (is_sure sure e) refl w
        where
          go : (b : Bool) → is_sure sure e ≡ b → Written (received b (operand_for ts e)) → (new e ≡ true) × IsChecked e
          go true f w = (operand_built e tree ts k g w, λ n. impossible (sym n ∙ f))
          go false f (as_text (inl p) h) = (plain e p k g (All-tail U (object_binding check_name) (uses_in runs (expression_of sure e)) h), λ n. All-head U (object_binding check_name) (uses_in runs (expression_of sure e)) h)
          go false f (as_text (inr x) h) = impossible x
          go false f (as_code n x j h) =
              let s : Spilled = spill (one_of ts e) j in
              let text = first_of s.expressions in
              let parts = followed_parts s.statements (finish (to_variable x (type_of_term e)) (operand_for ts e).at (type_of_term e) false (checked_value text) s.next).statements h in
              let inside = finished (to_variable x (type_of_term e)) (operand_for ts e).at (type_of_term e) (checked_value text) s.next parts.1 in
              (act e tree ts j k g parts.0 (All-tail U (object_binding check_name) (uses_in runs text) inside), λ n. All-head U (object_binding check_name) (uses_in runs text) inside)

      plain_there : (d : Term) → (is_plain d ≡ true) ⊎ (is_fixed is_mutable d ≡ true) → is_plain d ≡ true
      plain_there d (inl p) = p
      plain_there d (inr f) = fixed_plain is_mutable d f

      is_right : (d : Term) (ts : Targets) (e : Expression) → IsOwnText (operand_for ts d) e → IsRight d e
      is_right d ts e (inl q) = inl (plain_there d q.0, q.1)
      is_right d ts e (inr n) = inr n

      defined_built : (p : Position) (x : List ℕ) (t : IrType) (e : Term) (ts : Targets) (j : ℕ) (b : Bool) → is_plain e ≡ b → old e ≡ true → Each (trees e) → TreeBuilt e → Within (elim b as (λ b. Code) [ true ↦ one (core.define_of (Some p) (core.named x) (coerced t (type_of_term e) (expression_of sure e))) j | false ↦ put_first (core.declare_of (Some p) (core.named x)) (into is_mutable sure ts (to_variable (core.named x) t) j e) ]).statements → new e ≡ true
      defined_built p x t e ts j true f q g tree h = plain e f q g (uncoerced t (type_of_term e) (expression_of sure e) (only (core.define_of (Some p) (core.named x) (coerced t (type_of_term e) (expression_of sure e))) h))
      defined_built p x t e ts j false f q g tree h = tree ts (to_variable (core.named x) t) j q g h

      while_built : (p : Position) (c b : Term) (ts : Targets) (j : ℕ) (v : Bool) → is_plain c ≡ v → old c ≡ true → old b ≡ true → Each (trees c) → Each (trees b) → TreeBuilt c → TreeBuilt b → Within (elim v as (λ v. Code) [ true ↦ wrapped (core.while_of (Some p) (expression_of sure c)) (into is_mutable sure ts discard j b) | false ↦ wrapped (core.while_of (Some p) (core.boolean_value true)) (then_use (spill (one_of ts c) j) (λ es j. put_first (break_unless (first_of es)) (into is_mutable sure ts discard j b))) ]).statements → (new c ≡ true) × (new b ≡ true)
      while_built p c b ts j true f q r g i test body h =
          let inside = only (core.while_of (Some p) (expression_of sure c) (into is_mutable sure ts discard j b).statements) h in
          (plain c f q g (front (uses_in runs (expression_of sure c)) (uses_of_all runs (into is_mutable sure ts discard j b).statements) inside), body ts discard j r i (back (uses_in runs (expression_of sure c)) (uses_of_all runs (into is_mutable sure ts discard j b).statements) inside))
      while_built p c b ts j false f q r g i test body h =
          let s : Spilled = spill (one_of ts c) j in
          let first = break_unless (first_of s.expressions) in
          let rest : Code = into is_mutable sure ts discard s.next b in
          let parts = followed_parts s.statements (core.statement first rest.statements) (only (core.while_of (Some p) (core.boolean_value true) (followed s.statements (core.statement first rest.statements))) h) in
          (act c test ts j q g parts.0 (break_in (first_of s.expressions) (front (uses_of runs first) (uses_of_all runs rest.statements) parts.1)), body ts discard s.next r i (back (uses_of runs first) (uses_of_all runs rest.statements) parts.1))

      mutual
        pub tree : (t : Term) → TreeBuilt t
        tree (var_def p x t b e) ts k j q g h = defined_built p x t e ts j (is_plain e) refl q (inner (var_def p x t b e) g) (tree e) h
        tree (skip p) ts k j q g h = refl
        tree (block_of p es) ts k j q g h = block_built es ts k j q (inner (block_of p es) g) h
        tree (labeled p l t e) ts k j q g h = let within : Targets = record { label = l; goes_to = k } ∷ ts in tree e within k j q (inner (labeled p l t e) g) (labeled_in k p l (into is_mutable sure within k j e) h)
        tree (assign p (var_ref v x t) e) ts k j q g h =
            let s : Spilled = spill (one_of ts e) j in
            let last = core.assign_to (Some p) (core.named x) (coerced t (type_of_term e) (first_of s.expressions)) in
            let parts = followed_parts s.statements (core.statement last core.no_statements) h in
            act e (tree e) ts j q (two (var_ref v x t) e (inner (assign p (var_ref v x t) e) g)).1 parts.0 (uncoerced t (type_of_term e) (first_of s.expressions) (only last parts.1))
        tree (assign p (select v d c f t) e) ts k j q g h =
            let k0 = and_parts (from.field c f t && checked d) (old d && old e) q in
            let k1 = and_parts (old d) (old e) k0.1 in
            let os : List Operand = receiver_for ts d ∷ one_of ts e in
            let s : Spilled = spill os j in
            let value = coerced t (type_of_term e) (second_of s.expressions) in
            let last = core.assign_field (Some p) (first_of s.expressions) c f value in
            let parts = followed_parts s.statements (core.statement last core.no_statements) h in
            let inside = only last parts.1 in
            let written = spill_in os j parts.0 (two_in s.expressions (spill_count os j) (front (uses_in runs (first_of s.expressions)) (uses_in runs value) inside) (uncoerced t (type_of_term e) (second_of s.expressions) (back (uses_in runs (first_of s.expressions)) (uses_in runs value) inside))) in
            let g0 = two (select v d c f t) e (inner (assign p (select v d c f t) e) g) in
            let target = receiver_built d (tree d) ts k1.0 (inner (select v d c f t) g0.0) written.0 in
            and_from (has.field c f t && checks d) (new d && new e) (select_there c f t d (All-head Found (select v d c f t) (trees d) g0.0) target.1 k0.0) (and_from (new d) (new e) target.0 (operand_built e (tree e) ts k1.1 g0.1 written.1.0))
        tree (assign p (array_select v d i t) e) ts k j q g h =
            let k0 = and_parts (can_put from t && checked d) (old d && (old i && old e)) q in
            let k1 = and_parts (old d) (old i && old e) k0.1 in
            let k2 = and_parts (old i) (old e) k1.1 in
            let os : List Operand = receiver_for ts d ∷ operand_for ts i ∷ one_of ts e in
            let s : Spilled = spill os j in
            let array = uses_in runs (first_of s.expressions) in
            let index = uses_in runs (second_of s.expressions) in
            let value = coerced t (type_of_term e) (third_of s.expressions) in
            let last = core.assign_element (Some p) t (first_of s.expressions) (second_of s.expressions) value in
            let parts = followed_parts s.statements (core.statement last core.no_statements) h in
            let inside = only last parts.1 in
            let behind = All-tail U (object_binding (element_setter t)) (array ++ index ++ uses_in runs value) inside in
            let head = front (array ++ index) (uses_in runs value) behind in
            let written = spill_in os j parts.0 (three_in s.expressions (spill_count os j) (front array index head) (back array index head) (uncoerced t (type_of_term e) (third_of s.expressions) (back (array ++ index) (uses_in runs value) behind))) in
            let g0 = two (array_select v d i t) e (inner (assign p (array_select v d i t) e) g) in
            let g1 = two d i (inner (array_select v d i t) g0.0) in
            let target = receiver_built d (tree d) ts k1.0 g1.0 written.0 in
            and_from (can_put has t && checks d) (new d && (new i && new e)) (item_there (element_setter t) (setter_listed t) d target.1 (All-head U (object_binding (element_setter t)) (array ++ index ++ uses_in runs value) inside) k0.0) (and_from (new d) (new i && new e) target.0 (and_from (new i) (new e) (operand_built i (tree i) ts k2.0 g1.1 written.1.0) (operand_built e (tree e) ts k2.1 g0.1 written.1.1.0)))
        tree (assign p (select_static v c f t) e) ts k j q g h =
            let r = and_parts (from.static_setter c f t) (old e) q in
            let s : Spilled = spill (one_of ts e) j in
            let value = coerced t (type_of_term e) (first_of s.expressions) in
            let last = core.assign_static (Some p) c f value in
            let parts = followed_parts s.statements (core.statement last core.no_statements) h in
            let inside = only last parts.1 in
            let g0 = two (select_static v c f t) e (inner (assign p (select_static v c f t) e) g) in
            let there = (All-head Found (select_static v c f t) [] g0.0).1 r.0 (All-head U (setter_use c f) (uses_in runs value) inside) in
            and_from (has.static_setter c f t) (new e) there (act e (tree e) ts j r.1 g0.1 parts.0 (uncoerced t (type_of_term e) (first_of s.expressions) (All-tail U (setter_use c f) (uses_in runs value) inside)))
        tree (return_to p e l) ts k j q g h = tree e ts (target_of ts l) j q (inner (return_to p e l) g) (leaving_in (target_of ts l) p l (into is_mutable sure ts (target_of ts l) j e) h)
        tree (if_then p c a b t) ts k j q g h =
            let k1 = and_parts (old c) (old a && old b) q in
            let k2 = and_parts (old a) (old b) k1.1 in
            let s : Spilled = spill (one_of ts c) j in
            let one : Code = into is_mutable sure ts k s.next a in
            let two : Code = into is_mutable sure ts k one.next b in
            let choice = core.if_of (Some p) (first_of s.expressions) one.statements two.statements in
            let parts = followed_parts s.statements (core.statement choice core.no_statements) h in
            let inside = only choice parts.1 in
            let head = front (uses_in runs (first_of s.expressions) ++ uses_of_all runs one.statements) (uses_of_all runs two.statements) inside in
            let g0 = three c a b (inner (if_then p c a b t) g) in
            and_from (new c) (new a && new b) (act c (tree c) ts j k1.0 g0.0 parts.0 (front (uses_in runs (first_of s.expressions)) (uses_of_all runs one.statements) head)) (and_from (new a) (new b) (tree a ts k s.next k2.0 g0.1.0 (back (uses_in runs (first_of s.expressions)) (uses_of_all runs one.statements) head)) (tree b ts k one.next k2.1 g0.1.1 (back (uses_in runs (first_of s.expressions) ++ uses_of_all runs one.statements) (uses_of_all runs two.statements) inside)))
        tree (while_loop p c b) ts k j q g h = let r = and_parts (old c) (old b) q in let g0 = two c b (inner (while_loop p c b) g) in let parts = while_built p c b ts j (is_plain c) refl r.0 r.1 g0.0 g0.1 (tree c) (tree b) h in and_from (new c) (new b) parts.0 parts.1
        tree (do_while p b c) ts k j q g h =
            let r = and_parts (old b) (old c) q in
            let body : Code = into is_mutable sure ts discard j b in
            let s : Spilled = spill (one_of ts c) body.next in
            let test = break_unless (first_of s.expressions) in
            let parts = followed_parts body.statements (followed s.statements (core.statement test core.no_statements)) (only (core.loop_of (Some p) (followed body.statements (followed s.statements (core.statement test core.no_statements)))) h) in
            let last = followed_parts s.statements (core.statement test core.no_statements) parts.1 in
            let g0 = two b c (inner (do_while p b c) g) in
            and_from (new b) (new c) (tree b ts discard j r.0 g0.0 parts.0) (act c (tree c) ts body.next r.1 g0.1 last.0 (break_in (first_of s.expressions) (only test last.1)))
        tree (try_catch p e x d t) ts k j q g h =
            let k0 = and_parts (from.objects) (old e && old d) q in
            let k1 = and_parts (old e) (old d) k0.1 in
            let block : Code = into is_mutable sure ts k j e in
            let handler : Code = into is_mutable sure ts k block.next d in
            let inside = only (core.try_of (Some p) block.statements (core.named x) handler.statements) h in
            let g0 = two e d (inner (try_catch p e x d t) g) in
            and_from (has.objects) (new e && new d) (objects k0.0) (and_from (new e) (new d) (tree e ts k j k1.0 g0.0 (front (uses_of_all runs block.statements) (uses_of_all runs handler.statements) inside)) (tree d ts k block.next k1.1 g0.1 (back (uses_of_all runs block.statements) (uses_of_all runs handler.statements) inside)))
        tree (try_finally p e d) ts k j q g h =
            let k0 = and_parts (old e) (old d) q in
            let block : Code = into is_mutable sure ts k j e in
            let finalizer : Code = finalizer_code (target_of ts) d block.next (λ i. into is_mutable sure ts discard i d) in
            let inside = only (core.finally_of (Some p) block.statements finalizer.statements) h in
            let g0 = two e d (inner (try_finally p e d) g) in
            and_from (new e) (new d) (tree e ts k j k0.0 g0.0 (front (uses_of_all runs block.statements) (uses_of_all runs finalizer.statements) inside)) (tree d ts discard (keep_all (kept (target_of ts) d) block.next).next k0.1 g0.1 (finalizer_in (target_of ts) d block.next (λ i. into is_mutable sure ts discard i d) (back (uses_of_all runs block.statements) (uses_of_all runs finalizer.statements) inside)))
        tree (throw p e) ts k j q g h =
            let k0 = and_parts (from.objects) (old e) q in
            let s : Spilled = spill (one_of ts e) j in
            let last = core.throw_of (Some p) (coerced Any (type_of_term e) (first_of s.expressions)) in
            let parts = followed_parts s.statements (core.statement last core.no_statements) h in
            and_from (has.objects) (new e) (objects k0.0) (act e (tree e) ts j k0.1 (inner (throw p e) g) parts.0 (uncoerced Any (type_of_term e) (first_of s.expressions) (only last parts.1)))
        tree (match_on p e cs d t) ts k j q g h =
            let k1 = and_parts (old e) (old_cases cs && old d) q in
            let k2 = and_parts (old_cases cs) (old d) k1.1 in
            let s : Spilled = spill (one_of ts e) j in
            let bs = cases is_mutable sure ts k s.next cs in
            let rest : Code = into is_mutable sure ts k bs.next d in
            let switch = core.switch_of (Some p) (first_of s.expressions) bs.cases rest.statements in
            let parts = followed_parts s.statements (core.statement switch core.no_statements) h in
            let inside = only switch parts.1 in
            let head = front (uses_in runs (first_of s.expressions) ++ uses_of_cases runs bs.cases) (uses_of_all runs rest.statements) inside in
            let g0 : Each (trees e ++ cases_below cs ++ trees d) = inner (match_on p e cs d t) g in
            let g1 : Each (trees e ++ cases_below cs) = ahead Found (trees e ++ cases_below cs) (trees d) g0 in
            and_from (new e) (new_cases cs && new d) (act e (tree e) ts j k1.0 (ahead Found (trees e) (cases_below cs) g1) parts.0 (front (uses_in runs (first_of s.expressions)) (uses_of_cases runs bs.cases) head)) (and_from (new_cases cs) (new d) (cases_built cs ts k s.next k2.0 (after Found (trees e) (cases_below cs) g1) (back (uses_in runs (first_of s.expressions)) (uses_of_cases runs bs.cases) head)) (tree d ts k bs.next k2.1 (after Found (trees e ++ cases_below cs) (trees d) g0) (back (uses_in runs (first_of s.expressions) ++ uses_of_cases runs bs.cases) (uses_of_all runs rest.statements) inside)))
        tree (apply_static p c n m es t) ts k j q g h =
            let k0 = and_parts (from.linked (member c n m)) (olds es) q in
            let s : Spilled = spill (operands is_mutable sure ts es) j in
            let arguments = expressions_of (coerced_arguments m.params (types_of es) s.expressions) in
            let call = core.static_call (member c n m) arguments in
            let parts = followed_parts s.statements (finish k p t false call s.next).statements h in
            let inside = finished k p t call s.next parts.1 in
            and_from (has.linked (member c n m)) (news es) (All-head Found (apply_static p c n m es t) (all_below es) g k0.0 (All-head U (function_binding (member c n m)) (uses_in_all runs arguments) inside)) (operands_built es ts k0.1 (inner (apply_static p c n m es t) g) (spill_in (operands is_mutable sure ts es) j parts.0 (arguments_in m.params (types_of es) s.expressions (All-tail U (function_binding (member c n m)) (uses_in_all runs arguments) inside))))
        tree (apply p e m es t) ts k j q g h =
            let own = apply p e m es t in
            let k0 = and_parts (stands from checked own) (old e && olds es) q in
            let k1 = and_parts (old e) (olds es) k0.1 in
            let os : List Operand = receiver_for ts e ∷ operands is_mutable sure ts es in
            let s : Spilled = spill os j in
            let target = coerced_receiver (type_of_term e) (first_of s.expressions) in
            let arguments = expressions_of (coerced_arguments m.params (types_of es) (rest_of s.expressions)) in
            let call = core.receiver_call (callee_of (type_of_term e) m) target arguments in
            let parts = followed_parts s.statements (finish k p t false call s.next).statements h in
            let inside = finished k p t call s.next parts.1 in
            let names = call_uses runs (callee_of (type_of_term e) m) in
            let before = front (names ++ uses_in runs target) (uses_in_all runs arguments) inside in
            let written = spill_in os j parts.0 (first_and_rest s.expressions (unreceived (type_of_term e) (first_of s.expressions) (back names (uses_in runs target) before)) (arguments_in m.params (types_of es) (rest_of s.expressions) (back (names ++ uses_in runs target) (uses_in_all runs arguments) inside))) in
            let start = receiver_built e (tree e) ts k1.0 (ahead Found (trees e) (all_below es) (inner own g)) written.0 in
            and_from (stands has checks own) (new e && news es) (applied_there p e m es t (All-head Found own (below own) g) start.1 (front names (uses_in runs target) before) k0.0) (and_from (new e) (news es) start.0 (operands_built es ts k1.1 (after Found (trees e) (all_below es) (inner own g)) written.1))
        tree (apply_statically p e c n m es t) ts k j q g h =
            let own = apply_statically p e c n m es t in
            let k0 = and_parts (stands from checked own) (old e && olds es) q in
            let k1 = and_parts (old e) (olds es) k0.1 in
            let os : List Operand = receiver_for ts e ∷ operands is_mutable sure ts es in
            let s : Spilled = spill os j in
            let target = coerced_receiver (type_of_term e) (first_of s.expressions) in
            let arguments = expressions_of (coerced_arguments m.params (types_of es) (rest_of s.expressions)) in
            let call = core.receiver_call (callees.Member (member c n m)) target arguments in
            let parts = followed_parts s.statements (finish k p t false call s.next).statements h in
            let inside = finished k p t call s.next parts.1 in
            let behind = All-tail U (function_binding (called_member runs n (member c n m))) (uses_in runs target ++ uses_in_all runs arguments) inside in
            let written = spill_in os j parts.0 (first_and_rest s.expressions (unreceived (type_of_term e) (first_of s.expressions) (front (uses_in runs target) (uses_in_all runs arguments) behind)) (arguments_in m.params (types_of es) (rest_of s.expressions) (back (uses_in runs target) (uses_in_all runs arguments) behind))) in
            let start = receiver_built e (tree e) ts k1.0 (ahead Found (trees e) (all_below es) (inner own g)) written.0 in
            and_from (stands has checks own) (new e && news es) (call_there p e c n m es t (All-head Found own (below own) g) start.1 (All-head U (function_binding (called_member runs n (member c n m))) (uses_in runs target ++ uses_in_all runs arguments) inside) k0.0) (and_from (new e) (news es) start.0 (operands_built es ts k1.1 (after Found (trees e) (all_below es) (inner own g)) written.1))
        tree (new_object p c m es) ts k j q g h =
            let own = new_object p c m es in
            let k0 = and_parts (stands from checked own) (olds es) q in
            let s : Spilled = spill (operands is_mutable sure ts es) j in
            let arguments = expressions_of (coerced_arguments m.params (types_of es) s.expressions) in
            let call = core.made_of (member c Constructor m) arguments in
            let parts = followed_parts s.statements (finish k p (class_type c) false call s.next).statements h in
            let inside = finished k p (class_type c) call s.next parts.1 in
            let behind = All-tail U (function_binding (member c Constructor m)) (class_use c ∷ uses_in_all runs arguments) inside in
            and_from (stands has checks own) (news es) (new_there p c m es (All-head Found own (all_below es) g) (All-head U (function_binding (member c Constructor m)) (class_use c ∷ uses_in_all runs arguments) inside) (All-head U (class_use c) (uses_in_all runs arguments) behind) k0.0) (operands_built es ts k0.1 (inner own g) (spill_in (operands is_mutable sure ts es) j parts.0 (arguments_in m.params (types_of es) s.expressions (All-tail U (class_use c) (uses_in_all runs arguments) behind))))
        tree (select p e c f t) ts k j q g h =
            let own = select p e c f t in
            let k0 = and_parts (from.field c f t && checked e) (old e) q in
            let os : List Operand = receiver_for ts e ∷ [] in
            let s : Spilled = spill os j in
            let read = core.field_of (first_of s.expressions) c f in
            let parts = followed_parts s.statements (finish k p t false read s.next).statements h in
            let written = spill_in os j parts.0 (one_in s.expressions (spill_count os j) (finished k p t read s.next parts.1)) in
            let start = receiver_built e (tree e) ts k0.1 (inner own g) written.0 in
            and_from (has.field c f t && checks e) (new e) (select_there c f t e (All-head Found own (below own) g) start.1 k0.0) start.0
        tree (select_static p c f t) ts k j q g h = (All-head Found (select_static p c f t) [] g).0 q (All-head U (static_use c f) [] (finished k p t (core.static_of c f) j h))
        tree (load_module p c) ts k j q g h = All-head Found (load_module p c) [] g q (All-head U (load_use c) [] (finished k p (class_type c) (core.module_of c) j h))
        tree (store_module p c e) ts k j q g h =
            let r = and_parts (from.stored c) (old e) q in
            let s : Spilled = spill (one_of ts e) j in
            let value = coerced (class_type c) (type_of_term e) (first_of s.expressions) in
            let last = core.store_module_of (Some p) c value in
            let parts = followed_parts s.statements (core.statement last core.no_statements) h in
            let inside = only last parts.1 in
            let there = All-head Found (store_module p c e) (trees e) g r.0 (All-head U (store_use c) (uses_in runs value) inside) in
            and_from (has.stored c) (new e) there (act e (tree e) ts j r.1 (inner (store_module p c e) g) parts.0 (uncoerced (class_type c) (type_of_term e) (first_of s.expressions) (All-tail U (store_use c) (uses_in runs value) inside)))
        tree (this_ref p t) ts k j q g h = objects q
        tree (unary_op p o e) ts k j q g h =
            let s : Spilled = spill (one_of ts e) j in
            let parts = followed_parts s.statements (finish k p (unary_result o) false (core.unary_of o (first_of s.expressions)) s.next).statements h in
            act e (tree e) ts j q (inner (unary_op p o e) g) parts.0 (finished k p (unary_result o) (core.unary_of o (first_of s.expressions)) s.next parts.1)
        tree (binary_op p o e d) ts k j q g h =
            let k0 = and_parts (is_operation from o d) (old e && old d) q in
            let k1 = and_parts (old e) (old d) k0.1 in
            let os : List Operand = operand_for ts e ∷ one_of ts d in
            let s : Spilled = spill os j in
            let left = operand_of o (type_of_term e) (first_of s.expressions) in
            let right = operand_of o (type_of_term d) (second_of s.expressions) in
            let helper = helper_of (is_nonzero_literal right) o in
            let parts = followed_parts s.statements (finish k p (binary_result o) false (core.binary_of o left right) s.next).statements h in
            let inside = finished k p (binary_result o) (core.binary_of o left right) s.next parts.1 in
            let head = front (helper ++ uses_in runs left) (uses_in runs right) inside in
            let written = spill_in os j parts.0 (two_in s.expressions (spill_count os j) (operand_in o (type_of_term e) (first_of s.expressions) (back helper (uses_in runs left) head)) (operand_in o (type_of_term d) (second_of s.expressions) (back (helper ++ uses_in runs left) (uses_in runs right) inside))) in
            let g0 = two e d (inner (binary_op p o e d) g) in
            and_from (is_operation has o d) (new e && new d) (operation_there o d (second_of s.expressions) (is_right d ts (second_of s.expressions) (second_text (operand_for ts e) (operand_for ts d) j)) k1.1 (All-head Found (binary_op p o e d) (trees e ++ trees d) g) (front helper (uses_in runs left) head) k0.0) (and_from (new e) (new d) (operand_built e (tree e) ts k1.0 g0.0 written.0) (operand_built d (tree d) ts k1.1 g0.1 written.1.0))
        tree (new_array p r e) ts k j q g h =
            let own = new_array p r e in
            let k0 = and_parts (stands from checked own) (old e) q in
            let s : Spilled = spill (one_of ts e) j in
            let made = core.new_array_of r (first_of s.expressions) in
            let parts = followed_parts s.statements (finish k p (Array r) false made s.next).statements h in
            let inside = finished k p (Array r) made s.next parts.1 in
            let length_uses = uses_in runs (first_of s.expressions) in
            and_from (stands has checks own) (new e) (array_there (codes "$mk") (in_helpers (codes "$mk") refl) r length_uses (All-head Found own (below own) g) inside k0.0) (act e (tree e) ts j k0.1 (inner own g) parts.0 (array_inside (codes "$mk") r length_uses inside))
        tree (array_value p r es) ts k j q g h =
            let own = array_value p r es in
            let k0 = and_parts (stands from checked own) (olds es) q in
            let s : Spilled = spill (operands is_mutable sure ts es) j in
            let items = expressions_of (coerced_items (element_type r) (types_of es) s.expressions) in
            let made = core.array_of r items in
            let parts = followed_parts s.statements (finish k p (Array r) false made s.next).statements h in
            let inside = finished k p (Array r) made s.next parts.1 in
            and_from (stands has checks own) (news es) (items_there r es (uses_in_all runs items) (All-head Found own (all_below es) g) inside k0.0) (operands_built es ts k0.1 (inner own g) (spill_in (operands is_mutable sure ts es) j parts.0 (items_in (element_type r) (types_of es) s.expressions (array_inside (codes "$A") r (uses_in_all runs items) inside))))
        tree (array_length p e) ts k j q g h =
            let k0 = and_parts (checked e) (old e) q in
            let os : List Operand = receiver_for ts e ∷ [] in
            let s : Spilled = spill os j in
            let read = core.length_of (first_of s.expressions) in
            let parts = followed_parts s.statements (finish k p Int false read s.next).statements h in
            let written = spill_in os j parts.0 (one_in s.expressions (spill_count os j) (finished k p Int read s.next parts.1)) in
            let start = receiver_built e (tree e) ts k0.1 (inner (array_length p e) g) written.0 in
            and_from (checks e) (new e) (check_there e k0.0 start.1) start.0
        tree (array_select p e i t) ts k j q g h =
            let own = array_select p e i t in
            let k0 = and_parts (stands from checked own) (old e && old i) q in
            let k1 = and_parts (old e) (old i) k0.1 in
            let os : List Operand = receiver_for ts e ∷ one_of ts i in
            let s : Spilled = spill os j in
            let array = uses_in runs (first_of s.expressions) in
            let index = uses_in runs (second_of s.expressions) in
            let read = core.element_of (first_of s.expressions) (second_of s.expressions) in
            let parts = followed_parts s.statements (finish k p t false read s.next).statements h in
            let inside = finished k p t read s.next parts.1 in
            let behind = All-tail U (object_binding (codes "$get")) (array ++ index) inside in
            let written = spill_in os j parts.0 (two_in s.expressions (spill_count os j) (front array index behind) (back array index behind)) in
            let g0 = two e i (inner own g) in
            let start = receiver_built e (tree e) ts k1.0 g0.0 written.0 in
            and_from (stands has checks own) (new e && new i) (item_there (codes "$get") (in_helpers (codes "$get") refl) e start.1 (All-head U (object_binding (codes "$get")) (array ++ index) inside) k0.0) (and_from (new e) (new i) start.0 (operand_built i (tree i) ts k1.1 g0.1 written.1.0))
        tree (is_instance_of p e t) ts k j q g h =
            let own = is_instance_of p e t in
            let k0 = and_parts (from.tests t && is_based from t) (old e) q in
            let s : Spilled = spill (one_of ts e) j in
            let value = coerced Any (type_of_term e) (first_of s.expressions) in
            let parts = followed_parts s.statements (finish k p Boolean false (core.test_of t value) s.next).statements h in
            let inside = finished k p Boolean (core.test_of t value) s.next parts.1 in
            let found = All-head Found own (below own) g in
            and_from (has.tests t && is_based has t) (new e) (type_there t (from.tests t) (has.tests t) (test_uses t) (uses_in runs value) found.0 found.1 inside k0.0) (act e (tree e) ts j k0.1 (inner own g) parts.0 (uncoerced Any (type_of_term e) (first_of s.expressions) (type_inside t (test_uses t) (uses_in runs value) inside)))
        tree (as_instance_of p e t) ts k j q g h =
            let own = as_instance_of p e t in
            let k0 = and_parts (can_cast from t && is_based from t) (old e) q in
            let s : Spilled = spill (one_of ts e) j in
            let value = coerced Any (type_of_term e) (first_of s.expressions) in
            let parts = followed_parts s.statements (finish k p t false (core.cast_of t value) s.next).statements h in
            let inside = finished k p t (core.cast_of t value) s.next parts.1 in
            let found = All-head Found own (below own) g in
            and_from (can_cast has t && is_based has t) (new e) (type_there t (can_cast from t) (can_cast has t) (cast_uses t) (uses_in runs value) (λ c u. cast_there t found.0 u c) found.1 inside k0.0) (act e (tree e) ts j k0.1 (inner own g) parts.0 (uncoerced Any (type_of_term e) (first_of s.expressions) (type_inside t (cast_uses t) (uses_in runs value) inside)))
        tree (undefined_literal p) ts k j q g h = refl
        tree (null_literal p) ts k j q g h = refl
        tree (boolean_literal p b) ts k j q g h = refl
        tree (char_literal p z) ts k j q g h = refl
        tree (byte_literal p z) ts k j q g h = refl
        tree (short_literal p z) ts k j q g h = refl
        tree (int_literal p z) ts k j q g h = refl
        tree (long_literal p z) ts k j q g h = refl
        tree (string_literal p us) ts k j q g h = refl
        tree (var_ref p x t) ts k j q g h = refl
        tree (log_line p e) ts k j q g h =
            let s : Spilled = spill (one_of ts e) j in
            let last = core.log_of (Some p) (first_of s.expressions) in
            let parts = followed_parts s.statements (core.statement last core.no_statements) h in
            act e (tree e) ts j q (inner (log_line p e) g) parts.0 (only last parts.1)
        tree t ts k j q g h = impossible q

        block_built : (es : Terms) (ts : Targets) (k : Destination) (j : ℕ) → olds es ≡ true → Each (all_below es) → Within (block is_mutable sure ts k j es).statements → news es ≡ true
        block_built no_terms ts k j q g h = refl
        block_built (more_terms t no_terms) ts k j q g h = and_from (new t) true (tree t ts k j (and_parts (old t) true q).0 (ahead Found (trees t) [] g) h) refl
        block_built (more_terms t (more_terms u us)) ts k j q g h =
            let r = and_parts (old t) (olds (more_terms u us)) q in
            let first : Code = into is_mutable sure ts discard j t in
            let parts = followed_parts first.statements (block is_mutable sure ts k first.next (more_terms u us)).statements h in
            and_from (new t) (news (more_terms u us)) (tree t ts discard j r.0 (ahead Found (trees t) (all_below (more_terms u us)) g) parts.0) (block_built (more_terms u us) ts k first.next r.1 (after Found (trees t) (all_below (more_terms u us)) g) parts.1)

        operands_built : (es : Terms) (ts : Targets) → olds es ≡ true → Each (all_below es) → AllWritten (operands is_mutable sure ts es) → news es ≡ true
        operands_built no_terms ts q g h = refl
        operands_built (more_terms t es) ts q g h = let r = and_parts (old t) (olds es) q in and_from (new t) (news es) (operand_built t (tree t) ts r.0 (ahead Found (trees t) (all_below es) g) h.0) (operands_built es ts r.1 (after Found (trees t) (all_below es) g) h.1)

        cases_built : (cs : Cases) (ts : Targets) (k : Destination) (j : ℕ) → old_cases cs ≡ true → Each (cases_below cs) → All U (uses_of_cases runs (cases is_mutable sure ts k j cs).cases) → new_cases cs ≡ true
        cases_built no_cases ts k j q g h = refl
        cases_built (more_cases [] e cs) ts k j q g h = cases_built cs ts k j q (after Found (trees e) (cases_below cs) g) h
        cases_built (more_cases (key ∷ keys) e cs) ts k j q g h =
            let k1 = and_parts (old e) (old_cases cs) q in
            let body : Code = into is_mutable sure ts k j e in
            let end = core.statement (core.break_nearest None) core.no_statements in
            let rest = uses_of_cases runs (cases is_mutable sure ts k body.next cs).cases in
            and_from (new e) (new_cases cs) (tree e ts k j k1.0 (ahead Found (trees e) (cases_below cs) g) (followed_parts body.statements end (front (uses_of_all runs (followed body.statements end)) rest h)).0) (cases_built cs ts k body.next k1.1 (after Found (trees e) (cases_below cs) g) (back (uses_of_all runs (followed body.statements end)) rest h))
