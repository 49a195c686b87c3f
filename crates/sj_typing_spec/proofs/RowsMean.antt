-- The conditions of a tree hold exactly where it meets the rule of its form.
use Rattle.std.proofs.Common.{◌≡◌, ℕ, Bool, true, false, List, [], ◌∷◌, ◌++◌, Option, Some, None, refl, sym, subst, inl, inr}
use Rattle.std.specs.Prelude.{◌↔◌, ◌&&◌, IsTrue, codes}
use Rattle.std.proofs.lemmas.Bool.{and_parts, and_from}
use Rattle.sj_names.specs.declared.method_names.Namespace.{Namespace}
use Rattle.sj_names.specs.declared.method_names.Namespace.TheVariants.{Public, PublicStatic, Private, PrivateStatic, Constructor}
use Rattle.sj_names.specs.declared.references.TypeRef.{TypeRef}
use Rattle.sj_trees.specs.declared.operators.BinaryOp.{BinaryOp}
use Rattle.sj_trees.specs.declared.operators.BinaryOp.TheVariants as binary
use Rattle.sj_trees.specs.declared.types.IrType.{IrType}
use Rattle.sj_trees.specs.declared.types.IrType.TheVariants as type
use Rattle.sj_trees.specs.Term.{Term, Terms, Cases, no_terms, more_terms, no_cases, more_cases, var_def, skip, block_of, labeled, assign, return_to, if_then, while_loop, do_while, try_catch, try_finally, throw, match_on, new_object, load_module, store_module, select, select_static, apply, apply_statically, apply_static, unary_op, binary_op, new_array, array_value, array_length, array_select, is_instance_of, as_instance_of, undefined_literal, null_literal, boolean_literal, char_literal, byte_literal, short_literal, int_literal, long_literal, string_literal, var_ref, this_ref, log_line}
use Rattle.sj_trees.specs.TypeOf.{type_of_term}
use Rattle.sj_trees.specs.Types.{class_type, element_type}
use Rattle.sj_ask.specs.Known.{Name, Classes, is_same}
use Rattle.sj_typing_spec.specs.declared.labels.Label.{Label}
use Rattle.sj_typing_spec.specs.declared.rows.Fit.{Fit}
use Rattle.sj_trees.specs.SameTypes.{is_same_type}
use Rattle.sj_typing_spec.specs.Labels.{type_of_label}
use Rattle.sj_typing_spec.specs.Rules.{Fits, Yields, nothing_wanted, fitting, AllFit, CasesYield, ArgumentsFit, call_type, IsOwn, MaySet, ReturnsTo, IsStatic, IsReceiver, HasReceiver, IsCastType, IsTestType, IsArray, HasItems, IsText, OperandsFit, Meets}
use Rattle.sj_typing_spec.specs.Rows.{yield, all_fit, cases_yield, arguments_fit, are_as_many, is_own, is_static, is_this, is_receiver, has_receiver, is_cast_type, is_test_type, is_array, has_items, is_text, return_row, operands_row, row_of}
use Rattle.sj_names.proofs.Same.{text-same, text-refl}
use Rattle.sj_trees.proofs.SameTypes.{type-same, type-refl}
use Rattle.sj_typing_spec.proofs.Conditions.{AllSub, RowHolds, FieldSet}

same_type_means : (t u : IrType) → IsTrue (is_same_type t u) ↔ (t ≡ u)
same_type_means t u = (λ h. type-same t u h, λ e. subst (λ (x : IrType). is_same_type t x ≡ true) e (type-refl t))

this_owns : (e : Term) (c : Name) → IsTrue (is_own Constructor e c) ↔ IsOwn Constructor e c
this_owns (this_ref p t) c = same_type_means t (class_type c)
this_owns _ c = (λ h. cc, λ h. absurd h)

own_means : (space : Namespace) (e : Term) (c : Name) → IsTrue (is_own space e c) ↔ IsOwn space e c
own_means Constructor e c = this_owns e c
own_means Public e c = (λ h. cc, λ h. absurd h)
own_means PublicStatic e c = (λ h. cc, λ h. absurd h)
own_means Private e c = (λ h. cc, λ h. absurd h)
own_means PrivateStatic e c = (λ h. cc, λ h. absurd h)

static_means : (space : Namespace) → IsTrue (is_static space) ↔ IsStatic space
static_means PublicStatic = (λ h. tt, λ h. refl)
static_means PrivateStatic = (λ h. tt, λ h. refl)
static_means _ = (λ h. cc, λ h. absurd h)

this_receives : (e : Term) → IsTrue (is_this e) ↔ IsReceiver Constructor e
this_receives (this_ref p t) = (λ h. tt, λ h. refl)
this_receives _ = (λ h. cc, λ h. absurd h)

receiver_means : (space : Namespace) (e : Term) → IsTrue (is_receiver space e) ↔ IsReceiver space e
receiver_means Public e = (λ h. tt, λ h. refl)
receiver_means Private e = (λ h. tt, λ h. refl)
receiver_means Constructor e = this_receives e
receiver_means PublicStatic e = (λ h. cc, λ h. absurd h)
receiver_means PrivateStatic e = (λ h. cc, λ h. absurd h)

has_receiver_means : (t : IrType) → IsTrue (has_receiver t) ↔ HasReceiver t
has_receiver_means type.Null = (λ h. cc, λ h. absurd h)
has_receiver_means type.Nothing = (λ h. cc, λ h. absurd h)
has_receiver_means type.NoType = (λ h. cc, λ h. absurd h)
has_receiver_means _ = (λ h. tt, λ h. refl)

cast_means : (t : IrType) → IsTrue (is_cast_type t) ↔ IsCastType t
cast_means type.Null = (λ h. cc, λ h. absurd h)
cast_means type.Nothing = (λ h. cc, λ h. absurd h)
cast_means type.NoType = (λ h. cc, λ h. absurd h)
cast_means _ = (λ h. tt, λ h. refl)

test_means : (t : IrType) → IsTrue (is_test_type t) ↔ IsTestType t
test_means type.Any = (λ h. cc, λ h. absurd h)
test_means type.Null = (λ h. cc, λ h. absurd h)
test_means type.Nothing = (λ h. cc, λ h. absurd h)
test_means type.NoType = (λ h. cc, λ h. absurd h)
test_means _ = (λ h. tt, λ h. refl)

array_means : (t : IrType) → IsTrue (is_array t) ↔ IsArray t
array_means (type.Array r) = (λ h. tt, λ h. refl)
array_means _ = (λ h. cc, λ h. absurd h)

items_mean : (t u : IrType) → IsTrue (has_items t u) ↔ HasItems t u
items_mean (type.Array r) u = same_type_means (element_type r) u
items_mean _ u = (λ h. cc, λ h. absurd h)

text_means : (t : IrType) → IsTrue (is_text t) ↔ IsText t
text_means type.Any = (λ h. cc, λ h. absurd h)
text_means type.NoType = (λ h. cc, λ h. absurd h)
text_means (type.Array r) = (λ h. cc, λ h. absurd h)
text_means (type.Class c) = (λ h. text-same c (codes "java.lang.String") h, λ e. subst (λ (x : Name). is_same c x ≡ true) e (text-refl c))
text_means _ = (λ h. tt, λ h. refl)

init_means : (name : Name) → IsTrue (is_same name (codes "<init>")) ↔ (name ≡ codes "<init>")
init_means name = (λ h. text-same name (codes "<init>") h, λ e. subst (λ (x : Name). is_same name x ≡ true) e (text-refl name))

module _ (w : Classes) where
  sub-append : (xs ys : List Fit) → AllSub w xs → AllSub w ys → AllSub w (xs ++ ys)
  sub-append [] ys h k = k
  sub-append (x ∷ xs) ys h k = (h.0, sub-append xs ys h.1 k)

  sub-parts : (xs ys : List Fit) → AllSub w (xs ++ ys) → AllSub w xs × AllSub w ys
  sub-parts [] ys h = (tt, h)
  sub-parts (x ∷ xs) ys h = let rest = sub-parts xs ys h.1 in ((h.0, rest.0), rest.1)

  yield_means : (e : Term) (t : IrType) → AllSub w (yield e t) ↔ Yields w e t
  yield_means e type.NoType = (λ h. nothing_wanted refl, λ y. tt)
  yield_means e t = (λ h. fitting h.0, λ y. (fits y, tt))
    where
      fits : Yields w e t → Fits w e t
      fits (fitting h) = h
      fits (nothing_wanted n) = cc

  all_mean : (es : Terms) (t : IrType) → AllSub w (all_fit es t) ↔ AllFit w es t
  all_mean no_terms t = (λ h. tt, λ h. tt)
  all_mean (more_terms e es) t = (λ h. (h.0, (all_mean es t).0 h.1), λ h. (h.0, (all_mean es t).1 h.1))

  cases_mean : (cs : Cases) (t : IrType) → AllSub w (cases_yield cs t) ↔ CasesYield w cs t
  cases_mean no_cases t = (λ h. tt, λ h. tt)
  cases_mean (more_cases keys e cs) t = (
    λ h. let p = sub-parts (yield e t) (cases_yield cs t) h in ((yield_means e t).0 p.0, (cases_mean cs t).0 p.1),
    λ h. sub-append (yield e t) (cases_yield cs t) ((yield_means e t).1 h.0) ((cases_mean cs t).1 h.1),
  )

  arguments_mean : (es : Terms) (rs : List TypeRef) → are_as_many es rs ≡ true → AllSub w (arguments_fit es rs) → ArgumentsFit w es rs
  arguments_mean no_terms [] n h = tt
  arguments_mean no_terms (r ∷ rs) n h = cc
  arguments_mean (more_terms e es) [] n h = cc
  arguments_mean (more_terms e es) (r ∷ rs) n h = (h.0, arguments_mean es rs n h.1)

  arguments_hold : (es : Terms) (rs : List TypeRef) → ArgumentsFit w es rs → (are_as_many es rs ≡ true) × AllSub w (arguments_fit es rs)
  arguments_hold no_terms [] h = (refl, tt)
  arguments_hold no_terms (r ∷ rs) h = absurd h
  arguments_hold (more_terms e es) [] h = absurd h
  arguments_hold (more_terms e es) (r ∷ rs) h = let rest = arguments_hold es rs h.1 in (rest.0, (h.0, rest.1))

-- a call: a test of its own, the type, and as many arguments as parameters
record Call (a b c : Bool) : Type 0 where
  own : a ≡ true
  typed : b ≡ true
  many : c ≡ true

call_parts : (a b c : Bool) → (a && (b && c)) ≡ true → Call a b c
call_parts a b c h = let p = and_parts a (b && c) h in let q = and_parts b c p.1 in record { own = p.0; typed = q.0; many = q.1 }

call_from : (a b c : Bool) → a ≡ true → b ≡ true → c ≡ true → (a && (b && c)) ≡ true
call_from a b c h k l = and_from a (b && c) h (and_from b c k l)

-- of the trees in an assignment the first decides whether it may be set
abbrev pub PartsSet : Classes → Namespace → Term → Bool → Type 0
PartsSet w space (assign p e d) b = IsTrue b ↔ MaySet w space e
PartsSet w space _ b = Unit {0}

module _ (w : Classes) (space : Namespace) (ls : List Label) (settable : Bool) where
  returns_mean : (e : Term) (l : List ℕ) (o : Option IrType) → type_of_label ls l ≡ o → RowHolds w (return_row e o) → ReturnsTo w ls l e
  returns_mean e l None q h = let no : false ≡ true = h.plain in cc
  returns_mean e l (Some t) q h = record { tpe = t; is_type = q; yields = (yield_means w e t).0 h.fits }

  operands_mean : (o : BinaryOp) (a b : Term) → RowHolds w (operands_row o a b) → OperandsFit w o a b
  operands_mean binary.StringConcatenate a b h = let p = and_parts (is_text (type_of_term a)) (is_text (type_of_term b)) h.plain in ((text_means (type_of_term a)).0 p.0, (text_means (type_of_term b)).0 p.1)
  operands_mean o a b h = (h.fits.0, h.fits.1.0)

  operands_hold : (o : BinaryOp) (a b : Term) → OperandsFit w o a b → RowHolds w (operands_row o a b)
  operands_hold binary.StringConcatenate a b m = record { plain = and_from (is_text (type_of_term a)) (is_text (type_of_term b)) ((text_means (type_of_term a)).1 m.0) ((text_means (type_of_term b)).1 m.1); fits = tt; field = tt }
  operands_hold o a b m = record { plain = refl; fits = (m.0, (m.1, tt)); field = tt }

  pub row_means : (t : Term) → PartsSet w space t settable → RowHolds w (row_of space ls settable t) → Meets w space ls t
  row_means (var_def p x t m e) set h = h.fits.0
  row_means (skip p) set h = tt
  row_means (block_of p es) set h = tt
  row_means (labeled p l t e) set h = (yield_means w e t).0 h.fits
  row_means (assign p e d) set h = (set.0 h.plain, h.fits.0)
  row_means (return_to p e l) set h = returns_mean e l (type_of_label ls l) refl h
  row_means (if_then p c e d t) set h = let q = sub-parts w (yield e t) (yield d t) h.fits.1 in (h.fits.0, (yield_means w e t).0 q.0, (yield_means w d t).0 q.1)
  row_means (while_loop p c e) set h = h.fits.0
  row_means (do_while p e c) set h = h.fits.0
  row_means (try_catch p e x d t) set h = let q = sub-parts w (yield e t) (yield d t) h.fits in ((yield_means w e t).0 q.0, (yield_means w d t).0 q.1)
  row_means (try_finally p e d) set h = tt
  row_means (throw p e) set h = h.fits.0
  row_means (match_on p s cs d t) set h = let q = sub-parts w (cases_yield cs t) (yield d t) h.fits.1 in (h.fits.0, (cases_mean w cs t).0 q.0, (yield_means w d t).0 q.1)
  row_means (new_object p c k es) set h = let q = and_parts (is_same k.simple (codes "<init>")) (are_as_many es k.params) h.plain in ((init_means k.simple).0 q.0, arguments_mean w es k.params q.1 h.fits)
  row_means (load_module p c) set h = tt
  row_means (store_module p c e) set h = h.fits.0
  row_means (select p e c f t) set h = (h.fits.0, h.field)
  row_means (select_static p c f t) set h = h.field
  row_means (apply p e k es t) set h = let q = call_parts (has_receiver (type_of_term e)) (is_same_type t (call_type k.result)) (are_as_many es k.params) h.plain in ((has_receiver_means (type_of_term e)).0 q.own, (same_type_means t (call_type k.result)).0 q.typed, arguments_mean w es k.params q.many h.fits)
  row_means (apply_statically p e c s k es t) set h = let q = call_parts (is_receiver s e) (is_same_type t (call_type k.result)) (are_as_many es k.params) h.plain in ((receiver_means s e).0 q.own, (same_type_means t (call_type k.result)).0 q.typed, h.fits.0, arguments_mean w es k.params q.many h.fits.1)
  row_means (apply_static p c s k es t) set h = let q = call_parts (is_static s) (is_same_type t (call_type k.result)) (are_as_many es k.params) h.plain in ((static_means s).0 q.own, (same_type_means t (call_type k.result)).0 q.typed, arguments_mean w es k.params q.many h.fits)
  row_means (unary_op p o e) set h = h.fits.0
  row_means (binary_op p o a b) set h = operands_mean o a b h
  row_means (new_array p r e) set h = h.fits.0
  row_means (array_value p r es) set h = (all_mean w es (element_type r)).0 h.fits
  row_means (array_length p e) set h = (array_means (type_of_term e)).0 h.plain
  row_means (array_select p e i t) set h = ((items_mean (type_of_term e) t).0 h.plain, h.fits.0)
  row_means (is_instance_of p e t) set h = ((test_means t).0 h.plain, h.fits.0)
  row_means (as_instance_of p e t) set h = ((cast_means t).0 h.plain, h.fits.0)
  row_means (undefined_literal p) set h = tt
  row_means (null_literal p) set h = tt
  row_means (boolean_literal p v) set h = tt
  row_means (char_literal p v) set h = tt
  row_means (byte_literal p v) set h = tt
  row_means (short_literal p v) set h = tt
  row_means (int_literal p v) set h = tt
  row_means (long_literal p v) set h = tt
  row_means (string_literal p u) set h = tt
  row_means (var_ref p x t) set h = tt
  row_means (this_ref p t) set h = tt
  row_means (log_line p e) set h = h.fits.0

  pub row_holds : (t : Term) → PartsSet w space t settable → Meets w space ls t → RowHolds w (row_of space ls settable t)
  row_holds (var_def p x t m e) set h = record { plain = refl; fits = (h, tt); field = tt }
  row_holds (skip p) set h = record { plain = refl; fits = tt; field = tt }
  row_holds (block_of p es) set h = record { plain = refl; fits = tt; field = tt }
  row_holds (labeled p l t e) set h = record { plain = refl; fits = (yield_means w e t).1 h; field = tt }
  row_holds (assign p e d) set h = record { plain = set.1 h.0; fits = (h.1, tt); field = tt }
  row_holds (return_to p e l) set h = subst (λ (o : Option IrType). RowHolds w (return_row e o)) (sym h.is_type) (record { plain = refl; fits = (yield_means w e h.tpe).1 h.yields; field = tt })
  row_holds (if_then p c e d t) set h = record { plain = refl; fits = (h.0, sub-append w (yield e t) (yield d t) ((yield_means w e t).1 h.1) ((yield_means w d t).1 h.2)); field = tt }
  row_holds (while_loop p c e) set h = record { plain = refl; fits = (h, tt); field = tt }
  row_holds (do_while p e c) set h = record { plain = refl; fits = (h, tt); field = tt }
  row_holds (try_catch p e x d t) set h = record { plain = refl; fits = sub-append w (yield e t) (yield d t) ((yield_means w e t).1 h.0) ((yield_means w d t).1 h.1); field = tt }
  row_holds (try_finally p e d) set h = record { plain = refl; fits = tt; field = tt }
  row_holds (throw p e) set h = record { plain = refl; fits = (h, tt); field = tt }
  row_holds (match_on p s cs d t) set h = record { plain = refl; fits = (h.0, sub-append w (cases_yield cs t) (yield d t) ((cases_mean w cs t).1 h.1) ((yield_means w d t).1 h.2)); field = tt }
  row_holds (new_object p c k es) set h = let a = arguments_hold w es k.params h.1 in record { plain = and_from (is_same k.simple (codes "<init>")) (are_as_many es k.params) ((init_means k.simple).1 h.0) a.0; fits = a.1; field = tt }
  row_holds (load_module p c) set h = record { plain = refl; fits = tt; field = tt }
  row_holds (store_module p c e) set h = record { plain = refl; fits = (h, tt); field = tt }
  row_holds (select p e c f t) set h = record { plain = refl; fits = (h.0, tt); field = h.1 }
  row_holds (select_static p c f t) set h = record { plain = refl; fits = tt; field = h }
  row_holds (apply p e k es t) set h = let a = arguments_hold w es k.params h.2 in record { plain = call_from (has_receiver (type_of_term e)) (is_same_type t (call_type k.result)) (are_as_many es k.params) ((has_receiver_means (type_of_term e)).1 h.0) ((same_type_means t (call_type k.result)).1 h.1) a.0; fits = a.1; field = tt }
  row_holds (apply_statically p e c s k es t) set h = let a = arguments_hold w es k.params h.3 in record { plain = call_from (is_receiver s e) (is_same_type t (call_type k.result)) (are_as_many es k.params) ((receiver_means s e).1 h.0) ((same_type_means t (call_type k.result)).1 h.1) a.0; fits = (h.2, a.1); field = tt }
  row_holds (apply_static p c s k es t) set h = let a = arguments_hold w es k.params h.2 in record { plain = call_from (is_static s) (is_same_type t (call_type k.result)) (are_as_many es k.params) ((static_means s).1 h.0) ((same_type_means t (call_type k.result)).1 h.1) a.0; fits = a.1; field = tt }
  row_holds (unary_op p o e) set h = record { plain = refl; fits = (h, tt); field = tt }
  row_holds (binary_op p o a b) set h = operands_hold o a b h
  row_holds (new_array p r e) set h = record { plain = refl; fits = (h, tt); field = tt }
  row_holds (array_value p r es) set h = record { plain = refl; fits = (all_mean w es (element_type r)).1 h; field = tt }
  row_holds (array_length p e) set h = record { plain = (array_means (type_of_term e)).1 h; fits = tt; field = tt }
  row_holds (array_select p e i t) set h = record { plain = (items_mean (type_of_term e) t).1 h.0; fits = (h.1, tt); field = tt }
  row_holds (is_instance_of p e t) set h = record { plain = (test_means t).1 h.0; fits = (h.1, tt); field = tt }
  row_holds (as_instance_of p e t) set h = record { plain = (cast_means t).1 h.0; fits = (h.1, tt); field = tt }
  row_holds (undefined_literal p) set h = record { plain = refl; fits = tt; field = tt }
  row_holds (null_literal p) set h = record { plain = refl; fits = tt; field = tt }
  row_holds (boolean_literal p v) set h = record { plain = refl; fits = tt; field = tt }
  row_holds (char_literal p v) set h = record { plain = refl; fits = tt; field = tt }
  row_holds (byte_literal p v) set h = record { plain = refl; fits = tt; field = tt }
  row_holds (short_literal p v) set h = record { plain = refl; fits = tt; field = tt }
  row_holds (int_literal p v) set h = record { plain = refl; fits = tt; field = tt }
  row_holds (long_literal p v) set h = record { plain = refl; fits = tt; field = tt }
  row_holds (string_literal p u) set h = record { plain = refl; fits = tt; field = tt }
  row_holds (var_ref p x t) set h = record { plain = refl; fits = tt; field = tt }
  row_holds (this_ref p t) set h = record { plain = refl; fits = tt; field = tt }
  row_holds (log_line p e) set h = record { plain = refl; fits = (h, tt); field = tt }

module _ (w : Classes) (space : Namespace) (ls : List Label) (settable b : Bool) where
  free : b ≡ true → IsTrue b ↔ Unit {0}
  free e = (λ h. tt, λ h. e)

  -- an operator's row has no field
  operands_free : (o : BinaryOp) (x y : Term) → FieldSet w (operands_row o x y).field b → b ≡ true
  operands_free binary.StringConcatenate x y h = h
  operands_free _ x y h = h

  return_free : (e : Term) (o : Option IrType) → FieldSet w (return_row e o).field b → b ≡ true
  return_free e None h = h
  return_free e (Some t) h = h

  -- what is given behind a tree says whether what it names may be set
  pub row_sets : (t : Term) → FieldSet w (row_of space ls settable t).field b → IsTrue b ↔ MaySet w space t
  row_sets (select p e c f t) h = (
    λ k. elim (h.0 k) [ inl m ↦ inl m | inr o ↦ inr ((own_means space e c).0 o) ],
    λ m. h.1 (elim m [ inl i ↦ inl i | inr o ↦ inr ((own_means space e c).1 o) ]),
  )
  row_sets (select_static p c f t) h = (λ k. elim (h.0 k) [ inl m ↦ m | inr o ↦ cc ], λ m. h.1 (inl m))
  row_sets (binary_op p o x y) h = free (operands_free o x y h)
  row_sets (return_to p e l) h = free (return_free e (type_of_label ls l) h)
  row_sets _ h = free h
