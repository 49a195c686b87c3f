-- What is written for a tree declares each variable once and has no early error.
use Rattle.std.proofs.Common.{◌≡◌, ℕ, Bool, true, false, List, [], ◌∷◌, Some, refl, sym, ap, ◌∙◌, subst, arith, ◌⊎◌, inl, inr, ⊎_elim, if◌then◌else◌}
use Rattle.std.specs.Prelude.{nat_eq, pos}
use Rattle.std.specs.Cmp.Lexicographic.{pointwise}
use Rattle.agree_body_rules.specs.Terms as core
use Rattle.agree_body_rules.specs.Views.{expressions_of}
use Rattle.agree_body_rules.specs.CalleeVariants as callees
use Rattle.agree_body_rules.specs.Coercions.{coerced, coerced_arguments, coerced_items, coerced_receiver}
use Rattle.agree_body_rules.specs.Desugar.{callee_of, receiver, received, rest_of, operand, into, block, operands, cases, finish, target_of, Target, Targets, expression_of, labeled_code, leaving_code, wrapped, branches, break_unless, switch_code, first_of, second_of, third_of, member, types_of}
use Rattle.agree_body_rules.specs.Plain.{is_plain}
use Rattle.agree_body_rules.specs.Texts.{operand_of}
use Rattle.agree_body_rules.specs.Spill.{Destination, discard, to_variable, to_result, Code, Operand, no_code, one, put_first, then_code, spill, then_use}
use Rattle.sj_desugar_spec.specs.Finalizers.{finalizer_code}
use Rattle.sj_trees.specs.Term.{Term, Terms, no_terms, more_terms, Cases, no_cases, more_cases, var_def, block_of, labeled, assign, return_to, if_then, while_loop, do_while, throw, try_catch, try_finally, match_on, new_object, new_array, array_value, array_length, array_select, select, select_static, apply, apply_statically, apply_static, unary_op, binary_op, is_instance_of, as_instance_of, undefined_literal, null_literal, boolean_literal, char_literal, byte_literal, short_literal, int_literal, long_literal, string_literal, var_ref, this_ref, log_line, load_module, store_module}
use Rattle.sj_names.specs.declared.method_names.Namespace.TheVariants.{Constructor}
use Rattle.sj_trees.specs.Types.{class_type, element_type}
use Rattle.agree_body_rules.specs.Sure.{is_sure}
use Rattle.sj_trees.specs.TypeOf.{type_of_term, unary_result, binary_result}
use Rattle.sj_trees.specs.declared.positions.Position.{Position}
use Rattle.sj_trees.specs.declared.types.IrType.{IrType}
use Rattle.sj_trees.specs.declared.types.IrType.TheVariants.{Any, Array, Undefined, Null, Boolean, Char, Byte, Short, Int, Long, String}
use Rattle.agree_body_rules.specs.Locals.{Own, OwnAll}
use Rattle.agree_body_rules.proofs.Equal.{equals, is-equal}
use Rattle.sj_names.proofs.Same.{impossible}
use Rattle.agree_early_errors.specs.Once.{IsAmong, Apart, Once, OnceAll, OnceCases}
use Rattle.agree_early_errors.proofs.Good.{Good, Part, no_name, good-widen, good-none, good-one, good-joined, good-named, spilled, operand-good, good-use, finish-good, branches-good, tries-good, finishes-good, finalizer-good, break-good, GoodCases, case-good-in, switch-good}

abbrev IsLeft : Destination → Type 0
IsLeft (to_result t) = ⊥
IsLeft discard = Unit {0}
IsLeft (to_variable x t) = Unit {0}

-- a label around, to whose statement values leave, has one; and each that has one is around
pub record Emitted (around : List (List ℕ)) (ts : Targets) (ls : List (List ℕ)) : Type 0 where
  pub has : (l : List ℕ) → IsAmong around l → IsLeft (target_of ts l) → IsAmong ls l
  pub outer : (l : List ℕ) → IsAmong ls l → IsAmong around l

-- where each label around is taken to have one
pub emitted_alike : (around : List (List ℕ)) (ts : Targets) → Emitted around ts around
emitted_alike around ts = record { has = λ l i left. i; outer = λ l i. i }

-- the labels that have a statement inside this one
abbrev inside : Destination → List ℕ → List (List ℕ) → List (List ℕ)
inside (to_result t) l ls = ls
inside discard l ls = l ∷ ls
inside (to_variable x t) l ls = l ∷ ls

abbrev target : List ℕ → Destination → Target
target l k = record { label = l; goes_to = k }

emitted-result : (around : List (List ℕ)) (ts : Targets) (ls : List (List ℕ)) (l : List ℕ) (t : IrType) → Emitted around ts ls → Emitted (l ∷ around) (target l (to_result t) ∷ ts) ls
emitted-result around ts ls l t h = record { has = λ m i. go m i (pointwise nat_eq m l) refl; outer = λ m i. inr (h.outer m i) }
  where
    go : (m : List ℕ) → (m ≡ l) ⊎ IsAmong around m → (b : Bool) → pointwise nat_eq m l ≡ b → IsLeft (if pointwise nat_eq m l then to_result t else target_of ts m) → IsAmong ls m
    go m i true e left = absurd (subst (λ b. IsLeft (if b then to_result t else target_of ts m)) e left)
    go m (inl same) false e left = impossible (sym e ∙ ap (λ x. pointwise nat_eq x l) same ∙ equals l)
    go m (inr i) false e left = h.has m i (subst (λ b. IsLeft (if b then to_result t else target_of ts m)) e left)

emitted-label : (around : List (List ℕ)) (ts : Targets) (ls : List (List ℕ)) (l : List ℕ) (k : Destination) → Emitted around ts ls → Emitted (l ∷ around) (target l k ∷ ts) (l ∷ ls)
emitted-label around ts ls l k h = record { has = λ m i. go m i (pointwise nat_eq m l) refl; outer = λ m i. ⊎_elim (λ e. inl e) (λ j. inr (h.outer m j)) i }
  where
    go : (m : List ℕ) → (m ≡ l) ⊎ IsAmong around m → (b : Bool) → pointwise nat_eq m l ≡ b → IsLeft (if pointwise nat_eq m l then k else target_of ts m) → (m ≡ l) ⊎ IsAmong ls m
    go m i true e left = inl (is-equal m l e)
    go m (inl same) false e left = inl same
    go m (inr i) false e left = inr (h.has m i (subst (λ b. IsLeft (if b then k else target_of ts m)) e left))

emitted-inside : (around : List (List ℕ)) (ts : Targets) (ls : List (List ℕ)) (l : List ℕ) (k : Destination) → Emitted around ts ls → Emitted (l ∷ around) (target l k ∷ ts) (inside k l ls)
emitted-inside around ts ls l (to_result t) h = emitted-result around ts ls l t h
emitted-inside around ts ls l discard h = emitted-label around ts ls l discard h
emitted-inside around ts ls l (to_variable x t) h = emitted-label around ts ls l (to_variable x t) h

labeled-good : (own : List ℕ → Type 0) (ls : List (List ℕ)) (b : Bool) (j : ℕ) (k : Destination) (p : Position) (l : List ℕ) (c : Code) → (IsAmong ls l → ⊥) → Good own (inside k l ls) b j c → Good own ls b j (labeled_code k p l c)
labeled-good own ls b j (to_result t) p l c fresh g = g
labeled-good own ls b j discard p l c fresh g = good-one own ls b j c.next (core.labeled_of (Some p) l c.statements) g.onward (λ y d. d) (fresh, g.distinct, g.proper)
labeled-good own ls b j (to_variable x t) p l c fresh g = good-one own ls b j c.next (core.labeled_of (Some p) l c.statements) g.onward (λ y d. d) (fresh, g.distinct, g.proper)

no_part : (own : List ℕ → Type 0) → Part no_name own
no_part own x h = absurd h

all_part : (own : List ℕ → Type 0) → Part own own
all_part own x h = h

nothing_apart : (own : List ℕ → Type 0) → Apart own no_name
nothing_apart own x h k = k

leaving-good : (own : List ℕ → Type 0) (ls : List (List ℕ)) (b : Bool) (j : ℕ) (k : Destination) (p : Position) (l : List ℕ) (c : Code) → (IsLeft k → IsAmong ls l) → Good own ls b j c → Good own ls b j (leaving_code k p l c)
leaving-good own ls b j (to_result t) p l c there g = g
leaving-good own ls b j discard p l c there g = good-joined own no_name own ls b j c (one (core.leave_label (Some p) l) c.next) g (good-one no_name ls b c.next c.next (core.leave_label (Some p) l) (omega arith) (λ y d. d) (there tt)) (nothing_apart own) (all_part own) (no_part own)
leaving-good own ls b j (to_variable x t) p l c there g = good-joined own no_name own ls b j c (one (core.leave_label (Some p) l) c.next) g (good-one no_name ls b c.next c.next (core.leave_label (Some p) l) (omega arith) (λ y d. d) (there tt)) (nothing_apart own) (all_part own) (no_part own)

either-good : (own : List ℕ → Type 0) (ls : List (List ℕ)) (b v : Bool) (j : ℕ) (c d : Code) → Good own ls b j c → Good own ls b j d → Good own ls b j (elim v as (λ v. Code) [ true ↦ c | false ↦ d ])
either-good own ls b true j c d g h = g
either-good own ls b false j c d g h = h

module _ (is_mutable sure : List ℕ → Bool) where
  abbrev pub TreeGood : Term → Type 0
  TreeGood t = (around : List (List ℕ)) (ts : Targets) (ls : List (List ℕ)) (b : Bool) (k : Destination) (j : ℕ) → Once around t → Emitted around ts ls → Good (Own t) ls b j (into is_mutable sure ts k j t)

  -- one operand
  each_one : (e : Term) → TreeGood e → (around : List (List ℕ)) (ts : Targets) (ls : List (List ℕ)) (b : Bool) → Once around e → Emitted around ts ls → (j : ℕ) → Good (Own e) ls b j (spilled (spill (operand is_mutable sure e (λ k j. into is_mutable sure ts k j e) ∷ []) j))
  each_one e good around ts ls b h em = operand-good (Own e) no_name (Own e) ls b (operand is_mutable sure e (λ k j. into is_mutable sure ts k j e)) [] (λ k j. good around ts ls b k j h em) (λ j. good-none no_name ls b j) (nothing_apart (Own e)) (all_part (Own e)) (no_part (Own e))

  -- one operand, and one statement that declares nothing
  act_good : (e : Term) → TreeGood e → (own : List ℕ → Type 0) → Part (Own e) own → (around : List (List ℕ)) (ts : Targets) (ls : List (List ℕ)) (b : Bool) (j : ℕ) (made : List core.Expression → ℕ → Code) → Once around e → Emitted around ts ls → ((es : List core.Expression) (i : ℕ) → Good no_name ls b i (made es i)) → Good own ls b j (then_use (spill (operand is_mutable sure e (λ k j. into is_mutable sure ts k j e) ∷ []) j) made)
  act_good e good own part around ts ls b j made h em made_good = good-use (Own e) no_name own ls b (operand is_mutable sure e (λ k j. into is_mutable sure ts k j e) ∷ []) made j (each_one e good around ts ls b h em j) made_good (nothing_apart (Own e)) part (no_part own)

  -- a receiver, with its null check or without
  received_good : (v : Bool) (o : Operand) (own : List ℕ → Type 0) (ls : List (List ℕ)) (b : Bool) → ((k : Destination) (j : ℕ) → Good own ls b j (o.code k j)) → (k : Destination) (j : ℕ) → Good own ls b j ((received v o).code k j)
  received_good true o own ls b g k j = g k j
  received_good false o own ls b g k j = good-use own no_name own ls b (o ∷ []) (λ es. finish k o.at o.tpe false (core.checked_value (first_of es))) j (operand-good own no_name own ls b o [] g (λ j. good-none no_name ls b j) (nothing_apart own) (all_part own) (no_part own) j) (λ es i. finish-good no_name ls b k o.at o.tpe false (core.checked_value (first_of es)) i) (nothing_apart own) (all_part own) (no_part own)

  abbrev receiver_in : Term → Targets → Operand
  receiver_in e ts = receiver is_mutable sure e (λ k j. into is_mutable sure ts k j e)

  receiver_good : (e : Term) → TreeGood e → (around : List (List ℕ)) (ts : Targets) (ls : List (List ℕ)) (b : Bool) → Once around e → Emitted around ts ls → (k : Destination) (j : ℕ) → Good (Own e) ls b j ((receiver_in e ts).code k j)
  receiver_good e good around ts ls b h em = received_good (is_sure sure e) (operand is_mutable sure e (λ k j. into is_mutable sure ts k j e)) (Own e) ls b (λ k j. good around ts ls b k j h em)

  -- a receiver in front of other operands
  receiver_first : (e : Term) → TreeGood e → (other own : List ℕ → Type 0) (os : List Operand) → Apart (Own e) other → Part (Own e) own → Part other own → (around : List (List ℕ)) (ts : Targets) (ls : List (List ℕ)) (b : Bool) → Once around e → Emitted around ts ls → ((j : ℕ) → Good other ls b j (spilled (spill os j))) → (j : ℕ) → Good own ls b j (spilled (spill (receiver_in e ts ∷ os) j))
  receiver_first e good other own os apart part more around ts ls b h em rest = operand-good (Own e) other own ls b (receiver_in e ts) os (receiver_good e good around ts ls b h em) rest apart part more

  abbrev pub while_code : Term → Term → Targets → ℕ → Code
  while_code c d ts j = then_use (spill (operand is_mutable sure c (λ k j. into is_mutable sure ts k j c) ∷ []) j) (λ es j. put_first (break_unless (first_of es)) (into is_mutable sure ts discard j d))

  abbrev pub do_code : Term → Term → Targets → ℕ → Code
  do_code d c ts j = then_code (into is_mutable sure ts discard j d) (λ j. then_use (spill (operand is_mutable sure c (λ k j. into is_mutable sure ts k j c) ∷ []) j) (λ es. one (break_unless (first_of es))))

  -- the body of a loop, its condition included
  pub while_good : (p : Position) (c d : Term) → TreeGood c → TreeGood d → (around : List (List ℕ)) (ts : Targets) (ls : List (List ℕ)) (j : ℕ) → Once around (while_loop p c d) → Emitted around ts ls → Good (Own (while_loop p c d)) ls true j (while_code c d ts j)
  while_good p c d good_c good_d around ts ls j h em = good-use (Own c) (Own d) (Own (while_loop p c d)) ls true (operand is_mutable sure c (λ k j. into is_mutable sure ts k j c) ∷ []) (λ es j. put_first (break_unless (first_of es)) (into is_mutable sure ts discard j d)) j (each_one c good_c around ts ls true h.0 em j) (λ es i. break-good (Own d) ls i (first_of es) (into is_mutable sure ts discard i d) (good_d around ts ls true discard i h.1 em)) h.2 (λ x o. inl o) (λ x o. inr o)

  pub do_good : (p : Position) (d c : Term) → TreeGood d → TreeGood c → (around : List (List ℕ)) (ts : Targets) (ls : List (List ℕ)) (j : ℕ) → Once around (do_while p d c) → Emitted around ts ls → Good (Own (do_while p d c)) ls true j (do_code d c ts j)
  do_good p d c good_d good_c around ts ls j h em = good-joined (Own d) (Own c) (Own (do_while p d c)) ls true j (into is_mutable sure ts discard j d) (then_use (spill (operand is_mutable sure c (λ k j. into is_mutable sure ts k j c) ∷ []) (into is_mutable sure ts discard j d).next) (λ es. one (break_unless (first_of es)))) (good_d around ts ls true discard j h.0 em) (act_good c good_c (Own c) (all_part (Own c)) around ts ls true (into is_mutable sure ts discard j d).next (λ es. one (break_unless (first_of es))) h.1 em (λ es i. break-good no_name ls i (first_of es) (no_code i) (good-none no_name ls true i))) h.2 (λ x o. inl o) (λ x o. inr o)

  mutual
    pub good : (t : Term) → TreeGood t
    good (var_def p x t c e) = λ around ts ls b k j h em. either-good (Own (var_def p x t c e)) ls b (is_plain e) j (one (core.define_of (Some p) (core.named x) (coerced t (type_of_term e) (expression_of sure e))) j) (put_first (core.declare_of (Some p) (core.named x)) (into is_mutable sure ts (to_variable (core.named x) t) j e)) (good-named no_name (Own (var_def p x t c e)) ls b j x (core.define_of (Some p) (core.named x) (coerced t (type_of_term e) (expression_of sure e))) (no_code j) (λ y d. d) tt (inl refl) (no_part (Own (var_def p x t c e))) (λ i. i) (good-none no_name ls b j)) (good-named (Own e) (Own (var_def p x t c e)) ls b j x (core.declare_of (Some p) (core.named x)) (into is_mutable sure ts (to_variable (core.named x) t) j e) (λ y d. d) tt (inl refl) (λ y o. inr o) h.0 (good e around ts ls b (to_variable (core.named x) t) j h.1 em))
    good (block_of p es) = λ around ts ls b k j h em. good_block es around ts ls b k j h em
    good (labeled p l t e) = λ around ts ls b k j h em. labeled-good (Own e) ls b j k p l (into is_mutable sure (target l k ∷ ts) k j e) (λ i. h.0 (em.outer l i)) (good e (l ∷ around) (target l k ∷ ts) (inside k l ls) b k j h.1 (emitted-inside around ts ls l k em))
    good (assign p (var_ref q x t) e) = λ around ts ls b k j h em. act_good e (good e) (Own e) (all_part (Own e)) around ts ls b j (λ es. one (core.assign_to (Some p) (core.named x) (coerced t (type_of_term e) (first_of es)))) h em (λ es i. good-one no_name ls b i i (core.assign_to (Some p) (core.named x) (coerced t (type_of_term e) (first_of es))) (omega arith) (λ y d. d) tt)
    good (assign p (select q d c f t) e) = λ around ts ls b k j h em. good-use (Own (assign p (select q d c f t) e)) no_name (Own (assign p (select q d c f t) e)) ls b (receiver_in d ts ∷ operand is_mutable sure e (λ k j. into is_mutable sure ts k j e) ∷ []) (λ es. one (core.assign_field (Some p) (first_of es) c f (coerced t (type_of_term e) (second_of es)))) j (receiver_first d (good d) (Own e) (Own (assign p (select q d c f t) e)) (operand is_mutable sure e (λ k j. into is_mutable sure ts k j e) ∷ []) h.2 (λ x o. inl o) (λ x o. inr o) around ts ls b h.0 em (each_one e (good e) around ts ls b h.1 em) j) (λ es i. good-one no_name ls b i i (core.assign_field (Some p) (first_of es) c f (coerced t (type_of_term e) (second_of es))) (omega arith) (λ y d. d) tt) (nothing_apart (Own (assign p (select q d c f t) e))) (all_part (Own (assign p (select q d c f t) e))) (no_part (Own (assign p (select q d c f t) e)))
    good (assign p (select_static q c f t) e) = λ around ts ls b k j h em. act_good e (good e) (Own e) (all_part (Own e)) around ts ls b j (λ es. one (core.assign_static (Some p) c f (coerced t (type_of_term e) (first_of es)))) h em (λ es i. good-one no_name ls b i i (core.assign_static (Some p) c f (coerced t (type_of_term e) (first_of es))) (omega arith) (λ y d. d) tt)
    good (assign p (array_select q d i t) e) = λ around ts ls b k j h em. good-use (Own (assign p (array_select q d i t) e)) no_name (Own (assign p (array_select q d i t) e)) ls b (receiver_in d ts ∷ operand is_mutable sure i (λ k j. into is_mutable sure ts k j i) ∷ operand is_mutable sure e (λ k j. into is_mutable sure ts k j e) ∷ []) (λ es. one (core.assign_element (Some p) t (first_of es) (second_of es) (coerced t (type_of_term e) (third_of es)))) j (receiver_first d (good d) (λ x. Own i x ⊎ Own e x) (Own (assign p (array_select q d i t) e)) (operand is_mutable sure i (λ k j. into is_mutable sure ts k j i) ∷ operand is_mutable sure e (λ k j. into is_mutable sure ts k j e) ∷ []) h.3 (λ x o. inl o) (λ x o. inr o) around ts ls b h.0 em (operand-good (Own i) (Own e) (λ x. Own i x ⊎ Own e x) ls b (operand is_mutable sure i (λ k j. into is_mutable sure ts k j i)) (operand is_mutable sure e (λ k j. into is_mutable sure ts k j e) ∷ []) (λ k j. good i around ts ls b k j h.1 em) (each_one e (good e) around ts ls b h.2 em) h.4 (λ x o. inl o) (λ x o. inr o)) j) (λ es n. good-one no_name ls b n n (core.assign_element (Some p) t (first_of es) (second_of es) (coerced t (type_of_term e) (third_of es))) (omega arith) (λ y d. d) tt) (nothing_apart (Own (assign p (array_select q d i t) e))) (all_part (Own (assign p (array_select q d i t) e))) (no_part (Own (assign p (array_select q d i t) e)))
    good (throw p e) = λ around ts ls b k j h em. act_good e (good e) (Own e) (all_part (Own e)) around ts ls b j (λ es. one (core.throw_of (Some p) (coerced Any (type_of_term e) (first_of es)))) h em (λ es i. good-one no_name ls b i i (core.throw_of (Some p) (coerced Any (type_of_term e) (first_of es))) (omega arith) (λ y d. d) tt)
    good (return_to p e l) = λ around ts ls b k j h em. leaving-good (Own e) ls b j (target_of ts l) p l (into is_mutable sure ts (target_of ts l) j e) (λ i. em.has l h.0 i) (good e around ts ls b (target_of ts l) j h.1 em)
    good (if_then p c a d t) = λ around ts ls b k j h em. act_good c (good c) (Own (if_then p c a d t)) (λ x o. inl o) around ts ls b j (λ es j. branches p (first_of es) (into is_mutable sure ts k j a) (λ j. into is_mutable sure ts k j d)) h.0 em (λ es i. branches-good (Own a) (Own d) no_name ls b p (first_of es) (into is_mutable sure ts k i a) (λ j. into is_mutable sure ts k j d) i (good a around ts ls b k i h.1 em) (good d around ts ls b k (into is_mutable sure ts k i a).next h.2 em))
    good (while_loop p c d) = λ around ts ls b k j h em. either-good (Own (while_loop p c d)) ls b (is_plain c) j (wrapped (core.while_of (Some p) (expression_of sure c)) (into is_mutable sure ts discard j d)) (wrapped (core.while_of (Some p) (core.boolean_value true)) (while_code c d ts j)) (let g = good d around ts ls true discard j h.1 em in good-one (Own (while_loop p c d)) ls b j (into is_mutable sure ts discard j d).next (core.while_of (Some p) (expression_of sure c) (into is_mutable sure ts discard j d).statements) g.onward (λ y i. i) (g.distinct, g.proper)) (let g = while_good p c d (good c) (good d) around ts ls j h em in good-one (Own (while_loop p c d)) ls b j (while_code c d ts j).next (core.while_of (Some p) (core.boolean_value true) (while_code c d ts j).statements) g.onward (λ y i. i) (g.distinct, g.proper))
    good (do_while p d c) = λ around ts ls b k j h em. let g = do_good p d c (good d) (good c) around ts ls j h em in good-one (Own (do_while p d c)) ls b j (do_code d c ts j).next (core.loop_of (Some p) (do_code d c ts j).statements) g.onward (λ y i. i) (g.distinct, g.proper)
    good (try_catch p e x d t) = λ around ts ls b k j h em. tries-good (Own e) (Own d) (Own (try_catch p e x d t)) ls b p x (into is_mutable sure ts k j e) (λ j. into is_mutable sure ts k j d) j (good e around ts ls b k j h.2 em) h.1 (good d around ts ls b k (into is_mutable sure ts k j e).next h.3 em)
    good (try_finally p e d) = λ around ts ls b k j h em. finishes-good (Own e) (Own d) (Own (try_finally p e d)) ls b p (into is_mutable sure ts k j e) (λ j. finalizer_code (target_of ts) d j (λ i. into is_mutable sure ts discard i d)) j (good e around ts ls b k j h.0 em) (finalizer-good (Own d) ls b (target_of ts) d (into is_mutable sure ts k j e).next (λ i. into is_mutable sure ts discard i d) (λ i. good d around ts ls b discard i h.1 em))
    good (match_on p e cs d t) = λ around ts ls b k j h em. act_good e (good e) (Own (match_on p e cs d t)) (λ x o. inl o) around ts ls b j (λ es j. switch_code p (first_of es) (cases is_mutable sure ts k j cs) (λ j. into is_mutable sure ts k j d)) h.0 em (λ es i. switch-good no_name (Own d) ls b p (first_of es) (cases is_mutable sure ts k i cs) (λ j. into is_mutable sure ts k j d) i (good_cases cs around ts ls k i h.1 em) (good d around ts ls true k (cases is_mutable sure ts k i cs).next h.2 em))
    good (apply_static p c n m es t) = λ around ts ls b k j h em. good-use (OwnAll es) no_name (OwnAll es) ls b (operands is_mutable sure ts es) (λ xs. finish k p t false (core.static_call (member c n m) (expressions_of (coerced_arguments m.params (types_of es) xs)))) j (good_operands es around ts ls b h em j) (λ xs i. finish-good no_name ls b k p t false (core.static_call (member c n m) (expressions_of (coerced_arguments m.params (types_of es) xs))) i) (nothing_apart (OwnAll es)) (all_part (OwnAll es)) (no_part (OwnAll es))
    good (apply p e m es t) = λ around ts ls b k j h em. good-use (Own (apply p e m es t)) no_name (Own (apply p e m es t)) ls b (receiver_in e ts ∷ operands is_mutable sure ts es) (λ xs. finish k p t false (core.receiver_call (callee_of (type_of_term e) m) (coerced_receiver (type_of_term e) (first_of xs)) (expressions_of (coerced_arguments m.params (types_of es) (rest_of xs))))) j (receiver_first e (good e) (OwnAll es) (Own (apply p e m es t)) (operands is_mutable sure ts es) h.2 (λ x o. inl o) (λ x o. inr o) around ts ls b h.0 em (good_operands es around ts ls b h.1 em) j) (λ xs i. finish-good no_name ls b k p t false (core.receiver_call (callee_of (type_of_term e) m) (coerced_receiver (type_of_term e) (first_of xs)) (expressions_of (coerced_arguments m.params (types_of es) (rest_of xs)))) i) (nothing_apart (Own (apply p e m es t))) (all_part (Own (apply p e m es t))) (no_part (Own (apply p e m es t)))
    good (apply_statically p e c n m es t) = λ around ts ls b k j h em. good-use (Own (apply_statically p e c n m es t)) no_name (Own (apply_statically p e c n m es t)) ls b (receiver_in e ts ∷ operands is_mutable sure ts es) (λ xs. finish k p t false (core.receiver_call (callees.Member (member c n m)) (coerced_receiver (type_of_term e) (first_of xs)) (expressions_of (coerced_arguments m.params (types_of es) (rest_of xs))))) j (receiver_first e (good e) (OwnAll es) (Own (apply_statically p e c n m es t)) (operands is_mutable sure ts es) h.2 (λ x o. inl o) (λ x o. inr o) around ts ls b h.0 em (good_operands es around ts ls b h.1 em) j) (λ xs i. finish-good no_name ls b k p t false (core.receiver_call (callees.Member (member c n m)) (coerced_receiver (type_of_term e) (first_of xs)) (expressions_of (coerced_arguments m.params (types_of es) (rest_of xs)))) i) (nothing_apart (Own (apply_statically p e c n m es t))) (all_part (Own (apply_statically p e c n m es t))) (no_part (Own (apply_statically p e c n m es t)))
    good (new_object p c m es) = λ around ts ls b k j h em. good-use (OwnAll es) no_name (OwnAll es) ls b (operands is_mutable sure ts es) (λ xs. finish k p (class_type c) false (core.made_of (member c Constructor m) (expressions_of (coerced_arguments m.params (types_of es) xs)))) j (good_operands es around ts ls b h em j) (λ xs i. finish-good no_name ls b k p (class_type c) false (core.made_of (member c Constructor m) (expressions_of (coerced_arguments m.params (types_of es) xs))) i) (nothing_apart (OwnAll es)) (all_part (OwnAll es)) (no_part (OwnAll es))
    good (select p e c f t) = λ around ts ls b k j h em. good-use (Own e) no_name (Own e) ls b (receiver_in e ts ∷ []) (λ es. finish k p t false (core.field_of (first_of es) c f)) j (receiver_first e (good e) no_name (Own e) [] (nothing_apart (Own e)) (all_part (Own e)) (no_part (Own e)) around ts ls b h em (λ j. good-none no_name ls b j) j) (λ es i. finish-good no_name ls b k p t false (core.field_of (first_of es) c f) i) (nothing_apart (Own e)) (all_part (Own e)) (no_part (Own e))
    good (select_static p c f t) = λ around ts ls b k j h em. finish-good no_name ls b k p t false (core.static_of c f) j
    good (load_module p c) = λ around ts ls b k j h em. finish-good no_name ls b k p (class_type c) false (core.module_of c) j
    good (store_module p c e) = λ around ts ls b k j h em. act_good e (good e) (Own e) (all_part (Own e)) around ts ls b j (λ es. one (core.store_module_of (Some p) c (coerced (class_type c) (type_of_term e) (first_of es)))) h em (λ es i. good-one no_name ls b i i (core.store_module_of (Some p) c (coerced (class_type c) (type_of_term e) (first_of es))) (omega arith) (λ y d. d) tt)
    good (this_ref p t) = λ around ts ls b k j h em. finish-good no_name ls b k p t true (core.variable_use core.receiver) j
    good (unary_op p o e) = λ around ts ls b k j h em. act_good e (good e) (Own e) (all_part (Own e)) around ts ls b j (λ es. finish k p (unary_result o) false (core.unary_of o (first_of es))) h em (λ es i. finish-good no_name ls b k p (unary_result o) false (core.unary_of o (first_of es)) i)
    good (new_array p r e) = λ around ts ls b k j h em. act_good e (good e) (Own e) (all_part (Own e)) around ts ls b j (λ es. finish k p (Array r) false (core.new_array_of r (first_of es))) h em (λ es i. finish-good no_name ls b k p (Array r) false (core.new_array_of r (first_of es)) i)
    good (array_value p r es) = λ around ts ls b k j h em. good-use (OwnAll es) no_name (OwnAll es) ls b (operands is_mutable sure ts es) (λ xs. finish k p (Array r) false (core.array_of r (expressions_of (coerced_items (element_type r) (types_of es) xs)))) j (good_operands es around ts ls b h em j) (λ xs i. finish-good no_name ls b k p (Array r) false (core.array_of r (expressions_of (coerced_items (element_type r) (types_of es) xs))) i) (nothing_apart (OwnAll es)) (all_part (OwnAll es)) (no_part (OwnAll es))
    good (array_length p e) = λ around ts ls b k j h em. good-use (Own e) no_name (Own e) ls b (receiver_in e ts ∷ []) (λ es. finish k p Int false (core.length_of (first_of es))) j (receiver_first e (good e) no_name (Own e) [] (nothing_apart (Own e)) (all_part (Own e)) (no_part (Own e)) around ts ls b h em (λ j. good-none no_name ls b j) j) (λ es i. finish-good no_name ls b k p Int false (core.length_of (first_of es)) i) (nothing_apart (Own e)) (all_part (Own e)) (no_part (Own e))
    good (array_select p e i t) = λ around ts ls b k j h em. good-use (Own (array_select p e i t)) no_name (Own (array_select p e i t)) ls b (receiver_in e ts ∷ operand is_mutable sure i (λ k j. into is_mutable sure ts k j i) ∷ []) (λ es. finish k p t false (core.element_of (first_of es) (second_of es))) j (receiver_first e (good e) (Own i) (Own (array_select p e i t)) (operand is_mutable sure i (λ k j. into is_mutable sure ts k j i) ∷ []) h.2 (λ x o. inl o) (λ x o. inr o) around ts ls b h.0 em (each_one i (good i) around ts ls b h.1 em) j) (λ es n. finish-good no_name ls b k p t false (core.element_of (first_of es) (second_of es)) n) (nothing_apart (Own (array_select p e i t))) (all_part (Own (array_select p e i t))) (no_part (Own (array_select p e i t)))
    good (is_instance_of p e t) = λ around ts ls b k j h em. act_good e (good e) (Own e) (all_part (Own e)) around ts ls b j (λ es. finish k p Boolean false (core.test_of t (coerced Any (type_of_term e) (first_of es)))) h em (λ es i. finish-good no_name ls b k p Boolean false (core.test_of t (coerced Any (type_of_term e) (first_of es))) i)
    good (as_instance_of p e t) = λ around ts ls b k j h em. act_good e (good e) (Own e) (all_part (Own e)) around ts ls b j (λ es. finish k p t false (core.cast_of t (coerced Any (type_of_term e) (first_of es)))) h em (λ es i. finish-good no_name ls b k p t false (core.cast_of t (coerced Any (type_of_term e) (first_of es))) i)
    good (binary_op p o e d) = λ around ts ls b k j h em. good-use (Own (binary_op p o e d)) no_name (Own (binary_op p o e d)) ls b (operand is_mutable sure e (λ k j. into is_mutable sure ts k j e) ∷ operand is_mutable sure d (λ k j. into is_mutable sure ts k j d) ∷ []) (λ es. finish k p (binary_result o) false (core.binary_of o (operand_of o (type_of_term e) (first_of es)) (operand_of o (type_of_term d) (second_of es)))) j (operand-good (Own e) (Own d) (Own (binary_op p o e d)) ls b (operand is_mutable sure e (λ k j. into is_mutable sure ts k j e)) (operand is_mutable sure d (λ k j. into is_mutable sure ts k j d) ∷ []) (λ k j. good e around ts ls b k j h.0 em) (each_one d (good d) around ts ls b h.1 em) h.2 (λ x o. inl o) (λ x o. inr o) j) (λ es i. finish-good no_name ls b k p (binary_result o) false (core.binary_of o (operand_of o (type_of_term e) (first_of es)) (operand_of o (type_of_term d) (second_of es))) i) (nothing_apart (Own (binary_op p o e d))) (all_part (Own (binary_op p o e d))) (no_part (Own (binary_op p o e d)))
    good (undefined_literal p) = λ around ts ls b k j h em. finish-good no_name ls b k p Undefined true core.undefined_value j
    good (null_literal p) = λ around ts ls b k j h em. finish-good no_name ls b k p Null true core.null_value j
    good (boolean_literal p v) = λ around ts ls b k j h em. finish-good no_name ls b k p Boolean true (core.boolean_value v) j
    good (char_literal p n) = λ around ts ls b k j h em. finish-good no_name ls b k p Char true (core.number_value (pos n)) j
    good (long_literal p n) = λ around ts ls b k j h em. finish-good no_name ls b k p Long true (core.long_value n) j
    good (byte_literal p n) = λ around ts ls b k j h em. finish-good no_name ls b k p Byte true (core.number_value n) j
    good (short_literal p n) = λ around ts ls b k j h em. finish-good no_name ls b k p Short true (core.number_value n) j
    good (int_literal p n) = λ around ts ls b k j h em. finish-good no_name ls b k p Int true (core.number_value n) j
    good (string_literal p us) = λ around ts ls b k j h em. finish-good no_name ls b k p String true (core.text_value us) j
    good (var_ref p x t) = λ around ts ls b k j h em. finish-good no_name ls b k p t true (core.variable_use (core.named x)) j
    good (log_line p e) = λ around ts ls b k j h em. act_good e (good e) (Own e) (all_part (Own e)) around ts ls b j (λ es. one (core.log_of (Some p) (first_of es))) h em (λ es i. good-one no_name ls b i i (core.log_of (Some p) (first_of es)) (omega arith) (λ y d. d) tt)
    good t = λ around ts ls b k j h em. good-none (Own t) ls b j

    good_block : (es : Terms) (around : List (List ℕ)) (ts : Targets) (ls : List (List ℕ)) (b : Bool) (k : Destination) (j : ℕ) → OnceAll around es → Emitted around ts ls → Good (OwnAll es) ls b j (block is_mutable sure ts k j es)
    good_block no_terms around ts ls b k j h em = good-none (OwnAll no_terms) ls b j
    good_block (more_terms t no_terms) around ts ls b k j h em = good-widen (Own t) (OwnAll (more_terms t no_terms)) ls b j (into is_mutable sure ts k j t) (λ x o. inl o) (good t around ts ls b k j h.0 em)
    good_block (more_terms t (more_terms u us)) around ts ls b k j h em = good-joined (Own t) (OwnAll (more_terms u us)) (OwnAll (more_terms t (more_terms u us))) ls b j (into is_mutable sure ts discard j t) (block is_mutable sure ts k (into is_mutable sure ts discard j t).next (more_terms u us)) (good t around ts ls b discard j h.0 em) (good_block (more_terms u us) around ts ls b k (into is_mutable sure ts discard j t).next h.1 em) h.2 (λ x o. inl o) (λ x o. inr o)

    good_operands : (es : Terms) (around : List (List ℕ)) (ts : Targets) (ls : List (List ℕ)) (b : Bool) → OnceAll around es → Emitted around ts ls → (j : ℕ) → Good (OwnAll es) ls b j (spilled (spill (operands is_mutable sure ts es) j))
    good_operands no_terms around ts ls b h em = λ j. good-none (OwnAll no_terms) ls b j
    good_operands (more_terms t es) around ts ls b h em = operand-good (Own t) (OwnAll es) (OwnAll (more_terms t es)) ls b (operand is_mutable sure t (λ k j. into is_mutable sure ts k j t)) (operands is_mutable sure ts es) (λ k j. good t around ts ls b k j h.0 em) (good_operands es around ts ls b h.1 em) h.2 (λ x o. inl o) (λ x o. inr o)

    pub good_cases : (cs : Cases) (around : List (List ℕ)) (ts : Targets) (ls : List (List ℕ)) (k : Destination) (j : ℕ) → OnceCases around cs → Emitted around ts ls → GoodCases ls j (cases is_mutable sure ts k j cs)
    good_cases no_cases around ts ls k j h em = record { onward = omega arith; proper = tt }
    good_cases (more_cases [] t cs) around ts ls k j h em = good_cases cs around ts ls k j h.1 em
    good_cases (more_cases (n ∷ ns) t cs) around ts ls k j h em = case-good-in (Own t) ls j (n ∷ ns) (into is_mutable sure ts k j t) (λ j. cases is_mutable sure ts k j cs) (good t around ts ls true k j h.0 em) (good_cases cs around ts ls k (into is_mutable sure ts k j t).next h.1 em)
