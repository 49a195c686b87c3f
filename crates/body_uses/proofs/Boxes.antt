-- Code that makes an object for a char uses the class of such objects.
use Rattle.sj_core.specs.Lookup.{Lookup}
use Rattle.sj_core.specs.declared.callees.Callee.TheVariants as callees
use Rattle.std.proofs.Common.{◌≡◌, ℕ, Bool, true, false, List, [], ◌∷◌, ◌++◌, ◌||◌, inl, inr, Some, None, refl, sym, subst, length, arith, codes}
use Rattle.std.specs.Prelude.{if◌then◌else◌, not, ◌&&◌, pos}
use Rattle.std.specs.List.{All}
use Rattle.std.proofs.lemmas.Bool.{and_parts}
use Rattle.std.proofs.lemmas.List.Elements.{All-head, All-tail}
use Rattle.object_folders.proofs.Targets.{target_goal}
use Rattle.object_folders.specs.Boxes.{Goal, goal_of, goals_of, is_boxed, any_is_boxed, any_item_boxed, operands_are_boxed, is_boxed_at, boxes_as_text, any_boxes_as_text, boxes, last_boxes, operand_boxes, operands_box, cases_box}
use Rattle.js_tree.specs.declared.items.Binding.{Binding}
use Rattle.sj_core.specs.Terms as core
use Rattle.sj_core.specs.Terms.{Expression, boxed_char, checked_value, followed}
use Rattle.sj_core.specs.Views.{expressions_of}
use Rattle.sj_desugar_spec.specs.Coercions.{is_char, coerced, coerced_arguments, coerced_items, coerced_receiver}
use Rattle.sj_desugar_spec.specs.Desugar.{operand, receiver, received, received_text, into, block, operands, cases, finish, target_of, Targets, expression_of, all_expressions, wrapped, break_unless, first_of, second_of, third_of, rest_of, member, types_of, callee_of}
use Rattle.sj_desugar_spec.specs.Finalizers.{kept, keep_all, finalizer_code}
use Rattle.sj_desugar_spec.specs.Plain.{is_no_type, is_plain, are_plain}
use Rattle.sj_desugar_spec.specs.Spill.{Destination, discard, to_variable, to_result, Code, one, put_first, Operand, Spilled, spill, then_use}
use Rattle.sj_desugar_spec.specs.Texts.{operand_of}
use Rattle.sj_emit_expr_spec.specs.Templates.{check_name, element_setter, is_nonzero_literal, called_member}
use Rattle.sj_emit_expr_spec.specs.Uses.{object_binding, function_binding, class_use, setter_use, store_use, helper_of, test_uses, cast_uses, base_uses, type_uses, uses_in, uses_in_all, uses_of, uses_of_all, uses_of_cases, call_uses}
use Rattle.sj_names.proofs.Same.{impossible}
use Rattle.sj_names.specs.declared.method_names.Namespace.TheVariants.{Constructor}
use Rattle.sj_names.specs.declared.references.ArrayRef.{ArrayRef}
use Rattle.sj_names.specs.declared.references.TypeRef.{TypeRef}
use Rattle.sj_trees.specs.Term.{Term, Terms, no_terms, more_terms, Cases, no_cases, more_cases, var_def, block_of, labeled, assign, return_to, if_then, while_loop, do_while, try_catch, try_finally, match_on, throw, new_object, new_array, array_value, array_length, array_select, load_module, store_module, select, select_static, apply_statically, apply_static, unary_op, binary_op, is_instance_of, as_instance_of, char_literal, var_ref, this_ref, log_line, apply}
use Rattle.sj_trees.specs.TypeOf.{type_of_term, unary_result, binary_result}
use Rattle.sj_trees.specs.Types.{class_type, reference_type, element_type}
use Rattle.sj_trees.specs.declared.operators.BinaryOp.{BinaryOp}
use Rattle.sj_trees.specs.declared.operators.BinaryOp.TheVariants.{StrictEqual, StrictNotEqual}
use Rattle.sj_trees.specs.declared.positions.Position.{Position}
use Rattle.sj_trees.specs.declared.types.IrType.{IrType}
use Rattle.sj_trees.specs.declared.types.IrType.TheVariants.{Any, Boolean, Char, Int, Array}
use Rattle.sure_receivers.specs.Sure.{is_sure}
use Rattle.body_uses.proofs.Uses.{fixed_plain, spill_count, front, back, In, InAll, Within, only, followed_parts, uncoerced, arguments_in, items_in, operand_in, Written, as_text, as_code, AllWritten, spill_in, one_in, two_in, three_in, first_and_rest, finished, labeled_in, leaving_in, finalizer_in, break_in}

either : {A : Type 0} (a b : Bool) → (a || b) ≡ true → (a ≡ true → A) → (b ≡ true → A) → A
either true b h f g = f refl
either false b h f g = g h

-- each argument has its expression
abbrev AsMany : Terms → List Expression → Type 0
AsMany no_terms [] = Unit {0}
AsMany (more_terms t ts) (e ∷ es) = AsMany ts es
AsMany _ _ = ⊥

all_expressed : (sure : List ℕ → Bool) (ts : Terms) → AsMany ts (all_expressions sure ts)
all_expressed sure no_terms = tt
all_expressed sure (more_terms t ts) = all_expressed sure ts

module _ (U : Binding → Type 0) (runs : Lookup) where
  -- the class of objects that hold chars is used
  abbrev Boxed : Type 0
  Boxed = U (object_binding (codes "$C"))

  coerced_box : (expected own : IrType) (e : Expression) → In U runs (coerced expected own e) → (is_char own && not (is_char expected)) ≡ true → Boxed
  coerced_box expected own e h k = go (is_char own && not (is_char expected)) h k
    where
      go : (b : Bool) → In U runs (if b then boxed_char e else e) → b ≡ true → Boxed
      go true h k = All-head U (object_binding (codes "$C")) (uses_in runs e) h
      go false h k = impossible k

  arguments_box : (rs : List TypeRef) (ts : Terms) (es : List Expression) → AsMany ts es → All U (uses_in_all runs (expressions_of (coerced_arguments rs (types_of ts) es))) → any_is_boxed rs ts ≡ true → Boxed
  arguments_box [] no_terms es m h k = impossible k
  arguments_box [] (more_terms t ts) es m h k = impossible k
  arguments_box (r ∷ rs) no_terms es m h k = impossible k
  arguments_box (r ∷ rs) (more_terms t ts) [] m h k = absurd m
  arguments_box (r ∷ rs) (more_terms t ts) (e ∷ es) m h k =
      let own = coerced (reference_type r) (type_of_term t) e in
      let rest = uses_in_all runs (expressions_of (coerced_arguments rs (types_of ts) es)) in
      either (is_boxed (reference_type r) t) (any_is_boxed rs ts) k (coerced_box (reference_type r) (type_of_term t) e (front U runs (uses_in runs own) rest h)) (arguments_box rs ts es m (back U runs (uses_in runs own) rest h))

  items_box : (t : IrType) (ts : Terms) (es : List Expression) → AsMany ts es → All U (uses_in_all runs (expressions_of (coerced_items t (types_of ts) es))) → any_item_boxed t ts ≡ true → Boxed
  items_box t no_terms es m h k = impossible k
  items_box t (more_terms u us) [] m h k = absurd m
  items_box t (more_terms u us) (e ∷ es) m h k =
      let own = coerced t (type_of_term u) e in
      let rest = uses_in_all runs (expressions_of (coerced_items t (types_of us) es)) in
      either (is_boxed t u) (any_item_boxed t us) k (coerced_box t (type_of_term u) e (front U runs (uses_in runs own) rest h)) (items_box t us es m (back U runs (uses_in runs own) rest h))

  -- behind the helper that makes arrays and what names their base
  array_inside : (x : List ℕ) (r : ArrayRef) (inside : List Binding) → All U (object_binding x ∷ base_uses r.base ++ inside) → All U inside
  array_inside x r inside u = back U runs (base_uses r.base) inside (All-tail U (object_binding x) (base_uses r.base ++ inside) u)

  -- between what a test or a cast calls and what names the base of its type
  type_inside : (t : IrType) (names inside : List Binding) → All U (names ++ inside ++ type_uses t) → All U inside
  type_inside t names inside u = back U runs names inside (front U runs (names ++ inside) (type_uses t) u)

  -- operands of identity, as values of any type
  same_box : (o : BinaryOp) (e d : Term) (x y : Expression) → In U runs (operand_of o (type_of_term e) x) → In U runs (operand_of o (type_of_term d) y) → operands_are_boxed o e d ≡ true → Boxed
  same_box StrictEqual e d x y h g k = either (is_boxed Any e) (is_boxed Any d) k (coerced_box Any (type_of_term e) x h) (coerced_box Any (type_of_term d) y g)
  same_box StrictNotEqual e d x y h g k = either (is_boxed Any e) (is_boxed Any d) k (coerced_box Any (type_of_term e) x h) (coerced_box Any (type_of_term d) y g)
  same_box _ e d x y h g k = impossible k

  finish_box : (k : Destination) (p : Position) (t : IrType) (quiet : Bool) (e : Expression) (j : ℕ) → Within U runs (finish k p t quiet e j).statements → is_boxed_at (goal_of k) t ≡ true → Boxed
  finish_box discard p t quiet e j h b = impossible b
  finish_box (to_variable x i) p Char quiet e j h b = coerced_box i Char e (only U runs (core.assign_to (Some p) x (coerced i Char e)) h) b
  finish_box (to_variable x i) p t quiet e j h b = impossible b
  finish_box (to_result i) p Char quiet e j h b = coerced_box i Char e (only U runs (core.return_of (Some p) (coerced i Char e)) h) b
  finish_box (to_result i) p t quiet e j h b = impossible b

  module _ (sure : List ℕ → Bool) where
    received_in : (b : Bool) (e : Expression) → In U runs (received_text b e) → In U runs e
    received_in true e h = h
    received_in false e h = All-tail U (object_binding check_name) (uses_in runs e) h

    unreceived : (own : IrType) (e : Expression) → In U runs (coerced_receiver own e) → In U runs e
    unreceived own e h = uncoerced U runs (IrType.Class (codes "java.lang.Character")) own e h

    mutual
      text_box : (t : Term) → is_plain t ≡ true → In U runs (expression_of sure t) → boxes_as_text t ≡ true → Boxed
      text_box (if_then p c a b t) q h k =
          let q2 = and_parts ((not (is_no_type t) && is_plain c) && is_plain a) (is_plain b) q in
          let q1 = and_parts (not (is_no_type t) && is_plain c) (is_plain a) q2.0 in
          let q0 = and_parts (not (is_no_type t)) (is_plain c) q1.0 in
          let test = uses_in runs (expression_of sure c) in
          let left = coerced t (type_of_term a) (expression_of sure a) in
          let right = coerced t (type_of_term b) (expression_of sure b) in
          let h0 = front U runs (test ++ uses_in runs left) (uses_in runs right) h in
          let of_left = back U runs test (uses_in runs left) h0 in
          let of_right = back U runs (test ++ uses_in runs left) (uses_in runs right) h in
          either (boxes_as_text c) ((is_boxed t a || boxes_as_text a) || (is_boxed t b || boxes_as_text b)) k (text_box c q0.1 (front U runs test (uses_in runs left) h0)) (λ i. either (is_boxed t a || boxes_as_text a) (is_boxed t b || boxes_as_text b) i (λ i. either (is_boxed t a) (boxes_as_text a) i (coerced_box t (type_of_term a) (expression_of sure a) of_left) (text_box a q1.1 (uncoerced U runs t (type_of_term a) (expression_of sure a) of_left))) (λ i. either (is_boxed t b) (boxes_as_text b) i (coerced_box t (type_of_term b) (expression_of sure b) of_right) (text_box b q2.1 (uncoerced U runs t (type_of_term b) (expression_of sure b) of_right))))
      text_box (new_object p c m ts) q h k =
          let inside = uses_in_all runs (expressions_of (coerced_arguments m.params (types_of ts) (all_expressions sure ts))) in
          let passed = All-tail U (class_use c) inside (All-tail U (function_binding (member c Constructor m)) (class_use c ∷ inside) h) in
          either (any_is_boxed m.params ts) (any_boxes_as_text ts) k (arguments_box m.params ts (all_expressions sure ts) (all_expressed sure ts) passed) (texts_box ts q (arguments_in U runs m.params (types_of ts) (all_expressions sure ts) passed))
      text_box (select p e c f t) q h k = text_box e q (received_in (is_sure sure e) (expression_of sure e) h) k
      text_box (apply p e m ts t) q h k =
          let q0 = and_parts (is_plain e) (are_plain ts) q in
          let text = received_text (is_sure sure e) (expression_of sure e) in
          let target = coerced_receiver (type_of_term e) text in
          let inside = uses_in_all runs (expressions_of (coerced_arguments m.params (types_of ts) (all_expressions sure ts))) in
          let names = call_uses runs (callee_of (type_of_term e) m) in
          let own = back U runs names (uses_in runs target) (front U runs (names ++ uses_in runs target) inside h) in
          let passed = back U runs (names ++ uses_in runs target) inside h in
          either (is_boxed Any e || any_is_boxed m.params ts) (boxes_as_text e || any_boxes_as_text ts) k (λ i. either (is_boxed Any e) (any_is_boxed m.params ts) i (coerced_box (IrType.Class (codes "java.lang.Character")) (type_of_term e) text own) (arguments_box m.params ts (all_expressions sure ts) (all_expressed sure ts) passed)) (λ i. either (boxes_as_text e) (any_boxes_as_text ts) i (text_box e q0.0 (received_in (is_sure sure e) (expression_of sure e) (unreceived (type_of_term e) text own))) (texts_box ts q0.1 (arguments_in U runs m.params (types_of ts) (all_expressions sure ts) passed)))
      text_box (apply_statically p e c n m ts t) q h k =
          let q0 = and_parts (is_plain e) (are_plain ts) q in
          let text = received_text (is_sure sure e) (expression_of sure e) in
          let target = coerced_receiver (type_of_term e) text in
          let inside = uses_in_all runs (expressions_of (coerced_arguments m.params (types_of ts) (all_expressions sure ts))) in
          let behind = All-tail U (function_binding (called_member runs n (member c n m))) (uses_in runs target ++ inside) h in
          let own = front U runs (uses_in runs target) inside behind in
          let passed = back U runs (uses_in runs target) inside behind in
          either (is_boxed Any e || any_is_boxed m.params ts) (boxes_as_text e || any_boxes_as_text ts) k (λ i. either (is_boxed Any e) (any_is_boxed m.params ts) i (coerced_box (IrType.Class (codes "java.lang.Character")) (type_of_term e) text own) (arguments_box m.params ts (all_expressions sure ts) (all_expressed sure ts) passed)) (λ i. either (boxes_as_text e) (any_boxes_as_text ts) i (text_box e q0.0 (received_in (is_sure sure e) (expression_of sure e) (unreceived (type_of_term e) text own))) (texts_box ts q0.1 (arguments_in U runs m.params (types_of ts) (all_expressions sure ts) passed)))
      text_box (apply_static p c n m ts t) q h k =
          let inside = uses_in_all runs (expressions_of (coerced_arguments m.params (types_of ts) (all_expressions sure ts))) in
          let passed = All-tail U (function_binding (member c n m)) inside h in
          either (any_is_boxed m.params ts) (any_boxes_as_text ts) k (arguments_box m.params ts (all_expressions sure ts) (all_expressed sure ts) passed) (texts_box ts q (arguments_in U runs m.params (types_of ts) (all_expressions sure ts) passed))
      text_box (unary_op p o e) q h k = text_box e q h k
      text_box (binary_op p o e d) q h k =
          let q0 = and_parts (is_plain e) (is_plain d) q in
          let left = operand_of o (type_of_term e) (expression_of sure e) in
          let right = operand_of o (type_of_term d) (expression_of sure d) in
          let helper = helper_of (is_nonzero_literal right) o in
          let h0 = front U runs (helper ++ uses_in runs left) (uses_in runs right) h in
          let of_left = back U runs helper (uses_in runs left) h0 in
          let of_right = back U runs (helper ++ uses_in runs left) (uses_in runs right) h in
          either (operands_are_boxed o e d) (boxes_as_text e || boxes_as_text d) k (same_box o e d (expression_of sure e) (expression_of sure d) of_left of_right) (λ k. either (boxes_as_text e) (boxes_as_text d) k (text_box e q0.0 (operand_in U runs o (type_of_term e) (expression_of sure e) of_left)) (text_box d q0.1 (operand_in U runs o (type_of_term d) (expression_of sure d) of_right)))
      text_box (new_array p r e) q h k = text_box e q (array_inside (codes "$mk") r (uses_in runs (expression_of sure e)) h) k
      text_box (array_value p r ts) q h k =
          let inside = uses_in_all runs (expressions_of (coerced_items (element_type r) (types_of ts) (all_expressions sure ts))) in
          let given = array_inside (codes "$A") r inside h in
          either (any_item_boxed (element_type r) ts) (any_boxes_as_text ts) k (items_box (element_type r) ts (all_expressions sure ts) (all_expressed sure ts) given) (texts_box ts q (items_in U runs (element_type r) (types_of ts) (all_expressions sure ts) given))
      text_box (array_length p e) q h k = text_box e q (received_in (is_sure sure e) (expression_of sure e) h) k
      text_box (array_select p e i t) q h k =
          let q0 = and_parts (is_plain e) (is_plain i) q in
          let array = uses_in runs (received_text (is_sure sure e) (expression_of sure e)) in
          let index = uses_in runs (expression_of sure i) in
          let inside = All-tail U (object_binding (codes "$get")) (array ++ index) h in
          either (boxes_as_text e) (boxes_as_text i) k (text_box e q0.0 (received_in (is_sure sure e) (expression_of sure e) (front U runs array index inside))) (text_box i q0.1 (back U runs array index inside))
      text_box (is_instance_of p e t) q h k = let value = type_inside t (test_uses t) (uses_in runs (coerced Any (type_of_term e) (expression_of sure e))) h in either (is_boxed Any e) (boxes_as_text e) k (coerced_box Any (type_of_term e) (expression_of sure e) value) (text_box e q (uncoerced U runs Any (type_of_term e) (expression_of sure e) value))
      text_box (as_instance_of p e t) q h k = let value = type_inside t (cast_uses t) (uses_in runs (coerced Any (type_of_term e) (expression_of sure e))) h in either (is_boxed Any e) (boxes_as_text e) k (coerced_box Any (type_of_term e) (expression_of sure e) value) (text_box e q (uncoerced U runs Any (type_of_term e) (expression_of sure e) value))
      text_box _ q h k = impossible k

      texts_box : (ts : Terms) → are_plain ts ≡ true → InAll U runs (all_expressions sure ts) → any_boxes_as_text ts ≡ true → Boxed
      texts_box no_terms q h k = impossible k
      texts_box (more_terms t ts) q h k = let q0 = and_parts (is_plain t) (are_plain ts) q in either (boxes_as_text t) (any_boxes_as_text ts) k (text_box t q0.0 h.0) (texts_box ts q0.1 h.1)

    module _ (is_mutable : List ℕ → Bool) where
      abbrev TreeBoxes : Term → Type 0
      TreeBoxes t = (ts : Targets) (k : Destination) (j : ℕ) → Within U runs (into is_mutable sure ts k j t).statements → boxes (goals_of ts) (goal_of k) t ≡ true → Boxed

      abbrev operand_for : Targets → Term → Operand
      operand_for ts e = operand is_mutable sure e (λ k j. into is_mutable sure ts k j e)

      abbrev receiver_for : Targets → Term → Operand
      receiver_for ts e = receiver is_mutable sure e (λ k j. into is_mutable sure ts k j e)

      abbrev one_of : Targets → Term → List Operand
      one_of ts e = operand_for ts e ∷ []

      abbrev ByForm : Targets → Term → Bool → Type 0
      ByForm ts e plain = (if plain then boxes_as_text e else boxes (goals_of ts) (Goal.brought_to (type_of_term e)) e) ≡ true

      operand_box : (e : Term) → TreeBoxes e → (ts : Targets) → Written U runs (operand_for ts e) → operand_boxes (goals_of ts) e ≡ true → Boxed
      operand_box e tree ts (as_text (inl p) h) k = text_box e p h (subst (ByForm ts e) p k)
      operand_box e tree ts (as_text (inr f) h) k = let p = fixed_plain is_mutable e f in text_box e p h (subst (ByForm ts e) p k)
      operand_box e tree ts (as_code n x j h) k = tree ts (to_variable x (type_of_term e)) j h (subst (ByForm ts e) n k)

      -- one operand, whose expression is within where what is made of it is
      act : (e : Term) → TreeBoxes e → (ts : Targets) (j : ℕ) → Within U runs (spill (one_of ts e) j).statements → In U runs (first_of (spill (one_of ts e) j).expressions) → operand_boxes (goals_of ts) e ≡ true → Boxed
      act e tree ts j hs he k = operand_box e tree ts (spill_in U runs (one_of ts e) j hs (one_in U runs (spill (one_of ts e) j).expressions (spill_count (one_of ts e) j) he)).0 k

      receiver_box : (e : Term) → TreeBoxes e → (ts : Targets) → Written U runs (receiver_for ts e) → operand_boxes (goals_of ts) e ≡ true → Boxed
      receiver_box e tree ts w k = go (is_sure sure e) w
        where
          go : (b : Bool) → Written U runs (received b (operand_for ts e)) → Boxed
          go true w = operand_box e tree ts w k
          go false (as_text (inl p) h) = text_box e p (All-tail U (object_binding check_name) (uses_in runs (expression_of sure e)) h) (subst (ByForm ts e) p k)
          go false (as_text (inr x) h) = impossible x
          go false (as_code n x j h) =
              let s : Spilled = spill (one_of ts e) j in
              let text = first_of s.expressions in
              let parts = followed_parts U runs s.statements (finish (to_variable x (type_of_term e)) (operand_for ts e).at (type_of_term e) false (checked_value text) s.next).statements h in
              act e tree ts j parts.0 (All-tail U (object_binding check_name) (uses_in runs text) (finished U runs (to_variable x (type_of_term e)) (operand_for ts e).at (type_of_term e) (checked_value text) s.next parts.1)) k

      operands_expressed : (ts : Targets) (es : Terms) (xs : List Expression) → length xs ≡ length (operands is_mutable sure ts es) → AsMany es xs
      operands_expressed ts no_terms [] l = tt
      operands_expressed ts no_terms (x ∷ xs) l = absurd (omega (arith, l))
      operands_expressed ts (more_terms e es) [] l = absurd (omega (arith, l))
      operands_expressed ts (more_terms e es) (x ∷ xs) l = operands_expressed ts es xs (omega (arith, l))

      -- behind a receiver
      rest_expressed : (ts : Targets) (o : Operand) (es : Terms) (xs : List Expression) → length xs ≡ length (o ∷ operands is_mutable sure ts es) → AsMany es (rest_of xs)
      rest_expressed ts o es [] l = absurd (omega (arith, l))
      rest_expressed ts o es (x ∷ xs) l = operands_expressed ts es xs (omega (arith, l))

      defined_box : (p : Position) (x : List ℕ) (t : IrType) (e : Term) (ts : Targets) (j : ℕ) (b : Bool) → is_plain e ≡ b → TreeBoxes e → Within U runs (elim b as (λ b. Code) [ true ↦ one (core.define_of (Some p) (core.named x) (coerced t (type_of_term e) (expression_of sure e))) j | false ↦ put_first (core.declare_of (Some p) (core.named x)) (into is_mutable sure ts (to_variable (core.named x) t) j e) ]).statements → (if b then is_boxed t e || boxes_as_text e else boxes (goals_of ts) (Goal.brought_to t) e) ≡ true → Boxed
      defined_box p x t e ts j true f tree h k = let value = only U runs (core.define_of (Some p) (core.named x) (coerced t (type_of_term e) (expression_of sure e))) h in either (is_boxed t e) (boxes_as_text e) k (coerced_box t (type_of_term e) (expression_of sure e) value) (text_box e f (uncoerced U runs t (type_of_term e) (expression_of sure e) value))
      defined_box p x t e ts j false f tree h k = tree ts (to_variable (core.named x) t) j h k

      while_box : (p : Position) (c b : Term) (ts : Targets) (j : ℕ) (v : Bool) → is_plain c ≡ v → TreeBoxes c → TreeBoxes b → Within U runs (elim v as (λ v. Code) [ true ↦ wrapped (core.while_of (Some p) (expression_of sure c)) (into is_mutable sure ts discard j b) | false ↦ wrapped (core.while_of (Some p) (core.boolean_value true)) (then_use (spill (one_of ts c) j) (λ es j. put_first (break_unless (first_of es)) (into is_mutable sure ts discard j b))) ]).statements → (operand_boxes (goals_of ts) c || boxes (goals_of ts) Goal.given_up b) ≡ true → Boxed
      while_box p c b ts j true f test body h k =
          let test_uses = uses_in runs (expression_of sure c) in
          let body_uses = uses_of_all runs (into is_mutable sure ts discard j b).statements in
          let inside = only U runs (core.while_of (Some p) (expression_of sure c) (into is_mutable sure ts discard j b).statements) h in
          either (operand_boxes (goals_of ts) c) (boxes (goals_of ts) Goal.given_up b) k (λ i. text_box c f (front U runs test_uses body_uses inside) (subst (ByForm ts c) f i)) (body ts discard j (back U runs test_uses body_uses inside))
      while_box p c b ts j false f test body h k =
          let s : Spilled = spill (one_of ts c) j in
          let first = break_unless (first_of s.expressions) in
          let rest : Code = into is_mutable sure ts discard s.next b in
          let parts = followed_parts U runs s.statements (core.statement first rest.statements) (only U runs (core.while_of (Some p) (core.boolean_value true) (followed s.statements (core.statement first rest.statements))) h) in
          either (operand_boxes (goals_of ts) c) (boxes (goals_of ts) Goal.given_up b) k (act c test ts j parts.0 (break_in U runs (first_of s.expressions) (front U runs (uses_of runs first) (uses_of_all runs rest.statements) parts.1))) (body ts discard s.next (back U runs (uses_of runs first) (uses_of_all runs rest.statements) parts.1))

      mutual
        tree : (t : Term) → TreeBoxes t
        tree (var_def p x t b e) ts k j h i = defined_box p x t e ts j (is_plain e) refl (tree e) h i
        tree (block_of p es) ts k j h i = block_box es ts k j h i
        tree (labeled p l t e) ts k j h i = let within : Targets = record { label = l; goes_to = k } ∷ ts in tree e within k j (labeled_in U runs k p l (into is_mutable sure within k j e) h) i
        tree (assign p (var_ref v x t) e) ts k j h i =
            let s : Spilled = spill (one_of ts e) j in
            let last = core.assign_to (Some p) (core.named x) (coerced t (type_of_term e) (first_of s.expressions)) in
            let parts = followed_parts U runs s.statements (core.statement last core.no_statements) h in
            let value = only U runs last parts.1 in
            either (is_boxed t e) (operand_boxes (goals_of ts) e) i (coerced_box t (type_of_term e) (first_of s.expressions) value) (act e (tree e) ts j parts.0 (uncoerced U runs t (type_of_term e) (first_of s.expressions) value))
        tree (assign p (select v d c f t) e) ts k j h i =
            let os : List Operand = receiver_for ts d ∷ one_of ts e in
            let s : Spilled = spill os j in
            let value = coerced t (type_of_term e) (second_of s.expressions) in
            let last = core.assign_field (Some p) (first_of s.expressions) c f value in
            let parts = followed_parts U runs s.statements (core.statement last core.no_statements) h in
            let inside = only U runs last parts.1 in
            let of_value = back U runs (uses_in runs (first_of s.expressions)) (uses_in runs value) inside in
            let written = spill_in U runs os j parts.0 (two_in U runs s.expressions (spill_count os j) (front U runs (uses_in runs (first_of s.expressions)) (uses_in runs value) inside) (uncoerced U runs t (type_of_term e) (second_of s.expressions) of_value)) in
            either (is_boxed t e) (operand_boxes (goals_of ts) d || operand_boxes (goals_of ts) e) i (coerced_box t (type_of_term e) (second_of s.expressions) of_value) (λ i. either (operand_boxes (goals_of ts) d) (operand_boxes (goals_of ts) e) i (receiver_box d (tree d) ts written.0) (operand_box e (tree e) ts written.1.0))
        tree (assign p (array_select v d x t) e) ts k j h i =
            let os : List Operand = receiver_for ts d ∷ operand_for ts x ∷ one_of ts e in
            let s : Spilled = spill os j in
            let array = uses_in runs (first_of s.expressions) in
            let index = uses_in runs (second_of s.expressions) in
            let value = coerced t (type_of_term e) (third_of s.expressions) in
            let last = core.assign_element (Some p) t (first_of s.expressions) (second_of s.expressions) value in
            let parts = followed_parts U runs s.statements (core.statement last core.no_statements) h in
            let inside = All-tail U (object_binding (element_setter t)) (array ++ index ++ uses_in runs value) (only U runs last parts.1) in
            let head = front U runs (array ++ index) (uses_in runs value) inside in
            let of_value = back U runs (array ++ index) (uses_in runs value) inside in
            let written = spill_in U runs os j parts.0 (three_in U runs s.expressions (spill_count os j) (front U runs array index head) (back U runs array index head) (uncoerced U runs t (type_of_term e) (third_of s.expressions) of_value)) in
            either (is_boxed t e) (operand_boxes (goals_of ts) d || (operand_boxes (goals_of ts) x || operand_boxes (goals_of ts) e)) i (coerced_box t (type_of_term e) (third_of s.expressions) of_value) (λ i. either (operand_boxes (goals_of ts) d) (operand_boxes (goals_of ts) x || operand_boxes (goals_of ts) e) i (receiver_box d (tree d) ts written.0) (λ i. either (operand_boxes (goals_of ts) x) (operand_boxes (goals_of ts) e) i (operand_box x (tree x) ts written.1.0) (operand_box e (tree e) ts written.1.1.0)))
        tree (assign p (select_static v c f t) e) ts k j h i =
            let s : Spilled = spill (one_of ts e) j in
            let value = coerced t (type_of_term e) (first_of s.expressions) in
            let last = core.assign_static (Some p) c f value in
            let parts = followed_parts U runs s.statements (core.statement last core.no_statements) h in
            let of_value = All-tail U (setter_use c f) (uses_in runs value) (only U runs last parts.1) in
            either (is_boxed t e) (operand_boxes (goals_of ts) e) i (coerced_box t (type_of_term e) (first_of s.expressions) of_value) (act e (tree e) ts j parts.0 (uncoerced U runs t (type_of_term e) (first_of s.expressions) of_value))
        tree (return_to p e l) ts k j h i = tree e ts (target_of ts l) j (leaving_in U runs (target_of ts l) p l (into is_mutable sure ts (target_of ts l) j e) h) (subst (λ (g : Goal). boxes (goals_of ts) g e ≡ true) (sym (target_goal ts l)) i)
        tree (if_then p c a b t) ts k j h i =
            let s : Spilled = spill (one_of ts c) j in
            let one : Code = into is_mutable sure ts k s.next a in
            let two : Code = into is_mutable sure ts k one.next b in
            let choice = core.if_of (Some p) (first_of s.expressions) one.statements two.statements in
            let parts = followed_parts U runs s.statements (core.statement choice core.no_statements) h in
            let inside = only U runs choice parts.1 in
            let head = front U runs (uses_in runs (first_of s.expressions) ++ uses_of_all runs one.statements) (uses_of_all runs two.statements) inside in
            either (operand_boxes (goals_of ts) c) (boxes (goals_of ts) (goal_of k) a || boxes (goals_of ts) (goal_of k) b) i (act c (tree c) ts j parts.0 (front U runs (uses_in runs (first_of s.expressions)) (uses_of_all runs one.statements) head)) (λ i. either (boxes (goals_of ts) (goal_of k) a) (boxes (goals_of ts) (goal_of k) b) i (tree a ts k s.next (back U runs (uses_in runs (first_of s.expressions)) (uses_of_all runs one.statements) head)) (tree b ts k one.next (back U runs (uses_in runs (first_of s.expressions) ++ uses_of_all runs one.statements) (uses_of_all runs two.statements) inside)))
        tree (while_loop p c b) ts k j h i = while_box p c b ts j (is_plain c) refl (tree c) (tree b) h i
        tree (do_while p b c) ts k j h i =
            let body : Code = into is_mutable sure ts discard j b in
            let s : Spilled = spill (one_of ts c) body.next in
            let test = break_unless (first_of s.expressions) in
            let parts = followed_parts U runs body.statements (followed s.statements (core.statement test core.no_statements)) (only U runs (core.loop_of (Some p) (followed body.statements (followed s.statements (core.statement test core.no_statements)))) h) in
            let last = followed_parts U runs s.statements (core.statement test core.no_statements) parts.1 in
            either (boxes (goals_of ts) Goal.given_up b) (operand_boxes (goals_of ts) c) i (tree b ts discard j parts.0) (act c (tree c) ts body.next last.0 (break_in U runs (first_of s.expressions) (only U runs test last.1)))
        tree (try_catch p e x d t) ts k j h i =
            let block : Code = into is_mutable sure ts k j e in
            let handler : Code = into is_mutable sure ts k block.next d in
            let inside = only U runs (core.try_of (Some p) block.statements (core.named x) handler.statements) h in
            either (boxes (goals_of ts) (goal_of k) e) (boxes (goals_of ts) (goal_of k) d) i (tree e ts k j (front U runs (uses_of_all runs block.statements) (uses_of_all runs handler.statements) inside)) (tree d ts k block.next (back U runs (uses_of_all runs block.statements) (uses_of_all runs handler.statements) inside))
        tree (try_finally p e d) ts k j h i =
            let block : Code = into is_mutable sure ts k j e in
            let finalizer : Code = finalizer_code (target_of ts) d block.next (λ i. into is_mutable sure ts discard i d) in
            let inside = only U runs (core.finally_of (Some p) block.statements finalizer.statements) h in
            either (boxes (goals_of ts) (goal_of k) e) (boxes (goals_of ts) Goal.given_up d) i (tree e ts k j (front U runs (uses_of_all runs block.statements) (uses_of_all runs finalizer.statements) inside)) (tree d ts discard (keep_all (kept (target_of ts) d) block.next).next (finalizer_in U runs (target_of ts) d block.next (λ i. into is_mutable sure ts discard i d) (back U runs (uses_of_all runs block.statements) (uses_of_all runs finalizer.statements) inside)))
        tree (throw p e) ts k j h i =
            let s : Spilled = spill (one_of ts e) j in
            let last = core.throw_of (Some p) (coerced Any (type_of_term e) (first_of s.expressions)) in
            let parts = followed_parts U runs s.statements (core.statement last core.no_statements) h in
            let value = only U runs last parts.1 in
            either (is_boxed Any e) (operand_boxes (goals_of ts) e) i (coerced_box Any (type_of_term e) (first_of s.expressions) value) (act e (tree e) ts j parts.0 (uncoerced U runs Any (type_of_term e) (first_of s.expressions) value))
        tree (match_on p e cs d t) ts k j h i =
            let s : Spilled = spill (one_of ts e) j in
            let bs = cases is_mutable sure ts k s.next cs in
            let rest : Code = into is_mutable sure ts k bs.next d in
            let switch = core.switch_of (Some p) (first_of s.expressions) bs.cases rest.statements in
            let parts = followed_parts U runs s.statements (core.statement switch core.no_statements) h in
            let inside = only U runs switch parts.1 in
            let head = front U runs (uses_in runs (first_of s.expressions) ++ uses_of_cases runs bs.cases) (uses_of_all runs rest.statements) inside in
            either (operand_boxes (goals_of ts) e) (cases_box (goals_of ts) (goal_of k) cs || boxes (goals_of ts) (goal_of k) d) i (act e (tree e) ts j parts.0 (front U runs (uses_in runs (first_of s.expressions)) (uses_of_cases runs bs.cases) head)) (λ i. either (cases_box (goals_of ts) (goal_of k) cs) (boxes (goals_of ts) (goal_of k) d) i (of_cases cs ts k s.next (back U runs (uses_in runs (first_of s.expressions)) (uses_of_cases runs bs.cases) head)) (tree d ts k bs.next (back U runs (uses_in runs (first_of s.expressions) ++ uses_of_cases runs bs.cases) (uses_of_all runs rest.statements) inside)))
        tree (apply_static p c n m es t) ts k j h i =
            let s : Spilled = spill (operands is_mutable sure ts es) j in
            let arguments = expressions_of (coerced_arguments m.params (types_of es) s.expressions) in
            let call = core.static_call (member c n m) arguments in
            let parts = followed_parts U runs s.statements (finish k p t false call s.next).statements h in
            let passed = All-tail U (function_binding (member c n m)) (uses_in_all runs arguments) (finished U runs k p t call s.next parts.1) in
            either (is_boxed_at (goal_of k) t) (any_is_boxed m.params es || operands_box (goals_of ts) es) i (finish_box k p t false call s.next parts.1) (λ i. either (any_is_boxed m.params es) (operands_box (goals_of ts) es) i (arguments_box m.params es s.expressions (operands_expressed ts es s.expressions (spill_count (operands is_mutable sure ts es) j)) passed) (of_operands es ts (spill_in U runs (operands is_mutable sure ts es) j parts.0 (arguments_in U runs m.params (types_of es) s.expressions passed))))
        tree (apply p e m es t) ts k j h i =
            let os : List Operand = receiver_for ts e ∷ operands is_mutable sure ts es in
            let s : Spilled = spill os j in
            let target = coerced_receiver (type_of_term e) (first_of s.expressions) in
            let arguments = expressions_of (coerced_arguments m.params (types_of es) (rest_of s.expressions)) in
            let call = core.receiver_call (callee_of (type_of_term e) m) target arguments in
            let parts = followed_parts U runs s.statements (finish k p t false call s.next).statements h in
            let names = call_uses runs (callee_of (type_of_term e) m) in
            let within = finished U runs k p t call s.next parts.1 in
            let of_target = back U runs names (uses_in runs target) (front U runs (names ++ uses_in runs target) (uses_in_all runs arguments) within) in
            let passed = back U runs (names ++ uses_in runs target) (uses_in_all runs arguments) within in
            let written = spill_in U runs os j parts.0 (first_and_rest U runs s.expressions (unreceived (type_of_term e) (first_of s.expressions) of_target) (arguments_in U runs m.params (types_of es) (rest_of s.expressions) passed)) in
            either (is_boxed_at (goal_of k) t) ((is_boxed Any e || any_is_boxed m.params es) || (operand_boxes (goals_of ts) e || operands_box (goals_of ts) es)) i (finish_box k p t false call s.next parts.1) (λ i. either (is_boxed Any e || any_is_boxed m.params es) (operand_boxes (goals_of ts) e || operands_box (goals_of ts) es) i (λ i. either (is_boxed Any e) (any_is_boxed m.params es) i (coerced_box (IrType.Class (codes "java.lang.Character")) (type_of_term e) (first_of s.expressions) of_target) (arguments_box m.params es (rest_of s.expressions) (rest_expressed ts (receiver_for ts e) es s.expressions (spill_count os j)) passed)) (λ i. either (operand_boxes (goals_of ts) e) (operands_box (goals_of ts) es) i (receiver_box e (tree e) ts written.0) (of_operands es ts written.1)))
        tree (apply_statically p e c n m es t) ts k j h i =
            let os : List Operand = receiver_for ts e ∷ operands is_mutable sure ts es in
            let s : Spilled = spill os j in
            let target = coerced_receiver (type_of_term e) (first_of s.expressions) in
            let arguments = expressions_of (coerced_arguments m.params (types_of es) (rest_of s.expressions)) in
            let call = core.receiver_call (callees.Member (member c n m)) target arguments in
            let parts = followed_parts U runs s.statements (finish k p t false call s.next).statements h in
            let behind = All-tail U (function_binding (called_member runs n (member c n m))) (uses_in runs target ++ uses_in_all runs arguments) (finished U runs k p t call s.next parts.1) in
            let of_target = front U runs (uses_in runs target) (uses_in_all runs arguments) behind in
            let passed = back U runs (uses_in runs target) (uses_in_all runs arguments) behind in
            let written = spill_in U runs os j parts.0 (first_and_rest U runs s.expressions (unreceived (type_of_term e) (first_of s.expressions) of_target) (arguments_in U runs m.params (types_of es) (rest_of s.expressions) passed)) in
            either (is_boxed_at (goal_of k) t) ((is_boxed Any e || any_is_boxed m.params es) || (operand_boxes (goals_of ts) e || operands_box (goals_of ts) es)) i (finish_box k p t false call s.next parts.1) (λ i. either (is_boxed Any e || any_is_boxed m.params es) (operand_boxes (goals_of ts) e || operands_box (goals_of ts) es) i (λ i. either (is_boxed Any e) (any_is_boxed m.params es) i (coerced_box (IrType.Class (codes "java.lang.Character")) (type_of_term e) (first_of s.expressions) of_target) (arguments_box m.params es (rest_of s.expressions) (rest_expressed ts (receiver_for ts e) es s.expressions (spill_count os j)) passed)) (λ i. either (operand_boxes (goals_of ts) e) (operands_box (goals_of ts) es) i (receiver_box e (tree e) ts written.0) (of_operands es ts written.1)))
        tree (new_object p c m es) ts k j h i =
            let s : Spilled = spill (operands is_mutable sure ts es) j in
            let arguments = expressions_of (coerced_arguments m.params (types_of es) s.expressions) in
            let call = core.made_of (member c Constructor m) arguments in
            let parts = followed_parts U runs s.statements (finish k p (class_type c) false call s.next).statements h in
            let passed = All-tail U (class_use c) (uses_in_all runs arguments) (All-tail U (function_binding (member c Constructor m)) (class_use c ∷ uses_in_all runs arguments) (finished U runs k p (class_type c) call s.next parts.1)) in
            either (is_boxed_at (goal_of k) (class_type c)) (any_is_boxed m.params es || operands_box (goals_of ts) es) i (finish_box k p (class_type c) false call s.next parts.1) (λ i. either (any_is_boxed m.params es) (operands_box (goals_of ts) es) i (arguments_box m.params es s.expressions (operands_expressed ts es s.expressions (spill_count (operands is_mutable sure ts es) j)) passed) (of_operands es ts (spill_in U runs (operands is_mutable sure ts es) j parts.0 (arguments_in U runs m.params (types_of es) s.expressions passed))))
        tree (select p e c f t) ts k j h i =
            let os : List Operand = receiver_for ts e ∷ [] in
            let s : Spilled = spill os j in
            let read = core.field_of (first_of s.expressions) c f in
            let parts = followed_parts U runs s.statements (finish k p t false read s.next).statements h in
            let written = spill_in U runs os j parts.0 (one_in U runs s.expressions (spill_count os j) (finished U runs k p t read s.next parts.1)) in
            either (is_boxed_at (goal_of k) t) (operand_boxes (goals_of ts) e) i (finish_box k p t false read s.next parts.1) (receiver_box e (tree e) ts written.0)
        tree (select_static p c f t) ts k j h i = finish_box k p t false (core.static_of c f) j h i
        tree (load_module p c) ts k j h i = finish_box k p (class_type c) false (core.module_of c) j h i
        tree (store_module p c e) ts k j h i =
            let s : Spilled = spill (one_of ts e) j in
            let value = coerced (class_type c) (type_of_term e) (first_of s.expressions) in
            let last = core.store_module_of (Some p) c value in
            let parts = followed_parts U runs s.statements (core.statement last core.no_statements) h in
            let of_value = All-tail U (store_use c) (uses_in runs value) (only U runs last parts.1) in
            either (is_boxed (class_type c) e) (operand_boxes (goals_of ts) e) i (coerced_box (class_type c) (type_of_term e) (first_of s.expressions) of_value) (act e (tree e) ts j parts.0 (uncoerced U runs (class_type c) (type_of_term e) (first_of s.expressions) of_value))
        tree (unary_op p o e) ts k j h i =
            let s : Spilled = spill (one_of ts e) j in
            let made = core.unary_of o (first_of s.expressions) in
            let parts = followed_parts U runs s.statements (finish k p (unary_result o) false made s.next).statements h in
            either (is_boxed_at (goal_of k) (unary_result o)) (operand_boxes (goals_of ts) e) i (finish_box k p (unary_result o) false made s.next parts.1) (act e (tree e) ts j parts.0 (finished U runs k p (unary_result o) made s.next parts.1))
        tree (binary_op p o e d) ts k j h i =
            let os : List Operand = operand_for ts e ∷ one_of ts d in
            let s : Spilled = spill os j in
            let left = operand_of o (type_of_term e) (first_of s.expressions) in
            let right = operand_of o (type_of_term d) (second_of s.expressions) in
            let made = core.binary_of o left right in
            let helper = helper_of (is_nonzero_literal right) o in
            let parts = followed_parts U runs s.statements (finish k p (binary_result o) false made s.next).statements h in
            let inside = finished U runs k p (binary_result o) made s.next parts.1 in
            let head = front U runs (helper ++ uses_in runs left) (uses_in runs right) inside in
            let of_left = back U runs helper (uses_in runs left) head in
            let of_right = back U runs (helper ++ uses_in runs left) (uses_in runs right) inside in
            let written = spill_in U runs os j parts.0 (two_in U runs s.expressions (spill_count os j) (operand_in U runs o (type_of_term e) (first_of s.expressions) of_left) (operand_in U runs o (type_of_term d) (second_of s.expressions) of_right)) in
            either (is_boxed_at (goal_of k) (binary_result o) || operands_are_boxed o e d) (operand_boxes (goals_of ts) e || operand_boxes (goals_of ts) d) i (λ i. either (is_boxed_at (goal_of k) (binary_result o)) (operands_are_boxed o e d) i (finish_box k p (binary_result o) false made s.next parts.1) (same_box o e d (first_of s.expressions) (second_of s.expressions) of_left of_right)) (λ i. either (operand_boxes (goals_of ts) e) (operand_boxes (goals_of ts) d) i (operand_box e (tree e) ts written.0) (operand_box d (tree d) ts written.1.0))
        tree (new_array p r e) ts k j h i =
            let s : Spilled = spill (one_of ts e) j in
            let made = core.new_array_of r (first_of s.expressions) in
            let parts = followed_parts U runs s.statements (finish k p (Array r) false made s.next).statements h in
            act e (tree e) ts j parts.0 (array_inside (codes "$mk") r (uses_in runs (first_of s.expressions)) (finished U runs k p (Array r) made s.next parts.1)) i
        tree (array_value p r es) ts k j h i =
            let s : Spilled = spill (operands is_mutable sure ts es) j in
            let items = expressions_of (coerced_items (element_type r) (types_of es) s.expressions) in
            let made = core.array_of r items in
            let parts = followed_parts U runs s.statements (finish k p (Array r) false made s.next).statements h in
            let given = array_inside (codes "$A") r (uses_in_all runs items) (finished U runs k p (Array r) made s.next parts.1) in
            either (any_item_boxed (element_type r) es) (operands_box (goals_of ts) es) i (items_box (element_type r) es s.expressions (operands_expressed ts es s.expressions (spill_count (operands is_mutable sure ts es) j)) given) (of_operands es ts (spill_in U runs (operands is_mutable sure ts es) j parts.0 (items_in U runs (element_type r) (types_of es) s.expressions given)))
        tree (array_length p e) ts k j h i =
            let os : List Operand = receiver_for ts e ∷ [] in
            let s : Spilled = spill os j in
            let read = core.length_of (first_of s.expressions) in
            let parts = followed_parts U runs s.statements (finish k p Int false read s.next).statements h in
            receiver_box e (tree e) ts (spill_in U runs os j parts.0 (one_in U runs s.expressions (spill_count os j) (finished U runs k p Int read s.next parts.1))).0 i
        tree (array_select p e x t) ts k j h i =
            let os : List Operand = receiver_for ts e ∷ one_of ts x in
            let s : Spilled = spill os j in
            let array = uses_in runs (first_of s.expressions) in
            let index = uses_in runs (second_of s.expressions) in
            let read = core.element_of (first_of s.expressions) (second_of s.expressions) in
            let parts = followed_parts U runs s.statements (finish k p t false read s.next).statements h in
            let inside = All-tail U (object_binding (codes "$get")) (array ++ index) (finished U runs k p t read s.next parts.1) in
            let written = spill_in U runs os j parts.0 (two_in U runs s.expressions (spill_count os j) (front U runs array index inside) (back U runs array index inside)) in
            either (is_boxed_at (goal_of k) t) (operand_boxes (goals_of ts) e || operand_boxes (goals_of ts) x) i (finish_box k p t false read s.next parts.1) (λ i. either (operand_boxes (goals_of ts) e) (operand_boxes (goals_of ts) x) i (receiver_box e (tree e) ts written.0) (operand_box x (tree x) ts written.1.0))
        tree (is_instance_of p e t) ts k j h i =
            let s : Spilled = spill (one_of ts e) j in
            let value = coerced Any (type_of_term e) (first_of s.expressions) in
            let made = core.test_of t value in
            let parts = followed_parts U runs s.statements (finish k p Boolean false made s.next).statements h in
            let of_value = type_inside t (test_uses t) (uses_in runs value) (finished U runs k p Boolean made s.next parts.1) in
            either (is_boxed_at (goal_of k) Boolean) (is_boxed Any e || operand_boxes (goals_of ts) e) i (finish_box k p Boolean false made s.next parts.1) (λ i. either (is_boxed Any e) (operand_boxes (goals_of ts) e) i (coerced_box Any (type_of_term e) (first_of s.expressions) of_value) (act e (tree e) ts j parts.0 (uncoerced U runs Any (type_of_term e) (first_of s.expressions) of_value)))
        tree (as_instance_of p e t) ts k j h i =
            let s : Spilled = spill (one_of ts e) j in
            let value = coerced Any (type_of_term e) (first_of s.expressions) in
            let made = core.cast_of t value in
            let parts = followed_parts U runs s.statements (finish k p t false made s.next).statements h in
            let of_value = type_inside t (cast_uses t) (uses_in runs value) (finished U runs k p t made s.next parts.1) in
            either (is_boxed_at (goal_of k) t) (is_boxed Any e || operand_boxes (goals_of ts) e) i (finish_box k p t false made s.next parts.1) (λ i. either (is_boxed Any e) (operand_boxes (goals_of ts) e) i (coerced_box Any (type_of_term e) (first_of s.expressions) of_value) (act e (tree e) ts j parts.0 (uncoerced U runs Any (type_of_term e) (first_of s.expressions) of_value)))
        tree (char_literal p u) ts k j h i = finish_box k p Char true (core.number_value (pos u)) j h i
        tree (var_ref p x t) ts k j h i = finish_box k p t true (core.variable_use (core.named x)) j h i
        tree (this_ref p t) ts k j h i = finish_box k p t true (core.variable_use core.receiver) j h i
        tree (log_line p e) ts k j h i =
            let s : Spilled = spill (one_of ts e) j in
            let last = core.log_of (Some p) (first_of s.expressions) in
            let parts = followed_parts U runs s.statements (core.statement last core.no_statements) h in
            act e (tree e) ts j parts.0 (only U runs last parts.1) i
        tree _ ts k j h i = impossible i

        block_box : (es : Terms) (ts : Targets) (k : Destination) (j : ℕ) → Within U runs (block is_mutable sure ts k j es).statements → last_boxes (goals_of ts) (goal_of k) es ≡ true → Boxed
        block_box no_terms ts k j h i = impossible i
        block_box (more_terms t no_terms) ts k j h i = tree t ts k j h i
        block_box (more_terms t (more_terms u us)) ts k j h i =
            let first : Code = into is_mutable sure ts discard j t in
            let parts = followed_parts U runs first.statements (block is_mutable sure ts k first.next (more_terms u us)).statements h in
            either (boxes (goals_of ts) Goal.given_up t) (last_boxes (goals_of ts) (goal_of k) (more_terms u us)) i (tree t ts discard j parts.0) (block_box (more_terms u us) ts k first.next parts.1)

        of_operands : (es : Terms) (ts : Targets) → AllWritten U runs (operands is_mutable sure ts es) → operands_box (goals_of ts) es ≡ true → Boxed
        of_operands no_terms ts h i = impossible i
        of_operands (more_terms e es) ts h i = either (operand_boxes (goals_of ts) e) (operands_box (goals_of ts) es) i (operand_box e (tree e) ts h.0) (of_operands es ts h.1)

        of_cases : (cs : Cases) (ts : Targets) (k : Destination) (j : ℕ) → All U (uses_of_cases runs (cases is_mutable sure ts k j cs).cases) → cases_box (goals_of ts) (goal_of k) cs ≡ true → Boxed
        of_cases no_cases ts k j h i = impossible i
        of_cases (more_cases [] e cs) ts k j h i = of_cases cs ts k j h i
        of_cases (more_cases (key ∷ keys) e cs) ts k j h i =
            let body : Code = into is_mutable sure ts k j e in
            let end = core.statement (core.break_nearest None) core.no_statements in
            let rest = uses_of_cases runs (cases is_mutable sure ts k body.next cs).cases in
            either (boxes (goals_of ts) (goal_of k) e) (cases_box (goals_of ts) (goal_of k) cs) i (tree e ts k j (followed_parts U runs body.statements end (front U runs (uses_of_all runs (followed body.statements end)) rest h)).0) (of_cases cs ts k body.next (back U runs (uses_of_all runs (followed body.statements end)) rest h))

      -- code that makes an object for a char, all of whose uses are these
      pub box_used : (t : Term) → TreeBoxes t
      box_used = tree
