-- The theorem on trees: one induction, both directions.
use Rattle.agree_early_errors.specs.Standing.{call_type, types_referred, MayStand}
use Rattle.std.specs.Prelude.{ℤ, pos, ◌&&◌, ◌||◌, ◌^◌, not}
use Rattle.std.proofs.Common.{Option, ◌≡◌, ℕ, Bool, true, false, List, [], ◌∷◌, length, codes, Some, refl, sym, ap, ◌∙◌, subst, ◌⊎◌, inl, inr, ⊎_elim}
use mathlib.Core.Path.{fun_ext}
use Rattle.outcomes.specs.Outcome.{done}
use Rattle.outcomes.specs.Agreement.{Sim}
use Rattle.outcomes.proofs.Simulation.{sim_wrong, sim_then, sim_weaken}
use Rattle.agree_plain_trees.specs.Meaning as ir_meaning
use Rattle.agree_plain_trees.specs.States as ir
use Rattle.js_mean.specs.States as js
use Rattle.sj_core.specs.Terms as core
use Rattle.sj_core.specs.declared.callees.Callee.{Callee}
use Rattle.sj_core.specs.declared.callees.Callee.TheVariants as callees
use Rattle.sj_core.specs.Views.{expressions_of}
use Rattle.agree_early_errors.specs.Coercions.{is_char, coerced, coerced_arguments, coerced_receiver}
use Rattle.agree_early_errors.specs.Desugar.{target_of, member, types_of, into, block, receiver, operands, first_of, second_of, rest_of, finish, branches, cases, switch_code, callee_of}
use Rattle.agree_early_errors.specs.Spill.{Destination, discard, to_variable, to_result, Code, one, spill, then_use}
use Rattle.sj_trees.specs.Term.{Term, Terms, no_terms, more_terms, Cases, no_cases, more_cases, var_def, skip, block_of, labeled, assign, return_to, if_then, while_loop, do_while, throw, try_catch, try_finally, match_on, new_object, new_array, array_value, array_length, array_select, select, select_static, apply, apply_statically, this_ref, apply_static, unary_op, binary_op, is_instance_of, as_instance_of, undefined_literal, null_literal, boolean_literal, char_literal, byte_literal, short_literal, int_literal, long_literal, string_literal, var_ref, log_line, load_module, store_module}
use Rattle.sj_trees.specs.TypeOf.{type_of_term, type_of_last, unary_result, binary_result}
use Rattle.sj_trees.specs.declared.operators.BinaryOp.{BinaryOp}
use Rattle.sj_trees.specs.declared.operators.UnaryOp.{UnaryOp}
use Rattle.sj_trees.specs.declared.positions.Position.{Position}
use Rattle.sj_trees.specs.declared.types.IrType.{IrType}
use Rattle.agree_early_errors.specs.Rules.{AllFit, left_operand, unary_operand}
use Rattle.agree_early_errors.specs.Operators.{Operates, DividesBy}
use Rattle.agree_early_errors.specs.Locals.{Scope, Mutable, with_local, parameters_of, HasValue, Own, OwnAll, OwnCases}
use Rattle.agree_early_errors.specs.Texts.{operand_of}
use Rattle.agree_plain_trees.specs.Settings.{Setting, run, SameState, Lawful, usable}
use Rattle.agree_bodies.proofs.Blocks.{Outside, undeclared}
use Rattle.agree_bodies.proofs.Contexts.{around, Context, Writes, Sound, Ahead, Ready, Keeps, keeps-refl, Came}
use Rattle.agree_bodies.specs.Fine.{IsDiscard, is_discard, FitsIn, FineOperand, Amid, Asks}
use Rattle.agree_plain_trees.proofs.Boxes.{StandsFor, stood, stood-fits, operand_stood, stands-for, stand-for-all, StandForAll}
use Rattle.agree_plain_trees.proofs.Received.{may_be_checked, value_or_nothing, Received, received, Constructed, constructed, with_value}
use Rattle.agree_early_errors.proofs.Statics.{read_static, set_static}
use Rattle.agree_early_errors.proofs.Targets.{target_goal}
use Rattle.agree_early_errors.specs.Finalizers.{finalizer_code}
use Rattle.agree_early_errors.proofs.Good.{finalizer-good}
use Rattle.agree_early_errors.specs.Boxes.{given_up as given_up_goal, Goal, goal_of, goals_of, is_boxed, any_is_boxed, any_item_boxed, operands_are_boxed, is_boxed_at, boxes_as_text, boxes, last_boxes, operand_boxes, operands_box, cases_box}
use Rattle.agree_early_errors.specs.Built.{can_box, can_put, may_make, can_cast, is_based, has_base, are_countable}
use Rattle.std.proofs.lemmas.Bool.{and_parts}
use Rattle.sure_receivers.specs.Sure.{is_sure}
use Rattle.sj_names.specs.declared.method_names.MethodName.{MethodName}
use Rattle.sj_names.specs.declared.method_names.Namespace.{Namespace}
use Rattle.sj_names.specs.declared.method_names.Namespace.TheVariants.{Public, Private, Constructor}
use Rattle.agree_early_errors.specs.Typing.{Scene, AreDimensions, catching, in_label, Typed, TypedBlock, TypedAll, TypedCases, may_check}
use Rattle.agree_early_errors.proofs.Arrays.{ItemsOf, items-of, element-value, array-below, items-below, below-is}
use Rattle.agree_early_errors.proofs.Direct.{Direct, ByName, Applied, directly, by_lookup, on_array, by_name, applied}
use Rattle.agree_plain_trees.proofs.HijackedCalls.{hijacked_call, takes_any}
use Rattle.agree_plain_trees.proofs.Received.{looked_stand}
use Rattle.agree_bodies.proofs.ArrayTrees.{new_array_does, array_value_does, length_does, item_does, item_set_does}
use Rattle.agree_plain_trees.proofs.Arrays.{stand-for-each, any_test_alike, any_cast_alike}
use Rattle.agree_bodies.proofs.LookedTrees.{looked_up}
use Rattle.agree_plain_trees.proofs.Instances.{OnInstances, by_class, by_array}
use Rattle.agree_plain_trees.proofs.Looked.{as_instances}
use Rattle.agree_early_errors.proofs.Mutable.{of_first, of_second, of_definition, front, front_cases}
use Rattle.agree_plain_trees.specs.Conditions.{IsNoConstruction, Plain}
use Rattle.agree_early_errors.specs.Plain.{is_no_type, is_plain, mutable_in, mutable_in_all, mutable_in_cases}
use Rattle.agree_bodies.proofs.Parts.{plain_at, tree_in, operand_in, operand_by, amid-behind, amid-inside, one_mutable, other_mutable, given_up, fits, fits-value, yields, asks-left, asks-right}
use Rattle.agree_early_errors.proofs.Fitting.{fits-lowest, fits-unary, fits-dividend, operates, unary-value, binary-value, cast-value, unary-operand-value, left-operand-value}
use Rattle.agree_early_errors.proofs.Locals.{there, typed-there, local-value}
use Rattle.agree_early_errors.proofs.RulesGive.{Takes, FitsType, ArgumentsFit, class_has_value, each_made, fits_there, arguments_there, operation, result_is}
use Rattle.sj_names.specs.declared.references.ArrayRef.{ArrayRef}
use Rattle.sj_names.specs.declared.references.TypeRef.{TypeRef}
use Rattle.sj_trees.specs.Types.{class_type, reference_type, element_type}
use Rattle.sj_trees.specs.declared.types.IrType.TheVariants.{Any, NoType, Undefined, Null, Boolean, Char, Byte, Short, Int, Long, String, Array}
use Rattle.agree_plain_trees.specs.Known.{object}
use Rattle.agree_plain_trees.specs.Subtypes.{IsSub, to_any}
use Rattle.agree_bodies.proofs.Forms.{of_operands, one_final, two_final, silent, assign_final, log_final, if_final, came-narrow, rebased, ahead-later, OneFinal, TwoFinal}
use Rattle.agree_bodies.proofs.Jumps.{labelling, sound-labelling, labeled_alike, return_alike}
use Rattle.agree_bodies.proofs.Matches.{settled, sound-settled, ahead-settled, outside-settled, undeclared-settled, undeclared-case, CasesAlike, no_case, without_keys, with_keys, match_final}
use Rattle.agree_bodies.specs.Placed.{Placed, PlacedAll, PlacedCases, with_reach}
use Rattle.agree_bodies.proofs.Trees.{written, written_cases, LowAlike, outside-part, behind, go_on-given, FineHere, TreeDoes, piece, operand_does, define_does, quiet, value_of, local_at, finish_one, list_of, call_does, division_does, operands-list, runs-list}
use Rattle.sj_names.proofs.Same.{impossible}
use Rattle.agree_plain_trees.proofs.Plain.{unary_alike, binary_alike}
use Rattle.agree_plain_trees.proofs.Modules.{load_alike}
use Rattle.agree_plain_trees.proofs.Objects.{static_alike}
use Rattle.agree_bodies.proofs.ObjectTrees.{reflect_does, receiver_piece, receiver_does, select_does, set_static_final, store_final, set_does, set_spilled, new_does, this_does, throw_does, receive_does, construct_does}
use Rattle.agree_bodies.proofs.Spills.{Does, OperandDoes, OperandsDo, numbered-named, operands_in}
use Rattle.agree_bodies.proofs.Statements.{run-followed, came_then, finish_alike, Ends}
use Rattle.agree_bodies.proofs.Finals.{finishing, next, sound-finishing, ahead-finishing, outside-finishing, finally_alike}
use Rattle.agree_bodies.proofs.Placed.{narrowed}
use Rattle.agree_bodies.proofs.Tries.{try_alike}
use Rattle.agree_bodies.proofs.Turns.{while_does, do_does}
use Rattle.agree_plain_trees.proofs.Worlds.{World, Grows, grows-refl}

module _ (z : Setting) (lawful : Lawful z) (low : LowAlike z) where
  abbrev AmidHere : Context → Scene → Type 0
  AmidHere c s = Amid z.place.typing z.is_mutable z.code c.scope (around c) s

  -- objects that hold chars can be made, or none is
  abbrev Makes : Bool → Type 0
  Makes boxed = may_make (usable z) boxed ≡ true

  each : (x y : Bool) → Makes (x || y) → Makes x × Makes y
  each = each_made (usable z)

  -- what makes no such object whatever is around it makes none
  none_made : Makes false
  none_made = go (can_box (usable z))
    where
      go : (b : Bool) → (b || not false) ≡ true
      go true = refl
      go false = refl

  -- nor does a value of a type other than that of chars
  none_at : (k : Destination) (t : IrType) → is_char t ≡ false → Makes (is_boxed_at (goal_of k) t)
  none_at discard t h = none_made
  none_at (to_variable x i) t h = subst (λ (q : Bool). Makes (q && not (is_char i))) (sym h) none_made
  none_at (to_result i) t h = subst (λ (q : Bool). Makes (q && not (is_char i))) (sym h) none_made

  tree : (c : Context) (s : Scene) → AmidHere c s → (k : Destination) (e : Term) → Mutable z.is_mutable (mutable_in e) → Asks z.place.typing k (type_of_term e) → Typed z.place.typing (usable z) s e → Makes (boxes (goals_of c.targets) (goal_of k) e) → (labels : List (List ℕ)) → Placed c.reaches c.tries labels e → FineHere z lawful low c k e
  tree c = tree_in z.place.typing lawful.base.ordered z.is_mutable (usable z) z.code c.scope (around c)

  part_of : (c : Context) (s : Scene) → AmidHere c s → (e : Term) → Mutable z.is_mutable (mutable_in e) → (t : IrType) → IsSub z.place.typing (type_of_term e) t → HasValue t → Typed z.place.typing (usable z) s e → Makes (operand_boxes (goals_of c.targets) e) → (labels : List (List ℕ)) → Placed c.reaches c.tries labels e → FineOperand z.place.typing z.is_mutable (usable z) z.code c.scope e (λ y. FineHere z lawful low c (to_variable y (type_of_term e)) e)
  part_of c = operand_in z.place.typing lawful.base.ordered z.is_mutable (usable z) z.code c.scope (around c)

  plain_here : (c : Context) (k : Destination) {e : Term} → FineHere z lawful low c k e → Makes (boxes_as_text e) → is_plain e ≡ true → IsNoConstruction e → Plain z.place.typing (usable z) z.code c.scope e
  plain_here c k {e} fine boxed i apart = plain_at z.place.typing lawful.base.ordered z.is_mutable (usable z) z.code c.scope (around c) fine.scene fine.amid e fine.typed boxed i apart

  abbrev BlockDoes : Terms → Type 1
  BlockDoes ts = (c : Context) (k : Destination) (j : ℕ) → Sound z.is_mutable c → Ahead c j → Outside c (OwnAll ts) → Writes c.written k → (scene : Scene) → AmidHere c scene → Mutable z.is_mutable (mutable_in_all ts) → (i : IrType) → Asks z.place.typing k (type_of_last i ts) → TypedBlock z.place.typing (usable z) scene ts → Makes (last_boxes (goals_of c.targets) (goal_of k) ts) → (labels : List (List ℕ)) → PlacedAll c.reaches c.tries labels ts → (w : World) (env : ir.Env) (s : ir.State) (sc : js.Scope) (u : js.State) → Ready z.place z.code c.scope c.writable w env sc → SameState z.place w s u → Ends z lawful c c.scope k w sc (ir_meaning.block z.place.classes z.low ts env s) (block z.is_mutable z.code.sure c.targets k j ts).statements sc u

  -- a tree of a block, and those behind it
  one_and_rest : (t : Term) (rest : Terms) (d : Terms) → (c : Context) (k : Destination) (j : ℕ) (first : Scope) → (w : World) (env : ir.Env) (s : ir.State) (sc : js.Scope) (u : js.State) → Sim z.direction (Came z.place z.code c first discard w sc) (ir_meaning.step z.place.classes z.low t env s) (run z (into z.is_mutable z.code.sure c.targets discard j t).statements sc u) → ((y : World) (v : ir.Value) (env : ir.Env) (s : ir.State) (sc' : js.Scope) (u : js.State) → Grows w y → Ready z.place z.code first c.writable y env sc' → Keeps z.place c.kept sc sc' → SameState z.place y s u → Sim z.direction (Came z.place z.code c c.scope k w sc) (ir_meaning.rest z.place.classes z.low rest v env s) (run z (block z.is_mutable z.code.sure c.targets k (into z.is_mutable z.code.sure c.targets discard j t).next rest).statements sc' u)) → Sim z.direction (Came z.place z.code c c.scope k w sc) (ir.go_on (ir_meaning.step z.place.classes z.low t env s) (ir_meaning.rest z.place.classes z.low rest)) (run z (core.followed (into z.is_mutable z.code.sure c.targets discard j t).statements (block z.is_mutable z.code.sure c.targets k (into z.is_mutable z.code.sure c.targets discard j t).next rest).statements) sc u)
  one_and_rest t rest d c k j first w env s sc u one others = subst (λ o. Sim z.direction (Came z.place z.code c c.scope k w sc) (ir.go_on (ir_meaning.step z.place.classes z.low t env s) (ir_meaning.rest z.place.classes z.low rest)) o) (sym (run-followed z (into z.is_mutable z.code.sure c.targets discard j t).statements (block z.is_mutable z.code.sure c.targets k (into z.is_mutable z.code.sure c.targets discard j t).next rest).statements sc u)) (sim_then z.direction (Came z.place z.code c first discard w sc) (Came z.place z.code c c.scope k w sc) (ir_meaning.step z.place.classes z.low t env s) (run z (into z.is_mutable z.code.sure c.targets discard j t).statements sc u) (ir.onward (ir_meaning.rest z.place.classes z.low rest)) (js.next_statement (run z (block z.is_mutable z.code.sure c.targets k (into z.is_mutable z.code.sure c.targets discard j t).next rest).statements)) one (came_then z lawful c first c.scope k w sc (ir_meaning.rest z.place.classes z.low rest) (run z (block z.is_mutable z.code.sure c.targets k (into z.is_mutable z.code.sure c.targets discard j t).next rest).statements) others))

  one_type : (c : Context) (x : List ℕ) (t : IrType) → Sound z.is_mutable c → (y : List ℕ) (i j : IrType) → with_local x t c.scope y i → with_local x t c.scope y j → i ≡ j
  one_type c x t sound y i j (inl g) (inl h) = g.1 ∙ sym h.1
  one_type c x t sound y i j (inl g) (inr h) = absurd (h.0 g.0)
  one_type c x t sound y i j (inr g) (inl h) = absurd (g.0 h.0)
  one_type c x t sound y i j (inr g) (inr h) = sound.alone y i j g.1 h.1

  sound-behind : (c : Context) (x : List ℕ) (t : IrType) → Sound z.is_mutable c → (c.writable (core.named x) → ⊥) → (c.kept (core.named x) → ⊥) → Sound z.is_mutable (behind z c x t)
  sound-behind c x t sound unwritten fresh = record {
    hidden = λ y i wr g. ⊎_elim (λ e. unwritten (subst (λ a. c.writable (core.named a)) e.0 wr)) (λ h. sound.hidden y i wr h.1) g;
    constant = λ y i g m. ⊎_elim (λ e. inl (ap core.named e.0, subst (λ a. z.is_mutable a ≡ false) e.0 m)) (λ h. inr (sound.constant y i h.1 m)) g;
    changing = λ y i g k m. ⊎_elim (λ q. let e : y ≡ x = cc in impossible (sym q.1 ∙ subst (λ a. z.is_mutable a ≡ true) e m)) (λ q. ⊎_elim (λ e. fresh (subst (λ a. c.kept (core.named a)) e.0 q)) (λ h. sound.changing y i h.1 q m) g) k;
    alone = one_type c x t sound;
    within = sound.within;
    aims = sound.aims;
    reached = sound.reached;
    apart = λ t y k wr. ⊎_elim (λ e. unwritten (subst c.writable e.0 (sound.within y wr))) (λ i. sound.apart t y i wr) k;
    receiver = inr sound.receiver;
    received = sound.received;
  }

  ahead-behind : (c : Context) (x : List ℕ) (t : IrType) (j : ℕ) → Ahead c j → Ahead (behind z c x t) j
  ahead-behind c x t j ahead = record { writable = ahead.writable; kept = λ k h i. ⊎_elim (λ e. numbered-named x k (sym e.0)) (ahead.kept k h) i }

  outside-behind : (c : Context) (x : List ℕ) (t : IrType) (own : List ℕ → Type 0) → Outside c own → (own x → ⊥) → Outside (behind z c x t) own
  outside-behind c x t own out fresh = record {
    scope = λ y i o g. ⊎_elim (λ e. fresh (subst own e.0 o)) (λ h. out.scope y i o h.1) g;
    writable = out.writable;
    kept = λ y o k. ⊎_elim (λ i. let e : y ≡ x = cc in fresh (subst own e o)) (out.kept y o) k;
  }

  -- a local that wasn't there hides none
  none_hidden : (c : Context) (x : List ℕ) (t : IrType) → ((i : IrType) → c.scope x i → ⊥) → (y : List ℕ) (i : IrType) → c.scope y i → with_local x t c.scope y i
  none_hidden c x t unseen y i h = inr ((λ e. unseen i (subst (λ n. c.scope n i) e h)), h)

  skip_by : (p : Position) (c : Context) (k : Destination) → IsDiscard k → (w : World) (env : ir.Env) (s : ir.State) (sc : js.Scope) (u : js.State) → Ready z.place z.code c.scope c.writable w env sc → SameState z.place w s u → Ends z lawful c c.scope k w sc (done (ir.ends (ir.gives ir.undefined) env s)) core.no_statements sc u
  skip_by p c _ is_discard w env s sc u r same = silent z lawful c w ir.undefined env s sc u r same

  var_by : (p : Position) (x : List ℕ) (t : IrType) (b : Bool) (e : Term) → TreeDoes z lawful low e → (c : Context) (k : Destination) (j : ℕ) → Sound z.is_mutable c → Ahead c j → Outside c (Own (var_def p x t b e)) → FineHere z lawful low c k (var_def p x t b e) → IsDiscard k → Does z lawful c k j (var_def p x t b e)
  var_by p x t b e does c _ j sound ahead out fine is_discard w env s sc u r same = sim_weaken z.direction (Came z.place z.code c (with_local x t c.scope) discard w sc) (Came z.place z.code c c.scope discard w sc) (ir_meaning.step z.place.classes z.low (var_def p x t b e) env s) (run z (into z.is_mutable z.code.sure c.targets discard j (var_def p x t b e)).statements sc u) (came-narrow z lawful c c (with_local x t c.scope) c.scope discard w w sc sc refl refl (λ l h. h) (λ h. h) (λ y i h. h) (none_hidden c x t (λ i. out.scope x i (inl refl))) (λ y h. h) (grows-refl w) (keeps-refl z c.kept sc)) (define_does z lawful low p x t b e does c j sound ahead out fine w env s sc u r same)

  assign_by : (p q : Position) (x : List ℕ) (t : IrType) (e : Term) → TreeDoes z lawful low e → (c : Context) (k : Destination) (j : ℕ) → Sound z.is_mutable c → Ahead c j → Outside c (Own e) → FineHere z lawful low c k (assign p (var_ref q x t) e) → IsDiscard k → Does z lawful c k j (assign p (var_ref q x t) e)
  assign_by p q x t e does c _ j sound ahead out fine is_discard = let local = fine.typed.0.finds in let parts = each (is_boxed t e) (operand_boxes (goals_of c.targets) e) fine.boxed in let own = fits_there z.place.typing (usable z) e t parts.0 fine.typed.0.meets.1 in of_operands z lawful c discard (piece z lawful low c.targets e ∷ []) j (ir_meaning.define x) (λ es. one (core.assign_to (Some p) (core.named x) (coerced t (type_of_term e) (first_of es)))) sound ahead (operand_does z lawful low c j e does out (part_of c fine.scene fine.amid e fine.written t own.0 (subst HasValue local.type_is (fine.amid.values x local.local local.is)) fine.typed.1 parts.1 fine.around fine.once), tt) (one_final z lawful c discard j (type_of_term e) (ir_meaning.define x) (λ es. one (core.assign_to (Some p) (core.named x) (coerced t (type_of_term e) (first_of es)))) (assign_final z lawful c p x t (type_of_term e) j sound (fine.amid.seen x t (subst (parameters_of fine.scene.locals x) local.type_is (typed-there fine.scene.locals x local.local local.is))) (fine.amid.changing x local.local local.is local.«mutable») (stands-for z lawful t (type_of_term e) own.0 own.1)))

  log_by : (p : Position) (e : Term) → TreeDoes z lawful low e → (c : Context) (k : Destination) (j : ℕ) → Sound z.is_mutable c → Ahead c j → Outside c (Own e) → FineHere z lawful low c k (log_line p e) → IsDiscard k → Does z lawful c k j (log_line p e)
  log_by p e does c _ j sound ahead out fine is_discard = of_operands z lawful c discard (piece z lawful low c.targets e ∷ []) j ir_meaning.log (λ es. one (core.log_of (Some p) (first_of es))) sound ahead (operand_does z lawful low c j e does out (part_of c fine.scene fine.amid e fine.written String fine.typed.0.meets refl fine.typed.1 fine.boxed fine.around fine.once), tt) (one_final z lawful c discard j (type_of_term e) ir_meaning.log (λ es. one (core.log_of (Some p) (first_of es))) (log_final z lawful c p j (type_of_term e)))

  labeled_does : (p : Position) (l : List ℕ) (t : IrType) (e : Term) → TreeDoes z lawful low e → TreeDoes z lawful low (labeled p l t e)
  labeled_does p l t e does c k j sound ahead out wr fine = labeled_alike z lawful c l k p (ir_meaning.step z.place.classes z.low e) (into z.is_mutable z.code.sure (record { label = l; goes_to = k } ∷ c.targets) k j e) (sound-labelling z lawful c l k sound wr) wr (undeclared (labelling z lawful c l k) (Own e) j (into z.is_mutable z.code.sure (record { label = l; goes_to = k } ∷ c.targets) k j e) (record { scope = out.scope; writable = out.writable; kept = out.kept }) (record { writable = ahead.writable; kept = ahead.kept }) (written z.is_mutable z.code.sure (with_reach l c.reaches) c.tries (record { label = l; goes_to = k } ∷ c.targets) e k j fine.once.1)) (does (labelling z lawful c l k) k j (sound-labelling z lawful c l k sound wr) (record { writable = ahead.writable; kept = ahead.kept }) (record { scope = out.scope; writable = out.writable; kept = out.kept }) wr (record { scene = in_label l t fine.scene; amid = amid-inside z.place.typing lawful.base.ordered z.is_mutable z.code c.scope (around c) fine.scene l t k fine.amid fine.asks; around = l ∷ fine.around; once = fine.once.1; written = fine.written; asks = yields z.place.typing lawful.base.ordered k e t fine.asks fine.typed.0.meets; typed = fine.typed.1; boxed = fine.boxed }))

  return_does : (p : Position) (e : Term) (l : List ℕ) → TreeDoes z lawful low e → TreeDoes z lawful low (return_to p e l)
  return_does p e l does c k j sound ahead out wr fine w env s sc u r same = return_alike z lawful c k (target_of c.targets l) p l (ir_meaning.step z.place.classes z.low e) (into z.is_mutable z.code.sure c.targets (target_of c.targets l) j e) refl fine.once.0.1 w env s sc u (does c (target_of c.targets l) j sound ahead out (sound.reached l fine.once.0.1) (tree c fine.scene fine.amid (target_of c.targets l) e fine.written (yields z.place.typing lawful.base.ordered (target_of c.targets l) e fine.typed.0.meets.tpe (fine.amid.targets l fine.typed.0.meets.tpe fine.typed.0.meets.is_type) fine.typed.0.meets.yields) fine.typed.1 (subst (λ (g : Goal). Makes (boxes (goals_of c.targets) g e)) (sym (target_goal c.targets l)) fine.boxed) fine.around fine.once.1) w env s sc u r same)

  if_does : (p : Position) (a b d : Term) (t : IrType) → TreeDoes z lawful low a → TreeDoes z lawful low b → TreeDoes z lawful low d → TreeDoes z lawful low (if_then p a b d t)
  if_does p a b d t does_a does_b does_d c k j sound ahead out wr fine = of_operands z lawful c k (piece z lawful low c.targets a ∷ []) j (ir_meaning.branch (ir_meaning.step z.place.classes z.low b) (ir_meaning.step z.place.classes z.low d)) (λ es i. branches p (first_of es) (into z.is_mutable z.code.sure c.targets k i b) (λ i. into z.is_mutable z.code.sure c.targets k i d)) sound ahead (operand_does z lawful low c j a does_a (outside-part c (Own (if_then p a b d t)) (Own a) (λ x o. inl o) out) (part_of c fine.scene fine.amid a (of_first z.is_mutable (mutable_in a) (λ xs. mutable_in b (mutable_in d xs)) (front a) fine.written) Boolean fine.typed.0.meets.0 refl fine.typed.1 (each (operand_boxes (goals_of c.targets) a) (boxes (goals_of c.targets) (goal_of k) b || boxes (goals_of c.targets) (goal_of k) d) fine.boxed).0 fine.around fine.once.0), tt) (one_final z lawful c k j (type_of_term a) (ir_meaning.branch (ir_meaning.step z.place.classes z.low b) (ir_meaning.step z.place.classes z.low d)) (λ es i. branches p (first_of es) (into z.is_mutable z.code.sure c.targets k i b) (λ i. into z.is_mutable z.code.sure c.targets k i d)) (if_final z lawful c k p (λ i. into z.is_mutable z.code.sure c.targets k i b) (λ i. into z.is_mutable z.code.sure c.targets k i d) (ir_meaning.step z.place.classes z.low b) (ir_meaning.step z.place.classes z.low d) j sound wr (λ i l. (written z.is_mutable z.code.sure c.reaches c.tries c.targets b k i fine.once.1).onward) (λ i l ah. undeclared c (Own b) i (into z.is_mutable z.code.sure c.targets k i b) (outside-part c (Own (if_then p a b d t)) (Own b) (λ x o. inr (inl o)) out) ah (written z.is_mutable z.code.sure c.reaches c.tries c.targets b k i fine.once.1)) (λ i l ah. undeclared c (Own d) i (into z.is_mutable z.code.sure c.targets k i d) (outside-part c (Own (if_then p a b d t)) (Own d) (λ x o. inr (inr o)) out) ah (written z.is_mutable z.code.sure c.reaches c.tries c.targets d k i fine.once.2)) (λ i l ah. does_b c k i sound ah (outside-part c (Own (if_then p a b d t)) (Own b) (λ x o. inr (inl o)) out) wr (tree c fine.scene fine.amid k b (one_mutable z.is_mutable b d (of_second z.is_mutable (mutable_in a) (λ xs. mutable_in b (mutable_in d xs)) (front a) fine.written)) (yields z.place.typing lawful.base.ordered k b t fine.asks fine.typed.0.meets.1) fine.typed.2 (each (boxes (goals_of c.targets) (goal_of k) b) (boxes (goals_of c.targets) (goal_of k) d) (each (operand_boxes (goals_of c.targets) a) (boxes (goals_of c.targets) (goal_of k) b || boxes (goals_of c.targets) (goal_of k) d) fine.boxed).1).0 fine.around fine.once.1)) (λ i l ah. does_d c k i sound ah (outside-part c (Own (if_then p a b d t)) (Own d) (λ x o. inr (inr o)) out) wr (tree c fine.scene fine.amid k d (other_mutable z.is_mutable b d (of_second z.is_mutable (mutable_in a) (λ xs. mutable_in b (mutable_in d xs)) (front a) fine.written)) (yields z.place.typing lawful.base.ordered k d t fine.asks fine.typed.0.meets.2) fine.typed.3 (each (boxes (goals_of c.targets) (goal_of k) b) (boxes (goals_of c.targets) (goal_of k) d) (each (operand_boxes (goals_of c.targets) a) (boxes (goals_of c.targets) (goal_of k) b || boxes (goals_of c.targets) (goal_of k) d) fine.boxed).1).1 fine.around fine.once.2)) (type_of_term a)))

  try_does : (p : Position) (e : Term) (x : List ℕ) (d : Term) (t : IrType) → TreeDoes z lawful low e → TreeDoes z lawful low d → TreeDoes z lawful low (try_catch p e x d t)
  try_does p e x d t does_e does_d c k j sound ahead out wr fine =
      try_alike z lawful c k p x first.statements second.statements (ir_meaning.step z.place.classes z.low e) (ir_meaning.step z.place.classes z.low d) sound wr
      (record { scope = λ i. out.scope x i (inl refl); writable = out.writable x (inl refl); kept = out.kept x (inl refl) })
      (undeclared c (Own e) j first out_e ahead (written z.is_mutable z.code.sure c.reaches c.tries c.targets e k j fine.once.2))
      (undeclared c (Own d) first.next second out_d later (written z.is_mutable z.code.sure c.reaches c.tries c.targets d k first.next fine.once.3))
      (does_e c k j sound ahead out_e wr (tree c fine.scene fine.amid k e (one_mutable z.is_mutable e d fine.written) (yields z.place.typing lawful.base.ordered k e t fine.asks fine.typed.0.meets.0) fine.typed.1 parts.0 fine.around fine.once.2))
      (does_d (behind z c x Any) k first.next (sound-behind c x Any sound (out.writable x (inl refl)) (out.kept x (inl refl))) (ahead-behind c x Any first.next later) (outside-behind c x Any (Own d) out_d fine.once.1) wr (tree (behind z c x Any) (catching x fine.scene) (amid-behind z.place.typing z.is_mutable z.code c.scope (around c) fine.scene x Any false fine.amid refl (λ h. impossible h)) k d (other_mutable z.is_mutable e d fine.written) (yields z.place.typing lawful.base.ordered k d t fine.asks fine.typed.0.meets.1) fine.typed.2 parts.1 fine.around fine.once.3))
    where
      first : Code
      first = into z.is_mutable z.code.sure c.targets k j e

      second : Code
      second = into z.is_mutable z.code.sure c.targets k first.next d

      out_e : Outside c (Own e)
      out_e = outside-part c (Own (try_catch p e x d t)) (Own e) (λ y o. inr (inl o)) out

      out_d : Outside c (Own d)
      out_d = outside-part c (Own (try_catch p e x d t)) (Own d) (λ y o. inr (inr o)) out

      later : Ahead c first.next
      later = ahead-later z lawful c j first.next (written z.is_mutable z.code.sure c.reaches c.tries c.targets e k j fine.once.2).onward ahead

      parts : Makes (boxes (goals_of c.targets) (goal_of k) e) × Makes (boxes (goals_of c.targets) (goal_of k) d)
      parts = each (boxes (goals_of c.targets) (goal_of k) e) (boxes (goals_of c.targets) (goal_of k) d) fine.boxed

  finally_does : (p : Position) (e d : Term) → TreeDoes z lawful low e → TreeDoes z lawful low d → TreeDoes z lawful low (try_finally p e d)
  finally_does p e d does_e does_d c k j sound ahead out wr fine =
      finally_alike z lawful c d first.next sound later fine.once.0 k p first.statements body (ir_meaning.step z.place.classes z.low e) (ir_meaning.step z.place.classes z.low d) wr
      (undeclared c (Own e) j first out_e ahead (written z.is_mutable z.code.sure c.reaches c.tries c.targets e k j fine.once.1))
      (undeclared c (Own d) first.next (finalizer_code (target_of c.targets) d first.next body) out_d later (finalizer-good (Own d) fine.around false (target_of c.targets) d first.next body (λ i. written z.is_mutable z.code.sure c.reaches c.tries c.targets d discard i fine.once.2)))
      (does_e c k j sound ahead out_e wr (tree c fine.scene fine.amid k e (one_mutable z.is_mutable e d fine.written) fine.asks fine.typed.1 parts.0 fine.around fine.once.1))
      (does_d inner discard (next z lawful c d first.next sound later) (sound-finishing z lawful c d first.next sound later) (ahead-finishing z lawful c d first.next sound later) (outside-finishing z lawful c d first.next sound later (Own d) out_d) tt (tree inner fine.scene inner_amid discard d (other_mutable z.is_mutable e d fine.written) tt fine.typed.2 parts.1 fine.around placed_d))
    where
      first : Code
      first = into z.is_mutable z.code.sure c.targets k j e

      body : ℕ → Code
      body i = into z.is_mutable z.code.sure c.targets discard i d

      inner : Context
      inner = finishing c d first.next

      inner_amid : AmidHere inner fine.scene
      inner_amid = record { surely = fine.amid.surely; owned = fine.amid.owned; seen = fine.amid.seen; values = fine.amid.values; changing = fine.amid.changing; targets = fine.amid.targets }

      placed_d : Placed inner.reaches inner.tries fine.around d
      placed_d = narrowed c.reaches inner.reaches c.tries inner.tries [] fine.around d (λ m i. impossible i) (λ m i r. (r, i)) (λ t. t) fine.once.2

      out_e : Outside c (Own e)
      out_e = outside-part c (Own (try_finally p e d)) (Own e) (λ y o. inl o) out

      out_d : Outside c (Own d)
      out_d = outside-part c (Own (try_finally p e d)) (Own d) (λ y o. inr o) out

      later : Ahead c first.next
      later = ahead-later z lawful c j first.next (written z.is_mutable z.code.sure c.reaches c.tries c.targets e k j fine.once.1).onward ahead

      parts : Makes (boxes (goals_of c.targets) (goal_of k) e) × Makes (boxes (goals_of c.targets) given_up_goal d)
      parts = each (boxes (goals_of c.targets) (goal_of k) e) (boxes (goals_of c.targets) given_up_goal d) fine.boxed

  unary_does : (p : Position) (o : UnaryOp) (e : Term) → TreeDoes z lawful low e → TreeDoes z lawful low (unary_op p o e)
  unary_does p o e does c k j sound ahead out wr fine = of_operands z lawful c k (piece z lawful low c.targets e ∷ []) j (ir_meaning.unary z.place.classes z.low o) (λ es. finish k p (unary_result o) false (core.unary_of o (first_of es))) sound ahead (operand_does z lawful low c j e does out (part_of c fine.scene fine.amid e fine.written (unary_operand o) fine.typed.0.meets (unary-operand-value o) fine.typed.1 (each (is_boxed_at (goal_of k) (unary_result o)) (operand_boxes (goals_of c.targets) e) fine.boxed).1 fine.around fine.once), tt) (one_final z lawful c k j (type_of_term e) (ir_meaning.unary z.place.classes z.low o) (λ es. finish k p (unary_result o) false (core.unary_of o (first_of es))) (finish_one z lawful low c k p (type_of_term e) (unary_result o) (ir_meaning.unary z.place.classes z.low o) (core.unary_of o) j sound wr (fits-value z.place.typing lawful.base.ordered (usable z) k (unary_result o) fine.asks (unary-value o) (each (is_boxed_at (goal_of k) (unary_result o)) (operand_boxes (goals_of c.targets) e) fine.boxed).0) (λ r x w env s sc u alike same. unary_alike z lawful c.scope o (type_of_term e) r x (fits-unary z.place.typing lawful.base.ordered o (type_of_term e) fine.typed.0.meets) w env s sc u alike same)))

  binary_final : (p : Position) (o : BinaryOp) (s t : IrType) (c : Context) (k : Destination) (j : ℕ) → Operates (usable z) o s t → Sound z.is_mutable c → Writes c.written k → FitsIn (usable z) k (binary_result o) → (w : World) (sc : js.Scope) → TwoFinal z lawful c k w sc j s t (ir_meaning.binary z.place.classes z.low o) (λ es. finish k p (binary_result o) false (core.binary_of o (operand_of o s (first_of es)) (operand_of o t (second_of es))))
  binary_final p o m n c k j operates sound wr fits from before i r q e d w env s sc u ahead l g ready ks same operands = finish_alike z lawful c k p (binary_result o) (core.binary_of o (operand_of o m e) (operand_of o n d)) i sound wr fits w from before env (ir_meaning.in_order (r ∷ q ∷ []) (ir_meaning.binary z.place.classes z.low o) env s) sc u g ks ready s same (binary_alike z lawful c.scope o m n r q e d operates w env s sc u ready.sees.inside operands same)

  binary_does : (p : Position) (o : BinaryOp) (e d : Term) → TreeDoes z lawful low e → TreeDoes z lawful low d → TreeDoes z lawful low (binary_op p o e d)
  binary_does p o e d does_e does_d c k j sound ahead out wr fine = by (operation z.place.typing (usable z) fine.scene o e d fine.typed.0.built fine.typed.2 fine.typed.0.meets)
    where
      parts : Makes (is_boxed_at (goal_of k) (binary_result o) || operands_are_boxed o e d) × Makes (operand_boxes (goals_of c.targets) e || operand_boxes (goals_of c.targets) d)
      parts = each (is_boxed_at (goal_of k) (binary_result o) || operands_are_boxed o e d) (operand_boxes (goals_of c.targets) e || operand_boxes (goals_of c.targets) d) fine.boxed

      own : Makes (is_boxed_at (goal_of k) (binary_result o)) × Makes (operands_are_boxed o e d)
      own = each (is_boxed_at (goal_of k) (binary_result o)) (operands_are_boxed o e d) parts.0

      both : Makes (operand_boxes (goals_of c.targets) e) × Makes (operand_boxes (goals_of c.targets) d)
      both = each (operand_boxes (goals_of c.targets) e) (operand_boxes (goals_of c.targets) d) parts.1

      out_e : Outside c (Own e)
      out_e = outside-part c (Own (binary_op p o e d)) (Own e) (λ x i. inl i) out

      out_d : Outside c (Own d)
      out_d = outside-part c (Own (binary_op p o e d)) (Own d) (λ x i. inr i) out

      fits_here : FitsIn (usable z) k (binary_result o)
      fits_here = fits-value z.place.typing lawful.base.ordered (usable z) k (binary_result o) fine.asks (binary-value o) own.0

      by : Takes z.place.typing (usable z) o e d ⊎ (DividesBy o d × IsSub z.place.typing (type_of_term e) (left_operand o)) → Does z lawful c k j (binary_op p o e d)
      by (inl h) = of_operands z lawful c k (piece z lawful low c.targets e ∷ piece z lawful low c.targets d ∷ []) j (ir_meaning.binary z.place.classes z.low o) (λ es. finish k p (binary_result o) false (core.binary_of o (operand_of o (type_of_term e) (first_of es)) (operand_of o (type_of_term d) (second_of es)))) sound ahead (operand_does z lawful low c j e does_e out_e (operand_by z.place.typing lawful.base.ordered z.is_mutable (usable z) z.code c.scope (around c) fine.scene fine.amid e (one_mutable z.is_mutable e d fine.written) (λ y. asks-left z.place.typing lawful.base.ordered (usable z) y o e d h) fine.typed.1 both.0 fine.around fine.once.0), (operand_does z lawful low c j d does_d out_d (operand_by z.place.typing lawful.base.ordered z.is_mutable (usable z) z.code c.scope (around c) fine.scene fine.amid d (other_mutable z.is_mutable e d fine.written) (λ y. asks-right z.place.typing lawful.base.ordered (usable z) y o e d h) fine.typed.2 both.1 fine.around fine.once.1), tt)) (two_final z lawful c k j (type_of_term e) (type_of_term d) (ir_meaning.binary z.place.classes z.low o) (λ es. finish k p (binary_result o) false (core.binary_of o (operand_of o (type_of_term e) (first_of es)) (operand_of o (type_of_term d) (second_of es)))) (binary_final p o (type_of_term e) (type_of_term d) c k j (operates z.place.typing lawful.base.ordered (usable z) o e d own.1 h) sound wr fits_here))
      by (inr h) = division_does z lawful low p c k j o e d h.0 (fits-dividend z.place.typing lawful.base.ordered o d (type_of_term e) h.0 h.1) sound ahead wr fits_here (operand_does z lawful low c j e does_e out_e (part_of c fine.scene fine.amid e (one_mutable z.is_mutable e d fine.written) (left_operand o) h.1 (left-operand-value o) fine.typed.1 both.0 fine.around fine.once.0))

  test_final : (p : Position) (own t : IrType) (c : Context) (k : Destination) (j : ℕ) → AreDimensions t → (usable z).tests t ≡ true → is_based (usable z) t ≡ true → StandsFor z Any own → Sound z.is_mutable c → Writes c.written k → FitsIn (usable z) k Boolean → (w : World) (sc : js.Scope) → OneFinal z lawful c k w sc j own (ir_meaning.test z.place.classes t) (λ es. finish k p Boolean false (core.test_of t (coerced Any own (first_of es))))
  test_final p own t c k j d has based f sound wr fits from before i r e w env s sc u ahead l g ready ks same operand = finish_alike z lawful c k p Boolean (core.test_of t (coerced Any own e)) i sound wr fits w from before env (ir_meaning.in_order (r ∷ []) (ir_meaning.test z.place.classes t) env s) sc u g ks ready s same (any_test_alike z lawful t (stood Any own f.0) d has based (stood-fits Any own f.0) r (coerced Any own e) w env s sc u ready.sees.inside (operand_stood z lawful.base w env sc ready.sees.inside Any own f.0 f.1 r e operand) same)

  cast_final : (p : Position) (own t : IrType) (c : Context) (k : Destination) (j : ℕ) → AreDimensions t → can_cast (usable z) t ≡ true → is_based (usable z) t ≡ true → StandsFor z Any own → Sound z.is_mutable c → Writes c.written k → FitsIn (usable z) k t → (w : World) (sc : js.Scope) → OneFinal z lawful c k w sc j own (ir_meaning.cast z.place.classes z.low t) (λ es. finish k p t false (core.cast_of t (coerced Any own (first_of es))))
  cast_final p own t c k j d has based f sound wr fits from before i r e w env s sc u ahead l g ready ks same operand = finish_alike z lawful c k p t (core.cast_of t (coerced Any own e)) i sound wr fits w from before env (ir_meaning.in_order (r ∷ []) (ir_meaning.cast z.place.classes z.low t) env s) sc u g ks ready s same (any_cast_alike z lawful t (stood Any own f.0) d has based (stood-fits Any own f.0) r (coerced Any own e) w env s sc u ready.sees.inside (operand_stood z lawful.base w env sc ready.sees.inside Any own f.0 f.1 r e operand) same)

  -- the operand of a test or a cast, which is brought to any
  any_operand : (e : Term) → TreeDoes z lawful low e → (c : Context) (j : ℕ) → Outside c (Own e) → (s : Scene) → AmidHere c s → Mutable z.is_mutable (mutable_in e) → IsSub z.place.typing (type_of_term e) Any → Typed z.place.typing (usable z) s e → Makes (operand_boxes (goals_of c.targets) e) → (labels : List (List ℕ)) → Placed c.reaches c.tries labels e → OperandsDo z lawful c j (piece z lawful low c.targets e ∷ [])
  any_operand e does c j out s amid written below typed boxed labels once = (operand_does z lawful low c j e does out (part_of c s amid e written Any below refl typed boxed labels once), tt)

  test_does : (p : Position) (e : Term) (t : IrType) → TreeDoes z lawful low e → TreeDoes z lawful low (is_instance_of p e t)
  test_does p e t does c k j sound ahead out wr fine = of_operands z lawful c k (piece z lawful low c.targets e ∷ []) j (ir_meaning.test z.place.classes t) (λ es. finish k p Boolean false (core.test_of t (coerced Any (type_of_term e) (first_of es)))) sound ahead (any_operand e does c j out fine.scene fine.amid fine.written fine.typed.0.meets.1 fine.typed.1 operand.1 fine.around fine.once) (one_final z lawful c k j (type_of_term e) (ir_meaning.test z.place.classes t) (λ es. finish k p Boolean false (core.test_of t (coerced Any (type_of_term e) (first_of es)))) (test_final p (type_of_term e) t c k j fine.typed.0.finds its.0 its.1 (stands-for z lawful Any (type_of_term e) fine.typed.0.meets.1 operand.0) sound wr (fits-value z.place.typing lawful.base.ordered (usable z) k Boolean fine.asks refl parts.0)))
    where
      its : ((usable z).tests t ≡ true) × (is_based (usable z) t ≡ true)
      its = and_parts ((usable z).tests t) (is_based (usable z) t) fine.typed.0.built

      parts : Makes (is_boxed_at (goal_of k) Boolean) × Makes (is_boxed Any e || operand_boxes (goals_of c.targets) e)
      parts = each (is_boxed_at (goal_of k) Boolean) (is_boxed Any e || operand_boxes (goals_of c.targets) e) fine.boxed

      operand : Makes (is_boxed Any e) × Makes (operand_boxes (goals_of c.targets) e)
      operand = each (is_boxed Any e) (operand_boxes (goals_of c.targets) e) parts.1

  cast_does : (p : Position) (e : Term) (t : IrType) → TreeDoes z lawful low e → TreeDoes z lawful low (as_instance_of p e t)
  cast_does p e t does c k j sound ahead out wr fine = of_operands z lawful c k (piece z lawful low c.targets e ∷ []) j (ir_meaning.cast z.place.classes z.low t) (λ es. finish k p t false (core.cast_of t (coerced Any (type_of_term e) (first_of es)))) sound ahead (any_operand e does c j out fine.scene fine.amid fine.written fine.typed.0.meets.1 fine.typed.1 operand.1 fine.around fine.once) (one_final z lawful c k j (type_of_term e) (ir_meaning.cast z.place.classes z.low t) (λ es. finish k p t false (core.cast_of t (coerced Any (type_of_term e) (first_of es)))) (cast_final p (type_of_term e) t c k j fine.typed.0.finds its.0 its.1 (stands-for z lawful Any (type_of_term e) fine.typed.0.meets.1 operand.0) sound wr (fits-value z.place.typing lawful.base.ordered (usable z) k t fine.asks (cast-value t fine.typed.0.meets.0) parts.0)))
    where
      its : (can_cast (usable z) t ≡ true) × (is_based (usable z) t ≡ true)
      its = and_parts (can_cast (usable z) t) (is_based (usable z) t) fine.typed.0.built

      parts : Makes (is_boxed_at (goal_of k) t) × Makes (is_boxed Any e || operand_boxes (goals_of c.targets) e)
      parts = each (is_boxed_at (goal_of k) t) (is_boxed Any e || operand_boxes (goals_of c.targets) e) fine.boxed

      operand : Makes (is_boxed Any e) × Makes (operand_boxes (goals_of c.targets) e)
      operand = each (is_boxed Any e) (operand_boxes (goals_of c.targets) e) parts.1

  abbrev OperandsFine : Terms → Type 1
  OperandsFine ts = (c : Context) (j : ℕ) → Outside c (OwnAll ts) → (s : Scene) → AmidHere c s → Mutable z.is_mutable (mutable_in_all ts) → (rs : List TypeRef) → ArgumentsFit z.place.typing (usable z) ts rs → TypedAll z.place.typing (usable z) s ts → Makes (operands_box (goals_of c.targets) ts) → (labels : List (List ℕ)) → PlacedAll c.reaches c.tries labels ts → OperandsDo z lawful c j (list_of z lawful low c.targets ts)

  arguments_do : (t : Term) (ts : Terms) → TreeDoes z lawful low t → OperandsFine ts → OperandsFine (more_terms t ts)
  arguments_do t ts does others c j out s amid mut [] fit typed boxed labels once = absurd fit
  arguments_do t ts does others c j out s amid mut (q ∷ rs) fit typed boxed labels once = let parts = each (operand_boxes (goals_of c.targets) t) (operands_box (goals_of c.targets) ts) boxed in (operand_does z lawful low c j t does (outside-part c (OwnAll (more_terms t ts)) (Own t) (λ x o. inl o) out) (part_of c s amid t (of_first z.is_mutable (mutable_in t) (mutable_in_all ts) (front t) mut) (reference_type q) fit.0.0 fit.1 typed.0 parts.0 labels once.0), others c j (outside-part c (OwnAll (more_terms t ts)) (OwnAll ts) (λ x o. inr o) out) s amid (of_second z.is_mutable (mutable_in t) (mutable_in_all ts) (front t) mut) rs fit.2 typed.1 parts.1 labels once.1)

  -- items, each of one type that has values
  abbrev ItemsFine : Terms → Type 1
  ItemsFine ts = (c : Context) (j : ℕ) → Outside c (OwnAll ts) → (s : Scene) → AmidHere c s → Mutable z.is_mutable (mutable_in_all ts) → (t : IrType) → HasValue t → AllFit z.place.typing ts t → TypedAll z.place.typing (usable z) s ts → Makes (operands_box (goals_of c.targets) ts) → (labels : List (List ℕ)) → PlacedAll c.reaches c.tries labels ts → OperandsDo z lawful c j (list_of z lawful low c.targets ts)

  item_and_rest : (e : Term) (ts : Terms) → TreeDoes z lawful low e → ItemsFine ts → ItemsFine (more_terms e ts)
  item_and_rest e ts does others c j out s amid mut t value fit typed boxed labels once = let parts = each (operand_boxes (goals_of c.targets) e) (operands_box (goals_of c.targets) ts) boxed in (operand_does z lawful low c j e does (outside-part c (OwnAll (more_terms e ts)) (Own e) (λ x o. inl o) out) (part_of c s amid e (of_first z.is_mutable (mutable_in e) (mutable_in_all ts) (front e) mut) t fit.0 value typed.0 parts.0 labels once.0), others c j (outside-part c (OwnAll (more_terms e ts)) (OwnAll ts) (λ x o. inr o) out) s amid (of_second z.is_mutable (mutable_in e) (mutable_in_all ts) (front e) mut) t value fit.1 typed.1 parts.1 labels once.1)

  last_does : (t : Term) → TreeDoes z lawful low t → BlockDoes (more_terms t no_terms)
  last_does t does c k j sound ahead out wr scene amid mut i asks typed boxed labels once w env s sc u r same = subst (λ o. Ends z lawful c c.scope k w sc o (into z.is_mutable z.code.sure c.targets k j t).statements sc u) (sym (ap (ir.go_on (ir_meaning.step z.place.classes z.low t env s)) (fun_ext (λ v. refl)) ∙ go_on-given (ir_meaning.step z.place.classes z.low t env s))) (does c k j sound ahead (outside-part c (OwnAll (more_terms t no_terms)) (Own t) (λ x o. inl o) out) wr (tree c scene amid k t mut asks typed boxed labels once.0) w env s sc u r same)

  next_does : (t u : Term) (us : Terms) → TreeDoes z lawful low t → BlockDoes (more_terms u us) → (c : Context) (k : Destination) (j : ℕ) → Sound z.is_mutable c → Ahead c j → Outside c (OwnAll (more_terms t (more_terms u us))) → Writes c.written k → FineHere z lawful low c discard t → (scene : Scene) → AmidHere c scene → Mutable z.is_mutable (mutable_in_all (more_terms u us)) → (i : IrType) → Asks z.place.typing k (type_of_last i (more_terms u us)) → TypedBlock z.place.typing (usable z) scene (more_terms u us) → Makes (last_boxes (goals_of c.targets) (goal_of k) (more_terms u us)) → (labels : List (List ℕ)) → Placed c.reaches c.tries labels t → PlacedAll c.reaches c.tries labels (more_terms u us) → (w : World) (env : ir.Env) (s : ir.State) (sc : js.Scope) (q : js.State) → Ready z.place z.code c.scope c.writable w env sc → SameState z.place w s q → Ends z lawful c c.scope k w sc (ir_meaning.block z.place.classes z.low (more_terms t (more_terms u us)) env s) (block z.is_mutable z.code.sure c.targets k j (more_terms t (more_terms u us))).statements sc q
  next_does t u us does others c k j sound ahead out wr fine scene amid mut i asks typed boxed labels once once_others w env s sc q r same = one_and_rest t (more_terms u us) us c k j c.scope w env s sc q (does c discard j sound ahead (outside-part c (OwnAll (more_terms t (more_terms u us))) (Own t) (λ x o. inl o) out) tt fine w env s sc q r same) (λ y v env s sc' q g ready ks same. rebased z lawful c c.scope k w y sc sc' (ir_meaning.block z.place.classes z.low (more_terms u us) env s) (run z (block z.is_mutable z.code.sure c.targets k (into z.is_mutable z.code.sure c.targets discard j t).next (more_terms u us)).statements sc' q) g ks (others c k (into z.is_mutable z.code.sure c.targets discard j t).next sound (ahead-later z lawful c j (into z.is_mutable z.code.sure c.targets discard j t).next (written z.is_mutable z.code.sure c.reaches c.tries c.targets t discard j once).onward ahead) (outside-part c (OwnAll (more_terms t (more_terms u us))) (OwnAll (more_terms u us)) (λ x o. inr o) out) wr scene amid mut i asks typed boxed labels once_others y env s sc' q ready same))

  abbrev scene_behind : List ℕ → IrType → Bool → Scene → Scene
  scene_behind x t b s = record { owner = s.owner; space = s.space; sure = s.sure; locals = record { name = x; «mutable» = b; tpe = t } ∷ s.locals; labels = s.labels }

  defined_does : (p : Position) (x : List ℕ) (t : IrType) (b : Bool) (e u : Term) (us : Terms) → TreeDoes z lawful low e → BlockDoes (more_terms u us) → BlockDoes (more_terms (var_def p x t b e) (more_terms u us))
  defined_does p x t b e u us does others c k j sound ahead out wr scene amid mut i asks typed boxed labels once w env s sc q r same = one_and_rest (var_def p x t b e) (more_terms u us) us c k j (with_local x t c.scope) w env s sc q (define_does z lawful low p x t b e does c j sound ahead out_first (tree c scene amid discard (var_def p x t b e) (of_first z.is_mutable (mutable_in (var_def p x t b e)) (mutable_in_all (more_terms u us)) (front (var_def p x t b e)) mut) tt typed.0 parts.0 labels once.0) w env s sc q r same) (λ y v env s sc' q g ready ks same. sim_weaken z.direction (Came z.place z.code (behind z c x t) (behind z c x t).scope k y sc') (Came z.place z.code c c.scope k w sc) (ir_meaning.block z.place.classes z.low (more_terms u us) env s) (run z (block z.is_mutable z.code.sure c.targets k next (more_terms u us)).statements sc' q) (came-narrow z lawful c (behind z c x t) (behind z c x t).scope c.scope k w y sc sc' refl refl (λ l h. h) (λ h. h) (none_hidden c x t (λ i. out.scope x i (inl (inl refl)))) (none_hidden c x t (λ i. out.scope x i (inl (inl refl)))) (λ y h. inr h) g ks) (others (behind z c x t) k next (sound-behind c x t sound (out.writable x (inl (inl refl))) (out.kept x (inl (inl refl)))) (ahead-behind c x t next (ahead-later z lawful c j next (written z.is_mutable z.code.sure c.reaches c.tries c.targets (var_def p x t b e) discard j once.0).onward ahead)) (outside-behind c x t (OwnAll (more_terms u us)) (outside-part c (OwnAll (more_terms (var_def p x t b e) (more_terms u us))) (OwnAll (more_terms u us)) (λ x o. inr o) out) (typed.1 x refl)) wr (scene_behind x t b scene) (amid-behind z.place.typing z.is_mutable z.code c.scope (around c) scene x t b amid typed.0.0.finds.0 (of_definition z.is_mutable b x (mutable_in e) (of_first z.is_mutable (mutable_in (var_def p x t b e)) (mutable_in_all (more_terms u us)) (front (var_def p x t b e)) mut))) (of_second z.is_mutable (mutable_in (var_def p x t b e)) (mutable_in_all (more_terms u us)) (front (var_def p x t b e)) mut) NoType asks typed.2 parts.1 labels once.1 y env s sc' q ready same))
    where
      parts : Makes (boxes (goals_of c.targets) Goal.given_up (var_def p x t b e)) × Makes (last_boxes (goals_of c.targets) (goal_of k) (more_terms u us))
      parts = each (boxes (goals_of c.targets) Goal.given_up (var_def p x t b e)) (last_boxes (goals_of c.targets) (goal_of k) (more_terms u us)) boxed

      next : ℕ
      next = (into z.is_mutable z.code.sure c.targets discard j (var_def p x t b e)).next

      out_first : Outside c (Own (var_def p x t b e))
      out_first = outside-part c (OwnAll (more_terms (var_def p x t b e) (more_terms u us))) (Own (var_def p x t b e)) (λ x o. inl o) out

  abbrev CasesDo : Cases → Type 1
  CasesDo cs = (c : Context) (k : Destination) (j : ℕ) → Sound z.is_mutable c → Ahead c j → Outside c (OwnCases cs) → Writes c.written k → (scene : Scene) → AmidHere c scene → Mutable z.is_mutable (mutable_in_cases cs) → (t : IrType) → Asks z.place.typing k t → TypedCases z.place.typing (usable z) scene t cs → Makes (cases_box (goals_of c.targets) (goal_of k) cs) → (labels : List (List ℕ)) → PlacedCases c.reaches c.tries labels cs → CasesAlike z lawful c k (ir_meaning.branches z.place.classes z.low cs) (cases z.is_mutable z.code.sure c.targets k j cs).cases

  case_does : (n : ℤ) (ns : List ℤ) (t : Term) (cs : Cases) → TreeDoes z lawful low t → CasesDo cs → CasesDo (more_cases (n ∷ ns) t cs)
  case_does n ns t cs does others c k j sound ahead out wr scene amid mut i asks typed boxed labels once = with_keys (n ∷ ns) (ir_meaning.step z.place.classes z.low t) code.statements (ir_meaning.branches z.place.classes z.low cs) (cases z.is_mutable z.code.sure c.targets k code.next cs).cases (undeclared-case c code.statements (undeclared c (Own t) j code out_case ahead (written z.is_mutable z.code.sure c.reaches c.tries c.targets t k j once.0))) (does (settled c) k j (sound-settled z c sound) (ahead-settled c j ahead) (outside-settled c (Own t) out_case) wr (tree c scene amid k t (of_first z.is_mutable (mutable_in t) (mutable_in_cases cs) (front t) mut) (yields z.place.typing lawful.base.ordered k t i asks typed.0) typed.1 parts.0 labels once.0)) (others c k code.next sound (ahead-later z lawful c j code.next (written z.is_mutable z.code.sure c.reaches c.tries c.targets t k j once.0).onward ahead) (outside-part c (OwnCases (more_cases (n ∷ ns) t cs)) (OwnCases cs) (λ x o. inr o) out) wr scene amid (of_second z.is_mutable (mutable_in t) (mutable_in_cases cs) (front t) mut) i asks typed.2 parts.1 labels once.1)
    where
      parts : Makes (boxes (goals_of c.targets) (goal_of k) t) × Makes (cases_box (goals_of c.targets) (goal_of k) cs)
      parts = each (boxes (goals_of c.targets) (goal_of k) t) (cases_box (goals_of c.targets) (goal_of k) cs) boxed

      code : Code
      code = into z.is_mutable z.code.sure c.targets k j t

      out_case : Outside c (Own t)
      out_case = outside-part c (OwnCases (more_cases (n ∷ ns) t cs)) (Own t) (λ x o. inl o) out

  match_does : (p : Position) (e : Term) (cs : Cases) (d : Term) (t : IrType) → TreeDoes z lawful low e → CasesDo cs → TreeDoes z lawful low d → TreeDoes z lawful low (match_on p e cs d t)
  match_does p e cs d t does_e do_cases does_d c k j sound ahead out wr fine = of_operands z lawful c k (piece z lawful low c.targets e ∷ []) j (ir_meaning.choose (ir_meaning.branches z.place.classes z.low cs) (ir_meaning.step z.place.classes z.low d)) (λ es i. switch_code p (first_of es) (cases z.is_mutable z.code.sure c.targets k i cs) (λ i. into z.is_mutable z.code.sure c.targets k i d)) sound ahead (operand_does z lawful low c j e does_e (outside-part c (Own (match_on p e cs d t)) (Own e) (λ x o. inl o) out) (part_of c fine.scene fine.amid e (of_first z.is_mutable (mutable_in e) (λ xs. mutable_in_cases cs (mutable_in d xs)) (front e) fine.written) Int fine.typed.0.meets.0 refl fine.typed.1 parts.0 fine.around fine.once.0), tt) (one_final z lawful c k j (type_of_term e) (ir_meaning.choose (ir_meaning.branches z.place.classes z.low cs) (ir_meaning.step z.place.classes z.low d)) (λ es i. switch_code p (first_of es) (cases z.is_mutable z.code.sure c.targets k i cs) (λ i. into z.is_mutable z.code.sure c.targets k i d)) (match_final z lawful c k p (ir_meaning.branches z.place.classes z.low cs) (ir_meaning.step z.place.classes z.low d) (λ i. cases z.is_mutable z.code.sure c.targets k i cs) (λ i. into z.is_mutable z.code.sure c.targets k i d) j sound wr (λ i l. (written_cases z.is_mutable z.code.sure c.reaches c.tries c.targets cs k i fine.once.1).onward) (λ i l ah. do_cases c k i sound ah (outside-part c (Own (match_on p e cs d t)) (OwnCases cs) (λ x o. inr (inl o)) out) wr fine.scene fine.amid (of_first z.is_mutable (mutable_in_cases cs) (mutable_in d) (front_cases cs) (of_second z.is_mutable (mutable_in e) (λ xs. mutable_in_cases cs (mutable_in d xs)) (front e) fine.written)) t fine.asks fine.typed.2 branches_make.0 fine.around fine.once.1) (λ i l ah. undeclared-settled c (into z.is_mutable z.code.sure c.targets k i d).statements (undeclared c (Own d) i (into z.is_mutable z.code.sure c.targets k i d) out_default ah (written z.is_mutable z.code.sure c.reaches c.tries c.targets d k i fine.once.2))) (λ i l ah. does_d (settled c) k i (sound-settled z c sound) (ahead-settled c i ah) (outside-settled c (Own d) out_default) wr (tree c fine.scene fine.amid k d (of_second z.is_mutable (mutable_in_cases cs) (mutable_in d) (front_cases cs) (of_second z.is_mutable (mutable_in e) (λ xs. mutable_in_cases cs (mutable_in d xs)) (front e) fine.written)) (yields z.place.typing lawful.base.ordered k d t fine.asks fine.typed.0.meets.2) fine.typed.3 branches_make.1 fine.around fine.once.2)) (type_of_term e)))
    where
      parts : Makes (operand_boxes (goals_of c.targets) e) × Makes (cases_box (goals_of c.targets) (goal_of k) cs || boxes (goals_of c.targets) (goal_of k) d)
      parts = each (operand_boxes (goals_of c.targets) e) (cases_box (goals_of c.targets) (goal_of k) cs || boxes (goals_of c.targets) (goal_of k) d) fine.boxed

      branches_make : Makes (cases_box (goals_of c.targets) (goal_of k) cs) × Makes (boxes (goals_of c.targets) (goal_of k) d)
      branches_make = each (cases_box (goals_of c.targets) (goal_of k) cs) (boxes (goals_of c.targets) (goal_of k) d) parts.1

      out_default : Outside c (Own d)
      out_default = outside-part c (Own (match_on p e cs d t)) (Own d) (λ x o. inr (inr o)) out

  -- a receiver of a class, by what is known of it
  receiver_of : (c : Context) (j : ℕ) (e : Term) (d : List ℕ) (own : List ℕ → Type 0) → ((x : List ℕ) → Own e x → own x) → TreeDoes z lawful low e → Outside c own → (scene : Scene) → AmidHere c scene → Mutable z.is_mutable (mutable_in e) → IsSub z.place.typing (type_of_term e) (class_type d) → may_check (usable z) scene.sure e ≡ true → Typed z.place.typing (usable z) scene e → Makes (operand_boxes (goals_of c.targets) e) → (labels : List (List ℕ)) → Placed c.reaches c.tries labels e → OperandDoes z lawful c j (receiver_piece z lawful low c.targets e)
  receiver_of c j e d own part does out scene amid mut sub may typed boxed labels once = receiver_does z lawful low c j e does (outside-part c own (Own e) part out) (part_of c scene amid e mut (class_type d) sub (class_has_value d) typed boxed labels once) (may_be_checked (usable z) z.code.sure e (subst (λ (q : List ℕ → Bool). may_check (usable z) q e ≡ true) amid.surely may)) (value_or_nothing z.place.typing lawful.base.ordered (type_of_term e) (class_type d) sub (class_has_value d))

  select_by : (p : Position) (e : Term) (d f : List ℕ) (t : IrType) → TreeDoes z lawful low e → TreeDoes z lawful low (select p e d f t)
  select_by p e d f t does_e c k j sound ahead out wr fine = select_does z lawful low p c k j e d f t sound ahead wr (fits-value z.place.typing lawful.base.ordered (usable z) k t fine.asks (lawful.base.fields d f t its.0).value (each (is_boxed_at (goal_of k) t) (operand_boxes (goals_of c.targets) e) fine.boxed).0) its.0 (receiver_of c j e d (Own e) (λ x o. o) does_e out fine.scene fine.amid fine.written fine.typed.0.meets.0 its.1 fine.typed.1 (each (is_boxed_at (goal_of k) t) (operand_boxes (goals_of c.targets) e) fine.boxed).1 fine.around fine.once)
    where
      its : ((usable z).field d f t ≡ true) × (may_check (usable z) fine.scene.sure e ≡ true)
      its = and_parts ((usable z).field d f t) (may_check (usable z) fine.scene.sure e) fine.typed.0.built

  set_by : (p q : Position) (o : Term) (d f : List ℕ) (t : IrType) (e : Term) → TreeDoes z lawful low o → TreeDoes z lawful low e → (c : Context) (k : Destination) (j : ℕ) → Sound z.is_mutable c → Ahead c j → Outside c (Own (assign p (select q o d f t) e)) → FineHere z lawful low c k (assign p (select q o d f t) e) → IsDiscard k → Does z lawful c k j (assign p (select q o d f t) e)
  set_by p q o d f t e does_o does_e c _ j sound ahead out fine is_discard = by (part_of c fine.scene fine.amid e (other_mutable z.is_mutable o e fine.written) t own.0 (lawful.base.fields d f t there.0).value fine.typed.2 both.1 fine.around fine.once.1)
    where
      there : ((usable z).field d f t ≡ true) × (may_check (usable z) fine.scene.sure o ≡ true)
      there = and_parts ((usable z).field d f t) (may_check (usable z) fine.scene.sure o) fine.typed.0.built

      parts : Makes (is_boxed t e) × Makes (operand_boxes (goals_of c.targets) o || operand_boxes (goals_of c.targets) e)
      parts = each (is_boxed t e) (operand_boxes (goals_of c.targets) o || operand_boxes (goals_of c.targets) e) fine.boxed

      both : Makes (operand_boxes (goals_of c.targets) o) × Makes (operand_boxes (goals_of c.targets) e)
      both = each (operand_boxes (goals_of c.targets) o) (operand_boxes (goals_of c.targets) e) parts.1

      own : FitsType z.place.typing (usable z) e t
      own = fits_there z.place.typing (usable z) e t parts.0 fine.typed.0.meets.1

      fit : StandsFor z t (type_of_term e)
      fit = stands-for z lawful t (type_of_term e) own.0 own.1

      object : OperandDoes z lawful c j (receiver_piece z lawful low c.targets o)
      object = receiver_of c j o d (Own (assign p (select q o d f t) e)) (λ x i. inl i) does_o out fine.scene fine.amid (one_mutable z.is_mutable o e fine.written) fine.typed.1.0.meets.0 there.1 fine.typed.1.1 both.0 fine.around fine.once.0

      by : FineOperand z.place.typing z.is_mutable (usable z) z.code c.scope e (λ y. FineHere z lawful low c (to_variable y (type_of_term e)) e) → Does z lawful c discard j (assign p (select q o d f t) e)
      by (inl h) = set_does z lawful low p q c j o d f t e sound ahead there.0 fit h.plain h object
      by (inr h) = set_spilled z lawful low p q c j o d f t e sound ahead there.0 fit h.0 object (operand_does z lawful low c j e does_e (outside-part c (Own (assign p (select q o d f t) e)) (Own e) (λ x i. inr i) out) (inr h))

  -- arrays
  new_array_by : (p : Position) (r : ArrayRef) (e : Term) → TreeDoes z lawful low e → TreeDoes z lawful low (new_array p r e)
  new_array_by p r e does_e c k j sound ahead out wr fine = new_array_does z lawful low p c k j r e sound ahead wr (fits-value z.place.typing lawful.base.ordered (usable z) k (Array r) fine.asks refl (none_at k (Array r) refl)) fine.typed.0.finds whole.0 its.0 its.1 (fits-lowest z.place.typing lawful.base.ordered Int (type_of_term e) refl fine.typed.0.meets) (operand_does z lawful low c j e does_e out (part_of c fine.scene fine.amid e fine.written Int fine.typed.0.meets refl fine.typed.1 fine.boxed fine.around fine.once))
    where
      whole : ((usable z).arrays ≡ true) × (((usable z).helper (codes "$mk") && has_base (usable z) r.base) ≡ true)
      whole = and_parts (usable z).arrays ((usable z).helper (codes "$mk") && has_base (usable z) r.base) fine.typed.0.built

      its : ((usable z).helper (codes "$mk") ≡ true) × (has_base (usable z) r.base ≡ true)
      its = and_parts ((usable z).helper (codes "$mk")) (has_base (usable z) r.base) whole.1

  array_by : (p : Position) (r : ArrayRef) (ts : Terms) → ItemsFine ts → TreeDoes z lawful low (array_value p r ts)
  array_by p r ts do_all c k j sound ahead out wr fine = array_value_does z lawful low p c k j r ts sound ahead wr (fits-value z.place.typing lawful.base.ordered (usable z) k (Array r) fine.asks refl (none_at k (Array r) refl)) fine.typed.0.finds whole.0 its.0 more.0 (below-is (length (types_of ts)) (2 ^ 31) more.1) (stand-for-each z lawful ts (element_type r) parts.0 fine.typed.0.meets) (do_all c j out fine.scene fine.amid fine.written (element_type r) (element-value r) fine.typed.0.meets fine.typed.1 parts.1 fine.around fine.once)
    where
      whole : ((usable z).arrays ≡ true) × (((usable z).helper (codes "$A") && (has_base (usable z) r.base && are_countable ts)) ≡ true)
      whole = and_parts (usable z).arrays ((usable z).helper (codes "$A") && (has_base (usable z) r.base && are_countable ts)) fine.typed.0.built

      its : ((usable z).helper (codes "$A") ≡ true) × ((has_base (usable z) r.base && are_countable ts) ≡ true)
      its = and_parts ((usable z).helper (codes "$A")) (has_base (usable z) r.base && are_countable ts) whole.1

      more : (has_base (usable z) r.base ≡ true) × (are_countable ts ≡ true)
      more = and_parts (has_base (usable z) r.base) (are_countable ts) its.1

      parts : Makes (any_item_boxed (element_type r) ts) × Makes (operands_box (goals_of c.targets) ts)
      parts = each (any_item_boxed (element_type r) ts) (operands_box (goals_of c.targets) ts) fine.boxed

  -- a receiver of a type with values, by what is known of it
  receiver_below : (c : Context) (j : ℕ) (e : Term) (own : List ℕ → Type 0) → ((x : List ℕ) → Own e x → own x) → TreeDoes z lawful low e → Outside c own → (scene : Scene) → AmidHere c scene → Mutable z.is_mutable (mutable_in e) → IsSub z.place.typing (type_of_term e) Any → may_check (usable z) scene.sure e ≡ true → Typed z.place.typing (usable z) scene e → Makes (operand_boxes (goals_of c.targets) e) → (labels : List (List ℕ)) → Placed c.reaches c.tries labels e → OperandDoes z lawful c j (receiver_piece z lawful low c.targets e)
  receiver_below c j e own part does out scene amid mut sub may typed boxed labels once = receiver_of c j e object own part does out scene amid mut sub may typed boxed labels once

  length_by : (p : Position) (e : Term) → TreeDoes z lawful low e → TreeDoes z lawful low (array_length p e)
  length_by p e does_e c k j sound ahead out wr fine = length_does z lawful low p c k j e sound ahead wr (fits-value z.place.typing lawful.base.ordered (usable z) k Int fine.asks refl (none_at k Int refl)) (receiver_below c j e (Own e) (λ x o. o) does_e out fine.scene fine.amid fine.written (array-below z.place.typing (type_of_term e) fine.typed.0.meets) fine.typed.0.built fine.typed.1 fine.boxed fine.around fine.once)

  item_by : (p : Position) (e i : Term) (t : IrType) → TreeDoes z lawful low e → TreeDoes z lawful low i → TreeDoes z lawful low (array_select p e i t)
  item_by p e i t does_e does_i c k j sound ahead out wr fine = item_does z lawful low p c k j e i t sound ahead wr (fits-value z.place.typing lawful.base.ordered (usable z) k t fine.asks (subst HasValue its.element (element-value its.reference)) parts.0) built.0 its (fits-lowest z.place.typing lawful.base.ordered Int (type_of_term i) refl fine.typed.0.meets.1) (receiver_below c j e (Own (array_select p e i t)) (λ x o. inl o) does_e out fine.scene fine.amid (one_mutable z.is_mutable e i fine.written) (items-below z.place.typing (type_of_term e) t fine.typed.0.meets.0) built.1 fine.typed.1 both.0 fine.around fine.once.0) (operand_does z lawful low c j i does_i (outside-part c (Own (array_select p e i t)) (Own i) (λ x o. inr o) out) (part_of c fine.scene fine.amid i (other_mutable z.is_mutable e i fine.written) Int fine.typed.0.meets.1 refl fine.typed.2 both.1 fine.around fine.once.1))
    where
      built : ((usable z).helper (codes "$get") ≡ true) × (may_check (usable z) fine.scene.sure e ≡ true)
      built = and_parts ((usable z).helper (codes "$get")) (may_check (usable z) fine.scene.sure e) fine.typed.0.built

      its : ItemsOf (type_of_term e) t
      its = items-of (type_of_term e) t fine.typed.0.finds fine.typed.0.meets.0

      parts : Makes (is_boxed_at (goal_of k) t) × Makes (operand_boxes (goals_of c.targets) e || operand_boxes (goals_of c.targets) i)
      parts = each (is_boxed_at (goal_of k) t) (operand_boxes (goals_of c.targets) e || operand_boxes (goals_of c.targets) i) fine.boxed

      both : Makes (operand_boxes (goals_of c.targets) e) × Makes (operand_boxes (goals_of c.targets) i)
      both = each (operand_boxes (goals_of c.targets) e) (operand_boxes (goals_of c.targets) i) parts.1

  item_set_by : (p q : Position) (d i : Term) (t : IrType) (e : Term) → TreeDoes z lawful low d → TreeDoes z lawful low i → TreeDoes z lawful low e → (c : Context) (k : Destination) (j : ℕ) → Sound z.is_mutable c → Ahead c j → Outside c (Own (assign p (array_select q d i t) e)) → FineHere z lawful low c k (assign p (array_select q d i t) e) → IsDiscard k → Does z lawful c k j (assign p (array_select q d i t) e)
  item_set_by p q d i t e does_d does_i does_e c _ j sound ahead out fine is_discard = item_set_does z lawful low p q c j d i t e sound ahead built.0 its (fits-lowest z.place.typing lawful.base.ordered Int (type_of_term i) refl fine.typed.1.1) (stands-for z lawful t (type_of_term e) own.0 own.1) (receiver_below c j d all (λ x o. inl o) does_d out fine.scene fine.amid (one_mutable z.is_mutable d i pair) (items-below z.place.typing (type_of_term d) t fine.typed.1.0) built.1 fine.typed.2 both.0 fine.around fine.once.0) (operand_does z lawful low c j i does_i (outside-part c all (Own i) (λ x o. inr (inl o)) out) (part_of c fine.scene fine.amid i (other_mutable z.is_mutable d i pair) Int fine.typed.1.1 refl fine.typed.3 last.0 fine.around fine.once.1)) (operand_does z lawful low c j e does_e (outside-part c all (Own e) (λ x o. inr (inr o)) out) (part_of c fine.scene fine.amid e (of_second z.is_mutable (mutable_in (array_select q d i t)) (mutable_in e) (front (array_select q d i t)) fine.written) t own.0 (subst HasValue its.element (element-value its.reference)) fine.typed.4 last.1 fine.around fine.once.2))
    where
      all : List ℕ → Type 0
      all = Own (assign p (array_select q d i t) e)

      pair : Mutable z.is_mutable (mutable_in (array_select q d i t))
      pair = of_first z.is_mutable (mutable_in (array_select q d i t)) (mutable_in e) (front (array_select q d i t)) fine.written

      built : (can_put (usable z) t ≡ true) × (may_check (usable z) fine.scene.sure d ≡ true)
      built = and_parts (can_put (usable z) t) (may_check (usable z) fine.scene.sure d) fine.typed.0.built

      its : ItemsOf (type_of_term d) t
      its = items-of (type_of_term d) t fine.typed.0.finds fine.typed.1.0

      parts : Makes (is_boxed t e) × Makes (operand_boxes (goals_of c.targets) d || (operand_boxes (goals_of c.targets) i || operand_boxes (goals_of c.targets) e))
      parts = each (is_boxed t e) (operand_boxes (goals_of c.targets) d || (operand_boxes (goals_of c.targets) i || operand_boxes (goals_of c.targets) e)) fine.boxed

      both : Makes (operand_boxes (goals_of c.targets) d) × Makes (operand_boxes (goals_of c.targets) i || operand_boxes (goals_of c.targets) e)
      both = each (operand_boxes (goals_of c.targets) d) (operand_boxes (goals_of c.targets) i || operand_boxes (goals_of c.targets) e) parts.1

      last : Makes (operand_boxes (goals_of c.targets) i) × Makes (operand_boxes (goals_of c.targets) e)
      last = each (operand_boxes (goals_of c.targets) i) (operand_boxes (goals_of c.targets) e) both.1

      own : FitsType z.place.typing (usable z) e t
      own = fits_there z.place.typing (usable z) e t parts.0 fine.typed.0.meets.1

  static_by : (p : Position) (d f : List ℕ) (t : IrType) → TreeDoes z lawful low (select_static p d f t)
  static_by p d f t c k j sound ahead out wr fine w env s sc u r same = finish_alike z lawful c k p t (core.static_of d f) j sound wr (fits-value z.place.typing lawful.base.ordered (usable z) k t fine.asks (lawful.base.statics d f t (read_static (usable z) d f t fine.typed.built)).value fine.boxed) w w sc env (ir_meaning.value_or_wrong (s.statics d f) env s) sc u (grows-refl w) (keeps-refl z c.kept sc) r s same (static_alike z lawful.base d f t fine.typed.built w env s sc u r.sees.inside same)

  set_static_by : (p q : Position) (d f : List ℕ) (t : IrType) (e : Term) → TreeDoes z lawful low e → (c : Context) (k : Destination) (j : ℕ) → Sound z.is_mutable c → Ahead c j → Outside c (Own e) → FineHere z lawful low c k (assign p (select_static q d f t) e) → IsDiscard k → Does z lawful c k j (assign p (select_static q d f t) e)
  set_static_by p q d f t e does c _ j sound ahead out fine is_discard = of_operands z lawful c discard (piece z lawful low c.targets e ∷ []) j (ir_meaning.assign_static d f) (λ es. one (core.assign_static (Some p) d f (coerced t (type_of_term e) (first_of es)))) sound ahead (operand_does z lawful low c j e does out (part_of c fine.scene fine.amid e fine.written t own.0 (lawful.base.statics d f t (set_static (usable z) d f t fine.typed.0.built)).value fine.typed.2 parts.1 fine.around fine.once), tt) (one_final z lawful c discard j (type_of_term e) (ir_meaning.assign_static d f) (λ es. one (core.assign_static (Some p) d f (coerced t (type_of_term e) (first_of es)))) (set_static_final z lawful low c p j d f t (type_of_term e) fine.typed.0.built (stands-for z lawful t (type_of_term e) own.0 own.1)))
    where
      parts : Makes (is_boxed t e) × Makes (operand_boxes (goals_of c.targets) e)
      parts = each (is_boxed t e) (operand_boxes (goals_of c.targets) e) fine.boxed

      own : FitsType z.place.typing (usable z) e t
      own = fits_there z.place.typing (usable z) e t parts.0 fine.typed.0.meets.1

  load_by : (p : Position) (d : List ℕ) → TreeDoes z lawful low (load_module p d)
  load_by p d c k j sound ahead out wr fine w env s sc u r same = finish_alike z lawful c k p (class_type d) (core.module_of d) j sound wr (fits-value z.place.typing lawful.base.ordered (usable z) k (class_type d) fine.asks (class_has_value d) fine.boxed) w w sc env (ir_meaning.load z.place.classes z.low d (s.cells d) env s) sc u (grows-refl w) (keeps-refl z c.kept sc) r s same (load_alike z lawful d fine.typed.built w env s sc u r.sees.inside same)

  store_by : (p : Position) (d : List ℕ) (e : Term) → TreeDoes z lawful low e → (c : Context) (k : Destination) (j : ℕ) → Sound z.is_mutable c → Ahead c j → Outside c (Own e) → FineHere z lawful low c k (store_module p d e) → IsDiscard k → Does z lawful c k j (store_module p d e)
  store_by p d e does c _ j sound ahead out fine is_discard = of_operands z lawful c discard (piece z lawful low c.targets e ∷ []) j (ir_meaning.store d) (λ es. one (core.store_module_of (Some p) d (coerced (class_type d) (type_of_term e) (first_of es)))) sound ahead (operand_does z lawful low c j e does out (part_of c fine.scene fine.amid e fine.written (class_type d) own.0 (class_has_value d) fine.typed.1 parts.1 fine.around fine.once), tt) (one_final z lawful c discard j (type_of_term e) (ir_meaning.store d) (λ es. one (core.store_module_of (Some p) d (coerced (class_type d) (type_of_term e) (first_of es)))) (store_final z lawful low c p j d (type_of_term e) fine.typed.0.built (stands-for z lawful (class_type d) (type_of_term e) own.0 own.1)))
    where
      parts : Makes (is_boxed (class_type d) e) × Makes (operand_boxes (goals_of c.targets) e)
      parts = each (is_boxed (class_type d) e) (operand_boxes (goals_of c.targets) e) fine.boxed

      own : FitsType z.place.typing (usable z) e (class_type d)
      own = fits_there z.place.typing (usable z) e (class_type d) parts.0 fine.typed.0.meets

  new_by : (p : Position) (d : List ℕ) (m : MethodName) (ts : Terms) → OperandsFine ts → TreeDoes z lawful low (new_object p d m ts)
  new_by p d m ts do_all c k j sound ahead out wr fine = new_does z lawful low p c k j d m ts sound ahead wr (fits-value z.place.typing lawful.base.ordered (usable z) k (class_type d) fine.asks (class_has_value d) parts.0) its.1 its.0 (lawful.base.objects d its.0) (stand-for-all z lawful ts m.params arguments) (do_all c j out fine.scene fine.amid fine.written m.params arguments fine.typed.1 passed.1 fine.around fine.once)
    where
      its : ((usable z).made d ≡ true) × ((usable z).built (member d Constructor m) ≡ true)
      its = and_parts ((usable z).made d) ((usable z).built (member d Constructor m)) fine.typed.0.built

      parts : Makes (is_boxed_at (goal_of k) (class_type d)) × Makes (any_is_boxed m.params ts || operands_box (goals_of c.targets) ts)
      parts = each (is_boxed_at (goal_of k) (class_type d)) (any_is_boxed m.params ts || operands_box (goals_of c.targets) ts) fine.boxed

      passed : Makes (any_is_boxed m.params ts) × Makes (operands_box (goals_of c.targets) ts)
      passed = each (any_is_boxed m.params ts) (operands_box (goals_of c.targets) ts) parts.1

      arguments : ArgumentsFit z.place.typing (usable z) ts m.params
      arguments = arguments_there z.place.typing (usable z) ts m.params passed.0 fine.typed.0.finds fine.typed.0.meets.1

  throw_by : (p : Position) (e : Term) → TreeDoes z lawful low e → TreeDoes z lawful low (throw p e)
  throw_by p e does_e c k j sound ahead out wr fine = throw_does z lawful low p c k j e sound ahead (stands-for z lawful Any (type_of_term e) own.0 own.1) (operand_does z lawful low c j e does_e out (part_of c fine.scene fine.amid e fine.written Any own.0 refl fine.typed.1 parts.1 fine.around fine.once))
    where
      parts : Makes (is_boxed Any e) × Makes (operand_boxes (goals_of c.targets) e)
      parts = each (is_boxed Any e) (operand_boxes (goals_of c.targets) e) fine.boxed

      own : FitsType z.place.typing (usable z) e Any
      own = fits_there z.place.typing (usable z) e Any parts.0 fine.typed.0.meets

  this_by : (p : Position) (t : IrType) → TreeDoes z lawful low (this_ref p t)
  this_by p t c k j sound ahead out wr fine = this_does z lawful low p c k j t sound wr (fits-value z.place.typing lawful.base.ordered (usable z) k t fine.asks (subst HasValue (sym fine.typed.finds.1) (class_has_value fine.scene.owner)) fine.boxed) (plain_here c k fine none_made refl tt)

  -- what is made in a call on a receiver: of its value, of what it hands over, and in its operands
  called : (e : Term) (m : MethodName) (ts : Terms) (t : IrType) (c : Context) (k : Destination) → Makes (is_boxed_at (goal_of k) t || ((is_boxed Any e || any_is_boxed m.params ts) || (operand_boxes (goals_of c.targets) e || operands_box (goals_of c.targets) ts))) → Makes (is_boxed_at (goal_of k) t) × Makes (is_boxed Any e || any_is_boxed m.params ts) × Makes (operand_boxes (goals_of c.targets) e) × Makes (operands_box (goals_of c.targets) ts)
  called e m ts t c k boxed =
      let parts = each (is_boxed_at (goal_of k) t) ((is_boxed Any e || any_is_boxed m.params ts) || (operand_boxes (goals_of c.targets) e || operands_box (goals_of c.targets) ts)) boxed in
      let inner = each (is_boxed Any e || any_is_boxed m.params ts) (operand_boxes (goals_of c.targets) e || operands_box (goals_of c.targets) ts) parts.1 in
      let operands = each (operand_boxes (goals_of c.targets) e) (operands_box (goals_of c.targets) ts) inner.1 in
      (parts.0, inner.0, operands.0, operands.1)

  -- a call on a receiver: of a private or a public member, or of a constructor with a value
  receive_by : (p : Position) (e : Term) (d : List ℕ) (n : Namespace) (m : MethodName) (ts : Terms) (t : IrType) → TreeDoes z lawful low e → OperandsFine ts → (c : Context) (k : Destination) (j : ℕ) → Sound z.is_mutable c → Ahead c j → Outside c (Own (apply_statically p e d n m ts t)) → Writes c.written k → (fine : FineHere z lawful low c k (apply_statically p e d n m ts t)) → Received z.place.typing (usable z) (may_check (usable z) fine.scene.sure) e d n m ts → Does z lawful c k j (apply_statically p e d n m ts t)
  receive_by p e d n m ts t does_e do_all c k j sound ahead out wr fine its = receive_does z lawful low p c k j e d n m ts t sound ahead wr (fits z.place.typing lawful.base.ordered (usable z) k t fine.asks (result_is m.result t fine.typed.0.meets.1) (called e m ts t c k fine.boxed).0) its.there fine.typed.0.meets.1 (stands-for z lawful (class_type d) (type_of_term e) its.below its.stands) (stand-for-all z lawful ts m.params its.arguments) (receiver_of c j e d (Own (apply_statically p e d n m ts t)) (λ x o. inl o) does_e out fine.scene fine.amid (of_first z.is_mutable (mutable_in e) (mutable_in_all ts) (front e) fine.written) fine.typed.0.meets.2 its.may_be fine.typed.1 (called e m ts t c k fine.boxed).2 fine.around fine.once.0, do_all c j (outside-part c (Own (apply_statically p e d n m ts t)) (OwnAll ts) (λ x o. inr o) out) fine.scene fine.amid (of_second z.is_mutable (mutable_in e) (mutable_in_all ts) (front e) fine.written) m.params its.arguments fine.typed.2 (called e m ts t c k fine.boxed).3 fine.around fine.once.1)

  construct_by : (p : Position) (e : Term) (d : List ℕ) (m : MethodName) (ts : Terms) (t : IrType) → TreeDoes z lawful low e → OperandsFine ts → (c : Context) (k : Destination) (j : ℕ) → Sound z.is_mutable c → Ahead c j → Outside c (Own (apply_statically p e d Constructor m ts t)) → (fine : FineHere z lawful low c k (apply_statically p e d Constructor m ts t)) → Constructed z.place.typing (usable z) fine.scene e d m ts t → IsDiscard k → Does z lawful c k j (apply_statically p e d Constructor m ts t)
  construct_by p e d m ts t does_e do_all c _ j sound ahead out fine its is_discard = construct_does z lawful low p c j e d m ts t sound ahead its.there (stands-for z lawful (class_type d) (type_of_term e) its.below its.stands) (stand-for-all z lawful ts m.params its.arguments) (receiver_does z lawful low c j e does_e (outside-part c (Own (apply_statically p e d Constructor m ts t)) (Own e) (λ x o. inl o) out) (part_of c fine.scene fine.amid e (of_first z.is_mutable (mutable_in e) (mutable_in_all ts) (front e) fine.written) (class_type d) fine.typed.0.meets.2 (class_has_value d) fine.typed.1 (called e m ts t c discard fine.boxed).2 fine.around fine.once.0) (inl (subst (λ (q : List ℕ → Bool). is_sure q e ≡ true) fine.amid.surely its.surely)) (inl its.value), do_all c j (outside-part c (Own (apply_statically p e d Constructor m ts t)) (OwnAll ts) (λ x o. inr o) out) fine.scene fine.amid (of_second z.is_mutable (mutable_in e) (mutable_in_all ts) (front e) fine.written) m.params its.arguments fine.typed.2 (called e m ts t c discard fine.boxed).3 fine.around fine.once.1)

  statically_does : (p : Position) (e : Term) (d : List ℕ) (n : Namespace) (m : MethodName) (ts : Terms) (t : IrType) → TreeDoes z lawful low e → OperandsFine ts → TreeDoes z lawful low (apply_statically p e d n m ts t)
  statically_does p e d Private m ts t does_e do_all c k j sound ahead out wr fine = receive_by p e d Private m ts t does_e do_all c k j sound ahead out wr fine (received z.place.typing (usable z) (may_check (usable z) fine.scene.sure) e d Private m ts fine.typed.0.built (called e m ts t c k fine.boxed).1 fine.typed.0.finds fine.typed.0.meets.2 fine.typed.0.meets.3)
  statically_does p e d Public m ts t does_e do_all c k j sound ahead out wr fine = receive_by p e d Public m ts t does_e do_all c k j sound ahead out wr fine (received z.place.typing (usable z) (may_check (usable z) fine.scene.sure) e d Public m ts fine.typed.0.built (called e m ts t c k fine.boxed).1 fine.typed.0.finds fine.typed.0.meets.2 fine.typed.0.meets.3)
  statically_does p e d Constructor m ts t does_e do_all c k j sound ahead out wr fine = by (is_no_type t) refl
    where
      by : (b : Bool) → is_no_type t ≡ b → Does z lawful c k j (apply_statically p e d Constructor m ts t)
      by true none = let its = constructed z.place.typing (usable z) fine.scene p e d m ts t none (called e m ts t c k fine.boxed).1 fine.typed in construct_by p e d m ts t does_e do_all c k j sound ahead out fine its (given_up z.place.typing lawful.base.ordered k (subst (Asks z.place.typing k) its.none fine.asks))
      by false value = receive_by p e d Constructor m ts t does_e do_all c k j sound ahead out wr fine (received z.place.typing (usable z) (may_check (usable z) fine.scene.sure) e d Constructor m ts (with_value (usable z) d m t (may_check (usable z) fine.scene.sure e) value fine.typed.0.built) (called e m ts t c k fine.boxed).1 fine.typed.0.finds fine.typed.0.meets.2 fine.typed.0.meets.3)
  statically_does p e d n m ts t does_e do_all c k j sound ahead out wr fine = impossible fine.typed.0.built

  -- a call that is looked up, on a receiver of a hijacked class: a call of the member that this class runs
  directly_does : (p : Position) (e : Term) (m : MethodName) (ts : Terms) (t : IrType) → TreeDoes z lawful low e → OperandsFine ts → (c : Context) (k : Destination) (j : ℕ) → Sound z.is_mutable c → Ahead c j → Outside c (Own (apply p e m ts t)) → Writes c.written k → (fine : FineHere z lawful low c k (apply p e m ts t)) → Direct z.place.typing (usable z) fine.scene p e m ts t → Does z lawful c k j (apply p e m ts t)
  directly_does p e m ts t does_e do_all c k j sound ahead out wr fine d w env s sc u r same = subst (λ o. Ends z lawful c c.scope k w sc o (into z.is_mutable z.code.sure c.targets k j (apply p e m ts t)).statements sc u) ((λ i. ir_meaning.in_order (received ∷ ir_meaning.operands z.place.classes z.low ts) (sym runs i) env s) ∙ (λ i. ir_meaning.in_order (sym takes i ∷ ir_meaning.operands z.place.classes z.low ts) (ir_meaning.call_method z.place.classes z.low (type_of_term e) m m.result) env s)) (subst (λ (a : Code). Ends z lawful c c.scope k w sc (ir_meaning.step z.place.classes z.low (apply_statically p e d.is.direct.class Public m ts t) env s) a.statements sc u) (sym same_code) (statically_does p e d.is.direct.class Public m ts t does_e do_all c k j sound ahead out wr its w env s sc u r same))
    where
      its : FineHere z lawful low c k (apply_statically p e d.is.direct.class Public m ts t)
      its = record { scene = fine.scene; amid = fine.amid; around = fine.around; once = fine.once; written = fine.written; asks = fine.asks; typed = (d.here, fine.typed.1, fine.typed.2); boxed = fine.boxed }

      received : ir.Run
      received = ir_meaning.receiving z.place.classes (is_sure env.sure e) z.low (ir_meaning.step z.place.classes z.low e)

      runs : ir_meaning.call_method z.place.classes z.low (type_of_term e) m m.result ≡ ir_meaning.call_on z.place.classes z.low (ir_meaning.static_target z.place.classes d.is.direct.class Public m)
      runs = hijacked_call z.place.classes z.low (type_of_term e) m d.is.direct.class d.is.direct.receiver d.is.direct.hijacked d.is.result d.is.named

      takes : ir_meaning.taking z.place.classes (ir_meaning.class_looked_up (type_of_term e) m.result) received ≡ received
      takes = takes_any z.place.classes z.low (type_of_term e) m d.is.direct.class d.is.direct.receiver d.is.direct.hijacked received

      same_code : into z.is_mutable z.code.sure c.targets k j (apply p e m ts t) ≡ into z.is_mutable z.code.sure c.targets k j (apply_statically p e d.is.direct.class Public m ts t)
      same_code = ap (λ q. then_use (spill (receiver z.is_mutable z.code.sure e (λ k j. into z.is_mutable z.code.sure c.targets k j e) ∷ operands z.is_mutable z.code.sure c.targets ts) j) (λ es. finish k p t false (core.receiver_call q (coerced_receiver (type_of_term e) (first_of es)) (expressions_of (coerced_arguments m.params (types_of ts) (rest_of es)))))) d.is.callee

  -- one on an instance of a class
  instance_does : (p : Position) (e : Term) (m : MethodName) (ts : Terms) (t : IrType) → TreeDoes z lawful low e → OperandsFine ts → (c : Context) (k : Destination) (j : ℕ) → Sound z.is_mutable c → Ahead c j → Outside c (Own (apply p e m ts t)) → Writes c.written k → (fine : FineHere z lawful low c k (apply p e m ts t)) → OnInstances z lawful fine.scene e m → Does z lawful c k j (apply p e m ts t)
  instance_does p e m ts t does_e do_all c k j sound ahead out wr fine d w env s sc u r same = subst (λ i. Goal received_run called_so (text_by (callee_of (type_of_term e) m)) i) (sym fine.typed.0.meets.1) (subst (λ q. Goal received_run called_so (text_by q) (call_type m.result)) (sym d.called) (subst (λ run. Goal run called_so (text_by d.way.callee) (call_type m.result)) (sym (d.takes (received env.sure))) (subst (λ a. Goal (taken env.sure) a (text_by d.way.callee) (call_type m.result)) (sym d.runs) (subst (λ q. Goal (taken q) act (text_by d.way.callee) (call_type m.result)) (sym r.sees.sure) (subst (λ os. Ends z lawful c c.scope k w sc (ir_meaning.in_order (taken z.code.sure ∷ ir_meaning.operands z.place.classes z.low ts) act env s) (then_use (spill ((receiver_piece z lawful low c.targets e).here ∷ os) j) (λ es. finish k p (call_type m.result) false (text_by d.way.callee es))).statements sc u) (sym (operands-list z lawful low c.targets ts)) (subst (λ rs. Ends z lawful c c.scope k w sc (ir_meaning.in_order (taken z.code.sure ∷ rs) act env s) (then_use (spill (operands_in z lawful (receiver_piece z lawful low c.targets e ∷ list_of z lawful low c.targets ts)) j) (λ es. finish k p (call_type m.result) false (text_by d.way.callee es))).statements sc u) (sym (runs-list z lawful low c.targets ts)) (looked_up z lawful low fine.scene e m d ts fit c k p sound wr (subst (FitsIn (usable z) k) fine.typed.0.meets.1 (fits z.place.typing lawful.base.ordered (usable z) k t fine.asks (result_is m.result t fine.typed.0.meets.1) makes.0)) j ahead ds w env s sc u r same)))))))
    where
      act : List ir.Value → ir.Run
      act = ir_meaning.call_instance z.place.classes z.low d.class m

      called_so : List ir.Value → ir.Run
      called_so = ir_meaning.call_method z.place.classes z.low (type_of_term e) m m.result

      received : (List ℕ → Bool) → ir.Run
      received q = ir_meaning.receiving z.place.classes (is_sure q e) z.low (ir_meaning.step z.place.classes z.low e)

      received_run : ir.Run
      received_run = ir_meaning.taking z.place.classes (ir_meaning.class_looked_up (type_of_term e) m.result) (received env.sure)

      taken : (List ℕ → Bool) → ir.Run
      taken q = as_instances z d.class (received q)

      text_by : Callee → List core.Expression → core.Expression
      text_by q es = core.receiver_call q (coerced_receiver (type_of_term e) (first_of es)) (expressions_of (coerced_arguments m.params (types_of ts) (rest_of es)))

      Goal : ir.Run → (List ir.Value → ir.Run) → (List core.Expression → core.Expression) → IrType → Type 0
      Goal run a text i = Ends z lawful c c.scope k w sc (ir_meaning.in_order (run ∷ ir_meaning.operands z.place.classes z.low ts) a env s) (then_use (spill (receiver z.is_mutable z.code.sure e (λ k j. into z.is_mutable z.code.sure c.targets k j e) ∷ operands z.is_mutable z.code.sure c.targets ts) j) (λ es. finish k p i false (text es))).statements sc u

      makes : Makes (is_boxed_at (goal_of k) t) × Makes (is_boxed Any e || any_is_boxed m.params ts) × Makes (operand_boxes (goals_of c.targets) e) × Makes (operands_box (goals_of c.targets) ts)
      makes = called e m ts t c k fine.boxed

      arguments : ArgumentsFit z.place.typing (usable z) ts m.params
      arguments = (looked_stand z.place.typing (usable z) e d.class m ts makes.1 fine.typed.0.finds fine.typed.0.meets.2).1

      fit : StandForAll z (types_referred m.params) (types_of ts)
      fit = stand-for-all z lawful ts m.params arguments

      ds : OperandsDo z lawful c j (receiver_piece z lawful low c.targets e ∷ list_of z lawful low c.targets ts)
      ds = (receiver_of c j e d.class (Own (apply p e m ts t)) (λ x o. inl o) does_e out fine.scene fine.amid (of_first z.is_mutable (mutable_in e) (mutable_in_all ts) (front e) fine.written) d.below d.checked fine.typed.1 makes.2 fine.around fine.once.0, do_all c j (outside-part c (Own (apply p e m ts t)) (OwnAll ts) (λ x o. inr o) out) fine.scene fine.amid (of_second z.is_mutable (mutable_in e) (mutable_in_all ts) (front e) fine.written) m.params arguments fine.typed.2 makes.3 fine.around fine.once.1)

  -- one by a reflective name
  named_does : (p : Position) (e : Term) (m : MethodName) (ts : Terms) (t : IrType) → TreeDoes z lawful low e → OperandsFine ts → (c : Context) (k : Destination) (j : ℕ) → Sound z.is_mutable c → Ahead c j → Outside c (Own (apply p e m ts t)) → Writes c.written k → (fine : FineHere z lawful low c k (apply p e m ts t)) → ByName z.place.typing (usable z) fine.scene e m → Does z lawful c k j (apply p e m ts t)
  named_does p e m ts t does_e do_all c k j sound ahead out wr fine d w env s sc u r same = subst (λ (q : Callee). Goal q m.result) (sym d.is.callee) (subst (λ (o : Option TypeRef). Goal (callees.Reflective m) o) (sym d.is.named) (reflect_does z lawful low p c k j e m ts t sound ahead wr (fits z.place.typing lawful.base.ordered (usable z) k t fine.asks (result_is m.result t fine.typed.0.meets.1) makes.0) d.is.there (fine.typed.0.meets.1 ∙ ap call_type d.is.named) on fit ds w env s sc u r same))
    where
      Goal : Callee → Option TypeRef → Type 0
      Goal q o = Ends z lawful c c.scope k w sc (ir_meaning.in_order (ir_meaning.taking z.place.classes (ir_meaning.class_looked_up (type_of_term e) o) (ir_meaning.receiving z.place.classes (is_sure env.sure e) z.low (ir_meaning.step z.place.classes z.low e)) ∷ ir_meaning.operands z.place.classes z.low ts) (ir_meaning.call_method z.place.classes z.low (type_of_term e) m o) env s) (then_use (spill (receiver z.is_mutable z.code.sure e (λ k j. into z.is_mutable z.code.sure c.targets k j e) ∷ operands z.is_mutable z.code.sure c.targets ts) j) (λ es. finish k p t false (core.receiver_call q (coerced_receiver (type_of_term e) (first_of es)) (expressions_of (coerced_arguments m.params (types_of ts) (rest_of es)))))).statements sc u

      makes : Makes (is_boxed_at (goal_of k) t) × Makes (is_boxed Any e || any_is_boxed m.params ts) × Makes (operand_boxes (goals_of c.targets) e) × Makes (operands_box (goals_of c.targets) ts)
      makes = called e m ts t c k fine.boxed

      may : MayStand (usable z) (class_type object) (type_of_term e) × ArgumentsFit z.place.typing (usable z) ts m.params
      may = looked_stand z.place.typing (usable z) e object m ts makes.1 fine.typed.0.finds fine.typed.0.meets.2

      on : StandsFor z (class_type object) (type_of_term e)
      on = stands-for z lawful (class_type object) (type_of_term e) (to_any refl d.value) may.0

      fit : StandForAll z (types_referred m.params) (types_of ts)
      fit = stand-for-all z lawful ts m.params may.1

      ds : OperandsDo z lawful c j (receiver_piece z lawful low c.targets e ∷ list_of z lawful low c.targets ts)
      ds = (receiver_of c j e object (Own (apply p e m ts t)) (λ x o. inl o) does_e out fine.scene fine.amid (of_first z.is_mutable (mutable_in e) (mutable_in_all ts) (front e) fine.written) (to_any refl d.value) d.checked fine.typed.1 makes.2 fine.around fine.once.0, do_all c j (outside-part c (Own (apply p e m ts t)) (OwnAll ts) (λ x o. inr o) out) fine.scene fine.amid (of_second z.is_mutable (mutable_in e) (mutable_in_all ts) (front e) fine.written) m.params may.1 fine.typed.2 makes.3 fine.around fine.once.1)

  applied_does : (p : Position) (e : Term) (m : MethodName) (ts : Terms) (t : IrType) → TreeDoes z lawful low e → OperandsFine ts → TreeDoes z lawful low (apply p e m ts t)
  applied_does p e m ts t does_e do_all c k j sound ahead out wr fine = by (applied z.place.typing (usable z) fine.scene p e m ts t fine.typed.0)
    where
      by : Applied z.place.typing (usable z) fine.scene p e m ts t → Does z lawful c k j (apply p e m ts t)
      by (directly d) = directly_does p e m ts t does_e do_all c k j sound ahead out wr fine d
      by (by_name d) = named_does p e m ts t does_e do_all c k j sound ahead out wr fine d
      by (on_array d) = instance_does p e m ts t does_e do_all c k j sound ahead out wr fine (by_array z lawful fine.scene e m d)
      by (by_lookup d) = instance_does p e m ts t does_e do_all c k j sound ahead out wr fine (by_class z lawful fine.scene e m d (looked_stand z.place.typing (usable z) e d.is.lookup.class m ts (called e m ts t c k fine.boxed).1 fine.typed.0.finds fine.typed.0.meets.2).0)

  mutual
    pub does : (t : Term) → TreeDoes z lawful low t
    does (var_def p x t b e) = λ c k j sound ahead out wr fine. var_by p x t b e (does e) c k j sound ahead out fine (given_up z.place.typing lawful.base.ordered k fine.asks)
    does (skip p) = λ c k j sound ahead out wr fine. skip_by p c k (given_up z.place.typing lawful.base.ordered k fine.asks)
    does (block_of p ts) = λ c k j sound ahead out wr fine. block_does ts c k j sound ahead out wr fine.scene fine.amid fine.written NoType fine.asks fine.typed fine.boxed fine.around fine.once
    does (labeled p l t e) = labeled_does p l t e (does e)
    does (assign p (var_ref q x t) e) = λ c k j sound ahead out wr fine. assign_by p q x t e (does e) c k j sound ahead out fine (given_up z.place.typing lawful.base.ordered k fine.asks)
    does (assign p (select q o d f t) e) = λ c k j sound ahead out wr fine. set_by p q o d f t e (does o) (does e) c k j sound ahead out fine (given_up z.place.typing lawful.base.ordered k fine.asks)
    does (assign p (array_select q d i t) e) = λ c k j sound ahead out wr fine. item_set_by p q d i t e (does d) (does i) (does e) c k j sound ahead out fine (given_up z.place.typing lawful.base.ordered k fine.asks)
    does (assign p (select_static q d f t) e) = λ c k j sound ahead out wr fine. set_static_by p q d f t e (does e) c k j sound ahead out fine (given_up z.place.typing lawful.base.ordered k fine.asks)
    does (return_to p e l) = return_does p e l (does e)
    does (try_catch p e x d t) = try_does p e x d t (does e) (does d)
    does (try_finally p e d) = finally_does p e d (does e) (does d)
    does (if_then p a b d t) = if_does p a b d t (does a) (does b) (does d)
    does (while_loop p a b) = while_does z lawful low p a b (does a) (does b)
    does (do_while p b a) = do_does z lawful low p b a (does b) (does a)
    does (throw p e) = throw_by p e (does e)
    does (match_on p e cs d t) = match_does p e cs d t (does e) (cases_do cs) (does d)
    does (new_object p d m ts) = new_by p d m ts (operands_do ts)
    does (select p e d f t) = select_by p e d f t (does e)
    does (apply p e m ts t) = applied_does p e m ts t (does e) (operands_do ts)
    does (apply_statically p e d n m ts t) = statically_does p e d n m ts t (does e) (operands_do ts)
    does (select_static p d f t) = static_by p d f t
    does (load_module p d) = load_by p d
    does (store_module p d e) = λ c k j sound ahead out wr fine. store_by p d e (does e) c k j sound ahead out fine (given_up z.place.typing lawful.base.ordered k fine.asks)
    does (this_ref p t) = this_by p t
    does (apply_static p cn n m ts t) = λ c k j sound ahead out wr fine.
        let parts = each (is_boxed_at (goal_of k) t) (any_is_boxed m.params ts || operands_box (goals_of c.targets) ts) fine.boxed in
        let passed = each (any_is_boxed m.params ts) (operands_box (goals_of c.targets) ts) parts.1 in
        let arguments = arguments_there z.place.typing (usable z) ts m.params passed.0 fine.typed.0.finds fine.typed.0.meets.2 in
        call_does z lawful low p c k j m cn n ts t sound ahead wr (fits z.place.typing lawful.base.ordered (usable z) k t fine.asks (result_is m.result t fine.typed.0.meets.1) parts.0) fine.typed.0.built fine.typed.0.meets.1 (stand-for-all z lawful ts m.params arguments) (operands_do ts c j out fine.scene fine.amid fine.written m.params arguments fine.typed.1 passed.1 fine.around fine.once)
    does (unary_op p o e) = unary_does p o e (does e)
    does (binary_op p o e d) = binary_does p o e d (does e) (does d)
    does (new_array p r e) = new_array_by p r e (does e)
    does (array_value p r ts) = array_by p r ts (items_do ts)
    does (array_length p e) = length_by p e (does e)
    does (array_select p e i t) = item_by p e i t (does e) (does i)
    does (is_instance_of p e t) = test_does p e t (does e)
    does (as_instance_of p e t) = cast_does p e t (does e)
    does (undefined_literal p) = λ c k j sound ahead out wr fine. quiet z lawful low (undefined_literal p) c k p core.undefined_value j (λ env. ir.undefined) sound wr (fits-value z.place.typing lawful.base.ordered (usable z) k Undefined fine.asks refl (none_at k Undefined refl)) (plain_here c k fine none_made refl tt) refl (λ w env s sc r. refl)
    does (null_literal p) = λ c k j sound ahead out wr fine. quiet z lawful low (null_literal p) c k p core.null_value j (λ env. ir.null) sound wr (fits-value z.place.typing lawful.base.ordered (usable z) k Null fine.asks refl (none_at k Null refl)) (plain_here c k fine none_made refl tt) refl (λ w env s sc r. refl)
    does (boolean_literal p b) = λ c k j sound ahead out wr fine. quiet z lawful low (boolean_literal p b) c k p (core.boolean_value b) j (λ env. ir.boolean b) sound wr (fits-value z.place.typing lawful.base.ordered (usable z) k Boolean fine.asks refl (none_at k Boolean refl)) (plain_here c k fine none_made refl tt) refl (λ w env s sc r. refl)
    does (char_literal p n) = λ c k j sound ahead out wr fine. quiet z lawful low (char_literal p n) c k p (core.number_value (pos n)) j (λ env. ir.char n) sound wr (fits-value z.place.typing lawful.base.ordered (usable z) k Char fine.asks refl fine.boxed) (plain_here c k fine none_made refl tt) refl (λ w env s sc r. refl)
    does (long_literal p n) = λ c k j sound ahead out wr fine. quiet z lawful low (long_literal p n) c k p (core.long_value n) j (λ env. ir.long n) sound wr (fits-value z.place.typing lawful.base.ordered (usable z) k Long fine.asks refl (none_at k Long refl)) (plain_here c k fine none_made refl tt) refl (λ w env s sc r. refl)
    does (byte_literal p n) = λ c k j sound ahead out wr fine. quiet z lawful low (byte_literal p n) c k p (core.number_value n) j (λ env. ir.number n) sound wr (fits-value z.place.typing lawful.base.ordered (usable z) k Byte fine.asks refl (none_at k Byte refl)) (plain_here c k fine none_made refl tt) refl (λ w env s sc r. refl)
    does (short_literal p n) = λ c k j sound ahead out wr fine. quiet z lawful low (short_literal p n) c k p (core.number_value n) j (λ env. ir.number n) sound wr (fits-value z.place.typing lawful.base.ordered (usable z) k Short fine.asks refl (none_at k Short refl)) (plain_here c k fine none_made refl tt) refl (λ w env s sc r. refl)
    does (int_literal p n) = λ c k j sound ahead out wr fine. quiet z lawful low (int_literal p n) c k p (core.number_value n) j (λ env. ir.number n) sound wr (fits-value z.place.typing lawful.base.ordered (usable z) k Int fine.asks refl (none_at k Int refl)) (plain_here c k fine none_made refl tt) refl (λ w env s sc r. refl)
    does (string_literal p us) = λ c k j sound ahead out wr fine. quiet z lawful low (string_literal p us) c k p (core.text_value us) j (λ env. ir.text us) sound wr (fits-value z.place.typing lawful.base.ordered (usable z) k String fine.asks refl (none_at k String refl)) (plain_here c k fine none_made refl tt) refl (λ w env s sc r. refl)
    does (var_ref p x t) = λ c k j sound ahead out wr fine. quiet z lawful low (var_ref p x t) c k p (core.variable_use (core.named x)) j (λ env. value_of z lawful low (env.locals x)) sound wr (fits-value z.place.typing lawful.base.ordered (usable z) k t fine.asks (local-value fine.scene x t fine.amid.values fine.typed.finds) fine.boxed) (plain_here c k fine none_made refl tt) refl (λ w env s sc r. local_at z lawful low w t (env.locals x) (sc.bindings (z.place.name (core.named x))) env s (r.sees.locals x t (fine.amid.seen x t (there fine.scene x t fine.typed.finds))))
    does (log_line p e) = λ c k j sound ahead out wr fine. log_by p e (does e) c k j sound ahead out fine (given_up z.place.typing lawful.base.ordered k fine.asks)
    does _ = λ c k j sound ahead out wr fine. impossible fine.typed.built

    pub block_does : (ts : Terms) → BlockDoes ts
    block_does no_terms = λ c k j sound ahead out wr scene amid mut i asks typed boxed labels once w env s sc u r same. sim_wrong z.direction (Came z.place z.code c c.scope k w sc) (done (js.ends js.normally sc u))
    block_does (more_terms t no_terms) = last_does t (does t)
    block_does (more_terms (var_def p x t b e) (more_terms u us)) = defined_does p x t b e u us (does e) (block_does (more_terms u us))
    block_does (more_terms t (more_terms u us)) = λ c k j sound ahead out wr scene amid mut i asks typed boxed labels once. let parts = each (boxes (goals_of c.targets) Goal.given_up t) (last_boxes (goals_of c.targets) (goal_of k) (more_terms u us)) boxed in next_does t u us (does t) (block_does (more_terms u us)) c k j sound ahead out wr (tree c scene amid discard t (of_first z.is_mutable (mutable_in t) (mutable_in_all (more_terms u us)) (front t) mut) tt typed.0 parts.0 labels once.0) scene amid (of_second z.is_mutable (mutable_in t) (mutable_in_all (more_terms u us)) (front t) mut) (type_of_term t) asks typed.2 parts.1 labels once.0 once.1

    operands_do : (ts : Terms) → OperandsFine ts
    operands_do no_terms = λ c j out s amid mut rs fit typed boxed labels once. tt
    operands_do (more_terms t ts) = arguments_do t ts (does t) (operands_do ts)

    items_do : (ts : Terms) → ItemsFine ts
    items_do no_terms = λ c j out s amid mut t value fit typed boxed labels once. tt
    items_do (more_terms t ts) = item_and_rest t ts (does t) (items_do ts)

    cases_do : (cs : Cases) → CasesDo cs
    cases_do no_cases = λ c k j sound ahead out wr scene amid mut i asks typed boxed labels once. no_case
    cases_do (more_cases [] t cs) = λ c k j sound ahead out wr scene amid mut i asks typed boxed labels once. without_keys (ir_meaning.step z.place.classes z.low t) (ir_meaning.branches z.place.classes z.low cs) (cases z.is_mutable z.code.sure c.targets k j cs).cases (cases_do cs c k j sound ahead (outside-part c (OwnCases (more_cases [] t cs)) (OwnCases cs) (λ x o. inr o) out) wr scene amid (of_second z.is_mutable (mutable_in t) (mutable_in_cases cs) (front t) mut) i asks typed boxed labels once.1)
    cases_do (more_cases (n ∷ ns) t cs) = case_does n ns t cs (does t) (cases_do cs)
