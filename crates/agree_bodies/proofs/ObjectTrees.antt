-- Trees of objects, and their statements: This, new objects, fields, throws and calls on receivers, by what is known of their operands.
use Rattle.std.proofs.Common.{◌≡◌, ℕ, suc, ◌≤◌, Bool, true, false, ◌&&◌, arith, List, [], ◌∷◌, Some, Option, refl, sym, ap, ◌∙◌, subst, ◌⊎◌, inl, inr}
use Rattle.outcomes.specs.Outcome.{done, then_do}
use Rattle.outcomes.specs.Agreement.{Sim}
use Rattle.outcomes.proofs.Sequence.{then_do-right}
use Rattle.outcomes.proofs.Simulation.{sim_done, sim_wrong, sim_then}
use Rattle.agree_plain_trees.proofs.Runs.{Ran, ran, ran_out, constructor_runs}
use Rattle.agree_plain_trees.specs.Meaning as ir_meaning
use Rattle.agree_plain_trees.specs.States as ir
use Rattle.agree_plain_trees.specs.World as ir_world
use Rattle.js_mean.specs.Meaning as js_meaning
use Rattle.js_mean.specs.Objects as js_objects
use Rattle.js_mean.specs.States as js
use Rattle.sj_core.specs.declared.callees.Callee.TheVariants as callees
use Rattle.sj_core.specs.Terms as core
use Rattle.sj_core.specs.Views.{expressions_of}
use Rattle.agree_early_errors.specs.Coercions.{coerced, coerced_arguments, coerced_receiver, is_char}
use Rattle.agree_early_errors.specs.Desugar.{Targets, into, operand, operands, receiver, received, expression_of, first_of, second_of, rest_of, finish, member, types_of, position_of, has_no_value}
use Rattle.agree_early_errors.specs.Plain.{is_plain}
use Rattle.agree_early_errors.specs.Spill.{Destination, discard, to_variable, Code, one, Operand, spill, spill_case, then_use}
use Rattle.agree_early_errors.specs.Templates.{called_member, check_name, property_name}
use Rattle.sj_names.proofs.Same.{impossible}
use Rattle.sj_names.specs.declared.method_names.MethodName.{MethodName}
use Rattle.sj_names.specs.declared.method_names.Namespace.{Namespace}
use Rattle.sj_names.specs.declared.method_names.Namespace.TheVariants.{Constructor}
use Rattle.agree_plain_trees.specs.Known.{is_hijacked, object}
use Rattle.sj_trees.specs.Term.{Term, Terms, assign, apply_statically, new_object, select, throw, this_ref}
use Rattle.sj_trees.specs.TypeOf.{type_of_term}
use Rattle.sj_trees.specs.Types.{class_type}
use Rattle.sj_trees.specs.declared.positions.Position.{Position}
use Rattle.sj_trees.specs.declared.types.IrType.{IrType}
use Rattle.sj_trees.specs.declared.types.IrType.TheVariants.{Any, Nothing, NoType}
use Rattle.sure_receivers.specs.Sure.{is_sure}
use Rattle.agree_early_errors.specs.Standing.{Fits, types_referred, call_type}
use Rattle.agree_plain_trees.specs.Settings.{Setting, shown, SameState, Valued, Lawful, Inside, Receiving, no_receiver, on_receiver, Sees, usable}
use Rattle.agree_plain_trees.proofs.Objects.{null_act, select_alike, setter_text, static_set_alike, field_written, new_alike, received_call_alike, checked_alike}
use Rattle.agree_plain_trees.proofs.Modules.{storer_text, store_alike}
use Rattle.agree_plain_trees.proofs.Reflected.{reflected_call_alike}
use Rattle.agree_plain_trees.proofs.Told.{tells}
use Rattle.agree_plain_trees.proofs.Orders.{OperandAlike, OperandsAlike, text_of, no_operands, more_operands}
use Rattle.agree_early_errors.proofs.Fitting.{stands-same}
use Rattle.agree_early_errors.proofs.Standing.{fits-same}
use Rattle.agree_early_errors.specs.Built.{can_box}
use Rattle.agree_plain_trees.proofs.Boxes.{StandsFor, StandForAll, stood, stood-fits, stood_alike, stood_told, all_stood, all-stood-fit, operand_coerced, operands_coerced, receiver-coerced}
use Rattle.agree_plain_trees.proofs.Worlds.{World, Grows, grows-refl, grows-trans, SameValue, Stands, same_reference, value-lift, value-fits}
use Rattle.agree_bodies.specs.Fine.{FitsIn, FineOperand}
use Rattle.agree_plain_trees.specs.Conditions.{Plain}
use Rattle.agree_early_errors.specs.Locals.{Scope}
use Rattle.agree_bodies.proofs.Blocks.{Outside}
use Rattle.agree_early_errors.specs.Locals.{Own}
use Rattle.agree_plain_trees.proofs.Plain.{plain_alike, as_operand}
use Rattle.agree_bodies.proofs.Contexts.{Context, Writes, Sound, Ahead, Ready, ready-lift, Keeps, keeps-refl, keeps-less, let_go, Came, gave, threw}
use Rattle.agree_bodies.proofs.Forms.{sound-writing, ahead-writing, outside-writing, of_operands, one_final, act_alike, quiet_alike, OneFinal}
use Rattle.agree_early_errors.proofs.Good.{no_name, finish-good}
use Rattle.agree_bodies.proofs.Spills.{keeping, writing, extends-refl, Does, Final, Piece, OperandDoes, OperandsDo, surely_does, operands-later, runs, operands_in, types, Lasting, Onwards, first_code, first-is, first_does, spill_does}
use Rattle.agree_bodies.proofs.Statements.{finish_alike, valued_then, valued_done, value_statement, throws-on, ends-one, Ends}
use Rattle.agree_bodies.proofs.Trees.{written, LowAlike, TreeDoes, FineHere, piece, operand_does, list_of, operands-list, runs-list, types-list}

-- a receiver is of its type, checked or not
pub received-type : (b : Bool) (o : Operand) → (received b o).tpe ≡ o.tpe
received-type true o = refl
received-type false o = refl

-- one operand that is spilled goes on, and so does a receiver with its check
spilled-onward : (a f b : Bool) (o : Operand) (j : ℕ) → ((k : Destination) (j : ℕ) → j ≤ (o.code k j).next) → j ≤ (spill_case a f b o [] (spill []) j).next
spilled-onward true f b o j h = omega arith
spilled-onward false true b o j h = omega arith
spilled-onward false false true o j h = omega arith
spilled-onward false false false o j h = let k = h (to_variable (core.numbered j) o.tpe) (suc j) in omega arith

received-onward : (o : Operand) → ((k : Destination) (j : ℕ) → j ≤ (o.code k j).next) → (k : Destination) (j : ℕ) → j ≤ ((received false o).code k j).next
received-onward o h k j = let l = spilled-onward (o.plain && true) o.fixed o.plain o j h in let g = (finish-good no_name [] true k o.at o.tpe false (core.checked_value (first_of (spill (o ∷ []) j).expressions)) (spill (o ∷ []) j).next).onward in omega (arith, l, g)

-- an operand in front of a plain one, which is written where it is used
before_plain : (o d : Operand) (j : ℕ) (made : List core.Expression → ℕ → Code) → d.plain ≡ true → (o.plain ≡ true) ⊎ ((o.plain ≡ false) × (o.fixed ≡ false)) → then_use (spill (o ∷ d ∷ []) j) made ≡ then_use (spill (o ∷ []) j) (λ es. made (first_of es ∷ d.text ∷ []))
before_plain o d j made = by o.plain o.fixed d.plain d.fixed
  where
    by : (b f e x : Bool) → e ≡ true → (b ≡ true) ⊎ ((b ≡ false) × (f ≡ false)) → then_use (spill_case (b && (e && true)) f b o (d ∷ []) (spill_case (e && true) x e d [] (spill [])) j) made ≡ then_use (spill_case (b && true) f b o [] (spill []) j) (λ es. made (first_of es ∷ d.text ∷ []))
    by true f true x h k = refl
    by false false true x h k = refl
    by false true true x h (inl i) = absurd (impossible i)
    by false true true x h (inr i) = absurd (impossible (sym i.1))
    by b f false x h k = absurd (impossible h)

-- not all of two are plain where the second isn't
not_all : (a b : Bool) → b ≡ false → (a && (b && true)) ≡ false
not_all true b h = ap (λ (x : Bool). x && true) h
not_all false b h = refl

module _ (z : Setting) (lawful : Lawful z) (low : LowAlike z) where
  -- operands, and behind them an expression of their values
  pub expression_does : (c : Context) (k : Destination) (j : ℕ) (ts : List Piece) (t : IrType) (p : Position) (act : List ir.Value → ir.Run) (text : List core.Expression → core.Expression) → Sound z.is_mutable c → Ahead c j → Writes c.written k → FitsIn (usable z) k t → OperandsDo z lawful c j ts → ((rs : List ir.Run) (es : List core.Expression) (w : World) (env : ir.Env) (s : ir.State) (sc : js.Scope) (u : js.State) → Inside z.place z.code sc → OperandsAlike z w env sc (types z lawful ts) rs es → SameState z.place w s u → Sim z.direction (Valued z.place w env t) (ir_meaning.in_order rs act env s) (shown z (text es) sc u)) → (w : World) (env : ir.Env) (s : ir.State) (sc : js.Scope) (u : js.State) → Ready z.place z.code c.scope c.writable w env sc → SameState z.place w s u → Ends z lawful c c.scope k w sc (ir_meaning.in_order (runs z lawful ts) act env s) (then_use (spill (operands_in z lawful ts) j) (λ es. finish k p t false (text es))).statements sc u
  expression_does c k j ts t p act text sound ahead wr fits ds given w env s sc u r same = of_operands z lawful c k ts j act (λ es. finish k p t false (text es)) sound ahead ds final w env s sc u r same
    where
      final : (w : World) (sc : js.Scope) → Final z lawful c k w sc c.kept j sc w (types z lawful ts) act (λ es. finish k p t false (text es))
      final from before q i rs es w env s sc u more so ah l g ready kb ks same alike = finish_alike z lawful c k p t (text es) i sound wr fits w from before env (ir_meaning.in_order rs act env s) sc u g kb ready s same (given rs es w env s sc u ready.sees.inside alike same)

  -- a receiver, with its check unless it is sure
  abbrev pub receiver_piece : Targets → Term → Piece
  receiver_piece ls e = record { run = ir_meaning.receiving z.place.classes (is_sure z.code.sure e) z.low (ir_meaning.step z.place.classes z.low e); here = receiver z.is_mutable z.code.sure e (λ k j. into z.is_mutable z.code.sure ls k j e) }

  check_given : (t : IrType) → (usable z).helper check_name ≡ true → (rs : List ir.Run) (es : List core.Expression) (w : World) (env : ir.Env) (s : ir.State) (sc : js.Scope) (u : js.State) → Inside z.place z.code sc → OperandsAlike z w env sc (t ∷ []) rs es → SameState z.place w s u → Sim z.direction (Valued z.place w env t) (ir_meaning.in_order rs (null_act z) env s) (shown z (core.checked_value (first_of es)) sc u)
  check_given t has _ _ w env s sc u inside (more_operands _ r e _ _ _ told one no_operands) same = checked_alike z lawful t w env sc r e has inside (more_operands t r e [] [] [] told one no_operands) w s u (grows-refl w) same

  abbrev FineAt : Context → Term → Type 0
  FineAt c e = FineOperand z.place.typing z.is_mutable (usable z) z.code c.scope e (λ y. FineHere z lawful low c (to_variable y (type_of_term e)) e)

  -- the value of a receiver that is spilled by itself, checked: where it is of type nothing there is none
  never_final : (c : Context) (x : core.Variable) (p : Position) (j : ℕ) → (usable z).helper check_name ≡ true → (w : World) (sc : js.Scope) → OneFinal z lawful c (to_variable x Nothing) w sc j Nothing (null_act z) (λ es. finish (to_variable x Nothing) p Nothing false (core.checked_value (first_of es)))
  never_final c x p j has from before n r e w env s sc u ahead l g ready ks same operand = ends-one z lawful c c.scope (to_variable x Nothing) from before (ir_meaning.in_order (r ∷ []) (null_act z) env s) (core.evaluate_of (Some p) (core.checked_value e)) sc u (value_statement z lawful (Came z.place z.code c c.scope (to_variable x Nothing) from before) w env Nothing sc u (ir_meaning.in_order (r ∷ []) (null_act z) env s) (core.checked_value e) (λ v. js_meaning.nothing sc) (check_given Nothing has (r ∷ []) (e ∷ []) w env s sc u ready.sees.inside operand same) (throws-on z lawful c c.scope (to_variable x Nothing) from w before env sc g ks ready) (λ y v q s u h a states. impossible a.suits))

  nothing_final : (c : Context) (x : core.Variable) (p : Position) (j : ℕ) (own : IrType) → own ≡ Nothing → (usable z).helper check_name ≡ true → (w : World) (sc : js.Scope) → OneFinal z lawful c (to_variable x own) w sc j own (null_act z) (λ es. finish (to_variable x own) p own false (core.checked_value (first_of es)))
  nothing_final c x p j own is has = subst (λ t. (w : World) (sc : js.Scope) → OneFinal z lawful c (to_variable x t) w sc j t (null_act z) (λ es. finish (to_variable x t) p t false (core.checked_value (first_of es)))) (sym is) (never_final c x p j has)

  checked_does : (c : Context) (x : core.Variable) (j : ℕ) (e : Term) → (usable z).helper check_name ≡ true → (has_no_value (type_of_term e) ≡ false) ⊎ (type_of_term e ≡ Nothing) → Sound z.is_mutable c → Ahead c j → c.written x → OperandDoes z lawful c j (piece z lawful low c.targets e) → (w : World) (env : ir.Env) (s : ir.State) (sc : js.Scope) (u : js.State) → Ready z.place z.code c.scope c.writable w env sc → SameState z.place w s u → Ends z lawful c c.scope (to_variable x (type_of_term e)) w sc (ir_meaning.in_order (ir_meaning.step z.place.classes z.low e ∷ []) (null_act z) env s) (then_use (spill ((piece z lawful low c.targets e).here ∷ []) j) (λ es. finish (to_variable x (type_of_term e)) (position_of e) (type_of_term e) false (core.checked_value (first_of es)))).statements sc u
  checked_does c x j e has (inl value) sound ahead wr operand = expression_does c (to_variable x (type_of_term e)) j (piece z lawful low c.targets e ∷ []) (type_of_term e) (position_of e) (null_act z) (λ es. core.checked_value (first_of es)) sound ahead wr (value, inl (fits-same (type_of_term e)), stands-same (can_box (usable z)) (is_char (type_of_term e))) (operand, tt) (check_given (type_of_term e) has)
  checked_does c x j e has (inr none) sound ahead wr operand = of_operands z lawful c (to_variable x (type_of_term e)) (piece z lawful low c.targets e ∷ []) j (null_act z) (λ es. finish (to_variable x (type_of_term e)) (position_of e) (type_of_term e) false (core.checked_value (first_of es))) sound ahead (operand, tt) (one_final z lawful c (to_variable x (type_of_term e)) j (type_of_term e) (null_act z) (λ es. finish (to_variable x (type_of_term e)) (position_of e) (type_of_term e) false (core.checked_value (first_of es))) (nothing_final c x (position_of e) j (type_of_term e) none has))

  -- a receiver as an operand: where it has its check and isn't plain, it is spilled by itself
  receiver_by : (b : Bool) (c : Context) (j : ℕ) (e : Term) → TreeDoes z lawful low e → Outside c (Own e) → FineAt c e → (b ≡ true) ⊎ ((usable z).helper check_name ≡ true) → (has_no_value (type_of_term e) ≡ false) ⊎ (type_of_term e ≡ Nothing) → OperandDoes z lawful c j (record { run = ir_meaning.receiving z.place.classes b z.low (ir_meaning.step z.place.classes z.low e); here = received b (operand z.is_mutable z.code.sure e (λ k j. into z.is_mutable z.code.sure c.targets k j e)) })
  receiver_by true c j e does out fine may value = surely_does z lawful c j (record { run = ir_meaning.step z.place.classes z.low e; here = operand z.is_mutable z.code.sure e (λ k j. into z.is_mutable z.code.sure c.targets k j e) }) (operand_does z lawful low c j e does out fine)
  receiver_by false c j e does out fine (inl i) value = absurd (impossible i)
  receiver_by false c j e does out (inl h) (inr has) value = inl (h.plain, record { alike = λ w env sc sees. checked_alike z lawful (type_of_term e) w env sc (ir_meaning.step z.place.classes z.low e) (expression_of z.code.sure e) has sees.inside (more_operands (type_of_term e) (ir_meaning.step z.place.classes z.low e) (expression_of z.code.sure e) [] [] [] (plain_alike z lawful c.scope e h).told (as_operand z lawful c.scope e (plain_alike z lawful c.scope e h).alike w env sc sees) no_operands); told = refl; fixes = λ i p sound w env sc sees. impossible i })
  receiver_by false c j e does out (inr h) (inr has) value = inr (h.0, refl, received-onward (operand z.is_mutable z.code.sure e (λ k j. into z.is_mutable z.code.sure c.targets k j e)) (λ k i. (written z.is_mutable z.code.sure c.reaches c.tries c.targets e k i (h.2 (core.numbered j)).once).onward), λ p i l ext sound ahead. checked_does (writing (keeping c p) (core.numbered i)) (core.numbered i) (suc i) e has value (sound-writing z lawful (keeping c p) i sound ahead) (ahead-writing z lawful (keeping c p) i ahead) (inl refl) (operand_does z lawful low (writing (keeping c p) (core.numbered i)) (suc i) e does (outside-writing z lawful c p i (Own e) ext out) (inr h)))

  pub receiver_does : (c : Context) (j : ℕ) (e : Term) → TreeDoes z lawful low e → Outside c (Own e) → FineAt c e → (is_sure z.code.sure e ≡ true) ⊎ ((usable z).helper check_name ≡ true) → (has_no_value (type_of_term e) ≡ false) ⊎ (type_of_term e ≡ Nothing) → OperandDoes z lawful c j (receiver_piece c.targets e)
  receiver_does c j e = receiver_by (is_sure z.code.sure e) c j e

  -- the receivers that the IR takes for sure are those of the code
  pub sure_run : (e : Term) (act : List ir.Value → ir.Run) (rs : List ir.Run) (w : World) (env : ir.Env) (s : ir.State) (sc : js.Scope) (scope : Scope) → Sees z.place z.code scope w env sc → ir_meaning.in_order (ir_meaning.receiving z.place.classes (is_sure env.sure e) z.low (ir_meaning.step z.place.classes z.low e) ∷ rs) act env s ≡ ir_meaning.in_order (ir_meaning.receiving z.place.classes (is_sure z.code.sure e) z.low (ir_meaning.step z.place.classes z.low e) ∷ rs) act env s
  sure_run e act rs w env s sc scope sees = ap (λ (q : List ℕ → Bool). ir_meaning.in_order (ir_meaning.receiving z.place.classes (is_sure q e) z.low (ir_meaning.step z.place.classes z.low e) ∷ rs) act env s) sees.sure

  -- a field of an object
  pub select_does : (p : Position) (c : Context) (k : Destination) (j : ℕ) (e : Term) (d f : List ℕ) (t : IrType) → Sound z.is_mutable c → Ahead c j → Writes c.written k → FitsIn (usable z) k t → (usable z).field d f t ≡ true → OperandDoes z lawful c j (receiver_piece c.targets e) → Does z lawful c k j (select p e d f t)
  select_does p c k j e d f t sound ahead wr fits has operand w env s sc u r same = subst (λ o. Ends z lawful c c.scope k w sc o (into z.is_mutable z.code.sure c.targets k j (select p e d f t)).statements sc u) (sym (sure_run e (ir_meaning.select_field d f) [] w env s sc c.scope r.sees)) (expression_does c k j (receiver_piece c.targets e ∷ []) t p (ir_meaning.select_field d f) (λ es. core.field_of (first_of es) d f) sound ahead wr fits (operand, tt) given w env s sc u r same)
    where
      given : (rs : List ir.Run) (es : List core.Expression) (w : World) (env : ir.Env) (s : ir.State) (sc : js.Scope) (u : js.State) → Inside z.place z.code sc → OperandsAlike z w env sc ((receiver_piece c.targets e).here.tpe ∷ []) rs es → SameState z.place w s u → Sim z.direction (Valued z.place w env t) (ir_meaning.in_order rs (ir_meaning.select_field d f) env s) (shown z (core.field_of (first_of es) d f) sc u)
      given _ _ w env s sc u inside (more_operands own q g _ _ _ told one no_operands) same = select_alike z lawful.base w env s sc u own q g d f t (lawful.base.fields d f t has).field (more_operands own q g [] [] [] told one no_operands) same

  -- a new object
  pub new_does : (p : Position) (c : Context) (k : Destination) (j : ℕ) (d : List ℕ) (m : MethodName) (ts : Terms) → Sound z.is_mutable c → Ahead c j → Writes c.written k → FitsIn (usable z) k (class_type d) → (usable z).built (member d Constructor m) ≡ true → (usable z).made d ≡ true → is_hijacked d ≡ false → StandForAll z (types_referred m.params) (types_of ts) → OperandsDo z lawful c j (list_of z lawful low c.targets ts) → Does z lawful c k j (new_object p d m ts)
  new_does p c k j d m ts sound ahead wr fits built made free fit ds w env s sc u r same = subst (λ os. Ends z lawful c c.scope k w sc (ir_meaning.in_order (ir_meaning.operands z.place.classes z.low ts) act env s) (then_use (spill os j) (λ es. finish k p (class_type d) false (text es))).statements sc u) (sym (operands-list z lawful low c.targets ts)) (subst (λ rs. Ends z lawful c c.scope k w sc (ir_meaning.in_order rs act env s) (then_use (spill (operands_in z lawful (list_of z lawful low c.targets ts)) j) (λ es. finish k p (class_type d) false (text es))).statements sc u) (sym (runs-list z lawful low c.targets ts)) (expression_does c k j (list_of z lawful low c.targets ts) (class_type d) p act text sound ahead wr fits ds given w env s sc u r same))
    where
      act : List ir.Value → ir.Run
      act = ir_meaning.construct z.place.classes z.low d m

      text : List core.Expression → core.Expression
      text es = core.made_of (member d Constructor m) (expressions_of (coerced_arguments m.params (types_of ts) es))

      given : (rs : List ir.Run) (es : List core.Expression) (w : World) (env : ir.Env) (s : ir.State) (sc : js.Scope) (u : js.State) → Inside z.place z.code sc → OperandsAlike z w env sc (types z lawful (list_of z lawful low c.targets ts)) rs es → SameState z.place w s u → Sim z.direction (Valued z.place w env (class_type d)) (ir_meaning.in_order rs act env s) (shown z (text es) sc u)
      given rs es w env s sc u inside alike same = new_alike z lawful.base d m (all_stood (types_referred m.params) (types_of ts) fit.0) rs (coerced_arguments m.params (types_of ts) es) (coerced_arguments m.params (types_of ts) es) refl built made free (all-stood-fit (types_referred m.params) (types_of ts) fit.0) w env s sc u inside (operands_coerced z lawful.base w env sc inside m.params (types_of ts) rs es fit.0 fit.1 (subst (λ is. OperandsAlike z w env sc is rs es) (sym (types-list z lawful low c.targets ts)) alike)) same

  -- This, where there is one
  pub this_does : (p : Position) (c : Context) (k : Destination) (j : ℕ) (t : IrType) → Sound z.is_mutable c → Writes c.written k → FitsIn (usable z) k t → Plain z.place.typing (usable z) z.code c.scope (this_ref p t) → Does z lawful c k j (this_ref p t)
  this_does p c k j t sound wr fits plain w env s sc u r same = by env.this_value (sc.bindings (z.place.name core.receiver)) r.sees.this refl
    where
      by : (o : Option ir.Value) (cell : js.Cell) → Receiving w z.code.owner o cell → env.this_value ≡ o → Ends z lawful c c.scope k w sc (ir_meaning.local_value env.this_value env s) (finish k p t true (core.variable_use core.receiver) j).statements sc u
      by _ _ (no_receiver cell) e = subst (λ (o : Option ir.Value). Ends z lawful c c.scope k w sc (ir_meaning.local_value o env s) (finish k p t true (core.variable_use core.receiver) j).statements sc u) (sym e) (sim_wrong z.direction (Came z.place z.code c c.scope k w sc) _)
      by _ _ (on_receiver v x a) e = quiet_alike z lawful c k p t (core.variable_use core.receiver) j sound wr fits w env s sc u (ir_meaning.local_value env.this_value env s) v (ap (λ (o : Option ir.Value). ir_meaning.local_value o env s) e) r same ((plain_alike z lawful c.scope (this_ref p t) plain).alike w env s sc u r.sees same)

  -- a throw: whatever its destination is
  throw_final : (c : Context) (k : Destination) (p : Position) (j : ℕ) (own : IrType) → StandsFor z Any own → (w : World) (sc : js.Scope) → OneFinal z lawful c k w sc j own ir_meaning.throw_value (λ es. one (core.throw_of (Some p) (coerced Any own (first_of es))))
  throw_final c k p j own any from before n r e w env s sc u ahead l g ready ks same (more_operands _ _ _ _ _ _ told alike no_operands) = ends-one z lawful c c.scope k from before (ir_meaning.in_order (r ∷ []) ir_meaning.throw_value env s) (core.throw_of (Some p) (coerced Any own e)) sc u (sim_then z.direction (Valued z.place w env Any) (Came z.place z.code c c.scope k from before) (r env s) (shown z (coerced Any own e) sc u) (ir.onward (λ v. ir_meaning.throw_value (v ∷ []))) (js.in_statement sc (λ v u. done (js.ends (js.thrown_with v) sc u))) (operand_coerced z lawful.base Any own any.0 any.1 w env sc ready.sees.inside r e alike w s u (grows-refl w) same) (valued_then z lawful (Came z.place z.code c c.scope k from before) w env Any sc (λ v. ir_meaning.throw_value (v ∷ [])) (λ v u. done (js.ends (js.thrown_with v) sc u)) (throws-on z lawful c c.scope k from w before env sc g ks ready) goes))
    where
      goes : (y : World) (v : ir.Value) (x : js.Value) (s : ir.State) (u : js.State) → Grows w y → SameValue y Any v x → SameState z.place y s u → Sim z.direction (Came z.place z.code c c.scope k from before) (done (ir.ends (ir.throws v) env s)) (done (js.ends (js.thrown_with x) sc u))
      goes y v x s u h a states = sim_done z.direction (Came z.place z.code c c.scope k from before) (ir.ends (ir.throws v) env s) (js.ends (js.thrown_with x) sc u) (threw y v x env s sc u (grows-trans from w y g h) a (ready-lift z c.scope c.writable w y env sc h ready) ks states)

  pub throw_does : (p : Position) (c : Context) (k : Destination) (j : ℕ) (e : Term) → Sound z.is_mutable c → Ahead c j → StandsFor z Any (type_of_term e) → OperandDoes z lawful c j (piece z lawful low c.targets e) → Does z lawful c k j (throw p e)
  throw_does p c k j e sound ahead any operand = of_operands z lawful c k (piece z lawful low c.targets e ∷ []) j ir_meaning.throw_value (λ es. one (core.throw_of (Some p) (coerced Any (type_of_term e) (first_of es)))) sound ahead (operand, tt) (one_final z lawful c k j (type_of_term e) ir_meaning.throw_value (λ es. one (core.throw_of (Some p) (coerced Any (type_of_term e) (first_of es)))) (throw_final c k p j (type_of_term e) any))

  -- an assignment to a static field: its right side, and a call of the function that sets the variable
  pub set_static_final : (c : Context) (p : Position) (j : ℕ) (d f : List ℕ) (t own : IrType) → (usable z).static_setter d f t ≡ true → StandsFor z t own → (w : World) (sc : js.Scope) → OneFinal z lawful c discard w sc j own (ir_meaning.assign_static d f) (λ es. one (core.assign_static (Some p) d f (coerced t own (first_of es))))
  set_static_final c p j d f t own has fits from before n r x w env s sc u ahead l g ready ks same (more_operands _ _ _ _ _ _ told alike no_operands) = ends-one z lawful c c.scope discard from before (ir_meaning.in_order (r ∷ []) act env s) (core.assign_static (Some p) d f set) sc u (subst (λ o. Sim z.direction F o (then_do (setter_text z lawful.base d f set sc u) (js.in_statement sc (λ v. js_meaning.nothing sc)))) (then_do-right (ir_meaning.in_order (r ∷ []) act env s)) (sim_then z.direction (Valued z.place w env NoType) F (ir_meaning.in_order (r ∷ []) act env s) (setter_text z lawful.base d f set sc u) done (js.in_statement sc (λ v. js_meaning.nothing sc)) (static_set_alike z lawful.base d f t (stood t own fits.0) r set has (stood-fits t own fits.0) w env s sc u ready.sees.inside (more_operands (stood t own fits.0) r set [] [] [] (stood_told z lawful.base w env sc ready.sees.inside t own fits.0 x told) (stood_alike z lawful.base w env sc ready.sees.inside t own fits.0 fits.1 r x alike) no_operands) same) (valued_done z lawful F w env NoType sc (λ v. js_meaning.nothing sc) (throws-on z lawful c c.scope discard from w before env sc g ks ready) (λ y v q s u h a states. sim_done z.direction F (ir.ends (ir.gives v) env s) (js.ends js.normally sc u) (gave y v env s sc u js.normally (grows-trans from w y g h) let_go (ready-lift z c.scope c.writable w y env sc h ready) (keeps-less z c.kept discard before sc ks) states)))))
    where
      F : ir.Ended → js.StatementEnd → Type 0
      F = Came z.place z.code c c.scope discard from before

      act : List ir.Value → ir.Run
      act = ir_meaning.assign_static d f

      set : core.Expression
      set = coerced t own x

  -- the object of a class is stored: its value, and a call of the function that stores it
  pub store_final : (c : Context) (p : Position) (j : ℕ) (d : List ℕ) (own : IrType) → (usable z).stored d ≡ true → StandsFor z (class_type d) own → (w : World) (sc : js.Scope) → OneFinal z lawful c discard w sc j own (ir_meaning.store d) (λ es. one (core.store_module_of (Some p) d (coerced (class_type d) own (first_of es))))
  store_final c p j d own has fits from before n r x w env s sc u ahead l g ready ks same (more_operands _ _ _ _ _ _ told alike no_operands) = ends-one z lawful c c.scope discard from before (ir_meaning.in_order (r ∷ []) act env s) (core.store_module_of (Some p) d set) sc u (subst (λ o. Sim z.direction F o (then_do (storer_text z lawful.base d has set sc u) (js.in_statement sc (λ v. js_meaning.nothing sc)))) (then_do-right (ir_meaning.in_order (r ∷ []) act env s)) (sim_then z.direction (Valued z.place w env NoType) F (ir_meaning.in_order (r ∷ []) act env s) (storer_text z lawful.base d has set sc u) done (js.in_statement sc (λ v. js_meaning.nothing sc)) (store_alike z lawful.base d has (stood (class_type d) own fits.0) r set (stood-fits (class_type d) own fits.0) w env s sc u ready.sees.inside (more_operands (stood (class_type d) own fits.0) r set [] [] [] (stood_told z lawful.base w env sc ready.sees.inside (class_type d) own fits.0 x told) (stood_alike z lawful.base w env sc ready.sees.inside (class_type d) own fits.0 fits.1 r x alike) no_operands) same) (valued_done z lawful F w env NoType sc (λ v. js_meaning.nothing sc) (throws-on z lawful c c.scope discard from w before env sc g ks ready) (λ y v q s u h a states. sim_done z.direction F (ir.ends (ir.gives v) env s) (js.ends js.normally sc u) (gave y v env s sc u js.normally (grows-trans from w y g h) let_go (ready-lift z c.scope c.writable w y env sc h ready) (keeps-less z c.kept discard before sc ks) states)))))
    where
      F : ir.Ended → js.StatementEnd → Type 0
      F = Came z.place z.code c c.scope discard from before

      act : List ir.Value → ir.Run
      act = ir_meaning.store d

      set : core.Expression
      set = coerced (class_type d) own x

  -- an assignment to a field of an object: behind the object its right side, and then the field is written
  set_alike : (c : Context) (p : Position) (own : IrType) (d f : List ℕ) (t i : IrType) → (usable z).field d f t ≡ true → Fits t i → (from : World) (before : js.Scope) (w : World) (env : ir.Env) (s : ir.State) (sc : js.Scope) (u : js.State) → Grows from w → Ready z.place z.code c.scope c.writable w env sc → Keeps z.place c.kept before sc → SameState z.place w s u → (r q : ir.Run) (x g : core.Expression) → OperandsAlike z w env sc (own ∷ []) (r ∷ []) (x ∷ []) → tells i (text_of z g) ≡ true → OperandAlike z w env sc i q (shown z g) → Ends z lawful c c.scope discard from before (ir_meaning.in_order (r ∷ []) (ir_meaning.assign_on d f q) env s) (core.statement (core.assign_field (Some p) x d f g) core.no_statements) sc u
  set_alike c p own d f t i has fits from before w env s sc u g ready ks same r q x e operand told alike = ends-one z lawful c c.scope discard from before (ir_meaning.in_order (r ∷ []) act env s) (core.assign_field (Some p) x d f e) sc u (act_alike z lawful F w env s sc u own r x act (λ v. js_meaning.unless_missing v (sets v) sc) operand same (throws-on z lawful c c.scope discard from w before env sc g ks ready) (λ y v q s u h a states. goes y v q s u h a.stands a states))
    where
      F : ir.Ended → js.StatementEnd → Type 0
      F = Came z.place z.code c c.scope discard from before

      act : List ir.Value → ir.Run
      act = ir_meaning.assign_on d f q

      sets : js.Value → js.Execution
      sets v = js_meaning.with_expression z.place.program z.js_low (text_of z e) (λ q sc u. js_meaning.with_state (js_objects.set_property v (property_name d f) q u) sc u)

      goes : (y : World) (v : ir.Value) (q : js.Value) (s : ir.State) (u : js.State) → Grows w y → Stands y (is_char own) v q → SameValue y own v q → SameState z.place y s u → Sim z.direction F (act (v ∷ []) env s) (js_meaning.unless_missing q (sets q) sc u)
      goes y _ _ s u h (same_reference n a there) object states = act_alike z lawful F y env s sc u i q e (λ vs. ir_meaning.assign_field d f (ir.reference n ∷ vs)) (λ q u. js_meaning.with_state (js_objects.set_property (js.object a) (property_name d f) q u) sc u) (more_operands i q e [] [] [] told (λ k s u m states. alike k s u (grows-trans w y k h m) states) no_operands) states (throws-on z lawful c c.scope discard from y before env sc (grows-trans from w y g h) ks (ready-lift z c.scope c.writable w y env sc h ready)) (λ k v q s u m one states. field_written z lawful.base (lawful.base.fields d f t has).differ F k env sc s u own (ir.reference n) v (js.object a) q d f t (lawful.base.fields d f t has).field (value-lift y k own (ir.reference n) (js.object a) m object) (value-fits k t i v q fits one) states (λ s u states. gave k ir.undefined env s sc u js.normally (grows-trans from w k g (grows-trans w y k h m)) let_go (ready-lift z c.scope c.writable w k env sc (grows-trans w y k h m) ready) (keeps-less z c.kept discard before sc ks) states))
      goes y _ _ s u h _ object states = sim_wrong z.direction F _

  -- where the right side is plain
  set_final : (c : Context) (p : Position) (j : ℕ) (own : IrType) (d f : List ℕ) (t : IrType) (e : Term) → (usable z).field d f t ≡ true → StandsFor z t (type_of_term e) → Plain z.place.typing (usable z) z.code c.scope e → (w : World) (sc : js.Scope) → OneFinal z lawful c discard w sc j own (ir_meaning.assign_on d f (ir_meaning.step z.place.classes z.low e)) (λ es. one (core.assign_field (Some p) (first_of es) d f (coerced t (type_of_term e) (expression_of z.code.sure e))))
  set_final c p j own d f t e has fits plain from before n r x w env s sc u ahead l g ready ks same operand = set_alike c p own d f t (stood t (type_of_term e) fits.0) has (stood-fits t (type_of_term e) fits.0) from before w env s sc u g ready ks same r (ir_meaning.step z.place.classes z.low e) x (coerced t (type_of_term e) (expression_of z.code.sure e)) operand (stood_told z lawful.base w env sc ready.sees.inside t (type_of_term e) fits.0 (expression_of z.code.sure e) (plain_alike z lawful c.scope e plain).told) (stood_alike z lawful.base w env sc ready.sees.inside t (type_of_term e) fits.0 fits.1 (ir_meaning.step z.place.classes z.low e) (expression_of z.code.sure e) (as_operand z lawful c.scope e (plain_alike z lawful c.scope e plain).alike w env sc ready.sees))

  pub set_does : (p q : Position) (c : Context) (j : ℕ) (o : Term) (d f : List ℕ) (t : IrType) (e : Term) → Sound z.is_mutable c → Ahead c j → (usable z).field d f t ≡ true → StandsFor z t (type_of_term e) → is_plain e ≡ true → Plain z.place.typing (usable z) z.code c.scope e → OperandDoes z lawful c j (receiver_piece c.targets o) → Does z lawful c discard j (assign p (select q o d f t) e)
  set_does p q c j o d f t e sound ahead has fits i plain operand w env s sc u r same = subst (λ a. Ends z lawful c c.scope discard w sc a (into z.is_mutable z.code.sure c.targets discard j (assign p (select q o d f t) e)).statements sc u) (sym (sure_run o act [] w env s sc c.scope r.sees)) (subst (λ (a : Code). Ends z lawful c c.scope discard w sc (ir_meaning.in_order ((receiver_piece c.targets o).run ∷ []) act env s) a.statements sc u) (sym (before_plain (receiver_piece c.targets o).here (piece z lawful low c.targets e).here j both i (shape operand))) (of_operands z lawful c discard (receiver_piece c.targets o ∷ []) j act made sound ahead (operand, tt) (one_final z lawful c discard j (receiver_piece c.targets o).here.tpe act made (set_final c p j (receiver_piece c.targets o).here.tpe d f t e has fits plain)) w env s sc u r same))
    where
      act : List ir.Value → ir.Run
      act = ir_meaning.assign_on d f (ir_meaning.step z.place.classes z.low e)

      both : List core.Expression → ℕ → Code
      both es = one (core.assign_field (Some p) (first_of es) d f (coerced t (type_of_term e) (second_of es)))

      made : List core.Expression → ℕ → Code
      made es = one (core.assign_field (Some p) (first_of es) d f (coerced t (type_of_term e) (expression_of z.code.sure e)))

      shape : OperandDoes z lawful c j (receiver_piece c.targets o) → ((receiver_piece c.targets o).here.plain ≡ true) ⊎ (((receiver_piece c.targets o).here.plain ≡ false) × ((receiver_piece c.targets o).here.fixed ≡ false))
      shape (inl h) = inl h.0
      shape (inr h) = inr (h.0, h.1)

  -- where it isn't, the object is kept while the right side runs, which the IR comes to only where the object is one
  pub set_spilled : (p q : Position) (c : Context) (j : ℕ) (o : Term) (d f : List ℕ) (t : IrType) (e : Term) → Sound z.is_mutable c → Ahead c j → (usable z).field d f t ≡ true → StandsFor z t (type_of_term e) → is_plain e ≡ false → OperandDoes z lawful c j (receiver_piece c.targets o) → OperandDoes z lawful c j (piece z lawful low c.targets e) → Does z lawful c discard j (assign p (select q o d f t) e)
  set_spilled p q c j o d f t e sound ahead has fits not_plain operand right w env s sc u r same = subst (λ a. Ends z lawful c c.scope discard w sc a (into z.is_mutable z.code.sure c.targets discard j (assign p (select q o d f t) e)).statements sc u) (sym (sure_run o act [] w env s sc c.scope r.sees)) (subst (λ ss. Ends z lawful c c.scope discard w sc (ir_meaning.in_order (object.run ∷ []) act env s) ss sc u) (sym code_is) (first_does z lawful c discard w sc object object.here.fixed object.here.plain refl refl c.kept j (λ v. act (v ∷ [])) rest w env s sc u operand (extends-refl c) sound ahead on (grows-refl w) r (keeps-refl z c.kept sc) same))
    where
      object : Piece
      object = receiver_piece c.targets o

      value : Piece
      value = piece z lawful low c.targets e

      act : List ir.Value → ir.Run
      act = ir_meaning.assign_on d f value.run

      both : List core.Expression → ℕ → Code
      both es = one (core.assign_field (Some p) (first_of es) d f (coerced t (type_of_term e) (second_of es)))

      rest : core.Expression → ℕ → core.Statements
      rest x i = (then_use (spill (value.here ∷ []) i) (λ es. both (x ∷ es))).statements

      code_is : (then_use (spill (object.here ∷ value.here ∷ []) j) both).statements ≡ first_code z lawful object.here.fixed object.here.plain object.here rest j
      code_is = ap (λ a. (then_use (spill_case a object.here.fixed object.here.plain object.here (value.here ∷ []) (spill (value.here ∷ [])) j) both).statements) (not_all object.here.plain value.here.plain not_plain) ∙ first-is z lawful object.here.fixed object.here.plain object.here (value.here ∷ []) j both

      on : Onwards z lawful c discard w sc c.kept j sc w object.here.tpe (λ v. act (v ∷ [])) rest
      on k i v x y env s sc2 u more sub so ah l h ready kb kp states told held alike lasting = goes v lasting
        where
          final : (n : ℕ) → Lasting z lawful k y sc2 object.here.tpe (ir.reference n) x → Final z lawful c discard w sc k i sc2 y (type_of_term e ∷ []) (λ vs. ir_meaning.assign_field d f (ir.reference n ∷ vs)) (λ es. both (x ∷ es))
          final n last b m _ _ at env2 s2 sc3 u2 more2 so2 ah2 l2 h2 ready2 kb2 ks2 states2 (more_operands _ a g _ _ _ told2 alike no_operands) = set_alike c p object.here.tpe d f t (stood t (type_of_term e) fits.0) has (stood-fits t (type_of_term e) fits.0) w sc at env2 s2 sc3 u2 (grows-trans w y at h h2) ready2 kb2 states2 (ir.given (ir.reference n)) a x (coerced t (type_of_term e) g) (more_operands object.here.tpe (ir.given (ir.reference n)) x [] [] [] told (last at env2 sc3 h2 ks2) no_operands) (stood_told z lawful.base at env2 sc3 ready2.sees.inside t (type_of_term e) fits.0 g told2) (stood_alike z lawful.base at env2 sc3 ready2.sees.inside t (type_of_term e) fits.0 fits.1 a g alike)

          goes : (v : ir.Value) → Lasting z lawful k y sc2 object.here.tpe v x → Ends z lawful c c.scope discard w sc (act (v ∷ []) env s) (rest x i) sc2 u
          goes (ir.reference n) last = spill_does z lawful c discard w sc (value ∷ []) k i (λ vs. ir_meaning.assign_field d f (ir.reference n ∷ vs)) (λ es. both (x ∷ es)) y env s sc2 u (operands-later z lawful c j i (value ∷ []) l (right, tt)) sub so ah (final n last) h ready kb states
          goes _ last = sim_wrong z.direction (Came z.place z.code c c.scope discard w sc) _

  -- a receiver and arguments as they are coerced
  pub called_with : (c : Context) (e : Term) (d : List ℕ) (m : MethodName) (ts : Terms) (on : StandsFor z (class_type d) (type_of_term e)) (fit : StandForAll z (types_referred m.params) (types_of ts)) (w : World) (env : ir.Env) (sc : js.Scope) → Inside z.place z.code sc → (q : ir.Run) (qs : List ir.Run) (g : core.Expression) (gs : List core.Expression) → tells (receiver_piece c.targets e).here.tpe (text_of z g) ≡ true → OperandAlike z w env sc (receiver_piece c.targets e).here.tpe q (shown z g) → OperandsAlike z w env sc (types z lawful (list_of z lawful low c.targets ts)) qs gs → OperandsAlike z w env sc (stood (class_type d) (type_of_term e) on.0 ∷ all_stood (types_referred m.params) (types_of ts) fit.0) (q ∷ qs) (coerced (class_type d) (type_of_term e) g ∷ coerced_arguments m.params (types_of ts) gs)
  called_with c e d m ts on fit w env sc inside q qs g gs told one others = more_operands (stood (class_type d) (type_of_term e) on.0) q (coerced (class_type d) (type_of_term e) g) (all_stood (types_referred m.params) (types_of ts) fit.0) qs (coerced_arguments m.params (types_of ts) gs) (stood_told z lawful.base w env sc inside (class_type d) (type_of_term e) on.0 g (subst (λ k. tells k (text_of z g) ≡ true) own told)) (stood_alike z lawful.base w env sc inside (class_type d) (type_of_term e) on.0 on.1 q g (subst (λ k. OperandAlike z w env sc k q (shown z g)) own one)) (operands_coerced z lawful.base w env sc inside m.params (types_of ts) qs gs fit.0 fit.1 (subst (λ is. OperandsAlike z w env sc is qs gs) (sym (types-list z lawful low c.targets ts)) others))
    where
      own : (receiver_piece c.targets e).here.tpe ≡ type_of_term e
      own = received-type (is_sure z.code.sure e) (operand z.is_mutable z.code.sure e (λ k j. into z.is_mutable z.code.sure c.targets k j e))

  -- a call of a private or a public member on a receiver
  pub receive_does : (p : Position) (c : Context) (k : Destination) (j : ℕ) (e : Term) (d : List ℕ) (n : Namespace) (m : MethodName) (ts : Terms) (t : IrType) → Sound z.is_mutable c → Ahead c j → Writes c.written k → FitsIn (usable z) k t → (usable z).received (called_member (usable z).lookup n (member d n m)) ≡ true → t ≡ call_type m.result → StandsFor z (class_type d) (type_of_term e) → StandForAll z (types_referred m.params) (types_of ts) → OperandsDo z lawful c j (receiver_piece c.targets e ∷ list_of z lawful low c.targets ts) → Does z lawful c k j (apply_statically p e d n m ts t)
  receive_does p c k j e d n m ts t sound ahead wr fits there is on fit ds w env s sc u r same = subst (λ o. Ends z lawful c c.scope k w sc o (into z.is_mutable z.code.sure c.targets k j (apply_statically p e d n m ts t)).statements sc u) (sym (sure_run e act (ir_meaning.operands z.place.classes z.low ts) w env s sc c.scope r.sees)) (subst (λ os. Ends z lawful c c.scope k w sc (ir_meaning.in_order ((receiver_piece c.targets e).run ∷ ir_meaning.operands z.place.classes z.low ts) act env s) (then_use (spill ((receiver_piece c.targets e).here ∷ os) j) (λ es. finish k p t false (text es))).statements sc u) (sym (operands-list z lawful low c.targets ts)) (subst (λ rs. Ends z lawful c c.scope k w sc (ir_meaning.in_order ((receiver_piece c.targets e).run ∷ rs) act env s) (then_use (spill (operands_in z lawful (receiver_piece c.targets e ∷ list_of z lawful low c.targets ts)) j) (λ es. finish k p t false (text es))).statements sc u) (sym (runs-list z lawful low c.targets ts)) (expression_does c k j (receiver_piece c.targets e ∷ list_of z lawful low c.targets ts) t p act text sound ahead wr fits ds given w env s sc u r same)))
    where
      act : List ir.Value → ir.Run
      act = ir_meaning.call_on z.place.classes z.low (ir_meaning.static_target z.place.classes d n m)

      text : List core.Expression → core.Expression
      text es = core.receiver_call (callees.Member (member d n m)) (coerced_receiver (type_of_term e) (first_of es)) (expressions_of (coerced_arguments m.params (types_of ts) (rest_of es)))

      text_is : (g : core.Expression) (gs : List core.Expression) → text (g ∷ gs) ≡ core.receiver_call (callees.Member (member d n m)) (coerced (class_type d) (type_of_term e) g) (expressions_of (coerced_arguments m.params (types_of ts) gs))
      text_is g gs = ap (λ x. core.receiver_call (callees.Member (member d n m)) x (expressions_of (coerced_arguments m.params (types_of ts) gs))) (receiver-coerced d (type_of_term e) g)

      given : (rs : List ir.Run) (es : List core.Expression) (w : World) (env : ir.Env) (s : ir.State) (sc : js.Scope) (u : js.State) → Inside z.place z.code sc → OperandsAlike z w env sc ((receiver_piece c.targets e).here.tpe ∷ types z lawful (list_of z lawful low c.targets ts)) rs es → SameState z.place w s u → Sim z.direction (Valued z.place w env t) (ir_meaning.in_order rs act env s) (shown z (text es) sc u)
      given _ _ w env s sc u inside (more_operands own q g _ qs gs told one others) same = subst (λ o. Sim z.direction (Valued z.place w env t) (ir_meaning.in_order (q ∷ qs) act env s) (shown z o sc u)) (sym (text_is g gs)) (subst (λ i. Sim z.direction (Valued z.place w env i) (ir_meaning.in_order (q ∷ qs) act env s) (shown z (core.receiver_call (callees.Member (member d n m)) (coerced (class_type d) (type_of_term e) g) (expressions_of (coerced_arguments m.params (types_of ts) gs))) sc u)) (sym is) (received_call_alike z lawful.base (member d n m) (stood (class_type d) (type_of_term e) on.0) (all_stood (types_referred m.params) (types_of ts) fit.0) q qs (coerced (class_type d) (type_of_term e) g) (coerced_arguments m.params (types_of ts) gs) there (stood-fits (class_type d) (type_of_term e) on.0) (all-stood-fit (types_referred m.params) (types_of ts) fit.0) w env s sc u inside (called_with c e d m ts on fit w env sc inside q qs g gs told one others) same))

  -- a call by a reflective name
  pub reflect_does : (p : Position) (c : Context) (k : Destination) (j : ℕ) (e : Term) (m : MethodName) (ts : Terms) (t : IrType) → Sound z.is_mutable c → Ahead c j → Writes c.written k → FitsIn (usable z) k t → (usable z).reflected m ≡ true → t ≡ Any → StandsFor z (class_type object) (type_of_term e) → StandForAll z (types_referred m.params) (types_of ts) → OperandsDo z lawful c j (receiver_piece c.targets e ∷ list_of z lawful low c.targets ts) → (w : World) (env : ir.Env) (s : ir.State) (sc : js.Scope) (u : js.State) → Ready z.place z.code c.scope c.writable w env sc → SameState z.place w s u → Ends z lawful c c.scope k w sc (ir_meaning.in_order (ir_meaning.receiving z.place.classes (is_sure env.sure e) z.low (ir_meaning.step z.place.classes z.low e) ∷ ir_meaning.operands z.place.classes z.low ts) (ir_meaning.call_reflective z.place.classes z.low m) env s) (then_use (spill (receiver z.is_mutable z.code.sure e (λ k j. into z.is_mutable z.code.sure c.targets k j e) ∷ operands z.is_mutable z.code.sure c.targets ts) j) (λ es. finish k p t false (core.receiver_call (callees.Reflective m) (coerced_receiver (type_of_term e) (first_of es)) (expressions_of (coerced_arguments m.params (types_of ts) (rest_of es)))))).statements sc u
  reflect_does p c k j e m ts t sound ahead wr fits there is on fit ds w env s sc u r same = subst (λ o. Ends z lawful c c.scope k w sc o (then_use (spill ((receiver_piece c.targets e).here ∷ operands z.is_mutable z.code.sure c.targets ts) j) (λ es. finish k p t false (text es))).statements sc u) (sym (sure_run e act (ir_meaning.operands z.place.classes z.low ts) w env s sc c.scope r.sees)) (subst (λ os. Ends z lawful c c.scope k w sc (ir_meaning.in_order ((receiver_piece c.targets e).run ∷ ir_meaning.operands z.place.classes z.low ts) act env s) (then_use (spill ((receiver_piece c.targets e).here ∷ os) j) (λ es. finish k p t false (text es))).statements sc u) (sym (operands-list z lawful low c.targets ts)) (subst (λ rs. Ends z lawful c c.scope k w sc (ir_meaning.in_order ((receiver_piece c.targets e).run ∷ rs) act env s) (then_use (spill (operands_in z lawful (receiver_piece c.targets e ∷ list_of z lawful low c.targets ts)) j) (λ es. finish k p t false (text es))).statements sc u) (sym (runs-list z lawful low c.targets ts)) (expression_does c k j (receiver_piece c.targets e ∷ list_of z lawful low c.targets ts) t p act text sound ahead wr fits ds given w env s sc u r same)))
    where
      act : List ir.Value → ir.Run
      act = ir_meaning.call_reflective z.place.classes z.low m

      text : List core.Expression → core.Expression
      text es = core.receiver_call (callees.Reflective m) (coerced_receiver (type_of_term e) (first_of es)) (expressions_of (coerced_arguments m.params (types_of ts) (rest_of es)))

      text_is : (g : core.Expression) (gs : List core.Expression) → text (g ∷ gs) ≡ core.receiver_call (callees.Reflective m) (coerced Any (type_of_term e) g) (expressions_of (coerced_arguments m.params (types_of ts) gs))
      text_is g gs = ap (λ x. core.receiver_call (callees.Reflective m) x (expressions_of (coerced_arguments m.params (types_of ts) gs))) (receiver-coerced object (type_of_term e) g)

      given : (rs : List ir.Run) (es : List core.Expression) (w : World) (env : ir.Env) (s : ir.State) (sc : js.Scope) (u : js.State) → Inside z.place z.code sc → OperandsAlike z w env sc ((receiver_piece c.targets e).here.tpe ∷ types z lawful (list_of z lawful low c.targets ts)) rs es → SameState z.place w s u → Sim z.direction (Valued z.place w env t) (ir_meaning.in_order rs act env s) (shown z (text es) sc u)
      given _ _ w env s sc u inside (more_operands own q g _ qs gs told one others) same = subst (λ o. Sim z.direction (Valued z.place w env t) (ir_meaning.in_order (q ∷ qs) act env s) (shown z o sc u)) (sym (text_is g gs)) (subst (λ i. Sim z.direction (Valued z.place w env i) (ir_meaning.in_order (q ∷ qs) act env s) (shown z (core.receiver_call (callees.Reflective m) (coerced Any (type_of_term e) g) (expressions_of (coerced_arguments m.params (types_of ts) gs))) sc u)) (sym is) (reflected_call_alike z lawful m there (stood Any (type_of_term e) on.0) (all_stood (types_referred m.params) (types_of ts) fit.0) q qs (coerced Any (type_of_term e) g) (coerced_arguments m.params (types_of ts) gs) (stood-fits Any (type_of_term e) on.0) (all-stood-fit (types_referred m.params) (types_of ts) fit.0) w env s sc u inside (called_with c e object m ts on fit w env sc inside q qs g gs told one others) same))

  -- a call of a constructor on a receiver, which is given up: it gives nothing by the IR, and the object by its function
  pub construct_does : (p : Position) (c : Context) (j : ℕ) (e : Term) (d : List ℕ) (m : MethodName) (ts : Terms) (t : IrType) → Sound z.is_mutable c → Ahead c j → (usable z).built (member d Constructor m) ≡ true → StandsFor z (class_type d) (type_of_term e) → StandForAll z (types_referred m.params) (types_of ts) → OperandsDo z lawful c j (receiver_piece c.targets e ∷ list_of z lawful low c.targets ts) → Does z lawful c discard j (apply_statically p e d Constructor m ts t)
  construct_does p c j e d m ts t sound ahead there on fit ds w env s sc u r same = subst (λ o. Ends z lawful c c.scope discard w sc o (into z.is_mutable z.code.sure c.targets discard j (apply_statically p e d Constructor m ts t)).statements sc u) (sym (sure_run e act (ir_meaning.operands z.place.classes z.low ts) w env s sc c.scope r.sees)) (subst (λ os. Ends z lawful c c.scope discard w sc (ir_meaning.in_order ((receiver_piece c.targets e).run ∷ ir_meaning.operands z.place.classes z.low ts) act env s) (then_use (spill ((receiver_piece c.targets e).here ∷ os) j) (λ es. finish discard p t false (text es))).statements sc u) (sym (operands-list z lawful low c.targets ts)) (subst (λ rs. Ends z lawful c c.scope discard w sc (ir_meaning.in_order ((receiver_piece c.targets e).run ∷ rs) act env s) (then_use (spill (operands_in z lawful (receiver_piece c.targets e ∷ list_of z lawful low c.targets ts)) j) (λ es. finish discard p t false (text es))).statements sc u) (sym (runs-list z lawful low c.targets ts)) (of_operands z lawful c discard (receiver_piece c.targets e ∷ list_of z lawful low c.targets ts) j act (λ es. finish discard p t false (text es)) sound ahead ds final w env s sc u r same)))
    where
      act : List ir.Value → ir.Run
      act = ir_meaning.call_on z.place.classes z.low (ir_world.member_of z.place.classes d Constructor m)

      text : List core.Expression → core.Expression
      text es = core.receiver_call (callees.Member (member d Constructor m)) (coerced_receiver (type_of_term e) (first_of es)) (expressions_of (coerced_arguments m.params (types_of ts) (rest_of es)))

      text_is : (g : core.Expression) (gs : List core.Expression) → text (g ∷ gs) ≡ core.receiver_call (callees.Member (member d Constructor m)) (coerced (class_type d) (type_of_term e) g) (expressions_of (coerced_arguments m.params (types_of ts) gs))
      text_is g gs = ap (λ x. core.receiver_call (callees.Member (member d Constructor m)) x (expressions_of (coerced_arguments m.params (types_of ts) gs))) (receiver-coerced d (type_of_term e) g)

      final : (w : World) (sc : js.Scope) → Final z lawful c discard w sc c.kept j sc w (types z lawful (receiver_piece c.targets e ∷ list_of z lawful low c.targets ts)) act (λ es. finish discard p t false (text es))
      final from before q i _ _ w env s sc u more so ah l g ready kb ks same (more_operands own a f _ qs gs told one others) = subst (λ o. Ends z lawful c c.scope discard from before (ir_meaning.in_order (a ∷ qs) act env s) (core.statement (core.evaluate_of (Some p) o) core.no_statements) sc u) (sym (text_is f gs)) (ends-one z lawful c c.scope discard from before (ir_meaning.in_order (a ∷ qs) act env s) (core.evaluate_of (Some p) (core.receiver_call (callees.Member (member d Constructor m)) (coerced (class_type d) (type_of_term e) f) (expressions_of (coerced_arguments m.params (types_of ts) gs)))) sc u (subst (λ o. Sim z.direction (Came z.place z.code c c.scope discard from before) o (then_do (shown z (core.receiver_call (callees.Member (member d Constructor m)) (coerced (class_type d) (type_of_term e) f) (expressions_of (coerced_arguments m.params (types_of ts) gs))) sc u) (js.in_statement sc (λ v. js_meaning.nothing sc)))) (then_do-right (ir_meaning.in_order (a ∷ qs) act env s)) (sim_then z.direction (Ran z.place w env) (Came z.place z.code c c.scope discard from before) (ir_meaning.in_order (a ∷ qs) act env s) (shown z (core.receiver_call (callees.Member (member d Constructor m)) (coerced (class_type d) (type_of_term e) f) (expressions_of (coerced_arguments m.params (types_of ts) gs))) sc u) done (js.in_statement sc (λ v. js_meaning.nothing sc)) (constructor_runs z lawful.base d m (stood (class_type d) (type_of_term e) on.0) (all_stood (types_referred m.params) (types_of ts) fit.0) a qs (coerced (class_type d) (type_of_term e) f) (coerced_arguments m.params (types_of ts) gs) there (stood-fits (class_type d) (type_of_term e) on.0) (all-stood-fit (types_referred m.params) (types_of ts) fit.0) w env s sc u ready.sees.inside (called_with c e d m ts on fit w env sc ready.sees.inside a qs f gs told one others) same) each)))
        where
          each : (a : ir.Ended) (b : js.ExpressionEnd) → Ran z.place w env a b → Sim z.direction (Came z.place z.code c c.scope discard from before) (done a) (js.in_statement sc (λ v. js_meaning.nothing sc) b)
          each _ _ (ran y v x s u h states) = sim_done z.direction (Came z.place z.code c c.scope discard from before) (ir.ends (ir.gives v) env s) (js.ends js.normally sc u) (gave y v env s sc u js.normally (grows-trans from w y g h) let_go (ready-lift z c.scope c.writable w y env sc h ready) (keeps-less z c.kept discard before sc kb) states)
          each _ _ (ran_out y v x s u h a states) = sim_done z.direction (Came z.place z.code c c.scope discard from before) (ir.ends (ir.throws v) env s) (js.ends (js.thrown_with x) sc u) (threw y v x env s sc u (grows-trans from w y g h) a (ready-lift z c.scope c.writable w y env sc h ready) kb states)
