-- A constructor on a receiver, whatever it gives: operands in order, and then a relation of its own.
use Rattle.std.proofs.Common.{ℕ, ◌≡◌, true, List, [], ◌∷◌, Some, sym, ap, ◌∙◌, subst}
use Rattle.outcomes.specs.Outcome.{Out, then_do}
use Rattle.outcomes.specs.Agreement.{Sim}
use Rattle.outcomes.proofs.Simulation.{sim_done, sim_wrong, sim_then, sim_weaken}
use Rattle.ir_mean.specs.Meaning as ir_meaning
use Rattle.ir_mean.specs.States as ir
use Rattle.ir_mean.specs.World as ir_world
use Rattle.js_mean.specs.Meaning as js_meaning
use Rattle.js_mean.specs.States as js
use Rattle.sj_core.specs.declared.callees.Callee.TheVariants as callees
use Rattle.sj_core.specs.Terms as core
use Rattle.sj_core.specs.Views.{expressions_of}
use Rattle.agree_body_rules.specs.Coercions.{is_char}
use Rattle.agree_body_rules.specs.Templates.{expression_templates}
use Rattle.agree_body_rules.specs.Desugar.{member}
use Rattle.sj_names.specs.declared.method_names.Member.{Member}
use Rattle.sj_names.specs.declared.method_names.MethodName.{MethodName}
use Rattle.sj_names.specs.declared.method_names.Namespace.TheVariants.{Constructor}
use Rattle.sj_trees.specs.Types.{class_type}
use Rattle.sj_trees.specs.declared.types.IrType.{IrType}
use Rattle.sj_trees.specs.declared.types.IrType.TheVariants.{Any}
use Rattle.agree_plain_trees.specs.Settings.{Place, Setting, shown, usable, SameState, Valued, valued, thrown, Based, a_constructor, top_function, top_call, Inside, Built, built, failed, IsReceiver}
use Rattle.agree_body_rules.specs.Standing.{Fits, FitAll, types_referred}
use Rattle.agree_plain_trees.proofs.Orders.{OperandsAlike, no_operands, more_operands, all_shown}
use Rattle.agree_plain_trees.proofs.Tops.{row_shown, top_seen}
use Rattle.agree_plain_trees.proofs.Worlds.{World, Grows, grows-refl, grows-trans, SameValue, Stands, same_undefined, same_null, same_boolean, same_char, same_box, same_number, same_long, same_text, same_reference, value-fits, value-lift, values-fit, SameValues, no_values, one_more}

-- both sides gave something that isn't used, or threw
pub data Ran (p : Place) (from : World) (env : ir.Env) : ir.Ended → js.ExpressionEnd → Type 0 where
  ran : (w : World) (v : ir.Value) (x : js.Value) (s : ir.State) (u : js.State) → Grows from w → SameState p w s u → Ran p from env (ir.ends (ir.gives v) env s) (js.gives x u)
  ran_out : (w : World) (v : ir.Value) (x : js.Value) (s : ir.State) (u : js.State) → Grows from w → SameValue w Any v x → SameState p w s u → Ran p from env (ir.ends (ir.throws v) env s) (js.throws x u)

first_then : (z : Setting) (base w : World) (env : ir.Env) (own : IrType) (k : ir.Value → ir.Run) (f : js.Value → js.State → Out js.ExpressionEnd) → Grows base w → ((y : World) (v : ir.Value) (x : js.Value) (s : ir.State) (u : js.State) → Grows w y → SameValue y own v x → SameState z.place y s u → Sim z.direction (Ran z.place base env) (k v env s) (f x u)) → (a : ir.Ended) (b : js.ExpressionEnd) → Valued z.place w env own a b → Sim z.direction (Ran z.place base env) (ir.onward k a) (js.with_value f b)
first_then z base w env own k f from goes _ _ (valued y v x s u g alike states) = goes y v x s u g alike states
first_then z base w env own k f from goes _ _ (thrown y v x s u g alike states) = sim_done z.direction (Ran z.place base env) (ir.ends (ir.throws v) env s) (js.throws x u) (ran_out y v x s u (grows-trans base w y from g) alike states)

in_order_runs : (z : Setting) (base from : World) (env : ir.Env) (sc : js.Scope) (at : World) (ts : List IrType) (rs : List ir.Run) (es : List core.Expression) (act : List ir.Value → ir.Run) (jact : List js.Value → js.Evaluation) → OperandsAlike z from env sc ts rs es → ((w : World) (vs : List ir.Value) (xs : List js.Value) (s : ir.State) (u : js.State) → Grows at w → SameValues w ts vs xs → SameState z.place w s u → Sim z.direction (Ran z.place base env) (act vs env s) (jact xs sc u)) → (w : World) (s : ir.State) (u : js.State) → Grows base w → Grows from w → Grows at w → SameState z.place w s u → Sim z.direction (Ran z.place base env) (ir_meaning.in_order rs act env s) (js_meaning.in_order (all_shown z es) jact sc u)
in_order_runs z base from env sc at _ _ _ act jact no_operands acts w s u b g h same = acts w [] [] s u h no_values same
in_order_runs z base from env sc at _ _ _ act jact (more_operands own r e owns rs es told one others) acts w s u b g h same = sim_then z.direction (Valued z.place w env own) (Ran z.place base env) (r env s) (shown z e sc u) (ir.onward (λ v. ir_meaning.in_order rs (λ vs. act (v ∷ vs)))) (js.with_value (λ x. js_meaning.in_order (all_shown z es) (λ xs. jact (x ∷ xs)) sc)) (one w s u g same) (first_then z base w env own (λ v. ir_meaning.in_order rs (λ vs. act (v ∷ vs))) (λ x. js_meaning.in_order (all_shown z es) (λ xs. jact (x ∷ xs)) sc) b (λ y v x q j i alike states. in_order_runs z base from env sc y owns rs es (λ vs. act (v ∷ vs)) (λ xs. jact (x ∷ xs)) others (λ k vs xs s u l same states. acts k (v ∷ vs) (x ∷ xs) s u (grows-trans at y k (grows-trans at w y h i) l) (one_more own v x owns vs xs (value-lift y k own v x l alike) same) states) y q j (grows-trans base w y b i) (grows-trans from w y g i) (grows-refl y) states))

module _ (z : Setting) (law : Based z) where
  -- a constructor runs on a receiver
  construct_acts : (m : Member) (own : IrType) (ts : List IrType) (w : World) (env : ir.Env) (sc : js.Scope) → (usable z).built m ≡ true → Fits (class_type m.class) own → FitAll (types_referred m.method.params) ts → (y : World) (vs : List ir.Value) (xs : List js.Value) (s : ir.State) (u : js.State) → Grows w y → SameValues y (own ∷ ts) vs xs → SameState z.place y s u → Sim z.direction (Ran z.place w env) (ir_meaning.call_on z.place.classes z.low (ir_world.member_of z.place.classes m.class m.namespace m.method) vs env s) (js_meaning.call z.place.program z.js_low (top_function z.place (a_constructor m)) xs sc u)
  construct_acts m own ts w env sc there f fit y _ _ s u g (one_more _ v x _ vs xs a others) same = by v x a.stands (value-fits y (class_type m.class) own v x f a)
    where
      each : (x : js.Value) (e : ir.Ended) (b : js.ExpressionEnd) → Built z.place y env x e b → Ran z.place w env e b
      each x _ _ (built k v s u h states) = ran k v x s u (grows-trans w y k g h) states
      each x _ _ (failed k v q s u h c states) = ran_out k v q s u (grows-trans w y k g h) c states

      goes : (v : ir.Value) (x : js.Value) → IsReceiver y m.class v x → Sim z.direction (Ran z.place w env) (ir_meaning.call z.low (ir_world.member_of z.place.classes m.class m.namespace m.method) (Some v) vs env s) (top_call z.place z.js_low (a_constructor m) (x ∷ xs) u)
      goes v x r = sim_weaken z.direction (Built z.place y env x) (Ran z.place w env) _ _ (each x) (law.builds m there y v x vs xs env s u r (values-fit y (types_referred m.method.params) ts vs xs fit others) same)

      by : (v : ir.Value) (x : js.Value) → Stands y (is_char own) v x → SameValue y (class_type m.class) v x → Sim z.direction (Ran z.place w env) (ir_meaning.call_on z.place.classes z.low (ir_world.member_of z.place.classes m.class m.namespace m.method) (v ∷ vs) env s) (top_call z.place z.js_low (a_constructor m) (x ∷ xs) u)
      by _ _ same_null k = sim_wrong z.direction (Ran z.place w env) _
      by _ _ same_undefined k = goes _ _ (record { stands = k; there = λ e. cc })
      by _ _ (same_boolean b) k = goes _ _ (record { stands = k; there = λ e. cc })
      by _ _ (same_char r c h) k = goes _ _ (record { stands = k; there = λ e. cc })
      by _ _ (same_box r c b h i) k = goes _ _ (record { stands = k; there = λ e. cc })
      by _ _ (same_number n h) k = goes _ _ (record { stands = k; there = λ e. cc })
      by _ _ (same_long n h) k = goes _ _ (record { stands = k; there = λ e. cc })
      by _ _ (same_text us) k = goes _ _ (record { stands = k; there = λ e. cc })
      by _ _ (same_reference i a e) k = goes _ _ (record { stands = k; there = λ e. cc })

  -- a call of a constructor on a receiver
  pub constructor_runs : (d : List ℕ) (name : MethodName) (own : IrType) (ts : List IrType) (r : ir.Run) (rs : List ir.Run) (e : core.Expression) (es : List core.Expression) → (usable z).built (member d Constructor name) ≡ true → Fits (class_type (member d Constructor name).class) own → FitAll (types_referred (member d Constructor name).method.params) ts → (w : World) (env : ir.Env) (s : ir.State) (sc : js.Scope) (u : js.State) → Inside z.place z.code sc → OperandsAlike z w env sc (own ∷ ts) (r ∷ rs) (e ∷ es) → SameState z.place w s u → Sim z.direction (Ran z.place w env) (ir_meaning.in_order (r ∷ rs) (ir_meaning.call_on z.place.classes z.low (ir_world.member_of z.place.classes (member d Constructor name).class (member d Constructor name).namespace (member d Constructor name).method)) env s) (shown z (core.receiver_call (callees.Member (member d Constructor name)) e (expressions_of es)) sc u)
  constructor_runs d name own ts r rs e es there f fit w env s sc u inside operands same = subst (λ q. Sim z.direction (Ran z.place w env) (ir_meaning.in_order (r ∷ rs) (ir_meaning.call_on z.place.classes z.low (ir_world.member_of z.place.classes (member d Constructor name).class (member d Constructor name).namespace (member d Constructor name).method)) env s) q) (sym js_is) (in_order_runs z w w env sc w (own ∷ ts) (r ∷ rs) (e ∷ es) (ir_meaning.call_on z.place.classes z.low (ir_world.member_of z.place.classes (member d Constructor name).class (member d Constructor name).namespace (member d Constructor name).method)) (js_meaning.call z.place.program z.js_low fun) operands (construct_acts (member d Constructor name) own ts w env sc there f fit) w s u (grows-refl w) (grows-refl w) (grows-refl w) same)
    where
      fun : js.Value
      fun = top_function z.place (a_constructor (member d Constructor name))

      js_is : shown z (core.receiver_call (callees.Member (member d Constructor name)) e (expressions_of es)) sc u ≡ js_meaning.in_order (all_shown z (e ∷ es)) (js_meaning.call z.place.program z.js_low fun) sc u
      js_is = ap (λ o. then_do o (js.with_value (λ g. js_meaning.in_order (shown z e ∷ js_meaning.arguments z.place.program z.js_low (expression_templates z.place.name z.place.label (usable z).lookup (expressions_of es))) (js_meaning.call z.place.program z.js_low g) sc))) (top_seen z law (a_constructor (member d Constructor name)) fun sc u there inside (same.tops z.code.file (a_constructor (member d Constructor name)) there)) ∙ ap (λ args. js_meaning.in_order (shown z e ∷ args) (js_meaning.call z.place.program z.js_low fun) sc u) (row_shown z es)
