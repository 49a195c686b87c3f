-- Calls by reflective names: a receiver and arguments, and a call of the function of the name.
use Rattle.std.proofs.Common.{◌≡◌, true, List, ◌∷◌, sym, ap, ◌∙◌, subst}
use Rattle.outcomes.specs.Outcome.{then_do}
use Rattle.outcomes.specs.Agreement.{Sim}
use Rattle.outcomes.proofs.Simulation.{sim_weaken}
use Rattle.ir_mean.specs.Meaning as ir_meaning
use Rattle.ir_mean.specs.States as ir
use Rattle.js_mean.specs.Meaning as js_meaning
use Rattle.js_mean.specs.States as js
use Rattle.sj_core.specs.declared.callees.Callee.TheVariants as callees
use Rattle.sj_core.specs.Terms as core
use Rattle.sj_core.specs.Views.{expressions_of}
use Rattle.agree_body_rules.specs.Standing.{Fits, FitAll, types_referred}
use Rattle.agree_body_rules.specs.Templates.{expression_templates}
use Rattle.sj_names.specs.declared.method_names.MethodName.{MethodName}
use Rattle.sj_trees.specs.declared.types.IrType.{IrType}
use Rattle.sj_trees.specs.declared.types.IrType.TheVariants.{Any}
use Rattle.agree_plain_trees.specs.Settings.{Setting, shown, usable, SameState, Valued, Lawful, Inside, a_reflection, top_function}
use Rattle.agree_plain_trees.proofs.Orders.{ActsAlike, OperandsAlike, all_shown, in_order_alike, valued-weaken}
use Rattle.agree_plain_trees.proofs.Tops.{row_shown, top_seen}
use Rattle.agree_plain_trees.proofs.Worlds.{World, grows-refl, one_more, value-fits, values-fit}

module _ (z : Setting) (lawful : Lawful z) (m : MethodName) (there : (usable z).reflected m ≡ true) where
  abbrev act : List ir.Value → ir.Run
  act = ir_meaning.call_reflective z.place.classes z.low m

  abbrev fun : js.Value
  fun = top_function z.place (a_reflection m)

  acts : (own : IrType) (ts : List IrType) (w : World) (env : ir.Env) (sc : js.Scope) → Fits Any own → FitAll (types_referred m.params) ts → ActsAlike z w w env (own ∷ ts) Any act (js_meaning.call z.place.program z.js_low fun) sc
  acts own ts w env sc f fit y _ _ s u g (one_more _ v x _ vs xs a others) same = sim_weaken z.direction (Valued z.place y env Any) (Valued z.place w env Any) _ _ (λ a b. valued-weaken z w y env Any a b g) (lawful.reflects m there y v x vs xs env s u (value-fits y Any own v x f a) (values-fit y (types_referred m.params) ts vs xs fit others) same)

  pub reflected_call_alike : (own : IrType) (ts : List IrType) (r : ir.Run) (rs : List ir.Run) (e : core.Expression) (es : List core.Expression) → Fits Any own → FitAll (types_referred m.params) ts → (w : World) (env : ir.Env) (s : ir.State) (sc : js.Scope) (u : js.State) → Inside z.place z.code sc → OperandsAlike z w env sc (own ∷ ts) (r ∷ rs) (e ∷ es) → SameState z.place w s u → Sim z.direction (Valued z.place w env Any) (ir_meaning.in_order (r ∷ rs) act env s) (shown z (core.receiver_call (callees.Reflective m) e (expressions_of es)) sc u)
  reflected_call_alike own ts r rs e es f fit w env s sc u inside operands same = subst (λ q. Sim z.direction (Valued z.place w env Any) (ir_meaning.in_order (r ∷ rs) act env s) q) (sym js_is) (in_order_alike z w w env sc w (own ∷ ts) Any (r ∷ rs) (e ∷ es) act (js_meaning.call z.place.program z.js_low fun) operands (acts own ts w env sc f fit) w s u (grows-refl w) (grows-refl w) (grows-refl w) same)
    where
      js_is : shown z (core.receiver_call (callees.Reflective m) e (expressions_of es)) sc u ≡ js_meaning.in_order (all_shown z (e ∷ es)) (js_meaning.call z.place.program z.js_low fun) sc u
      js_is = ap (λ o. then_do o (js.with_value (λ g. js_meaning.in_order (shown z e ∷ js_meaning.arguments z.place.program z.js_low (expression_templates z.place.name z.place.label (usable z).lookup (expressions_of es))) (js_meaning.call z.place.program z.js_low g) sc))) (top_seen z lawful.base (a_reflection m) fun sc u there inside (same.tops z.code.file (a_reflection m) there)) ∙ ap (λ args. js_meaning.in_order (shown z e ∷ args) (js_meaning.call z.place.program z.js_low fun) sc u) (row_shown z es)
