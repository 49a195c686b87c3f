-- The one object of a class is loaded and stored: calls of the functions that do it.
use Rattle.std.proofs.Common.{◌≡◌, ℕ, true, List, [], ◌∷◌, sym, ap, subst}
use Rattle.outcomes.specs.Outcome.{then_do}
use Rattle.outcomes.specs.Agreement.{Sim}
use Rattle.outcomes.proofs.Simulation.{sim_weaken}
use Rattle.ir_mean.specs.Meaning as ir_meaning
use Rattle.ir_mean.specs.States as ir
use Rattle.js_mean.specs.Meaning as js_meaning
use Rattle.js_mean.specs.States as js
use Rattle.js_tree.specs.Terms as tree
use Rattle.sj_core.specs.Terms as core
use Rattle.agree_body_rules.specs.Standing.{Fits}
use Rattle.agree_body_rules.specs.Templates.{load_name, store_name, expression_template}
use Rattle.sj_trees.specs.Types.{class_type}
use Rattle.sj_trees.specs.declared.types.IrType.{IrType}
use Rattle.sj_trees.specs.declared.types.IrType.TheVariants.{NoType}
use Rattle.agree_plain_trees.specs.Settings.{Setting, shown, usable, SameState, Valued, Based, Lawful, Inside, a_loader, a_storer, top_function}
use Rattle.agree_plain_trees.proofs.Orders.{ActsAlike, OperandsAlike, in_order_alike, valued-weaken}
use Rattle.agree_plain_trees.proofs.Tops.{top_seen}
use Rattle.agree_plain_trees.proofs.Worlds.{World, grows-refl, no_values, one_more, value-fits}

module _ (z : Setting) (lawful : Lawful z) (c : List ℕ) (there : (usable z).modules c ≡ true) where
  -- the call of the function that loads it
  abbrev pub loader_text : js.Evaluation
  loader_text = js_meaning.evaluate z.place.program z.js_low (tree.call_of (load_name c) tree.no_expressions)

  pub load_alike : (w : World) (env : ir.Env) (s : ir.State) (sc : js.Scope) (u : js.State) → Inside z.place z.code sc → SameState z.place w s u → Sim z.direction (Valued z.place w env (class_type c)) (ir_meaning.load z.place.classes z.low c (s.cells c) env s) (loader_text sc u)
  load_alike w env s sc u inside same = subst (λ q. Sim z.direction (Valued z.place w env (class_type c)) (ir_meaning.load z.place.classes z.low c (s.cells c) env s) q) (sym js_is) (lawful.loads c there w env s u same)
    where
      js_is : loader_text sc u ≡ js_meaning.call z.place.program z.js_low (top_function z.place (a_loader c)) [] sc u
      js_is = ap (λ o. then_do o (js.with_value (λ g. js_meaning.in_order [] (js_meaning.call z.place.program z.js_low g) sc))) (top_seen z lawful.base (a_loader c) (top_function z.place (a_loader c)) sc u there inside (same.tops z.code.file (a_loader c) there))

module _ (z : Setting) (law : Based z) (c : List ℕ) (there : (usable z).stored c ≡ true) where
  abbrev fun : js.Value
  fun = top_function z.place (a_storer c)

  store_acts : (own : IrType) → Fits (class_type c) own → (base : World) (env : ir.Env) (sc : js.Scope) → ActsAlike z base base env (own ∷ []) NoType (ir_meaning.store c) (js_meaning.call z.place.program z.js_low fun) sc
  store_acts own fit base env sc y _ _ s u g (one_more _ v x _ _ _ a no_values) same = sim_weaken z.direction (Valued z.place y env NoType) (Valued z.place base env NoType) _ _ (λ a b. valued-weaken z base y env NoType a b g) (law.stores c there y v x env s u (value-fits y (class_type c) own v x fit a) same)

  -- the call of the function that stores it, with an expression
  abbrev pub storer_text : core.Expression → js.Evaluation
  storer_text e = js_meaning.evaluate z.place.program z.js_low (tree.call_of (store_name c) (tree.expression (expression_template z.place.name z.place.label (usable z).lookup e) tree.no_expressions))

  pub store_alike : (own : IrType) (r : ir.Run) (e : core.Expression) → Fits (class_type c) own → (w : World) (env : ir.Env) (s : ir.State) (sc : js.Scope) (u : js.State) → Inside z.place z.code sc → OperandsAlike z w env sc (own ∷ []) (r ∷ []) (e ∷ []) → SameState z.place w s u → Sim z.direction (Valued z.place w env NoType) (ir_meaning.in_order (r ∷ []) (ir_meaning.store c) env s) (storer_text e sc u)
  store_alike own r e fit w env s sc u inside operand same = subst (λ o. Sim z.direction (Valued z.place w env NoType) (ir_meaning.in_order (r ∷ []) (ir_meaning.store c) env s) o) (sym js_is) (in_order_alike z w w env sc w (own ∷ []) NoType (r ∷ []) (e ∷ []) (ir_meaning.store c) (js_meaning.call z.place.program z.js_low fun) operand (store_acts own fit w env sc) w s u (grows-refl w) (grows-refl w) (grows-refl w) same)
    where
      js_is : storer_text e sc u ≡ js_meaning.in_order (shown z e ∷ []) (js_meaning.call z.place.program z.js_low fun) sc u
      js_is = ap (λ o. then_do o (js.with_value (λ g. js_meaning.in_order (shown z e ∷ []) (js_meaning.call z.place.program z.js_low g) sc))) (top_seen z law (a_storer c) fun sc u there inside (same.tops z.code.file (a_storer c) there))
