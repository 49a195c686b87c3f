-- Operands in order, on both sides.
use Rattle.std.proofs.Common.{◌≡◌, true, List, [], ◌∷◌, Option, Some, refl, sym, ap, ◌∙◌, subst}
use mathlib.Core.Path.{fun_ext}
use Rattle.outcomes.specs.Outcome.{Out, then_do}
use Rattle.outcomes.specs.Agreement.{Sim}
use Rattle.outcomes.proofs.Sequence.{then_do-associative}
use Rattle.outcomes.proofs.Simulation.{sim_done, sim_then}
use Rattle.ir_mean.specs.Meaning as ir_meaning
use Rattle.ir_mean.specs.States as ir
use Rattle.js_mean.specs.Meaning as js_meaning
use Rattle.js_mean.specs.States as js
use Rattle.agree_plain_trees.proofs.Worlds.{World, Grows, grows-refl, grows-trans, SameValue, value-lift, value-fits, SameValues, no_values, one_more}
use Rattle.agree_body_rules.specs.Standing.{Fits}
use Rattle.agree_plain_trees.proofs.Told.{tells}
use Rattle.sj_core.specs.Terms as core
use Rattle.js_tree.specs.Terms as tree
use Rattle.agree_body_rules.specs.Templates.{expression_template}
use Rattle.sj_trees.specs.declared.types.IrType.{IrType}
use Rattle.agree_plain_trees.specs.Settings.{Setting, shown, SameState, Valued, valued, thrown, usable}

-- values of these types that operands gave, in a world that has grown from the second, and what is done with them, which gives one of this
-- type in a world that has grown from the first
abbrev pub ActsAlike : (z : Setting) (base from : World) (env : ir.Env) → List IrType → IrType → (List ir.Value → ir.Run) → (List js.Value → js.Evaluation) → js.Scope → Type 0
ActsAlike z base from env ts t act jact sc = (w : World) (vs : List ir.Value) (xs : List js.Value) (s : ir.State) (u : js.State) → Grows from w → SameValues w ts vs xs → SameState z.place w s u → Sim z.direction (Valued z.place base env t) (act vs env s) (jact xs sc u)

-- an operand of this type of the IR and an expression of the emitted code, in this scope and in each state
abbrev pub OperandAlike : (z : Setting) (from : World) (env : ir.Env) (sc : js.Scope) → IrType → ir.Run → js.Evaluation → Type 0
OperandAlike z from env sc t r e = (w : World) (s : ir.State) (u : js.State) → Grows from w → SameState z.place w s u → Sim z.direction (Valued z.place w env t) (r env s) (e sc u)

-- the text of an expression
abbrev pub text_of : Setting → core.Expression → tree.Expression
text_of z e = expression_template z.place.name z.place.label (usable z).lookup e

abbrev pub all_shown : Setting → List core.Expression → List js.Evaluation
all_shown z [] = []
all_shown z (e ∷ es) = shown z e ∷ all_shown z es

-- operands of these types, and the expressions that are emitted for them
pub data OperandsAlike (z : Setting) (from : World) (env : ir.Env) (sc : js.Scope) : List IrType → List ir.Run → List core.Expression → Type 0 where
  no_operands : OperandsAlike z from env sc [] [] []
  more_operands : (t : IrType) (r : ir.Run) (e : core.Expression) (ts : List IrType) (rs : List ir.Run) (es : List core.Expression) → tells t (text_of z e) ≡ true → OperandAlike z from env sc t r (shown z e) → OperandsAlike z from env sc ts rs es → OperandsAlike z from env sc (t ∷ ts) (r ∷ rs) (e ∷ es)

pub operands-lift : (z : Setting) (from to : World) (env : ir.Env) (sc : js.Scope) (ts : List IrType) (rs : List ir.Run) (es : List core.Expression) → Grows from to → OperandsAlike z from env sc ts rs es → OperandsAlike z to env sc ts rs es
operands-lift z from to env sc _ _ _ g no_operands = no_operands
operands-lift z from to env sc _ _ _ g (more_operands t r e ts rs es told one others) = more_operands t r e ts rs es told (λ w s u h. one w s u (grows-trans from to w g h)) (operands-lift z from to env sc ts rs es g others)

pub valued-weaken : (z : Setting) (v w : World) (env : ir.Env) (t : IrType) (a : ir.Ended) (b : js.ExpressionEnd) → Grows v w → Valued z.place w env t a b → Valued z.place v env t a b
valued-weaken z v w env t _ _ g (valued y x j s u h same states) = valued y x j s u (grows-trans v w y g h) same states
valued-weaken z v w env t _ _ g (thrown y x j s u h same states) = thrown y x j s u (grows-trans v w y g h) same states

-- an expression of one type whose value is one of another, too
pub valued-fits : (z : Setting) (w : World) (env : ir.Env) (expected own : IrType) (a : ir.Ended) (b : js.ExpressionEnd) → Fits expected own → Valued z.place w env own a b → Valued z.place w env expected a b
valued-fits z w env expected own _ _ f (valued y x j s u h same states) = valued y x j s u h (value-fits y expected own x j f same) states
valued-fits z w env expected own _ _ f (thrown y x j s u h same states) = thrown y x j s u h same states

pub first_then : (z : Setting) (base w : World) (env : ir.Env) (sc : js.Scope) (t own : IrType) (k : ir.Value → ir.Run) (f : js.Value → js.State → Out js.ExpressionEnd) → Grows base w → ((y : World) (v : ir.Value) (x : js.Value) (s : ir.State) (u : js.State) → Grows w y → SameValue y own v x → SameState z.place y s u → Sim z.direction (Valued z.place base env t) (k v env s) (f x u)) → (a : ir.Ended) (b : js.ExpressionEnd) → Valued z.place w env own a b → Sim z.direction (Valued z.place base env t) (ir.onward k a) (js.with_value f b)
first_then z base w env sc t own k f from goes _ _ (valued y v x s u g alike states) = goes y v x s u g alike states
first_then z base w env sc t own k f from goes _ _ (thrown y v x s u g alike states) = sim_done z.direction (Valued z.place base env t) (ir.ends (ir.throws v) env s) (js.throws x u) (thrown y v x s u (grows-trans base w y from g) alike states)

pub in_order_alike : (z : Setting) (base from : World) (env : ir.Env) (sc : js.Scope) (at : World) (ts : List IrType) (t : IrType) (rs : List ir.Run) (es : List core.Expression) (act : List ir.Value → ir.Run) (jact : List js.Value → js.Evaluation) → OperandsAlike z from env sc ts rs es → ActsAlike z base at env ts t act jact sc → (w : World) (s : ir.State) (u : js.State) → Grows base w → Grows from w → Grows at w → SameState z.place w s u → Sim z.direction (Valued z.place base env t) (ir_meaning.in_order rs act env s) (js_meaning.in_order (all_shown z es) jact sc u)
in_order_alike z base from env sc at _ t _ _ act jact no_operands acts w s u b g h same = acts w [] [] s u h no_values same
in_order_alike z base from env sc at _ t _ _ act jact (more_operands own r e owns rs es told one others) acts w s u b g h same = sim_then z.direction (Valued z.place w env own) (Valued z.place base env t) (r env s) (shown z e sc u) (ir.onward (λ v. ir_meaning.in_order rs (λ vs. act (v ∷ vs)))) (js.with_value (λ x. js_meaning.in_order (all_shown z es) (λ xs. jact (x ∷ xs)) sc)) (one w s u g same) (first_then z base w env sc t own (λ v. ir_meaning.in_order rs (λ vs. act (v ∷ vs))) (λ x. js_meaning.in_order (all_shown z es) (λ xs. jact (x ∷ xs)) sc) b (λ y v x q j i alike states. in_order_alike z base from env sc y owns t rs es (λ vs. act (v ∷ vs)) (λ xs. jact (x ∷ xs)) others (λ k vs xs s u l same states. acts k (v ∷ vs) (x ∷ xs) s u (grows-trans at y k (grows-trans at w y h i) l) (one_more own v x owns vs xs (value-lift y k own v x l alike) same) states) y q j (grows-trans base w y b i) (grows-trans from w y g i) (grows-refl y) states))

with_value-associative : (f g : js.Value → js.State → Out js.ExpressionEnd) (b : js.ExpressionEnd) → then_do (js.with_value f b) (js.with_value g) ≡ js.with_value (λ x s. then_do (f x s) (js.with_value g)) b
with_value-associative f g (js.gives x s) = refl
with_value-associative f g (js.throws x s) = refl

-- more that is done behind operands in order is done behind their act
pub in_order-then : (es : List js.Evaluation) (act : List js.Value → js.Evaluation) (g : js.Value → js.State → Out js.ExpressionEnd) (sc : js.Scope) (u : js.State) → then_do (js_meaning.in_order es act sc u) (js.with_value g) ≡ js_meaning.in_order es (λ xs sc u. then_do (act xs sc u) (js.with_value g)) sc u
in_order-then [] act g sc u = refl
in_order-then (e ∷ es) act g sc u = then_do-associative (e sc u) (js.with_value (λ x. js_meaning.in_order es (λ xs. act (x ∷ xs)) sc)) (js.with_value g) ∙ ap (then_do (e sc u)) (fun_ext (with_value-associative (λ x. js_meaning.in_order es (λ xs. act (x ∷ xs)) sc) g)) ∙ ap (λ f. then_do (e sc u) (js.with_value f)) (fun_ext (λ x. fun_ext (λ s. in_order-then es (λ xs. act (x ∷ xs)) g sc s)))

-- an expression, and behind it a function of its value that asks nothing of the program
abbrev pub converted : (js.Value → Option js.Value) → js.Evaluation → js.Evaluation
converted c e sc u = then_do (e sc u) (js.with_value (λ x. js_meaning.value_or_wrong (c x) sc))

-- what the conversion makes of each value of the type, by the value of the IR
abbrev pub Converts : (js.Value → Option js.Value) → IrType → (ir.Value → js.Value) → Type 0
Converts c t f = (w : World) (v : ir.Value) (x : js.Value) → SameValue w t v x → c x ≡ Some (f v)

-- an operand that is converted, and what is done with its value
converted_then : (z : Setting) (base w : World) (env : ir.Env) (sc : js.Scope) (t own : IrType) (c : js.Value → Option js.Value) (f : ir.Value → js.Value) → Converts c own f → (r : ir.Run) (e : js.Evaluation) (k : ir.Value → ir.Run) (g : js.Value → js.State → Out js.ExpressionEnd) (s : ir.State) (u : js.State) → Grows base w → ((y : World) (v : ir.Value) (x : js.Value) (s : ir.State) (u : js.State) → Grows w y → SameValue y own v x → SameState z.place y s u → Sim z.direction (Valued z.place base env t) (k v env s) (g (f v) u)) → Sim z.direction (Valued z.place w env own) (r env s) (e sc u) → Sim z.direction (Valued z.place base env t) (then_do (r env s) (ir.onward k)) (then_do (converted c e sc u) (js.with_value g))
converted_then z base w env sc t own c f converts r e k g s u b goes alike = subst (λ q. Sim z.direction (Valued z.place base env t) (then_do (r env s) (ir.onward k)) q) (sym (then_do-associative (e sc u) (js.with_value (λ x. js_meaning.value_or_wrong (c x) sc)) (js.with_value g) ∙ ap (then_do (e sc u)) (fun_ext (with_value-associative (λ x. js_meaning.value_or_wrong (c x) sc) g)))) (sim_then z.direction (Valued z.place w env own) (Valued z.place base env t) (r env s) (e sc u) (ir.onward k) (js.with_value (λ x u. then_do (js_meaning.value_or_wrong (c x) sc u) (js.with_value g))) alike (first_then z base w env sc t own k (λ x u. then_do (js_meaning.value_or_wrong (c x) sc u) (js.with_value g)) b (λ y v x s u h a same. subst (λ o. Sim z.direction (Valued z.place base env t) (k v env s) (then_do (js_meaning.value_or_wrong o sc u) (js.with_value g))) (sym (converts y v x a)) (goes y v x s u h a same))))

-- two operands that are converted each by itself
pub two_converted : (z : Setting) (w : World) (env : ir.Env) (sc : js.Scope) (t left right : IrType) (c d : js.Value → Option js.Value) (f h : ir.Value → js.Value) → Converts c left f → Converts d right h → (r q : ir.Run) (e g : js.Evaluation) (act : List ir.Value → ir.Run) (jact : List js.Value → js.Evaluation) → ((y : World) (v v' : ir.Value) (x x' : js.Value) (s : ir.State) (u : js.State) → Grows w y → SameValue y left v x → SameValue y right v' x' → SameState z.place y s u → Sim z.direction (Valued z.place w env t) (act (v ∷ v' ∷ []) env s) (jact (f v ∷ h v' ∷ []) sc u)) → OperandAlike z w env sc left r e → OperandAlike z w env sc right q g → (s : ir.State) (u : js.State) → SameState z.place w s u → Sim z.direction (Valued z.place w env t) (ir_meaning.in_order (r ∷ q ∷ []) act env s) (js_meaning.in_order (converted c e ∷ converted d g ∷ []) jact sc u)
two_converted z w env sc t left right c d f h converts also r q e g act jact acts one other s u same = converted_then z w w env sc t left c f converts r e (λ v. ir_meaning.in_order (q ∷ []) (λ vs. act (v ∷ vs))) (λ x. js_meaning.in_order (converted d g ∷ []) (λ xs. jact (x ∷ xs)) sc) s u (grows-refl w) (λ y v x s u i a same. converted_then z w y env sc t right d h also q g (λ v'. ir_meaning.in_order [] (λ vs. act (v ∷ v' ∷ vs))) (λ x'. js_meaning.in_order [] (λ xs. jact (f v ∷ x' ∷ xs)) sc) s u i (λ k v' x' s u j b same. acts k v v' x x' s u (grows-trans w y k i j) (value-lift y k left v x j a) b same) (other y s u i same)) (one w s u (grows-refl w) same)
