-- One lemma for each form that isn't plain, over the parts of the form.
use Rattle.std.proofs.Common.{◌≡◌, ℕ, suc, ◌≤◌, Bool, true, false, List, [], ◌∷◌, Some, Option, refl, sym, ap, ◌∙◌, subst, arith, ◌⊎◌, inl, inr, ⊎_elim, if◌then◌else◌}
use Rattle.std.specs.Prelude.{nat_eq}
use Rattle.std.specs.Cmp.Lexicographic.{pointwise}
use Rattle.outcomes.specs.Outcome.{Out, done, then_do}
use Rattle.outcomes.specs.Agreement.{Sim}
use Rattle.outcomes.proofs.Sequence.{then_do-right}
use Rattle.outcomes.proofs.Simulation.{sim_done, sim_wrong, sim_then, sim_weaken, sim_says}
use Rattle.agree_plain_trees.specs.Meaning as ir_meaning
use Rattle.agree_plain_trees.specs.States as ir
use Rattle.js_mean.specs.Meaning as js_meaning
use Rattle.js_mean.specs.States as js
use Rattle.sj_core.specs.Terms as core
use Rattle.agree_early_errors.specs.Coercions.{is_char, coerced}
use Rattle.agree_early_errors.specs.Desugar.{target_of, first_of, finish, operand, branches}
use Rattle.agree_early_errors.specs.Spill.{Destination, discard, to_variable, to_result, Code, one, put_first, then_use, spill}
use Rattle.agree_early_errors.specs.Templates.{statement_templates}
use Rattle.sj_trees.specs.declared.positions.Position.{Position}
use Rattle.sj_trees.specs.declared.types.IrType.{IrType}
use Rattle.agree_early_errors.specs.Locals.{Scope, with_local}
use Rattle.sj_trees.specs.declared.types.IrType.TheVariants.{NoType}
use Rattle.agree_plain_trees.specs.Settings.{Receiving, Setting, shown, run, SameState, Valued, valued, Lawful, Holding, holding, Sees, usable}
use Rattle.agree_plain_trees.proofs.Boxes.{StandsFor, stood, stood-fits, operand_stood, operand_coerced}
use Rattle.agree_bodies.proofs.Blocks.{Outside, Undeclared, block_alike}
use Rattle.agree_bodies.proofs.Contexts.{Context, Writes, writes-more, Sound, Ahead, IsOpen, Ready, ready-lift, Keeps, Goes, Less, keeps-less, less-trans, keeps-fewer, keeps-refl, keeps-trans, Arrives, let_go, stored, Came, gave, left, threw, stopped, started-here, started-other, started-inside, started-ready, started-keeps}
use Rattle.agree_early_errors.proofs.Equal.{equals, is-equal}
use Rattle.agree_bodies.specs.Fine.{FitsIn}
use Rattle.sj_names.proofs.Same.{impossible}
use Rattle.agree_plain_trees.proofs.Orders.{OperandAlike, OperandsAlike, no_operands, more_operands, in_order_alike, ActsAlike}
use Rattle.agree_bodies.proofs.Spills.{keeping, writing, Extends, extends-refl, Final, OperandsDo, Piece, runs, operands_in, types, spill_does, numbered-named, numbered-same}
use Rattle.agree_bodies.proofs.Statements.{act_of, ends-one, assigned, started-open, finish_alike, ThrowsOn, throws-on, valued_then, valued_done, Ends}
use Rattle.agree_plain_trees.proofs.Worlds.{World, Grows, grows-refl, grows-trans, SameValue, Stands, same_undefined, same_boolean, same_text, value-fits, no_values, one_more}

module _ (z : Setting) (lawful : Lawful z) where
  -- a context in which one more variable for an operand may be written
  pub sound-writing : (c : Context) (i : ℕ) → Sound z.is_mutable c → Ahead c i → Sound z.is_mutable (writing c (core.numbered i))
  sound-writing c i sound ahead = record {
    hidden = λ x t wr g. ⊎_elim (λ e. numbered-named x i e) (λ h. sound.hidden x t h g) wr;
    constant = sound.constant;
    changing = sound.changing;
    alone = sound.alone;
    within = λ y wr. ⊎_elim (λ e. inl e) (λ h. inr (sound.within y h)) wr;
    aims = λ l. writes-more c.writable (λ y. (y ≡ core.numbered i) ⊎ c.writable y) (target_of c.targets l) (λ y h. inr h) (sound.aims l);
    reached = λ l r. writes-more c.written (λ y. (y ≡ core.numbered i) ⊎ c.written y) (target_of c.targets l) (λ y h. inr h) (sound.reached l r);
    apart = λ t y k wr. ⊎_elim (λ e. ahead.kept i (omega arith) (subst c.kept e k)) (λ h. sound.apart t y k h) wr;
    receiver = sound.receiver;
    received = λ wr. ⊎_elim (λ e. absurd (cc)) sound.received wr;
  }

  pub ahead-writing : (c : Context) (i : ℕ) → Ahead c i → Ahead (writing c (core.numbered i)) (suc i)
  ahead-writing c i ahead = record {
    writable = λ k h wr. ⊎_elim (λ e. let same : k ≡ i = numbered-same z lawful k i e in absurd (omega arith)) (ahead.writable k (omega arith)) wr;
    kept = λ k h. ahead.kept k (omega arith);
  }

  pub outside-writing : (c : Context) (p : core.Variable → Type 0) (i : ℕ) (own : List ℕ → Type 0) → Extends c p → Outside c own → Outside (writing (keeping c p) (core.numbered i)) own
  outside-writing c p i own e out = record { scope = out.scope; writable = λ x o wr. ⊎_elim (λ h. numbered-named x i h) (out.writable x o) wr; kept = λ x o k. out.kept x o (e.names x k) }

  pub ahead-later : (c : Context) (i j : ℕ) → i ≤ j → Ahead c i → Ahead c j
  ahead-later c i j l ahead = record { writable = λ k h. ahead.writable k (omega arith); kept = λ k h. ahead.kept k (omega arith) }

  -- operands of a form, and what is made of them
  pub of_operands : (c : Context) (k : Destination) (ts : List Piece) (j : ℕ) (act : List ir.Value → ir.Run) (made : List core.Expression → ℕ → Code) → Sound z.is_mutable c → Ahead c j → OperandsDo z lawful c j ts → ((w : World) (sc : js.Scope) → Final z lawful c k w sc c.kept j sc w (types z lawful ts) act made) → (w : World) (env : ir.Env) (s : ir.State) (sc : js.Scope) (u : js.State) → Ready z.place z.code c.scope c.writable w env sc → SameState z.place w s u → Ends z lawful c c.scope k w sc (ir_meaning.in_order (runs z lawful ts) act env s) (then_use (spill (operands_in z lawful ts) j) made).statements sc u
  of_operands c k ts j act made sound ahead ds final w env s sc u r same = spill_does z lawful c k w sc ts c.kept j act made w env s sc u ds (extends-refl c) sound ahead (final w sc) (grows-refl w) r (keeps-refl z c.kept sc) same

  -- one operand of this type
  abbrev pub OneFinal : Context → Destination → World → js.Scope → ℕ → IrType → (List ir.Value → ir.Run) → (List core.Expression → ℕ → Code) → Type 0
  OneFinal c k from before j own act made = (i : ℕ) (r : ir.Run) (e : core.Expression) (w : World) (env : ir.Env) (s : ir.State) (sc : js.Scope) (u : js.State) → Ahead c i → j ≤ i → Grows from w → Ready z.place z.code c.scope c.writable w env sc → Keeps z.place c.kept before sc → SameState z.place w s u → OperandsAlike z w env sc (own ∷ []) (r ∷ []) (e ∷ []) → Ends z lawful c c.scope k from before (ir_meaning.in_order (r ∷ []) act env s) (made (e ∷ []) i).statements sc u

  base-ahead : (c : Context) (q : core.Variable → Type 0) (i : ℕ) → ((y : core.Variable) → c.kept y → q y) → Ahead (keeping c q) i → Ahead c i
  base-ahead c q i more ahead = record { writable = ahead.writable; kept = λ k h kp. ahead.kept k h (more (core.numbered k) kp) }

  pub one_final : (c : Context) (k : Destination) (j : ℕ) (own : IrType) (act : List ir.Value → ir.Run) (made : List core.Expression → ℕ → Code) → ((w : World) (sc : js.Scope) → OneFinal c k w sc j own act made) → (w : World) (sc : js.Scope) → Final z lawful c k w sc c.kept j sc w (own ∷ []) act made
  one_final c k j own act made h w sc q i _ _ y env s sc' u more so ah l g r kb ks same (more_operands _ a e _ _ _ told alike no_operands) = h w sc i a e y env s sc' u (base-ahead c q i more ah) l g r kb same (more_operands own a e [] [] [] told alike no_operands)

  -- two operands of these types
  abbrev pub TwoFinal : Context → Destination → World → js.Scope → ℕ → IrType → IrType → (List ir.Value → ir.Run) → (List core.Expression → ℕ → Code) → Type 0
  TwoFinal c k from before j one_type other_type act made = (i : ℕ) (r q : ir.Run) (e d : core.Expression) (w : World) (env : ir.Env) (s : ir.State) (sc : js.Scope) (u : js.State) → Ahead c i → j ≤ i → Grows from w → Ready z.place z.code c.scope c.writable w env sc → Keeps z.place c.kept before sc → SameState z.place w s u → OperandsAlike z w env sc (one_type ∷ other_type ∷ []) (r ∷ q ∷ []) (e ∷ d ∷ []) → Ends z lawful c c.scope k from before (ir_meaning.in_order (r ∷ q ∷ []) act env s) (made (e ∷ d ∷ []) i).statements sc u

  pub two_final : (c : Context) (k : Destination) (j : ℕ) (one_type other_type : IrType) (act : List ir.Value → ir.Run) (made : List core.Expression → ℕ → Code) → ((w : World) (sc : js.Scope) → TwoFinal c k w sc j one_type other_type act made) → (w : World) (sc : js.Scope) → Final z lawful c k w sc c.kept j sc w (one_type ∷ other_type ∷ []) act made
  two_final c k j one_type other_type act made h w sc q i _ _ y env s sc' u more so ah l g r kb ks same (more_operands _ a e _ _ _ one is (more_operands _ b d _ _ _ other it no_operands)) = h w sc i a b e d y env s sc' u (base-ahead c q i more ah) l g r kb same (more_operands one_type a e (other_type ∷ []) (b ∷ []) (d ∷ []) one is (more_operands other_type b d [] [] [] other it no_operands))

  -- what gives a value at once and writes nothing
  pub silent : (c : Context) (w : World) (v : ir.Value) (env : ir.Env) (s : ir.State) (sc : js.Scope) (u : js.State) → Ready z.place z.code c.scope c.writable w env sc → SameState z.place w s u → Ends z lawful c c.scope discard w sc (done (ir.ends (ir.gives v) env s)) core.no_statements sc u
  silent c w v env s sc u r same = sim_done z.direction (Came z.place z.code c c.scope discard w sc) (ir.ends (ir.gives v) env s) (js.ends js.normally sc u) (gave w v env s sc u js.normally (grows-refl w) let_go r (keeps-less z c.kept discard sc sc (keeps-refl z c.kept sc)) same)

  -- a tree that gives a value at once, and whose expression stands for it
  pub quiet_alike : (c : Context) (k : Destination) (p : Position) (t : IrType) (e : core.Expression) (j : ℕ) → Sound z.is_mutable c → Writes c.written k → FitsIn (usable z) k t → (w : World) (env : ir.Env) (s : ir.State) (sc : js.Scope) (u : js.State) (o : Out ir.Ended) (v : ir.Value) → o ≡ done (ir.ends (ir.gives v) env s) → Ready z.place z.code c.scope c.writable w env sc → SameState z.place w s u → Sim z.direction (Valued z.place w env t) o (shown z e sc u) → Ends z lawful c c.scope k w sc o (finish k p t true e j).statements sc u
  quiet_alike c discard p t e j sound wr fits w env s sc u o v is r same alike = subst (λ x. Ends z lawful c c.scope discard w sc x core.no_statements sc u) (sym is) (silent c w v env s sc u r same)
  quiet_alike c (to_variable x i) p t e j sound wr fits w env s sc u o v is r same alike = finish_alike z lawful c (to_variable x i) p t e j sound wr fits w w sc env o sc u (grows-refl w) (keeps-refl z c.kept sc) r s same alike
  quiet_alike c (to_result i) p t e j sound wr fits w env s sc u o v is r same alike = finish_alike z lawful c (to_result i) p t e j sound wr fits w w sc env o sc u (grows-refl w) (keeps-refl z c.kept sc) r s same alike

  -- a value that is stored in a local by both sides
  pub set-locals : (scope : Scope) (x : List ℕ) (t : IrType) (w : World) (v : ir.Value) (j : js.Value) (env : ir.Env) (sc : js.Scope) → SameValue w t v j → ((y : List ℕ) (i : IrType) → (y ≡ x → ⊥) → scope y i → Holding w i (env.locals y) (sc.bindings (z.place.name (core.named y)))) → sc.bindings (z.place.name (core.named x)) ≡ js.holds false j → (y : List ℕ) (i : IrType) → with_local x t scope y i → Holding w i ((ir_meaning.set_local x v env).locals y) (sc.bindings (z.place.name (core.named y)))
  set-locals scope x t w v j env sc a locals here y i h = go (pointwise nat_eq y x) refl
    where
      own : y ≡ x → with_local x t scope y i → i ≡ t
      own e (inl g) = g.1
      own e (inr g) = absurd (g.0 e)

      others : (y ≡ x → ⊥) → with_local x t scope y i → scope y i
      others n (inl g) = absurd (n g.0)
      others n (inr g) = g.1

      go : (b : Bool) → pointwise nat_eq y x ≡ b → Holding w i (if pointwise nat_eq y x then Some v else env.locals y) (sc.bindings (z.place.name (core.named y)))
      go true e = let same : y ≡ x = is-equal y x e in subst (λ o. Holding w i o (sc.bindings (z.place.name (core.named y)))) (sym (ap (λ (b : Bool). if b then Some v else env.locals y) e)) (subst (λ cell. Holding w i (Some v) cell) (sym (subst (λ n. sc.bindings (z.place.name (core.named n)) ≡ js.holds false j) (sym same) here)) (holding v j (subst (λ k. SameValue w k v j) (sym (own same h)) a)))
      go false e = let apart : y ≡ x → ⊥ = λ k. impossible (sym (subst (λ n. pointwise nat_eq y n ≡ false) (sym k) e) ∙ equals y) in subst (λ o. Holding w i o (sc.bindings (z.place.name (core.named y)))) (sym (ap (λ (b : Bool). if b then Some v else env.locals y) e)) (locals y i apart (others apart h))

  receiver-named : (x : List ℕ) → core.receiver ≡ core.named x → ⊥
  receiver-named x e = absurd (cc)

  named-apart : (x y : List ℕ) → (y ≡ x → ⊥) → core.named y ≡ core.named x → ⊥
  named-apart x y h e = h (cc)

  -- a local is written, and is in scope from here on
  pub set-ready : (scope : Scope) (q : core.Variable → Type 0) (x : List ℕ) (t : IrType) (w : World) (v : ir.Value) (j : js.Value) (env : ir.Env) (sc : js.Scope) → SameValue w t v j → Ready z.place z.code scope q w env sc → Ready z.place z.code (with_local x t scope) q w (ir_meaning.set_local x v env) (js_meaning.start false (z.place.name (core.named x)) j sc)
  set-ready scope q x t w v j env sc a r = record {
    sees = record { inside = started-inside z lawful false (core.named x) j sc r.sees.inside; this = subst (Receiving w z.code.owner env.this_value) (sym (started-other z lawful false (core.named x) core.receiver j sc (receiver-named x))) r.sees.this; sure = r.sees.sure; locals = set-locals scope x t w v j env (js_meaning.start false (z.place.name (core.named x)) j sc) a (λ y i h g. subst (Holding w i (env.locals y)) (sym (started-other z lawful false (core.named x) (core.named y) j sc (named-apart x y h))) (r.sees.locals y i g)) (started-here z lawful false (core.named x) j sc) };
    «open» = λ y i. started-open z lawful (core.named x) y j sc (r.«open» y i);
  }

  pub narrower : (wide scope : Scope) (q : core.Variable → Type 0) (w : World) (env : ir.Env) (sc : js.Scope) → ((x : List ℕ) (t : IrType) → scope x t → wide x t) → Ready z.place z.code wide q w env sc → Ready z.place z.code scope q w env sc
  narrower wide scope q w env sc h r = record { sees = record { inside = r.sees.inside; this = r.sees.this; sure = r.sees.sure; locals = λ x t i. r.sees.locals x t (h x t i) }; «open» = r.«open» }

  -- a local in scope is that of its name
  still_local : (c : Context) (x : List ℕ) (t : IrType) → Sound z.is_mutable c → c.scope x t → (y : List ℕ) (i : IrType) → c.scope y i → with_local x t c.scope y i
  still_local c x t sound inside y i h = go (pointwise nat_eq y x) refl
    where
      go : (b : Bool) → pointwise nat_eq y x ≡ b → with_local x t c.scope y i
      go true e = let same : y ≡ x = is-equal y x e in inl (same, sound.alone x i t (subst (λ n. c.scope n i) same h) inside)
      go false e = inr ((λ k. impossible (sym (subst (λ n. pointwise nat_eq y n ≡ false) (sym k) e) ∙ equals y)), h)

  -- one expression, of whose value something is made, and then a statement of it
  act_once : (F : ir.Ended → js.StatementEnd → Type 0) (w : World) (env : ir.Env) (s : ir.State) (sc : js.Scope) (u : js.State) (own : IrType) (r : ir.Run) (e : core.Expression) (act : List ir.Value → ir.Run) (g : js.Value → js.State → Out js.StatementEnd) → OperandAlike z w env sc own r (shown z e) → SameState z.place w s u → ThrowsOn z lawful F w env sc → ((y : World) (v : ir.Value) (x : js.Value) (s : ir.State) (u : js.State) → Grows w y → SameValue y own v x → SameState z.place y s u → Sim z.direction F (act (v ∷ []) env s) (g x u)) → Sim z.direction F (ir_meaning.in_order (r ∷ []) act env s) (then_do (shown z e sc u) (js.in_statement sc g))
  act_once F w env s sc u own r e act g operand same through goes = sim_then z.direction (Valued z.place w env own) F (r env s) (shown z e sc u) (ir.onward (λ v. ir_meaning.in_order [] (λ vs. act (v ∷ vs)))) (js.in_statement sc g) (operand w s u (grows-refl w) same) (valued_then z lawful F w env own sc (λ v. ir_meaning.in_order [] (λ vs. act (v ∷ vs))) g through goes)

  -- one operand, of whose value something is made, and then a statement of its expression
  pub act_alike : (F : ir.Ended → js.StatementEnd → Type 0) (w : World) (env : ir.Env) (s : ir.State) (sc : js.Scope) (u : js.State) (own : IrType) (r : ir.Run) (e : core.Expression) (act : List ir.Value → ir.Run) (g : js.Value → js.State → Out js.StatementEnd) → OperandsAlike z w env sc (own ∷ []) (r ∷ []) (e ∷ []) → SameState z.place w s u → ThrowsOn z lawful F w env sc → ((y : World) (v : ir.Value) (x : js.Value) (s : ir.State) (u : js.State) → Grows w y → SameValue y own v x → SameState z.place y s u → Sim z.direction F (act (v ∷ []) env s) (g x u)) → Sim z.direction F (ir_meaning.in_order (r ∷ []) act env s) (then_do (shown z e sc u) (js.in_statement sc g))
  act_alike F w env s sc u own r e act g (more_operands _ _ _ _ _ _ told operand no_operands) same through goes = act_once F w env s sc u own r e act g operand same through goes

  -- an assignment to a local in scope that isn't kept
  pub assign_final : (c : Context) (p : Position) (x : List ℕ) (t i : IrType) (j : ℕ) → Sound z.is_mutable c → c.scope x t → z.is_mutable x ≡ true → StandsFor z t i → (w : World) (sc : js.Scope) → OneFinal c discard w sc j i (ir_meaning.define x) (λ es. one (core.assign_to (Some p) (core.named x) (coerced t i (first_of es))))
  assign_final c p x t i j sound inside mutable fits from before n r e w env s sc u ahead l g ready ks same operand = ends-one z lawful c c.scope discard from before (ir_meaning.in_order (r ∷ []) (ir_meaning.define x) env s) (core.assign_to (Some p) (core.named x) (coerced t i e)) sc u (act_alike (Came z.place z.code c c.scope discard from before) w env s sc u (stood t i fits.0) r (coerced t i e) (ir_meaning.define x) (λ v. js_meaning.assign z.place.program (z.place.name (core.named x)) v (sc.bindings (z.place.name (core.named x))) sc) (operand_stood z lawful.base w env sc ready.sees.inside t i fits.0 fits.1 r e operand) same (throws-on z lawful c c.scope discard from w before env sc g ks ready) goes)
    where
      open_here : (o : Option ir.Value) (cell : js.Cell) → Holding w t o cell → IsOpen cell
      open_here _ _ (holding v q a) = record { value = q; is = refl }

      goes : (y : World) (v : ir.Value) (q : js.Value) (s : ir.State) (u : js.State) → Grows w y → SameValue y (stood t i fits.0) v q → SameState z.place y s u → Sim z.direction (Came z.place z.code c c.scope discard from before) (done (ir.ends (ir.gives ir.undefined) (ir_meaning.set_local x v env) s)) (js_meaning.assign z.place.program (z.place.name (core.named x)) q (sc.bindings (z.place.name (core.named x))) sc u)
      goes y v q s u h a same = subst (λ o. Sim z.direction (Came z.place z.code c c.scope discard from before) (done (ir.ends (ir.gives ir.undefined) (ir_meaning.set_local x v env) s)) o) (sym (assigned z lawful (core.named x) q sc u (open_here (env.locals x) (sc.bindings (z.place.name (core.named x))) (ready.sees.locals x t inside)))) (sim_done z.direction (Came z.place z.code c c.scope discard from before) (ir.ends (ir.gives ir.undefined) (ir_meaning.set_local x v env) s) (js.ends js.normally (js_meaning.start false (z.place.name (core.named x)) q sc) u) (gave y ir.undefined (ir_meaning.set_local x v env) s (js_meaning.start false (z.place.name (core.named x)) q sc) u js.normally (grows-trans from w y g h) let_go (narrower (with_local x t c.scope) c.scope c.writable y (ir_meaning.set_local x v env) (js_meaning.start false (z.place.name (core.named x)) q sc) (still_local c x t sound inside) (set-ready c.scope c.writable x t y v q env sc (value-fits y t (stood t i fits.0) v q (stood-fits t i fits.0) a) (ready-lift z c.scope c.writable w y env sc h ready))) (keeps-less z c.kept discard before (js_meaning.start false (z.place.name (core.named x)) q sc) (keeps-trans z c.kept before sc (js_meaning.start false (z.place.name (core.named x)) q sc) ks (started-keeps z lawful c.kept false (core.named x) q sc (λ k. impossible (absurd (sound.changing x t inside k mutable)))))) same))

  -- a line of output
  log_acts : (w : World) (env : ir.Env) (sc : js.Scope) (own : IrType) → ActsAlike z w w env (own ∷ []) NoType ir_meaning.log js_meaning.log sc
  log_acts w env sc own y _ _ s u g (one_more _ v x _ _ _ a no_values) same = by v x a.stands
    where
      by : (v : ir.Value) (x : js.Value) → Stands y (is_char own) v x → Sim z.direction (Valued z.place w env NoType) (ir_meaning.log (v ∷ []) env s) (js_meaning.log (x ∷ []) sc u)
      by _ _ (same_text us) = sim_says z.direction (Valued z.place w env NoType) us (ir.ends (ir.gives ir.undefined) env s) (js.gives js.undefined u) (valued y ir.undefined js.undefined s u g (record { stands = same_undefined; suits = refl; shaped = tt }) same)
      by _ _ _ = sim_wrong z.direction (Valued z.place w env NoType) _

  pub log_final : (c : Context) (p : Position) (j : ℕ) (own : IrType) → (w : World) (sc : js.Scope) → OneFinal c discard w sc j own ir_meaning.log (λ es. one (core.log_of (Some p) (first_of es)))
  log_final c p j own from before n r e w env s sc u ahead l g ready ks same operand = ends-one z lawful c c.scope discard from before (ir_meaning.in_order (r ∷ []) ir_meaning.log env s) (core.log_of (Some p) e) sc u (subst (λ o. Sim z.direction (Came z.place z.code c c.scope discard from before) o (then_do (js_meaning.in_order (shown z e ∷ []) js_meaning.log sc u) (js.in_statement sc (λ v. js_meaning.nothing sc)))) (then_do-right (ir_meaning.in_order (r ∷ []) ir_meaning.log env s)) (sim_then z.direction (Valued z.place w env NoType) (Came z.place z.code c c.scope discard from before) (ir_meaning.in_order (r ∷ []) ir_meaning.log env s) (js_meaning.in_order (shown z e ∷ []) js_meaning.log sc u) done (js.in_statement sc (λ v. js_meaning.nothing sc)) (in_order_alike z w w env sc w (own ∷ []) NoType (r ∷ []) (e ∷ []) ir_meaning.log js_meaning.log operand (log_acts w env sc own) w s u (grows-refl w) (grows-refl w) (grows-refl w) same) (valued_done z lawful (Came z.place z.code c c.scope discard from before) w env NoType sc (λ v. js_meaning.nothing sc) (throws-on z lawful c c.scope discard from w before env sc g ks ready) each)))
    where
      each : (y : World) (v : ir.Value) (x : js.Value) (s : ir.State) (u : js.State) → Grows w y → SameValue y NoType v x → SameState z.place y s u → Sim z.direction (Came z.place z.code c c.scope discard from before) (done (ir.ends (ir.gives v) env s)) (js_meaning.nothing sc u)
      each y v x s u h a same = sim_done z.direction (Came z.place z.code c c.scope discard from before) (ir.ends (ir.gives v) env s) (js.ends js.normally sc u) (gave y v env s sc u js.normally (grows-trans from w y g h) let_go (ready-lift z c.scope c.writable w y env sc h ready) (keeps-less z c.kept discard before sc ks) same)

  -- the same, seen from an earlier world and scope
  pub came-rebase : (c : Context) (scope : Scope) (k : Destination) (from y : World) (before sc : js.Scope) → Grows from y → Keeps z.place c.kept before sc → (a : ir.Ended) (b : js.StatementEnd) → Came z.place z.code c scope k y sc a b → Came z.place z.code c scope k from before a b
  came-rebase c scope k from y before sc g ks _ _ (gave w v env s sc' u e h a r kp same) = gave w v env s sc' u e (grows-trans from y w g h) a r (less-trans z c.kept k before sc sc' ks kp) same
  came-rebase c scope k from y before sc g ks _ _ (left w l v env s sc' u e reach h a r kp same) = left w l v env s sc' u e reach (grows-trans from y w g h) a r (less-trans z c.kept (target_of c.targets l) before sc sc' ks kp) same
  came-rebase c scope k from y before sc g ks _ _ (threw w v x env s sc' u h a r kp same) = threw w v x env s sc' u (grows-trans from y w g h) a r (keeps-trans z c.kept before sc sc' ks kp) same
  came-rebase c scope k from y before sc g ks _ _ (stopped w env s sc' u t h r kp same) = stopped w env s sc' u t (grows-trans from y w g h) r (keeps-trans z c.kept before sc sc' ks kp) same

  pub rebased : (c : Context) (scope : Scope) (k : Destination) (from y : World) (before sc : js.Scope) (o : Out ir.Ended) (q : Out js.StatementEnd) → Grows from y → Keeps z.place c.kept before sc → Sim z.direction (Came z.place z.code c scope k y sc) o q → Sim z.direction (Came z.place z.code c scope k from before) o q
  rebased c scope k from y before sc o q g ks h = sim_weaken z.direction (Came z.place z.code c scope k y sc) (Came z.place z.code c scope k from before) o q (came-rebase c scope k from y before sc g ks) h

  -- the same in a context that keeps more and has more locals in scope
  pub came-narrow : (c d : Context) (inner scope : Scope) (k : Destination) (from y : World) (before sc : js.Scope) → d.writable ≡ c.writable → d.targets ≡ c.targets → ((l : List ℕ) → d.reaches l → c.reaches l) → (d.turning → c.turning) → ((x : List ℕ) (i : IrType) → c.scope x i → d.scope x i) → ((x : List ℕ) (i : IrType) → scope x i → inner x i) → ((x : core.Variable) → c.kept x → d.kept x) → Grows from y → Keeps z.place c.kept before sc → (a : ir.Ended) (b : js.StatementEnd) → Came z.place z.code d inner k y sc a b → Came z.place z.code c scope k from before a b
  came-narrow c d inner scope k from y before sc q t within turn out sub more g ks _ _ (gave w v env s sc' u e h a r kp same) = gave w v env s sc' u e (grows-trans from y w g h) a (subst (λ x. Ready z.place z.code scope x w env sc') q (narrower inner scope d.writable w env sc' sub r)) (less-trans z c.kept k before sc sc' ks (keeps-fewer z (Less d.kept k) (Less c.kept k) sc sc' (λ y i. (more y i.0, i.1)) kp)) same
  came-narrow c d inner scope k from y before sc q t within turn out sub more g ks _ _ (left w l v env s sc' u e reach h a r kp same) = left w l v env s sc' u e (within l reach) (grows-trans from y w g h) (subst (λ x. Arrives z.place w v sc' (js.breaks (z.place.label l)) (target_of x l) e) t a) (subst (λ x. Ready z.place z.code c.scope x w env sc') q (narrower d.scope c.scope d.writable w env sc' out r)) (less-trans z c.kept (target_of c.targets l) before sc sc' ks (keeps-fewer z (Less d.kept (target_of d.targets l)) (Less c.kept (target_of c.targets l)) sc sc' (λ y i. (more y i.0, subst (λ x. Goes (target_of x l) y → ⊥) (sym t) i.1)) kp)) same
  came-narrow c d inner scope k from y before sc q t within turn out sub more g ks _ _ (threw w v x env s sc' u h a r kp same) = threw w v x env s sc' u (grows-trans from y w g h) a (subst (λ x. Ready z.place z.code c.scope x w env sc') q (narrower d.scope c.scope d.writable w env sc' out r)) (keeps-trans z c.kept before sc sc' ks (keeps-fewer z d.kept c.kept sc sc' more kp)) same
  came-narrow c d inner scope k from y before sc q t within turn out sub more g ks _ _ (stopped w env s sc' u h0 h r kp same) = stopped w env s sc' u (turn h0) (grows-trans from y w g h) (subst (λ x. Ready z.place z.code c.scope x w env sc') q (narrower d.scope c.scope d.writable w env sc' out r)) (keeps-trans z c.kept before sc sc' ks (keeps-fewer z d.kept c.kept sc sc' more kp)) same

  -- a branch by a condition: both branches stand in blocks of their own
  choice_shown : (e : core.Expression) (a b : core.Statements) (sc : js.Scope) (u : js.State) (p : Position) → act_of z (core.if_of (Some p) e a b) sc u ≡ then_do (shown z e sc u) (js.in_statement sc (λ v. js_meaning.taken (js_meaning.in_block (statement_templates z.place.name z.place.label (usable z).lookup a) (run z a)) (js_meaning.in_block (statement_templates z.place.name z.place.label (usable z).lookup b) (run z b)) v sc))
  choice_shown e a core.no_statements sc u p = refl
  choice_shown e a (core.statement t ts) sc u p = refl

  pub if_final : (c : Context) (k : Destination) (p : Position) (a b : ℕ → Code) (first second : ir.Run) (j : ℕ) → Sound z.is_mutable c → Writes c.written k → ((i : ℕ) → j ≤ i → i ≤ (a i).next) → ((i : ℕ) → j ≤ i → Ahead c i → Undeclared c (a i).statements) → ((i : ℕ) → j ≤ i → Ahead c i → Undeclared c (b i).statements) → ((i : ℕ) → j ≤ i → Ahead c i → (w : World) (env : ir.Env) (s : ir.State) (sc : js.Scope) (u : js.State) → Ready z.place z.code c.scope c.writable w env sc → SameState z.place w s u → Ends z lawful c c.scope k w sc (first env s) (a i).statements sc u) → ((i : ℕ) → j ≤ i → Ahead c i → (w : World) (env : ir.Env) (s : ir.State) (sc : js.Scope) (u : js.State) → Ready z.place z.code c.scope c.writable w env sc → SameState z.place w s u → Ends z lawful c c.scope k w sc (second env s) (b i).statements sc u) → (own : IrType) (w : World) (sc : js.Scope) → OneFinal c k w sc j own (ir_meaning.branch first second) (λ es i. branches p (first_of es) (a i) b)
  if_final c k p a b first second j sound wr up free_a free_b does_a does_b own from before i r e w env s sc u ahead l g ready ks same operand = ends-one z lawful c c.scope k from before (ir_meaning.in_order (r ∷ []) (ir_meaning.branch first second) env s) (core.if_of (Some p) e (a i).statements (b (a i).next).statements) sc u (subst (λ o. Sim z.direction (Came z.place z.code c c.scope k from before) (ir_meaning.in_order (r ∷ []) (ir_meaning.branch first second) env s) o) (sym (choice_shown e (a i).statements (b (a i).next).statements sc u p)) (act_alike (Came z.place z.code c c.scope k from before) w env s sc u own r e (ir_meaning.branch first second) (λ v. js_meaning.taken (js_meaning.in_block (statement_templates z.place.name z.place.label (usable z).lookup (a i).statements) (run z (a i).statements)) (js_meaning.in_block (statement_templates z.place.name z.place.label (usable z).lookup (b (a i).next).statements) (run z (b (a i).next).statements)) v sc) operand same (throws-on z lawful c c.scope k from w before env sc g ks ready) (λ y v x s u h a same. goes y v x s u h a.stands same)))
    where
      later : j ≤ (a i).next
      later = let h = up i l in omega arith

      behind : Ahead c (a i).next
      behind = ahead-later c i (a i).next (up i l) ahead

      goes : (y : World) (v : ir.Value) (x : js.Value) (s : ir.State) (u : js.State) → Grows w y → Stands y (is_char own) v x → SameState z.place y s u → Sim z.direction (Came z.place z.code c c.scope k from before) (ir_meaning.branch first second (v ∷ []) env s) (js_meaning.taken (js_meaning.in_block (statement_templates z.place.name z.place.label (usable z).lookup (a i).statements) (run z (a i).statements)) (js_meaning.in_block (statement_templates z.place.name z.place.label (usable z).lookup (b (a i).next).statements) (run z (b (a i).next).statements)) x sc u)
      goes y _ _ s u h (same_boolean true) same = rebased c c.scope k from y before sc (first env s) (js_meaning.in_block (statement_templates z.place.name z.place.label (usable z).lookup (a i).statements) (run z (a i).statements) sc u) (grows-trans from w y g h) ks (block_alike z lawful c (a i).statements (free_a i l ahead) k y env sc u (first env s) sound wr (ready-lift z c.scope c.writable w y env sc h ready) (λ inner. does_a i l ahead y env s (js_meaning.enter (statement_templates z.place.name z.place.label (usable z).lookup (a i).statements) sc) u inner same))
      goes y _ _ s u h (same_boolean false) same = rebased c c.scope k from y before sc (second env s) (js_meaning.in_block (statement_templates z.place.name z.place.label (usable z).lookup (b (a i).next).statements) (run z (b (a i).next).statements) sc u) (grows-trans from w y g h) ks (block_alike z lawful c (b (a i).next).statements (free_b (a i).next later behind) k y env sc u (second env s) sound wr (ready-lift z c.scope c.writable w y env sc h ready) (λ inner. does_b (a i).next later behind y env s (js_meaning.enter (statement_templates z.place.name z.place.label (usable z).lookup (b (a i).next).statements) sc) u inner same))
      goes y _ _ s u h _ same = sim_wrong z.direction (Came z.place z.code c c.scope k from before) _

  -- a definition: the local holds its first value, and is in scope behind it
  define_plain : (c : Context) (p : Position) (x : List ℕ) (t i : IrType) → StandsFor z t i → (r : ir.Run) (e : core.Expression) → Sound z.is_mutable c → (c.kept (core.named x) → ⊥) → (w : World) (env : ir.Env) (s : ir.State) (sc : js.Scope) (u : js.State) → Ready z.place z.code c.scope c.writable w env sc → SameState z.place w s u → OperandAlike z w env sc i r (shown z e) → Ends z lawful c (with_local x t c.scope) discard w sc (ir_meaning.in_order (r ∷ []) (ir_meaning.define x) env s) (core.statement (core.define_of (Some p) (core.named x) (coerced t i e)) core.no_statements) sc u
  define_plain c p x t i fits r e sound fresh w env s sc u ready same operand = ends-one z lawful c (with_local x t c.scope) discard w sc (ir_meaning.in_order (r ∷ []) (ir_meaning.define x) env s) (core.define_of (Some p) (core.named x) (coerced t i e)) sc u (act_once (Came z.place z.code c (with_local x t c.scope) discard w sc) w env s sc u t r (coerced t i e) (ir_meaning.define x) (λ v u. done (js.ends js.normally (js_meaning.start false (z.place.name (core.named x)) v sc) u)) (operand_coerced z lawful.base t i fits.0 fits.1 w env sc ready.sees.inside r e operand) same (throws-on z lawful c (with_local x t c.scope) discard w w sc env sc (grows-refl w) (keeps-refl z c.kept sc) ready) (λ y v q s u h a same. sim_done z.direction (Came z.place z.code c (with_local x t c.scope) discard w sc) (ir.ends (ir.gives ir.undefined) (ir_meaning.set_local x v env) s) (js.ends js.normally (js_meaning.start false (z.place.name (core.named x)) q sc) u) (gave y ir.undefined (ir_meaning.set_local x v env) s (js_meaning.start false (z.place.name (core.named x)) q sc) u js.normally h let_go (set-ready c.scope c.writable x t y v q env sc a (ready-lift z c.scope c.writable w y env sc h ready)) (keeps-less z c.kept discard sc (js_meaning.start false (z.place.name (core.named x)) q sc) (started-keeps z lawful c.kept false (core.named x) q sc fresh)) same)))

  -- the context in which a local is being defined
  abbrev pub defining : Context → List ℕ → Context
  defining c x = record { scope = c.scope; writable = λ y. (y ≡ core.named x) ⊎ c.writable y; written = λ y. (y ≡ core.named x) ⊎ c.written y; kept = c.kept; targets = c.targets; reaches = c.reaches; tries = c.tries; turning = c.turning }

  define_code : (c : Context) (p : Position) (x : List ℕ) (t : IrType) (r : ir.Run) (code : core.Statements) → ((i : IrType) → c.scope x i → ⊥) → (c.writable (core.named x) → ⊥) → (c.kept (core.named x) → ⊥) → ((w : World) (env : ir.Env) (s : ir.State) (sc : js.Scope) (u : js.State) → Ready z.place z.code c.scope (defining c x).writable w env sc → SameState z.place w s u → Sim z.direction (Came z.place z.code (defining c x) c.scope (to_variable (core.named x) t) w sc) (r env s) (run z code sc u)) → (w : World) (env : ir.Env) (s : ir.State) (sc : js.Scope) (u : js.State) → Ready z.place z.code c.scope c.writable w env sc → SameState z.place w s u → Ends z lawful c (with_local x t c.scope) discard w sc (ir_meaning.in_order (r ∷ []) (ir_meaning.define x) env s) (core.statement (core.declare_of (Some p) (core.named x)) code) sc u
  define_code c p x t r code unseen unwritten fresh does w env s sc u ready same = subst (λ o. Sim z.direction (Came z.place z.code c (with_local x t c.scope) discard w sc) (ir_meaning.in_order (r ∷ []) (ir_meaning.define x) env s) o) (then_do-right (run z code started u)) (sim_then z.direction (Came z.place z.code (defining c x) c.scope (to_variable (core.named x) t) w started) (Came z.place z.code c (with_local x t c.scope) discard w sc) (r env s) (run z code started u) (ir.onward (λ v. ir_meaning.in_order [] (λ vs. ir_meaning.define x (v ∷ vs)))) done (does w env s started u (record { sees = r1.sees; «open» = open1 }) same) each)
    where
      started : js.Scope
      started = js_meaning.start false (z.place.name (core.named x)) js.undefined sc

      r1 : Ready z.place z.code c.scope c.writable w env started
      r1 = started-ready z lawful c.scope c.writable false (core.named x) js.undefined w env sc (λ a i g e. unseen i (subst (λ n. c.scope n i) (cc) g)) (λ a i e. unwritten (subst c.writable e i)) (λ e. receiver-named x e) ready

      open1 : (y : core.Variable) → (y ≡ core.named x) ⊎ c.writable y → IsOpen (started.bindings (z.place.name y))
      open1 y (inl e) = subst (λ a. IsOpen (started.bindings (z.place.name a))) (sym e) (record { value = js.undefined; is = started-here z lawful false (core.named x) js.undefined sc })
      open1 y (inr h) = r1.«open» y h

      each : (a : ir.Ended) (b : js.StatementEnd) → Came z.place z.code (defining c x) c.scope (to_variable (core.named x) t) w started a b → Sim z.direction (Came z.place z.code c (with_local x t c.scope) discard w sc) (ir.onward (λ v. ir_meaning.in_order [] (λ vs. ir_meaning.define x (v ∷ vs))) a) (done b)
      each _ _ (gave y v env' s' sc2 u' _ h (stored _ _ q a e) r2 k2 states) = sim_done z.direction (Came z.place z.code c (with_local x t c.scope) discard w sc) (ir.ends (ir.gives ir.undefined) (ir_meaning.set_local x v env') s') (js.ends js.normally sc2 u') (gave y ir.undefined (ir_meaning.set_local x v env') s' sc2 u' js.normally h let_go (record { sees = record { inside = r2.sees.inside; this = r2.sees.this; sure = r2.sees.sure; locals = set-locals c.scope x t y v q env' sc2 a (λ b i d g. r2.sees.locals b i g) e }; «open» = λ b i. r2.«open» b (inr i) }) (keeps-less z c.kept discard sc sc2 (keeps-trans z c.kept sc started sc2 (started-keeps z lawful c.kept false (core.named x) js.undefined sc fresh) (keeps-fewer z (Less c.kept (to_variable (core.named x) t)) c.kept started sc2 (λ b i. (i, λ e. fresh (subst c.kept (sym e) i))) k2))) states)
      each _ _ (left y l v env' s' sc2 u' e reach h a r2 k2 states) = sim_done z.direction (Came z.place z.code c (with_local x t c.scope) discard w sc) (ir.ends (ir.leaves l v) env' s') (js.ends e sc2 u') (left y l v env' s' sc2 u' e reach h a (record { sees = r2.sees; «open» = λ b i. r2.«open» b (inr i) }) (less-trans z c.kept (target_of c.targets l) sc started sc2 (started-keeps z lawful c.kept false (core.named x) js.undefined sc fresh) k2) states)
      each _ _ (threw y v q env' s' sc2 u' h a r2 k2 states) = sim_done z.direction (Came z.place z.code c (with_local x t c.scope) discard w sc) (ir.ends (ir.throws v) env' s') (js.ends (js.thrown_with q) sc2 u') (threw y v q env' s' sc2 u' h a (record { sees = r2.sees; «open» = λ b i. r2.«open» b (inr i) }) (keeps-trans z c.kept sc started sc2 (started-keeps z lawful c.kept false (core.named x) js.undefined sc fresh) k2) states)
      each _ _ (stopped y env' s' sc2 u' turn h r2 k2 states) = sim_done z.direction (Came z.place z.code c (with_local x t c.scope) discard w sc) (ir.ends ir.stops env' s') (js.ends js.breaks_nearest sc2 u') (stopped y env' s' sc2 u' turn h (record { sees = r2.sees; «open» = λ b i. r2.«open» b (inr i) }) (keeps-trans z c.kept sc started sc2 (started-keeps z lawful c.kept false (core.named x) js.undefined sc fresh) k2) states)

  pub sound-defining : (c : Context) (x : List ℕ) → Sound z.is_mutable c → ((i : IrType) → c.scope x i → ⊥) → (c.kept (core.named x) → ⊥) → Sound z.is_mutable (defining c x)
  sound-defining c x sound unseen fresh = record {
    hidden = λ y i wr g. ⊎_elim (λ e. unseen i (subst (λ n. c.scope n i) (cc) g)) (λ h. sound.hidden y i h g) wr;
    constant = sound.constant;
    changing = sound.changing;
    alone = sound.alone;
    within = λ y wr. ⊎_elim (λ e. inl e) (λ h. inr (sound.within y h)) wr;
    aims = λ l. writes-more c.writable (λ y. (y ≡ core.named x) ⊎ c.writable y) (target_of c.targets l) (λ y h. inr h) (sound.aims l);
    reached = λ l r. writes-more c.written (λ y. (y ≡ core.named x) ⊎ c.written y) (target_of c.targets l) (λ y h. inr h) (sound.reached l r);
    apart = λ t y k wr. ⊎_elim (λ e. fresh (subst c.kept e k)) (λ h. sound.apart t y k h) wr;
    receiver = sound.receiver;
    received = λ wr. ⊎_elim (λ e. absurd (cc)) sound.received wr;
  }

  pub ahead-defining : (c : Context) (x : List ℕ) (j : ℕ) → Ahead c j → Ahead (defining c x) j
  ahead-defining c x j ahead = record { writable = λ k h wr. ⊎_elim (λ e. numbered-named x k (sym e)) (ahead.writable k h) wr; kept = ahead.kept }

  pub define_alike : (c : Context) (p : Position) (x : List ℕ) (t i : IrType) (r : ir.Run) (e : core.Expression) (code : Code) (j : ℕ) (b : Bool) → Sound z.is_mutable c → ((i : IrType) → c.scope x i → ⊥) → (c.writable (core.named x) → ⊥) → (c.kept (core.named x) → ⊥) → ((b ≡ true) × StandsFor z t i × ((w : World) (env : ir.Env) (sc : js.Scope) → Sees z.place z.code c.scope w env sc → OperandAlike z w env sc i r (shown z e))) ⊎ ((b ≡ false) × ((w : World) (env : ir.Env) (s : ir.State) (sc : js.Scope) (u : js.State) → Ready z.place z.code c.scope (defining c x).writable w env sc → SameState z.place w s u → Sim z.direction (Came z.place z.code (defining c x) c.scope (to_variable (core.named x) t) w sc) (r env s) (run z code.statements sc u))) → (w : World) (env : ir.Env) (s : ir.State) (sc : js.Scope) (u : js.State) → Ready z.place z.code c.scope c.writable w env sc → SameState z.place w s u → Ends z lawful c (with_local x t c.scope) discard w sc (ir_meaning.in_order (r ∷ []) (ir_meaning.define x) env s) (elim b as (λ b. Code) [ true ↦ one (core.define_of (Some p) (core.named x) (coerced t i e)) j | false ↦ put_first (core.declare_of (Some p) (core.named x)) code ]).statements sc u
  define_alike c p x t i r e code j true sound unseen unwritten fresh (inl h) w env s sc u ready same = define_plain c p x t i h.1 r e sound fresh w env s sc u ready same (h.2 w env sc ready.sees)
  define_alike c p x t i r e code j true sound unseen unwritten fresh (inr h) w env s sc u ready same = impossible (sym h.0)
  define_alike c p x t i r e code j false sound unseen unwritten fresh (inl h) w env s sc u ready same = impossible h.0
  define_alike c p x t i r e code j false sound unseen unwritten fresh (inr h) w env s sc u ready same = define_code c p x t r code.statements unseen unwritten fresh h.1 w env s sc u ready same
