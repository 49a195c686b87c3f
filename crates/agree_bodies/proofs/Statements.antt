-- Statements one behind the other, and what a single one does.
use Rattle.std.proofs.Common.{◌≡◌, ℕ, Bool, true, false, List, Some, refl, sym, ap, ◌∙◌, subst, if◌then◌else◌}
use Rattle.std.specs.Prelude.{nat_eq}
use Rattle.std.specs.Cmp.Lexicographic.{pointwise}
use mathlib.Core.Path.{fun_ext}
use Rattle.outcomes.specs.Outcome.{Out, done, then_do}
use Rattle.outcomes.specs.Agreement.{Sim}
use Rattle.outcomes.proofs.Sequence.{then_do-right, then_do-associative}
use Rattle.outcomes.proofs.Simulation.{sim_done, sim_then}
use Rattle.agree_plain_trees.specs.States as ir
use Rattle.js_mean.specs.Meaning as js_meaning
use Rattle.js_mean.specs.States as js
use Rattle.sj_core.specs.Terms as core
use Rattle.sj_core.specs.Terms.{followed}
use Rattle.agree_early_errors.specs.Coercions.{coerced}
use Rattle.agree_early_errors.specs.Desugar.{finish, target_of}
use Rattle.agree_early_errors.specs.Spill.{Destination, discard, to_variable, to_result, Code, one}
use Rattle.agree_early_errors.specs.Templates.{statement_template}
use Rattle.sj_trees.specs.declared.positions.Position.{Position}
use Rattle.sj_trees.specs.declared.types.IrType.{IrType}
use Rattle.agree_early_errors.specs.Locals.{Scope}
use Rattle.agree_bodies.specs.Fine.{FitsIn}
use Rattle.sj_trees.specs.declared.types.IrType.TheVariants.{Any}
use Rattle.agree_plain_trees.specs.Settings.{Receiving, Setting, shown, run, SameState, Valued, valued, thrown, Lawful, Holding, Sees, usable}
use Rattle.agree_plain_trees.proofs.Boxes.{coerced_alike, may-box}
use Rattle.agree_bodies.proofs.Contexts.{Context, Writes, Sound, IsOpen, Ready, ready-lift, Keeps, Less, keeps-less, keeps-all, less-trans, Arrives, let_go, stored, returned, Came, gave, left, threw, stopped, started-here, started-other, started-inside, started-less}
use Rattle.agree_plain_trees.proofs.Worlds.{World, Grows, grows-trans, SameValue}

pub next-done : (e : js.StatementEnd) → js.next_statement (λ sc s. done (js.ends js.normally sc s)) e ≡ done e
next-done (js.ends js.normally sc s) = refl
next-done (js.ends (js.breaks x) sc s) = refl
next-done (js.ends js.breaks_nearest sc s) = refl
next-done (js.ends (js.returns v) sc s) = refl
next-done (js.ends (js.thrown_with v) sc s) = refl

next-associative : (f g : js.Execution) (e : js.StatementEnd) → then_do (js.next_statement f e) (js.next_statement g) ≡ js.next_statement (λ sc s. then_do (f sc s) (js.next_statement g)) e
next-associative f g (js.ends js.normally sc s) = refl
next-associative f g (js.ends (js.breaks x) sc s) = refl
next-associative f g (js.ends js.breaks_nearest sc s) = refl
next-associative f g (js.ends (js.returns v) sc s) = refl
next-associative f g (js.ends (js.thrown_with v) sc s) = refl

-- a statement in front of others is a statement and then others
abbrev pub act_of : Setting → core.Statement → js.Execution
act_of z s = js_meaning.execute z.place.program z.js_low (statement_template z.place.name z.place.label (usable z).lookup s)

pub run-one : (z : Setting) (s : core.Statement) (sc : js.Scope) (u : js.State) → run z (core.statement s core.no_statements) sc u ≡ act_of z s sc u
run-one z s sc u = ap (then_do (act_of z s sc u)) (fun_ext next-done) ∙ then_do-right (act_of z s sc u)

pub run-followed : (z : Setting) (a b : core.Statements) (sc : js.Scope) (u : js.State) → run z (followed a b) sc u ≡ then_do (run z a sc u) (js.next_statement (run z b))
run-followed z core.no_statements b sc u = refl
run-followed z (core.statement s ss) b sc u = ap (λ (f : js.Execution). then_do (act_of z s sc u) (js.next_statement f)) (fun_ext (λ sc. fun_ext (λ u. run-followed z ss b sc u))) ∙ sym (then_do-associative (act_of z s sc u) (js.next_statement (run z ss)) (js.next_statement (run z b)) ∙ ap (then_do (act_of z s sc u)) (fun_ext (next-associative (run z ss) (run z b))))

module _ (z : Setting) (lawful : Lawful z) where
  -- a throw out of an expression of a statement that is compared so
  abbrev pub ThrowsOn : (ir.Ended → js.StatementEnd → Type 0) → World → ir.Env → js.Scope → Type 0
  ThrowsOn F w env sc = (y : World) (v : ir.Value) (x : js.Value) (s : ir.State) (u : js.State) → Grows w y → SameValue y Any v x → SameState z.place y s u → F (ir.ends (ir.throws v) env s) (js.ends (js.thrown_with x) sc u)

  pub throws-on : (c : Context) (scope : Scope) (k : Destination) (from w : World) (before : js.Scope) (env : ir.Env) (sc : js.Scope) → Grows from w → Keeps z.place c.kept before sc → Ready z.place z.code c.scope c.writable w env sc → ThrowsOn (Came z.place z.code c scope k from before) w env sc
  throws-on c scope k from w before env sc g ks r y v x s u h a same = threw y v x env s sc u (grows-trans from w y g h) a (ready-lift z c.scope c.writable w y env sc h r) ks same

  -- what leaves to a label passes by what comes behind
  pub leaves_on : (c : Context) (scope : Scope) (k : Destination) (from : World) (before : js.Scope) (second : js.Execution) (y : World) (l : List ℕ) (v : ir.Value) (env : ir.Env) (s : ir.State) (sc : js.Scope) (u : js.State) (e : js.Completion) (d : Destination) → target_of c.targets l ≡ d → c.reaches l → Grows from y → Arrives z.place y v sc (js.breaks (z.place.label l)) d e → Ready z.place z.code c.scope c.writable y env sc → Keeps z.place (Less c.kept (target_of c.targets l)) before sc → SameState z.place y s u → Sim z.direction (Came z.place z.code c scope k from before) (done (ir.ends (ir.leaves l v) env s)) (js.next_statement second (js.ends e sc u))
  leaves_on c scope k from before second y l v env s sc u _ _ t reach g let_go r ks same = sim_done z.direction (Came z.place z.code c scope k from before) (ir.ends (ir.leaves l v) env s) (js.ends (js.breaks (z.place.label l)) sc u) (left y l v env s sc u (js.breaks (z.place.label l)) reach g (subst (λ d. Arrives z.place y v sc (js.breaks (z.place.label l)) d (js.breaks (z.place.label l))) (sym t) let_go) r ks same)
  leaves_on c scope k from before second y l v env s sc u _ _ t reach g (stored x i j q h) r ks same = sim_done z.direction (Came z.place z.code c scope k from before) (ir.ends (ir.leaves l v) env s) (js.ends (js.breaks (z.place.label l)) sc u) (left y l v env s sc u (js.breaks (z.place.label l)) reach g (subst (λ d. Arrives z.place y v sc (js.breaks (z.place.label l)) d (js.breaks (z.place.label l))) (sym t) (stored x i j q h)) r ks same)
  leaves_on c scope k from before second y l v env s sc u _ _ t reach g (returned i j q) r ks same = sim_done z.direction (Came z.place z.code c scope k from before) (ir.ends (ir.leaves l v) env s) (js.ends (js.returns j) sc u) (left y l v env s sc u (js.returns j) reach g (subst (λ d. Arrives z.place y v sc (js.breaks (z.place.label l)) d (js.returns j)) (sym t) (returned i j q)) r ks same)

  -- a first tree whose value is given up, and what comes behind it
  pub came_then : (c : Context) (first scope : Scope) (k : Destination) (w : World) (sc : js.Scope) (f : ir.Value → ir.Run) (second : js.Execution) → ((y : World) (v : ir.Value) (env : ir.Env) (s : ir.State) (sc' : js.Scope) (u : js.State) → Grows w y → Ready z.place z.code first c.writable y env sc' → Keeps z.place c.kept sc sc' → SameState z.place y s u → Sim z.direction (Came z.place z.code c scope k w sc) (f v env s) (second sc' u)) → (a : ir.Ended) (b : js.StatementEnd) → Came z.place z.code c first discard w sc a b → Sim z.direction (Came z.place z.code c scope k w sc) (ir.onward f a) (js.next_statement second b)
  came_then c first scope k w sc f second goes _ _ (gave y v env s sc' u _ g let_go r ks same) = goes y v env s sc' u g r (keeps-all z c.kept sc sc' ks) same
  came_then c first scope k w sc f second goes _ _ (left y l v env s sc' u e reach g a r ks same) = leaves_on c scope k w sc second y l v env s sc' u e (target_of c.targets l) refl reach g a r ks same
  came_then c first scope k w sc f second goes _ _ (threw y v x env s sc' u g a r ks same) = sim_done z.direction (Came z.place z.code c scope k w sc) (ir.ends (ir.throws v) env s) (js.ends (js.thrown_with x) sc' u) (threw y v x env s sc' u g a r ks same)
  came_then c first scope k w sc f second goes _ _ (stopped y env s sc' u t g r ks same) = sim_done z.direction (Came z.place z.code c scope k w sc) (ir.ends ir.stops env s) (js.ends js.breaks_nearest sc' u) (stopped y env s sc' u t g r ks same)

  -- an expression of a statement, and what is done with its value
  pub valued_then : (F : ir.Ended → js.StatementEnd → Type 0) (w : World) (env : ir.Env) (t : IrType) (sc : js.Scope) (f : ir.Value → ir.Run) (g : js.Value → js.State → Out js.StatementEnd) → ThrowsOn F w env sc → ((y : World) (v : ir.Value) (x : js.Value) (s : ir.State) (u : js.State) → Grows w y → SameValue y t v x → SameState z.place y s u → Sim z.direction F (f v env s) (g x u)) → (a : ir.Ended) (b : js.ExpressionEnd) → Valued z.place w env t a b → Sim z.direction F (ir.onward f a) (js.in_statement sc g b)
  valued_then F w env t sc f g through goes _ _ (valued y v x s u h alike same) = goes y v x s u h alike same
  valued_then F w env t sc f g through goes _ _ (thrown y v x s u h alike same) = sim_done z.direction F (ir.ends (ir.throws v) env s) (js.ends (js.thrown_with x) sc u) (through y v x s u h alike same)

  pub valued_done : (F : ir.Ended → js.StatementEnd → Type 0) (w : World) (env : ir.Env) (t : IrType) (sc : js.Scope) (g : js.Value → js.State → Out js.StatementEnd) → ThrowsOn F w env sc → ((y : World) (v : ir.Value) (x : js.Value) (s : ir.State) (u : js.State) → Grows w y → SameValue y t v x → SameState z.place y s u → Sim z.direction F (done (ir.ends (ir.gives v) env s)) (g x u)) → (a : ir.Ended) (b : js.ExpressionEnd) → Valued z.place w env t a b → Sim z.direction F (done a) (js.in_statement sc g b)
  valued_done F w env t sc g through goes _ _ (valued y v x s u h alike same) = goes y v x s u h alike same
  valued_done F w env t sc g through goes _ _ (thrown y v x s u h alike same) = sim_done z.direction F (ir.ends (ir.throws v) env s) (js.ends (js.thrown_with x) sc u) (through y v x s u h alike same)

  -- an expression of which something is made, and the tree's outcome as it is
  pub value_statement : (F : ir.Ended → js.StatementEnd → Type 0) (w : World) (env : ir.Env) (t : IrType) (sc : js.Scope) (u : js.State) (o : Out ir.Ended) (e : core.Expression) (g : js.Value → js.State → Out js.StatementEnd) → Sim z.direction (Valued z.place w env t) o (shown z e sc u) → ThrowsOn F w env sc → ((y : World) (v : ir.Value) (x : js.Value) (s : ir.State) (u : js.State) → Grows w y → SameValue y t v x → SameState z.place y s u → Sim z.direction F (done (ir.ends (ir.gives v) env s)) (g x u)) → Sim z.direction F o (then_do (shown z e sc u) (js.in_statement sc g))
  value_statement F w env t sc u o e g alike through goes = subst (λ x. Sim z.direction F x (then_do (shown z e sc u) (js.in_statement sc g))) (then_do-right o) (sim_then z.direction (Valued z.place w env t) F o (shown z e sc u) done (js.in_statement sc g) alike (valued_done F w env t sc g through goes))

  abbrev pub Ends : Context → Scope → Destination → World → js.Scope → Out ir.Ended → core.Statements → js.Scope → js.State → Type 0
  Ends c scope k w before o ss sc u = Sim z.direction (Came z.place z.code c scope k w before) o (run z ss sc u)

  pub ends-one : (c : Context) (scope : Scope) (k : Destination) (w : World) (before : js.Scope) (o : Out ir.Ended) (st : core.Statement) (sc : js.Scope) (u : js.State) → Sim z.direction (Came z.place z.code c scope k w before) o (act_of z st sc u) → Ends c scope k w before o (core.statement st core.no_statements) sc u
  ends-one c scope k w before o st sc u h = subst (λ x. Sim z.direction (Came z.place z.code c scope k w before) o x) (sym (run-one z st sc u)) h

  -- an assignment to a binding that may be written
  pub assigned : (x : core.Variable) (v : js.Value) (sc : js.Scope) (u : js.State) → IsOpen (sc.bindings (z.place.name x)) → js_meaning.assign z.place.program (z.place.name x) v (sc.bindings (z.place.name x)) sc u ≡ done (js.ends js.normally (js_meaning.start false (z.place.name x) v sc) u)
  assigned x v sc u h = ap (λ (cell : js.Cell). js_meaning.assign z.place.program (z.place.name x) v cell sc u) h.is

  pub started-open : (x y : core.Variable) (j : js.Value) (sc : js.Scope) → IsOpen (sc.bindings (z.place.name y)) → IsOpen ((js_meaning.start false (z.place.name x) j sc).bindings (z.place.name y))
  started-open x y j sc h = go (pointwise nat_eq (z.place.name y) (z.place.name x)) refl
    where
      go : (b : Bool) → pointwise nat_eq (z.place.name y) (z.place.name x) ≡ b → IsOpen ((js_meaning.start false (z.place.name x) j sc).bindings (z.place.name y))
      go true e = record { value = j; is = ap (λ (t : Bool). if t then js.holds false j else sc.bindings (z.place.name y)) e }
      go false e = record { value = h.value; is = ap (λ (t : Bool). if t then js.holds false j else sc.bindings (z.place.name y)) e ∙ h.is }

  -- the destination may be written, and holds no local in scope
  pub stores : (c : Context) (x : core.Variable) (i : IrType) (w : World) (before : js.Scope) → Sound z.is_mutable c → c.writable x → (y : World) (v : ir.Value) (j : js.Value) (env : ir.Env) (s : ir.State) (sc : js.Scope) (u : js.State) → Grows w y → SameValue y i v j → Ready z.place z.code c.scope c.writable y env sc → Keeps z.place c.kept before sc → SameState z.place y s u → Came z.place z.code c c.scope (to_variable x i) w before (ir.ends (ir.gives v) env s) (js.ends js.normally (js_meaning.start false (z.place.name x) j sc) u)
  stores c x i w before sound wr y v j env s sc u g alike r ks same = gave y v env s (js_meaning.start false (z.place.name x) j sc) u js.normally g (stored x i j alike (started-here z lawful false x j sc)) (record { sees = sees_still; «open» = λ q h. started-open x q j sc (r.«open» q h) }) (less-trans z c.kept (to_variable x i) before sc (js_meaning.start false (z.place.name x) j sc) ks (started-less z lawful c.kept false x i j sc)) same
    where
      sees_still : Sees z.place z.code c.scope y env (js_meaning.start false (z.place.name x) j sc)
      sees_still = record { inside = started-inside z lawful false x j sc r.sees.inside; this = subst (Receiving y z.code.owner env.this_value) (sym (started-other z lawful false x core.receiver j sc (λ e. sound.received (subst c.writable (sym e) wr)))) r.sees.this; sure = r.sees.sure; locals = λ q t h. subst (Holding y t (env.locals q)) (sym (started-other z lawful false x (core.named q) j sc (λ e. sound.hidden q t (subst c.writable (sym e) wr) h))) (r.sees.locals q t h) }

  pub finish_alike : (c : Context) (k : Destination) (p : Position) (t : IrType) (e : core.Expression) (i : ℕ) → Sound z.is_mutable c → Writes c.written k → FitsIn (usable z) k t → (w from : World) (before : js.Scope) (env : ir.Env) (o : Out ir.Ended) (sc : js.Scope) (u : js.State) → Grows from w → Keeps z.place c.kept before sc → Ready z.place z.code c.scope c.writable w env sc → (s : ir.State) → SameState z.place w s u → Sim z.direction (Valued z.place w env t) o (shown z e sc u) → Ends c c.scope k from before o (finish k p t false e i).statements sc u
  finish_alike c discard p t e i sound wr fits w from before env o sc u g ks r s states alike = ends-one c c.scope discard from before o (core.evaluate_of (Some p) e) sc u (value_statement (Came z.place z.code c c.scope discard from before) w env t sc u o e (λ v. js_meaning.nothing sc) alike (throws-on c c.scope discard from w before env sc g ks r) (λ y v x s u h a same. sim_done z.direction (Came z.place z.code c c.scope discard from before) (ir.ends (ir.gives v) env s) (js.ends js.normally sc u) (gave y v env s sc u js.normally (grows-trans from w y g h) let_go (ready-lift z c.scope c.writable w y env sc h r) (keeps-less z c.kept discard before sc ks) same)))
  finish_alike c (to_variable x expected) p t e i sound wr fits w from before env o sc u g ks r s states alike = subst (λ b. Ends c c.scope (to_variable x expected) from before o (elim b as (λ b. Code) [ true ↦ one (core.evaluate_of (Some p) e) i | false ↦ one (core.assign_to (Some p) x (coerced expected t e)) i ]).statements sc u) (sym fits.0) (ends-one c c.scope (to_variable x expected) from before o (core.assign_to (Some p) x (coerced expected t e)) sc u (value_statement (Came z.place z.code c c.scope (to_variable x expected) from before) w env expected sc u o (coerced expected t e) (λ v. js_meaning.assign z.place.program (z.place.name x) v (sc.bindings (z.place.name x)) sc) (coerced_alike z lawful.base expected t fits.1 (may-box z lawful expected t fits.2) w env s sc u r.sees.inside states o e alike) (throws-on c c.scope (to_variable x expected) from w before env sc g ks r) (λ y v j s u h a same. subst (λ q. Sim z.direction (Came z.place z.code c c.scope (to_variable x expected) from before) (done (ir.ends (ir.gives v) env s)) q) (sym (assigned x j sc u (r.«open» x (sound.within x wr)))) (sim_done z.direction (Came z.place z.code c c.scope (to_variable x expected) from before) (ir.ends (ir.gives v) env s) (js.ends js.normally (js_meaning.start false (z.place.name x) j sc) u) (stores c x expected from before sound (sound.within x wr) y v j env s sc u (grows-trans from w y g h) a (ready-lift z c.scope c.writable w y env sc h r) ks same)))))
  finish_alike c (to_result expected) p t e i sound wr fits w from before env o sc u g ks r s states alike = subst (λ b. Ends c c.scope (to_result expected) from before o (elim b as (λ b. Code) [ true ↦ one (core.evaluate_of (Some p) e) i | false ↦ one (core.return_of (Some p) (coerced expected t e)) i ]).statements sc u) (sym fits.0) (ends-one c c.scope (to_result expected) from before o (core.return_of (Some p) (coerced expected t e)) sc u (value_statement (Came z.place z.code c c.scope (to_result expected) from before) w env expected sc u o (coerced expected t e) (λ v u. done (js.ends (js.returns v) sc u)) (coerced_alike z lawful.base expected t fits.1 (may-box z lawful expected t fits.2) w env s sc u r.sees.inside states o e alike) (throws-on c c.scope (to_result expected) from w before env sc g ks r) (λ y v j s u h a same. sim_done z.direction (Came z.place z.code c c.scope (to_result expected) from before) (ir.ends (ir.gives v) env s) (js.ends (js.returns j) sc u) (gave y v env s sc u (js.returns j) (grows-trans from w y g h) (returned expected j a) (ready-lift z c.scope c.writable w y env sc h r) (keeps-less z c.kept (to_result expected) before sc ks) same))))
