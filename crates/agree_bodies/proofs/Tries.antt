-- A block, and the handler of what it throws.
use Rattle.std.proofs.Common.{◌≡◌, ◌∙◌, ℕ, Bool, false, ◌||◌, List, Some, refl, sym, ap, subst, if◌then◌else◌, inr}
use Rattle.std.specs.Prelude.{nat_eq}
use Rattle.std.specs.Cmp.Lexicographic.{pointwise}
use Rattle.outcomes.specs.Outcome.{done, then_do}
use Rattle.outcomes.specs.Agreement.{Sim}
use Rattle.outcomes.proofs.Sequence.{then_do-right}
use Rattle.outcomes.proofs.Simulation.{sim_done, sim_then, sim_weaken}
use Rattle.agree_plain_trees.specs.Meaning as ir_meaning
use Rattle.agree_plain_trees.specs.States as ir
use Rattle.js_mean.specs.Meaning as js_meaning
use Rattle.js_mean.specs.Proper.{is_among, declared}
use Rattle.js_mean.specs.States as js
use Rattle.js_tree.specs.Terms as tree
use Rattle.js_tree.specs.Terms.{Name}
use Rattle.sj_core.specs.Terms as core
use Rattle.agree_early_errors.specs.Desugar.{target_of}
use Rattle.agree_early_errors.specs.Spill.{Destination}
use Rattle.agree_early_errors.specs.Templates.{statement_templates}
use Rattle.agree_early_errors.proofs.Declared.{Declares}
use Rattle.agree_early_errors.proofs.Equal.{differs}
use Rattle.agree_early_errors.specs.Locals.{with_local}
use Rattle.sj_trees.specs.declared.positions.Position.{Position}
use Rattle.sj_trees.specs.declared.types.IrType.{IrType}
use Rattle.sj_trees.specs.declared.types.IrType.TheVariants.{Any}
use Rattle.agree_plain_trees.specs.Settings.{Receiving, Setting, run, SameState, Lawful, Holding, OfNoVariable, usable}
use Rattle.agree_bodies.proofs.Blocks.{Undeclared, not_declared, not_among, entered, enter-ready, block_alike}
use Rattle.agree_bodies.proofs.Contexts.{Context, Writes, writes-more, Sound, Ready, Keeps, Less, Arrives, let_go, stored, returned, Came, gave, left, threw, stopped, keeps-refl, started-other}
use Rattle.agree_bodies.proofs.Forms.{set-ready, came-narrow, rebased}
use Rattle.agree_bodies.proofs.Statements.{ends-one, Ends}
use Rattle.agree_bodies.proofs.Trees.{behind}
use Rattle.agree_plain_trees.proofs.Worlds.{World, Grows, grows-refl, SameValue}

or_false : (a b : Bool) → a ≡ false → b ≡ false → (a || b) ≡ false
or_false a b h k = ap (λ (x : Bool). x || b) h ∙ k

-- the context has no variable of this name
pub record Unseen (c : Context) (x : List ℕ) : Type 0 where
  pub scope : (t : IrType) → c.scope x t → ⊥
  pub writable : c.writable (core.named x) → ⊥
  pub kept : c.kept (core.named x) → ⊥

receiver-named : (x : List ℕ) → core.receiver ≡ core.named x → ⊥
receiver-named x e = absurd (cc)

same-name : (y x : List ℕ) → core.named y ≡ core.named x → y ≡ x
same-name y x e = cc

module _ (z : Setting) (lawful : Lawful z) (c : Context) (x : List ℕ) (unseen : Unseen c x) (ss : core.Statements) (free : Undeclared c ss) where
  abbrev shown_handler : tree.Statements
  shown_handler = statement_templates z.place.name z.place.label (usable z).lookup ss

  abbrev caught_name : Name
  caught_name = z.place.name (core.named x)

  -- the scope of the handler, with what is caught
  abbrev pub handler_scope : js.Value → js.Scope → js.Scope
  handler_scope v sc = js_meaning.start false caught_name v (js_meaning.enter shown_handler sc)

  abbrev IsOwn : Name → Bool
  IsOwn n = pointwise nat_eq n caught_name || is_among (declared shown_handler) n

  -- a variable of the context is neither that of what is caught nor one that the handler declares
  not_own : (y : core.Variable) → (y ≡ core.named x → ⊥) → (Declares ss y → ⊥) → IsOwn (z.place.name y) ≡ false
  not_own y h k = or_false (pointwise nat_eq (z.place.name y) caught_name) (is_among (declared shown_handler) (z.place.name y)) (differs (z.place.name y) caught_name (λ e. h (lawful.base.names.variables y (core.named x) e))) (not_declared z lawful c ss free y k)

  no_variable : (n : Name) → OfNoVariable z.place n → IsOwn n ≡ false
  no_variable n none = or_false (pointwise nat_eq n caught_name) (is_among (declared shown_handler) n) (differs n caught_name (λ e. none (core.named x) (sym e))) (not_among z lawful c ss free n none)

  behind_handler : (outer inner : js.Scope) (n : Name) → IsOwn n ≡ false → (js_meaning.leave_handler caught_name shown_handler outer inner).bindings n ≡ inner.bindings n
  behind_handler outer inner n h = ap (λ (b : Bool). if b then outer.bindings n else inner.bindings n) h

  in_handler_still : (v : js.Value) (sc : js.Scope) (y : core.Variable) → (y ≡ core.named x → ⊥) → (Declares ss y → ⊥) → (handler_scope v sc).bindings (z.place.name y) ≡ sc.bindings (z.place.name y)
  in_handler_still v sc y h k = started-other z lawful false (core.named x) y v (js_meaning.enter shown_handler sc) h ∙ entered z lawful c ss free sc (z.place.name y) (not_declared z lawful c ss free y k)

  leave-ready : (w : World) (env : ir.Env) (outer inner : js.Scope) → Ready z.place z.code c.scope c.writable w env inner → Ready z.place z.code c.scope c.writable w env (js_meaning.leave_handler caught_name shown_handler outer inner)
  leave-ready w env outer inner r = record {
    sees = record { inside = record { file = r.sees.inside.file; free = λ n none. behind_handler outer inner n (no_variable n none) ∙ r.sees.inside.free n none }; this = subst (Receiving w z.code.owner env.this_value) (sym (behind_handler outer inner (z.place.name core.receiver) (not_own core.receiver (receiver-named x) free.receiver))) r.sees.this; sure = r.sees.sure; locals = λ y t i. subst (Holding w t (env.locals y)) (sym (behind_handler outer inner (z.place.name (core.named y)) (not_own (core.named y) (λ e. unseen.scope t (subst (λ (n : List ℕ). c.scope n t) (same-name y x e) i)) (free.scope y t i)))) (r.sees.locals y t i) };
    «open» = λ y i. record { value = (r.«open» y i).value; is = behind_handler outer inner (z.place.name y) (not_own y (λ e. unseen.writable (subst c.writable e i)) (free.writable y i)) ∙ (r.«open» y i).is };
  }

  leave-keeps : (q : core.Variable → Type 0) (v : js.Value) (outer inner : js.Scope) → ((y : core.Variable) → q y → c.kept y) → Keeps z.place q (handler_scope v outer) inner → Keeps z.place q outer (js_meaning.leave_handler caught_name shown_handler outer inner)
  leave-keeps q v outer inner sub ks = record { same = λ y i. (let other : (y ≡ core.named x → ⊥) = λ e. unseen.kept (subst c.kept e (sub y i)) in behind_handler outer inner (z.place.name y) (not_own y other (free.kept y (sub y i))) ∙ ks.same y i ∙ in_handler_still v outer y other (free.kept y (sub y i))) }

  leave-arrives : (w : World) (v : ir.Value) (outer inner : js.Scope) (usual : js.Completion) (k : Destination) (e : js.Completion) → Writes c.writable k → Arrives z.place w v inner usual k e → Arrives z.place w v (js_meaning.leave_handler caught_name shown_handler outer inner) usual k e
  leave-arrives w v outer inner usual _ _ wr let_go = let_go
  leave-arrives w v outer inner usual _ _ wr (stored y t j a h) = stored y t j a (behind_handler outer inner (z.place.name y) (not_own y (λ e. unseen.writable (subst c.writable e wr)) (free.writable y wr)) ∙ h)
  leave-arrives w v outer inner usual _ _ wr (returned t j a) = returned t j a

  leaving_alike : (k : Destination) (w : World) (q : js.Value) (sc : js.Scope) → Sound z.is_mutable c → Writes c.written k → (a : ir.Ended) (b : js.StatementEnd) → Came z.place z.code c c.scope k w (handler_scope q sc) a b → Sim z.direction (Came z.place z.code c c.scope k w sc) (done a) (js_meaning.leaving_handler caught_name shown_handler sc b)
  leaving_alike k w q sc sound wr _ _ (gave y v env s sc' u e g a r ks same) = sim_done z.direction (Came z.place z.code c c.scope k w sc) (ir.ends (ir.gives v) env s) (js.ends e (js_meaning.leave_handler caught_name shown_handler sc sc') u) (gave y v env s (js_meaning.leave_handler caught_name shown_handler sc sc') u e g (leave-arrives y v sc sc' js.normally k e (writes-more c.written c.writable k sound.within wr) a) (leave-ready y env sc sc' r) (leave-keeps (Less c.kept k) q sc sc' (λ y h. h.0) ks) same)
  leaving_alike k w q sc sound wr _ _ (left y l v env s sc' u e reach g a r ks same) = sim_done z.direction (Came z.place z.code c c.scope k w sc) (ir.ends (ir.leaves l v) env s) (js.ends e (js_meaning.leave_handler caught_name shown_handler sc sc') u) (left y l v env s (js_meaning.leave_handler caught_name shown_handler sc sc') u e reach g (leave-arrives y v sc sc' (js.breaks (z.place.label l)) (target_of c.targets l) e (sound.aims l) a) (leave-ready y env sc sc' r) (leave-keeps (Less c.kept (target_of c.targets l)) q sc sc' (λ y h. h.0) ks) same)
  leaving_alike k w q sc sound wr _ _ (threw y v j env s sc' u g a r ks same) = sim_done z.direction (Came z.place z.code c c.scope k w sc) (ir.ends (ir.throws v) env s) (js.ends (js.thrown_with j) (js_meaning.leave_handler caught_name shown_handler sc sc') u) (threw y v j env s (js_meaning.leave_handler caught_name shown_handler sc sc') u g a (leave-ready y env sc sc' r) (leave-keeps c.kept q sc sc' (λ y h. h) ks) same)
  leaving_alike k w q sc sound wr _ _ (stopped y env s sc' u t g r ks same) = sim_done z.direction (Came z.place z.code c c.scope k w sc) (ir.ends ir.stops env s) (js.ends js.breaks_nearest (js_meaning.leave_handler caught_name shown_handler sc sc') u) (stopped y env s (js_meaning.leave_handler caught_name shown_handler sc sc') u t g (leave-ready y env sc sc' r) (leave-keeps c.kept q sc sc' (λ y h. h) ks) same)

  -- the handler has the locals of the context, and what is caught
  abbrev pub handling : Context
  handling = behind z c x Any

  still_there : (y : List ℕ) (i : IrType) → c.scope y i → with_local x Any c.scope y i
  still_there y i h = inr ((λ e. unseen.scope i (subst (λ (n : List ℕ). c.scope n i) e h)), h)

  handler_alike : (k : Destination) (w : World) (v : ir.Value) (j : js.Value) (env : ir.Env) (s : ir.State) (sc : js.Scope) (u : js.State) (r : ir.Run) → Sound z.is_mutable c → Writes c.written k → SameValue w Any v j → Ready z.place z.code c.scope c.writable w env sc → (Ready z.place z.code handling.scope c.writable w (ir_meaning.set_local x v env) (handler_scope j sc) → Sim z.direction (Came z.place z.code handling handling.scope k w (handler_scope j sc)) (r (ir_meaning.set_local x v env) s) (run z ss (handler_scope j sc) u)) → Sim z.direction (Came z.place z.code c c.scope k w sc) (r (ir_meaning.set_local x v env) s) (js_meaning.in_handler caught_name shown_handler (run z ss) j sc u)
  handler_alike k w v j env s sc u r sound wr same ready does =
      let inner = handler_scope j sc in
      let o = r (ir_meaning.set_local x v env) s in
      let within : Sim z.direction (Came z.place z.code c c.scope k w inner) o (run z ss inner u) = sim_weaken z.direction (Came z.place z.code handling handling.scope k w inner) (Came z.place z.code c c.scope k w inner) o (run z ss inner u) (came-narrow z lawful c handling handling.scope c.scope k w w inner inner refl refl (λ l h. h) (λ h. h) still_there still_there (λ y h. inr h) (grows-refl w) (keeps-refl z c.kept inner)) (does (set-ready z lawful c.scope c.writable x Any w v j env (js_meaning.enter shown_handler sc) same (enter-ready z lawful c ss free w env sc ready))) in
      subst (λ q. Sim z.direction (Came z.place z.code c c.scope k w sc) q (js_meaning.in_handler caught_name shown_handler (run z ss) j sc u)) (then_do-right o) (sim_then z.direction (Came z.place z.code c c.scope k w inner) (Came z.place z.code c c.scope k w sc) o (run z ss inner u) done (js_meaning.leaving_handler caught_name shown_handler sc) within (leaving_alike k w j sc sound wr))

module _ (z : Setting) (lawful : Lawful z) (c : Context) (k : Destination) (w : World) (sc : js.Scope) (x : List ℕ) (r : ir.Run) (handler : js.Value → js.Execution) where
  abbrev Handles : Type 0
  Handles = (y : World) (v : ir.Value) (j : js.Value) (env : ir.Env) (s : ir.State) (sc' : js.Scope) (u : js.State) → Grows w y → SameValue y Any v j → Ready z.place z.code c.scope c.writable y env sc' → Keeps z.place c.kept sc sc' → SameState z.place y s u → Sim z.direction (Came z.place z.code c c.scope k w sc) (r (ir_meaning.set_local x v env) s) (handler j sc' u)

  -- what is thrown is handled, and any other end stays
  caught_alike : Handles → (a : ir.Ended) (b : js.StatementEnd) → Came z.place z.code c c.scope k w sc a b → Sim z.direction (Came z.place z.code c c.scope k w sc) (ir_meaning.caught x r a) (js_meaning.caught handler b)
  caught_alike handles _ _ (threw y v j env s sc' u g a ready ks same) = handles y v j env s sc' u g a ready ks same
  caught_alike handles _ _ (stopped y env s sc' u t g ready ks same) = sim_done z.direction (Came z.place z.code c c.scope k w sc) (ir.ends ir.stops env s) (js.ends js.breaks_nearest sc' u) (stopped y env s sc' u t g ready ks same)
  caught_alike handles _ _ (gave y v env s sc' u e g a ready ks same) = passes k e a refl
    where
      passes : (d : Destination) (e : js.Completion) → Arrives z.place y v sc' js.normally d e → k ≡ d → Sim z.direction (Came z.place z.code c c.scope k w sc) (done (ir.ends (ir.gives v) env s)) (js_meaning.caught handler (js.ends e sc' u))
      passes _ _ let_go q = sim_done z.direction (Came z.place z.code c c.scope k w sc) (ir.ends (ir.gives v) env s) (js.ends js.normally sc' u) (gave y v env s sc' u js.normally g (subst (λ d. Arrives z.place y v sc' js.normally d js.normally) (sym q) let_go) ready ks same)
      passes _ _ (stored n t j i h) q = sim_done z.direction (Came z.place z.code c c.scope k w sc) (ir.ends (ir.gives v) env s) (js.ends js.normally sc' u) (gave y v env s sc' u js.normally g (subst (λ d. Arrives z.place y v sc' js.normally d js.normally) (sym q) (stored n t j i h)) ready ks same)
      passes _ _ (returned t j i) q = sim_done z.direction (Came z.place z.code c c.scope k w sc) (ir.ends (ir.gives v) env s) (js.ends (js.returns j) sc' u) (gave y v env s sc' u (js.returns j) g (subst (λ d. Arrives z.place y v sc' js.normally d (js.returns j)) (sym q) (returned t j i)) ready ks same)
  caught_alike handles _ _ (left y l v env s sc' u e reach g a ready ks same) = passes (target_of c.targets l) e a refl
    where
      passes : (d : Destination) (e : js.Completion) → Arrives z.place y v sc' (js.breaks (z.place.label l)) d e → target_of c.targets l ≡ d → Sim z.direction (Came z.place z.code c c.scope k w sc) (done (ir.ends (ir.leaves l v) env s)) (js_meaning.caught handler (js.ends e sc' u))
      passes _ _ let_go q = sim_done z.direction (Came z.place z.code c c.scope k w sc) (ir.ends (ir.leaves l v) env s) (js.ends (js.breaks (z.place.label l)) sc' u) (left y l v env s sc' u (js.breaks (z.place.label l)) reach g (subst (λ d. Arrives z.place y v sc' (js.breaks (z.place.label l)) d (js.breaks (z.place.label l))) (sym q) let_go) ready ks same)
      passes _ _ (stored n t j i h) q = sim_done z.direction (Came z.place z.code c c.scope k w sc) (ir.ends (ir.leaves l v) env s) (js.ends (js.breaks (z.place.label l)) sc' u) (left y l v env s sc' u (js.breaks (z.place.label l)) reach g (subst (λ d. Arrives z.place y v sc' (js.breaks (z.place.label l)) d (js.breaks (z.place.label l))) (sym q) (stored n t j i h)) ready ks same)
      passes _ _ (returned t j i) q = sim_done z.direction (Came z.place z.code c c.scope k w sc) (ir.ends (ir.leaves l v) env s) (js.ends (js.returns j) sc' u) (left y l v env s sc' u (js.returns j) reach g (subst (λ d. Arrives z.place y v sc' (js.breaks (z.place.label l)) d (js.returns j)) (sym q) (returned t j i)) ready ks same)

-- a tree whose statements come to this in the context, and those of a handler
pub try_alike : (z : Setting) (lawful : Lawful z) (c : Context) (k : Destination) (p : Position) (x : List ℕ) (a b : core.Statements) (first second : ir.Run) → Sound z.is_mutable c → Writes c.written k → Unseen c x → Undeclared c a → Undeclared c b → ((w : World) (env : ir.Env) (s : ir.State) (sc : js.Scope) (u : js.State) → Ready z.place z.code c.scope c.writable w env sc → SameState z.place w s u → Ends z lawful c c.scope k w sc (first env s) a sc u) → ((w : World) (env : ir.Env) (s : ir.State) (sc : js.Scope) (u : js.State) → Ready z.place z.code (with_local x Any c.scope) c.writable w env sc → SameState z.place w s u → Ends z lawful (behind z c x Any) (with_local x Any c.scope) k w sc (second env s) b sc u) → (w : World) (env : ir.Env) (s : ir.State) (sc : js.Scope) (u : js.State) → Ready z.place z.code c.scope c.writable w env sc → SameState z.place w s u → Ends z lawful c c.scope k w sc (then_do (first env s) (ir_meaning.caught x second)) (core.statement (core.try_of (Some p) a (core.named x) b) core.no_statements) sc u
try_alike z lawful c k p x a b first second sound wr unseen free_a free_b does_a does_b w env s sc u ready same =
    let shown_a = statement_templates z.place.name z.place.label (usable z).lookup a in
    let shown_b = statement_templates z.place.name z.place.label (usable z).lookup b in
    let handler : js.Value → js.Execution = js_meaning.in_handler (z.place.name (core.named x)) shown_b (run z b) in
    ends-one z lawful c c.scope k w sc (then_do (first env s) (ir_meaning.caught x second)) (core.try_of (Some p) a (core.named x) b) sc u
    (sim_then z.direction (Came z.place z.code c c.scope k w sc) (Came z.place z.code c c.scope k w sc) (first env s) (js_meaning.in_block shown_a (run z a) sc u) (ir_meaning.caught x second) (js_meaning.caught handler)
    (block_alike z lawful c a free_a k w env sc u (first env s) sound wr ready (λ inner. does_a w env s (js_meaning.enter shown_a sc) u inner same))
    (caught_alike z lawful c k w sc x second handler
    (λ y v j env' s' sc' u' g alike ready' ks same'. rebased z lawful c c.scope k w y sc sc' (second (ir_meaning.set_local x v env') s') (handler j sc' u') g ks (handler_alike z lawful c x unseen b free_b k y v j env' s' sc' u' second sound wr alike ready' (λ inner. does_b y (ir_meaning.set_local x v env') s' (handler_scope z lawful c x unseen b free_b j sc') u' inner same')))))
