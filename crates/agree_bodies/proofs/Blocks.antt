-- A block of statements sees the bindings around it, and leaves them as they are.
use Rattle.std.proofs.Common.{◌≡◌, ℕ, Bool, true, false, ◌||◌, List, refl, sym, ap, ◌∙◌, subst, if◌then◌else◌}
use Rattle.std.specs.Prelude.{nat_eq}
use Rattle.std.specs.Cmp.Lexicographic.{pointwise}
use Rattle.outcomes.specs.Outcome.{Out, done}
use Rattle.outcomes.specs.Agreement.{Sim}
use Rattle.outcomes.proofs.Sequence.{then_do-right}
use Rattle.outcomes.proofs.Simulation.{sim_done, sim_then}
use Rattle.agree_plain_trees.specs.States as ir
use Rattle.js_mean.specs.Meaning as js_meaning
use Rattle.js_mean.specs.Proper.{is_among, declared}
use Rattle.js_mean.specs.States as js
use Rattle.js_tree.specs.Terms as tree
use Rattle.js_tree.specs.Terms.{Name}
use Rattle.sj_core.specs.Terms as core
use Rattle.agree_early_errors.specs.Desugar.{target_of}
use Rattle.agree_early_errors.specs.Spill.{Destination, Code}
use Rattle.agree_early_errors.specs.Templates.{statement_templates}
use Rattle.agree_plain_trees.specs.Settings.{Receiving, Setting, run, Lawful, Holding, OfNoVariable, usable}
use Rattle.sj_trees.specs.declared.types.IrType.{IrType}
use Rattle.agree_bodies.proofs.Contexts.{Context, Writes, writes-more, Sound, Ahead, Ready, Keeps, Less, Arrives, let_go, stored, returned, Came, gave, left, threw, stopped}
use Rattle.agree_early_errors.proofs.Declared.{Declares, declared-named}
use Rattle.agree_early_errors.proofs.Good.{IsIn, Good}
use Rattle.sj_names.proofs.Same.{impossible}
use Rattle.agree_plain_trees.proofs.Worlds.{World}

or_false : (a b : Bool) → (a || b) ≡ false → (a ≡ false) × (b ≡ false)
or_false true b h = impossible (sym h)
or_false false b h = (refl, h)

-- a name that statements don't declare has the binding that it had
pub bind-undeclared : (ss : tree.Statements) (b : Name → js.Cell) (n : Name) → is_among (declared ss) n ≡ false → js_meaning.bind_declared ss b n ≡ b n
bind-undeclared tree.no_statements b n h = refl
bind-undeclared (tree.statement (tree.const_of x e) ss) b n h = let k = or_false (pointwise nat_eq n x) (is_among (declared ss) n) h in ap (λ (t : Bool). if t then js.unset true else js_meaning.bind_declared ss b n) k.0 ∙ bind-undeclared ss b n k.1
bind-undeclared (tree.statement (tree.let_of x e) ss) b n h = let k = or_false (pointwise nat_eq n x) (is_among (declared ss) n) h in ap (λ (t : Bool). if t then js.unset false else js_meaning.bind_declared ss b n) k.0 ∙ bind-undeclared ss b n k.1
bind-undeclared (tree.statement (tree.declare_of x) ss) b n h = let k = or_false (pointwise nat_eq n x) (is_among (declared ss) n) h in ap (λ (t : Bool). if t then js.unset false else js_meaning.bind_declared ss b n) k.0 ∙ bind-undeclared ss b n k.1
bind-undeclared (tree.statement _ ss) b n h = bind-undeclared ss b n h

-- the own names of a tree are none of those of its context
pub record Outside (c : Context) (own : List ℕ → Type 0) : Type 0 where
  pub scope : (x : List ℕ) (t : IrType) → own x → c.scope x t → ⊥
  pub writable : (x : List ℕ) → own x → c.writable (core.named x) → ⊥
  pub kept : (x : List ℕ) → own x → c.kept (core.named x) → ⊥

-- statements declare nothing of what the context has
pub record Undeclared (c : Context) (ss : core.Statements) : Type 0 where
  pub scope : (x : List ℕ) (t : IrType) → c.scope x t → Declares ss (core.named x) → ⊥
  pub writable : (y : core.Variable) → c.writable y → Declares ss y → ⊥
  pub kept : (y : core.Variable) → c.kept y → Declares ss y → ⊥
  pub receiver : Declares ss core.receiver → ⊥

outside-writable : (c : Context) (own : List ℕ → Type 0) (j : ℕ) → Outside c own → Ahead c j → (n : ℕ) (y : core.Variable) → IsIn own j n y → c.writable y → ⊥
outside-writable c own j out ahead n (core.named x) i h = out.writable x i h
outside-writable c own j out ahead n (core.numbered k) i h = ahead.writable k i.0 h
outside-writable c own j out ahead n core.receiver i h = absurd i

outside-kept : (c : Context) (own : List ℕ → Type 0) (j : ℕ) → Outside c own → Ahead c j → (n : ℕ) (y : core.Variable) → IsIn own j n y → c.kept y → ⊥
outside-kept c own j out ahead n (core.named x) i h = out.kept x i h
outside-kept c own j out ahead n (core.numbered k) i h = ahead.kept k i.0 h
outside-kept c own j out ahead n core.receiver i h = absurd i

pub undeclared : (c : Context) (own : List ℕ → Type 0) (j : ℕ) (code : Code) {labels : List (List ℕ)} {inside : Bool} → Outside c own → Ahead c j → Good own labels inside j code → Undeclared c code.statements
undeclared c own j code out ahead g = record {
  scope = λ x t i d. out.scope x t (g.fresh (core.named x) d) i;
  writable = λ y i d. outside-writable c own j out ahead code.next y (g.fresh y d) i;
  kept = λ y i d. outside-kept c own j out ahead code.next y (g.fresh y d) i;
  receiver = λ d. g.fresh core.receiver d;
}

module _ (z : Setting) (lawful : Lawful z) (c : Context) (ss : core.Statements) (free : Undeclared c ss) where
  abbrev shown_statements : tree.Statements
  shown_statements = statement_templates z.place.name z.place.label (usable z).lookup ss

  -- a variable that isn't declared is no declared name
  pub not_declared : (y : core.Variable) → (Declares ss y → ⊥) → is_among (declared shown_statements) (z.place.name y) ≡ false
  not_declared y h = go (is_among (declared shown_statements) (z.place.name y)) refl
    where
      go : (b : Bool) → is_among (declared shown_statements) (z.place.name y) ≡ b → is_among (declared shown_statements) (z.place.name y) ≡ false
      go false e = e
      go true e = let n = declared-named z.place.name z.place.label (usable z).lookup ss (z.place.name y) e in absurd (h (subst (Declares ss) (lawful.base.names.variables n.variable y n.name) n.declares))

  pub not_among : (x : Name) → OfNoVariable z.place x → is_among (declared shown_statements) x ≡ false
  not_among x none = go (is_among (declared shown_statements) x) refl
    where
      go : (b : Bool) → is_among (declared shown_statements) x ≡ b → is_among (declared shown_statements) x ≡ false
      go false e = e
      go true e = let n = declared-named z.place.name z.place.label (usable z).lookup ss x e in absurd (none n.variable n.name)

  pub entered : (sc : js.Scope) (n : Name) → is_among (declared shown_statements) n ≡ false → (js_meaning.enter shown_statements sc).bindings n ≡ sc.bindings n
  entered sc n h = bind-undeclared shown_statements sc.bindings n h

  behind_block : (outer inner : js.Scope) (n : Name) → is_among (declared shown_statements) n ≡ false → (js_meaning.leave shown_statements outer inner).bindings n ≡ inner.bindings n
  behind_block outer inner n h = ap (λ (b : Bool). if b then outer.bindings n else inner.bindings n) h

  pub enter-ready : (w : World) (env : ir.Env) (sc : js.Scope) → Ready z.place z.code c.scope c.writable w env sc → Ready z.place z.code c.scope c.writable w env (js_meaning.enter shown_statements sc)
  enter-ready w env sc r = record {
    sees = record { inside = record { file = r.sees.inside.file; free = λ x none. entered sc x (not_among x none) ∙ r.sees.inside.free x none }; this = subst (Receiving w z.code.owner env.this_value) (sym (entered sc (z.place.name core.receiver) (not_declared core.receiver free.receiver))) r.sees.this; sure = r.sees.sure; locals = λ x t i. subst (Holding w t (env.locals x)) (sym (entered sc (z.place.name (core.named x)) (not_declared (core.named x) (free.scope x t i)))) (r.sees.locals x t i) };
    «open» = λ y i. record { value = (r.«open» y i).value; is = entered sc (z.place.name y) (not_declared y (free.writable y i)) ∙ (r.«open» y i).is };
  }

  pub leave-ready : (w : World) (env : ir.Env) (outer inner : js.Scope) → Ready z.place z.code c.scope c.writable w env inner → Ready z.place z.code c.scope c.writable w env (js_meaning.leave shown_statements outer inner)
  leave-ready w env outer inner r = record {
    sees = record { inside = record { file = r.sees.inside.file; free = λ x none. behind_block outer inner x (not_among x none) ∙ r.sees.inside.free x none }; this = subst (Receiving w z.code.owner env.this_value) (sym (behind_block outer inner (z.place.name core.receiver) (not_declared core.receiver free.receiver))) r.sees.this; sure = r.sees.sure; locals = λ x t i. subst (Holding w t (env.locals x)) (sym (behind_block outer inner (z.place.name (core.named x)) (not_declared (core.named x) (free.scope x t i)))) (r.sees.locals x t i) };
    «open» = λ y i. record { value = (r.«open» y i).value; is = behind_block outer inner (z.place.name y) (not_declared y (free.writable y i)) ∙ (r.«open» y i).is };
  }

  leave-keeps : (q : core.Variable → Type 0) (outer inner : js.Scope) → ((y : core.Variable) → q y → c.kept y) → Keeps z.place q (js_meaning.enter shown_statements outer) inner → Keeps z.place q outer (js_meaning.leave shown_statements outer inner)
  leave-keeps q outer inner sub ks = record { same = λ y i. behind_block outer inner (z.place.name y) (not_declared y (free.kept y (sub y i))) ∙ ks.same y i ∙ entered outer (z.place.name y) (not_declared y (free.kept y (sub y i))) }

  leave-arrives : (w : World) (v : ir.Value) (outer inner : js.Scope) (usual : js.Completion) (k : Destination) (e : js.Completion) → Writes c.writable k → Arrives z.place w v inner usual k e → Arrives z.place w v (js_meaning.leave shown_statements outer inner) usual k e
  leave-arrives w v outer inner usual _ _ wr let_go = let_go
  leave-arrives w v outer inner usual _ _ wr (stored x t j a h) = stored x t j a (behind_block outer inner (z.place.name x) (not_declared x (free.writable x wr)) ∙ h)
  leave-arrives w v outer inner usual _ _ wr (returned t j a) = returned t j a

  leaving_alike : (k : Destination) (w : World) (sc : js.Scope) → Sound z.is_mutable c → Writes c.written k → (a : ir.Ended) (b : js.StatementEnd) → Came z.place z.code c c.scope k w (js_meaning.enter shown_statements sc) a b → Sim z.direction (Came z.place z.code c c.scope k w sc) (done a) (js_meaning.leaving shown_statements sc b)
  leaving_alike k w sc sound wr _ _ (gave y v env s sc' u e g a r ks same) = sim_done z.direction (Came z.place z.code c c.scope k w sc) (ir.ends (ir.gives v) env s) (js.ends e (js_meaning.leave shown_statements sc sc') u) (gave y v env s (js_meaning.leave shown_statements sc sc') u e g (leave-arrives y v sc sc' js.normally k e (writes-more c.written c.writable k sound.within wr) a) (leave-ready y env sc sc' r) (leave-keeps (Less c.kept k) sc sc' (λ y h. h.0) ks) same)
  leaving_alike k w sc sound wr _ _ (left y l v env s sc' u e reach g a r ks same) = sim_done z.direction (Came z.place z.code c c.scope k w sc) (ir.ends (ir.leaves l v) env s) (js.ends e (js_meaning.leave shown_statements sc sc') u) (left y l v env s (js_meaning.leave shown_statements sc sc') u e reach g (leave-arrives y v sc sc' (js.breaks (z.place.label l)) (target_of c.targets l) e (sound.aims l) a) (leave-ready y env sc sc' r) (leave-keeps (Less c.kept (target_of c.targets l)) sc sc' (λ y h. h.0) ks) same)
  leaving_alike k w sc sound wr _ _ (threw y v x env s sc' u g a r ks same) = sim_done z.direction (Came z.place z.code c c.scope k w sc) (ir.ends (ir.throws v) env s) (js.ends (js.thrown_with x) (js_meaning.leave shown_statements sc sc') u) (threw y v x env s (js_meaning.leave shown_statements sc sc') u g a (leave-ready y env sc sc' r) (leave-keeps c.kept sc sc' (λ y h. h) ks) same)
  leaving_alike k w sc sound wr _ _ (stopped y env s sc' u t g r ks same) = sim_done z.direction (Came z.place z.code c c.scope k w sc) (ir.ends ir.stops env s) (js.ends js.breaks_nearest (js_meaning.leave shown_statements sc sc') u) (stopped y env s (js_meaning.leave shown_statements sc sc') u t g (leave-ready y env sc sc' r) (leave-keeps c.kept sc sc' (λ y h. h) ks) same)

  -- what stands in a block with the names that these statements declare
  pub scoped_alike : (k : Destination) (w : World) (env : ir.Env) (sc : js.Scope) (u : js.State) (o : Out ir.Ended) (x : js.Execution) → Sound z.is_mutable c → Writes c.written k → Ready z.place z.code c.scope c.writable w env sc → (Ready z.place z.code c.scope c.writable w env (js_meaning.enter shown_statements sc) → Sim z.direction (Came z.place z.code c c.scope k w (js_meaning.enter shown_statements sc)) o (x (js_meaning.enter shown_statements sc) u)) → Sim z.direction (Came z.place z.code c c.scope k w sc) o (js_meaning.in_block shown_statements x sc u)
  scoped_alike k w env sc u o x sound wr r inner = subst (λ q. Sim z.direction (Came z.place z.code c c.scope k w sc) q (js_meaning.in_block shown_statements x sc u)) (then_do-right o) (sim_then z.direction (Came z.place z.code c c.scope k w (js_meaning.enter shown_statements sc)) (Came z.place z.code c c.scope k w sc) o (x (js_meaning.enter shown_statements sc) u) done (js_meaning.leaving shown_statements sc) (inner (enter-ready w env sc r)) (leaving_alike k w sc sound wr))

  -- a tree whose statements stand in a block of their own
  pub block_alike : (k : Destination) (w : World) (env : ir.Env) (sc : js.Scope) (u : js.State) (o : Out ir.Ended) → Sound z.is_mutable c → Writes c.written k → Ready z.place z.code c.scope c.writable w env sc → (Ready z.place z.code c.scope c.writable w env (js_meaning.enter shown_statements sc) → Sim z.direction (Came z.place z.code c c.scope k w (js_meaning.enter shown_statements sc)) o (run z ss (js_meaning.enter shown_statements sc) u)) → Sim z.direction (Came z.place z.code c c.scope k w sc) o (js_meaning.in_block shown_statements (run z ss) sc u)
  block_alike k w env sc u o = scoped_alike k w env sc u o (run z ss)
