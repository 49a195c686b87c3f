-- What a tree is written in: the locals in scope, the variables that may be written, those that keep what they hold, the labels, and whether a try with a finalizer
-- may stand there.
use Rattle.std.proofs.Common.{◌≡◌, ℕ, ◌≤◌, Bool, true, false, List, refl, sym, ap, ◌∙◌, subst, if◌then◌else◌}
use Rattle.agree_plain_trees.specs.States as ir
use Rattle.js_mean.specs.Meaning as js_meaning
use Rattle.js_mean.specs.States as js
use Rattle.agree_bodies.specs.Fine.{Around}
use Rattle.agree_early_errors.proofs.Equal.{differs, equals}
use Rattle.sj_core.specs.Terms as core
use Rattle.agree_early_errors.specs.Desugar.{Targets, target_of}
use Rattle.agree_early_errors.specs.Spill.{Destination, discard, to_variable, to_result}
use Rattle.sj_trees.specs.declared.types.IrType.{IrType}
use Rattle.sj_trees.specs.declared.types.IrType.TheVariants.{Any}
use Rattle.agree_early_errors.specs.Locals.{Scope}
use Rattle.agree_plain_trees.specs.Settings.{Place, Code, Receiving, Setting, SameState, Inside, Lawful, Holding, Sees}
use Rattle.agree_plain_trees.proofs.Plain.{sees-lift}
use Rattle.agree_plain_trees.proofs.Worlds.{World, Grows, SameValue}

pub record Context : Type 1 where
  pub scope : Scope
  pub writable : core.Variable → Type 0
  pub written : core.Variable → Type 0
  pub kept : core.Variable → Type 0
  pub targets : Targets
  pub reaches : List ℕ → Type 0
  pub tries : Type 0
  pub turning : Type 0

-- the labels around it
abbrev pub around : Context → Around
around c = record { targets = c.targets; reaches = c.reaches; tries = c.tries }

abbrev pub Writes : (core.Variable → Type 0) → Destination → Type 0
Writes q discard = Unit {0}
Writes q (to_variable y t) = q y
Writes q (to_result t) = Unit {0}

pub writes-more : (q p : core.Variable → Type 0) (k : Destination) → ((y : core.Variable) → q y → p y) → Writes q k → Writes p k
writes-more q p discard h w = tt
writes-more q p (to_variable y t) h w = h y w
writes-more q p (to_result t) h w = tt

-- what may be written is no local in scope; a local in scope is kept where it isn't mutable, and no mutable one is; it has one type; the values that leave to a
-- label go where it may be written, and those of a label to which the tree may leave where the tree writes; where a try with a finalizer may stand, nothing is kept
-- that the tree writes. This is kept.
pub record Sound (is_mutable : List ℕ → Bool) (c : Context) : Type 0 where
  pub hidden : (x : List ℕ) (t : IrType) → c.writable (core.named x) → c.scope x t → ⊥
  pub constant : (x : List ℕ) (t : IrType) → c.scope x t → is_mutable x ≡ false → c.kept (core.named x)
  pub changing : (x : List ℕ) (t : IrType) → c.scope x t → c.kept (core.named x) → is_mutable x ≡ true → ⊥
  pub alone : (x : List ℕ) (s t : IrType) → c.scope x s → c.scope x t → s ≡ t
  pub within : (y : core.Variable) → c.written y → c.writable y
  pub aims : (l : List ℕ) → Writes c.writable (target_of c.targets l)
  pub reached : (l : List ℕ) → c.reaches l → Writes c.written (target_of c.targets l)
  pub apart : c.tries → (y : core.Variable) → c.kept y → c.written y → ⊥
  pub receiver : c.kept core.receiver
  pub received : c.writable core.receiver → ⊥

-- no variable for an operand from this number on is in use
pub record Ahead (c : Context) (j : ℕ) : Type 0 where
  pub writable : (k : ℕ) → j ≤ k → c.writable (core.numbered k) → ⊥
  pub kept : (k : ℕ) → j ≤ k → c.kept (core.numbered k) → ⊥

-- a binding that has started and may be written
pub record IsOpen (cell : js.Cell) : Type 0 where
  pub value : js.Value
  pub is : cell ≡ js.holds false value

pub record Ready (p : Place) (here : Code) (scope : Scope) (writable : core.Variable → Type 0) (w : World) (env : ir.Env) (sc : js.Scope) : Type 0 where
  pub sees : Sees p here scope w env sc
  pub «open» : (y : core.Variable) → writable y → IsOpen (sc.bindings (p.name y))

pub ready-lift : (z : Setting) (scope : Scope) (q : core.Variable → Type 0) (u w : World) (env : ir.Env) (sc : js.Scope) → Grows u w → Ready z.place z.code scope q u env sc → Ready z.place z.code scope q w env sc
ready-lift z scope q u w env sc g r = record { sees = sees-lift z scope u w env sc g r.sees; «open» = r.«open» }

pub record Keeps (p : Place) (kept : core.Variable → Type 0) (before behind : js.Scope) : Type 0 where
  pub same : (y : core.Variable) → kept y → behind.bindings (p.name y) ≡ before.bindings (p.name y)

pub keeps-refl : (z : Setting) (p : core.Variable → Type 0) (sc : js.Scope) → Keeps z.place p sc sc
keeps-refl z p sc = record { same = λ y h. refl }

pub keeps-trans : (z : Setting) (p : core.Variable → Type 0) (a b c : js.Scope) → Keeps z.place p a b → Keeps z.place p b c → Keeps z.place p a c
keeps-trans z p a b c h k = record { same = λ y i. k.same y i ∙ h.same y i }

-- the same with fewer variables
pub keeps-fewer : (z : Setting) (more p : core.Variable → Type 0) (a b : js.Scope) → ((y : core.Variable) → p y → more y) → Keeps z.place more a b → Keeps z.place p a b
keeps-fewer z more p a b sub k = record { same = λ y i. k.same y (sub y i) }

-- the variable to which a value goes, and what is kept but for it: a value comes to a variable last, so a finalizer may write it too
abbrev pub Goes : Destination → core.Variable → Type 0
Goes discard y = ⊥
Goes (to_variable x t) y = x ≡ y
Goes (to_result t) y = ⊥

abbrev pub Less : (core.Variable → Type 0) → Destination → core.Variable → Type 0
Less q k y = q y × (Goes k y → ⊥)

pub keeps-less : (z : Setting) (q : core.Variable → Type 0) (k : Destination) (a b : js.Scope) → Keeps z.place q a b → Keeps z.place (Less q k) a b
keeps-less z q k a b ks = keeps-fewer z q (Less q k) a b (λ y h. h.0) ks

pub keeps-all : (z : Setting) (q : core.Variable → Type 0) (a b : js.Scope) → Keeps z.place (Less q discard) a b → Keeps z.place q a b
keeps-all z q a b ks = keeps-fewer z (Less q discard) q a b (λ y h. (h, λ e. e)) ks

pub less-trans : (z : Setting) (q : core.Variable → Type 0) (k : Destination) (a b c : js.Scope) → Keeps z.place q a b → Keeps z.place (Less q k) b c → Keeps z.place (Less q k) a c
less-trans z q k a b c h l = keeps-trans z (Less q k) a b c (keeps-less z q k a b h) l

-- a value has come to a destination: nowhere, to a variable, or out of the function; else the completion is this one
pub data Arrives (p : Place) (w : World) (v : ir.Value) (sc : js.Scope) (usual : js.Completion) : Destination → js.Completion → Type 0 where
  let_go : Arrives p w v sc usual discard usual
  stored : (x : core.Variable) (t : IrType) (j : js.Value) → SameValue w t v j → sc.bindings (p.name x) ≡ js.holds false j → Arrives p w v sc usual (to_variable x t) usual
  returned : (t : IrType) (j : js.Value) → SameValue w t v j → Arrives p w v sc usual (to_result t) (js.returns j)

-- how a tree and its statements came to their end; inside a loop's turn, its condition may not hold any more
pub data Came (p : Place) (here : Code) (c : Context) (scope : Scope) (k : Destination) (from : World) (before : js.Scope) : ir.Ended → js.StatementEnd → Type 0 where
  gave : (w : World) (v : ir.Value) (env : ir.Env) (s : ir.State) (sc : js.Scope) (u : js.State) (e : js.Completion) → Grows from w → Arrives p w v sc js.normally k e → Ready p here scope c.writable w env sc → Keeps p (Less c.kept k) before sc → SameState p w s u → Came p here c scope k from before (ir.ends (ir.gives v) env s) (js.ends e sc u)
  left : (w : World) (l : List ℕ) (v : ir.Value) (env : ir.Env) (s : ir.State) (sc : js.Scope) (u : js.State) (e : js.Completion) → c.reaches l → Grows from w → Arrives p w v sc (js.breaks (p.label l)) (target_of c.targets l) e → Ready p here c.scope c.writable w env sc → Keeps p (Less c.kept (target_of c.targets l)) before sc → SameState p w s u → Came p here c scope k from before (ir.ends (ir.leaves l v) env s) (js.ends e sc u)
  threw : (w : World) (v : ir.Value) (x : js.Value) (env : ir.Env) (s : ir.State) (sc : js.Scope) (u : js.State) → Grows from w → SameValue w Any v x → Ready p here c.scope c.writable w env sc → Keeps p c.kept before sc → SameState p w s u → Came p here c scope k from before (ir.ends (ir.throws v) env s) (js.ends (js.thrown_with x) sc u)
  stopped : (w : World) (env : ir.Env) (s : ir.State) (sc : js.Scope) (u : js.State) → c.turning → Grows from w → Ready p here c.scope c.writable w env sc → Keeps p c.kept before sc → SameState p w s u → Came p here c scope k from before (ir.ends ir.stops env s) (js.ends js.breaks_nearest sc u)

-- texts that aren't equal
module _ (z : Setting) (lawful : Lawful z) where
  -- a binding that is started
  pub started-here : (const : Bool) (y : core.Variable) (v : js.Value) (sc : js.Scope) → (js_meaning.start const (z.place.name y) v sc).bindings (z.place.name y) ≡ js.holds const v
  started-here const y v sc = ap (λ (t : Bool). if t then js.holds const v else sc.bindings (z.place.name y)) (equals (z.place.name y))

  pub started-other : (const : Bool) (y x : core.Variable) (v : js.Value) (sc : js.Scope) → (x ≡ y → ⊥) → (js_meaning.start const (z.place.name y) v sc).bindings (z.place.name x) ≡ sc.bindings (z.place.name x)
  started-other const y x v sc h = ap (λ (t : Bool). if t then js.holds const v else sc.bindings (z.place.name x)) (differs (z.place.name x) (z.place.name y) (λ e. h (lawful.base.names.variables x y e)))

  pub started-inside : (const : Bool) (y : core.Variable) (v : js.Value) (sc : js.Scope) → Inside z.place z.code sc → Inside z.place z.code (js_meaning.start const (z.place.name y) v sc)
  started-inside const y v sc i = record { file = i.file; free = λ x none. ap (λ (t : Bool). if t then js.holds const v else sc.bindings x) (differs x (z.place.name y) (λ e. none y (sym e))) ∙ i.free x none }

  -- a binding that is no local in scope and may not be written otherwise
  pub started-ready : (scope : Scope) (q : core.Variable → Type 0) (const : Bool) (y : core.Variable) (v : js.Value) (w : World) (env : ir.Env) (sc : js.Scope) → ((x : List ℕ) (t : IrType) → scope x t → core.named x ≡ y → ⊥) → ((x : core.Variable) → q x → x ≡ y → ⊥) → (core.receiver ≡ y → ⊥) → Ready z.place z.code scope q w env sc → Ready z.place z.code scope q w env (js_meaning.start const (z.place.name y) v sc)
  started-ready scope q const y v w env sc out unwritten apart r = record {
    sees = record { inside = started-inside const y v sc r.sees.inside; this = subst (Receiving w z.code.owner env.this_value) (sym (started-other const y core.receiver v sc apart)) r.sees.this; sure = r.sees.sure; locals = λ x t i. subst (Holding w t (env.locals x)) (sym (started-other const y (core.named x) v sc (out x t i))) (r.sees.locals x t i) };
    «open» = λ x i. record { value = (r.«open» x i).value; is = started-other const y x v sc (unwritten x i) ∙ (r.«open» x i).is };
  }

  pub started-keeps : (p : core.Variable → Type 0) (const : Bool) (y : core.Variable) (v : js.Value) (sc : js.Scope) → (p y → ⊥) → Keeps z.place p sc (js_meaning.start const (z.place.name y) v sc)
  started-keeps p const y v sc unkept = record { same = λ x i. started-other const y x v sc (λ e. unkept (subst p e i)) }

  pub started-less : (p : core.Variable → Type 0) (const : Bool) (y : core.Variable) (i : IrType) (v : js.Value) (sc : js.Scope) → Keeps z.place (Less p (to_variable y i)) sc (js_meaning.start const (z.place.name y) v sc)
  started-less p const y i v sc = record { same = λ x h. started-other const y x v sc (λ e. h.1 (sym e)) }
