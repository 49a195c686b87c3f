-- Spilling keeps the order of evaluation.
use Rattle.std.proofs.Common.{◌≡◌, ℕ, suc, ◌≤◌, Bool, true, false, ◌&&◌, List, [], ◌∷◌, Some, Option, refl, sym, ap, ◌∙◌, subst, arith, ◌⊎◌, inl, inr, ⊎_elim, if◌then◌else◌}
use Rattle.std.specs.Prelude.{not, ℤ, pos, FitsSigned}
use Rattle.std.specs.Int.{w32}
use Rattle.outcomes.specs.Outcome.{Out, done, wrong, then_do}
use Rattle.outcomes.specs.Agreement.{Sim}
use Rattle.outcomes.proofs.Sequence.{then_do-associative}
use Rattle.outcomes.proofs.Simulation.{sim_done, sim_wrong, sim_then}
use Rattle.agree_plain_trees.specs.Meaning as ir_meaning
use Rattle.agree_plain_trees.specs.States as ir
use Rattle.agree_plain_trees.proofs.NeverNull.{null_or_given}
use Rattle.agree_plain_trees.proofs.Nulls.{never_null_alike}
use Rattle.js_mean.specs.Files.{owner}
use Rattle.js_mean.specs.Meaning as js_meaning
use Rattle.js_mean.specs.States as js
use Rattle.sj_core.specs.Terms as core
use Rattle.sj_core.specs.Terms.{followed}
use Rattle.agree_early_errors.specs.Coercions.{is_char}
use Rattle.agree_early_errors.specs.Desugar.{into, expression_of, target_of}
use Rattle.agree_early_errors.specs.Plain.{is_fixed}
use Rattle.agree_early_errors.specs.Spill.{Destination, to_variable, Code, Operand, all_plain, texts, spill, spill_case, then_use}
use Rattle.sj_trees.specs.Term.{Term, undefined_literal, null_literal, boolean_literal, char_literal, byte_literal, short_literal, int_literal, long_literal, string_literal, var_ref, this_ref}
use Rattle.sj_trees.specs.declared.positions.Position.{Position}
use Rattle.sj_trees.specs.declared.types.IrType.{IrType}
use Rattle.agree_early_errors.proofs.Locals.{there}
use Rattle.sj_trees.specs.Types.{class_type}
use Rattle.agree_plain_trees.specs.Conditions.{Plain}
use Rattle.agree_plain_trees.specs.Settings.{Receiving, no_receiver, on_receiver, Setting, shown, run, SameState, Valued, valued, thrown, Lawful, Holding, holding, Sees, usable}
use Rattle.sj_names.proofs.Same.{impossible}
use Rattle.agree_plain_trees.proofs.Templates.{fits-exact, unit_is_int}
use Rattle.agree_plain_trees.proofs.Told.{tells}
use Rattle.agree_plain_trees.specs.Standing.{suits}
use Rattle.int_arithmetic.proofs.Longs.{in_range-fits}
use Rattle.sj_trees.specs.TypeOf.{type_of_term}
use Rattle.agree_plain_trees.proofs.Orders.{text_of, OperandAlike, OperandsAlike, no_operands, more_operands}
use Rattle.agree_bodies.proofs.Contexts.{Context, Sound, Ahead, IsOpen, Ready, ready-lift, Keeps, Less, less-trans, keeps-refl, keeps-trans, keeps-fewer, stored, Came, gave, left, threw, stopped, started-here, started-ready, started-keeps}
use Rattle.agree_bodies.proofs.Statements.{run-followed, leaves_on, ThrowsOn, throws-on, Ends}
use Rattle.agree_plain_trees.proofs.Worlds.{World, Grows, Shaped, grows-refl, grows-trans, SameValue, Stands, same_undefined, same_null, same_boolean, same_char, same_number, same_long, same_text, value-lift}

-- a context in which further variables keep what they hold, and one in which one more may be written
abbrev pub keeping : Context → (core.Variable → Type 0) → Context
keeping c p = record { scope = c.scope; writable = c.writable; written = c.written; kept = p; targets = c.targets; reaches = c.reaches; tries = c.tries; turning = c.turning }

abbrev pub writing : Context → core.Variable → Context
writing c x = record { scope = c.scope; writable = λ y. (y ≡ x) ⊎ c.writable y; written = λ y. (y ≡ x) ⊎ c.written y; kept = c.kept; targets = c.targets; reaches = c.reaches; tries = c.tries; turning = c.turning }

-- more is kept, but no more locals
pub record Extends (c : Context) (p : core.Variable → Type 0) : Type 0 where
  pub more : (y : core.Variable) → c.kept y → p y
  pub names : (x : List ℕ) → p (core.named x) → c.kept (core.named x)

pub extends-refl : (c : Context) → Extends c c.kept
extends-refl c = record { more = λ y h. h; names = λ x h. h }

pub numbered-named : (x : List ℕ) (j : ℕ) → core.named x ≡ core.numbered j → ⊥
numbered-named x j e = absurd (cc)

pub extends-more : (c : Context) (p : core.Variable → Type 0) (j : ℕ) → Extends c p → Extends c (λ y. (y ≡ core.numbered j) ⊎ p y)
extends-more c p j e = record { more = λ y h. inr (e.more y h); names = λ x h. ⊎_elim (λ i. absurd (numbered-named x j i)) (e.names x) h }

-- an operand: what the IR does for it, and what is written for it
pub record Piece : Type 0 where
  pub run : ir.Run
  pub here : Operand

module _ (z : Setting) (lawful : Lawful z) where
  -- a tree and its statements, in a context, with a destination and numbers from this on
  abbrev pub Does : Context → Destination → ℕ → Term → Type 0
  Does c k j t = (w : World) (env : ir.Env) (s : ir.State) (sc : js.Scope) (u : js.State) → Ready z.place z.code c.scope c.writable w env sc → SameState z.place w s u → Sim z.direction (Came z.place z.code c c.scope k w sc) (ir_meaning.step z.place.classes z.low t env s) (run z (into z.is_mutable z.code.sure c.targets k j t).statements sc u)

  -- an operand that gives a value at once, and whose expression goes on to give what stands for it
  pub record FixedRun (p : core.Variable → Type 0) (w : World) (env : ir.Env) (sc : js.Scope) (t : IrType) (r : ir.Run) (e : core.Expression) : Type 0 where
    pub value : ir.Value
    pub js_value : js.Value
    pub gives : (s : ir.State) → r env s ≡ done (ir.ends (ir.gives value) env s)
    pub alike : SameValue w t value js_value
    pub goes_on : (later : js.Scope) (u : js.State) → Keeps z.place p sc later → shown z e later u ≡ done (js.gives js_value u)

  abbrev FixedTree : (p : core.Variable → Type 0) (w : World) (env : ir.Env) (sc : js.Scope) (t : Term) → Type 0
  FixedTree p w env sc t = FixedRun p w env sc (type_of_term t) (ir_meaning.step z.place.classes z.low t) (expression_of z.code.sure t)

  local_fixed : (p : core.Variable → Type 0) (w : World) (env : ir.Env) (sc : js.Scope) (q : Position) (x : List ℕ) (t : IrType) → p (core.named x) → (o : Option ir.Value) (cell : js.Cell) → Holding w t o cell → env.locals x ≡ o → sc.bindings (z.place.name (core.named x)) ≡ cell → FixedTree p w env sc (var_ref q x t)
  local_fixed p w env sc q x t kept _ _ (holding v j a) e h = record {
    value = v;
    js_value = j;
    gives = λ s. ap (λ (o : Option ir.Value). ir_meaning.local_value o env s) e;
    alike = a;
    goes_on = λ later u ks. ap (λ (cell : js.Cell). js_meaning.cell_value (js_meaning.or_outer cell (js_meaning.top_cell (owner z.place.program later.file (z.place.name (core.named x))) (z.place.name (core.named x)) u)) u) (ks.same (core.named x) kept ∙ h);
  }

  not_mutable : (b : Bool) → not b ≡ true → b ≡ false
  not_mutable true h = impossible h
  not_mutable false h = refl

  value_fixed : (p : core.Variable → Type 0) (w : World) (env : ir.Env) (sc : js.Scope) (t : Term) (v : ir.Value) (x : js.Value) → Stands w (is_char (type_of_term t)) v x → suits (type_of_term t) v ≡ true → Shaped w v (type_of_term t) → ((s : ir.State) → ir_meaning.step z.place.classes z.low t env s ≡ done (ir.ends (ir.gives v) env s)) → ((later : js.Scope) (u : js.State) → shown z (expression_of z.code.sure t) later u ≡ done (js.gives x u)) → FixedTree p w env sc t
  value_fixed p w env sc t v x a k r g h = record { value = v; js_value = x; gives = g; alike = record { stands = a; suits = k; shaped = r }; goes_on = λ later u ks. h later u }

  number_fixed : (p : core.Variable → Type 0) (w : World) (env : ir.Env) (sc : js.Scope) (t : Term) (v : ir.Value) (n : ℤ) → FitsSigned w32 n → Stands w (is_char (type_of_term t)) v (js.number n) → suits (type_of_term t) v ≡ true → Shaped w v (type_of_term t) → ((s : ir.State) → ir_meaning.step z.place.classes z.low t env s ≡ done (ir.ends (ir.gives v) env s)) → ((later : js.Scope) (u : js.State) → shown z (expression_of z.code.sure t) later u ≡ js_meaning.literal n later u) → FixedTree p w env sc t
  number_fixed p w env sc t v n f a k r g h = value_fixed p w env sc t v (js.number n) a k r g (λ later u. h later u ∙ ap (λ (b : Bool). if b then done (js.gives (js.number n) u) else wrong) (fits-exact n f))

  -- or it is wrong
  abbrev pub FixedOrWrong : (p : core.Variable → Type 0) (w : World) (env : ir.Env) (sc : js.Scope) (t : IrType) (r : ir.Run) (e : core.Expression) → Type 0
  FixedOrWrong p w env sc t r e = FixedRun p w env sc t r e ⊎ ((s : ir.State) → r env s ≡ wrong)

  this_fixed : (p : core.Variable → Type 0) (w : World) (env : ir.Env) (sc : js.Scope) (q : Position) (t : IrType) → t ≡ class_type z.code.owner → p core.receiver → (o : Option ir.Value) (cell : js.Cell) → Receiving w z.code.owner o cell → env.this_value ≡ o → sc.bindings (z.place.name core.receiver) ≡ cell → FixedOrWrong p w env sc t (ir_meaning.step z.place.classes z.low (this_ref q t)) (core.variable_use core.receiver)
  this_fixed p w env sc q t f kept _ _ (no_receiver cell) e h = inr (λ s. ap (λ (o : Option ir.Value). ir_meaning.local_value o env s) e)
  this_fixed p w env sc q t f kept _ _ (on_receiver v j a) e h = inl (record {
    value = v;
    js_value = j;
    gives = λ s. ap (λ (o : Option ir.Value). ir_meaning.local_value o env s) e;
    alike = subst (λ i. SameValue w i v j) (sym f) a.stands;
    goes_on = λ later u ks. ap (λ (cell : js.Cell). js_meaning.cell_value (js_meaning.or_outer cell (js_meaning.top_cell (owner z.place.program later.file (z.place.name core.receiver)) (z.place.name core.receiver) u)) u) (ks.same core.receiver kept ∙ h);
  })

  pub fixed_run : (c : Context) (p : core.Variable → Type 0) (t : Term) → Sound z.is_mutable (keeping c p) → is_fixed z.is_mutable t ≡ true → Plain z.place.typing (usable z) z.code c.scope t → (w : World) (env : ir.Env) (sc : js.Scope) → Sees z.place z.code c.scope w env sc → FixedOrWrong p w env sc (type_of_term t) (ir_meaning.step z.place.classes z.low t) (expression_of z.code.sure t)
  fixed_run c p (undefined_literal q) sound e h w env sc sees = inl (value_fixed p w env sc (undefined_literal q) ir.undefined js.undefined same_undefined refl tt (λ s. refl) (λ later u. refl))
  fixed_run c p (null_literal q) sound e h w env sc sees = inl (value_fixed p w env sc (null_literal q) ir.null js.null same_null refl tt (λ s. refl) (λ later u. refl))
  fixed_run c p (boolean_literal q b) sound e h w env sc sees = inl (value_fixed p w env sc (boolean_literal q b) (ir.boolean b) (js.boolean b) (same_boolean b) refl tt (λ s. refl) (λ later u. refl))
  fixed_run c p (string_literal q us) sound e h w env sc sees = inl (value_fixed p w env sc (string_literal q us) (ir.text us) (js.text us) (same_text us) refl tt (λ s. refl) (λ later u. refl))
  fixed_run c p (char_literal q n) sound e h w env sc sees = inl (number_fixed p w env sc (char_literal q n) (ir.char n) (pos n) (unit_is_int n h.typed.finds) (same_char refl n h.typed.finds) refl tt (λ s. refl) (λ later u. refl))
  fixed_run c p (byte_literal q n) sound e h w env sc sees = inl (number_fixed p w env sc (byte_literal q n) (ir.number n) n h.typed.finds (same_number n h.typed.finds) refl tt (λ s. refl) (λ later u. refl))
  fixed_run c p (short_literal q n) sound e h w env sc sees = inl (number_fixed p w env sc (short_literal q n) (ir.number n) n h.typed.finds (same_number n h.typed.finds) refl tt (λ s. refl) (λ later u. refl))
  fixed_run c p (int_literal q n) sound e h w env sc sees = inl (number_fixed p w env sc (int_literal q n) (ir.number n) n h.typed.finds (same_number n h.typed.finds) refl tt (λ s. refl) (λ later u. refl))
  fixed_run c p (long_literal q n) sound e h w env sc sees = inl (value_fixed p w env sc (long_literal q n) (ir.long n) (js.big_int n) (same_long n h.typed.finds) refl tt (λ s. refl) (λ later u. ap (λ (b : Bool). if b then done (js.gives (js.big_int n) u) else wrong) (in_range-fits n h.typed.finds)))
  fixed_run c p (var_ref q x t) sound e h w env sc sees = inl (local_fixed p w env sc q x t (sound.constant x t (h.seen x t (there h.scene x t h.typed.finds)) (not_mutable (z.is_mutable x) e)) (env.locals x) (sc.bindings (z.place.name (core.named x))) (sees.locals x t (h.seen x t (there h.scene x t h.typed.finds))) refl refl)
  fixed_run c p (this_ref q t) sound e h w env sc sees = this_fixed p w env sc q t (h.typed.finds.1 ∙ ap class_type h.owned) sound.receiver env.this_value (sc.bindings (z.place.name core.receiver)) sees.this refl refl
  fixed_run c p _ sound e h w env sc sees = impossible e

  -- what is known of a plain one
  pub record Plainly (c : Context) (t : Piece) : Type 1 where
    pub alike : (w : World) (env : ir.Env) (sc : js.Scope) → Sees z.place z.code c.scope w env sc → OperandAlike z w env sc t.here.tpe t.run (shown z t.here.text)
    pub told : tells t.here.tpe (text_of z t.here.text) ≡ true
    pub fixes : t.here.fixed ≡ true → (p : core.Variable → Type 0) → Sound z.is_mutable (keeping c p) → (w : World) (env : ir.Env) (sc : js.Scope) → Sees z.place z.code c.scope w env sc → FixedOrWrong p w env sc t.here.tpe t.run t.here.text

  abbrev pub PieceDoes : Context → Destination → ℕ → Piece → Type 0
  PieceDoes c k j t = (w : World) (env : ir.Env) (s : ir.State) (sc : js.Scope) (u : js.State) → Ready z.place z.code c.scope c.writable w env sc → SameState z.place w s u → Sim z.direction (Came z.place z.code c c.scope k w sc) (t.run env s) (run z (t.here.code k j).statements sc u)

  abbrev pub runs : List Piece → List ir.Run
  runs [] = []
  runs (t ∷ ts) = t.run ∷ runs ts

  abbrev pub operands_in : List Piece → List Operand
  operands_in [] = []
  operands_in (t ∷ ts) = t.here ∷ operands_in ts

  -- the numbers that a tree's variables for operands begin with are never lower behind it
  abbrev pub Onward : Piece → Type 0
  Onward t = (k : Destination) (j : ℕ) → j ≤ (t.here.code k j).next

  -- what is known of an operand: it is plain; or it isn't, and its statements bring its value to a variable, whatever more is kept
  abbrev pub OperandDoes : Context → ℕ → Piece → Type 1
  OperandDoes c j t = ((t.here.plain ≡ true) × Plainly c t) ⊎ ((t.here.plain ≡ false) × (t.here.fixed ≡ false) × Onward t × ((p : core.Variable → Type 0) (i : ℕ) → j ≤ i → Extends c p → Sound z.is_mutable (keeping c p) → Ahead (keeping c p) i → PieceDoes (writing (keeping c p) (core.numbered i)) (to_variable (core.numbered i) (t.here.tpe)) (suc i) t))

  -- an operand that is sure: null has no meaning there
  surely_fixed : (p : core.Variable → Type 0) (w : World) (env : ir.Env) (sc : js.Scope) (t : IrType) (r : ir.Run) (e : core.Expression) → FixedOrWrong p w env sc t r e → FixedOrWrong p w env sc t (ir_meaning.receiving z.place.classes true z.low r) e
  surely_fixed p w env sc t r e (inr g) = inr (λ s. ap (λ (o : Out ir.Ended). ir.go_on o ir_meaning.never_null) (g s))
  surely_fixed p w env sc t r e (inl g) = by (null_or_given g.value)
    where
      by : (g.value ≡ ir.null) ⊎ ((env : ir.Env) (s : ir.State) → ir_meaning.never_null g.value env s ≡ ir.given g.value env s) → FixedOrWrong p w env sc t (ir_meaning.receiving z.place.classes true z.low r) e
      by (inl is) = inr (λ s. ap (λ (o : Out ir.Ended). ir.go_on o ir_meaning.never_null) (g.gives s ∙ ap (λ (v : ir.Value). ir.given v env s) is))
      by (inr is) = inl (record { value = g.value; js_value = g.js_value; gives = λ s. ap (λ (o : Out ir.Ended). ir.go_on o ir_meaning.never_null) (g.gives s) ∙ is env s; alike = g.alike; goes_on = g.goes_on })

  pub surely_does : (c : Context) (j : ℕ) (t : Piece) → OperandDoes c j t → OperandDoes c j (record { run = ir_meaning.receiving z.place.classes true z.low t.run; here = t.here })
  surely_does c j t (inl h) = inl (
    h.0,
    record {
      alike = λ w env sc sees k s u g same. never_null_alike z.direction (Valued z.place k env t.here.tpe) (t.run env s) (shown z t.here.text sc u) (h.1.alike w env sc sees k s u g same);
      told = h.1.told;
      fixes = λ e p sound w env sc sees. surely_fixed p w env sc t.here.tpe t.run t.here.text (h.1.fixes e p sound w env sc sees);
    },
  )
  surely_does c j t (inr h) = inr (h.0, h.1, h.2, λ p i l ext sound ahead w env s sc u ready same. never_null_alike z.direction (Came z.place z.code (writing (keeping c p) (core.numbered i)) (writing (keeping c p) (core.numbered i)).scope (to_variable (core.numbered i) (t.here.tpe)) w sc) (t.run env s) (run z (t.here.code (to_variable (core.numbered i) (t.here.tpe)) (suc i)).statements sc u) (h.3 p i l ext sound ahead w env s sc u ready same))

  abbrev pub OperandsDo : Context → ℕ → List Piece → Type 1
  OperandsDo c j [] = Unit {1}
  OperandsDo c j (t ∷ ts) = OperandDoes c j t × OperandsDo c j ts

  pub operands-later : (c : Context) (i j : ℕ) (ts : List Piece) → i ≤ j → OperandsDo c i ts → OperandsDo c j ts
  operands-later c i j [] h d = tt
  operands-later c i j (t ∷ ts) h (inl e, ds) = (inl e, operands-later c i j ts h ds)
  operands-later c i j (t ∷ ts) h (inr e, ds) = (inr (e.0, e.1, e.2, λ p k l. e.3 p k (omega arith)), operands-later c i j ts h ds)

  abbrev pub types : List Piece → List IrType
  types [] = []
  types (t ∷ ts) = t.here.tpe ∷ types ts

  -- what is done with the values of operands, once their statements are behind
  abbrev pub Final : Context → Destination → World → js.Scope → (core.Variable → Type 0) → ℕ → js.Scope → World → List IrType → (List ir.Value → ir.Run) → (List core.Expression → ℕ → Code) → Type 1
  Final c k from before p j start at ts act rest_of = (q : core.Variable → Type 0) (i : ℕ) (rs : List ir.Run) (es : List core.Expression) (w : World) (env : ir.Env) (s : ir.State) (sc : js.Scope) (u : js.State) → ((y : core.Variable) → p y → q y) → Sound z.is_mutable (keeping c q) → Ahead (keeping c q) i → j ≤ i → Grows at w → Ready z.place z.code c.scope c.writable w env sc → Keeps z.place c.kept before sc → Keeps z.place p start sc → SameState z.place w s u → OperandsAlike z w env sc ts rs es → Ends z lawful c c.scope k from before (ir_meaning.in_order rs act env s) (rest_of es i).statements sc u

  abbrev pub SpillDoes : Context → Destination → World → js.Scope → List Piece → Type 1
  SpillDoes c k from before ts = (p : core.Variable → Type 0) (j : ℕ) (act : List ir.Value → ir.Run) (rest_of : List core.Expression → ℕ → Code) (w : World) (env : ir.Env) (s : ir.State) (sc : js.Scope) (u : js.State) → OperandsDo c j ts → Extends c p → Sound z.is_mutable (keeping c p) → Ahead (keeping c p) j → Final c k from before p j sc w (types ts) act rest_of → Grows from w → Ready z.place z.code c.scope c.writable w env sc → Keeps z.place c.kept before sc → SameState z.place w s u → Ends z lawful c c.scope k from before (ir_meaning.in_order (runs ts) act env s) (then_use (spill (operands_in ts) j) rest_of).statements sc u

  plain_operand : (c : Context) (j : ℕ) (t : Piece) → t.here.plain ≡ true → OperandDoes c j t → Plainly c t
  plain_operand c j t e (inl h) = h.1
  plain_operand c j t e (inr h) = absurd (impossible (sym h.0 ∙ e))

  both_true : (a b : Bool) → (a && b) ≡ true → (a ≡ true) × (b ≡ true)
  both_true true b h = (refl, h)
  both_true false b h = impossible h

  pub all_plain_alike : (c : Context) (j : ℕ) (ts : List Piece) → all_plain (operands_in ts) ≡ true → OperandsDo c j ts → (w : World) (env : ir.Env) (sc : js.Scope) → Sees z.place z.code c.scope w env sc → OperandsAlike z w env sc (types ts) (runs ts) (texts (operands_in ts))
  all_plain_alike c j [] e d w env sc sees = no_operands
  all_plain_alike c j (t ∷ ts) e d w env sc sees = let h = both_true (t.here.plain) (all_plain (operands_in ts)) e in more_operands t.here.tpe t.run t.here.text (types ts) (runs ts) (texts (operands_in ts)) ((plain_operand c j t h.0 d.0).told) ((plain_operand c j t h.0 d.0).alike w env sc sees) (all_plain_alike c j ts h.1 d.1 w env sc sees)

  -- an operand's value in a variable that keeps it
  variable_alike : (y w : World) (env : ir.Env) (sc : js.Scope) (t : IrType) (x : core.Variable) (const : Bool) (v : ir.Value) (j : js.Value) → Grows y w → SameValue y t v j → sc.bindings (z.place.name x) ≡ js.holds const j → OperandAlike z w env sc t (ir.given v) (shown z (core.variable_use x))
  variable_alike y w env sc t x const v j g a e k s u h same = subst (λ q. Sim z.direction (Valued z.place k env t) (done (ir.ends (ir.gives v) env s)) q) (sym (ap (λ (cell : js.Cell). js_meaning.cell_value (js_meaning.or_outer cell (js_meaning.top_cell (owner z.place.program sc.file (z.place.name x)) (z.place.name x) u)) u) e)) (sim_done z.direction (Valued z.place k env t) (ir.ends (ir.gives v) env s) (js.gives j u) (valued k v j s u (grows-refl k) (value-lift y k t v j (grows-trans y w k g h) a) same))

  fixed_alike : (p : core.Variable → Type 0) (y w : World) (env env' : ir.Env) (sc sc' : js.Scope) (t : IrType) (r : ir.Run) (e : core.Expression) (f : FixedRun p y env sc t r e) → Grows y w → Keeps z.place p sc sc' → OperandAlike z w env' sc' t (ir.given f.value) (shown z e)
  fixed_alike p y w env env' sc sc' t r e f g ks k s u h same = subst (λ q. Sim z.direction (Valued z.place k env' t) (done (ir.ends (ir.gives f.value) env' s)) q) (sym (f.goes_on sc' u ks)) (sim_done z.direction (Valued z.place k env' t) (ir.ends (ir.gives f.value) env' s) (js.gives f.js_value u) (valued k f.value f.js_value s u (grows-refl k) (value-lift y k t f.value f.js_value (grows-trans y w k g h) f.alike) same))

  pub numbered-same : (i j : ℕ) → core.numbered i ≡ core.numbered j → i ≡ j
  numbered-same i j e = cc

  pub sound-kept : (c : Context) (p : core.Variable → Type 0) (j : ℕ) → Sound z.is_mutable (keeping c p) → Ahead (keeping c p) j → Sound z.is_mutable (keeping c (λ y. (y ≡ core.numbered j) ⊎ p y))
  sound-kept c p j sound ahead = record {
    hidden = sound.hidden;
    constant = λ x t h m. inr (sound.constant x t h m);
    changing = λ x t g k m. ⊎_elim (λ e. numbered-named x j e) (λ i. sound.changing x t g i m) k;
    alone = sound.alone;
    within = sound.within;
    aims = sound.aims;
    reached = sound.reached;
    apart = λ t y k wr. ⊎_elim (λ e. ahead.writable j (omega arith) (subst c.writable e (sound.within y wr))) (λ i. sound.apart t y i wr) k;
    receiver = inr sound.receiver;
    received = sound.received;
  }

  pub ahead-kept : (c : Context) (p : core.Variable → Type 0) (j i : ℕ) → suc j ≤ i → Ahead (keeping c p) j → Ahead (keeping c (λ y. (y ≡ core.numbered j) ⊎ p y)) i
  ahead-kept c p j i l ahead = record {
    writable = λ k h. ahead.writable k (omega arith);
    kept = λ k h. ⊎_elim (λ e. let same : k ≡ j = numbered-same k j e in absurd (omega arith)) (ahead.kept k (omega arith));
  }

  followed-associative : (a b d : core.Statements) → followed (followed a b) d ≡ followed a (followed b d)
  followed-associative core.no_statements b d = refl
  followed-associative (core.statement s ss) b d = ap (core.statement s) (followed-associative ss b d)

  -- an expression of a statement that goes on normally, and what comes behind it
  valued_seq : (F : ir.Ended → js.StatementEnd → Type 0) (w : World) (env : ir.Env) (t : IrType) (sc : js.Scope) (u : js.State) (o : Out ir.Ended) (e : core.Expression) (f : ir.Value → ir.Run) (g : js.Value → js.State → Out js.StatementEnd) (next : js.Execution) → Sim z.direction (Valued z.place w env t) o (shown z e sc u) → ThrowsOn z lawful F w env sc → ((y : World) (v : ir.Value) (x : js.Value) (s : ir.State) (u : js.State) → Grows w y → SameValue y t v x → SameState z.place y s u → Sim z.direction F (f v env s) (then_do (g x u) (js.next_statement next))) → Sim z.direction F (ir.go_on o f) (then_do (then_do (shown z e sc u) (js.in_statement sc g)) (js.next_statement next))
  valued_seq F w env t sc u o e f g next alike through goes = subst (λ x. Sim z.direction F (ir.go_on o f) x) (sym (then_do-associative (shown z e sc u) (js.in_statement sc g) (js.next_statement next))) (sim_then z.direction (Valued z.place w env t) F o (shown z e sc u) (ir.onward f) (λ b. then_do (js.in_statement sc g b) (js.next_statement next)) alike each)
    where
      each : (a : ir.Ended) (b : js.ExpressionEnd) → Valued z.place w env t a b → Sim z.direction F (ir.onward f a) (then_do (js.in_statement sc g b) (js.next_statement next))
      each _ _ (valued y v x s u h a same) = goes y v x s u h a same
      each _ _ (thrown y v x s u h a same) = sim_done z.direction F (ir.ends (ir.throws v) env s) (js.ends (js.thrown_with x) sc u) (through y v x s u h a same)

  -- all operands are plain
  spill_all : (c : Context) (k : Destination) (from : World) (before : js.Scope) (t : Piece) (ts : List Piece) → all_plain (operands_in (t ∷ ts)) ≡ true → (p : core.Variable → Type 0) (j : ℕ) (act : List ir.Value → ir.Run) (made : List core.Expression → ℕ → Code) (w : World) (env : ir.Env) (s : ir.State) (sc : js.Scope) (u : js.State) → OperandsDo c j (t ∷ ts) → Sound z.is_mutable (keeping c p) → Ahead (keeping c p) j → Final c k from before p j sc w (types (t ∷ ts)) act made → Ready z.place z.code c.scope c.writable w env sc → Keeps z.place c.kept before sc → SameState z.place w s u → Ends z lawful c c.scope k from before (ir_meaning.in_order (runs (t ∷ ts)) act env s) (made (texts (operands_in (t ∷ ts))) j).statements sc u
  spill_all c k from before t ts e p j act made w env s sc u ds sound ahead final r ks same = final p j (runs (t ∷ ts)) (texts (operands_in (t ∷ ts))) w env s sc u (λ y h. h) sound ahead (omega arith) (grows-refl w) r ks (keeps-refl z p sc) same (all_plain_alike c j (t ∷ ts) e ds w env sc r.sees)

  -- an expression that goes on to give what stands for the value, while these variables keep what they hold
  abbrev pub Lasting : (core.Variable → Type 0) → World → js.Scope → IrType → ir.Value → core.Expression → Type 0
  Lasting q y sc own v e = (w : World) (env : ir.Env) (later : js.Scope) → Grows y w → Keeps z.place q sc later → OperandAlike z w env later own (ir.given v) (shown z e)

  -- what is done behind a first operand: the IR goes on with its value, and the statements with an expression for it
  abbrev pub Onwards : Context → Destination → World → js.Scope → (core.Variable → Type 0) → ℕ → js.Scope → World → IrType → (ir.Value → ir.Run) → (core.Expression → ℕ → core.Statements) → Type 1
  Onwards c k from before p j start at own f rest = (q : core.Variable → Type 0) (i : ℕ) (v : ir.Value) (e : core.Expression) (y : World) (env : ir.Env) (s : ir.State) (sc : js.Scope) (u : js.State) → ((a : core.Variable) → p a → q a) → Extends c q → Sound z.is_mutable (keeping c q) → Ahead (keeping c q) i → j ≤ i → Grows at y → Ready z.place z.code c.scope c.writable y env sc → Keeps z.place c.kept before sc → Keeps z.place p start sc → SameState z.place y s u → tells own (text_of z e) ≡ true → (x : js.Value) → SameValue y own v x → Lasting q y sc own v e → Ends z lawful c c.scope k from before (f v env s) (rest e i) sc u

  -- a fixed operand in front of one that isn't plain
  spill_fixed : (c : Context) (k : Destination) (from : World) (before : js.Scope) (t : Piece) (f : ir.Value → ir.Run) (rest : core.Expression → ℕ → core.Statements) → t.here.fixed ≡ true → Plainly c t → (p : core.Variable → Type 0) (j : ℕ) (w : World) (env : ir.Env) (s : ir.State) (sc : js.Scope) (u : js.State) → Extends c p → Sound z.is_mutable (keeping c p) → Ahead (keeping c p) j → Onwards c k from before p j sc w t.here.tpe f rest → Ready z.place z.code c.scope c.writable w env sc → Keeps z.place c.kept before sc → SameState z.place w s u → Ends z lawful c c.scope k from before (ir.go_on (t.run env s) f) (rest t.here.text j) sc u
  spill_fixed c k from before t f rest e plain p j w env s sc u sub sound ahead on r ks same = known (plain.fixes e p sound w env sc r.sees)
    where
      known : FixedOrWrong p w env sc t.here.tpe t.run t.here.text → Ends z lawful c c.scope k from before (ir.go_on (t.run env s) f) (rest t.here.text j) sc u
      known (inr g) = subst (λ o. Ends z lawful c c.scope k from before (ir.go_on o f) (rest t.here.text j) sc u) (sym (g s)) (sim_wrong z.direction (Came z.place z.code c c.scope k from before) _)
      known (inl g) = subst (λ o. Ends z lawful c c.scope k from before (ir.go_on o f) (rest t.here.text j) sc u) (sym (g.gives s)) (on p j g.value t.here.text w env s sc u (λ a h. h) sub sound ahead (omega arith) (grows-refl w) r ks (keeps-refl z p sc) same plain.told g.js_value g.alike (λ y env' sc' h kp. fixed_alike p w y env env' sc sc' t.here.tpe t.run t.here.text g h kp))

  numbered_open : (c : Context) (p : core.Variable → Type 0) (j : ℕ) → Ahead (keeping c p) j → (x : core.Variable) → c.writable x → x ≡ core.numbered j → ⊥
  numbered_open c p j ahead x h e = ahead.writable j (omega arith) (subst c.writable e h)

  -- a plain operand that isn't fixed, in front of one that isn't plain: a constant
  spill_constant : (c : Context) (k : Destination) (from : World) (before : js.Scope) (t : Piece) (f : ir.Value → ir.Run) (rest : core.Expression → ℕ → core.Statements) → Plainly c t → (p : core.Variable → Type 0) (j : ℕ) (w : World) (env : ir.Env) (s : ir.State) (sc : js.Scope) (u : js.State) → Extends c p → Sound z.is_mutable (keeping c p) → Ahead (keeping c p) j → Onwards c k from before p j sc w t.here.tpe f rest → Grows from w → Ready z.place z.code c.scope c.writable w env sc → Keeps z.place c.kept before sc → SameState z.place w s u → Ends z lawful c c.scope k from before (ir.go_on (t.run env s) f) (core.statement (core.constant_of (Some (t.here.at)) (core.numbered j) (t.here.text)) (rest (core.variable_use (core.numbered j)) (suc j))) sc u
  spill_constant c k from before t f rest plain p j w env s sc u sub sound ahead on g r ks same = valued_seq (Came z.place z.code c c.scope k from before) w env t.here.tpe sc u (t.run env s) (t.here.text) f (λ v u. done (js.ends js.normally (js_meaning.start true (z.place.name (core.numbered j)) v sc) u)) (run z (rest (core.variable_use (core.numbered j)) (suc j))) (plain.alike w env sc r.sees w s u (grows-refl w) same) (throws-on z lawful c c.scope k from w before env sc g ks r) goes
    where
      goes : (y : World) (v : ir.Value) (x : js.Value) (s : ir.State) (u : js.State) → Grows w y → SameValue y t.here.tpe v x → SameState z.place y s u → Ends z lawful c c.scope k from before (f v env s) (rest (core.variable_use (core.numbered j)) (suc j)) (js_meaning.start true (z.place.name (core.numbered j)) x sc) u
      goes y v x s u h alike same = on (λ a. (a ≡ core.numbered j) ⊎ p a) (suc j) v (core.variable_use (core.numbered j)) y env s (js_meaning.start true (z.place.name (core.numbered j)) x sc) u (λ a b. inr b) (extends-more c p j sub) (sound-kept c p j sound ahead) (ahead-kept c p j (suc j) (omega arith) ahead) (omega arith) h (ready-lift z c.scope c.writable w y env (js_meaning.start true (z.place.name (core.numbered j)) x sc) h (started-ready z lawful c.scope c.writable true (core.numbered j) x w env sc (λ a t b. numbered-named a j) (numbered_open c p j ahead) (λ e. absurd (cc)) r)) (keeps-trans z c.kept before sc (js_meaning.start true (z.place.name (core.numbered j)) x sc) ks (started-keeps z lawful c.kept true (core.numbered j) x sc (λ b. ahead.kept j (omega arith) (sub.more (core.numbered j) b)))) (started-keeps z lawful p true (core.numbered j) x sc (ahead.kept j (omega arith))) same refl x alike (λ w' env' sc2 m kp. variable_alike y w' env' sc2 t.here.tpe (core.numbered j) true v x m alike (kp.same (core.numbered j) (inl refl) ∙ started-here z lawful true (core.numbered j) x sc))

  -- an operand that isn't plain: a variable, and the statements that bring its value there
  spill_code_does : (c : Context) (k : Destination) (from : World) (before : js.Scope) (t : Piece) (f : ir.Value → ir.Run) (rest_of : core.Expression → ℕ → core.Statements) → Onward t → (p : core.Variable → Type 0) (j : ℕ) → PieceDoes (writing (keeping c p) (core.numbered j)) (to_variable (core.numbered j) (t.here.tpe)) (suc j) t → (w : World) (env : ir.Env) (s : ir.State) (sc : js.Scope) (u : js.State) → Extends c p → Sound z.is_mutable (keeping c p) → Ahead (keeping c p) j → Onwards c k from before p j sc w t.here.tpe f rest_of → Grows from w → Ready z.place z.code c.scope c.writable w env sc → Keeps z.place c.kept before sc → SameState z.place w s u → Ends z lawful c c.scope k from before (ir.go_on (t.run env s) f) (core.statement (core.declare_of (Some (t.here.at)) (core.numbered j)) (followed (t.here.code (to_variable (core.numbered j) (t.here.tpe)) (suc j)).statements (rest_of (core.variable_use (core.numbered j)) (t.here.code (to_variable (core.numbered j) (t.here.tpe)) (suc j)).next))) sc u
  spill_code_does c k from before t f rest_of onward p j does w env s sc u sub sound ahead on g r ks same = subst (λ q. Sim z.direction (Came z.place z.code c c.scope k from before) (ir.go_on (t.run env s) f) q) (sym (run-followed z code.statements rest started u)) (sim_then z.direction (Came z.place z.code (writing (keeping c p) x) c.scope (to_variable x (t.here.tpe)) w started) (Came z.place z.code c c.scope k from before) (t.run env s) (run z code.statements started u) (ir.onward f) (js.next_statement (run z rest)) (does w env s started u (record { sees = r1.sees; «open» = open1 }) same) each)
    where
      x : core.Variable
      x = core.numbered j

      code : Code
      code = t.here.code (to_variable x (t.here.tpe)) (suc j)

      rest : core.Statements
      rest = rest_of (core.variable_use x) code.next

      started : js.Scope
      started = js_meaning.start false (z.place.name x) js.undefined sc

      r1 : Ready z.place z.code c.scope c.writable w env started
      r1 = started-ready z lawful c.scope c.writable false x js.undefined w env sc (λ a t b. numbered-named a j) (numbered_open c p j ahead) (λ e. absurd (cc)) r

      open1 : (y : core.Variable) → (y ≡ x) ⊎ c.writable y → IsOpen (started.bindings (z.place.name y))
      open1 y (inl e) = subst (λ a. IsOpen (started.bindings (z.place.name a))) (sym e) (record { value = js.undefined; is = started-here z lawful false x js.undefined sc })
      open1 y (inr h) = r1.«open» y h

      kept_here : p x → ⊥
      kept_here = ahead.kept j (omega arith)

      all_kept : (sc2 : js.Scope) → Keeps z.place (Less p (to_variable x (t.here.tpe))) started sc2 → Keeps z.place p started sc2
      all_kept sc2 k2 = keeps-fewer z (Less p (to_variable x (t.here.tpe))) p started sc2 (λ b h. (h, λ e. kept_here (subst p (sym e) h))) k2

      each : (a : ir.Ended) (b : js.StatementEnd) → Came z.place z.code (writing (keeping c p) x) c.scope (to_variable x (t.here.tpe)) w started a b → Sim z.direction (Came z.place z.code c c.scope k from before) (ir.onward f a) (js.next_statement (run z rest) b)
      each _ _ (gave y v env' s' sc2 u' _ h (stored _ _ q a e) r2 k2 states) = on (λ b. (b ≡ x) ⊎ p b) code.next v (core.variable_use x) y env' s' sc2 u' (λ a b. inr b) (extends-more c p j sub) (sound-kept c p j sound ahead) (ahead-kept c p j code.next (onward (to_variable x (t.here.tpe)) (suc j)) ahead) (omega (arith, onward (to_variable x (t.here.tpe)) (suc j))) h (record { sees = r2.sees; «open» = λ a b. r2.«open» a (inr b) }) (keeps-trans z c.kept before sc sc2 ks (keeps-trans z c.kept sc started sc2 (started-keeps z lawful c.kept false x js.undefined sc (λ b. kept_here (sub.more x b))) (keeps-fewer z p c.kept started sc2 sub.more (all_kept sc2 k2)))) (keeps-trans z p sc started sc2 (started-keeps z lawful p false x js.undefined sc kept_here) (all_kept sc2 k2)) states refl q a (λ w' env2 sc3 m kp. variable_alike y w' env2 sc3 t.here.tpe x false v q m a (kp.same x (inl refl) ∙ e))
      each _ _ (left y l v env' s' sc2 u' e reach h a r2 k2 states) = leaves_on z lawful c c.scope k from before (run z rest) y l v env' s' sc2 u' e (target_of c.targets l) refl reach (grows-trans from w y g h) a (record { sees = r2.sees; «open» = λ a b. r2.«open» a (inr b) }) (less-trans z c.kept (target_of c.targets l) before sc sc2 ks (less-trans z c.kept (target_of c.targets l) sc started sc2 (started-keeps z lawful c.kept false x js.undefined sc (λ b. kept_here (sub.more x b))) (keeps-fewer z (Less p (target_of c.targets l)) (Less c.kept (target_of c.targets l)) started sc2 (λ y i. (sub.more y i.0, i.1)) k2))) states
      each _ _ (threw y v q env' s' sc2 u' h a r2 k2 states) = sim_done z.direction (Came z.place z.code c c.scope k from before) (ir.ends (ir.throws v) env' s') (js.ends (js.thrown_with q) sc2 u') (threw y v q env' s' sc2 u' (grows-trans from w y g h) a (record { sees = r2.sees; «open» = λ a b. r2.«open» a (inr b) }) (keeps-trans z c.kept before sc sc2 ks (keeps-trans z c.kept sc started sc2 (started-keeps z lawful c.kept false x js.undefined sc (λ b. kept_here (sub.more x b))) (keeps-fewer z p c.kept started sc2 sub.more k2))) states)
      each _ _ (stopped y env' s' sc2 u' t h r2 k2 states) = sim_done z.direction (Came z.place z.code c c.scope k from before) (ir.ends ir.stops env' s') (js.ends js.breaks_nearest sc2 u') (stopped y env' s' sc2 u' t (grows-trans from w y g h) (record { sees = r2.sees; «open» = λ a b. r2.«open» a (inr b) }) (keeps-trans z c.kept before sc sc2 ks (keeps-trans z c.kept sc started sc2 (started-keeps z lawful c.kept false x js.undefined sc (λ b. kept_here (sub.more x b))) (keeps-fewer z p c.kept started sc2 sub.more k2))) states)

  -- an operand in front of others, not all of them plain, by whether it is fixed and whether it is plain; and what is written for it
  abbrev pub first_code : Bool → Bool → Operand → (core.Expression → ℕ → core.Statements) → ℕ → core.Statements
  first_code true b o rest j = rest o.text j
  first_code false true o rest j = core.statement (core.constant_of (Some o.at) (core.numbered j) o.text) (rest (core.variable_use (core.numbered j)) (suc j))
  first_code false false o rest j = core.statement (core.declare_of (Some o.at) (core.numbered j)) (followed (o.code (to_variable (core.numbered j) o.tpe) (suc j)).statements (rest (core.variable_use (core.numbered j)) (o.code (to_variable (core.numbered j) o.tpe) (suc j)).next))

  pub first-is : (f b : Bool) (o : Operand) (os : List Operand) (j : ℕ) (made : List core.Expression → ℕ → Code) → (then_use (spill_case false f b o os (spill os) j) made).statements ≡ first_code f b o (λ e i. (then_use (spill os i) (λ es. made (e ∷ es))).statements) j
  first-is true b o os j made = refl
  first-is false true o os j made = refl
  first-is false false o os j made = ap (core.statement (core.declare_of (Some o.at) (core.numbered j))) (followed-associative code.statements (spill os code.next).statements (made (core.variable_use (core.numbered j) ∷ (spill os code.next).expressions) (spill os code.next).next).statements)
    where
      code : Code
      code = o.code (to_variable (core.numbered j) o.tpe) (suc j)

  pub first_does : (c : Context) (k : Destination) (from : World) (before : js.Scope) (t : Piece) (g b : Bool) → t.here.fixed ≡ g → t.here.plain ≡ b → (p : core.Variable → Type 0) (j : ℕ) (f : ir.Value → ir.Run) (rest : core.Expression → ℕ → core.Statements) (w : World) (env : ir.Env) (s : ir.State) (sc : js.Scope) (u : js.State) → OperandDoes c j t → Extends c p → Sound z.is_mutable (keeping c p) → Ahead (keeping c p) j → Onwards c k from before p j sc w t.here.tpe f rest → Grows from w → Ready z.place z.code c.scope c.writable w env sc → Keeps z.place c.kept before sc → SameState z.place w s u → Ends z lawful c c.scope k from before (ir.go_on (t.run env s) f) (first_code g b t.here rest j) sc u
  first_does c k from before t true b e1 e2 p j f rest w env s sc u (inl d) sub sound ahead on g r ks same = spill_fixed c k from before t f rest e1 d.1 p j w env s sc u sub sound ahead on r ks same
  first_does c k from before t true b e1 e2 p j f rest w env s sc u (inr d) sub sound ahead on g r ks same = impossible (sym d.1 ∙ e1)
  first_does c k from before t false true e1 e2 p j f rest w env s sc u (inl d) sub sound ahead on g r ks same = spill_constant c k from before t f rest d.1 p j w env s sc u sub sound ahead on g r ks same
  first_does c k from before t false true e1 e2 p j f rest w env s sc u (inr d) sub sound ahead on g r ks same = impossible (sym d.0 ∙ e2)
  first_does c k from before t false false e1 e2 p j f rest w env s sc u (inl d) sub sound ahead on g r ks same = impossible (sym e2 ∙ d.0)
  first_does c k from before t false false e1 e2 p j f rest w env s sc u (inr d) sub sound ahead on g r ks same = spill_code_does c k from before t f rest d.2 p j (d.3 p j (omega arith) sub sound ahead) w env s sc u sub sound ahead on g r ks same

  -- behind a first operand come the others
  then_others : (c : Context) (k : Destination) (from : World) (before : js.Scope) (t : Piece) (ts : List Piece) → SpillDoes c k from before ts → (p : core.Variable → Type 0) (j : ℕ) (act : List ir.Value → ir.Run) (made : List core.Expression → ℕ → Code) (w : World) (sc : js.Scope) → OperandsDo c j ts → Final c k from before p j sc w (types (t ∷ ts)) act made → Grows from w → Onwards c k from before p j sc w t.here.tpe (λ v. ir_meaning.in_order (runs ts) (λ vs. act (v ∷ vs))) (λ e i. (then_use (spill (operands_in ts) i) (λ es. made (e ∷ es))).statements)
  then_others c k from before t ts others p j act made w sc ds final g q i v e y env s sc' u more sub so ah l h r kb kp same told x alike lasting = others q i (λ vs. act (v ∷ vs)) (λ es. made (e ∷ es)) y env s sc' u (operands-later c j i ts l ds) sub so ah (λ q' o rs es w' env2 s2 sc2 u2 more2 so2 ah2 m h2 r2 kb2 ks2 same2 operands. final q' o (ir.given v ∷ rs) (e ∷ es) w' env2 s2 sc2 u2 (λ a b. more2 a (more a b)) so2 ah2 (omega (arith, l, m)) (grows-trans w y w' h h2) r2 kb2 (record { same = λ a b. ks2.same a (more a b) ∙ kp.same a b }) same2 (more_operands t.here.tpe (ir.given v) e (types ts) rs es told (lasting w' env2 sc2 h2 ks2) operands)) (grows-trans from w y g h) r kb same

  -- one operand, by whether it and all behind it are plain, whether it is fixed, and whether it is plain
  spill_one : (c : Context) (k : Destination) (from : World) (before : js.Scope) (t : Piece) (ts : List Piece) → SpillDoes c k from before ts → (a f b : Bool) → (t.here.plain && all_plain (operands_in ts)) ≡ a → t.here.fixed ≡ f → t.here.plain ≡ b → (p : core.Variable → Type 0) (j : ℕ) (act : List ir.Value → ir.Run) (made : List core.Expression → ℕ → Code) (w : World) (env : ir.Env) (s : ir.State) (sc : js.Scope) (u : js.State) → OperandsDo c j (t ∷ ts) → Extends c p → Sound z.is_mutable (keeping c p) → Ahead (keeping c p) j → Final c k from before p j sc w (types (t ∷ ts)) act made → Grows from w → Ready z.place z.code c.scope c.writable w env sc → Keeps z.place c.kept before sc → SameState z.place w s u → Ends z lawful c c.scope k from before (ir_meaning.in_order (runs (t ∷ ts)) act env s) (then_use (spill_case a f b t.here (operands_in ts) (spill (operands_in ts)) j) made).statements sc u
  spill_one c k from before t ts others true f b e1 e2 e3 p j act made w env s sc u ds sub sound ahead final g r ks same = spill_all c k from before t ts e1 p j act made w env s sc u ds sound ahead final r ks same
  spill_one c k from before t ts others false f b e1 e2 e3 p j act made w env s sc u (d, ds) sub sound ahead final g r ks same = subst (λ ss. Ends z lawful c c.scope k from before (ir_meaning.in_order (runs (t ∷ ts)) act env s) ss sc u) (sym (first-is f b t.here (operands_in ts) j made)) (first_does c k from before t f b e2 e3 p j (λ v. ir_meaning.in_order (runs ts) (λ vs. act (v ∷ vs))) (λ e i. (then_use (spill (operands_in ts) i) (λ es. made (e ∷ es))).statements) w env s sc u d sub sound ahead (then_others c k from before t ts others p j act made w sc ds final g) g r ks same)

  -- what operands come to in order, their statements and expressions come to
  pub spill_does : (c : Context) (k : Destination) (from : World) (before : js.Scope) (ts : List Piece) → SpillDoes c k from before ts
  spill_does c k from before [] p j act made w env s sc u ds sub sound ahead final g r ks same = final p j [] [] w env s sc u (λ y h. h) sound ahead (omega arith) (grows-refl w) r ks (keeps-refl z p sc) same no_operands
  spill_does c k from before (t ∷ ts) p j act made w env s sc u ds sub sound ahead final g r ks same = spill_one c k from before t ts (spill_does c k from before ts) (t.here.plain && all_plain (operands_in ts)) (t.here.fixed) (t.here.plain) refl refl refl p j act made w env s sc u ds sub sound ahead final g r ks same
