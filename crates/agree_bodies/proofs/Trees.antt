-- Each tree of the forms that are built, and its statements.
use Rattle.std.proofs.Common.{◌≡◌, ℕ, suc, Bool, true, false, ◌&&◌, List, [], ◌∷◌, Some, None, Option, refl, sym, ap, ◌∙◌, subst, ◌⊎◌, inl, inr, ⊎_elim}
use Rattle.std.specs.Prelude.{ℤ}
use mathlib.Core.Path.{fun_ext}
use Rattle.outcomes.specs.Outcome.{Out, done, then_do}
use Rattle.outcomes.specs.Agreement.{Sim}
use Rattle.outcomes.proofs.Sequence.{then_do-right}
use Rattle.agree_plain_trees.specs.Meaning as ir_meaning
use Rattle.agree_plain_trees.specs.States as ir
use Rattle.agree_plain_trees.specs.World as ir_world
use Rattle.js_mean.specs.States as js
use Rattle.sj_core.specs.Terms as core
use Rattle.sj_core.specs.Views.{expressions_of}
use Rattle.agree_early_errors.specs.Coercions.{coerced_arguments}
use Rattle.agree_early_errors.specs.Desugar.{Targets, into, operands, operand, expression_of, first_of, second_of, finish, member, types_of, cases}
use Rattle.agree_early_errors.specs.Plain.{is_plain, is_fixed}
use Rattle.agree_early_errors.specs.Spill.{Destination, discard, to_variable, Code, Operand, all_plain, spill, spill_case, then_use}
use Rattle.agree_early_errors.specs.Templates.{statement_templates}
use Rattle.sj_names.specs.declared.method_names.MethodName.{MethodName}
use Rattle.sj_names.specs.declared.method_names.Namespace.{Namespace}
use Rattle.sj_trees.specs.Term.{Term, Terms, no_terms, more_terms, var_def, apply_static, binary_op, int_literal, long_literal, Cases}
use Rattle.sj_trees.specs.TypeOf.{type_of_term, binary_result}
use Rattle.sj_trees.specs.declared.operators.BinaryOp.{BinaryOp}
use Rattle.sj_trees.specs.declared.positions.Position.{Position}
use Rattle.sj_trees.specs.declared.types.IrType.{IrType}
use Rattle.agree_early_errors.specs.Rules.{left_operand}
use Rattle.agree_early_errors.specs.Operators.{DividesBy, by_int, by_long}
use Rattle.agree_plain_trees.specs.Conditions.{Plain}
use Rattle.agree_early_errors.specs.Standing.{Fits, types_referred, call_type}
use Rattle.agree_early_errors.specs.Texts.{operand_of}
use Rattle.agree_plain_trees.specs.Settings.{Setting, shown, SameState, Valued, Lawful, Holding, holding, usable}
use Rattle.agree_bodies.proofs.Blocks.{Outside}
use Rattle.agree_plain_trees.proofs.Boxes.{StandForAll, stands-for, operands_coerced, all_stood, all-stood-fit}
use Rattle.agree_plain_trees.proofs.Divisions.{divisor_of, division_act, division_alike, dividend_alone}
use Rattle.agree_bodies.proofs.Contexts.{around, Context, Writes, Sound, Ahead, Ready, Came}
use Rattle.agree_early_errors.specs.Locals.{Own, with_local}
use Rattle.agree_bodies.specs.Fine.{FitsIn, FineOperand, Fine}
use Rattle.agree_bodies.proofs.Forms.{sound-writing, ahead-writing, outside-writing, of_operands, one_final, quiet_alike, defining, sound-defining, ahead-defining, define_alike, OneFinal}
use Rattle.agree_bodies.specs.Placed.{Placed, PlacedCases}
use Rattle.agree_bodies.proofs.Placed.{once_of, once_of_cases}
use Rattle.agree_early_errors.proofs.Good.{Good, GoodCases}
use Rattle.agree_early_errors.proofs.Trees.{good, good_cases, emitted_alike}
use Rattle.agree_bodies.proofs.Parts.{definition_of}
use Rattle.agree_plain_trees.proofs.Orders.{OperandsAlike}
use Rattle.agree_plain_trees.proofs.Plain.{plain_alike, as_operand, call_alike, division_same}
use Rattle.agree_bodies.proofs.Spills.{keeping, writing, Does, Final, Piece, fixed_run, OperandDoes, OperandsDo, runs, operands_in, types}
use Rattle.agree_bodies.proofs.Statements.{finish_alike, Ends}
use Rattle.agree_plain_trees.proofs.Worlds.{World}

-- the level below: each tree of the forms that are built, and its statements, with one unit less
abbrev pub LowAlike : Setting → Type 1
LowAlike z = (c : Context) (k : Destination) (j : ℕ) (t : Term) → Sound z.is_mutable c → Ahead c j → Outside c (Own t) → Writes c.written k → Fine z.place.typing z.is_mutable (usable z) z.code c.scope (around c) k t → (w : World) (env : ir.Env) (s : ir.State) (sc : js.Scope) (u : js.State) → Ready z.place z.code c.scope c.writable w env sc → SameState z.place w s u → Sim z.direction (Came z.place z.code c c.scope k w sc) (z.low t env s) (z.js_low (statement_templates z.place.name z.place.label (usable z).lookup (into z.is_mutable z.code.sure c.targets k j t).statements) sc u)

-- what is written for a tree in which each local is defined once, wherever its values go
pub written : (is_mutable sure : List ℕ → Bool) (to : List ℕ → Type 0) (may : Type 0) (ls : Targets) (t : Term) (k : Destination) (j : ℕ) {around : List (List ℕ)} → Placed to may around t → Good (Own t) around false j (into is_mutable sure ls k j t)
written is_mutable sure to may ls t k j {around} placed = good is_mutable sure t around ls around false k j (once_of to may around t placed) (emitted_alike around ls)

pub written_cases : (is_mutable sure : List ℕ → Bool) (to : List ℕ → Type 0) (may : Type 0) (ls : Targets) (cs : Cases) (k : Destination) (j : ℕ) {around : List (List ℕ)} → PlacedCases to may around cs → GoodCases around j (cases is_mutable sure ls k j cs)
written_cases is_mutable sure to may ls cs k j {around} placed = good_cases is_mutable sure cs around ls around k j (once_of_cases to may around cs placed) (emitted_alike around ls)

pub outside-part : (c : Context) (own part : List ℕ → Type 0) → ((x : List ℕ) → part x → own x) → Outside c own → Outside c part
outside-part c own part h out = record { scope = λ x t i. out.scope x t (h x i); writable = λ x i. out.writable x (h x i); kept = λ x i. out.kept x (h x i) }

-- the context behind the definition of a local
abbrev pub behind : Setting → Context → List ℕ → IrType → Context
behind z c x t = record { scope = with_local x t c.scope; writable = c.writable; written = c.written; kept = λ y. ((y ≡ core.named x) × (z.is_mutable x ≡ false)) ⊎ c.kept y; targets = c.targets; reaches = c.reaches; tries = c.tries; turning = c.turning }

onward-given : (e : ir.Ended) → ir.onward ir.given e ≡ done e
onward-given (ir.ends (ir.gives v) env s) = refl
onward-given (ir.ends (ir.throws v) env s) = refl
onward-given (ir.ends (ir.leaves l v) env s) = refl
onward-given (ir.ends ir.stops env s) = refl

pub go_on-given : (o : Out ir.Ended) → ir.go_on o ir.given ≡ o
go_on-given o = ap (then_do o) (fun_ext onward-given) ∙ then_do-right o

module _ (z : Setting) (lawful : Lawful z) (low : LowAlike z) where
  abbrev pub FineHere : Context → Destination → Term → Type 0
  FineHere c k t = Fine z.place.typing z.is_mutable (usable z) z.code c.scope (around c) k t

  -- the theorem on one tree
  abbrev pub TreeDoes : Term → Type 1
  TreeDoes t = (c : Context) (k : Destination) (j : ℕ) → Sound z.is_mutable c → Ahead c j → Outside c (Own t) → Writes c.written k → FineHere c k t → Does z lawful c k j t

  -- a tree as an operand
  abbrev pub piece : Targets → Term → Piece
  piece ls t = record { run = ir_meaning.step z.place.classes z.low t; here = operand z.is_mutable z.code.sure t (λ k j. into z.is_mutable z.code.sure ls k j t) }

  pub operand_does : (c : Context) (j : ℕ) (t : Term) → TreeDoes t → Outside c (Own t) → FineOperand z.place.typing z.is_mutable (usable z) z.code c.scope t (λ y. FineHere c (to_variable y (type_of_term t)) t) → OperandDoes z lawful c j (piece c.targets t)
  operand_does c j t does out (inl h) = inl (h.plain, record { alike = λ w env sc sees. as_operand z lawful c.scope t (plain_alike z lawful c.scope t h).alike w env sc sees; told = (plain_alike z lawful c.scope t h).told; fixes = λ e p sound w env sc sees. fixed_run z lawful c p t sound e h w env sc sees })
  operand_does c j t does out (inr h) = inr (h.0, h.1, (λ k i. (written z.is_mutable z.code.sure c.reaches c.tries c.targets t k i (h.2 (core.numbered j)).once).onward), λ p i l ext sound ahead. does (writing (keeping c p) (core.numbered i)) (to_variable (core.numbered i) (type_of_term t)) (suc i) (sound-writing z lawful (keeping c p) i sound ahead) (ahead-writing z lawful (keeping c p) i ahead) (outside-writing z lawful c p i (Own t) ext out) (inl refl) (h.2 (core.numbered i)))

  -- a definition by what is known of its right side
  pub define_does : (p : Position) (x : List ℕ) (t : IrType) (b : Bool) (e : Term) → TreeDoes e → (c : Context) (j : ℕ) → Sound z.is_mutable c → Ahead c j → Outside c (Own (var_def p x t b e)) → FineHere c discard (var_def p x t b e) → (w : World) (env : ir.Env) (s : ir.State) (sc : js.Scope) (u : js.State) → Ready z.place z.code c.scope c.writable w env sc → SameState z.place w s u → Ends z lawful c (with_local x t c.scope) discard w sc (ir_meaning.step z.place.classes z.low (var_def p x t b e) env s) (into z.is_mutable z.code.sure c.targets discard j (var_def p x t b e)).statements sc u
  define_does p x t b e does c j sound ahead out fine = define_alike z lawful c p x t (type_of_term e) (ir_meaning.step z.place.classes z.low e) (expression_of z.code.sure e) (into z.is_mutable z.code.sure c.targets (to_variable (core.named x) t) j e) j (is_plain e) sound (λ i. out.scope x i (inl refl)) (out.writable x (inl refl)) (out.kept x (inl refl)) (⊎_elim (λ h. inl (h.0.plain, stands-for z lawful t (type_of_term e) h.1 h.2, λ w env sc sees. as_operand z lawful c.scope e (plain_alike z lawful c.scope e h.0).alike w env sc sees)) (λ h. inr (h.0, does (defining z lawful c x) (to_variable (core.named x) t) j (sound-defining z lawful c x sound (λ i. out.scope x i (inl refl)) (out.kept x (inl refl))) (ahead-defining z lawful c x j ahead) (record { scope = λ y i o. out.scope y i (inr o); writable = λ y o wr. ⊎_elim (λ i. fine.typed.0.finds.1 (subst (Own e) (cc) o)) (out.writable y (inr o)) wr; kept = λ y o. out.kept y (inr o) }) (inl refl) h.1)) (definition_of z.place.typing lawful.base.ordered z.is_mutable (usable z) z.code c.scope (around c) discard p x t b e fine))

  pub quiet : (t : Term) (c : Context) (k : Destination) (p : Position) (e : core.Expression) (j : ℕ) (v : ir.Env → ir.Value) → Sound z.is_mutable c → Writes c.written k → FitsIn (usable z) k (type_of_term t) → Plain z.place.typing (usable z) z.code c.scope t → expression_of z.code.sure t ≡ e → ((w : World) (env : ir.Env) (s : ir.State) (sc : js.Scope) → Ready z.place z.code c.scope c.writable w env sc → ir_meaning.step z.place.classes z.low t env s ≡ done (ir.ends (ir.gives (v env)) env s)) → (w : World) (env : ir.Env) (s : ir.State) (sc : js.Scope) (u : js.State) → Ready z.place z.code c.scope c.writable w env sc → SameState z.place w s u → Ends z lawful c c.scope k w sc (ir_meaning.step z.place.classes z.low t env s) (finish k p (type_of_term t) true e j).statements sc u
  quiet t c k p e j v sound wr fits plain is at w env s sc u r same = quiet_alike z lawful c k p (type_of_term t) e j sound wr fits w env s sc u (ir_meaning.step z.place.classes z.low t env s) (v env) (at w env s sc r) r same (subst (λ d. Sim z.direction (Valued z.place w env (type_of_term t)) (ir_meaning.step z.place.classes z.low t env s) (shown z d sc u)) is ((plain_alike z lawful c.scope t plain).alike w env s sc u r.sees same))

  abbrev pub value_of : Option ir.Value → ir.Value
  value_of None = ir.undefined
  value_of (Some v) = v

  pub local_at : (w : World) (t : IrType) (o : Option ir.Value) (cell : js.Cell) (env : ir.Env) (s : ir.State) → Holding w t o cell → ir_meaning.local_value o env s ≡ done (ir.ends (ir.gives (value_of o)) env s)
  local_at w t _ _ env s (holding v x a) = refl

  pub finish_one : (c : Context) (k : Destination) (p : Position) (own t : IrType) (act : List ir.Value → ir.Run) (f : core.Expression → core.Expression) (j : ℕ) → Sound z.is_mutable c → Writes c.written k → FitsIn (usable z) k t → ((r : ir.Run) (e : core.Expression) (w : World) (env : ir.Env) (s : ir.State) (sc : js.Scope) (u : js.State) → OperandsAlike z w env sc (own ∷ []) (r ∷ []) (e ∷ []) → SameState z.place w s u → Sim z.direction (Valued z.place w env t) (ir_meaning.in_order (r ∷ []) act env s) (shown z (f e) sc u)) → (w : World) (sc : js.Scope) → OneFinal z lawful c k w sc j own act (λ es. finish k p t false (f (first_of es)))
  finish_one c k p own t act f j sound wr fits alike from before i r e w env s sc u ahead l g ready ks same operand = finish_alike z lawful c k p t (f e) i sound wr fits w from before env (ir_meaning.in_order (r ∷ []) act env s) sc u g ks ready s same (alike r e w env s sc u operand same)

  -- a divisor that is a literal stays where it stands
  abbrev Divided : Bool → Bool → Operand → Targets → Destination → Position → BinaryOp → ℕ → Term → (core.Expression → core.Expression → core.Expression) → Type 0
  Divided f b o ls k p op j d made = then_use (spill_case (b && all_plain (operand z.is_mutable z.code.sure d (λ k j. into z.is_mutable z.code.sure ls k j d) ∷ [])) f b o (operand z.is_mutable z.code.sure d (λ k j. into z.is_mutable z.code.sure ls k j d) ∷ []) (spill (operand z.is_mutable z.code.sure d (λ k j. into z.is_mutable z.code.sure ls k j d) ∷ [])) j) (λ es. finish k p (binary_result op) false (made (first_of es) (second_of es))) ≡ then_use (spill_case (b && true) f b o [] (spill []) j) (λ es. finish k p (binary_result op) false (made (first_of es) (expression_of z.code.sure d)))

  int_stays : (f b : Bool) (o : Operand) (q : Position) (n : ℤ) (ls : Targets) (k : Destination) (p : Position) (op : BinaryOp) (j : ℕ) (made : core.Expression → core.Expression → core.Expression) → Divided f b o ls k p op j (int_literal q n) made
  int_stays f true o q n ls k p op j made = refl
  int_stays true false o q n ls k p op j made = refl
  int_stays false false o q n ls k p op j made = refl

  long_stays : (f b : Bool) (o : Operand) (q : Position) (n : ℤ) (ls : Targets) (k : Destination) (p : Position) (op : BinaryOp) (j : ℕ) (made : core.Expression → core.Expression → core.Expression) → Divided f b o ls k p op j (long_literal q n) made
  long_stays f true o q n ls k p op j made = refl
  long_stays true false o q n ls k p op j made = refl
  long_stays false false o q n ls k p op j made = refl

  divisor_stays : (o : BinaryOp) (d : Term) → DividesBy o d → (f b : Bool) (e : Operand) (ls : Targets) (k : Destination) (p : Position) (j : ℕ) (made : core.Expression → core.Expression → core.Expression) → Divided f b e ls k p o j d made
  divisor_stays _ _ (by_int o i q n g ne) f b e ls k p j made = int_stays f b e q n ls k p o j made
  divisor_stays _ _ (by_long o i q n g ne) f b e ls k p j made = long_stays f b e q n ls k p o j made

  -- arguments as a list
  abbrev pub list_of : Targets → Terms → List Piece
  list_of ls no_terms = []
  list_of ls (more_terms t ts) = piece ls t ∷ list_of ls ts

  pub operands-list : (ls : Targets) (ts : Terms) → operands z.is_mutable z.code.sure ls ts ≡ operands_in z lawful (list_of ls ts)
  operands-list ls no_terms = refl
  operands-list ls (more_terms t ts) = ap (λ os. operand z.is_mutable z.code.sure t (λ k j. into z.is_mutable z.code.sure ls k j t) ∷ os) (operands-list ls ts)

  pub runs-list : (ls : Targets) (ts : Terms) → ir_meaning.operands z.place.classes z.low ts ≡ runs z lawful (list_of ls ts)
  runs-list ls no_terms = refl
  runs-list ls (more_terms t ts) = ap (λ rs. ir_meaning.step z.place.classes z.low t ∷ rs) (runs-list ls ts)

  pub types-list : (ls : Targets) (ts : Terms) → types_of ts ≡ types z lawful (list_of ls ts)
  types-list ls no_terms = refl
  types-list ls (more_terms t ts) = ap (λ is. type_of_term t ∷ is) (types-list ls ts)

  -- a call, by what is known of its arguments
  pub call_does : (p : Position) (c : Context) (k : Destination) (j : ℕ) (m : MethodName) (cn : List ℕ) (n : Namespace) (ts : Terms) (t : IrType) → Sound z.is_mutable c → Ahead c j → Writes c.written k → FitsIn (usable z) k t → (usable z).linked (member cn n m) ≡ true → t ≡ call_type m.result → StandForAll z (types_referred m.params) (types_of ts) → OperandsDo z lawful c j (list_of c.targets ts) → Does z lawful c k j (apply_static p cn n m ts t)
  call_does p c k j m cn n ts t sound ahead wr fits linked is fit ds w env s sc u r same = subst (λ os. Ends z lawful c c.scope k w sc (ir_meaning.in_order (ir_meaning.operands z.place.classes z.low ts) act env s) (then_use (spill os j) made).statements sc u) (sym (operands-list c.targets ts)) (subst (λ rs. Ends z lawful c c.scope k w sc (ir_meaning.in_order rs act env s) (then_use (spill (operands_in z lawful (list_of c.targets ts)) j) made).statements sc u) (sym (runs-list c.targets ts)) (of_operands z lawful c k (list_of c.targets ts) j act made sound ahead ds final w env s sc u r same))
    where
      act : List ir.Value → ir.Run
      act = ir_meaning.call z.low (ir_world.member_of z.place.classes cn n m) None

      made : List core.Expression → ℕ → Code
      made es = finish k p t false (core.static_call (member cn n m) (expressions_of (coerced_arguments m.params (types_of ts) es)))

      final : (w : World) (sc : js.Scope) → Final z lawful c k w sc c.kept j sc w (types z lawful (list_of c.targets ts)) act made
      final from before q i rs es w env s sc u more so ah l g ready kb ks same alike = finish_alike z lawful c k p t (core.static_call (member cn n m) (expressions_of (coerced_arguments m.params (types_of ts) es))) i sound wr fits w from before env (ir_meaning.in_order rs act env s) sc u g kb ready s same (subst (λ i. Sim z.direction (Valued z.place w env i) (ir_meaning.in_order rs act env s) (shown z (core.static_call (member cn n m) (expressions_of (coerced_arguments m.params (types_of ts) es))) sc u)) (sym is) (call_alike z lawful c.scope (member cn n m) (all_stood (types_referred m.params) (types_of ts) fit.0) rs (coerced_arguments m.params (types_of ts) es) (coerced_arguments m.params (types_of ts) es) refl linked (all-stood-fit (types_referred m.params) (types_of ts) fit.0) w env s sc u ready.sees.inside (operands_coerced z lawful.base w env sc ready.sees.inside m.params (types_of ts) rs es fit.0 fit.1 (subst (λ is. OperandsAlike z w env sc is rs es) (sym (types-list c.targets ts)) alike)) same))

  -- a division, by what is known of its dividend
  pub division_does : (p : Position) (c : Context) (k : Destination) (j : ℕ) (o : BinaryOp) (e d : Term) → DividesBy o d → Fits (left_operand o) (type_of_term e) → Sound z.is_mutable c → Ahead c j → Writes c.written k → FitsIn (usable z) k (binary_result o) → OperandDoes z lawful c j (piece c.targets e) → Does z lawful c k j (binary_op p o e d)
  division_does p c k j o e d by fit sound ahead wr fits dividend w env s sc u r same = subst (λ x. Ends z lawful c c.scope k w sc x (into z.is_mutable z.code.sure c.targets k j (binary_op p o e d)).statements sc u) (sym (dividend_alone z o d by (ir_meaning.step z.place.classes z.low e) env s)) (subst (λ code. Ends z lawful c c.scope k w sc (ir_meaning.in_order (ir_meaning.step z.place.classes z.low e ∷ []) (division_act z o (divisor_of d)) env s) code.statements sc u) (sym (divisor_stays o d by (is_fixed z.is_mutable e) (is_plain e) (operand z.is_mutable z.code.sure e (λ k j. into z.is_mutable z.code.sure c.targets k j e)) c.targets k p j made)) (of_operands z lawful c k (piece c.targets e ∷ []) j (division_act z o (divisor_of d)) (λ es. finish k p (binary_result o) false (made (first_of es) (expression_of z.code.sure d))) sound ahead (dividend, tt) (one_final z lawful c k j (type_of_term e) (division_act z o (divisor_of d)) (λ es. finish k p (binary_result o) false (made (first_of es) (expression_of z.code.sure d))) (finish_one c k p (type_of_term e) (binary_result o) (division_act z o (divisor_of d)) (λ x. made x (expression_of z.code.sure d)) j sound wr fits (λ a x w env s sc u alike same. subst (λ g. Sim z.direction (Valued z.place w env (binary_result o)) (ir_meaning.in_order (a ∷ []) (division_act z o (divisor_of d)) env s) (shown z g sc u)) (sym (division_same z lawful c.scope o d by (type_of_term e) (type_of_term d) x (expression_of z.code.sure d))) (division_alike z o d by (type_of_term e) fit a x w env s sc u alike same)))) w env s sc u r same))
    where
      made : core.Expression → core.Expression → core.Expression
      made x y = core.binary_of o (operand_of o (type_of_term e) x) (operand_of o (type_of_term d) y)
