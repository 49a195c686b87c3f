-- Loops: a turn, and the next with one unit less.
use Rattle.std.proofs.Common.{◌≡◌, ℕ, ◌≤◌, true, false, List, [], ◌∷◌, Some, None, refl, sym, ap, ◌∙◌, subst}
use Rattle.outcomes.specs.Outcome.{Out, done, then_do}
use Rattle.outcomes.specs.Agreement.{Sim}
use Rattle.outcomes.proofs.Sequence.{then_do-associative}
use Rattle.outcomes.proofs.Simulation.{sim_done, sim_wrong, sim_then}
use Rattle.agree_plain_trees.specs.Meaning as ir_meaning
use Rattle.agree_plain_trees.specs.States as ir
use Rattle.js_mean.specs.Meaning as js_meaning
use Rattle.js_mean.specs.States as js
use Rattle.sj_core.specs.Terms as core
use Rattle.agree_early_errors.specs.Coercions.{is_char}
use Rattle.agree_early_errors.specs.Desugar.{target_of, first_of, wrapped, break_unless}
use Rattle.agree_early_errors.specs.Spill.{Destination, discard, Code, put_first}
use Rattle.agree_early_errors.specs.Templates.{statement_templates}
use Rattle.sj_trees.specs.declared.positions.Position.{Position}
use Rattle.agree_plain_trees.specs.Settings.{Setting, shown, run, SameState, Valued, valued, thrown, Lawful, usable}
use Rattle.agree_bodies.proofs.Blocks.{Undeclared, block_alike}
use Rattle.agree_bodies.proofs.Contexts.{Context, Sound, Ahead, Ready, ready-lift, Keeps, Less, keeps-less, keeps-all, keeps-refl, Arrives, let_go, stored, returned, Came, gave, left, threw, stopped}
use Rattle.agree_bodies.specs.Fine.{IsDiscard, is_discard}
use Rattle.agree_bodies.proofs.Forms.{OneFinal, rebased}
use Rattle.agree_plain_trees.proofs.Orders.{OperandAlike, no_operands, more_operands}
use Rattle.sj_trees.specs.declared.types.IrType.{IrType}
use Rattle.agree_bodies.proofs.Statements.{act_of, ends-one, throws-on, Ends}
use Rattle.agree_plain_trees.proofs.Worlds.{World, Grows, grows-refl, grows-trans, Stands, same_boolean}

-- the context of a loop's turn: its condition may not hold any more where the loop's value is given up
abbrev pub in_turn : Context → Destination → Context
in_turn c k = record { scope = c.scope; writable = c.writable; written = c.written; kept = c.kept; targets = c.targets; reaches = c.reaches; tries = c.tries; turning = IsDiscard k }

-- a condition that doesn't hold ends a loop
abbrev pub stop : ir.Run
stop env s = done (ir.ends ir.stops env s)

module _ (z : Setting) (lawful : Lawful z) where
  -- a tree and its statements with one unit less
  abbrev pub Alike : Context → Destination → ir.Run → js.Execution → Type 0
  Alike c k r x = (w : World) (env : ir.Env) (s : ir.State) (sc : js.Scope) (u : js.State) → Ready z.place z.code c.scope c.writable w env sc → SameState z.place w s u → Sim z.direction (Came z.place z.code c c.scope k w sc) (r env s) (x sc u)

  passes : (c : Context) (k : Destination) (w : World) (sc : js.Scope) (next : js.Execution) (y : World) (l : List ℕ) (v : ir.Value) (env : ir.Env) (s : ir.State) (sc' : js.Scope) (u : js.State) (e : js.Completion) (d : Destination) → target_of c.targets l ≡ d → c.reaches l → Grows w y → Arrives z.place y v sc' (js.breaks (z.place.label l)) d e → Ready z.place z.code c.scope c.writable y env sc' → Keeps z.place (Less c.kept (target_of c.targets l)) sc sc' → SameState z.place y s u → Sim z.direction (Came z.place z.code c c.scope k w sc) (done (ir.ends (ir.leaves l v) env s)) (js_meaning.next_turn next (js.ends e sc' u))
  passes c k w sc next y l v env s sc' u _ _ t reach g let_go r ks same = sim_done z.direction (Came z.place z.code c c.scope k w sc) (ir.ends (ir.leaves l v) env s) (js.ends (js.breaks (z.place.label l)) sc' u) (left y l v env s sc' u (js.breaks (z.place.label l)) reach g (subst (λ d. Arrives z.place y v sc' (js.breaks (z.place.label l)) d (js.breaks (z.place.label l))) (sym t) let_go) r ks same)
  passes c k w sc next y l v env s sc' u _ _ t reach g (stored x i j q h) r ks same = sim_done z.direction (Came z.place z.code c c.scope k w sc) (ir.ends (ir.leaves l v) env s) (js.ends (js.breaks (z.place.label l)) sc' u) (left y l v env s sc' u (js.breaks (z.place.label l)) reach g (subst (λ d. Arrives z.place y v sc' (js.breaks (z.place.label l)) d (js.breaks (z.place.label l))) (sym t) (stored x i j q h)) r ks same)
  passes c k w sc next y l v env s sc' u _ _ t reach g (returned i j q) r ks same = sim_done z.direction (Came z.place z.code c c.scope k w sc) (ir.ends (ir.leaves l v) env s) (js.ends (js.returns j) sc' u) (left y l v env s sc' u (js.returns j) reach g (subst (λ d. Arrives z.place y v sc' (js.breaks (z.place.label l)) d (js.returns j)) (sym t) (returned i j q)) r ks same)

  stops_here : (c : Context) (k : Destination) → IsDiscard k → (w y : World) (env : ir.Env) (s : ir.State) (sc sc' : js.Scope) (u : js.State) → Grows w y → Ready z.place z.code c.scope c.writable y env sc' → Keeps z.place c.kept sc sc' → SameState z.place y s u → Sim z.direction (Came z.place z.code c c.scope k w sc) (ir.given ir.undefined env s) (done (js.ends js.normally sc' u))
  stops_here c _ is_discard w y env s sc sc' u g r ks same = sim_done z.direction (Came z.place z.code c c.scope discard w sc) (ir.ends (ir.gives ir.undefined) env s) (js.ends js.normally sc' u) (gave y ir.undefined env s sc' u js.normally g let_go r (keeps-less z c.kept discard sc sc' ks) same)

  -- behind a turn comes the next, unless the condition doesn't hold any more
  turns : (c : Context) (k : Destination) (next : ir.Run) (js_next : js.Execution) → Alike c k next js_next → (w : World) (sc : js.Scope) (a : ir.Ended) (b : js.StatementEnd) → Came z.place z.code (in_turn c k) c.scope discard w sc a b → Sim z.direction (Came z.place z.code c c.scope k w sc) (ir_meaning.after_turn next a) (js_meaning.next_turn js_next b)
  turns c k next js_next low w sc _ _ (gave y v env s sc' u _ g let_go r ks same) = rebased z lawful c c.scope k w y sc sc' (next env s) (js_next sc' u) g (keeps-all z c.kept sc sc' ks) (low y env s sc' u r same)
  turns c k next js_next low w sc _ _ (left y l v env s sc' u e reach g a r ks same) = passes c k w sc js_next y l v env s sc' u e (target_of c.targets l) refl reach g a r ks same
  turns c k next js_next low w sc _ _ (threw y v x env s sc' u g a r ks same) = sim_done z.direction (Came z.place z.code c c.scope k w sc) (ir.ends (ir.throws v) env s) (js.ends (js.thrown_with x) sc' u) (threw y v x env s sc' u g a r ks same)
  turns c k next js_next low w sc _ _ (stopped y env s sc' u t g r ks same) = stops_here c k t w y env s sc sc' u g r ks same

  pub sound-turn : (c : Context) (k : Destination) → Sound z.is_mutable c → Sound z.is_mutable (in_turn c k)
  sound-turn c k sound = record { hidden = sound.hidden; constant = sound.constant; changing = sound.changing; alone = sound.alone; within = sound.within; aims = sound.aims; reached = sound.reached; apart = sound.apart; receiver = sound.receiver; received = sound.received }

  pub undeclared-turn : (c : Context) (k : Destination) (ss : core.Statements) → Undeclared c ss → Undeclared (in_turn c k) ss
  undeclared-turn c k ss h = record { scope = h.scope; writable = h.writable; kept = h.kept; receiver = h.receiver }

  pub ahead-turn : (c : Context) (k : Destination) (j : ℕ) → Ahead c j → Ahead (in_turn c k) j
  ahead-turn c k j h = record { writable = h.writable; kept = h.kept }

  -- a turn whose statements stand in a block, and the turns behind it
  pub turn_alike : (c : Context) (k : Destination) (turn next : ir.Run) (ss : core.Statements) (js_next : js.Execution) → Sound z.is_mutable c → Undeclared c ss → Alike (in_turn c k) discard turn (run z ss) → Alike c k next js_next → (w : World) (env : ir.Env) (s : ir.State) (sc : js.Scope) (u : js.State) → Ready z.place z.code c.scope c.writable w env sc → SameState z.place w s u → Sim z.direction (Came z.place z.code c c.scope k w sc) (then_do (turn env s) (ir_meaning.after_turn next)) (then_do (js_meaning.in_block (statement_templates z.place.name z.place.label (usable z).lookup ss) (run z ss) sc u) (js_meaning.next_turn js_next))
  turn_alike c k turn next ss js_next sound free does low w env s sc u ready same = sim_then z.direction (Came z.place z.code (in_turn c k) c.scope discard w sc) (Came z.place z.code c c.scope k w sc) (turn env s) (js_meaning.in_block (statement_templates z.place.name z.place.label (usable z).lookup ss) (run z ss) sc u) (ir_meaning.after_turn next) (js_meaning.next_turn js_next) (block_alike z lawful (in_turn c k) ss (undeclared-turn c k ss free) discard w env sc u (turn env s) (sound-turn c k sound) tt ready (λ inner. does w env s (js_meaning.enter (statement_templates z.place.name z.place.label (usable z).lookup ss) sc) u inner same)) (turns c k next js_next low w sc)

  -- `while` with a plain condition: it is evaluated at the head of each turn
  pub while_alike : (c : Context) (p : Position) (own : IrType) (r body next : ir.Run) (e : core.Expression) (code : Code) (js_next : js.Execution) → Sound z.is_mutable c → Undeclared c code.statements → ((w : World) (env : ir.Env) (sc : js.Scope) → Ready z.place z.code c.scope c.writable w env sc → OperandAlike z w env sc own r (shown z e)) → Alike (in_turn c discard) discard body (run z code.statements) → Alike c discard next js_next → ((sc : js.Scope) (u : js.State) → js_next sc u ≡ z.js_low (statement_templates z.place.name z.place.label (usable z).lookup (wrapped (core.while_of (Some p) e) code).statements) sc u) → (w : World) (env : ir.Env) (s : ir.State) (sc : js.Scope) (u : js.State) → Ready z.place z.code c.scope c.writable w env sc → SameState z.place w s u → Ends z lawful c c.scope discard w sc (then_do (ir_meaning.in_order (r ∷ []) (ir_meaning.branch body stop) env s) (ir_meaning.after_turn next)) (wrapped (core.while_of (Some p) e) code).statements sc u
  while_alike c p own r body next e code js_next sound free operand does low is w env s sc u ready same = ends-one z lawful c c.scope discard w sc (then_do (ir_meaning.in_order (r ∷ []) (ir_meaning.branch body stop) env s) (ir_meaning.after_turn next)) (core.while_of (Some p) e code.statements) sc u (subst (λ o. Sim z.direction (Came z.place z.code c c.scope discard w sc) o (act_of z (core.while_of (Some p) e code.statements) sc u)) (sym (then_do-associative (r env s) (ir.onward (λ v. ir_meaning.in_order [] (λ vs. ir_meaning.branch body stop (v ∷ vs)))) (ir_meaning.after_turn next))) (sim_then z.direction (Valued z.place w env own) (Came z.place z.code c c.scope discard w sc) (r env s) (shown z e sc u) (λ a. then_do (ir.onward (λ v. ir_meaning.in_order [] (λ vs. ir_meaning.branch body stop (v ∷ vs))) a) (ir_meaning.after_turn next)) (js.in_statement sc (λ v. js_meaning.taken (λ sc s. then_do (js_meaning.in_block (statement_templates z.place.name z.place.label (usable z).lookup code.statements) (run z code.statements) sc s) (js_meaning.next_turn low_js)) js_meaning.nothing v sc)) (operand w env sc ready w s u (grows-refl w) same) each))
    where
      low_js : js.Execution
      low_js = z.js_low (statement_templates z.place.name z.place.label (usable z).lookup (wrapped (core.while_of (Some p) e) code).statements)

      alike_low : Alike c discard next low_js
      alike_low w env s sc u ready same = subst (λ o. Sim z.direction (Came z.place z.code c c.scope discard w sc) (next env s) o) (is sc u) (low w env s sc u ready same)

      goes : (y : World) (v : ir.Value) (x : js.Value) (s : ir.State) (u : js.State) → Grows w y → Stands y (is_char own) v x → SameState z.place y s u → Sim z.direction (Came z.place z.code c c.scope discard w sc) (then_do (ir_meaning.branch body stop (v ∷ []) env s) (ir_meaning.after_turn next)) (js_meaning.taken (λ sc s. then_do (js_meaning.in_block (statement_templates z.place.name z.place.label (usable z).lookup code.statements) (run z code.statements) sc s) (js_meaning.next_turn low_js)) js_meaning.nothing x sc u)
      goes y _ _ s u g (same_boolean true) same = rebased z lawful c c.scope discard w y sc sc (then_do (body env s) (ir_meaning.after_turn next)) (then_do (js_meaning.in_block (statement_templates z.place.name z.place.label (usable z).lookup code.statements) (run z code.statements) sc u) (js_meaning.next_turn low_js)) g (keeps-refl z c.kept sc) (turn_alike c discard body next code.statements low_js sound free does alike_low y env s sc u (ready-lift z c.scope c.writable w y env sc g ready) same)
      goes y _ _ s u g (same_boolean false) same = stops_here c discard is_discard w y env s sc sc u g (ready-lift z c.scope c.writable w y env sc g ready) (keeps-refl z c.kept sc) same
      goes y _ _ s u g _ same = sim_wrong z.direction (Came z.place z.code c c.scope discard w sc) _

      each : (a : ir.Ended) (b : js.ExpressionEnd) → Valued z.place w env own a b → Sim z.direction (Came z.place z.code c c.scope discard w sc) (then_do (ir.onward (λ v. ir_meaning.in_order [] (λ vs. ir_meaning.branch body stop (v ∷ vs))) a) (ir_meaning.after_turn next)) (js.in_statement sc (λ v. js_meaning.taken (λ sc s. then_do (js_meaning.in_block (statement_templates z.place.name z.place.label (usable z).lookup code.statements) (run z code.statements) sc s) (js_meaning.next_turn low_js)) js_meaning.nothing v sc) b)
      each _ _ (valued y v x s u g a same) = goes y v x s u g a.stands same
      each _ _ (thrown y v x s u g a same) = sim_done z.direction (Came z.place z.code c c.scope discard w sc) (ir.ends (ir.throws v) env s) (js.ends (js.thrown_with x) sc u) (throws-on z lawful c c.scope discard w w sc env sc (grows-refl w) (keeps-refl z c.kept sc) ready y v x s u g a same)

  -- a turn that is its block: `while (true)` and `do`
  pub forever_alike : (c : Context) (k : Destination) (p : Position) (turn next : ir.Run) (code : Code) (st : core.Statement) → Sound z.is_mutable c → Undeclared c code.statements → Alike (in_turn c k) discard turn (run z code.statements) → Alike c k next (z.js_low (statement_templates z.place.name z.place.label (usable z).lookup (core.statement st core.no_statements))) → ((sc : js.Scope) (u : js.State) → act_of z st sc u ≡ then_do (js_meaning.in_block (statement_templates z.place.name z.place.label (usable z).lookup code.statements) (run z code.statements) sc u) (js_meaning.next_turn (z.js_low (statement_templates z.place.name z.place.label (usable z).lookup (core.statement st core.no_statements))))) → (w : World) (env : ir.Env) (s : ir.State) (sc : js.Scope) (u : js.State) → Ready z.place z.code c.scope c.writable w env sc → SameState z.place w s u → Ends z lawful c c.scope k w sc (then_do (turn env s) (ir_meaning.after_turn next)) (core.statement st core.no_statements) sc u
  forever_alike c k p turn next code st sound free does low is w env s sc u ready same = ends-one z lawful c c.scope k w sc (then_do (turn env s) (ir_meaning.after_turn next)) st sc u (subst (λ o. Sim z.direction (Came z.place z.code c c.scope k w sc) (then_do (turn env s) (ir_meaning.after_turn next)) o) (sym (is sc u)) (turn_alike c k turn next code.statements (z.js_low (statement_templates z.place.name z.place.label (usable z).lookup (core.statement st core.no_statements))) sound free does low w env s sc u ready same))

  -- `if (!c) { break; }` and what comes behind it in the turn
  abbrev negates : js.Scope → js.Value → js.State → Out js.ExpressionEnd
  negates sc v = js_meaning.negated (v ∷ []) sc

  abbrev breaks_if : js.Scope → js.Value → js.State → Out js.StatementEnd
  breaks_if sc v = js_meaning.taken (js_meaning.in_block (statement_templates z.place.name z.place.label (usable z).lookup (core.statement (core.break_nearest None) core.no_statements)) (run z (core.statement (core.break_nearest None) core.no_statements))) js_meaning.nothing v sc

  pub test_final : (c : Context) (k : Destination) (first : ir.Run) (body : ℕ → Code) (j : ℕ) → Sound z.is_mutable c → IsDiscard k → ((i : ℕ) → j ≤ i → Ahead (in_turn c k) i → Alike (in_turn c k) discard first (run z (body i).statements)) → (own : IrType) (w : World) (sc : js.Scope) → OneFinal z lawful (in_turn c k) discard w sc j own (ir_meaning.branch first stop) (λ es i. put_first (break_unless (first_of es)) (body i))
  test_final c k first body j sound stops does own from before i r e w env s sc u ahead l g ready ks same (more_operands _ _ _ _ _ _ told operand no_operands) = subst (λ o. Sim z.direction (Came z.place z.code (in_turn c k) c.scope discard from before) (then_do (r env s) onward_first) o) (sym regrouped) (sim_then z.direction (Valued z.place w env own) (Came z.place z.code (in_turn c k) c.scope discard from before) (r env s) (shown z e sc u) onward_first (λ b. then_do (then_do (js.with_value (negates sc) b) (js.in_statement sc (breaks_if sc))) (js.next_statement rest)) (operand w s u (grows-refl w) same) each)
    where
      onward_first : ir.Ended → Out ir.Ended
      onward_first = ir.onward (λ v. ir_meaning.in_order [] (λ vs. ir_meaning.branch first stop (v ∷ vs)))

      rest : js.Execution
      rest = run z (body i).statements

      regrouped : then_do (then_do (then_do (shown z e sc u) (js.with_value (negates sc))) (js.in_statement sc (breaks_if sc))) (js.next_statement rest) ≡ then_do (shown z e sc u) (λ b. then_do (then_do (js.with_value (negates sc) b) (js.in_statement sc (breaks_if sc))) (js.next_statement rest))
      regrouped = ap (λ o. then_do o (js.next_statement rest)) (then_do-associative (shown z e sc u) (js.with_value (negates sc)) (js.in_statement sc (breaks_if sc))) ∙ then_do-associative (shown z e sc u) (λ b. then_do (js.with_value (negates sc) b) (js.in_statement sc (breaks_if sc))) (js.next_statement rest)

      goes : (y : World) (v : ir.Value) (x : js.Value) (s : ir.State) (u : js.State) → Grows w y → Stands y (is_char own) v x → SameState z.place y s u → Sim z.direction (Came z.place z.code (in_turn c k) c.scope discard from before) (ir_meaning.branch first stop (v ∷ []) env s) (then_do (then_do (negates sc x u) (js.in_statement sc (breaks_if sc))) (js.next_statement rest))
      goes y _ _ s u h (same_boolean true) same = rebased z lawful (in_turn c k) c.scope discard from y before sc (first env s) (rest sc u) (grows-trans from w y g h) ks (does i l ahead y env s sc u (ready-lift z c.scope c.writable w y env sc h ready) same)
      goes y _ _ s u h (same_boolean false) same = sim_done z.direction (Came z.place z.code (in_turn c k) c.scope discard from before) (ir.ends ir.stops env s) (js.ends js.breaks_nearest sc u) (stopped y env s sc u stops (grows-trans from w y g h) (ready-lift z c.scope c.writable w y env sc h ready) ks same)
      goes y _ _ s u h _ same = sim_wrong z.direction (Came z.place z.code (in_turn c k) c.scope discard from before) _

      each : (a : ir.Ended) (b : js.ExpressionEnd) → Valued z.place w env own a b → Sim z.direction (Came z.place z.code (in_turn c k) c.scope discard from before) (onward_first a) (then_do (then_do (js.with_value (negates sc) b) (js.in_statement sc (breaks_if sc))) (js.next_statement rest))
      each _ _ (valued y v x s u h a same) = goes y v x s u h a.stands same
      each _ _ (thrown y v x s u h a same) = sim_done z.direction (Came z.place z.code (in_turn c k) c.scope discard from before) (ir.ends (ir.throws v) env s) (js.ends (js.thrown_with x) sc u) (throws-on z lawful (in_turn c k) c.scope discard from w before env sc g ks ready y v x s u h a same)
