-- Matches: the case that a key chooses, and the same case of a switch.
use Rattle.std.proofs.Common.{◌≡◌, ℕ, ◌≤◌, Bool, true, false, List, [], ◌∷◌, Some, None, refl, sym, ap, ◌∙◌, subst, arith, ⊎_elim, if◌then◌else◌}
use Rattle.std.specs.Prelude.{ℤ}
use Rattle.std.specs.List.{list_any}
use Rattle.std.specs.Ordering.{int_eq}
use mathlib.Core.Path.{fun_ext}
use Rattle.outcomes.specs.Outcome.{Out, done, then_do}
use Rattle.outcomes.specs.Agreement.{Sim}
use Rattle.outcomes.proofs.Sequence.{then_do-right, then_do-associative}
use Rattle.outcomes.proofs.Simulation.{sim_done, sim_wrong, sim_then}
use Rattle.agree_plain_trees.specs.Meaning as ir_meaning
use Rattle.agree_plain_trees.specs.States as ir
use Rattle.js_mean.specs.Meaning as js_meaning
use Rattle.js_mean.specs.States as js
use Rattle.js_tree.specs.Terms as tree
use Rattle.sj_core.specs.Terms as core
use Rattle.sj_core.specs.Terms.{followed}
use Rattle.agree_early_errors.specs.Coercions.{is_char}
use Rattle.agree_early_errors.specs.Desugar.{target_of, first_of, Branches, switch_code}
use Rattle.agree_early_errors.specs.Spill.{Destination, discard, to_variable, to_result, Code}
use Rattle.agree_early_errors.specs.Templates.{statement_templates, case_templates}
use Rattle.sj_trees.specs.declared.positions.Position.{Position}
use Rattle.agree_plain_trees.specs.Settings.{Setting, shown, run, SameState, Lawful, usable}
use Rattle.agree_bodies.proofs.Blocks.{Outside, Undeclared, scoped_alike}
use Rattle.agree_bodies.proofs.Contexts.{Context, Writes, Sound, Ahead, Ready, ready-lift, Keeps, Less, Arrives, let_go, stored, returned, Came, gave, left, threw, stopped}
use Rattle.agree_early_errors.proofs.Declared.{Declares, declares-followed}
use Rattle.agree_bodies.proofs.Forms.{OneFinal, rebased, act_alike, ahead-later}
use Rattle.agree_bodies.proofs.Loops.{Alike}
use Rattle.agree_bodies.proofs.Statements.{run-followed, act_of, ends-one, throws-on}
use Rattle.agree_plain_trees.proofs.Worlds.{World, Grows, grows-trans, Stands, same_number}
use Rattle.sj_trees.specs.declared.types.IrType.{IrType}

-- the context of a case: it is no turn of a loop, since a break in it ends the switch
abbrev pub settled : Context → Context
settled c = record { scope = c.scope; writable = c.writable; written = c.written; kept = c.kept; targets = c.targets; reaches = c.reaches; tries = c.tries; turning = ⊥ }

pub ahead-settled : (c : Context) (j : ℕ) → Ahead c j → Ahead (settled c) j
ahead-settled c j h = record { writable = h.writable; kept = h.kept }

pub outside-settled : (c : Context) (own : List ℕ → Type 0) → Outside c own → Outside (settled c) own
outside-settled c own h = record { scope = h.scope; writable = h.writable; kept = h.kept }

pub undeclared-settled : (c : Context) (ss : core.Statements) → Undeclared c ss → Undeclared (settled c) ss
undeclared-settled c ss h = record { scope = h.scope; writable = h.writable; kept = h.kept; receiver = h.receiver }

pub sound-settled : (z : Setting) (c : Context) → Sound z.is_mutable c → Sound z.is_mutable (settled c)
sound-settled z c h = record { hidden = h.hidden; constant = h.constant; changing = h.changing; alone = h.alone; within = h.within; aims = h.aims; reached = h.reached; apart = h.apart; receiver = h.receiver; received = h.received }

-- the statements of a case end the switch
abbrev pub one_break : core.Statements
one_break = core.statement (core.break_nearest None) core.no_statements

abbrev pub with_break : core.Statements → core.Statements
with_break ss = followed ss one_break

only_break : (ss : core.Statements) (y : core.Variable) → Declares (with_break ss) y → Declares ss y
only_break ss y d = ⊎_elim (λ i. i) (λ i. ⊎_elim (λ e. absurd e) (λ e. absurd e) i) (declares-followed ss one_break y d)

pub undeclared-case : (c : Context) (ss : core.Statements) → Undeclared c ss → Undeclared (settled c) (with_break ss)
undeclared-case c ss h = record { scope = λ x t i d. h.scope x t i (only_break ss (core.named x) d); writable = λ y i d. h.writable y i (only_break ss y d); kept = λ y i d. h.kept y i (only_break ss y d); receiver = λ d. h.receiver (only_break ss core.receiver d) }

module _ (z : Setting) (lawful : Lawful z) where
  abbrev block_in : core.Statements → core.Statements → js.Execution
  block_in names ss = js_meaning.in_block (statement_templates z.place.name z.place.label (usable z).lookup names) (run z ss)

  -- behind the statements of a case: the break, the end of the block, no later case, and the end of the switch
  past_case : (later : js.Execution) (names : tree.Statements) (sc : js.Scope) (b : js.StatementEnd) → then_do (then_do (then_do (js.next_statement (run z one_break) b) (js_meaning.leaving names sc)) (js.next_statement later)) js_meaning.behind_switch ≡ then_do (js_meaning.leaving names sc b) js_meaning.behind_switch
  past_case later names sc (js.ends js.normally inner u) = refl
  past_case later names sc (js.ends (js.breaks x) inner u) = refl
  past_case later names sc (js.ends js.breaks_nearest inner u) = refl
  past_case later names sc (js.ends (js.returns v) inner u) = refl
  past_case later names sc (js.ends (js.thrown_with v) inner u) = refl

  case_is : (ss : core.Statements) (later : js.Execution) (sc : js.Scope) (u : js.State) → then_do (then_do (block_in (with_break ss) (with_break ss) sc u) (js.next_statement later)) js_meaning.behind_switch ≡ then_do (block_in (with_break ss) ss sc u) js_meaning.behind_switch
  case_is ss later sc u = ap (λ o. then_do (then_do (then_do o leaves) (js.next_statement later)) js_meaning.behind_switch) (run-followed z ss one_break (js_meaning.enter names sc) u) ∙ ap (λ o. then_do (then_do o (js.next_statement later)) js_meaning.behind_switch) (then_do-associative first breaks leaves) ∙ ap (λ o. then_do o js_meaning.behind_switch) (then_do-associative first (λ b. then_do (breaks b) leaves) (js.next_statement later)) ∙ then_do-associative first (λ b. then_do (then_do (breaks b) leaves) (js.next_statement later)) js_meaning.behind_switch ∙ ap (then_do first) (fun_ext (past_case later names sc)) ∙ sym (then_do-associative first leaves js_meaning.behind_switch)
    where
      names : tree.Statements
      names = statement_templates z.place.name z.place.label (usable z).lookup (with_break ss)

      first : Out js.StatementEnd
      first = run z ss (js_meaning.enter names sc) u

      breaks : js.StatementEnd → Out js.StatementEnd
      breaks = js.next_statement (run z one_break)

      leaves : js.StatementEnd → Out js.StatementEnd
      leaves = js_meaning.leaving names sc

  -- what leaves to a label passes by the end of the switch
  left_settles : (c : Context) (k : Destination) (from : World) (before : js.Scope) (y : World) (l : List ℕ) (v : ir.Value) (env : ir.Env) (s : ir.State) (sc : js.Scope) (u : js.State) (e : js.Completion) (d : Destination) → target_of c.targets l ≡ d → c.reaches l → Grows from y → Arrives z.place y v sc (js.breaks (z.place.label l)) d e → Ready z.place z.code c.scope c.writable y env sc → Keeps z.place (Less c.kept (target_of c.targets l)) before sc → SameState z.place y s u → Sim z.direction (Came z.place z.code c c.scope k from before) (done (ir.ends (ir.leaves l v) env s)) (js_meaning.behind_switch (js.ends e sc u))
  left_settles c k from before y l v env s sc u _ _ t reach g let_go r ks same = sim_done z.direction (Came z.place z.code c c.scope k from before) (ir.ends (ir.leaves l v) env s) (js.ends (js.breaks (z.place.label l)) sc u) (left y l v env s sc u (js.breaks (z.place.label l)) reach g (subst (λ d. Arrives z.place y v sc (js.breaks (z.place.label l)) d (js.breaks (z.place.label l))) (sym t) let_go) r ks same)
  left_settles c k from before y l v env s sc u _ _ t reach g (stored x i j q h) r ks same = sim_done z.direction (Came z.place z.code c c.scope k from before) (ir.ends (ir.leaves l v) env s) (js.ends (js.breaks (z.place.label l)) sc u) (left y l v env s sc u (js.breaks (z.place.label l)) reach g (subst (λ d. Arrives z.place y v sc (js.breaks (z.place.label l)) d (js.breaks (z.place.label l))) (sym t) (stored x i j q h)) r ks same)
  left_settles c k from before y l v env s sc u _ _ t reach g (returned i j q) r ks same = sim_done z.direction (Came z.place z.code c c.scope k from before) (ir.ends (ir.leaves l v) env s) (js.ends (js.returns j) sc u) (left y l v env s sc u (js.returns j) reach g (subst (λ d. Arrives z.place y v sc (js.breaks (z.place.label l)) d (js.returns j)) (sym t) (returned i j q)) r ks same)

  settles : (c : Context) (k : Destination) (from : World) (before : js.Scope) (a : ir.Ended) (b : js.StatementEnd) → Came z.place z.code (settled c) c.scope k from before a b → Sim z.direction (Came z.place z.code c c.scope k from before) (done a) (js_meaning.behind_switch b)
  settles c _ from before _ _ (gave y v env s sc u _ g let_go r ks same) = sim_done z.direction (Came z.place z.code c c.scope discard from before) (ir.ends (ir.gives v) env s) (js.ends js.normally sc u) (gave y v env s sc u js.normally g let_go r ks same)
  settles c _ from before _ _ (gave y v env s sc u _ g (stored x t j a h) r ks same) = sim_done z.direction (Came z.place z.code c c.scope (to_variable x t) from before) (ir.ends (ir.gives v) env s) (js.ends js.normally sc u) (gave y v env s sc u js.normally g (stored x t j a h) r ks same)
  settles c _ from before _ _ (gave y v env s sc u _ g (returned t j a) r ks same) = sim_done z.direction (Came z.place z.code c c.scope (to_result t) from before) (ir.ends (ir.gives v) env s) (js.ends (js.returns j) sc u) (gave y v env s sc u (js.returns j) g (returned t j a) r ks same)
  settles c k from before _ _ (left y l v env s sc u e reach g a r ks same) = left_settles c k from before y l v env s sc u e (target_of c.targets l) refl reach g a r ks same
  settles c k from before _ _ (threw y v x env s sc u g a r ks same) = sim_done z.direction (Came z.place z.code c c.scope k from before) (ir.ends (ir.throws v) env s) (js.ends (js.thrown_with x) sc u) (threw y v x env s sc u g a r ks same)
  settles c k from before _ _ (stopped y env s sc u t g r ks same) = absurd t

  -- a case or the default in its block, and the end of the switch
  case_alike : (c : Context) (k : Destination) (names ss : core.Statements) (r : ir.Run) → Undeclared (settled c) names → Sound z.is_mutable c → Writes c.written k → Alike z lawful (settled c) k r (run z ss) → (w : World) (env : ir.Env) (s : ir.State) (sc : js.Scope) (u : js.State) → Ready z.place z.code c.scope c.writable w env sc → SameState z.place w s u → Sim z.direction (Came z.place z.code c c.scope k w sc) (r env s) (then_do (block_in names ss sc u) js_meaning.behind_switch)
  case_alike c k names ss r free sound wr does w env s sc u ready same = subst (λ o. Sim z.direction (Came z.place z.code c c.scope k w sc) o (then_do (block_in names ss sc u) js_meaning.behind_switch)) (then_do-right (r env s)) (sim_then z.direction (Came z.place z.code (settled c) c.scope k w sc) (Came z.place z.code c c.scope k w sc) (r env s) (block_in names ss sc u) done js_meaning.behind_switch (scoped_alike z lawful (settled c) names free k w env sc u (r env s) (run z ss) (sound-settled z c sound) wr ready (λ inner. does w env s (js_meaning.enter (statement_templates z.place.name z.place.label (usable z).lookup names) sc) u inner same)) (settles c k w sc))

  -- the cases of a match, and those of the switch: one without keys is left out
  pub data CasesAlike (c : Context) (k : Destination) : List ir_meaning.Branch → core.Cases → Type 0 where
    no_case : CasesAlike c k [] core.no_cases
    without_keys : (r : ir.Run) (bs : List ir_meaning.Branch) (cs : core.Cases) → CasesAlike c k bs cs → CasesAlike c k (record { keys = []; body = r } ∷ bs) cs
    with_keys : (ns : List ℤ) (r : ir.Run) (ss : core.Statements) (bs : List ir_meaning.Branch) (cs : core.Cases) → Undeclared (settled c) (with_break ss) → Alike z lawful (settled c) k r (run z ss) → CasesAlike c k bs cs → CasesAlike c k (record { keys = ns; body = r } ∷ bs) (core.switch_case ns (with_break ss) cs)

  -- a case that is taken, or those behind it
  case_or_others : (c : Context) (k : Destination) (b : Bool) (q others : ir.Run) (ts : core.Statements) (later js_others : js.Execution) → Undeclared (settled c) (with_break ts) → Sound z.is_mutable c → Writes c.written k → Alike z lawful (settled c) k q (run z ts) → (w : World) (env : ir.Env) (s : ir.State) (sc : js.Scope) (u : js.State) → Ready z.place z.code c.scope c.writable w env sc → SameState z.place w s u → Sim z.direction (Came z.place z.code c c.scope k w sc) (others env s) (then_do (js_others sc u) js_meaning.behind_switch) → Sim z.direction (Came z.place z.code c c.scope k w sc) ((if b then q else others) env s) (then_do (elim b as (λ b. Out js.StatementEnd) [ true ↦ then_do (block_in (with_break ts) (with_break ts) sc u) (js.next_statement later) | false ↦ js_others sc u ]) js_meaning.behind_switch)
  case_or_others c k true q others ts later js_others free sound wr does w env s sc u ready same rest = subst (λ o. Sim z.direction (Came z.place z.code c c.scope k w sc) (q env s) o) (sym (case_is ts later sc u)) (case_alike c k (with_break ts) ts q free sound wr does w env s sc u ready same)
  case_or_others c k false q others ts later js_others free sound wr does w env s sc u ready same rest = rest

  abbrev clauses_in : core.Cases → List js_meaning.Clause
  clauses_in cs = js_meaning.clauses z.place.program z.js_low (case_templates z.place.name z.place.label (usable z).lookup cs)

  -- both sides take the first case with the key, or the default
  chosen_alike : (c : Context) (k : Destination) (bs : List ir_meaning.Branch) (cs : core.Cases) (r : ir.Run) (ss : core.Statements) → CasesAlike c k bs cs → Undeclared (settled c) ss → Sound z.is_mutable c → Writes c.written k → Alike z lawful (settled c) k r (run z ss) → (n : ℤ) (w : World) (env : ir.Env) (s : ir.State) (sc : js.Scope) (u : js.State) → Ready z.place z.code c.scope c.writable w env sc → SameState z.place w s u → Sim z.direction (Came z.place z.code c c.scope k w sc) (ir_meaning.branch_of bs r n env s) (then_do (js_meaning.from_case (clauses_in cs) (block_in ss ss) (js.number n) sc u) js_meaning.behind_switch)
  chosen_alike c k _ _ r ss no_case free sound wr does n w env s sc u ready same = case_alike c k ss ss r free sound wr does w env s sc u ready same
  chosen_alike c k _ cs r ss (without_keys q bs _ rest) free sound wr does n w env s sc u ready same = chosen_alike c k bs cs r ss rest free sound wr does n w env s sc u ready same
  chosen_alike c k _ _ r ss (with_keys ns q ts bs cs free_case does_case rest) free sound wr does n w env s sc u ready same = case_or_others c k (list_any (int_eq n) ns) q (ir_meaning.branch_of bs r n) ts (js_meaning.fall (clauses_in cs) (block_in ss ss)) (js_meaning.from_case (clauses_in cs) (block_in ss ss) (js.number n)) free_case sound wr does_case w env s sc u ready same (chosen_alike c k bs cs r ss rest free sound wr does n w env s sc u ready same)

  -- the value of the selector, and then the switch
  selected : (cs : core.Cases) (ss : core.Statements) (sc : js.Scope) (b : js.ExpressionEnd) → then_do (js.in_statement sc (λ v. js_meaning.from_case (clauses_in cs) (block_in ss ss) v sc) b) js_meaning.behind_switch ≡ js.in_statement sc (λ v u. then_do (js_meaning.from_case (clauses_in cs) (block_in ss ss) v sc u) js_meaning.behind_switch) b
  selected cs ss sc (js.gives v u) = refl
  selected cs ss sc (js.throws v u) = refl

  switch_shown : (p : Position) (e : core.Expression) (cs : core.Cases) (ss : core.Statements) (sc : js.Scope) (u : js.State) → act_of z (core.switch_of (Some p) e cs ss) sc u ≡ then_do (shown z e sc u) (js.in_statement sc (λ v u. then_do (js_meaning.from_case (clauses_in cs) (block_in ss ss) v sc u) js_meaning.behind_switch))
  switch_shown p e cs ss sc u = then_do-associative (shown z e sc u) (js.in_statement sc (λ v. js_meaning.from_case (clauses_in cs) (block_in ss ss) v sc)) js_meaning.behind_switch ∙ ap (then_do (shown z e sc u)) (fun_ext (selected cs ss sc))

  pub match_final : (c : Context) (k : Destination) (p : Position) (bs : List ir_meaning.Branch) (r : ir.Run) (made : ℕ → Branches) (other : ℕ → Code) (j : ℕ) → Sound z.is_mutable c → Writes c.written k → ((i : ℕ) → j ≤ i → i ≤ (made i).next) → ((i : ℕ) → j ≤ i → Ahead c i → CasesAlike c k bs (made i).cases) → ((i : ℕ) → j ≤ i → Ahead c i → Undeclared (settled c) (other i).statements) → ((i : ℕ) → j ≤ i → Ahead c i → Alike z lawful (settled c) k r (run z (other i).statements)) → (own : IrType) (w : World) (sc : js.Scope) → OneFinal z lawful c k w sc j own (ir_meaning.choose bs r) (λ es i. switch_code p (first_of es) (made i) other)
  match_final c k p bs r made other j sound wr up cases_do free does own from before i q e w env s sc u ahead l g ready ks same operand = ends-one z lawful c c.scope k from before (ir_meaning.in_order (q ∷ []) (ir_meaning.choose bs r) env s) (core.switch_of (Some p) e (made i).cases (other (made i).next).statements) sc u (subst (λ o. Sim z.direction (Came z.place z.code c c.scope k from before) (ir_meaning.in_order (q ∷ []) (ir_meaning.choose bs r) env s) o) (sym (switch_shown p e (made i).cases (other (made i).next).statements sc u)) (act_alike z lawful (Came z.place z.code c c.scope k from before) w env s sc u own q e (ir_meaning.choose bs r) (λ v u. then_do (js_meaning.from_case (clauses_in (made i).cases) (block_in (other (made i).next).statements (other (made i).next).statements) v sc u) js_meaning.behind_switch) operand same (throws-on z lawful c c.scope k from w before env sc g ks ready) (λ y v x s u h a same. goes y v x s u h a.stands same)))
    where
      later : j ≤ (made i).next
      later = let h = up i l in omega arith

      behind : Ahead c (made i).next
      behind = ahead-later z lawful c i (made i).next (up i l) ahead

      goes : (y : World) (v : ir.Value) (x : js.Value) (s : ir.State) (u : js.State) → Grows w y → Stands y (is_char own) v x → SameState z.place y s u → Sim z.direction (Came z.place z.code c c.scope k from before) (ir_meaning.choose bs r (v ∷ []) env s) (then_do (js_meaning.from_case (clauses_in (made i).cases) (block_in (other (made i).next).statements (other (made i).next).statements) x sc u) js_meaning.behind_switch)
      goes y _ _ s u h (same_number n f) same = rebased z lawful c c.scope k from y before sc (ir_meaning.branch_of bs r n env s) (then_do (js_meaning.from_case (clauses_in (made i).cases) (block_in (other (made i).next).statements (other (made i).next).statements) (js.number n) sc u) js_meaning.behind_switch) (grows-trans from w y g h) ks (chosen_alike c k bs (made i).cases r (other (made i).next).statements (cases_do i l ahead) (free (made i).next later behind) sound wr (does (made i).next later behind) n y env s sc u (ready-lift z c.scope c.writable w y env sc h ready) same)
      goes y _ _ s u h _ same = sim_wrong z.direction (Came z.place z.code c c.scope k from before) _
