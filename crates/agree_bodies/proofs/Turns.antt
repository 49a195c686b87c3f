-- Loops as trees, by what is known of their condition and their body.
use Rattle.std.proofs.Common.{◌≡◌, ℕ, true, false, List, [], ◌∷◌, Some, refl, sym, ap, subst, ◌⊎◌, inl, inr, ⊎_elim}
use Rattle.outcomes.specs.Agreement.{Sim}
use Rattle.outcomes.proofs.Simulation.{sim_then}
use Rattle.agree_plain_trees.specs.Meaning as ir_meaning
use Rattle.agree_plain_trees.specs.States as ir
use Rattle.js_mean.specs.States as js
use Rattle.sj_core.specs.Terms as core
use Rattle.agree_early_errors.specs.Desugar.{into, operand, expression_of, first_of, wrapped, break_unless}
use Rattle.agree_early_errors.specs.Plain.{is_plain}
use Rattle.agree_early_errors.specs.Spill.{Destination, discard, to_variable, Code, one, put_first, no_code, spill, then_use, then_code}
use Rattle.agree_early_errors.specs.Templates.{statement_templates}
use Rattle.sj_trees.specs.Term.{Term, while_loop, do_while, boolean_literal}
use Rattle.sj_trees.specs.TypeOf.{type_of_term}
use Rattle.sj_trees.specs.declared.positions.Position.{Position}
use Rattle.agree_plain_trees.specs.Settings.{Setting, run, SameState, Lawful, usable}
use Rattle.agree_bodies.proofs.Blocks.{Outside, Undeclared, undeclared}
use Rattle.agree_bodies.proofs.Contexts.{around, Context, Writes, Sound, Ahead, Ready, Came}
use Rattle.agree_early_errors.proofs.RulesGive.{each_made}
use Rattle.agree_early_errors.specs.Locals.{Own}
use Rattle.agree_early_errors.specs.Boxes.{Goal, goals_of, boxes, operand_boxes}
use Rattle.agree_bodies.specs.Fine.{IsDiscard, is_discard, FineOperand, Fine, Asks}
use Rattle.agree_early_errors.specs.Typing.{IsTrueLiteral, true_literal}
use Rattle.agree_bodies.proofs.Forms.{of_operands, one_final, silent, rebased, ahead-later}
use Rattle.agree_bodies.proofs.Loops.{in_turn, stop, Alike, sound-turn, ahead-turn, while_alike, forever_alike, test_final}
use Rattle.agree_bodies.specs.Placed.{Placed}
use Rattle.agree_bodies.proofs.Placed.{once_of}
use Rattle.agree_bodies.proofs.Trees.{written, LowAlike, outside-part, TreeDoes, piece, operand_does}
use Rattle.agree_early_errors.proofs.Trees.{good, while_good, do_good, emitted_alike}
use Rattle.agree_bodies.proofs.Parts.{tree_in, operand_in, given_up, one_mutable, other_mutable}
use Rattle.agree_early_errors.proofs.Fitting.{true-or-none}
use Rattle.sj_trees.specs.declared.types.IrType.TheVariants.{Boolean}
use Rattle.agree_plain_trees.proofs.Plain.{plain_alike, as_operand}
use Rattle.agree_bodies.proofs.Spills.{Does}
use Rattle.agree_bodies.proofs.Statements.{run-followed, came_then, Ends}
use Rattle.agree_plain_trees.proofs.Worlds.{World}

outside-turn : (c : Context) (k : Destination) (own : List ℕ → Type 0) → Outside c own → Outside (in_turn c k) own
outside-turn c k own out = record { scope = out.scope; writable = out.writable; kept = out.kept }

module _ (z : Setting) (lawful : Lawful z) (low : LowAlike z) where
  -- what the rules give of the parts of a loop
  while_body : (p : Position) (cond b : Term) (c : Context) (k : Destination) → Fine z.place.typing z.is_mutable (usable z) z.code c.scope (around c) k (while_loop p cond b) → Fine z.place.typing z.is_mutable (usable z) z.code c.scope (around c) discard b
  while_body p cond b c k f = tree_in z.place.typing lawful.base.ordered z.is_mutable (usable z) z.code c.scope (around c) f.scene f.amid discard b (other_mutable z.is_mutable cond b f.written) tt f.typed.2 (each_made (usable z) (operand_boxes (goals_of c.targets) cond) (boxes (goals_of c.targets) Goal.given_up b) f.boxed).1 f.around f.once.1

  do_body : (p : Position) (b cond : Term) (c : Context) (k : Destination) → Fine z.place.typing z.is_mutable (usable z) z.code c.scope (around c) k (do_while p b cond) → Fine z.place.typing z.is_mutable (usable z) z.code c.scope (around c) discard b
  do_body p b cond c k f = tree_in z.place.typing lawful.base.ordered z.is_mutable (usable z) z.code c.scope (around c) f.scene f.amid discard b (one_mutable z.is_mutable b cond f.written) tt f.typed.1 (each_made (usable z) (boxes (goals_of c.targets) Goal.given_up b) (operand_boxes (goals_of c.targets) cond) f.boxed).0 f.around f.once.0

  abbrev LoopFine : Context → Destination → Term → Type 0
  LoopFine c k cond = (IsDiscard k × FineOperand z.place.typing z.is_mutable (usable z) z.code c.scope cond (λ y. Fine z.place.typing z.is_mutable (usable z) z.code c.scope (around c) (to_variable y (type_of_term cond)) cond)) ⊎ IsTrueLiteral cond

  while_test : (p : Position) (cond b : Term) (c : Context) (k : Destination) → Fine z.place.typing z.is_mutable (usable z) z.code c.scope (around c) k (while_loop p cond b) → LoopFine c k cond
  while_test p cond b c k f = ⊎_elim (λ e. inl (given_up z.place.typing lawful.base.ordered k (subst (Asks z.place.typing k) e f.asks), operand_in z.place.typing lawful.base.ordered z.is_mutable (usable z) z.code c.scope (around c) f.scene f.amid cond (one_mutable z.is_mutable cond b f.written) Boolean f.typed.0.meets refl f.typed.1 (each_made (usable z) (operand_boxes (goals_of c.targets) cond) (boxes (goals_of c.targets) Goal.given_up b) f.boxed).0 f.around f.once.0)) (λ i. inr i) (true-or-none cond)

  do_test : (p : Position) (b cond : Term) (c : Context) (k : Destination) → Fine z.place.typing z.is_mutable (usable z) z.code c.scope (around c) k (do_while p b cond) → LoopFine c k cond
  do_test p b cond c k f = ⊎_elim (λ e. inl (given_up z.place.typing lawful.base.ordered k (subst (Asks z.place.typing k) e f.asks), operand_in z.place.typing lawful.base.ordered z.is_mutable (usable z) z.code c.scope (around c) f.scene f.amid cond (other_mutable z.is_mutable b cond f.written) Boolean f.typed.0.meets refl f.typed.2 (each_made (usable z) (boxes (goals_of c.targets) Goal.given_up b) (operand_boxes (goals_of c.targets) cond) f.boxed).1 f.around f.once.1)) (λ i. inr i) (true-or-none cond)

  -- the body of a loop in its turn
  body_alike : (b : Term) → TreeDoes z lawful low b → (c : Context) (k : Destination) (i : ℕ) → Sound z.is_mutable c → Ahead (in_turn c k) i → Outside c (Own b) → Fine z.place.typing z.is_mutable (usable z) z.code c.scope (around c) discard b → Alike z lawful (in_turn c k) discard (ir_meaning.step z.place.classes z.low b) (run z (into z.is_mutable z.code.sure c.targets discard i b).statements)
  body_alike b does c k i sound ahead out fine = does (in_turn c k) discard i (sound-turn z lawful c k sound) ahead (outside-turn c k (Own b) out) tt fine

  module _ (p : Position) (cond b : Term) (does_cond : TreeDoes z lawful low cond) (does_b : TreeDoes z lawful low b) where
    abbrev while_code : Context → Destination → ℕ → Code
    while_code c k j = into z.is_mutable z.code.sure c.targets k j (while_loop p cond b)

    abbrev body_code : Context → ℕ → Code
    body_code c j = into z.is_mutable z.code.sure c.targets discard j b

    abbrev spilled_code : Context → ℕ → Code
    spilled_code c j = then_use (spill (operand z.is_mutable z.code.sure cond (λ k j. into z.is_mutable z.code.sure c.targets k j cond) ∷ []) j) (λ es i. put_first (break_unless (first_of es)) (body_code c i))

    plain_code : (c : Context) (k : Destination) (j : ℕ) → is_plain cond ≡ true → while_code c k j ≡ wrapped (core.while_of (Some p) (expression_of z.code.sure cond)) (body_code c j)
    plain_code c k j e = ap (λ b. elim b as (λ b. Code) [ true ↦ wrapped (core.while_of (Some p) (expression_of z.code.sure cond)) (body_code c j) | false ↦ wrapped (core.while_of (Some p) (core.boolean_value true)) (spilled_code c j) ]) e

    other_code : (c : Context) (k : Destination) (j : ℕ) → is_plain cond ≡ false → while_code c k j ≡ wrapped (core.while_of (Some p) (core.boolean_value true)) (spilled_code c j)
    other_code c k j e = ap (λ b. elim b as (λ b. Code) [ true ↦ wrapped (core.while_of (Some p) (expression_of z.code.sure cond)) (body_code c j) | false ↦ wrapped (core.while_of (Some p) (core.boolean_value true)) (spilled_code c j) ]) e

    next_turns : (c : Context) (k : Destination) (j : ℕ) → Sound z.is_mutable c → Ahead c j → Outside c (Own (while_loop p cond b)) → Writes c.written k → Fine z.place.typing z.is_mutable (usable z) z.code c.scope (around c) k (while_loop p cond b) → Alike z lawful c k (z.low (while_loop p cond b)) (z.js_low (statement_templates z.place.name z.place.label (usable z).lookup (while_code c k j).statements))
    next_turns c k j sound ahead out wr fine = low c k j (while_loop p cond b) sound ahead out wr fine

    out_b : (c : Context) → Outside c (Own (while_loop p cond b)) → Outside c (Own b)
    out_b c out = outside-part c (Own (while_loop p cond b)) (Own b) (λ x o. inr o) out

    free_body : (c : Context) (j : ℕ) → Ahead c j → Outside c (Own (while_loop p cond b)) → (labels : List (List ℕ)) → Placed c.reaches c.tries labels b → Undeclared c (body_code c j).statements
    free_body c j ahead out labels once = undeclared c (Own b) j (body_code c j) (out_b c out) ahead (written z.is_mutable z.code.sure c.reaches c.tries c.targets b discard j once)

    free_spilled : (c : Context) (j : ℕ) → Ahead c j → Outside c (Own (while_loop p cond b)) → (labels : List (List ℕ)) → Placed c.reaches c.tries labels (while_loop p cond b) → Undeclared c (spilled_code c j).statements
    free_spilled c j ahead out labels once = undeclared c (Own (while_loop p cond b)) j (spilled_code c j) out ahead (while_good z.is_mutable z.code.sure p cond b (good z.is_mutable z.code.sure cond) (good z.is_mutable z.code.sure b) labels c.targets labels j (once_of c.reaches c.tries labels (while_loop p cond b) once) (emitted_alike labels c.targets))

    -- the value of the loop is given up
    while_by : (c : Context) (k : Destination) (j : ℕ) → Sound z.is_mutable c → Ahead c j → Outside c (Own (while_loop p cond b)) → Writes c.written k → Fine z.place.typing z.is_mutable (usable z) z.code c.scope (around c) k (while_loop p cond b) → IsDiscard k × FineOperand z.place.typing z.is_mutable (usable z) z.code c.scope cond (λ y. Fine z.place.typing z.is_mutable (usable z) z.code c.scope (around c) (to_variable y (type_of_term cond)) cond) → Does z lawful c k j (while_loop p cond b)
    while_by c _ j sound ahead out wr fine (is_discard, inl h) w env s sc u r same = subst (λ code. Ends z lawful c c.scope discard w sc (ir_meaning.step z.place.classes z.low (while_loop p cond b) env s) code.statements sc u) (sym (plain_code c discard j h.plain)) (while_alike z lawful c p (type_of_term cond) (ir_meaning.step z.place.classes z.low cond) (ir_meaning.step z.place.classes z.low b) (z.low (while_loop p cond b)) (expression_of z.code.sure cond) (body_code c j) (z.js_low (statement_templates z.place.name z.place.label (usable z).lookup (while_code c discard j).statements)) sound (free_body c j ahead out fine.around fine.once.1) (λ w env sc ready. as_operand z lawful c.scope cond (plain_alike z lawful c.scope cond h).alike w env sc ready.sees) (body_alike b does_b c discard j sound (ahead-turn z lawful c discard j ahead) (out_b c out) (while_body p cond b c discard fine)) (next_turns c discard j sound ahead out tt fine) (λ sc u. ap (λ code. z.js_low (statement_templates z.place.name z.place.label (usable z).lookup code.statements) sc u) (plain_code c discard j h.plain)) w env s sc u r same)
    while_by c _ j sound ahead out wr fine (is_discard, inr h) w env s sc u r same = subst (λ code. Ends z lawful c c.scope discard w sc (ir_meaning.step z.place.classes z.low (while_loop p cond b) env s) code.statements sc u) (sym (other_code c discard j h.0)) (forever_alike z lawful c discard p (ir_meaning.in_order (ir_meaning.step z.place.classes z.low cond ∷ []) (ir_meaning.branch (ir_meaning.step z.place.classes z.low b) stop)) (z.low (while_loop p cond b)) (spilled_code c j) (core.while_of (Some p) (core.boolean_value true) (spilled_code c j).statements) sound (free_spilled c j ahead out fine.around fine.once) (λ w env s sc u ready same. of_operands z lawful (in_turn c discard) discard (piece z lawful low c.targets cond ∷ []) j (ir_meaning.branch (ir_meaning.step z.place.classes z.low b) stop) (λ es i. put_first (break_unless (first_of es)) (body_code c i)) (sound-turn z lawful c discard sound) (ahead-turn z lawful c discard j ahead) (operand_does z lawful low (in_turn c discard) j cond does_cond (outside-turn c discard (Own cond) (outside-part c (Own (while_loop p cond b)) (Own cond) (λ x o. inl o) out)) (inr h), tt) (one_final z lawful (in_turn c discard) discard j (type_of_term cond) (ir_meaning.branch (ir_meaning.step z.place.classes z.low b) stop) (λ es i. put_first (break_unless (first_of es)) (body_code c i)) (test_final z lawful c discard (ir_meaning.step z.place.classes z.low b) (body_code c) j sound is_discard (λ i l ah. body_alike b does_b c discard i sound ah (out_b c out) (while_body p cond b c discard fine)) (type_of_term cond))) w env s sc u ready same) (λ w env s sc u ready same. subst (λ code. Sim z.direction (Came z.place z.code c c.scope discard w sc) (z.low (while_loop p cond b) env s) (z.js_low (statement_templates z.place.name z.place.label (usable z).lookup code.statements) sc u)) (other_code c discard j h.0) (next_turns c discard j sound ahead out tt fine w env s sc u ready same)) (λ sc u. refl) w env s sc u r same)

  module _ (p : Position) (b cond : Term) (does_b : TreeDoes z lawful low b) (does_cond : TreeDoes z lawful low cond) where
    abbrev test_code : Context → ℕ → Code
    test_code c j = then_use (spill (operand z.is_mutable z.code.sure cond (λ k j. into z.is_mutable z.code.sure c.targets k j cond) ∷ []) j) (λ es. one (break_unless (first_of es)))

    abbrev inner_code : Context → ℕ → Code
    inner_code c j = then_code (into z.is_mutable z.code.sure c.targets discard j b) (test_code c)

    free_inner : (c : Context) (j : ℕ) → Ahead c j → Outside c (Own (do_while p b cond)) → (labels : List (List ℕ)) → Placed c.reaches c.tries labels (do_while p b cond) → Undeclared c (inner_code c j).statements
    free_inner c j ahead out labels once = undeclared c (Own (do_while p b cond)) j (inner_code c j) out ahead (do_good z.is_mutable z.code.sure p b cond (good z.is_mutable z.code.sure b) (good z.is_mutable z.code.sure cond) labels c.targets labels j (once_of c.reaches c.tries labels (do_while p b cond) once) (emitted_alike labels c.targets))

    turn : ir.Run
    turn env s = ir.go_on (ir_meaning.step z.place.classes z.low b env s) (λ v. ir_meaning.in_order (ir_meaning.step z.place.classes z.low cond ∷ []) (ir_meaning.branch (ir.given ir.undefined) stop))

    turn_by : (c : Context) (k : Destination) (j : ℕ) → Sound z.is_mutable c → Ahead c j → Outside c (Own (do_while p b cond)) → Fine z.place.typing z.is_mutable (usable z) z.code c.scope (around c) discard b → ((y : World) (env : ir.Env) (s : ir.State) (sc : js.Scope) (u : js.State) → Ready z.place z.code c.scope c.writable y env sc → SameState z.place y s u → Sim z.direction (Came z.place z.code (in_turn c k) c.scope discard y sc) (ir_meaning.in_order (ir_meaning.step z.place.classes z.low cond ∷ []) (ir_meaning.branch (ir.given ir.undefined) stop) env s) (run z (test_code c (into z.is_mutable z.code.sure c.targets discard j b).next).statements sc u)) → Alike z lawful (in_turn c k) discard turn (run z (inner_code c j).statements)
    unfolding turn
    turn_by c k j sound ahead out fine test w env s sc u r same = subst (λ o. Sim z.direction (Came z.place z.code (in_turn c k) c.scope discard w sc) (ir.go_on (ir_meaning.step z.place.classes z.low b env s) (λ v. ir_meaning.in_order (ir_meaning.step z.place.classes z.low cond ∷ []) (ir_meaning.branch (ir.given ir.undefined) stop))) o) (sym (run-followed z (into z.is_mutable z.code.sure c.targets discard j b).statements (test_code c (into z.is_mutable z.code.sure c.targets discard j b).next).statements sc u)) (sim_then z.direction (Came z.place z.code (in_turn c k) c.scope discard w sc) (Came z.place z.code (in_turn c k) c.scope discard w sc) (ir_meaning.step z.place.classes z.low b env s) (run z (into z.is_mutable z.code.sure c.targets discard j b).statements sc u) (ir.onward (λ v. ir_meaning.in_order (ir_meaning.step z.place.classes z.low cond ∷ []) (ir_meaning.branch (ir.given ir.undefined) stop))) (js.next_statement (run z (test_code c (into z.is_mutable z.code.sure c.targets discard j b).next).statements)) (body_alike b does_b c k j sound (ahead-turn z lawful c k j ahead) (outside-part c (Own (do_while p b cond)) (Own b) (λ x o. inl o) out) fine w env s sc u r same) (came_then z lawful (in_turn c k) c.scope c.scope discard w sc (λ v. ir_meaning.in_order (ir_meaning.step z.place.classes z.low cond ∷ []) (ir_meaning.branch (ir.given ir.undefined) stop)) (run z (test_code c (into z.is_mutable z.code.sure c.targets discard j b).next).statements) (λ y v env s sc' u g ready ks same. rebased z lawful (in_turn c k) c.scope discard w y sc sc' (ir_meaning.in_order (ir_meaning.step z.place.classes z.low cond ∷ []) (ir_meaning.branch (ir.given ir.undefined) stop) env s) (run z (test_code c (into z.is_mutable z.code.sure c.targets discard j b).next).statements sc' u) g ks (test y env s sc' u ready same))))

    do_by : (c : Context) (k : Destination) (j : ℕ) → Sound z.is_mutable c → Ahead c j → Outside c (Own (do_while p b cond)) → Writes c.written k → Fine z.place.typing z.is_mutable (usable z) z.code c.scope (around c) k (do_while p b cond) → IsDiscard k × FineOperand z.place.typing z.is_mutable (usable z) z.code c.scope cond (λ y. Fine z.place.typing z.is_mutable (usable z) z.code c.scope (around c) (to_variable y (type_of_term cond)) cond) → Does z lawful c k j (do_while p b cond)
    unfolding turn
    do_by c _ j sound ahead out wr fine (is_discard, h) w env s sc u r same = forever_alike z lawful c discard p turn (z.low (do_while p b cond)) (inner_code c j) (core.loop_of (Some p) (inner_code c j).statements) sound (free_inner c j ahead out fine.around fine.once) (turn_by c discard j sound ahead out (do_body p b cond c discard fine) (λ y env s sc u ready same. of_operands z lawful (in_turn c discard) discard (piece z lawful low c.targets cond ∷ []) (into z.is_mutable z.code.sure c.targets discard j b).next (ir_meaning.branch (ir.given ir.undefined) stop) (λ es. one (break_unless (first_of es))) (sound-turn z lawful c discard sound) (ahead-later z lawful (in_turn c discard) j (into z.is_mutable z.code.sure c.targets discard j b).next (written z.is_mutable z.code.sure c.reaches c.tries c.targets b discard j fine.once.0).onward (ahead-turn z lawful c discard j ahead)) (operand_does z lawful low (in_turn c discard) (into z.is_mutable z.code.sure c.targets discard j b).next cond does_cond (outside-turn c discard (Own cond) (outside-part c (Own (do_while p b cond)) (Own cond) (λ x o. inr o) out)) h, tt) (one_final z lawful (in_turn c discard) discard (into z.is_mutable z.code.sure c.targets discard j b).next (type_of_term cond) (ir_meaning.branch (ir.given ir.undefined) stop) (λ es. one (break_unless (first_of es))) (test_final z lawful c discard (ir.given ir.undefined) no_code (into z.is_mutable z.code.sure c.targets discard j b).next sound is_discard (λ i l ah w env s sc u ready same. silent z lawful (in_turn c discard) w ir.undefined env s sc u ready same) (type_of_term cond))) y env s sc u ready same)) (low c discard j (do_while p b cond) sound ahead out tt fine) (λ sc u. refl) w env s sc u r same

  -- a loop on the literal true never ends by its condition
  while_true : (p q : Position) (b : Term) → TreeDoes z lawful low b → (c : Context) (k : Destination) (j : ℕ) → Sound z.is_mutable c → Ahead c j → Outside c (Own (while_loop p (boolean_literal q true) b)) → Writes c.written k → Fine z.place.typing z.is_mutable (usable z) z.code c.scope (around c) k (while_loop p (boolean_literal q true) b) → Does z lawful c k j (while_loop p (boolean_literal q true) b)
  while_true p q b does_b c k j sound ahead out wr fine = forever_alike z lawful c k p (ir_meaning.step z.place.classes z.low b) (z.low (while_loop p (boolean_literal q true) b)) (into z.is_mutable z.code.sure c.targets discard j b) (core.while_of (Some p) (core.boolean_value true) (into z.is_mutable z.code.sure c.targets discard j b).statements) sound (undeclared c (Own b) j (into z.is_mutable z.code.sure c.targets discard j b) (outside-part c (Own (while_loop p (boolean_literal q true) b)) (Own b) (λ x o. inr o) out) ahead (written z.is_mutable z.code.sure c.reaches c.tries c.targets b discard j fine.once.1)) (body_alike b does_b c k j sound (ahead-turn z lawful c k j ahead) (outside-part c (Own (while_loop p (boolean_literal q true) b)) (Own b) (λ x o. inr o) out) (while_body p (boolean_literal q true) b c k fine)) (low c k j (while_loop p (boolean_literal q true) b) sound ahead out wr fine) (λ sc u. refl)

  do_true : (p q : Position) (b : Term) → TreeDoes z lawful low b → TreeDoes z lawful low (boolean_literal q true) → (c : Context) (k : Destination) (j : ℕ) → Sound z.is_mutable c → Ahead c j → Outside c (Own (do_while p b (boolean_literal q true))) → Writes c.written k → Fine z.place.typing z.is_mutable (usable z) z.code c.scope (around c) k (do_while p b (boolean_literal q true)) → Does z lawful c k j (do_while p b (boolean_literal q true))
  unfolding turn
  do_true p q b does_b does_lit c k j sound ahead out wr fine = forever_alike z lawful c k p (turn p b (boolean_literal q true) does_b does_lit) (z.low (do_while p b (boolean_literal q true))) (inner_code p b (boolean_literal q true) does_b does_lit c j) (core.loop_of (Some p) (inner_code p b (boolean_literal q true) does_b does_lit c j).statements) sound (free_inner p b (boolean_literal q true) does_b does_lit c j ahead out fine.around fine.once) (turn_by p b (boolean_literal q true) does_b does_lit c k j sound ahead out (do_body p b (boolean_literal q true) c k fine) (λ y env s sc u ready same. silent z lawful (in_turn c k) y ir.undefined env s sc u ready same)) (low c k j (do_while p b (boolean_literal q true)) sound ahead out wr fine) (λ sc u. refl)

  while_cases : (p : Position) (cond b : Term) → TreeDoes z lawful low cond → TreeDoes z lawful low b → (c : Context) (k : Destination) (j : ℕ) → Sound z.is_mutable c → Ahead c j → Outside c (Own (while_loop p cond b)) → Writes c.written k → Fine z.place.typing z.is_mutable (usable z) z.code c.scope (around c) k (while_loop p cond b) → LoopFine c k cond → Does z lawful c k j (while_loop p cond b)
  while_cases p cond b dc db c k j sound ahead out wr fine (inl h) = while_by p cond b dc db c k j sound ahead out wr fine h
  while_cases p _ b dc db c k j sound ahead out wr fine (inr (true_literal q)) = while_true p q b db c k j sound ahead out wr fine

  pub while_does : (p : Position) (cond b : Term) → TreeDoes z lawful low cond → TreeDoes z lawful low b → TreeDoes z lawful low (while_loop p cond b)
  while_does p cond b dc db c k j sound ahead out wr fine = while_cases p cond b dc db c k j sound ahead out wr fine (while_test p cond b c k fine)

  do_cases : (p : Position) (b cond : Term) → TreeDoes z lawful low b → TreeDoes z lawful low cond → (c : Context) (k : Destination) (j : ℕ) → Sound z.is_mutable c → Ahead c j → Outside c (Own (do_while p b cond)) → Writes c.written k → Fine z.place.typing z.is_mutable (usable z) z.code c.scope (around c) k (do_while p b cond) → LoopFine c k cond → Does z lawful c k j (do_while p b cond)
  do_cases p b cond db dc c k j sound ahead out wr fine (inl h) = do_by p b cond db dc c k j sound ahead out wr fine h
  do_cases p b _ db dc c k j sound ahead out wr fine (inr (true_literal q)) = do_true p q b db dc c k j sound ahead out wr fine

  pub do_does : (p : Position) (b cond : Term) → TreeDoes z lawful low b → TreeDoes z lawful low cond → TreeDoes z lawful low (do_while p b cond)
  do_does p b cond db dc c k j sound ahead out wr fine = do_cases p b cond db dc c k j sound ahead out wr fine (do_test p b cond c k fine)
