-- Calls on the instances of a class: the receiver, the arguments, and the call, spilled or not.
use Rattle.std.proofs.Common.{◌≡◌, ℕ, Bool, true, false, List, ◌∷◌, ◌&&◌, refl, sym, ap, ◌∙◌, subst, if◌then◌else◌}
use mathlib.Core.Path.{fun_ext}
use Rattle.outcomes.specs.Outcome.{Out, wrong, then_do}
use Rattle.outcomes.specs.Agreement.{Sim}
use Rattle.outcomes.proofs.Sequence.{then_do-associative}
use Rattle.outcomes.proofs.Simulation.{sim_wrong}
use Rattle.agree_plain_trees.specs.Meaning as ir_meaning
use Rattle.agree_plain_trees.specs.States as ir
use Rattle.agree_plain_trees.specs.World as ir_world
use Rattle.js_mean.specs.States as js
use Rattle.sj_core.specs.Terms as core
use Rattle.sj_core.specs.Views.{expressions_of}
use Rattle.agree_bodies.specs.Fine.{FitsIn}
use Rattle.agree_plain_trees.proofs.Boxes.{StandForAll, stood, stood-fits, stood_alike, all_stood, all-stood-fit, operands_coerced, receiver-coerced}
use Rattle.agree_plain_trees.proofs.Instances.{OnInstances}
use Rattle.agree_plain_trees.proofs.Looked.{as_instances, has_class, class_lift, looked_call_alike, known_call_alike}
use Rattle.agree_plain_trees.proofs.Orders.{OperandAlike, OperandsAlike, more_operands}
use Rattle.agree_plain_trees.proofs.Worlds.{World, grows-refl, grows-trans}
use Rattle.agree_plain_trees.specs.Settings.{Setting, shown, usable, SameState, Valued, Lawful, Inside, HasClass}
use Rattle.agree_early_errors.specs.Coercions.{coerced, coerced_arguments, coerced_receiver}
use Rattle.agree_early_errors.specs.Desugar.{into, operand, operands, finish, first_of, rest_of, types_of}
use Rattle.agree_early_errors.specs.Spill.{Destination, Code, spill, spill_case, then_use, all_plain, texts}
use Rattle.agree_early_errors.specs.Standing.{types_referred, call_type}
use Rattle.sure_receivers.specs.Sure.{is_sure}
use Rattle.agree_early_errors.specs.Typing.{Scene}
use Rattle.sj_names.specs.declared.method_names.MethodName.{MethodName}
use Rattle.sj_trees.specs.Term.{Term, Terms}
use Rattle.sj_trees.specs.TypeOf.{type_of_term}
use Rattle.sj_trees.specs.Types.{class_type}
use Rattle.sj_trees.specs.declared.positions.Position.{Position}
use Rattle.agree_bodies.proofs.Contexts.{Context, Writes, Sound, Ahead, Ready, keeps-refl, Came}
use Rattle.agree_bodies.proofs.ObjectTrees.{receiver_piece, called_with, received-type}
use Rattle.agree_bodies.proofs.Spills.{extends-refl, Final, Piece, OperandsDo, operands-later, runs, operands_in, types, Onwards, all_plain_alike, first_code, first-is, first_does, spill_does}
use Rattle.agree_bodies.proofs.Statements.{finish_alike, Ends}
use Rattle.agree_bodies.proofs.Trees.{LowAlike, list_of, types-list}

-- what is done behind what is done with a value
onward-on : (g h : ir.Value → ir.Run) (a : ir.Ended) → then_do (ir.onward g a) (ir.onward h) ≡ ir.onward (λ v env s. ir.go_on (g v env s) h) a
onward-on g h (ir.ends (ir.gives v) env s) = refl
onward-on g h (ir.ends (ir.throws v) env s) = refl
onward-on g h (ir.ends (ir.leaves l v) env s) = refl
onward-on g h (ir.ends ir.stops env s) = refl

pub go_on-on : (o : Out ir.Ended) (g h : ir.Value → ir.Run) → ir.go_on (ir.go_on o g) h ≡ ir.go_on o (λ v env s. ir.go_on (g v env s) h)
go_on-on o g h = then_do-associative o (ir.onward g) (ir.onward h) ∙ ap (then_do o) (fun_ext (onward-on g h))

module _ (z : Setting) (lawful : Lawful z) (low : LowAlike z) where
  -- a method, on the instances of a class
  module _ (scene : Scene) (e : Term) (m : MethodName) (call : OnInstances z lawful scene e m) (ts : Terms) (fit : StandForAll z (types_referred m.params) (types_of ts)) (c : Context) (k : Destination) (p : Position) (sound : Sound z.is_mutable c) (wr : Writes c.written k) (fits : FitsIn (usable z) k (call_type m.result)) where
    abbrev d : List ℕ
    d = call.class

    abbrev act : List ir.Value → ir.Run
    act = ir_meaning.call_instance z.place.classes z.low d m

    abbrev first : Piece
    first = receiver_piece z lawful low c.targets e

    abbrev others : List Piece
    others = list_of z lawful low c.targets ts

    abbrev text : List core.Expression → core.Expression
    text es = core.receiver_call call.way.callee (coerced_receiver (type_of_term e) (first_of es)) (expressions_of (coerced_arguments m.params (types_of ts) (rest_of es)))

    text_is : (g : core.Expression) (gs : List core.Expression) → text (g ∷ gs) ≡ core.receiver_call call.way.callee (coerced (class_type d) (type_of_term e) g) (expressions_of (coerced_arguments m.params (types_of ts) gs))
    text_is g gs = ap (λ x. core.receiver_call call.way.callee x (expressions_of (coerced_arguments m.params (types_of ts) gs))) (receiver-coerced d (type_of_term e) g)

    abbrev made : List core.Expression → ℕ → Code
    made es = finish k p (call_type m.result) false (text es)

    own : first.here.tpe ≡ type_of_term e
    own = received-type (is_sure z.code.sure e) (operand z.is_mutable z.code.sure e (λ k j. into z.is_mutable z.code.sure c.targets k j e))

    arguments : (w : World) (env : ir.Env) (sc : js.Scope) → Inside z.place z.code sc → (qs : List ir.Run) (gs : List core.Expression) → OperandsAlike z w env sc (types z lawful others) qs gs → OperandsAlike z w env sc (all_stood (types_referred m.params) (types_of ts) fit.0) qs (coerced_arguments m.params (types_of ts) gs)
    arguments w env sc inside qs gs alike = operands_coerced z lawful.base w env sc inside m.params (types_of ts) qs gs fit.0 fit.1 (subst (λ is. OperandsAlike z w env sc is qs gs) (sym (types-list z lawful low c.targets ts)) alike)

    -- all plain: the receiver is taken where it is written
    given : (q : ir.Run) (qs : List ir.Run) (g : core.Expression) (gs : List core.Expression) (w : World) (env : ir.Env) (s : ir.State) (sc : js.Scope) (u : js.State) → Inside z.place z.code sc → OperandsAlike z w env sc (first.here.tpe ∷ types z lawful others) (q ∷ qs) (g ∷ gs) → SameState z.place w s u → Sim z.direction (Valued z.place w env (call_type m.result)) (ir_meaning.in_order (as_instances z d q ∷ qs) act env s) (shown z (text (g ∷ gs)) sc u)
    given q qs g gs w env s sc u inside (more_operands _ _ _ _ _ _ told one rest) same = subst (λ o. Sim z.direction (Valued z.place w env (call_type m.result)) (ir_meaning.in_order (as_instances z d q ∷ qs) act env s) (shown z o sc u)) (sym (text_is g gs)) (looked_call_alike z lawful d m call.free (stood (class_type d) (type_of_term e) call.on.0) call.way (all_stood (types_referred m.params) (types_of ts) fit.0) q qs (coerced (class_type d) (type_of_term e) g) (coerced_arguments m.params (types_of ts) gs) (stood-fits (class_type d) (type_of_term e) call.on.0) (all-stood-fit (types_referred m.params) (types_of ts) fit.0) w env s sc u inside (called_with z lawful low c e d m ts call.on fit w env sc inside q qs g gs told one rest) same)

    -- a receiver that was taken before, and is known by an expression that lasts
    known : (v : ir.Value) (qs : List ir.Run) (g : core.Expression) (gs : List core.Expression) (w : World) (env : ir.Env) (s : ir.State) (sc : js.Scope) (u : js.State) → Inside z.place z.code sc → HasClass z.place.classes w d v → OperandAlike z w env sc first.here.tpe (ir.given v) (shown z g) → OperandsAlike z w env sc (types z lawful others) qs gs → SameState z.place w s u → Sim z.direction (Valued z.place w env (call_type m.result)) (ir_meaning.in_order qs (λ vs. act (v ∷ vs)) env s) (shown z (text (g ∷ gs)) sc u)
    known v qs g gs w env s sc u inside one it rest same = subst (λ o. Sim z.direction (Valued z.place w env (call_type m.result)) (ir_meaning.in_order qs (λ vs. act (v ∷ vs)) env s) (shown z o sc u)) (sym (text_is g gs)) (known_call_alike z lawful d m call.free (stood (class_type d) (type_of_term e) call.on.0) call.way (all_stood (types_referred m.params) (types_of ts) fit.0) v qs (coerced (class_type d) (type_of_term e) g) (coerced_arguments m.params (types_of ts) gs) (stood-fits (class_type d) (type_of_term e) call.on.0) (all-stood-fit (types_referred m.params) (types_of ts) fit.0) w env s sc u inside one (stood_alike z lawful.base w env sc inside (class_type d) (type_of_term e) call.on.0 call.on.1 (ir.given v) g (subst (λ k. OperandAlike z w env sc k (ir.given v) (shown z g)) own it)) (arguments w env sc inside qs gs rest) same)

    module _ (j : ℕ) (ahead : Ahead c j) (ds : OperandsDo z lawful c j (first ∷ others)) (w : World) (env : ir.Env) (s : ir.State) (sc : js.Scope) (u : js.State) (r : Ready z.place z.code c.scope c.writable w env sc) (same : SameState z.place w s u) where
      abbrev rest_run : ir.Value → ir.Run
      rest_run v = ir_meaning.in_order (runs z lawful others) (λ vs. act (v ∷ vs))

      plainly : all_plain (operands_in z lawful (first ∷ others)) ≡ true → Ends z lawful c c.scope k w sc (ir_meaning.in_order (as_instances z d first.run ∷ runs z lawful others) act env s) (made (texts (operands_in z lawful (first ∷ others))) j).statements sc u
      plainly h = finish_alike z lawful c k p (call_type m.result) (text (texts (operands_in z lawful (first ∷ others)))) j sound wr fits w w sc env (ir_meaning.in_order (as_instances z d first.run ∷ runs z lawful others) act env s) sc u (grows-refl w) (keeps-refl z c.kept sc) r s same (given first.run (runs z lawful others) first.here.text (texts (operands_in z lawful others)) w env s sc u r.sees.inside (all_plain_alike z lawful c j (first ∷ others) h ds w env sc r.sees) same)

      -- the receiver goes to a variable, or is fixed
      behind_first : Onwards z lawful c k w sc c.kept j sc w first.here.tpe (λ v env s. ir.go_on (ir_meaning.only_instance z.place.classes d v env s) rest_run) (λ g i. (then_use (spill (operands_in z lawful others) i) (λ es. made (g ∷ es))).statements)
      behind_first q i v g y env s sc2 u more sub so ah l h ready kb kp states told x alike lasting = by (ir_world.is_instance z.place.classes s v d) refl
        where
          F : ir.Ended → js.StatementEnd → Type 0
          F = Came z.place z.code c c.scope k w sc

          final : HasClass z.place.classes y d v → Final z lawful c k w sc q i sc2 y (types z lawful others) (λ vs. act (v ∷ vs)) (λ es. made (g ∷ es))
          final one b n rs es at env2 s2 sc3 u2 more2 so2 ah2 l2 h2 ready2 kb2 ks2 states2 operands = finish_alike z lawful c k p (call_type m.result) (text (g ∷ es)) n sound wr fits at w sc env2 (ir_meaning.in_order rs (λ vs. act (v ∷ vs)) env2 s2) sc3 u2 (grows-trans w y at h h2) kb2 ready2 s2 states2 (known v rs g es at env2 s2 sc3 u2 ready2.sees.inside (class_lift z.place.classes y at d v h2 one) (lasting at env2 sc3 h2 ks2) operands states2)

          by : (b : Bool) → ir_world.is_instance z.place.classes s v d ≡ b → Ends z lawful c c.scope k w sc (ir.go_on (if ir_world.is_instance z.place.classes s v d then ir.given v env s else wrong) rest_run) (then_use (spill (operands_in z lawful others) i) (λ es. made (g ∷ es))).statements sc2 u
          by true is = subst (λ (b : Bool). Ends z lawful c c.scope k w sc (ir.go_on (if b then ir.given v env s else wrong) rest_run) (then_use (spill (operands_in z lawful others) i) (λ es. made (g ∷ es))).statements sc2 u) (sym is) (spill_does z lawful c k w sc others q i (λ vs. act (v ∷ vs)) (λ es. made (g ∷ es)) y env s sc2 u (operands-later z lawful c j i others l ds.1) sub so ah (final (has_class z.place y s u states d first.here.tpe v x call.free alike is)) h ready kb states)
          by false is = subst (λ (b : Bool). Ends z lawful c c.scope k w sc (ir.go_on (if b then ir.given v env s else wrong) rest_run) (then_use (spill (operands_in z lawful others) i) (λ es. made (g ∷ es))).statements sc2 u) (sym is) (sim_wrong z.direction F _)

      spilled : (f b : Bool) → first.here.fixed ≡ f → first.here.plain ≡ b → Ends z lawful c c.scope k w sc (ir_meaning.in_order (as_instances z d first.run ∷ runs z lawful others) act env s) (then_use (spill_case false f b first.here (operands_in z lawful others) (spill (operands_in z lawful others)) j) made).statements sc u
      spilled f b e1 e2 = subst (λ ss. Ends z lawful c c.scope k w sc (ir_meaning.in_order (as_instances z d first.run ∷ runs z lawful others) act env s) ss sc u) (sym (first-is z lawful f b first.here (operands_in z lawful others) j made)) (subst (λ o. Ends z lawful c c.scope k w sc o (first_code z lawful f b first.here (λ g i. (then_use (spill (operands_in z lawful others) i) (λ es. made (g ∷ es))).statements) j) sc u) (sym (go_on-on (first.run env s) (ir_meaning.only_instance z.place.classes d) rest_run)) (first_does z lawful c k w sc first f b e1 e2 c.kept j (λ v env s. ir.go_on (ir_meaning.only_instance z.place.classes d v env s) rest_run) (λ g i. (then_use (spill (operands_in z lawful others) i) (λ es. made (g ∷ es))).statements) w env s sc u ds.0 (extends-refl c) sound ahead behind_first (grows-refl w) r (keeps-refl z c.kept sc) same))

      pub looked_up : Ends z lawful c c.scope k w sc (ir_meaning.in_order (as_instances z d first.run ∷ runs z lawful others) act env s) (then_use (spill (operands_in z lawful (first ∷ others)) j) made).statements sc u
      looked_up = by (first.here.plain && all_plain (operands_in z lawful others)) refl
        where
          by : (a : Bool) → (first.here.plain && all_plain (operands_in z lawful others)) ≡ a → Ends z lawful c c.scope k w sc (ir_meaning.in_order (as_instances z d first.run ∷ runs z lawful others) act env s) (then_use (spill_case (first.here.plain && all_plain (operands_in z lawful others)) first.here.fixed first.here.plain first.here (operands_in z lawful others) (spill (operands_in z lawful others)) j) made).statements sc u
          by true h = subst (λ (a : Bool). Ends z lawful c c.scope k w sc (ir_meaning.in_order (as_instances z d first.run ∷ runs z lawful others) act env s) (then_use (spill_case a first.here.fixed first.here.plain first.here (operands_in z lawful others) (spill (operands_in z lawful others)) j) made).statements sc u) (sym h) (plainly h)
          by false h = subst (λ (a : Bool). Ends z lawful c c.scope k w sc (ir_meaning.in_order (as_instances z d first.run ∷ runs z lawful others) act env s) (then_use (spill_case a first.here.fixed first.here.plain first.here (operands_in z lawful others) (spill (operands_in z lawful others)) j) made).statements sc u) (sym h) (spilled first.here.fixed first.here.plain refl refl)
