-- A call on a receiver: the receiver is the first parameter of the function, and This of the body. A constructor gives the object that it ran on.
use Rattle.std.proofs.Common.{◌≡◌, ℕ, zero, suc, Bool, false, List, [], ◌∷◌, Option, Some, None, refl, sym, ap, ◌∙◌, subst, if◌then◌else◌}
use Rattle.outcomes.specs.Outcome.{Out, done, then_do}
use Rattle.outcomes.specs.Agreement.{Direction, Sim}
use Rattle.outcomes.proofs.Simulation.{sim_done, sim_wrong, sim_then}
use Rattle.outcomes.proofs.Sequence.{then_do-associative, then_do-right}
use Rattle.dispatch_laws.specs.Meaning as ir_meaning
use Rattle.dispatch_laws.specs.States as ir
use Rattle.dispatch_laws.specs.World.{member_of}
use Rattle.js_mean.specs.Files.{owner}
use Rattle.js_mean.specs.Meaning as js_meaning
use Rattle.js_mean.specs.States as js
use Rattle.js_tree.specs.Terms as tree
use Rattle.js_tree.specs.Terms.{Name}
use Rattle.sj_core.specs.Terms as core
use Rattle.agree_bodies.specs.Desugar.{into, is_mutable_in, result_destination, names_of, completed}
use Rattle.agree_bodies.specs.Plain.{is_no_type}
use Rattle.agree_bodies.specs.Spill.{Destination, discard, to_result}
use Rattle.dispatch_laws.specs.Templates.{statement_templates}
use Rattle.sj_names.proofs.Same.{impossible}
use Rattle.sj_names.specs.declared.method_names.Member.{Member}
use Rattle.sj_names.specs.declared.method_names.Namespace.{Namespace}
use Rattle.sj_names.specs.declared.method_names.Namespace.TheVariants.{Public, PublicStatic, Private, PrivateStatic, Constructor}
use Rattle.sj_trees.specs.declared.classes.MethodDef.{MethodDef}
use Rattle.sj_trees.specs.declared.types.IrType.{IrType}
use Rattle.agree_bodies.specs.Locals.{parameters_of, Own, Scope}
use Rattle.agree_bodies.specs.Settings.{Place, Code, Receiving, on_receiver, IsReceiver, Setting, SameState, Valued, Built, built, failed, run, NamesDiffer, OfNoVariable, Holding, a_method, a_constructor, top_call}
use Rattle.agree_bodies.proofs.Contexts.{Context, Ready, let_go, returned, Came, gave, left, threw, stopped}
use Rattle.agree_bodies.proofs.Equal.{differs, equals}
use Rattle.agree_bodies.proofs.Statements.{run-followed}
use Rattle.agree_bodies.proofs.Trees.{LowAlike}
use Rattle.agree_bodies.proofs.Worlds.{World, SameValues}
use Rattle.agree_calls.specs.Methods.{parameters_in}
use Rattle.agree_calls.specs.Objects.{function_on, body_of, constructor_body, PassesObject, RunsOn, Constructs}
use Rattle.agree_calls.proofs.Calls.{Way, gives_up, hands_on, start, sound-start, ahead-start, outside-start, way, writes-nothing, body-fine, comes_back, Bound, bound, parameters-free, body-free}
use Rattle.agree_bodies.specs.Fine.{Fine, no_labels}
use Rattle.agree_bodies.specs.Standing.{types_referred, call_type}
use Rattle.sure_receivers.specs.Sure.{sure_locals}

receiver-named : (x : List ℕ) → core.named x ≡ core.receiver → ⊥
receiver-named x e = absurd (cc)

module _ (p : Place) (names : NamesDiffer p) where
  -- the receiver in front of other bindings
  with_receiver : js.Value → (Name → js.Cell) → Name → js.Cell
  with_receiver x b = js_meaning.binding (p.name core.receiver) (js.holds false x) b

  receiver_here : (x : js.Value) (b : Name → js.Cell) → js_meaning.binding (p.name core.receiver) (js.holds false x) b (p.name core.receiver) ≡ js.holds false x
  receiver_here x b = ap (λ (t : Bool). if t then js.holds false x else b (p.name core.receiver)) (equals (p.name core.receiver))

  local_there : (x : js.Value) (b : Name → js.Cell) (y : List ℕ) → js_meaning.binding (p.name core.receiver) (js.holds false x) b (p.name (core.named y)) ≡ b (p.name (core.named y))
  local_there x b y = ap (λ (t : Bool). if t then js.holds false x else b (p.name (core.named y))) (differs (p.name (core.named y)) (p.name core.receiver) (λ e. receiver-named y (names.variables (core.named y) core.receiver e)))

  free_there : (x : js.Value) (b : Name → js.Cell) (y : Name) → OfNoVariable p y → js_meaning.binding (p.name core.receiver) (js.holds false x) b y ≡ b y
  free_there x b y none = ap (λ (t : Bool). if t then js.holds false x else b y) (differs y (p.name core.receiver) (λ e. none core.receiver (sym e)))

  abbrev gives_this : core.Statements
  gives_this = core.statement (core.return_of None (core.variable_use core.receiver)) core.no_statements

  -- a body that comes to a value gives it, whatever stands behind the body
  comes_through : (d : Direction) (here : Code) (t : IrType) (k : Destination) → Way t k → is_no_type t ≡ false → (c : Context) (scope : Scope) (w : World) (before : js.Scope) (env : ir.Env) (next : js.Execution) (a : ir.Ended) (b : js.StatementEnd) → Came p here c scope k w before a b → Sim d (Valued p w env t) (ir_meaning.returned t env a) (then_do (js.next_statement next b) js_meaning.returned)
  comes_through d here _ _ gives_up value c scope w before env next a b came = impossible (sym value)
  comes_through d here _ _ (hands_on t i) value c scope w before env next _ _ (gave y v inner s sc u _ g (returned q j fits) r ks same) = comes_back d p here t (to_result t) (hands_on t i) c scope w before env _ _ (gave y v inner s sc u _ g (returned q j fits) r ks same)
  comes_through d here _ _ (hands_on t i) value c scope w before env next _ _ (left y l v inner s sc u e reach g a r ks same) = sim_wrong d (Valued p w env t) _
  comes_through d here _ _ (hands_on t i) value c scope w before env next _ _ (threw y v x inner s sc u g a r ks same) = comes_back d p here t (to_result t) (hands_on t i) c scope w before env _ _ (threw y v x inner s sc u g a r ks same)
  comes_through d here _ _ (hands_on t i) value c scope w before env next _ _ (stopped y inner s sc u q g r ks same) = sim_wrong d (Valued p w env t) _

  -- a call that runs a member on a receiver, and one of the member's function, are alike where the levels below are
  pub receive_alike : (d : Direction) (low : ir_meaning.Low) (bound_at : ℕ) (m : Member) (l : RunsOn p m) (called : Option MethodDef) → called ≡ Some l.definition → LowAlike (record { place = p; code = record { file = p.home (a_method m); owner = m.class; sure = sure_locals l.its_body }; direction = d; is_mutable = is_mutable_in l.definition l.its_body; low = low; js_low = js_meaning.below p.program bound_at }) → (w : World) (v : ir.Value) (x : js.Value) (vs : List ir.Value) (xs : List js.Value) (env : ir.Env) (s : ir.State) (u : js.State) → IsReceiver w m.class v x → SameValues w (types_referred m.method.params) vs xs → SameState p w s u → Sim d (Valued p w env (call_type m.method.result)) (ir_meaning.call low called (Some v) vs env s) (top_call p (js_meaning.below p.program bound_at) (a_method m) (x ∷ xs) u)
  receive_alike d low bound_at m l called runs below w v x vs xs env s u this values same = subst (λ t. Sim d (Valued p w env t) (ir_meaning.call low called (Some v) vs env s) (top_call p js_low (a_method m) (x ∷ xs) u)) l.result_is (subst (λ o. Sim d (Valued p w env l.definition.result) o (top_call p js_low (a_method m) (x ∷ xs) u)) (sym ir_is) (subst (λ o. Sim d (Valued p w env l.definition.result) (ir_meaning.body_call low l.definition.result (Some l.its_body) (Some v) (ir_meaning.parameters l.definition.params vs) env s) o) (sym js_is) (locals (bound p names w l.definition.params m.method.params vs xs names_declared l.parameters values))))
    where
      js_low : js_meaning.Low
      js_low = js_meaning.below p.program bound_at

      is_mutable : List ℕ → Bool
      is_mutable = is_mutable_in l.definition l.its_body

      here : Code
      here = record { file = p.home (a_method m); owner = m.class; sure = sure_locals l.its_body }

      within : ℕ → Setting
      within n = record { place = p; code = here; direction = d; is_mutable = is_mutable; low = low; js_low = js_meaning.below p.program n }

      scope : Scope
      scope = parameters_of l.definition.params

      k : Destination
      k = result_destination l.definition.result

      own : core.Statements
      own = body_of l.definition l.its_body

      whole : core.Statements
      whole = completed l.definition.namespace own

      text : core.Statements → tree.Statements
      text = statement_templates p.name p.label (p.has here.file).lookup

      code : js_meaning.Code
      code = function_on p (p.home (a_method m)) l.definition whole

      names_declared : Name → js.Cell
      names_declared = js_meaning.bind_declared code.body (λ x. js.absent)

      sc : js.Scope
      sc = js_meaning.function_scope (p.home (a_method m)) code (x ∷ xs)

      -- what runs behind the statements of the body
      behind : Namespace → ℕ → js.StatementEnd → Out js.StatementEnd
      behind Constructor (suc n) = js.next_statement (run (within n) gives_this)
      behind _ n = done

      in_turn : (n : Namespace) (j : ℕ) → js_meaning.below p.program j (text (completed n own)) sc u ≡ then_do (js_meaning.below p.program j (text own) sc u) (behind n j)
      in_turn Constructor (suc j) = run-followed (within j) own gives_this sc u
      in_turn Constructor zero = refl
      in_turn Public j = sym (then_do-right (js_meaning.below p.program j (text own) sc u))
      in_turn Private j = sym (then_do-right (js_meaning.below p.program j (text own) sc u))
      in_turn PublicStatic j = sym (then_do-right (js_meaning.below p.program j (text own) sc u))
      in_turn PrivateStatic j = sym (then_do-right (js_meaning.below p.program j (text own) sc u))

      js_body : Out js.ExpressionEnd
      js_body = then_do (then_do (js_low (text own) sc u) (behind l.definition.namespace bound_at)) js_meaning.returned

      ir_is : ir_meaning.call low called (Some v) vs env s ≡ ir_meaning.body_call low l.definition.result (Some l.its_body) (Some v) (ir_meaning.parameters l.definition.params vs) env s
      ir_is = ap (λ o. ir_meaning.call low o (Some v) vs env s) runs ∙ ap (λ o. ir_meaning.body_call low l.definition.result o (Some v) (ir_meaning.parameters l.definition.params vs) env s) l.has_body

      js_is : top_call p js_low (a_method m) (x ∷ xs) u ≡ js_body
      js_is = ap (λ o. js_meaning.code_call js_low (p.home (a_method m)) o (x ∷ xs) u) l.emitted ∙ ap (λ o. then_do o js_meaning.returned) (in_turn l.definition.namespace bound_at)

      locals : Bound p w l.definition.params vs xs names_declared → Sim d (Valued p w env l.definition.result) (ir_meaning.body_call low l.definition.result (Some l.its_body) (Some v) (ir_meaning.parameters l.definition.params vs) env s) js_body
      locals h = subst (λ o. Sim d (Valued p w env l.definition.result) (ir_meaning.body_call low l.definition.result (Some l.its_body) (Some v) o env s) js_body) (sym h.are) (subst (λ o. Sim d (Valued p w env l.definition.result) (then_do (low l.its_body inner s) (ir_meaning.returned l.definition.result env)) o) (sym (then_do-associative (js_low (text own) sc u) (behind l.definition.namespace bound_at) js_meaning.returned)) (sim_then d (Came p here (start is_mutable l.definition.params) scope k w sc) (Valued p w env l.definition.result) (low l.its_body inner s) (js_low (text own) sc u) (ir_meaning.returned l.definition.result env) (λ b. then_do (behind l.definition.namespace bound_at b) js_meaning.returned) (below (start is_mutable l.definition.params) k 1 l.its_body (sound-start is_mutable l.definition.params) (ahead-start is_mutable l.definition.params) (outside-start is_mutable l.definition.params (Own l.its_body) l.rules.once.fresh) (writes-nothing (λ y. ⊥) l.definition.result k (way l.definition.result)) (body-fine p.typing (p.has here.file) here.file m.class l.definition l.its_body l.rules) w inner s sc u ready same) (ends l.definition.namespace bound_at l.passes)))
        where
          outer : Name → js.Cell
          outer = js_meaning.bind_parameters (parameters_in p (names_of l.definition.params)) xs names_declared

          inner : ir.Env
          inner = record { this_value = Some v; locals = h.locals; sure = sure_locals l.its_body }

          back : (a : ir.Ended) (b : js.StatementEnd) → Came p here (start is_mutable l.definition.params) scope k w sc a b → Sim d (Valued p w env l.definition.result) (ir_meaning.returned l.definition.result env a) (js_meaning.returned b)
          back = comes_back d p here l.definition.result k (way l.definition.result) (start is_mutable l.definition.params) scope w sc env

          ends : (n : Namespace) (j : ℕ) → PassesObject n l.definition.result → (a : ir.Ended) (b : js.StatementEnd) → Came p here (start is_mutable l.definition.params) scope k w sc a b → Sim d (Valued p w env l.definition.result) (ir_meaning.returned l.definition.result env a) (then_do (behind n j b) js_meaning.returned)
          ends Constructor (suc j) value = comes_through d here l.definition.result k (way l.definition.result) value (start is_mutable l.definition.params) scope w sc env (run (within j) gives_this)
          ends Constructor zero value = back
          ends Public j value = back
          ends Private j value = back
          ends PublicStatic j value = back
          ends PrivateStatic j value = back

          ready : Ready p here scope (λ y. ⊥) w inner sc
          ready = record { sees = record { inside = record { file = refl; free = λ y none. free_there x outer y none ∙ parameters-free p names (names_of l.definition.params) xs names_declared y none (body-free p names (p.has here.file).lookup whole y none) }; this = subst (Receiving w m.class (Some v)) (sym (receiver_here x outer)) (on_receiver v x this); sure = refl; locals = λ y t i. subst (Holding w t (h.locals y)) (sym (local_there x outer y)) (h.hold y t i) }; «open» = λ y wr. absurd wr }

  -- behind the body of a constructor its function gives the object that it ran on
  comes_out : (d : Direction) (js_low : js_meaning.Low) (c : Context) (scope : Scope) (here : Code) (w : World) (before : js.Scope) (x : js.Value) (t : IrType) (env : ir.Env) → c.kept core.receiver → before.bindings (p.name core.receiver) ≡ js.holds false x → (a : ir.Ended) (b : js.StatementEnd) → Came p here c scope discard w before a b → Sim d (Built p w env x) (ir_meaning.returned t env a) (then_do (js.next_statement (js_meaning.execute_all p.program js_low (statement_templates p.name p.label (p.has here.file).lookup (core.statement (core.return_of None (core.variable_use core.receiver)) core.no_statements))) b) js_meaning.returned)
  comes_out d js_low c scope here w before x t env kept held _ _ (gave y v inner s sc u _ g let_go r ks same) = subst (λ (cell : js.Cell). Sim d (Built p w env x) (ir.given (ir_meaning.result_value t v) env s) (then_do (then_do (then_do (js_meaning.cell_value (js_meaning.or_outer cell (js_meaning.top_cell (owner p.program sc.file (p.name core.receiver)) (p.name core.receiver) u)) u) (js.in_statement sc (λ v s. done (js.ends (js.returns v) sc s)))) (js.next_statement (js_meaning.execute_all p.program js_low (statement_templates p.name p.label (p.has here.file).lookup core.no_statements)))) js_meaning.returned)) (sym (ks.same core.receiver (kept, λ e. e) ∙ held)) (sim_done d (Built p w env x) (ir.ends (ir.gives (ir_meaning.result_value t v)) env s) (js.gives x u) (built y (ir_meaning.result_value t v) s u g same))
  comes_out d js_low c scope here w before x t env kept held _ _ (left y l v inner s sc u e reach g a r ks same) = sim_wrong d (Built p w env x) _
  comes_out d js_low c scope here w before x t env kept held _ _ (threw y v q inner s sc u g a r ks same) = sim_done d (Built p w env x) (ir.ends (ir.throws v) env s) (js.throws q u) (failed y v q s u g a same)
  comes_out d js_low c scope here w before x t env kept held _ _ (stopped y inner s sc u q g r ks same) = sim_wrong d (Built p w env x) _

  -- a call of a constructor, and of its function, whose body runs with a unit less than this bound
  pub build_alike : (d : Direction) (low : ir_meaning.Low) (n : ℕ) (m : Member) (l : Constructs p m) → LowAlike (record { place = p; code = record { file = p.home (a_constructor m); owner = m.class; sure = sure_locals l.its_body }; direction = d; is_mutable = is_mutable_in l.definition l.its_body; low = low; js_low = js_meaning.below p.program (suc n) }) → (w : World) (v : ir.Value) (x : js.Value) (vs : List ir.Value) (xs : List js.Value) (env : ir.Env) (s : ir.State) (u : js.State) → IsReceiver w m.class v x → SameValues w (types_referred m.method.params) vs xs → SameState p w s u → Sim d (Built p w env x) (ir_meaning.call low (member_of p.classes m.class m.namespace m.method) (Some v) vs env s) (top_call p (js_meaning.below p.program (suc n)) (a_constructor m) (x ∷ xs) u)
  build_alike d low n m l below w v x vs xs env s u this values same = subst (λ o. Sim d (Built p w env x) o (top_call p js_low (a_constructor m) (x ∷ xs) u)) (sym ir_is) (subst (λ o. Sim d (Built p w env x) (ir_meaning.body_call low l.definition.result (Some l.its_body) (Some v) (ir_meaning.parameters l.definition.params vs) env s) o) (sym js_is) (locals (bound p names w l.definition.params m.method.params vs xs names_declared l.parameters values)))
    where
      js_low : js_meaning.Low
      js_low = js_meaning.below p.program (suc n)

      is_mutable : List ℕ → Bool
      is_mutable = is_mutable_in l.definition l.its_body

      here : Code
      here = record { file = p.home (a_constructor m); owner = m.class; sure = sure_locals l.its_body }

      z : Setting
      z = record { place = p; code = here; direction = d; is_mutable = is_mutable; low = low; js_low = js_meaning.below p.program n }

      scope : Scope
      scope = parameters_of l.definition.params

      own : core.Statements
      own = body_of l.definition l.its_body

      code : js_meaning.Code
      code = function_on p (p.home (a_constructor m)) l.definition (constructor_body l.definition l.its_body)

      names_declared : Name → js.Cell
      names_declared = js_meaning.bind_declared code.body (λ x. js.absent)

      sc : js.Scope
      sc = js_meaning.function_scope (p.home (a_constructor m)) code (x ∷ xs)

      js_body : Out js.ExpressionEnd
      js_body = then_do (then_do (run z own sc u) (js.next_statement (run z gives_this))) js_meaning.returned

      ir_is : ir_meaning.call low (member_of p.classes m.class m.namespace m.method) (Some v) vs env s ≡ ir_meaning.body_call low l.definition.result (Some l.its_body) (Some v) (ir_meaning.parameters l.definition.params vs) env s
      ir_is = ap (λ o. ir_meaning.call low o (Some v) vs env s) l.found ∙ ap (λ o. ir_meaning.body_call low l.definition.result o (Some v) (ir_meaning.parameters l.definition.params vs) env s) l.has_body

      js_is : top_call p js_low (a_constructor m) (x ∷ xs) u ≡ js_body
      js_is = ap (λ o. js_meaning.code_call js_low (p.home (a_constructor m)) o (x ∷ xs) u) l.emitted ∙ ap (λ o. then_do o js_meaning.returned) (run-followed z own gives_this sc u)

      locals : Bound p w l.definition.params vs xs names_declared → Sim d (Built p w env x) (ir_meaning.body_call low l.definition.result (Some l.its_body) (Some v) (ir_meaning.parameters l.definition.params vs) env s) js_body
      locals h = subst (λ o. Sim d (Built p w env x) (ir_meaning.body_call low l.definition.result (Some l.its_body) (Some v) o env s) js_body) (sym h.are) (subst (λ o. Sim d (Built p w env x) (then_do (low l.its_body inner s) (ir_meaning.returned l.definition.result env)) o) (sym (then_do-associative (run z own sc u) (js.next_statement (run z gives_this)) js_meaning.returned)) (sim_then d (Came p here (start is_mutable l.definition.params) scope discard w sc) (Built p w env x) (low l.its_body inner s) (run z own sc u) (ir_meaning.returned l.definition.result env) (λ b. then_do (js.next_statement (run z gives_this) b) js_meaning.returned) came (comes_out d (js_meaning.below p.program n) (start is_mutable l.definition.params) scope here w sc x l.definition.result env tt (receiver_here x outer))))
        where
          outer : Name → js.Cell
          outer = js_meaning.bind_parameters (parameters_in p (names_of l.definition.params)) xs names_declared

          inner : ir.Env
          inner = record { this_value = Some v; locals = h.locals; sure = sure_locals l.its_body }

          ready : Ready p here scope (λ y. ⊥) w inner sc
          ready = record { sees = record { inside = record { file = refl; free = λ y none. free_there x outer y none ∙ parameters-free p names (names_of l.definition.params) xs names_declared y none (body-free p names (p.has here.file).lookup (constructor_body l.definition l.its_body) y none) }; this = subst (Receiving w m.class (Some v)) (sym (receiver_here x outer)) (on_receiver v x this); sure = refl; locals = λ y t i. subst (Holding w t (h.locals y)) (sym (local_there x outer y)) (h.hold y t i) }; «open» = λ y wr. absurd wr }

          gone : result_destination l.definition.result ≡ discard
          gone = ap result_destination l.result_is

          fine : Fine p.typing is_mutable (p.has here.file) here (parameters_of l.definition.params) no_labels discard l.its_body
          fine = subst (λ k. Fine p.typing is_mutable (p.has here.file) here (parameters_of l.definition.params) no_labels k l.its_body) gone (body-fine p.typing (p.has here.file) here.file m.class l.definition l.its_body l.rules)

          came : Sim d (Came p here (start is_mutable l.definition.params) scope discard w sc) (low l.its_body inner s) (run z own sc u)
          came = subst (λ k. Sim d (Came p here (start is_mutable l.definition.params) scope discard w sc) (low l.its_body inner s) (run z (into is_mutable (sure_locals l.its_body) [] k 1 l.its_body).statements sc u)) (sym gone) (below (start is_mutable l.definition.params) discard 1 l.its_body (sound-start is_mutable l.definition.params) (ahead-start is_mutable l.definition.params) (outside-start is_mutable l.definition.params (Own l.its_body) l.rules.once.fresh) tt fine w inner s sc u ready same)
