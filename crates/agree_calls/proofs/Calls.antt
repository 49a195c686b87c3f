-- A call: its parameters are bound, and behind its body the locals of the caller are there again.
use Rattle.std.proofs.Common.{◌≡◌, ℕ, Bool, true, false, List, [], ◌∷◌, Some, None, refl, sym, ap, ◌∙◌, subst, inl, inr, if◌then◌else◌, Option}
use Rattle.std.specs.Prelude.{nat_eq}
use Rattle.std.specs.Cmp.Lexicographic.{pointwise}
use Rattle.outcomes.specs.Outcome.{Out, done, then_do}
use Rattle.outcomes.specs.Agreement.{Direction, Sim}
use Rattle.outcomes.proofs.Simulation.{sim_done, sim_wrong, sim_then}
use Rattle.dispatch_laws.specs.Meaning as ir_meaning
use Rattle.dispatch_laws.specs.States as ir
use Rattle.sure_receivers.specs.Sure.{sure_locals}
use Rattle.dispatch_laws.specs.World.{member_of}
use Rattle.js_mean.specs.Meaning as js_meaning
use Rattle.js_mean.specs.Proper.{is_among, declared}
use Rattle.js_mean.specs.States as js
use Rattle.js_tree.specs.Terms.{Name}
use Rattle.sj_core.specs.Lookup.{Lookup}
use Rattle.sj_core.specs.Terms as core
use Rattle.agree_bodies.specs.Desugar.{is_mutable_in, result_destination, names_of, desugared}
use Rattle.agree_bodies.specs.Plain.{is_no_type}
use Rattle.agree_bodies.specs.Spill.{Destination, discard, to_result}
use Rattle.dispatch_laws.specs.Templates.{statement_templates}
use Rattle.sj_names.specs.declared.method_names.Member.{Member}
use Rattle.sj_trees.specs.declared.classes.ParamDef.{ParamDef}
use Rattle.sj_trees.specs.declared.types.IrType.{IrType}
use Rattle.sj_trees.specs.declared.types.IrType.TheVariants.{NoType}
use Rattle.agree_bodies.specs.Locals.{Own, IsParameter, parameters_of, with_local, Scope}
use Rattle.agree_bodies.specs.Settings.{Place, Code, no_receiver, Setting, SameState, Valued, valued, thrown, NamesDiffer, OfNoVariable, Holding, holding, a_function, function_call}
use Rattle.agree_bodies.proofs.Blocks.{Outside, bind-undeclared}
use Rattle.agree_bodies.proofs.Contexts.{Context, Writes, Sound, Ahead, Ready, let_go, returned, Came, gave, left, threw, stopped}
use Rattle.agree_bodies.proofs.Equal.{differs, equals, is-equal}
use Rattle.agree_bodies.proofs.Declared.{declared-named}
use Rattle.sj_names.proofs.Same.{impossible}
use Rattle.agree_bodies.proofs.Trees.{LowAlike}
use Rattle.agree_bodies.proofs.Worlds.{World, SameValue, same_undefined, SameValues, no_values, one_more}
use Rattle.agree_calls.specs.Methods.{parameters_in, function_of, Linked}
use Rattle.agree_bodies.specs.Methods.{HaveTypes, scene_of, KeepsRules}
use Rattle.sj_names.specs.declared.references.TypeRef.{TypeRef}
use Rattle.agree_bodies.specs.Standing.{types_referred, call_type}
use Rattle.agree_bodies.proofs.Mutable.{mutable-known, parameter-known}
use Rattle.agree_bodies.specs.Built.{Usable}
use Rattle.agree_bodies.proofs.Placed.{anywhere}
use Rattle.agree_bodies.specs.Fine.{Fine, Asks, no_labels}
use Rattle.sj_trees.specs.Term.{Term}
use Rattle.sj_trees.specs.declared.classes.MethodDef.{MethodDef}
use Rattle.sj_trees.specs.TypeOf.{type_of_term}
use Rattle.dispatch_laws.specs.Known.{Classes}
use Rattle.agree_bodies.specs.Rules.{Yields, nothing_wanted, fitting}

pub named_parameter : (ds : List ParamDef) (x : List ℕ) (t : IrType) → parameters_of ds x t → IsParameter ds x
named_parameter [] x t h = h
named_parameter (d ∷ ds) x t (inl h) = inl h.0
named_parameter (d ∷ ds) x t (inr h) = inr (named_parameter ds x t h.1)

one_type : (ds : List ParamDef) (x : List ℕ) (s t : IrType) → parameters_of ds x s → parameters_of ds x t → s ≡ t
one_type [] x s t h k = absurd h
one_type (d ∷ ds) x s t (inl h) (inl k) = h.1 ∙ sym k.1
one_type (d ∷ ds) x s t (inl h) (inr k) = absurd (k.0 h.0)
one_type (d ∷ ds) x s t (inr h) (inl k) = absurd (h.0 k.0)
one_type (d ∷ ds) x s t (inr h) (inr k) = one_type ds x s t h.1 k.1

-- what the body of a method is written in: its parameters, of which those that aren't mutable keep what they hold
abbrev pub Kept : (List ℕ → Bool) → (List ℕ → Type 0) → core.Variable → Type 0
Kept is_mutable scope (core.named x) = scope x × (is_mutable x ≡ false)
Kept is_mutable scope (core.numbered k) = ⊥
Kept is_mutable scope core.receiver = Unit {0}

abbrev pub start : (List ℕ → Bool) → List ParamDef → Context
start is_mutable ds = record { scope = parameters_of ds; writable = λ y. ⊥; written = λ y. ⊥; kept = Kept is_mutable (IsParameter ds); targets = []; reaches = λ l. Unit {0}; tries = Unit {0}; turning = ⊥ }

pub sound-start : (is_mutable : List ℕ → Bool) (ds : List ParamDef) → Sound is_mutable (start is_mutable ds)
sound-start is_mutable ds = record {
  hidden = λ x t wr g. wr;
  constant = λ x t g m. (named_parameter ds x t g, m);
  changing = λ x t g k m. impossible (sym k.1 ∙ m);
  alone = one_type ds;
  within = λ y wr. wr;
  aims = λ l. tt;
  reached = λ l r. tt;
  apart = λ t y k wr. wr;
  receiver = tt;
  received = λ wr. wr;
}

pub ahead-start : (is_mutable : List ℕ → Bool) (ds : List ParamDef) → Ahead (start is_mutable ds) 1
ahead-start is_mutable ds = record { writable = λ k h wr. wr; kept = λ k h i. i }

pub outside-start : (is_mutable : List ℕ → Bool) (ds : List ParamDef) (own : List ℕ → Type 0) → ((x : List ℕ) → own x → IsParameter ds x → ⊥) → Outside (start is_mutable ds) own
outside-start is_mutable ds own fresh = record { scope = λ x t o g. fresh x o (named_parameter ds x t g); writable = λ x o wr. wr; kept = λ x o k. fresh x o k.0 }

-- where the value of a body goes
pub data Way : IrType → Destination → Type 0 where
  gives_up : Way NoType discard
  hands_on : (t : IrType) → is_no_type t ≡ false → Way t (to_result t)

pub way : (t : IrType) → Way t (result_destination t)
way NoType = gives_up
way t = hands_on t refl

pub writes-nothing : (q : core.Variable → Type 0) (t : IrType) (k : Destination) → Way t k → Writes q k
writes-nothing q _ _ gives_up = tt
writes-nothing q _ _ (hands_on t h) = tt

pub result-same : (t : IrType) (v : ir.Value) → is_no_type t ≡ false → ir_meaning.result_value t v ≡ v
result-same NoType v h = impossible (sym h)
result-same t v h = refl

-- what the body of a method comes to may be brought out of it, as its result
asks-result : (w : Classes) (e : Term) (t : IrType) (k : Destination) → Way t k → Yields w e t → Asks w k (type_of_term e)
asks-result w e _ _ gives_up y = tt
asks-result w e _ _ (hands_on t h) (nothing_wanted none) = impossible (sym h ∙ ap is_no_type none)
asks-result w e _ _ (hands_on t h) (fitting f) = (f, λ none. impossible (sym h ∙ ap is_no_type none))

no_type : {A : Type 0} {t : IrType} → ◌≡◌ {A = Option IrType} None (Some t) → A
no_type e = impossible (cc)

pub body-fine : (w : Classes) (has : Usable) (file : Name) (c : List ℕ) (d : MethodDef) (e : Term) → KeepsRules w has c d e → Fine w (is_mutable_in d e) has (record { file = file; owner = c; sure = sure_locals e }) (parameters_of d.params) no_labels (result_destination d.result) e
body-fine w has file c d e r = record {
  scene = scene_of c d e;
  around = [];
  once = anywhere (λ l. Unit {0}) (Unit {0}) [] (λ l. tt) tt e r.once.once;
  amid = record { surely = refl; owned = refl; seen = λ x t h. h; values = r.values; changing = λ x p i m. parameter-known d e x p i m; targets = λ l t e. no_type e };
  written = mutable-known d e;
  asks = asks-result w e d.result (result_destination d.result) (way d.result) r.yields;
  typed = r.typed;
  boxed = r.boxed;
}

-- the end of a body is the end of its call
pub comes_back : (d : Direction) (p : Place) (file : Code) (t : IrType) (k : Destination) → Way t k → (c : Context) (scope : Scope) (w : World) (before : js.Scope) (env : ir.Env) (a : ir.Ended) (b : js.StatementEnd) → Came p file c scope k w before a b → Sim d (Valued p w env t) (ir_meaning.returned t env a) (js_meaning.returned b)
comes_back d p file _ _ gives_up c scope w before env _ _ (gave y v inner s sc u _ g let_go r ks same) = sim_done d (Valued p w env NoType) (ir.ends (ir.gives ir.undefined) env s) (js.gives js.undefined u) (valued y ir.undefined js.undefined s u g (record { stands = same_undefined; suits = refl; shaped = tt }) same)
comes_back d p file _ _ (hands_on t h) c scope w before env _ _ (gave y v inner s sc u _ g (returned _ j a) r ks same) = subst (λ x. Sim d (Valued p w env t) (ir.given x env s) (done (js.gives j u))) (sym (result-same t v h)) (sim_done d (Valued p w env t) (ir.ends (ir.gives v) env s) (js.gives j u) (valued y v j s u g a same))
comes_back d p file t k i c scope w before env _ _ (left y l v inner s sc u e reach g a r ks same) = sim_wrong d (Valued p w env t) (js_meaning.returned (js.ends e sc u))
comes_back d p file t k i c scope w before env _ _ (threw y v x inner s sc u g a r ks same) = sim_done d (Valued p w env t) (ir.ends (ir.throws v) env s) (js.throws x u) (thrown y v x s u g a same)
comes_back d p file t k i c scope w before env _ _ (stopped y inner s sc u q g r ks same) = sim_wrong d (Valued p w env t) (js_meaning.returned (js.ends js.breaks_nearest sc u))

-- the parameters hold their arguments on both sides
pub record Bound (p : Place) (w : World) (ds : List ParamDef) (vs : List ir.Value) (xs : List js.Value) (b : Name → js.Cell) : Type 0 where
  pub locals : ir.Locals
  pub are : ir_meaning.parameters ds vs ≡ Some locals
  pub hold : (x : List ℕ) (t : IrType) → parameters_of ds x t → Holding w t (locals x) (js_meaning.bind_parameters (parameters_in p (names_of ds)) xs b (p.name (core.named x)))

module _ (p : Place) (names : NamesDiffer p) where
  named-same : (x y : List ℕ) → core.named x ≡ core.named y → x ≡ y
  named-same x y e = cc

  one_bound : (w : World) (d : ParamDef) (ds : List ParamDef) (v : ir.Value) (vs : List ir.Value) (x : js.Value) (xs : List js.Value) (b : Name → js.Cell) → SameValue w d.tpe v x → Bound p w ds vs xs b → Bound p w (d ∷ ds) (v ∷ vs) (x ∷ xs) b
  one_bound w d ds v vs x xs b a others = record { locals = λ y. if pointwise nat_eq y d.name then Some v else others.locals y; are = ap (ir_meaning.holding d.name v) others.are; hold = λ y t h. go y t h (pointwise nat_eq y d.name) refl }
    where
      outer : Name → js.Cell
      outer = js_meaning.bind_parameters (parameters_in p (names_of ds)) xs b

      own : (y : List ℕ) (t : IrType) → y ≡ d.name → with_local d.name d.tpe (parameters_of ds) y t → t ≡ d.tpe
      own y t e (inl h) = h.1
      own y t e (inr h) = absurd (h.0 e)

      other : (y : List ℕ) (t : IrType) → (y ≡ d.name → ⊥) → with_local d.name d.tpe (parameters_of ds) y t → parameters_of ds y t
      other y t n (inl h) = absurd (n h.0)
      other y t n (inr h) = h.1

      go : (y : List ℕ) (t : IrType) → with_local d.name d.tpe (parameters_of ds) y t → (q : Bool) → pointwise nat_eq y d.name ≡ q → Holding w t (if pointwise nat_eq y d.name then Some v else others.locals y) (js_meaning.binding (p.name (core.named d.name)) (js.holds false x) outer (p.name (core.named y)))
      go y t h true e = let here : y ≡ d.name = is-equal y d.name e in subst (λ o. Holding w t o (js_meaning.binding (p.name (core.named d.name)) (js.holds false x) outer (p.name (core.named y)))) (sym (ap (λ (b : Bool). if b then Some v else others.locals y) e)) (subst (λ cell. Holding w t (Some v) cell) (sym (ap (λ (b : Bool). if b then js.holds false x else outer (p.name (core.named y))) (ap (λ a. pointwise nat_eq (p.name (core.named a)) (p.name (core.named d.name))) here ∙ equals (p.name (core.named d.name))))) (holding v x (subst (λ i. SameValue w i v x) (sym (own y t here h)) a)))
      go y t h false e = let apart : y ≡ d.name → ⊥ = λ i. impossible (sym (subst (λ n. pointwise nat_eq y n ≡ false) (sym i) e) ∙ equals y) in subst (λ o. Holding w t o (js_meaning.binding (p.name (core.named d.name)) (js.holds false x) outer (p.name (core.named y)))) (sym (ap (λ (b : Bool). if b then Some v else others.locals y) e)) (subst (λ cell. Holding w t (others.locals y) cell) (sym (ap (λ (b : Bool). if b then js.holds false x else outer (p.name (core.named y))) (differs (p.name (core.named y)) (p.name (core.named d.name)) (λ i. apart (named-same y d.name (names.variables (core.named y) (core.named d.name) i)))))) (others.hold y t (other y t apart h)))

  -- one list of arguments is the other's, and there are as many as parameters
  pub bound : (w : World) (ds : List ParamDef) (rs : List TypeRef) (vs : List ir.Value) (xs : List js.Value) (b : Name → js.Cell) → HaveTypes ds rs → SameValues w (types_referred rs) vs xs → Bound p w ds vs xs b
  bound w [] [] _ _ b types no_values = record { locals = λ x. None; are = refl; hold = λ x t h. absurd h }
  bound w [] (r ∷ rs) vs xs b types values = absurd types
  bound w (d ∷ ds) [] vs xs b types values = absurd types
  bound w (d ∷ ds) (r ∷ rs) _ _ b types (one_more _ v x _ vs xs a rest) = one_bound w d ds v vs x xs b (subst (λ t. SameValue w t v x) (sym types.0) a) (bound w ds rs vs xs b types.1 rest)

  -- no parameter has the name of a function
  pub parameters-free : (ns : List (List ℕ)) (xs : List js.Value) (b : Name → js.Cell) (y : Name) → OfNoVariable p y → b y ≡ js.absent → js_meaning.bind_parameters (parameters_in p ns) xs b y ≡ js.absent
  parameters-free [] xs b y none h = h
  parameters-free (n ∷ ns) [] b y none h = ap (λ (t : Bool). if t then js.holds false js.undefined else js_meaning.bind_parameters (parameters_in p ns) [] b y) (differs y (p.name (core.named n)) (λ e. none (core.named n) (sym e))) ∙ parameters-free ns [] b y none h
  parameters-free (n ∷ ns) (x ∷ xs) b y none h = ap (λ (t : Bool). if t then js.holds false x else js_meaning.bind_parameters (parameters_in p ns) xs b y) (differs y (p.name (core.named n)) (λ e. none (core.named n) (sym e))) ∙ parameters-free ns xs b y none h

  -- neither does a body declare one
  pub body-free : (lookup : Lookup) (ss : core.Statements) (y : Name) → OfNoVariable p y → js_meaning.bind_declared (statement_templates p.name p.label lookup ss) (λ x. js.absent) y ≡ js.absent
  body-free lookup ss y none = bind-undeclared (statement_templates p.name p.label lookup ss) (λ x. js.absent) y (go (is_among (declared (statement_templates p.name p.label lookup ss)) y) refl)
    where
      go : (b : Bool) → is_among (declared (statement_templates p.name p.label lookup ss)) y ≡ b → is_among (declared (statement_templates p.name p.label lookup ss)) y ≡ false
      go false e = e
      go true e = let n = declared-named p.name p.label lookup ss y e in absurd (none n.variable n.name)

  -- calls of a member and of its function are alike where the levels below are
  pub call_alike : (d : Direction) (low : ir_meaning.Low) (js_low : js_meaning.Low) (m : Member) (l : Linked p m) → LowAlike (record { place = p; code = record { file = p.home (a_function m); owner = m.class; sure = sure_locals l.its_body }; direction = d; is_mutable = is_mutable_in l.definition l.its_body; low = low; js_low = js_low }) → (w : World) (vs : List ir.Value) (xs : List js.Value) (env : ir.Env) (s : ir.State) (u : js.State) → SameValues w (types_referred m.method.params) vs xs → SameState p w s u → Sim d (Valued p w env (call_type m.method.result)) (ir_meaning.call low (member_of p.classes m.class m.namespace m.method) None vs env s) (function_call p js_low m xs u)
  call_alike d low js_low m l below w vs xs env s u values same = subst (λ t. Sim d (Valued p w env t) (ir_meaning.call low (member_of p.classes m.class m.namespace m.method) None vs env s) (function_call p js_low m xs u)) l.result_is (subst (λ o. Sim d (Valued p w env l.definition.result) o (function_call p js_low m xs u)) (sym ir_is) (subst (λ o. Sim d (Valued p w env l.definition.result) (ir_meaning.body_call low l.definition.result (Some l.its_body) None (ir_meaning.parameters l.definition.params vs) env s) o) (sym js_is) (locals (bound w l.definition.params m.method.params vs xs names_declared l.parameters values))))
    where
      is_mutable : List ℕ → Bool
      is_mutable = is_mutable_in l.definition l.its_body

      z : Setting
      z = record { place = p; code = record { file = p.home (a_function m); owner = m.class; sure = sure_locals l.its_body }; direction = d; is_mutable = is_mutable; low = low; js_low = js_low }

      here : Code
      here = record { file = p.home (a_function m); owner = m.class; sure = sure_locals l.its_body }

      scope : Scope
      scope = parameters_of l.definition.params

      k : Destination
      k = result_destination l.definition.result

      code : js_meaning.Code
      code = function_of p (p.home (a_function m)) l.definition l.its_body

      names_declared : Name → js.Cell
      names_declared = js_meaning.bind_declared code.body (λ x. js.absent)

      sc : js.Scope
      sc = js_meaning.function_scope (p.home (a_function m)) code xs

      js_body : Out js.ExpressionEnd
      js_body = then_do (js_low code.body sc u) js_meaning.returned

      ir_is : ir_meaning.call low (member_of p.classes m.class m.namespace m.method) None vs env s ≡ ir_meaning.body_call low l.definition.result (Some l.its_body) None (ir_meaning.parameters l.definition.params vs) env s
      ir_is = ap (λ o. ir_meaning.call low o None vs env s) l.found ∙ ap (λ o. ir_meaning.body_call low l.definition.result o None (ir_meaning.parameters l.definition.params vs) env s) l.has_body

      js_is : function_call p js_low m xs u ≡ js_body
      js_is = ap (λ o. js_meaning.code_call js_low (p.home (a_function m)) o xs u) l.emitted

      locals : Bound p w l.definition.params vs xs names_declared → Sim d (Valued p w env l.definition.result) (ir_meaning.body_call low l.definition.result (Some l.its_body) None (ir_meaning.parameters l.definition.params vs) env s) js_body
      locals h = subst (λ o. Sim d (Valued p w env l.definition.result) (ir_meaning.body_call low l.definition.result (Some l.its_body) None o env s) js_body) (sym h.are) (sim_then d (Came p here (start is_mutable l.definition.params) scope k w sc) (Valued p w env l.definition.result) (low l.its_body inner s) (js_low code.body sc u) (ir_meaning.returned l.definition.result env) js_meaning.returned (below (start is_mutable l.definition.params) k 1 l.its_body (sound-start is_mutable l.definition.params) (ahead-start is_mutable l.definition.params) (outside-start is_mutable l.definition.params (Own l.its_body) l.rules.once.fresh) (writes-nothing (λ y. ⊥) l.definition.result k (way l.definition.result)) (body-fine p.typing (p.has here.file) here.file m.class l.definition l.its_body l.rules) w inner s sc u ready same) (comes_back d p here l.definition.result k (way l.definition.result) (start is_mutable l.definition.params) scope w sc env))
        where
          inner : ir.Env
          inner = record { this_value = None; locals = h.locals; sure = sure_locals l.its_body }

          ready : Ready p here scope (λ y. ⊥) w inner sc
          ready = record { sees = record { inside = record { file = refl; free = λ y none. parameters-free (names_of l.definition.params) xs names_declared y none (body-free (p.has (p.home (a_function m))).lookup (desugared l.definition l.its_body).body y none) }; this = no_receiver (sc.bindings (p.name core.receiver)); sure = refl; locals = h.hold }; «open» = λ y wr. absurd wr }
