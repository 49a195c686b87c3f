-- The functions by which receivers are called under a reflective name, and the entries of objects that these call.
use Rattle.std.specs.Prelude.{◌≡◌, ℕ, ℤ, suc, Bool, true, false, List, [], ◌∷◌, length, Some, codes, if◌then◌else◌}
use Rattle.js_tree.specs.Names.{is_same_text}
use Rattle.js_tree.specs.Terms.{Name, text_literal, this_use, method_call_of, Statements, expression_statement}
use Rattle.js_tree.specs.Views.{statements_of}
use Rattle.outcomes.specs.Outcome.{Out, done, going, then_do}
use Rattle.sj_names.specs.declared.method_names.MethodName.{MethodName}
use Rattle.class_code.specs.Bridges.{IsTopFunction}
use Rattle.class_code.specs.Dispatch.{Reflected, own_case, reflected_body}
use Rattle.class_code.specs.Objects.{call_found}
use Rattle.class_code.specs.Pieces.{boxed_result, is_char}
use Rattle.class_code.specs.Words.{entry_name, public_function, parameters_of, uses, call1, only_return}
use Rattle.js_mean.specs.Objects.{callee, has_property}
use Rattle.js_mean.specs.Proper.{is_among, are_distinct}
use Rattle.js_mean.specs.States.{Value, undefined, boolean, number, big_int, text, object, ClassLink, this_is, Scope, State, ExpressionEnd, gives, throws, with_value, Program}
use Rattle.js_mean.specs.Meaning.{Low, Code, below, code_of, code_call, method_call, construct, execute_all, function_scope, member_scope, returned}
use Rattle.class_tests.specs.Kinds.{is_of, BoxesStand}
use Rattle.class_tests.specs.Tests.{TestStands}

abbrev pub reflective_code : MethodName → List ℕ → List Reflected → Code
reflective_code m message ts = record { parameters = codes "x" ∷ parameters_of m; body = reflected_body m message ts }

-- `return this.m_t(x, ..);`, a char as an object that holds it
abbrev pub proxy_code : MethodName → List Name → Code
proxy_code t xs = record { parameters = xs; body = only_return (boxed_result t (method_call_of this_use (entry_name t) (uses xs))) }

-- what a call gives is handed on, a char as an object that holds it
abbrev pub boxed_outcome : Program → Low → List ClassLink → Bool → Out ExpressionEnd → Out ExpressionEnd
boxed_outcome p low boxes b o = if b then then_do o (with_value (λ v. construct p low boxes boxes (v ∷ []))) else o

-- what a case uses: the test of its kind, the function that it calls, and for a char the class of objects that hold them
pub record ReflectedStands (p : Program) (g : Name) (home : Reflected → Name) (boxes : List ClassLink) (s : State) (t : Reflected) : Type 0 where
  pub test : TestStands p g boxes s t.kind
  pub called : IsTopFunction p g (public_function t.owner t.method) (home t) s
  pub boxed : is_char t.method.result ≡ true → BoxesStand p g boxes s

pub data AllReflected (p : Program) (g : Name) (home : Reflected → Name) (boxes : List ClassLink) (s : State) : List Reflected → Type 0 where
  reflected_none : AllReflected p g home boxes s []
  reflected_more : (t : Reflected) (ts : List Reflected) → ReflectedStands p g home boxes s t → AllReflected p g home boxes s ts → AllReflected p g home boxes s (t ∷ ts)

-- the first case whose kind the value is of runs its function, and where it is of none the last lines run
abbrev pub reflected_outcome : Program → ℕ → (Reflected → Name) → List ClassLink → List Reflected → Value → List Value → Out ExpressionEnd → State → Out ExpressionEnd
reflected_outcome p n home boxes [] v vs last s = last
reflected_outcome p n home boxes (t ∷ ts) v vs last s = if is_of s boxes t.kind v then boxed_outcome p (below p n) boxes (is_char t.method.result) (code_call (below p n) (home t) (code_of p (home t) (public_function t.owner t.method)) (v ∷ vs) s) else reflected_outcome p n home boxes ts v vs last s

-- the last lines: the entry of an object that has one, and else the exception
abbrev pub own_body : MethodName → List ℕ → Statements
own_body m message = statements_of (own_case m ∷ expression_statement (call1 (codes "$nme") (text_literal message)) ∷ [])

abbrev pub own_lines : Program → ℕ → Name → MethodName → List ℕ → List Reflected → Value → List Value → State → Out ExpressionEnd
own_lines p n g m message ts v vs s = then_do (execute_all p (below p n) (own_body m message) (function_scope g (reflective_code m message ts) (v ∷ vs)) s) returned

-- the function costs one unit
abbrev pub ReflectionTells : Type 0
ReflectionTells = (p : Program) (n : ℕ) (g : Name) (home : Reflected → Name) (boxes : List ClassLink) (m : MethodName) (message : List ℕ) (ts : List Reflected) (v : Value) (vs : List Value) (s : State) →
    AllReflected p g home boxes s ts → are_distinct (codes "x" ∷ parameters_of m) ≡ true → length (parameters_of m) ≡ length vs →
    code_call (below p (suc (suc n))) g (Some (reflective_code m message ts)) (v ∷ vs) s ≡ reflected_outcome p (suc n) home boxes ts v vs (own_lines p (suc n) g m message ts v vs s) s

-- within a unit it is going, where it has a case
abbrev pub ShortReflectionsGo : Type 0
ShortReflectionsGo = (p : Program) (g : Name) (boxes : List ClassLink) (m : MethodName) (message : List ℕ) (t : Reflected) (ts : List Reflected) (v : Value) (vs : List Value) (s : State) →
    TestStands p g boxes s t.kind → are_distinct (codes "x" ∷ parameters_of m) ≡ true → length (parameters_of m) ≡ length vs →
    code_call (below p 1) g (Some (reflective_code m message (t ∷ ts))) (v ∷ vs) s ≡ going

-- whether a value other than null has an entry of the name: an object may have one, any other value has none
pub data HasEntry (p : Program) (s : State) (m : MethodName) : Value → Bool → Type 0 where
  on_object : (a : ℕ) (b : Bool) → has_property p s (text (entry_name m)) (object a) ≡ Some b → HasEntry p s m (object a) b
  on_undefined : HasEntry p s m undefined false
  on_boolean : (b : Bool) → HasEntry p s m (boolean b) false
  on_number : (z : ℤ) → HasEntry p s m (number z) false
  on_big_int : (z : ℤ) → HasEntry p s m (big_int z) false
  on_text : (us : List ℕ) → HasEntry p s m (text us) false

-- a call that gives its value up
abbrev pub given_up : ExpressionEnd → Out ExpressionEnd
given_up (gives v s) = done (gives undefined s)
given_up (throws v s) = done (throws v s)

-- so the last lines call the entry, or the helper that throws the exception
abbrev pub own_outcome : Program → Low → MethodName → List ℕ → Name → Value → List Value → Scope → State → Bool → Out ExpressionEnd
own_outcome p low m message h v vs sc s true = call_found p low v (callee p s v (entry_name m)) vs sc s
own_outcome p low m message h v vs sc s false = then_do (code_call low h (code_of p h (codes "$nme")) (text message ∷ []) s) given_up

abbrev pub OwnLinesRun : Type 0
OwnLinesRun = (p : Program) (n : ℕ) (g h : Name) (m : MethodName) (message : List ℕ) (ts : List Reflected) (v : Value) (vs : List Value) (s : State) (b : Bool) →
    IsTopFunction p g (codes "$nme") h s → HasEntry p s m v b → are_distinct (codes "x" ∷ parameters_of m) ≡ true → length (parameters_of m) ≡ length vs →
    own_lines p n g m message ts v vs s ≡ own_outcome p (below p n) m message h v vs (function_scope g (reflective_code m message ts) (v ∷ vs)) s b

-- an entry of a reflective name costs one unit, and hands on to the entry of the method that it names
abbrev pub ProxiesHandOn : Type 0
ProxiesHandOn = (p : Program) (n : ℕ) (l : ClassLink) (ls : List ClassLink) (xs : List Name) (t : MethodName) (boxes : List ClassLink) (this : Value) (vs : List Value) (s : State) →
    are_distinct xs ≡ true → length xs ≡ length vs → is_among xs (codes "$C") ≡ false → is_same_text (codes "$C") l.name ≡ false → (is_char t.result ≡ true → BoxesStand p l.file boxes s) →
    method_call (below p (suc n)) l ls (Some (proxy_code t xs)) this vs s ≡ boxed_outcome p (below p n) boxes (is_char t.result) (call_found p (below p n) this (callee p s this (entry_name t)) vs (member_scope l ls (this_is this) (proxy_code t xs) vs) s)
