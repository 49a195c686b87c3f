-- Bridges hand calls on, and property lookup is a search.
use Rattle.std.proofs.Common.{◌≡◌, ℕ, suc, Bool, true, false, List, [], ◌∷◌, ◌++◌, length, map, Some, refl, sym, ap, ◌∙◌, cond, ◌||◌, ◌&&◌, append-nil, arith}
use Rattle.std.specs.Prelude.{is_some, not}
use Rattle.std.proofs.lemmas.Slice.Eq.{bytes_eq-Decides}
use Rattle.js_tree.specs.Names.{is_same_text}
use Rattle.js_tree.specs.Terms.{Name, Expression, Expressions, expression, this_use, call_of, Statements, no_statements, statement, return_of}
use Rattle.outcomes.specs.Outcome.{Lines, End, Done, Going, Wrong, Out, done, after, then_do}
use Rattle.outcomes.proofs.Sequence.{then_do-associative}
use Rattle.js_mean.specs.Classes.{method_code}
use Rattle.js_mean.specs.Objects.{method_on}
use Rattle.js_mean.specs.Proper.{is_among, are_distinct}
use Rattle.js_mean.specs.Files.{owner}
use Rattle.js_mean.specs.States.{Value, undefined, function, method, class, ClassLink, this_is, Cell, absent, holds, Scope, State, Program, Evaluation, ExpressionEnd, gives, throws, StatementEnd, ends, returns, with_value, in_statement, next_statement}
use Rattle.js_mean.specs.Meaning.{Low, below, binding, bind_parameters, class_bindings, member_scope, or_outer, cell_value, top_cell, name_value, in_order, arguments, call, evaluate, execute_all, code_of, code_call, method_call, returned}
use Rattle.entry_search.specs.Words.{uses}
use Rattle.class_code.specs.Bridges.{bridge, IsTopFunction, BridgesHandOn, first_with, IsMethodOf, LookupSearches}

same_is : (a b : Name) → is_same_text a b ≡ true → a ≡ b
same_is a b = (bytes_eq-Decides a b).0

pub same_text : (a : Name) → is_same_text a a ≡ true
same_text a = (bytes_eq-Decides a a).1 refl

pub differs_back : (a b : Name) → is_same_text a b ≡ false → is_same_text b a ≡ false
differs_back a b e = go (is_same_text b a) refl
  where
    go : (c : Bool) → is_same_text b a ≡ c → is_same_text b a ≡ false
    go true f = let t : is_same_text a b ≡ true = ap (is_same_text a) (same_is b a f) ∙ same_text a in cc
    go false f = f

or_false : (a b : Bool) → (a || b) ≡ false → (a ≡ false) × (b ≡ false)
or_false true b e = cc
or_false false b e = (refl, e)

not_true : (a b : Bool) → (not a && b) ≡ true → (a ≡ false) × (b ≡ true)
not_true true b e = cc
not_true false b e = (refl, e)

suc_same : (a b : ℕ) → suc a ≡ suc b → a ≡ b
suc_same a b e = omega (arith, e)

-- an outcome behind which each result is handed on as it is
behind-same : {A : Type 0} (l : Lines) (e : End A) (f : A → Out A) → ((a : A) → f a ≡ done a) → after l e f ≡ record { lines = l; end = e }
behind-same l (Done a) f same = ap (λ (o : Out _). record { lines = l ++ o.lines; end = o.end }) (same a) ∙ ap (λ (k : Lines). record { lines = k; end = Done a }) (append-nil l)
behind-same l Going f same = refl
behind-same l Wrong f same = refl

pub handed_on : {A : Type 0} (o : Out A) (f : A → Out A) → ((a : A) → f a ≡ done a) → then_do o f ≡ o
handed_on o f same = behind-same o.lines o.end f same

-- the names hold these values
pub data Hold (bs : Name → Cell) : List Name → List Value → Type 0 where
  hold_none : Hold bs [] []
  hold_more : (x : Name) (v : Value) (xs : List Name) (vs : List Value) → bs x ≡ holds false v → Hold bs xs vs → Hold bs (x ∷ xs) (v ∷ vs)

other_binding : (x y : Name) (c : Cell) (bs : Name → Cell) → is_same_text y x ≡ false → binding x c bs y ≡ bs y
other_binding x y c bs e = ap (λ (b : Bool). cond b c (bs y)) e

hold_behind : (x : Name) (c : Cell) (bs : Name → Cell) (ys : List Name) (vs : List Value) → is_among ys x ≡ false → Hold bs ys vs → Hold (binding x c bs) ys vs
hold_behind x c bs [] [] free hold_none = hold_none
hold_behind x c bs [] (v ∷ vs) free h = elim h [ ]
hold_behind x c bs (y ∷ ys) [] free h = elim h [ ]
hold_behind x c bs (y ∷ ys) (v ∷ vs) free (hold_more _ _ _ _ e rest) =
    let parts = or_false (is_same_text x y) (is_among ys x) free in
    hold_more y v ys vs (other_binding x y c bs (differs_back x y parts.0) ∙ e) (hold_behind x c bs ys vs parts.1 rest)

pub parameters_hold : (xs : List Name) (vs : List Value) (bs : Name → Cell) → are_distinct xs ≡ true → length xs ≡ length vs → Hold (bind_parameters xs vs bs) xs vs
parameters_hold [] [] bs d e = hold_none
parameters_hold [] (v ∷ vs) bs d e = absurd (omega (arith, e))
parameters_hold (x ∷ xs) [] bs d e = absurd (omega (arith, e))
parameters_hold (x ∷ xs) (v ∷ vs) bs d e =
    let parts = not_true (is_among xs x) (are_distinct xs) d in
    hold_more x v xs vs (ap (λ (b : Bool). cond b (holds false v) (bind_parameters xs vs bs x)) (same_text x)) (hold_behind x (holds false v) (bind_parameters xs vs bs) xs vs parts.0 (parameters_hold xs vs bs parts.1 (suc_same (length xs) (length vs) e)))

-- a name that is no parameter
pub parameters_leave : (xs : List Name) (vs : List Value) (bs : Name → Cell) (y : Name) → is_among xs y ≡ false → bind_parameters xs vs bs y ≡ bs y
parameters_leave [] vs bs y free = refl
parameters_leave (x ∷ xs) [] bs y free =
    let parts = or_false (is_same_text y x) (is_among xs y) free in
    other_binding x y (holds false undefined) (bind_parameters xs [] bs) parts.0 ∙ parameters_leave xs [] bs y parts.1
parameters_leave (x ∷ xs) (v ∷ vs) bs y free =
    let parts = or_false (is_same_text y x) (is_among xs y) free in
    other_binding x y (holds false v) (bind_parameters xs vs bs) parts.0 ∙ parameters_leave xs vs bs y parts.1

module _ (p : Program) where
  pub name_held : (x : Name) (c : Bool) (v : Value) (sc : Scope) (s : State) → sc.bindings x ≡ holds c v → name_value p x sc s ≡ done (gives v s)
  name_held x c v sc s e = ap (λ (k : Cell). cell_value (or_outer k (top_cell (owner p sc.file x) x s)) s) e

  pub name_at_top : (x : Name) (c : Bool) (v : Value) (sc : Scope) (s : State) → sc.bindings x ≡ absent → top_cell (owner p sc.file x) x s ≡ holds c v → name_value p x sc s ≡ done (gives v s)
  name_at_top x c v sc s e f = ap (λ (k : Cell). cell_value (or_outer k (top_cell (owner p sc.file x) x s)) s) e ∙ ap (λ (k : Cell). cell_value k s) f

  pub names_given : (low : Low) (xs : List Name) (vs : List Value) (sc : Scope) (s : State) (act : List Value → Evaluation) → Hold sc.bindings xs vs → in_order (arguments p low (uses xs)) act sc s ≡ act vs sc s
  names_given low [] [] sc s act hold_none = refl
  names_given low [] (v ∷ vs) sc s act h = elim h [ ]
  names_given low (x ∷ xs) [] sc s act h = elim h [ ]
  names_given low (x ∷ xs) (v ∷ vs) sc s act (hold_more _ _ _ _ e rest) = ap (λ (o : Out ExpressionEnd). then_do o (with_value (λ v. in_order (arguments p low (uses xs)) (λ ws. act (v ∷ ws)) sc))) (name_held x false v sc s e) ∙ names_given low xs vs sc s (λ ws. act (v ∷ ws)) rest

  -- a call of a function at the top whose value is returned
  pub call_given : (low : Low) (f g : Name) (c : Bool) (es : Expressions) (sc : Scope) (s : State) → sc.bindings f ≡ absent → top_cell (owner p sc.file f) f s ≡ holds c (function g f) → evaluate p low (call_of f es) sc s ≡ in_order (arguments p low es) (call p low (function g f)) sc s
  call_given low f g c es sc s e h = ap (λ (o : Out ExpressionEnd). then_do o (with_value (λ v. in_order (arguments p low es) (call p low v) sc))) (name_at_top f c (function g f) sc s e h)

  pub return_hands_on : (low : Low) (e : Expression) (ts : Statements) (sc : Scope) (s : State) → then_do (execute_all p low (statement (return_of e) ts) sc s) returned ≡ evaluate p low e sc s
  return_hands_on low e ts sc s = ap (λ (o : Out StatementEnd). then_do o returned) (then_do-associative (evaluate p low e sc s) (in_statement sc (λ v s. done (ends (returns v) sc s))) (next_statement (execute_all p low ts))) ∙ then_do-associative (evaluate p low e sc s) _ returned ∙ handed_on (evaluate p low e sc s) _ each
    where
      each : (k : ExpressionEnd) → then_do (then_do (in_statement sc (λ v s. done (ends (returns v) sc s)) k) (next_statement (execute_all p low ts))) returned ≡ done k
      each (gives v t) = refl
      each (throws v t) = refl

  module _ (n : ℕ) (l : ClassLink) (ls : List ClassLink) (xs : List Name) (f g : Name) (this : Value) (vs : List Value) (s : State) (d : are_distinct xs ≡ true) (same_length : length xs ≡ length vs) (free : is_among xs f ≡ false) (other : is_same_text f l.name ≡ false) (top : IsTopFunction p l.file f g s) where
    abbrev scope : Scope
    scope = member_scope l ls (this_is this) (bridge f xs) vs

    no_local : scope.bindings f ≡ absent
    no_local = parameters_leave xs vs (class_bindings l ls) f free ∙ other_binding l.name f (holds true (class (l ∷ ls))) (λ x. absent) other

    bridged : method_call (below p (suc n)) l ls (Some (bridge f xs)) this vs s ≡ code_call (below p n) g (code_of p g f) (this ∷ vs) s
    bridged = return_hands_on (below p n) (call_of f (expression this_use (uses xs))) no_statements scope s ∙ call_given (below p n) f g top.const (expression this_use (uses xs)) scope s no_local top.cell_is ∙ names_given (below p n) xs vs scope s (λ ws. call p (below p n) (function g f) (this ∷ ws)) (parameters_hold xs vs (class_bindings l ls) d same_length)

pub bridges_hand_on : BridgesHandOn
bridges_hand_on p n l ls xs f g this vs s d e free other top = bridged p n l ls xs f g this vs s d e free other top

module _ (p : Program) (link_of : Name → ClassLink) (x : Name) where
  abbrev has : Name → Bool
  has d = is_some (method_code p (link_of d) x)

  searched : (chain : List Name) (c : Name) → first_with has chain ≡ Some c → IsMethodOf link_of x c (method_on p (map link_of chain) x)
  searched [] c h = cc
  searched (d ∷ ds) c h = go (searched ds c) (has d) refl
    where
      go : (first_with has ds ≡ Some c → IsMethodOf link_of x c (method_on p (map link_of ds) x)) → (b : Bool) → has d ≡ b → IsMethodOf link_of x c (method_on p (map link_of (d ∷ ds)) x)
      go rest true e =
          let s : Some d ≡ Some c = sym (ap (λ (b : Bool). cond b (Some d) (first_with has ds)) e) ∙ h in
          let t : d ≡ c = cc in
          record { above = map link_of ds; is_method = ap (λ (b : Bool). cond b (Some (method (link_of d ∷ map link_of ds) x)) (method_on p (map link_of ds) x)) e ∙ ap (λ (z : Name). Some (method (link_of z ∷ map link_of ds) x)) t }
      go rest false e =
          let m = rest (sym (ap (λ (b : Bool). cond b (Some d) (first_with has ds)) e) ∙ h) in
          record { above = m.above; is_method = ap (λ (b : Bool). cond b (Some (method (link_of d ∷ map link_of ds) x)) (method_on p (map link_of ds) x)) e ∙ m.is_method }

pub lookup_searches : LookupSearches
lookup_searches p link_of x chain c h = searched p link_of x chain c h
