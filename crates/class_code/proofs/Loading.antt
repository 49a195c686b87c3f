-- The functions that load and store the one object of a module class.
use mathlib.Core.Path.{fun_ext}
use Rattle.std.specs.Prelude.{codes, if◌then◌else◌}
use Rattle.std.proofs.Common.{◌≡◌, ℕ, suc, Bool, true, false, List, [], ◌∷◌, Option, Some, refl, ap, ◌∙◌, cond}
use Rattle.js_tree.specs.Terms.{Name, no_expressions, expression, null_literal, name_use, new_of, Statements, no_statements, statement, assign_name, return_of}
use Rattle.js_tree.specs.Views.{statements_of}
use Rattle.js_tree.specs.declared.operators.BinaryOperator.TheVariants.{StrictEqual}
use Rattle.outcomes.specs.Outcome.{Out, done, then_do}
use Rattle.outcomes.proofs.Sequence.{then_do-associative}
use Rattle.js_mean.specs.Files.{owner}
use Rattle.js_mean.specs.Operators.{is_strictly_equal}
use Rattle.js_mean.specs.States.{Value, undefined, null, boolean, function, class, ClassLink, Cell, absent, unset, holds, Scope, State, Program, ExpressionEnd, gives, throws, StatementEnd, ends, normally, with_value, in_statement, next_statement}
use Rattle.js_mean.specs.Meaning.{Low, binary, below, binding, top_cell, in_order, call, construct_value, evaluate, execute_all, code_among, code_call, function_scope, assign_top, is_own, in_block, enter, leave, leaving, taken, nothing, start, returned}
use Rattle.entry_search.specs.Words.{class_name, is_null}
use Rattle.entry_search.specs.Pieces.{init_name, made_instance, new_instance}
use Rattle.class_code.specs.Modules.{cell_name, load_name, store_name, loader_code, storer_code, with_top, given_in_top, set_top, ModulesHaveCodes, StoresTell, MakesModule, constructed, LoadsTell, ShortModulesGo}
use Rattle.class_code.proofs.Bridge.{same_text, name_at_top, call_given, return_hands_on}

-- what an outcome is handed to, one behind the other
flat : {A B C D E F : Type 0} (o : Out A) (f : A → Out B) (g : B → Out C) (h : C → Out D) (k : D → Out E) (r : E → Out F) → then_do (then_do (then_do (then_do (then_do o f) g) h) k) r ≡ then_do o (λ a. then_do (then_do (then_do (then_do (f a) g) h) k) r)
flat o f g h k r = ap (λ q. then_do (then_do (then_do q h) k) r) (then_do-associative o f g) ∙ ap (λ q. then_do (then_do q k) r) (then_do-associative o (λ a. then_do (f a) g) h) ∙ ap (λ q. then_do q r) (then_do-associative o (λ a. then_do (then_do (f a) g) h) k) ∙ then_do-associative o (λ a. then_do (then_do (then_do (f a) g) h) k) r

-- the variable holds what was put into it
pub top_set : (g x : Name) (v : Value) (s : State) → (with_top g x v s).tops g x ≡ holds false v
top_set g x v s = ap (λ (b : Bool). if b then binding x (holds false v) (s.tops g) x else s.tops g x) (same_text g) ∙ ap (λ (b : Bool). if b then holds false v else s.tops g x) (same_text x)

-- the object is made, and its constructor runs on it, in any scope of the file that has no binding of these names
pub instance_made : (p : Program) (low : Low) (g c home : Name) (links : List ClassLink) (sc : Scope) (s : State) → sc.file ≡ g → sc.bindings (init_name c) ≡ absent → sc.bindings (class_name c) ≡ absent → MakesModule p g c home links s → evaluate p low (made_instance c) sc s ≡ constructed p low c home links s
instance_made p low g c home links sc s here free clear makes =
    call_given p low (init_name c) home makes.constructor.const (expression (new_of (class_name c) no_expressions) no_expressions) sc s free (ap (λ (f : Name). top_cell (owner p f (init_name c)) (init_name c) s) here ∙ makes.constructor.cell_is)
    ∙ ap (λ (o : Out ExpressionEnd). then_do (then_do o (with_value (λ f. in_order [] (construct_value p low f) sc))) (with_value (λ v. in_order [] (λ vs. call p low (function home (init_name c)) (v ∷ vs)) sc))) (name_at_top p (class_name c) makes.const (class links) sc s clear (ap (λ (f : Name). top_cell (owner p f (class_name c)) (class_name c) s) here ∙ makes.class_is))

module _ (p : Program) (n : ℕ) (g c : Name) (owned : owner p g (cell_name c) ≡ Some g) where
  abbrev variable : Name
  variable = cell_name c

  abbrev low : Low
  low = below p n

  cell_top : (k : Cell) (s : State) → s.tops g variable ≡ k → top_cell (owner p g variable) variable s ≡ k
  cell_top k s h = ap (λ (o : Option Name). top_cell o variable s) owned ∙ h

  stored : (v : Value) (s : State) → code_call (below p (suc n)) g (Some (storer_code c)) (v ∷ []) s ≡ set_top g variable v undefined s
  stored v s = ap (λ (o : Option Name). behind (assign_top (is_own g o) variable v (top_cell o variable s) scope s)) owned ∙ ap (λ (b : Bool). behind (assign_top b variable v (s.tops g variable) scope s)) (same_text g) ∙ in_cell (s.tops g variable)
    where
      scope : Scope
      scope = function_scope g (storer_code c) (v ∷ [])

      behind : Out StatementEnd → Out ExpressionEnd
      behind o = then_do (then_do o (next_statement (execute_all p low no_statements))) returned

      in_cell : (k : Cell) → behind (assign_top true variable v k scope s) ≡ given_in_top g variable v s k undefined
      in_cell absent = refl
      in_cell (unset b) = refl
      in_cell (holds true w) = refl
      in_cell (holds false w) = refl

  abbrev outer : Scope
  outer = function_scope g (loader_code c) []

  abbrev filling : Statements
  filling = new_instance c variable

  abbrev last : Statements
  last = statement (return_of (name_use variable)) no_statements

  -- what follows the test of the variable
  abbrev behind_test : Out ExpressionEnd → Out ExpressionEnd
  behind_test o = then_do (then_do (then_do o (in_statement outer (λ v. taken (in_block filling (execute_all p low filling)) nothing v outer))) (next_statement (execute_all p low last))) returned

  tested : (v : Value) (s : State) → s.tops g variable ≡ holds false v → evaluate p low (is_null (name_use variable)) outer s ≡ done (gives (boolean (is_strictly_equal v null)) s)
  tested v s held = ap (λ (o : Out ExpressionEnd). then_do o (with_value (λ w. in_order (evaluate p low null_literal ∷ []) (λ ws. binary StrictEqual (w ∷ ws)) outer))) (name_at_top p variable false v outer s refl (cell_top (holds false v) s held))

  -- at the end the variable is given
  given_last : (v : Value) (sc : Scope) (s : State) → sc.file ≡ g → sc.bindings variable ≡ absent → s.tops g variable ≡ holds false v → then_do (execute_all p low last sc s) returned ≡ done (gives v s)
  given_last v sc s here free held = return_hands_on p low (name_use variable) no_statements sc s ∙ name_at_top p variable false v sc s free (ap (λ (f : Name). top_cell (owner p f variable) variable s) here ∙ cell_top (holds false v) s held)

  of_object : (v : Value) (s : State) → s.tops g variable ≡ holds false v → is_strictly_equal v null ≡ false → code_call (below p (suc n)) g (Some (loader_code c)) [] s ≡ done (gives v s)
  of_object v s held there = ap behind_test (tested v s held) ∙ ap (λ (b : Bool). behind_test (done (gives (boolean b) s))) there ∙ given_last v outer s refl refl held

  module _ (home : Name) (links : List ClassLink) (s : State) (held : s.tops g variable ≡ holds false null) (makes : MakesModule p g c home links s) where
    abbrev inner : Scope
    inner = enter filling outer

    abbrev with_x : Value → Scope
    with_x v = start true (codes "x") v inner

    -- what follows the constructor's call, and what follows the assignment
    abbrev named : ExpressionEnd → Out StatementEnd
    named = in_statement inner (λ v t. done (ends normally (start true (codes "x") v inner) t))

    abbrev put : StatementEnd → Out StatementEnd
    put = next_statement (execute_all p low (statements_of (assign_name variable (name_use (codes "x")) ∷ [])))

    abbrev leaves : StatementEnd → Out StatementEnd
    leaves = leaving filling outer

    abbrev ahead : StatementEnd → Out StatementEnd
    ahead = next_statement (execute_all p low last)

    abbrev behind_put : Out StatementEnd → Out ExpressionEnd
    behind_put o = then_do (then_do (then_do (then_do o (next_statement (execute_all p low no_statements))) leaves) ahead) returned

    each : (k : ExpressionEnd) → then_do (then_do (then_do (then_do (named k) put) leaves) ahead) returned ≡ with_value (λ v. set_top g variable v v) k
    each (throws v t) = refl
    each (gives v t) = ap (λ (o : Option Name). behind_put (assign_top (is_own g o) variable v (top_cell o variable t) (with_x v) t)) owned ∙ ap (λ (b : Bool). behind_put (assign_top b variable v (t.tops g variable) (with_x v) t)) (same_text g) ∙ in_cell (t.tops g variable)
      where
        in_cell : (k : Cell) → behind_put (assign_top true variable v k (with_x v) t) ≡ given_in_top g variable v t k v
        in_cell absent = refl
        in_cell (unset b) = refl
        in_cell (holds true w) = refl
        in_cell (holds false w) = given_last v (leave filling outer (with_x v)) (with_top g variable v t) refl refl (top_set g variable v t)

    of_null : code_call (below p (suc n)) g (Some (loader_code c)) [] s ≡ then_do (constructed p low c home links s) (with_value (λ v. set_top g variable v v))
    of_null =
        ap behind_test (tested null s held)
        ∙ flat (evaluate p low (made_instance c) inner s) named put leaves ahead returned
        ∙ ap (then_do (evaluate p low (made_instance c) inner s)) (fun_ext each)
        ∙ ap (λ (o : Out ExpressionEnd). then_do o (with_value (λ v. set_top g variable v v))) (instance_made p low g c home links inner s refl refl refl makes)

pub loads_tell : LoadsTell
loads_tell = record { of_object = λ p n g c v s owned held there. of_object p n g c owned v s held there; of_null = λ p n g c home links s owned held makes. of_null p n g c owned home links s held makes }

pub stores_tell : StoresTell
stores_tell p n g c v s owned = stored p n g c owned v s

pub short_modules_go : ShortModulesGo
short_modules_go = record { loader = λ p g c vs s. refl; storer = λ p g c vs s. refl }

pub modules_have_codes : ModulesHaveCodes
modules_have_codes = record { loader = λ c items. ap (λ (b : Bool). cond b (Some (loader_code c)) (code_among items (load_name c))) (same_text (load_name c)); storer = λ c items. ap (λ (b : Bool). cond b (Some (storer_code c)) (code_among items (store_name c))) (same_text (store_name c)) }
