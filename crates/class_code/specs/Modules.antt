-- The functions that load and store the one object of a module class.
use Rattle.std.specs.Prelude.{◌≡◌, ℕ, suc, Bool, true, false, List, [], ◌∷◌, ◌++◌, Option, Some, None, map, codes, if◌then◌else◌}
use Rattle.js_tree.specs.Names.{is_same_text}
use Rattle.js_tree.specs.Terms.{Name, Expression, no_expressions, null_literal, text_literal, name_use, call_of, conditional_of, binary_of, host_call, Statement, expression_statement, assign_name, return_of, Item, function_item, expression_item, Piece}
use Rattle.js_tree.specs.declared.operators.BinaryOperator.TheVariants.{StrictEqual}
use Rattle.js_tree.specs.declared.operators.HostFunction.TheVariants.{ConsoleLog}
use Rattle.js_tree.specs.Views.{statements_of}
use Rattle.outcomes.specs.Outcome.{Out, done, going, wrong, then_do}
use Rattle.sj_mangling.specs.Bindings.{class_binding}
use Rattle.sj_mangling.specs.declared.bindings.ClassBinding.TheVariants.{Instance, LoadModule, StoreModule}
use Rattle.sj_trees.specs.declared.classes.ClassKind.TheVariants as Kinds
use Rattle.js_mean.specs.Files.{owner}
use Rattle.js_mean.specs.Operators.{is_strictly_equal}
use Rattle.js_mean.specs.Rows.{main_file}
use Rattle.js_mean.specs.States.{Value, undefined, null, class, ClassLink, Cell, holds, State, ExpressionEnd, gives, with_value, Program}
use Rattle.js_mean.specs.Meaning.{Low, Code, below, binding, top_cell, code_among, code_of, code_call, construct}
use Rattle.entry_search.specs.Pieces.{Parts, pieces, init_name, load_body, load_piece, store_piece}
use Rattle.entry_search.specs.Rows.{empty_class}
use Rattle.entry_search.specs.Words.{object_class, class_name, x as argument, call1}
use Rattle.class_code.specs.Bridges.{IsTopFunction}

abbrev pub cell_name : Name → Name
cell_name = class_binding Instance

abbrev pub load_name : Name → Name
load_name = class_binding LoadModule

abbrev pub store_name : Name → Name
store_name = class_binding StoreModule

abbrev pub loader_code : Name → Code
loader_code c = record { parameters = []; body = statements_of (load_body c) }

-- a variable is set to the argument
abbrev pub setting_code : Name → Code
setting_code variable = record { parameters = codes "x" ∷ []; body = statements_of (assign_name variable argument ∷ []) }

abbrev pub storer_code : Name → Code
storer_code c = setting_code (cell_name c)

-- the state in which a variable at the top of a file holds this value
abbrev pub with_top : Name → Name → Value → State → State
with_top file x v s = record { heap = s.heap; tops = λ g y. if is_same_text g file then binding x (holds false v) (s.tops g) y else s.tops g y }

-- a value is put into the variable of a file, which is wrong where there is none that has started, and given
abbrev pub given_in_top : Name → Name → Value → State → Cell → Value → Out ExpressionEnd
given_in_top file x v s (holds false w) given = done (gives given (with_top file x v s))
given_in_top file x v s _ given = wrong

abbrev pub set_top : Name → Name → Value → Value → State → Out ExpressionEnd
set_top file x v given s = given_in_top file x v s (s.tops file x) given

-- the pieces have the code that these laws speak of
pub record ModulesHaveCodes : Type 0 where
  pub loader : (c : Name) (items : List Item) → code_among ((load_piece c).item ∷ items) (load_name c) ≡ Some (loader_code c)
  pub storer : (c : Name) (items : List Item) → code_among ((store_piece c).item ∷ items) (store_name c) ≡ Some (storer_code c)

-- `q_C` costs one unit, and puts its argument into the variable that its file has for its own
abbrev pub StoresTell : Type 0
StoresTell = (p : Program) (n : ℕ) (g c : Name) (v : Value) (s : State) → owner p g (cell_name c) ≡ Some g → code_call (below p (suc n)) g (Some (storer_code c)) (v ∷ []) s ≡ set_top g (cell_name c) v undefined s

-- what `g_C` uses: in its file the constructor and the class
pub record MakesModule (p : Program) (g c home : Name) (links : List ClassLink) (s : State) : Type 0 where
  pub constructor : IsTopFunction p g (init_name c) home s
  pub const : Bool
  pub class_is : top_cell (owner p g (class_name c)) (class_name c) s ≡ holds const (class links)

-- `ct_C__<init>;V(new c_C())`: the object is made, and the constructor runs on it
abbrev pub constructed : Program → Low → Name → Name → List ClassLink → State → Out ExpressionEnd
constructed p low c home links s = then_do (construct p low links links [] s) (with_value (λ v t. code_call low home (code_of p home (init_name c)) (v ∷ []) t))

-- `g_C` costs one unit. Where the variable, which its file has for its own, holds a value other than null, it gives that; where it holds null, what the constructor gives is put
-- into the variable and given
pub record LoadsTell : Type 0 where
  pub of_object : (p : Program) (n : ℕ) (g c : Name) (v : Value) (s : State) → owner p g (cell_name c) ≡ Some g → s.tops g (cell_name c) ≡ holds false v → is_strictly_equal v null ≡ false → code_call (below p (suc n)) g (Some (loader_code c)) [] s ≡ done (gives v s)
  pub of_null : (p : Program) (n : ℕ) (g c home : Name) (links : List ClassLink) (s : State) → owner p g (cell_name c) ≡ Some g → s.tops g (cell_name c) ≡ holds false null → MakesModule p g c home links s → code_call (below p (suc n)) g (Some (loader_code c)) [] s ≡ then_do (constructed p (below p n) c home links s) (with_value (λ v. set_top g (cell_name c) v v))

-- without a unit both are going
pub record ShortModulesGo : Type 0 where
  pub loader : (p : Program) (g c : Name) (vs : List Value) (s : State) → code_call (below p 0) g (Some (loader_code c)) vs s ≡ going
  pub storer : (p : Program) (g c : Name) (vs : List Value) (s : State) → code_call (below p 0) g (Some (storer_code c)) vs s ≡ going

-- programs made of pieces, whose meanings are worked out
abbrev parts_of : Name → Option Name → Bool → Bool → Parts
parts_of c superclass loaded stored = record { class = empty_class c Kinds.ModuleClass superclass []; ancestors = c ∷ object_class ∷ []; entries = []; fields = []; statics = []; instances = []; is_live = true; is_base = false; is_loaded = loaded; is_stored = stored; is_tested = false; is_cast = false }

abbrev items_of : Parts → List Item
items_of p = map (λ (q : Piece). q.item) (pieces p)

abbrev shows : Expression → Item
shows e = expression_item (host_call ConsoleLog e)

abbrev are_same : Expression → Expression → Item
are_same e f = shows (conditional_of (binary_of e StrictEqual f) (text_literal (codes "yes")) (text_literal (codes "no")))

abbrev loaded_l : Expression
loaded_l = call_of (load_name (codes "L")) no_expressions

-- the constructor shows a line behind these statements
abbrev constructor_with : List Statement → Item
constructor_with ss = function_item (init_name (codes "L")) (codes "$this" ∷ []) (statements_of (ss ++ expression_statement (host_call ConsoleLog (text_literal (codes "made"))) ∷ return_of (name_use (codes "$this")) ∷ []))

abbrev program_with : List Statement → Program
program_with ss = main_file (
    items_of (parts_of object_class None false false)
    ++ items_of (parts_of (codes "L") (Some object_class) true true)
    ++ constructor_with ss
    ∷ are_same loaded_l loaded_l
    ∷ expression_item (call1 (store_name (codes "L")) null_literal)
    ∷ shows (conditional_of (binary_of (name_use (cell_name (codes "L"))) StrictEqual null_literal) (text_literal (codes "none")) (text_literal (codes "one")))
    ∷ [])

-- a constructor that stores nothing; one that stores its object, and then loads it; and one that loads it before, and so enters itself again
abbrev pub worked_plain : Program
worked_plain = program_with []

abbrev pub worked_stored : Program
worked_stored = program_with (expression_statement (call1 (store_name (codes "L")) (name_use (codes "$this"))) ∷ expression_statement loaded_l ∷ [])

abbrev pub worked_again : Program
worked_again = program_with (expression_statement loaded_l ∷ [])

abbrev pub worked_lines : List (List ℕ)
worked_lines = codes "made" ∷ codes "yes" ∷ codes "none" ∷ []
