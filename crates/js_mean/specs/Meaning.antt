-- The meaning of expressions, statements and items with a bound. Sections are those of ECMA-262, 11th edition (2020).
use Rattle.std.specs.Prelude.{ℕ, zero, suc, Bool, true, false, not, List, [], ◌∷◌, ◌||◌, ℤ, pos, slice_get, codes, Option, Some, None, if◌then◌else◌}
use Rattle.std.specs.List.{list_any}
use Rattle.int_arithmetic.specs.BigInts.{is_in_range}
use Rattle.int_arithmetic.specs.Numbers.{is_exact, quotient_or_zero, remainder_or_zero}
use Rattle.js_tree.specs.Names.{is_same_text}
use Rattle.js_tree.specs.Terms.{Name, Expression, this_use, property_of, index_of, method_call_of, new_of, new_array_of, list_of, null_literal, boolean_literal, undefined_literal, number_literal, big_literal, text_literal, name_use, call_of, binary_of, unary_of, conditional_of, host_call, host_call_of_two, Expressions, no_expressions, expression, Statement, const_of, let_of, declare_of, expression_statement, assign_name, assign_property, assign_index, super_call, throw_of, return_of, break_nearest, break_to, if_only, if_else, while_of, do_forever, labeled_of, try_catch, try_finally, switch_on, Statements, no_statements, statement, Cases, no_cases, switch_case, Property, Member, Item, const_item, object_item, let_item, expression_item, function_item, class_item, subclass_item, Module}
use Rattle.js_tree.specs.declared.operators.BinaryOperator.{BinaryOperator}
use Rattle.js_tree.specs.declared.operators.BinaryOperator.TheVariants.{And, Or, BitOr, Divide, Remainder, In, InstanceOf}
use Rattle.js_tree.specs.declared.operators.HostFunction.TheVariants.{BigInt, Number, StringFromCharCode, ConsoleLog}
use Rattle.js_tree.specs.declared.operators.HostOperation.TheVariants.{BigIntAsIntN, BigIntAsUintN, MathImul}
use Rattle.js_tree.specs.declared.operators.UnaryOperator.TheVariants.{Not, TypeOf}
use Rattle.outcomes.specs.Outcome.{Out, done, going, wrong, says, then_do}
pub use Rattle.js_mean.specs.Classes.{Code}
use Rattle.js_mean.specs.Classes.{constructor_among, handed_on, members_of, method_code}
use Rattle.js_mean.specs.Files.{module_among, items_in, owner}
use Rattle.js_mean.specs.Objects.{property, element, has_property, is_instance, allocated, with_stored, next_address, no_properties, with_property, set_property, set_element, array_of, Callee, fill_of, value_called, callee, filled, type_word}
use Rattle.js_mean.specs.Operators.{to_boolean, to_number, to_bits, is_strictly_equal, binary_value, imul_value, to_big, number_of, unit_of, as_signed_value, as_unsigned_value}
use Rattle.js_mean.specs.Proper.{declared, is_among}
use Rattle.js_mean.specs.States.{Value, undefined, null, boolean, number, big_int, text, object, function, class, method, ClassLink, array, Making, This, this_is, making, Cell, absent, unset, holds, State, Scope, ExpressionEnd, gives, throws, Evaluation, Completion, normally, breaks, breaks_nearest, returns, thrown_with, StatementEnd, ends, Execution, with_value, in_statement, next_statement, Program}

-- statements run with one unit less than what stands around them: the bodies of functions and the next turns of loops
abbrev pub Low : Type 0
Low = Statements → Execution

abbrev pub code_among : List Item → Name → Option Code
code_among [] x = None
code_among (function_item f xs ss ∷ is) x = if is_same_text x f then Some (record { parameters = xs; body = ss }) else code_among is x
code_among (i ∷ is) x = code_among is x

abbrev pub code_in : Option Module → Name → Option Code
code_in None x = None
code_in (Some m) x = code_among m.items x

-- the function of this name that stands at the top of this file
abbrev pub code_of : Program → Name → Name → Option Code
code_of p f x = code_in (module_among p f) x

-- the binding of the name that is nearest (8.1.2.1)
abbrev pub or_outer : Cell → Cell → Cell
or_outer absent outer = outer
or_outer (unset const) outer = unset const
or_outer (holds const v) outer = holds const v

-- the binding of a name at the top of a file, which may be one of another file (8.1.1.5.1)
abbrev pub top_cell : Option Name → Name → State → Cell
top_cell None x s = absent
top_cell (Some f) x s = s.tops f x

abbrev pub cell_of : Program → Name → Scope → State → Cell
cell_of p x sc s = or_outer (sc.bindings x) (top_cell (owner p sc.file x) x s)

-- the value of a name; a name without a binding, or with one that hasn't started, is an error (8.1.1.1.6, 12.1.6)
abbrev pub cell_value : Cell → State → Out ExpressionEnd
cell_value absent s = wrong
cell_value (unset const) s = wrong
cell_value (holds const v) s = done (gives v s)

abbrev pub name_value : Program → Name → Evaluation
name_value p x sc s = cell_value (cell_of p x sc s) s

-- expressions from left to right, and then what is done with their values (12.3.8.1)
abbrev pub in_order : List Evaluation → (List Value → Evaluation) → Evaluation
in_order [] act sc s = act [] sc s
in_order (e ∷ es) act sc s = then_do (e sc s) (with_value (λ v. in_order es (λ vs. act (v ∷ vs)) sc))

-- the host's `console.log`, which shows the text that it is given
abbrev pub log : List Value → Evaluation
log (text us ∷ []) sc s = says us (gives undefined s)
log _ sc s = wrong

abbrev pub binding : Name → Cell → (Name → Cell) → Name → Cell
binding x cell bindings y = if is_same_text y x then cell else bindings y

-- parameters as bindings: a missing argument is undefined, and one too many is dropped (9.2.10)
abbrev pub bind_parameters : List Name → List Value → (Name → Cell) → Name → Cell
bind_parameters [] vs bindings = bindings
bind_parameters (x ∷ xs) [] bindings = binding x (holds false undefined) (bind_parameters xs [] bindings)
bind_parameters (x ∷ xs) (v ∷ vs) bindings = binding x (holds false v) (bind_parameters xs vs bindings)

-- the names that a list of statements declares, which haven't started (13.2.14, 9.2.10)
abbrev pub bind_declared : Statements → (Name → Cell) → Name → Cell
bind_declared no_statements bindings = bindings
bind_declared (statement (const_of x e) ss) bindings = binding x (unset true) (bind_declared ss bindings)
bind_declared (statement (let_of x e) ss) bindings = binding x (unset false) (bind_declared ss bindings)
bind_declared (statement (declare_of x) ss) bindings = binding x (unset false) (bind_declared ss bindings)
bind_declared (statement _ ss) bindings = bind_declared ss bindings

-- what the body of a function runs in when it is called by its name: the code is strict, so `this` is undefined (9.2.1.2)
abbrev pub function_scope : Name → Code → List Value → Scope
function_scope f c vs = record { file = f; this_value = this_is undefined; bindings = bind_parameters c.parameters vs (bind_declared c.body (λ x. absent)) }

-- the completion of a body as the end of its call; a body that comes to its end gives undefined (9.2.1)
abbrev pub returned : StatementEnd → Out ExpressionEnd
returned (ends normally sc s) = done (gives undefined s)
returned (ends (returns v) sc s) = done (gives v s)
returned (ends (thrown_with v) sc s) = done (throws v s)
returned (ends (breaks x) sc s) = wrong
returned (ends breaks_nearest sc s) = wrong

-- inside a class its name is a constant of its own (14.6.13)
abbrev pub class_bindings : ClassLink → List ClassLink → Name → Cell
class_bindings l ls = binding l.name (holds true (class (l ∷ ls))) (λ x. absent)

-- what the body of a method or a constructor of a class runs in
abbrev pub member_scope : ClassLink → List ClassLink → This → Code → List Value → Scope
member_scope l ls this c vs = record { file = l.file; this_value = this; bindings = bind_parameters c.parameters vs (bind_declared c.body (class_bindings l ls)) }

abbrev pub method_call : Low → ClassLink → List ClassLink → Option Code → Value → List Value → State → Out ExpressionEnd
method_call low l ls None this vs s = wrong
method_call low l ls (Some c) this vs s = then_do (low c.body (member_scope l ls (this_is this) c vs) s) returned

-- `this` where a constructor ends (9.2.2)
abbrev pub made_this : This → State → Out ExpressionEnd
made_this (making m (Some v)) s = done (gives v s)
made_this _ s = wrong

-- what a constructor that returns a value gives: an object as it is, and `this` in the place of undefined and, where its class extends
-- none, of any other (9.2.2)
abbrev pub made_by_return : Value → This → State → Out ExpressionEnd
made_by_return (object a) this s = done (gives (object a) s)
made_by_return (function f x) this s = done (gives (function f x) s)
made_by_return (class ls) this s = done (gives (class ls) s)
made_by_return (method ls x) this s = done (gives (method ls x) s)
made_by_return undefined this s = made_this this s
made_by_return v (making m t) s = elim m.above [ [] ↦ made_this (making m t) s | _ ∷ _ ↦ wrong ]
made_by_return v this s = wrong

abbrev pub made : StatementEnd → Out ExpressionEnd
made (ends normally sc s) = made_this sc.this_value s
made (ends (returns v) sc s) = made_by_return v sc.this_value s
made (ends (thrown_with v) sc s) = done (throws v s)
made (ends (breaks x) sc s) = wrong
made (ends breaks_nearest sc s) = wrong

-- what a constructor begins with: of a class that extends none the object is there, and `this` is it (9.2.2)
abbrev pub begun : List ClassLink → Making → State → This × State
begun [] m s = (making m (Some (object (next_address s))), allocated m.target no_properties s)
begun (l ∷ ls) m s = (making m None, s)

abbrev pub constructor_call : Low → ClassLink → List ClassLink → Code → List Value → This × State → Out ExpressionEnd
constructor_call low l ls c vs b = then_do (low c.body (member_scope l ls b.0 c vs) b.1) made

abbrev pub construct_by : Low → ClassLink → List ClassLink → Option (List Member) → List ClassLink → List Value → State → Out ExpressionEnd
construct_by low l ls None target vs s = wrong
construct_by low l ls (Some ms) target vs s = constructor_call low l ls (constructor_among ls ms) vs (begun ls (record { above = ls; target = target; handed = handed_on ms vs }) s)

abbrev pub code_call : Low → Name → Option Code → List Value → State → Out ExpressionEnd
code_call low f None vs s = wrong
code_call low f (Some c) vs s = then_do (low c.body (function_scope f c vs) s) returned

-- a function that is called by a property runs with the object as its `this` (12.3.6.2, 9.2.1.2)
abbrev pub function_on : Low → Name → Value → Option Code → List Value → State → Out ExpressionEnd
function_on low f this None vs s = wrong
function_on low f this (Some c) vs s = then_do (low c.body (record { file = f; this_value = this_is this; bindings = bind_parameters c.parameters vs (bind_declared c.body (λ x. absent)) }) s) returned

abbrev pub value_or_wrong : Option Value → Evaluation
value_or_wrong (Some v) sc s = done (gives v s)
value_or_wrong None sc s = wrong

abbrev pub binary : BinaryOperator → List Value → Evaluation
binary op (v ∷ w ∷ []) sc s = value_or_wrong (binary_value op v w) sc s
binary op _ sc s = wrong

-- `!` (12.5.9.1)
abbrev pub negated : List Value → Evaluation
negated (v ∷ []) sc s = done (gives (boolean (not (to_boolean v))) s)
negated _ sc s = wrong

abbrev pub multiplied : List Value → Evaluation
multiplied (v ∷ w ∷ []) sc s = value_or_wrong (imul_value v w) sc s
multiplied _ sc s = wrong

-- `/` or `%` of two operands, and what it gives on Numbers under `| 0`
pub record Ratio : Type 0 where
  pub left : Evaluation
  pub right : Evaluation
  pub whole : ℤ → ℤ → ℤ

abbrev pub whole_number : (ℤ → ℤ → ℤ) → Option ℤ → Option ℤ → Evaluation
whole_number f (Some a) (Some b) sc s = done (gives (number (f a b)) s)
whole_number f _ _ sc s = wrong

abbrev pub ratio : (ℤ → ℤ → ℤ) → List Value → Evaluation
ratio f (v ∷ w ∷ []) sc s = whole_number f (to_number v) (to_number w) sc s
ratio f _ sc s = wrong

-- a ratio has a meaning of its own where the right operand of the `|` around it is the literal 0
abbrev pub over_zero : Expression → Option Ratio → Option Ratio
over_zero (number_literal (pos zero)) r = r
over_zero _ r = None

-- `|` (12.12.3), with what its left operand is where that is a ratio over the literal 0
abbrev pub bits_or : Option Ratio → Evaluation → Evaluation → Evaluation
bits_or None left right sc s = in_order (left ∷ right ∷ []) (binary BitOr) sc s
bits_or (Some r) left right sc s = in_order (r.left ∷ r.right ∷ []) (ratio r.whole) sc s

-- a fixed function of one value, and one of two
abbrev pub by_one : (Value → Option Value) → List Value → Evaluation
by_one f (v ∷ []) sc s = value_or_wrong (f v) sc s
by_one f _ sc s = wrong

abbrev pub by_two : (Value → Value → Option Value) → List Value → Evaluation
by_two f (v ∷ w ∷ []) sc s = value_or_wrong (f v w) sc s
by_two f _ sc s = wrong

-- one of two, by a condition (12.14.3)
abbrev pub chosen : Evaluation → Evaluation → List Value → Evaluation
chosen first second (v ∷ []) sc s = elim (to_boolean v) [ true ↦ first sc s | false ↦ second sc s ]
chosen first second _ sc s = wrong

-- `&&` and `||` (12.13.3): the left value decides whether the right operand is evaluated
abbrev pub both_of : Evaluation → Value → Evaluation
both_of second v sc s = elim (to_boolean v) [ true ↦ second sc s | false ↦ done (gives v s) ]

abbrev pub one_of : Evaluation → Value → Evaluation
one_of second v sc s = elim (to_boolean v) [ true ↦ done (gives v s) | false ↦ second sc s ]

-- a Number literal is a whole Number, and a BigInt literal has no more bits than a BigInt
abbrev pub literal : ℤ → Evaluation
literal z sc s = if is_exact z then done (gives (number z) s) else wrong

abbrev pub literal_of_big : ℤ → Evaluation
literal_of_big z sc s = if is_in_range z then done (gives (big_int z) s) else wrong

abbrev pub this_of : This → State → Out ExpressionEnd
this_of (this_is v) s = done (gives v s)
this_of (making m (Some v)) s = done (gives v s)
this_of (making m None) s = wrong

-- `super()` gives this object, unless there is one (12.3.7.1)
abbrev pub with_this : Making → Option Value → Scope → ExpressionEnd → Out StatementEnd
with_this m None sc (gives v s) = done (ends normally (record { file = sc.file; this_value = making m (Some v); bindings = sc.bindings }) s)
with_this m (Some w) sc (gives v s) = wrong
with_this m t sc (throws v s) = done (ends (thrown_with v) sc s)

-- `typeof` of a value (12.5.5)
abbrev pub typed : List Value → Evaluation
typed (v ∷ []) sc s = done (gives (text (type_word v)) s)
typed _ sc s = wrong

-- the constructors of typed arrays, whose names hold a digit (22.2): functions of the standard, which are no values here
abbrev pub typed_arrays : List Name
typed_arrays = codes "Int8Array" ∷ codes "Uint8Array" ∷ codes "Uint8ClampedArray" ∷ codes "Int16Array" ∷ codes "Uint16Array" ∷ codes "Int32Array" ∷ codes "Uint32Array" ∷ codes "Float32Array" ∷ codes "Float64Array" ∷ codes "BigInt64Array" ∷ codes "BigUint64Array" ∷ []

-- and of a name, which needs no binding where the standard has none either
abbrev pub typed_name : Name → Cell → State → Out ExpressionEnd
typed_name x absent s = if is_among typed_arrays x then wrong else done (gives (text (type_word undefined)) s)
typed_name x (unset const) s = wrong
typed_name x (holds const v) s = done (gives (text (type_word v)) s)

abbrev pub truth_or_wrong : Option Bool → Evaluation
truth_or_wrong (Some b) sc s = done (gives (boolean b) s)
truth_or_wrong None sc s = wrong

abbrev pub instance : List Value → Evaluation
instance (v ∷ w ∷ []) sc s = truth_or_wrong (is_instance s v w) sc s
instance _ sc s = wrong

abbrev pub with_state : Option State → Execution
with_state (Some t) sc s = done (ends normally sc t)
with_state None sc s = wrong

-- what is set on undefined or null is wrong before the right side is evaluated (12.3.3, 12.3.4); on any other value that has no properties,
-- behind it
abbrev pub unless_missing : Value → Execution → Execution
unless_missing undefined run sc s = wrong
unless_missing null run sc s = wrong
unless_missing _ run sc s = run sc s

-- a new array of these items (12.2.5.3, 22.1.1)
abbrev pub made_array : Option (List Value) → Evaluation
made_array None sc s = wrong
made_array (Some items) sc s = done (gives (object (next_address s)) (with_stored (array items) s))

abbrev pub list_made : List Value → Evaluation
list_made vs = made_array (Some vs)

abbrev pub array_made : List Value → Evaluation
array_made (v ∷ []) sc s = made_array (array_of v) sc s
array_made _ sc s = wrong

-- an array that was filled is what the call gives (22.1.3.6)
abbrev pub given_in : Value → Option State → Out ExpressionEnd
given_in v None = wrong
given_in v (Some t) = done (gives v t)

abbrev pub fill : ℕ → List Value → Evaluation
fill a (v ∷ []) sc s = given_in (object a) (filled a (slice_get s.heap a) v s)
fill a _ sc s = wrong

-- the scope with a binding that has started (8.1.1.1.4)
abbrev pub start : Bool → Name → Value → Scope → Scope
start const x v sc = record { file = sc.file; this_value = sc.this_value; bindings = binding x (holds const v) sc.bindings }

-- the statements of a block see its names, which haven't started (13.2.13, 13.2.14), and behind it those around it are there again
abbrev pub enter : Statements → Scope → Scope
enter ss sc = record { file = sc.file; this_value = sc.this_value; bindings = bind_declared ss sc.bindings }

abbrev pub leave : Statements → Scope → Scope → Scope
leave ss outer inner = record { file = inner.file; this_value = inner.this_value; bindings = λ y. if is_among (declared ss) y then outer.bindings y else inner.bindings y }

abbrev pub leaving : Statements → Scope → StatementEnd → Out StatementEnd
leaving ss outer (ends k inner s) = done (ends k (leave ss outer inner) s)

abbrev pub in_block : Statements → Execution → Execution
in_block ss run sc s = then_do (run (enter ss sc) s) (leaving ss sc)

-- the handler of a try: its variable counts with its block, and behind it both are what they were (13.15.7)
abbrev pub leave_handler : Name → Statements → Scope → Scope → Scope
leave_handler x ss outer inner = record { file = inner.file; this_value = inner.this_value; bindings = λ y. if is_same_text y x || is_among (declared ss) y then outer.bindings y else inner.bindings y }

abbrev pub leaving_handler : Name → Statements → Scope → StatementEnd → Out StatementEnd
leaving_handler x ss outer (ends k inner s) = done (ends k (leave_handler x ss outer inner) s)

abbrev pub in_handler : Name → Statements → Execution → Value → Execution
in_handler x ss run v sc s = then_do (run (start false x v (enter ss sc)) s) (leaving_handler x ss sc)

-- what a block throws is caught
abbrev pub caught : (Value → Execution) → StatementEnd → Out StatementEnd
caught handler (ends (thrown_with v) sc s) = handler v sc s
caught handler (ends normally sc s) = done (ends normally sc s)
caught handler (ends (breaks x) sc s) = done (ends (breaks x) sc s)
caught handler (ends breaks_nearest sc s) = done (ends breaks_nearest sc s)
caught handler (ends (returns v) sc s) = done (ends (returns v) sc s)

-- a finalizer runs behind its block, however that ends; where it comes to its own end, the end is that of the block (13.15.8)
abbrev pub resumed : Completion → StatementEnd → Out StatementEnd
resumed k (ends normally sc s) = done (ends k sc s)
resumed k (ends (breaks x) sc s) = done (ends (breaks x) sc s)
resumed k (ends breaks_nearest sc s) = done (ends breaks_nearest sc s)
resumed k (ends (returns v) sc s) = done (ends (returns v) sc s)
resumed k (ends (thrown_with v) sc s) = done (ends (thrown_with v) sc s)

abbrev pub finally : Execution → StatementEnd → Out StatementEnd
finally finalizer (ends k sc s) = then_do (finalizer sc s) (resumed k)

-- the next turn of a loop, unless the turn breaks (13.7.1.2)
abbrev pub next_turn : Execution → StatementEnd → Out StatementEnd
next_turn next (ends normally sc s) = next sc s
next_turn next (ends breaks_nearest sc s) = done (ends normally sc s)
next_turn next (ends (breaks x) sc s) = done (ends (breaks x) sc s)
next_turn next (ends (returns v) sc s) = done (ends (returns v) sc s)
next_turn next (ends (thrown_with v) sc s) = done (ends (thrown_with v) sc s)

-- a break to this label has come to its place (13.13.14)
abbrev pub arrive : Name → StatementEnd → Out StatementEnd
arrive x (ends (breaks y) sc s) = if is_same_text y x then done (ends normally sc s) else done (ends (breaks y) sc s)
arrive x (ends normally sc s) = done (ends normally sc s)
arrive x (ends breaks_nearest sc s) = done (ends breaks_nearest sc s)
arrive x (ends (returns v) sc s) = done (ends (returns v) sc s)
arrive x (ends (thrown_with v) sc s) = done (ends (thrown_with v) sc s)

-- a break of the switch itself (13.12.11)
abbrev pub behind_switch : StatementEnd → Out StatementEnd
behind_switch (ends breaks_nearest sc s) = done (ends normally sc s)
behind_switch (ends normally sc s) = done (ends normally sc s)
behind_switch (ends (breaks x) sc s) = done (ends (breaks x) sc s)
behind_switch (ends (returns v) sc s) = done (ends (returns v) sc s)
behind_switch (ends (thrown_with v) sc s) = done (ends (thrown_with v) sc s)

-- a case of a switch: its keys and its block
pub record Clause : Type 0 where
  pub keys : List ℤ
  pub block : Execution

-- these blocks, and behind them the default's
abbrev pub fall : List Clause → Execution → Execution
fall [] default sc s = default sc s
fall (c ∷ cs) default sc s = then_do (c.block sc s) (next_statement (fall cs default))

-- from the first case on that has a key equal to the value (13.12.9)
abbrev pub from_case : List Clause → Execution → Value → Execution
from_case [] default v sc s = default sc s
from_case (c ∷ cs) default v sc s = elim (list_any (λ z. is_strictly_equal v (number z)) c.keys) [ true ↦ then_do (c.block sc s) (next_statement (fall cs default)) | false ↦ from_case cs default v sc s ]

-- one of two statements, by a condition (13.6.7)
abbrev pub taken : Execution → Execution → Value → Execution
taken first second v sc s = elim (to_boolean v) [ true ↦ first sc s | false ↦ second sc s ]

-- what does nothing
abbrev pub nothing : Execution
nothing sc s = done (ends normally sc s)

-- an assignment to a binding at the top of the file itself; one to an import is an error (8.1.1.5)
abbrev pub assign_top : Bool → Name → Value → Cell → Execution
assign_top true x v (holds false w) sc s = done (ends normally sc (record { heap = s.heap; tops = λ f y. if is_same_text f sc.file then binding x (holds false v) (s.tops f) y else s.tops f y }))
assign_top _ x v _ sc s = wrong

abbrev pub is_own : Name → Option Name → Bool
is_own f None = false
is_own f (Some g) = is_same_text g f

-- an assignment to a name, behind the evaluation of its right side (12.15.4, 8.1.1.1.5): to a constant, to a binding that hasn't started or
-- to none it is an error
abbrev pub assign : Program → Name → Value → Cell → Execution
assign p x v (holds false w) sc s = done (ends normally (start false x v sc) s)
assign p x v (holds true w) sc s = wrong
assign p x v (unset const) sc s = wrong
assign p x v absent sc s = assign_top (is_own sc.file (owner p sc.file x)) x v (top_cell (owner p sc.file x) x s) sc s

-- a binding at the top of a file starts
abbrev pub starts : Bool → Name → Name → Value → State → Out ExpressionEnd
starts const f x v s = done (gives undefined (record { heap = s.heap; tops = λ g y. if is_same_text g f then binding x (holds const v) (s.tops g) y else s.tops g y }))

-- a class that extends what a name holds, which is to be a class (14.6.13)
abbrev pub extends : Name → Name → Value → State → Out ExpressionEnd
extends f x (class ls) s = starts false f x (class (record { file = f; name = x } ∷ ls)) s
extends f x _ s = wrong

abbrev pub object_made : Name → Name → (Name → Option Value) → State → Out ExpressionEnd
object_made f x own s = starts true f x (object (next_address s)) (allocated [] own s)

module _ (program : Program) where
  -- a call (12.3.6.2): what is called is a function; its body runs with one unit less (9.2.1)
  abbrev pub call : Low → Value → List Value → Evaluation
  call low (function f x) vs sc s = code_call low f (code_of program f x) vs s
  call low (method (l ∷ ls) x) vs sc s = method_call low l ls (method_code program l x) undefined vs s
  call low _ vs sc s = wrong

  -- a call of a property, whose `this` is the object (12.3.6.2)
  abbrev pub call_with_this : Low → Value → Callee → List Value → Evaluation
  call_with_this low this (fill_of a) vs sc s = fill a vs sc s
  call_with_this low this (value_called (method (l ∷ ls) x)) vs sc s = method_call low l ls (method_code program l x) this vs s
  call_with_this low this (value_called (function f x)) vs sc s = function_on low f this (code_of program f x) vs s
  call_with_this low this (value_called _) vs sc s = wrong

  -- asking for a property of undefined or null is wrong before the arguments are evaluated (12.3.6.1)
  abbrev pub call_property : Low → List Evaluation → Value → Option Callee → Evaluation
  call_property low es this None sc s = wrong
  call_property low es this (Some c) sc s = in_order es (call_with_this low this c) sc s

  -- `new` of a class (12.3.5.1), and what `super()` makes: the constructor of a class, for an object of the target (9.2.2)
  abbrev pub construct : Low → List ClassLink → List ClassLink → List Value → State → Out ExpressionEnd
  construct low [] target vs s = wrong
  construct low (l ∷ ls) target vs s = construct_by low l ls (members_of program l) target vs s

  abbrev pub construct_value : Low → Value → List Value → Evaluation
  construct_value low (class ls) vs sc s = construct low ls ls vs s
  construct_value low _ vs sc s = wrong

  abbrev pub super_of : Low → This → Execution
  super_of low (making m t) sc s = then_do (construct low m.above m.target m.handed s) (with_this m t sc)
  super_of low _ sc s = wrong

  abbrev pub read_property : Name → List Value → Evaluation
  read_property x (v ∷ []) sc s = value_or_wrong (property program s v x) sc s
  read_property x _ sc s = wrong

  abbrev pub read_element : List Value → Evaluation
  read_element (v ∷ i ∷ []) sc s = value_or_wrong (element program s v i) sc s
  read_element _ sc s = wrong

  abbrev pub has : List Value → Evaluation
  has (v ∷ w ∷ []) sc s = truth_or_wrong (has_property program s v w) sc s
  has _ sc s = wrong

  abbrev mutual
    -- an expression, by its production; whatever the standard answers by an error is wrong
    pub evaluate : Low → Expression → Evaluation
    -- 12.2.4.1
    evaluate low null_literal sc s = done (gives null s)
    evaluate low (boolean_literal b) sc s = done (gives (boolean b) s)
    evaluate low (number_literal z) sc s = literal z sc s
    evaluate low (big_literal z) sc s = literal_of_big z sc s
    evaluate low (text_literal us) sc s = done (gives (text us) s)
    -- 12.5.4.1
    evaluate low undefined_literal sc s = done (gives undefined s)
    -- 12.1.6
    evaluate low (name_use x) sc s = name_value program x sc s
    -- 12.3.6.1: the name first, then the arguments
    evaluate low (call_of x es) sc s = then_do (name_value program x sc s) (with_value (λ f. in_order (arguments low es) (call low f) sc))
    -- 12.2.2.1
    evaluate low this_use sc s = this_of sc.this_value s
    -- 12.3.2.1
    evaluate low (property_of e x) sc s = in_order (evaluate low e ∷ []) (read_property x) sc s
    -- 12.3.6.1: the object, its property, and then the arguments
    evaluate low (method_call_of e x es) sc s = then_do (evaluate low e sc s) (with_value (λ v s. call_property low (arguments low es) v (callee program s v x) sc s))
    -- 12.3.3
    evaluate low (index_of e i) sc s = in_order (evaluate low e ∷ evaluate low i ∷ []) read_element sc s
    -- 12.3.5.1
    evaluate low (new_of x es) sc s = then_do (name_value program x sc s) (with_value (λ f. in_order (arguments low es) (construct_value low f) sc))
    -- 22.1.1, 12.2.5.3
    evaluate low (new_array_of e) sc s = in_order (evaluate low e ∷ []) array_made sc s
    evaluate low (list_of es) sc s = in_order (arguments low es) list_made sc s
    evaluate low (binary_of e In g) sc s = in_order (evaluate low e ∷ evaluate low g ∷ []) has sc s
    evaluate low (binary_of e InstanceOf g) sc s = in_order (evaluate low e ∷ evaluate low g ∷ []) instance sc s
    evaluate low (binary_of e And g) sc s = then_do (evaluate low e sc s) (with_value (λ v. both_of (evaluate low g) v sc))
    evaluate low (binary_of e Or g) sc s = then_do (evaluate low e sc s) (with_value (λ v. one_of (evaluate low g) v sc))
    evaluate low (binary_of e BitOr g) sc s = bits_or (over_zero g (ratio_of low e)) (evaluate low e) (evaluate low g) sc s
    evaluate low (binary_of e op g) sc s = in_order (evaluate low e ∷ evaluate low g ∷ []) (binary op) sc s
    evaluate low (unary_of TypeOf (name_use x)) sc s = typed_name x (cell_of program x sc s) s
    evaluate low (unary_of TypeOf e) sc s = in_order (evaluate low e ∷ []) typed sc s
    evaluate low (unary_of Not e) sc s = in_order (evaluate low e ∷ []) negated sc s
    evaluate low (conditional_of c e g) sc s = in_order (evaluate low c ∷ []) (chosen (evaluate low e) (evaluate low g)) sc s
    evaluate low (host_call ConsoleLog e) sc s = in_order (evaluate low e ∷ []) log sc s
    evaluate low (host_call BigInt e) sc s = in_order (evaluate low e ∷ []) (by_one to_big) sc s
    evaluate low (host_call Number e) sc s = in_order (evaluate low e ∷ []) (by_one number_of) sc s
    evaluate low (host_call StringFromCharCode e) sc s = in_order (evaluate low e ∷ []) (by_one (λ v. unit_of (to_bits v))) sc s
    evaluate low (host_call_of_two MathImul e g) sc s = in_order (evaluate low e ∷ evaluate low g ∷ []) multiplied sc s
    evaluate low (host_call_of_two BigIntAsIntN e g) sc s = in_order (evaluate low e ∷ evaluate low g ∷ []) (by_two as_signed_value) sc s
    evaluate low (host_call_of_two BigIntAsUintN e g) sc s = in_order (evaluate low e ∷ evaluate low g ∷ []) (by_two as_unsigned_value) sc s

    -- `/` or `%`
    pub ratio_of : Low → Expression → Option Ratio
    ratio_of low (binary_of e Divide g) = Some (record { left = evaluate low e; right = evaluate low g; whole = quotient_or_zero })
    ratio_of low (binary_of e Remainder g) = Some (record { left = evaluate low e; right = evaluate low g; whole = remainder_or_zero })
    ratio_of low _ = None

    pub arguments : Low → Expressions → List Evaluation
    arguments low no_expressions = []
    arguments low (expression e es) = evaluate low e ∷ arguments low es

  -- an expression of a statement, and then what is done with its value
  abbrev pub with_expression : Low → Expression → (Value → Execution) → Execution
  with_expression low e act sc s = then_do (evaluate low e sc s) (in_statement sc (λ v. act v sc))

  abbrev mutual
    -- a statement, by its production
    pub execute : Low → Statement → Execution
    -- 13.3.1.4
    execute low (const_of x e) sc s = with_expression low e (λ v sc s. done (ends normally (start true x v sc) s)) sc s
    execute low (let_of x e) sc s = with_expression low e (λ v sc s. done (ends normally (start false x v sc) s)) sc s
    execute low (declare_of x) sc s = done (ends normally (start false x undefined sc) s)
    -- 13.5.1
    execute low (expression_statement e) sc s = with_expression low e (λ v. nothing) sc s
    execute low (assign_name x e) sc s = with_expression low e (λ v sc. assign program x v (sc.bindings x) sc) sc s
    execute low (assign_property e x g) sc s = with_expression low e (λ v. unless_missing v (with_expression low g (λ w sc s. with_state (set_property v x w s) sc s))) sc s
    execute low (assign_index e i g) sc s = with_expression low e (λ v. with_expression low i (λ k. unless_missing v (with_expression low g (λ w sc s. with_state (set_element v k w s) sc s)))) sc s
    -- 12.3.7.1
    execute low super_call sc s = super_of low sc.this_value sc s
    -- 13.14.1
    execute low (throw_of e) sc s = with_expression low e (λ v sc s. done (ends (thrown_with v) sc s)) sc s
    -- 13.10.1
    execute low (return_of e) sc s = with_expression low e (λ v sc s. done (ends (returns v) sc s)) sc s
    -- 13.9.3
    execute low break_nearest sc s = done (ends breaks_nearest sc s)
    execute low (break_to x) sc s = done (ends (breaks x) sc s)
    -- 13.6.7
    execute low (if_only c ss) sc s = with_expression low c (taken (in_block ss (execute_all low ss)) nothing) sc s
    execute low (if_else c ss ts) sc s = with_expression low c (taken (in_block ss (execute_all low ss)) (in_block ts (execute_all low ts))) sc s
    -- 13.7.3.6: the next turn has one unit less
    execute low (while_of c ss) sc s = with_expression low c (taken (λ sc s. then_do (in_block ss (execute_all low ss) sc s) (next_turn (low (statement (while_of c ss) no_statements)))) nothing) sc s
    -- 13.7.2.6
    execute low (do_forever ss) sc s = then_do (in_block ss (execute_all low ss) sc s) (next_turn (low (statement (do_forever ss) no_statements)))
    -- 13.13.14
    execute low (labeled_of x ss) sc s = then_do (in_block ss (execute_all low ss) sc s) (arrive x)
    -- 13.12.11
    execute low (switch_on e cs ss) sc s = then_do (with_expression low e (from_case (clauses low cs) (in_block ss (execute_all low ss))) sc s) behind_switch
    -- 13.15.8
    execute low (try_catch ss x ts) sc s = then_do (in_block ss (execute_all low ss) sc s) (caught (in_handler x ts (execute_all low ts)))
    execute low (try_finally ss ts) sc s = then_do (in_block ss (execute_all low ss) sc s) (finally (in_block ts (execute_all low ts)))

    pub clauses : Low → Cases → List Clause
    clauses low no_cases = []
    clauses low (switch_case ks ss cs) = record { keys = ks; block = in_block ss (execute_all low ss) } ∷ clauses low cs

    -- 13.2.13
    pub execute_all : Low → Statements → Execution
    execute_all low no_statements sc s = done (ends normally sc s)
    execute_all low (statement t ts) sc s = then_do (execute low t sc s) (next_statement (execute_all low ts))

  -- the statements that run with one unit less than this bound: where it is 0 they are going
  abbrev pub below : ℕ → Low
  below zero ss sc s = going
  below (suc m) ss sc s = execute_all (below m) ss sc s

  -- what the items of a module run in (15.2.1.17.5, 8.1.1.5.4)
  abbrev pub top_scope : Name → Scope
  top_scope f = record { file = f; this_value = this_is undefined; bindings = λ x. absent }

  -- properties of an object that is written as a literal, in order; of two of one name the later (12.2.6.8)
  abbrev pub properties : Low → Scope → List Property → (Name → Option Value) → ((Name → Option Value) → State → Out ExpressionEnd) → State → Out ExpressionEnd
  properties low sc [] own act s = act own s
  properties low sc (p ∷ ps) own act s = then_do (evaluate low p.value sc s) (with_value (λ v. properties low sc ps (with_property p.name v own) act))

  -- an item of a module with this bound, by its production (15.2.1.22)
  abbrev pub run_item : ℕ → Name → Item → State → Out ExpressionEnd
  -- a function is there before anything runs, and its declaration does nothing (14.1)
  run_item m f (function_item x xs ss) s = done (gives undefined s)
  run_item m f (expression_item e) s = evaluate (below m) e (top_scope f) s
  run_item m f (const_item x e) s = then_do (evaluate (below m) e (top_scope f) s) (with_value (starts true f x))
  run_item m f (let_item x e) s = then_do (evaluate (below m) e (top_scope f) s) (with_value (starts false f x))
  run_item m f (object_item x ps) s = properties (below m) (top_scope f) ps no_properties (object_made f x) s
  run_item m f (class_item x ms) s = starts false f x (class (record { file = f; name = x } ∷ [])) s
  run_item m f (subclass_item x y ms) s = then_do (name_value program y (top_scope f) s) (with_value (extends f x))

  -- the items in order
  abbrev pub run_items : ℕ → Name → List Item → State → Out ExpressionEnd
  run_items m f [] s = done (gives undefined s)
  run_items m f (i ∷ is) s = then_do (run_item m f i s) (with_value (λ v. run_items m f is))

  -- the modules of these files in order (15.2.1.16.2)
  abbrev pub run_files : ℕ → List Name → State → Out ExpressionEnd
  run_files m [] s = done (gives undefined s)
  run_files m (f ∷ fs) s = then_do (run_items m f (items_in (module_among program f)) s) (with_value (λ v. run_files m fs))

-- the bindings at the top of a file before anything runs: a function is there, everything else hasn't started (15.2.1.17.4)
abbrev pub item_cell : Name → Item → Name → Cell
item_cell f (const_item y e) x = if is_same_text x y then unset true else absent
item_cell f (object_item y ps) x = if is_same_text x y then unset true else absent
item_cell f (let_item y e) x = if is_same_text x y then unset false else absent
item_cell f (expression_item e) x = absent
item_cell f (function_item y xs ss) x = if is_same_text x y then holds false (function f y) else absent
item_cell f (class_item y ms) x = if is_same_text x y then unset false else absent
item_cell f (subclass_item y z ms) x = if is_same_text x y then unset false else absent

abbrev pub items_cell : Name → List Item → Name → Cell
items_cell f [] x = absent
items_cell f (i ∷ is) x = or_outer (item_cell f i x) (items_cell f is x)

abbrev pub module_cell : Name → Option Module → Name → Cell
module_cell f None x = absent
module_cell f (Some m) x = items_cell f m.items x

-- the state that a program begins with: nothing on the heap
abbrev pub opening : Program → State
opening p = record { heap = []; tops = λ f x. module_cell f (module_among p f) x }
