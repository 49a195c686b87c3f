-- The meaning of trees with a bound.
use Rattle.std.specs.Prelude.{ℕ, zero, suc, Bool, true, false, List, [], ◌∷◌, ℤ, pos, negsuc, nat_lt, length, set, replicate, slice_get, codes, Option, Some, None, if◌then◌else◌}
use Rattle.std.specs.List.{list_any}
use Rattle.std.specs.Ordering.{int_eq}
use Rattle.int_arithmetic.specs.Decimals.{decimal_text}
use Rattle.sj_names.specs.MethodNames.{spelled_method}
use Rattle.sj_names.specs.declared.method_names.MethodName.{MethodName}
use Rattle.sj_names.specs.declared.method_names.Namespace.{Namespace}
use Rattle.sj_names.specs.declared.references.ArrayRef.{ArrayRef}
use Rattle.sj_names.specs.declared.references.TypeRef.{TypeRef}
use Rattle.sj_trees.specs.declared.classes.MethodDef.{MethodDef}
use Rattle.sj_trees.specs.declared.classes.ParamDef.{ParamDef}
use Rattle.sj_trees.specs.declared.operators.BinaryOp.{BinaryOp}
use Rattle.sj_trees.specs.declared.operators.UnaryOp.{UnaryOp}
use Rattle.sj_trees.specs.declared.types.IrType.{IrType}
use Rattle.sj_trees.specs.declared.types.IrType.TheVariants.{NoType}
use Rattle.sj_trees.specs.Term.{Term, Terms, no_terms, more_terms, Cases, no_cases, more_cases, var_def, skip, block_of, labeled, assign, return_to, if_then, while_loop, do_while, try_catch, try_finally, throw, match_on, new_object, load_module, store_module, select, select_static, apply, apply_statically, apply_static, unary_op, binary_op, new_array, array_value, array_length, array_select, is_instance_of, as_instance_of, undefined_literal, null_literal, boolean_literal, char_literal, byte_literal, short_literal, int_literal, long_literal, string_literal, var_ref, this_ref, log_line}
use Rattle.sj_trees.specs.TypeOf.{type_of_term}
use Rattle.sj_trees.specs.Types.{element_type}
use Rattle.sj_world.specs.Calls.{receiver_class}
use Rattle.sj_world.specs.Known.{is_hijacked}
use Rattle.outcomes.specs.Outcome.{Out, done, going, wrong, says, then_do}
use Rattle.ir_mean.specs.Dispatch.{Found, resolved, proxy_target}
use Rattle.ir_mean.specs.Operators.{Answer, answers, raises, lacks, unary_value, binary_value}
use Rattle.sj_names.specs.Same.{is_same_text}
use Rattle.ir_mean.specs.States.{Value, undefined, null, boolean, char, number, long, text, reference, Stored, object, array, State, Locals, Env, Kind, gives, throws, leaves, stops, Ended, ends, Run, given, go_on, next_address, with_stored, at_address, with_field, with_static, with_cell}
use Rattle.sure_receivers.specs.Sure.{is_sure, sure_locals}
use Rattle.ir_mean.specs.World.{World, member_of, new_fields, class_of_value, is_instance, is_of_type, zero_of, cast_of_null, type_text, units_of}

-- trees evaluated with one unit less than what stands around them: the bodies of calls and the next turns of loops
abbrev pub Low : Type 0
Low = Term → Run

-- operands from left to right, and then what is done with their values
abbrev pub in_order : List Run → (List Value → Run) → Run
in_order [] act env s = act [] env s
in_order (r ∷ rs) act env s = go_on (r env s) (λ v. in_order rs (λ vs. act (v ∷ vs)))

-- Log: the operand is a text, and its line is logged
abbrev pub log : List Value → Run
log (text us ∷ []) env s = says us (ends (gives undefined) env s)
log _ env s = wrong

abbrev pub holding : List ℕ → Value → Option Locals → Option Locals
holding x v None = None
holding x v (Some locals) = Some (λ y. if is_same_text y x then Some v else locals y)

-- the locals that a call begins with: each parameter holds its argument
abbrev pub parameters : List ParamDef → List Value → Option Locals
parameters [] [] = Some (λ x. None)
parameters (p ∷ ps) (v ∷ vs) = holding p.name v (parameters ps vs)
parameters _ _ = None

-- a method whose result is none gives undef
abbrev pub result_value : IrType → Value → Value
result_value NoType v = undefined
result_value _ v = v

-- the end of a body as the end of its call: the locals are those of the caller again
abbrev pub returned : IrType → Env → Ended → Out Ended
returned r env (ends (gives v) inner s) = given (result_value r v) env s
returned r env (ends (throws v) inner s) = done (ends (throws v) env s)
returned r env (ends (leaves l v) inner s) = wrong
returned r env (ends stops inner s) = wrong

abbrev pub body_call : Low → IrType → Option Term → Option Value → Option Locals → Run
body_call low r (Some body) this (Some locals) env s = then_do (low body (record { this_value = this; locals = locals; sure = sure_locals body }) s) (returned r env)
body_call low r _ this _ env s = wrong

-- a call of a method with this receiver, or none, and these arguments: its body, with one unit less
abbrev pub call : Low → Option MethodDef → Option Value → List Value → Run
call low None this vs env s = wrong
call low (Some d) this vs env s = body_call low d.result d.body this (parameters d.params vs) env s

-- the locals, of which this one holds the value
abbrev pub set_local : List ℕ → Value → Env → Env
set_local x v env = record { this_value = env.this_value; locals = λ y. if is_same_text y x then Some v else env.locals y; sure = env.sure }

-- VarDef, Assign to a local: the local holds the value from here on
abbrev pub define : List ℕ → List Value → Run
define x (v ∷ []) env s = given undefined (set_local x v env) s
define x _ env s = wrong

-- VarRef: what the local holds
abbrev pub local_value : Option Value → Run
local_value (Some v) env s = given v env s
local_value None env s = wrong

-- Return: the value travels to the label
abbrev pub leave : List ℕ → List Value → Run
leave l (v ∷ []) env s = done (ends (leaves l v) env s)
leave l _ env s = wrong

-- Labeled: what leaves to this label has come to its place
abbrev pub arrive : List ℕ → Ended → Out Ended
arrive l (ends (leaves m v) env s) = if is_same_text m l then given v env s else done (ends (leaves m v) env s)
arrive l (ends (gives v) env s) = given v env s
arrive l (ends (throws v) env s) = done (ends (throws v) env s)
arrive l (ends stops env s) = done (ends stops env s)

-- If: the branch that the condition chooses
abbrev pub branch : Run → Run → List Value → Run
branch first second (boolean true ∷ []) env s = first env s
branch first second (boolean false ∷ []) env s = second env s
branch first second _ env s = wrong

-- a loop goes on to its next turn, until its condition doesn't hold
abbrev pub after_turn : Run → Ended → Out Ended
after_turn next (ends (gives v) env s) = next env s
after_turn next (ends (throws v) env s) = done (ends (throws v) env s)
after_turn next (ends (leaves l v) env s) = done (ends (leaves l v) env s)
after_turn next (ends stops env s) = given undefined env s

-- Match: the first case with this key, or the default
pub record Branch : Type 0 where
  pub keys : List ℤ
  pub body : Run

abbrev pub branch_of : List Branch → Run → ℤ → Run
branch_of [] default z = default
branch_of (b ∷ bs) default z = if list_any (int_eq z) b.keys then b.body else branch_of bs default z

abbrev pub choose : List Branch → Run → List Value → Run
choose bs default (number z ∷ []) env s = branch_of bs default z env s
choose bs default _ env s = wrong

abbrev pub value_or_wrong : Option Value → Run
value_or_wrong (Some v) env s = given v env s
value_or_wrong None env s = wrong

-- Throw: the value travels to the nearest handler
abbrev pub throw_value : List Value → Run
throw_value (v ∷ []) env s = done (ends (throws v) env s)
throw_value _ env s = wrong

-- TryCatch: what the block throws is held by the variable of the handler
abbrev pub caught : List ℕ → Run → Ended → Out Ended
caught x handler (ends (throws v) env s) = handler (set_local x v env) s
caught x handler (ends (gives v) env s) = done (ends (gives v) env s)
caught x handler (ends (leaves l v) env s) = done (ends (leaves l v) env s)
caught x handler (ends stops env s) = done (ends stops env s)

-- TryFinally: the finalizer is evaluated behind the block, however that ends; where it gives a value, the end is that of the block
abbrev pub resumed : Kind → Ended → Out Ended
resumed k (ends (gives v) env s) = done (ends k env s)
resumed k (ends (throws v) env s) = done (ends (throws v) env s)
resumed k (ends (leaves l v) env s) = done (ends (leaves l v) env s)
resumed k (ends stops env s) = done (ends stops env s)

abbrev pub finally : Run → Ended → Out Ended
finally finalizer (ends k env s) = then_do (finalizer env s) (resumed k)

-- Select: the object has the field
abbrev pub field_of : List ℕ → List ℕ → Option Stored → Option Value
field_of c f (Some (object d fields)) = fields c f
field_of c f _ = None

abbrev pub select_field : List ℕ → List ℕ → List Value → Run
select_field c f (reference a ∷ []) env s = value_or_wrong (field_of c f (slice_get s.heap a)) env s
select_field c f _ env s = wrong

-- an assignment gives undef, in the state in which what is assigned to holds the value
abbrev pub assigned : Option State → Run
assigned (Some t) env s = given undefined env t
assigned None env s = wrong

abbrev pub if_there : Option Value → State → Option State
if_there (Some v) s = Some s
if_there None s = None

abbrev pub set_field : List ℕ → List ℕ → Value → ℕ → Option Stored → State → Option State
set_field c f v a (Some (object d fields)) s = if_there (fields c f) (at_address a (object d (with_field c f v fields)) s)
set_field c f v a _ s = None

abbrev pub assign_field : List ℕ → List ℕ → List Value → Run
assign_field c f (reference a ∷ v ∷ []) env s = assigned (set_field c f v a (slice_get s.heap a) s) env s
assign_field c f _ env s = wrong

-- the right side of an assignment to a field, and the assignment, where there is an object; what has no fields has no meaning here, whatever the right side is, and no typed body comes
-- to it
abbrev pub assign_on : List ℕ → List ℕ → Run → List Value → Run
assign_on c f r (reference a ∷ []) env s = in_order (r ∷ []) (λ vs. assign_field c f (reference a ∷ vs)) env s
assign_on c f r _ env s = wrong

abbrev pub assign_static : List ℕ → List ℕ → List Value → Run
assign_static c f (v ∷ []) env s = assigned (if_there (s.statics c f) (with_static c f v s)) env s
assign_static c f _ env s = wrong

-- StoreModule: the cell of the class holds the value
abbrev pub store : List ℕ → List Value → Run
store c (v ∷ []) env s = given undefined env (with_cell c v s)
store c _ env s = wrong

-- a new array
abbrev pub made_array : ArrayRef → List Value → Run
made_array r items env s = given (reference (next_address s)) env (with_stored (array r items) s)

abbrev pub items_of : Option Stored → Option (List Value)
items_of (Some (array r items)) = Some items
items_of _ = None

abbrev pub length_of : Option (List Value) → Option Value
length_of None = None
length_of (Some items) = Some (number (pos (length items)))

abbrev pub array_length_of : List Value → Run
array_length_of (reference a ∷ []) env s = value_or_wrong (length_of (items_of (slice_get s.heap a))) env s
array_length_of _ env s = wrong

-- an index outside the array
abbrev pub no_such_index : ℤ → Answer
no_such_index z = raises (codes "java.lang.ArrayIndexOutOfBoundsException") (decimal_text z)

abbrev pub item_or_raise : ℤ → Option Value → Answer
item_or_raise z (Some v) = answers v
item_or_raise z None = no_such_index z

abbrev pub item_at : List Value → ℤ → Answer
item_at items (pos n) = item_or_raise (pos n) (slice_get items n)
item_at items (negsuc n) = no_such_index (negsuc n)

abbrev pub item_of : Option (List Value) → ℤ → Answer
item_of None z = lacks
item_of (Some items) z = item_at items z

abbrev pub item_answer : List Value → State → Answer
item_answer (reference a ∷ number z ∷ []) s = item_of (items_of (slice_get s.heap a)) z
item_answer _ s = lacks

-- a value may be stored in an array whose elements have this type: any where they are primitive, as the tree has this type, and null
abbrev pub may_be_stored : World → State → IrType → Value → Bool
may_be_stored w s t null = true
may_be_stored w s (IrType.Class c) v = is_of_type w s v (IrType.Class c)
may_be_stored w s (IrType.Array r) v = is_of_type w s v (IrType.Array r)
may_be_stored w s t v = true

abbrev pub stored_item : ℕ → ArrayRef → List Value → ℤ → Value → State → Option State
stored_item a r items (pos n) v s = if nat_lt n (length items) then Some (at_address a (array r (set items n v)) s) else None
stored_item a r items (negsuc n) v s = None

-- what a store answers: that the index or the element is wrong, or undef
abbrev pub element_answer : Bool → Answer
element_answer true = answers undefined
element_answer false = raises (codes "java.lang.ArrayStoreException") (codes "bad element")

abbrev pub then_answer : Answer → Answer → Answer
then_answer (answers v) other = other
then_answer (raises c message) other = raises c message
then_answer lacks other = lacks

abbrev pub store_answer : World → State → Option Stored → ℤ → Value → Answer
store_answer w s (Some (array r items)) z v = then_answer (item_at items z) (element_answer (may_be_stored w s (element_type r) v))
store_answer w s _ z v = lacks

abbrev pub set_item : ℕ → Option Stored → ℤ → Value → State → Option State
set_item a (Some (array r items)) z v s = stored_item a r items z v s
set_item a _ z v s = None

abbrev pub assigned_item : ℕ → ℤ → Value → Run
assigned_item a z v env s = assigned (set_item a (slice_get s.heap a) z v s) env s

-- a cast: null is cast to anything, and any other value to what it is of
abbrev pub cast_failure : IrType → Answer
cast_failure t = raises (codes "java.lang.ClassCastException") (type_text t)

abbrev pub cast_answer : World → IrType → State → Value → Answer
cast_answer w t s null = answers (cast_of_null t)
cast_answer w t s v = if is_of_type w s v t then answers v else cast_failure t

abbrev pub is_instance_value : World → IrType → State → Value → Value
is_instance_value w t s null = boolean false
is_instance_value w t s v = boolean (is_of_type w s v t)

abbrev pub test : World → IrType → List Value → Run
test w t (v ∷ []) env s = given (is_instance_value w t s v) env s
test w t _ env s = wrong

-- the exception of a reflective call that finds no method
abbrev pub no_such_method : List ℕ
no_such_method = codes "java.lang.NoSuchMethodException"

-- the constructor of an exception with a message
abbrev pub with_message : MethodName
with_message = record { simple = codes "<init>"; params = TypeRef.Class (codes "java.lang.String") ∷ []; result = Some TypeRef.Void }

-- the constructor of a module class
abbrev pub without_parameters : MethodName
without_parameters = record { simple = codes "<init>"; params = []; result = Some TypeRef.Void }

abbrev pub method_found : Option Found → Option MethodDef
method_found None = None
method_found (Some found) = Some found.method

-- the class of which the receiver of Apply has to be an instance: the receiver class, where the value's own class decides where the call looks
abbrev pub looked_class : Option (List ℕ) → Option (List ℕ)
looked_class None = None
looked_class (Some c) = if is_hijacked c then None else Some c

abbrev pub class_looked_up : IrType → Option TypeRef → Option (List ℕ)
class_looked_up t None = None
class_looked_up t (Some r) = looked_class (receiver_class t)

-- a value where null has no meaning
abbrev pub never_null : Value → Run
never_null null env s = wrong
never_null v env s = given v env s

module _ (world : World) where
  -- New: an object of the class is made, with its fields at the zeros of their types; its constructor runs on it, with one unit less; and it is given
  abbrev pub construct : Low → List ℕ → MethodName → List Value → Run
  construct low c m vs env s = go_on (call low (member_of world c Namespace.Constructor m) (Some (reference (next_address s))) vs env (with_stored (object c (new_fields world c)) s)) (λ v. given (reference (next_address s)))

  -- an exception of this class with this message is made and thrown
  abbrev pub raise : Low → List ℕ → List ℕ → Run
  raise low c message env s = go_on (construct low c with_message (text message ∷ []) env s) (λ v. throw_value (v ∷ []))

  abbrev pub answered : Low → Answer → Run
  answered low (answers v) env s = given v env s
  answered low (raises c message) env s = raise low c message env s
  answered low lacks env s = wrong

  abbrev pub unary : Low → UnaryOp → List Value → Run
  unary low op (v ∷ []) env s = answered low (unary_value op v) env s
  unary low op _ env s = wrong

  abbrev pub binary : Low → BinaryOp → List Value → Run
  binary low op (v ∷ w ∷ []) env s = answered low (binary_value op v w) env s
  binary low op _ env s = wrong

  -- the null check of a receiver
  abbrev pub not_null : Value → Answer
  not_null null = raises (codes "java.lang.NullPointerException") (codes "null")
  not_null v = answers v

  abbrev pub checked : Low → Run → Run
  checked low r env s = go_on (r env s) (λ v. answered low (not_null v))

  -- a receiver, by whether it is sure: null is wrong at once where it is, in front of what is evaluated behind the receiver
  abbrev pub receiving : Bool → Low → Run → Run
  receiving true low r env s = go_on (r env s) never_null
  receiving false low r env s = checked low r env s

  -- a call of a method on a receiver, which isn't null
  abbrev pub call_on : Low → Option MethodDef → List Value → Run
  call_on low d (null ∷ vs) env s = wrong
  call_on low d (v ∷ vs) env s = call low d (Some v) vs env s
  call_on low d [] env s = wrong

  -- the target of a call in a class, if there is a class
  abbrev pub target_in : Option (List ℕ) → MethodName → Option MethodDef
  target_in None m = None
  target_in (Some c) m = method_found (resolved world c m)

  -- a receiver of such a call: what is no instance takes none, and so its arguments aren't evaluated
  abbrev pub only_instance : List ℕ → Value → Run
  only_instance c v env s = if is_instance world s v c then given v env s else wrong

  abbrev pub taking : Option (List ℕ) → Run → Run
  taking None r = r
  taking (Some c) r = λ env s. go_on (r env s) (only_instance c)

  -- Apply with a receiver class: a hijacked one decides where the call looks, and else the value's own class, where the value is an instance
  abbrev pub call_instance : Low → List ℕ → MethodName → List Value → Run
  call_instance low c m (v ∷ vs) env s = if is_instance world s v c then call_on low (target_in (class_of_value s v) m) (v ∷ vs) env s else wrong
  call_instance low c m [] env s = wrong

  abbrev pub call_virtual : Low → Option (List ℕ) → MethodName → List Value → Run
  call_virtual low None m vs env s = wrong
  call_virtual low (Some c) m vs env s = if is_hijacked c then call_on low (target_in (Some c) m) vs env s else call_instance low c m vs env s

  -- a reflective call: the proxy target of the value's own class, resolved again from that class
  abbrev pub call_named : Low → MethodName → List ℕ → Option MethodDef → List Value → Run
  call_named low p c None vs env s = raise low no_such_method (units_of (spelled_method p)) env s
  call_named low p c (Some d) vs env s = call_on low (target_in (Some c) d.name) vs env s

  abbrev pub call_proxy : Low → MethodName → Option (List ℕ) → List Value → Run
  call_proxy low p None vs env s = wrong
  call_proxy low p (Some c) vs env s = call_named low p c (proxy_target world c p) vs env s

  abbrev pub call_reflective : Low → MethodName → List Value → Run
  call_reflective low p (v ∷ vs) env s = call_proxy low p (class_of_value s v) (v ∷ vs) env s
  call_reflective low p [] env s = wrong

  -- a name without a result is that of a reflective call
  abbrev pub call_method : Low → IrType → MethodName → Option TypeRef → List Value → Run
  call_method low t m None = call_reflective low m
  call_method low t m (Some r) = call_virtual low (receiver_class t) m

  -- ApplyStatically: in Public the target of the class that is named, else its own member
  abbrev pub static_target : List ℕ → Namespace → MethodName → Option MethodDef
  static_target c Namespace.Public m = target_in (Some c) m
  static_target c n m = member_of world c n m

  -- LoadModule: what the cell holds; where that is null an object is made, its constructor runs on it, and the cell holds it
  abbrev pub loaded : List ℕ → Value → Run
  loaded c v env s = given v env (with_cell c v s)

  abbrev pub load : Low → List ℕ → Value → Run
  load low c null env s = go_on (construct low c without_parameters [] env s) (loaded c)
  load low c v env s = given v env s

  -- NewArray: the items are at the zero of their type
  abbrev pub new_items : Low → ArrayRef → List Value → Run
  new_items low r (number (pos n) ∷ []) env s = made_array r (replicate n (zero_of (element_type r))) env s
  new_items low r (number (negsuc n) ∷ []) env s = raise low (codes "java.lang.NegativeArraySizeException") (decimal_text (negsuc n)) env s
  new_items low r _ env s = wrong

  abbrev pub select_item : Low → List Value → Run
  select_item low vs env s = answered low (item_answer vs s) env s

  abbrev pub assign_item : Low → List Value → Run
  assign_item low (reference a ∷ number z ∷ v ∷ []) env s = go_on (answered low (store_answer world s (slice_get s.heap a) z v) env s) (λ u. assigned_item a z v)
  assign_item low _ env s = wrong

  abbrev pub cast : Low → IrType → List Value → Run
  cast low t (v ∷ []) env s = answered low (cast_answer world t s v) env s
  cast low t _ env s = wrong

  abbrev mutual
    -- a tree, by its form; whatever no case covers is wrong
    pub step : Low → Term → Run
    step low (var_def p x t m e) env s = in_order (step low e ∷ []) (define x) env s
    step low (skip p) env s = given undefined env s
    step low (block_of p ts) env s = block low ts env s
    step low (labeled p l t e) env s = then_do (step low e env s) (arrive l)
    step low (assign p (var_ref q x t) e) env s = in_order (step low e ∷ []) (define x) env s
    step low (assign p (select q d c f t) e) env s = in_order (receiving (is_sure env.sure d) low (step low d) ∷ []) (assign_on c f (step low e)) env s
    step low (assign p (select_static q c f t) e) env s = in_order (step low e ∷ []) (assign_static c f) env s
    step low (assign p (array_select q d i t) e) env s = in_order (receiving (is_sure env.sure d) low (step low d) ∷ step low i ∷ step low e ∷ []) (assign_item low) env s
    step low (return_to p e l) env s = in_order (step low e ∷ []) (leave l) env s
    step low (if_then p c a b t) env s = in_order (step low c ∷ []) (branch (step low a) (step low b)) env s
    step low (while_loop p c b) env s = then_do (in_order (step low c ∷ []) (branch (step low b) (λ env s. done (ends stops env s))) env s) (after_turn (low (while_loop p c b)))
    step low (do_while p b c) env s = then_do (go_on (step low b env s) (λ v. in_order (step low c ∷ []) (branch (given undefined) (λ env s. done (ends stops env s))))) (after_turn (low (do_while p b c)))
    step low (try_catch p e x d t) env s = then_do (step low e env s) (caught x (step low d))
    step low (try_finally p e d) env s = then_do (step low e env s) (finally (step low d))
    step low (throw p e) env s = in_order (step low e ∷ []) throw_value env s
    step low (match_on p e cs d t) env s = in_order (step low e ∷ []) (choose (branches low cs) (step low d)) env s
    step low (new_object p c m ts) env s = in_order (operands low ts) (construct low c m) env s
    step low (load_module p c) env s = load low c (s.cells c) env s
    step low (store_module p c e) env s = in_order (step low e ∷ []) (store c) env s
    step low (select p e c f t) env s = in_order (receiving (is_sure env.sure e) low (step low e) ∷ []) (select_field c f) env s
    step low (select_static p c f t) env s = value_or_wrong (s.statics c f) env s
    step low (apply p e m ts t) env s = in_order (taking (class_looked_up (type_of_term e) m.result) (receiving (is_sure env.sure e) low (step low e)) ∷ operands low ts) (call_method low (type_of_term e) m m.result) env s
    step low (apply_statically p e c n m ts t) env s = in_order (receiving (is_sure env.sure e) low (step low e) ∷ operands low ts) (call_on low (static_target c n m)) env s
    step low (apply_static p c n m ts t) env s = in_order (operands low ts) (call low (member_of world c n m) None) env s
    step low (unary_op p op e) env s = in_order (step low e ∷ []) (unary low op) env s
    step low (binary_op p op e f) env s = in_order (step low e ∷ step low f ∷ []) (binary low op) env s
    step low (new_array p r e) env s = in_order (step low e ∷ []) (new_items low r) env s
    step low (array_value p r ts) env s = in_order (operands low ts) (made_array r) env s
    step low (array_length p e) env s = in_order (receiving (is_sure env.sure e) low (step low e) ∷ []) array_length_of env s
    step low (array_select p e i t) env s = in_order (receiving (is_sure env.sure e) low (step low e) ∷ step low i ∷ []) (select_item low) env s
    step low (is_instance_of p e t) env s = in_order (step low e ∷ []) (test world t) env s
    step low (as_instance_of p e t) env s = in_order (step low e ∷ []) (cast low t) env s
    step low (undefined_literal p) env s = given undefined env s
    step low (null_literal p) env s = given null env s
    step low (boolean_literal p b) env s = given (boolean b) env s
    step low (char_literal p u) env s = given (char u) env s
    step low (byte_literal p z) env s = given (number z) env s
    step low (short_literal p z) env s = given (number z) env s
    step low (int_literal p z) env s = given (number z) env s
    step low (long_literal p z) env s = given (long z) env s
    step low (string_literal p us) env s = given (text us) env s
    step low (var_ref p x t) env s = local_value (env.locals x) env s
    step low (this_ref p t) env s = local_value env.this_value env s
    step low (log_line p t) env s = in_order (step low t ∷ []) log env s
    step low _ env s = wrong

    pub branches : Low → Cases → List Branch
    branches low no_cases = []
    branches low (more_cases ks t cs) = record { keys = ks; body = step low t } ∷ branches low cs

    -- the trees of a block, one after the other: it gives what the last gives
    pub block : Low → Terms → Run
    block low no_terms env s = wrong
    block low (more_terms t ts) env s = go_on (step low t env s) (rest low ts)

    pub rest : Low → Terms → Value → Run
    rest low no_terms v env s = given v env s
    rest low (more_terms t ts) v env s = go_on (step low t env s) (rest low ts)

    pub operands : Low → Terms → List Run
    operands low no_terms = []
    operands low (more_terms t ts) = step low t ∷ operands low ts

  -- the trees that are evaluated with one unit less than this bound: where it is 0 they are going
  abbrev pub below : ℕ → Low
  below zero t env s = going
  below (suc n) t env s = step (below n) t env s

  -- the meaning of a tree with this bound
  abbrev pub meaning : ℕ → Term → Run
  meaning n = step (below n)
