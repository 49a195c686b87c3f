-- The tests of kinds, and the functions that tell primitive receivers apart.
use Rattle.std.specs.Prelude.{◌≡◌, ℕ, suc, Bool, true, false, List, [], ◌∷◌, length, slice_get, Some, codes, if◌then◌else◌}
use Rattle.js_tree.specs.Terms.{Name}
use Rattle.outcomes.specs.Outcome.{Out, done}
use Rattle.sj_names.specs.declared.method_names.MethodName.{MethodName}
use Rattle.class_code.specs.Fact.{Fact}
use Rattle.class_code.specs.Known.{Classes}
use Rattle.class_code.specs.Dispatch.{IsReachedTarget, Told, dispatch_body, AreTold}
use Rattle.js_mean.specs.Objects.{stored_below, callee}
use Rattle.js_mean.specs.Files.{owner}
use Rattle.js_mean.specs.Proper.{are_distinct}
use Rattle.js_mean.specs.States.{Value, undefined, boolean, number, big_int, text, object, class, ClassLink, holds, State, ExpressionEnd, gives, Program}
use Rattle.class_code.specs.Objects.{call_found}
use Rattle.js_mean.specs.Meaning.{Code, below, top_cell, code_of, code_call, function_scope}
use Rattle.class_code.specs.Bridges.{IsTopFunction}
use Rattle.class_code.specs.Kind.{Kind}
use Rattle.class_code.specs.KindVariants.{Undefined, Boolean, Char, Byte, Short, Int, Long, Text}
use Rattle.class_code.specs.Words.{kind_class, is_name, told_kinds, entry_name, public_function, parameters_of, only_return}
use Rattle.class_code.specs.Helpers.{kind_condition}

-- an object of the class of boxed chars
abbrev pub is_box : State → List ClassLink → Value → Bool
is_box s boxes (object a) = stored_below (slice_get s.heap a) boxes
is_box s boxes _ = false

-- whether the value is of the kind; bytes and shorts are told as ints
abbrev pub is_of : State → List ClassLink → Kind → Value → Bool
is_of s boxes Undefined undefined = true
is_of s boxes Boolean (boolean b) = true
is_of s boxes Int (number z) = true
is_of s boxes Long (big_int z) = true
is_of s boxes Text (text us) = true
is_of s boxes Char v = is_box s boxes v
is_of s boxes _ _ = false

-- a call tells all kinds apart but bytes and shorts
abbrev pub is_told : Kind → Bool
is_told Byte = false
is_told Short = false
is_told _ = true

abbrev pub test_code : Kind → Code
test_code k = record { parameters = codes "x" ∷ []; body = only_return (kind_condition k) }

-- boxed chars have their class under its name in this file
pub record BoxesStand (p : Program) (g : Name) (boxes : List ClassLink) (s : State) : Type 0 where
  pub const : Bool
  pub cell_is : top_cell (owner p g (codes "$C")) (codes "$C") s ≡ holds const (class boxes)

-- `$isX` costs one unit, and tells whether its value is of the kind; that of chars asks for their class
abbrev pub TestsTell : Type 0
TestsTell = (p : Program) (n : ℕ) (g : Name) (boxes : List ClassLink) (s : State) (k : Kind) (v : Value) → is_told k ≡ true → (k ≡ Char → BoxesStand p g boxes s) → code_call (below p (suc n)) g (Some (test_code k)) (v ∷ []) s ≡ done (gives (boolean (is_of s boxes k v)) s)

-- what a case of a dispatch uses: the test of its kind, and the function that it calls
pub record CaseStands (p : Program) (g : Name) (home : Name → Name) (boxes : List ClassLink) (m : MethodName) (s : State) (t : Told) : Type 0 where
  pub test_home : Name
  pub kind_told : is_told t.kind ≡ true
  pub test : IsTopFunction p g (is_name t.kind) test_home s
  pub test_is : code_of p test_home (is_name t.kind) ≡ Some (test_code t.kind)
  pub boxes_stand : t.kind ≡ Char → BoxesStand p test_home boxes s
  pub called : IsTopFunction p g (public_function t.owner m) (home t.owner) s

pub data CasesStand (p : Program) (g : Name) (home : Name → Name) (boxes : List ClassLink) (m : MethodName) (s : State) : List Told → Type 0 where
  cases_none : CasesStand p g home boxes m s []
  cases_more : (t : Told) (ts : List Told) → CaseStands p g home boxes m s t → CasesStand p g home boxes m s ts → CasesStand p g home boxes m s (t ∷ ts)

abbrev pub dispatch_code : MethodName → List Told → Code
dispatch_code m ts = record { parameters = codes "x" ∷ parameters_of m; body = dispatch_body m ts }

-- the first case whose kind the value is of runs its function, and where it is of none the method is called on it
abbrev pub told_outcome : Program → ℕ → (Name → Name) → List ClassLink → MethodName → List Told → Value → List Value → Out ExpressionEnd → State → Out ExpressionEnd
told_outcome p n home boxes m [] v vs last s = last
told_outcome p n home boxes m (t ∷ ts) v vs last s = if is_of s boxes t.kind v then code_call (below p n) (home t.owner) (code_of p (home t.owner) (public_function t.owner m)) (v ∷ vs) s else told_outcome p n home boxes m ts v vs last s

-- `d_m` costs one unit
abbrev pub DispatchTells : Type 0
DispatchTells = (p : Program) (n : ℕ) (g : Name) (home : Name → Name) (boxes : List ClassLink) (m : MethodName) (ts : List Told) (v : Value) (vs : List Value) (s : State) →
    CasesStand p g home boxes m s ts → are_distinct (codes "x" ∷ parameters_of m) ≡ true → length (parameters_of m) ≡ length vs →
    code_call (below p (suc (suc n))) g (Some (dispatch_code m ts)) (v ∷ vs) s ≡ told_outcome p (suc n) home boxes m ts v vs (call_found p (below p (suc n)) v (callee p s v (entry_name m)) vs (function_scope g (dispatch_code m ts) (v ∷ vs)) s) s

-- so on a value of a kind it runs the target that the world's resolution gives for the class of the kind
abbrev pub KindsRunTargets : Type 0
KindsRunTargets = (w : Classes) (facts : List Fact) (p : Program) (n : ℕ) (home : Name → Name) (boxes : List ClassLink) (m : MethodName) (ts : List Told) (v : Value) (vs : List Value) (last : Out ExpressionEnd) (s : State) (k : Kind) (owner : Name) →
    AreTold w facts m told_kinds ts → is_told k ≡ true → is_of s boxes k v ≡ true → IsReachedTarget w facts (kind_class k) m owner →
    told_outcome p n home boxes m ts v vs last s ≡ code_call (below p n) (home owner) (code_of p (home owner) (public_function owner m)) (v ∷ vs) s

-- and on an object that is no boxed char, the method of the object
abbrev pub OthersCallMethods : Type 0
OthersCallMethods = (p : Program) (n a : ℕ) (home : Name → Name) (boxes : List ClassLink) (m : MethodName) (ts : List Told) (vs : List Value) (last : Out ExpressionEnd) (s : State) → is_box s boxes (object a) ≡ false → told_outcome p n home boxes m ts (object a) vs last s ≡ last
