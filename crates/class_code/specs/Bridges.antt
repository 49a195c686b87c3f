-- A method of a class that hands its call on to a function at the top.
use Rattle.std.specs.Prelude.{◌≡◌, ℕ, suc, Bool, true, false, List, [], ◌∷◌, length, Option, Some, None, is_some, map, if◌then◌else◌}
use Rattle.js_tree.specs.Names.{is_same_text}
use Rattle.js_tree.specs.Terms.{Name, expression, this_use, call_of, no_statements, statement, return_of}
use Rattle.js_mean.specs.Classes.{method_code}
use Rattle.js_mean.specs.Objects.{method_on}
use Rattle.entry_search.specs.Words.{uses}
use Rattle.js_mean.specs.Proper.{is_among, are_distinct}
use Rattle.js_mean.specs.Files.{owner}
use Rattle.js_mean.specs.States.{Value, function, method, ClassLink, holds, State, Program}
use Rattle.js_mean.specs.Meaning.{Code, below, top_cell, code_of, code_call, method_call}

-- `return f(this, x, ..);`
abbrev pub bridge : Name → List Name → Code
bridge f xs = record { parameters = xs; body = statement (return_of (call_of f (expression this_use (uses xs)))) no_statements }

-- in this file the name is that of a function at the top of that one
pub record IsTopFunction (p : Program) (file f g : Name) (s : State) : Type 0 where
  pub const : Bool
  pub cell_is : top_cell (owner p file f) f s ≡ holds const (function g f)

-- a bridge costs one unit, and then the function runs with `this` in front
abbrev pub BridgesHandOn : Type 0
BridgesHandOn = (p : Program) (n : ℕ) (l : ClassLink) (ls : List ClassLink) (xs : List Name) (f g : Name) (this : Value) (vs : List Value) (s : State) →
    are_distinct xs ≡ true → length xs ≡ length vs → is_among xs f ≡ false → is_same_text f l.name ≡ false → IsTopFunction p l.file f g s →
    method_call (below p (suc n)) l ls (Some (bridge f xs)) this vs s ≡ code_call (below p n) g (code_of p g f) (this ∷ vs) s

-- property lookup along classes is a search for the first that has the method
abbrev pub first_with : {A : Type 0} → (A → Bool) → List A → Option A
first_with has [] = None
first_with has (c ∷ cs) = if has c then Some c else first_with has cs

-- and it gives the method of that class
pub record IsMethodOf {A : Type 0} (link_of : A → ClassLink) (x : Name) (c : A) (v : Option Value) : Type 0 where
  pub above : List ClassLink
  pub is_method : v ≡ Some (method (link_of c ∷ above) x)

abbrev pub LookupSearches : Type 0
LookupSearches = (p : Program) (link_of : Name → ClassLink) (x : Name) (chain : List Name) (c : Name) → first_with (λ d. is_some (method_code p (link_of d) x)) chain ≡ Some c → IsMethodOf link_of x c (method_on p (map link_of chain) x)
