-- The code of helpers, and calls of them.
use Rattle.std.specs.Prelude.{◌≡◌, ℕ, Bool, true, false, List, [], Some}
use Rattle.js_tree.specs.Terms.{Name, Member, Item, function_item, class_item, subclass_item}
use Rattle.js_tree.specs.Views.{statements_of}
use Rattle.outcomes.specs.Outcome.{End, Done, Out}
use Rattle.sj_emit_help_spec.specs.declared.kinds.Helper.{Helper}
use Rattle.js_mean.specs.States.{Value, State, ExpressionEnd, gives, Program}
use Rattle.js_mean.specs.Meaning.{Code, below, code_of, code_call}
use Rattle.class_casts.specs.Bridges.{IsTopFunction}
use Rattle.class_casts.specs.Helpers.{helper_item, helper_name}

-- the code of an item that declares a function, and the members of one that declares a class
abbrev pub code_of_item : Item → Code
code_of_item (function_item f xs ss) = record { parameters = xs; body = ss }
code_of_item _ = record { parameters = []; body = statements_of [] }

abbrev pub members_of_item : Item → List Member
members_of_item (class_item x ms) = ms
members_of_item (subclass_item x y ms) = ms
members_of_item _ = []

-- the code of a helper that is a function, by its item
abbrev pub helper_code : Helper → Code
helper_code h = code_of_item (helper_item (λ k. []) h)

-- a call of what stands under the name of a helper in a file
abbrev pub helper_call : Program → ℕ → Name → Helper → List Value → State → Out ExpressionEnd
helper_call p n home h vs s = code_call (below p n) home (code_of p home (helper_name h)) vs s

-- the code of a file can use a helper: its name is that of a function in another, where the function has the code of the helper
pub record UsesHelper (p : Program) (g : Name) (h : Helper) (s : State) : Type 0 where
  pub home : Name
  pub top : IsTopFunction p g (helper_name h) home s
  pub code_is : code_of p home (helper_name h) ≡ Some (helper_code h)

-- and one that throws, of whose code nothing is asked
pub record UsesThrower (p : Program) (g : Name) (h : Helper) (s : State) : Type 0 where
  pub home : Name
  pub top : IsTopFunction p g (helper_name h) home s

-- an outcome that is no value: it throws, or is going or wrong
abbrev pub is_value : End ExpressionEnd → Bool
is_value (Done (gives v s)) = true
is_value _ = false

abbrev pub GivesNone : Out ExpressionEnd → Type 0
GivesNone o = is_value o.end ≡ false
