-- What stays of the environment that the tops of files come to, and where names stand across files.
use Rattle.std.specs.Prelude.{◌≡◌, ℕ, ◌≤◌, Bool, true, false, List, length, slice_get, Option, Some, None}
use Rattle.js_tree.specs.Terms.{Name, Module}
use Rattle.js_mean.specs.Objects.{allocated, at_address}
use Rattle.js_mean.specs.Files.{module_among, imports_in, exports_in, imported_from, owner}
use Rattle.js_mean.specs.Proper.{is_among}
use Rattle.js_mean.specs.States.{Value, ClassLink, Stored, State, Program}
use Rattle.file_tops.specs.Tops.{started}

-- the environment still stands: of the names at the tops only variables have changed, and what was on the heap stands there as it was.
-- `Variable` says which names are variables: those of static fields and of cells
pub record Stands (Variable : Name → Name → Bool) (tops now : State) : Type 0 where
  pub names : (f x : Name) → Variable f x ≡ false → now.tops f x ≡ tops.tops f x
  pub constants : (a : ℕ) (y : Stored) → slice_get tops.heap a ≡ Some y → slice_get now.heap a ≡ Some y

-- the three ways in which emitted code changes a state: an object is made, a property of an object that isn't a constant is set, a variable is set
pub record StandsOn (Variable : Name → Name → Bool) : Type 0 where
  pub at_once : (t : State) → Stands Variable t t
  pub made : (t s : State) (ls : List ClassLink) (own : Name → Option Value) → Stands Variable t s → Stands Variable t (allocated ls own s)
  pub set : (t s : State) (a : ℕ) (y : Stored) → length t.heap ≤ a → Stands Variable t s → Stands Variable t (at_address a y s)
  pub variable : (t s : State) (f x : Name) (v : Value) → Variable f x ≡ true → Stands Variable t s → Stands Variable t (started false f x v s)

-- a name that a file declares itself stands there, and one that it imports where it is declared
pub record OwnersFound : Type 0 where
  pub own : (p : Program) (f x : Name) → imported_from (imports_in (module_among p f)) x ≡ None → owner p f x ≡ Some f
  pub imported : (p : Program) (f g x : Name) (m : Module) → module_among p f ≡ Some m → imported_from m.imports x ≡ Some g → is_among (exports_in (module_among p g)) x ≡ true → imported_from (imports_in (module_among p g)) x ≡ None → owner p f x ≡ Some g
