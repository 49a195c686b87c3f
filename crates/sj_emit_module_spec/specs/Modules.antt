-- The module of a planned module, with its import lines and its export line.
use Rattle.std.specs.Prelude.{◌≡◌, ℕ, Bool, false, List, [], ◌∷◌, ◌++◌, Option, Some, None, not, map, filter, slice_get, if◌then◌else◌}
use Rattle.std.specs.List.{filter_map, flat_map}
use Rattle.js_tree.specs.Terms.{Name, Item, Piece, Module}
use Rattle.js_tree.specs.declared.items.Binding.{Binding}
use Rattle.js_tree.specs.declared.items.JsImport.{JsImport}
use Rattle.sj_names.specs.declared.entry_points.EntryPoint.{EntryPoint}
use Rattle.sj_split.specs.Modules.{file, is_among}
use Rattle.sj_split.specs.Orders.{Bytes, is_same}
use Rattle.sj_split.specs.declared.plans.PlannedModule.{PlannedModule}
use Rattle.sj_emit_module_spec.specs.Calls.{call_item_of, called}
use Rattle.sj_emit_module_spec.specs.Order.{each_once_in_order}

-- the file in which a class stands: that of the first module that has it
abbrev pub file_with : List PlannedModule → Name → Option Bytes
file_with [] class = None
file_with (m ∷ ms) class = if is_among m.classes class then Some (file m) else file_with ms class

abbrev pub is_this : Bytes → Option Bytes → Bool
is_this f None = false
is_this f (Some g) = is_same f g

abbrev pub is_another : Bytes → Option Bytes → Bool
is_another f None = false
is_another f (Some g) = not (is_same f g)

abbrev pub initializers_of : PlannedModule → List EntryPoint
initializers_of m = m.initializers

-- what the initializers of the modules with this file call, and those of modules with another
abbrev pub called_in : List PlannedModule → Bytes → List Binding
called_in modules f = map called (flat_map initializers_of (filter (λ m. is_this f (Some (file m))) modules))

abbrev pub called_elsewhere : List PlannedModule → Bytes → List Binding
called_elsewhere modules f = map called (flat_map initializers_of (filter (λ m. is_another f (Some (file m))) modules))

abbrev pub uses_of : Piece → List Binding
uses_of p = p.uses

abbrev pub item_of : Piece → Item
item_of p = p.item

abbrev pub name_of : Binding → Name
name_of b = b.name

-- where each class stands in the file that is told of it
module _ (file_of : Name → Option Bytes) where
  -- its class stands in this file, or in another
  abbrev pub is_owned_in : Bytes → Piece → Bool
  is_owned_in f p = is_this f (file_of p.owner)

  abbrev pub is_owned_elsewhere : Bytes → Piece → Bool
  is_owned_elsewhere f p = is_another f (file_of p.owner)

  abbrev pub is_bound_in : Bytes → Binding → Bool
  is_bound_in f b = is_this f (file_of b.owner)

  abbrev pub is_bound_elsewhere : Bytes → Binding → Bool
  is_bound_elsewhere f b = is_another f (file_of b.owner)

  -- the bindings of other files that the pieces of this one use, or the calls in it
  abbrev pub imported : Bytes → List Piece → List Binding → List Binding
  imported f ps calls = filter (is_bound_elsewhere f) (flat_map uses_of (filter (is_owned_in f) ps) ++ calls)

  -- the bindings of this file that the pieces of others use, or the calls in others
  abbrev pub exported : Bytes → List Piece → List Binding → List Binding
  exported f ps calls = filter (is_bound_in f) (flat_map uses_of (filter (is_owned_elsewhere f) ps) ++ calls)

  abbrev pub files_of : List Binding → List Bytes
  files_of bs = filter_map (λ b. file_of b.owner) bs

  -- the names of those of these bindings that are of a file
  abbrev pub names_in : Bytes → List Binding → List Name
  names_in f bs = map name_of (filter (is_bound_in f) bs)

  abbrev pub import_line : List Binding → Bytes → JsImport
  import_line bs f = record { names = each_once_in_order (names_in f bs); file = f }

  -- a line for each file of these bindings
  abbrev pub import_lines : List Binding → List JsImport
  import_lines bs = map (import_line bs) (each_once_in_order (files_of bs))

-- the module that is planned: lines for what it imports, the items of the pieces of its classes, the calls of its initializers, and the names that
-- others import
abbrev pub module_of : List PlannedModule → PlannedModule → List Piece → Module
module_of modules planned ps = record {
  imports = import_lines (file_with modules) (imported (file_with modules) (file planned) ps (called_in modules (file planned)));
  items = map item_of (filter (is_owned_in (file_with modules) (file planned)) ps) ++ map call_item_of planned.initializers;
  exports = each_once_in_order (map name_of (exported (file_with modules) (file planned) ps (called_elsewhere modules (file planned))));
}

-- the module of the planned module with this number
pub record IsModuleOf (modules : List PlannedModule) (which : ℕ) (ps : List Piece) (m : Module) : Type 0 where
  pub planned : PlannedModule
  pub stands : slice_get modules which ≡ Some planned
  pub is : m ≡ module_of modules planned ps
