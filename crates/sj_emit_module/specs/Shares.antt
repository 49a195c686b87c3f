-- What the modules of a plan share.
use Rattle.std.specs.Prelude.{◌≡◌, List, [], ◌++◌, Option, Some, None, map, filter}
use Rattle.std.specs.List.{flat_map}
use Rattle.js_tree.specs.Terms.{Name, Piece}
use Rattle.js_tree.specs.Views.{item_view}
use Rattle.js_tree.specs.declared.items.Binding.{Binding}
use Rattle.sj_emit_module_spec.specs.Calls.{called}
use Rattle.sj_emit_module_spec.specs.Modules.{file_with, called_in, called_elsewhere, uses_of, item_of, name_of, is_owned_in, is_bound_elsewhere, exported}
use Rattle.sj_emit_module_spec.specs.Order.{each_once_in_order}
use Rattle.sj_emit_module.specs.Files.{file_in}
use Rattle.sj_emit_module.specs.Groups.{names_at}
use Rattle.sj_emit_module.specs.Lists.{items_at}
use Rattle.sj_emit_module.specs.declared.shares.Shares.{Shares}
use Rattle.sj_split.specs.Modules.{file}
use Rattle.sj_split.specs.Orders.{Bytes}
use Rattle.sj_split.specs.declared.plans.PlannedModule.{PlannedModule}

module _ (file_of : Name → Option Bytes) where
  -- those of the bindings used in a file that are of others
  abbrev pub crossing_from : Option Bytes → List Binding → List Binding
  crossing_from None bs = []
  crossing_from (Some g) bs = filter (is_bound_elsewhere file_of g) bs

  -- what a piece uses of other files, and what the initializers of a module call there
  abbrev pub crossing : Piece → List Binding
  crossing p = crossing_from (file_of p.owner) p.uses

  abbrev pub crossing_calls : PlannedModule → List Binding
  crossing_calls m = crossing_from (Some (file m)) (map called m.initializers)

-- where classes stand; under each file the items of its pieces, what these and its initializers use, and those of its names that other files use
pub record AreShares (modules : List PlannedModule) (ps : List Piece) (s : Shares) : Type 0 where
  pub files : (class : Name) → file_in s.files class ≡ file_with modules class
  pub items : (f : Bytes) → map (λ i. item_view i.value) (items_at s.items f) ≡ map item_of (filter (is_owned_in (file_with modules) f) ps)
  pub uses : (f : Bytes) → items_at s.uses f ≡ flat_map uses_of (filter (is_owned_in (file_with modules) f) ps) ++ called_in modules f
  pub exports : (f : Bytes) → each_once_in_order (names_at s.exports f) ≡ each_once_in_order (map name_of (exported (file_with modules) f ps (called_elsewhere modules f)))
