-- A module with the right parts is the module that is planned.
use Rattle.std.proofs.Common.{◌≡◌, ◌++◌, List, Option, map, ◌∙◌}
use Rattle.std.specs.Prelude.{filter}
use Rattle.js_tree.specs.Terms.{Name, Module, Piece}
use Rattle.js_tree.specs.declared.items.Binding.{Binding}
use Rattle.sj_emit_module_spec.specs.Calls.{call_item_of}
use Rattle.sj_emit_module_spec.specs.Modules.{file_with, called_in, called_elsewhere, item_of, name_of, is_owned_in, imported, exported, import_lines, module_of}
use Rattle.sj_emit_module_spec.specs.Order.{each_once_in_order}
use Rattle.sj_split.specs.Modules.{file}
use Rattle.sj_split.specs.Orders.{Bytes}
use Rattle.sj_split.specs.declared.plans.PlannedModule.{PlannedModule}

module _ (modules : List PlannedModule) (planned : PlannedModule) (ps : List Piece) (file_of : Name → Option Bytes) (f : Bytes) (files_are : (class : Name) → file_of class ≡ file_with modules class) (file_is : f ≡ file planned) where
  files : file_of ≡ file_with modules
  files = λ i class. files_are class i

  pub whole : (m : Module) (own others : List Binding)
      → own ≡ called_in modules f
      → others ≡ called_elsewhere modules f
      → m.imports ≡ import_lines file_of (imported file_of f ps own)
      → m.items ≡ map item_of (filter (is_owned_in file_of f) ps) ++ map call_item_of planned.initializers
      → m.exports ≡ each_once_in_order (map name_of (exported file_of f ps others))
      → m ≡ module_of modules planned ps
  whole m own others own_is others_is imports items exports = λ i. record {
    imports = (imports ∙ (λ j. import_lines (files j) (imported (files j) (file_is j) ps ((own_is ∙ (λ k. called_in modules (file_is k))) j)))) i;
    items = (items ∙ (λ j. map item_of (filter (is_owned_in (files j) (file_is j)) ps) ++ map call_item_of planned.initializers)) i;
    exports = (exports ∙ (λ j. each_once_in_order (map name_of (exported (files j) (file_is j) ps ((others_is ∙ (λ k. called_elsewhere modules (file_is k))) j))))) i;
  }
