-- Modules keep the rules of printing.
use Rattle.std.proofs.Common.{not, List, [], ◌∷◌, Contains, refl, subst, map}
use Rattle.std.specs.Prelude.{All, IsTrue, filter}
use Rattle.std.proofs.lemmas.List.Elements.{All-nil, All-cons, All-append, All-contains}
use Rattle.js_tree.specs.Names.{is_file, is_empty}
use Rattle.js_tree.specs.Rules.{IsName, IsBinding, IsItem, IsPiece, IsImport}
use Rattle.js_tree.specs.Terms.{Name, Item, Piece}
use Rattle.js_tree.specs.declared.items.Binding.{Binding}
use Rattle.js_tree.specs.declared.items.JsImport.{JsImport}
use Rattle.sj_split.proofs.Members.{at_first, further, into_map, from_map, from_filter}
use Rattle.sj_split.specs.Modules.{file}
use Rattle.sj_split.specs.Orders.{Bytes}
use Rattle.sj_split.specs.declared.plans.PlannedModule.{PlannedModule}
use Rattle.worklist.proofs.Inserted.{nothing_in}
use Rattle.sj_emit_module_spec.proofs.Lines.{imports_are, exports_are, in_module}
use Rattle.sj_emit_module_spec.specs.Calls.{call_item_of}
use Rattle.sj_emit_module_spec.specs.Laws.{Uses, by_piece, by_call, IsUse, ModulesKeepRules, source_of}
use Rattle.sj_emit_module_spec.specs.Modules.{file_with, called_in, called_elsewhere, item_of, name_of, is_owned_in, imported, exported, import_lines}
use Rattle.sj_emit_module_spec.specs.Order.{each_once_in_order}

all_from : {X : Type 0} (P : X → Type 0) (xs : List X) → ((x : X) → Contains xs x → P x) → All P xs
all_from P [] each = All-nil P
all_from P (x ∷ xs) each = All-cons P x xs (each x (at_first x xs)) (all_from P xs (λ y h. each y (further x y xs h)))

some_names : (xs : List Name) (x : Name) → Contains xs x → IsTrue (not (is_empty xs))
some_names [] x h = nothing_in x h
some_names (y ∷ ys) x h = refl

module _ (modules : List PlannedModule) (planned : PlannedModule) (ps : List Piece) (keep : All IsPiece ps) (calls : (m : PlannedModule) → Contains modules m → All IsItem (map call_item_of m.initializers)) where
  binding_keeps : (f : Bytes) (b : Binding) → Uses modules ps f b → IsName b.name
  binding_keeps f _ (by_piece p b h stands u) = All-contains IsBinding p.uses b (All-contains IsPiece ps p keep h).1 u
  binding_keeps f _ (by_call m e h is i) = (All-contains IsItem (map call_item_of m.initializers) (call_item_of e) (calls m h) (into_map call_item_of m.initializers e i)).0

  name_keeps : (from to : Bytes) (x : Name) → IsUse modules ps from to x → IsName x
  name_keeps from to x u = subst IsName u.named (binding_keeps from u.binding u.used)

  line_keeps : ((m : PlannedModule) → Contains modules m → IsTrue (is_file (file m))) → (line : JsImport) → Contains (import_lines (file_with modules) (imported (file_with modules) (file planned) ps (called_in modules (file planned)))) line → IsImport line
  line_keeps files line h =
      let i = imports_are modules ps (file planned) in
      let s = (i.sources.exact line.file).0 (into_map source_of (import_lines (file_with modules) (imported (file_with modules) (file planned) ps (called_in modules (file planned)))) line h) in
      let n = i.names line h in
      let there = in_module modules s.uses.binding.owner line.file s.uses.bound in (
        some_names line.names s.name ((n.exact s.name).1 s.uses),
        all_from IsName line.names (λ x k. name_keeps (file planned) line.file x ((n.exact x).0 k)),
        subst (λ (f : Bytes). IsTrue (is_file f)) there.named (files there.planned there.among),
      )

  item_keeps : (x : Item) → Contains (map item_of (filter (is_owned_in (file_with modules) (file planned)) ps)) x → IsItem x
  item_keeps x h =
      let m = from_map item_of (filter (is_owned_in (file_with modules) (file planned)) ps) x h in
      let c = from_filter (is_owned_in (file_with modules) (file planned)) ps m.item m.among in
      subst IsItem m.is (All-contains IsPiece ps m.item keep c.among).2

  export_keeps : (x : Name) → Contains (each_once_in_order (map name_of (exported (file_with modules) (file planned) ps (called_elsewhere modules (file planned))))) x → IsName x
  export_keeps x h = let w = ((exports_are modules ps (file planned)).exact x).0 h in name_keeps w.from (file planned) x w.uses

pub modules_keep_rules : ModulesKeepRules
modules_keep_rules modules planned ps there keep calls files = (
  all_from IsImport (import_lines (file_with modules) (imported (file_with modules) (file planned) ps (called_in modules (file planned)))) (line_keeps modules planned ps keep calls files),
  All-append IsItem (map item_of (filter (is_owned_in (file_with modules) (file planned)) ps)) (map call_item_of planned.initializers) (all_from IsItem (map item_of (filter (is_owned_in (file_with modules) (file planned)) ps)) (item_keeps modules planned ps keep calls)) (calls planned there),
  all_from IsName (each_once_in_order (map name_of (exported (file_with modules) (file planned) ps (called_elsewhere modules (file planned))))) (export_keeps modules planned ps keep calls),
)
