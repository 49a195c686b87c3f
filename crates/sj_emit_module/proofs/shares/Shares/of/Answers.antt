use Rattle.std.proofs.Common.{◌≡◌, ◌++◌, ◌∙◌, ap, filter, List, map, Option}
use Rattle.std.specs.List.{flat_map}
use Rattle.js_tree.specs.Terms.{Name, Piece}
use Rattle.js_tree.specs.Views.{piece_view}
use Rattle.js_tree.specs.declared.items.Binding.{Binding as Bound}
use Rattle.sj_emit_module_spec.specs.Modules.{file_with, called_in, called_elsewhere, uses_of, item_of, name_of, is_owned_in, exported, names_in}
use Rattle.sj_emit_module_spec.specs.Order.{each_once_in_order}
use Rattle.sj_emit_module.specs.Files.{file_in}
use Rattle.sj_emit_module.specs.Groups.{HoldNames, names_at}
use Rattle.sj_emit_module.specs.Shares.{crossing, crossing_calls}
use Rattle.sj_emit_module.proofs.Crossing.{of_both}
use Rattle.sj_emit_module.proofs.Held.{set_in_order}
use Rattle.sj_split.specs.Orders.{Bytes}
use Rattle.sj_split.specs.declared.plans.PlannedModule.{PlannedModule}
use Rattle.sj_emit_module.proofs.shares.Shares.of.Goals as goal

pub returns : goal.returns
returns c =
    let ps : List Piece = map piece_view c.args.pieces.now in
    let modules : List PlannedModule = c.modules-modules.result.now in
    let same : modules ≡ c.args.plan.now = c.modules-modules.ensures in
    let here : Name → Option Bytes = file_in c.in_ok-files.files in
    let files : (class : Name) → here class ≡ file_with c.args.plan.now class = λ class. c.in_ok-files.ensures class ∙ ap (λ (l : List PlannedModule). file_with l class) same in
    let all : here ≡ file_with c.args.plan.now = λ i class. files class i in
    let held : HoldNames here (flat_map (crossing here) ps ++ flat_map (crossing_calls here) modules) c.put_calls.new.exports = c.in_ok-put_calls.ensures.exports (flat_map (crossing here) ps) c.in_ok-exports.ensures in
    record {
      files = files;
      items = λ f. c.in_ok-items.ensures f ∙ (λ i. map item_of (filter (is_owned_in (all i) f) ps));
      uses = λ f. c.in_ok-put_calls.ensures.uses f ∙ (λ i. (c.in_ok-uses.ensures f ∙ (λ j. flat_map uses_of (filter (is_owned_in (all j) f) ps))) i ++ called_in (same i) f);
      exports = λ f. set_in_order (names_at c.put_calls.new.exports f) (names_in here f (flat_map (crossing here) ps ++ flat_map (crossing_calls here) modules)) (held.names f) ∙ ap (λ (bs : List Bound). each_once_in_order (map name_of bs)) (of_both here f ps modules) ∙ (λ i. each_once_in_order (map name_of (exported (all i) f ps (called_elsewhere (same i) f))));
    }
