use Rattle.std.proofs.Common.{map}
use Rattle.std.proofs.lemmas.Result.{IfOk-weaker}
use Rattle.js_tree.specs.Views.{piece_view}
use Rattle.folder_linking.specs.Modules.{as_file}
use Rattle.folder_linking.proofs.Printed.{link_is, rules_kept}
use Rattle.folder_linking.proofs.linking.link_pieces.Goals as goal

pub printed_files-requires : goal.printed_files-requires
printed_files-requires c = rules_kept c.args.linked.now.world c.args.entries.now (map piece_view c.args.pieces.now) c.requires c.modules_keep_rules.ensures c.plans_name_files.ensures c.args.style c.in_ok-graph.graph c.in_ok-plan.plan c.are_entries.ensures c.in_ok-plan.ensures

pub returns : goal.returns
returns c = IfOk-weaker c.printed_files.result _ _ (λ files are. link_is c.args.linked.now.world c.args.entries.now (map piece_view c.args.pieces.now) c.requires c.args.style c.in_ok-graph.graph c.in_ok-plan.plan (map as_file files.items) c.are_entries.ensures c.in_ok-graph.ensures c.in_ok-plan.ensures are) c.printed_files.ensures
