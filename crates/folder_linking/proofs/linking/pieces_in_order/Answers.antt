use Rattle.folder_linking.proofs.Linked.{all_defined}
use Rattle.folder_linking.proofs.Objects.{all_listed}
use Rattle.folder_linking.proofs.linking.pieces_in_order.Goals as goal

pub functions_of_bodies-requires : goal.functions_of_bodies-requires
functions_of_bodies-requires g c =
    let can = c.requires in
    record { defined = all_defined c.args.entries.now c.args.linked.now can; in_order = can.is_accepted.world.sorted.in_order; listed = all_listed c.args.entries.now can.files c.args.linked.now.world can.is_accepted }
