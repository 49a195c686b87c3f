use Rattle.folder_files.specs.Walking.{Gathers}
use Rattle.folder_files.specs.Files.{deepest}
use Rattle.std.proofs.Common.{[], subst, List, ℕ}
use Rattle.folder_files.proofs.Sorted.{paths_in_order}
use Rattle.folder_files.proofs.walking.paths_in_order.Goals as goal

pub returns-clause-told : goal.returns-clause-told
returns-clause-told g c contents tells =
    let gathered : Gathers contents c.args.path.now [] deepest [] c.gather.new.paths.items = subst (λ (old : List (List ℕ)). Gathers contents c.args.path.now [] deepest old c.gather.new.paths.items) c.new-paths.ensures.items (c.in_ok-gather.ensures.told contents tells) in
    paths_in_order contents c.args.path.now c.gather.new.paths.items c.sort_unstable.new.self.items gathered c.sort_unstable.ensures.permutation c.sort_unstable.ensures.sorted
