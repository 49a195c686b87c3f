-- Any graph has a plan.
use Rattle.std.proofs.Common.{List, ◌++◌, Contains, map}
use Rattle.module_names.specs.Names.{Key, Digest, names_of}
use Rattle.sj_emit_module_spec.proofs.InOrder.{are_these}
use Rattle.sj_emit_module_spec.specs.Laws.{AreThese}
use Rattle.sj_emit_module_spec.specs.Order.{each_once_in_order}
use Rattle.sj_graph.specs.declared.graphs.Graph.{Graph}
use Rattle.sj_names.specs.declared.entry_points.EntryPoint.{EntryPoint}
use Rattle.sj_split.proofs.Planned.{keys_exact}
use Rattle.sj_split.specs.Homes.{AreHomes}
use Rattle.sj_split.specs.Modules.{home_of, public_module, internal_modules, module_of, IsPlan}
use Rattle.sj_split.specs.Steps.{keys_in}
use Rattle.sj_split.specs.Walks.{Id}
use Rattle.sj_split.specs.declared.homes.Home.TheVariants.{Internal}
use Rattle.sj_split.specs.declared.homes.Settled.{Settled}
use Rattle.sj_split.specs.declared.plans.PlannedModule.{PlannedModule}
use Rattle.sj_split.specs.declared.plans.Style.{Style}
use Rattle.sj_split_plans.proofs.Settling.{homes_there}
use Rattle.sj_split_plans.proofs.Sorting.{IsSorted, sorted_there}
use Rattle.sj_split_plans.specs.Laws.{PlansExist}

planned : (digest_of : Key → Digest) (graph : Graph) (entries : List EntryPoint) (style : Style) → ((homes : List Settled) × AreHomes graph.references entries style homes) → (modules : List PlannedModule) × IsPlan digest_of graph entries style modules
planned digest_of graph entries style homes = (
  sorted.0,
  record {
    homes = homes.0;
    are_homes = homes.1;
    ids = ids;
    are_ids = record { increasing = are_ids.in_order; exact = are_ids.exact };
    keys = keys;
    are_keys = record { increasing = are_keys.in_order; exact = are_keys.exact };
    exact = sorted.1.moved;
    in_order = sorted.1.in_order;
  },
)
  where
    ids : List Id
    ids = each_once_in_order (map module_of entries)

    are_ids : AreThese (Contains (map module_of entries)) ids
    are_ids = are_these (Contains (map module_of entries)) (map module_of entries) (λ id. (λ h. h, λ h. h))

    keys : List Key
    keys = each_once_in_order (keys_in homes.0)

    are_keys : AreThese (λ (key : Key). Contains (map home_of homes.0) (Internal key)) keys
    are_keys = are_these (λ (key : Key). Contains (map home_of homes.0) (Internal key)) (keys_in homes.0) (keys_exact homes.0)

    sorted : (modules : List PlannedModule) × IsSorted (map (public_module entries homes.0) ids ++ internal_modules graph.owners homes.0 keys (names_of digest_of keys)) modules
    sorted = sorted_there (map (public_module entries homes.0) ids ++ internal_modules graph.owners homes.0 keys (names_of digest_of keys))

pub plans_exist : PlansExist
plans_exist digest_of graph entries style = planned digest_of graph entries style (homes_there graph.references entries style)
