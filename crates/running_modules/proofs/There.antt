-- The public modules of a plan, and their initializers.
use Rattle.std.proofs.Common.{◌≡◌, List, [], ◌∷◌, ◌++◌, refl, ap, ◌∙◌, map}
use Rattle.std.specs.Prelude.{if◌then◌else◌}
use Rattle.std.specs.Cmp.Lexicographic.{nat_list_eq_equiv}
use Rattle.std.proofs.lemmas.List.Elements.{Contains-append_left}
use Rattle.std.proofs.lemmas.List.Sorted.{Contains-permutation}
use Rattle.ir_mean.specs.Shows.{initializers}
use Rattle.module_names.specs.Names.{names_of}
use Rattle.sj_names.specs.declared.entry_points.EntryPoint.{EntryPoint}
use Rattle.sj_split.proofs.Members.{into_map}
use Rattle.sj_split.specs.Modules.{initializers_of, internal_modules, public_module}
use Rattle.sj_split.specs.Orders.{is_same}
use Rattle.sj_split.specs.Walks.{Id}
use Rattle.sj_split.specs.declared.plans.PlannedModule.{PlannedModule}
use Rattle.running_modules.specs.Laws.{PublicModulesAreThere}

-- the initializers of a public module are those that its loading is to show
initializers_are : (id : Id) (entries : List EntryPoint) → initializers_of id entries ≡ initializers entries id
initializers_are id [] = refl
initializers_are id (e ∷ es) = ap (λ b. if b then (e ∷ initializers_of id es) else initializers_of id es) (nat_list_eq_equiv.symm e.module id) ∙ ap (λ (l : List EntryPoint). if is_same id e.module then (e ∷ l) else l) (initializers_are id es)

pub public_modules_are_there : PublicModulesAreThere
public_modules_are_there digest_of graph entries style modules is id h =
    let public : List PlannedModule = map (public_module entries is.homes) is.ids in
    let internal : List PlannedModule = internal_modules graph.owners is.homes is.keys (names_of digest_of is.keys) in
    let planned : PlannedModule = public_module entries is.homes id in
    record {
      planned = planned;
      among = Contains-permutation (public ++ internal) modules planned is.exact (Contains-append_left public internal planned (into_map (public_module entries is.homes) is.ids id ((is.are_ids.exact id).1 h)));
      named = refl;
      its_file = refl;
      calls = initializers_are id entries;
    }
