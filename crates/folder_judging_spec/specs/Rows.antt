-- Small folders with their verdicts.
use Rattle.std.specs.Prelude.{List, [], ◌∷◌, ◌++◌, None, codes, decimal}
use Rattle.sj_names.specs.declared.entry_points.EntryPoint.{EntryPoint}
use Rattle.sj_trees.specs.declared.classes.ClassDef.{ClassDef}
use Rattle.sj_trees.specs.declared.classes.ClassKind.TheVariants.{Class}
use Rattle.sj_world.specs.Rows.{empty_class}
use Rattle.folder_judging_spec.specs.Verdicts.{refused, ByNames}

-- `A` without a superclass, which breaks the first local rule
abbrev pub rootless : ClassDef
rootless = empty_class (codes "A") Class None []

-- alone it is told for its rule; a second one is told before any rule
abbrev pub WorkedVerdicts : Type 0
WorkedVerdicts = (entries : List EntryPoint) → ByNames entries (rootless ∷ []) (refused 19 (codes "A" ++ codes " " ++ decimal 1))
    × ByNames entries (rootless ∷ rootless ∷ []) (refused 11 (codes "A"))
