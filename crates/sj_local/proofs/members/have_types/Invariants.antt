use Rattle.std.proofs.Common.{◌≡◌, map, drop}
use Rattle.std.specs.Cmp.Lexicographic.{pointwise}
use Rattle.sj_trees.specs.Types.{reference_type}
use Rattle.sj_trees.specs.declared.classes.ParamDef.{ParamDef}
use Rattle.sj_local.specs.Names.{is_same_type}
use Rattle.sj_local.proofs.members.have_types.Given as goal

abbrev pub invariant-loop-param : goal.invariant-loop-param
invariant-loop-param l = pointwise is_same_type (map (λ (p : ParamDef). p.tpe) (drop l.param-index l.params)) (map reference_type l.rest) ≡ pointwise is_same_type (map (λ (p : ParamDef). p.tpe) l.params) (map reference_type l.references)
