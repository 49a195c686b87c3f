use Rattle.std.proofs.Common.{take}
use Rattle.std.specs.List.{AllZip}
use Rattle.sj_local.specs.MethodParts.{HasFindings}
use Rattle.sj_local.proofs.places.all_findings.Given as goal

abbrev pub invariant-loop-method : goal.invariant-loop-method
invariant-loop-method l = AllZip (HasFindings l.class) (take l.method-index l.class.methods) l.all.items
