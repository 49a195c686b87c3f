use Rattle.std.proofs.Common.{◌≡◌, ◌-◌}
use Rattle.js_read_spec.specs.Modules.{module_at}
use Rattle.js_read.specs.Fronts.{stage_of, module_onto}
use Rattle.js_read.proofs.ModuleLoop.{finished, lines_left}
use Rattle.js_read.proofs.modules.whole_module.Given as goal

abbrev pub invariant-loop : goal.invariant-loop
invariant-loop l = finished (module_onto l.front) (lines_left l.fuel (l.fuel - l.counter) (stage_of l.front.reached) l.rest) ≡ module_at l.fuel l.bytes
