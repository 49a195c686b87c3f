use Rattle.std.proofs.Common.{map, sym, refl}
use Rattle.std.proofs.lemmas.Result.{err_from_is_err_and}
use Rattle.js_read_spec.specs.Modules.{module_at}
use Rattle.js_tree.specs.Views.{item_view}
use Rattle.js_read.specs.declared.modules.Reached.TheVariants as reached
use Rattle.js_read.specs.Lines.{line_view}
use Rattle.js_read.specs.Fronts.{stage_of, module_onto}
use Rattle.js_read.proofs.ModuleLoop.{onto, onto_start, stage_goes, loop_start, line_goes, line_fails, line_stops, line_out}
use Rattle.js_read.proofs.modules.whole_module.Goals as goal

pub loop-init : goal.loop-init
loop-init c = loop_start c.args.fuel c.args.bytes.now (onto c.new.result.items (map (λ i. item_view i.value) c.new-2.result.items) reached.Imports) (onto_start c.new.result.items (map (λ i. item_view i.value) c.new-2.result.items) c.new.ensures.items (rw c.new-2.ensures.items refl))

pub put-requires : goal.put-requires
put-requires c = stage_goes (stage_of c.loop.front.reached) c.loop.rest.now (sym c.if-not-goes_on.ensures)

pub returns-then-not-goes_on : goal.returns-then-not-goes_on
returns-then-not-goes_on c = rw (line_stops c.args.fuel (module_onto c.loop.front) (stage_of c.loop.front.reached) c.args.fuel c.loop.counter c.loop.rest.now (module_at c.args.fuel c.args.bytes.now) c.loop-test.true (sym c.if-not-goes_on.ensures) c.loop.invariant) c.finish.ensures

pub returns-in_err-line : goal.returns-in_err-line
returns-in_err-line c =
    let p = err_from_is_err_and c.from_residual.result c.from_residual.ensures.1 in
    rw (p.1, p.2) (line_fails c.args.fuel c.in_err-line.field-0.0 (module_onto c.loop.front) (stage_of c.loop.front.reached) c.args.fuel c.loop.counter c.loop.rest.now (module_at c.args.fuel c.args.bytes.now) c.loop-test.true (sym c.if-not-goes_on.ensures) (rw c.may_import.ensures at c.in_err-line.ensures) c.loop.invariant)

pub loop-preserved : goal.loop-preserved
loop-preserved c = line_goes c.args.fuel (module_onto c.loop.front) (module_onto c.in_ok-longer.longer) (stage_of c.loop.front.reached) (stage_of c.in_ok-longer.longer.reached) c.args.fuel c.loop.counter c.loop.rest.now (line_view c.in_ok-line.line) c.in_ok-line.after.now (module_at c.args.fuel c.args.bytes.now) c.loop-test.true (sym c.if-not-goes_on.ensures) (rw c.may_import.ensures at c.in_ok-line.ensures) c.in_ok-longer.ensures.stage c.in_ok-longer.ensures.module c.loop.invariant

pub returns : goal.returns
returns c = line_out c.args.fuel (module_onto c.loop.front) (stage_of c.loop.front.reached) c.args.fuel c.loop.counter c.loop.rest.now (module_at c.args.fuel c.args.bytes.now) c.loop-test.false c.loop.invariant
