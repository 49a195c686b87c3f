use Rattle.std.proofs.Common.{rules, ℤ, pos, get_or, subst}
use Rattle.std.proofs.lemmas.Int.{to_z-of_z}
use Rattle.std.proofs.lemmas.List.Elements.{All-more}
use mir.Syntax.{w32}
use mir.Val.{SFits}
use Rattle.js_tree.specs.Rules.{IsNumber}
use Rattle.sj_emit_expr_pieces.proofs.Lists.{each-whole}
use Rattle.method_ranges.proofs.ranges.keys_fit.Goals as goal

pub loop-key-preserved : goal.loop-key-preserved
loop-key-preserved c =
    let key : ℤ = get_or c.args.keys.now c.loop-key.key-index (pos 0) in
    let fits : SFits w32 key = search rules in
    All-more IsNumber c.args.keys.now c.loop-key.key-index (pos 0) c.loop-key-test.true c.loop-key.invariant (subst IsNumber (to_z-of_z w32 key fits) c.number_fits.ensures)

pub returns : goal.returns
returns c = each-whole IsNumber c.args.keys.now c.loop-key.key-index c.loop-key-test.false c.loop-key.invariant
