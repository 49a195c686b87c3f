use Rattle.sj_emit_expr_pieces.proofs.Lists.{each-more, each-whole}
use Rattle.sj_emit_expr_pieces.specs.Ranges.{AreBytes}
use Rattle.sj_trees.specs.declared.classes.ClassDef.{ClassDef}
use Rattle.world_vectors.proofs.functions.class_names_fit.Goals as goal

abbrev IsNamed : ClassDef → Type 0
IsNamed c = AreBytes c.name

pub loop-class-preserved : goal.loop-class-preserved
loop-class-preserved c = each-more IsNamed c.args.classes.now c.loop-class.class-index c.class-item.result c.loop-class-test.true c.class-item.is c.loop-class.invariant c.name_fits.ensures

pub returns : goal.returns
returns c = each-whole IsNamed c.args.classes.now c.loop-class.class-index c.loop-class-test.false c.loop-class.invariant
