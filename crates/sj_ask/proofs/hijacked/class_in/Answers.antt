use Rattle.std.proofs.Common.{rules, sym, Ok, Err, arith}
use Rattle.std.proofs.lemmas.Fn.{always_returns_same}
use Rattle.std.proofs.lemmas.Option.{gets}
use Rattle.std.proofs.lemmas.Grind.{common_steps}
use Rattle.sj_trees.specs.declared.classes.ClassDef.{ClassDef}
use Rattle.sj_world.proofs.Orders.{compared}
use Rattle.sj_world.proofs.ByName.{searched}
use Rattle.sj_ask.proofs.hijacked.class_in.Goals as goal

pub returns-in-Ok : goal.returns-in-Ok
returns-in-Ok c = let found = searched c.args.classes.now c.requires c.args.name.now (Ok c.in-Ok.place) (c.in-Ok.ensures.position (λ (k : ClassDef). compared k.name c.args.name.now) (always_returns_same _ _ _ (λ a r g called. search rules))) in sym (found c.index-classes-place.result (grind (arith, common_steps, gets)))

pub returns-in-Err : goal.returns-in-Err
returns-in-Err c = sym (searched c.args.classes.now c.requires c.args.name.now (Err c.in-Err.field-0) (c.in-Err.ensures.position (λ (k : ClassDef). compared k.name c.args.name.now) (always_returns_same _ _ _ (λ a r g called. search rules))))
