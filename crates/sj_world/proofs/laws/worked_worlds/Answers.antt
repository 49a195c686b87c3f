use Rattle.std.proofs.Common.{refl, arith}
use Rattle.std.specs.Prelude.{codes}
use Rattle.sj_world.specs.Paths.{stay, on}
use Rattle.sj_world.specs.Known.{object}
use Rattle.sj_world.specs.Ancestors.{by_path, is_object}
use Rattle.sj_world.proofs.Rows.{not_above_a}
use Rattle.sj_world.proofs.laws.worked_worlds.Goals as goal

pub returns-clause-object_above_absent : goal.returns-clause-object_above_absent
returns-clause-object_above_absent c = record { known = refl; way = is_object refl }

pub returns-clause-above_object_by_path : goal.returns-clause-above_object_by_path
returns-clause-above_object_by_path c = record { known = refl; way = by_path (on object (codes "Top") (on (codes "B") object stay (0, omega arith, refl)) (0, omega arith, refl)) }

pub returns-clause-above_object_from_absent : goal.returns-clause-above_object_from_absent
returns-clause-above_object_from_absent c = record { known = refl; way = by_path (on object (codes "Top") (on (codes "java.lang.Integer") object stay (0, omega arith, refl)) (0, omega arith, refl)) }

pub returns-clause-above_object_not_by_path : goal.returns-clause-above_object_not_by_path
returns-clause-above_object_not_by_path c = not_above_a

pub returns-clause-inherited_interface : goal.returns-clause-inherited_interface
returns-clause-inherited_interface c = record { known = refl; way = by_path (on (codes "J") (codes "I") (on (codes "A") (codes "J") (on (codes "B") (codes "A") stay (0, omega arith, refl)) (1, omega arith, refl)) (0, omega arith, refl)) }

pub returns-clause-cycle : goal.returns-clause-cycle
returns-clause-cycle c = record { parent = codes "B"; up = (0, omega arith, refl); back = on (codes "B") (codes "A") stay (0, omega arith, refl) }
