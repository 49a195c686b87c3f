use Rattle.agree_calls.proofs.Boxing as boxing
use Rattle.agree_bodies.proofs.Boxes as coercion
use Rattle.agree_calls.proofs.chars_become_objects.Goals as goal

pub returns-clause-boxes : goal.returns-clause-boxes
returns-clause-boxes c = boxing.boxes_alike

pub returns-clause-coerces : goal.returns-clause-coerces
returns-clause-coerces c = coercion.coerced_alike

pub returns-clause-subtypes : goal.returns-clause-subtypes
returns-clause-subtypes c = coercion.takes-sub
