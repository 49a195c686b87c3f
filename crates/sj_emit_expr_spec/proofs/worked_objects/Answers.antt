use Rattle.std.proofs.Common.{refl}
use Rattle.std.specs.Fmt.{digits}
use Rattle.std.specs.Str.{chars}
use Rattle.js_tree.specs.Written.{put}
use Rattle.sj_emit_expr_spec.proofs.worked_objects.Goals as goal

pub returns-clause-constructor : goal.returns-clause-constructor
unfolding put digits
returns-clause-constructor c = refl

pub returns-clause-field : goal.returns-clause-field
unfolding put digits
returns-clause-field c = refl

pub returns-clause-same : goal.returns-clause-same
unfolding put digits
returns-clause-same c = refl

pub returns-clause-sum : goal.returns-clause-sum
unfolding put digits
returns-clause-sum c = refl

pub returns-clause-sets : goal.returns-clause-sets
unfolding put digits
returns-clause-sets c = refl

pub returns-clause-gets : goal.returns-clause-gets
unfolding put digits
returns-clause-gets c = refl

pub returns-clause-others : goal.returns-clause-others
unfolding put digits
returns-clause-others c = refl

pub returns-clause-constructor_uses : goal.returns-clause-constructor_uses
unfolding put digits
returns-clause-constructor_uses c = refl

pub returns-clause-sum_uses : goal.returns-clause-sum_uses
unfolding put digits
returns-clause-sum_uses c = refl

pub returns-clause-others_uses : goal.returns-clause-others_uses
unfolding put digits
returns-clause-others_uses c = refl

pub returns-clause-called : goal.returns-clause-called
unfolding put digits
returns-clause-called c = refl

pub returns-clause-called_uses : goal.returns-clause-called_uses
unfolding put digits
returns-clause-called_uses c = refl

pub returns-clause-looks_up : goal.returns-clause-looks_up
unfolding put digits
returns-clause-looks_up c = refl

pub returns-clause-looks_up_uses : goal.returns-clause-looks_up_uses
unfolding put digits
returns-clause-looks_up_uses c = refl

pub returns-clause-loads : goal.returns-clause-loads
unfolding put digits
returns-clause-loads c = refl

pub returns-clause-loads_uses : goal.returns-clause-loads_uses
unfolding put digits
returns-clause-loads_uses c = refl

pub returns-clause-catches : goal.returns-clause-catches
unfolding put digits
returns-clause-catches c = refl

pub returns-clause-catches_uses : goal.returns-clause-catches_uses
unfolding put digits
returns-clause-catches_uses c = refl

pub returns-clause-arrays : goal.returns-clause-arrays
unfolding put digits chars
returns-clause-arrays c = refl

pub returns-clause-arrays_uses : goal.returns-clause-arrays_uses
unfolding put digits
returns-clause-arrays_uses c = refl
