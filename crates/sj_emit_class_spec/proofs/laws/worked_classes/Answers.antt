use Rattle.std.proofs.Common.{refl}
use Rattle.std.specs.Fmt.{digits}
use Rattle.std.specs.Str.{chars}
use Rattle.js_tree.specs.Written.{put}
use Rattle.sj_emit_class_spec.proofs.laws.worked_classes.Goals as goal

pub returns-clause-w_entries : goal.returns-clause-w_entries
unfolding put digits
returns-clause-w_entries c = (refl, refl)

pub returns-clause-w_default : goal.returns-clause-w_default
unfolding put digits
returns-clause-w_default c = (refl, refl)

pub returns-clause-w_top : goal.returns-clause-w_top
unfolding put digits
returns-clause-w_top c = (refl, refl)

pub returns-clause-w_field : goal.returns-clause-w_field
unfolding put digits
returns-clause-w_field c = (refl, refl)

pub returns-clause-w_constants : goal.returns-clause-w_constants
unfolding put digits
returns-clause-w_constants c = (refl, refl)

pub returns-clause-w_cast : goal.returns-clause-w_cast
unfolding put digits chars
returns-clause-w_cast c = (refl, refl)

pub returns-clause-w_hijacked : goal.returns-clause-w_hijacked
unfolding put digits
returns-clause-w_hijacked c = (refl, refl)

pub returns-clause-w_dispatch : goal.returns-clause-w_dispatch
unfolding put digits
returns-clause-w_dispatch c = (refl, refl)

pub returns-clause-w_reflective : goal.returns-clause-w_reflective
unfolding put digits chars
returns-clause-w_reflective c = (refl, refl)

pub returns-clause-w_no_case : goal.returns-clause-w_no_case
unfolding put digits chars
returns-clause-w_no_case c = (refl, refl)

pub returns-clause-w_object : goal.returns-clause-w_object
unfolding put digits
returns-clause-w_object c = (refl, refl)

pub returns-clause-w_module : goal.returns-clause-w_module
unfolding put digits
returns-clause-w_module c = (refl, refl)

pub returns-clause-w_stored : goal.returns-clause-w_stored
unfolding put digits
returns-clause-w_stored c = (refl, refl)

pub returns-clause-w_statics : goal.returns-clause-w_statics
unfolding put digits
returns-clause-w_statics c = (refl, refl)

pub returns-clause-w_plain : goal.returns-clause-w_plain
unfolding put digits
returns-clause-w_plain c = (refl, refl)
