-- The worked program has what the theorem on classes asks, by computing.
use Rattle.std.proofs.Common.{[], ◌∷◌, codes, refl, Contains}
use Rattle.outcomes.specs.Agreement.{Agree}
use Rattle.ir_mean.specs.Rows.{object_with, once}
use Rattle.ir_mean.specs.Shows.{ir_shows}
use Rattle.js_mean.specs.Shows.{js_shows}
use Rattle.sj_trees.specs.declared.classes.ClassDef.{ClassDef}
use Rattle.agree_early_errors.specs.EmittedMethods.{EmittedMethod, HaveOwnMembers}
use Rattle.agree_classes.specs.Files.{program_with}
use Rattle.agree_classes.proofs.Worked.{worked_plain}
use Rattle.agree_classes.specs.Worked.{main_method, tripling_method, worked_world, worked_methods}
use Rattle.agree_classes.specs.Programs.{IsAccepted}
use Rattle.agree_classes.proofs.Programs.{classes_agree}
use Rattle.agree_recorded.proofs.Premises.{Recorded, each_accepted_of, own}

abbrev worked_class : ClassDef
worked_class = object_with (main_method ∷ tripling_method ∷ [])

worked : Recorded worked_class
worked = record { found = refl; findings = refl; tested = refl }

pub each_accepted : (e : EmittedMethod) → Contains worked_methods e → IsAccepted worked_world worked_world worked_methods e
each_accepted = each_accepted_of worked_class worked

pub own_members : HaveOwnMembers worked_methods
own_members = own worked_methods refl

pub worked_agrees : Agree (ir_shows worked_world once (codes "main")) (js_shows (program_with (codes "main") worked_methods once) (codes "main"))
worked_agrees = classes_agree worked_world worked_world worked_plain once (codes "main") worked_methods each_accepted own_members refl
