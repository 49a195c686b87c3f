-- A class that was read, with all of its methods, as the theorem on judged classes asks for it.
use Rattle.std.specs.Prelude.{◌≡◌, true, [], ◌∷◌, codes}
use Rattle.std.specs.List.{Contains}
use Rattle.ir_mean.specs.Rows.{once}
use Rattle.ir_mean.specs.Shows.{initializers}
use Rattle.agree_early_errors.specs.EmittedMethods.{EmittedMethod, HaveOwnMembers}
use Rattle.agree_classes.specs.Judged.{IsJudgedClass, IsJudgedMethod}
use Rattle.agree_classes.specs.Linked.{have_functions}
use Rattle.sj_trees.specs.declared.classes.ClassDef.{ClassDef}
use Rattle.agree_recorded.specs.Bounds.{all_emitted}

pub record IsJudged (c : ClassDef) : Type 0 where
  pub class : IsJudgedClass c
  pub methods : (e : EmittedMethod) → Contains (all_emitted c.methods) e → IsJudgedMethod (c ∷ []) (all_emitted c.methods) e
  pub own_members : HaveOwnMembers (all_emitted c.methods)
  pub called : have_functions (all_emitted c.methods) (initializers once (codes "main")) ≡ true
