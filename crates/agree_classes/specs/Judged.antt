-- What is judged of classes and of their methods before they are linked.
use Rattle.std.specs.Prelude.{◌≡◌, ℕ, true, List, Some, None}
use Rattle.sj_agree.specs.World.{World, member_of}
use Rattle.sj_read_spec.specs.Files.{FileIs}
use Rattle.sj_local.specs.Broken.{FirstBroken}
use Rattle.sj_trees.specs.declared.classes.ClassDef.{ClassDef}
use Rattle.agree_programs.specs.EmittedMethods.{EmittedMethod}
use Rattle.agree_programs.specs.Linked.{functions_of}
use Rattle.agree_typing.specs.Typed.{IsTyped}
use Rattle.agree_programs.specs.Typing.{is_built_with}

-- the class was read from a file, and breaks none of the local rules
pub record IsJudgedClass (c : ClassDef) : Type 0 where
  pub bytes : List ℕ
  pub read : FileIs bytes c
  pub unbroken : FirstBroken c None

-- the method is found as that of its member, and is typed among the classes; it is of the forms that are built, where calls are of the methods of
-- the program
pub record IsJudgedMethod (w : World) (fs : List EmittedMethod) (e : EmittedMethod) : Type 0 where
  pub found : member_of w e.member.class e.member.namespace e.member.method ≡ Some e.definition
  pub has_body : e.definition.body ≡ Some e.its_body
  pub typed : IsTyped w e.definition
  pub built : is_built_with (functions_of fs) e.definition e.its_body ≡ true
