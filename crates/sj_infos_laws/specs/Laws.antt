-- What a method asks for is one list.
use Rattle.std.specs.Prelude.{◌≡◌, List}
use Rattle.sj_trees.specs.declared.classes.MethodDef.{MethodDef}
use Rattle.sj_infos.specs.Infos.{AreInfosOf}
use Rattle.sj_infos.specs.declared.infos.Info.{Info}

abbrev pub InfosAreOne : Type 0
InfosAreOne = (m : MethodDef) (one other : List Info) → AreInfosOf m one → AreInfosOf m other → one ≡ other
