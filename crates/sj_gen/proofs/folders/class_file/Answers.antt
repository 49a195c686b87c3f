use Rattle.std.proofs.Common.{◌≡◌, IfOk, subst}
use Rattle.sj_names.specs.declared.folders.SourceFile.{SourceFile}
use Rattle.sj_trees.specs.declared.classes.ClassDef.{ClassDef}
use Rattle.sj_gen.specs.Folder.{file_of}
use Rattle.sj_gen.proofs.folders.class_file.Goals as goal

pub returns : goal.returns
returns c =
    let P : ClassDef → Type 0 = λ (x : ClassDef). IfOk c.file.result (λ (f : SourceFile). f ≡ file_of x) in
    subst P c.in_ok-class.ensures c.file.ensures
