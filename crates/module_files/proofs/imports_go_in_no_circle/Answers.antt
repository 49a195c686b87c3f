use Rattle.module_files.proofs.Circles.{imports_go_in_no_circle}
use Rattle.module_files.proofs.imports_go_in_no_circle.Goals as goal

pub returns : goal.returns
returns c = imports_go_in_no_circle
