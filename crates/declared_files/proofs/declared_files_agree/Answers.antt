use Rattle.declared_files.proofs.Whole as whole
use Rattle.declared_files.proofs.declared_files_agree.Goals as goal

pub returns : goal.returns
returns c z all entries id plain public can laws = whole.files_agree z all entries id plain public can laws
