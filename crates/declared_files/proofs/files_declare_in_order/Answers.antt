use Rattle.declared_files.proofs.Order as order
use Rattle.declared_files.proofs.files_declare_in_order.Goals as goal

pub returns : goal.returns
returns c = order.files_declare_in_order
