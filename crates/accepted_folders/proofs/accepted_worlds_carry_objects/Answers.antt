use Rattle.accepted_folders.proofs.Objects.{kept, write_interfaces}
use Rattle.accepted_folders.proofs.accepted_worlds_carry_objects.Goals as goal

pub returns-clause-kept : goal.returns-clause-kept
returns-clause-kept c = kept

pub returns-clause-interfaces : goal.returns-clause-interfaces
returns-clause-interfaces c = write_interfaces
