use Rattle.sj_write_spec.proofs.WrittenFile as file
use Rattle.sj_write_spec.proofs.laws.tables_hold_each_entry_once.Goals as goal

pub returns-clause-tables : goal.returns-clause-tables
returns-clause-tables c = file.are_tables

pub returns-clause-compared : goal.returns-clause-compared
returns-clause-compared c = file.compared
