use Rattle.sjslink.proofs.SaidEntries.{says_in_file}
use Rattle.sjslink.proofs.entries.read_entries.Goals as goal

pub returns-in-Ok-clause-told : goal.returns-in-Ok-clause-told
returns-in-Ok-clause-told g c contents tells = says_in_file _ contents _ _ _ _ tells c.in-Ok.ensures.bytes c.as_slice.ensures.value c.said_by.ensures.says
