use Rattle.dispatch_laws.proofs.Proxies as laws
use Rattle.dispatch_laws.proofs.proxies_are_worked_out.Goals as goal

pub returns : goal.returns
returns c = laws.proxies_are_worked_out
