use Rattle.sj_canon.proofs.MethodsExact.{canonical_bytes}
use Rattle.sj_canon.proofs.laws.canonical_bytes_decide.Goals as goal

pub returns : goal.returns
returns c = canonical_bytes
