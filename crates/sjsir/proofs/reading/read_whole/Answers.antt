use Rattle.std.proofs.Common.{ℕ, ◌<◌, List, length, subst, arith}
use Rattle.sjsir.proofs.Files.{file_read}
use Rattle.sjsir.proofs.reading.read_whole.Goals as goal

pub returns-then-as_slice-lt18446744073709551615-clause-told : goal.returns-then-as_slice-lt18446744073709551615-clause-told
returns-then-as_slice-lt18446744073709551615-clause-told g c contents tells = file_read _ contents c.args.path.now c.in-Ok.bytes.items 18446744073709551614 tells c.in-Ok.ensures.bytes (omega (arith, subst (λ (l : List ℕ). length l < 18446744073709551615) c.as_slice.ensures.value c.if-as_slice-lt18446744073709551615.true))
