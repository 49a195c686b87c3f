use Rattle.sjsir.proofs.Files.{printed_one}
use Rattle.sjsir.proofs.printing.print_file.Goals as goal

pub returns-in-Ok-line-clause-told : goal.returns-in-Ok-line-clause-told
returns-in-Ok-line-clause-told g c contents tells = printed_one _ contents c.args.path.now c.in-Ok.bytes.items c.as_slice.result.now c.in_ok-line.line.text.items c.as_slice-2.result.now c.in_ok-line.line.is_listing _ _ tells c.in-Ok.ensures.told c.as_slice.ensures.value c.in_ok-line.ensures.line c.as_slice-2.ensures.value c.in-Ok-line.ensures.line
