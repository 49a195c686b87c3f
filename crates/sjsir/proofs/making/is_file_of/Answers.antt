use Rattle.sj_text_files.proofs.ListedClasses.{file_is_listed}
use Rattle.sjsir.proofs.Files.{tests_text}
use Rattle.sjsir.proofs.making.is_file_of.Goals as goal

pub print_listing-requires : goal.print_listing-requires
print_listing-requires c = file_is_listed c.args.bytes.now c.in-Ok.class c.in-Ok.ensures.answer.right

pub returns-in_ok-print_listing-in-Ok : goal.returns-in_ok-print_listing-in-Ok
returns-in_ok-print_listing-in-Ok c = tests_text c.args.text.now c.args.bytes.now c.as_slice.result.now c.in_ok-print_listing-in-Ok.field-0.items c.in-Ok.class c.eq.result c.eq.ensures c.as_slice.ensures.value c.in-Ok.ensures.answer.right c.in_ok-print_listing-in-Ok.ensures.listed
