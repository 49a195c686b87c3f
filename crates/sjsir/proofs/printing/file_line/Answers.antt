use Rattle.std.proofs.Common.{◌∙◌, ap}
use Rattle.std.specs.Vec.{vec_items}
use Rattle.sj_text_files.proofs.ListedClasses.{file_is_listed}
use Rattle.sjsir.proofs.Files.{listed_line, refused_line, fails_of}
use Rattle.sjsir.proofs.printing.file_line.Goals as goal

pub print_listing-requires : goal.print_listing-requires
print_listing-requires c = file_is_listed c.args.bytes.now c.in-Ok.class c.in-Ok.ensures.answer.right

pub returns-in_ok-push-in-Ok-clause-line : goal.returns-in_ok-push-in-Ok-clause-line
returns-in_ok-push-in-Ok-clause-line c = listed_line c.args.path.now c.args.bytes.now c.in_ok-text-in-Ok.text.items c.push.new.self.items c.in-Ok.class c.in-Ok.ensures.answer.right c.in_ok-text-in-Ok.ensures.listed c.in_ok-push-in-Ok.ensures.items

pub returns-in_ok-refusal_line-in-Err-Bad-clause-line : goal.returns-in_ok-refusal_line-in-Err-Bad-clause-line
returns-in_ok-refusal_line-in-Err-Bad-clause-line c = refused_line c.args.path.now c.args.bytes.now c.into_bytes.result.items c.in-Err-Bad.code c.in-Err-Bad.place (fails_of c.args.bytes.now c.in-Err-Bad.field-0 c.in-Err-Bad.code c.in-Err-Bad.place c.in-Err-Bad.field-0-is c.in-Err-Bad.ensures.answer) (ap vec_items c.into_bytes.ensures.value ∙ c.in_ok-refusal_line-in-Err-Bad.ensures)
