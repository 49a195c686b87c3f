use Rattle.std.proofs.Common.{◌∙◌}
use Rattle.sj_text_files.proofs.MadeFiles.{listed_names_its_files}
use Rattle.sjsir.proofs.Files.{never_made, not_its, why_not}
use Rattle.sjsir.proofs.making.made_of_shallow.Goals as goal

pub no_listing-requires-clause-why : goal.no_listing-requires-clause-why
no_listing-requires-clause-why c = why_not c.args.text.now c.parse_listing.result c.in-Err.error c.in-Err.is c.parse_listing.ensures.place c.parse_listing.ensures.nothing

pub write_class-requires : goal.write_class-requires
write_class-requires c = listed_names_its_files c.in-Ok.class c.args.text.now c.in-Ok.ensures.found

pub returns : goal.returns
returns c = (c.requires, (c.in-Ok.class, c.in-Ok.ensures.found, not_its c.in-Ok.class c.args.text.now c.as_slice.result.now c.in_ok-is_file_of.field-0 (c.as_slice.ensures.value ∙ c.in_ok-file.ensures) c.in_ok-is_file_of.ensures c.if-branch.false, never_made c.in-Ok.class c.args.text.now c.as_slice.result.now c.in_ok-is_file_of.field-0 c.in-Ok.ensures.found (c.as_slice.ensures.value ∙ c.in_ok-file.ensures) c.in_ok-is_file_of.ensures c.if-branch.false))
