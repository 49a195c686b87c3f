use Rattle.std.proofs.Common.{sym}
use Rattle.js_read_scan.proofs.Ascii.{property_ascii}
use Rattle.js_read_scan.proofs.heads.property_of.Goals as goal

pub text_of-requires : goal.text_of-requires
text_of-requires c = property_ascii c.split_property.result.0.now (sym c.if-is_property_name.ensures)
