use Rattle.std.proofs.Common.{sym}
use Rattle.js_read_scan.proofs.Ascii.{name_ascii}
use Rattle.js_read_scan.proofs.heads.statement_word.Goals as goal

pub text_of-requires : goal.text_of-requires
text_of-requires c = name_ascii c.args.word.now (sym c.if-is_binding_name.ensures)
