use Rattle.std.proofs.lemmas.Str.{IsUtf8-from_ascii}
use Rattle.js_read_scan.proofs.Ascii.{ascii_of, files_ascii}
use Rattle.js_read_scan.proofs.names.file_text.Goals as goal

pub unreachable-requires : goal.unreachable-requires
unreachable-requires c = c.in-Err.ensures.cases.0 (IsUtf8-from_ascii c.args.front.now (ascii_of c.args.front.now (files_ascii c.args.front.now c.requires)))
