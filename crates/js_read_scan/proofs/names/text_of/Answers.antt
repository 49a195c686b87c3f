use Rattle.std.proofs.lemmas.Str.{IsUtf8-from_ascii}
use Rattle.js_read_scan.proofs.Ascii.{ascii_of}
use Rattle.js_read_scan.proofs.names.text_of.Goals as goal

pub unreachable-requires : goal.unreachable-requires
unreachable-requires c = c.in-Err.ensures.cases.0 (IsUtf8-from_ascii c.args.word.now (ascii_of c.args.word.now c.requires))
