-- The files of an edit, as they are put.
use Rattle.std.specs.Prelude.{ℕ, List}
use Rattle.js_mean.specs.Shows.{File}
use Rattle.sj_outside.specs.declared.answers.PutFile.{PutFile}

-- a file of the edit of this number
abbrev pub put_of : List ℕ → ℕ → File → PutFile
put_of out number one = record { out = out; edit = number; name = one.name; bytes = one.bytes }
