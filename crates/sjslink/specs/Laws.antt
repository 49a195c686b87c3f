-- What the clauses of a run rest on.
use Rattle.std.specs.Prelude.{◌≡◌, ℕ, true, List}
use Rattle.js_mean.specs.Shows.{File, IsRead}
use Rattle.js_mean.specs.States.{Program}
use Rattle.sj_outside.specs.Contents.{Parts, is_well}
use Rattle.sjslink.specs.Output.{Output, IsOutput}

-- files are read as one program at most
abbrev pub ReadsOneProgram : Type 0
ReadsOneProgram = (files : List File) (one other : Program) → IsRead files one → IsRead files other → one ≡ other

-- there is one output at most, of contents in which each folder's parts have names, each of them once
abbrev pub HasOneOutput : Type 0
HasOneOutput = (words : List (List ℕ)) (contents : Parts) (one other : Output) → is_well contents ≡ true → IsOutput words contents one → IsOutput words contents other → one ≡ other
