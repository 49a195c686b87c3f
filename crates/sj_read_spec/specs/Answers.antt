-- What reading a class file answers.
use Rattle.std.specs.Prelude.{◌≡◌, ℕ, List, Result, Ok, Err}
use Rattle.sj_trees.specs.declared.classes.ClassDef.{ClassDef}
use Rattle.sj_trees.specs.declared.refusals.Code.{Code}
use Rattle.sj_trees.specs.declared.refusals.ReadRefusal.{ReadRefusal}
use Rattle.sj_trees.specs.declared.refusals.ReadRefusal.TheVariants.{Bad, NoMemory}
use Rattle.sj_read_spec.specs.Files.{FileIs, Fails}

-- a class is that of the file, a refusal is the file's failure, and want of memory says nothing
abbrev pub IsRead : List ℕ → Result ClassDef ReadRefusal → Type 0
IsRead bytes (Ok class) = FileIs bytes class
IsRead bytes (Err (Bad code place)) = Fails bytes code place
IsRead bytes (Err NoMemory) = Unit {0}

-- the answer is this one, unless memory ran out
abbrev pub IsUnlessNoMemory : Result ClassDef ReadRefusal → Result ClassDef ReadRefusal → Type 0
IsUnlessNoMemory (Err NoMemory) answer = Unit {0}
IsUnlessNoMemory (Ok class) answer = answer ≡ Ok class
IsUnlessNoMemory (Err (Bad code place)) answer = answer ≡ Err (Bad code place)

-- reading answers a class exactly where the bytes are its file, and a refusal exactly where they fail so, unless memory runs out
pub record Reads (bytes : List ℕ) (answer : Result ClassDef ReadRefusal) : Type 0 where
  pub right : IsRead bytes answer
  pub each_class : (class : ClassDef) → FileIs bytes class → IsUnlessNoMemory answer (Ok class)
  pub each_failure : (code : Code) (place : ℕ) → Fails bytes code place → IsUnlessNoMemory answer (Err (Bad code place))
