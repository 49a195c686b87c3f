-- Class files: which bytes are the file of a class, and what is the first fault of all others.
use Rattle.std.specs.Prelude.{◌≡◌, ℕ, ◌-◌, ◌==◌, List, [], ◌∷◌, length, Result, Ok, Err, nat_eq, codes, ◌⊎◌}
use Rattle.std.specs.Cmp.Lexicographic.{pointwise}
use Rattle.sj_trees.specs.declared.classes.ClassDef.{ClassDef}
use Rattle.sj_read_spec.specs.declared.faults.Fault.{Fault}
use Rattle.sj_trees.specs.declared.refusals.Code.{Code}
use Rattle.sj_trees.specs.declared.refusals.Code.TheVariants.{BadMagic, BadVersion, Trailing}
use Rattle.exact_place.specs.Reading.{◌>>=◌}
use Rattle.sj_read_spec.specs.Reading.{Reading, fault, number_at, bytes_at, tested, list_at}
use Rattle.exact_place.specs.Grammar.{Spelling, ◌then◌, IsValue}
use Rattle.sj_read_spec.specs.Spelling.{Tested, IsNumber, IsBytes, IsCounted}
use Rattle.sj_read_spec.specs.Tables.{Tables, text_at, IsText, string_at, IsString}
use Rattle.sj_read_spec.specs.References.{method_name_at, IsMethodName}
use Rattle.sj_read_spec.specs.Classes.{class_at, IsClass}

-- the first four bytes, CA FE 4A 53
abbrev pub magic_at : List ℕ → Reading ℕ
magic_at bytes = number_at 4 bytes >>= λ n. tested BadMagic (n.0 == 0xCAFE4A53) n.0 bytes n.1

abbrev pub IsMagic : Spelling ℕ
IsMagic = IsNumber 4 then λ n. Tested (n == 0xCAFE4A53) n

-- the version: the length of its text in two bytes, and the text
abbrev pub version_text_at : List ℕ → Reading (List ℕ)
version_text_at bytes = number_at 2 bytes >>= λ n. bytes_at n.0 n.1

abbrev pub version_at : List ℕ → Reading (List ℕ)
version_at bytes = version_text_at bytes >>= λ t. tested BadVersion (pointwise nat_eq t.0 (codes "1.0-i1")) t.0 bytes t.1

abbrev pub IsVersion : Spelling (List ℕ)
IsVersion = (IsNumber 2 then λ n. IsBytes n) then λ t. Tested (pointwise nat_eq t (codes "1.0-i1")) t

-- the four tables: source files, names, method names, strings
unfoldable pub tables_at : List ℕ → Reading Tables
tables_at bytes = do
  files ← list_at text_at bytes
  names ← list_at text_at files.1
  methods ← list_at (method_name_at names.0) names.1
  strings ← list_at string_at methods.1
  Ok (record { files = files.0; names = names.0; methods = methods.0; strings = strings.0 }, strings.1)

unfoldable pub IsTables : Spelling Tables
IsTables = IsCounted IsText then λ files. IsCounted IsText then λ names. IsCounted (IsMethodName names) then λ methods. IsCounted IsString then λ strings. IsValue (record { files = files; names = names; methods = methods; strings = strings })

-- a class and what stands in front of it
unfoldable pub contents_at : List ℕ → Reading ClassDef
contents_at bytes = do
  magic ← magic_at bytes
  version ← version_at magic.1
  tables ← tables_at version.1
  class_at tables.0 tables.1

unfoldable pub IsContents : Spelling ClassDef
IsContents = IsMagic then λ magic. IsVersion then λ version. IsTables then λ tables. IsClass tables

-- nothing stands behind the class
abbrev pub ended : ClassDef → List ℕ → Result ClassDef Fault
ended class [] = Ok class
ended class (b ∷ rest) = Err (fault Trailing (b ∷ rest))

-- the class of a file, or its first fault
unfoldable pub file_of : List ℕ → Result ClassDef Fault
file_of bytes = contents_at bytes >>= λ c. ended c.0 c.1

-- the bytes are the file of the class
unfoldable pub FileIs : List ℕ → ClassDef → Type 0
FileIs bytes class = IsContents class bytes

-- the first field in file order that breaks the format breaks it with this code at this place
pub record Fails (bytes : List ℕ) (code : Code) (place : ℕ) : Type 0 where
  pub fault : Fault
  pub first : file_of bytes ≡ Err fault
  pub code_is : code ≡ fault.code
  pub place_is : place ≡ length bytes - fault.left

-- the bytes are the file of one class, or fail in one way
pub record HasOneAnswer (bytes : List ℕ) : Type 0 where
  pub some : ((class : ClassDef) × FileIs bytes class) ⊎ ((code : Code) × (place : ℕ) × Fails bytes code place)
  pub one_class : (class other : ClassDef) → FileIs bytes class → FileIs bytes other → class ≡ other
  pub one_failure : (code other : Code) (place another : ℕ) → Fails bytes code place → Fails bytes other another → (code ≡ other) × (place ≡ another)
  pub not_both : (class : ClassDef) (code : Code) (place : ℕ) → FileIs bytes class → Fails bytes code place → ⊥
