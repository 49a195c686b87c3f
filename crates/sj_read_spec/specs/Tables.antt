-- The four tables in front of the class, and how the class names their entries.
use Rattle.std.specs.Prelude.{ℕ, Bool, List, nat_lt}
use Rattle.std.specs.List.{slice_get}
use Rattle.std.specs.Str.{is_utf8}
use Rattle.sj_names.specs.declared.method_names.MethodName.{MethodName}
use Rattle.sj_units.specs.Modified.{modified_units}
use Rattle.sj_trees.specs.declared.refusals.Code.TheVariants.{BadIndex, BadName, BadText}
use Rattle.exact_place.specs.Reading.{◌>>=◌}
use Rattle.sj_read_spec.specs.Reading.{Reading, number_at, bytes_at, found, tested}
use Rattle.exact_place.specs.Grammar.{Spelling, ◌then◌}
use Rattle.sj_read_spec.specs.Spelling.{IsNumber, IsBytes, Found, Tested}

-- what the class names by an index: the source files and the names as texts, the method names, and the strings as units
pub record Tables : Type 0 where
  pub files : List (List ℕ)
  pub names : List (List ℕ)
  pub methods : List MethodName
  pub strings : List (List ℕ)

-- four bytes below a limit
abbrev pub below_at : ℕ → List ℕ → Reading ℕ
below_at limit bytes = number_at 4 bytes >>= λ n. tested BadIndex (nat_lt n.0 limit) n.0 bytes n.1

abbrev pub IsBelow : ℕ → Spelling ℕ
IsBelow limit = IsNumber 4 then λ n. Tested (nat_lt n limit) n

-- the entry of a table at an index
abbrev pub entry_at : {A : Type 0} → List A → List ℕ → Reading A
entry_at table bytes = number_at 4 bytes >>= λ n. found BadIndex (slice_get table n.0) bytes n.1

abbrev pub IsEntry : {A : Type 0} → List A → Spelling A
IsEntry table = IsNumber 4 then λ n. Found (slice_get table n)

-- a name, which its grammar judges where it is used
abbrev pub name_at : (List ℕ → Bool) → List (List ℕ) → List ℕ → Reading (List ℕ)
name_at grammar names bytes = entry_at names bytes >>= λ t. tested BadName (grammar t.0) t.0 bytes t.1

abbrev pub IsName : (List ℕ → Bool) → List (List ℕ) → Spelling (List ℕ)
IsName grammar names = IsEntry names then λ t. Tested (grammar t) t

-- a text: its length in four bytes, and its bytes, which are UTF-8
abbrev pub text_at : List ℕ → Reading (List ℕ)
text_at bytes = number_at 4 bytes >>= λ n. bytes_at n.0 n.1 >>= λ t. tested BadText (is_utf8 t.0) t.0 n.1 t.1

abbrev pub IsText : Spelling (List ℕ)
IsText = IsNumber 4 then λ n. IsBytes n then λ t. Tested (is_utf8 t) t

-- a string: its length in four bytes, and its bytes, which are modified UTF-8
abbrev pub string_at : List ℕ → Reading (List ℕ)
string_at bytes = number_at 4 bytes >>= λ n. bytes_at n.0 n.1 >>= λ t. found BadText (modified_units t.0) n.1 t.1

abbrev pub IsString : Spelling (List ℕ)
IsString = IsNumber 4 then λ n. IsBytes n then λ t. Found (modified_units t)
