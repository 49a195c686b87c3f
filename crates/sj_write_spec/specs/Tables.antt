-- The tables of a class: each entry once, in the order of first use.
use Rattle.std.specs.Prelude.{ℕ, Bool, List, [], ◌∷◌, ◌++◌, nat_eq, if◌then◌else◌, Some}
use Rattle.std.specs.List.{list_any, position_or_len}
use Rattle.std.specs.Cmp.Lexicographic.{pointwise}
use Rattle.sj_names.specs.declared.method_names.MethodName.{MethodName}
use Rattle.sj_names.specs.contracts.method_names.MethodNamePartialEq.TheImpl as method_eq
use Rattle.sj_read_spec.specs.Tables.{Tables}
use Rattle.sj_write_spec.specs.Fields.{Fields, name_field, method_field, string_field, file_field, both}
use Rattle.sj_write_spec.specs.References.{names_in_method}

-- whether two texts, or two strings, are one
abbrev pub same_text : List ℕ → List ℕ → Bool
same_text = pointwise nat_eq

-- whether two names of methods are one
abbrev pub same_method : MethodName → MethodName → Bool
same_method = method_eq.ghosts.eq

-- the table with the entry, which goes last unless it is there
abbrev pub with_entry : {A : Type 0} → (A → A → Bool) → List A → A → List A
with_entry same table x = if list_any (same x) table then table else table ++ x ∷ []

-- the table with each of these entries
abbrev pub with_entries : {A : Type 0} → (A → A → Bool) → List A → List A → List A
with_entries same table [] = table
with_entries same table (x ∷ xs) = with_entries same (with_entry same table x) xs

-- each of these once, in the order in which they first come
abbrev pub each_once : {A : Type 0} → (A → A → Bool) → List A → List A
each_once same xs = with_entries same [] xs

-- the index of an entry in its table
abbrev pub index_of : {A : Type 0} → (A → A → Bool) → List A → A → ℕ
index_of same table x = position_or_len (same x) table

-- what fields use, in their order: the source files, the names, the names of methods and the strings. The own names of the
-- name of a method are used where it is.
abbrev pub files_used : Fields → List (List ℕ)
files_used (file_field (Some text)) = text ∷ []
files_used (both fs gs) = files_used fs ++ files_used gs
files_used other = []

abbrev pub names_used : Fields → List (List ℕ)
names_used (name_field x) = x ∷ []
names_used (method_field m) = names_in_method m
names_used (both fs gs) = names_used fs ++ names_used gs
names_used other = []

abbrev pub methods_used : Fields → List MethodName
methods_used (method_field m) = m ∷ []
methods_used (both fs gs) = methods_used fs ++ methods_used gs
methods_used other = []

abbrev pub strings_used : Fields → List (List ℕ)
strings_used (string_field u) = u ∷ []
strings_used (both fs gs) = strings_used fs ++ strings_used gs
strings_used other = []

-- the tables of fields
abbrev pub tables_of : Fields → Tables
tables_of fs = record { files = each_once same_text (files_used fs); names = each_once same_text (names_used fs); methods = each_once same_method (methods_used fs); strings = each_once same_text (strings_used fs) }
