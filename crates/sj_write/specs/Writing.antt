-- What is written of a class so far, and what it is with further fields behind.
use Rattle.std.specs.Prelude.{ℕ, Some, None, List, [], ◌++◌, if◌then◌else◌}
use Rattle.std.specs.List.{list_any}
use Rattle.byteorder.specs.Endian.{big_bytes}
use Rattle.sj_units.specs.Modified.{modified_bytes}
use Rattle.sj_names.specs.declared.method_names.MethodName.{MethodName}
use Rattle.sj_read_spec.specs.Tables.{Tables}
use Rattle.sj_write_spec.specs.Fields.{Fields, nothing, number_field, plain_field, name_field, method_field, string_field, file_field, both, list_fields}
use Rattle.sj_write_spec.specs.References.{names_in_method, method_name_fields}
use Rattle.sj_write_spec.specs.Tables.{same_text, same_method, with_entry, with_entries, index_of}
use Rattle.sj_write_spec.specs.Written.{header_bytes, table_bytes, counted_bytes}

-- the tables so far, and the bytes behind them
pub record Writing : Type 0 where
  pub tables : Tables
  pub text : List ℕ

-- nothing is written
abbrev pub unwritten : Writing
unwritten = record { tables = record { files = []; names = []; methods = []; strings = [] }; text = [] }

-- nothing is written but these names are known
abbrev pub knowing : List (List ℕ) → Writing
knowing names = record { tables = record { files = []; names = names; methods = []; strings = [] }; text = [] }

-- with these bytes behind
abbrev pub with_bytes : List ℕ → Writing → Writing
with_bytes bytes w = record { tables = w.tables; text = w.text ++ bytes }

-- with the index of an entry behind
abbrev pub with_index : ℕ → Writing → Writing
with_index n w = with_bytes (big_bytes 4 n) w

-- with these files, names, method names and strings
abbrev pub with_files : List (List ℕ) → Writing → Writing
with_files files w = record { tables = record { files = files; names = w.tables.names; methods = w.tables.methods; strings = w.tables.strings }; text = w.text }

abbrev pub with_names : List (List ℕ) → Writing → Writing
with_names names w = record { tables = record { files = w.tables.files; names = names; methods = w.tables.methods; strings = w.tables.strings }; text = w.text }

abbrev pub with_methods : List MethodName → Writing → Writing
with_methods methods w = record { tables = record { files = w.tables.files; names = w.tables.names; methods = methods; strings = w.tables.strings }; text = w.text }

abbrev pub with_strings : List (List ℕ) → Writing → Writing
with_strings strings w = record { tables = record { files = w.tables.files; names = w.tables.names; methods = w.tables.methods; strings = strings }; text = w.text }

-- with a name entered, and with the names of a method name
abbrev pub entered : List ℕ → Writing → Writing
entered x w = with_names (with_entry same_text w.tables.names x) w

abbrev pub all_entered : List (List ℕ) → Writing → Writing
all_entered xs w = with_names (with_entries same_text w.tables.names xs) w

-- with the name of a method entered, and its own names where it is new
abbrev pub method_entered : MethodName → Writing → Writing
method_entered m w = if list_any (same_method m) w.tables.methods then w else all_entered (names_in_method m) (with_methods (with_entry same_method w.tables.methods m) w)

-- with these fields behind
abbrev pub put : Fields → Writing → Writing
put nothing w = w
put (number_field n x) w = with_bytes (big_bytes n x) w
put (plain_field bytes) w = with_bytes bytes w
put (name_field x) w = with_index (index_of same_text w.tables.names x) (entered x w)
put (method_field m) w = with_index (index_of same_method w.tables.methods m) (method_entered m w)
put (string_field u) w = with_index (index_of same_text w.tables.strings u) (with_strings (with_entry same_text w.tables.strings u) w)
put (file_field None) w = w
put (file_field (Some text)) w = with_index (index_of same_text w.tables.files text) (with_files (with_entry same_text w.tables.files text) w)
put (both fs gs) w = put gs (put fs w)

-- the bytes in front, and behind them the file with what is written: the header, the tables and the bytes behind them
abbrev pub finished : List ℕ → Writing → List ℕ
finished front w = front ++ header_bytes ++ table_bytes counted_bytes w.tables.files ++ table_bytes counted_bytes w.tables.names ++ (put (list_fields method_name_fields w.tables.methods) (knowing w.tables.names)).text ++ table_bytes (λ u. counted_bytes (modified_bytes u)) w.tables.strings ++ w.text
