-- The file that a class is written as.
use Rattle.std.specs.Prelude.{ℕ, List, [], ◌++◌, length, codes, Some, None}
use Rattle.std.specs.List.{flat_map}
use Rattle.byteorder.specs.Endian.{big_bytes}
use Rattle.sj_units.specs.Modified.{modified_bytes}
use Rattle.sj_trees.specs.declared.classes.ClassDef.{ClassDef}
use Rattle.sj_read_spec.specs.Tables.{Tables}
use Rattle.sj_write_spec.specs.Fields.{Fields, nothing, number_field, plain_field, name_field, method_field, string_field, file_field, both}
use Rattle.sj_write_spec.specs.References.{method_name_fields}
use Rattle.sj_write_spec.specs.Classes.{class_fields}
use Rattle.sj_write_spec.specs.Tables.{same_text, same_method, index_of, tables_of}

-- the bytes of fields: numbers are big-endian, and an entry is spelled by its index in its table
abbrev pub spelled : Tables → Fields → List ℕ
spelled tables nothing = []
spelled tables (number_field n x) = big_bytes n x
spelled tables (plain_field bytes) = bytes
spelled tables (name_field x) = big_bytes 4 (index_of same_text tables.names x)
spelled tables (method_field m) = big_bytes 4 (index_of same_method tables.methods m)
spelled tables (string_field u) = big_bytes 4 (index_of same_text tables.strings u)
spelled tables (file_field None) = []
spelled tables (file_field (Some text)) = big_bytes 4 (index_of same_text tables.files text)
spelled tables (both fs gs) = spelled tables fs ++ spelled tables gs

-- bytes with their number in front
abbrev pub counted_bytes : List ℕ → List ℕ
counted_bytes bytes = big_bytes 4 (length bytes) ++ bytes

-- a table: how many entries it has, and the bytes of each
abbrev pub table_bytes : {A : Type 0} → (A → List ℕ) → List A → List ℕ
table_bytes bytes table = big_bytes 4 (length table) ++ flat_map bytes table

-- the four tables: source files, names, method names, strings
abbrev pub tables_bytes : Tables → List ℕ
tables_bytes tables = table_bytes counted_bytes tables.files ++ table_bytes counted_bytes tables.names ++ table_bytes (λ m. spelled tables (method_name_fields m)) tables.methods ++ table_bytes (λ u. counted_bytes (modified_bytes u)) tables.strings

-- the first four bytes and the version
abbrev pub header_bytes : List ℕ
header_bytes = big_bytes 4 0xCAFE4A53 ++ big_bytes 2 6 ++ codes "1.0-i1"

-- the file of a class: the header, the tables of what it uses, and its fields
abbrev pub written_class : ClassDef → List ℕ
written_class c = let tables = tables_of (class_fields c) in header_bytes ++ tables_bytes tables ++ spelled tables (class_fields c)
