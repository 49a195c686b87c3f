-- What holds of the file that a class is written as.
use Rattle.std.specs.Prelude.{◌≡◌, ◌↔◌, ℕ, Bool, List, ◌++◌, IsTrue}
use Rattle.std.specs.List.{list_any, IsDistinct}
use Rattle.sj_trees.specs.declared.classes.ClassDef.{ClassDef}
use Rattle.sj_names.specs.declared.method_names.MethodName.{MethodName}
use Rattle.sj_read_spec.specs.Files.{FileIs}
use Rattle.sj_write_spec.specs.Fields.{Fields}
use Rattle.sj_write_spec.specs.Classes.{class_fields}
use Rattle.sj_write_spec.specs.Tables.{same_text, same_method, each_once, files_used, names_used, methods_used, strings_used, tables_of}
use Rattle.sj_write_spec.specs.Renumbered.{renumbered_class}
use Rattle.sj_write_spec.specs.Written.{written_class}

-- the class is that of a file
pub record IsOfSomeFile (class : ClassDef) : Type 0 where
  pub file : List ℕ
  pub is_file : FileIs file class

-- what is written is the file of a class that is the same but for the numbers of its source files, and every position names
-- the same text: the fields of both are the same, in which a position has the text of its file
pub record IsReadBack (class : ClassDef) : Type 0 where
  pub number : ℕ → ℕ
  pub is_file : FileIs (written_class class) (renumbered_class number (tables_of (class_fields class)).files class)
  pub same_fields : class_fields (renumbered_class number (tables_of (class_fields class)).files class) ≡ class_fields class

-- a table has no entry twice and none that isn't used, has all that is used, and is in the order of first use: what comes of
-- the first of the uses is the front of the table
pub record IsTableOf {A : Type 0} (same : A → A → Bool) (uses table : List A) : Type 0 where
  pub no_entry_twice : IsDistinct same table
  pub used : (x : A) → IsTrue (list_any (same x) table) ↔ IsTrue (list_any (same x) uses)
  pub in_order : (front back : List A) → uses ≡ front ++ back → (more : List A) × (table ≡ each_once same front ++ more)

-- each of the four tables is so
pub record AreTablesOf (fields : Fields) : Type 0 where
  pub files : IsTableOf same_text (files_used fields) (tables_of fields).files
  pub names : IsTableOf same_text (names_used fields) (tables_of fields).names
  pub methods : IsTableOf same_method (methods_used fields) (tables_of fields).methods
  pub strings : IsTableOf same_text (strings_used fields) (tables_of fields).strings

-- the tests of entries decide whether they are one
pub record EntriesAreCompared : Type 0 where
  pub texts : (x y : List ℕ) → IsTrue (same_text x y) ↔ (x ≡ y)
  pub methods : (x y : MethodName) → IsTrue (same_method x y) ↔ (x ≡ y)
