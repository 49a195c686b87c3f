-- Class files and listings.
use Rattle.std.specs.Prelude.{◌≡◌, ℕ, List}
use Rattle.sj_trees.specs.declared.classes.ClassDef.{ClassDef}
use Rattle.sj_read_spec.specs.Files.{FileIs}
use Rattle.sj_text_spec.specs.Rules.{HasListing, bare}
use Rattle.sj_text_spec.specs.Spelling.{Lists}
use Rattle.sj_write_spec.specs.Classes.{NamesItsFiles}
use Rattle.sj_write_spec.specs.Written.{written_class}

-- the class of a file has a listing
abbrev pub EachFileIsListed : Type 0
EachFileIsListed = (bytes : List ℕ) (class : ClassDef) → FileIs bytes class → HasListing class

-- a listing is that of a class without positions, source files and hashes
abbrev pub EachListedIsBare : Type 0
EachListedIsBare = (class : ClassDef) (text : List ℕ) → Lists class text → bare class ≡ class

-- each position of a class that is listed names one of its source files
abbrev pub EachListedNamesItsFiles : Type 0
EachListedNamesItsFiles = (class : ClassDef) (text : List ℕ) → Lists class text → NamesItsFiles class

-- a class that is listed and has a file is written as the file of a class with the same listing
abbrev pub EachListedIsMade : Type 0
EachListedIsMade = (class : ClassDef) (text file : List ℕ) → Lists class text → FileIs file class → (other : ClassDef) × FileIs (written_class class) other × (bare other ≡ class)
