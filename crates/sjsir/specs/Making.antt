-- What a text comes to that is to be a listing, and what is written of it.
use Rattle.std.specs.Prelude.{◌≡◌, ℕ, List, [], ◌∷◌, codes, Some, true, false}
use Rattle.exact_place.specs.Place.{Place}
use Rattle.sj_trees.specs.declared.classes.ClassDef.{ClassDef}
use Rattle.sj_outside.specs.Contents.{Parts, file_at}
use Rattle.sj_outside.specs.Words.{without_line_feed}
use Rattle.sj_outside.specs.Writing.{put, line}
use Rattle.sj_read_spec.specs.Files.{FileIs}
use Rattle.sj_text_spec.specs.Spelling.{Lists}
use Rattle.sj_write_spec.specs.Written.{written_class}
use Rattle.sj_text.specs.declared.error.ListingError.{ListingError}
use Rattle.sj_text.specs.declared.error.ListingError.TheVariants.{BadListing, NoMemory}
use Rattle.sjsir.specs.Output.{Output, IsFileOf, no_listing_line, no_file_line, too_deep_line}
use Rattle.sjsir.specs.Nesting.{is_deep}
use Rattle.sjsir.specs.declared.answers.Status.TheVariants.{Done, SomeRefused}
use Rattle.sjsir.specs.declared.making.Made.{Made}
use Rattle.sjsir.specs.declared.making.Made.TheVariants.{File, NoListing, NoFile, TooDeep}

-- the file of the class that the text lists, or why there is none, of a text that isn't too deep
abbrev pub IsMadeShallow : List ℕ → Made → Type 0
IsMadeShallow text TooDeep = ⊥
IsMadeShallow text (File bytes) = (class : ClassDef) × Lists class text × (bytes ≡ written_class class) × IsFileOf text bytes
IsMadeShallow text (NoListing place) = ((class : ClassDef) → Lists class text → ⊥) × Place Lists text place
IsMadeShallow text NoFile = (class : ClassDef) × Lists class text × (IsFileOf text (written_class class) → ⊥) × ((bytes : List ℕ) → FileIs bytes class → ⊥)

-- what the text comes to
abbrev pub IsMade : List ℕ → Made → Type 0
IsMade text TooDeep = is_deep text ≡ true
IsMade text made = (is_deep text ≡ false) × IsMadeShallow text made

-- why a text gave no class
abbrev pub IsWhyNot : List ℕ → ListingError → Type 0
IsWhyNot text (BadListing place) = IsMadeShallow text (NoListing place)
IsWhyNot text NoMemory = Unit {0}

-- the same of the text in a file
abbrev pub IsMadeAt : Parts → List ℕ → Made → Type 0
IsMadeAt contents path made = (bytes : List ℕ) × (file_at contents path ≡ Some bytes) × IsMade (without_line_feed bytes) made

-- what is written of it: the file, put right into the working folder under the name that the words give, or a line
abbrev pub output_of : List ℕ → Made → Output
output_of out (File bytes) = record { status = Done; events = put (record { out = codes "."; edit = 1; name = out; bytes = bytes }) ∷ [] }
output_of out (NoListing place) = record { status = SomeRefused; events = line (no_listing_line place) ∷ [] }
output_of out NoFile = record { status = SomeRefused; events = line no_file_line ∷ [] }
output_of out TooDeep = record { status = SomeRefused; events = line too_deep_line ∷ [] }
