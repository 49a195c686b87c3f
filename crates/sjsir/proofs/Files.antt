-- What reading, writing and printing a class come to.
use Rattle.std.proofs.Common.{◌≡◌, ℕ, ◌+◌, ◌≤◌, Bool, true, false, List, ◌++◌, sym, ap, ◌∙◌, subst, Option, Some, None, take, length, arith, min, Result, Ok, Err}
use Rattle.std.specs.Prelude.{◌↔◌, option_map, IsTrue, nat_eq, codes}
use Rattle.std.specs.Cmp.Lexicographic.{pointwise}
use Rattle.std.proofs.lemmas.Slice.Eq.{bytes_eq-Decides}
use Rattle.std.proofs.lemmas.List.{take_all, length-take}
use Rattle.sj_trees.specs.declared.classes.ClassDef.{ClassDef}
use Rattle.sj_outside.specs.Contents.{Parts, file_at}
use Rattle.sj_outside.specs.Reading.{Reads}
use Rattle.sj_read_spec.specs.Files.{FileIs}
use Rattle.sj_read_spec.proofs.ExactFiles.{one_answer}
use Rattle.sj_text_spec.specs.Rules.{bare}
use Rattle.sj_text_spec.specs.Spelling.{Lists}
use Rattle.sj_text_spec.proofs.OneText.{one_listing}
use Rattle.sj_write_spec.specs.Written.{written_class}
use Rattle.sj_text_files.proofs.ListedClasses.{file_is_listed}
use Rattle.sj_text_files.proofs.MadeFiles.{listed_is_made}
use Rattle.exact_place.specs.Place.{Place}
use Rattle.sj_read_spec.specs.Files.{Fails}
use Rattle.sj_read_spec.specs.Answers.{IsRead, Reads as Answer}
use Rattle.sj_trees.specs.declared.refusals.ReadRefusal.{ReadRefusal}
use Rattle.sj_trees.specs.declared.refusals.ReadRefusal.TheVariants.{Bad}
use Rattle.sj_trees.specs.declared.refusals.Code.{Code}
use Rattle.sj_outside.specs.Writing.{Appends}
use Rattle.sj_text.specs.declared.error.ListingError.{ListingError}
use Rattle.sj_text.specs.declared.error.ListingError.TheVariants.{BadListing, NoMemory}
use Rattle.sjsir.specs.Making.{IsMade, IsMadeAt, IsWhyNot}
use Rattle.sj_outside.specs.Words.{without_line_feed}
use Rattle.sjsir.specs.Output.{IsFileOf, IsFileLine, listed, refused, refusal_line}
use Rattle.sjsir.specs.Printing.{PrintsOne}
use Rattle.sjsir.specs.declared.making.Made.{Made}

-- what was read up to a number that it doesn't come to is all
whole_file : (o : Option (List ℕ)) (n : ℕ) (bs : List ℕ) → option_map (take (n + 1)) o ≡ Some bs → length bs ≤ n → o ≡ Some bs
whole_file None n bs e short = cc
whole_file (Some b) n bs e short =
    let part : take (n + 1) b ≡ bs = cc in
    let size : min (n + 1) (length b) ≤ n = subst (λ (k : ℕ). k ≤ n) (sym (ap length part) ∙ length-take (n + 1) b) short in
    ap Some (sym (take_all (n + 1) b (omega arith)) ∙ part)

pub file_read : (h : Option Parts) (c : Parts) (path bs : List ℕ) (n : ℕ) → h ≡ Some c → Reads h path (n + 1) bs → length bs ≤ n → file_at c path ≡ Some bs
file_read h c path bs n e r short = whole_file (file_at c path) n bs (subst (λ (o : Option Parts). Reads o path (n + 1) bs) e r) short

-- the test of a text against the listing of the class of a file
pub tests_text : (text bytes given items : List ℕ) (class : ClassDef) (b : Bool) → b ≡ pointwise nat_eq given text → given ≡ items → FileIs bytes class → Lists (bare class) items → IsTrue b ↔ IsFileOf text bytes
tests_text text bytes given items class b e same is lists = (there, back)
  where
    there : IsTrue b → IsFileOf text bytes
    there t = (class, is, subst (λ (l : List ℕ). Lists (bare class) l) (sym same ∙ (bytes_eq-Decides given text).0 (sym e ∙ t)) lists)

    back : IsFileOf text bytes → IsTrue b
    back has =
        let class_is : has.0 ≡ class = (one_answer bytes).one_class has.0 class has.1 is in
        let listing = file_is_listed bytes class is in
        let lists_text : Lists (bare class) text = subst (λ (d : ClassDef). Lists (bare d) text) class_is has.2 in
        e ∙ (bytes_eq-Decides given text).1 (same ∙ (one_listing class listing items).0 lists ∙ sym ((one_listing class listing text).0 lists_text))

-- what the class of a listing is written as, where the test of it fails
pub not_its : (class : ClassDef) (text written : List ℕ) (b : Bool) → written ≡ written_class class → IsTrue b ↔ IsFileOf text written → b ≡ false → IsFileOf text (written_class class) → ⊥
not_its class text written b is tests fails has = let both : true ≡ false = sym (tests.1 (subst (IsFileOf text) (sym is) has)) ∙ fails in cc

-- where the file that the class of a listing is written as doesn't have that listing, no file has the class
pub never_made : (class : ClassDef) (text written : List ℕ) (b : Bool) → Lists class text → written ≡ written_class class → IsTrue b ↔ IsFileOf text written → b ≡ false → (file : List ℕ) → FileIs file class → ⊥
never_made class text written b lists is tests fails file has =
    let made = listed_is_made class text file lists has in
    let one : IsFileOf text written = (made.0, subst (λ (f : List ℕ). FileIs f made.0) (sym is) made.1, subst (λ (d : ClassDef). Lists d text) (sym made.2) lists) in
    let both : true ≡ false = sym (tests.1 one) ∙ fails in cc

-- why a text gave no class, by the clauses of the reader of listings
pub why_not : (text : List ℕ) (answer : Result ClassDef ListingError) (error : ListingError) → answer ≡ Err error → ((p : ℕ) → answer ≡ Err (BadListing p) → Place Lists text p) → ((p : ℕ) (class : ClassDef) → answer ≡ Err (BadListing p) → Lists class text → ⊥) → IsWhyNot text error
why_not text answer (BadListing p) is place nothing = (λ class lists. nothing p class is lists, place p is)
why_not text answer NoMemory is place nothing = tt

-- what was made of the text in a file
pub made_at : (h : Option Parts) (c : Parts) (path bytes text : List ℕ) (made : Made) → h ≡ Some c → ((d : Parts) → h ≡ Some d → file_at d path ≡ Some bytes) → text ≡ without_line_feed bytes → IsMade text made → IsMadeAt c path made
made_at h c path bytes text made tells read is made_of = (bytes, read c tells, subst (λ (t : List ℕ). IsMade t made) is made_of)

-- the line of a file
pub listed_line : (path bytes items text : List ℕ) (class : ClassDef) → FileIs bytes class → Lists (bare class) items → text ≡ items ++ codes "\n" → IsFileLine path bytes true text
listed_line path bytes items text class is lists same = subst (λ (t : List ℕ). IsFileLine path bytes true t) (sym same) (listed class items is lists)

pub refused_line : (path bytes text : List ℕ) (code : Code) (place : ℕ) → Fails bytes code place → text ≡ refusal_line path code place → IsFileLine path bytes false text
refused_line path bytes text code place fails same = subst (λ (t : List ℕ). IsFileLine path bytes false t) (sym same) (refused code place fails)

-- one line printed of a file that was read
pub printed_one : (h : Option Parts) (c : Parts) (path bytes slice text given : List ℕ) (well : Bool) (t0 t1 : Option (List ℕ)) → h ≡ Some c → ((d : Parts) → h ≡ Some d → file_at d path ≡ Some bytes) → slice ≡ bytes → IsFileLine path slice well text → given ≡ text → Appends t0 t1 given → PrintsOne c path t0 t1 (Ok well)
printed_one h c path bytes slice text given well t0 t1 tells read same line is appends = (text, (bytes, read c tells, subst (λ (b : List ℕ). IsFileLine path b well text) same line), subst (λ (t : List ℕ). Appends t0 t1 t) is appends)

-- how a file fails that was refused
pub fails_of : (bytes : List ℕ) (e : ReadRefusal) (code : Code) (place : ℕ) → e ≡ Bad code place → Answer bytes (Err e) → Fails bytes code place
fails_of bytes e code place is reads = subst (λ (r : ReadRefusal). IsRead bytes (Err r)) is reads.right
