-- There is one output.
use Rattle.std.proofs.Common.{◌≡◌, ℕ, zero, suc, ◌+◌, ◌<◌, ◌≤◌, Bool, true, false, ◌&&◌, List, [], ◌∷◌, ◌++◌, map, take, refl, sym, ap, subst, ◌∙◌, append_assoc, Option, Some, None, arith}
use Rattle.std.specs.Prelude.{codes}
use Rattle.exact_place.specs.Grammar.{Spelling}
use Rattle.exact_place.specs.Place.{Place}
use Rattle.sj_outside.specs.Contents.{Parts}
use Rattle.sj_outside.specs.Words.{without_line_feed}
use Rattle.sj_outside.specs.Writing.{Event, line}
use Rattle.sj_trees.specs.declared.classes.ClassDef.{ClassDef}
use Rattle.sj_read_spec.proofs.ExactFiles.{one_answer}
use Rattle.sj_text_spec.specs.Spelling.{Lists}
use Rattle.sj_text_spec.specs.Rules.{bare}
use Rattle.sj_text_spec.proofs.Kept.{class_kept}
use Rattle.sj_text_spec.proofs.OneText.{one_listing}
use Rattle.sj_text_spec.proofs.Whole.{one_class}
use Rattle.sj_text_files.proofs.Bare.{listed_is_bare}
use Rattle.sj_write_spec.specs.Written.{written_class}
use Rattle.sjsir.specs.Command.{Command, help, version, print, make, command}
use Rattle.sjsir.specs.Making.{IsMade, IsMadeShallow, IsMadeAt, output_of}
use Rattle.sjsir.specs.declared.making.Made.{Made}
use Rattle.sjsir.specs.declared.making.Made.TheVariants.{File, NoListing, NoFile, TooDeep}
use Rattle.sjsir.specs.Output.{Output, IsOutput, no_command, helped, versioned, printed, made, no_listing, no_class_file, too_deep, IsFileOf, IsFileLine, listed, refused, refusal_line, AreFileLines, no_file, first_file, status_of, usage_line, help_text, version_line, HasOneOutput}
use Rattle.sjsir.specs.declared.answers.Status.{Status}
use Rattle.sjsir.specs.declared.answers.Status.TheVariants.{Done, Usage}

-- ---- the place

front_of : (n m : ℕ) (xs : List ℕ) → n ≤ m → (more : List ℕ) × (take m xs ≡ take n xs ++ more)
front_of zero m xs l = (take m xs, refl)
front_of (suc n) zero xs l = absurd (omega arith)
front_of (suc n) (suc m) [] l = ([], refl)
front_of (suc n) (suc m) (x ∷ xs) l = let rest = front_of n m xs (omega arith) in (rest.0, ap (λ (ys : List ℕ). x ∷ ys) rest.1)

not_longer : {A : Type 0} (P : Spelling A) (bytes : List ℕ) (p q : ℕ) → Place P bytes p → Place P bytes q → p < q → ⊥
not_longer P bytes p q one other l =
    let front = front_of (p + 1) q bytes (omega arith) in
    let more = other.begins.more in
    let whole : take q bytes ++ more ≡ take (p + 1) bytes ++ (front.0 ++ more) = ap (λ (xs : List ℕ). xs ++ more) front.1 ∙ append_assoc (take (p + 1) bytes) front.0 more in
    one.longest (omega (arith, other.within)) (record { value = other.begins.value; more = front.0 ++ more; spelled = subst (λ (xs : List ℕ). P other.begins.value xs) whole other.begins.spelled })

one_place : {A : Type 0} (P : Spelling A) (bytes : List ℕ) (p q : ℕ) → Place P bytes p → Place P bytes q → p ≡ q
one_place P bytes p q one other =
    let below : p < q → ⊥ = not_longer P bytes p q one other in
    let above : q < p → ⊥ = not_longer P bytes q p other one in
    omega arith

-- ---- the lines of files

listing_is_one : (c : ClassDef) (text other : List ℕ) → Lists (bare c) text → Lists (bare c) other → text ≡ other
listing_is_one c text other a b =
    let kept = class_kept (bare c) text a in
    let again : bare c ≡ bare (bare c) = sym (listed_is_bare (bare c) text a) in
    (one_listing (bare c) kept text).0 (subst (λ (d : ClassDef). Lists d text) again a) ∙ sym ((one_listing (bare c) kept other).0 (subst (λ (d : ClassDef). Lists d other) again b))

record SameLine (well fine : Bool) (text other : List ℕ) : Type 0 where
  pub well_is : well ≡ fine
  pub text_is : text ≡ other

one_line : (path bytes : List ℕ) (well fine : Bool) (text other : List ℕ) → IsFileLine path bytes well text → IsFileLine path bytes fine other → SameLine well fine text other
one_line path bytes _ _ _ _ (listed class text is lists) (listed other_class other other_is other_lists) =
    let same : class ≡ other_class = (one_answer bytes).one_class class other_class is other_is in
    record { well_is = refl; text_is = ap (λ (t : List ℕ). t ++ codes "\n") (listing_is_one other_class text other (subst (λ (c : ClassDef). Lists (bare c) text) same lists) other_lists) }
one_line path bytes _ _ _ _ (listed class text is lists) (refused code place fails) = absurd ((one_answer bytes).not_both class code place is fails)
one_line path bytes _ _ _ _ (refused code place fails) (listed class text is lists) = absurd ((one_answer bytes).not_both class code place is fails)
one_line path bytes _ _ _ _ (refused code place fails) (refused other another other_fails) =
    let same = (one_answer bytes).one_failure code other place another fails other_fails in
    record { well_is = refl; text_is = λ i. refusal_line path (same.0 i) (same.1 i) }

record SameLines (all every : Bool) (texts others : List (List ℕ)) : Type 0 where
  pub all_is : all ≡ every
  pub texts_are : texts ≡ others

some_is : {X : Type 0} {o : Option X} {x y : X} → o ≡ Some x → o ≡ Some y → x ≡ y
some_is e f = cc

one_list : (c : Parts) (files : List (List ℕ)) (all every : Bool) (texts others : List (List ℕ)) → AreFileLines c files all texts → AreFileLines c files every others → SameLines all every texts others
one_list c _ _ _ _ _ no_file no_file = record { all_is = refl; texts_are = refl }
one_list c _ _ _ _ _ (first_file path bytes text paths texts well all at is rest) (first_file _ held other _ others fine every there line_is behind) =
    let same : bytes ≡ held = some_is at there in
    let first = one_line path held well fine text other (subst (λ (b : List ℕ). IsFileLine path b well text) same is) line_is in
    let later = one_list c paths all every texts others rest behind in
    record { all_is = λ i. first.well_is i && later.all_is i; texts_are = λ i. first.text_is i ∷ later.texts_are i }

-- ---- what is made

one_made_shallow : (text : List ℕ) (m n : Made) → IsMadeShallow text m → IsMadeShallow text n → m ≡ n
one_made_shallow text (File bytes) (File other) (class, lists, is, has) (other_class, other_lists, other_is, other_has) = ap File (is ∙ ap written_class (one_class class other_class text lists other_lists) ∙ sym other_is)
one_made_shallow text (File bytes) (NoListing place) (class, lists, is, has) (none, there) = absurd (none class lists)
one_made_shallow text (File bytes) NoFile (class, lists, is, has) (other, other_lists, not_its, none) = absurd (not_its (subst (IsFileOf text) (is ∙ ap written_class (one_class class other text lists other_lists)) has))
one_made_shallow text (NoListing place) (File bytes) (none, there) (class, lists, is, has) = absurd (none class lists)
one_made_shallow text (NoListing place) (NoListing other) (none, there) (nothing, at) = ap NoListing (one_place Lists text place other there at)
one_made_shallow text (NoListing place) NoFile (none, there) (class, lists, not_its, nothing) = absurd (none class lists)
one_made_shallow text NoFile (File bytes) (other, other_lists, not_its, none) (class, lists, is, has) = absurd (not_its (subst (IsFileOf text) (is ∙ ap written_class (one_class class other text lists other_lists)) has))
one_made_shallow text NoFile (NoListing place) (class, lists, not_its, nothing) (none, there) = absurd (none class lists)
one_made_shallow text NoFile NoFile has other = refl
one_made_shallow text TooDeep n has other = absurd has
one_made_shallow text (File bytes) TooDeep has other = absurd other
one_made_shallow text (NoListing place) TooDeep has other = absurd other
one_made_shallow text NoFile TooDeep has other = absurd other

one_made : (text : List ℕ) (m n : Made) → IsMade text m → IsMade text n → m ≡ n
one_made text TooDeep TooDeep deep other = refl
one_made text TooDeep (File bytes) deep other = let no : true ≡ false = sym deep ∙ other.0 in cc
one_made text TooDeep (NoListing place) deep other = let no : true ≡ false = sym deep ∙ other.0 in cc
one_made text TooDeep NoFile deep other = let no : true ≡ false = sym deep ∙ other.0 in cc
one_made text (File bytes) TooDeep is deep = let no : true ≡ false = sym deep ∙ is.0 in cc
one_made text (NoListing place) TooDeep is deep = let no : true ≡ false = sym deep ∙ is.0 in cc
one_made text NoFile TooDeep is deep = let no : true ≡ false = sym deep ∙ is.0 in cc
one_made text (File bytes) (File other) is it = one_made_shallow text (File bytes) (File other) is.1 it.1
one_made text (File bytes) (NoListing place) is it = one_made_shallow text (File bytes) (NoListing place) is.1 it.1
one_made text (File bytes) NoFile is it = one_made_shallow text (File bytes) NoFile is.1 it.1
one_made text (NoListing place) (File bytes) is it = one_made_shallow text (NoListing place) (File bytes) is.1 it.1
one_made text (NoListing place) (NoListing other) is it = one_made_shallow text (NoListing place) (NoListing other) is.1 it.1
one_made text (NoListing place) NoFile is it = one_made_shallow text (NoListing place) NoFile is.1 it.1
one_made text NoFile (File bytes) is it = one_made_shallow text NoFile (File bytes) is.1 it.1
one_made text NoFile (NoListing place) is it = one_made_shallow text NoFile (NoListing place) is.1 it.1
one_made text NoFile NoFile is it = refl

one_made_at : (c : Parts) (path : List ℕ) (m n : Made) → IsMadeAt c path m → IsMadeAt c path n → m ≡ n
one_made_at c path m n (bytes, at, is) (held, there, other_is) = one_made (without_line_feed held) m n (subst (λ (b : List ℕ). IsMade (without_line_feed b) m) (some_is at there) is) other_is

-- ---- the output, by what the words ask for

abbrev said : Status → List Event → Output
said status events = record { status = status; events = events }

abbrev Answers : Parts → Option Command → Output → Type 0
Answers c None o = o ≡ said Usage (line usage_line ∷ [])
Answers c (Some help) o = o ≡ said Done (line help_text ∷ [])
Answers c (Some version) o = o ≡ said Done (line version_line ∷ [])
Answers c (Some (print files)) o = (texts : List (List ℕ)) × (all : Bool) × AreFileLines c files all texts × (o ≡ said (status_of all) (map (λ text. line text) texts))
Answers c (Some (make path out)) o = (m : Made) × IsMadeAt c path m × (o ≡ output_of out m)

-- by the command that the words are
at : (c : Parts) (k l : Option Command) (o : Output) → k ≡ l → Answers c l o → Answers c k o
at c k l o e h = subst (λ (m : Option Command). Answers c m o) (sym e) h

answers : (words : List (List ℕ)) (c : Parts) (o : Output) → IsOutput words c o → Answers c (command words) o
answers words c _ (no_command is) = at c (command words) None (said Usage (line usage_line ∷ [])) is refl
answers words c _ (helped is) = at c (command words) (Some help) (said Done (line help_text ∷ [])) is refl
answers words c _ (versioned is) = at c (command words) (Some version) (said Done (line version_line ∷ [])) is refl
answers words c _ (printed files texts all is are) = at c (command words) (Some (print files)) (said (status_of all) (map (λ text. line text) texts)) is (texts, all, are, refl)
answers words c _ (made path out bytes class is held shallow lists has) = at c (command words) (Some (make path out)) (output_of out (File (written_class class))) is (File (written_class class), (bytes, held, (shallow, (class, lists, refl, has))), refl)
answers words c _ (no_listing path out bytes place is held shallow none there) = at c (command words) (Some (make path out)) (output_of out (NoListing place)) is (NoListing place, (bytes, held, (shallow, (none, there))), refl)
answers words c _ (no_class_file path out bytes class is held shallow lists not_its none) = at c (command words) (Some (make path out)) (output_of out NoFile) is (NoFile, (bytes, held, (shallow, (class, lists, not_its, none))), refl)
answers words c _ (too_deep path out bytes is held deep) = at c (command words) (Some (make path out)) (output_of out TooDeep) is (TooDeep, (bytes, held, deep), refl)

one_answered : (c : Parts) (k : Option Command) (one other : Output) → Answers c k one → Answers c k other → one ≡ other
one_answered c None one other a b = a ∙ sym b
one_answered c (Some help) one other a b = a ∙ sym b
one_answered c (Some version) one other a b = a ∙ sym b
one_answered c (Some (print files)) one other (texts, all, are, is) (others, every, others_are, other_is) =
    let same = one_list c files all every texts others are others_are in
    is ∙ (λ i. record { status = status_of (same.all_is i); events = map (λ text. line text) (same.texts_are i) }) ∙ sym other_is
one_answered c (Some (make path out)) one other (m, at, is) (n, there, other_is) = is ∙ ap (output_of out) (one_made_at c path m n at there) ∙ sym other_is

pub has_one_output : HasOneOutput
has_one_output words c one other a b = one_answered c (command words) one other (answers words c one a) (answers words c other b)
