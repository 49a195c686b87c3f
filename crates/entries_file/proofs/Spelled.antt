-- What a line spells, where it was cut at its first two spaces.
use Rattle.std.proofs.Common.{◌≡◌, ℕ, Bool, true, false, List, [], ◌∷◌, ◌≤◌, ◌<◌, Option, Some, None, refl, sym, ap, ◌∙◌, not, ◌&&◌, length, arith, if◌then◌else◌}
use Rattle.std.specs.Prelude.{nat_lt, IsUtf8}
use Rattle.std.specs.List.{list_all, position_or_len, before_first, after_first}
use Rattle.std.specs.Str.{is_utf8}
use Rattle.std.proofs.lemmas.Str.{is_utf8-from_IsUtf8, IsUtf8-from_is_utf8}
use Rattle.std.proofs.lemmas.List.Splits.{slice_split_first}
use Rattle.std.proofs.lemmas.Bool.Decides.{nat_tests}
use Rattle.sj_names.specs.declared.entry_points.EntryPoint.{EntryPoint}
use Rattle.sj_names.specs.EntryPoints.{is_public_id}
use Rattle.sj_names.specs.Grammar.{is_class_name, is_plain_name, is_name_byte}
use Rattle.entries_file.specs.Lines.{is_space, fields}
use Rattle.entries_file.specs.EntriesFile.{entry, entry_of_fields, entry_of_line}
use Rattle.entries_file.proofs.Cuts.{lacks, no_cut, uncut, cut_in_two}

and_false : (b : Bool) → (b && false) ≡ false
and_false true = refl
and_false false = refl

space_is_none : (b : ℕ) → is_space b ≡ true → is_name_byte b ≡ false
space_is_none b h = grind (arith, nat_tests)

-- no name has a space
no_name_behind : (x : Bool) (b : ℕ) (bs : List ℕ) → is_space b ≡ x → (lacks is_space bs ≡ false → list_all is_name_byte bs ≡ false) → lacks is_space (b ∷ bs) ≡ false → list_all is_name_byte (b ∷ bs) ≡ false
no_name_behind true b bs h rest e = ap (λ y. y && list_all is_name_byte bs) (space_is_none b h)
no_name_behind false b bs h rest e = ap (λ y. is_name_byte b && y) (rest (sym (ap (λ y. not y && lacks is_space bs) h) ∙ e)) ∙ and_false (is_name_byte b)

no_name : (name : List ℕ) → lacks is_space name ≡ false → list_all is_name_byte name ≡ false
no_name [] e = absurd cc
no_name (b ∷ bs) e = no_name_behind (is_space b) b bs refl (no_name bs) e

too_many : (id class : List ℕ) (more : List (List ℕ)) → 2 ≤ length more → entry_of_fields (id ∷ class ∷ more) ≡ None
too_many id class [] l = absurd (omega (arith, l))
too_many id class (a ∷ []) l = absurd (omega (arith, l))
too_many id class (a ∷ b ∷ more) l = refl

chosen : (b : Bool) (e : EntryPoint) → b ≡ false → (if b then Some e else None) ≡ None
chosen true e h = absurd cc
chosen false e h = refl

no_plain_name : (method : List ℕ) → lacks is_space method ≡ false → is_plain_name method ≡ false
no_plain_name method e = ap (λ y. nat_lt 0 (length method) && y) (no_name method e) ∙ and_false (nat_lt 0 (length method))

no_entry : (id class method : List ℕ) → is_plain_name method ≡ false → entry id class method ≡ None
no_entry id class method e = chosen (is_public_id id && is_class_name class && is_plain_name method) (record { «module» = id; class = class; method = method }) (ap (λ y. is_public_id id && is_class_name class && y) e ∙ and_false (is_public_id id && is_class_name class))

-- the third field of an entry is the last
three : (id class method : List ℕ) → entry_of_fields (id ∷ class ∷ fields method) ≡ entry id class method
three id class method = by_spaces (lacks is_space method) refl
  where
    by_spaces : (b : Bool) → lacks is_space method ≡ b → entry_of_fields (id ∷ class ∷ fields method) ≡ entry id class method
    by_spaces true h = ap (λ more. entry_of_fields (id ∷ class ∷ more)) (no_cut is_space method h)
    by_spaces false h = too_many id class (fields method) (cut_in_two is_space method h) ∙ sym (no_entry id class method (no_plain_name method h))

of_text : (b : Bool) (o : Option EntryPoint) → b ≡ true → (if b then o else None) ≡ o
of_text true o e = refl
of_text false o e = absurd cc

of_no_text : (b : Bool) (o : Option EntryPoint) → (b ≡ true → ⊥) → None ≡ (if b then o else None)
of_no_text true o never = absurd (never refl)
of_no_text false o never = refl

pub no_text : (line : List ℕ) → (IsUtf8 line → ⊥) → None ≡ entry_of_line line
no_text line never = of_no_text (is_utf8 line) (entry_of_fields (fields line)) (λ yes. never (IsUtf8-from_is_utf8 line yes))

text_spells : (line : List ℕ) → IsUtf8 line → entry_of_line line ≡ entry_of_fields (fields line)
text_spells line text = of_text (is_utf8 line) (entry_of_fields (fields line)) (is_utf8-from_IsUtf8 line text)

pub one_field : (line text : List ℕ) → text ≡ line → IsUtf8 line → position_or_len is_space text ≡ length text → None ≡ entry_of_line line
one_field line text same utf8 e =
    let one : fields line ≡ text ∷ [] = ap fields (sym same) ∙ uncut is_space text e in
    sym (text_spells line utf8 ∙ ap entry_of_fields one)

-- a text that was cut at its first space
pub record IsCut (text front behind : List ℕ) : Type 0 where
  pub front_is : front ≡ before_first is_space text
  pub behind_is : behind ≡ after_first is_space text
  pub at : position_or_len is_space text < length text

cut_fields : (text front behind : List ℕ) → IsCut text front behind → fields text ≡ front ∷ fields behind
cut_fields text front behind cut =
    slice_split_first is_space text 0 cut.at ∙ ap (λ x. x ∷ fields (after_first is_space text)) (sym cut.front_is) ∙ ap (λ x. front ∷ fields x) (sym cut.behind_is)

pub two_fields : (line text id rest : List ℕ) → text ≡ line → IsUtf8 line → IsCut text id rest → position_or_len is_space rest ≡ length rest → None ≡ entry_of_line line
two_fields line text id rest same utf8 cut e =
    let two : fields line ≡ id ∷ rest ∷ [] = ap fields (sym same) ∙ cut_fields text id rest cut ∙ ap (λ x. id ∷ x) (uncut is_space rest e) in
    sym (text_spells line utf8 ∙ ap entry_of_fields two)

pub three_fields : (line text id rest class method : List ℕ) → text ≡ line → IsUtf8 line → IsCut text id rest → IsCut rest class method → entry id class method ≡ entry_of_line line
three_fields line text id rest class method same utf8 cut behind =
    let all : fields line ≡ id ∷ class ∷ fields method = ap fields (sym same) ∙ cut_fields text id rest cut ∙ ap (λ x. id ∷ x) (cut_fields rest class method behind) in
    sym (text_spells line utf8 ∙ ap entry_of_fields all ∙ three id class method)
