-- The names of the pieces of classes keep the rule of names.
use Rattle.std.proofs.Common.{◌≡◌, ◌∙◌, ◌+◌, ℕ, zero, suc, ◌<◌, ◌^◌, Bool, true, false, ◌&&◌, List, [], ◌∷◌, ◌++◌, refl, arith, if◌then◌else◌, length, map, get_or}
use Rattle.std.specs.Prelude.{codes, All}
use Rattle.std.specs.Int.Digits.{digits_of, AllBelowBase}
use Rattle.std.specs.List.{list_all, list_any}
use Rattle.std.proofs.lemmas.Bool.Decides.{nat_tests}
use Rattle.std.proofs.lemmas.Int.Digits.{all_below_base_digits_of, first_digits_of}
use Rattle.std.proofs.lemmas.List.Elements.{All-nil, All-cons, All-append}
use Rattle.std.proofs.lemmas.List.Folds.{list_all-append}
use Rattle.sj_emit_help_spec.specs.Words.{parameter, first_parameters, parameters_of, entry_name, marker}
use Rattle.js_tree.specs.Names.{is_name_character, is_mark}
use Rattle.js_tree.specs.Rules.{IsName, IsProperty, IsUnit}
use Rattle.sj_mangling.specs.Bindings.{class_binding, field_binding, method_binding}
use Rattle.sj_mangling.specs.Mangling.{mangled}
use Rattle.sj_mangling.specs.declared.bindings.ClassBinding.{ClassBinding}
use Rattle.sj_mangling.specs.declared.bindings.ClassBinding.TheVariants as classes
use Rattle.sj_mangling.specs.declared.bindings.FieldBinding.{FieldBinding}
use Rattle.sj_mangling.specs.declared.bindings.FieldBinding.TheVariants as fields
use Rattle.sj_mangling.specs.declared.bindings.MethodBinding.{MethodBinding}
use Rattle.sj_mangling.specs.declared.bindings.MethodBinding.TheVariants as methods
use Rattle.sj_names.specs.MethodNames.{spelled_method}
use Rattle.sj_names.specs.declared.method_names.MethodName.{MethodName}
use Rattle.sj_names.specs.declared.method_names.Namespace.TheVariants.{Public}
use Rattle.sj_emit_expr_pieces.specs.Ranges.{AreBytes, FitsMethodName}
use Rattle.sj_mangling.specs.Numerals.{number_text}
use Rattle.sj_emit_expr_pieces.proofs.Names.{AreCharacters, label-named, member-named, numeral-characters}

pub and_left : (b c : Bool) → (b && c) ≡ true → b ≡ true
and_left true c h = refl
and_left false c h = h

pub and_right : (b c : Bool) → (b && c) ≡ true → c ≡ true
and_right true c h = h
and_right false c h = let e : false ≡ true = h in absurd (let z : ⊥ = cc in z)

pub characters : (xs : List ℕ) → AreBytes xs → AreCharacters (mangled xs)
characters xs h = and_left (list_all is_name_character (mangled xs)) true (and_left (list_all is_name_character (mangled xs) && true) true (label-named xs h))

pub method-characters : (m : MethodName) → FitsMethodName m → AreCharacters (mangled (spelled_method m))
method-characters m h = and_left (list_all is_name_character (mangled (spelled_method m))) true (and_left (list_all is_name_character (mangled (spelled_method m)) && true) true (member-named (record { class = []; namespace = Public; method = m }) (All-nil (λ b. b < 2 ^ 8), h)))

both : (xs ys : List ℕ) → AreCharacters xs → AreCharacters ys → AreCharacters (xs ++ ys)
both xs ys h k = list_all-append is_name_character xs ys ∙ (λ i. h i && k i)

pub class-named : (b : ClassBinding) (c : List ℕ) → AreBytes c → IsName (class_binding b c)
class-named classes.Constants c h = rw (characters c h) refl
class-named classes.Class c h = rw (characters c h) refl
class-named classes.Instance c h = rw (characters c h) refl
class-named classes.LoadModule c h = rw (characters c h) refl
class-named classes.StoreModule c h = rw (characters c h) refl
class-named classes.IsInstance c h = rw (characters c h) refl
class-named classes.AsInstance c h = rw (characters c h) refl
class-named classes.Marker c h = rw (characters c h) refl

field-rest : (c f : List ℕ) → AreBytes c → AreBytes f → AreCharacters ((mangled c ++ codes "__") ++ mangled f)
field-rest c f h k = both (mangled c ++ codes "__") (mangled f) (both (mangled c) (codes "__") (characters c h) refl) (characters f k)

pub field-named : (b : FieldBinding) (c f : List ℕ) → AreBytes c → AreBytes f → IsName (field_binding b c f)
field-named fields.Property c f h k = rw (field-rest c f h k) refl
field-named fields.Variable c f h k = rw (field-rest c f h k) refl
field-named fields.Setter c f h k = rw (field-rest c f h k) refl

pub property-named : (c f : List ℕ) → AreBytes c → AreBytes f → IsProperty (field_binding fields.Property c f)
property-named c f h k = rw (field-rest c f h k) refl

pub marker-named : (c : List ℕ) → AreBytes c → IsProperty (marker c)
marker-named c h = rw (characters c h) refl

pub entry-named : (m : MethodName) → FitsMethodName m → IsProperty (entry_name m)
entry-named m h = rw (method-characters m h) refl

pub method-named : (b : MethodBinding) (m : MethodName) → FitsMethodName m → IsName (method_binding b m)
method-named methods.Entry m h = rw (method-characters m h) refl
method-named methods.Dispatch m h = rw (method-characters m h) refl
method-named methods.Reflective m h = rw (method-characters m h) refl

-- the units of a text of letters, digits, `_` and `$`
character-unit : (b : ℕ) → is_name_character b ≡ true → b < 2 ^ 16
character-unit b h = grind (arith, nat_tests, h)

characters-units : (xs : List ℕ) → AreCharacters xs → All IsUnit xs
characters-units [] h = All-nil IsUnit
characters-units (x ∷ xs) h = All-cons IsUnit x xs (character-unit x (and_left (is_name_character x) (list_all is_name_character xs) h)) (characters-units xs (and_right (is_name_character x) (list_all is_name_character xs) h))

pub marker-units : (c : List ℕ) → AreBytes c → All IsUnit (marker c)
marker-units c h = All-append IsUnit (codes "i_") (mangled c) (characters-units (codes "i_") refl) (characters-units (mangled c) (characters c h))

pub entry-units : (m : MethodName) → FitsMethodName m → All IsUnit (entry_name m)
entry-units m h = All-append IsUnit (codes "m_") (mangled (spelled_method m)) (characters-units (codes "m_") refl) (characters-units (mangled (spelled_method m)) (method-characters m h))

-- one of two
pub choose : {A : Type 0} (P : A → Type 0) (b : Bool) (x y : A) → P x → P y → P (if b then x else y)
choose P true x y h k = h
choose P false x y h k = k

-- a numeral has a digit
digit-mark : (d : ℕ) → d < 10 → is_mark (48 + d) ≡ true
digit-mark d small = grind (arith, nat_tests, small)

digits-mark : (ds : List ℕ) → AllBelowBase 10 ds → 0 < get_or ds 0 0 → list_any is_mark (map (λ d. 48 + d) ds) ≡ true
digits-mark [] below some = absurd (omega (arith, some))
digits-mark (d ∷ ds) below some = rw (digit-mark d below.0) refl

numeral-mark : (n : ℕ) → list_any is_mark (number_text n) ≡ true
numeral-mark zero = refl
numeral-mark (suc n) = digits-mark (digits_of 10 (suc n)) (all_below_base_digits_of 10 (suc n) (omega arith)) (first_digits_of 10 (suc n) (omega arith) (omega arith))

parameter-named : (n : ℕ) → IsName (parameter n)
parameter-named n = rw (numeral-characters n, numeral-mark n) refl

first-named : (n : ℕ) → All IsName (first_parameters n)
first-named zero = All-nil IsName
first-named (suc n) = All-append IsName (first_parameters n) (parameter n ∷ []) (first-named n) (All-cons IsName (parameter n) [] (parameter-named n) (All-nil IsName))

pub parameters-named : (m : MethodName) → All IsName (parameters_of m)
parameters-named m = first-named (length m.params)
