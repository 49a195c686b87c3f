-- How far the text of a name has come, and the reader of names: what may come next depends on the characters before, so that a text
-- that is no name is given up at the first unit, and in its escape at the first digit, behind which no name goes on.
use Rattle.std.specs.Prelude.{ℕ, zero, suc, ◌+◌, ◌*◌, Bool, cond, not, List, [], ◌++◌, ◌==◌, ◌&&◌, ◌||◌, nat_le, nat_lt, Option, Some, None, is_some, codes, if◌then◌else◌}
use Rattle.std.specs.Option.{unwrap_or}
use Rattle.std.specs.Char.{encode_utf8}
use Rattle.std.specs.Char.Utf16.{surrogate_pair_char}
use Rattle.exact_place.specs.Reading.{Reading, ◌>>=◌, stopped, passes, value_at, one_at, after_at, lead_at, either_at}
use Rattle.js_read_spec.specs.Tokens.{hex_of}
use Rattle.sj_names.specs.Grammar.{is_name_byte, is_plain_name, is_class_name}
use Rattle.sj_names.specs.MethodNames.{method_name_of}
use Rattle.sj_names.specs.References.{reference_of}
use Rattle.sj_names.specs.declared.references.ArrayRef.{ArrayRef}
use Rattle.sj_names.specs.declared.references.TypeRef.{TypeRef}
use Rattle.sj_names.specs.declared.references.TypeRef.TheVariants.{Array}
use Rattle.sj_names.specs.declared.method_names.MethodName.{MethodName}
use Rattle.sj_text_spec.specs.Spelling.{is_object}
use Rattle.sj_text_spec.specs.declared.words.Spot.{Spot}
use Rattle.sj_text_spec.specs.declared.words.Spot.TheVariants.{NameStart, Name, PartStart, Part, ArrayStart, ArrayBase, ArrayEnd, MethodStart, Less, LessI, LessIn, LessIni, LessInit, InitEnd, Simple, TypeStart, TypeBase, TypePartStart, TypePart, TypeEnd, Last}

-- ---- where the next character leads

-- on with a character of a name
abbrev pub on_name : ℕ → Spot → Option Spot
on_name c s = if is_name_byte c then Some s else None

-- on with this character
abbrev pub on : ℕ → ℕ → Spot → Option Spot
on want c s = if c == want then Some s else None

-- the letter of a type that is no class
abbrev pub is_letter : ℕ → Bool
is_letter c = c == 90 || c == 67 || c == 66 || c == 83 || c == 73 || c == 74

-- one dimension more, of 255 at most, or what stands behind the dimensions
abbrev pub base_step : ℕ → ℕ → (ℕ → Spot) → Spot → Spot → Option Spot
base_step n c deeper letter class =
    if c == 91 && nat_lt n 255 then Some (deeper (n + 1)) else
    if is_letter c then Some letter else
    if c == 76 then Some class else
    None

-- the spot behind one character more, if it may stand there
abbrev pub step : Spot → ℕ → Option Spot
step NameStart c = on_name c Name
step Name c = on_name c Name
step PartStart c = on_name c Part
step Part c = if c == 46 then Some PartStart else on_name c Part
step ArrayStart c = on 91 c (ArrayBase 1)
step (ArrayBase n) c = base_step n c (λ m. ArrayBase m) ArrayEnd PartStart
step ArrayEnd c = None
step MethodStart c = if c == 60 then Some Less else on_name c Simple
step Less c = on 105 c LessI
step LessI c = on 110 c LessIn
step LessIn c = on 105 c LessIni
step LessIni c = on 116 c LessInit
step LessInit c = on 62 c InitEnd
step InitEnd c = on 59 c TypeStart
step Simple c = if c == 59 then Some TypeStart else on_name c Simple
step TypeStart c = if c == 86 || c == 82 then Some Last else base_step 0 c (λ m. TypeBase m) TypeEnd TypePartStart
step (TypeBase n) c = base_step n c (λ m. TypeBase m) TypeEnd TypePartStart
step TypePartStart c = on_name c TypePart
step TypePart c = if c == 59 then Some TypeStart else if c == 46 then Some TypePartStart else on_name c TypePart
step TypeEnd c = on 59 c TypeStart
step Last c = None

-- the spot behind a character
abbrev pub moved : Spot → ℕ → Spot
moved s c = unwrap_or (step s c) s

-- each character that no rule names may stand here: the quote, the backslash, and all outside ASCII
abbrev pub is_open : Spot → Bool
is_open s = is_some (step s 97)

-- ---- one character

-- a character that stands as it is
abbrev pub is_simple : ℕ → Bool
is_simple c = (nat_le 32 c && nat_le c 126) && not (c == 34 || c == 92)

-- such a character that may stand here
abbrev pub plain_of : Spot → ℕ → Option ℕ
plain_of s c = cond (is_simple c && is_some (step s c)) (Some c) None

-- the second digit: a pair begins with its high unit
abbrev pub second_digit : ℕ → Option ℕ → Option ℕ
second_digit high None = None
second_digit high (Some d) = cond (high == 13 && nat_le 12 d) None (Some (high * 16 + d))

abbrev pub second_of : ℕ → ℕ → Option ℕ
second_of high c = second_digit high (hex_of c)

-- the third digit: units below 0080 have no escape in names
abbrev pub third_digit : ℕ → Option ℕ → Option ℕ
third_digit high None = None
third_digit high (Some d) = cond (high == 0 && nat_lt d 8) None (Some (high * 16 + d))

abbrev pub third_of : ℕ → ℕ → Option ℕ
third_of high c = third_digit high (hex_of c)

-- the last digits
abbrev pub last_digit : ℕ → Option ℕ → Option ℕ
last_digit high None = None
last_digit high (Some d) = Some (high * 16 + d)

abbrev pub digit_of : ℕ → ℕ → Option ℕ
digit_of high c = last_digit high (hex_of c)

-- the second digit of the low unit of a pair
abbrev pub low_digit : Option ℕ → Option ℕ
low_digit None = None
low_digit (Some d) = cond (nat_le 12 d) (Some (208 + d)) None

abbrev pub low_of : ℕ → Option ℕ
low_of c = low_digit (hex_of c)

-- the four digits behind `\u`
unfoldable pub unit_at : List ℕ → Reading ℕ
unit_at = after_at (one_at hex_of) (λ a. after_at (one_at (second_of a)) (λ v. after_at (one_at (third_of v)) (λ w. one_at (digit_of w))))

-- the three digits behind `\ud` of the low unit of a pair
unfoldable pub low_at : List ℕ → Reading ℕ
low_at = after_at (one_at low_of) (λ v. after_at (one_at (digit_of v)) (λ w. one_at (digit_of w)))

abbrev pub is_high : ℕ → Bool
is_high u = nat_le 0xd800 u && nat_lt u 0xdc00

-- behind a unit: the low unit behind a high one
unfoldable pub pair_at : ℕ → List ℕ → Reading ℕ
pair_at u bytes = cond (is_high u) (lead_at (codes "\\ud") (after_at low_at (λ v. value_at (surrogate_pair_char u v))) bytes) (value_at u bytes)

-- behind a backslash
abbrev pub simple_escape : ℕ → Option ℕ
simple_escape c = cond (c == 34 || c == 92) (Some c) None

unfoldable pub escape_at : List ℕ → Reading ℕ
escape_at = either_at (λ c. c == 117) (lead_at (codes "u") (after_at unit_at pair_at)) (one_at simple_escape)

-- a character that may stand here
unfoldable pub character_at : Spot → List ℕ → Reading ℕ
character_at s bytes = cond (is_open s) (either_at (λ c. c == 92) (lead_at (codes "\\") escape_at) (one_at (plain_of s)) bytes) (one_at (plain_of s) bytes)

-- ---- names

-- the characters up to the quote, behind those in front; of all of them the bytes
unfoldable pub characters_at : ℕ → Spot → List ℕ → List ℕ → Reading (List ℕ)
characters_at zero s front bytes = stopped bytes
characters_at (suc n) s front bytes = cond (passes (λ c. c == 34) bytes) (value_at front bytes) (character_at s bytes >>= λ c. characters_at n (moved s c.0) (front ++ encode_utf8 c.0) c.1)

-- the closing quote, where the text is a name
abbrev pub quote_at : {A : Type 0} → Option A → List ℕ → Reading A
quote_at None bytes = stopped bytes
quote_at (Some x) bytes = lead_at (codes "\"") (value_at x) bytes

-- a name, a reference or a method name: characters from this spot on, and what their bytes are
unfoldable pub named_at : {A : Type 0} → ℕ → Spot → (List ℕ → Option A) → List ℕ → Reading A
named_at n s accept = lead_at (codes "\"") (after_at (characters_at n s []) (λ name. quote_at (accept name)))

abbrev pub plain_name : List ℕ → Option (List ℕ)
plain_name name = cond (is_plain_name name) (Some name) None

abbrev pub class_name : List ℕ → Option (List ℕ)
class_name name = cond (is_class_name name) (Some name) None

-- the class of a class type
abbrev pub type_class : List ℕ → Option (List ℕ)
type_class name = cond (not (is_object name)) (class_name name) None

abbrev pub array_among : Option TypeRef → Option ArrayRef
array_among (Some (Array r)) = Some r
array_among other = None

abbrev pub array_of : List ℕ → Option ArrayRef
array_of text = array_among (reference_of text)

abbrev pub plain_name_at : ℕ → List ℕ → Reading (List ℕ)
plain_name_at n = named_at n NameStart plain_name

abbrev pub class_name_at : ℕ → List ℕ → Reading (List ℕ)
class_name_at n = named_at n PartStart class_name

abbrev pub type_class_at : ℕ → List ℕ → Reading (List ℕ)
type_class_at n = named_at n PartStart type_class

abbrev pub method_name_at : ℕ → List ℕ → Reading MethodName
method_name_at n = named_at n MethodStart method_name_of

abbrev pub array_at : ℕ → List ℕ → Reading ArrayRef
array_at n = named_at n ArrayStart array_of
