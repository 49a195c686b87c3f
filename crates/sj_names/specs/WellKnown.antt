-- The names that the profile knows by itself.
use Rattle.std.specs.Prelude.{ℕ, Bool, List, [], ◌∷◌, nat_eq, codes}
use Rattle.std.specs.List.{list_any}
use Rattle.std.specs.Cmp.Lexicographic.{pointwise}

abbrev pub is_same_text : List ℕ → List ℕ → Bool
is_same_text = pointwise nat_eq

-- the class at the top
abbrev pub object : List ℕ
object = codes "java.lang.Object"

-- the superclass of the hijacked classes of numbers
abbrev pub number : List ℕ
number = codes "java.lang.Number"

-- the hijacked class of ints
abbrev pub integer : List ℕ
integer = codes "java.lang.Integer"

-- the simple name of each constructor
abbrev pub init : List ℕ
init = codes "<init>"

abbrev pub is_object : List ℕ → Bool
is_object name = is_same_text name object

abbrev pub is_number : List ℕ → Bool
is_number name = is_same_text name number

abbrev pub is_init : List ℕ → Bool
is_init name = is_same_text name init

-- the eight classes whose instances are primitive values
abbrev pub hijacked : List (List ℕ)
hijacked = codes "java.lang.Void" ∷ codes "java.lang.Boolean" ∷ codes "java.lang.Character" ∷ codes "java.lang.Byte" ∷ codes "java.lang.Short" ∷ codes "java.lang.Integer" ∷ codes "java.lang.Long" ∷ codes "java.lang.String" ∷ []

abbrev pub is_hijacked : List ℕ → Bool
is_hijacked name = list_any (is_same_text name) hijacked
