-- What the files of a program show when a public module is loaded.
use Rattle.std.specs.Prelude.{ℕ, ℤ, pos, negsuc, ◌+◌, ◌-◌, ◌*◌, ◌^◌, ◌==◌, ◌&&◌, Bool, List, [], ◌∷◌, ◌++◌, drop, nat_lt, nat_le, codes, Option, Some, None, if◌then◌else◌}
use Rattle.std.specs.List.{list_all}
use Rattle.std.specs.Str.{is_utf8}
use Rattle.js_tree.specs.Names.{is_same_text}
use Rattle.js_tree.specs.Spelling.{Spells}
use Rattle.js_tree.specs.Terms.{Name, Module}
use Rattle.outcomes.specs.Outcome.{done, wrong, then_do}
use Rattle.outcomes.specs.Shown.{Thrown, normal, uncaught, Shown}
use Rattle.outcomes.specs.Shown as shown
use Rattle.sj_mangling.specs.Bindings.{class_binding}
use Rattle.sj_mangling.specs.declared.bindings.ClassBinding.TheVariants.{Marker}
use Rattle.sj_mangling.specs.Grammar.{is_class_name}
use Rattle.js_mean.specs.Objects.{property}
use Rattle.js_mean.specs.States.{Value, undefined, null, boolean, number, big_int, text, object, function, class, method, State, ExpressionEnd, gives, throws, Program}
use Rattle.js_mean.specs.Files.{running_order, is_good_file}
use Rattle.js_mean.specs.Meaning.{run_files, opening}

-- a file: its name, and its bytes
pub record File : Type 0 where
  pub name : List ℕ
  pub bytes : List ℕ

-- a file is read as the module that it spells, and as none where it spells none
abbrev pub IsContent : List ℕ → Option Module → Type 0
IsContent bytes (Some m) = Spells m bytes
IsContent bytes None = (m : Module) → Spells m bytes → ⊥

-- the files are read as this program, each by its bytes
pub data IsRead : List File → Program → Type 0 where
  no_files : IsRead [] []
  one_more : (f : File) (content : Option Module) (fs : List File) (p : Program) → IsContent f.bytes content → IsRead fs p → IsRead (f ∷ fs) (record { file = f.name; content = content } ∷ p)

-- an integer from -limit to limit - 1
abbrev pub is_below : ℕ → ℤ → Bool
is_below limit (pos n) = nat_lt n limit
is_below limit (negsuc n) = nat_lt n limit

-- where the reading of a mangled text stands: at a byte that isn't escaped, behind a `$`, or behind a `$` and a digit
pub data Reading : Type 0 where
  plainly : Reading
  escaped : Reading
  behind_digit : ℕ → Reading

abbrev pub digit_value : ℕ → ℕ
digit_value u = if nat_le 97 u then u - 87 else u - 48

abbrev pub with_byte : ℕ → Option (List ℕ) → Option (List ℕ)
with_byte b None = None
with_byte b (Some bs) = Some (b ∷ bs)

-- the bytes of a text of which these may be the mangling
abbrev pub read_back : Reading → List ℕ → Option (List ℕ)
read_back plainly [] = Some []
read_back escaped [] = None
read_back (behind_digit d) [] = None
read_back plainly (u ∷ us) = if u == 36 then read_back escaped us else with_byte (if u == 95 then 46 else u) (read_back plainly us)
read_back escaped (u ∷ us) = if u == 36 then with_byte 59 (read_back plainly us) else read_back (behind_digit u) us
read_back (behind_digit d) (u ∷ us) = with_byte (digit_value d * 16 + digit_value u) (read_back plainly us)

abbrev pub if_marker : List ℕ → Option (List ℕ) → Option (List ℕ)
if_marker us None = None
if_marker us (Some c) = if is_class_name c && is_utf8 c && is_same_text (class_binding Marker c) us then Some c else None

-- the class that has this text as its marker, if there is one
abbrev pub class_marked : List ℕ → Option (List ℕ)
class_marked us = if_marker us (read_back plainly (drop 2 us))

-- the marker of an object: the property `s` of its property `k`
abbrev pub marker_in : Program → State → Option Value → Option Value
marker_in p s None = None
marker_in p s (Some v) = property p s v (codes "s")

abbrev pub class_shown : Option Value → Option (List ℕ)
class_shown (Some (text us)) = class_marked us
class_shown _ = None

abbrev pub char_shown : Option Value → Option Thrown
char_shown (Some (number (pos n))) = if nat_lt n (2 ^ 16) then Some (shown.char n) else None
char_shown _ = None

-- an object of this class: one of `java.lang.Character` is the char that its property `c` holds
abbrev pub object_shown : Option (List ℕ) → Option Value → Option Thrown
object_shown None c = None
object_shown (Some name) c = if is_same_text name (codes "java.lang.Character") then char_shown c else Some (shown.object_of name)

-- a thrown value as it is shown: a Number of 32 bits is a number, a BigInt of 64 bits a long, and an object is known by its marker. A function
-- is none, nor is any other object.
abbrev pub thrown : Program → State → Value → Option Thrown
thrown p s undefined = Some shown.undefined
thrown p s null = Some shown.null
thrown p s (boolean b) = Some (shown.boolean b)
thrown p s (number z) = if is_below (2 ^ 31) z then Some (shown.number z) else None
thrown p s (big_int z) = if is_below (2 ^ 63) z then Some (shown.long z) else None
thrown p s (text us) = Some (shown.text us)
thrown p s (object a) = object_shown (class_shown (marker_in p s (property p s (object a) (codes "k")))) (property p s (object a) (codes "c"))
thrown p s (function f x) = None
thrown p s (class ls) = None
thrown p s (method ls x) = None

abbrev pub uncaught_or_wrong : Option Thrown → Shown
uncaught_or_wrong None = wrong
uncaught_or_wrong (Some t) = done (uncaught t)

abbrev pub ending : Program → ExpressionEnd → Shown
ending p (gives v s) = done normal
ending p (throws v s) = uncaught_or_wrong (thrown p s v)

-- the file of a module
abbrev pub file_of : List ℕ → Name
file_of id = id ++ codes ".js"

-- what the public module of this id shows within this bound: the files that it reaches are all read and judged before any of them runs
abbrev pub js_shows : Program → List ℕ → ℕ → Shown
js_shows p id n = if list_all (is_good_file p) (running_order p (file_of id)) then then_do (run_files p n (running_order p (file_of id)) (opening p)) (ending p) else wrong
