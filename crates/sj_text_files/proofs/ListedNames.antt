-- Names, references and types of class files are in their grammars.
use Rattle.std.proofs.Common.{◌≡◌, ℕ, zero, suc, ◌<◌, ◌≤◌, Bool, true, false, List, [], ◌∷◌, ◌++◌, Option, Some, None, refl, arith, cond}
use Rattle.std.specs.Prelude.{MatchOption, nat_lt, ◌==◌, IsTrue, replicate}
use Rattle.std.specs.Str.{IsUtf8, IsAscii}
use Rattle.std.proofs.lemmas.Str.{IsUtf8-append, IsUtf8-nil, IsUtf8-from_ascii, IsUtf8-from_is_utf8}
use Rattle.std.proofs.lemmas.Bool.{ltb-true}
use Rattle.sj_names.specs.Grammar.{is_class_name, is_simple_name}
use Rattle.sj_names.specs.Bases.{spelled_base, IsBase}
use Rattle.sj_names.specs.References.{spelled, IsReference}
use Rattle.sj_names.specs.MethodNames.{spelled_parameters, spelled_result, IsParameter}
use Rattle.sj_names.specs.declared.references.TypeRef.{TypeRef}
use Rattle.sj_names.specs.declared.references.TypeRef.TheVariants.{Boolean, Char, Byte, Short, Int, Long, Class, Array}
use Rattle.sj_names.specs.declared.references.BaseRef.{BaseRef}
use Rattle.sj_names.specs.declared.references.BaseRef.TheVariants as bases
use Rattle.sj_names.specs.declared.references.ArrayRef.{ArrayRef}
use Rattle.sj_units.specs.Modified.{modified_units}
use Rattle.sj_units.specs.Modified as units
use Rattle.sj_units.proofs.Exact.{reads_what_is_written}
use Rattle.sj_trees.specs.declared.types.IrType.{IrType}
use Rattle.sj_trees.specs.declared.types.IrType.TheVariants as types
use Rattle.sj_trees.specs.Types.{class_type}
use Rattle.sj_read_spec.specs.Spelling.{Tested, IsByte, IsNumber, IsBytes}
use Rattle.sj_read_spec.specs.Tables as tables
use Rattle.sj_read_spec.specs.Tables.{Tables}
use Rattle.sj_read_spec.specs.References as refs
use Rattle.sj_read_spec.specs.Types as format
use Rattle.sj_read_spec.specs.Codes.{plain_types}
use Rattle.sj_trees.specs.Forms.{among}
use Rattle.sj_text_spec.specs.Rules.{IsClass, IsMethod, IsListedType}
use Rattle.sj_text_spec.specs.Rules as rules
use Rattle.sj_text_spec.specs.Spelling.{is_object}
use Rattle.sj_text_files.proofs.Ensures.{AllOf, Ensures, anything, behind, gives, either, found, tested, listed, a_byte, entry, all_none, all_more, all_first, all_others}

-- a name of this grammar, which is text
abbrev pub IsWord : (List ℕ → Bool) → List ℕ → Type 0
IsWord grammar t = IsTrue (grammar t) × IsUtf8 t

pub a_name : (grammar : List ℕ → Bool) (names : List (List ℕ)) → AllOf IsUtf8 names → Ensures (IsWord grammar) (tables.IsName grammar names)
a_name grammar names utf8 = behind (entry names utf8) (λ t u. tested (grammar t) t (λ e. (e, u)))

pub a_text : Ensures IsUtf8 tables.IsText
a_text = behind (anything (IsNumber 4)) (λ n k. behind (anything (IsBytes n)) (λ t k. tested _ t (λ e. IsUtf8-from_is_utf8 t e)))

string_meets : (t : List ℕ) → MatchOption (modified_units t) (Unit {0}) units.IsText
string_meets t = read_as (modified_units t) refl
  where
    read_as : (o : Option (List ℕ)) → modified_units t ≡ o → MatchOption o (Unit {0}) units.IsText
    read_as (Some u) e = ((reads_what_is_written t u).0 e).0
    read_as None e = tt

pub a_string : Ensures units.IsText tables.IsString
a_string = behind (anything (IsNumber 4)) (λ n k. behind (anything (IsBytes n)) (λ t k. found (modified_units t) (string_meets t)))

-- ---- references

one_is_ascii : (b : ℕ) → b < 128 → IsAscii (b ∷ [])
one_is_ascii b low zero = low
one_is_ascii b low (suc i) = omega arith

ascii : (b : ℕ) (t : List ℕ) → b < 128 → IsUtf8 t → IsUtf8 (b ∷ t)
ascii b t low utf8 = IsUtf8-append (b ∷ []) t (IsUtf8-from_ascii (b ∷ []) (one_is_ascii b low)) utf8

-- a base with its spelling
pub record IsTextBase (base : BaseRef) : Type 0 where
  pub is : IsBase base
  pub utf8 : IsUtf8 (spelled_base base)

pub plain_base_meets : (code : ℕ) → MatchOption (refs.plain_base code) (Unit {0}) IsTextBase
plain_base_meets code = plain (code == 2) (code == 3) (code == 4) (code == 5) (code == 6) (code == 7)
  where
    letter : (b : ℕ) → b < 128 → IsUtf8 (b ∷ [])
    letter b low = ascii b [] low IsUtf8-nil

    plain : (c2 c3 c4 c5 c6 c7 : Bool) → MatchOption (cond c2 (Some bases.Boolean) (cond c3 (Some bases.Char) (cond c4 (Some bases.Byte) (cond c5 (Some bases.Short) (cond c6 (Some bases.Int) (cond c7 (Some bases.Long) None)))))) (Unit {0}) IsTextBase
    plain true c3 c4 c5 c6 c7 = record { is = tt; utf8 = letter 0x5a (omega arith) }
    plain false true c4 c5 c6 c7 = record { is = tt; utf8 = letter 0x43 (omega arith) }
    plain false false true c5 c6 c7 = record { is = tt; utf8 = letter 0x42 (omega arith) }
    plain false false false true c6 c7 = record { is = tt; utf8 = letter 0x53 (omega arith) }
    plain false false false false true c7 = record { is = tt; utf8 = letter 0x49 (omega arith) }
    plain false false false false false true = record { is = tt; utf8 = letter 0x4a (omega arith) }
    plain false false false false false false = tt

class_base : (c : List ℕ) → IsWord is_class_name c → IsTextBase (bases.Class c)
class_base c word = record { is = word.0; utf8 = ascii 0x4c c (omega arith) word.1 }

pub a_base : (names : List (List ℕ)) → AllOf IsUtf8 names → Ensures IsTextBase (refs.IsBase names)
a_base names utf8 = behind (anything IsByte) (λ code k. either (code == 8) (behind (a_name is_class_name names utf8) (λ c word. gives (class_base c word))) (found (refs.plain_base code) (plain_base_meets code)))

brackets : (n : ℕ) (t : List ℕ) → IsUtf8 t → IsUtf8 (replicate n 0x5b ++ t)
brackets zero t utf8 = utf8
brackets (suc n) t utf8 = ascii 0x5b (replicate n 0x5b ++ t) (omega arith) (brackets n t utf8)

array_meets : (n : ℕ) (base : BaseRef) → 1 ≤ n → n ≤ 255 → IsTextBase base → rules.IsArray (record { dimensions = n; base = base })
array_meets n base least most is = ((least, most, is.is), brackets n (spelled_base base) is.utf8)

pub an_array : (names : List (List ℕ)) → AllOf IsUtf8 names → Ensures rules.IsArray (refs.IsArray names)
unfolding refs.IsArray
an_array names utf8 = behind {Q = λ n. (1 ≤ n) × (n ≤ 255)} (behind a_byte (λ n below. tested (nat_lt 0 n) n (λ e. (omega (arith, ltb-true _ _ e), omega (arith, below))))) (λ n range. behind (a_base names utf8) (λ base is. gives (array_meets n base range.0 range.1 is)))

pub an_array_reference : (names : List (List ℕ)) → AllOf IsUtf8 names → Ensures rules.IsArray (refs.IsArrayReference names)
unfolding refs.IsArrayReference
an_array_reference names utf8 = behind (anything IsByte) (λ code k. behind (anything (Tested (code == 9) code)) (λ nine k. an_array names utf8))

-- the same of one that is a parameter's
pub record IsTextParameter (reference : TypeRef) : Type 0 where
  pub is : IsParameter reference
  pub utf8 : IsUtf8 (spelled reference)

pub plain_reference_meets : (code : ℕ) → MatchOption (refs.plain_reference code) (Unit {0}) IsTextParameter
plain_reference_meets code = plain (code == 2) (code == 3) (code == 4) (code == 5) (code == 6) (code == 7)
  where
    letter : (b : ℕ) → b < 128 → IsUtf8 (b ∷ [])
    letter b low = ascii b [] low IsUtf8-nil

    plain : (c2 c3 c4 c5 c6 c7 : Bool) → MatchOption (cond c2 (Some Boolean) (cond c3 (Some Char) (cond c4 (Some Byte) (cond c5 (Some Short) (cond c6 (Some Int) (cond c7 (Some Long) None)))))) (Unit {0}) IsTextParameter
    plain true c3 c4 c5 c6 c7 = record { is = (tt, λ e. cc); utf8 = letter 0x5a (omega arith) }
    plain false true c4 c5 c6 c7 = record { is = (tt, λ e. cc); utf8 = letter 0x43 (omega arith) }
    plain false false true c5 c6 c7 = record { is = (tt, λ e. cc); utf8 = letter 0x42 (omega arith) }
    plain false false false true c6 c7 = record { is = (tt, λ e. cc); utf8 = letter 0x53 (omega arith) }
    plain false false false false true c7 = record { is = (tt, λ e. cc); utf8 = letter 0x49 (omega arith) }
    plain false false false false false true = record { is = (tt, λ e. cc); utf8 = letter 0x4a (omega arith) }
    plain false false false false false false = tt

class_reference : (c : List ℕ) → IsWord is_class_name c → IsTextParameter (Class c)
class_reference c word = record { is = (word.0, λ e. cc); utf8 = ascii 0x4c c (omega arith) word.1 }

array_reference : (a : ArrayRef) → rules.IsArray a → IsTextParameter (Array a)
array_reference a is = record { is = (is.0, λ e. cc); utf8 = is.1 }

pub a_reference : (names : List (List ℕ)) → AllOf IsUtf8 names → (code : ℕ) → Ensures IsTextParameter (refs.IsReference names code)
unfolding refs.IsReference
a_reference names utf8 code = either (code == 8) (behind (a_name is_class_name names utf8) (λ c word. gives (class_reference c word))) (either (code == 9) (behind (an_array names utf8) (λ a is. gives (array_reference a is))) (found (refs.plain_reference code) (plain_reference_meets code)))

pub a_parameter : (names : List (List ℕ)) → AllOf IsUtf8 names → Ensures IsTextParameter (refs.IsParameter names)
a_parameter names utf8 = behind (anything IsByte) (λ code k. a_reference names utf8 code)

-- a result with its spelling
abbrev pub IsTextResult : Option TypeRef → Type 0
IsTextResult result = MatchOption result (Unit {0}) IsReference × IsUtf8 (spelled_result result)

pub a_result : (names : List (List ℕ)) → AllOf IsUtf8 names → Ensures IsTextResult (refs.IsResult names)
a_result names utf8 = behind (anything IsByte) (λ code k.
    either (code == 0) (gives (tt, ascii 0x52 [] (omega arith) IsUtf8-nil))
    (either (code == 1) (gives (tt, ascii 0x56 [] (omega arith) IsUtf8-nil))
    (behind (a_reference names utf8 code) (λ r is. gives (is.is.0, is.utf8)))))

parameters_utf8 : (params : List TypeRef) → AllOf IsTextParameter params → IsUtf8 (spelled_parameters params)
parameters_utf8 [] all = IsUtf8-nil
parameters_utf8 (p ∷ ps) all = ascii 0x3b (spelled p ++ spelled_parameters ps) (omega arith) (IsUtf8-append (spelled p) (spelled_parameters ps) (all_first p ps all).utf8 (parameters_utf8 ps (all_others p ps all)))

parameters_are : (params : List TypeRef) → AllOf IsTextParameter params → AllOf IsParameter params
parameters_are [] all = all_none
parameters_are (p ∷ ps) all = all_more (all_first p ps all).is (parameters_are ps (all_others p ps all))

method_meets : (simple : List ℕ) (params : List TypeRef) (result : Option TypeRef) → IsWord is_simple_name simple → AllOf IsTextParameter params → IsTextResult result → IsMethod (record { simple = simple; params = params; result = result })
method_meets simple params result word all is = (record { simple = word.0; params = (parameters_are params all).at; result = is.0 }, IsUtf8-append (simple ++ spelled_parameters params) (0x3b ∷ spelled_result result) (IsUtf8-append simple (spelled_parameters params) word.1 (parameters_utf8 params all)) (ascii 0x3b (spelled_result result) (omega arith) is.1))

pub a_method_name : (names : List (List ℕ)) → AllOf IsUtf8 names → Ensures IsMethod (refs.IsMethodName names)
unfolding refs.IsMethodName
a_method_name names utf8 = behind (a_name is_simple_name names utf8) (λ simple word. behind (listed (a_parameter names utf8)) (λ params all. behind (a_result names utf8) (λ result is. gives (method_meets simple params result word all is))))

-- ---- types

class_type_meets : (c : List ℕ) → IsClass c → IsListedType (class_type c)
class_type_meets c is = by_name (is_object c) refl
  where
    by_name : (b : Bool) → is_object c ≡ b → IsListedType (cond b types.Any (types.Class c))
    by_name true e = tt
    by_name false e = (is, e)

either_meets : {A : Type 0} (Q : A → Type 0) (b : Bool) (o other : Option A) → MatchOption o (Unit {0}) Q → MatchOption other (Unit {0}) Q → MatchOption (cond b o other) (Unit {0}) Q
either_meets Q true o other q r = q
either_meets Q false o other q r = r

-- what stands in a table meets what each of its rows meets
among_meets : {A : Type 0} (Q : A → Type 0) (rows : List (ℕ × A)) (code : ℕ) → AllOf (λ (row : ℕ × A). Q row.1) rows → MatchOption (among rows code) (Unit {0}) Q
among_meets Q [] code all = tt
among_meets {A} Q (row ∷ rows) code all = either_meets Q (code == row.0) (Some row.1) (among rows code) (all_first row rows all) (among_meets Q rows code (all_others row rows all))

plain_types_are_listed : AllOf (λ (row : ℕ × IrType). IsListedType row.1) plain_types
plain_types_are_listed = all_more tt (all_more tt (all_more tt (all_more tt (all_more tt (all_more tt (all_more tt (all_more tt (all_more tt (all_more tt (all_more tt (all_more tt all_none)))))))))))

type_behind : (names : List (List ℕ)) → AllOf IsUtf8 names → (code : ℕ) → Ensures IsListedType (format.IsTypeOf names code)
unfolding format.IsTypeOf
type_behind names utf8 code = either (code == 12) (behind (a_name is_class_name names utf8) (λ c word. gives (class_type_meets c word))) (either (code == 13) (behind (an_array_reference names utf8) (λ a is. gives is)) (found (among plain_types code) (among_meets IsListedType plain_types code plain_types_are_listed)))

pub a_type : (names : List (List ℕ)) → AllOf IsUtf8 names → Ensures IsListedType (format.IsType names)
a_type names utf8 = behind (anything IsByte) (λ code k. type_behind names utf8 code)

-- ---- tables

-- what the tables hold is text, and the names of methods are names
pub record AreWell (t : Tables) : Type 0 where
  pub names : AllOf IsUtf8 t.names
  pub methods : AllOf IsMethod t.methods
  pub strings : AllOf units.IsText t.strings
