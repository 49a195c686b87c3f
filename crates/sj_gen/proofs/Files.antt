-- The generated classes are those of files, so what they are written as is read back.
use Rattle.std.proofs.Common.{◌≡◌, ℕ, zero, suc, ◌-◌, ◌<◌, ◌≤◌, ◌^◌, List, [], ◌∷◌, length, refl, sym, ap, ◌∙◌, arith, subst, Bool, true, false, ◌&&◌, Option, Some, None, slice_get, slice_index, codes, decimal, nat_lt}
use Rattle.std.specs.Prelude.{pos}
use Rattle.std.specs.List.{list_all}
use Rattle.std.proofs.lemmas.Str.{IsUtf8-from_ascii, is_utf8-from_IsUtf8}
use Rattle.std.proofs.lemmas.Bool.Decides.{nat_tests}
use Rattle.std.proofs.lemmas.Fmt.{length-decimal-le}
use Rattle.sj_names.specs.Grammar.{is_class_name, is_plain_name, is_simple_name, is_digit}
use Rattle.sj_names.specs.declared.references.TypeRef.{TypeRef}
use Rattle.sj_names.specs.declared.method_names.Namespace.{Namespace}
use Rattle.sj_units.specs.Modified.{modified_units}
use Rattle.sj_units.proofs.Exact as units
use Rattle.sj_trees.specs.Erase.{nowhere}
use Rattle.sj_trees.specs.Forms.{among}
use Rattle.sj_trees.specs.declared.types.IrType.{IrType}
use Rattle.sj_trees.specs.declared.positions.Position.{Position}
use Rattle.sj_trees.specs.declared.operators.BinaryOp.{BinaryOp}
use Rattle.sj_trees.specs.declared.classes.MethodDef.{MethodDef}
use Rattle.sj_trees.specs.declared.classes.ClassKind.{ClassKind}
use Rattle.sj_trees.specs.declared.classes.ClassDef.{ClassDef}
use Rattle.sj_read_spec.specs.Spelling.{IsEach, IsBytes}
use Rattle.sj_read_spec.specs.Tables.{IsText, IsString, IsName}
use Rattle.sj_read_spec.specs.References.{IsMethodName, IsReference, IsParameter, plain_reference}
use Rattle.sj_read_spec.specs.Codes.{kinds, member_tags}
use Rattle.sj_read_spec.specs.Types.{IsOption}
use Rattle.sj_read_spec.specs.declared.members.MemberDef.TheVariants.{Method}
use Rattle.sj_read_spec.specs.Classes.{IsBody, IsParam, IsMethod, IsMember, IsClass}
use Rattle.sj_read_spec.specs.Trees.{IsTree}
use Rattle.sj_read_spec.specs.Files.{IsMagic, IsVersion, IsTables, IsContents, FileIs}
use Rattle.sj_read_spec.specs.declared.codes.MemberTag.TheVariants as tags
use Rattle.sj_write_spec.specs.Classes.{class_fields}
use Rattle.sj_write_spec.specs.Tables.{tables_of}
use Rattle.sj_write_spec.specs.Renumbered.{renumbered_class}
use Rattle.sj_write_spec.specs.Laws.{IsOfSomeFile, IsReadBack}
use Rattle.sj_write_spec.specs.Written.{written_class}
use Rattle.sj_write_spec.proofs.WrittenFile as written
use Rattle.sj_gen.specs.Classes.{object_name, function_name, main_name, parameter_name, parameters, with_number, class_name, body_of, function_of, main_body, main_of, class_with, class_of, object_of}
use Rattle.sj_gen.proofs.Names.{numbered_class, decimal_digits}
use Rattle.sj_gen.proofs.Made.{Made, seq, gives, one_byte, number, found, tested, coded, entry, named, as_bytes, text, none_of, one_more, list_of, marked, nothing_there, something_there}
use Rattle.sj_gen.proofs.SpelledTrees.{tables_for, placed, int_type, no_type, static_there, parameter_made, int_made, empty_made, operation_made, call_made, log_made}

-- texts of ASCII
is_ascii : ℕ → Bool
is_ascii b = nat_lt b 128

is_small : (b : ℕ) → is_ascii b ≡ true → b < 128
unfolding is_ascii
is_small b h = grind (arith, nat_tests)

first_holds : (a b : Bool) → a && b ≡ true → a ≡ true
first_holds true b h = refl
first_holds false b h = cc

rest_holds : (a b : Bool) → a && b ≡ true → b ≡ true
rest_holds true b h = h
rest_holds false b h = cc

ascii_at : (t : List ℕ) → list_all is_ascii t ≡ true → (i : ℕ) → slice_index t i < 128
ascii_at [] h i = omega arith
ascii_at (b ∷ t) h zero = is_small b (first_holds (is_ascii b) (list_all is_ascii t) h)
ascii_at (b ∷ t) h (suc i) = ascii_at t (rest_holds (is_ascii b) (list_all is_ascii t) h) i

ascii_text : (t : List ℕ) → length t < 256 ^ 4 → list_all is_ascii t ≡ true → Made IsText t
ascii_text t h a = text t h (is_utf8-from_IsUtf8 t (IsUtf8-from_ascii t (ascii_at t a)))

digit_is_ascii : (b : ℕ) → is_digit b ≡ true → is_ascii b ≡ true
unfolding is_ascii
digit_is_ascii b h = grind (arith, nat_tests)

digits_are_ascii : (t : List ℕ) → list_all is_digit t ≡ true → list_all is_ascii t ≡ true
digits_are_ascii [] h = refl
digits_are_ascii (b ∷ t) h =
    let one = digit_is_ascii b (first_holds (is_digit b) (list_all is_digit t) h) in
    let more = digits_are_ascii t (rest_holds (is_digit b) (list_all is_digit t) h) in
    λ i. one i && more i

-- what is known of a name that stands in the tables
record Usable (name : List ℕ) : Type 0 where
  is_class : is_class_name name ≡ true
  is_text : Made IsText name

usable_object : Usable object_name
unfolding is_ascii
usable_object = record { is_class = refl; is_text = ascii_text object_name (omega arith) refl }

usable_class : (k : ℕ) → k ≤ 20000 → Usable (class_name k)
unfolding is_ascii
usable_class k h =
    let short : length (decimal k) ≤ 5 = length-decimal-le 5 k (omega arith) (omega arith) (omega arith) in
    record { is_class = numbered_class k (omega arith); is_text = ascii_text (class_name k) (omega arith) (digits_are_ascii (decimal k) (decimal_digits k (omega arith))) }

names_made : (own called : List ℕ) → Usable own → Usable called → Made (IsEach IsText 6) (tables_for own called).names
unfolding is_ascii
names_made own called u v = one_more IsText 5 _ _ (usable_object.is_text) (one_more IsText 4 _ _ (ascii_text (codes "f") (omega arith) refl) (one_more IsText 3 _ _ (ascii_text parameter_name (omega arith) refl) (one_more IsText 2 _ _ (ascii_text (codes "main") (omega arith) refl) (one_more IsText 1 _ _ u.is_text (one_more IsText 0 _ _ v.is_text (none_of IsText))))))

function_name_made : (own called : List ℕ) → Made (IsMethodName (tables_for own called).names) function_name
unfolding IsMethodName IsReference
function_name_made own called =
    let names = (tables_for own called).names in
    seq (codes "f") (named is_simple_name names 1 (codes "f") (omega arith) refl refl) (seq (TypeRef.Int ∷ []) (list_of (IsParameter names) 1 (TypeRef.Int ∷ []) (omega arith) (one_more (IsParameter names) 0 TypeRef.Int [] (seq 6 (one_byte 6 (omega arith)) (found (plain_reference 6) TypeRef.Int refl)) (none_of (IsParameter names)))) (seq (Some TypeRef.Int) (seq 6 (one_byte 6 (omega arith)) (seq TypeRef.Int (found (plain_reference 6) TypeRef.Int refl) (gives (Some TypeRef.Int)))) (gives function_name)))

main_name_made : (own called : List ℕ) → Made (IsMethodName (tables_for own called).names) main_name
unfolding IsMethodName
main_name_made own called =
    let names = (tables_for own called).names in
    seq (codes "main") (named is_simple_name names 3 (codes "main") (omega arith) refl refl) (seq [] (list_of (IsParameter names) 0 [] (omega arith) (none_of (IsParameter names))) (seq (Some TypeRef.Void) (seq 1 (one_byte 1 (omega arith)) (gives (Some TypeRef.Void))) (gives main_name)))

string_made : Made IsString []
string_made = seq 0 (number 4 0 (omega arith)) (seq [] (as_bytes []) (found (modified_units []) [] refl))

tables_made : (own called : List ℕ) → Usable own → Usable called → Made IsTables (tables_for own called)
unfolding IsTables is_ascii
tables_made own called u v =
    let t = tables_for own called in
    seq t.files (list_of IsText 1 t.files (omega arith) (one_more IsText 0 [] [] (ascii_text [] (omega arith) refl) (none_of IsText))) (seq t.names (list_of IsText 6 t.names (omega arith) (names_made own called u v)) (seq t.methods (list_of (IsMethodName t.names) 2 t.methods (omega arith) (one_more (IsMethodName t.names) 1 function_name (main_name ∷ []) (function_name_made own called) (one_more (IsMethodName t.names) 0 main_name [] (main_name_made own called) (none_of (IsMethodName t.names))))) (seq t.strings (list_of IsString 1 t.strings (omega arith) (one_more IsString 0 [] [] string_made (none_of IsString))) (gives t))))

-- a method behind its tag
param_made : (own called : List ℕ) → Made (IsParam (tables_for own called)) (record { name = parameter_name; mutable = false; tpe = IrType.Int })
unfolding IsParam
param_made own called =
    let names = (tables_for own called).names in
    seq parameter_name (named is_plain_name names 2 parameter_name (omega arith) refl refl) (seq false (marked false) (seq IrType.Int (int_type names) (gives (record { name = parameter_name; mutable = false; tpe = IrType.Int }))))

no_hash : Made (IsOption (IsBytes 20)) None
no_hash = nothing_there (IsBytes 20)

function_made : (own called : List ℕ) (edited : Bool) (k : ℕ) → Made (IsTree 200 (tables_for own called)) (body_of edited k) → Made (IsMethod (tables_for own called)) (function_of edited k)
unfolding IsMethod IsBody
function_made own called edited k m =
    let t = tables_for own called in
    seq nowhere placed (seq Namespace.PublicStatic static_there (seq function_name (entry t.methods 0 function_name (omega arith) refl) (seq parameters (list_of (IsParam t) 1 parameters (omega arith) (one_more (IsParam t) 0 _ [] (param_made own called) (none_of (IsParam t)))) (seq IrType.Int (int_type t.names) (seq (Some (body_of edited k)) (something_there (IsTree 200 t) (body_of edited k) m) (seq None no_hash (gives (function_of edited k))))))))

main_made : (own called : List ℕ) (n : ℕ) → Made (IsTree 200 (tables_for own called)) (main_body n) → Made (IsMethod (tables_for own called)) (main_of n)
unfolding IsMethod IsBody
main_made own called n m =
    let t = tables_for own called in
    seq nowhere placed (seq Namespace.PublicStatic static_there (seq main_name (entry t.methods 1 main_name (omega arith) refl) (seq [] (list_of (IsParam t) 0 [] (omega arith) (none_of (IsParam t))) (seq IrType.NoType (no_type t.names) (seq (Some (main_body n)) (something_there (IsTree 200 t) (main_body n) m) (seq None no_hash (gives (main_of n))))))))

-- a class with one method
super_made : (own called : List ℕ) → Made (IsOption (IsName is_class_name (tables_for own called).names)) (Some object_name)
super_made own called = something_there (IsName is_class_name (tables_for own called).names) object_name (named is_class_name (tables_for own called).names 0 object_name (omega arith) refl refl)

class_made : (own called : List ℕ) (super : Option (List ℕ)) (method : MethodDef) → is_class_name own ≡ true → Made (IsOption (IsName is_class_name (tables_for own called).names)) super → Made (IsMethod (tables_for own called)) method → Made (IsClass (tables_for own called)) (class_with own super method)
unfolding IsClass IsMember
class_made own called super method g s m =
    let t = tables_for own called in
    let member : Made (IsMember t) (Method method) = seq tags.Method (coded (among member_tags) 2 tags.Method (omega arith) refl) (seq method m (gives (Method method))) in
    seq nowhere placed (seq own (named is_class_name t.names 4 own (omega arith) refl g) (seq ClassKind.Class (coded (among kinds) 1 ClassKind.Class (omega arith) refl) (seq super s (seq [] (list_of (IsName is_class_name t.names) 0 [] (omega arith) (none_of (IsName is_class_name t.names))) (seq (Method method ∷ []) (list_of (IsMember t) 1 (Method method ∷ []) (omega arith) (one_more (IsMember t) 0 (Method method) [] member (none_of (IsMember t)))) (gives (class_with own super method)))))))

magic_made : Made IsMagic 0xCAFE4A53
magic_made = seq 0xCAFE4A53 (number 4 0xCAFE4A53 (omega arith)) (tested true 0xCAFE4A53 refl)

version_made : Made IsVersion (codes "1.0-i1")
version_made = seq (codes "1.0-i1") (seq 6 (number 2 6 (omega arith)) (as_bytes (codes "1.0-i1"))) (tested true (codes "1.0-i1") refl)

file_made : (own called : List ℕ) (class : ClassDef) → Usable own → Usable called → Made (IsClass (tables_for own called)) class → IsOfSomeFile class
unfolding FileIs IsContents
file_made own called class u v m =
    let whole : Made IsContents class = seq 0xCAFE4A53 magic_made (seq (codes "1.0-i1") version_made (seq (tables_for own called) (tables_made own called u v) m)) in
    record { file = whole.text; is_file = whole.spelled }

-- what such a class is written as is read back as itself
found_first : (n : ℕ) → slice_get {X = List ℕ} ([] ∷ []) n ≡ Some [] → n ≡ 0
found_first zero e = refl
found_first (suc n) e = cc

first_field : (f : ℕ → ℕ) (class : ClassDef) → class.pos ≡ nowhere → class.files ≡ [] ∷ [] → class_fields (renumbered_class f ([] ∷ []) class) ≡ class_fields class → f 0 ≡ 0
first_field f class p q e =
    let same : slice_get {X = List ℕ} ([] ∷ []) (f class.pos.file) ≡ slice_get class.files class.pos.file = cc in
    found_first (f 0) (ap (λ (x : Position). slice_get {X = List ℕ} ([] ∷ []) (f x.file)) (sym p) ∙ same ∙ (λ i. slice_get (q i) ((p i).file)))

read_back : (class : ClassDef) → IsOfSomeFile class → class.pos ≡ nowhere → class.files ≡ [] ∷ [] → (tables_of (class_fields class)).files ≡ [] ∷ [] → ((f : ℕ → ℕ) → f 0 ≡ 0 → renumbered_class f ([] ∷ []) class ≡ class) → FileIs (written_class class) class
read_back class some p q files same =
    let back : IsReadBack class = written.read_back units.reads_what_is_written class some in
    let Fields : List (List ℕ) → Type 0 = λ (t : List (List ℕ)). class_fields (renumbered_class back.number t class) ≡ class_fields class in
    let zero_is = first_field back.number class p q (subst Fields files back.same_fields) in
    let Is : ClassDef → Type 0 = λ (c : ClassDef). FileIs (written_class class) c in
    subst Is (ap (λ (t : List (List ℕ)). renumbered_class back.number t class) files ∙ same back.number zero_is) back.is_file

-- the bodies
plus_made : (d : ℕ) (own called : List ℕ) (k : ℕ) → k < 2 ^ 31 → Made (IsTree (suc (suc d)) (tables_for own called)) (with_number BinaryOp.IntAdd (pos k))
plus_made d own called k h = operation_made (suc d) own called 8 BinaryOp.IntAdd _ _ (omega arith) refl (parameter_made d own called) (int_made d own called k h)

twice_made : (d : ℕ) (own called : List ℕ) → Made (IsTree (suc (suc d)) (tables_for own called)) (with_number BinaryOp.IntMultiply (pos 2))
twice_made d own called = operation_made (suc d) own called 10 BinaryOp.IntMultiply _ _ (omega arith) refl (parameter_made d own called) (int_made d own called 2 (omega arith))

-- the classes
class_of_file : (edited : Bool) (k : ℕ) → k ≤ 20000 → IsOfSomeFile (class_of edited k)
class_of_file false zero h =
    let own = usable_class 0 h in
    file_made (class_name 0) (class_name 0) (class_of false 0) own own (class_made (class_name 0) (class_name 0) (Some object_name) (function_of false 0) own.is_class (super_made (class_name 0) (class_name 0)) (function_made (class_name 0) (class_name 0) false 0 (parameter_made 199 (class_name 0) (class_name 0))))
class_of_file true zero h =
    let own = usable_class 0 h in
    file_made (class_name 0) (class_name 0) (class_of true 0) own own (class_made (class_name 0) (class_name 0) (Some object_name) (function_of true 0) own.is_class (super_made (class_name 0) (class_name 0)) (function_made (class_name 0) (class_name 0) true 0 (twice_made 198 (class_name 0) (class_name 0))))
class_of_file false (suc k) h =
    let own = usable_class (suc k) h in
    let called = usable_class k (omega arith) in
    file_made (class_name (suc k)) (class_name k) (class_of false (suc k)) own called (class_made (class_name (suc k)) (class_name k) (Some object_name) (function_of false (suc k)) own.is_class (super_made (class_name (suc k)) (class_name k)) (function_made (class_name (suc k)) (class_name k) false (suc k) (call_made 199 (class_name (suc k)) (class_name k) _ called.is_class (plus_made 197 (class_name (suc k)) (class_name k) (suc k) (omega arith)))))
class_of_file true (suc k) h =
    let own = usable_class (suc k) h in
    let called = usable_class k (omega arith) in
    file_made (class_name (suc k)) (class_name k) (class_of true (suc k)) own called (class_made (class_name (suc k)) (class_name k) (Some object_name) (function_of true (suc k)) own.is_class (super_made (class_name (suc k)) (class_name k)) (function_made (class_name (suc k)) (class_name k) true (suc k) (call_made 199 (class_name (suc k)) (class_name k) _ called.is_class (plus_made 197 (class_name (suc k)) (class_name k) (suc k) (omega arith)))))

object_of_file : (n : ℕ) → n ≤ 20000 → IsOfSomeFile (object_of n)
object_of_file n h =
    let called = usable_class (n - 1) (omega arith) in
    let own = object_name in
    let name = class_name (n - 1) in
    file_made own name (object_of n) usable_object called (class_made own name None (main_of n) refl (nothing_there (IsName is_class_name (tables_for own name).names)) (main_made own name n (log_made 199 own name _ (operation_made 198 own name 3 BinaryOp.StringConcatenate _ _ (omega arith) refl (empty_made 197 own name) (call_made 197 own name _ called.is_class (int_made 196 own name 0 (omega arith)))))))

renumbered_to : (class : ClassDef) (f : ℕ → ℕ) → f 0 ≡ 0 → renumbered_class (λ n. f 0) ([] ∷ []) class ≡ renumbered_class (λ n. 0) ([] ∷ []) class
renumbered_to class f e = ap (λ (n : ℕ). renumbered_class (λ m. n) ([] ∷ []) class) e

pub class_back : (edited : Bool) (k : ℕ) → k ≤ 20000 → FileIs (written_class (class_of edited k)) (class_of edited k)
class_back false zero h = read_back (class_of false 0) (class_of_file false 0 h) refl refl refl (λ f e. renumbered_to (class_of false 0) f e)
class_back true zero h = read_back (class_of true 0) (class_of_file true 0 h) refl refl refl (λ f e. renumbered_to (class_of true 0) f e)
class_back false (suc k) h = read_back (class_of false (suc k)) (class_of_file false (suc k) h) refl refl refl (λ f e. renumbered_to (class_of false (suc k)) f e)
class_back true (suc k) h = read_back (class_of true (suc k)) (class_of_file true (suc k) h) refl refl refl (λ f e. renumbered_to (class_of true (suc k)) f e)

pub object_back : (n : ℕ) → n ≤ 20000 → FileIs (written_class (object_of n)) (object_of n)
object_back n h = read_back (object_of n) (object_of_file n h) refl refl refl (λ f e. renumbered_to (object_of n) f e)
