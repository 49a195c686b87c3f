-- A value that suits a type suits each type for which that one may stand.
use Rattle.std.proofs.Common.{◌≡◌, ℕ, Bool, true, false, List, refl, ap, sym, ◌∙◌, subst, if◌then◌else◌}
use Rattle.std.specs.Prelude.{not, ◌||◌, codes, nat_eq}
use Rattle.std.specs.Cmp.Lexicographic.{pointwise}
use Rattle.ir_mean.specs.States as ir
use Rattle.agree_body_rules.specs.Coercions.{is_char}
use Rattle.sj_names.proofs.Same.{impossible, text-same}
use Rattle.sj_names.specs.declared.references.ArrayRef.{ArrayRef}
use Rattle.sj_trees.specs.Types.{class_type}
use Rattle.sj_trees.specs.declared.types.IrType.{IrType}
use Rattle.sj_trees.specs.declared.types.IrType.TheVariants.{Any, Nothing, Undefined, Boolean, Char, Byte, Short, Int, Long, String, Class, Null, Array, NoType}
use Rattle.agree_plain_trees.specs.Standing.{suits}
use Rattle.agree_body_rules.specs.Standing.{is_bare, is_array_type, is_joined, Fits}
use Rattle.ir_mean.specs.Known.{is_hijacked}

not-true : (b : Bool) → not b ≡ true → b ≡ false
not-true true h = impossible h
not-true false h = refl

-- a class that isn't hijacked isn't that of texts, and objects stand at its type
pub class-open : (c : List ℕ) → is_hijacked c ≡ false → is_bare (Class c) ≡ false
class-open c free = go (is_bare (Class c)) refl
  where
    go : (b : Bool) → is_bare (Class c) ≡ b → is_bare (Class c) ≡ false
    go false e = e
    go true e = impossible (sym free ∙ subst (λ (n : List ℕ). is_hijacked n ≡ true) (sym (text-same c (codes "java.lang.String") e)) refl)

pub type-open : (c : List ℕ) → is_hijacked c ≡ false → is_bare (class_type c) ≡ false
type-open c free = go (pointwise nat_eq c (codes "java.lang.Object"))
  where
    go : (b : Bool) → is_bare (if b then Any else Class c) ≡ false
    go true = refl
    go false = class-open c free

-- a reference that suits a type isn't of a bare one, but for those of arrays
not_bare : (t : IrType) (i : ℕ) → is_array_type t ≡ false → suits t (ir.reference i) ≡ true → is_bare t ≡ false
not_bare (Array r) i n h = impossible (sym n)
not_bare Any i n h = refl
not_bare (Class c) i n h = not-true (is_bare (Class c)) h
not_bare Null i n h = impossible h
not_bare NoType i n h = impossible h
not_bare Nothing i n h = impossible h
not_bare Undefined i n h = impossible h
not_bare Boolean i n h = impossible h
not_bare Char i n h = impossible h
not_bare Byte i n h = impossible h
not_bare Short i n h = impossible h
not_bare Int i n h = impossible h
not_bare Long i n h = impossible h
not_bare String i n h = impossible h

either_way : (a b : Bool) → (a || b) ≡ true → b ≡ false → a ≡ true
either_way true b h k = refl
either_way false b h k = impossible (sym k ∙ h)

-- where the second stands for the first, and objects stand at the second, they do at the first
open-fits : (expected own : IrType) → Fits expected own → is_bare own ≡ false → not (is_bare expected) ≡ true
open-fits Any own f b = refl
open-fits (Class c) Any f b = either_way (not (is_bare (Class c))) false f refl
open-fits (Class c) (Class d) f b = either_way (not (is_bare (Class c))) (is_bare (Class d)) f b
open-fits expected (Array r) f b = impossible (sym b)
open-fits expected Null f b = impossible (sym b)
open-fits expected NoType f b = impossible (sym b)
open-fits expected Nothing f b = impossible (sym b)
open-fits expected Undefined f b = impossible (sym b)
open-fits expected Boolean f b = impossible (sym b)
open-fits expected Char f b = impossible (sym b)
open-fits expected Byte f b = impossible (sym b)
open-fits expected Short f b = impossible (sym b)
open-fits expected Int f b = impossible (sym b)
open-fits expected Long f b = impossible (sym b)
open-fits expected String f b = impossible (sym b)
open-fits NoType (Class d) f b = impossible (sym b ∙ f)
open-fits expected own f b = impossible f

-- a char suits each type at which objects stand
pub suits_open : (t : IrType) (u : ℕ) → not (is_bare t) ≡ true → suits t (ir.char u) ≡ true
suits_open Any u h = refl
suits_open (Class c) u h = h
suits_open (Array r) u h = impossible h
suits_open Char u h = refl
suits_open Null u h = impossible h
suits_open NoType u h = impossible h
suits_open Nothing u h = impossible h
suits_open Undefined u h = impossible h
suits_open Boolean u h = impossible h
suits_open Byte u h = impossible h
suits_open Short u h = impossible h
suits_open Int u h = impossible h
suits_open Long u h = impossible h
suits_open String u h = impossible h

refers_open : (t : IrType) (i : ℕ) → not (is_bare t) ≡ true → suits t (ir.reference i) ≡ true
refers_open Any i h = refl
refers_open (Class c) i h = h
refers_open (Array r) i h = refl
refers_open Char i h = impossible h
refers_open Null i h = impossible h
refers_open NoType i h = impossible h
refers_open Nothing i h = impossible h
refers_open Undefined i h = impossible h
refers_open Boolean i h = impossible h
refers_open Byte i h = impossible h
refers_open Short i h = impossible h
refers_open Int i h = impossible h
refers_open Long i h = impossible h
refers_open String i h = impossible h

char-suits : (expected own : IrType) (u : ℕ) → Fits expected own → suits own (ir.char u) ≡ true → suits expected (ir.char u) ≡ true
char-suits Char Char u f h = refl
char-suits expected Char u f h = impossible f
char-suits expected Any u f h = suits_open expected u (open-fits expected Any f refl)
char-suits expected (Class d) u f h = suits_open expected u (open-fits expected (Class d) f (not-true (is_bare (Class d)) h))
char-suits expected own u f h = impossible h

-- null suits each type of arrays
null-suits : (r : ArrayRef) (v : ir.Value) → suits Null v ≡ true → suits (Array r) v ≡ true
null-suits r ir.null h = refl
null-suits r _ h = impossible h

array-suits : (r q : ArrayRef) (v : ir.Value) → suits (Array q) v ≡ true → suits (Array r) v ≡ true
array-suits r q ir.null h = refl
array-suits r q (ir.reference i) h = refl
array-suits r q _ h = impossible h

-- a reference suits each type for which the one that it suits may stand
array-open : (expected : IrType) (q : ArrayRef) (i : ℕ) → Fits expected (Array q) → suits expected (ir.reference i) ≡ true
array-open (Array r) q i f = refl
array-open expected q i f = refers_open expected i f

refers-suit : (expected own : IrType) (i : ℕ) → Fits expected own → suits own (ir.reference i) ≡ true → (b : Bool) → is_array_type own ≡ b → suits expected (ir.reference i) ≡ true
refers-suit expected (Array q) i f h true n = array-open expected q i f
refers-suit expected own i f h true n = impossible n
refers-suit expected own i f h false n = refers_open expected i (open-fits expected own f (not_bare own i n h))

pub fits-suits : (expected own : IrType) (v : ir.Value) → Fits expected own → suits own v ≡ true → suits expected v ≡ true
fits-suits expected Nothing v f h = impossible h
fits-suits expected own (ir.char u) f h = char-suits expected own u f h
fits-suits expected own (ir.reference i) f h = refers-suit expected own i f h (is_array_type own) refl
fits-suits Nothing own v f h = impossible f
fits-suits Undefined Undefined v f h = h
fits-suits Undefined own v f h = impossible f
fits-suits Boolean Boolean v f h = h
fits-suits Boolean own v f h = impossible f
fits-suits Char Char v f h = h
fits-suits Char own v f h = impossible f
fits-suits Byte Byte v f h = h
fits-suits Byte own v f h = impossible f
fits-suits Short Short v f h = h
fits-suits Short own v f h = impossible f
fits-suits Int Int v f h = h
fits-suits Int own v f h = impossible f
fits-suits Long Long v f h = h
fits-suits Long own v f h = impossible f
fits-suits String String v f h = h
fits-suits String own v f h = impossible f
fits-suits Any Char v f h = impossible f
fits-suits Any own v f h = refl
fits-suits (Class c) Char v f h = impossible f
fits-suits (Class c) own v f h = refl
fits-suits Null Null v f h = h
fits-suits Null own v f h = impossible f
fits-suits (Array r) Null v f h = null-suits r v h
fits-suits (Array r) (Array q) v f h = array-suits r q v h
fits-suits (Array r) own v f h = impossible f
fits-suits NoType Char v f h = impossible f
fits-suits NoType own v f h = refl

-- what refers to no array stands at no type of arrays
pub no-array : (expected own : IrType) (i : ℕ) → Fits expected own → is_array_type own ≡ false → suits own (ir.reference i) ≡ true → is_array_type expected ≡ false
no-array (Array r) Null i f n h = impossible h
no-array (Array r) Nothing i f n h = impossible h
no-array (Array r) (Array q) i f n h = impossible (sym n)
no-array (Array r) own i f n h = impossible f
no-array _ own i f n h = refl

-- no reference suits a type at which no object stands
pub joined-refers : (t : IrType) (i : ℕ) → is_joined t ≡ true → suits t (ir.reference i) ≡ false
joined-refers Any i b = impossible b
joined-refers (Class c) i b = ap not b
joined-refers (Array r) i b = impossible b
joined-refers Null i b = refl
joined-refers NoType i b = refl
joined-refers Nothing i b = refl
joined-refers Undefined i b = refl
joined-refers Boolean i b = refl
joined-refers Char i b = refl
joined-refers Byte i b = refl
joined-refers Short i b = refl
joined-refers Int i b = refl
joined-refers Long i b = refl
joined-refers String i b = refl

-- and one suits any other
pub open-refers : (t : IrType) (i : ℕ) → is_bare t ≡ false → suits t (ir.reference i) ≡ true
open-refers Any i b = refl
open-refers (Class c) i b = ap not b
open-refers (Array r) i b = refl
open-refers Null i b = impossible (sym b)
open-refers NoType i b = impossible (sym b)
open-refers Nothing i b = impossible (sym b)
open-refers Undefined i b = impossible (sym b)
open-refers Boolean i b = impossible (sym b)
open-refers Char i b = impossible (sym b)
open-refers Byte i b = impossible (sym b)
open-refers Short i b = impossible (sym b)
open-refers Int i b = impossible (sym b)
open-refers Long i b = impossible (sym b)
open-refers String i b = impossible (sym b)

pub joined-bare : (t : IrType) → is_joined t ≡ true → is_bare t ≡ true
joined-bare (Array r) h = impossible h
joined-bare Any h = impossible h
joined-bare (Class c) h = h
joined-bare _ h = refl

-- no char suits a bare type but that of chars
pub bare-chars : (t : IrType) (u : ℕ) → is_bare t ≡ true → is_char t ≡ false → suits t (ir.char u) ≡ false
bare-chars (Class c) u b n = ap not b
bare-chars Any u b n = impossible b
bare-chars Char u b n = impossible (sym n)
bare-chars _ u b n = refl

-- a value is raw where the one type is expected as it is where the other is
pub fits-raw : (expected own : IrType) (v : ir.Value) → Fits expected own → suits own v ≡ true → is_char own ≡ is_char expected
fits-raw Char Char v f h = refl
fits-raw expected Char v f h = impossible f
fits-raw expected Nothing v f h = impossible h
fits-raw Char own v f h = impossible f
fits-raw expected own v f h = refl
