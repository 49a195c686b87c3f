-- Fields that one file spells are spelled again over other tables.
use Rattle.std.proofs.Common.{◌≡◌, ℕ, ◌<◌, ◌^◌, Bool, true, false, List, [], ◌∷◌, length, slice_get, Option, Some, None, refl, sym, ap, ◌∙◌, subst, append-nil, lt_trans, arith}
use Rattle.byteorder.specs.Endian.{big_bytes}
use Rattle.sj_names.specs.declared.method_names.MethodName.{MethodName}
use Rattle.exact_place.specs.Grammar.{Spelling, ◌then◌, IsValue}
use Rattle.sj_read_spec.specs.Spelling.{Found, Tested, IsByte, IsNumber}
use Rattle.sj_read_spec.specs.Tables.{Tables, IsEntry, IsName}
use Rattle.sj_read_spec.specs.Types.{IsCode}
use Rattle.sj_write_spec.specs.Fields.{Fields, nothing, number_field, plain_field, name_field, method_field, string_field, file_field, both, ◌▸◌, byte}
use Rattle.sj_write_spec.specs.References.{names_in_method}
use Rattle.sj_write_spec.specs.Tables.{same_text, same_method, index_of}
use Rattle.sj_write_spec.specs.Written.{spelled}
use Rattle.sj_write_spec.proofs.Bytes.{number_spelled}
use Rattle.sj_write_spec.proofs.Same.{text_decides, method_decides}
use Rattle.sj_write_spec.proofs.Entries.{Has, found, below, has_at}

-- the text is in the table, and the name of a method is
abbrev pub HasText : List (List ℕ) → List ℕ → Type 0
HasText = Has same_text text_decides

abbrev pub HasMethod : List MethodName → MethodName → Type 0
HasMethod = Has same_method method_decides

-- each entry that the fields use is in the tables, and each number fits its bytes
abbrev pub Covers : Tables → Fields → Type 0
Covers tables nothing = Unit {0}
Covers tables (number_field n x) = x < 256 ^ n
Covers tables (plain_field bytes) = Unit {0}
Covers tables (name_field x) = HasText tables.names x
Covers tables (method_field m) = HasMethod tables.methods m × ((x : List ℕ) → HasText (names_in_method m) x → HasText tables.names x)
Covers tables (string_field u) = HasText tables.strings u
Covers tables (file_field None) = ⊥
Covers tables (file_field (Some text)) = HasText tables.files text
Covers tables (both fs gs) = Covers tables fs × Covers tables gs

-- four bytes count the entries of each table
pub record IsFit (tables : Tables) : Type 0 where
  pub files : length tables.files < 256 ^ 4
  pub names : length tables.names < 256 ^ 4
  pub methods : length tables.methods < 256 ^ 4
  pub strings : length tables.strings < 256 ^ 4

-- the old tables cover the fields, and where new ones do, their bytes meet the goal
pub record Carried (old : Tables) (Goal : Tables → List ℕ → Type 0) (moved : Tables → Fields) (fields : Fields) : Type 0 where
  pub inside : Covers old fields
  pub same : (new : Tables) → Covers new fields → moved new ≡ fields
  pub again : (new : Tables) → IsFit new → Covers new fields → Goal new (spelled new fields)

pub join : {A B : Type 0} {old : Tables} {P : Tables → Spelling A} {Q : Tables → A → Spelling B} {y : Tables → B} {fs' gs' : Tables → Fields} {fs gs : Fields} (x : Tables → A)
    → Carried old (λ new text. P new (x new) text) fs' fs → Carried old (λ new text. Q new (x new) (y new) text) gs' gs
    → Carried old (λ new text. (P new then Q new) (y new) text) (λ new. fs' new ▸ gs' new) (fs ▸ gs)
join {fs = fs} {gs = gs} x one two = record {
  inside = (one.inside, two.inside);
  same = λ new cover. λ i. one.same new cover.0 i ▸ two.same new cover.1 i;
  again = λ new fit cover. record { value = x new; front = spelled new fs; back = spelled new gs; first = one.again new fit cover.0; second = two.again new fit cover.1; parts = refl };
}

-- the last part of a value
pub last : {A B : Type 0} {old : Tables} {P : Tables → Spelling A} {v : Tables → A → B} {fs' : Tables → Fields} {fs : Fields} (x : Tables → A)
    → Carried old (λ new text. P new (x new) text) fs' fs
    → Carried old (λ new text. (P new then (λ z. IsValue (v new z))) (v new (x new)) text) fs' fs
last {fs = fs} x one = record {
  inside = one.inside;
  same = one.same;
  again = λ new fit cover. record { value = x new; front = spelled new fs; back = []; first = one.again new fit cover; second = record { same = refl; empty = refl }; parts = sym (append-nil (spelled new fs)) };
}

-- a part behind which no bytes are left
pub last_of : {A B : Type 0} {old : Tables} {P : Tables → Spelling A} {Q : Tables → A → Spelling B} {y : Tables → B} {fs' : Tables → Fields} {fs : Fields} (x : Tables → A)
    → Carried old (λ new text. P new (x new) text) fs' fs → ((new : Tables) → Q new (x new) (y new) [])
    → Carried old (λ new text. (P new then Q new) (y new) text) fs' fs
last_of {fs = fs} x one rest = record {
  inside = one.inside;
  same = one.same;
  again = λ new fit cover. record { value = x new; front = spelled new fs; back = []; first = one.again new fit cover; second = rest new; parts = sym (append-nil (spelled new fs)) };
}

-- a value by no bytes
pub value : {B : Type 0} {old : Tables} {y : Tables → B} → Carried old (λ new text. IsValue (y new) (y new) text) (λ new. nothing) nothing
value = record { inside = tt; same = λ new cover. refl; again = λ new fit cover. record { same = refl; empty = refl } }

pub carried_number : {old : Tables} (n x : ℕ) → x < 256 ^ n → Carried old (λ new text. IsNumber n x text) (λ new. number_field n x) (number_field n x)
carried_number n x h = record { inside = h; same = λ new cover. refl; again = λ new fit cover. number_spelled n x h }

-- the byte of a number
one_byte : (code : ℕ) → code < 256 → big_bytes 1 code ≡ code ∷ []
one_byte code h = ap (λ (b : ℕ). b ∷ []) (rw-byte code h)
  where
    rw-byte : (code : ℕ) → code < 256 → Rattle.std.specs.Int.byte_at 0 code ≡ code
    rw-byte code h = omega arith

-- one byte
pub carried_byte : (code : ℕ) → code < 256 → IsByte code (big_bytes 1 code)
carried_byte code h = record { byte = one_byte code h; small = h }

pub byte_carried : {old : Tables} (code : ℕ) → code < 256 → Carried old (λ new text. IsByte code text) (λ new. byte code) (byte code)
byte_carried code h = record { inside = omega arith; same = λ new cover. refl; again = λ new fit cover. carried_byte code h }

pub carried_code : {A : Type 0} {old : Tables} (meaning : ℕ → Option A) (code : ℕ) (x : A) → code < 256 → meaning code ≡ Some x → Carried old (λ new text. IsCode meaning x text) (λ new. byte code) (byte code)
carried_code meaning code x h e = record {
  inside = omega arith;
  same = λ new cover. refl;
  again = λ new fit cover. record { value = code; front = big_bytes 1 code; back = []; first = carried_byte code h; second = subst (λ o. Found o x []) (sym e) (record { same = refl; empty = refl }); parts = sym (append-nil (big_bytes 1 code)) };
}

pub found_is : {A : Type 0} (o : Option A) (x : A) (text : List ℕ) → Found o x text → o ≡ Some x
found_is (Some v) x text h = ap Some (sym h.same)
found_is None x text h = absurd h.never

pub tested_is : {A : Type 0} (b : Bool) (v x : A) (text : List ℕ) → Tested b v x text → (b ≡ true) × (x ≡ v)
tested_is true v x text h = (refl, h.same)
tested_is false v x text h = absurd h.never

pub entry_spelled : {A : Type 0} (table : List A) (n : ℕ) (x : A) → slice_get table n ≡ Some x → n < 256 ^ 4 → IsEntry table x (big_bytes 4 n)
entry_spelled table n x e h = record { value = n; front = big_bytes 4 n; back = []; first = number_spelled 4 n h; second = subst (λ o. Found o x []) (sym e) (record { same = refl; empty = refl }); parts = sym (append-nil (big_bytes 4 n)) }

text_entry : (table : List (List ℕ)) (x : List ℕ) → HasText table x → length table < 256 ^ 4 → IsEntry table x (big_bytes 4 (index_of same_text table x))
text_entry table x h few = entry_spelled table (index_of same_text table x) x (found same_text text_decides table x h) (lt_trans (below same_text text_decides table x h) few)

-- a name of the old table, by its index in the new one
pub carried_name : (grammar : List ℕ → Bool) (old : Tables) (x text : List ℕ) → IsName grammar old.names x text → Carried old (λ new text. IsName grammar new.names x text) (λ new. name_field x) (name_field x)
carried_name grammar old x text h =
    let entry = h.first in
    let at = found_is (slice_get old.names entry.value) h.value entry.back entry.second in
    let test = tested_is (grammar h.value) h.value x h.back h.second in
    let here : slice_get old.names entry.value ≡ Some x = at ∙ ap Some (sym test.1) in
    let good : grammar x ≡ true = ap grammar test.1 ∙ test.0 in
    record {
      inside = has_at same_text text_decides old.names entry.value x here;
      same = λ new cover. refl;
      again = λ new fit cover. record { value = x; front = big_bytes 4 (index_of same_text new.names x); back = []; first = text_entry new.names x cover fit.names; second = subst (λ b. Tested b x x []) (sym good) (record { same = refl; empty = refl }); parts = sym (append-nil (big_bytes 4 (index_of same_text new.names x))) };
    }

-- a string of the old table
pub carried_string : (old : Tables) (u text : List ℕ) → IsEntry old.strings u text → Carried old (λ new text. IsEntry new.strings u text) (λ new. string_field u) (string_field u)
carried_string old u text h = record {
  inside = has_at same_text text_decides old.strings h.value u (found_is (slice_get old.strings h.value) u h.back h.second);
  same = λ new cover. refl;
  again = λ new fit cover. text_entry new.strings u cover fit.strings;
}

-- the name of a method of the old table, whose own names are names of the old table
pub carried_method : (old : Tables) (m : MethodName) (text : List ℕ) → ((m : MethodName) → HasMethod old.methods m → (x : List ℕ) → HasText (names_in_method m) x → HasText old.names x) → IsEntry old.methods m text
    → Carried old (λ new text. IsEntry new.methods m text) (λ new. method_field m) (method_field m)
carried_method old m text names h =
    let has = has_at same_method method_decides old.methods h.value m (found_is (slice_get old.methods h.value) m h.back h.second) in
    record {
      inside = (has, names m has);
      same = λ new cover. refl;
      again = λ new fit cover. entry_spelled new.methods (index_of same_method new.methods m) m (found same_method method_decides new.methods m cover.0) (lt_trans (below same_method method_decides new.methods m cover.0) fit.methods);
    }
