-- What the fields put one behind the other come to.
use Rattle.std.proofs.Common.{◌≡◌, ℕ, ◌⊎◌, ◌||◌, Bool, true, false, cond, List, [], ◌∷◌, ◌++◌, length, Option, Some, None, refl, sym, ap, ◌∙◌, subst, append_assoc, append-nil, true≢false, inl, inr}
use Rattle.std.specs.List.{list_any, flat_map}
use Rattle.byteorder.specs.Endian.{big_bytes}
use Rattle.sj_names.specs.declared.method_names.MethodName.{MethodName}
use Rattle.sj_trees.specs.declared.classes.ClassDef.{ClassDef}
use Rattle.sj_read_spec.specs.Tables.{Tables}
use Rattle.sj_write_spec.specs.Fields.{Fields, nothing, number_field, plain_field, name_field, method_field, string_field, file_field, both, list_fields, each}
use Rattle.sj_names.specs.declared.references.BaseRef.{BaseRef}
use Rattle.sj_names.specs.declared.references.TypeRef.{TypeRef}
use Rattle.sj_units.specs.Modified.{modified_bytes}
use Rattle.sj_write_spec.specs.References.{base_fields, reference_fields, result_fields, names_in_method, method_name_fields}
use Rattle.sj_write_spec.specs.Classes.{class_fields}
use Rattle.sj_write_spec.specs.Tables.{same_text, same_method, with_entry, with_entries, index_of, files_used, names_used, methods_used, strings_used, tables_of}
use Rattle.sj_write_spec.specs.Written.{spelled, written_class, table_bytes, counted_bytes, header_bytes, tables_bytes}
use Rattle.sj_write_spec.proofs.Entries.{Has, Extends, extends_self, extends_then, entry_extends, entry_has, entries_extend, entries_have, entries_then, entries_there, entries_came, has_either, has_extended, index_extended, index_entry}
use Rattle.sj_write_spec.proofs.WrittenFile.{method_names, has_head, has_tail}
use Rattle.sj_write_spec.proofs.Same.{text_decides, method_decides}
use Rattle.sj_write.specs.Writing.{Writing, unwritten, knowing, with_index, with_methods, all_entered, put, finished}

abbrev HasText : List (List ℕ) → List ℕ → Type 0
HasText = Has same_text text_decides

abbrev HasMethod : List MethodName → MethodName → Type 0
HasMethod = Has same_method method_decides

-- the own names of the names of methods are known
abbrev Closed : Tables → Type 0
Closed t = (m : MethodName) → HasMethod t.methods m → (x : List ℕ) → HasText (names_in_method m) x → HasText t.names x

-- the new tables go on with the old ones
record GoesOn (old new : Tables) : Type 0 where
  files : Extends old.files new.files
  names : Extends old.names new.names
  methods : Extends old.methods new.methods
  strings : Extends old.strings new.strings

goes_then : (r s t : Tables) → GoesOn r s → GoesOn s t → GoesOn r t
goes_then r s t one two = record { files = extends_then _ _ _ one.files two.files; names = extends_then _ _ _ one.names two.names; methods = extends_then _ _ _ one.methods two.methods; strings = extends_then _ _ _ one.strings two.strings }

goes_self : (t : Tables) → GoesOn t t
goes_self t = record { files = extends_self t.files; names = extends_self t.names; methods = extends_self t.methods; strings = extends_self t.strings }

-- what putting the fields behind does: the tables get what is used, and the bytes are spelled by any tables that go on
record Puts (fs : Fields) (w v : Writing) : Type 0 where
  files : v.tables.files ≡ with_entries same_text w.tables.files (files_used fs)
  names : v.tables.names ≡ with_entries same_text w.tables.names (names_used fs)
  methods : v.tables.methods ≡ with_entries same_method w.tables.methods (methods_used fs)
  strings : v.tables.strings ≡ with_entries same_text w.tables.strings (strings_used fs)
  closed : Closed v.tables
  text : (t : Tables) → GoesOn v.tables t → v.text ≡ w.text ++ spelled t fs

puts_goes : (fs : Fields) (w v : Writing) → Puts fs w v → GoesOn w.tables v.tables
puts_goes fs w v p = record {
  files = subst (λ (l : List (List ℕ)). Extends w.tables.files l) (sym p.files) (entries_extend same_text text_decides w.tables.files (files_used fs));
  names = subst (λ (l : List (List ℕ)). Extends w.tables.names l) (sym p.names) (entries_extend same_text text_decides w.tables.names (names_used fs));
  methods = subst (λ (l : List MethodName). Extends w.tables.methods l) (sym p.methods) (entries_extend same_method method_decides w.tables.methods (methods_used fs));
  strings = subst (λ (l : List (List ℕ)). Extends w.tables.strings l) (sym p.strings) (entries_extend same_text text_decides w.tables.strings (strings_used fs));
}

-- the index of what was just entered, in tables that go on
entered_index : (table new : List (List ℕ)) (x : List ℕ) → Extends (with_entry same_text table x) new → index_of same_text table x ≡ index_of same_text new x
entered_index table new x more = sym (index_entry same_text text_decides table x) ∙ sym (index_extended same_text text_decides (with_entry same_text table x) new x more (entry_has same_text text_decides table x))

method_index : (table new : List MethodName) (m : MethodName) → Extends (with_entry same_method table m) new → index_of same_method table m ≡ index_of same_method new m
method_index table new m more = sym (index_entry same_method method_decides table m) ∙ sym (index_extended same_method method_decides (with_entry same_method table m) new m more (entry_has same_method method_decides table m))

abbrev bytes_behind : Writing → ℕ → List ℕ
bytes_behind w n = w.text ++ big_bytes 4 n

closed_more : (methods : List MethodName) (names new : List (List ℕ)) → Extends names new → ((m : MethodName) → HasMethod methods m → (x : List ℕ) → HasText (names_in_method m) x → HasText names x) → (m : MethodName) → HasMethod methods m → (x : List ℕ) → HasText (names_in_method m) x → HasText new x
closed_more methods names new more c m h x g = has_extended same_text text_decides names new x more (c m h x g)

-- an entry of a table with one more
either_method : (table : List MethodName) (m n : MethodName) → HasMethod (with_entry same_method table m) n → HasMethod table n ⊎ (n ≡ m)
either_method table m n h =
    elim (entries_came same_method method_decides table (m ∷ []) n h) [
      | inl e ↦ inl e
      | inr e ↦ inr ((method_decides n m).0 (only (same_method n m) e))
    ]
  where
    only : (b : Bool) → (b || false) ≡ true → b ≡ true
    only true e = refl
    only false e = e

put_method_by : (m : MethodName) (w : Writing) (b : Bool) → list_any (same_method m) w.tables.methods ≡ b → Closed w.tables
    → Puts (method_field m) w (with_index (index_of same_method w.tables.methods m) (cond b w (all_entered (names_in_method m) (with_methods (with_entry same_method w.tables.methods m) w))))
put_method_by m w true e c =
    let there : with_entry same_method w.tables.methods m ≡ w.tables.methods = ap (λ (d : Bool). cond d w.tables.methods (w.tables.methods ++ m ∷ [])) e in
    record {
      files = refl;
      names = sym (entries_there same_text text_decides w.tables.names (names_in_method m) (λ x h. c m e x h));
      methods = sym there;
      strings = refl;
      closed = c;
      text = λ t on. ap (bytes_behind w) (method_index w.tables.methods t.methods m (subst (λ (l : List MethodName). Extends l t.methods) (sym there) on.methods));
    }
put_method_by m w false e c = record {
  files = refl;
  names = refl;
  methods = refl;
  strings = refl;
  closed = λ n h x g.
      elim (either_method w.tables.methods m n h) [
        | inl old ↦ has_extended same_text text_decides w.tables.names _ x (entries_extend same_text text_decides w.tables.names (names_in_method m)) (c n old x g)
        | inr is ↦ entries_have same_text text_decides w.tables.names (names_in_method m) x (subst (λ (k : MethodName). HasText (names_in_method k) x) is g)
      ];
  text = λ t on. ap (bytes_behind w) (method_index w.tables.methods t.methods m on.methods);
}

puts : (fs : Fields) (w : Writing) → Closed w.tables → Puts fs w (put fs w)
puts nothing w c = record { files = refl; names = refl; methods = refl; strings = refl; closed = c; text = λ t on. sym (append-nil w.text) }
puts (number_field n x) w c = record { files = refl; names = refl; methods = refl; strings = refl; closed = c; text = λ t on. refl }
puts (plain_field bytes) w c = record { files = refl; names = refl; methods = refl; strings = refl; closed = c; text = λ t on. refl }
puts (name_field x) w c = record {
  files = refl;
  names = refl;
  methods = refl;
  strings = refl;
  closed = closed_more w.tables.methods w.tables.names (with_entry same_text w.tables.names x) (entry_extends same_text text_decides w.tables.names x) c;
  text = λ t on. ap (bytes_behind w) (entered_index w.tables.names t.names x on.names);
}
puts (method_field m) w c = put_method_by m w (list_any (same_method m) w.tables.methods) refl c
puts (string_field u) w c = record {
  files = refl;
  names = refl;
  methods = refl;
  strings = refl;
  closed = c;
  text = λ t on. ap (bytes_behind w) (entered_index w.tables.strings t.strings u on.strings);
}
puts (file_field None) w c = record { files = refl; names = refl; methods = refl; strings = refl; closed = c; text = λ t on. sym (append-nil w.text) }
puts (file_field (Some text)) w c = record {
  files = refl;
  names = refl;
  methods = refl;
  strings = refl;
  closed = c;
  text = λ t on. ap (bytes_behind w) (entered_index w.tables.files t.files text on.files);
}
puts (both fs gs) w c =
    let one = puts fs w c in
    let two = puts gs (put fs w) one.closed in
    record {
      files = two.files ∙ ap (λ (l : List (List ℕ)). with_entries same_text l (files_used gs)) one.files ∙ sym (entries_then same_text text_decides w.tables.files (files_used fs) (files_used gs));
      names = two.names ∙ ap (λ (l : List (List ℕ)). with_entries same_text l (names_used gs)) one.names ∙ sym (entries_then same_text text_decides w.tables.names (names_used fs) (names_used gs));
      methods = two.methods ∙ ap (λ (l : List MethodName). with_entries same_method l (methods_used gs)) one.methods ∙ sym (entries_then same_method method_decides w.tables.methods (methods_used fs) (methods_used gs));
      strings = two.strings ∙ ap (λ (l : List (List ℕ)). with_entries same_text l (strings_used gs)) one.strings ∙ sym (entries_then same_text text_decides w.tables.strings (strings_used fs) (strings_used gs));
      closed = two.closed;
      text = λ t on.
          let first = one.text t (goes_then _ _ t (puts_goes gs (put fs w) (put gs (put fs w)) two) on) in
          two.text t on ∙ ap (λ (l : List ℕ). l ++ spelled t gs) first ∙ append_assoc w.text (spelled t fs) (spelled t gs);
    }

-- ---- the table of method names

-- fields that name nothing but names
abbrev NamesAlone : Fields → Type 0
NamesAlone nothing = Unit {0}
NamesAlone (number_field n x) = Unit {0}
NamesAlone (name_field x) = Unit {0}
NamesAlone (both fs gs) = NamesAlone fs × NamesAlone gs
NamesAlone other = ⊥

base_alone : (b : BaseRef) → NamesAlone (base_fields b)
base_alone BaseRef.Boolean = tt
base_alone BaseRef.Char = tt
base_alone BaseRef.Byte = tt
base_alone BaseRef.Short = tt
base_alone BaseRef.Int = tt
base_alone BaseRef.Long = tt
base_alone (BaseRef.Class c) = (tt, tt)

reference_alone : (r : TypeRef) → NamesAlone (reference_fields r)
reference_alone TypeRef.Void = tt
reference_alone TypeRef.Boolean = tt
reference_alone TypeRef.Char = tt
reference_alone TypeRef.Byte = tt
reference_alone TypeRef.Short = tt
reference_alone TypeRef.Int = tt
reference_alone TypeRef.Long = tt
reference_alone (TypeRef.Class c) = (tt, tt)
reference_alone (TypeRef.Array a) = (tt, (tt, base_alone a.base))

references_alone : (rs : List TypeRef) → NamesAlone (each reference_fields rs)
references_alone [] = tt
references_alone (r ∷ rs) = (reference_alone r, references_alone rs)

result_alone : (o : Option TypeRef) → NamesAlone (result_fields o)
result_alone None = tt
result_alone (Some r) = reference_alone r

method_alone : (m : MethodName) → NamesAlone (method_name_fields m)
method_alone m = (tt, ((tt, references_alone m.params), result_alone m.result))

spelled_by_names : (s t : Tables) (fs : Fields) → NamesAlone fs → s.names ≡ t.names → spelled s fs ≡ spelled t fs
spelled_by_names s t nothing alone e = refl
spelled_by_names s t (number_field n x) alone e = refl
spelled_by_names s t (plain_field bytes) alone e = refl
spelled_by_names s t (name_field x) alone e = ap (λ (l : List (List ℕ)). big_bytes 4 (index_of same_text l x)) e
spelled_by_names s t (method_field m) alone e = absurd alone
spelled_by_names s t (string_field u) alone e = absurd alone
spelled_by_names s t (file_field o) alone e = absurd alone
spelled_by_names s t (both fs gs) alone e = λ i. spelled_by_names s t fs alone.0 e i ++ spelled_by_names s t gs alone.1 e i

each_spelled : (s t : Tables) (ms : List MethodName) → s.names ≡ t.names → spelled s (each method_name_fields ms) ≡ flat_map (λ m. spelled t (method_name_fields m)) ms
each_spelled s t [] e = refl
each_spelled s t (m ∷ ms) e = λ i. spelled_by_names s t (method_name_fields m) (method_alone m) e i ++ each_spelled s t ms e i

each_known : (names : List (List ℕ)) (ms : List MethodName) → ((m : MethodName) → HasMethod ms m → (x : List ℕ) → HasText (names_in_method m) x → HasText names x) → (x : List ℕ) → HasText (names_used (each method_name_fields ms)) x → HasText names x
each_known names [] known x h = absurd (true≢false (sym h))
each_known names (m ∷ ms) known x h =
    elim (has_either same_text text_decides (names_used (method_name_fields m)) (names_used (each method_name_fields ms)) x h) [
      | inl e ↦ known m (has_head same_method method_decides m ms) x (subst (λ (l : List (List ℕ)). HasText l x) (method_names m) e)
      | inr e ↦ each_known names ms (λ n g y f. known n (has_tail same_method method_decides m n ms g) y f) x e
    ]

nothing_known : (names : List (List ℕ)) → Closed (knowing names).tables
nothing_known names m h x g = absurd (true≢false (sym h))

methods_written : (t : Tables) → Closed t → (put (list_fields method_name_fields t.methods) (knowing t.names)).text ≡ table_bytes (λ m. spelled t (method_name_fields m)) t.methods
methods_written t closed =
    let fs = list_fields method_name_fields t.methods in
    let v = put fs (knowing t.names) in
    let p = puts fs (knowing t.names) (nothing_known t.names) in
    let same : v.tables.names ≡ t.names = p.names ∙ entries_there same_text text_decides t.names (names_used fs) (each_known t.names t.methods closed) in
    p.text v.tables (goes_self v.tables) ∙ ap (λ (l : List ℕ). big_bytes 4 (length t.methods) ++ l) (each_spelled v.tables t t.methods same)

-- what is finished behind the fields of the class is the file that the class is written as
pub finished_is : (class : ClassDef) → finished [] (put (class_fields class) unwritten) ≡ written_class class
finished_is class =
    let fs = class_fields class in
    let w = put fs unwritten in
    let p = puts fs unwritten (nothing_known []) in
    let tables : w.tables ≡ tables_of fs = λ i. record { files = p.files i; names = p.names i; methods = p.methods i; strings = p.strings i } in
    let text : w.text ≡ spelled w.tables fs = p.text w.tables (goes_self w.tables) in
    let methods = methods_written w.tables p.closed in
    finished_by w.tables w.text (put (list_fields method_name_fields w.tables.methods) (knowing w.tables.names)).text fs methods text ∙ ap (λ (t : Tables). header_bytes ++ tables_bytes t ++ spelled t fs) tables
  where
    finished_by : (t : Tables) (text entries : List ℕ) (fs : Fields) → entries ≡ table_bytes (λ m. spelled t (method_name_fields m)) t.methods → text ≡ spelled t fs
        → header_bytes ++ table_bytes counted_bytes t.files ++ table_bytes counted_bytes t.names ++ entries ++ table_bytes (λ u. counted_bytes (modified_bytes u)) t.strings ++ text ≡ header_bytes ++ tables_bytes t ++ spelled t fs
    finished_by t text entries fs e f =
        let front = table_bytes counted_bytes t.files in
        let names = table_bytes counted_bytes t.names in
        let methods = table_bytes (λ m. spelled t (method_name_fields m)) t.methods in
        let strings = table_bytes (λ u. counted_bytes (modified_bytes u)) t.strings in
        (λ i. header_bytes ++ front ++ names ++ e i ++ strings ++ f i) ∙ ap (λ (l : List ℕ). l ++ spelled t fs) (together header_bytes front names methods strings)
      where
        together : (h a b c d : List ℕ) → h ++ a ++ b ++ c ++ d ≡ h ++ (a ++ b ++ c ++ d)
        together h a b c d = ap (λ (l : List ℕ). l ++ c ++ d) (append_assoc h a b) ∙ ap (λ (l : List ℕ). l ++ d) (append_assoc h (a ++ b) c) ∙ append_assoc h (a ++ b ++ c) d

pub ruleset writing = (finished_is)
