-- What a class of a file is written as is a file again.
use Rattle.std.proofs.Common.{◌≡◌, ℕ, zero, suc, ◌<◌, ◌≤◌, ◌^◌, ◌||◌, Bool, true, false, List, [], ◌∷◌, ◌++◌, length, Option, Some, None, refl, sym, ap, ◌∙◌, subst, inl, inr, append_assoc, append-nil, true≢false, lt_of_le_of_lt, arith}
use Rattle.std.specs.Prelude.{codes}
use Rattle.std.specs.Cmp.{IsEquivalence}
use Rattle.std.specs.Bool.{Decides}
use Rattle.std.specs.List.{flat_map, IsDistinct}
use Rattle.std.specs.Str.{is_utf8}
use Rattle.std.proofs.lemmas.Map.Made.{length-le_from_is_member}
use Rattle.byteorder.specs.Endian.{big_bytes}
use Rattle.sj_names.specs.declared.references.BaseRef.{BaseRef}
use Rattle.sj_names.specs.declared.references.TypeRef.{TypeRef}
use Rattle.sj_names.specs.declared.method_names.MethodName.{MethodName}
use Rattle.sj_units.specs.Modified.{modified_units, modified_bytes, ReadsWhatIsWritten}
use Rattle.sj_trees.specs.declared.classes.ClassDef.{ClassDef}
use Rattle.exact_place.specs.Grammar.{Spelling, ◌then◌}
use Rattle.sj_read_spec.specs.Spelling.{Found, Tested, IsEach, IsCounted}
use Rattle.sj_read_spec.specs.Tables.{Tables, IsText, IsString}
use Rattle.sj_read_spec.specs.References.{IsMethodName}
use Rattle.sj_read_spec.specs.Classes.{IsClass}
use Rattle.sj_read_spec.specs.Files.{IsMagic, IsVersion, IsTables, IsContents, FileIs}
use Rattle.sj_write_spec.specs.Fields.{Fields, HasFiles, nothing, number_field, plain_field, name_field, method_field, string_field, file_field, both, each}
use Rattle.sj_write_spec.specs.References.{base_fields, reference_fields, result_fields, method_name_fields, names_in_base, names_in_reference, names_in_result, names_in_method}
use Rattle.sj_write_spec.specs.Classes.{class_fields, NamesItsFiles}
use Rattle.sj_write_spec.specs.Renumbered.{renumbered_class}
use Rattle.sj_write_spec.specs.Tables.{same_text, same_method, each_once, files_used, names_used, methods_used, strings_used, tables_of}
use Rattle.sj_write_spec.specs.Written.{spelled, counted_bytes, table_bytes, tables_bytes, header_bytes}
use Rattle.sj_write_spec.specs.Laws.{IsOfSomeFile, IsReadBack, IsTableOf, AreTablesOf, EntriesAreCompared}
use Rattle.sj_write_spec.proofs.Bytes.{step, number_spelled}
use Rattle.sj_write_spec.proofs.Entries.{Has, has_front, has_back, has_either, has_one, entries_extend, entries_have, entries_came, entries_then, entries_distinct}
use Rattle.sj_write_spec.proofs.Same.{text_decides, method_decides}
use Rattle.sj_write_spec.proofs.Carry.{Carried, IsFit, Covers, HasText, HasMethod, found_is, tested_is}
use Rattle.sj_write_spec.proofs.CarryNames.{carried_method_name}
use Rattle.sj_write_spec.proofs.CarryTrees.{number, Known}
use Rattle.sj_write_spec.proofs.CarryClasses.{ClassCarried, carried_class}

-- ---- what the entries of a table are

module _ {A : Type 0} (same : A → A → Bool) (decides : (x y : A) → Decides (same x y) (x ≡ y)) where
  pub has_head : (x : A) (xs : List A) → Has same decides (x ∷ xs) x
  has_head x xs = has_front same decides (x ∷ []) xs x (has_one same decides x)

  pub has_tail : (x y : A) (xs : List A) → Has same decides xs y → Has same decides (x ∷ xs) y
  has_tail x y xs h = has_back same decides (x ∷ []) xs y h

  -- each entry of a table that is spelled has what its spelling tells
  each_tells : (P : Spelling A) (Fact : A → Type 0) → ((x : A) (text : List ℕ) → P x text → Fact x) → (n : ℕ) (xs : List A) (text : List ℕ) → IsEach P n xs text
      → (length xs ≡ n) × ((x : A) → Has same decides xs x → Fact x)
  unfolding IsEach
  each_tells P Fact tells zero xs text h = subst (λ (ys : List A). (length ys ≡ 0) × ((x : A) → Has same decides ys x → Fact x)) (sym h.same) (refl, λ x has. absurd (true≢false (sym has)))
  each_tells P Fact tells (suc n) xs text h =
      step h (λ y f1 k1 h1 h. step h (λ ys f2 k2 h2 h.
      let rest = each_tells P Fact tells n ys f2 h2 in
      subst (λ (zs : List A). (length zs ≡ suc n) × ((x : A) → Has same decides zs x → Fact x)) (sym h.same) (
        ap suc rest.0,
        λ x has. elim (has_either same decides (y ∷ []) ys x has) [
          | inl one ↦ subst Fact (sym (is_one x y one)) (tells y f1 h1)
          | inr others ↦ rest.1 x others
        ],
      )))
    where
      is_one : (x y : A) → Has same decides (y ∷ []) x → x ≡ y
      is_one x y one = (decides x y).0 (only (same x y) one)
        where
          only : (b : Bool) → (b || false) ≡ true → b ≡ true
          only true e = refl
          only false e = e

  -- and a table each of whose entries has a spelling is spelled
  each_written : (P : Spelling A) (bytes : A → List ℕ) (xs : List A) → ((x : A) → Has same decides xs x → P x (bytes x)) → IsEach P (length xs) xs (flat_map bytes xs)
  unfolding IsEach
  each_written P bytes [] all = record { same = refl; empty = refl }
  each_written P bytes (x ∷ xs) all = record {
    value = x;
    front = bytes x;
    back = flat_map bytes xs;
    first = all x (has_head x xs);
    second = record { value = xs; front = flat_map bytes xs; back = []; first = each_written P bytes xs (λ y h. all y (has_tail x y xs h)); second = record { same = refl; empty = refl }; parts = sym (append-nil (flat_map bytes xs)) };
    parts = refl;
  }

  list_written : (P : Spelling A) (bytes : A → List ℕ) (xs : List A) → length xs < 256 ^ 4 → ((x : A) → Has same decides xs x → P x (bytes x)) → IsCounted P xs (table_bytes bytes xs)
  list_written P bytes xs few all = record { value = length xs; front = big_bytes 4 (length xs); back = flat_map bytes xs; first = number_spelled 4 (length xs) few; second = each_written P bytes xs all; parts = refl }

  equivalence : IsEquivalence same
  equivalence = record {
    refl = λ x. (decides x x).1 refl;
    symm = λ x y. both_ways (same x y) (same y x) (λ e. (decides y x).1 (sym ((decides x y).0 e))) (λ e. (decides x y).1 (sym ((decides y x).0 e)));
    congr = λ x y z e. ap (λ (w : A). same w z) ((decides x y).0 e);
  }
    where
      both_ways : (b c : Bool) → (b ≡ true → c ≡ true) → (c ≡ true → b ≡ true) → b ≡ c
      both_ways true c f g = sym (f refl)
      both_ways false true f g = g refl
      both_ways false false f g = refl

  once_distinct : (uses : List A) → IsDistinct same (each_once same uses)
  unfolding IsDistinct
  once_distinct uses = entries_distinct same decides [] uses tt

  once_few : (uses old : List A) → ((x : A) → Has same decides uses x → Has same decides old x) → length (each_once same uses) ≤ length old
  once_few uses old all = length-le_from_is_member equivalence (each_once same uses) old (once_distinct uses) (λ x h. all x (came x h))
    where
      came : (x : A) → Has same decides (each_once same uses) x → Has same decides uses x
      came x h = elim (entries_came same decides [] uses x h) [ inl e ↦ absurd (true≢false (sym e)) | inr e ↦ e ]

  once_came : (uses : List A) (x : A) → Has same decides (each_once same uses) x → Has same decides uses x
  once_came uses x h = elim (entries_came same decides [] uses x h) [ inl e ↦ absurd (true≢false (sym e)) | inr e ↦ e ]

  pub is_table : (uses : List A) → IsTableOf same uses (each_once same uses)
  is_table uses = record {
    no_entry_twice = once_distinct uses;
    used = λ x. (λ h. once_came uses x h, λ h. entries_have same decides [] uses x h);
    in_order = λ front back e.
        let more = entries_extend same decides (each_once same front) back in
        (more.0, ap (each_once same) e ∙ entries_then same decides [] front back ∙ more.1);
  }

pub are_tables : (fs : Fields) → AreTablesOf fs
are_tables fs = record { files = is_table same_text text_decides (files_used fs); names = is_table same_text text_decides (names_used fs); methods = is_table same_method method_decides (methods_used fs); strings = is_table same_text text_decides (strings_used fs) }

pub compared : EntriesAreCompared
compared = record { texts = text_decides; methods = method_decides }

-- ---- what fields use

abbrev IsIn : Tables → Fields → Type 0
IsIn t fs = ((x : List ℕ) → HasText (files_used fs) x → HasText t.files x) × ((x : List ℕ) → HasText (names_used fs) x → HasText t.names x) × ((m : MethodName) → HasMethod (methods_used fs) m → HasMethod t.methods m) × ((u : List ℕ) → HasText (strings_used fs) u → HasText t.strings u)

no_text : (x : List ℕ) {T : Type 0} → HasText [] x → T
no_text x h = absurd (true≢false (sym h))

no_method : (m : MethodName) {T : Type 0} → HasMethod [] m → T
no_method m h = absurd (true≢false (sym h))

one_text : (t : List (List ℕ)) (y x : List ℕ) → HasText t y → HasText (y ∷ []) x → HasText t x
one_text t y x h one = subst (HasText t) (sym ((text_decides x y).0 (only (same_text x y) one))) h
  where
    only : (b : Bool) → (b || false) ≡ true → b ≡ true
    only true e = refl
    only false e = e

one_method : (t : List MethodName) (n m : MethodName) → HasMethod t n → HasMethod (n ∷ []) m → HasMethod t m
one_method t n m h one = subst (HasMethod t) (sym ((method_decides m n).0 (only (same_method m n) one))) h
  where
    only : (b : Bool) → (b || false) ≡ true → b ≡ true
    only true e = refl
    only false e = e

-- what tables cover uses their entries
pub uses_inside : (t : Tables) (fs : Fields) → Covers t fs → IsIn t fs
uses_inside t nothing c = (λ x h. no_text x h, λ x h. no_text x h, λ m h. no_method m h, λ u h. no_text u h)
uses_inside t (number_field n x) c = (λ x h. no_text x h, λ x h. no_text x h, λ m h. no_method m h, λ u h. no_text u h)
uses_inside t (plain_field bytes) c = (λ x h. no_text x h, λ x h. no_text x h, λ m h. no_method m h, λ u h. no_text u h)
uses_inside t (name_field y) c = (λ x h. no_text x h, λ x h. one_text t.names y x c h, λ m h. no_method m h, λ u h. no_text u h)
uses_inside t (method_field n) c = (λ x h. no_text x h, λ x h. c.1 x h, λ m h. one_method t.methods n m c.0 h, λ u h. no_text u h)
uses_inside t (string_field v) c = (λ x h. no_text x h, λ x h. no_text x h, λ m h. no_method m h, λ u h. one_text t.strings v u c h)
uses_inside t (file_field None) c = absurd c
uses_inside t (file_field (Some text)) c = (λ x h. one_text t.files text x c h, λ x h. no_text x h, λ m h. no_method m h, λ u h. no_text u h)
uses_inside t (both fs gs) c =
    let one = uses_inside t fs c.0 in
    let two = uses_inside t gs c.1 in (
      λ x h. elim (has_either same_text text_decides (files_used fs) (files_used gs) x h) [ inl e ↦ one.0 x e | inr e ↦ two.0 x e ],
      λ x h. elim (has_either same_text text_decides (names_used fs) (names_used gs) x h) [ inl e ↦ one.1 x e | inr e ↦ two.1 x e ],
      λ m h. elim (has_either same_method method_decides (methods_used fs) (methods_used gs) m h) [ inl e ↦ one.2 m e | inr e ↦ two.2 m e ],
      λ u h. elim (has_either same_text text_decides (strings_used fs) (strings_used gs) u h) [ inl e ↦ one.3 u e | inr e ↦ two.3 u e ],
    )

-- tables that have what is used cover what others cover
covers_again : (t s : Tables) (fs : Fields) → Covers t fs → IsIn s fs → Covers s fs
covers_again t s nothing c u = tt
covers_again t s (number_field n x) c u = c
covers_again t s (plain_field bytes) c u = tt
covers_again t s (name_field y) c u = u.1 y (has_one same_text text_decides y)
covers_again t s (method_field n) c u = (u.2 n (has_one same_method method_decides n), λ x h. u.1 x h)
covers_again t s (string_field v) c u = u.3 v (has_one same_text text_decides v)
covers_again t s (file_field None) c u = c
covers_again t s (file_field (Some text)) c u = u.0 text (has_one same_text text_decides text)
covers_again t s (both fs gs) c u = (
  covers_again t s fs c.0 (λ x h. u.0 x (has_front same_text text_decides (files_used fs) (files_used gs) x h), λ x h. u.1 x (has_front same_text text_decides (names_used fs) (names_used gs) x h), λ m h. u.2 m (has_front same_method method_decides (methods_used fs) (methods_used gs) m h), λ v h. u.3 v (has_front same_text text_decides (strings_used fs) (strings_used gs) v h)),
  covers_again t s gs c.1 (λ x h. u.0 x (has_back same_text text_decides (files_used fs) (files_used gs) x h), λ x h. u.1 x (has_back same_text text_decides (names_used fs) (names_used gs) x h), λ m h. u.2 m (has_back same_method method_decides (methods_used fs) (methods_used gs) m h), λ v h. u.3 v (has_back same_text text_decides (strings_used fs) (strings_used gs) v h)),
)

-- the own names of the name of a method are the names that its entry uses
base_names : (b : BaseRef) → names_used (base_fields b) ≡ names_in_base b
base_names BaseRef.Boolean = refl
base_names BaseRef.Char = refl
base_names BaseRef.Byte = refl
base_names BaseRef.Short = refl
base_names BaseRef.Int = refl
base_names BaseRef.Long = refl
base_names (BaseRef.Class c) = refl

reference_names : (r : TypeRef) → names_used (reference_fields r) ≡ names_in_reference r
reference_names TypeRef.Void = refl
reference_names TypeRef.Boolean = refl
reference_names TypeRef.Char = refl
reference_names TypeRef.Byte = refl
reference_names TypeRef.Short = refl
reference_names TypeRef.Int = refl
reference_names TypeRef.Long = refl
reference_names (TypeRef.Class c) = refl
reference_names (TypeRef.Array a) = base_names a.base

result_names : (o : Option TypeRef) → names_used (result_fields o) ≡ names_in_result o
result_names None = refl
result_names (Some r) = reference_names r

params_names : (rs : List TypeRef) → names_used (each reference_fields rs) ≡ flat_map names_in_reference rs
params_names [] = refl
params_names (r ∷ rs) = λ i. reference_names r i ++ params_names rs i

pub method_names : (m : MethodName) → names_used (method_name_fields m) ≡ names_in_method m
method_names m = λ i. m.simple ∷ (params_names m.params i ++ result_names m.result i)

-- the entry of the name of a method is covered where its own names are there
covers_base : (t s : Tables) (b : BaseRef) → Covers t (base_fields b) → ((x : List ℕ) → HasText (names_in_base b) x → HasText s.names x) → Covers s (base_fields b)
covers_base t s BaseRef.Boolean c u = c
covers_base t s BaseRef.Char c u = c
covers_base t s BaseRef.Byte c u = c
covers_base t s BaseRef.Short c u = c
covers_base t s BaseRef.Int c u = c
covers_base t s BaseRef.Long c u = c
covers_base t s (BaseRef.Class name) c u = (c.0, u name (has_one same_text text_decides name))

covers_reference : (t s : Tables) (r : TypeRef) → Covers t (reference_fields r) → ((x : List ℕ) → HasText (names_in_reference r) x → HasText s.names x) → Covers s (reference_fields r)
covers_reference t s TypeRef.Void c u = c
covers_reference t s TypeRef.Boolean c u = c
covers_reference t s TypeRef.Char c u = c
covers_reference t s TypeRef.Byte c u = c
covers_reference t s TypeRef.Short c u = c
covers_reference t s TypeRef.Int c u = c
covers_reference t s TypeRef.Long c u = c
covers_reference t s (TypeRef.Class name) c u = (c.0, u name (has_one same_text text_decides name))
covers_reference t s (TypeRef.Array a) c u = (c.0, (c.1.0, covers_base t s a.base c.1.1 u))

covers_references : (t s : Tables) (rs : List TypeRef) → Covers t (each reference_fields rs) → ((x : List ℕ) → HasText (flat_map names_in_reference rs) x → HasText s.names x) → Covers s (each reference_fields rs)
covers_references t s [] c u = tt
covers_references t s (r ∷ rs) c u = (
  covers_reference t s r c.0 (λ x h. u x (has_front same_text text_decides (names_in_reference r) (flat_map names_in_reference rs) x h)),
  covers_references t s rs c.1 (λ x h. u x (has_back same_text text_decides (names_in_reference r) (flat_map names_in_reference rs) x h)),
)

covers_result : (t s : Tables) (o : Option TypeRef) → Covers t (result_fields o) → ((x : List ℕ) → HasText (names_in_result o) x → HasText s.names x) → Covers s (result_fields o)
covers_result t s None c u = c
covers_result t s (Some r) c u = covers_reference t s r c u

covers_method : (t s : Tables) (m : MethodName) → Covers t (method_name_fields m) → ((x : List ℕ) → HasText (names_in_method m) x → HasText s.names x) → Covers s (method_name_fields m)
covers_method t s m c u =
    let behind = flat_map names_in_reference m.params ++ names_in_result m.result in (
      u m.simple (has_head same_text text_decides m.simple behind),
      (
        (c.1.0.0, covers_references t s m.params c.1.0.1 (λ x h. u x (has_tail same_text text_decides m.simple x behind (has_front same_text text_decides (flat_map names_in_reference m.params) (names_in_result m.result) x h)))),
        covers_result t s m.result c.1.1 (λ x h. u x (has_tail same_text text_decides m.simple x behind (has_back same_text text_decides (flat_map names_in_reference m.params) (names_in_result m.result) x h))),
      ),
    )

-- ---- the tables of a file

text_again : (x text : List ℕ) → IsText x text → IsText x (counted_bytes x)
text_again x text h =
    step h (λ n f1 k1 h1 h. step h (λ t f2 k2 h2 h.
    let test = tested_is (is_utf8 t) t x k2 h in
    let size : length x ≡ n = ap length (test.1 ∙ h2.same) ∙ h2.count in
    let few : length x < 256 ^ 4 = subst (λ (m : ℕ). m < 256 ^ 4) (sym size) h1.small in
    record {
      value = length x;
      front = big_bytes 4 (length x);
      back = x;
      first = number_spelled 4 (length x) few;
      second = record { value = x; front = x; back = []; first = record { count = refl; same = refl }; second = subst (λ (c : Bool). Tested c x x []) (sym (ap is_utf8 test.1 ∙ test.0)) (record { same = refl; empty = refl }); parts = sym (append-nil x) };
      parts = refl;
    }))

string_again : ReadsWhatIsWritten → (u text : List ℕ) → IsString u text → IsString u (counted_bytes (modified_bytes u))
string_again law u text h =
    step h (λ n f1 k1 h1 h. step h (λ t f2 k2 h2 h.
    let units : modified_units t ≡ Some u = found_is (modified_units t) u k2 h in
    let back : modified_bytes u ≡ t = ((law t u).0 units).1 in
    let again : modified_units (modified_bytes u) ≡ Some u = ap modified_units back ∙ units in
    let size : length (modified_bytes u) ≡ n = ap length (back ∙ h2.same) ∙ h2.count in
    let few : length (modified_bytes u) < 256 ^ 4 = subst (λ (m : ℕ). m < 256 ^ 4) (sym size) h1.small in
    record {
      value = length (modified_bytes u);
      front = big_bytes 4 (length (modified_bytes u));
      back = modified_bytes u;
      first = number_spelled 4 (length (modified_bytes u)) few;
      second = record { value = modified_bytes u; front = modified_bytes u; back = []; first = record { count = refl; same = refl }; second = subst (λ (o : Option (List ℕ)). Found o u []) (sym again) (record { same = refl; empty = refl }); parts = sym (append-nil (modified_bytes u)) };
      parts = refl;
    }))

abbrev MethodNameCarried : Tables → MethodName → Type 0
MethodNameCarried old m = Carried old (λ new text. IsMethodName new.names m text) (λ new. method_name_fields m) (method_name_fields m)

record AreOld (old : Tables) : Type 0 where
  fit : IsFit old
  files : (x : List ℕ) → HasText old.files x → IsText x (counted_bytes x)
  names : (x : List ℕ) → HasText old.names x → IsText x (counted_bytes x)
  methods : (m : MethodName) → HasMethod old.methods m → MethodNameCarried old m
  strings : (u : List ℕ) → HasText old.strings u → IsString u (counted_bytes (modified_bytes u))

list_tells : {A : Type 0} (same : A → A → Bool) (decides : (x y : A) → Decides (same x y) (x ≡ y)) (P : Spelling A) (Fact : A → Type 0) → ((x : A) (text : List ℕ) → P x text → Fact x) → (xs : List A) (text : List ℕ) → IsCounted P xs text
    → (length xs < 256 ^ 4) × ((x : A) → Has same decides xs x → Fact x)
list_tells same decides P Fact tells xs text h =
    step h (λ n f1 k1 h1 h.
    let all = each_tells same decides P Fact tells n xs k1 h in
    (subst (λ (m : ℕ). m < 256 ^ 4) (sym all.0) h1.small, all.1))

are_old : ReadsWhatIsWritten → (old : Tables) (text : List ℕ) → IsTables old text → AreOld old
unfolding IsTables
are_old law old text h =
    step h (λ files f1 k1 h1 h. step h (λ names f2 k2 h2 h. step h (λ methods f3 k3 h3 h. step h (λ strings f4 k4 h4 h.
    let t : Tables = record { files = files; names = names; methods = methods; strings = strings } in
    let fs = list_tells same_text text_decides IsText (λ x. IsText x (counted_bytes x)) text_again files f1 h1 in
    let ns = list_tells same_text text_decides IsText (λ x. IsText x (counted_bytes x)) text_again names f2 h2 in
    let ms = list_tells same_method method_decides (IsMethodName names) (MethodNameCarried t) (λ m text h. carried_method_name t m text h) methods f3 h3 in
    let ss = list_tells same_text text_decides IsString (λ u. IsString u (counted_bytes (modified_bytes u))) (string_again law) strings f4 h4 in
    subst AreOld (sym h.same) (record { fit = record { files = fs.0; names = ns.0; methods = ms.0; strings = ss.0 }; files = fs.1; names = ns.1; methods = ms.1; strings = ss.1 })))))

known : (old : Tables) → AreOld old → Known old
known old are m h x g = (uses_inside old (method_name_fields m) (are.methods m h).inside).1 x (subst (λ (l : List (List ℕ)). HasText l x) (sym (method_names m)) g)

-- ---- the new tables

new_in : (fs : Fields) → IsIn (tables_of fs) fs
new_in fs = (
  λ x h. entries_have same_text text_decides [] (files_used fs) x h,
  λ x h. entries_have same_text text_decides [] (names_used fs) x h,
  λ m h. entries_have same_method method_decides [] (methods_used fs) m h,
  λ u h. entries_have same_text text_decides [] (strings_used fs) u h,
)

new_fit : (old : Tables) (fs : Fields) → IsFit old → IsIn old fs → IsFit (tables_of fs)
new_fit old fs fit u = record {
  files = lt_of_le_of_lt (once_few same_text text_decides (files_used fs) old.files u.0) fit.files;
  names = lt_of_le_of_lt (once_few same_text text_decides (names_used fs) old.names u.1) fit.names;
  methods = lt_of_le_of_lt (once_few same_method method_decides (methods_used fs) old.methods u.2) fit.methods;
  strings = lt_of_le_of_lt (once_few same_text text_decides (strings_used fs) old.strings u.3) fit.strings;
}

-- the own names of a method's name that is used are used
own_names : (fs : Fields) (m : MethodName) → HasMethod (methods_used fs) m → (x : List ℕ) → HasText (names_in_method m) x → HasText (names_used fs) x
own_names nothing m h x g = no_method m h
own_names (number_field n y) m h x g = no_method m h
own_names (plain_field bytes) m h x g = no_method m h
own_names (name_field y) m h x g = no_method m h
own_names (method_field n) m h x g = subst (λ (k : MethodName). HasText (names_in_method k) x) ((method_decides m n).0 (only (same_method m n) h)) g
  where
    only : (b : Bool) → (b || false) ≡ true → b ≡ true
    only true e = refl
    only false e = e
own_names (string_field u) m h x g = no_method m h
own_names (file_field None) m h x g = no_method m h
own_names (file_field (Some text)) m h x g = no_method m h
own_names (both fs gs) m h x g = elim (has_either same_method method_decides (methods_used fs) (methods_used gs) m h) [
  | inl e ↦ has_front same_text text_decides (names_used fs) (names_used gs) x (own_names fs m e x g)
  | inr e ↦ has_back same_text text_decides (names_used fs) (names_used gs) x (own_names gs m e x g)
]

tables_spelled : (new : Tables) → IsCounted IsText new.files (table_bytes counted_bytes new.files) → IsCounted IsText new.names (table_bytes counted_bytes new.names)
    → IsCounted (IsMethodName new.names) new.methods (table_bytes (λ m. spelled new (method_name_fields m)) new.methods) → IsCounted IsString new.strings (table_bytes (λ u. counted_bytes (modified_bytes u)) new.strings) → IsTables new (tables_bytes new)
unfolding IsTables
tables_spelled new files names methods strings =
    let files_text = table_bytes counted_bytes new.files in
    let names_text = table_bytes counted_bytes new.names in
    let methods_text = table_bytes (λ m. spelled new (method_name_fields m)) new.methods in
    let strings_text = table_bytes (λ u. counted_bytes (modified_bytes u)) new.strings in
    record {
      value = new.files;
      front = files_text;
      back = names_text ++ (methods_text ++ strings_text);
      first = files;
      parts = append_assoc (files_text ++ names_text) methods_text strings_text ∙ append_assoc files_text names_text (methods_text ++ strings_text);
      second = record {
        value = new.names;
        front = names_text;
        back = methods_text ++ strings_text;
        first = names;
        parts = refl;
        second = record {
          value = new.methods;
          front = methods_text;
          back = strings_text;
          first = methods;
          parts = refl;
          second = record { value = new.strings; front = strings_text; back = []; first = strings; second = record { same = refl; empty = refl }; parts = sym (append-nil strings_text) };
        };
      };
    }

new_tables : (old : Tables) (fs : Fields) → AreOld old → IsIn old fs → IsTables (tables_of fs) (tables_bytes (tables_of fs))
new_tables old fs are u =
    let fit = new_fit old fs are.fit u in
    tables_spelled (tables_of fs)
    (list_written same_text text_decides IsText counted_bytes (tables_of fs).files fit.files (λ x h. are.files x (u.0 x (once_came same_text text_decides (files_used fs) x h))))
    (list_written same_text text_decides IsText counted_bytes (tables_of fs).names fit.names (λ x h. are.names x (u.1 x (once_came same_text text_decides (names_used fs) x h))))
    (list_written same_method method_decides (IsMethodName (tables_of fs).names) (λ m. spelled (tables_of fs) (method_name_fields m)) (tables_of fs).methods fit.methods (λ m h.
    let used = once_came same_method method_decides (methods_used fs) m h in
    let carried = are.methods m (u.2 m used) in
    carried.again (tables_of fs) fit (covers_method old (tables_of fs) m carried.inside (λ x g. (new_in fs).1 x (own_names fs m used x g)))))
    (list_written same_text text_decides IsString (λ v. counted_bytes (modified_bytes v)) (tables_of fs).strings fit.strings (λ v h. are.strings v (u.3 v (once_came same_text text_decides (strings_used fs) v h))))

-- ---- the file

is_magic : IsMagic 0xCAFE4A53 (big_bytes 4 0xCAFE4A53)
is_magic = record { value = 0xCAFE4A53; front = big_bytes 4 0xCAFE4A53; back = []; first = number_spelled 4 0xCAFE4A53 (omega arith); second = record { same = refl; empty = refl }; parts = sym (append-nil (big_bytes 4 0xCAFE4A53)) }

is_version : IsVersion (codes "1.0-i1") (big_bytes 2 6 ++ codes "1.0-i1")
is_version = record {
  value = codes "1.0-i1";
  front = big_bytes 2 6 ++ codes "1.0-i1";
  back = [];
  first = record { value = 6; front = big_bytes 2 6; back = codes "1.0-i1"; first = number_spelled 2 6 (omega arith); second = record { count = refl; same = refl }; parts = refl };
  second = record { same = refl; empty = refl };
  parts = sym (append-nil (big_bytes 2 6 ++ codes "1.0-i1"));
}

contents : (tables : Tables) (class : ClassDef) (text : List ℕ) → IsTables tables (tables_bytes tables) → IsClass tables class text → FileIs (header_bytes ++ tables_bytes tables ++ text) class
unfolding FileIs IsContents
contents tables class text ts c =
    let behind = tables_bytes tables ++ text in
    let version = big_bytes 2 6 ++ codes "1.0-i1" in
    record {
      value = 0xCAFE4A53;
      front = big_bytes 4 0xCAFE4A53;
      back = version ++ behind;
      first = is_magic;
      second = record {
        value = codes "1.0-i1";
        front = version;
        back = behind;
        first = is_version;
        parts = refl;
        second = record { value = tables; front = tables_bytes tables; back = text; first = ts; second = c; parts = refl };
      };
      parts = append_assoc header_bytes (tables_bytes tables) text ∙ ap (λ (l : List ℕ). l ++ behind) (append_assoc (big_bytes 4 0xCAFE4A53) (big_bytes 2 6) (codes "1.0-i1")) ∙ append_assoc (big_bytes 4 0xCAFE4A53) version behind;
    }

-- a class of old tables is written as a file of it
written_again : (old : Tables) (class : ClassDef) → AreOld old → ClassCarried old class → IsReadBack class
written_again old class are c =
    let fs = class_fields class in
    let new = tables_of fs in
    let used = uses_inside old fs c.inside in
    let cover = covers_again old new fs c.inside (new_in fs) in
    record {
      number = number old new;
      is_file = contents new (renumbered_class (number old new) new.files class) (spelled new fs) (new_tables old fs are used) (c.again new (new_fit old fs are.fit used) cover);
      same_fields = c.same new cover;
    }

-- what is known of a class of a file
pub record Opened (class : ClassDef) : Type 0 where
  pub old : Tables
  pub files : class.files ≡ old.files
  are : AreOld old
  pub carried : ClassCarried old class

pub opened : ReadsWhatIsWritten → (file : List ℕ) (class : ClassDef) → FileIs file class → Opened class
unfolding FileIs IsContents
opened law file class h =
    step h (λ magic f1 k1 h1 h. step h (λ version f2 k2 h2 h. step h (λ tables f3 k3 h3 h.
    let are = are_old law tables f3 h3 in
    let c = carried_class tables (known tables are) class k3 h in
    record { old = tables; files = c.0; are = are; carried = c.1 })))

pub opened_file : ReadsWhatIsWritten → (class : ClassDef) → IsOfSomeFile class → Opened class
opened_file law class is = opened law is.file class is.is_file

has_files : (t : Tables) (fs : Fields) → Covers t fs → HasFiles fs
has_files t nothing c = tt
has_files t (number_field n x) c = tt
has_files t (plain_field bytes) c = tt
has_files t (name_field x) c = tt
has_files t (method_field m) c = tt
has_files t (string_field u) c = tt
has_files t (file_field None) c = c
has_files t (file_field (Some text)) c = tt
has_files t (both fs gs) c = (has_files t fs c.0, has_files t gs c.1)

pub files_there : ReadsWhatIsWritten → (class : ClassDef) → IsOfSomeFile class → NamesItsFiles class
files_there law class is = let o = opened_file law class is in has_files o.old (class_fields class) o.carried.inside

pub read_back : ReadsWhatIsWritten → (class : ClassDef) → IsOfSomeFile class → IsReadBack class
read_back law class is = let o = opened_file law class is in written_again o.old class o.are o.carried
