-- Names, references, types and texts: the laws of their readers.
use Rattle.std.proofs.Common.{◌≡◌, ℕ, ◌+◌, ◌≤◌, Bool, true, false, cond, not, eqb, List, [], ◌++◌, Option, Some, None, refl, sym, ap, subst, ◌∙◌, inl, inr, codes}
use Rattle.js_tree.specs.Written.{Grammar, Is, Where}
use Rattle.js_tree.specs.Spelling.{SpellsUnit, SpellsText}
use Rattle.js_read_spec.proofs.Parts.{seq, led, lead_of, each_to, each_from}
use Rattle.js_read_spec.proofs.UnitLaws.{law_unit, starts_unit}
use Rattle.exact_place.specs.Grammar.{Spelling, ◌then◌, Leads, Either, first, second, IsRun, IsValue, IsList}
use Rattle.exact_place.specs.Place.{Law}
use Rattle.exact_place.specs.Tokens.{entry_of}
use Rattle.exact_place.proofs.Steps.{went}
use Rattle.exact_place.proofs.Basic.{law_value, law_same, law_narrow}
use Rattle.exact_place.proofs.Sequence.{Starts, law_after, law_lead, law_either}
use Rattle.exact_place.proofs.Lists.{law_list}
use Rattle.exact_place.proofs.First.{starts_leads, follows_starts, follows_leads}
use Rattle.exact_place.proofs.Tokens.{law_run}
use Rattle.exact_place.proofs.Words.{none_some, table_token}
use Rattle.exact_place.proofs.Numbers.{table_is}
use Rattle.sj_names.specs.Grammar.{is_plain_name, is_class_name}
use Rattle.sj_names.specs.References.{spelled_array, reference_of}
use Rattle.sj_names.specs.MethodNames.{spelled_method, method_name_of}
use Rattle.sj_names.specs.declared.references.ArrayRef.{ArrayRef}
use Rattle.sj_names.specs.declared.references.TypeRef.{TypeRef}
use Rattle.sj_names.specs.declared.references.TypeRef.TheVariants as refs
use Rattle.sj_names.specs.declared.method_names.MethodName.{MethodName}
use Rattle.sj_names.proofs.ReadReferences.{reads_references}
use Rattle.sj_names.proofs.ReadMethodNames.{reads_method_names}
use Rattle.sj_trees.specs.declared.types.IrType.{IrType}
use Rattle.sj_trees.specs.declared.types.IrType.TheVariants as types
use Rattle.sj_text_spec.specs.Spelling.{is_object, SpellsLiteral, SpellsPlainName, SpellsClassName, SpellsMethodName, SpellsArray, SpellsType}
use Rattle.sj_text_spec.specs.Words.{ends_word, type_words}
use Rattle.sj_text_spec.specs.Names.{plain_name, class_name, type_class, array_among, array_of, plain_name_at, class_name_at, type_class_at, method_name_at, array_at}
use Rattle.sj_text_spec.specs.Reading.{long_type_at, type_word_at, type_at, text_at}
use Rattle.sj_text_spec.specs.declared.words.Spot.TheVariants.{NameStart, PartStart, ArrayStart, MethodStart}
use Rattle.sj_text_spec.proofs.Fields.{anything, fits}
use Rattle.sj_text_spec.proofs.NameLaws.{IsNamed, law_named}
use Rattle.sj_text_spec.proofs.Languages.{plain_language, class_language, type_class_language, array_language, method_language}

some_is : {A : Type 0} (a b : A) → Some a ≡ Some b → a ≡ b
some_is a b e = cc e

turned : (b : Bool) → not b ≡ true → b ≡ false
turned true e = absurd cc
turned false e = refl

-- a name by a test
tested : (test : List ℕ → Bool) (name x : List ℕ) → cond (test name) (Some name) None ≡ Some x → (test x ≡ true) × (name ≡ x)
tested test name x e = elim (went (test name) (Some name) None (Some x) e) [
  | inl k ↦ let is : name ≡ x = some_is name x k.1 in (subst (λ (n : List ℕ). test n ≡ true) is k.0, is)
  | inr k ↦ absurd (none_some x k.1)
]

plain_to : (x text : List ℕ) → IsNamed plain_name x text → SpellsPlainName x text
unfolding SpellsPlainName
plain_to x text p = let k = tested is_plain_name p.name x p.accepted in record { holds = k.0; spelled = subst (λ (n : List ℕ). SpellsLiteral n text) k.1 p.spelled }

plain_from : (x text : List ℕ) → SpellsPlainName x text → IsNamed plain_name x text
unfolding SpellsPlainName
plain_from x text p = record { name = x; accepted = rw p.holds refl; spelled = p.spelled }

pub law_plain_name : (n m : ℕ) → n ≤ m → Law n ends_word (plain_name_at n) (plain_name_at m) SpellsPlainName
law_plain_name n m le = law_narrow ends_word (λ c e. refl) (law_same plain_to plain_from (law_named plain_name NameStart plain_language n m le))

class_to : (x text : List ℕ) → IsNamed class_name x text → SpellsClassName x text
unfolding SpellsClassName
class_to x text p = let k = tested is_class_name p.name x p.accepted in record { holds = k.0; spelled = subst (λ (n : List ℕ). SpellsLiteral n text) k.1 p.spelled }

class_from : (x text : List ℕ) → SpellsClassName x text → IsNamed class_name x text
unfolding SpellsClassName
class_from x text p = record { name = x; accepted = rw p.holds refl; spelled = p.spelled }

pub law_any_class_name : (n m : ℕ) → n ≤ m → Law n anything (class_name_at n) (class_name_at m) SpellsClassName
law_any_class_name n m le = law_same class_to class_from (law_named class_name PartStart class_language n m le)

pub law_class_name : (n m : ℕ) → n ≤ m → Law n ends_word (class_name_at n) (class_name_at m) SpellsClassName
law_class_name n m le = law_narrow ends_word (λ c e. refl) (law_any_class_name n m le)

pub starts_class_name : Starts (λ c. eqb c 34) SpellsClassName
unfolding SpellsClassName
starts_class_name x text p = rw p.spelled.is refl

-- the class of a class type
abbrev Type_class : List ℕ → Grammar
Type_class c = Where (not (is_object c)) (SpellsClassName c)

type_class_to : (x text : List ℕ) → IsNamed type_class x text → Type_class x text
unfolding SpellsClassName
type_class_to x text p = elim (went (not (is_object p.name)) (class_name p.name) None (Some x) p.accepted) [
  | inl k ↦ let c = tested is_class_name p.name x k.1 in record { holds = subst (λ (n : List ℕ). not (is_object n) ≡ true) c.1 k.0; spelled = record { holds = c.0; spelled = subst (λ (n : List ℕ). SpellsLiteral n text) c.1 p.spelled } }
  | inr k ↦ absurd (none_some x k.1)
]

type_class_from : (x text : List ℕ) → Type_class x text → IsNamed type_class x text
unfolding SpellsClassName
type_class_from x text p = record { name = x; accepted = rw (turned (is_object x) p.holds, p.spelled.holds) refl; spelled = p.spelled.spelled }

law_type_class : (n m : ℕ) → n ≤ m → Law n anything (type_class_at n) (type_class_at m) Type_class
law_type_class n m le = law_same type_class_to type_class_from (law_named type_class PartStart type_class_language n m le)

method_to : (m : MethodName) (text : List ℕ) → IsNamed method_name_of m text → SpellsMethodName m text
method_to m text p = let k = (reads_method_names p.name m).0 p.accepted in record { method_name = k.0; spelled = subst (λ (n : List ℕ). SpellsLiteral n text) (sym k.1) p.spelled }

method_from : (m : MethodName) (text : List ℕ) → SpellsMethodName m text → IsNamed method_name_of m text
method_from m text p = record { name = spelled_method m; accepted = (reads_method_names (spelled_method m) m).1 (p.method_name, refl); spelled = p.spelled }

pub law_method_name : (n m : ℕ) → n ≤ m → Law n ends_word (method_name_at n) (method_name_at m) SpellsMethodName
law_method_name n m le = law_narrow ends_word (λ c e. refl) (law_same method_to method_from (law_named method_name_of MethodStart method_language n m le))

array_to : (r : ArrayRef) (text : List ℕ) → IsNamed array_of r text → SpellsArray r text
array_to r text p = by (reference_of p.name) refl p.accepted
  where
    by : (o : Option TypeRef) → reference_of p.name ≡ o → array_among o ≡ Some r → SpellsArray r text
    by None is e = absurd (none_some r e)
    by (Some (refs.Array x)) is e =
        let k = (reads_references p.name (refs.Array x)).0 is in
        subst (λ (y : ArrayRef). SpellsArray y text) (some_is x r e) (record { reference = k.0; spelled = subst (λ (n : List ℕ). SpellsLiteral n text) (sym k.1) p.spelled })
    by (Some refs.Void) is e = absurd (none_some r e)
    by (Some refs.Boolean) is e = absurd (none_some r e)
    by (Some refs.Char) is e = absurd (none_some r e)
    by (Some refs.Byte) is e = absurd (none_some r e)
    by (Some refs.Short) is e = absurd (none_some r e)
    by (Some refs.Int) is e = absurd (none_some r e)
    by (Some refs.Long) is e = absurd (none_some r e)
    by (Some (refs.Class c)) is e = absurd (none_some r e)

array_from : (r : ArrayRef) (text : List ℕ) → SpellsArray r text → IsNamed array_of r text
array_from r text p = record { name = spelled_array r; accepted = ap array_among ((reads_references (spelled_array r) (refs.Array r)).1 (p.reference, refl)); spelled = p.spelled }

law_any_array : (n m : ℕ) → n ≤ m → Law n anything (array_at n) (array_at m) SpellsArray
law_any_array n m le = law_same array_to array_from (law_named array_of ArrayStart array_language n m le)

pub law_array : (n m : ℕ) → n ≤ m → Law n ends_word (array_at n) (array_at m) SpellsArray
law_array n m le = law_narrow ends_word (λ c e. refl) (law_any_array n m le)

-- ---- types

-- a type of one word
abbrev IsTypeWord : IrType → Grammar
IsTypeWord (types.Class c) = λ text. ⊥
IsTypeWord (types.Array r) = λ text. ⊥
IsTypeWord types.Any = Is (codes "any")
IsTypeWord types.Nothing = Is (codes "nothing")
IsTypeWord types.Undefined = Is (codes "undef")
IsTypeWord types.Boolean = Is (codes "boolean")
IsTypeWord types.Char = Is (codes "char")
IsTypeWord types.Byte = Is (codes "byte")
IsTypeWord types.Short = Is (codes "short")
IsTypeWord types.Int = Is (codes "int")
IsTypeWord types.Long = Is (codes "long")
IsTypeWord types.String = Is (codes "string")
IsTypeWord types.Null = Is (codes "null")
IsTypeWord types.NoType = Is (codes "none")

type_word_to : (t : IrType) (text : List ℕ) → IsRun (entry_of type_words) t text → IsTypeWord t text
type_word_to t text p = table_is IsTypeWord type_words (record { same = refl }, (record { same = refl }, (record { same = refl }, (record { same = refl }, (record { same = refl }, (record { same = refl }, (record { same = refl }, (record { same = refl }, (record { same = refl }, (record { same = refl }, (record { same = refl }, (record { same = refl }, tt)))))))))))) text t p.is

type_word_from : (t : IrType) (text : List ℕ) → IsTypeWord t text → IsRun (entry_of type_words) t text
type_word_from (types.Class c) text p = absurd p
type_word_from (types.Array r) text p = absurd p
type_word_from types.Any text p = record { is = rw p.same refl }
type_word_from types.Nothing text p = record { is = rw p.same refl }
type_word_from types.Undefined text p = record { is = rw p.same refl }
type_word_from types.Boolean text p = record { is = rw p.same refl }
type_word_from types.Char text p = record { is = rw p.same refl }
type_word_from types.Byte text p = record { is = rw p.same refl }
type_word_from types.Short text p = record { is = rw p.same refl }
type_word_from types.Int text p = record { is = rw p.same refl }
type_word_from types.Long text p = record { is = rw p.same refl }
type_word_from types.String text p = record { is = rw p.same refl }
type_word_from types.Null text p = record { is = rw p.same refl }
type_word_from types.NoType text p = record { is = rw p.same refl }

law_type_word : {n : ℕ} → Law n ends_word type_word_at type_word_at IsTypeWord
unfolding type_word_at
law_type_word = law_same type_word_to type_word_from (law_run ends_word (table_token ends_word type_words refl refl))

abbrev no_parenthesis : ℕ → Bool
no_parenthesis c = not (eqb c 40)

starts_type_word : Starts no_parenthesis IsTypeWord
starts_type_word (types.Class c) text p = absurd p
starts_type_word (types.Array r) text p = absurd p
starts_type_word types.Any text p = rw p.same refl
starts_type_word types.Nothing text p = rw p.same refl
starts_type_word types.Undefined text p = rw p.same refl
starts_type_word types.Boolean text p = rw p.same refl
starts_type_word types.Char text p = rw p.same refl
starts_type_word types.Byte text p = rw p.same refl
starts_type_word types.Short text p = rw p.same refl
starts_type_word types.Int text p = rw p.same refl
starts_type_word types.Long text p = rw p.same refl
starts_type_word types.String text p = rw p.same refl
starts_type_word types.Null text p = rw p.same refl
starts_type_word types.NoType text p = rw p.same refl

abbrev Long_form : Spelling IrType
Long_form = Either (Leads (codes "L ") (Type_class then λ c. Leads (codes ")") (IsValue (types.Class c)))) (Leads (codes "A ") (SpellsArray then λ r. Leads (codes ")") (IsValue (types.Array r))))

abbrev Type_form : Spelling IrType
Type_form = Either (Leads (codes "(") Long_form) IsTypeWord

long_to : (t : IrType) (text back : List ℕ) → text ≡ codes "(" ++ back → Long_form t back → SpellsType t text
unfolding SpellsType
long_to t text back parts (first p) =
    let q = p.second in
    let r = q.second in
    rw r.second.same (led (codes "(L ") p.back (parts ∙ ap (λ (x : List ℕ). codes "(" ++ x) p.parts) (seq q.front q.back q.parts q.first (record { same = r.parts ∙ ap (λ (x : List ℕ). codes ")" ++ x) r.second.empty })))
long_to t text back parts (second p) =
    let q = p.second in
    let r = q.second in
    rw r.second.same (led (codes "(A ") p.back (parts ∙ ap (λ (x : List ℕ). codes "(" ++ x) p.parts) (seq q.front q.back q.parts q.first (record { same = r.parts ∙ ap (λ (x : List ℕ). codes ")" ++ x) r.second.empty })))

word_to : (t : IrType) (text : List ℕ) → IsTypeWord t text → SpellsType t text
unfolding SpellsType
word_to (types.Class c) text p = absurd p
word_to (types.Array r) text p = absurd p
word_to types.Any text p = p
word_to types.Nothing text p = p
word_to types.Undefined text p = p
word_to types.Boolean text p = p
word_to types.Char text p = p
word_to types.Byte text p = p
word_to types.Short text p = p
word_to types.Int text p = p
word_to types.Long text p = p
word_to types.String text p = p
word_to types.Null text p = p
word_to types.NoType text p = p

type_to : (t : IrType) (text : List ℕ) → Type_form t text → SpellsType t text
type_to t text (first p) = long_to t text p.back p.parts p.second
type_to t text (second p) = word_to t text p

type_from : (t : IrType) (text : List ℕ) → SpellsType t text → Type_form t text
unfolding SpellsType
type_from (types.Class c) text s =
    first (record {
      back = codes "L " ++ s.back;
      second = first (record { back = s.back; second = record { value = c; front = s.second.front; back = s.second.back; first = s.second.first; second = record { back = []; second = record { same = refl; empty = refl }; parts = s.second.second.same }; parts = s.second.parts }; parts = refl });
      parts = lead_of s;
    })
type_from (types.Array r) text s =
    first (record {
      back = codes "A " ++ s.back;
      second = second (record { back = s.back; second = record { value = r; front = s.second.front; back = s.second.back; first = s.second.first; second = record { back = []; second = record { same = refl; empty = refl }; parts = s.second.second.same }; parts = s.second.parts }; parts = refl });
      parts = lead_of s;
    })
type_from types.Any text p = second p
type_from types.Nothing text p = second p
type_from types.Undefined text p = second p
type_from types.Boolean text p = second p
type_from types.Char text p = second p
type_from types.Byte text p = second p
type_from types.Short text p = second p
type_from types.Int text p = second p
type_from types.Long text p = second p
type_from types.String text p = second p
type_from types.Null text p = second p
type_from types.NoType text p = second p

pub law_type : (n m : ℕ) → n ≤ m → Law n ends_word (type_at n) (type_at m) SpellsType
unfolding type_at long_type_at
law_type n m le = law_same type_to type_from (law_either (λ c. eqb c 40) (starts_leads _ 40 _ _ refl) (follows_starts _ _ no_parenthesis _ (λ c e. e) starts_type_word)
    (law_narrow ends_word (λ c e. refl) (law_lead (codes "(") (law_either (λ c. eqb c 76) (starts_leads _ 76 _ _ refl) (follows_leads _ 65 _ _ anything refl)
    (law_lead (codes "L ") (law_after n n anything anything (fits n _) (λ c. follows_leads anything 41 _ _ anything refl) (law_type_class n m le) (λ c text p. law_lead (codes ")") (law_value (types.Class c)))))
    (law_lead (codes "A ") (law_after n n anything anything (fits n _) (λ r. follows_leads anything 41 _ _ anything refl) (law_any_array n m le) (λ r text p. law_lead (codes ")") (law_value (types.Array r))))))))
    law_type_word)

-- ---- texts

abbrev Text_form : Spelling (List ℕ)
Text_form = Leads (codes "\"") (IsList SpellsUnit then λ us. Leads (codes "\"") (IsValue us))

text_to : (us text : List ℕ) → Text_form us text → SpellsText us text
unfolding SpellsText
text_to us text p =
    let q = p.second in
    let r = q.second in
    rw r.second.same (led (codes "\"") p.back p.parts (seq q.front q.back q.parts (each_to q.first) (record { same = r.parts ∙ ap (λ (x : List ℕ). codes "\"" ++ x) r.second.empty })))

text_from : (us text : List ℕ) → SpellsText us text → Text_form us text
unfolding SpellsText
text_from us text s = record { back = s.back; second = record { value = us; front = s.second.front; back = s.second.back; first = each_from SpellsUnit us s.second.front s.second.first; second = record { back = []; second = record { same = refl; empty = refl }; parts = s.second.second.same }; parts = s.second.parts }; parts = lead_of s }

pub law_text : (n m : ℕ) → n ≤ m → Law n ends_word (text_at n) (text_at m) SpellsText
unfolding text_at
law_text n m le = law_narrow ends_word (λ c e. refl) (law_same text_to text_from (law_lead (codes "\"") (law_after n n (λ c. eqb c 34) anything (fits n _) (λ us. follows_leads _ 34 _ _ anything refl)
    (law_list (λ c. not (eqb c 34)) anything (λ c. eqb c 34) le starts_unit (λ c e. refl) (λ c e. rw e refl) (λ c e. refl) law_unit)
    (λ us text p. law_lead (codes "\"") (law_value us)))))
