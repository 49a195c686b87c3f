-- Which texts the spots lead through: those that are names of each kind, and their fronts.
use Rattle.std.proofs.Common.{◌≡◌, ◌≢◌, ℕ, zero, suc, ◌+◌, ◌<◌, ◌≤◌, Bool, true, false, not, ◌&&◌, ◌||◌, eqb, ltb, List, [], ◌∷◌, ◌++◌, length, replicate, Option, Some, None, refl, sym, ap, subst, ◌∙◌, append_assoc, arith, ◌⊎◌, inl, inr, codes, nat_eq, MatchOption, All}
use Rattle.std.specs.List.{list_all, AllByRecursion}
use Rattle.std.specs.Cmp.Lexicographic.{pointwise}
use Rattle.std.proofs.lemmas.Bool.{lt-ltb, ltb-true, eqb-true}
use Rattle.std.proofs.lemmas.List.Elements.{recursion_from_All, All-from_recursion}
use Rattle.exact_place.proofs.Steps.{cases, went}
use Rattle.exact_place.proofs.Words.{both, none_some, text_is}
use Rattle.sj_names.specs.Bases.{spelled_base, IsBase}
use Rattle.sj_names.specs.declared.references.BaseRef.{BaseRef}
use Rattle.sj_names.specs.declared.references.BaseRef.TheVariants as bases
use Rattle.sj_names.specs.Grammar.{is_name_byte, is_plain_name, is_simple_name, is_dotted, is_class_name}
use Rattle.sj_names.specs.References.{spelled_array, spelled, IsReference, reference_of}
use Rattle.sj_names.specs.declared.references.ArrayRef.{ArrayRef}
use Rattle.sj_names.specs.declared.references.TypeRef.{TypeRef}
use Rattle.sj_names.specs.declared.references.TypeRef.TheVariants as refs
use Rattle.sj_names.specs.MethodNames.{spelled_method, spelled_parameters, spelled_result, IsParameter, method_name_of}
use Rattle.sj_names.specs.declared.method_names.MethodName.{MethodName}
use Rattle.sj_names.proofs.ReadReferences.{reads_references}
use Rattle.sj_names.proofs.ReadMethodNames.{reads_method_names}
use Rattle.sj_text_spec.specs.Spelling.{is_object}
use Rattle.sj_text_spec.specs.Names.{on_name, on, is_letter, base_step, step, is_simple, plain_name, class_name, type_class, array_among, array_of}
use Rattle.sj_text_spec.specs.declared.words.Spot.{Spot}
use Rattle.sj_text_spec.specs.declared.words.Spot.TheVariants.{NameStart, Name, PartStart, Part, ArrayStart, ArrayBase, ArrayEnd, MethodStart, Less, LessI, LessIn, LessIni, LessInit, InitEnd, Simple, TypeStart, TypeBase, TypePartStart, TypePart, TypeEnd, Last}
use Rattle.sj_text_spec.proofs.Spots.{some_is, then_on, run, run_on}
use Rattle.sj_text_spec.proofs.NameLaws.{IsLanguage}

abbrev Leads : Spot → List ℕ → Type 0
Leads s text = (t : Spot) × (run s text ≡ Some t)

turned : (b : Bool) → not b ≡ true → b ≡ false
turned true e = absurd cc
turned false e = refl

and_true : (a b : Bool) → a ≡ true → b ≡ true → (a && b) ≡ true
and_true a b e f = rw (e, f) refl

off_right : (a : Bool) → (a && false) ≡ false
off_right true = refl
off_right false = refl

-- what a step leads to, and the rest
first_step : (s : Spot) (c : ℕ) (text : List ℕ) (t : Spot) → run s (c ∷ text) ≡ Some t → (u : Spot) × (step s c ≡ Some u) × (run u text ≡ Some t)
first_step s c text t e = by (step s c) refl e
  where
    by : (o : Option Spot) → step s c ≡ o → then_on o (λ u. run u text) ≡ Some t → (u : Spot) × (step s c ≡ Some u) × (run u text ≡ Some t)
    by None is e = absurd (none_some t e)
    by (Some u) is e = (u, is, e)

go : (s u : Spot) (c : ℕ) (text : List ℕ) → step s c ≡ Some u → Leads u text → Leads s (c ∷ text)
go s u c text e l = (l.0, rw e l.1)

run_step : (s u : Spot) (c : ℕ) (text : List ℕ) (t : Spot) → step s c ≡ Some u → run u text ≡ Some t → run s (c ∷ text) ≡ Some t
run_step s u c text t e r = rw e r

on_is : (want c : ℕ) (s t : Spot) → on want c s ≡ Some t → (c ≡ want) × (s ≡ t)
on_is want c s t e = elim (went (eqb c want) (Some s) None (Some t) e) [ inl k ↦ (eqb-true c want k.0, some_is s t k.1) | inr k ↦ absurd (none_some t k.1) ]

named : (c : ℕ) (s : Spot) → is_name_byte c ≡ true → on_name c s ≡ Some s
named c s e = rw e refl

on_name_is : (c : ℕ) (s t : Spot) → on_name c s ≡ Some t → (is_name_byte c ≡ true) × (s ≡ t)
on_name_is c s t e = elim (went (is_name_byte c) (Some s) None (Some t) e) [ inl k ↦ (k.0, some_is s t k.1) | inr k ↦ absurd (none_some t k.1) ]

nothing_last : (s t : Spot) → ((c : ℕ) → step s c ≡ None) → (text : List ℕ) → run s text ≡ Some t → text ≡ []
nothing_last s t off [] e = refl
nothing_last s t off (c ∷ text) e = absurd (none_some t (rw off at e))

-- a byte of a name is none of the marks between names
no_mark : (c d : ℕ) → is_name_byte d ≡ false → is_name_byte c ≡ true → eqb c d ≡ false
no_mark c d off on = elim (cases (eqb c d)) [
  | inr k ↦ k
  | inl k ↦ absurd (clash (sym (ap is_name_byte (eqb-true c d k)) ∙ on))
]
  where
    clash : is_name_byte d ≡ true → ⊥
    clash e = let b : true ≡ false = sym e ∙ off in cc b

-- ---- plain names

names_lead : (text : List ℕ) → list_all is_name_byte text ≡ true → Leads Name text
names_lead [] e = (Name, refl)
names_lead (c ∷ text) e = let k = both (is_name_byte c) (list_all is_name_byte text) e in go Name Name c text (rw k.0 refl) (names_lead text k.1)

names_grow : (text : List ℕ) (t : Spot) → run Name text ≡ Some t → list_all is_name_byte (text ++ 97 ∷ []) ≡ true
names_grow [] t e = refl
names_grow (c ∷ text) t e =
    let f = first_step Name c text t e in
    let k = on_name_is c Name f.0 f.1 in
    rw k.0 (names_grow text t (ap (λ (u : Spot). run u text) k.1 ∙ f.2))

plain_leads : (name : List ℕ) → is_plain_name name ≡ true → Leads NameStart name
plain_leads [] e = absurd cc
plain_leads (c ∷ name) e = let k = both (is_name_byte c) (list_all is_name_byte name) (both (ltb 0 (length (c ∷ name))) (list_all is_name_byte (c ∷ name)) e).1 in go NameStart Name c name (rw k.0 refl) (names_lead name k.1)

plain_grows : (front : List ℕ) (t : Spot) → run NameStart front ≡ Some t → is_plain_name (front ++ 97 ∷ []) ≡ true
plain_grows [] t e = refl
plain_grows (c ∷ front) t e =
    let f = first_step NameStart c front t e in
    let k = on_name_is c Name f.0 f.1 in
    let all : list_all is_name_byte (front ++ 97 ∷ []) ≡ true = names_grow front t (ap (λ (u : Spot). run u front) k.1 ∙ f.2) in
    and_true _ _ (lt-ltb 0 (suc (length (front ++ 97 ∷ []))) (omega arith)) (and_true _ _ k.0 all)

pub plain_language : IsLanguage NameStart plain_name
plain_language = record {
  walks = λ name x e. plain_leads name (is_it name x e);
  grows = λ front s e. (97 ∷ [], refl, front ++ 97 ∷ [], rw (plain_grows front s e) refl);
}
  where
    is_it : (name x : List ℕ) → plain_name name ≡ Some x → is_plain_name name ≡ true
    is_it name x e = elim (went (is_plain_name name) (Some name) None (Some x) e) [ inl k ↦ k.0 | inr k ↦ absurd (none_some x k.1) ]

-- ---- names of classes

-- a spot in front of a part, and one behind some of its characters
record Parts (start part : Spot) : Type 0 where
  begins : (c : ℕ) → step start c ≡ on_name c part
  dot : step part 46 ≡ Some start
  goes : (c : ℕ) → is_name_byte c ≡ true → step part c ≡ Some part

class_parts : Parts PartStart Part
class_parts = record { begins = λ c. refl; dot = refl; goes = λ c e. rw (e, no_mark c 46 refl e) refl }

type_parts : Parts TypePartStart TypePart
type_parts = record { begins = λ c. refl; dot = refl; goes = λ c e. rw (e, no_mark c 59 refl e, no_mark c 46 refl e) refl }

module _ (start part : Spot) (parts : Parts start part) where
  unfoldable spot : Bool → Spot
  spot false = start
  spot true = part

  dotted_leads : (begun : Bool) (text : List ℕ) → is_dotted begun text ≡ true → (t : Spot) × (run (spot begun) text ≡ Some t) × (t ≡ part)
  unfolding spot
  dotted_leads true [] e = (part, refl, refl)
  dotted_leads false [] e = absurd cc
  dotted_leads true (c ∷ text) e = elim (went (eqb c 46) (is_dotted false text) (is_name_byte c && is_dotted true text) true e) [
    | inl k ↦ let l = dotted_leads false text k.1 in (l.0, run_step part start c text l.0 (ap (step part) (eqb-true c 46 k.0) ∙ parts.dot) l.1, l.2)
    | inr k ↦ let b = both (is_name_byte c) (is_dotted true text) k.1 in let l = dotted_leads true text b.1 in (l.0, run_step part part c text l.0 (parts.goes c b.0) l.1, l.2)
  ]
  dotted_leads false (c ∷ text) e = elim (went (eqb c 46) false (is_name_byte c && is_dotted true text) true e) [
    | inl k ↦ absurd (let f : false ≡ true = k.1 in cc f)
    | inr k ↦ let b = both (is_name_byte c) (is_dotted true text) k.1 in let l = dotted_leads true text b.1 in (l.0, run_step start part c text l.0 (parts.begins c ∙ named c part b.0) l.1, l.2)
  ]

class_leads : (name : List ℕ) → is_class_name name ≡ true → Leads PartStart name
unfolding spot
class_leads name e = let l = dotted_leads PartStart Part class_parts false name e in (l.0, l.1)

class_grows : (begun : Bool) (text : List ℕ) (t : Spot) → run (spot PartStart Part class_parts begun) text ≡ Some t → is_dotted begun (text ++ 97 ∷ []) ≡ true
unfolding spot
class_grows true [] t e = refl
class_grows false [] t e = refl
class_grows false (c ∷ text) t e =
    let f = first_step PartStart c text t e in
    let k = on_name_is c Part f.0 f.1 in
    rw (k.0, no_mark c 46 refl k.0) (class_grows true text t (ap (λ (u : Spot). run u text) k.1 ∙ f.2))
class_grows true (c ∷ text) t e =
    let f = first_step Part c text t e in
    elim (went (eqb c 46) (Some PartStart) (on_name c Part) (Some f.0) f.1) [
      | inl k ↦ rw k.0 (class_grows false text t (ap (λ (u : Spot). run u text) (some_is PartStart f.0 k.1) ∙ f.2))
      | inr k ↦ let n = on_name_is c Part f.0 k.1 in rw (n.0, k.0) (class_grows true text t (ap (λ (u : Spot). run u text) n.1 ∙ f.2))
    ]

class_name_grows : (front : List ℕ) (t : Spot) → run PartStart front ≡ Some t → is_class_name (front ++ 97 ∷ []) ≡ true
unfolding spot
class_name_grows front t e = class_grows false front t e

class_is : (name x : List ℕ) → class_name name ≡ Some x → is_class_name name ≡ true
class_is name x e = elim (went (is_class_name name) (Some name) None (Some x) e) [ inl k ↦ k.0 | inr k ↦ absurd (none_some x k.1) ]

pub class_language : IsLanguage PartStart class_name
class_language = record {
  walks = λ name x e. class_leads name (class_is name x e);
  grows = λ front s e. (97 ∷ [], refl, front ++ 97 ∷ [], rw (class_name_grows front s e) refl);
}

-- ---- classes of class types

-- the last byte isn't `a`
unfoldable ends_apart : List ℕ → Bool
ends_apart [] = true
ends_apart (c ∷ []) = not (eqb 97 c)
ends_apart (c ∷ d ∷ w) = ends_apart (d ∷ w)

apart_tail : (c : ℕ) (w : List ℕ) → ends_apart (c ∷ w) ≡ true → ends_apart w ≡ true
unfolding ends_apart
apart_tail c [] e = refl
apart_tail c (d ∷ w) e = e

differs : (front w : List ℕ) → ends_apart w ≡ true → pointwise nat_eq (front ++ 97 ∷ []) w ≡ false
unfolding ends_apart
differs [] [] e = refl
differs [] (c ∷ []) e = rw (turned (eqb 97 c) e) refl
differs [] (c ∷ d ∷ w) e = off_right (eqb 97 c)
differs (b ∷ front) [] e = refl
differs (b ∷ front) (c ∷ w) e = rw (differs front w (apart_tail c w e)) (off_right (eqb b c))

no_object : (front : List ℕ) → is_object (front ++ 97 ∷ []) ≡ false
unfolding ends_apart
no_object front = differs front (codes "java.lang.Object") refl

pub type_class_language : IsLanguage PartStart type_class
type_class_language = record {
  walks = λ name x e. class_leads name (is_it name x e);
  grows = λ front s e. (97 ∷ [], refl, front ++ 97 ∷ [], rw (no_object front, class_name_grows front s e) refl);
}
  where
    is_it : (name x : List ℕ) → type_class name ≡ Some x → is_class_name name ≡ true
    is_it name x e = elim (went (not (is_object name)) (class_name name) None (Some x) e) [ inl k ↦ class_is name x k.1 | inr k ↦ absurd (none_some x k.1) ]

-- ---- bases, behind dimensions

-- a reference whose dimensions so far are j
record BaseAt (j : ℕ) (text : List ℕ) : Type 0 where
  deeper : ℕ
  base : BaseRef
  is : text ≡ replicate deeper 91 ++ spelled_base base
  few : j + deeper ≤ 255
  valid : IsBase base

-- what leads on from a spot with j dimensions
record BaseSpots (spot_of : ℕ → Spot) (letter class : Spot) : Type 0 where
  steps : (j c : ℕ) → step (spot_of j) c ≡ base_step j c spot_of letter class

letter_base : (c : ℕ) → is_letter c ≡ true → (b : BaseRef) × (c ∷ [] ≡ spelled_base b) × IsBase b
letter_base c e = elim (cases (eqb c 90)) [
  | inl k ↦ (bases.Boolean, ap (λ (x : ℕ). x ∷ []) (eqb-true c 90 k), tt)
  | inr k ↦
      elim (cases (eqb c 67)) [
        | inl l ↦ (bases.Char, ap (λ (x : ℕ). x ∷ []) (eqb-true c 67 l), tt)
        | inr l ↦
            elim (cases (eqb c 66)) [
              | inl m ↦ (bases.Byte, ap (λ (x : ℕ). x ∷ []) (eqb-true c 66 m), tt)
              | inr m ↦
                  elim (cases (eqb c 83)) [
                    | inl n ↦ (bases.Short, ap (λ (x : ℕ). x ∷ []) (eqb-true c 83 n), tt)
                    | inr n ↦
                        elim (cases (eqb c 73)) [
                          | inl p ↦ (bases.Int, ap (λ (x : ℕ). x ∷ []) (eqb-true c 73 p), tt)
                          | inr p ↦
                              (bases.Long, ap (λ (x : ℕ). x ∷ []) (eqb-true c 74 (rw (k, l, m, n, p) at e)), tt)
                        ]
                  ]
            ]
      ]
]

-- where one step at a base leads
data BaseStep (j c : ℕ) (deeper letter class t : Spot) : Type 0 where
  to_deeper : c ≡ 91 → j < 255 → deeper ≡ t → BaseStep j c deeper letter class t
  to_letter : is_letter c ≡ true → letter ≡ t → BaseStep j c deeper letter class t
  to_class : c ≡ 76 → class ≡ t → BaseStep j c deeper letter class t

base_step_is : (j c : ℕ) (spot_of : ℕ → Spot) (letter class t : Spot) → base_step j c spot_of letter class ≡ Some t → BaseStep j c (spot_of (j + 1)) letter class t
base_step_is j c spot_of letter class t e = elim (went (eqb c 91 && ltb j 255) (Some (spot_of (j + 1))) _ (Some t) e) [
  | inl k ↦ let b = both (eqb c 91) (ltb j 255) k.0 in to_deeper (eqb-true c 91 b.0) (ltb-true j 255 b.1) (some_is (spot_of (j + 1)) t k.1)
  | inr k ↦ elim (went (is_letter c) (Some letter) _ (Some t) k.1) [
    | inl l ↦ to_letter l.0 (some_is letter t l.1)
    | inr l ↦ elim (went (eqb c 76) (Some class) None (Some t) l.1) [ inl m ↦ to_class (eqb-true c 76 m.0) (some_is class t m.1) | inr m ↦ absurd (none_some t m.1) ]
  ]
]

step_deeper : (j : ℕ) (spot_of : ℕ → Spot) (letter class : Spot) → j < 255 → base_step j 91 spot_of letter class ≡ Some (spot_of (j + 1))
step_deeper j spot_of letter class lt = rw (lt-ltb j 255 lt) refl

bases_lead : (spot_of : ℕ → Spot) (letter class part : Spot) → BaseSpots spot_of letter class → Parts class part
    → (j k : ℕ) (b : BaseRef) → j + k ≤ 255 → IsBase b → (t : Spot) × (run (spot_of j) (replicate k 91 ++ spelled_base b) ≡ Some t) × ((t ≡ letter) ⊎ (t ≡ part))
unfolding spot
bases_lead spot_of letter class part spots parts j (suc k) b few valid =
    let l = bases_lead spot_of letter class part spots parts (j + 1) k b (omega arith) valid in
    (l.0, rw (spots.steps j 91, step_deeper j spot_of letter class (omega arith)) l.1, l.2)
bases_lead spot_of letter class part spots parts j zero bases.Boolean few valid = (letter, rw (spots.steps j 90) refl, inl refl)
bases_lead spot_of letter class part spots parts j zero bases.Char few valid = (letter, rw (spots.steps j 67) refl, inl refl)
bases_lead spot_of letter class part spots parts j zero bases.Byte few valid = (letter, rw (spots.steps j 66) refl, inl refl)
bases_lead spot_of letter class part spots parts j zero bases.Short few valid = (letter, rw (spots.steps j 83) refl, inl refl)
bases_lead spot_of letter class part spots parts j zero bases.Int few valid = (letter, rw (spots.steps j 73) refl, inl refl)
bases_lead spot_of letter class part spots parts j zero bases.Long few valid = (letter, rw (spots.steps j 74) refl, inl refl)
bases_lead spot_of letter class part spots parts j zero (bases.Class name) few valid =
    let l = dotted_leads class part parts false name valid in
    let whole : run class name ≡ Some l.0 = l.1 in
    (l.0, rw (spots.steps j 76) whole, inr l.2)

-- ---- references to arrays

array_spots : BaseSpots (λ j. ArrayBase j) ArrayEnd PartStart
array_spots = record { steps = λ j c. refl }

-- the front of a reference grows to one
record BaseGrows (j : ℕ) (front : List ℕ) : Type 0 where
  more : List ℕ
  simple : list_all is_simple more ≡ true
  whole : BaseAt j (front ++ more)

one_deeper : (j : ℕ) (text : List ℕ) → BaseAt (j + 1) text → BaseAt j (91 ∷ text)
one_deeper j text b = record { deeper = suc b.deeper; base = b.base; is = ap (λ (t : List ℕ). 91 ∷ t) b.is; few = omega (arith, b.few); valid = b.valid }

array_base_grows : (front : List ℕ) (j : ℕ) (t : Spot) → j ≤ 255 → run (ArrayBase j) front ≡ Some t → BaseGrows j front
array_base_grows [] j t few e = record { more = 73 ∷ []; simple = refl; whole = record { deeper = 0; base = bases.Int; is = refl; few = omega arith; valid = tt } }
array_base_grows (c ∷ front) j t few e =
    let f = first_step (ArrayBase j) c front t e in
    elim (base_step_is j c (λ m. ArrayBase m) ArrayEnd PartStart f.0 f.1) [
      | to_deeper is lt to ↦
          let g = array_base_grows front (j + 1) t (omega arith) (ap (λ (u : Spot). run u front) to ∙ f.2) in
          record { more = g.more; simple = g.simple; whole = subst (λ (x : ℕ). BaseAt j (x ∷ (front ++ g.more))) (sym is) (one_deeper j (front ++ g.more) g.whole) }
      | to_letter is to ↦
          let end : front ≡ [] = nothing_last ArrayEnd t (λ d. refl) front (ap (λ (u : Spot). run u front) to ∙ f.2) in
          let l = letter_base c is in
          record { more = []; simple = refl; whole = record { deeper = 0; base = l.0; is = ap (λ (x : List ℕ). c ∷ (x ++ [])) end ∙ l.1; few = omega arith; valid = l.2 } }
      | to_class is to ↦
          record { more = 97 ∷ []; simple = refl; whole = record { deeper = 0; base = bases.Class (front ++ 97 ∷ []); is = ap (λ (x : ℕ). x ∷ (front ++ 97 ∷ [])) is; few = omega arith; valid = class_name_grows front t (ap (λ (u : Spot). run u front) to ∙ f.2) } }
    ]

array_found : (r : ArrayRef) (text : List ℕ) → IsReference (refs.Array r) → spelled_array r ≡ text → array_of text ≡ Some r
array_found r text valid is = ap array_among ((reads_references text (refs.Array r)).1 (valid, is))

array_grows : (front : List ℕ) (t : Spot) → run ArrayStart front ≡ Some t → (more : List ℕ) × (list_all is_simple more ≡ true) × (r : ArrayRef) × (array_of (front ++ more) ≡ Some r)
array_grows [] t e = (91 ∷ 73 ∷ [], refl, record { dimensions = 1; base = bases.Int }, array_found (record { dimensions = 1; base = bases.Int }) (91 ∷ 73 ∷ []) (omega arith, omega arith, tt) refl)
array_grows (c ∷ front) t e =
    let f = first_step ArrayStart c front t e in
    let k = on_is 91 c (ArrayBase 1) f.0 f.1 in
    let g = array_base_grows front 1 t (omega arith) (ap (λ (u : Spot). run u front) k.1 ∙ f.2) in
    let r : ArrayRef = record { dimensions = suc g.whole.deeper; base = g.whole.base } in
    (g.more, g.simple, r, array_found r (c ∷ (front ++ g.more)) (omega arith, omega (arith, g.whole.few), g.whole.valid) (ap (λ (x : List ℕ). 91 ∷ x) (sym g.whole.is) ∙ ap (λ (x : ℕ). x ∷ (front ++ g.more)) (sym k.0)))

array_leads : (name : List ℕ) (r : ArrayRef) → array_of name ≡ Some r → Leads ArrayStart name
array_leads name r e = by (reference_of name) refl e
  where
    lead : (d : ℕ) (b : BaseRef) → 1 ≤ d → d ≤ 255 → IsBase b → Leads ArrayStart (replicate d 91 ++ spelled_base b)
    lead zero b some few valid = absurd (omega arith)
    lead (suc d) b some few valid = let l = bases_lead (λ j. ArrayBase j) ArrayEnd PartStart Part array_spots class_parts 1 d b (omega arith) valid in (l.0, l.1)

    by : (o : Option TypeRef) → reference_of name ≡ o → array_among o ≡ Some r → Leads ArrayStart name
    by None is e = absurd (none_some r e)
    by (Some (refs.Array x)) is e =
        let k = (reads_references name (refs.Array x)).0 is in
        subst (λ (t : List ℕ). Leads ArrayStart t) k.1 (lead x.dimensions x.base k.0.0 k.0.1 k.0.2)
    by (Some refs.Void) is e = absurd (none_some r e)
    by (Some refs.Boolean) is e = absurd (none_some r e)
    by (Some refs.Char) is e = absurd (none_some r e)
    by (Some refs.Byte) is e = absurd (none_some r e)
    by (Some refs.Short) is e = absurd (none_some r e)
    by (Some refs.Int) is e = absurd (none_some r e)
    by (Some refs.Long) is e = absurd (none_some r e)
    by (Some (refs.Class c)) is e = absurd (none_some r e)

pub array_language : IsLanguage ArrayStart array_of
array_language = record { walks = λ name r e. array_leads name r e; grows = λ front s e. array_grows front s e }

-- ---- method names: what they lead through

-- behind a parameter or a result `;` leads on
abbrev Ended : Spot → Type 0
Ended t = step t 59 ≡ Some TypeStart

type_spots : BaseSpots (λ j. TypeBase j) TypeEnd TypePartStart
type_spots = record { steps = λ j c. refl }

ended : (t : Spot) → (t ≡ TypeEnd) ⊎ (t ≡ TypePart) → Ended t
ended t (inl e) = ap (λ (u : Spot). step u 59) e
ended t (inr e) = ap (λ (u : Spot). step u 59) e

type_leads : (r : TypeRef) → IsReference r → r ≢ refs.Void → (t : Spot) × (run TypeStart (spelled r) ≡ Some t) × Ended t
unfolding spot
type_leads refs.Void valid n = absurd (n refl)
type_leads refs.Boolean valid n = (TypeEnd, refl, refl)
type_leads refs.Char valid n = (TypeEnd, refl, refl)
type_leads refs.Byte valid n = (TypeEnd, refl, refl)
type_leads refs.Short valid n = (TypeEnd, refl, refl)
type_leads refs.Int valid n = (TypeEnd, refl, refl)
type_leads refs.Long valid n = (TypeEnd, refl, refl)
type_leads (refs.Class name) valid n =
    let l = dotted_leads TypePartStart TypePart type_parts false name valid in
    (l.0, l.1, ended l.0 (inr l.2))
type_leads (refs.Array r) valid n = lead r.dimensions valid.0 valid.1
  where
    lead : (d : ℕ) → 1 ≤ d → d ≤ 255 → (t : Spot) × (run TypeStart (replicate d 91 ++ spelled_base r.base) ≡ Some t) × Ended t
    lead zero some few = absurd (omega arith)
    lead (suc d) some few = let l = bases_lead (λ j. TypeBase j) TypeEnd TypePartStart TypePart type_spots type_parts 1 d r.base (omega arith) valid.2 in (l.0, l.1, ended l.0 l.2)

result_leads : (result : Option TypeRef) → MatchOption result (Unit {0}) IsReference → Leads TypeStart (spelled_result result)
result_leads None valid = (Last, refl)
result_leads (Some r) valid = by r valid
  where
    by : (r : TypeRef) → IsReference r → Leads TypeStart (spelled r)
    by refs.Void valid = (Last, refl)
    by refs.Boolean valid = (TypeEnd, refl)
    by refs.Char valid = (TypeEnd, refl)
    by refs.Byte valid = (TypeEnd, refl)
    by refs.Short valid = (TypeEnd, refl)
    by refs.Int valid = (TypeEnd, refl)
    by refs.Long valid = (TypeEnd, refl)
    by (refs.Class name) valid = let l = type_leads (refs.Class name) valid (λ e. cc e) in (l.0, l.1)
    by (refs.Array a) valid = let l = type_leads (refs.Array a) valid (λ e. cc e) in (l.0, l.1)

unfoldable EachParameter : List TypeRef → Type 0
EachParameter [] = Unit {0}
EachParameter (p ∷ ps) = IsParameter p × EachParameter ps

signature_leads : (s : Spot) (params : List TypeRef) (rest : List ℕ) → Ended s → EachParameter params → ((u : Spot) → Ended u → Leads u rest) → Leads s (spelled_parameters params ++ rest)
unfolding EachParameter
signature_leads s [] rest end valid go_on = go_on s end
signature_leads s (p ∷ params) rest end valid go_on =
    let l = type_leads p valid.0.0 valid.0.1 in
    let r = signature_leads l.0 params rest l.2 valid.1 go_on in
    (r.0, rw end (whole (spelled p) l.0 l.1 r.1))
  where
    whole : (text : List ℕ) (t : Spot) → run TypeStart text ≡ Some t → {u : Spot} → run t (spelled_parameters params ++ rest) ≡ Some u → run TypeStart ((text ++ spelled_parameters params) ++ rest) ≡ Some u
    whole text t one two = ap (run TypeStart) (append_assoc text (spelled_parameters params) rest) ∙ run_on TypeStart t text (spelled_parameters params ++ rest) one ∙ two

simples_lead : (text rest : List ℕ) → list_all is_name_byte text ≡ true → Leads Simple rest → Leads Simple (text ++ rest)
simples_lead [] rest e l = l
simples_lead (c ∷ text) rest e l = let k = both (is_name_byte c) (list_all is_name_byte text) e in go Simple Simple c (text ++ rest) (rw (k.0, no_mark c 59 refl k.0) refl) (simples_lead text rest k.1 l)

simple_leads : (simple rest : List ℕ) → is_simple_name simple ≡ true → ((u : Spot) → Ended u → Leads u rest) → Leads MethodStart (simple ++ rest)
simple_leads simple rest e go_on = elim (cases (is_plain_name simple)) [
  | inl k ↦ plain simple k
  | inr k ↦ subst (λ (t : List ℕ). Leads MethodStart (t ++ rest)) (sym (text_is simple (codes "<init>") (rw k at e))) (init (go_on InitEnd refl))
]
  where
    init : Leads InitEnd rest → Leads MethodStart (codes "<init>" ++ rest)
    init l = (l.0, l.1)

    plain : (simple : List ℕ) → is_plain_name simple ≡ true → Leads MethodStart (simple ++ rest)
    plain [] k = absurd cc
    plain (c ∷ text) k =
        let b = both (is_name_byte c) (list_all is_name_byte text) (both (ltb 0 (length (c ∷ text))) (list_all is_name_byte (c ∷ text)) k).1 in
        go MethodStart Simple c (text ++ rest) (rw (b.0, no_mark c 60 refl b.0) refl) (simples_lead text rest b.1 (go_on Simple refl))

each_of : (ps : List TypeRef) → All IsParameter ps → EachParameter ps
unfolding EachParameter
each_of ps valid = recursion ps (recursion_from_All IsParameter ps valid)
  where
    recursion : (ps : List TypeRef) → AllByRecursion IsParameter ps → EachParameter ps
    recursion [] k = tt
    recursion (p ∷ ps) k = (k.0, recursion ps k.1)

method_leads : (name : List ℕ) (m : MethodName) → method_name_of name ≡ Some m → Leads MethodStart name
method_leads name m e =
    let k = (reads_method_names name m).0 e in
    subst (λ (t : List ℕ). Leads MethodStart t) k.1 (subst (λ (t : List ℕ). Leads MethodStart t) (sym regroup) (simple_leads m.simple (spelled_parameters m.params ++ (59 ∷ spelled_result m.result)) k.0.simple
    (λ u end. signature_leads u m.params (59 ∷ spelled_result m.result) end (each_of m.params k.0.params) (λ v last. go v TypeStart 59 (spelled_result m.result) last (result_leads m.result k.0.result)))))
  where
    regroup : spelled_method m ≡ m.simple ++ (spelled_parameters m.params ++ (59 ∷ spelled_result m.result))
    regroup = append_assoc m.simple (spelled_parameters m.params) (59 ∷ spelled_result m.result)

-- ---- method names: what their fronts grow to

-- parameters and a result, behind the first `;`
record Tail (text : List ℕ) : Type 0 where
  params : List TypeRef
  result : Option TypeRef
  valid_params : AllByRecursion IsParameter params
  valid_result : MatchOption result (Unit {0}) IsReference
  is : 59 ∷ text ≡ spelled_parameters params ++ (59 ∷ spelled_result result)

record TailGrows (front : List ℕ) : Type 0 where
  more : List ℕ
  simple : list_all is_simple more ≡ true
  whole : Tail (front ++ more)

-- a class name that ends within the text, or goes on to its end
data Cut (begun : Bool) (text : List ℕ) (t : Spot) : Type 0 where
  inside : is_dotted begun (text ++ 97 ∷ []) ≡ true → Cut begun text t
  across : (name rest : List ℕ) → text ≡ name ++ (59 ∷ rest) → is_dotted begun name ≡ true → run TypeStart rest ≡ Some t → length rest < length text → Cut begun text t

unfoldable type_spot : Bool → Spot
type_spot false = TypePartStart
type_spot true = TypePart

longer_cut : (begun : Bool) (c : ℕ) (text : List ℕ) (t : Spot) → is_name_byte c ≡ true → Cut true text t → Cut begun (c ∷ text) t
longer_cut begun c text t n (inside e) = inside (rw (n, no_mark c 46 refl n) e)
longer_cut begun c text t n (across name rest is e on lt) = across (c ∷ name) rest (ap (λ (x : List ℕ). c ∷ x) is) (rw (n, no_mark c 46 refl n) e) on (omega arith)

cut : (begun : Bool) (text : List ℕ) (t : Spot) → run (type_spot begun) text ≡ Some t → Cut begun text t
unfolding type_spot
cut true [] t e = inside refl
cut false [] t e = inside refl
cut false (c ∷ text) t e =
    let f = first_step TypePartStart c text t e in
    let k = on_name_is c TypePart f.0 f.1 in
    longer_cut false c text t k.0 (cut true text t (ap (λ (u : Spot). run u text) k.1 ∙ f.2))
cut true (c ∷ text) t e =
    let f = first_step TypePart c text t e in
    elim (went (eqb c 59) (Some TypeStart) _ (Some f.0) f.1) [
      | inl k ↦ across [] text (ap (λ (x : ℕ). x ∷ text) (eqb-true c 59 k.0)) refl (ap (λ (u : Spot). run u text) (some_is TypeStart f.0 k.1) ∙ f.2) (omega arith)
      | inr k ↦ elim (went (eqb c 46) (Some TypePartStart) (on_name c TypePart) (Some f.0) k.1) [
        | inl l ↦ dotted (eqb-true c 46 l.0) (cut false text t (ap (λ (u : Spot). run u text) (some_is TypePartStart f.0 l.1) ∙ f.2))
        | inr l ↦ let n = on_name_is c TypePart f.0 l.1 in longer_cut true c text t n.0 (cut true text t (ap (λ (u : Spot). run u text) n.1 ∙ f.2))
      ]
    ]
  where
    dotted : c ≡ 46 → Cut false text t → Cut true (c ∷ text) t
    dotted is (inside e) = inside (rw is e)
    dotted is (across name rest parts e on lt) = across (46 ∷ name) rest (rw (is, parts) refl) e on (omega arith)

-- a reference with j dimensions so far that ends within the text, or goes on to its end
data TypeCut (j : ℕ) (text : List ℕ) (t : Spot) : Type 0 where
  stops : (more : List ℕ) → list_all is_simple more ≡ true → BaseAt j (text ++ more) → TypeCut j text t
  goes_on : (name rest : List ℕ) → text ≡ name ++ (59 ∷ rest) → BaseAt j name → run TypeStart rest ≡ Some t → length rest < length text → TypeCut j text t

deeper_cut : (j c : ℕ) (text : List ℕ) (t : Spot) → c ≡ 91 → TypeCut (j + 1) text t → TypeCut j (c ∷ text) t
deeper_cut j c text t is (stops more simple b) = stops more simple (subst (λ (x : ℕ). BaseAt j (x ∷ (text ++ more))) (sym is) (one_deeper j (text ++ more) b))
deeper_cut j c text t is (goes_on name rest parts b on lt) = goes_on (91 ∷ name) rest (rw (is, parts) refl) (one_deeper j name b) on (omega arith)

letter_cut : (j c : ℕ) (text : List ℕ) (t : Spot) → j ≤ 255 → is_letter c ≡ true → run TypeEnd text ≡ Some t → TypeCut j (c ∷ text) t
letter_cut j c [] t few is e = let l = letter_base c is in stops [] refl (record { deeper = 0; base = l.0; is = l.1; few = omega arith; valid = l.2 })
letter_cut j c (d ∷ text) t few is e =
    let f = first_step TypeEnd d text t e in
    let k = on_is 59 d TypeStart f.0 f.1 in
    let l = letter_base c is in
    goes_on (c ∷ []) text (ap (λ (x : ℕ). c ∷ x ∷ text) k.0) (record { deeper = 0; base = l.0; is = l.1; few = omega arith; valid = l.2 }) (ap (λ (u : Spot). run u text) k.1 ∙ f.2) (omega arith)

class_cut : (j c : ℕ) (text : List ℕ) (t : Spot) → j ≤ 255 → c ≡ 76 → Cut false text t → TypeCut j (c ∷ text) t
class_cut j c text t few is (inside e) = stops (97 ∷ []) refl (record { deeper = 0; base = bases.Class (text ++ 97 ∷ []); is = ap (λ (x : ℕ). x ∷ (text ++ 97 ∷ [])) is; few = omega arith; valid = e })
class_cut j c text t few is (across name rest parts e on lt) = goes_on (76 ∷ name) rest (rw (is, parts) refl) (record { deeper = 0; base = bases.Class name; is = refl; few = omega arith; valid = e }) on (omega arith)

base_cut : (text : List ℕ) (j : ℕ) (t : Spot) → j ≤ 255 → run (TypeBase j) text ≡ Some t → TypeCut j text t
unfolding type_spot
base_cut [] j t few e = stops (73 ∷ []) refl (record { deeper = 0; base = bases.Int; is = refl; few = omega arith; valid = tt })
base_cut (c ∷ text) j t few e =
    let f = first_step (TypeBase j) c text t e in
    elim (base_step_is j c (λ m. TypeBase m) TypeEnd TypePartStart f.0 f.1) [
      | to_deeper is lt to ↦ deeper_cut j c text t is (base_cut text (j + 1) t (omega arith) (ap (λ (u : Spot). run u text) to ∙ f.2))
      | to_letter is to ↦ letter_cut j c text t few is (ap (λ (u : Spot). run u text) to ∙ f.2)
      | to_class is to ↦ class_cut j c text t few is (cut false text t (ap (λ (u : Spot). run u text) to ∙ f.2))
    ]

-- the reference that a base is
reference_at : (text : List ℕ) → BaseAt 0 text → (r : TypeRef) × IsReference r × (r ≢ refs.Void) × (spelled r ≡ text)
reference_at text b = by b.deeper b.base b.is b.few b.valid
  where
    by : (d : ℕ) (base : BaseRef) → text ≡ replicate d 91 ++ spelled_base base → 0 + d ≤ 255 → IsBase base → (r : TypeRef) × IsReference r × (r ≢ refs.Void) × (spelled r ≡ text)
    by (suc d) base is few valid = (refs.Array (record { dimensions = suc d; base = base }), (omega arith, omega arith, valid), (λ e. cc e), sym is)
    by zero bases.Boolean is few valid = (refs.Boolean, tt, (λ e. cc e), sym is)
    by zero bases.Char is few valid = (refs.Char, tt, (λ e. cc e), sym is)
    by zero bases.Byte is few valid = (refs.Byte, tt, (λ e. cc e), sym is)
    by zero bases.Short is few valid = (refs.Short, tt, (λ e. cc e), sym is)
    by zero bases.Int is few valid = (refs.Int, tt, (λ e. cc e), sym is)
    by zero bases.Long is few valid = (refs.Long, tt, (λ e. cc e), sym is)
    by zero (bases.Class name) is few valid = (refs.Class name, valid, (λ e. cc e), sym is)

-- one parameter in front
one_more : (name rest more : List ℕ) → BaseAt 0 name → Tail (rest ++ more) → Tail ((name ++ (59 ∷ rest)) ++ more)
one_more name rest more b w =
    let r = reference_at name b in
    record {
      params = r.0 ∷ w.params;
      result = w.result;
      valid_params = ((r.1, r.2), w.valid_params);
      valid_result = w.valid_result;
      is = ap (λ (x : List ℕ). 59 ∷ x) (append_assoc name (59 ∷ rest) more ∙ ap (λ (x : List ℕ). name ++ x) w.is ∙ ap (λ (x : List ℕ). x ++ (spelled_parameters w.params ++ (59 ∷ spelled_result w.result))) (sym r.3) ∙ sym (append_assoc (spelled r.0) (spelled_parameters w.params) (59 ∷ spelled_result w.result)));
    }

-- by what the rest grows to
cut_grows : (text : List ℕ) (t : Spot) → ((rest : List ℕ) → length rest < length text → run TypeStart rest ≡ Some t → TailGrows rest) → TypeCut 0 text t → TailGrows text
cut_grows text t rec (stops more simple b) =
    let r = reference_at (text ++ more) b in
    record { more = more; simple = simple; whole = record { params = []; result = Some r.0; valid_params = tt; valid_result = r.1; is = ap (λ (x : List ℕ). 59 ∷ x) (sym r.3) } }
cut_grows text t rec (goes_on name rest parts b on shorter) =
    let g = rec rest shorter on in
    record { more = g.more; simple = g.simple; whole = subst (λ (x : List ℕ). Tail (x ++ g.more)) (sym parts) (one_more name rest g.more b g.whole) }

type_grows : (n : ℕ) (text : List ℕ) (t : Spot) → length text < n → run TypeStart text ≡ Some t → TailGrows text
unfolding type_spot
type_grows zero text t lt e = absurd (omega arith)
type_grows (suc n) [] t lt e = record { more = 86 ∷ []; simple = refl; whole = record { params = []; result = Some refs.Void; valid_params = tt; valid_result = tt; is = refl } }
type_grows (suc n) (c ∷ text) t lt e =
    let f = first_step TypeStart c text t e in
    elim (went (eqb c 86 || eqb c 82) (Some Last) _ (Some f.0) f.1) [
      | inl k ↦ last (nothing_last Last t (λ d. refl) text (ap (λ (u : Spot). run u text) (some_is Last f.0 k.1) ∙ f.2)) k.0
      | inr k ↦ cut_grows (c ∷ text) t (λ rest shorter on. type_grows n rest t (omega arith) on) (elim (base_step_is 0 c (λ m. TypeBase m) TypeEnd TypePartStart f.0 k.1) [
        | to_deeper is few to ↦ deeper_cut 0 c text t is (base_cut text 1 t (omega arith) (ap (λ (u : Spot). run u text) to ∙ f.2))
        | to_letter is to ↦ letter_cut 0 c text t (omega arith) is (ap (λ (u : Spot). run u text) to ∙ f.2)
        | to_class is to ↦ class_cut 0 c text t (omega arith) is (cut false text t (ap (λ (u : Spot). run u text) to ∙ f.2))
      ])
    ]
  where
    last : text ≡ [] → (eqb c 86 || eqb c 82) ≡ true → TailGrows (c ∷ text)
    last end k = elim (cases (eqb c 86)) [
      | inl l ↦ record { more = []; simple = refl; whole = record { params = []; result = Some refs.Void; valid_params = tt; valid_result = tt; is = rw (end, eqb-true c 86 l) refl } }
      | inr l ↦ record { more = []; simple = refl; whole = record { params = []; result = None; valid_params = tt; valid_result = tt; is = rw (end, eqb-true c 82 (rw l at k)) refl } }
    ]

-- what grows behind a word of the simple name
record Grows (word front : List ℕ) : Type 0 where
  more : List ℕ
  simple : list_all is_simple more ≡ true
  tail : List ℕ
  is : front ++ more ≡ word ++ (59 ∷ tail)
  whole : Tail tail

void_tail : Tail (86 ∷ [])
void_tail = record { params = []; result = Some refs.Void; valid_params = tt; valid_result = tt; is = refl }

ended_grows : (s : Spot) → ((c : ℕ) → step s c ≡ on 59 c TypeStart) → (front : List ℕ) (t : Spot) → run s front ≡ Some t → Grows [] front
ended_grows s h [] t e = record { more = 59 ∷ 86 ∷ []; simple = refl; tail = 86 ∷ []; is = refl; whole = void_tail }
ended_grows s h (c ∷ front) t e =
    let f = first_step s c front t e in
    let k = on_is 59 c TypeStart f.0 (sym (h c) ∙ f.1) in
    let g = type_grows (suc (length front)) front t (omega arith) (ap (λ (u : Spot). run u front) k.1 ∙ f.2) in
    record { more = g.more; simple = g.simple; tail = front ++ g.more; is = ap (λ (x : ℕ). x ∷ (front ++ g.more)) k.0; whole = g.whole }

init_grows : (s u : Spot) (want : ℕ) (word : List ℕ) → ((c : ℕ) → step s c ≡ on want c u) → list_all is_simple (want ∷ (word ++ codes ";V")) ≡ true
    → ((front : List ℕ) (t : Spot) → run u front ≡ Some t → Grows word front) → (front : List ℕ) (t : Spot) → run s front ≡ Some t → Grows (want ∷ word) front
init_grows s u want word h simple next [] t e = record { more = want ∷ (word ++ codes ";V"); simple = simple; tail = 86 ∷ []; is = refl; whole = void_tail }
init_grows s u want word h simple next (c ∷ front) t e =
    let f = first_step s c front t e in
    let k = on_is want c u f.0 (sym (h c) ∙ f.1) in
    let g = next front t (ap (λ (v : Spot). run v front) k.1 ∙ f.2) in
    record { more = g.more; simple = g.simple; tail = g.tail; is = ap (λ (x : ℕ). x ∷ (front ++ g.more)) k.0 ∙ ap (λ (x : List ℕ). want ∷ x) g.is; whole = g.whole }

less_grows : (front : List ℕ) (t : Spot) → run Less front ≡ Some t → Grows (codes "init>") front
less_grows = init_grows Less LessI 105 (codes "nit>") (λ c. refl) refl (init_grows LessI LessIn 110 (codes "it>") (λ c. refl) refl (init_grows LessIn LessIni 105 (codes "t>") (λ c. refl) refl
    (init_grows LessIni LessInit 116 (codes ">") (λ c. refl) refl (init_grows LessInit InitEnd 62 [] (λ c. refl) refl (ended_grows InitEnd (λ c. refl))))))

-- what grows behind the characters of a plain name
record NameGrows (front : List ℕ) : Type 0 where
  name : List ℕ
  named : list_all is_name_byte name ≡ true
  grows : Grows name front

simple_grows : (front : List ℕ) (t : Spot) → run Simple front ≡ Some t → NameGrows front
simple_grows [] t e = record { name = []; named = refl; grows = record { more = 59 ∷ 86 ∷ []; simple = refl; tail = 86 ∷ []; is = refl; whole = void_tail } }
simple_grows (c ∷ front) t e =
    let f = first_step Simple c front t e in
    elim (went (eqb c 59) (Some TypeStart) (on_name c Simple) (Some f.0) f.1) [
      | inl k ↦
          let g = type_grows (suc (length front)) front t (omega arith) (ap (λ (u : Spot). run u front) (some_is TypeStart f.0 k.1) ∙ f.2) in
          record { name = []; named = refl; grows = record { more = g.more; simple = g.simple; tail = front ++ g.more; is = ap (λ (x : ℕ). x ∷ (front ++ g.more)) (eqb-true c 59 k.0); whole = g.whole } }
      | inr k ↦
          let n = on_name_is c Simple f.0 k.1 in
          let g = simple_grows front t (ap (λ (u : Spot). run u front) n.1 ∙ f.2) in
          record { name = c ∷ g.name; named = rw (n.0, g.named) refl; grows = record { more = g.grows.more; simple = g.grows.simple; tail = g.grows.tail; is = ap (λ (x : List ℕ). c ∷ x) g.grows.is; whole = g.grows.whole } }
    ]

method_found : (simple tail text : List ℕ) → is_simple_name simple ≡ true → Tail tail → text ≡ simple ++ (59 ∷ tail) → (m : MethodName) × (method_name_of text ≡ Some m)
method_found simple tail text ok w is =
    let m : MethodName = record { simple = simple; params = w.params; result = w.result } in
    (m, (reads_method_names text m).1 (record { simple = ok; params = All-from_recursion IsParameter w.params w.valid_params; result = w.valid_result }, append_assoc simple (spelled_parameters w.params) (59 ∷ spelled_result w.result) ∙ sym (is ∙ ap (λ (x : List ℕ). simple ++ x) w.is)))

plain_simple : (name : List ℕ) → is_plain_name name ≡ true → is_simple_name name ≡ true
plain_simple name e = rw e refl

method_grows : (front : List ℕ) (t : Spot) → run MethodStart front ≡ Some t → (more : List ℕ) × (list_all is_simple more ≡ true) × (m : MethodName) × (method_name_of (front ++ more) ≡ Some m)
method_grows [] t e =
    let f = method_found (97 ∷ []) (86 ∷ []) (97 ∷ 59 ∷ 86 ∷ []) refl void_tail refl in
    (97 ∷ 59 ∷ 86 ∷ [], refl, f.0, f.1)
method_grows (c ∷ front) t e =
    let f = first_step MethodStart c front t e in
    elim (went (eqb c 60) (Some Less) (on_name c Simple) (Some f.0) f.1) [
      | inl k ↦
          let g = less_grows front t (ap (λ (u : Spot). run u front) (some_is Less f.0 k.1) ∙ f.2) in
          let m = method_found (codes "<init>") g.tail (c ∷ (front ++ g.more)) refl g.whole (ap (λ (x : ℕ). x ∷ (front ++ g.more)) (eqb-true c 60 k.0) ∙ ap (λ (x : List ℕ). 60 ∷ x) g.is) in
          (g.more, g.simple, m.0, m.1)
      | inr k ↦
          let n = on_name_is c Simple f.0 k.1 in
          let g = simple_grows front t (ap (λ (u : Spot). run u front) n.1 ∙ f.2) in
          let plain : is_plain_name (c ∷ g.name) ≡ true = and_true _ _ (lt-ltb 0 (suc (length g.name)) (omega arith)) (and_true _ _ n.0 g.named) in
          let m = method_found (c ∷ g.name) g.grows.tail (c ∷ (front ++ g.grows.more)) (plain_simple (c ∷ g.name) plain) g.grows.whole (ap (λ (x : List ℕ). c ∷ x) g.grows.is) in
          (g.grows.more, g.grows.simple, m.0, m.1)
    ]

pub method_language : IsLanguage MethodStart method_name_of
method_language = record { walks = λ name m e. method_leads name m e; grows = λ front s e. method_grows front s e }
