-- The law of the reader of names, for each kind of name that the spots know.
use Rattle.std.proofs.Common.{◌≡◌, ℕ, zero, suc, ◌+◌, ◌<◌, ◌≤◌, Bool, true, false, cond, not, ◌&&◌, ◌||◌, eqb, leb, List, [], ◌∷◌, ◌++◌, length, Option, Some, None, Ok, Err, refl, sym, ap, subst, ap₂, ◌∙◌, append_assoc, append-nil, arith, ◌⊎◌, inl, inr, codes, is_some}
use Rattle.std.specs.List.{list_all, flat_map}
use Rattle.std.specs.Char.{IsScalar, encode_utf8}
use Rattle.std.specs.Str.{encode_utf8_all, all_scalars}
use Rattle.std.proofs.lemmas.Bool.{lt-ltb, leb-true, leb-false, le-leb, eqb-true}
use Rattle.std.proofs.lemmas.Str.{encode_ascii}
use Rattle.exact_place.specs.Reading.{Reading, ◌>>=◌, stopped, passes, value_at, one_at, literal_at, after_at, lead_at}
use Rattle.exact_place.specs.Grammar.{Spelling, ◌then◌, Leads, Either, first, second, IsOne, IsValue, chosen}
use Rattle.exact_place.specs.Place.{Begins, Law, Stops}
use Rattle.exact_place.proofs.Steps.{cases, went}
use Rattle.exact_place.proofs.Words.{both, none_some}
use Rattle.exact_place.proofs.Basic.{law_zero, law_value, law_one, law_same}
use Rattle.exact_place.proofs.Sequence.{Starts, law_after, law_lead, law_either, law_chosen}
use Rattle.exact_place.proofs.Lists.{law_alike}
use Rattle.exact_place.proofs.First.{apart, starts_leads, starts_then, follows_starts}
use Rattle.sj_text_spec.specs.Spelling.{character_text, SpellsLiteral}
use Rattle.sj_text_spec.specs.Names.{step, moved, is_open, is_simple, plain_of, character_at, characters_at, quote_at, named_at}
use Rattle.sj_text_spec.specs.declared.words.Spot.{Spot}
use Rattle.sj_text_spec.specs.declared.words.Spot.TheVariants.{NameStart, Name, PartStart, Part, ArrayStart, ArrayBase, ArrayEnd, MethodStart, Less, LessI, LessIn, LessIni, LessInit, InitEnd, Simple, TypeStart, TypeBase, TypePartStart, TypePart, TypeEnd, Last}
use Rattle.sj_text_spec.proofs.Fields.{anything}
use Rattle.sj_text_spec.proofs.Escapes.{HasEscape, quote, backslash, outside, IsEscape, law_escape, escape_text}
use Rattle.sj_text_spec.proofs.Spots.{some_is, far_alike, quote_alike, backslash_alike, above_space, no_delete, run, run_on, run_front, run_character, moved_is, Walks, walks_of, scalars_of}

open_end : (bytes : List ℕ) → Stops anything bytes
open_end [] = tt
open_end (c ∷ rest) = refl

off_right : (a : Bool) → (a && false) ≡ false
off_right true = refl
off_right false = refl

turned : (b : Bool) → not b ≡ true → b ≡ false
turned true e = absurd cc
turned false e = refl

-- ---- one character

-- a character that may stand here
record IsCharacter (s : Spot) (c : ℕ) (text : List ℕ) : Type 0 where
  next : Spot
  leads : step s c ≡ Some next
  scalar : IsScalar c
  is : text ≡ character_text c

escape_leads : (s : Spot) (c : ℕ) → HasEscape c → step s c ≡ step s 97
escape_leads s c (quote is) = ap (step s) is ∙ quote_alike s
escape_leads s c (backslash is) = ap (step s) is ∙ backslash_alike s
escape_leads s c (outside ge) = far_alike s c ge

is_open_some : (s : Spot) → is_open s ≡ true → (t : Spot) × (step s 97 ≡ Some t)
is_open_some s e = by (step s 97) refl e
  where
    by : (o : Option Spot) → step s 97 ≡ o → is_some o ≡ true → (t : Spot) × (step s 97 ≡ Some t)
    by None is e = absurd cc
    by (Some t) is e = (t, is)

some_step : (s : Spot) (c : ℕ) → is_some (step s c) ≡ true → (t : Spot) × (step s c ≡ Some t)
some_step s c e = by (step s c) refl e
  where
    by : (o : Option Spot) → step s c ≡ o → is_some o ≡ true → (t : Spot) × (step s c ≡ Some t)
    by None is e = absurd cc
    by (Some t) is e = (t, is)

simple_range : (c : ℕ) → is_simple c ≡ true → (32 ≤ c) × (c ≤ 126)
simple_range c e = let k = both (leb 32 c && leb c 126) (not (eqb c 34 || eqb c 92)) e in let r = both (leb 32 c) (leb c 126) k.0 in (leb-true 32 c r.0, leb-true c 126 r.1)

or_left : (a b : Bool) → (a || b) ≡ false → a ≡ false
or_left true b e = absurd cc
or_left false b e = refl

or_right : (a b : Bool) → (a || b) ≡ false → b ≡ false
or_right true b e = absurd cc
or_right false b e = e

simple_text : (c : ℕ) → is_simple c ≡ true → character_text c ≡ c ∷ []
simple_text c e =
    let k = both (leb 32 c && leb c 126) (not (eqb c 34 || eqb c 92)) e in
    let n = turned (eqb c 34 || eqb c 92) k.1 in
    let r = simple_range c e in
    rw (lt-ltb c 65536 (omega (arith, r.1)), or_left (eqb c 34) (eqb c 92) n, or_right (eqb c 34) (eqb c 92) n, k.0) refl

scalar_low : (c : ℕ) → c < 55296 → IsScalar c
scalar_low c lt = rw (lt-ltb c 55296 lt) refl

plain_is : (s : Spot) (c : ℕ) (text : List ℕ) → IsOne (plain_of s) c text → IsCharacter s c text
plain_is s c text p = elim (went (is_simple p.byte && is_some (step s p.byte)) (Some p.byte) None (Some c) p.is) [
  | inr k ↦ absurd (none_some c k.1)
  | inl k ↦ by (both (is_simple p.byte) (is_some (step s p.byte)) k.0) (some_is p.byte c k.1)
]
  where
    by : (is_simple p.byte ≡ true) × (is_some (step s p.byte) ≡ true) → p.byte ≡ c → IsCharacter s c text
    by k is =
        let t = some_step s p.byte k.1 in
        let r = simple_range p.byte k.0 in
        subst (λ (d : ℕ). IsCharacter s d text) is (record { next = t.0; leads = t.1; scalar = scalar_low p.byte (omega (arith, r.1)); is = p.parts ∙ sym (simple_text p.byte k.0) })

plain_from : (s : Spot) (c : ℕ) (text : List ℕ) → IsCharacter s c text → is_simple c ≡ true → IsOne (plain_of s) c text
plain_from s c text p e = record { byte = c; is = rw (e, p.leads) refl; parts = p.is ∙ simple_text c e }

-- a character of a name stands as it is, or it has an escape
simple_or : (s : Spot) (c : ℕ) (t : Spot) → step s c ≡ Some t → (is_simple c ≡ true) ⊎ HasEscape c
simple_or s c t e = elim (cases (eqb c 34)) [
  | inl k ↦ inr (quote (eqb-true c 34 k))
  | inr k ↦ elim (cases (eqb c 92)) [
    | inl l ↦ inr (backslash (eqb-true c 92 l))
    | inr l ↦ elim (cases (leb c 126)) [
      | inl m ↦ inl (rw (le-leb 32 c (omega (arith, above_space s c t e)), m, k, l) refl)
      | inr m ↦ inr (outside (let gt : 126 < c = leb-false c 126 m in let n : c ≡ 127 → ⊥ = no_delete s c t e in omega arith))
    ]
  ]
]

abbrev Open_form : Spot → Spelling ℕ
Open_form s = Either (Leads (codes "\\") IsEscape) (IsOne (plain_of s))

abbrev Character_form : Spot → Spelling ℕ
Character_form s = chosen (is_open s) (Open_form s) (IsOne (plain_of s))

character_to : (s : Spot) (c : ℕ) (text : List ℕ) → Character_form s c text → IsCharacter s c text
character_to s c text p = by (is_open s) refl p
  where
    by : (b : Bool) → is_open s ≡ b → chosen b (Open_form s) (IsOne (plain_of s)) c text → IsCharacter s c text
    by false off q = plain_is s c text q
    by true on (second q) = plain_is s c text q
    by true on (first q) =
        let t = is_open_some s on in
        record { next = t.0; leads = escape_leads s c q.second.far ∙ t.1; scalar = q.second.scalar; is = q.parts ∙ q.second.is }

escaped : (s : Spot) (c : ℕ) (text : List ℕ) → IsCharacter s c text → HasEscape c → Leads (codes "\\") IsEscape c text
escaped s c text p h =
    let e = escape_text c h p.scalar in
    record { back = e.0; second = record { far = h; scalar = p.scalar; is = sym e.1 }; parts = p.is ∙ e.1 }

character_from : (s : Spot) (c : ℕ) (text : List ℕ) → IsCharacter s c text → Character_form s c text
character_from s c text p = by (is_open s) refl (simple_or s c p.next p.leads)
  where
    by : (b : Bool) → is_open s ≡ b → (is_simple c ≡ true) ⊎ HasEscape c → chosen b (Open_form s) (IsOne (plain_of s)) c text
    by true on (inl e) = second (plain_from s c text p e)
    by true on (inr h) = first (escaped s c text p h)
    by false off (inl e) = plain_from s c text p e
    by false off (inr h) = absurd (clash (sym (ap is_some (sym (escape_leads s c h) ∙ p.leads)) ∙ off))
      where
        clash : true ≡ false → ⊥
        clash e = cc e

starts_character : (s : Spot) → Starts (λ c. not (eqb c 34)) (IsCharacter s)
starts_character s c text p = elim (simple_or s c p.next p.leads) [
  | inl e ↦ rw (p.is, simple_text c e, or_left (eqb c 34) (eqb c 92) (turned (eqb c 34 || eqb c 92) (both (leb 32 c && leb c 126) (not (eqb c 34 || eqb c 92)) e).1)) refl
  | inr h ↦ let e = escape_text c h p.scalar in rw (p.is, e.1) refl
]

plain_starts : (s : Spot) → Starts is_simple (IsOne (plain_of s))
plain_starts s c text p = rw p.parts (elim (went (is_simple p.byte && is_some (step s p.byte)) (Some p.byte) None (Some c) p.is) [ inl k ↦ (both (is_simple p.byte) _ k.0).0 | inr k ↦ absurd (none_some c k.1) ])

law_character : {n : ℕ} (s : Spot) (c : ℕ) (t : Spot) → step s c ≡ Some t → is_simple c ≡ true → Law n anything (character_at s) (character_at s) (IsCharacter s)
unfolding character_at
law_character {n} s c t leads simple = law_same (character_to s) (character_from s) (law_chosen (is_open s)
    (law_either (λ d. eqb d 92) (starts_leads _ 92 _ _ refl) (follows_starts _ _ is_simple _ (apart is_simple 92 refl) (plain_starts s)) (law_lead (codes "\\") law_escape) plain) plain)
  where
    plain : Law n anything (one_at (plain_of s)) (one_at (plain_of s)) (IsOne (plain_of s))
    plain = law_one (plain_of s) c c (rw (simple, leads) refl)

-- ---- what may come at a spot

data Next (s : Spot) : Type 0 where
  some_next : (c : ℕ) (t : Spot) → step s c ≡ Some t → is_simple c ≡ true → Next s
  no_next : ((c : ℕ) → step s c ≡ None) → Next s

next_of : (s : Spot) → Next s
next_of NameStart = some_next 97 Name refl refl
next_of Name = some_next 97 Name refl refl
next_of PartStart = some_next 97 Part refl refl
next_of Part = some_next 97 Part refl refl
next_of ArrayStart = some_next 91 (ArrayBase 1) refl refl
next_of (ArrayBase n) = some_next 73 ArrayEnd refl refl
next_of ArrayEnd = no_next (λ c. refl)
next_of MethodStart = some_next 97 Simple refl refl
next_of Less = some_next 105 LessI refl refl
next_of LessI = some_next 110 LessIn refl refl
next_of LessIn = some_next 105 LessIni refl refl
next_of LessIni = some_next 116 LessInit refl refl
next_of LessInit = some_next 62 InitEnd refl refl
next_of InitEnd = some_next 59 TypeStart refl refl
next_of Simple = some_next 97 Simple refl refl
next_of TypeStart = some_next 73 TypeEnd refl refl
next_of (TypeBase n) = some_next 73 TypeEnd refl refl
next_of TypePartStart = some_next 97 TypePart refl refl
next_of TypePart = some_next 97 TypePart refl refl
next_of TypeEnd = some_next 59 TypeStart refl refl
next_of Last = no_next (λ c. refl)

-- ---- the rest of a name

-- characters from this spot on, behind those in front, and the closing quote
pub record IsRest {A : Type 0} (accept : List ℕ → Option A) (s : Spot) (front : List ℕ) (x : A) (text : List ℕ) : Type 0 where
  pub characters : List ℕ
  pub walks : Walks s characters
  pub is : accept (front ++ encode_utf8_all characters) ≡ Some x
  pub parts : text ≡ flat_map character_text characters ++ codes "\""

-- the texts that are accepted are those that the spots lead through, and what leads through some is the front of one
pub record IsLanguage {A : Type 0} (start : Spot) (accept : List ℕ → Option A) : Type 0 where
  pub walks : (name : List ℕ) (x : A) → accept name ≡ Some x → (t : Spot) × (run start name ≡ Some t)
  pub grows : (front : List ℕ) (s : Spot) → run start front ≡ Some s → (more : List ℕ) × (list_all is_simple more ≡ true) × (x : A) × (accept (front ++ more) ≡ Some x)

-- the string literal of a text that is accepted
pub record IsNamed {A : Type 0} (accept : List ℕ → Option A) (x : A) (text : List ℕ) : Type 0 where
  pub name : List ℕ
  pub accepted : accept name ≡ Some x
  pub spelled : SpellsLiteral name text

module _ {A : Type 0} (accept : List ℕ → Option A) where
  -- the rest of a name up to and with its quote
  abbrev level_at : ℕ → (Spot → List ℕ → List ℕ → Reading A) → Option A → Spot → List ℕ → List ℕ → Reading A
  level_at n rest o s front bytes = cond (passes (λ c. eqb c 34) bytes) (quote_at o bytes) (character_at s bytes >>= λ c. rest (moved s c.0) (front ++ encode_utf8 c.0) c.1)

  unfoldable rest_at : ℕ → Spot → List ℕ → List ℕ → Reading A
  rest_at zero s front bytes = stopped bytes
  rest_at (suc n) s front bytes = level_at n (rest_at n) (accept front) s front bytes

  rest_by : (n : ℕ) (front bytes : List ℕ) (s : Spot) → ((s : Spot) (front bytes : List ℕ) → rest_at n s front bytes ≡ after_at (characters_at n s front) (λ name. quote_at (accept name)) bytes)
      → (b : Bool) (r : Reading ℕ) → cond b (quote_at (accept front) bytes) (r >>= λ c. rest_at n (moved s c.0) (front ++ encode_utf8 c.0) c.1)
      ≡ (cond b (value_at front bytes) (r >>= λ c. characters_at n (moved s c.0) (front ++ encode_utf8 c.0) c.1) >>= λ x. quote_at (accept x.0) x.1)
  rest_by n front bytes s same true r = refl
  rest_by n front bytes s same false (Ok c) = same (moved s c.0) (front ++ encode_utf8 c.0) c.1
  rest_by n front bytes s same false (Err e) = refl

  rest_is : (n : ℕ) (s : Spot) (front bytes : List ℕ) → rest_at n s front bytes ≡ after_at (characters_at n s front) (λ name. quote_at (accept name)) bytes
  unfolding rest_at characters_at
  rest_is zero s front bytes = refl
  rest_is (suc n) s front bytes = rest_by n front bytes s (λ s front bytes. rest_is n s front bytes) (passes (λ c. eqb c 34) bytes) (character_at s bytes)

  simple_encoded : (more : List ℕ) → list_all is_simple more ≡ true → encode_utf8_all more ≡ more
  simple_encoded [] e = refl
  simple_encoded (c ∷ more) e =
      let k = both (is_simple c) (list_all is_simple more) e in
      let r = simple_range c k.0 in
      ap₂ (λ (x y : List ℕ). x ++ y) (encode_ascii c (omega (arith, r.1))) (simple_encoded more k.1)

  simple_scalars : (more : List ℕ) → list_all is_simple more ≡ true → all_scalars more ≡ true
  simple_scalars [] e = refl
  simple_scalars (c ∷ more) e =
      let k = both (is_simple c) (list_all is_simple more) e in
      let r = simple_range c k.0 in
      let low : IsScalar c = scalar_low c (omega (arith, r.1)) in
      rw (low, simple_scalars more k.1) refl

  module _ (start : Spot) (language : IsLanguage start accept) where
    some_rest : (s : Spot) (front : List ℕ) → run start front ≡ Some s → Begins (IsRest accept s front) []
    some_rest s front inv =
        let g = language.grows front s inv in
        let w = language.walks (front ++ g.0) g.2 g.3 in
        let f = run_front start w.0 front g.0 w.1 in
        let same : Some f.0 ≡ Some s = sym f.1 ∙ inv in
        let on : run s g.0 ≡ Some w.0 = subst (λ (u : Spot). run u g.0 ≡ Some w.0) (some_is f.0 s same) f.2 in
        let coded : encode_utf8_all g.0 ≡ g.0 = simple_encoded g.0 g.1 in
        record {
          value = g.2;
          more = flat_map character_text g.0 ++ codes "\"";
          spelled = record { characters = g.0; walks = walks_of s w.0 g.0 (simple_scalars g.0 g.1) (ap (run s) coded ∙ on); is = ap (λ (t : List ℕ). accept (front ++ t)) coded ∙ g.3; parts = refl };
        }

    abbrev On_form : Spot → List ℕ → Spelling A
    On_form s front = IsCharacter s then λ c. IsRest accept (moved s c) (front ++ encode_utf8 c)

    on_to : (s : Spot) (front : List ℕ) (x : A) (text : List ℕ) → On_form s front x text → IsRest accept s front x text
    unfolding Walks
    on_to s front x text p =
        let r = p.second in
        let c : ℕ = p.value in
        record {
          characters = p.value ∷ r.characters;
          walks = (p.first.next, p.first.leads, p.first.scalar, subst (λ (u : Spot). Walks u r.characters) (moved_is s p.value p.first.next p.first.leads) r.walks);
          is = ap accept (sym (append_assoc front (encode_utf8 p.value) (encode_utf8_all r.characters))) ∙ r.is;
          parts = p.parts ∙ ap₂ (λ (a b : List ℕ). a ++ b) p.first.is r.parts ∙ sym (append_assoc (character_text p.value) (flat_map character_text r.characters) (codes "\""));
        }

    on_from : (s : Spot) (front : List ℕ) (x : A) (text : List ℕ) (c : ℕ) (cs : List ℕ) → Walks s (c ∷ cs) → accept (front ++ encode_utf8_all (c ∷ cs)) ≡ Some x → text ≡ flat_map character_text (c ∷ cs) ++ codes "\"" → On_form s front x text
    unfolding Walks
    on_from s front x text c cs w is parts = record {
      value = c;
      front = character_text c;
      back = flat_map character_text cs ++ codes "\"";
      first = record { next = w.0; leads = w.1; scalar = w.2; is = refl };
      second = record {
        characters = cs;
        walks = subst (λ (u : Spot). Walks u cs) (sym (moved_is s c w.0 w.1)) w.3;
        is = ap accept (append_assoc front (encode_utf8 c) (encode_utf8_all cs)) ∙ is;
        parts = refl;
      };
      parts = parts ∙ append_assoc (character_text c) (flat_map character_text cs) (codes "\"");
    }

    end_to : (s : Spot) (front : List ℕ) (z : A) → accept front ≡ Some z → (x : A) (text : List ℕ) → Leads (codes "\"") (IsValue z) x text → IsRest accept s front x text
    unfolding Walks
    end_to s front z e x text p = record {
      characters = [];
      walks = tt;
      is = ap accept (append-nil front) ∙ e ∙ ap Some (sym p.second.same);
      parts = p.parts ∙ ap (λ (t : List ℕ). codes "\"" ++ t) p.second.empty;
    }

    end_from : (s : Spot) (front : List ℕ) (z : A) → accept front ≡ Some z → (x : A) (text : List ℕ) → accept (front ++ []) ≡ Some x → text ≡ codes "\"" → Leads (codes "\"") (IsValue z) x text
    end_from s front z e x text is parts =
        let same : Some z ≡ Some x = sym e ∙ ap accept (sym (append-nil front)) ∙ is in
        record { back = []; second = record { same = sym (value z x same); empty = refl }; parts = parts }
      where
        value : (a b : A) → Some a ≡ Some b → a ≡ b
        value a b e = cc e

    both_to : (s : Spot) (front : List ℕ) (z : A) → accept front ≡ Some z → (x : A) (text : List ℕ) → Either (Leads (codes "\"") (IsValue z)) (On_form s front) x text → IsRest accept s front x text
    both_to s front z e x text (first p) = end_to s front z e x text p
    both_to s front z e x text (second p) = on_to s front x text p

    both_from : (s : Spot) (front : List ℕ) (z : A) → accept front ≡ Some z → (x : A) (text : List ℕ) → IsRest accept s front x text → Either (Leads (codes "\"") (IsValue z)) (On_form s front) x text
    both_from s front z e x text p = by p.characters p.walks p.is p.parts
      where
        by : (cs : List ℕ) → Walks s cs → accept (front ++ encode_utf8_all cs) ≡ Some x → text ≡ flat_map character_text cs ++ codes "\"" → Either (Leads (codes "\"") (IsValue z)) (On_form s front) x text
        by [] w is parts = first (end_from s front z e x text is parts)
        by (c ∷ cs) w is parts = second (on_from s front x text c cs w is parts)

    only_from : (s : Spot) (front : List ℕ) → accept front ≡ None → (x : A) (text : List ℕ) → IsRest accept s front x text → On_form s front x text
    only_from s front e x text p = by p.characters p.walks p.is p.parts
      where
        by : (cs : List ℕ) → Walks s cs → accept (front ++ encode_utf8_all cs) ≡ Some x → text ≡ flat_map character_text cs ++ codes "\"" → On_form s front x text
        by [] w is parts = absurd (none_some x (sym e ∙ ap accept (sym (append-nil front)) ∙ is))
        by (c ∷ cs) w is parts = on_from s front x text c cs w is parts

    shut_from : (s : Spot) (front : List ℕ) (z : A) → accept front ≡ Some z → ((c : ℕ) → step s c ≡ None) → (x : A) (text : List ℕ) → IsRest accept s front x text → Leads (codes "\"") (IsValue z) x text
    unfolding Walks
    shut_from s front z e off x text p = by p.characters p.walks p.is p.parts
      where
        by : (cs : List ℕ) → Walks s cs → accept (front ++ encode_utf8_all cs) ≡ Some x → text ≡ flat_map character_text cs ++ codes "\"" → Leads (codes "\"") (IsValue z) x text
        by [] w is parts = end_from s front z e x text is parts
        by (c ∷ cs) w is parts = absurd (none_some w.0 (sym (off c) ∙ w.1))

    longer : (n : ℕ) (text : List ℕ) → passes (λ c. not (eqb c 34)) text ≡ true → suc n ≤ n + length text
    longer n [] e = absurd cc
    longer n (c ∷ text) e = omega arith

    -- nothing is read where the quote stands, where it may not
    off_quote : (s : Spot) (rest : Spot → List ℕ → List ℕ → Reading A) (front bytes : List ℕ) (n : ℕ) → after_at (character_at s) (λ c. rest (moved s c) (front ++ encode_utf8 c)) bytes ≡ level_at n rest None s front bytes
    unfolding character_at
    off_quote s rest front [] n = refl
    off_quote s rest front (c ∷ bytes) n = elim (cases (eqb c 34)) [
      | inr k ↦ rw k refl
      | inl k ↦ rw (k, eqb-true c 34 k) (by (is_open s))
    ]
      where
        by : (b : Bool) → (cond b (stopped (34 ∷ bytes)) (stopped (34 ∷ bytes)) >>= λ x. rest (moved s x.0) (front ++ encode_utf8 x.0) x.1) ≡ stopped (34 ∷ bytes)
        by true = refl
        by false = refl

    no_plain : (s : Spot) (c : ℕ) → ((c : ℕ) → step s c ≡ None) → plain_of s c ≡ None
    no_plain s c off = rw (off c) (none (is_simple c))
      where
        none : (b : Bool) → cond (b && false) (Some c) None ≡ None
        none true = refl
        none false = refl

    -- nothing is read but the quote, where no character may stand
    off_characters : (s : Spot) (rest : Spot → List ℕ → List ℕ → Reading A) (front bytes : List ℕ) (n : ℕ) (z : A) → ((c : ℕ) → step s c ≡ None) → lead_at (codes "\"") (value_at z) bytes ≡ level_at n rest (Some z) s front bytes
    unfolding character_at literal_at
    off_characters s rest front [] n z off = rw (off 97) refl
    off_characters s rest front (c ∷ bytes) n z off = elim (cases (eqb c 34)) [
      | inl k ↦ rw k refl
      | inr k ↦ rw (no_plain s c off, off 97, k) refl
    ]

    law_level : (n m : ℕ) (s : Spot) (front : List ℕ) → (rest rest' : Spot → List ℕ → List ℕ → Reading A) → run start front ≡ Some s
        → ((t : Spot) (more : List ℕ) → run start (front ++ more) ≡ Some t → Law n anything (rest t (front ++ more)) (rest' t (front ++ more)) (IsRest accept t (front ++ more)))
        → Law (suc n) anything (level_at n rest (accept front) s front) (level_at m rest' (accept front) s front) (IsRest accept s front)
    law_level n m s front rest rest' inv inner = by (accept front) refl (next_of s)
      where
        on_law : (c : ℕ) (t : Spot) → step s c ≡ Some t → is_simple c ≡ true → Law (suc n) anything (after_at (character_at s) (λ c. rest (moved s c) (front ++ encode_utf8 c))) (after_at (character_at s) (λ c. rest' (moved s c) (front ++ encode_utf8 c))) (On_form s front)
        on_law c t leads simple = law_after (suc n) n anything anything (λ d text p. longer n text (starts_character s d text p)) (λ d y back rest q st. open_end (back ++ rest)) (law_character s c t leads simple)
            (λ d text p. inner (moved s d) (encode_utf8 d) (run_on start s front (encode_utf8 d) inv ∙ run_character s d ∙ p.leads ∙ ap Some (sym (moved_is s d p.next p.leads))))

        by : (o : Option A) → accept front ≡ o → Next s → Law (suc n) anything (level_at n rest o s front) (level_at m rest' o s front) (IsRest accept s front)
        by None e (some_next c t leads simple) = law_same (on_to s front) (only_from s front e) (law_alike (λ bytes. off_quote s rest front bytes n) (λ bytes. off_quote s rest' front bytes m) (on_law c t leads simple))
        by None e (no_next off) = absurd (stuck (language.grows front s inv))
          where
            stuck : ((more : List ℕ) × (list_all is_simple more ≡ true) × (x : A) × (accept (front ++ more) ≡ Some x)) → ⊥
            stuck g = ends g.0 g.3
              where
                ends : (more : List ℕ) → accept (front ++ more) ≡ Some g.2 → ⊥
                ends [] is = none_some g.2 (sym e ∙ ap accept (sym (append-nil front)) ∙ is)
                ends (c ∷ more) is =
                    let w = language.walks (front ++ c ∷ more) g.2 is in
                    let f = run_front start w.0 front (c ∷ more) w.1 in
                    let same : Some f.0 ≡ Some s = sym f.1 ∙ inv in
                    let on : run s (c ∷ more) ≡ Some w.0 = subst (λ (u : Spot). run u (c ∷ more) ≡ Some w.0) (some_is f.0 s same) f.2 in
                    none_some w.0 (rw off at on)
        by (Some z) e (no_next off) = law_same (end_to s front z e) (shut_from s front z e off) (law_alike (λ bytes. off_characters s rest front bytes n z off) (λ bytes. off_characters s rest' front bytes m z off) (law_lead (codes "\"") (law_value z)))
        by (Some z) e (some_next c t leads simple) = law_same (both_to s front z e) (both_from s front z e)
            (law_either (λ c. eqb c 34) (starts_leads _ 34 _ _ refl) (follows_starts _ _ (λ c. not (eqb c 34)) _ (λ c k. k) (starts_then _ _ _ (starts_character s))) (law_lead (codes "\"") (law_value z)) (on_law c t leads simple))

    law_rest : (n m : ℕ) → n ≤ m → (s : Spot) (front : List ℕ) → run start front ≡ Some s → Law n anything (rest_at n s front) (rest_at m s front) (IsRest accept s front)
    unfolding rest_at
    law_rest zero m le s front inv = law_zero (some_rest s front inv)
    law_rest (suc n) zero le s front inv = absurd (omega arith)
    law_rest (suc n) (suc m) le s front inv = law_level n m s front (rest_at n) (rest_at m) inv (λ t more inv'. law_rest n m (omega arith) t (front ++ more) inv')

    literal_to : (x : A) (text : List ℕ) → Leads (codes "\"") (IsRest accept start []) x text → IsNamed accept x text
    literal_to x text p =
        let r = p.second in
        record { name = encode_utf8_all r.characters; accepted = r.is; spelled = record { characters = r.characters; scalars = scalars_of start r.characters r.walks; coded = refl; is = p.parts ∙ ap (λ (t : List ℕ). codes "\"" ++ t) r.parts } }

    literal_from : (x : A) (text : List ℕ) → IsNamed accept x text → Leads (codes "\"") (IsRest accept start []) x text
    literal_from x text p =
        let l = p.spelled in
        let w = language.walks p.name x p.accepted in
        record {
          back = flat_map character_text l.characters ++ codes "\"";
          second = record { characters = l.characters; walks = walks_of start w.0 l.characters l.scalars (ap (run start) l.coded ∙ w.1); is = ap accept l.coded ∙ p.accepted; parts = refl };
          parts = l.is;
        }

    -- a literal whose text is accepted
    pub law_named : (n m : ℕ) → n ≤ m → Law n anything (named_at n start accept) (named_at m start accept) (IsNamed accept)
    unfolding named_at
    law_named n m le = law_same literal_to literal_from (law_lead (codes "\"") (law_alike (λ bytes. rest_is n start [] bytes) (λ bytes. rest_is m start [] bytes) (law_rest n m le start [] refl)))
