-- Parts in a row and parts in brackets: their law, and that they are the parts of the grammar.
use Rattle.std.proofs.Common.{◌≡◌, ℕ, ◌+◌, ◌≤◌, Bool, true, false, not, ◌||◌, eqb, List, [], ◌∷◌, ◌++◌, length, refl, sym, ap, subst, ◌∙◌, append_assoc, arith, codes}
use Rattle.std.proofs.lemmas.Bool.{eqb-true}
use Rattle.js_tree.specs.Written.{Grammar, Separated}
use Rattle.js_read_spec.proofs.Parts.{seq, led, lead_of, more_to, more_from}
use Rattle.exact_place.specs.Reading.{Reading}
use Rattle.exact_place.specs.Grammar.{Spelling, ◌then◌, Leads, Either, first, second, IsValue, IsList}
use Rattle.exact_place.specs.Place.{Law}
use Rattle.exact_place.proofs.Basic.{law_value, law_same}
use Rattle.exact_place.proofs.Sequence.{Starts, Follows, law_after, law_lead, law_either}
use Rattle.exact_place.proofs.Lists.{law_list}
use Rattle.exact_place.proofs.First.{apart, starts_leads, starts_then, follows_starts, follows_leads, follows_list, follows_then}
use Rattle.sj_text_spec.specs.Spelling.{◌▪◌, End, SpellsList}
use Rattle.sj_text_spec.specs.Words.{ends_word}
use Rattle.sj_text_spec.specs.Reading.{field_at, close_at, bracketed_at}

abbrev pub anything : ℕ → Bool
anything c = true

-- this byte passes what this byte passes
pub this_byte : (b : ℕ) (test : ℕ → Bool) → test b ≡ true → (c : ℕ) → eqb c b ≡ true → test c ≡ true
this_byte b test e c k = subst (λ (d : ℕ). test d ≡ true) (sym (eqb-true c b k)) e

pub fits : {A : Type 0} (n : ℕ) (P : Spelling A) (x : A) (text : List ℕ) → P x text → n ≤ n + length text
fits n P x text p = omega arith

turned : (b : Bool) → not b ≡ true → b ≡ false
turned true e = absurd cc
turned false e = refl

-- ---- parts in a row

abbrev pub Field : {A B : Type 0} → Spelling A → (A → Spelling B) → Spelling B
Field P Q = Leads (codes " ") P then Q

abbrev pub Close : {A : Type 0} → A → Spelling A
Close x = Leads (codes ")") (IsValue x)

-- parts that follow one another, each behind a space, up to the closing parenthesis
pub record Row {A : Type 0} (n : ℕ) (read again : List ℕ → Reading A) (P : Spelling A) : Type 0 where
  pub law : Law n anything read again P
  pub follows : Follows ends_word P anything

pub field : {A B : Type 0} {n : ℕ} {read again : List ℕ → Reading A} {P : Spelling A} {next next' : A → List ℕ → Reading B} {Q : A → Spelling B}
    → Law n ends_word read again P → ((x : A) → Row n (next x) (next' x) (Q x)) → Row n (field_at read next) (field_at again next') (Field P Q)
field {n = n} {P = P} {Q = Q} p rows = record {
  law = law_after n n ends_word anything (fits n _) (λ x. (rows x).follows) (law_lead (codes " ") p) (λ x text q. (rows x).law);
  follows = follows_starts ends_word anything (λ c. eqb c 32) _ (λ c e. this_byte 32 ends_word refl c e) (starts_then (λ c. eqb c 32) _ Q (starts_leads (λ c. eqb c 32) 32 [] P refl));
}

pub close : {A : Type 0} {n : ℕ} (x : A) → Row n (close_at x) (close_at x) (Close x)
close x = record { law = law_lead (codes ")") (law_value x); follows = follows_leads ends_word 41 [] (IsValue x) anything refl }

-- from a row to the grammar, and back

pub part : {A B : Type 0} {P : Spelling A} {Q : A → Spelling B} {R : Grammar} {y : B} {text : List ℕ} (p : Field P Q y text) → R p.back → (P p.value ▪ R) text
part p r = led (codes " ") (p.first.back ++ p.back) (p.parts ∙ ap (λ (t : List ℕ). t ++ p.back) p.first.parts) (seq p.first.back p.back refl p.first.second r)

pub last : {A : Type 0} {x y : A} {text : List ℕ} → Close x y text → End text
last p = record { same = p.parts ∙ ap (λ (t : List ℕ). codes ")" ++ t) p.second.empty }

pub field_of : {A B : Type 0} {P : Spelling A} {Q : A → Spelling B} {R : Grammar} {y : B} {text : List ℕ} (x : A) (s : (P x ▪ R) text) → Q x y s.second.back → Field P Q y text
field_of x s q = record { value = x; front = codes " " ++ s.second.front; back = s.second.back; first = record { back = s.second.front; second = s.second.first; parts = refl }; second = q; parts = lead_of s ∙ ap (λ (t : List ℕ). codes " " ++ t) s.second.parts }

pub close_of : {A : Type 0} (x : A) {text : List ℕ} → End text → Close x x text
close_of x s = record { back = []; second = record { same = refl; empty = refl }; parts = s.same }

-- ---- parts in brackets

abbrev pub BracketedForm : {A : Type 0} → Spelling A → Spelling (List A)
BracketedForm P = Leads (codes "[") (Either (Leads (codes "]") (IsValue []))
    (P then λ x. IsList (Leads (codes " ") P) then λ xs. Leads (codes "]") (IsValue (x ∷ xs))))

-- what may follow a part in brackets
abbrev pub in_brackets : ℕ → Bool
in_brackets c = eqb c 32 || eqb c 93

abbrev is_space : ℕ → Bool
is_space c = eqb c 32

abbrev closes : ℕ → Bool
closes c = eqb c 93

law_parts : {A : Type 0} (n m : ℕ) → n ≤ m → {read again : List ℕ → Reading A} (P : Spelling A) (start : ℕ → Bool) → Starts start P → start 93 ≡ false
    → Law n in_brackets read again P → Law n anything (bracketed_at n read) (bracketed_at m again) (BracketedForm P)
unfolding bracketed_at
law_parts n m le P start starts off law =
    law_lead (codes "[") (law_either closes (starts_leads closes 93 [] _ refl) (follows_starts _ anything start _ (apart start 93 off) (starts_then start P _ starts))
    (law_lead (codes "]") (law_value []))
    (law_after n n in_brackets anything (fits n P) (λ x. follows_then in_brackets _ _ anything (follows_list in_brackets is_space _ in_brackets space_in (starts_leads is_space 32 [] P refl) (λ c e. e)) (λ xs. follows_leads in_brackets 93 [] _ anything refl)) law (λ x text p.
    law_after n n closes anything (fits n _) (λ xs. follows_leads closes 93 [] _ anything refl)
    (law_list is_space in_brackets closes le (starts_leads is_space 32 [] P refl) space_in close_apart close_in (law_lead (codes " ") law))
    (λ xs text p. law_lead (codes "]") (law_value (x ∷ xs))))))
  where
    space_in : (c : ℕ) → is_space c ≡ true → in_brackets c ≡ true
    space_in c e = this_byte 32 in_brackets refl c e

    close_in : (c : ℕ) → closes c ≡ true → in_brackets c ≡ true
    close_in c e = this_byte 93 in_brackets refl c e

    close_apart : (c : ℕ) → closes c ≡ true → is_space c ≡ false
    close_apart c e = turned (is_space c) (this_byte 93 (λ d. not (is_space d)) refl c e)

parts_to : {A : Type 0} (P : A → Grammar) (xs : List A) (text : List ℕ) → BracketedForm P xs text → SpellsList P xs text
unfolding Separated
parts_to P xs text s = by s.second
  where
    by : Either (Leads (codes "]") (IsValue [])) (P then λ x. IsList (Leads (codes " ") P) then λ xs. Leads (codes "]") (IsValue (x ∷ xs))) xs s.back → SpellsList P xs text
    by (first p) = rw p.second.same (led (codes "[") s.back s.parts (seq [] s.back refl (record { same = refl }) (record { same = p.parts ∙ ap (λ (t : List ℕ). codes "]" ++ t) p.second.empty })))
    by (second p) =
        let q = p.second in
        let r = q.second in
        let whole : s.back ≡ (p.front ++ q.front) ++ q.back = p.parts ∙ ap (λ (t : List ℕ). p.front ++ t) q.parts ∙ sym (append_assoc p.front q.front q.back) in
        rw r.second.same (led (codes "[") s.back s.parts (seq (p.front ++ q.front) q.back whole (seq p.front q.front refl p.first (more_to q.first)) (record { same = r.parts ∙ ap (λ (t : List ℕ). codes "]" ++ t) r.second.empty })))

parts_from : {A : Type 0} (P : A → Grammar) (xs : List A) (text : List ℕ) → SpellsList P xs text → BracketedForm P xs text
unfolding Separated
parts_from P [] text s =
    let closing : s.back ≡ codes "]" ++ [] = s.second.parts ∙ ap (λ (t : List ℕ). t ++ s.second.back) s.second.first.same ∙ s.second.second.same in
    record { back = s.back; second = first (record { back = []; second = record { same = refl; empty = refl }; parts = closing }); parts = lead_of s }
parts_from P (x ∷ xs) text s =
    let q = s.second in
    let r = q.first in
    record {
      back = s.back;
      second = second (record {
        value = x;
        front = r.front;
        back = r.back ++ q.back;
        first = r.first;
        second = record {
          value = xs;
          front = r.back;
          back = q.back;
          first = more_from (codes " ") P xs r.back r.second;
          second = record { back = []; second = record { same = refl; empty = refl }; parts = q.second.same };
          parts = refl;
        };
        parts = q.parts ∙ ap (λ (t : List ℕ). t ++ q.back) r.parts ∙ append_assoc r.front r.back q.back;
      });
      parts = lead_of s;
    }

pub law_bracketed : {A : Type 0} (n m : ℕ) → n ≤ m → {read again : List ℕ → Reading A} (P : A → Grammar) (start : ℕ → Bool) → Starts start P → start 93 ≡ false
    → Law n in_brackets read again P → Law n anything (bracketed_at n read) (bracketed_at m again) (SpellsList P)
law_bracketed n m le P start starts off law = law_same (parts_to P) (parts_from P) (law_parts n m le P start starts off law)
