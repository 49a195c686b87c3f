-- The words of the subset are tokens.
use Rattle.std.proofs.Common.{◌≡◌, ℕ, ◌+◌, Bool, true, false, not, ◌&&◌, ◌||◌, eqb, List, [], ◌∷◌, ◌++◌, refl, sym, ◌⊎◌, inl, inr, codes}
use Rattle.std.specs.List.{list_all, list_any}
use Rattle.std.specs.Cmp.Lexicographic.{same_text}
use Rattle.js_tree.specs.Names.{is_digit, is_mark, is_name_character, is_name, is_dunder, is_same_text, is_property}
use Rattle.exact_place.specs.Grammar.{IsRun}
use Rattle.exact_place.specs.Reading.{run_at}
use Rattle.exact_place.specs.Place.{Law}
use Rattle.exact_place.specs.Tokens.{AreNames, entry_of, begins_entry}
use Rattle.exact_place.proofs.Words.{both, none_some, word_token, table_token}
use Rattle.exact_place.proofs.Numbers.{table_keywords}
use Rattle.exact_place.proofs.Tokens.{law_run}
use Rattle.js_read_spec.specs.Words.{begins_name, begins_property, ends_word, expression_words, new_words, parenthesis_words, statement_words, member_words, line_words, head_of, new_head_of, parenthesis_head_of, statement_head_of, line_head_of, member_head_of, name_of, property_name_of, infix_words, is_space}

pub all_front : (test : ℕ → Bool) (front : List ℕ) (c : ℕ) (more : List ℕ) → list_all test (front ++ c ∷ more) ≡ true → list_all test (front ++ c ∷ []) ≡ true
all_front test [] c more h = let k = both (test c) (list_all test more) h in rw k.0 refl
all_front test (b ∷ front) c more h = let k = both (test b) (list_all test (front ++ c ∷ more)) h in rw (k.0, all_front test front c more k.1) refl

all_behind : (test : ℕ → Bool) (front : List ℕ) (c : ℕ) → list_all test front ≡ true → test c ≡ true → list_all test (front ++ c ∷ []) ≡ true
all_behind test [] c h t = rw t refl
all_behind test (b ∷ front) c h t = let k = both (test b) (list_all test front) h in rw (k.0, all_behind test front c k.1 t) refl

pub all_over : (test : ℕ → Bool) (front : List ℕ) (c : ℕ) → test c ≡ false → list_all test (front ++ c ∷ []) ≡ false
all_over test [] c t = rw t refl
all_over test (b ∷ front) c t = rw (all_over test front c t) (and_false (test b))
  where
    and_false : (b : Bool) → (b && false) ≡ false
    and_false true = refl
    and_false false = refl

any_behind : (test : ℕ → Bool) (front : List ℕ) (c : ℕ) → test c ≡ true → list_any test (front ++ c ∷ []) ≡ true
any_behind test [] c t = rw t refl
any_behind test (b ∷ front) c t = rw (any_behind test front c t) (or_true (test b))
  where
    or_true : (b : Bool) → (b || true) ≡ true
    or_true true = refl
    or_true false = refl

turned : (b : Bool) → not b ≡ true → b ≡ false
turned true e = absurd cc
turned false e = refl

-- ---- names

begins_closed : (front : List ℕ) (c : ℕ) (more : List ℕ) → begins_name (front ++ c ∷ more) ≡ true → begins_name (front ++ c ∷ []) ≡ true
begins_closed [] c more h =
    let k = both (list_all is_name_character (c ∷ more)) (not (is_digit c)) h in
    rw (all_front is_name_character [] c more k.0, k.1) refl
begins_closed (b ∷ front) c more h =
    let k = both (list_all is_name_character ((b ∷ front) ++ c ∷ more)) (not (is_digit b)) h in
    rw (all_front is_name_character (b ∷ front) c more k.0, k.1) refl

name_begins : (text : List ℕ) → is_name text ≡ true → begins_name text ≡ true
name_begins [] h = refl
name_begins (b ∷ bs) h = (both (list_all is_name_character (b ∷ bs) && not (is_digit b)) _ h).0

name_grows : (front : List ℕ) → begins_name front ≡ true → is_name (front ++ 36 ∷ []) ≡ true
name_grows [] h = refl
name_grows (b ∷ bs) h =
    let k = both (list_all is_name_character (b ∷ bs)) (not (is_digit b)) h in
    let all : list_all is_name_character ((b ∷ bs) ++ 36 ∷ []) ≡ true = all_behind is_name_character (b ∷ bs) 36 k.0 refl in
    let any : list_any is_mark ((b ∷ bs) ++ 36 ∷ []) ≡ true = any_behind is_mark (b ∷ bs) 36 refl in
    rw (all, k.1, any) refl

name_over : (text : List ℕ) (c : ℕ) → ends_word c ≡ true → begins_name (text ++ c ∷ []) ≡ false
name_over text c s = over text (all_over is_name_character text c (turned (is_name_character c) s))
  where
    over : (text : List ℕ) → list_all is_name_character (text ++ c ∷ []) ≡ false → begins_name (text ++ c ∷ []) ≡ false
    over [] h = rw h refl
    over (b ∷ text) h = rw h refl

pub names : AreNames begins_name is_name ends_word
names = record {
  nothing = refl;
  closed = begins_closed;
  names = name_begins;
  grows = λ front a. (36 ∷ [], name_grows front a);
  ends = name_over;
}

-- ---- names of properties

dunder_closed : (front : List ℕ) (c : ℕ) (more : List ℕ) → not (is_dunder (front ++ c ∷ more)) ≡ true → not (is_dunder (front ++ c ∷ [])) ≡ true
dunder_closed [] c more h = refl
dunder_closed (b ∷ []) c more h = h
dunder_closed (b ∷ d ∷ front) c more h = h

dunder_behind : (front : List ℕ) → not (is_dunder front) ≡ true → not (is_dunder (front ++ 36 ∷ [])) ≡ true
dunder_behind [] h = refl
dunder_behind (b ∷ []) h = no (eqb b 95)
  where
    no : (k : Bool) → not (k && false) ≡ true
    no true = refl
    no false = refl
dunder_behind (b ∷ d ∷ front) h = h

property_closed : (front : List ℕ) (c : ℕ) (more : List ℕ) → begins_property (front ++ c ∷ more) ≡ true → begins_property (front ++ c ∷ []) ≡ true
property_closed front c more h =
    let k = both (begins_name (front ++ c ∷ more)) _ h in
    rw (begins_closed front c more k.0, dunder_closed front c more k.1) refl

either_of : (a b c d : Bool) → (a || b || c || d) ≡ true → (a ≡ true) ⊎ ((b ≡ true) ⊎ ((c ≡ true) ⊎ (d ≡ true)))
either_of true b c d h = inl refl
either_of false true c d h = inr (inl refl)
either_of false false true d h = inr (inr (inl refl))
either_of false false false d h = inr (inr (inr h))

pub property_begins : (text : List ℕ) → is_property text ≡ true → begins_property text ≡ true
property_begins text h = elim (either_of (is_name text && not (is_dunder text)) (is_same_text text (codes "length")) (is_same_text text (codes "fill")) (is_same_text text (codes "charCodeAt")) h) [
  | inl a ↦ let k = both (is_name text) (not (is_dunder text)) a in rw (name_begins text k.0, k.1) refl
  | inr r ↦ elim r [
    | inl a ↦ rw (same_text text (codes "length") (sym a)) refl
    | inr r ↦ elim r [
      | inl a ↦ rw (same_text text (codes "fill") (sym a)) refl
      | inr a ↦ rw (same_text text (codes "charCodeAt") (sym a)) refl
    ]
  ]
]

property_grows : (front : List ℕ) → begins_property front ≡ true → is_property (front ++ 36 ∷ []) ≡ true
property_grows front h =
    let k = both (begins_name front) (not (is_dunder front)) h in
    rw (name_grows front k.0, dunder_behind front k.1) refl

pub properties : AreNames begins_property is_property ends_word
properties = record {
  nothing = refl;
  closed = property_closed;
  names = property_begins;
  grows = λ front a. (36 ∷ [], property_grows front a);
  ends = λ text c s. rw (name_over text c s) refl;
}

-- ---- laws

pub law_head : {n : ℕ} → Law n ends_word (run_at begins_name head_of []) (run_at begins_name head_of []) (IsRun head_of)
law_head = law_run ends_word (word_token _ _ names (table_keywords begins_name (expression_words (λ h. h)) refl))

pub law_new_head : {n : ℕ} → Law n ends_word (run_at begins_name new_head_of []) (run_at begins_name new_head_of []) (IsRun new_head_of)
law_new_head = law_run ends_word (word_token _ _ names (table_keywords begins_name new_words refl))

pub law_parenthesis_head : {n : ℕ} → Law n ends_word (run_at begins_name parenthesis_head_of []) (run_at begins_name parenthesis_head_of []) (IsRun parenthesis_head_of)
law_parenthesis_head = law_run ends_word (word_token _ _ names (table_keywords begins_name parenthesis_words refl))

pub law_statement_head : {n : ℕ} → Law n ends_word (run_at begins_name statement_head_of []) (run_at begins_name statement_head_of []) (IsRun statement_head_of)
law_statement_head = law_run ends_word (word_token _ _ names (table_keywords begins_name statement_words refl))

pub law_line_head : {n : ℕ} (imports : Bool) → Law n ends_word (run_at begins_name (line_head_of imports) []) (run_at begins_name (line_head_of imports) []) (IsRun (line_head_of imports))
law_line_head true = law_run ends_word (word_token _ _ names (table_keywords begins_name (line_words true) refl))
law_line_head false = law_run ends_word (word_token _ _ names (table_keywords begins_name (line_words false) refl))

pub law_member_head : {n : ℕ} → Law n ends_word (run_at begins_property member_head_of []) (run_at begins_property member_head_of []) (IsRun member_head_of)
law_member_head = law_run ends_word (word_token _ _ properties (table_keywords begins_property member_words refl))

pub law_name : {n : ℕ} → Law n ends_word (run_at begins_name name_of []) (run_at begins_name name_of []) (IsRun name_of)
law_name = law_run ends_word (word_token _ _ names (λ text x e. absurd (none_some x e)))

pub law_property_name : {n : ℕ} → Law n ends_word (run_at begins_property property_name_of []) (run_at begins_property property_name_of []) (IsRun property_name_of)
law_property_name = law_run ends_word (word_token _ _ properties (λ text x e. absurd (none_some x e)))

pub law_infix : {n : ℕ} → Law n is_space (run_at (begins_entry infix_words) (entry_of infix_words) []) (run_at (begins_entry infix_words) (entry_of infix_words) []) (IsRun (entry_of infix_words))
law_infix = law_run is_space (table_token is_space infix_words refl refl)
