-- The law of the reader of expressions.
use Rattle.std.proofs.Common.{◌≡◌, ℕ, zero, suc, ◌+◌, ◌≤◌, Bool, true, false, not, ◌&&◌, ◌||◌, eqb, List, [], ◌∷◌, ◌++◌, length, refl, sym, subst, ◌∙◌, append_assoc, arith, inl, inr, codes}
use Rattle.std.proofs.lemmas.Bool.{eqb-true}
use Rattle.js_tree.specs.Names.{is_name_character, is_digit}
use Rattle.js_tree.specs.Spelling.{SpellsExpression}
use Rattle.js_tree.specs.Terms.{Name, Expression, null_literal, boolean_literal, undefined_literal, text_literal, name_use, this_use, call_of, new_of, new_array_of, list_of, binary_of, unary_of, conditional_of, host_call, host_call_of_two, no_expressions, expression}
use Rattle.js_tree.specs.Views.{expressions_of}
use Rattle.js_tree.specs.declared.operators.UnaryOperator.{UnaryOperator}
use Rattle.js_tree.specs.declared.operators.UnaryOperator.TheVariants.{Not, TypeOf}
use Rattle.js_tree.specs.declared.operators.HostFunction.{HostFunction}
use Rattle.js_tree.specs.declared.operators.HostFunction.TheVariants.{BigInt, Number, StringFromCharCode, ConsoleLog}
use Rattle.js_tree.specs.declared.operators.HostOperation.{HostOperation}
use Rattle.js_tree.specs.declared.operators.HostOperation.TheVariants.{BigIntAsIntN, BigIntAsUintN, MathImul}
use Rattle.js_read_spec.specs.declared.words.Head.{Head}
use Rattle.js_read_spec.specs.declared.words.Head.TheVariants as heads
use Rattle.js_read_spec.specs.declared.words.NewHead.{NewHead}
use Rattle.js_read_spec.specs.declared.words.NewHead.TheVariants as news
use Rattle.js_read_spec.specs.declared.words.ParenthesisHead.{ParenthesisHead}
use Rattle.js_read_spec.specs.declared.words.ParenthesisHead.TheVariants as parentheses
use Rattle.js_read_spec.specs.declared.words.Infix.{Infix}
use Rattle.js_read_spec.specs.declared.words.Infix.TheVariants as infixes
use Rattle.exact_place.specs.Reading.{Reading, passes, after_at, map_at, literal_at}
use Rattle.exact_place.specs.Grammar.{Spelling, ◌then◌, first, second, IsLiteral, IsMapped}
use Rattle.exact_place.specs.Place.{Begins, Stops, Law}
use Rattle.exact_place.proofs.Steps.{cases}
use Rattle.exact_place.proofs.Words.{both}
use Rattle.exact_place.proofs.Basic.{law_zero, law_value, law_literal, law_map, law_same, law_narrow}
use Rattle.exact_place.proofs.Sequence.{Starts, Follows, law_after, law_lead, law_behind, law_either}
use Rattle.exact_place.proofs.Lists.{law_list}
use Rattle.exact_place.proofs.First.{apart, starts_leads, starts_literal, starts_mapped, starts_then, starts_either, follows_starts, follows_leads, follows_literal, follows_value, follows_mapped, follows_either, follows_list, follows_then}
use Rattle.js_read_spec.specs.Words.{is_word_start, ends_word, is_space}
use Rattle.js_read_spec.specs.Tokens.{string_at}
use Rattle.js_read_spec.specs.Expressions.{property_suffix, method_suffix, index_suffix, with_suffixes, is_suffix, is_comma, more_at, expressions_at, host_at, host_of_two_at, new_after_at, big_after_at, primary_at, suffix_at, suffixes_at, expression_after_at, infix_after_at, tail_at, unary_at, parenthesis_after_at, parenthesis_at, bracketed_at, wordless_level, expression_level, expression_at, wordless_at}
use Rattle.js_read_spec.proofs.HeadLaws.{IsParenthesisHead, law_properties, law_heads, law_new_heads, law_parenthesis_heads, law_infixes}
use Rattle.js_read_spec.proofs.NumberLaws.{law_number, law_below, after_number}
use Rattle.js_read_spec.proofs.UnitLaws.{law_unit, starts_unit}
use Rattle.js_read_spec.proofs.ExpressionForms.{IsWordless, MoreForm, ExpressionsForm, HostForm, HostOfTwoForm, NewForm, BigForm, PrimaryForm, SuffixForm, SuffixesForm, AfterForm, InfixForm, TailForm, UnaryForm, ParenthesisWordForm, ParenthesisForm, StringForm, BracketedForm, WordlessForm, expression_to, expression_from, wordless_to, wordless_from, wordless_off, wordless_no_word, starts_heads, starts_plain, starts_bracketed, starts_wordless, is_wordless_start, is_bracket, is_expression_start, starts_expression}

-- what may follow a primary expression, and an expression
abbrev pub after_primary : ℕ → Bool
after_primary c = not (is_name_character c) && not (eqb c 40)

abbrev pub after_expression : ℕ → Bool
after_expression c = not (is_suffix c) && after_primary c

abbrev pub anything : ℕ → Bool
anything c = true

-- this byte passes what this byte passes
pub this_byte : (b : ℕ) (test : ℕ → Bool) → test b ≡ true → (c : ℕ) → eqb c b ≡ true → test c ≡ true
this_byte b test e c k = subst (λ (d : ℕ). test d ≡ true) (sym (eqb-true c b k)) e

pub same : (test : ℕ → Bool) (c : ℕ) → test c ≡ true → test c ≡ true
same test c e = e

pub fits : {A : Type 0} (n : ℕ) (P : Spelling A) (x : A) (text : List ℕ) → P x text → n ≤ n + length text
fits n P x text p = omega arith

ends_primary : (c : ℕ) → after_primary c ≡ true → ends_word c ≡ true
ends_primary c e = (both (not (is_name_character c)) (not (eqb c 40)) e).0

no_parenthesis : (c : ℕ) → after_primary c ≡ true → not (eqb c 40) ≡ true
no_parenthesis c e = (both (not (is_name_character c)) (not (eqb c 40)) e).1

pub after_both : (c : ℕ) → after_expression c ≡ true → (not (is_suffix c) ≡ true) × (after_primary c ≡ true)
after_both c e = both (not (is_suffix c)) (after_primary c) e

turned : (b : Bool) → not b ≡ true → b ≡ false
turned true e = absurd cc
turned false e = refl

no_number : (c : ℕ) → after_expression c ≡ true → after_number c ≡ true
no_number c e = elim (cases (after_number c)) [
  | inl k ↦ k
  | inr k ↦ absurd (clash (elim (cases (is_digit c)) [ inl d ↦ digit d | inr d ↦ elim (cases (eqb c 110)) [ inl l ↦ letter (eqb-true c 110 l) | inr l ↦ absurd (let t : after_number c ≡ true = rw (d, l) refl in let b : true ≡ false = sym t ∙ k in cc b) ] ]))
]
  where
    clash : is_name_character c ≡ true → ⊥
    clash t = let f = turned (is_name_character c) (ends_primary c (after_both c e).1) in let b : true ≡ false = sym t ∙ f in cc b

    or_true : (a b : Bool) → b ≡ true → (a || b) ≡ true
    or_true true b e = refl
    or_true false b e = e

    digit : is_digit c ≡ true → is_name_character c ≡ true
    digit d = or_true _ _ (or_true _ _ d)

    letter : c ≡ 110 → is_name_character c ≡ true
    letter is = subst (λ (d : ℕ). is_name_character d ≡ true) (sym is) refl

suffix_apart : (c : ℕ) → not (is_suffix c) ≡ true → is_suffix c ≡ false
suffix_apart c e = turned (is_suffix c) e

suffix_after : (c : ℕ) → is_suffix c ≡ true → after_primary c ≡ true
suffix_after c e = elim (cases (eqb c 46)) [
  | inl k ↦ this_byte 46 after_primary refl c k
  | inr k ↦ this_byte 91 after_primary refl c (rw k at e)
]

starts_suffix : Starts is_suffix SuffixForm
starts_suffix = starts_either is_suffix _ _ (starts_leads is_suffix 46 _ _ refl) (starts_leads is_suffix 91 _ _ refl)

-- what stands behind a list's items
abbrev after_items : ℕ → Bool
after_items c = after_expression c && not (is_comma c)

module _ (n m : ℕ) (le : n ≤ m) (read again : List ℕ → Reading Expression) (inner : Law n after_expression read again SpellsExpression) where
  -- an expression inside, and a part behind it that begins with a byte that may follow
  behind : {B : Type 0} {next next' : Expression → List ℕ → Reading B} {Q : Expression → Spelling B} (stop : ℕ → Bool) → ((e : Expression) → Follows after_expression (Q e) stop)
      → ((e : Expression) (text : List ℕ) → SpellsExpression e text → Law n stop (next e) (next' e) (Q e)) → Law n stop (λ bytes. after_at read next bytes) (λ bytes. after_at again next' bytes) (SpellsExpression then Q)
  behind stop follows laws = law_after n n after_expression stop (fits n _) follows inner laws

  law_more : Law n after_items (more_at read n) (more_at again m) MoreForm
  unfolding more_at
  law_more = law_list is_comma after_expression after_items le (starts_leads is_comma 44 _ _ refl) (λ c e. this_byte 44 after_expression refl c e)
      (λ c e. turned (is_comma c) (both (after_expression c) (not (is_comma c)) e).1) (λ c e. (both (after_expression c) (not (is_comma c)) e).0) (law_lead (codes ", ") inner)

  law_expressions : (close : ℕ) → eqb close close ≡ true → is_expression_start close ≡ false → after_expression close ≡ true → after_items close ≡ true → Law n anything (expressions_at read n close) (expressions_at again m close) (ExpressionsForm close)
  unfolding expressions_at
  law_expressions close is start after items =
      law_either (λ c. eqb c close) (starts_mapped _ _ _ (starts_literal _ close [] is)) (follows_starts _ anything is_expression_start _ (apart is_expression_start close start) (starts_then is_expression_start _ _ starts_expression))
      (law_map (λ u. no_expressions) (law_literal (close ∷ [])))
      (behind anything (λ e. follows_then after_expression _ _ anything (follows_list after_expression is_comma _ after_expression (λ c k. this_byte 44 after_expression refl c k) (starts_leads is_comma 44 _ _ refl) (same after_expression)) (λ es. follows_mapped after_expression _ _ anything (follows_literal after_expression close [] anything after)))
      (λ e text p. law_after n n after_items anything (fits n _) (λ es. follows_mapped after_items _ _ anything (follows_literal after_items close [] anything items)) law_more (λ es text p. law_map (λ u. expression e (expressions_of es)) (law_literal (close ∷ [])))))

  law_arguments : Law n anything (expressions_at read n 41) (expressions_at again m 41) (ExpressionsForm 41)
  law_arguments = law_expressions 41 refl refl refl refl

  -- `e)`
  law_last : {A : Type 0} (f : Expression → A) → Law n anything (λ bytes. after_at read (λ e. map_at (λ u. f e) (literal_at (codes ")"))) bytes) (λ bytes. after_at again (λ e. map_at (λ u. f e) (literal_at (codes ")"))) bytes) (SpellsExpression then λ e. IsMapped (λ u. f e) (IsLiteral (codes ")")))
  law_last f = behind anything (λ e. follows_mapped after_expression _ _ anything (follows_literal after_expression 41 [] anything refl)) (λ e text p. law_map (λ u. f e) (law_literal (codes ")")))

  law_host : (f : HostFunction) → Law n anything (host_at read n f) (host_at again m f) (HostForm f)
  unfolding host_at
  law_host f = law_last (λ e. host_call f e)

  law_host_of_two : (f : HostOperation) → Law n anything (host_of_two_at read n f) (host_of_two_at again m f) (HostOfTwoForm f)
  unfolding host_of_two_at
  law_host_of_two f = behind anything (λ a. follows_leads after_expression 44 _ _ anything refl) (λ a text p. law_lead (codes ", ") (law_last (λ b. host_call_of_two f a b)))

  law_new : (h : NewHead) → Law n anything (new_after_at read n h) (new_after_at again m h) (NewForm h)
  unfolding new_after_at
  law_new (news.Name x) = law_lead (codes "(") (law_map (λ es. new_of x es) law_arguments)
  law_new news.Array = law_lead (codes "(") (law_last (λ e. new_array_of e))

  new_follows : (h : NewHead) → Follows ends_word (NewForm h) anything
  new_follows (news.Name x) = follows_leads ends_word 40 _ _ anything refl
  new_follows news.Array = follows_leads ends_word 40 _ _ anything refl

  law_big : Law n anything (big_after_at read n) (big_after_at again m) BigForm
  unfolding big_after_at
  law_big = law_either (λ c. eqb c 40) (starts_leads _ 40 _ _ refl) (follows_leads _ 46 _ _ anything refl) (law_lead (codes "(") (law_host BigInt))
      (law_lead (codes ".as") (law_either (λ c. eqb c 73) (starts_leads _ 73 _ _ refl) (follows_leads _ 85 _ _ anything refl) (law_lead (codes "IntN(") (law_host_of_two BigIntAsIntN)) (law_lead (codes "UintN(") (law_host_of_two BigIntAsUintN))))

  narrow : {A : Type 0} {r s : List ℕ → Reading A} {P : Spelling A} → Law n anything r s P → Law n after_primary r s P
  narrow law = law_narrow after_primary (λ c e. refl) law

  law_primary : (h : Head) → Law n after_primary (primary_at read n h) (primary_at again m h) (PrimaryForm h)
  unfolding primary_at
  law_primary (heads.Name x) = law_either (λ c. eqb c 40) (starts_leads _ 40 _ _ refl) (follows_value _ _ after_primary no_parenthesis) (law_lead (codes "(") (law_map (λ es. call_of x es) (narrow law_arguments))) (law_value (name_use x))
  law_primary heads.Null = law_value null_literal
  law_primary heads.True = law_value (boolean_literal true)
  law_primary heads.False = law_value (boolean_literal false)
  law_primary heads.This = law_value this_use
  law_primary heads.New = narrow (law_lead (codes " ") (law_after n n ends_word anything (fits n _) new_follows law_new_heads (λ h text p. law_new h)))
  law_primary heads.BigInt = narrow law_big
  law_primary heads.Number = narrow (law_lead (codes "(") (law_host Number))
  law_primary heads.Math = narrow (law_lead (codes ".imul(") (law_host_of_two MathImul))
  law_primary heads.String = narrow (law_lead (codes ".fromCharCode(") (law_host StringFromCharCode))
  law_primary heads.Console = narrow (law_lead (codes ".log(") (law_host ConsoleLog))

  law_suffix : Law n after_primary (suffix_at read n) (suffix_at again m) SuffixForm
  unfolding suffix_at
  law_suffix = law_either (λ c. eqb c 46) (starts_leads _ 46 _ _ refl) (follows_leads _ 91 _ _ after_primary refl)
      (law_lead (codes ".") (law_after n n ends_word after_primary (fits n _) (λ p. follows_either ends_word _ _ after_primary (follows_leads ends_word 40 _ _ after_primary refl) (follows_value ends_word _ after_primary ends_primary)) law_properties (λ p text q.
      law_either (λ c. eqb c 40) (starts_leads _ 40 _ _ refl) (follows_value _ _ after_primary no_parenthesis) (law_lead (codes "(") (law_map (λ es. method_suffix p es) (narrow law_arguments))) (law_value (property_suffix p)))))
      (narrow (law_lead (codes "[") (behind anything (λ i. follows_mapped after_expression _ _ anything (follows_literal after_expression 93 [] anything refl)) (λ i text p. law_map (λ u. index_suffix i) (law_literal (codes "]"))))))

  law_suffixes : (e : Expression) → Law n after_expression (suffixes_at read n e) (suffixes_at again m e) (SuffixesForm e)
  unfolding suffixes_at
  law_suffixes e = law_map (λ ss. with_suffixes ss e) (law_list is_suffix after_primary after_expression le starts_suffix suffix_after (λ c k. suffix_apart c (after_both c k).0) (λ c k. (after_both c k).1) law_suffix)

  suffixes_follow : (e : Expression) → Follows after_primary (SuffixesForm e) after_expression
  suffixes_follow e = follows_mapped after_primary _ _ after_expression (follows_list after_primary is_suffix _ after_expression suffix_after starts_suffix (λ c k. (after_both c k).1))

  pub law_expression_after : (h : Head) → Law n after_expression (expression_after_at read n h) (expression_after_at again m h) (AfterForm h)
  unfolding expression_after_at
  law_expression_after h = law_after n n after_primary after_expression (fits n _) suffixes_follow (law_primary h) (λ e text p. law_suffixes e)

  infix_follows : (a : Expression) (o : Infix) → Follows is_space (InfixForm a o) anything
  infix_follows a (infixes.Operator op) = follows_leads is_space 32 _ _ anything refl
  infix_follows a infixes.Question = follows_leads is_space 32 _ _ anything refl

  law_infix_after : (a : Expression) (o : Infix) → Law n anything (infix_after_at read n a o) (infix_after_at again m a o) (InfixForm a o)
  unfolding infix_after_at
  law_infix_after a (infixes.Operator op) = law_lead (codes " ") (law_last (λ b. binary_of a op b))
  law_infix_after a infixes.Question = law_lead (codes " ") (behind anything (λ b. follows_leads after_expression 32 _ _ anything refl) (λ b text p. law_lead (codes " : ") (law_last (λ c. conditional_of a b c))))

  law_tail : (a : Expression) → Law n anything (tail_at read n a) (tail_at again m a) (TailForm a)
  unfolding tail_at
  law_tail a = law_lead (codes " ") (law_after n n is_space anything (fits n _) (infix_follows a) law_infixes (λ o text p. law_infix_after a o))

  law_unary : (op : UnaryOperator) → Law n anything (unary_at read n op) (unary_at again m op) (UnaryForm op)
  unfolding unary_at
  law_unary op = law_last (λ e. unary_of op e)

  law_parenthesis_after : (h : ParenthesisHead) → Law n anything (parenthesis_after_at read n h) (parenthesis_after_at again m h) (ParenthesisWordForm h)
  unfolding parenthesis_after_at
  law_parenthesis_after parentheses.Void = law_lead (codes " 0)") (law_value undefined_literal)
  law_parenthesis_after parentheses.TypeOf = law_lead (codes " ") (law_unary TypeOf)
  law_parenthesis_after (parentheses.Expression h) = law_after n n after_expression anything (fits n _) (λ a. follows_leads after_expression 32 _ _ anything refl) (law_expression_after h) (λ a text p. law_tail a)

  -- what stands behind a word that may be a keyword ends the word
  primary_follows : (h : Head) → Follows ends_word (PrimaryForm h) after_primary
  primary_follows (heads.Name x) = follows_either ends_word _ _ after_primary (follows_leads ends_word 40 _ _ after_primary refl) (follows_value ends_word _ after_primary ends_primary)
  primary_follows heads.Null = follows_value ends_word _ after_primary ends_primary
  primary_follows heads.True = follows_value ends_word _ after_primary ends_primary
  primary_follows heads.False = follows_value ends_word _ after_primary ends_primary
  primary_follows heads.This = follows_value ends_word _ after_primary ends_primary
  primary_follows heads.New = follows_leads ends_word 32 _ _ after_primary refl
  primary_follows heads.BigInt = follows_either ends_word _ _ after_primary (follows_leads ends_word 40 _ _ after_primary refl) (follows_leads ends_word 46 _ _ after_primary refl)
  primary_follows heads.Number = follows_leads ends_word 40 _ _ after_primary refl
  primary_follows heads.Math = follows_leads ends_word 46 _ _ after_primary refl
  primary_follows heads.String = follows_leads ends_word 46 _ _ after_primary refl
  primary_follows heads.Console = follows_leads ends_word 46 _ _ after_primary refl

  pub after_follows : (h : Head) → Follows ends_word (AfterForm h) after_expression
  after_follows h y back rest p st =
      let tail : Stops after_primary (p.back ++ rest) = suffixes_follow p.value y p.back rest p.second st in
      rw (p.parts, append_assoc p.front p.back rest) (primary_follows h p.value p.front (p.back ++ rest) p.first tail)

  parenthesis_follows : (h : ParenthesisHead) → Follows ends_word (ParenthesisWordForm h) anything
  parenthesis_follows parentheses.Void = follows_leads ends_word 32 _ _ anything refl
  parenthesis_follows parentheses.TypeOf = follows_leads ends_word 32 _ _ anything refl
  parenthesis_follows (parentheses.Expression h) = λ y back rest p st.
      let tail : Stops after_expression (p.back ++ rest) = follows_leads after_expression 32 [] _ anything refl y p.back rest p.second st in
      rw (p.parts, append_assoc p.front p.back rest) (after_follows h p.value p.front (p.back ++ rest) p.first tail)

  module _ (wordless wordless' : List ℕ → Reading Expression) (bare : Law n after_expression wordless wordless' IsWordless) where
    starts_parenthesis_word : Starts is_word_start (IsParenthesisHead then ParenthesisWordForm)
    starts_parenthesis_word = starts_then is_word_start _ _ starts
      where
        starts : Starts is_word_start IsParenthesisHead
        starts parentheses.Void text p = rw p.same refl
        starts parentheses.TypeOf text p = rw p.same refl
        starts (parentheses.Expression h) text p = starts_heads h text p

    not_word : (c : ℕ) → is_wordless_start c ≡ true → not (is_word_start c) ≡ true
    not_word c e = rw (wordless_no_word c e) refl

    starts_bare : Starts is_wordless_start (IsWordless then TailForm)
    starts_bare = starts_then is_wordless_start _ _ (λ e text w. starts_wordless e text (wordless_from e text w))

    law_parenthesis : Law n anything (parenthesis_at read n wordless) (parenthesis_at again m wordless') ParenthesisForm
    unfolding parenthesis_at
    law_parenthesis =
        law_either (λ c. eqb c 33) (starts_leads _ 33 _ _ refl) (follows_either _ _ _ anything (follows_leads _ 45 _ _ anything refl) (follows_either _ _ _ anything (follows_starts _ anything is_word_start _ (apart is_word_start 33 refl) starts_parenthesis_word) (follows_starts _ anything is_wordless_start _ (apart is_wordless_start 33 refl) starts_bare)))
        (law_lead (codes "!") (law_unary Not))
        (law_either (λ c. eqb c 45) (starts_leads _ 45 _ _ refl) (follows_either _ _ _ anything (follows_starts _ anything is_word_start _ (apart is_word_start 45 refl) starts_parenthesis_word) (follows_starts _ anything is_wordless_start _ (apart is_wordless_start 45 refl) starts_bare))
        (law_lead (codes "-") law_below)
        (law_either is_word_start starts_parenthesis_word (follows_starts _ anything is_wordless_start _ not_word starts_bare)
        (law_after n n ends_word anything (fits n _) parenthesis_follows law_parenthesis_heads (λ h text p. law_parenthesis_after h))
        (law_after n n after_expression anything (fits n _) (λ a. follows_leads after_expression 32 _ _ anything refl) bare (λ a text p. law_tail a))))

    law_string : Law n anything (string_at n) (string_at m) StringForm
    unfolding string_at
    law_string = law_after n n (λ c. eqb c 34) anything (fits n _) (λ us. follows_leads _ 34 _ _ anything refl)
        (law_list (λ c. not (eqb c 34)) anything (λ c. eqb c 34) le starts_unit (λ c e. refl) (λ c e. rw e refl) (λ c e. refl) law_unit)
        (λ us text p. law_lead (codes "\"") (law_value (text_literal us)))

    law_bracketed : Law (suc n) anything (bracketed_at read n wordless) (bracketed_at again m wordless') BracketedForm
    unfolding bracketed_at
    law_bracketed =
        law_either (λ c. eqb c 34) (starts_leads _ 34 _ _ refl) (follows_either _ _ _ anything (follows_leads _ 91 _ _ anything refl) (follows_leads _ 40 _ _ anything refl)) (law_behind 34 [] law_string)
        (law_either (λ c. eqb c 91) (starts_leads _ 91 _ _ refl) (follows_leads _ 40 _ _ anything refl) (law_behind 91 [] (law_map (λ es. list_of es) (law_expressions 93 refl refl refl refl))) (law_behind 40 [] law_parenthesis))

    longer : (test : ℕ → Bool) (text : List ℕ) → passes test text ≡ true → suc n ≤ n + length text
    longer test [] e = absurd cc
    longer test (c ∷ text) e = omega arith

    law_wordless_form : Law (suc n) after_expression (wordless_level read n wordless) (wordless_level again m wordless') WordlessForm
    unfolding wordless_level
    law_wordless_form =
        law_either is_digit starts_plain (follows_starts _ after_expression is_bracket _ (λ c e. bracket_no_digit c e) (starts_then is_bracket _ _ starts_bracketed))
        (law_narrow after_expression no_number law_number)
        (law_after (suc n) n after_primary after_expression (λ e text p. longer is_bracket text (starts_bracketed e text p)) suffixes_follow (law_narrow after_primary (λ c e. refl) law_bracketed) (λ e text p. law_suffixes e))
      where
        bracket_no_digit : (c : ℕ) → is_bracket c ≡ true → not (is_digit c) ≡ true
        bracket_no_digit c e = elim (cases (eqb c 34)) [
          | inl k ↦ this_byte 34 (λ d. not (is_digit d)) refl c k
          | inr k ↦ elim (cases (eqb c 91)) [
            | inl l ↦ this_byte 91 (λ d. not (is_digit d)) refl c l
            | inr l ↦ this_byte 40 (λ d. not (is_digit d)) refl c (rw (k, l) at e)
          ]
        ]

    pub law_wordless_level : Law (suc n) after_expression (wordless_level read n wordless) (wordless_level again m wordless') IsWordless
    law_wordless_level = law_same (λ e text p. record { spelled = wordless_to e text p; off = wordless_off e text p }) wordless_from law_wordless_form

    pub law_expression_level : Law (suc n) after_expression (expression_level read n wordless) (expression_level again m wordless') SpellsExpression
    unfolding expression_level
    law_expression_level = law_same expression_to expression_from
        (law_either is_word_start (starts_then is_word_start _ _ starts_heads) (follows_starts _ after_expression is_wordless_start _ not_word starts_wordless)
        (law_after (suc n) n ends_word after_expression (λ h text p. longer is_word_start text (starts_heads h text p)) after_follows law_heads (λ h text p. law_expression_after h))
        law_wordless_form)

-- ---- the knot

record Both (n m : ℕ) : Type 0 where
  whole : Law n after_expression (expression_at n) (expression_at m) SpellsExpression
  bare : Law n after_expression (wordless_at n) (wordless_at m) IsWordless

some_expression : Begins SpellsExpression []
unfolding SpellsExpression
some_expression = record { value = this_use; more = codes "this"; spelled = record { same = refl } }

some_wordless : Begins IsWordless []
unfolding SpellsExpression
some_wordless = record { value = undefined_literal; more = codes "(void 0)"; spelled = record { spelled = record { same = refl }; off = refl } }

both_laws : (n m : ℕ) → n ≤ m → Both n m
unfolding expression_at wordless_at
both_laws zero m le = record { whole = law_zero some_expression; bare = law_zero some_wordless }
both_laws (suc n) zero le = absurd (omega arith)
both_laws (suc n) (suc m) le =
    let b = both_laws n m (omega arith) in
    record {
      whole = law_expression_level n m (omega arith) (expression_at n) (expression_at m) b.whole (wordless_at n) (wordless_at m) b.bare;
      bare = law_wordless_level n m (omega arith) (expression_at n) (expression_at m) b.whole (wordless_at n) (wordless_at m) b.bare;
    }

pub law_expression : (n m : ℕ) → n ≤ m → Law n after_expression (expression_at n) (expression_at m) SpellsExpression
law_expression n m le = (both_laws n m le).whole

pub law_wordless : (n m : ℕ) → n ≤ m → Law n after_expression (wordless_at n) (wordless_at m) IsWordless
law_wordless n m le = (both_laws n m le).bare
