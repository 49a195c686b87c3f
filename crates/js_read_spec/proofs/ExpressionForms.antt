-- One level of the grammar of expressions as the reader takes it, and that it is the grammar.
use Rattle.std.proofs.Common.{◌≡◌, ℕ, ℤ, pos, negsuc, Bool, true, false, not, ◌&&◌, ◌||◌, eqb, List, [], ◌∷◌, ◌++◌, length, refl, sym, ap, ap₂, subst, ◌∙◌, append_assoc, append-nil, ◌⊎◌, inl, inr, codes, decimal, ◌^◌, ◌<◌, ◌≤◌, arith}
use Rattle.std.specs.List.{list_all}
use Rattle.std.proofs.lemmas.Bool.{eqb-true, ltb-true}
use Rattle.std.proofs.lemmas.Fmt.{decimal_nonempty, digits_decimal}
use Rattle.exact_place.proofs.Steps.{cases}
use Rattle.exact_place.proofs.Words.{both}
use Rattle.exact_place.proofs.Numbers.{own}
use Rattle.exact_place.proofs.Sequence.{Starts}
use Rattle.exact_place.proofs.First.{starts_leads, starts_either, starts_then, starts_wider}
use Rattle.js_tree.specs.Names.{is_name_character, is_digit, is_name}
use Rattle.js_tree.specs.Rules.{is_receiver}
use Rattle.js_tree.specs.Words.{unary_text, host_text, host_of_two_text}
use Rattle.js_tree.specs.Written.{Grammar, Is, ◌●◌}
use Rattle.js_tree.specs.Spelling.{SpellsName, SpellsProperty, SpellsInteger, SpellsNumber, SpellsBig, SpellsUnit, SpellsText, SpellsBoolean, SpellsExpression, SpellsExpressions, SpellsMoreExpressions}
use Rattle.js_tree.specs.Terms.{Name, Expression, null_literal, boolean_literal, undefined_literal, number_literal, big_literal, text_literal, name_use, this_use, property_of, index_of, call_of, method_call_of, new_of, new_array_of, list_of, binary_of, unary_of, conditional_of, host_call, host_call_of_two, Expressions, no_expressions, expression}
use Rattle.js_tree.specs.Views.{expressions_of}
use Rattle.js_tree.specs.declared.operators.UnaryOperator.{UnaryOperator}
use Rattle.js_tree.specs.declared.operators.UnaryOperator.TheVariants.{Not, TypeOf}
use Rattle.js_tree.specs.declared.operators.HostFunction.{HostFunction}
use Rattle.js_tree.specs.declared.operators.HostFunction.TheVariants.{BigInt, Number, StringFromCharCode, ConsoleLog}
use Rattle.js_tree.specs.declared.operators.HostOperation.{HostOperation}
use Rattle.js_tree.specs.declared.operators.HostOperation.TheVariants.{BigIntAsIntN, BigIntAsUintN, MathImul}
use Rattle.js_read_spec.specs.declared.words.Head.{Head}
use Rattle.js_read_spec.specs.declared.words.Head.TheVariants as heads
use Rattle.js_read_spec.specs.declared.words.NewHead.{NewHead}
use Rattle.js_read_spec.specs.declared.words.NewHead.TheVariants as news
use Rattle.js_read_spec.specs.declared.words.ParenthesisHead.{ParenthesisHead}
use Rattle.js_read_spec.specs.declared.words.ParenthesisHead.TheVariants as parentheses
use Rattle.js_read_spec.specs.declared.words.Infix.{Infix}
use Rattle.js_read_spec.specs.declared.words.Infix.TheVariants as infixes
use Rattle.exact_place.specs.Reading.{passes}
use Rattle.exact_place.specs.Grammar.{Spelling, ◌then◌, Leads, Either, first, second, IsLiteral, IsValue, IsMapped, IsList, no_items, an_item}
use Rattle.js_read_spec.specs.Words.{is_word_start}
use Rattle.js_read_spec.specs.Expressions.{Suffix, property_suffix, method_suffix, index_suffix, with_suffix, with_suffixes}
use Rattle.js_read_spec.proofs.Parts.{seq, led, lead_of, leads, closing, no_more, each_to, each_from, list_last}
use Rattle.js_read_spec.proofs.HeadLaws.{IsHead, IsNewHead, IsParenthesisHead, IsInfix}
use Rattle.js_read_spec.proofs.NumberLaws.{IsPlain, plain_number, plain_big, IsBelowZero, below_number, below_big}

-- ---- the level

pub record IsWordless (e : Expression) (text : List ℕ) : Type 0 where
  pub spelled : SpellsExpression e text
  pub off : passes is_word_start text ≡ false

abbrev pub MoreForm : Spelling (List Expression)
MoreForm = IsList (Leads (codes ", ") SpellsExpression)

abbrev pub ExpressionsForm : ℕ → Spelling Expressions
ExpressionsForm close = Either (IsMapped (λ u. no_expressions) (IsLiteral (close ∷ [])))
    (SpellsExpression then λ e. MoreForm then λ es. IsMapped (λ u. expression e (expressions_of es)) (IsLiteral (close ∷ [])))

abbrev pub HostForm : HostFunction → Spelling Expression
HostForm f = SpellsExpression then λ e. IsMapped (λ u. host_call f e) (IsLiteral (codes ")"))

abbrev pub HostOfTwoForm : HostOperation → Spelling Expression
HostOfTwoForm f = SpellsExpression then λ a. Leads (codes ", ") (SpellsExpression then λ b. IsMapped (λ u. host_call_of_two f a b) (IsLiteral (codes ")")))

abbrev pub NewForm : NewHead → Spelling Expression
NewForm (news.Name x) = Leads (codes "(") (IsMapped (λ es. new_of x es) (ExpressionsForm 41))
NewForm news.Array = Leads (codes "(") (SpellsExpression then λ e. IsMapped (λ u. new_array_of e) (IsLiteral (codes ")")))

abbrev pub BigForm : Spelling Expression
BigForm = Either (Leads (codes "(") (HostForm BigInt))
    (Leads (codes ".as") (Either (Leads (codes "IntN(") (HostOfTwoForm BigIntAsIntN)) (Leads (codes "UintN(") (HostOfTwoForm BigIntAsUintN))))

abbrev pub PrimaryForm : Head → Spelling Expression
PrimaryForm (heads.Name x) = Either (Leads (codes "(") (IsMapped (λ es. call_of x es) (ExpressionsForm 41))) (IsValue (name_use x))
PrimaryForm heads.Null = IsValue null_literal
PrimaryForm heads.True = IsValue (boolean_literal true)
PrimaryForm heads.False = IsValue (boolean_literal false)
PrimaryForm heads.This = IsValue this_use
PrimaryForm heads.New = Leads (codes " ") (IsNewHead then NewForm)
PrimaryForm heads.BigInt = BigForm
PrimaryForm heads.Number = Leads (codes "(") (HostForm Number)
PrimaryForm heads.Math = Leads (codes ".imul(") (HostOfTwoForm MathImul)
PrimaryForm heads.String = Leads (codes ".fromCharCode(") (HostForm StringFromCharCode)
PrimaryForm heads.Console = Leads (codes ".log(") (HostForm ConsoleLog)

abbrev pub SuffixForm : Spelling Suffix
SuffixForm = Either (Leads (codes ".") (SpellsProperty then λ p. Either (Leads (codes "(") (IsMapped (λ es. method_suffix p es) (ExpressionsForm 41))) (IsValue (property_suffix p))))
    (Leads (codes "[") (SpellsExpression then λ i. IsMapped (λ u. index_suffix i) (IsLiteral (codes "]"))))

abbrev pub SuffixesForm : Expression → Spelling Expression
SuffixesForm e = IsMapped (λ ss. with_suffixes ss e) (IsList SuffixForm)

abbrev pub AfterForm : Head → Spelling Expression
AfterForm h = PrimaryForm h then SuffixesForm

abbrev pub InfixForm : Expression → Infix → Spelling Expression
InfixForm a (infixes.Operator op) = Leads (codes " ") (SpellsExpression then λ b. IsMapped (λ u. binary_of a op b) (IsLiteral (codes ")")))
InfixForm a infixes.Question = Leads (codes " ") (SpellsExpression then λ b. Leads (codes " : ") (SpellsExpression then λ c. IsMapped (λ u. conditional_of a b c) (IsLiteral (codes ")"))))

abbrev pub TailForm : Expression → Spelling Expression
TailForm a = Leads (codes " ") (IsInfix then InfixForm a)

abbrev pub UnaryForm : UnaryOperator → Spelling Expression
UnaryForm op = SpellsExpression then λ e. IsMapped (λ u. unary_of op e) (IsLiteral (codes ")"))

abbrev pub ParenthesisWordForm : ParenthesisHead → Spelling Expression
ParenthesisWordForm parentheses.Void = Leads (codes " 0)") (IsValue undefined_literal)
ParenthesisWordForm parentheses.TypeOf = Leads (codes " ") (UnaryForm TypeOf)
ParenthesisWordForm (parentheses.Expression h) = AfterForm h then TailForm

abbrev pub ParenthesisForm : Spelling Expression
ParenthesisForm = Either (Leads (codes "!") (UnaryForm Not)) (Either (Leads (codes "-") IsBelowZero) (Either (IsParenthesisHead then ParenthesisWordForm) (IsWordless then TailForm)))

abbrev pub StringForm : Spelling Expression
StringForm = IsList SpellsUnit then λ us. Leads (codes "\"") (IsValue (text_literal us))

abbrev pub BracketedForm : Spelling Expression
BracketedForm = Either (Leads (codes "\"") StringForm) (Either (Leads (codes "[") (IsMapped (λ es. list_of es) (ExpressionsForm 93))) (Leads (codes "(") ParenthesisForm))

abbrev pub WordlessForm : Spelling Expression
WordlessForm = Either IsPlain (BracketedForm then SuffixesForm)

abbrev pub ExpressionForm : Spelling Expression
ExpressionForm = Either (IsHead then AfterForm) WordlessForm

-- ---- from the level to the grammar

-- an expression that a suffix may follow
pub record Received (e : Expression) (text : List ℕ) : Type 0 where
  pub spelled : SpellsExpression e text
  pub receiver : is_receiver e ≡ true

more_expressions_to : {es : List Expression} {text : List ℕ} → MoreForm es text → SpellsMoreExpressions (expressions_of es) text
unfolding SpellsMoreExpressions
more_expressions_to no_items = record { same = refl }
more_expressions_to (an_item {front = front} {back = back} p l) = led (codes ", ") (p.back ++ back) (ap (λ (x : List ℕ). x ++ back) p.parts) (seq p.back back refl p.second (more_expressions_to l))

pub expressions_to : (close : ℕ) (es : Expressions) (text : List ℕ) → ExpressionsForm close es text → (SpellsExpressions es ● Is (close ∷ [])) text
unfolding SpellsExpressions
expressions_to close es text (first p) = rw p.is (seq [] text refl (record { same = refl }) (record { same = p.first.is }))
expressions_to close es text (second p) =
    let q = p.second in
    rw q.second.is (seq (p.front ++ q.front) q.back (p.parts ∙ ap (λ (x : List ℕ). p.front ++ x) q.parts ∙ sym (append_assoc p.front q.front q.back)) (seq p.front q.front refl p.first (more_expressions_to q.first)) (record { same = q.second.first.is }))

-- the expressions, and the byte that closes them, in one list with what is before
arguments_to : {P : Grammar} {text : List ℕ} (front back : List ℕ) (es : Expressions) → text ≡ front ++ back → P front → Leads (codes "(") (ExpressionsForm 41) es back → (P ● Is (codes "(") ● SpellsExpressions es ● Is (codes ")")) text
arguments_to front back es parts p l = seq front back parts p (led (codes "(") l.back l.parts (expressions_to 41 es l.back l.second))

-- a host function's word, whole
host_to : (f : HostFunction) (e : Expression) (text back : List ℕ) → text ≡ host_text f ++ (codes "(" ++ back) → HostForm f e back → Received e text
unfolding SpellsExpression
host_to f e text back parts p = rw p.second.is (record {
  spelled = seq (host_text f) (codes "(" ++ back) parts (record { same = refl }) (led (codes "(") back refl (seq p.front p.back p.parts p.first (record { same = p.second.first.is })));
  receiver = refl;
})

host_of_two_to : (f : HostOperation) (e : Expression) (text back : List ℕ) → text ≡ host_of_two_text f ++ (codes "(" ++ back) → HostOfTwoForm f e back → Received e text
unfolding SpellsExpression
host_of_two_to f e text back parts p =
    let q = p.second.second in
    rw q.second.is (record {
      spelled = seq (host_of_two_text f) (codes "(" ++ back) parts (record { same = refl }) (led (codes "(") back refl (seq p.front p.back p.parts p.first (led (codes ", ") p.second.back p.second.parts (seq q.front q.back q.parts q.first (record { same = q.second.first.is })))));
      receiver = refl;
    })

-- a keyword and what is behind it
joined : {front back w whole : List ℕ} → front ≡ w → back ≡ whole → front ++ back ≡ w ++ whole
joined e f = ap₂ (λ (x y : List ℕ). x ++ y) e f

alone : {e k : Expression} {front back w : List ℕ} → front ≡ w → IsValue k e back → SpellsExpression k w → is_receiver k ≡ true → Received e (front ++ back)
alone {e} {k} {front} {back} {w} is v s r = rw (v.same, v.empty, append-nil front, is) (record { spelled = s; receiver = r })

new_to : (h : NewHead) (e : Expression) (text one two : List ℕ) → text ≡ codes "new " ++ (one ++ two) → IsNewHead h one → NewForm h e two → Received e text
unfolding SpellsExpression
new_to (news.Name x) e text one two parts n p = rw p.second.is (record {
  spelled = led (codes "new ") (one ++ two) parts (seq one two refl n (led (codes "(") p.back p.parts (expressions_to 41 p.second.value p.back p.second.first)));
  receiver = refl;
})
new_to news.Array e text one two parts n p =
    let q = p.second in
    let whole : text ≡ codes "new Array(" ++ p.back = parts ∙ ap (λ (x : List ℕ). codes "new " ++ x) (joined n.same p.parts) in
    rw q.second.is (record { spelled = led (codes "new Array(") p.back whole (seq q.front q.back q.parts q.first (record { same = q.second.first.is })); receiver = refl })

big_to : (e : Expression) (front back : List ℕ) → front ≡ codes "BigInt" → BigForm e back → Received e (front ++ back)
big_to e front back is (first p) = host_to BigInt e (front ++ back) p.back (joined is p.parts) p.second
big_to e front back is (second p) = elim p.second [
  | first q ↦ host_of_two_to BigIntAsIntN e (front ++ back) q.back (joined is (p.parts ∙ ap (λ (x : List ℕ). codes ".as" ++ x) q.parts)) q.second
  | second q ↦ host_of_two_to BigIntAsUintN e (front ++ back) q.back (joined is (p.parts ∙ ap (λ (x : List ℕ). codes ".as" ++ x) q.parts)) q.second
]

primary_to : (h : Head) (e : Expression) (front back : List ℕ) → IsHead h front → PrimaryForm h e back → Received e (front ++ back)
unfolding SpellsExpression SpellsBoolean
primary_to (heads.Name x) e front back n (first p) = rw p.second.is (record { spelled = arguments_to front back p.second.value refl n (record { back = p.back; second = p.second.first; parts = p.parts }); receiver = refl })
primary_to (heads.Name x) e front back n (second p) = rw (p.same, p.empty, append-nil front) (record { spelled = n; receiver = refl })
primary_to heads.Null e front back n p = alone n.same p (record { same = refl }) refl
primary_to heads.True e front back n p = alone n.same p (record { same = refl }) refl
primary_to heads.False e front back n p = alone n.same p (record { same = refl }) refl
primary_to heads.This e front back n p = alone n.same p (record { same = refl }) refl
primary_to heads.New e front back n p =
    let q = p.second in
    new_to q.value e (front ++ back) q.front q.back (joined n.same p.parts ∙ ap (λ (x : List ℕ). codes "new " ++ x) q.parts) q.first q.second
primary_to heads.BigInt e front back n p = big_to e front back n.same p
primary_to heads.Number e front back n p = host_to Number e (front ++ back) p.back (joined n.same p.parts) p.second
primary_to heads.Math e front back n p = host_of_two_to MathImul e (front ++ back) p.back (joined n.same p.parts) p.second
primary_to heads.String e front back n p = host_to StringFromCharCode e (front ++ back) p.back (joined n.same p.parts) p.second
primary_to heads.Console e front back n p = host_to ConsoleLog e (front ++ back) p.back (joined n.same p.parts) p.second

suffix_to : (s : Suffix) (e : Expression) (front back : List ℕ) → Received e front → SuffixForm s back → Received (with_suffix s e) (front ++ back)
unfolding SpellsExpression
suffix_to s e front back r (first p) =
    let q = p.second in
    elim q.second [
      | first m ↦
          rw m.second.is (record {
            spelled = seq front back refl (record { holds = r.receiver; spelled = r.spelled }) (led (codes ".") p.back p.parts (arguments_to q.front q.back m.second.value q.parts q.first (record { back = m.back; second = m.second.first; parts = m.parts })));
            receiver = refl;
          })
      | second m ↦
          let whole : p.back ≡ q.front = q.parts ∙ ap (λ (x : List ℕ). q.front ++ x) m.empty ∙ append-nil q.front in
          rw m.same (record { spelled = seq front back refl (record { holds = r.receiver; spelled = r.spelled }) (led (codes ".") p.back p.parts (subst (λ (t : List ℕ). SpellsProperty q.value t) (sym whole) q.first)); receiver = refl })
    ]
suffix_to s e front back r (second p) =
    let q = p.second in
    rw q.second.is (record { spelled = seq front back refl (record { holds = r.receiver; spelled = r.spelled }) (led (codes "[") p.back p.parts (seq q.front q.back q.parts q.first (record { same = q.second.first.is }))); receiver = refl })

suffixes_to : {ss : List Suffix} {back : List ℕ} → IsList SuffixForm ss back → (e : Expression) (front : List ℕ) → Received e front → Received (with_suffixes ss e) (front ++ back)
unfolding with_suffixes
suffixes_to no_items e front r = rw append-nil r
suffixes_to (an_item {x = s} {xs = ss} {front = one} {back = two} p l) e front r = rw (← append_assoc front one two) (suffixes_to l (with_suffix s e) (front ++ one) (suffix_to s e front one r p))

pub after_to : (h : Head) (e : Expression) (front back : List ℕ) → IsHead h front → AfterForm h e back → Received e (front ++ back)
after_to h e front back n p =
    let whole : front ++ back ≡ (front ++ p.front) ++ p.back = ap (λ (x : List ℕ). front ++ x) p.parts ∙ sym (append_assoc front p.front p.back) in
    rw (p.second.is, whole) (suffixes_to p.second.first p.value (front ++ p.front) (primary_to h p.value front p.front n p.first))

-- behind `(` and an expression
tail_to : (a e : Expression) (text front back : List ℕ) → text ≡ codes "(" ++ (front ++ back) → SpellsExpression a front → TailForm a e back → Received e text
unfolding SpellsExpression
tail_to a e text front back parts s p = by p.second.value p.second.first p.second.second
  where
    by : (o : Infix) → IsInfix o p.second.front → InfixForm a o e p.second.back → Received e text
    by (infixes.Operator op) i q =
        let r = q.second in
        rw r.second.is (record {
          spelled = led (codes "(") (front ++ back) parts (seq front back refl s (led (codes " ") p.back p.parts (seq p.second.front p.second.back p.second.parts i (led (codes " ") q.back q.parts (seq r.front r.back r.parts r.first (record { same = r.second.first.is }))))));
          receiver = refl;
        })
    by infixes.Question i q =
        let r = q.second in
        let t = r.second.second in
        let whole : back ≡ codes " ? " ++ q.back = p.parts ∙ ap (λ (x : List ℕ). codes " " ++ x) (p.second.parts ∙ joined i.same q.parts) in
        rw t.second.is (record {
          spelled = led (codes "(") (front ++ back) parts (seq front back refl s (led (codes " ? ") q.back whole (seq r.front r.back r.parts r.first (led (codes " : ") r.second.back r.second.parts (seq t.front t.back t.parts t.first (record { same = t.second.first.is }))))));
          receiver = refl;
        })

unary_to : (op : UnaryOperator) (e : Expression) (text back : List ℕ) → text ≡ codes "(" ++ (unary_text op ++ back) → UnaryForm op e back → Received e text
unfolding SpellsExpression
unary_to op e text back parts p = rw p.second.is (record { spelled = led (codes "(") (unary_text op ++ back) parts (led (unary_text op) back refl (seq p.front p.back p.parts p.first (record { same = p.second.first.is }))); receiver = refl })

below_received : {e : Expression} {back : List ℕ} → IsBelowZero e back → Received e (codes "(-" ++ back)
unfolding SpellsExpression
below_received (below_number p) = record { spelled = p; receiver = refl }
below_received (below_big p) = record { spelled = p; receiver = refl }

parenthesis_to : (e : Expression) (text back : List ℕ) → text ≡ codes "(" ++ back → ParenthesisForm e back → Received e text
unfolding SpellsExpression
parenthesis_to e text back parts (first p) = unary_to Not e text p.back (parts ∙ ap (λ (x : List ℕ). codes "(" ++ x) p.parts) p.second
parenthesis_to e text back parts (second q) = elim q [
  | first p ↦ let whole : text ≡ codes "(-" ++ p.back = parts ∙ ap (λ (x : List ℕ). codes "(" ++ x) p.parts in rw whole (below_received p.second)
  | second r ↦ elim r [
    | first p ↦ by p.front p.back p.value p.first p.second (parts ∙ ap (λ (x : List ℕ). codes "(" ++ x) p.parts)
    | second p ↦ tail_to p.value e text p.front p.back (parts ∙ ap (λ (x : List ℕ). codes "(" ++ x) p.parts) p.first.spelled p.second
  ]
]
  where
    by : (front back : List ℕ) (h : ParenthesisHead) → IsParenthesisHead h front → ParenthesisWordForm h e back → text ≡ codes "(" ++ (front ++ back) → Received e text
    by front back parentheses.Void n p parts =
        let whole : text ≡ codes "(void 0)" = parts ∙ ap (λ (x : List ℕ). codes "(" ++ x) (joined n.same (p.parts ∙ ap (λ (x : List ℕ). codes " 0)" ++ x) p.second.empty)) in
        rw p.second.same (record { spelled = record { same = whole }; receiver = refl })
    by front back parentheses.TypeOf n p parts = unary_to TypeOf e text p.back (parts ∙ ap (λ (x : List ℕ). codes "(" ++ x) (joined n.same p.parts)) p.second
    by front back (parentheses.Expression h) n p parts =
        let whole : text ≡ codes "(" ++ ((front ++ p.front) ++ p.back) = parts ∙ ap (λ (x : List ℕ). codes "(" ++ x) (ap (λ (x : List ℕ). front ++ x) p.parts ∙ sym (append_assoc front p.front p.back)) in
        tail_to p.value e text (front ++ p.front) p.back whole (after_to h p.value front p.front n p.first).spelled p.second

bracketed_to : (e : Expression) (text : List ℕ) → BracketedForm e text → Received e text
unfolding SpellsExpression SpellsText
bracketed_to e text (first p) =
    let q = p.second in
    let r = q.second in
    rw r.second.same (record { spelled = led (codes "\"") p.back p.parts (seq q.front q.back q.parts (each_to q.first) (record { same = r.parts ∙ ap (λ (x : List ℕ). codes "\"" ++ x) r.second.empty })); receiver = refl })
bracketed_to e text (second q) = elim q [
  | first p ↦ rw p.second.is (record { spelled = led (codes "[") p.back p.parts (expressions_to 93 p.second.value p.back p.second.first); receiver = refl })
  | second p ↦ parenthesis_to e text p.back p.parts p.second
]

plain_spelled : {e : Expression} {text : List ℕ} → IsPlain e text → SpellsExpression e text
unfolding SpellsExpression
plain_spelled (plain_number p) = p
plain_spelled (plain_big p) = p

pub wordless_to : (e : Expression) (text : List ℕ) → WordlessForm e text → SpellsExpression e text
wordless_to e text (first p) = plain_spelled p
wordless_to e text (second p) = rw (p.second.is, p.parts) (suffixes_to p.second.first p.value p.front (bracketed_to p.value p.front p.first)).spelled

pub expression_to : (e : Expression) (text : List ℕ) → ExpressionForm e text → SpellsExpression e text
expression_to e text (first p) = rw p.parts (after_to p.value e p.front p.back p.first p.second).spelled
expression_to e text (second p) = wordless_to e text p

-- ---- from the grammar to the level

expressions_list : Expressions → List Expression
expressions_list no_expressions = []
expressions_list (expression e es) = e ∷ expressions_list es

list_expressions : (es : Expressions) → expressions_of (expressions_list es) ≡ es
unfolding expressions_list
list_expressions no_expressions = refl
list_expressions (expression e es) = ap (λ (us : Expressions). expression e us) (list_expressions es)

more_expressions_from : (es : Expressions) (text : List ℕ) → SpellsMoreExpressions es text → MoreForm (expressions_list es) text
unfolding SpellsMoreExpressions expressions_list
more_expressions_from no_expressions text s = subst (λ (t : List ℕ). MoreForm [] t) (sym s.same) no_items
more_expressions_from (expression e es) text s =
    let r = s.second in
    let whole : text ≡ (codes ", " ++ r.front) ++ r.back = lead_of s ∙ ap (λ (t : List ℕ). codes ", " ++ t) r.parts in
    subst (λ (t : List ℕ). MoreForm (e ∷ expressions_list es) t) (sym whole) (an_item (record { back = r.front; second = r.first; parts = refl }) (more_expressions_from es r.back r.second))

pub expressions_from : (close : ℕ) (es : Expressions) (text : List ℕ) → (SpellsExpressions es ● Is (close ∷ [])) text → ExpressionsForm close es text
unfolding SpellsExpressions
expressions_from close no_expressions text s = first (record { value = tt; first = record { is = s.parts ∙ ap₂ (λ (x y : List ℕ). x ++ y) s.first.same s.second.same }; is = refl })
expressions_from close (expression e es) text s =
    let t = s.first in
    second (record {
      value = e;
      front = t.front;
      back = t.back ++ s.back;
      first = t.first;
      second = record { value = expressions_list es; front = t.back; back = s.back; first = more_expressions_from es t.back t.second; second = record { value = tt; first = record { is = s.second.same }; is = ap (λ (us : Expressions). expression e us) (sym (list_expressions es)) }; parts = refl };
      parts = s.parts ∙ ap (λ (x : List ℕ). x ++ s.back) t.parts ∙ append_assoc t.front t.back s.back;
    })

host_from : (f : HostFunction) (e : Expression) (back : List ℕ) → (SpellsExpression e ● Is (codes ")")) back → HostForm f (host_call f e) back
host_from f e back s = record { value = e; front = s.front; back = s.back; first = s.first; second = closing (host_call f e) s.second; parts = s.parts }

host_of_two_from : (f : HostOperation) (a b : Expression) (back : List ℕ) → (SpellsExpression a ● Is (codes ", ") ● SpellsExpression b ● Is (codes ")")) back → HostOfTwoForm f (host_call_of_two f a b) back
host_of_two_from f a b back s =
    let t = s.second.second in
    record { value = a; front = s.front; back = s.back; first = s.first; second = leads _ s.second (record { value = b; front = t.front; back = t.back; first = t.first; second = closing (host_call_of_two f a b) t.second; parts = t.parts }); parts = s.parts }

-- a word, what stands behind it, and no suffix
worded : (h : Head) (e : Expression) (text front back : List ℕ) → text ≡ front ++ back → IsHead h front → PrimaryForm h e back → ExpressionForm e text
unfolding with_suffixes
worded h e text front back parts n p =
    first (record { value = h; front = front; back = back; first = n; second = record { value = e; front = back; back = []; first = p; second = record { value = []; first = no_items; is = refl }; parts = sym (append-nil back) }; parts = parts })

keyword : (h : Head) (e : Expression) (text w : List ℕ) → text ≡ w → IsHead h w → PrimaryForm h e [] → ExpressionForm e text
keyword h e text w is n p = worded h e text w [] (is ∙ sym (append-nil w)) n p

bracketed : (e : Expression) (text : List ℕ) → BracketedForm e text → ExpressionForm e text
unfolding with_suffixes
bracketed e text p = second (second (record { value = e; front = text; back = []; first = p; second = record { value = []; first = no_items; is = refl }; parts = sym (append-nil text) }))

in_parentheses : (e : Expression) (text : List ℕ) (back : List ℕ) → text ≡ codes "(" ++ back → ParenthesisForm e back → ExpressionForm e text
in_parentheses e text back parts p = bracketed e text (second (second (record { back = back; second = p; parts = parts })))

-- one suffix more
suffix_last : (ss : List Suffix) (s : Suffix) (e : Expression) → with_suffixes (ss ++ s ∷ []) e ≡ with_suffix s (with_suffixes ss e)
unfolding with_suffixes
suffix_last [] s e = refl
suffix_last (t ∷ ss) s e = suffix_last ss s (with_suffix t e)

suffixes_more : (e f : Expression) (text behind : List ℕ) (s : Suffix) → SuffixesForm e f text → SuffixForm s behind → SuffixesForm e (with_suffix s f) (text ++ behind)
suffixes_more e f text behind s p q = record { value = p.value ++ s ∷ []; first = list_last p.first s behind q; is = ap (λ (x : Expression). with_suffix s x) p.is ∙ sym (suffix_last p.value s e) }

no_receiver : {e : Expression} {text : List ℕ} → IsPlain e text → is_receiver e ≡ true → ⊥
no_receiver (plain_number p) r = cc r
no_receiver (plain_big p) r = cc r

more_of : (e : Expression) (front text behind : List ℕ) (s : Suffix) → text ≡ front ++ behind → is_receiver e ≡ true → ExpressionForm e front → SuffixForm s behind → ExpressionForm (with_suffix s e) text
more_of e front text behind s parts r (first p) q =
    let a = p.second in
    let whole : text ≡ p.front ++ (p.back ++ behind) = parts ∙ ap (λ (x : List ℕ). x ++ behind) p.parts ∙ append_assoc p.front p.back behind in
    first (record {
      value = p.value;
      front = p.front;
      back = p.back ++ behind;
      first = p.first;
      second = record { value = a.value; front = a.front; back = a.back ++ behind; first = a.first; second = suffixes_more a.value e a.back behind s a.second q; parts = ap (λ (x : List ℕ). x ++ behind) a.parts ∙ append_assoc a.front a.back behind };
      parts = whole;
    })
more_of e front text behind s parts r (second p) q = elim p [
  | first n ↦ absurd (no_receiver n r)
  | second b ↦ second (second (record { value = b.value; front = b.front; back = b.back ++ behind; first = b.first; second = suffixes_more b.value e b.back behind s b.second q; parts = parts ∙ ap (λ (x : List ℕ). x ++ behind) b.parts ∙ append_assoc b.front b.back behind }))
]

-- an expression behind `(`, and what stands behind it
headed : (a e : Expression) (text front back : List ℕ) → text ≡ front ++ back → SpellsExpression a front → passes is_word_start front ≡ false ⊎ (IsHead then AfterForm) a front → TailForm a e back → ParenthesisForm e text
headed a e text front back parts s (inl off) t = second (second (second (record { value = a; front = front; back = back; first = record { spelled = s; off = off }; second = t; parts = parts })))
headed a e text front back parts s (inr p) t =
    second (second (first (record {
      value = parentheses.Expression p.value;
      front = p.front;
      back = p.back ++ back;
      first = p.first;
      second = record { value = a; front = p.back; back = back; first = p.second; second = t; parts = refl };
      parts = parts ∙ ap (λ (x : List ℕ). x ++ back) p.parts ∙ append_assoc p.front p.back back;
    })))

-- ---- first bytes

decimal_starts : (n : ℕ) (text : List ℕ) → text ≡ decimal n → n < 2 ^ 63 → (back : List ℕ) → passes is_digit (text ++ back) ≡ true
decimal_starts n [] is lt back = absurd (let k : length {A = ℕ} [] ≡ length (decimal n) = ap (λ (t : List ℕ). length t) is in omega (arith, decimal_nonempty n (omega arith), k))
decimal_starts n (c ∷ text) is lt back =
    let all : list_all is_digit (c ∷ text) ≡ true = subst (λ (ds : List ℕ). list_all is_digit ds ≡ true) (sym is) (digits_decimal own n (omega arith)) in
    (both (is_digit c) (list_all is_digit text) all).0

integer_starts : (n limit : ℕ) (suffix text : List ℕ) → limit ≤ 2 ^ 63 → SpellsInteger limit suffix (pos n) text → passes is_digit text ≡ true
unfolding SpellsInteger
integer_starts n limit suffix text le s =
    let t = s.spelled in
    let lt : n < limit = ltb-true n limit s.holds in
    subst (λ (u : List ℕ). passes is_digit u ≡ true) (sym t.parts) (decimal_starts n t.front t.first.same (omega arith) t.back)

number_integer : (z : ℤ) (text : List ℕ) → SpellsNumber z text → SpellsInteger (2 ^ 31) [] z text
unfolding SpellsNumber
number_integer z text s = s

big_integer : (z : ℤ) (text : List ℕ) → SpellsBig z text → SpellsInteger (2 ^ 63) (codes "n") z text
unfolding SpellsBig
big_integer z text s = s

pub starts_plain : Starts is_digit IsPlain
starts_plain e text p = by p
  where
    unfolded : (n limit : ℕ) (suffix : List ℕ) → limit ≤ 2 ^ 63 → SpellsInteger limit suffix (pos n) text → passes is_digit text ≡ true
    unfolded n limit suffix le s = integer_starts n limit suffix text le s

    by : {e : Expression} → IsPlain e text → passes is_digit text ≡ true
    by (plain_number {v = v} s) = unfolded v (2 ^ 31) [] (omega arith) (number_integer (pos v) text s)
    by (plain_big {v = v} s) = unfolded v (2 ^ 63) (codes "n") (omega arith) (big_integer (pos v) text s)

abbrev pub is_bracket : ℕ → Bool
is_bracket c = eqb c 34 || (eqb c 91 || eqb c 40)

pub starts_bracketed : Starts is_bracket BracketedForm
starts_bracketed = starts_either is_bracket _ _ (starts_leads is_bracket 34 _ _ refl) (starts_either is_bracket _ _ (starts_leads is_bracket 91 _ _ refl) (starts_leads is_bracket 40 _ _ refl))

abbrev pub is_wordless_start : ℕ → Bool
is_wordless_start c = is_digit c || is_bracket c

or_left : (a b : Bool) → a ≡ true → (a || b) ≡ true
or_left a b e = rw e refl

or_right : (a b : Bool) → b ≡ true → (a || b) ≡ true
or_right true b e = refl
or_right false b e = e

pub starts_wordless : Starts is_wordless_start WordlessForm
starts_wordless = starts_either is_wordless_start _ _
    (starts_wider is_digit is_wordless_start _ (λ c e. or_left (is_digit c) (is_bracket c) e) starts_plain)
    (starts_then is_wordless_start _ _ (starts_wider is_bracket is_wordless_start _ (λ c e. or_right (is_digit c) (is_bracket c) e) starts_bracketed))

pub wordless_no_word : (c : ℕ) → is_wordless_start c ≡ true → is_word_start c ≡ false
wordless_no_word c e = elim (cases (is_digit c)) [
  | inl k ↦ rw k (and_false _)
  | inr k ↦ bracket (rw k at e)
]
  where
    and_false : (b : Bool) → (b && false) ≡ false
    and_false true = refl
    and_false false = refl

    this : (b : ℕ) → eqb c b ≡ true → is_word_start b ≡ false → is_word_start c ≡ false
    this b k f = subst (λ (d : ℕ). is_word_start d ≡ false) (sym (eqb-true c b k)) f

    bracket : is_bracket c ≡ true → is_word_start c ≡ false
    bracket e = elim (cases (eqb c 34)) [
      | inl k ↦ this 34 k refl
      | inr k ↦ elim (cases (eqb c 91)) [
        | inl l ↦ this 91 l refl
        | inr l ↦ this 40 (rw (k, l) at e) refl
      ]
    ]

off_of : (text : List ℕ) → passes is_wordless_start text ≡ true → passes is_word_start text ≡ false
off_of [] e = refl
off_of (c ∷ text) e = wordless_no_word c e

pub wordless_off : (e : Expression) (text : List ℕ) → WordlessForm e text → passes is_word_start text ≡ false
wordless_off e text p = off_of text (starts_wordless e text p)

pub starts_heads : Starts is_word_start IsHead
unfolding SpellsName
starts_heads (heads.Name x) text p = rw p.spelled.same (name_starts x p.holds)
  where
    name_starts : (x : List ℕ) → is_name x ≡ true → passes is_word_start x ≡ true
    name_starts [] e = absurd cc
    name_starts (b ∷ bs) e =
        let k = both (list_all is_name_character (b ∷ bs) && not (is_digit b)) _ e in
        let l = both (list_all is_name_character (b ∷ bs)) (not (is_digit b)) k.0 in
        let m = both (is_name_character b) (list_all is_name_character bs) l.0 in
        rw (m.0, l.1) refl
starts_heads heads.Null text p = rw p.same refl
starts_heads heads.True text p = rw p.same refl
starts_heads heads.False text p = rw p.same refl
starts_heads heads.This text p = rw p.same refl
starts_heads heads.New text p = rw p.same refl
starts_heads heads.BigInt text p = rw p.same refl
starts_heads heads.Number text p = rw p.same refl
starts_heads heads.Math text p = rw p.same refl
starts_heads heads.String text p = rw p.same refl
starts_heads heads.Console text p = rw p.same refl

abbrev pub is_expression_start : ℕ → Bool
is_expression_start c = is_word_start c || is_wordless_start c

pub starts_form : Starts is_expression_start ExpressionForm
starts_form = starts_either is_expression_start _ _
    (starts_then is_expression_start _ _ (starts_wider is_word_start is_expression_start _ (λ c e. or_left (is_word_start c) (is_wordless_start c) e) starts_heads))
    (starts_wider is_wordless_start is_expression_start _ (λ c e. or_right (is_word_start c) (is_wordless_start c) e) starts_wordless)

-- ---- from the grammar to the level, whole

word_or_not : (e : Expression) (text : List ℕ) → ExpressionForm e text → passes is_word_start text ≡ false ⊎ (IsHead then AfterForm) e text
word_or_not e text (first p) = inr p
word_or_not e text (second p) = inl (wordless_off e text p)

negative : {e : Expression} (text : List ℕ) → IsBelowZero e text → ExpressionForm e (codes "(-" ++ text)
negative text p = in_parentheses _ _ (codes "-" ++ text) refl (second (first (record { back = text; second = p; parts = refl })))

negative_number : (v : ℕ) (text : List ℕ) → SpellsNumber (negsuc v) text → ExpressionForm (number_literal (negsuc v)) text
unfolding SpellsNumber SpellsInteger
negative_number v text s =
    let t = s.spelled in
    let whole : text ≡ codes "(-" ++ t.back = lead_of t in
    subst (λ (u : List ℕ). ExpressionForm (number_literal (negsuc v)) u) (sym whole) (negative t.back (below_number (record { holds = s.holds; spelled = record { front = t.front; back = t.back; first = t.first; second = t.second; parts = ap (λ (x : List ℕ). x ++ t.back) (sym t.first.same) } })))

negative_big : (v : ℕ) (text : List ℕ) → SpellsBig (negsuc v) text → ExpressionForm (big_literal (negsuc v)) text
unfolding SpellsBig SpellsInteger
negative_big v text s =
    let t = s.spelled in
    let whole : text ≡ codes "(-" ++ t.back = lead_of t in
    subst (λ (u : List ℕ). ExpressionForm (big_literal (negsuc v)) u) (sym whole) (negative t.back (below_big (record { holds = s.holds; spelled = record { front = t.front; back = t.back; first = t.first; second = t.second; parts = ap (λ (x : List ℕ). x ++ t.back) (sym t.first.same) } })))

arguments_from : {A : Type 0} (f : Expressions → A) (es : Expressions) (back : List ℕ) → (Is (codes "(") ● SpellsExpressions es ● Is (codes ")")) back → Leads (codes "(") (IsMapped f (ExpressionsForm 41)) (f es) back
arguments_from f es back s = leads _ s (record { value = es; first = expressions_from 41 es s.back s.second; is = refl })

unary_from : (op : UnaryOperator) (e : Expression) (text : List ℕ) → (SpellsExpression e ● Is (codes ")")) text → UnaryForm op (unary_of op e) text
unary_from op e text s = record { value = e; front = s.front; back = s.back; first = s.first; second = closing (unary_of op e) s.second; parts = s.parts }

host_word : (f : HostFunction) (e : Expression) (text back : List ℕ) → text ≡ host_text f ++ (codes "(" ++ back) → HostForm f (host_call f e) back → ExpressionForm (host_call f e) text
host_word BigInt e text back parts p = worded heads.BigInt _ text (codes "BigInt") (codes "(" ++ back) parts (record { same = refl }) (first (record { back = back; second = p; parts = refl }))
host_word Number e text back parts p = worded heads.Number _ text (codes "Number") (codes "(" ++ back) parts (record { same = refl }) (record { back = back; second = p; parts = refl })
host_word StringFromCharCode e text back parts p = worded heads.String _ text (codes "String") (codes ".fromCharCode(" ++ back) parts (record { same = refl }) (record { back = back; second = p; parts = refl })
host_word ConsoleLog e text back parts p = worded heads.Console _ text (codes "console") (codes ".log(" ++ back) parts (record { same = refl }) (record { back = back; second = p; parts = refl })

host_of_two_word : (f : HostOperation) (a b : Expression) (text back : List ℕ) → text ≡ host_of_two_text f ++ (codes "(" ++ back) → HostOfTwoForm f (host_call_of_two f a b) back → ExpressionForm (host_call_of_two f a b) text
host_of_two_word BigIntAsIntN a b text back parts p = worded heads.BigInt _ text (codes "BigInt") (codes ".asIntN(" ++ back) parts (record { same = refl }) (second (record { back = codes "IntN(" ++ back; second = first (record { back = back; second = p; parts = refl }); parts = refl }))
host_of_two_word BigIntAsUintN a b text back parts p = worded heads.BigInt _ text (codes "BigInt") (codes ".asUintN(" ++ back) parts (record { same = refl }) (second (record { back = codes "UintN(" ++ back; second = second (record { back = back; second = p; parts = refl }); parts = refl }))
host_of_two_word MathImul a b text back parts p = worded heads.Math _ text (codes "Math") (codes ".imul(" ++ back) parts (record { same = refl }) (record { back = back; second = p; parts = refl })

pub expression_from : (e : Expression) (text : List ℕ) → SpellsExpression e text → ExpressionForm e text
unfolding SpellsExpression SpellsBoolean SpellsText
expression_from null_literal text s = keyword heads.Null null_literal text (codes "null") s.same (record { same = refl }) (no_more null_literal)
expression_from (boolean_literal true) text s = keyword heads.True (boolean_literal true) text (codes "true") s.same (record { same = refl }) (no_more (boolean_literal true))
expression_from (boolean_literal false) text s = keyword heads.False (boolean_literal false) text (codes "false") s.same (record { same = refl }) (no_more (boolean_literal false))
expression_from undefined_literal text s = in_parentheses _ text (codes "void 0)") s.same (second (second (first (record { value = parentheses.Void; front = codes "void"; back = codes " 0)"; first = record { same = refl }; second = record { back = []; second = no_more undefined_literal; parts = refl }; parts = refl }))))
expression_from (number_literal (pos v)) text s = second (first (plain_number s))
expression_from (number_literal (negsuc v)) text s = negative_number v text s
expression_from (big_literal (pos v)) text s = second (first (plain_big s))
expression_from (big_literal (negsuc v)) text s = negative_big v text s
expression_from (text_literal us) text s =
    let t = s.second in
    bracketed _ text (first (record { back = s.back; second = record { value = us; front = t.front; back = t.back; first = each_from SpellsUnit us t.front t.first; second = record { back = []; second = no_more (text_literal us); parts = t.second.same }; parts = t.parts }; parts = lead_of s }))
expression_from (name_use x) text s = keyword (heads.Name x) (name_use x) text text refl s (second (no_more (name_use x)))
expression_from this_use text s = keyword heads.This this_use text (codes "this") s.same (record { same = refl }) (no_more this_use)
expression_from (property_of e p) text s =
    let t = s.second in
    more_of e s.front text s.back (property_suffix p) s.parts s.first.holds (expression_from e s.front s.first.spelled)
    (first (leads _ t (record { value = p; front = t.back; back = []; first = t.second; second = second (no_more (property_suffix p)); parts = sym (append-nil t.back) })))
expression_from (index_of e i) text s =
    let t = s.second in
    let u = t.second in
    more_of e s.front text s.back (index_suffix i) s.parts s.first.holds (expression_from e s.front s.first.spelled)
    (second (leads _ t (record { value = i; front = u.front; back = u.back; first = u.first; second = closing (index_suffix i) u.second; parts = u.parts })))
expression_from (call_of x es) text s = worded (heads.Name x) _ text s.front s.back s.parts s.first (first (arguments_from (λ us. call_of x us) es s.back s.second))
expression_from (method_call_of e p es) text s =
    let t = s.second in
    let u = t.second in
    more_of e s.front text s.back (method_suffix p es) s.parts s.first.holds (expression_from e s.front s.first.spelled)
    (first (leads _ t (record { value = p; front = u.front; back = u.back; first = u.first; second = first (arguments_from (λ us. method_suffix p us) es u.back u.second); parts = u.parts })))
expression_from (new_of x es) text s =
    let t = s.second in
    worded heads.New _ text (codes "new") (codes " " ++ s.back) (lead_of s) (record { same = refl })
    (record { back = s.back; second = record { value = news.Name x; front = t.front; back = t.back; first = t.first; second = arguments_from (λ us. new_of x us) es t.back t.second; parts = t.parts }; parts = refl })
expression_from (new_array_of e) text s =
    let t = s.second in
    worded heads.New _ text (codes "new") (codes " Array(" ++ s.back) (lead_of s) (record { same = refl })
    (record { back = codes "Array(" ++ s.back; second = record { value = news.Array; front = codes "Array"; back = codes "(" ++ s.back; first = record { same = refl }; second = record { back = s.back; second = record { value = e; front = t.front; back = t.back; first = t.first; second = closing (new_array_of e) t.second; parts = t.parts }; parts = refl }; parts = refl }; parts = refl })
expression_from (list_of es) text s = bracketed _ text (second (first (leads _ s (record { value = es; first = expressions_from 93 es s.back s.second; is = refl }))))
expression_from (binary_of a op b) text s =
    let t = s.second in
    let u = t.second in
    let v = u.second in
    let w = v.second in
    let x = w.second in
    in_parentheses _ text s.back (lead_of s) (headed a _ s.back t.front t.back t.parts t.first (word_or_not a t.front (expression_from a t.front t.first))
    (leads _ u (record { value = infixes.Operator op; front = v.front; back = v.back; first = v.first; second = leads _ w (record { value = b; front = x.front; back = x.back; first = x.first; second = closing (binary_of a op b) x.second; parts = x.parts }); parts = v.parts })))
expression_from (unary_of Not e) text s =
    let t = s.second in
    in_parentheses _ text s.back (lead_of s) (first (leads _ t (unary_from Not e t.back t.second)))
expression_from (unary_of TypeOf e) text s =
    let t = s.second in
    in_parentheses _ text s.back (lead_of s) (second (second (first (record { value = parentheses.TypeOf; front = codes "typeof"; back = codes " " ++ t.back; first = record { same = refl }; second = record { back = t.back; second = unary_from TypeOf e t.back t.second; parts = refl }; parts = lead_of t }))))
expression_from (conditional_of c a b) text s =
    let t = s.second in
    let u = t.second in
    let v = u.second in
    let w = v.second in
    let x = w.second in
    in_parentheses _ text s.back (lead_of s) (headed c _ s.back t.front t.back t.parts t.first (word_or_not c t.front (expression_from c t.front t.first))
    (record {
      back = codes "? " ++ u.back;
      parts = lead_of u;
      second = record {
        value = infixes.Question;
        front = codes "?";
        back = codes " " ++ u.back;
        first = record { same = refl };
        parts = refl;
        second = record { back = u.back; parts = refl; second = record { value = a; front = v.front; back = v.back; first = v.first; parts = v.parts; second = leads _ w (record { value = b; front = x.front; back = x.back; first = x.first; second = closing (conditional_of c a b) x.second; parts = x.parts }) } };
      };
    }))
expression_from (host_call f e) text s =
    let t = s.second in
    host_word f e text t.back (s.parts ∙ ap₂ (λ (x y : List ℕ). x ++ y) s.first.same (lead_of t)) (host_from f e t.back t.second)
expression_from (host_call_of_two f a b) text s =
    let t = s.second in
    host_of_two_word f a b text t.back (s.parts ∙ ap₂ (λ (x y : List ℕ). x ++ y) s.first.same (lead_of t)) (host_of_two_from f a b t.back t.second)

pub starts_expression : Starts is_expression_start SpellsExpression
starts_expression e text s = starts_form e text (expression_from e text s)

pub wordless_from : (e : Expression) (text : List ℕ) → IsWordless e text → WordlessForm e text
wordless_from e text w = elim (expression_from e text w.spelled) [
  | first p ↦ absurd (let on : passes is_word_start text ≡ true = starts_then is_word_start IsHead AfterForm starts_heads e text p in let k : true ≡ false = sym on ∙ w.off in cc k)
  | second p ↦ p
]
