-- The law of the reader of statements.
use Rattle.std.proofs.Common.{◌≡◌, ℕ, zero, suc, ◌+◌, ◌≤◌, Bool, true, false, not, eqb, List, [], ◌∷◌, ◌++◌, length, refl, append_assoc, arith, codes}
use Rattle.js_tree.specs.Written.{indent}
use Rattle.js_tree.specs.Spelling.{SpellsName, SpellsExpression, SpellsStatement}
use Rattle.js_tree.specs.Terms.{Name, Expression, name_use, property_of, index_of, Statement, const_of, let_of, declare_of, assign_name, assign_property, assign_index, super_call, throw_of, return_of, break_nearest, break_to, if_only, if_else, while_of, do_forever, labeled_of, try_catch, try_finally, switch_on, Statements}
use Rattle.js_tree.specs.Views.{statements_of, cases_of}
use Rattle.js_read_spec.specs.declared.words.StatementHead.{StatementHead}
use Rattle.js_read_spec.specs.declared.words.StatementHead.TheVariants as statements
use Rattle.exact_place.specs.Reading.{Reading, passes, after_at, lead_at, value_at, either_at}
use Rattle.exact_place.specs.Grammar.{Spelling, ◌then◌, Leads, Either, first, second, IsValue, IsList}
use Rattle.exact_place.specs.Place.{Begins, Stops, Law}
use Rattle.exact_place.proofs.Basic.{law_zero, law_value, law_literal, law_map, law_same, law_narrow}
use Rattle.exact_place.proofs.Sequence.{Starts, Follows, law_after, law_lead, law_either}
use Rattle.exact_place.proofs.Lists.{law_list}
use Rattle.exact_place.proofs.First.{starts_leads, starts_then, follows_starts, follows_leads, follows_literal, follows_value, follows_mapped, follows_either}
use Rattle.js_read_spec.specs.Words.{is_word_start, ends_word}
use Rattle.js_read_spec.specs.Tokens.{name_at}
use Rattle.js_read_spec.specs.Expressions.{expression_at}
use Rattle.js_read_spec.specs.Statements.{case_key_at, ended_at, line_at, lines_at, block_at, keys_at, case_at, cases_at, switch_at, else_at, handler_at, target_at, statement_after_at, statement_level, statement_at}
use Rattle.js_read_spec.proofs.HeadLaws.{IsStatementHead, law_names, law_statement_heads}
use Rattle.js_read_spec.proofs.NumberLaws.{no_digit, law_key}
use Rattle.js_read_spec.proofs.ExpressionForms.{IsWordless, starts_heads, starts_wordless, wordless_from, wordless_no_word, is_wordless_start}
use Rattle.js_read_spec.proofs.ExpressionLaws.{after_expression, anything, this_byte, same, fits, after_follows, law_expression_after, law_expression, law_wordless}
use Rattle.js_read_spec.proofs.StatementForms.{CaseKeyForm, EndedForm, LineForm, BlockForm, KeysForm, CaseForm, SwitchForm, ElseForm, HandlerForm, TargetForm, StatementWordForm, statement_to, statement_from}

-- what may follow a statement: the end of its line
abbrev pub after_statement : ℕ → Bool
after_statement c = eqb c 10

pub law_case_key : {n : ℕ} → Law n anything case_key_at case_key_at CaseKeyForm
unfolding case_key_at
law_case_key {n} = law_lead (codes "case ") (law_after n n no_digit anything (fits n _) (λ k. follows_leads no_digit 58 _ _ anything refl) law_key (λ k text p. law_lead (codes ":") (law_value k)))

pub law_indented : {A : Type 0} {n : ℕ} (level : ℕ) (x : A) → Law n anything (lead_at (codes "\n") (lead_at (indent level) (value_at x))) (lead_at (codes "\n") (lead_at (indent level) (value_at x))) (Leads (codes "\n") (Leads (indent level) (IsValue x)))
law_indented level x = law_lead (codes "\n") (law_lead (indent level) (law_value x))

module _ (n m : ℕ) (le : n ≤ m) (read again : ℕ → List ℕ → Reading Statement) (inner : (level : ℕ) → Law n after_statement (read level) (again level) (SpellsStatement level)) where
  -- an expression inside, and a part behind it that begins with a byte that may follow
  within : {B : Type 0} {next next' : Expression → List ℕ → Reading B} {Q : Expression → Spelling B} (stop : ℕ → Bool) → ((e : Expression) → Follows after_expression (Q e) stop)
      → ((e : Expression) (text : List ℕ) → SpellsExpression e text → Law n stop (next e) (next' e) (Q e)) → Law n stop (λ bytes. after_at (expression_at n) next bytes) (λ bytes. after_at (expression_at m) next' bytes) (SpellsExpression then Q)
  within stop follows laws = law_after n n after_expression stop (fits n _) follows (law_expression n m le) laws

  law_ended : (f : Expression → Statement) → Law n anything (ended_at read n f) (ended_at again m f) (EndedForm f)
  unfolding ended_at
  law_ended f = within anything (λ e. follows_mapped after_expression _ _ anything (follows_literal after_expression 59 [] anything refl)) (λ e text p. law_map (λ u. f e) (law_literal (codes ";")))

  law_line : (level : ℕ) → Law n anything (line_at read n level) (line_at again m level) (LineForm level)
  unfolding line_at
  law_line level = law_lead (codes "  ") (law_after n n after_statement anything (fits n _) (λ s. follows_leads after_statement 10 _ _ anything refl) (inner (level + 1)) (λ s text p. law_indented level s))

  law_lines : (level : ℕ) → Law n (λ c. not (eqb c 32)) (lines_at read n level) (lines_at again m level) (IsList (LineForm level))
  unfolding lines_at
  law_lines level = law_list (λ c. eqb c 32) anything (λ c. not (eqb c 32)) le (starts_leads _ 32 _ _ refl) (λ c e. refl) (λ c e. turned (eqb c 32) e) (λ c e. refl) (law_line level)
    where
      turned : (b : Bool) → not b ≡ true → b ≡ false
      turned true e = absurd cc
      turned false e = refl

  pub law_block : (level : ℕ) → Law n anything (block_at read n level) (block_at again m level) (BlockForm level)
  unfolding block_at
  law_block level = law_lead (codes "{\n") (law_lead (indent level) (law_after n n (λ c. not (eqb c 32)) anything (fits n _) (λ ss. follows_mapped _ _ _ anything (follows_literal _ 125 [] anything refl)) (law_lines level) (λ ss text p. law_map (λ u. statements_of ss) (law_literal (codes "}")))))

  law_keys : (level : ℕ) → Law n (λ c. not (eqb c 10)) (keys_at read n level) (keys_at again m level) (KeysForm level)
  unfolding keys_at
  law_keys level = law_after n n anything (λ c. not (eqb c 10)) (fits n _) (λ k y back rest q st. open_end (back ++ rest)) law_case_key (λ k text p. law_map (λ ks. k ∷ ks)
      (law_list (λ c. eqb c 10) anything (λ c. not (eqb c 10)) le (starts_leads _ 10 _ _ refl) (λ c e. refl) (λ c e. turned (eqb c 10) e) (λ c e. refl) (law_lead (10 ∷ indent level) law_case_key)))
    where
      turned : (b : Bool) → not b ≡ true → b ≡ false
      turned true e = absurd cc
      turned false e = refl

      open_end : (bytes : List ℕ) → Stops anything bytes
      open_end [] = tt
      open_end (c ∷ rest) = refl

  -- a block, and a part behind it
  blocked : {B : Type 0} {next next' : Statements → List ℕ → Reading B} {Q : Statements → Spelling B} (stop : ℕ → Bool) (level : ℕ)
      → ((ss : Statements) (text : List ℕ) → BlockForm level ss text → Law n stop (next ss) (next' ss) (Q ss)) → Law n stop (λ bytes. after_at (block_at read n level) next bytes) (λ bytes. after_at (block_at again m level) next' bytes) (BlockForm level then Q)
  blocked stop level laws = law_after n n anything stop (fits n _) (λ ss y back rest q st. open_end (back ++ rest)) (law_block level) laws
    where
      open_end : (bytes : List ℕ) → Stops anything bytes
      open_end [] = tt
      open_end (c ∷ rest) = refl

  law_case : (level : ℕ) → Law n anything (case_at read n level) (case_at again m level) (CaseForm level)
  unfolding case_at
  law_case level = law_after n n (λ c. not (eqb c 10)) anything (fits n _) (λ ks. follows_leads _ 32 _ _ anything refl) (law_keys level) (λ ks text p. law_lead (codes " ") (blocked anything level (λ ss text p. law_indented level (ks, ss))))

  law_cases : (level : ℕ) → Law n (λ c. not (eqb c 99)) (cases_at read n level) (cases_at again m level) (IsList (CaseForm level))
  unfolding cases_at
  law_cases level = law_list (λ c. eqb c 99) anything (λ c. not (eqb c 99)) le (starts_then _ _ _ (starts_then _ _ _ (starts_leads _ 99 _ _ refl))) (λ c e. refl) (λ c e. turned (eqb c 99) e) (λ c e. refl) (law_case level)
    where
      turned : (b : Bool) → not b ≡ true → b ≡ false
      turned true e = absurd cc
      turned false e = refl

  law_switch : (level : ℕ) (e : Expression) → Law n anything (switch_at read n level e) (switch_at again m level e) (SwitchForm level e)
  unfolding switch_at
  law_switch level e = law_lead (indent (level + 1)) (law_after n n (λ c. not (eqb c 99)) anything (fits n _) (λ cs. follows_leads _ 100 _ _ anything refl) (law_cases (level + 1)) (λ cs text p.
      law_lead (codes "default: ") (blocked anything (level + 1) (λ ss text p. law_lead (codes "\n") (law_lead (indent level) (law_lead (codes "}") (law_value (switch_on e (cases_of cs) ss))))))))

  no_space : (c : ℕ) → after_statement c ≡ true → not (eqb c 32) ≡ true
  no_space c e = this_byte 10 (λ d. not (eqb d 32)) refl c e

  narrow : {A : Type 0} {r s : List ℕ → Reading A} {P : Spelling A} → Law n anything r s P → Law n after_statement r s P
  narrow law = law_narrow after_statement (λ c e. refl) law

  law_else : (level : ℕ) (c : Expression) (ss : Statements) → Law n after_statement (else_at read n level c ss) (else_at again m level c ss) (ElseForm level c ss)
  unfolding else_at
  law_else level c ss = law_either (λ c. eqb c 32) (starts_leads _ 32 _ _ refl) (follows_value _ _ after_statement no_space) (narrow (law_lead (codes " else ") (law_map (λ ts. if_else c ss ts) (law_block level)))) (law_value (if_only c ss))

  -- a name, and a part behind it
  named : {B : Type 0} {next next' : Name → List ℕ → Reading B} {Q : Name → Spelling B} (stop : ℕ → Bool) → ((x : Name) → Follows ends_word (Q x) stop)
      → ((x : Name) (text : List ℕ) → SpellsName x text → Law n stop (next x) (next' x) (Q x)) → Law n stop (λ bytes. after_at name_at next bytes) (λ bytes. after_at name_at next' bytes) (SpellsName then Q)
  named stop follows laws = law_after n n ends_word stop (fits n _) follows law_names laws

  law_handler : (level : ℕ) (ss : Statements) → Law n anything (handler_at read n level ss) (handler_at again m level ss) (HandlerForm level ss)
  unfolding handler_at
  law_handler level ss = law_lead (codes " ") (law_either (λ c. eqb c 99) (starts_leads _ 99 _ _ refl) (follows_leads _ 102 _ _ anything refl)
      (law_lead (codes "catch (") (named anything (λ x. follows_leads ends_word 41 _ _ anything refl) (λ x text p. law_lead (codes ") ") (law_map (λ ts. try_catch ss x ts) (law_block level)))))
      (law_lead (codes "finally ") (law_map (λ ts. try_finally ss ts) (law_block level))))

  law_semicolon : (y : Statement) → Law n anything (lead_at (codes ";") (value_at y)) (lead_at (codes ";") (value_at y)) (Leads (codes ";") (IsValue y))
  law_semicolon y = law_lead (codes ";") (law_value y)

  law_assigned : (f : Expression → Statement) (y : Statement) → Law n anything (either_at (λ c. eqb c 32) (lead_at (codes " = ") (ended_at read n f)) (lead_at (codes ";") (value_at y))) (either_at (λ c. eqb c 32) (lead_at (codes " = ") (ended_at again m f)) (lead_at (codes ";") (value_at y))) (Either (Leads (codes " = ") (EndedForm f)) (Leads (codes ";") (IsValue y)))
  law_assigned f y = law_either (λ c. eqb c 32) (starts_leads _ 32 _ _ refl) (follows_leads _ 59 _ _ anything refl) (law_lead (codes " = ") (law_ended f)) (law_semicolon y)

  law_target : (level : ℕ) (e : Expression) → Law n anything (target_at read n level e) (target_at again m level e) (TargetForm level e)
  unfolding target_at
  law_target level (name_use x) = law_either (λ c. eqb c 58) (starts_leads _ 58 _ _ refl) (follows_either _ _ _ anything (follows_leads _ 32 _ _ anything refl) (follows_leads _ 59 _ _ anything refl))
      (law_lead (codes ": ") (law_map (λ ss. labeled_of x ss) (law_block level))) (law_assigned (λ e. assign_name x e) _)
  law_target level (property_of o p) = law_assigned (λ e. assign_property o p e) _
  law_target level (index_of o i) = law_assigned (λ e. assign_index o i e) _
  law_target level e = law_semicolon _

  target_follows : (level : ℕ) (e : Expression) → Follows after_expression (TargetForm level e) anything
  target_follows level (name_use x) = follows_either after_expression _ _ anything (follows_leads after_expression 58 _ _ anything refl) (follows_either after_expression _ _ anything (follows_leads after_expression 32 _ _ anything refl) (follows_leads after_expression 59 _ _ anything refl))
  target_follows level (property_of o p) = follows_either after_expression _ _ anything (follows_leads after_expression 32 _ _ anything refl) (follows_leads after_expression 59 _ _ anything refl)
  target_follows level (index_of o i) = follows_either after_expression _ _ anything (follows_leads after_expression 32 _ _ anything refl) (follows_leads after_expression 59 _ _ anything refl)
  target_follows level e = follows_leads after_expression 59 _ _ anything refl

  law_word : (level : ℕ) (h : StatementHead) → Law n after_statement (statement_after_at read n level h) (statement_after_at again m level h) (StatementWordForm level h)
  unfolding statement_after_at
  law_word level statements.Const = narrow (law_lead (codes " ") (named anything (λ x. follows_leads ends_word 32 _ _ anything refl) (λ x text p. law_lead (codes " = ") (law_ended (λ e. const_of x e)))))
  law_word level statements.Let = narrow (law_lead (codes " ") (named anything (λ x. follows_either ends_word _ _ anything (follows_leads ends_word 59 _ _ anything refl) (follows_leads ends_word 32 _ _ anything refl)) (λ x text p.
      law_either (λ c. eqb c 59) (starts_leads _ 59 _ _ refl) (follows_leads _ 32 _ _ anything refl) (law_semicolon (declare_of x)) (law_lead (codes " = ") (law_ended (λ e. let_of x e))))))
  law_word level statements.Super = law_lead (codes "();") (law_value super_call)
  law_word level statements.Throw = narrow (law_lead (codes " ") (law_ended (λ e. throw_of e)))
  law_word level statements.Return = narrow (law_lead (codes " ") (law_ended (λ e. return_of e)))
  law_word level statements.Break = narrow (law_either (λ c. eqb c 59) (starts_leads _ 59 _ _ refl) (follows_leads _ 32 _ _ anything refl) (law_semicolon break_nearest)
      (law_lead (codes " ") (named anything (λ x. follows_mapped ends_word _ _ anything (follows_literal ends_word 59 [] anything refl)) (λ x text p. law_map (λ u. break_to x) (law_literal (codes ";"))))))
  law_word level statements.If = law_lead (codes " (") (within after_statement (λ c. follows_leads after_expression 41 _ _ after_statement refl) (λ c text p. law_lead (codes ") ") (blocked after_statement level (λ ss text p. law_else level c ss))))
  law_word level statements.While = narrow (law_lead (codes " (") (within anything (λ c. follows_leads after_expression 41 _ _ anything refl) (λ c text p. law_lead (codes ") ") (law_map (λ ss. while_of c ss) (law_block level)))))
  law_word level statements.Do = narrow (law_lead (codes " ") (blocked anything level (λ ss text p. law_map (λ u. do_forever ss) (law_literal (codes " while (true);")))))
  law_word level statements.Try = narrow (law_lead (codes " ") (blocked anything level (λ ss text p. law_handler level ss)))
  law_word level statements.Switch = narrow (law_lead (codes " (") (within anything (λ e. follows_leads after_expression 41 _ _ anything refl) (λ e text p. law_lead (codes ") {\n") (law_switch level e))))
  law_word level (statements.Expression h) = narrow (law_after n n after_expression anything (fits n _) (target_follows level) (law_expression_after n m le (expression_at n) (expression_at m) (law_expression n m le) h) (λ e text p. law_target level e))

  word_follows : (level : ℕ) (h : StatementHead) → Follows ends_word (StatementWordForm level h) after_statement
  word_follows level statements.Const = follows_leads ends_word 32 _ _ _ refl
  word_follows level statements.Let = follows_leads ends_word 32 _ _ _ refl
  word_follows level statements.Super = follows_leads ends_word 40 _ _ _ refl
  word_follows level statements.Throw = follows_leads ends_word 32 _ _ _ refl
  word_follows level statements.Return = follows_leads ends_word 32 _ _ _ refl
  word_follows level statements.Break = follows_either ends_word _ _ _ (follows_leads ends_word 59 _ _ _ refl) (follows_leads ends_word 32 _ _ _ refl)
  word_follows level statements.If = follows_leads ends_word 32 _ _ _ refl
  word_follows level statements.While = follows_leads ends_word 32 _ _ _ refl
  word_follows level statements.Do = follows_leads ends_word 32 _ _ _ refl
  word_follows level statements.Try = follows_leads ends_word 32 _ _ _ refl
  word_follows level statements.Switch = follows_leads ends_word 32 _ _ _ refl
  word_follows level (statements.Expression h) = λ y back rest p st.
      let tail : Stops after_expression (p.back ++ rest) = target_follows level p.value y p.back rest p.second (open_end rest) in
      rw (p.parts, append_assoc p.front p.back rest) (after_follows n m le (expression_at n) (expression_at m) (law_expression n m le) h p.value p.front (p.back ++ rest) p.first tail)
    where
      open_end : (bytes : List ℕ) → Stops anything bytes
      open_end [] = tt
      open_end (c ∷ rest) = refl

  starts_statement_word : Starts is_word_start IsStatementHead
  starts_statement_word statements.Const text p = rw p.same refl
  starts_statement_word statements.Let text p = rw p.same refl
  starts_statement_word statements.Super text p = rw p.same refl
  starts_statement_word statements.Throw text p = rw p.same refl
  starts_statement_word statements.Return text p = rw p.same refl
  starts_statement_word statements.Break text p = rw p.same refl
  starts_statement_word statements.If text p = rw p.same refl
  starts_statement_word statements.While text p = rw p.same refl
  starts_statement_word statements.Do text p = rw p.same refl
  starts_statement_word statements.Try text p = rw p.same refl
  starts_statement_word statements.Switch text p = rw p.same refl
  starts_statement_word (statements.Expression h) text p = starts_heads h text p

  longer : (test : ℕ → Bool) (text : List ℕ) → passes test text ≡ true → suc n ≤ n + length text
  longer test [] e = absurd cc
  longer test (c ∷ text) e = omega arith

  starts_bare : Starts is_wordless_start IsWordless
  starts_bare e text w = starts_wordless e text (wordless_from e text w)

  not_word : (c : ℕ) → is_wordless_start c ≡ true → not (is_word_start c) ≡ true
  not_word c e = rw (wordless_no_word c e) refl

  pub law_statement_level : (level : ℕ) → Law (suc n) after_statement (statement_level read n level) (statement_level again m level) (SpellsStatement level)
  unfolding statement_level
  law_statement_level level = law_same (statement_to level) (statement_from level)
      (law_either is_word_start (starts_then is_word_start _ _ starts_statement_word) (follows_starts _ after_statement is_wordless_start _ not_word (starts_then is_wordless_start _ _ starts_bare))
      (law_after (suc n) n ends_word after_statement (λ h text p. longer is_word_start text (starts_statement_word h text p)) (word_follows level) law_statement_heads (λ h text p. law_word level h))
      (law_after (suc n) n after_expression after_statement (λ e text p. longer is_wordless_start text (starts_bare e text p)) (λ e y back rest p st. target_follows level e y back rest p (open_end rest)) (law_wordless (suc n) (suc m) (omega arith)) (λ e text p. narrow (law_target level e))))
    where
      open_end : (bytes : List ℕ) → Stops anything bytes
      open_end [] = tt
      open_end (c ∷ rest) = refl

some_statement : (level : ℕ) → Begins (SpellsStatement level) []
unfolding SpellsStatement
some_statement level = record { value = break_nearest; more = codes "break;"; spelled = record { same = refl } }

pub law_statement : (n m : ℕ) → n ≤ m → (level : ℕ) → Law n after_statement (statement_at n level) (statement_at m level) (SpellsStatement level)
unfolding statement_at
law_statement zero m le level = law_zero (some_statement level)
law_statement (suc n) zero le level = absurd (omega arith)
law_statement (suc n) (suc m) le level = law_statement_level n m (omega arith) (statement_at n) (statement_at m) (law_statement n m (omega arith)) level
