-- One level of the grammar of statements as the reader takes it, and that it is the grammar.
use Rattle.std.proofs.Common.{◌≡◌, ℕ, ◌+◌, ◌*◌, ℤ, true, List, [], ◌∷◌, ◌++◌, refl, sym, ap, ap₂, subst, ◌∙◌, append_assoc, append-nil, codes, arith}
use Rattle.std.proofs.lemmas.List.{replicate-append-replicate}
use Rattle.std.proofs.Math.ListN.{replicate}
use Rattle.js_tree.specs.Written.{Is, ◌●◌, Separated, indent}
use Rattle.js_tree.specs.Spelling.{SpellsName, SpellsNumber, SpellsExpression, SpellsKey, SpellsKeys, Block, SpellsStatement, SpellsLines, SpellsCases}
use Rattle.js_tree.specs.Terms.{Expression, name_use, property_of, index_of, Statement, const_of, let_of, declare_of, expression_statement, assign_name, assign_property, assign_index, super_call, throw_of, return_of, break_nearest, break_to, if_only, if_else, while_of, do_forever, labeled_of, try_catch, try_finally, switch_on, Statements, no_statements, statement, Cases, no_cases, switch_case}
use Rattle.js_tree.specs.Views.{statements_of, Case, cases_of}
use Rattle.js_read_spec.specs.declared.words.StatementHead.{StatementHead}
use Rattle.js_read_spec.specs.declared.words.StatementHead.TheVariants as statements
use Rattle.exact_place.specs.Grammar.{Spelling, ◌then◌, Leads, Either, first, second, IsLiteral, IsValue, IsMapped, IsList, no_items, an_item}
use Rattle.js_read_spec.proofs.Parts.{seq, led, lead_of, leads, closing, no_more, more_to, more_from, list_same, leads_same}
use Rattle.js_read_spec.proofs.HeadLaws.{IsStatementHead}
use Rattle.js_read_spec.proofs.ExpressionForms.{IsWordless, AfterForm, after_to, expression_from, wordless_off}

-- ---- the level

abbrev pub CaseKeyForm : Spelling ℤ
CaseKeyForm = Leads (codes "case ") (SpellsNumber then λ k. Leads (codes ":") (IsValue k))

abbrev pub EndedForm : (Expression → Statement) → Spelling Statement
EndedForm f = SpellsExpression then λ e. IsMapped (λ u. f e) (IsLiteral (codes ";"))

abbrev pub LineForm : ℕ → Spelling Statement
LineForm level = Leads (codes "  ") (SpellsStatement (level + 1) then λ s. Leads (codes "\n") (Leads (indent level) (IsValue s)))

abbrev pub BlockForm : ℕ → Spelling Statements
BlockForm level = Leads (codes "{\n") (Leads (indent level) (IsList (LineForm level) then λ ss. IsMapped (λ u. statements_of ss) (IsLiteral (codes "}"))))

abbrev pub KeysForm : ℕ → Spelling (List ℤ)
KeysForm level = CaseKeyForm then λ k. IsMapped (λ ks. k ∷ ks) (IsList (Leads (10 ∷ indent level) CaseKeyForm))

abbrev pub CaseForm : ℕ → Spelling Case
CaseForm level = KeysForm level then λ ks. Leads (codes " ") (BlockForm level then λ ss. Leads (codes "\n") (Leads (indent level) (IsValue (ks, ss))))

abbrev pub SwitchForm : ℕ → Expression → Spelling Statement
SwitchForm level e = Leads (indent (level + 1)) (IsList (CaseForm (level + 1)) then λ cs. Leads (codes "default: ") (BlockForm (level + 1) then λ ss. Leads (codes "\n") (Leads (indent level) (Leads (codes "}") (IsValue (switch_on e (cases_of cs) ss))))))

abbrev pub ElseForm : ℕ → Expression → Statements → Spelling Statement
ElseForm level c ss = Either (Leads (codes " else ") (IsMapped (λ ts. if_else c ss ts) (BlockForm level))) (IsValue (if_only c ss))

abbrev pub HandlerForm : ℕ → Statements → Spelling Statement
HandlerForm level ss = Leads (codes " ") (Either
    (Leads (codes "catch (") (SpellsName then λ x. Leads (codes ") ") (IsMapped (λ ts. try_catch ss x ts) (BlockForm level))))
    (Leads (codes "finally ") (IsMapped (λ ts. try_finally ss ts) (BlockForm level))))

abbrev pub TargetForm : ℕ → Expression → Spelling Statement
TargetForm level (name_use x) = Either (Leads (codes ": ") (IsMapped (λ ss. labeled_of x ss) (BlockForm level)))
    (Either (Leads (codes " = ") (EndedForm (λ e. assign_name x e))) (Leads (codes ";") (IsValue (expression_statement (name_use x)))))
TargetForm level (property_of o p) = Either (Leads (codes " = ") (EndedForm (λ e. assign_property o p e))) (Leads (codes ";") (IsValue (expression_statement (property_of o p))))
TargetForm level (index_of o i) = Either (Leads (codes " = ") (EndedForm (λ e. assign_index o i e))) (Leads (codes ";") (IsValue (expression_statement (index_of o i))))
TargetForm level e = Leads (codes ";") (IsValue (expression_statement e))

abbrev pub StatementWordForm : ℕ → StatementHead → Spelling Statement
StatementWordForm level statements.Const = Leads (codes " ") (SpellsName then λ x. Leads (codes " = ") (EndedForm (λ e. const_of x e)))
StatementWordForm level statements.Let = Leads (codes " ") (SpellsName then λ x. Either (Leads (codes ";") (IsValue (declare_of x))) (Leads (codes " = ") (EndedForm (λ e. let_of x e))))
StatementWordForm level statements.Super = Leads (codes "();") (IsValue super_call)
StatementWordForm level statements.Throw = Leads (codes " ") (EndedForm (λ e. throw_of e))
StatementWordForm level statements.Return = Leads (codes " ") (EndedForm (λ e. return_of e))
StatementWordForm level statements.Break = Either (Leads (codes ";") (IsValue break_nearest)) (Leads (codes " ") (SpellsName then λ x. IsMapped (λ u. break_to x) (IsLiteral (codes ";"))))
StatementWordForm level statements.If = Leads (codes " (") (SpellsExpression then λ c. Leads (codes ") ") (BlockForm level then ElseForm level c))
StatementWordForm level statements.While = Leads (codes " (") (SpellsExpression then λ c. Leads (codes ") ") (IsMapped (λ ss. while_of c ss) (BlockForm level)))
StatementWordForm level statements.Do = Leads (codes " ") (BlockForm level then λ ss. IsMapped (λ u. do_forever ss) (IsLiteral (codes " while (true);")))
StatementWordForm level statements.Try = Leads (codes " ") (BlockForm level then HandlerForm level)
StatementWordForm level statements.Switch = Leads (codes " (") (SpellsExpression then λ e. Leads (codes ") {\n") (SwitchForm level e))
StatementWordForm level (statements.Expression h) = AfterForm h then TargetForm level

abbrev pub StatementForm : ℕ → Spelling Statement
StatementForm level = Either (IsStatementHead then StatementWordForm level) (IsWordless then TargetForm level)

-- ---- blocks

abbrev glue : List ℕ → List ℕ → List ℕ
glue a b = a ++ b

indent_more : (level : ℕ) → indent (level + 1) ≡ indent level ++ codes "  "
indent_more level =
    let more : 2 * (level + 1) ≡ 2 * level + 2 = omega arith in
    ap (λ (k : ℕ). replicate k 32) more ∙ sym (replicate-append-replicate (2 * level) 2 32)

-- lines with their indentation in front, for lines with the next indentation behind
record Lined (level : ℕ) (ss : Statements) (behind : List ℕ) : Type 0 where
  lines : List ℕ
  spelled : SpellsLines (level + 1) ss lines
  turned : indent level ++ behind ≡ lines ++ indent level

line_parts : (level : ℕ) (front one two back text : List ℕ) → front ≡ codes "  " ++ text → text ≡ one ++ two → two ≡ codes "\n" ++ (indent level ++ []) → indent level ++ (front ++ back) ≡ indent (level + 1) ++ (one ++ (codes "\n" ++ (indent level ++ back)))
line_parts level front one two back text a b c =
    let whole : front ≡ codes "  " ++ (one ++ (codes "\n" ++ indent level)) = a ∙ ap (glue (codes "  ")) (b ∙ ap (glue one) (c ∙ ap (glue (codes "\n")) (append-nil (indent level)))) in
    ap (λ (x : List ℕ). indent level ++ (x ++ back)) whole
    ∙ ap (glue (indent level)) (ap (glue (codes "  ")) (append_assoc one (codes "\n" ++ indent level) back))
    ∙ sym (append_assoc (indent level) (codes "  ") (one ++ (codes "\n" ++ (indent level ++ back))))
    ∙ ap (λ (x : List ℕ). x ++ (one ++ (codes "\n" ++ (indent level ++ back)))) (sym (indent_more level))

lines_to : {level : ℕ} {ss : List Statement} {behind : List ℕ} → IsList (LineForm level) ss behind → Lined level (statements_of ss) behind
unfolding SpellsLines
lines_to {level = level} no_items = record { lines = []; spelled = record { same = refl }; turned = append-nil (indent level) }
lines_to {level = level} (an_item {x = s} {front = front} {back = back} p l) =
    let r = lines_to l in
    let q = p.second in
    let t = q.second in
    let u = t.second in
    let s_is : s ≡ q.value = u.second.same in
    let two : q.back ≡ codes "\n" ++ (indent level ++ []) = t.parts ∙ ap (glue (codes "\n")) (u.parts ∙ ap (glue (indent level)) u.second.empty) in
    let tail : indent level ++ (front ++ back) ≡ indent (level + 1) ++ (q.front ++ (codes "\n" ++ (indent level ++ back))) = line_parts level front q.front q.back back p.back p.parts q.parts two in
    record {
      lines = indent (level + 1) ++ (q.front ++ (codes "\n" ++ r.lines));
      spelled = led (indent (level + 1)) (q.front ++ (codes "\n" ++ r.lines)) refl (seq q.front (codes "\n" ++ r.lines) refl (subst (λ (x : Statement). SpellsStatement (level + 1) x q.front) (sym s_is) q.first) (led (codes "\n") r.lines refl r.spelled));
      turned = tail ∙ ap (λ (x : List ℕ). indent (level + 1) ++ (q.front ++ (codes "\n" ++ x))) r.turned ∙ ap (glue (indent (level + 1))) (sym (append_assoc q.front (codes "\n" ++ r.lines) (indent level))) ∙ sym (append_assoc (indent (level + 1)) (q.front ++ (codes "\n" ++ r.lines)) (indent level));
    }

pub block_to : (level : ℕ) (ss : Statements) (text : List ℕ) → BlockForm level ss text → Block level (SpellsLines (level + 1) ss) text
unfolding Block
block_to level ss text p =
    let q = p.second in
    let r = q.second in
    let l = lines_to r.first in
    let close : r.back ≡ codes "}" = r.second.first.is in
    let whole : p.back ≡ l.lines ++ (indent level ++ codes "}") = q.parts ∙ ap (glue (indent level)) (r.parts ∙ ap (glue r.front) close) ∙ sym (append_assoc (indent level) r.front (codes "}")) ∙ ap (λ (x : List ℕ). x ++ codes "}") l.turned ∙ append_assoc l.lines (indent level) (codes "}") in
    rw r.second.is (led (codes "{\n") p.back p.parts (seq l.lines (indent level ++ codes "}") whole l.spelled (led (indent level) (codes "}") refl (record { same = refl }))))

statements_list : Statements → List Statement
statements_list no_statements = []
statements_list (statement s ss) = s ∷ statements_list ss

list_statements : (ss : Statements) → statements_of (statements_list ss) ≡ ss
unfolding statements_list
list_statements no_statements = refl
list_statements (statement s ss) = ap (λ (ts : Statements). statement s ts) (list_statements ss)

record Unlined (level : ℕ) (ss : List Statement) (lines : List ℕ) : Type 0 where
  behind : List ℕ
  items : IsList (LineForm level) ss behind
  turned : indent level ++ behind ≡ lines ++ indent level

lines_from : (level : ℕ) (ss : Statements) (lines : List ℕ) → SpellsLines (level + 1) ss lines → Unlined level (statements_list ss) lines
unfolding SpellsLines statements_list
lines_from level no_statements lines s = record { behind = []; items = no_items; turned = append-nil (indent level) ∙ ap (λ (x : List ℕ). x ++ indent level) (sym s.same) }
lines_from level (statement x ss) lines s =
    let t = s.second in
    let u = t.second in
    let r = lines_from level ss u.back u.second in
    let front : List ℕ = codes "  " ++ (t.front ++ (codes "\n" ++ indent level)) in
    let item : LineForm level x (codes "  " ++ (t.front ++ (codes "\n" ++ indent level))) = record { back = t.front ++ (codes "\n" ++ indent level); parts = refl; second = record { value = x; front = t.front; back = codes "\n" ++ indent level; first = t.first; parts = refl; second = record { back = indent level; parts = refl; second = record { back = []; second = no_more x; parts = sym (append-nil (indent level)) } } } } in
    let tail : indent level ++ (front ++ r.behind) ≡ indent (level + 1) ++ (t.front ++ (codes "\n" ++ (indent level ++ r.behind))) = line_parts level front t.front (codes "\n" ++ indent level) r.behind (t.front ++ (codes "\n" ++ indent level)) refl refl (ap (glue (codes "\n")) (sym (append-nil (indent level)))) in
    let whole : lines ≡ indent (level + 1) ++ (t.front ++ (codes "\n" ++ u.back)) = lead_of s ∙ ap (glue (indent (level + 1))) (t.parts ∙ ap (glue t.front) (lead_of u)) in
    record {
      behind = front ++ r.behind;
      items = an_item item r.items;
      turned = tail ∙ ap (λ (y : List ℕ). indent (level + 1) ++ (t.front ++ (codes "\n" ++ y))) r.turned ∙ ap (glue (indent (level + 1))) (sym (append_assoc t.front (codes "\n" ++ u.back) (indent level))) ∙ sym (append_assoc (indent (level + 1)) (t.front ++ (codes "\n" ++ u.back)) (indent level)) ∙ ap (λ (y : List ℕ). y ++ indent level) (sym whole);
    }

pub block_from : (level : ℕ) (ss : Statements) (text : List ℕ) → Block level (SpellsLines (level + 1) ss) text → BlockForm level ss text
unfolding Block
block_from level ss text s =
    let t = s.second in
    let u = t.second in
    let r = lines_from level ss t.front t.first in
    let whole : s.back ≡ indent level ++ (r.behind ++ codes "}") = t.parts ∙ ap (glue t.front) (lead_of u ∙ ap (glue (indent level)) u.second.same) ∙ sym (append_assoc t.front (indent level) (codes "}")) ∙ ap (λ (x : List ℕ). x ++ codes "}") (sym r.turned) ∙ append_assoc (indent level) r.behind (codes "}") in
    leads ss s (record { back = r.behind ++ codes "}"; parts = whole; second = record { value = statements_list ss; front = r.behind; back = codes "}"; first = r.items; parts = refl; second = record { value = tt; first = record { is = refl }; is = sym (list_statements ss) } } })

-- ---- cases

key_to : (k : ℤ) (text : List ℕ) → CaseKeyForm k text → SpellsKey k text
unfolding SpellsKey
key_to k text p =
    let q = p.second in
    let t = q.second in
    let k_is : k ≡ q.value = t.second.same in
    led (codes "case ") p.back p.parts (seq q.front q.back q.parts (subst (λ (z : ℤ). SpellsNumber z q.front) (sym k_is) q.first) (record { same = t.parts ∙ ap (glue (codes ":")) t.second.empty }))

key_from : (k : ℤ) (text : List ℕ) → SpellsKey k text → CaseKeyForm k text
unfolding SpellsKey
key_from k text s =
    let t = s.second in
    leads k s (record { value = k; front = t.front; back = t.back; first = t.first; parts = t.parts; second = record { back = []; second = no_more k; parts = t.second.same } })

keys_to : (level : ℕ) (ks : List ℤ) (text : List ℕ) → KeysForm level ks text → SpellsKeys level ks text
unfolding SpellsKeys Separated
keys_to level ks text p = rw p.second.is (record { holds = refl; spelled = seq p.front p.back p.parts (key_to p.value p.front p.first) (more_to (list_same (leads_same key_to) p.second.first)) })

keys_from : (level : ℕ) (ks : List ℤ) (text : List ℕ) → SpellsKeys level ks text → KeysForm level ks text
unfolding SpellsKeys Separated
keys_from level [] text s = absurd (cc s.holds)
keys_from level (k ∷ ks) text s =
    let t = s.spelled in
    record { value = k; front = t.front; back = t.back; first = key_from k t.front t.first; parts = t.parts; second = record { value = ks; first = list_same (leads_same key_from) (more_from (10 ∷ indent level) SpellsKey ks t.back t.second); is = refl } }

record Cased (level : ℕ) (cs : Cases) (behind : List ℕ) : Type 0 where
  cases : List ℕ
  spelled : SpellsCases level cs cases
  turned : indent level ++ behind ≡ cases ++ indent level

-- a case whose parts are known, and what is behind it
case_parts : (level : ℕ) (k b back : List ℕ) → indent level ++ ((k ++ (codes " " ++ (b ++ (codes "\n" ++ indent level)))) ++ back) ≡ indent level ++ (k ++ (codes " " ++ (b ++ (codes "\n" ++ (indent level ++ back)))))
case_parts level k b back =
    ap (glue (indent level)) (append_assoc k (codes " " ++ (b ++ (codes "\n" ++ indent level))) back ∙ ap (λ (x : List ℕ). k ++ (codes " " ++ x)) (append_assoc b (codes "\n" ++ indent level) back))

case_regroup : (level : ℕ) (k b cases : List ℕ) → indent level ++ (k ++ (codes " " ++ (b ++ (codes "\n" ++ (cases ++ indent level))))) ≡ (indent level ++ (k ++ (codes " " ++ (b ++ (codes "\n" ++ cases))))) ++ indent level
case_regroup level k b cases =
    ap (λ (x : List ℕ). indent level ++ (k ++ (codes " " ++ x))) (sym (append_assoc b (codes "\n" ++ cases) (indent level)))
    ∙ ap (glue (indent level)) (sym (append_assoc k (codes " " ++ (b ++ (codes "\n" ++ cases))) (indent level)))
    ∙ sym (append_assoc (indent level) (k ++ (codes " " ++ (b ++ (codes "\n" ++ cases)))) (indent level))

cases_to : {level : ℕ} {cs : List Case} {behind : List ℕ} → IsList (CaseForm level) cs behind → Cased level (cases_of cs) behind
unfolding SpellsCases
cases_to {level = level} no_items = record { cases = []; spelled = record { same = refl }; turned = append-nil (indent level) }
cases_to {level = level} (an_item {x = c} {front = front} {back = back} p l) =
    let r = cases_to l in
    let q = p.second in
    let t = q.second in
    let u = t.second in
    let v = u.second in
    let c_is : c ≡ (p.value, t.value) = v.second.same in
    let front_is : front ≡ p.front ++ (codes " " ++ (t.front ++ (codes "\n" ++ indent level))) =
    p.parts ∙ ap (glue p.front) (q.parts ∙ ap (glue (codes " ")) (t.parts ∙ ap (glue t.front) (u.parts ∙ ap (glue (codes "\n")) (v.parts ∙ ap (glue (indent level)) v.second.empty ∙ append-nil (indent level))))) in
    let grown : indent level ++ (front ++ back) ≡ (indent level ++ (p.front ++ (codes " " ++ (t.front ++ (codes "\n" ++ r.cases))))) ++ indent level =
    ap (λ (x : List ℕ). indent level ++ (x ++ back)) front_is ∙ case_parts level p.front t.front back
    ∙ ap (λ (x : List ℕ). indent level ++ (p.front ++ (codes " " ++ (t.front ++ (codes "\n" ++ x))))) r.turned ∙ case_regroup level p.front t.front r.cases in
    record {
      cases = indent level ++ (p.front ++ (codes " " ++ (t.front ++ (codes "\n" ++ r.cases))));
      spelled = rw c_is (led (indent level) (p.front ++ (codes " " ++ (t.front ++ (codes "\n" ++ r.cases)))) refl
          (seq p.front (codes " " ++ (t.front ++ (codes "\n" ++ r.cases))) refl (keys_to level p.value p.front p.first) (led (codes " ") (t.front ++ (codes "\n" ++ r.cases)) refl (seq t.front (codes "\n" ++ r.cases) refl (block_to level t.value t.front t.first) (led (codes "\n") r.cases refl r.spelled)))));
      turned = grown;
    }

cases_list : Cases → List Case
cases_list no_cases = []
cases_list (switch_case ks ss cs) = (ks, ss) ∷ cases_list cs

list_cases : (cs : Cases) → cases_of (cases_list cs) ≡ cs
unfolding cases_list
list_cases no_cases = refl
list_cases (switch_case ks ss cs) = ap (λ (ds : Cases). switch_case ks ss ds) (list_cases cs)

record Uncased (level : ℕ) (cs : List Case) (cases : List ℕ) : Type 0 where
  behind : List ℕ
  items : IsList (CaseForm level) cs behind
  turned : indent level ++ behind ≡ cases ++ indent level

case_item : (level : ℕ) (ks : List ℤ) (ss : Statements) (k b : List ℕ) → SpellsKeys level ks k → Block level (SpellsLines (level + 1) ss) b → CaseForm level (ks, ss) (k ++ (codes " " ++ (b ++ (codes "\n" ++ indent level))))
case_item level ks ss k b s t = record { value = ks; front = k; back = codes " " ++ (b ++ (codes "\n" ++ indent level)); first = keys_from level ks k s; parts = refl; second = record { back = b ++ (codes "\n" ++ indent level); parts = refl; second = record { value = ss; front = b; back = codes "\n" ++ indent level; first = block_from level ss b t; parts = refl; second = record { back = indent level; parts = refl; second = record { back = []; second = no_more (ks, ss); parts = sym (append-nil (indent level)) } } } } }

cases_from : (level : ℕ) (cs : Cases) (cases : List ℕ) → SpellsCases level cs cases → Uncased level (cases_list cs) cases
unfolding SpellsCases cases_list
cases_from level no_cases cases s = record { behind = []; items = no_items; turned = append-nil (indent level) ∙ ap (λ (x : List ℕ). x ++ indent level) (sym s.same) }
cases_from level (switch_case ks ss cs) cases s =
    let t = s.second in
    let u = t.second in
    let v = u.second in
    let w = v.second in
    let r = cases_from level cs w.back w.second in
    let whole : cases ≡ indent level ++ (t.front ++ (codes " " ++ (v.front ++ (codes "\n" ++ w.back)))) = lead_of s ∙ ap (glue (indent level)) (t.parts ∙ ap (glue t.front) (lead_of u ∙ ap (glue (codes " ")) (v.parts ∙ ap (glue v.front) (lead_of w)))) in
    record {
      behind = (t.front ++ (codes " " ++ (v.front ++ (codes "\n" ++ indent level)))) ++ r.behind;
      items = an_item (case_item level ks ss t.front v.front t.first v.first) r.items;
      turned = case_parts level t.front v.front r.behind ∙ ap (λ (x : List ℕ). indent level ++ (t.front ++ (codes " " ++ (v.front ++ (codes "\n" ++ x))))) r.turned ∙ case_regroup level t.front v.front w.back ∙ ap (λ (x : List ℕ). x ++ indent level) (sym whole);
    }

-- ---- from the level to the grammar

-- the keyword and the byte behind it as one literal
word_led : {w v front back : List ℕ} → front ≡ w → back ≡ v → front ++ back ≡ w ++ v
word_led e f = ap₂ (λ (x y : List ℕ). x ++ y) e f

switch_to : (level : ℕ) (e : Expression) (y : Statement) (text front back : List ℕ) → text ≡ codes "switch (" ++ (front ++ (codes ") {\n" ++ back)) → SpellsExpression e front → SwitchForm level e y back → SpellsStatement level y text
unfolding SpellsStatement
switch_to level e y text front back parts s p =
    let q = p.second in
    let c = cases_to q.first in
    let d = q.second in
    let b = d.second in
    let n = b.second in
    let i = n.second in
    let z = i.second in
    let end : i.back ≡ codes "}" = z.parts ∙ ap (glue (codes "}")) z.second.empty in
    let whole : back ≡ c.cases ++ (indent (level + 1) ++ q.back) = p.parts ∙ ap (glue (indent (level + 1))) q.parts ∙ sym (append_assoc (indent (level + 1)) q.front q.back) ∙ ap (λ (x : List ℕ). x ++ q.back) c.turned ∙ append_assoc c.cases (indent (level + 1)) q.back in
    rw z.second.same (led (codes "switch (") (front ++ (codes ") {\n" ++ back)) parts (seq front (codes ") {\n" ++ back) refl s (led (codes ") {\n") back refl (seq c.cases (indent (level + 1) ++ q.back) whole c.spelled (led (indent (level + 1)) q.back refl (led (codes "default: ") d.back d.parts (seq b.front b.back b.parts (block_to (level + 1) b.value b.front b.first) (led (codes "\n") n.back n.parts (led (indent level) i.back i.parts (record { same = end }))))))))))

target_to : (level : ℕ) (e : Expression) (y : Statement) (text front back : List ℕ) → text ≡ front ++ back → SpellsExpression e front → TargetForm level e y back → SpellsStatement level y text
unfolding SpellsStatement SpellsExpression
target_to level (name_use x) y text front back parts s (first p) = rw p.second.is (seq front back parts s (led (codes ": ") p.back p.parts (block_to level p.second.value p.back p.second.first)))
target_to level (name_use x) y text front back parts s (second (first p)) =
    let q = p.second in
    rw q.second.is (seq front back parts s (led (codes " = ") p.back p.parts (seq q.front q.back q.parts q.first (record { same = q.second.first.is }))))
target_to level (name_use x) y text front back parts s (second (second p)) = rw p.second.same (seq front back parts s (record { same = p.parts ∙ ap (glue (codes ";")) p.second.empty }))
target_to level (property_of o n) y text front back parts s (first p) =
    let q = p.second in
    let t = s.second in
    let dot : s.back ++ back ≡ codes "." ++ (t.back ++ back) = ap (λ (x : List ℕ). x ++ back) (lead_of t) in
    rw q.second.is (seq s.front (s.back ++ back) (parts ∙ ap (λ (x : List ℕ). x ++ back) s.parts ∙ append_assoc s.front s.back back) s.first
    (led (codes ".") (t.back ++ back) dot (seq t.back back refl t.second (led (codes " = ") p.back p.parts (seq q.front q.back q.parts q.first (record { same = q.second.first.is }))))))
target_to level (property_of o n) y text front back parts s (second p) = rw p.second.same (seq front back parts s (record { same = p.parts ∙ ap (glue (codes ";")) p.second.empty }))
target_to level (index_of o i) y text front back parts s (first p) =
    let q = p.second in
    let t = s.second in
    let u = t.second in
    let open_is : s.back ++ back ≡ codes "[" ++ (t.back ++ back) = ap (λ (x : List ℕ). x ++ back) (lead_of t) in
    let inside : t.back ++ back ≡ u.front ++ (u.back ++ back) = ap (λ (x : List ℕ). x ++ back) u.parts ∙ append_assoc u.front u.back back in
    let close : u.back ++ back ≡ codes "] = " ++ p.back = ap₂ (λ (x y : List ℕ). x ++ y) u.second.same p.parts in
    rw q.second.is (seq s.front (s.back ++ back) (parts ∙ ap (λ (x : List ℕ). x ++ back) s.parts ∙ append_assoc s.front s.back back) s.first
    (led (codes "[") (t.back ++ back) open_is (seq u.front (u.back ++ back) inside u.first (led (codes "] = ") p.back close (seq q.front q.back q.parts q.first (record { same = q.second.first.is }))))))
target_to level (index_of o i) y text front back parts s (second p) = rw p.second.same (seq front back parts s (record { same = p.parts ∙ ap (glue (codes ";")) p.second.empty }))
target_to level e y text front back parts s p = rw p.second.same (seq front back parts s (record { same = p.parts ∙ ap (glue (codes ";")) p.second.empty }))

-- `e;` behind what is before it
ended : {f : Expression → Statement} {y : Statement} {text : List ℕ} (p : EndedForm f y text) → (SpellsExpression p.value ● Is (codes ";")) text
ended p = seq p.front p.back p.parts p.first (record { same = p.second.first.is })

word_to : (level : ℕ) (h : StatementHead) (y : Statement) (text front back : List ℕ) → text ≡ front ++ back → IsStatementHead h front → StatementWordForm level h y back → SpellsStatement level y text
unfolding SpellsStatement
word_to level statements.Const y text front back parts n p =
    let q = p.second in
    let r = q.second in
    rw r.second.second.is (led (codes "const ") p.back (parts ∙ word_led n.same p.parts) (seq q.front q.back q.parts q.first (led (codes " = ") r.back r.parts (ended r.second))))
word_to level statements.Let y text front back parts n p = elim p.second.second [
  | first r ↦ rw r.second.same (led (codes "let ") p.back (parts ∙ word_led n.same p.parts) (seq p.second.front p.second.back p.second.parts p.second.first (record { same = r.parts ∙ ap (glue (codes ";")) r.second.empty })))
  | second r ↦ rw r.second.second.is (led (codes "let ") p.back (parts ∙ word_led n.same p.parts) (seq p.second.front p.second.back p.second.parts p.second.first (led (codes " = ") r.back r.parts (ended r.second))))
]
word_to level statements.Super y text front back parts n p = rw p.second.same (record { same = parts ∙ word_led n.same (p.parts ∙ ap (glue (codes "();")) p.second.empty) })
word_to level statements.Throw y text front back parts n p = rw p.second.second.is (led (codes "throw ") p.back (parts ∙ word_led n.same p.parts) (ended p.second))
word_to level statements.Return y text front back parts n p = rw p.second.second.is (led (codes "return ") p.back (parts ∙ word_led n.same p.parts) (ended p.second))
word_to level statements.Break y text front back parts n (first p) = rw p.second.same (record { same = parts ∙ word_led n.same (p.parts ∙ ap (glue (codes ";")) p.second.empty) })
word_to level statements.Break y text front back parts n (second p) =
    let q = p.second in
    rw q.second.is (led (codes "break ") p.back (parts ∙ word_led n.same p.parts) (seq q.front q.back q.parts q.first (record { same = q.second.first.is })))
word_to level statements.If y text front back parts n p =
    let q = p.second in
    let r = q.second in
    let b = r.second in
    elim b.second [
      | first t ↦ rw t.second.is (led (codes "if (") p.back (parts ∙ word_led n.same p.parts) (seq q.front q.back q.parts q.first (led (codes ") ") r.back r.parts (seq b.front b.back b.parts (block_to level b.value b.front b.first) (led (codes " else ") t.back t.parts (block_to level t.second.value t.back t.second.first))))))
      | second t ↦
          let whole : r.back ≡ b.front = b.parts ∙ ap (glue b.front) t.empty ∙ append-nil b.front in
          rw t.same (led (codes "if (") p.back (parts ∙ word_led n.same p.parts) (seq q.front q.back q.parts q.first (led (codes ") ") r.back r.parts (block_to level b.value r.back (subst (λ (u : List ℕ). BlockForm level b.value u) (sym whole) b.first)))))
    ]
word_to level statements.While y text front back parts n p =
    let q = p.second in
    let r = q.second in
    rw r.second.is (led (codes "while (") p.back (parts ∙ word_led n.same p.parts) (seq q.front q.back q.parts q.first (led (codes ") ") r.back r.parts (block_to level r.second.value r.back r.second.first))))
word_to level statements.Do y text front back parts n p =
    let q = p.second in
    rw q.second.is (led (codes "do ") p.back (parts ∙ word_led n.same p.parts) (seq q.front q.back q.parts (block_to level q.value q.front q.first) (record { same = q.second.first.is })))
word_to level statements.Try y text front back parts n p =
    let q = p.second in
    let r = q.second in
    elim r.second [
      | first t ↦
          let x = t.second in
          let z = x.second in
          let whole : q.back ≡ codes " catch (" ++ t.back = r.parts ∙ ap (glue (codes " ")) t.parts in
          rw z.second.is (led (codes "try ") p.back (parts ∙ word_led n.same p.parts) (seq q.front q.back q.parts (block_to level q.value q.front q.first) (led (codes " catch (") t.back whole (seq x.front x.back x.parts x.first (led (codes ") ") z.back z.parts (block_to level z.second.value z.back z.second.first))))))
      | second t ↦
          let whole : q.back ≡ codes " finally " ++ t.back = r.parts ∙ ap (glue (codes " ")) t.parts in
          rw t.second.is (led (codes "try ") p.back (parts ∙ word_led n.same p.parts) (seq q.front q.back q.parts (block_to level q.value q.front q.first) (led (codes " finally ") t.back whole (block_to level t.second.value t.back t.second.first))))
    ]
word_to level statements.Switch y text front back parts n p =
    let q = p.second in
    let r = q.second in
    switch_to level q.value y text q.front r.back (parts ∙ word_led n.same p.parts ∙ ap (glue (codes "switch (")) (q.parts ∙ ap (glue q.front) r.parts)) q.first r.second
word_to level (statements.Expression h) y text front back parts n p =
    target_to level p.value y text (front ++ p.front) p.back (parts ∙ ap (glue front) p.parts ∙ sym (append_assoc front p.front p.back)) (after_to h p.value front p.front n p.first).spelled p.second

pub statement_to : (level : ℕ) (y : Statement) (text : List ℕ) → StatementForm level y text → SpellsStatement level y text
statement_to level y text (first p) = word_to level p.value y text p.front p.back p.parts p.first p.second
statement_to level y text (second p) = target_to level p.value y text p.front p.back p.parts p.first.spelled p.second

-- ---- from the grammar to the level

-- an expression that stands first, and what is behind it
routed : (level : ℕ) (e : Expression) (y : Statement) (text front back : List ℕ) → text ≡ front ++ back → SpellsExpression e front → TargetForm level e y back → StatementForm level y text
routed level e y text front back parts s t = elim (expression_from e front s) [
  | first p ↦ first (record { value = statements.Expression p.value; front = p.front; back = p.back ++ back; first = p.first; second = record { value = e; front = p.back; back = back; first = p.second; second = t; parts = refl }; parts = parts ∙ ap (λ (x : List ℕ). x ++ back) p.parts ∙ append_assoc p.front p.back back })
  | second p ↦ second (record { value = e; front = front; back = back; first = record { spelled = s; off = wordless_off e front p }; second = t; parts = parts })
]

keyed : (level : ℕ) (h : StatementHead) (y : Statement) (text w back : List ℕ) → text ≡ w ++ back → IsStatementHead h w → StatementWordForm level h y back → StatementForm level y text
keyed level h y text w back parts n p = first (record { value = h; front = w; back = back; first = n; second = p; parts = parts })

ended_from : (f : Expression → Statement) (e : Expression) (text : List ℕ) → (SpellsExpression e ● Is (codes ";")) text → EndedForm f (f e) text
ended_from f e text s = record { value = e; front = s.front; back = s.back; first = s.first; second = closing (f e) s.second; parts = s.parts }

block_mapped : (level : ℕ) (f : Statements → Statement) (ss : Statements) (text : List ℕ) → Block level (SpellsLines (level + 1) ss) text → IsMapped f (BlockForm level) (f ss) text
block_mapped level f ss text s = record { value = ss; first = block_from level ss text s; is = refl }

semicolon : (y : Statement) (text : List ℕ) → Is (codes ";") text → Leads (codes ";") (IsValue y) y text
semicolon y text s = record { back = []; second = no_more y; parts = s.same }

alone : (level : ℕ) (e : Expression) (text : List ℕ) → Is (codes ";") text → TargetForm level e (expression_statement e) text
alone level (name_use x) text s = second (second (semicolon _ text s))
alone level (property_of o p) text s = second (semicolon _ text s)
alone level (index_of o i) text s = second (semicolon _ text s)
alone level e text s = semicolon _ text s

pub statement_from : (level : ℕ) (y : Statement) (text : List ℕ) → SpellsStatement level y text → StatementForm level y text
unfolding SpellsStatement SpellsExpression
statement_from level (const_of x e) text s =
    let t = s.second in
    keyed level statements.Const _ text (codes "const") (codes " " ++ s.back) (lead_of s) (record { same = refl })
    (record { back = s.back; parts = refl; second = record { value = x; front = t.front; back = t.back; first = t.first; parts = t.parts; second = leads _ t.second (ended_from (λ e. const_of x e) e t.second.back t.second.second) } })
statement_from level (let_of x e) text s =
    let t = s.second in
    keyed level statements.Let _ text (codes "let") (codes " " ++ s.back) (lead_of s) (record { same = refl })
    (record { back = s.back; parts = refl; second = record { value = x; front = t.front; back = t.back; first = t.first; parts = t.parts; second = second (leads _ t.second (ended_from (λ e. let_of x e) e t.second.back t.second.second)) } })
statement_from level (declare_of x) text s =
    let t = s.second in
    keyed level statements.Let _ text (codes "let") (codes " " ++ s.back) (lead_of s) (record { same = refl })
    (record { back = s.back; parts = refl; second = record { value = x; front = t.front; back = t.back; first = t.first; parts = t.parts; second = first (semicolon _ t.back t.second) } })
statement_from level (expression_statement e) text s = routed level e _ text s.front s.back s.parts s.first (alone level e s.back s.second)
statement_from level (assign_name x e) text s = routed level (name_use x) _ text s.front s.back s.parts s.first (second (first (leads _ s.second (ended_from (λ e. assign_name x e) e s.second.back s.second.second))))
statement_from level (assign_property o p e) text s =
    let t = s.second in
    let u = t.second in
    let v = u.second in
    let parts : text ≡ (s.front ++ (codes "." ++ u.front)) ++ u.back = s.parts ∙ ap (glue s.front) (lead_of t ∙ ap (glue (codes ".")) u.parts) ∙ sym (append_assoc s.front (codes "." ++ u.front) u.back) in
    routed level (property_of o p) _ text (s.front ++ (codes "." ++ u.front)) u.back parts (seq s.front (codes "." ++ u.front) refl s.first (led (codes ".") u.front refl u.first)) (first (leads _ v (ended_from (λ e. assign_property o p e) e v.back v.second)))
statement_from level (assign_index o i e) text s =
    let t = s.second in
    let u = t.second in
    let v = u.second in
    let inside : t.back ≡ (u.front ++ codes "]") ++ (codes " = " ++ v.back) = u.parts ∙ ap (glue u.front) (lead_of v) ∙ sym (append_assoc u.front (codes "]") (codes " = " ++ v.back)) in
    let parts : text ≡ (s.front ++ (codes "[" ++ (u.front ++ codes "]"))) ++ (codes " = " ++ v.back) = s.parts ∙ ap (glue s.front) (lead_of t ∙ ap (glue (codes "[")) inside) ∙ sym (append_assoc s.front (codes "[" ++ (u.front ++ codes "]")) (codes " = " ++ v.back)) in
    routed level (index_of o i) _ text (s.front ++ (codes "[" ++ (u.front ++ codes "]"))) (codes " = " ++ v.back) parts (seq s.front (codes "[" ++ (u.front ++ codes "]")) refl s.first (led (codes "[") (u.front ++ codes "]") refl (seq u.front (codes "]") refl u.first (record { same = refl }))))
    (first (record { back = v.back; parts = refl; second = ended_from (λ e. assign_index o i e) e v.back v.second }))
statement_from level super_call text s = keyed level statements.Super _ text (codes "super") (codes "();") s.same (record { same = refl }) (record { back = []; second = no_more super_call; parts = refl })
statement_from level (throw_of e) text s = keyed level statements.Throw _ text (codes "throw") (codes " " ++ s.back) (lead_of s) (record { same = refl }) (record { back = s.back; parts = refl; second = ended_from (λ e. throw_of e) e s.back s.second })
statement_from level (return_of e) text s = keyed level statements.Return _ text (codes "return") (codes " " ++ s.back) (lead_of s) (record { same = refl }) (record { back = s.back; parts = refl; second = ended_from (λ e. return_of e) e s.back s.second })
statement_from level break_nearest text s = keyed level statements.Break _ text (codes "break") (codes ";") s.same (record { same = refl }) (first (record { back = []; second = no_more break_nearest; parts = refl }))
statement_from level (break_to x) text s =
    let t = s.second in
    keyed level statements.Break _ text (codes "break") (codes " " ++ s.back) (lead_of s) (record { same = refl })
    (second (record { back = s.back; parts = refl; second = record { value = x; front = t.front; back = t.back; first = t.first; second = closing (break_to x) t.second; parts = t.parts } }))
statement_from level (if_only c ss) text s =
    let t = s.second in
    let u = t.second in
    keyed level statements.If _ text (codes "if") (codes " (" ++ s.back) (lead_of s) (record { same = refl })
    (record { back = s.back; parts = refl; second = record { value = c; front = t.front; back = t.back; first = t.first; parts = t.parts; second = leads _ u (record { value = ss; front = u.back; back = []; first = block_from level ss u.back u.second; second = second (no_more (if_only c ss)); parts = sym (append-nil u.back) }) } })
statement_from level (if_else c ss ts) text s =
    let t = s.second in
    let u = t.second in
    let v = u.second in
    keyed level statements.If _ text (codes "if") (codes " (" ++ s.back) (lead_of s) (record { same = refl })
    (record { back = s.back; parts = refl; second = record { value = c; front = t.front; back = t.back; first = t.first; parts = t.parts; second = leads _ u (record { value = ss; front = v.front; back = v.back; first = block_from level ss v.front v.first; second = first (leads _ v.second (block_mapped level (λ ts. if_else c ss ts) ts v.second.back v.second.second)); parts = v.parts }) } })
statement_from level (while_of c ss) text s =
    let t = s.second in
    let u = t.second in
    keyed level statements.While _ text (codes "while") (codes " (" ++ s.back) (lead_of s) (record { same = refl })
    (record { back = s.back; parts = refl; second = record { value = c; front = t.front; back = t.back; first = t.first; parts = t.parts; second = leads _ u (block_mapped level (λ ss. while_of c ss) ss u.back u.second) } })
statement_from level (do_forever ss) text s =
    let t = s.second in
    keyed level statements.Do _ text (codes "do") (codes " " ++ s.back) (lead_of s) (record { same = refl })
    (record { back = s.back; parts = refl; second = record { value = ss; front = t.front; back = t.back; first = block_from level ss t.front t.first; second = closing (do_forever ss) t.second; parts = t.parts } })
statement_from level (labeled_of x ss) text s = routed level (name_use x) _ text s.front s.back s.parts s.first (first (leads _ s.second (block_mapped level (λ ss. labeled_of x ss) ss s.second.back s.second.second)))
statement_from level (try_catch ss x ts) text s =
    let t = s.second in
    let u = t.second in
    let v = u.second in
    keyed level statements.Try _ text (codes "try") (codes " " ++ s.back) (lead_of s) (record { same = refl })
    (record {
      back = s.back;
      parts = refl;
      second = record {
        value = ss;
        front = t.front;
        back = t.back;
        first = block_from level ss t.front t.first;
        parts = t.parts;
        second = record { back = codes "catch (" ++ u.back; parts = lead_of u; second = first (record { back = u.back; parts = refl; second = record { value = x; front = v.front; back = v.back; first = v.first; parts = v.parts; second = leads _ v.second (block_mapped level (λ ts. try_catch ss x ts) ts v.second.back v.second.second) } }) };
      };
    })
statement_from level (try_finally ss ts) text s =
    let t = s.second in
    let u = t.second in
    keyed level statements.Try _ text (codes "try") (codes " " ++ s.back) (lead_of s) (record { same = refl })
    (record {
      back = s.back;
      parts = refl;
      second = record {
        value = ss;
        front = t.front;
        back = t.back;
        first = block_from level ss t.front t.first;
        parts = t.parts;
        second = record { back = codes "finally " ++ u.back; parts = lead_of u; second = second (record { back = u.back; parts = refl; second = block_mapped level (λ ts. try_finally ss ts) ts u.back u.second }) };
      };
    })
statement_from level (switch_on e cs ss) text s =
    let t = s.second in
    let u = t.second in
    let v = u.second in
    let w = v.second in
    let x = w.second in
    let y = x.second in
    let z = y.second in
    let i = z.second in
    let r = cases_from (level + 1) cs v.front v.first in
    let whole : u.back ≡ indent (level + 1) ++ (r.behind ++ w.back) = v.parts ∙ ap (glue v.front) (lead_of w) ∙ sym (append_assoc v.front (indent (level + 1)) w.back) ∙ ap (λ (k : List ℕ). k ++ w.back) (sym r.turned) ∙ append_assoc (indent (level + 1)) r.behind w.back in
    keyed level statements.Switch _ text (codes "switch") (codes " (" ++ s.back) (lead_of s) (record { same = refl })
    (record {
      back = s.back;
      parts = refl;
      second = record {
        value = e;
        front = t.front;
        back = t.back;
        first = t.first;
        parts = t.parts;
        second = leads _ u (record {
          back = r.behind ++ w.back;
          parts = whole;
          second = record {
            value = cases_list cs;
            front = r.behind;
            back = w.back;
            first = r.items;
            parts = refl;
            second = leads _ x (record {
              value = ss;
              front = y.front;
              back = y.back;
              first = block_from (level + 1) ss y.front y.first;
              parts = y.parts;
              second = leads _ z (leads _ i (record { back = []; parts = i.second.same; second = record { same = ap (λ (k : Cases). switch_on e k ss) (sym (list_cases cs)); empty = refl } }));
            });
          };
        });
      };
    })
