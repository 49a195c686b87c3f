-- Trees, arguments, items and cases one after another.
use Rattle.std.proofs.Common.{◌≡◌, ◌∙◌, ◌<◌, ◌+◌, ℕ, ℤ, None, suc, length, get_or, drop, take, ◌-◌, add-one, arith, Bool, ◌&&◌, List, [], ◌∷◌, ◌++◌, refl, ap, sym, append_assoc}
use Rattle.std.proofs.Math.Seq.{drop-cons, take-length}
use Rattle.std.proofs.lemmas.List.{append-nil, length-drop}
use Rattle.sj_core.specs.Terms.{Expression, followed, statement, no_statements, break_nearest, switch_case}
use Rattle.sj_core.specs.Views as core
use Rattle.sj_desugar_spec.specs.Coercions.{coerced, coerced_arguments, coerced_items}
use Rattle.sj_desugar_spec.specs.Desugar.{Targets, into, block, cases, operand, operands, types_of, Branches}
use Rattle.sj_desugar_spec.specs.Plain.{are_plain, is_plain}
use Rattle.sj_desugar_spec.specs.Spill.{Destination, discard, Code, joined, no_code, all_plain, Spilled, spill}
use Rattle.sj_desugar_forms.specs.Arguments.{coerced_argument, without_first, with_arguments, with_items, arguments_onto}
use Rattle.sj_desugar_forms.specs.Forms.{branches_onto, for_last}
use Rattle.sj_desugar.specs.Operands.{comes_to}
use Rattle.sj_desugar_forms.specs.Placing.{Placed, placed}
use Rattle.sj_desugar_forms.proofs.Arguments.{arguments-first, arguments-none}
use Rattle.sj_desugar_forms.proofs.Lists.{followed-nil, followed-assoc}
use Rattle.sj_desugar.proofs.Spilling.{spill-more, in_front}
use Rattle.sj_names.specs.declared.references.TypeRef.{TypeRef}
use Rattle.sj_trees.specs.Term.{Term, Terms, no_terms, more_terms, more_cases}
use Rattle.sj_trees.specs.TypeOf.{type_of_term}
use Rattle.sj_trees.specs.View.{view, terms_view, cases_view, view_case}
use Rattle.sj_trees.specs.declared.trees.MatchCase.{MatchCase}
use Rattle.sj_trees.specs.declared.trees.Tree.{Tree}
use Rattle.sj_trees.specs.declared.types.IrType.{IrType}

pub joined-assoc : (c d e : Code) → joined (joined c d) e ≡ joined c (joined d e)
joined-assoc c d e = ap (λ ss. record { statements = ss; next = e.next }) (followed-assoc c.statements d.statements e.statements)

pub joined-nothing : (c : Code) → joined c (no_code c.next) ≡ c
joined-nothing c = ap (λ ss. record { statements = ss; next = c.next }) (followed-nil c.statements)

-- an element of a list and those behind it
pub taken : {A : Type 0} → (xs : List A) (n : ℕ) (x : A) → n < length xs → x ≡ get_or xs n x → drop n xs ≡ x ∷ drop (n + 1) xs
taken xs n x h e = drop-cons xs n x h ∙ ap (λ y. y ∷ drop (suc n) xs) (sym e) ∙ ap (λ i. x ∷ drop i xs) (sym (add-one n))

-- what is behind a place of a slice
pub slice-rest : {A : Type 0} → (xs : List A) (n : ℕ) → take (length xs - n) (drop n xs) ≡ drop n xs
slice-rest xs n = ap (λ k. take k (drop n xs)) (sym (length-drop n xs)) ∙ take-length (drop n xs)

-- a case behind others
case-onto : (cs : List core.Case) (c : core.Case) (bs : Branches) → branches_onto (cs ++ c ∷ []) bs ≡ branches_onto cs (record { cases = switch_case c.0 c.1 bs.cases; next = bs.next })
case-onto [] c bs = refl
case-onto (x ∷ cs) c bs = ap (λ (b : Branches). record { cases = switch_case x.0 x.1 b.cases; next = b.next }) (case-onto cs c bs)

-- operands of whose expressions others are made
abbrev through : (List Expression → List Expression) → Spilled → Spilled
through f r = record { statements = r.statements; expressions = f r.expressions; next = r.next }

module _ (m s : List ℕ → Bool) (ls : Targets) where
  pub operands-plain : (ts : Terms) → all_plain (operands m s ls ts) ≡ are_plain ts
  operands-plain no_terms = refl
  operands-plain (more_terms t ts) = ap (λ b. is_plain t && b) (operands-plain ts)

  -- a tree of a block behind what was written, the last one and any other
  pub block-last : (w : Code) (k : Destination) (t : Term) → joined w (block m s ls k w.next (more_terms t no_terms)) ≡ joined (joined w (into m s ls k w.next t)) (block m s ls k (into m s ls k w.next t).next no_terms)
  block-last w k t = sym (joined-nothing (joined w (into m s ls k w.next t)))

  pub block-more : (w : Code) (k : Destination) (t u : Term) (us : Terms) → joined w (block m s ls k w.next (more_terms t (more_terms u us))) ≡ joined (joined w (into m s ls discard w.next t)) (block m s ls k (into m s ls discard w.next t).next (more_terms u us))
  block-more w k t u us = sym (joined-assoc w (into m s ls discard w.next t) (block m s ls k (into m s ls discard w.next t).next (more_terms u us)))

  -- an operand behind those that were written, where the first is made of its expression, and the rest of those behind it
  operand-more : (whole rest : List Expression → List Expression) (first : Expression → Expression) → ((e : Expression) (es : List Expression) → whole (e ∷ es) ≡ first e ∷ rest es) → (w : Code) (es : List Expression) (t : Term) (ts : Terms) → arguments_onto w es (through whole (spill (operands m s ls (more_terms t ts)) w.next)) ≡ (let p = placed (are_plain ts) (operand m s t (λ k j. into m s ls k j t)) w.next in arguments_onto (joined w (record { statements = p.statements; next = p.next })) (es ++ first p.expression ∷ []) (through rest (spill (operands m s ls ts) p.next)))
  operand-more whole rest first law w es t ts =
      let o = operand m s t (λ k j. into m s ls k j t) in
      ap (λ r. arguments_onto w es (through whole r)) (spill-more o (operands m s ls ts) w.next) ∙ ap (λ b. arguments_onto w es (through whole (in_front (placed b o w.next) (spill (operands m s ls ts))))) (operands-plain ts) ∙ step (placed (are_plain ts) o w.next)
    where
      step : (p : Placed) → arguments_onto w es (through whole (in_front p (spill (operands m s ls ts)))) ≡ arguments_onto (joined w (record { statements = p.statements; next = p.next })) (es ++ first p.expression ∷ []) (through rest (spill (operands m s ls ts) p.next))
      step p =
          let r = spill (operands m s ls ts) p.next in
          λ i. record {
            statements = sym (followed-assoc w.statements p.statements r.statements) i;
            expressions = (ap (λ xs. es ++ xs) (law p.expression r.expressions) ∙ sym (append_assoc es (first p.expression ∷ []) (rest r.expressions))) i;
            next = r.next;
          }

  -- the steps of the loops over trees, arguments, items and cases
  block-rest : (w : Code) (k : Destination) (t : Tree) (us : List Tree) → joined (joined w (into m s ls (for_last us k discard) w.next (view t))) (block m s ls k (into m s ls (for_last us k discard) w.next (view t)).next (terms_view us)) ≡ joined w (block m s ls k w.next (terms_view (t ∷ us)))
  block-rest w k t [] = sym (block-last w k (view t))
  block-rest w k t (u ∷ us) = sym (block-more w k (view t) (view u) (terms_view us))

  pub block-step : (ts : List Tree) (n : ℕ) (t : Tree) (k d : Destination) (w c v : Code) → n < length ts → t ≡ get_or ts n t → d ≡ for_last (drop (n + 1) ts) k discard → c ≡ into m s ls d w.next (view t) → v ≡ joined w c → joined v (block m s ls k v.next (terms_view (drop (n + 1) ts))) ≡ joined w (block m s ls k w.next (terms_view (drop n ts)))
  block-step ts n t k d w c v h e hd hc hv =
      let written : v ≡ joined w (into m s ls (for_last (drop (n + 1) ts) k discard) w.next (view t)) = hv ∙ ap (joined w) (hc ∙ ap (λ x. into m s ls x w.next (view t)) hd) in
      (λ i. joined (written i) (block m s ls k (written i).next (terms_view (drop (n + 1) ts)))) ∙ block-rest w k t (drop (n + 1) ts) ∙ ap (λ us. joined w (block m s ls k w.next (terms_view us))) (sym (taken ts n t h e))

  operand-step : (whole rest : List Expression → List Expression) (first : Expression → Expression) → ((e : Expression) (es : List Expression) → whole (e ∷ es) ≡ first e ∷ rest es) → (w v : Code) (o : Placed) (es fs : List Expression) (t : Term) (ts : Terms) (plain : Bool) → plain ≡ are_plain ts → o ≡ comes_to m s ls plain w.next t → v ≡ joined w (record { statements = o.statements; next = o.next }) → fs ≡ es ++ first o.expression ∷ [] → arguments_onto v fs (through rest (spill (operands m s ls ts) v.next)) ≡ arguments_onto w es (through whole (spill (operands m s ls (more_terms t ts)) w.next))
  unfolding comes_to
  operand-step whole rest first law w v o es fs t ts plain hr ho hv hf =
      let placing : o ≡ placed (are_plain ts) (operand m s t (λ k j. into m s ls k j t)) w.next = ho ∙ ap (λ b. placed b (operand m s t (λ k j. into m s ls k j t)) w.next) hr in
      let written : v ≡ joined w (record { statements = (placed (are_plain ts) (operand m s t (λ k j. into m s ls k j t)) w.next).statements; next = (placed (are_plain ts) (operand m s t (λ k j. into m s ls k j t)) w.next).next }) = hv ∙ ap (λ (x : Placed). joined w (record { statements = x.statements; next = x.next })) placing in
      let brought : fs ≡ es ++ first (placed (are_plain ts) (operand m s t (λ k j. into m s ls k j t)) w.next).expression ∷ [] = hf ∙ ap (λ (x : Placed). es ++ first x.expression ∷ []) placing in
      (λ i. arguments_onto (written i) (brought i) (through rest (spill (operands m s ls ts) (written i).next))) ∙ sym (operand-more whole rest first law w es t ts)

  pub arguments-step : (ts : List Tree) (n : ℕ) (t : Tree) (w v : Code) (o : Placed) (es fs : List Expression) (rs ss : List TypeRef) (rest : Bool) → n < length ts → t ≡ get_or ts n t → rest ≡ are_plain (terms_view (drop (n + 1) ts)) → o ≡ comes_to m s ls rest w.next (view t) → v ≡ joined w (record { statements = o.statements; next = o.next }) → fs ≡ es ++ coerced_argument rs (type_of_term (view t)) o.expression ∷ [] → ss ≡ without_first rs → arguments_onto v fs (with_arguments ss (types_of (terms_view (drop (n + 1) ts))) (spill (operands m s ls (terms_view (drop (n + 1) ts))) v.next)) ≡ arguments_onto w es (with_arguments rs (types_of (terms_view (drop n ts))) (spill (operands m s ls (terms_view (drop n ts))) w.next))
  arguments-step ts n t w v o es fs rs ss rest h e hr ho hv hf hs =
      let us = terms_view (drop (n + 1) ts) in
      let own = type_of_term (view t) in
      ap (λ xs. arguments_onto v fs (with_arguments xs (types_of us) (spill (operands m s ls us) v.next))) hs ∙ operand-step (coerced_arguments rs (own ∷ types_of us)) (coerced_arguments (without_first rs) (types_of us)) (coerced_argument rs own) (arguments-first rs own (types_of us)) w v o es fs (view t) us rest hr ho hv hf ∙ ap (λ xs. arguments_onto w es (with_arguments rs (types_of (terms_view xs)) (spill (operands m s ls (terms_view xs)) w.next))) (sym (taken ts n t h e))

  pub items-step : (ts : List Tree) (n : ℕ) (t : Tree) (w v : Code) (o : Placed) (es fs : List Expression) (u : IrType) (rest : Bool) → n < length ts → t ≡ get_or ts n t → rest ≡ are_plain (terms_view (drop (n + 1) ts)) → o ≡ comes_to m s ls rest w.next (view t) → v ≡ joined w (record { statements = o.statements; next = o.next }) → fs ≡ es ++ coerced u (type_of_term (view t)) o.expression ∷ [] → arguments_onto v fs (with_items u (types_of (terms_view (drop (n + 1) ts))) (spill (operands m s ls (terms_view (drop (n + 1) ts))) v.next)) ≡ arguments_onto w es (with_items u (types_of (terms_view (drop n ts))) (spill (operands m s ls (terms_view (drop n ts))) w.next))
  items-step ts n t w v o es fs u rest h e hr ho hv hf =
      let us = terms_view (drop (n + 1) ts) in
      let own = type_of_term (view t) in
      operand-step (coerced_items u (own ∷ types_of us)) (coerced_items u (types_of us)) (coerced u own) (λ x xs. refl) w v o es fs (view t) us rest hr ho hv hf ∙ ap (λ xs. arguments_onto w es (with_items u (types_of (terms_view xs)) (spill (operands m s ls (terms_view xs)) w.next))) (sym (taken ts n t h e))

  cases-rest : (k : Destination) (j : ℕ) (c : MatchCase) (cs : List MatchCase) (out : List core.Case) (w : Code) (z : ℤ) (zs : List ℤ) → (view_case c).0 ≡ z ∷ zs → w ≡ into m s ls k j (view_case c).1 → branches_onto (out ++ ((view_case c).0, followed w.statements (statement (break_nearest None) no_statements)) ∷ []) (cases m s ls k w.next (cases_view cs)) ≡ branches_onto out (cases m s ls k j (cases_view (c ∷ cs)))
  cases-rest k j c cs out w z zs hz hw =
      (λ i. branches_onto (out ++ (hz i, followed (hw i).statements (statement (break_nearest None) no_statements)) ∷ []) (cases m s ls k (hw i).next (cases_view cs))) ∙ case-onto out (z ∷ zs, followed (into m s ls k j (view_case c).1).statements (statement (break_nearest None) no_statements)) (cases m s ls k (into m s ls k j (view_case c).1).next (cases_view cs)) ∙ (λ i. branches_onto out (cases m s ls k j (more_cases (sym hz i) (view_case c).1 (cases_view cs))))

  pub cases-take : (cs : List MatchCase) (n : ℕ) (c : MatchCase) (k : Destination) (j : ℕ) (out put : List core.Case) (w : Code) → n < length cs → c ≡ get_or cs n c → 0 < length (view_case c).0 → w ≡ into m s ls k j (view_case c).1 → put ≡ out ++ ((view_case c).0, followed w.statements (statement (break_nearest None) no_statements)) ∷ [] → branches_onto put (cases m s ls k w.next (cases_view (drop (n + 1) cs))) ≡ branches_onto out (cases m s ls k j (cases_view (drop n cs)))
  cases-take cs n c k j out put w h e hk hw hp =
      ap (λ xs. branches_onto xs (cases m s ls k w.next (cases_view (drop (n + 1) cs)))) hp ∙ by_keys (view_case c).0 refl hk ∙ ap (λ xs. branches_onto out (cases m s ls k j (cases_view xs))) (sym (taken cs n c h e))
    where
      by_keys : (ks : List ℤ) → (view_case c).0 ≡ ks → 0 < length ks → branches_onto (out ++ ((view_case c).0, followed w.statements (statement (break_nearest None) no_statements)) ∷ []) (cases m s ls k w.next (cases_view (drop (n + 1) cs))) ≡ branches_onto out (cases m s ls k j (cases_view (c ∷ drop (n + 1) cs)))
      by_keys [] q l = absurd (omega arith)
      by_keys (z ∷ zs) q l = cases-rest k j c (drop (n + 1) cs) out w z zs q hw

  pub cases-skip : (cs : List MatchCase) (n : ℕ) (c : MatchCase) (k : Destination) (j : ℕ) (out : List core.Case) → n < length cs → c ≡ get_or cs n c → (view_case c).0 ≡ [] → branches_onto out (cases m s ls k j (cases_view (drop (n + 1) cs))) ≡ branches_onto out (cases m s ls k j (cases_view (drop n cs)))
  cases-skip cs n c k j out h e hk =
      (λ i. branches_onto out (cases m s ls k j (more_cases (sym hk i) (view_case c).1 (cases_view (drop (n + 1) cs))))) ∙ ap (λ xs. branches_onto out (cases m s ls k j (cases_view xs))) (sym (taken cs n c h e))

pub ruleset ends = (followed-nil, arguments-none, append-nil)
