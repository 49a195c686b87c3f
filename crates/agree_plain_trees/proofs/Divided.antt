-- A division whose helper can be used: by a literal other than zero, and through the helper by any other divisor.
use Rattle.std.proofs.Common.{◌≡◌, zero, suc, Bool, true, false, List, [], ◌∷◌, refl, sym, ap, ◌∙◌, subst, ◌⊎◌, inl, inr, if◌then◌else◌}
use Rattle.std.specs.Prelude.{ℤ, pos, negsuc}
use Rattle.int_arithmetic.specs.BigInts.{is_in_range}
use Rattle.int_arithmetic.specs.Numbers as numbers
use Rattle.outcomes.specs.Outcome.{Out, End, Lines, Done, Going, Wrong, done, wrong, then_do}
use Rattle.outcomes.specs.Agreement.{Direction, forward, backward, Related, Sim}
use Rattle.outcomes.proofs.Simulation.{sim_then, sim_weaken}
use Rattle.agree_body_rules.specs.Built.{divides}
use Rattle.sj_emit_help_spec.specs.Helpers.{helper_name}
use Rattle.ir_mean.specs.Meaning as ir_meaning
use Rattle.ir_mean.specs.Operators as ir_operators
use Rattle.ir_mean.specs.States as ir
use Rattle.js_mean.specs.Meaning as js_meaning
use Rattle.js_mean.specs.Operators as js_operators
use Rattle.js_mean.specs.States as js
use Rattle.js_tree.specs.Terms as tree
use Rattle.js_tree.specs.declared.operators.BinaryOperator.TheVariants as Op
use Rattle.sj_core.specs.Terms as core
use Rattle.agree_body_rules.specs.Templates.{expression_template, binary_template, is_nonzero_literal}
use Rattle.sj_names.proofs.Same.{impossible}
use Rattle.sj_trees.specs.TypeOf.{binary_result}
use Rattle.sj_trees.specs.declared.operators.BinaryOp.{BinaryOp}
use Rattle.sj_trees.specs.declared.operators.BinaryOp.TheVariants.{IntDivide, IntRemainder, LongDivide, LongRemainder}
use Rattle.sj_trees.specs.declared.types.IrType.{IrType}
use Rattle.agree_body_rules.specs.Rules.{left_operand, right_operand}
use Rattle.agree_body_rules.specs.Operators.{IsDivision, a_quotient, a_remainder, IsLongDivision, a_long_quotient, a_long_remainder}
use Rattle.agree_body_rules.specs.Standing.{Fits}
use Rattle.agree_plain_trees.specs.Settings.{Setting, usable, shown, SameState, Valued, valued, thrown, Lawful, Inside, a_helper, division_helper, top_function}
use Rattle.agree_plain_trees.proofs.Divisions.{over_int, over_long, divided_alike, long_divided_alike}
use Rattle.agree_plain_trees.proofs.Orders.{ActsAlike, OperandAlike, OperandsAlike, no_operands, more_operands, first_then, in_order_alike, in_order-then, valued-weaken}
use Rattle.agree_plain_trees.proofs.Shifts.{IsLong, a_long, IsInt, an_int, as_long, as_int}
use Rattle.agree_plain_trees.proofs.Templates.{value_alike, wrapped_next}
use Rattle.agree_plain_trees.proofs.Tops.{top_seen}
use Rattle.agree_plain_trees.proofs.Worlds.{World, Grows, grows-refl, grows-trans, SameValue, value-lift, value-fits, no_values, one_more}

-- what the second side comes to is known
related_known : {A B : Type 0} (d : Direction) (E : A → B → Type 0) (l : Lines) (e : End A) (b : B) → Related d E l e [] (Done b) → Related d (λ x y. E x y × (y ≡ b)) l e [] (Done b)
related_known forward E l Wrong b h = tt
related_known backward E l Wrong b h = tt
related_known forward E l (Done a) b h = (h.0, (h.1, refl))
related_known backward E l (Done a) b h = (h.0, (h.1, refl))
related_known forward E l Going b h = h
related_known backward E l Going b h = h

related_never : {A B : Type 0} (d : Direction) (E F : A → B → Type 0) (l : Lines) (e : End A) → Related d E l e [] Wrong → Related d F l e [] Wrong
related_never forward E F l Wrong h = tt
related_never backward E F l Wrong h = tt
related_never forward E F l (Done a) h = h
related_never backward E F l (Done a) h = h
related_never forward E F l Going h = h
related_never backward E F l Going h = h

-- an expression that gives this value or is wrong
abbrev Gives : js.Value → js.State → Out js.ExpressionEnd → Type 0
Gives x u q = (q ≡ done (js.gives x u)) ⊎ (q ≡ wrong)

sim_known : {A : Type 0} (d : Direction) (E : A → js.ExpressionEnd → Type 0) (x : js.Value) (u : js.State) (o : Out A) (q : Out js.ExpressionEnd) → Gives x u q → Sim d E o q → Sim d (λ a b. E a b × (b ≡ js.gives x u)) o q
sim_known d E x u o q (inl e) h = subst (λ q. Sim d (λ a b. E a b × (b ≡ js.gives x u)) o q) (sym e) (record { by = related_known d E o.lines o.end (js.gives x u) (subst (λ q. Sim d E o q) e h).by })
sim_known d E x u o q (inr e) h = subst (λ q. Sim d (λ a b. E a b × (b ≡ js.gives x u)) o q) (sym e) (record { by = related_never d E (λ a b. E a b × (b ≡ js.gives x u)) o.lines o.end (subst (λ q. Sim d E o q) e h).by })

-- a value other than the two zeros
pub record IsNoZero (x : js.Value) : Type 0 where
  pub number : x ≡ js.number (pos 0) → ⊥
  pub big_int : x ≡ js.big_int (pos 0) → ⊥

-- what is done with the operands where the divisor is a literal other than zero
abbrev literal_act : BinaryOp → List js.Value → js.Evaluation
literal_act IntDivide = js_meaning.ratio numbers.quotient_or_zero
literal_act IntRemainder = js_meaning.ratio numbers.remainder_or_zero
literal_act LongDivide = λ xs sc u. then_do (js_meaning.binary Op.Divide xs sc u) (js.with_value (λ v. js_meaning.value_or_wrong (js_operators.as_signed_value (js.number (pos 64)) v) sc))
literal_act _ = js_meaning.binary Op.Remainder

module _ (z : Setting) where
  abbrev Literal : core.Expression → Type 0
  Literal d = (x : js.Value) × IsNoZero x × ((sc : js.Scope) (u : js.State) → Gives x u (shown z d sc u))

  number_literal : (n : ℤ) → (n ≡ pos 0 → ⊥) → Literal (core.number_value n)
  number_literal n ne = (js.number n, record { number = λ e. ne (number_is e); big_int = λ e. cc }, λ sc u. go (numbers.is_exact n) sc u)
    where
      number_is : js.number n ≡ js.number (pos 0) → n ≡ pos 0
      number_is e = cc

      go : (b : Bool) (sc : js.Scope) (u : js.State) → Gives (js.number n) u (if b then done (js.gives (js.number n) u) else wrong)
      go true sc u = inl refl
      go false sc u = inr refl

  long_literal : (n : ℤ) → (n ≡ pos 0 → ⊥) → Literal (core.long_value n)
  long_literal n ne = (js.big_int n, record { number = λ e. cc; big_int = λ e. ne (big_is e) }, λ sc u. go (is_in_range n) sc u)
    where
      big_is : js.big_int n ≡ js.big_int (pos 0) → n ≡ pos 0
      big_is e = cc

      go : (b : Bool) (sc : js.Scope) (u : js.State) → Gives (js.big_int n) u (if b then done (js.gives (js.big_int n) u) else wrong)
      go true sc u = inl refl
      go false sc u = inr refl

  literal : (d : core.Expression) → is_nonzero_literal d ≡ true → Literal d
  literal core.undefined_value h = (js.undefined, record { number = λ e. cc; big_int = λ e. cc }, λ sc u. inl refl)
  literal core.null_value h = (js.null, record { number = λ e. cc; big_int = λ e. cc }, λ sc u. inl refl)
  literal (core.boolean_value b) h = (js.boolean b, record { number = λ e. cc; big_int = λ e. cc }, λ sc u. inl refl)
  literal (core.text_value us) h = (js.text us, record { number = λ e. cc; big_int = λ e. cc }, λ sc u. inl refl)
  literal (core.number_value (pos zero)) h = impossible h
  literal (core.number_value (pos (suc n))) h = number_literal (pos (suc n)) (λ e. cc)
  literal (core.number_value (negsuc n)) h = number_literal (negsuc n) (λ e. cc)
  literal (core.long_value (pos zero)) h = impossible h
  literal (core.long_value (pos (suc n))) h = long_literal (pos (suc n)) (λ e. cc)
  literal (core.long_value (negsuc n)) h = long_literal (negsuc n) (λ e. cc)
  literal _ h = impossible h

  literal_shown : (o : BinaryOp) → divides (usable z) o ≡ true → (e g : tree.Expression) (sc : js.Scope) (u : js.State) → js_meaning.evaluate z.place.program z.js_low (binary_template true o e g) sc u ≡ js_meaning.in_order (js_meaning.evaluate z.place.program z.js_low e ∷ js_meaning.evaluate z.place.program z.js_low g ∷ []) (literal_act o) sc u
  literal_shown IntDivide h e g sc u = refl
  literal_shown IntRemainder h e g sc u = refl
  literal_shown LongDivide h e g sc u = ap (λ o. o) (in_order-then (js_meaning.evaluate z.place.program z.js_low e ∷ js_meaning.evaluate z.place.program z.js_low g ∷ []) (js_meaning.binary Op.Divide) (λ v. js_meaning.value_or_wrong (js_operators.as_signed_value (js.number (pos 64)) v) sc) sc u)
  literal_shown LongRemainder h e g sc u = refl
  literal_shown _ h e g sc u = impossible h

  int_act : (o : BinaryOp) → IsDivision o → (base y : World) (env : ir.Env) (v v' : ir.Value) (x x' : js.Value) (s : ir.State) (sc : js.Scope) (u : js.State) → IsInt y v x → IsInt y v' x' → IsNoZero x' → Grows base y → SameState z.place y s u → Sim z.direction (Valued z.place base env (binary_result o)) (ir_meaning.answered z.place.classes z.low (ir_operators.binary_value o v v') env s) (literal_act o (x ∷ x' ∷ []) sc u)
  int_act _ a_quotient base y env _ _ _ _ s sc u (an_int a f) (an_int n k) ne g same = value_alike z base y env (binary_result IntDivide) sc s u (ir_operators.binary_value IntDivide (ir.number a) (ir.number n)) (over_int IntDivide n (js.number a)) (divided_alike IntDivide a_quotient y a n f k (λ e. ne.number (ap js.number e))) g same
  int_act _ a_remainder base y env _ _ _ _ s sc u (an_int a f) (an_int n k) ne g same = value_alike z base y env (binary_result IntRemainder) sc s u (ir_operators.binary_value IntRemainder (ir.number a) (ir.number n)) (over_int IntRemainder n (js.number a)) (divided_alike IntRemainder a_remainder y a n f k (λ e. ne.number (ap js.number e))) g same

  long_act : (o : BinaryOp) → IsLongDivision o → (base y : World) (env : ir.Env) (v v' : ir.Value) (x x' : js.Value) (s : ir.State) (sc : js.Scope) (u : js.State) → IsLong y v x → IsLong y v' x' → IsNoZero x' → Grows base y → SameState z.place y s u → Sim z.direction (Valued z.place base env (binary_result o)) (ir_meaning.answered z.place.classes z.low (ir_operators.binary_value o v v') env s) (literal_act o (x ∷ x' ∷ []) sc u)
  long_act _ a_long_quotient base y env _ _ _ _ s sc u (a_long a f) (a_long n k) ne g same = subst (λ q. Sim z.direction (Valued z.place base env (binary_result LongDivide)) (ir_meaning.answered z.place.classes z.low (ir_operators.binary_value LongDivide (ir.long a) (ir.long n)) env s) q) (sym (wrapped_next z.place.program z.js_low (js_operators.binary_value Op.Divide (js.big_int a) (js.big_int n)) sc sc u)) (value_alike z base y env (binary_result LongDivide) sc s u (ir_operators.binary_value LongDivide (ir.long a) (ir.long n)) (over_long LongDivide n (js.big_int a)) (long_divided_alike LongDivide a_long_quotient y a n f (λ e. ne.big_int (ap js.big_int e))) g same)
  long_act _ a_long_remainder base y env _ _ _ _ s sc u (a_long a f) (a_long n k) ne g same = value_alike z base y env (binary_result LongRemainder) sc s u (ir_operators.binary_value LongRemainder (ir.long a) (ir.long n)) (over_long LongRemainder n (js.big_int a)) (long_divided_alike LongRemainder a_long_remainder y a n f (λ e. ne.big_int (ap js.big_int e))) g same

  -- two values, of which the second isn't zero
  pub no_zero_acts : (o : BinaryOp) → divides (usable z) o ≡ true → (left right : IrType) → Fits (left_operand o) left → Fits (right_operand o) right → (base y : World) (env : ir.Env) (v v' : ir.Value) (x x' : js.Value) (s : ir.State) (sc : js.Scope) (u : js.State) → SameValue y left v x → SameValue y right v' x' → IsNoZero x' → Grows base y → SameState z.place y s u → Sim z.direction (Valued z.place base env (binary_result o)) (ir_meaning.answered z.place.classes z.low (ir_operators.binary_value o v v') env s) (literal_act o (x ∷ x' ∷ []) sc u)
  no_zero_acts IntDivide h left right f k base y env v v' x x' s sc u a b ne g same = int_act IntDivide a_quotient base y env v v' x x' s sc u (as_int y left v x f a) (as_int y right v' x' k b) ne g same
  no_zero_acts IntRemainder h left right f k base y env v v' x x' s sc u a b ne g same = int_act IntRemainder a_remainder base y env v v' x x' s sc u (as_int y left v x f a) (as_int y right v' x' k b) ne g same
  no_zero_acts LongDivide h left right f k base y env v v' x x' s sc u a b ne g same = long_act LongDivide a_long_quotient base y env v v' x x' s sc u (as_long y left v x f a) (as_long y right v' x' k b) ne g same
  no_zero_acts LongRemainder h left right f k base y env v v' x x' s sc u a b ne g same = long_act LongRemainder a_long_remainder base y env v v' x x' s sc u (as_long y left v x f a) (as_long y right v' x' k b) ne g same
  no_zero_acts _ h left right f k base y env v v' x x' s sc u a b ne g same = impossible h

  -- by a literal other than zero
  by_literal : (o : BinaryOp) → divides (usable z) o ≡ true → (left right : IrType) (r q : ir.Run) (e d : core.Expression) → Fits (left_operand o) left → Fits (right_operand o) right → Literal d → (w : World) (env : ir.Env) (sc : js.Scope) → OperandAlike z w env sc left r (shown z e) → OperandAlike z w env sc right q (shown z d) → (s : ir.State) (u : js.State) → SameState z.place w s u → Sim z.direction (Valued z.place w env (binary_result o)) (ir_meaning.in_order (r ∷ q ∷ []) (ir_meaning.binary z.place.classes z.low o) env s) (js_meaning.in_order (shown z e ∷ shown z d ∷ []) (literal_act o) sc u)
  by_literal o h left right r q e d f k l w env sc one other s u same = sim_then z.direction (Valued z.place w env left) (Valued z.place w env (binary_result o)) (r env s) (shown z e sc u) (ir.onward (λ v. ir_meaning.in_order (q ∷ []) (λ vs. ir_meaning.binary z.place.classes z.low o (v ∷ vs)))) (js.with_value (λ x. js_meaning.in_order (shown z d ∷ []) (λ xs. literal_act o (x ∷ xs)) sc)) (one w s u (grows-refl w) same) (first_then z w w env sc (binary_result o) left (λ v. ir_meaning.in_order (q ∷ []) (λ vs. ir_meaning.binary z.place.classes z.low o (v ∷ vs))) (λ x. js_meaning.in_order (shown z d ∷ []) (λ xs. literal_act o (x ∷ xs)) sc) (grows-refl w) second)
    where
      second : (y : World) (v : ir.Value) (x : js.Value) (s : ir.State) (u : js.State) → Grows w y → SameValue y left v x → SameState z.place y s u → Sim z.direction (Valued z.place w env (binary_result o)) (ir_meaning.in_order (q ∷ []) (λ vs. ir_meaning.binary z.place.classes z.low o (v ∷ vs)) env s) (js_meaning.in_order (shown z d ∷ []) (λ xs. literal_act o (x ∷ xs)) sc u)
      second y v x s u g a same = sim_then z.direction (λ a b. Valued z.place y env right a b × (b ≡ js.gives l.0 u)) (Valued z.place w env (binary_result o)) (q env s) (shown z d sc u) (ir.onward (λ v'. ir_meaning.binary z.place.classes z.low o (v ∷ v' ∷ []))) (js.with_value (λ x'. literal_act o (x ∷ x' ∷ []) sc)) (sim_known z.direction (Valued z.place y env right) l.0 u (q env s) (shown z d sc u) (l.2 sc u) (other y s u g same)) (λ a b p. third a b p.0 p.1)
        where
          value_is : (x' : js.Value) (t : js.State) → js.gives x' t ≡ js.gives l.0 u → x' ≡ l.0
          value_is x' t e = cc

          third : (i : ir.Ended) (b : js.ExpressionEnd) → Valued z.place y env right i b → b ≡ js.gives l.0 u → Sim z.direction (Valued z.place w env (binary_result o)) (ir.onward (λ v'. ir_meaning.binary z.place.classes z.low o (v ∷ v' ∷ [])) i) (js.with_value (λ x'. literal_act o (x ∷ x' ∷ []) sc) b)
          third _ _ (valued k2 v' x' s2 u2 m b same2) is = no_zero_acts o h left right f k w k2 env v v' x x' s2 sc u2 (value-lift y k2 left v x m a) b (subst IsNoZero (sym (value_is x' u2 is)) l.1) (grows-trans w y k2 g m) same2
          third _ _ (thrown k2 v' x' s2 u2 m b same2) is = absurd (cc)

module _ (z : Setting) (lawful : Lawful z) where
  helper_seen : (o : BinaryOp) → divides (usable z) o ≡ true → (w : World) (s : ir.State) (sc : js.Scope) (u : js.State) → Inside z.place z.code sc → SameState z.place w s u → js_meaning.name_value z.place.program (helper_name (division_helper o)) sc u ≡ done (js.gives (top_function z.place (a_helper (division_helper o))) u)
  helper_seen IntDivide h w s sc u inside same = top_seen z lawful.base (a_helper (division_helper IntDivide)) (top_function z.place (a_helper (division_helper IntDivide))) sc u h inside (same.tops z.code.file (a_helper (division_helper IntDivide)) h)
  helper_seen IntRemainder h w s sc u inside same = top_seen z lawful.base (a_helper (division_helper IntRemainder)) (top_function z.place (a_helper (division_helper IntRemainder))) sc u h inside (same.tops z.code.file (a_helper (division_helper IntRemainder)) h)
  helper_seen LongDivide h w s sc u inside same = top_seen z lawful.base (a_helper (division_helper LongDivide)) (top_function z.place (a_helper (division_helper LongDivide))) sc u h inside (same.tops z.code.file (a_helper (division_helper LongDivide)) h)
  helper_seen LongRemainder h w s sc u inside same = top_seen z lawful.base (a_helper (division_helper LongRemainder)) (top_function z.place (a_helper (division_helper LongRemainder))) sc u h inside (same.tops z.code.file (a_helper (division_helper LongRemainder)) h)
  helper_seen _ h w s sc u inside same = impossible h

  helper_template : (o : BinaryOp) → divides (usable z) o ≡ true → (e g : tree.Expression) → binary_template false o e g ≡ tree.call_of (helper_name (division_helper o)) (tree.expression e (tree.expression g tree.no_expressions))
  helper_template IntDivide h e g = refl
  helper_template IntRemainder h e g = refl
  helper_template LongDivide h e g = refl
  helper_template LongRemainder h e g = refl
  helper_template _ h e g = impossible h

  helper_acts : (o : BinaryOp) → divides (usable z) o ≡ true → (left right : IrType) → Fits (left_operand o) left → Fits (right_operand o) right → (base : World) (env : ir.Env) (sc : js.Scope) → ActsAlike z base base env (left ∷ right ∷ []) (binary_result o) (ir_meaning.binary z.place.classes z.low o) (js_meaning.call z.place.program z.js_low (top_function z.place (a_helper (division_helper o)))) sc
  helper_acts o h left right f k base env sc y _ _ s u g (one_more _ v x _ _ _ a (one_more _ v' x' _ _ _ b no_values)) same = sim_weaken z.direction (Valued z.place y env (binary_result o)) (Valued z.place base env (binary_result o)) _ _ (λ a b. valued-weaken z base y env (binary_result o) a b g) (lawful.divisions o h y v v' x x' env s u (value-fits y (left_operand o) left v x f a) (value-fits y (right_operand o) right v' x' k b) same)

  -- a division whose helper can be used
  pub divided_operands : (o : BinaryOp) → divides (usable z) o ≡ true → (left right : IrType) (r q : ir.Run) (e d : core.Expression) → Fits (left_operand o) left → Fits (right_operand o) right → (w : World) (env : ir.Env) (s : ir.State) (sc : js.Scope) (u : js.State) → Inside z.place z.code sc → OperandsAlike z w env sc (left ∷ right ∷ []) (r ∷ q ∷ []) (e ∷ d ∷ []) → SameState z.place w s u → Sim z.direction (Valued z.place w env (binary_result o)) (ir_meaning.in_order (r ∷ q ∷ []) (ir_meaning.binary z.place.classes z.low o) env s) (shown z (core.binary_of o e d) sc u)
  divided_operands o h left right r q e d f k w env s sc u inside operands same = by (is_nonzero_literal d) refl
    where
      text : core.Expression → tree.Expression
      text = expression_template z.place.name z.place.label (usable z).lookup

      Alike : Out js.ExpressionEnd → Type 0
      Alike = Sim z.direction (Valued z.place w env (binary_result o)) (ir_meaning.in_order (r ∷ q ∷ []) (ir_meaning.binary z.place.classes z.low o) env s)

      each : OperandsAlike z w env sc (left ∷ right ∷ []) (r ∷ q ∷ []) (e ∷ d ∷ []) → OperandAlike z w env sc left r (shown z e) × OperandAlike z w env sc right q (shown z d)
      each (more_operands _ _ _ _ _ _ told one (more_operands _ _ _ _ _ _ also other no_operands)) = (one, other)

      fun : js.Value
      fun = top_function z.place (a_helper (division_helper o))

      helped : js_meaning.evaluate z.place.program z.js_low (binary_template false o (text e) (text d)) sc u ≡ js_meaning.in_order (shown z e ∷ shown z d ∷ []) (js_meaning.call z.place.program z.js_low fun) sc u
      helped = ap (λ t. js_meaning.evaluate z.place.program z.js_low t sc u) (helper_template o h (text e) (text d)) ∙ ap (λ o. then_do o (js.with_value (λ g. js_meaning.in_order (shown z e ∷ shown z d ∷ []) (js_meaning.call z.place.program z.js_low g) sc))) (helper_seen o h w s sc u inside same)

      by : (b : Bool) → is_nonzero_literal d ≡ b → Alike (shown z (core.binary_of o e d) sc u)
      by true i = subst Alike (sym (ap (λ (b : Bool). js_meaning.evaluate z.place.program z.js_low (binary_template b o (text e) (text d)) sc u) i ∙ literal_shown z o h (text e) (text d) sc u)) (by_literal z o h left right r q e d f k (literal z d i) w env sc (each operands).0 (each operands).1 s u same)
      by false i = subst Alike (sym (ap (λ (b : Bool). js_meaning.evaluate z.place.program z.js_low (binary_template b o (text e) (text d)) sc u) i ∙ helped)) (in_order_alike z w w env sc w (left ∷ right ∷ []) (binary_result o) (r ∷ q ∷ []) (e ∷ d ∷ []) (ir_meaning.binary z.place.classes z.low o) (js_meaning.call z.place.program z.js_low fun) operands (helper_acts o h left right f k w env sc) w s u (grows-refl w) (grows-refl w) (grows-refl w) same)
