-- Helpers that fail: an exception is made and thrown on both sides; and the null check.
use Rattle.std.proofs.Common.{◌≡◌, ℕ, suc, Bool, true, false, List, [], ◌∷◌, Some, Option, refl, sym, ap, ◌∙◌, subst}
use mathlib.Core.Path.{fun_ext}
use Rattle.std.specs.Prelude.{codes}
use Rattle.outcomes.specs.Outcome.{Out, done, then_do}
use Rattle.outcomes.specs.Agreement.{Direction, Sim}
use Rattle.outcomes.proofs.Sequence.{then_do-associative, then_do-right}
use Rattle.outcomes.proofs.Simulation.{sim_done, sim_then}
use Rattle.dispatch_laws.specs.Meaning as ir_meaning
use Rattle.dispatch_laws.specs.States as ir
use Rattle.js_mean.specs.Meaning as js_meaning
use Rattle.js_mean.specs.States as js
use Rattle.js_mean.specs.Files.{owner}
use Rattle.js_tree.specs.Terms as tree
use Rattle.js_tree.specs.Terms.{Name}
use Rattle.js_tree.specs.Views.{statements_of}
use Rattle.array_code.specs.Helpers.{helper_name, does, calls}
use Rattle.array_code.specs.Words.{x}
use Rattle.sj_core.specs.Terms as core
use Rattle.sj_core.specs.Views.{expressions_of}
use Rattle.agree_bodies.specs.Coercions.{is_char}
use Rattle.agree_bodies.specs.Desugar.{member}
use Rattle.sj_names.specs.declared.method_names.Namespace.TheVariants.{Constructor}
use Rattle.sj_trees.specs.Types.{class_type}
use Rattle.sj_trees.specs.declared.types.IrType.{IrType}
use Rattle.sj_trees.specs.declared.types.IrType.TheVariants.{Any, String}
use Rattle.agree_bodies.specs.Helper.{Helper}
use Rattle.array_code.specs.HelperVariants.{NotNull, Throws}
use Rattle.array_code.specs.FailureVariants.{NullReceiver}
use Rattle.agree_bodies.specs.Settings.{Place, Code, Setting, usable, shown, SameState, Valued, valued, thrown, Based, a_helper, top_function, top_call}
use Rattle.agree_bodies.specs.AgreePlainTreesStanding.{suits}
use Rattle.agree_bodies.specs.Standing.{Fits}
use Rattle.dispatch_laws.specs.Known.{is_hijacked}
use Rattle.agree_bodies.proofs.Objects.{new_alike}
use Rattle.agree_bodies.proofs.Orders.{OperandsAlike, no_operands, more_operands}
use Rattle.agree_bodies.proofs.Worlds.{World, grows-refl, Shaped, SameValue, Stands, same_undefined, same_null, same_boolean, same_char, same_box, same_number, same_long, same_text, same_reference, value-fits}
use Rattle.agree_calls.specs.Helpers.{failing_code, checking_code, HelperStands, Failed, failed_so}

-- in a file of helpers no local is in scope
abbrev pub in_helper : Place → Helper → Code
in_helper p h = record { file = p.home (a_helper h); owner = codes "java.lang.Object"; sure = λ x. false }

-- on these values the function of the helper runs as the one that throws this exception
abbrev pub FailsAs : Place → Helper → List js.Value → List ℕ → List ℕ → Type 0
FailsAs p h xs e message = (n : ℕ) (u : js.State) → top_call p (js_meaning.below p.program n) (a_helper h) xs u ≡ js_meaning.code_call (js_meaning.below p.program n) (p.home (a_helper h)) (Some (failing_code e message)) [] u

pub fails_itself : (p : Place) (h : Helper) (e message : List ℕ) → HelperStands p h (failing_code e message) → FailsAs p h [] e message
fails_itself p h e message stands n u = ap (λ o. js_meaning.code_call (js_meaning.below p.program n) (p.home (a_helper h)) o [] u) stands

-- what is thrown in a function is thrown by its call
abbrev pub throws_it : js.Scope → js.Value → js.State → Out js.StatementEnd
throws_it sc v u = done (js.ends (js.thrown_with v) sc u)

abbrev pub thrown_on : js.ExpressionEnd → Out js.ExpressionEnd
thrown_on (js.gives v u) = done (js.throws v u)
thrown_on (js.throws v u) = done (js.throws v u)

pub throws_on : (sc : js.Scope) (o : Out js.ExpressionEnd) → then_do (then_do (then_do o (js.in_statement sc (throws_it sc))) (js.next_statement js_meaning.nothing)) js_meaning.returned ≡ then_do o thrown_on
throws_on sc o = ap (λ q. then_do q js_meaning.returned) (then_do-associative o (js.in_statement sc (throws_it sc)) (js.next_statement js_meaning.nothing)) ∙ then_do-associative o (λ b. then_do (js.in_statement sc (throws_it sc) b) (js.next_statement js_meaning.nothing)) js_meaning.returned ∙ ap (then_do o) (fun_ext each)
  where
    each : (b : js.ExpressionEnd) → then_do (then_do (js.in_statement sc (throws_it sc) b) (js.next_statement js_meaning.nothing)) js_meaning.returned ≡ thrown_on b
    each (js.gives v u) = refl
    each (js.throws v u) = refl

module _ (d : Direction) (p : Place) (h : Helper) (low : ir_meaning.Low) (n : ℕ) (xs : List js.Value) (e message : List ℕ) where
  -- where the code of the helper runs, with a unit less
  abbrev inside : Setting
  inside = record { place = p; code = in_helper p h; direction = d; is_mutable = λ x. false; low = low; js_low = js_meaning.below p.program n }

  abbrev scope : js.Scope
  scope = js_meaning.function_scope (p.home (a_helper h)) (failing_code e message) []

  -- the exception, as a new object
  abbrev made : core.Expression
  made = core.made_of (member e Constructor ir_meaning.with_message) (expressions_of (core.text_value message ∷ []))

  then_thrown : (w : World) (env : ir.Env) → Fits Any (class_type e) → (a : ir.Ended) (b : js.ExpressionEnd) → Valued p w env (class_type e) a b → Sim d (Failed p w env) (ir.onward (λ v. ir_meaning.throw_value (v ∷ [])) a) (thrown_on b)
  then_thrown w env f _ _ (valued y v x s u g a same) = sim_done d (Failed p w env) (ir.ends (ir.throws v) env s) (js.throws x u) (failed_so y v x s u g (value-fits y Any (class_type e) v x f a) same)
  then_thrown w env f _ _ (thrown y v x s u g a same) = sim_done d (Failed p w env) (ir.ends (ir.throws v) env s) (js.throws x u) (failed_so y v x s u g a same)

  message_alike : (w : World) (env : ir.Env) → OperandsAlike inside w env scope (String ∷ []) (ir.given (ir.text message) ∷ []) (core.text_value message ∷ [])
  message_alike w env = more_operands String (ir.given (ir.text message)) (core.text_value message) [] [] [] refl (λ y s u g same. sim_done d (Valued p y env String) (ir.ends (ir.gives (ir.text message)) env s) (js.gives (js.text message) u) (valued y (ir.text message) (js.text message) s u (grows-refl y) (record { stands = same_text message; suits = refl; shaped = tt }) same)) no_operands

  -- an exception is made and thrown: by the IR, and by the function of a helper
  pub fails_alike : Based inside → FailsAs p h xs e message → (usable inside).built (member e Constructor ir_meaning.with_message) ≡ true → (usable inside).made e ≡ true → is_hijacked e ≡ false → Fits Any (class_type e) → (w : World) (env : ir.Env) (s : ir.State) (u : js.State) → SameState p w s u → Sim d (Failed p w env) (ir_meaning.raise p.classes low e message env s) (top_call p (js_meaning.below p.program (suc n)) (a_helper h) xs u)
  fails_alike law fails built is_made free f w env s u same = subst (λ o. Sim d (Failed p w env) (ir_meaning.raise p.classes low e message env s) o) (sym js_is) (sim_then d (Valued p w env (class_type e)) (Failed p w env) (ir_meaning.construct p.classes low e ir_meaning.with_message (ir.text message ∷ []) env s) (shown inside made scope u) (ir.onward (λ v. ir_meaning.throw_value (v ∷ []))) thrown_on (new_alike inside law e ir_meaning.with_message (String ∷ []) (ir.given (ir.text message) ∷ []) (core.text_value message ∷ []) (core.text_value message ∷ []) refl built is_made free (refl, tt) w env s scope u (record { file = refl; free = λ y none. refl }) (message_alike w env) same) (then_thrown w env f))
    where
      js_is : top_call p (js_meaning.below p.program (suc n)) (a_helper h) xs u ≡ then_do (shown inside made scope u) thrown_on
      js_is = fails (suc n) u ∙ throws_on scope (shown inside made scope u)

two_grouped : {A B C : Type 0} (o : Out A) (a : A → Out B) (b : B → Out C) → then_do (then_do o a) b ≡ then_do o (λ x. then_do (a x) b)
two_grouped o a b = then_do-associative o a b

three_grouped : {A B C D : Type 0} (o : Out A) (a : A → Out B) (b : B → Out C) (c : C → Out D) → then_do (then_do (then_do o a) b) c ≡ then_do o (λ x. then_do (then_do (a x) b) c)
three_grouped o a b c = ap (λ q. then_do q c) (two_grouped o a b) ∙ two_grouped o (λ x. then_do (a x) b) c

pub five_grouped : {A B C D E F : Type 0} (o : Out A) (a : A → Out B) (b : B → Out C) (c : C → Out D) (d : D → Out E) (e : E → Out F) → then_do (then_do (then_do (then_do (then_do o a) b) c) d) e ≡ then_do o (λ x. then_do (then_do (then_do (then_do (a x) b) c) d) e)
five_grouped o a b c d e = ap (λ q. then_do (then_do q d) e) (three_grouped o a b c) ∙ three_grouped o (λ x. then_do (then_do (a x) b) c) d e

-- the call of the helper that fails, in a block of its own, and what comes behind that
abbrev failing_block : tree.Statements
failing_block = statements_of (does (calls (Throws NullReceiver) []) ∷ [])

abbrev hands_back : tree.Statements
hands_back = statements_of (tree.return_of x ∷ [])

module _ (p : Place) where
  abbrev npe : Helper
  npe = Throws NullReceiver

  abbrev check_scope : js.Value → js.Scope
  check_scope x = js_meaning.function_scope (p.home (a_helper NotNull)) checking_code (x ∷ [])

  -- a value that isn't null is handed on
  hands_on : (m : ℕ) (w : World) (r : Bool) (v : ir.Value) (x : js.Value) (u : js.State) → HelperStands p NotNull checking_code → Stands w r v x → (v ≡ ir.null → ⊥) → top_call p (js_meaning.below p.program (suc m)) (a_helper NotNull) (x ∷ []) u ≡ done (js.gives x u)
  hands_on m w r v x u stands a there = ap (λ o. js_meaning.code_call (js_meaning.below p.program (suc m)) (p.home (a_helper NotNull)) o (x ∷ []) u) stands ∙ by v x a there
    where
      by : (v : ir.Value) (x : js.Value) → Stands w r v x → (v ≡ ir.null → ⊥) → js_meaning.code_call (js_meaning.below p.program (suc m)) (p.home (a_helper NotNull)) (Some checking_code) (x ∷ []) u ≡ done (js.gives x u)
      by _ _ same_null there = absurd (there refl)
      by _ _ same_undefined there = refl
      by _ _ (same_boolean b) there = refl
      by _ _ (same_char q c f) there = refl
      by _ _ (same_box q c a f i) there = refl
      by _ _ (same_number n f) there = refl
      by _ _ (same_long n f) there = refl
      by _ _ (same_text us) there = refl
      by _ _ (same_reference i a e) there = refl

  -- on null the other helper is called, which throws
  abbrev behind_failure : js_meaning.Low → js.ExpressionEnd → Out js.ExpressionEnd
  behind_failure low b = then_do (then_do (then_do (then_do (js.in_statement (js_meaning.enter failing_block (check_scope js.null)) (λ v. js_meaning.nothing (js_meaning.enter failing_block (check_scope js.null))) b) (js.next_statement js_meaning.nothing)) (js_meaning.leaving failing_block (check_scope js.null))) (js.next_statement (js_meaning.execute_all p.program low hands_back))) js_meaning.returned

  null_fails : (m : ℕ) (u : js.State) → HelperStands p NotNull checking_code → owner p.program (p.home (a_helper NotNull)) (helper_name npe) ≡ Some (p.home (a_helper npe)) → u.tops (p.home (a_helper npe)) (helper_name npe) ≡ js.holds false (top_function p (a_helper npe)) → top_call p (js_meaning.below p.program (suc m)) (a_helper NotNull) (js.null ∷ []) u ≡ then_do (top_call p (js_meaning.below p.program m) (a_helper npe) [] u) (behind_failure (js_meaning.below p.program m))
  null_fails m u stands owned held =
      ap (λ o. js_meaning.code_call (js_meaning.below p.program (suc m)) (p.home (a_helper NotNull)) o (js.null ∷ []) u) stands
      ∙ ap (λ (f : Option Name). around (js_meaning.cell_value (js_meaning.top_cell f (helper_name npe) u) u)) owned
      ∙ ap (λ (cell : js.Cell). around (js_meaning.cell_value cell u)) held
      ∙ five_grouped (top_call p (js_meaning.below p.program m) (a_helper npe) [] u) (js.in_statement (js_meaning.enter failing_block (check_scope js.null)) (λ v. js_meaning.nothing (js_meaning.enter failing_block (check_scope js.null)))) (js.next_statement js_meaning.nothing) (js_meaning.leaving failing_block (check_scope js.null)) (js.next_statement (js_meaning.execute_all p.program (js_meaning.below p.program m) hands_back)) js_meaning.returned
    where
      around : Out js.ExpressionEnd → Out js.ExpressionEnd
      around o = then_do (then_do (then_do (then_do (then_do (then_do o (js.with_value (λ f. js_meaning.in_order [] (js_meaning.call p.program (js_meaning.below p.program m) f) (js_meaning.enter failing_block (check_scope js.null))))) (js.in_statement (js_meaning.enter failing_block (check_scope js.null)) (λ v. js_meaning.nothing (js_meaning.enter failing_block (check_scope js.null))))) (js.next_statement js_meaning.nothing)) (js_meaning.leaving failing_block (check_scope js.null))) (js.next_statement (js_meaning.execute_all p.program (js_meaning.below p.program m) hands_back))) js_meaning.returned

-- what the helper that fails does on both sides, where its function has these values and this bound
abbrev pub FailsOn : Direction → Place → ir_meaning.Low → ℕ → Helper → List js.Value → List ℕ → List ℕ → Type 0
FailsOn d p low m h xs e message = (w : World) (env : ir.Env) (s : ir.State) (u : js.State) → SameState p w s u → Sim d (Failed p w env) (ir_meaning.raise p.classes low e message env s) (top_call p (js_meaning.below p.program m) (a_helper h) xs u)

abbrev pub FailsAt : Direction → Place → ir_meaning.Low → ℕ → Helper → List ℕ → List ℕ → Type 0
FailsAt d p low m h e message = FailsOn d p low m h [] e message

module _ (d : Direction) (p : Place) (low : ir_meaning.Low) (m : ℕ) (stands : HelperStands p NotNull checking_code) (owned : owner p.program (p.home (a_helper NotNull)) (helper_name (Throws NullReceiver)) ≡ Some (p.home (a_helper (Throws NullReceiver)))) (fails : FailsAt d p low m (Throws NullReceiver) (codes "java.lang.NullPointerException") (codes "null")) where
  -- the null check of a value, and its helper
  pub checks_alike : (held : (w : World) (s : ir.State) (u : js.State) → SameState p w s u → u.tops (p.home (a_helper (Throws NullReceiver))) (helper_name (Throws NullReceiver)) ≡ js.holds false (top_function p (a_helper (Throws NullReceiver)))) (t : IrType) (w : World) (v : ir.Value) (x : js.Value) (env : ir.Env) (s : ir.State) (u : js.State) → SameValue w t v x → SameState p w s u → Sim d (Valued p w env t) (ir_meaning.answered p.classes low (ir_meaning.not_null p.classes v) env s) (top_call p (js_meaning.below p.program (suc m)) (a_helper NotNull) (x ∷ []) u)
  checks_alike held t w v x env s u a same = by v x a.stands a.suits a.shaped
    where
      given : (v : ir.Value) (x : js.Value) → Stands w (is_char t) v x → suits t v ≡ true → Shaped w v t → (v ≡ ir.null → ⊥) → Sim d (Valued p w env t) (done (ir.ends (ir.gives v) env s)) (top_call p (js_meaning.below p.program (suc m)) (a_helper NotNull) (x ∷ []) u)
      given v x a k shaped there = subst (λ o. Sim d (Valued p w env t) (done (ir.ends (ir.gives v) env s)) o) (sym (hands_on p m w (is_char t) v x u stands a there)) (sim_done d (Valued p w env t) (ir.ends (ir.gives v) env s) (js.gives x u) (valued w v x s u (grows-refl w) (record { stands = a; suits = k; shaped = shaped }) same))

      each : (a : ir.Ended) (b : js.ExpressionEnd) → Failed p w env a b → Sim d (Valued p w env t) (done a) (behind_failure p (js_meaning.below p.program m) b)
      each _ _ (failed_so y v q s u g k same) = sim_done d (Valued p w env t) (ir.ends (ir.throws v) env s) (js.throws q u) (thrown y v q s u g k same)

      by : (v : ir.Value) (x : js.Value) → Stands w (is_char t) v x → suits t v ≡ true → Shaped w v t → Sim d (Valued p w env t) (ir_meaning.answered p.classes low (ir_meaning.not_null p.classes v) env s) (top_call p (js_meaning.below p.program (suc m)) (a_helper NotNull) (x ∷ []) u)
      by _ _ same_null k l = subst (λ o. Sim d (Valued p w env t) (ir_meaning.raise p.classes low (codes "java.lang.NullPointerException") (codes "null") env s) o) (sym (null_fails p m u stands owned (held w s u same))) (subst (λ o. Sim d (Valued p w env t) o (then_do (top_call p (js_meaning.below p.program m) (a_helper (Throws NullReceiver)) [] u) (behind_failure p (js_meaning.below p.program m)))) (then_do-right (ir_meaning.raise p.classes low (codes "java.lang.NullPointerException") (codes "null") env s)) (sim_then d (Failed p w env) (Valued p w env t) (ir_meaning.raise p.classes low (codes "java.lang.NullPointerException") (codes "null") env s) (top_call p (js_meaning.below p.program m) (a_helper (Throws NullReceiver)) [] u) done (behind_failure p (js_meaning.below p.program m)) (fails w env s u same) each))
      by _ _ same_undefined k l = given _ _ same_undefined k l (λ e. cc)
      by _ _ (same_boolean b) k l = given _ _ (same_boolean b) k l (λ e. cc)
      by _ _ (same_char q c f) k l = given _ _ (same_char q c f) k l (λ e. cc)
      by _ _ (same_box q c b f i) k l = given _ _ (same_box q c b f i) k l (λ e. cc)
      by _ _ (same_number n f) k l = given _ _ (same_number n f) k l (λ e. cc)
      by _ _ (same_long n f) k l = given _ _ (same_long n f) k l (λ e. cc)
      by _ _ (same_text us) k l = given _ _ (same_text us) k l (λ e. cc)
      by _ _ (same_reference i b e) k l = given _ _ (same_reference i b e) k l (λ e. cc)
