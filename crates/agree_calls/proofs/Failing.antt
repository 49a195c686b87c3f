-- Helpers that throw an exception whose message is told by what they are called with.
use Rattle.std.proofs.Common.{◌≡◌, ℕ, zero, suc, false, List, [], ◌∷◌, refl, sym, ap, ◌∙◌, subst}
use mathlib.Core.Path.{fun_ext}
use Rattle.std.specs.Prelude.{ℤ, codes}
use Rattle.int_arithmetic.specs.Decimals.{decimal_text}
use Rattle.outcomes.specs.Outcome.{Out, End, Done, Going, Wrong, done, then_do}
use Rattle.array_code.specs.Codes.{is_value, GivesNone}
use Rattle.array_code.specs.FailureVariants.{Index, Size}
use Rattle.array_code.specs.Helpers.{init_name, raise, decimal_of}
use Rattle.array_code.specs.HelperVariants.{Throws}
use Rattle.array_code.specs.Words.{class_name}
use Rattle.js_mean.specs.Meaning as js_meaning
use Rattle.js_mean.specs.States as js
use Rattle.js_tree.specs.Terms.{Name, Expression, text_literal, throw_of}
use Rattle.js_tree.specs.Views.{statements_of}
use Rattle.agree_bodies.specs.Helper.{Helper}
use Rattle.agree_bodies.specs.Settings.{Place, a_helper, top_call}
use Rattle.agree_calls.specs.Helpers.{HelperStands, failing_code, helper_code}
use Rattle.agree_calls.proofs.Helps.{FailsAs, throws_on, thrown_on}

-- the function of a helper that throws an exception with this message, where it has one parameter
abbrev pub telling_code : Name → List ℕ → Expression → js_meaning.Code
telling_code x e message = record { parameters = x ∷ []; body = statements_of (throw_of (raise e message) ∷ []) }

module _ (p : Place) (h : Helper) (e us : List ℕ) (x : Name) (message : Expression) (v : js.Value) where
  abbrev home : Name
  home = p.home (a_helper h)

  abbrev told_scope : js.Scope
  told_scope = js_meaning.function_scope home (telling_code x e message) (v ∷ [])

  abbrev own_scope : js.Scope
  own_scope = js_meaning.function_scope home (failing_code e us) []

  -- the parameter isn't of this name
  abbrev pub Free : Name → Type 0
  Free y = (u : js.State) → js_meaning.name_value p.program y told_scope u ≡ js_meaning.name_value p.program y own_scope u

  -- the message comes to this text there
  abbrev pub Tells : Type 0
  Tells = (low : js_meaning.Low) (u : js.State) → js_meaning.evaluate p.program low message told_scope u ≡ done (js.gives (js.text us) u)

  module _ (low : js_meaning.Low) where
    -- calls and objects that are made do not depend on the scope
    called_anywhere : (sc sc' : js.Scope) (f : js.Value) (vs : List js.Value) (u : js.State) → js_meaning.call p.program low f vs sc u ≡ js_meaning.call p.program low f vs sc' u
    called_anywhere sc sc' (js.method [] x) vs u = refl
    called_anywhere sc sc' (js.method (l ∷ ls) x) vs u = refl
    called_anywhere sc sc' _ vs u = refl

    made_anywhere : (sc sc' : js.Scope) (c : js.Value) (u : js.State) → js_meaning.construct_value p.program low c [] sc u ≡ js_meaning.construct_value p.program low c [] sc' u
    made_anywhere sc sc' (js.class ls) u = refl
    made_anywhere sc sc' _ u = refl

    abbrev Runs : Type 0
    Runs = js.State → Out js.ExpressionEnd

    -- the call of the constructor on a new object and a message
    abbrev raised : Runs → Runs → Runs → (js.Value → Runs) → (js.Value → List js.Value → Runs) → Runs
    raised constructor class tells makes calls u = then_do (constructor u) (js.with_value (λ f s. then_do (then_do (class s) (js.with_value makes)) (js.with_value (λ v s. then_do (tells s) (js.with_value (λ m s. calls f (v ∷ m ∷ []) s))))))

    abbrev named : js.Scope → Name → Runs
    named sc y = js_meaning.name_value p.program y sc

    abbrev makes_in : js.Scope → js.Value → Runs
    makes_in sc c = js_meaning.construct_value p.program low c [] sc

    abbrev calls_in : js.Scope → js.Value → List js.Value → Runs
    calls_in sc f vs = js_meaning.call p.program low f vs sc

    abbrev tells_in : js.Scope → Expression → Runs
    tells_in sc m = js_meaning.evaluate p.program low m sc

    same_raised : Free (init_name e) → Free (class_name e) → Tells → js_meaning.evaluate p.program low (raise e message) told_scope ≡ js_meaning.evaluate p.program low (raise e (text_literal us)) own_scope
    same_raised constructor class tells =
        ap (λ n. raised n (named told_scope (class_name e)) (tells_in told_scope message) (makes_in told_scope) (calls_in told_scope)) (fun_ext constructor)
        ∙ ap (λ n. raised (named own_scope (init_name e)) n (tells_in told_scope message) (makes_in told_scope) (calls_in told_scope)) (fun_ext class)
        ∙ ap (λ t. raised (named own_scope (init_name e)) (named own_scope (class_name e)) t (makes_in told_scope) (calls_in told_scope)) (fun_ext (tells low))
        ∙ ap (λ m. raised (named own_scope (init_name e)) (named own_scope (class_name e)) (tells_in own_scope (text_literal us)) m (calls_in told_scope)) (fun_ext (λ c. fun_ext (made_anywhere told_scope own_scope c)))
        ∙ ap (raised (named own_scope (init_name e)) (named own_scope (class_name e)) (tells_in own_scope (text_literal us)) (makes_in own_scope)) (fun_ext (λ f. fun_ext (λ vs. fun_ext (called_anywhere told_scope own_scope f vs))))

  pub telling_fails_as : Free (init_name e) → Free (class_name e) → Tells → HelperStands p h (telling_code x e message) → FailsAs p h (v ∷ []) e us
  telling_fails_as constructor class tells stands zero u = ap (λ o. js_meaning.code_call (js_meaning.below p.program 0) home o (v ∷ []) u) stands
  telling_fails_as constructor class tells stands (suc n) u =
      ap (λ o. js_meaning.code_call (js_meaning.below p.program (suc n)) home o (v ∷ []) u) stands
      ∙ throws_on told_scope (js_meaning.evaluate p.program (js_meaning.below p.program n) (raise e message) told_scope u)
      ∙ ap (λ (e : js.State → Out js.ExpressionEnd). then_do (e u) thrown_on) (same_raised (js_meaning.below p.program n) constructor class tells)
      ∙ sym (throws_on own_scope (js_meaning.evaluate p.program (js_meaning.below p.program n) (raise e (text_literal us)) own_scope u))

abbrev pub index_exception : List ℕ
index_exception = codes "java.lang.ArrayIndexOutOfBoundsException"

abbrev pub size_exception : List ℕ
size_exception = codes "java.lang.NegativeArraySizeException"

abbrev pub store_exception : List ℕ
store_exception = codes "java.lang.ArrayStoreException"

-- an index is told by its decimal, and so is a size
pub index_fails_as : (p : Place) (z : ℤ) → HelperStands p (Throws Index) (helper_code (Throws Index)) → FailsAs p (Throws Index) (js.number z ∷ []) index_exception (decimal_text z)
index_fails_as p z stands = telling_fails_as p (Throws Index) index_exception (decimal_text z) (codes "i") (decimal_of (codes "i")) (js.number z) (λ u. refl) (λ u. refl) (λ low u. refl) stands

pub size_fails_as : (p : Place) (z : ℤ) → HelperStands p (Throws Size) (helper_code (Throws Size)) → FailsAs p (Throws Size) (js.number z ∷ []) size_exception (decimal_text z)
size_fails_as p z stands = telling_fails_as p (Throws Size) size_exception (decimal_text z) (codes "n") (decimal_of (codes "n")) (js.number z) (λ u. refl) (λ u. refl) (λ low u. refl) stands

-- what is thrown is no value
thrown_end : (lines : List (List ℕ)) (o : End js.ExpressionEnd) → is_value (then_do (record { lines = lines; end = o }) thrown_on).end ≡ false
thrown_end lines (Done (js.gives v s)) = refl
thrown_end lines (Done (js.throws v s)) = refl
thrown_end lines Going = refl
thrown_end lines Wrong = refl

pub none_thrown : (p : Place) (h : Helper) (xs : List js.Value) (e us : List ℕ) → FailsAs p h xs e us → (n : ℕ) (u : js.State) → GivesNone (top_call p (js_meaning.below p.program n) (a_helper h) xs u)
none_thrown p h xs e us fails zero u = subst (λ (o : Out js.ExpressionEnd). is_value o.end ≡ false) (sym (fails 0 u)) refl
none_thrown p h xs e us fails (suc n) u =
    let sc = js_meaning.function_scope (p.home (a_helper h)) (failing_code e us) [] in
    let o = js_meaning.evaluate p.program (js_meaning.below p.program n) (raise e (text_literal us)) sc u in
    subst (λ (o : Out js.ExpressionEnd). is_value o.end ≡ false) (sym (fails (suc n) u ∙ throws_on sc o)) (thrown_end o.lines o.end)
