-- The casts to primitive types, by the helpers of their kinds.
use Rattle.std.proofs.Common.{◌≡◌, ℕ, zero, suc, Bool, true, false, List, [], ◌∷◌, Option, Some, refl, sym, ap, ◌∙◌, subst, if◌then◌else◌}
use mathlib.Core.Path.{fun_ext}
use Rattle.std.specs.Prelude.{pos, codes}
use Rattle.outcomes.specs.Outcome.{Out, done, then_do}
use Rattle.outcomes.specs.Agreement.{Direction, backward, Sim}
use Rattle.outcomes.proofs.Simulation.{sim_done, sim_going, sim_weaken}
use Rattle.array_code.proofs.Kinded.{casts_tell}
use Rattle.array_code.proofs.Shortly.{short_casts_go}
use Rattle.array_code.specs.Kinds as casts
use Rattle.array_code.specs.Kinds.{CastStands, passes, unboxed_value}
use Rattle.array_code.specs.Helpers.{helper_name, init_name, kind_word, raise}
use Rattle.array_code.specs.Words.{class_name}
use Rattle.agree_bodies.specs.Standing.{is_array_type}
use Rattle.array_code.specs.FailureVariants.{Cast}
use Rattle.array_code.specs.HelperVariants.{CastTo, Throws}
use Rattle.array_code.specs.Kind.{Kind}
use Rattle.agree_bodies.specs.Helper.{Helper}
use Rattle.array_code.specs.KindVariants as kinds
use Rattle.dispatch_laws.specs.Meaning as ir_meaning
use Rattle.dispatch_laws.specs.Operators.{answers}
use Rattle.dispatch_laws.specs.States as ir
use Rattle.dispatch_laws.specs.World as ir_world
use Rattle.js_mean.specs.Files.{owner}
use Rattle.js_mean.specs.Meaning as js_meaning
use Rattle.js_mean.specs.States as js
use Rattle.js_tree.specs.Terms.{Name, name_use, text_literal, throw_of}
use Rattle.js_tree.specs.Views.{statements_of}
use Rattle.agree_bodies.specs.Coercions.{is_char}
use Rattle.dispatch_laws.specs.Tests.{cast_name}
use Rattle.sj_names.proofs.Same.{impossible}
use Rattle.agree_bodies.specs.Settings.{Place, SameState, Valued, valued, thrown, a_cast, a_helper, top_function, top_call}
use Rattle.agree_bodies.specs.AgreePlainTreesStanding.{suits}
use Rattle.agree_bodies.proofs.Worlds.{World, grows-refl, shaped-other, SameValue, Stands, same_undefined, same_null, same_boolean, same_char, same_box, same_number, same_long, same_text, same_reference}
use Rattle.sj_trees.specs.declared.types.IrType.{IrType}
use Rattle.sj_trees.specs.declared.types.IrType.TheVariants.{Any, Undefined, Boolean, Char, Byte, Short, Int, Long, String, Nothing}
use Rattle.agree_calls.specs.Helpers.{HelperStands, Failed, failed_so, failing_code, helper_code, kind_of}
use Rattle.agree_calls.specs.Made.{zero_shown}
use Rattle.agree_calls.specs.Worlds.{CanCast, ThrowsCast}
use Rattle.agree_calls.proofs.Boxed.{boxes, object_apart, unit_held}
use Rattle.agree_calls.proofs.Helps.{FailsAs, FailsOn, throws_on, thrown_on}
use Rattle.agree_calls.proofs.Shapes.{zero_alike}
use Rattle.agree_calls.proofs.Testing.{each_kind, kind_told, kind_stands}

abbrev pub cast_exception : List ℕ
cast_exception = codes "java.lang.ClassCastException"

-- the cast to a primitive type has the name of its helper; what it gives of null is the zero of the type; and what it shows where it fails is the word of the type
pub cast_named : (t : IrType) (k : Kind) → kind_of t ≡ Some k → cast_name t ≡ helper_name (CastTo k)
cast_named = each_kind (λ t k. cast_name t ≡ helper_name (CastTo k)) refl refl refl refl refl refl refl refl

kind-no-array : (t : IrType) (k : Kind) → kind_of t ≡ Some k → is_array_type t ≡ false
kind-no-array = each_kind (λ t k. is_array_type t ≡ false) refl refl refl refl refl refl refl refl

zero_named : (t : IrType) (k : Kind) → kind_of t ≡ Some k → zero_shown t ≡ casts.zero_value k
zero_named = each_kind (λ t k. zero_shown t ≡ casts.zero_value k) refl refl refl refl refl refl refl refl

word_named : (t : IrType) (k : Kind) → kind_of t ≡ Some k → ir_world.type_text t ≡ kind_word k
word_named = each_kind (λ t k. ir_world.type_text t ≡ kind_word k) refl refl refl refl refl refl refl refl

has_values : (t : IrType) (k : Kind) → kind_of t ≡ Some k → t ≡ Nothing → ⊥
has_values = each_kind (λ t k. t ≡ Nothing → ⊥) (λ e. cc) (λ e. cc) (λ e. cc) (λ e. cc) (λ e. cc) (λ e. cc) (λ e. cc) (λ e. cc)

-- the function of a helper that throws an exception with its text as the message
abbrev pub told_code : List ℕ → js_meaning.Code
told_code e = record { parameters = codes "t" ∷ []; body = statements_of (throw_of (raise e (name_use (codes "t"))) ∷ []) }

-- on a text it throws it with that message
module _ (p : Place) (h : Helper) (e us : List ℕ) where
  abbrev home : Name
  home = p.home (a_helper h)

  abbrev told_scope : js.Scope
  told_scope = js_meaning.function_scope home (told_code e) (js.text us ∷ [])

  abbrev own_scope : js.Scope
  own_scope = js_meaning.function_scope home (failing_code e us) []

  module _ (low : js_meaning.Low) where
    -- calls and objects that are made do not depend on the scope
    called_anywhere : (sc sc' : js.Scope) (f : js.Value) (vs : List js.Value) (u : js.State) → js_meaning.call p.program low f vs sc u ≡ js_meaning.call p.program low f vs sc' u
    called_anywhere sc sc' (js.method [] x) vs u = refl
    called_anywhere sc sc' (js.method (l ∷ ls) x) vs u = refl
    called_anywhere sc sc' _ vs u = refl

    made_anywhere : (sc sc' : js.Scope) (c : js.Value) (u : js.State) → js_meaning.construct_value p.program low c [] sc u ≡ js_meaning.construct_value p.program low c [] sc' u
    made_anywhere sc sc' (js.class ls) u = refl
    made_anywhere sc sc' _ u = refl

    abbrev raised : (js.Value → js.State → Out js.ExpressionEnd) → (js.Value → List js.Value → js.State → Out js.ExpressionEnd) → js.State → Out js.ExpressionEnd
    raised makes calls u = then_do (js_meaning.cell_value (js_meaning.top_cell (owner p.program home (init_name e)) (init_name e) u) u) (js.with_value (λ f s. then_do (then_do (js_meaning.cell_value (js_meaning.top_cell (owner p.program home (class_name e)) (class_name e) s) s) (js.with_value makes)) (js.with_value (λ v s. calls f (v ∷ js.text us ∷ []) s))))

    same_raised : js_meaning.evaluate p.program low (raise e (name_use (codes "t"))) told_scope ≡ js_meaning.evaluate p.program low (raise e (text_literal us)) own_scope
    same_raised = ap (λ makes. raised makes (λ f vs. js_meaning.call p.program low f vs told_scope)) (fun_ext (λ c. fun_ext (made_anywhere told_scope own_scope c))) ∙ ap (raised (λ c. js_meaning.construct_value p.program low c [] own_scope)) (fun_ext (λ f. fun_ext (λ vs. fun_ext (called_anywhere told_scope own_scope f vs))))

  pub told_fails_as : HelperStands p h (told_code e) → FailsAs p h (js.text us ∷ []) e us
  told_fails_as stands zero u = ap (λ o. js_meaning.code_call (js_meaning.below p.program 0) home o (js.text us ∷ []) u) stands
  told_fails_as stands (suc n) u =
      ap (λ o. js_meaning.code_call (js_meaning.below p.program (suc n)) home o (js.text us ∷ []) u) stands
      ∙ throws_on told_scope (js_meaning.evaluate p.program (js_meaning.below p.program n) (raise e (name_use (codes "t"))) told_scope u)
      ∙ ap (λ (e : js.State → Out js.ExpressionEnd). then_do (e u) thrown_on) (same_raised (js_meaning.below p.program n))
      ∙ sym (throws_on own_scope (js_meaning.evaluate p.program (js_meaning.below p.program n) (raise e (text_literal us)) own_scope u))

pub cast_fails_as : (p : Place) (us : List ℕ) → HelperStands p (Throws Cast) (helper_code (Throws Cast)) → FailsAs p (Throws Cast) (js.text us ∷ []) cast_exception us
cast_fails_as p us stands = told_fails_as p (Throws Cast) cast_exception us stands

-- a file that reaches what a cast throws finds it
pub throwing_there : (p : Place) (w : World) (s : ir.State) (u : js.State) → SameState p w s u → (f : Name) → ThrowsCast p f → js_meaning.top_cell (owner p.program f (helper_name (Throws Cast))) (helper_name (Throws Cast)) u ≡ js.holds false (top_function p (a_helper (Throws Cast)))
throwing_there p w s u same f throws = ap (λ (o : Option Name). js_meaning.top_cell o (helper_name (Throws Cast)) u) throws.owned ∙ same.tops throws.user (a_helper (Throws Cast)) throws.usable

module _ (p : Place) (w : World) (s : ir.State) (u : js.State) (same : SameState p w s u) where
  -- what a cast gives of a value of the kind, which stands for the IR's value at the type
  record Gives (t : IrType) (k : Kind) (v : ir.Value) (x : js.Value) : Type 0 where
    value : js.Value
    is : unboxed_value p.program u k x ≡ Some value
    stands : Stands w (is_char t) v value
    suits_it : suits t v ≡ true

  abbrev GivesKind : IrType → Kind → Type 0
  GivesKind t k = (v : ir.Value) (x : js.Value) → Stands w false v x → passes u (boxes p) k x ≡ true → Gives t k v x

  undefined_given : GivesKind Undefined kinds.Undefined
  undefined_given _ _ same_undefined h = record { value = js.undefined; is = refl; stands = same_undefined; suits_it = refl }
  undefined_given _ _ (same_char r c f) h = impossible r
  undefined_given _ _ _ h = impossible h

  boolean_given : GivesKind Boolean kinds.Boolean
  boolean_given _ _ (same_boolean b) h = record { value = js.boolean b; is = refl; stands = same_boolean b; suits_it = refl }
  boolean_given _ _ (same_char r c f) h = impossible r
  boolean_given _ _ _ h = impossible h

  char_given : GivesKind Char kinds.Char
  char_given _ _ (same_box r c a f b) h = record { value = js.number (pos c); is = unit_held p w s u same c a b; stands = same_char refl c f; suits_it = refl }
  char_given _ _ (same_reference i a e) h = impossible (sym (object_apart p w s u same i a e) ∙ h)
  char_given _ _ (same_char r c f) h = impossible r
  char_given _ _ _ h = impossible h

  byte_given : GivesKind Byte kinds.Byte
  byte_given _ _ (same_number z f) h = record { value = js.number z; is = refl; stands = same_number z f; suits_it = refl }
  byte_given _ _ (same_char r c f) h = impossible r
  byte_given _ _ _ h = impossible h

  short_given : GivesKind Short kinds.Short
  short_given _ _ (same_number z f) h = record { value = js.number z; is = refl; stands = same_number z f; suits_it = refl }
  short_given _ _ (same_char r c f) h = impossible r
  short_given _ _ _ h = impossible h

  int_given : GivesKind Int kinds.Int
  int_given _ _ (same_number z f) h = record { value = js.number z; is = refl; stands = same_number z f; suits_it = refl }
  int_given _ _ (same_char r c f) h = impossible r
  int_given _ _ _ h = impossible h

  long_given : GivesKind Long kinds.Long
  long_given _ _ (same_long z f) h = record { value = js.big_int z; is = refl; stands = same_long z f; suits_it = refl }
  long_given _ _ (same_char r c f) h = impossible r
  long_given _ _ _ h = impossible h

  text_given : GivesKind String kinds.Text
  text_given _ _ (same_text us) h = record { value = js.text us; is = refl; stands = same_text us; suits_it = refl }
  text_given _ _ (same_char r c f) h = impossible r
  text_given _ _ _ h = impossible h

  kind_given : (t : IrType) (k : Kind) → kind_of t ≡ Some k → GivesKind t k
  kind_given = each_kind GivesKind undefined_given boolean_given char_given byte_given short_given int_given long_given text_given

  module _ (t : IrType) (can : CanCast p t) where
    abbrev file : Name
    file = p.home (a_cast t)

    abbrev uses_stand : CastStands p.program file (boxes p) u can.kind
    uses_stand = record {
      tested = kind_stands p w s u same file can.kind can.tests;
      throwing_home = p.home (a_helper (Throws Cast));
      throwing = record { const = false; cell_is = throwing_there p w s u same file can.throws };
    }

    module _ (d : Direction) (low : ir_meaning.Low) (env : ir.Env) where
      -- what a cast answers, and its function within these units
      abbrev Alike : Out ir.Ended → ℕ → js.Value → Type 0
      Alike o n x = Sim d (Valued p w env t) o (js_meaning.code_call (js_meaning.below p.program n) file (Some (helper_code (CastTo can.kind))) (x ∷ []) u)

      null_cast : (n : ℕ) → Alike (ir.given (ir_world.cast_of_null t) env s) (suc n) js.null
      null_cast n = subst (Sim d (Valued p w env t) (ir.given (ir_world.cast_of_null t) env s)) (sym (casts_tell.of_null p.program n file u can.kind ∙ ap (λ x. done (js.gives x u)) (sym (zero_named t can.kind can.its_kind)))) (sim_done d (Valued p w env t) (ir.ends (ir.gives (ir_world.zero_of t)) env s) (js.gives (zero_shown t) u) (valued w (ir_world.zero_of t) (zero_shown t) s u (grows-refl w) (zero_alike w t (has_values t can.kind can.its_kind)) same))

      module _ (m : ℕ) (fails : FailsOn d p low (suc m) (Throws Cast) (js.text (kind_word can.kind) ∷ []) cast_exception (kind_word can.kind)) where
        given_cast : (v : ir.Value) (x : js.Value) → Stands w false v x → passes u (boxes p) can.kind x ≡ true → Alike (ir.given v env s) (suc (suc m)) x
        given_cast v x a h = let g = kind_given t can.kind can.its_kind v x a h in subst (Sim d (Valued p w env t) (ir.given v env s)) (sym (casts_tell.of_kind p.program m file (boxes p) u can.kind x g.value uses_stand h g.is)) (sim_done d (Valued p w env t) (ir.ends (ir.gives v) env s) (js.gives g.value u) (valued w v g.value s u (grows-refl w) (record { stands = g.stands; suits = g.suits_it; shaped = shaped-other w t v (kind-no-array t can.kind can.its_kind) }) same))

        failed_cast : (x : js.Value) → (x ≡ js.null → ⊥) → passes u (boxes p) can.kind x ≡ false → Alike (ir_meaning.answered p.classes low (ir_meaning.cast_failure t) env s) (suc (suc m)) x
        failed_cast x there h = subst (λ us. Alike (ir_meaning.raise p.classes low cast_exception us env s) (suc (suc m)) x) (sym (word_named t can.kind can.its_kind)) (subst (Sim d (Valued p w env t) (ir_meaning.raise p.classes low cast_exception (kind_word can.kind) env s)) (sym (casts_tell.of_other p.program m file (boxes p) u can.kind x uses_stand there h)) (sim_weaken d (Failed p w env) (Valued p w env t) (ir_meaning.raise p.classes low cast_exception (kind_word can.kind) env s) (top_call p (js_meaning.below p.program (suc m)) (a_helper (Throws Cast)) (js.text (kind_word can.kind) ∷ []) u) each (fails w env s u same)))
          where
            each : (a : ir.Ended) (b : js.ExpressionEnd) → Failed p w env a b → Valued p w env t a b
            each _ _ (failed_so y v q s u g k same) = thrown y v q s u g k same

        other_cast : (v : ir.Value) (x : js.Value) → Stands w false v x → (x ≡ js.null → ⊥) → ir.boolean (ir_world.is_of_type p.classes s v t) ≡ ir.boolean (passes u (boxes p) can.kind x) → Alike (ir_meaning.answered p.classes low (if ir_world.is_of_type p.classes s v t then answers v else ir_meaning.cast_failure t) env s) (suc (suc m)) x
        other_cast v x a there e = let told : ir_world.is_of_type p.classes s v t ≡ passes u (boxes p) can.kind x = cc in go (ir_world.is_of_type p.classes s v t) told
          where
            go : (b : Bool) → b ≡ passes u (boxes p) can.kind x → Alike (ir_meaning.answered p.classes low (if b then answers v else ir_meaning.cast_failure t) env s) (suc (suc m)) x
            go true h = given_cast v x a (sym h)
            go false h = failed_cast x there (sym h)

        whole_cast : (v : ir.Value) (x : js.Value) → Stands w false v x → ir_meaning.is_instance_value p.classes t s v ≡ ir.boolean (passes u (boxes p) can.kind x) → Alike (ir_meaning.answered p.classes low (ir_meaning.cast_answer p.classes t s v) env s) (suc (suc m)) x
        whole_cast _ _ same_null e = null_cast (suc m)
        whole_cast _ _ same_undefined e = other_cast _ _ same_undefined (λ e. cc) e
        whole_cast _ _ (same_boolean b) e = other_cast _ _ (same_boolean b) (λ e. cc) e
        whole_cast _ _ (same_char r c f) e = impossible r
        whole_cast _ _ (same_box r c a f b) e = other_cast _ _ (same_box r c a f b) (λ e. cc) e
        whole_cast _ _ (same_number z f) e = other_cast _ _ (same_number z f) (λ e. cc) e
        whole_cast _ _ (same_long z f) e = other_cast _ _ (same_long z f) (λ e. cc) e
        whole_cast _ _ (same_text us) e = other_cast _ _ (same_text us) (λ e. cc) e
        whole_cast _ _ (same_reference i a q) e = other_cast _ _ (same_reference i a q) (λ e. cc) e

      stood : (n : ℕ) (x : js.Value) (o : Out ir.Ended) → Alike o n x → Sim d (Valued p w env t) o (top_call p (js_meaning.below p.program n) (a_cast t) (x ∷ []) u)
      stood n x o = subst (λ c. Sim d (Valued p w env t) o (js_meaning.code_call (js_meaning.below p.program n) file c (x ∷ []) u)) (sym can.cast)

      -- a cast of a value, and its function
      pub casts_alike : (m : ℕ) → FailsOn d p low (suc m) (Throws Cast) (js.text (kind_word can.kind) ∷ []) cast_exception (kind_word can.kind) → (v : ir.Value) (x : js.Value) → SameValue w Any v x → Sim d (Valued p w env t) (ir_meaning.answered p.classes low (ir_meaning.cast_answer p.classes t s v) env s) (top_call p (js_meaning.below p.program (suc (suc m))) (a_cast t) (x ∷ []) u)
      casts_alike m fails v x a = stood (suc (suc m)) x _ (whole_cast m fails v x a.stands (kind_told p w s u same t can.kind can.its_kind v x a.stands))

    -- within a unit it gives the zero for null, and is going on any other value
    pub short_cast : (low : ir_meaning.Low) (env : ir.Env) (v : ir.Value) (x : js.Value) → SameValue w Any v x → Sim backward (Valued p w env t) (ir_meaning.answered p.classes low (ir_meaning.cast_answer p.classes t s v) env s) (top_call p (js_meaning.below p.program 1) (a_cast t) (x ∷ []) u)
    short_cast low env v x a = stood backward low env 1 x _ (by v x a.stands)
      where
        other : (v : ir.Value) (x : js.Value) → (x ≡ js.null → ⊥) → Alike backward low env (ir_meaning.answered p.classes low (ir_meaning.cast_answer p.classes t s v) env s) 1 x
        other v x there = subst (Sim backward (Valued p w env t) (ir_meaning.answered p.classes low (ir_meaning.cast_answer p.classes t s v) env s)) (sym (short_casts_go.of_kind p.program file (boxes p) u can.kind x uses_stand there)) (sim_going (Valued p w env t) (ir_meaning.answered p.classes low (ir_meaning.cast_answer p.classes t s v) env s))

        by : (v : ir.Value) (x : js.Value) → Stands w false v x → Alike backward low env (ir_meaning.answered p.classes low (ir_meaning.cast_answer p.classes t s v) env s) 1 x
        by _ _ same_null = null_cast backward low env 0
        by _ _ same_undefined = other ir.undefined js.undefined (λ e. cc)
        by _ _ (same_boolean b) = other (ir.boolean b) (js.boolean b) (λ e. cc)
        by _ _ (same_char r c f) = impossible r
        by _ _ (same_box r c a f b) = other (ir.char c) (js.object a) (λ e. cc)
        by _ _ (same_number z f) = other (ir.number z) (js.number z) (λ e. cc)
        by _ _ (same_long z f) = other (ir.long z) (js.big_int z) (λ e. cc)
        by _ _ (same_text us) = other (ir.text us) (js.text us) (λ e. cc)
        by _ _ (same_reference i a e) = other (ir.reference i) (js.object a) (λ e. cc)
