-- The helpers of arrays within few units: where one is going it is so by the backward half alone.
use Rattle.std.proofs.Common.{◌≡◌, ◌≤◌, arith, ℕ, zero, suc, Bool, false, List, [], ◌∷◌, Option, Some, slice_get, refl, sym, ap, ◌∙◌, subst}
use Rattle.outcomes.specs.Outcome.{Out, going}
use Rattle.outcomes.specs.Agreement.{Direction, forward, backward, Sim}
use Rattle.outcomes.proofs.Simulation.{sim_done, sim_going}
use Rattle.array_code.proofs.Indexing.{gets_tell, sets_tell, puts_tell}
use Rattle.array_code.proofs.Tested.{array_tests_tell}
use Rattle.array_code.specs.ArrayTests.{ArrayTestStands}
use Rattle.array_code.specs.ClassTestsKinds.{is_box}
use Rattle.array_code.specs.FailureVariants.{Cast}
use Rattle.array_code.specs.HelperVariants.{Get, Set, Put, TestOfArray, Throws}
use Rattle.array_code.specs.Words.{object_class}
use Rattle.dispatch_laws.specs.Ancestors.{IsAncestor}
use Rattle.dispatch_laws.specs.Dispatch.{chain_of}
use Rattle.dispatch_laws.specs.Meaning as ir_meaning
use Rattle.dispatch_laws.specs.SjWorldLaws.{IsPlain}
use Rattle.dispatch_laws.specs.States as ir
use Rattle.dispatch_laws.specs.Tests.{array_text}
use Rattle.dispatch_laws.specs.World as ir_world
use Rattle.js_mean.specs.Meaning as js_meaning
use Rattle.js_mean.specs.Objects.{stored_below}
use Rattle.js_mean.specs.States as js
use Rattle.agree_bodies.proofs.Worlds.{grows-refl, Stands, same_undefined, same_null, same_boolean, same_char, same_box, same_number, same_long, same_text, same_reference}
use Rattle.agree_bodies.specs.Helper.{Helper}
use Rattle.agree_bodies.specs.Settings.{Place, SameState, SameStored, same_object, same_array, IsConstantsOf, StandsForBase, array_link, array_links, links_of, depth_of, Valued, valued, a_test, a_cast, a_helper, top_call}
use Rattle.agree_bodies.specs.Worlds.{World, ArrayAt, SameValue}
use Rattle.sj_names.proofs.Same.{impossible}
use Rattle.sj_names.specs.declared.references.ArrayRef.{ArrayRef}
use Rattle.sj_trees.specs.declared.types.IrType.{IrType}
use Rattle.sj_trees.specs.declared.types.IrType.TheVariants.{Any, Array, Boolean}
use Rattle.agree_calls.specs.Arrays.{ChecksIndex, CanPut, CanTestArrays, CanCastArrays}
use Rattle.agree_calls.specs.Helpers.{HelperStands, helper_code}
use Rattle.agree_calls.proofs.ArrayCasting.{casts_alike}
use Rattle.agree_calls.proofs.ArraysSeen.{ArraySeen, array_seen}
use Rattle.agree_calls.proofs.ArraySuits.{arrays_suit}
use Rattle.agree_calls.proofs.ArrayTesting.{Told, told_so, still_going, array_tested, classes_apart, boxes_apart, decided}
use Rattle.agree_calls.proofs.ArrayUses.{check_there, put_there, array_test_there, array_cast_there, array_test_code, array_cast_code, cast_test_home, cast_throws_home}
use Rattle.agree_calls.proofs.Boxed.{box_there}
use Rattle.agree_calls.proofs.Casting.{cast_exception}
use Rattle.agree_calls.proofs.Helps.{FailsOn}
use Rattle.agree_calls.proofs.SameMarkers.{told_by_known}

-- what is going shows nothing that the other doesn't
pub going_alike : {A B : Type 0} (E : A → B → Type 0) (o : Out A) (q : Out B) → q ≡ going → Sim backward E o q
going_alike E o q e = subst (Sim backward E o) (sym e) (sim_going E o)

module _ (p : Place) where
  -- without units the function of a helper is going
  pub none_left : (h : Helper) → HelperStands p h (helper_code h) → (vs : List js.Value) (u : js.State) → top_call p (js_meaning.below p.program 0) (a_helper h) vs u ≡ going
  none_left h stands vs u = ap (λ (o : Option js_meaning.Code). js_meaning.code_call (js_meaning.below p.program 0) (p.home (a_helper h)) o vs u) stands

  pub none_alike : {A : Type 0} (E : A → js.ExpressionEnd → Type 0) (o : Out A) (h : Helper) → HelperStands p h (helper_code h) → (vs : List js.Value) (u : js.State) → Sim backward E o (top_call p (js_meaning.below p.program 0) (a_helper h) vs u)
  none_alike E o h stands vs u = going_alike E o (top_call p (js_meaning.below p.program 0) (a_helper h) vs u) (none_left h stands vs u)

  module _ (w : World) (s : ir.State) (u : js.State) (same : SameState p w s u) where
    -- and with one those that read and set items are
    get_goes : ChecksIndex p Get → (x i : js.Value) (k : ℕ) → k ≤ 1 → top_call p (js_meaning.below p.program k) (a_helper Get) (x ∷ i ∷ []) u ≡ going
    get_goes can x i zero few = none_left Get can.stands (x ∷ i ∷ []) u
    get_goes can x i (suc zero) few = ap (λ (o : Option js_meaning.Code). js_meaning.code_call (js_meaning.below p.program 1) (p.home (a_helper Get)) o (x ∷ i ∷ []) u) can.stands ∙ gets_tell.within_1 p.program (p.home (a_helper Get)) u x i (check_there p w s u same Get can)
    get_goes can x i (suc (suc k)) few = absurd (omega (arith, few))

    set_goes : ChecksIndex p Set → (x i y : js.Value) (k : ℕ) → k ≤ 1 → top_call p (js_meaning.below p.program k) (a_helper Set) (x ∷ i ∷ y ∷ []) u ≡ going
    set_goes can x i y zero few = none_left Set can.stands (x ∷ i ∷ y ∷ []) u
    set_goes can x i y (suc zero) few = ap (λ (o : Option js_meaning.Code). js_meaning.code_call (js_meaning.below p.program 1) (p.home (a_helper Set)) o (x ∷ i ∷ y ∷ []) u) can.stands ∙ sets_tell.within_1 p.program (p.home (a_helper Set)) u x i y (check_there p w s u same Set can)
    set_goes can x i y (suc (suc k)) few = absurd (omega (arith, few))

    put_goes : CanPut p → (x i y : js.Value) (k : ℕ) → k ≤ 1 → top_call p (js_meaning.below p.program k) (a_helper Put) (x ∷ i ∷ y ∷ []) u ≡ going
    put_goes can x i y zero few = none_left Put can.index.stands (x ∷ i ∷ y ∷ []) u
    put_goes can x i y (suc zero) few = ap (λ (o : Option js_meaning.Code). js_meaning.code_call (js_meaning.below p.program 1) (p.home (a_helper Put)) o (x ∷ i ∷ y ∷ []) u) can.index.stands ∙ puts_tell.within_1 p.program (p.home (a_helper Put)) u x i y (put_there p w s u same can)
    put_goes can x i y (suc (suc k)) few = absurd (omega (arith, few))

    module _ (env : ir.Env) (t : IrType) (o : Out ir.Ended) (k : ℕ) (few : k ≤ 1) where
      pub gets_short : ChecksIndex p Get → (x i : js.Value) → Sim backward (Valued p w env t) o (top_call p (js_meaning.below p.program k) (a_helper Get) (x ∷ i ∷ []) u)
      gets_short can x i = going_alike (Valued p w env t) o (top_call p (js_meaning.below p.program k) (a_helper Get) (x ∷ i ∷ []) u) (get_goes can x i k few)

      pub sets_short : ChecksIndex p Set → (x i y : js.Value) → Sim backward (Valued p w env t) o (top_call p (js_meaning.below p.program k) (a_helper Set) (x ∷ i ∷ y ∷ []) u)
      sets_short can x i y = going_alike (Valued p w env t) o (top_call p (js_meaning.below p.program k) (a_helper Set) (x ∷ i ∷ y ∷ []) u) (set_goes can x i y k few)

      pub puts_short : CanPut p → (x i y : js.Value) → Sim backward (Valued p w env t) o (top_call p (js_meaning.below p.program k) (a_helper Put) (x ∷ i ∷ y ∷ []) u)
      puts_short can x i y = going_alike (Valued p w env t) o (top_call p (js_meaning.below p.program k) (a_helper Put) (x ∷ i ∷ y ∷ []) u) (put_goes can x i y k few)

backward_alone : (d : Direction) (n : ℕ) → (d ≡ forward → 2 ≤ n) → n ≤ 1 → d ≡ backward
backward_alone forward n enough few = let l = enough refl in absurd (omega (arith, l, few))
backward_alone backward n enough few = refl

-- the test of a type of arrays, and the cast to it, within any units
module _ (p : Place) (plain : IsPlain p.classes) (r : ArrayRef) (w : World) (known : (c : List ℕ) (x : js.Value) → IsConstantsOf w.owned c x → IsAncestor p.classes c c) (env : ir.Env) (s : ir.State) (u : js.State) (base : js.Value) (stands : StandsForBase w.owned r.base base) (same : SameState p w s u) where
  module _ (can : CanTestArrays p r) where
    abbrev uses : ArrayTestStands p.program (p.home (a_test (Array r))) (array_links p) u
    uses = array_test_there p w s u same r can

    abbrev test_call : ℕ → js.Value → Out js.ExpressionEnd
    test_call n x = top_call p (js_meaning.below p.program n) (a_test (Array r)) (x ∷ depth_of r ∷ base ∷ []) u

    test_is : (n : ℕ) (x : js.Value) → test_call n x ≡ js_meaning.code_call (js_meaning.below p.program n) (p.home (a_test (Array r))) (Some (helper_code TestOfArray)) (x ∷ depth_of r ∷ base ∷ []) u
    test_is n x = array_test_code p r can u (x ∷ depth_of r ∷ base ∷ []) (js_meaning.below p.program n)

    -- within one unit
    module _ (d : Direction) (back : d ≡ backward) where
      abbrev Asks : Bool → js.Value → Type 0
      Asks b x = Told d (test_call 1 x) b u

      no_array : (x : js.Value) → is_box u (array_links p) x ≡ false → Asks false x
      no_array x apart = told_so (test_is 1 x ∙ array_tests_tell.of_other p.program 0 (p.home (a_test (Array r))) (array_links p) u x (depth_of r) base uses apart)

      an_array : (i a : ℕ) (k : ArrayAt) → w.place i ≡ Some a → w.arrays i ≡ Some k → (b : Bool) → Asks b (js.object a)
      an_array i a k there is b =
          let seen : ArraySeen p w s u i a k = array_seen p w s u same i a k there is in
          still_going back (test_is 1 (js.object a) ∙ array_tests_tell.within_1 p.program (p.home (a_test (Array r))) (array_link p) (links_of p object_class) u a k.kind.dimensions seen.base k.items seen.items (depth_of r) base uses seen.shown)

      reference_there : (i a : ℕ) → w.place i ≡ Some a → Asks (ir_world.is_array p.classes (slice_get s.heap i) r) (js.object a)
      reference_there i a there = let h = same.heaps.objects i a there in by h.class (w.arrays i) (slice_get s.heap i) (slice_get u.heap a) refl refl h.alike
        where
          by : (c : List ℕ) (k : Option ArrayAt) (o : Option ir.Stored) (q : Option js.Stored) → w.arrays i ≡ k → slice_get u.heap a ≡ q → SameStored p w c k o q → Asks (ir_world.is_array p.classes o r) (js.object a)
          by c _ _ _ is q (same_object _ fields properties tells bare fs) = no_array (js.object a) (ap (λ o. stored_below o (array_links p)) q ∙ classes_apart p (chain_of p.classes c))
          by _ _ _ _ is q (same_array k items properties tells bare array) = an_array i a k there is (ir_world.is_array p.classes (Some (ir.array k.kind items)) r)

      one_unit : (v : ir.Value) (x : js.Value) → Stands w false v x → Asks (ir_world.is_array_value p.classes s v r) x
      one_unit _ _ same_undefined = no_array js.undefined refl
      one_unit _ _ same_null = no_array js.null refl
      one_unit _ _ (same_boolean b) = no_array (js.boolean b) refl
      one_unit _ _ (same_char e c f) = impossible e
      one_unit _ _ (same_box e c a f b) = no_array (js.object a) (ap (λ o. stored_below o (array_links p)) (box_there p w s u same c a b) ∙ boxes_apart p)
      one_unit _ _ (same_number z f) = no_array (js.number z) refl
      one_unit _ _ (same_long z f) = no_array (js.big_int z) refl
      one_unit _ _ (same_text us) = no_array (js.text us) refl
      one_unit _ _ (same_reference i a there) = reference_there i a there

    test_told : (d : Direction) (n : ℕ) → (d ≡ forward → 2 ≤ n) → (v : ir.Value) (x : js.Value) → Stands w false v x → Told d (test_call n x) (ir_world.is_array_value p.classes s v r) u
    test_told d zero enough v x a = still_going (backward_alone d 0 enough (omega arith)) (test_is 0 x)
    test_told d (suc zero) enough v x a = one_unit d (backward_alone d 1 enough (omega arith)) v x a
    test_told d (suc (suc n)) enough v x a = told_so (decided p d n r w env s u base stands same known (told_by_known p plain w s u same known) uses (λ vs low. array_test_code p r can u vs low) v x a)

    pub tests_within : (d : Direction) (n : ℕ) → (d ≡ forward → 2 ≤ n) → (v : ir.Value) (x : js.Value) → SameValue w Any v x → Sim d (Valued p w env Boolean) (ir.given (ir_meaning.is_instance_value p.classes (Array r) s v) env s) (test_call n x)
    tests_within d n enough v x a = subst (λ (y : ir.Value). Sim d (Valued p w env Boolean) (ir.given y env s) (test_call n x)) (sym (array_tested p.classes r s v)) (by (test_told d n enough v x a.stands))
      where
        tested : Bool
        tested = ir_world.is_array_value p.classes s v r

        by : Told d (test_call n x) tested u → Sim d (Valued p w env Boolean) (ir.given (ir.boolean tested) env s) (test_call n x)
        by (told_so is) = subst (Sim d (Valued p w env Boolean) (ir.given (ir.boolean tested) env s)) (sym is) (sim_done d (Valued p w env Boolean) (ir.ends (ir.gives (ir.boolean tested)) env s) (js.gives (js.boolean tested) u) (valued w (ir.boolean tested) (js.boolean tested) s u (grows-refl w) (record { stands = same_boolean tested; suits = refl; shaped = tt }) same))
        by (still_going back is) = subst (λ (q : Direction). Sim q (Valued p w env Boolean) (ir.given (ir.boolean tested) env s) (test_call n x)) (sym back) (going_alike (Valued p w env Boolean) (ir.given (ir.boolean tested) env s) (test_call n x) is)

  module _ (can : CanCastArrays p r) (low : ir_meaning.Low) where
    abbrev cast_call : ℕ → js.Value → Out js.ExpressionEnd
    cast_call n x = top_call p (js_meaning.below p.program n) (a_cast (Array r)) (x ∷ depth_of r ∷ base ∷ js.text (array_text r) ∷ []) u

    pub casts_within : (d : Direction) (n : ℕ) → (d ≡ forward → 2 ≤ n) → FailsOn d p low n (Throws Cast) (js.text (array_text r) ∷ []) cast_exception (array_text r) → (v : ir.Value) (x : js.Value) → SameValue w Any v x → Sim d (Valued p w env (Array r)) (ir_meaning.answered p.classes low (ir_meaning.cast_answer p.classes (Array r) s v) env s) (cast_call (suc n) x)
    casts_within d n enough fails v x a = casts_alike d p low n r (array_text r) w env s u base same (arrays_suit p plain w s u same r) (array_cast_there p w s u same r can) (cast_test_home p r can w s u same) (cast_throws_home p r can w s u same) refl fails (test_told can.tests d n enough) (λ vs low. array_cast_code p r can u vs low) v x a

    -- without units the cast is going
    pub casts_short : (v : ir.Value) (x : js.Value) → Sim backward (Valued p w env (Array r)) (ir_meaning.answered p.classes low (ir_meaning.cast_answer p.classes (Array r) s v) env s) (cast_call 0 x)
    casts_short v x = going_alike (Valued p w env (Array r)) (ir_meaning.answered p.classes low (ir_meaning.cast_answer p.classes (Array r) s v) env s) (cast_call 0 x) (array_cast_code p r can u (x ∷ depth_of r ∷ base ∷ js.text (array_text r) ∷ []) (js_meaning.below p.program 0))
