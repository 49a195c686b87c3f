-- A call by a reflective name, and the function of the name: the function of a case, the entry of an object, or the exception.
use Rattle.std.proofs.Common.{◌≡◌, ℕ, zero, suc, ◌≤◌, arith, Bool, true, false, List, [], ◌∷◌, ◌||◌, length, slice_get, Contains, Some, None, Option, codes, refl, sym, ap, ◌∙◌, subst, ◌⊎◌, ⊎_elim, inl, inr, if◌then◌else◌}
use Rattle.std.specs.Prelude.{is_some, nat_eq}
use Rattle.std.specs.Cmp.Lexicographic.{pointwise}
use Rattle.outcomes.specs.Outcome.{Out, done, going, then_do}
use Rattle.outcomes.specs.Agreement.{Direction, forward, backward, Sim}
use Rattle.outcomes.proofs.Sequence.{then_do-right}
use Rattle.outcomes.proofs.Simulation.{sim_done, sim_wrong, sim_going, sim_then, sim_weaken}
use Rattle.array_code.proofs.Parameters.{no_parameter}
use Rattle.array_code.proofs.Reflecting.{reflection_tells, own_lines_run, proxies_hand_on, short_reflections_go}
use Rattle.array_code.proofs.Telling.{object_is_none}
use Rattle.array_code.specs.ClassTestsKinds.{is_of, is_told}
use Rattle.array_code.specs.Dispatch.{Reflected}
use Rattle.array_code.specs.FailureVariants.{Method}
use Rattle.array_code.specs.Helpers.{helper_name}
use Rattle.array_code.specs.HelperVariants.{BoxedChar, Throws}
use Rattle.array_code.specs.Kind.{Kind}
use Rattle.array_code.specs.KindVariants as kinds
use Rattle.array_code.specs.Objects.{call_found}
use Rattle.array_code.specs.Pieces.{is_char as is_char_result}
use Rattle.array_code.specs.Reflecting.{reflective_code, proxy_code, boxed_outcome, ReflectedStands, AllReflected, reflected_none, reflected_more, reflected_outcome, own_lines, HasEntry, on_object, on_undefined, on_boolean, on_number, on_big_int, on_text, given_up, own_outcome}
use Rattle.array_code.specs.Tests.{TestStands}
use Rattle.array_code.specs.Words.{kind_class, parameters_of, public_function, units_of}
use Rattle.dispatch_laws.specs.Dispatch.{proxy_target}
use Rattle.dispatch_laws.specs.Meaning as ir_meaning
use Rattle.dispatch_laws.specs.Meaning.{no_such_method}
use Rattle.dispatch_laws.specs.States as ir
use Rattle.js_mean.specs.Files.{owner}
use Rattle.js_mean.specs.Meaning as js_meaning
use Rattle.js_mean.specs.Objects as js_objects
use Rattle.js_mean.specs.Proper.{are_distinct}
use Rattle.js_mean.specs.States as js
use Rattle.js_tree.specs.Terms.{Name}
use Rattle.agree_bodies.specs.Coercions.{is_char}
use Rattle.agree_bodies.specs.Desugar.{member}
use Rattle.agree_bodies.specs.Settings.{Place, Setting, SameState, Valued, valued, thrown, IsReceiver, BoxesAlike, a_class, a_helper, a_method, a_reflection, top_call, link_of, links_of}
use Rattle.agree_bodies.specs.AgreePlainTreesStanding.{suits}
use Rattle.agree_bodies.specs.Standing.{Fits, types_referred, call_type}
use Rattle.agree_bodies.proofs.Classes.{IsObject, class_there, class_free, class_made, object_there}
use Rattle.agree_bodies.proofs.Lists.{nothing_in, in_front_or_behind, at_front, further_on}
use Rattle.agree_bodies.proofs.Orders.{valued-weaken, valued-fits}
use Rattle.agree_bodies.proofs.Standing.{open-refers, type-open}
use Rattle.agree_bodies.proofs.Worlds.{World, Grows, shaped-class, IsBox, SameValues, Stands, same_undefined, same_null, same_boolean, same_char, same_box, same_number, same_long, same_text, same_reference}
use Rattle.agree_calls.proofs.Entries.{entries_of}
use Rattle.agree_calls.specs.Worlds.{ArrayEntries}
use Rattle.agree_calls.specs.Helpers.{BoxStands, ReachesBoxes, Failed, failed_so}
use Rattle.agree_calls.specs.Looked.{FindsTarget}
use Rattle.agree_calls.specs.Reflected.{HandsOn, ObjectAnswers, no_entry, has_entry, ReflectedRuns, HasReflected, KindAnswers, no_case, has_case, ReflectionStands}
use Rattle.agree_calls.proofs.Boxed.{boxes, box_there, box_below, object_apart}
use Rattle.agree_calls.proofs.Boxing.{boxes_alike}
use Rattle.agree_calls.proofs.Helps.{FailsOn}
use Rattle.agree_calls.proofs.Looking.{TargetsAlike, by_class, bridge_alike, handed, called_on, one_kind}
use Rattle.agree_calls.proofs.Testing.{kind_stands, boxes_there}
use Rattle.sj_mangling.specs.Bindings.{method_binding}
use Rattle.sj_mangling.specs.declared.bindings.MethodBinding.TheVariants.{Entry}
use Rattle.sj_names.proofs.Same.{impossible}
use Rattle.sj_names.specs.MethodNames.{spelled_method}
use Rattle.sj_names.specs.declared.method_names.MethodName.{MethodName}
use Rattle.sj_names.specs.declared.method_names.Namespace.TheVariants.{Public}
use Rattle.sj_names.specs.declared.references.TypeRef.{TypeRef}
use Rattle.sj_trees.specs.Types.{class_type}
use Rattle.sj_trees.specs.declared.classes.MethodDef.{MethodDef}
use Rattle.sj_trees.specs.declared.types.IrType.{IrType}
use Rattle.sj_trees.specs.declared.types.IrType.TheVariants.{Any, Char}

-- with too few units the emitted code is going, and nothing is said of the forward half
short : {A B : Type 0} (d : Direction) (E : A → B → Type 0) (o : Out A) (q : Out B) → (d ≡ forward → ⊥) → q ≡ going → Sim d E o q
short forward E o q not e = absurd (not refl)
short backward E o q not e = subst (Sim backward E o) (sym e) (sim_going E o)

-- the type of what a method gives stands at any, but for a char
class_stands : (c : List ℕ) → Fits Any (class_type c)
class_stands c = go (pointwise nat_eq c (codes "java.lang.Object"))
  where
    go : (b : Bool) → Fits Any (if b then Any else IrType.Class c)
    go true = refl
    go false = refl

result_stands : (r : Option TypeRef) → is_char_result r ≡ false → Fits Any (call_type r)
result_stands None h = refl
result_stands (Some TypeRef.Void) h = refl
result_stands (Some TypeRef.Boolean) h = refl
result_stands (Some TypeRef.Char) h = impossible (sym h)
result_stands (Some TypeRef.Byte) h = refl
result_stands (Some TypeRef.Short) h = refl
result_stands (Some TypeRef.Int) h = refl
result_stands (Some TypeRef.Long) h = refl
result_stands (Some (TypeRef.Class c)) h = class_stands c
result_stands (Some (TypeRef.Array a)) h = refl

char_result : (r : Option TypeRef) → is_char_result r ≡ true → call_type r ≡ Char
char_result (Some TypeRef.Char) h = refl
char_result None h = impossible h
char_result _ h = impossible h

module _ (p : Place) (arrays : ArrayEntries p) (d : Direction) (low : ir_meaning.Low) where
  abbrev js_low : ℕ → js_meaning.Low
  js_low k = js_meaning.below p.program k

  -- where the emitted code runs with so many units
  abbrev at : ℕ → Setting
  at k = record { place = p; code = record { file = []; owner = []; sure = λ x. false }; direction = d; is_mutable = λ x. false; low = low; js_low = js_low k }

  -- what a method gives, as one that called it by a reflective name gets it
  boxed_value : (k : ℕ) → BoxesAlike (at k) → (w y : World) (env : ir.Env) (s : ir.State) (u : js.State) → Grows w y → SameState p y s u → (v : ir.Value) (x : js.Value) → Stands y true v x → suits Char v ≡ true → Sim d (Valued p w env Any) (done (ir.ends (ir.gives v) env s)) (js_meaning.construct p.program (js_low k) (boxes p) (boxes p) (x ∷ []) u)
  boxed_value k alike w y env s u g same _ _ (same_char r c below) h = sim_weaken d (Valued p y env Any) (Valued p w env Any) _ _ (λ a b. valued-weaken (at k) w y env Any a b g) (alike Any c y env s u refl refl below same)
  boxed_value k alike w y env s u g same _ _ (same_box r c a below b) h = impossible (sym r)
  boxed_value k alike w y env s u g same _ _ _ h = impossible h

  result_given : (k : ℕ) → (d ≡ forward → 1 ≤ k) → (r : Option TypeRef) → (is_char_result r ≡ true → BoxStands p) → (w : World) (env : ir.Env) (o : Out ir.Ended) (q : Out js.ExpressionEnd) → Sim d (Valued p w env (call_type r)) o q → Sim d (Valued p w env Any) o (boxed_outcome p.program (js_low k) (boxes p) (is_char_result r) q)
  result_given k enough r stands w env o q h = by (is_char_result r) refl
    where
      each : BoxStands p → (a : ir.Ended) (b : js.ExpressionEnd) → Valued p w env Char a b → Sim d (Valued p w env Any) (done a) (js.with_value (λ v. js_meaning.construct p.program (js_low k) (boxes p) (boxes p) (v ∷ [])) b)
      each box _ _ (valued y v x s u g a same) = boxed_value k (boxes_alike (at k) k box refl enough) w y env s u g same v x a.stands a.suits
      each box _ _ (thrown y v x s u g a same) = sim_done d (Valued p w env Any) (ir.ends (ir.throws v) env s) (js.throws x u) (thrown y v x s u g a same)

      by : (b : Bool) → is_char_result r ≡ b → Sim d (Valued p w env Any) o (boxed_outcome p.program (js_low k) (boxes p) b q)
      by false e = sim_weaken d (Valued p w env (call_type r)) (Valued p w env Any) o q (λ a b. valued-fits (at k) w env Any (call_type r) a b (result_stands r e)) h
      by true e = subst (λ q'. Sim d (Valued p w env Any) q' (then_do q (js.with_value (λ v. js_meaning.construct p.program (js_low k) (boxes p) (boxes p) (v ∷ []))))) (then_do-right o) (sim_then d (Valued p w env Char) (Valued p w env Any) o q done (js.with_value (λ v. js_meaning.construct p.program (js_low k) (boxes p) (boxes p) (v ∷ []))) (subst (λ (t : IrType). Sim d (Valued p w env t) o q) (char_result r e) h) (each (stands e)))

  -- the helper that throws, where its value is given up
  thrown_so : (j : ℕ) (message : List ℕ) → FailsOn d p low j (Throws Method) (js.text message ∷ []) no_such_method message → (w : World) (env : ir.Env) (s : ir.State) (u : js.State) → SameState p w s u → Sim d (Valued p w env Any) (ir_meaning.raise p.classes low no_such_method message env s) (then_do (top_call p (js_low j) (a_helper (Throws Method)) (js.text message ∷ []) u) given_up)
  thrown_so j message fails w env s u same = subst (λ q. Sim d (Valued p w env Any) q (then_do (top_call p (js_low j) (a_helper (Throws Method)) (js.text message ∷ []) u) given_up)) (then_do-right (ir_meaning.raise p.classes low no_such_method message env s)) (sim_then d (Failed p w env) (Valued p w env Any) (ir_meaning.raise p.classes low no_such_method message env s) (top_call p (js_low j) (a_helper (Throws Method)) (js.text message ∷ []) u) done given_up (fails w env s u same) each)
    where
      each : (a : ir.Ended) (b : js.ExpressionEnd) → Failed p w env a b → Sim d (Valued p w env Any) (done a) (given_up b)
      each _ _ (failed_so y v q s u g k same) = sim_done d (Valued p w env Any) (ir.ends (ir.throws v) env s) (js.throws q u) (thrown y v q s u g k same)

  module _ (boxing : (f : Name) → (p.has f).helper (helper_name BoxedChar) ≡ true → BoxStands p) where
    box_by : (f : Name) → ReachesBoxes p f → BoxStands p
    box_by f r = boxing r.user r.usable

    module _ (w : World) (s : ir.State) (u : js.State) (same : SameState p w s u) (i a : ℕ) (there : w.place i ≡ Some a) (cls : List ℕ) (told : w.classes i ≡ Some cls) where
      object : IsObject p w cls (slice_get s.heap i) (slice_get u.heap a)
      object = object_there p w s u same i a there cls told

      -- the entry of a method that an object of the class finds
      finds_entry : (n : MethodName) (v : js.Value) → js_objects.method_on p.program (links_of p cls) (method_binding Entry n) ≡ Some v → js_objects.callee p.program u (js.object a) (method_binding Entry n) ≡ Some (js_objects.value_called v)
      finds_entry n v lookup = ap (λ q. js_objects.stored_callee p.program a q (method_binding Entry n)) object.shown ∙ ap (λ q. js_objects.called (js_objects.value_on (js_objects.or_value q (js_objects.method_on p.program object.links (method_binding Entry n))) (method_binding Entry n))) (object.bare n) ∙ ap (λ q. js_objects.called (js_objects.value_on q (method_binding Entry n))) (entries_of p arrays cls object.links object.extended n ∙ lookup)

      -- and whether it finds one
      asked_entry : (n : MethodName) (o : Option js.Value) → js_objects.method_on p.program (links_of p cls) (method_binding Entry n) ≡ o → js_objects.has_property p.program u (js.text (method_binding Entry n)) (js.object a) ≡ Some (is_some o || false)
      asked_entry n o lookup = ap (λ q. js_objects.stored_has p.program q (js.text (method_binding Entry n))) object.shown ∙ ap (λ q. Some (is_some (js_objects.or_value q (js_objects.method_on p.program object.links (method_binding Entry n))) || js_objects.is_given (method_binding Entry n))) (object.bare n) ∙ ap (λ (q : Option js.Value). Some (is_some q || false)) (entries_of p arrays cls object.links object.extended n ∙ lookup)

      receiver : IsReceiver w cls (ir.reference i) (js.object a)
      receiver = record { stands = record { stands = same_reference i a there; suits = open-refers (class_type cls) i (type-open cls (class_free p w s u same i a there cls told)); shaped = shaped-class w cls (ir.reference i) }; there = λ e. cc }

      module _ (m t : MethodName) (params : t.params ≡ m.params) (h : HandsOn p cls m t) (f : FindsTarget p cls t) (distinct : are_distinct (parameters_of m) ≡ true) (vs : List ir.Value) (xs : List js.Value) (values : SameValues w (types_referred m.params) vs xs) (env : ir.Env) where
        abbrev proxy : js_objects.Callee
        proxy = js_objects.value_called (js.method (link_of p h.at ∷ h.above) (method_binding Entry m))

        abbrev method : js_objects.Callee
        method = js_objects.value_called (js.method (link_of p f.at ∷ f.above) (method_binding Entry t))

        abbrev scope : js.Scope
        scope = js_meaning.member_scope (link_of p h.at) h.above (js.this_is (js.object a)) (proxy_code t (parameters_of m)) xs

        -- the entry of the method, and its target
        method_called : (k : ℕ) → (d ≡ forward → 1 ≤ k) → ((j : ℕ) → suc j ≡ k → TargetsAlike p d low (js_low j)) → Sim d (Valued p w env (call_type t.result)) (by_class p d low t cls (ir.reference i) vs env s) (js_meaning.call_with_this p.program (js_low k) (js.object a) method xs scope u)
        method_called zero enough alike = short d (Valued p w env (call_type t.result)) (by_class p d low t cls (ir.reference i) vs env s) (js_meaning.call_with_this p.program (js_low 0) (js.object a) method xs scope u) (λ e. let l = enough e in absurd (omega (arith, l))) (ap (λ q. js_meaning.method_call (js_low 0) (link_of p f.at) f.above q (js.object a) xs u) f.code)
        method_called (suc j) enough alike = bridge_alike p d low j (alike j refl) cls t f w i (js.object a) vs xs env scope s u receiver (subst (λ (rs : List TypeRef). SameValues w (types_referred rs) vs xs) (sym params) values) same

        -- the entry of the name, which calls it
        proxy_called : (k : ℕ) → (d ≡ forward → 2 ≤ k) → ((j : ℕ) → suc (suc j) ≡ k → TargetsAlike p d low (js_low j)) → (sc : js.Scope) → Sim d (Valued p w env Any) (by_class p d low t cls (ir.reference i) vs env s) (js_meaning.call_with_this p.program (js_low k) (js.object a) proxy xs sc u)
        proxy_called zero enough alike sc = short d (Valued p w env Any) (by_class p d low t cls (ir.reference i) vs env s) (js_meaning.call_with_this p.program (js_low 0) (js.object a) proxy xs sc u) (λ e. let l = enough e in absurd (omega (arith, l))) (ap (λ q. js_meaning.method_call (js_low 0) (link_of p h.at) h.above q (js.object a) xs u) h.code)
        proxy_called (suc k) enough alike sc = subst (Sim d (Valued p w env Any) (by_class p d low t cls (ir.reference i) vs env s)) (sym js_is) (result_given k (λ e. let l = enough e in omega (arith, l)) t.result (λ e. box_by (p.home (a_class h.at)) (h.boxes e)) w env (by_class p d low t cls (ir.reference i) vs env s) (js_meaning.call_with_this p.program (js_low k) (js.object a) method xs scope u) (method_called k (λ e. let l = enough e in omega (arith, l)) (λ j e. alike j (ap suc e))))
          where
            js_is : js_meaning.call_with_this p.program (js_low (suc k)) (js.object a) proxy xs sc u ≡ boxed_outcome p.program (js_low k) (boxes p) (is_char_result t.result) (js_meaning.call_with_this p.program (js_low k) (js.object a) method xs scope u)
            js_is =
                ap (λ q. js_meaning.method_call (js_low (suc k)) (link_of p h.at) h.above q (js.object a) xs u) h.code
                ∙ proxies_hand_on p.program k (link_of p h.at) h.above (parameters_of m) t (boxes p) (js.object a) xs u distinct (handed w m vs xs values) (no_parameter (codes "$C") (length m.params) (λ j. refl)) refl (λ e. boxes_there p w s u same (p.home (a_class h.at)) (h.boxes e))
                ∙ ap (λ q. boxed_outcome p.program (js_low k) (boxes p) (is_char_result t.result) (call_found p.program (js_low k) (js.object a) q xs scope u)) (finds_entry t (js.method (link_of p f.at ∷ f.above) (method_binding Entry t)) f.lookup)

    module _ (m : MethodName) (st : ReflectionStands p m) where
      abbrev file : Name
      file = p.home (a_reflection m)

      abbrev home : Reflected → Name
      home t = p.home (a_method (member t.owner Public t.method))

      abbrev message : List ℕ
      message = units_of (spelled_method m)

      abbrev thrower : Name
      thrower = p.home (a_helper (Throws Method))

      -- the case that a value of a kind comes to
      record Picked (n : ℕ) (ts : List Reflected) (k : Kind) (x : js.Value) (xs : List js.Value) (last : Out js.ExpressionEnd) (u : js.State) : Type 0 where
        case : Reflected
        among : Contains ts case
        kind_is : case.kind ≡ k
        outcome : reflected_outcome p.program n home (boxes p) ts x xs last u ≡ boxed_outcome p.program (js_low n) (boxes p) (is_char_result case.method.result) (js_meaning.code_call (js_low n) (home case) (js_meaning.code_of p.program (home case) (public_function case.owner case.method)) (x ∷ xs) u)

      picked : (n : ℕ) (ts : List Reflected) (k : Kind) (x : js.Value) (xs : List js.Value) (last : Out js.ExpressionEnd) (u : js.State) → is_of u (boxes p) k x ≡ true → HasReflected ts k → Picked n ts k x xs last u
      picked n [] k x xs last u of_k has = nothing_in has.case has.among
      picked n (t ∷ ts) k x xs last u of_k has = by (λ c. picked n ts k x xs last u of_k c) (is_of u (boxes p) t.kind x) refl (⊎_elim (λ e. inl (ap (λ (q : Reflected). q.kind) e ∙ has.kind_is)) (λ i. inr (record { case = has.case; among = i; kind_is = has.kind_is })) (in_front_or_behind t ts has.case has.among))
        where
          whole : Out js.ExpressionEnd → Bool → Out js.ExpressionEnd
          whole other b = if b then boxed_outcome p.program (js_low n) (boxes p) (is_char_result t.method.result) (js_meaning.code_call (js_low n) (home t) (js_meaning.code_of p.program (home t) (public_function t.owner t.method)) (x ∷ xs) u) else other

          by : (HasReflected ts k → Picked n ts k x xs last u) → (b : Bool) → is_of u (boxes p) t.kind x ≡ b → (t.kind ≡ k) ⊎ HasReflected ts k → Picked n (t ∷ ts) k x xs last u
          by later true h c = record { case = t; among = at_front t ts; kind_is = one_kind u (boxes p) t.kind k x h of_k; outcome = ap (whole (reflected_outcome p.program n home (boxes p) ts x xs last u)) h }
          by later false h (inl e) = impossible (sym h ∙ ap (λ (j : Kind). is_of u (boxes p) j x) e ∙ of_k)
          by later false h (inr c) = let r = later c in record { case = r.case; among = further_on t ts r.case r.among; kind_is = r.kind_is; outcome = ap (whole (reflected_outcome p.program n home (boxes p) ts x xs last u)) h ∙ r.outcome }

      -- a value that comes to no case
      passed : (n : ℕ) (ts : List Reflected) (x : js.Value) (xs : List js.Value) (last : Out js.ExpressionEnd) (u : js.State) → ((t : Reflected) → Contains ts t → is_of u (boxes p) t.kind x ≡ false) → reflected_outcome p.program n home (boxes p) ts x xs last u ≡ last
      passed n [] x xs last u none = refl
      passed n (t ∷ ts) x xs last u none = ap (λ (b : Bool). if b then boxed_outcome p.program (js_low n) (boxes p) (is_char_result t.method.result) (js_meaning.code_call (js_low n) (home t) (js_meaning.code_of p.program (home t) (public_function t.owner t.method)) (x ∷ xs) u) else reflected_outcome p.program n home (boxes p) ts x xs last u) (none t (at_front t ts)) ∙ passed n ts x xs last u (λ q i. none q (further_on t ts q i))

      -- a kind whose class has no method of the name has no case
      no_case_of : (k : Kind) (x : js.Value) (u : js.State) → is_of u (boxes p) k x ≡ true → proxy_target p.classes (kind_class k) m ≡ None → (t : Reflected) → Contains st.cases t → is_of u (boxes p) t.kind x ≡ false
      no_case_of k x u of_k none t i = go (is_of u (boxes p) t.kind x) refl
        where
          absent : {A : Type 0} (o : Option MethodDef) (def : MethodDef) → o ≡ Some def → o ≡ None → A
          absent o def e f = cc

          go : (b : Bool) → is_of u (boxes p) t.kind x ≡ b → is_of u (boxes p) t.kind x ≡ false
          go false e = e
          go true e = absent (proxy_target p.classes (kind_class t.kind) m) (st.runs t i).definition (st.runs t i).proxy (subst (λ (j : Kind). proxy_target p.classes (kind_class j) m ≡ None) (sym (one_kind u (boxes p) t.kind k x e of_k)) none)

      module _ (w : World) (s : ir.State) (u : js.State) (same : SameState p w s u) (vs : List ir.Value) (xs : List js.Value) (values : SameValues w (types_referred m.params) vs xs) (env : ir.Env) where
        -- what a case uses stands there
        test_there : (t : Reflected) → ReflectedRuns p m t → TestStands p.program file (boxes p) u t.kind
        test_there t r = let k = kind_stands p w s u same file t.kind r.test in record { home = k.home; kind_told = r.told; test = k.test; test_is = k.test_is; boxes_stand = k.boxes_stand }

        case_there : (t : Reflected) → ReflectedRuns p m t → ReflectedStands p.program file home (boxes p) u t
        case_there t r = record {
          test = test_there t r;
          called = record { const = false; cell_is = subst (λ (o : List ℕ). js_meaning.top_cell (owner p.program file (public_function o t.method)) (public_function o t.method) u ≡ js.holds false (js.function (p.home (a_method (member o Public t.method))) (public_function o t.method))) r.owner_is (ap (λ h. js_meaning.top_cell h (public_function r.its.owner t.method) u) r.its.reached ∙ same.tops r.its.user (a_method (member r.its.owner Public t.method)) r.its.usable) };
          boxed = λ e. boxes_there p w s u same file (r.boxes e);
        }

        all_there : (ts : List Reflected) → ((t : Reflected) → Contains ts t → ReflectedRuns p m t) → AllReflected p.program file home (boxes p) u ts
        all_there [] runs = reflected_none
        all_there (t ∷ ts) runs = reflected_more t ts (case_there t (runs t (at_front t ts))) (all_there ts (λ q i. runs q (further_on t ts q i)))

        abbrev last : ℕ → js.Value → Out js.ExpressionEnd
        last n x = own_lines p.program n file m message st.cases x xs u

        abbrev scope_of : js.Value → js.Scope
        scope_of x = js_meaning.function_scope file (reflective_code m message st.cases) (x ∷ xs)

        called : (k : ℕ) (x : js.Value) → top_call p (js_low k) (a_reflection m) (x ∷ xs) u ≡ js_meaning.code_call (js_low k) file (Some (reflective_code m message st.cases)) (x ∷ xs) u
        called k x = ap (λ q. js_meaning.code_call (js_low k) file q (x ∷ xs) u) st.code

        comes_to : (n : ℕ) (x : js.Value) → top_call p (js_low (suc (suc n))) (a_reflection m) (x ∷ xs) u ≡ reflected_outcome p.program (suc n) home (boxes p) st.cases x xs (last (suc n) x) u
        comes_to n x = called (suc (suc n)) x ∙ reflection_tells p.program n file home (boxes p) m message st.cases x xs u (all_there st.cases st.runs) st.distinct (handed w m vs xs values)

        -- the last lines
        last_is : (n : ℕ) (x : js.Value) (b : Bool) → HasEntry p.program u m x b → last n x ≡ own_outcome p.program (js_low n) m message thrower x xs (scope_of x) u b
        last_is n x b has = own_lines_run p.program n file thrower m message st.cases x xs u b (record { const = false; cell_is = ap (λ h. js_meaning.top_cell h (helper_name (Throws Method)) u) st.throws.owned ∙ same.tops st.throws.user (a_helper (Throws Method)) st.throws.usable }) has st.distinct (handed w m vs xs values)

        -- what a call by the name does on a value of this class
        abbrev ByName : List ℕ → ir.Value → js.Value → ℕ → Type 0
        ByName cls v x k = Sim d (Valued p w env Any) (ir_meaning.call_named p.classes low m cls (proxy_target p.classes cls m) (v ∷ vs) env s) (top_call p (js_low k) (a_reflection m) (x ∷ xs) u)

        -- an object that holds a char has no entry
        box_asked : (q a : ℕ) → IsBox w q a → HasEntry p.program u m (js.object a) false
        box_asked q a b = on_object a false (ap (λ o. js_objects.stored_has p.program o (js.text (method_binding Entry m))) (box_there p w s u same q a b) ∙ ap (λ o. Some (is_some (js_objects.or_value o (js_objects.method_on p.program (boxes p) (method_binding Entry m))) || js_objects.is_given (method_binding Entry m))) (b.bare m) ∙ ap (λ (o : Option js.Value). Some (is_some o || false)) st.boxless)

        -- within a unit or none it is going: the last lines too call something
        record Asked (x : js.Value) : Type 0 where
          answer : Bool
          has : HasEntry p.program u m x answer
          goes : (sc : js.Scope) → own_outcome p.program (js_low 0) m message thrower x xs sc u answer ≡ going

        without : (x : js.Value) → HasEntry p.program u m x false → Asked x
        without x has = record { answer = false; has = has; goes = λ sc. ap (λ o. then_do (js_meaning.code_call (js_low 0) thrower o (js.text message ∷ []) u) given_up) st.throws.failure }

        object_asked : (i a : ℕ) → w.place i ≡ Some a → Asked (js.object a)
        object_asked i a there = let k = class_there p w s u same i a there in by k.0 k.1 (st.objects k.0 (class_made p w s u same i a there k.0 k.1))
          where
            by : (cls : List ℕ) → w.classes i ≡ Some cls → ObjectAnswers p cls m → Asked (js.object a)
            by cls told (no_entry none lookup) = without (js.object a) (on_object a false (asked_entry w s u same i a there cls told m None lookup))
            by cls told (has_entry t e params h f) = record {
              answer = true;
              has = on_object a true (asked_entry w s u same i a there cls told m (Some (js.method (link_of p h.at ∷ h.above) (method_binding Entry m))) h.lookup);
              goes = λ sc. ap (λ q. call_found p.program (js_low 0) (js.object a) q xs sc u) (finds_entry w s u same i a there cls told m (js.method (link_of p h.at ∷ h.above) (method_binding Entry m)) h.lookup) ∙ ap (λ q. js_meaning.method_call (js_low 0) (link_of p h.at) h.above q (js.object a) xs u) h.code;
            }

        goes_on : (x : js.Value) → Asked x → top_call p (js_low 1) (a_reflection m) (x ∷ xs) u ≡ going
        goes_on x asked = called 1 x ∙ by st.cases st.runs
          where
            by : (ts : List Reflected) → ((t : Reflected) → Contains ts t → ReflectedRuns p m t) → js_meaning.code_call (js_low 1) file (Some (reflective_code m message ts)) (x ∷ xs) u ≡ going
            by [] runs = own_lines_run p.program 0 file thrower m message [] x xs u asked.answer (record { const = false; cell_is = ap (λ h. js_meaning.top_cell h (helper_name (Throws Method)) u) st.throws.owned ∙ same.tops st.throws.user (a_helper (Throws Method)) st.throws.usable }) asked.has st.distinct (handed w m vs xs values) ∙ asked.goes (js_meaning.function_scope file (reflective_code m message []) (x ∷ xs))
            by (t ∷ ts) runs = short_reflections_go p.program file (boxes p) m message t ts x xs u (test_there t (runs t (at_front t ts))) st.distinct (handed w m vs xs values)

        asked_of : (v : ir.Value) (x : js.Value) → Stands w false v x → (v ≡ ir.null → ⊥) → Asked x
        asked_of _ _ same_null there = absurd (there refl)
        asked_of _ _ (same_char r q f) there = impossible r
        asked_of _ _ same_undefined there = without js.undefined on_undefined
        asked_of _ _ (same_boolean b) there = without (js.boolean b) (on_boolean b)
        asked_of _ _ (same_box r q a f b) there = without (js.object a) (box_asked q a b)
        asked_of _ _ (same_number q f) there = without (js.number q) (on_number q)
        asked_of _ _ (same_long q f) there = without (js.big_int q) (on_big_int q)
        asked_of _ _ (same_text us) there = without (js.text us) (on_text us)
        asked_of _ _ (same_reference i a h) there = object_asked i a h

        pub reflected_short : (d ≡ forward → ⊥) → (v : ir.Value) (x : js.Value) → Stands w false v x → Sim d (Valued p w env Any) (ir_meaning.call_reflective p.classes low m (v ∷ vs) env s) (top_call p (js_low 1) (a_reflection m) (x ∷ xs) u)
        reflected_short not v x a = by v a
          where
            other : (v : ir.Value) → Stands w false v x → (v ≡ ir.null → ⊥) → Sim d (Valued p w env Any) (ir_meaning.call_reflective p.classes low m (v ∷ vs) env s) (top_call p (js_low 1) (a_reflection m) (x ∷ xs) u)
            other v a there = short d (Valued p w env Any) (ir_meaning.call_reflective p.classes low m (v ∷ vs) env s) (top_call p (js_low 1) (a_reflection m) (x ∷ xs) u) not (goes_on x (asked_of v x a there))

            by : (v : ir.Value) → Stands w false v x → Sim d (Valued p w env Any) (ir_meaning.call_reflective p.classes low m (v ∷ vs) env s) (top_call p (js_low 1) (a_reflection m) (x ∷ xs) u)
            by ir.null a = sim_wrong d (Valued p w env Any) _
            by ir.undefined a = other ir.undefined a (λ e. cc)
            by (ir.boolean b) a = other (ir.boolean b) a (λ e. cc)
            by (ir.char c) a = other (ir.char c) a (λ e. cc)
            by (ir.number z) a = other (ir.number z) a (λ e. cc)
            by (ir.long z) a = other (ir.long z) a (λ e. cc)
            by (ir.text us) a = other (ir.text us) a (λ e. cc)
            by (ir.reference i) a = other (ir.reference i) a (λ e. cc)

        pub reflected_none_left : (d ≡ forward → ⊥) → (v : ir.Value) (x : js.Value) → Sim d (Valued p w env Any) (ir_meaning.call_reflective p.classes low m (v ∷ vs) env s) (top_call p (js_low 0) (a_reflection m) (x ∷ xs) u)
        reflected_none_left not v x = short d (Valued p w env Any) (ir_meaning.call_reflective p.classes low m (v ∷ vs) env s) (top_call p (js_low 0) (a_reflection m) (x ∷ xs) u) not (called 0 x)

        module _ (n : ℕ) (one : TargetsAlike p d low (js_low (suc n))) (deep : (j : ℕ) → suc j ≡ n → TargetsAlike p d low (js_low j)) (enough : d ≡ forward → 1 ≤ n) (fails : FailsOn d p low (suc n) (Throws Method) (js.text message ∷ []) no_such_method message) where
          -- where the class has no method of the name
          raised : (cls : List ℕ) (v : ir.Value) (x : js.Value) → proxy_target p.classes cls m ≡ None → HasEntry p.program u m x false → reflected_outcome p.program (suc n) home (boxes p) st.cases x xs (last (suc n) x) u ≡ last (suc n) x → ByName cls v x (suc (suc n))
          raised cls v x none has passes = subst (λ (o : Option MethodDef). Sim d (Valued p w env Any) (ir_meaning.call_named p.classes low m cls o (v ∷ vs) env s) (top_call p (js_low (suc (suc n))) (a_reflection m) (x ∷ xs) u)) (sym none) (subst (Sim d (Valued p w env Any) (ir_meaning.raise p.classes low no_such_method message env s)) (sym (comes_to n x ∙ passes ∙ last_is (suc n) x false has)) (thrown_so (suc n) message fails w env s u same))

          -- a value of a kind
          of_kind : (k : Kind) (v : ir.Value) (x : js.Value) → is_told k ≡ true → is_of u (boxes p) k x ≡ true → IsReceiver w (kind_class k) v x → HasEntry p.program u m x false → ByName (kind_class k) v x (suc (suc n))
          of_kind k v x told of_k this has = by (st.each k told)
            where
              by : KindAnswers p m st.cases k → ByName (kind_class k) v x (suc (suc n))
              by (no_case none) = raised (kind_class k) v x none has (passed (suc n) st.cases x xs (last (suc n) x) u (no_case_of k x u of_k none))
              by (has_case c) = subst (λ (j : Kind). ByName (kind_class j) v x (suc (suc n))) r.kind_is (subst (λ (o : Option MethodDef). Sim d (Valued p w env Any) (ir_meaning.call_named p.classes low m (kind_class r.case.kind) o (v ∷ vs) env s) (top_call p (js_low (suc (suc n))) (a_reflection m) (x ∷ xs) u)) (sym runs.proxy) (subst (λ (g : MethodName). Sim d (Valued p w env Any) (ir_meaning.call_on p.classes low (ir_meaning.target_in p.classes (Some (kind_class r.case.kind)) g) (v ∷ vs) env s) (top_call p (js_low (suc (suc n))) (a_reflection m) (x ∷ xs) u)) runs.method_is (subst (λ o. Sim d (Valued p w env Any) o (top_call p (js_low (suc (suc n))) (a_reflection m) (x ∷ xs) u)) (sym (called_on p.classes low (ir_meaning.target_in p.classes (Some (kind_class r.case.kind)) r.case.method) v vs env s this.there)) (subst (Sim d (Valued p w env Any) (ir_meaning.call low (ir_meaning.target_in p.classes (Some (kind_class r.case.kind)) r.case.method) (Some v) vs env s)) (sym (comes_to n x ∙ r.outcome)) (result_given (suc n) (λ e. omega arith) r.case.method.result (λ e. box_by file (runs.boxes e)) w env (ir_meaning.call low (ir_meaning.target_in p.classes (Some (kind_class r.case.kind)) r.case.method) (Some v) vs env s) (top_call p (js_low (suc n)) (a_method (member r.case.owner Public r.case.method)) (x ∷ xs) u) (subst (λ (q : List ℕ). Sim d (Valued p w env (call_type r.case.method.result)) (ir_meaning.call low (ir_meaning.target_in p.classes (Some (kind_class r.case.kind)) r.case.method) (Some v) vs env s) (top_call p (js_low (suc n)) (a_method (member q Public r.case.method)) (x ∷ xs) u)) runs.owner_is (one (member (kind_class r.case.kind) Public r.case.method) (member runs.its.owner Public r.case.method) runs.its.target runs.its.runs w v x vs xs env s u (subst (λ (q : Kind). IsReceiver w (kind_class q) v x) (sym r.kind_is) this) (subst (λ (rs : List TypeRef). SameValues w (types_referred rs) vs xs) (sym runs.params) values) same)))))))
                where
                  r : Picked (suc n) st.cases k x xs (last (suc n) x) u
                  r = picked (suc n) st.cases k x xs (last (suc n) x) u of_k c

                  runs : ReflectedRuns p m r.case
                  runs = st.runs r.case r.among

          -- an object
          of_object : (i a : ℕ) (cls : List ℕ) → w.place i ≡ Some a → w.classes i ≡ Some cls → ByName cls (ir.reference i) (js.object a) (suc (suc n))
          of_object i a cls there told = by (st.objects cls (class_made p w s u same i a there cls told))
            where
              passes : reflected_outcome p.program (suc n) home (boxes p) st.cases (js.object a) xs (last (suc n) (js.object a)) u ≡ last (suc n) (js.object a)
              passes = passed (suc n) st.cases (js.object a) xs (last (suc n) (js.object a)) u (λ t q. object_is_none u (boxes p) a t.kind (object_apart p w s u same i a there))

              by : ObjectAnswers p cls m → ByName cls (ir.reference i) (js.object a) (suc (suc n))
              by (no_entry none lookup) = raised cls (ir.reference i) (js.object a) none (on_object a false (asked_entry w s u same i a there cls told m None lookup)) passes
              by (has_entry t e params h f) = subst (λ (o : Option MethodDef). Sim d (Valued p w env Any) (ir_meaning.call_named p.classes low m cls o (ir.reference i ∷ vs) env s) (top_call p (js_low (suc (suc n))) (a_reflection m) (js.object a ∷ xs) u)) (sym e) (subst (Sim d (Valued p w env Any) (by_class p d low t.name cls (ir.reference i) vs env s)) (sym (comes_to n (js.object a) ∙ passes ∙ last_is (suc n) (js.object a) true (on_object a true (asked_entry w s u same i a there cls told m (Some (js.method (link_of p h.at ∷ h.above) (method_binding Entry m))) h.lookup)) ∙ ap (λ q. call_found p.program (js_low (suc n)) (js.object a) q xs (scope_of (js.object a)) u) (finds_entry w s u same i a there cls told m (js.method (link_of p h.at ∷ h.above) (method_binding Entry m)) h.lookup))) (proxy_called w s u same i a there cls told m t.name params h f st.entries vs xs values env (suc n) (λ q. let l = enough q in omega (arith, l)) (λ j q. deep j (let r : suc j ≡ n = omega (arith, q) in r)) (scope_of (js.object a))))

          -- a value of a kind is of the type of the kind's class
          value_receiver : (k : Kind) (v : ir.Value) (x : js.Value) → is_char (class_type (kind_class k)) ≡ false → Stands w false v x → suits (class_type (kind_class k)) v ≡ true → (v ≡ ir.null → ⊥) → IsReceiver w (kind_class k) v x
          value_receiver k v x raw a fits there = record { stands = record { stands = subst (λ (b : Bool). Stands w b v x) (sym raw) a; suits = fits; shaped = shaped-class w (kind_class k) v }; there = there }

          -- the class of the object that a reference leads to
          by_object : (i a : ℕ) → w.place i ≡ Some a → Sim d (Valued p w env Any) (ir_meaning.call_reflective p.classes low m (ir.reference i ∷ vs) env s) (top_call p (js_low (suc (suc n))) (a_reflection m) (js.object a ∷ xs) u)
          by_object i a there = let k = class_there p w s u same i a there in subst (λ (o : Option (List ℕ)). Sim d (Valued p w env Any) (ir_meaning.call_proxy p.classes low m o (ir.reference i ∷ vs) env s) (top_call p (js_low (suc (suc n))) (a_reflection m) (js.object a ∷ xs) u)) (sym (object_there p w s u same i a there k.0 k.1).stored) (of_object i a k.0 there k.1)

          pub reflected_value : (v : ir.Value) (x : js.Value) → Stands w false v x → Sim d (Valued p w env Any) (ir_meaning.call_reflective p.classes low m (v ∷ vs) env s) (top_call p (js_low (suc (suc n))) (a_reflection m) (x ∷ xs) u)
          reflected_value _ _ same_null = sim_wrong d (Valued p w env Any) _
          reflected_value _ _ (same_char r q f) = impossible r
          reflected_value _ _ same_undefined = of_kind kinds.Undefined ir.undefined js.undefined refl refl (value_receiver kinds.Undefined ir.undefined js.undefined refl same_undefined refl (λ e. cc)) on_undefined
          reflected_value _ _ (same_boolean b) = of_kind kinds.Boolean (ir.boolean b) (js.boolean b) refl refl (value_receiver kinds.Boolean (ir.boolean b) (js.boolean b) refl (same_boolean b) refl (λ e. cc)) (on_boolean b)
          reflected_value _ _ (same_box r q a f b) = of_kind kinds.Char (ir.char q) (js.object a) refl (box_below p w s u same q a b) (value_receiver kinds.Char (ir.char q) (js.object a) refl (same_box r q a f b) refl (λ e. cc)) (box_asked q a b)
          reflected_value _ _ (same_number q f) = of_kind kinds.Int (ir.number q) (js.number q) refl refl (value_receiver kinds.Int (ir.number q) (js.number q) refl (same_number q f) refl (λ e. cc)) (on_number q)
          reflected_value _ _ (same_long q f) = of_kind kinds.Long (ir.long q) (js.big_int q) refl refl (value_receiver kinds.Long (ir.long q) (js.big_int q) refl (same_long q f) refl (λ e. cc)) (on_big_int q)
          reflected_value _ _ (same_text us) = of_kind kinds.Text (ir.text us) (js.text us) refl refl (value_receiver kinds.Text (ir.text us) (js.text us) refl (same_text us) refl (λ e. cc)) (on_text us)
          reflected_value _ _ (same_reference i a h) = by_object i a h
