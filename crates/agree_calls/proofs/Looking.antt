-- A method that is looked up on an instance, and the function of the target: by the entry of an object, and by the function that tells primitive receivers apart.
use Rattle.std.proofs.Common.{◌≡◌, ℕ, zero, suc, arith, Bool, true, false, List, [], ◌∷◌, length, slice_get, Contains, Some, None, Option, codes, refl, sym, ap, ◌∙◌, subst, ◌⊎◌, ⊎_elim, inl, inr, if◌then◌else◌}
use Rattle.std.proofs.lemmas.List.{length-append}
use Rattle.outcomes.specs.Outcome.{Out, going}
use Rattle.outcomes.specs.Agreement.{Direction, backward, Sim}
use Rattle.outcomes.proofs.Simulation.{sim_going}
use Rattle.array_code.proofs.Bridge.{bridges_hand_on}
use Rattle.array_code.proofs.Parameters.{no_parameter}
use Rattle.array_code.proofs.ClassTestsShortly.{short_calls_go}
use Rattle.array_code.proofs.Telling.{dispatch_tells, others_call_methods}
use Rattle.array_code.specs.ClassTestsKinds.{is_of, is_told, CaseStands, CasesStand, cases_none, cases_more, dispatch_code, told_outcome}
use Rattle.array_code.specs.Dispatch.{Told}
use Rattle.array_code.specs.Kind.{Kind}
use Rattle.array_code.specs.KindVariants as kinds
use Rattle.array_code.specs.Objects.{call_found}
use Rattle.array_code.specs.Words.{first_parameters, parameter, parameters_of, kind_class, public_function}
use Rattle.dispatch_laws.specs.Dispatch.{is_ancestor}
use Rattle.dispatch_laws.specs.Known.{is_hijacked}
use Rattle.dispatch_laws.specs.Meaning as ir_meaning
use Rattle.dispatch_laws.specs.States as ir
use Rattle.dispatch_laws.specs.Targets.{IsTargetOf}
use Rattle.dispatch_laws.specs.Templates.{member_name}
use Rattle.dispatch_laws.specs.World as ir_world
use Rattle.js_mean.specs.Files.{owner}
use Rattle.js_mean.specs.Meaning as js_meaning
use Rattle.js_mean.specs.Objects as js_objects
use Rattle.js_mean.specs.States as js
use Rattle.js_tree.specs.Terms.{Name}
use Rattle.agree_bodies.specs.Desugar.{member}
use Rattle.array_code.specs.Words.{object_class}
use Rattle.agree_bodies.specs.Settings.{ArraysFind, Place, Setting, SameState, Valued, MadeSomewhere, IsReceiver, Finds, EntriesAlike, DispatchesAlike, a_dispatch, a_method, top_call, link_of}
use Rattle.agree_bodies.specs.Standing.{types_referred, call_type}
use Rattle.agree_bodies.proofs.Classes.{IsObject, class_there, class_free, class_made, object_there}
use Rattle.agree_bodies.proofs.Lists.{nothing_in, in_front_or_behind, at_front, further_on}
use Rattle.agree_bodies.proofs.Looked.{told_class}
use Rattle.agree_bodies.proofs.Boxes.{class-no-char}
use Rattle.agree_bodies.proofs.Standing.{open-refers, type-open}
use Rattle.agree_bodies.proofs.Worlds.{World, Grows, shaped-class, SameValues, no_values, one_more, Stands, same_undefined, same_null, same_boolean, same_char, same_box, same_number, same_long, same_text, same_reference, grows-refl}
use Rattle.agree_calls.proofs.Entries.{entries_of}
use Rattle.agree_calls.specs.Worlds.{ArrayEntries}
use Rattle.agree_calls.specs.Looked.{FindsTarget, CaseRuns, HasCase, DispatchStands}
use Rattle.agree_bodies.specs.AgreePlainTreesStanding.{suits}
use Rattle.agree_calls.proofs.Boxed.{boxes, box_below, object_apart}
use Rattle.agree_calls.proofs.Testing.{kind_stands}
use Rattle.agree_calls.specs.Objects.{RunsOn}
use Rattle.agree_bodies.specs.Coercions.{is_char}
use Rattle.sj_trees.specs.Types.{class_type}
use Rattle.sj_trees.specs.declared.classes.MethodDef.{MethodDef}
use Rattle.sj_mangling.specs.Bindings.{method_binding}
use Rattle.sj_mangling.specs.declared.bindings.MethodBinding.TheVariants.{Entry}
use Rattle.sj_names.proofs.Same.{impossible}
use Rattle.sj_names.specs.declared.method_names.Member.{Member}
use Rattle.sj_names.specs.declared.method_names.MethodName.{MethodName}
use Rattle.sj_names.specs.declared.method_names.Namespace.TheVariants.{Public}
use Rattle.sj_names.specs.declared.references.TypeRef.{TypeRef}

-- as many parameters as a method has, and as many values as types
parameters_length : (n : ℕ) → length (first_parameters n) ≡ n
parameters_length zero = refl
parameters_length (suc n) = length-append (first_parameters n) (parameter n ∷ []) ∙ (let e = parameters_length n in grind arith)

values_length : (w : World) (rs : List TypeRef) (vs : List ir.Value) (xs : List js.Value) → SameValues w (types_referred rs) vs xs → length rs ≡ length xs
values_length w [] _ _ no_values = refl
values_length w (r ∷ rs) _ _ (one_more _ v x _ vs xs a others) = ap suc (values_length w rs vs xs others)

pub handed : (w : World) (m : MethodName) (vs : List ir.Value) (xs : List js.Value) → SameValues w (types_referred m.params) vs xs → length (parameters_of m) ≡ length xs
handed w m vs xs values = parameters_length (length m.params) ∙ values_length w m.params vs xs values

pub some_class : (c d : List ℕ) → Some c ≡ Some d → c ≡ d
some_class c d e = cc

module _ (p : Place) (d : Direction) (low : ir_meaning.Low) where
  -- a call of what a member's target runs, and the target's function, are alike
  abbrev pub TargetsAlike : js_meaning.Low → Type 0
  TargetsAlike js_low = (m o : Member) → IsTargetOf p.classes m o → RunsOn p o → (w : World) (v : ir.Value) (x : js.Value) (vs : List ir.Value) (xs : List js.Value) (env : ir.Env) (s : ir.State) (u : js.State) → IsReceiver w m.class v x → SameValues w (types_referred m.method.params) vs xs → SameState p w s u → Sim d (Valued p w env (call_type m.method.result)) (ir_meaning.call low (ir_meaning.static_target p.classes m.class m.namespace m.method) (Some v) vs env s) (top_call p js_low (a_method o) (x ∷ xs) u)

  -- what a call does by the class of its receiver
  abbrev pub by_class : MethodName → List ℕ → ir.Value → List ir.Value → ir.Run
  by_class m c v vs = ir_meaning.call_on p.classes low (ir_meaning.target_in p.classes (Some c) m) (v ∷ vs)

  -- the method that hands on, and then the function
  pub bridge_alike : (n : ℕ) → TargetsAlike (js_meaning.below p.program n) → (c : List ℕ) (m : MethodName) (f : FindsTarget p c m) → (w : World) (i : ℕ) (x : js.Value) (vs : List ir.Value) (xs : List js.Value) (env : ir.Env) (sc : js.Scope) (s : ir.State) (u : js.State) → IsReceiver w c (ir.reference i) x → SameValues w (types_referred m.params) vs xs → SameState p w s u → Sim d (Valued p w env (call_type m.result)) (by_class m c (ir.reference i) vs env s) (js_meaning.call_with_this p.program (js_meaning.below p.program (suc n)) x (js_objects.value_called (js.method (link_of p f.at ∷ f.above) (method_binding Entry m))) xs sc u)
  bridge_alike n alike c m f w i x vs xs env sc s u this values same = subst (λ o. Sim d (Valued p w env (call_type m.result)) (by_class m c (ir.reference i) vs env s) o) (sym js_is) (alike (member c Public m) o f.its.target f.its.runs w (ir.reference i) x vs xs env s u this values same)
    where
      o : Member
      o = member f.its.owner Public m

      top : js_meaning.top_cell (owner p.program (link_of p f.at).file (member_name o)) (member_name o) u ≡ js.holds false (js.function (p.home (a_method o)) (member_name o))
      top = ap (λ h. js_meaning.top_cell h (member_name o) u) f.its.reached ∙ same.tops f.its.user (a_method o) f.its.usable

      js_is : js_meaning.call_with_this p.program (js_meaning.below p.program (suc n)) x (js_objects.value_called (js.method (link_of p f.at ∷ f.above) (method_binding Entry m))) xs sc u ≡ top_call p (js_meaning.below p.program n) (a_method o) (x ∷ xs) u
      js_is = ap (λ q. js_meaning.method_call (js_meaning.below p.program (suc n)) (link_of p f.at) f.above q x xs u) f.code ∙ bridges_hand_on p.program n (link_of p f.at) f.above (parameters_of m) (member_name o) (p.home (a_method o)) x xs u f.distinct (handed w m vs xs values) (no_parameter (member_name o) (length m.params) (λ k. refl)) refl (record { const = false; cell_is = top })

-- a call on what isn't null
pub called_on : (classes : ir_world.World) (low : ir_meaning.Low) (o : Option MethodDef) (v : ir.Value) (vs : List ir.Value) (env : ir.Env) (s : ir.State) → (v ≡ ir.null → ⊥) → ir_meaning.call_on classes low o (v ∷ vs) env s ≡ ir_meaning.call low o (Some v) vs env s
called_on classes low o ir.null vs env s n = absurd (n refl)
called_on classes low o v vs env s n = refl

-- the kind that is told of a value
abbrev kind_for : js.Value → Option Kind
kind_for js.undefined = Some kinds.Undefined
kind_for (js.boolean b) = Some kinds.Boolean
kind_for (js.number z) = Some kinds.Int
kind_for (js.big_int z) = Some kinds.Long
kind_for (js.text us) = Some kinds.Text
kind_for (js.object a) = Some kinds.Char
kind_for _ = None

kind_told_so : (s : js.State) (boxes : List js.ClassLink) (k : Kind) (x : js.Value) → is_of s boxes k x ≡ true → kind_for x ≡ Some k
kind_told_so s boxes kinds.Undefined js.undefined h = refl
kind_told_so s boxes kinds.Undefined _ h = impossible h
kind_told_so s boxes kinds.Boolean (js.boolean b) h = refl
kind_told_so s boxes kinds.Boolean _ h = impossible h
kind_told_so s boxes kinds.Int (js.number z) h = refl
kind_told_so s boxes kinds.Int _ h = impossible h
kind_told_so s boxes kinds.Long (js.big_int z) h = refl
kind_told_so s boxes kinds.Long _ h = impossible h
kind_told_so s boxes kinds.Text (js.text us) h = refl
kind_told_so s boxes kinds.Text _ h = impossible h
kind_told_so s boxes kinds.Char (js.object a) h = refl
kind_told_so s boxes kinds.Char _ h = impossible h
kind_told_so s boxes kinds.Byte _ h = impossible h
kind_told_so s boxes kinds.Short _ h = impossible h

some_kind : (j k : Kind) → Some j ≡ Some k → j ≡ k
some_kind j k e = cc

-- no value is of two kinds
pub one_kind : (s : js.State) (boxes : List js.ClassLink) (j k : Kind) (x : js.Value) → is_of s boxes j x ≡ true → is_of s boxes k x ≡ true → j ≡ k
one_kind s boxes j k x h i = some_kind j k (sym (kind_told_so s boxes j x h) ∙ kind_told_so s boxes k x i)

-- the case that a value of a kind comes to
record Chosen (p : js.Program) (n : ℕ) (home : Name → Name) (boxes : List js.ClassLink) (m : MethodName) (ts : List Told) (k : Kind) (x : js.Value) (xs : List js.Value) (last : Out js.ExpressionEnd) (u : js.State) : Type 0 where
  case : Told
  among : Contains ts case
  kind_is : case.kind ≡ k
  outcome : told_outcome p n home boxes m ts x xs last u ≡ js_meaning.code_call (js_meaning.below p n) (home case.owner) (js_meaning.code_of p (home case.owner) (public_function case.owner m)) (x ∷ xs) u

chosen : (p : js.Program) (n : ℕ) (home : Name → Name) (boxes : List js.ClassLink) (m : MethodName) (ts : List Told) (k : Kind) (x : js.Value) (xs : List js.Value) (last : Out js.ExpressionEnd) (u : js.State) → is_of u boxes k x ≡ true → HasCase ts k → Chosen p n home boxes m ts k x xs last u
chosen p n home boxes m [] k x xs last u of_k has = nothing_in has.case has.among
chosen p n home boxes m (t ∷ ts) k x xs last u of_k has = by (λ c. chosen p n home boxes m ts k x xs last u of_k c) (is_of u boxes t.kind x) refl (⊎_elim (λ e. inl (ap (λ (q : Told). q.kind) e ∙ has.kind_is)) (λ i. inr (record { case = has.case; among = i; kind_is = has.kind_is })) (in_front_or_behind t ts has.case has.among))
  where
    whole : Out js.ExpressionEnd → Bool → Out js.ExpressionEnd
    whole other b = if b then js_meaning.code_call (js_meaning.below p n) (home t.owner) (js_meaning.code_of p (home t.owner) (public_function t.owner m)) (x ∷ xs) u else other

    by : (HasCase ts k → Chosen p n home boxes m ts k x xs last u) → (b : Bool) → is_of u boxes t.kind x ≡ b → (t.kind ≡ k) ⊎ HasCase ts k → Chosen p n home boxes m (t ∷ ts) k x xs last u
    by later true h c = record { case = t; among = at_front t ts; kind_is = one_kind u boxes t.kind k x h of_k; outcome = ap (whole (told_outcome p n home boxes m ts x xs last u)) h }
    by later false h (inl e) = impossible (sym h ∙ ap (λ (j : Kind). is_of u boxes j x) e ∙ of_k)
    by later false h (inr c) = let r = later c in record { case = r.case; among = further_on t ts r.case r.among; kind_is = r.kind_is; outcome = ap (whole (told_outcome p n home boxes m ts x xs last u)) h ∙ r.outcome }

-- what a case uses stands there
case_stands : (p : Place) (m : MethodName) (w : World) (s : ir.State) (u : js.State) → SameState p w s u → (t : Told) → CaseRuns p m t → CaseStands p.program (p.home (a_dispatch m)) (λ o. p.home (a_method (member o Public m))) (boxes p) m u t
case_stands p m w s u same t r = let k = kind_stands p w s u same (p.home (a_dispatch m)) t.kind r.test in record {
  test_home = k.home;
  kind_told = r.told;
  test = k.test;
  test_is = k.test_is;
  boxes_stand = k.boxes_stand;
  called = record { const = false; cell_is = subst (λ (o : List ℕ). js_meaning.top_cell (owner p.program (p.home (a_dispatch m)) (public_function o m)) (public_function o m) u ≡ js.holds false (js.function (p.home (a_method (member o Public m))) (public_function o m))) r.owner_is (ap (λ h. js_meaning.top_cell h (public_function r.its.owner m) u) r.its.reached ∙ same.tops r.its.user (a_method (member r.its.owner Public m)) r.its.usable) };
}

module _ (z : Setting) (arrays : ArrayEntries z.place) (c : List ℕ) (m : MethodName) where
  abbrev p : Place
  p = z.place

  -- an object of a class at or below this one
  record AnObject (w : World) (cls : List ℕ) (i a : ℕ) (u : js.State) : Type 0 where
    free : is_hijacked cls ≡ false
    there : w.place i ≡ Some a
    finds : FindsTarget p cls m
    property : js_objects.callee p.program u (js.object a) (method_binding Entry m) ≡ Some (js_objects.value_called (js.method (link_of p finds.at ∷ finds.above) (method_binding Entry m)))

  -- what stands at an address is one of the class that the world tells
  class_told : (w : World) (s : ir.State) (u : js.State) → SameState p w s u → (i a : ℕ) → w.place i ≡ Some a → (cls : List ℕ) → ir_world.class_of_value s (ir.reference i) ≡ Some cls → w.classes i ≡ Some cls
  class_told w s u same i a h cls e = k.1 ∙ ap Some (some_class k.0 cls (sym (object_there p w s u same i a h k.0 k.1).stored ∙ e))
    where
      k : (e : List ℕ) × (w.classes i ≡ Some e)
      k = class_there p w s u same i a h

  object_at : (w : World) (s : ir.State) (u : js.State) → SameState p w s u → (i a : ℕ) → w.place i ≡ Some a → (cls : List ℕ) → w.classes i ≡ Some cls → FindsTarget p cls m → AnObject w cls i a u
  object_at w s u same i a h cls told f = record {
    free = class_free p w s u same i a h cls told;
    there = h;
    finds = f;
    property = ap (λ q. js_objects.stored_callee p.program a q (method_binding Entry m)) o.shown ∙ ap (λ q. js_objects.called (js_objects.value_on (js_objects.or_value q (js_objects.method_on p.program o.links (method_binding Entry m))) (method_binding Entry m))) (o.bare m) ∙ ap (λ q. js_objects.called (js_objects.value_on q (method_binding Entry m))) (entries_of p arrays cls o.links o.extended m ∙ f.lookup);
  }
    where
      o : IsObject p w cls (slice_get s.heap i) (slice_get u.heap a)
      o = object_there p w s u same i a h cls told

  an_object : ((e : List ℕ) → MadeSomewhere p e → is_ancestor p.classes e c ≡ true → FindsTarget p e m) → (w : World) (s : ir.State) (u : js.State) → SameState p w s u → (i a : ℕ) → w.place i ≡ Some a → (cls : List ℕ) → ir_world.class_of_value s (ir.reference i) ≡ Some cls → is_ancestor p.classes cls c ≡ true → AnObject w cls i a u
  an_object objects w s u same i a h cls e below = let told = class_told w s u same i a h cls e in object_at w s u same i a h cls told (objects cls (class_made p w s u same i a h cls told) below)

  object_receiver : (w y : World) (cls : List ℕ) (i a : ℕ) (u : js.State) → Grows w y → AnObject w cls i a u → IsReceiver y cls (ir.reference i) (js.object a)
  object_receiver w y cls i a u g o = record { stands = record { stands = same_reference i a (g.places i a o.there); suits = open-refers (class_type cls) i (type-open cls o.free); shaped = shaped-class y cls (ir.reference i) }; there = λ e. cc }

  -- what a call of the entry does that an object finds
  abbrev pub EntryCalls : Type 0
  EntryCalls = (cls : List ℕ) (f : FindsTarget p cls m) (y : World) (i : ℕ) (x : js.Value) (vs : List ir.Value) (xs : List js.Value) (env : ir.Env) (sc : js.Scope) (s : ir.State) (u : js.State) → IsReceiver y cls (ir.reference i) x → SameValues y (types_referred m.params) vs xs → SameState p y s u → Sim z.direction (Valued p y env (call_type m.result)) (by_class p z.direction z.low m cls (ir.reference i) vs env s) (js_meaning.call_with_this p.program z.js_low x (js_objects.value_called (js.method (link_of p f.at ∷ f.above) (method_binding Entry m))) xs sc u)

  pub calls_on : (n : ℕ) → z.js_low ≡ js_meaning.below p.program (suc n) → TargetsAlike p z.direction z.low (js_meaning.below p.program n) → EntryCalls
  calls_on n level alike cls f y i x vs xs env sc s u this values same = subst (λ l. Sim z.direction (Valued p y env (call_type m.result)) (by_class p z.direction z.low m cls (ir.reference i) vs env s) (js_meaning.call_with_this p.program l x (js_objects.value_called (js.method (link_of p f.at ∷ f.above) (method_binding Entry m))) xs sc u)) (sym level) (bridge_alike p z.direction z.low n alike cls m f y i x vs xs env sc s u this values same)

  pub calls_going : z.direction ≡ backward → z.js_low ≡ js_meaning.below p.program zero → EntryCalls
  calls_going back level cls f y i x vs xs env sc s u this values same = subst (λ d. Sim d (Valued p y env (call_type m.result)) (by_class p z.direction z.low m cls (ir.reference i) vs env s) (js_meaning.call_with_this p.program z.js_low x (js_objects.value_called (js.method (link_of p f.at ∷ f.above) (method_binding Entry m))) xs sc u)) (sym back) (subst (λ o. Sim backward (Valued p y env (call_type m.result)) (by_class p z.direction z.low m cls (ir.reference i) vs env s) o) (sym (ap (λ l. js_meaning.call_with_this p.program l x (js_objects.value_called (js.method (link_of p f.at ∷ f.above) (method_binding Entry m))) xs sc u) level ∙ ap (λ q. js_meaning.method_call (js_meaning.below p.program 0) (link_of p f.at) f.above q x xs u) f.code)) (sim_going (Valued p y env (call_type m.result)) (by_class p z.direction z.low m cls (ir.reference i) vs env s)))

  -- the entry that an object has
  object_finds : EntryCalls → (w : World) (u : js.State) (i a : ℕ) (cls : List ℕ) → AnObject w cls i a u → Finds z m w cls (ir.reference i) (js.object a) u
  object_finds calls w u i a cls o = record {
    found = js_objects.value_called (js.method (link_of p o.finds.at ∷ o.finds.above) (method_binding Entry m));
    is = o.property;
    calls = λ y g vs xs env sc t k values states. calls cls o.finds y i (js.object a) vs xs env sc t k (object_receiver w y cls i a u g o) values states;
  }

  -- an array has the entry of the class of all objects
  pub arrays_find : EntryCalls → FindsTarget p object_class m → ArraysFind z m
  arrays_find calls f w i a k there told s u same =
      let is : ir_world.class_of_value s (ir.reference i) ≡ Some object_class = ap ir_world.stored_class (same.heaps.arrays i k told).stored in
      object_finds calls w u i a object_class (object_at w s u same i a there object_class (class_told w s u same i a there object_class is) f)

  -- where no primitive value is an instance: the entry of the object
  module _ (calls : EntryCalls) (objects : (e : List ℕ) → MadeSomewhere p e → is_ancestor p.classes e c ≡ true → FindsTarget p e m) (none : (h : List ℕ) → is_hijacked h ≡ true → is_ancestor p.classes h c ≡ false) where
    no_kind : {A : Type 0} (h cls : List ℕ) → is_hijacked h ≡ true → Some h ≡ Some cls → is_ancestor p.classes cls c ≡ true → A
    no_kind h cls is e below = impossible (sym (none h is) ∙ ap (λ (q : List ℕ). is_ancestor p.classes q c) (some_class h cls e) ∙ below)

    pub entries_alike : EntriesAlike z c m
    entries_alike w v x one s u same = by v x one.stands.stands one.its.class (told_class p w s u same v one.its.class one.its.told) one.its.below
      where
        by : (v : ir.Value) (x : js.Value) → Stands w (is_char (class_type c)) v x → (cls : List ℕ) → ir_world.class_of_value s v ≡ Some cls → is_ancestor p.classes cls c ≡ true → Finds z m w cls v x u
        by _ _ same_undefined cls e below = no_kind (codes "java.lang.Void") cls refl e below
        by _ _ same_null cls e below = impossible (cc)
        by _ _ (same_boolean b) cls e below = no_kind (codes "java.lang.Boolean") cls refl e below
        by _ _ (same_char r q f) cls e below = no_kind (codes "java.lang.Character") cls refl e below
        by _ _ (same_box r q a f b) cls e below = no_kind (codes "java.lang.Character") cls refl e below
        by _ _ (same_number q f) cls e below = no_kind (codes "java.lang.Integer") cls refl e below
        by _ _ (same_long q f) cls e below = no_kind (codes "java.lang.Long") cls refl e below
        by _ _ (same_text us) cls e below = no_kind (codes "java.lang.String") cls refl e below
        by _ _ (same_reference i a h) cls e below = object_finds calls w u i a cls (an_object objects w s u same i a h cls e below)

  -- where one may be: the function that tells them apart
  module _ (n : ℕ) (level : z.js_low ≡ js_meaning.below p.program (suc (suc n))) (one_less : TargetsAlike p z.direction z.low (js_meaning.below p.program (suc n))) (two_less : TargetsAlike p z.direction z.low (js_meaning.below p.program n)) (objects : (e : List ℕ) → MadeSomewhere p e → is_ancestor p.classes e c ≡ true → FindsTarget p e m) (st : DispatchStands p c m) where
    abbrev home : Name → Name
    home o = p.home (a_method (member o Public m))

    abbrev file : Name
    file = p.home (a_dispatch m)

    module _ (w : World) (s : ir.State) (u : js.State) (same : SameState p w s u) where
      cases_stand : (ts : List Told) → ((t : Told) → Contains ts t → CaseRuns p m t) → CasesStand p.program file home (boxes p) m u ts
      cases_stand [] runs = cases_none
      cases_stand (t ∷ ts) runs = cases_more t ts (case_stands p m w s u same t (runs t (at_front t ts))) (cases_stand ts (λ q i. runs q (further_on t ts q i)))

      -- what the function comes to
      abbrev last : js.Value → List js.Value → Out js.ExpressionEnd
      last x xs = call_found p.program (js_meaning.below p.program (suc n)) x (js_objects.callee p.program u x (method_binding Entry m)) xs (js_meaning.function_scope file (dispatch_code m (st.first ∷ st.others)) (x ∷ xs)) u

      comes_to : (x : js.Value) (vs : List ir.Value) (xs : List js.Value) → SameValues w (types_referred m.params) vs xs → top_call p z.js_low (a_dispatch m) (x ∷ xs) u ≡ told_outcome p.program (suc n) home (boxes p) m (st.first ∷ st.others) x xs (last x xs) u
      comes_to x vs xs values = ap (λ l. top_call p l (a_dispatch m) (x ∷ xs) u) level ∙ ap (λ q. js_meaning.code_call (js_meaning.below p.program (suc (suc n))) file q (x ∷ xs) u) st.code ∙ dispatch_tells p.program n file home (boxes p) m (st.first ∷ st.others) x xs u (cases_stand (st.first ∷ st.others) st.runs) st.distinct (handed w m vs xs values)

      of_kind : (k : Kind) (v : ir.Value) (x : js.Value) (vs : List ir.Value) (xs : List js.Value) (env : ir.Env) → is_told k ≡ true → is_of u (boxes p) k x ≡ true → is_ancestor p.classes (kind_class k) c ≡ true → IsReceiver w (kind_class k) v x → (v ≡ ir.null → ⊥) → SameValues w (types_referred m.params) vs xs → Sim z.direction (Valued p w env (call_type m.result)) (by_class p z.direction z.low m (kind_class k) v vs env s) (top_call p z.js_low (a_dispatch m) (x ∷ xs) u)
      of_kind k v x vs xs env told of_k below this there values = subst (λ o. Sim z.direction (Valued p w env (call_type m.result)) (by_class p z.direction z.low m (kind_class k) v vs env s) o) (sym (comes_to x vs xs values ∙ r.outcome)) (subst (λ o. Sim z.direction (Valued p w env (call_type m.result)) o (top_call p (js_meaning.below p.program (suc n)) (a_method (member r.case.owner Public m)) (x ∷ xs) u)) (sym (called_on p.classes z.low (ir_meaning.target_in p.classes (Some (kind_class k)) m) v vs env s there)) (subst (λ (q : Kind). Sim z.direction (Valued p w env (call_type m.result)) (ir_meaning.call z.low (ir_meaning.target_in p.classes (Some (kind_class q)) m) (Some v) vs env s) (top_call p (js_meaning.below p.program (suc n)) (a_method (member r.case.owner Public m)) (x ∷ xs) u)) r.kind_is (subst (λ (q : List ℕ). Sim z.direction (Valued p w env (call_type m.result)) (ir_meaning.call z.low (ir_meaning.target_in p.classes (Some (kind_class r.case.kind)) m) (Some v) vs env s) (top_call p (js_meaning.below p.program (suc n)) (a_method (member q Public m)) (x ∷ xs) u)) runs.owner_is (one_less (member (kind_class r.case.kind) Public m) (member runs.its.owner Public m) runs.its.target runs.its.runs w v x vs xs env s u (subst (λ (q : Kind). IsReceiver w (kind_class q) v x) (sym r.kind_is) this) values same))))
        where
          r : Chosen p.program (suc n) home (boxes p) m (st.first ∷ st.others) k x xs (last x xs) u
          r = chosen p.program (suc n) home (boxes p) m (st.first ∷ st.others) k x xs (last x xs) u of_k (st.each k told below)

          runs : CaseRuns p m r.case
          runs = st.runs r.case r.among

      of_object : (i a : ℕ) (cls : List ℕ) (vs : List ir.Value) (xs : List js.Value) (env : ir.Env) → AnObject w cls i a u → SameValues w (types_referred m.params) vs xs → Sim z.direction (Valued p w env (call_type m.result)) (by_class p z.direction z.low m cls (ir.reference i) vs env s) (top_call p z.js_low (a_dispatch m) (js.object a ∷ xs) u)
      of_object i a cls vs xs env o values = subst (λ q. Sim z.direction (Valued p w env (call_type m.result)) (by_class p z.direction z.low m cls (ir.reference i) vs env s) q) (sym (comes_to (js.object a) vs xs values ∙ others_call_methods p.program (suc n) a home (boxes p) m (st.first ∷ st.others) xs (last (js.object a) xs) u (object_apart p w s u same i a o.there) ∙ ap (λ q. call_found p.program (js_meaning.below p.program (suc n)) (js.object a) q xs (js_meaning.function_scope file (dispatch_code m (st.first ∷ st.others)) (js.object a ∷ xs)) u) o.property)) (bridge_alike p z.direction z.low n two_less cls m o.finds w i (js.object a) vs xs env (js_meaning.function_scope file (dispatch_code m (st.first ∷ st.others)) (js.object a ∷ xs)) s u (object_receiver w w cls i a u (grows-refl w) o) values same)

      -- a value of a kind is of the type of the kind's class
      receiver : (k : Kind) (v : ir.Value) (x : js.Value) → is_char (class_type (kind_class k)) ≡ false → Stands w false v x → suits (class_type (kind_class k)) v ≡ true → (v ≡ ir.null → ⊥) → IsReceiver w (kind_class k) v x
      receiver k v x raw a fits there = record { stands = record { stands = subst (λ (b : Bool). Stands w b v x) (sym raw) a; suits = fits; shaped = shaped-class w (kind_class k) v }; there = there }

      kind_by : (k : Kind) (cls : List ℕ) → Some (kind_class k) ≡ Some cls → is_ancestor p.classes cls c ≡ true → is_ancestor p.classes (kind_class k) c ≡ true
      kind_by k cls e below = ap (λ (q : List ℕ). is_ancestor p.classes q c) (some_class (kind_class k) cls e) ∙ below

      at_class : (k : Kind) (cls : List ℕ) → Some (kind_class k) ≡ Some cls → (v : ir.Value) (x : js.Value) (vs : List ir.Value) (xs : List js.Value) (env : ir.Env) → Sim z.direction (Valued p w env (call_type m.result)) (by_class p z.direction z.low m (kind_class k) v vs env s) (top_call p z.js_low (a_dispatch m) (x ∷ xs) u) → Sim z.direction (Valued p w env (call_type m.result)) (by_class p z.direction z.low m cls v vs env s) (top_call p z.js_low (a_dispatch m) (x ∷ xs) u)
      at_class k cls e v x vs xs env h = subst (λ (q : List ℕ). Sim z.direction (Valued p w env (call_type m.result)) (by_class p z.direction z.low m q v vs env s) (top_call p z.js_low (a_dispatch m) (x ∷ xs) u)) (some_class (kind_class k) cls e) h

      pub by_value : (v : ir.Value) (x : js.Value) → Stands w false v x → (cls : List ℕ) → ir_world.class_of_value s v ≡ Some cls → is_ancestor p.classes cls c ≡ true → (vs : List ir.Value) (xs : List js.Value) (env : ir.Env) → SameValues w (types_referred m.params) vs xs → Sim z.direction (Valued p w env (call_type m.result)) (by_class p z.direction z.low m cls v vs env s) (top_call p z.js_low (a_dispatch m) (x ∷ xs) u)
      by_value _ _ same_null cls e below vs xs env values = impossible (cc)
      by_value _ _ (same_char r q f) cls e below vs xs env values = impossible r
      by_value _ _ same_undefined cls e below vs xs env values = at_class kinds.Undefined cls e ir.undefined js.undefined vs xs env (of_kind kinds.Undefined ir.undefined js.undefined vs xs env refl refl (kind_by kinds.Undefined cls e below) (receiver kinds.Undefined ir.undefined js.undefined refl same_undefined refl (λ e. cc)) (λ e. cc) values)
      by_value _ _ (same_boolean b) cls e below vs xs env values = at_class kinds.Boolean cls e (ir.boolean b) (js.boolean b) vs xs env (of_kind kinds.Boolean (ir.boolean b) (js.boolean b) vs xs env refl refl (kind_by kinds.Boolean cls e below) (receiver kinds.Boolean (ir.boolean b) (js.boolean b) refl (same_boolean b) refl (λ e. cc)) (λ e. cc) values)
      by_value _ _ (same_box r q a f b) cls e below vs xs env values = at_class kinds.Char cls e (ir.char q) (js.object a) vs xs env (of_kind kinds.Char (ir.char q) (js.object a) vs xs env refl (box_below p w s u same q a b) (kind_by kinds.Char cls e below) (receiver kinds.Char (ir.char q) (js.object a) refl (same_box r q a f b) refl (λ e. cc)) (λ e. cc) values)
      by_value _ _ (same_number q f) cls e below vs xs env values = at_class kinds.Int cls e (ir.number q) (js.number q) vs xs env (of_kind kinds.Int (ir.number q) (js.number q) vs xs env refl refl (kind_by kinds.Int cls e below) (receiver kinds.Int (ir.number q) (js.number q) refl (same_number q f) refl (λ e. cc)) (λ e. cc) values)
      by_value _ _ (same_long q f) cls e below vs xs env values = at_class kinds.Long cls e (ir.long q) (js.big_int q) vs xs env (of_kind kinds.Long (ir.long q) (js.big_int q) vs xs env refl refl (kind_by kinds.Long cls e below) (receiver kinds.Long (ir.long q) (js.big_int q) refl (same_long q f) refl (λ e. cc)) (λ e. cc) values)
      by_value _ _ (same_text us) cls e below vs xs env values = at_class kinds.Text cls e (ir.text us) (js.text us) vs xs env (of_kind kinds.Text (ir.text us) (js.text us) vs xs env refl refl (kind_by kinds.Text cls e below) (receiver kinds.Text (ir.text us) (js.text us) refl (same_text us) refl (λ e. cc)) (λ e. cc) values)
      by_value _ _ (same_reference i a h) cls e below vs xs env values = of_object i a cls vs xs env (an_object objects w s u same i a h cls e below) values

    pub dispatches_alike : DispatchesAlike z c m
    dispatches_alike w v x one vs xs env s u values same = by_value w s u same v x (subst (λ (b : Bool). Stands w b v x) (class-no-char c) one.stands.stands) one.its.class (told_class p w s u same v one.its.class one.its.told) one.its.below vs xs env values

  -- within a unit or none it is going
  module _ (st : DispatchStands p c m) where
    pub dispatches_going : z.direction ≡ backward → (z.js_low ≡ js_meaning.below p.program 0) ⊎ (z.js_low ≡ js_meaning.below p.program 1) → DispatchesAlike z c m
    dispatches_going back short w v x one vs xs env s u values same = subst (λ d. Sim d (Valued p w env (call_type m.result)) (by_class p z.direction z.low m one.its.class v vs env s) (top_call p z.js_low (a_dispatch m) (x ∷ xs) u)) (sym back) (subst (λ o. Sim backward (Valued p w env (call_type m.result)) (by_class p z.direction z.low m one.its.class v vs env s) o) (sym (goes short)) (sim_going (Valued p w env (call_type m.result)) (by_class p z.direction z.low m one.its.class v vs env s)))
      where
        file : Name
        file = p.home (a_dispatch m)

        called : (l : js_meaning.Low) → top_call p l (a_dispatch m) (x ∷ xs) u ≡ js_meaning.code_call l file (Some (dispatch_code m (st.first ∷ st.others))) (x ∷ xs) u
        called l = ap (λ q. js_meaning.code_call l file q (x ∷ xs) u) st.code

        goes : (z.js_low ≡ js_meaning.below p.program 0) ⊎ (z.js_low ≡ js_meaning.below p.program 1) → top_call p z.js_low (a_dispatch m) (x ∷ xs) u ≡ going
        goes (inl e) = ap (λ l. top_call p l (a_dispatch m) (x ∷ xs) u) e ∙ called (js_meaning.below p.program 0)
        goes (inr e) = ap (λ l. top_call p l (a_dispatch m) (x ∷ xs) u) e ∙ called (js_meaning.below p.program 1) ∙ short_calls_go.dispatch p.program file (λ o. p.home (a_method (member o Public m))) (boxes p) m st.first st.others x xs u (case_stands p m w s u same st.first (st.runs st.first (at_front st.first st.others))) st.distinct (handed w m vs xs values)
