-- The tests of classes: that of one that isn't hijacked, by the kinds whose values are instances of it and by its marker, and that of a hijacked one, by its kind.
use Rattle.std.proofs.Common.{◌≡◌, ℕ, zero, suc, Bool, true, false, ◌||◌, ◌&&◌, ◌≤◌, List, [], ◌∷◌, ◌++◌, Contains, slice_get, Option, Some, None, ◌⊎◌, inl, inr, ⊎_elim, refl, sym, ap, ◌∙◌, subst, arith}
use Rattle.std.specs.Prelude.{ℤ, pos, negsuc, int_le, ◌↔◌, is_some, codes, not}
use Rattle.std.proofs.lemmas.List.Elements.{Contains-push, Contains-push_cases, Contains-append_left}
use Rattle.outcomes.specs.Outcome.{Out, done, going}
use Rattle.outcomes.specs.Agreement.{Direction, forward, backward, Sim}
use Rattle.outcomes.proofs.Simulation.{sim_done, sim_going}
use Rattle.agree_bodies.proofs.Lists.{at_front, further_on}
use Rattle.agree_bodies.specs.Standing.{is_bare}
use Rattle.array_code.proofs.Classed.{hijacked_asks}
use Rattle.array_code.proofs.Hijacking.{alone, itself, kind_hijacked, object_fails, passed_is, is_passed}
use Rattle.array_code.proofs.Instanced.{tests_tell_instances, worded_among}
use Rattle.array_code.proofs.Kinded.{null_fails, test_passes}
use Rattle.array_code.proofs.Marked.{class_tests_tell, null_is_no_instance}
use Rattle.array_code.proofs.Shortly.{test_goes}
use Rattle.array_code.proofs.Worldly.{test_tells}
use Rattle.array_code.specs.ClassTestsKinds.{is_of, is_told}
use Rattle.array_code.specs.Hijacked.{number_in}
use Rattle.array_code.specs.Instances.{is_worded}
use Rattle.array_code.specs.Kinds.{KindTestStands, passes}
use Rattle.array_code.specs.Tests.{HasMarker, on_object, on_undefined, on_boolean, on_number, on_big_int, on_text, TestStands, TestsStand, tests_none, tests_more, class_test_code, class_told}
use Rattle.array_code.specs.Words.{object_class, kind_class, worded_kinds}
use Rattle.array_code.specs.Kind.{Kind}
use Rattle.array_code.specs.KindVariants as kinds
use Rattle.dispatch_laws.proofs.AncestorsFound.{ancestors_are_worked_out}
use Rattle.dispatch_laws.specs.Dispatch.{is_ancestor, is_ancestor_of_any, is_small}
use Rattle.dispatch_laws.specs.Meaning as ir_meaning
use Rattle.dispatch_laws.specs.States as ir
use Rattle.dispatch_laws.specs.World.{stored_class}
use Rattle.js_mean.specs.Meaning as js_meaning
use Rattle.js_mean.specs.Objects.{stored_property, or_value, value_on, method_on}
use Rattle.js_mean.specs.States as js
use Rattle.js_tree.specs.Terms.{Name}
use Rattle.array_code.specs.SjEmitClassSpecClasses.{AreInstances}
use Rattle.dispatch_laws.specs.Tests.{test_name}
use Rattle.sj_mangling.specs.Bindings.{class_binding}
use Rattle.sj_mangling.specs.declared.bindings.ClassBinding.TheVariants.{Marker}
use Rattle.sj_names.proofs.Same.{impossible, text-same, text-refl}
use Rattle.sj_names.specs.Same.{is_same_text}
use Rattle.agree_bodies.proofs.Standing.{class-open}
use Rattle.agree_bodies.proofs.Worlds.{World, grows-refl, SameValue, IsBox, Stands, same_undefined, same_null, same_boolean, same_char, same_box, same_number, same_long, same_text, same_reference}
use Rattle.agree_bodies.specs.Settings.{Place, SameStored, same_object, same_array, MarksAncestors, SameState, Valued, valued, links_of, array_links, a_test, top_call}
use Rattle.agree_bodies.specs.Worlds.{ArrayAt}
use Rattle.agree_bodies.specs.AgreePlainTreesStanding.{suits}
use Rattle.sj_trees.specs.declared.types.IrType.TheVariants.{Any, Boolean, Class}
use Rattle.dispatch_laws.specs.Ancestors.{IsAncestor}
use Rattle.array_code.specs.Calls.{IsInstance}
use Rattle.dispatch_laws.specs.Known.{Classes, is_hijacked}
use Rattle.dispatch_laws.specs.SjWorldLaws.{IsPlain}
use Rattle.agree_calls.specs.Helpers.{ReachesTest, ClassTest, by_marker, by_kind}
use Rattle.agree_calls.proofs.Boxed.{boxes, box_there, box_below, object_apart}
use Rattle.agree_calls.proofs.Sameness.{both_pass}
use Rattle.agree_calls.proofs.Testing.{or_false, byte_small, short_small, kind_stands}

-- no numbers are instances by their ranges of a class that isn't hijacked
apart_named : (c n : List ℕ) → is_hijacked c ≡ false → is_hijacked n ≡ true → is_same_text c n ≡ false
apart_named c n free h = go (is_same_text c n) refl
  where
    go : (b : Bool) → is_same_text c n ≡ b → is_same_text c n ≡ false
    go false e = e
    go true e = impossible (sym free ∙ ap is_hijacked (text-same c n e) ∙ h)

no_small : (c : List ℕ) → is_hijacked c ≡ false → (z : ℤ) → is_small z c ≡ false
no_small c free z = λ i. (apart_named c (codes "java.lang.Byte") free refl i && int_le (negsuc 127) z && int_le z (pos 127)) || (apart_named c (codes "java.lang.Short") free refl i && int_le (negsuc 32767) z && int_le z (pos 32767))

-- every value suits a class at whose type objects stand
pub class_suits : (c : List ℕ) → is_bare (Class c) ≡ false → (v : ir.Value) → suits (Class c) v ≡ true
class_suits c wide (ir.char n) = ap not wide
class_suits c wide (ir.reference i) = ap not wide
class_suits c wide _ = refl

worded_told : (k : Kind) → is_worded k ≡ true → is_told k ≡ true
worded_told kinds.Byte h = impossible h
worded_told kinds.Short h = impossible h
worded_told _ h = refl

module _ (classes : Classes) where
  ancestor_tells : (d c : List ℕ) (b : Bool) → (b ≡ true) ↔ IsAncestor classes d c → (is_ancestor classes d c || false) ≡ b
  ancestor_tells d c b h = or_false (is_ancestor classes d c) ∙ both_pass (is_ancestor classes d c) b (λ e. h.1 ((ancestors_are_worked_out classes d c).0 e)) (λ e. (ancestors_are_worked_out classes d c).1 (h.0 e))

  -- an instance that is no number is one by its class
  by_class : (d c : List ℕ) (n : Option ℤ) → n ≡ None → IsInstance classes d n c → IsAncestor classes d c
  by_class d c n none h = go (subst (λ (m : Option ℤ). IsInstance classes d m c) none h)
    where
      go : IsInstance classes d None c → IsAncestor classes d c
      go (inl a) = a
      go (inr small) = absurd small

  -- the kinds whose values are instances are among those that were asked for
  among : (c : List ℕ) (ks ts : List Kind) → AreInstances classes c ks ts → (k : Kind) → Contains ts k → Contains ks k
  among c _ _ AreInstances.none_yet k i = i
  among c _ _ (AreInstances.instance j ks ts h is) k i = ⊎_elim (λ l. Contains-append_left ks (j ∷ []) k (among c ks ts h k l)) (λ e. subst (Contains (ks ++ j ∷ [])) e (Contains-push ks j)) (Contains-push_cases ts j k i)
  among c _ _ (AreInstances.other j ks ts h not) k i = Contains-append_left ks (j ∷ []) k (among c ks ts h k i)

  -- one hijacked class stands above another only where it is that one
  one_above : IsPlain classes → (j k : Kind) → is_ancestor classes (kind_class j) (kind_class k) ≡ is_same_text (kind_class j) (kind_class k)
  one_above plain j k = both_pass (is_ancestor classes (kind_class j) (kind_class k)) (is_same_text (kind_class j) (kind_class k)) (λ e. subst (λ (n : List ℕ). is_same_text n (kind_class k) ≡ true) (sym (alone classes plain (kind_class k) (kind_hijacked k) (kind_class j) ((ancestors_are_worked_out classes (kind_class j) (kind_class k)).0 e))) (text-refl (kind_class k))) (λ e. (ancestors_are_worked_out classes (kind_class j) (kind_class k)).1 (subst (IsAncestor classes (kind_class j)) (text-same (kind_class j) (kind_class k) e) (itself classes plain (kind_class j) (kind_hijacked j))))

-- null on both sides, or on none
pub data Sorted : ir.Value → js.Value → Type 0 where
  both_null : Sorted ir.null js.null
  neither_null : (v : ir.Value) (x : js.Value) → (v ≡ ir.null → ⊥) → (x ≡ js.null → ⊥) → Sorted v x

pub sorted : (w : World) (v : ir.Value) (x : js.Value) → Stands w false v x → Sorted v x
sorted w _ _ same_null = both_null
sorted w _ _ same_undefined = neither_null ir.undefined js.undefined (λ e. cc) (λ e. cc)
sorted w _ _ (same_boolean b) = neither_null (ir.boolean b) (js.boolean b) (λ e. cc) (λ e. cc)
sorted w _ _ (same_char r n f) = impossible r
sorted w _ _ (same_box r n a f b) = neither_null (ir.char n) (js.object a) (λ e. cc) (λ e. cc)
sorted w _ _ (same_number z f) = neither_null (ir.number z) (js.number z) (λ e. cc) (λ e. cc)
sorted w _ _ (same_long z f) = neither_null (ir.long z) (js.big_int z) (λ e. cc) (λ e. cc)
sorted w _ _ (same_text us) = neither_null (ir.text us) (js.text us) (λ e. cc) (λ e. cc)
sorted w _ _ (same_reference i a e) = neither_null (ir.reference i) (js.object a) (λ e. cc) (λ e. cc)

module _ (p : Place) (plain : IsPlain p.classes) (w : World) (s : ir.State) (u : js.State) (same : SameState p w s u) where
  -- a call of the test of a class within these units
  abbrev pub test_call : List ℕ → js.Value → ℕ → Out js.ExpressionEnd
  test_call c x n = top_call p (js_meaning.below p.program n) (a_test (Class c)) (x ∷ []) u

  -- what the IR's test of a class gives, and the test of the emitted code tells, within two units or more; within fewer it tells it too, or is going
  pub record Tells (c : List ℕ) (v : ir.Value) (x : js.Value) : Type 0 where
    pub told : Bool
    pub by_ir : ir_meaning.is_instance_value p.classes (Class c) s v ≡ ir.boolean told
    pub suits_it : told ≡ true → suits (Class c) v ≡ true
    pub without : test_call c x 0 ≡ going
    pub within_one : (test_call c x 1 ≡ going) ⊎ (test_call c x 1 ≡ done (js.gives (js.boolean told) u))
    pub whole : (m : ℕ) → test_call c x (suc (suc m)) ≡ done (js.gives (js.boolean told) u)

  module _ (c : List ℕ) (kinds_told : List Kind) (free : is_hijacked c ≡ false) (are : AreInstances p.classes c worded_kinds kinds_told) where
    -- on a primitive value but a char
    primitive_told : (k : Kind) (x : js.Value) → is_worded k ≡ true → is_of u (boxes p) k x ≡ true → (is_ancestor p.classes (kind_class k) c || false) ≡ class_told u (boxes p) kinds_told x false
    primitive_told k x word of_k = let t = (tests_tell_instances p.classes c kinds_told free are).primitive u (boxes p) k x None word of_k in ancestor_tells p.classes (kind_class k) c (class_told u (boxes p) kinds_told x false) (λ e. by_class p.classes (kind_class k) c None refl (t.0 e), λ a. t.1 (inl a))

    -- on an object, by its constants
    marked_told : (d : List ℕ) (a : ℕ) (constants : Name → Option js.Value) → constants (codes "s") ≡ Some (js.text (class_binding Marker d)) → MarksAncestors p.classes constants → (is_ancestor p.classes d c || false) ≡ class_told u (boxes p) kinds_told (js.object a) (is_some (constants (class_binding Marker c)))
    marked_told d a constants marked marks = ancestor_tells p.classes d c (is_some (constants (class_binding Marker c))) (marks.above d c marked) ∙ sym ((tests_tell_instances p.classes c kinds_told free are).object u (boxes p) a (is_some (constants (class_binding Marker c))))

    -- an object of the IR, by what stands for it
    record ToldObject (a : ℕ) (o : Option ir.Stored) (q : Option js.Stored) : Type 0 where
      address : ℕ
      constants : Name → Option js.Value
      key : stored_property p.program q (codes "k") ≡ Some (js.object address)
      at : slice_get u.heap address ≡ Some (js.plain [] constants)
      by_ir : (is_ancestor_of_any p.classes (stored_class o) c || false) ≡ class_told u (boxes p) kinds_told (js.object a) (is_some (constants (class_binding Marker c)))

    object_told : (a : ℕ) (d : List ℕ) (k : Option ArrayAt) (o : Option ir.Stored) (q : Option js.Stored) → SameStored p w d k o q → ToldObject a o q
    object_told a _ _ _ _ (same_object d fields properties told bare fs) = record {
      address = told.address;
      constants = told.constants;
      key = ap (λ v. value_on (or_value v (method_on p.program (links_of p d) (codes "k"))) (codes "k")) told.held;
      at = same.heaps.owned told.address (js.plain [] told.constants) told.owned;
      by_ir = marked_told d a told.constants told.marked (same.heaps.marked told.address told.constants told.owned);
    }
    object_told a _ _ _ _ (same_array r items properties told bare array) = record {
      address = told.address;
      constants = told.constants;
      key = ap (λ v. value_on (or_value v (method_on p.program (array_links p) (codes "k"))) (codes "k")) told.held;
      at = same.heaps.owned told.address (js.plain [] told.constants) told.owned;
      by_ir = marked_told object_class a told.constants told.marked (same.heaps.marked told.address told.constants told.owned);
    }

    -- whether a value other than null has the marker, and what the IR says
    record Marked (v : ir.Value) (x : js.Value) : Type 0 where
      marked : Bool
      has_it : HasMarker p.program u c x marked
      by_ir : ir_meaning.is_instance_value p.classes (Class c) s v ≡ ir.boolean (class_told u (boxes p) kinds_told x marked)

    box_key : (n a : ℕ) (b : IsBox w n a) → stored_property p.program (slice_get u.heap a) (codes "k") ≡ Some (js.object b.address)
    box_key n a b = ap (λ o. stored_property p.program o (codes "k")) (box_there p w s u same n a b) ∙ ap (λ v. value_on (or_value v (method_on p.program (boxes p) (codes "k"))) (codes "k")) b.held

    marker_of : (v : ir.Value) (x : js.Value) → Stands w false v x → (v ≡ ir.null → ⊥) → Marked v x
    marker_of _ _ same_undefined there = record { marked = false; has_it = on_undefined; by_ir = ap ir.boolean (primitive_told kinds.Undefined js.undefined refl refl) }
    marker_of _ _ same_null there = absurd (there refl)
    marker_of _ _ (same_boolean b) there = record { marked = false; has_it = on_boolean b; by_ir = ap ir.boolean (primitive_told kinds.Boolean (js.boolean b) refl refl) }
    marker_of _ _ (same_char r n f) there = impossible r
    marker_of _ _ (same_box r n a f b) there = record { marked = is_some (b.constants (class_binding Marker c)); has_it = on_object a b.address b.constants (box_key n a b) (same.heaps.owned b.address (js.plain [] b.constants) b.constants_owned); by_ir = ap ir.boolean (marked_told (codes "java.lang.Character") a b.constants b.marked (same.heaps.marked b.address b.constants b.constants_owned)) }
    marker_of _ _ (same_number z f) there = record { marked = false; has_it = on_number z; by_ir = ap ir.boolean (ap (λ (t : Bool). is_ancestor p.classes (codes "java.lang.Integer") c || t) (no_small c free z) ∙ primitive_told kinds.Int (js.number z) refl refl) }
    marker_of _ _ (same_long z f) there = record { marked = false; has_it = on_big_int z; by_ir = ap ir.boolean (primitive_told kinds.Long (js.big_int z) refl refl) }
    marker_of _ _ (same_text us) there = record { marked = false; has_it = on_text us; by_ir = ap ir.boolean (primitive_told kinds.Text (js.text us) refl refl) }
    marker_of _ _ (same_reference i a e) there = let h = same.heaps.objects i a e in let t = object_told a h.class (w.arrays i) (slice_get s.heap i) (slice_get u.heap a) h.alike in record { marked = is_some (t.constants (class_binding Marker c)); has_it = on_object a t.address t.constants t.key t.at; by_ir = ap ir.boolean t.by_ir }

  -- the tests of kinds that the test of a class calls
  tests_stand : (f : Name) (ks : List Kind) → ((k : Kind) → Contains ks k → is_worded k ≡ true) → ((k : Kind) → Contains ks k → ReachesTest p f k) → TestsStand p.program f (boxes p) u ks
  tests_stand f [] words reach = tests_none
  tests_stand f (k ∷ ks) words reach = tests_more k ks (one k (words k (at_front k ks)) (reach k (at_front k ks))) (tests_stand f ks (λ j i. words j (further_on k ks j i)) (λ j i. reach j (further_on k ks j i)))
    where
      one : (k : Kind) → is_worded k ≡ true → ReachesTest p f k → TestStands p.program f (boxes p) u k
      one k word r = let t = kind_stands p w s u same f k r in record { home = t.home; kind_told = worded_told k word; test = t.test; test_is = t.test_is; boxes_stand = t.boxes_stand }

  -- within one unit
  one_unit : (f : Name) (c : List ℕ) (ks : List Kind) (x : js.Value) (b : Bool) → TestsStand p.program f (boxes p) u ks → HasMarker p.program u c x b → (x ≡ js.null → ⊥) → (js_meaning.code_call (js_meaning.below p.program 1) f (Some (class_test_code c ks)) (x ∷ []) u ≡ going) ⊎ (js_meaning.code_call (js_meaning.below p.program 1) f (Some (class_test_code c ks)) (x ∷ []) u ≡ done (js.gives (js.boolean (class_told u (boxes p) ks x b)) u))
  one_unit f c [] x b stand has there = inr (test_tells p.program 0 f (boxes p) u c [] x b stand has)
  one_unit f c (k ∷ ks) x b (tests_more _ _ one rest) has there = inl (test_goes p.program f (boxes p) u c k ks x one there)

  module _ (c : List ℕ) (ks : List Kind) (free : is_hijacked c ≡ false) (are : AreInstances p.classes c worded_kinds ks) (code : js_meaning.code_of p.program (p.home (a_test (Class c))) (test_name (Class c)) ≡ Some (class_test_code c ks)) (reach : (k : Kind) → Contains ks k → ReachesTest p (p.home (a_test (Class c))) k) where
    abbrev file : Name
    file = p.home (a_test (Class c))

    stood : (x : js.Value) (n : ℕ) → test_call c x n ≡ js_meaning.code_call (js_meaning.below p.program n) file (Some (class_test_code c ks)) (x ∷ []) u
    stood x n = ap (λ o. js_meaning.code_call (js_meaning.below p.program n) file o (x ∷ []) u) code

    uses_stand : TestsStand p.program file (boxes p) u ks
    uses_stand = tests_stand file ks (λ k i. worded_among k (among p.classes c worded_kinds ks are k i)) reach

    marker_tells : (v : ir.Value) (x : js.Value) → Stands w false v x → Sorted v x → Tells c v x
    marker_tells _ _ a both_null = record {
      told = false;
      by_ir = refl;
      suits_it = λ h. impossible h;
      without = stood js.null 0;
      within_one = inr (stood js.null 1 ∙ null_is_no_instance p.program 0 file u c ks);
      whole = λ m. stood js.null (suc (suc m)) ∙ null_is_no_instance p.program (suc m) file u c ks;
    }
    marker_tells _ _ a (neither_null v x there jthere) = let t = marker_of c ks free are v x a there in record {
      told = class_told u (boxes p) ks x t.marked;
      by_ir = t.by_ir;
      suits_it = λ h. class_suits c (class-open c free) v;
      without = stood x 0;
      within_one = subst (λ o. (o ≡ going) ⊎ (o ≡ done (js.gives (js.boolean (class_told u (boxes p) ks x t.marked)) u))) (sym (stood x 1)) (one_unit file c ks x t.marked uses_stand t.has_it jthere);
      whole = λ m. stood x (suc (suc m)) ∙ class_tests_tell p.program m file (boxes p) u c ks x t.marked uses_stand t.has_it;
    }

  -- a value of a kind that isn't a number is an instance of the class of a kind where it passes the test of that one
  kind_passes : (j k : Kind) (x : js.Value) → is_told j ≡ true → is_of u (boxes p) j x ≡ true → number_in x ≡ None → (is_ancestor p.classes (kind_class j) (kind_class k) || false) ≡ passes u (boxes p) k x
  kind_passes j k x told of_j none = ancestor_tells p.classes (kind_class j) (kind_class k) (passes u (boxes p) k x) (λ e. by_class p.classes (kind_class j) (kind_class k) (number_in x) none (passed_is p.classes plain u (boxes p) j told k x of_j e), λ a. is_passed p.classes plain u (boxes p) j told k x of_j (inl a))

  number_passes : (z : ℤ) (k : Kind) → (is_same_text (kind_class kinds.Int) (kind_class k) || is_small z (kind_class k)) ≡ passes u (boxes p) k (js.number z)
  number_passes z kinds.Byte = byte_small z
  number_passes z kinds.Short = short_small z
  number_passes z _ = refl

  -- an object of the IR is an instance of no hijacked class
  other_class : (k : Kind) (d : List ℕ) → is_hijacked d ≡ false → (is_ancestor p.classes d (kind_class k) || false) ≡ false
  other_class k d free = ancestor_tells p.classes d (kind_class k) false (λ e. impossible e, λ a. sym free ∙ ap is_hijacked (alone p.classes plain (kind_class k) (kind_hijacked k) d a) ∙ kind_hijacked k)

  object_passes : (k : Kind) (d : List ℕ) (n : Option ArrayAt) (o : Option ir.Stored) (q : Option js.Stored) → is_hijacked d ≡ false → SameStored p w d n o q → (is_ancestor_of_any p.classes (stored_class o) (kind_class k) || false) ≡ false
  object_passes k _ _ _ _ free (same_object d fields properties told bare fs) = other_class k d free
  object_passes k _ _ _ _ free (same_array r items properties told bare array) = other_class k object_class free

  pub hijacked_told : (k : Kind) (v : ir.Value) (x : js.Value) → Stands w false v x → ir_meaning.is_instance_value p.classes (Class (kind_class k)) s v ≡ ir.boolean (passes u (boxes p) k x)
  hijacked_told k _ _ same_undefined = ap ir.boolean (kind_passes kinds.Undefined k js.undefined refl refl refl)
  hijacked_told k _ _ same_null = ap ir.boolean (sym (null_fails u (boxes p) k))
  hijacked_told k _ _ (same_boolean b) = ap ir.boolean (kind_passes kinds.Boolean k (js.boolean b) refl refl refl)
  hijacked_told k _ _ (same_char r n f) = impossible r
  hijacked_told k _ _ (same_box r n a f b) = ap ir.boolean (kind_passes kinds.Char k (js.object a) refl (box_below p w s u same n a b) refl)
  hijacked_told k _ _ (same_number z f) = ap ir.boolean (ap (λ (t : Bool). t || is_small z (kind_class k)) (one_above p.classes plain kinds.Int k) ∙ number_passes z k)
  hijacked_told k _ _ (same_long z f) = ap ir.boolean (kind_passes kinds.Long k (js.big_int z) refl refl refl)
  hijacked_told k _ _ (same_text us) = ap ir.boolean (kind_passes kinds.Text k (js.text us) refl refl refl)
  hijacked_told k _ _ (same_reference i a e) = let h = same.heaps.objects i a e in ap ir.boolean (object_passes k h.class (w.arrays i) (slice_get s.heap i) (slice_get u.heap a) (same.heaps.free i h.class h.told) h.alike ∙ sym (object_fails u (boxes p) k a (object_apart p w s u same i a e)))

  -- what passes the test of a kind suits its class: only a text suits that of texts
  pub hijacked_suits : (k : Kind) (v : ir.Value) (x : js.Value) → Stands w false v x → passes u (boxes p) k x ≡ true → suits (Class (kind_class k)) v ≡ true
  hijacked_suits kinds.Text _ _ (same_char r n f) h = impossible r
  hijacked_suits kinds.Text _ _ (same_box r n a f b) h = impossible h
  hijacked_suits kinds.Text _ _ (same_reference i a e) h = impossible h
  hijacked_suits kinds.Text _ _ _ h = refl
  hijacked_suits kinds.Undefined v x a h = class_suits (kind_class kinds.Undefined) refl v
  hijacked_suits kinds.Boolean v x a h = class_suits (kind_class kinds.Boolean) refl v
  hijacked_suits kinds.Char v x a h = class_suits (kind_class kinds.Char) refl v
  hijacked_suits kinds.Byte v x a h = class_suits (kind_class kinds.Byte) refl v
  hijacked_suits kinds.Short v x a h = class_suits (kind_class kinds.Short) refl v
  hijacked_suits kinds.Int v x a h = class_suits (kind_class kinds.Int) refl v
  hijacked_suits kinds.Long v x a h = class_suits (kind_class kinds.Long) refl v

  pub tells : (c : List ℕ) → ClassTest p c → (v : ir.Value) (x : js.Value) → Stands w false v x → Tells c v x
  tells _ (by_marker c ks free are code reach) v x a = marker_tells c ks free are code reach v x a (sorted w v x a)
  tells _ (by_kind k code reach) v x a = record {
    told = passes u (boxes p) k x;
    by_ir = hijacked_told k v x a;
    suits_it = hijacked_suits k v x a;
    without = ap (λ o. js_meaning.code_call (js_meaning.below p.program 0) file o (x ∷ []) u) code;
    within_one = inl (hijacked_asks p.program 0 file (boxes p) u (kind_class k) k x code stands);
    whole = λ m. hijacked_asks p.program (suc m) file (boxes p) u (kind_class k) k x code stands ∙ test_passes p.program m stands.home (boxes p) u k x stands.boxes_stand;
  }
    where
      file : Name
      file = p.home (a_test (Class (kind_class k)))

      stands : KindTestStands p.program file (boxes p) u k
      stands = kind_stands p w s u same file k reach

  -- it tells, or by the backward half is going
  pub data Comes (d : Direction) (o : Out js.ExpressionEnd) (b : Bool) : Type 0 where
    tells_it : o ≡ done (js.gives (js.boolean b) u) → Comes d o b
    goes_on : d ≡ backward → o ≡ going → Comes d o b

  pub comes : (c : List ℕ) (v : ir.Value) (x : js.Value) (t : Tells c v x) (d : Direction) (n : ℕ) → (d ≡ forward → 2 ≤ n) → Comes d (test_call c x n) t.told
  comes c v x t d (suc (suc m)) enough = tells_it (t.whole m)
  comes c v x t forward zero enough = let l = enough refl in absurd (omega (arith, l))
  comes c v x t forward (suc zero) enough = let l = enough refl in absurd (omega (arith, l))
  comes c v x t backward zero enough = goes_on refl t.without
  comes c v x t backward (suc zero) enough = ⊎_elim (λ g. goes_on refl g) (λ h. tells_it h) t.within_one

  -- a test of a value, and its function
  pub class_tests_alike : (c : List ℕ) → ClassTest p c → (d : Direction) (n : ℕ) → (d ≡ forward → 2 ≤ n) → (env : ir.Env) (v : ir.Value) (x : js.Value) → SameValue w Any v x → Sim d (Valued p w env Boolean) (ir.given (ir_meaning.is_instance_value p.classes (Class c) s v) env s) (test_call c x n)
  class_tests_alike c test d n enough env v x a = by (comes c v x t d n enough)
    where
      t : Tells c v x
      t = tells c test v x a.stands

      by : Comes d (test_call c x n) t.told → Sim d (Valued p w env Boolean) (ir.given (ir_meaning.is_instance_value p.classes (Class c) s v) env s) (test_call c x n)
      by (tells_it is) = subst (λ o. Sim d (Valued p w env Boolean) (ir.given o env s) (test_call c x n)) (sym t.by_ir) (subst (Sim d (Valued p w env Boolean) (done (ir.ends (ir.gives (ir.boolean t.told)) env s))) (sym is) (sim_done d (Valued p w env Boolean) (ir.ends (ir.gives (ir.boolean t.told)) env s) (js.gives (js.boolean t.told) u) (valued w (ir.boolean t.told) (js.boolean t.told) s u (grows-refl w) (record { stands = same_boolean t.told; suits = refl; shaped = tt }) same)))
      by (goes_on back is) = subst (λ q. Sim q (Valued p w env Boolean) (ir.given (ir_meaning.is_instance_value p.classes (Class c) s v) env s) (test_call c x n)) (sym back) (subst (Sim backward (Valued p w env Boolean) (ir.given (ir_meaning.is_instance_value p.classes (Class c) s v) env s)) (sym is) (sim_going (Valued p w env Boolean) (ir.given (ir_meaning.is_instance_value p.classes (Class c) s v) env s)))
