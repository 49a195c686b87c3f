-- Whether a value may be an item of an array: by the IR, and by the helper.
use Rattle.std.proofs.Common.{◌≡◌, ◌≤◌, arith, ℕ, zero, suc, Bool, true, false, ◌||◌, ◌&&◌, List, [], ◌∷◌, Contains, Option, Some, slice_get, refl, sym, ap, ◌∙◌, subst, if◌then◌else◌}
use Rattle.std.proofs.lemmas.Bool.Decides.{nat_tests}
use Rattle.std.specs.Prelude.{pos, negsuc, codes, ◌^◌, ◌-◌, ◌==◌, nat_eq, nat_lt, int_le, is_some}
use Rattle.std.specs.Cmp.Lexicographic.{pointwise}
use Rattle.outcomes.specs.Outcome.{Out, done, going}
use Rattle.outcomes.specs.Agreement.{Direction, forward, backward}
use Rattle.array_code.proofs.Fitted.{classes_tell, deep_fits_tell, flat_fits_tell, short_fits_go}
use Rattle.array_code.proofs.Hijacking.{itself, kind_hijacked}
use Rattle.array_code.specs.ClassTestsKinds.{is_box}
use Rattle.array_code.specs.Codes.{helper_call}
use Rattle.array_code.specs.Covering.{AreConstants}
use Rattle.array_code.specs.Fitting.{class_value, FitsStand}
use Rattle.array_code.specs.HelperVariants.{ClassOf, Fits, Put}
use Rattle.array_code.specs.Kind.{Kind}
use Rattle.array_code.specs.KindVariants as kinds
use Rattle.array_code.specs.Kinds.{passes}
use Rattle.array_code.specs.Words.{object_class, kind_class, worded_kinds}
use Rattle.dispatch_laws.proofs.AncestorsFound.{ancestors_are_worked_out}
use Rattle.dispatch_laws.specs.Ancestors.{IsAncestor, is_object}
use Rattle.dispatch_laws.specs.Dispatch.{chain_of, is_ancestor, is_ancestor_of_any, is_array_below}
use Rattle.dispatch_laws.specs.Known.{Classes}
use Rattle.dispatch_laws.specs.Meaning as ir_meaning
use Rattle.dispatch_laws.specs.SjWorldLaws.{IsPlain}
use Rattle.dispatch_laws.specs.States as ir
use Rattle.dispatch_laws.specs.World as ir_world
use Rattle.js_mean.specs.Meaning as js_meaning
use Rattle.js_mean.specs.Objects.{stored_property, stored_below, or_value, value_on, method_on}
use Rattle.js_mean.specs.States as js
use Rattle.js_tree.specs.Terms.{Name}
use Rattle.agree_bodies.proofs.Boxes.{class-no-char}
use Rattle.agree_bodies.proofs.Worlds.{shaped-class, Stands, same_undefined, same_null, same_boolean, same_char, same_box, same_number, same_long, same_text, same_reference}
use Rattle.agree_bodies.specs.Settings.{Place, SameState, SameStored, same_object, same_array, IsConstantsOf, StandsForBase, array_link, array_links, links_of, a_helper, top_call, setting_helper}
use Rattle.agree_bodies.specs.AgreePlainTreesStanding.{suits}
use Rattle.agree_bodies.specs.Standing.{is_bare, Fits as FitsType, base_fits, array_fits}
use Rattle.agree_bodies.specs.Worlds.{World, ArrayAt, SameValue}
use Rattle.sj_mangling.specs.Bindings.{class_binding}
use Rattle.sj_mangling.specs.declared.bindings.ClassBinding.TheVariants.{Marker}
use Rattle.sj_names.proofs.Same.{impossible, text-same, text-refl}
use Rattle.sj_names.specs.Same.{is_same_text}
use Rattle.sj_names.specs.declared.references.ArrayRef.{ArrayRef}
use Rattle.sj_names.specs.declared.references.BaseRef.{BaseRef}
use Rattle.sj_trees.specs.Types.{class_type, base_type, nested_type, element_type}
use Rattle.sj_trees.specs.declared.types.IrType.{IrType}
use Rattle.sj_trees.specs.declared.types.IrType.TheVariants.{Any, Array, Class}
use Rattle.agree_calls.specs.Arrays.{TellsItems}
use Rattle.agree_calls.specs.Helpers.{HelperStands, helper_code}
use Rattle.agree_calls.proofs.ArraysSeen.{ArraySeen, array_seen}
use Rattle.agree_calls.proofs.ArraySuits.{arrays_suit}
use Rattle.agree_calls.proofs.ArrayTesting.{Told, told_so, still_going, classes_apart, boxes_apart}
use Rattle.agree_calls.proofs.ArrayUses.{undefined_worded, boolean_worded, int_worded, long_worded, text_worded, word_constants, constants_at, classes_there, fits_there}
use Rattle.agree_calls.proofs.Boxed.{boxes, box_there}
use Rattle.agree_calls.proofs.ClassTesting.{class_suits, hijacked_told, hijacked_suits, Sorted, both_null, neither_null, sorted}
use Rattle.agree_calls.proofs.Covering.{covers_is, element_there}
use Rattle.agree_calls.proofs.SameElements.{other_helper, class_put, array_put, one_less}
use Rattle.agree_calls.proofs.SameMarkers.{of_kind, told_by_known}
use Rattle.agree_calls.proofs.Sameness.{both_pass}
use Rattle.agree_calls.proofs.Testing.{or_false}

one_boolean : (a b : Bool) → ir.boolean a ≡ ir.boolean b → a ≡ b
one_boolean a b e = cc

-- what the IR asks of a value other than null
class_stored : (classes : Classes) (c : List ℕ) (s : ir.State) (v : ir.Value) → (v ≡ ir.null → ⊥) → ir_meaning.may_be_stored classes s (Class c) v ≡ ir_world.is_instance classes s v c
class_stored classes c s ir.null there = absurd (there refl)
class_stored classes c s v there = refl

class_tested : (classes : Classes) (c : List ℕ) (s : ir.State) (v : ir.Value) → (v ≡ ir.null → ⊥) → ir_meaning.is_instance_value classes (Class c) s v ≡ ir.boolean (ir_world.is_instance classes s v c)
class_tested classes c s ir.null there = absurd (there refl)
class_tested classes c s v there = refl

array_stored : (classes : Classes) (r : ArrayRef) (s : ir.State) (v : ir.Value) → (v ≡ ir.null → ⊥) → ir_meaning.may_be_stored classes s (Array r) v ≡ ir_world.is_array_value classes s v r
array_stored classes r s ir.null there = absurd (there refl)
array_stored classes r s v there = refl

any_stored : (classes : Classes) (s : ir.State) (v : ir.Value) → ir_meaning.may_be_stored classes s Any v ≡ true
any_stored classes s ir.null = refl
any_stored classes s v = refl

any_suits : (v : ir.Value) → suits Any v ≡ true
any_suits (ir.char n) = refl
any_suits (ir.reference i) = refl
any_suits v = refl

-- a number is an instance of another class than those of small numbers by its own class alone
none_small : (c : List ℕ) → is_same_text c (kind_class kinds.Byte) ≡ false → is_same_text c (kind_class kinds.Short) ≡ false → (v : ir.Value) → ir_world.is_small_number v c ≡ false
none_small c no_byte no_short (ir.number z) = λ i. (no_byte i && int_le (negsuc 127) z && int_le z (pos 127)) || (no_short i && int_le (negsuc 32767) z && int_le z (pos 32767))
none_small c no_byte no_short v = refl

-- the type of items with dimensions
nested_array : (n : ℕ) (b : BaseRef) → nested_type (suc n) b ≡ Array (record { dimensions = suc n; base = b })
nested_array n b = go (suc n == 0) refl
  where
    go : (t : Bool) → (suc n == 0) ≡ t → (if t then base_type b else Array (record { dimensions = suc n; base = b })) ≡ Array (record { dimensions = suc n; base = b })
    go true e = absurd (grind arith)
    go false e = refl

-- the items of an array that stands where one of objects is expected are set by the same helper
base_put : (b c : BaseRef) → base_fits b c ≡ true → setting_helper (base_type b) ≡ Put → setting_helper (base_type c) ≡ Put
base_put (BaseRef.Class b) (BaseRef.Class c) h puts = class_put c
base_put (BaseRef.Class b) c h puts = impossible h
base_put b c h puts = other_helper (sym puts)

nested_put : (n : ℕ) (b : BaseRef) (m : ℕ) (c : BaseRef) → array_fits n b m c ≡ true → setting_helper (nested_type n b) ≡ Put → setting_helper (nested_type m c) ≡ Put
nested_put n b (suc m) c h puts = array_put m c
nested_put zero b zero c h puts = base_put b c h puts
nested_put (suc n) b zero c h puts = impossible h

pub puts_too : (r q : ArrayRef) → 1 ≤ r.dimensions → 1 ≤ q.dimensions → FitsType (Array r) (Array q) → setting_helper (element_type r) ≡ Put → setting_helper (element_type q) ≡ Put
puts_too r q = by r.dimensions q.dimensions
  where
    by : (n m : ℕ) → 1 ≤ n → 1 ≤ m → array_fits n r.base m q.base ≡ true → setting_helper (nested_type (n - 1) r.base) ≡ Put → setting_helper (nested_type (m - 1) q.base) ≡ Put
    by (suc n) (suc m) i j h puts = subst (λ a. setting_helper (nested_type a q.base) ≡ Put) (sym (one_less m)) (nested_put n r.base m q.base h (subst (λ a. setting_helper (nested_type a r.base) ≡ Put) (one_less n) puts))
    by zero m i j h puts = absurd (omega (arith, i))
    by (suc n) zero i j h puts = absurd (omega (arith, j))

short_backward : (d : Direction) (n : ℕ) → (d ≡ forward → 3 ≤ n) → n ≤ 2 → d ≡ backward
short_backward forward n enough few = let l = enough refl in absurd (omega (arith, l, few))
short_backward backward n enough few = refl

module _ (p : Place) (plain : IsPlain p.classes) (w : World) (s : ir.State) (u : js.State) (same : SameState p w s u) (known : (c : List ℕ) (x : js.Value) → IsConstantsOf w.owned c x → IsAncestor p.classes c c) where
  told : (c : List ℕ) (x : js.Value) → IsConstantsOf w.owned c x → is_same_text (class_binding Marker c) (class_binding Marker object_class) ≡ is_same_text c object_class
  told = told_by_known p plain w s u same known

  -- constants have the marker of a class exactly where it stands above their own
  above_marked : (c d : List ℕ) (a : ℕ) (constants : Name → Option js.Value) → w.owned a ≡ Some (js.plain [] constants) → constants (codes "s") ≡ Some (js.text (class_binding Marker c)) → is_some (constants (class_binding Marker d)) ≡ is_ancestor p.classes c d
  above_marked c d a constants owned marked = both_pass (is_some (constants (class_binding Marker d))) (is_ancestor p.classes c d) (λ e. (ancestors_are_worked_out p.classes c d).1 (((same.heaps.marked a constants owned).above c d marked).0 e)) (λ e. ((same.heaps.marked a constants owned).above c d marked).1 ((ancestors_are_worked_out p.classes c d).0 e))

  named_apart : (j : Kind) (c : List ℕ) → is_same_text (class_binding Marker c) (class_binding Marker (kind_class j)) ≡ false → is_same_text c (kind_class j) ≡ false
  named_apart j c h = go (is_same_text c (kind_class j)) refl
    where
      go : (b : Bool) → is_same_text c (kind_class j) ≡ b → is_same_text c (kind_class j) ≡ false
      go false e = e
      go true e = impossible (sym (subst (λ (n : List ℕ). is_same_text (class_binding Marker n) (class_binding Marker (kind_class j)) ≡ false) (text-same c (kind_class j) e) h) ∙ text-refl (class_binding Marker (kind_class j)))

  -- an object of the IR, and the constants of its class
  record OfStored (o : Option ir.Stored) (q : Option js.Stored) : Type 0 where
    class : List ℕ
    is : ir_world.stored_class o ≡ Some class
    address : ℕ
    constants : Name → Option js.Value
    owned : w.owned address ≡ Some (js.plain [] constants)
    marked : constants (codes "s") ≡ Some (js.text (class_binding Marker class))
    above : IsAncestor p.classes class class
    key : stored_property p.program q (codes "k") ≡ Some (js.object address)

  stored_told : (d : List ℕ) (k : Option ArrayAt) (o : Option ir.Stored) (q : Option js.Stored) → SameStored p w d k o q → OfStored o q
  stored_told _ _ _ _ (same_object d fields properties tells bare fs) = record {
    class = d;
    is = refl;
    address = tells.address;
    constants = tells.constants;
    owned = tells.owned;
    marked = tells.marked;
    above = known d (js.object tells.address) (record { address = tells.address; constants = tells.constants; is = refl; owned_there = tells.owned; marked = tells.marked });
    key = ap (λ v. value_on (or_value v (method_on p.program (links_of p d) (codes "k"))) (codes "k")) tells.held;
  }
  stored_told _ _ _ _ (same_array r items properties tells bare array) = record {
    class = object_class;
    is = refl;
    address = tells.address;
    constants = tells.constants;
    owned = tells.owned;
    marked = tells.marked;
    above = known object_class (js.object tells.address) (record { address = tells.address; constants = tells.constants; is = refl; owned_there = tells.owned; marked = tells.marked });
    key = ap (λ v. value_on (or_value v (method_on p.program (array_links p) (codes "k"))) (codes "k")) tells.held;
  }

  module _ (can : TellsItems p) (code : HelperStands p Fits (helper_code Fits)) where
    abbrev home : Name
    home = p.home (a_helper Fits)

    abbrev class_home : Name
    class_home = p.home (a_helper ClassOf)

    abbrev uses : FitsStand p.program home (array_links p) u
    uses = fits_there p w s u same can

    abbrev at : Kind → ℕ
    at = constants_at p w s u same can.classes

    -- a call of the helper
    abbrev pub fits_call : ℕ → js.Value → ℕ → js.Value → Out js.ExpressionEnd
    fits_call n y depth e = top_call p (js_meaning.below p.program n) (a_helper Fits) (y ∷ js.number (pos depth) ∷ e ∷ []) u

    fits_is : (n : ℕ) (y : js.Value) (depth : ℕ) (e : js.Value) → fits_call n y depth e ≡ js_meaning.code_call (js_meaning.below p.program n) home (Some (helper_code Fits)) (y ∷ js.number (pos depth) ∷ e ∷ []) u
    fits_is n y depth e = ap (λ (o : Option js_meaning.Code). js_meaning.code_call (js_meaning.below p.program n) home o (y ∷ js.number (pos depth) ∷ e ∷ []) u) code

    class_is : (n : ℕ) (y : js.Value) → helper_call p.program n class_home ClassOf (y ∷ []) u ≡ js_meaning.code_call (js_meaning.below p.program n) class_home (Some (helper_code ClassOf)) (y ∷ []) u
    class_is n y = ap (λ (o : Option js_meaning.Code). js_meaning.code_call (js_meaning.below p.program n) class_home o (y ∷ []) u) can.class_of.stands

    -- the class of a value other than null, and its constants, which the helper of classes gives
    record OfClass (v : ir.Value) (y : js.Value) : Type 0 where
      class : List ℕ
      is : ir_world.class_of_value s v ≡ Some class
      address : ℕ
      constants : Name → Option js.Value
      owned : w.owned address ≡ Some (js.plain [] constants)
      marked : constants (codes "s") ≡ Some (js.text (class_binding Marker class))
      above : IsAncestor p.classes class class
      given : class_value p.program u (boxes p) at worded_kinds y ≡ Some (js.object address)

    kind_there : (j : Kind) (i : Contains worded_kinds j) (v : ir.Value) (y : js.Value) → ir_world.class_of_value s v ≡ Some (kind_class j) → class_value p.program u (boxes p) at worded_kinds y ≡ Some (js.object (word_constants p w s u same can.classes j i).address) → OfClass v y
    kind_there j i v y is given = let h = word_constants p w s u same can.classes j i in record { class = kind_class j; is = is; address = h.address; constants = h.constants; owned = h.owned_there; marked = h.marked; above = itself p.classes plain (kind_class j) (kind_hijacked j); given = given }

    class_there : (v : ir.Value) (y : js.Value) → Stands w false v y → (v ≡ ir.null → ⊥) → OfClass v y
    class_there _ _ same_undefined there = kind_there kinds.Undefined undefined_worded ir.undefined js.undefined refl (classes_tell.of_undefined p.program u (boxes p) at)
    class_there _ _ same_null there = absurd (there refl)
    class_there _ _ (same_boolean b) there = kind_there kinds.Boolean boolean_worded (ir.boolean b) (js.boolean b) refl (classes_tell.of_boolean p.program u (boxes p) at b)
    class_there _ _ (same_char r n f) there = impossible r
    class_there _ _ (same_box r n a f b) there = record {
      class = kind_class kinds.Char;
      is = refl;
      address = b.address;
      constants = b.constants;
      owned = b.constants_owned;
      marked = b.marked;
      above = itself p.classes plain (kind_class kinds.Char) (kind_hijacked kinds.Char);
      given = classes_tell.of_object p.program u (boxes p) at a ∙ ap (λ o. stored_property p.program o (codes "k")) (box_there p w s u same n a b) ∙ ap (λ v. value_on (or_value v (method_on p.program (boxes p) (codes "k"))) (codes "k")) b.held;
    }
    class_there _ _ (same_number z f) there = kind_there kinds.Int int_worded (ir.number z) (js.number z) refl (classes_tell.of_number p.program u (boxes p) at z)
    class_there _ _ (same_long z f) there = kind_there kinds.Long long_worded (ir.long z) (js.big_int z) refl (classes_tell.of_big_int p.program u (boxes p) at z)
    class_there _ _ (same_text us) there = kind_there kinds.Text text_worded (ir.text us) (js.text us) refl (classes_tell.of_text p.program u (boxes p) at us)
    class_there _ _ (same_reference i a e) there =
        let h = same.heaps.objects i a e in
        let t = stored_told h.class (w.arrays i) (slice_get s.heap i) (slice_get u.heap a) h.alike in
        record { class = t.class; is = t.is; address = t.address; constants = t.constants; owned = t.owned; marked = t.marked; above = t.above; given = classes_tell.of_object p.program u (boxes p) at a ∙ t.key }

    -- the instances of a class other than those of small numbers
    instance_is : (c : List ℕ) (v : ir.Value) (d : List ℕ) → ir_world.class_of_value s v ≡ Some d → is_same_text c (kind_class kinds.Byte) ≡ false → is_same_text c (kind_class kinds.Short) ≡ false → ir_world.is_instance p.classes s v c ≡ is_ancestor p.classes d c
    instance_is c v d is no_byte no_short =
        ap (λ (o : Option (List ℕ)). is_ancestor_of_any p.classes o c || ir_world.is_small_number v c) is
        ∙ ap (λ (b : Bool). is_ancestor p.classes d c || b) (none_small c no_byte no_short v)
        ∙ or_false (is_ancestor p.classes d c)

    -- each value other than null is an instance of the class of all objects
    object_instance : (v : ir.Value) (y : js.Value) → Stands w false v y → (v ≡ ir.null → ⊥) → ir_world.is_instance p.classes s v object_class ≡ true
    object_instance v y a there =
        let t = class_there v y a there in
        instance_is object_class v t.class t.is refl refl ∙ (ancestors_are_worked_out p.classes t.class object_class).1 (record { known = t.above.known; way = is_object refl })

    class_type_stored : (c : List ℕ) (v : ir.Value) (y : js.Value) → Stands w false v y → (v ≡ ir.null → ⊥) → ir_meaning.may_be_stored p.classes s (class_type c) v ≡ ir_world.is_instance p.classes s v c
    class_type_stored c v y a there = go (pointwise nat_eq c (codes "java.lang.Object")) refl
      where
        go : (b : Bool) → pointwise nat_eq c (codes "java.lang.Object") ≡ b → ir_meaning.may_be_stored p.classes s (if b then Any else Class c) v ≡ ir_world.is_instance p.classes s v c
        go true e = any_stored p.classes s v ∙ sym (ap (λ (n : List ℕ). ir_world.is_instance p.classes s v n) (text-same c object_class e) ∙ object_instance v y a there)
        go false e = class_stored p.classes c s v there

    -- items that are arrays
    module _ (m : ℕ) (deep : nat_lt 0 m ≡ true) (small : nat_lt m (2 ^ 31) ≡ true) (b : BaseRef) (e : js.Value) (stands : StandsForBase w.owned b e) where
      abbrev elements : ArrayRef
      elements = record { dimensions = m; base = b }

      abbrev DeepTells : Direction → ℕ → Bool → js.Value → Type 0
      DeepTells d n t y = Told d (fits_call n y (suc m) e) t u

      no_array : (y : js.Value) → is_box u (array_links p) y ≡ false → (d : Direction) (n : ℕ) → (d ≡ forward → 3 ≤ n) → DeepTells d n false y
      no_array y apart d zero enough = still_going (short_backward d 0 enough (omega arith)) (fits_is 0 y (suc m) e)
      no_array y apart d (suc i) enough = told_so (fits_is (suc i) y (suc m) e ∙ deep_fits_tell.of_other p.program i home (array_links p) u y e m uses deep apart)

      an_array : (i a : ℕ) (k : ArrayAt) → w.place i ≡ Some a → w.arrays i ≡ Some k → (d : Direction) (n : ℕ) → (d ≡ forward → 3 ≤ n) → DeepTells d n (is_array_below p.classes k.kind elements) (js.object a)
      an_array i a k there is d n enough = by n enough
        where
          seen : ArraySeen p w s u i a k
          seen = array_seen p w s u same i a k there is

          by : (n : ℕ) → (d ≡ forward → 3 ≤ n) → DeepTells d n (is_array_below p.classes k.kind elements) (js.object a)
          by zero enough = still_going (short_backward d 0 enough (omega arith)) (fits_is 0 (js.object a) (suc m) e)
          by (suc zero) enough = still_going (short_backward d 1 enough (omega arith)) (fits_is 1 (js.object a) (suc m) e ∙ short_fits_go.of_array p.program home (array_link p) (links_of p object_class) u a k.kind.dimensions seen.base k.items seen.items e m uses deep small seen.shown)
          by (suc (suc j)) enough = told_so (fits_is (suc (suc j)) (js.object a) (suc m) e ∙ deep_fits_tell.of_array p.program j home (array_link p) (links_of p object_class) u a k.kind.dimensions seen.base k.items seen.items e m uses deep small seen.shown (element_there p w s u same known told k.kind.base seen.base seen.stands) (element_there p w s u same known told b e stands) ∙ ap (λ t. done (js.gives (js.boolean t) u)) (covers_is p w s u same known told k.kind elements seen.base e seen.stands stands))

      reference_there : (i a : ℕ) → w.place i ≡ Some a → (d : Direction) (n : ℕ) → (d ≡ forward → 3 ≤ n) → DeepTells d n (ir_world.is_array p.classes (slice_get s.heap i) elements) (js.object a)
      reference_there i a there d n enough = let h = same.heaps.objects i a there in by h.class (w.arrays i) (slice_get s.heap i) (slice_get u.heap a) refl refl h.alike
        where
          by : (c : List ℕ) (k : Option ArrayAt) (o : Option ir.Stored) (q : Option js.Stored) → w.arrays i ≡ k → slice_get u.heap a ≡ q → SameStored p w c k o q → DeepTells d n (ir_world.is_array p.classes o elements) (js.object a)
          by c _ _ _ is q (same_object _ fields properties tells bare fs) = no_array (js.object a) (ap (λ o. stored_below o (array_links p)) q ∙ classes_apart p (chain_of p.classes c)) d n enough
          by _ _ _ _ is q (same_array k items properties tells bare array) = an_array i a k there is d n enough

      deep_told : (v : ir.Value) (y : js.Value) → Stands w false v y → (d : Direction) (n : ℕ) → (d ≡ forward → 3 ≤ n) → DeepTells d n (ir_world.is_array_value p.classes s v elements) y
      deep_told _ _ same_undefined d n enough = no_array js.undefined refl d n enough
      deep_told _ _ same_null d n enough = no_array js.null refl d n enough
      deep_told _ _ (same_boolean t) d n enough = no_array (js.boolean t) refl d n enough
      deep_told _ _ (same_char r c f) d n enough = impossible r
      deep_told _ _ (same_box r c a f x) d n enough = no_array (js.object a) (ap (λ o. stored_below o (array_links p)) (box_there p w s u same c a x) ∙ boxes_apart p) d n enough
      deep_told _ _ (same_number z f) d n enough = no_array (js.number z) refl d n enough
      deep_told _ _ (same_long z f) d n enough = no_array (js.big_int z) refl d n enough
      deep_told _ _ (same_text us) d n enough = no_array (js.text us) refl d n enough
      deep_told _ _ (same_reference i a there) d n enough = reference_there i a there d n enough

    -- items of a class
    module _ (c : List ℕ) (e : js.Value) (k : IsConstantsOf w.owned c e) where
      abbrev FlatTells : Direction → ℕ → Bool → js.Value → Type 0
      FlatTells d n t y = Told d (fits_call n y 1 e) t u

      are : AreConstants u k.address c k.constants
      are = record { stored = same.heaps.owned k.address (js.plain [] k.constants) k.owned_there; marker_is = k.marked }

      as_kind : (j : Kind) → is_same_text (class_binding Marker c) (class_binding Marker (kind_class j)) ≡ true → AreConstants u k.address (kind_class j) k.constants
      as_kind j h = record { stored = same.heaps.owned k.address (js.plain [] k.constants) k.owned_there; marker_is = k.marked ∙ ap (λ (m : Name). Some (js.text m)) (text-same (class_binding Marker c) (class_binding Marker (kind_class j)) h) }

      call_is : (n : ℕ) (y : js.Value) → fits_call n y 1 e ≡ js_meaning.code_call (js_meaning.below p.program n) home (Some (helper_code Fits)) (y ∷ js.number (pos 1) ∷ js.object k.address ∷ []) u
      call_is n y = fits_is n y 1 e ∙ ap (λ (x : js.Value). js_meaning.code_call (js_meaning.below p.program n) home (Some (helper_code Fits)) (y ∷ js.number (pos 1) ∷ x ∷ []) u) k.is

      -- bytes and shorts
      kind_instance : (j : Kind) → is_same_text (class_binding Marker c) (class_binding Marker (kind_class j)) ≡ true → (v : ir.Value) (y : js.Value) → Stands w false v y → (v ≡ ir.null → ⊥) → passes u (boxes p) j y ≡ ir_world.is_instance p.classes s v c
      kind_instance j h v y a there = one_boolean (passes u (boxes p) j y) (ir_world.is_instance p.classes s v c) (sym (hijacked_told p plain w s u same j v y a) ∙ class_tested p.classes (kind_class j) s v there ∙ ap (λ (n : List ℕ). ir.boolean (ir_world.is_instance p.classes s v n)) (sym (of_kind p plain w s u same j c e k h)))

      byte_told : is_same_text (class_binding Marker c) (class_binding Marker (kind_class kinds.Byte)) ≡ true → (y : js.Value) (d : Direction) (n : ℕ) → (d ≡ forward → 3 ≤ n) → FlatTells d n (passes u (boxes p) kinds.Byte y) y
      byte_told h y d zero enough = still_going (short_backward d 0 enough (omega arith)) (call_is 0 y)
      byte_told h y d (suc zero) enough = still_going (short_backward d 1 enough (omega arith)) (call_is 1 y ∙ short_fits_go.of_byte p.program home (array_links p) u y k.address k.constants uses (as_kind kinds.Byte h))
      byte_told h y d (suc (suc i)) enough = told_so (call_is (suc (suc i)) y ∙ flat_fits_tell.of_byte p.program i home (array_links p) u y k.address k.constants uses (as_kind kinds.Byte h))

      short_told : is_same_text (class_binding Marker c) (class_binding Marker (kind_class kinds.Short)) ≡ true → (y : js.Value) (d : Direction) (n : ℕ) → (d ≡ forward → 3 ≤ n) → FlatTells d n (passes u (boxes p) kinds.Short y) y
      short_told h y d zero enough = still_going (short_backward d 0 enough (omega arith)) (call_is 0 y)
      short_told h y d (suc zero) enough = still_going (short_backward d 1 enough (omega arith)) (call_is 1 y ∙ short_fits_go.of_short p.program home (array_links p) u y k.address k.constants uses (as_kind kinds.Short h))
      short_told h y d (suc (suc i)) enough = told_so (call_is (suc (suc i)) y ∙ flat_fits_tell.of_short p.program i home (array_links p) u y k.address k.constants uses (as_kind kinds.Short h))

      -- any other class, by its marker
      module _ (no_byte : is_same_text (class_binding Marker c) (class_binding Marker (kind_class kinds.Byte)) ≡ false) (no_short : is_same_text (class_binding Marker c) (class_binding Marker (kind_class kinds.Short)) ≡ false) where
        asked : (n : ℕ) (y : js.Value) → helper_call p.program n class_home ClassOf (y ∷ []) u ≡ going → fits_call (suc n) y 1 e ≡ going
        asked n y h = call_is (suc n) y ∙ short_fits_go.of_class p.program n home (array_links p) u y k.address c k.constants uses are no_byte no_short h

        class_told : (v : ir.Value) (y : js.Value) → Stands w false v y → (v ≡ ir.null → ⊥) → (d : Direction) (n : ℕ) → (d ≡ forward → 3 ≤ n) → FlatTells d n (ir_world.is_instance p.classes s v c) y
        class_told v y a there d zero enough = still_going (short_backward d 0 enough (omega arith)) (call_is 0 y)
        class_told v y a there d (suc zero) enough = still_going (short_backward d 1 enough (omega arith)) (asked 0 y (class_is 0 y))
        class_told v y a there d (suc (suc zero)) enough = still_going (short_backward d 2 enough (omega arith)) (asked 1 y (class_is 1 y ∙ classes_tell.within_1 p.program class_home (boxes p) u at y (classes_there p w s u same can.classes)))
        class_told v y a there d (suc (suc (suc i))) enough =
            let t = class_there v y a there in
            let told_by : is_some (t.constants (class_binding Marker c)) ≡ ir_world.is_instance p.classes s v c = above_marked t.class c t.address t.constants t.owned t.marked ∙ sym (instance_is c v t.class t.is (named_apart kinds.Byte c no_byte) (named_apart kinds.Short c no_short)) in
            let class_given : helper_call p.program (suc (suc i)) class_home ClassOf (y ∷ []) u ≡ done (js.gives (js.object t.address) u) = class_is (suc (suc i)) y ∙ classes_tell.tells p.program i class_home (boxes p) u at y (js.object t.address) (classes_there p w s u same can.classes) t.given in
            told_so (call_is (suc (suc (suc i))) y ∙ flat_fits_tell.of_class p.program (suc (suc i)) home (array_links p) u y k.address c k.constants t.address t.class t.constants uses are no_byte no_short class_given (record { stored = same.heaps.owned t.address (js.plain [] t.constants) t.owned; marker_is = t.marked }) ∙ ap (λ (b : Bool). done (js.gives (js.boolean b) u)) told_by)

      flat_told : (v : ir.Value) (y : js.Value) → Stands w false v y → (v ≡ ir.null → ⊥) → (d : Direction) (n : ℕ) → (d ≡ forward → 3 ≤ n) → FlatTells d n (ir_world.is_instance p.classes s v c) y
      flat_told v y a there d n enough = by (is_same_text (class_binding Marker c) (class_binding Marker (kind_class kinds.Byte))) (is_same_text (class_binding Marker c) (class_binding Marker (kind_class kinds.Short))) refl refl
        where
          by : (b t : Bool) → is_same_text (class_binding Marker c) (class_binding Marker (kind_class kinds.Byte)) ≡ b → is_same_text (class_binding Marker c) (class_binding Marker (kind_class kinds.Short)) ≡ t → FlatTells d n (ir_world.is_instance p.classes s v c) y
          by true t h l = subst (λ (q : Bool). FlatTells d n q y) (kind_instance kinds.Byte h v y a there) (byte_told h y d n enough)
          by false true h l = subst (λ (q : Bool). FlatTells d n q y) (kind_instance kinds.Short l v y a there) (short_told l y d n enough)
          by false false h l = class_told h l v y a there d n enough

    -- what the helper tells of a value other than null
    pub fits_comes : (k : ArrayRef) (e : js.Value) → StandsForBase w.owned k.base e → 1 ≤ k.dimensions → k.dimensions ≤ 255 → setting_helper (element_type k) ≡ Put → (v : ir.Value) (y : js.Value) → Stands w false v y → (v ≡ ir.null → ⊥) → (d : Direction) (n : ℕ) → (d ≡ forward → 3 ≤ n) → Told d (fits_call n y k.dimensions e) (ir_meaning.may_be_stored p.classes s (element_type k) v) u
    fits_comes k e stands dims few puts v y a there d n enough = by k.dimensions dims few k.base stands puts
      where
        flat : (b : BaseRef) → StandsForBase w.owned b e → setting_helper (base_type b) ≡ Put → Told d (fits_call n y 1 e) (ir_meaning.may_be_stored p.classes s (base_type b) v) u
        flat (BaseRef.Class c) stands puts = subst (λ (q : Bool). Told d (fits_call n y 1 e) q u) (sym (class_type_stored c v y a there)) (flat_told c e stands v y a there d n enough)
        flat b stands puts = other_helper (sym puts)

        nested : (m : ℕ) → suc m ≤ 255 → (b : BaseRef) → StandsForBase w.owned b e → setting_helper (nested_type m b) ≡ Put → Told d (fits_call n y (suc m) e) (ir_meaning.may_be_stored p.classes s (nested_type m b) v) u
        nested zero few b stands puts = flat b stands puts
        nested (suc m) few b stands puts =
            let deep : nat_lt 0 (suc m) ≡ true = grind (arith, nat_tests) in
            let small : nat_lt (suc m) (2 ^ 31) ≡ true = grind (arith, nat_tests, few) in
            subst (λ (t : IrType). Told d (fits_call n y (suc (suc m)) e) (ir_meaning.may_be_stored p.classes s t v) u) (sym (nested_array m b))
            (subst (λ (q : Bool). Told d (fits_call n y (suc (suc m)) e) q u) (sym (array_stored p.classes (record { dimensions = suc m; base = b }) s v there)) (deep_told (suc m) deep small b e stands v y a d n enough))

        by : (m : ℕ) → 1 ≤ m → m ≤ 255 → (b : BaseRef) → StandsForBase w.owned b e → setting_helper (nested_type (m - 1) b) ≡ Put → Told d (fits_call n y m e) (ir_meaning.may_be_stored p.classes s (nested_type (m - 1) b) v) u
        by (suc m) i few b stands puts = subst (λ (q : ℕ). Told d (fits_call n y (suc m) e) (ir_meaning.may_be_stored p.classes s (nested_type q b) v) u) (sym (one_less m)) (nested m few b stands (subst (λ (q : ℕ). setting_helper (nested_type q b) ≡ Put) (one_less m) puts))
        by zero i few b stands puts = absurd (omega (arith, i))

  -- a value that may be an item stands for it at the type of the items
  text_kind : (v : ir.Value) (y : js.Value) → Stands w false v y → ir_meaning.may_be_stored p.classes s (Class (kind_class kinds.Text)) v ≡ true → suits (Class (kind_class kinds.Text)) v ≡ true
  text_kind v y a h = by v y a (sorted w v y a) h
    where
      by : (v : ir.Value) (y : js.Value) → Stands w false v y → Sorted v y → ir_meaning.may_be_stored p.classes s (Class (kind_class kinds.Text)) v ≡ true → suits (Class (kind_class kinds.Text)) v ≡ true
      by _ _ a both_null h = refl
      by _ _ a (neither_null v y there jthere) h = hijacked_suits p plain w s u same kinds.Text v y a (one_boolean (passes u (boxes p) kinds.Text y) true (sym (hijacked_told p plain w s u same kinds.Text v y a) ∙ class_tested p.classes (kind_class kinds.Text) s v there ∙ ap ir.boolean (sym (class_stored p.classes (kind_class kinds.Text) s v there) ∙ h)))

  class_kind : (c : List ℕ) (v : ir.Value) (y : js.Value) → Stands w false v y → ir_meaning.may_be_stored p.classes s (Class c) v ≡ true → suits (Class c) v ≡ true
  class_kind c v y a h = go (is_bare (Class c)) refl
    where
      go : (b : Bool) → is_bare (Class c) ≡ b → suits (Class c) v ≡ true
      go false e = class_suits c e v
      go true e = let is : c ≡ kind_class kinds.Text = text-same c (kind_class kinds.Text) e in subst (λ (n : List ℕ). suits (Class n) v ≡ true) (sym is) (text_kind v y a (subst (λ (n : List ℕ). ir_meaning.may_be_stored p.classes s (Class n) v ≡ true) is h))

  class_type_value : (c : List ℕ) (v : ir.Value) (y : js.Value) → Stands w false v y → ir_meaning.may_be_stored p.classes s (class_type c) v ≡ true → SameValue w (class_type c) v y
  class_type_value c v y a h = record { stands = subst (λ (b : Bool). Stands w b v y) (sym (class-no-char c)) a; suits = go (pointwise nat_eq c (codes "java.lang.Object")) h; shaped = shaped-class w c v }
    where
      go : (b : Bool) → ir_meaning.may_be_stored p.classes s (if b then Any else Class c) v ≡ true → suits (if b then Any else Class c) v ≡ true
      go true h = any_suits v
      go false h = class_kind c v y a h

  array_value : (r : ArrayRef) (v : ir.Value) (y : js.Value) → Stands w false v y → ir_meaning.may_be_stored p.classes s (Array r) v ≡ true → SameValue w (Array r) v y
  array_value r v y a h = by v y a (sorted w v y a) h
    where
      by : (v : ir.Value) (y : js.Value) → Stands w false v y → Sorted v y → ir_meaning.may_be_stored p.classes s (Array r) v ≡ true → SameValue w (Array r) v y
      by _ _ a both_null h = record { stands = same_null; suits = refl; shaped = tt }
      by _ _ a (neither_null v y there jthere) h = let suit = arrays_suit p plain w s u same r v y a (sym (array_stored p.classes r s v there) ∙ h) in record { stands = a; suits = suit.0; shaped = suit.1 }

  pub item_value : (k : ArrayRef) → 1 ≤ k.dimensions → setting_helper (element_type k) ≡ Put → (v : ir.Value) (y : js.Value) → Stands w false v y → ir_meaning.may_be_stored p.classes s (element_type k) v ≡ true → SameValue w (element_type k) v y
  item_value k dims puts v y a h = by k.dimensions dims k.base puts h
    where
      flat : (b : BaseRef) → setting_helper (base_type b) ≡ Put → ir_meaning.may_be_stored p.classes s (base_type b) v ≡ true → SameValue w (base_type b) v y
      flat (BaseRef.Class c) puts h = class_type_value c v y a h
      flat b puts h = other_helper (sym puts)

      nested : (m : ℕ) (b : BaseRef) → setting_helper (nested_type m b) ≡ Put → ir_meaning.may_be_stored p.classes s (nested_type m b) v ≡ true → SameValue w (nested_type m b) v y
      nested zero b puts h = flat b puts h
      nested (suc m) b puts h = subst (λ (t : IrType). SameValue w t v y) (sym (nested_array m b)) (array_value (record { dimensions = suc m; base = b }) v y a (subst (λ (t : IrType). ir_meaning.may_be_stored p.classes s t v ≡ true) (nested_array m b) h))

      by : (m : ℕ) → 1 ≤ m → (b : BaseRef) → setting_helper (nested_type (m - 1) b) ≡ Put → ir_meaning.may_be_stored p.classes s (nested_type (m - 1) b) v ≡ true → SameValue w (nested_type (m - 1) b) v y
      by (suc m) i b puts h = subst (λ (q : ℕ). SameValue w (nested_type q b) v y) (sym (one_less m)) (nested m b (subst (λ (q : ℕ). setting_helper (nested_type q b) ≡ Put) (one_less m) puts) (subst (λ (q : ℕ). ir_meaning.may_be_stored p.classes s (nested_type q b) v ≡ true) (one_less m) h))
      by zero i b puts h = absurd (omega (arith, i))
