-- Whether a value is an array of a type: by the IR, and by the helper.
use Rattle.std.proofs.Common.{◌≡◌, ℕ, suc, Bool, false, ◌||◌, List, [], ◌∷◌, Option, Some, map, slice_get, refl, sym, ap, ◌∙◌, subst}
use Rattle.outcomes.specs.Outcome.{Out, done, going}
use Rattle.outcomes.specs.Agreement.{Direction, backward, Sim}
use Rattle.outcomes.proofs.Simulation.{sim_done}
use Rattle.array_code.proofs.Tested.{array_tests_tell}
use Rattle.array_code.specs.ArrayTests.{ArrayTestStands}
use Rattle.array_code.specs.ClassTestsKinds.{is_box}
use Rattle.array_code.specs.HelperVariants.{TestOfArray}
use Rattle.array_code.specs.Words.{object_class}
use Rattle.dispatch_laws.specs.Ancestors.{IsAncestor}
use Rattle.dispatch_laws.specs.Dispatch.{is_array_below}
use Rattle.dispatch_laws.specs.Known.{Classes}
use Rattle.dispatch_laws.specs.Meaning as ir_meaning
use Rattle.dispatch_laws.specs.States as ir
use Rattle.dispatch_laws.specs.World as ir_world
use Rattle.js_mean.specs.Objects.{is_below, stored_below}
use Rattle.js_mean.specs.Meaning as js_meaning
use Rattle.js_mean.specs.States as js
use Rattle.js_tree.specs.Terms.{Name}
use Rattle.sj_names.proofs.Same.{impossible}
use Rattle.sj_names.specs.Same.{is_same_text}
use Rattle.sj_names.specs.declared.references.ArrayRef.{ArrayRef}
use Rattle.dispatch_laws.specs.Dispatch.{chain_of}
use Rattle.agree_bodies.specs.Settings.{Place, SameStored, same_object, same_array, SameState, IsConstantsOf, StandsForBase, array_link, array_links, box_link, link_of, links_of, depth_of, Valued, valued, a_test, top_call}
use Rattle.agree_bodies.specs.Worlds.{World, ArrayAt, SameValue}
use Rattle.agree_bodies.proofs.Worlds.{grows-refl, Stands, same_undefined, same_null, same_boolean, same_char, same_box, same_number, same_long, same_text, same_reference}
use Rattle.sj_mangling.specs.Bindings.{class_binding}
use Rattle.sj_mangling.specs.declared.bindings.ClassBinding.TheVariants.{Marker}
use Rattle.sj_trees.specs.declared.types.IrType.TheVariants.{Any, Array, Boolean}
use Rattle.agree_calls.specs.Helpers.{helper_code}
use Rattle.agree_calls.proofs.ArraysSeen.{ArraySeen, array_seen}
use Rattle.agree_calls.proofs.Boxed.{boxes, box_there, and-false}
use Rattle.agree_calls.proofs.Covering.{covers_is, element_there}

-- a call tells this, or by the backward half is going
pub data Told (d : Direction) (o : Out js.ExpressionEnd) (b : Bool) (u : js.State) : Type 0 where
  told_so : o ≡ done (js.gives (js.boolean b) u) → Told d o b u
  still_going : d ≡ backward → o ≡ going → Told d o b u

pub array_tested : (classes : Classes) (r : ArrayRef) (s : ir.State) (v : ir.Value) → ir_meaning.is_instance_value classes (Array r) s v ≡ ir.boolean (ir_world.is_array_value classes s v r)
array_tested classes r s ir.null = refl
array_tested classes r s v = refl

module _ (p : Place) where
  -- no class of a program is that of arrays, nor is that of objects that hold chars
  pub classes_apart : (cs : List Name) → is_below (map (link_of p) cs) (array_links p) ≡ false
  classes_apart [] = refl
  classes_apart (c ∷ cs) = ap (λ b. b || is_below (map (link_of p) cs) (array_links p)) (and-false p (is_same_text (link_of p c).file (array_link p).file)) ∙ classes_apart cs

  pub boxes_apart : is_below (boxes p) (array_links p) ≡ false
  boxes_apart = ap (λ b. b || false) (and-false p (is_same_text (box_link p).file (array_link p).file))

  module _ (d : Direction) (n : ℕ) (r : ArrayRef) (w : World) (env : ir.Env) (s : ir.State) (u : js.State) (base : js.Value) (stands : StandsForBase w.owned r.base base) (same : SameState p w s u) (known : (c : List ℕ) (x : js.Value) → IsConstantsOf w.owned c x → IsAncestor p.classes c c) (told : (c : List ℕ) (x : js.Value) → IsConstantsOf w.owned c x → is_same_text (class_binding Marker c) (class_binding Marker object_class) ≡ is_same_text c object_class) (uses : ArrayTestStands p.program (p.home (a_test (Array r))) (array_links p) u) (code : (vs : List js.Value) (low : js_meaning.Low) → top_call p low (a_test (Array r)) vs u ≡ js_meaning.code_call low (p.home (a_test (Array r))) (Some (helper_code TestOfArray)) vs u) where
    abbrev calls : js.Value → Out js.ExpressionEnd
    calls x = top_call p (js_meaning.below p.program (suc (suc n))) (a_test (Array r)) (x ∷ depth_of r ∷ base ∷ []) u

    abbrev Decides : Bool → js.Value → Type 0
    Decides b x = calls x ≡ done (js.gives (js.boolean b) u)

    other : (x : js.Value) → is_box u (array_links p) x ≡ false → Decides false x
    other x apart = code (x ∷ depth_of r ∷ base ∷ []) (js_meaning.below p.program (suc (suc n))) ∙ array_tests_tell.of_other p.program (suc n) (p.home (a_test (Array r))) (array_links p) u x (depth_of r) base uses apart

    an_array : (i a : ℕ) (k : ArrayAt) → w.place i ≡ Some a → w.arrays i ≡ Some k → Decides (is_array_below p.classes k.kind r) (js.object a)
    an_array i a k there is =
        let seen : ArraySeen p w s u i a k = array_seen p w s u same i a k there is in
        code (js.object a ∷ depth_of r ∷ base ∷ []) (js_meaning.below p.program (suc (suc n))) ∙ array_tests_tell.of_array p.program n (p.home (a_test (Array r))) (array_link p) (links_of p object_class) u a k.kind.dimensions seen.base k.items seen.items r.dimensions base uses seen.shown (element_there p w s u same known told k.kind.base seen.base seen.stands) (element_there p w s u same known told r.base base stands) ∙ ap (λ b. done (js.gives (js.boolean b) u)) (covers_is p w s u same known told k.kind r seen.base base seen.stands stands)

    reference_there : (i a : ℕ) → w.place i ≡ Some a → Decides (ir_world.is_array p.classes (slice_get s.heap i) r) (js.object a)
    reference_there i a there = let h = same.heaps.objects i a there in by h.class (w.arrays i) (slice_get s.heap i) (slice_get u.heap a) refl refl h.alike
      where
        by : (c : List ℕ) (k : Option ArrayAt) (o : Option ir.Stored) (q : Option js.Stored) → w.arrays i ≡ k → slice_get u.heap a ≡ q → SameStored p w c k o q → Decides (ir_world.is_array p.classes o r) (js.object a)
        by c _ _ _ is q (same_object _ fields properties told bare fs) = other (js.object a) (ap (λ o. stored_below o (array_links p)) q ∙ classes_apart (chain_of p.classes c))
        by _ _ _ _ is q (same_array k items properties told bare tells) = an_array i a k there is

    -- what the helper comes to
    pub decided : (v : ir.Value) (x : js.Value) → Stands w false v x → Decides (ir_world.is_array_value p.classes s v r) x
    decided _ _ same_undefined = other js.undefined refl
    decided _ _ same_null = other js.null refl
    decided _ _ (same_boolean b) = other (js.boolean b) refl
    decided _ _ (same_char e c f) = impossible e
    decided _ _ (same_box e c a f b) = other (js.object a) (ap (λ o. stored_below o (array_links p)) (box_there p w s u same c a b) ∙ boxes_apart)
    decided _ _ (same_number z f) = other (js.number z) refl
    decided _ _ (same_long z f) = other (js.big_int z) refl
    decided _ _ (same_text us) = other (js.text us) refl
    decided _ _ (same_reference i a there) = reference_there i a there

    -- the test of a type of arrays, and the helper
    pub tests_alike : (v : ir.Value) (x : js.Value) → SameValue w Any v x → Sim d (Valued p w env Boolean) (ir.given (ir_meaning.is_instance_value p.classes (Array r) s v) env s) (calls x)
    tests_alike v x a =
        let b = ir_world.is_array_value p.classes s v r in
        subst (λ (y : ir.Value). Sim d (Valued p w env Boolean) (ir.given y env s) (calls x)) (sym (array_tested p.classes r s v))
        (subst (Sim d (Valued p w env Boolean) (ir.given (ir.boolean b) env s)) (sym (decided v x a.stands)) (sim_done d (Valued p w env Boolean) (ir.ends (ir.gives (ir.boolean b)) env s) (js.gives (js.boolean b) u) (valued w (ir.boolean b) (js.boolean b) s u (grows-refl w) (record { stands = same_boolean b; suits = refl; shaped = tt }) same)))
