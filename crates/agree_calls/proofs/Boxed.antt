-- An object that holds a char is an instance of the class of such objects, and no other value is one.
use Rattle.std.proofs.Common.{◌≡◌, ℕ, Bool, true, false, ◌&&◌, ◌||◌, List, [], ◌∷◌, map, slice_get, Option, Some, refl, ap, ◌∙◌}
use Rattle.std.specs.Prelude.{codes, pos}
use Rattle.std.proofs.lemmas.Bool.{and_from}
use Rattle.dispatch_laws.specs.Dispatch.{chain_of}
use Rattle.dispatch_laws.specs.States as ir
use Rattle.js_mean.specs.Objects.{is_below, stored_below, is_instance, property, stored_property, or_value, value_on, method_on}
use Rattle.js_mean.specs.Operators.{is_same_class}
use Rattle.js_mean.specs.States as js
use Rattle.js_tree.specs.Terms.{Name}
use Rattle.sj_names.proofs.Same.{impossible, text-refl}
use Rattle.sj_names.specs.Same.{is_same_text}
use Rattle.agree_bodies.specs.Settings.{Place, SameState, SameStored, same_object, same_array, link_of, links_of, box_link, array_link, array_links}
use Rattle.agree_bodies.specs.Worlds.{ArrayAt}
use Rattle.array_code.specs.Words.{object_class}
use Rattle.agree_bodies.proofs.Worlds.{World, IsBox, Stands, same_undefined, same_null, same_boolean, same_char, same_box, same_number, same_long, same_text, same_reference}

-- the value is a char
abbrev pub is_unit : ir.Value → Bool
is_unit (ir.char u) = true
is_unit _ = false

module _ (p : Place) where
  abbrev pub boxes : List js.ClassLink
  boxes = box_link p ∷ []

  pub and-false : (b : Bool) → (b && false) ≡ false
  and-false true = refl
  and-false false = refl

  -- no class of a program is that of objects that hold chars
  links_apart : (cs : List Name) → is_below (map (link_of p) cs) boxes ≡ false
  links_apart [] = refl
  links_apart (c ∷ cs) = ap (λ b. b || is_below (map (link_of p) cs) boxes) (and-false (is_same_text (link_of p c).file (box_link p).file)) ∙ links_apart cs

  arrays_apart : is_below (array_links p) boxes ≡ false
  arrays_apart = ap (λ b. b || is_below (links_of p object_class) boxes) (and-false (is_same_text (array_link p).file (box_link p).file)) ∙ links_apart (chain_of p.classes object_class)

  box_itself : is_same_class (box_link p) (box_link p) ≡ true
  box_itself = and_from (is_same_text (box_link p).file (box_link p).file) (is_same_text (box_link p).name (box_link p).name) (text-refl (box_link p).file) (text-refl (box_link p).name)

  module _ (w : World) (s : ir.State) (u : js.State) (same : SameState p w s u) where
    -- what stands at the address of an object that holds a char
    pub box_there : (c a : ℕ) (b : IsBox w c a) → slice_get u.heap a ≡ Some (js.plain boxes b.properties)
    box_there c a b = same.heaps.owned a (js.plain w.boxes b.properties) b.owned ∙ ap (λ ls. Some (js.plain ls b.properties)) same.heaps.boxes

    -- the char that it holds
    pub unit_held : (c a : ℕ) → IsBox w c a → property p.program u (js.object a) (codes "c") ≡ Some (js.number (pos c))
    unit_held c a b = ap (λ o. stored_property p.program o (codes "c")) (box_there c a b) ∙ ap (λ v. value_on (or_value v (method_on p.program boxes (codes "c"))) (codes "c")) b.char

    pub box_below : (c a : ℕ) → IsBox w c a → stored_below (slice_get u.heap a) boxes ≡ true
    box_below c a b = ap (λ o. stored_below o boxes) (box_there c a b) ∙ ap (λ t. t || false) box_itself

    pub object_apart : (i a : ℕ) → w.place i ≡ Some a → stored_below (slice_get u.heap a) boxes ≡ false
    object_apart i a e = let h = same.heaps.objects i a e in by h.class (w.arrays i) (slice_get s.heap i) (slice_get u.heap a) h.alike
      where
        by : (c : List ℕ) (k : Option ArrayAt) (o : Option ir.Stored) (q : Option js.Stored) → SameStored p w c k o q → stored_below q boxes ≡ false
        by _ _ _ _ (same_object c fields properties told bare fs) = links_apart (chain_of p.classes c)
        by _ _ _ _ (same_array k items properties told bare array) = arrays_apart

    pub told_boxed : (v : ir.Value) (x : js.Value) → Stands w false v x → is_instance u x (js.class boxes) ≡ Some (is_unit v)
    told_boxed _ _ same_undefined = refl
    told_boxed _ _ same_null = refl
    told_boxed _ _ (same_boolean b) = refl
    told_boxed _ _ (same_char r c f) = impossible r
    told_boxed _ _ (same_box r c a f b) = ap Some (box_below c a b)
    told_boxed _ _ (same_number z f) = refl
    told_boxed _ _ (same_long z f) = refl
    told_boxed _ _ (same_text us) = refl
    told_boxed _ _ (same_reference i a e) = ap Some (object_apart i a e)
