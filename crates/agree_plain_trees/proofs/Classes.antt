-- What the states tell of an object at an address of the world: its class, as the world tells it, and what stands there on both sides.
use Rattle.std.proofs.Common.{◌≡◌, ℕ, false, List, slice_get, Option, Some, refl, sym, ◌∙◌, subst}
use Rattle.ir_mean.specs.Known.{is_hijacked}
use Rattle.ir_mean.specs.States as ir
use Rattle.js_mean.specs.States as js
use Rattle.js_tree.specs.Terms.{Name}
use Rattle.sj_emit_help_spec.specs.Words.{object_class}
use Rattle.ir_mean.specs.World.{stored_class}
use Rattle.agree_plain_trees.specs.Settings.{Place, TellsClass, links_of, array_links, HasNoEntries, ArraysSomewhere, SameStored, same_object, same_array, MadeSomewhere, SameState}
use Rattle.agree_plain_trees.specs.Worlds.{ArrayAt}
use Rattle.agree_plain_trees.proofs.Heaps.{classes-same}
use Rattle.agree_plain_trees.proofs.Worlds.{World, Grows}

-- the classes that an object of this class extends, which of an array begin with that of arrays
pub data LinksOf (p : Place) (c : List ℕ) : List js.ClassLink → Type 0 where
  of_class : LinksOf p c (links_of p c)
  of_arrays : c ≡ object_class → ArraysSomewhere p → LinksOf p c (array_links p)

-- an object of this class or an array, and what stands for it: an object of the class that stands for it, by its marker too, with no entry of a method of its own
pub record IsObject (p : Place) (w : World) (c : List ℕ) (o : Option ir.Stored) (q : Option js.Stored) : Type 0 where
  pub stored : stored_class o ≡ Some c
  pub links : List js.ClassLink
  pub extended : LinksOf p c links
  pub properties : Name → Option js.Value
  pub shown : q ≡ Some (js.plain links properties)
  pub tells : TellsClass w c properties
  pub bare : HasNoEntries properties

object_is : (p : Place) (w : World) (c : List ℕ) (k : Option ArrayAt) (o : Option ir.Stored) (q : Option js.Stored) → ((r : ArrayAt) → k ≡ Some r → ArraysSomewhere p) → SameStored p w c k o q → IsObject p w c o q
object_is p w _ _ _ _ made (same_object c fields properties tells bare fs) = record { stored = refl; links = links_of p c; extended = of_class; properties = properties; shown = refl; tells = tells; bare = bare }
object_is p w _ _ _ _ made (same_array r items properties tells bare told) = record { stored = refl; links = array_links p; extended = of_arrays refl (made r refl); properties = properties; shown = refl; tells = tells; bare = bare }

module _ (p : Place) (w : World) (s : ir.State) (u : js.State) (same : SameState p w s u) (i a : ℕ) (there : w.place i ≡ Some a) where
  -- the world tells a class of what has an address
  pub class_there : (c : List ℕ) × (w.classes i ≡ Some c)
  class_there = let h = same.heaps.objects i a there in (h.class, h.told)

  module _ (c : List ℕ) (told : w.classes i ≡ Some c) where
    pub class_free : is_hijacked c ≡ false
    class_free = same.heaps.free i c told

    pub class_made : MadeSomewhere p c
    class_made = same.heaps.made i c told

    pub object_there : IsObject p w c (slice_get s.heap i) (slice_get u.heap a)
    object_there = let h = same.heaps.objects i a there in object_is p w c (w.arrays i) (slice_get s.heap i) (slice_get u.heap a) (λ r e. (same.heaps.arrays i r e).made) (subst (λ d. SameStored p w d (w.arrays i) (slice_get s.heap i) (slice_get u.heap a)) (classes-same h.class c (sym h.told ∙ told)) h.alike)

-- the classes of a world that has grown are those that it had
pub same_class : (w y : World) (i a : ℕ) (c d : List ℕ) → Grows w y → w.place i ≡ Some a → w.classes i ≡ Some c → y.classes i ≡ Some d → c ≡ d
same_class w y i a c d g there told later = classes-same c d (sym (g.classes i a c there told) ∙ later)
