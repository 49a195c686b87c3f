-- Arrays on both sides, and their items.
use Rattle.std.proofs.Common.{arith, ◌≡◌, ℕ, zero, suc, true, false, List, ◌∷◌, Option, Some, None, refl, subst, length, slice_get}
use Rattle.std.proofs.lemmas.Bool.Decides.{nat_tests}
use Rattle.std.specs.Prelude.{◌^◌, ◌<◌, nat_lt}
use Rattle.array_code.specs.Arrays.{IsArrayObject}
use Rattle.dispatch_laws.specs.States as ir
use Rattle.js_mean.specs.Objects.{or_undefined}
use Rattle.js_mean.specs.States as js
use Rattle.js_tree.specs.Terms.{Name}
use Rattle.sj_names.proofs.Same.{impossible}
use Rattle.agree_bodies.specs.Settings.{Place, SameState, SameStored, same_object, same_array, SameItems, no_items, more_items, StandsForBase, TellsArray, array_links}
use Rattle.agree_bodies.specs.Worlds.{World, ArrayAt, SameValue}
use Rattle.sj_trees.specs.Types.{element_type}
use Rattle.sj_trees.specs.declared.types.IrType.{IrType}

pub one_array : (a b : ArrayAt) → ◌≡◌ {A = Option ArrayAt} (Some a) (Some b) → a ≡ b
one_array a b e = cc

-- what stands for an array is an object of the class of arrays
pub record IsShown (p : Place) (w : World) (k : ArrayAt) (q : Option js.Stored) : Type 0 where
  pub properties : Name → Option js.Value
  pub stored : q ≡ Some (js.plain (array_links p) properties)
  pub tells : TellsArray w k properties

pub shown_so : (p : Place) (w : World) (c : List ℕ) (n : Option ArrayAt) (o : Option ir.Stored) (q : Option js.Stored) (k : ArrayAt) → n ≡ Some k → SameStored p w c n o q → IsShown p w k q
shown_so p w _ _ _ _ k e (same_object c fields properties told bare fs) = impossible (cc)
shown_so p w _ _ _ _ k e (same_array r items properties told bare tells) = record { properties = properties; stored = refl; tells = subst (λ (x : ArrayAt). TellsArray w x properties) (one_array r k e) tells }

-- an array of the IR, and the object that stands for it, with its items
pub record ArraySeen (p : Place) (w : World) (s : ir.State) (u : js.State) (i a : ℕ) (k : ArrayAt) : Type 0 where
  pub values : List ir.Value
  pub stored : slice_get s.heap i ≡ Some (ir.array k.kind values)
  pub items : List js.Value
  pub base : js.Value
  pub stands : StandsForBase w.owned k.kind.base base
  pub shown : IsArrayObject (array_links p) u a k.kind.dimensions base k.items items
  pub alike : SameItems w (element_type k.kind) values items
  pub short : length values < 2 ^ 31

abbrev pub array_seen : (p : Place) (w : World) (s : ir.State) (u : js.State) → SameState p w s u → (i a : ℕ) (k : ArrayAt) → w.place i ≡ Some a → w.arrays i ≡ Some k → ArraySeen p w s u i a k
array_seen p w s u same i a k there e =
    let h = same.heaps.objects i a there in
    let o = shown_so p w h.class (w.arrays i) (slice_get s.heap i) (slice_get u.heap a) k e h.alike in
    let f = same.heaps.arrays i k e in
    record {
      values = f.values;
      stored = f.stored;
      items = f.items;
      base = o.tells.base;
      stands = o.tells.stands;
      shown = record { own = o.properties; stored = o.stored; depth_is = o.tells.dimensions; element_is = o.tells.held; items_at = o.tells.items; items_are = f.shown };
      alike = f.alike;
      short = f.short;
    }

-- an item of the one is at an index of the other, and stands for it; where the one has none the index is none of the other
pub item_there : (w : World) (t : IrType) (vs : List ir.Value) (xs : List js.Value) → SameItems w t vs xs → (n : ℕ) (v : ir.Value) → slice_get vs n ≡ Some v → (nat_lt n (length xs) ≡ true) × SameValue w t v (or_undefined (slice_get xs n))
item_there w t _ _ no_items n v e = impossible (cc)
item_there w t _ _ (more_items v x vs xs a rest) zero y e = let same : v ≡ y = cc in let below : nat_lt 0 (length (x ∷ xs)) ≡ true = grind (arith, nat_tests) in (below, subst (λ (z : ir.Value). SameValue w t z x) same a)
item_there w t _ _ (more_items v x vs xs a rest) (suc n) y e = let r = item_there w t vs xs rest n y e in let below : nat_lt (suc n) (length (x ∷ xs)) ≡ true = grind (arith, nat_tests, r.0) in (below, r.1)

pub item_absent : (w : World) (t : IrType) (vs : List ir.Value) (xs : List js.Value) → SameItems w t vs xs → (n : ℕ) → slice_get vs n ≡ None → nat_lt n (length xs) ≡ false
item_absent w t _ _ no_items n e = let none : nat_lt n 0 ≡ false = grind (arith, nat_tests) in none
item_absent w t _ _ (more_items v x vs xs a rest) zero e = impossible (cc)
item_absent w t _ _ (more_items v x vs xs a rest) (suc n) e = let r = item_absent w t vs xs rest n e in let above : nat_lt (suc n) (length (x ∷ xs)) ≡ false = grind (arith, nat_tests, r) in above
