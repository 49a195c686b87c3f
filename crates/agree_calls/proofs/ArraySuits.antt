-- A value that is an array of a type is of its kind, and has its shape.
use Rattle.std.proofs.Common.{◌≡◌, ℕ, true, List, Option, slice_get, refl, ◌||◌}
use Rattle.std.proofs.lemmas.Bool.{or_right}
use Rattle.dispatch_laws.proofs.SubtypesFound.{subtypes_are_worked_out}
use Rattle.dispatch_laws.specs.Dispatch.{is_array_below}
use Rattle.dispatch_laws.specs.Known.{Classes}
use Rattle.dispatch_laws.specs.States as ir
use Rattle.dispatch_laws.specs.SjWorldLaws.{IsPlain}
use Rattle.dispatch_laws.specs.World as ir_world
use Rattle.js_mean.specs.States as js
use Rattle.agree_bodies.proofs.InWorld.{in_world}
use Rattle.agree_bodies.proofs.Worlds.{same_reference}
use Rattle.agree_bodies.specs.Settings.{Place, SameState, SameStored, same_object, same_array}
use Rattle.agree_bodies.specs.Standing.{Fits}
use Rattle.agree_bodies.specs.Worlds.{World, ArrayAt, IsArrayAt}
use Rattle.sj_names.proofs.Same.{impossible}
use Rattle.sj_names.specs.declared.references.ArrayRef.{ArrayRef}
use Rattle.sj_trees.specs.declared.types.IrType.TheVariants.{Array, Nothing}
use Rattle.sj_trees.specs.SameTypes.{is_same_type}
use Rattle.agree_calls.proofs.ArrayCasting.{ArraysSuit}

-- an array below another fits it
below_fits : (classes : Classes) → IsPlain classes → (q r : ArrayRef) → is_array_below classes q r ≡ true → Fits (Array r) (Array q)
below_fits classes plain q r h = (in_world classes plain).arrays (Array q) r ((subtypes_are_worked_out classes (Array q) (Array r)).0 (or_right (is_same_type (Array q) (Array r) || is_same_type (Array q) Nothing) (is_array_below classes q r) h))

module _ (p : Place) (plain : IsPlain p.classes) (w : World) (s : ir.State) (u : js.State) (same : SameState p w s u) (r : ArrayRef) where
  stored_fits : (i : ℕ) (c : List ℕ) (n : Option ArrayAt) (o : Option ir.Stored) (q : Option js.Stored) → w.arrays i ≡ n → SameStored p w c n o q → ir_world.is_array p.classes o r ≡ true → IsArrayAt w i r
  stored_fits i _ _ _ _ is (same_object c fields properties told bare fs) h = impossible h
  stored_fits i _ _ _ _ is (same_array k items properties told bare tells) h = record { at = k; told = is; fits = below_fits p.classes plain k.kind r h }

  pub arrays_suit : ArraysSuit p w s r
  arrays_suit _ _ (same_reference i a there) h = let o = same.heaps.objects i a there in (refl, stored_fits i o.class (w.arrays i) (slice_get s.heap i) (slice_get u.heap a) refl o.alike h)
  arrays_suit _ _ _ h = impossible h
