-- Worlds grow, and what stands for each other goes on to do so.
use Rattle.std.proofs.Common.{◌≡◌, ℕ, Bool, List, [], ◌∷◌, true, false, Some, refl, sym, ◌∙◌, subst}
use Rattle.std.specs.Prelude.{codes, nat_eq, if◌then◌else◌}
use Rattle.std.specs.Cmp.Lexicographic.{pointwise}
use Rattle.ir_mean.specs.States as ir
use Rattle.js_mean.specs.States as js
pub use Rattle.agree_plain_trees.specs.Worlds.{World, ArrayAt, nothing_made, Grows, Stands, same_undefined, same_null, IsBox, same_boolean, same_char, same_box, same_number, same_long, same_text, same_reference, IsArrayAt, Shaped, SameValue, SameValues, no_values, one_more}
use Rattle.agree_body_rules.specs.Standing.{is_array_type, Fits, FitAll}
use Rattle.agree_body_rules.proofs.Arrays.{arrays-fit}
use Rattle.sj_names.proofs.Same.{impossible}
use Rattle.sj_names.specs.declared.references.ArrayRef.{ArrayRef}
use Rattle.agree_plain_trees.specs.Standing.{suits}
use Rattle.sj_trees.specs.declared.types.IrType.TheVariants.{Any, Array, Class}
use Rattle.agree_plain_trees.proofs.Standing.{fits-suits, fits-raw, no-array}
use Rattle.agree_body_rules.specs.Coercions.{is_char}
use Rattle.sj_trees.specs.Types.{class_type}
use Rattle.sj_trees.specs.declared.types.IrType.{IrType}

pub grows-refl : (w : World) → Grows w w
grows-refl w = record { places = λ i a e. e; classes = λ i a c e k. k; arrays = λ i k e. e; owns = λ a o e. e; pends = λ a o e. e; boxes = refl }

pub grows-trans : (u v w : World) → Grows u v → Grows v w → Grows u w
grows-trans u v w g h = record { places = λ i a e. h.places i a (g.places i a e); classes = λ i a c e k. h.classes i a c (g.places i a e) (g.classes i a c e k); arrays = λ i k e. h.arrays i k (g.arrays i k e); owns = λ a o e. h.owns a o (g.owns a o e); pends = λ a o e. h.pends a o (g.pends a o e); boxes = g.boxes ∙ h.boxes }

-- a world that has what another has of addresses, arrays and what the emitted code has for itself
pub record Keeps (old new : World) : Type 0 where
  pub places : (i a : ℕ) → old.place i ≡ Some a → new.place i ≡ Some a
  pub arrays : (i : ℕ) (k : ArrayAt) → old.arrays i ≡ Some k → new.arrays i ≡ Some k
  pub owns : (a : ℕ) (o : js.Stored) → old.owned a ≡ Some o → new.owned a ≡ Some o
  pub boxes : old.boxes ≡ new.boxes

abbrev pub grown-keeps : (u w : World) → Grows u w → Keeps u w
grown-keeps u w g = record { places = g.places; arrays = g.arrays; owns = g.owns; boxes = g.boxes }

-- an object holds a char wherever the emitted code has for itself what it had
box-carry : (u w : World) (c a : ℕ) → ((a : ℕ) (o : js.Stored) → u.owned a ≡ Some o → w.owned a ≡ Some o) → u.boxes ≡ w.boxes → IsBox u c a → IsBox w c a
box-carry u w c a h k b = record { properties = b.properties; address = b.address; constants = b.constants; owned = subst (λ ls. w.owned a ≡ Some (js.plain ls b.properties)) k (h a (js.plain u.boxes b.properties) b.owned); char = b.char; held = b.held; constants_owned = h b.address (js.plain [] b.constants) b.constants_owned; marked = b.marked; bare = b.bare }

-- a value stands for another wherever each address has its address, too
pub stands-carry : (u w : World) (raw : Bool) (v : ir.Value) (x : js.Value) → Keeps u w → Stands u raw v x → Stands w raw v x
stands-carry u w raw _ _ g same_undefined = same_undefined
stands-carry u w raw _ _ g same_null = same_null
stands-carry u w raw _ _ g (same_boolean b) = same_boolean b
stands-carry u w raw _ _ g (same_char r c f) = same_char r c f
stands-carry u w raw _ _ g (same_box r c a f b) = same_box r c a f (box-carry u w c a g.owns g.boxes b)
stands-carry u w raw _ _ g (same_number z f) = same_number z f
stands-carry u w raw _ _ g (same_long z f) = same_long z f
stands-carry u w raw _ _ g (same_text us) = same_text us
stands-carry u w raw _ _ g (same_reference i a e) = same_reference i a (g.places i a e)

shaped-reference : (u w : World) (i : ℕ) (t : IrType) → Keeps u w → Shaped u (ir.reference i) t → Shaped w (ir.reference i) t
shaped-reference u w i (Array r) g h = record { at = h.at; told = g.arrays i h.at h.told; fits = h.fits }
shaped-reference u w i _ g h = h

shaped-carry : (u w : World) (v : ir.Value) (t : IrType) → Keeps u w → Shaped u v t → Shaped w v t
shaped-carry u w (ir.reference i) t g h = shaped-reference u w i t g h
shaped-carry u w _ t g h = h

pub value-carry : (u w : World) (t : IrType) (v : ir.Value) (x : js.Value) → Keeps u w → SameValue u t v x → SameValue w t v x
value-carry u w t v x g a = record { stands = stands-carry u w (is_char t) v x g a.stands; suits = a.suits; shaped = shaped-carry u w v t g a.shaped }

pub value-lift : (u w : World) (t : IrType) (v : ir.Value) (x : js.Value) → Grows u w → SameValue u t v x → SameValue w t v x
value-lift u w t v x g a = value-carry u w t v x (grown-keeps u w g) a

-- an array is one of each type for which that of its type may stand
shaped-array : (w : World) (expected : IrType) (i : ℕ) (q : ArrayRef) → Fits expected (Array q) → IsArrayAt w i q → Shaped w (ir.reference i) expected
shaped-array w (Array r) i q f h = record { at = h.at; told = h.told; fits = arrays-fit r q h.at.kind f h.fits }
shaped-array w _ i q f h = tt

not-array : (w : World) (expected : IrType) (i : ℕ) → is_array_type expected ≡ false → Shaped w (ir.reference i) expected
not-array w (Array r) i n = impossible (sym n)
not-array w _ i n = tt

fits-shaped : (w : World) (expected own : IrType) (v : ir.Value) → Fits expected own → suits own v ≡ true → Shaped w v own → Shaped w v expected
fits-shaped w expected (Array q) (ir.reference i) f k h = shaped-array w expected i q f h
fits-shaped w expected own (ir.reference i) f k h = not-array w expected i (no-array expected own i f refl k)
fits-shaped w expected own v f k h = tt

pub shaped-other : (w : World) (t : IrType) (v : ir.Value) → is_array_type t ≡ false → Shaped w v t
shaped-other w t (ir.reference i) n = not-array w t i n
shaped-other w t _ n = tt

-- nothing is asked of what has an address at the type of a class
pub shaped-class : (w : World) (c : List ℕ) (v : ir.Value) → Shaped w v (class_type c)
shaped-class w c (ir.reference i) = not-array w (class_type c) i (go (pointwise nat_eq c (codes "java.lang.Object")))
  where
    go : (b : Bool) → is_array_type (if b then Any else Class c) ≡ false
    go true = refl
    go false = refl
shaped-class w c _ = tt

-- a value of a type is one of each type for which that one may stand
pub value-fits : (w : World) (expected own : IrType) (v : ir.Value) (x : js.Value) → Fits expected own → SameValue w own v x → SameValue w expected v x
value-fits w expected own v x f a = record { stands = subst (λ r. Stands w r v x) (fits-raw expected own v f a.suits) a.stands; suits = fits-suits expected own v f a.suits; shaped = fits-shaped w expected own v f a.suits a.shaped }

pub values-fit : (w : World) (expected owns : List IrType) (vs : List ir.Value) (xs : List js.Value) → FitAll expected owns → SameValues w owns vs xs → SameValues w expected vs xs
values-fit w [] _ _ _ f no_values = no_values
values-fit w (t ∷ ts) _ _ _ f (one_more own v x owns vs xs a others) = one_more t v x ts vs xs (value-fits w t own v x f.0 a) (values-fit w ts owns vs xs f.1 others)
values-fit w (t ∷ ts) _ _ _ f no_values = absurd f
values-fit w [] _ _ _ f (one_more own v x owns vs xs a others) = absurd f
