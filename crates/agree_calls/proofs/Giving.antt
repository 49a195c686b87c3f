-- Arrays that are made: with their items, and of a length.
use Rattle.std.proofs.Common.{◌≡◌, ◌≤◌, ◌+◌, arith, ℕ, zero, suc, Bool, true, false, List, [], ◌∷◌, ◌++◌, Option, Some, None, refl, sym, ap, ◌∙◌, subst, length, map, slice_get, if◌then◌else◌}
use Rattle.std.specs.Prelude.{◌^◌, ◌<◌, ◌==◌}
use Rattle.outcomes.specs.Outcome.{Out, done, going}
use Rattle.outcomes.specs.Agreement.{Direction, forward, backward, Sim}
use Rattle.outcomes.proofs.Simulation.{sim_done, sim_going}
use Rattle.array_code.proofs.Arraying.{array_class_makes}
use Rattle.array_code.specs.Arrays.{array_properties}
use Rattle.array_code.specs.Words.{object_class}
use Rattle.agree_bodies.proofs.Arrays.{arrays-same}
use Rattle.dispatch_laws.specs.Meaning as ir_meaning
use Rattle.dispatch_laws.specs.States as ir
use Rattle.js_mean.specs.Meaning as js_meaning
use Rattle.js_mean.specs.Objects.{with_stored, allocated, next_address}
use Rattle.js_mean.specs.States as js
use Rattle.js_tree.specs.Terms.{Name}
use Rattle.sj_names.proofs.Same.{impossible}
use Rattle.sj_names.specs.declared.references.ArrayRef.{ArrayRef}
use Rattle.dispatch_laws.specs.Templates.{static_name}
use Rattle.agree_bodies.specs.Settings.{Setting, GivesArraysAlike, Place, SameState, SameHeap, SameStored, same_object, same_array, SameItems, StandsForBase, TellsClass, TellsArray, HasNoEntries, Valued, valued, a_static, a_cell, cell_name, array_link, array_links, link_of, links_of, depth_of, zeroed}
use Rattle.agree_bodies.specs.Worlds.{World, ArrayAt, with_array, Grows, SameValue}
use Rattle.agree_bodies.proofs.Heaps.{get-end, not-past, numbers-same, numbers-apart, holding-carry, place-there, array-there, unowned, array-births}
use Rattle.agree_bodies.proofs.Worlds.{Keeps, same_reference}
use Rattle.sj_trees.specs.Types.{class_type, element_type}
use Rattle.sj_trees.specs.declared.types.IrType.TheVariants.{Array}
use Rattle.agree_calls.specs.Made.{Makers, Stands}
use Rattle.agree_calls.specs.Arrays.{CanGiveArrays}
use Rattle.agree_calls.proofs.Making.{chains_make, short_bounds_go}

-- an object of the emitted code tells its class, and has no entry of a method
record IsTold (w : World) (c : List ℕ) (own : Name → Option js.Value) : Type 0 where
  tells : TellsClass w c own
  bare : HasNoEntries own

told_by : (p : Place) (w : World) (c : List ℕ) (n : Option ArrayAt) (o : Option ir.Stored) (q : Option js.Stored) → n ≡ None → SameStored p w c n o q → (ls : List js.ClassLink) (own : Name → Option js.Value) → q ≡ Some (js.plain ls own) → IsTold w c own
told_by p w _ _ _ _ e (same_object c fields properties tells bare fs) ls own f = let same : properties ≡ own = cc in subst (IsTold w c) same (record { tells = tells; bare = bare })
told_by p w _ _ _ _ e (same_array r items properties tells bare told) ls own f = impossible (cc)

-- a number is itself
itself : {A : Type 0} (n : ℕ) (x y : A) → (if (n == n) then x else y) ≡ x
itself n x y = go (n == n) refl
  where
    go : (b : Bool) → (n == n) ≡ b → (if b then x else y) ≡ x
    go true e = refl
    go false e = absurd (numbers-apart n n e refl)

other : {A : Type 0} (i n : ℕ) (x y : A) → (i ≡ n → ⊥) → (if (i == n) then x else y) ≡ y
other i n x y apart = go (i == n) refl
  where
    go : (b : Bool) → (i == n) ≡ b → (if b then x else y) ≡ y
    go true e = absurd (apart (numbers-same i n e))
    go false e = refl

module _ (p : Place) (can : CanGiveArrays p) (w : World) (s : ir.State) (u : js.State) (same : SameState p w s u) (r : ArrayRef) (vs : List ir.Value) (xs : List js.Value) (items : SameItems w (element_type r) vs xs) (short : length vs < 2 ^ 31) (few : r.dimensions ≤ 255) (base : js.Value) (stands : StandsForBase w.owned r.base base) where
  -- behind the items
  abbrev filled : js.State
  filled = with_stored (js.array xs) u

  same_filled : SameState p w s filled
  same_filled = record { heaps = unowned p w s.heap u.heap same.heaps (js.array xs); tops = same.tops; statics = same.statics; cells = same.cells }

  abbrev at : ArrayAt
  at = record { kind = r; items = next_address u }

  object_there : Stands p object_class w filled
  object_there = can.top.stands w s filled same_filled

  told : IsTold w object_class object_there.own
  told = told_by p w object_class None (Some (zeroed p object_class)) (Some (js.plain (links_of p object_class) object_there.own)) refl object_there.shape (links_of p object_class) object_there.own refl

  abbrev properties : Name → Option js.Value
  properties = array_properties (depth_of r) base (js.object (next_address u)) object_there.own

  tells : TellsClass w object_class properties
  tells = let t = told.tells in record { address = t.address; constants = t.constants; held = t.held; owned = t.owned; marked = t.marked; known = t.known }

  bare : HasNoEntries properties
  bare m = told.bare m

  its : TellsArray w at properties
  its = record { dimensions = refl; base = base; held = refl; stands = stands; items = refl }

  abbrev born : World
  born = with_array (length s.heap) (length filled.heap) at w

  heaps : SameHeap p born (s.heap ++ ir.array r vs ∷ []) (filled.heap ++ js.plain (array_links p) properties ∷ [])
  heaps = array-births p w s.heap filled.heap same_filled.heaps at vs xs properties (get-end u.heap (js.array xs)) (λ j l e same_items. let f = same.heaps.arrays j l e in not-past u.heap (js.array f.items) (subst (λ (n : ℕ). slice_get u.heap n ≡ Some (js.array f.items)) same_items f.shown)) (λ o e. not-past u.heap o (same.heaps.owned (length u.heap) o e)) (λ o e. not-past u.heap o (same.heaps.pending (length u.heap) o e)) items short few can.somewhere can.made tells bare its

  placed : (i b : ℕ) → w.place i ≡ Some b → born.place i ≡ Some b
  placed i b e = other i (length s.heap) (Some (length filled.heap)) (w.place i) (place-there p w s.heap filled.heap same_filled.heaps i b e) ∙ e

  arrayed : (i : ℕ) (k : ArrayAt) → w.arrays i ≡ Some k → born.arrays i ≡ Some k
  arrayed i k e = other i (length s.heap) (Some at) (w.arrays i) (array-there p w s.heap filled.heap same_filled.heaps i k e) ∙ e

  kept : Keeps w born
  kept = record { places = placed; arrays = arrayed; owns = λ a o e. e; boxes = refl }

  grown : Grows w born
  grown = record { places = placed; classes = λ i b c e k. other i (length s.heap) (Some object_class) (w.classes i) (place-there p w s.heap filled.heap same_filled.heaps i b e) ∙ k; arrays = arrayed; owns = λ a o e. e; pends = λ a o e. e; boxes = refl }

  states : SameState p born (ir.with_stored (ir.array r vs) s) (allocated (array_links p) properties filled)
  states = record {
    heaps = heaps;
    tops = same.tops;
    statics = λ g c f t l. holding-carry w born t kept (s.statics c f) (u.tops (p.home (a_static c f t)) (static_name c f)) (same.statics g c f t l);
    cells = λ g c l. holding-carry w born (class_type c) kept (Some (s.cells c)) (u.tops (p.home (a_cell c)) (cell_name c)) (same.cells g c l);
  }

  value : SameValue born (Array r) (ir.reference (length s.heap)) (js.object (length filled.heap))
  value = record { stands = same_reference (length s.heap) (length filled.heap) (itself (length s.heap) (Some (length filled.heap)) (w.place (length s.heap))); suits = refl; shaped = record { at = at; told = itself (length s.heap) (Some at) (w.arrays (length s.heap)); fits = arrays-same r.dimensions r.base } }

  abbrev Constructs : ℕ → List js.ClassLink → Out js.ExpressionEnd → Type 0
  Constructs n ls o = js_meaning.construct p.program (js_meaning.below p.program n) (array_link p ∷ ls) (array_link p ∷ ls) (depth_of r ∷ base ∷ js.object (next_address u) ∷ []) filled ≡ o

  makers : Makers p.program (link_of p) filled (object_class ∷ []) object_there.own
  makers = subst (λ (cs : List (List ℕ)). Makers p.program (link_of p) filled cs object_there.own) can.alone object_there.makers

  links : link_of p object_class ∷ [] ≡ links_of p object_class
  links = ap (map (link_of p)) (sym can.alone)

  abbrev Above : ℕ → Type 0
  Above k = js_meaning.construct p.program (js_meaning.below p.program k) (link_of p object_class ∷ []) (array_link p ∷ link_of p object_class ∷ []) [] filled ≡ done (js.gives (js.object (next_address filled)) (allocated (array_link p ∷ link_of p object_class ∷ []) object_there.own filled))

  -- what the class of all objects makes for an array
  above : (n : ℕ) → Above (suc n)
  above n = let e : length (object_class ∷ []) + n ≡ suc n = omega arith in subst Above e (chains_make p.program (link_of p) filled (object_class ∷ []) object_there.own (array_link p ∷ link_of p object_class ∷ []) makers n)

  -- what `new` of the class of arrays comes to
  js_is : (n : ℕ) → Constructs (suc (suc n)) (links_of p object_class) (done (js.gives (js.object (length filled.heap)) (allocated (array_links p) properties filled)))
  js_is n = subst (λ (ls : List js.ClassLink). Constructs (suc (suc n)) ls (done (js.gives (js.object (length filled.heap)) (allocated (array_link p ∷ ls) properties filled)))) links (array_class_makes.made p.program (suc n) (array_link p) (link_of p object_class) [] (array_link p ∷ link_of p object_class ∷ []) (depth_of r) base (js.object (next_address u)) object_there.own filled can.members_are (above n))

  given_whole : (d : Direction) (n : ℕ) (env : ir.Env) → Sim d (Valued p w env (Array r)) (ir_meaning.made_array r vs env s) (js_meaning.construct p.program (js_meaning.below p.program (suc (suc n))) (array_links p) (array_links p) (depth_of r ∷ base ∷ js.object (next_address u) ∷ []) filled)
  given_whole d n env = subst (λ o. Sim d (Valued p w env (Array r)) (ir_meaning.made_array r vs env s) o) (sym (js_is n)) (sim_done d (Valued p w env (Array r)) (ir.ends (ir.gives (ir.reference (length s.heap))) env (ir.with_stored (ir.array r vs) s)) (js.gives (js.object (length filled.heap)) (allocated (array_links p) properties filled)) (valued born (ir.reference (length s.heap)) (js.object (length filled.heap)) (ir.with_stored (ir.array r vs) s) (allocated (array_links p) properties filled) grown value states))

  -- with fewer units it is going
  none_made : Constructs 0 (links_of p object_class) going
  none_made = array_class_makes.without p.program (array_link p) (links_of p object_class) (array_links p) (depth_of r ∷ base ∷ js.object (next_address u) ∷ []) filled can.members_are

  one_goes : Constructs 1 (links_of p object_class) going
  one_goes = subst (λ (ls : List js.ClassLink). js_meaning.construct p.program (js_meaning.below p.program 1) (array_link p ∷ ls) (array_link p ∷ ls) (depth_of r ∷ base ∷ js.object (next_address u) ∷ []) filled ≡ going) links (array_class_makes.super_going p.program 0 (array_link p) (link_of p object_class) [] (array_link p ∷ link_of p object_class ∷ []) (depth_of r ∷ base ∷ js.object (next_address u) ∷ []) filled can.members_are (short_bounds_go p.program (link_of p) filled (object_class ∷ []) object_there.own (array_link p ∷ link_of p object_class ∷ []) makers 0 (omega arith)))

  abbrev Given : Direction → ir.Env → Out js.ExpressionEnd → Type 0
  Given d env o = Sim d (Valued p w env (Array r)) (ir_meaning.made_array r vs env s) o

  pub given : (d : Direction) (n : ℕ) → (d ≡ forward → 2 ≤ n) → (env : ir.Env) → Given d env (js_meaning.construct p.program (js_meaning.below p.program n) (array_links p) (array_links p) (depth_of r ∷ base ∷ js.object (next_address u) ∷ []) filled)
  given d (suc (suc n)) enough env = given_whole d n env
  given forward zero enough env = let l = enough refl in absurd (omega (arith, l))
  given forward (suc zero) enough env = let l = enough refl in absurd (omega (arith, l))
  given backward zero enough env = subst (Given backward env) (sym none_made) (sim_going (Valued p w env (Array r)) (ir_meaning.made_array r vs env s))
  given backward (suc zero) enough env = subst (Given backward env) (sym one_goes) (sim_going (Valued p w env (Array r)) (ir_meaning.made_array r vs env s))

-- an array of its items, and `new $A`
pub gives_alike : (z : Setting) (n : ℕ) → CanGiveArrays z.place → z.js_low ≡ js_meaning.below z.place.program n → (z.direction ≡ forward → 2 ≤ n) → GivesArraysAlike z
gives_alike z n can low enough r dims w vs xs base env s u items short stands same = subst (λ l. Sim z.direction (Valued z.place w env (Array r)) (ir_meaning.made_array r vs env s) (js_meaning.construct z.place.program l (array_links z.place) (array_links z.place) (depth_of r ∷ base ∷ js.object (next_address u) ∷ []) (with_stored (js.array xs) u))) (sym low) (given z.place can w s u same r vs xs items short dims.1 base stands z.direction n enough env)
