-- What stands on the heap behind files that declare are the objects that they declare, and constants tell the classes above theirs.
use Rattle.std.proofs.Common.{◌≡◌, ◌⊎◌, ℕ, List, [], ◌∷◌, ◌++◌, map, Option, Some, inl, inr, ⊎_elim, slice_get, sym, subst, Contains}
use Rattle.std.proofs.lemmas.List.Elements.{Contains-append_left, Contains-append_right}
use Rattle.agree_body_rules.proofs.Lists.{nothing_in, in_front_or_behind, at_front, further_on}
use Rattle.file_declarations.proofs.Begun.{marks_above}
use Rattle.file_tops.proofs.Made.{heaps_are_of_items}
use Rattle.file_tops.proofs.Run.{each}
use Rattle.file_tops.specs.Laws.{OfItem, of_item}
use Rattle.file_tops.specs.Tops.{literal_properties, after_items, after_files}
use Rattle.js_mean.specs.Files.{module_among, items_in}
use Rattle.js_mean.specs.Objects.{no_properties}
use Rattle.js_mean.specs.States.{Value, Stored, plain, State, Program}
use Rattle.js_tree.specs.Terms.{Name, Property, Item, object_item}
use Rattle.file_declarations.specs.Settings.{MarksAncestors}
use Rattle.sj_world.specs.Known.{Classes}
use Rattle.declared_files.specs.Declared.{AreConstants}
use Rattle.declared_files.specs.Placed.{Placed, placed, items_until, OfPlaced, of_placed}

into_map : (g : Name) (is : List Item) (i : Item) → Contains is i → Contains (map (placed g) is) (placed g i)
into_map g [] i h = nothing_in i h
into_map g (j ∷ js) i h = ⊎_elim (λ same. subst (λ (k : Item). Contains (map (placed g) (j ∷ js)) (placed g k)) same (at_front (placed g j) (map (placed g) js))) (λ later. further_on (placed g j) (map (placed g) js) (placed g i) (into_map g js i later)) (in_front_or_behind j js i h)

-- an object of an item that stands among these
of_its : (is : List Item) (g : Name) (ls : List Placed) (y : Stored) → ((i : Item) → Contains is i → Contains ls (placed g i)) → OfItem is y → OfPlaced ls y
of_its is g ls _ among (of_item x ps own i literal) = of_placed g x ps own (among (object_item x ps) i) literal

behind : (ls ms : List Placed) (y : Stored) → OfPlaced ms y → OfPlaced (ls ++ ms) y
behind ls ms _ (of_placed f x ps own i literal) = of_placed f x ps own (Contains-append_right ls ms (placed f (object_item x ps)) i) literal

-- behind these files, and these items of one more
pub made_by_files : (p : Program) (fs : List Name) (f : Name) (is : List Item) (s front end : State) → after_files p fs s ≡ Some front → after_items p f is front ≡ Some end → (a : ℕ) (y : Stored) → slice_get end.heap a ≡ Some y → (slice_get s.heap a ≡ Some y) ⊎ OfPlaced (items_until p fs f is) y
made_by_files p [] f is s front end runs last a y h = go (heaps_are_of_items p f is front end last a y h)
  where
    same : s ≡ front
    same = cc

    go : (slice_get front.heap a ≡ Some y) ⊎ OfItem is y → (slice_get s.heap a ≡ Some y) ⊎ OfPlaced (map (placed f) is) y
    go (inl before) = inl (subst (λ (r : State). slice_get r.heap a ≡ Some y) (sym same) before)
    go (inr its) = inr (of_its is f (map (placed f) is) y (into_map f is) its)
made_by_files p (g ∷ fs) f is s front end runs last a y h = let k = each (after_items p g js s) (after_files p fs) front runs in go k.0 k.1 (made_by_files p fs f is k.0 front end k.2 last a y h)
  where
    js : List Item
    js = items_in (module_among p g)

    own : List Placed
    own = map (placed g) js

    later : List Placed
    later = items_until p fs f is

    first : (slice_get s.heap a ≡ Some y) ⊎ OfItem js y → (slice_get s.heap a ≡ Some y) ⊎ OfPlaced (own ++ later) y
    first (inl before) = inl before
    first (inr its) = inr (of_its js g (own ++ later) y (λ i c. Contains-append_left own later (placed g i) (into_map g js i c)) its)

    go : (r : State) → after_items p g js s ≡ Some r → (slice_get r.heap a ≡ Some y) ⊎ OfPlaced later y → (slice_get s.heap a ≡ Some y) ⊎ OfPlaced (own ++ later) y
    go r ran (inl before) = first (heaps_are_of_items p g js s r ran a y before)
    go r ran (inr its) = inr (behind own later y its)

-- what stands on the heap marks the classes above its own, where each object that is declared is the constants of a class
pub marks_ancestors : (w : Classes) (ls : List Placed) → ((f x : Name) (ps : List Property) → Contains ls (placed f (object_item x ps)) → AreConstants w ps) → (own : Name → Option Value) → OfPlaced ls (plain [] own) → MarksAncestors w own
marks_ancestors w ls each_are own (of_placed f x ps _ i literal) = let k = each_are f x ps i in marks_above w k.class k.ancestors own k.known k.above (subst (λ (qs : List Property). literal_properties qs no_properties ≡ Some own) k.are literal)
