-- What stands on the heap behind items that declare is what their objects are.
use Rattle.std.proofs.Common.{◌≡◌, ◌⊎◌, ℕ, zero, suc, true, false, List, [], ◌∷◌, ◌++◌, Some, inl, inr, slice_get, sym, subst, Contains}
use Rattle.std.proofs.lemmas.List.Elements.{Contains-append_left, Contains-append_right, Contains-push}
use Rattle.js_mean.specs.Meaning.{cell_of, top_scope}
use Rattle.js_mean.specs.Objects.{no_properties, allocated, next_address}
use Rattle.js_mean.specs.States.{object, class, ClassLink, Stored, plain, State, Program}
use Rattle.js_tree.specs.Terms.{Name, Item, const_item, object_item, let_item, expression_item, function_item, class_item, subclass_item}
use Rattle.file_tops.proofs.Run.{each, some_same}
use Rattle.file_tops.specs.Laws.{OfItem, of_item, HeapsAreOfItems}
use Rattle.file_tops.specs.Tops.{literal_value, literal_properties, started, link, classes_in, after_item, after_items}

at_end : (h : List Stored) (z : Stored) (a : ℕ) (y : Stored) → slice_get (h ++ z ∷ []) a ≡ Some y → (slice_get h a ≡ Some y) ⊎ (z ≡ y)
at_end [] z zero y e = inr (some_same z y e)
at_end [] z (suc a) y e = absurd (cc)
at_end (x ∷ h) z zero y e = inl e
at_end (x ∷ h) z (suc a) y e = at_end h z a y e

of_more : (is js : List Item) (y : Stored) → ((i : Item) → Contains is i → Contains js i) → OfItem is y → OfItem js y
of_more is js _ among (of_item x ps own i literal) = of_item x ps own (among (object_item x ps) i) literal

module _ (p : Program) (f : Name) where
  -- an item leaves the heap as it is, or puts its object behind it
  of_one : (i : Item) (s t : State) → after_item p f i s ≡ Some t → (a : ℕ) (y : Stored) → slice_get t.heap a ≡ Some y → (slice_get s.heap a ≡ Some y) ⊎ OfItem (i ∷ []) y
  of_one (function_item x xs ss) s t e a y h = inl (subst (λ (r : State). slice_get r.heap a ≡ Some y) (sym (some_same s t e)) h)
  of_one (class_item x ms) s t e a y h = inl (subst (λ (r : State). slice_get r.heap a ≡ Some y) (sym (some_same (started false f x (class (link f x ∷ [])) s) t e)) h)
  of_one (subclass_item x z ms) s t e a y h =
      let k = each (classes_in (cell_of p z (top_scope p f) s)) (λ (ls : List ClassLink). Some (started false f x (class (link f x ∷ ls)) s)) t e in
      inl (subst (λ (r : State). slice_get r.heap a ≡ Some y) (sym (some_same (started false f x (class (link f x ∷ k.0)) s) t k.2)) h)
  of_one (const_item x d) s t e a y h =
      let k = each (literal_value d) (λ v. Some (started true f x v s)) t e in
      inl (subst (λ (r : State). slice_get r.heap a ≡ Some y) (sym (some_same (started true f x k.0 s) t k.2)) h)
  of_one (let_item x d) s t e a y h =
      let k = each (literal_value d) (λ v. Some (started false f x v s)) t e in
      inl (subst (λ (r : State). slice_get r.heap a ≡ Some y) (sym (some_same (started false f x k.0 s) t k.2)) h)
  of_one (object_item x ps) s t e a y h =
      let k = each (literal_properties ps no_properties) (λ own. Some (started true f x (object (next_address s)) (allocated [] own s))) t e in
      elim (at_end s.heap (plain [] k.0) a y (subst (λ (r : State). slice_get r.heap a ≡ Some y) (sym (some_same (started true f x (object (next_address s)) (allocated [] k.0 s)) t k.2)) h)) [
        | inl front ↦ inl front
        | inr same ↦ inr (subst (OfItem (object_item x ps ∷ [])) same (of_item x ps k.0 (Contains-push [] (object_item x ps)) k.1))
      ]
  of_one (expression_item d) s t e a y h = absurd (cc)

  pub heaps_of_items : (is : List Item) (s t : State) → after_items p f is s ≡ Some t → (a : ℕ) (y : Stored) → slice_get t.heap a ≡ Some y → (slice_get s.heap a ≡ Some y) ⊎ OfItem is y
  heaps_of_items [] s t e a y h = inl (subst (λ (r : State). slice_get r.heap a ≡ Some y) (sym (some_same s t e)) h)
  heaps_of_items (i ∷ is) s t e a y h = let k = each (after_item p f i s) (after_items p f is) t e in go k.0 k.1 (heaps_of_items is k.0 t k.2 a y h)
    where
      front : (slice_get s.heap a ≡ Some y) ⊎ OfItem (i ∷ []) y → (slice_get s.heap a ≡ Some y) ⊎ OfItem (i ∷ is) y
      front (inl before) = inl before
      front (inr its) = inr (of_more (i ∷ []) (i ∷ is) y (Contains-append_left (i ∷ []) is) its)

      go : (r : State) → after_item p f i s ≡ Some r → (slice_get r.heap a ≡ Some y) ⊎ OfItem is y → (slice_get s.heap a ≡ Some y) ⊎ OfItem (i ∷ is) y
      go r d (inl before) = front (of_one i s r d a y before)
      go r d (inr later) = inr (of_more is (i ∷ is) y (Contains-append_right (i ∷ []) is) later)

pub heaps_are_of_items : HeapsAreOfItems
heaps_are_of_items p f is s t e a y h = heaps_of_items p f is s t e a y h
