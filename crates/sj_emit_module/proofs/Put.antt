-- What is put under a file stands under that file, and under no other.
use Rattle.std.proofs.Common.{◌≡◌, ◌+◌, ℕ, Bool, true, false, List, [], ◌∷◌, ◌++◌, Option, Some, None, refl, sym, ap, subst, ◌∙◌, map, cond, take, slice_get, append_assoc, append-nil}
use Rattle.std.specs.Prelude.{filter, if◌then◌else◌}
use Rattle.std.specs.List.{flat_map}
use Rattle.std.specs.Cmp.Lexicographic.{nat_list_eq_equiv}
use Rattle.std.proofs.lemmas.List.{map-append}
use Rattle.js_tree.specs.Terms.{Name, Item, Piece}
use Rattle.js_tree.specs.declared.items.Binding.{Binding}
use Rattle.sj_emit_module_spec.specs.Calls.{called}
use Rattle.sj_emit_module_spec.specs.Modules.{is_this, initializers_of, called_in, uses_of, item_of, is_owned_in, is_bound_elsewhere}
use Rattle.sj_emit_module.proofs.Added.{more_taken}
use Rattle.sj_emit_module.specs.Groups.{HoldNames}
use Rattle.sj_emit_module.specs.Shares.{crossing, crossing_calls, crossing_from}
use Rattle.sj_emit_module.specs.declared.groups.NameGroups.{NameGroups}
use Rattle.sj_split.specs.Modules.{file}
use Rattle.sj_split.specs.Orders.{Bytes, is_same}
use Rattle.sj_split.specs.declared.plans.PlannedModule.{PlannedModule}

-- one thing more in a list under a file
pub thing_more : {X : Type 0} (xs : List X) (n : ℕ) (x : X) (q : Bool) (old mid new : List X) → slice_get xs n ≡ Some x → mid ≡ old ++ (if q then take n xs else []) → new ≡ (if q then mid ++ x ∷ [] else mid) → new ≡ old ++ (if q then take (n + 1) xs else [])
thing_more xs n x true old mid new at h e = e ∙ ap (λ m. m ++ x ∷ []) h ∙ append_assoc old (take n xs) (x ∷ []) ∙ ap (λ l. old ++ l) (sym (more_taken xs n x at))
thing_more xs n x false old mid new at h e = e ∙ h

pub nothing_put : {X : Type 0} (q : Bool) (old : List X) → old ≡ old ++ (if q then [] else [])
nothing_put true old = sym (append-nil old)
nothing_put false old = sym (append-nil old)

module _ (file_of : Name → Option Bytes) (p : Piece) where
  module _ (other : Bytes) (is : file_of p.owner ≡ Some other) (f : Bytes) where
    own : is_owned_in file_of f p ≡ is_same other f
    own = ap (is_this f) is ∙ nat_list_eq_equiv.symm f other

    -- an item
    pub item_put : {X : Type 0} (view : X → Item) (x : X) (old new : List X) → view x ≡ p.item → new ≡ (if is_same other f then old ++ x ∷ [] else old) → map view new ≡ map view old ++ map item_of (filter (is_owned_in file_of f) (p ∷ []))
    item_put view x old new same e = go (is_same other f) e ∙ ap (λ t. map view old ++ map item_of (cond t (p ∷ []) [])) (sym own)
      where
        go : (b : Bool) → new ≡ (if b then old ++ x ∷ [] else old) → map view new ≡ map view old ++ map item_of (cond b (p ∷ []) [])
        go true h = ap (map view) h ∙ map-append view old (x ∷ []) ∙ ap (λ y. map view old ++ y ∷ []) same
        go false h = ap (map view) h ∙ sym (append-nil (map view old))

    -- what a piece uses
    pub uses_put : (old new : List Binding) → new ≡ old ++ (if is_same other f then p.uses else []) → new ≡ old ++ flat_map uses_of (filter (is_owned_in file_of f) (p ∷ []))
    uses_put old new e = e ∙ ap (λ l. old ++ l) (go (is_same other f)) ∙ ap (λ t. old ++ flat_map uses_of (cond t (p ∷ []) [])) (sym own)
      where
        go : (b : Bool) → (if b then p.uses else []) ≡ flat_map uses_of (cond b (p ∷ []) [])
        go true = sym (append-nil p.uses)
        go false = refl

  module _ (none : file_of p.owner ≡ None) (f : Bytes) where
    strange : is_owned_in file_of f p ≡ false
    strange = ap (is_this f) none

    pub no_item : {X : Type 0} (view : X → Item) (old : List X) → map view old ≡ map view old ++ map item_of (filter (is_owned_in file_of f) (p ∷ []))
    no_item view old = sym (append-nil (map view old)) ∙ ap (λ t. map view old ++ map item_of (cond t (p ∷ []) [])) (sym strange)

    pub no_uses : (old : List Binding) → old ≡ old ++ flat_map uses_of (filter (is_owned_in file_of f) (p ∷ []))
    no_uses old = sym (append-nil old) ∙ ap (λ t. old ++ flat_map uses_of (cond t (p ∷ []) [])) (sym strange)

  crosses : (o : Option Bytes) → file_of p.owner ≡ o → flat_map (crossing file_of) (p ∷ []) ≡ crossing_from file_of o p.uses
  crosses o e = append-nil (crossing file_of p) ∙ ap (λ (x : Option Bytes). crossing_from file_of x p.uses) e

  pub crossing_put : (other : Bytes) → file_of p.owner ≡ Some other → (bs : List Binding) (groups : NameGroups) → HoldNames file_of (bs ++ filter (is_bound_elsewhere file_of other) p.uses) groups → HoldNames file_of (bs ++ flat_map (crossing file_of) (p ∷ [])) groups
  crossing_put other is bs groups held = subst (λ (l : List Binding). HoldNames file_of (bs ++ l) groups) (sym (crosses (Some other) is)) held

  pub no_crossing : file_of p.owner ≡ None → (bs : List Binding) (groups : NameGroups) → HoldNames file_of bs groups → HoldNames file_of (bs ++ flat_map (crossing file_of) (p ∷ [])) groups
  no_crossing none bs groups held = subst (λ (l : List Binding). HoldNames file_of l groups) (sym (ap (λ (l : List Binding). bs ++ l) (crosses None none) ∙ append-nil bs)) held

-- what the initializers of a module call
module _ (m : PlannedModule) (f : Bytes) (is : f ≡ file m) (calls : List Binding) (are : calls ≡ map called m.initializers) where
  pub calls_put : (g : Bytes) (old new : List Binding) → new ≡ old ++ (if is_same f g then calls else []) → new ≡ old ++ called_in (m ∷ []) g
  calls_put g old new e =
      e
      ∙ ap (λ l. old ++ l) (go (is_same f g))
      ∙ ap (λ t. old ++ map called (flat_map initializers_of (cond t (m ∷ []) []))) (nat_list_eq_equiv.symm f g ∙ ap (λ h. is_same g h) is)
    where
      go : (b : Bool) → (if b then calls else []) ≡ map called (flat_map initializers_of (cond b (m ∷ []) []))
      go true = are ∙ ap (map called) (sym (append-nil m.initializers))
      go false = refl

  pub calls_cross : (file_of : Name → Option Bytes) (bs : List Binding) (groups : NameGroups) → HoldNames file_of (bs ++ filter (is_bound_elsewhere file_of f) calls) groups → HoldNames file_of (bs ++ flat_map (crossing_calls file_of) (m ∷ [])) groups
  calls_cross file_of bs groups held = subst (λ (l : List Binding). HoldNames file_of (bs ++ l) groups) ((λ i. filter (is_bound_elsewhere file_of (is i)) (are i)) ∙ sym (append-nil (crossing_calls file_of m))) held
