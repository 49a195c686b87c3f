-- Loops that add what each thing of a list gives.
use Rattle.std.proofs.Common.{◌≡◌, ◌+◌, ℕ, Bool, List, [], ◌∷◌, ◌++◌, Option, Some, sym, ap, subst, ◌∙◌, map, take, slice_get, append_assoc}
use Rattle.std.specs.Prelude.{filter}
use Rattle.std.specs.List.{flat_map}
use Rattle.std.proofs.lemmas.List.{take_more, map-append}
use Rattle.std.proofs.lemmas.List.Concat.{flat_map-append}
use Rattle.std.proofs.lemmas.List.Elements.{filter-append}
use Rattle.std.proofs.lemmas.Option.{slice_get_within, get_or_from_slice_get}
use Rattle.js_tree.specs.Terms.{Name, Piece}
use Rattle.js_tree.specs.Views.{piece_view}
use Rattle.js_tree.specs.declared.items.Binding.{Binding}
use Rattle.js_tree.specs.declared.items.JsPiece.{JsPiece}
use Rattle.sj_emit_module_spec.specs.Calls.{called}
use Rattle.sj_emit_module_spec.specs.Modules.{is_this, initializers_of, called_in, uses_of, item_of, is_owned_in, is_bound_elsewhere}
use Rattle.sj_emit_module.specs.Groups.{HoldNames}
use Rattle.sj_emit_module.specs.Shares.{crossing, crossing_calls}
use Rattle.sj_emit_module.specs.declared.groups.NameGroups.{NameGroups}
use Rattle.sj_split.specs.Modules.{file}
use Rattle.sj_split.specs.Orders.{Bytes}
use Rattle.sj_split.specs.declared.plans.PlannedModule.{PlannedModule}

pub more_taken : {X : Type 0} (xs : List X) (n : ℕ) (x : X) → slice_get xs n ≡ Some x → take (n + 1) xs ≡ take n xs ++ x ∷ []
more_taken xs n x at = take_more xs n x (slice_get_within xs n x at) ∙ ap (λ y. take n xs ++ y ∷ []) (get_or_from_slice_get xs n x x at)

-- what lists give joins as they do
abbrev pub Joins : {X Y : Type 0} → (List X → List Y) → Type 0
Joins {X} give = (xs ys : List X) → give (xs ++ ys) ≡ give xs ++ give ys

module _ {X Y : Type 0} (give : List X → List Y) (joins : Joins give) (xs : List X) (n : ℕ) (x : X) (at : slice_get xs n ≡ Some x) where
  gives_more : give (take (n + 1) xs) ≡ give (take n xs) ++ give (x ∷ [])
  gives_more = ap give (more_taken xs n x at) ∙ joins (take n xs) (x ∷ [])

  pub appended_more : (old mid new : List Y) → mid ≡ old ++ give (take n xs) → new ≡ mid ++ give (x ∷ []) → new ≡ old ++ give (take (n + 1) xs)
  appended_more old mid new h e = e ∙ ap (λ m. m ++ give (x ∷ [])) h ∙ append_assoc old (give (take n xs)) (give (x ∷ [])) ∙ ap (λ m. old ++ m) (sym gives_more)

  pub pushed_more : (mid new : List Y) → mid ≡ give (take n xs) → new ≡ mid ++ give (x ∷ []) → new ≡ give (take (n + 1) xs)
  pushed_more mid new h e = e ∙ ap (λ m. m ++ give (x ∷ [])) h ∙ sym gives_more

-- the same of groups that hold names of bindings
pub held_more : {X : Type 0} (give : List X → List Binding) → Joins give → (xs : List X) (n : ℕ) (x : X) → slice_get xs n ≡ Some x → (file_of : Name → Option Bytes) (bs : List Binding) (groups : NameGroups) → HoldNames file_of ((bs ++ give (take n xs)) ++ give (x ∷ [])) groups → HoldNames file_of (bs ++ give (take (n + 1) xs)) groups
held_more give joins xs n x at file_of bs groups held = subst (λ (l : List Binding). HoldNames file_of l groups) (append_assoc bs (give (take n xs)) (give (x ∷ [])) ∙ ap (λ (l : List Binding). bs ++ l) (sym (gives_more give joins xs n x at))) held

module _ (file_of : Name → Option Bytes) (f : Bytes) where
  pub elsewhere_join : Joins (λ bs. filter (is_bound_elsewhere file_of f) bs)
  elsewhere_join xs ys = filter-append (is_bound_elsewhere file_of f) xs ys

  pub items_join : Joins (λ (ps : List JsPiece). map item_of (filter (is_owned_in file_of f) (map piece_view ps)))
  items_join xs ys =
      let test = is_owned_in file_of f in
      ap (λ (l : List Piece). map item_of (filter test l)) (map-append piece_view xs ys)
      ∙ ap (map item_of) (filter-append test (map piece_view xs) (map piece_view ys))
      ∙ map-append item_of (filter test (map piece_view xs)) (filter test (map piece_view ys))

  pub uses_join : Joins (λ (ps : List JsPiece). flat_map uses_of (filter (is_owned_in file_of f) (map piece_view ps)))
  uses_join xs ys =
      let test = is_owned_in file_of f in
      ap (λ (l : List Piece). flat_map uses_of (filter test l)) (map-append piece_view xs ys)
      ∙ ap (flat_map uses_of) (filter-append test (map piece_view xs) (map piece_view ys))
      ∙ flat_map-append uses_of (filter test (map piece_view xs)) (filter test (map piece_view ys))

module _ (file_of : Name → Option Bytes) where
  pub crossing_join : Joins (λ (ps : List JsPiece). flat_map (crossing file_of) (map piece_view ps))
  crossing_join xs ys = ap (flat_map (crossing file_of)) (map-append piece_view xs ys) ∙ flat_map-append (crossing file_of) (map piece_view xs) (map piece_view ys)

  pub crossing_calls_join : Joins (λ (ms : List PlannedModule). flat_map (crossing_calls file_of) ms)
  crossing_calls_join xs ys = flat_map-append (crossing_calls file_of) xs ys

-- what the initializers of modules call
module _ (f : Bytes) where
  called_join : (test : PlannedModule → Bool) (ms ns : List PlannedModule) → map called (flat_map initializers_of (filter test (ms ++ ns))) ≡ map called (flat_map initializers_of (filter test ms)) ++ map called (flat_map initializers_of (filter test ns))
  called_join test ms ns =
      ap (λ (l : List PlannedModule). map called (flat_map initializers_of l)) (filter-append test ms ns)
      ∙ ap (map called) (flat_map-append initializers_of (filter test ms) (filter test ns))
      ∙ map-append called (flat_map initializers_of (filter test ms)) (flat_map initializers_of (filter test ns))

  pub own_join : Joins (λ (ms : List PlannedModule). called_in ms f)
  own_join ms ns = called_join (λ m. is_this f (Some (file m))) ms ns
