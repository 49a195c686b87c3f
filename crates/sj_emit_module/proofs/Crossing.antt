-- What crosses files: of the bindings that files use of others, those of one file are those that others use of it.
use Rattle.std.proofs.Common.{◌≡◌, Bool, true, false, List, [], ◌∷◌, ◌++◌, Option, Some, None, refl, sym, ap, ◌∙◌, map, cond}
use Rattle.std.specs.Prelude.{filter, not}
use Rattle.std.specs.List.{flat_map}
use Rattle.std.proofs.lemmas.List.{map-append}
use Rattle.std.proofs.lemmas.List.Elements.{filter-append}
use Rattle.std.proofs.lemmas.Slice.Eq.{bytes_eq-Decides}
use Rattle.js_tree.specs.Terms.{Name, Piece}
use Rattle.js_tree.specs.declared.items.Binding.{Binding}
use Rattle.sj_emit_module_spec.specs.Calls.{called}
use Rattle.sj_emit_module_spec.specs.Modules.{is_this, is_another, initializers_of, called_elsewhere, uses_of, is_owned_elsewhere, is_bound_in, is_bound_elsewhere, exported}
use Rattle.sj_emit_module.specs.Shares.{crossing, crossing_calls, crossing_from}
use Rattle.sj_split.specs.Modules.{file}
use Rattle.sj_split.specs.Orders.{Bytes, is_same}
use Rattle.sj_split.specs.declared.plans.PlannedModule.{PlannedModule}

module _ (file_of : Name → Option Bytes) (f : Bytes) where
  abbrev here : List Binding → List Binding
  here bs = filter (is_bound_in file_of f) bs

  -- of one binding: that it is in this file and in another than a third
  both : (g : Bytes) (o : Option Bytes) → is_same f g ≡ true → is_another g o ≡ true → is_this f o ≡ false
  both g None e h = refl
  both g (Some x) e h = ap (λ y. is_same y x) ((bytes_eq-Decides f g).0 e) ∙ absent (is_same g x) h
    where
      absent : (b : Bool) → not b ≡ true → b ≡ false
      absent true k = sym k
      absent false k = refl

  apart : (g : Bytes) (o : Option Bytes) → is_same f g ≡ false → is_another g o ≡ false → is_this f o ≡ false
  apart g None e h = refl
  apart g (Some x) e h = ap (is_same f) (sym ((bytes_eq-Decides g x).0 (present (is_same g x) h))) ∙ e
    where
      present : (b : Bool) → not b ≡ false → b ≡ true
      present true k = refl
      present false k = sym k

  -- bindings of this file that are of no other than it, and those that are of others than a further file
  own_none : (g : Bytes) → is_same f g ≡ true → (bs : List Binding) → here (filter (is_bound_elsewhere file_of g) bs) ≡ []
  own_none g e [] = refl
  own_none g e (b ∷ bs) = go (is_another g (file_of b.owner)) refl (own_none g e bs)
    where
      first : (q : Bool) → q ≡ false → (rest : List Binding) → rest ≡ [] → cond q (b ∷ rest) rest ≡ []
      first true k rest r = ap (λ q. cond q (b ∷ rest) rest) k ∙ r
      first false k rest r = r

      go : (t : Bool) → is_another g (file_of b.owner) ≡ t → here (filter (is_bound_elsewhere file_of g) bs) ≡ [] → here (cond t (b ∷ filter (is_bound_elsewhere file_of g) bs) (filter (is_bound_elsewhere file_of g) bs)) ≡ []
      go true h rest = first (is_this f (file_of b.owner)) (both g (file_of b.owner) e h) (here (filter (is_bound_elsewhere file_of g) bs)) rest
      go false h rest = rest

  others_all : (g : Bytes) → is_same f g ≡ false → (bs : List Binding) → here (filter (is_bound_elsewhere file_of g) bs) ≡ here bs
  others_all g e [] = refl
  others_all g e (b ∷ bs) = go (is_another g (file_of b.owner)) refl (others_all g e bs)
    where
      go : (t : Bool) → is_another g (file_of b.owner) ≡ t → here (filter (is_bound_elsewhere file_of g) bs) ≡ here bs → here (cond t (b ∷ filter (is_bound_elsewhere file_of g) bs) (filter (is_bound_elsewhere file_of g) bs)) ≡ cond (is_this f (file_of b.owner)) (b ∷ here bs) (here bs)
      go true h rest = ap (λ l. cond (is_this f (file_of b.owner)) (b ∷ l) l) rest
      go false h rest = rest ∙ ap (λ q. cond q (b ∷ here bs) (here bs)) (sym (apart g (file_of b.owner) e h))

  from_file : (o : Option Bytes) (bs : List Binding) → here (crossing_from file_of o bs) ≡ cond (is_another f o) (here bs) []
  from_file None bs = refl
  from_file (Some g) bs = go (is_same f g) refl
    where
      go : (t : Bool) → is_same f g ≡ t → here (filter (is_bound_elsewhere file_of g) bs) ≡ cond (not t) (here bs) []
      go true e = own_none g e bs
      go false e = others_all g e bs

  of_pieces : (ps : List Piece) → here (flat_map (crossing file_of) ps) ≡ here (flat_map uses_of (filter (is_owned_elsewhere file_of f) ps))
  of_pieces [] = refl
  of_pieces (p ∷ ps) =
      filter-append (is_bound_in file_of f) (crossing file_of p) (flat_map (crossing file_of) ps)
      ∙ (λ i. from_file (file_of p.owner) p.uses i ++ of_pieces ps i)
      ∙ go (is_another f (file_of p.owner))
    where
      rest : List Piece
      rest = filter (is_owned_elsewhere file_of f) ps

      go : (t : Bool) → cond t (here p.uses) [] ++ here (flat_map uses_of rest) ≡ here (flat_map uses_of (cond t (p ∷ rest) rest))
      go true = sym (filter-append (is_bound_in file_of f) p.uses (flat_map uses_of rest))
      go false = refl

  of_modules : (ms : List PlannedModule) → here (flat_map (crossing_calls file_of) ms) ≡ here (called_elsewhere ms f)
  of_modules [] = refl
  of_modules (m ∷ ms) =
      filter-append (is_bound_in file_of f) (crossing_calls file_of m) (flat_map (crossing_calls file_of) ms)
      ∙ (λ i. from_file (Some (file m)) (map called m.initializers) i ++ of_modules ms i)
      ∙ go (is_another f (Some (file m)))
    where
      rest : List PlannedModule
      rest = filter (λ n. is_another f (Some (file n))) ms

      go : (t : Bool) → cond t (here (map called m.initializers)) [] ++ here (map called (flat_map initializers_of rest)) ≡ here (map called (flat_map initializers_of (cond t (m ∷ rest) rest)))
      go true = sym (filter-append (is_bound_in file_of f) (map called m.initializers) (map called (flat_map initializers_of rest))) ∙ ap here (sym (map-append called m.initializers (flat_map initializers_of rest)))
      go false = refl

  pub of_both : (ps : List Piece) (ms : List PlannedModule) → here (flat_map (crossing file_of) ps ++ flat_map (crossing_calls file_of) ms) ≡ exported file_of f ps (called_elsewhere ms f)
  of_both ps ms =
      filter-append (is_bound_in file_of f) (flat_map (crossing file_of) ps) (flat_map (crossing_calls file_of) ms)
      ∙ (λ i. of_pieces ps i ++ of_modules ms i)
      ∙ sym (filter-append (is_bound_in file_of f) (flat_map uses_of (filter (is_owned_elsewhere file_of f) ps)) (called_elsewhere ms f))
