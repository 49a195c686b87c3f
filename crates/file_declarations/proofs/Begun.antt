-- What constants and variables begin with, that constants tell the classes above their own, and how long chains of classes are.
use Rattle.std.proofs.Common.{◌≡◌, ◌≤◌, ℕ, zero, suc, Bool, true, false, List, [], ◌∷◌, length, map, sym, ap, subst, ◌∙◌, refl, Option, Some, None, cond, codes, arith}
use Rattle.std.specs.Prelude.{◌↔◌, pos, is_some}
use Rattle.std.proofs.lemmas.List.{append_cancel_left}
use Rattle.std.specs.List.{list_any}
use Rattle.file_tops.proofs.Run.{some_same}
use Rattle.file_tops.specs.Tops.{literal_value, literal_properties}
use Rattle.sj_emit_help_spec.specs.Helpers.{constants, marker_property}
use Rattle.sj_emit_help_spec.specs.Words.{marker}
use Rattle.ir_mean.specs.Dispatch.{chain_from}
use Rattle.ir_mean.specs.World as ir_world
use Rattle.js_mean.specs.Objects.{with_property, no_properties}
use Rattle.js_mean.specs.States as js
use Rattle.js_tree.specs.Terms.{Name}
use Rattle.agree_calls.specs.Pieces.{zero_of as zero_literal}
use Rattle.agree_calls.proofs.Marked.{markers_tell}
use Rattle.agree_calls.specs.Made.{zero_shown}
use Rattle.sj_mangling.proofs.Injective.{mangled_texts_differ}
use Rattle.sj_mangling.specs.Bindings.{class_binding}
use Rattle.sj_mangling.specs.Mangling.{mangled}
use Rattle.sj_mangling.specs.declared.bindings.ClassBinding.TheVariants.{Marker}
use Rattle.sj_trees.specs.declared.types.IrType.{IrType}
use Rattle.sj_trees.specs.declared.types.IrType.TheVariants.{Undefined, Boolean, Char, Byte, Short, Int, Long, String}
use Rattle.agree_calls.specs.Settings.{MarksAncestors}
use Rattle.sj_world.specs.Ancestors.{IsAncestor, by_path, next_on_chain}
use Rattle.sj_world.specs.Known.{Classes, is_known, is_same}
use Rattle.sj_world.specs.Paths.{stay}
use Rattle.sj_world.specs.Tables.{AreAncestors}

-- the marker of a class is the first of its constants, and none behind it hides it
markers_stay : (names : List Name) (own all : Name → Option js.Value) → literal_properties (map marker_property names) own ≡ Some all → all (codes "s") ≡ own (codes "s")
markers_stay [] own all h = ap (λ (o : Name → Option js.Value). o (codes "s")) (sym (some_same own all h))
markers_stay (a ∷ names) own all h = markers_stay names (with_property (marker a) (js.number (pos 1)) own) all h

pub marker_held : (c : Name) (names : List Name) (all : Name → Option js.Value) → literal_properties (constants c names) no_properties ≡ Some all → all (codes "s") ≡ Some (js.text (class_binding Marker c))
marker_held c names all h = markers_stay names (with_property (codes "s") (js.text (marker c)) no_properties) all h

-- constants tell the classes above their own
pub marks_above : (w : Classes) (d : Name) (names : List Name) (own : Name → Option js.Value) → is_known w d ≡ true → AreAncestors w d names → literal_properties (constants d names) no_properties ≡ Some own → MarksAncestors w own
marks_above w d names own known above literal = record { known = λ c e. subst (λ (x : Name). IsAncestor w x x) (same c e) (record { known = known; way = by_path stay }); above = λ c b e. subst (λ (x : Name). (is_some (own (marker b)) ≡ true) ↔ IsAncestor w x b) (same c e) (markers_tell w d b names own above literal) }
  where
    same : (c : Name) → own (codes "s") ≡ Some (js.text (class_binding Marker c)) → d ≡ c
    same c e =
        let texts : ◌≡◌ {A = Option js.Value} (Some (js.text (marker d))) (Some (js.text (marker c))) = sym (marker_held d names own literal) ∙ e in
        let markers : marker d ≡ marker c = cc in
        mangled_texts_differ d c (append_cancel_left (codes "i_") (mangled d) (mangled c) markers)

pub same_classes : (a b : List js.ClassLink) → js.holds false (js.class a) ≡ js.holds false (js.class b) → a ≡ b
same_classes a b e = cc

pub chain_length : (w : ir_world.World) (k : ℕ) (seen : List Name) (c : Name) → length (chain_from w k seen c) ≤ k
chain_length w zero seen c = omega arith
chain_length w (suc k) seen c = go (list_any (is_same c) seen) (next_on_chain w c) (λ d. chain_length w k (c ∷ seen) d)
  where
    go : (b : Bool) (o : Option Name) → ((d : Name) → length (chain_from w k (c ∷ seen) d) ≤ k) → length (cond b [] (c ∷ elim o as (λ o. List Name) [ None ↦ [] | Some d ↦ chain_from w k (c ∷ seen) d ])) ≤ suc k
    go true o below = omega arith
    go false None below = omega arith
    go false (Some d) below = let h : length (chain_from w k (c ∷ seen) d) ≤ k = below d in omega (arith, h)

-- what the variable of a static field begins with
pub zero_literal_is : (t : IrType) → literal_value (zero_literal t) ≡ Some (zero_shown t)
zero_literal_is Boolean = refl
zero_literal_is Char = refl
zero_literal_is Byte = refl
zero_literal_is Short = refl
zero_literal_is Int = refl
zero_literal_is Long = refl
zero_literal_is String = refl
zero_literal_is Undefined = refl
zero_literal_is _ = refl
