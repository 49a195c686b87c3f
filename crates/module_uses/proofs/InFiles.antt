-- The test of a file is passed by what its pieces use and its initializers call.
use Rattle.std.proofs.Common.{◌≡◌, true, List, Contains, sym, subst}
use Rattle.std.proofs.lemmas.Bool.{and_from}
use Rattle.std.proofs.lemmas.List.Folds.{Any-from_list_any, list_any_at}
use Rattle.running_modules.proofs.Given.{same_binding}
use Rattle.js_tree.specs.Terms.{Piece}
use Rattle.js_tree.specs.declared.items.Binding.{Binding}
use Rattle.sj_emit_module_spec.proofs.Chosen.{from_own, into_own}
use Rattle.sj_emit_expr_spec.specs.Uses.{is_same_binding}
use Rattle.sj_names.proofs.Same.{text-refl}
use Rattle.sj_names.specs.Same.{is_same_text}
use Rattle.sj_split.specs.Orders.{Bytes}
use Rattle.sj_split.specs.declared.plans.PlannedModule.{PlannedModule}
use Rattle.module_uses.specs.Laws.{FilesUse}
use Rattle.module_uses.specs.Used.{bindings_in, uses_in}

itself : (b : Binding) → is_same_binding b b ≡ true
itself b = and_from (is_same_text b.owner b.owner) (is_same_text b.name b.name) (text-refl b.owner) (text-refl b.name)

module _ (modules : List PlannedModule) (ps : List Piece) (f : Bytes) (b : Binding) where
  found : uses_in modules ps f b ≡ true → Contains (bindings_in modules ps f) b
  found h = let at = Any-from_list_any (is_same_binding b) (bindings_in modules ps f) h in subst (Contains (bindings_in modules ps f)) (sym (same_binding b at.1 at.4)) (at.0, at.2, at.3)

  into : Contains (bindings_in modules ps f) b → uses_in modules ps f b ≡ true
  into i = list_any_at (is_same_binding b) (bindings_in modules ps f) i.0 b i.1 (subst (λ (c : Binding). is_same_binding b c ≡ true) (sym i.2) (itself b))

pub used_there : FilesUse
used_there modules ps f b = (λ h. from_own modules ps f b (found modules ps f b h), λ u. into modules ps f b (into_own modules ps f b u))
