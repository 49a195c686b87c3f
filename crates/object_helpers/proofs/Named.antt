-- What is told by the name of a binding: no class, function or field has the name of a helper, and each helper its own.
use Rattle.std.proofs.Common.{◌≡◌, ℕ, false, sym, ap, ◌∙◌}
use Rattle.std.specs.Prelude.{◌==◌}
use Rattle.sj_emit_help_spec.specs.Helpers.{helper_name}
use Rattle.sj_emit_help_spec.specs.Words.{helper}
use Rattle.sj_emit_help_spec.specs.declared.kinds.Helper.{Helper}
use Rattle.js_tree.specs.declared.items.Binding.{Binding}
use Rattle.proper_pieces.proofs.Names.{rank, helper_rank}
use Rattle.sj_names.proofs.Same.{impossible}
use Rattle.object_helpers.proofs.HelperNames.{one_helper}

-- a binding of a name that begins as no helper is none
pub no_helper : {A : Type 0} (b : Binding) (r : ℕ) → rank b.name ≡ r → (r == 10) ≡ false → (h : Helper) → b ≡ helper (helper_name h) → A
no_helper b r is other h same = impossible (sym other ∙ ap (λ (n : ℕ). n == 10) (sym is ∙ ap (λ (c : Binding). rank c.name) same ∙ helper_rank h))

-- the binding of a helper is that of no other
pub named_as : (g h : Helper) → helper (helper_name g) ≡ helper (helper_name h) → g ≡ h
named_as g h same = one_helper g h (ap (λ (b : Binding). b.name) same)
