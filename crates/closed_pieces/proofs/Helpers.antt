-- What the helpers of an accepted folder use is declared.
use Rattle.std.proofs.Common.{List, [], ◌∷◌, inl, inr, subst, map, Contains}
use Rattle.std.proofs.lemmas.List.Elements.{Contains-append_cases}
use Rattle.linked_folders.specs.Accepted.{IsAccepted}
use Rattle.linked_folders.specs.Bodies.{AreBodies}
use Rattle.linked_folders.specs.EmittedMethods.{EmittedMethod}
use Rattle.linked_folders.specs.Pieces.{by_helper, AreLinkedPieces}
use Rattle.linked_folders.specs.Reachable.{Reachable}
use Rattle.linked_folders.specs.SjReachSpecRules.{message_constructor}
use Rattle.sj_emit_help_spec.specs.Helpers.{failure_class, helper_uses, init_name, of, used_helpers, used_of_classes}
use Rattle.sj_emit_help_spec.specs.Words.{bound, class_name}
use Rattle.sj_emit_help_spec.specs.declared.kinds.Helper.{Helper}
use Rattle.sj_emit_help_spec.specs.declared.kinds.Helper.TheVariants as helpers
use Rattle.js_tree.specs.Terms.{Piece}
use Rattle.js_tree.specs.declared.items.Binding.{Binding}
use Rattle.sj_emit_module_spec.specs.Laws.{IsDeclared}
use Rattle.linked_folders.proofs.AboveMade.{arrays_extend}
use Rattle.linked_folders.proofs.Pieces.{reached}
use Rattle.sj_names.specs.WellKnown.{object}
use Rattle.sj_names.specs.declared.entry_points.EntryPoint.{EntryPoint}
use Rattle.sj_names.specs.declared.folders.SourceFile.{SourceFile}
use Rattle.sj_split.proofs.Members.{cons_cases, from_map}
use Rattle.sj_world.specs.Linked.{Linked}
use Rattle.sj_world.specs.declared.facts.Fact.{Fact}
use Rattle.worklist.proofs.Inserted.{nothing_in, only_one}
use Rattle.closed_pieces.proofs.Declared.{Declares}

module _ (entries : List EntryPoint) (files : List SourceFile) (l : Linked) (all : List EmittedMethod) (ps : List Piece) (a : IsAccepted entries files l.world) (bodies : AreBodies l.world entries all) (holds : (f : Fact) → Contains l.facts f → Reachable l.world entries f) (p : AreLinkedPieces l all ps) (d : Declares entries l p.helpers ps) where
  of_classes : (h : Helper) → Contains p.helpers h → (b : Binding) → Contains (used_of_classes h) b → IsDeclared ps b
  of_classes (helpers.Throws f) i b u =
      let c = failure_class f in
      let r = reached entries files l all ps a bodies holds p f i in
      elim (cons_cases (bound c (init_name c)) b (bound c (class_name c) ∷ []) u) [
        | inl same ↦ subst (IsDeclared ps) same (d.functions (message_constructor c) r.1)
        | inr j ↦ subst (IsDeclared ps) (only_one (bound c (class_name c)) b j) (d.made c r.0)
      ]
  of_classes helpers.ArrayClass i b u = subst (IsDeclared ps) (only_one (bound object (class_name object)) b u) (d.classes object (arrays_extend entries files l all ps a bodies (λ f. (holds f, d.listed f)) p i))
  of_classes _ i b u = nothing_in b u

  pub helper_uses_declared : (h : Helper) → Contains p.helpers h → (b : Binding) → Contains (helper_uses h) b → IsDeclared ps b
  helper_uses_declared h i b u = elim (Contains-append_cases (used_of_classes h) (map of (used_helpers h)) b u) [
    | inl j ↦ of_classes h i b j
    | inr j ↦ let m = from_map of (used_helpers h) b j in subst (IsDeclared ps) m.is (d.helpers m.item ((p.are_helpers.exact m.item).1 (by_helper h m.item ((p.are_helpers.exact h).0 i) m.among)))
  ]
