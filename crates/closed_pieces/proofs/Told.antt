-- What a function that tells receivers apart uses is declared: the tests of kinds, and the functions of methods whose bodies are needed; one of a reflective name uses boxed chars too, and what
-- throws where there is no method.
use Rattle.std.proofs.Common.{◌⊎◌, ◌++◌, Bool, true, false, List, [], ◌∷◌, inl, inr, sym, subst, Contains, codes, if◌then◌else◌}
use Rattle.std.specs.List.{flat_map}
use Rattle.std.proofs.lemmas.List.Elements.{Contains-append_cases}
use Rattle.linked_folders.proofs.Forms.{in_one}
use Rattle.linked_folders.specs.Dispatch.{Told, IsReachedTarget, AreTold, told_none, told, untold, told_uses, IsDispatchPiece, Reflected, IsReflectedTarget, AreReflected, reflected_none, reflected, unreflected, reflected_uses, IsReflectivePiece}
use Rattle.linked_folders.specs.SjEmitClassSpecPieces.{box_uses, is_char}
use Rattle.linked_folders.specs.Reachable.{Reachable}
use Rattle.linked_folders.specs.SjReachSpecRules.{public_member}
use Rattle.sj_emit_help_spec.specs.Helpers.{helper_name}
use Rattle.sj_emit_help_spec.specs.Words.{bound, helper, is_name, kind_class, public_function, told_kinds}
use Rattle.sj_emit_help_spec.specs.declared.kinds.Helper.{Helper}
use Rattle.sj_emit_help_spec.specs.declared.kinds.Helper.TheVariants.{BoxedChar, TestOf, Throws}
use Rattle.sj_emit_help_spec.specs.declared.kinds.Failure.TheVariants.{Method}
use Rattle.sj_emit_help_spec.specs.declared.kinds.Kind.{Kind}
use Rattle.js_tree.specs.Terms.{Piece}
use Rattle.js_tree.specs.declared.items.Binding.{Binding}
use Rattle.sj_emit_module_spec.specs.Laws.{IsDeclared}
use Rattle.sj_names.specs.declared.entry_points.EntryPoint.{EntryPoint}
use Rattle.sj_names.specs.declared.method_names.MethodName.{MethodName}
use Rattle.sj_split.proofs.Members.{cons_cases}
use Rattle.sj_world.specs.Known.{Classes}
use Rattle.sj_world.specs.Linked.{Linked}
use Rattle.sj_world.specs.declared.facts.Fact.{Fact}
use Rattle.sj_world.specs.declared.facts.Fact.TheVariants.{Body}
use Rattle.worklist.proofs.Inserted.{nothing_in, only_one}
use Rattle.closed_pieces.proofs.Declared.{Declares}
use Rattle.closed_pieces.proofs.Places.{from_once}

-- what is told of a kind is reached
each_reached : (w : Classes) (known : List Fact) (m : MethodName) (ks : List Kind) (ts : List Told) → AreTold w known m ks ts → (t : Told) → Contains ts t → IsReachedTarget w known (kind_class t.kind) m t.owner
each_reached w known m _ _ told_none t i = nothing_in t i
each_reached w known m _ _ (told k ks owner ts are h) t i = elim (Contains-append_cases ts (record { kind = k; owner = owner } ∷ []) t i) [
  | inl before ↦ each_reached w known m ks ts are t before
  | inr last ↦ subst (λ (x : Told). IsReachedTarget w known (kind_class x.kind) m x.owner) (only_one (record { kind = k; owner = owner }) t last) h
]
each_reached w known m _ _ (untold k ks ts are none) t i = each_reached w known m ks ts are t i

-- what a reflective name reaches on a kind is reached
each_reflected : (w : Classes) (known : List Fact) (p : MethodName) (ks : List Kind) (ts : List Reflected) → AreReflected w known p ks ts → (t : Reflected) → Contains ts t → IsReflectedTarget w known (kind_class t.kind) p t.method t.owner
each_reflected w known p _ _ reflected_none t i = nothing_in t i
each_reflected w known p _ _ (reflected k ks m owner ts are h) t i = elim (Contains-append_cases ts (record { kind = k; owner = owner; method = m } ∷ []) t i) [
  | inl before ↦ each_reflected w known p ks ts are t before
  | inr last ↦ subst (λ (x : Reflected). IsReflectedTarget w known (kind_class x.kind) p x.method x.owner) (only_one (record { kind = k; owner = owner; method = m }) t last) h
]
each_reflected w known p _ _ (unreflected k ks ts are none) t i = each_reflected w known p ks ts are t i

module _ (entries : List EntryPoint) (l : Linked) (having : List Helper) (ps : List Piece) (d : Declares entries l having ps) (holds : (f : Fact) → Contains l.facts f → Reachable l.world entries f) (m : MethodName) (q : Piece) (is : IsDispatchPiece l.world l.facts m q) (helped : (h : Helper) → Contains q.uses (helper (helper_name h)) → IsDeclared ps (helper (helper_name h))) where
  case_declared : (t : Told) → IsReachedTarget l.world l.facts (kind_class t.kind) m t.owner → (b : Binding) → Contains q.uses b → Contains (told_uses m t) b → IsDeclared ps b
  case_declared t reached b u i = elim (cons_cases (helper (is_name t.kind)) b (bound t.owner (public_function t.owner m) ∷ []) i) [
    | inl same ↦ subst (IsDeclared ps) same (helped (TestOf t.kind) (subst (Contains q.uses) (sym same) u))
    | inr last ↦ subst (IsDeclared ps) (only_one (bound t.owner (public_function t.owner m)) b last) (d.functions (public_member t.owner m) (holds (Body (public_member t.owner m)) reached.reached))
  ]

  pub told_uses_declared : (b : Binding) → Contains q.uses b → IsDeclared ps b
  told_uses_declared b u =
      let o = in_one (told_uses m) is.cases b (from_once (flat_map (told_uses m) is.cases) b (subst (λ (r : Piece). Contains r.uses b) is.piece_is u)) in
      case_declared o.item (each_reached l.world l.facts m told_kinds is.cases is.are_told o.item o.among) b u o.within

module _ (entries : List EntryPoint) (l : Linked) (having : List Helper) (ps : List Piece) (d : Declares entries l having ps) (holds : (f : Fact) → Contains l.facts f → Reachable l.world entries f) (p : MethodName) (q : Piece) (is : IsReflectivePiece l.world l.facts p q) (helped : (h : Helper) → Contains q.uses (helper (helper_name h)) → IsDeclared ps (helper (helper_name h))) where
  box_declared : (m : MethodName) (b : Binding) → Contains q.uses b → Contains (box_uses m) b → IsDeclared ps b
  box_declared m b u i = go (is_char m.result) i
    where
      go : (c : Bool) → Contains (if c then helper (codes "$C") ∷ [] else []) b → IsDeclared ps b
      go true j = let same = only_one (helper (codes "$C")) b j in subst (IsDeclared ps) same (helped BoxedChar (subst (Contains q.uses) (sym same) u))
      go false j = nothing_in b j

  name_case_declared : (t : Reflected) → IsReflectedTarget l.world l.facts (kind_class t.kind) p t.method t.owner → (b : Binding) → Contains q.uses b → Contains (reflected_uses t) b → IsDeclared ps b
  name_case_declared t reached b u i = elim (cons_cases (helper (is_name t.kind)) b (box_uses t.method ++ bound t.owner (public_function t.owner t.method) ∷ []) i) [
    | inl same ↦ subst (IsDeclared ps) same (helped (TestOf t.kind) (subst (Contains q.uses) (sym same) u))
    | inr later ↦ behind (Contains-append_cases (box_uses t.method) (bound t.owner (public_function t.owner t.method) ∷ []) b later)
  ]
    where
      behind : Contains (box_uses t.method) b ⊎ Contains (bound t.owner (public_function t.owner t.method) ∷ []) b → IsDeclared ps b
      behind (inl j) = box_declared t.method b u j
      behind (inr j) = subst (IsDeclared ps) (only_one (bound t.owner (public_function t.owner t.method)) b j) (d.functions (public_member t.owner t.method) (holds (Body (public_member t.owner t.method)) reached.target.reached))

  pub name_uses_declared : (b : Binding) → Contains q.uses b → IsDeclared ps b
  name_uses_declared b u = go (Contains-append_cases (flat_map reflected_uses is.cases) (helper (codes "$nme") ∷ []) b (from_once (flat_map reflected_uses is.cases ++ helper (codes "$nme") ∷ []) b (subst (λ (r : Piece). Contains r.uses b) is.piece_is u)))
    where
      go : Contains (flat_map reflected_uses is.cases) b ⊎ Contains (helper (codes "$nme") ∷ []) b → IsDeclared ps b
      go (inl j) = let o = in_one reflected_uses is.cases b j in name_case_declared o.item (each_reflected l.world l.facts p told_kinds is.cases is.are_reflected o.item o.among) b u o.within
      go (inr j) = let same = only_one (helper (codes "$nme")) b j in subst (IsDeclared ps) same (helped (Throws Method) (subst (Contains q.uses) (sym same) u))
