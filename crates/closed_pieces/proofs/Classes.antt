-- What the pieces of a class use is declared, but for the functions of its methods.
use Rattle.std.proofs.Common.{◌≡◌, ◌++◌, ◌||◌, Bool, true, false, List, [], ◌∷◌, inl, inr, Option, Some, None, refl, sym, subst, codes, Contains, if◌then◌else◌}
use Rattle.std.specs.Prelude.{is_none}
use Rattle.std.specs.List.{All}
use Rattle.std.proofs.lemmas.Bool.{or_right}
use Rattle.std.proofs.lemmas.List.Elements.{All-nil, All-cons, All-contains, Contains-append_left, Contains-append_right, Contains-append_cases}
use Rattle.linked_folders.proofs.Derivations.{closed}
use Rattle.linked_folders.proofs.Parts.{constants_there, statics_among, in_statics}
use Rattle.linked_folders.proofs.Uses.{combine}
use Rattle.linked_folders.specs.Classes.{AreParts}
use Rattle.linked_folders.specs.Entries.{IsLive, IsMethodEntry, direct, proxy, AreEntries}
use Rattle.linked_folders.specs.Reachable.{Reachable}
use Rattle.linked_folders.specs.SjReachSpecRules.{Reads, of_load, asked_body, load_made, plain_constructor, public_member}
use Rattle.sj_emit_help_spec.specs.Helpers.{helper_name}
use Rattle.sj_emit_help_spec.specs.Words.{bound, helper, all_kinds, class_name}
use Rattle.sj_emit_help_spec.specs.declared.kinds.Failure.TheVariants.{Cast as CastFails}
use Rattle.sj_emit_help_spec.specs.declared.kinds.Helper.{Helper}
use Rattle.sj_emit_help_spec.specs.declared.kinds.Helper.TheVariants as helpers
use Rattle.sj_emit_help_spec.specs.declared.kinds.Kind.{Kind}
use Rattle.js_tree.specs.Terms.{Name, Piece}
use Rattle.js_tree.specs.declared.items.Binding.{Binding}
use Rattle.sj_emit_module_spec.specs.Laws.{IsDeclared}
use Rattle.linked_folders.specs.SjEmitClassSpecPieces.{Parts, pieces, when, constants_piece, class_piece, class_uses, parent_uses, own_constants, uses_of_entries, entry_uses, box_uses, is_char, all_statics, variable_piece, setter_piece, cell_piece, cell_pieces, load_piece, store_piece, init_name, test_piece, test_uses, test_binding, cast_piece, kind_of_class, constants_of, class_of as class_pieces_of, module_of, tests_of}
use Rattle.sj_emit_expr_spec.specs.Templates.{member_name}
use Rattle.sj_emit_expr_spec.specs.Uses.{function_binding}
use Rattle.sj_infos.specs.declared.forms.BodyForm.TheVariants as forms
use Rattle.sj_infos.specs.declared.infos.Info.TheVariants.{Load}
use Rattle.sj_mangling.specs.Bindings.{class_binding}
use Rattle.sj_mangling.specs.declared.bindings.ClassBinding.TheVariants.{Instance, IsInstance}
use Rattle.sj_names.specs.declared.entry_points.EntryPoint.{EntryPoint}
use Rattle.sj_names.specs.declared.method_names.MethodName.{MethodName}
use Rattle.sj_split.proofs.Members.{at_first, further, cons_cases, from_map, from_filter}
use Rattle.sj_trees.specs.declared.classes.FieldDef.{FieldDef}
use Rattle.sj_world.specs.Known.{is_same}
use Rattle.sj_world.specs.Linked.{Linked}
use Rattle.sj_world.specs.declared.facts.Fact.{Fact}
use Rattle.sj_world.specs.declared.facts.Fact.TheVariants.{Body, Made}
use Rattle.sj_world.specs.declared.linked.MethodEntry.{MethodEntry}
use Rattle.worklist.proofs.Inserted.{nothing_in, only_one}
use Rattle.closed_pieces.proofs.Declared.{Declares}
use Rattle.linked_folders.proofs.Parts.{test_among}
use Rattle.linked_folders.proofs.Forms.{body_tells, in_one}
use Rattle.closed_pieces.proofs.Places.{from_once}

module _ (entries : List EntryPoint) (l : Linked) (having : List Helper) (ps : List Piece) (d : Declares entries l having ps) (holds : (f : Fact) → Contains l.facts f → Reachable l.world entries f) (methods : AreEntries l.world l.facts l.entries) where
  abbrev Is : Binding → Type 0
  Is = IsDeclared ps

  -- the helpers that a piece uses are declared
  abbrev pub Helped : Piece → Type 0
  Helped q = (h : Helper) → Contains q.uses (helper (helper_name h)) → Is (helper (helper_name h))

  -- where its helpers are declared, what the piece uses is
  abbrev Ready : Piece → Type 0
  Ready q = Helped q → (b : Binding) → Contains q.uses b → Is b

  one_ready : (q : Piece) → Ready q → All Ready (q ∷ [])
  one_ready q h = All-cons Ready q [] h (All-nil Ready)

  ready_when : (t : Bool) (qs : List Piece) → (t ≡ true → All Ready qs) → All Ready (when t qs)
  ready_when true qs h = h refl
  ready_when false qs h = All-nil Ready

  unused : (q : Piece) → q.uses ≡ [] → Ready q
  unused q none h b i = nothing_in b (subst (λ (bs : List Binding). Contains bs b) none i)

  box : (q : Piece) → Helped q → (m : MethodName) (b : Binding) → Contains (box_uses m) b → Contains q.uses b → Is b
  box q h m b i u = go (is_char m.result) i
    where
      go : (t : Bool) → Contains (if t then helper (codes "$C") ∷ [] else []) b → Is b
      go true j = let same = only_one (helper (codes "$C")) b j in subst Is same (h helpers.BoxedChar (subst (Contains q.uses) (sym same) u))
      go false j = nothing_in b j

  -- a direct entry hands on to the function of a needed body, one of a reflective name boxes at most
  entry : (q : Piece) → Helped q → (e : MethodEntry) → IsMethodEntry l.world l.facts e → (b : Binding) → Contains (entry_uses e) b → Contains q.uses b → Is b
  entry q h _ (direct c owner m k) b i u = go (is_none m.result) i
    where
      go : (t : Bool) → Contains (if t then box_uses m else function_binding (public_member owner m) ∷ []) b → Is b
      go true j = box q h m b j u
      go false j = subst Is (only_one (function_binding (public_member owner m)) b j) (d.functions (public_member owner m) (holds (Body (public_member owner m)) k.reached))
  entry q h _ (proxy c n t k) b i u = box q h t b (subst (λ (x : Bool). Contains (if x then box_uses t else bound c (member_name (public_member c t)) ∷ []) b) (body_tells k.reflective.definition.body (forms.Reflective n) k.reflective.calls) i) u

  module _ (superclasses : (c s : Name) (p : Parts) → AreParts l c p → IsLive l.world l.facts c → p.class.superclass ≡ Some s → IsLive l.world l.facts s) (c : Name) (p : Parts) (named : p.class.name ≡ c) (are : AreParts l c p) (there : (q : Piece) → Contains (pieces p) q → Contains ps q) where
    -- the name of a piece of the class's own
    own : (q : Piece) → q.owner ≡ p.class.name → Contains (pieces p) q → Is (bound p.class.name q.name)
    own q owned i = record { piece = q; among = there q i; owned = owned; named = refl }

    abbrev its_class : Piece
    its_class = class_piece p.class.name p.class.superclass p.entries p.fields

    class_ready : p.is_live ≡ true → Ready its_class
    class_ready live h b u = elim (Contains-append_cases (parent_uses p.class.superclass) (own_constants p.class.name ∷ uses_of_entries p.entries) b (from_once (class_uses p.class.name p.class.superclass p.entries) b u)) [
      | inl i ↦ parent p.class.superclass refl i
      | inr i ↦ elim (cons_cases (own_constants p.class.name) b (uses_of_entries p.entries) i) [
        | inl same ↦ subst Is same (own (constants_piece p.class.name p.ancestors) refl (constants_there p live))
        | inr j ↦ let o = in_one entry_uses p.entries b j in entry its_class h o.item ((methods.exact o.item).0 (from_filter (λ (e : MethodEntry). is_same e.class c) l.entries o.item (subst (λ (es : List MethodEntry). Contains es o.item) are.entries o.among)).among) b o.within u
      ]
    ]
      where
        parent : (s : Option Name) → p.class.superclass ≡ s → Contains (parent_uses s) b → Is b
        parent None e i = nothing_in b i
        parent (Some s) e i = subst Is (only_one (bound s (class_name s)) b i) (d.classes s (superclasses c s p are (are.live.0 live) e))

    statics_ready : (fs : List FieldDef) → ((f : FieldDef) → Contains fs f → Contains p.statics f) → All Ready (all_statics p.class.name fs)
    statics_ready [] among = All-nil Ready
    statics_ready (f ∷ fs) among =
        let variable = variable_piece p.class.name f in
        let its = own variable refl (statics_among p variable (in_statics p.class.name p.statics f (among f (at_first f fs))).0) in
        All-cons Ready variable (setter_piece p.class.name f ∷ all_statics p.class.name fs) (unused variable refl) (All-cons Ready (setter_piece p.class.name f) (all_statics p.class.name fs) (λ h b u. subst Is (only_one (bound p.class.name variable.name) b u) its) (statics_ready fs (λ g i. among g (further f g fs i))))

    -- the cell of a module
    cell_there : (p.is_loaded || p.is_stored) ≡ true → Is (bound p.class.name (class_binding Instance p.class.name))
    cell_there h = let cell = cell_piece p.class.name in own cell refl (Contains-append_left (constants_of p ++ class_pieces_of p ++ all_statics p.class.name p.statics ++ module_of p) (tests_of p) cell (Contains-append_right (constants_of p ++ class_pieces_of p ++ all_statics p.class.name p.statics) (module_of p) cell (subst (λ (t : Bool). Contains (when t (cell_pieces p.class.name p.is_loaded)) cell) (sym h) (at_first cell (when p.is_loaded (load_piece p.class.name ∷ []) ++ store_piece p.class.name ∷ [])))))

    abbrev constructed : Name → Binding
    constructed x = bound x (init_name x)

    abbrev class_itself : Name → Binding
    class_itself x = bound x (class_name x)

    load_ready : (p.is_loaded || p.is_stored) ≡ true → p.is_loaded ≡ true → Ready (load_piece p.class.name)
    load_ready some loaded h b u =
        let form = are.loaded.0 loaded in
        let reads : Reads l.world entries (Reachable l.world entries) (Load c) = record { member = form.member; needed = holds (Body form.member) form.needed; definition = form.definition; defined = form.defined; asked = body_tells form.definition.body (forms.Load c) form.has } in
        let constructor = subst (λ (x : Name). Is (constructed x)) (sym named) (d.functions (plain_constructor c) (closed l.world entries (Body (plain_constructor c)) (asked_body (plain_constructor c) (of_load c reads)))) in
        let class = subst (λ (x : Name). Is (class_itself x)) (sym named) (d.made c (closed l.world entries (Made c) (load_made c reads))) in
        All-contains Is (load_piece p.class.name).uses b (All-cons Is (bound p.class.name (class_binding Instance p.class.name)) (constructed p.class.name ∷ class_itself p.class.name ∷ []) (cell_there some) (All-cons Is (constructed p.class.name) (class_itself p.class.name ∷ []) constructor (All-cons Is (class_itself p.class.name) [] class (All-nil Is)))) u

    cells_ready : (p.is_loaded || p.is_stored) ≡ true → All Ready (cell_pieces p.class.name p.is_loaded)
    cells_ready some =
        let loads = when p.is_loaded (load_piece p.class.name ∷ []) in
        let stores = store_piece p.class.name in
        All-cons Ready (cell_piece p.class.name) (loads ++ stores ∷ []) (unused (cell_piece p.class.name) refl) (combine Ready loads (stores ∷ []) (ready_when p.is_loaded (load_piece p.class.name ∷ []) (λ h. one_ready (load_piece p.class.name) (load_ready some h))) (one_ready stores (λ h b u. subst Is (only_one (bound p.class.name (class_binding Instance p.class.name)) b u) (cell_there some))))

    abbrev test : Piece
    test = test_piece p.class.name p.instances (kind_of_class p.class.name all_kinds)

    test_ready : Ready test
    test_ready h b u = go (kind_of_class p.class.name all_kinds) u
      where
        of_kind : (k : Kind) → test_binding k ≡ b → Is b
        of_kind k same = subst Is same (h (helpers.TestOf k) (subst (Contains test.uses) (sym same) u))

        go : (o : Option Kind) → Contains (test_uses p.instances o) b → Is b
        go (Some k) i = of_kind k (only_one (test_binding k) b i)
        go None i = let m = from_map test_binding p.instances b i in of_kind m.item m.is

    test_there : (p.is_tested || p.is_cast) ≡ true → Is (bound p.class.name (class_binding IsInstance p.class.name))
    test_there h = own test refl (test_among p h)

    cast_ready : p.is_cast ≡ true → Ready (cast_piece p.class.name)
    cast_ready e h b u = elim (cons_cases (bound p.class.name (class_binding IsInstance p.class.name)) b (helper (codes "$cce") ∷ []) u) [
      | inl same ↦ subst Is same (test_there (or_right p.is_tested p.is_cast e))
      | inr i ↦ let same = only_one (helper (codes "$cce")) b i in subst Is same (h (helpers.Throws CastFails) (subst (Contains (cast_piece p.class.name).uses) (sym same) u))
    ]

    all_ready : All Ready (pieces p)
    all_ready =
        let first = constants_of p in
        let second = class_pieces_of p in
        let third = all_statics p.class.name p.statics in
        let fourth = module_of p in
        let constants = constants_piece p.class.name p.ancestors in
        let casts = cast_piece p.class.name in
        combine Ready (first ++ second ++ third ++ fourth) (tests_of p)
        (combine Ready (first ++ second ++ third) fourth
        (combine Ready (first ++ second) third
        (combine Ready first second
        (ready_when (p.is_live || p.is_base) (constants ∷ []) (λ h. one_ready constants (unused constants refl)))
        (ready_when p.is_live (its_class ∷ []) (λ h. one_ready its_class (class_ready h))))
        (statics_ready p.statics (λ f i. i)))
        (ready_when (p.is_loaded || p.is_stored) (cell_pieces p.class.name p.is_loaded) cells_ready))
        (combine Ready (when (p.is_tested || p.is_cast) (test ∷ [])) (when p.is_cast (casts ∷ []))
        (ready_when (p.is_tested || p.is_cast) (test ∷ []) (λ h. one_ready test test_ready))
        (ready_when p.is_cast (casts ∷ []) (λ h. one_ready casts (cast_ready h))))

    pub class_uses_declared : (q : Piece) → Contains (pieces p) q → Helped q → (b : Binding) → Contains q.uses b → Is b
    class_uses_declared q i = All-contains Ready (pieces p) q all_ready i
