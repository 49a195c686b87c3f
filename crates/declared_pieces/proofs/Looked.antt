-- Methods that are looked up, where the pieces of some classes are written: where objects find them, and the function that tells primitive receivers apart.
use Rattle.std.proofs.Common.{arith, ◌≡◌, codes, length, Bool, true, false, List, [], ◌∷◌, ◌++◌, inl, inr, Option, Some, None, refl, sym, ap, subst, ◌∙◌, Contains}
use Rattle.std.specs.Prelude.{if◌then◌else◌, is_none, ◌↔◌, ◌≢◌}
use Rattle.std.specs.List.{flat_map, list_all, list_any}
use Rattle.std.proofs.lemmas.Bool.{and_parts}
use Rattle.std.proofs.lemmas.List.Elements.{Contains-append_left, Contains-append_right, Contains-push_cases}
use Rattle.std.proofs.lemmas.List.Folds.{Any-from_list_any}
use Rattle.declared_pieces.proofs.Below.{known_class}
use Rattle.object_helpers.proofs.Proxies.{proxy_below, proxy_right, proxy_params}
use Rattle.declared_pieces.proofs.Blocks.{OwnPieces, own_pieces, method_there, told_there, method_in_blocks}
use Rattle.declared_pieces.proofs.Chains.{Stands, Chained, whole_chain}
use Rattle.declared_pieces.proofs.Live.{next_is, live_next, classes_kept, live_free, live_there}
use Rattle.declared_pieces.proofs.Named.{target_name, target_result, called_name, entry_names, reflective_name as reflective_name_is}
use Rattle.object_helpers.proofs.LinkedEntriesOne.{one_method}
use Rattle.class_code.proofs.ProxyMembers.{no_proxy_member, some_proxy_member}
pub use Rattle.declared_pieces.proofs.Reached.{target_of, runs_target, called_free, kind_target}
use Rattle.declared_pieces.proofs.Reached.{made_lives, called_by, name_read}
use Rattle.declared_pieces.proofs.Parts.{constants_there, class_there, in_once, uses_superclass}
use Rattle.declared_pieces.specs.Closed.{IsClosed}
use Rattle.declared_pieces.specs.Laws.{ClassThere, EntryThere, has_entry, has_none, FindsEntry, DispatchThere, ReflectionThere, ProxyThere, proxy_there, NoEntryThere, nothing_there, none_there, NamedThere, not_named, is_named}
use Rattle.class_code.proofs.Members.{AreOwn, no_proxy, no_member, some_member, target_of_entry}
use Rattle.entry_search.proofs.Found.{entry_found, search_finds_target}
use Rattle.file_declarations.specs.ClassTestsKinds.{is_told}
use Rattle.file_declarations.specs.Dispatch.{Told, AreTold, told_none, told, untold, IsReachedTarget, dispatch_piece, dispatch_name, told_uses, Reflected, reflected_uses, reflective_piece, reflective_name}
use Rattle.entry_search.specs.Search.{or_member, entry_for, found, IsChainTo, ends, goes}
use Rattle.entry_search.specs.Laws.{AreSpelled}
use Rattle.file_declarations.specs.Looked.{HasCase}
use Rattle.file_declarations.specs.Pieces.{Parts, box_uses, entry_uses, is_proxy, uses_of_entries, class_uses, constants_piece, class_piece, parent_uses, own_constants, is_char}
use Rattle.sj_emit_help_spec.specs.Helpers.{helper_name}
use Rattle.sj_emit_help_spec.specs.Words.{bound, class_name, helper, parameters_of, is_name, kind_class, told_kinds, public_function}
use Rattle.sj_emit_help_spec.specs.declared.kinds.Helper.{Helper}
use Rattle.sj_emit_help_spec.specs.declared.kinds.Helper.TheVariants.{BoxedChar, TestOf, Throws}
use Rattle.sj_emit_help_spec.specs.declared.kinds.Failure.TheVariants.{Method}
use Rattle.sj_emit_help_spec.specs.declared.kinds.Kind.{Kind}
use Rattle.sj_emit_help_spec.specs.declared.kinds.Kind.TheVariants as kinds
use Rattle.ir_mean.specs.Dispatch.{chain_of, proxy_target}
use Rattle.js_tree.specs.Terms.{Piece}
use Rattle.js_tree.specs.declared.items.Binding.{Binding}
use Rattle.js_mean.specs.Proper.{are_distinct}
use Rattle.object_helpers.proofs.Apart.{parameters_distinct, behind_receiver}
use Rattle.object_helpers.proofs.Derivations.{closed}
use Rattle.object_helpers.proofs.Facts.{some_call_known}
use Rattle.object_helpers.proofs.Made as made
use Rattle.object_helpers.proofs.Members.{defined}
use Rattle.entry_search.proofs.Reflective.{without_result}
use Rattle.object_helpers.proofs.Plain.{class_found}
use Rattle.object_helpers.proofs.EachTyped.{in_all}
use Rattle.object_helpers.specs.Accepted.{IsAccepted}
use Rattle.object_helpers.specs.Bodies.{AreBodies}
use Rattle.object_helpers.specs.EmittedMethods.{EmittedMethod}
use Rattle.object_helpers.specs.Entries.{AreEntries, IsLive, IsTarget, IsReflective, IsProxy, proxy}
use Rattle.object_helpers.specs.Pieces.{piece_of_member, pieces_of_block, AreLinkedPieces, by_piece}
use Rattle.object_helpers.specs.Reachable.{Reachable}
use Rattle.object_helpers.specs.Rules.{on_made, reflective, public_member, the_object}
use Rattle.object_helpers.specs.Used.{calls, uses_dispatch, tells_apart, is_among, is_called_by, uses_reflective, calls_by_name}
use Rattle.object_helpers.specs.Worlds.{AreClassesKept}
use Rattle.sj_emit_expr_spec.specs.Templates.{member_name}
use Rattle.sj_emit_expr_spec.specs.Uses.{is_same_binding}
use Rattle.sj_names.proofs.Same.{impossible, text-same, text-refl}
use Rattle.sj_trees.specs.declared.classes.MethodDef.{MethodDef}
use Rattle.sj_world.specs.Calls.{IsProxyTarget}
use Rattle.sj_names.specs.Same.{is_same_text}
use Rattle.sj_names.specs.MethodNames.{IsMethodName}
use Rattle.sj_names.specs.WellKnown.{object}
use Rattle.sj_names.specs.declared.entry_points.EntryPoint.{EntryPoint}
use Rattle.sj_names.specs.declared.folders.SourceFile.{SourceFile}
use Rattle.sj_names.specs.declared.method_names.Member.{Member}
use Rattle.sj_names.specs.declared.method_names.MethodName.{MethodName}
use Rattle.sj_names.specs.declared.references.TypeRef.{TypeRef}
use Rattle.sj_split.proofs.Members.{at_first, further, cons_cases, into_filter, from_filter}
use Rattle.sj_world.proofs.OnCycles.{among}
use Rattle.sj_world.specs.Ancestors.{IsAncestor, IsNext, IsOnChain, by_path}
use Rattle.sj_world.specs.Known.{Name, Classes, is_known, is_hijacked, is_same}
use Rattle.sj_world.specs.Linked.{Linked}
use Rattle.sj_world.specs.Paths.{stay, on as on_path}
use Rattle.sj_world.specs.declared.facts.Fact.{Fact}
use Rattle.sj_world.specs.declared.facts.Fact.TheVariants.{Called, Made, Needed}
use Rattle.sj_world.specs.declared.linked.MethodEntry.{MethodEntry}
use Rattle.worklist.proofs.Inserted.{nothing_in}

pub none_is_some : {A X : Type 0} (x : X) → None ≡ Some x → A
none_is_some x e = absurd (cc)

-- an entry that is no proxy uses the function of its target
uses_target : (e : MethodEntry) (owner : Name) (m : MethodName) → is_proxy e ≡ false → e.target ≡ public_member owner m → Contains (entry_uses e) (bound owner (public_function owner m))
uses_target e owner m direct same = subst (λ (b : Bool). Contains (if b then box_uses e.target.method else bound e.target.class (member_name e.target) ∷ []) (bound owner (public_function owner m))) (sym direct) (subst (λ (k : Member). Contains (bound k.class (member_name k) ∷ []) (bound owner (public_function owner m))) (sym same) (at_first (bound owner (public_function owner m)) []))

-- a char is boxed
pub boxed : (m : MethodName) → is_char m.result ≡ true → Contains (box_uses m) (helper (codes "$C"))
boxed m e = subst (λ (b : Bool). Contains (if b then helper (codes "$C") ∷ [] else []) (helper (codes "$C"))) (sym e) (at_first (helper (codes "$C")) [])

same_binding : (a b : Binding) → is_same_binding a b ≡ true → b ≡ a
same_binding a b h = let q = and_parts (is_same_text a.owner b.owner) (is_same_text a.name b.name) h in (λ i. record { owner = sym (text-same a.owner b.owner q.0) i; name = sym (text-same a.name b.name q.1) i })

-- the kinds of cases

each_told : (ks : List Kind) → list_all is_told ks ≡ true → (k : Kind) → Contains ks k → is_told k ≡ true
each_told [] h k i = nothing_in k i
each_told (j ∷ ks) h k i = let q = and_parts (is_told j) (list_all is_told ks) h in elim (cons_cases j k ks i) [
  | inl same ↦ subst (λ (x : Kind). is_told x ≡ true) same q.0
  | inr later ↦ each_told ks q.1 k later
]

-- a kind that is told is among those that are
told_listed : (k : Kind) → is_told k ≡ true → Contains told_kinds k
told_listed kinds.Undefined h = (0, omega arith, refl)
told_listed kinds.Boolean h = (1, omega arith, refl)
told_listed kinds.Char h = (2, omega arith, refl)
told_listed kinds.Int h = (3, omega arith, refl)
told_listed kinds.Long h = (4, omega arith, refl)
told_listed kinds.Text h = (5, omega arith, refl)
told_listed kinds.Byte h = impossible h
told_listed kinds.Short h = impossible h

module _ (w : Classes) (facts : List Fact) (m : MethodName) where
  -- a case is of one of the kinds, and runs the target of its class
  record IsCaseOf (ks : List Kind) (t : Told) : Type 0 where
    among : Contains ks t.kind
    target : IsReachedTarget w facts (kind_class t.kind) m t.owner

  more_kinds : (ks : List Kind) (k : Kind) (t : Told) → IsCaseOf ks t → IsCaseOf (ks ++ k ∷ []) t
  more_kinds ks k t h = record { among = Contains-append_left ks (k ∷ []) t.kind h.among; target = h.target }

  case_is : (ks : List Kind) (ts : List Told) → AreTold w facts m ks ts → (t : Told) → Contains ts t → IsCaseOf ks t
  case_is _ _ told_none t i = nothing_in t i
  case_is _ _ (told k ks owner ts h reached) t i = elim (Contains-push_cases ts (record { kind = k; owner = owner }) t i) [
    | inl first ↦ more_kinds ks k t (case_is ks ts h t first)
    | inr same ↦ subst (IsCaseOf (ks ++ k ∷ [])) same (record { among = Contains-append_right ks (k ∷ []) k (at_first k []); target = reached })
  ]
  case_is _ _ (untold k ks ts h none) t i = more_kinds ks k t (case_is ks ts h t i)

  more_cases : (ts : List Told) (t : Told) (k : Kind) → HasCase ts k → HasCase (ts ++ t ∷ []) k
  more_cases ts t k h = record { case = h.case; among = Contains-append_left ts (t ∷ []) h.case h.among; kind_is = h.kind_is }

  -- and a kind whose class has a target has a case
  case_of : (ks : List Kind) (ts : List Told) → AreTold w facts m ks ts → (k : Kind) → Contains ks k → (owner : Name) → IsReachedTarget w facts (kind_class k) m owner → HasCase ts k
  case_of _ _ told_none k i owner found_at = nothing_in k i
  case_of _ _ (told j ks o ts h reached) k i owner found_at = elim (Contains-push_cases ks j k i) [
    | inl first ↦ more_cases ts (record { kind = j; owner = o }) k (case_of ks ts h k first owner found_at)
    | inr same ↦ record { case = record { kind = j; owner = o }; among = Contains-append_right ts (record { kind = j; owner = o } ∷ []) (record { kind = j; owner = o }) (at_first (record { kind = j; owner = o }) []); kind_is = same }
  ]
  case_of _ _ (untold j ks ts h none) k i owner found_at = elim (Contains-push_cases ks j k i) [
    | inl first ↦ case_of ks ts h k first owner found_at
    | inr same ↦ absurd (none owner (subst (λ (x : Kind). IsReachedTarget w facts (kind_class x) m owner) (sym same) found_at))
  ]

  pub record IsToldCase (t : Told) : Type 0 where
    pub told : is_told t.kind ≡ true
    pub target : IsReachedTarget w facts (kind_class t.kind) m t.owner

  pub told_case : (ts : List Told) → AreTold w facts m told_kinds ts → (t : Told) → Contains ts t → IsToldCase t
  told_case ts h t i = let k = case_is told_kinds ts h t i in record { told = each_told told_kinds refl t.kind k.among; target = k.target }

  pub has_case : (ts : List Told) → AreTold w facts m told_kinds ts → (k : Kind) → is_told k ≡ true → (owner : Name) → IsReachedTarget w facts (kind_class k) m owner → HasCase ts k
  has_case ts h k is owner found_at = case_of told_kinds ts h k (told_listed k is) owner found_at

module _ (entries : List EntryPoint) (files : List SourceFile) (l : Linked) (all : List EmittedMethod) (written : List Name) (ps : List Piece) (a : IsAccepted entries files l.world) (bodies : AreBodies l.world entries all) (p : AreLinkedPieces l all ps) (are : AreEntries l.world l.facts l.entries) (exact : (f : Fact) → Contains l.facts f ↔ Reachable l.world entries f) (owned : IsClosed ps written) where
  abbrev w : Classes
  w = l.world

  kept : AreClassesKept w
  kept = classes_kept entries files w a

  reached : (f : Fact) → Contains l.facts f → Reachable w entries f
  reached f = (exact f).0

  -- a live class that is written
  pub record Stood (c : Name) : Type 0 where
    pub lives : IsLive w l.facts c
    pub here : Contains written c

  module _ (c : Name) (s : Stood c) where
    pub free : is_hijacked c ≡ false
    free = live_free entries files w a l.facts reached c s.lives

    pub own : OwnPieces l all ps p c
    own = let k = live_there entries files w a l.facts reached c s.lives in own_pieces l all ps p c k.0 k.1

    abbrev pub its : Parts
    its = own.parts

    pub named : its.class.name ≡ c
    named = (class_found w c its.class own.are.class_is).1

    pub constants_here : Contains ps (constants_piece c its.ancestors)
    constants_here = subst (λ (n : Name). Contains ps (constants_piece n its.ancestors)) named (own.there (constants_piece its.class.name its.ancestors) (constants_there its (own.are.live.1 s.lives)))

    abbrev pub class_of_its : Piece
    class_of_its = class_piece c its.class.superclass its.entries its.fields

    pub class_here : Contains ps class_of_its
    class_here = subst (λ (n : Name). Contains ps (class_piece n its.class.superclass its.entries its.fields)) named (own.there (class_piece its.class.name its.class.superclass its.entries its.fields) (class_there its (own.are.live.1 s.lives)))

    pub next : (d : Name) → its.class.superclass ≡ Some d → IsNext w c d
    next d super = next_is w c its.class own.are.class_is free ∙ super

    pub super_stood : (d : Name) → its.class.superclass ≡ Some d → Stood d
    super_stood d super = record { lives = live_next w l.facts c d s.lives (next d super); here = owned class_of_its class_here s.here (bound d (class_name d)) (uses_superclass c d its.class.superclass its.entries super) }

    class_in_blocks : Contains (flat_map (pieces_of_block w) p.blocks) class_of_its
    class_in_blocks = subst (λ (n : Name). Contains (flat_map (pieces_of_block w) p.blocks) (class_piece n its.class.superclass its.entries its.fields)) named (own.in_blocks (class_piece its.class.name its.class.superclass its.entries its.fields) (class_there its (own.are.live.1 s.lives)))

    abbrev pub there : ClassThere l ps c
    there = record { parts = its; are = own.are; constants = constants_here; class = class_here }

    abbrev stands : Stands w Stood c
    stands = record { class = its.class; found = own.are.class_is; free = free; up = super_stood }

    own_entries : AreOwn l.entries c its.entries
    own_entries e = (λ i. let f = from_filter (λ (x : MethodEntry). is_same x.class c) l.entries e (subst (λ (es : List MethodEntry). Contains es e) own.are.entries i) in (f.among, text-same e.class c f.passes), λ h. subst (λ (es : List MethodEntry). Contains es e) (sym own.are.entries) (into_filter (λ (x : MethodEntry). is_same x.class c) l.entries e h.0 (subst (λ (n : Name). is_same n c ≡ true) (sym h.1) (text-refl c))))

  abbrev AllStood : List Name → Type 0
  AllStood [] = Unit {0}
  AllStood (c ∷ cs) = Stood c × AllStood cs

  -- the chain of a class goes to its end
  abbrev Goes : List Name → Type 0
  Goes [] = ⊥
  Goes (c ∷ cs) = IsChainTo w c (c ∷ cs)

  abbrev Chain : List Name → Type 0
  Chain cs = Goes cs × AllStood cs

  chain_stood : (c : Name) → Stood c → Chained Chain (chain_of w c) c
  chain_stood = whole_chain w kept a.world.no_cycle Stood stands Chain
      (λ c s e. (ends c (next_is w c (its c s).class (own c s).are.class_is (free c s) ∙ e), (s, tt)))
      (λ c d ds s e rest. (goes c d (d ∷ ds) (next c s d e) rest.0, (s, rest.1)))

  spelled : AreSpelled l.entries
  spelled = record { spelled = entry_names entries files w a l.facts l.entries are }

  module _ (m : MethodName) (owner : Name) (m_is : IsMethodName m) (m_direct : m.result ≢ None) where
    -- along classes that are written, by what a search among the entries finds
    along : (cs : List Name) → AllStood cs → found l.entries cs m ≡ Some (public_member owner m) → EntryThere l ps written m owner cs
    along [] st h = none_is_some (public_member owner m) h
    along (c ∷ cs) st h = go (along cs st.1) (entry_for l.entries c m) refl
      where
        th : ClassThere l ps c
        th = there c st.0

        uses : (k : Member) → entry_for l.entries c m ≡ Some k → k ≡ public_member owner m → Contains (class_of_its c st.0).uses (bound owner (public_function owner m))
        uses k e i =
            let f = entry_found c m m_is l.entries spelled.spelled k e in
            let among = (own_entries c st.0 f.entry).1 (f.among, f.class_is) in
            let b = bound owner (public_function owner m) in
            let used = in_all entry_uses (its c st.0).entries f.entry b among (uses_target f.entry owner m (no_proxy m m_direct f.entry f.name_is) (f.target_is ∙ i)) in
            in_once (class_uses c (its c st.0).class.superclass (its c st.0).entries) b (Contains-append_right (parent_uses (its c st.0).class.superclass) (own_constants c ∷ uses_of_entries (its c st.0).entries) b (further (own_constants c) b (uses_of_entries (its c st.0).entries) used))

        go : (found l.entries cs m ≡ Some (public_member owner m) → EntryThere l ps written m owner cs) → (o : Option Member) → entry_for l.entries c m ≡ o → EntryThere l ps written m owner (c ∷ cs)
        go later None e = has_none c cs th st.0.here (no_member w l.facts l.entries are spelled m m_is m_direct owner c (its c st.0).entries (own_entries c st.0) e) (later (sym (ap (λ (o : Option Member). or_member o (found l.entries cs m)) e) ∙ h))
        go later (Some k) e =
            let s : Some k ≡ Some (public_member owner m) = sym (ap (λ (o : Option Member). or_member o (found l.entries cs m)) e) ∙ h in
            let i : k ≡ public_member owner m = cc in
            has_entry c cs th st.0.here (some_member w l.facts l.entries are spelled m m_is m_direct owner c (its c st.0).entries (own_entries c st.0) (target_of_entry w l.facts l.entries are spelled m m_is m_direct owner c k e i) k e) (uses k e i)

    entry_written : (cs : List Name) → EntryThere l ps written m owner cs → Contains written owner
    entry_written _ (has_entry c cs th here code u) = owned (class_piece c th.parts.class.superclass th.parts.entries th.parts.fields) th.class here (bound owner (public_function owner m)) u
    entry_written _ (has_none c cs th here code rest) = entry_written cs rest

  -- an object of a class that is written finds the methods that are called on it
  pub finds : (c : Name) (m : MethodName) → Contains l.facts (Called c m) → (d : Name) → Contains written d → Contains l.facts (Made d) → IsAncestor w d c → FindsEntry l ps written d m
  finds c m called d here is_made below =
      let t = target_of entries files w l.facts a exact d m (on_made d c (reached (Called c m) called) (reached (Made d) is_made) below) in
      let m_is = target_name entries files w a d m t.owner t.target.is_target in
      let m_direct = target_result entries files w a d m t.owner t.target.is_target in
      let k = chain_stood d (record { lives = made_lives entries files w l.facts a exact d is_made; here = here }) in
      let search = search_finds_target w l.facts l.entries are spelled d (d ∷ k.above) k.classes.0 m t.owner m_is m_direct (made_lives entries files w l.facts a exact d is_made) (record { receiver = c; called = called; below = below }) t.target in
      let entry = along m t.owner m_is m_direct (d ∷ k.above) k.classes.1 search in
      record { owner = t.owner; target = t.target; here = entry_written m t.owner m_is m_direct (d ∷ k.above) entry; entry = subst (EntryThere l ps written m t.owner) (sym k.is_chain) entry }

  -- the written user of the function that tells the receivers of a method apart
  record User (m : MethodName) : Type 0 where
    method : EmittedMethod
    listed : Contains all method
    here : Contains written method.member.class
    uses : Contains (piece_of_member w method).uses (helper (dispatch_name m))

  user_of : (m : MethodName) → list_any (uses_dispatch w written m) all ≡ true → User m
  user_of m h =
      let f = Any-from_list_any (uses_dispatch w written m) all h in
      let r = and_parts (is_among written f.1.member.class) (list_any (is_same_binding (helper (dispatch_name m))) (piece_of_member w f.1).uses) f.4 in
      let b = Any-from_list_any (is_same_binding (helper (dispatch_name m))) (piece_of_member w f.1).uses r.1 in
      record { method = f.1; listed = (f.0, f.2, f.3); here = (among written f.1.member.class).0 r.0; uses = subst (Contains (piece_of_member w f.1).uses) (same_binding (helper (dispatch_name m)) b.1 b.4) (b.0, b.2, b.3) }

  -- and its piece
  pub dispatch_there : (m : MethodName) → tells_apart w l.facts all written m ≡ true → DispatchThere l ps written p.helpers m
  dispatch_there m h =
      let q = and_parts (list_any (calls m) l.facts) (list_any (uses_dispatch w written m) all) h in
      let called = some_call_known l.facts m q.0 in
      let user = user_of m q.1 in
      let of = defined w user.method.member user.method.definition (bodies.found user.method user.listed).found in
      let k = made.present w entries a.resolved kept object (closed w entries (Needed object) the_object) in
      let has = p.are_told.are_methods.each m (record { named = called_name entries files w a called.receiver m (reached (Called called.receiver m) called.called); receiver = called.receiver; called = called.called; user = piece_of_member w user.method; among = method_in_blocks l all ps p user.method user.listed of.class of.is_class; uses = user.uses }) in
      let in_told : Contains p.told (dispatch_piece m has.is_piece.cases) = subst (λ (qs : List Piece). Contains qs (dispatch_piece m has.is_piece.cases)) (sym p.are_told.told_are) (Contains-append_left p.are_told.methods p.are_told.names (dispatch_piece m has.is_piece.cases) (subst (Contains p.are_told.methods) has.is_piece.piece_is has.among)) in
      let stands_there : Contains ps (dispatch_piece m has.is_piece.cases) = told_there l all ps p k.0 k.1 (dispatch_piece m has.is_piece.cases) in_told in
      let with_object : Contains written object = owned (piece_of_member w user.method) (method_there l all ps p user.method user.listed of.class of.is_class) user.here (helper (dispatch_name m)) user.uses in
      let its = dispatch_piece m has.is_piece.cases in
      let calls : (t : Told) → Contains has.is_piece.cases t → Contains its.uses (bound t.owner (public_function t.owner m)) = λ t i. let b = bound t.owner (public_function t.owner m) in in_once (flat_map (told_uses m) has.is_piece.cases) b (in_all (told_uses m) has.is_piece.cases t b i (further (helper (is_name t.kind)) b (b ∷ []) (at_first b []))) in
      let asks : (t : Told) → Contains has.is_piece.cases t → Contains its.uses (helper (is_name t.kind)) = λ t i. let b = helper (is_name t.kind) in in_once (flat_map (told_uses m) has.is_piece.cases) b (in_all (told_uses m) has.is_piece.cases t b i (at_first b (bound t.owner (public_function t.owner m) ∷ []))) in
      record {
        cases = has.is_piece.cases;
        are_told = has.is_piece.are_told;
        here = with_object;
        piece = stands_there;
        owners = λ t i. owned its stands_there with_object (bound t.owner (public_function t.owner m)) (calls t i);
        tests = λ t i. (p.are_helpers.exact (TestOf t.kind)).1 (by_piece its (TestOf t.kind) (Contains-append_right (flat_map (pieces_of_block w) p.blocks) p.told its in_told) (asks t i));
        calls = calls;
        asks = asks;
      }

  -- reflective names: the written user of the function of one
  record NameUser (m : MethodName) : Type 0 where
    method : EmittedMethod
    listed : Contains all method
    here : Contains written method.member.class
    uses : Contains (piece_of_member w method).uses (helper (reflective_name m))

  name_user : (m : MethodName) → list_any (uses_reflective w written m) all ≡ true → NameUser m
  name_user m h =
      let f = Any-from_list_any (uses_reflective w written m) all h in
      let r = and_parts (is_among written f.1.member.class) (list_any (is_same_binding (helper (reflective_name m))) (piece_of_member w f.1).uses) f.4 in
      let b = Any-from_list_any (is_same_binding (helper (reflective_name m))) (piece_of_member w f.1).uses r.1 in
      record { method = f.1; listed = (f.0, f.2, f.3); here = (among written f.1.member.class).0 r.0; uses = subst (Contains (piece_of_member w f.1).uses) (same_binding (helper (reflective_name m)) b.1 b.4) (b.0, b.2, b.3) }

  pub reflection_there : (m : MethodName) → calls_by_name w all written m ≡ true → ReflectionThere l ps written p.helpers m
  reflection_there m h =
      let q = and_parts (is_called_by all m) (list_any (uses_reflective w written m) all) h in
      let called = called_by entries files w l.facts a exact all bodies m q.0 in
      let user = name_user m q.1 in
      let of = defined w user.method.member user.method.definition (bodies.found user.method user.listed).found in
      let k = made.present w entries a.resolved kept object (closed w entries (Needed object) the_object) in
      let has = p.are_told.are_names.each m (record { named = reflective_name_is entries files w a l.facts m called; called = called; user = piece_of_member w user.method; among = method_in_blocks l all ps p user.method user.listed of.class of.is_class; uses = user.uses }) in
      let its = reflective_piece m has.is_piece.cases in
      let own : List Binding = flat_map reflected_uses has.is_piece.cases in
      let in_told : Contains p.told its = subst (λ (qs : List Piece). Contains qs its) (sym p.are_told.told_are) (Contains-append_right p.are_told.methods p.are_told.names its (subst (Contains p.are_told.names) has.is_piece.piece_is has.among)) in
      let stands_there : Contains ps its = told_there l all ps p k.0 k.1 its in_told in
      let with_object : Contains written object = owned (piece_of_member w user.method) (method_there l all ps p user.method user.listed of.class of.is_class) user.here (helper (reflective_name m)) user.uses in
      let used : (b : Binding) → Contains (own ++ helper (codes "$nme") ∷ []) b → Contains its.uses b = λ b i. in_once (own ++ helper (codes "$nme") ∷ []) b i in
      let uses : (t : Reflected) → Contains has.is_piece.cases t → (b : Binding) → Contains (reflected_uses t) b → Contains its.uses b = λ t i b j. used b (Contains-append_left own (helper (codes "$nme") ∷ []) b (in_all reflected_uses has.is_piece.cases t b i j)) in
      let throws : Contains its.uses (helper (codes "$nme")) = used (helper (codes "$nme")) (Contains-append_right own (helper (codes "$nme") ∷ []) (helper (codes "$nme")) (at_first (helper (codes "$nme")) [])) in
      let helped : (g : Helper) → Contains its.uses (helper (helper_name g)) → Contains p.helpers g = λ g u. (p.are_helpers.exact g).1 (by_piece its g (Contains-append_right (flat_map (pieces_of_block w) p.blocks) p.told its in_told) u) in
      record {
        called = called;
        cases = has.is_piece.cases;
        are_reflected = has.is_piece.are_reflected;
        here = with_object;
        piece = stands_there;
        owners = λ t i. (let b = bound t.owner (public_function t.owner t.method) in owned its stands_there with_object b (uses t i b (last_used t)));
        tests = λ t i. helped (TestOf t.kind) (uses t i (helper (is_name t.kind)) (at_first (helper (is_name t.kind)) (box_uses t.method ++ bound t.owner (public_function t.owner t.method) ∷ [])));
        boxes = λ t i e. helped BoxedChar (uses t i (helper (codes "$C")) (box_used t e));
        thrower = helped (Throws Method) throws;
        uses = uses;
        throws = throws;
      }
    where
      last_used : (t : Reflected) → Contains (reflected_uses t) (bound t.owner (public_function t.owner t.method))
      last_used t = let b = bound t.owner (public_function t.owner t.method) in further (helper (is_name t.kind)) b (box_uses t.method ++ b ∷ []) (Contains-append_right (box_uses t.method) (b ∷ []) b (at_first b []))

      box_used : (t : Reflected) → is_char t.method.result ≡ true → Contains (reflected_uses t) (helper (codes "$C"))
      box_used t e = further (helper (is_name t.kind)) (helper (codes "$C")) (box_uses t.method ++ bound t.owner (public_function t.owner t.method) ∷ []) (Contains-append_left (box_uses t.method) (bound t.owner (public_function t.owner t.method) ∷ []) (helper (codes "$C")) (boxed t.method e))

  -- what objects have under a reflective name by which a needed body calls
  module _ (m : MethodName) (r : IsReflective w l.facts m) where
    name_is : IsMethodName m
    name_is = reflective_name_is entries files w a l.facts m r

    bare : m.result ≡ None
    bare = without_result w l.facts m r

    untargeted : (c owner : Name) → IsTarget w c m owner → ⊥
    untargeted c owner h = target_result entries files w a c m owner h bare

    module _ (d : Name) (none : proxy_target w d m ≡ None) where
      never : (c : Name) → IsOnChain w d c → (t : MethodName) → IsProxy w l.facts c m t → ⊥
      never c path t h = let its = h.is_target in let there = proxy_below w d c m its.definition its.owner path its.is_target in none_is_some there.0 (sym none ∙ there.1)

      no_entries : (c : Name) (cs : List Name) → IsChainTo w c cs → AllStood cs → IsOnChain w d c → NoEntryThere l ps written m cs
      no_entries c _ (ends _ e) st path = none_there c [] (there c st.0) st.0.here (no_proxy_member w l.facts l.entries are spelled m name_is untargeted c (its c st.0).entries (own_entries c st.0) (never c path)) nothing_there
      no_entries c _ (goes _ e ds next rest) st path = none_there c ds (there c st.0) st.0.here (no_proxy_member w l.facts l.entries are spelled m name_is untargeted c (its c st.0).entries (own_entries c st.0) (never c path)) (no_entries e ds rest st.1 (on_path c e path next))

    module _ (d : Name) (s : Stood d) (is_made : Contains l.facts (Made d)) (t : MethodDef) (owner : Name) (target : IsProxyTarget w d m t owner) where
      abbrev its_entry : MethodEntry
      its_entry = record { class = d; name = m; target = public_member d t.name }

      is_proxied : IsProxy w l.facts d m t.name
      is_proxied = record { is_made = is_made; reflective = r; is_target = record { definition = t; owner = owner; is_target = target; name_is = refl } }

      among_its : Contains (its d s).entries its_entry
      among_its = (own_entries d s its_entry).1 ((are.exact its_entry).1 (proxy d m t.name is_proxied), refl)

      box_there : is_char t.name.result ≡ true → Contains (class_of_its d s).uses (helper (codes "$C")) × Contains p.helpers BoxedChar
      box_there e =
          let b = helper (codes "$C") in
          let mine : Contains (entry_uses its_entry) b = subst (λ (o : Option TypeRef). Contains (if is_none o then box_uses t.name else bound d (member_name (public_member d t.name)) ∷ []) b) (sym bare) (boxed t.name e) in
          let used = in_once (class_uses d (its d s).class.superclass (its d s).entries) b (Contains-append_right (parent_uses (its d s).class.superclass) (own_constants d ∷ uses_of_entries (its d s).entries) b (further (own_constants d) b (uses_of_entries (its d s).entries) (in_all entry_uses (its d s).entries its_entry b among_its mine))) in
          (used, (p.are_helpers.exact BoxedChar).1 (by_piece (class_of_its d s) BoxedChar (Contains-append_left (flat_map (pieces_of_block w) p.blocks) p.told (class_of_its d s) (class_in_blocks d s)) used))

      hands_on : (cs : List Name) → ProxyThere l ps written p.helpers m t.name (d ∷ cs)
      hands_on cs = proxy_there d cs (there d s) s.here (some_proxy_member w l.facts l.entries are spelled m name_is untargeted d (its d s).entries (own_entries d s) t.name is_proxied (λ u q. (sym q.is_target.name_is ∙ one_method entries files w a d m q.is_target.definition t q.is_target.owner owner q.is_target.is_target target))) box_there

    pub answer_there : (d : Name) → Contains written d → Contains l.facts (Made d) → NamedThere l ps written p.helpers d m
    answer_there d here is_made = go (proxy_target w d m) refl
      where
        s : Stood d
        s = record { lives = made_lives entries files w l.facts a exact d is_made; here = here }

        known : is_known w d ≡ true
        known = let k = live_there entries files w a l.facts reached d s.lives in known_class w d k.0 k.1

        go : (o : Option MethodDef) → proxy_target w d m ≡ o → NamedThere l ps written p.helpers d m
        go None e = let k = chain_stood d s in not_named e (subst (NoEntryThere l ps written m) (sym k.is_chain) (no_entries d e d (d ∷ k.above) k.classes.0 k.classes.1 stay))
        go (Some t) e =
            let k = chain_stood d s in
            let its = proxy_right w d m t e in
            let called = (exact (Called d t.name)).1 (closed w entries (Called d t.name) (reflective d m t its.0 (name_read entries files w l.facts a exact m r) (reached (Made d) is_made) its.1)) in
            is_named t e (proxy_params w d m t its.0 its.1) (subst (ProxyThere l ps written p.helpers m t.name) (sym k.is_chain) (hands_on d s is_made t its.0 its.1 k.above)) (finds d t.name called d here is_made (record { known = known; way = by_path stay }))

-- parameters have names of their own, also behind a receiver
pub parameters_differ : (m : MethodName) → are_distinct (parameters_of m) ≡ true
parameters_differ m = parameters_distinct (length m.params)

pub differ_from_receiver : (m : MethodName) → are_distinct (codes "x" ∷ parameters_of m) ≡ true
differ_from_receiver m = behind_receiver (length m.params)
