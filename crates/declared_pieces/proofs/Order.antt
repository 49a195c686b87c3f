-- The items of the pieces that some classes own only declare: a class that another extends stands in front of it.
use Rattle.std.proofs.Common.{◌≡◌, ◌⊎◌, ◌++◌, ◌||◌, Bool, true, false, List, [], ◌∷◌, Option, Some, None, inl, inr, refl, sym, subst, ◌∙◌, map, cond, arith, if◌then◌else◌, append_assoc}
use Rattle.std.specs.List.{Contains, filter, flat_map}
use Rattle.std.proofs.lemmas.Bool.{and_from, or_left, or_right}
use Rattle.std.proofs.lemmas.List.Elements.{Contains-append_left, Contains-append_right, Contains-append_cases}
use Rattle.object_helpers.specs.Accepted.{IsAccepted}
use Rattle.object_helpers.proofs.Plain.{class_found, plain_world}
use Rattle.declared_pieces.proofs.Blocks.{in_block, in_classes, parts_of}
use Rattle.declared_pieces.proofs.Covered.{constants_declare, zero_literal, helper_declares}
use Rattle.declared_pieces.proofs.Live.{next_is, live_next, classes_kept, live_free, live_there}
use Rattle.declared_pieces.proofs.Parts.{class_there, uses_superclass}
use Rattle.declared_pieces.specs.Closed.{IsClosed, items_of}
use Rattle.declared_pieces.specs.Laws.{PiecesAreDeclarations}
use Rattle.file_declarations.specs.Declarations.{with_class, declares, declare}
use Rattle.object_helpers.specs.Entries.{IsLive}
use Rattle.sj_emit_help_spec.specs.Helpers.{Above, helper_piece}
use Rattle.sj_emit_help_spec.specs.Words.{all_kinds, class_name, constants_name, bound}
use Rattle.sj_emit_help_spec.specs.declared.kinds.Helper.{Helper}
use Rattle.sj_emit_help_spec.specs.declared.kinds.Helper.TheVariants.{ArrayClass}
use Rattle.js_mean.specs.Proper.{is_among}
use Rattle.js_tree.specs.Names.{is_same_text}
use Rattle.js_tree.specs.Terms.{Name, Member, Item, const_item, object_item, let_item, expression_item, function_item, class_item, subclass_item, Piece}
use Rattle.object_helpers.specs.Dispatched.{AreDispatchPieces}
use Rattle.object_helpers.specs.ToldPieces.{AreReflectivePieces, AreToldPieces}
use Rattle.object_helpers.specs.Order.{AreInOrder, StandsBefore, by_ancestors, by_name}
use Rattle.object_helpers.specs.Pieces.{piece_of_member, Block, IsBlock, AreBlocks, pieces_of_block, with_helpers}
use Rattle.file_declarations.specs.Classes.{AreClassPieces, AreParts, absent, present}
use Rattle.file_declarations.specs.Pieces.{Parts, pieces, when, constants_piece, members, class_item_of, class_piece, variable_piece, setter_piece, cell_piece, load_piece, store_piece, cell_pieces, all_statics, test_piece, kind_of_class, cast_piece, constants_of, class_of, module_of, tests_of}
use Rattle.object_helpers.specs.Modules.{item_of, is_owned}
use Rattle.object_helpers.specs.Reachable.{Reachable}
use Rattle.sj_names.proofs.Same.{impossible, text-refl, text-same}
use Rattle.sj_names.specs.WellKnown.{is_object, object}
use Rattle.sj_names.specs.declared.entry_points.EntryPoint.{EntryPoint}
use Rattle.sj_names.specs.declared.folders.SourceFile.{SourceFile}
use Rattle.object_helpers.specs.EmittedMethods.{EmittedMethod}
use Rattle.sj_split.proofs.Members.{at_first, further, cons_cases, from_map}
use Rattle.sj_trees.specs.declared.classes.FieldDef.{FieldDef}
use Rattle.sj_world.proofs.Grows.{ancestors_grow}
use Rattle.sj_world.proofs.OnCycles.{among}
use Rattle.sj_world.specs.Ancestors.{IsNext}
use Rattle.sj_world.specs.Known.{Classes}
use Rattle.sj_world.specs.Laws.{IsPlain}
use Rattle.sj_world.specs.Linked.{Linked}
use Rattle.sj_world.specs.Refusals.{HasNoCycle}
use Rattle.sj_world.specs.Tables.{AreAncestors}
use Rattle.sj_world.specs.declared.facts.Fact.{Fact}
use Rattle.worklist.proofs.Inserted.{nothing_in}

-- each of the first names is one of the others
abbrev Below : List Name → List Name → Type 0
Below fs gs = (x : Name) → is_among fs x ≡ true → is_among gs x ≡ true

with_more : (i : Item) (fs : List Name) → Below fs (with_class i fs)
with_more (const_item y e) fs x h = h
with_more (object_item y ps) fs x h = h
with_more (let_item y e) fs x h = h
with_more (expression_item e) fs x h = h
with_more (function_item y xs ss) fs x h = h
with_more (class_item y ms) fs x h = or_right (is_same_text x y) (is_among fs x) h
with_more (subclass_item y z ms) fs x h = or_right (is_same_text x y) (is_among fs x) h

first_of_more : (a b : Bool) → (a || false) ≡ true → (a || b) ≡ true
first_of_more true b h = refl
first_of_more false b h = impossible h

with_own : (i : Item) (fs : List Name) → Below (with_class i []) (with_class i fs)
with_own (const_item y e) fs x h = impossible h
with_own (object_item y ps) fs x h = impossible h
with_own (let_item y e) fs x h = impossible h
with_own (expression_item e) fs x h = impossible h
with_own (function_item y xs ss) fs x h = impossible h
with_own (class_item y ms) fs x h = first_of_more (is_same_text x y) (is_among fs x) h
with_own (subclass_item y z ms) fs x h = first_of_more (is_same_text x y) (is_among fs x) h

declares_more : (i : Item) (fs gs : List Name) → Below fs gs → declares fs i ≡ true → declares gs i ≡ true
declares_more (const_item y e) fs gs b h = h
declares_more (object_item y ps) fs gs b h = h
declares_more (let_item y e) fs gs b h = h
declares_more (expression_item e) fs gs b h = h
declares_more (function_item y xs ss) fs gs b h = h
declares_more (class_item y ms) fs gs b h = h
declares_more (subclass_item y z ms) fs gs b h = b z h

module _ (written : List Name) where
  -- where these classes are declared in front of them, each of the pieces that are owned only declares
  abbrev Each : List Name → List Piece → Type 0
  Each fs ps = (q : Piece) → Contains ps q → is_owned written q ≡ true → declares fs q.item ≡ true

  -- the classes that these pieces declare are among these
  abbrev Gives : List Piece → List Name → Type 0
  Gives ps fs = (q : Piece) → Contains ps q → is_owned written q ≡ true → Below (with_class q.item []) fs

  declare_joined : (fs : List Name) (ps qs : List Piece) → Each fs ps → ((gs : List Name) → Below fs gs → Gives ps gs → declare gs (items_of written qs) ≡ true) → declare fs (items_of written (ps ++ qs)) ≡ true
  declare_joined fs [] qs h k = k fs (λ x i. i) (λ q i. nothing_in q i)
  declare_joined fs (p ∷ ps) qs h k = go (is_owned written p) refl (λ gs. declare_joined gs ps qs)
    where
      skipped : (gs : List Name) → is_owned written p ≡ false → Gives ps gs → Gives (p ∷ ps) gs
      skipped gs none given q i own = by (cons_cases p q ps i)
        where
          by : (p ≡ q) ⊎ Contains ps q → Below (with_class q.item []) gs
          by (inl e) = impossible (sym (subst (λ (x : Piece). is_owned written x ≡ false) e none) ∙ own)
          by (inr j) = given q j own

      added : (gs : List Name) → Below (with_class p.item fs) gs → Gives ps gs → Gives (p ∷ ps) gs
      added gs below given q i own = by (cons_cases p q ps i)
        where
          by : (p ≡ q) ⊎ Contains ps q → Below (with_class q.item []) gs
          by (inl e) = subst (λ (x : Piece). Below (with_class x.item []) gs) e (λ x j. below x (with_own p.item fs x j))
          by (inr j) = given q j own

      go : (b : Bool) → is_owned written p ≡ b → ((gs : List Name) → Each gs ps → ((hs : List Name) → Below gs hs → Gives ps hs → declare hs (items_of written qs) ≡ true) → declare gs (items_of written (ps ++ qs)) ≡ true) → declare fs (map item_of (cond b (p ∷ filter (is_owned written) (ps ++ qs)) (filter (is_owned written) (ps ++ qs)))) ≡ true
      go false e later = later fs (λ q i own. h q (further p q ps i) own) (λ gs below given. k gs below (skipped gs e given))
      go true e later = and_from (declares fs p.item) (declare (with_class p.item fs) (items_of written (ps ++ qs))) (h p (at_first p ps) e) (later (with_class p.item fs) (λ q i own. declares_more q.item fs (with_class p.item fs) (with_more p.item fs) (h q (further p q ps i) own)) (λ gs below given. k gs (λ x j. below x (with_more p.item fs x j)) (added gs below given)))

  each_none : (fs : List Name) → Each fs []
  each_none fs q i own = nothing_in q i

  each_more : (fs : List Name) (p : Piece) (ps : List Piece) → (is_owned written p ≡ true → declares fs p.item ≡ true) → Each fs ps → Each fs (p ∷ ps)
  each_more fs p ps h k q i own = go (cons_cases p q ps i)
    where
      go : (p ≡ q) ⊎ Contains ps q → declares fs q.item ≡ true
      go (inl e) = subst (λ (x : Piece). declares fs x.item ≡ true) e (h (subst (λ (x : Piece). is_owned written x ≡ true) (sym e) own))
      go (inr later) = k q later own

  each_one : (fs : List Name) (p : Piece) → (is_owned written p ≡ true → declares fs p.item ≡ true) → Each fs (p ∷ [])
  each_one fs p h = each_more fs p [] h (each_none fs)

  each_joined : (fs : List Name) (ps qs : List Piece) → Each fs ps → Each fs qs → Each fs (ps ++ qs)
  each_joined fs ps qs h k q i own = go (Contains-append_cases ps qs q i)
    where
      go : Contains ps q ⊎ Contains qs q → declares fs q.item ≡ true
      go (inl j) = h q j own
      go (inr j) = k q j own

  each_when : (fs : List Name) (b : Bool) (ps : List Piece) → (b ≡ true → Each fs ps) → Each fs (when b ps)
  each_when fs true ps h = h refl
  each_when fs false ps h = each_none fs

  statics_each : (fs : List Name) (c : Name) (ds : List FieldDef) → Each fs (all_statics c ds)
  statics_each fs c [] = each_none fs
  statics_each fs c (d ∷ ds) = each_more fs (variable_piece c d) (setter_piece c d ∷ all_statics c ds) (λ own. zero_literal d.tpe) (each_more fs (setter_piece c d) (all_statics c ds) (λ own. refl) (statics_each fs c ds))

  cells_each : (fs : List Name) (c : Name) (loaded : Bool) → Each fs (cell_pieces c loaded)
  cells_each fs c loaded = each_more fs (cell_piece c) (when loaded (load_piece c ∷ []) ++ store_piece c ∷ []) (λ own. refl) (each_joined fs (when loaded (load_piece c ∷ [])) (store_piece c ∷ []) (each_when fs loaded (load_piece c ∷ []) (λ e. each_one fs (load_piece c) (λ own. refl))) (each_one fs (store_piece c) (λ own. refl)))

  extends_declared : (fs : List Name) (c : Name) (superclass : Option Name) (ms : List Member) → ((s : Name) → superclass ≡ Some s → is_among fs (class_name s) ≡ true) → declares fs (class_item_of c superclass ms) ≡ true
  extends_declared fs c None ms h = refl
  extends_declared fs c (Some s) ms h = h s refl

  -- the class of the parts extends one of these, where it is live and owned
  abbrev ExtendsOne : List Name → Parts → Type 0
  ExtendsOne fs p = p.is_live ≡ true → Contains written p.class.name → (s : Name) → p.class.superclass ≡ Some s → is_among fs (class_name s) ≡ true

  own_each : (fs : List Name) (p : Parts) → ExtendsOne fs p → Each fs (pieces p)
  own_each fs p extends =
      each_joined fs (constants_of p ++ class_of p ++ all_statics c p.statics ++ module_of p) (tests_of p)
      (each_joined fs (constants_of p ++ class_of p ++ all_statics c p.statics) (module_of p)
      (each_joined fs (constants_of p ++ class_of p) (all_statics c p.statics)
      (each_joined fs (constants_of p) (class_of p)
      (each_when fs (p.is_live || p.is_base) (constants_piece c p.ancestors ∷ []) (λ e. each_one fs (constants_piece c p.ancestors) (λ own. constants_declare fs (constants_name c) c p.ancestors)))
      (each_when fs p.is_live (its_class ∷ []) (λ live. each_one fs its_class (λ own. extends_declared fs c p.class.superclass (members c p.class.superclass p.entries p.fields) (extends live ((among written c).0 own))))))
      (statics_each fs c p.statics))
      (each_when fs (p.is_loaded || p.is_stored) (cell_pieces c p.is_loaded) (λ e. cells_each fs c p.is_loaded)))
      (each_joined fs (when (p.is_tested || p.is_cast) (tested ∷ [])) (when p.is_cast (cast_piece c ∷ []))
      (each_when fs (p.is_tested || p.is_cast) (tested ∷ []) (λ e. each_one fs tested (λ own. refl)))
      (each_when fs p.is_cast (cast_piece c ∷ []) (λ e. each_one fs (cast_piece c) (λ own. refl))))
    where
      c : Name
      c = p.class.name

      its_class : Piece
      its_class = class_piece c p.class.superclass p.entries p.fields

      tested : Piece
      tested = test_piece c p.instances (kind_of_class c all_kinds)

  methods_each : (w : Classes) (fs : List Name) (es : List EmittedMethod) → Each fs (map (piece_of_member w) es)
  methods_each w fs es q i own = let m = from_map (piece_of_member w) es q i in subst (λ (x : Piece). declares fs x.item ≡ true) m.is refl

  -- the class of arrays stands behind that of all objects
  helpers_each : (fs : List Name) (above : Above) (hs : List Helper) → (Contains hs ArrayClass → Contains written object → is_among fs (class_name object) ≡ true) → Each fs (map (helper_piece above) hs)
  helpers_each fs above hs extends q i own =
      let m = from_map (helper_piece above) hs q i in
      let here : Contains written object = (among written object).0 (subst (λ (x : Piece). is_owned written x ≡ true) (sym m.is) own) in
      subst (λ (x : Piece). declares fs x.item ≡ true) m.is (helper_declares fs above m.item (λ e. extends (subst (Contains hs) e m.among) here))

  methods_told : (fs : List Name) (l : Linked) (qs told : List Piece) → AreDispatchPieces l qs told → Each fs told
  methods_told fs l qs told h q i own = subst (λ (x : Piece). declares fs x.item ≡ true) (sym (h.made q i).is_piece.piece_is) refl

  names_told : (fs : List Name) (l : Linked) (qs told : List Piece) → AreReflectivePieces l qs told → Each fs told
  names_told fs l qs told h q i own = subst (λ (x : Piece). declares fs x.item ≡ true) (sym (h.made q i).is_piece.piece_is) refl

  told_each : (fs : List Name) (l : Linked) (qs told : List Piece) → AreToldPieces l qs told → Each fs told
  told_each fs l qs told h = subst (Each fs) (sym h.told_are) (each_joined fs h.methods h.names (methods_told fs l qs h.methods h.are_methods) (names_told fs l qs h.names h.are_names))

  module _ (w : Classes) (acyclic : HasNoCycle w) (plain : IsPlain w) where
    -- a class stands neither before the one that it extends, nor is it that
    never_before : (c s : Name) → IsNext w c s → StandsBefore w c s → ⊥
    never_before c s next (by_ancestors above below under over less) = let grow = ancestors_grow w acyclic plain c s above below next under over in omega (arith, grow, less)
    never_before c s next (by_name above below under over same less) = let grow = ancestors_grow w acyclic plain c s above below next under over in omega (arith, grow, same)

    never_itself : (c s : Name) (names : List Name) → AreAncestors w c names → IsNext w c s → c ≡ s → ⊥
    never_itself c s names are next e = let grow = ancestors_grow w acyclic plain c c names names (subst (λ (n : Name). IsNext w c n) (sym e) next) are are in omega (arith, grow)

  module _ (entries : List EntryPoint) (files : List SourceFile) (l : Linked) (all : List EmittedMethod) (ps : List Piece) (a : IsAccepted entries files l.world) (reached : (f : Fact) → Contains l.facts f → Reachable l.world entries f) (closed : IsClosed ps written) (behind : List Piece) (each_behind : (fs : List Name) → (IsLive l.world l.facts object → Contains written object → is_among fs (class_name object) ≡ true) → Each fs behind) where
    abbrev w : Classes
    w = l.world

    abbrev Live : Name → Type 0
    Live = IsLive w l.facts

    plain : IsPlain w
    plain = let kept = classes_kept entries files w a in plain_world w kept.superclass kept.hijacked

    -- each class that is live and owned stands among these classes, or is declared already
    abbrev Placed : List Name → List Name → Type 0
    Placed fs cs = (s : Name) → Live s → Contains written s → Contains cs s ⊎ (is_among fs (class_name s) ≡ true)

    module _ (c : Name) (cs : List Name) (b : Block) (block : IsBlock l all c b) (before : (d : Name) → Contains cs d → StandsBefore w c d) (there : (q : Piece) → Contains (with_helpers w behind b) q → Contains ps q) (fs : List Name) (placed : Placed fs (c ∷ cs)) where
      own_there : (q : Piece) → Contains b.own q → Contains (with_helpers w behind b) q
      own_there q i = in_block w behind b q (Contains-append_left b.own (map (piece_of_member w) b.methods) q i)

      -- what a class extends is declared in front of it
      extends_one : (p : Parts) → AreParts l c p → b.own ≡ pieces p → ExtendsOne fs p
      extends_one p are is live own s super = go (placed s s_live s_written)
        where
          named : p.class.name ≡ c
          named = (class_found w c p.class are.class_is).1

          c_live : Live c
          c_live = are.live.0 live

          next : IsNext w c s
          next = next_is w c p.class are.class_is (live_free entries files w a l.facts reached c c_live) ∙ super

          s_live : Live s
          s_live = live_next w l.facts c s c_live next

          s_written : Contains written s
          s_written = closed its_class (there its_class (own_there its_class (subst (λ (qs : List Piece). Contains qs its_class) (sym is) (class_there p live)))) own (bound s (class_name s)) (uses_superclass p.class.name s p.class.superclass p.entries super)
            where
              its_class : Piece
              its_class = class_piece p.class.name p.class.superclass p.entries p.fields

          go : Contains (c ∷ cs) s ⊎ (is_among fs (class_name s) ≡ true) → is_among fs (class_name s) ≡ true
          go (inr h) = h
          go (inl i) = elim (cons_cases c s cs i) [ inl e ↦ absurd (never_itself w a.world.no_cycle plain c s p.ancestors are.ancestors next e) | inr later ↦ absurd (never_before w a.world.no_cycle plain c s next (before s later)) ]

      own_each_there : AreClassPieces l c b.own → Each fs b.own
      own_each_there (absent none is) = subst (Each fs) (sym is) (each_none fs)
      own_each_there (present p are is) = subst (Each fs) (sym is) (own_each fs p (extends_one p are is))

      block_each : Each fs (pieces_of_block w b)
      block_each = each_joined fs b.own (map (piece_of_member w) b.methods) (own_each_there block.own) (methods_each w fs b.methods)

      owned_there : (q : Piece) → Contains b.own q → Contains (pieces_of_block w b) q
      owned_there q i = Contains-append_left b.own (map (piece_of_member w) b.methods) q i

      declares_itself : (superclass : Option Name) (ms : List Member) → is_among (with_class (class_item_of c superclass ms) []) (class_name c) ≡ true
      declares_itself None ms = or_left (is_same_text (class_name c) (class_name c)) false (text-refl (class_name c))
      declares_itself (Some s) ms = or_left (is_same_text (class_name c) (class_name c)) false (text-refl (class_name c))

      -- behind its block a class is declared, if it is live and owned
      itself_given : (gs : List Name) → Gives (pieces_of_block w b) gs → Live c → Contains written c → is_among gs (class_name c) ≡ true
      itself_given gs given live own =
          let k = live_there entries files w a l.facts reached c live in
          let r = parts_of l c b.own k.0 k.1 block.own in
          let its_class : Piece = class_piece c r.parts.class.superclass r.parts.entries r.parts.fields in
          let named : r.parts.class.name ≡ c = (class_found w c r.parts.class r.are.class_is).1 in
          given its_class (owned_there its_class (subst (λ (qs : List Piece). Contains qs its_class) (sym r.own) (subst (λ (n : Name). Contains (pieces r.parts) (class_piece n r.parts.class.superclass r.parts.entries r.parts.fields)) named (class_there r.parts (r.are.live.1 live))))) ((among written c).1 own) (class_name c) (declares_itself r.parts.class.superclass (members c r.parts.class.superclass r.parts.entries r.parts.fields))

      placed_behind : (gs : List Name) → Below fs gs → Gives (pieces_of_block w b) gs → Placed gs cs
      placed_behind gs below given s live own = go (placed s live own)
        where
          at_front : (c ≡ s) ⊎ Contains cs s → Contains cs s ⊎ (is_among gs (class_name s) ≡ true)
          at_front (inl e) = inr (subst (λ (n : Name). is_among gs (class_name n) ≡ true) e (itself_given gs given (subst Live (sym e) live) (subst (Contains written) (sym e) own)))
          at_front (inr later) = inl later

          go : Contains (c ∷ cs) s ⊎ (is_among fs (class_name s) ≡ true) → Contains cs s ⊎ (is_among gs (class_name s) ≡ true)
          go (inl i) = at_front (cons_cases c s cs i)
          go (inr h) = inr (below (class_name s) h)

      -- the helpers stand behind the block of the class of all objects
      helpers_behind : (gs : List Name) → is_object b.class ≡ true → Gives (pieces_of_block w b) gs → Each gs behind
      helpers_behind gs e given = each_behind gs (λ live own. let same : c ≡ object = sym block.class_is ∙ text-same b.class object e in subst (λ (n : Name). is_among gs (class_name n) ≡ true) same (itself_given gs given (subst Live (sym same) live) (subst (Contains written) (sym same) own)))

      block_declares : (rest : List Piece) → ((gs : List Name) → Below fs gs → Gives (pieces_of_block w b) gs → declare gs (items_of written rest) ≡ true) → declare fs (items_of written (with_helpers w behind b ++ rest)) ≡ true
      block_declares rest k = go (is_object b.class) refl
        where
          go : (t : Bool) → is_object b.class ≡ t → declare fs (items_of written ((if t then pieces_of_block w b ++ behind else pieces_of_block w b) ++ rest)) ≡ true
          go false e = declare_joined fs (pieces_of_block w b) rest block_each k
          go true e = subst (λ (qs : List Piece). declare fs (items_of written qs) ≡ true) (sym (append_assoc (pieces_of_block w b) behind rest)) (declare_joined fs (pieces_of_block w b) (behind ++ rest) block_each (λ gs below given. declare_joined gs behind rest (helpers_behind gs e given) (λ hs more theirs. k hs (λ x i. more x (below x i)) (λ q i own x j. more x (given q i own x j)))))

    blocks_declare : (cs : List Name) (bs : List Block) → AreBlocks l all cs bs → AreInOrder (StandsBefore w) cs → (fs : List Name) → Placed fs cs → ((q : Piece) → Contains (flat_map (with_helpers w behind) bs) q → Contains ps q) → declare fs (items_of written (flat_map (with_helpers w behind) bs)) ≡ true
    blocks_declare [] [] h o fs placed there = refl
    blocks_declare [] (b ∷ bs) h o fs placed there = absurd h
    blocks_declare (c ∷ cs) [] h o fs placed there = absurd h
    blocks_declare (c ∷ cs) (b ∷ bs) h o fs placed there =
        let here = λ (q : Piece) (i : Contains (with_helpers w behind b) q). there q (Contains-append_left (with_helpers w behind b) (flat_map (with_helpers w behind) bs) q i) in
        block_declares c cs b h.0 o.0 here fs placed (flat_map (with_helpers w behind) bs) (λ gs below given. blocks_declare cs bs h.1 o.1 gs (placed_behind c cs b h.0 o.0 here fs placed gs below given) (λ q i. there q (Contains-append_right (with_helpers w behind b) (flat_map (with_helpers w behind) bs) q i)))

pub pieces_are_declarations : PiecesAreDeclarations
pieces_are_declarations entries files l all written ps a reached p closed arrays = subst (λ (qs : List Piece). declare [] (items_of written qs) ≡ true) (sym p.pieces_are) (blocks_declare written entries files l all ps a reached closed (helpers ++ p.told) (λ fs extends. each_joined written fs helpers p.told (helpers_each written fs p.above p.helpers (λ i. extends (arrays i))) (told_each written fs l (flat_map (pieces_of_block l.world) p.blocks) p.told p.are_told)) p.classes p.blocks p.are_blocks p.are_classes.in_order [] placed (λ q i. subst (λ (qs : List Piece). Contains qs q) (sym p.pieces_are) i))
  where
    helpers : List Piece
    helpers = map (helper_piece p.above) p.helpers

    placed : (s : Name) → IsLive l.world l.facts s → Contains written s → Contains p.classes s ⊎ (is_among [] (class_name s) ≡ true)
    placed s live own = let k = live_there entries files l.world a l.facts reached s live in inl (in_classes l all ps p s k.0 k.1)
