-- The files that run in front of that of a module only declare, and so do the items of its own pieces.
use Rattle.std.proofs.Common.{◌≡◌, ◌++◌, Bool, true, false, List, [], ◌∷◌, Some, inl, inr, refl, sym, ap, ◌∙◌, subst, Contains, map, not, append_assoc, append-nil}
use Rattle.std.specs.Prelude.{◌⊎◌, filter}
use Rattle.std.specs.List.{flat_map}
use Rattle.std.proofs.lemmas.Bool.{and_parts}
use Rattle.std.proofs.lemmas.List.Elements.{Contains-append_left, Contains-append_right, Contains-append_cases, Contains-push}
use Rattle.std.proofs.lemmas.Slice.Eq.{bytes_eq-Decides}
use Rattle.closed_pieces.proofs.Forms.{in_one}
use Rattle.declared_files.proofs.Once.{files_run_last}
use Rattle.declared_files.proofs.Order.{files_declare_in_order}
use Rattle.declared_files.proofs.Tops.{stands_in}
use Rattle.declared_files.specs.Declared.{AreConstants}
use Rattle.declared_files.specs.Placed.{placed, items_until, IsInFront, in_a_file, in_this_file, DeclaresBehind}
use Rattle.closed_pieces.proofs.EachTyped.{in_all}
use Rattle.closed_pieces.proofs.Fields.{class_named}
use Rattle.closed_pieces.proofs.Order.{pieces_are_declarations}
use Rattle.closed_pieces.proofs.Worlds.{judged}
use Rattle.closed_pieces.specs.Closed.{IsClosed, items_of}
use Rattle.closed_pieces.specs.Entries.{IsLive}
use Rattle.declared_files.specs.Declarations.{declare}
use Rattle.sj_emit_help_spec.specs.declared.kinds.Helper.TheVariants.{ArrayClass}
use Rattle.js_mean.specs.Files.{module_among, items_in, owner, running_order}
use Rattle.js_mean.specs.Proper.{is_among, are_distinct}
use Rattle.js_mean.specs.States.{Program}
use Rattle.js_tree.specs.Terms.{Name, Property, Item, const_item, object_item, let_item, expression_item, function_item, class_item, subclass_item, Piece}
use Rattle.js_tree.specs.declared.items.Binding.{Binding}
use Rattle.module_files.specs.Order.{AreInOrder}
use Rattle.module_files.proofs.Found.{among_is, same_owner, use_owned}
use Rattle.module_files.proofs.Reached.{all_reached, line_source, source_file}
use Rattle.module_files.proofs.Running.{imports_run_first}
use Rattle.module_files.proofs.Whole.{plans_are_whole}
use Rattle.module_files.specs.Files.{program_of, piece_name, StandsIn, DeclaresItself, StandTogether}
use Rattle.module_names.specs.Names.{Key, Digest}
use Rattle.sj_emit_module_spec.proofs.Chosen.{this_is, is_it}
use Rattle.sj_emit_module_spec.proofs.Lines.{Stands, in_module, stands_somewhere}
use Rattle.sj_emit_module_spec.specs.Laws.{AreClosed, HasFile, IsDeclared, IsSource, IsUse, Uses, by_piece}
use Rattle.sj_emit_module_spec.specs.Modules.{file_with, is_owned_in, item_of}
use Rattle.closed_pieces.specs.Accepted.{IsAccepted}
use Rattle.agree_early_errors.specs.EmittedMethods.{EmittedMethod}
use Rattle.module_files.specs.Pieces.{AreLinkedPieces}
use Rattle.closed_pieces.specs.Reachable.{Reachable}
use Rattle.sj_split_laws.specs.Laws.{KeepsNamesApart}
use Rattle.module_files.proofs.Apart.{told_apart}
use Rattle.module_files.proofs.Linked.{linked_differ, names_distinct}
use Rattle.module_files.proofs.Parts.{HaveOwnNames}
use Rattle.module_files.specs.ProperPiecesLaws.{AreNamed}
use Rattle.module_files.specs.Modules.{is_owned}
use Rattle.sj_graph.specs.References.{IsGraph}
use Rattle.sj_graph.specs.declared.graphs.Graph.{Graph}
use Rattle.sj_names.specs.EntryPoints.{AreEntries}
use Rattle.sj_names.specs.declared.entry_points.EntryPoint.{EntryPoint}
use Rattle.sj_names.specs.declared.folders.SourceFile.{SourceFile}
use Rattle.agree_early_errors.specs.Emitted.{call_item_of}
use Rattle.sj_split.proofs.Members.{at_first, cons_cases, into_map, from_map, into_filter, from_filter}
use Rattle.sj_split.specs.Modules.{IsPlan, file}
use Rattle.sj_split.specs.Orders.{Bytes, is_same}
use Rattle.sj_names.specs.WellKnown.{object}
use Rattle.sj_split.specs.declared.plans.PlannedModule.{PlannedModule}
use Rattle.sj_split.specs.declared.plans.Style.{Style}
use Rattle.sj_world.proofs.OnCycles.{among}
use Rattle.sj_world.specs.Linked.{Linked}
use Rattle.sj_world.specs.declared.facts.Fact.{Fact}
use Rattle.worklist.proofs.Inserted.{nothing_in}
use Rattle.running_modules.proofs.Items.{modules_have_their_items}
use Rattle.running_modules.proofs.Sources.{reached_files_only_declare}
use Rattle.running_modules.proofs.Splits.{split, ClassAmong, DeclaresWith, declares_in_place, names_itself}
use Rattle.running_modules.proofs.Superclasses.{UsesName, UsesSuperclass, superclasses_used}
use Rattle.running_modules.proofs.Constants.{objects_are_constants}
use Rattle.running_modules.specs.Laws.{ModulesDeclareInOrder, ModulesDeclareConstants}

one_name : (x y : Name) → x ∷ [] ≡ y ∷ [] → x ≡ y
one_name x y e = cc

never_both : (b : Bool) → not b ≡ true → b ≡ true → ⊥
never_both true n y = cc
never_both false n y = cc

-- a call declares no object
no_call : (e : EntryPoint) (x : Name) (qs : List Property) → call_item_of e ≡ object_item x qs → ⊥
no_call e x qs h = cc

-- the last of names that differ is none of those before
last_is_new : (xs : List Name) (x : Name) → are_distinct (xs ++ x ∷ []) ≡ true → Contains xs x → ⊥
last_is_new [] x d i = nothing_in x i
last_is_new (y ∷ ys) x d i =
    let k = and_parts (not (is_among (ys ++ x ∷ []) y)) (are_distinct (ys ++ x ∷ [])) d in
    elim (cons_cases y x ys i) [ inl e ↦ never_both (is_among (ys ++ x ∷ []) y) k.0 (among_is (ys ++ x ∷ []) y (subst (λ (z : Name). Contains (ys ++ x ∷ []) z) (sym e) (Contains-push ys x))) | inr later ↦ last_is_new ys x k.1 later ]

module _ (digest_of : Key → Digest) (graph : Graph) (entries : List EntryPoint) (style : Style) (modules : List PlannedModule) (files : List SourceFile) (l : Linked) (all : List EmittedMethod) (ps : List Piece) (a : IsAccepted entries files l.world) (reached : (f : Fact) → Contains l.facts f → Reachable l.world entries f) (p : AreLinkedPieces l all ps) (arrays : Contains p.helpers ArrayClass → IsLive l.world l.facts object) (valid : AreEntries entries) (keep : KeepsNamesApart digest_of entries) (is_graph : IsGraph ps graph) (is : IsPlan digest_of graph entries style modules) (closed : AreClosed modules ps) where
  abbrev program : Program
  program = program_of modules ps

  abbrev owned_in : Bytes → Piece → Bool
  owned_in = is_owned_in (file_with modules)

  abbrev own_items : Bytes → List Piece → List Item
  own_items f qs = map item_of (filter (owned_in f) qs)

  named : AreNamed l.world
  named = record { kept = λ c i. (judged entries files l.world a c i).unbroken; class_names = class_named entries files l.world a }

  known : AreInOrder HaveOwnNames ps × ((q : Piece) → Contains ps q → DeclaresItself q)
  known = linked_differ l all named ps p

  together : StandTogether modules ps
  together = record { closed = closed; names = told_apart (map piece_name ps) (names_distinct ps known.0) }

  abbrev classes_of : PlannedModule → List Name
  classes_of m = m.classes

  -- the classes that stand in files
  abbrev written : List Name
  written = flat_map classes_of modules

  is_written : (class : Name) (f : Bytes) → file_with modules class ≡ Some f → Contains written class
  is_written class f e = let i = in_module modules class f e in in_all classes_of modules i.planned class i.among i.inside

  stands_where : (class : Name) → Contains written class → Stands modules class
  stands_where class h = let o = in_one classes_of modules class h in stands_somewhere modules class o.item o.among o.within

  whole : (f : Bytes) (b : Binding) → Uses modules ps f b → StandsIn modules ps b.owner
  whole = plans_are_whole digest_of graph entries style modules ps is_graph is closed

  is_closed : IsClosed ps written
  is_closed q i h b u =
      let s = stands_where q.owner h in
      let t = whole s.file_is b (by_piece q b i s.is u) in
      is_written b.owner t.its_file t.is

  in_order : declare [] (items_of written ps) ≡ true
  in_order = pieces_are_declarations entries files l all written ps a reached p is_closed arrays

  items_at : (m : PlannedModule) → Contains modules m → items_in (module_among program (file m)) ≡ own_items (file m) ps ++ map call_item_of m.initializers
  items_at m h = modules_have_their_items digest_of graph entries style modules ps keep is m h

  pub item_at : (q : Piece) (f : Bytes) → Contains ps q → file_with modules q.owner ≡ Some f → Contains (items_in (module_among program f)) q.item
  item_at q f h stands =
      let i = in_module modules q.owner f stands in
      let own : Contains (own_items f ps) q.item = into_map item_of (filter (owned_in f) ps) q (into_filter (owned_in f) ps q h (is_it f (file_with modules q.owner) stands)) in
      let own_there : Contains (own_items (file i.planned) ps) q.item = subst (λ (g : Bytes). Contains (own_items g ps) q.item) (sym i.named) own in
      subst (λ (g : Bytes). Contains (items_in (module_among program g)) q.item) i.named (subst (λ (is : List Item). Contains is q.item) (sym (items_at i.planned i.among)) (Contains-append_left (own_items (file i.planned) ps) (map call_item_of i.planned.initializers) q.item own_there))

  module _ (planned : PlannedModule) (there : Contains modules planned) where
    -- a class that a piece extends stands in a file in front, or in this one in front of the piece
    superclass_in_front : (before behind : List Name) (g : Name) → running_order program (file planned) ≡ before ++ g ∷ behind → (front : List Piece) (q : Piece) (rest : List Piece) → ps ≡ front ++ q ∷ rest → owned_in g q ≡ true → (y : Name) → UsesName q y → ClassAmong (is_owned written) front y → (h : Name) × (owner program g y ≡ Some h) × IsInFront program before g (own_items g front) h y
    superclass_in_front before behind g order front q rest are mine y u c = (home.its_file, use_owned modules ps together g home.its_file y its_use, go (is_same g home.its_file) refl)
      where
        q_there : Contains ps q
        q_there = subst (λ (qs : List Piece). Contains qs q) (sym are) (Contains-append_right front (q ∷ rest) q (at_first q rest))

        c_there : Contains ps c.piece
        c_there = subst (λ (qs : List Piece). Contains qs c.piece) (sym are) (Contains-append_left front (q ∷ rest) c.piece c.among)

        used : Uses modules ps g u.binding
        used = by_piece q u.binding q_there (this_is g (file_with modules q.owner) mine) u.used

        home : StandsIn modules ps u.binding.owner
        home = whole g u.binding used

        declared : IsDeclared ps u.binding
        declared = closed g u.binding used

        c_named : c.piece.name ≡ y
        c_named = one_name c.piece.name y (sym (known.1 c.piece c_there []) ∙ names_itself c.piece.item y c.is)

        c_stands : file_with modules c.piece.owner ≡ Some home.its_file
        c_stands = ap (file_with modules) (same_owner modules ps together c.piece declared.piece c_there declared.among (c_named ∙ sym u.named ∙ sym declared.named) ∙ declared.owned) ∙ home.is

        its_use : IsUse modules ps g home.its_file y
        its_use = record { binding = u.binding; used = used; bound = home.is; named = u.named }

        other : is_same g home.its_file ≡ false → g ≡ home.its_file → ⊥
        other e same = let w : true ≡ false = sym ((bytes_eq-Decides g home.its_file).1 same) ∙ e in cc

        here : g ≡ home.its_file → IsInFront program before g (own_items g front) home.its_file y
        here same = in_this_file c.piece.item same (into_map item_of (filter (owned_in g) front) c.piece (into_filter (owned_in g) front c.piece c.among (is_it g (file_with modules c.piece.owner) (c_stands ∙ ap Some (sym same))))) c.is

        go : (b : Bool) → is_same g home.its_file ≡ b → IsInFront program before g (own_items g front) home.its_file y
        go true e = here ((bytes_eq-Decides g home.its_file).0 e)
        go false e = in_a_file c.piece.item (imports_run_first digest_of graph entries style modules ps valid keep is_graph is planned there before behind g home.its_file order (record { other = other e; name = y; uses = its_use })) (item_at c.piece home.its_file c_there c_stands) c.is

    -- each of the pieces of a file that runs does so in its place
    file_declares : (before behind : List Name) (g : Name) → running_order program (file planned) ≡ before ++ g ∷ behind → (front rest : List Item) (i : Item) → own_items g ps ≡ front ++ i ∷ rest → DeclaresBehind program before g front i
    file_declares before behind g order front rest i e =
        let s = split (owned_in g) ps front rest i e in
        let q : Piece = s.piece in
        let q_there : Contains ps q = subst (λ (qs : List Piece). Contains qs q) (sym s.is) (Contains-append_right s.before (q ∷ s.after) q (at_first q s.after)) in
        let q_written : is_owned written q ≡ true = (among written q.owner).1 (is_written q.owner g (this_is g (file_with modules q.owner) s.passes)) in
        let right : UsesSuperclass q q.item = superclasses_used l all ps p q q_there in
        let behind_classes : DeclaresWith (ClassAmong (is_owned written) s.before) q.item = declares_in_place (is_owned written) s.before q s.after (subst (λ (qs : List Piece). declare [] (items_of written qs) ≡ true) s.is in_order) q_written in
        subst (λ (is : List Item). DeclaresBehind program before g is i) s.in_front (subst (λ (j : Item). DeclaresBehind program before g (own_items g s.before) j) s.item (by_item s.before q s.after s.is s.passes q.item right behind_classes))
      where
        by_item : (before_it : List Piece) (q : Piece) (after : List Piece) → ps ≡ before_it ++ q ∷ after → owned_in g q ≡ true → (j : Item) → UsesSuperclass q j → DeclaresWith (ClassAmong (is_owned written) before_it) j → DeclaresBehind program before g (own_items g before_it) j
        by_item before_it q after are mine (const_item x v) u d = d
        by_item before_it q after are mine (object_item x vs) u d = d
        by_item before_it q after are mine (let_item x v) u d = d
        by_item before_it q after are mine (expression_item v) u d = d
        by_item before_it q after are mine (function_item x xs ss) u d = d
        by_item before_it q after are mine (class_item x ms) u d = d
        by_item before_it q after are mine (subclass_item x y ms) u d = superclass_in_front before behind g order before_it q after are mine y u d

    -- a file that runs is that of the module, or another imports from it
    record Runs (g : Name) : Type 0 where
      its : HasFile modules g
      why : (g ≡ file planned) ⊎ ((f : Name) × IsSource modules ps f g)

    each_runs : (g : Name) → Contains (running_order program (file planned)) g → Runs g
    each_runs = all_reached program Runs (λ f r line i. let s = line_source modules ps f r.its line i in record { its = source_file modules ps f line.file s; why = inr (f, s) }) (file planned) (record { its = record { planned = planned; among = there; named = refl }; why = inl refl })

    module _ (front : List Name) (order : running_order program (file planned) ≡ front ++ file planned ∷ []) where
      distinct : are_distinct (front ++ file planned ∷ []) ≡ true
      distinct = subst (λ (fs : List Name). are_distinct fs ≡ true) order (files_run_last program (file planned)).once

      only_own : (g : Name) → Contains front g → items_in (module_among program g) ≡ own_items g ps
      only_own g i = go r.why
        where
          r : Runs g
          r = each_runs g (subst (λ (fs : List Name). Contains fs g) (sym order) (Contains-append_left front (file planned ∷ []) g i))

          m : PlannedModule
          m = r.its.planned

          go : (g ≡ file planned) ⊎ ((f : Name) × IsSource modules ps f g) → items_in (module_among program g) ≡ own_items g ps
          go (inl e) = absurd (last_is_new front (file planned) distinct (subst (Contains front) e i))
          go (inr (f, source)) = subst (λ (k : Name). items_in (module_among program k) ≡ own_items k ps) r.its.named (items_at m r.its.among ∙ ap (λ (es : List EntryPoint). own_items (file m) ps ++ map call_item_of es) (reached_files_only_declare digest_of graph entries style modules ps valid keep is_graph is f g source m r.its.among r.its.named) ∙ append-nil (own_items (file m) ps))

      in_front_declares : (before after : List Name) (g : Name) → front ≡ before ++ g ∷ after → (mid rest : List Item) (i : Item) → items_in (module_among program g) ≡ mid ++ i ∷ rest → DeclaresBehind program before g mid i
      in_front_declares before after g e mid rest i k = file_declares before (after ++ file planned ∷ []) g (order ∙ ap (λ (fs : List Name). fs ++ file planned ∷ []) e ∙ append_assoc before (g ∷ after) (file planned ∷ [])) mid rest i (sym (only_own g (subst (λ (fs : List Name). Contains fs g) (sym e) (Contains-append_right before (g ∷ after) g (at_first g after)))) ∙ k)

      -- an object that one of these files declares is the constants of a class
      pub constants_declared : (g x : Name) (qs : List Property) → Contains (items_until program front (file planned) (own_items (file planned) ps)) (placed g (object_item x qs)) → AreConstants l.world qs
      constants_declared g x qs i =
          let s = stands_in program front (file planned) (own_items (file planned) ps) (map call_item_of planned.initializers) (items_at planned there) (placed g (object_item x qs)) i in
          let r = each_runs g (subst (λ (fs : List Name). Contains fs g) (sym order) s.0) in
          let m : PlannedModule = r.its.planned in
          in_file m (subst (λ (is : List Item). Contains is (object_item x qs)) (items_at m r.its.among) (subst (λ (f : Name). Contains (items_in (module_among program f)) (object_item x qs)) (sym r.its.named) s.1))
        where
          of_piece : (f : Name) → Contains (own_items f ps) (object_item x qs) → AreConstants l.world qs
          of_piece f j = let q = from_map item_of (filter (owned_in f) ps) (object_item x qs) j in objects_are_constants l all ps p q.item (from_filter (owned_in f) ps q.item q.among).among x qs q.is

          in_file : (m : PlannedModule) → Contains (own_items (file m) ps ++ map call_item_of m.initializers) (object_item x qs) → AreConstants l.world qs
          in_file m j = elim (Contains-append_cases (own_items (file m) ps) (map call_item_of m.initializers) (object_item x qs) j) [
            | inl own ↦ of_piece (file m) own
            | inr call ↦ let e = from_map call_item_of m.initializers (object_item x qs) call in absurd (no_call e.item x qs e.is)
          ]

pub modules_declare_in_order : ModulesDeclareInOrder
modules_declare_in_order digest_of graph entries style modules files l all ps a reached p arrays valid keep is_graph is closed planned there front order =
    files_declare_in_order (program_of modules ps) front (file planned) (map item_of (filter (is_owned_in (file_with modules) (file planned)) ps))
    (in_front_declares digest_of graph entries style modules files l all ps a reached p arrays valid keep is_graph is closed planned there front order)
    (file_declares digest_of graph entries style modules files l all ps a reached p arrays valid keep is_graph is closed planned there front [] (file planned) order)

pub modules_declare_constants : ModulesDeclareConstants
modules_declare_constants digest_of graph entries style modules files l all ps a reached p arrays valid keep is_graph is closed planned there front order = constants_declared digest_of graph entries style modules files l all ps a reached p arrays valid keep is_graph is closed planned there front order
