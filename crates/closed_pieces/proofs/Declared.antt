-- What the pieces of an accepted folder declare: functions of needed bodies, live classes, static fields that are needed, cells of modules that are loaded or stored, tests of classes and casts to them, constants of classes that are named as the bases of arrays, and helpers.
use Rattle.std.proofs.Common.{◌≡◌, ◌↔◌, ◌||◌, Bool, true, List, [], Option, Some, refl, sym, ap, subst, ◌∙◌, Contains}
use Rattle.std.specs.List.{flat_map}
use Rattle.std.proofs.lemmas.List.Elements.{Contains-append_left, Contains-append_right}
use Rattle.std.proofs.lemmas.Bool.{or_left, or_right}
use Rattle.std.proofs.lemmas.List.Sorted.{Contains-permutation}
use Rattle.linked_folders.proofs.Blocks.{OwnPieces, own_pieces, method_there, helper_there, told_there}
use Rattle.linked_folders.proofs.Calls.{needed}
use Rattle.linked_folders.proofs.Classes.{class-keeps}
use Rattle.linked_folders.proofs.Derivations.{closed}
use Rattle.linked_folders.proofs.EachTyped.{in_all}
use Rattle.linked_folders.proofs.Found.{here, owner_of}
use Rattle.linked_folders.proofs.Stores.{stores_own}
use Rattle.linked_folders.proofs.Worlds.{judged}
use Rattle.linked_folders.proofs.DeclaredPiecesLive.{classes_kept, live_there}
use Rattle.linked_folders.proofs.Made as made
use Rattle.linked_folders.proofs.Members.{defined}
use Rattle.linked_folders.proofs.Parts.{class_there, constants_among, statics_among, in_statics, is_reached, cell_among, loader_there, storer_there, test_among, cast_among}
use Rattle.linked_folders.specs.Accepted.{IsAccepted}
use Rattle.linked_folders.specs.Bodies.{AreBodies}
use Rattle.linked_folders.specs.Classes.{HasForm}
use Rattle.linked_folders.specs.Dispatch.{dispatch_name, reflective_name}
use Rattle.linked_folders.specs.Dispatched.{IsDispatched}
use Rattle.linked_folders.specs.ToldPieces.{IsReflected}
use Rattle.linked_folders.specs.EmittedMethods.{EmittedMethod}
use Rattle.linked_folders.specs.Entries.{IsLive}
use Rattle.linked_folders.specs.Pieces.{piece_of_member, pieces_of_block, AreLinkedPieces}
use Rattle.linked_folders.specs.Reachable.{Reachable}
use Rattle.linked_folders.specs.SjReachSpecRules.{the_object}
use Rattle.linked_folders.specs.Rules.{HasFieldType}
use Rattle.sj_emit_help_spec.specs.Helpers.{helper_name, helper_piece}
use Rattle.sj_emit_help_spec.specs.Words.{bound, helper, all_kinds, class_name, constants_name}
use Rattle.sj_emit_help_spec.specs.declared.kinds.Helper.{Helper}
use Rattle.js_tree.specs.Terms.{Piece}
use Rattle.sj_emit_module_spec.specs.Laws.{IsDeclared}
use Rattle.linked_folders.proofs.Plain.{class_found}
use Rattle.linked_folders.specs.SjEmitClassSpecPieces.{Parts, own_constants, constants_piece, class_piece, variable_piece, setter_piece, all_statics, load_piece, store_piece, test_piece, cast_piece, kind_of_class}
use Rattle.sj_emit_expr_spec.specs.Templates.{member_name, static_name, setter_name, load_name, store_name}
use Rattle.sj_emit_expr_spec.specs.Uses.{function_binding, class_use, static_use, setter_use, load_use, store_use}
use Rattle.sj_infos.specs.Forms.{form_of, forms_by_body}
use Rattle.sj_infos.specs.Trees.{trees}
use Rattle.sj_infos.specs.declared.forms.BodyForm.TheVariants as forms
use Rattle.sj_mangling.specs.Bindings.{class_binding}
use Rattle.sj_mangling.specs.declared.bindings.ClassBinding.TheVariants.{IsInstance, AsInstance}
use Rattle.sj_names.specs.WellKnown.{object}
use Rattle.sj_names.specs.declared.entry_points.EntryPoint.{EntryPoint}
use Rattle.sj_names.specs.declared.folders.SourceFile.{SourceFile}
use Rattle.sj_names.specs.declared.method_names.Member.{Member}
use Rattle.sj_names.specs.declared.method_names.MethodName.{MethodName}
use Rattle.sj_trees.specs.Term.{Term, store_module}
use Rattle.sj_trees.specs.declared.classes.ClassDef.{ClassDef}
use Rattle.sj_trees.specs.declared.classes.FieldDef.{FieldDef}
use Rattle.sj_trees.specs.declared.positions.Position.{Position}
use Rattle.sj_trees.specs.declared.types.IrType.{IrType}
use Rattle.sj_world.proofs.Searches.{contains_at}
use Rattle.sj_world.specs.Known.{Name, Classes, class_of}
use Rattle.sj_world.specs.Linked.{Linked}
use Rattle.sj_world.specs.Paths.{stay}
use Rattle.sj_world.specs.declared.facts.Fact.{Fact}
use Rattle.sj_world.specs.declared.facts.Fact.TheVariants.{Body, Made, Needed, NeededField}

-- the pieces have what is reachable
pub record Declares (entries : List EntryPoint) (l : Linked) (having : List Helper) (ps : List Piece) : Type 0 where
  pub functions : (k : Member) → Reachable l.world entries (Body k) → IsDeclared ps (function_binding k)
  pub classes : (c : Name) → IsLive l.world l.facts c → IsDeclared ps (class_use c)
  pub made : (c : Name) → Reachable l.world entries (Made c) → IsDeclared ps (class_use c)
  pub statics : (c f : Name) (t : IrType) → HasFieldType l.world c f true t → Reachable l.world entries (NeededField c f true) → IsDeclared ps (static_use c f) × IsDeclared ps (setter_use c f)
  pub loads : (c : Name) → HasForm l.world l.facts (forms.Load c) → Reachable l.world entries (Needed c) → IsDeclared ps (load_use c)
  pub listed : (f : Fact) → Reachable l.world entries f → Contains l.facts f
  pub tests : (c : Name) → HasForm l.world l.facts (forms.Test c) → Reachable l.world entries (Needed c) → IsDeclared ps (bound c (class_binding IsInstance c))
  pub casts : (c : Name) → HasForm l.world l.facts (forms.Cast c) → Reachable l.world entries (Needed c) → IsDeclared ps (bound c (class_binding AsInstance c))
  pub bases : (c : Name) → HasForm l.world l.facts (forms.Base c) → Reachable l.world entries (Needed c) → IsDeclared ps (own_constants c)
  pub helpers : (h : Helper) → Contains having h → IsDeclared ps (helper (helper_name h))

some_class : (a b : ClassDef) → ◌≡◌ {A = Option ClassDef} (Some a) (Some b) → a ≡ b
some_class a b e = cc

module _ (entries : List EntryPoint) (files : List SourceFile) (l : Linked) (all : List EmittedMethod) (ps : List Piece) (a : IsAccepted entries files l.world) (bodies : AreBodies l.world entries all) (exact : (f : Fact) → Contains l.facts f ↔ Reachable l.world entries f) (p : AreLinkedPieces l all ps) where
  abbrev w : Classes
  w = l.world

  function : (k : Member) → Reachable w entries (Body k) → IsDeclared ps (function_binding k)
  function k r =
      let f = (bodies.exact k).1 r in
      let d = defined w f.method.member f.method.definition (bodies.found f.method f.listed).found in
      record { piece = piece_of_member w f.method; among = method_there l all ps p f.method f.listed d.class d.is_class; owned = ap (λ (m : Member). m.class) f.is; named = ap member_name f.is }

  named : (c : Name) (own : OwnPieces l all ps p c) → own.parts.class.name ≡ c
  named c own = (class_found w c own.parts.class own.are.class_is).1

  class : (c : Name) → IsLive w l.facts c → IsDeclared ps (class_use c)
  class c live =
      let k = live_there entries files w a l.facts (λ f. (exact f).0) c live in
      let own = own_pieces l all ps p c k.0 k.1 in
      let its = own.parts in
      let its_class : Piece = class_piece its.class.name its.class.superclass its.entries its.fields in
      record { piece = its_class; among = own.there its_class (class_there its (own.are.live.1 live)); owned = named c own; named = ap class_name (named c own) }

  module _ (c f : Name) (t : IrType) (has : HasFieldType w c f true t) (need : Reachable w entries (NeededField c f true)) where
    abbrev d : FieldDef
    d = has.field

    name_is : has.field.name ≡ f
    name_is = has.is_field.first.has.name_is

    own : OwnPieces l all ps p c
    own = own_pieces l all ps p c has.is_field.class has.is_field.is_class

    abbrev its : Parts
    its = own.parts

    among_fields : Contains its.class.fields d
    among_fields = subst (λ (k : ClassDef). Contains k.fields d) (some_class has.is_field.class its.class (sym has.is_field.is_class ∙ own.are.class_is)) (contains_at has.is_field.class.fields has.is_field.first.place d has.is_field.first.stands)

    in_reached : Contains own.are.statics.reached d
    in_reached = is_reached l.facts c its.class.fields own.are.statics.reached own.are.statics.are_reached d among_fields has.is_field.first.has.mark_is (subst (λ (n : Name). Contains l.facts (NeededField c n true)) (sym name_is) ((exact (NeededField c f true)).1 need))

    there : Contains (all_statics its.class.name its.statics) (variable_piece its.class.name d) × Contains (all_statics its.class.name its.statics) (setter_piece its.class.name d)
    there = in_statics its.class.name its.statics d (Contains-permutation own.are.statics.reached its.statics d own.are.statics.sorted.exact in_reached)

    its_static : IsDeclared ps (static_use c f) × IsDeclared ps (setter_use c f)
    its_static = (record { piece = variable_piece its.class.name d; among = own.there (variable_piece its.class.name d) (statics_among its (variable_piece its.class.name d) there.0); owned = named c own; named = ap (λ (n : Name). static_name n d.name) (named c own) ∙ ap (static_name c) name_is }, record { piece = setter_piece its.class.name d; among = own.there (setter_piece its.class.name d) (statics_among its (setter_piece its.class.name d) there.1); owned = named c own; named = ap (λ (n : Name). setter_name n d.name) (named c own) ∙ ap (setter_name c) name_is })

  own_of : (c : Name) → Reachable w entries (Needed c) → OwnPieces l all ps p c
  own_of c r = let k = made.present w entries a.resolved (classes_kept entries files w a) c r in own_pieces l all ps p c k.0 k.1

  its_test : (c : Name) → HasForm w l.facts (forms.Test c) → Reachable w entries (Needed c) → IsDeclared ps (bound c (class_binding IsInstance c))
  its_test c form r =
      let own = own_of c r in
      let its = own.parts in
      let test : Piece = test_piece its.class.name its.instances (kind_of_class its.class.name all_kinds) in
      record { piece = test; among = own.there test (test_among its (ap (λ (t : Bool). t || its.is_cast) (own.are.tested.1 form))); owned = named c own; named = ap (class_binding IsInstance) (named c own) }

  its_cast : (c : Name) → HasForm w l.facts (forms.Cast c) → Reachable w entries (Needed c) → IsDeclared ps (bound c (class_binding AsInstance c))
  its_cast c form r =
      let own = own_of c r in
      let its = own.parts in
      let casts : Piece = cast_piece its.class.name in
      record { piece = casts; among = own.there casts (cast_among its (own.are.cast.1 form)); owned = named c own; named = ap (class_binding AsInstance) (named c own) }

  its_constants : (c : Name) → HasForm w l.facts (forms.Base c) → Reachable w entries (Needed c) → IsDeclared ps (own_constants c)
  its_constants c form r =
      let own = own_of c r in
      let its = own.parts in
      let constants : Piece = constants_piece its.class.name its.ancestors in
      record { piece = constants; among = own.there constants (constants_among its (or_right its.is_live its.is_base (own.are.base.1 form))); owned = named c own; named = ap constants_name (named c own) }

  its_loader : (c : Name) → HasForm w l.facts (forms.Load c) → Reachable w entries (Needed c) → IsDeclared ps (load_use c)
  its_loader c form r =
      let own = own_of c r in
      let its = own.parts in
      let loader : Piece = load_piece its.class.name in
      let loaded = own.are.loaded.1 form in
      record { piece = loader; among = own.there loader (cell_among its (or_left its.is_loaded its.is_stored loaded) loader (loader_there its.class.name its.is_loaded loaded)); owned = named c own; named = ap load_name (named c own) }

  -- a module that the body of a method stores is that of the method's class
  pub a_storer : (e : EmittedMethod) → Contains all e → (place : Position) (c : Name) (x : Term) → Contains (trees e.its_body) (store_module place c x) → IsDeclared ps (store_use c)
  a_storer e i place c x among =
      let found = (bodies.found e i).found in
      let owner = owner_of w e.member e.definition found in
      let kept = class-keeps owner.owner (judged entries files w a owner.owner owner.in_world).unbroken e.definition owner.listed in
      let same : c ≡ e.member.class = stores_own owner.owner e.definition e.its_body (bodies.found e i).has_body kept place c x among ∙ sym owner.class_is in
      let d = defined w e.member e.definition found in
      let own = own_pieces l all ps p c d.class (ap (class_of w) same ∙ d.is_class) in
      let its = own.parts in
      let storer : Piece = store_piece its.class.name in
      let form : HasForm w l.facts (forms.Store c) = record {
        member = e.member;
        needed = (exact (Body e.member)).1 (needed w entries all bodies e i);
        definition = e.definition;
        defined = d;
        has = subst (λ (b : Option Term). Contains (forms_by_body b) (forms.Store c)) (sym (bodies.found e i).has_body) (in_all form_of (trees e.its_body) (store_module place c x) (forms.Store c) among (here (forms.Store c) []));
      } in
      record { piece = storer; among = own.there storer (cell_among its (or_right its.is_loaded its.is_stored (own.are.stored.1 form)) storer (storer_there its.class.name its.is_loaded)); owned = named c own; named = ap store_name (named c own) }

  a_helper : (h : Helper) → Contains p.helpers h → IsDeclared ps (helper (helper_name h))
  a_helper h i =
      let k = made.present w entries a.resolved (classes_kept entries files w a) object (closed w entries (Needed object) the_object) in
      record { piece = helper_piece p.above h; among = helper_there l all ps p k.0 k.1 h i; owned = refl; named = refl }

  -- a function that tells receivers apart, of which a class's own piece or a function uses the name
  pub a_told : (m : MethodName) → IsDispatched l (flat_map (pieces_of_block w) p.blocks) m → IsDeclared ps (helper (dispatch_name m))
  a_told m d =
      let h = p.are_told.are_methods.each m d in
      let in_told = subst (λ (qs : List Piece). Contains qs h.piece) (sym p.are_told.told_are) (Contains-append_left p.are_told.methods p.are_told.names h.piece h.among) in
      let k = made.present w entries a.resolved (classes_kept entries files w a) object (closed w entries (Needed object) the_object) in
      record { piece = h.piece; among = told_there l all ps p k.0 k.1 h.piece in_told; owned = ap (λ (q : Piece). q.owner) h.is_piece.piece_is; named = ap (λ (q : Piece). q.name) h.is_piece.piece_is }

  -- and one of a reflective name
  pub a_name : (m : MethodName) → IsReflected l (flat_map (pieces_of_block w) p.blocks) m → IsDeclared ps (helper (reflective_name m))
  a_name m d =
      let h = p.are_told.are_names.each m d in
      let in_told = subst (λ (qs : List Piece). Contains qs h.piece) (sym p.are_told.told_are) (Contains-append_right p.are_told.methods p.are_told.names h.piece h.among) in
      let k = made.present w entries a.resolved (classes_kept entries files w a) object (closed w entries (Needed object) the_object) in
      record { piece = h.piece; among = told_there l all ps p k.0 k.1 h.piece in_told; owned = ap (λ (q : Piece). q.owner) h.is_piece.piece_is; named = ap (λ (q : Piece). q.name) h.is_piece.piece_is }

  pub declares : Declares entries l p.helpers ps
  declares = record {
    functions = function;
    classes = class;
    made = λ c r. class c (record { made = c; is_made = (exact (Made c)).1 r; on_chain = stay });
    statics = its_static;
    loads = its_loader;
    listed = λ f. (exact f).1;
    tests = its_test;
    casts = its_cast;
    bases = its_constants;
    helpers = a_helper;
  }
