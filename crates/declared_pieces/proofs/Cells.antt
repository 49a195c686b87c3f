-- Where bodies load or store a module, the pieces of its cell are there.
use Rattle.std.proofs.Common.{◌≡◌, ◌&&◌, ◌||◌, Bool, true, false, List, [], ◌∷◌, Some, if◌then◌else◌, refl, sym, ap, subst, ◌∙◌}
use Rattle.std.specs.List.{Contains, list_any}
use Rattle.std.specs.Prelude.{is_none}
use Rattle.std.proofs.lemmas.Bool.{and_parts, or_left, or_right}
use Rattle.std.proofs.lemmas.List.Folds.{Any-from_list_any, list_any_at}
use Rattle.declared_pieces.proofs.Blocks.{OwnPieces, own_pieces}
use Rattle.declared_pieces.proofs.Forms.{in_one, body_tells, load_form, store_form, store_is}
use Rattle.declared_pieces.proofs.Live.{classes_kept}
use Rattle.declared_pieces.proofs.Parts.{cell_among, cell_there, storer_there, loader_there}
use Rattle.file_declarations.specs.Pieces.{cell_piece, load_piece, store_piece}
use Rattle.js_tree.specs.Terms.{Piece}
use Rattle.object_helpers.proofs.Classes.{class-keeps}
use Rattle.object_helpers.proofs.Derivations.{closed}
use Rattle.object_helpers.proofs.Found.{owner_of}
use Rattle.object_helpers.proofs.Members.{defined}
use Rattle.object_helpers.proofs.Made as made
use Rattle.object_helpers.proofs.Plain.{class_found}
use Rattle.object_helpers.proofs.Stores.{stores_own}
use Rattle.object_helpers.proofs.Worlds.{judged}
use Rattle.object_helpers.specs.Accepted.{IsAccepted}
use Rattle.object_helpers.specs.Bodies.{AreBodies}
use Rattle.object_helpers.specs.EmittedMethods.{EmittedMethod}
use Rattle.object_helpers.specs.Pieces.{AreLinkedPieces}
use Rattle.object_helpers.specs.Reachable.{Reachable}
use Rattle.object_helpers.specs.Rules.{Reads, load_needed}
use Rattle.object_helpers.specs.Running.{CanRun}
use Rattle.object_helpers.specs.Used.{is_among, is_loaded, is_stored, is_store_of}
use Rattle.sj_infos.specs.Forms.{form_of, of_base, of_call, of_test, of_cast, forms_in}
use Rattle.sj_infos.specs.Trees.{trees}
use Rattle.sj_infos.specs.declared.forms.BodyForm.{BodyForm}
use Rattle.sj_infos.specs.declared.forms.BodyForm.TheVariants as forms
use Rattle.sj_infos.specs.declared.infos.Info.TheVariants.{Load}
use Rattle.sj_names.proofs.Same.{impossible}
use Rattle.sj_names.specs.declared.entry_points.EntryPoint.{EntryPoint}
use Rattle.sj_names.specs.declared.folders.SourceFile.{SourceFile}
use Rattle.sj_names.specs.declared.method_names.MethodName.{MethodName}
use Rattle.sj_trees.specs.Term.{Term, load_module, store_module, apply, new_array, array_value, is_instance_of, as_instance_of}
use Rattle.sj_trees.specs.declared.classes.ClassDef.{ClassDef}
use Rattle.sj_trees.specs.declared.positions.Position.{Position}
use Rattle.sj_names.specs.declared.references.BaseRef.{BaseRef}
use Rattle.sj_trees.specs.declared.types.IrType.{IrType}
use Rattle.sj_world.proofs.OnCycles.{among}
use Rattle.sj_world.specs.Known.{Name, Classes, class_of}
use Rattle.sj_world.specs.Linked.{Linked}
use Rattle.sj_world.specs.declared.facts.Fact.TheVariants.{Needed, Body}
use Rattle.worklist.proofs.Inserted.{nothing_in, only_one}

-- the cell of a module that is written, and the function that stores it
pub record CellThere (w : Classes) (ps : List Piece) (written : List Name) (c : Name) : Type 0 where
  pub here : Contains written c
  pub class : ClassDef
  pub found : class_of w c ≡ Some class
  pub cell : Contains ps (cell_piece c)
  pub storer : Contains ps (store_piece c)

-- with the function that loads it
pub record LoaderThere (w : Classes) (ps : List Piece) (written : List Name) (c : Name) : Type 0 where
  pub its : CellThere w ps written c
  pub loader : Contains ps (load_piece c)

-- a tree that stores the module
record IsStore (t : Term) (c : Name) : Type 0 where
  place : Position
  value : Term
  is : t ≡ store_module place c value

abbrev is_store : BodyForm → Bool
is_store (forms.Store n) = true
is_store _ = false

-- forms of which none is a store
none_stores : {A : Type 0} (fs : List BodyForm) (c : Name) → list_any is_store fs ≡ false → Contains fs (forms.Store c) → A
none_stores fs c h i = impossible (sym h ∙ list_any_at is_store fs i.0 (forms.Store c) i.1 (subst (λ (f : BodyForm). is_store f ≡ true) (sym i.2) refl))

base_stores : (b : BaseRef) → list_any is_store (of_base b) ≡ false
base_stores (BaseRef.Class c) = refl
base_stores _ = refl

call_stores : (m : MethodName) → list_any is_store (of_call m) ≡ false
call_stores m = go (is_none m.result)
  where
    go : (b : Bool) → list_any is_store (if b then forms.Reflective m ∷ [] else []) ≡ false
    go true = refl
    go false = refl

test_stores : (t : IrType) → list_any is_store (of_test t) ≡ false
test_stores (IrType.Class c) = refl
test_stores (IrType.Array r) = base_stores r.base
test_stores _ = refl

cast_stores : (t : IrType) → list_any is_store (of_cast t) ≡ false
cast_stores (IrType.Class c) = refl
cast_stores (IrType.Array r) = base_stores r.base
cast_stores _ = refl

store_among : (t : Term) (c : Name) → Contains (form_of t) (forms.Store c) → IsStore t c
store_among (store_module p d e) c i = record { place = p; value = e; is = ap (λ (n : Name). store_module p n e) (one (only_one (forms.Store d) (forms.Store c) i)) }
  where
    named : BodyForm → Name
    named (forms.Store n) = n
    named _ = d

    one : forms.Store d ≡ forms.Store c → d ≡ c
    one e = ap named e
store_among (load_module p d) c i = none_stores (forms.Load d ∷ []) c refl i
store_among (apply p e m ts t) c i = none_stores (of_call m) c (call_stores m) i
store_among (new_array p r e) c i = none_stores (of_base r.base) c (base_stores r.base) i
store_among (array_value p r ts) c i = none_stores (of_base r.base) c (base_stores r.base) i
store_among (is_instance_of p e t) c i = none_stores (of_test t) c (test_stores t) i
store_among (as_instance_of p e t) c i = none_stores (of_cast t) c (cast_stores t) i
store_among _ c i = nothing_in (forms.Store c) i

module _ (entries : List EntryPoint) (files : List SourceFile) (l : Linked) (all : List EmittedMethod) (live written : List Name) (ps : List Piece) (a : IsAccepted entries files l.world) (bodies : AreBodies l.world entries all) (p : AreLinkedPieces l all ps) (run : CanRun l.world entries l.facts all live p.helpers written) where
  abbrev w : Classes
  w = l.world

  its_cell : (c : Name) → Contains written c → (own : OwnPieces l all ps p c) → (own.parts.is_loaded || own.parts.is_stored) ≡ true → CellThere w ps written c
  its_cell c here own h =
      let n = own.parts.class.name in
      let named : n ≡ c = (class_found w c own.parts.class own.are.class_is).1 in
      record {
        here = here;
        class = own.parts.class;
        found = own.are.class_is;
        cell = subst (λ (x : Name). Contains ps (cell_piece x)) named (own.there (cell_piece n) (cell_among own.parts h (cell_piece n) (cell_there n own.parts.is_loaded)));
        storer = subst (λ (x : Name). Contains ps (store_piece x)) named (own.there (store_piece n) (cell_among own.parts h (store_piece n) (storer_there n own.parts.is_loaded)));
      }

  pub loaded_there : (c : Name) → (is_among written c && is_loaded all c) ≡ true → LoaderThere w ps written c
  loaded_there c h =
      let q = and_parts (is_among written c) (is_loaded all c) h in
      let form = load_form w entries l.facts all bodies run.listed c q.1 in
      let reads : Reads w entries (Reachable w entries) (Load c) = record { member = form.member; needed = run.reached (Body form.member) form.needed; definition = form.definition; defined = form.defined; asked = body_tells form.definition.body (forms.Load c) form.has } in
      let k = made.present w entries a.resolved (classes_kept entries files w a) c (closed w entries (Needed c) (load_needed c reads)) in
      let own = own_pieces l all ps p c k.0 k.1 in
      let n = own.parts.class.name in
      let loaded = own.are.loaded.1 form in
      let some = or_left own.parts.is_loaded own.parts.is_stored loaded in
      record {
        its = its_cell c ((among written c).0 q.0) own some;
        loader = subst (λ (x : Name). Contains ps (load_piece x)) (class_found w c own.parts.class own.are.class_is).1 (own.there (load_piece n) (cell_among own.parts some (load_piece n) (loader_there n own.parts.is_loaded loaded)));
      }

  -- a module is stored in a method of its own class
  stored_own : (c : Name) (e : EmittedMethod) → Contains all e → Contains (forms_in e.its_body) (forms.Store c) → (class_of w c ≡ class_of w e.member.class)
  stored_own c e i has =
      let o = in_one form_of (trees e.its_body) (forms.Store c) has in
      let s = store_among o.item c o.within in
      let its = owner_of w e.member e.definition (bodies.found e i).found in
      let kept = class-keeps its.owner (judged entries files w a its.owner its.in_world).unbroken e.definition its.listed in
      ap (class_of w) (stores_own its.owner e.definition e.its_body (bodies.found e i).has_body kept s.place c s.value (subst (Contains (trees e.its_body)) s.is o.among) ∙ sym its.class_is)

  pub stored_there : (c : Name) → (is_among written c && is_stored all c) ≡ true → CellThere w ps written c
  stored_there c h =
      let q = and_parts (is_among written c) (is_stored all c) h in
      let m = Any-from_list_any (λ (e : EmittedMethod). list_any (is_store_of c) (forms_in e.its_body)) all q.1 in
      let i : Contains all m.1 = (m.0, m.2, m.3) in
      let f = Any-from_list_any (is_store_of c) (forms_in m.1.its_body) m.4 in
      let has : Contains (forms_in m.1.its_body) (forms.Store c) = subst (Contains (forms_in m.1.its_body)) (store_is c f.1 f.4) (f.0, f.2, f.3) in
      let d = defined w m.1.member m.1.definition (bodies.found m.1 i).found in
      let own = own_pieces l all ps p c d.class (stored_own c m.1 i has ∙ d.is_class) in
      its_cell c ((among written c).0 q.0) own (or_right own.parts.is_loaded own.parts.is_stored (own.are.stored.1 (store_form w entries l.facts all bodies run.listed c q.1)))
