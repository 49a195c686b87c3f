-- What the pieces of an accepted folder use they declare.
use Rattle.std.proofs.Common.{◌≡◌, ◌↔◌, ◌∙◌, true, List, Some, sym, subst, Contains}
use Rattle.std.proofs.lemmas.List.Elements.{Contains-append_left, Contains-append_right}
use Rattle.linked_folders.proofs.DeclaredPiecesLive.{next_is, live_next, live_free}
use Rattle.linked_folders.proofs.DeclaredPiecesNamed.{called_name, reflective_name as reflective_name_is}
use Rattle.linked_folders.specs.Accepted.{IsAccepted}
use Rattle.linked_folders.specs.Bodies.{AreBodies}
use Rattle.linked_folders.specs.Built.{is_object_body}
use Rattle.linked_folders.specs.Classes.{AreParts}
use Rattle.linked_folders.specs.Dispatch.{dispatch_name, reflective_name}
use Rattle.linked_folders.specs.EmittedMethods.{EmittedMethod}
use Rattle.linked_folders.specs.Entries.{IsLive, IsReflective, AreEntries}
use Rattle.linked_folders.specs.Pieces.{piece_of_member, by_piece, AreLinkedPieces}
use Rattle.linked_folders.specs.Reachable.{Reachable}
use Rattle.sj_emit_help_spec.specs.Helpers.{helper_name}
use Rattle.sj_emit_help_spec.specs.Words.{helper}
use Rattle.sj_emit_help_spec.specs.declared.kinds.Helper.{Helper}
use Rattle.js_tree.specs.Terms.{Name, Piece}
use Rattle.js_tree.specs.declared.items.Binding.{Binding}
use Rattle.linked_folders.proofs.BodyForms.{body_is_built}
use Rattle.sj_emit_module_spec.specs.Laws.{IsDeclared}
use Rattle.linked_folders.proofs.Plain.{class_found}
use Rattle.linked_folders.specs.SjEmitClassSpecPieces.{Parts}
use Rattle.sj_names.specs.declared.entry_points.EntryPoint.{EntryPoint}
use Rattle.sj_names.specs.declared.folders.SourceFile.{SourceFile}
use Rattle.sj_names.specs.declared.method_names.MethodName.{MethodName}
use Rattle.sj_world.specs.Known.{Classes}
use Rattle.sj_world.specs.Linked.{Linked}
use Rattle.sj_world.specs.declared.facts.Fact.{Fact}
use Rattle.sj_world.specs.declared.facts.Fact.TheVariants.{Called}
use Rattle.closed_pieces.proofs.Classes.{class_uses_declared}
use Rattle.closed_pieces.proofs.Declared.{Declares, a_told, a_name, a_storer, declares}
use Rattle.closed_pieces.proofs.Functions.{function_uses}
use Rattle.closed_pieces.proofs.Helpers.{helper_uses_declared}
use Rattle.closed_pieces.proofs.Places.{in_blocks, from_blocks, Stands, own, method, helps, tells, names, stands}
use Rattle.closed_pieces.proofs.Told.{told_uses_declared, name_uses_declared}
use Rattle.closed_pieces.specs.Laws.{UsesAreDeclared}

module _ (entries : List EntryPoint) (files : List SourceFile) (l : Linked) (all : List EmittedMethod) (ps : List Piece) (a : IsAccepted entries files l.world) (bodies : AreBodies l.world entries all) (exact : (f : Fact) → Contains l.facts f ↔ Reachable l.world entries f) (methods : AreEntries l.world l.facts l.entries) (p : AreLinkedPieces l all ps) where
  d : Declares entries l p.helpers ps
  d = declares entries files l all ps a bodies exact p

  holds : (f : Fact) → Contains l.facts f → Reachable l.world entries f
  holds f = (exact f).0

  objects : (e : EmittedMethod) → Contains all e → is_object_body e.definition e.its_body ≡ true
  objects = body_is_built entries files l.world a all bodies

  -- what a live class extends is live
  superclasses : (c s : Name) (parts : Parts) → AreParts l c parts → IsLive l.world l.facts c → parts.class.superclass ≡ Some s → IsLive l.world l.facts s
  superclasses c s parts are live super = live_next l.world l.facts c s live (next_is l.world c parts.class are.class_is (live_free entries files l.world a l.facts holds c live) ∙ super)

  helped : (q : Piece) → Contains (in_blocks l all ps p) q → (h : Helper) → Contains q.uses (helper (helper_name h)) → IsDeclared ps (helper (helper_name h))
  helped q i h u = d.helpers h ((p.are_helpers.exact h).1 (by_piece q h (Contains-append_left (in_blocks l all ps p) p.told q i) u))

  telling : (q : Piece) → Contains p.told q → (h : Helper) → Contains q.uses (helper (helper_name h)) → IsDeclared ps (helper (helper_name h))
  telling q i h u = d.helpers h ((p.are_helpers.exact h).1 (by_piece q h (Contains-append_right (in_blocks l all ps p) p.told q i) u))

  -- a function that tells the receivers of a method apart, which the function of a method uses
  apart : (e : EmittedMethod) → Contains (in_blocks l all ps p) (piece_of_member l.world e) → (c : Name) (m : MethodName) → Reachable l.world entries (Called c m) → Contains (piece_of_member l.world e).uses (helper (dispatch_name m)) → IsDeclared ps (helper (dispatch_name m))
  apart e i c m r u = a_told entries files l all ps a bodies exact p m (record { named = called_name entries files l.world a c m r; receiver = c; called = (exact (Called c m)).1 r; user = piece_of_member l.world e; among = i; uses = u })

  -- one of a reflective name
  by_name : (e : EmittedMethod) → Contains (in_blocks l all ps p) (piece_of_member l.world e) → (m : MethodName) → IsReflective l.world l.facts m → Contains (piece_of_member l.world e).uses (helper (reflective_name m)) → IsDeclared ps (helper (reflective_name m))
  by_name e i m r u = a_name entries files l all ps a bodies exact p m (record { named = reflective_name_is entries files l.world a l.facts m r; called = r; user = piece_of_member l.world e; among = i; uses = u })

  declared : (q : Piece) → Stands l all ps p q → (b : Binding) → Contains q.uses b → IsDeclared ps b
  declared q (own c parts are there i) b u = class_uses_declared entries l p.helpers ps d holds methods superclasses c parts (class_found l.world c parts.class are.class_is).1 are (λ r j. from_blocks l all ps p r (there r j)) q i (helped q (there q i)) b u
  declared q (method e i j same) b u = function_uses entries files l all p.helpers ps a bodies objects d e i (helped (piece_of_member l.world e) (subst (Contains (in_blocks l all ps p)) (sym same) j)) (apart e (subst (Contains (in_blocks l all ps p)) (sym same) j)) (by_name e (subst (Contains (in_blocks l all ps p)) (sym same) j)) (a_storer entries files l all ps a bodies exact p e i) b (subst (λ (r : Piece). Contains r.uses b) (sym same) u)
  declared q (helps h i same) b u = helper_uses_declared entries files l all ps a bodies holds p d h i b (subst (λ (r : Piece). Contains r.uses b) (sym same) u)
  declared q (tells i o) b u = told_uses_declared entries l p.helpers ps d holds o.method q o.is_piece (telling q i) b u
  declared q (names i o) b u = name_uses_declared entries l p.helpers ps d holds o.method q o.is_piece (telling q i) b u

  pub all_declared : (q : Piece) → Contains ps q → (b : Binding) → Contains q.uses b → IsDeclared ps b
  all_declared q i = declared q (stands l all ps p q i)

pub uses_are_declared : UsesAreDeclared
uses_are_declared entries files w ps a its = all_declared entries files its.linked its.all ps accepted bodies exact methods its.are
  where
    to_world : w ≡ its.linked.world
    to_world = sym its.is_linked.world

    to_facts : its.facts ≡ its.linked.facts
    to_facts = sym its.is_linked.facts_are

    accepted : IsAccepted entries files its.linked.world
    accepted = subst (IsAccepted entries files) to_world a

    bodies : AreBodies its.linked.world entries its.all
    bodies = subst (λ (x : Classes). AreBodies x entries its.all) to_world its.bodies

    exact : (f : Fact) → Contains its.linked.facts f ↔ Reachable its.linked.world entries f
    exact f = subst (λ (fs : List Fact). Contains fs f ↔ Reachable its.linked.world entries f) to_facts (subst (λ (x : Classes). Contains its.facts f ↔ Reachable x entries f) to_world (its.are_facts f))

    methods : AreEntries its.linked.world its.linked.facts its.linked.entries
    methods = subst (λ (fs : List Fact). AreEntries its.linked.world fs its.linked.entries) to_facts (subst (λ (x : Classes). AreEntries x its.facts its.linked.entries) to_world its.is_linked.entries)
