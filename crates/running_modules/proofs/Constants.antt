-- A piece of a linked world whose item declares an object is the constants of a class.
use Rattle.std.proofs.Common.{◌≡◌, true, List, Option, Some, None, sym, subst, Contains}
use Rattle.closed_pieces.proofs.DeclaredPiecesBelow.{kind_hijacked, known_class, known_hijacked}
use Rattle.closed_pieces.proofs.Places.{Stands, own, method, helps, tells, names, stands}
use Rattle.declared_files.specs.Declared.{AreConstants}
use Rattle.sj_emit_help_spec.specs.Helpers.{helper_item, constants}
use Rattle.sj_emit_help_spec.specs.Words.{kind_class}
use Rattle.sj_emit_help_spec.specs.declared.kinds.Helper.{Helper}
use Rattle.sj_emit_help_spec.specs.declared.kinds.Helper.TheVariants as helpers
use Rattle.js_tree.specs.Terms.{Name, Property, object_item, Piece}
use Rattle.declared_files.specs.Classes.{AreParts}
use Rattle.agree_early_errors.specs.EmittedMethods.{EmittedMethod}
use Rattle.declared_files.specs.Pieces.{Parts, pieces, class_piece}
use Rattle.module_files.specs.Pieces.{AreLinkedPieces}
use Rattle.agree_early_errors.proofs.Plain.{class_found}
use Rattle.sj_world.specs.Known.{is_known}
use Rattle.sj_world.specs.Linked.{Linked}
use Rattle.sj_world.specs.Tables.{AreAncestors}
use Rattle.running_modules.proofs.Each.{each_own}

module _ (l : Linked) (all : List EmittedMethod) (ps : List Piece) (p : AreLinkedPieces l all ps) where
  abbrev Right : Piece → Type 0
  Right q = (x : Name) (qs : List Property) → q.item ≡ object_item x qs → AreConstants l.world qs

  class_known : (c : Name) (parts : Parts) → AreParts l c parts → is_known l.world parts.class.name ≡ true
  class_known c parts are = subst (λ (n : Name). is_known l.world n ≡ true) (sym (class_found l.world c parts.class are.class_is).1) (known_class l.world c parts.class are.class_is)

  class_right : (c : Name) (superclass : Option Name) (parts : Parts) → Right (class_piece c superclass parts.entries parts.fields)
  class_right c None parts x qs e = absurd (cc)
  class_right c (Some s) parts x qs e = absurd (cc)

  own_right : (c : Name) (parts : Parts) → AreParts l c parts → (q : Piece) → Contains (pieces parts) q → Right q
  own_right c parts are = each_own Right parts (record {
    constants = λ x qs e. let same : constants parts.class.name parts.ancestors ≡ qs = cc in record { class = parts.class.name; ancestors = parts.ancestors; are = sym same; known = class_known c parts are; above = subst (λ (n : Name). AreAncestors l.world n parts.ancestors) (sym (class_found l.world c parts.class are.class_is).1) are.ancestors };
    class = class_right parts.class.name parts.class.superclass parts;
    variable = λ d x qs e. absurd (cc);
    setter = λ d x qs e. absurd (cc);
    cell = λ x qs e. absurd (cc);
    load = λ x qs e. absurd (cc);
    store = λ x qs e. absurd (cc);
    test = λ x qs e. absurd (cc);
    cast = λ x qs e. absurd (cc);
  })

  helper_right : (h : Helper) (x : Name) (qs : List Property) → helper_item p.above h ≡ object_item x qs → AreConstants l.world qs
  helper_right (helpers.ConstantsOf k) x qs e = let same : constants (kind_class k) (p.above k) ≡ qs = cc in record { class = kind_class k; ancestors = p.above k; are = sym same; known = known_hijacked l.world (kind_class k) (kind_hijacked k); above = p.are_above k }
  helper_right (helpers.Throws f) x qs e = absurd (cc)
  helper_right (helpers.TestOf k) x qs e = absurd (cc)
  helper_right (helpers.CastTo k) x qs e = absurd (cc)
  helper_right _ x qs e = absurd (cc)

  pub objects_are_constants : (q : Piece) → Contains ps q → Right q
  objects_are_constants q i = go (stands l all ps p q i)
    where
      go : Stands l all ps p q → Right q
      go (own c parts are there j) = own_right c parts are q j
      go (method e j k same) = subst Right same (λ x qs e. absurd (cc))
      go (helps h j same) = subst Right same (helper_right h)
      go (tells j o) = subst Right (sym o.is_piece.piece_is) (λ x qs e. absurd (cc))
      go (names j o) = subst Right (sym o.is_piece.piece_is) (λ x qs e. absurd (cc))
