-- A piece of a linked world whose class extends another uses the name of that one.
use Rattle.std.proofs.Common.{◌≡◌, List, [], Option, Some, None, refl, sym, subst, Contains}
use Rattle.closed_pieces.proofs.Places.{Stands, own, method, helps, tells, names, stands}
use Rattle.closed_pieces.proofs.Parts.{uses_superclass}
use Rattle.sj_emit_help_spec.specs.Helpers.{Above, helper_piece}
use Rattle.sj_emit_help_spec.specs.Words.{bound, class_name, object_class}
use Rattle.sj_emit_help_spec.specs.declared.kinds.Helper.{Helper}
use Rattle.sj_emit_help_spec.specs.declared.kinds.Helper.TheVariants as helpers
use Rattle.js_tree.specs.Terms.{Name, Item, Piece, subclass_item}
use Rattle.js_tree.specs.declared.items.Binding.{Binding}
use Rattle.agree_early_errors.specs.EmittedMethods.{EmittedMethod}
use Rattle.declared_files.specs.Pieces.{Parts, pieces, class_piece}
use Rattle.module_files.specs.Pieces.{AreLinkedPieces}
use Rattle.sj_split.proofs.Members.{at_first}
use Rattle.sj_world.specs.Linked.{Linked}
use Rattle.running_modules.proofs.Each.{each_own}

-- the piece uses a binding of this name
pub record UsesName (q : Piece) (y : Name) : Type 0 where
  pub binding : Binding
  pub used : Contains q.uses binding
  pub named : binding.name ≡ y

-- the name that a class extends is used
abbrev pub UsesSuperclass : Piece → Item → Type 0
UsesSuperclass q (subclass_item x y ms) = UsesName q y
UsesSuperclass q _ = Unit {0}

abbrev Right : Piece → Type 0
Right q = UsesSuperclass q q.item

class_right : (c : Name) (superclass : Option Name) (p : Parts) → Right (class_piece c superclass p.entries p.fields)
class_right c None p = tt
class_right c (Some s) p = record { binding = bound s (class_name s); used = uses_superclass c s (Some s) p.entries refl; named = refl }

own_right : (p : Parts) (q : Piece) → Contains (pieces p) q → Right q
own_right p = each_own Right p (record { constants = tt; class = class_right p.class.name p.class.superclass p; variable = λ d. tt; setter = λ d. tt; cell = tt; load = tt; store = tt; test = tt; cast = tt })

helper_right : (above : Above) (h : Helper) → Right (helper_piece above h)
helper_right above helpers.ArrayClass = record { binding = bound object_class (class_name object_class); used = at_first (bound object_class (class_name object_class)) []; named = refl }
helper_right above _ = tt

pub superclasses_used : (l : Linked) (all : List EmittedMethod) (ps : List Piece) (p : AreLinkedPieces l all ps) → (q : Piece) → Contains ps q → UsesSuperclass q q.item
superclasses_used l all ps p q i = go (stands l all ps p q i)
  where
    go : Stands l all ps p q → Right q
    go (own c parts are there j) = own_right parts q j
    go (method e j k same) = subst Right same tt
    go (helps h j same) = subst Right same (helper_right p.above h)
    go (tells j o) = subst Right (sym o.is_piece.piece_is) tt
    go (names j o) = subst Right (sym o.is_piece.piece_is) tt
