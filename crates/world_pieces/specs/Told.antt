-- The method names of which the functions tell primitive receivers apart, the pieces of these functions, and what stands behind the pieces of `java.lang.Object`, as the code makes them.
use Rattle.std.specs.Prelude.{◌≡◌, ◌++◌, List, Contains, map}
use Rattle.sj_emit_class_spec.specs.Entries.{IsReflective}
use Rattle.sj_emit_help_spec.specs.Helpers.{Above, helper_piece}
use Rattle.sj_emit_help_spec.specs.declared.kinds.Helper.{Helper}
use Rattle.js_tree.specs.Terms.{Name, Piece}
use Rattle.linked_pieces.specs.Pieces.{AreHelpers, AreAbove}
use Rattle.linked_pieces.specs.Reflected.{AreToldPieces}
use Rattle.sj_emit_class_spec.specs.Dispatch.{dispatch_name, reflective_name}
use Rattle.sj_mangling.specs.Bindings.{method_binding}
use Rattle.sj_mangling.specs.declared.bindings.MethodBinding.{MethodBinding}
use Rattle.sj_names.specs.MethodNames.{IsMethodName}
use Rattle.sj_names.specs.declared.method_names.MethodName.{MethodName}
use Rattle.sj_world.specs.Known.{Classes}
use Rattle.sj_world.specs.Linked.{Linked}
use Rattle.sj_world.specs.declared.facts.Fact.{Fact}
use Rattle.sj_world.specs.declared.facts.Fact.TheVariants.{Called}

-- the same method name, of which this binding is one of these names
pub record IsUsedMethod (b : MethodBinding) (words : List Name) (m x : MethodName) : Type 0 where
  pub same : m ≡ x
  pub named : IsMethodName m
  pub word : Contains words (method_binding b m)

-- the method that the fact calls, of which the function has one of these names
pub record IsUsedBy (words : List Name) (f : Fact) (m : MethodName) : Type 0 where
  pub receiver : Name
  pub called : f ≡ Called receiver m
  pub named : IsMethodName m
  pub word : Contains words (dispatch_name m)

-- the reflective name by which a needed body calls, of which the function has one of these names
pub record IsUsedName (l : Linked) (words : List Name) (p : MethodName) : Type 0 where
  pub called : IsReflective l.world l.facts p
  pub named : IsMethodName p
  pub word : Contains words (reflective_name p)

abbrev pub piece_name : Piece → Name
piece_name p = p.name

-- what makes a piece that of a method name
abbrev pub Piecing : Type 1
Piecing = MethodName → Piece → Type 0

-- the piece of one of these method names
pub record OfMethod (Is : Piecing) (ms : List MethodName) (piece : Piece) : Type 0 where
  pub method : MethodName
  pub among : Contains ms method
  pub is_piece : Is method piece

-- the method name has its piece among these
pub record HasPiece (Is : Piecing) (ps : List Piece) (m : MethodName) : Type 0 where
  pub piece : Piece
  pub among : Contains ps piece
  pub is_piece : Is m piece

-- a piece for each of these method names, which is named by this binding
pub record AreTheirs (b : MethodBinding) (Is : Piecing) (ms : List MethodName) (ps : List Piece) : Type 0 where
  pub names_are : map piece_name ps ≡ map (method_binding b) ms
  pub made : (p : Piece) → Contains ps p → OfMethod Is ms p
  pub each : (m : MethodName) → Contains ms m → HasPiece Is ps m

-- the helpers that these pieces use, and behind them those
pub record HaveHelpers (w : Classes) (ps told behind : List Piece) : Type 0 where
  pub helpers : List Helper
  pub are_helpers : AreHelpers ps helpers
  pub above : Above
  pub are_above : AreAbove w above
  pub are : behind ≡ map (helper_piece above) helpers ++ told

-- what stands behind the pieces of `java.lang.Object`, where classes have these pieces
pub record AreBehind (l : Linked) (ps behind : List Piece) : Type 0 where
  pub told : List Piece
  pub are_told : AreToldPieces l ps told
  pub have_helpers : HaveHelpers l.world (ps ++ told) told behind
