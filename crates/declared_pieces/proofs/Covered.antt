-- Constants, fields and helpers only declare.
use Rattle.std.proofs.Common.{◌≡◌, true, List, [], ◌∷◌, map, refl}
use Rattle.std.specs.Prelude.{is_some}
use Rattle.std.specs.List.{list_all}
use Rattle.file_declarations.specs.Declarations.{declares}
use Rattle.file_tops.specs.Tops.{literal_value}
use Rattle.sj_emit_help_spec.specs.Helpers.{Above, helper_name, marker_property, constants, helper_item}
use Rattle.sj_emit_help_spec.specs.Words.{class_name, kind_class, object_class}
use Rattle.sj_emit_help_spec.specs.declared.kinds.Failure.{Failure}
use Rattle.sj_emit_help_spec.specs.declared.kinds.Failure.TheVariants as failures
use Rattle.sj_emit_help_spec.specs.declared.kinds.Helper.{Helper}
use Rattle.sj_emit_help_spec.specs.declared.kinds.Helper.TheVariants as helpers
use Rattle.js_mean.specs.Proper.{is_among}
use Rattle.js_tree.specs.Terms.{Name, Property, object_item}
use Rattle.file_declarations.specs.Pieces.{zero_of}
use Rattle.sj_trees.specs.declared.types.IrType.{IrType}
use Rattle.sj_trees.specs.declared.types.IrType.TheVariants as types

markers_literal : (ns : List Name) → list_all (λ (q : Property). is_some (literal_value q.value)) (map marker_property ns) ≡ true
markers_literal [] = refl
markers_literal (n ∷ ns) = markers_literal ns

pub constants_declare : (fs : List Name) (x c : Name) (ancestors : List Name) → declares fs (object_item x (constants c ancestors)) ≡ true
constants_declare fs x c ancestors = markers_literal ancestors

pub zero_literal : (t : IrType) → is_some (literal_value (zero_of t)) ≡ true
zero_literal types.Boolean = refl
zero_literal types.Char = refl
zero_literal types.Byte = refl
zero_literal types.Short = refl
zero_literal types.Int = refl
zero_literal types.Long = refl
zero_literal types.String = refl
zero_literal types.Undefined = refl
zero_literal _ = refl

failure_declares : (fs : List Name) (above : Above) (f : Failure) → declares fs (helper_item above (helpers.Throws f)) ≡ true
failure_declares fs above failures.NullReceiver = refl
failure_declares fs above failures.Division = refl
failure_declares fs above failures.Cast = refl
failure_declares fs above failures.Index = refl
failure_declares fs above failures.Store = refl
failure_declares fs above failures.Size = refl
failure_declares fs above failures.Method = refl

pub helper_declares : (fs : List Name) (above : Above) (h : Helper) → (h ≡ helpers.ArrayClass → is_among fs (class_name object_class) ≡ true) → declares fs (helper_item above h) ≡ true
helper_declares fs above (helpers.TestOf k) c = refl
helper_declares fs above (helpers.CastTo k) c = refl
helper_declares fs above (helpers.ConstantsOf k) c = constants_declare fs (helper_name (helpers.ConstantsOf k)) (kind_class k) (above k)
helper_declares fs above helpers.NotNull c = refl
helper_declares fs above helpers.IntQuotient c = refl
helper_declares fs above helpers.IntRemainder c = refl
helper_declares fs above helpers.LongQuotient c = refl
helper_declares fs above helpers.LongRemainder c = refl
helper_declares fs above helpers.BoxedChar c = refl
helper_declares fs above helpers.Equal c = refl
helper_declares fs above helpers.ArrayClass c = c refl
helper_declares fs above helpers.MakeArray c = refl
helper_declares fs above helpers.CheckIndex c = refl
helper_declares fs above helpers.Get c = refl
helper_declares fs above helpers.Set c = refl
helper_declares fs above helpers.Put c = refl
helper_declares fs above helpers.Covers c = refl
helper_declares fs above helpers.Fits c = refl
helper_declares fs above helpers.ClassOf c = refl
helper_declares fs above helpers.TestOfArray c = refl
helper_declares fs above helpers.CastToArray c = refl
helper_declares fs above (helpers.Throws f) c = failure_declares fs above f
