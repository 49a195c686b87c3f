-- Helpers that compare as equal are one.
use Rattle.std.specs.Prelude.{◌≡◌, true}
use Rattle.std.proofs.Common.{refl, ap}
use Rattle.sj_emit_help_spec.specs.contracts.kinds.FailurePartialEq.TheImpl as failure_eq
use Rattle.sj_emit_help_spec.specs.contracts.kinds.HelperPartialEq.TheImpl as helper_eq
use Rattle.sj_emit_help_spec.specs.contracts.kinds.KindPartialEq.TheImpl as kind_eq
use Rattle.sj_emit_help_spec.specs.declared.kinds.Failure.{Failure}
use Rattle.sj_emit_help_spec.specs.declared.kinds.Helper.{Helper}
use Rattle.sj_emit_help_spec.specs.declared.kinds.Kind.{Kind}
use Rattle.sj_names.proofs.Equal.{false_is_not_true}
use Rattle.world_pieces.specs.contracts.helpers.UsedHelperPartialEq.TheImpl as used_eq
use Rattle.world_pieces.specs.declared.helpers.UsedHelper.{UsedHelper}
use Rattle.world_pieces.specs.Helpers.{as_used}

same_kind : (a b : Kind) → kind_eq.ghosts.eq a b ≡ true → a ≡ b
same_kind Kind.Undefined Kind.Undefined h = refl
same_kind Kind.Boolean Kind.Boolean h = refl
same_kind Kind.Char Kind.Char h = refl
same_kind Kind.Byte Kind.Byte h = refl
same_kind Kind.Short Kind.Short h = refl
same_kind Kind.Int Kind.Int h = refl
same_kind Kind.Long Kind.Long h = refl
same_kind Kind.Text Kind.Text h = refl
same_kind _ _ h = false_is_not_true h

same_failure : (a b : Failure) → failure_eq.ghosts.eq a b ≡ true → a ≡ b
same_failure Failure.NullReceiver Failure.NullReceiver h = refl
same_failure Failure.Division Failure.Division h = refl
same_failure Failure.Cast Failure.Cast h = refl
same_failure Failure.Index Failure.Index h = refl
same_failure Failure.Store Failure.Store h = refl
same_failure Failure.Size Failure.Size h = refl
same_failure Failure.Method Failure.Method h = refl
same_failure _ _ h = false_is_not_true h

same_helper : (a b : Helper) → helper_eq.ghosts.eq a b ≡ true → a ≡ b
same_helper (Helper.TestOf k) (Helper.TestOf l) h = ap Helper.TestOf (same_kind k l h)
same_helper (Helper.CastTo k) (Helper.CastTo l) h = ap Helper.CastTo (same_kind k l h)
same_helper (Helper.ConstantsOf k) (Helper.ConstantsOf l) h = ap Helper.ConstantsOf (same_kind k l h)
same_helper Helper.NotNull Helper.NotNull h = refl
same_helper Helper.IntQuotient Helper.IntQuotient h = refl
same_helper Helper.IntRemainder Helper.IntRemainder h = refl
same_helper Helper.LongQuotient Helper.LongQuotient h = refl
same_helper Helper.LongRemainder Helper.LongRemainder h = refl
same_helper Helper.BoxedChar Helper.BoxedChar h = refl
same_helper Helper.Equal Helper.Equal h = refl
same_helper Helper.ArrayClass Helper.ArrayClass h = refl
same_helper Helper.MakeArray Helper.MakeArray h = refl
same_helper Helper.CheckIndex Helper.CheckIndex h = refl
same_helper Helper.Get Helper.Get h = refl
same_helper Helper.Set Helper.Set h = refl
same_helper Helper.Put Helper.Put h = refl
same_helper Helper.Covers Helper.Covers h = refl
same_helper Helper.Fits Helper.Fits h = refl
same_helper Helper.ClassOf Helper.ClassOf h = refl
same_helper Helper.TestOfArray Helper.TestOfArray h = refl
same_helper Helper.CastToArray Helper.CastToArray h = refl
same_helper (Helper.Throws f) (Helper.Throws g) h = ap Helper.Throws (same_failure f g h)
same_helper _ _ h = false_is_not_true h

pub same_used : (a b : UsedHelper) → used_eq.ghosts.eq a b ≡ true → a ≡ b
same_used a b h = ap as_used (same_helper a.helper b.helper h)
