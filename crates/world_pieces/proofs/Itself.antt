-- Whether a helper is among those that are found.
use Rattle.std.proofs.Common.{◌≡◌, true, List, Contains, refl, subst}
use Rattle.std.specs.Bool.{Decides}
use Rattle.std.specs.Prelude.{◌↔◌}
use Rattle.std.proofs.lemmas.Map.Made.{is_member-Decides}
use Rattle.sj_emit_help_spec.specs.contracts.kinds.FailurePartialEq.TheImpl as failure_eq
use Rattle.sj_emit_help_spec.specs.contracts.kinds.HelperPartialEq.TheImpl as helper_eq
use Rattle.sj_emit_help_spec.specs.contracts.kinds.KindPartialEq.TheImpl as kind_eq
use Rattle.sj_emit_help_spec.specs.declared.kinds.Failure.{Failure}
use Rattle.sj_emit_help_spec.specs.declared.kinds.Helper.{Helper}
use Rattle.sj_emit_help_spec.specs.declared.kinds.Kind.{Kind}
use Rattle.world_pieces.specs.declared.helpers.UsedHelper.{UsedHelper}
use Rattle.world_pieces.specs.Helpers.{as_used, is_found, is_same_used}
use Rattle.world_pieces.specs.Same.{same_used}

kind_itself : (k : Kind) → kind_eq.ghosts.eq k k ≡ true
kind_itself Kind.Undefined = refl
kind_itself Kind.Boolean = refl
kind_itself Kind.Char = refl
kind_itself Kind.Byte = refl
kind_itself Kind.Short = refl
kind_itself Kind.Int = refl
kind_itself Kind.Long = refl
kind_itself Kind.Text = refl

failure_itself : (f : Failure) → failure_eq.ghosts.eq f f ≡ true
failure_itself Failure.NullReceiver = refl
failure_itself Failure.Division = refl
failure_itself Failure.Cast = refl
failure_itself Failure.Index = refl
failure_itself Failure.Store = refl
failure_itself Failure.Size = refl
failure_itself Failure.Method = refl

helper_itself : (h : Helper) → helper_eq.ghosts.eq h h ≡ true
helper_itself (Helper.TestOf k) = kind_itself k
helper_itself (Helper.CastTo k) = kind_itself k
helper_itself (Helper.ConstantsOf k) = kind_itself k
helper_itself Helper.NotNull = refl
helper_itself Helper.IntQuotient = refl
helper_itself Helper.IntRemainder = refl
helper_itself Helper.LongQuotient = refl
helper_itself Helper.LongRemainder = refl
helper_itself Helper.BoxedChar = refl
helper_itself Helper.Equal = refl
helper_itself Helper.ArrayClass = refl
helper_itself Helper.MakeArray = refl
helper_itself Helper.CheckIndex = refl
helper_itself Helper.Get = refl
helper_itself Helper.Set = refl
helper_itself Helper.Put = refl
helper_itself Helper.Covers = refl
helper_itself Helper.Fits = refl
helper_itself Helper.ClassOf = refl
helper_itself Helper.TestOfArray = refl
helper_itself Helper.CastToArray = refl
helper_itself (Helper.Throws f) = failure_itself f

used_decides : (a b : UsedHelper) → Decides (is_same_used a b) (a ≡ b)
used_decides a b = (same_used a b, λ e. subst (λ (z : UsedHelper). is_same_used a z ≡ true) e (helper_itself a.helper))

pub found_tells : (found : List UsedHelper) (h : Helper) → (is_found found h ≡ true) ↔ Contains found (as_used h)
found_tells found h = is_member-Decides used_decides found (as_used h)
