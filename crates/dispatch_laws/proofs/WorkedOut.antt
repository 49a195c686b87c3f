-- What a method name resolves to in a class is what is worked out for it.
use Rattle.std.proofs.Common.{◌≡◌, ap, ◌∙◌}
use Rattle.ir_mean.specs.Dispatch.{least_class, candidates, default_of, or_default}
use Rattle.sj_names.specs.declared.method_names.MethodName.{MethodName}
use Rattle.ir_mean.specs.Ancestors.{IsAncestor}
use Rattle.ir_mean.specs.Known.{Name, Classes}
use Rattle.ir_mean.specs.Refusals.{IsInOrder}
use Rattle.ir_mean.specs.Resolution.{Answer, by_chain, by_ancestors, ResolvesAbove, by_default, undeclared, declared}
use Rattle.dispatch_laws.specs.Laws.{found_by, TargetsAreWorkedOut}
use Rattle.dispatch_laws.proofs.Chains.{nearest_reached, none_on_chain}
use Rattle.dispatch_laws.proofs.Defaults.{default_found, none_default}

default_worked_out : (w : Classes) (sorted : IsInOrder w) (c : Name) (m : MethodName) (r : Answer) → ResolvesAbove w (IsAncestor w c) m r → default_of w m (least_class (candidates w m c)) ≡ found_by r
default_worked_out w sorted c m r (by_default d owner l) = default_found w m c sorted d owner l
default_worked_out w sorted c m r (undeclared none lacks) = none_default w m c sorted none
default_worked_out w sorted c m r (declared none has) = none_default w m c sorted none

pub targets_are_worked_out : TargetsAreWorkedOut
targets_are_worked_out w sorted c m r (by_chain d owner n) = ap (or_default w m c) (nearest_reached w m c owner d n)
targets_are_worked_out w sorted c m r (by_ancestors _ none above) = ap (or_default w m c) (none_on_chain w m c none) ∙ default_worked_out w sorted c m r above
