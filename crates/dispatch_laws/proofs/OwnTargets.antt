-- A member is what a call of itself runs, where its class has it with a body.
use Rattle.std.proofs.Common.{refl}
use Rattle.dispatch_laws.specs.Targets.{IsTargetOf}
use Rattle.ir_mean.proofs.TargetsFound.{target_found}
use Rattle.sj_emit_expr_questions.specs.Lookup.{Lookup}
use Rattle.sj_emit_expr_questions.specs.Templates.{called_member}
use Rattle.sj_names.specs.declared.method_names.Member.{Member}
use Rattle.sj_names.specs.declared.method_names.Namespace.{Namespace}
use Rattle.sj_names.specs.declared.method_names.Namespace.TheVariants.{Public}
use Rattle.ir_mean.specs.Known.{Classes}
use Rattle.ir_mean.specs.Subtypes.{equal}

pub own_target : (w : Classes) (m : Member) → IsTargetOf w m m
own_target w m = record { namespace = refl; method = refl; above = equal refl; runs = λ d e has_body found. target_found w m.class m.namespace m.method d e has_body found }

-- what is called is the target of the member, where those of public members are
pub called_target : (w : Classes) (known : Lookup) (Can : Member → Type 0) → ((m : Member) → Can (known.target m) → IsTargetOf w m (known.target m)) → (n : Namespace) (m : Member) → Can (called_member known n m) → IsTargetOf w m (called_member known n m)
called_target w known Can all Public m can = all m can
called_target w known Can all _ m can = own_target w m
