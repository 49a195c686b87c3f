-- What a call of a member on a receiver runs in a world, and what is known of it.
use Rattle.std.specs.Prelude.{◌≡◌, Bool, Option, Some, None}
use Rattle.std.specs.List.{list_any}
use Rattle.ir_mean.specs.Dispatch.{Found, resolved, is_ancestor}
use Rattle.ir_mean.specs.Meaning.{static_target}
use Rattle.ir_mean.specs.World.{member_of}
use Rattle.sj_emit_expr_questions.specs.Lookup.{Lookup}
use Rattle.sj_names.specs.declared.method_names.Member.{Member}
use Rattle.sj_names.specs.declared.method_names.Namespace.{Namespace}
use Rattle.sj_names.specs.declared.method_names.Namespace.TheVariants.{Public}
use Rattle.sj_trees.specs.Term.{Term}
use Rattle.sj_trees.specs.Types.{class_type}
use Rattle.sj_trees.specs.declared.classes.MethodDef.{MethodDef}
use Rattle.ir_mean.specs.Known.{Name, Classes, hijacked}
use Rattle.ir_mean.specs.Subtypes.{IsSub}

abbrev pub at_owner : Member → Option Found → Member
at_owner k None = k
at_owner k (Some found) = record k { class = found.owner }

abbrev pub target_from : Classes → Namespace → Member → Member
target_from w Public k = at_owner k (resolved w k.class k.method)
target_from w _ k = k

-- the member whose body a call of a public member runs, as resolution finds it; any other member itself, and so one that has no target
abbrev pub target_in : Classes → Member → Member
target_in w k = target_from w k.namespace k

-- a hijacked class is the class, or stands below it
abbrev pub has_hijacked_in : Classes → Name → Bool
has_hijacked_in w c = list_any (λ h. is_ancestor w h c) hijacked

abbrev pub lookup_in : Classes → Lookup
lookup_in w = record { target = target_in w; has_hijacked = has_hijacked_in w }

-- the one member is what a call of the other runs: it has its name, in a class at or above the other's, and where it has a body the IR runs that
pub record IsTargetOf (w : Classes) (k target : Member) : Type 0 where
  pub namespace : target.namespace ≡ k.namespace
  pub method : target.method ≡ k.method
  pub above : IsSub w (class_type k.class) (class_type target.class)
  pub runs : (d : MethodDef) (e : Term) → d.body ≡ Some e → member_of w target.class target.namespace target.method ≡ Some d → static_target w k.class k.namespace k.method ≡ Some d
