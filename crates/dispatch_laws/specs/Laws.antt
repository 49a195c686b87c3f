-- Targets as the meaning of the IR works them out, as a world has them, and as emission finds them.
use Rattle.std.specs.Prelude.{◌≡◌, List, Option, Some, None, Ok}
use Rattle.sj_emit_expr_questions.specs.Task.{Emitted, emitted, emit_task}
use Rattle.ir_mean.specs.Calls.{IsProxyTarget, HasNoProxyTarget}
use Rattle.ir_mean.specs.Dispatch.{Found, resolved, proxy_target}
use Rattle.sj_emit_expr_questions.specs.Answers.{IsAnswer}
use Rattle.sj_emit_expr_questions.specs.Apart.{Exchange}
use Rattle.sj_emit_expr_questions.specs.Runs.{Comes}
use Rattle.sj_emit_expr_questions.specs.Stands.{Stand}
use Rattle.sj_emit_expr_questions.specs.Terms.{Method}
use Rattle.sj_names.specs.declared.memory.NoMemory.{NoMemory}
use Rattle.sj_names.specs.declared.method_names.Member.{Member}
use Rattle.sj_names.specs.declared.method_names.MethodName.{MethodName}
use Rattle.sj_trees.specs.declared.classes.MethodDef.{MethodDef}
use Rattle.ir_mean.specs.Known.{Name, Classes}
use Rattle.ir_mean.specs.Laws.{IsTopped}
use Rattle.ir_mean.specs.Refusals.{IsInOrder}
use Rattle.ir_mean.specs.Resolution.{Answer, target, abstract, missing, Resolves}
use Rattle.dispatch_laws.specs.Targets.{target_in, lookup_in, IsTargetOf}

abbrev pub found_by : Answer → Option Found
found_by (target d owner) = Some (record { owner = owner; method = d })
found_by abstract = None
found_by missing = None

-- what a call resolves to in a world in order is what the meaning of the IR works out
abbrev pub TargetsAreWorkedOut : Type 0
TargetsAreWorkedOut = (w : Classes) → IsInOrder w → (c : Name) (m : MethodName) (r : Answer) → Resolves w c m r → resolved w c m ≡ found_by r

-- the target of a member is what the IR runs where the member is called, if nothing stands above `java.lang.Object`
abbrev pub TargetsRun : Type 0
TargetsRun = (w : Classes) → IsTopped w → (k : Member) → IsTargetOf w k (target_in w k)

-- a reflective call on a class reaches this method, in some class of its chain, or none
abbrev pub IsProxied : Classes → Name → MethodName → Option MethodDef → Type 0
IsProxied w c p None = HasNoProxyTarget w c p
IsProxied w c p (Some d) = (owner : Name) × IsProxyTarget w c p d owner

-- what the meaning of the IR works out for a reflective call on a class, the call reaches
abbrev pub ProxiesAreWorkedOut : Type 0
ProxiesAreWorkedOut = (w : Classes) (c : Name) (p : MethodName) → IsProxied w c p (proxy_target w c p)

-- what emission comes to by the answers of a world in order is the emitted function by the targets and the hijacked classes of that world
abbrev pub EmissionFindsTargets : Type 0
EmissionFindsTargets = (s : Stand) → IsInOrder s.classes → (m : Method) (e : Emitted) (log : List Exchange) → Comes {E = NoMemory} (IsAnswer s) (emit_task m) (Ok e) log → e ≡ emitted (lookup_in s.classes) m
