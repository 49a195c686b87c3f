-- What a method name resolves to for a class: on its chain, else above it.
use Rattle.std.proofs.Common.{◌≡◌, Option, Some, None, refl, inl, inr}
use Rattle.std.specs.Prelude.{◌⊎◌}
use Rattle.ir_mean.specs.Dispatch.{chain_of, Found, nearest}
use Rattle.sj_names.specs.declared.method_names.MethodName.{MethodName}
use Rattle.sj_world.specs.Ancestors.{IsAncestor}
use Rattle.sj_world.specs.Known.{Name, Classes}
use Rattle.sj_world.specs.Refusals.{IsInOrder}
use Rattle.sj_world.specs.Resolution.{HasNoneOnChain, HasNoCandidate, IsDeclared, target, abstract, missing, by_chain, by_ancestors, by_default, undeclared, declared}
use Rattle.resolution_laws.specs.Laws.{HasAnswer, EachCallResolves}
use Rattle.resolution_laws.proofs.Chains.{nearest_right, none_right}
use Rattle.resolution_laws.proofs.Decisions.{Decided}
use Rattle.resolution_laws.proofs.Declared.{declared_decided}
use Rattle.resolution_laws.proofs.Defaults.{HasLeast, least_or_none}

module _ (w : Classes) (sorted : IsInOrder w) (c : Name) (m : MethodName) where
  by_declared : HasNoneOnChain w c m → HasNoCandidate w (IsAncestor w c) m → Decided (IsDeclared w (IsAncestor w c) m) → HasAnswer w c m
  by_declared none lacks (inl has) = record { answer = abstract; resolves = by_ancestors abstract none (declared lacks has) }
  by_declared none lacks (inr not) = record { answer = missing; resolves = by_ancestors missing none (undeclared lacks not) }

  above : HasNoneOnChain w c m → HasLeast w m c ⊎ HasNoCandidate w (IsAncestor w c) m → HasAnswer w c m
  above none (inl l) = record { answer = target l.method l.owner; resolves = by_ancestors (target l.method l.owner) none (by_default l.method l.owner l.least) }
  above none (inr lacks) = by_declared none lacks (declared_decided m w c)

  has_answer : (o : Option Found) → nearest w m (chain_of w c) ≡ o → HasAnswer w c m
  has_answer (Some f) e = record { answer = target f.method f.owner; resolves = by_chain f.method f.owner (nearest_right w c m f e) }
  has_answer None e = above (none_right w c m e) (least_or_none w m c sorted)

pub each_call_resolves : EachCallResolves
each_call_resolves w sorted c m = has_answer w sorted c m (nearest w m (chain_of w c)) refl
