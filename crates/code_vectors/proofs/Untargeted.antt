-- In a world without classes no call has a target.
use Rattle.std.proofs.Common.{◌≡◌, ◌∙◌, List, [], ◌∷◌, None, Result, Ok, Err, IfOk, length, refl, sym, ap, subst}
use Rattle.std.proofs.lemmas.List.{nil_from_length}
use Rattle.std.proofs.lemmas.List.Sorted.{length_permutation}
use Rattle.std.specs.List.Sorted.{IsPermutation}
use Rattle.dispatch_laws.proofs.Emission.{emission_finds_targets}
use Rattle.dispatch_laws.specs.Targets.{at_owner, target_from, target_in, lookup_in}
use Rattle.sj_emit_expr_questions.specs.Laws.{AsEmitted}
use Rattle.sj_emit_expr_questions.specs.Task.{emitted, emitted_view}
use Rattle.ir_mean.specs.Dispatch.{nearest, or_default, chain_of, resolved}
use Rattle.js_tree.specs.declared.items.JsMember.{JsMember}
use Rattle.sj_ask.specs.Answers.{IsAnswer}
use Rattle.sj_ask.specs.Stands.{Stand}
use Rattle.sj_ask.specs.Told.{Told}
use Rattle.sj_core.specs.Terms.{Method}
use Rattle.sj_names.specs.declared.memory.NoMemory.{NoMemory}
use Rattle.sj_names.specs.declared.method_names.Member.{Member}
use Rattle.sj_names.specs.declared.method_names.MethodName.{MethodName}
use Rattle.sj_names.specs.declared.method_names.Namespace.{Namespace}
use Rattle.sj_names.specs.declared.method_names.Namespace.TheVariants.{Public}
use Rattle.sj_world.specs.Known.{Name, Classes}
use Rattle.sj_world.specs.Refusals.{IsInOrder}

none-near : (m : MethodName) (cs : List Name) → nearest [] m cs ≡ None
none-near m [] = refl
none-near m (c ∷ cs) = none-near m cs

none-found : (c : Name) (m : MethodName) → resolved [] c m ≡ None
none-found c m = ap (or_default [] m c) (none-near m (chain_of [] c))

-- each member is its own target there
pub own : (k : Member) → target_in [] k ≡ k
own k = go k.namespace
  where
    go : (n : Namespace) → target_from [] n k ≡ k
    go Public = ap (at_owner k) (none-found k.class k.method)
    go _ = refl

in-order : IsInOrder []
in-order = record { rises = λ i j a b below first second. cc (first) }

module _ (s : Stand) (empty : s.classes ≡ []) where
  -- the function that is emitted there
  pub as-named : (m : Method) (r : Result JsMember NoMemory) (t u : Told) → AsEmitted (IsAnswer s) m r t u → IfOk r (λ f. emitted_view f ≡ emitted (lookup_in []) m)
  as-named m (Err e) t u h = tt
  as-named m (Ok f) t u h = subst (λ (w : Classes). emitted_view f ≡ emitted (lookup_in w) m) empty (emission_finds_targets s (subst IsInOrder (sym empty) in-order) m (emitted_view f) h.log h.comes)

pub no-classes : (given w : Classes) → given ≡ [] → IsPermutation given w → w ≡ []
no-classes given w e h = nil_from_length w (length_permutation given w h ∙ ap length e)
