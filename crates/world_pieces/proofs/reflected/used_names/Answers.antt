use Rattle.std.proofs.Common.{List, Contains, subst, sym}
use Rattle.std.specs.Prelude.{◌↔◌}
use Rattle.std.proofs.lemmas.Result.{IfOk-weaker}
use Rattle.sj_baselink.specs.Steps.{OfOne, AreReflective}
use Rattle.sj_mangling.specs.declared.bindings.MethodBinding.TheVariants.{Reflective}
use Rattle.sj_names.specs.declared.method_names.MethodName.{MethodName}
use Rattle.sj_world.specs.Known.{Classes}
use Rattle.sj_world.specs.declared.facts.Fact.{Fact}
use Rattle.world_pieces.specs.Told.{IsUsedMethod, IsUsedName}
use Rattle.world_pieces.proofs.ToldPieces.{names_used}
use Rattle.world_pieces.proofs.reflected.used_names.Goals as goal

pub returns-clause-exact : goal.returns-clause-exact
returns-clause-exact c =
    let l = c.args.linked.now in
    let words = c.args.words.now.keys in
    let called = c.in_ok-called.called.keys in
    let names = c.in_ok-names.names.items in
    let used = c.in_ok-used.used.keys in
    let reflective = subst (λ (fs : List Fact). AreReflective l.world fs called) c.facts.ensures (subst (λ (w : Classes). AreReflective w c.facts.result.now called) c.world.ensures c.in_ok-called.ensures) in
    let put = subst (λ (ns : List MethodName). (p : MethodName) → Contains used p ↔ OfOne ns (IsUsedMethod Reflective words) p) c.deref.ensures.value c.in_ok-used.ensures in
    let are = names_used l words called names used reflective c.in_ok-names.ensures.all put in
    IfOk-weaker c.listed-2.result _ _ (λ list all. subst (λ (ns : List MethodName). (p : MethodName) → Contains ns p ↔ IsUsedName l words p) (sym all) are) c.listed-2.ensures.all
