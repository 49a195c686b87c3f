-- Each body that is needed in a folder is defined and has a body.
use Rattle.std.proofs.Common.{◌≡◌, List, sym, subst}
use Rattle.sj_names.specs.declared.entry_points.EntryPoint.{EntryPoint}
use Rattle.sj_world.specs.Known.{Classes}
use Rattle.sj_world.specs.Linked.{Linked}
use Rattle.sj_world.specs.declared.facts.Fact.TheVariants as fact
use Rattle.sj_reach.specs.Answers.{AreReachable}
use Rattle.folder_judging_spec.specs.Stages.{IsDefined, KeepRules}
use Rattle.folder_judging_spec.proofs.Defined.{reached_is_defined}
use Rattle.folder_judging.specs.Types.{AreDefined}

pub all_defined : (w : Classes) (entries : List EntryPoint) (l : Linked) → KeepRules w → l.world ≡ w → AreReachable w entries l.facts → AreDefined l
all_defined w entries l keep is reached = record { each = λ k needed. subst (λ (v : Classes). IsDefined v k) (sym is) (reached_is_defined w entries keep reached.resolved k ((reached.exact (fact.Body k)).0 needed)) }
