-- The methods of the bodies that are reachable.
use Rattle.std.specs.Prelude.{◌≡◌, ◌↔◌, List, Some}
use Rattle.std.specs.List.{Contains}
use Rattle.ir_mean.specs.World.{member_of}
use Rattle.sj_names.specs.declared.entry_points.EntryPoint.{EntryPoint}
use Rattle.sj_names.specs.declared.method_names.Member.{Member}
use Rattle.sj_world.specs.Known.{Classes}
use Rattle.sj_world.specs.declared.facts.Fact.TheVariants.{Body}
use Rattle.folder_judging_spec.specs.Reachable.{Reachable}
use Rattle.agree_classes.specs.EmittedMethods.{EmittedMethod, HasFunction, HaveOwnMembers}

-- the definition is that of its member in the classes, and the body is its body
pub record IsFound (w : Classes) (e : EmittedMethod) : Type 0 where
  pub found : member_of w e.member.class e.member.namespace e.member.method ≡ Some e.definition
  pub has_body : e.definition.body ≡ Some e.its_body

-- exactly the members that are needed as bodies, each once, with its definition and its body
pub record AreBodies (w : Classes) (entries : List EntryPoint) (fs : List EmittedMethod) : Type 0 where
  pub exact : (k : Member) → HasFunction fs k ↔ Reachable w entries (Body k)
  pub found : (e : EmittedMethod) → Contains fs e → IsFound w e
  pub own : HaveOwnMembers fs
