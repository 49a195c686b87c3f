-- A file that has the functions of methods, and behind them the calls of initializers.
use Rattle.agree_bodies.specs.EmittedMethods.{EmittedMethod}
use Rattle.agree_bodies.specs.Emitted.{module_with}
use Rattle.std.specs.Prelude.{◌≡◌, ℕ, List, [], ◌∷◌, Some}
use Rattle.dispatch_laws.specs.World.{World, member_of}
use Rattle.js_mean.specs.Shows.{file_of}
use Rattle.js_mean.specs.States.{Program}
use Rattle.sj_names.specs.declared.entry_points.EntryPoint.{EntryPoint}
use Rattle.agree_bodies.specs.Methods.{KeepsRules, HaveTypes}
use Rattle.agree_bodies.specs.Built.{Usable}
use Rattle.agree_bodies.specs.Standing.{call_type}
use Rattle.agree_bodies.specs.Once.{NamesOnce}

-- this module as the one file of a public module
abbrev pub program_with : List ℕ → List EmittedMethod → List EntryPoint → Program
program_with id fs es = record { file = file_of id; content = Some (module_with fs es) } ∷ []

-- the method is that of its member in the classes, with the types that its name tells; its body keeps the rules by the second classes, and its names are defined once
pub record IsEmitted (w typing : World) (has : Usable) (e : EmittedMethod) : Type 0 where
  pub found : member_of w e.member.class e.member.namespace e.member.method ≡ Some e.definition
  pub has_body : e.definition.body ≡ Some e.its_body
  pub parameters : HaveTypes e.definition.params e.member.method.params
  pub result_is : e.definition.result ≡ call_type e.member.method.result
  pub rules : KeepsRules typing has e.member.class e.definition e.its_body
  pub names : NamesOnce e.definition e.its_body
