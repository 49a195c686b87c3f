-- A world with what is known of its classes.
use Rattle.std.specs.Prelude.{◌≡◌, List, [], ◌++◌, map, refl}
use Rattle.std.specs.Coded.{Coded, code_by, coded×, coded_list}
use Rattle.sj_names.specs.declared.method_names.Member.{Member}
use Rattle.sj_world.specs.contracts.facts.Fact as coded_fact
use Rattle.sj_world.specs.contracts.linked.MethodEntry as coded_entry
use Rattle.sj_world.specs.contracts.worlds.World as coded_world
use Rattle.sj_world.specs.declared.facts.Fact.{Fact}
use Rattle.sj_world.specs.declared.facts.Fact.TheVariants.{Made, Body}
use Rattle.sj_world.specs.declared.linked.MethodEntry.{MethodEntry}
use Rattle.sj_world.specs.Known.{Name, Classes}
use Rattle.sj_world.specs.Refusals.{IsWorldOf}

-- a world, what is known of its classes, and its method entries
pub record Linked : Type 0 where
  pub world : Classes
  pub facts : List Fact
  pub entries : List MethodEntry

abbrev pub linked_code : Coded Linked
linked_code =
    code_by (Classes × (List Fact × List MethodEntry)) (coded× coded_world.the_row.coded (coded× (coded_list coded_fact.the_row.coded) (coded_list coded_entry.the_row.coded))) (λ l. (l.world, (l.facts, l.entries))) (λ p. record { world = p.0; facts = p.1.0; entries = p.1.1 }) (λ _. refl)

-- these classes are made, and these bodies are needed
abbrev pub facts_of : List Name → List Member → List Fact
facts_of made bodies = map Made made ++ map Body bodies

pub record IsLinkedWorldOf (classes : Classes) (made : List Name) (bodies : List Member) (l : Linked) : Type 0 where
  pub world : IsWorldOf classes l.world
  pub facts : l.facts ≡ facts_of made bodies
  pub entries : l.entries ≡ []
