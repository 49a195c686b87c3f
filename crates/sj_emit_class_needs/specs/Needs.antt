-- What code classes need.
use Rattle.std.specs.Prelude.{◌≡◌, Bool, true, false, List, Option, Some, None, Contains, ◌↔◌}
use Rattle.sj_names.specs.declared.method_names.Member.{Member}
use Rattle.sj_trees.specs.declared.classes.MethodDef.{MethodDef}
use Rattle.sj_infos.specs.Forms.{forms_by}
use Rattle.sj_infos.specs.declared.forms.BodyForm.{BodyForm}
use Rattle.sj_infos.specs.declared.forms.BodyForm.TheVariants as forms
use Rattle.sj_world.specs.Ancestors.{IsOnChain}
use Rattle.sj_world.specs.Known.{Name, Classes}
use Rattle.sj_world.specs.Members.{IsMethodOf}
use Rattle.sj_world.specs.declared.facts.Fact.{Fact}
use Rattle.sj_world.specs.declared.facts.Fact.TheVariants as facts
use Rattle.sj_emit_class_needs.specs.declared.needs.ClassNeed.{ClassNeed}
use Rattle.sj_emit_class_needs.specs.declared.needs.ClassNeed.TheVariants as needs

-- what a form of a body needs of a class
abbrev pub need_of : BodyForm → Option ClassNeed
need_of (forms.Test c) = Some (needs.Test c)
need_of (forms.Cast c) = Some (needs.Cast c)
need_of (forms.Base c) = Some (needs.Base c)
need_of (forms.Load c) = Some (needs.Load c)
need_of (forms.Store c) = Some (needs.Store c)
need_of (forms.Reflective m) = None

-- the need of a form that the method has
pub record IsNeedIn (listed : List BodyForm) (n : ClassNeed) : Type 0 where
  pub form : BodyForm
  pub has : Contains listed form
  pub need_is : need_of form ≡ Some n

-- the need of a form of the body of this member
pub record IsNeedOf (w : Classes) (member : Member) (n : ClassNeed) : Type 0 where
  pub definition : MethodDef
  pub defined : IsMethodOf w member definition
  pub has : IsNeedIn (forms_by definition) n

pub record IsLiveBy (w : Classes) (made : Name) (n : ClassNeed) : Type 0 where
  pub class : Name
  pub on_chain : IsOnChain w made class
  pub need_is : needs.Live class ≡ n

abbrev pub IsStaticBy : Name → Name → Bool → ClassNeed → Type 0
IsStaticBy c f true n = needs.Static c f ≡ n
IsStaticBy c f false n = ⊥

-- what a fact needs of a class
abbrev pub IsNeedBy : Classes → Fact → ClassNeed → Type 0
IsNeedBy w (facts.Body member) n = IsNeedOf w member n
IsNeedBy w (facts.NeededField c f mark) n = IsStaticBy c f mark n
IsNeedBy w (facts.Made c) n = IsLiveBy w c n
IsNeedBy w _ n = ⊥

-- one of the facts needs it
pub record IsNeed (w : Classes) (known : List Fact) (n : ClassNeed) : Type 0 where
  pub fact : Fact
  pub among : Contains known fact
  pub needs : IsNeedBy w fact n

-- exactly what is needed
pub record AreNeeds (w : Classes) (known : List Fact) (listed : List ClassNeed) : Type 0 where
  pub exact : (n : ClassNeed) → Contains listed n ↔ IsNeed w known n
